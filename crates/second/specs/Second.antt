-- A bowl as a second objective. It asks for no evaluations.
use Rattle.std.specs.Prelude.{◌≡◌, cond, List, [], ◌∷◌, ℕ, get_or, Float, None, Result, Ok, Err}
use Rattle.std.proofs.Common.{zero-le}
use Rattle.std.specs.Float.{nan}
use Rattle.num.specs.F64.{◌⊕◌, ◌⊖◌, ◌⊗◌, zero·, one·, two·}
use Rattle.num.specs.Helpers.{is_finite_of}
use Rattle.work.specs.declared.Refusal.TheVariants.{Domain}
use Rattle.work.specs.Ended.{domain}
use Rattle.work.specs.Work.{Work, ret, stop, metered}
use Rattle.work.specs.Metered.{split}
use Rattle.value.specs.declared.Totals.{Totals}
use Rattle.course.specs.declared.NoValue.{NoValue}
use Rattle.course.specs.declared.Answer.{Answer}
use Rattle.course.specs.Course.{answer_in}
use Rattle.course.specs.Drives.{Lawful}

abbrev pub at : ℕ → ℕ
at n = n

abbrev across : List Float → Float
across x = get_or x 0 nan ⊖ one·

abbrev along : List Float → Float
along x = get_or x 2 nan

unfoldable pub height : List Float → Float
height x = across x ⊗ across x ⊕ along x ⊗ along x

abbrev pub bowl : List Float → Totals
bowl x =
    let o = zero· in
    record {
      nll = height x;
      gradient = two· ⊗ across x ∷ o ∷ two· ⊗ along x ∷ o ∷ [];
      hessian = two· ∷ o ∷ o ∷ o ∷ o ∷ o ∷ o ∷ o ∷ o ∷ o ∷ two· ∷ o ∷ o ∷ o ∷ o ∷ o ∷ [];
      refinement = o;
    }

unfoldable pub bowl_at : List Float → Work ℕ ℕ Totals
bowl_at x = cond (is_finite_of (height x)) (ret (bowl x)) (stop (domain 6))

unfoldable pub bowl_at_of : List Float → Result Totals NoValue
bowl_at_of x = cond (is_finite_of (height x)) (Ok (bowl x)) (Err (record { refusal = Domain 6; part = None }))

abbrev pub bowl_answer : ℕ → List Float → Answer
bowl_answer l x = record { used = 0; value = bowl_at_of x }

pub bowl_is : (l : ℕ) (x : List Float) → bowl_answer l x ≡ answer_in (metered at l 0 (bowl_at x)) None
unfolding bowl_at_of bowl_at metered
bowl_is l x = split (is_finite_of (height x)) (λ t. rw t) (λ t. rw t)

pub bowl_laws : {O : Type 0} → Lawful {O = O} (λ o l x. bowl_answer l x) (λ o l. Unit {0}) (λ o p l s u. Unit {0})
bowl_laws = record { within = λ o l x r. zero-le; allows = λ o p l s u k t. tt; keeps = λ o p l s u c k t y. tt }
