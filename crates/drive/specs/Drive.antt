-- The descent at this objective, under a limit; and the litter at which it is refused.
use Rattle.std.specs.Prelude.{◌≡◌, refl, List, ℕ, ◌≤◌, Float, Option, Result, Ok, Err}
use Rattle.std.proofs.Common.{zero-le}
use Rattle.work.specs.Answer.{outcome}
use Rattle.work.specs.Ended.{Ended, done, stopped, short}
use Rattle.work.specs.Metered.{within}
use Rattle.work.specs.Work.{Work, metered}
use Rattle.work.specs.Through.{Open, through, driven, driven_is}
use Rattle.legendre.specs.declared.Pair.{Pair}
use Rattle.posterior.specs.declared.integrand.Point.{Point}
use Rattle.posterior.specs.Integrand.{Eval, at}
use Rattle.value.specs.declared.Totals.{Totals}
use Rattle.objective.specs.declared.sum.Objective.{Objective}
use Rattle.objective.specs.declared.sum.Named.{Named}
use Rattle.objective.specs.Objective.{objective}
use Rattle.objective.specs.Named.{Litter, share_for, asked, numbered, asked_is, told_open, named_objective_of}
use Rattle.row.specs.declared.share.Share.{Share}
use Rattle.descent.specs.Descent.{Descended, descent}
use Rattle.stepper.specs.declared.Plan.{Plan}
use Rattle.stepper.specs.Machine.{problem_of}
use Rattle.course.specs.declared.Answer.{Answer}
use Rattle.course.specs.declared.Course.{Course}
use Rattle.course.specs.Course.{answer_in}
use Rattle.course.specs.Drives.{Lawful, course_by, course_of, course_is}
use Rattle.course.specs.Parts.{part_at, part_after, parts_are}

abbrev pub value_at : List Pair → List ℕ → List Float → Work Eval Point Totals
value_at rule ls x = objective rule x ls

-- the descent as one computation that asks for the litters' shares, each by its point and its number
unfoldable pub asked_descent : List ℕ → Plan → List Float → Work Litter Share (Descended (List Float) Totals)
asked_descent ls p x = through (λ q. asked q.at ls) (descent (problem_of p) x)

-- the refused question names the litter
unfoldable pub refused_litter : List Pair → List ℕ → Plan → ℕ → List Float → Option ℕ
refused_litter rule ls p l x = numbered (driven at (share_for rule ls) l 0 (asked_descent ls p x)).asked

-- with the n-th trial watched
unfoldable pub run_of : List Pair → List ℕ → Plan → ℕ → ℕ → List Float → Course
run_of rule ls p l n x = course_of at (value_at rule ls) l n p (refused_litter rule ls p l x) x

-- ---- what the code's objective gives, with the litter at which it was refused

abbrev pub answered_of : Result Objective Named → Answer
answered_of (Ok o) = record { used = o.used.0; value = Ok o.v }
answered_of (Err n) = record { used = n.refused.used.0; value = Err (record { refusal = n.refused.refusal; part = n.litter }) }

by_told : (e : Ended Totals) (n : ℕ) (q : Open Litter) → answered_of (told_open (outcome e) n q) ≡ answer_in (record { ended = e; used = n }) (numbered q)
by_told (done t) n q = refl
by_told (stopped r) n q = refl
by_told short n q = refl

module _ (rule : List Pair) (ls : List ℕ) where
  abbrev pub answer_at : ℕ → List Float → Answer
  answer_at l x = answered_of (named_objective_of rule x ls (record { 0 = l }))

  answer_is : (l : ℕ) (x : List Float) → answer_at l x ≡ answer_in (metered at l 0 (value_at rule ls x)) (part_at at (share_for rule ls) (λ x. asked x ls) l numbered l x)
  unfolding named_objective_of
  answer_is l x =
      let d = driven at (share_for rule ls) l 0 (asked x ls) in
      rw (asked_is rule x ls, driven_is at (share_for rule ls) l 0 (asked x ls)) (by_told d.ended d.used d.asked)

  pub answer_within : (l : ℕ) (x : List Float) → (answer_at l x).used ≤ l
  answer_within l x = rw (answer_is l x) (within at l 0 (objective rule x ls) zero-le)

  pub course_at : (p : Plan) (l n : ℕ) (x : List Float) → course_by answer_at l n p x ≡ run_of rule ls p l n x
  unfolding run_of refused_litter asked_descent
  course_at p l n x =
      course_is at (value_at rule ls) l n (λ l x. part_at at (share_for rule ls) (λ x. asked x ls) l numbered l x) (part_after at (share_for rule ls) (λ x. asked x ls) l numbered)
      (parts_are at (share_for rule ls) (λ x. asked x ls) l numbered (value_at rule ls) (λ x. asked_is rule x ls) refl n) answer_at answer_is p x

-- they keep within their limit, and ask nothing more of what is known
pub drive_laws : {O : Type 0} (rule : O → List Pair) (ls : O → List ℕ) → Lawful {O = O} (λ o l x. answer_at (rule o) (ls o) l x) (λ o l. Unit {0}) (λ o p l s u. Unit {0})
drive_laws rule ls = record { within = λ o l x r. answer_within (rule o) (ls o) l x; allows = λ o p l s u k t. tt; keeps = λ o p l s u c k t y. tt }
