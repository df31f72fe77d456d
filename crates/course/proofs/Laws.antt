-- The laws that the proof of `run` goes by: a is what the objective answered at the state s, with u used before.
use Rattle.std.proofs.Common.{◌≡◌, refl, true, ℕ, List, ◌+◌, ◌-◌, ◌≤◌, Float, Ok, arith}
use Rattle.descent.specs.declared.Status.{Status}
use Rattle.value.specs.declared.Totals.{Totals}
use Rattle.stepper.specs.declared.Phase.{Phase}
use Rattle.stepper.specs.declared.Phase.TheVariants.{AtStart, AtTrial, Over}
use Rattle.stepper.specs.declared.Plan.{Plan}
use Rattle.stepper.specs.declared.Stepper.{Stepper}
use Rattle.stepper.specs.Machine.{awaits_of, tell_of}
use Rattle.course.specs.declared.Answer.{Answer}
use Rattle.course.specs.Drives.{Lawful}

pub not_over : (f : Phase) → ((status : Status) → f ≡ Over status → ⊥) → awaits_of f ≡ true
not_over AtStart h = refl
not_over AtTrial h = refl
not_over (Over status) h = absurd (h status refl)

module _ {O : Type 0} {answer : O → ℕ → List Float → Answer} {ready : O → ℕ → Type 0} {known : O → Plan → ℕ → Stepper → ℕ → Type 0} (laws : Lawful answer ready known) (o : O) (p : Plan) (l : ℕ) (s : Stepper) (u : ℕ) (k : known o p l s u) (t : awaits_of s.phase ≡ true) (a : Answer) (g : a ≡ answer o (l - u) s.next) where
  pub fits : u ≤ l → u + a.used ≤ l
  fits h = let w = laws.within o (l - u) s.next (laws.allows o p l s u k t) in rw g (omega (arith, w))

  pub kept : (c : Totals) → a.value ≡ Ok c → (q : Stepper) → q ≡ tell_of p s c → known o p l q (u + a.used)
  kept c y q r = rw (g, r) (laws.keeps o p l s u c k t (rw g at y))
