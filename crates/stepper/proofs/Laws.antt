-- The laws that the proof of `Plan::propose` goes by: r is what the code answers.
use mathlib.Core.Path.{◌≡◌}
use mathlib.Core.List.{List}
use Prim.Native.Nat.{ℕ, suc, ◌-◌, ◌≤◌, ◌<◌}
use native.Mathlib.Omega.{arith}
use borrow.Author.Tests.{le-leb, lt-leb}
use lib.Ieee.{Float}
use Rattle.descent.specs.declared.Status.{Status}
use Rattle.descent.specs.declared.Trial.{Trial}
use Rattle.descent.specs.declared.Trial.TheVariants.{CutOff}
use Rattle.trial.specs.declared.watch.Watch.{Watch}
use Rattle.trial.specs.Watch.{noted_of}
use Rattle.stepper.specs.declared.Plan.{Plan}
use Rattle.stepper.specs.declared.Stepper.{Stepper}
use Rattle.std.specs.Prelude.{Result, Ok, Err}
use Rattle.stepper.specs.Machine.{over_of, halved_of, awaiting_of, failed_of, offered_of, propose_from}

one_left : (n : ℕ) → 0 < n → n ≡ suc (n - 1)
one_left n h = omega arith

module _ (p : Plan) (whole : Stepper) (n : ℕ) (s : Stepper) where
  pub propose_done : propose_from p n s ≡ whole → n ≤ 0 → (r : Stepper) (a : Status) → a ≡ failed_of p.most.0 s.evaluations.0 → r ≡ over_of a s s.watch → r ≡ whole
  unfolding propose_from
  propose_done i h r a e u = let z : n ≡ 0 = omega arith in rw (u, e) (rw z at i)

  module _ (i : propose_from p n s ≡ whole) (h : 0 < n) where
    pub propose_cut : (r : Stepper) (a : Status) (w : Watch) → p.most.0 ≤ s.evaluations.0 → a ≡ failed_of p.most.0 s.evaluations.0 → w ≡ noted_of CutOff s.watch → r ≡ over_of a s w → r ≡ whole
    unfolding propose_from
    propose_cut r a w g e f u = rw (u, e, f) (rw (one_left n h, le-leb _ _ g) at i)

    module _ (g : s.evaluations.0 < p.most.0) (o : Result (List Float) Trial) (e : o ≡ offered_of p s) where
      pub propose_asks : (next : List Float) (r : Stepper) → o ≡ Ok next → r ≡ awaiting_of s p.most.0 (n - 1) next → r ≡ whole
      unfolding propose_from
      propose_asks next r y u = rw u (rw (one_left n h, lt-leb _ _ g, ← e, y) at i)

      pub propose_turn : (t : Trial) (q : Stepper) → o ≡ Err t → q ≡ halved_of s t → propose_from p (n - 1) q ≡ whole
      unfolding propose_from
      propose_turn t q y u = rw u (rw (one_left n h, lt-leb _ _ g, ← e, y) at i)
