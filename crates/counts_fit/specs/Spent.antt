-- The evaluations of a state of the stepper count the value that it awaits; hence what the passes come to on the way.
use Rattle.std.specs.Prelude.{◌≡◌, refl, Bool, true, false, cond, ◌||◌, List, leb, Float}
use Prim.Native.Nat.{ℕ, zero, suc, ◌+◌, ◌*◌, ◌≤◌, ◌<◌}
use Rattle.std.proofs.Common.{mul-le-mul, arith}
use borrow.Author.Tests.{leb-false}
use Rattle.std.specs.Float.Ieee.{le}
use Rattle.num.specs.F64.{zero·}
use Rattle.stepper.specs.declared.Phase.{Phase}
use Rattle.stepper.specs.declared.Phase.TheVariants.{AtStart, AtTrial, Over}
use Rattle.stepper.specs.Stands.{one_more}
use Rattle.work.specs.Metered.{split}
use Rattle.descent.specs.Status.{taken_of}
use Rattle.value.specs.declared.Totals.{Totals}
use Rattle.step.specs.Step.{still_of}
use Rattle.trial.specs.declared.watch.Watch.{Watch}
use Rattle.trial.specs.Judged.{norm_at_of, judged_of, idle_of}
use Rattle.trial.specs.Watch.{noted_of}
use Rattle.stepper.specs.declared.Plan.{Plan}
use Rattle.stepper.specs.declared.Stepper.{Stepper}
use Rattle.stepper.specs.Machine.{awaits_of, by_phase, direction_at_of, one_more_of, begin_of, line_of, halved_of, next_of, slope_at, offered_of, propose_from, propose_of, arrive_of, tell_of}

impossible : {Z : Type 0} → ◌≡◌ {A = Bool} false true → Z
impossible e = let z : ◌≡◌ {A = ℕ} 0 1 = cc in absurd (omega arith)

chosen : {A : Type 0} (P : A → Type 0) (b : Bool) {x y : A} → (b ≡ true → P x) → (b ≡ false → P y) → P (cond b x y)
chosen P true f g = f refl
chosen P false f g = g refl

module _ (p : Plan) where
  -- a state that awaits a value, reached with e evaluations behind it, has one more
  abbrev More : ℕ → Stepper → Type 0
  More e s = awaits_of s.phase ≡ true → (s.evaluations.0 ≡ e + 1) × (e < p.most.0)

  proposes : (n : ℕ) (s : Stepper) → More s.evaluations.0 (propose_from p n s)
  unfolding propose_from offered_of
  proposes zero s = λ t. impossible t
  proposes (suc n) s =
      let e = s.evaluations.0 in
      chosen (More e) (leb p.most.0 e) (λ h. λ t. impossible t)
      (λ h.
      split (le zero· (slope_at p s) || still_of (next_of p s) s.x) (λ i. rw i (proposes n (halved_of s (idle_of (slope_at p s)))))
      (λ i. rw i (λ t. (one_more e p.most.0 (leb-false p.most.0 e h), leb-false p.most.0 e h))))

  arrives : (x : List Float) (v : Totals) (e k : ℕ) (w : Watch) → More e (arrive_of p x v e k w)
  unfolding arrive_of propose_of
  arrives x v e k w =
      let s = line_of (direction_at_of p.region.lo p.region.hi x v) x v e k w in
      chosen (More e) (le (norm_at_of p.region.lo p.region.hi x v) p.tolerance) (λ h. λ t. impossible t)
      (λ h.
      chosen (More e) (leb p.most.0 e) (λ h. λ t. impossible t)
      (λ h. chosen (More e) (leb p.turns.0 k) (λ h. λ t. impossible t) (λ h. proposes 48 s)))

  phased : (P : Stepper → Type 0) (f : Phase) {x y : Stepper} → P x → P y → P (by_phase f x y y)
  phased P AtStart h k = h
  phased P AtTrial h k = k
  phased P (Over _) h k = k

  tells : (s : Stepper) (c : Totals) → More s.evaluations.0 (tell_of p s c)
  unfolding tell_of propose_of
  tells s c =
      let e = s.evaluations.0 in
      let j = judged_of p.region.lo p.region.hi s.x s.v s.next c in
      phased (More e) s.phase (arrives s.next c e s.iterations.0 s.watch)
      (chosen (More e) (taken_of j) (λ h. arrives s.next c e (one_more_of s.iterations.0 p.turns.0) (noted_of j s.watch)) (λ h. proposes s.left (halved_of s j)))

-- ---- with n passes for each evaluation: those before the one that is awaited

abbrev pub Within : ℕ → ℕ → Stepper → ℕ → Type 0
Within most n s used = awaits_of s.phase ≡ true → (used + n ≡ s.evaluations.0 * n) × (s.evaluations.0 ≤ most)

pub within_begun : (most n : ℕ) (x : List Float) (s : Stepper) → s ≡ begin_of x 0 → 1 ≤ most → Within most n s 0
within_begun most n x s e h = rw e (λ t. (omega arith, h))

-- the next call's passes fit
pub within_room : (most l n : ℕ) (s : Stepper) (used : ℕ) → Within most n s used → awaits_of s.phase ≡ true → most * n ≤ l → used + n ≤ l
within_room most l n s used w t h = let g = w t in let k : s.evaluations.0 * n ≤ most * n = mul-le-mul g.1 (omega arith) in omega (arith, g.0)

told_on : (n used e e' : ℕ) → used + n ≡ e * n → e' ≡ e + 1 → used + n + n ≡ e' * n
told_on n used e e' h g = rw (h, g) (omega arith)

pub within_told : (p : Plan) (n : ℕ) (s q : Stepper) (c : Totals) (used : ℕ) → Within p.most.0 n s used → awaits_of s.phase ≡ true → q ≡ tell_of p s c → Within p.most.0 n q (used + n)
within_told p n s q c used w t g =
    rw g (λ u. let m = tells p s c u in (told_on n used s.evaluations.0 (tell_of p s c).evaluations.0 (w t).0 m.0, omega (arith, m.0, m.1)))
