-- A successful answer has every marked interval finite, positive and increasing.
use Rattle.std.specs.Prelude.{◌≡◌, Bool, true, false, ◌&&◌, cond, List, length, set, replicate, Float, Result, Ok, Err, is_ok}
use Rattle.std.proofs.Math.Path.{refl, ap, subst}
use Rattle.std.proofs.Common.{sym, ◌∙◌, true≢false, arith, add-zero, zero-add, length-set, get_or-set_same, get_or-set_other}
use Prim.Native.Nat.{ℕ, zero, suc, ◌+◌, ◌*◌, ◌≤◌, ◌<◌}
use Rattle.std.proofs.Math.ListN.{get_or}
use Rattle.std.specs.Float.{nan, inf, fin}
use Rattle.std.specs.Float.Ieee.{lt, le, of_bits}
use Rattle.num.specs.Both.{and_left, and_right}
use Rattle.num.specs.F64.{zero·, ◌⊘◌}
use Rattle.num.specs.Helpers.{is_finite_of}
use Rattle.intervals.specs.declared.interval.Interval.{Interval}
use Rattle.intervals.specs.declared.interval.Refusal.{Refusal}
use Rattle.intervals.specs.declared.interval.Refusal.TheVariants.{InvalidInput, Unsupported}
use Rattle.finite.specs.Finite.{all_finite_of}
use Rattle.intervals.specs.Shape.{shaped_of, marked_of}
use Rattle.intervals.specs.Passed.{few}
use Rattle.intervals.specs.Factor.{Factored, factored_of}
use Rattle.intervals.specs.Interval.{proper_of, judged_of, transformed_of, log_interval_of, asked_of}
use Rattle.intervals.specs.Intervals.{onward, placed_of, collected_from, collected_of, factored_first, intervals_of}

pub record Proper (lower upper : Float) : Type 0 where
  pub positive : lt zero· lower ≡ true
  pub increasing : lt lower upper ≡ true
  pub finite_lower : is_finite_of lower ≡ true
  pub finite_upper : is_finite_of upper ≡ true

-- what lies above zero and below another number is finite
between : (x y : Float) → lt zero· x ≡ true → lt x y ≡ true → is_finite_of x ≡ true
unfolding lt of_bits is_finite_of
between nan y a b = absurd (true≢false (sym a))
between (inf true) y a b = absurd (true≢false (sym a))
between (inf false) nan a b = absurd (true≢false (sym b))
between (inf false) (inf true) a b = absurd (true≢false (sym b))
between (inf false) (inf false) a b = absurd (true≢false (sym b))
between (inf false) (fin s m e) a b = absurd (true≢false (sym b))
between (fin s m e) y a b = refl

passed : (error lower upper : Float) → proper_of error lower upper ≡ true → Proper lower upper
unfolding proper_of
passed error lower upper h =
    let k = and_right (is_finite_of error) ((lt zero· lower && lt lower upper) && is_finite_of upper) h in
    let o = and_left (lt zero· lower && lt lower upper) (is_finite_of upper) k in
    let a = and_left (lt zero· lower) (lt lower upper) o in
    let b = and_right (lt zero· lower) (lt lower upper) o in
    record { positive = a; increasing = b; finite_lower = between lower upper a b; finite_upper = and_right (lt zero· lower && lt lower upper) (is_finite_of upper) k }

-- ---- what a result that is an answer says

-- the answer of a result, and another of a refusal
abbrev ok_or : {A : Type 0} → A → Result A Refusal → A
ok_or other (Ok a) = a
ok_or other (Err e) = other

ok_same : {A : Type 0} (a b : A) → ◌≡◌ {A = Result A Refusal} (Ok a) (Ok b) → a ≡ b
ok_same a b h = ap (ok_or a) h

no_answer : {A : Type 0} (e : Refusal) (a : A) → ◌≡◌ {A = Result A Refusal} (Err e) (Ok a) → ⊥
no_answer e a h = true≢false (sym (ap is_ok h))

went : {A B : Type 0} (f : A → Result B Refusal) (r : Result A Refusal) (b : B) → onward f r ≡ Ok b → (a : A) × (r ≡ Ok a) × (f a ≡ Ok b)
went f (Ok a) b h = (a, refl, h)
went f (Err e) b h = absurd (no_answer e b h)

accept : {A : Type 0} (t : Bool) (r : Result A Refusal) (e : Refusal) (a : A) → cond t r (Err e) ≡ Ok a → (t ≡ true) × (r ≡ Ok a)
accept true r e a h = (refl, h)
accept false r e a h = absurd (no_answer e a h)

factor_there : (o : Factored) (r : Result (List Float) Refusal) (a : List Float) → factored_first o r ≡ Ok a → r ≡ Ok a
factor_there (Ok lower) r a h = h
factor_there (Err lower) r a h = absurd (no_answer InvalidInput a h)

-- ---- one interval

abbrev IsProper : Result Interval Refusal → Type 0
IsProper r = (v : Interval) → r ≡ Ok v → Proper v.lower v.upper

refused_proper : (e : Refusal) → IsProper (Err e)
refused_proper e v h = absurd (no_answer e v h)

by_test : (t : Bool) (r s : Result Interval Refusal) → (t ≡ true → IsProper r) → (t ≡ false → IsProper s) → IsProper (cond t r s)
by_test true r s p q = p refl
by_test false r s p q = q refl

judged_proper : (error lower upper : Float) → IsProper (judged_of error lower upper)
unfolding judged_of
judged_proper error lower upper =
    by_test (proper_of error lower upper) _ (Err Unsupported)
    (λ h v e. subst (λ (x : Interval). Proper x.lower x.upper) (ok_same (record { error = error; lower = lower; upper = upper }) v e) (passed error lower upper h))
    (λ h. refused_proper Unsupported)

pub interval_proper : (estimate error : Float) → IsProper (log_interval_of estimate error)
unfolding log_interval_of
interval_proper estimate error =
    by_test (is_finite_of estimate) _ (Err InvalidInput)
    (λ h. by_test (le estimate zero·) (Err InvalidInput) (transformed_of estimate (error ⊘ estimate)) (λ k. refused_proper InvalidInput) (λ k. judged_proper _ _ _))
    (λ h. refused_proper InvalidInput)

asked_proper : (t : Bool) (estimate error : Float) → t ≡ true → IsProper (asked_of t estimate error)
unfolding asked_of
asked_proper true estimate error h = interval_proper estimate error
asked_proper false estimate error h = absurd (true≢false (sym h))

-- ---- the places of the answer

module _ (numbers : List Float) (i : ℕ) (v : Interval) where
  abbrev first : List Float
  first = set numbers (3 * i) v.error

  abbrev second : List Float
  second = set first (3 * i + 1) v.lower

  pub placed_length : length (placed_of numbers i v) ≡ length numbers
  placed_length = simp length-set

  pub placed_before : (p : ℕ) → p < 3 * i → get_or (placed_of numbers i v) p nan ≡ get_or numbers p nan
  placed_before p h =
      get_or-set_other second (3 * i + 2) p v.upper nan (λ e. absurd (omega arith)) ∙ get_or-set_other first (3 * i + 1) p v.lower nan (λ e. absurd (omega arith)) ∙
      get_or-set_other numbers (3 * i) p v.error nan (λ e. absurd (omega arith))

  module _ (room : 3 * i + 2 < length numbers) where
    pub placed_lower : get_or (placed_of numbers i v) (3 * i + 1) nan ≡ v.lower
    placed_lower =
        get_or-set_other second (3 * i + 2) (3 * i + 1) v.upper nan (λ e. absurd (omega arith)) ∙
        get_or-set_same first (3 * i + 1) v.lower nan (rw (length-set numbers (3 * i) v.error) (omega arith))

    pub placed_upper : get_or (placed_of numbers i v) (3 * i + 2) nan ≡ v.upper
    placed_upper = get_or-set_same second (3 * i + 2) v.upper nan (rw (length-set first (3 * i + 1) v.lower, length-set numbers (3 * i) v.error) room)

module _ (estimates errors : List Float) (marks : ℕ) where
  abbrev at : ℕ → Result Interval Refusal
  at i = asked_of (marked_of marks i) (get_or estimates i nan) (get_or errors i nan)

  abbrev from : ℕ → ℕ → List Float → Result (List Float) Refusal
  from m i numbers = collected_from estimates errors marks m i numbers

  step : (m i : ℕ) (numbers all : List Float) → from (suc m) i numbers ≡ Ok all → (v : Interval) × (at i ≡ Ok v) × (from m (i + 1) (placed_of numbers i v) ≡ Ok all)
  unfolding collected_from
  step m i numbers all h = went (λ v. from m (i + 1) (placed_of numbers i v)) (at i) all h

  -- the places before an estimate's are kept
  stays : (m i : ℕ) (numbers all : List Float) (p : ℕ) → p < 3 * i → from m i numbers ≡ Ok all → get_or all p nan ≡ get_or numbers p nan
  unfolding collected_from
  stays zero i numbers all p b h = ap (λ (l : List Float). get_or l p nan) (sym (ok_same numbers all h))
  stays (suc m) i numbers all p b h =
      let s = step m i numbers all h in
      stays m (i + 1) (placed_of numbers i s.0) all p (omega arith) s.2 ∙ placed_before numbers i s.0 p b

  -- an estimate's places hold its own interval
  record Bounds (all : List Float) (k : ℕ) : Type 0 where
    interval : Interval
    is : at k ≡ Ok interval
    lower : get_or all (3 * k + 1) nan ≡ interval.lower
    upper : get_or all (3 * k + 2) nan ≡ interval.upper

  found : (m i d : ℕ) (numbers all : List Float) → length numbers ≡ 24 → i + m ≤ 8 → d < m → from m i numbers ≡ Ok all → Bounds all (i + d)
  found zero i d numbers all l f b h = absurd (omega arith)
  found (suc m) i zero numbers all l f b h =
      let s = step m i numbers all h in
      let bounds : Bounds all i =
      record {
        interval = s.0;
        is = s.1;
        lower = stays m (i + 1) (placed_of numbers i s.0) all (3 * i + 1) (omega arith) s.2 ∙ placed_lower numbers i s.0 (omega arith);
        upper = stays m (i + 1) (placed_of numbers i s.0) all (3 * i + 2) (omega arith) s.2 ∙ placed_upper numbers i s.0 (omega arith);
      } in
      subst (λ (k : ℕ). Bounds all k) (sym (add-zero i)) bounds
  found (suc m) i (suc d) numbers all l f b h =
      let s = step m i numbers all h in
      let long : length (placed_of numbers i s.0) ≡ 24 = placed_length numbers i s.0 ∙ l in
      let e : i + 1 + d ≡ i + suc d = omega arith in
      subst (λ (k : ℕ). Bounds all k) e (found m (i + 1) d (placed_of numbers i s.0) all long (omega arith) (omega arith) s.2)

module _ (estimates covariance errors : List Float) (marks : ℕ) (all : List Float) (answered : intervals_of estimates covariance errors marks ≡ Ok all) where
  -- an answer is what was collected, of at most eight estimates
  collects : (length estimates ≤ 8) × (collected_of estimates errors marks ≡ Ok all)
  unfolding intervals_of
  collects =
      let a = accept (shaped_of (length estimates) (length covariance) (length errors) marks) _ InvalidInput all answered in
      let b = accept (all_finite_of covariance) _ InvalidInput all a.1 in
      (few (length estimates) (length covariance) (length errors) marks a.0, factor_there (factored_of covariance errors) _ all b.1)

  pub marked_proper : (i : ℕ) → i < length estimates → marked_of marks i ≡ true → Proper (get_or all (3 * i + 1) nan) (get_or all (3 * i + 2) nan)
  unfolding collected_of
  marked_proper i b t =
      let c = collects in
      let f = subst (λ (k : ℕ). Bounds estimates errors marks all k) (zero-add i) (found estimates errors marks (length estimates) 0 i (replicate 24 zero·) all refl (omega arith) b c.1) in
      let p = asked_proper (marked_of marks i) (get_or estimates i nan) (get_or errors i nan) t f.interval f.is in
      rw (f.lower, f.upper) p
