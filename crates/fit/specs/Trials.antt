-- The trials of a fit: at most 48,000, the refused one with them, and never NotMoved. A candidate that has not moved has a zero for its slope, since the gradient and the
-- point are finite, and a zero is not downhill.
use Rattle.std.specs.Prelude.{◌≡◌, refl, Bool, true, false, ◌&&◌, List, ℕ, ◌+◌, ◌*◌, ◌≤◌, ◌<◌, T, leb, length, get_or, Float, None}
use Rattle.std.proofs.Common.{ap, ◌∙◌, arith, leb-true, le-ltb, lit<}
use Rattle.std.proofs.lemmas.Bool.{lt-leb}
use borrow.Table.Steps.{cases}
use Rattle.std.specs.Float.{nan}
use Rattle.std.specs.Float.Ieee.{binary64, lt, le, eq, fits}
use Rattle.std.specs.Float.Ieee.Bits.{of_bits-fits}
use Rattle.std.specs.Float.Ieee.Fits.{add-fits}
use Rattle.num.specs.Both.{and_left, and_right}
use Rattle.num.specs.F64.{◌⊕◌, ◌⊖◌, ◌⊗◌, zero·}
use Rattle.num.specs.Helpers.{is_finite_of}
use Rattle.work.specs.Impossible.{impossible}
use Rattle.order.specs.Numbers.{zero_finite, between_finite, finite_number}
use Rattle.order.specs.Order.{le_then_le, eq_le, eq_ge, le_self, lt_le, not_le}
use Rattle.order.specs.Sums.{add_not_above, add_not_below, difference_not_below, difference_not_above}
use Rattle.order.specs.Products.{mul_swap, mul_number, mul_not_above, mul_not_below, mul_both_below}
use Rattle.order.specs.Boxes.{FiniteFour, inside_finite}
use Rattle.work.specs.Ended.{Ended, done, stopped, short}
use Rattle.work.specs.Metered.{split}
use Rattle.work.specs.Through.{Open, none, refused, Driven}
use Rattle.legendre.specs.Legendre.{legendre_of}
use Rattle.posterior.specs.Integrand.{at}
use Rattle.value.specs.declared.Totals.{Totals}
use Rattle.objective.specs.Finite.{Known, objective_known}
use Rattle.descent.specs.declared.Trial.{Trial}
use Rattle.descent.specs.declared.Trial.TheVariants.{NotMoved}
use Rattle.descent.specs.Descent.{Asked, Descended}
use Rattle.descent.specs.Claims.{Among, newest, older}
use Rattle.descent.specs.Asking.{share_of}
use Rattle.request.specs.declared.Request.{Request}
use Rattle.request.specs.Request.{admitted_of, valid_boxes_of, valid_controls_of, valid_limit, two_each_of, start_of, low_of, high_of}
use Rattle.request.specs.Box.{the_box}
use Rattle.litters.specs.Valid.{valid_litters_of}
use Rattle.step.specs.Step.{candidate_of, slope_of, still_of}
use Rattle.stepper.specs.Machine.{direction_at_of, problem_of}
use Rattle.course.specs.Course.{trial_in, trials_in}
use Rattle.drive.specs.Drive.{value_at}
use Rattle.why.specs.Why.{refused_in, no_trial as no_refused, why_in, why_of, why_is}
use Rattle.why.specs.Trials.{Trials, no_trial, one_more, moved_of, trials_length, before_trials, before_room, Fit, few_trials, Ran, ran}
use Rattle.fit.specs.Fit.{plan_of, whole_of, why_for}
use Rattle.fit.specs.Driven.{descent_of, trials_of, litter_of, whole_is}
use Rattle.fit.specs.Inside.{Boxed, KnownAt, start_boxed, kept}

-- ---- zeros of either sign
record Null (x : Float) : Type 0 where
  below : le zero· x ≡ true
  above : le x zero· ≡ true

null_finite : (x : Float) → Null x → is_finite_of x ≡ true
null_finite x n = between_finite zero· x zero· zero_finite zero_finite n.below n.above

null_zero : Null zero·
null_zero = let h = le_self zero· (finite_number zero· zero_finite) in record { below = h; above = h }

null_add : (s p : Float) → T (fits binary64 s) → Null s → Null p → Null (s ⊕ p)
null_add s p f n m =
    record {
      below = le_then_le zero· s (s ⊕ p) n.below (add_not_below s p (null_finite s n) f m.below);
      above = le_then_le (s ⊕ p) s zero· (add_not_above s p (null_finite s n) f m.above) n.above;
    }

null_difference : (a b : Float) → is_finite_of b ≡ true → eq a b ≡ true → Null (a ⊖ b)
null_difference a b i e = record { below = difference_not_below a b i (eq_ge a b e); above = difference_not_above a b i (eq_le a b e) }

null_product : (g d : Float) → is_finite_of g ≡ true → Null d → Null (g ⊗ d)
null_product g d i n =
    let m = mul_number g d i (null_finite d n) in
    let w = mul_number d g (null_finite d n) i in
    cases (le zero· g)
    (λ t. record { below = mul_not_below g d m t n.below; above = mul_not_above g d m t n.above })
    (λ t.
    let h = lt_le g zero· (not_le zero· g (finite_number zero· zero_finite) (finite_number g i) t) in
    rw (mul_swap g d) (record { below = mul_both_below d g w n.above h; above = mul_not_above d g w n.below h }))

module _ (g next x : List Float) (i : FiniteFour g) (j : FiniteFour x) (h : still_of next x ≡ true) where
  still_each : (eq (get_or next 0 nan) (get_or x 0 nan) ≡ true) × (eq (get_or next 1 nan) (get_or x 1 nan) ≡ true) × (eq (get_or next 2 nan) (get_or x 2 nan) ≡ true) × (eq (get_or next 3 nan) (get_or x 3 nan) ≡ true)
  unfolding still_of
  still_each =
      let a = and_right (eq (get_or next 0 nan) (get_or x 0 nan)) _ h in
      let b = and_right (eq (get_or next 1 nan) (get_or x 1 nan)) _ a in
      (and_left (eq (get_or next 0 nan) (get_or x 0 nan)) _ h, and_left (eq (get_or next 1 nan) (get_or x 1 nan)) _ a, and_left (eq (get_or next 2 nan) (get_or x 2 nan)) _ b, and_right (eq (get_or next 2 nan) (get_or x 2 nan)) _ b)

  term : (k : ℕ) → k < 4 → eq (get_or next k nan) (get_or x k nan) ≡ true → Null (get_or g k nan ⊗ (get_or next k nan ⊖ get_or x k nan))
  term k l e = null_product _ _ (i k l) (null_difference _ _ (j k l) e)

  -- an unmoved candidate's slope is a zero
  null_slope : Null (slope_of g next x)
  unfolding slope_of
  null_slope =
      let e = still_each in
      null_add _ _ (add-fits binary64 _ _) (null_add _ _ (add-fits binary64 _ _) (null_add _ _ (add-fits binary64 _ _) (null_add _ _ (of_bits-fits binary64 0) null_zero (term 0 (lit< tt) e.0)) (term 1 (lit< tt) e.1)) (term 2 (lit< tt) e.2)) (term 3 (lit< tt) e.3)

  pub still_not_downhill : le zero· (slope_of g next x) ≡ true
  still_not_downhill = null_slope.below

-- ---- the fit
most_iterations : (n : ℕ) (boxes one more least rest litters : Bool) → (boxes && (((one && more) && ((least && leb n 1000) && rest)) && litters)) ≡ true → n ≤ 1000
most_iterations n boxes one more least rest litters h =
    let a = and_right boxes _ h in
    let b = and_left ((one && more) && ((least && leb n 1000) && rest)) litters a in
    let c = and_right (one && more) _ b in
    let d = and_left (least && leb n 1000) rest c in
    leb-true n 1000 (and_right least _ d)

not_among : {n : ℕ} {ts : List Trial} → Trials n ts → Among NotMoved ts → ⊥
not_among (no_trial {n = n}) m = elim m [ ]
not_among (one_more h l) (newest e) = let z : moved_of NotMoved ≡ true = ap (λ t. moved_of t) e ∙ h in impossible (cc)
not_among (one_more h l) (older m) = not_among l m

module _ (r : Request) (ls : List ℕ) where
  module _ (h : admitted_of r ls ≡ true) where
    moves : (x : List Float) (v : Totals) → Boxed r x → Known v → (k : ℕ) → let next = candidate_of x (direction_at_of (low_of r) (high_of r) x v) (share_of k) (low_of r) (high_of r) in still_of next x ≡ true → le zero· (slope_of v.gradient next x) ≡ true
    moves x v b q k s = still_not_downhill v.gradient _ x q.finite.slopes (inside_finite (low_of r) (high_of r) x (the_box r ls h) b.inside) s

    iterations : r.iterations.0 ≤ 1000
    unfolding admitted_of valid_controls_of
    iterations = most_iterations r.iterations.0 (valid_boxes_of r) (leb 1 r.evaluations.0) (leb r.evaluations.0 1000) (leb 1 r.iterations.0) (is_finite_of r.tolerance && lt zero· r.tolerance) (valid_litters_of ls && two_each_of ls) h

    abbrev turns : ℕ
    turns = (problem_of (plan_of r)).turns

    abbrev Told : Asked (List Float) → Totals → Type 0
    Told q v = KnownAt q.at v

    abbrev Few : Asked (List Float) → Type 0
    Few q = Fit (problem_of (plan_of r)) KnownAt (Boxed r) q

    abbrev Ends : Descended (List Float) Totals → Type 0
    Ends d = Trials (48 * turns) d.trials

    abbrev FitRan : Driven (Asked (List Float)) (Descended (List Float) Totals) → Type 0
    FitRan d = Ran Told Few Ends at (λ q. value_at legendre_of ls q.at) r.quadrature.0 (λ q i. objective_known legendre_of q.at ls) d

    fit_ran : FitRan (descent_of r ls)
    unfolding descent_of
    fit_ran = ran Told Few Ends at (λ q. value_at legendre_of ls q.at) r.quadrature.0 (λ q i. objective_known legendre_of q.at ls) 0 (few_trials (problem_of (plan_of r)) KnownAt (Boxed r) (kept r ls h) moves (start_of r) (start_boxed r ls h))

    -- the trials before the end, and the refused one with them
    trials_of_lem : (e : Ended (Descended (List Float) Totals)) (u : ℕ) (q : Open (Asked (List Float))) → FitRan (record { ended = e; used = u; asked = q }) → Trials (48 * turns) (trials_in e q)
    trials_of_lem (done d) u q k = k.answer d refl
    trials_of_lem (stopped w) u none k = no_trial
    trials_of_lem (stopped w) u (refused q) k = before_trials (k.open_question q refl).before
    trials_of_lem short u none k = no_trial
    trials_of_lem short u (refused q) k = before_trials (k.open_question q refl).before

    closed_false : (q : Open (Asked (List Float))) → q ≡ none → trial_in q ≡ true → {Z : Type 0} → Z
    closed_false q e t = let z : trial_in none ≡ true = rw e at t in impossible (cc)

    room_of : (e : Ended (Descended (List Float) Totals)) (u : ℕ) (q : Open (Asked (List Float))) → FitRan (record { ended = e; used = u; asked = q }) → trial_in q ≡ true → length (trials_in e q) + 1 ≤ 48 * turns
    room_of (done d) u q k t = closed_false q (k.closed d refl) t
    room_of (stopped w) u none k t = impossible (cc)
    room_of (stopped w) u (refused q) k t = before_room (k.open_question q refl).before t
    room_of short u none k t = impossible (cc)
    room_of short u (refused q) k t = before_room (k.open_question q refl).before t

    -- No trial of a fit is NotMoved.
    pub never_unmoved : Among NotMoved (trials_of r ls) → ⊥
    unfolding trials_of
    never_unmoved m = let d = descent_of r ls in not_among (trials_of_lem d.ended d.used d.asked fit_ran) m

    past_last : (n : ℕ) → 48000 < n → why_of n (descent_of r ls) ≡ None
    past_last n l =
        let d = descent_of r ls in
        let ts = trials_in d.ended d.asked in
        let i = iterations in
        let few : length ts ≤ 48 * turns = trials_length (trials_of_lem d.ended d.used d.asked fit_ran) in
        let a : length ts < n = omega arith in
        let z : 1 ≤ n = omega arith in
        cases (trial_in d.asked)
        (λ t.
        let room : length ts + 1 ≤ 48 * turns = room_of d.ended d.used d.asked fit_ran t in
        let b : length ts + 1 < n = omega arith in
        rw (le-ltb n 1 z, lt-leb n (length ts) a, lt-leb n (length ts + 1) b) (no_refused d.ended))
        (λ t. rw (le-ltb n 1 z, lt-leb n (length ts) a, t) (unset d.ended (leb n (length ts + 1)))) where
          unset : (e : Ended (Descended (List Float) Totals)) (b : Bool) → refused_in e (b && false) ≡ None
          unset e true = no_refused e
          unset e false = no_refused e

    admitted_most : (n : ℕ) → 48000 < n → why_in (whole_of r ls n) ≡ None
    admitted_most n l = ap (λ c. why_in c) (whole_is r ls n) ∙ (why_is n (litter_of r ls) (descent_of r ls) ∙ past_last n l)

  -- A fit has at most 48,000 trials, the refused one with them: of a higher number there is none.
  pub most_trials : (n : ℕ) → 48000 < n → why_for r ls n ≡ None
  unfolding why_for
  most_trials n l =
      split (valid_limit r.quadrature.0)
      (λ t. split (admitted_of r ls) (λ a. rw (t, a) (admitted_most a n l)) (λ a. rw (t, a)))
      (λ t. rw t)
