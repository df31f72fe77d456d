-- The trial that is looked for: what a watch has kept of the trials so far, the newest first, and how many are still to come before it. Beside it, where the search stands.
use Rattle.std.specs.Prelude.{◌≡◌, refl, false, cond, List, [], ◌∷◌, ℕ, ◌-◌, ◌≤◌, ◌<◌, ◌==◌, ltb, length, Some, None}
use Rattle.std.proofs.Common.{ap, ◌∙◌, rules, arith, ltb-true, ltb-false}
use Rattle.work.specs.Metered.{split}
use Rattle.descent.specs.declared.Trial.{Trial}
use Rattle.descent.specs.declared.Trial.TheVariants.{NotDownhill, NotMoved, TooLittle, ByDecrease, ByRounding, CutOff}
use Rattle.trial.specs.declared.watch.Since.{Since}
use Rattle.trial.specs.declared.watch.Since.TheVariants.{Arrived, Missed, Cut}
use Rattle.trial.specs.declared.watch.Watch.{Watch}

abbrev pub by_newest_of : Trial → Since
by_newest_of (NotDownhill s) = Missed
by_newest_of NotMoved = Missed
by_newest_of (TooLittle m) = Missed
by_newest_of (ByDecrease s) = Arrived
by_newest_of (ByRounding a) = Arrived
by_newest_of CutOff = Cut

-- by the newest of the trials so far
abbrev pub since_in : List Trial → Since
since_in [] = Arrived
since_in (t ∷ ts) = by_newest_of t

-- a watch that is shown one more trial
unfoldable pub noted_of : Trial → Watch → Watch
noted_of t w = record { left = w.left - 1; kept = cond (w.left == 1) (Some t) w.kept; since = by_newest_of t }

abbrev pub begun_of : ℕ → Watch
begun_of n = record { left = n; kept = None; since = Arrived }

-- for the n-th trial, after those so far
unfoldable pub watch_of : ℕ → List Trial → Watch
watch_of n [] = begun_of n
watch_of n (t ∷ ts) = noted_of t (watch_of n ts)

-- the n-th trial, counted from 1, where there are so many
unfoldable pub trial_at : ℕ → List Trial → Trial
trial_at n [] = CutOff
trial_at n (t ∷ ts) = cond (ltb (length ts) n) t (trial_at n ts)

not_one : (n : ℕ) → 2 ≤ n → (n == 1) ≡ false
not_one n h = search rules

past : (t : Trial) (w : Watch) → w.left ≡ 0 → noted_of t w ≡ record { left = w.left; kept = w.kept; since = by_newest_of t }
unfolding noted_of
past t w h = rw h

hit : (t : Trial) (w : Watch) → w.left ≡ 1 → noted_of t w ≡ record { left = 0; kept = Some t; since = by_newest_of t }
unfolding noted_of
hit t w h = rw h

counts : (t : Trial) (w : Watch) → 2 ≤ w.left → noted_of t w ≡ record { left = w.left - 1; kept = w.kept; since = by_newest_of t }
unfolding noted_of
counts t w h = rw (not_one w.left h)

one_less : (t : Trial) (w : Watch) → (noted_of t w).left ≡ w.left - 1
unfolding noted_of
one_less t w = refl

-- how many trials are still to come, the n-th with them
pub watch_left : (n : ℕ) (ts : List Trial) → (watch_of n ts).left ≡ n - length ts
unfolding watch_of
watch_left n [] = omega arith
watch_left n (t ∷ ts) = one_less t (watch_of n ts) ∙ (let h = watch_left n ts in omega arith)

-- once it was made, the n-th trial is kept
pub watch_kept : (n : ℕ) (ts : List Trial) → 1 ≤ n → n ≤ length ts → (watch_of n ts).kept ≡ Some (trial_at n ts)
unfolding watch_of trial_at
watch_kept n [] h k = absurd (omega arith)
watch_kept n (t ∷ ts) h k =
    let e = watch_left n ts in
    split (ltb (length ts) n)
    (λ b. let z : (watch_of n ts).left ≡ 1 = omega (arith, ltb-true (length ts) n b) in rw b (ap (λ w. w.kept) (hit t (watch_of n ts) z)))
    (λ b. let z : (watch_of n ts).left ≡ 0 = omega (arith, ltb-false (length ts) n b) in rw b (ap (λ w. w.kept) (past t (watch_of n ts) z) ∙ watch_kept n ts h (ltb-false (length ts) n b)))

-- before, nothing is kept; and of number 0 there is none
pub watch_none : (ts : List Trial) → (watch_of 0 ts).kept ≡ None
unfolding watch_of
watch_none [] = refl
watch_none (t ∷ ts) = ap (λ w. w.kept) (past t (watch_of 0 ts) (watch_left 0 ts ∙ omega arith)) ∙ watch_none ts

pub watch_coming : (n : ℕ) (ts : List Trial) → length ts < n → (watch_of n ts).kept ≡ None
unfolding watch_of
watch_coming n [] h = refl
watch_coming n (t ∷ ts) h =
    let e = watch_left n ts in
    let k : 2 ≤ (watch_of n ts).left = omega arith in
    ap (λ w. w.kept) (counts t (watch_of n ts) k) ∙ watch_coming n ts (omega arith)

-- where the search stands
noted_since : (t : Trial) (w : Watch) → (noted_of t w).since ≡ by_newest_of t
unfolding noted_of
noted_since t w = refl

pub watch_since : (n : ℕ) (ts : List Trial) → (watch_of n ts).since ≡ since_in ts
unfolding watch_of
watch_since n [] = refl
watch_since n (t ∷ ts) = noted_since t (watch_of n ts)
