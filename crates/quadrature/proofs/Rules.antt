-- The turns of the quadrature: the code keeps the sums of the rule before in an Option, where the definition has a test beside them.
use Rattle.std.specs.Prelude.{◌≡◌, refl, Bool, true, false, cond, ◌&&◌, List, ℕ, suc, ◌+◌, ◌*◌, ◌%◌, ◌^◌, ◌<◌, Option, None, Some, Ok, Err, Float}
use Rattle.std.proofs.Common.{arith, one-mul, mod-eq_of_lt, lt_of_le_of_lt, pow_mono, lit<}
use Rattle.std.specs.Float.Ieee.{le}
use Rattle.work.specs.declared.Refusal.TheVariants.{Domain}
use Rattle.work.specs.declared.Meter.{Meter}
use Rattle.work.specs.Metered.{split}
use Rattle.work.specs.Work.{Work}
use Rattle.work.specs.Answer.{leaves, by, Did}
use Rattle.work.specs.Onward.{branch, gives_up}
use Rattle.legendre.specs.declared.Pair.{Pair}
use Rattle.posterior.specs.declared.integrand.Point.{Point}
use Rattle.posterior.specs.Integrand.{Eval, at}
use Rattle.posterior.specs.Steps.{goes_on}
use Rattle.panel.specs.declared.Hump.{Hump}
use Rattle.panel.specs.Panel.{no_sums, sides}
use Rattle.quadrature.specs.declared.Integral.{Integral}
use Rattle.quadrature.specs.Quadrature.{spoiled_of, refined_of, accepted, agreed_of, rules}

-- 1 shifted up by k, for the ten rules
pub shifted : (k : ℕ) → k < 10 → 1 * 2 ^ k % 2 ^ 32 ≡ 2 ^ k
shifted k h = rw (one-mul (2 ^ k)) (mod-eq_of_lt (lt_of_le_of_lt (pow_mono {i = k} {j = 9} (omega arith)) (lit< tt)))

abbrev pub seen : Option (List Float) → Bool
seen None = false
seen (Some s) = true

abbrev pub sums_before : Option (List Float) → List Float
sums_before None = no_sums
sums_before (Some s) = s

module _ (here : Float → Eval) (rule : List Pair) (h : Hump) where
  -- the rules from the k-th on, after a rule with these sums or none
  abbrev pub rules_after : ℕ → ℕ → Option (List Float) → Work Eval Point Integral
  rules_after n k old = rules here rule h n k (seen old) (sums_before old)

  -- what follows the sums s of a rule
  abbrev pub then_on : ℕ → ℕ → List Float → Option Float → Work Eval Point Integral
  then_on n k s None = rules here rule h n (k + 1) true s
  then_on n k s (Some r) = Work.ret (record { sum = s; refinement = r })

  module _ (n k : ℕ) (m q : Meter) (old : Option (List Float)) (s : List Float) (i : Did at (sides here rule h (2 ^ k)) m (Ok s) q) where
    pub spoils : true ≡ spoiled_of s → leaves (Err (Domain 4)) q ≡ by at m (rules_after (suc n) k old)
    unfolding rules
    spoils t = rw (goes_on at m q _ _ s i, branch, ← t, gives_up)

    compared : (old : Option (List Float)) → cond (seen old && le (refined_of s (sums_before old)) accepted) (Work.ret (record { sum = s; refinement = refined_of s (sums_before old) })) (rules here rule h n (k + 1) true s) ≡ then_on n k s (agreed_of s old)
    compared None = refl
    compared (Some o) = split (le (refined_of s o) accepted) (λ b. rw b) (λ b. rw b)

    pub turn : false ≡ spoiled_of s → (r : Option Float) → r ≡ agreed_of s old → by at m (rules_after (suc n) k old) ≡ by at q (then_on n k s r)
    unfolding rules
    turn t r e = rw (goes_on at m q _ _ s i, branch, ← t, compared old, e)
