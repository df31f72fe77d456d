-- What std says of a test asked of each number: it passes at each, or fails at one.
use Rattle.std.specs.Prelude.{◌≡◌, Bool, true, false, List, ℕ, ◌<◌, length, get_or, Float}
use Rattle.std.proofs.Common.{refl, sym, ◌∙◌, arith, true≢false}
use Rattle.std.specs.Bool.{MatchBool}
use Rattle.std.specs.List.{AllWithin, HoldsAt}
use Rattle.std.specs.Float.{nan}
use Rattle.num.specs.Helpers.{is_finite_of}
use Rattle.num.specs.Every.{all_pass}
use Rattle.finite.specs.Finite.{all_finite_of, each_finite}

fails : (v : List Float) (t : Bool) → t ≡ all_finite_of v → (k : ℕ) → k < length v → is_finite_of (get_or v k nan) ≡ false → false ≡ all_finite_of v
fails v true e k l h = absurd (true≢false (sym (each_finite v k l (sym e)) ∙ h))
fails v false e k l h = e

pub by_cases : (v : List Float) (r : Bool) → MatchBool r (AllWithin (λ x. is_finite_of x ≡ true) v 0 (length v)) ((k : ℕ) × (k < length v) × HoldsAt (λ x. is_finite_of x ≡ false) v k) → r ≡ all_finite_of v
unfolding all_finite_of
by_cases v true h = sym (all_pass (λ i. is_finite_of (get_or v i nan)) (length v) 0 (λ m l u. h m nan l (omega arith)))
by_cases v false h = fails v (all_finite_of v) refl h.0 h.1 (h.2 nan)
