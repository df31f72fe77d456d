-- A run of numbers of which every one is finite.
use Rattle.std.specs.Prelude.{◌≡◌, Bool, true, List, ℕ, ◌<◌, length, get_or, Float}
use Rattle.std.proofs.Common.{zero-le, arith}
use Rattle.std.specs.Float.{nan}
use Rattle.num.specs.Helpers.{is_finite_of}
use Rattle.num.specs.Every.{every_from, each_passes}

unfoldable pub all_finite_of : List Float → Bool
all_finite_of v = every_from (λ i. is_finite_of (get_or v i nan)) (length v) 0

pub each_finite : (v : List Float) (i : ℕ) → i < length v → all_finite_of v ≡ true → is_finite_of (get_or v i nan) ≡ true
unfolding all_finite_of
each_finite v i l h = each_passes (λ i. is_finite_of (get_or v i nan)) (length v) 0 i h zero-le (omega arith)
