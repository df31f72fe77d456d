-- Every point in an admitted request's box passes the objective's own checks.
use Rattle.std.specs.Prelude.{◌≡◌, refl, true, List, ℕ, Float}
use Rattle.std.proofs.Common.{lit<}
use Rattle.std.specs.Float.{binary64}
use Rattle.std.specs.Float.Ieee.{neg, mul, le, of_bits}
use Rattle.std.specs.Float.Ieee.Bits.{of_bits-fits}
use Rattle.num.specs.Both.{and_both}
use Rattle.num.specs.F64.{zero·, eight·}
use Rattle.num.specs.Helpers.{is_finite_of}
use Rattle.order.specs.Numbers.{between_finite}
use Rattle.order.specs.Order.{le_then_le}
use Rattle.order.specs.Choices.{abs_not_above}
use Rattle.order.specs.Boxes.{Inside}
use Rattle.objective.specs.Point.{nine·, valid_mean_of, valid_variance_of, valid_point_of}
use Rattle.request.specs.declared.Request.{Request}
use Rattle.request.specs.Request.{admitted_of, low_of, high_of}
use Rattle.request.specs.Box.{Coordinate, most·, first, second, third, fourth}

eight_finite : is_finite_of eight· ≡ true
unfolding is_finite_of of_bits
eight_finite = refl

within_nine : le most· nine· ≡ true
unfolding le mul of_bits
within_nine = refl

mean_valid : (lo start hi x : Float) → Coordinate (neg eight·) lo start hi eight· → le lo x ≡ true → le x hi ≡ true → valid_mean_of x ≡ true
unfolding valid_mean_of
mean_valid lo start hi x c h k =
    and_both _ _ (between_finite _ _ _ c.low c.high h k)
    (abs_not_above x eight· eight_finite (of_bits-fits binary64 0x4020_0000_0000_0000) (le_then_le _ _ _ c.at_least h) (le_then_le _ _ _ k c.at_most))

variance_valid : (lo start hi x : Float) → Coordinate zero· lo start hi most· → le lo x ≡ true → le x hi ≡ true → valid_variance_of x ≡ true
unfolding valid_variance_of
variance_valid lo start hi x c h k =
    and_both _ _ (between_finite _ _ _ c.low c.high h k)
    (and_both _ _ (le_then_le _ _ _ c.at_least h) (le_then_le _ _ _ (le_then_le _ _ _ k c.at_most) within_nine))

pub inside_valid : (r : Request) (ls : List ℕ) → admitted_of r ls ≡ true → (x : List Float) → Inside (low_of r) (high_of r) x → valid_point_of x ≡ true
unfolding valid_point_of
inside_valid r ls h x s =
    and_both _ _ (mean_valid _ _ _ _ (first r ls h) (s.above 0 (lit< tt)) (s.below 0 (lit< tt)))
    (and_both _ _ (mean_valid _ _ _ _ (second r ls h) (s.above 1 (lit< tt)) (s.below 1 (lit< tt)))
    (and_both _ _ (variance_valid _ _ _ _ (third r ls h) (s.above 2 (lit< tt)) (s.below 2 (lit< tt)))
    (variance_valid _ _ _ _ (fourth r ls h) (s.above 3 (lit< tt)) (s.below 3 (lit< tt)))))
