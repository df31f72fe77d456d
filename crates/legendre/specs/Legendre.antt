-- `legendre` of the source: sixteen nodes and weights, from the polynomial's recurrence and Newton's steps.
use Rattle.std.specs.Prelude.{cond, List, ℕ, zero, suc, ◌+◌, ◌-◌, ◌*◌, Float}
use Rattle.std.specs.Float.Ieee.{lt}
use Rattle.num.specs.Fold.{fold_from}
use Rattle.num.specs.Values.{values}
use Rattle.num.specs.F64.{◌⊕◌, ◌⊖◌, ◌⊗◌, ◌⊘◌, whole, bits, zero·, quarter·, half·, one·, two·}
use Rattle.num.specs.Helpers.{abs_of}
use Rattle.elementary.specs.Cos.{cos_of}
use Rattle.legendre.specs.declared.Pair.{Pair}
use Rattle.legendre.specs.declared.Polynomial.{Polynomial}
use Rattle.legendre.specs.declared.Node.{Node}

abbrev pub pi : Float
pi = bits 0x4009_21fb_5444_2d18

abbrev pub sixteen : Float
sixteen = bits 0x4030_0000_0000_0000

-- the polynomial of degree j at x, p1 of degree j - 1 and p0 the one before it
abbrev pub degree_of : Float → ℕ → Polynomial → Polynomial
degree_of x j p = record { p0 = p.p1; p1 = (whole (2 * j - 1) ⊗ x ⊗ p.p1 ⊖ whole (j - 1) ⊗ p.p0) ⊘ whole j }

unfoldable pub recurrence_of : Float → Polynomial
recurrence_of x = fold_from (degree_of x) 15 2 (record { p0 = one·; p1 = x })

abbrev pub derivative_at : Float → Polynomial → Float
derivative_at x p = sixteen ⊗ (x ⊗ p.p1 ⊖ p.p0) ⊘ (x ⊗ x ⊖ one·)

abbrev pub next_from : Float → Polynomial → Float
next_from x p = x ⊖ p.p1 ⊘ derivative_at x p

-- 2e-16
abbrev pub small_move : Float
small_move = bits 0x3cac_d2b2_97d8_89bc

-- at most n steps; the derivative is the one found before the last move
unfoldable pub newton_from : ℕ → Float → Float → Node
newton_from zero x derivative = record { x = x; derivative = derivative }
newton_from (suc n) x derivative =
    let p = recurrence_of x in
    let next = next_from x p in
    cond (lt (abs_of (next ⊖ x)) small_move) (record { x = next; derivative = derivative_at x p }) (newton_from n next (derivative_at x p))

unfoldable pub newton_of : Float → Node
newton_of start = newton_from 20 start zero·

-- the k-th pair, k from 1 to 16
unfoldable pub node_and_weight_of : ℕ → Pair
node_and_weight_of k =
    let n = newton_of (cos_of (pi ⊗ (whole k ⊖ quarter·) ⊘ (sixteen ⊕ half·))) in
    record { x = n.x; w = two· ⊘ ((one· ⊖ n.x ⊗ n.x) ⊗ n.derivative ⊗ n.derivative) }

unfoldable pub legendre_of : List Pair
legendre_of = values (λ i. node_and_weight_of (i + 1)) 16 0
