-- The answers for `newton`.
use mathlib.Core.Path.{◌≡◌, refl, ◌∙◌}
use mathlib.Core.Bool.{cond}
use Prim.Native.Nat.{ℕ, ◌+◌, ◌-◌, ◌≤◌, ◌<◌}
use lib.Ieee.{Float, lt}
use Rattle.num.specs.F64.{◌⊖◌}
use Rattle.num.specs.Choose.{choose}
use Rattle.num.specs.Helpers.{abs_of}
use Rattle.num.specs.Left.{left_one, left_none}
use Rattle.legendre.specs.declared.Node.{Node}
use Rattle.legendre.specs.declared.Polynomial.{Polynomial}
use Rattle.legendre.specs.Legendre.{recurrence_of, derivative_at, next_from, small_move, newton_from, newton_of}
use Rattle.legendre.proofs.newton.Goals as goal

-- p is the polynomial at x, and a the length of the move
turn :
    (all r : Node) (x d : Float) (k : ℕ) (p : Polynomial) (a : Float) →
    newton_from (20 - k) x d ≡ all →
    k < 20 →
    p ≡ recurrence_of x →
    a ≡ abs_of (next_from x p ⊖ x) →
    r
    ≡ cond (lt a small_move) (record { x = next_from x p; derivative = derivative_at x p }) (newton_from (20 - (k + 1)) (next_from x p) (derivative_at x p)) →
    r ≡ all
unfolding newton_from
turn all r x d k p a i h e f t = (rw (f, e) at t) ∙ (rw (left_one 20 k h) at i)

ends : (all : Node) (x d : Float) (k : ℕ) → newton_from (20 - k) x d ≡ all → 20 ≤ k → record { x = x; derivative = d } ≡ all
unfolding newton_from
ends all x d k i h = rw (left_none 20 k h) at i

pub loop-init : goal.loop-init
unfolding newton_of
loop-init c = refl

pub returns-then-abs : goal.returns-then-abs
unfolding newton_of
returns-then-abs c = search (turn, choose)

pub loop-preserved : goal.loop-preserved
unfolding newton_of
loop-preserved c = search (turn, choose)

pub returns : goal.returns
unfolding newton_of
returns c = search ends
