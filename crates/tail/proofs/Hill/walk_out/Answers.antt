-- The answers for `Hill::walk_out`.
use Rattle.std.specs.Prelude.{◌≡◌, ℕ, suc, ◌+◌, true, false, Option, Ok, Float}
use Rattle.std.proofs.Common.{sym, ◌∙◌}
use Rattle.num.specs.Left.{left_one, left_none}
use Rattle.work.specs.declared.Meter.{Meter}
use Rattle.work.specs.Work.{eval}
use Rattle.work.specs.Answer.{leaves, by, Did}
use Rattle.work.specs.Onward.{branch, gives}
use Rattle.posterior.specs.declared.integrand.Point.{Point}
use Rattle.posterior.specs.declared.side.Side.{Side}
use Rattle.posterior.specs.Steps.{refused, goes_on}
use Rattle.posterior.specs.Integrand.{Eval, at}
use Rattle.tail.specs.declared.Hill.{Hill}
use Rattle.tail.specs.Tail.{within_of, bound_after_of, step_out, walk}
use Rattle.tail.proofs.Hill.walk_out.Goals as goal

pub loop-j-init : goal.loop-j-init
loop-j-init c = rw c.outward-z.ensures

-- a step: v is the point at z, b the bound before it and d after
module _ (here : Float → Eval) (h : Hill) (side : Side) (k j : ℕ) (z : Float) (b d : Option Float) (m n : Meter) (v : Point) (i : Did at (eval (here z)) m (Ok v) n) (e : d ≡ bound_after_of h side b z v.log v.slope) where
  settles : within_of d h.goal ≡ true → leaves (Ok (record { z = z; bound = d })) n ≡ by at m (walk here h side (suc k) j z b)
  unfolding walk
  settles t = rw (goes_on at m n _ _ v i, branch, ← e, t, gives)

  turn : (y : Float) → within_of d h.goal ≡ false → y ≡ step_out h side j → by at m (walk here h side (suc k) j z b) ≡ by at n (walk here h side k (j + 1) y d)
  unfolding walk
  turn y t f = rw (goes_on at m n _ _ v i, branch, ← e, t, f)

pub returns-in_err-v : goal.returns-in_err-v
unfolding walk
returns-in_err-v c = rw (← c.loop-j.invariant, left_one 30 c.loop-j.j c.loop-j-test.true) (refused at _ _ _ _ _ _ c.in_err-v.ensures c.from_residual.ensures.1)

pub returns-then-within : goal.returns-then-within
returns-then-within c = rw (← c.loop-j.invariant, left_one 30 c.loop-j.j c.loop-j-test.true) (settles _ _ _ _ _ _ _ _ _ _ _ c.in_ok-v.ensures c.bound_after-bound.ensures (sym c.if-within.ensures))

pub loop-j-preserved : goal.loop-j-preserved
loop-j-preserved c = sym (turn _ _ _ _ _ _ _ _ _ _ _ c.in_ok-v.ensures c.bound_after-bound.ensures _ (sym c.if-within.ensures) (c.outward-z-in-loop-j.ensures ∙ rw c.powi.ensures)) ∙ (rw (left_one 30 c.loop-j.j c.loop-j-test.true) at c.loop-j.invariant)

pub returns : goal.returns
unfolding walk
returns c = rw (← c.loop-j.invariant, left_none 30 c.loop-j.j c.loop-j-test.false, gives)
