-- The answers for `steps`.
use Rattle.std.specs.Prelude.{◌≡◌, ℕ, suc, false, Ok, Float}
use Rattle.std.proofs.Common.{sym, ◌∙◌}
use Rattle.std.specs.Float.Ieee.{le}
use Rattle.num.specs.Helpers.{abs_of}
use Rattle.work.specs.declared.Meter.{Meter}
use Rattle.work.specs.Work.{eval}
use Rattle.work.specs.Answer.{by, Did}
use Rattle.num.specs.Left.{left_one, left_none}
use Rattle.work.specs.Onward.{branch, gives}
use Rattle.posterior.specs.Steps.{refused, goes_on}
use Rattle.posterior.specs.declared.integrand.Point.{Point}
use Rattle.posterior.specs.Integrand.{Eval, at}
use Rattle.mode.specs.declared.Guess.{Guess}
use Rattle.mode.specs.Mode.{allowed_of, steps_tolerance, narrowed_of, passes}
use Rattle.mode.proofs.steps.Goals as goal

pub returns-in_err-v : goal.returns-in_err-v
unfolding passes
returns-in_err-v c = rw (← c.loop.invariant, left_one 100 c.loop.counter c.loop-test.true) (refused at _ _ _ _ _ _ c.in_err-v.ensures c.from_residual.ensures.1)

pub returns-then-abs-allowed : goal.returns-then-abs-allowed
unfolding passes
returns-then-abs-allowed c = rw (← c.loop.invariant, left_one 100 c.loop.counter c.loop-test.true, goes_on at _ _ _ _ _ c.in_ok-v.ensures, branch, ← c.abs.ensures, ← c.allowed.ensures, c.if-abs-allowed.true, gives)

turn : (here : Float → Eval) (k : ℕ) (m n : Meter) (g h : Guess) (v : Point) → Did at (eval (here g.at)) m (Ok v) n → le (abs_of v.slope) (allowed_of steps_tolerance g.at) ≡ false → h ≡ narrowed_of g v.slope v.curvature → by at m (passes here (suc k) g) ≡ by at n (passes here k h)
unfolding passes
turn here k m n g h v d t e = rw (goes_on at m n _ _ v d, branch, t, e)

pub loop-preserved : goal.loop-preserved
loop-preserved c = sym (turn _ _ _ _ _ _ _ c.in_ok-v.ensures (rw (← c.abs.ensures, ← c.allowed.ensures) c.if-abs-allowed.false) c.narrowed-g.ensures) ∙ (rw (left_one 100 c.loop.counter c.loop-test.true) at c.loop.invariant)

pub returns : goal.returns
unfolding passes
returns c = rw (← c.loop.invariant, left_none 100 c.loop.counter c.loop-test.false, gives)
