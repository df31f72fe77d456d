-- The answers for `Summand::left_side`: where there is a panel, the rest goes on from the first.
use Rattle.std.specs.Prelude.{◌≡◌, ℕ, suc, ◌-◌, ◌<◌}
use Rattle.std.proofs.Common.{arith}
use Rattle.posterior.specs.Steps.{refused, goes_on}
use Rattle.posterior.specs.Integrand.{at}
use Rattle.panel.specs.Panel.{panels}
use Rattle.panel.proofs.Summand.left_side.Goals as goal

first_and_rest : (n : ℕ) → 0 < n → n ≡ suc (n - 1)
first_and_rest n h = omega arith

pub returns-in_err-s : goal.returns-in_err-s
unfolding panels
returns-in_err-s c = rw (first_and_rest c.args.panels c.if-panels-gt0.true, ← c.center.ensures) (refused at _ _ _ _ _ _ c.in_err-s.ensures c.from_residual.ensures.1)

pub returns-then-not-sixteen_left : goal.returns-then-not-sixteen_left
unfolding panels
returns-then-not-sixteen_left c = rw (first_and_rest c.args.panels c.if-panels-gt0.true, ← c.center.ensures, goes_on at _ _ _ _ _ c.in_ok-s.ensures) c.side.ensures
