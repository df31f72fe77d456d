-- The answers for `read_more`.
use Rattle.std.proofs.Common.{sym, ◌∙◌, arith}
use Rattle.template.proofs.TokenLaws.{more_large, more_goes, more_stops}
use Rattle.template.proofs.token.read_more.Goals as goal

pub returns-then-value-ge4294967296 : goal.returns-then-value-ge4294967296
returns-then-value-ge4294967296 c = sym (more_large _ _ _ _ c.in-Some.ensures c.if-value-ge4294967296.true) ∙ c.loop-digit.invariant.0

pub loop-digit-preserved : goal.loop-digit-preserved
loop-digit-preserved c = (sym (more_goes _ _ _ _ c.in-Some.ensures (omega arith)) ∙ c.loop-digit.invariant.0, omega arith)

pub returns : goal.returns
returns c = sym (more_stops _ _ c.in_default.ensures) ∙ c.loop-digit.invariant.0
