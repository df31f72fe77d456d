-- The answers for `read_hex`.
use Rattle.std.proofs.Common.{◌≡◌, ◌∙◌, arith, rules}
use Rattle.template.specs.Field.{departs}
use Rattle.template.specs.Says.{field_of}
use Rattle.template.proofs.TokenLaws.{hex_ends_here, hex_turns, hex_ends, hex_small, hex_fits}
use Rattle.template.proofs.token.read_hex.Goals as goal

pub returns-in_err-digit : goal.returns-in_err-digit
returns-in_err-digit c =
    let none : field_of c.from_residual.result ≡ departs = search rules in
    none ∙ hex_ends_here _ _ _ _ c.loop.invariant.0 (omega arith) c.in_err-digit.ensures

pub overflow_mul-value : goal.overflow_mul-value
overflow_mul-value c = omega (arith, hex_fits _ _ _ c.loop.invariant.1 (omega arith) (hex_small _ _ _ c.in_ok-digit.ensures))

pub overflow_add-value : goal.overflow_add-value
overflow_add-value c = omega (arith, hex_fits _ _ _ c.loop.invariant.1 (omega arith) (hex_small _ _ _ c.in_ok-digit.ensures))

pub loop-preserved : goal.loop-preserved
loop-preserved c = hex_turns _ _ _ _ c.loop.invariant.0 _ _ (omega arith) c.loop.invariant.1 c.in_ok-digit.ensures

pub returns : goal.returns
returns c = hex_ends _ _ _ _ c.loop.invariant.0 (omega arith)
