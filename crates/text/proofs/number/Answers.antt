-- `text::number` meets its contract.
use Rattle.text.proofs.Laws.{nan_bits_lem, some_bits}
use Rattle.text.proofs.number.Goals as goal

pub returns-then-bits-gt9218868437227405312 : goal.returns-then-bits-gt9218868437227405312
returns-then-bits-gt9218868437227405312 c = rw c.not_a_number.ensures (nan_bits_lem _ c.if-bits-gt9218868437227405312.true)

pub float_from_bits-result : goal.float_from_bits-result
float_from_bits-result c = some_bits _ c.if-bits-gt9218868437227405312.false
