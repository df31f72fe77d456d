-- The answers for `inner_value`: what is left is a part of the text.
use Rattle.std.proofs.Common.{sym}
use Rattle.template.specs.Said.{value_rest}
use Rattle.inner.proofs.inner_value.Goals as goal

pub overflow_sub-out : goal.overflow_sub-out
overflow_sub-out c = value_rest _ _ _ (sym c.in-Some.ensures)
