-- The answers for `finish_in`, by its test.
use Rattle.std.proofs.Common.{sym, ap, not}
use Rattle.parts.specs.Lent.{status_of}
use Rattle.parts.proofs.Laws.{finish_wrong, finish_told}
use Rattle.parts.proofs.lent.finish_in.Goals as goal

pub returns-then-not-finish_room : goal.returns-then-not-finish_room
returns-then-not-finish_room c = finish_wrong _ _ _ _ _ c.finish_room.ensures.value (ap not c.if-not-finish_room.true)

pub returns-in-Ok : goal.returns-in-Ok
returns-in-Ok c =
    finish_told _ _ _ _ _ c.finish_room.ensures.value _ _ _ _ _ _ (ap not c.if-not-finish_room.false) c.request-a.ensures.value c.request-a.ensures.filled c.request_numbers.ensures c.put.ensures c.put-2.ensures (sym (ap status_of c.in-Ok.is))

pub returns-in-Err : goal.returns-in-Err
returns-in-Err c =
    finish_told _ _ _ _ _ c.finish_room.ensures.value _ _ _ _ _ _ (ap not c.if-not-finish_room.false) c.request-a.ensures.value c.request-a.ensures.filled c.request_numbers.ensures c.put.ensures c.put-2.ensures (sym (ap status_of c.in-Err.is))
