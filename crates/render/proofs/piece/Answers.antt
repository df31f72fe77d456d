-- `render::piece` meets its contract.
use borrow.Author.Rules.{rules}
use Rattle.render.specs.WrittenLaws.{by_text}
use Rattle.render.proofs.Laws.{same_written, ends_count, ends_bits, ends_byte, by_byte, as_count, as_bits, room_count, room_bits, room_byte}
use Rattle.render.proofs.piece.Goals as goal

pub digits-requires : goal.digits-requires
digits-requires c = search (room_count, rules)

pub shape_of-out-in-35 : goal.shape_of-out-in-35
shape_of-out-in-35 c = search same_written

pub returns-in-35 : goal.returns-in-35
returns-in-35 c = search (ends_count, by_text, as_count)

pub digits-requires-in-37 : goal.digits-requires-in-37
digits-requires-in-37 c = search (room_bits, rules)

pub shape_of-out-in-37 : goal.shape_of-out-in-37
shape_of-out-in-37 c = search same_written

pub returns-in-37 : goal.returns-in-37
returns-in-37 c = search (ends_bits, by_text, as_bits)

pub bounds-out-at : goal.bounds-out-at
bounds-out-at c = search (room_byte, rules)

pub overflow_add-result : goal.overflow_add-result
overflow_add-result c = search (room_byte, rules)

pub returns-in_default : goal.returns-in_default
returns-in_default c = search (ends_byte, by_byte)
