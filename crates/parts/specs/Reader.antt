-- A reader of parts: what each call makes of it. It keeps the first 8,193 bytes of a text.
use Rattle.std.specs.Prelude.{true, false, cond, List, ℕ, ◌+◌, length, replicate, Result, Ok, Err}
use Rattle.std.proofs.Math.Seq.{paste}
use Rattle.template.specs.declared.read.Form.{Form}
use Rattle.parts.specs.declared.reader.Reader.{Reader}
use Rattle.parts.specs.Kept.{room_for_of}

unfoldable pub fresh_of : Reader
fresh_of = record { bytes = replicate 8193 0; n = 0; finished = false }

abbrev pub with_part : Reader → List ℕ → Reader
with_part r p = record { bytes = paste r.bytes r.n p (room_for_of r.n (length p)); n = r.n + room_for_of r.n (length p); finished = false }

-- after finishing a part is refused, and the reader stays as it was
unfoldable pub part_of : Reader → List ℕ → Reader
part_of r p = cond r.finished r (with_part r p)

unfoldable pub taken_of : Reader → Result (Unit {0}) Form
taken_of r = cond r.finished (Err (record { line = 0 })) (Ok tt)

abbrev pub finished_of : Reader → Reader
finished_of r = record { bytes = r.bytes; n = r.n; finished = true }
