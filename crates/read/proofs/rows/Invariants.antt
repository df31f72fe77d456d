-- The lines still to come decide the whole; the litters before lie in the buffer.
use Rattle.std.proofs.Common.{◌≡◌, List, ℕ, ◌-◌}
use Rattle.read.specs.Request.{read_rows}
use Rattle.read.specs.Rows.{fill_rows, asking_of}
use Rattle.read.proofs.rows.Given as goal

abbrev pub invariant-loop-n : goal.invariant-loop-n
invariant-loop-n l = record {
  reads : (vs : List ℕ) → asking_of l.n (read_rows (8192 - l.n) vs l.start l.n l.rest) ≡ asking_of 0 (read_rows 8192 vs l.start 0 l.text);
  filled : fill_rows (8192 - l.n) l.n l.litters l.rest ≡ fill_rows 8192 0 l.initial.litters l.text;
}
