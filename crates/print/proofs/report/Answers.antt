-- `print::report` meets its contract: a status, the numbers, the marks.
use Prim.Native.Nat.{◌+◌, ◌≤◌}
use native.Mathlib.Omega.{arith}
use Rattle.print.proofs.Laws.{numbers_most, report_length, report_text_lem}
use Rattle.print.proofs.report.Goals as goal

pub active-requires : goal.active-requires
active-requires c = let h : c.put-second.result ≤ c.text-first.result + 308 = search numbers_most in omega arith

pub returns-clause-length : goal.returns-clause-length
returns-clause-length c = search report_length

pub returns-clause-text : goal.returns-clause-text
returns-clause-text c = search report_text_lem
