-- The answers for `to_table`.
use Rattle.std.proofs.Common.{sym, ◌∙◌, arith}
use Rattle.std.proofs.lemmas.List.{at_drop_more, at_drop_all}
use Rattle.litters.specs.Table.{no_litter, with_rows}
use Rattle.litters.proofs.table.to_table.Goals as goal

pub loop-i-preserved : goal.loop-i-preserved
loop-i-preserved c =
    let i = c.loop-i.i in
    let ls = c.args.litters.now in
    rw c.put_row.ensures (sym (at_drop_more (λ rest. with_rows rest i c.loop-i.numbers) ls i no_litter c.loop-i-test.true) ∙ c.loop-i.invariant)

pub returns : goal.returns
returns c =
    let l = c.loop-i in
    sym (at_drop_all (λ rest. with_rows rest l.i l.numbers) c.args.litters.now l.i c.loop-i-test.false) ∙ l.invariant
