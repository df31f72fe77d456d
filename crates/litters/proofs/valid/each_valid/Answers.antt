-- `valid::each_valid` meets its contract, by what the chain says of each row.
use Rattle.std.proofs.Common.{◌≡◌, true, false, rules}
use Rattle.std.proofs.lemmas.Iterator.{cases_from_all, YieldsList-from_slice}
use borrow.Author.Tests.{tests}
use Rattle.litters.proofs.Laws.{row_valid, each_row}
use Rattle.litters.proofs.valid.each_valid.Goals as goal

pub returns : goal.returns
returns c =
    each_row c.args.litters.now c.rows.result.now c.rows.ensures.count c.rows.ensures.each c.all.result
    (cases_from_all _ _ _ (λ row. row_valid row ≡ true) (λ row. row_valid row ≡ false) c.all.ensures.ran (YieldsList-from_slice c.rows.result.now cc) (λ x q k. search (rules, tests)) (λ x q k. search (rules, tests)))
