-- `all_finite` meets its contract, by what the chain says of each number.
use Rattle.std.proofs.Common.{◌≡◌, true, false, rules}
use Rattle.std.proofs.lemmas.Iterator.{cases_from_all, YieldsList-from_slice}
use borrow.Author.Tests.{tests}
use Rattle.num.specs.Helpers.{is_finite_of}
use Rattle.finite.proofs.Laws.{by_cases}
use Rattle.finite.proofs.all_finite.Goals as goal

pub returns : goal.returns
returns c =
    by_cases c.args.v.now c.all.result
    (cases_from_all _ _ _ (λ x. is_finite_of x ≡ true) (λ x. is_finite_of x ≡ false) c.all.ensures.ran (YieldsList-from_slice c.args.v.now cc) (λ x q k. search (rules, tests)) (λ x q k. search (rules, tests)))
