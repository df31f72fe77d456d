-- `num::sum` meets its contract: the sum so far, with the terms still to come, is the whole.
use mathlib.Core.Path.{◌≡◌}
use lib.ListN.{drop}
use Rattle.num.specs.Helpers.{sum_from, sum_of}
use Rattle.num.proofs.sum.Given as goal

abbrev pub invariant-loop-x : goal.invariant-loop-x
invariant-loop-x l = sum_from l.s (drop l.x-index l.terms) ≡ sum_of l.terms
