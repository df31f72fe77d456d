-- `Counts::with` meets its contract, group by group.
use Rattle.summary.specs.Both.{one_of}
use Rattle.summary.proofs.Counts.with.Goals as goal

pub returns-clause-counts : goal.returns-clause-counts
unfolding one_of
returns-clause-counts c = λ j. record { first = c.with.ensures.counts j; second = c.with-2.ensures.counts j }

pub returns-clause-grown : goal.returns-clause-grown
returns-clause-grown c = λ k w. record { first = c.with.ensures.grown k w.first; second = c.with-2.ensures.grown k w.second }
