-- The sums after some nodes of a panel, one after another; no evaluation is counted.
use Rattle.std.specs.Prelude.{List, ℕ, zero, suc, ◌+◌, get_or, Float}
use Rattle.legendre.specs.declared.Pair.{Pair}
use Rattle.posterior.specs.declared.integrand.Posterior.{Posterior}
use Rattle.posterior.specs.declared.integrand.Point.{Point}
use Rattle.posterior.specs.Integrand.{integrand_of}
use Rattle.nodes.specs.Node.{added_of, no_pair, node_of, weight_of}

-- n nodes of the panel, from node i on; top is the logarithm at the mode
unfoldable pub nodes_from : (Float → Point) → List Pair → Float → Float → Float → ℕ → ℕ → List Float → List Float
nodes_from at rule top center width zero i s = s
nodes_from at rule top center width (suc n) i s =
    let v = at (node_of center width (get_or rule i no_pair)) in
    nodes_from at rule top center width n (i + 1) (added_of s (weight_of width (get_or rule i no_pair) v.log top) v.moments)

unfoldable pub sixteen_of : Posterior → List Pair → Float → Float → Float → List Float → List Float
sixteen_of p rule top center width s = nodes_from (integrand_of p.successes p.total p.mean p.sd) rule top center width 16 0 s
