-- The stages at all sixteen nodes: where they lie, the place on the probit scale, the integrand's logarithm below the mode's; and their additions in order.
use Rattle.std.specs.Prelude.{List, ℕ, get_or, Float}
use Rattle.std.specs.Float.{nan}
use Rattle.num.specs.F64.{◌⊕◌, ◌⊖◌, ◌⊗◌, half·}
use Rattle.num.specs.Fold.{fold_from}
use Rattle.num.specs.Values.{values}
use Rattle.normal.specs.Normal.{log_two_pi}
use Rattle.conditionals.specs.declared.Moments.{Moments}
use Rattle.conditionals.specs.Conditionals.{six_of}
use Rattle.legendre.specs.declared.Pair.{Pair}
use Rattle.nodes.specs.Node.{added_of, no_pair, node_of}

unfoldable pub places_of : Float → Float → List Pair → List Float
places_of center width rule = values (λ i. node_of center width (get_or rule i no_pair)) 16 0

unfoldable pub etas_of : Float → Float → List Float → List Float
etas_of mean sd z = values (λ i. mean ⊕ sd ⊗ get_or z i nan) 16 0

-- in the order of operations of `point_of` and `weight_of`
abbrev pub height_of : Float → Float → Float → Float
height_of log z top = log ⊖ half· ⊗ z ⊗ z ⊖ half· ⊗ log_two_pi ⊖ top

unfoldable pub heights_of : List Float → List Float → Float → List Float
heights_of log z top = values (λ i. height_of (get_or log i nan) (get_or z i nan) top) 16 0

-- all six moments of node i
abbrev pub moments_at : Moments → ℕ → List Float
moments_at m i = six_of (get_or m.first i nan) (get_or m.second i nan) (get_or m.third i nan) (get_or m.fourth i nan)

-- node i added
abbrev pub with_node_of : Float → List Pair → List Float → Moments → ℕ → List Float → List Float
with_node_of width rule e m i s = added_of s (half· ⊗ width ⊗ (get_or rule i no_pair).w ⊗ get_or e i nan) (moments_at m i)

unfoldable pub summed_of : Float → List Pair → List Float → Moments → List Float → List Float
summed_of width rule e m s = fold_from (with_node_of width rule e m) 16 0 s
