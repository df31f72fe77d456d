-- A node of a panel: where it lies, what it weighs, and the sums with its moments.
use Rattle.std.specs.Prelude.{List, [], ◌∷◌, ℕ, get_or, Float}
use Rattle.std.specs.Float.{nan}
use Rattle.num.specs.F64.{◌⊕◌, ◌⊖◌, ◌⊗◌, half·}
use Rattle.elementary.specs.Exp.{exp_of}
use Rattle.legendre.specs.declared.Pair.{Pair}

abbrev added_at : List Float → Float → List Float → ℕ → Float
added_at s w m i = get_or s i nan ⊕ w ⊗ get_or m i nan

-- the sums with a node's moments, weighed
abbrev pub added_of : List Float → Float → List Float → List Float
added_of s w m = let at = added_at s w m in at 0 ∷ at 1 ∷ at 2 ∷ at 3 ∷ at 4 ∷ at 5 ∷ []

-- past the rule's end, which no panel reaches
abbrev pub no_pair : Pair
no_pair = record { x = nan; w = nan }

-- where a node lies, and its weight
abbrev pub node_of : Float → Float → Pair → Float
node_of center width r = center ⊕ half· ⊗ width ⊗ r.x

abbrev pub weight_of : Float → Pair → Float → Float → Float
weight_of width r log top = half· ⊗ width ⊗ r.w ⊗ exp_of (log ⊖ top)
