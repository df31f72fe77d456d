-- One rule's sums: sixteen nodes a panel, both sides of the mode, left side first.
use Rattle.std.specs.Prelude.{List, ℕ, zero, suc, ◌+◌, get_or, replicate, Float}
use Rattle.num.specs.F64.{◌⊕◌, ◌⊖◌, ◌⊗◌, ◌⊘◌, whole, zero·, half·}
use Rattle.work.specs.Work.{Work, ret, eval, ◌>>=◌}
use Rattle.legendre.specs.declared.Pair.{Pair}
use Rattle.posterior.specs.declared.integrand.Point.{Point}
use Rattle.posterior.specs.Integrand.{Eval}
use Rattle.nodes.specs.Node.{added_of, no_pair, node_of, weight_of}
use Rattle.panel.specs.declared.Hump.{Hump}

-- n nodes of the panel, from node i on; top is the logarithm at the mode
unfoldable pub nodes : (Float → Eval) → List Pair → Float → Float → Float → ℕ → ℕ → List Float → Work Eval Point (List Float)
nodes here rule top center width zero i s = ret s
nodes here rule top center width (suc n) i s = do
  v ← eval (here (node_of center width (get_or rule i no_pair)))
  nodes here rule top center width n (i + 1) (added_of s (weight_of width (get_or rule i no_pair) v.log top) v.moments)

-- where the i-th panel of a side lies that starts at a
abbrev pub center_of : Float → Float → ℕ → Float
center_of a width i = a ⊕ (whole i ⊕ half·) ⊗ width

-- n panels of the side that starts at a, from panel i on
unfoldable pub panels : (Float → Eval) → List Pair → Float → Float → Float → ℕ → ℕ → List Float → Work Eval Point (List Float)
panels here rule top a width zero i s = ret s
panels here rule top a width (suc n) i s = do
  t ← nodes here rule top (center_of a width i) width 16 0 s
  panels here rule top a width n (i + 1) t

abbrev pub no_sums : List Float
no_sums = replicate 6 zero·

-- a panel's width, of m from a to b
abbrev pub width_of : Float → Float → ℕ → Float
width_of a b m = (b ⊖ a) ⊘ whole m

-- both sides with m panels each
unfoldable pub sides : (Float → Eval) → List Pair → Hump → ℕ → Work Eval Point (List Float)
sides here rule h m = do
  s ← panels here rule h.log h.left (width_of h.left h.mode m) m 0 no_sums
  panels here rule h.log h.mode (width_of h.mode h.right m) m 0 s
