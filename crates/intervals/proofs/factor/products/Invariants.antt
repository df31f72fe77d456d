-- `factor::products` meets its contract, as the products still to come make of the sum so far the whole.
use mathlib.Core.Path.{◌≡◌}
use Prim.Native.Nat.{◌-◌}
use Rattle.num.specs.Fold.{fold_from}
use Rattle.intervals.specs.Factor.{with_product_of, products_of}
use Rattle.intervals.proofs.factor.products.Given as goal

abbrev pub invariant-loop-k : goal.invariant-loop-k
invariant-loop-k l = fold_from (with_product_of l.lower l.i l.j) (l.j - l.k) l.k l.sum ≡ products_of l.lower l.i l.j
