-- The logarithm of every factorial is an f64, written in the one way: each way through its steps ends in an operation or in a constant.
use Rattle.std.specs.Prelude.{Bool, true, false, cond, ℕ, zero, suc, T, Float}
use Rattle.std.specs.Float.{binary64}
use Rattle.std.specs.Float.Ieee.{le, fits}
use Rattle.std.specs.Float.Ieee.Fits.{cond-fits, nan-fits, neg-fits, add-fits, sub-fits, mul-fits}
use Rattle.std.specs.Float.Ieee.Bits.{of_bits-fits}
use Rattle.num.specs.F64.{◌⊖◌, ◌⊗◌, one·, whole}
use Rattle.elementary.specs.declared.lgamma.Factors.{Factors}
use Rattle.elementary.specs.Log.{log_of, log_small}
use Rattle.elementary.specs.Lgamma.{lgamma_of, lgamma_below_one, lgamma_by_product, product_of, product_from}
use Rattle.factorial.specs.Factorial.{log_factorial_of}

abbrev F64 : Float → Type 0
F64 x = T (fits binary64 x)

ruleset ends = (cond-fits, nan-fits, neg-fits, add-fits, sub-fits, of_bits-fits)

small_fits : (x : Float) → F64 (log_small x)
unfolding log_small
small_fits x = search ends

log_fits : (x : Float) → F64 x → F64 (log_of x)
unfolding log_of
log_fits x h = search (ends, small_fits)

chosen_fits : (t : Bool) (f g : Factors) → F64 f.p → F64 g.p → F64 (cond t f g).p
chosen_fits true f g h k = h
chosen_fits false f g h k = k

product_fits : (n : ℕ) (y p : Float) → F64 p → F64 (product_from n y p).p
unfolding product_from
product_fits zero y p h = h
product_fits (suc n) y p h = chosen_fits (le y one·) _ _ h (product_fits n (y ⊖ one·) (p ⊗ y) (mul-fits binary64 p y))

below_one_fits : (x : Float) → F64 (lgamma_below_one x)
unfolding lgamma_below_one
below_one_fits x = search ends

by_product_fits : (x : Float) → F64 (lgamma_by_product x)
unfolding lgamma_by_product product_of
by_product_fits x =
    let l = log_fits (product_from 22 (x ⊖ one·) one·).p (product_fits 22 (x ⊖ one·) one· (of_bits-fits binary64 _)) in
    search ends

lgamma_fits : (x : Float) → F64 x → F64 (lgamma_of x)
unfolding lgamma_of
lgamma_fits x h = search (ends, below_one_fits, by_product_fits)

pub log_factorial_fits : (n : ℕ) → T (fits binary64 (log_factorial_of n))
unfolding log_factorial_of
log_factorial_fits n = lgamma_fits _ (add-fits binary64 (whole n) one·)
