-- A sign turned goes through a quotient.
use Rattle.std.specs.Prelude.{◌≡◌, refl, Bool, true, false, not, Float}
use Rattle.std.specs.Float.{Format, nan, inf, fin}
use Rattle.std.specs.Float.Ieee.{neg, div, unlike}
use Rattle.order.specs.Negation.{cond_neg, round_neg}

unlike_left : (s t : Bool) → unlike (not s) t ≡ not (unlike s t)
unlike_left true true = refl
unlike_left true false = refl
unlike_left false true = refl
unlike_left false false = refl

pub neg_div : (f : Format) (x y : Float) → div f (neg x) y ≡ neg (div f x y)
unfolding neg div
neg_div f nan y = refl
neg_div f (inf s) nan = refl
neg_div f (inf s) (inf t) = refl
neg_div f (inf s) (fin t n d) = rw (unlike_left s t)
neg_div f (fin s m e) nan = refl
neg_div f (fin s m e) (inf t) = rw (unlike_left s t)
neg_div f (fin s m e) (fin t n d) = rw (unlike_left s t, ← cond_neg, ← cond_neg, ← round_neg)
