-- A value in two coordinates, and the same among four: the second and the fourth hold it, the first and the third are zero.
use Rattle.std.specs.Prelude.{List, [], ◌∷◌, Float}
use Rattle.num.specs.F64.{zero·}
use Rattle.value.specs.declared.Totals.{Totals}
use Rattle.planar.specs.declared.Planar.{Planar}

abbrev pub no_planar : Planar
no_planar = record { nll = zero·; x = zero·; y = zero·; xx = zero·; xy = zero·; yy = zero· }

abbrev pub among_four_of : Float → Float → List Float
among_four_of x y = zero· ∷ x ∷ zero· ∷ y ∷ []

abbrev pub widened_of : Planar → Totals
widened_of v =
    let o = zero· in
    record {
      nll = v.nll;
      gradient = among_four_of v.x v.y;
      hessian = o ∷ o ∷ o ∷ o ∷ o ∷ v.xx ∷ o ∷ v.xy ∷ o ∷ o ∷ o ∷ o ∷ o ∷ v.xy ∷ o ∷ v.yy ∷ [];
      refinement = o;
    }
