-- Bytes that passed the test have the shape.
use Rattle.std.specs.Prelude.{◌≡◌, Bool, true, List, ℕ}
use Rattle.std.proofs.Common.{sym, ◌∙◌}
use Rattle.archive.specs.Layout.{shaped_of}
use Rattle.archive.specs.Shaped.{Shaped, shape_holds}

pub has_shape : (b : List ℕ) (t : Bool) → t ≡ shaped_of b → t ≡ true → Shaped b
has_shape b t e h = shape_holds b (sym e ∙ h)
