-- Bytes put into a buffer, one after the other.
use Rattle.std.specs.Prelude.{List, [], ◌∷◌, ℕ, ◌+◌, set}

-- l with bs put in from place `at` on
unfoldable pub written : List ℕ → ℕ → List ℕ → List ℕ
written l at [] = l
written l at (b ∷ bs) = written (set l at b) (at + 1) bs
