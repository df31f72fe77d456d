-- The values of a function at places in a row.
use Rattle.std.specs.Prelude.{List, [], ◌∷◌, ℕ, zero, suc, ◌+◌}

-- n of them, from the i-th on
unfoldable pub values : {A : Type 0} → (ℕ → A) → ℕ → ℕ → List A
values g zero i = []
values g (suc n) i = g i ∷ values g n (i + 1)
