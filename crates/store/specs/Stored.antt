-- Values stored into a buffer from its start on.
use Rattle.std.specs.Prelude.{List, ◌++◌, length, drop}

-- the values, then what stood after their places
unfoldable pub stored : {A : Type 0} → List A → List A → List A
stored l vs = vs ++ drop (length vs) l
