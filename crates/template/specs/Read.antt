-- Reading a text by a template: its values and what is left of the text, or the line at which the text departs from the template.
use Rattle.std.specs.Prelude.{cond, List, [], ◌∷◌, ◌++◌, ℕ, ◌+◌, eqb}
use Rattle.template.specs.Template.{is_count, is_bits, is_hole_of}
use Rattle.template.specs.Field.{Field, found, departs, read_count, read_byte}
use Rattle.template.specs.Decimal.{read_value}

-- what stands where the template has the byte c
unfoldable pub read_field : ℕ → List ℕ → Field
read_field c s = cond (is_count c) (read_count s) (cond (is_bits c) (read_value s) (read_byte c s))

pub data Reading : Type 0 where
  done : List ℕ → List ℕ → Reading
  departs_at : ℕ → Reading

abbrev pub kept : List ℕ → Reading → Reading
kept us (done vs t) = done (us ++ vs) t
kept us (departs_at line) = departs_at line

-- the value, if c stands for one
abbrev pub value_of : ℕ → ℕ → List ℕ
value_of c v = cond (is_hole_of c) (v ∷ []) []

-- the next byte's line
abbrev pub line_after_of : ℕ → ℕ → ℕ
line_after_of c line = cond (eqb c 10) (line + 1) line

-- how many LFs a text has
unfoldable pub feeds : List ℕ → ℕ
feeds [] = 0
feeds (c ∷ s) = cond (eqb c 10) 1 0 + feeds s

abbrev pub read_next : ℕ → ℕ → Field → (List ℕ → Reading) → Reading
read_next c line departs go = departs_at line
read_next c line (found v t) go = kept (value_of c v) (go t)

-- `line` is the number of the line at which s starts
unfoldable pub read : List ℕ → ℕ → List ℕ → Reading
read [] line s = done [] s
read (c ∷ f) line s = read_next c line (read_field c s) (read f (line_after_of c line))
