-- The reader as a state that a host lends: 8,193 bytes, and two counts, the bytes kept and whether the text is finished. What a call makes of them.
use Rattle.std.specs.Prelude.{Bool, cond, ◌&&◌, List, [], ◌∷◌, ◌++◌, ℕ, ◌+◌, eqb, leb, length, take, get_or, set, replicate, Result, Ok, Err}
use Rattle.std.proofs.Math.Seq.{paste}
use Rattle.store.specs.Stored.{stored}
use Rattle.template.specs.declared.read.Form.{Form}
use Rattle.read.specs.declared.Asking.{Asking}
use Rattle.read.specs.Request.{read_request}
use Rattle.read.specs.Rows.{fill_request, asking_of}
use Rattle.parts.specs.Kept.{room_for_of}

unfoldable pub is_sized_of : ℕ → ℕ → Bool
is_sized_of buffer counts = eqb buffer 8193 && eqb counts 2

-- ---- a part

-- a call's value, and the state after it
pub record Lent : Type 0 where
  pub value : ℕ
  pub buffer : List ℕ
  pub counts : List ℕ

abbrev pub lent : ℕ → List ℕ → List ℕ → Lent
lent value buffer counts = record { value = value; buffer = buffer; counts = counts }

abbrev pub with_in : List ℕ → List ℕ → List ℕ → ℕ → Lent
with_in b c p n = lent 0 (paste b n p (room_for_of n (length p))) (set c 0 (n + room_for_of n (length p)))

-- 1 for a wrong size, 4 after finishing: then nothing is written
unfoldable pub part_in_of : List ℕ → List ℕ → List ℕ → Lent
part_in_of b c p = cond (is_sized_of (length b) (length c)) (cond (eqb (get_or c 1 0) 0) (with_in b c p (get_or c 0 0)) (lent 4 b c)) (lent 1 b c)

-- ---- finishing

-- a call's value, the counts after it, and what stands in its two buffers
pub record Told : Type 0 where
  pub value : ℕ
  pub counts : List ℕ
  pub request : List ℕ
  pub litters : List ℕ

abbrev pub told : ℕ → List ℕ → List ℕ → List ℕ → Told
told value counts request litters = record { value = value; counts = counts; request = request; litters = litters }

unfoldable pub finish_room_of : ℕ → ℕ → ℕ → ℕ → Bool
finish_room_of buffer counts request litters = is_sized_of buffer counts && (leb 18 request && leb 384 litters)

abbrev four : List ℕ → ℕ → List ℕ
four l i = get_or l i 0 ∷ get_or l (i + 1) 0 ∷ get_or l (i + 2) 0 ∷ get_or l (i + 3) 0 ∷ []

-- the line, the number of litters, the head's sixteen values: zeros where a text has none
unfoldable pub request_numbers_of : Result Asking Form → List ℕ
request_numbers_of (Ok a) = 0 ∷ a.count ∷ (four a.values 0 ++ (four a.values 4 ++ (four a.values 8 ++ four a.values 12)))
request_numbers_of (Err e) = e.line ∷ replicate 17 0

-- 0 with a request, 4 for Form
abbrev pub status_of : Result Asking Form → ℕ
status_of (Ok a) = 0
status_of (Err e) = 4

-- what a text tells
abbrev pub tells : Result Asking Form → List ℕ → List ℕ → List ℕ → List ℕ → Told
tells a rows c q l = told (status_of a) (set c 1 1) (stored q (request_numbers_of a)) (stored l rows)

unfoldable pub told_of : List ℕ → List ℕ → List ℕ → List ℕ → Told
told_of text c q l = tells (asking_of 0 (read_request text)) (fill_request (replicate 384 0) text) c q l

unfoldable pub finish_in_of : List ℕ → List ℕ → List ℕ → List ℕ → Told
finish_in_of b c q l = cond (finish_room_of (length b) (length c) (length q) (length l)) (told_of (take (get_or c 0 0) b) c q l) (told 1 c q l)
