-- Parts, then the answer's bytes: what an answering call makes of a lent state, and that every cut of a text gets the answer to the whole.
use Rattle.std.specs.Prelude.{◌≡◌, Bool, cond, ◌&&◌, List, ℕ, leb, length, take, get_or, set}
use Rattle.std.proofs.Common.{ap}
use Rattle.render.specs.Written.{written}
use Rattle.print.specs.Room.{room}
use Rattle.text.specs.Answer.{answer_to, answer_text}
use Rattle.store.specs.Given.{agree}
use Rattle.parts.specs.Lent.{is_sized_of}
use Rattle.parts.specs.Joined.{joined, reader_after}
use Rattle.parts.specs.Joined.{in_parts as reads}
use Rattle.parts.specs.JoinedLent.{state_after}
use Rattle.parts.specs.JoinedLent.{in_parts as reads_lent}

-- a call's value, the counts after it, and what stands in its buffer
pub record Answered : Type 0 where
  pub value : ℕ
  pub counts : List ℕ
  pub out : List ℕ

abbrev pub answered : ℕ → List ℕ → List ℕ → Answered
answered value counts out = record { value = value; counts = counts; out = out }

unfoldable pub answer_room_of : ℕ → ℕ → ℕ → Bool
answer_room_of held counts out = is_sized_of held counts && leb room out

-- the answer to a text: its length, and its bytes; the state is finished
abbrev pub answers : List ℕ → List ℕ → List ℕ → Answered
answers t c o = answered (length t) (set c 1 1) (written o 0 t)

-- 0 for a wrong size, or a short buffer: then nothing is written
unfoldable pub answer_in : List ℕ → List ℕ → List ℕ → Answered
answer_in b c o = cond (answer_room_of (length b) (length c) (length o)) (answers (answer_text (take (get_or c 0 0) b)) c o) (answered 0 c o)

-- ---- any list of parts

pub answer_in_parts : (ps : List (List ℕ)) → let r = reader_after ps in answer_text (take r.n r.bytes) ≡ answer_text (joined ps)
unfolding answer_text
answer_in_parts ps = ap answer_to (reads ps)

pub lent_answer_in_parts : (ps : List (List ℕ)) → let s = state_after ps in answer_text (take (get_or s.counts 0 0) s.buffer) ≡ answer_text (joined ps)
unfolding answer_text
lent_answer_in_parts ps = ap answer_to (reads_lent ps)

-- ---- no second answer meets the contract

pub one_answered : (s : Answered) (r t : ℕ) (c d o p : List ℕ) → answered r c o ≡ s → answered t d p ≡ s → (r ≡ t) × (c ≡ d) × (o ≡ p)
one_answered s r t c d o p h g = (agree (λ (x : Answered). x.value) s _ _ h g, agree (λ (x : Answered). x.counts) s _ _ h g, agree (λ (x : Answered). x.out) s _ _ h g)
