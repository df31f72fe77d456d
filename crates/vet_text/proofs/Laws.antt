-- From what was read to what is printed: each way that a verdict is found.
use mathlib.Core.Path.{◌≡◌, refl, sym, ◌∙◌}
use mathlib.Core.List.{List}
use Prim.Native.Nat.{ℕ, ◌+◌, ◌*◌, ◌≤◌, ◌<◌}
use native.Mathlib.Omega.{arith}
use lib.ListN.{length, take}
use Rattle.read.specs.Rows.{put_litters}
use Rattle.print.specs.Answer.{refusal_text}
use Rattle.text.specs.Answer.{request_in}
use Rattle.text.specs.Kept.{kept_litters}
use Rattle.vet.specs.Vet.{vet_of}
use Rattle.std.specs.Prelude.{Ok, Err}
use Rattle.template.specs.declared.read.Form.{Form}
use Rattle.claimed.specs.declared.Claiming.{Claiming}
use Rattle.claimed.specs.Claimed.{Claims, claims, departed, read_claimed}
use Rattle.claimed.specs.Claiming.{five, claiming_of, fill_claimed, claimed_filled}
use Rattle.vet_text.specs.Answer.{claim_in, vetted_text, vet_to, vet_text}
use Rattle.vet_text.specs.Answered.{many_answer}

-- ---- the three ways

-- the claim's places are its values
claim_places : (us : List ℕ) → claim_in (five us) ≡ claim_in us
unfolding claim_in
claim_places us = refl

-- beside what is claimed, q, the answer a and the buffer that the code has
module _ (b buf : List ℕ) where
  form_of : (e : Form) (q : Claims) → Err e ≡ claiming_of q → vet_to q ≡ refusal_text 4 0 e.line
  form_of e (departed k) s = let i : e ≡ record { line = k } = cc in rw i
  form_of e (claims vs ls us) s = cc

  many_of : (a : Claiming) (q : Claims) → Ok a ≡ claiming_of q → 128 < a.asking.count → vet_to q ≡ refusal_text 1 0 0
  many_of a (departed k) s h = cc
  many_of a (claims vs ls us) s h =
      let i : a ≡ record { asking = record { count = length ls; values = vs }; claim = five us } = cc in
      let e : a.asking.count ≡ length ls = rw i in
      many_answer vs us ls (omega arith)

  vet_of_lem :
      (a : Claiming) (text : List ℕ) (q : Claims) → read_claimed text ≡ q → Ok a ≡ claiming_of q → buf ≡ fill_claimed b text → length b ≡ 384 → a.asking.count ≤ 128 →
      vet_to q ≡ vetted_text (vet_of (request_in a.asking.values) (take (3 * a.asking.count) buf) (claim_in a.claim))
  vet_of_lem a text (departed k) t s u l h = cc
  vet_of_lem a text (claims vs ls us) t s u l h =
      let i : a ≡ record { asking = record { count = length ls; values = vs }; claim = five us } = cc in
      let e : a.asking.count ≡ 0 + length ls = rw i (omega arith) in
      let v : a.asking.values ≡ vs = rw i in
      let c : a.claim ≡ five us = rw i in
      let w : buf ≡ put_litters b 0 ls = u ∙ claimed_filled b text vs ls us t in
      rw (v, c, w, e, kept_litters b 0 ls l (omega arith), claim_places us)

  module _ (text : List ℕ) where
    pub answer_form : (e : Form) → Err e ≡ claiming_of (read_claimed text) → refusal_text 4 0 e.line ≡ vet_text text
    unfolding vet_text
    answer_form e s = sym (form_of e (read_claimed text) s)

    pub answer_many : (a : Claiming) → Ok a ≡ claiming_of (read_claimed text) → 128 < a.asking.count → refusal_text 1 0 0 ≡ vet_text text
    unfolding vet_text
    answer_many a s h = sym (many_of a (read_claimed text) s h)

    pub answer_vet : (a : Claiming) → Ok a ≡ claiming_of (read_claimed text) → buf ≡ fill_claimed b text → length b ≡ 384 → a.asking.count ≤ 128 → vetted_text (vet_of (request_in a.asking.values) (take (3 * a.asking.count) buf) (claim_in a.claim)) ≡ vet_text text
    unfolding vet_text
    answer_vet a s u l h = sym (vet_of_lem a text (read_claimed text) refl s u l h)
