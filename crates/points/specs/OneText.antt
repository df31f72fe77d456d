-- No second answer meets a contract over a text: what is read by a template, a request, a rendering, an answer, each with its lent buffer.
use Rattle.std.specs.Prelude.{◌≡◌, refl, false, List, ℕ, ◌+◌, ◌-◌, ◌≤◌, ◌<◌, ltb, length, take, Option, Some, None, MatchOption, Result}
use Rattle.std.specs.Borrow.{Bor}
use Rattle.std.proofs.Common.{sym, ◌∙◌, true≢false, ltb-true, ltb-false}
use borrow.Table.Steps.{cases}
use Rattle.num.specs.F64.{bits, bits_of}
use Rattle.template.specs.DigitLaws.{not_found}
use Rattle.fit.specs.declared.report.Fit.{Fit}
use Rattle.fit.specs.declared.report.Refused.{Refused}
use Rattle.template.specs.declared.read.Form.{Form}
use Rattle.template.specs.declared.read.Filled.{Filled}
use Rattle.template.specs.Digits.{digits}
use Rattle.template.specs.Template.{first, render}
use Rattle.template.specs.Field.{is_digit_of, is_hex_of, hex_value_of, Field}
use Rattle.template.specs.Says.{Digit, HexDigit, field_of}
use Rattle.template.specs.OneAnswer.{said, Meets, one_read, one_digit, one_hex_digit}
use Rattle.read.specs.Request.{read_request}
use Rattle.read.specs.Rows.{fill_request, asking_of}
use Rattle.parts.specs.declared.reader.Reader.{Reader}
use Rattle.parts.specs.Reader.{fresh_of, part_of, taken_of, finished_of}
use Rattle.render.specs.Written.{written}
use Rattle.print.specs.Answer.{refusal_text, fit_text}
use Rattle.print.specs.Room.{room}
use Rattle.text.specs.Answer.{request_in, answer_text}
use Rattle.claimed.specs.Claimed.{read_claimed}
use Rattle.claimed.specs.Claiming.{claiming_of, fill_claimed}
use Rattle.vet_text.specs.Answer.{vet_text}
use Rattle.points.specs.OneAnswer.{One0, One1, One2, One3, One4, One5, one_answer, one0, one1, one2, one3, one4, one5}

-- what is read at a text's front, and the text that is left; where that lies in memory no contract says
abbrev pub seen : Option (ℕ × Bor (List ℕ)) → Option (ℕ × List ℕ)
seen (Some p) = Some (p.0, p.1.now)
seen None = None

pub of_bytes : One1 is_digit_of × One1 is_hex_of × One1 hex_value_of × One1 (λ c. c - 48)
of_bytes = (one1 _, one1 _, one1 _, one1 _)

pub of_digit : (text : List ℕ) (r s : Option (ℕ × Bor (List ℕ))) → MatchOption r (is_digit_of (first text) ≡ false) (λ p. Digit text p.0 p.1.now) → MatchOption s (is_digit_of (first text) ≡ false) (λ p. Digit text p.0 p.1.now) → seen r ≡ seen s
of_digit text (Some p) (Some q) a b = let e = one_digit text p.0 q.0 p.1.now q.1.now a b in rw (e.0, e.1)
of_digit text (Some p) None a b = absurd (true≢false (sym a.is_digit ∙ b))
of_digit text None (Some q) a b = absurd (true≢false (sym b.is_digit ∙ a))
of_digit text None None a b = refl

pub of_hex_digit : (text : List ℕ) (r s : Option (ℕ × Bor (List ℕ))) → MatchOption r (is_hex_of (first text) ≡ false) (λ p. HexDigit text p.0 p.1.now) → MatchOption s (is_hex_of (first text) ≡ false) (λ p. HexDigit text p.0 p.1.now) → seen r ≡ seen s
of_hex_digit text (Some p) (Some q) a b = let e = one_hex_digit text p.0 q.0 p.1.now q.1.now a b in rw (e.0, e.1)
of_hex_digit text (Some p) None a b = absurd (true≢false (sym a.is_hex ∙ b))
of_hex_digit text None (Some q) a b = absurd (true≢false (sym b.is_hex ∙ a))
of_hex_digit text None None a b = refl

-- a number, a count, a byte: what `field_of` says of the answer fixes it
pub of_token : (f : Field) (r s : Option (ℕ × Bor (List ℕ))) → field_of r ≡ f → field_of s ≡ f → seen r ≡ seen s
of_token f (Some p) (Some q) a b =
    let v : p.0 ≡ q.0 = cc (a, b) in
    let t : p.1.now ≡ q.1.now = cc (a, b) in
    rw (v, t)
of_token f (Some p) None a b = absurd (not_found p.0 p.1.now (b ∙ sym a))
of_token f None (Some q) a b = absurd (not_found q.0 q.1.now (a ∙ sym b))
of_token f None None a b = refl

-- a text read by a template: the values, the next line's number and what is left, or the line at which it departs
pub of_template : (template : List ℕ) (first : ℕ) (text : List ℕ) (r s : Result Filled Form) → Meets template first text r → Meets template first text s → said r ≡ said s
of_template = one_read

-- the answer, and the litters' buffer
pub of_read : One1 (λ (text : List ℕ). asking_of 0 (read_request text)) × One2 fill_request
of_read = (one1 _, one2 _)

-- the reader of parts: a new one, what a part is answered, the reader after it and after finishing, and what is read of what it keeps
pub of_parts : One0 fresh_of × One1 taken_of × One2 part_of × One1 finished_of × One1 (λ (r : Reader). asking_of 0 (read_request (take r.n r.bytes))) × One2 (λ (b : List ℕ) (r : Reader). fill_request b (take r.n r.bytes))
of_parts = (one0 _, one1 _, one2 _, one1 _, one1 _, one2 _)

-- of `digits`, `text` and `put` the place after, and the buffer
pub of_render :
    One2 (λ (at k : ℕ). at + k) × One5 (λ (base k n : ℕ) (out : List ℕ) (at : ℕ). written out at (digits base k n)) ×
    One2 (λ (s : List ℕ) (at : ℕ). at + length s) × One3 written ×
    One3 (λ (template values : List ℕ) (at : ℕ). at + length (render template values)) × One4 (λ (template values out : List ℕ) (at : ℕ). written out at (render template values))
of_render = (one2 _, one5 _, one2 _, one3 _, one3 _, one4 _)

pub of_print :
    One1 bits_of × One3 (λ (number count reason : ℕ). length (refusal_text number count reason)) × One4 (λ (number count reason : ℕ) (out : List ℕ). written out 0 (refusal_text number count reason)) ×
    One1 (λ (f : Result Fit Refused). length (fit_text f)) × One2 (λ (f : Result Fit Refused) (out : List ℕ). written out 0 (fit_text f))
of_print = (one1 _, one3 _, one4 _, one1 _, one2 _)

-- a number of its bits, and the request of a text's numbers
pub of_request_in : One1 bits × One1 request_in
of_request_in = (one1 _, one1 _)

-- a request with a claim: what is read, and the litters in the buffer
pub of_claimed : One1 (λ (text : List ℕ). claiming_of (read_claimed text)) × One2 fill_claimed
of_claimed = (one1 _, one2 _)

-- `answer` and `probit_text` have two clauses, by the buffer's room, and so has the verdict's `answer`; `said` is the whole answer
abbrev pub Answers : List ℕ → List ℕ → ℕ → List ℕ → Type 0
Answers said out n end = (length out < room → (n ≡ 0) × (end ≡ out)) × (room ≤ length out → (n ≡ length said) × (end ≡ written out 0 said))

one_said : (said out : List ℕ) (n m : ℕ) (a b : List ℕ) → Answers said out n a → Answers said out m b → (n ≡ m) × (a ≡ b)
one_said said out n m a b p q =
    cases (ltb (length out) room)
    (λ t.
    let h = ltb-true (length out) room t in
    (one_answer 0 n m (p.0 h).0 (q.0 h).0, one_answer out a b (p.0 h).1 (q.0 h).1))
    (λ t.
    let h = ltb-false (length out) room t in
    (one_answer (length said) n m (p.1 h).0 (q.1 h).0, one_answer (written out 0 said) a b (p.1 h).1 (q.1 h).1))

pub of_answer : (text out : List ℕ) (n m : ℕ) (a b : List ℕ) → Answers (answer_text text) out n a → Answers (answer_text text) out m b → (n ≡ m) × (a ≡ b)
of_answer text = one_said (answer_text text)

pub of_verdict : (text out : List ℕ) (n m : ℕ) (a b : List ℕ) → Answers (vet_text text) out n a → Answers (vet_text text) out m b → (n ≡ m) × (a ≡ b)
of_verdict text = one_said (vet_text text)
