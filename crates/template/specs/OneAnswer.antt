-- No second answer meets the contract of the reading by a template: neither other values, nor another line, nor another rest of the text.
use Rattle.std.specs.Prelude.{◌≡◌, List, ℕ, ◌+◌, take, Result, Ok, Err, IfOk, IfErr}
use Rattle.std.proofs.Common.{sym, ap, ◌∙◌}
use Rattle.template.specs.declared.read.Filled.{Filled}
use Rattle.template.specs.declared.read.Form.{Form}
use Rattle.template.specs.Template.{holes}
use Rattle.template.specs.Read.{done, departs_at, feeds, read}
use Rattle.template.specs.Says.{Digit, HexDigit, in_places}
use Rattle.template.specs.BothWays.{not_done}

-- what an answer says: the values, the next line's number and what is left of the text; or the line at which it departs
pub data Said : Type 0 where
  filled : List ℕ → ℕ → List ℕ → Said
  departed : ℕ → Said

abbrev pub said : Result Filled Form → Said
said (Ok r) = filled r.values r.line r.rest.now
said (Err e) = departed e.line

-- what the contract promises of an answer
pub record Meets (template : List ℕ) (first : ℕ) (text : List ℕ) (result : Result Filled Form) : Type 0 where
  pub values : IfOk result (λ r. read template first text ≡ done (take (holes template) r.values) r.rest.now)
  pub places : IfOk result (λ r. r.values ≡ in_places (take (holes template) r.values))
  pub line : IfOk result (λ r. r.line ≡ first + feeds template)
  pub departs : IfErr result (λ e. read template first text ≡ departs_at e.line)

pub one_read : (template : List ℕ) (first : ℕ) (text : List ℕ) (r s : Result Filled Form) → Meets template first text r → Meets template first text s → said r ≡ said s
one_read template first text (Ok a) (Ok b) m n =
    let same : take (holes template) a.values ≡ take (holes template) b.values = cc (m.values, n.values) in
    let rest : a.rest.now ≡ b.rest.now = cc (m.values, n.values) in
    let values : a.values ≡ b.values = m.places ∙ ap in_places same ∙ sym n.places in
    let line : a.line ≡ b.line = m.line ∙ sym n.line in
    cc (values, line, rest)
one_read template first text (Ok a) (Err e) m n = absurd (not_done e.line _ _ (sym n.departs ∙ m.values))
one_read template first text (Err e) (Ok b) m n = absurd (not_done e.line _ _ (sym m.departs ∙ n.values))
one_read template first text (Err d) (Err e) m n =
    let line : d.line ≡ e.line = cc (m.departs, n.departs) in
    ap departed line

-- nor of a digit at a text's front
pub one_digit : (text : List ℕ) (v w : ℕ) (t u : List ℕ) → Digit text v t → Digit text w u → (v ≡ w) × (t ≡ u)
one_digit text v w t u a b = (a.value_is ∙ sym b.value_is, a.rest_is ∙ sym b.rest_is)

pub one_hex_digit : (text : List ℕ) (v w : ℕ) (t u : List ℕ) → HexDigit text v t → HexDigit text w u → (v ≡ w) × (t ≡ u)
one_hex_digit text v w t u a b = (a.value_is ∙ sym b.value_is, a.rest_is ∙ sym b.rest_is)
