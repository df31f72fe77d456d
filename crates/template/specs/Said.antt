-- What a caller learns of an answer by a template: it has as many values as the template has holes, in sixteen places.
use Rattle.std.specs.Prelude.{◌≡◌, List, ℕ, ◌-◌, ◌≤◌, length, take, replicate}
use Rattle.std.proofs.Common.{ap, ◌∙◌, arith, length-append}
use Rattle.std.proofs.lemmas.List.{length-replicate}
use Rattle.template.specs.Template.{holes}
use Rattle.template.specs.Read.{done, read}
use Rattle.template.specs.Field.{found}
use Rattle.template.specs.Decimal.{read_value}
use Rattle.template.specs.SpellingLaws.{number_read_is}
use Rattle.template.specs.Says.{in_places}
use Rattle.template.specs.BothWays.{spelled_read, spells_holds, holds_many}

pub said_many : (f s vs t : List ℕ) (line : ℕ) → read f line s ≡ done vs t → length vs ≡ holes f
said_many f s vs t line e = holds_many f vs (spells_holds (spelled_read f s vs t line e).spells)

pub said_sixteen : (f s values t : List ℕ) (line : ℕ) → read f line s ≡ done (take (holes f) values) t → values ≡ in_places (take (holes f) values) → holes f ≤ 16 → length values ≡ 16
said_sixteen f s values t line e p m =
    let vs = take (holes f) values in
    let n = said_many f s vs t line e in
    ap length p ∙ length-append vs (replicate (16 - length vs) 0) ∙ (rw (length-replicate {A = ℕ} (16 - length vs) 0) (omega (arith, n)))

pub said_rest : (f s vs t : List ℕ) (line : ℕ) → read f line s ≡ done vs t → length t ≤ length s
said_rest f s vs t line e =
    let q = spelled_read f s vs t line e in
    rw (q.text, length-append q.spelled t) (omega arith)

-- what is left after an f64 is a part of the text
pub value_rest : (s : List ℕ) (v : ℕ) (t : List ℕ) → read_value s ≡ found v t → length t ≤ length s
value_rest s v t e =
    let q = number_read_is s v t e in
    rw (q.text, length-append q.spelled t) (omega arith)
