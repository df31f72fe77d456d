-- Where the claim begins, what its lines decide, and each way that a text with a claim is read.
use Rattle.std.specs.Prelude.{◌≡◌, refl, Bool, true, false, cond, ◌&&◌, List, [], ◌∷◌, ℕ, suc, ◌+◌, ◌≤◌, ◌<◌, eqb, length, take, drop, get_or, Result, Ok, Err}
use Rattle.std.proofs.Common.{ap, ◌∙◌, zero-add, arith, lit<, lt-ltb, le-ltb, eq-eqb, ne_eqb, drop_of_length-le, drop-cons}
use Rattle.std.proofs.Math.Seq.{get_or-take}
use Rattle.template.specs.declared.read.Form.{Form}
use Rattle.template.specs.Read.{Reading, done, departs_at, feeds, read}
use Rattle.read.specs.declared.Asking.{Asking}
use Rattle.read.specs.Request.{Asked, asked, form, is_empty, render_litters, read_request}
use Rattle.read.specs.BothWays.{read_exactly, last_line, parts_long, litters_some}
use Rattle.read.specs.Rows.{fill_request, asking_of}
use Rattle.claimed.specs.declared.Claiming.{Claiming}
use Rattle.claimed.specs.Claimed.{claim, claim_at_of, read_claim, read_behind, read_claimed}
use Rattle.claimed.specs.Claiming.{five, behind_of, claiming_of, fill_claimed}

-- ---- where the claim begins: at place i, after the byte `last`; w is the whole

module _ (text : List ℕ) (i last w : ℕ) (inv : w ≡ i + claim_at_of last (drop i text)) where
  pub claim_nowhere : length text ≤ i → i ≤ length text → length text ≡ w
  unfolding claim_at_of
  claim_nowhere h g = let k = rw (drop_of_length-le text h) at inv in omega arith

  module _ (h : i < length text) where
    step : claim_at_of last (drop i text) ≡ cond (eqb last 10 && eqb (get_or text i 0) 99) 0 (suc (claim_at_of (get_or text i 0) (drop (suc i) text)))
    unfolding claim_at_of
    step = rw (drop-cons text i 0 h)

    pub claim_here : last ≡ 10 → get_or text i 0 ≡ 99 → i ≡ w
    claim_here e f = let k = rw (step, eq-eqb last 10 e, eq-eqb (get_or text i 0) 99 f) at inv in omega arith

    later : (eqb last 10 && eqb (get_or text i 0) 99) ≡ false → w ≡ i + 1 + claim_at_of (get_or text i 0) (drop (i + 1) text)
    later f = let z : i + 1 ≡ suc i = omega arith in let k = rw (step, f) at inv in rw z (omega arith)

    pub no_line_here : (last ≡ 10 → ⊥) → w ≡ i + 1 + claim_at_of (get_or text i 0) (drop (i + 1) text)
    no_line_here e = later (rw (ne_eqb last 10 e) refl)

    pub no_claim_here : last ≡ 10 → (get_or text i 0 ≡ 99 → ⊥) → w ≡ i + 1 + claim_at_of (get_or text i 0) (drop (i + 1) text)
    no_claim_here e f = later (rw (eq-eqb last 10 e, ne_eqb (get_or text i 0) 99 f) refl)

-- ---- the claim's lines

five_taken : (v : List ℕ) → five v ≡ five (take 5 v)
five_taken v = rw (get_or-take 5 v 0 0 (lit< tt), get_or-take 5 v 1 0 (lit< tt), get_or-take 5 v 2 0 (lit< tt), get_or-take 5 v 3 0 (lit< tt), get_or-take 5 v 4 0 (lit< tt))

pub behind_departs : (text : List ℕ) (n k : ℕ) → read claim (9 + n) text ≡ departs_at k → Err (record { line = k }) ≡ behind_of n (read claim (9 + n) text)
unfolding behind_of
behind_departs text n k h = rw h

pub behind_goes_on : (text : List ℕ) (n line : ℕ) (v rest : List ℕ) → read claim (9 + n) text ≡ done (take 5 v) rest → line ≡ 9 + n + feeds claim → (length rest ≡ 0 → ⊥) → Err (record { line = line }) ≡ behind_of n (read claim (9 + n) text)
unfolding behind_of claim feeds
behind_goes_on text n line v [] h l z = absurd (z refl)
behind_goes_on text n line v (c ∷ rest) h l z = let e : line ≡ 12 + n = omega arith in rw (h, e)

pub behind_ends : (text : List ℕ) (n : ℕ) (v rest : List ℕ) → read claim (9 + n) text ≡ done (take 5 v) rest → length rest ≡ 0 → Ok (five v) ≡ behind_of n (read claim (9 + n) text)
unfolding behind_of
behind_ends text n v [] h z = rw h (ap Ok (five_taken v))
behind_ends text n v (c ∷ rest) h z = absurd (omega arith)

-- ---- both

-- a text of 8,192 bytes has no more litters
few : (text vs : List ℕ) (ls : List (List ℕ)) → read_request text ≡ asked vs ls → length ls ≤ 8192
few text vs ls e =
    let q = (read_exactly text vs ls).0 e in
    let s = q.0 in
    let n : length text ≡ length s.top + (length (render_litters ls) + length (last_line (length ls) (length s.top))) = ap length s.is ∙ parts_long s.top (render_litters ls) (last_line (length ls) (length s.top)) in
    omega (arith, q.1, n, litters_some ls s.litters)

few_by : (text : List ℕ) (q : Asked) (a : Asking) → read_request text ≡ q → Ok a ≡ asking_of 0 q → a.count ≤ 8192
few_by text (form k) a e s = cc
few_by text (asked vs ls) a e s = let z : a ≡ record { count = 0 + length ls; values = vs } = cc in rw z (omega (arith, few text vs ls e))

pub few_asked : (text : List ℕ) (a : Asking) → Ok a ≡ asking_of 0 (read_request text) → a.count ≤ 8192
few_asked text a s = few_by text (read_request text) a refl s

-- what the claim's lines make of a request that has the form
abbrev pub joined : Asking → Result (List ℕ) Form → Result Claiming Form
joined a (Ok us) = Ok (record { asking = a; claim = us })
joined a (Err e) = Err e

claim_by : (vs us : List ℕ) (ls : List (List ℕ)) (t : List ℕ) (e : Bool) → is_empty t ≡ e → joined (record { count = length ls; values = vs }) (behind_of (length ls) (done us t)) ≡ claiming_of (read_claim vs ls (done us t))
unfolding behind_of
claim_by vs us ls t true e = rw e
claim_by vs us ls t false e = rw e

joined_by : (vs : List ℕ) (ls : List (List ℕ)) (r : Reading) → joined (record { count = length ls; values = vs }) (behind_of (length ls) r) ≡ claiming_of (read_claim vs ls r)
unfolding behind_of
joined_by vs ls (departs_at k) = refl
joined_by vs ls (done us t) = claim_by vs us ls t (is_empty t) refl

form_by : (s : List ℕ) (q : Asked) (e : Form) → Err e ≡ asking_of 0 q → Err e ≡ claiming_of (read_behind s q)
form_by s (form k) e h = cc
form_by s (asked vs ls) e h = cc

behind_by : (s : List ℕ) (q : Asked) (a : Asking) (r : Result (List ℕ) Form) → Ok a ≡ asking_of 0 q → r ≡ behind_of a.count (read claim (9 + a.count) s) → joined a r ≡ claiming_of (read_behind s q)
behind_by s (form k) a r h g = cc
behind_by s (asked vs ls) a r h g =
    let z : a ≡ record { count = length ls; values = vs } = (let y : a ≡ record { count = 0 + length ls; values = vs } = cc in rw zero-add at y) in
    rw (g, z) (joined_by vs ls (read claim (9 + length ls) s))

module _ (buf text : List ℕ) where
  pub too_long : 8192 < length text → (Err (record { line = 0 }) ≡ claiming_of (read_claimed text)) × (buf ≡ fill_claimed buf text)
  unfolding read_claimed fill_claimed
  too_long h = (rw (lt-ltb 8192 (length text) h), rw (lt-ltb 8192 (length text) h))

  module _ (h : length text ≤ 8192) (k : ℕ) (c : k ≡ claim_at_of 10 text) where
    pub filled : (out : List ℕ) → out ≡ fill_request buf (take k text) → out ≡ fill_claimed buf text
    unfolding fill_claimed
    filled out o = rw (le-ltb 8192 (length text) h, ← c) o

    pub request_departs : (e : Form) → Err e ≡ asking_of 0 (read_request (take k text)) → Err e ≡ claiming_of (read_claimed text)
    unfolding read_claimed
    request_departs e s = rw (le-ltb 8192 (length text) h, ← c) (form_by (drop k text) (read_request (take k text)) e s)

    pub request_holds : (a : Asking) (r : Result (List ℕ) Form) → Ok a ≡ asking_of 0 (read_request (take k text)) → r ≡ behind_of a.count (read claim (9 + a.count) (drop k text)) → joined a r ≡ claiming_of (read_claimed text)
    unfolding read_claimed
    request_holds a r s g = rw (le-ltb 8192 (length text) h, ← c) (behind_by (drop k text) (read_request (take k text)) a r s g)
