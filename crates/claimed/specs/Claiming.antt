-- What the code answers of a text with a claim, and what its litters leave in the buffer.
use Rattle.std.specs.Prelude.{◌≡◌, refl, Result, Ok, Err, cond, List, [], ◌∷◌, ℕ, ◌+◌, ltb, length, take, drop, get_or}
use Rattle.std.proofs.Common.{arith}
use borrow.Table.Steps.{cases}
use Rattle.read.specs.Long.{length_fill}
use Rattle.template.specs.Read.{Reading, done, departs_at, read}
use Rattle.template.specs.declared.read.Form.{Form}
use Rattle.read.specs.Request.{Asked, asked, form, is_empty, read_request}
use Rattle.read.specs.Rows.{put_litters, fill_request}
use Rattle.read.specs.Filled.{request_filled}
use Rattle.claimed.specs.declared.Claiming.{Claiming}
use Rattle.claimed.specs.Claimed.{Claims, claims, departed, claim, claim_at_of, read_claim, read_behind, read_claimed}

abbrev pub five : List ℕ → List ℕ
five us = get_or us 0 0 ∷ get_or us 1 0 ∷ get_or us 2 0 ∷ get_or us 3 0 ∷ get_or us 4 0 ∷ []

-- the claim's lines, after n litters
unfoldable pub behind_of : ℕ → Reading → Result (List ℕ) Form
behind_of n (departs_at k) = Err (record { line = k })
behind_of n (done us t) = cond (is_empty t) (Ok (five us)) (Err (record { line = 12 + n }))

-- the whole answer
abbrev pub claiming_of : Claims → Result Claiming Form
claiming_of (departed k) = Err (record { line = k })
claiming_of (claims vs ls us) = Ok (record { asking = record { count = length ls; values = vs }; claim = five us })

unfoldable pub fill_claimed : List ℕ → List ℕ → List ℕ
fill_claimed b text = cond (ltb 8192 (length text)) b (fill_request b (take (claim_at_of 10 text) text))

pub length_claimed : (b text : List ℕ) → length (fill_claimed b text) ≡ length b
unfolding fill_claimed
length_claimed b text = cases (ltb 8192 (length text)) (λ t. rw t) (λ t. rw t (length_fill b (take (claim_at_of 10 text) text)))

-- ---- where a text has the form, the buffer holds its litters

pub not_claims : (k : ℕ) (vs : List ℕ) (ls : List (List ℕ)) (us : List ℕ) → departed k ≡ claims vs ls us → ⊥
not_claims k vs ls us e = let z : ◌≡◌ {A = ℕ} 0 1 = cc in omega arith

same_litters : (vs ws us : List ℕ) (ls ks : List (List ℕ)) (r : Reading) → read_claim ws ks r ≡ claims vs ls us → ks ≡ ls
same_litters vs ws us ls ks (departs_at k) e = absurd (not_claims k vs ls us e)
same_litters vs ws us ls ks (done xs t) e =
    cases (is_empty t)
    (λ b. let f = rw b at e in cc)
    (λ b. absurd (not_claims (12 + length ks) vs ls us (rw b at e)))

pub claimed_filled : (b text vs : List ℕ) (ls : List (List ℕ)) (us : List ℕ) → read_claimed text ≡ claims vs ls us → fill_claimed b text ≡ put_litters b 0 ls
unfolding read_claimed fill_claimed
claimed_filled b text vs ls us e =
    cases (ltb 8192 (length text))
    (λ x. absurd (not_claims 0 vs ls us (rw x at e)))
    (λ x. rw x (by_asked (read_request (take (claim_at_of 10 text) text)) refl (rw x at e)))
  where
    by_asked : (q : Asked) → read_request (take (claim_at_of 10 text) text) ≡ q → read_behind (drop (claim_at_of 10 text) text) q ≡ claims vs ls us → fill_request b (take (claim_at_of 10 text) text) ≡ put_litters b 0 ls
    by_asked (form k) h f = absurd (not_claims k vs ls us f)
    by_asked (asked ws ks) h f =
        let z = same_litters vs ws us ls ks (read claim (9 + length ks) (drop (claim_at_of 10 text) text)) f in
        rw (← z) (request_filled b (take (claim_at_of 10 text) text) ws ks h)
