-- The first 8,193 bytes of a text, kept as its parts come: they are read as the text is.
use Rattle.std.specs.Prelude.{◌≡◌, refl, Bool, true, false, not, List, [], ◌∷◌, ◌++◌, ℕ, zero, suc, ◌+◌, ◌-◌, ◌≤◌, ◌<◌, min, T, leb, length, take}
use Rattle.std.proofs.Common.{sym, ap, ◌∙◌, arith, lt-ltb, leb→le, length-append, take_all, length-take-le}
use Rattle.std.proofs.Math.Dec.{nleb→lt}
use Rattle.std.proofs.Math.Seq.{paste, take-length, take-nil}
use Rattle.std.proofs.lemmas.List.Edits.{length-paste, take-paste}
use Rattle.read.specs.Request.{read_request}
use Rattle.read.specs.Rows.{fill_request}
use Rattle.parts.specs.Kept.{room_for_of}

take_both : (n : ℕ) (s t : List ℕ) → take n (s ++ t) ≡ take n s ++ take (n - length s) t
take_both n [] t = rw take-nil (let e : n - 0 ≡ n = omega arith in rw e refl)
take_both zero (a ∷ s) t = let e : 0 - suc (length s) ≡ 0 = omega arith in rw e refl
take_both (suc n) (a ∷ s) t = let e : suc n - suc (length s) ≡ n - length s = omega arith in rw (e, take_both n s t) refl

take_least : (p : List ℕ) (room : ℕ) → take (min (length p) room) p ≡ take room p
take_least p room = go (leb (length p) room) (leb→le (length p) room) (nleb→lt (length p) room)
  where
    go : (b : Bool) → (T b → length p ≤ room) → (T (not b) → room < length p) → take (min (length p) room) p ≡ take room p
    go true h k =
        let e : min (length p) room ≡ length p = let l = h tt in omega arith in
        rw e (take-length p ∙ sym (take_all room p (h tt)))
    go false h k =
        let e : min (length p) room ≡ room = let l = k tt in omega arith in
        rw e refl

-- n bytes of the buffer are the first 8,193 of the text
pub record Keeps (bytes : List ℕ) (n : ℕ) (text : List ℕ) : Type 0 where
  pub whole : length bytes ≡ 8193
  pub count : n ≡ min (length text) 8193
  pub kept : take n bytes ≡ take 8193 text

pub more : (bytes text p : List ℕ) (n : ℕ) → Keeps bytes n text → Keeps (paste bytes n p (room_for_of n (length p))) (n + room_for_of n (length p)) (text ++ p)
unfolding room_for_of
more bytes text p n h =
    let k = min (length p) (8193 - n) in
    let in_bytes : n + k ≤ length bytes = omega (arith, h.whole, h.count) in
    let in-part : k ≤ length p = omega arith in
    let left : 8193 - n ≡ 8193 - length text = omega (arith, h.count) in
    record {
      whole = length-paste bytes n p k in_bytes in-part ∙ h.whole;
      count = rw length-append (omega (arith, h.count));
      kept =
          take-paste bytes n p k (omega (arith, h.whole, h.count)) in-part
          ∙ ap (λ (t : List ℕ). t ++ take k p) h.kept
          ∙ ap (λ (t : List ℕ). take 8193 text ++ t) (take_least p (8193 - n) ∙ ap (λ (m : ℕ). take m p) left)
          ∙ sym (take_both 8193 text p);
    }

-- 8,193 bytes of a longer text are as well too many, and no litter of either is put into the buffer
abbrev Same : List ℕ → List ℕ → Type 0
Same s t = (read_request s ≡ read_request t) × ((b : List ℕ) → fill_request b s ≡ fill_request b t)

front : (text : List ℕ) → Same (take 8193 text) text
unfolding read_request fill_request
front text = go (leb (length text) 8193) (leb→le (length text) 8193) (nleb→lt (length text) 8193)
  where
    go : (b : Bool) → (T b → length text ≤ 8193) → (T (not b) → 8193 < length text) → Same (take 8193 text) text
    go true s g = let e = take_all 8193 text (s tt) in (ap read_request e, λ b. ap (fill_request b) e)
    go false s g =
        let i = g tt in
        let n : length (take 8193 text) ≡ 8193 = length-take-le 8193 text (omega arith) in
        let p = lt-ltb 8192 (length (take 8193 text)) (omega arith) in
        let q = lt-ltb 8192 (length text) (omega arith) in
        (rw (p, q) refl, λ b. rw (p, q) refl)

pub read_kept : (bytes text : List ℕ) (n : ℕ) → Keeps bytes n text → read_request (take n bytes) ≡ read_request text
read_kept bytes text n h = ap read_request h.kept ∙ (front text).0

pub fill_kept : (bytes text : List ℕ) (n : ℕ) → Keeps bytes n text → (b : List ℕ) → fill_request b (take n bytes) ≡ fill_request b text
fill_kept bytes text n h b = ap (fill_request b) h.kept ∙ (front text).1 b

-- a count past the buffer's end stands for all of it
pub reached : (b : List ℕ) (m n : ℕ) → length b ≡ 8193 → m ≡ min n 8193 → take m b ≡ take n b
reached b m n l e = go (leb n 8193) (leb→le n 8193) (nleb→lt n 8193)
  where
    go : (t : Bool) → (T t → n ≤ 8193) → (T (not t) → 8193 < n) → take m b ≡ take n b
    go true s g = let i = s tt in let same : m ≡ n = omega arith in rw same refl
    go false s g = let i = g tt in take_all m b (omega arith) ∙ sym (take_all n b (omega arith))
