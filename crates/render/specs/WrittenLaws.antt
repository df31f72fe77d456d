-- Laws of bytes put into a buffer: the length stays, one text after another is their `++`, and what was put in is read again.
use Rattle.std.specs.Prelude.{◌≡◌, refl, List, [], ◌∷◌, ◌++◌, ℕ, suc, ◌+◌, ◌≤◌, ◌<◌, length, take, set}
use Rattle.std.proofs.Math.Seq.{paste, sets, sets-eq}
use Rattle.std.proofs.Common.{sym, take_all, ◌∙◌, append-nil, add-one, add-zero, zero-add, arith, length-set, take-suc-set}
use Rattle.std.proofs.Math.Seq.{append_snoc}
use Rattle.render.specs.Written.{written}

pub length_written : (l : List ℕ) (at : ℕ) (bs : List ℕ) → length (written l at bs) ≡ length l
unfolding written
length_written l at [] = refl
length_written l at (b ∷ bs) = length_written (set l at b) (at + 1) bs ∙ length-set l at b

pub written_append : (l : List ℕ) (at : ℕ) (a b : List ℕ) → written l at (a ++ b) ≡ written (written l at a) (at + length a) b
unfolding written
written_append l at [] b = rw add-zero
written_append l at (x ∷ a) b =
    let e : at + 1 + length a ≡ at + suc (length a) = omega arith in
    rw (written_append (set l at x) (at + 1) a b, e)

-- the text by another name
pub by_text : (l l' bs ds : List ℕ) (at : ℕ) → l' ≡ written l at ds → ds ≡ bs → l' ≡ written l at bs
by_text l l' bs ds at p e = rw (← e) p

-- the text that was put in stands after what stood before it
pub take_written : (l : List ℕ) (at : ℕ) (bs : List ℕ) → at + length bs ≤ length l → take (at + length bs) (written l at bs) ≡ take at l ++ bs
unfolding written
take_written l at [] h = rw (add-zero, append-nil)
take_written l at (b ∷ bs) h =
    let e : at + suc (length bs) ≡ at + 1 + length bs = omega arith in
    let k : at + 1 + length bs ≤ length (set l at b) = rw length-set (omega arith) in
    let p : at < length l = omega arith in
    rw (e, take_written (set l at b) (at + 1) bs k, add-one, take-suc-set l at b p, append_snoc)

-- a text that was put in at the start, with room, is what stands there
pub take_whole : (l bs : List ℕ) → length bs ≤ length l → take (length bs) (written l 0 bs) ≡ bs
take_whole l bs h =
    let k : 0 + length bs ≤ length l = omega arith in
    rw zero-add at (take_written l 0 bs k)

-- what a caller learns of a function that answers how many bytes of bs it put in at the start
pub stands : (l l' bs : List ℕ) (r : ℕ) → length bs ≤ length l → r ≡ length bs → l' ≡ written l 0 bs → take r l' ≡ bs
stands l l' bs r h p e = rw (p, e) (take_whole l bs h)

-- ---- the length of a text that was written, by another name of it

pub by_whole : (bs ds : List ℕ) (r : ℕ) → r ≡ length ds → ds ≡ bs → r ≡ length bs
by_whole bs ds r p e = rw (← e) p

pub from_start : (bs ds : List ℕ) (r : ℕ) → r ≡ 0 + length ds → ds ≡ bs → r ≡ length bs
from_start bs ds r p e = rw (← e, ← zero-add (length ds)) p

written_sets : (l : List ℕ) (at : ℕ) (bs : List ℕ) → written l at bs ≡ sets l at bs
unfolding written
written_sets l at [] = refl
written_sets l at (b ∷ bs) = rw add-one (written_sets (set l at b) (suc at) bs)

-- what stands before the place, the bytes, and what stands after them
pub written_is : (l : List ℕ) (at : ℕ) (bs : List ℕ) → at + length bs ≤ length l → paste l at bs (length bs) ≡ written l at bs
written_is l at bs h = rw (take_all (length bs) bs (omega arith)) (sym (written_sets l at bs ∙ sets-eq bs l at h))
