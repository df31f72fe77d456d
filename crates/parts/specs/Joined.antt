-- Cut a text anywhere, into any number of parts, some of them empty: finishing after them reads what reading the whole text reads.
use Rattle.std.specs.Prelude.{◌≡◌, refl, false, List, [], ◌∷◌, ◌++◌, ℕ, take, Ok, Err}
use Rattle.std.proofs.Common.{append_assoc, append-nil}
use Rattle.std.proofs.lemmas.List.{length-replicate}
use Rattle.read.specs.Request.{read_request}
use Rattle.read.specs.Rows.{fill_request}
use Rattle.parts.specs.declared.reader.Reader.{Reader}
use Rattle.parts.specs.Reader.{fresh_of, part_of, taken_of, finished_of}
use Rattle.parts.specs.Front.{Keeps, more, read_kept, fill_kept}

-- ---- any list of parts, and any state that takes them

abbrev pub joined : List (List ℕ) → List ℕ
joined [] = []
joined (p ∷ ps) = p ++ joined ps

abbrev pub after_parts : {S : Type 0} → (S → List ℕ → S) → S → List (List ℕ) → S
after_parts go s [] = s
after_parts go s (p ∷ ps) = after_parts go (go s p) ps

-- a state that keeps a text keeps the next part behind it, and so every part
pub all_keep :
    {S : Type 0} (go : S → List ℕ → S) (Holds : S → List ℕ → Type 0) → ((s : S) (text p : List ℕ) → Holds s text → Holds (go s p) (text ++ p)) →
    (ps : List (List ℕ)) (s : S) (text : List ℕ) → Holds s text → Holds (after_parts go s ps) (text ++ joined ps)
all_keep go Holds one [] s text h = rw append-nil h
all_keep go Holds one (p ∷ ps) s text h = rw (← append_assoc text p (joined ps)) (all_keep go Holds one ps (go s p) (text ++ p) (one s text p h))

-- ---- the reader

pub record Holds (r : Reader) (text : List ℕ) : Type 0 where
  pub keeps : Keeps r.bytes r.n text
  pub unfinished : r.finished ≡ false

pub fresh_holds : Holds fresh_of []
unfolding fresh_of
fresh_holds = record { keeps = record { whole = length-replicate {A = ℕ} 8193 0; count = refl; kept = refl }; unfinished = refl }

pub part_holds : (r : Reader) (text p : List ℕ) → Holds r text → Holds (part_of r p) (text ++ p)
unfolding part_of
part_holds r text p h =
    let m = more r.bytes text p r.n h.keeps in
    rw h.unfinished (record { keeps = m; unfinished = refl })

-- a part is taken before finishing, and refused after it, when the reader stays as it was
pub part_taken : (r : Reader) (text : List ℕ) → Holds r text → taken_of r ≡ Ok tt
unfolding taken_of
part_taken r text h = rw h.unfinished refl

pub part_refused : (r : Reader) (p : List ℕ) → (taken_of (finished_of r) ≡ Err (record { line = 0 })) × (part_of (finished_of r) p ≡ finished_of r)
unfolding taken_of part_of
part_refused r p = (refl, refl)

pub finish_again : (r : Reader) → finished_of (finished_of r) ≡ finished_of r
finish_again r = refl

-- a new reader after the parts
abbrev pub reader_after : List (List ℕ) → Reader
reader_after ps = after_parts part_of fresh_of ps

pub parts_hold : (ps : List (List ℕ)) → Holds (reader_after ps) (joined ps)
parts_hold ps = all_keep part_of Holds part_holds ps fresh_of [] fresh_holds

-- `finish` reads `take n bytes`, at every call: `finished_of` keeps both
pub in_parts : (ps : List (List ℕ)) → let r = reader_after ps in read_request (take r.n r.bytes) ≡ read_request (joined ps)
in_parts ps = read_kept _ _ _ (parts_hold ps).keeps

pub litters_in_parts : (ps : List (List ℕ)) (b : List ℕ) → let r = reader_after ps in fill_request b (take r.n r.bytes) ≡ fill_request b (joined ps)
litters_in_parts ps b = fill_kept _ _ _ (parts_hold ps).keeps b
