-- The same of a state that a host lends, from zeros on.
use Rattle.std.specs.Prelude.{◌≡◌, refl, true, List, [], ◌∷◌, ◌++◌, ℕ, ◌+◌, ◌≤◌, ◌<◌, eqb, length, take, get_or, set, replicate}
use Rattle.std.proofs.Common.{◌∙◌, arith, eqb-true, eq-eqb, le-leb, length-set, get_or-set_same, get_or-set_other, set-set}
use Rattle.std.proofs.Math.Bool.{and-eq-true_iff}
use borrow.Table.Steps.{cases}
use Rattle.std.proofs.lemmas.List.{length-replicate}
use Rattle.read.specs.Request.{read_request}
use Rattle.parts.specs.Kept.{room_for_of}
use Rattle.parts.specs.Lent.{Lent, lent, is_sized_of, finish_room_of, part_in_of, told_of, finish_in_of}
use Rattle.parts.specs.Front.{Keeps, more, read_kept, fill_kept}
use Rattle.parts.specs.Joined.{joined, after_parts, all_keep}

-- the state keeps this text, and is not finished
pub record Holds (s : Lent) (text : List ℕ) : Type 0 where
  pub keeps : Keeps s.buffer (get_or s.counts 0 0) text
  pub two : length s.counts ≡ 2
  pub unfinished : get_or s.counts 1 0 ≡ 0

abbrev pub zeros : Lent
zeros = lent 0 (replicate 8193 0) (0 ∷ 0 ∷ [])

abbrev pub takes : Lent → List ℕ → Lent
takes s p = part_in_of s.buffer s.counts p

pub zeros_hold : Holds zeros []
zeros_hold = record { keeps = record { whole = length-replicate {A = ℕ} 8193 0; count = refl; kept = refl }; two = refl; unfinished = refl }

-- what the test of its size says
pub sizes : (b c : ℕ) → is_sized_of b c ≡ true → (b ≡ 8193) × (c ≡ 2)
unfolding is_sized_of
sizes b c h = let q = (and-eq-true_iff (eqb b 8193) (eqb c 2)).0 h in (eqb-true b 8193 q.0, eqb-true c 2 q.1)

right_size : (b c : List ℕ) → length b ≡ 8193 → length c ≡ 2 → is_sized_of (length b) (length c) ≡ true
unfolding is_sized_of
right_size b c h k = rw (eq-eqb (length b) 8193 h, eq-eqb (length c) 2 k) refl

pub part_holds : (s : Lent) (text p : List ℕ) → Holds s text → Holds (takes s p) (text ++ p)
unfolding part_in_of
part_holds s text p h =
    let b = s.buffer in
    let c = s.counts in
    let n = get_or c 0 0 in
    let v = n + room_for_of n (length p) in
    let some : 0 < length c = omega (arith, h.two) in
    let first : get_or (set c 0 v) 0 0 ≡ v = get_or-set_same c 0 v 0 some in
    let second : get_or (set c 0 v) 1 0 ≡ 0 = get_or-set_other c 0 1 v 0 (λ e. omega (arith, e)) ∙ h.unfinished in
    rw (right_size b c h.keeps.whole h.two, eq-eqb (get_or c 1 0) 0 h.unfinished)
    (record { keeps = rw first (more b text p n h.keeps); two = length-set c 0 v ∙ h.two; unfinished = second })

abbrev pub state_after : List (List ℕ) → Lent
state_after ps = after_parts takes zeros ps

pub parts_hold : (ps : List (List ℕ)) → Holds (state_after ps) (joined ps)
parts_hold ps = all_keep takes Holds part_holds ps zeros [] zeros_hold

-- what a finishing call reads
pub in_parts : (ps : List (List ℕ)) → let s = state_after ps in read_request (take (get_or s.counts 0 0) s.buffer) ≡ read_request (joined ps)
in_parts ps = read_kept _ _ _ (parts_hold ps).keeps

-- with room for the request, it tells what the joined text tells
pub told_in_parts :
    (ps : List (List ℕ)) (q l : List ℕ) → 18 ≤ length q → 384 ≤ length l → let s = state_after ps in finish_in_of s.buffer s.counts q l ≡ told_of (joined ps) s.counts q l
unfolding finish_in_of finish_room_of told_of
told_in_parts ps q l h g =
    let s = state_after ps in
    let k = parts_hold ps in
    rw
    (right_size s.buffer s.counts k.keeps.whole k.two, le-leb 18 (length q) h, le-leb 384 (length l) g, in_parts ps, fill_kept _ _ _ k.keeps (replicate 384 0))
    refl

-- a part is taken before finishing, and refused after it, when the state stays as it was
pub part_taken : (s : Lent) (text p : List ℕ) → Holds s text → (takes s p).value ≡ 0
unfolding part_in_of
part_taken s text p h = rw (right_size s.buffer s.counts h.keeps.whole h.two, eq-eqb (get_or s.counts 1 0) 0 h.unfinished) refl

pub part_refused : (b c p : List ℕ) → length b ≡ 8193 → length c ≡ 2 → part_in_of b (set c 1 1) p ≡ lent 4 b (set c 1 1)
unfolding part_in_of
part_refused b c p h k =
    let second : get_or (set c 1 1) 1 0 ≡ 1 = get_or-set_same c 1 1 0 (omega (arith, k)) in
    rw (right_size b (set c 1 1) h (length-set c 1 1 ∙ k), second) refl

-- finishing again tells the same
pub finish_again : (b c q l : List ℕ) → finish_in_of b (finish_in_of b c q l).counts q l ≡ finish_in_of b c q l
unfolding finish_in_of told_of
finish_again b c q l =
    cases (finish_room_of (length b) (length c) (length q) (length l))
    (λ t. rw (t, length-set c 1 1, t, get_or-set_other c 1 0 1 0 (λ e. omega (arith, e)), set-set c 1 1 1) refl)
    (λ t. rw (t, t) refl)
