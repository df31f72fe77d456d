-- The laws of the state that a host lends: what the test of its size leaves known, and each call's answer by the tests on its way.
use mathlib.Core.Path.{◌≡◌, refl}
use mathlib.Core.Bool.{Bool, true, false, not}
use mathlib.Core.List.{List}
use Prim.Native.Nat.{ℕ, ◌+◌, ◌<◌}
use native.Mathlib.Omega.{arith}
use borrow.Author.Tests.{eq-eqb, ne_eqb}
use lib.ListN.{length, take, get_or, set, replicate}
use lib.Seq.{paste}
use Rattle.num.specs.Choose.{then, else, by_not_false, by_not_true}
use Rattle.store.specs.Stored.{stored}
use Rattle.std.specs.Prelude.{Result}
use Rattle.template.specs.declared.read.Form.{Form}
use Rattle.read.specs.declared.Asking.{Asking}
use Rattle.read.specs.Request.{read_request}
use Rattle.read.specs.Rows.{fill_request, asking_of}
use Rattle.parts.specs.Kept.{room_for_of}
use Rattle.parts.specs.Lent.{lent, told, is_sized_of, finish_room_of, request_numbers_of, status_of, part_in_of, told_of, finish_in_of}
use Rattle.parts.specs.JoinedLent.{sizes}

-- ---- sizes

module _ (b c : ℕ) (t : Bool) (e : t ≡ is_sized_of b c) (h : not t ≡ false) where
  pub part_bytes : b ≡ 8193
  part_bytes = (sizes b c (by_not_true t _ e h)).0

  pub part_first : 0 < c
  part_first = omega (arith, (sizes b c (by_not_true t _ e h)).1)

  pub part_second : 1 < c
  part_second = omega (arith, (sizes b c (by_not_true t _ e h)).1)

-- ---- a part

module _ (b c p : List ℕ) (t : Bool) (e : t ≡ is_sized_of (length b) (length c)) where
  pub part_wrong : not t ≡ true → lent 1 b c ≡ part_in_of b c p
  unfolding part_in_of
  part_wrong h = else _ _ _ _ (by_not_false t _ e h) refl

  pub part_refused : not t ≡ false → (get_or c 1 0 ≡ 0 → ⊥) → lent 4 b c ≡ part_in_of b c p
  unfolding part_in_of
  part_refused h f = then _ _ _ _ (by_not_true t _ e h) (else _ _ _ _ (ne_eqb (get_or c 1 0) 0 f) refl)

  pub part_taken :
      (b' : List ℕ) (m : ℕ) → not t ≡ false → get_or c 1 0 ≡ 0 → m ≡ get_or c 0 0 + room_for_of (get_or c 0 0) (length p) →
      b' ≡ paste b (get_or c 0 0) p (room_for_of (get_or c 0 0) (length p)) → lent 0 b' (set c 0 m) ≡ part_in_of b c p
  unfolding part_in_of
  part_taken b' m h f i j = then _ _ _ _ (by_not_true t _ e h) (then _ _ _ _ (eq-eqb (get_or c 1 0) 0 f) (rw (i, j) refl))

-- ---- finishing

module _ (b c q l : List ℕ) (t : Bool) (e : t ≡ finish_room_of (length b) (length c) (length q) (length l)) where
  pub finish_wrong : not t ≡ true → told 1 c q l ≡ finish_in_of b c q l
  unfolding finish_in_of
  finish_wrong h = else _ _ _ _ (by_not_false t _ e h) refl

  pub finish_told :
      (a : Result Asking Form) (rows numbers q' l' : List ℕ) (r : ℕ) → not t ≡ false → a ≡ asking_of 0 (read_request (take (get_or c 0 0) b)) →
      rows ≡ fill_request (replicate 384 0) (take (get_or c 0 0) b) → numbers ≡ request_numbers_of a → q' ≡ stored q numbers → l' ≡ stored l rows →
      r ≡ status_of a → told r (set c 1 1) q' l' ≡ finish_in_of b c q l
  unfolding finish_in_of told_of
  finish_told a rows numbers q' l' r h ea er en eq el ev = then _ _ _ _ (by_not_true t _ e h) (rw (ev, eq, el, en, er, ea) refl)
