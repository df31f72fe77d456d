-- What a shape that passed says of the lengths.
use Rattle.std.specs.Prelude.{◌≡◌, true, ◌&&◌, ℕ, ◌*◌, ◌/◌, ◌^◌, ◌≤◌, eqb, leb}
use Rattle.std.proofs.Common.{leb-true, eqb-true}
use Rattle.num.specs.Both.{and_left, and_right}
use Rattle.intervals.specs.Shape.{shaped_of}

module _ (e c s m : ℕ) (h : shaped_of e c s m ≡ true) where
  rest : (leb e 8 && (leb 1 m && (eqb (m / 2 ^ e) 0 && (eqb s e && eqb c (e * e))))) ≡ true
  unfolding shaped_of
  rest = and_right (leb 1 e) _ h

  lengths : (eqb s e && eqb c (e * e)) ≡ true
  lengths = and_right (eqb (m / 2 ^ e) 0) _ (and_right (leb 1 m) _ (and_right (leb e 8) _ rest))

  pub few : e ≤ 8
  few = leb-true e 8 (and_left (leb e 8) _ rest)

  pub same_length : s ≡ e
  same_length = eqb-true s e (and_left (eqb s e) _ lengths)

  pub few_errors : s ≤ 8
  few_errors = rw same_length few

  pub by_rows : c ≡ s * s
  by_rows = rw same_length (eqb-true c (e * e) (and_right (eqb s e) _ lengths))
