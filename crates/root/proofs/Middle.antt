-- On which side of the middle the root lies. It is from Q · H up and below (Q + 1) · H, the result 2q · H is the even one of the two, and n is another f64.
-- An odd Q is no exact root, since M is even: so the root is above the middle of Q - 1 and Q + 1.
use Rattle.std.specs.Prelude.{◌≡◌, refl, Bool, true, false, ℕ, ◌+◌, ◌-◌, ◌*◌, ◌/◌, ◌%◌, ◌^◌, ◌≤◌, ◌<◌, eqb}
use Rattle.std.proofs.Common.{ap, add-mul, mul-le-mul, lt_of_not-le, le_antisymm, arith, eqb-true}
use Rattle.std.proofs.lemmas.Bool.{eqb-false}
use Rattle.root.specs.Root.{square}
use Rattle.root.specs.Steps.{rounded_of}
use Rattle.root.specs.Squares.{twice_squared, next_squared, below_four, above_four}
use Rattle.root.specs.Pencil.{RootOf}
use Rattle.root.specs.Grid.{Grid}

odd_square : (Q : ℕ) → Q % 2 ≡ 1 → Q * Q % 2 ≡ 1
odd_square Q h =
    let k = Q / 2 in
    let e : Q ≡ 2 * k + 1 = omega arith in
    rw e (omega (arith, next_squared (2 * k), twice_squared k))

-- The middle of two f64 is an odd number of H, and its square is not M.
pub never_tie : (M h : ℕ) → M % 2 ≡ 0 → h % 2 ≡ 1 → h * h ≡ M → ⊥
never_tie M h even o e = omega (arith, odd_square h o)

-- The last digit of Q decides: at 0 the root is below the middle Q + 1, at 1 it is above the middle Q.
pub last_zero : (M Q : ℕ) → RootOf M Q → Q % 2 ≡ 0 → M < square (Q + 1)
last_zero M Q at z = at.next_above

pub last_one : (M Q : ℕ) → M % 2 ≡ 0 → RootOf M Q → Q % 2 ≡ 1 → square Q < M
last_one M Q even at o = lt_of_not-le (λ g. never_tie M Q even o (le_antisymm at.not_above g))

module _ (Q q H M n : ℕ) (rounds : q ≡ rounded_of Q) (some : 0 < H) (at : RootOf M Q) (even : M % 2 ≡ 0) (full : 2 ^ 53 ≤ Q) (g : Grid q H n) where
  lower_even : Q % 2 ≡ 0 → n < 2 * q * H → square (n + 2 * q * H) < 4 * (M * (H * H))
  lower_even h l =
      let s = 2 * q - 1 + 2 * q in
      let e : s + 1 ≡ 2 * Q = omega arith in
      below_four (n + 2 * q * H) s H M some (omega (arith, g.below l, add-mul (2 * q - 1) (2 * q) H)) (omega (arith, next_squared s, ap square e, twice_squared Q, at.not_above))

  lower_odd : Q % 2 ≡ 1 → n < 2 * q * H → square (n + 2 * q * H) < 4 * (M * (H * H))
  lower_odd h l =
      let s = 2 * q - 2 + 2 * q in
      let e : s ≡ 2 * Q = omega arith in
      let w : 2 ^ 52 < q = omega arith in
      below_four (n + 2 * q * H) s H M some (omega (arith, g.well_below w l, add-mul (2 * q - 2) (2 * q) H)) (omega (arith, ap square e, twice_squared Q, last_one M Q even at h))

  pub lower : n < 2 * q * H → square (n + 2 * q * H) < 4 * (M * (H * H))
  lower l = go (eqb (Q % 2) 0) refl
    where
      go : (b : Bool) → eqb (Q % 2) 0 ≡ b → square (n + 2 * q * H) < 4 * (M * (H * H))
      go true e = lower_even (eqb-true (Q % 2) 0 e) l
      go false e = let h = eqb-false (Q % 2) 0 e in lower_odd (omega arith) l

  pub higher : 2 * q * H < n → 4 * (M * (H * H)) < square (n + 2 * q * H)
  higher l =
      let s = 2 * q + 2 + 2 * q in
      let e : 2 * (Q + 1) ≤ s = omega arith in
      above_four (n + 2 * q * H) s H M some (omega (arith, g.above l, add-mul (2 * q + 2) (2 * q) H)) (omega (arith, mul-le-mul e e, twice_squared (Q + 1), at.next_above))
