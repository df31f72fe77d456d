-- The answers for `divided`.
use mathlib.Core.Path.{◌≡◌, ap, ◌∙◌}
use mathlib.Core.Bool.{Bool, true, false, not, cond}
use Prim.Native.Nat.{ℕ, ◌+◌, ◌-◌, ◌*◌, ◌/◌, ◌%◌, ◌^◌, ◌≤◌, ◌<◌}
use native.Mathlib.Nat.{mul-le-mul_right, mul_left_comm, pow-succ', div-add-mod', mod-lt, div-lt_iff_lt-mul, lt_of_not-le, not-le_of_lt}
use native.Mathlib.Numerals.{add-one}
use native.Mathlib.Omega.{arith}
use borrow.Author.Tests.{le-leb, lt-leb}
use lib.Dec.{T, leb, leb→le, nleb→lt}
use lib.Pow.{pow_mono}
use Rattle.decimal.specs.Steps.{Dividing}
use Rattle.decimal.proofs.divided.Goals as goal
use Rattle.decimal.proofs.divided.Goals.{then-goes, else-goes}

start : (num den : ℕ) → 0 < den → num < 2 ^ 54 * den → Dividing num den (num / den) (num % den) 0
start num den p h =
    let e : num ≡ num * 2 ^ 0 = omega arith in
    record { same = div-add-mod' num den ∙ e; less = mod-lt num p; few = (div-lt_iff_lt-mul p).1 h; within = omega arith }

room : (num den q rest n : ℕ) → 0 < num → den < 2 ^ 54 → q < 2 ^ 53 → rest < den → q * den + rest ≡ num * 2 ^ n → n < 107
room num den q rest n h s f l e =
    let a : (q + 1) * den ≤ 2 ^ 53 * den = mul-le-mul_right den (omega arith) in
    let b : 1 * 2 ^ n ≤ num * 2 ^ n = mul-le-mul_right (2 ^ n) h in
    let c : 2 ^ n < 2 ^ 107 = omega arith in
    lt_of_not-le (λ (g : 107 ≤ n). not-le_of_lt c (pow_mono g))

twice : (num n : ℕ) → num * 2 ^ (n + 1) ≡ 2 * (num * 2 ^ n)
twice num n = rw add-one (ap (λ (x : ℕ). num * x) (pow-succ' 2 n) ∙ mul_left_comm num 2 (2 ^ n))

turn : (num den q rest n : ℕ) → 0 < num → den < 2 ^ 54 → q < 2 ^ 53 → Dividing num den q rest n → let goes = leb den (2 * rest) in Dividing num den (2 * q + cond goes 1 0) (2 * rest - cond goes den 0) (n + 1)
turn num den q rest n h s f o = go (leb den (2 * rest)) (leb→le den (2 * rest)) (nleb→lt den (2 * rest))
  where
    go : (b : Bool) → (T b → den ≤ 2 * rest) → (T (not b) → 2 * rest < den) → Dividing num den (2 * q + cond b 1 0) (2 * rest - cond b den 0) (n + 1)
    go true a b =
        let i = a tt in
        record { same = rw twice (omega (arith, o.same)); less = omega (arith, o.less); few = omega arith; within = omega (arith, room num den q rest n h s f o.less o.same) }
    go false a b =
        let i = b tt in
        record { same = rw twice (omega (arith, o.same)); less = omega arith; few = omega arith; within = omega (arith, room num den q rest n h s f o.less o.same) }

pub nonzero_div-digits : goal.nonzero_div-digits
nonzero_div-digits c = c.requires.divides

pub nonzero_rem-rest : goal.nonzero_rem-rest
nonzero_rem-rest c = c.requires.divides

pub loop-digits-init : goal.loop-digits-init
loop-digits-init c = start _ _ c.requires.divides c.requires.num_fits

pub overflow_mul-brought : goal.overflow_mul-brought
overflow_mul-brought c = omega arith

pub overflow_mul-digits : goal.overflow_mul-digits
overflow_mul-digits c = omega arith

pub overflow_add-places : goal.overflow_add-places
overflow_add-places c = omega (arith, room _ _ _ _ _ c.requires.some c.requires.den_fits (omega (arith, c.loop-digits-test.true)) c.loop-digits.invariant.less c.loop-digits.invariant.same)

pub loop-digits-smaller : goal.loop-digits-smaller
loop-digits-smaller c = omega (arith, room _ _ _ _ _ c.requires.some c.requires.den_fits (omega (arith, c.loop-digits-test.true)) c.loop-digits.invariant.less c.loop-digits.invariant.same)

pub loop-digits-preserved : goal.loop-digits-preserved
loop-digits-preserved c =
    let p = c.requires in
    let t = turn _ _ _ _ _ p.some p.den_fits (omega (arith, c.loop-digits-test.true)) c.loop-digits.invariant in
    elim c.if-goes.branch [
      | then-goes w ↦ let e = le-leb _ _ w.if-goes.true in rw (w.taken-is, c.from-digit.ensures, e) (rw e at t)
      | else-goes w ↦ let e = lt-leb _ _ w.if-goes.false in rw (w.taken-is, c.from-digit.ensures, e) (rw e at t)
    ]

pub returns : goal.returns
returns c = record { last = c.loop-digits.invariant; full = c.loop-digits-test.false }
