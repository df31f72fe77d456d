-- The answers for `copied`.
use mathlib.Core.Path.{◌≡◌, refl}
use Prim.Native.Nat.{ℕ, ◌+◌, ◌≤◌, ◌<◌}
use mathlib.Core.List.{List}
use native.Mathlib.Omega.{arith}
use native.Mathlib.Numerals.{add-one}
use native.Mathlib.Nat.{le_antisymm}
use lib.ListN.{length, get_or, set}
use lib.Seq.{paste, paste-zero, paste-suc}
use borrow.Author.Rules.{rules}
use Rattle.parts.proofs.kept.copied.Goals as goal

turn : (d s into : List ℕ) (at j : ℕ) → into ≡ paste d at s j → at + j < length d → j < length s → set into (at + j) (get_or s j 0) ≡ paste d at s (j + 1)
turn d s into at j e h l = rw (e, add-one) (paste-suc d at s j 0 h l)

done : (d s into : List ℕ) (at j count : ℕ) → into ≡ paste d at s j → count ≤ j → j ≤ count → into ≡ paste d at s count
done d s into at j count e h l = rw (← le_antisymm l h) e

pub loop-j-init : goal.loop-j-init
loop-j-init c = (paste-zero c.args.into.now c.args.at c.args.bytes.now, refl, omega arith)

pub bounds-bytes-j : goal.bounds-bytes-j
bounds-bytes-j c = omega arith

pub overflow_add-into : goal.overflow_add-into
overflow_add-into c = omega arith

pub bounds-into-at : goal.bounds-into-at
bounds-into-at c = omega arith

pub overflow_step-j : goal.overflow_step-j
overflow_step-j c = omega arith

pub loop-j-smaller : goal.loop-j-smaller
loop-j-smaller c = omega arith

pub loop-j-preserved : goal.loop-j-preserved
loop-j-preserved c = (turn _ _ _ _ _ c.loop-j.invariant.0 (omega arith) (omega arith), search rules, omega arith)

pub shape_of-into : goal.shape_of-into
shape_of-into c = omega arith

pub returns : goal.returns
returns c = search (done, rules)
