-- From what cannot be anything follows: `impossible (cc)` closes a case whose facts disagree.
use Rattle.std.specs.Prelude.{◌≡◌, ℕ}
use Rattle.std.proofs.Common.{arith}

pub impossible : {Z : Type 0} → ◌≡◌ {A = ℕ} 0 1 → Z
impossible z = absurd (omega arith)
