-- A host's call: its value, and what its two buffers hold after it. No second answer meets an equation of these.
use Rattle.std.specs.Prelude.{◌≡◌, List, ℕ, Float}
use Rattle.std.proofs.Common.{ap, sym, ◌∙◌}
use Rattle.store.specs.Stored.{stored}

pub record Given : Type 0 where
  pub value : ℕ
  pub numbers : List Float
  pub counts : List ℕ

abbrev pub given : ℕ → List Float → List ℕ → Given
given value numbers counts = record { value = value; numbers = numbers; counts = counts }

-- two answers that meet one equation agree in each part
pub agree : {G A : Type 0} (part : G → A) (g x y : G) → x ≡ g → y ≡ g → part x ≡ part y
agree part g x y p q = ap part (p ∙ sym q)

pub one_given : (g : Given) (r s : ℕ) (n m : List Float) (c d : List ℕ) → given r n c ≡ g → given s m d ≡ g → (r ≡ s) × (n ≡ m) × (c ≡ d)
one_given g r s n m c d p q = (agree (λ (x : Given). x.value) g _ _ p q, agree (λ (x : Given). x.numbers) g _ _ p q, agree (λ (x : Given). x.counts) g _ _ p q)

-- a call that stores both lists: its value, and each of them
pub both_put : (l m v x : List Float) (c d w y : List ℕ) (r k : ℕ) → v ≡ x → w ≡ y → m ≡ stored l v → d ≡ stored c w → r ≡ k → given r m d ≡ given k (stored l x) (stored c y)
both_put l m v x c d w y r k a b p q e = rw (p, q, e, a, b)
