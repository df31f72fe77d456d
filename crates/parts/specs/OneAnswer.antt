-- No second answer meets the contract of a call on a lent state: neither another value nor other contents of the state or of a buffer.
use Rattle.std.specs.Prelude.{◌≡◌, List, ℕ}
use Rattle.store.specs.Given.{agree}
use Rattle.parts.specs.Lent.{Lent, lent, Told, told}

pub one_lent : (s : Lent) (r t : ℕ) (b a c d : List ℕ) → lent r b c ≡ s → lent t a d ≡ s → (r ≡ t) × (b ≡ a) × (c ≡ d)
one_lent s r t b a c d p q = (agree (λ (x : Lent). x.value) s _ _ p q, agree (λ (x : Lent). x.buffer) s _ _ p q, agree (λ (x : Lent). x.counts) s _ _ p q)

pub one_told : (s : Told) (r t : ℕ) (c d q p l m : List ℕ) → told r c q l ≡ s → told t d p m ≡ s → (r ≡ t) × (c ≡ d) × (q ≡ p) × (l ≡ m)
one_told s r t c d q p l m h g =
    (agree (λ (x : Told). x.value) s _ _ h g, agree (λ (x : Told). x.counts) s _ _ h g, agree (λ (x : Told). x.request) s _ _ h g, agree (λ (x : Told). x.litters) s _ _ h g)
