-- No second answer meets the contract of a host's call: neither another value nor another buffer.
use Rattle.std.specs.Prelude.{◌≡◌, List, ℕ}
use Rattle.store.specs.Given.{agree}
use Rattle.archive_host.specs.Host.{Given, given, range_given, write_given}

one_given : (g : Given) (v w : ℕ) (c d : List ℕ) → given v c ≡ g → given w d ≡ g → (v ≡ w) × (c ≡ d)
one_given g v w c d p q = (agree (λ (x : Given). x.value) g _ _ p q, agree (λ (x : Given). x.out) g _ _ p q)

pub of_range : (b counts : List ℕ) (from to v w : ℕ) (c d : List ℕ) → given v c ≡ range_given b from to counts → given w d ≡ range_given b from to counts → (v ≡ w) × (c ≡ d)
of_range b counts from to = one_given (range_given b from to counts)

pub of_write : (ls out : List ℕ) (v w : ℕ) (c d : List ℕ) → given v c ≡ write_given ls out → given w d ≡ write_given ls out → (v ≡ w) × (c ≡ d)
of_write ls out = one_given (write_given ls out)
