-- n parts added up, from the i-th on, by an addition and what it makes of none. A loop that adds them: the sum so far, with those still to come, is the whole.
use Rattle.std.specs.Prelude.{◌≡◌, ℕ, zero, suc, ◌+◌, ◌-◌, ◌≤◌, ◌<◌}
use Rattle.std.proofs.Math.Path.{sym}
use Rattle.std.proofs.Common.{◌∙◌}
use Rattle.std.proofs.Math.Nat.{sub-zero}
use Rattle.num.specs.Left.{left_one, left_none}

unfoldable pub sum_from : {S : Type 0} → (S → S → S) → S → (ℕ → S) → ℕ → ℕ → S
sum_from plus none part zero i = none
sum_from plus none part (suc n) i = plus (part i) (sum_from plus none part n (i + 1))

module _ {S : Type 0} (plus : S → S → S) (none : S) (part : ℕ → S) where
  pub sum_begins : (left : (a : S) → plus none a ≡ a) (n : ℕ) → plus none (sum_from plus none part (n - 0) 0) ≡ sum_from plus none part n 0
  sum_begins left n = rw (sub-zero n) (left (sum_from plus none part n 0))

  module _ (all s : S) (n i : ℕ) (v : plus s (sum_from plus none part (n - i) i) ≡ all) where
    pub sum_turns : (assoc : (a b c : S) → plus (plus a b) c ≡ plus a (plus b c)) (t : S) → i < n → t ≡ plus s (part i) → plus t (sum_from plus none part (n - (i + 1)) (i + 1)) ≡ all
    unfolding sum_from
    sum_turns assoc t h e = rw e (assoc s (part i) (sum_from plus none part (n - (i + 1)) (i + 1)) ∙ (rw (left_one n i h) at v))

    pub sum_ends : (right : (a : S) → plus a none ≡ a) → n ≤ i → s ≡ all
    unfolding sum_from
    sum_ends right h = sym (right s) ∙ (rw (left_none n i h) at v)
