-- A list of checks: all of them together are what is tested, so one that fails is enough for a refusal.
use Rattle.std.specs.Prelude.{◌≡◌, refl, Bool, true, false, ◌&&◌, List, [], ◌∷◌, ◌++◌, ℕ, zero, suc, get_or}
use Rattle.std.proofs.Common.{sym}

abbrev pub all : List Bool → Bool
all [] = true
all (b ∷ bs) = b && all bs

pub and_assoc : (a b c : Bool) → ((a && b) && c) ≡ (a && (b && c))
and_assoc true b c = refl
and_assoc false b c = refl

pub and-true : (a : Bool) → (a && true) ≡ a
and-true true = refl
and-true false = refl

pub and_false : (a : Bool) → (a && false) ≡ false
and_false true = refl
and_false false = refl

pub all_append : (cs bs : List Bool) → all (cs ++ bs) ≡ (all cs && all bs)
all_append [] bs = refl
all_append (a ∷ cs) bs = rw (all_append cs bs, and_assoc)

pub both_all : (a b : Bool) (cs bs : List Bool) → a ≡ all cs → b ≡ all bs → (a && b) ≡ all (cs ++ bs)
both_all a b cs bs p q = rw (p, q) (sym (all_append cs bs))

-- one that fails, by its place
pub one_fails : (bs : List Bool) (i : ℕ) → get_or bs i true ≡ false → all bs ≡ false
one_fails [] i h = h
one_fails (b ∷ bs) zero h = rw h
one_fails (b ∷ bs) (suc i) h = rw (one_fails bs i h) (and_false b)

pub each_passes : (bs : List Bool) (i : ℕ) → all bs ≡ true → get_or bs i true ≡ true
each_passes [] i h = refl
each_passes (true ∷ bs) zero h = refl
each_passes (true ∷ bs) (suc i) h = each_passes bs i h
each_passes (false ∷ bs) zero h = h
each_passes (false ∷ bs) (suc i) h = cc
