-- A computation whose questions are answered by computations that ask in their turn: as one computation of the inner questions, and what a run of it comes to.
use Rattle.std.specs.Prelude.{◌≡◌, true, false, ℕ, ◌+◌, ◌-◌}
use Rattle.std.proofs.Math.Path.{refl, fun_ext}
use Rattle.std.proofs.Common.{ap, sym, ◌∙◌, true≢false, arith, add-zero}
use Rattle.work.specs.Ended.{Ended, done, stopped, short, value_or, is_done}
use Rattle.work.specs.Work.{Work, ret, stop, ask, ◌>>=◌, metered}
use Rattle.work.specs.Share.{share}
use Rattle.work.specs.Through.{through, Open, Driven, heard, driven}

-- ---- as one computation

bind_assoc : {E X A B C : Type 0} (w : Work E X A) (f : A → Work E X B) (g : B → Work E X C) → (w >>= f >>= g) ≡ (w >>= λ a. f a >>= g)
unfolding ◌>>=◌
bind_assoc (ret a) f g = refl
bind_assoc (stop r) f g = refl
bind_assoc (ask e k) f g = ap (λ h. ask e h) (fun_ext (λ v. bind_assoc (k v) f g))

through_bind : {E Y Q O A B : Type 0} (ev : Q → Work E Y O) (w : Work Q O A) (f : A → Work Q O B) → through ev (w >>= f) ≡ (through ev w >>= λ a. through ev (f a))
unfolding through ◌>>=◌
through_bind ev (ret a) f = refl
through_bind ev (stop r) f = refl
through_bind ev (ask q k) f = ap (λ h. ev q >>= h) (fun_ext (λ c. through_bind ev (k c) f)) ∙ sym (bind_assoc (ev q) (λ c. through ev (k c)) (λ a. through ev (f a)))

-- the inner questions answered first, or the outer ones
pub nested : {E Y L S Q O A : Type 0} (ev : L → Work E Y S) (inner : Q → Work L S O) (w : Work Q O A) → through ev (through inner w) ≡ through (λ q. through ev (inner q)) w
unfolding through
nested ev inner (ret a) = refl
nested ev inner (stop r) = refl
nested ev inner (ask q k) = through_bind ev (inner q) (λ c. through inner (k c)) ∙ ap (λ h. through ev (inner q) >>= h) (fun_ext (λ c. nested ev inner (k c)))

-- ---- what a run comes to

-- after a run that ended so, with n evaluations used and the question q open
abbrev pub past_of : {L A B : Type 0} → Ended A → ℕ → Open L → (A → ℕ → Driven L B) → Driven L B
past_of (done a) n q go = go a n
past_of (stopped r) n q go = record { ended = stopped r; used = n; asked = q }
past_of short n q go = record { ended = short; used = n; asked = q }

pub past_refused : {L A B : Type 0} (e : Ended A) (n : ℕ) (q : Open L) (go : A → ℕ → Driven L B) → is_done e ≡ false → (past_of e n q go).asked ≡ q
past_refused (done a) n q go h = absurd (true≢false h)
past_refused (stopped r) n q go h = refl
past_refused short n q go h = refl

pub past_answered : {L A B : Type 0} (d : A) (e : Ended A) (n : ℕ) (q : Open L) (go : A → ℕ → Driven L B) → is_done e ≡ true → past_of e n q go ≡ go (value_or d e) n
past_answered d (done a) n q go h = refl
past_answered d (stopped r) n q go h = absurd (true≢false (sym h))
past_answered d short n q go h = absurd (true≢false (sym h))

-- the count raised by u
abbrev shifted : {L A : Type 0} → ℕ → Driven L A → Driven L A
shifted u d = record { ended = d.ended; used = u + d.used; asked = d.asked }

module _ {E Y L S : Type 0} (at : E → Y) (ev : L → Work E Y S) where
  module _ (l : ℕ) where
    bind_heard : {A B : Type 0} (q : L) (f : S → ℕ → Driven L A) (g : S → ℕ → Driven L B) (go : A → ℕ → Driven L B) → ((c : S) (n : ℕ) → g c n ≡ past_of (f c n).ended (f c n).used (f c n).asked go) → (e : Ended S) (n : ℕ) → (let d = heard q e n f in heard q e n g ≡ past_of d.ended d.used d.asked go)
    bind_heard q f g go h (done c) n = h c n
    bind_heard q f g go h (stopped r) n = refl
    bind_heard q f g go h short n = refl

    -- the law of a sequence
    pub driven_bind : {A B : Type 0} (u : ℕ) (w : Work L S A) (f : A → Work L S B) → (let d = driven at ev l u w in driven at ev l u (w >>= f) ≡ past_of d.ended d.used d.asked (λ a n. driven at ev l n (f a)))
    unfolding driven ◌>>=◌
    driven_bind u (ret a) f = refl
    driven_bind u (stop r) f = refl
    driven_bind u (ask q k) f =
        bind_heard q (λ c n. driven at ev l n (k c)) (λ c n. driven at ev l n (k c >>= f)) (λ a n. driven at ev l n (f a)) (λ c n. driven_bind n (k c) f) (metered at l u (ev q)).ended (metered at l u (ev q)).used

  module _ (l u : ℕ) where
    metered_shift : {A : Type 0} (n : ℕ) (w : Work E Y A) → metered at l (u + n) w ≡ record { ended = (metered at (l - u) n w).ended; used = u + (metered at (l - u) n w).used }
    metered_shift n w =
        let e : l - (u + n) ≡ l - u - n = omega arith in
        let s : u + n + (metered at (l - u - n) 0 w).used ≡ u + (n + (metered at (l - u - n) 0 w).used) = omega arith in
        rw (share at w l (u + n), share at w (l - u) n, e, s)

    shift_heard : {A : Type 0} (q : L) (f g : S → ℕ → Driven L A) → ((c : S) (n : ℕ) → f c (u + n) ≡ shifted u (g c n)) → (e : Ended S) (n : ℕ) → heard q e (u + n) f ≡ shifted u (heard q e n g)
    shift_heard q f g h (done c) n = h c n
    shift_heard q f g h (stopped r) n = refl
    shift_heard q f g h short n = refl

    driven_shift : {A : Type 0} (n : ℕ) (w : Work L S A) → driven at ev l (u + n) w ≡ shifted u (driven at ev (l - u) n w)
    unfolding driven
    driven_shift n (ret a) = refl
    driven_shift n (stop r) = refl
    driven_shift n (ask q k) =
        rw (metered_shift n (ev q))
        (shift_heard q (λ c n. driven at ev l n (k c)) (λ c n. driven at ev (l - u) n (k c)) (λ c n. driven_shift n (k c)) (metered at (l - u) n (ev q)).ended (metered at (l - u) n (ev q)).used)

    -- the question that is open is the one under what is left of the limit
    pub open_share : {A : Type 0} (w : Work L S A) → (driven at ev l u w).asked ≡ (driven at ev (l - u) 0 w).asked
    open_share w = let e = driven_shift 0 w in ap (λ d. d.asked) (rw (add-zero u) at e)
