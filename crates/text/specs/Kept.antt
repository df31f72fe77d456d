-- The litters in the buffer are those that the core is handed.
use Rattle.std.specs.Prelude.{◌≡◌, List, [], ◌∷◌, ◌++◌, ℕ, suc, ◌+◌, ◌*◌, ◌≤◌, ◌<◌, length, get_or, take}
use Rattle.std.proofs.Common.{◌∙◌, append_assoc, append-nil, arith, lt-ltb}
use Rattle.read.specs.Long.{length_put}
use Rattle.litters.specs.Kept.{row_taken}
use Rattle.read.specs.Rows.{put_litter, put_litters}
use Rattle.text.specs.Answer.{litters_of}

put_three : (b l : List ℕ) (n : ℕ) → length b ≡ 384 → n < 128 → take (3 * (n + 1)) (put_litter b n l) ≡ take (3 * n) b ++ (get_or l 1 0 ∷ get_or l 2 0 ∷ get_or l 0 0 ∷ [])
unfolding put_litter
put_three b l n s m = rw (lt-ltb n 128 m) (row_taken b n (get_or l 1 0) (get_or l 2 0) (get_or l 0 0) (omega arith))

pub kept_litters : (b : List ℕ) (n : ℕ) (ls : List (List ℕ)) → length b ≡ 384 → n + length ls ≤ 128 → take (3 * (n + length ls)) (put_litters b n ls) ≡ take (3 * n) b ++ litters_of ls
unfolding put_litters litters_of
kept_litters b n [] s h = let e : n + 0 ≡ n = omega arith in rw (e, append-nil (take (3 * n) b))
kept_litters b n (l ∷ ls) s h =
    let e : n + suc (length ls) ≡ n + 1 + length ls = omega arith in
    let m : n < 128 = omega arith in
    let ih = kept_litters (put_litter b n l) (n + 1) ls (length_put b l n ∙ s) (omega arith) in
    rw e (ih ∙ rw (put_three b l n s m) (append_assoc (take (3 * n) b) (get_or l 1 0 ∷ get_or l 2 0 ∷ get_or l 0 0 ∷ []) (litters_of ls)))
