-- The shape of what is asked, and the marks.
use Rattle.std.specs.Prelude.{Bool, ◌&&◌, ℕ, ◌*◌, ◌/◌, ◌%◌, ◌^◌, eqb, leb}

-- one to eight estimates, at least one mark and none past the dimension, as many errors, covariance by rows
unfoldable pub shaped_of : ℕ → ℕ → ℕ → ℕ → Bool
shaped_of estimates covariance errors marks =
    leb 1 estimates && (leb estimates 8 && (leb 1 marks && (eqb (marks / 2 ^ estimates) 0 && (eqb errors estimates && eqb covariance (estimates * estimates)))))

-- the i-th binary digit of the marks
unfoldable pub marked_of : ℕ → ℕ → Bool
marked_of marks i = eqb (marks / 2 ^ i % 2) 1
