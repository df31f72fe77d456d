-- How many bytes of a part are kept: 8,193 of a text, one more than a request may have.
use Rattle.std.specs.Prelude.{ℕ, ◌-◌, min}

-- how many of len bytes have a place behind n
unfoldable pub room_for_of : ℕ → ℕ → ℕ
room_for_of n len = min len (8193 - n)
