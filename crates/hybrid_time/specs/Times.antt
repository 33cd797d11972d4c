-- Timestamps: a number of milliseconds, the physical part, above 18 bits that count within one millisecond.
use Rattle.std.specs.Prelude.{ℕ, ◌-◌, ◌*◌, ◌/◌, ◌^◌, min}

-- the milliseconds of a timestamp
abbrev pub physical_of : ℕ → ℕ
physical_of ts = ts / 2 ^ 18

-- the first timestamp of a millisecond; moments from the greatest physical part on share its first timestamp
abbrev pub of_moment : ℕ → ℕ
of_moment ms = min ms (2 ^ 45 - 1) * 2 ^ 18
