-- The numbers that each option takes, from the least to the greatest.
use Rattle.std.specs.Prelude.{ℕ, ◌≤◌}

pub record Range : Type 0 where
  pub low : ℕ
  pub high : ℕ

abbrev pub IsWithin : Range → ℕ → Type 0
IsWithin range number = (range.low ≤ number) × (number ≤ range.high)

-- how many workers: 1 to 64
abbrev pub workers : Range
workers = record { low = 1; high = 64 }

-- how many shots are solved at once: 1 to 64
abbrev pub windows : Range
windows = record { low = 1; high = 64 }

-- the distance of a lattice: 2 to 255
abbrev pub distances : Range
distances = record { low = 2; high = 255 }

-- its rounds: 1 to 1,048,576
abbrev pub rounds : Range
rounds = record { low = 1; high = 1048576 }

-- the units of a plan: 1 to 4,096
abbrev pub units : Range
units = record { low = 1; high = 4096 }

-- in how many of 1,048,576 draws an edge is hit: 0 to 1,048,576
abbrev pub rates : Range
rates = record { low = 0; high = 1048576 }

-- the state at which the draws start: any number of 64 bits
abbrev pub starts : Range
starts = record { low = 0; high = 18446744073709551615 }

-- how many shots are drawn: 1 to 1,000,000
abbrev pub shots : Range
shots = record { low = 1; high = 1000000 }
