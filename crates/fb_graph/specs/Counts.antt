use Rattle.std.specs.Prelude.{ℕ, Bool, if◌then◌else◌}

-- 1 for a test that passes, 0 for one that fails
abbrev pub as_count : Bool → ℕ
as_count b = if b then 1 else 0
