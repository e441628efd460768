use Rattle.std.proofs.Common.{ℕ, ◌≤◌, length}
use Rattle.fb_json.specs.NumberTokens.{natural_data}
use Rattle.fb_json.proofs.ListTokens.{GoesOn}
use Rattle.fb_json.proofs.number_tokens.next_naturals.Given as goal

-- n bounds the number of turns that are left
abbrev pub invariant-entries : goal.invariant-entries
invariant-entries l =
    (n : ℕ) × (length l.reader ≤ n) × ((depth : ℕ) → GoesOn natural_data depth l.initial.reader l.found.items n l.reader)
    × (length l.reader ≤ length l.initial.reader)

abbrev pub decreases-entries : goal.decreases-entries
decreases-entries l = length l.reader
