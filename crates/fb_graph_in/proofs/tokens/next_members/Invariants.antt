use Rattle.std.proofs.Common.{◌≡◌, ℕ, ◌≤◌, length, option_map}
use Rattle.json.specs.Json.{members, value}
use Rattle.serde_json.specs.Data.{Members, no_members}
use Rattle.serde_json.specs.Read.{converted, of_members}
use Rattle.fb_graph_in.specs.InternalTokens.{Holds}
use Rattle.fb_graph_in.proofs.tokens.next_members.Given as goal

-- n bounds the number of turns that are left, and ms are the members so far
abbrev pub invariant-members : goal.invariant-members
invariant-members l =
    (n : ℕ) × (ms : Members) × (length l.reader ≤ n)
    × (converted (λ js. of_members js no_members) (members (value 126) (length l.initial.reader) l.initial.reader) ≡ converted (λ js. of_members js ms) (members (value 126) n l.reader))
    × Holds ms l.found.vertex_num (option_map (λ v. v.items) l.found.edges) (option_map (λ v. v.items) l.found.virtuals)

abbrev pub decreases-members : goal.decreases-members
decreases-members l = length l.reader
