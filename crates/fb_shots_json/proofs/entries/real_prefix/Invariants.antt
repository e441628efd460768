use Rattle.std.proofs.Common.{◌≡◌, ◌++◌, drop}
use Rattle.fb_shots_json.specs.TextJson.{first_fault}
use Rattle.fb_shots_json.specs.InternalEntries.{real_prefix, vertex_fault}
use Rattle.fb_shots_json.proofs.entries.real_prefix.Given as goal

-- the entries so far, and the rest
abbrev pub invariant-loop-entry : goal.invariant-loop-entry
invariant-loop-entry l =
    (real_prefix l.graph l.listed ≡ l.found.items ++ real_prefix l.graph (drop l.entry-index l.listed))
    × (first_fault (vertex_fault l.graph) l.listed ≡ first_fault (vertex_fault l.graph) (drop l.entry-index l.listed))
