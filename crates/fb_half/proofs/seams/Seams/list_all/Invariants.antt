use Rattle.std.proofs.Common.{ℕ, ◌≡◌, ◌==◌, ◌++◌, if◌then◌else◌, map, take}
use Rattle.fb_links.specs.Names.{name_by}
use Rattle.fb_half.specs.Seams.{names_under}
use Rattle.fb_half.proofs.seams.Seams.list_all.Given as goal

abbrev pub invariant-loop-name : goal.invariant-loop-name
invariant-loop-name l = (o : ℕ) → names_under l.self o
    ≡ (if l.owner == o then names_under l.initial.self o ++ map (name_by l.names) (take l.name-index l.listed) else names_under l.initial.self o)
