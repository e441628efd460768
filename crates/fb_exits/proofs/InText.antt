-- What holds of a command that ends while it writes about the shots of a file.
use Rattle.std.proofs.Common.{◌≡◌, ℕ, inl, inr, List, Option, refl}
use Rattle.std.proofs.KnownBytes.{Appends-trans}
use Rattle.fb_graph.specs.Limits.{ShotValue}
use Rattle.fb_ports.specs.Causes.{Appends, AppendsPrefix, Rose}
use Rattle.fb_files.specs.InternalGathers.{Gathers}
use Rattle.fb_files.specs.Moments.{Moment}
use Rattle.fb_files.specs.declared.taking.ShotsEnd.{ShotsEnd}
use Rattle.fb_files.specs.declared.taking.ShotsEnd.TheVariants as end
use Rattle.fb_exits.specs.TextEnds.{AppendsAfter, EndAfter, Source}

-- the head, and then a prefix of a text
pub appends_after : (head : List ℕ) (old mid new : Option (List ℕ)) (text : List ℕ) → Appends old mid head → AppendsPrefix mid new text
    → AppendsAfter head old new text
appends_after head old mid new text whole (prefix, rest, parts, part) = (prefix, rest, parts, Appends-trans old mid new head prefix whole part)

-- how the shots of a file end, by what was gathered of it
pub end_after : (source : Source) (before after : Moment) (shots : List ShotValue) (ended : ShotsEnd)
    → Gathers before.named source.name source.format source.graph after.left shots ended
    → (ended ≡ end.ReadFault → Rose before.faults after.faults) → EndAfter source before after shots
end_after source before after shots end.End held rose = inl held
end_after source before after shots (end.Refused fault) held rose = inr (inl (fault.kind, held.0))
end_after source before after shots end.ReadFault held rose = inr (inr (rose refl, held))
