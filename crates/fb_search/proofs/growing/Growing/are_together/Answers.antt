use Rattle.std.proofs.lemmas.Bool.{eq-eqb, eqb-true, both_ways}
use Rattle.fb_half.specs.Values.{part_of}
use Rattle.fb_trees.proofs.ForestReads.{plus_outside}
use Rattle.fb_search.specs.InternalGrowing.{GrowingValue}
use Rattle.fb_search.proofs.PairedTrees.{one_number, together_at}
use Rattle.fb_search.proofs.growing.Growing.are_together.Goals.{in_default-via-in-Some+in_default, in_default-via-in_default}
use Rattle.fb_search.proofs.growing.Growing.are_together.Goals as goal

pub returns-clause-together : goal.returns-clause-together
returns-clause-together c =
    let w : GrowingValue = record { part = part_of c.self.inside.parts; forest = c.self.inside.forest; watched = c.self.inside.watch } in
    let (g, at_first) = c.in-Some-Some.ensures.tree in
    let (h, at_second) = c.in-Some-Some.ensures'.tree in
    rw (← c.self.view_is)
    (λ same.
    together_at w.forest c.tree_of.ensures.kept c.args.first c.args.second c.in-Some-Some.one c.in-Some-Some.other g h at_first
    at_second (rw (← c.self.view_is) at c.requires.first) (rw (← c.self.view_is) at c.requires.second) (eqb-true _ _ same))

pub returns-clause-apart : goal.returns-clause-apart
returns-clause-apart c =
    let w : GrowingValue = record { part = part_of c.self.inside.parts; forest = c.self.inside.forest; watched = c.self.inside.watch } in
    let (g, at_first) = c.in-Some-Some.ensures.tree in
    let (h, at_second) = c.in-Some-Some.ensures'.tree in
    rw (← c.self.view_is)
    (λ other both.
    both_ways _ other
    (eq-eqb _ _
    (one_number w.forest c.tree_of.ensures.kept c.args.first c.args.second c.in-Some-Some.one c.in-Some-Some.other g h at_first
    at_second both)))

pub unreachable-requires : goal.unreachable-requires
unreachable-requires c =
    let now : GrowingValue = record { part = part_of c.self.inside.parts; forest = c.self.inside.forest; watched = c.self.inside.watch } in
    elim c.in_default.branch [
      | in_default-via-in-Some+in_default w ↦
          plus_outside now.forest c.args.second (rw (← c.self.view_is) at c.requires.second) w.in_default.ensures'.tree
      | in_default-via-in_default w ↦
          plus_outside now.forest c.args.first (rw (← c.self.view_is) at c.requires.first)
          (rw w.in_default.is-0 at c.tree_of.ensures.tree)
    ]
