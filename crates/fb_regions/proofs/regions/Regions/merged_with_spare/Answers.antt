use Rattle.std.proofs.Common.{refl, sym, ap, ◌∙◌, subst, arith}
use Rattle.fb_graph.specs.Certificate.{AreDistinct}
use Rattle.fb_links.specs.Names.{name_by}
use Rattle.fb_regions.specs.InternalHeads.{HaveHeads}
use Rattle.fb_regions.specs.InternalListings.{region_named}
use Rattle.fb_regions.specs.InternalNodes.{nodes_of}
use Rattle.fb_regions.specs.Paces.{grows, shrinks}
use Rattle.fb_regions.proofs.ByName.{names}
use Rattle.fb_regions.proofs.ClockLists.{all_both, begun_both, kept_both_at, paced_both, paced_same}
use Rattle.fb_regions.proofs.ClockReadings.{names_at}
use Rattle.fb_regions.proofs.HeadsMerged.{heads_merged}
use Rattle.fb_regions.proofs.MergedNames.{marks_by}
use Rattle.fb_regions.proofs.MergedStates.{distinct_both, kept_both, nodes_both}
use Rattle.fb_regions.proofs.regions.Regions.merged_with_spare.Goals as goal

pub take_marks-requires : goal.take_marks-requires
take_marks-requires g c =
    omega (
      arith,
      c.left.invariant.0.room,
      c.right.invariant.0.room,
      rw (← c.left.view_is) at c.requires.left_vertices,
      rw (← c.right.view_is) at c.requires.right_vertices,
    )

pub take_nodes-requires-clause-distinct : goal.take_nodes-requires-clause-distinct
take_nodes-requires-clause-distinct g c =
    let rest = rw (← c.right.view_is) at c.requires.rest in
    let all = all_both c.left.inside.clock c.right.inside.clock (name_by c.args.nodes.now) c.left.inside.regions.items c.right.inside.regions.items rest.plus rest.minus in
    subst AreDistinct (ap names (sym all) ∙ names_at c.left.inside.clock _)
    (distinct_both _ _ _ _ _ _ _ _ c.limits.ensures (rw (← c.left.view_is, ← c.right.view_is) at c.requires.parts)
    c.left.invariant.0 c.right.invariant.0 (rw (← c.left.view_is, ← c.right.view_is) at c.requires.names))

pub invariant_of-merged : goal.invariant_of-merged
invariant_of-merged g c =
    let rest = rw (← c.right.view_is) at c.requires.rest in (
      rw c.in_ok-names.ensures.nodes
          (kept_both_at _ c.left.inside.clock c.right.inside.clock (name_by c.args.nodes.now) c.left.inside.regions.items c.right.inside.regions.items _ rest.plus rest.minus
          (kept_both _ _ _ _ _ _ _ _ c.limits.ensures (rw (← c.left.view_is, ← c.right.view_is) at c.requires.parts)
          c.left.invariant.0 c.right.invariant.0 (rw (← c.left.view_is, ← c.right.view_is) at c.requires.names)
          _ (marks_by _ _ c.in_ok-names.ensures.names _ _ _ c.in_ok-take_marks.ensures) (rw (← c.left.view_is) at c.requires.left_vertices))),
      c.in_ok-names.ensures.index,
      rw c.in_ok-names.ensures.nodes (begun_both c.left.inside.clock (name_by c.args.nodes.now) c.left.inside.regions.items c.right.inside.regions.items c.left.invariant.2),
      rw c.in_ok-names.ensures.nodes
          (subst (λ l. HaveHeads (region_named l))
          (sym (all_both c.left.inside.clock c.right.inside.clock (name_by c.args.nodes.now) c.left.inside.regions.items c.right.inside.regions.items rest.plus rest.minus))
          (heads_merged _ _ _ _ _ _ _ _ c.limits.ensures (rw (← c.left.view_is, ← c.right.view_is) at c.requires.parts)
          c.left.invariant.0 c.right.invariant.0 (rw (← c.left.view_is, ← c.right.view_is) at c.requires.names) c.left.invariant.3 c.right.invariant.3)),
    )

pub returns : goal.returns
returns g c =
    let rest = rw (← c.right.view_is) at c.requires.rest in
    let all = all_both c.left.inside.clock c.right.inside.clock (name_by c.args.nodes.now) c.left.inside.regions.items c.right.inside.regions.items rest.plus rest.minus in
    rw (← c.left.view_is, ← c.right.view_is, c.in_ok-names.ensures.nodes)
    (paced_same _ _ _ _ _ _ _
    (ap (nodes_of _) all
    ∙ nodes_both _ _ _ _ _ _ _ _ c.limits.ensures (rw (← c.left.view_is, ← c.right.view_is) at c.requires.parts)
    c.left.invariant.0 c.right.invariant.0 (rw (← c.left.view_is, ← c.right.view_is) at c.requires.names)
    _ (marks_by _ _ c.in_ok-names.ensures.names _ _ _ c.in_ok-take_marks.ensures))
    (paced_both grows refl (name_by c.args.nodes.now) c.left.inside.regions.items c.right.inside.regions.items rest.plus rest.minus)
    (paced_both shrinks refl (name_by c.args.nodes.now) c.left.inside.regions.items c.right.inside.regions.items rest.plus rest.minus))
