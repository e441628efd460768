use Rattle.std.proofs.Common.{sym, subst}
use Rattle.fb_half.specs.InternalMerging.{IsJoined}
use Rattle.fb_half.specs.Merged.{IsMerged}
use Rattle.fb_half.specs.Values.{part_of}
use Rattle.fb_half.proofs.GivenHalves.{siblings_of}
use Rattle.fb_half.proofs.JoinedParts.{joined_defects, joined_listed, joined_merged, joined_part, joined_scope}
use Rattle.fb_half.proofs.SlotScopes.{scope_graph_is}
use Rattle.fb_half.proofs.work.Work.merge_with_spare.Goals as goal

pub joined-requires : goal.joined-requires
joined-requires c =
    siblings_of c.args.job.now c.args.node c.scope-scope.result c.into_parts-left.result.value c.into_parts-right.result.value c.args.left c.args.right
    c.into_parts-left.ensures.value c.into_parts-right.ensures.value c.into_parts-left.ensures.scope c.into_parts-right.ensures.scope
    c.requires.left c.requires.right c.requires.slot c.requires.children
    (scope_graph_is c.scope-scope.result c.args.left c.args.job.now c.slot.result c.requires.left c.slot.ensures c.scope-scope.ensures.graph c.scope-scope.ensures.shot)
    c.scope-scope.ensures.plan c.scope-scope.ensures.node c.limits.ensures
    c.keeps-2.ensures.part c.keeps-3.ensures.part c.keeps-2.ensures.matched c.keeps-3.ensures.matched

pub open_seam-requires-clause-scope : goal.open_seam-requires-clause-scope
open_seam-requires-clause-scope c =
    let s =
    siblings_of c.args.job.now c.args.node c.scope-scope.result c.into_parts-left.result.value c.into_parts-right.result.value c.args.left c.args.right
    c.into_parts-left.ensures.value c.into_parts-right.ensures.value c.into_parts-left.ensures.scope c.into_parts-right.ensures.scope
    c.requires.left c.requires.right c.requires.slot c.requires.children
    (scope_graph_is c.scope-scope.result c.args.left c.args.job.now c.slot.result c.requires.left c.slot.ensures c.scope-scope.ensures.graph c.scope-scope.ensures.shot)
    c.scope-scope.ensures.plan c.scope-scope.ensures.node c.limits.ensures
    c.keeps-2.ensures.part c.keeps-3.ensures.part c.keeps-2.ensures.matched c.keeps-3.ensures.matched in
    let j =
    subst (IsJoined c.scope-scope.result c.into_parts-left.result.value c.into_parts-right.result.value) (sym c.deref_mut.ensures.value) c.in_ok-parts.ensures in
    joined_scope _ _ _ _ s j

pub open_seam-requires-clause-beside : goal.open_seam-requires-clause-beside
open_seam-requires-clause-beside c =
    let s =
    siblings_of c.args.job.now c.args.node c.scope-scope.result c.into_parts-left.result.value c.into_parts-right.result.value c.args.left c.args.right
    c.into_parts-left.ensures.value c.into_parts-right.ensures.value c.into_parts-left.ensures.scope c.into_parts-right.ensures.scope
    c.requires.left c.requires.right c.requires.slot c.requires.children
    (scope_graph_is c.scope-scope.result c.args.left c.args.job.now c.slot.result c.requires.left c.slot.ensures c.scope-scope.ensures.graph c.scope-scope.ensures.shot)
    c.scope-scope.ensures.plan c.scope-scope.ensures.node c.limits.ensures
    c.keeps-2.ensures.part c.keeps-3.ensures.part c.keeps-2.ensures.matched c.keeps-3.ensures.matched in
    let j =
    subst (IsJoined c.scope-scope.result c.into_parts-left.result.value c.into_parts-right.result.value) (sym c.deref_mut.ensures.value) c.in_ok-parts.ensures in
    joined_listed _ _ _ _ s j

pub open_seam-requires-clause-defects : goal.open_seam-requires-clause-defects
open_seam-requires-clause-defects c =
    let j =
    subst (IsJoined c.scope-scope.result c.into_parts-left.result.value c.into_parts-right.result.value) (sym c.deref_mut.ensures.value) c.in_ok-parts.ensures in
    j.defects.rising

pub invariant_of-result : goal.invariant_of-result
invariant_of-result c =
    let s =
    siblings_of c.args.job.now c.args.node c.scope-scope.result c.into_parts-left.result.value c.into_parts-right.result.value c.args.left c.args.right
    c.into_parts-left.ensures.value c.into_parts-right.ensures.value c.into_parts-left.ensures.scope c.into_parts-right.ensures.scope
    c.requires.left c.requires.right c.requires.slot c.requires.children
    (scope_graph_is c.scope-scope.result c.args.left c.args.job.now c.slot.result c.requires.left c.slot.ensures c.scope-scope.ensures.graph c.scope-scope.ensures.shot)
    c.scope-scope.ensures.plan c.scope-scope.ensures.node c.limits.ensures
    c.keeps-2.ensures.part c.keeps-3.ensures.part c.keeps-2.ensures.matched c.keeps-3.ensures.matched in
    let j =
    subst (IsJoined c.scope-scope.result c.into_parts-left.result.value c.into_parts-right.result.value) (sym c.deref_mut.ensures.value) c.in_ok-parts.ensures in
    let opened = c.in_ok-open_seam.ensures in (
      record {
        graph = opened.scope.graph;
        plan = opened.scope.plan;
        node = opened.scope.node;
        listed = opened.listed;
        defects = joined_defects _ _ _ _ s j _ c.open_seam.new.parts opened.opened opened.defects;
        rest = opened.rest j.rest;
      },
      joined_part _ _ _ _ s j _ c.open_seam.new.parts opened.opened,
    )

pub returns : goal.returns
returns c =
    let s =
    siblings_of c.args.job.now c.args.node c.scope-scope.result c.into_parts-left.result.value c.into_parts-right.result.value c.args.left c.args.right
    c.into_parts-left.ensures.value c.into_parts-right.ensures.value c.into_parts-left.ensures.scope c.into_parts-right.ensures.scope
    c.requires.left c.requires.right c.requires.slot c.requires.children
    (scope_graph_is c.scope-scope.result c.args.left c.args.job.now c.slot.result c.requires.left c.slot.ensures c.scope-scope.ensures.graph c.scope-scope.ensures.shot)
    c.scope-scope.ensures.plan c.scope-scope.ensures.node c.limits.ensures
    c.keeps-2.ensures.part c.keeps-3.ensures.part c.keeps-2.ensures.matched c.keeps-3.ensures.matched in
    let j =
    subst (IsJoined c.scope-scope.result c.into_parts-left.result.value c.into_parts-right.result.value) (sym c.deref_mut.ensures.value) c.in_ok-parts.ensures in
    let after = part_of c.open_seam.new.parts in
    subst (λ n. IsMerged c.args.job.now n c.args.left c.args.right after) c.scope-scope.ensures.node
    (subst (λ x. IsMerged x c.scope-scope.result.node c.args.left c.args.right after) c.requires.left
    (subst (λ x. IsMerged c.args.left.job c.scope-scope.result.node c.args.left x after) c.into_parts-right.ensures.value
    (subst (λ x. IsMerged x.job c.scope-scope.result.node x (part_of c.into_parts-right.result.value) after) c.into_parts-left.ensures.value
    (joined_merged _ _ _ _ s j _ c.open_seam.new.parts c.in_ok-open_seam.ensures.opened))))
