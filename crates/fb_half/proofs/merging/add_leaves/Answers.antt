use Rattle.std.proofs.Common.{◌∙◌, ◌+◌, ◌++◌, ◌∷◌, [], length, get_or, drop, take, sym, subst}
use Rattle.std.proofs.lemmas.List.{take_more}
use Rattle.fb_half.specs.InternalSeams.{AddsSingles}
use Rattle.fb_regions.proofs.Listed.{not_before}
use Rattle.fb_half.proofs.AddedSingles.{names_more, singles_added_more, still_leafless, still_listed, still_live, still_uncovered}
use Rattle.fb_half.proofs.merging.add_leaves.Goals as goal

pub add_leaf-requires-clause-uncovered : goal.add_leaf-requires-clause-uncovered
add_leaf-requires-clause-uncovered c =
    still_uncovered _ _ _ _ _ _ _ _ c.loop-v.invariant.0 _ (c.requires.uncovered c.loop-v.v-index 0 c.loop-v-test.true)
    (not_before c.args.vertices.now c.loop-v.v-index c.requires.distinct c.loop-v-test.true)

pub add_leaf-requires-clause-leafless : goal.add_leaf-requires-clause-leafless
add_leaf-requires-clause-leafless c =
    still_leafless _ _ _ _ _ _ _ _ c.loop-v.invariant.0 _ (c.requires.leafless c.loop-v.v-index 0 c.loop-v-test.true)
    (not_before c.args.vertices.now c.loop-v.v-index c.requires.distinct c.loop-v-test.true)

pub add_leaf-requires-clause-live : goal.add_leaf-requires-clause-live
add_leaf-requires-clause-live c = still_live _ _ _ _ _ _ _ _ c.loop-v.invariant.0 c.requires.live

pub add_leaf-requires-clause-listed : goal.add_leaf-requires-clause-listed
add_leaf-requires-clause-listed c = still_listed _ _ _ _ _ _ _ _ c.loop-v.invariant.0 c.requires.listed

pub loop-v-preserved : goal.loop-v-preserved
loop-v-preserved c = (
  subst (λ l. AddsSingles l (take (c.loop-v.v-index + 1) c.args.vertices.now) c.args.regions.now.nodes c.add_leaf.new.regions.nodes c.args.store.now c.add_leaf.new.store c.args.matching.now c.add_leaf.new.matching)
      (sym (names_more _ _ _ _ _ _ _ _ c.loop-v.invariant.0 c.in_ok-add_leaf.field-0 _ c.in_ok-add_leaf.ensures.matching))
      (subst (λ l. AddsSingles (drop (length c.args.matching.now.unmatched) c.loop-v.matching.unmatched ++ c.in_ok-add_leaf.field-0 ∷ []) l c.args.regions.now.nodes c.add_leaf.new.regions.nodes c.args.store.now c.add_leaf.new.store c.args.matching.now c.add_leaf.new.matching)
      (sym (take_more c.args.vertices.now c.loop-v.v-index 0 c.loop-v-test.true))
      (singles_added_more _ _ _ _ _ _ _ _ c.loop-v.invariant.0 c.in_ok-add_leaf.field-0 (get_or c.args.vertices.now c.loop-v.v-index 0) _ _ _
      c.in_ok-add_leaf.ensures.store c.in_ok-add_leaf.ensures.nodes c.in_ok-add_leaf.ensures.matching)),
  c.in_ok-add_leaf.ensures.scope ∙ c.loop-v.invariant.1,
  λ rest. c.in_ok-add_leaf.ensures.rest (c.loop-v.invariant.2 rest),
)
