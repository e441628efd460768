use Rattle.std.proofs.Common.{◌<◌, ◌∙◌, length, get_or, take, arith, sym, ap, subst}
use Rattle.std.proofs.lemmas.List.{take_more}
use Rattle.fb_graph.specs.Dual.{cover_of, is_live}
use Rattle.fb_half.specs.InternalBeginnings.{IsStarted}
use Rattle.fb_regions.proofs.Listed.{not_before}
use Rattle.fb_half.proofs.Begun.{fresh_listed, fresh_name, live_leaves, no_leaf, started_more, uncovered}
use Rattle.fb_half.proofs.start.start.Goals as goal

pub add_leaf-requires-clause-uncovered : goal.add_leaf-requires-clause-uncovered
add_leaf-requires-clause-uncovered c =
    let s = c.loop-v.invariant.0 in
    let less : c.loop-v.v-index < length c.args.own.now = omega arith in
    ap (λ l. cover_of l (get_or c.args.own.now c.loop-v.v-index 0)) s.nodes_are
    ∙ uncovered c.loop-v.matching.unmatched (take c.loop-v.v-index c.args.own.now) _ (not_before c.args.own.now c.loop-v.v-index c.requires.distinct less)

pub add_leaf-requires-clause-leafless : goal.add_leaf-requires-clause-leafless
add_leaf-requires-clause-leafless c =
    let s = c.loop-v.invariant.0 in
    let less : c.loop-v.v-index < length c.args.own.now = omega arith in
    λ x e.
    no_leaf c.loop-v.matching.unmatched (take c.loop-v.v-index c.args.own.now) _ x
    (not_before c.args.own.now c.loop-v.v-index c.requires.distinct less) (sym (s.entries x) ∙ e)

pub add_leaf-requires-clause-live : goal.add_leaf-requires-clause-live
add_leaf-requires-clause-live c =
    let s = c.loop-v.invariant.0 in
    λ name none.
    ap (λ l. is_live l name) s.nodes_are
    ∙ (live_leaves c.loop-v.matching.unmatched (take c.loop-v.v-index c.args.own.now) name s.count ∙ fresh_name _ _ _ _ name s none)

pub add_leaf-requires-clause-listed : goal.add_leaf-requires-clause-listed
add_leaf-requires-clause-listed c = λ name none. fresh_listed _ _ _ _ name c.loop-v.invariant.0 none

pub loop-v-preserved : goal.loop-v-preserved
loop-v-preserved c =
    let less : c.loop-v.v-index < length c.args.own.now = omega arith in (
      subst (λ l. IsStarted l c.add_leaf.new.regions.nodes c.add_leaf.new.store c.add_leaf.new.matching)
          (sym (take_more c.args.own.now c.loop-v.v-index 0 less))
          (started_more _ _ _ _ _ _ _ c.in_ok-add_leaf.field-0 (get_or c.args.own.now c.loop-v.v-index 0) c.loop-v.invariant.0
          c.in_ok-add_leaf.ensures.store c.in_ok-add_leaf.ensures.nodes c.in_ok-add_leaf.ensures.matching),
      c.in_ok-add_leaf.ensures.scope ∙ c.loop-v.invariant.1,
      λ rest. c.in_ok-add_leaf.ensures.rest (c.loop-v.invariant.2 rest),
    )
