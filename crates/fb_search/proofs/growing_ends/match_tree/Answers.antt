use Rattle.std.proofs.Common.{◌≡◌, ◌∷◌, ◌++◌, ◌∙◌, true, All, subst, sym}
use Rattle.std.specs.List.Sorted.{IsPermutation}
use Rattle.fb_graph.specs.Certificate.{AreDistinct}
use Rattle.fb_graph.specs.Parity.{is_in}
use Rattle.fb_links.specs.Table.{is_live}
use Rattle.fb_half.specs.Matchings.{listed_names, matched_names}
use Rattle.fb_trees.proofs.ForestReads.{plus_outside}
use Rattle.fb_search.specs.InternalEndings.{ended_matches}
use Rattle.fb_search.proofs.MatchedTrees.{may_plus, may_same, root_read}
use Rattle.fb_search.proofs.growing_ends.match_tree.Goals as goal

pub unreachable-requires : goal.unreachable-requires
unreachable-requires c =
    plus_outside c.args.forest.now c.args.plus
    (may_plus c.args.forest.now c.requires.0 c.requires.0 c.args.plus c.requires.1 c.requires.1 c.args.matching.now c.args.links.now
    c.requires.2)
    c.in_default.ensures.tree

pub take_unmatched-requires : goal.take_unmatched-requires
take_unmatched-requires c =
    let (h, there) = c.in-Some.ensures.tree in
    let may =
    may_same c.args.forest.now c.requires.0 c.in-Some.tree c.args.plus c.requires.1 h c.args.matching.now c.args.links.now
    c.requires.2 c.keeps.ensures there in
    subst (λ n. is_in c.args.matching.now.unmatched n ≡ true)
    (root_read c.args.forest.now c.in-Some.tree c.in-Some-root.root h c.root.result c.root.ensures c.in-Some-root.is there.at) may.root

pub forget_all-requires-clause-live : goal.forget_all-requires-clause-live
forget_all-requires-clause-live c =
    let (h, there) = c.in-Some.ensures.tree in
    let may =
    may_same c.args.forest.now c.requires.0 c.in-Some.tree c.args.plus c.requires.1 h c.args.matching.now c.args.links.now
    c.requires.2 c.keeps.ensures there in
    subst (All (λ id. is_live c.args.links.now id ≡ true))
    (sym (c.deref.ensures.value ∙ c.in_ok-end.ensures.gone c.in-Some.tree h there)) may.live

pub forget_all-requires-clause-distinct : goal.forget_all-requires-clause-distinct
forget_all-requires-clause-distinct c =
    let (h, there) = c.in-Some.ensures.tree in
    let may =
    may_same c.args.forest.now c.requires.0 c.in-Some.tree c.args.plus c.requires.1 h c.args.matching.now c.args.links.now
    c.requires.2 c.keeps.ensures there in
    subst AreDistinct (sym (c.deref.ensures.value ∙ c.in_ok-end.ensures.gone c.in-Some.tree h there)) may.once

pub add_matches-requires : goal.add_matches-requires
add_matches-requires c =
    let (h, there) = c.in-Some.ensures.tree in
    let may =
    may_same c.args.forest.now c.requires.0 c.in-Some.tree c.args.plus c.requires.1 h c.args.matching.now c.args.links.now
    c.requires.2 c.keeps.ensures there in
    let read =
    root_read c.args.forest.now c.in-Some.tree c.in-Some-root.root h c.root.result c.root.ensures c.in-Some-root.is there.at in
    subst (λ ms. AreDistinct (listed_names c.take_unmatched.new.self ++ matched_names ms))
    (sym (c.deref-2.ensures.value ∙ c.in_ok-end.ensures.matches c.in-Some.tree h there))
    (subst
    (λ ms.
    AreDistinct ((c.take_unmatched.new.self.unmatched ++ matched_names ms) ++ matched_names (ended_matches h.branches c.args.plus)))
    (sym c.take_unmatched.ensures.matches)
    (may.distinct c.take_unmatched.new.self.unmatched
    (subst (λ n. IsPermutation c.args.matching.now.unmatched (n ∷ c.take_unmatched.new.self.unmatched)) (sym read)
    c.take_unmatched.ensures.unmatched)))
