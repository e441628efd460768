use Rattle.std.proofs.Common.{ℕ, ◌≡◌, ◌++◌, true, map, refl, sym, subst}
use Rattle.fb_graph.specs.Parity.{is_in}
use Rattle.fb_graph.specs.RenamedNodes.{renamed_nodes}
use Rattle.fb_half.specs.InternalUnions.{IsRisingUnion}
use Rattle.fb_half.specs.Seams.{names_under}
use Rattle.std.specs.List.Sorted.{IsStrictlyIncreasing}
use Rattle.fb_graph.specs.Certificate.{AreDistinct}
use Rattle.fb_links.specs.Names.{name_by}
use Rattle.fb_half.specs.InternalMerging.{IsJoined}
use Rattle.fb_half.specs.Matchings.{listed_names, matched_names}
use Rattle.fb_half.specs.Merged.{renamed_match}
use Rattle.fb_half.proofs.JoinedParts.{joined_both, left_rises, moved_siblings, right_rises, sibling_leaves, sibling_matches, sibling_parts}
use Rattle.fb_half.proofs.merging.joined_beside.Goals as goal

pub merged_tables-requires : goal.merged_tables-requires
merged_tables-requires c =
    sibling_leaves _ _ _ (moved_siblings _ _ _ _ _ c.into_inner-left.ensures c.into_inner-right.ensures c.requires)

pub merged_with_spare-requires-clause-parts : goal.merged_with_spare-requires-clause-parts
merged_with_spare-requires-clause-parts c =
    sibling_parts _ _ _ (moved_siblings _ _ _ _ _ c.into_inner-left.ensures c.into_inner-right.ensures c.requires)

pub add_rising-requires-clause-rising : goal.add_rising-requires-clause-rising
add_rising-requires-clause-rising c =
    left_rises _ _ _ (moved_siblings _ _ _ _ _ c.into_inner-left.ensures c.into_inner-right.ensures c.requires)

pub add_rising-requires-clause-others : goal.add_rising-requires-clause-others
add_rising-requires-clause-others c =
    subst IsStrictlyIncreasing (sym c.deref-3.ensures.value)
    (right_rises _ _ _ (moved_siblings _ _ _ _ _ c.into_inner-left.ensures c.into_inner-right.ensures c.requires))

pub take_matches-requires : goal.take_matches-requires
take_matches-requires c =
    let s = moved_siblings _ _ _ _ _ c.into_inner-left.ensures c.into_inner-right.ensures c.requires in
    let at = sibling_matches _ _ _ s c.in_ok-tables.tables.link_names.items c.in_ok-tables.tables.names.items c.in_ok-tables.tables.links c.in_ok-tables.tables.blossoms
    c.in_ok-tables.ensures.links c.in_ok-tables.ensures.blossoms in
    subst (λ l. AreDistinct (listed_names c.into_inner-left.result.matching ++ matched_names (map (renamed_match (name_by l) (name_by c.deref-5.result.now)) c.matches.result.now))) (sym c.deref-4.ensures.value)
    (subst (λ l. AreDistinct (listed_names c.into_inner-left.result.matching ++ matched_names (map (renamed_match (name_by c.in_ok-tables.tables.link_names.items) (name_by l)) c.matches.result.now))) (sym c.deref-5.ensures.value)
    (subst (λ l. AreDistinct (listed_names c.into_inner-left.result.matching ++ matched_names (map (renamed_match (name_by c.in_ok-tables.tables.link_names.items) (name_by c.in_ok-tables.tables.names.items)) l))) (sym c.matches.ensures) at))

pub returns : goal.returns
returns c =
    let s = moved_siblings _ _ _ _ _ c.into_inner-left.ensures c.into_inner-right.ensures c.requires in
    let left = c.into_inner-left.result in
    let right = c.into_inner-right.result in
    let t = c.in_ok-tables.tables in
    subst (λ x. IsJoined c.args.scope.now x c.args.right.value c.in_ok-parts.parts.value) c.into_inner-left.ensures
    (subst (λ x. IsJoined c.args.scope.now left x c.in_ok-parts.parts.value) c.into_inner-right.ensures
    (subst (IsJoined c.args.scope.now left right) (sym c.in_ok-parts.ensures.ok)
    (joined_both c.args.scope.now left right _ t.link_names.items t.names.items s c.in_ok-tables.ensures.links c.in_ok-tables.ensures.blossoms
    (subst (λ l. c.in_ok-regions.regions ≡ record left.regions { scope = c.args.scope.now; nodes = left.regions.nodes ++ renamed_nodes (name_by l) right.regions.nodes })
    c.deref.ensures.value c.in_ok-regions.ensures)
    (subst (λ l. c.take_matches.new.matching
    ≡ record { matches = left.matching.matches ++ map (renamed_match (name_by l) (name_by t.names.items)) right.matching.matches; unmatched = left.matching.unmatched })
    c.deref-4.ensures.value
    (subst (λ l. c.take_matches.new.matching
    ≡ record { matches = left.matching.matches ++ map (renamed_match (name_by c.deref-4.result.now) (name_by l)) right.matching.matches; unmatched = left.matching.unmatched })
    c.deref-5.ensures.value
    (subst (λ l. c.take_matches.new.matching
    ≡ record { matches = left.matching.matches ++ map (renamed_match (name_by c.deref-4.result.now) (name_by c.deref-5.result.now)) l; unmatched = left.matching.unmatched })
    c.matches.ensures c.in_ok-take_matches.ensures)))
    c.in_ok-seams.ensures.left
    (subst (λ l. (o x : ℕ) → is_in (names_under right.seams o) x ≡ true → is_in (names_under c.in_ok-seams.seams o) (name_by l x) ≡ true)
    c.deref-2.ensures.value c.in_ok-seams.ensures.right)
    (subst (λ l. IsRisingUnion left.defects.items l c.add_rising.new.all.items) c.deref-3.ensures.value c.in_ok-add_rising.ensures)
    refl refl refl)))
