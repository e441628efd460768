-- The pieces of two solved parts as those of one part: what they keep, and what they keep once the seam is opened.
use Rattle.std.proofs.Common.{ℕ, ◌≡◌, ◌||◌, true, List, ◌++◌, get_or, map, refl, sym, ap, ◌∙◌, subst}
use Rattle.std.specs.List.Sorted.{IsStrictlyIncreasing}
use Rattle.fb_graph.specs.Certificate.{AreDistinct}
use Rattle.fb_graph.specs.NestUnions.{AreParts}
use Rattle.fb_graph.specs.Parity.{is_in}
use Rattle.fb_graph.specs.RenamedNodes.{renamed_nodes}
use Rattle.fb_graph.proofs.Members.{is_in-append}
use Rattle.fb_plan.specs.Scopes.{scope_graph, scope_problem}
use Rattle.fb_plan.specs.declared.scope.NodeScope.{NodeScope}
use Rattle.fb_plan.proofs.ShotPlans.{shot_plan}
use Rattle.fb_links.specs.Merged.{AreMerged}
use Rattle.fb_links.specs.Names.{name_by}
use Rattle.fb_blossoms.specs.Merged as merged
use Rattle.fb_regions.specs.Merged.{AreNewNames}
use Rattle.fb_half.specs.declared.parts.Parts.{Parts}
use Rattle.fb_half.specs.Beginnings.{shot_defects}
use Rattle.fb_half.specs.InternalMerging.{AreHalves, AreSiblings, IsJoined}
use Rattle.fb_half.specs.InternalSeams.{AreBesideListed, IsBeside, IsOpened}
use Rattle.fb_half.specs.InternalUnions.{IsRisingUnion}
use Rattle.fb_half.specs.Matchings.{listed_names, matched_names}
use Rattle.fb_half.specs.Merged.{renamed_match, shot_seam}
use Rattle.fb_half.specs.Merged as promised
use Rattle.fb_half.specs.Parts.{IsPart, PartValue, graph_in, shot_of}
use Rattle.fb_half.specs.Seams.{names_under}
use Rattle.fb_regions.specs.Paces.{IsAtRest}
use Rattle.fb_half.specs.Values.{IsScopeOf, part_of}
use Rattle.fb_half.proofs.AddedSingles.{Store}
use Rattle.fb_half.proofs.BesideNodes.{new_names}
use Rattle.fb_half.proofs.FusedHalves.{fused_part}
use Rattle.fb_half.proofs.FusedMatches.{merged_is}
use Rattle.fb_half.proofs.ListedHalves.{beside_listed}
use Rattle.fb_half.proofs.MergedHalves.{before, beside, leaves_apart, matches_distinct, same_part, scoped_parts}
use Rattle.fb_half.proofs.OwnDefects.{given_joined, given_rises}
use Rattle.fb_half.proofs.SlotScopes.{graphs_alike}
use Rattle.fb_links.proofs.MovedLinks.{Table}

union_twice : (xs ys both zs all : List ℕ) → IsRisingUnion xs ys both → IsRisingUnion both zs all → IsRisingUnion (xs ++ ys) zs all
union_twice xs ys both zs all one two = record {
  rising = two.rising;
  members = λ v. two.members v ∙ ap (λ b. b || is_in zs v) (one.members v ∙ sym (is_in-append xs ys v));
}

module _ (scope : NodeScope) (left right : Parts) (s : AreSiblings scope left right) where
  abbrev l : PartValue
  l = part_of left

  abbrev r : PartValue
  r = part_of right

  h : AreHalves l.job l r scope.node
  h = s.halves

  pub sibling_parts : AreParts (scope_problem left.regions.scope) (scope_problem right.regions.scope) (scope_problem scope)
  sibling_parts =
      scoped_parts (record l.job { graph = graph_in l }) scope.node l.node r.node _ _ _ _ _ _ _ _
      (shot_plan l.job.graph l.job.plan (shot_of l) h.one.job.plan) h.children
      s.left_scope.graph (s.right_scope.graph ∙ graphs_alike r l h.same_job h.same_slot) s.graph
      s.left_scope.plan (s.right_scope.plan ∙ ap (λ j. j.plan) h.same_job) s.plan
      s.left_scope.node s.right_scope.node

  pub left_vertices : left.regions.scope.graph.now.vertices ≡ scope.graph.now.vertices
  left_vertices = ap (λ g. g.vertices) s.left_scope.graph ∙ sym (ap (λ g. g.vertices) s.graph)

  pub right_vertices : right.regions.scope.graph.now.vertices ≡ scope.graph.now.vertices
  right_vertices = ap (λ g. g.vertices) (s.right_scope.graph ∙ graphs_alike r l h.same_job h.same_slot) ∙ sym (ap (λ g. g.vertices) s.graph)

  pub sibling_leaves : merged.AreLeavesApart left.blossoms right.blossoms
  sibling_leaves = leaves_apart l r scope.node h.limits h.children h.one h.two h.matched h.also

  pub sibling_names : (store : Store) (links names : List (ℕ × ℕ)) → merged.IsMerged left.blossoms right.blossoms store links names
      → AreNewNames left.regions.nodes right.regions.nodes (name_by names)
  sibling_names store links names are =
      new_names left.regions.nodes right.regions.nodes left.blossoms right.blossoms store links names h.one.agreed h.two.agreed are

  pub sibling_matches : (links names : List (ℕ × ℕ)) (table : Table) (store : Store) → AreMerged left.links right.links links table
      → merged.IsMerged left.blossoms right.blossoms store links names
      → AreDistinct (listed_names left.matching ++ matched_names (map (renamed_match (name_by links) (name_by names)) right.matching.matches))
  sibling_matches links names table store tables stores =
      matches_distinct l r scope.node h.limits h.children h.one h.two h.matched h.also links names table store tables stores

  pub right_part : IsPart r
  right_part = subst IsPart (sym (same_part r (record r { job = l.job; slot = l.slot }) h.same_job h.same_slot refl refl refl refl refl)) h.two

  pub left_rises : IsStrictlyIncreasing left.defects.items
  left_rises = subst IsStrictlyIncreasing (sym s.left_scope.defects) (given_rises l h.one)

  pub right_rises : IsStrictlyIncreasing right.defects.items
  right_rises = subst IsStrictlyIncreasing (sym s.right_scope.defects) (given_rises r right_part)

module _ (scope : NodeScope) (left right joined : Parts) (s : AreSiblings scope left right) (j : IsJoined scope left right joined) where
  abbrev first : PartValue
  first = part_of left

  abbrev second : PartValue
  second = part_of right

  abbrev w : PartValue
  w = before first second scope.node s.halves.limits s.halves.children s.halves.one s.halves.two s.halves.matched s.halves.also j.links j.names joined.links joined.blossoms j.tables j.stores

  joined_is : part_of joined ≡ w
  joined_is = same_part (part_of joined) w j.job j.slot j.node j.nodes refl refl j.matching

  w_beside : IsBeside w
  w_beside = beside first second scope.node s.halves.limits s.halves.children s.halves.one s.halves.two s.halves.matched s.halves.also j.links j.names joined.links joined.blossoms j.tables j.stores

  pub joined_scope : IsScopeOf joined.regions.scope (part_of joined)
  joined_scope = record {
    graph = ap scope_graph j.scope_is ∙ (s.graph ∙ sym (graphs_alike (part_of joined) first j.job j.slot));
    plan = ap (λ x. x.plan.now) j.scope_is ∙ (s.plan ∙ ap (λ x. x.plan) (sym j.job));
    node = ap (λ x. x.node) j.scope_is ∙ sym j.node;
  }

  pub joined_listed : AreBesideListed joined.seams (part_of joined)
  joined_listed =
      subst (AreBesideListed joined.seams) (sym joined_is)
      (beside_listed first second scope.node s.halves.limits s.halves.children s.halves.one s.halves.two s.halves.matched s.halves.also j.links j.names joined.links joined.blossoms
      j.tables j.stores s.halves.same_job left.seams right.seams joined.seams j.left_seams j.right_seams s.left_scope.listed s.right_scope.listed)

  module _ (own : List ℕ) (after : Parts) (opened : IsOpened own (part_of joined) (part_of after)) where
    opened_here : IsOpened own w (part_of after)
    opened_here = subst (λ x. IsOpened own x (part_of after)) joined_is opened

    pub joined_part : IsPart (part_of after)
    unfolding w_beside
    joined_part =
        fused_part first second scope.node s.halves.limits s.halves.children s.halves.one s.halves.two s.halves.matched s.halves.also j.links j.names joined.links joined.blossoms
        j.tables j.stores own (part_of after) w_beside refl opened_here

    pub joined_merged : promised.IsMerged first.job scope.node first second (part_of after)
    unfolding w_beside
    joined_merged =
        merged_is first second scope.node s.halves.limits s.halves.children s.halves.one s.halves.two s.halves.matched s.halves.also j.links j.names joined.links joined.blossoms
        j.tables j.stores s.halves.same_job own (part_of after) w_beside opened_here

    pub joined_defects : IsRisingUnion joined.defects.items (shot_seam joined.job.0.now joined.slot joined.node) after.defects.items
        → after.defects.items ≡ shot_defects (part_of after)
    joined_defects union =
        given_joined first second scope.node s.halves.limits s.halves.children s.halves.one s.halves.two s.halves.matched s.halves.also (part_of after)
        left.defects.items right.defects.items after.defects.items
        (opened.job ∙ j.job) (opened.slot ∙ j.slot) (opened.node ∙ j.node) s.halves.same_job s.halves.same_slot s.left_scope.defects s.right_scope.defects
        (union_twice left.defects.items right.defects.items joined.defects.items (shot_seam first.job first.slot scope.node) after.defects.items j.defects
        (subst (λ x. IsRisingUnion joined.defects.items x after.defects.items) (λ i. shot_seam (j.job i) (j.slot i) (j.node i)) union))

pub moved_siblings : (scope : NodeScope) (left right one two : Parts) → one ≡ left → two ≡ right → AreSiblings scope left right → AreSiblings scope one two
moved_siblings scope left right one two left_is right_is s =
    subst (λ x. AreSiblings scope x two) (sym left_is) (subst (λ x. AreSiblings scope left x) (sym right_is) s)

-- the right part beside the left one
pub joined_both : (scope : NodeScope) (left right joined : Parts) (links names : List (ℕ × ℕ)) → AreSiblings scope left right
    → AreMerged left.links right.links links joined.links → merged.IsMerged left.blossoms right.blossoms joined.blossoms links names
    → joined.regions ≡ record left.regions { scope = scope; nodes = left.regions.nodes ++ renamed_nodes (name_by names) right.regions.nodes }
    → joined.matching ≡ record { matches = left.matching.matches ++ map (renamed_match (name_by links) (name_by names)) right.matching.matches; unmatched = left.matching.unmatched }
    → ((o x : ℕ) → is_in (names_under left.seams o) x ≡ true → is_in (names_under joined.seams o) x ≡ true)
    → ((o x : ℕ) → is_in (names_under right.seams o) x ≡ true → is_in (names_under joined.seams o) (name_by names x) ≡ true)
    → IsRisingUnion left.defects.items right.defects.items joined.defects.items
    → joined.job.0.now ≡ left.job.0.now → joined.slot ≡ left.slot → joined.node ≡ scope.node → IsJoined scope left right joined
joined_both scope left right joined links names s tables stores regions matching mine theirs defects job slot node = record {
  links = links;
  names = names;
  tables = tables;
  stores = stores;
  scope_is = ap (λ x. x.scope) regions;
  nodes = ap (λ x. x.nodes) regions;
  rest = subst IsAtRest (sym regions) (record { plus = s.left_scope.rest.plus; minus = s.left_scope.rest.minus });
  matching = matching
      ∙ ap (λ l. record { matches = left.matching.matches ++ map (renamed_match (name_by links) (name_by names)) right.matching.matches; unmatched = l }) s.halves.matched;
  left_seams = λ i d less o h. mine o (get_or left.matching.matches i d).first h;
  right_seams = λ i d less o h. theirs o (get_or right.matching.matches i d).first h;
  defects = defects;
  job = job;
  slot = slot;
  node = node;
}
