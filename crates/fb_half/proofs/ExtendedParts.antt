-- The pieces of two solved parts of which one has no node: the other ones as they are.
use Rattle.std.proofs.Common.{ℕ, ◌≡◌, true, false, List, [], ◌∷◌, ◌++◌, get_or, map, All, append-nil, refl, sym, ap, ◌∙◌, subst, inl, None, if◌then◌else◌, arith}
use Rattle.std.proofs.lemmas.Bool.{false≢true, or_left, or_right}
use Rattle.std.proofs.Math.Bool.{or_comm}
use Rattle.std.proofs.lemmas.List.Elements.{All-nil}
use Rattle.fb_graph.specs.Dual.{is_live}
use Rattle.fb_graph.specs.Parity.{is_in}
use Rattle.fb_graph.specs.RenamedNodes.{renamed_nodes}
use Rattle.fb_graph.proofs.Among.{IsAmong}
use Rattle.fb_graph.proofs.Members.{is_in-append}
use Rattle.fb_graph.proofs.NestParts.{names_live}
use Rattle.fb_plan.specs.declared.scope.NodeScope.{NodeScope}
use Rattle.fb_links.specs.Merged.{AreMerged, IsMoved}
use Rattle.fb_links.specs.Names.{name_by}
use Rattle.fb_links.specs.Table.{link_at}
use Rattle.fb_links.specs.Table as table
use Rattle.fb_blossoms.specs.Merged as merged
use Rattle.fb_blossoms.specs.Nodes as blossoms
use Rattle.fb_regions.specs.Paces.{IsAtRest}
use Rattle.fb_half.specs.declared.matches.Match.{Match}
use Rattle.fb_half.specs.declared.parts.Parts.{Parts}
use Rattle.fb_half.specs.InternalMerging.{AreSiblings, IsExtended, IsJoined}
use Rattle.fb_half.specs.Matchings.{listed_names, match_links, matched_names}
use Rattle.fb_half.specs.Merged.{renamed_match}
use Rattle.fb_half.specs.InternalUnions.{IsRisingUnion}
use Rattle.fb_half.specs.Parts.{IsPart, PartValue, kept_links}
use Rattle.fb_half.specs.Seams.{names_under}
use Rattle.fb_half.specs.Translations.{ring_links}
use Rattle.fb_half.specs.Values.{part_of}
use Rattle.fb_half.proofs.AddedSingles.{Store}
use Rattle.fb_half.proofs.FreedMatches.{first_in, name_in}
use Rattle.fb_half.proofs.JoinedParts.{right_part}
use Rattle.fb_half.proofs.SameNumbers.{matches_kept, name_kept, nodes_kept, same_pairs, stores_kept, tables_kept}
use Rattle.fb_links.proofs.MovedLinks.{Table}

none_of : {X : Type 0} (xs : List X) → ((x : X) → IsAmong x xs → ⊥) → xs ≡ []
none_of [] never = refl
none_of (x ∷ xs) never = absurd (never x (inl refl))

-- a part without nodes has no leaf, no match and no link
module _ (w : PartValue) (is : IsPart w) (none : w.nodes ≡ []) where
  pub bare_store : (x : ℕ) → blossoms.is_live w.store x ≡ false
  bare_store x = sym (is.agreed.live x) ∙ ap (λ l. is_live l x) none

  pub bare_matches : w.matching.matches ≡ []
  bare_matches = none_of w.matching.matches never
    where
      listed : (m : Match) → IsAmong m w.matching.matches → is_in (listed_names w.matching ++ []) m.first ≡ true
      listed m a =
          is_in-append (listed_names w.matching) [] m.first
          ∙ or_left (is_in (listed_names w.matching) m.first) (is_in [] m.first)
          (is_in-append w.matching.unmatched (matched_names w.matching.matches) m.first
          ∙ or_right (is_in w.matching.unmatched m.first) (is_in (matched_names w.matching.matches) m.first)
          (name_in w.matching.matches m m.first a (first_in m)))

      never : (m : Match) → IsAmong m w.matching.matches → ⊥
      never m a = false≢true (sym (ap (λ l. is_live l m.first) none) ∙ (is.matching.live m.first (listed m a)).0)

  pub bare_links : (id : ℕ) → table.is_live w.links id ≡ false
  bare_links id =
      is.links.live id
      ∙ (ap (λ ms. is_in (match_links ms ++ ring_links w.nodes w.store) id) bare_matches ∙ ap (λ ns. is_in (ring_links ns w.store) id) none)

merged_none : (left right : Table) → ((id : ℕ) → table.is_live right id ≡ false) → AreMerged left right [] left
merged_none left right bare = record {
  listed = λ id. sym (bare id);
  once = tt;
  moved = All-nil (IsMoved right left);
  fresh = All-nil (λ (p : ℕ × ℕ). link_at left p.1 ≡ None);
  apart = tt;
  others = λ id out. refl;
}

stored_none : (left right : Store) → ((x : ℕ) → blossoms.is_live right x ≡ false) → merged.IsMerged left right left [] []
stored_none left right bare = record {
  listed = λ a. ap (λ b. if b then 1 else 0) (sym (bare a));
  distinct = λ b. omega arith;
  apart = λ a c live also same. absurd (false≢true (sym (bare a) ∙ live));
  fresh = λ a live. absurd (false≢true (sym (bare a) ∙ live));
  left_stays = λ x live. refl;
  right_renamed = λ a live. absurd (false≢true (sym (bare a) ∙ live));
  nothing_else = λ x live. inl live;
}

abbrev Seen : Parts → Parts → Match → Type 0
Seen right after m = (o : ℕ) → is_in (names_under right.seams o) m.first ≡ true → is_in (names_under after.seams o) (name_by [] m.first) ≡ true

-- the right part has no node
pub joined_left : (scope : NodeScope) (left right after : Parts) → AreSiblings scope left right → right.regions.nodes ≡ []
    → IsExtended scope left right after → IsJoined scope left right after
joined_left scope left right after s none e = record {
  links = [];
  names = [];
  tables = subst (AreMerged left.links right.links []) (sym e.links)
      (merged_none left.links right.links (bare_links (part_of right) part none));
  stores = subst (λ x. merged.IsMerged left.blossoms right.blossoms x [] []) (sym e.blossoms)
      (stored_none left.blossoms right.blossoms (bare_store (part_of right) part none));
  scope_is = ap (λ x. x.scope) e.regions;
  nodes = ap (λ x. x.nodes) e.regions
      ∙ (sym (append-nil left.regions.nodes) ∙ ap (λ x. left.regions.nodes ++ renamed_nodes (name_by []) x) (sym none));
  rest = subst IsAtRest (sym e.regions) (record { plus = s.left_scope.rest.plus; minus = s.left_scope.rest.minus });
  matching = e.matching ∙ (λ i. record { matches = matches i; unmatched = s.halves.matched i });
  left_seams = λ i d less o h. ap (λ x. is_in (names_under x o) (get_or left.matching.matches i d).first) e.seams ∙ h;
  right_seams = subst (All (Seen right after)) (sym bare) (All-nil (Seen right after));
  defects = e.defects;
  job = e.job;
  slot = e.slot;
  node = e.node;
}
  where
    part : IsPart (part_of right)
    part = right_part scope left right s

    bare : right.matching.matches ≡ []
    bare = bare_matches (part_of right) part none

    matches : left.matching.matches ≡ left.matching.matches ++ map (renamed_match (name_by []) (name_by [])) right.matching.matches
    matches =
        sym (append-nil left.matching.matches)
        ∙ ap (λ l. left.matching.matches ++ map (renamed_match (name_by []) (name_by [])) l) (sym bare)

union_turned : (xs ys all : List ℕ) → IsRisingUnion xs ys all → IsRisingUnion ys xs all
union_turned xs ys all is = record {
  rising = is.rising;
  members = λ v. is.members v ∙ or_comm (is_in xs v) (is_in ys v);
}

abbrev SeenLeft : Parts → Parts → Match → Type 0
SeenLeft left after m = (o : ℕ) → is_in (names_under left.seams o) m.first ≡ true → is_in (names_under after.seams o) m.first ≡ true

abbrev ids_of : Parts → List ℕ
ids_of parts = kept_links (part_of parts)

abbrev node_names : Parts → List ℕ
node_names parts = map (λ n. n.name) parts.regions.nodes

-- the left part has no node
pub joined_right : (scope : NodeScope) (left right after : Parts) → AreSiblings scope left right → left.regions.nodes ≡ []
    → IsExtended scope right left after → IsJoined scope left right after
joined_right scope left right after s none e = record {
  links = same_pairs (ids_of right);
  names = same_pairs (node_names right);
  tables = subst (AreMerged left.links right.links (same_pairs (ids_of right))) (sym e.links)
      (tables_kept left.links right.links (ids_of right) part.links.distinct part.links.live (bare_links (part_of left) s.halves.one none));
  stores = subst (λ x. merged.IsMerged left.blossoms right.blossoms x (same_pairs (ids_of right)) (same_pairs (node_names right))) (sym e.blossoms)
      (stores_kept left.blossoms right.blossoms (ids_of right) (node_names right) part.state.work.nest.dual.names live (bare_store (part_of left) s.halves.one none));
  scope_is = ap (λ x. x.scope) e.regions;
  nodes = ap (λ x. x.nodes) e.regions
      ∙ (sym (nodes_kept (node_names right) right.regions.nodes) ∙ ap (λ l. l ++ renamed_nodes (name_by (same_pairs (node_names right))) right.regions.nodes) (sym none));
  rest = subst IsAtRest (sym e.regions) (record { plus = s.right_scope.rest.plus; minus = s.right_scope.rest.minus });
  matching = e.matching ∙ (λ i. record { matches = matches i; unmatched = s.halves.also i });
  left_seams = subst (All (SeenLeft left after)) (sym bare) (All-nil (SeenLeft left after));
  right_seams = λ i d less o h.
      (λ k. is_in (names_under (e.seams k) o) (name_kept (node_names right) (get_or right.matching.matches i d).first k)) ∙ h;
  defects = union_turned right.defects.items left.defects.items after.defects.items e.defects;
  job = e.job ∙ s.halves.same_job;
  slot = e.slot ∙ s.halves.same_slot;
  node = e.node;
}
  where
    part : IsPart (part_of right)
    part = right_part scope left right s

    live : (x : ℕ) → blossoms.is_live right.blossoms x ≡ is_in (node_names right) x
    live x = sym (part.agreed.live x) ∙ sym (names_live right.regions.nodes x)

    bare : left.matching.matches ≡ []
    bare = bare_matches (part_of left) s.halves.one none

    matches : right.matching.matches
        ≡ left.matching.matches ++ map (renamed_match (name_by (same_pairs (ids_of right))) (name_by (same_pairs (node_names right)))) right.matching.matches
    matches =
        sym (matches_kept (ids_of right) (node_names right) right.matching.matches)
        ∙ ap (λ l. l ++ map (renamed_match (name_by (same_pairs (ids_of right))) (name_by (same_pairs (node_names right)))) right.matching.matches) (sym bare)
