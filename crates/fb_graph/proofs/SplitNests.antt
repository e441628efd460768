-- A node split keeps a nest.
use Rattle.std.proofs.Common.{ℕ, ◌≡◌, ◌⊎◌, inl, inr, true, false, List, [], ◌∷◌, ◌++◌, All, refl, sym, ap, ◌∙◌, subst, if◌then◌else◌}
use Rattle.std.specs.List.{concat}
use Rattle.std.proofs.lemmas.Bool.{both_ways, false_from_ne_true, cases_eq}
use Rattle.std.proofs.lemmas.List.Concat.{flat_map-append}
use Rattle.std.proofs.lemmas.List.Elements.{All-weaker}
use Rattle.fb_graph.specs.Parity.{is_in}
use Rattle.fb_graph.specs.Problem.{Problem}
use Rattle.fb_graph.specs.Certificate.{AreDistinct}
use Rattle.fb_graph.specs.Dual.{Node, AreApart, AreGrown, AreOuterApart, all_cuts, layers_of, leaves, defects_of, first_vertices, height_of, is_empty, is_live, is_outer, top_at}
use Rattle.fb_graph.proofs.Sets.{All-from_is_in, is_in-All}
use Rattle.fb_graph.specs.Ends.{AreAllApart}
use Rattle.fb_graph.specs.Nests.{IsNest, IsForest, IsFormed, IsFilled, HasSources, child_sets}
use Rattle.fb_graph.specs.Moves.{split_nodes, MaySplit, NestSplit}
use Rattle.fb_graph.proofs.Among.{IsAmong, All_among, among_All, among_right, live_among, among_live, outer_among, outer_or_not, top_among, same_among, apart_among, among_pairs, apart_of_two}
use Rattle.fb_graph.proofs.EndSums.{apart_sym}
use Rattle.fb_graph.proofs.Forests.{child_within}
use Rattle.fb_graph.proofs.InsertedCuts.{IsInserted, AreFit, removed_fit, same_weigh, sources_same}
use Rattle.fb_graph.proofs.NestParts.{grove_of, fit_of, nest_of, map_agree, split_is_bare}
use Rattle.fb_graph.proofs.Places.{IsPlaced, placed, cuts_at, leaves_at, among_split, split_among, split_All, split_names, split_joined}

module _ (p : Problem) (nodes : List Node) (name : ℕ) (may : MaySplit nodes name) (nest : IsNest p nodes) where
  pub at : IsPlaced nodes name
  at = placed nodes name nest.dual.names may.live

  there : IsAmong at.node nodes
  there = subst (IsAmong at.node) (sym at.whole) (among_right at.before (at.node ∷ at.after) at.node (inl refl))

  pub bare : (is_empty at.node.children ≡ false) × (at.node.below ≡ []) × (at.node.top.value ≡ 0)
  bare = split_is_bare nodes name may at.node there at.named

  pub insertion : IsInserted at.node.top (all_cuts (split_nodes name nodes)) (all_cuts nodes)
  insertion = record {
    before = all_cuts at.before;
    after = all_cuts at.after;
    old_is = ap all_cuts at.removed ∙ flat_map-append layers_of at.before at.after;
    new_is =
        ap all_cuts at.whole
        ∙ (cuts_at at.before at.after at.node ∙ ap (λ l. all_cuts at.before ++ ((l ++ at.node.top ∷ []) ++ all_cuts at.after)) bare.1);
    bare = bare.2;
  }

  pub same_leaves : leaves (split_nodes name nodes) ≡ leaves nodes
  same_leaves =
      ap leaves at.removed
      ∙ (flat_map-append defects_of at.before at.after
      ∙ (ap (λ b. leaves at.before ++ ((if b then first_vertices (layers_of at.node) else []) ++ leaves at.after)) (sym bare.0)
      ∙ (sym (leaves_at at.before at.after at.node) ∙ ap leaves (sym at.whole))))

  pub height : (v : ℕ) → height_of (all_cuts (split_nodes name nodes)) v ≡ height_of (all_cuts nodes) v
  height v = sym (same_weigh (λ s. is_in s v) at.node.top (all_cuts (split_nodes name nodes)) (all_cuts nodes) insertion)

  fit : AreFit p (leaves (split_nodes name nodes)) (all_cuts (split_nodes name nodes))
  fit =
      subst (λ l. AreFit p l (all_cuts (split_nodes name nodes))) (sym same_leaves)
      (removed_fit p (leaves nodes) at.node.top (all_cuts (split_nodes name nodes)) (all_cuts nodes) insertion (fit_of p nodes nest))

  -- a child of another node is there still, with its set
  child_stays : (n : Node) → IsAmong n nodes → (c : ℕ) → is_in n.children c ≡ true
      → (m : Node) × IsAmong m nodes × IsAmong m (split_nodes name nodes) × (m.name ≡ c)
  child_stays n a c within =
      let live : is_live nodes c ≡ true =
      is_in-All (λ x. is_live nodes x ≡ true) n.children (All_among (λ m. All (λ x. is_live nodes x ≡ true) m.children) nodes nest.forest.live n a) c within in
      let (m, b, e) = live_among nodes c live in (
        m,
        b,
        split_among name nodes m b
            (λ same. both_ways (is_in n.children name) (outer_among nodes name may.outer n a) (ap (is_in n.children) (sym same ∙ e) ∙ within)),
        e,
      )

  same_sets : (n : Node) → IsAmong n nodes → child_sets (split_nodes name nodes) n ≡ child_sets nodes n
  same_sets n a =
      map_agree (top_at (split_nodes name nodes)) (top_at nodes) n.children
      (All-from_is_in (λ c. top_at (split_nodes name nodes) c ≡ top_at nodes c) n.children
      (λ c h.
      let (m, b, d, e) = child_stays n a c h in
      subst (λ x. top_at (split_nodes name nodes) x ≡ top_at nodes x) e
      (top_among (split_nodes name nodes) (split_names name nodes nest.dual.names) m d ∙ sym (top_among nodes nest.dual.names m b))))

  forest : IsForest (split_nodes name nodes)
  forest = record {
    formed = split_All IsFormed name nodes nest.forest.formed;
    live = among_All (λ n. All (λ c. is_live (split_nodes name nodes) c ≡ true) n.children) (split_nodes name nodes)
        (λ n a.
        All-from_is_in (λ c. is_live (split_nodes name nodes) c ≡ true) n.children
        (λ c h.
        let (m, b, d, e) = child_stays n (among_split name nodes n a).0 c h in
        among_live (split_nodes name nodes) m c d e));
    joined = split_joined name nodes nest.forest.joined;
    filled = among_All (IsFilled (split_nodes name nodes)) (split_nodes name nodes)
        (λ n a some v.
        All_among (IsFilled nodes) nodes nest.forest.filled n (among_split name nodes n a).0 some v
        ∙ ap (λ l. is_in (concat l) v) (sym (same_sets n (among_split name nodes n a).0)));
    parted = among_All (λ n. AreAllApart (child_sets (split_nodes name nodes) n)) (split_nodes name nodes)
        (λ n a.
        subst AreAllApart (sym (same_sets n (among_split name nodes n a).0))
        (All_among (λ m. AreAllApart (child_sets nodes m)) nodes nest.forest.parted n (among_split name nodes n a).0));
  }

  -- what becomes outer was joined by the node
  outer_before : (m : Node) → is_outer (split_nodes name nodes) m.name ≡ true
      → (is_outer nodes m.name ≡ true) ⊎ (is_in at.node.children m.name ≡ true)
  outer_before m outer = by (outer_or_not nodes m.name)
    where
      by : (is_outer nodes m.name ≡ true) ⊎ ((q : Node) × IsAmong q nodes × (is_in q.children m.name ≡ true))
          → (is_outer nodes m.name ≡ true) ⊎ (is_in at.node.children m.name ≡ true)
      by (inl h) = inl h
      by (inr (q, b, child)) = pick (cases_eq q.name name)
        where
          pick : (q.name ≡ name) ⊎ (q.name ≡ name → ⊥) → (is_outer nodes m.name ≡ true) ⊎ (is_in at.node.children m.name ≡ true)
          pick (inl same) =
              inr (ap (λ x. is_in x.children m.name) (sym (same_among nodes nest.dual.names q at.node b there (same ∙ sym at.named))) ∙ child)
          pick (inr other) =
              absurd (both_ways (is_in q.children m.name) (outer_among (split_nodes name nodes) m.name outer q (split_among name nodes q b other)) child)

  apart_child : (m n : Node) → IsAmong m nodes → (m.name ≡ name → ⊥) → IsAmong n nodes → is_outer nodes m.name ≡ true
      → is_in at.node.children n.name ≡ true → AreApart m.top.vertices n.top.vertices
  apart_child m n a other b outer child v within =
      false_from_ne_true (is_in n.top.vertices v)
      (λ h.
      both_ways (is_in at.node.top.vertices v)
      (apart_among nodes nest.dual.names nest.dual.apart m at.node a there (λ same. other (same ∙ at.named)) outer
      (ap (is_outer nodes) at.named ∙ may.outer) v within)
      (child_within nodes (grove_of p nodes nest) n at.node b there child v h))

  apart : AreOuterApart (split_nodes name nodes)
  apart =
      among_pairs (λ m n. is_outer (split_nodes name nodes) m.name ≡ true → is_outer (split_nodes name nodes) n.name ≡ true → AreApart m.top.vertices n.top.vertices)
      (split_nodes name nodes) (split_names name nodes nest.dual.names)
      (λ m n a b other out_m out_n.
      by m n (among_split name nodes m a) (among_split name nodes n b) other (outer_before m out_m) (outer_before n out_n))
    where
      by : (m n : Node) → IsAmong m nodes × (m.name ≡ name → ⊥) → IsAmong n nodes × (n.name ≡ name → ⊥) → (m.name ≡ n.name → ⊥)
          → (is_outer nodes m.name ≡ true) ⊎ (is_in at.node.children m.name ≡ true)
          → (is_outer nodes n.name ≡ true) ⊎ (is_in at.node.children n.name ≡ true) → AreApart m.top.vertices n.top.vertices
      by m n a b other (inl h) (inl k) = apart_among nodes nest.dual.names nest.dual.apart m n a.0 b.0 other h k
      by m n a b other (inl h) (inr k) = apart_child m n a.0 a.1 b.0 h k
      by m n a b other (inr h) (inl k) = apart_sym n.top.vertices m.top.vertices (apart_child n m b.0 b.1 a.0 k h)
      by m n a b other (inr h) (inr k) =
          subst (λ s. AreApart s n.top.vertices) (top_among nodes nest.dual.names m a.0)
          (subst (AreApart (top_at nodes m.name)) (top_among nodes nest.dual.names n b.0)
          (apart_of_two (top_at nodes) at.node.children
          (All_among (λ x. AreAllApart (child_sets nodes x)) nodes nest.forest.parted at.node there) m.name n.name h k other))

  nest_kept : IsNest p (split_nodes name nodes)
  nest_kept =
      nest_of p (split_nodes name nodes) fit (record {
        names = split_names name nodes nest.dual.names;
        grown = split_All (λ n. AreGrown (layers_of n)) name nodes nest.dual.grown;
        forest = forest;
      })
      apart (subst AreDistinct (sym same_leaves) nest.defects)
      (split_All (λ n. HasSources (split_nodes name nodes) n.top.vertices) name nodes
      (All-weaker (λ n. HasSources nodes n.top.vertices) (λ n. HasSources (split_nodes name nodes) n.top.vertices)
      (λ n h. sources_same nodes (split_nodes name nodes) n.top.vertices same_leaves height h) nodes nest.sources))

pub nest_split : NestSplit
nest_split p nodes name may nest = nest_kept p nodes name may nest
