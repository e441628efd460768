-- A node of one defect more.
use Rattle.std.proofs.Common.{ℕ, ◌≡◌, ◌<◌, ◌==◌, ◌⊎◌, inl, inr, true, false, List, [], ◌∷◌, ◌++◌, length, set, get_or, Option, Some, None, refl, sym, ap, ◌∙◌, subst, arith}
use Rattle.std.proofs.Math.Bool.{or-false}
use Rattle.std.specs.List.{All}
use Rattle.std.proofs.lemmas.Bool.{both_ways, cases_eq, false_from_ne_true, eqb-true}
use Rattle.std.proofs.lemmas.List.{length-set, map-append}
use Rattle.std.proofs.lemmas.List.Elements.{All-push}
use Rattle.fb_graph.specs.Parity.{is_in}
use Rattle.fb_graph.specs.Problem.{Problem}
use Rattle.fb_graph.specs.Certificate.{total_value}
use Rattle.fb_graph.specs.Dual.{Node, all_cuts, cover_of, is_live, is_outer, layers_of, leaf, leaves, top_at}
use Rattle.fb_graph.specs.Nests.{IsNest}
use Rattle.fb_graph.specs.NewLeaves.{MayAddLeaf}
use Rattle.fb_graph.specs.SourceWalks.{HaveWalks}
use Rattle.fb_graph.proofs.Among.{IsAmong, All_among, among_All, among_either, among_left, among_live, among_right, cover_among, map_among, among_outer, outer_among, top_among, top_left}
use Rattle.fb_graph.proofs.AppendedNodes.{cuts_merged}
use Rattle.fb_graph.proofs.NewLeaves.{height, is_leaf, nest_leaf_added, not_held, still_leaf, walks_leaf_added}
use Rattle.fb_graph.proofs.Sets.{is_in-All, is_in-head}
use Rattle.fb_regions.specs.declared.marks.Mark.{Mark}
use Rattle.fb_regions.specs.declared.region.Region.{Region}
use Rattle.fb_regions.specs.InternalNodes.{chain, first_of, mark_of, node_of, nodes_of, radii_from, stack}
use Rattle.fb_regions.specs.InternalKept.{BeginsIn, CameBy, HasMarks, HasParent, HaveParents, IsKept, IsMarked, is_childless}
use Rattle.fb_regions.specs.InternalListings.{BeginAlike, BeginsFirst, IsListed}
use Rattle.fb_regions.specs.Moves.{BeginsWith}
use Rattle.fb_regions.proofs.Begun.{StayBegun, all_begun, lists_still}
use Rattle.fb_regions.proofs.Listings.{begins_in, listed_one}
use Rattle.fb_regions.proofs.Marking.{has_still, mark_new, mark_other, node_still, nodes_still}
use Rattle.fb_regions.proofs.Moved.{covered_in, from_marked, in_top, marked_moved, not_covered, some_cover, unmarked}
use Rattle.fb_regions.proofs.Parents.{childless_last, childless_push, parents_push}
use Rattle.fb_regions.proofs.Radii.{IsBare, no_radii, radii_push}

-- the region of one defect
pub record IsLeafRegion (name v : ℕ) (r : Region) : Type 0 where
  pub name_is : r.name ≡ name
  pub children : r.children.items ≡ []
  pub parent : r.parent ≡ None
  pub first : r.first ≡ v
  pub base : r.base ≡ 1
  pub base_last : r.base_last ≡ v
  pub added : r.added ≡ 0
  pub last : r.last ≡ v
  pub value : r.top_value ≡ 0
  pub radius : r.radius ≡ 0

-- its mark
pub record IsLeafMark (name v : ℕ) (m : Mark) : Type 0 where
  pub source : m.source ≡ v
  pub leaf : m.leaf ≡ name
  pub distance : m.distance ≡ 0
  pub rank : m.rank ≡ 0
  pub by : m.by ≡ None

abbrev pub whole : List (Option Mark) → ℕ → ℕ → List ℕ → List ℕ → ℕ → ℕ → Node
whole marks last n cs first k x = record {
  name = n;
  children = cs;
  below = stack marks first (chain marks k last);
  top = record { value = x; vertices = first ++ chain marks k last };
}

leaf_node : (marks : List (Option Mark)) (name v : ℕ) (r : Region) → IsLeafRegion name v r → node_of marks r ≡ leaf name v
leaf_node marks name v r is =
    ap (λ y. whole marks r.last y r.children.items (first_of marks r) r.added r.top_value) is.name_is
    ∙ (ap (λ y. whole marks r.last name y (first_of marks r) r.added r.top_value) is.children
    ∙ (ap (λ y. whole marks r.last name [] y r.added r.top_value) (ap (λ k. chain marks k r.base_last) is.base ∙ ap (λ u. u ∷ []) is.base_last)
    ∙ (ap (λ y. whole marks r.last name [] (v ∷ []) y r.top_value) is.added ∙ ap (λ y. whole marks r.last name [] (v ∷ []) 0 y) is.value)))

module _ (p : Problem) (regions : List Region) (marks : List (Option Mark)) (kept : IsKept p regions marks) (name v : ℕ) (new : Region) (m : Mark)
    (is : IsLeafRegion name v new) (own : IsLeafMark name v m) (fresh : is_live (nodes_of marks regions) name ≡ false) (below : v < length marks)
    (real : p.is_real v ≡ true) (free : cover_of (nodes_of marks regions) v ≡ None) where
  abbrev nodes : List Node
  nodes = nodes_of marks regions

  abbrev others : List Node
  others = nodes ++ leaf name v ∷ []

  abbrev marks' : List (Option Mark)
  marks' = set marks v (Some m)

  may : MayAddLeaf p nodes name v
  may = record { fresh = fresh; real = real; uncovered = free }

  out : (n : Node) → IsAmong n nodes → is_in n.top.vertices v ≡ false
  out = not_covered p nodes kept.nest v free

  pub opened_nodes : nodes_of marks' (regions ++ new ∷ []) ≡ others
  opened_nodes =
      map-append (node_of marks') regions (new ∷ [])
      ∙ (ap (λ l. l ++ node_of marks' new ∷ []) (nodes_still marks regions v (Some m) out) ∙ ap (λ n. nodes ++ n ∷ []) (leaf_node marks' name v new is))

  nest : IsNest p others
  nest = nest_leaf_added p nodes name v may kept.nest

  outer_still : (x : ℕ) → is_outer nodes x ≡ true → is_outer others x ≡ true
  outer_still x outer =
      among_outer others x
      (λ q a. by q (among_either nodes (leaf name v ∷ []) q a))
    where
      by : (q : Node) → IsAmong q nodes ⊎ IsAmong q (leaf name v ∷ []) → is_in q.children x ≡ false
      by q (inl a) = outer_among nodes x outer q a
      by q (inr (inl e)) = ap (λ n. is_in n.children x) (sym e)
      by q (inr (inr a)) = absurd a

  own_outer : is_outer nodes name ≡ true
  own_outer =
      among_outer nodes name
      (λ q a.
      false_from_ne_true (is_in q.children name)
      (λ h.
      both_ways (is_live nodes name) fresh
      (is_in-All (λ c. is_live nodes c ≡ true) q.children (All_among (λ n. All (λ c. is_live nodes c ≡ true) n.children) nodes kept.nest.forest.live q a) name h)))

  still : (u : ℕ) → (u ≡ v → ⊥) → mark_of marks' u ≡ mark_of marks u
  still u other = mark_other marks v u (Some m) other

  marked_other : (u : ℕ) (mk : Mark) → (u ≡ v → ⊥) → mark_of marks u ≡ Some mk → IsMarked p others (regions ++ new ∷ []) marks' u mk
  marked_other u mk other at =
      let old : IsMarked p nodes regions marks u mk = kept.marked u mk at in
      let (c, cover) = some_cover nodes u old.covered in
      let over = cover_among nodes u c cover in
      marked_moved p nodes others regions (regions ++ new ∷ []) marks marks' u mk old
      (covered_in p others nest over.node (among_left nodes (leaf name v ∷ []) over.node over.among) u over.holds)
      (ap (λ l. is_in l mk.source) (top_left nodes (leaf name v ∷ []) mk.leaf (in_top nodes mk.leaf mk.source old.leaf)) ∙ old.leaf)
      (childless_push regions new mk.leaf old.childless)
      (height p nodes name v may kept.nest u)
      (radii_push regions new is.radius is.parent mk.leaf)
      (still_leaf p nodes name v may kept.nest)
      (λ s e.
      let (b, has) = from_marked p (leaves nodes) marks u mk s e old.came in
      still s.from (λ same. let none : mark_of marks s.from ≡ None = ap (mark_of marks) same ∙ unmarked p regions marks kept v free in absurd (let clash : None ≡ Some b = sym none ∙ has in cc)))

  own_marked : IsMarked p others (regions ++ new ∷ []) marks' v m
  own_marked = record {
    covered = covered_in p others nest (leaf name v) (among_right nodes (leaf name v ∷ []) (leaf name v) (inl refl)) v (is_in-head v []);
    leaf =
        ap (λ x. is_in (top_at others x) m.source) own.leaf
        ∙ (ap (λ s. is_in s m.source) (top_among others nest.dual.names (leaf name v) (among_right nodes (leaf name v ∷ []) (leaf name v) (inl refl)))
        ∙ (ap (is_in (v ∷ [])) own.source ∙ is_in-head v []));
    childless = ap (is_childless (regions ++ new ∷ [])) own.leaf ∙ childless_last regions new name is.name_is is.children;
    defect = ap (is_in (leaves others)) own.source ∙ is_leaf p nodes name v may kept.nest;
    balance =
        omega (
          arith,
          own.distance,
          height p nodes name v may kept.nest v,
          kept.nest.dual.uncovered v free,
          ap (radii_from (regions ++ new ∷ [])) own.leaf,
          radii_push regions new is.radius is.parent name,
          no_radii regions name none_bare,
        );
    came =
        subst (CameBy p (leaves others) marks' v m) (sym own.by)
        (is_leaf p nodes name v may kept.nest, own.source, own.distance);
  }
    where
      none_bare : All (IsBare name) regions
      none_bare =
          among_All (IsBare name) regions
          (λ r a same.
          absurd (both_ways (is_live nodes name) fresh (among_live nodes (node_of marks r) name (map_among (node_of marks) regions r a) same)))

  begun : StayBegun nodes others
  begun u c h = subst (BeginsWith u) (sym (top_left nodes (leaf name v ∷ []) c (in_top nodes c u (begins_in u (top_at nodes c) h)))) h

  pub kept_opened : IsKept p (regions ++ new ∷ []) marks'
  kept_opened = record {
    nest = subst (IsNest p) (sym opened_nodes) nest;
    walks = subst (HaveWalks p) (sym opened_nodes) (walks_leaf_added p nodes name v may kept.nest kept.walks);
    room = length-set marks v (Some m) ∙ kept.room;
    radii = All-push (λ r. r.radius ≡ total_value (layers_of (node_of marks' r))) regions new
        (among_All (λ r. r.radius ≡ total_value (layers_of (node_of marks' r))) regions
        (λ r a.
        All_among (λ s. s.radius ≡ total_value (layers_of (node_of marks s))) regions kept.radii r a
        ∙ ap (λ n. total_value (layers_of n)) (sym (node_still marks r v (Some m) (out (node_of marks r) (map_among (node_of marks) regions r a))))))
        (is.radius ∙ ap (λ n. total_value (layers_of n)) (sym (leaf_node marks' name v new is)));
    parents =
        subst (λ ns. HaveParents ns (regions ++ new ∷ [])) (sym opened_nodes)
        (parents_push nodes others regions new outer_still kept.parents
        (subst (HasParent others [] new.name) (sym is.parent) (ap (is_outer others) is.name_is ∙ outer_still name own_outer)));
    sets =
        subst (All (λ c. HasMarks marks' c.vertices)) (sym (ap all_cuts opened_nodes ∙ cuts_merged nodes (leaf name v ∷ [])))
        (All-push (λ c. HasMarks marks' c.vertices) (all_cuts nodes) (leaf name v).top
        (λ i d less. has_still marks (get_or (all_cuts nodes) i d).vertices v (Some m)
        (not_held p nodes name v may kept.nest i d less)
        (kept.sets i d less))
        own_set);
    listed =
        All-push (IsListed marks') regions new (lists_still marks regions v (Some m) out kept.listed)
        (listed_one marks' new v is.first is.base is.base_last is.added is.last);
    begins = subst (λ ns. BeginAlike ns (regions ++ new ∷ [])) (sym opened_nodes)
        (All-push (λ r. BeginsFirst others r.first r.children.items) regions new (all_begun nodes others regions begun kept.begins)
        (subst (BeginsFirst others new.first) (sym is.children) tt));
    marked = λ u mk at. subst (λ ns. IsMarked p ns (regions ++ new ∷ []) marks' u mk) (sym opened_nodes) (by u mk at (cases_eq u v));
  }
    where
      own_set : HasMarks marks' (v ∷ [])
      own_set u within =
          let same : v ≡ u = eqb-true v u (sym (or-false (v == u)) ∙ within) in (
            m,
            ap (mark_of marks') (sym same) ∙ mark_new marks v (Some m) below,
            record {
              rank = omega (arith, own.rank);
              source = ap (is_in (v ∷ [])) own.source ∙ is_in-head v [];
              step = subst (BeginsIn (v ∷ [])) (sym own.by) tt;
            },
          )

      by : (u : ℕ) (mk : Mark) → mark_of marks' u ≡ Some mk → (u ≡ v) ⊎ (u ≡ v → ⊥) → IsMarked p others (regions ++ new ∷ []) marks' u mk
      by u mk at (inl same) =
          let e : Some m ≡ Some mk = sym (mark_new marks v (Some m) below) ∙ (ap (mark_of marks') (sym same) ∙ at) in
          let e' : m ≡ mk = cc in
          subst (λ x. IsMarked p others (regions ++ new ∷ []) marks' x mk) (sym same)
          (subst (IsMarked p others (regions ++ new ∷ []) marks' v) e' own_marked)
      by u mk at (inr other) = marked_other u mk other (sym (still u other) ∙ at)
