-- A seam made real.
use Rattle.std.proofs.Common.{ℕ, ◌≡◌, ◌+◌, ◌%◌, ◌≤◌, ◌<◌, ◌==◌, ◌||◌, ◌⊎◌, inl, inr, cond, Bool, true, false, List, [], ◌∷◌, ◌++◌, map, length, All, Some, count_by, get_or, refl, sym, ap, ◌∙◌, subst, arith}
use Rattle.std.proofs.Math.Bool.{or-false}
use Rattle.std.proofs.lemmas.Bool.{both_ways, false≢true, false_from_ne_true, or_right, ne_eqb}
use Rattle.std.proofs.lemmas.List.Elements.{All-nil, All-cons, All-head, All-tail, All-append, All-map, All-from_get_or}
use Rattle.std.proofs.lemmas.List.Sums.{sum_by-cons, sum_by-append}
use Rattle.fb_graph.specs.Parity.{is_in}
use Rattle.fb_graph.specs.Problem.{Problem, crosses}
use Rattle.fb_graph.specs.Certificate.{AreDistinct}
use Rattle.fb_graph.specs.Laws.{Link, ends_of}
use Rattle.fb_graph.specs.Dual.{Node, IsDual, all_cuts, leaves, height_of, is_outer, node_at, no_node}
use Rattle.fb_graph.specs.declared.parts.Cut.{Cut}
use Rattle.fb_graph.proofs.CutSums.{weigh}
use Rattle.fb_graph.proofs.Members.{is_in-append}
use Rattle.fb_graph.proofs.Sets.{equal_sym, is_in-All}
use Rattle.fb_graph.specs.Counts.{as_count}
use Rattle.fb_graph.specs.Ends.{ends_in}
use Rattle.fb_laws.specs.Paths.{LeadsOut}
use Rattle.fb_graph.specs.Links.{IsTightLink}
use Rattle.fb_laws.specs.Fusion.{IsLinkOf}
use Rattle.fb_graph.specs.Singles.{Single, node_of, nodes_of, vertices_of}
use Rattle.fb_laws.specs.Works.{IsSetOf}
use Rattle.fb_laws.specs.Merging.{Freed, freed_links, freed_names, EndElsewhere, SeamOpened}
use Rattle.fb_laws.specs.Opening.{EndsAtDefects}
use Rattle.fb_graph.proofs.Crossings.{cover_found, name_in}
use Rattle.fb_graph.proofs.EndSums.{ends-cons, ends_append}
use Rattle.fb_laws.proofs.FusedParts.{same_weight}
use Rattle.fb_laws.proofs.HalvesKept.{name_in_all}
use Rattle.fb_laws.proofs.MatchedNodes.{odd_top, set_whole, set_held}
use Rattle.fb_laws.proofs.MergedParts.{HoldsIn, odd_in, side_of, distinct_across, real_held, part_of_link}
use Rattle.fb_graph.proofs.AppendedNodes.{cuts_merged, leaves_merged, outer_in, names_merged}
use Rattle.fb_graph.proofs.ClosedSets.{boundary_height, not_held}
use Rattle.fb_graph.proofs.NestParts.{leaf_real}
use Rattle.fb_laws.proofs.PathSums.{ends_out}
use Rattle.fb_graph.proofs.SingleStates.{cuts_are, leaves_are, names_are, no_sum}
use Rattle.fb_graph.proofs.Walks.{walk_same}
use Rattle.fb_graph.proofs.Nodes.{All-right}
use Rattle.fb_graph.proofs.Booleans.{or_nothing}

-- new nodes without value add nothing to any sum
pub weigh_with : (test : List ℕ → Bool) (nodes : List Node) (singles : List Single) → All (λ s. s.value ≡ 0) singles
    → weigh test (all_cuts (nodes ++ nodes_of singles)) ≡ weigh test (all_cuts nodes)
weigh_with test nodes singles bare =
    ap (weigh test) (cuts_merged nodes (nodes_of singles))
    ∙ omega (
      arith,
      sum_by-append (λ (c : Cut). cond (test c.vertices) c.value 0) (all_cuts nodes) (all_cuts (nodes_of singles)),
      ap (weigh test) (cuts_are singles),
      no_sum test singles bare,
    )

-- where at most one entry has the name, one has it if the name is among them
count_named : (freed : List Freed) (n : ℕ) → count_by (λ f. n == f.name) freed ≤ 1
    → as_count (is_in (freed_names freed) n) ≡ count_by (λ f. n == f.name) freed
count_named [] n few = refl
count_named (f ∷ fs) n few =
    step (f.name == n) (sum_by-cons (λ g. as_count (n == g.name)) f fs) (ap as_count (equal_sym n f.name)) (count_named fs n)
  where
    step : (b : Bool) → count_by (λ g. n == g.name) (f ∷ fs) ≡ as_count (n == f.name) + count_by (λ g. n == g.name) fs
        → as_count (n == f.name) ≡ as_count b
        → (count_by (λ g. n == g.name) fs ≤ 1 → as_count (is_in (freed_names fs) n) ≡ count_by (λ g. n == g.name) fs)
        → as_count (b || is_in (freed_names fs) n) ≡ count_by (λ g. n == g.name) (f ∷ fs)
    step true split same ih = omega (arith, few, split, same)
    step false split same ih =
        let rest : count_by (λ g. n == g.name) fs ≤ 1 = omega (arith, few, split) in
        omega (arith, split, same, ih rest)

-- the ends of forgotten links in an outer node's set
freed_ends : (p : Problem) (nodes : List Node) (seam : ℕ → Bool) (freed : List Freed) (i : ℕ) → IsDual p nodes
    → ((v : ℕ) → seam v ≡ true → p.is_real v ≡ false) → i < length nodes → is_outer nodes (node_at nodes i).name ≡ true
    → All (λ f. IsSetOf nodes f.name f.set × LeadsOut f.link f.set f.seam × (seam f.seam ≡ true)) freed
    → ends_in (node_at nodes i).top.vertices (freed_links freed) ≡ count_by (λ f. (node_at nodes i).name == f.name) freed
freed_ends p nodes seam [] i dual unreal less outer are = refl
freed_ends p nodes seam (f ∷ fs) i dual unreal less outer are =
    let Are : Freed → Type 0 = λ g. IsSetOf nodes g.name g.set × LeadsOut g.link g.set g.seam × (seam g.seam ≡ true) in
    let (is, leads, at) = All-head Are f fs are in
    omega (
      arith,
      ends-cons (node_at nodes i).top.vertices f.link (freed_links fs),
      sum_by-cons (λ g. as_count ((node_at nodes i).name == g.name)) f fs,
      freed_ends p nodes seam fs i dual unreal less outer (All-tail Are f fs are),
      ends_out (node_at nodes i).top.vertices f.set f.link f.seam leads (set_whole p nodes f.name f.set i dual less outer is),
      ap as_count (set_held p nodes f.name f.set i dual less outer is),
      ap as_count (not_held p (node_at nodes i).top.vertices f.seam (odd_top p nodes i dual less).real (unreal f.seam at)),
    )

-- the ends at a seam vertex
no_ends_at : (seam : ℕ → Bool) (links : List Link) (v : ℕ) → EndElsewhere seam links → seam v ≡ true → ends_in (v ∷ []) links ≡ 0
no_ends_at seam [] v elsewhere at = refl
no_ends_at seam (l ∷ links) v elsewhere at =
    let Away : Link → Type 0 = λ m. (seam m.from ≡ false) × (seam m.to ≡ false) in
    let here = All-head Away l links elsewhere in
    omega (
      arith,
      ends-cons (v ∷ []) l links,
      no_ends_at seam links v (All-tail Away l links elsewhere) at,
      ap as_count (or-false (v == l.from) ∙ ne_eqb v l.from (λ e. both_ways (seam l.from) here.0 (ap seam (sym e) ∙ at))),
      ap as_count (or-false (v == l.to) ∙ ne_eqb v l.to (λ e. both_ways (seam l.to) here.1 (ap seam (sym e) ∙ at))),
    )

either_named : (u f s : Bool) (old new count : ℕ) → old ≡ count + new → as_count f ≡ count → s ≡ false → old + as_count u ≡ 1
    → new + as_count (u || (f || s)) ≡ 1
either_named true f true old new count split named none one = absurd (false≢true (sym none))
either_named true f false old new count split named none one = omega arith
either_named false true s old new count split named none one = omega arith
either_named false false true old new count split named none one = absurd (false≢true (sym none))
either_named false false false old new count split named none one = omega arith

pub seam_opened : SeamOpened
seam_opened p whole nodes freed links singles seam unmatched is dual work = record {
  dual = dual;
  defects = λ v real. defect v (is.covered v real);
  links_are = record {
    tight = λ i d less. record {
      walk = walk_same p whole is.part.edges _ _ _ (kept_tight i d less).walk;
      tight =
          same_weight p whole (get_or links i d).walk is.part
          ∙ ((kept_tight i d less).tight ∙ sym (weigh_with (λ s. crosses s (ends_of (get_or links i d))) nodes singles is.bare));
    };
    own = λ i d less. part_of_link p whole (get_or links i d) is.part (kept_own i d less);
    at_defects = λ i d less. (
      at_end (get_or links i d).from (is.elsewhere i d less).0 (kept_at i d less).0,
      at_end (get_or links i d).to (is.elsewhere i d less).1 (kept_at i d less).1,
    );
  };
  matched =
      All-append Matched nodes (nodes_of singles)
      (All-from_get_or Matched nodes no_node
      (λ i less outer.
      let n : Node = node_at nodes i in
      let out = (outer_in nodes (nodes_of singles) n.name outer).0 in
      let one = work.matched i no_node less out in
      let split : ends_in n.top.vertices (freed_links freed ++ links)
      ≡ count_by (λ f. n.name == f.name) freed + ends_in n.top.vertices links =
      omega (
        arith,
        ends_append n.top.vertices (freed_links freed) links,
        freed_ends p nodes seam freed i work.dual is.unreal less out is.freed_are,
      ) in
      ap (λ b. ends_in n.top.vertices links + as_count b)
      (is_in-append unmatched (freed_names freed ++ map (λ s. s.name) singles) n.name
      ∙ ap (λ b. is_in unmatched n.name || b) (is_in-append (freed_names freed) (map (λ s. s.name) singles) n.name))
      ∙ either_named (is_in unmatched n.name) (is_in (freed_names freed) n.name) (is_in (map (λ s. s.name) singles) n.name)
      (ends_in n.top.vertices (freed_links freed ++ links)) (ends_in n.top.vertices links)
      (count_by (λ f. n.name == f.name) freed) split
      (count_named freed n.name (omega (arith, one, split)))
      (distinct_across (map (λ m. m.name) nodes) (map (λ s. s.name) singles) n.name names (name_in nodes i less))
      one))
      (All-map Matched node_of singles
      (λ i d less outer.
      let s : Single = get_or singles i d in
      ap (λ b. ends_in (s.vertex ∷ []) links + as_count b)
      (is_in-append unmatched (freed_names freed ++ map (λ t. t.name) singles) s.name
      ∙ or_right (is_in unmatched s.name) (is_in (freed_names freed ++ map (λ t. t.name) singles) s.name)
      (is_in-append (freed_names freed) (map (λ t. t.name) singles) s.name
      ∙ or_right (is_in (freed_names freed) s.name) (is_in (map (λ t. t.name) singles) s.name) (name_in_all singles i d less)))
      ∙ omega (arith, no_ends_at seam links s.vertex is.elsewhere (is.at_seam i d less))));
  one_parity = λ d e name leaf among cover other.
      parity d e name leaf among (side_of nodes (nodes_of singles) d name cover) (side_of nodes (nodes_of singles) e name other);
}
  where
    Matched : Node → Type 0
    Matched n = is_outer (nodes ++ nodes_of singles) n.name ≡ true
        → ends_in n.top.vertices links + as_count (is_in (unmatched ++ (freed_names freed ++ map (λ s. s.name) singles)) n.name) ≡ 1

    kept_tight : All (IsTightLink p (all_cuts nodes)) links
    kept_tight = All-right (IsTightLink p (all_cuts nodes)) (freed_links freed) links work.links_are.tight

    kept_own : All (IsLinkOf p) links
    kept_own = All-right (IsLinkOf p) (freed_links freed) links work.links_are.own

    kept_at : All (EndsAtDefects p (leaves nodes)) links
    kept_at = All-right (EndsAtDefects p (leaves nodes)) (freed_links freed) links work.links_are.at_defects

    names : AreDistinct (map (λ n. n.name) nodes ++ map (λ s. s.name) singles)
    names =
        subst (λ l. AreDistinct (map (λ n. n.name) nodes ++ l)) (names_are singles)
        (subst AreDistinct (names_merged nodes (nodes_of singles)) dual.names)

    seam_vertex : (v : ℕ) → is_in (vertices_of singles) v ≡ true → seam v ≡ true
    seam_vertex =
        is_in-All (λ v. seam v ≡ true) (vertices_of singles) (All-map (λ v. seam v ≡ true) (λ s. s.vertex) singles is.at_seam)

    all_leaves : (v : ℕ) → is_in (leaves (nodes ++ nodes_of singles)) v ≡ (is_in (leaves nodes) v || is_in (vertices_of singles) v)
    all_leaves v =
        ap (λ l. is_in l v) (leaves_merged nodes (nodes_of singles) ∙ ap (λ l. leaves nodes ++ l) (leaves_are singles))
        ∙ is_in-append (leaves nodes) (vertices_of singles) v

    real_leaves : (v : ℕ) → p.is_real v ≡ true → is_in (leaves (nodes ++ nodes_of singles)) v ≡ is_in (leaves nodes) v
    real_leaves v real =
        all_leaves v
        ∙ or_nothing (is_in (leaves nodes) v) (is_in (vertices_of singles) v)
        (false_from_ne_true (is_in (vertices_of singles) v) (λ h. both_ways (p.is_real v) (is.unreal v (seam_vertex v h)) real))

    defect : (v : ℕ) → (p.is_real v ≡ true) ⊎ (seam v ≡ true) → whole.is_defect v ≡ is_in (leaves (nodes ++ nodes_of singles)) v
    defect v (inl real) = sym (is.part.defects v real) ∙ (work.defects v real ∙ sym (real_leaves v real))
    defect v (inr at) =
        is.defects v at
        ∙ (ap (λ b. b || is_in (vertices_of singles) v)
        (sym (false_from_ne_true (is_in (leaves nodes) v) (λ h. both_ways (p.is_real v) (is.unreal v at) (leaf_real p nodes v work.dual h))))
        ∙ sym (all_leaves v))

    at_end : (v : ℕ) → seam v ≡ false → (p.is_real v ≡ true → is_in (leaves nodes) v ≡ true) → whole.is_real v ≡ true
        → is_in (leaves (nodes ++ nodes_of singles)) v ≡ true
    at_end v away at real = step (is.covered v real)
      where
        step : (p.is_real v ≡ true) ⊎ (seam v ≡ true) → is_in (leaves (nodes ++ nodes_of singles)) v ≡ true
        step (inl h) = real_leaves v h ∙ at h
        step (inr h) = absurd (both_ways (seam v) away h)

    height : (v : ℕ) → height_of (all_cuts (nodes ++ nodes_of singles)) v ≡ height_of (all_cuts nodes) v
    height v = weigh_with (λ s. is_in s v) nodes singles is.bare

    low : (v : ℕ) → seam v ≡ true → height_of (all_cuts (nodes ++ nodes_of singles)) v ≡ 0
    low v at = height v ∙ boundary_height p (all_cuts nodes) v (odd_in p nodes work.dual work.defects) (is.unreal v at)

    -- a vertex that a new node holds is at the seam
    new_vertex : (ss : List Single) (j v : ℕ) → All (λ s. seam s.vertex ≡ true) ss → j < length (nodes_of ss)
        → is_in (node_at (nodes_of ss) j).top.vertices v ≡ true → seam v ≡ true
    new_vertex ss j v at less within =
        is_in-All (λ u. seam u ≡ true) (node_at (nodes_of ss) j).top.vertices
        (All-map (λ n. All (λ u. seam u ≡ true) n.top.vertices) node_of ss
        (λ i d below. All-cons (λ u. seam u ≡ true) (get_or ss i d).vertex [] (at i d below) (All-nil (λ u. seam u ≡ true))) j no_node less)
        v within

    one_side : (name i j : ℕ) → i < length nodes → j < length (nodes_of singles) → (node_at nodes i).name ≡ name
        → (node_at (nodes_of singles) j).name ≡ name → ⊥
    one_side name i j less below here there =
        both_ways (is_in (map (λ n. n.name) (nodes_of singles)) name)
        (distinct_across (map (λ n. n.name) nodes) (map (λ n. n.name) (nodes_of singles)) name
        (subst AreDistinct (names_merged nodes (nodes_of singles)) dual.names)
        (ap (is_in (map (λ n. n.name) nodes)) (sym here) ∙ name_in nodes i less))
        (ap (is_in (map (λ n. n.name) (nodes_of singles))) (sym there) ∙ name_in (nodes_of singles) j below)

    parity : (d e name : ℕ) → is_in (leaves (nodes ++ nodes_of singles)) d ≡ true → is_in (leaves (nodes ++ nodes_of singles)) e ≡ true
        → HoldsIn (nodes ++ nodes_of singles) nodes name d ⊎ HoldsIn (nodes ++ nodes_of singles) (nodes_of singles) name d
        → HoldsIn (nodes ++ nodes_of singles) nodes name e ⊎ HoldsIn (nodes ++ nodes_of singles) (nodes_of singles) name e
        → height_of (all_cuts (nodes ++ nodes_of singles)) d % 2 ≡ height_of (all_cuts (nodes ++ nodes_of singles)) e % 2
    parity d e name leaf among (inl (i, less, outer, named, holds_d)) (inl (j, below, outer_j, named_j, holds_e)) =
        let real_d = real_held p nodes i d work.dual less holds_d in
        let real_e = real_held p nodes j e work.dual below holds_e in
        let out = (outer_in nodes (nodes_of singles) name outer).0 in
        ap (λ h. h % 2) (height d)
        ∙ (work.one_parity d e name (sym (real_leaves d real_d) ∙ leaf) (sym (real_leaves e real_e) ∙ among)
        (cover_found nodes d work.dual.apart i no_node less (ap (is_outer nodes) named ∙ out) holds_d ∙ ap Some named)
        (cover_found nodes e work.dual.apart j no_node below (ap (is_outer nodes) named_j ∙ out) holds_e ∙ ap Some named_j)
        ∙ ap (λ h. h % 2) (sym (height e)))
    parity d e name leaf among (inr (i, less, outer, named, holds_d)) (inr (j, below, outer_j, named_j, holds_e)) =
        ap (λ h. h % 2)
        (low d (new_vertex singles i d is.at_seam less holds_d) ∙ sym (low e (new_vertex singles j e is.at_seam below holds_e)))
    parity d e name leaf among (inl (i, less, outer, named, holds_d)) (inr (j, below, outer_j, named_j, holds_e)) =
        absurd (one_side name i j less below named named_j)
    parity d e name leaf among (inr (i, less, outer, named, holds_d)) (inl (j, below, outer_j, named_j, holds_e)) =
        absurd (one_side name j i below less named_j named)
