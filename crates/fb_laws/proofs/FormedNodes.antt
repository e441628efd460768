-- A blossom in the state of a part.
use Rattle.std.proofs.Common.{ℕ, zero, suc, ◌≡◌, ◌+◌, ◌%◌, ◌<◌, ◌==◌, ◌⊎◌, inl, inr, cond, Bool, true, false, List, [], ◌∷◌, ◌++◌, map, length, All, Some, get_or, refl, sym, ap, ◌∙◌, subst, arith}
use Rattle.std.proofs.Math.Bool.{or-false}
use Rattle.std.specs.List.{concat}
use Rattle.std.proofs.lemmas.Bool.{both_ways, false≢true, or_cases, or_parts, or_left, or_right, eq-eqb, not-true}
use Rattle.std.proofs.lemmas.List.{length-map, append-nil}
use Rattle.std.proofs.lemmas.List.Elements.{All-nil, All-cons, All-head, All-tail, All-append, All-map, All-from_get_or}
use Rattle.std.proofs.lemmas.List.Sums.{sum_by-append, sum_by-cons}
use Rattle.fb_graph.specs.Parity.{is_in}
use Rattle.fb_graph.specs.Problem.{Problem, crosses}
use Rattle.fb_graph.specs.Certificate.{AreDistinct}
use Rattle.fb_graph.specs.Laws.{Link, ends_of}
use Rattle.fb_graph.specs.Dual.{Node, IsDual, AreApart, all_cuts, leaves, cover_of, height_of, is_outer, node_at, no_node}
use Rattle.fb_graph.specs.declared.parts.Cut.{Cut}
use Rattle.fb_graph.proofs.CutSums.{weigh, cond_zero}
use Rattle.fb_graph.proofs.Members.{is_in-append}
use Rattle.fb_graph.specs.Counts.{as_count}
use Rattle.fb_graph.specs.Ends.{ends_in}
use Rattle.fb_laws.specs.Blossoms.{IsInside}
use Rattle.fb_graph.specs.Links.{IsTightLink}
use Rattle.fb_laws.specs.Fusion.{IsLinkOf}
use Rattle.fb_laws.specs.Works.{IsSetOf}
use Rattle.fb_laws.specs.Forming.{Child, sets_of, names_of, blossom_of, MatchingFormed}
use Rattle.fb_laws.specs.Opening.{EndsAtDefects}
use Rattle.fb_laws.proofs.BlossomSums.{base_alone}
use Rattle.fb_graph.proofs.Crossings.{cover_found, name_in}
use Rattle.fb_graph.proofs.EndSums.{ends-cons, ends_append, apart_sym, apart_union}
use Rattle.fb_laws.proofs.MatchedNodes.{set_relation}
use Rattle.fb_laws.proofs.MergedParts.{HoldsIn, side_of, distinct_across}
use Rattle.fb_graph.proofs.AppendedNodes.{cuts_merged, leaves_merged, outer_in, names_merged}
use Rattle.fb_graph.proofs.Nodes.{All-right}

-- links inside a set have no end in one apart from it
inside_elsewhere : (set union : List ℕ) (links : List Link) → AreApart set union → All (IsInside union) links → ends_in set links ≡ 0
inside_elsewhere set union [] apart inside = refl
inside_elsewhere set union (l ∷ links) apart inside =
    let here = All-head (IsInside union) l links inside in
    omega (
      arith,
      ends-cons set l links,
      inside_elsewhere set union links apart (All-tail (IsInside union) l links inside),
      ap as_count (apart_sym set union apart l.from here.0),
      ap as_count (apart_sym set union apart l.to here.1),
    )

-- a vertex of the union is under one of the children
under_child : (p : Problem) (nodes : List Node) (children : List Child) (v : ℕ) → IsDual p nodes
    → All (λ c. IsSetOf nodes c.name c.set) children → is_in (concat (sets_of children)) v ≡ true
    → (n : ℕ) × (is_in (names_of children) n ≡ true) × (cover_of nodes v ≡ Some n)
under_child p nodes [] v dual are within = absurd (false≢true within)
under_child p nodes (c ∷ cs) v dual are within =
    step (or_cases (is_in c.set v) (is_in (concat (sets_of cs)) v) (sym (is_in-append c.set (concat (sets_of cs)) v) ∙ within))
    (under_child p nodes cs v dual (All-tail (λ x. IsSetOf nodes x.name x.set) c cs are))
  where
    here : IsSetOf nodes c.name c.set
    here = All-head (λ x. IsSetOf nodes x.name x.set) c cs are

    step : (is_in c.set v ≡ true) ⊎ (is_in (concat (sets_of cs)) v ≡ true)
        → (is_in (concat (sets_of cs)) v ≡ true → (n : ℕ) × (is_in (names_of cs) n ≡ true) × (cover_of nodes v ≡ Some n))
        → (n : ℕ) × (is_in (names_of (c ∷ cs)) n ≡ true) × (cover_of nodes v ≡ Some n)
    step (inl holding) rest = (
      c.name,
      or_left (c.name == c.name) (is_in (names_of cs) c.name) (eq-eqb c.name c.name refl),
      cover_found nodes v dual.apart here.0 no_node here.1 (ap (is_outer nodes) here.3 ∙ here.2)
          (ap (λ s. is_in s v) here.4 ∙ holding)
          ∙ ap Some here.3,
    )
    step (inr there) rest =
        let (n, among, cover) = rest there in
        (n, or_right (c.name == n) (is_in (names_of cs) n) among, cover)

-- an outer node that is no child lies apart from all of them
apart_from_children : (p : Problem) (nodes : List Node) (children : List Child) (i : ℕ) → IsDual p nodes → i < length nodes
    → is_outer nodes (node_at nodes i).name ≡ true → All (λ c. IsSetOf nodes c.name c.set) children
    → is_in (names_of children) (node_at nodes i).name ≡ false
    → All (AreApart (node_at nodes i).top.vertices) (sets_of children)
apart_from_children p nodes [] i dual less outer are other = All-nil (AreApart (node_at nodes i).top.vertices)
apart_from_children p nodes (c ∷ cs) i dual less outer are other =
    All-cons (AreApart (node_at nodes i).top.vertices) c.set (sets_of cs)
    (step (set_relation p nodes c.name c.set i dual less outer (All-head (λ x. IsSetOf nodes x.name x.set) c cs are)))
    (apart_from_children p nodes cs i dual less outer (All-tail (λ x. IsSetOf nodes x.name x.set) c cs are)
    (or_parts (c.name == (node_at nodes i).name) (is_in (names_of cs) (node_at nodes i).name) other).1)
  where
    step : ((node_at nodes i).name ≡ c.name) × ((node_at nodes i).top.vertices ≡ c.set)
        ⊎ ((node_at nodes i).name ≡ c.name → ⊥) × AreApart (node_at nodes i).top.vertices c.set
        → AreApart (node_at nodes i).top.vertices c.set
    step (inl (same, e)) =
        absurd
        (both_ways (c.name == (node_at nodes i).name)
        (or_parts (c.name == (node_at nodes i).name) (is_in (names_of cs) (node_at nodes i).name) other).0
        (eq-eqb c.name (node_at nodes i).name (sym same)))
    step (inr (differ_, apart)) = apart

pub matching_formed : MatchingFormed
matching_formed p nodes name base others inner rest unmatched remaining r cycle dual named kept work = record {
  dual = dual;
  defects = λ v real. work.defects v real ∙ ap (λ l. is_in l v) (sym same_leaves);
  links_are = record {
    tight = λ i d less. record {
      walk = (old_tight i d less).walk;
      tight = (old_tight i d less).tight ∙ sym (same_sums (λ s. crosses s (ends_of (get_or rest i d))));
    };
    own = All-right (IsLinkOf p) inner rest work.links_are.own;
    at_defects = subst (λ l. All (EndsAtDefects p l) rest)
        (sym same_leaves) (All-right (EndsAtDefects p (leaves nodes)) inner rest work.links_are.at_defects);
  };
  matched =
      All-append Matched nodes (blossom_of name (base ∷ others) ∷ [])
      (All-from_get_or Matched nodes no_node
      (λ i less outer.
      let n : Node = node_at nodes i in
      let outs = outer_in nodes (blossom_of name (base ∷ others) ∷ []) n.name outer in
      let no_child : is_in (names_of (base ∷ others)) n.name ≡ false =
      sym (or-false (is_in (names_of (base ∷ others)) n.name)) ∙ not-true _ outs.1 in
      let one = work.matched i no_node less outs.0 in
      omega (
        arith,
        one,
        ends_append n.top.vertices inner rest,
        inside_elsewhere n.top.vertices (concat (sets_of (base ∷ others))) inner
            (apart_union n.top.vertices (sets_of (base ∷ others))
            (apart_from_children p nodes (base ∷ others) i work.dual less outs.0 cycle.nodes_are no_child))
            cycle.inside,
        ap as_count (kept n.name no_child (λ same. one_side name i 0 less (omega arith) same refl)),
      )))
      (All-cons Matched (blossom_of name (base ∷ others)) []
      (λ outer.
      omega (
        arith,
        base_alone base.set (sets_of others) inner rest cycle.apart cycle.inside
            (length-map others (λ c. c.set) ∙ cycle.even)
            (All-map (λ s. ends_in s (inner ++ rest) ≡ 1) (λ c. c.set) others
            (λ i d less.
            let one = child_matched (get_or others i d) (All-tail (λ c. IsSetOf nodes c.name c.set) base others cycle.nodes_are i d less) in
            omega (arith, one, ap as_count (cycle.matched i d less)))),
        child_matched base (All-head (λ c. IsSetOf nodes c.name c.set) base others cycle.nodes_are),
        named,
      ))
      (All-nil Matched));
  one_parity = λ d e n leaf among cover other.
      parity d e n (ap (λ l. is_in l d) (sym same_leaves) ∙ leaf) (ap (λ l. is_in l e) (sym same_leaves) ∙ among)
      (side_of nodes (blossom_of name (base ∷ others) ∷ []) d n cover) (side_of nodes (blossom_of name (base ∷ others) ∷ []) e n other);
}
  where
    Matched : Node → Type 0
    Matched n = is_outer (nodes ++ blossom_of name (base ∷ others) ∷ []) n.name ≡ true → ends_in n.top.vertices rest + as_count (is_in remaining n.name) ≡ 1

    same_leaves : leaves (nodes ++ blossom_of name (base ∷ others) ∷ []) ≡ leaves nodes
    same_leaves = leaves_merged nodes (blossom_of name (base ∷ others) ∷ []) ∙ append-nil (leaves nodes)

    same_sums : (test : List ℕ → Bool) → weigh test (all_cuts (nodes ++ blossom_of name (base ∷ others) ∷ [])) ≡ weigh test (all_cuts nodes)
    same_sums test =
        ap (weigh test) (cuts_merged nodes (blossom_of name (base ∷ others) ∷ []))
        ∙ omega (
          arith,
          sum_by-append (λ (c : Cut). cond (test c.vertices) c.value 0) (all_cuts nodes) (all_cuts (blossom_of name (base ∷ others) ∷ [])),
          sum_by-cons (λ (c : Cut). cond (test c.vertices) c.value 0) (blossom_of name (base ∷ others)).top [],
          cond_zero (test (concat (sets_of (base ∷ others)))),
        )

    old_tight : All (IsTightLink p (all_cuts nodes)) rest
    old_tight = All-right (IsTightLink p (all_cuts nodes)) inner rest work.links_are.tight

    child_matched : (c : Child) → IsSetOf nodes c.name c.set → ends_in c.set (inner ++ rest) + as_count (is_in unmatched c.name) ≡ 1
    child_matched c (j, below, outer, is, same) =
        ap (λ s. ends_in s (inner ++ rest) + as_count (is_in unmatched c.name)) (sym same)
        ∙ (ap (λ n. ends_in (node_at nodes j).top.vertices (inner ++ rest) + as_count (is_in unmatched n)) (sym is)
        ∙ work.matched j no_node below (ap (is_outer nodes) is ∙ outer))

    one_side : (n i j : ℕ) → i < length nodes → j < 1 → (node_at nodes i).name ≡ n → (node_at (blossom_of name (base ∷ others) ∷ []) j).name ≡ n → ⊥
    one_side n i j less below here there =
        both_ways (is_in (map (λ m. m.name) (blossom_of name (base ∷ others) ∷ [])) n)
        (distinct_across (map (λ m. m.name) nodes) (map (λ m. m.name) (blossom_of name (base ∷ others) ∷ [])) n
        (subst AreDistinct (names_merged nodes (blossom_of name (base ∷ others) ∷ [])) dual.names)
        (ap (is_in (map (λ m. m.name) nodes)) (sym here) ∙ name_in nodes i less))
        (ap (is_in (map (λ m. m.name) (blossom_of name (base ∷ others) ∷ []))) (sym there) ∙ name_in (blossom_of name (base ∷ others) ∷ []) j below)

    height : (v : ℕ) → height_of (all_cuts (nodes ++ blossom_of name (base ∷ others) ∷ [])) v ≡ height_of (all_cuts nodes) v
    height v = same_sums (λ s. is_in s v)

    held : (v j : ℕ) → j < 1 → is_in (node_at (blossom_of name (base ∷ others) ∷ []) j).top.vertices v ≡ true → is_in (concat (sets_of (base ∷ others))) v ≡ true
    held v zero below within = within
    held v (suc j) below within = absurd (omega arith)

    in_blossom : (v : ℕ) → is_in (leaves nodes) v ≡ true → is_in (concat (sets_of (base ∷ others))) v ≡ true
        → height_of (all_cuts nodes) v % 2 ≡ r
    in_blossom v leaf within =
        let (n, among, cover) = under_child p nodes (base ∷ others) v work.dual cycle.nodes_are within in
        cycle.parity v n leaf cover among

    parity : (d e n : ℕ) → is_in (leaves nodes) d ≡ true → is_in (leaves nodes) e ≡ true
        → HoldsIn (nodes ++ blossom_of name (base ∷ others) ∷ []) nodes n d ⊎ HoldsIn (nodes ++ blossom_of name (base ∷ others) ∷ []) (blossom_of name (base ∷ others) ∷ []) n d
        → HoldsIn (nodes ++ blossom_of name (base ∷ others) ∷ []) nodes n e ⊎ HoldsIn (nodes ++ blossom_of name (base ∷ others) ∷ []) (blossom_of name (base ∷ others) ∷ []) n e
        → height_of (all_cuts (nodes ++ blossom_of name (base ∷ others) ∷ [])) d % 2 ≡ height_of (all_cuts (nodes ++ blossom_of name (base ∷ others) ∷ [])) e % 2
    parity d e n leaf among (inl (i, less, outer, is, holds_d)) (inl (j, below, outer_j, is_j, holds_e)) =
        let out = (outer_in nodes (blossom_of name (base ∷ others) ∷ []) n outer).0 in
        ap (λ h. h % 2) (height d)
        ∙ (work.one_parity d e n leaf among
        (cover_found nodes d work.dual.apart i no_node less (ap (is_outer nodes) is ∙ out) holds_d ∙ ap Some is)
        (cover_found nodes e work.dual.apart j no_node below (ap (is_outer nodes) is_j ∙ out) holds_e ∙ ap Some is_j)
        ∙ ap (λ h. h % 2) (sym (height e)))
    parity d e n leaf among (inr (i, less, outer, is, holds_d)) (inr (j, below, outer_j, is_j, holds_e)) =
        ap (λ h. h % 2) (height d)
        ∙ (in_blossom d leaf (held d i less holds_d)
        ∙ (sym (in_blossom e among (held e j below holds_e)) ∙ ap (λ h. h % 2) (sym (height e))))
    parity d e n leaf among (inl (i, less, outer, is, holds_d)) (inr (j, below, outer_j, is_j, holds_e)) =
        absurd (one_side n i j less below is is_j)
    parity d e n leaf among (inr (i, less, outer, is, holds_d)) (inl (j, below, outer_j, is_j, holds_e)) =
        absurd (one_side n j i below less is_j is)
