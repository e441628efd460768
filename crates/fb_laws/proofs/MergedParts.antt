-- Two states as one.
use Rattle.std.proofs.Common.{ℕ, zero, suc, ◌≡◌, ◌+◌, ◌%◌, ◌<◌, ◌==◌, ◌&&◌, ◌||◌, ◌⊎◌, inl, inr, cond, Bool, true, false, List, ◌∷◌, ◌++◌, map, length, All, Option, Some, None, get_or, refl, sym, ap, ◌∙◌, subst, arith, []}
use Rattle.std.specs.List.{find}
use Rattle.std.specs.Option.{option_map, option_or}
use Rattle.std.proofs.lemmas.Bool.{both_ways, false≢true, false_from_ne_true, or_cases, or_parts, or_left, or_right, and_parts, eq-eqb, eqb-true}
use Rattle.std.proofs.lemmas.List.Elements.{All-append, All-from_get_or}
use Rattle.std.proofs.lemmas.List.Folds.{find-append}
use Rattle.fb_graph.specs.Parity.{is_in}
use Rattle.fb_graph.specs.Problem.{Problem, edge_at}
use Rattle.fb_graph.specs.Certificate.{AreDistinct, IsOddCut}
use Rattle.fb_graph.specs.Laws.{Link, IsTight, IsPart, has_real_end}
use Rattle.fb_graph.specs.Dual.{Node, IsDual, all_cuts, leaves, cover_of, height_of, is_outer, is_live, node_at, no_node}
use Rattle.fb_graph.specs.declared.parts.Edge.{Edge}
use Rattle.fb_graph.specs.declared.parts.Cut.{Cut}
use Rattle.fb_graph.proofs.Members.{is_in-append}
use Rattle.fb_graph.proofs.Sets.{is_in-All}
use Rattle.fb_graph.specs.Counts.{as_count}
use Rattle.fb_graph.specs.Ends.{ends_in}
use Rattle.fb_graph.specs.Links.{IsTightLink}
use Rattle.fb_graph.specs.NestUnions.{AreParts}
use Rattle.fb_laws.specs.Fusion.{IsLinkOf}
use Rattle.fb_laws.specs.Works.{HasDefects}
use Rattle.fb_laws.specs.Merging.{MatchingsMerged}
use Rattle.fb_laws.specs.Opening.{EndsAtDefects}
use Rattle.fb_graph.proofs.Crossings.{cover_found, found_place, name_in}
use Rattle.fb_graph.proofs.EndSums.{ends_append}
use Rattle.fb_laws.proofs.FusedParts.{parts_turned, link_ends_away, tight_fused, tight_fused_right, fused_ends, height_fused}
use Rattle.fb_laws.proofs.HalvesKept.{odd_of_part}
use Rattle.fb_laws.proofs.MatchedNodes.{odd_top}
use Rattle.std.proofs.lemmas.List.Sums.{sum_by-append}
use Rattle.fb_graph.proofs.AppendedNodes.{cuts_merged, leaves_merged, names_merged, outer_in}
use Rattle.fb_graph.proofs.ClosedSets.{boundary_height}
use Rattle.fb_graph.proofs.NestParts.{leaf_real}
use Rattle.fb_graph.proofs.Walks.{walk_same}
use Rattle.fb_graph.proofs.Booleans.{or_nothing}

pub odd_in : (p : Problem) (nodes : List Node) → IsDual p nodes → HasDefects p nodes → All (IsOddCut p) (all_cuts nodes)
odd_in p nodes dual defects i d less = odd_of_part p nodes (get_or (all_cuts nodes) i d) defects (dual.packing.odd i d less)

-- a node of the list has the name, is outer in both lists together, and holds the vertex
abbrev pub HoldsIn : List Node → List Node → ℕ → ℕ → Type 0
HoldsIn all ns name v =
    (j : ℕ) × (j < length ns) × (is_outer all name ≡ true) × ((node_at ns j).name ≡ name) × (is_in (node_at ns j).top.vertices v ≡ true)

place_of : (all ns : List Node) (v name : ℕ) (m : Node) → find (λ n. is_outer all n.name && is_in n.top.vertices v) ns ≡ Some m
    → m.name ≡ name → HoldsIn all ns name v
place_of all ns v name m e named =
    let (j, less, same, passing) = found_place (λ n. is_outer all n.name && is_in n.top.vertices v) ns m e in
    let parts = and_parts (is_outer all m.name) (is_in m.top.vertices v) passing in
    (j, less, ap (is_outer all) (sym named) ∙ parts.0, ap (λ n. n.name) same ∙ named, ap (λ n. is_in n.top.vertices v) same ∙ parts.1)

pub side_of : (nodes others : List Node) (v name : ℕ) → cover_of (nodes ++ others) v ≡ Some name
    → HoldsIn (nodes ++ others) nodes name v ⊎ HoldsIn (nodes ++ others) others name v
side_of nodes others v name cover = step (find test nodes) (find test others) refl refl
    (ap (option_map (λ n. n.name)) (sym (find-append test nodes others)) ∙ cover)
  where
    test : Node → Bool
    test n = is_outer (nodes ++ others) n.name && is_in n.top.vertices v

    step : (a b : Option Node) → find test nodes ≡ a → find test others ≡ b
        → option_map (λ n. n.name) (option_or (find test nodes) (find test others)) ≡ Some name
        → HoldsIn (nodes ++ others) nodes name v ⊎ HoldsIn (nodes ++ others) others name v
    step (Some m) b first second named =
        let at : option_map (λ n. n.name) (option_or (Some m) (find test others)) ≡ Some name =
        ap (λ o. option_map (λ n. n.name) (option_or o (find test others))) (sym first) ∙ named in
        inl (place_of (nodes ++ others) nodes v name m first (let is : m.name ≡ name = cc in is))
    step None (Some m) first second named =
        let at : option_map (λ n. n.name) (option_or None (Some m)) ≡ Some name =
        ap (λ o. option_map (λ n. n.name) (option_or None o)) (sym second)
        ∙ (ap (λ o. option_map (λ n. n.name) (option_or o (find test others))) (sym first) ∙ named) in
        inr (place_of (nodes ++ others) others v name m second (let is : m.name ≡ name = cc in is))
    step None None first second named =
        let at : option_map {T = Node} (λ n. n.name) (option_or None None) ≡ Some name =
        ap (λ o. option_map (λ n. n.name) (option_or None o)) (sym second)
        ∙ (ap (λ o. option_map (λ n. n.name) (option_or o (find test others))) (sym first) ∙ named) in
        cc

-- names of two lists that are distinct together don't meet
pub distinct_across : (xs ys : List ℕ) (v : ℕ) → AreDistinct (xs ++ ys) → is_in xs v ≡ true → is_in ys v ≡ false
distinct_across [] ys v distinct within = absurd (false≢true within)
distinct_across (x ∷ xs) ys v distinct within =
    step (or_cases (x == v) (is_in xs v) within) (distinct_across xs ys v distinct.1)
  where
    step : ((x == v) ≡ true) ⊎ (is_in xs v ≡ true) → (is_in xs v ≡ true → is_in ys v ≡ false) → is_in ys v ≡ false
    step (inl e) rest =
        ap (is_in ys) (sym (eqb-true x v e)) ∙ (or_parts (is_in xs x) (is_in ys x) (sym (is_in-append xs ys x) ∙ distinct.0)).1
    step (inr h) rest = rest h

pub live_at : (ns : List Node) (j : ℕ) → j < length ns → is_live ns (node_at ns j).name ≡ true
live_at [] j less = absurd (omega arith)
live_at (n ∷ ns) zero less = or_left (n.name == n.name) (is_live ns n.name) (eq-eqb n.name n.name refl)
live_at (n ∷ ns) (suc j) less =
    or_right (n.name == (node_at ns j).name) (is_live ns (node_at ns j).name) (live_at ns j (omega arith))

pub real_held : (p : Problem) (nodes : List Node) (j v : ℕ) → IsDual p nodes → j < length nodes
    → is_in (node_at nodes j).top.vertices v ≡ true → p.is_real v ≡ true
real_held p nodes j v dual less within = is_in-All (λ u. p.is_real u ≡ true) (node_at nodes j).top.vertices (odd_top p nodes j dual less).real v within

pub part_of_link : (part whole : Problem) (l : Link) → IsPart part whole → IsLinkOf part l → IsLinkOf whole l
part_of_link part whole l is link = record {
  walk = walk_same part whole is.edges l.walk l.from l.to link.walk;
  moves = link.moves;
  real = λ i d less.
      let k : ℕ = get_or l.walk i d in
      subst (λ es. has_real_end whole (edge_at es k) ≡ true) is.edges (widen (edge_at part.edges k) (link.real i d less));
}
  where
    widen : (e : Edge) → has_real_end part e ≡ true → has_real_end whole e ≡ true
    widen e real = step (or_cases (part.is_real e.first) (part.is_real e.second) real)
      where
        step : (part.is_real e.first ≡ true) ⊎ (part.is_real e.second ≡ true) → has_real_end whole e ≡ true
        step (inl h) = or_left (whole.is_real e.first) (whole.is_real e.second) (is.real e.first h)
        step (inr h) = or_right (whole.is_real e.first) (whole.is_real e.second) (is.real e.second h)

pub matchings_merged : MatchingsMerged
matchings_merged left right whole nodes others links more unmatched open_ parts covered dual away apart first second = record {
  dual = dual;
  defects = λ v real. defect v (covered v real);
  links_are = record {
    tight =
        All-append (IsTightLink whole (all_cuts (nodes ++ others))) links more
        (λ i d less. record {
          walk = walk_same left whole parts.left_part.edges _ _ _ (first.links_are.tight i d less).walk;
          tight =
              subst (λ cuts. IsTight whole cuts (get_or links i d)) (sym (cuts_merged nodes others))
              (tight_fused left right whole (all_cuts nodes) (all_cuts others) (get_or links i d) parts right_odd
              (first.links_are.own i d less) (first.links_are.tight i d less).tight);
        })
        (λ i d less. record {
          walk = walk_same right whole parts.right_part.edges _ _ _ (second.links_are.tight i d less).walk;
          tight =
              subst (λ cuts. IsTight whole cuts (get_or more i d)) (sym (cuts_merged nodes others))
              (tight_fused_right left right whole (all_cuts nodes) (all_cuts others) (get_or more i d) parts left_odd
              (second.links_are.own i d less) (second.links_are.tight i d less).tight);
        });
    own =
        All-append (IsLinkOf whole) links more
        (λ i d less. part_of_link left whole (get_or links i d) parts.left_part (first.links_are.own i d less))
        (λ i d less. part_of_link right whole (get_or more i d) parts.right_part (second.links_are.own i d less));
    at_defects =
        All-append (EndsAtDefects whole (leaves (nodes ++ others))) links more
        (λ i d less.
        let away_ends = link_ends_away left right whole (get_or links i d) parts (first.links_are.own i d less) in (
          left_end (get_or links i d).from away_ends.0 (first.links_are.at_defects i d less).0,
          left_end (get_or links i d).to away_ends.1 (first.links_are.at_defects i d less).1,
        ))
        (λ i d less.
        let away_ends = link_ends_away right left whole (get_or more i d) turned (second.links_are.own i d less) in (
          right_end (get_or more i d).from away_ends.0 (second.links_are.at_defects i d less).0,
          right_end (get_or more i d).to away_ends.1 (second.links_are.at_defects i d less).1,
        ));
  };
  matched =
      All-append
      (λ n. is_outer (nodes ++ others) n.name ≡ true → ends_in n.top.vertices (links ++ more) + as_count (is_in (unmatched ++ open_) n.name) ≡ 1)
      nodes others
      (All-from_get_or
      (λ n. is_outer (nodes ++ others) n.name ≡ true → ends_in n.top.vertices (links ++ more) + as_count (is_in (unmatched ++ open_) n.name) ≡ 1)
      nodes no_node
      (λ i less outer.
      let n : Node = node_at nodes i in
      let one = first.matched i no_node less (outer_in nodes others n.name outer).0 in
      omega (
        arith,
        one,
        ends_append n.top.vertices links more,
        fused_ends right left whole n.top.vertices more turned second.links_are.own (odd_top left nodes i first.dual less).real,
        ap as_count (is_in-append unmatched open_ n.name),
        left_only (is_in unmatched n.name) (is_in open_ n.name)
            (false_from_ne_true (is_in open_ n.name) (λ h. both_ways (is_live nodes n.name) (away n.name h) (live_at nodes i less))),
      )))
      (All-from_get_or
      (λ n. is_outer (nodes ++ others) n.name ≡ true → ends_in n.top.vertices (links ++ more) + as_count (is_in (unmatched ++ open_) n.name) ≡ 1)
      others no_node
      (λ i less outer.
      let n : Node = node_at others i in
      let one = second.matched i no_node less (outer_in nodes others n.name outer).1 in
      omega (
        arith,
        one,
        ends_append n.top.vertices links more,
        fused_ends left right whole n.top.vertices links parts first.links_are.own (odd_top right others i second.dual less).real,
        ap as_count (is_in-append unmatched open_ n.name),
        right_only (is_in unmatched n.name) (is_in open_ n.name)
            (false_from_ne_true (is_in unmatched n.name) (λ h. both_ways (is_live others n.name) (apart n.name h) (live_at others i less))),
      )));
  one_parity = λ d e name leaf among cover other.
      parity d e name leaf among (side_of nodes others d name cover) (side_of nodes others e name other);
}
  where
    turned : AreParts right left whole
    turned = parts_turned left right whole parts

    right_odd : All (IsOddCut right) (all_cuts others)
    right_odd i d less = odd_in right others second.dual second.defects i d less

    left_odd : All (IsOddCut left) (all_cuts nodes)
    left_odd i d less = odd_in left nodes first.dual first.defects i d less

    left_only : (a b : Bool) → b ≡ false → as_count (a || b) ≡ as_count a
    left_only true b e = refl
    left_only false b e = ap as_count e

    right_only : (a b : Bool) → a ≡ false → as_count (a || b) ≡ as_count b
    right_only a b e = ap (λ x. as_count (x || b)) e

    in_left : (v : ℕ) → is_in (leaves nodes) v ≡ true → is_in (leaves (nodes ++ others)) v ≡ true
    in_left v h =
        ap (λ l. is_in l v) (leaves_merged nodes others)
        ∙ (is_in-append (leaves nodes) (leaves others) v ∙ or_left (is_in (leaves nodes) v) (is_in (leaves others) v) h)

    in_right : (v : ℕ) → is_in (leaves others) v ≡ true → is_in (leaves (nodes ++ others)) v ≡ true
    in_right v h =
        ap (λ l. is_in l v) (leaves_merged nodes others)
        ∙ (is_in-append (leaves nodes) (leaves others) v ∙ or_right (is_in (leaves nodes) v) (is_in (leaves others) v) h)

    left_end : (v : ℕ) → right.is_real v ≡ false → (left.is_real v ≡ true → is_in (leaves nodes) v ≡ true)
        → whole.is_real v ≡ true → is_in (leaves (nodes ++ others)) v ≡ true
    left_end v away_ at real = step (covered v real)
      where
        step : (left.is_real v ≡ true) ⊎ (right.is_real v ≡ true) → is_in (leaves (nodes ++ others)) v ≡ true
        step (inl h) = in_left v (at h)
        step (inr h) = absurd (both_ways (right.is_real v) away_ h)

    right_end : (v : ℕ) → left.is_real v ≡ false → (right.is_real v ≡ true → is_in (leaves others) v ≡ true)
        → whole.is_real v ≡ true → is_in (leaves (nodes ++ others)) v ≡ true
    right_end v away_ at real = step (covered v real)
      where
        step : (left.is_real v ≡ true) ⊎ (right.is_real v ≡ true) → is_in (leaves (nodes ++ others)) v ≡ true
        step (inl h) = absurd (both_ways (left.is_real v) away_ h)
        step (inr h) = in_right v (at h)

    -- a vertex of the left is a defect of both where it is one of the left
    left_leaves : (v : ℕ) → left.is_real v ≡ true → is_in (leaves (nodes ++ others)) v ≡ is_in (leaves nodes) v
    left_leaves v real =
        ap (λ l. is_in l v) (leaves_merged nodes others)
        ∙ (is_in-append (leaves nodes) (leaves others) v
        ∙ or_nothing (is_in (leaves nodes) v) (is_in (leaves others) v)
        (false_from_ne_true (is_in (leaves others) v)
        (λ h. both_ways (right.is_real v) (parts.separated.vertices v real) (leaf_real right others v second.dual h))))

    right_leaves : (v : ℕ) → right.is_real v ≡ true → is_in (leaves (nodes ++ others)) v ≡ is_in (leaves others) v
    right_leaves v real =
        ap (λ l. is_in l v) (leaves_merged nodes others)
        ∙ (is_in-append (leaves nodes) (leaves others) v
        ∙ ap (λ a. a || is_in (leaves others) v)
        (false_from_ne_true (is_in (leaves nodes) v)
        (λ h. both_ways (left.is_real v) (turned.separated.vertices v real) (leaf_real left nodes v first.dual h))))

    defect : (v : ℕ) → (left.is_real v ≡ true) ⊎ (right.is_real v ≡ true) → whole.is_defect v ≡ is_in (leaves (nodes ++ others)) v
    defect v (inl real) = sym (parts.left_part.defects v real) ∙ (first.defects v real ∙ sym (left_leaves v real))
    defect v (inr real) = sym (parts.right_part.defects v real) ∙ (second.defects v real ∙ sym (right_leaves v real))

    left_height : (v : ℕ) → left.is_real v ≡ true → height_of (all_cuts (nodes ++ others)) v ≡ height_of (all_cuts nodes) v
    left_height v real =
        ap (λ cuts. height_of cuts v) (cuts_merged nodes others)
        ∙ height_fused left right whole (all_cuts nodes) (all_cuts others) v parts right_odd real

    right_height : (v : ℕ) → right.is_real v ≡ true → height_of (all_cuts (nodes ++ others)) v ≡ height_of (all_cuts others) v
    right_height v real =
        let none : height_of (all_cuts nodes) v ≡ 0 = boundary_height left (all_cuts nodes) v left_odd (turned.separated.vertices v real) in
        ap (λ cuts. height_of cuts v) (cuts_merged nodes others)
        ∙ omega (arith, none, sum_by-append (λ (c : Cut). cond (is_in c.vertices v) c.value 0) (all_cuts nodes) (all_cuts others))

    -- a name is on one side only
    one_side : (name i j : ℕ) → i < length nodes → j < length others → (node_at nodes i).name ≡ name → (node_at others j).name ≡ name → ⊥
    one_side name i j less below here there =
        both_ways (is_in (map (λ n. n.name) others) name)
        (distinct_across (map (λ n. n.name) nodes) (map (λ n. n.name) others) name
        (subst AreDistinct (names_merged nodes others) dual.names)
        (ap (is_in (map (λ n. n.name) nodes)) (sym here) ∙ name_in nodes i less))
        (ap (is_in (map (λ n. n.name) others)) (sym there) ∙ name_in others j below)

    parity : (d e name : ℕ) → is_in (leaves (nodes ++ others)) d ≡ true → is_in (leaves (nodes ++ others)) e ≡ true
        → HoldsIn (nodes ++ others) nodes name d ⊎ HoldsIn (nodes ++ others) others name d
        → HoldsIn (nodes ++ others) nodes name e ⊎ HoldsIn (nodes ++ others) others name e
        → height_of (all_cuts (nodes ++ others)) d % 2 ≡ height_of (all_cuts (nodes ++ others)) e % 2
    parity d e name leaf among (inl (i, less, outer, named, holds_d)) (inl (j, below, outer_j, named_j, holds_e)) =
        let real_d = real_held left nodes i d first.dual less holds_d in
        let real_e = real_held left nodes j e first.dual below holds_e in
        let out = (outer_in nodes others name outer).0 in
        ap (λ h. h % 2) (left_height d real_d)
        ∙ (first.one_parity d e name (sym (left_leaves d real_d) ∙ leaf) (sym (left_leaves e real_e) ∙ among)
        (cover_found nodes d first.dual.apart i no_node less (ap (is_outer nodes) named ∙ out) holds_d ∙ ap Some named)
        (cover_found nodes e first.dual.apart j no_node below (ap (is_outer nodes) named_j ∙ out) holds_e ∙ ap Some named_j)
        ∙ ap (λ h. h % 2) (sym (left_height e real_e)))
    parity d e name leaf among (inr (i, less, outer, named, holds_d)) (inr (j, below, outer_j, named_j, holds_e)) =
        let real_d = real_held right others i d second.dual less holds_d in
        let real_e = real_held right others j e second.dual below holds_e in
        let out = (outer_in nodes others name outer).1 in
        ap (λ h. h % 2) (right_height d real_d)
        ∙ (second.one_parity d e name (sym (right_leaves d real_d) ∙ leaf) (sym (right_leaves e real_e) ∙ among)
        (cover_found others d second.dual.apart i no_node less (ap (is_outer others) named ∙ out) holds_d ∙ ap Some named)
        (cover_found others e second.dual.apart j no_node below (ap (is_outer others) named_j ∙ out) holds_e ∙ ap Some named_j)
        ∙ ap (λ h. h % 2) (sym (right_height e real_e)))
    parity d e name leaf among (inl (i, less, outer, named, holds_d)) (inr (j, below, outer_j, named_j, holds_e)) =
        absurd (one_side name i j less below named named_j)
    parity d e name leaf among (inr (i, less, outer, named, holds_d)) (inl (j, below, outer_j, named_j, holds_e)) =
        absurd (one_side name j i below less named_j named)
