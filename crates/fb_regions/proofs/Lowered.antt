-- An outer node without its top layer.
use Rattle.std.proofs.Common.{ℕ, suc, ◌≡◌, ◌-◌, ◌≤◌, ◌==◌, ◌⊎◌, inl, inr, true, false, List, [], ◌∷◌, ◌++◌, length, set, take, get_or, Option, Some, None, refl, sym, ap, ◌∙◌, subst, arith, append_assoc}
use Rattle.std.specs.List.{All, position}
use Rattle.std.proofs.lemmas.Bool.{both_ways, cases_eq, eqb-true, false_from_ne_true, or_cases, or_right}
use Rattle.std.proofs.lemmas.List.{length-append, length-set}
use Rattle.std.proofs.lemmas.List.Elements.{All-set}
use Rattle.std.proofs.lemmas.List.Sums.{sum_by_push}
use Rattle.fb_graph.specs.Parity.{is_in}
use Rattle.fb_graph.specs.Problem.{Problem}
use Rattle.fb_graph.specs.Certificate.{AreDistinct, total_value}
use Rattle.fb_graph.specs.Dual.{Node, all_cuts, is_outer, layers_of, leaves, top_at}
use Rattle.fb_graph.specs.Moves.{MayUncover, without_top, uncovered_nodes}
use Rattle.fb_graph.specs.Nests.{IsNest}
use Rattle.fb_graph.specs.SourceWalks.{HaveWalks}
use Rattle.fb_graph.specs.declared.parts.Cut.{Cut}
use Rattle.fb_graph.proofs.Among.{IsAmong, All_among, among_All, among_map, apart_among, cover_among, live_among, map_among, same_among, top_among}
use Rattle.fb_graph.proofs.ChangedNodes.{change, by_name}
use Rattle.fb_graph.proofs.Forests.{IsUnder, cuts_under, under_outer}
use Rattle.fb_graph.proofs.InsertedCuts.{removed_All}
use Rattle.fb_graph.proofs.LoweredNests as lowering
use Rattle.fb_graph.proofs.MappedNodes.{mapped_outer}
use Rattle.fb_graph.proofs.Members.{is_in-append, is_in_push, is_in_pushed}
use Rattle.fb_graph.proofs.NestParts.{grove_of, top_is_odd}
use Rattle.fb_graph.proofs.SourceWalks.{walks_uncovered}
use Rattle.fb_regions.specs.declared.marks.Mark.{Mark}
use Rattle.fb_regions.specs.declared.region.Region.{Region}
use Rattle.fb_regions.specs.InternalNodes.{added_to, before_in, before_of, chain, first_of, mark_of, node_of, nodes_of, stack, under_in}
use Rattle.fb_regions.specs.InternalListings.{AreListed, BeginAlike, IsListed}
use Rattle.fb_regions.specs.Moves.{BeginsWith}
use Rattle.fb_regions.specs.InternalKept.{BeginsIn, HasMarks, HaveParents, IsKept, IsMarked}
use Rattle.fb_regions.proofs.Begun.{StayBegun, lists_still, set_begun, top_changed}
use Rattle.fb_regions.proofs.Chains.{length-chain, length-stack, stack_push}
use Rattle.fb_regions.proofs.Found.{IsFound, found}
use Rattle.fb_regions.proofs.Listed.{distinct_before}
use Rattle.fb_regions.proofs.Listings.{begins_left, left_begins, listed_less}
use Rattle.fb_regions.proofs.Marking.{has_still, mark_new, mark_other, marked_below, node_still, nodes_still}
use Rattle.fb_regions.proofs.Moved.{covered_in, in_top, marked_moved, some_cover, top_marks}
use Rattle.fb_regions.proofs.Parents.{childless_set, parents_set}
use Rattle.fb_regions.proofs.Radii.{radii_set}

take_front : (cs : List Cut) (c : Cut) → take (length cs) (cs ++ c ∷ []) ≡ cs
take_front [] c = refl
take_front (x ∷ xs) c = ap (λ l. x ∷ l) (take_front xs c)

last_of : (cs : List Cut) (c d : Cut) → get_or (cs ++ c ∷ []) (length cs) d ≡ c
last_of [] c d = refl
last_of (x ∷ xs) c d = last_of xs c d

lower_push : (n : Node) (cs : List Cut) (c : Cut) → n.below ≡ cs ++ c ∷ [] → without_top n ≡ record n { below = cs; top = c }
lower_push n cs c e =
    ap (λ l. record n { below = take (length l - 1) l; top = get_or l (length l - 1) n.top }) e
    ∙ (ap (λ k. record n { below = take k (cs ++ c ∷ []); top = get_or (cs ++ c ∷ []) k n.top }) (omega (arith, length-append cs (c ∷ [])))
    ∙ (ap (λ l. record n { below = l; top = get_or (cs ++ c ∷ []) (length cs) n.top }) (take_front cs c)
    ∙ ap (λ x. record n { below = cs; top = x }) (last_of cs c n.top)))

abbrev pub lowered : Mark → Region → Region
lowered m r = record r { added = r.added - 1; last = m.before; top_value = m.under }

module _ (p : Problem) (regions : List Region) (marks : List (Option Mark)) (kept : IsKept p regions marks) (name i : ℕ) (old : Region)
    (at : position (λ r. r.name == name) regions ≡ Some i) (is_old : old ≡ get_or regions i old) (may : MayUncover (nodes_of marks regions) name) where
  abbrev nodes : List Node
  nodes = nodes_of marks regions

  abbrev others : List Node
  others = uncovered_nodes name nodes

  abbrev x : ℕ
  x = old.last

  there : IsFound marks regions name i old
  there = found marks regions name i old at is_old

  among : IsAmong (node_of marks old) nodes
  among = map_among (node_of marks) regions old there.among

  bare : (1 ≤ length (node_of marks old).below) × (old.top_value ≡ 0)
  bare = All_among (λ n. n.name ≡ name → (1 ≤ length n.below) × (n.top.value ≡ 0)) nodes may.bare (node_of marks old) among there.named

  pub some_added : 1 ≤ old.added
  some_added = omega (arith, bare.0, length-stack marks (first_of marks old) (added_to marks old), length-chain marks old.added old.last)

  own_in : is_in (node_of marks old).top.vertices x ≡ true
  own_in =
      is_in-append (first_of marks old) (added_to marks old) x
      ∙ or_right (is_in (first_of marks old) x) (is_in (added_to marks old) x)
      (let e : old.added ≡ suc (old.added - 1) = omega (arith, some_added) in
      ap (λ k. is_in (chain marks k x) x) e ∙ is_in_pushed (chain marks (old.added - 1) (before_of marks x)) x)

  pub last_marked : (m : Mark) × (mark_of marks x ≡ Some m)
  last_marked =
      let (m, has, is) = top_marks marks nodes kept.sets (node_of marks old) among x own_in in
      (m, has)

  module _ (m : Mark) (has : mark_of marks x ≡ Some m) where
    abbrev new : Region
    new = lowered m old

    abbrev marks' : List (Option Mark)
    marks' = set marks x None

    chain_is : added_to marks old ≡ added_to marks new ++ x ∷ []
    chain_is =
        let e : old.added ≡ suc (old.added - 1) = omega (arith, some_added) in
        ap (λ k. chain marks k x) e ∙ ap (λ b. chain marks (old.added - 1) b ++ x ∷ []) (ap before_in has)

    below_is : (node_of marks old).below ≡ (node_of marks new).below ++ (node_of marks new).top ∷ []
    below_is =
        ap (stack marks (first_of marks old)) chain_is
        ∙ (stack_push marks (first_of marks old) (added_to marks new) x
        ∙ ap (λ y. (node_of marks new).below ++ record { value = y; vertices = first_of marks old ++ added_to marks new } ∷ []) (ap under_in has))

    lowered_node : node_of marks new ≡ without_top (node_of marks old)
    lowered_node = sym (lower_push (node_of marks old) (node_of marks new).below (node_of marks new).top below_is)

    top_is : (node_of marks old).top.vertices ≡ (node_of marks new).top.vertices ++ x ∷ []
    top_is = ap (λ l. first_of marks old ++ l) chain_is ∙ sym (append_assoc (first_of marks old) (added_to marks new) (x ∷ []))

    mid : nodes_of marks (set regions i new) ≡ others
    mid = there.changed new without_top kept.nest.dual.names lowered_node

    nest : IsNest p others
    nest = lowering.nest_uncovered p nodes name may kept.nest

    out_own : is_in (node_of marks new).top.vertices x ≡ false
    out_own = distinct_before (node_of marks new).top.vertices [] x (subst AreDistinct top_is (top_is_odd p nodes kept.nest (node_of marks old) among).distinct)

    same_outer : (y : ℕ) → is_outer others y ≡ is_outer nodes y
    same_outer y = mapped_outer (change name without_top) (lowering.kept p nodes name may kept.nest).children nodes y

    out : (n : Node) → IsAmong n others → is_in n.top.vertices x ≡ false
    out n a =
        false_from_ne_true (is_in n.top.vertices x)
        (λ h.
        let under = under_outer others (grove_of p others nest) n a in
        let (q, b, e) = among_map (change name without_top) nodes under.node under.among in
        both_ways (is_in under.node.top.vertices x) (by q b under.node e under.outer) (under.within x h))
      where
        by : (q : Node) → IsAmong q nodes → (q' : Node) → change name without_top q ≡ q' → is_outer others q'.name ≡ true → is_in q'.top.vertices x ≡ false
        by q b q' e outer =
            ap (λ y. is_in y.top.vertices x) (sym e)
            ∙ by_name (λ y. y ≡ q' → is_in y.top.vertices x ≡ false) name without_top q
            (λ named f.
            let same : node_of marks old ≡ q = same_among nodes kept.nest.dual.names (node_of marks old) q among b (there.named ∙ sym named) in
            ap (λ y. is_in (without_top y).top.vertices x) (sym same) ∙ (ap (λ y. is_in y.top.vertices x) (sym lowered_node) ∙ out_own))
            (λ other f.
            false_from_ne_true (is_in q.top.vertices x)
            (λ h.
            both_ways (is_in (node_of marks old).top.vertices x)
            (apart_among nodes kept.nest.dual.names kept.nest.dual.apart q (node_of marks old) b among (λ s. other (s ∙ there.named))
            (sym (same_outer q.name) ∙ (ap (λ y. is_outer others y.name) f ∙ outer)) (ap (is_outer nodes) there.named ∙ may.outer) x h)
            own_in))
            e

    pub lowered_nodes : nodes_of marks' (set regions i new) ≡ others
    lowered_nodes =
        nodes_still marks (set regions i new) x None (λ n a. out n (subst (IsAmong n) mid a)) ∙ mid

    mid_sets : All (λ c. HasMarks marks c.vertices) (all_cuts others)
    mid_sets =
        removed_All (λ c. HasMarks marks c.vertices) (lowering.at p nodes name may kept.nest).node.top (all_cuts others) (all_cuts nodes)
        (lowering.insertion p nodes name may kept.nest) kept.sets

    still_in : (n : Node) → IsAmong n nodes → (u : ℕ) → (u ≡ x → ⊥) → is_in n.top.vertices u ≡ true → is_in (change name without_top n).top.vertices u ≡ true
    still_in n a u other h =
        by_name (λ y. is_in y.top.vertices u ≡ true) name without_top n
        (λ named.
        let same : node_of marks old ≡ n = same_among nodes kept.nest.dual.names (node_of marks old) n among a (there.named ∙ sym named) in
        ap (λ y. is_in (without_top y).top.vertices u) (sym same)
        ∙ (ap (λ y. is_in y.top.vertices u) (sym lowered_node)
        ∙ pick (or_cases (is_in (node_of marks new).top.vertices u) (x == u)
        (sym (is_in_push (node_of marks new).top.vertices x u) ∙ (ap (λ s. is_in s u) (sym top_is) ∙ (ap (λ y. is_in y.top.vertices u) same ∙ h))))))
        (λ differs. h)
      where
        pick : (is_in (node_of marks new).top.vertices u ≡ true) ⊎ ((x == u) ≡ true) → is_in (node_of marks new).top.vertices u ≡ true
        pick (inl k) = k
        pick (inr k) = absurd (other (sym (eqb-true x u k)))

    changed_among : (n : Node) → IsAmong n nodes → IsAmong (change name without_top n) others
    changed_among n a = map_among (change name without_top) nodes n a

    no_defect : is_in (leaves nodes) x ≡ false
    no_defect =
        lowering.no_defect p nodes name may kept.nest (node_of marks old) among there.named x
        (top_is ∙ ap (λ n. n.top.vertices ++ x ∷ []) lowered_node)

    leaf_still : (y d : ℕ) → (d ≡ x → ⊥) → is_in (top_at nodes y) d ≡ true → is_in (top_at others y) d ≡ true
    leaf_still y d other h =
        let (n, a, e) = live_among nodes y (in_top nodes y d h) in
        let old_top : top_at nodes y ≡ n.top.vertices = ap (top_at nodes) (sym e) ∙ top_among nodes kept.nest.dual.names n a in
        let named : (change name without_top n).name ≡ y = (lowering.kept p nodes name may kept.nest).name n ∙ e in
        let new_top : top_at others y ≡ (change name without_top n).top.vertices =
        ap (top_at others) (sym named) ∙ top_among others nest.dual.names (change name without_top n) (changed_among n a) in
        ap (λ s. is_in s d) new_top ∙ still_in n a d other (ap (λ s. is_in s d) (sym old_top) ∙ h)

    marked : (u : ℕ) (mk : Mark) → (u ≡ x → ⊥) → mark_of marks u ≡ Some mk → IsMarked p others (set regions i new) marks' u mk
    marked u mk other at' =
        let is : IsMarked p nodes regions marks u mk = kept.marked u mk at' in
        let (c, cover) = some_cover nodes u is.covered in
        let over = cover_among nodes u c cover in
        let here = still_in over.node over.among u other over.holds in
        let place = changed_among over.node over.among in
        marked_moved p nodes others regions (set regions i new) marks marks' u mk is (covered_in p others nest (change name without_top over.node) place u here)
        (leaf_still mk.leaf mk.source (λ e. both_ways (is_in (leaves nodes) x) no_defect (ap (is_in (leaves nodes)) (sym e) ∙ is.defect)) is.leaf)
        (childless_set regions i old new mk.leaf is_old there.below refl refl ∙ is.childless)
        (lowering.height p nodes name may kept.nest u)
        (radii_set regions i old new is_old there.below refl refl refl mk.leaf)
        (λ d h. ap (λ l. is_in l d) (lowering.same_leaves p nodes name may kept.nest) ∙ h)
        (λ t e.
        let (mk', at'', is') = top_marks marks others mid_sets (change name without_top over.node) place u here in
        let same : mk' ≡ mk = (let f : Some mk' ≡ Some mk = sym at'' ∙ at' in cc) in
        let begins : is_in (change name without_top over.node).top.vertices t.from ≡ true =
        subst (BeginsIn (change name without_top over.node).top.vertices) (ap (λ y. y.by) same ∙ e) is'.step in
        mark_other marks x t.from None
        (λ f. both_ways (is_in (change name without_top over.node).top.vertices x) (out (change name without_top over.node) place)
        (ap (is_in (change name without_top over.node).top.vertices) (sym f) ∙ begins)))

    listed : AreListed marks' (set regions i new)
    listed =
        lists_still marks (set regions i new) x None (λ n a. out n (subst (IsAmong n) mid a))
        (All-set (IsListed marks) regions i new
        (listed_less marks old new some_added refl refl refl refl (sym (ap before_in has)) (All_among (IsListed marks) regions kept.listed old there.among))
        kept.listed)

    -- the first vertex is one of the first layer
    own_begun : BeginsWith old.first (node_of marks new).top.vertices
    own_begun =
        begins_left old.first (first_of marks old) (added_to marks new) (All_among (IsListed marks) regions kept.listed old there.among).first

    begun : StayBegun nodes others
    begun v c h =
        top_changed (BeginsWith v) (change name without_top) nodes c (λ n. by_name (λ y. y.name ≡ n.name) name without_top n (λ _. refl) (λ _. refl))
        (λ n a k.
        by_name (λ y. BeginsWith v y.top.vertices) name without_top n
        (λ named.
        let same : node_of marks old ≡ n = same_among nodes kept.nest.dual.names (node_of marks old) n among a (there.named ∙ sym named) in
        subst (λ y. BeginsWith v (without_top y).top.vertices) same
        (subst (λ y. BeginsWith v y.top.vertices) lowered_node
        (left_begins v old.first (node_of marks new).top.vertices (x ∷ []) own_begun
        (subst (BeginsWith v) top_is (subst (λ y. BeginsWith v y.top.vertices) (sym same) k)))))
        (λ _. k))
        h

    pub kept_lowered : IsKept p (set regions i new) marks'
    kept_lowered = record {
      nest = subst (IsNest p) (sym lowered_nodes) nest;
      walks = subst (HaveWalks p) (sym lowered_nodes) (walks_uncovered p nodes name may kept.nest kept.walks);
      room = length-set marks x None ∙ kept.room;
      radii =
          among_All (λ r. r.radius ≡ total_value (layers_of (node_of marks' r))) (set regions i new)
          (λ r a.
          All_among (λ y. y.radius ≡ total_value (layers_of (node_of marks y))) (set regions i new) mid_radii r a
          ∙ ap (λ n. total_value (layers_of n))
          (sym (node_still marks r x None (out (node_of marks r) (subst (IsAmong (node_of marks r)) mid (map_among (node_of marks) (set regions i new) r a))))));
      parents =
          subst (λ ns. HaveParents ns (set regions i new)) (sym lowered_nodes)
          (parents_set nodes others regions i old new (λ y h. same_outer y ∙ h) is_old there.below refl refl refl kept.parents);
      sets =
          subst (λ ns. All (λ c. HasMarks marks' c.vertices) (all_cuts ns)) (sym lowered_nodes)
          (λ j d less.
          has_still marks (get_or (all_cuts others) j d).vertices x None
          (out_cut (get_or (all_cuts others) j d) (cuts_under others (grove_of p others nest) j d less)) (mid_sets j d less));
      listed = listed;
      begins = subst (λ ns. BeginAlike ns (set regions i new)) (sym lowered_nodes)
          (set_begun nodes others regions i old new begun there.among refl refl kept.begins);
      marked = λ u mk at'. subst (λ ns. IsMarked p ns (set regions i new) marks' u mk) (sym lowered_nodes) (by u mk at' (cases_eq u x));
    }
      where
        mid_radii : All (λ r. r.radius ≡ total_value (layers_of (node_of marks r))) (set regions i new)
        mid_radii =
            All-set (λ r. r.radius ≡ total_value (layers_of (node_of marks r))) regions i new
            (omega (
              arith,
              All_among (λ r. r.radius ≡ total_value (layers_of (node_of marks r))) regions kept.radii old there.among,
              bare.1,
              sum_by_push (λ (c : Cut). c.value) (node_of marks old).below (node_of marks old).top,
              ap total_value below_is,
            ))
            kept.radii

        out_cut : (c : Cut) → IsUnder others c.vertices → is_in c.vertices x ≡ false
        out_cut c under =
            false_from_ne_true (is_in c.vertices x) (λ h. both_ways (is_in under.node.top.vertices x) (out under.node under.among) (under.within x h))

        by : (u : ℕ) (mk : Mark) → mark_of marks' u ≡ Some mk → (u ≡ x) ⊎ (u ≡ x → ⊥) → IsMarked p others (set regions i new) marks' u mk
        by u mk at' (inl same) =
            absurd (let clash : None ≡ Some mk = sym (mark_new marks x None (marked_below marks x m has)) ∙ (ap (mark_of marks') (sym same) ∙ at') in cc)
        by u mk at' (inr other) = marked u mk other (sym (mark_other marks x u None other) ∙ at')
