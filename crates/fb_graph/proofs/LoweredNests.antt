-- A top layer taken off keeps a nest.
use Rattle.std.proofs.Common.{ℕ, ◌≡◌, ◌≤◌, ◌==◌, ◌⊎◌, inl, inr, true, false, List, [], ◌∷◌, ◌++◌, length, All, refl, sym, ap, ◌∙◌, subst}
use Rattle.std.proofs.lemmas.Bool.{both_ways, false_from_ne_true, or_cases, or_left, eqb-true}
use Rattle.std.proofs.lemmas.List.Elements.{All-map}
use Rattle.fb_graph.specs.Parity.{differ, is_in, is_odd_count}
use Rattle.fb_graph.specs.Problem.{Problem, with_defects}
use Rattle.fb_graph.specs.Certificate.{AreDistinct, IsOddCut}
use Rattle.fb_graph.specs.Dual.{Node, AreGrown, IsWithin, all_cuts, layers_of, leaves, first_vertices, height_of}
use Rattle.fb_graph.proofs.Members.{is_in_push}
use Rattle.fb_graph.proofs.Nodes.{All-pieces, All-top, All-below}
use Rattle.fb_graph.proofs.ParitySums.{odd-append}
use Rattle.fb_graph.specs.Nests.{IsNest, HasSources}
use Rattle.fb_graph.specs.Moves.{without_top, uncovered_nodes, MayUncover, NestUncovered}
use Rattle.fb_graph.proofs.Among.{IsAmong, All_among, among_All, apart_among}
use Rattle.fb_graph.proofs.ChangedNodes.{change, by_name, kept_by, placed_among, layer_between, regrouped, last_split, first_below, grown_below, grown_last}
use Rattle.fb_graph.proofs.InsertedCuts.{IsInserted, AreFit, removed_fit, same_weigh, sources_same}
use Rattle.fb_graph.proofs.MappedNodes.{AreKept, names_mapped, forest_mapped, apart_mapped, mapped_leaves}
use Rattle.fb_graph.proofs.NestParts.{grove_of, fit_of, nest_of, sources_at}
use Rattle.fb_graph.proofs.Places.{IsPlaced, placed, cuts_at}

module _ (p : Problem) (nodes : List Node) (name : ℕ) (may : MayUncover nodes name) (nest : IsNest p nodes) where
  pub at : IsPlaced nodes name
  at = placed nodes name nest.dual.names may.live

  pub there : IsAmong at.node nodes
  there = placed_among nodes name at

  pub bare : (n : Node) → IsAmong n nodes → n.name ≡ name → (1 ≤ length n.below) × (n.top.value ≡ 0)
  bare n a = All_among (λ m. m.name ≡ name → (1 ≤ length m.below) × (m.top.value ≡ 0)) nodes may.bare n a

  pub layers : (n : Node) → IsAmong n nodes → n.name ≡ name → layers_of (without_top n) ≡ n.below
  layers n a e = last_split n.below n.top (bare n a e).0

  pub insertion : IsInserted at.node.top (all_cuts (uncovered_nodes name nodes)) (all_cuts nodes)
  insertion = record {
    before = all_cuts at.before ++ at.node.below;
    after = all_cuts at.after;
    old_is =
        ap all_cuts (at.changed without_top)
        ∙ (cuts_at at.before at.after (without_top at.node)
        ∙ (ap (λ l. all_cuts at.before ++ (l ++ all_cuts at.after)) (layers at.node there at.named)
        ∙ regrouped (all_cuts at.before) at.node.below (all_cuts at.after)));
    new_is =
        ap all_cuts at.whole
        ∙ (cuts_at at.before at.after at.node ∙ layer_between (all_cuts at.before) at.node.below (all_cuts at.after) at.node.top);
    bare = (bare at.node there at.named).1;
  }

  pub kept : AreKept (change name without_top) nodes
  kept =
      kept_by name without_top nodes (λ n. refl) (λ n. refl)
      (λ n a e. ap first_vertices (layers n a e) ∙ sym (first_below n.below n.top (bare n a e).0)) may.outer

  pub same_leaves : leaves (uncovered_nodes name nodes) ≡ leaves nodes
  same_leaves = mapped_leaves (change name without_top) kept.children nodes kept.first

  pub height : (v : ℕ) → height_of (all_cuts (uncovered_nodes name nodes)) v ≡ height_of (all_cuts nodes) v
  height v = sym (same_weigh (λ s. is_in s v) at.node.top (all_cuts (uncovered_nodes name nodes)) (all_cuts nodes) insertion)

  fit : AreFit p (leaves (uncovered_nodes name nodes)) (all_cuts (uncovered_nodes name nodes))
  fit =
      subst (λ l. AreFit p l (all_cuts (uncovered_nodes name nodes))) (sym same_leaves)
      (removed_fit p (leaves nodes) at.node.top (all_cuts (uncovered_nodes name nodes)) (all_cuts nodes) insertion (fit_of p nodes nest))

  grown_at : (n : Node) → IsAmong n nodes → AreGrown (n.below ++ n.top ∷ [])
  grown_at n a = All_among (λ m. AreGrown (layers_of m)) nodes nest.dual.grown n a

  -- the vertex more of the top layer
  pub added : (n : Node) → IsAmong n nodes → n.name ≡ name → (x : ℕ) × (n.top.vertices ≡ (without_top n).top.vertices ++ x ∷ [])
  added n a e =
      grown_last (without_top n).below (without_top n).top n.top
      (subst (λ l. AreGrown (l ++ n.top ∷ [])) (sym (layers n a e)) (grown_at n a))

  shrinks : (n : Node) → IsAmong n nodes → n.name ≡ name → IsWithin (without_top n).top.vertices n.top.vertices
  shrinks n a e v h =
      let (x, more) = added n a e in
      ap (λ s. is_in s v) more ∙ (is_in_push (without_top n).top.vertices x v ∙ or_left (is_in (without_top n).top.vertices v) (x == v) h)

  within : (n : Node) → IsAmong n nodes → IsWithin (change name without_top n).top.vertices n.top.vertices
  within n a = by_name (λ m. IsWithin m.top.vertices n.top.vertices) name without_top n (shrinks n a) (λ other v h. h)

  odd : (n : Node) → IsAmong n nodes → All (IsOddCut (with_defects p (leaves nodes))) (n.below ++ n.top ∷ [])
  odd n a =
      All_among (λ m. All (IsOddCut (with_defects p (leaves nodes))) (layers_of m)) nodes
      (All-pieces (IsOddCut (with_defects p (leaves nodes))) layers_of nodes nest.dual.packing.odd) n a

  -- it isn't a defect, since both layers hold an odd number
  pub no_defect : (n : Node) → IsAmong n nodes → n.name ≡ name → (x : ℕ) → n.top.vertices ≡ (without_top n).top.vertices ++ x ∷ [] → is_in (leaves nodes) x ≡ false
  no_defect n a e x more =
      false_from_ne_true (is_in (leaves nodes) x)
      (λ leaf.
      both_ways (is_odd_count (is_in (leaves nodes)) n.top.vertices)
      (ap (is_odd_count (is_in (leaves nodes))) more
      ∙ (odd-append (is_in (leaves nodes)) (without_top n).top.vertices (x ∷ [])
      ∙ (ap (λ b. differ b (differ (is_in (leaves nodes) x) false)) below
      ∙ ap (λ b. differ true (differ b false)) leaf)))
      (All-top (IsOddCut (with_defects p (leaves nodes))) n.below n.top (odd n a)).odd)
    where
      below : is_odd_count (is_in (leaves nodes)) (without_top n).top.vertices ≡ true
      below =
          (All-top (IsOddCut (with_defects p (leaves nodes))) (without_top n).below (without_top n).top
          (subst (All (IsOddCut (with_defects p (leaves nodes)))) (sym (layers n a e))
          (All-below (IsOddCut (with_defects p (leaves nodes))) n.below n.top (odd n a)))).odd

  lowered_sources : (n : Node) → IsAmong n nodes → n.name ≡ name → HasSources nodes (without_top n).top.vertices
  lowered_sources n a e v h =
      let (d, holds, leaf, parity) = sources_at p nodes nest n a v (shrinks n a e v h) in
      let (x, more) = added n a e in
      (d, pick d leaf x more (or_cases (is_in (without_top n).top.vertices d) (x == d) (sym (is_in_push (without_top n).top.vertices x d) ∙ (ap (λ s. is_in s d) (sym more) ∙ holds))), leaf, parity)
    where
      pick : (d : ℕ) → is_in (leaves nodes) d ≡ true → (x : ℕ) → n.top.vertices ≡ (without_top n).top.vertices ++ x ∷ []
          → (is_in (without_top n).top.vertices d ≡ true) ⊎ ((x == d) ≡ true) → is_in (without_top n).top.vertices d ≡ true
      pick d leaf x more (inl k) = k
      pick d leaf x more (inr k) =
          absurd (both_ways (is_in (leaves nodes) x) (no_defect n a e x more) (ap (is_in (leaves nodes)) (eqb-true x d k) ∙ leaf))

  nest_kept : IsNest p (uncovered_nodes name nodes)
  nest_kept =
      nest_of p (uncovered_nodes name nodes) fit (record {
        names = names_mapped (change name without_top) nodes kept (grove_of p nodes nest);
        grown = All-map (λ n. AreGrown (layers_of n)) (change name without_top) nodes
            (among_All (λ n. AreGrown (layers_of (change name without_top n))) nodes
            (λ n a.
            by_name (λ m. AreGrown (layers_of m)) name without_top n
            (λ e. subst AreGrown (sym (layers n a e)) (grown_below n.below n.top (grown_at n a))) (λ other. grown_at n a)));
        forest = forest_mapped (change name without_top) nodes kept (grove_of p nodes nest);
      })
      (apart_mapped (change name without_top) nodes kept (grove_of p nodes nest)
      (λ m n a b other out_m out_n v h.
      false_from_ne_true (is_in (change name without_top n).top.vertices v)
      (λ k.
      both_ways (is_in n.top.vertices v)
      (apart_among nodes nest.dual.names nest.dual.apart m n a b other out_m out_n v (within m a v h)) (within n b v k))))
      (subst AreDistinct (sym same_leaves) nest.defects)
      (All-map (λ n. HasSources (uncovered_nodes name nodes) n.top.vertices) (change name without_top) nodes
      (among_All (λ n. HasSources (uncovered_nodes name nodes) (change name without_top n).top.vertices) nodes
      (λ n a.
      sources_same nodes (uncovered_nodes name nodes) (change name without_top n).top.vertices same_leaves height
      (by_name (λ m. HasSources nodes m.top.vertices) name without_top n (lowered_sources n a) (λ other. sources_at p nodes nest n a)))))

pub nest_uncovered : NestUncovered
nest_uncovered p nodes name may nest = nest_kept p nodes name may nest
