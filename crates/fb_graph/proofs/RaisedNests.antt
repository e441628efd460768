-- A vertex absorbed keeps a nest.
use Rattle.std.proofs.Common.{ℕ, ◌≡◌, ◌%◌, ◌==◌, ◌⊎◌, inl, inr, true, false, List, [], ◌∷◌, ◌++◌, Some, None, refl, sym, ap, ◌∙◌, subst, arith}
use Rattle.std.specs.Option.{IsSome}
use Rattle.std.proofs.lemmas.Bool.{both_ways, false≢true, false_from_ne_true, or_cases, or_from, or_left, eqb-true, ne_eqb, cases_eq}
use Rattle.std.proofs.lemmas.List.Elements.{All-map, All-push, All-weaker}
use Rattle.fb_graph.specs.Parity.{is_in}
use Rattle.fb_graph.specs.Problem.{Problem, edge_at, no_edge, with_defects}
use Rattle.fb_graph.specs.Certificate.{AreDistinct, IsOddCut, load_of}
use Rattle.fb_graph.specs.Components.{Leads}
use Rattle.fb_graph.specs.Printed.{DifferAsSets}
use Rattle.fb_graph.specs.Dual.{Node, AreApart, AreGrown, AreUnderOne, IsNestedOrApart, all_cuts, layers_of, leaves, cover_of, height_of, is_outer, taller_node}
use Rattle.fb_graph.specs.declared.parts.Cut.{Cut}
use Rattle.fb_graph.specs.declared.parts.Edge.{Edge}
use Rattle.fb_graph.proofs.Members.{AreDistinct_push, is_in_push, is_in_pushed, is_odd_count_push}
use Rattle.fb_graph.proofs.Nodes.{AreGrown-taller_node}
use Rattle.fb_graph.specs.Nests.{IsNest, HasSources}
use Rattle.fb_graph.specs.Links.{AreEven}
use Rattle.fb_graph.specs.Moves.{absorbed_nodes, MayAbsorb, NestAbsorbed}
use Rattle.fb_graph.proofs.Among.{IsAmong, IsOver, All_among, among_All, among_live, same_among, apart_among, covered_by, cover_among}
use Rattle.fb_graph.proofs.ChangedNodes.{change, by_name, kept_by, placed_among, layer_between, regrouped, first_taller}
use Rattle.fb_graph.proofs.EndSums.{apart_sym}
use Rattle.fb_graph.proofs.Forests.{IsUnder, cuts_under}
use Rattle.fb_graph.proofs.InsertedCuts.{IsInserted, AreFit, inserted_fit, same_weigh, sources_same}
use Rattle.fb_graph.proofs.MappedNodes.{AreKept, names_mapped, forest_mapped, apart_mapped, mapped_leaves}
use Rattle.fb_graph.proofs.NestParts.{grove_of, fit_of, nest_of, top_is_odd, sources_at}
use Rattle.fb_graph.proofs.Places.{IsPlaced, placed, cuts_at}

module _ (p : Problem) (nodes : List Node) (name k u v : ℕ) (even : AreEven p) (may : MayAbsorb p nodes name k u v) (nest : IsNest p nodes) where
  over : IsOver nodes u name
  over = cover_among nodes u name may.covered

  outer : is_outer nodes name ≡ true
  outer = ap (is_outer nodes) (sym over.named) ∙ over.outer

  at : IsPlaced nodes name
  at = placed nodes name nest.dual.names (among_live nodes over.node name over.among over.named)

  there : IsAmong at.node nodes
  there = placed_among nodes name at

  -- no outer node holds the vertex
  free : (m : Node) → IsAmong m nodes → is_outer nodes m.name ≡ true → is_in m.top.vertices v ≡ false
  free m a out =
      false_from_ne_true (is_in m.top.vertices v)
      (λ h.
      let some : cover_of nodes v ≡ Some m.name = covered_by nodes v nest.dual.apart m a out h in
      let clash : None ≡ Some m.name = sym may.uncovered ∙ some in
      absurd (cc))

  no_defect : is_in (leaves nodes) v ≡ false
  no_defect =
      false_from_ne_true (is_in (leaves nodes) v)
      (λ leaf. false≢true (subst IsSome may.uncovered (nest.dual.defects v leaf)))

  at_outer : is_outer nodes at.node.name ≡ true
  at_outer = ap (is_outer nodes) at.named ∙ outer

  odd : IsOddCut (with_defects p (leaves nodes)) (taller_node v at.node).top
  odd =
      let top = top_is_odd p nodes nest at.node there in
      record {
        distinct = AreDistinct_push at.node.top.vertices v top.distinct (free at.node there at_outer);
        real = All-push (λ x. p.is_real x ≡ true) at.node.top.vertices v top.real may.real;
        odd = is_odd_count_push (is_in (leaves nodes)) at.node.top.vertices v no_defect ∙ top.odd;
      }

  apart_others : (m : Node) → IsAmong m nodes → is_outer nodes m.name ≡ true → (m.name ≡ name → ⊥) → AreApart m.top.vertices (at.node.top.vertices ++ v ∷ [])
  apart_others m a out other w h =
      is_in_push at.node.top.vertices v w
      ∙ or_from (is_in at.node.top.vertices w) (v == w)
      (apart_among nodes nest.dual.names nest.dual.apart m at.node a there (λ same. other (same ∙ at.named)) out at_outer w h)
      (ne_eqb v w (λ same. both_ways (is_in m.top.vertices v) (free m a out) (ap (is_in m.top.vertices) same ∙ h)))

  beside : (c : Cut) → IsUnder nodes c.vertices → IsNestedOrApart c (taller_node v at.node).top × DifferAsSets c (taller_node v at.node).top
  beside c under = (
    nested (cases_eq under.node.name name),
    (
      v,
      λ same. both_ways (is_in under.node.top.vertices v) (free under.node under.among under.outer)
          (under.within v (same ∙ is_in_pushed at.node.top.vertices v)),
    ),
  )
    where
      nested : (under.node.name ≡ name) ⊎ (under.node.name ≡ name → ⊥) → IsNestedOrApart c (taller_node v at.node).top
      nested (inl e) =
          inl (λ w h.
          is_in_push at.node.top.vertices v w
          ∙ or_left (is_in at.node.top.vertices w) (v == w)
          (ap (λ n. is_in n.top.vertices w) (sym (same_among nodes nest.dual.names under.node at.node under.among there (e ∙ sym at.named))) ∙ under.within w h))
      nested (inr other) = inr (inr (λ w h. apart_others under.node under.among under.outer other w (under.within w h)))

  insertion : IsInserted (taller_node v at.node).top (all_cuts nodes) (all_cuts (absorbed_nodes name v nodes))
  insertion = record {
    before = all_cuts at.before ++ layers_of at.node;
    after = all_cuts at.after;
    old_is =
        ap all_cuts at.whole
        ∙ (cuts_at at.before at.after at.node ∙ regrouped (all_cuts at.before) (layers_of at.node) (all_cuts at.after));
    new_is =
        ap all_cuts (at.changed (taller_node v))
        ∙ (cuts_at at.before at.after (taller_node v at.node)
        ∙ layer_between (all_cuts at.before) (layers_of at.node) (all_cuts at.after) (taller_node v at.node).top);
    bare = refl;
  }

  kept : AreKept (change name (taller_node v)) nodes
  kept = kept_by name (taller_node v) nodes (λ n. refl) (λ n. refl) (λ n a e. first_taller v n) outer

  same_leaves : leaves (absorbed_nodes name v nodes) ≡ leaves nodes
  same_leaves = mapped_leaves (change name (taller_node v)) kept.children nodes kept.first

  height : (w : ℕ) → height_of (all_cuts (absorbed_nodes name v nodes)) w ≡ height_of (all_cuts nodes) w
  height w = same_weigh (λ s. is_in s w) (taller_node v at.node).top (all_cuts nodes) (all_cuts (absorbed_nodes name v nodes)) insertion

  fit : AreFit p (leaves (absorbed_nodes name v nodes)) (all_cuts (absorbed_nodes name v nodes))
  fit =
      subst (λ l. AreFit p l (all_cuts (absorbed_nodes name v nodes))) (sym same_leaves)
      (inserted_fit p (leaves nodes) (taller_node v at.node).top (all_cuts nodes) (all_cuts (absorbed_nodes name v nodes)) insertion (fit_of p nodes nest) odd
      (All-weaker (λ c. IsUnder nodes c.vertices) (λ c. IsNestedOrApart c (taller_node v at.node).top × DifferAsSets c (taller_node v at.node).top)
      beside (all_cuts nodes) (cuts_under nodes (grove_of p nodes nest))))

  -- the vertex has the parity of the one from which it came
  same_parity : height_of (all_cuts nodes) u % 2 ≡ height_of (all_cuts nodes) v % 2
  same_parity = by (edge_at p.edges k) may.leads may.tight (even k no_edge may.within)
    where
      by : (e : Edge) → Leads e u v → load_of (all_cuts nodes) e ≡ e.weight → e.weight % 2 ≡ 0
          → height_of (all_cuts nodes) u % 2 ≡ height_of (all_cuts nodes) v % 2
      by e (inl (a, b)) tight two =
          let apart : ¬ AreUnderOne nodes e.first e.second =
          λ under. let clash : None ≡ Some under.0 = sym may.uncovered ∙ (ap (cover_of nodes) (sym b) ∙ under.2) in absurd (cc) in
          omega (arith, tight, two, nest.dual.loads e apart, ap (height_of (all_cuts nodes)) a, ap (height_of (all_cuts nodes)) b, nest.dual.uncovered v may.uncovered)
      by e (inr (a, b)) tight two =
          let apart : ¬ AreUnderOne nodes e.first e.second =
          λ under. let clash : None ≡ Some under.0 = sym may.uncovered ∙ (ap (cover_of nodes) (sym b) ∙ under.1) in absurd (cc) in
          omega (arith, tight, two, nest.dual.loads e apart, ap (height_of (all_cuts nodes)) a, ap (height_of (all_cuts nodes)) b, nest.dual.uncovered v may.uncovered)

  raised_sources : (n : Node) → IsAmong n nodes → n.name ≡ name → HasSources nodes (n.top.vertices ++ v ∷ [])
  raised_sources n a e w h = pick (or_cases (is_in n.top.vertices w) (v == w) (sym (is_in_push n.top.vertices v w) ∙ h))
    where
      from : (x : ℕ) → is_in n.top.vertices x ≡ true → height_of (all_cuts nodes) x % 2 ≡ height_of (all_cuts nodes) w % 2
          → (d : ℕ) × (is_in (n.top.vertices ++ v ∷ []) d ≡ true) × (is_in (leaves nodes) d ≡ true)
          × (height_of (all_cuts nodes) d % 2 ≡ height_of (all_cuts nodes) w % 2)
      from x within same =
          let (d, holds, leaf, parity) = sources_at p nodes nest n a x within in
          (d, is_in_push n.top.vertices v d ∙ or_left (is_in n.top.vertices d) (v == d) holds, leaf, parity ∙ same)

      pick : (is_in n.top.vertices w ≡ true) ⊎ ((v == w) ≡ true)
          → (d : ℕ) × (is_in (n.top.vertices ++ v ∷ []) d ≡ true) × (is_in (leaves nodes) d ≡ true)
          × (height_of (all_cuts nodes) d % 2 ≡ height_of (all_cuts nodes) w % 2)
      pick (inl within) = from w within refl
      pick (inr is) =
          from u
          (ap (λ x. is_in x.top.vertices u) (same_among nodes nest.dual.names n over.node a over.among (e ∙ sym over.named)) ∙ over.holds)
          (same_parity ∙ ap (λ x. height_of (all_cuts nodes) x % 2) (eqb-true v w is))

  apart_raised : (m n : Node) → IsAmong m nodes → IsAmong n nodes → (m.name ≡ n.name → ⊥) → is_outer nodes m.name ≡ true
      → is_outer nodes n.name ≡ true → AreApart (change name (taller_node v) m).top.vertices (change name (taller_node v) n).top.vertices
  apart_raised m n a b other out_m out_n =
      by_name (λ x. AreApart x.top.vertices (change name (taller_node v) n).top.vertices) name (taller_node v) m
      (λ e.
      by_name (λ y. AreApart (m.top.vertices ++ v ∷ []) y.top.vertices) name (taller_node v) n (λ g. absurd (other (e ∙ sym g)))
      (λ not_n. apart_sym n.top.vertices (m.top.vertices ++ v ∷ []) (beyond m n a b e out_n not_n)))
      (λ not_m.
      by_name (λ y. AreApart m.top.vertices y.top.vertices) name (taller_node v) n (λ g. beyond n m b a g out_m not_m)
      (λ not_n. apart_among nodes nest.dual.names nest.dual.apart m n a b other out_m out_n))
    where
      beyond : (x y : Node) → IsAmong x nodes → IsAmong y nodes → x.name ≡ name → is_outer nodes y.name ≡ true → (y.name ≡ name → ⊥)
          → AreApart y.top.vertices (x.top.vertices ++ v ∷ [])
      beyond x y c d e out not_y =
          subst (λ z. AreApart y.top.vertices (z.top.vertices ++ v ∷ [])) (same_among nodes nest.dual.names at.node x there c (at.named ∙ sym e))
          (apart_others y d out not_y)

  nest_kept : IsNest p (absorbed_nodes name v nodes)
  nest_kept =
      nest_of p (absorbed_nodes name v nodes) fit (record {
        names = names_mapped (change name (taller_node v)) nodes kept (grove_of p nodes nest);
        grown = All-map (λ n. AreGrown (layers_of n)) (change name (taller_node v)) nodes
            (among_All (λ n. AreGrown (layers_of (change name (taller_node v) n))) nodes
            (λ n a.
            let old : AreGrown (layers_of n) = All_among (λ m. AreGrown (layers_of m)) nodes nest.dual.grown n a in
            by_name (λ m. AreGrown (layers_of m)) name (taller_node v) n (λ e. AreGrown-taller_node n.below n.top v old) (λ other. old)));
        forest = forest_mapped (change name (taller_node v)) nodes kept (grove_of p nodes nest);
      })
      (apart_mapped (change name (taller_node v)) nodes kept (grove_of p nodes nest) apart_raised)
      (subst AreDistinct (sym same_leaves) nest.defects)
      (All-map (λ n. HasSources (absorbed_nodes name v nodes) n.top.vertices) (change name (taller_node v)) nodes
      (among_All (λ n. HasSources (absorbed_nodes name v nodes) (change name (taller_node v) n).top.vertices) nodes
      (λ n a.
      sources_same nodes (absorbed_nodes name v nodes) (change name (taller_node v) n).top.vertices same_leaves height
      (by_name (λ m. HasSources nodes m.top.vertices) name (taller_node v) n (raised_sources n a) (λ other. sources_at p nodes nest n a)))))

pub nest_absorbed : NestAbsorbed
nest_absorbed p nodes name k u v even may nest = nest_kept p nodes name k u v even may nest
