-- One outer node that holds a single vertex, and what the edges at this vertex bear as it grows.
use Rattle.std.proofs.Common.{ℕ, ◌≡◌, ◌+◌, ◌*◌, ◌≤◌, ◌<◌, ◌==◌, ◌&&◌, ◌||◌, ◌⊎◌, inl, inr, Bool, cond, true, false, List, [], ◌∷◌, map, length, Some, refl, sym, ap, ◌∙◌, subst, arith, if◌then◌else◌}
use Rattle.std.proofs.lemmas.Bool.{cases_Bool, eqb-true, false≢true}
use Rattle.std.proofs.lemmas.List.{get_or_default}
use Rattle.std.proofs.lemmas.List.Sums.{sum_by-cons}
use Rattle.fb_graph.specs.Certificate.{AreDistinct, load_of}
use Rattle.fb_graph.specs.Counts.{as_count}
use Rattle.fb_graph.specs.Dual.{AllowsGrowth, IsCrossed, IsDual, Node, all_cuts, change_at, cover_of, height_of, is_live, is_outer, thicker_node, top_at}
use Rattle.fb_graph.specs.Parity.{differ, is_in}
use Rattle.fb_graph.specs.Problem.{Problem, crosses, edge_at, no_edge, touches}
use Rattle.fb_graph.specs.Steps.{MayStep, gains, losses, stepped_nodes}
use Rattle.fb_graph.specs.declared.parts.Cut.{Cut}
use Rattle.fb_graph.specs.declared.parts.Edge.{Edge}
use Rattle.fb_graph.proofs.Among.{covered_by, live_among, top_among}
use Rattle.fb_graph.proofs.Sets.{equal_sym, is_in-head}
use Rattle.fb_graph.proofs.StepLoads.{load_stepped}
use Rattle.fb_obstacles.specs.Obstacles.{residue_of}
use Rattle.fb_trees.specs.Rooted.{bare}
use Rattle.fb_search.specs.InternalNear.{alone}
use Rattle.fb_trees.specs.TreesOver.{IsTreeOver}
use Rattle.fb_trees.proofs.BranchTurns.{all_done, none_yet, root_done, root_may}

-- the load of an edge is at most the potentials of its ends
load-le : (cuts : List Cut) (e : Edge) → load_of cuts e ≤ height_of cuts e.first + height_of cuts e.second
load-le [] e = omega arith
load-le (c ∷ cs) e =
    omega (
      arith,
      load-le cs e,
      sum_by-cons (λ (x : Cut). cond (crosses x.vertices e) x.value 0) c cs,
      sum_by-cons (λ (x : Cut). cond (is_in x.vertices e.first) x.value 0) c cs,
      sum_by-cons (λ (x : Cut). cond (is_in x.vertices e.second) x.value 0) c cs,
      one (is_in c.vertices e.first) (is_in c.vertices e.second) c.value,
    )
  where
    one : (a b : Bool) (n : ℕ) → cond (differ a b) n 0 ≤ cond a n 0 + cond b n 0
    one true true n = omega arith
    one true false n = omega arith
    one false true n = omega arith
    one false false n = omega arith

-- so an edge bears its residue
pub bears_residue : (p : Problem) (nodes : List Node) (k n : ℕ) → IsDual p nodes → k < length p.edges
    → n ≤ residue_of nodes (edge_at p.edges k)
    → load_of (all_cuts nodes) (edge_at p.edges k) + n ≤ (edge_at p.edges k).weight
bears_residue p nodes k n dual less within =
    omega (arith, load-le (all_cuts nodes) (edge_at p.edges k), dual.packing.fits k no_edge less, within)

-- an edge crosses the set of one vertex where it touches the vertex
crosses_one : (v : ℕ) (e : Edge) → crosses (v ∷ []) e ≡ touches v e
crosses_one v e = by (v == e.first) (v == e.second)
  where
    by : (a b : Bool) → differ (a || false) (b || false) ≡ differ a b
    by true true = refl
    by true false = refl
    by false true = refl
    by false false = refl

-- no node has the name
absent : (nodes : List Node) (name : ℕ) → is_in (map (λ n. n.name) nodes) name ≡ false → top_at nodes name ≡ []
absent [] name none = refl
absent (n ∷ ns) name none = step (n.name == name) none (absent ns name)
  where
    step : (b : Bool) → (b || is_in (map (λ m. m.name) ns) name) ≡ false
        → (is_in (map (λ m. m.name) ns) name ≡ false → top_at ns name ≡ [])
        → cond b n.top.vertices (top_at ns name) ≡ []
    step true h rest = absurd (false≢true (sym h))
    step false h rest = rest h

-- what an edge gains and loses where one node alone grows
gains_alone : (nodes : List Node) (name : ℕ) (e : Edge) → AreDistinct (map (λ n. n.name) nodes)
    → gains (alone name) nodes e ≡ as_count (crosses (top_at nodes name) e)
gains_alone [] name e distinct = refl
gains_alone (n ∷ ns) name e distinct = step (n.name == name) refl (gains_alone ns name e distinct.1)
  where
    counted : Node → ℕ
    counted m = as_count (is_in (name ∷ []) m.name && crosses m.top.vertices e)

    step : (b : Bool) → (n.name == name) ≡ b → gains (alone name) ns e ≡ as_count (crosses (top_at ns name) e)
        → gains (alone name) (n ∷ ns) e ≡ as_count (crosses (cond b n.top.vertices (top_at ns name)) e)
    step true same rest =
        omega (
          arith,
          sum_by-cons counted n ns,
          rest,
          ap (λ t. as_count ((t || false) && crosses n.top.vertices e)) (equal_sym name n.name ∙ same),
          ap (λ set. as_count (crosses set e))
              (absent ns name (ap (is_in (map (λ m. m.name) ns)) (sym (eqb-true n.name name same)) ∙ distinct.0)),
        )
    step false other rest =
        omega (
          arith,
          sum_by-cons counted n ns,
          rest,
          ap (λ t. as_count ((t || false) && crosses n.top.vertices e)) (equal_sym name n.name ∙ other),
        )

losses_alone : (nodes : List Node) (name : ℕ) (e : Edge) → losses (alone name) nodes e ≡ 0
losses_alone [] name e = refl
losses_alone (n ∷ ns) name e =
    omega (
      arith,
      sum_by-cons (λ (m : Node). as_count (false && crosses m.top.vertices e)) n ns,
      losses_alone ns name e,
    )

-- the node of the name holds one vertex
module _ (p : Problem) (nodes : List Node) (name v : ℕ) (dual : IsDual p nodes) (top : top_at nodes name ≡ v ∷ []) where
  gains_one : (e : Edge) → gains (alone name) nodes e ≡ as_count (touches v e)
  gains_one e =
      gains_alone nodes name e dual.names ∙ ap as_count (ap (λ set. crosses set e) top ∙ crosses_one v e)

  -- it may grow by what the edges at the vertex bear
  pub may_grow : (k : ℕ) → ((j : ℕ) → j < length p.edges → touches v (edge_at p.edges j) ≡ true
      → load_of (all_cuts nodes) (edge_at p.edges j) + k ≤ (edge_at p.edges j).weight)
      → MayStep p (alone name) nodes k
  may_grow k bears = record {
    edges = λ j d less.
        subst (λ e. load_of (all_cuts nodes) e + k * gains (alone name) nodes e ≤ e.weight + k * losses (alone name) nodes e)
        (get_or_default p.edges j no_edge d less) (by j less (cases_Bool (touches v (edge_at p.edges j))));
    tops = λ i d less minus. absurd (false≢true minus);
  }
    where
      by : (j : ℕ) → j < length p.edges
          → (touches v (edge_at p.edges j) ≡ true) ⊎ (touches v (edge_at p.edges j) ≡ false)
          → load_of (all_cuts nodes) (edge_at p.edges j) + k * gains (alone name) nodes (edge_at p.edges j)
          ≤ (edge_at p.edges j).weight + k * losses (alone name) nodes (edge_at p.edges j)
      by j less (inl at) =
          omega (
            arith,
            bears j less at,
            ap (λ x. k * x) (gains_one (edge_at p.edges j) ∙ ap as_count at),
          )
      by j less (inr off) =
          omega (
            arith,
            dual.packing.fits j no_edge less,
            ap (λ x. k * x) (gains_one (edge_at p.edges j) ∙ ap as_count off),
          )

  -- the loads after it has grown
  pub load_grown : (k : ℕ) (e : Edge)
      → load_of (all_cuts (stepped_nodes (alone name) k nodes)) e
      ≡ load_of (all_cuts nodes) e + (if touches v e then k else 0)
  load_grown k e =
      omega (
        arith,
        load_stepped (alone name) nodes k e (λ n plus. refl) (λ i d less minus. absurd (false≢true minus)),
        ap (λ x. k * x) (losses_alone nodes name e),
        ap (λ x. k * x) (gains_one e),
        times (touches v e),
      )
    where
      times : (b : Bool) → k * as_count b ≡ (if b then k else 0)
      times true = omega arith
      times false = omega arith

  -- it is over the vertex
  pub covered_alone : is_live nodes name ≡ true → is_outer nodes name ≡ true → cover_of nodes v ≡ Some name
  covered_alone live outer =
      let (m, among, named) = live_among nodes name live in
      let set = sym (top_among nodes dual.names m among) ∙ (ap (top_at nodes) named ∙ top) in
      covered_by nodes v dual.apart m among (ap (is_outer nodes) named ∙ outer)
      (ap (λ l. is_in l v) set ∙ is_in-head v [])
      ∙ ap (λ n. Some n) named

-- a step of a tree that is one node alone is growth of this node
module _ (p : Problem) (name k : ℕ) (nodes : List Node) (over : IsTreeOver p (bare name) nodes) (may : MayStep p (alone name) nodes k) where
  pub node_may : (is_live nodes name ≡ true) × (is_outer nodes name ≡ true) × IsCrossed p (top_at nodes name)
      × AllowsGrowth p nodes (top_at nodes name) k
  node_may =
      subst (λ ns. (is_live ns name ≡ true) × (is_outer ns name ≡ true) × IsCrossed p (top_at ns name) × AllowsGrowth p ns (top_at ns name) k)
      (sym (none_yet p (bare name) nodes over k may [] refl)) (root_may p (bare name) nodes over k may [] refl 0 (omega arith))

  pub node_grown : change_at name (thicker_node k) nodes ≡ stepped_nodes (alone name) k nodes
  node_grown =
      ap (change_at name (thicker_node k)) (none_yet p (bare name) nodes over k may [] refl)
      ∙ (root_done p (bare name) nodes over k may [] refl 0 (omega arith)
      ∙ all_done p (bare name) nodes over k may [] refl 0 (omega arith))
