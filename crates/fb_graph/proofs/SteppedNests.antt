-- A step of a tree keeps a nest.
use Rattle.std.proofs.Common.{ℕ, suc, ◌≡◌, ◌+◌, ◌-◌, ◌*◌, inl, inr, Bool, true, false, List, [], ◌∷◌, ◌++◌, map, All, AllPairs, refl, sym, ap, ◌∙◌, subst, arith, if◌then◌else◌}
use Rattle.std.proofs.lemmas.List.Elements.{All-nil, All-cons, All-append, All-map}
use Rattle.std.proofs.lemmas.List.Kept.{AllPairs-cons}
use Rattle.fb_graph.specs.Parity.{is_in}
use Rattle.fb_graph.specs.Problem.{Problem, with_defects}
use Rattle.fb_graph.specs.Certificate.{AreDistinct, IsPacking}
use Rattle.fb_graph.specs.Dual.{Node, IsHeld, IsNestedOrApart, IsCrossed, AreGrown, all_cuts, layers_of, leaves, first_vertices}
use Rattle.fb_graph.specs.declared.parts.Cut.{Cut}
use Rattle.fb_graph.proofs.CutSums.{total-le}
use Rattle.fb_graph.proofs.Nodes.{All-flat_map, All-pieces, All-top, All-below}
use Rattle.fb_graph.specs.Counts.{as_count}
use Rattle.fb_graph.specs.Nests.{IsNest, HasSources, first_set}
use Rattle.fb_graph.specs.Moves.{NestStepped}
use Rattle.fb_graph.specs.Steps.{Roles, stepped_nodes, stepped_node, stepped_value}
use Rattle.fb_graph.specs.Covers.{passes}
use Rattle.fb_graph.proofs.Among.{IsAmong, All_among, among_All, apart_among, covered_by, All_unmapped}
use Rattle.fb_graph.proofs.Forests.{under_outer}
use Rattle.fb_graph.proofs.InsertedCuts.{AreFit, pairs_head, pairs_tail}
use Rattle.fb_graph.proofs.MappedNodes.{AreKept, names_mapped, forest_mapped, apart_mapped, mapped_leaves}
use Rattle.fb_graph.proofs.NestParts.{grove_of, nest_of}
use Rattle.fb_graph.proofs.StepHeights.{height_stepped}
use Rattle.fb_graph.proofs.StepLoads.{packing_stepped}

abbrev IsNestedSets : List ℕ → List ℕ → Type 0
IsNestedSets a b = IsNestedOrApart (record { value = 0; vertices = a }) (record { value = 0; vertices = b })

sets_append : (xs ys : List Cut) → map (λ c. c.vertices) (xs ++ ys) ≡ map (λ c. c.vertices) xs ++ map (λ c. c.vertices) ys
sets_append [] ys = refl
sets_append (x ∷ xs) ys = ap (λ l. x.vertices ∷ l) (sets_append xs ys)

same_node_sets : (roles : Roles) (k : ℕ) (n : Node) → map (λ c. c.vertices) (layers_of (stepped_node roles k n)) ≡ map (λ c. c.vertices) (layers_of n)
same_node_sets roles k n = sets_append n.below ((stepped_node roles k n).top ∷ []) ∙ sym (sets_append n.below (n.top ∷ []))

same_cut_sets : (roles : Roles) (k : ℕ) (ns : List Node) → map (λ c. c.vertices) (all_cuts (stepped_nodes roles k ns)) ≡ map (λ c. c.vertices) (all_cuts ns)
same_cut_sets roles k [] = refl
same_cut_sets roles k (n ∷ ns) =
    sets_append (layers_of (stepped_node roles k n)) (all_cuts (stepped_nodes roles k ns))
    ∙ (ap (λ l. l ++ map (λ c. c.vertices) (all_cuts (stepped_nodes roles k ns))) (same_node_sets roles k n)
    ∙ (ap (λ l. map (λ c. c.vertices) (layers_of n) ++ l) (same_cut_sets roles k ns)
    ∙ sym (sets_append (layers_of n) (all_cuts ns))))

-- a relation of sets alone
to_sets : (R : List ℕ → List ℕ → Type 0) (cuts : List Cut) → AllPairs (λ c d. R c.vertices d.vertices) cuts → AllPairs R (map (λ c. c.vertices) cuts)
to_sets R [] h = λ i j d less below. absurd (omega arith)
to_sets R (c ∷ cs) h =
    AllPairs-cons R c.vertices (map (λ x. x.vertices) cs)
    (All-map (R c.vertices) (λ x. x.vertices) cs (pairs_head (λ x y. R x.vertices y.vertices) c cs h))
    (to_sets R cs (pairs_tail (λ x y. R x.vertices y.vertices) c cs h))

from_sets : (R : List ℕ → List ℕ → Type 0) (cuts : List Cut) → AllPairs R (map (λ c. c.vertices) cuts) → AllPairs (λ c d. R c.vertices d.vertices) cuts
from_sets R [] h = λ i j d less below. absurd (omega arith)
from_sets R (c ∷ cs) h =
    AllPairs-cons (λ x y. R x.vertices y.vertices) c cs
    (All_unmapped (R c.vertices) (λ x. x.vertices) cs (λ i d less. h 0 (suc i) d (omega arith) (omega arith)))
    (from_sets R cs (λ i j d less below. h (suc i) (suc j) d (omega arith) (omega arith)))

pairs_stepped : (R : List ℕ → List ℕ → Type 0) (roles : Roles) (k : ℕ) (ns : List Node) → AllPairs (λ c d. R c.vertices d.vertices) (all_cuts ns)
    → AllPairs (λ c d. R c.vertices d.vertices) (all_cuts (stepped_nodes roles k ns))
pairs_stepped R roles k ns h =
    from_sets R (all_cuts (stepped_nodes roles k ns)) (subst (AllPairs R) (sym (same_cut_sets roles k ns)) (to_sets R (all_cuts ns) h))

pub first_stepped : (roles : Roles) (k : ℕ) (n : Node) → first_set (stepped_node roles k n) ≡ first_set n
first_stepped roles k n = by n.below
  where
    by : (below : List Cut) → first_vertices (below ++ (stepped_node roles k n).top ∷ []) ≡ first_vertices (below ++ n.top ∷ [])
    by [] = refl
    by (c ∷ cs) = refl

grown_stepped : (below : List Cut) (top : Cut) (y : ℕ) → AreGrown (below ++ top ∷ []) → AreGrown (below ++ record top { value = y } ∷ [])
grown_stepped [] top y h = h
grown_stepped (c ∷ []) top y h = (h.0, grown_stepped [] top y h.1)
grown_stepped (c ∷ d ∷ ds) top y h = (h.0, grown_stepped (d ∷ ds) top y h.1)

held_stepped : (p : Problem) (roles : Roles) (k : ℕ) (n : Node) → (roles.is_plus n.name ≡ true → IsCrossed p n.top.vertices) → IsHeld p n.top
    → IsHeld p (stepped_node roles k n).top
held_stepped p roles k n crossed held = by (roles.is_plus n.name) (roles.is_minus n.name) crossed held
  where
    by : (a b : Bool) → (a ≡ true → IsCrossed p n.top.vertices) → IsHeld p n.top
        → IsHeld p (record n.top { value = if a then n.top.value + k else if b then n.top.value - k else n.top.value })
    by true b c h = inr (c refl)
    by false true c (inl zero_) = inl (omega (arith, zero_))
    by false true c (inr some) = inr some
    by false false c h = h

module _ (p : Problem) (roles : Roles) (nodes : List Node) (k : ℕ) (nest : IsNest p nodes) where
  kept : AreKept (stepped_node roles k) nodes
  kept = record {
    name = λ n. refl;
    children = λ n. refl;
    first = among_All (λ n. first_set (stepped_node roles k n) ≡ first_set n) nodes (λ n a. first_stepped roles k n);
    inner = λ i d less inner. refl;
  }

  same_leaves : leaves (stepped_nodes roles k nodes) ≡ leaves nodes
  same_leaves = mapped_leaves (stepped_node roles k) kept.children nodes kept.first

pub nest_stepped : NestStepped
nest_stepped p roles nodes k limits are crossed may nest =
    nest_of p (stepped_nodes roles k nodes) (subst (λ l. AreFit p l (all_cuts (stepped_nodes roles k nodes))) (sym (same_leaves p roles nodes k nest)) (record {
      packing = packing;
      laminar = pairs_stepped (λ a b. IsNestedSets a b) roles k nodes nest.dual.laminar;
      held = held;
      total = total-le p (all_cuts (stepped_nodes roles k nodes)) limits packing.fits held;
      differ = pairs_stepped (λ a b. (v : ℕ) × (is_in a v ≡ is_in b v → ⊥)) roles k nodes nest.differ;
    }))
    (record {
      names = names_mapped (stepped_node roles k) nodes (kept p roles nodes k nest) (grove_of p nodes nest);
      grown = All-map (λ n. AreGrown (layers_of n)) (stepped_node roles k) nodes
          (among_All (λ n. AreGrown (layers_of (stepped_node roles k n))) nodes
          (λ n a. grown_stepped n.below n.top (stepped_value roles k n) (All_among (λ m. AreGrown (layers_of m)) nodes nest.dual.grown n a)));
      forest = forest_mapped (stepped_node roles k) nodes (kept p roles nodes k nest) (grove_of p nodes nest);
    })
    (apart_mapped (stepped_node roles k) nodes (kept p roles nodes k nest) (grove_of p nodes nest)
    (λ m n a b other out_m out_n. apart_among nodes nest.dual.names nest.dual.apart m n a b other out_m out_n))
    (subst AreDistinct (sym (same_leaves p roles nodes k nest)) nest.defects)
    (All-map (λ n. HasSources (stepped_nodes roles k nodes) n.top.vertices) (stepped_node roles k) nodes
    (among_All (λ n. HasSources (stepped_nodes roles k nodes) n.top.vertices) nodes sources))
  where
    packing : IsPacking (with_defects p (leaves nodes)) (all_cuts (stepped_nodes roles k nodes))
    packing = packing_stepped (with_defects p (leaves nodes)) roles nodes k are.exclusive nest.dual.packing (record { edges = may.edges; tops = may.tops })

    held : All (IsHeld p) (all_cuts (stepped_nodes roles k nodes))
    held =
        All-flat_map (IsHeld p) layers_of (stepped_nodes roles k nodes)
        (All-map (λ n. All (IsHeld p) (layers_of n)) (stepped_node roles k) nodes
        (among_All (λ n. All (IsHeld p) (layers_of (stepped_node roles k n))) nodes
        (λ n a.
        let own : All (IsHeld p) (layers_of n) = All_among (λ m. All (IsHeld p) (layers_of m)) nodes (All-pieces (IsHeld p) layers_of nodes nest.dual.held) n a in
        All-append (IsHeld p) n.below ((stepped_node roles k n).top ∷ []) (All-below (IsHeld p) n.below n.top own)
        (All-cons (IsHeld p) (stepped_node roles k n).top []
        (held_stepped p roles k n (All_among (λ m. roles.is_plus m.name ≡ true → IsCrossed p m.top.vertices) nodes crossed n a)
        (All-top (IsHeld p) n.below n.top own)) (All-nil (IsHeld p))))))

    sources : (n : Node) → IsAmong n nodes → HasSources (stepped_nodes roles k nodes) n.top.vertices
    sources n a v within =
        let (d, holds, leaf, parity) = All_among (λ m. HasSources nodes m.top.vertices) nodes nest.sources n a v within in
        let under = under_outer nodes (grove_of p nodes nest) n a in
        let at_v = covered_by nodes v nest.dual.apart under.node under.among under.outer (under.within v within) in
        let at_d = covered_by nodes d nest.dual.apart under.node under.among under.outer (under.within d holds) in (
          d,
          holds,
          ap (λ l. is_in l d) (same_leaves p roles nodes k nest) ∙ leaf,
          omega (
            arith,
            parity,
            height_stepped roles nodes k v nest.dual.apart are may.tops,
            height_stepped roles nodes k d nest.dual.apart are may.tops,
            ap (λ o. k * as_count (passes roles.is_plus o)) (at_d ∙ sym at_v),
            ap (λ o. k * as_count (passes roles.is_minus o)) (at_d ∙ sym at_v),
          ),
        )
