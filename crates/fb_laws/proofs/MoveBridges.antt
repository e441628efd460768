-- The moves of a nest, in the form that the laws of searches have.
use Rattle.std.proofs.Common.{ℕ, ◌≡◌, ◌≤◌, ◌⊎◌, inl, inr, Bool, true, false, cond, List, [], ◌∷◌, ◌++◌, map, length, All, Option, Some, None, refl, sym, ap, ◌∙◌, subst, arith}
use Rattle.std.specs.List.{concat}
use Rattle.std.specs.Option.{IsSome}
use Rattle.std.proofs.lemmas.Bool.{both_ways, false≢true, false_from_ne_true, cases_eq}
use Rattle.std.proofs.lemmas.List.{length-map}
use Rattle.std.proofs.lemmas.List.Elements.{All-head, All-tail, All-map, All-weaker}
use Rattle.fb_graph.specs.Parity.{is_in}
use Rattle.fb_graph.specs.Problem.{Problem}
use Rattle.fb_graph.specs.Certificate.{AreDistinct}
use Rattle.fb_graph.specs.Dual.{Node, IsDual, cover_of, is_live, is_outer, leaves, taller_node, top_at, change_at}
use Rattle.fb_graph.specs.declared.parts.Cut.{Cut}
use Rattle.fb_graph.proofs.Members.{is_in_pushed}
use Rattle.fb_graph.proofs.Sets.{is_in-All, is_in-head, is_in-tail}
use Rattle.fb_laws.specs.Forming.{Child, blossom_of, names_of, sets_of}
use Rattle.fb_laws.specs.Works.{IsSetOf}
use Rattle.fb_graph.specs.Nests.{IsNest}
use Rattle.fb_graph.specs.Moves.{MayUncover, joined_nodes, without_top, absorbed_nodes, uncovered_nodes}
use Rattle.fb_laws.specs.Measures.{IsLower}
use Rattle.fb_laws.specs.SearchBlossoms.{inner_branches, joined_tree, renamed_name}
use Rattle.fb_laws.specs.SearchLayers.{left_to_do}
use Rattle.fb_laws.specs.Trees.{Entry, minus_names, roles_of}
use Rattle.fb_laws.specs.NestBridges.{BlossomNamed, BlossomOuter, JoiningAllowed, JoiningLowers, AbsorbedLowers, UncoveredBack, UncoveredLowers}
use Rattle.fb_graph.proofs.Among.{IsAmong, All_among, among_either, among_live, among_map, among_outer, map_among, apart_among, cover_among, same_among}
use Rattle.fb_graph.proofs.ChangedNodes.{change, by_name}
use Rattle.fb_graph.proofs.JoinedNests.{nest_joined}
use Rattle.fb_graph.proofs.LoweredNests.{at, there, bare, layers, kept, same_leaves, added, no_defect}
use Rattle.fb_laws.proofs.LoweredParts.{absorb_lowers, joined_lowers, uncover_lowers}
use Rattle.fb_graph.proofs.MappedNodes.{mapped_outer}
use Rattle.fb_laws.proofs.MergedParts.{distinct_across, live_at}
use Rattle.fb_graph.proofs.NestParts.{top_is_odd}
use Rattle.fb_laws.proofs.SearchTrees.{top_at_place}

sets_named : (nodes : List Node) (children : List Child) → AreDistinct (map (λ n. n.name) nodes)
    → All (λ c. IsSetOf nodes c.name c.set) children → sets_of children ≡ map (top_at nodes) (names_of children)
sets_named nodes [] distinct are = refl
sets_named nodes (c ∷ cs) distinct are =
    let (i, less, outer, named, set) = All-head (λ x. IsSetOf nodes x.name x.set) c cs are in
    let same : c.set ≡ top_at nodes c.name = sym set
    ∙ (sym (top_at_place nodes distinct i less) ∙ ap (top_at nodes) named) in
    ap (λ s. s ∷ sets_of cs) same
    ∙ ap (λ l. top_at nodes c.name ∷ l)
    (sets_named nodes cs distinct (All-tail (λ x. IsSetOf nodes x.name x.set) c cs are))

-- a node with one layer, without value
abbrev bare_node : ℕ → List ℕ → List ℕ → Node
bare_node name children set =
    record { name = name; children = children; below = []; top = record { value = 0; vertices = set } }

pub blossom_named : BlossomNamed
blossom_named nodes name children distinct are =
    ap (λ s. bare_node name (names_of children) (concat s)) (sets_named nodes children distinct are)

set_live : (nodes : List Node) (c : Child) → IsSetOf nodes c.name c.set → is_live nodes c.name ≡ true
set_live nodes c (i, less, outer, named, set) = ap (is_live nodes) (sym named) ∙ live_at nodes i less

children_live : (nodes : List Node) (children : List Child) → All (λ c. IsSetOf nodes c.name c.set) children
    → All (λ n. is_live nodes n ≡ true) (names_of children)
children_live nodes children are =
    All-map (λ n. is_live nodes n ≡ true) (λ c. c.name) children
    (All-weaker (λ c. IsSetOf nodes c.name c.set) (λ c. is_live nodes c.name ≡ true) (set_live nodes) children are)

pub joining_allowed : JoiningAllowed
joining_allowed nodes tree root name base others joining some fresh = record {
  many = record {
    three = omega (arith, some, joining.even, length-map (base ∷ others) (λ (c : Child). c.name));
    odd = omega (arith, joining.even, length-map (base ∷ others) (λ (c : Child). c.name));
    distinct = joining.distinct;
  };
  live = children_live nodes (base ∷ others) joining.nodes_are;
  outer =
      All-map (λ n. is_outer nodes n ≡ true) (λ c. c.name) (base ∷ others)
      (All-weaker (λ c. IsSetOf nodes c.name c.set) (λ c. is_outer nodes c.name ≡ true) (λ c is. is.2)
      (base ∷ others) joining.nodes_are);
  fresh = fresh;
}

pub blossom_outer : BlossomOuter
blossom_outer p nodes name children nest are fresh =
    among_outer (nodes ++ blossom_of name children ∷ []) name
    (λ q a. false_from_ne_true (is_in q.children name)
    (λ child. both_ways (is_live nodes name) fresh
    (live_child q (among_either nodes (blossom_of name children ∷ []) q a) child)))
  where
    live_child : (q : Node) → IsAmong q nodes ⊎ IsAmong q (blossom_of name children ∷ [])
        → is_in q.children name ≡ true → is_live nodes name ≡ true
    live_child q (inl b) child =
        is_in-All (λ c. is_live nodes c ≡ true) q.children
        (All_among (λ n. All (λ c. is_live nodes c ≡ true) n.children) nodes nest.forest.live q b) name child
    live_child q (inr (inl e)) child =
        is_in-All (λ c. is_live nodes c ≡ true) (names_of children) (children_live nodes children are) name
        (ap (λ n. is_in n.children name) e ∙ child)
    live_child q (inr (inr none)) child = absurd none

-- a change of each node undone
undone : (name : ℕ) (f g : Node → Node) (ns : List Node)
    → ((n : Node) → IsAmong n ns → change name f (change name g n) ≡ n)
    → change_at name f (change_at name g ns) ≡ ns
undone name f g [] h = refl
undone name f g (n ∷ ns) h =
    ap (λ m. m ∷ change_at name f (change_at name g ns)) (h n (inl refl))
    ∙ ap (λ l. n ∷ l) (undone name f g ns (λ m a. h m (inr a)))

no_name : (o : Option ℕ) → ((n : ℕ) → o ≡ Some n → ⊥) → o ≡ None
no_name None h = refl
no_name (Some n) h = absurd (h n refl)

module _ (p : Problem) (nodes : List Node) (name : ℕ) (may : MayUncover nodes name) (nest : IsNest p nodes) where
  abbrev node : Node
  node = (at p nodes name may nest).node

  among : IsAmong node nodes
  among = there p nodes name may nest

  named : node.name ≡ name
  named = (at p nodes name may nest).named

  abbrev vertex : ℕ
  vertex = (added p nodes name may nest node among named).0

  pushed : node.top.vertices ≡ (without_top node).top.vertices ++ vertex ∷ []
  pushed = (added p nodes name may nest node among named).1

  abbrev with_layers : List Cut → ℕ → List ℕ → Node
  with_layers below value set = record node { below = below; top = record { value = value; vertices = set } }

  raised : taller_node vertex (without_top node) ≡ node
  raised =
      ap (λ b. with_layers b 0 ((without_top node).top.vertices ++ vertex ∷ []))
      (layers p nodes name may nest node among named)
      ∙ (ap (with_layers node.below 0) (sym pushed)
      ∙ ap (λ y. with_layers node.below y node.top.vertices) (sym (bare p nodes name may nest node among named).1))

  outer_same : (x : ℕ) → is_outer (uncovered_nodes name nodes) x ≡ is_outer nodes x
  outer_same x = mapped_outer (change name without_top) (kept p nodes name may nest).children nodes x

  given_back : absorbed_nodes name vertex (uncovered_nodes name nodes) ≡ nodes
  given_back = undone name (taller_node vertex) without_top nodes each
    where
      each : (n : Node) → IsAmong n nodes → change name (taller_node vertex) (change name without_top n) ≡ n
      each n a =
          by_name (λ m. change name (taller_node vertex) m ≡ n) name without_top n
          (λ e.
          by_name (λ m. m ≡ n) name (taller_node vertex) (without_top n)
          (λ f. subst (λ m. taller_node vertex (without_top m) ≡ m)
          (same_among nodes nest.dual.names node n among a (named ∙ sym e)) raised)
          (λ other. absurd (other e)))
          (λ other. by_name (λ m. m ≡ n) name (taller_node vertex) n (λ e. absurd (other e)) (λ other. refl))

  not_held : is_in (without_top node).top.vertices vertex ≡ false
  not_held =
      false_from_ne_true (is_in (without_top node).top.vertices vertex)
      (λ held.
      both_ways (is_in (vertex ∷ []) vertex)
      (distinct_across (without_top node).top.vertices (vertex ∷ []) vertex
      (subst AreDistinct pushed (top_is_odd p nodes nest node among).distinct) held)
      (is_in-head vertex []))

  -- another outer node lies apart, and the node itself holds it no more
  not_over : (m : Node) → IsAmong m nodes → is_outer nodes m.name ≡ true
      → is_in (change name without_top m).top.vertices vertex ≡ true → ⊥
  not_over m a outer held = step (cases_eq m.name name)
    where
      step : (m.name ≡ name) ⊎ (m.name ≡ name → ⊥) → ⊥
      step (inl e) =
          both_ways (is_in (without_top node).top.vertices vertex) not_held
          (subst (λ x. is_in (without_top x).top.vertices vertex ≡ true)
          (same_among nodes nest.dual.names m node a among (e ∙ sym named))
          (by_name (λ x. is_in x.top.vertices vertex ≡ true
          → is_in (without_top m).top.vertices vertex ≡ true) name without_top m (λ same h. h)
          (λ other. absurd (other e)) held))
      step (inr other) =
          both_ways (is_in node.top.vertices vertex)
          (apart_among nodes nest.dual.names nest.dual.apart m node a among (λ same. other (same ∙ named)) outer
          (ap (is_outer nodes) named ∙ may.outer) vertex
          (by_name (λ x. is_in x.top.vertices vertex ≡ true → is_in m.top.vertices vertex ≡ true) name without_top m
          (λ e. absurd (other e))
          (λ same h. h) held))
          (ap (λ l. is_in l vertex) pushed ∙ is_in_pushed (without_top node).top.vertices vertex)

  uncovered_vertex : cover_of (uncovered_nodes name nodes) vertex ≡ None
  uncovered_vertex = no_name (cover_of (uncovered_nodes name nodes) vertex) none
    where
      none : (n : ℕ) → cover_of (uncovered_nodes name nodes) vertex ≡ Some n → ⊥
      none n cover =
          let over = cover_among (uncovered_nodes name nodes) vertex n cover in
          let (m, a, same) = among_map (change name without_top) nodes over.node over.among in
          let kept_name : over.node.name ≡ m.name =
          ap (λ x. x.name) (sym same) ∙ by_name (λ x. x.name ≡ m.name) name without_top m (λ e. refl) (λ other. refl) in
          not_over m a (sym (outer_same m.name) ∙ (ap (is_outer (uncovered_nodes name nodes)) (sym kept_name) ∙ over.outer))
          (ap (λ x. is_in x.top.vertices vertex) same ∙ over.holds)

  still_live : is_live (uncovered_nodes name nodes) name ≡ true
  still_live =
      among_live (uncovered_nodes name nodes) (change name without_top node) name (map_among (change name without_top) nodes node among)
      (by_name (λ x. x.name ≡ name) name without_top node (λ e. named) (λ other. named))

pub uncovered_back : UncoveredBack
uncovered_back p nodes name may nest = (
  vertex p nodes name may nest,
  record {
    back = given_back p nodes name may nest;
    no_defect = ap (λ l. is_in l (vertex p nodes name may nest)) (same_leaves p nodes name may nest)
        ∙ no_defect p nodes name may nest (node p nodes name may nest) (among p nodes name may nest)
        (named p nodes name may nest)
        (vertex p nodes name may nest) (pushed p nodes name may nest);
    free = uncovered_vertex p nodes name may nest;
    live = still_live p nodes name may nest;
    outer = outer_same p nodes name may nest name ∙ may.outer;
  },
)

pub uncovered_lowers : UncoveredLowers
uncovered_lowers p nodes roles name free freed may nest minus plus =
    let (v, given) = uncovered_back p nodes name may nest in
    subst (λ ns. IsLower (left_to_do p (uncovered_nodes name nodes) roles freed) (left_to_do p ns roles free)) given.back
    (uncover_lowers p (uncovered_nodes name nodes) roles name v free freed given.no_defect minus plus
    given.live given.outer given.free)

-- an uncovered vertex is no defect
pub no_leaf : (p : Problem) (nodes : List Node) (v : ℕ) → IsDual p nodes → cover_of nodes v ≡ None
    → is_in (leaves nodes) v ≡ false
no_leaf p nodes v dual none =
    false_from_ne_true (is_in (leaves nodes) v) (λ leaf. false≢true (subst IsSome none (dual.defects v leaf)))

pub absorbed_lowers : AbsorbedLowers
absorbed_lowers p nodes roles name k u v free freed limits may nest plus =
    let over = cover_among nodes u name may.covered in
    absorb_lowers p nodes roles name v free freed (no_leaf p nodes v nest.dual may.uncovered)
    (limits.real_below v may.real) plus (among_live nodes over.node name over.among over.named)
    (ap (is_outer nodes) (sym over.named) ∙ over.outer) may.uncovered

-- a branch that is taken in has a minus node
pub some_minus : (test : ℕ → Bool) (tree : List Entry) → 1 ≤ length (inner_branches test tree)
    → (m : ℕ) × (is_in (minus_names tree) m ≡ true) × (test m ≡ true)
some_minus test [] some = absurd (let none : 1 ≤ 0 = some in omega arith)
some_minus test (e ∷ es) some = step (test e.minus) refl some (some_minus test es)
  where
    Found : List Entry → Type 0
    Found tree = (m : ℕ) × (is_in (minus_names tree) m ≡ true) × (test m ≡ true)

    step : (b : Bool) → test e.minus ≡ b
        → 1 ≤ length (cond b (e ∷ inner_branches test es) (inner_branches test es))
        → (1 ≤ length (inner_branches test es) → Found es) → Found (e ∷ es)
    step true passing more rest = (e.minus, is_in-head e.minus (minus_names es), passing)
    step false other more rest =
        let (m, within, passing) = rest more in
        (m, is_in-tail e.minus (minus_names es) m within, passing)

pub joining_lowers : JoiningLowers
joining_lowers p nodes tree rest unmatched root r name base others free freed joining some fresh nest search =
    let test : ℕ → Bool = is_in (names_of (base ∷ others)) in
    let (minus, among, inner) = some_minus test tree (omega (arith, some, joining.even)) in
    let may = joining_allowed nodes tree root name base others joining some fresh in
    let named : nodes ++ blossom_of name (base ∷ others) ∷ [] ≡ joined_nodes name (names_of (base ∷ others)) nodes =
    ap (λ b. nodes ++ b ∷ []) (blossom_named nodes name (base ∷ others) nest.dual.names joining.nodes_are) in
    subst
    (λ ns. IsLower (left_to_do p ns (roles_of (renamed_name test name root) (joined_tree test name tree)) freed)
    (left_to_do p nodes (roles_of root tree) free)) named
    (joined_lowers p nodes tree rest unmatched root r name base others minus free freed joining
    (subst (IsDual p) (sym named) (nest_joined p nodes name
    (names_of (base ∷ others)) may nest).dual) search among inner)
