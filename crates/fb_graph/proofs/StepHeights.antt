-- What a step does to potentials, and what it leaves.
use Rattle.std.proofs.Common.{ℕ, ◌≡◌, ◌*◌, ◌&&◌, ◌||◌, Bool, true, false, not, cond, List, [], ◌∷◌, ◌++◌, Some, refl, ap, ◌∙◌, arith, if◌then◌else◌}
use Rattle.std.specs.List.{find, list_any}
use Rattle.std.specs.Option.{option_map}
use Rattle.fb_graph.specs.Parity.{is_in}
use Rattle.fb_graph.specs.declared.parts.Cut.{Cut}
use Rattle.fb_graph.specs.Dual.{Node, leaves, defects_of, first_vertices, is_empty, is_outer}
use Rattle.fb_graph.specs.Steps.{Roles, stepped_nodes, stepped_node}
use Rattle.fb_graph.specs.Covers.{CoverStepped, LeavesStepped, HeightStepped}
use Rattle.fb_graph.proofs.StepLoads.{weigh_stepped}
use Rattle.fb_graph.proofs.Crossings.{count_by_cover}

pub outer_stepped : (roles : Roles) (nodes : List Node) (k name : ℕ) → is_outer (stepped_nodes roles k nodes) name ≡ is_outer nodes name
outer_stepped roles nodes k name = ap not (same nodes)
  where
    same : (ns : List Node) → list_any (λ n. is_in n.children name) (stepped_nodes roles k ns) ≡ list_any (λ n. is_in n.children name) ns
    same [] = refl
    same (n ∷ ns) = ap (λ b. is_in n.children name || b) (same ns)

find_stepped : (roles : Roles) (k v : ℕ) (outer other : ℕ → Bool) → ((name : ℕ) → outer name ≡ other name) → (ns : List Node)
    → option_map (λ n. n.name) (find (λ n. outer n.name && is_in n.top.vertices v) (stepped_nodes roles k ns))
    ≡ option_map (λ n. n.name) (find (λ n. other n.name && is_in n.top.vertices v) ns)
find_stepped roles k v outer other same [] = refl
find_stepped roles k v outer other same (n ∷ ns) =
    ap (λ b. option_map (λ m. m.name) (cond (b && is_in n.top.vertices v) (Some (stepped_node roles k n)) (find old (stepped_nodes roles k ns))))
    (same n.name)
    ∙ step (other n.name && is_in n.top.vertices v) (find_stepped roles k v outer other same ns)
  where
    old : Node → Bool
    old m = outer m.name && is_in m.top.vertices v

    new : Node → Bool
    new m = other m.name && is_in m.top.vertices v

    step : (b : Bool)
        → option_map (λ m. m.name) (find old (stepped_nodes roles k ns)) ≡ option_map (λ m. m.name) (find new ns)
        → option_map (λ m. m.name) (cond b (Some (stepped_node roles k n)) (find old (stepped_nodes roles k ns)))
        ≡ option_map (λ m. m.name) (cond b (Some n) (find new ns))
    step true ih = refl
    step false ih = ih

pub cover_stepped : CoverStepped
cover_stepped roles nodes k v =
    find_stepped roles k v (is_outer (stepped_nodes roles k nodes)) (is_outer nodes) (outer_stepped roles nodes k) nodes

pub leaves_stepped : LeavesStepped
leaves_stepped roles [] k = refl
leaves_stepped roles (n ∷ ns) k =
    ap (λ l. l ++ leaves (stepped_nodes roles k ns)) (ap (λ l. if is_empty n.children then l else []) (first n.below))
    ∙ ap (λ l. defects_of n ++ l) (leaves_stepped roles ns k)
  where
    first : (below : List Cut) → first_vertices (below ++ (stepped_node roles k n).top ∷ []) ≡ first_vertices (below ++ n.top ∷ [])
    first [] = refl
    first (c ∷ cs) = refl

pub height_stepped : HeightStepped
height_stepped roles nodes k v apart are low =
    omega (
      arith,
      weigh_stepped roles nodes k (λ s. is_in s v) are.exclusive low,
      ap (λ m. k * m) (count_by_cover roles.is_plus nodes v apart are.plus),
      ap (λ m. k * m) (count_by_cover roles.is_minus nodes v apart are.minus),
    )
