-- Looks at an edge by the nodes that hold its ends.
use Rattle.std.proofs.Common.{ℕ, ◌≡◌, Bool, true, false, List, Option, Some, None, refl, sym, ap, ◌∙◌, arith}
use Rattle.std.specs.Prelude.{MatchOption}
use Rattle.std.proofs.lemmas.Bool.{eqb-true, false≢true}
use Rattle.fb_graph.specs.Problem.{Problem, edge_at}
use Rattle.fb_graph.specs.Dual.{AreUnderOne, Node, cover_of}
use Rattle.fb_graph.specs.declared.parts.Edge.{Edge}
use Rattle.fb_regions.specs.declared.roles.Role.{Role}
use Rattle.fb_obstacles.specs.declared.ends.HolderPair.{HolderPair}
use Rattle.fb_obstacles.specs.declared.looking.Look.{Look}
use Rattle.fb_obstacles.specs.Obstacles.{residue_at}
use Rattle.fb_obstacles.specs.InnerEdges.{is_inner, is_one_node}
use Rattle.fb_obstacles.specs.InternalLooks.{AreEnds, cover_at, edge_look, far_by, far_end, look_if, node_by, residue_by}

-- the names are of one node only where one name is both
pub same_node : (a b : Option ℕ) → is_one_node a b ≡ true → (name : ℕ) × (a ≡ Some name) × (b ≡ Some name)
same_node (Some m) (Some n) same = (m, refl, ap (λ x. Some x) (sym (eqb-true m n same)))
same_node (Some m) None same = absurd (false≢true same)
same_node None b same = absurd (false≢true same)

-- the edge is inner where one node holds both known ends
pub inner_by_ends : (nodes : List Node) (e : Edge) (ends : HolderPair) (inner : Bool) → AreEnds nodes e ends
    → inner ≡ is_one_node (node_by ends.first) (node_by ends.second) → inner ≡ true → is_inner nodes e ≡ true
inner_by_ends nodes e ends inner known is holds = rw (← known.first.node, ← known.second.node) (sym is ∙ holds)

-- and isn't where they aren't under one
pub apart_by_ends : (nodes : List Node) (e : Edge) (ends : HolderPair) (inner : Bool) → AreEnds nodes e ends
    → inner ≡ is_one_node (node_by ends.first) (node_by ends.second) → inner ≡ false → is_inner nodes e ≡ false
apart_by_ends nodes e ends inner known is not_one = rw (← known.first.node, ← known.second.node) (sym is ∙ not_one)

-- the weight less the potentials of the known ends is the residue of the edge
pub residue_by_ends : (p : Problem) (nodes : List Node) (k weight x : ℕ) (ends : HolderPair)
    → AreEnds nodes (edge_at p.edges k) ends → weight ≡ (edge_at p.edges k).weight
    → x ≡ residue_by ends weight → x ≡ residue_at p nodes k
residue_by_ends p nodes k weight x ends known weighs is =
    omega (arith, is, weighs, known.first.potential, known.second.potential)

-- what a plus node grows towards, by the known ends
far_by_ends : (p : Problem) (role_of : ℕ → Role) (nodes : List Node) (e : Edge) (ends : HolderPair) → AreEnds nodes e ends
    → far_by p role_of e ends ≡ far_end (cover_at p role_of nodes e.first) (cover_at p role_of nodes e.second)
far_by_ends p role_of nodes e ends known = rw (known.first.node, known.second.node) refl

-- a look by the known ends and the residue is a look at the edge
pub look_by_ends : (p : Problem) (role_of : ℕ → Role) (nodes : List Node) (k x : ℕ) (ends : HolderPair) (l : Look)
    → AreEnds nodes (edge_at p.edges k) ends → x ≡ residue_at p nodes k
    → l ≡ look_if (far_by p role_of (edge_at p.edges k) ends) x k → l ≡ edge_look p role_of nodes k
look_by_ends p role_of nodes k x ends l known residue is =
    let e : Edge = edge_at p.edges k in
    is
    ∙ ap (λ y. look_if (far_by p role_of e ends) y k) residue
    ∙ ap (λ far. look_if far (residue_at p nodes k) k) (far_by_ends p role_of nodes e ends known)

-- the same by the edge's weight
pub by_known_ends : (p : Problem) (role_of : ℕ → Role) (nodes : List Node) (k weight x : ℕ) (ends : HolderPair) (l : Look)
    → AreEnds nodes (edge_at p.edges k) ends → weight ≡ (edge_at p.edges k).weight → x ≡ residue_by ends weight
    → l ≡ look_if (far_by p role_of (edge_at p.edges k) ends) x k → l ≡ edge_look p role_of nodes k
by_known_ends p role_of nodes k weight x ends l known weighs residue is =
    look_by_ends p role_of nodes k x ends l known (residue_by_ends p nodes k weight x ends known weighs residue) is

-- a look that says nothing of an inner edge, which is under one node
pub look_or_one : (p : Problem) (role_of : ℕ → Role) (nodes : List Node) (k : ℕ) (found : Option Look)
    → MatchOption found (is_inner nodes (edge_at p.edges k) ≡ true)
    (λ l. (l ≡ edge_look p role_of nodes k) × (is_inner nodes (edge_at p.edges k) ≡ false))
    → MatchOption found (AreUnderOne nodes (edge_at p.edges k).first (edge_at p.edges k).second)
    (λ l. (l ≡ edge_look p role_of nodes k) × (is_inner nodes (edge_at p.edges k) ≡ false))
look_or_one p role_of nodes k None is =
    same_node (cover_of nodes (edge_at p.edges k).first) (cover_of nodes (edge_at p.edges k).second) is
look_or_one p role_of nodes k (Some l) is = is
