-- The top layer of a node.
use Rattle.std.proofs.Common.{ℕ, ◌≡◌, ◌==◌, ◌||◌, Bool, cond, true, false, List, [], ◌∷◌, All}
use Rattle.std.proofs.lemmas.Bool.{false≢true}
use Rattle.std.proofs.lemmas.List.Elements.{All-head, All-tail, All-weaker}
use Rattle.fb_graph.specs.Problem.{Problem, with_defects}
use Rattle.fb_graph.specs.Certificate.{IsOddCut}
use Rattle.fb_graph.specs.Dual.{Node, all_cuts, is_live, layers_of, leaves, top_at}
use Rattle.fb_graph.specs.Nests.{IsNest}
use Rattle.fb_graph.proofs.Nodes.{All-pieces, All-top}

-- what holds of all cuts holds of the node's top one
top_of_all : (P : List ℕ → Type 0) (nodes : List Node) (name : ℕ) → is_live nodes name ≡ true
    → All (λ n. All (λ c. P c.vertices) (layers_of n)) nodes → P (top_at nodes name)
top_of_all P [] name live all = absurd (false≢true live)
top_of_all P (n ∷ ns) name live all =
    by (n.name == name) live
    (λ l. top_of_all P ns name l (All-tail (λ m. All (λ c. P c.vertices) (layers_of m)) n ns all))
  where
    by : (b : Bool) → (b || is_live ns name) ≡ true → (is_live ns name ≡ true → P (top_at ns name))
        → P (cond b n.top.vertices (top_at ns name))
    by true l rest = All-top (λ c. P c.vertices) n.below n.top (All-head (λ m. All (λ c. P c.vertices) (layers_of m)) n ns all)
    by false l rest = rest l

-- the vertices of a node are real
pub top_real : (p : Problem) (nodes : List Node) (name : ℕ) → IsNest p nodes → is_live nodes name ≡ true
    → All (λ v. p.is_real v ≡ true) (top_at nodes name)
top_real p nodes name nest live =
    top_of_all (λ vs. All (λ v. p.is_real v ≡ true) vs) nodes name live
    (All-pieces (λ c. All (λ v. p.is_real v ≡ true) c.vertices) layers_of nodes (All-weaker (IsOddCut (with_defects p (leaves nodes))) (λ c. All (λ v. p.is_real v ≡ true) c.vertices)
    (λ c odd. odd.real) (all_cuts nodes) nest.dual.packing.odd))
