-- A nest taken apart and put together.
use Rattle.std.proofs.Common.{ℕ, ◌≡◌, ◌==◌, ◌||◌, inl, inr, true, false, List, [], ◌∷◌, map, All, refl, ap, ◌∙◌}
use Rattle.std.proofs.lemmas.Bool.{both_ways}
use Rattle.std.proofs.lemmas.List.Elements.{All-head, All-tail}
use Rattle.fb_graph.specs.Parity.{is_in}
use Rattle.fb_graph.specs.Problem.{Problem, with_defects}
use Rattle.fb_graph.specs.Certificate.{AreDistinct, IsOddCut}
use Rattle.fb_graph.specs.Dual.{Node, IsDual, AreOuterApart, all_cuts, is_empty, leaves, is_live}
use Rattle.fb_graph.proofs.Sets.{member_of_odd}
use Rattle.fb_graph.specs.Nests.{IsNest, IsFormed, AreMany, HasSources}
use Rattle.fb_graph.specs.Moves.{MaySplit}
use Rattle.fb_graph.proofs.Among.{IsAmong, All_among}
use Rattle.fb_graph.proofs.Forests.{IsGrove, dual_of, tops_odd}
use Rattle.fb_graph.proofs.InsertedCuts.{AreFit}

pub grove_of : (p : Problem) (nodes : List Node) → IsNest p nodes → IsGrove nodes
grove_of p nodes nest = record { names = nest.dual.names; grown = nest.dual.grown; forest = nest.forest }

pub fit_of : (p : Problem) (nodes : List Node) → IsNest p nodes → AreFit p (leaves nodes) (all_cuts nodes)
fit_of p nodes nest = record {
  packing = nest.dual.packing;
  laminar = nest.dual.laminar;
  held = nest.dual.held;
  total = nest.dual.total;
  differ = nest.differ;
}

pub nest_of : (p : Problem) (nodes : List Node) → AreFit p (leaves nodes) (all_cuts nodes) → IsGrove nodes → AreOuterApart nodes
    → AreDistinct (leaves nodes) → All (λ n. HasSources nodes n.top.vertices) nodes → IsNest p nodes
nest_of p nodes fit grove apart defects sources = record {
  dual = dual_of p nodes (record {
    packing = fit.packing;
    laminar = fit.laminar;
    held = fit.held;
    total = fit.total;
    grove = grove;
    apart = apart;
    sources = sources;
  });
  forest = grove.forest;
  defects = defects;
  sources = sources;
  differ = fit.differ;
}

pub top_is_odd : (p : Problem) (nodes : List Node) → IsNest p nodes → (m : Node) → IsAmong m nodes → IsOddCut (with_defects p (leaves nodes)) m.top
top_is_odd p nodes nest = tops_odd (with_defects p (leaves nodes)) nodes nest.dual.packing.odd

-- a node holds a defect
pub top_holds : (p : Problem) (nodes : List Node) → IsNest p nodes → (m : Node) → IsAmong m nodes → (v : ℕ) × (is_in m.top.vertices v ≡ true)
top_holds p nodes nest m a =
    let (v, within, leaf) = member_of_odd (is_in (leaves nodes)) m.top.vertices (top_is_odd p nodes nest m a).odd in
    (v, within)

-- a node's top set has the source of each of its vertices
pub sources_at : (p : Problem) (nodes : List Node) → IsNest p nodes → (n : Node) → IsAmong n nodes → HasSources nodes n.top.vertices
sources_at p nodes nest n a = All_among (λ m. HasSources nodes m.top.vertices) nodes nest.sources n a

-- a node that joins others joins an odd number of at least three
pub joins_many : (p : Problem) (nodes : List Node) → IsNest p nodes → (n : Node) → IsAmong n nodes → is_empty n.children ≡ false
    → AreMany n.children
joins_many p nodes nest n a some = step (All_among IsFormed nodes nest.forest.formed n a)
  where
    step : IsFormed n → AreMany n.children
    step (inl childless) = absurd (both_ways (is_empty n.children) some (ap is_empty childless.none))
    step (inr many) = many

-- the node that may be split joins others, and has one layer, of value 0
pub split_is_bare : (nodes : List Node) (name : ℕ) → MaySplit nodes name → (n : Node) → IsAmong n nodes → n.name ≡ name
    → (is_empty n.children ≡ false) × (n.below ≡ []) × (n.top.value ≡ 0)
split_is_bare nodes name may =
    All_among (λ n. n.name ≡ name → (is_empty n.children ≡ false) × (n.below ≡ []) × (n.top.value ≡ 0)) nodes may.bare

-- the defects of a dual state are real
pub leaf_real : (p : Problem) (nodes : List Node) (v : ℕ) → IsDual p nodes → is_in (leaves nodes) v ≡ true → p.is_real v ≡ true
leaf_real p nodes v dual leaf = dual.real v (dual.defects v leaf)

pub names_live : (ns : List Node) (name : ℕ) → is_in (map (λ n. n.name) ns) name ≡ is_live ns name
names_live [] name = refl
names_live (n ∷ ns) name = ap (λ b. (n.name == name) || b) (names_live ns name)

pub map_agree : {X Y : Type 0} (f g : X → Y) (xs : List X) → All (λ x. f x ≡ g x) xs → map f xs ≡ map g xs
map_agree f g [] h = refl
map_agree {X} f g (x ∷ xs) h =
    ap (λ y. y ∷ map f xs) (All-head (λ (z : X). f z ≡ g z) x xs h) ∙ ap (λ l. g x ∷ l) (map_agree f g xs (All-tail (λ (z : X). f z ≡ g z) x xs h))
