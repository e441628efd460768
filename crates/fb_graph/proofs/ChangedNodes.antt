-- The node of a name changed in its layers.
use Rattle.std.proofs.Common.{ℕ, suc, ◌≡◌, ◌-◌, ◌≤◌, ◌==◌, inl, Bool, true, false, List, [], ◌∷◌, ◌++◌, length, get_or, take, refl, sym, ap, ◌∙◌, subst, arith, if◌then◌else◌}
use Rattle.std.proofs.lemmas.Bool.{both_ways, eqb-true, eqb-false}
use Rattle.fb_graph.specs.Dual.{Node, AreGrown, first_vertices, is_outer, taller_node}
use Rattle.fb_graph.specs.declared.parts.Cut.{Cut}
use Rattle.fb_graph.specs.Nests.{first_set}
use Rattle.fb_graph.proofs.Among.{IsAmong, among_All, among_right}
use Rattle.fb_graph.proofs.MappedNodes.{AreKept}
use Rattle.fb_graph.proofs.Places.{IsPlaced}

abbrev pub change : ℕ → (Node → Node) → Node → Node
change name g n = if n.name == name then g n else n

-- a fact of a changed node, from that of the named one and that of any other
pub by_name : (P : Node → Type 0) (name : ℕ) (g : Node → Node) (n : Node) → (n.name ≡ name → P (g n)) → ((n.name ≡ name → ⊥) → P n) → P (change name g n)
by_name P name g n named other = step (n.name == name) refl
  where
    step : (b : Bool) → (n.name == name) ≡ b → P (if b then g n else n)
    step true e = named (eqb-true n.name name e)
    step false e = other (eqb-false n.name name e)

pub kept_by : (name : ℕ) (g : Node → Node) (nodes : List Node) → ((n : Node) → (g n).name ≡ n.name) → ((n : Node) → (g n).children ≡ n.children)
    → ((n : Node) → IsAmong n nodes → n.name ≡ name → first_set (g n) ≡ first_set n) → is_outer nodes name ≡ true → AreKept (change name g) nodes
kept_by name g nodes names children first outer = record {
  name = λ n. by_name (λ m. m.name ≡ n.name) name g n (λ e. names n) (λ other. refl);
  children = λ n. by_name (λ m. m.children ≡ n.children) name g n (λ e. children n) (λ other. refl);
  first = among_All (λ n. first_set (change name g n) ≡ first_set n) nodes
      (λ n a. by_name (λ m. first_set m ≡ first_set n) name g n (first n a) (λ other. refl));
  inner = among_All (λ n. is_outer nodes n.name ≡ false → (change name g n).top.vertices ≡ n.top.vertices) nodes
      (λ n a inner.
      by_name (λ m. m.top.vertices ≡ n.top.vertices) name g n
      (λ e. absurd (both_ways (is_outer nodes n.name) inner (ap (is_outer nodes) e ∙ outer))) (λ other. refl));
}

pub placed_among : (nodes : List Node) (name : ℕ) (at : IsPlaced nodes name) → IsAmong at.node nodes
placed_among nodes name at = subst (IsAmong at.node) (sym at.whole) (among_right at.before (at.node ∷ at.after) at.node (inl refl))

-- a further layer between those before and those after
pub layer_between : (before layers after : List Cut) (c : Cut) → before ++ ((layers ++ c ∷ []) ++ after) ≡ (before ++ layers) ++ c ∷ after
layer_between [] layers after c = tail layers
  where
    tail : (cs : List Cut) → (cs ++ c ∷ []) ++ after ≡ cs ++ c ∷ after
    tail [] = refl
    tail (x ∷ xs) = ap (λ l. x ∷ l) (tail xs)
layer_between (b ∷ bs) layers after c = ap (λ l. b ∷ l) (layer_between bs layers after c)

pub regrouped : (before layers after : List Cut) → before ++ (layers ++ after) ≡ (before ++ layers) ++ after
regrouped [] layers after = refl
regrouped (b ∷ bs) layers after = ap (λ l. b ∷ l) (regrouped bs layers after)

pub first_taller : (v : ℕ) (n : Node) → first_set (taller_node v n) ≡ first_set n
first_taller v n = by n.below
  where
    by : (below : List Cut) → first_vertices ((below ++ n.top ∷ []) ++ (taller_node v n).top ∷ []) ≡ first_vertices (below ++ n.top ∷ [])
    by [] = refl
    by (c ∷ cs) = refl

pub last_split : (xs : List Cut) (d : Cut) → 1 ≤ length xs → take (length xs - 1) xs ++ get_or xs (length xs - 1) d ∷ [] ≡ xs
last_split [] d h = absurd (let k : 1 ≤ 0 = h in omega arith)
last_split (x ∷ []) d h = refl
last_split (x ∷ y ∷ ys) d h =
    let e : length (x ∷ y ∷ ys) - 1 ≡ suc (length (y ∷ ys) - 1) = omega arith in
    rw e (ap (λ l. x ∷ l) (last_split (y ∷ ys) d (omega arith)))

pub first_below : (below : List Cut) (top : Cut) → 1 ≤ length below → first_vertices (below ++ top ∷ []) ≡ first_vertices below
first_below [] top h = absurd (let k : 1 ≤ 0 = h in omega arith)
first_below (c ∷ cs) top h = refl

pub grown_below : (below : List Cut) (top : Cut) → AreGrown (below ++ top ∷ []) → AreGrown below
grown_below [] top h = tt
grown_below (c ∷ []) top h = (tt, tt)
grown_below (c ∷ d ∷ ds) top h = (h.0, grown_below (d ∷ ds) top h.1)

pub grown_last : (more : List Cut) (last top : Cut) → AreGrown ((more ++ last ∷ []) ++ top ∷ []) → (x : ℕ) × (top.vertices ≡ last.vertices ++ x ∷ [])
grown_last [] last top h = h.0
grown_last (c ∷ []) last top h = grown_last [] last top h.1
grown_last (c ∷ d ∷ ds) last top h = grown_last (d ∷ ds) last top h.1
