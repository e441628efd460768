-- A node with a vertex more leaves the loads, the potentials and the nodes over all other vertices as they were.
use Rattle.std.proofs.Common.{ℕ, ◌≡◌, ◌+◌, ◌==◌, ◌&&◌, ◌||◌, not, Bool, true, false, cond, List, ◌∷◌, ◌++◌, Option, Some, refl, sym, ap, ◌∙◌, arith, []}
use Rattle.std.proofs.Math.Bool.{or-false}
use Rattle.std.specs.List.{find, list_any}
use Rattle.std.specs.Option.{option_map}
use Rattle.std.proofs.lemmas.Bool.{both_ways, eqb-true, false_from_ne_true}
use Rattle.std.proofs.lemmas.List.Sums.{sum_by-append}
use Rattle.fb_graph.specs.Parity.{is_in}
use Rattle.fb_graph.specs.Problem.{crosses}
use Rattle.fb_graph.specs.Dual.{Node, all_cuts, leaves, is_outer, layers_of, defects_of, change_at, taller_node}
use Rattle.fb_graph.specs.declared.parts.Cut.{Cut}
use Rattle.fb_graph.proofs.CutSums.{weigh, weigh-taller_node}
use Rattle.fb_graph.proofs.Members.{is_in_push}
use Rattle.fb_graph.proofs.Nodes.{defects_of-taller_node}
use Rattle.fb_graph.specs.Alike.{TallerAlike, TallerCovers}

weigh_pieces : (test : List ℕ → Bool) (n : Node) (ns : List Node) → weigh test (all_cuts (n ∷ ns)) ≡ weigh test (layers_of n) + weigh test (all_cuts ns)
weigh_pieces test n ns = sum_by-append (λ (c : Cut). cond (test c.vertices) c.value 0) (layers_of n) (all_cuts ns)

weigh_changed : (test : List ℕ → Bool) (name v : ℕ) (nodes : List Node) → weigh test (all_cuts (change_at name (taller_node v) nodes)) ≡ weigh test (all_cuts nodes)
weigh_changed test name v [] = refl
weigh_changed test name v (n ∷ ns) =
    omega (
      arith,
      weigh_pieces test (cond (n.name == name) (taller_node v n) n) (change_at name (taller_node v) ns),
      weigh_pieces test n ns,
      weigh_changed test name v ns,
      one (n.name == name),
    )
  where
    one : (b : Bool) → weigh test (layers_of (cond b (taller_node v n) n)) ≡ weigh test (layers_of n)
    one true = weigh-taller_node test v n
    one false = refl

pub leaves_taller : (name v : ℕ) (nodes : List Node) → leaves (change_at name (taller_node v) nodes) ≡ leaves nodes
leaves_taller name v [] = refl
leaves_taller name v (n ∷ ns) =
    ap (λ l. l ++ leaves (change_at name (taller_node v) ns)) (one (n.name == name)) ∙ ap (λ l. defects_of n ++ l) (leaves_taller name v ns)
  where
    one : (b : Bool) → defects_of (cond b (taller_node v n) n) ≡ defects_of n
    one true = defects_of-taller_node v n
    one false = refl

pub outer_taller : (name v n : ℕ) (nodes : List Node) → is_outer (change_at name (taller_node v) nodes) n ≡ is_outer nodes n
outer_taller name v n nodes = ap not (same nodes)
  where
    one : (b : Bool) (m : Node) → (cond b (taller_node v m) m).children ≡ m.children
    one true m = refl
    one false m = refl

    same : (ns : List Node) → list_any (λ m. is_in m.children n) (change_at name (taller_node v) ns) ≡ list_any (λ m. is_in m.children n) ns
    same [] = refl
    same (m ∷ ms) =
        ap (λ l. is_in l n || list_any (λ x. is_in x.children n) (change_at name (taller_node v) ms)) (one (m.name == name) m)
        ∙ ap (λ b. is_in m.children n || b) (same ms)

abbrev pub name_found : (ℕ → Bool) → ℕ → List Node → Option ℕ
name_found outer u ns = option_map (λ n. n.name) (find (λ n. outer n.name && is_in n.top.vertices u) ns)

found_same : (outer other : ℕ → Bool) → ((n : ℕ) → outer n ≡ other n) → (name v u : ℕ) → (v == u) ≡ false → (ns : List Node)
    → name_found outer u (change_at name (taller_node v) ns) ≡ name_found other u ns
found_same outer other alike name v u differs [] = refl
found_same outer other alike name v u differs (n ∷ ns) = step (n.name == name) (found_same outer other alike name v u differs ns)
  where
    old : Node → Bool
    old m = outer m.name && is_in m.top.vertices u

    new : Node → Bool
    new m = other m.name && is_in m.top.vertices u

    pick : (b : Bool) (m : Node) → m.name ≡ n.name → name_found outer u (change_at name (taller_node v) ns) ≡ name_found other u ns
        → option_map (λ x. x.name) (cond b (Some m) (find old (change_at name (taller_node v) ns)))
        ≡ option_map (λ x. x.name) (cond b (Some n) (find new ns))
    pick true m named ih = ap Some named
    pick false m named ih = ih

    step : (b : Bool) → name_found outer u (change_at name (taller_node v) ns) ≡ name_found other u ns
        → option_map (λ x. x.name) (cond (old (cond b (taller_node v n) n)) (Some (cond b (taller_node v n) n)) (find old (change_at name (taller_node v) ns)))
        ≡ option_map (λ x. x.name) (cond (new n) (Some n) (find new ns))
    step true ih =
        ap (λ c. option_map (λ x. x.name) (cond (c && is_in (n.top.vertices ++ v ∷ []) u) (Some (taller_node v n)) (find old (change_at name (taller_node v) ns)))) (alike n.name)
        ∙ (ap (λ c. option_map (λ x. x.name) (cond (other n.name && c) (Some (taller_node v n)) (find old (change_at name (taller_node v) ns))))
        (is_in_push n.top.vertices v u ∙ (ap (λ c. is_in n.top.vertices u || c) differs ∙ or-false (is_in n.top.vertices u)))
        ∙ pick (new n) (taller_node v n) refl ih)
    step false ih =
        ap (λ c. option_map (λ x. x.name) (cond (c && is_in n.top.vertices u) (Some n) (find old (change_at name (taller_node v) ns)))) (alike n.name)
        ∙ pick (new n) n refl ih

pub taller_covers : TallerCovers
taller_covers nodes name v u differs =
    found_same (is_outer (change_at name (taller_node v) nodes)) (is_outer nodes) (λ n. outer_taller name v n nodes) name v u differs nodes

pub taller_alike : TallerAlike
taller_alike nodes name v no_leaf = (
  record {
    defects = leaves_taller name v nodes;
    loads = λ e. weigh_changed (λ s. crosses s e) name v nodes;
    heights = λ u. weigh_changed (λ s. is_in s u) name v nodes;
    covers = λ d leaf. taller_covers nodes name v d (other d leaf);
  },
  record {
    defects = sym (leaves_taller name v nodes);
    loads = λ e. sym (weigh_changed (λ s. crosses s e) name v nodes);
    heights = λ u. sym (weigh_changed (λ s. is_in s u) name v nodes);
    covers = λ d leaf. sym (taller_covers nodes name v d (other d (ap (λ l. is_in l d) (sym (leaves_taller name v nodes)) ∙ leaf)));
  },
)
  where
    other : (d : ℕ) → is_in (leaves nodes) d ≡ true → (v == d) ≡ false
    other d leaf =
        false_from_ne_true (v == d) (λ same. both_ways (is_in (leaves nodes) v) no_leaf (ap (is_in (leaves nodes)) (eqb-true v d same) ∙ leaf))
