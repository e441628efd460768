-- A node is outer in a dual state where it is outer in the store that has the same nodes.
use Rattle.std.proofs.Common.{ℕ, ◌≡◌, ◌==◌, ◌||◌, not, Bool, true, false, List, [], ◌∷◌, map, All, Option, Some, None, is_some, refl, sym, ap, ◌∙◌, flat_map}
use Rattle.std.specs.List.{list_any}
use Rattle.std.proofs.lemmas.Bool.{both_ways, eqb-true, not-true, or_parts}
use Rattle.std.proofs.lemmas.List.Elements.{All-head, All-tail}
use Rattle.std.proofs.lemmas.List.Folds.{list_any-append}
use Rattle.fb_graph.specs.Parity.{is_in}
use Rattle.fb_graph.specs.Dual.{Node, is_live}
use Rattle.fb_links.specs.declared.cycle.CycleStep.{CycleStep}
use Rattle.fb_blossoms.specs.Nodes as blossoms
use Rattle.fb_half.specs.Agreements.{OuterInNodes, OuterInStore}
use Rattle.fb_half.specs.Translations.{children_at}

on_cycle : (cycle : List CycleStep) (name : ℕ) → is_in (map (λ s. s.node) cycle) name ≡ blossoms.is_on cycle name
on_cycle [] name = refl
on_cycle (s ∷ cycle) name = ap (λ b. (s.node == name) || b) (on_cycle cycle name)

on_none : (nodes : List Node) (store : List (Option blossoms.Node)) (name p : ℕ) → All (λ n. n.children ≡ children_at store n.name) nodes
    → list_any (λ n. is_in n.children name) nodes ≡ false → is_live nodes p ≡ true → blossoms.is_on (blossoms.cycle_at store p) name ≡ false
on_none [] store name p same none lives = absurd (both_ways (is_live [] p) refl lives)
on_none (n ∷ nodes) store name p same none lives = by_cases (on_none nodes store name p) (n.name == p) refl
  where
    by_cases : (All (λ m. m.children ≡ children_at store m.name) nodes → list_any (λ m. is_in m.children name) nodes ≡ false
        → is_live nodes p ≡ true → blossoms.is_on (blossoms.cycle_at store p) name ≡ false) → (b : Bool) → (n.name == p) ≡ b
        → blossoms.is_on (blossoms.cycle_at store p) name ≡ false
    by_cases rest true is =
        sym (on_cycle (blossoms.cycle_at store p) name)
        ∙ (ap (λ x. is_in (children_at store x) name) (sym (eqb-true n.name p is))
        ∙ (ap (λ l. is_in l name) (sym (All-head (λ m. m.children ≡ children_at store m.name) n nodes same))
        ∙ (or_parts (is_in n.children name) (list_any (λ m. is_in m.children name) nodes) none).0))
    by_cases rest false is =
        rest (All-tail (λ m. m.children ≡ children_at store m.name) n nodes same)
        (or_parts (is_in n.children name) (list_any (λ m. is_in m.children name) nodes) none).1
        (sym (ap (λ b. b || is_live nodes p) is) ∙ lives)

pub outer_in_store : OuterInStore
outer_in_store nodes store name agreed outer p = by_cases (is_live nodes p) refl
  where
    dead : (o : Option blossoms.Node) → is_some o ≡ false → blossoms.is_on (blossoms.cycle_of o) name ≡ false
    dead None h = refl
    dead (Some n) h = absurd (both_ways true h refl)

    by_cases : (b : Bool) → is_live nodes p ≡ b → blossoms.is_on (blossoms.cycle_at store p) name ≡ false
    by_cases true is =
        on_none nodes store name p agreed.children (not-true (list_any (λ n. is_in n.children name) nodes) outer) is
    by_cases false is = dead (blossoms.node_at store p) (sym (agreed.live p) ∙ is)

none_on : (nodes : List Node) (store : List (Option blossoms.Node)) (name : ℕ) → All (λ n. n.children ≡ children_at store n.name) nodes
    → blossoms.IsOuter store name → list_any (λ n. is_in n.children name) nodes ≡ false
none_on [] store name same outer = refl
none_on (n ∷ nodes) store name same outer =
    ap (λ b. b || list_any (λ m. is_in m.children name) nodes)
    (ap (λ l. is_in l name) (All-head (λ m. m.children ≡ children_at store m.name) n nodes same)
    ∙ (on_cycle (blossoms.cycle_at store n.name) name ∙ outer n.name))
    ∙ none_on nodes store name (All-tail (λ m. m.children ≡ children_at store m.name) n nodes same) outer

pub outer_in_nodes : OuterInNodes
outer_in_nodes nodes store name agreed outer = ap not (none_on nodes store name agreed.children outer)

-- what is in the lists along a cycle is in those of its nodes' names
pub along_any : (held : ℕ → List ℕ) (ss : List CycleStep) (d : ℕ)
    → is_in (flat_map (λ s. held s.node) ss) d ≡ list_any (λ c. is_in (held c) d) (map (λ s. s.node) ss)
along_any held [] d = refl
along_any held (s ∷ ss) d =
    list_any-append (λ u. u == d) (held s.node) (flat_map (λ s. held s.node) ss)
    ∙ ap (λ b. is_in (held s.node) d || b) (along_any held ss d)
