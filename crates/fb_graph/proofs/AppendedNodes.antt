-- Nodes beside others: their cuts, leaves and names, and which of them are outer.
use Rattle.std.proofs.Common.{ℕ, ◌≡◌, ◌⊎◌, inl, inr, Bool, true, false, List, ◌∷◌, ◌++◌, map, refl, sym, ap, ◌∙◌, []}
use Rattle.std.specs.List.{list_any}
use Rattle.std.proofs.lemmas.Bool.{or_parts, not-true, not_from_false}
use Rattle.std.proofs.lemmas.List.Concat.{flat_map-append}
use Rattle.std.proofs.lemmas.List.Folds.{list_any-append}
use Rattle.fb_graph.specs.Parity.{is_in}
use Rattle.fb_graph.specs.Dual.{Node, all_cuts, layers_of, leaves, defects_of, is_outer, is_live}
use Rattle.fb_graph.proofs.Among.{IsAmong, among_either, among_outer, outer_among, among_left, among_right, among_live, live_among}

pub cuts_merged : (nodes others : List Node) → all_cuts (nodes ++ others) ≡ all_cuts nodes ++ all_cuts others
cuts_merged nodes others = flat_map-append layers_of nodes others

pub leaves_merged : (nodes others : List Node) → leaves (nodes ++ others) ≡ leaves nodes ++ leaves others
leaves_merged nodes others = flat_map-append defects_of nodes others

-- an outer node of both lists is one of each that has it
pub outer_in : (nodes others : List Node) (name : ℕ) → is_outer (nodes ++ others) name ≡ true
    → (is_outer nodes name ≡ true) × (is_outer others name ≡ true)
outer_in nodes others name outer =
    let parts = or_parts (list_any has nodes) (list_any has others) (sym (list_any-append has nodes others) ∙ not-true _ outer) in
    (not_from_false _ parts.0, not_from_false _ parts.1)
  where
    has : Node → Bool
    has n = is_in n.children name

-- and one that both have as an outer name
pub outer_both : (nodes others : List Node) (n : ℕ) → is_outer nodes n ≡ true → is_outer others n ≡ true
    → is_outer (nodes ++ others) n ≡ true
outer_both nodes others n one other =
    among_outer (nodes ++ others) n (λ q a. by q (among_either nodes others q a))
  where
    by : (q : Node) → IsAmong q nodes ⊎ IsAmong q others → is_in q.children n ≡ false
    by q (inl a) = outer_among nodes n one q a
    by q (inr a) = outer_among others n other q a

pub names_merged : (nodes others : List Node) → map (λ n. n.name) (nodes ++ others) ≡ map (λ n. n.name) nodes ++ map (λ n. n.name) others
names_merged [] others = refl
names_merged (n ∷ ns) others = ap (λ l. n.name ∷ l) (names_merged ns others)

-- a live name of either list is one of both
pub live_left : (nodes others : List Node) (n : ℕ) → is_live nodes n ≡ true → is_live (nodes ++ others) n ≡ true
live_left nodes others n live =
    let (m, a, named) = live_among nodes n live in among_live (nodes ++ others) m n (among_left nodes others m a) named

pub live_right : (nodes others : List Node) (n : ℕ) → is_live others n ≡ true → is_live (nodes ++ others) n ≡ true
live_right nodes others n live =
    let (m, a, named) = live_among others n live in among_live (nodes ++ others) m n (among_right nodes others m a) named
