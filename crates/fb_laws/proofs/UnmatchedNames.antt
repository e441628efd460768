-- Outer names stay outer.
use Rattle.std.proofs.Common.{ℕ, ◌≡◌, ◌⊎◌, inl, inr, true, false, List, [], ◌∷◌, ◌++◌, map, refl, sym, ap, ◌∙◌}
use Rattle.std.proofs.lemmas.Bool.{both_ways, false_from_ne_true, cases_eq, or_cases}
use Rattle.fb_graph.specs.Parity.{is_in}
use Rattle.fb_graph.specs.Dual.{Node, is_outer, taller_node}
use Rattle.fb_graph.proofs.Members.{is_in-append}
use Rattle.fb_graph.specs.Steps.{stepped_node}
use Rattle.fb_graph.specs.Singles.{nodes_of}
use Rattle.fb_graph.specs.Moves.{blossom, joined_nodes, split_nodes, without_top}
use Rattle.fb_laws.specs.UnmatchedNames.{OuterBegin, OuterFewer, OuterStepped, OuterAbsorbed, OuterUncovered, OuterSplit, OuterJoined, OuterBeside, OuterSinglesAdded, NoChildUnmatched}
use Rattle.fb_graph.proofs.Among.{IsAmong, among_either, among_right, outer_among, among_outer}
use Rattle.fb_graph.proofs.AppendedNodes.{outer_both}
use Rattle.fb_graph.proofs.ChangedNodes.{change, by_name}
use Rattle.fb_graph.proofs.Forests.{absent_outer}
use Rattle.fb_graph.proofs.MappedNodes.{mapped_outer}
use Rattle.fb_graph.proofs.Places.{among_split}
use Rattle.fb_graph.proofs.SingleStates.{all_outer}

pub outer_begin : OuterBegin
outer_begin singles n within = all_outer singles n

pub outer_fewer : OuterFewer
outer_fewer nodes names fewer some outer n within = outer n (some n within)

pub outer_stepped : OuterStepped
outer_stepped roles nodes k names outer n within = mapped_outer (stepped_node roles k) (λ m. refl) nodes n ∙ outer n within

pub outer_absorbed : OuterAbsorbed
outer_absorbed nodes name v names outer n within =
    mapped_outer (change name (taller_node v)) (λ m. by_name (λ x. x.children ≡ m.children) name (taller_node v) m (λ e. refl) (λ other. refl)) nodes n
    ∙ outer n within

pub outer_uncovered : OuterUncovered
outer_uncovered nodes name names outer n within =
    mapped_outer (change name without_top) (λ m. by_name (λ x. x.children ≡ m.children) name without_top m (λ e. refl) (λ other. refl)) nodes n
    ∙ outer n within

pub outer_split : OuterSplit
outer_split nodes name names outer n within =
    among_outer (split_nodes name nodes) n (λ q a. outer_among nodes n (outer n within) q (among_split name nodes q a).0)

pub outer_joined : OuterJoined
outer_joined nodes name children names remaining top none same outer n within = step (cases_eq n name)
  where
    not_child : is_in children n ≡ false
    not_child = false_from_ne_true (is_in children n) (λ child. both_ways (is_in remaining n) (none n child) within)

    step : (n ≡ name) ⊎ (n ≡ name → ⊥) → is_outer (joined_nodes name children nodes) n ≡ true
    step (inl is) = ap (is_outer (joined_nodes name children nodes)) is ∙ top
    step (inr other) =
        among_outer (joined_nodes name children nodes) n
        (λ q a. by q (among_either nodes (blossom name children nodes ∷ []) q a))
      where
        by : (q : Node) → IsAmong q nodes ⊎ IsAmong q (blossom name children nodes ∷ []) → is_in q.children n ≡ false
        by q (inl a) = outer_among nodes n (outer n (sym (same n not_child other) ∙ within)) q a
        by q (inr (inl is)) = ap (λ m. is_in m.children n) (sym is) ∙ not_child
        by q (inr (inr nothing)) = absurd nothing

pub outer_beside : OuterBeside
outer_beside nodes others names more forest grove away clear one other n within =
    step (or_cases (is_in names n) (is_in more n) (sym (is_in-append names more n) ∙ within))
  where
    step : (is_in names n ≡ true) ⊎ (is_in more n ≡ true) → is_outer (nodes ++ others) n ≡ true
    step (inl h) = outer_both nodes others n (one n h) (absent_outer others grove n (clear n h))
    step (inr h) = outer_both nodes others n (absent_outer nodes forest n (away n h)) (other n h)

pub outer_singles_added : OuterSinglesAdded
outer_singles_added nodes singles names forest away outer n within =
    outer_both nodes (nodes_of singles) n
    (step (or_cases (is_in names n) (is_in added n) (sym (is_in-append names added n) ∙ within)))
    (all_outer singles n)
  where
    added : List ℕ
    added = map (λ s. s.name) singles

    step : (is_in names n ≡ true) ⊎ (is_in added n ≡ true) → is_outer nodes n ≡ true
    step (inl h) = outer n h
    step (inr h) = absent_outer nodes forest n (away n h)

pub no_child_unmatched : NoChildUnmatched
no_child_unmatched before after b names outer n child =
    false_from_ne_true (is_in names n)
    (λ within.
    both_ways (is_in b.children n)
    (outer_among (before ++ b ∷ after) n (outer n within) b (among_right before (b ∷ after) b (inl refl))) child)
