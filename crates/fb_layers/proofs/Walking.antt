-- Walks over edges with two real ends: one after another, and turned round.
use Rattle.std.proofs.Common.{ℕ, ◌≡◌, true, List, [], ◌∷◌, ◌++◌, reverse, refl, sym, ap, ◌∙◌, subst, inl, inr}
use Rattle.std.proofs.lemmas.Bool.{and_parts}
use Rattle.std.proofs.lemmas.List.{reverse-append}
use Rattle.fb_graph.specs.Components.{Leads}
use Rattle.fb_graph.specs.Problem.{edge_at}
use Rattle.fb_graph.specs.Limits.{DecodingGraph, is_real_in}
use Rattle.fb_graph.specs.declared.parts.Edge.{Edge}
use Rattle.fb_graph.proofs.Walks.{Leads_flip}
use Rattle.fb_layers.specs.Layers.{is_inner, IsInnerWalk}

pub inner_ends : (g : DecodingGraph) (e : Edge) (v w : ℕ) → is_inner g e ≡ true → Leads e v w
    → (is_real_in g v ≡ true) × (is_real_in g w ≡ true)
inner_ends g e v w inner leads = step leads (and_parts (is_real_in g e.first) (is_real_in g e.second) inner)
  where
    step : Leads e v w → (is_real_in g e.first ≡ true) × (is_real_in g e.second ≡ true)
        → (is_real_in g v ≡ true) × (is_real_in g w ≡ true)
    step (inl (first, second)) (a, b) =
        (ap (is_real_in g) (sym first) ∙ a, ap (is_real_in g) (sym second) ∙ b)
    step (inr (second, first)) (a, b) =
        (ap (is_real_in g) (sym second) ∙ b, ap (is_real_in g) (sym first) ∙ a)

pub inner_walk-append : (g : DecodingGraph) (ks ls : List ℕ) (a b c : ℕ) → IsInnerWalk g ks a b → IsInnerWalk g ls b c
    → IsInnerWalk g (ks ++ ls) a c
inner_walk-append g [] ls a b c first second = subst (λ x. IsInnerWalk g ls x c) (sym first) second
inner_walk-append g (k ∷ ks) ls a b c (next, within, inner, leads, rest) second =
    (next, within, inner, leads, inner_walk-append g ks ls next b c rest second)

pub inner_walk-reverse : (g : DecodingGraph) (ks : List ℕ) (a b : ℕ) → IsInnerWalk g ks a b → IsInnerWalk g (reverse ks) b a
inner_walk-reverse g [] a b walk = sym walk
inner_walk-reverse g (k ∷ ks) a b (next, within, inner, leads, rest) =
    subst (λ ls. IsInnerWalk g ls b a) (sym (reverse-append (k ∷ []) ks))
    (inner_walk-append g (reverse ks) (k ∷ []) b next a (inner_walk-reverse g ks next b rest)
    (a, within, inner, Leads_flip (edge_at g.edges k) a next leads, refl))
