-- A cycle gone round from one of its nodes, in either direction, has the same nodes; and the link of a node's step.
use Rattle.std.proofs.Common.{ℕ, suc, ◌≡◌, ◌+◌, ◌==◌, ◌%◌, ◌||◌, Bool, true, false, List, [], ◌∷◌, ◌++◌, get_or, drop, take, reverse, refl, sym, ap, ◌∙◌, if◌then◌else◌, arith}
use Rattle.std.proofs.Math.Bool.{or_comm}
use Rattle.std.proofs.lemmas.Bool.{false≢true}
use Rattle.std.proofs.lemmas.List.{take-append-drop}
use Rattle.std.proofs.lemmas.Grind.{reverse_onto}
use Rattle.std.proofs.lemmas.List.Folds.{list_any-append}
use Rattle.fb_links.specs.declared.cycle.CycleStep.{CycleStep}
use Rattle.fb_blossoms.specs.Nodes.{is_on}
use Rattle.fb_search.specs.InternalOpenings.{between_on, even_on, link_on, links_left, place_on, rest_on, round_on, turned_from, turned_on}

on_append : (xs ys : List CycleStep) (n : ℕ) → is_on (xs ++ ys) n ≡ (is_on xs n || is_on ys n)
on_append xs ys n = list_any-append (λ s. s.node == n) xs ys

on_reverse : (xs : List CycleStep) (n : ℕ) → is_on (reverse xs) n ≡ is_on xs n
on_reverse [] n = refl
on_reverse (s ∷ ss) n =
    ap (λ l. is_on l n) (reverse_onto ss s [])
    ∙ on_append (reverse ss) (s ∷ []) n
    ∙ or_comm (is_on (reverse ss) n) (is_on (s ∷ []) n)
    ∙ ap (λ b. ((s.node == n) || false) || b) (on_reverse ss n)
    ∙ cut (s.node == n) (is_on ss n)
  where
    cut : (a b : Bool) → ((a || false) || b) ≡ (a || b)
    cut true b = refl
    cut false b = refl

pub on_round : (cycle : List CycleStep) (first n : ℕ) → is_on (round_on cycle first) n ≡ is_on cycle n
on_round cycle first n =
    let i = place_on cycle first in
    on_append (drop i cycle) (take i cycle) n
    ∙ or_comm (is_on (drop i cycle) n) (is_on (take i cycle) n)
    ∙ sym (on_append (take i cycle) (drop i cycle) n)
    ∙ ap (λ l. is_on l n) (take-append-drop i cycle)

-- the last step's node is left out, and the first one comes in
on_turned_from : (node : ℕ) (xs : List CycleStep) (t : CycleStep) (n : ℕ)
    → is_on (turned_from node (xs ++ t ∷ [])) n ≡ ((node == n) || is_on xs n)
on_turned_from node [] t n = refl
on_turned_from node (x ∷ xs) t n = ap (λ b. (node == n) || b) (on_turned_from x.node xs t n)

on_turned : (round : List CycleStep) (n : ℕ) → is_on (turned_on round) n ≡ is_on round n
on_turned [] n = refl
on_turned (s ∷ ss) n =
    ap (λ l. is_on (turned_from s.node l) n) (reverse_onto ss s [])
    ∙ on_turned_from s.node (reverse ss) s n
    ∙ ap (λ b. (s.node == n) || b) (on_reverse ss n)

pub on_even : (round : List CycleStep) (name n : ℕ) → is_on (even_on round name) n ≡ is_on round n
on_even round name n = by (place_on round name % 2 == 0)
  where
    by : (b : Bool) → is_on (if b then round else turned_on round) n ≡ is_on round n
    by true = refl
    by false = on_turned round n

pub link_there : (round : List CycleStep) (name : ℕ) (d : CycleStep) → is_on round name ≡ true
    → (get_or round (place_on round name) d).link ≡ link_on round name
link_there [] name d on = absurd (false≢true on)
link_there (s ∷ ss) name d on = by (s.node == name) on (link_there ss name d)
  where
    by : (b : Bool) → (b || is_on ss name) ≡ true
        → (is_on ss name ≡ true → (get_or ss (place_on ss name) d).link ≡ link_on ss name)
        → (get_or (s ∷ ss) (if b then 0 else 1 + place_on ss name) d).link ≡ (if b then s.link else link_on ss name)
    by true h rest = refl
    by false h rest = ap (λ (x : CycleStep). x.link) (get_or-suc ss (place_on ss name)) ∙ rest h
      where
        get_or-suc : (xs : List CycleStep) (i : ℕ) → get_or (s ∷ xs) (1 + i) d ≡ get_or xs i d
        get_or-suc xs i = let e : 1 + i ≡ suc i = omega arith in ap (λ k. get_or (s ∷ xs) k d) e

-- the links that are left over, as code reads them from a round, of which one step's place is known
pub left_read : (whole items back : List CycleStep) (name end : ℕ) (at : CycleStep) (left : List ℕ) → items ≡ whole
    → end ≡ place_on whole name → is_on whole name ≡ true → at ≡ get_or items end at → back ≡ drop (end + 1) items
    → left ≡ at.link ∷ between_on back → left ≡ links_left whole name
left_read whole items back name end at left round place on there after is =
    is ∙ (λ i. link_is i ∷ between_on (back_is i))
  where
    back_is : back ≡ rest_on whole name
    back_is = after ∙ (λ i. drop (place i + 1) (round i))

    link_is : at.link ≡ link_on whole name
    link_is =
        ap (λ (s : CycleStep). s.link) (there ∙ (λ i. get_or (round i) (place i) at)) ∙ link_there whole name at on
