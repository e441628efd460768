-- The place of a node's step on a cycle, and the same cycle begun there or gone round in the other direction.
use Rattle.std.proofs.Common.{ℕ, suc, ◌≡◌, ◌+◌, ◌<◌, ◌==◌, ◌||◌, Bool, true, false, List, [], ◌∷◌, ◌++◌, map, length, take, drop, reverse, get_or, refl, sym, ap, ◌∙◌, arith, if◌then◌else◌}
use Rattle.std.proofs.lemmas.Bool.{false≢true, eqb-true}
use Rattle.std.proofs.lemmas.List.{length-append, length-map, map-append, reverse-append}
use Rattle.std.proofs.Math.Seq.{get_or-append_seam}
use Rattle.fb_graph.specs.Parity.{is_in}
use Rattle.fb_links.specs.declared.cycle.CycleStep.{CycleStep}
use Rattle.fb_search.specs.InternalOpenings.{link_on, place_on, rest_on, round_on, turned_from, turned_on, way_on}
use Rattle.fb_search.proofs.Agreed.{nodes_of}
use Rattle.fb_trees.proofs.Lookups.{map_reverse}

-- the links of a cycle
abbrev pub links_of : List CycleStep → List ℕ
links_of cycle = map (λ s. s.link) cycle

-- the nodes of all steps but the first
abbrev pub others_of : List CycleStep → List ℕ
others_of [] = []
others_of (s ∷ ss) = nodes_of ss

-- the steps before and after the node's
pub record IsPlacedOn (cycle : List CycleStep) (name : ℕ) : Type 0 where
  pub before : List CycleStep
  pub here : CycleStep
  pub after : List CycleStep
  pub whole : cycle ≡ before ++ here ∷ after
  pub named : here.node ≡ name
  pub place : place_on cycle name ≡ length before
  pub front : take (place_on cycle name) cycle ≡ before
  pub back : drop (place_on cycle name) cycle ≡ here ∷ after
  pub way : way_on cycle name ≡ before ++ here ∷ []
  pub rest : rest_on cycle name ≡ after
  pub link : link_on cycle name ≡ here.link

pub placed_on : (cycle : List CycleStep) (name : ℕ) → is_in (nodes_of cycle) name ≡ true → IsPlacedOn cycle name
placed_on [] name on = absurd (false≢true on)
placed_on (s ∷ ss) name on = by (s.node == name) refl on (placed_on ss name)
  where
    by : (b : Bool) → (s.node == name) ≡ b → is_in (nodes_of (s ∷ ss)) name ≡ true
        → (is_in (nodes_of ss) name ≡ true → IsPlacedOn ss name) → IsPlacedOn (s ∷ ss) name
    by true e there rest = record {
      before = [];
      here = s;
      after = ss;
      whole = refl;
      named = eqb-true s.node name e;
      place = at;
      front = ap (λ k. take k (s ∷ ss)) at;
      back = ap (λ k. drop k (s ∷ ss)) at;
      way = ap (λ k. take (k + 1) (s ∷ ss)) at;
      rest = ap (λ k. drop (k + 1) (s ∷ ss)) at;
      link = ap (λ b. if b then s.link else link_on ss name) e;
    }
      where
        at : place_on (s ∷ ss) name ≡ 0
        at = ap (λ b. if b then 0 else 1 + place_on ss name) e
    by false e there rest = record {
      before = s ∷ found.before;
      here = found.here;
      after = found.after;
      whole = ap (λ l. s ∷ l) found.whole;
      named = found.named;
      place = at ∙ ap (λ k. suc k) found.place;
      front = ap (λ k. take k (s ∷ ss)) at ∙ ap (λ l. s ∷ l) found.front;
      back = ap (λ k. drop k (s ∷ ss)) at ∙ found.back;
      way = ap (λ k. take k (s ∷ ss)) next ∙ ap (λ l. s ∷ l) found.way;
      rest = ap (λ k. drop k (s ∷ ss)) next ∙ found.rest;
      link = ap (λ b. if b then s.link else link_on ss name) e ∙ found.link;
    }
      where
        found : IsPlacedOn ss name
        found = rest (sym (ap (λ b. b || is_in (nodes_of ss) name) e) ∙ there)

        one : 1 + place_on ss name ≡ suc (place_on ss name)
        one = omega arith

        at : place_on (s ∷ ss) name ≡ suc (place_on ss name)
        at = ap (λ b. if b then 0 else 1 + place_on ss name) e ∙ one

        next : place_on (s ∷ ss) name + 1 ≡ suc (place_on ss name + 1)
        next = omega (arith, at)

pub nodes-append : (xs ys : List CycleStep) → nodes_of (xs ++ ys) ≡ nodes_of xs ++ nodes_of ys
nodes-append xs ys = map-append (λ s. s.node) xs ys

pub links-append : (xs ys : List CycleStep) → links_of (xs ++ ys) ≡ links_of xs ++ links_of ys
links-append xs ys = map-append (λ s. s.link) xs ys

-- the step at a node's place
pub node_at_place : (cycle : List CycleStep) (name : ℕ) → is_in (nodes_of cycle) name ≡ true
    → get_or (nodes_of cycle) (place_on cycle name) 0 ≡ name
node_at_place cycle name on =
    let at = placed_on cycle name on in
    ap (λ k. get_or (nodes_of cycle) k 0) (at.place ∙ sym (length-map at.before (λ s. s.node)))
    ∙ (ap (λ l. get_or l (length (nodes_of at.before)) 0)
    (ap nodes_of at.whole ∙ nodes-append at.before (at.here ∷ at.after))
    ∙ (get_or-append_seam (nodes_of at.before) at.here.node (nodes_of at.after) 0 ∙ at.named))

pub place_within : (cycle : List CycleStep) (name : ℕ) → is_in (nodes_of cycle) name ≡ true
    → place_on cycle name < length (nodes_of cycle)
place_within cycle name on =
    let at = placed_on cycle name on in
    omega (
      arith,
      at.place,
      ap length at.whole,
      length-append at.before (at.here ∷ at.after),
      length-map cycle (λ s. s.node),
    )

-- the cycle begun at the node
pub round_is : (cycle : List CycleStep) (name : ℕ) (at : IsPlacedOn cycle name)
    → round_on cycle name ≡ (at.here ∷ at.after) ++ at.before
round_is cycle name at =
    ap (λ l. l ++ take (place_on cycle name) cycle) at.back ∙ ap (λ l. (at.here ∷ at.after) ++ l) at.front

-- gone round in the other direction
turned_last : (node : ℕ) (xs : List CycleStep) (s : CycleStep)
    → (nodes_of (turned_from node (xs ++ s ∷ [])) ≡ node ∷ nodes_of xs)
    × (links_of (turned_from node (xs ++ s ∷ [])) ≡ links_of (xs ++ s ∷ []))
turned_last node [] s = (refl, refl)
turned_last node (x ∷ xs) s =
    let rest = turned_last x.node xs s in (ap (λ l. node ∷ l) rest.0, ap (λ l. x.link ∷ l) rest.1)

pub turned_nodes : (s : CycleStep) (ss : List CycleStep) → nodes_of (turned_on (s ∷ ss)) ≡ s.node ∷ reverse (nodes_of ss)
turned_nodes s ss =
    ap (λ l. nodes_of (turned_from s.node l)) (reverse-append (s ∷ []) ss)
    ∙ ((turned_last s.node (reverse ss) s).0 ∙ ap (λ l. s.node ∷ l) (map_reverse (λ x. x.node) ss))

pub turned_links : (s : CycleStep) (ss : List CycleStep) → links_of (turned_on (s ∷ ss)) ≡ reverse (links_of (s ∷ ss))
turned_links s ss =
    ap (λ l. links_of (turned_from s.node l)) (reverse-append (s ∷ []) ss)
    ∙ ((turned_last s.node (reverse ss) s).1
    ∙ (ap links_of (sym (reverse-append (s ∷ []) ss)) ∙ map_reverse (λ x. x.link) (s ∷ ss)))
