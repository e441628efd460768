-- The round of a blossom's cycle that the code reads is the law's round of its links.
use Rattle.std.proofs.Common.{ℕ, suc, ◌≡◌, ◌≢◌, ◌+◌, ◌-◌, ◌%◌, ◌<◌, ◌==◌, ◌||◌, Bool, true, false, List, [], ◌∷◌, ◌++◌, map, length, take, drop, reverse, refl, sym, ap, ◌∙◌, subst, arith, if◌then◌else◌}
use Rattle.std.proofs.lemmas.Bool.{false≢true, eq-eqb, eqb-true, false_from_ne_true, or_from, or_parts}
use Rattle.std.proofs.lemmas.List.{append_assoc, drop-map, length-append, length-map, length-reverse, map-append, reverse-append, take-map}
use Rattle.std.proofs.lemmas.List.Sorted.{IsPermutation-reverse}
use Rattle.fb_graph.specs.Parity.{is_in}
use Rattle.fb_graph.specs.Certificate.{AreDistinct}
use Rattle.fb_graph.proofs.Sets.{is_in-head}
use Rattle.fb_links.specs.declared.cycle.CycleStep.{CycleStep}
use Rattle.fb_laws.specs.OpenedLinks.{round_from}
use Rattle.fb_laws.specs.RingWays.{Round, even_round, even_steps, round_at, turned_round}
use Rattle.fb_laws.proofs.OpenedBlossoms.{same_permuted}
use Rattle.fb_laws.proofs.TreePaths.{distinct_right}
use Rattle.fb_laws.proofs.MergedParts.{distinct_across}
use Rattle.fb_search.specs.InternalOpenings.{even_on, place_on, round_on, turned_on}
use Rattle.fb_search.proofs.Agreed.{nodes_of}
use Rattle.fb_search.proofs.OpenedPlaces.{IsPlacedOn, links_of, nodes-append, links-append, others_of, placed_on, round_is, turned_links, turned_nodes}
use Rattle.fb_trees.proofs.Lookups.{map_reverse}

abbrev tail_of : List ℕ → List ℕ
tail_of [] = []
tail_of (x ∷ xs) = xs

others_tail : (r : List CycleStep) → others_of r ≡ tail_of (nodes_of r)
others_tail [] = refl
others_tail (s ∷ ss) = refl

-- the place of a name after others
place_at : (cycle : List CycleStep) (name : ℕ) (xs ys : List ℕ) → nodes_of cycle ≡ xs ++ name ∷ ys → is_in xs name ≡ false
    → place_on cycle name ≡ length xs
place_at [] name [] ys is out = absurd (let e : [] ≡ name ∷ ys = is in cc)
place_at [] name (x ∷ xs) ys is out = absurd (let e : [] ≡ x ∷ (xs ++ name ∷ ys) = is in cc)
place_at (s ∷ ss) name [] ys is out =
    let e : s.node ∷ nodes_of ss ≡ name ∷ ys = is in
    let same : s.node ≡ name = cc in
    ap (λ b. if b then 0 else 1 + place_on ss name) (eq-eqb s.node name same)
place_at (s ∷ ss) name (x ∷ xs) ys is out =
    let e : s.node ∷ nodes_of ss ≡ x ∷ (xs ++ name ∷ ys) = is in
    let same : s.node ≡ x = cc in
    let rest : nodes_of ss ≡ xs ++ name ∷ ys = cc in
    let parts = or_parts (x == name) (is_in xs name) out in
    let found = place_at ss name xs ys rest parts.1 in
    ap (λ b. if b then 0 else 1 + place_on ss name) (ap (λ n. n == name) same ∙ parts.0)
    ∙ (let one : 1 + place_on ss name ≡ suc (place_on ss name) = omega arith in one ∙ ap (λ k. suc k) found)

module _ {M : Type 0} (f : ℕ → M) where
  -- the steps as a round, with their links in another form
  abbrev pub round_by : List CycleStep → Round M
  round_by r = record { others = others_of r; links = map f (links_of r) }

  pub round_at_is : (cycle : List CycleStep) (name : ℕ) (at : IsPlacedOn cycle name)
      → round_at (place_on cycle name) (nodes_of cycle) (map f (links_of cycle)) ≡ round_by (round_on cycle name)
  round_at_is cycle name at =
      ap (λ l. record { others = l; links = round_from (place_on cycle name) (map f (links_of cycle)) }) others
      ∙ ap (λ l. record { others = others_of (round_on cycle name); links = l }) links
    where
      others : drop (place_on cycle name + 1) (nodes_of cycle) ++ take (place_on cycle name) (nodes_of cycle)
          ≡ others_of (round_on cycle name)
      others =
          ap (λ l. l ++ take (place_on cycle name) (nodes_of cycle))
          (drop-map (λ s. s.node) (place_on cycle name + 1) cycle ∙ ap nodes_of at.rest)
          ∙ (ap (λ l. nodes_of at.after ++ l) (take-map (λ s. s.node) (place_on cycle name) cycle ∙ ap nodes_of at.front)
          ∙ (sym (nodes-append at.after at.before) ∙ ap others_of (sym (round_is cycle name at))))

      links : round_from (place_on cycle name) (map f (links_of cycle)) ≡ map f (links_of (round_on cycle name))
      links =
          ap (λ l. l ++ take (place_on cycle name) (map f (links_of cycle)))
          (drop-map f (place_on cycle name) (links_of cycle)
          ∙ ap (map f) (drop-map (λ s. s.link) (place_on cycle name) cycle))
          ∙ (ap (λ l. map f (links_of (drop (place_on cycle name) cycle)) ++ l)
          (take-map f (place_on cycle name) (links_of cycle)
          ∙ ap (map f) (take-map (λ s. s.link) (place_on cycle name) cycle))
          ∙ (sym (map-append f (links_of (drop (place_on cycle name) cycle)) (links_of (take (place_on cycle name) cycle)))
          ∙ ap (map f) (sym (links-append (drop (place_on cycle name) cycle) (take (place_on cycle name) cycle)))))

  turned_by : (s : CycleStep) (ss : List CycleStep) → turned_round (round_by (s ∷ ss)) ≡ round_by (turned_on (s ∷ ss))
  turned_by s ss =
      ap (λ l. record { others = l; links = reverse (map f (links_of (s ∷ ss))) })
      (sym (others_tail (turned_on (s ∷ ss)) ∙ ap tail_of (turned_nodes s ss)))
      ∙ ap (λ l. record { others = others_of (turned_on (s ∷ ss)); links = l })
      (sym (map_reverse f (links_of (s ∷ ss))) ∙ ap (map f) (sym (turned_links s ss)))

  pub even_round_is : (r : List CycleStep) (name : ℕ)
      → even_round (place_on r name) (round_by r) ≡ round_by (even_on r name)
  even_round_is [] name = refl
  even_round_is (s ∷ ss) name = by (place_on (s ∷ ss) name % 2 == 0)
    where
      by : (b : Bool) → (if b then round_by (s ∷ ss) else turned_round (round_by (s ∷ ss)))
          ≡ round_by (if b then s ∷ ss else turned_on (s ∷ ss))
      by true = refl
      by false = turned_by s ss

-- the place in the other direction
turned_place : (s : CycleStep) (ss : List CycleStep) (name : ℕ) → AreDistinct (nodes_of (s ∷ ss))
    → is_in (nodes_of ss) name ≡ true
    → place_on (turned_on (s ∷ ss)) name ≡ length (nodes_of ss) + 1 - place_on (s ∷ ss) name
turned_place s ss name distinct on =
    place_at (turned_on (s ∷ ss)) name (s.node ∷ reverse (nodes_of at.after)) (reverse (nodes_of at.before)) is out
    ∙ omega (arith, size, before, length-reverse (nodes_of at.after))
  where
    at : IsPlacedOn ss name
    at = placed_on ss name on

    nodes : nodes_of ss ≡ nodes_of at.before ++ name ∷ nodes_of at.after
    nodes =
        ap nodes_of at.whole
        ∙ (nodes-append at.before (at.here ∷ at.after) ∙ ap (λ n. nodes_of at.before ++ n ∷ nodes_of at.after) at.named)

    is : nodes_of (turned_on (s ∷ ss)) ≡ (s.node ∷ reverse (nodes_of at.after)) ++ name ∷ reverse (nodes_of at.before)
    is =
        turned_nodes s ss
        ∙ ap (λ l. s.node ∷ l)
        (ap reverse nodes
        ∙ (reverse-append (nodes_of at.before) (name ∷ nodes_of at.after)
        ∙ (ap (λ l. l ++ reverse (nodes_of at.before)) (reverse-append (name ∷ []) (nodes_of at.after))
        ∙ append_assoc (reverse (nodes_of at.after)) (name ∷ []) (reverse (nodes_of at.before)))))

    first : (s.node == name) ≡ false
    first =
        false_from_ne_true (s.node == name)
        (λ e. false≢true (sym distinct.0 ∙ (ap (is_in (nodes_of ss)) (eqb-true s.node name e) ∙ on)))

    apart : AreDistinct (nodes_of at.before ++ name ∷ nodes_of at.after)
    apart = subst AreDistinct nodes distinct.1

    not_after : is_in (nodes_of at.after) name ≡ false
    not_after = (distinct_right (nodes_of at.before) (name ∷ nodes_of at.after) apart).0

    not_before : is_in (nodes_of at.before) name ≡ false
    not_before =
        false_from_ne_true (is_in (nodes_of at.before) name)
        (λ there.
        false≢true (sym (distinct_across (nodes_of at.before) (name ∷ nodes_of at.after) name apart there)
        ∙ is_in-head name (nodes_of at.after)))

    out : is_in (s.node ∷ reverse (nodes_of at.after)) name ≡ false
    out =
        or_from (s.node == name) (is_in (reverse (nodes_of at.after)) name) first
        (same_permuted (nodes_of at.after) (reverse (nodes_of at.after)) (IsPermutation-reverse (nodes_of at.after)) name
        ∙ not_after)

    size : length (nodes_of ss) ≡ length (nodes_of at.before) + suc (length (nodes_of at.after))
    size = ap length nodes ∙ length-append (nodes_of at.before) (name ∷ nodes_of at.after)

    before : place_on (s ∷ ss) name ≡ suc (length (nodes_of at.before))
    before =
        place_at (s ∷ ss) name (s.node ∷ nodes_of at.before) (nodes_of at.after) (ap (λ l. s.node ∷ l) nodes)
        (or_from (s.node == name) (is_in (nodes_of at.before) name) first not_before)

module _ {M : Type 0} (f : ℕ → M) where
  pub even_place : (r : List CycleStep) (name : ℕ) → AreDistinct (nodes_of r) → is_in (nodes_of r) name ≡ true
      → place_on (even_on r name) name ≡ even_steps (place_on r name) (round_by f r)
  even_place [] name distinct on = absurd (false≢true on)
  even_place (s ∷ ss) name distinct on = by (place_on (s ∷ ss) name % 2 == 0) refl
    where
      later : (place_on (s ∷ ss) name % 2 == 0) ≡ false → is_in (nodes_of ss) name ≡ true
      later odd = step (s.node == name) refl on
        where
          step : (b : Bool) → (s.node == name) ≡ b → is_in (nodes_of (s ∷ ss)) name ≡ true → is_in (nodes_of ss) name ≡ true
          step true e there =
              let zero_is : place_on (s ∷ ss) name ≡ 0 = ap (λ b. if b then 0 else 1 + place_on ss name) e in
              absurd (false≢true (sym odd ∙ ap (λ k. k % 2 == 0) zero_is))
          step false e there = sym (ap (λ b. b || is_in (nodes_of ss) name) e) ∙ there

      by : (b : Bool) → (place_on (s ∷ ss) name % 2 == 0) ≡ b
          → place_on (if b then s ∷ ss else turned_on (s ∷ ss)) name
          ≡ (if b then place_on (s ∷ ss) name else length (nodes_of ss) + 1 - place_on (s ∷ ss) name)
      by true e = refl
      by false e = turned_place s ss name distinct (later e)

-- it is an even number
pub even_place_even : (r : List CycleStep) (name : ℕ) → length r % 2 ≡ 1 → AreDistinct (nodes_of r)
    → is_in (nodes_of r) name ≡ true
    → place_on (even_on r name) name % 2 ≡ 0
even_place_even r name odd distinct on = by (place_on r name % 2 == 0) refl
  where
    at : IsPlacedOn r name
    at = placed_on r name on

    below : place_on r name < length r
    below = omega (arith, at.place, ap length at.whole, length-append at.before (at.here ∷ at.after))

    by_way : Bool → ℕ
    by_way b = if b then place_on r name else length (others_of r) + 1 - place_on r name

    other : (b : Bool) → (place_on r name % 2 == 0) ≡ b → place_on (even_on r name) name ≡ by_way b
    other b e = even_place (λ k. k) r name distinct on ∙ ap by_way e

    size : length (others_of r) + 1 ≡ length r
    size = count r odd
      where
        count : (q : List CycleStep) → length q % 2 ≡ 1 → length (others_of q) + 1 ≡ length q
        count [] odd = absurd (let e : 0 ≡ 1 = odd in omega arith)
        count (s ∷ ss) odd = omega (arith, length-map ss (λ s. s.node))

    by : (b : Bool) → (place_on r name % 2 == 0) ≡ b → place_on (even_on r name) name % 2 ≡ 0
    by true e = ap (λ k. k % 2) (other true e) ∙ eqb-true (place_on r name % 2) 0 e
    by false e =
        let differ : place_on r name % 2 ≢ 0 = λ same. false≢true (sym e ∙ eq-eqb (place_on r name % 2) 0 same) in
        ap (λ k. k % 2) (other false e) ∙ omega (arith, size, odd, below)
