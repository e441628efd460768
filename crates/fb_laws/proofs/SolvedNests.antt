-- A nest whose blossoms are open is solved.
use Rattle.std.proofs.Common.{ℕ, ◌≡◌, ◌+◌, ◌≤◌, ◌==◌, ◌⊎◌, inl, inr, Bool, true, false, List, [], ◌∷◌, length, filter, cond, get_or, sym, ap, ◌∙◌, subst, arith, if◌then◌else◌}
use Rattle.std.proofs.Math.Bool.{or-false}
use Rattle.std.proofs.lemmas.Bool.{both_ways, cases_Bool, eqb-true, false≢true, false_from_ne_true}
use Rattle.std.proofs.lemmas.List.Elements.{All-map}
use Rattle.fb_graph.specs.Parity.{is_in}
use Rattle.fb_graph.specs.Certificate.{AreDistinct}
use Rattle.fb_graph.specs.Laws.{Link, IsSolved, odd_edges}
use Rattle.fb_graph.specs.Dual.{Node, AreApart, AreGrown, defects_of, is_empty, layers_of, leaves}
use Rattle.fb_graph.proofs.Sets.{All-from_is_in, is_in-All}
use Rattle.fb_graph.proofs.Sums.{sum_same}
use Rattle.fb_graph.specs.Counts.{as_count}
use Rattle.fb_graph.specs.Ends.{AreAllApart, ends_in}
use Rattle.fb_graph.specs.Links.{pair}
use Rattle.fb_laws.specs.Opening.{single_sets}
use Rattle.fb_laws.specs.Works.{positive_cuts}
use Rattle.fb_graph.specs.Nests.{IsFormed, first_set}
use Rattle.fb_laws.specs.NestSolutions.{DefectsFirst, LeafLevel, NestResolved, leaf_sets}
use Rattle.fb_graph.proofs.Among.{IsAmong, All_among, among_All, leaf_among, map_among, is_in-empty}
use Rattle.fb_graph.proofs.Forests.{defects_first, first_within}
use Rattle.fb_laws.proofs.HalvesKept.{positive_loads, positive_packing}
use Rattle.fb_laws.proofs.NestOrders.{Relates, related}
use Rattle.fb_graph.proofs.NestParts.{grove_of, top_is_odd}
use Rattle.fb_laws.proofs.OpenedLevels.{level_solved}
use Rattle.fb_laws.proofs.SolvedRows.{solved_is_best}
use Rattle.fb_graph.proofs.Booleans.{same_bool}

-- a node with a defect of its own joins no others
childless : (m : Node) (d : ℕ) → is_in (defects_of m) d ≡ true → is_empty m.children ≡ true
childless m d mine = step (cases_Bool (is_empty m.children))
  where
    step : (is_empty m.children ≡ true) ⊎ (is_empty m.children ≡ false) → is_empty m.children ≡ true
    step (inl e) = e
    step (inr e) = absurd (false≢true (ap (λ b. is_in (if b then first_set m else []) d) (sym e) ∙ mine))

pub defects_in_first : DefectsFirst
defects_in_first p nodes nest =
    among_All
    (λ n. (d : ℕ) → is_in (leaves nodes) d ≡ true → is_in n.top.vertices d ≡ true → is_in (first_set n) d ≡ true)
    nodes
    (λ n b d leaf within.
    let (m, a, mine) = leaf_among nodes d leaf in
    step n d within m mine
    (related nodes (record { grove = grove_of p nodes nest; apart = nest.dual.apart }) n m b a))
  where
    step : (n : Node) (d : ℕ) → is_in n.top.vertices d ≡ true → (m : Node) → is_in (defects_of m) d ≡ true
        → Relates nodes n m → is_in (first_set n) d ≡ true
    step n d within m mine (inl e) = ap (λ x. is_in (first_set x) d) e ∙ defects_first m d mine
    step n d within m mine (inr (inl (x, c, child, holds))) =
        absurd (both_ways (is_in m.children x.name) (is_in-empty m.children x.name (childless m d mine)) child)
    step n d within m mine (inr (inr (inl holds))) = holds d (defects_first m d mine)
    step n d within m mine (inr (inr (inr apart))) =
        absurd (both_ways (is_in (first_set m) d) (apart d within) (defects_first m d mine))

one_of : (xs : List ℕ) (d : ℕ) → length xs ≡ 1 → is_in xs d ≡ true → xs ≡ d ∷ []
one_of [] d one within = absurd (false≢true within)
one_of (x ∷ []) d one within = ap (λ y. y ∷ []) (eqb-true x d (sym (or-false (x == d)) ∙ within))
one_of (x ∷ y ∷ ys) d one within = absurd (omega (arith, one))

first_is : (m : Node) (d : ℕ) → IsFormed m → is_in (defects_of m) d ≡ true → first_set m ≡ d ∷ []
first_is m d (inl alone) mine = one_of (first_set m) d alone.defect (defects_first m d mine)
first_is m d (inr many) mine = absurd (none m.children (childless m d mine) many.three)
  where
    none : (cs : List ℕ) → is_empty cs ≡ true → 3 ≤ length cs → ⊥
    none [] e three = absurd (omega (arith, three))
    none (x ∷ xs) e three = absurd (false≢true e)

childless_among : (ns : List Node) (m : Node) → IsAmong m ns → is_empty m.children ≡ true
    → IsAmong m (filter (λ n. is_empty n.children) ns)
childless_among [] m a e = absurd a
childless_among (n ∷ ns) m (inl same) e =
    subst (λ b. IsAmong m (cond b (n ∷ filter (λ x. is_empty x.children) ns) (filter (λ x. is_empty x.children) ns)))
    (sym (ap (λ x. is_empty x.children) same ∙ e)) (inl same)
childless_among (n ∷ ns) m (inr a) e = step (is_empty n.children) (childless_among ns m a e)
  where
    step : (b : Bool) → IsAmong m (filter (λ x. is_empty x.children) ns)
        → IsAmong m (cond b (n ∷ filter (λ x. is_empty x.children) ns) (filter (λ x. is_empty x.children) ns))
    step true h = inr h
    step false h = h

singles_apart : (ds : List ℕ) → AreDistinct ds → AreAllApart (single_sets ds)
singles_apart [] distinct = tt
singles_apart (x ∷ xs) distinct = (
  All-map (AreApart (x ∷ [])) (λ y. y ∷ []) xs
      (All-from_is_in (λ y. AreApart (x ∷ []) (y ∷ [])) xs
      (λ y h v within.
      false_from_ne_true (is_in (y ∷ []) v)
      (λ held.
      both_ways (is_in xs x) distinct.0
      (ap (is_in xs) (eqb-true x v (sym (or-false (x == v)) ∙ within) ∙ sym
      (eqb-true y v (sym (or-false (y == v)) ∙ held))) ∙ h)))),
  singles_apart xs distinct.1,
)

pub leaf_level : LeafLevel
leaf_level p nodes links nest at_defects level = record {
  apart = singles_apart (leaves nodes) nest.defects;
  ends =
      All-map (λ s. ends_in s links ≡ 1) (λ d. d ∷ []) (leaves nodes)
      (All-from_is_in (λ d. ends_in (d ∷ []) links ≡ 1) (leaves nodes)
      (λ d leaf.
      let (m, a, mine) = leaf_among nodes d leaf in
      sum_same (λ l. as_count (is_in (d ∷ []) l.from) + as_count (is_in (d ∷ []) l.to))
      (λ l. as_count (is_in m.top.vertices l.from) + as_count (is_in m.top.vertices l.to)) links
      (λ i e less.
      let l : Link = get_or links i e in
      ap (λ x. as_count x + as_count (is_in (d ∷ []) l.to)) (same m a d mine l.from (at_defects i e less).0)
      ∙ ap (λ x. as_count (is_in m.top.vertices l.from) + as_count x) (same m a d mine l.to (at_defects i e less).1))
      ∙ All_among (λ s. ends_in s links ≡ 1) (leaf_sets nodes) level.ends m.top.vertices
      (map_among (λ n. n.top.vertices) (filter (λ n. is_empty n.children) nodes) m
      (childless_among nodes m a (childless m d mine)))));
  once = level.once;
}
  where
    same : (m : Node) → IsAmong m nodes → (d : ℕ) → is_in (defects_of m) d ≡ true → (v : ℕ)
        → (p.is_real v ≡ true → is_in (leaves nodes) v ≡ true) → is_in (d ∷ []) v ≡ is_in m.top.vertices v
    same m a d mine v at =
        let first : first_set m ≡ d ∷ [] = first_is m d (All_among IsFormed nodes nest.forest.formed m a) mine in
        same_bool (is_in (d ∷ []) v) (is_in m.top.vertices v)
        (λ h.
        first_within m v (All_among (λ x. AreGrown (layers_of x)) nodes nest.dual.grown m a)
        (ap (λ s. is_in s v) first ∙ h))
        (λ h.
        ap (λ s. is_in s v) (sym first)
        ∙ All_among
        (λ n. (c : ℕ) → is_in (leaves nodes) c ≡ true → is_in n.top.vertices c ≡ true → is_in (first_set n) c ≡ true)
        nodes
        (defects_in_first p nodes nest) m a v
        (at (is_in-All (λ u. p.is_real u ≡ true) m.top.vertices (top_is_odd p nodes nest m a).real v h)) h)

pub nest_resolved : NestResolved
nest_resolved p nodes links printed nest defects level tight at_defects are rising =
    solved_is_best p nodes (odd_edges p links) printed nest defects solved are rising
  where
    solved : IsSolved p (positive_cuts nodes) (odd_edges p links)
    solved =
        level_solved p (positive_cuts nodes) (leaves nodes) links (positive_packing p nodes nest.dual defects)
        (leaf_level p nodes links nest at_defects level)
        (λ i d less. record {
          walk = (tight i d less).walk;
          tight = (tight i d less).tight ∙ sym
              (positive_loads nodes (pair (get_or links i d).from (get_or links i d).to));
        })
        at_defects defects
