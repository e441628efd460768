-- There is at most one even path between two defects of a node.
use Rattle.std.proofs.Common.{◌≡◌, ◌⊎◌, inl, inr, ℕ, suc, ◌%◌, ◌<◌, ◌==◌, Bool, true, false, if◌then◌else◌, List, [], ◌∷◌, ◌++◌, length, Option, refl, sym, ◌∙◌, ap, subst, arith}
use Rattle.std.proofs.lemmas.Bool.{both_ways, cases_eq, cases_lt, eqb-true, or_cases}
use Rattle.fb_links.specs.Lists.{is_in}
use Rattle.fb_links.specs.declared.walk.Step.{Step}
use Rattle.fb_links.specs.Walks.{end_of, is_end, other_end, start_of}
use Rattle.fb_links.specs.Table.{walk_at}
use Rattle.fb_blossoms.specs.Nodes.{IsNested, Node, cycle_at, defects_at}
use Rattle.fb_blossoms.specs.Links.{AllLinked, LeadsOver, link_after, node_after, place_after, step_at}
use Rattle.fb_blossoms.specs.Paths.{GoesRound, IsEvenPath, ends_here, goes_on, goes_round, stays}
use Rattle.fb_blossoms.proofs.Rounds.{back_is, child_within, cycle_distinct, cycle_odd, on_round, onward_is, place_lt, place_zero, places_differ, round_apart, steps_differ}
use Rattle.fb_blossoms.proofs.SimplePaths.{simple_round}

-- even numbers of steps from one place to one other place
one_way : (count : ℕ) (onward : Bool) (s j k : ℕ) → s < count → j < count → k < count → place_after count onward s j ≡ place_after count onward s k → j ≡ k
one_way count onward s j k a b c e =
    elim (cases_eq j k) [
      | inl same ↦ same
      | inr differ ↦
          elim (cases_lt j k) [
            | inl less ↦ absurd (places_differ count onward s j k a less c e)
            | inr more ↦ let less : k < j = omega (arith, more, differ) in absurd (places_differ count onward s k j a less b (sym e))
          ]
    ]

other_way : (count s j k : ℕ) → count % 2 ≡ 1 → s < count → j < count → k < count → j % 2 ≡ 0 → k % 2 ≡ 0
    → place_after count true s j ≡ place_after count false s k → (j ≡ 0) × (k ≡ 0)
other_way count s j k odd a b c f g e =
    elim (onward_is count s j) [
      | inl h ↦ elim (back_is count s k c) [
        | inl i ↦ (omega (arith, e, h.0, i.0), omega (arith, e, h.0, i.0))
        | inr i ↦ absurd (omega (arith, e, h.0, i.0, odd, f, g))
      ]
      | inr h ↦ elim (back_is count s k c) [
        | inl i ↦ absurd (omega (arith, e, h.0, i.0, odd, f, g))
        | inr i ↦ (omega (arith, e, h.0, i.0, b, c), omega (arith, e, h.0, i.0, b, c))
      ]
    ]

same_steps : (count : ℕ) (o p : Bool) (s j k : ℕ) → count % 2 ≡ 1 → s < count → j < count → k < count → j % 2 ≡ 0 → k % 2 ≡ 0
    → place_after count o s j ≡ place_after count p s k → (j ≡ k) × ((j ≡ 0) ⊎ (o ≡ p))
same_steps count true true s j k odd a b c f g e = (one_way count true s j k a b c e, inr refl)
same_steps count false false s j k odd a b c f g e = (one_way count false s j k a b c e, inr refl)
same_steps count true false s j k odd a b c f g e = let r = other_way count s j k odd a b c f g e in (r.0 ∙ sym r.1, inl r.0)
same_steps count false true s j k odd a b c f g e = let r = other_way count s k j odd a c b g f (sym e) in (r.1 ∙ sym r.0, inl r.1)

-- a link leaves a set at one defect, if none of its ends is in the other set
one_exit : (walk : List Step) (x y : List ℕ) (exit exit' entry entry' : ℕ) → ((v : ℕ) → is_in x v ≡ true → is_in y v ≡ true → ⊥)
    → is_in x exit ≡ true → is_in x exit' ≡ true → is_in y entry ≡ true → is_in y entry' ≡ true → is_end walk exit ≡ true → is_end walk exit' ≡ true
    → other_end exit walk ≡ entry → other_end exit' walk ≡ entry' → exit ≡ exit'
one_exit walk x y exit exit' entry entry' apart a b c d e f g h =
    at (exit == end_of walk) (exit' == end_of walk) refl refl g h
  where
    at_start : (v : ℕ) → is_end walk v ≡ true → (v == end_of walk) ≡ false → v ≡ start_of walk
    at_start v i off =
        elim (or_cases (v == start_of walk) (v == end_of walk) i) [ inl k ↦ eqb-true v (start_of walk) k | inr k ↦ absurd (both_ways (v == end_of walk) off k) ]

    at : (p q : Bool) → (exit == end_of walk) ≡ p → (exit' == end_of walk) ≡ q → (if p then start_of walk else end_of walk) ≡ entry
        → (if q then start_of walk else end_of walk) ≡ entry' → exit ≡ exit'
    at true true i k m n = eqb-true exit (end_of walk) i ∙ sym (eqb-true exit' (end_of walk) k)
    at false false i k m n = at_start exit e i ∙ sym (at_start exit' f k)
    at true false i k m n = absurd (apart entry (ap (is_in x) (sym (at_start exit' f k ∙ m)) ∙ b) c)
    at false true i k m n = absurd (apart entry' (ap (is_in x) (sym (at_start exit e i ∙ n)) ∙ a) d)

module _ (links : List (Option (List Step))) (nodes : List (Option Node)) (nested : IsNested nodes) (linked : AllLinked links nodes) where
  -- the path from a defect to itself has no links
  mutual
    none_path : (name from to : ℕ) (path : List ℕ) → IsEvenPath links nodes name from to path → from ≡ to → path ≡ []
    none_path name from to path (stays n d h) e = refl
    none_path name from to path (goes_round n f t p o s k start small even way) e =
        elim (cases_eq k 0) [
          | inl zero_steps ↦ none_round n o s k f t p way zero_steps e
          | inr some ↦
              let less : 0 < k = omega (arith, some) in
              let r = simple_round links nodes nested linked n o s k f t p way start small in
              absurd
              (round_apart links nodes nested n s (linked n) start o k small 0 t less (ends_held n o s k f t p way)
              (ap (is_in (defects_at nodes (node_after (cycle_at nodes n) o s k))) (sym e) ∙ r.inner.held))
        ]

    none_round : (name : ℕ) (onward : Bool) (s k from to : ℕ) (path : List ℕ) → GoesRound links nodes name onward s k from to path → k ≡ 0 → from ≡ to → path ≡ []
    none_round name onward s k from to path (ends_here n o e f t p inner) z same = none_path (node_after (cycle_at nodes n) o e 0) f t p inner same
    none_round name onward s k from to path (goes_on n o e j f exit entry t front rest inner over way) z same = absurd (omega (arith, z))

    -- the last child holds the last defect
    path_held : (name from to : ℕ) (path : List ℕ) → IsEvenPath links nodes name from to path → is_in (defects_at nodes name) to ≡ true
    path_held name from to path (stays n d h) = h
    path_held name from to path (goes_round n f t p o s k start small even way) =
        let some : 0 < length (cycle_at nodes n) = omega (arith, start) in
        child_within nodes nested n _ (on_round links nodes nested n s (linked n) start o 0 some) t (ends_held n o s k f t p way)

    ends_held : (name : ℕ) (onward : Bool) (s k from to : ℕ) (path : List ℕ) → GoesRound links nodes name onward s k from to path
        → is_in (defects_at nodes (node_after (cycle_at nodes name) onward s 0)) to ≡ true
    ends_held name onward s k from to path (ends_here n o e f t p inner) = path_held (node_after (cycle_at nodes n) o e 0) f t p inner
    ends_held name onward s k from to path (goes_on n o e j f exit entry t front rest inner over way) = ends_held n o e j entry t rest way

  same_place : (n : ℕ) (o p : Bool) (s t j k d : ℕ) → s < length (cycle_at nodes n) → t < length (cycle_at nodes n) → j < length (cycle_at nodes n)
      → k < length (cycle_at nodes n) → is_in (defects_at nodes (node_after (cycle_at nodes n) o s j)) d ≡ true
      → is_in (defects_at nodes (node_after (cycle_at nodes n) p t k)) d ≡ true
      → place_after (length (cycle_at nodes n)) o s j ≡ place_after (length (cycle_at nodes n)) p t k
  same_place n o p s t j k d a b c e g h =
      let on = on_round links nodes nested n s (linked n) a o j c in
      let on' = on_round links nodes nested n t (linked n) b p k e in
      elim (cases_eq (place_after (length (cycle_at nodes n)) o s j) (place_after (length (cycle_at nodes n)) p t k)) [
        | inl same ↦ same
        | inr differ ↦
            absurd
            (steps_differ (cycle_at nodes n) (cycle_distinct nodes nested n _ on) _ _ (place_lt (length (cycle_at nodes n)) o s j a c) (place_lt (length (cycle_at nodes n)) p t k b e) differ
            (nested.children n _ _ d on on' g h))
      ]

  same_round : (n f t : ℕ) (path : List ℕ) (o : Bool) (s k : ℕ) (start : s < length (cycle_at nodes n)) (small : k < length (cycle_at nodes n)) (even : k % 2 ≡ 0)
      (way : GoesRound links nodes n o s k f t path)
      (ih : (p : Bool) (other : List ℕ) → GoesRound links nodes n p s k f t other → (k ≡ 0) ⊎ (o ≡ p) → path ≡ other)
      (other : List ℕ) (p : Bool) (s' k' : ℕ) (start' : s' < length (cycle_at nodes n)) (small' : k' < length (cycle_at nodes n)) (even' : k' % 2 ≡ 0)
      → GoesRound links nodes n p s' k' f t other → path ≡ other
  same_round n f t path o s k start small even way ih other p s' k' start' small' even' way' =
      let some : 0 < length (cycle_at nodes n) = omega (arith, start) in
      let ends : s ≡ s' =
      sym (place_zero (length (cycle_at nodes n)) o s start)
      ∙ (same_place n o p s s' 0 0 t start start' some some (ends_held n o s k f t path way) (ends_held n p s' k' f t other way')
      ∙ place_zero (length (cycle_at nodes n)) p s' start') in
      let first = simple_round links nodes nested linked n o s k f t path way start small in
      let first' = simple_round links nodes nested linked n p s' k' f t other way' start' small' in
      let begins : place_after (length (cycle_at nodes n)) o s k ≡ place_after (length (cycle_at nodes n)) p s k' =
      same_place n o p s s' k k' f start start' small small' first.inner.held first'.inner.held ∙ ap (λ q. place_after (length (cycle_at nodes n)) p q k') (sym ends) in
      let r = same_steps (length (cycle_at nodes n)) o p s k k' (cycle_odd nodes nested n _ (on_round links nodes nested n s (linked n) start o k small)) start small small' even even' begins in
      let P : ℕ → Type 0 = λ q. GoesRound links nodes n p q k' f t other in
      let Q : ℕ → Type 0 = λ q. GoesRound links nodes n p s q f t other in
      ih p other (subst Q (sym r.0) (subst P (sym ends) way')) r.1

  against : (n f t : ℕ) (path : List ℕ) (o : Bool) (s k : ℕ) → s < length (cycle_at nodes n) → k < length (cycle_at nodes n) → k % 2 ≡ 0
      → GoesRound links nodes n o s k f t path
      → ((p : Bool) (other : List ℕ) → GoesRound links nodes n p s k f t other → (k ≡ 0) ⊎ (o ≡ p) → path ≡ other)
      → (other : List ℕ) → IsEvenPath links nodes n f t other → path ≡ other
  against n f t path o s k start small even way ih other (stays m d h) = none_path m d d path (goes_round m d d path o s k start small even way) refl
  against n f t path o s k start small even way ih other (goes_round m g u q p s' k' start' small' even' way') =
      same_round m g u path o s k start small even way ih q p s' k' start' small' even' way'

  ends_case : (n : ℕ) (o : Bool) (s f t : ℕ) (path : List ℕ) → s < length (cycle_at nodes n)
      → ((other : List ℕ) → IsEvenPath links nodes (node_after (cycle_at nodes n) o s 0) f t other → path ≡ other)
      → (p : Bool) (k : ℕ) → k ≡ 0 → (other : List ℕ) → GoesRound links nodes n p s k f t other → path ≡ other
  ends_case n o s f t path start ih p k z other (ends_here m p' s' g u q inner) =
      let e : node_after (cycle_at nodes m) p' s' 0 ≡ node_after (cycle_at nodes m) o s' 0 =
      ap (λ i. (step_at (cycle_at nodes m) i).node) (place_zero (length (cycle_at nodes m)) p' s' start ∙ sym (place_zero (length (cycle_at nodes m)) o s' start)) in
      let P : ℕ → Type 0 = λ x. IsEvenPath links nodes x g u q in
      ih q (subst P e inner)
  ends_case n o s f t path start ih p k z other (goes_on m p' s' j g exit entry u front rest inner over way) = absurd (omega (arith, z))

  on_case : (n : ℕ) (o : Bool) (s j f exit entry t : ℕ) (front rest : List ℕ) → s < length (cycle_at nodes n) → suc j < length (cycle_at nodes n)
      → ((other : List ℕ) → IsEvenPath links nodes (node_after (cycle_at nodes n) o s (suc j)) f exit other → front ≡ other)
      → ((other : List ℕ) → GoesRound links nodes n o s j entry t other → rest ≡ other)
      → LeadsOver links nodes (link_after (cycle_at nodes n) o s j) (node_after (cycle_at nodes n) o s (suc j)) exit (node_after (cycle_at nodes n) o s j) entry
      → (k : ℕ) → k ≡ suc j → (other : List ℕ) → GoesRound links nodes n o s k f t other → front ++ link_after (cycle_at nodes n) o s j ∷ rest ≡ other
  on_case n o s j f exit entry t front rest start small ih_front ih_rest over k z other (ends_here m p s' g u q inner) = absurd (omega (arith, z))
  on_case n o s j f exit entry t front rest start small ih_front ih_rest over k z other (goes_on m p s' i g exit' entry' u front' rest' inner over' way) =
      let e : i ≡ j = omega (arith, z) in
      let P : ℕ → Type 0 = λ y. IsEvenPath links nodes (node_after (cycle_at nodes m) p s' (suc y)) g exit' front' in
      let Q : ℕ → Type 0 = λ y. LeadsOver links nodes (link_after (cycle_at nodes m) p s' y) (node_after (cycle_at nodes m) p s' (suc y)) exit' (node_after (cycle_at nodes m) p s' y) entry' in
      let R : ℕ → Type 0 = λ y. GoesRound links nodes m p s' y entry' u rest' in
      let now : LeadsOver links nodes (link_after (cycle_at nodes m) p s' j) (node_after (cycle_at nodes m) p s' (suc j)) exit' (node_after (cycle_at nodes m) p s' j) entry' = subst Q e over' in
      let less : j < suc j = omega arith in
      let exits : exit ≡ exit' =
      one_exit (walk_at links (link_after (cycle_at nodes m) p s' j)) (defects_at nodes (node_after (cycle_at nodes m) p s' (suc j))) (defects_at nodes (node_after (cycle_at nodes m) p s' j)) exit exit' entry entry'
      (λ v a b. round_apart links nodes nested m s' (linked m) start p (suc j) small j v less b a)
      over.leaves now.leaves over.enters now.enters over.end now.end over.other now.other in
      let entries : entry ≡ entry' = sym over.other ∙ (ap (λ v. other_end v (walk_at links (link_after (cycle_at nodes m) p s' j))) exits ∙ now.other) in
      let S : ℕ → Type 0 = λ v. IsEvenPath links nodes (node_after (cycle_at nodes m) p s' (suc j)) g v front' in
      let T : ℕ → Type 0 = λ v. GoesRound links nodes m p s' j v u rest' in
      let fronts : front ≡ front' = ih_front front' (subst S (sym exits) (subst P e inner)) in
      let rests : rest ≡ rest' = ih_rest rest' (subst T (sym entries) (subst R e way)) in
      ap (λ y. y ++ link_after (cycle_at nodes m) p s' j ∷ rest) fronts
      ∙ (ap (λ y. front' ++ link_after (cycle_at nodes m) p s' j ∷ y) rests ∙ ap (λ y. front' ++ link_after (cycle_at nodes m) p s' y ∷ rest') (sym e))

  same_way : (n : ℕ) (o p : Bool) (s j f t : ℕ) (other : List ℕ) → (suc j ≡ 0) ⊎ (o ≡ p) → GoesRound links nodes n p s (suc j) f t other
      → GoesRound links nodes n o s (suc j) f t other
  same_way n o p s j f t other (inl z) h = absurd (omega (arith, z))
  same_way n o p s j f t other (inr e) h = let P : Bool → Type 0 = λ b. GoesRound links nodes n b s (suc j) f t other in subst P (sym e) h

  mutual
    pub one_path : (name from to : ℕ) (path : List ℕ) → IsEvenPath links nodes name from to path → (other : List ℕ) → IsEvenPath links nodes name from to other → path ≡ other
    one_path name from to path (stays n d h) other g = sym (none_path n d d other g refl)
    one_path name from to path (goes_round n f t p o s k start small even way) other g =
        against n f t p o s k start small even way (λ q more w c. one_round n o s k f t p way start small q more w c) other g

    one_round : (name : ℕ) (onward : Bool) (s k from to : ℕ) (path : List ℕ) → GoesRound links nodes name onward s k from to path
        → s < length (cycle_at nodes name) → k < length (cycle_at nodes name) → (p : Bool) (other : List ℕ) → GoesRound links nodes name p s k from to other
        → (k ≡ 0) ⊎ (onward ≡ p) → path ≡ other
    one_round name onward s k from to path (ends_here n o e f t q inner) start small p other g c =
        ends_case n o e f t q start (λ more h. one_path (node_after (cycle_at nodes n) o e 0) f t q inner more h) p 0 refl other g
    one_round name onward s k from to path (goes_on n o e j f exit entry t front rest inner over way) start small p other g c =
        on_case n o e j f exit entry t front rest start small (λ more h. one_path (node_after (cycle_at nodes n) o e (suc j)) f exit front inner more h)
        (λ more h. one_round n o e j entry t rest way start (omega (arith, small)) o more h (inr refl)) over (suc j) refl other (same_way n o p e j f t other c g)
