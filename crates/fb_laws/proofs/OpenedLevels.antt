-- Levels of opened blossoms.
use Rattle.std.proofs.Common.{ℕ, ◌≡◌, ◌+◌, ◌%◌, ◌≤◌, ◌==◌, ◌||◌, ◌⊎◌, inl, inr, Bool, true, false, List, [], ◌∷◌, ◌++◌, All, count_by, get_or, refl, sym, ap, ◌∙◌, arith}
use Rattle.std.proofs.Math.Bool.{or-false}
use Rattle.std.specs.List.{concat, list_any, IsDistinct}
use Rattle.std.proofs.lemmas.Bool.{both_ways, false≢true, false_from_ne_true, ne_eqb, or_cases, or_parts, or_from, cases_Bool}
use Rattle.std.proofs.lemmas.List.Sorted.{All-permutation, IsPermutation-refl, sum_by-IsPermutation}
use Rattle.std.proofs.lemmas.Map.Keys.{IsDistinct-IsPermutation}
use Rattle.std.proofs.lemmas.List.Elements.{All-nil, All-cons, All-head, All-tail, All-append, All-from_recursion, recursion_from_All}
use Rattle.std.proofs.lemmas.List.Sums.{sum_by-cons, sum_by-append, get_or-le-sum_by}
use Rattle.fb_graph.specs.Parity.{differ, is_odd_count, is_in}
use Rattle.fb_graph.specs.Problem.{touches, crosses}
use Rattle.fb_graph.specs.Laws.{Link, ends_of}
use Rattle.fb_graph.specs.Dual.{AreApart, IsWithin}
use Rattle.fb_graph.specs.declared.parts.Cut.{Cut}
use Rattle.fb_graph.proofs.Matching.{resolving}
use Rattle.fb_graph.proofs.Members.{is_in-append}
use Rattle.fb_graph.proofs.ParitySums.{differ_self, odd_agree, odd_none}
use Rattle.fb_graph.proofs.Sets.{is_in-All, is_in-cases, is_in-head, is_in-tail}
use Rattle.fb_graph.specs.Counts.{as_count}
use Rattle.fb_graph.specs.Ends.{ends_in, AreAllApart, crossing_links}
use Rattle.fb_laws.specs.Paths.{LeadsOut}
use Rattle.fb_laws.specs.Blossoms.{ArePaired}
use Rattle.fb_laws.specs.Opening.{IsWithinOne, IsAlikeOver, single_sets, WithinOnce, FirstLevel, NextLevel, LevelPermuted, LevelsOpened, LastLevel, LevelSolved}
use Rattle.fb_graph.proofs.EndSums.{ends-cons, ends_append, ends_union, ends_by_crossings, ends_permuted, crossed_once, apart_sym}
use Rattle.fb_graph.proofs.Booleans.{as_count-mono}
use Rattle.fb_laws.proofs.BlossomSums.{opened_once, opened_elsewhere}

ends-le : (inner outer : List ℕ) (links : List Link) → IsWithin inner outer → ends_in inner links ≤ ends_in outer links
ends-le inner outer [] within = omega arith
ends-le inner outer (l ∷ links) within =
    omega (
      arith,
      ends-cons inner l links,
      ends-cons outer l links,
      ends-le inner outer links within,
      as_count-mono (is_in inner l.from) (is_in outer l.from) (within l.from),
      as_count-mono (is_in inner l.to) (is_in outer l.to) (within l.to),
    )

pub within_once : WithinOnce
within_once inner outer links within one =
    omega (arith, one, ends-le inner outer links within, ends_by_crossings inner links)

pub first_level : FirstLevel
first_level cuts sets links apart ends within = record {
  apart = apart;
  ends = ends;
  once = λ i d less.
      let (j, below, inside) = within i d less in
      within_once (get_or cuts i d).vertices (get_or sets j []) links inside (ends j [] below);
}

-- new links between sets that a cut treats alike don't cross it
alike_uncrossed : (c : Cut) (b : Bool) (sets : List (List ℕ)) (links : List Link) → ArePaired sets links
    → All (λ s. (v : ℕ) → is_in s v ≡ true → is_in c.vertices v ≡ b) sets → crossing_links c.vertices links ≡ 0
alike_uncrossed c b [] [] paired alike = refl
alike_uncrossed c b (s ∷ t ∷ sets) (l ∷ links) ((v, out, within), paired) alike =
    omega (
      arith,
      sum_by-cons (λ m. as_count (crosses c.vertices (ends_of m))) l links,
      alike_uncrossed c b sets links paired (All-tail Alike t sets rest),
      ap as_count (one out),
    )
  where
    Alike : List ℕ → Type 0
    Alike u = (w : ℕ) → is_in u w ≡ true → is_in c.vertices w ≡ b

    rest : All (λ s. (v : ℕ) → is_in s v ≡ true → is_in c.vertices v ≡ b) (t ∷ sets)
    rest = All-tail Alike s (t ∷ sets) alike

    one : LeadsOut l s v → crosses c.vertices (ends_of l) ≡ false
    one (inl (from, to)) =
        ap (λ x. differ x (is_in c.vertices l.to)) (All-head Alike s (t ∷ sets) alike l.from from)
        ∙ (ap (λ x. differ b x) (ap (is_in c.vertices) to ∙ All-head Alike t sets rest v within) ∙ differ_self b)
    one (inr (to, from)) =
        ap (λ x. differ x (is_in c.vertices l.to)) (ap (is_in c.vertices) from ∙ All-head Alike t sets rest v within)
        ∙ (ap (λ x. differ b x) (All-head Alike s (t ∷ sets) alike l.to to) ∙ differ_self b)
alike_uncrossed c b (s ∷ []) links paired alike = absurd paired
alike_uncrossed c b [] (l ∷ links) paired alike = absurd paired
alike_uncrossed c b (s ∷ t ∷ sets) [] paired alike = absurd paired

apart-append : (sets more : List (List ℕ)) → AreAllApart sets → AreAllApart more → All (λ s. All (AreApart s) more) sets
    → AreAllApart (sets ++ more)
apart-append [] more first second across = second
apart-append (s ∷ ss) more first second across =
    let Across : List ℕ → Type 0 = λ t. All (AreApart t) more in (
      All-append (AreApart s) ss more first.0 (All-head Across s ss across),
      apart-append ss more first.1 second (All-tail Across s ss across),
    )

-- all of a list of sets within another lie within it together
union_within : (sets : List (List ℕ)) (set : List ℕ) → All (λ s. IsWithin s set) sets → IsWithin (concat sets) set
union_within [] set within v h = absurd (false≢true h)
union_within (s ∷ ss) set within v h =
    step (or_cases (is_in s v) (is_in (concat ss) v) (sym (is_in-append s (concat ss) v) ∙ h))
    (union_within ss set (All-tail (λ t. IsWithin t set) s ss within) v)
  where
    step : (is_in s v ≡ true) ⊎ (is_in (concat ss) v ≡ true) → (is_in (concat ss) v ≡ true → is_in set v ≡ true)
        → is_in set v ≡ true
    step (inl here) rest = All-head (λ t. IsWithin t set) s ss within v here
    step (inr there) rest = rest there

pub next_level : NextLevel
next_level cuts set kept paired rest links more level opening one = record {
  apart =
      apart-append (kept ∷ paired) rest opening.apart level.apart.1
      (λ i d less j e below.
      λ v within. level.apart.0 j e below v (opening.within i d less v within));
  ends =
      All-append (λ s. ends_in s (more ++ links) ≡ 1) (kept ∷ paired) rest ends_of_children
      (λ i d less.
      let r : List ℕ = get_or rest i d in
      omega (
        arith,
        ends_append r more links,
        opened_elsewhere r paired more opening.pairs
            (λ j e below v within.
            false_from_ne_true (is_in (get_or paired j e) v)
            (λ inside.
            both_ways (is_in r v)
            (level.apart.0 i d less v (All-tail (λ s. IsWithin s set) kept paired opening.within j e below v inside)) within)),
        All-tail (λ s. ends_in s links ≡ 1) set rest level.ends i d less,
      ));
  once = λ i d less. crossed (get_or cuts i d) (level.once i d less) (opening.nested i d less);
}
  where
    none_in_pairs : All (λ s. ends_in s links ≡ 0) paired
    none_in_pairs i d less =
        omega (
          arith,
          All-head (λ s. ends_in s links ≡ 1) set rest level.ends,
          ends-le (concat (kept ∷ paired)) set links (union_within (kept ∷ paired) set opening.within),
          ends_union (kept ∷ paired) links opening.apart,
          sum_by-cons (λ s. ends_in s links) kept paired,
          one,
          get_or-le-sum_by (λ s. ends_in s links) paired i d less,
        )

    ends_of_children : All (λ s. ends_in s (more ++ links) ≡ 1) (kept ∷ paired)
    ends_of_children =
        All-cons (λ s. ends_in s (more ++ links) ≡ 1) kept paired
        (omega (arith, ends_append kept more links, opened_elsewhere kept paired more opening.pairs opening.apart.0, one))
        (λ i d less.
        omega (
          arith,
          ends_append (get_or paired i d) more links,
          opened_once paired more opening.pairs opening.apart.1 i d less,
          none_in_pairs i d less,
        ))

    crossed : (c : Cut) → crossing_links c.vertices links ≤ 1 → IsWithinOne c (kept ∷ paired) ⊎ IsAlikeOver c paired
        → crossing_links c.vertices (more ++ links) ≤ 1
    crossed c before (inl (j, below, inside)) =
        within_once c.vertices (get_or (kept ∷ paired) j []) (more ++ links) inside (ends_of_children j [] below)
    crossed c before (inr (b, alike)) =
        omega (
          arith,
          before,
          sum_by-append (λ m. as_count (crosses c.vertices (ends_of m))) more links,
          alike_uncrossed c b paired more opening.pairs alike,
        )

-- whether two sets share a vertex
meets : List ℕ → List ℕ → Bool
meets a b = list_any (λ v. is_in b v) a

apart_from_meets : (a b : List ℕ) → meets a b ≡ false → AreApart a b
unfolding meets
apart_from_meets [] b none v within = absurd (false≢true within)
apart_from_meets (w ∷ ws) b none v within =
    step (is_in-cases w ws v within) (apart_from_meets ws b (or_parts (is_in b w) (meets ws b) none).1 v)
  where
    step : (w ≡ v) ⊎ (is_in ws v ≡ true) → (is_in ws v ≡ true → is_in b v ≡ false) → is_in b v ≡ false
    step (inl e) rest = ap (is_in b) (sym e) ∙ (or_parts (is_in b w) (meets ws b) none).0
    step (inr e) rest = rest e

meets_from_apart : (a b : List ℕ) → AreApart a b → meets a b ≡ false
unfolding meets
meets_from_apart [] b apart = refl
meets_from_apart (w ∷ ws) b apart =
    or_from (is_in b w) (meets ws b) (apart w (is_in-head w ws))
    (meets_from_apart ws b (λ v within. apart v (is_in-tail w ws v within)))

meets_flip : (a b : List ℕ) → meets a b ≡ meets b a
meets_flip a b = step (cases_Bool (meets a b)) (cases_Bool (meets b a))
  where
    step : (meets a b ≡ true) ⊎ (meets a b ≡ false) → (meets b a ≡ true) ⊎ (meets b a ≡ false) → meets a b ≡ meets b a
    step (inl e) (inl f) = e ∙ sym f
    step (inr e) (inr f) = e ∙ sym f
    step (inl e) (inr f) =
        absurd (both_ways (meets a b) (meets_from_apart a b (apart_sym b a (apart_from_meets b a f))) e)
    step (inr e) (inl f) =
        absurd (both_ways (meets b a) (meets_from_apart b a (apart_sym a b (apart_from_meets a b e))) f)

distinct_from_apart : (sets : List (List ℕ)) → AreAllApart sets → IsDistinct meets sets
unfolding IsDistinct
distinct_from_apart [] apart = tt
distinct_from_apart (s ∷ ss) apart = (
  recursion_from_All (λ t. meets s t ≡ false) ss (λ i d less. meets_from_apart s (get_or ss i d) (apart.0 i d less)),
  distinct_from_apart ss apart.1,
)

apart_from_distinct : (sets : List (List ℕ)) → IsDistinct meets sets → AreAllApart sets
unfolding IsDistinct
apart_from_distinct [] distinct = tt
apart_from_distinct (s ∷ ss) distinct = (
  λ i d less. apart_from_meets s (get_or ss i d) (All-from_recursion (λ t. meets s t ≡ false) ss distinct.0 i d less),
  apart_from_distinct ss distinct.1,
)

pub level_permuted : LevelPermuted
level_permuted cuts sets more links others moved shuffled level = record {
  apart =
      apart_from_distinct more
      (IsDistinct-IsPermutation meets meets_flip sets more moved (distinct_from_apart sets level.apart));
  ends = λ i d less.
      omega (
        arith,
        ends_permuted (get_or more i d) links others shuffled,
        All-permutation (λ s. ends_in s links ≡ 1) sets more moved level.ends i d less,
      );
  once = λ i d less.
      let bound = level.once i d less in
      omega (
        arith,
        bound,
        sum_by-IsPermutation (λ m. as_count (crosses (get_or cuts i d).vertices (ends_of m))) links others shuffled,
      );
}

pub levels_opened : LevelsOpened
levels_opened cuts sets last_sets links last_links [] level (moved, shuffled) =
    level_permuted cuts sets last_sets links last_links moved shuffled level
levels_opened cuts sets last_sets links last_links (o ∷ os) level (moved, opening, one, rest) =
    levels_opened cuts (o.kept ∷ o.paired ++ o.rest) last_sets (o.links ++ links) last_links os
    (next_level cuts o.set o.kept o.paired o.rest links o.links
    (level_permuted cuts sets (o.set ∷ o.rest) links links moved (IsPermutation-refl links) level) opening one)
    rest

-- a count has the parity of the test
odd_of_count : {X : Type 0} (test : X → Bool) (xs : List X) → count_by test xs % 2 ≡ as_count (is_odd_count test xs)
odd_of_count test [] = refl
odd_of_count test (x ∷ xs) =
    omega (
      arith,
      sum_by-cons (λ y. as_count (test y)) x xs,
      odd_of_count test xs,
      both (test x) (is_odd_count test xs),
    )
  where
    both : (a b : Bool) → (as_count a + as_count b) % 2 ≡ as_count (differ a b)
    both true true = refl
    both true false = refl
    both false true = refl
    both false false = refl

true_of_count : (b : Bool) → as_count b ≡ 1 → b ≡ true
true_of_count true e = refl
true_of_count false e = absurd (omega arith)

single_at : (defects : List ℕ) (links : List Link) → All (λ s. ends_in s links ≡ 1) (single_sets defects)
    → All (λ d. ends_in (d ∷ []) links ≡ 1) defects
single_at [] links ends = All-nil (λ d. ends_in (d ∷ []) links ≡ 1)
single_at (x ∷ xs) links ends =
    All-cons (λ d. ends_in (d ∷ []) links ≡ 1) x xs (All-head (λ s. ends_in s links ≡ 1) (x ∷ []) (single_sets xs) ends)
    (single_at xs links (All-tail (λ s. ends_in s links ≡ 1) (x ∷ []) (single_sets xs) ends))

pub last_level : LastLevel
last_level p cuts defects links level tight at_defects same = record {
  walks = λ i d less. (tight i d less).walk;
  tight = λ i d less. (tight i d less).tight;
  flips = λ v real. flip v real (cases_Bool (is_in defects v));
  once = level.once;
}
  where
    flip : (v : ℕ) → p.is_real v ≡ true → (is_in defects v ≡ true) ⊎ (is_in defects v ≡ false)
        → is_odd_count (λ l. touches v (ends_of l)) links ≡ p.is_defect v
    flip v real (inl defect) =
        let one : ends_in (v ∷ []) links ≡ 1 =
        is_in-All (λ d. ends_in (d ∷ []) links ≡ 1) defects (single_at defects links level.ends) v defect in
        odd_agree (λ l. touches v (ends_of l)) (λ l. crosses (v ∷ []) (ends_of l)) links
        (λ i d less.
        let l : Link = get_or links i d in
        ap (λ b. differ b (v == l.to)) (sym (or-false (v == l.from)))
        ∙ ap (differ ((v == l.from) || false)) (sym (or-false (v == l.to))))
        ∙ (true_of_count (is_odd_count (λ l. crosses (v ∷ []) (ends_of l)) links)
        (omega (arith, odd_of_count (λ l. crosses (v ∷ []) (ends_of l)) links, (crossed_once (v ∷ []) links one).0))
        ∙ (sym defect ∙ sym (same v real)))
    flip v real (inr other) =
        odd_agree (λ l. touches v (ends_of l)) (λ l. false) links
        (λ i d less.
        let l : Link = get_or links i d in
        ap (λ b. differ b (v == l.to))
        (ne_eqb v l.from
        (λ e. both_ways (is_in defects v) other (ap (is_in defects) e ∙ (at_defects i d less).0 (ap p.is_real (sym e) ∙ real))))
        ∙ ap (differ false)
        (ne_eqb v l.to
        (λ e. both_ways (is_in defects v) other (ap (is_in defects) e ∙ (at_defects i d less).1 (ap p.is_real (sym e) ∙ real)))))
        ∙ (odd_none links ∙ (sym other ∙ sym (same v real)))

pub level_solved : LevelSolved
level_solved p cuts defects links packing level tight at_defects same =
    resolving p cuts links packing (last_level p cuts defects links level tight at_defects same)
