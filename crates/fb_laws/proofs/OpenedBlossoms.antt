-- A blossom of a nest opened in a search.
use Rattle.std.proofs.Common.{ℕ, ◌≡◌, ◌%◌, ◌==◌, ◌⊎◌, inl, inr, true, false, List, [], ◌∷◌, ◌++◌, length, refl, sym, ◌∙◌, subst, arith}
use Rattle.std.specs.List.{AllByRecursion, IsDistinct}
use Rattle.std.specs.List.Sorted.{IsPermutation}
use Rattle.std.proofs.lemmas.Bool.{both_ways, cases_Bool, false_from_ne_true, or_from, or_parts}
use Rattle.std.proofs.lemmas.List.Sorted.{All-permutation, IsPermutation-sym, IsPermutation-trans, length_permutation}
use Rattle.std.proofs.lemmas.Map.Keys.{IsDistinct-IsPermutation}
use Rattle.fb_graph.specs.Parity.{is_in}
use Rattle.fb_graph.specs.Problem.{Problem}
use Rattle.fb_graph.specs.Certificate.{AreDistinct}
use Rattle.fb_graph.specs.Laws.{Link}
use Rattle.fb_graph.specs.Dual.{Node, is_empty}
use Rattle.fb_graph.proofs.Sets.{equal_sym, is_in-All, is_in_at}
use Rattle.fb_graph.specs.Nests.{IsNest, AreMany}
use Rattle.fb_graph.specs.Moves.{MaySplit}
use Rattle.fb_laws.specs.Works.{AreMatchedLinks}
use Rattle.fb_laws.specs.Trees.{Entry, Connects}
use Rattle.fb_laws.specs.Searches.{IsSearch}
use Rattle.fb_laws.specs.SearchOpenings.{IsSplit, IsOpenedTree}
use Rattle.fb_laws.specs.OpenedCycles.{Pass, Couple, ArePassed, AreCoupled, last_of, paired_of, matched_on, grown_on, matched_beside, opened_tree, IsOpenedCycle, BlossomOpened}
use Rattle.fb_graph.proofs.Among.{IsAmong, among_right}
use Rattle.fb_laws.proofs.CycleWays.{way_round}
use Rattle.fb_laws.proofs.OpenedCycles.{cycle_opened}
use Rattle.fb_graph.proofs.SplitNests.{nest_split}
use Rattle.fb_graph.proofs.NestParts.{joins_many, split_is_bare}
use Rattle.fb_laws.proofs.SplitStates.{split_at, split_off}

-- names that differ do so in any order
distinct_from : (xs : List ℕ) → AreDistinct xs → IsDistinct (λ x y. x == y) xs
unfolding IsDistinct
distinct_from [] distinct = tt
distinct_from (x ∷ xs) distinct = (each xs distinct.0, distinct_from xs distinct.1)
  where
    each : (ys : List ℕ) → is_in ys x ≡ false → AllByRecursion (λ y. (x == y) ≡ false) ys
    each [] none = tt
    each (y ∷ ys) none = let parts = or_parts (y == x) (is_in ys x) none in (equal_sym x y ∙ parts.0, each ys parts.1)

distinct_to : (xs : List ℕ) → IsDistinct (λ x y. x == y) xs → AreDistinct xs
unfolding IsDistinct
distinct_to [] distinct = tt
distinct_to (x ∷ xs) distinct = (none xs distinct.0, distinct_to xs distinct.1)
  where
    none : (ys : List ℕ) → AllByRecursion (λ y. (x == y) ≡ false) ys → is_in ys x ≡ false
    none [] all = refl
    none (y ∷ ys) all = or_from (y == x) (is_in ys x) (equal_sym y x ∙ all.0) (none ys all.1)

pub distinct_permuted : (xs ys : List ℕ) → IsPermutation xs ys → AreDistinct xs → AreDistinct ys
distinct_permuted xs ys moved distinct =
    distinct_to ys (IsDistinct-IsPermutation (λ x y. x == y) equal_sym xs ys moved (distinct_from xs distinct))

pub in_permuted : (xs ys : List ℕ) → IsPermutation xs ys → (n : ℕ) → is_in xs n ≡ true → is_in ys n ≡ true
in_permuted xs ys moved n within =
    is_in-All (λ x. is_in ys x ≡ true) xs
    (All-permutation (λ x. is_in ys x ≡ true) ys xs (IsPermutation-sym xs ys moved) (λ i d less. is_in_at ys i d less)) n within

pub same_permuted : (xs ys : List ℕ) → IsPermutation xs ys → (n : ℕ) → is_in ys n ≡ is_in xs n
same_permuted xs ys moved n = step (cases_Bool (is_in xs n))
  where
    step : (is_in xs n ≡ true) ⊎ (is_in xs n ≡ false) → is_in ys n ≡ is_in xs n
    step (inl within) = in_permuted xs ys moved n within ∙ sym within
    step (inr out) =
        false_from_ne_true (is_in ys n)
        (λ there. both_ways (is_in xs n) out (in_permuted ys xs (IsPermutation-sym xs ys moved) n there))
        ∙ sym out

module _ (p : Problem) (before after : List Node) (b : Node) (newer older : List Entry) (e : Entry) (rest : List Link) (unmatched : List ℕ)
    (root r first : ℕ) (names : List ℕ) (links : List Link) (from to : ℕ) (nest : IsNest p (before ++ b ∷ after))
    (may : MaySplit (before ++ b ∷ after) b.name) (is : e.minus ≡ b.name)
    (state : IsSearch p (before ++ b ∷ after) (newer ++ e ∷ older) rest unmatched root r) (round : IsPermutation b.children (first ∷ names))
    (are : AreMatchedLinks p (before ++ b ∷ after) links) (closed : (n : ℕ) → is_in b.children n ≡ true → is_in unmatched n ≡ false)
    (above : Connects (before ++ after) e.tree e.parent from) (below : Connects (before ++ after) e.matched to e.plus) where
  there : IsAmong b (before ++ b ∷ after)
  there = among_right before (b ∷ after) b (inl refl)

  some : is_empty b.children ≡ false
  some = (split_is_bare (before ++ b ∷ after) b.name may b there refl).0

  many : AreMany b.children
  many = joins_many p (before ++ b ∷ after) nest b there some

  pub even : length names % 2 ≡ 0
  even = let size : length (first ∷ names) ≡ length b.children = length_permutation b.children (first ∷ names) round in omega (arith, size, many.odd)

  pub on_round : (n : ℕ) → is_in b.children n ≡ true → is_in (first ∷ names) n ≡ true
  on_round = in_permuted b.children (first ∷ names) round

  nest_after : IsNest p (before ++ after)
  nest_after = subst (IsNest p) (split_at before after b nest.dual.names) (nest_split p (before ++ b ∷ after) b.name may nest)

  pub opened : (way : List Pass) (couples : List Couple) → last_of from way ≡ to → ArePassed (before ++ after) from way
      → AreCoupled (before ++ after) couples → IsPermutation (first ∷ names) (last_of from way ∷ paired_of from way couples)
      → AreMatchedLinks p (before ++ b ∷ after) (matched_on way ++ (grown_on way ++ matched_beside couples))
      → IsOpenedTree p (before ++ b ∷ after) (before ++ after) newer older (opened_tree newer e older from way) e (last_of from way)
      (paired_of from way couples) (matched_on way ++ matched_beside couples) rest (matched_beside couples ++ rest) unmatched root
  opened way couples ends passed coupled moved matched =
      cycle_opened p (before ++ b ∷ after) (before ++ after) newer older e rest unmatched root r from way couples cycle nest_after.dual state
    where
      around : IsPermutation b.children (last_of from way ∷ paired_of from way couples)
      around = IsPermutation-trans b.children (first ∷ names) (last_of from way ∷ paired_of from way couples) round moved

      cycle : IsOpenedCycle p (before ++ b ∷ after) (before ++ after) e from way couples unmatched
      cycle = record {
        split =
            subst (λ n. IsSplit (before ++ b ∷ after) (before ++ after) n (last_of from way ∷ paired_of from way couples)) (sym is)
            (split_off p before after b (last_of from way ∷ paired_of from way couples) may nest
            (same_permuted b.children (last_of from way ∷ paired_of from way couples) around)).1;
        distinct = distinct_permuted b.children (last_of from way ∷ paired_of from way couples) around many.distinct;
        above = above;
        below = subst (λ n. Connects (before ++ after) e.matched n e.plus) (sym ends) below;
        passed = passed;
        coupled = coupled;
        links = matched;
        closed = λ n among.
            closed n
            (in_permuted (last_of from way ∷ paired_of from way couples) b.children
            (IsPermutation-sym b.children (last_of from way ∷ paired_of from way couples) around) n among);
      }

pub blossom_opened : BlossomOpened
blossom_opened p before after b newer older e rest unmatched root r first names links from to nest may is state round linked are closed in_from above in_to below =
    finish
    (way_round (before ++ after) first names links from to linked
    (even p before after b newer older e rest unmatched root r first names links from to nest may is state round are closed above below)
    (around from in_from) (around to in_to))
  where
    around : (n : ℕ) → is_in b.children n ≡ true → is_in (first ∷ names) n ≡ true
    around =
        on_round p before after b newer older e rest unmatched root r first names links from to nest may is state round are closed above below

    finish : (way : List Pass) × (couples : List Couple) × (last_of from way ≡ to) × ArePassed (before ++ after) from way
        × AreCoupled (before ++ after) couples × IsPermutation (first ∷ names) (last_of from way ∷ paired_of from way couples)
        × ((q : Problem) (ns : List Node) → AreMatchedLinks q ns links
        → AreMatchedLinks q ns (matched_on way ++ (grown_on way ++ matched_beside couples)))
        → (way : List Pass) × (couples : List Couple) × (last_of from way ≡ to)
        × IsOpenedTree p (before ++ b ∷ after) (before ++ after) newer older (opened_tree newer e older from way) e (last_of from way)
        (paired_of from way couples) (matched_on way ++ matched_beside couples) rest (matched_beside couples ++ rest) unmatched root
    finish (way, couples, ends, passed, coupled, moved, kept) = (
      way,
      couples,
      ends,
      opened p before after b newer older e rest unmatched root r first names links from to nest may is state round are closed above below way
          couples ends passed coupled moved (kept p (before ++ b ∷ after) are),
    )
