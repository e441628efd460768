-- Sums of link ends.
use Rattle.std.proofs.Common.{ℕ, ◌≡◌, ◌+◌, ◌*◌, ◌&&◌, ◌||◌, Bool, true, false, List, [], ◌∷◌, ◌++◌, All, refl, sym, ap, ◌∙◌, arith}
use Rattle.std.specs.List.{concat}
use Rattle.std.proofs.lemmas.Bool.{both_ways, false≢true, false_from_ne_true, or_from}
use Rattle.std.proofs.lemmas.List.Elements.{All-head, All-tail}
use Rattle.std.proofs.lemmas.List.Sums.{sum_by-cons, sum_by-append}
use Rattle.std.proofs.lemmas.List.Sorted.{sum_by-IsPermutation}
use Rattle.fb_graph.specs.Parity.{differ, is_in}
use Rattle.fb_graph.specs.Problem.{crosses}
use Rattle.fb_graph.specs.Laws.{Link, ends_of}
use Rattle.fb_graph.specs.Dual.{AreApart}
use Rattle.fb_graph.proofs.Members.{is_in-append}
use Rattle.fb_graph.specs.Counts.{as_count}
use Rattle.fb_graph.specs.Ends.{ends_in, EndsAppend, EndsPermuted, EndsUnion, EndsByCrossings, CrossedOnce}

-- the ends of one link in the set
abbrev pub ends_of_one : List ℕ → Link → ℕ
ends_of_one set l = as_count (is_in set l.from) + as_count (is_in set l.to)

pub ends-cons : (set : List ℕ) (l : Link) (links : List Link) → ends_in set (l ∷ links) ≡ ends_of_one set l + ends_in set links
ends-cons set l links = sum_by-cons (ends_of_one set) l links

pub ends_append : EndsAppend
ends_append set links more = sum_by-append (ends_of_one set) links more

pub ends_permuted : EndsPermuted
ends_permuted set links more same = sum_by-IsPermutation (ends_of_one set) links more same

pub apart_sym : (a b : List ℕ) → AreApart a b → AreApart b a
apart_sym a b apart v within = false_from_ne_true (is_in a v) (λ other. both_ways (is_in b v) (apart v other) within)

-- a set that is apart from each is apart from all together
pub apart_union : (set : List ℕ) (sets : List (List ℕ)) → All (AreApart set) sets → AreApart set (concat sets)
apart_union set [] apart v within = refl
apart_union set (s ∷ ss) apart v within =
    is_in-append s (concat ss) v
    ∙ or_from (is_in s v) (is_in (concat ss) v) (All-head (AreApart set) s ss apart v within)
    (apart_union set ss (All-tail (AreApart set) s ss apart) v within)

-- the ends in two sets that lie apart
pub ends_two : (a b : List ℕ) (links : List Link) → AreApart a b → ends_in (a ++ b) links ≡ ends_in a links + ends_in b links
ends_two a b [] apart = refl
ends_two a b (l ∷ links) apart =
    omega (
      arith,
      ends-cons (a ++ b) l links,
      ends-cons a l links,
      ends-cons b l links,
      ends_two a b links apart,
      one l.from,
      one l.to,
    )
  where
    either : (x y : Bool) → (x ≡ true → y ≡ false) → as_count (x || y) ≡ as_count x + as_count y
    either true true h = absurd (false≢true (sym (h refl)))
    either true false h = refl
    either false true h = refl
    either false false h = refl

    one : (v : ℕ) → as_count (is_in (a ++ b) v) ≡ as_count (is_in a v) + as_count (is_in b v)
    one v = ap as_count (is_in-append a b v) ∙ either (is_in a v) (is_in b v) (apart v)

pub ends_none : (links : List Link) → ends_in [] links ≡ 0
ends_none [] = refl
ends_none (l ∷ links) = omega (arith, ends-cons [] l links, ends_none links)

pub ends_union : EndsUnion
ends_union [] links apart = ends_none links
ends_union (s ∷ ss) links apart =
    omega (
      arith,
      ends_two s (concat ss) links (apart_union s ss apart.0),
      ends_union ss links apart.1,
      sum_by-cons (λ t. ends_in t links) s ss,
    )

pub ends_by_crossings : EndsByCrossings
ends_by_crossings set [] = refl
ends_by_crossings set (l ∷ links) =
    omega (
      arith,
      ends-cons set l links,
      sum_by-cons (λ m. as_count (crosses set (ends_of m))) l links,
      sum_by-cons (λ m. as_count (is_in set m.from && is_in set m.to)) l links,
      ends_by_crossings set links,
      each (is_in set l.from) (is_in set l.to),
    )
  where
    each : (a b : Bool) → as_count a + as_count b ≡ as_count (differ a b) + 2 * as_count (a && b)
    each true true = refl
    each true false = refl
    each false true = refl
    each false false = refl

pub crossed_once : CrossedOnce
crossed_once set links one = (omega (arith, one, ends_by_crossings set links), omega (arith, one, ends_by_crossings set links))
