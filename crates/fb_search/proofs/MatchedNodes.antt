-- What it says for the unmatched nodes of a part that trees have grown from some of them until each was matched.
use Rattle.std.proofs.Common.{ℕ, ◌≡◌, ◌∷◌, ◌==◌, filter, not, Bool, true, false, List, [], All, drop, take, refl, sym, ap, subst, ◌∙◌, arith}
use Rattle.std.proofs.lemmas.Bool.{and_from, and_parts, both_ways, not_from_false, or_parts}
use Rattle.std.proofs.lemmas.List.{take-append-drop}
use Rattle.fb_graph.specs.Parity.{is_in}
use Rattle.fb_graph.specs.Certificate.{AreDistinct}
use Rattle.fb_graph.proofs.Members.{distinct_left}
use Rattle.fb_graph.proofs.Sets.{All-from_is_in, equal_sym, is_in-filter, is_in-head}
use Rattle.fb_laws.proofs.TreePaths.{distinct_right}
use Rattle.fb_half.specs.Parts.{PartValue}
use Rattle.fb_search.specs.InternalGrowthRuns.{AreMatched}
use Rattle.fb_search.specs.Progress.{IsSearched}

-- a tree that has grown from one node has matched it, as a search does
pub searched_alone : (root : ℕ) (before after : PartValue) → AreMatched (root ∷ []) before after → IsSearched root before after
searched_alone root before after are = record {
  part = are.part;
  others = λ n unmatched.
      let (was, other) = are.others n unmatched in
      is_in-filter (λ m. not (m == root)) before.matching.unmatched n
      ∙ and_from (is_in before.matching.unmatched n) (not (n == root)) was
      (not_from_false (n == root) (equal_sym n root ∙ (or_parts (root == n) false other).0));
  kept = are.kept;
  fewer = omega (arith, are.least);
  few = omega (arith, are.most);
}

-- trees that have grown from all unmatched nodes have left none
pub matched_all : (roots : List ℕ) (before after : PartValue) → roots ≡ before.matching.unmatched → AreMatched roots before after
    → after.matching.unmatched ≡ []
matched_all roots before after all are =
    none_in after.matching.unmatched
    (λ n unmatched.
    let (was, other) = are.others n unmatched in both_ways (is_in roots n) other (ap (λ l. is_in l n) all ∙ was))
  where
    none_in : (xs : List ℕ) → ((n : ℕ) → is_in xs n ≡ true → ⊥) → xs ≡ []
    none_in [] none = refl
    none_in (x ∷ xs) none = absurd (none x (is_in-head x xs))

pub filter_passes : (test : ℕ → Bool) (xs : List ℕ) → All (λ n. test n ≡ true) (filter test xs)
filter_passes test xs =
    All-from_is_in (λ n. test n ≡ true) (filter test xs)
    (λ n has. (and_parts (is_in xs n) (test n) (sym (is_in-filter test xs n) ∙ has)).1)

-- so many of a distinct list from a place on
pub distinct_within : (at many : ℕ) (xs : List ℕ) → AreDistinct xs → AreDistinct (take many (drop at xs))
distinct_within at many xs distinct =
    distinct_left (take many (drop at xs)) (drop many (drop at xs))
    (subst AreDistinct (sym (take-append-drop many (drop at xs)))
    (distinct_right (take at xs) (drop at xs) (subst AreDistinct (sym (take-append-drop at xs)) distinct)))
