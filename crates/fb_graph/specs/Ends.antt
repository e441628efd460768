-- How many ends of links lie in a set of vertices. A matched node has one, an unmatched node none.
use Rattle.std.specs.Prelude.{ℕ, ◌≡◌, ◌+◌, ◌*◌, ◌&&◌, List, [], ◌∷◌, ◌++◌, All, sum_by, count_by}
use Rattle.std.specs.List.{concat}
use Rattle.std.specs.List.Sorted.{IsPermutation}
use Rattle.fb_graph.specs.Parity.{is_in}
use Rattle.fb_graph.specs.Problem.{crosses}
use Rattle.fb_graph.specs.Laws.{Link, ends_of}
use Rattle.fb_graph.specs.Dual.{AreApart}
use Rattle.fb_graph.specs.Counts.{as_count}

abbrev pub ends_in : List ℕ → List Link → ℕ
ends_in set links = sum_by (λ l. as_count (is_in set l.from) + as_count (is_in set l.to)) links

-- any two of the sets share no vertex
abbrev pub AreAllApart : List (List ℕ) → Type 0
AreAllApart [] = Unit {0}
AreAllApart (s ∷ ss) = All (AreApart s) ss × AreAllApart ss

-- how many links have exactly one end in the set
abbrev pub crossing_links : List ℕ → List Link → ℕ
crossing_links set links = count_by (λ l. crosses set (ends_of l)) links

-- how many have both
abbrev pub inner_links : List ℕ → List Link → ℕ
inner_links set links = count_by (λ l. is_in set l.from && is_in set l.to) links

-- The ends of links of two lists.
abbrev pub EndsAppend : Type 0
EndsAppend = (set : List ℕ) (links more : List Link)
    → ends_in set (links ++ more) ≡ ends_in set links + ends_in set more

-- The order of the links doesn't matter.
abbrev pub EndsPermuted : Type 0
EndsPermuted = (set : List ℕ) (links more : List Link) → IsPermutation links more → ends_in set more ≡ ends_in set links

-- The ends in sets that lie apart add up.
abbrev pub EndsUnion : Type 0
EndsUnion = (sets : List (List ℕ)) (links : List Link) → AreAllApart sets
    → ends_in (concat sets) links ≡ sum_by (λ s. ends_in s links) sets

-- A link that crosses the set has one end in it, one inside it two.
abbrev pub EndsByCrossings : Type 0
EndsByCrossings = (set : List ℕ) (links : List Link)
    → ends_in set links ≡ crossing_links set links + 2 * inner_links set links

-- So a set with one end is crossed by one link, and none lies inside it.
abbrev pub CrossedOnce : Type 0
CrossedOnce = (set : List ℕ) (links : List Link) → ends_in set links ≡ 1
    → (crossing_links set links ≡ 1) × (inner_links set links ≡ 0)
