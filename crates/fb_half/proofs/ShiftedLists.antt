-- Shifted defects at some vertices: a rising list of those that an odd number of three rising lists have.
use Rattle.std.proofs.Common.{ℕ, ◌≡◌, ◌<◌, ◌==◌, ◌&&◌, Bool, true, false, not, nat_lt, List, ◌++◌, All, filter, get_or, sym, ap, ◌∙◌, subst}
use Rattle.std.proofs.Math.Bool.{and-true, and-false}
use Rattle.std.specs.List.Sorted.{IsStrictlyIncreasing}
use Rattle.std.proofs.lemmas.Bool.{and_parts, ltb-true}
use Rattle.std.proofs.lemmas.List.Kept.{IsStrictlyIncreasing-filter}
use Rattle.fb_graph.specs.Limits.{DecodingGraph, IsGraph, IsShot, ShotValue, is_real_in, odd_ends, turned_edges}
use Rattle.fb_graph.specs.Parity.{differ, is_in, is_odd_count}
use Rattle.fb_graph.specs.Problem.{edge_at, touches}
use Rattle.fb_graph.specs.ShotGraphs.{shot_graph}
use Rattle.fb_graph.specs.Signs.{is_odd_end, shifted_defects}
use Rattle.fb_graph.proofs.ParitySums.{differ_assoc, odd-append}
use Rattle.fb_graph.proofs.Sets.{distinct_from_rising, is_in-filter, odd_equal, rising_same}
use Rattle.fb_graph.proofs.SignTurns.{shifted_by_turns}
use Rattle.fb_graph.proofs.ShiftedShots.{kept_are_real, kept_rise}

-- a real vertex is one of the graph
real_below : (g : DecodingGraph) (v : ℕ) → is_real_in g v ≡ true → v < g.vertices
real_below g v real = ltb-true v g.vertices (and_parts (nat_lt v g.vertices) (not (is_in g.virtuals v)) real).0

-- the vertices at which an odd number of edges end rise, and are vertices of the graph
pub ends_rise : (g : DecodingGraph) (ks : List ℕ) → IsStrictlyIncreasing (odd_ends g ks)
ends_rise g ks = kept_rise g (λ v. is_odd_count (λ k. touches v (edge_at g.edges k)) ks)

pub ends_below : (g : DecodingGraph) (ks : List ℕ) → All (λ v. v < g.vertices) (odd_ends g ks)
ends_below g ks =
    λ i d less. real_below g (get_or (odd_ends g ks) i d)
    (kept_are_real g (λ v. is_odd_count (λ k. touches v (edge_at g.edges k)) ks) i d less)

pub turned_rises : (g : DecodingGraph) (shot : ShotValue) → IsShot g shot → IsStrictlyIncreasing shot.turned
turned_rises g shot is = subst IsStrictlyIncreasing (sym is.turned) (ends_rise g (turned_edges g shot.changes))

pub turned_below : (g : DecodingGraph) (shot : ShotValue) → IsShot g shot → All (λ v. v < g.vertices) shot.turned
turned_below g shot is = subst (All (λ v. v < g.vertices)) (sym is.turned) (ends_below g (turned_edges g shot.changes))

-- shifted defects rise
pub shifted_rises : (g : DecodingGraph) (shot : ShotValue) → IsStrictlyIncreasing (shifted_defects g shot)
shifted_rises g shot =
    kept_rise g (λ v. differ (is_in shot.defects v) (is_odd_end (shot_graph g shot) (shot_graph g shot).negatives v))

-- the number occurs an odd number of times in a rising list if and only if the list has it
once : (xs : List ℕ) (v : ℕ) → IsStrictlyIncreasing xs → is_odd_count (λ u. u == v) xs ≡ is_in xs v
once xs v rising = odd_equal xs v (distinct_from_rising xs rising)

-- it has the numbers that an odd number of the lists have
pub members_odd : (xs ys zs odd : List ℕ) → IsStrictlyIncreasing xs → IsStrictlyIncreasing ys → IsStrictlyIncreasing zs → IsStrictlyIncreasing odd
    → ((test : ℕ → Bool) → is_odd_count test odd ≡ is_odd_count test ((xs ++ ys) ++ zs))
    → (v : ℕ) → is_in odd v ≡ differ (is_in xs v) (differ (is_in ys v) (is_in zs v))
members_odd xs ys zs odd rx ry rz rising parity v =
    sym (once odd v rising)
    ∙ (parity (λ u. u == v)
    ∙ (odd-append (λ u. u == v) (xs ++ ys) zs
    ∙ (ap (λ b. differ b (is_odd_count (λ u. u == v) zs)) (odd-append (λ u. u == v) xs ys)
    ∙ ((λ i. differ (differ (once xs v rx i) (once ys v ry i)) (once zs v rz i))
    ∙ differ_assoc (is_in xs v) (is_in ys v) (is_in zs v)))))

-- Filtered by one test, it has what passes of the numbers that an odd number of the unfiltered lists have.
pub odd_passes : (test : ℕ → Bool) (xs ys zs all odd : List ℕ) → IsStrictlyIncreasing xs → IsStrictlyIncreasing ys → IsStrictlyIncreasing zs
    → IsStrictlyIncreasing all → IsStrictlyIncreasing odd
    → ((v : ℕ) → is_in all v ≡ differ (is_in xs v) (differ (is_in ys v) (is_in zs v)))
    → ((t : ℕ → Bool) → is_odd_count t odd ≡ is_odd_count t ((filter test xs ++ filter test ys) ++ filter test zs))
    → odd ≡ filter test all
odd_passes test xs ys zs all odd rx ry rz ra rising members parity =
    rising_same odd (filter test all) rising (IsStrictlyIncreasing-filter test all ra) alike
  where
    kept : (b x y z a : Bool) → a ≡ differ x (differ y z) → differ (x && b) (differ (y && b) (z && b)) ≡ (a && b)
    kept true x y z a same =
        (λ i. differ (and-true x i) (differ (and-true y i) (and-true z i))) ∙ (sym same ∙ sym (and-true a))
    kept false x y z a same =
        (λ i. differ (and-false x i) (differ (and-false y i) (and-false z i))) ∙ sym (and-false a)

    alike : (v : ℕ) → is_in odd v ≡ is_in (filter test all) v
    alike v =
        members_odd (filter test xs) (filter test ys) (filter test zs) odd (IsStrictlyIncreasing-filter test xs rx)
        (IsStrictlyIncreasing-filter test ys ry) (IsStrictlyIncreasing-filter test zs rz) rising parity v
        ∙ ((λ i. differ (is_in-filter test xs v i) (differ (is_in-filter test ys v i) (is_in-filter test zs v i)))
        ∙ (kept (test v) (is_in xs v) (is_in ys v) (is_in zs v) (is_in all v) (members v) ∙ sym (is_in-filter test all v)))

-- The shifted defects that pass a test are those that are an odd number of times among what passes it of the defects, of the
-- odd ends of the graph's negative edges, and of those of the edges that the shot turns.
pub shifted_kept : (test : ℕ → Bool) (g : DecodingGraph) (shot : ShotValue) → IsGraph g → IsShot g shot
    → (odd given by_graph by_shot : List ℕ) → given ≡ filter test shot.defects → by_graph ≡ filter test (odd_ends g g.negatives)
    → by_shot ≡ filter test shot.turned → IsStrictlyIncreasing odd
    → ((t : ℕ → Bool) → is_odd_count t odd ≡ is_odd_count t ((given ++ by_graph) ++ by_shot))
    → odd ≡ filter test (shifted_defects g shot)
shifted_kept test g shot graph is odd given by_graph by_shot given_is graph_is shot_is rising parity =
    odd_passes test shot.defects (odd_ends g g.negatives) shot.turned (shifted_defects g shot) odd is.rising (ends_rise g g.negatives)
    (turned_rises g shot is) (shifted_rises g shot) rising (shifted_by_turns g shot graph is)
    (λ t. parity t ∙ (λ i. is_odd_count t ((given_is i ++ graph_is i) ++ shot_is i)))
