-- The vertices where the edges' parity isn't the shot's occur an odd number of times among the edges' ends and the
-- defects together.
use Rattle.std.proofs.Common.{ℕ, ◌<◌, ◌≡◌, ◌==◌, ◌&&◌, not, nat_lt, Bool, true, List, [], ◌∷◌, ◌++◌, length, get_or, All, sym, ap, ◌∙◌}
use Rattle.std.proofs.Math.Bool.{and_comm}
use Rattle.std.specs.List.{find}
use Rattle.std.specs.List.Sorted.{IsStrictlyIncreasing}
use Rattle.std.proofs.lemmas.Bool.{and_parts, lt-ltb, ltb-true}
use Rattle.std.proofs.lemmas.List.Elements.{All-head, All-tail, All-cons, All-nil, All-append}
use Rattle.fb_graph.specs.Parity.{differ, is_in, is_odd_count}
use Rattle.fb_graph.specs.Problem.{touches, edge_at, no_edge}
use Rattle.fb_graph.specs.Limits.{DecodingGraph, IsEdge, IsGraph, IsShot, ShotValue, is_real_in, problem_of}
use Rattle.fb_graph.proofs.ParitySums.{differ-false, odd-append, odd_same, odd-flat_map}
use Rattle.fb_graph.proofs.Sets.{All-from_is_in, is_in-All, distinct_from_rising, odd_equal, equal_sym}
use Rattle.fb_verify.specs.InternalMarks.{ends_of}
use Rattle.fb_verify.specs.Verdicts.{has_wrong_parity}
use Rattle.fb_graph.specs.Leasts.{least}
use Rattle.fb_verify.proofs.Leasts.{least-from_rising}

pub ends_below : (g : DecodingGraph) (ks : List ℕ) → IsGraph g → All (λ k. k < length g.edges) ks
    → All (λ v. v < g.vertices) (ends_of g.edges ks)
ends_below g [] graph all = All-nil _
ends_below g (k ∷ ks) graph all =
    let edge : IsEdge g.vertices (edge_at g.edges k) = graph.each_edge k no_edge (All-head (λ j. j < length g.edges) k ks all) in
    All-cons (λ v. v < g.vertices) (edge_at g.edges k).first ((edge_at g.edges k).second ∷ ends_of g.edges ks) edge.first
    (All-cons (λ v. v < g.vertices) (edge_at g.edges k).second (ends_of g.edges ks) edge.second
    (ends_below g ks graph (All-tail (λ j. j < length g.edges) k ks all)))

pub real-below : (g : DecodingGraph) (v : ℕ) → is_real_in g v ≡ true → v < g.vertices
real-below g v real = ltb-true v g.vertices (and_parts (nat_lt v g.vertices) (not (is_in g.virtuals v)) real).0

pub marks_below : (g : DecodingGraph) (shot : ShotValue) (ks : List ℕ) → IsGraph g → IsShot g shot → All (λ k. k < length g.edges) ks
    → All (λ v. v < g.vertices) (ends_of g.edges ks ++ shot.defects)
marks_below g shot ks graph is_shot within =
    All-append (λ v. v < g.vertices) (ends_of g.edges ks) shot.defects (ends_below g ks graph within)
    (λ k d less. real-below g (get_or shot.defects k d) (is_shot.real k d less))

pub odd-marks : (g : DecodingGraph) (shot : ShotValue) (ks : List ℕ) → IsShot g shot → (v : ℕ)
    → is_odd_count (λ u. u == v) (ends_of g.edges ks ++ shot.defects)
    ≡ differ (is_odd_count (λ k. touches v (edge_at g.edges k)) ks) (is_in shot.defects v)
odd-marks g shot ks is_shot v =
    odd-append (λ u. u == v) (ends_of g.edges ks) shot.defects
    ∙ (ap (λ b. differ b (is_odd_count (λ u. u == v) shot.defects)) ends
    ∙ ap (differ (is_odd_count (λ k. touches v (edge_at g.edges k)) ks)) (odd_equal shot.defects v (distinct_from_rising shot.defects is_shot.rising)))
  where
    two : (k : ℕ) → is_odd_count (λ u. u == v) ((edge_at g.edges k).first ∷ (edge_at g.edges k).second ∷ []) ≡ touches v (edge_at g.edges k)
    two k =
        ap (differ ((edge_at g.edges k).first == v)) (differ-false ((edge_at g.edges k).second == v))
        ∙ (ap (λ b. differ b ((edge_at g.edges k).second == v)) (equal_sym (edge_at g.edges k).first v)
        ∙ ap (differ (v == (edge_at g.edges k).first)) (equal_sym (edge_at g.edges k).second v))

    ends : is_odd_count (λ u. u == v) (ends_of g.edges ks) ≡ is_odd_count (λ k. touches v (edge_at g.edges k)) ks
    ends =
        odd-flat_map (λ k. (edge_at g.edges k).first ∷ (edge_at g.edges k).second ∷ []) (λ u. u == v) ks
        ∙ odd_same (λ k. is_odd_count (λ u. u == v) ((edge_at g.edges k).first ∷ (edge_at g.edges k).second ∷ [])) (λ k. touches v (edge_at g.edges k)) two ks

pub odd-below : (odd marks : List ℕ) (n : ℕ) → ((v : ℕ) → is_in odd v ≡ true → is_in marks v ≡ true)
    → All (λ v. v < n) marks → All (λ v. v < n) odd
odd-below odd marks n inside below = All-from_is_in (λ v. v < n) odd (λ v h. is_in-All (λ u. u < n) marks below v (inside v h))

pub least_wrong : (g : DecodingGraph) (shot : ShotValue) (ks odd : List ℕ) → IsShot g shot → IsStrictlyIncreasing odd
    → All (λ v. v < g.vertices) odd
    → ((test : ℕ → Bool) → is_odd_count test odd ≡ is_odd_count test (ends_of g.edges ks ++ shot.defects))
    → find (λ v. not (is_in g.virtuals v)) odd ≡ least g.vertices (has_wrong_parity (problem_of g shot) ks)
least_wrong g shot ks odd is_shot rising below parity =
    least-from_rising (λ v. not (is_in g.virtuals v)) (has_wrong_parity (problem_of g shot) ks) odd g.vertices rising below same
  where
    same : (v : ℕ) → v < g.vertices → (is_in odd v && not (is_in g.virtuals v)) ≡ has_wrong_parity (problem_of g shot) ks v
    same v less =
        ap (λ b. b && not (is_in g.virtuals v))
        (sym (odd_equal odd v (distinct_from_rising odd rising)) ∙ (parity (λ u. u == v) ∙ odd-marks g shot ks is_shot v))
        ∙ (and_comm (differ (is_odd_count (λ k. touches v (edge_at g.edges k)) ks) (is_in shot.defects v)) (not (is_in g.virtuals v))
        ∙ ap (λ b. (b && not (is_in g.virtuals v)) && differ (is_odd_count (λ k. touches v (edge_at g.edges k)) ks) (is_in shot.defects v)) (sym (lt-ltb v g.vertices less)))
