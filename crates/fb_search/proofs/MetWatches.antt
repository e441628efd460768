-- The edges that are watched where two trees end.
use Rattle.std.proofs.Common.{ℕ, ◌≡◌, ◌<◌, ◌⊎◌, inl, inr, Bool, true, false, List, ◌++◌, length, ◌∙◌}
use Rattle.std.specs.List.{list_any}
use Rattle.fb_graph.specs.Dual.{Node, top_at}
use Rattle.fb_graph.specs.Parity.{is_in}
use Rattle.fb_graph.specs.Problem.{Problem, edge_at, touches}
use Rattle.fb_graph.proofs.Among.{among_is_in, none_any}
use Rattle.fb_graph.proofs.Floods.{is_in-both}
use Rattle.fb_obstacles.specs.InternalWatch.{StaysRight}
use Rattle.fb_obstacles.specs.Watched.{Watched}
use Rattle.fb_obstacles.proofs.ForgottenBounds.{right_twice}
use Rattle.fb_search.specs.InternalGrowingEnds.{WatchesEach}
use Rattle.fb_search.proofs.ClosedWatches.{none_in}

-- the edge has no end at a node among these
abbrev IsBeside : Problem → List Node → List ℕ → ℕ → Type 0
IsBeside p nodes names k =
    (name v : ℕ) → is_in names name ≡ true → is_in (top_at nodes name) v ≡ true → touches v (edge_at p.edges k) ≡ false

-- the edges at some nodes are watched, and then those at others
pub each_both : (p : Problem) (nodes : List Node) (xs ys : List ℕ) (a b c : Watched) → WatchesEach p nodes xs a b
    → WatchesEach p nodes ys b c → WatchesEach p nodes (xs ++ ys) a c
each_both p nodes xs ys a b c first second = record {
  room = second.room ∙ first.room;
  minus = second.minus ∙ first.minus;
  kept = λ k h. second.kept k (first.kept k h);
  near = λ name v k mem held less touch. at name v k held less touch (is_in-both xs ys name mem);
  bounds = bounds;
}
  where
    at : (name v k : ℕ) → is_in (top_at nodes name) v ≡ true → k < length p.edges → touches v (edge_at p.edges k) ≡ true
        → (is_in xs name ≡ true) ⊎ (is_in ys name ≡ true) → is_in c.edges k ≡ true
    at name v k held less touch (inl here) = second.kept k (first.near name v k here held less touch)
    at name v k held less touch (inr there) = second.near name v k there held less touch

    -- whether the edge has an end at one of the others
    ends : ℕ → Bool
    ends k = list_any (λ n. list_any (λ v. touches v (edge_at p.edges k)) (top_at nodes n)) ys

    away : (k : ℕ) → ends k ≡ false → IsBeside p nodes xs k → (name v : ℕ) → is_in (top_at nodes name) v ≡ true
        → (is_in xs name ≡ true) ⊎ (is_in ys name ≡ true) → touches v (edge_at p.edges k) ≡ false
    away k none beside name v held (inl here) = beside name v here held
    away k none beside name v held (inr there) =
        none_in (λ u. touches u (edge_at p.edges k)) (top_at nodes name)
        (none_in (λ n. list_any (λ u. touches u (edge_at p.edges k)) (top_at nodes n)) ys none name there) v held

    bounds : StaysRight (IsBeside p nodes (xs ++ ys)) a c
    bounds =
        right_twice (IsBeside p nodes xs) (IsBeside p nodes (xs ++ ys)) ends a b c
        (λ k none beside name v mem held. away k none beside name v held (is_in-both xs ys name mem)) first.bounds
        (λ before after each.
        second.bounds before after
        (λ k beside.
        each k
        (none_any (λ n. list_any (λ u. touches u (edge_at p.edges k)) (top_at nodes n)) ys
        (λ n among.
        none_any (λ u. touches u (edge_at p.edges k)) (top_at nodes n)
        (λ v within. beside n v (among_is_in ys n among) (among_is_in (top_at nodes n) v within))))))
