-- The steps of the loop that draws for each edge, and what the drawn shot is.
use Rattle.std.proofs.Common.{◌≡◌, ℕ, ◌+◌, ◌*◌, ◌%◌, ◌^◌, ◌<◌, ◌&&◌, Bool, true, false, not, cond, nat_lt, ◌≤◌, append-nil, List, [], ◌∷◌, ◌++◌, length, get_or, filter, None, refl, sym, ap, ◌∙◌, add-one}
use Rattle.std.specs.List.{range_with_len}
use Rattle.std.proofs.Math.Nat.{mod-add-mod}
use Rattle.std.proofs.lemmas.Bool.{lt-ltb, le-ltb, ltb-true, and_parts}
use Rattle.fb_graph.specs.Components.{IsFirstOdd}
use Rattle.fb_graph.specs.Limits.{DecodingGraph, IsShot, ShotValue, is_real_in, plain_shot, problem_of}
use Rattle.fb_graph.specs.Parity.{differ, is_in, is_odd_count}
use Rattle.fb_graph.specs.Problem.{IsEdgeSet, Flips, edge_at, touches}
use Rattle.fb_graph.proofs.BuildSteps.{range_more}
use Rattle.fb_graph.proofs.OddComponents.{no_correction}
use Rattle.fb_graph.proofs.ParitySums.{odd-append, differ-false, differ_comm}
use Rattle.fb_graph.proofs.Ranges.{filter-range_same, filter-range_rises, filter-range_below, is_in-filter-range}
use Rattle.fb_graph.proofs.Sets.{All-from_is_in, is_in-filter}
use Rattle.fb_graph.proofs.ShotGraphs.{plain_is_shot}
use Rattle.fb_gen.specs.Drawing.{next_state, state_after, drawn_after, hits_of, defects_from, shot_from}

pub next_state-wrapping : (x : ℕ)
    → (((x * 6364136223846793005) % 2 ^ 64) + 1442695040888963407) % 2 ^ 64 ≡ next_state x
unfolding next_state
next_state-wrapping x = mod-add-mod (x * 6364136223846793005) (2 ^ 64) 1442695040888963407

-- the edges hit among one more
pub hits_more : (x rate n : ℕ) → hits_of x rate (n + 1) ≡ hits_of x rate n ++ cond (nat_lt (drawn_after x n) rate) (n ∷ []) []
hits_more x rate n = range_more (λ k. nat_lt (drawn_after x k) rate) n

pub hits_hit : (x rate n : ℕ) (test : ℕ → Bool) → drawn_after x n < rate
    → is_odd_count test (hits_of x rate (n + 1)) ≡ differ (test n) (is_odd_count test (hits_of x rate n))
hits_hit x rate n test hit =
    ap (is_odd_count test) (hits_more x rate n ∙ ap (λ b. hits_of x rate n ++ cond b (n ∷ []) []) (lt-ltb (drawn_after x n) rate hit))
    ∙ odd-append test (hits_of x rate n) (n ∷ [])
    ∙ differ_comm (is_odd_count test (hits_of x rate n)) (differ (test n) false)
    ∙ ap (λ b. differ b (is_odd_count test (hits_of x rate n))) (differ-false (test n))

pub hits_missed : (x rate n : ℕ) → rate ≤ drawn_after x n → hits_of x rate (n + 1) ≡ hits_of x rate n
hits_missed x rate n missed =
    hits_more x rate n
    ∙ ap (λ b. hits_of x rate n ++ cond b (n ∷ []) []) (le-ltb (drawn_after x n) rate missed)
    ∙ append-nil (hits_of x rate n)

pub state_more : (x n : ℕ) → state_after x (n + 1) ≡ next_state (state_after x n)
state_more x n = ap (state_after x) (add-one n)

pub ruleset hits = (hits_hit, hits_missed, state_more)

-- The real vertices with a flag are the defects, where the flags tell of the chosen edges' ends.
pub kept_as_defects : (g : DecodingGraph) (flags : List Bool) (chosen : List ℕ)
    → ((v : ℕ) → v < g.vertices → get_or flags v false ≡ is_odd_count (λ k. touches v (edge_at g.edges k)) chosen)
    → filter (λ v. not (is_in g.virtuals v) && get_or flags v false) (range_with_len 0 g.vertices) ≡ defects_from g chosen
kept_as_defects g flags chosen told =
    filter-range_same _ _ g.vertices
    (λ v below. rw (told v below, lt-ltb v g.vertices below) refl)

-- the found vertices are the defects of the hits from the state x on, the loop having begun at the equal state y
pub found_as_defects : (g : DecodingGraph) (x y rate : ℕ) (flags told : List Bool) (found : List ℕ)
    → found ≡ filter (λ v. not (is_in g.virtuals v) && get_or told v false) (range_with_len 0 g.vertices)
    → told ≡ flags
    → ((v : ℕ) → v < g.vertices
    → get_or flags v false ≡ is_odd_count (λ k. touches v (edge_at g.edges k)) (hits_of y rate (length g.edges)))
    → y ≡ x → found ≡ defects_from g (hits_of x rate (length g.edges))
found_as_defects g x y rate flags told found e same each begun =
    e
    ∙ kept_as_defects g told (hits_of y rate (length g.edges)) (λ v below. ap (λ fs. get_or fs v false) same ∙ each v below)
    ∙ ap (λ z. defects_from g (hits_of z rate (length g.edges))) begun

pub found_as_shot : (g : DecodingGraph) (x y rate : ℕ) (flags told : List Bool) (found : List ℕ) (shot : ShotValue)
    → shot ≡ plain_shot found
    → found ≡ filter (λ v. not (is_in g.virtuals v) && get_or told v false) (range_with_len 0 g.vertices)
    → told ≡ flags
    → ((v : ℕ) → v < g.vertices
    → get_or flags v false ≡ is_odd_count (λ k. touches v (edge_at g.edges k)) (hits_of y rate (length g.edges)))
    → y ≡ x → shot ≡ shot_from g (hits_of x rate (length g.edges))
found_as_shot g x y rate flags told found shot is e same each begun =
    is ∙ ap plain_shot (found_as_defects g x y rate flags told found e same each begun)

pub drawn_is_shot : (g : DecodingGraph) (chosen : List ℕ) → IsShot g (shot_from g chosen)
drawn_is_shot g chosen =
    plain_is_shot g (defects_from g chosen) (filter-range_rises _ g.vertices)
    (All-from_is_in (λ v. is_real_in g v ≡ true) (defects_from g chosen)
    (λ v within. (and_parts (is_real_in g v) _ (and_parts (is_in (range_with_len 0 g.vertices) v) _
    (sym (is_in-filter _ (range_with_len 0 g.vertices) v) ∙ within)).1).0))

pub drawn_flips : (g : DecodingGraph) (chosen : List ℕ) (shot : ShotValue) → shot ≡ shot_from g chosen
    → Flips (problem_of g shot) chosen
drawn_flips g chosen shot e v real =
    rw e (sym (is_in-filter-range _ g.vertices v (ltb-true v g.vertices (and_parts (nat_lt v g.vertices) _ real).0)
    ∙ rw real refl))

pub drawn_edges : (g : DecodingGraph) (x rate : ℕ) (shot : ShotValue)
    → IsEdgeSet (problem_of g shot) (hits_of x rate (length g.edges))
drawn_edges g x rate shot = record {
  rising = filter-range_rises (λ k. nat_lt (drawn_after x k) rate) (length g.edges);
  within = filter-range_below (λ k. nat_lt (drawn_after x k) rate) (length g.edges);
}

pub drawn_even : (g : DecodingGraph) (x rate : ℕ) (shot : ShotValue)
    → shot ≡ shot_from g (hits_of x rate (length g.edges)) → IsFirstOdd (problem_of g shot) None
drawn_even g x rate shot e v odd =
    no_correction (problem_of g shot) v odd (hits_of x rate (length g.edges))
    (filter-range_below (λ k. nat_lt (drawn_after x k) rate) (length g.edges))
    (drawn_flips g (hits_of x rate (length g.edges)) shot e)
