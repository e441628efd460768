-- Shots drawn at random: edges are hit independently, and the defects are the real vertices that hit edges flip.
use Rattle.std.specs.Prelude.{ℕ, zero, suc, ◌+◌, ◌*◌, ◌/◌, ◌%◌, ◌^◌, nat_lt, ◌&&◌, List, filter}
use Rattle.std.specs.List.{range_with_len}
use Rattle.fb_graph.specs.Parity.{is_odd_count}
use Rattle.fb_graph.specs.Problem.{edge_at, touches}
use Rattle.fb_graph.specs.Limits.{DecodingGraph, ShotValue, is_real_in, plain_shot}

-- the state that follows a state: a linear congruential generator modulo 2^64
unfoldable pub next_state : ℕ → ℕ
next_state x = (x * 6364136223846793005 + 1442695040888963407) % 2 ^ 64

-- the state after n draws
abbrev pub state_after : ℕ → ℕ → ℕ
state_after x zero = x
state_after x (suc n) = next_state (state_after x n)

-- the number that the draw after n others gives: the upper 20 bits of its new state
abbrev pub drawn_after : ℕ → ℕ → ℕ
drawn_after x n = next_state (state_after x n) / 2 ^ 44

-- The edges of a shot that are hit, rising: one draw for each edge, in order, which is hit if the draw is below the
-- rate.
abbrev pub hits_of : ℕ → ℕ → ℕ → List ℕ
hits_of x rate edges = filter (λ k. nat_lt (drawn_after x k) rate) (range_with_len 0 edges)

-- the defects that chosen edges leave: the real vertices with an odd number of them, rising
abbrev pub defects_from : DecodingGraph → List ℕ → List ℕ
defects_from g chosen = filter
    (λ v. is_real_in g v && is_odd_count (λ k. touches v (edge_at g.edges k)) chosen)
    (range_with_len 0 g.vertices)

-- the shot that chosen edges leave, in which every edge weighs what it does in the graph
abbrev pub shot_from : DecodingGraph → List ℕ → ShotValue
shot_from g chosen = plain_shot (defects_from g chosen)
