-- The edges and minus nodes that a search looks at.
use Rattle.std.specs.Prelude.{ℕ, ◌<◌, ◌≤◌, ◌==◌, ◌&&◌, Bool, nat_le, List, length, get_or, refl}
use Rattle.std.specs.List.{list_any}
use Rattle.std.specs.Coded.{Coded, code_by, coded×, coded_list, coded_ℕ}

-- a node that is watched, with a number that twice the value of its top layer is at least if it is minus
pub record NodeBound : Type 0 where
  pub name : ℕ
  pub bound : ℕ

-- the number of edges of the scope, and the numbers of those that are watched, in any order
pub record Watched : Type 0 where
  pub edge_count : ℕ
  pub edges : List ℕ
  -- for each watched edge, by its place, a number that its slack is at least
  pub bounds : List ℕ
  -- the first of them, this many, wait in a queue until their bounds don't suffice
  pub queued : ℕ
  -- the minus nodes, and nodes that were minus, in any order
  pub nodes : List NodeBound

-- the node is watched, with a bound of at most this
abbrev pub has_bound : List NodeBound → ℕ → ℕ → Bool
has_bound nodes name limit = list_any (λ n. (n.name == name) && nat_le n.bound limit) nodes

-- the bound of each watched edge is at most its limit
abbrev pub AreBounded : (ℕ → ℕ) → Watched → Type 0
AreBounded limit w = (i : ℕ) → i < length w.edges → get_or w.bounds i 0 ≤ limit (get_or w.edges i 0)

abbrev pub coded_bound : Coded NodeBound
coded_bound = code_by (ℕ × ℕ) (coded× coded_ℕ coded_ℕ) (λ n. (n.name, n.bound)) (λ x. record { name = x.0; bound = x.1 }) (λ _. refl)

abbrev pub watched_code : Coded Watched
watched_code =
    code_by (((ℕ × ℕ) × (List ℕ × List ℕ)) × List NodeBound)
    (coded× (coded× (coded× coded_ℕ coded_ℕ) (coded× (coded_list coded_ℕ) (coded_list coded_ℕ))) (coded_list coded_bound))
    (λ w. (((w.edge_count, w.queued), (w.edges, w.bounds)), w.nodes))
    (λ x. record { edge_count = x.0.0.0; edges = x.0.1.0; bounds = x.0.1.1; queued = x.0.0.1; nodes = x.1 }) (λ _. refl)
