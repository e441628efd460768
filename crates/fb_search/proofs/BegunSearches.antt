-- A search that begins keeps what every search keeps.
use Rattle.std.proofs.Common.{ℕ, ◌≡◌, ◌<◌, true, List, length, refl, subst}
use Rattle.fb_graph.specs.Problem.{Problem, edge_at, touches, no_edge}
use Rattle.fb_graph.specs.Limits.{DecodingGraph, IsWithinLimits, no_shot}
use Rattle.fb_half.specs.Parts.{PartValue, graph_in, problem_in}
use Rattle.fb_obstacles.specs.Watched.{Watched}
use Rattle.fb_plan.specs.Plans.{PlanTree, problem_at}
use Rattle.fb_search.proofs.KeptBounds.{touched_first, touched_second}
use Rattle.fb_obstacles.specs.InternalWatching.{Watches}

-- an edge touches both its ends
pub touches_first : (p : Problem) (k : ℕ) → IsWithinLimits p → k < length p.edges
    → touches (edge_at p.edges k).first (edge_at p.edges k) ≡ true
touches_first p k limits less = touched_first (edge_at p.edges k) (limits.each_edge k no_edge less).loopless

pub touches_second : (p : Problem) (k : ℕ) → IsWithinLimits p → k < length p.edges
    → touches (edge_at p.edges k).second (edge_at p.edges k) ≡ true
touches_second p k limits less = touched_second (edge_at p.edges k) (limits.each_edge k no_edge less).loopless

-- what the scope of the part's node keeps, though its problem has no defects
pub kept_limits : (part : PartValue) (g : DecodingGraph) (t : PlanTree) (n : ℕ) → g ≡ graph_in part → t ≡ part.job.plan
    → n ≡ part.node → IsWithinLimits (problem_at g t n no_shot) → IsWithinLimits (problem_in part)
kept_limits part g t n eg et en limits =
    let l : IsWithinLimits (problem_at (graph_in part) part.job.plan part.node no_shot) =
    subst (λ h. IsWithinLimits (problem_at h part.job.plan part.node no_shot)) eg (rw (← et, ← en) limits) in
    record { vertices = l.vertices; edges = l.edges; each_edge = l.each_edge; real_below = l.real_below }

pub kept_watches : (part : PartValue) (g : DecodingGraph) (t : PlanTree) (n : ℕ) (vs : List ℕ) (old new : Watched)
    → g ≡ graph_in part → Watches (problem_at g t n no_shot) vs old new → Watches (problem_in part) vs old new
kept_watches part g t n vs old new eg watches =
    let w : Watches (problem_at (graph_in part) t n no_shot) vs old new =
    subst (λ h. Watches (problem_at h t n no_shot) vs old new) eg watches in
    record { room = w.room; minus = w.minus; kept = w.kept; near = w.near; only = w.only; bounds = w.bounds }

pub same_scope : (g h : DecodingGraph) (t s : PlanTree) (n m : ℕ) → g ≡ h → t ≡ s → n ≡ m
    → problem_at g t n no_shot ≡ problem_at h s m no_shot
same_scope g h t s n m eg et en = rw (eg, et, en) refl
