use Rattle.std.proofs.Common.{ℕ, ◌≤◌, [], ◌∷◌, arith}
use Rattle.std.proofs.lemmas.List.Elements.{All-head, All-nil, All-cons}
use Rattle.fb_obstacles.specs.Obstacles.{roles_by}
use Rattle.fb_obstacles.specs.InternalLooks.{IsAtMostEach, minus_tops}
use Rattle.fb_obstacles.proofs.BoundedScans.{scanned_before, scanned_since}
use Rattle.fb_obstacles.proofs.MinusLooks.{bear_one}
use Rattle.fb_obstacles.proofs.bounding.scan_by_bounds.Goals as goal

pub scan_edges-requires-clause-minus : goal.scan_edges-requires-clause-minus
scan_edges-requires-clause-minus g c = (
  minus_tops (roles_by (g.R.Roles.role_of c.args.roles.now)) c.args.regions.now.nodes,
  c.look_at_minus-minus.ensures.limits (g.S.Scope.problem c.args.scope.now),
)

pub returns-in_default-clause-scanned : goal.returns-in_default-clause-scanned
returns-in_default-clause-scanned g c =
    scanned_since (g.S.Scope.problem c.args.scope.now) (g.R.Roles.role_of c.args.roles.now) c.args.regions.now.nodes
    (minus_tops (roles_by (g.R.Roles.role_of c.args.roles.now)) c.args.regions.now.nodes) c.args.watch.now c.look_at_minus-minus.new.watch c.scan_edges.new.watch c.scan_edges.result.look
    c.look_at_minus-minus.ensures.same
    (c.scan_edges.ensures.scanned (minus_tops (roles_by (g.R.Roles.role_of c.args.roles.now)) c.args.regions.now.nodes)
    (c.look_at_minus-minus.ensures.limits (g.S.Scope.problem c.args.scope.now)))

-- the lengths of at most 1 are allowed
at_most_one : (1 ≤ 1) × ((k : ℕ) → k ≤ 1 → IsAtMostEach k (1 ∷ [])) × ((k : ℕ) → IsAtMostEach k (1 ∷ []) → k ≤ 1)
at_most_one = (
  omega arith,
  λ k le. All-cons (λ top. k ≤ top) 1 [] le (All-nil (λ top. k ≤ top)),
  λ k most. All-head (λ top. k ≤ top) 1 [] most,
)

pub scan_edges-look-requires-clause-minus : goal.scan_edges-look-requires-clause-minus
scan_edges-look-requires-clause-minus g c = (1 ∷ [], at_most_one)

pub returns-clause-scanned : goal.returns-clause-scanned
returns-clause-scanned g c =
    scanned_before (g.S.Scope.problem c.args.scope.now) (g.R.Roles.role_of c.args.roles.now) c.args.regions.now.nodes
    (minus_tops (roles_by (g.R.Roles.role_of c.args.roles.now)) c.args.regions.now.nodes) (1 ∷ []) c.args.watch.now
    c.scan_edges-look.new.watch c.scan_edges-look.result.look c.look_at_minus-minus.result c.and.result c.in-Blocked.field-0
    c.in-Blocked.is (c.look_at_minus-minus.ensures.limits (g.S.Scope.problem c.args.scope.now))
    (scanned_since (g.S.Scope.problem c.args.scope.now) (g.R.Roles.role_of c.args.roles.now) c.args.regions.now.nodes
    (1 ∷ []) c.args.watch.now c.look_at_minus-minus.new.watch c.scan_edges-look.new.watch c.scan_edges-look.result.look
    c.look_at_minus-minus.ensures.same (c.scan_edges-look.ensures.scanned (1 ∷ []) at_most_one)) c.and.ensures

pub returns-clause-first : goal.returns-clause-first
returns-clause-first g c =
    bear_one (g.S.Scope.problem c.args.scope.now) (roles_by (g.R.Roles.role_of c.args.roles.now)) c.args.regions.now.nodes (1 ∷ [])
    c.args.watch.now.edges c.scan_edges-look.result.look c.look_at_minus-minus.result c.and.result
    (scanned_since (g.S.Scope.problem c.args.scope.now) (g.R.Roles.role_of c.args.roles.now) c.args.regions.now.nodes
    (1 ∷ []) c.args.watch.now c.look_at_minus-minus.new.watch c.scan_edges-look.new.watch c.scan_edges-look.result.look
    c.look_at_minus-minus.ensures.same (c.scan_edges-look.ensures.scanned (1 ∷ []) at_most_one)).limits
    c.and.ensures c.scan_edges-look.ensures.edges
