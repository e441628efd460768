-- Each move of a search leaves less to do.
use Rattle.std.proofs.Common.{ℕ, ◌≡◌, Bool, List, true, false, [], ◌∷◌, ◌++◌, map, inl, refl, sym, ap, ◌∙◌, subst, arith}
use Rattle.std.proofs.lemmas.Bool.{both_ways, false_from_ne_true}
use Rattle.fb_graph.specs.Parity.{is_in}
use Rattle.fb_graph.specs.Problem.{Problem}
use Rattle.fb_graph.specs.Dual.{Node, is_empty}
use Rattle.fb_graph.specs.Moves.{MaySplit, split_nodes}
use Rattle.fb_graph.specs.Nests.{IsNest}
use Rattle.fb_graph.specs.Steps.{Roles}
use Rattle.fb_graph.proofs.Among.{IsAmong, among_right}
use Rattle.fb_graph.proofs.Places.{IsPlaced, placed}
use Rattle.fb_graph.proofs.NestParts.{split_is_bare}
use Rattle.fb_laws.specs.Measures.{IsLower}
use Rattle.fb_laws.specs.OpenedCycles.{last_of, opened_tree, paired_of}
use Rattle.fb_laws.specs.SearchLayers.{left_to_do}
use Rattle.fb_laws.specs.SearchOpenings.{IsSplit}
use Rattle.fb_laws.specs.StateBlossoms.{joined_state}
use Rattle.fb_laws.specs.StateMeasures.{SteppedLess, AbsorbedLess, UncoveredLess, AttachedLess, ClosedLess, RoundedLess, OpenedLess, still_to_do}
use Rattle.fb_laws.specs.StateMoves.{state_roles}
use Rattle.fb_laws.specs.SearchBlossoms.{child_at}
use Rattle.fb_laws.specs.TreeCycles.{cycle_links, cycle_nodes, last_plus}
use Rattle.fb_laws.specs.Trees.{minus_names, plus_names, roles_of}
use Rattle.fb_laws.proofs.LoweredParts.{attach_lowers, free_lowers, opened_lowers}
use Rattle.fb_laws.proofs.MoveBridges.{joining_lowers, absorbed_lowers, uncovered_lowers}
use Rattle.fb_laws.proofs.OpenedCycles.{still_plus}
use Rattle.fb_laws.proofs.SearchTrees.{exclusive_names}
use Rattle.fb_laws.proofs.StateBlossoms.{closed_joining, closed_names, closed_some, rounded_joining}
use Rattle.fb_laws.proofs.StateMoves.{state_attached}
use Rattle.fb_laws.proofs.TreePaths.{among_minus}

pub stepped_less : SteppedLess
stepped_less p s k = free_lowers p s.nodes (state_roles s) k

pub absorbed_less : AbsorbedLess
absorbed_less p s name k u v free freed limits may plus state =
    absorbed_lowers p s.nodes (state_roles s) name k u v free freed limits may state.search.nest plus

pub uncovered_less : UncoveredLess
uncovered_less p s name free freed may minus state =
    uncovered_lowers p s.nodes (state_roles s) name free freed may state.search.nest minus
    (false_from_ne_true (is_in (plus_names s.root s.tree) name)
    (λ plus.
    both_ways (is_in (minus_names s.tree) name) (exclusive_names s.root s.tree state.search.search.names name plus) minus))

pub attached_less : AttachedLess
attached_less p s e rest free freed even may state =
    let after = state_attached p s e rest even may state in
    attach_lowers p s.nodes s.tree e rest s.unmatched s.root s.parity free freed after.search.search

pub closed_less : ClosedLess
closed_less p s name a b closing shared up down free freed may paths state =
    subst
    (λ names.
    IsLower (still_to_do p (joined_state name (last_plus s.root shared ∷ names) (cycle_links up closing down) s) freed) (still_to_do p s free))
    (closed_names p s name a b closing shared up down may paths state)
    (joining_lowers p s.nodes s.tree s.rest s.unmatched s.root s.parity name (child_at s.nodes (last_plus s.root shared))
    (map (child_at s.nodes) (cycle_nodes up down)) free freed
    (closed_joining p s name a b closing shared up down may paths state)
    (closed_some p s name a b closing shared up down may paths state) may.fresh state.search.nest state.search.search)

pub rounded_less : RoundedLess
rounded_less p s name newer older e closing free freed tree_is closes tight fresh state =
    joining_lowers p s.nodes s.tree s.rest s.unmatched s.root s.parity name (child_at s.nodes e.parent)
    (child_at s.nodes e.minus ∷ child_at s.nodes e.plus ∷ []) free freed
    (rounded_joining p s name newer older e closing tree_is closes tight fresh s.rest state.search.nest state.search.search)
    (omega arith) fresh state.search.nest state.search.search

-- a blossom split that isn't plus
pub split_lowers : (p : Problem) (nodes : List Node) (name : ℕ) (children : List ℕ) (roles later : Roles) (free freed : Bool)
    → IsNest p nodes → MaySplit nodes name → IsSplit nodes (split_nodes name nodes) name children → roles.is_plus name ≡ false
    → ((n : ℕ) → roles.is_plus n ≡ true → later.is_plus n ≡ true)
    → IsLower (left_to_do p (split_nodes name nodes) later freed) (left_to_do p nodes roles free)
split_lowers p nodes name children roles later free freed nest may split not_plus wider =
    subst (λ ns. IsLower (left_to_do p (split_nodes name nodes) later freed) (left_to_do p ns roles free)) (sym at.whole)
    (subst (λ ns. IsLower (left_to_do p ns later freed) (left_to_do p (at.before ++ at.node ∷ at.after) roles free))
    (sym at.removed)
    (opened_lowers p at.before at.after at.node children roles later free freed
    (subst (λ m. IsSplit (at.before ++ at.node ∷ at.after) (at.before ++ at.after) m children) (sym at.named)
    (subst (λ ns. IsSplit (at.before ++ at.node ∷ at.after) ns name children) at.removed
    (subst (λ ns. IsSplit ns (split_nodes name nodes) name children) at.whole split)))
    (ap roles.is_plus at.named ∙ not_plus) some wider))
  where
    at : IsPlaced nodes name
    at = placed nodes name nest.dual.names may.live

    some : is_empty at.node.children ≡ false
    some =
        (split_is_bare nodes name may at.node
        (subst (IsAmong at.node) (sym at.whole) (among_right at.before (at.node ∷ at.after) at.node (inl refl))) at.named).0

pub opened_less : OpenedLess
opened_less p s newer older e from way couples free freed tree_is may cycle state =
    split_lowers p s.nodes e.minus (last_of from way ∷ paired_of from way couples) (state_roles s)
    (roles_of s.root (opened_tree newer e older from way)) free freed state.search.nest may cycle.split
    (false_from_ne_true (is_in (plus_names s.root s.tree) e.minus)
    (λ plus.
    both_ways (is_in (minus_names s.tree) e.minus) (exclusive_names s.root s.tree state.search.search.names e.minus plus) minus))
    (λ n plus. still_plus newer older e s.root from n way (ap (λ t. is_in (plus_names s.root t) n) (sym tree_is) ∙ plus))
  where
    minus : is_in (minus_names s.tree) e.minus ≡ true
    minus =
        ap (λ t. is_in (minus_names t) e.minus) tree_is
        ∙ among_minus (newer ++ e ∷ older) e (among_right newer (e ∷ older) e (inl refl))
