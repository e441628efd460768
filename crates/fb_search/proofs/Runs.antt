-- Advances of a search, one after another.
use Rattle.std.proofs.Common.{ℕ, ◌≡◌, ◌<◌, ◌≤◌, ◌⊎◌, inl, inr, List, [], ◌∷◌, nat_lt, map, refl, arith}
use Rattle.std.proofs.lemmas.Bool.{and_parts, ltb-true}
use Rattle.fb_graph.specs.Covers.{AreRoles}
use Rattle.fb_graph.specs.Limits.{is_real_in}
use Rattle.fb_plan.specs.Plans.{is_owned_in}
use Rattle.fb_laws.specs.Measures.{IsLower}
use Rattle.fb_laws.specs.PartBounds.{IsRealBelow}
use Rattle.fb_laws.specs.Trees.{roles_of}
use Rattle.fb_laws.proofs.SearchStates.{search_roles}
use Rattle.fb_trees.proofs.Mapped.{plus_moved, minus_moved}
use Rattle.fb_half.specs.Parts.{PartValue, problem_in}
use Rattle.fb_half.specs.Translations.{entry_by, link_by}
use Rattle.fb_search.specs.InternalSearching.{IsSearching, SearchValue, problem_of, state_at}
use Rattle.fb_search.specs.Progress.{IsSamePart}

pub lower_trans : (xs ys zs : List ℕ) → IsLower xs ys → IsLower ys zs → IsLower xs zs
lower_trans [] ys zs a b = absurd a
lower_trans (x ∷ xs) [] zs a b = absurd a
lower_trans (x ∷ xs) (y ∷ ys) [] a b = absurd b
lower_trans (x ∷ xs) (y ∷ ys) (z ∷ zs) a b = by a b (λ p q. lower_trans xs ys zs p q)
  where
    by : (x < y) ⊎ ((x ≤ y) × IsLower xs ys) → (y < z) ⊎ ((y ≤ z) × IsLower ys zs)
        → (IsLower xs ys → IsLower ys zs → IsLower xs zs) → (x < z) ⊎ ((x ≤ z) × IsLower xs zs)
    by (inl p) (inl q) rest = inl (omega (arith, p, q))
    by (inl p) (inr q) rest = inl (omega (arith, p, q.0))
    by (inr p) (inl q) rest = inl (omega (arith, p.0, q))
    by (inr p) (inr q) rest = inr (omega (arith, p.0, q.0), rest p.1 q.1)

pub same_problem : (before after : PartValue) → IsSamePart before after → problem_in after ≡ problem_in before
same_problem before after same = rw (same.job, same.slot, same.node) refl

pub real_below : (w : PartValue) → IsRealBelow (problem_in w)
real_below w v real =
    ltb-true v w.job.graph.vertices
    (and_parts (nat_lt v w.job.graph.vertices) _
    (and_parts (is_real_in w.job.graph v) (is_owned_in w.job.plan w.node v) real).0).0

-- the roles by the tree's links or by their numbers
pub roles_by_numbers : (w : SearchValue)
    → roles_of w.tree.root (map (entry_by w.part.links) w.tree.branches) ≡ roles_of w.tree.root w.tree.branches
roles_by_numbers w =
    rw (plus_moved (link_by w.part.links) w.tree.root w.tree.branches, minus_moved (link_by w.part.links) w.tree.branches)
    refl

pub tree_roles : (w : SearchValue) → IsSearching w → AreRoles (roles_of w.tree.root w.tree.branches) w.part.nodes
tree_roles w are =
    let s = state_at w are.state.0 in
    let roles = search_roles (problem_of w) w.part.nodes s.tree s.rest s.unmatched s.root are.state.0 are.state.1.search.search in
    rw (← roles_by_numbers w) roles
