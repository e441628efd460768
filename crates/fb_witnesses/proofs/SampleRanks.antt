-- The rank of the pentagon's search before and after its blossom is opened.
use Rattle.std.proofs.Common.{◌≡◌, ◌<◌, inl, true, false, [], ◌∷◌, All, refl, arith}
use Rattle.std.proofs.lemmas.List.Elements.{All-from_recursion}
use Rattle.fb_graph.specs.Covers.{AreRoles}
use Rattle.fb_graph.specs.Dual.{is_outer}
use Rattle.fb_graph.proofs.Sets.{is_in-All}
use Rattle.fb_laws.specs.PartBounds.{IsRealBelow}
use Rattle.fb_laws.proofs.SearchStates.{search_roles}
use Rattle.fb_witnesses.specs.RankWitnesses.{RankWitness, opened_roles}
use Rattle.fb_witnesses.specs.StateWitnesses.{blossom_branch, inner_blossom, pentagon, pentagon_leaves}
use Rattle.fb_witnesses.proofs.SamplePentagons.{blossom_state, of_seven, start_state}
use Rattle.fb_witnesses.proofs.SampleStates.{outer_by_cases}

real_below : IsRealBelow pentagon
real_below =
    of_seven (λ v. v < 8) (omega arith) (omega arith) (omega arith) (omega arith) (omega arith) (omega arith) (omega arith)

opened_are : AreRoles opened_roles pentagon_leaves
opened_are = record {
  exclusive =
      is_in-All (λ n. opened_roles.is_minus n ≡ false) (5 ∷ 1 ∷ 6 ∷ [])
      (All-from_recursion (λ n. opened_roles.is_minus n ≡ false) (5 ∷ 1 ∷ 6 ∷ []) (refl, (refl, (refl, tt))));
  plus = outer_by_cases opened_roles.is_plus pentagon_leaves outer;
  minus = outer_by_cases opened_roles.is_minus pentagon_leaves outer;
}
  where
    outer : All (λ n. is_outer pentagon_leaves n.name ≡ true) pentagon_leaves
    outer =
        All-from_recursion (λ n. is_outer pentagon_leaves n.name ≡ true) pentagon_leaves
        (refl, (refl, (refl, (refl, (refl, (refl, (refl, tt)))))))

pub rank_witness : RankWitness
rank_witness = (
  real_below,
  blossom_state.search.nest,
  search_roles pentagon inner_blossom.nodes (blossom_branch ∷ []) [] (6 ∷ []) 6 0 blossom_state.search.search,
  refl,
  refl,
  refl,
  start_state.work.nest,
  opened_are,
  refl,
  inl (omega arith),
  refl,
  refl,
)
