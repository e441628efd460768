-- Trees that grow together, from one obstacle to the next.
use Rattle.std.proofs.Common.{ℕ, ◌≡◌, ◌+◌, ◌*◌, ◌<◌, ◌≤◌, ◌⊎◌, inl, inr, true, List, [], ◌∷◌, length, map, le_refl, refl, sym, ap, subst, ◌∙◌, arith}
use Rattle.std.proofs.lemmas.List.{length-map}
use Rattle.std.proofs.lemmas.List.Elements.{All-cons}
use Rattle.std.proofs.Math.Nat.{mul-le-mul_right}
use Rattle.fb_graph.specs.Parity.{is_in}
use Rattle.fb_graph.specs.Problem.{Problem}
use Rattle.fb_laws.specs.Measures.{IsLower, rank_of, scale_of}
use Rattle.fb_laws.specs.SearchLayers.{left_to_do}
use Rattle.fb_laws.proofs.FallingRanks.{rank_falls}
use Rattle.fb_laws.proofs.PartBounds.{parts_below, search_rank_falls}
use Rattle.fb_half.specs.Parts.{PartValue, problem_in}
use Rattle.fb_trees.specs.Branches.{Grown}
use Rattle.fb_trees.specs.Forests.{all_roles, trees_in}
use Rattle.fb_search.specs.InternalGrowing.{GrowingValue, IsGrowing, roots_in, waiting_in}
use Rattle.fb_search.specs.InternalGrowth.{HasBegunAt, HasGrownOn, IsGrownFrom, still_to_do}
use Rattle.fb_search.specs.InternalGrowthRuns.{AreMatched, HasGrownFrom, HasGrownThrough, growth_rank}
use Rattle.fb_search.proofs.BegunForests.{bare_names}
use Rattle.fb_search.proofs.GrowingRoles.{all_are}
use Rattle.fb_search.proofs.RoundSteps.{same_trans}
use Rattle.fb_search.proofs.Runs.{real_below, same_problem}
use Rattle.fb_search.proofs.WaitingNames.{waits_from, waits_no_root, waits_unmatched}

-- what is left below the number of unmatched nodes
abbrev left_in : GrowingValue → List ℕ
left_in w = left_to_do (problem_in w.part) w.part.nodes (all_roles (trees_in w.forest)) true

-- A part that falls first outweighs all parts behind it.
falls_first : (p : Problem) (x y rank before : ℕ) → rank < scale_of (p.vertices + 2) (0 ∷ 0 ∷ 0 ∷ 0 ∷ 0 ∷ [])
    → (x < y) ⊎ ((x ≤ y) × (rank < before))
    → x * scale_of (p.vertices + 2) (0 ∷ 0 ∷ 0 ∷ 0 ∷ 0 ∷ []) + rank
    < y * scale_of (p.vertices + 2) (0 ∷ 0 ∷ 0 ∷ 0 ∷ 0 ∷ []) + before
falls_first p x y rank before below (inl less) =
    let scale = scale_of (p.vertices + 2) (0 ∷ 0 ∷ 0 ∷ 0 ∷ 0 ∷ []) in
    let next : x + 1 ≤ y = omega (arith, less) in
    let grown : (x + 1) * scale ≤ y * scale = mul-le-mul_right scale next in
    omega (arith, grown, below)
falls_first p x y rank before below (inr (le, falls)) =
    let scale = scale_of (p.vertices + 2) (0 ∷ 0 ∷ 0 ∷ 0 ∷ 0 ∷ []) in
    let grown : x * scale ≤ y * scale = mul-le-mul_right scale le in
    omega (arith, grown, falls)

rank_below : (w : GrowingValue) → IsGrowing w
    → rank_of ((problem_in w.part).vertices + 2) (left_in w)
    < scale_of ((problem_in w.part).vertices + 2) (0 ∷ 0 ∷ 0 ∷ 0 ∷ 0 ∷ [])
rank_below w are =
    let b = (problem_in w.part).vertices + 2 in
    let below =
    parts_below (problem_in w.part) w.part.nodes (all_roles (trees_in w.forest)) true (real_below w.part) are.state.1.nest
    (all_are w are.state.0 are.state.1) in
    let falls : rank_of b (0 ∷ left_in w) < rank_of b (1 ∷ 0 ∷ 0 ∷ 0 ∷ 0 ∷ 0 ∷ []) =
    rank_falls b (0 ∷ left_in w) (1 ∷ 0 ∷ 0 ∷ 0 ∷ 0 ∷ 0 ∷ []) refl
    (All-cons (λ x. x < b) 0 (left_in w) (omega arith) below) (inl (omega arith)) in
    omega (arith, falls)

pub growth_falls : (before after : GrowingValue) → IsGrowing after → HasGrownOn before after
    → growth_rank after < growth_rank before
growth_falls before after are goes =
    subst Falls (same_problem before.part after.part goes.grown.part) by goes.less
  where
    Falls : Problem → Type 0
    Falls q =
        IsLower (still_to_do after true)
        (length before.part.matching.unmatched ∷ left_to_do q before.part.nodes (all_roles (trees_in before.forest)) true)
        → growth_rank after
        < rank_of (q.vertices + 2)
        (length before.part.matching.unmatched ∷ left_to_do q before.part.nodes (all_roles (trees_in before.forest)) true)

    by : Falls (problem_in after.part)
    by (inl less) = falls_first (problem_in after.part) _ _ _ _ (rank_below after are) (inl less)
    by (inr (le, lower)) =
        falls_first (problem_in after.part) _ _ _ _ (rank_below after are)
        (inr (
          le,
          search_rank_falls (problem_in after.part) before.part.nodes after.part.nodes (all_roles (trees_in before.forest))
              (all_roles (trees_in after.forest)) true true (real_below after.part) are.state.1.nest
              (all_are after are.state.0 are.state.1) lower,
        ))

-- the trees as they begin
pub grown_none : (w : GrowingValue) → HasGrownFrom w w
grown_none w = record {
  grown = record {
    part = record { job = refl; slot = refl; node = refl };
    waits = λ n waits. waits;
    kept = λ n waits. refl;
    least = le_refl _;
    most = le_refl _;
  };
  edges = refl;
}

pub grown_trans : (first before after : GrowingValue) → IsGrownFrom first before → IsGrownFrom before after → IsGrownFrom first after
grown_trans first before after from on = record {
  part = same_trans first.part before.part after.part from.part on.part;
  waits = λ n waits. from.waits n (on.waits n waits);
  kept = λ n waits. on.kept n waits ∙ from.kept n (on.waits n waits);
  least = omega (arith, from.least, on.least);
  most = omega (arith, from.most, on.most);
}

pub grows_from : (first before after : GrowingValue) → HasGrownFrom first before → IsGrowing before → IsGrowing after
    → HasGrownOn before after → HasGrownFrom first after
grows_from first before after from was are goes = record {
  grown = grown_trans first before after from.grown goes.grown;
  edges =
      are.room ∙ ap (λ p. length p.edges) (same_problem before.part after.part goes.grown.part) ∙ sym was.room ∙ from.edges;
}

-- once no tree is left, the nodes that are still unmatched are those that wait
pub matched_from : (roots : List ℕ) (work : PartValue) (first last : GrowingValue) → HasBegunAt roots work first → HasGrownThrough first last
    → AreMatched roots work last.part
matched_from roots work first last begun through = subst (λ w. AreMatched roots w last.part) begun.part (record {
  part = grown.part;
  others = λ n unmatched.
      let waited = grown.waits n (waits n unmatched) in
      (waits_unmatched first n waited, ap (λ l. is_in l n) (sym names) ∙ waits_no_root first n waited);
  kept = λ n unmatched. grown.kept n (waits n unmatched);
  least = omega (arith, grown.least, trees, none);
  most = omega (arith, grown.most, trees, none);
})
  where
    grown : IsGrownFrom first last
    grown = through.from.grown

    names : roots_in first.forest ≡ roots
    names = ap roots_in begun.forest ∙ bare_names roots

    trees : length (trees_in first.forest) ≡ length roots
    trees = sym (length-map (trees_in first.forest) (λ g. g.root)) ∙ ap length names

    none : length (trees_in last.forest) ≡ 0
    none = ap length through.none

    waits : (n : ℕ) → is_in last.part.matching.unmatched n ≡ true → is_in (waiting_in last) n ≡ true
    waits n unmatched = waits_from last n unmatched (ap (λ gs. is_in (map (λ (g : Grown). g.root) gs) n) through.none)
