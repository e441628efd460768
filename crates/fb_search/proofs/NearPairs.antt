-- Two single defects that are matched with each other at once leave a part in which both are matched.
use Rattle.std.proofs.Common.{ℕ, ◌≡◌, ◌≢◌, ◌+◌, ◌≤◌, ◌||◌, Bool, true, false, List, [], ◌∷◌, ◌++◌, Some, refl, sym, ap, ◌∙◌, subst, arith, if◌then◌else◌}
use Rattle.std.specs.List.Sorted.{IsPermutation}
use Rattle.std.proofs.lemmas.Bool.{ne_eqb}
use Rattle.fb_graph.specs.Certificate.{AreDistinct, load_of}
use Rattle.fb_graph.specs.Dual.{IsDual, all_cuts, cover_of, top_at}
use Rattle.fb_graph.specs.Limits.{IsWithinLimits}
use Rattle.fb_graph.specs.Parity.{is_in}
use Rattle.fb_graph.specs.Problem.{Problem, edge_at, touches}
use Rattle.fb_graph.specs.Steps.{MayStep}
use Rattle.fb_graph.specs.declared.parts.Edge.{Edge}
use Rattle.fb_graph.proofs.Sets.{is_in-tail}
use Rattle.fb_graph.proofs.StepHeights.{cover_stepped}
use Rattle.fb_graph.proofs.StepTurns.{top_stepped}
use Rattle.fb_laws.specs.Works.{names_without}
use Rattle.fb_laws.proofs.OpenedBlossoms.{same_permuted}
use Rattle.fb_links.specs.declared.walk.Step.{Step}
use Rattle.fb_links.specs.Table.{Adds}
use Rattle.fb_trees.specs.Rooted.{bare}
use Rattle.fb_plan.specs.declared.scope.NodeScope.{NodeScope}
use Rattle.fb_plan.specs.Scopes.{scope_graph}
use Rattle.fb_half.specs.Values.{IsScopeOf}
use Rattle.fb_half.specs.Matchings.{matched_names}
use Rattle.fb_half.specs.Parts.{IsPart, PartValue, problem_in}
use Rattle.fb_regions.specs.Paces.{grows, shrinks}
use Rattle.fb_regions.specs.declared.roles.Role.TheVariants.{Plus, Minus, Out}
use Rattle.fb_search.specs.declared.near.NearPair.{NearPair}
use Rattle.fb_search.specs.InternalNear.{IsNearPair, alone}
use Rattle.fb_trees.specs.TreesOver.{IsTreeOver}
use Rattle.fb_search.specs.InternalTightEdges.{Meets}
use Rattle.fb_trees.specs.InternalMetWalks.{IsBetween, IsMetWalk}
use Rattle.fb_search.specs.InternalSearching.{stepped_by}
use Rattle.fb_search.specs.Progress.{IsSearched}
use Rattle.fb_search.specs.InternalSearching.{IsSearching, SearchValue, roles_in}
use Rattle.fb_search.proofs.EndedParts.{part_after}
use Rattle.fb_search.proofs.EndedWays.{met_match}
use Rattle.fb_search.proofs.KeptNodes.{beside_stepped}
use Rattle.fb_search.proofs.NearGrowth.{covered_alone, load_grown, may_grow}
use Rattle.fb_search.proofs.NearMatches.{bears_growth, leads_apart, root_is_plus, root_over, searched_after, slack, touches_from}
use Rattle.fb_search.proofs.NearParts.{bare_search, grown, part_grown, searching_bare}
use Rattle.fb_search.proofs.ScopeWalks.{between_scoped, met_scoped, scoped}
use Rattle.fb_search.proofs.SearchRoles.{tree_over}
use Rattle.fb_search.proofs.SteppedSearches.{searching_stepped, step_in_scope, tree_in_scope}
use Rattle.fb_search.proofs.TakenNames.{without_taken}
use Rattle.fb_search.proofs.TreeEnds.{meets_between, met_apart, met_ended, root_left}
use Rattle.fb_links.proofs.MovedLinks.{Table}
use Rattle.fb_graph.proofs.Walks.{Leads_flip}

-- a node beside the root of a tree that is the root alone has no role
module _ (root other : ℕ) (part : PartValue) (k : ℕ) (apart : root ≢ other) where
  beside_not_plus : (roles_in (stepped_by k (bare_search root part))).is_plus other ≡ false
  beside_not_plus =
      ap (λ b. grows (if b || false then Plus else (if is_in [] other then Minus else Out))) (ne_eqb root other apart)

  beside_not_minus : (roles_in (stepped_by k (bare_search root part))).is_minus other ≡ false
  beside_not_minus =
      ap (λ b. shrinks (if b || false then Plus else (if is_in [] other then Minus else Out))) (ne_eqb root other apart)

-- what the edge bears, whether or not it leads to the other defect, which grew first
both_grown : (b : Bool) (l first second n : ℕ) → l + (if b then first + second else first) ≤ n
    → (l + (if b then second else 0)) + first ≤ n
both_grown true l first second n h = omega arith
both_grown false l first second n h = omega arith

one_grown : (b : Bool) (l first second n : ℕ) → l + (if b then first + second else second) ≤ n → l + second ≤ n
one_grown true l first second n h = omega arith
one_grown false l first second n h = h

module _ (part : PartValue) (root : ℕ) (pair : NearPair) (are : IsPart part) (limits : IsWithinLimits (problem_in part))
    (within : is_in part.matching.unmatched root ≡ true)
    (near : IsNearPair (problem_in part) part.nodes part.matching.unmatched root pair) where
  abbrev p : Problem
  p = problem_in part

  abbrev e : Edge
  e = edge_at p.edges pair.edge

  dual : IsDual p part.nodes
  dual = are.state.work.nest.dual

  -- the two are different nodes
  ends_apart : near.inner ≢ near.outer
  ends_apart = leads_apart p pair.edge near.inner near.outer limits near.within near.leads

  roots_apart : root ≢ pair.other
  roots_apart same =
      let sets : near.inner ∷ [] ≡ near.outer ∷ [] = sym near.top ∙ (ap (top_at part.nodes) same ∙ near.single.top) in
      ends_apart (let h : near.inner ≡ near.outer = cc in h)

  covered : cover_of part.nodes near.inner ≡ Some root
  covered =
      covered_alone p part.nodes root near.inner dual near.top (are.state.names.live root within)
      (are.state.work.outer root within)

  not_under : (name : ℕ) → cover_of part.nodes near.inner ≡ Some name → cover_of part.nodes near.outer ≡ Some name → ⊥
  not_under name one other =
      let first : Some root ≡ Some name = sym covered ∙ one in
      let second : Some pair.other ≡ Some name = sym near.single.covered ∙ other in
      roots_apart (let h : root ≡ pair.other = cc in h)

  -- the other one grows first
  pub other_may : MayStep p (alone pair.other) part.nodes pair.other_length
  other_may =
      may_grow p part.nodes pair.other near.outer dual near.single.top pair.other_length
      (λ j less at. one_grown (touches near.inner (edge_at p.edges j)) _ pair.length pair.other_length _
      (bears_growth p part.nodes near.outer near.inner (pair.length + pair.other_length) pair.other_length dual near.other_room j less at))

  abbrev mid : PartValue
  mid = grown pair.other pair.other_length part

  pub mid_is : IsPart mid
  mid_is = part_grown pair.other pair.other_length part are limits near.single.listed other_may near.even

  mid_top : top_at mid.nodes root ≡ near.inner ∷ []
  mid_top = top_stepped (alone pair.other) pair.other_length root part.nodes ∙ near.top

  mid_dual : IsDual p mid.nodes
  mid_dual = mid_is.state.work.nest.dual

  -- and then the root
  pub root_may : MayStep p (alone root) mid.nodes pair.length
  root_may =
      may_grow p mid.nodes root near.inner mid_dual mid_top pair.length
      (λ j less at. subst (λ l. l + pair.length ≤ (edge_at p.edges j).weight)
      (sym (load_grown p part.nodes pair.other near.outer dual near.single.top pair.other_length (edge_at p.edges j)))
      (both_grown (touches near.outer (edge_at p.edges j)) _ pair.length pair.other_length _
      (bears_growth p part.nodes near.inner near.outer (pair.length + pair.other_length) pair.length dual near.room j less at)))

  abbrev last : SearchValue
  last = stepped_by pair.length (bare_search root mid)

  pub pair_search : IsSearching last
  pair_search =
      searching_stepped (bare_search root mid) pair.length (searching_bare root mid mid_is within) limits root_may

  mid_covered : cover_of mid.nodes near.inner ≡ Some root
  mid_covered = cover_stepped (alone pair.other) part.nodes pair.other_length near.inner ∙ covered

  -- then the edge is tight
  tight : load_of (all_cuts last.part.nodes) e ≡ e.weight
  tight =
      let touch = touches_from p pair.edge near.inner near.outer limits near.within near.leads in
      let back = touches_from p pair.edge near.outer near.inner limits near.within (Leads_flip e near.inner near.outer near.leads) in
      omega (
        arith,
        load_grown p mid.nodes root near.inner mid_dual mid_top pair.length e,
        load_grown p part.nodes pair.other near.outer dual near.single.top pair.other_length e,
        ap (λ b. if b then pair.length else 0) touch,
        ap (λ b. if b then pair.other_length else 0) back,
        slack p part.nodes pair.edge near.inner near.outer (pair.length + pair.other_length) dual near.within near.leads not_under
            near.residue,
      )

  pub pair_meets : Meets last pair.edge root pair.other
  pair_meets = record {
    inner = near.inner;
    outer = near.outer;
    obstacle = record {
      edge = record {
        within = near.within;
        leads = near.leads;
        tight = tight;
        plus = root_is_plus root near.inner mid pair.length mid_covered;
      };
      covered = cover_stepped (alone root) mid.nodes pair.length near.outer
          ∙ (cover_stepped (alone pair.other) part.nodes pair.other_length near.outer ∙ near.single.covered);
      not_plus = beside_not_plus root pair.other mid pair.length roots_apart;
      not_minus = beside_not_minus root pair.other mid pair.length roots_apart;
    };
    covered = root_over root near.inner mid pair.length mid_covered;
  }

  -- what the code asks of the scope
  module _ (s : NodeScope) (own : IsScopeOf s part) where
    last_own : IsScopeOf s last.part
    last_own = record { graph = own.graph; plan = own.plan; node = own.node }

    pub other_tree : IsTreeOver (scoped s) (bare pair.other) part.nodes
    other_tree =
        tree_in_scope (bare_search pair.other part) (scope_graph s) s.plan.now s.node own.graph
        (tree_over (bare_search pair.other part) (searching_bare pair.other part are near.single.listed))

    pub other_step : MayStep (scoped s) (alone pair.other) part.nodes pair.other_length
    other_step =
        step_in_scope (bare_search pair.other part) (scope_graph s) s.plan.now s.node pair.other_length (alone pair.other) own.graph
        other_may

    pub root_tree : IsTreeOver (scoped s) (bare root) mid.nodes
    root_tree =
        tree_in_scope (bare_search root mid) (scope_graph s) s.plan.now s.node own.graph
        (tree_over (bare_search root mid) (searching_bare root mid mid_is within))

    pub root_step : MayStep (scoped s) (alone root) mid.nodes pair.length
    root_step =
        step_in_scope (bare_search root mid) (scope_graph s) s.plan.now s.node pair.length (alone root) own.graph root_may

    pub pair_between : (a b : ℕ) × IsBetween (scoped s) last.part.nodes pair.edge a b
    pair_between =
        between_scoped last.part s last_own pair.edge root pair.other (meets_between last pair.edge root pair.other pair_meets)

    pub pair_walk : (walk : List Step)
        → ((a b : ℕ) → IsBetween (scoped s) last.part.nodes pair.edge a b → IsMetWalk (scoped s) last.part.nodes a b walk)
        → IsMetWalk p last.part.nodes root pair.other walk
    pair_walk walk walks =
        met_scoped last.part s last_own pair.edge root pair.other walk (meets_between last pair.edge root pair.other pair_meets)
        walks

  -- taking the other node off the list leaves the root there
  pub pair_root_left : (rest : List ℕ) → IsPermutation part.matching.unmatched (pair.other ∷ rest) → is_in rest root ≡ true
  pair_root_left rest moved = root_left last pair.edge root pair.other rest pair_search pair_meets moved

  -- the other node is taken off the list, and then the root
  module _ (link : ℕ) (between unmatched : List ℕ) (first : IsPermutation part.matching.unmatched (pair.other ∷ between))
      (second : IsPermutation between (root ∷ unmatched)) where
    pub pair_listed : AreDistinct ((unmatched ++ matched_names part.matching.matches)
        ++ matched_names (met_match link root pair.other ∷ []))
    pair_listed = met_apart last pair.edge root pair.other link between unmatched pair_search pair_meets first second

    left_beside : (n : ℕ) → is_in unmatched n ≡ true → is_in (names_without pair.other part.matching.unmatched) n ≡ true
    left_beside n there =
        sym (same_permuted (names_without pair.other part.matching.unmatched) between
        (without_taken pair.other part.matching.unmatched between are.state.names.distinct first) n)
        ∙ (sym (same_permuted between (root ∷ unmatched) second n) ∙ is_in-tail root unmatched n there)

    pub pair_matched : (walk : List Step) (new : Table) → IsMetWalk p last.part.nodes root pair.other walk → Adds part.links new link walk
        → IsPart (part_after last root new unmatched part.matching.matches (met_match link root pair.other))
        × IsSearched root part (part_after last root new unmatched part.matching.matches (met_match link root pair.other))
    pair_matched walk new is adds =
        let (state, searched) =
        met_ended last pair.edge root pair.other link between unmatched pair_search pair_meets first second walk new new is
        near.single.listed adds (λ n. refl) in
        let from_mid =
        searched_after (bare_search root mid) pair.length _ (searching_bare root mid mid_is within) searched in (
          state,
          record {
            part = record { job = from_mid.part.job; slot = from_mid.part.slot; node = from_mid.part.node };
            others = from_mid.others;
            kept = λ n left. from_mid.kept n left
                ∙ beside_stepped (bare_search pair.other part) pair.other_length
                (searching_bare pair.other part are near.single.listed) n (left_beside n left);
            fewer = from_mid.fewer;
            few = from_mid.few;
          },
        )
