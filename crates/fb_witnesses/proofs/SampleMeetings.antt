-- Two defects of a line that have absorbed a vertex each, and a minus defect between two others.
use Rattle.std.proofs.Common.{◌≡◌, ◌%◌, ◌≤◌, ◌<◌, inl, inr, true, List, [], ◌∷◌, All, refl, arith}
use Rattle.std.proofs.lemmas.Bool.{false≢true}
use Rattle.std.proofs.lemmas.List.Elements.{All-from_recursion}
use Rattle.fb_graph.specs.Parity.{is_in}
use Rattle.fb_graph.specs.Problem.{edge_at}
use Rattle.fb_graph.specs.Certificate.{IsOddCut}
use Rattle.fb_graph.specs.Laws.{has_real_end}
use Rattle.fb_graph.specs.Limits.{IsWithinLimits}
use Rattle.fb_graph.specs.Dual.{Node, IsCrossed, IsHeld, all_cuts, is_outer}
use Rattle.fb_graph.specs.Covers.{AreRoles}
use Rattle.fb_graph.specs.Links.{AreEven}
use Rattle.fb_graph.specs.Moves.{MayAbsorb, absorbed_nodes}
use Rattle.fb_graph.specs.Nests.{IsNest}
use Rattle.fb_graph.specs.SourceWalks.{HaveWalks}
use Rattle.fb_graph.specs.Singles.{AreSingles, Single, nodes_of}
use Rattle.fb_graph.specs.Steps.{AllowShrinking, Roles}
use Rattle.fb_graph.proofs.BeginningNests.{singles_are_nest}
use Rattle.fb_graph.proofs.RaisedNests.{nest_absorbed}
use Rattle.fb_graph.proofs.Sets.{is_in-All}
use Rattle.fb_graph.proofs.SourceWalks.{walks_begin, walks_stepped, walks_absorbed}
use Rattle.fb_graph.proofs.SingleStates.{singles_are_dual}
use Rattle.fb_laws.specs.MetLinks.{IsSourceUnder, IsTightEdge}
use Rattle.fb_laws.specs.Works.{AreMatchedLinks}
use Rattle.fb_laws.proofs.MetLinks as met
use Rattle.fb_laws.proofs.SearchStates.{links_joined}
use Rattle.fb_witnesses.specs.MetWitnesses.{MetWitness, ThroughWitness, lower_link, lower_turned, met_line, met_nodes, upper_link}
use Rattle.fb_witnesses.specs.NestedWitnesses.{low_nodes}
use Rattle.fb_witnesses.specs.InternalSamples.{single}
use Rattle.fb_witnesses.specs.TreeWitnesses.{long_line}
use Rattle.fb_witnesses.proofs.SampleEndings.{low_state}
use Rattle.fb_witnesses.proofs.SampleNests.{limits_by_cases, stepped_by_cases}
use Rattle.fb_witnesses.proofs.SampleStates.{odd_cut, outer_by_cases}
use Rattle.fb_witnesses.proofs.SampleTrees.{one_link}
use Rattle.fb_witnesses.proofs.ByCases.{fits_by_cases}

-- before they absorb a vertex, in between, and before the last step

abbrev first_singles : List Single
first_singles = single 0 1 2 ∷ single 1 4 2 ∷ []

abbrev first_nodes : List Node
first_nodes = nodes_of first_singles

abbrev second_nodes : List Node
second_nodes = absorbed_nodes 0 2 first_nodes

abbrev third_nodes : List Node
third_nodes = absorbed_nodes 1 3 second_nodes

abbrev growing : Roles
growing = record { is_plus = is_in (0 ∷ 1 ∷ []); is_minus = is_in [] }

first_are : AreSingles met_line first_singles
first_are = record {
  names = (refl, (refl, tt));
  vertices = (refl, (refl, tt));
  real = All-from_recursion (λ s. met_line.is_real s.vertex ≡ true) first_singles (refl, (refl, tt));
  packing = record {
    odd =
        All-from_recursion (IsOddCut met_line) (all_cuts first_nodes)
        (odd_cut _ _ (refl, tt) refl refl, (odd_cut _ _ (refl, tt) refl refl, tt));
    fits = fits_by_cases met_line (all_cuts first_nodes) refl;
  };
  held =
      All-from_recursion (IsHeld met_line) (all_cuts first_nodes)
      (inr (0, omega arith, refl), (inr (3, omega arith, refl), tt));
  total = omega arith;
}

even_met : AreEven met_line
even_met =
    All-from_recursion (λ e. e.weight % 2 ≡ 0) met_line.edges (refl, (refl, (refl, (refl, (refl, (refl, tt))))))

met_limits : IsWithinLimits met_line
met_limits =
    limits_by_cases met_line (omega arith) (omega arith) refl
    (is_in-All (λ v. v < 7) (1 ∷ 2 ∷ 3 ∷ 4 ∷ [])
    (All-from_recursion (λ v. v < 7) (1 ∷ 2 ∷ 3 ∷ 4 ∷ []) (omega arith, (omega arith, (omega arith, (omega arith, tt))))))

first_nest : IsNest met_line first_nodes
first_nest = singles_are_nest met_line first_singles (refl, (refl, tt)) (singles_are_dual met_line first_singles first_are)

may_first : MayAbsorb met_line first_nodes 0 1 1 2
may_first = record {
  within = omega arith;
  leads = inl (refl, refl);
  tight = refl;
  covered = refl;
  uncovered = refl;
  real = refl;
}

second_nest : IsNest met_line second_nodes
second_nest = nest_absorbed met_line first_nodes 0 1 1 2 even_met may_first first_nest

may_second : MayAbsorb met_line second_nodes 1 3 4 3
may_second = record {
  within = omega arith;
  leads = inr (refl, refl);
  tight = refl;
  covered = refl;
  uncovered = refl;
  real = refl;
}

third_nest : IsNest met_line third_nodes
third_nest = nest_absorbed met_line second_nodes 1 3 4 3 even_met may_second second_nest

third_walks : HaveWalks met_line third_nodes
third_walks =
    walks_absorbed met_line second_nodes 1 3 4 3 may_second second_nest
    (walks_absorbed met_line first_nodes 0 1 1 2 may_first first_nest (walks_begin met_line first_singles))

growing_are : AreRoles growing third_nodes
growing_are = record {
  exclusive = λ name plus. refl;
  plus = outer_by_cases growing.is_plus third_nodes outer;
  minus = outer_by_cases growing.is_minus third_nodes outer;
}
  where
    outer : All (λ n. is_outer third_nodes n.name ≡ true) third_nodes
    outer = All-from_recursion (λ n. is_outer third_nodes n.name ≡ true) third_nodes (refl, (refl, tt))

no_minus : AllowShrinking growing third_nodes 2
no_minus =
    All-from_recursion (λ n. growing.is_minus n.name ≡ true → 2 ≤ n.top.value) third_nodes
    (λ e. absurd (false≢true e), (λ e. absurd (false≢true e), tt))

met_nest : IsNest met_line met_nodes
met_nest =
    stepped_by_cases met_line growing third_nodes 2 met_limits growing_are
    (All-from_recursion (λ n. growing.is_plus n.name ≡ true → IsCrossed met_line n.top.vertices) third_nodes
    (λ plus. (0, omega arith, refl), (λ plus. (2, omega arith, refl), tt)))
    refl no_minus third_nest

met_walks : HaveWalks met_line met_nodes
met_walks = walks_stepped met_line growing third_nodes 2 growing_are no_minus third_nest third_walks

left_source : IsSourceUnder met_line met_nodes 0 (1 ∷ []) 1 2
left_source = record {
  defect = refl;
  begins = refl;
  ends = refl;
  real = All-from_recursion (λ k. has_real_end met_line (edge_at met_line.edges k) ≡ true) (1 ∷ []) (refl, tt);
  source = record { leads = (2, omega arith, inl (refl, refl), refl); balance = refl };
}

right_source : IsSourceUnder met_line met_nodes 1 (3 ∷ []) 4 3
right_source = record {
  defect = refl;
  begins = refl;
  ends = refl;
  real = All-from_recursion (λ k. has_real_end met_line (edge_at met_line.edges k) ≡ true) (3 ∷ []) (refl, tt);
  source = record { leads = (3, omega arith, inr (refl, refl), refl); balance = refl };
}

middle_edge : IsTightEdge met_line met_nodes 2 2 3
middle_edge = record { within = omega arith; leads = inl (refl, refl); tight = refl }

outer_edge : IsTightEdge met_line met_nodes 5 3 6
outer_edge = record { within = omega arith; leads = inl (refl, refl); tight = refl }

pub met_witness : MetWitness
met_witness =
    let between =
    met.link_met met_line met_nodes 0 1 (1 ∷ []) (3 ∷ []) 2 1 2 3 4 met_nest.dual (λ e. omega (arith, e)) left_source
    right_source middle_edge in
    let leaving =
    met.link_to_boundary met_line met_nodes 1 (3 ∷ []) 5 4 3 6 met_nest.dual refl right_source outer_edge in (
      met_nest,
      met_walks,
      refl,
      λ e. omega (arith, e),
      left_source,
      right_source,
      middle_edge,
      refl,
      between.0,
      between.1,
      refl,
      outer_edge,
      refl,
      leaving.0,
      leaving.1,
    )

-- the minus defect of the longer line

from_parent : AreMatchedLinks long_line low_nodes (upper_link ∷ [])
from_parent =
    one_link long_line low_nodes 1 3 1 (2 ∷ [])
    (2, omega arith, inl (refl, refl), (3, omega arith, inl (refl, refl), refl)) refl refl (λ h. refl) (λ h. refl)

from_child : AreMatchedLinks long_line low_nodes (lower_link ∷ [])
from_child =
    one_link long_line low_nodes 4 3 3 [] (3, omega arith, inr (refl, refl), refl) refl refl (λ h. refl) (λ h. refl)

to_child : AreMatchedLinks long_line low_nodes (lower_turned ∷ [])
to_child = (met.link_turned long_line low_nodes lower_link from_child).0

pub through_witness : ThroughWitness
through_witness =
    let through = links_joined long_line low_nodes (upper_link ∷ []) (lower_turned ∷ []) from_parent to_child in
    let one =
    met.links_joined long_line low_nodes upper_link lower_turned 0 2 low_state.nest.dual (λ e. omega (arith, e))
    through refl refl refl refl in (
      low_state.nest,
      All-from_recursion (λ n. n.name ≡ 1 → n.children ≡ []) low_nodes (λ e. refl, (λ e. refl, (λ e. refl, tt))),
      record { defect = refl; under = refl },
      refl,
      refl,
      links_joined long_line low_nodes (upper_link ∷ []) (lower_link ∷ []) from_parent from_child,
      inl (refl, refl),
      inr (refl, refl),
      λ e. omega (arith, e),
      λ e. omega (arith, e),
      λ e. omega (arith, e),
      inr refl,
      inr refl,
      refl,
      refl,
      through,
      refl,
      refl,
      refl,
      refl,
      one.0,
      one.1,
    )
