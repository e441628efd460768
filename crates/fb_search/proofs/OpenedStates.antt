-- The way between two children of a minus blossom that is opened, as the laws see it.
use Rattle.std.proofs.Common.{ℕ, ◌≡◌, List, ◌∷◌, ◌++◌, map, get_or, sym, ap, ◌∙◌, subst}
use Rattle.std.proofs.lemmas.List.{map-append}
use Rattle.fb_graph.specs.Moves.{MaySplit, split_nodes}
use Rattle.fb_graph.proofs.Among.{All_among, among_All}
use Rattle.fb_links.specs.declared.cycle.CycleStep.{CycleStep}
use Rattle.fb_laws.specs.OpenedCycles.{Couple, IsOpenedCycle, Pass}
use Rattle.fb_laws.specs.OpenedLinks.{round_from}
use Rattle.fb_laws.specs.PartStates.{SearchState}
use Rattle.fb_laws.specs.RingWays.{couples_after, round_at, way_to}
use Rattle.fb_laws.specs.StateRings.{MayOpenAlong}
use Rattle.fb_laws.specs.Trees.{Connects, Entry, EntryOf}
use Rattle.fb_half.specs.Translations.{cycles_by, entry_by, link_by}
use Rattle.fb_trees.specs.Replacements.{way_of}
use Rattle.fb_trees.specs.TreeLinks.{map_pass}
use Rattle.fb_search.specs.InternalOpenings.{couples_on, place_on, round_on}
use Rattle.fb_search.specs.InternalSearching.{SearchValue, problem_of, state_at}
use Rattle.fb_search.proofs.Agreed.{nodes_of}
use Rattle.fb_search.proofs.OpenedAlong.{couples_is, from_is, steps_within, to_is, way_is}
use Rattle.fb_search.proofs.OpenedConditions.{above_on, below_on, children_are, cycle, many, odd, rest, way}
use Rattle.fb_search.proofs.OpenedPlaces.{place_within}
use Rattle.fb_search.proofs.OpenedWays.{couple_by}
use Rattle.fb_search.proofs.Openings.{IsOpening, Opens}
use Rattle.fb_laws.proofs.SearchTrees.{connects_sym}

module _ {more : List ℕ} (w : SearchValue) (name : ℕ) (e : EntryOf ℕ) (above below : ℕ) (are : IsOpening more w)
    (opens : Opens w name e above below) where
  abbrev Cycle : List CycleStep
  Cycle = cycle w name e above below are opens

  abbrev Way : List CycleStep
  Way = way w name e above below are opens

  abbrev Rest : List CycleStep
  Rest = rest w name e above below are opens

  abbrev before : SearchState
  before = state_at w are.parity

  abbrev pub moved : List (EntryOf ℕ) → List Entry
  moved es = map (entry_by w.part.links) es

  abbrev pub passes : List Pass
  passes = map (map_pass (link_by w.part.links)) (way_of Way)

  abbrev pub couples : List Couple
  couples = map (couple_by (link_by w.part.links)) (couples_on Rest)

  abbrev place : ℕ
  place = place_on Cycle above

  abbrev steps : ℕ
  steps = place_on (round_on Cycle above) below

  pub tree_was : map (entry_by w.part.links) w.tree.branches
      ≡ moved opens.branch.newer ++ entry_by w.part.links e ∷ moved opens.branch.older
  tree_was =
      ap (map (entry_by w.part.links)) opens.branch.there
      ∙ map-append (entry_by w.part.links) opens.branch.newer (e ∷ opens.branch.older)

  pub may_split : MaySplit w.part.nodes e.minus
  may_split = subst (MaySplit w.part.nodes) (sym opens.branch.minus) opens.may_split

  may_along : MayOpenAlong before (moved opens.branch.newer) (moved opens.branch.older) (entry_by w.part.links e)
      (nodes_of Cycle) place steps
  may_along = record {
    tree = tree_was;
    may_split = may_split;
    children_are =
        among_All (λ n. n.name ≡ e.minus → n.children ≡ nodes_of Cycle) w.part.nodes
        (λ n a named.
        All_among (λ m. m.name ≡ name → m.children ≡ nodes_of Cycle) w.part.nodes (children_are w name e above below are opens) n a
        (named ∙ opens.branch.minus));
    place_below = place_within Cycle above (above_on w name e above below are opens);
    steps_below =
        steps_within Cycle above below (many w name e above below are opens).distinct (odd w name e above below are opens)
        (above_on w name e above below are opens) (below_on w name e above below are opens);
    above =
        subst (λ n. Connects (split_nodes n w.part.nodes) (link_by w.part.links e.tree) e.parent (get_or (nodes_of Cycle) place 0))
        (sym opens.branch.minus)
        (subst (Connects (split_nodes name w.part.nodes) (link_by w.part.links e.tree) e.parent)
        (sym (from_is Cycle above below (many w name e above below are opens).distinct (odd w name e above below are opens)
        (above_on w name e above below are opens) (below_on w name e above below are opens)))
        opens.at_above.connects);
    below =
        subst
        (λ n.
        Connects (split_nodes n w.part.nodes) (link_by w.part.links e.matched) (get_or (round_from place (nodes_of Cycle)) steps 0)
        e.plus)
        (sym opens.branch.minus)
        (subst (λ c. Connects (split_nodes name w.part.nodes) (link_by w.part.links e.matched) c e.plus)
        (sym (to_is Cycle above below (many w name e above below are opens).distinct (odd w name e above below are opens)
        (above_on w name e above below are opens) (below_on w name e above below are opens)))
        (connects_sym (split_nodes name w.part.nodes) (link_by w.part.links e.matched) e.plus below opens.at_below.connects));
  }

  -- the way and the couples, as the laws see them
  pub law_cycle : IsOpenedCycle (problem_of w) w.part.nodes (split_nodes e.minus w.part.nodes) (entry_by w.part.links e) above passes
      couples w.part.matching.unmatched
  law_cycle =
      subst
      (λ c.
      IsOpenedCycle (problem_of w) w.part.nodes (split_nodes e.minus w.part.nodes) (entry_by w.part.links e) above passes c
      w.part.matching.unmatched)
      (ap (λ n. couples_after steps (round_at place (nodes_of Cycle) (cycles_by w.part.links w.part.store n))) opens.branch.minus
      ∙ couples_is Cycle above below (many w name e above below are opens).distinct (odd w name e above below are opens)
      (above_on w name e above below are opens) (below_on w name e above below are opens) (link_by w.part.links))
      (subst
      (λ p.
      IsOpenedCycle (problem_of w) w.part.nodes (split_nodes e.minus w.part.nodes) (entry_by w.part.links e) above p
      (couples_after steps (round_at place (nodes_of Cycle) (cycles_by w.part.links w.part.store e.minus)))
      w.part.matching.unmatched)
      (ap (λ n. way_to steps (round_at place (nodes_of Cycle) (cycles_by w.part.links w.part.store n))) opens.branch.minus
      ∙ way_is Cycle above below (many w name e above below are opens).distinct (odd w name e above below are opens)
      (above_on w name e above below are opens) (below_on w name e above below are opens) (link_by w.part.links))
      (subst
      (λ from.
      IsOpenedCycle (problem_of w) w.part.nodes (split_nodes e.minus w.part.nodes) (entry_by w.part.links e) from
      (way_to steps (round_at place (nodes_of Cycle) (cycles_by w.part.links w.part.store e.minus)))
      (couples_after steps (round_at place (nodes_of Cycle) (cycles_by w.part.links w.part.store e.minus)))
      w.part.matching.unmatched)
      (from_is Cycle above below (many w name e above below are opens).distinct (odd w name e above below are opens)
      (above_on w name e above below are opens) (below_on w name e above below are opens))
      (are.along (moved opens.branch.newer) (moved opens.branch.older) (entry_by w.part.links e) (nodes_of Cycle) place steps
      may_along)))
