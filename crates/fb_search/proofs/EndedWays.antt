-- A search that ends at the boundary or at another unmatched node leaves a part.
use Rattle.std.proofs.Common.{ℕ, ◌≡◌, ◌==◌, not, true, false, List, [], ◌∷◌, Some, None, refl, ap, ◌∙◌}
use Rattle.std.specs.List.Sorted.{IsPermutation}
use Rattle.std.proofs.lemmas.List.Sorted.{IsPermutation-cons, IsPermutation-middle, IsPermutation-trans}
use Rattle.fb_graph.specs.Parity.{is_in}
use Rattle.fb_graph.specs.Certificate.{AreDistinct}
use Rattle.fb_graph.proofs.Sets.{distinct-filter}
use Rattle.fb_laws.specs.LinkNumbers.{links_dropped}
use Rattle.fb_laws.specs.Searches.{LeavesNode}
use Rattle.fb_laws.specs.Trees.{Connects, plus_names}
use Rattle.fb_laws.specs.Works.{AreMatchedLinks, names_without}
use Rattle.fb_laws.proofs.StateMoves.{state_ended, state_met}
use Rattle.fb_links.specs.declared.walk.Step.{Step}
use Rattle.fb_links.specs.Table.{Adds}
use Rattle.fb_trees.specs.Rooted.{AreHung}
use Rattle.fb_trees.proofs.Mapped.{plus_moved}
use Rattle.fb_half.specs.declared.matches.Match.{Match}
use Rattle.fb_half.specs.Parts.{AreStepsOf, IsPart}
use Rattle.fb_half.specs.Translations.{link_by, link_of, ring_links}
use Rattle.fb_search.specs.InternalSearching.{IsSearching, SearchValue, problem_of, state_at}
use Rattle.fb_search.specs.InternalEndings.{Forgets}
use Rattle.fb_search.specs.Progress.{IsSearched}
use Rattle.fb_search.proofs.EndedCases.{links_counted, taken_at_boundary, taken_with}
use Rattle.fb_search.proofs.EndedParts.{IsEndedBy, ended_part, part_after}
use Rattle.fb_search.proofs.TakenNames.{one_taken, two_taken, without_taken}
use Rattle.fb_links.proofs.MovedLinks.{Table}

-- what the calls did to the links: one is made, and the tree's that match no node are forgotten
pub record AreRelinked (w : SearchValue) (name link : ℕ) (walk : List Step) (new : Table) : Type 0 where
  pub hung : AreHung w.tree.root w.tree.branches
  pub plus : is_in (plus_names w.tree.root w.tree.branches) name ≡ true
  pub mid : Table
  pub adds : Adds w.part.links mid link walk
  pub forgets : Forgets (links_dropped w.tree.branches name) mid new
  pub steps : AreStepsOf (problem_of w) walk
  pub tight : AreMatchedLinks (problem_of w) w.part.nodes (link_of walk ∷ [])

abbrev pub boundary_match : ℕ → ℕ → Match
boundary_match link name = record { link = link; first = name; second = None }

abbrev pub met_match : ℕ → ℕ → ℕ → Match
met_match link name other = record { link = link; first = name; second = Some other }

plus_in : (w : SearchValue) (name : ℕ) → is_in (plus_names w.tree.root w.tree.branches) name ≡ true
    → is_in (plus_names w.tree.root (state_at w 0).tree) name ≡ true
plus_in w name plus = ap (λ l. is_in l name) (plus_moved (link_by w.part.links) w.tree.root w.tree.branches) ∙ plus

pub ended_at_boundary : (w : SearchValue) (name link v : ℕ) (walk : List Step) (new : Table) (unmatched : List ℕ)
    → IsSearching w → AreRelinked w name link walk new → LeavesNode w.part.nodes (link_of walk) name v
    → (problem_of w).is_real v ≡ false → IsPermutation w.part.matching.unmatched (w.tree.root ∷ unmatched)
    → IsPart (part_after w name new unmatched w.part.matching.matches (boundary_match link name))
    × IsSearched w.tree.root w.part (part_after w name new unmatched w.part.matching.matches (boundary_match link name))
ended_at_boundary w name link v walk new unmatched are linked leaves boundary moved =
    ended_part w name new unmatched (names_without w.tree.root w.part.matching.unmatched) w.part.matching.matches
    (boundary_match link name) are by
    (without_taken w.tree.root w.part.matching.unmatched unmatched are.state.1.names.distinct moved)
    (one_taken w.tree.root w.part.matching.unmatched unmatched moved)
    (state_ended (problem_of w) (state_at w are.state.0) name (link_of walk) v
    (record { plus = plus_in w name linked.plus; tight = linked.tight }) leaves boundary are.state.1)
  where
    by : IsEndedBy w name new unmatched w.part.matching.matches (boundary_match link name)
    by = record {
      hung = linked.hung;
      plus = linked.plus;
      mid = linked.mid;
      walk = walk;
      gone = links_dropped w.tree.branches name;
      adds = linked.adds;
      forgets = linked.forgets;
      steps = linked.steps;
      counted = links_counted w.tree.branches name w.part.matching.matches (ring_links w.part.nodes w.part.store);
      takes = taken_at_boundary w.part.matching w.tree.root name unmatched (boundary_match link name) refl moved;
      leads = (v, leaves, boundary);
    }

pub ended_with : (w : SearchValue) (name other link : ℕ) (walk : List Step) (new : Table) (between unmatched : List ℕ)
    → IsSearching w → AreRelinked w name link walk new → Connects w.part.nodes (link_of walk) name other
    → is_in w.part.matching.unmatched other ≡ true → (w.tree.root ≡ other → ⊥)
    → IsPermutation w.part.matching.unmatched (other ∷ between) → IsPermutation between (w.tree.root ∷ unmatched)
    → IsPart (part_after w name new unmatched w.part.matching.matches (met_match link name other))
    × IsSearched w.tree.root w.part (part_after w name new unmatched w.part.matching.matches (met_match link name other))
ended_with w name other link walk new between unmatched are linked connects unpaired differs first second =
    ended_part w name new unmatched (names_without w.tree.root (names_without other names)) w.part.matching.matches
    (met_match link name other) are by
    (without_taken w.tree.root (names_without other names) unmatched (distinct-filter (λ n. not (n == other)) names distinct)
    (IsPermutation-trans _ _ _ (without_taken other names between distinct first) second))
    (two_taken other w.tree.root names between unmatched first second)
    (state_met (problem_of w) (state_at w are.state.0) name other (link_of walk)
    (record { plus = plus_in w name linked.plus; tight = linked.tight }) connects unpaired differs are.state.1)
  where
    names : List ℕ
    names = w.part.matching.unmatched

    distinct : AreDistinct names
    distinct = are.state.1.names.distinct

    by : IsEndedBy w name new unmatched w.part.matching.matches (met_match link name other)
    by = record {
      hung = linked.hung;
      plus = linked.plus;
      mid = linked.mid;
      walk = walk;
      gone = links_dropped w.tree.branches name;
      adds = linked.adds;
      forgets = linked.forgets;
      steps = linked.steps;
      counted = links_counted w.tree.branches name w.part.matching.matches (ring_links w.part.nodes w.part.store);
      takes =
          taken_with w.part.matching w.tree.root name other unmatched (met_match link name other) refl
          (IsPermutation-trans _ _ _ first
          (IsPermutation-trans _ _ _ (IsPermutation-cons other _ _ second) (IsPermutation-middle (other ∷ []) w.tree.root unmatched)));
      leads = connects;
    }
