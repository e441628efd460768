-- What is listed and stored after a cycle of a tree becomes a blossom.
use Rattle.std.proofs.Common.{ℕ, ◌≡◌, ◌==◌, ◌⊎◌, inl, inr, Bool, true, false, List, [], ◌∷◌, map, Option, if◌then◌else◌, refl, sym, ap, ◌∙◌, subst}
use Rattle.std.specs.List.Sorted.{IsPermutation}
use Rattle.std.proofs.lemmas.Bool.{cases_eq, eq-eqb, eqb-true, false_from_ne_true}
use Rattle.std.proofs.lemmas.List.Sorted.{IsPermutation-map, IsPermutation-trans}
use Rattle.fb_graph.specs.Parity.{is_in}
use Rattle.fb_graph.specs.Laws.{Link}
use Rattle.fb_graph.proofs.Sets.{is_in-head, is_in-tail}
use Rattle.fb_links.specs.declared.cycle.CycleStep.{CycleStep}
use Rattle.fb_links.specs.declared.walk.Step.{Step}
use Rattle.fb_blossoms.specs.Nodes.{Adds, cycle_of}
use Rattle.fb_blossoms.specs.Nodes as blossoms
use Rattle.fb_laws.specs.PartStates.{SearchState}
use Rattle.fb_laws.specs.SearchBlossoms.{renamed_name}
use Rattle.fb_laws.specs.StateBlossoms.{with_cycle}
use Rattle.fb_laws.specs.TreeCycles.{cycle_links}
use Rattle.fb_laws.specs.Trees.{EntryOf}
use Rattle.fb_trees.proofs.Mapped.{cycle_links_moved}
use Rattle.fb_half.specs.Translations.{cycles_by, entry_by, link_by}
use Rattle.fb_search.proofs.Cycles.{cycle_from}

same_names : (joins : ℕ → Bool) (name : ℕ) (ns : List ℕ) → ((n : ℕ) → is_in ns n ≡ true → joins n ≡ false)
    → map (renamed_name joins name) ns ≡ ns
same_names joins name [] out = refl
same_names joins name (n ∷ ns) out =
    ap (λ b. (if b then name else n) ∷ map (renamed_name joins name) ns) (out n (is_in-head n ns))
    ∙ ap (λ l. n ∷ l) (same_names joins name ns (λ k there. out k (is_in-tail n ns k there)))

module _ (s : SearchState) (links : List (Option (List Step))) (name closing : ℕ) (shared up down : List (EntryOf ℕ)) where
  abbrev pub made_links : List Link
  made_links = cycle_links (map (entry_by links) up) (link_by links closing) (map (entry_by links) down)

  -- the blossom is listed in the place of the root, if that is on the cycle
  pub names_joined : (beside unmatched : List ℕ) → IsPermutation s.unmatched (s.root ∷ beside)
      → ((n : ℕ) → is_in beside n ≡ true → is_in (cycle_from s.root shared up down) n ≡ false)
      → IsPermutation (renamed_name (is_in (cycle_from s.root shared up down)) name s.root ∷ beside) unmatched
      → IsPermutation (map (renamed_name (is_in (cycle_from s.root shared up down)) name) s.unmatched) unmatched
  names_joined beside unmatched root_in out listed =
      IsPermutation-trans (map (renamed_name (is_in (cycle_from s.root shared up down)) name) s.unmatched)
      (renamed_name (is_in (cycle_from s.root shared up down)) name s.root ∷ beside) unmatched
      (subst
      (λ l.
      IsPermutation (map (renamed_name (is_in (cycle_from s.root shared up down)) name) s.unmatched)
      (renamed_name (is_in (cycle_from s.root shared up down)) name s.root ∷ l))
      (same_names (is_in (cycle_from s.root shared up down)) name beside out)
      (IsPermutation-map (renamed_name (is_in (cycle_from s.root shared up down)) name) s.unmatched (s.root ∷ beside) root_in))
      listed

  -- the store has the cycle's links for the blossom, and those of the other blossoms as before
  pub links_stored : (old new : List (Option blossoms.Node)) (steps : List CycleStep)
      → ((n : ℕ) → s.cycles n ≡ cycles_by links old n) → map (λ c. c.link) steps ≡ cycle_links up closing down
      → Adds old new name (blossoms.blossom old steps) → (n : ℕ)
      → cycles_by links new n ≡ with_cycle name made_links s.cycles n
  links_stored old new steps cycles_are links_are adds n = by (cases_eq n name)
    where
      by : (n ≡ name) ⊎ (n ≡ name → ⊥) → cycles_by links new n ≡ with_cycle name made_links s.cycles n
      by (inl e) =
          ap (cycles_by links new) e
          ∙ (ap (λ (o : Option blossoms.Node). map (link_by links) (map (λ c. c.link) (cycle_of o))) adds.added
          ∙ (ap (map (link_by links)) links_are
          ∙ (sym (cycle_links_moved (link_by links) up closing down)
          ∙ ap (λ t. if t then made_links else s.cycles n) (sym (eq-eqb n name e)))))
      by (inr differ) =
          ap (λ (o : Option blossoms.Node). map (link_by links) (map (λ c. c.link) (cycle_of o))) (adds.others n differ)
          ∙ (sym (cycles_are n)
          ∙ ap (λ t. if t then made_links else s.cycles n)
          (sym (false_from_ne_true (n == name) (λ same. differ (eqb-true n name same)))))
