-- The cycle of two paths has an odd number of at least three nodes, each once.
use Rattle.std.proofs.Common.{ℕ, ◌≡◌, ◌==◌, ◌||◌, ◌⊎◌, ◌+◌, ◌*◌, ◌≤◌, inl, inr, cond, true, false, List, [], ◌∷◌, ◌++◌, length, map, sym, ap, ap₂, ◌∙◌, subst, arith}
use Rattle.std.proofs.lemmas.Bool.{cases_Bool, eqb-true, false≢true}
use Rattle.std.proofs.lemmas.List.{length-map}
use Rattle.fb_graph.specs.Parity.{is_in}
use Rattle.fb_graph.specs.Certificate.{AreDistinct}
use Rattle.fb_graph.specs.Nests.{AreMany}
use Rattle.fb_graph.proofs.Sets.{is_in-cases}
use Rattle.fb_links.specs.declared.cycle.CycleStep.{CycleStep}
use Rattle.fb_laws.specs.Trees.{EntryOf, path_to, plus_names}
use Rattle.fb_laws.specs.TreeCycles.{ArePaths, cycle_nodes, last_plus}
use Rattle.fb_laws.proofs.PathNodes.{distinct_cycle, length_cycle}
use Rattle.fb_trees.specs.Branches.{Grown}
use Rattle.fb_trees.specs.Rooted.{IsPlus, IsRooted}
use Rattle.fb_trees.specs.TreeLinks.{map_entry}
use Rattle.fb_trees.specs.TreeSteps.{IsCycle}
use Rattle.fb_trees.proofs.Mapped.{cycle_moved, last_moved, names_moved, paths_moved}
use Rattle.fb_trees.proofs.Names.{no_link}
use Rattle.fb_trees.proofs.StepLists.{last_push}

-- a path ends at its node
pub path_end : (root : ℕ) (es : List (EntryOf ℕ)) (name : ℕ) → is_in (plus_names root es) name ≡ true
    → last_plus root (path_to es name) ≡ name
path_end root [] name plus = by (is_in-cases root [] name plus)
  where
    by : (root ≡ name) ⊎ (is_in [] name ≡ true) → root ≡ name
    by (inl same) = same
    by (inr none) = absurd (false≢true none)
path_end root (e ∷ es) name plus = by (cases_Bool (e.plus == name)) (path_end root es name)
  where
    by : ((e.plus == name) ≡ true) ⊎ ((e.plus == name) ≡ false)
        → (is_in (plus_names root es) name ≡ true → last_plus root (path_to es name) ≡ name)
        → last_plus root (cond (e.plus == name) (path_to es e.parent ++ e ∷ []) (path_to es name)) ≡ name
    by (inl h) rest =
        ap (λ b. last_plus root (cond b (path_to es e.parent ++ e ∷ []) (path_to es name))) h
        ∙ (last_push root (path_to es e.parent) e ∙ eqb-true e.plus name h)
    by (inr h) rest =
        ap (λ b. last_plus root (cond b (path_to es e.parent ++ e ∷ []) (path_to es name))) h
        ∙ rest (sym (ap (λ b. b || is_in (plus_names root es) name) h) ∙ plus)

-- paths to two nodes don't both end where they part
not_both_end : (t : Grown) (a b : ℕ) → IsPlus t a → IsPlus t b → (shared up down : List (EntryOf ℕ))
    → ArePaths t.branches a b shared up down → (a ≡ b → ⊥) → 1 ≤ length up + length down
not_both_end t a b first second shared [] [] paths other =
    absurd (other (sym (path_end t.root t.branches a first) ∙ (ap (last_plus t.root) (paths.first ∙ sym paths.second) ∙ path_end t.root t.branches b second)))
not_both_end t a b first second shared [] (d ∷ ds) paths other = omega arith
not_both_end t a b first second shared (u ∷ us) down paths other = omega arith

length_cycle_names : (up down : List (EntryOf ℕ)) → length (cycle_nodes up down) ≡ 2 * (length up + length down)
length_cycle_names up down =
    sym (ap length (cycle_moved no_link up down))
    ∙ (length_cycle (map (map_entry no_link) up) (map (map_entry no_link) down)
    ∙ ap₂ (λ m n. 2 * (m + n)) (length-map up (map_entry no_link)) (length-map down (map_entry no_link)))

pub many_of_cycle : (t : Grown) → IsRooted t.root t.branches → (a b closing : ℕ) → IsPlus t a → IsPlus t b → (a ≡ b → ⊥)
    → (cycle : List CycleStep) → IsCycle t a b closing cycle → AreMany (map (λ (s : CycleStep). s.node) cycle)
many_of_cycle t rooted a b closing first second other cycle is =
    subst AreMany (sym is.nodes) (record {
      three = omega (arith, some, long);
      odd = omega (arith, long);
      distinct = distinct;
    })
  where
    some : 1 ≤ length is.up + length is.down
    some = not_both_end t a b first second is.shared is.up is.down is.paths other

    distinct : AreDistinct (last_plus t.root is.shared ∷ cycle_nodes is.up is.down)
    distinct =
        subst AreDistinct
        (ap (λ n. n ∷ cycle_nodes (map (map_entry no_link) is.up) (map (map_entry no_link) is.down)) (last_moved no_link t.root is.shared)
        ∙ ap (λ l. last_plus t.root is.shared ∷ l) (cycle_moved no_link is.up is.down))
        (distinct_cycle t.root (map (map_entry no_link) t.branches)
        (subst AreDistinct (sym (names_moved no_link t.root t.branches)) rooted.names) a b (map (map_entry no_link) is.shared)
        (map (map_entry no_link) is.up) (map (map_entry no_link) is.down)
        (paths_moved no_link t.branches a b is.shared is.up is.down is.paths))

    long : length (cycle_nodes is.up is.down) ≡ 2 * (length is.up + length is.down)
    long = length_cycle_names is.up is.down
