-- The unmatched nodes that are no roots of growing trees wait: which they are, and that a step of the trees leaves them.
use Rattle.std.proofs.Common.{ℕ, ◌≡◌, ◌||◌, ◌&&◌, not, Bool, true, false, List, [], ◌∷◌, ◌++◌, map, set, Option, Some, refl, sym, ap, ◌∙◌}
use Rattle.std.proofs.Math.Bool.{and-false}
use Rattle.std.proofs.lemmas.Bool.{and_from, and_parts, not-true, not_from_false}
use Rattle.std.proofs.lemmas.List.{map-append}
use Rattle.fb_graph.specs.Parity.{is_in}
use Rattle.fb_graph.specs.Certificate.{AreDistinct}
use Rattle.fb_graph.proofs.Floods.{is_in-right}
use Rattle.fb_graph.proofs.Sets.{distinct-filter, is_in-filter, is_in-head}
use Rattle.fb_graph.proofs.Members.{is_in-append}
use Rattle.fb_links.specs.declared.walk.Step.{Step}
use Rattle.fb_laws.specs.Forests.{forest_roots}
use Rattle.fb_trees.specs.Branches.{Grown}
use Rattle.fb_trees.specs.Forests.{tree_at}
use Rattle.fb_search.specs.InternalGrowing.{GrowingValue, roots_in, tree_by, waiting_in}
use Rattle.fb_search.proofs.ForestPlaces.{trees_after, trees_before, trees_split, trees_with}

-- the roots by their links or by the numbers of these
pub linked_roots : (table : List (Option (List Step))) (gs : List Grown) → forest_roots (map (tree_by table) gs) ≡ map (λ g. g.root) gs
linked_roots table [] = refl
linked_roots table (g ∷ gs) = ap (λ l. g.root ∷ l) (linked_roots table gs)

-- whether a node waits
pub waits_if : (w : GrowingValue) (n : ℕ) → is_in (waiting_in w) n ≡ (is_in w.part.matching.unmatched n && not (is_in (roots_in w.forest) n))
waits_if w n = is_in-filter (λ m. not (is_in (roots_in w.forest) m)) w.part.matching.unmatched n

pub waits_unmatched : (w : GrowingValue) (n : ℕ) → is_in (waiting_in w) n ≡ true → is_in w.part.matching.unmatched n ≡ true
waits_unmatched w n waits =
    (and_parts (is_in w.part.matching.unmatched n) (not (is_in (roots_in w.forest) n)) (sym (waits_if w n) ∙ waits)).0

pub waits_no_root : (w : GrowingValue) (n : ℕ) → is_in (waiting_in w) n ≡ true → is_in (roots_in w.forest) n ≡ false
waits_no_root w n waits =
    not-true (is_in (roots_in w.forest) n)
    (and_parts (is_in w.part.matching.unmatched n) (not (is_in (roots_in w.forest) n)) (sym (waits_if w n) ∙ waits)).1

pub waits_from : (w : GrowingValue) (n : ℕ) → is_in w.part.matching.unmatched n ≡ true → is_in (roots_in w.forest) n ≡ false
    → is_in (waiting_in w) n ≡ true
waits_from w n unmatched no_root =
    waits_if w n
    ∙ and_from (is_in w.part.matching.unmatched n) (not (is_in (roots_in w.forest) n)) unmatched
    (not_from_false (is_in (roots_in w.forest) n) no_root)

-- a root doesn't
pub root_apart : (w : GrowingValue) (n : ℕ) → is_in (roots_in w.forest) n ≡ true → is_in (waiting_in w) n ≡ false
root_apart w n root =
    waits_if w n
    ∙ (ap (λ b. is_in w.part.matching.unmatched n && not b) root ∙ and-false (is_in w.part.matching.unmatched n))

pub waiting_distinct : (w : GrowingValue) → AreDistinct w.part.matching.unmatched → AreDistinct (waiting_in w)
waiting_distinct w distinct = distinct-filter (λ m. not (is_in (roots_in w.forest) m)) w.part.matching.unmatched distinct

-- the unmatched nodes are the roots, and those that wait, if each root is unmatched
pub roots_or_wait : (w : GrowingValue) → ((n : ℕ) → is_in (roots_in w.forest) n ≡ true → is_in w.part.matching.unmatched n ≡ true)
    → (n : ℕ) → is_in w.part.matching.unmatched n ≡ is_in (roots_in w.forest ++ waiting_in w) n
roots_or_wait w rooted n =
    by (is_in w.part.matching.unmatched n) (is_in (roots_in w.forest) n) (rooted n)
    ∙ (ap (λ b. is_in (roots_in w.forest) n || b) (sym (waits_if w n)) ∙ sym (is_in-append (roots_in w.forest) (waiting_in w) n))
  where
    by : (u r : Bool) → (r ≡ true → u ≡ true) → u ≡ (r || (u && not r))
    by true true h = refl
    by true false h = refl
    by false true h = h refl
    by false false h = refl

-- the same nodes wait where the unmatched nodes and the roots are the same
pub waiting_same : (before after : GrowingValue) → ((n : ℕ) → is_in after.part.matching.unmatched n ≡ is_in before.part.matching.unmatched n)
    → ((n : ℕ) → is_in (roots_in after.forest) n ≡ is_in (roots_in before.forest) n)
    → (n : ℕ) → is_in (waiting_in after) n ≡ is_in (waiting_in before) n
waiting_same before after unmatched roots n =
    waits_if after n
    ∙ (ap (λ b. b && not (is_in (roots_in after.forest) n)) (unmatched n)
    ∙ (ap (λ b. is_in before.part.matching.unmatched n && not b) (roots n) ∙ sym (waits_if before n)))

-- a forest at the number of one of its trees
module _ (forest : List (Option Grown)) (t : ℕ) (g : Grown) (at : tree_at forest t ≡ Some g) where
  pub root_here : is_in (roots_in forest) g.root ≡ true
  root_here =
      ap (λ l. is_in (map (λ x. x.root) l) g.root) (trees_split forest t g at)
      ∙ (ap (λ l. is_in l g.root) (map-append (λ (x : Grown). x.root) (trees_before forest t) (g ∷ trees_after forest t))
      ∙ is_in-right (map (λ x. x.root) (trees_before forest t)) (g.root ∷ map (λ x. x.root) (trees_after forest t)) g.root
      (is_in-head g.root (map (λ x. x.root) (trees_after forest t))))

  -- with another tree of the same root the roots are the same
  pub roots_kept : (h : Grown) → h.root ≡ g.root → roots_in (set forest t (Some h)) ≡ roots_in forest
  roots_kept h same =
      ap (λ l. map (λ x. x.root) l) (trees_with forest t g h at)
      ∙ (map-append (λ (x : Grown). x.root) (trees_before forest t) (h ∷ trees_after forest t)
      ∙ (ap (λ r. map (λ x. x.root) (trees_before forest t) ++ r ∷ map (λ x. x.root) (trees_after forest t)) same
      ∙ (sym (map-append (λ (x : Grown). x.root) (trees_before forest t) (g ∷ trees_after forest t))
      ∙ ap (λ l. map (λ x. x.root) l) (sym (trees_split forest t g at)))))
