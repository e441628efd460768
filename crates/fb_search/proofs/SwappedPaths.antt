-- The links of the path from a tree's root to a plus node change places where a search ends there.
use Rattle.std.proofs.Common.{ℕ, ◌≡◌, ◌≢◌, ◌+◌, ◌<◌, ◌≤◌, ◌⊎◌, inl, inr, true, List, [], ◌∷◌, ◌++◌, map, reverse, length, drop, get_or, refl, sym, ap, ◌∙◌, append_assoc, arith}
use Rattle.std.proofs.lemmas.Bool.{cases_eq, eq-eqb, false≢true, ne_eqb}
use Rattle.std.proofs.lemmas.List.{length-drop, reverse-append}
use Rattle.fb_graph.specs.Parity.{is_in}
use Rattle.fb_graph.proofs.Sets.{is_in-cases}
use Rattle.fb_links.specs.declared.cycle.CycleStep.{CycleStep}
use Rattle.fb_laws.specs.LinkNumbers.{links_dropped}
use Rattle.fb_laws.specs.TreeCycles.{last_plus}
use Rattle.fb_laws.specs.Trees.{EntryOf, branches_beside, paired_links, path_to, plus_names}
use Rattle.fb_trees.specs.Branches.{Grown, entry_of}
use Rattle.fb_trees.specs.Rooted.{AreHung, IsPlus, IsRooted}
use Rattle.fb_trees.specs.TreeSteps.{path_up, step, steps_up}
use Rattle.fb_trees.specs.declared.branch.Branch.{Branch}
use Rattle.fb_trees.proofs.Paths.{up_from_plus}
use Rattle.fb_half.specs.declared.matches.Match.{Match}
use Rattle.fb_search.specs.InternalEndings.{beside_match, ended_matches, path_match, swapped_from, swapped_match}
use Rattle.fb_search.specs.InternalOpenings.{between_on}
use Rattle.fb_search.proofs.EndedTrees.{read_as}
use Rattle.fb_search.proofs.StepPairs.{two_more}

-- each branch hangs on the plus node of the one before it, the first one on the named node
abbrev AreChained : ℕ → List (EntryOf ℕ) → Type 0
AreChained parent [] = Unit {0}
AreChained parent (e ∷ es) = (e.parent ≡ parent) × AreChained e.plus es

chained_push : (root : ℕ) (es : List (EntryOf ℕ)) (e : EntryOf ℕ) → AreChained root es → last_plus root es ≡ e.parent
    → AreChained root (es ++ e ∷ [])
chained_push root [] e chained last = (sym last, tt)
chained_push root (x ∷ xs) e chained last = (chained.0, chained_push x.plus xs e chained.1 last)

last_push : (root : ℕ) (es : List (EntryOf ℕ)) (e : EntryOf ℕ) → last_plus root (es ++ e ∷ []) ≡ e.plus
last_push root [] e = refl
last_push root (x ∷ xs) e = last_push x.plus xs e

record LeadsTo (root : ℕ) (path : List (EntryOf ℕ)) (name : ℕ) : Type 0 where
  pub chained : AreChained root path
  pub last : last_plus root path ≡ name

-- the path to a plus node leads there from the root
path_leads : (root : ℕ) (tree : List (EntryOf ℕ)) (name : ℕ) → AreHung root tree → is_in (plus_names root tree) name ≡ true
    → LeadsTo root (path_to tree name) name
path_leads root [] name hung plus = by (is_in-cases root [] name plus)
  where
    by : (root ≡ name) ⊎ (is_in [] name ≡ true) → LeadsTo root [] name
    by (inl same) = record { chained = tt; last = same }
    by (inr h) = absurd (false≢true h)
path_leads root (e ∷ es) name hung plus =
    by (cases_eq e.plus name) (path_leads root es e.parent hung.1 hung.0) (λ h. path_leads root es name hung.1 h)
  where
    Goal : Type 0
    Goal = LeadsTo root (path_to (e ∷ es) name) name

    among_rest : e.plus ≢ name → (e.plus ≡ name) ⊎ (is_in (plus_names root es) name ≡ true) → is_in (plus_names root es) name ≡ true
    among_rest other (inl same) = absurd (other same)
    among_rest other (inr h) = h

    by : (e.plus ≡ name) ⊎ (e.plus ≢ name) → LeadsTo root (path_to es e.parent) e.parent
        → (is_in (plus_names root es) name ≡ true → LeadsTo root (path_to es name) name) → Goal
    by (inl same) up rest =
        rw (eq-eqb e.plus name same)
        (record {
          chained = chained_push root (path_to es e.parent) e up.chained up.last;
          last = last_push root (path_to es e.parent) e ∙ same;
        })
    by (inr other) up rest =
        rw (ne_eqb e.plus name other) (rest (among_rest other (is_in-cases e.plus (plus_names root es) name plus)))

-- the steps of the path down from the root
abbrev steps_out : List (EntryOf ℕ) → List CycleStep
steps_out [] = []
steps_out (e ∷ es) = step e.minus e.tree ∷ step e.plus e.matched ∷ steps_out es

turned_up : (es : List (EntryOf ℕ)) → reverse (steps_up es) ≡ steps_out es
turned_up [] = refl
turned_up (e ∷ es) =
    reverse-append (steps_up es) (step e.plus e.matched ∷ step e.minus e.tree ∷ [])
    ∙ ap (λ l. step e.minus e.tree ∷ step e.plus e.matched ∷ l) (turned_up es)

swapped_out : (root : ℕ) (es : List (EntryOf ℕ)) → AreChained root es → swapped_from root (steps_out es) ≡ map path_match es
swapped_out root [] chained = refl
swapped_out root (e ∷ es) chained =
    ap (λ n. swapped_match n (step e.minus e.tree) ∷ swapped_from e.plus (steps_out es)) (sym chained.0)
    ∙ ap (λ l. path_match e ∷ l) (swapped_out e.plus es chained.1)

between_out : (es : List (EntryOf ℕ)) → between_on (steps_out es) ≡ paired_links es
between_out [] = refl
between_out (e ∷ es) = ap (λ l. e.matched ∷ l) (between_out es)

way_out : (t : Grown) → IsRooted t.root t.branches → (name : ℕ) → IsPlus t name
    → reverse (path_up t name) ≡ steps_out (path_to t.branches name)
way_out t rooted name plus = ap reverse (sym (up_from_plus t rooted name plus)) ∙ turned_up (path_to t.branches name)

pub matches_swapped : (t : Grown) → IsRooted t.root t.branches → (name : ℕ) → IsPlus t name → (others : List Branch)
    → map entry_of others ≡ branches_beside t.branches name
    → swapped_from t.root (reverse (path_up t name)) ++ map (λ b. beside_match (entry_of b)) others ≡ ended_matches t.branches name
matches_swapped t rooted name plus others off =
    ap (λ l. l ++ map (λ b. beside_match (entry_of b)) others)
    (ap (swapped_from t.root) (way_out t rooted name plus)
    ∙ swapped_out t.root (path_to t.branches name) (path_leads t.root t.branches name rooted.hung plus).chained)
    ∙ ap (λ l. map path_match (path_to t.branches name) ++ l) (read_as beside_match others (branches_beside t.branches name) off)

pub links_swapped : (t : Grown) → IsRooted t.root t.branches → (name : ℕ) → IsPlus t name → (others : List Branch)
    → map entry_of others ≡ branches_beside t.branches name
    → between_on (reverse (path_up t name)) ++ map (λ b. b.tree) others ≡ links_dropped t.branches name
links_swapped t rooted name plus others off =
    ap (λ l. l ++ map (λ b. b.tree) others) (ap between_on (way_out t rooted name plus) ∙ between_out (path_to t.branches name))
    ∙ ap (λ l. paired_links (path_to t.branches name) ++ l) (read_as (λ e. e.tree) others (branches_beside t.branches name) off)

pub swapped_more : (xs : List CycleStep) (parent i : ℕ) (d : CycleStep) → i + 1 < length xs
    → swapped_from parent (drop i xs)
    ≡ swapped_match parent (get_or xs i d) ∷ swapped_from (get_or xs (i + 1) d).node (drop (i + 2) xs)
swapped_more xs parent i d lt = ap (swapped_from parent) (two_more xs i d lt)

swapped_short : (xs : List CycleStep) (parent : ℕ) → length xs ≤ 1 → swapped_from parent xs ≡ []
swapped_short [] parent le = refl
swapped_short (s ∷ []) parent le = refl
swapped_short (s ∷ t ∷ ss) parent le = absurd (omega (arith, le))

pub swapped_done : (xs : List CycleStep) (parent i : ℕ) → length xs ≤ i + 1 → swapped_from parent (drop i xs) ≡ []
swapped_done xs parent i le = swapped_short (drop i xs) parent (omega (arith, length-drop i xs))

pub swapped_step : (steps : List CycleStep) (parent i : ℕ) (d : CycleStep) (all done new : List Match) → i + 1 < length steps
    → all ≡ done ++ swapped_from parent (drop i steps) → new ≡ done ++ swapped_match parent (get_or steps i d) ∷ []
    → all ≡ new ++ swapped_from (get_or steps (i + 1) d).node (drop (i + 2) steps)
swapped_step steps parent i d all done new lt is pushed =
    is
    ∙ ap (λ l. done ++ l) (swapped_more steps parent i d lt)
    ∙ sym (append_assoc done (swapped_match parent (get_or steps i d) ∷ [])
    (swapped_from (get_or steps (i + 1) d).node (drop (i + 2) steps)))
    ∙ ap (λ l. l ++ swapped_from (get_or steps (i + 1) d).node (drop (i + 2) steps)) (sym pushed)
