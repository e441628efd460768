-- What the new list of branches is after nodes are replaced.
use Rattle.std.proofs.Common.{ℕ, ◌≡◌, ◌<◌, ◌+◌, ◌⊎◌, inl, inr, Bool, true, List, [], ◌∷◌, ◌++◌, length, get_or, take, drop, Some, None, sym, ap, ◌∙◌, subst, append_assoc}
use Rattle.std.proofs.lemmas.Bool.{both_ways}
use Rattle.std.proofs.lemmas.List.{drop_more, take-append-drop}
use Rattle.fb_graph.specs.Parity.{is_in}
use Rattle.fb_links.specs.declared.cycle.CycleStep.{CycleStep}
use Rattle.fb_laws.specs.Trees.{EntryOf, minus_names, plus_names}
use Rattle.fb_laws.specs.SearchBlossoms.{joined_tree, renamed_name}
use Rattle.fb_laws.specs.OpenedCycles.{opened_tree}
use Rattle.fb_trees.specs.declared.branch.Branch.{Branch}
use Rattle.fb_trees.specs.Branches.{Grown, entries_of, entry_of}
use Rattle.fb_trees.specs.Replacements.{IsOpened, MayJoin, MayOpen, first_node, way_of}
use Rattle.fb_trees.specs.Rooted.{IsMinus, IsRooted}
use Rattle.fb_trees.specs.InternalPlaces.{branch_at, place_of}
use Rattle.fb_trees.proofs.Lookups.{branch_in, branch_nodes, entries_append, has_place, no_branch, no_branch_plus}
use Rattle.fb_trees.proofs.Names.{exclusive_names}
use Rattle.fb_trees.proofs.Replacing.{joined_rooted, opened_rooted}

-- any branch
abbrev pub some_branch : Branch
some_branch = record { parent = 0; tree = 0; minus = 0; matched = 0; plus = 0 }

-- the branches of a list after the minus node of the branch at the place is opened
abbrev pub opened_at : List Branch → ℕ → List CycleStep → List (EntryOf ℕ)
opened_at xs place path =
    opened_tree (entries_of (drop (place + 1) xs)) (entry_of (get_or xs place some_branch)) (entries_of (take place xs))
    (first_node path) (way_of path)

pub rooted_after : (t : Grown) (gone : List ℕ) (name : ℕ) (inside : ℕ → Bool) → inside ≡ is_in gone → IsRooted t.root t.branches
    → MayJoin t gone name → (root : ℕ) → root ≡ renamed_name inside name t.root → (branches : List (EntryOf ℕ))
    → branches ≡ joined_tree inside name t.branches → IsRooted root branches
rooted_after t gone name inside same rooted may root root_is branches is =
    subst (λ r. IsRooted r branches) (sym (root_is ∙ ap (λ f. renamed_name f name t.root) same))
    (subst (IsRooted (renamed_name (is_in gone) name t.root)) (sym (is ∙ ap (λ f. joined_tree f name t.branches) same))
    (joined_rooted t gone name rooted may))

pub minus_has_place : (es : List (EntryOf ℕ)) (name : ℕ) → is_in (minus_names es) name ≡ true → place_of es name ≡ None → ⊥
minus_has_place es name minus none =
    both_ways (is_in (minus_names es) name) (no_branch_plus 0 es name (no_branch es name none)).1 minus

-- the branches newer than the one at a place, that one, and the older ones
pub split_entries : (xs : List Branch) (i : ℕ) (d : Branch) → i < length xs
    → entries_of xs ≡ entries_of (drop (i + 1) xs) ++ entry_of (get_or xs i d) ∷ entries_of (take i xs)
split_entries xs i d below =
    ap entries_of (sym (take-append-drop i xs) ∙ ap (λ l. take i xs ++ l) (drop_more xs i d below))
    ∙ (entries_append (take i xs) (get_or xs i d ∷ drop (i + 1) xs)
    ∙ (ap (λ l. l ++ entries_of (take i xs)) (entries_append (get_or xs i d ∷ []) (drop (i + 1) xs))
    ∙ append_assoc (entries_of (drop (i + 1) xs)) (entry_of (get_or xs i d) ∷ []) (entries_of (take i xs))))

-- the branch at the place of a minus node has it as its minus node
minus_at : (t : Grown) → IsRooted t.root t.branches → (name : ℕ) → IsMinus t name → (e : EntryOf ℕ) → branch_at t.branches name ≡ Some e
    → e.minus ≡ name
minus_at t rooted name minus e is = by (branch_nodes t.branches name e is)
  where
    by : ((e.minus ≡ name) × (is_in (minus_names t.branches) name ≡ true))
        ⊎ ((e.plus ≡ name) × ((root : ℕ) → is_in (plus_names root t.branches) name ≡ true)) → e.minus ≡ name
    by (inl (same, there)) = same
    by (inr (same, plus)) =
        absurd (both_ways (is_in (minus_names t.branches) name) (exclusive_names t.root t.branches rooted.names name (plus t.root)) minus)

pub opened_is : (t : Grown) → IsRooted t.root t.branches → (name : ℕ) (path : List CycleStep) → MayOpen t name path
    → (xs : List Branch) → entries_of xs ≡ t.branches → (place : ℕ) → place_of (entries_of xs) name ≡ Some place
    → (branches : List (EntryOf ℕ)) → branches ≡ opened_at xs place path
    → (new : Grown) → new ≡ record { root = t.root; branches = branches }
    → IsOpened t name path new
opened_is t rooted name path may xs are place at branches is new new_is = record {
  newer = entries_of (drop (place + 1) xs);
  branch = entry_of (get_or xs place some_branch);
  older = entries_of (take place xs);
  was = sym are ∙ split_entries xs place some_branch (has_place xs name place at);
  minus = minus_at t rooted name may.minus (entry_of (get_or xs place some_branch))
      (ap (λ l. branch_at l name) (sym are) ∙ sym (branch_in xs name place some_branch at));
  root = ap (λ n. n.root) new_is;
  branches = ap (λ n. n.branches) new_is ∙ is;
}

pub opened_stays_rooted : (t : Grown) → IsRooted t.root t.branches → (name : ℕ) (path : List CycleStep) → MayOpen t name path
    → (xs : List Branch) → entries_of xs ≡ t.branches → (place : ℕ) → place_of (entries_of xs) name ≡ Some place
    → (branches : List (EntryOf ℕ)) → branches ≡ opened_at xs place path
    → IsRooted t.root branches
opened_stays_rooted t rooted name path may xs are place at branches is =
    subst (IsRooted t.root) (sym is)
    (opened_rooted t name path rooted may (entries_of (drop (place + 1) xs)) (entries_of (take place xs)) (entry_of (get_or xs place some_branch))
    (sym are ∙ split_entries xs place some_branch (has_place xs name place at)))
