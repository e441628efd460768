-- Branches along the path of an opened blossom, two steps after two.
use Rattle.std.proofs.Common.{ℕ, ◌≡◌, ◌<◌, ◌+◌, List, [], ◌∷◌, ◌++◌, length, get_or, drop, sym, ap, ◌∙◌, arith, append_assoc}
use Rattle.std.proofs.lemmas.List.{drop_more}
use Rattle.fb_links.specs.declared.cycle.CycleStep.{CycleStep}
use Rattle.fb_laws.specs.Trees.{EntryOf}
use Rattle.fb_laws.specs.OpenedCycles.{opened_branches}
use Rattle.fb_trees.specs.declared.branch.Branch.{Branch}
use Rattle.fb_trees.specs.Branches.{entries_of, entry_of}
use Rattle.fb_trees.specs.Replacements.{first_node, way_of}
use Rattle.fb_trees.proofs.Lookups.{entries_push}

abbrev along : ℕ → ℕ → List CycleStep → ℕ → ℕ → List (EntryOf ℕ)
along parent tree path matched plus = opened_branches parent tree (first_node path) (way_of path) matched plus

along_more : (path : List CycleStep) (i : ℕ) (d : CycleStep) → i + 2 < length path → (parent tree matched plus : ℕ)
    → along parent tree (drop i path) matched plus
    ≡ along (get_or path (i + 1) d).node (get_or path (i + 1) d).link (drop (i + 2) path) matched plus
    ++ record {
      parent = parent;
      tree = tree;
      minus = (get_or path i d).node;
      matched = (get_or path i d).link;
      plus = (get_or path (i + 1) d).node;
    } ∷ []
along_more path i d below parent tree matched plus =
    let next : i + 1 + 1 ≡ i + 2 = omega arith in
    ap (λ l. along parent tree l matched plus)
    (drop_more path i d (omega arith)
    ∙ ap (λ l. get_or path i d ∷ l)
    (drop_more path (i + 1) d (omega arith)
    ∙ ap (λ l. get_or path (i + 1) d ∷ l) (ap (λ n. drop n path) next ∙ drop_more path (i + 2) d below)))
    ∙ ap
    (λ l.
    along (get_or path (i + 1) d).node (get_or path (i + 1) d).link l matched plus
    ++ record {
      parent = parent;
      tree = tree;
      minus = (get_or path i d).node;
      matched = (get_or path i d).link;
      plus = (get_or path (i + 1) d).node;
    } ∷ [])
    (sym (drop_more path (i + 2) d below))

pub along_step : (path : List CycleStep) (i : ℕ) (d : CycleStep) → i + 2 < length path → (matched plus : ℕ) (old new : List Branch)
    (b : Branch) → new ≡ old ++ b ∷ [] → b.minus ≡ (get_or path i d).node → b.matched ≡ (get_or path i d).link
    → b.plus ≡ (get_or path (i + 1) d).node → (all : List (EntryOf ℕ))
    → along b.parent b.tree (drop i path) matched plus ++ entries_of old ≡ all
    → along (get_or path (i + 1) d).node (get_or path (i + 1) d).link (drop (i + 2) path) matched plus ++ entries_of new ≡ all
along_step path i d below matched plus old new b pushed minus_is matched_is plus_is all is =
    ap (λ l. later ++ l) (ap entries_of pushed ∙ (entries_push old b ∙ ap (λ e. e ∷ entries_of old) same))
    ∙ (sym (append_assoc later (first ∷ []) (entries_of old))
    ∙ (ap (λ l. l ++ entries_of old) (sym (along_more path i d below b.parent b.tree matched plus)) ∙ is))
  where
    later : List (EntryOf ℕ)
    later = along (get_or path (i + 1) d).node (get_or path (i + 1) d).link (drop (i + 2) path) matched plus

    first : EntryOf ℕ
    first = record {
      parent = b.parent;
      tree = b.tree;
      minus = (get_or path i d).node;
      matched = (get_or path i d).link;
      plus = (get_or path (i + 1) d).node;
    }

    same : entry_of b ≡ first
    same = cc
