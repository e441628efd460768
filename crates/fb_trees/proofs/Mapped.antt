-- Trees with their links in another form.
use Rattle.std.proofs.Common.{ℕ, ◌≡◌, ◌==◌, cond, not, Bool, true, false, List, [], ◌∷◌, ◌++◌, map, refl, sym, ap, ◌∙◌}
use Rattle.std.proofs.lemmas.List.{map-append}
use Rattle.fb_laws.specs.Trees.{EntryOf, branches_beside, grown_links, minus_names, paired_links, path_to, plus_names, tree_names}
use Rattle.fb_laws.specs.TreeCycles.{ArePaths, PartAtOnce, cycle_links, cycle_nodes, last_plus, links_along, links_back, nodes_along, nodes_back}
use Rattle.fb_laws.specs.SearchBlossoms.{joined_tree, outer_branches, renamed_entry}
use Rattle.fb_laws.specs.OpenedCycles.{PassOf, grown_on, last_of, matched_on, opened_branches, opened_tree, paired_on}
use Rattle.fb_trees.specs.TreeLinks.{map_entry, map_pass}

module _ {L M : Type 0} (f : L → M) where
  abbrev moved : List (EntryOf L) → List (EntryOf M)
  moved tree = map (map_entry f) tree

  pub plus_moved : (root : ℕ) (tree : List (EntryOf L)) → plus_names root (moved tree) ≡ plus_names root tree
  plus_moved root [] = refl
  plus_moved root (e ∷ es) = ap (λ l. e.plus ∷ l) (plus_moved root es)

  pub minus_moved : (tree : List (EntryOf L)) → minus_names (moved tree) ≡ minus_names tree
  minus_moved [] = refl
  minus_moved (e ∷ es) = ap (λ l. e.minus ∷ l) (minus_moved es)

  pub names_moved : (root : ℕ) (tree : List (EntryOf L)) → tree_names root (moved tree) ≡ tree_names root tree
  names_moved root [] = refl
  names_moved root (e ∷ es) = ap (λ l. e.minus ∷ e.plus ∷ l) (names_moved root es)

  pub grown_moved : (tree : List (EntryOf L)) → grown_links (moved tree) ≡ map f (grown_links tree)
  grown_moved [] = refl
  grown_moved (e ∷ es) = ap (λ l. f e.tree ∷ l) (grown_moved es)

  pub paired_moved : (tree : List (EntryOf L)) → paired_links (moved tree) ≡ map f (paired_links tree)
  paired_moved [] = refl
  paired_moved (e ∷ es) = ap (λ l. f e.matched ∷ l) (paired_moved es)

  pub path_moved : (tree : List (EntryOf L)) (name : ℕ) → path_to (moved tree) name ≡ moved (path_to tree name)
  path_moved [] name = refl
  path_moved (e ∷ es) name = step (e.plus == name) (path_moved es name) (path_moved es e.parent)
    where
      step : (b : Bool) → path_to (moved es) name ≡ moved (path_to es name) → path_to (moved es) e.parent ≡ moved (path_to es e.parent)
          → cond b (path_to (moved es) e.parent ++ map_entry f e ∷ []) (path_to (moved es) name)
          ≡ moved (cond b (path_to es e.parent ++ e ∷ []) (path_to es name))
      step true other here = ap (λ l. l ++ map_entry f e ∷ []) here ∙ sym (map-append (map_entry f) (path_to es e.parent) (e ∷ []))
      step false other here = other

  pub beside_moved : (tree : List (EntryOf L)) (name : ℕ) → branches_beside (moved tree) name ≡ moved (branches_beside tree name)
  beside_moved [] name = refl
  beside_moved (e ∷ es) name = step (e.plus == name) (beside_moved es name) (beside_moved es e.parent)
    where
      step : (b : Bool) → branches_beside (moved es) name ≡ moved (branches_beside es name) → branches_beside (moved es) e.parent ≡ moved (branches_beside es e.parent)
          → cond b (branches_beside (moved es) e.parent) (map_entry f e ∷ branches_beside (moved es) name)
          ≡ moved (cond b (branches_beside es e.parent) (e ∷ branches_beside es name))
      step true other here = here
      step false other here = ap (λ l. map_entry f e ∷ l) other

  pub parted_moved : (up down : List (EntryOf L)) → PartAtOnce up down → PartAtOnce (moved up) (moved down)
  parted_moved [] down parted = tt
  parted_moved (e ∷ es) [] parted = tt
  parted_moved (e ∷ es) (d ∷ ds) parted = parted

  pub paths_moved : (tree : List (EntryOf L)) (a b : ℕ) (shared up down : List (EntryOf L)) → ArePaths tree a b shared up down
      → ArePaths (moved tree) a b (moved shared) (moved up) (moved down)
  paths_moved tree a b shared up down are = record {
    first = path_moved tree a ∙ (ap moved are.first ∙ map-append (map_entry f) shared up);
    second = path_moved tree b ∙ (ap moved are.second ∙ map-append (map_entry f) shared down);
    parted = parted_moved up down are.parted;
  }

  pub last_moved : (name : ℕ) (tree : List (EntryOf L)) → last_plus name (moved tree) ≡ last_plus name tree
  last_moved name [] = refl
  last_moved name (e ∷ es) = last_moved e.plus es

  along_moved : (tree : List (EntryOf L)) → nodes_along (moved tree) ≡ nodes_along tree
  along_moved [] = refl
  along_moved (e ∷ es) = ap (λ l. e.minus ∷ e.plus ∷ l) (along_moved es)

  back_moved : (tree : List (EntryOf L)) → nodes_back (moved tree) ≡ nodes_back tree
  back_moved [] = refl
  back_moved (e ∷ es) = ap (λ l. l ++ e.plus ∷ e.minus ∷ []) (back_moved es)

  links_along_moved : (tree : List (EntryOf L)) → links_along (moved tree) ≡ map f (links_along tree)
  links_along_moved [] = refl
  links_along_moved (e ∷ es) = ap (λ l. f e.tree ∷ f e.matched ∷ l) (links_along_moved es)

  links_back_moved : (tree : List (EntryOf L)) → links_back (moved tree) ≡ map f (links_back tree)
  links_back_moved [] = refl
  links_back_moved (e ∷ es) =
      ap (λ l. l ++ f e.matched ∷ f e.tree ∷ []) (links_back_moved es) ∙ sym (map-append f (links_back es) (e.matched ∷ e.tree ∷ []))

  pub cycle_moved : (up down : List (EntryOf L)) → cycle_nodes (moved up) (moved down) ≡ cycle_nodes up down
  cycle_moved up down = ap (λ l. l ++ nodes_back (moved down)) (along_moved up) ∙ ap (λ l. nodes_along up ++ l) (back_moved down)

  pub cycle_links_moved : (up : List (EntryOf L)) (closing : L) (down : List (EntryOf L))
      → cycle_links (moved up) (f closing) (moved down) ≡ map f (cycle_links up closing down)
  cycle_links_moved up closing down =
      ap (λ l. l ++ f closing ∷ links_back (moved down)) (links_along_moved up)
      ∙ (ap (λ l. map f (links_along up) ++ f closing ∷ l) (links_back_moved down)
      ∙ sym (map-append f (links_along up) (closing ∷ links_back down)))

  pub joined_moved : (joined : ℕ → Bool) (name : ℕ) (tree : List (EntryOf L))
      → joined_tree joined name (moved tree) ≡ moved (joined_tree joined name tree)
  joined_moved joined name [] = refl
  joined_moved joined name (e ∷ es) = step (not (joined e.minus)) (joined_moved joined name es)
    where
      step : (b : Bool) → joined_tree joined name (moved es) ≡ moved (joined_tree joined name es)
          → map (renamed_entry joined name) (cond b (map_entry f e ∷ outer_branches joined (moved es)) (outer_branches joined (moved es)))
          ≡ moved (map (renamed_entry joined name) (cond b (e ∷ outer_branches joined es) (outer_branches joined es)))
      step true rest = ap (λ l. map_entry f (renamed_entry joined name e) ∷ l) rest
      step false rest = rest

  opened_moved_at : (parent : ℕ) (tree : L) (minus : ℕ) (way : List (PassOf L)) (matched : L) (plus : ℕ)
      → opened_branches parent (f tree) minus (map (map_pass f) way) (f matched) plus
      ≡ moved (opened_branches parent tree minus way matched plus)
  opened_moved_at parent tree minus [] matched plus = refl
  opened_moved_at parent tree minus (s ∷ ss) matched plus =
      ap (λ l. l ++ record { parent = parent; tree = f tree; minus = minus; matched = f s.matched; plus = s.plus } ∷ [])
      (opened_moved_at s.plus s.tree s.minus ss matched plus)
      ∙ sym (map-append (map_entry f) (opened_branches s.plus s.tree s.minus ss matched plus)
      (record { parent = parent; tree = tree; minus = minus; matched = s.matched; plus = s.plus } ∷ []))

  pub opened_moved : (newer older : List (EntryOf L)) (e : EntryOf L) (from : ℕ) (way : List (PassOf L))
      → opened_tree (moved newer) (map_entry f e) (moved older) from (map (map_pass f) way) ≡ moved (opened_tree newer e older from way)
  opened_moved newer older e from way =
      ap (λ l. moved newer ++ (l ++ moved older)) (opened_moved_at e.parent e.tree from way e.matched e.plus)
      ∙ (ap (λ l. moved newer ++ l) (sym (map-append (map_entry f) (opened_branches e.parent e.tree from way e.matched e.plus) older))
      ∙ sym (map-append (map_entry f) newer (opened_branches e.parent e.tree from way e.matched e.plus ++ older)))

  pub last_of_moved : (from : ℕ) (way : List (PassOf L)) → last_of from (map (map_pass f) way) ≡ last_of from way
  last_of_moved from [] = refl
  last_of_moved from (s ∷ ss) = last_of_moved s.minus ss

  pub paired_on_moved : (from : ℕ) (way : List (PassOf L)) → paired_on from (map (map_pass f) way) ≡ paired_on from way
  paired_on_moved from [] = refl
  paired_on_moved from (s ∷ ss) = ap (λ l. from ∷ s.plus ∷ l) (paired_on_moved s.minus ss)

  pub matched_on_moved : (way : List (PassOf L)) → matched_on (map (map_pass f) way) ≡ map f (matched_on way)
  matched_on_moved [] = refl
  matched_on_moved (s ∷ ss) = ap (λ l. f s.matched ∷ l) (matched_on_moved ss)

  pub grown_on_moved : (way : List (PassOf L)) → grown_on (map (map_pass f) way) ≡ map f (grown_on way)
  grown_on_moved [] = refl
  grown_on_moved (s ∷ ss) = ap (λ l. f s.tree ∷ l) (grown_on_moved ss)
