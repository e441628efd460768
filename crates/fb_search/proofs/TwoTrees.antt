-- Two of several trees, whose plus nodes meet: that they are two, what the others have, and the links that match both.
use Rattle.std.proofs.Common.{ℕ, ◌≡◌, ◌≢◌, ◌⊎◌, inl, inr, true, List, [], ◌∷◌, ◌++◌, map, set, Option, Some, None, sym, ap, subst, ◌∙◌, append_assoc}
use Rattle.std.specs.List.Sorted.{IsPermutation}
use Rattle.std.proofs.lemmas.List.{map-append}
use Rattle.std.proofs.lemmas.List.Sorted.{IsPermutation-append_comm, IsPermutation-append_left, IsPermutation-append_right, IsPermutation-cons, IsPermutation-middle, IsPermutation-sym, IsPermutation-to_front, IsPermutation-trans}
use Rattle.std.proofs.lemmas.Option.{same_Some}
use Rattle.fb_graph.specs.Parity.{is_in}
use Rattle.fb_graph.specs.Laws.{Link}
use Rattle.fb_graph.proofs.Floods.{is_in-left, is_in-right}
use Rattle.fb_laws.specs.Forests.{met_links}
use Rattle.fb_laws.specs.TreeCycles.{nodes_along}
use Rattle.fb_laws.specs.Trees.{branches_beside, grown_links, minus_names, paired_links, path_to, tree_names}
use Rattle.fb_links.proofs.MovedLinks.{Table}
use Rattle.fb_trees.specs.Branches.{Grown}
use Rattle.fb_trees.specs.Forests.{ArePlusTogether, AreRootedApart, IsPlusNode, all_minus, all_plus, tree_at, trees_in}
use Rattle.fb_trees.specs.Rooted.{IsPlus}
use Rattle.fb_trees.proofs.Mapped.{beside_moved, grown_moved, paired_moved, path_moved}
use Rattle.fb_half.specs.declared.matches.Match.{Match}
use Rattle.fb_half.specs.Matchings.{match_links}
use Rattle.fb_half.specs.Translations.{entry_by, link_by}
use Rattle.fb_search.specs.InternalEndings.{ended_matches}
use Rattle.fb_search.specs.InternalGrowing.{all_along, grown_ids, tree_by}
use Rattle.fb_search.proofs.DissolvedTrees.{root_in_tree}
use Rattle.fb_search.proofs.EndedTrees.{matches_linked}
use Rattle.fb_search.proofs.ForestPlaces.{trees_beside, trees_without}
use Rattle.fb_search.proofs.TreesBeside.{along_beside, ids_beside, minus_beside, minus_parted, plus_beside, second_at, two_beside}

-- plus nodes of two trees
pub record AreInTwo (f : List (Option Grown)) (a b : ℕ) : Type 0 where
  pub kept : AreRootedApart f
  pub one : IsPlusNode f a
  pub other : IsPlusNode f b
  pub apart : ArePlusTogether f a b → ⊥

-- the trees but for these two
abbrev pub other_trees : (f : List (Option Grown)) (a b : ℕ) → AreInTwo f a b → List Grown
other_trees f a b two = trees_beside (set f two.one.tree None) two.other.tree

module _ (f : List (Option Grown)) (a b : ℕ) (two : AreInTwo f a b) where
  abbrev t : ℕ
  t = two.one.tree

  abbrev u : ℕ
  u = two.other.tree

  abbrev g : Grown
  g = two.one.grown

  abbrev h : Grown
  h = two.other.grown

  abbrev between : List (Option Grown)
  between = set f t None

  numbers : t ≢ u
  numbers same =
      two.apart (record {
        tree = t;
        grown = g;
        at = two.one.at;
        first = two.one.plus;
        second = subst (λ x. IsPlus x b) (same_Some h g (sym two.other.at ∙ (ap (tree_at f) (sym same) ∙ two.one.at))) two.other.plus;
      })

  -- the first tree dissolved
  were : trees_in between ≡ trees_beside f t
  were = trees_without f t g two.one.at

  pub still_there : tree_at (set f two.one.tree None) two.other.tree ≡ Some two.other.grown
  still_there = second_at f t g two.one.at u h numbers two.other.at

  -- and the second one
  pub both_dissolved : trees_in (set (set f two.one.tree None) two.other.tree None) ≡ other_trees f a b two
  both_dissolved = trees_without between u h still_there

  pub roots_apart : two.one.grown.root ≢ two.other.grown.root
  roots_apart same =
      numbers (two.kept.apart t u g.root g h (record { at = two.one.at; has = root_in_tree g.root g.branches })
      (record {
        at = two.other.at;
        has = subst (λ n. is_in (tree_names h.root h.branches) n ≡ true) (sym same) (root_in_tree h.root h.branches);
      }))

  -- both trees come before the others
  pub both_first : IsPermutation (trees_in f) (two.one.grown ∷ two.other.grown ∷ other_trees f a b two)
  both_first = two_beside f t g two.one.at u h numbers two.other.at

  pub second_ids : IsPermutation (grown_ids (trees_beside f two.one.tree)) (grown_ids (two.other.grown ∷ other_trees f a b two))
  second_ids =
      subst (λ l. IsPermutation (grown_ids l) (grown_ids (h ∷ trees_beside between u))) were (ids_beside between u h still_there)

  pub both_along : IsPermutation (all_along (trees_in f)) (all_along (two.one.grown ∷ two.other.grown ∷ other_trees f a b two))
  both_along =
      IsPermutation-trans _ _ _ (along_beside f t g two.one.at)
      (IsPermutation-append_right (nodes_along g.branches) _ _
      (subst (λ l. IsPermutation (all_along l) (all_along (h ∷ trees_beside between u))) were (along_beside between u h still_there)))

  -- fewer nodes are plus, and fewer minus
  pub plus_other : (n : ℕ) → is_in (all_plus (other_trees f a b two)) n ≡ true → is_in (all_plus (trees_in f)) n ≡ true
  plus_other n here =
      plus_beside f t g two.one.at n
      (ap (λ l. is_in (all_plus l) n) (sym were) ∙ plus_beside between u h still_there n here)

  pub minus_other : (n : ℕ) → is_in (all_minus (other_trees f a b two)) n ≡ true → is_in (all_minus (trees_in f)) n ≡ true
  minus_other n here =
      minus_beside f t g two.one.at n
      (ap (λ l. is_in (all_minus l) n) (sym were) ∙ minus_beside between u h still_there n here)

  pub minus_of_two : (n : ℕ) → is_in (all_minus (trees_in f)) n ≡ true
      → (is_in (minus_names two.one.grown.branches ++ minus_names two.other.grown.branches) n ≡ true)
      ⊎ (is_in (all_minus (other_trees f a b two)) n ≡ true)
  minus_of_two n there = by (minus_parted f t g two.one.at n there)
    where
      Goal : Type 0
      Goal =
          (is_in (minus_names g.branches ++ minus_names h.branches) n ≡ true)
          ⊎ (is_in (all_minus (trees_beside between u)) n ≡ true)

      second : (is_in (minus_names h.branches) n ≡ true) ⊎ (is_in (all_minus (trees_beside between u)) n ≡ true) → Goal
      second (inl here) = inl (is_in-right (minus_names g.branches) (minus_names h.branches) n here)
      second (inr later) = inr later

      by : (is_in (minus_names g.branches) n ≡ true) ⊎ (is_in (all_minus (trees_beside f t)) n ≡ true) → Goal
      by (inl here) = inl (is_in-left (minus_names g.branches) (minus_names h.branches) n here)
      by (inr later) =
          second (minus_parted between u h still_there n (ap (λ l. is_in (all_minus l) n) were ∙ later))

-- the links that the law gives, in the order of the matches
links_reordered : {X : Type 0} (up off down beside kept : List X) (o : X)
    → IsPermutation ((up ++ o ∷ (down ++ (beside ++ off))) ++ kept) ((kept ++ ((up ++ off) ++ (down ++ beside))) ++ o ∷ [])
links_reordered up off down beside kept o =
    IsPermutation-trans _ _ _ (IsPermutation-append_left kept _ _ (IsPermutation-middle up o (down ++ (beside ++ off))))
    (IsPermutation-trans _ _ _
    (IsPermutation-cons o _ _
    (IsPermutation-trans _ _ _ (IsPermutation-append_comm (up ++ (down ++ (beside ++ off))) kept)
    (IsPermutation-append_right kept _ _
    (subst (IsPermutation (up ++ (down ++ (beside ++ off)))) (sym (append_assoc up off (down ++ beside)))
    (IsPermutation-append_right up _ _
    (subst (λ l. IsPermutation l (off ++ (down ++ beside))) (append_assoc down beside off)
    (IsPermutation-append_comm (down ++ beside) off)))))))
    (IsPermutation-sym _ _ (IsPermutation-to_front (kept ++ ((up ++ off) ++ (down ++ beside))) o)))

pub met_rest : (table : Table) (g : Grown) (a : ℕ) (h : Grown) (b : ℕ) (kept : List Match) (o : Link)
    → IsPermutation (met_links (tree_by table g) a o (tree_by table h) b ++ map (link_by table) (match_links kept))
    (map (link_by table) (match_links (kept ++ (ended_matches g.branches a ++ ended_matches h.branches b))) ++ o ∷ [])
met_rest table g a h b kept o =
    subst (IsPermutation _) (ap (λ l. l ++ o ∷ []) (sym made))
    (subst (λ l. IsPermutation l ((others ++ ((up g a ++ off g a) ++ (up h b ++ off h b))) ++ o ∷ [])) (sym law)
    (links_reordered (up g a) (off g a) (up h b) (off h b) others o))
  where
    up : Grown → ℕ → List Link
    up x n = map (link_by table) (grown_links (path_to x.branches n))

    off : Grown → ℕ → List Link
    off x n = map (link_by table) (paired_links (branches_beside x.branches n))

    others : List Link
    others = map (link_by table) (match_links kept)

    up_is : (x : Grown) (n : ℕ) → grown_links (path_to (map (entry_by table) x.branches) n) ≡ up x n
    up_is x n = ap grown_links (path_moved (link_by table) x.branches n) ∙ grown_moved (link_by table) (path_to x.branches n)

    off_is : (x : Grown) (n : ℕ) → paired_links (branches_beside (map (entry_by table) x.branches) n) ≡ off x n
    off_is x n =
        ap paired_links (beside_moved (link_by table) x.branches n) ∙ paired_moved (link_by table) (branches_beside x.branches n)

    law : met_links (tree_by table g) a o (tree_by table h) b ++ others
        ≡ (up g a ++ o ∷ (up h b ++ (off h b ++ off g a))) ++ others
    law = (λ k. (up_is g a k ++ o ∷ (up_is h b k ++ (off_is h b k ++ off_is g a k))) ++ others)

    own : (x : Grown) (n : ℕ) → map (link_by table) (match_links (ended_matches x.branches n)) ≡ up x n ++ off x n
    own x n =
        ap (map (link_by table)) (matches_linked x.branches n)
        ∙ map-append (link_by table) (grown_links (path_to x.branches n)) (paired_links (branches_beside x.branches n))

    parted : (xs ys : List Match)
        → map (link_by table) (match_links (xs ++ ys)) ≡ map (link_by table) (match_links xs) ++ map (link_by table) (match_links ys)
    parted xs ys =
        ap (map (link_by table)) (map-append (λ (m : Match). m.link) xs ys)
        ∙ map-append (link_by table) (match_links xs) (match_links ys)

    made : map (link_by table) (match_links (kept ++ (ended_matches g.branches a ++ ended_matches h.branches b)))
        ≡ others ++ ((up g a ++ off g a) ++ (up h b ++ off h b))
    made =
        parted kept (ended_matches g.branches a ++ ended_matches h.branches b)
        ∙ ap (λ l. others ++ l)
        (parted (ended_matches g.branches a) (ended_matches h.branches b) ∙ (λ k. own g a k ++ own h b k))
