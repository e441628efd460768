-- A tree begins at a node that waits, once a plus node of the others meets it.
use Rattle.std.proofs.Common.{ℕ, ◌≡◌, ◌%◌, ◌==◌, ◌||◌, ◌⊎◌, inl, inr, true, false, List, [], ◌∷◌, ◌++◌, refl, sym, ap, ◌∙◌, subst, append_assoc}
use Rattle.std.proofs.lemmas.Bool.{both_ways, eq-eqb, eqb-true, false≢true, false_from_ne_true, or_from}
use Rattle.std.proofs.lemmas.List.{append-nil, map-append}
use Rattle.std.proofs.lemmas.List.Elements.{All-append, All-cons, All-head, All-nil}
use Rattle.std.specs.List.Sorted.{IsPermutation}
use Rattle.fb_graph.specs.Parity.{is_in}
use Rattle.fb_graph.specs.Problem.{Problem}
use Rattle.fb_graph.specs.Certificate.{AreDistinct}
use Rattle.fb_graph.specs.Covers.{HaveParity}
use Rattle.fb_graph.specs.Laws.{Link}
use Rattle.fb_graph.specs.Dual.{Node, all_cuts, height_of}
use Rattle.fb_graph.specs.Links.{AreEven, IsTightLink}
use Rattle.fb_graph.proofs.Floods.{is_in-both}
use Rattle.fb_graph.proofs.Members.{is_in-append}
use Rattle.fb_graph.proofs.Sets.{is_in-cases, is_in-head, is_in-tail}
use Rattle.fb_graph.proofs.Unions.{distinct_append}
use Rattle.fb_laws.specs.Works.{AreMatchedLinks, IsMatching}
use Rattle.fb_laws.specs.Trees.{Connects, IsTree, grown_links, paired_links, tree_names}
use Rattle.fb_laws.specs.Searches.{IsOuterNode}
use Rattle.fb_laws.specs.Forests.{ForestWoken, IsForest, TreeOf, bare_tree, forest_grown, forest_names, forest_paired, forest_plus, forest_roots}
use Rattle.fb_laws.proofs.ForestStates.{each_append}
use Rattle.fb_laws.proofs.ForestSteps.{plus_in_forest}
use Rattle.fb_laws.proofs.OpenedBlossoms.{distinct_permuted, same_permuted}
use Rattle.fb_laws.proofs.SearchStates.{connected_parity}

module _ (p : Problem) (nodes : List Node) (trees : List (TreeOf Link)) (rest : List Link) (unmatched waiting others : List ℕ)
    (r a name : ℕ) (out : Link) (even : AreEven p) (state : IsForest p nodes trees rest unmatched waiting r)
    (moved : IsPermutation waiting (name ∷ others)) (distinct : AreDistinct waiting) (outer : IsOuterNode nodes name)
    (plus : is_in (forest_plus trees) a ≡ true) (links : AreMatchedLinks p nodes (out ∷ [])) (connects : Connects nodes out a name) where
  waited : (n : ℕ) → is_in (name ∷ others) n ≡ true → is_in waiting n ≡ true
  waited n within = sym (same_permuted waiting (name ∷ others) moved n) ∙ within

  name_new : is_in (forest_names trees) name ≡ false
  name_new = state.apart name (waited name (is_in-head name others))

  name_gone : is_in others name ≡ false
  name_gone = (distinct_permuted waiting (name ∷ others) moved distinct).0

  names_are : forest_names (trees ++ bare_tree name ∷ []) ≡ forest_names trees ++ name ∷ []
  names_are = each_append (λ t. tree_names t.root t.branches) trees (bare_tree name ∷ [])

  paired_are : forest_paired trees ≡ forest_paired (trees ++ bare_tree name ∷ [])
  paired_are =
      sym (append-nil (forest_paired trees)) ∙ sym (each_append (λ t. paired_links t.branches) trees (bare_tree name ∷ []))

  grown_are : forest_grown trees ≡ forest_grown (trees ++ bare_tree name ∷ [])
  grown_are =
      sym (append-nil (forest_grown trees)) ∙ sym (each_append (λ t. grown_links t.branches) trees (bare_tree name ∷ []))

  roots_are : (n : ℕ) → is_in unmatched n ≡ is_in (forest_roots (trees ++ bare_tree name ∷ []) ++ others) n
  roots_are n =
      state.roots n
      ∙ (is_in-append (forest_roots trees) waiting n
      ∙ (ap (λ b. is_in (forest_roots trees) n || b) (sym (same_permuted waiting (name ∷ others) moved n))
      ∙ (sym (is_in-append (forest_roots trees) (name ∷ others) n)
      ∙ ap (λ l. is_in l n)
      (sym (append_assoc (forest_roots trees) (name ∷ []) others)
      ∙ ap (λ l. l ++ others) (sym (map-append (λ (t : TreeOf Link). t.root) trees (bare_tree name ∷ [])))))))

  still_apart : (n : ℕ) → is_in others n ≡ true → is_in (forest_names (trees ++ bare_tree name ∷ [])) n ≡ false
  still_apart n waits =
      ap (λ l. is_in l n) names_are
      ∙ (is_in-append (forest_names trees) (name ∷ []) n
      ∙ or_from (is_in (forest_names trees) n) (is_in (name ∷ []) n) (state.apart n (waited n (is_in-tail name others n waits)))
      (false_from_ne_true (is_in (name ∷ []) n) (λ same. by (is_in-cases name [] n same))))
    where
      by : (name ≡ n) ⊎ (is_in [] n ≡ true) → ⊥
      by (inl same) = both_ways (is_in others name) name_gone (ap (is_in others) same ∙ waits)
      by (inr none) = false≢true none

  new_names : AreDistinct (forest_names (trees ++ bare_tree name ∷ []))
  new_names =
      subst AreDistinct (sym names_are)
      (distinct_append (forest_names trees) (name ∷ []) state.names (refl, tt)
      (λ n within. false_from_ne_true (is_in (name ∷ []) n) (λ same. by n within (is_in-cases name [] n same))))
    where
      by : (n : ℕ) → is_in (forest_names trees) n ≡ true → (name ≡ n) ⊎ (is_in [] n ≡ true) → ⊥
      by n within (inl same) = both_ways (is_in (forest_names trees) name) name_new (ap (is_in (forest_names trees)) same ∙ within)
      by n within (inr none) = false≢true none

  -- the tight link gives the node the parity of the plus node
  woken_parity : HaveParity (λ n. n == name) nodes r
  woken_parity =
      connected_parity p nodes r out a name state.matching.dual state.matching.one_parity even
      (All-head (IsTightLink p (all_cuts nodes)) out [] links.tight)
      (λ same.
      both_ways (is_in (forest_names trees) name) name_new (ap (is_in (forest_names trees)) (sym same) ∙ plus_in_forest trees a plus))
      (λ d n leaf cover here.
      state.parity d n leaf cover (ap (is_in (forest_names trees)) (eqb-true n a here) ∙ plus_in_forest trees a plus))
      connects

  new_parity : HaveParity (is_in (forest_names (trees ++ bare_tree name ∷ []))) nodes r
  new_parity d n leaf cover among =
      by (is_in-both (forest_names trees) (name ∷ []) n (sym (ap (λ l. is_in l n) names_are) ∙ among))
    where
      at_name : (name ≡ n) ⊎ (is_in [] n ≡ true) → height_of (all_cuts nodes) d % 2 ≡ r
      at_name (inl same) = woken_parity d n leaf cover (eq-eqb n name (sym same))
      at_name (inr none) = absurd (false≢true none)

      by : (is_in (forest_names trees) n ≡ true) ⊎ (is_in (name ∷ []) n ≡ true) → height_of (all_cuts nodes) d % 2 ≡ r
      by (inl here) = state.parity d n leaf cover here
      by (inr last) = at_name (is_in-cases name [] n last)

  woken : IsForest p nodes (trees ++ bare_tree name ∷ []) rest unmatched others r
  woken = record {
    matching = subst (λ l. IsMatching p nodes (l ++ rest) unmatched) paired_are state.matching;
    outer =
        All-append (λ t. IsOuterNode nodes t.root) trees (bare_tree name ∷ []) state.outer
        (All-cons (λ (t : TreeOf Link). IsOuterNode nodes t.root) (bare_tree name) [] outer
        (All-nil (λ (t : TreeOf Link). IsOuterNode nodes t.root)));
    roots = roots_are;
    apart = still_apart;
    even = λ d n leaf cover waits. state.even d n leaf cover (waited n (is_in-tail name others n waits));
    names = new_names;
    joined =
        All-append (λ t. IsTree nodes t.root t.branches) trees (bare_tree name ∷ []) state.joined
        (All-cons (λ (t : TreeOf Link). IsTree nodes t.root t.branches) (bare_tree name) [] tt
        (All-nil (λ (t : TreeOf Link). IsTree nodes t.root t.branches)));
    grown = subst (AreMatchedLinks p nodes) grown_are state.grown;
    parity = new_parity;
  }

pub forest_woken : ForestWoken
forest_woken = woken
