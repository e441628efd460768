-- The roles of nodes before and after some nodes of one of several trees are joined.
use Rattle.std.proofs.Common.{ℕ, zero, suc, refl, ◌≡◌, ◌≢◌, ◌⊎◌, inl, inr, true, false, List, [], ◌∷◌, ◌++◌, set, Option, None, Some, sym, ap, ◌∙◌}
use Rattle.std.proofs.lemmas.Bool.{both_ways, cases_Bool, false_from_ne_true}
use Rattle.std.proofs.lemmas.Option.{none-some}
use Rattle.fb_graph.specs.Parity.{is_in}
use Rattle.fb_graph.proofs.Floods.{is_in-both, is_in-left, is_in-right}
use Rattle.fb_regions.specs.declared.roles.Role.TheVariants.{Minus}
use Rattle.fb_laws.specs.LinkNumbers.{tree_links}
use Rattle.fb_laws.specs.Trees.{minus_names, plus_names, tree_names}
use Rattle.fb_regions.specs.Paces.{grows, shrinks}
use Rattle.fb_trees.specs.Branches.{Grown}
use Rattle.fb_trees.specs.Forests.{IsMinusNode, all_minus, all_plus, role_among, tree_at, trees_in}
use Rattle.fb_trees.specs.Replacements as replacements
use Rattle.fb_search.specs.InternalGrowing.{grown_ids}
use Rattle.fb_search.proofs.ClosedWatches.{minus_stays, plus_before, plus_or_minus}
use Rattle.fb_search.proofs.ForestPlaces.{minus_either, minus_more, plus_either, plus_more, trees_after, trees_before, trees_split, trees_with}
use Rattle.fb_search.proofs.RolesAmong.{minus_among, minus_not_plus_among, plus_among, role_minus_among, role_plus_among}

-- the tree that is put there
pub set_here : (forest : List (Option Grown)) (t : ℕ) (g h : Grown) → tree_at forest t ≡ Some g
    → tree_at (set forest t (Some h)) t ≡ Some h
set_here [] t g h at = absurd (none-some g at)
set_here (o ∷ os) zero g h at = refl
set_here (o ∷ os) (suc t) g h at = set_here os t g h at

-- a minus node is one of a tree
pub minus_place : (forest : List (Option Grown)) (name : ℕ) → is_in (all_minus (trees_in forest)) name ≡ true
    → IsMinusNode forest name
minus_place [] name there = absurd (both_ways false refl there)
minus_place (None ∷ os) name there =
    let rest = minus_place os name there in
    record { tree = suc rest.tree; grown = rest.grown; at = rest.at; minus = rest.minus }
minus_place (Some g ∷ os) name there =
    by (is_in-both (minus_names g.branches) (all_minus (trees_in os)) name there) (minus_place os name)
  where
    by : (is_in (minus_names g.branches) name ≡ true) ⊎ (is_in (all_minus (trees_in os)) name ≡ true)
        → (is_in (all_minus (trees_in os)) name ≡ true → IsMinusNode os name) → IsMinusNode (Some g ∷ os) name
    by (inl own) later = record { tree = zero; grown = g; at = refl; minus = own }
    by (inr beside) later =
        let rest = later beside in
        record { tree = suc rest.tree; grown = rest.grown; at = rest.at; minus = rest.minus }

-- what one of the trees has is among what all have
plus_own : (xs ys : List Grown) (g : Grown) (n : ℕ) → is_in (plus_names g.root g.branches) n ≡ true
    → is_in (all_plus (xs ++ g ∷ ys)) n ≡ true
plus_own [] ys g n has = is_in-left (plus_names g.root g.branches) (all_plus ys) n has
plus_own (x ∷ xs) ys g n has =
    is_in-right (plus_names x.root x.branches) (all_plus (xs ++ g ∷ ys)) n (plus_own xs ys g n has)

pub minus_own : (xs ys : List Grown) (g : Grown) (n : ℕ) → is_in (minus_names g.branches) n ≡ true
    → is_in (all_minus (xs ++ g ∷ ys)) n ≡ true
minus_own [] ys g n has = is_in-left (minus_names g.branches) (all_minus ys) n has
minus_own (x ∷ xs) ys g n has = is_in-right (minus_names x.branches) (all_minus (xs ++ g ∷ ys)) n (minus_own xs ys g n has)

ids_own : (xs ys : List Grown) (g : Grown) (n : ℕ) → is_in (tree_links g.branches) n ≡ true
    → is_in (grown_ids (xs ++ g ∷ ys)) n ≡ true
ids_own [] ys g n has = is_in-left (tree_links g.branches) (grown_ids ys) n has
ids_own (x ∷ xs) ys g n has = is_in-right (tree_links x.branches) (grown_ids (xs ++ g ∷ ys)) n (ids_own xs ys g n has)

module _ (forest : List (Option Grown)) (t : ℕ) (g : Grown) (at : tree_at forest t ≡ Some g) where
  pub plus_here : (n : ℕ) → is_in (plus_names g.root g.branches) n ≡ true → is_in (all_plus (trees_in forest)) n ≡ true
  plus_here n has =
      ap (λ ts. is_in (all_plus ts) n) (trees_split forest t g at)
      ∙ plus_own (trees_before forest t) (trees_after forest t) g n has

  pub minus_here : (n : ℕ) → is_in (minus_names g.branches) n ≡ true → is_in (all_minus (trees_in forest)) n ≡ true
  minus_here n has =
      ap (λ ts. is_in (all_minus ts) n) (trees_split forest t g at)
      ∙ minus_own (trees_before forest t) (trees_after forest t) g n has

  pub ids_here : (n : ℕ) → is_in (tree_links g.branches) n ≡ true → is_in (grown_ids (trees_in forest)) n ≡ true
  ids_here n has =
      ap (λ ts. is_in (grown_ids ts) n) (trees_split forest t g at)
      ∙ ids_own (trees_before forest t) (trees_after forest t) g n has

  -- each node of the tree has one of two roles
  pub role_here : (n : ℕ) → is_in (tree_names g.root g.branches) n ≡ true
      → (grows (role_among forest n) ≡ true) ⊎ (role_among forest n ≡ Minus)
  role_here n there = by (cases_Bool (is_in (all_plus (trees_in forest)) n)) (plus_or_minus g.root g.branches n there)
    where
      by : (is_in (all_plus (trees_in forest)) n ≡ true) ⊎ (is_in (all_plus (trees_in forest)) n ≡ false)
          → (is_in (plus_names g.root g.branches) n ≡ true) ⊎ (is_in (minus_names g.branches) n ≡ true)
          → (grows (role_among forest n) ≡ true) ⊎ (role_among forest n ≡ Minus)
      by (inl plus) either = inl (role_plus_among forest n plus)
      by (inr out) (inl plus) = inl (role_plus_among forest n (plus_here n plus))
      by (inr out) (inr minus) = inr (role_minus_among forest n out (minus_here n minus))

  module _ (gone : List ℕ) (name : ℕ) where
    abbrev Joined : Grown
    Joined = replacements.joined_grown g gone name

    abbrev After : List (Option Grown)
    After = set forest t (Some Joined)

    abbrev Before_t : List Grown
    Before_t = trees_before forest t

    abbrev After_t : List Grown
    After_t = trees_after forest t

    -- a plus node then was one before, but for the blossom
    plus_then : (n : ℕ) → n ≢ name → is_in (all_plus (trees_in After)) n ≡ true → is_in (all_plus (trees_in forest)) n ≡ true
    plus_then n other plus =
        by (plus_either Before_t After_t Joined n
        (ap (λ ts. is_in (all_plus ts) n) (sym (trees_with forest t g Joined at)) ∙ plus))
      where
        by : (is_in (plus_names Joined.root Joined.branches) n ≡ true) ⊎ (is_in (all_plus (Before_t ++ After_t)) n ≡ true)
            → is_in (all_plus (trees_in forest)) n ≡ true
        by (inl own) = plus_here n (plus_before (is_in gone) name g.root g.branches n other own)
        by (inr beside) =
            ap (λ ts. is_in (all_plus ts) n) (trees_split forest t g at) ∙ plus_more Before_t After_t g n beside

    -- a minus node that isn't joined is one then
    minus_then : (n : ℕ) → is_in gone n ≡ false → is_in (all_minus (trees_in forest)) n ≡ true
        → is_in (all_minus (trees_in After)) n ≡ true
    minus_then n out minus =
        ap (λ ts. is_in (all_minus ts) n) (trees_with forest t g Joined at)
        ∙ by (minus_either Before_t After_t g n (ap (λ ts. is_in (all_minus ts) n) (sym (trees_split forest t g at)) ∙ minus))
      where
        by : (is_in (minus_names g.branches) n ≡ true) ⊎ (is_in (all_minus (Before_t ++ After_t)) n ≡ true)
            → is_in (all_minus (Before_t ++ Joined ∷ After_t)) n ≡ true
        by (inl own) = minus_own Before_t After_t Joined n (minus_stays (is_in gone) name g.branches n out own)
        by (inr beside) = minus_more Before_t After_t Joined n beside

    pub plus_was_among : (n : ℕ) → n ≢ name → grows (role_among After n) ≡ true → grows (role_among forest n) ≡ true
    plus_was_among n other plus = role_plus_among forest n (plus_then n other (plus_among After n plus))

    pub minus_still_among : (n : ℕ) → n ≢ name → is_in gone n ≡ false → shrinks (role_among forest n) ≡ true
        → shrinks (role_among After n) ≡ true
    minus_still_among n other out minus =
        ap shrinks
        (role_minus_among After n
        (false_from_ne_true (is_in (all_plus (trees_in After)) n)
        (λ plus.
        both_ways (is_in (all_plus (trees_in forest)) n) (minus_not_plus_among forest n minus) (plus_then n other plus)))
        (minus_then n out (minus_among forest n minus)))
