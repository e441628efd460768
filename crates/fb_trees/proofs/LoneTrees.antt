-- What a forest of one tree says of that tree.
use Rattle.std.proofs.Common.{ℕ, zero, suc, ◌≡◌, ◌⊎◌, inl, inr, true, false, List, [], ◌∷◌, set, Option, Some, Result, Ok, Err, OnOk, OnErr, sym, ap, ◌∙◌, subst}
use Rattle.std.proofs.lemmas.Bool.{false≢true}
use Rattle.std.proofs.lemmas.Option.{none-some, same_Some}
use Rattle.fb_graph.specs.Parity.{is_in}
use Rattle.fb_graph.proofs.Sets.{is_in-cases}
use Rattle.fb_links.specs.declared.cycle.CycleStep.{CycleStep}
use Rattle.fb_trees.specs.Branches.{Grown}
use Rattle.fb_trees.specs.Forests.{ArePlusTogether, AreRootedApart, IsInside, IsMinusNode, IsOutside, IsPlusNode, IsReplacedIn, IsTreeOf, tree_at}
use Rattle.fb_trees.specs.InternalForests.{MayReplaceAt}
use Rattle.fb_trees.specs.InternalLoneTrees.{alone, only_tree}
use Rattle.fb_trees.specs.Replacements.{IsReplaced, MayReplace}
use Rattle.fb_trees.specs.Rooted.{IsMinus, IsPlus, IsRooted, is_node}

pub lone : (f : List (Option Grown)) (t : Grown) → f ≡ alone (only_tree f) → only_tree f ≡ t → f ≡ alone t
lone f t is seen = is ∙ ap alone seen

only_name : (name n : ℕ) → is_in (name ∷ []) n ≡ true → name ≡ n
only_name name n within = by (is_in-cases name [] n within)
  where
    by : (name ≡ n) ⊎ (is_in [] n ≡ true) → name ≡ n
    by (inl same) = same
    by (inr none) = absurd (false≢true none)

module _ (f : List (Option Grown)) (t : Grown) (is : f ≡ alone t) where
  pub at_0 : tree_at f 0 ≡ Some t
  at_0 = ap (λ g. tree_at g 0) is

  pub tree_0 : (n : ℕ) → is_node t n ≡ true → IsTreeOf f n 0 t
  tree_0 n has = record { at = at_0; has = has }

  pub node_inside : (n : ℕ) → is_node t n ≡ true → IsInside f n
  node_inside n has = record { tree = 0; grown = t; is = tree_0 n has }

  pub plus_node : (n : ℕ) → IsPlus t n → IsPlusNode f n
  plus_node n plus = record { tree = 0; grown = t; at = at_0; plus = plus }

  pub minus_node : (n : ℕ) → IsMinus t n → IsMinusNode f n
  minus_node n minus = record { tree = 0; grown = t; at = at_0; minus = minus }

  pub plus_together : (a b : ℕ) → IsPlus t a → IsPlus t b → ArePlusTogether f a b
  plus_together a b first second = record { tree = 0; grown = t; at = at_0; first = first; second = second }

  only : (s : ℕ) (g : Grown) → tree_at (alone t) s ≡ Some g → g ≡ t
  only zero g at = sym (same_Some t g at)
  only (suc s) g at = absurd (none-some g at)

  pub node_outside : (n : ℕ) → is_node t n ≡ false → IsOutside f n
  node_outside n out s g at = ap (λ h. is_node h n) (only s g (ap (λ h. tree_at h s) (sym is) ∙ at)) ∙ out

  pub tree_rooted : AreRootedApart f → IsRooted t.root t.branches
  tree_rooted are = are.rooted 0 t at_0

  pub lone_set : (new : List (Option Grown)) (g : Grown) → new ≡ set f 0 (Some g) → new ≡ alone g
  lone_set new g new_is = new_is ∙ ap (λ h. set h 0 (Some g)) is

  pub may_replace : (gone : List ℕ) (path : List CycleStep) → MayReplace t gone path → MayReplaceAt f 0 gone path
  may_replace [] path may = absurd may
  may_replace (m ∷ []) path may = record { grown = t; at = at_0; may = may; fresh = λ n within. node_outside n (may.fresh n within) }
  may_replace (m ∷ n ∷ ns) [] may = absurd may
  may_replace (m ∷ n ∷ ns) (s ∷ []) may = record {
    grown = t;
    at = at_0;
    may = may;
    fresh = λ k within. node_outside k (ap (is_node t) (sym (only_name s.node k within)) ∙ may.fresh);
  }
  may_replace (m ∷ n ∷ ns) (s ∷ u ∷ us) may = absurd may

  pub lone_replaced : (gone : List ℕ) (path : List CycleStep) (new : List (Option Grown)) → IsReplacedIn f gone path 0 t new
      → IsReplaced t gone path (only_tree new)
  lone_replaced gone path new is_new =
      subst (IsReplaced t gone path) (ap only_tree (sym (lone_set new is_new.after is_new.new_is))) is_new.replaced

-- a call that fails leaves the forest as it was, and one that doesn't leaves one tree
pub still_alone : {A E : Type 0} (r : Result A E) (f new : List (Option Grown)) → f ≡ alone (only_tree f)
    → OnOk r ((g : Grown) × (new ≡ alone g)) → OnErr r (new ≡ f) → new ≡ alone (only_tree new)
still_alone (Ok x) f new is ok err = let (g, e) = ok in e ∙ ap (λ h. alone (only_tree h)) (sym e)
still_alone (Err x) f new is ok err = err ∙ (is ∙ ap (λ h. alone (only_tree h)) (sym err))
