-- How many trees of a forest aren't dissolved.
use Rattle.std.proofs.Common.{ℕ, zero, suc, ◌≡◌, ◌≤◌, ◌<◌, ◌+◌, ◌-◌, List, [], ◌∷◌, ◌++◌, length, map, set, Option, Some, None, refl, sym, ap, ◌∙◌, arith}
use Rattle.std.proofs.lemmas.List.{length-map}
use Rattle.std.proofs.lemmas.Option.{none-some}
use Rattle.fb_trees.specs.Branches.{Grown}
use Rattle.fb_trees.specs.Forests.{tree_at, trees_in}
use Rattle.fb_trees.specs.InternalForests.{IsWholeForest}

-- a tree in the place of another one
pub as_many : (f : List (Option Grown)) (t : ℕ) (old new : Grown) → tree_at f t ≡ Some old
    → length (trees_in (set f t (Some new))) ≡ length (trees_in f)
as_many [] t old new at = absurd (none-some old at)
as_many (None ∷ f) zero old new at = absurd (none-some old at)
as_many (Some g ∷ f) zero old new at = refl
as_many (None ∷ f) (suc t) old new at = as_many f t old new at
as_many (Some g ∷ f) (suc t) old new at = ap suc (as_many f t old new at)

-- a tree that is dissolved
pub one_less : (f : List (Option Grown)) (t : ℕ) (old : Grown) → tree_at f t ≡ Some old
    → length (trees_in f) ≡ suc (length (trees_in (set f t None)))
one_less [] t old at = absurd (none-some old at)
one_less (None ∷ f) zero old at = absurd (none-some old at)
one_less (Some g ∷ f) zero old at = refl
one_less (None ∷ f) (suc t) old at = one_less f t old at
one_less (Some g ∷ f) (suc t) old at = ap suc (one_less f t old at)

-- a tree that is added
pub one_more : (f : List (Option Grown)) (new : Grown) → length (trees_in (f ++ Some new ∷ [])) ≡ suc (length (trees_in f))
one_more [] new = refl
one_more (None ∷ f) new = one_more f new
one_more (Some g ∷ f) new = ap suc (one_more f new)

pub no_more_left : (f : List (Option Grown)) → length (trees_in f) ≤ length f
no_more_left [] = omega arith
no_more_left (None ∷ f) = let below = no_more_left f in omega arith
no_more_left (Some g ∷ f) = let below = no_more_left f in omega arith

pub none_left : (f : List (Option Grown)) → ((t : ℕ) → tree_at f t ≡ None) → trees_in f ≡ []
none_left [] gone = refl
none_left (None ∷ f) gone = none_left f (λ t. gone (suc t))
none_left (Some g ∷ f) gone = absurd (none-some g (sym (gone zero)))

-- once all trees are dissolved, their numbers can be forgotten
pub cleared : (f : List (Option Grown)) (owners places : List (Option ℕ)) (left : ℕ) → IsWholeForest f owners places left
    → ((t : ℕ) → tree_at f t ≡ None) → IsWholeForest [] owners places left
cleared f owners places left whole gone = record {
  kept = record {
    rooted = λ t g at. absurd (none-some g at);
    owned = λ t name g is. absurd (none-some g is.at);
    owner = λ t name is. let (g, there) = whole.kept.owner t name is in absurd (none-some g (sym (gone t) ∙ there.at));
    placed = λ t name g is. absurd (none-some g is.at);
    free = whole.kept.free;
  };
  counted = whole.counted ∙ ap length (none_left f gone);
}

-- the trees below this number are dissolved, and there are as many numbers as before
pub record AreGoneBelow (before now : List (Option Grown)) (t : ℕ) : Type 0 where
  pub numbers : length now ≡ length before
  pub gone : (s : ℕ) → s < t → tree_at now s ≡ None

-- the number that a forest keeps, where a tree is dissolved, is another one than before, or is added
module _ (f : List (Option Grown)) (t : ℕ) (g : Grown) (at : tree_at f t ≡ Some g) (left : ℕ) (counted : left ≡ length (trees_in f)) where
  pub some_left : 1 ≤ left
  some_left = let less = one_less f t g at in omega (arith, counted)

  pub counted_less : (after : List (Option Grown)) → after ≡ set f t None → left - 1 ≡ length (trees_in after)
  counted_less after is =
      let less = one_less f t g at in
      let same : length (trees_in after) ≡ length (trees_in (set f t None)) = ap (λ l. length (trees_in l)) is in
      omega (arith, counted)

  pub counted_same : (after : List (Option Grown)) (new : Grown) → after ≡ set f t (Some new) → left ≡ length (trees_in after)
  counted_same after new is = counted ∙ (sym (as_many f t g new at) ∙ ap (λ l. length (trees_in l)) (sym is))

-- a forest of a list has no more trees left than the list is long
pub counted_within : {A : Type 0} (xs : List A) (see : A → Option Grown) (left : ℕ) → left ≡ length (trees_in (map see xs)) → left ≤ length xs
counted_within xs see left counted = let below = no_more_left (map see xs) in let long = length-map xs see in omega (arith, counted)

pub counted_more : (f after : List (Option Grown)) (new : Grown) (left : ℕ) → left ≡ length (trees_in f) → after ≡ f ++ Some new ∷ []
    → left + 1 ≡ length (trees_in after)
counted_more f after new left counted is =
    let more = one_more f new in
    let same : length (trees_in after) ≡ length (trees_in (f ++ Some new ∷ [])) = ap (λ l. length (trees_in l)) is in
    omega (arith, counted)
