-- The roles that a tree gives.
use Rattle.std.proofs.Common.{ℕ, ◌≡◌, Bool, true, false, refl, if◌then◌else◌}
use Rattle.std.proofs.lemmas.Bool.{false≢true}
use Rattle.fb_graph.specs.Parity.{is_in}
use Rattle.fb_regions.specs.declared.roles.Role.{Role}
use Rattle.fb_regions.specs.declared.roles.Role.TheVariants.{Plus, Minus, Out}
use Rattle.fb_laws.specs.Trees.{minus_names, plus_names}
use Rattle.fb_regions.specs.Paces.{grows, shrinks}
use Rattle.fb_trees.specs.Branches.{Grown}
use Rattle.fb_trees.specs.Rooted.{role_in}

pub plus_in_tree : (t : Grown) (name : ℕ) → grows (role_in t name) ≡ true → is_in (plus_names t.root t.branches) name ≡ true
plus_in_tree t name h = by (is_in (plus_names t.root t.branches) name) (is_in (minus_names t.branches) name) h
  where
    by : (plus minus : Bool) → grows (if plus then Plus else (if minus then Minus else Out)) ≡ true → plus ≡ true
    by true minus h = refl
    by false true h = h
    by false false h = h

pub minus_in_tree : (t : Grown) (name : ℕ) → shrinks (role_in t name) ≡ true → is_in (minus_names t.branches) name ≡ true
minus_in_tree t name h = by (is_in (plus_names t.root t.branches) name) (is_in (minus_names t.branches) name) h
  where
    by : (plus minus : Bool) → shrinks (if plus then Plus else (if minus then Minus else Out)) ≡ true → minus ≡ true
    by true minus h = absurd (false≢true h)
    by false true h = refl
    by false false h = h

pub only_minus : (r : Role) → shrinks r ≡ true → r ≡ Minus
only_minus Plus shrink = absurd (false≢true shrink)
only_minus Minus shrink = refl
only_minus Out shrink = absurd (false≢true shrink)

pub not_both : (r : Role) → grows r ≡ true → shrinks r ≡ true → ⊥
not_both Plus grow shrink = false≢true shrink
not_both Minus grow shrink = false≢true grow
not_both Out grow shrink = false≢true grow
