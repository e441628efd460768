-- The paces of regions as the roles of trees.
use Rattle.std.proofs.Common.{ℕ, ◌≡◌, cond, Bool, true, false, List, Option, refl, sym, ap, ◌∙◌}
use Rattle.std.proofs.Math.Path.{fun_ext}
use Rattle.fb_graph.specs.Parity.{is_in}
use Rattle.fb_graph.specs.Steps.{AreExclusive, Roles}
use Rattle.fb_regions.specs.Paces.{Paced, grows, paces_of, shrinks}
use Rattle.fb_regions.specs.declared.roles.Role.TheVariants.{Plus, Minus, Out}
use Rattle.fb_trees.specs.Branches.{Grown}
use Rattle.fb_trees.specs.Forests.{AreInPace, all_minus, all_plus, all_roles, trees_in}

grows_by : (a b : Bool) → grows (cond a Plus (cond b Minus Out)) ≡ a
grows_by true b = refl
grows_by false true = refl
grows_by false false = refl

shrinks_by : (a b : Bool) → (a ≡ true → b ≡ false) → shrinks (cond a Plus (cond b Minus Out)) ≡ b
shrinks_by true b apart = sym (apart refl)
shrinks_by false true apart = refl
shrinks_by false false apart = refl

module _ {S : Type 0} (r : Paced S) (f : List (Option Grown)) (paces : AreInPace r f) where
  pub plus_are : (n : ℕ) → is_in r.plus n ≡ is_in (all_plus (trees_in f)) n
  plus_are n =
      sym (grows_by (is_in r.plus n) (is_in r.minus n))
      ∙ (ap grows (paces n) ∙ grows_by (is_in (all_plus (trees_in f)) n) (is_in (all_minus (trees_in f)) n))

  module _ (moves : AreExclusive (paces_of r)) (roles : AreExclusive (all_roles (trees_in f))) where
    minus_are : (n : ℕ) → is_in r.minus n ≡ is_in (all_minus (trees_in f)) n
    minus_are n =
        sym (shrinks_by (is_in r.plus n) (is_in r.minus n) (moves n))
        ∙ (ap shrinks (paces n) ∙ shrinks_by (is_in (all_plus (trees_in f)) n) (is_in (all_minus (trees_in f)) n) (roles n))

    -- the paces are the roles
    pub paces_are : paces_of r ≡ all_roles (trees_in f)
    paces_are =
        let first : paces_of r ≡ record { is_plus = is_in (all_plus (trees_in f)); is_minus = is_in r.minus } =
        ap {B = Roles} (λ (t : ℕ → Bool). record { is_plus = t; is_minus = is_in r.minus }) (fun_ext plus_are) in
        first ∙ ap {B = Roles} (λ (t : ℕ → Bool). record { is_plus = is_in (all_plus (trees_in f)); is_minus = t }) (fun_ext minus_are)
