-- A plus node of a tree grows in a step of the tree.
use Rattle.std.proofs.Common.{ℕ, ◌≡◌, true, ap, if◌then◌else◌}
use Rattle.fb_graph.specs.Parity.{is_in}
use Rattle.fb_laws.specs.Trees.{minus_names, plus_names}
use Rattle.fb_regions.specs.Paces.{grows}
use Rattle.fb_regions.specs.declared.roles.Role.TheVariants.{Plus, Minus, Out}
use Rattle.fb_trees.specs.Branches.{Grown}
use Rattle.fb_trees.specs.Rooted.{role_in}

pub plus_role : (t : Grown) (name : ℕ) → is_in (plus_names t.root t.branches) name ≡ true → grows (role_in t name) ≡ true
plus_role t name plus =
    ap (λ b. grows (if b then Plus else (if is_in (minus_names t.branches) name then Minus else Out))) plus
