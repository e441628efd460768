use Rattle.std.proofs.Common.{Option, Some, None, refl}
use Rattle.std.specs.Prelude.{IfSome}
use Rattle.fb_half.specs.Values.{part_of}
use Rattle.fb_plan.specs.Scopes.{scope_graph}
use Rattle.fb_search.specs.declared.near.Near.{Near}
use Rattle.fb_search.proofs.NearParts.{near_in_part}
use Rattle.fb_search.proofs.near_ends.near_in.Goals as goal

weaker : (P Q : Near → Type 0) → ((near : Near) → P near → Q near) → (r : Option Near) → IfSome r P → IfSome r Q
weaker P Q by (Some near) is = by near is
weaker P Q by None is = tt

pub returns : goal.returns
returns c =
    let parts = c.args.parts.now in
    let scope = c.requires.scope in
    weaker _ _ (λ near is.
    near_in_part (scope_graph parts.regions.scope) parts.regions.scope.plan.now parts.regions.scope.node (part_of parts)
    parts.regions.nodes parts.matching.unmatched c.args.root near scope.graph scope.plan scope.node refl refl is)
    c.near_of.result c.near_of.ensures
