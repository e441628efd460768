-- Which nodes are made for a node's piece, and in which order.
use Rattle.std.proofs.Common.{◌≡◌, ◌+◌, ◌-◌, [], ◌∷◌, ◌++◌, sym, ap, ◌∙◌, arith}
use Rattle.fb_plan.specs.Plans.{join_at}
use Rattle.fb_plan.proofs.Trees.{subtree_of_fusion, subtree_of_unit}
use Rattle.fb_book.specs.Books.{nodes_made}
use Rattle.fb_book.specs.Laws.{FusionIsMadeLast, UnitIsMadeAlone}
use Rattle.fb_book.proofs.Trees.{Joined, joined}

pub unit_is_made_alone : UnitIsMadeAlone
unit_is_made_alone tree is n less = subtree_of_unit tree n less

pub fusion_is_made_last : FusionIsMadeLast
fusion_is_made_last tree is n left right e = step (joined tree.units tree.joins n (left, right) e)
  where
    step : Joined tree.units tree.joins n (left, right)
        → nodes_made tree n ≡ nodes_made tree left ++ nodes_made tree right ++ n ∷ []
    step j =
        let at : tree.units + (n - tree.units) ≡ n = omega (arith, j.above) in
        ap (nodes_made tree) (sym at)
        ∙ subtree_of_fusion tree is (n - tree.units) j.less
        ∙ ap (λ m. nodes_made tree (join_at tree.joins (n - tree.units)).0 ++ nodes_made tree (join_at tree.joins (n - tree.units)).1 ++ m ∷ []) at
        ∙ ap (λ p. nodes_made tree p.0 ++ nodes_made tree p.1 ++ n ∷ []) j.is
