use Rattle.std.proofs.Common.{ℕ, ◌≡◌, true, false, List, Option, Some, None, IfSome, IfNone, sym}
use Rattle.fb_links.specs.Lists.{is_in}
use Rattle.fb_blossoms.specs.Nodes.{cycle_at, defects_at, is_on, leaf, node_at}
use Rattle.fb_blossoms.specs.InternalItems.{Item}
use Rattle.fb_blossoms.specs.InternalForest.{IsKept, nodes_of}
use Rattle.fb_blossoms.proofs.Climbs.{none_some}
use Rattle.fb_blossoms.proofs.Nested.{leaf_node, leaf_under}
use Rattle.fb_blossoms.proofs.Tails.{not_in}
use Rattle.fb_blossoms.proofs.blossoms.Blossoms.leaf_of.Goals as goal

if_some : (slots : List (Option Item)) (made : ℕ) (leaves : ℕ → Option ℕ) → IsKept slots leaves made → (d : ℕ) (o : Option ℕ)
    → leaves d ≡ o → IfSome o (λ x. node_at (nodes_of slots) x ≡ Some (leaf d))
if_some slots made leaves kept d None e = tt
if_some slots made leaves kept d (Some x) e = leaf_node slots made kept.forest x d (kept.leaf_at d x e)

if_none : (slots : List (Option Item)) (made : ℕ) (leaves : ℕ → Option ℕ) → IsKept slots leaves made → (d : ℕ) (o : Option ℕ)
    → leaves d ≡ o → IfNone o ((p x : ℕ) → is_on (cycle_at (nodes_of slots) p) x ≡ true → is_in (defects_at (nodes_of slots) x) d ≡ false)
if_none slots made leaves kept d (Some x) e = tt
if_none slots made leaves kept d None e =
    λ p x on. not_in (defects_at (nodes_of slots) x) d
    (λ h. let r = leaf_under slots leaves made kept p x d on h in none_some (leaves d) r.0 e r.1)

pub returns : goal.returns
returns c =
    rw (← c.self.view_is) record {
      leaf = if_some c.self.inside.nodes.slots _ _ c.self.invariant c.args.defect c.leaf_of.result (sym c.leaf_of.ensures);
      none = if_none c.self.inside.nodes.slots _ _ c.self.invariant c.args.defect c.leaf_of.result (sym c.leaf_of.ensures);
    }
