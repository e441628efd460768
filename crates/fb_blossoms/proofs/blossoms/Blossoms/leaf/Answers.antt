use Rattle.std.proofs.Common.{sym, ◌∙◌}
use Rattle.fb_blossoms.proofs.Moves.{leafed, leafs, updates_from, updates_roomy, vacant_from}
use Rattle.fb_blossoms.proofs.blossoms.Blossoms.leaf.Goals as goal

pub invariant_of-self-2 : goal.invariant_of-self-2
invariant_of-self-2 c =
    let old = c.self.inside.nodes in
    let key = c.vacant_key-node.result in
    rw (c.in-Some.ensures.1)
    (leafed old c.insert_reserved.new.self _ _ c.self.invariant key c.args.defect
    (vacant_from old c.reserve.new.self _ key c.reserve.ensures.rest_kept c.vacant_key-node.ensures.vacant)
    (updates_roomy old c.reserve.new.self c.insert_reserved.new.self _ key _ c.reserve.ensures.rest_kept (updates_from c.reserve.new.self c.insert_reserved.new.self _ key _ _ (c.insert_reserved.ensures.key ∙ sym c.vacant_key-node.ensures.value) c.leaf.ensures c.insert_reserved.ensures.updates))
    (rw (← c.self.view_is) at c.requires))

pub returns-clause-ok : goal.returns-clause-ok
returns-clause-ok c =
    let old = c.self.inside.nodes in
    let key = c.vacant_key-node.result in
    rw (← c.self.view_is)
    (leafs old c.insert_reserved.new.self _ _ c.self.invariant key c.args.defect
    (vacant_from old c.reserve.new.self _ key c.reserve.ensures.rest_kept c.vacant_key-node.ensures.vacant)
    (updates_roomy old c.reserve.new.self c.insert_reserved.new.self _ key _ c.reserve.ensures.rest_kept (updates_from c.reserve.new.self c.insert_reserved.new.self _ key _ _ (c.insert_reserved.ensures.key ∙ sym c.vacant_key-node.ensures.value) c.leaf.ensures c.insert_reserved.ensures.updates))
    (rw (← c.self.view_is) at c.requires))
