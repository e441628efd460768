use Rattle.std.proofs.Common.{Some, sym, subst, ◌∙◌}
use Rattle.slab.specs.Slab.{Slab}
use Rattle.fb_blossoms.specs.InternalItems.{Item}
use Rattle.fb_blossoms.specs.InternalForest.{IsKept}
use Rattle.std.specs.BTreeMap.{get}
use Rattle.std.specs.Ordering.{nat_cmp}
use Rattle.fb_blossoms.proofs.Changes.{regrown}
use Rattle.fb_blossoms.proofs.Moves.{entered_from, formed, forms, moved_from, updates_from, vacant_from}
use Rattle.fb_blossoms.proofs.blossoms.Blossoms.form.Goals as goal

pub invariant_of-self-2 : goal.invariant_of-self-2
invariant_of-self-2 c =
    let old = c.self.inside.nodes in
    let key = c.vacant_key-node.result in
    rw (c.in-Some.ensures.1)
    (formed old c.put_under.new.nodes c.insert_reserved.new.self (get nat_cmp c.enter_children.new.leaves) _
    (regrown old.slots (get nat_cmp c.self.inside.leaves) (get nat_cmp c.enter_children.new.leaves) _ c.self.invariant c.enter_children.ensures.grown)
    key c.args.cycle.items
    (vacant_from old c.reserve.new.self _ key c.reserve.ensures.rest_kept c.vacant_key-node.ensures.vacant)
    (moved_from old c.reserve.new.self c.put_under.new.nodes _ c.deref-2.result.now c.args.cycle.items (Some key) c.reserve.ensures.rest_kept c.deref-2.ensures.value c.put_under.ensures.slots)
    (updates_from c.put_under.new.nodes c.insert_reserved.new.self _ key _ _ (c.insert_reserved.ensures.key ∙ (c.put_under.ensures.key ∙ sym c.vacant_key-node.ensures.value)) c.blossom.ensures c.insert_reserved.ensures.updates)
    (rw (← c.self.view_is) at c.requires.cycle) (rw (← c.self.view_is) at c.requires.outer)
    (entered_from old.slots (get nat_cmp c.enter_children.new.leaves) c.deref.result.now c.args.cycle.items c.deref.ensures.value c.in_ok-enter_children.ensures.ok))

pub returns-clause-ok : goal.returns-clause-ok
returns-clause-ok c =
    let old = c.self.inside.nodes in
    let key = c.vacant_key-node.result in
    rw (← c.self.view_is)
    (forms old c.put_under.new.nodes c.insert_reserved.new.self (get nat_cmp c.enter_children.new.leaves) _
    (regrown old.slots (get nat_cmp c.self.inside.leaves) (get nat_cmp c.enter_children.new.leaves) _ c.self.invariant c.enter_children.ensures.grown)
    key c.args.cycle.items
    (vacant_from old c.reserve.new.self _ key c.reserve.ensures.rest_kept c.vacant_key-node.ensures.vacant)
    (moved_from old c.reserve.new.self c.put_under.new.nodes _ c.deref-2.result.now c.args.cycle.items (Some key) c.reserve.ensures.rest_kept c.deref-2.ensures.value c.put_under.ensures.slots)
    (updates_from c.put_under.new.nodes c.insert_reserved.new.self _ key _ _ (c.insert_reserved.ensures.key ∙ (c.put_under.ensures.key ∙ sym c.vacant_key-node.ensures.value)) c.blossom.ensures c.insert_reserved.ensures.updates)
    (rw (← c.self.view_is) at c.requires.cycle) (rw (← c.self.view_is) at c.requires.outer)
    (entered_from old.slots (get nat_cmp c.enter_children.new.leaves) c.deref.result.now c.args.cycle.items c.deref.ensures.value c.in_ok-enter_children.ensures.ok))

pub invariant_of-self : goal.invariant_of-self
invariant_of-self c =
    regrown c.self.inside.nodes.slots (get nat_cmp c.self.inside.leaves) (get nat_cmp c.enter_children.new.leaves) _ c.self.invariant c.enter_children.ensures.grown

pub invariant_of-self-in_err-reserve : goal.invariant_of-self-in_err-reserve
invariant_of-self-in_err-reserve c =
    let P : Slab Item → Type 0 = λ s. IsKept s.slots (get nat_cmp c.enter_children.new.leaves) c.self.inside.made in
    subst P (sym c.reserve.ensures.rest_kept)
    (regrown c.self.inside.nodes.slots (get nat_cmp c.self.inside.leaves) (get nat_cmp c.enter_children.new.leaves) _ c.self.invariant c.enter_children.ensures.grown)
