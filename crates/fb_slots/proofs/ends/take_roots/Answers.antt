use Rattle.std.proofs.Common.{◌+◌, ◌-◌, ◌*◌, ℕ, sym, ap, ◌∙◌, vec_capacity}
use Rattle.std.specs.Mem.Slots.{slots_items, slots_filled, slots_len, slots_counts}
use lib.ListN.{get_elem?}
use Rattle.fb_slots.proofs.Gathering.{roots_step, not_missing}
use Rattle.fb_slots.proofs.ends.take_roots.Goals as goal

pub unreachable-requires : goal.unreachable-requires
unreachable-requires g c =
    let i : ℕ = c.loop-slot.slot * c.args.nodes + (c.args.nodes - 1) in
    let h = c.requires.pieces c.loop-slot.slot c.loop-slot-test.true in
    let same = c.skip.ensures.items ∙ c.loop-slot.invariant.1 in
    not_missing (slots_items c.skip.new.closed.slots) i h.0 c.take.result c.take.ensures.value
    c.in_default.is (ap (λ xs. get_elem? xs i) same ∙ h.1)

pub loop-slot-preserved : goal.loop-slot-preserved
loop-slot-preserved g c =
    let i : ℕ = c.loop-slot.slot * c.args.nodes + (c.args.nodes - 1) in
    let mid = c.skip.new.closed.slots in
    let t = c.take.ensures.others in
    let same = c.skip.ensures.items ∙ c.loop-slot.invariant.1 in
    let len_same = c.skip.ensures.len ∙ c.loop-slot.invariant.2 in
    let n = roots_step c.args.nodes c.loop-slot.slot c.args.slots (slots_len mid)
    (slots_len c.take.new.self.slots) (vec_capacity c.loop-slot.roots)
    (vec_capacity c.push_reserved.new.self)
    (slots_items c.args.closed.now.slots) (slots_items c.args.closed.now.slots) (slots_filled mid)
    (slots_filled c.take.new.self.slots) c.loop-slot.roots.items c.push_reserved.new.self.items
    c.in-Some.piece
    c.requires.some c.loop-slot-test.true (len_same ∙ c.requires.count) (slots_counts mid).1
    c.skip.ensures.after t.1 t.2 c.loop-slot.invariant.3 c.push_reserved.ensures.items
    (ap (λ xs. get_elem? xs i) (sym same) ∙ c.in-Some.ensures.value) c.loop-slot.invariant.4
    c.push_reserved.ensures.capacity in
    (n.0, t.0 ∙ same, t.2 ∙ len_same, n.1, n.2)
