use Rattle.std.proofs.Common.{◌≡◌, ◌<◌, ◌∷◌, [], false, true, length, length-append, get_or, ap, vec_capacity, arith}
use Rattle.fb_graph.specs.Parity.{is_in}
use Rattle.fb_regions.proofs.SparseValues.{entered_known}
use Rattle.fb_regions.proofs.Stored.{fewer_than_room, stored_distinct, stored_entered}
use Rattle.fb_regions.proofs.sparse.SparseTable.enter.Goals as goal

pub returns-in-Some : goal.returns-in-Some
returns-in-Some g c =
    let is : (c.in-Some.place < length c.self.inside.keys.items) × (get_or c.self.inside.keys.items c.in-Some.place 0 ≡ c.args.key)
    × (is_in c.self.inside.keys.items c.args.key ≡ true) = rw (← c.self.view_is) at c.in-Some.ensures in
    rw (← c.self.view_is)
    (entered_known _ _ _ c.in-Some.place c.args.key c.args.value (stored_distinct _ _ _ _ _ c.self.invariant) c.self.invariant.values is.0 is.1 is.2)

pub overflow_cast-len : goal.overflow_cast-len
overflow_cast-len g c =
    let below : c.args.key < length c.self.inside.places = rw (← c.self.view_is) at c.requires in
    let absent : is_in c.self.inside.keys.items c.args.key ≡ false = rw (← c.self.view_is) at c.in_default.ensures in
    let fewer = fewer_than_room _ _ _ _ _ c.self.invariant c.args.key below absent in
    omega (arith, fewer, c.self.invariant.few)

pub push_reserved-requires : goal.push_reserved-requires
push_reserved-requires g c =
    let below : c.args.key < length c.self.inside.places = rw (← c.self.view_is) at c.requires in
    let absent : is_in c.self.inside.keys.items c.args.key ≡ false = rw (← c.self.view_is) at c.in_default.ensures in
    let fewer = fewer_than_room _ _ _ _ _ c.self.invariant c.args.key below absent in
    omega (arith, fewer, c.self.invariant.keys_fit)

pub push_reserved-requires-2 : goal.push_reserved-requires-2
push_reserved-requires-2 g c =
    let below : c.args.key < length c.self.inside.places = rw (← c.self.view_is) at c.requires in
    let absent : is_in c.self.inside.keys.items c.args.key ≡ false = rw (← c.self.view_is) at c.in_default.ensures in
    let fewer = fewer_than_room _ _ _ _ _ c.self.invariant c.args.key below absent in
    omega (arith, fewer, c.self.invariant.values, c.self.invariant.values_fit)

pub invariant_of-self-2 : goal.invariant_of-self-2
invariant_of-self-2 g c =
    let below : c.args.key < length c.self.inside.places = rw (← c.self.view_is) at c.requires in
    let absent : is_in c.self.inside.keys.items c.args.key ≡ false = rw (← c.self.view_is) at c.in_default.ensures in
    let count : c.len.result ≡ length c.self.inside.keys.items = omega arith in
    rw c.set.ensures
    (stored_entered c.self.inside.places c.self.inside.keys.items (length c.self.inside.values.items) (vec_capacity c.self.inside.keys)
    (vec_capacity c.self.inside.values) c.self.invariant c.args.key c.len.result (length c.push_reserved-2.new.self.items)
    (vec_capacity c.push_reserved.new.self) (vec_capacity c.push_reserved-2.new.self) c.push_reserved.new.self.items below absent count
    c.push_reserved.ensures.items
    (omega (arith, ap length c.push_reserved-2.ensures.items, length-append c.self.inside.values.items (c.args.value ∷ [])))
    c.push_reserved.ensures.capacity c.push_reserved-2.ensures.capacity)
