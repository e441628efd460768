use Rattle.std.proofs.Common.{◌≡◌, ◌-◌, ◌<◌, length, get_or, ap, vec_capacity, arith}
use Rattle.fb_regions.proofs.SparseValues.{value_absent, value_taken}
use Rattle.fb_regions.proofs.Stored.{is_in_taken, length-swapped, rest_distinct, rest_within, shorter_than_places, stored_distinct, stored_last, stored_moved}
use Rattle.fb_regions.proofs.sparse.SparseTable.leave.Goals as goal

pub returns-in_default-clause-values : goal.returns-in_default-clause-values
returns-in_default-clause-values g c = value_absent _ _ c.args.key c.in_default.ensures

pub overflow_cast-place : goal.overflow_cast-place
overflow_cast-place g c =
    let less : c.in-Some.place < length c.self.inside.keys.items = rw (← c.self.view_is) at c.in-Some.ensures.0 in
    let short = shorter_than_places _ _ _ _ _ c.self.invariant in
    omega (arith, less, short, c.self.invariant.few)

pub set-requires : goal.set-requires
set-requires g c =
    let less : c.in-Some.place < length c.self.inside.keys.items = rw (← c.self.view_is) at c.in-Some.ensures.0 in
    let one = length-swapped c.self.inside.values.items c.in-Some.place c.swap_remove-2.result (omega (arith, less, c.self.invariant.values)) in
    let fewer : length c.swap_remove-2.new.self.items ≡ length c.self.inside.values.items - 1 =
    omega (arith, ap length c.swap_remove-2.ensures.items, one) in
    let within =
    rest_within c.self.inside.places c.self.inside.keys.items (length c.self.inside.values.items) (vec_capacity c.self.inside.keys)
    (vec_capacity c.self.inside.values) c.self.invariant c.in-Some.place c.swap_remove.result (length c.swap_remove-2.new.self.items)
    (vec_capacity c.swap_remove.new.self) (vec_capacity c.swap_remove-2.new.self) c.swap_remove.new.self.items less c.swap_remove.ensures.items
    fewer c.swap_remove.ensures.capacity c.swap_remove-2.ensures.capacity c.in-Some.place c.index-moved.result.now (omega arith) in
    omega (arith, within, c.index-moved.ensures)

pub invariant_of-self : goal.invariant_of-self
invariant_of-self g c =
    let less : c.in-Some.place < length c.self.inside.keys.items = rw (← c.self.view_is) at c.in-Some.ensures.0 in
    let one = length-swapped c.self.inside.values.items c.in-Some.place c.swap_remove-2.result (omega (arith, less, c.self.invariant.values)) in
    let fewer : length c.swap_remove-2.new.self.items ≡ length c.self.inside.values.items - 1 =
    omega (arith, ap length c.swap_remove-2.ensures.items, one) in
    rw c.set.ensures
    (stored_moved c.self.inside.places c.self.inside.keys.items (length c.self.inside.values.items) (vec_capacity c.self.inside.keys)
    (vec_capacity c.self.inside.values) c.self.invariant c.in-Some.place c.swap_remove.result (length c.swap_remove-2.new.self.items)
    (vec_capacity c.swap_remove.new.self) (vec_capacity c.swap_remove-2.new.self) c.swap_remove.new.self.items less c.swap_remove.ensures.items
    fewer c.swap_remove.ensures.capacity c.swap_remove-2.ensures.capacity c.index-moved.result.now (omega arith) c.index-moved.ensures)

pub invariant_of-self-else-place-len : goal.invariant_of-self-else-place-len
invariant_of-self-else-place-len g c =
    let less : c.in-Some.place < length c.self.inside.keys.items = rw (← c.self.view_is) at c.in-Some.ensures.0 in
    let one = length-swapped c.self.inside.values.items c.in-Some.place c.swap_remove-2.result (omega (arith, less, c.self.invariant.values)) in
    let fewer : length c.swap_remove-2.new.self.items ≡ length c.self.inside.values.items - 1 =
    omega (arith, ap length c.swap_remove-2.ensures.items, one) in
    stored_last c.self.inside.places c.self.inside.keys.items (length c.self.inside.values.items) (vec_capacity c.self.inside.keys)
    (vec_capacity c.self.inside.values) c.self.invariant c.in-Some.place c.swap_remove.result (length c.swap_remove-2.new.self.items)
    (vec_capacity c.swap_remove.new.self) (vec_capacity c.swap_remove-2.new.self) c.swap_remove.new.self.items less c.swap_remove.ensures.items
    fewer c.swap_remove.ensures.capacity c.swap_remove-2.ensures.capacity (omega arith)

pub returns-then-place-len-clause-keys : goal.returns-then-place-len-clause-keys
returns-then-place-len-clause-keys g c =
    let less : c.in-Some.place < length c.self.inside.keys.items = rw (← c.self.view_is) at c.in-Some.ensures.0 in
    let here : get_or c.self.inside.keys.items c.in-Some.place 0 ≡ c.args.key = rw (← c.self.view_is) at c.in-Some.ensures.1 in
    rw (← c.self.view_is)
    (is_in_taken c.self.inside.keys.items c.swap_remove.new.self.items c.in-Some.place c.swap_remove.result c.args.key less here
    (stored_distinct _ _ _ _ _ c.self.invariant) c.swap_remove.ensures.value c.swap_remove.ensures.items)

pub returns-then-place-len-clause-values : goal.returns-then-place-len-clause-values
returns-then-place-len-clause-values g c =
    let less : c.in-Some.place < length c.self.inside.keys.items = rw (← c.self.view_is) at c.in-Some.ensures.0 in
    let here : get_or c.self.inside.keys.items c.in-Some.place 0 ≡ c.args.key = rw (← c.self.view_is) at c.in-Some.ensures.1 in
    let distinct = stored_distinct _ _ _ _ _ c.self.invariant in
    rw (← c.self.view_is)
    (value_taken c.self.inside.keys.items c.swap_remove.new.self.items c.self.inside.values.items c.swap_remove-2.new.self.items c.in-Some.place
    c.args.key c.swap_remove.result c.swap_remove-2.result distinct
    (rest_distinct _ _ _ _ _ c.self.invariant c.in-Some.place c.swap_remove.result _ less c.swap_remove.ensures.items) c.self.invariant.values less here
    c.swap_remove.ensures.items c.swap_remove-2.ensures.items
    (is_in_taken c.self.inside.keys.items c.swap_remove.new.self.items c.in-Some.place c.swap_remove.result c.args.key less here distinct
    c.swap_remove.ensures.value c.swap_remove.ensures.items))

pub returns-else-place-len-clause-keys : goal.returns-else-place-len-clause-keys
returns-else-place-len-clause-keys g c =
    let less : c.in-Some.place < length c.self.inside.keys.items = rw (← c.self.view_is) at c.in-Some.ensures.0 in
    let here : get_or c.self.inside.keys.items c.in-Some.place 0 ≡ c.args.key = rw (← c.self.view_is) at c.in-Some.ensures.1 in
    rw (← c.self.view_is)
    (is_in_taken c.self.inside.keys.items c.swap_remove.new.self.items c.in-Some.place c.swap_remove.result c.args.key less here
    (stored_distinct _ _ _ _ _ c.self.invariant) c.swap_remove.ensures.value c.swap_remove.ensures.items)

pub returns-else-place-len-clause-values : goal.returns-else-place-len-clause-values
returns-else-place-len-clause-values g c =
    let less : c.in-Some.place < length c.self.inside.keys.items = rw (← c.self.view_is) at c.in-Some.ensures.0 in
    let here : get_or c.self.inside.keys.items c.in-Some.place 0 ≡ c.args.key = rw (← c.self.view_is) at c.in-Some.ensures.1 in
    let distinct = stored_distinct _ _ _ _ _ c.self.invariant in
    rw (← c.self.view_is)
    (value_taken c.self.inside.keys.items c.swap_remove.new.self.items c.self.inside.values.items c.swap_remove-2.new.self.items c.in-Some.place
    c.args.key c.swap_remove.result c.swap_remove-2.result distinct
    (rest_distinct _ _ _ _ _ c.self.invariant c.in-Some.place c.swap_remove.result _ less c.swap_remove.ensures.items) c.self.invariant.values less here
    c.swap_remove.ensures.items c.swap_remove-2.ensures.items
    (is_in_taken c.self.inside.keys.items c.swap_remove.new.self.items c.in-Some.place c.swap_remove.result c.args.key less here distinct
    c.swap_remove.ensures.value c.swap_remove.ensures.items))
