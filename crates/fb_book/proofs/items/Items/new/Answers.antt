use Rattle.std.proofs.Common.{◌≡◌, ◌+◌, ◌*◌, ◌≤◌, [], length, replicate, vec_capacity, ap, rules}
use Rattle.fb_book.specs.declared.entries.Status.TheVariants.{Idle}
use Rattle.fb_book.proofs.Openings.{items_start}
use Rattle.fb_book.proofs.items.Items.new.Goals as goal

pub invariant_of-result : goal.invariant_of-result
invariant_of-result c =
    let idle : c.in_ok-statuses.statuses.items ≡ replicate c.count_of-count.result Idle = search rules in
    let enough : 2 * c.count_of-count.result ≤ vec_capacity c.in_ok-history.history = search rules in
    let empty : c.in_ok-history.history.items ≡ [] = search rules in
    items_start c.args.units c.args.joins.items c.args.parents.items c.args.slots _ _ c.requires.some c.requires.few c.requires.slots
    c.requires.forest c.requires.parents (ap (λ js. c.args.units + length js) c.as_slice.ensures.value) c.count_of-count.ensures.value
    _ idle _ (ap (λ r. r.0) c.in_ok-ready.ensures) _ _ (ap (λ r. r.1) c.in_ok-ready.ensures) enough _ empty
