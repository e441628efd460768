use Rattle.std.proofs.Common.{◌≡◌, ◌==◌, subst, sym, rules}
use Rattle.std.specs.List.Sorted.{IsPermutation, IsStableByKey}
use Rattle.std.specs.Ordering.{nat_cmp}
use Rattle.std.proofs.lemmas.Fn.{dedup_same}
use Rattle.std.proofs.lemmas.List.Sorted.{IsNonDecreasingBy-from_sort_by_key, answers_always}
use Rattle.fb_graph.specs.Limits.{AreChanges}
use Rattle.fb_shots_json.specs.TextJson.{last_changes}
use Rattle.fb_shots_json.proofs.LastChanges.{last_kept, kept_are_changes}
use Rattle.fb_shots_json.proofs.changes.keep_last.Goals as goal

pub returns-clause-last : goal.returns-clause-last
returns-clause-last c = λ edge_count below.
    let listed = c.args.changes.now.items in
    let sorted = c.sort_by_key.new.self.items in
    let kept = dedup_same _ (λ p q. p.0 == q.0) _ (λ x y b f' x' y' k. search rules) _ _ c.dedup_by_key.ensures.filtered in
    subst (λ l. l ≡ last_changes edge_count listed) (sym kept)
    (last_kept listed sorted edge_count
    (subst (λ l. IsPermutation l sorted) c.reverse.ensures.items c.in_ok-sort_by_key.ensures.permutation)
    (subst (λ l. IsStableByKey (λ p. p.0) nat_cmp l sorted) c.reverse.ensures.items
    (c.in_ok-sort_by_key.ensures.stable (λ p. p.0) (answers_always _ _ _ (λ f a r g h. search rules))))
    (IsNonDecreasingBy-from_sort_by_key (λ p. p.0) _ c.in_ok-sort_by_key.ensures.sorted (λ a r q k. search rules))
    below)

pub returns-clause-kept : goal.returns-clause-kept
returns-clause-kept c = λ edge_count each.
    let listed = c.args.changes.now.items in
    let sorted = c.sort_by_key.new.self.items in
    let kept = dedup_same _ (λ p q. p.0 == q.0) _ (λ x y b f' x' y' k. search rules) _ _ c.dedup_by_key.ensures.filtered in
    subst (λ l. AreChanges edge_count l) (sym kept)
    (kept_are_changes listed sorted edge_count
    (subst (λ l. IsPermutation l sorted) c.reverse.ensures.items c.in_ok-sort_by_key.ensures.permutation)
    (subst (λ l. IsStableByKey (λ p. p.0) nat_cmp l sorted) c.reverse.ensures.items
    (c.in_ok-sort_by_key.ensures.stable (λ p. p.0) (answers_always _ _ _ (λ f a r g h. search rules))))
    (IsNonDecreasingBy-from_sort_by_key (λ p. p.0) _ c.in_ok-sort_by_key.ensures.sorted (λ a r q k. search rules))
    each)
