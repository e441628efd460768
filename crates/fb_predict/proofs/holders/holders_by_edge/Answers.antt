use Rattle.std.proofs.Common.{◌≡◌, ◌<◌, ℕ, List, false, [], All, sym, ap, subst, subst₂, ◌∙◌}
use Rattle.fb_predict.specs.ObservableText.{is_beyond, repeats}
use Rattle.fb_predict.proofs.Beyond.{none_where, not_beyond}
use Rattle.fb_predict.proofs.Flips.{holds_next, distinct_list}
use Rattle.fb_predict.proofs.holders.holders_by_edge.Goals as goal

pub add_number-requires-clause-below : goal.add_number-requires-clause-below
add_number-requires-clause-below c =
    let n = c.args.edge_count in
    let list = c.index-lists-i.result in
    let none : is_beyond n list.items ≡ false =
    subst (λ u. is_beyond n u.items ≡ false) (sym c.index-lists-i.is) (none_where (λ u. u.items) (is_beyond n) 0 c.loop-i.i c.args.lists.now list c.requires.below c.loop-i-test.true) in
    subst₂ (λ (xs : List ℕ) (m : ℕ). All (λ e. e < m) xs) (sym c.as_slice.ensures.value) (sym c.loop-i.invariant.size) (not_beyond n list.items none)

pub loop-i-preserved : goal.loop-i-preserved
loop-i-preserved c =
    let at = c.loop-i in
    let lists = c.args.lists.now in
    let list = c.index-lists-i.result in
    let again : repeats [] list.items ≡ false =
    subst (λ u. repeats [] u.items ≡ false) (sym c.index-lists-i.is) (none_where (λ u. u.items) (repeats []) 0 at.i lists list c.requires.distinct c.loop-i-test.true) in
    let each = rw c.as_slice.ensures.value at c.in_ok-add_number.ensures.each in
    record {
      size = c.in_ok-add_number.ensures.len ∙ at.invariant.size;
      odd = λ i e. each i e ∙ holds_next (λ u. u.items) lists at.i list list.items _ i e c.loop-i-test.true (ap (λ u. u.items) c.index-lists-i.is) (distinct_list list.items again) (at.invariant.odd i e);
      numbers = c.in_ok-add_number.ensures.numbers;
    }
