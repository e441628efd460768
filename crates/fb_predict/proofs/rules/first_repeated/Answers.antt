use Rattle.std.proofs.Common.{◌≡◌, ◌<◌, ℕ, List, false, length, All, sym, ap, subst, subst₂, ◌∙◌}
use Rattle.fb_predict.specs.ObservableText.{is_beyond}
use Rattle.fb_predict.proofs.Beyond.{none_where, not_beyond}
use Rattle.fb_predict.proofs.rules.first_repeated.Goals as goal

pub has_repeat-requires-clause-below : goal.has_repeat-requires-clause-below
has_repeat-requires-clause-below c =
    let n = c.args.edge_count in
    let list = c.index-lists-i.result in
    let none : is_beyond n list.items ≡ false =
    subst (λ u. is_beyond n u.items ≡ false) (sym c.index-lists-i.is) (none_where (λ u. u.items) (is_beyond n) 0 c.loop-i.i c.args.lists.now list c.requires.below c.loop-i-test.true) in
    let size : n ≡ length c.as_mut_slice.result.now = sym (ap length c.as_mut_slice.ensures.value ∙ c.loop-i.invariant.size) in
    subst₂ (λ (xs : List ℕ) (m : ℕ). All (λ e. e < m) xs) (sym c.as_slice.ensures.value) size (not_beyond n list.items none)
