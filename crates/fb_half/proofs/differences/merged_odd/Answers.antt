use Rattle.std.proofs.Common.{◌≡◌, ◌∙◌, ◌+◌, ◌⊎◌, ◌++◌, ◌∷◌, inl, inr, [], length, slice_index_or, drop, arith, sym, ap, subst}
use Rattle.std.specs.List.Sorted.{IsStrictlyIncreasing}
use Rattle.std.proofs.lemmas.List.{drop_all, drop_more, length_push, take_rest}
use Rattle.fb_graph.specs.Parity.{is_odd_count}
use Rattle.fb_half.specs.InternalDifferences.{AreCancelling}
use Rattle.fb_half.proofs.MergedOdd.{both_dropped, cancelled_parity, cancelled_rises, first_kept, second_kept}
use Rattle.fb_half.proofs.differences.merged_odd.Goals as goal
use Rattle.fb_half.proofs.differences.merged_odd.Goals.{then-loop-i-test+else-j-second, else-loop-i-test}

pub loop-i-preserved-then-first-i : goal.loop-i-preserved-then-first-i
loop-i-preserved-then-first-i c =
    let xs = c.args.first.now in
    let ys = c.args.second.now in
    let i = c.loop-i.i in
    let j = c.loop-i.j in
    let inv = c.loop-i.invariant in
    let rest = subst (AreCancelling xs ys c.loop-i.odd.items (drop i xs)) (drop_more ys j 0 c.if-j-second.true) inv.2 in (
      omega (arith, c.loop-i-test.true),
      inv.1,
      subst (λ l. AreCancelling xs ys l (drop (i + 1) xs) (drop j ys)) (sym c.push_reserved.ensures.items)
          (subst (AreCancelling xs ys (c.loop-i.odd.items ++ slice_index_or xs i 0 ∷ []) (drop (i + 1) xs)) (sym (drop_more ys j 0 c.if-j-second.true))
          (first_kept _ _ _ _ _ (slice_index_or xs i 0) (slice_index_or ys j 0) c.if-first-i.true
          (subst (λ l. AreCancelling xs ys c.loop-i.odd.items l (slice_index_or ys j 0 ∷ drop (j + 1) ys)) (drop_more xs i 0 c.loop-i-test.true) rest))),
      omega (arith, inv.3, ap length c.push_reserved.ensures.items, length_push c.loop-i.odd.items (slice_index_or xs i 0)),
      omega (arith, inv.4, c.push_reserved.ensures.capacity),
    )

pub loop-i-preserved-then-second-j : goal.loop-i-preserved-then-second-j
loop-i-preserved-then-second-j c =
    let xs = c.args.first.now in
    let ys = c.args.second.now in
    let i = c.loop-i.i in
    let j = c.loop-i.j in
    let inv = c.loop-i.invariant in
    let rest = subst (AreCancelling xs ys c.loop-i.odd.items (drop i xs)) (drop_more ys j 0 c.if-j-second.true) inv.2 in (
      inv.0,
      omega (arith, c.if-j-second.true),
      subst (λ l. AreCancelling xs ys l (drop i xs) (drop (j + 1) ys)) (sym c.push_reserved-then-second-j.ensures.items)
          (subst (λ l. AreCancelling xs ys (c.loop-i.odd.items ++ slice_index_or ys j 0 ∷ []) l (drop (j + 1) ys)) (sym (drop_more xs i 0 c.loop-i-test.true))
          (second_kept _ _ _ _ _ (slice_index_or xs i 0) (slice_index_or ys j 0) c.if-second-j.true
          (subst (λ l. AreCancelling xs ys c.loop-i.odd.items l (slice_index_or ys j 0 ∷ drop (j + 1) ys)) (drop_more xs i 0 c.loop-i-test.true) rest))),
      omega (arith, inv.3, ap length c.push_reserved-then-second-j.ensures.items, length_push c.loop-i.odd.items (slice_index_or ys j 0)),
      omega (arith, inv.4, c.push_reserved-then-second-j.ensures.capacity),
    )

pub loop-i-preserved : goal.loop-i-preserved
loop-i-preserved c =
    let xs = c.args.first.now in
    let ys = c.args.second.now in
    let i = c.loop-i.i in
    let j = c.loop-i.j in
    let inv = c.loop-i.invariant in
    let rest = subst (AreCancelling xs ys c.loop-i.odd.items (drop i xs)) (drop_more ys j 0 c.if-j-second.true) inv.2 in (
      omega (arith, c.loop-i-test.true),
      omega (arith, c.if-j-second.true),
      both_dropped _ _ _ _ _ (slice_index_or xs i 0) (slice_index_or ys j 0) (omega (arith, c.if-first-i.false, c.if-second-j.false))
          (subst (λ l. AreCancelling xs ys c.loop-i.odd.items l (slice_index_or ys j 0 ∷ drop (j + 1) ys)) (drop_more xs i 0 c.loop-i-test.true) rest),
      omega (arith, inv.3),
      inv.4,
    )

pub returns-clause-rising : goal.returns-clause-rising
returns-clause-rising c =
    let xs = c.args.first.now in
    let ys = c.args.second.now in
    let i = c.loop-i.i in
    let j = c.loop-i.j in
    let over : (drop i xs ≡ []) ⊎ (drop j ys ≡ []) =
    elim c.loop-i-test.branch [
      | then-loop-i-test+else-j-second w ↦ inr (drop_all j ys w.if-j-second.false)
      | else-loop-i-test w ↦ inl (drop_all i xs w.loop-i-test.false)
    ] in
    subst IsStrictlyIncreasing
    (sym (c.in_ok-extend_from_slice-2.ensures.items
    ∙ (ap (λ l. c.extend_from_slice.new.self.items ++ l) (take_rest ys j)
    ∙ ap (λ l. l ++ drop j ys) (c.in_ok-extend_from_slice.ensures.items ∙ ap (λ l. c.loop-i.odd.items ++ l) (take_rest xs i)))))
    (cancelled_rises _ _ _ _ _ over c.loop-i.invariant.2)

pub returns-clause-parity : goal.returns-clause-parity
returns-clause-parity c =
    let xs = c.args.first.now in
    let ys = c.args.second.now in
    let i = c.loop-i.i in
    let j = c.loop-i.j in
    λ test.
    ap (is_odd_count test)
    (c.in_ok-extend_from_slice-2.ensures.items
    ∙ (ap (λ l. c.extend_from_slice.new.self.items ++ l) (take_rest ys j)
    ∙ ap (λ l. l ++ drop j ys) (c.in_ok-extend_from_slice.ensures.items ∙ ap (λ l. c.loop-i.odd.items ++ l) (take_rest xs i))))
    ∙ cancelled_parity _ _ _ _ _ c.loop-i.invariant.2 test
