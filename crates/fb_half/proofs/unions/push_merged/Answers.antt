use Rattle.std.proofs.Common.{◌≡◌, ◌∙◌, ◌+◌, ◌⊎◌, ◌++◌, ◌∷◌, inl, inr, [], slice_index_or, drop, arith, sym, ap, subst}
use Rattle.std.proofs.lemmas.List.{drop_all, drop_more, take_rest}
use Rattle.fb_half.specs.InternalUnions.{AreMerging, IsRisingUnion}
use Rattle.fb_half.proofs.RisingUnions.{both_passed, first_pushed, merged_whole, second_pushed, unmerged}
use Rattle.fb_half.proofs.unions.push_merged.Goals as goal
use Rattle.fb_half.proofs.unions.push_merged.Goals.{then-loop-i-test+else-j-second, else-loop-i-test}

pub loop-i-init : goal.loop-i-init
loop-i-init c = (omega arith, omega arith, unmerged c.args.all.now.items c.args.first.now c.args.second.now c.requires.first c.requires.second)

pub loop-i-preserved-then-first-i : goal.loop-i-preserved-then-first-i
loop-i-preserved-then-first-i c =
    let xs = c.args.first.now in
    let ys = c.args.second.now in
    let i = c.loop-i.i in
    let j = c.loop-i.j in
    let rest = subst (λ l. AreMerging (c.args.all.now.items ++ xs) ys c.loop-i.all.items (drop i xs) l) (drop_more ys j 0 c.if-j-second.true)
    (c.loop-i.invariant.2) in (
      omega (arith, c.loop-i-test.true),
      c.loop-i.invariant.1,
      subst (λ l. AreMerging (c.args.all.now.items ++ xs) ys l (drop (i + 1) xs) (drop j ys)) (sym c.in_ok-push.ensures.items)
          (subst (AreMerging (c.args.all.now.items ++ xs) ys (c.loop-i.all.items ++ slice_index_or xs i 0 ∷ []) (drop (i + 1) xs)) (sym (drop_more ys j 0 c.if-j-second.true))
          (first_pushed _ _ _ _ _ (slice_index_or xs i 0) (slice_index_or ys j 0) c.if-first-i.true
          (subst (λ l. AreMerging (c.args.all.now.items ++ xs) ys c.loop-i.all.items l (slice_index_or ys j 0 ∷ drop (j + 1) ys)) (drop_more xs i 0 c.loop-i-test.true) rest))),
    )

pub loop-i-preserved-then-second-j : goal.loop-i-preserved-then-second-j
loop-i-preserved-then-second-j c =
    let xs = c.args.first.now in
    let ys = c.args.second.now in
    let i = c.loop-i.i in
    let j = c.loop-i.j in
    let rest = subst (λ l. AreMerging (c.args.all.now.items ++ xs) ys c.loop-i.all.items (drop i xs) l) (drop_more ys j 0 c.if-j-second.true)
    (c.loop-i.invariant.2) in (
      c.loop-i.invariant.0,
      omega (arith, c.if-j-second.true),
      subst (λ l. AreMerging (c.args.all.now.items ++ xs) ys l (drop i xs) (drop (j + 1) ys)) (sym c.in_ok-push-2.ensures.items)
          (subst (λ l. AreMerging (c.args.all.now.items ++ xs) ys (c.loop-i.all.items ++ slice_index_or ys j 0 ∷ []) l (drop (j + 1) ys)) (sym (drop_more xs i 0 c.loop-i-test.true))
          (second_pushed _ _ _ _ _ (slice_index_or xs i 0) (slice_index_or ys j 0) c.if-second-j.true
          (subst (λ l. AreMerging (c.args.all.now.items ++ xs) ys c.loop-i.all.items l (slice_index_or ys j 0 ∷ drop (j + 1) ys)) (drop_more xs i 0 c.loop-i-test.true) rest))),
    )

pub loop-i-preserved : goal.loop-i-preserved
loop-i-preserved c =
    let xs = c.args.first.now in
    let ys = c.args.second.now in
    let i = c.loop-i.i in
    let j = c.loop-i.j in
    let rest = subst (λ l. AreMerging (c.args.all.now.items ++ xs) ys c.loop-i.all.items (drop i xs) l) (drop_more ys j 0 c.if-j-second.true)
    (c.loop-i.invariant.2) in (
      c.loop-i.invariant.0,
      omega (arith, c.if-j-second.true),
      subst (λ l. AreMerging (c.args.all.now.items ++ xs) ys c.loop-i.all.items l (drop (j + 1) ys)) (sym (drop_more xs i 0 c.loop-i-test.true))
          (both_passed _ _ _ _ _ (slice_index_or xs i 0) (slice_index_or ys j 0) (omega (arith, c.if-first-i.false, c.if-second-j.false))
          (subst (λ l. AreMerging (c.args.all.now.items ++ xs) ys c.loop-i.all.items l (slice_index_or ys j 0 ∷ drop (j + 1) ys)) (drop_more xs i 0 c.loop-i-test.true) rest)),
    )

pub returns : goal.returns
returns c =
    let xs = c.args.first.now in
    let ys = c.args.second.now in
    let i = c.loop-i.i in
    let j = c.loop-i.j in
    let over : (drop i xs ≡ []) ⊎ (drop j ys ≡ []) =
    elim c.loop-i-test.branch [
      | then-loop-i-test+else-j-second w ↦ inr (drop_all j ys w.if-j-second.false)
      | else-loop-i-test w ↦ inl (drop_all i xs w.loop-i-test.false)
    ] in
    subst (IsRisingUnion (c.args.all.now.items ++ xs) ys)
    (sym (c.in_ok-extend_from_slice-2.ensures.items
    ∙ (ap (λ l. c.extend_from_slice.new.self.items ++ l) (take_rest ys j)
    ∙ ap (λ l. l ++ drop j ys) (c.in_ok-extend_from_slice.ensures.items ∙ ap (λ l. c.loop-i.all.items ++ l) (take_rest xs i)))))
    (merged_whole _ _ _ _ _ over c.loop-i.invariant.2)
