use Rattle.std.proofs.Common.{◌≡◌, [], ◌∷◌, ◌++◌, length, ap, sym, subst, ◌∙◌, arith}
use Rattle.fb_links.specs.InternalKept.{IsEntry, walk_in, walks_in}
use Rattle.std.specs.Prelude.{option_map}
use Rattle.std.proofs.lemmas.List.{length-map}
use Rattle.fb_links.specs.Merged.{AreMerged}
use Rattle.fb_links.proofs.MovedLinks.{entries_taken, merging_ends, merging_after_none, merging_after_some, merged_reversed}
use Rattle.fb_links.proofs.links.Links.merged_with_spare.Goals as goal

pub put-requires : goal.put-requires
put-requires c =
    let taken = entries_taken _ _ _ _ c.loop-entry.invariant.0 c.in-Some.ensures.items in
    let kept = subst (IsEntry c.loop-entry.spare-inside.steps.items) c.in-Some-entry.is taken.1 in
    rw (c.of.ensures, c.deref.ensures.value) kept.link

pub loop-entry-preserved-in-Some-entry : goal.loop-entry-preserved-in-Some-entry
loop-entry-preserved-in-Some-entry c =
    let at : c.len.result ≡ length c.pop.new.self.items = omega (arith, c.pop.new.self.ok.0) in (
      (entries_taken _ _ _ _ c.loop-entry.invariant.0 c.in-Some.ensures.items).0,
      merging_after_some _ _ _ _ _ _ _ _ _ _ _ _ _ _ c.loop-entry.invariant.1 c.in-Some.ensures.items
          c.in-Some-entry.is at (rw c.deref.ensures.value at c.of.ensures) c.in_ok-new.ensures.ok
          (c.push_reserved.ensures.items ∙ ap (λ l. l ++ (c.len.result, c.in_ok-new.new) ∷ []) c.reserve.ensures.items),
    )

pub loop-entry-preserved : goal.loop-entry-preserved
loop-entry-preserved c = (
  (entries_taken _ _ _ _ c.loop-entry.invariant.0 c.in-Some.ensures.items).0,
  merging_after_none _ _ _ _ _ _ _ _ c.loop-entry.invariant.1 c.in-Some.ensures.items c.in_default-entry.is,
)

pub returns-clause-merged : goal.returns-clause-merged
returns-clause-merged c =
    let none : length (walks_in c.loop-entry.spare-inside.steps.items c.loop-entry.spare-inside.spans.items) ≡ 0 =
    omega (arith, c.loop-entry.spare-inside.spans.ok.0, c.in_default.ensures.cases.0, length-map c.loop-entry.spare-inside.spans.items (option_map (walk_in c.loop-entry.spare-inside.steps.items))) in
    subst (λ l. AreMerged c.args.left c.args.right l c.loop-entry.links) (sym c.reverse.ensures.items)
    (merged_reversed _ _ _ _ (merging_ends _ _ _ _ _ none c.loop-entry.invariant.1))
