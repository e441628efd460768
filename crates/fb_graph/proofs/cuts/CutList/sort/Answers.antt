use Rattle.std.proofs.lemmas.Cmp.{nat_list_cmp_total}
use Rattle.std.proofs.lemmas.List.Sorted.{IsPermutation-map, ranks_by}
use Rattle.std.proofs.lemmas.Fn.{always_returns_same}
use Rattle.std.proofs.Common.{map, rules, subst}
use Rattle.std.specs.List.Sorted.{IsSortedBy}
use Rattle.fb_graph.specs.InternalCutEntries.{cut_in, is_cut_below}
use Rattle.fb_graph.proofs.CutEntries.{HaveRanges-permutation, IsSortedBy-map, no_entry}
use Rattle.fb_graph.proofs.cuts.CutList.sort.Goals as goal

pub invariant_of-self : goal.invariant_of-self
invariant_of-self c =
    HaveRanges-permutation _ _ _ c.sort_unstable_by.ensures.permutation c.self.invariant

pub returns-clause-moved : goal.returns-clause-moved
returns-clause-moved c =
    rw (← c.self.view_is)
    (IsPermutation-map (cut_in c.self.inside.vertices.items) _ _ c.sort_unstable_by.ensures.permutation)

pub returns-clause-sorted : goal.returns-clause-sorted
returns-clause-sorted c =
    let vertices = c.as_slice-vertices.result.now in
    let sorted = c.sort_unstable_by.new.self.items in
    subst (λ l. IsSortedBy is_cut_below (map (cut_in l) sorted)) c.as_slice-vertices.ensures.value
    (IsSortedBy-map (cut_in vertices) is_cut_below sorted no_entry
    (c.sort_unstable_by.ensures.sorted (λ d e. is_cut_below (cut_in vertices d) (cut_in vertices e))
    (ranks_by nat_list_cmp_total (λ d. (cut_in vertices d).vertices))
    (always_returns_same _ _ _ (λ a r g h. (search rules, search rules)))))
