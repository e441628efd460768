use Rattle.std.proofs.Common.{ap, ◌∙◌, rules}
use Rattle.std.proofs.lemmas.List.Sorted.{IsNonDecreasingBy-from_sort_by_key, answers_always}
use Rattle.fb_links.specs.Names.{name_by}
use Rattle.fb_links.proofs.SortedNames.{name_by-stable}
use Rattle.fb_links.proofs.names.names_of.Goals as goal

pub invariant_of-result : goal.invariant_of-result
invariant_of-result c =
    IsNonDecreasingBy-from_sort_by_key (λ p. p.0) _ c.in_ok-sort_by_key.ensures.sorted (λ a r q k. search rules)

pub returns : goal.returns
returns c = λ a.
    name_by-stable _ _ (c.in_ok-sort_by_key.ensures.stable (λ p. p.0) (answers_always _ _ _ (λ f a r g h. search rules))) a
    ∙ ap (λ l. name_by l a) (c.in_ok-pairs.ensures.items_if_clones_equal (λ x y h i. (h.0 i, h.1 i)))
