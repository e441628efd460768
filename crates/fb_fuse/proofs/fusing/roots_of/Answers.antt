use Rattle.std.proofs.Common.{◌≡◌, ◌∙◌, ◌++◌, ◌∷◌, [], List, ℕ, get_or, length, map, ap, sym, subst, arith}
use Rattle.std.specs.List.Sorted.{IsPermutation}
use Rattle.std.proofs.lemmas.List.{map_more, take_all}
use Rattle.std.proofs.lemmas.List.Sorted.{IsPermutation-map}
use Rattle.fb_fuse.specs.declared.fusing.Root.{Root}
use Rattle.fb_fuse.proofs.fusing.roots_of.Goals as goal

pub returns : goal.returns
returns c =
    let node : Root → ℕ = λ r. r.node in
    let unmatched : List ℕ = c.args.work.now.matching.unmatched in
    let sorted : List Root = c.sort_unstable_by_key.new.self.items in
    let from : map node c.loop-node.found.items ≡ unmatched =
    c.loop-node.invariant
    ∙ take_all c.loop-node.node-index unmatched (omega (arith, c.loop-node-test.false, ap length c.unmatched-node-items.ensures)) in
    let to : c.loop-root.roots.items ≡ map node sorted =
    c.loop-root.invariant
    ∙ ap (map node) (take_all c.loop-root.root-index _ c.loop-root-test.false ∙ c.deref-root-items.ensures.value) in
    subst (IsPermutation unmatched) (sym to)
    (subst (λ xs. IsPermutation xs (map node sorted)) from
    (IsPermutation-map node c.loop-node.found.items sorted c.sort_unstable_by_key.ensures.permutation))

pub loop-root-preserved : goal.loop-root-preserved
loop-root-preserved c =
    let none : Root = record { node = 0; vertex = 0 } in
    let sorted : List Root = c.deref-root-items.result.now in
    c.in_ok-push-2.ensures.items
    ∙ (ap (λ l. l ++ (get_or sorted c.loop-root.root-index none).node ∷ []) c.loop-root.invariant
    ∙ sym (map_more (λ (r : Root). r.node) sorted c.loop-root.root-index none c.loop-root-test.true))
