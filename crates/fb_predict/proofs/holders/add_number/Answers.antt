use Rattle.std.proofs.Common.{ℕ, ◌≡◌, ◌<◌, List, [], ◌∷◌, ◌++◌, length, get_or, ◌∙◌, sym, ap, subst, length-set}
use Rattle.std.proofs.lemmas.List.{get_or_default}
use Rattle.fb_predict.proofs.Flips.{adds_more, numbers_more}
use Rattle.fb_predict.proofs.holders.add_number.Goals as goal

pub loop-edge-preserved : goal.loop-edge-preserved
loop-edge-preserved c =
    let at = c.loop-edge in
    let hs = at.holders.items in
    let list = c.args.list.now in
    let place : ℕ = get_or list at.edge-index 0 in
    let within : place < length hs = subst (λ (m : ℕ). place < m) (sym at.invariant.size) (c.requires.below at.edge-index 0 c.loop-edge-test.true) in
    let pushed : c.push.new.self ≡ get_or hs place [] ++ c.args.number ∷ [] =
    c.in_ok-push.ensures.ok ∙ ap (λ (l : List ℕ). l ++ c.args.number ∷ []) (c.index_mut.ensures.value ∙ get_or_default hs place c.index_mut.result.now [] within) in
    rw pushed (record {
      size = length-set _ _ _ ∙ at.invariant.size;
      each = adds_more c.args.holders.now.items hs list at.edge-index 0 c.args.number c.loop-edge-test.true within at.invariant.each;
      numbers = numbers_more hs place c.args.number within c.requires.number at.invariant.numbers;
    })
