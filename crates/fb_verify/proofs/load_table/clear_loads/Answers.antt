use Rattle.std.proofs.Common.{◌≡◌, ◌≤◌, ◌∙◌, length, ap, sym, arith}
use Rattle.std.proofs.lemmas.List.{drop_all, ext_get_or, get_or-replicate}
use Rattle.std.proofs.Math.ListN.{length-replicate}
use Rattle.fb_verify.specs.InternalLoads.{load_in}
use Rattle.fb_verify.proofs.load_table.clear_loads.Goals as goal

pub returns : goal.returns
returns c =
    let n = length c.args.loads.now in
    let l = c.loop-share in
    let same : length l.loads ≡ n = omega arith in
    let end : length c.args.shares.now ≤ l.share-index = omega arith in
    ext_get_or 0 l.loads _ (same ∙ sym (length-replicate n 0))
    (λ k less. l.invariant k less (ap (λ xs. load_in xs k) (drop_all l.share-index c.args.shares.now end)) ∙ sym (get_or-replicate n k 0 0 (omega (arith, less, same))))
