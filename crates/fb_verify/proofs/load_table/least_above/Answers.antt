use Rattle.std.proofs.Common.{ℕ, ◌<◌, ◌∙◌, [], ◌∷◌, ◌++◌, Some, get_or, take, sym, ap, subst, take_all, arith}
use Rattle.std.proofs.lemmas.List.{take_more}
use Rattle.fb_graph.specs.Problem.{edge_at}
use Rattle.fb_graph.specs.ShotGraphs.{shot_graph}
use Rattle.fb_verify.specs.InternalLoads.{IsLeastOver}
use Rattle.fb_verify.specs.declared.shares.Share.{Share}
use Rattle.fb_verify.proofs.LoadTables.{least_over_kept, least_over_more}
use Rattle.fb_verify.proofs.load_table.least_above.Goals as goal
use Rattle.fb_verify.proofs.load_table.least_above.Goals.{then-loads-edge, else-loads-edge}

pub loop-share-preserved : goal.loop-share-preserved
loop-share-preserved c =
    let weight : ℕ → ℕ = λ k. (edge_at (shot_graph c.args.graph.now c.args.shot.now).edges k).weight in
    let total : ℕ → ℕ = λ k. get_or c.args.loads.now k 0 in
    let shares = c.args.shares.now in
    let l = c.loop-share in
    let none : Share = record { edge = 0; value = 0 } in
    let s = get_or shares l.share-index none in
    let before = take l.share-index shares in
    let more = take_more shares l.share-index none c.loop-share-test.true in
    elim c.if-loads-edge.branch [
      | then-loads-edge w ↦
          let over : weight s.edge < total s.edge = omega (arith, w.if-loads-edge.true, c.from.ensures, c.absolute_weight.ensures) in
          subst (λ xs. IsLeastOver weight total xs c.if-loads-edge.least) (sym more)
          (subst (IsLeastOver weight total (before ++ s ∷ [])) (sym (w.least-is ∙ ap Some w.lesser.ensures))
          (least_over_more weight total before s l.least l.invariant over))
      | else-loads-edge w ↦
          subst (λ xs. IsLeastOver weight total xs c.if-loads-edge.least) (sym more)
          (subst (IsLeastOver weight total (before ++ s ∷ [])) (sym w.least-is)
          (least_over_kept weight total before s l.least l.invariant (omega (arith, w.if-loads-edge.false, c.from.ensures, c.absolute_weight.ensures))))
    ]

pub returns : goal.returns
returns c =
    let weight : ℕ → ℕ = λ k. (edge_at (shot_graph c.args.graph.now c.args.shot.now).edges k).weight in
    let l = c.loop-share in
    subst (λ xs. IsLeastOver weight (λ k. get_or c.args.loads.now k 0) xs l.least) (take_all l.share-index c.args.shares.now c.loop-share-test.false) l.invariant
