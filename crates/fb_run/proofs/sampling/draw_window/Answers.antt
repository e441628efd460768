use Rattle.std.proofs.Common.{rules, ℕ, List, [], ◌∷◌, ◌++◌, length, sym, ap, ◌∙◌}
use Rattle.fb_gen.specs.Drawing.{hits_of, shot_from, state_after}
use Rattle.std.proofs.lemmas.List.Elements.{All-push}
use Rattle.fb_graph.specs.Limits.{IsShot, ShotValue}
use Rattle.fb_run.specs.Samples.{drawn_shots}
use Rattle.fb_run.proofs.Sampled.{drawn_shots-next, state_of_next}
use Rattle.fb_run.proofs.sampling.draw_window.Goals as goal

pub loop-preserved : goal.loop-preserved
loop-preserved c =
    let g = c.args.graph.now in
    let rate = c.args.rate in
    let x = c.args.draws.now in
    let n = c.loop.counter in
    let edges = length g.edges in record {
      shots = c.in_ok-push.ensures.items
          ∙ ap (λ (shots : List ShotValue). shots ++ c.in_ok-draw.field-0 ∷ []) c.loop.invariant.shots
          ∙ ap (λ (shot : ShotValue). drawn_shots g rate x n ++ shot ∷ []) (c.in_ok-draw.ensures.defects
          ∙ ap (λ (y : ℕ). shot_from g (hits_of y rate edges)) c.loop.invariant.state)
          ∙ sym (drawn_shots-next g rate x n);
      each = rw c.in_ok-push.ensures.items (All-push (IsShot g) c.loop.shots.items c.in_ok-draw.field-0 c.loop.invariant.each c.in_ok-draw.ensures.shot);
      many = search rules;
      state = c.in_ok-draw.ensures.state ∙ ap (λ (y : ℕ). state_after y edges) c.loop.invariant.state ∙ state_of_next x edges n;
    }
