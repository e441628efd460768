use Rattle.std.proofs.Common.{◌<◌, subst, sym}
use Rattle.fb_search.specs.InternalGrowing.{GrowingValue}
use Rattle.fb_search.specs.InternalGrowth.{HasGrownOn}
use Rattle.fb_search.specs.InternalGrowthRuns.{HasGrownFrom, growth_rank}
use Rattle.fb_search.proofs.GrowthRuns.{growth_falls, grown_none, grows_from}
use Rattle.fb_search.proofs.growing_all.grow_through.Goals.{in-Absorb, in-LayerEmpty, in-Boundary+in_ok-growing-in-Boundary, in-Meet+in_ok-growing-in-Meet, in-PlusPair+in_ok-growing-in-PlusPair, in-BlossomEmpty+in_ok-growing-in-BlossomEmpty, in-ZeroMinus+in_ok-growing-in-ZeroMinus}
use Rattle.fb_search.proofs.growing_all.grow_through.Goals as goal

pub loop-alloc-init : goal.loop-alloc-init
loop-alloc-init g c = grown_none c.args.growing

pub loop-alloc-smaller : goal.loop-alloc-smaller
loop-alloc-smaller g c =
    let before : GrowingValue = c.make_room.new.self in
    let after : GrowingValue = c.match-next_event.growing in
    let goes : HasGrownOn before after =
    elim c.match-next_event.branch [
      | in-Absorb w ↦ subst (HasGrownOn before) (sym w.growing-is) (c.next_event.ensures.grown w.absorb.new.self w.absorb.ensures)
      | in-LayerEmpty w ↦ subst (HasGrownOn before) (sym w.growing-is) (c.next_event.ensures.grown w.uncover.new.self w.uncover.ensures)
      | in-Boundary+in_ok-growing-in-Boundary w ↦ subst (HasGrownOn before) (sym w.growing-is) (c.next_event.ensures.grown w.in_ok-growing-in-Boundary.growing w.in_ok-growing-in-Boundary.ensures)
      | in-Meet+in_ok-growing-in-Meet w ↦ subst (HasGrownOn before) (sym w.growing-is) (c.next_event.ensures.grown w.in_ok-growing-in-Meet.growing w.in_ok-growing-in-Meet.ensures)
      | in-PlusPair+in_ok-growing-in-PlusPair w ↦ subst (HasGrownOn before) (sym w.growing-is) (c.next_event.ensures.grown w.in_ok-growing-in-PlusPair.growing w.in_ok-growing-in-PlusPair.ensures)
      | in-BlossomEmpty+in_ok-growing-in-BlossomEmpty w ↦ subst (HasGrownOn before) (sym w.growing-is) (c.next_event.ensures.grown w.in_ok-growing-in-BlossomEmpty.growing w.in_ok-growing-in-BlossomEmpty.ensures)
      | in-ZeroMinus+in_ok-growing-in-ZeroMinus w ↦ subst (HasGrownOn before) (sym w.growing-is) (c.next_event.ensures.grown w.in_ok-growing-in-ZeroMinus.growing w.in_ok-growing-in-ZeroMinus.ensures)
    ] in
    subst (λ w. growth_rank after < growth_rank w) c.make_room.ensures (growth_falls before after c.keeps-in-loop-alloc.ensures goes)

pub loop-alloc-preserved : goal.loop-alloc-preserved
loop-alloc-preserved g c =
    let before : GrowingValue = c.make_room.new.self in
    let after : GrowingValue = c.match-next_event.growing in
    let goes : HasGrownOn before after =
    elim c.match-next_event.branch [
      | in-Absorb w ↦ subst (HasGrownOn before) (sym w.growing-is) (c.next_event.ensures.grown w.absorb.new.self w.absorb.ensures)
      | in-LayerEmpty w ↦ subst (HasGrownOn before) (sym w.growing-is) (c.next_event.ensures.grown w.uncover.new.self w.uncover.ensures)
      | in-Boundary+in_ok-growing-in-Boundary w ↦ subst (HasGrownOn before) (sym w.growing-is) (c.next_event.ensures.grown w.in_ok-growing-in-Boundary.growing w.in_ok-growing-in-Boundary.ensures)
      | in-Meet+in_ok-growing-in-Meet w ↦ subst (HasGrownOn before) (sym w.growing-is) (c.next_event.ensures.grown w.in_ok-growing-in-Meet.growing w.in_ok-growing-in-Meet.ensures)
      | in-PlusPair+in_ok-growing-in-PlusPair w ↦ subst (HasGrownOn before) (sym w.growing-is) (c.next_event.ensures.grown w.in_ok-growing-in-PlusPair.growing w.in_ok-growing-in-PlusPair.ensures)
      | in-BlossomEmpty+in_ok-growing-in-BlossomEmpty w ↦ subst (HasGrownOn before) (sym w.growing-is) (c.next_event.ensures.grown w.in_ok-growing-in-BlossomEmpty.growing w.in_ok-growing-in-BlossomEmpty.ensures)
      | in-ZeroMinus+in_ok-growing-in-ZeroMinus w ↦ subst (HasGrownOn before) (sym w.growing-is) (c.next_event.ensures.grown w.in_ok-growing-in-ZeroMinus.growing w.in_ok-growing-in-ZeroMinus.ensures)
    ] in
    let was : HasGrownFrom c.args.growing before = subst (HasGrownFrom c.args.growing) (sym c.make_room.ensures) c.loop-alloc.invariant in
    grows_from c.args.growing before after was c.keeps.ensures c.keeps-in-loop-alloc.ensures goes
