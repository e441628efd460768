use Rattle.std.proofs.Common.{◌≡◌, ◌∙◌, get_or, refl, sym, ap, subst, true, arith}
use Rattle.fb_obstacles.specs.InternalLooks.{HasScanned, fits_within}
use Rattle.fb_obstacles.proofs.BoundedScans.{edge_within, scanned_all, scanned_blocked, scanned_left, scanned_more, scanned_none, scanned_passed}
use Rattle.fb_obstacles.proofs.MinusLooks.{both_minus, look_not_minus}
use Rattle.fb_obstacles.proofs.bounding.scan_edges.Goals as goal

pub loop-at-init : goal.loop-at-init
loop-at-init g c = record {
  scanned = λ names minus. scanned_none _ _ _ names _ c.requires.seen c.len-place.result _ c.len-place.ensures c.keeps.ensures.queued
      c.requires.bounded minus;
  edges = λ h. h;
  nodes = refl;
  never_falls = omega arith;
  counted = omega (arith, c.len-place.ensures);
}

pub loop-at-preserved-then-fits_within : goal.loop-at-preserved-then-fits_within
loop-at-preserved-then-fits_within g c = record {
  scanned = λ names minus.
      scanned_passed _ _ _ names _ c.requires.seen _ _ _ _ _ _ (c.loop-at.invariant.scanned names minus) c.in-Some.ensures.next refl
      c.bound_at.result c.bound_at.ensures (sym c.fits_within.ensures ∙ c.if-fits_within.true);
  edges = c.loop-at.invariant.edges;
  nodes = c.in-Some.ensures.next.same.nodes ∙ c.loop-at.invariant.nodes;
  never_falls = omega (arith, c.loop-at.invariant.never_falls);
  counted = omega (arith, c.loop-at.invariant.counted, c.in-Some.ensures.next.before);
}

pub look_between-requires-clause-below : goal.look_between-requires-clause-below
look_between-requires-clause-below g c =
    edge_within _ _ _ _ _ c.requires.seen _ _ _ _ _ _ (c.loop-at.invariant.scanned c.requires.minus.0 c.requires.minus.1)
    c.in-Some.ensures.next (ap (λ xs. get_or xs c.in-Some.at 0) c.edges.ensures)

pub loop-at-preserved-in_default-look_between : goal.loop-at-preserved-in_default-look_between
loop-at-preserved-in_default-look_between g c = record {
  scanned = λ names minus.
      scanned_left _ _ _ names _ c.requires.seen _ _ _ _ _ _ (c.loop-at.invariant.scanned names minus) c.in-Some.ensures.next
      (ap (λ xs. get_or xs c.in-Some.at 0) c.edges.ensures) c.take_out.new.self c.keeps-in-Some.ensures.distinct
      c.keeps-in-Some.ensures.bounds c.in_default-look_between.ensures.look c.take_out.ensures;
  edges = c.loop-at.invariant.edges;
  nodes = ap (λ w. w.nodes) c.take_out.ensures ∙ (c.in-Some.ensures.next.same.nodes ∙ c.loop-at.invariant.nodes);
  never_falls = omega (arith, c.loop-at.invariant.never_falls);
  counted = omega (arith, c.loop-at.invariant.counted, c.in-Some.ensures.next.before);
}

pub returns-in-Blocked-clause-scanned : goal.returns-in-Blocked-clause-scanned
returns-in-Blocked-clause-scanned g c = λ names minus.
    scanned_blocked _ _ _ names _ c.requires.seen c.with_look-least.new.watch c.in-Some.at c.with_look-least.result
    c.in-Blocked.field-0 c.in-Blocked.is
    (scanned_more _ _ _ names _ c.requires.seen _ _ _ _ _ _ (c.loop-at.invariant.scanned names minus) c.in-Some.ensures.next
    (ap (λ xs. get_or xs c.in-Some.at 0) c.edges.ensures) c.with_look-least.new.watch
    (get_or c.set_bound.new.self.bounds c.in-Some.at 0) c.bound.result c.in-Some-look_between.look c.with_look-least.result
    c.in-Some-look_between.ensures.look.0 c.bound.ensures c.set_bound.ensures.most
    (c.with_look-least.ensures.same ∙ c.set_bound.ensures.rest) c.with_look-least.ensures.both)

pub loop-at-preserved : goal.loop-at-preserved
loop-at-preserved g c = record {
  scanned = λ names minus.
      scanned_more _ _ _ names _ c.requires.seen _ _ _ _ _ _ (c.loop-at.invariant.scanned names minus) c.in-Some.ensures.next
      (ap (λ xs. get_or xs c.in-Some.at 0) c.edges.ensures) c.with_look-least.new.watch
      (get_or c.set_bound.new.self.bounds c.in-Some.at 0) c.bound.result c.in-Some-look_between.look c.with_look-least.result
      c.in-Some-look_between.ensures.look.0 c.bound.ensures c.set_bound.ensures.most
      (c.with_look-least.ensures.same ∙ c.set_bound.ensures.rest) c.with_look-least.ensures.both;
  edges = λ h.
      c.loop-at.invariant.edges
      (both_minus c.loop-at.least c.in-Some-look_between.look c.with_look-least.result c.with_look-least.ensures.both
      (look_not_minus (g.S.Scope.problem c.args.scope.now) (g.R.Roles.role_of c.args.roles.now) c.args.regions.now.nodes
      (get_or c.edges.result.now c.in-Some.at 0) c.in-Some-look_between.look c.in-Some-look_between.ensures.look.0) h);
  nodes = ap (λ w. w.nodes) (c.with_look-least.ensures.same ∙ c.set_bound.ensures.rest)
      ∙ (c.in-Some.ensures.next.same.nodes ∙ c.loop-at.invariant.nodes);
  never_falls = omega (arith, c.loop-at.invariant.never_falls);
  counted = omega (arith, c.loop-at.invariant.counted, c.in-Some.ensures.next.before);
}

pub returns-clause-scanned : goal.returns-clause-scanned
returns-clause-scanned g c = λ names minus.
    subst (λ w. HasScanned (g.S.Scope.problem c.args.scope.now) (g.R.Roles.role_of c.args.roles.now) c.args.regions.now.nodes
    names c.args.watch.now w c.loop-at.least)
    (sym c.in_default.ensures.unchanged)
    (scanned_all _ _ _ names _ c.requires.seen _ _ _ (c.loop-at.invariant.scanned names minus)
    (λ i less.
    subst (λ w. fits_within c.loop-at.least (get_or w.bounds i 0) ≡ true) c.in_default.ensures.unchanged
    (c.in_default.ensures.rest i less)))

pub next_place-requires-clause-queued : goal.next_place-requires-clause-queued
next_place-requires-clause-queued g c = (c.loop-at.invariant.scanned c.requires.minus.0 c.requires.minus.1).queued

pub next_place-requires-clause-within : goal.next_place-requires-clause-within
next_place-requires-clause-within g c = (c.loop-at.invariant.scanned c.requires.minus.0 c.requires.minus.1).within

pub returns-in-Blocked-clause-nodes : goal.returns-in-Blocked-clause-nodes
returns-in-Blocked-clause-nodes g c =
    ap (λ w. w.nodes) (c.with_look-least.ensures.same ∙ c.set_bound.ensures.rest)
    ∙ (c.in-Some.ensures.next.same.nodes ∙ c.loop-at.invariant.nodes)

pub returns-clause-nodes : goal.returns-clause-nodes
returns-clause-nodes g c = ap (λ w. w.nodes) c.in_default.ensures.unchanged ∙ c.loop-at.invariant.nodes

pub returns-in-Blocked-clause-edges : goal.returns-in-Blocked-clause-edges
returns-in-Blocked-clause-edges g c =
    λ h.
    c.loop-at.invariant.edges
    (both_minus c.loop-at.least c.in-Some-look_between.look c.with_look-least.result c.with_look-least.ensures.both
    (look_not_minus (g.S.Scope.problem c.args.scope.now) (g.R.Roles.role_of c.args.roles.now) c.args.regions.now.nodes
    (get_or c.edges.result.now c.in-Some.at 0) c.in-Some-look_between.look c.in-Some-look_between.ensures.look.0) h)

pub returns-clause-edges : goal.returns-clause-edges
returns-clause-edges g c = c.loop-at.invariant.edges
