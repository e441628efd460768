use Rattle.fb_shots_stim.proofs.PlaceLemmas.{place_end, place_end_stop}
use Rattle.fb_shots_stim.proofs.parts.take_last.Goals as goal

pub returns-clause-nothing : goal.returns-clause-nothing
returns-clause-nothing g c =
    let p = c.args.place in
    let last = c.end.ensures in
    (place_end g.P.LineParts.rules c.args.so_far.now c.args.rest.now p.line p.part p.seen c.end.result c.requires.at c.requires.all c.requires.some (rw c.without_return.ensures at last.ok) last.shot).0

pub returns-clause-shot : goal.returns-clause-shot
returns-clause-shot g c =
    let p = c.args.place in
    let last = c.end.ensures in
    (place_end g.P.LineParts.rules c.args.so_far.now c.args.rest.now p.line p.part p.seen c.end.result c.requires.at c.requires.all c.requires.some (rw c.without_return.ensures at last.ok) last.shot).1

pub returns-clause-refused : goal.returns-clause-refused
returns-clause-refused g c =
    let p = c.args.place in
    place_end_stop g.P.LineParts.rules c.args.so_far.now c.args.rest.now p.line p.part p.seen c.end.result c.requires.at c.requires.all c.requires.some (rw c.without_return.ensures at c.end.ensures.refused)
