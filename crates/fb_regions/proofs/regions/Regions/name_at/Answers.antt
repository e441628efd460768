use Rattle.std.proofs.Common.{◌<◌, length, arith, ap, sym}
use Rattle.std.proofs.lemmas.List.{length-map}
use Rattle.fb_regions.specs.InternalClock.{all_at, now_at}
use Rattle.fb_regions.specs.InternalNodes.{node_of, nodes_of}
use Rattle.fb_regions.proofs.ClockReadings.{length_at, read_at_time}
use Rattle.fb_regions.proofs.Found.{read_at}
use Rattle.fb_regions.proofs.regions.Regions.name_at.Goals as goal

pub returns : goal.returns
returns g c =
    let clock = c.self.inside.clock in
    let regions = c.self.inside.regions.items in
    let marks = c.self.inside.marks in
    let within : c.args.place < length (nodes_of marks (all_at clock regions)) = rw (← c.self.view_is) at c.requires in
    let less : c.args.place < length (all_at clock regions) = omega (arith, within, length-map (all_at clock regions) (node_of marks)) in
    let own = read_at_time clock regions c.args.place c.index.result.now (omega (arith, less, length_at clock regions)) c.index.ensures in
    rw (← c.self.view_is) (ap (λ n. n.name) (sym (read_at marks (all_at clock regions) c.args.place (now_at clock c.index.result.now) less own)))
