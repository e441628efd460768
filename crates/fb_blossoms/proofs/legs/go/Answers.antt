use Rattle.fb_blossoms.proofs.Turns.{goes_over, on_ok}
use Rattle.fb_blossoms.proofs.legs.go.Goals as goal

pub returns-in-Over : goal.returns-in-Over
returns-in-Over c =
    rw c.in-Over.is
    (on_ok _ _ c.push_link.result (goes_over c.args.nest.now.links.now c.args.nest.now.blossoms.now c.args.todo.now.items c.in-Over.link c.args.path.now.items c.push_link.new.path.items) c.push_link.ensures)
