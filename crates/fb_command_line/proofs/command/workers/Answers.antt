use Rattle.fb_command_line.proofs.command.workers.Goals as goal

pub returns : goal.returns
returns c = rw (c.new.ensures.start, c.new.ensures.end) at c.number.ensures
