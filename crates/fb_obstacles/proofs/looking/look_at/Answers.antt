use Rattle.fb_obstacles.proofs.looking.look_at.Goals as goal

pub returns-in-Plus : goal.returns-in-Plus
returns-in-Plus c = rw (c.in-Plus.is) c.bounded_look.ensures
