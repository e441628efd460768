use Rattle.fb_desk.proofs.locked.Locked.post.Goals as goal

pub returns-clause-refused : goal.returns-clause-refused
returns-clause-refused g c = λ is. cc
