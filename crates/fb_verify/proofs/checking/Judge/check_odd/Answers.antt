use Rattle.fb_verify.proofs.checking.Judge.check_odd.Goals as goal

pub returns-clause-verdict : goal.returns-clause-verdict
returns-clause-verdict c = rw (← c.self.view_is) c.compare_odd.ensures
