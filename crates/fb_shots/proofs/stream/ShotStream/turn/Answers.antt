use Rattle.std.proofs.Common.{Ok, ap, sym, ◌∙◌}
use Rattle.fb_shots.proofs.Turns.{decided_faults, decided_turn, read_faults, read_turn, stopped_turn}
use Rattle.fb_shots.proofs.stream.ShotStream.turn.Goals as goal

pub returns-in-Some-clause-step : goal.returns-in-Some-clause-step
returns-in-Some-clause-step g c =
    stopped_turn _ c.self.inside.reader c.self.inside.piece c.self.inside.untaken c.self.inside.tally c.in-Some.kind _ _
    c.self.view_is c.in-Some.is c.refusal.ensures

pub returns-in-Some-step_after-clause-step : goal.returns-in-Some-step_after-clause-step
returns-in-Some-step_after-clause-step g c =
    decided_turn _ c.self.inside.reader c.ask.new.reader c.self.inside.piece c.ask.new.piece c.self.inside.untaken c.self.inside.tally _
    c.in_ok-answer.answer _ _
    (record { view = c.self.view_is; runs = c.in_default.is; empty = c.in_ok-answer.ensures.fed; answers = c.in_ok-answer.ensures.meaning })
    c.step_after.ensures.counts (sym c.step_after.ensures.step ∙ c.in-Some-step_after.is)

pub returns-in-Some-step_after-clause-faults : goal.returns-in-Some-step_after-clause-faults
returns-in-Some-step_after-clause-faults g c =
    decided_faults c.self.inside.tally c.in_ok-answer.answer _ _ (sym c.step_after.ensures.step ∙ c.in-Some-step_after.is)

pub returns-clause-step : goal.returns-clause-step
returns-clause-step g c =
    rw c.step_after_read.ensures.step
    (read_turn _ c.self.inside.reader c.ask.new.reader c.read_on-read.new.reader c.self.inside.piece c.ask.new.piece c.read_on-read.new.piece
    c.self.inside.untaken c.read_on-read.new.untaken c.self.inside.tally c.step_after.new.self _ c.in_ok-answer.answer _ _ c.read_on-read.result
    (record { view = c.self.view_is; runs = c.in_default.is; empty = c.in_ok-answer.ensures.fed; answers = c.in_ok-answer.ensures.meaning })
    c.step_after.ensures.counts (sym c.step_after.ensures.step ∙ c.in_default-step_after.is) c.read_on-read.ensures.reads c.step_after_read.ensures.counts)

pub returns-clause-faults : goal.returns-clause-faults
returns-clause-faults g c =
    read_faults c.step_after.new.self c.read_on-read.result _ _ _ (ap Ok c.step_after_read.ensures.step) c.read_on-read.ensures.faults
