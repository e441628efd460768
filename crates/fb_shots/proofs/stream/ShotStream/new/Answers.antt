use Rattle.std.proofs.Common.{refl}
use Rattle.fb_shots.proofs.Turns.{new_gives}
use Rattle.fb_shots.proofs.stream.ShotStream.new.Goals as goal

pub returns-clause-whole : goal.returns-clause-whole
returns-clause-whole c = λ bytes. new_gives c.new-2.result _ c.in_ok-piece.piece c.args.limit bytes c.new-2.ensures refl refl c.in_ok-piece.ensures
