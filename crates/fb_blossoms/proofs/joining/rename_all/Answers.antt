use Rattle.fb_blossoms.proofs.Renamings.{renamed_next}
use Rattle.fb_blossoms.proofs.joining.rename_all.Goals as goal

pub loop-k-preserved : goal.loop-k-preserved
loop-k-preserved c = λ x. renamed_next _ _ c.args.pairs.now c.loop-k.k x _ _ _ c.loop-k-test.true c.requires (c.loop-k.invariant x) (c.in_ok-rename_one.ensures x)
