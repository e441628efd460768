use Rattle.fb_blossoms.proofs.names.renamed_step.Goals as goal

pub returns : goal.returns
returns c = cc
