use Rattle.fb_request.specs.declared.coding.Coding.TheVariants.{B8, Hits, R8, Text01}
use Rattle.fb_shots_stim.specs.BlocksB8.{records_b8}
use Rattle.fb_shots_stim.specs.RunsR8.{records_r8}
use Rattle.fb_shots_stim.specs.Text01.{records_01}
use Rattle.fb_shots_stim.specs.TextHits.{records_hits}
use Rattle.fb_shots_stim.proofs.ReadBack.{reads_back_01, reads_back_b8, reads_back_r8}
use Rattle.fb_shots_stim.proofs.ReadBackHits.{reads_back_hits}
use Rattle.fb_predicting.proofs.ReadsBack.{read_back}
use Rattle.fb_predicting.proofs.laws.predictions_read_back.Goals as goal

pub returns-clause-text_01 : goal.returns-clause-text_01
returns-clause-text_01 c = read_back records_01 Text01 reads_back_01

pub returns-clause-b8 : goal.returns-clause-b8
returns-clause-b8 c = read_back records_b8 B8 reads_back_b8

pub returns-clause-hits : goal.returns-clause-hits
returns-clause-hits c = read_back records_hits Hits reads_back_hits

pub returns-clause-r8 : goal.returns-clause-r8
returns-clause-r8 c = read_back records_r8 R8 reads_back_r8
