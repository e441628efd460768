use Rattle.std.proofs.Common.{refl}
use Rattle.std.proofs.KnownBytes.{Appends-nil}
use Rattle.fb_files.specs.Moments.{moment}
use Rattle.fb_exits.specs.declared.ending.Refusal.TheVariants as refusal
use Rattle.fb_exits.proofs.AtFiles.{counted_at_file, ends_at_file, not_by_writing, not_to_the_end}
use Rattle.fb_exits.proofs.file_causes.graph_or_cause.Goals as goal

pub returns-in-Err-clause-ends : goal.returns-in-Err-clause-ends
returns-in-Err-clause-ends g c written = rw c.cause_of_graph.ensures (ends_at_file refusal.Graph _ _
    (moment (g.F.Files.named c.args.files.now) (g.F.Files.left c.args.files.now) (g.F.Files.asked c.args.files.now)
    (g.F.Files.faults c.args.files.now) written)
    (moment (g.F.Files.named c.read_graph_file.new.files) (g.F.Files.left c.read_graph_file.new.files) (g.F.Files.asked c.read_graph_file.new.files)
    (g.F.Files.faults c.read_graph_file.new.files) written)
    _ c.in-Err.fault refl c.in-Err.ensures.refused c.in-Err.ensures.asks c.in-Err.ensures.asked c.in-Err.ensures.faults (Appends-nil _))

pub returns-in-Err-clause-early : goal.returns-in-Err-clause-early
returns-in-Err-clause-early g c reads = not_to_the_end refusal.Graph c.in-Err.fault (rw c.cause_of_graph.ensures at reads)

pub returns-in-Err-clause-reads : goal.returns-in-Err-clause-reads
returns-in-Err-clause-reads g c =
    rw c.cause_of_graph.ensures (counted_at_file refusal.Graph _ _ _ c.in-Err.fault refl c.in-Err.ensures.faults c.in-Err.ensures.reported)

pub returns-in-Err-clause-unwritten : goal.returns-in-Err-clause-unwritten
returns-in-Err-clause-unwritten g c is = not_by_writing refusal.Graph c.in-Err.fault (rw c.cause_of_graph.ensures at is)
