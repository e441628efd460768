use Rattle.fb_run.proofs.Decoded.{none_decoded}
use Rattle.fb_request.specs.PlainRequests.{plain_decoding}
use Rattle.fb_run.proofs.batches.decode_file.Goals as goal

pub returns-in_default-clause-first : goal.returns-in_default-clause-first
returns-in_default-clause-first g c =
    none_decoded _ (plain_decoding c.args.request.now) c.args.crew.now.plan (g.F.Files.left c.args.files.now) c.args.request.now.format c.args.graph.now
    (g.O.Sink.taken c.args.out.now)

pub returns-clause-all : goal.returns-clause-all
returns-clause-all g c = rw c.in-Ok.ensures.fresh at c.decode_stream.ensures.all

pub returns-clause-first : goal.returns-clause-first
returns-clause-first g c = rw c.in-Ok.ensures.fresh at c.decode_stream.ensures.first
