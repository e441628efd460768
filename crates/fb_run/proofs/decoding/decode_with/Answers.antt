use Rattle.std.proofs.Common.{ℕ, [], inl, inr, refl, sym, subst, append-nil}
use Rattle.fb_report.specs.Texts.{head_text}
use Rattle.fb_exits.specs.Ends.{CountsReadFault}
use Rattle.fb_request.specs.PlainRequests.{plain_decoding}
use Rattle.fb_files.specs.Moments.{moment}
use Rattle.fb_files.proofs.Inputs.{asks_kept, asks_one, asks_same}
use Rattle.fb_files.proofs.Gathered.{is_opened, is_unopened, read_out_opened}
use Rattle.fb_run.proofs.Finishing.{ends_on, prefix_of_batches, report_counted, report_to_end}
use Rattle.fb_files.specs.InternalGathers.{IsOpened}
use Rattle.fb_run.proofs.decoding.decode_with.Goals as goal
use Rattle.fb_run.proofs.decoding.decode_with.Goals.{In-Ok-open_file}

pub returns-in_default-clause-ends : goal.returns-in_default-clause-ends
returns-in_default-clause-ends g c =
    inl (record { asks = asks_same _ _ refl; unfailing = refl; written = c.in_default.ensures.prefix; ends = inl refl })

pub returns-in_default-from_str-clause-ends : goal.returns-in_default-from_str-clause-ends
returns-in_default-from_str-clause-ends g c =
    inl (record {
      asks = asks_same _ _ refl;
      unfailing = refl;
      written = (head_text, [], sym (append-nil head_text), c.in-Ok.ensures.all);
      ends = inr refl;
    })

pub returns-in_default-open_file-clause-ends : goal.returns-in_default-open_file-clause-ends
returns-in_default-open_file-clause-ends g c =
    inr (
      asks_one (g.F.Files.asked c.args.files.now) (g.F.Files.asked c.open_file.new.self) c.args.request.now.shots.now (rw c.in-Ok-from_str.ensures.ok at c.open_file.ensures.asks),
      inl (
        is_unopened (g.F.Files.named c.args.files.now) c.args.request.now.shots.now (g.F.Files.left c.open_file.new.self) _ refl
            (rw c.in-Ok-from_str.ensures.ok at c.in_default-open_file.ensures.opens),
        c.in-Ok.ensures.all,
      ),
    )

-- the file of the shots is open
opened_at : (g : _) (c : In-Ok-open_file g) → IsOpened (g.F.Files.named c.args.files.now) c.args.request.now.shots.now (g.F.Files.left c.open_file.new.self)
opened_at g c = is_opened (g.F.Files.named c.args.files.now) c.args.request.now.shots.now (g.F.Files.left c.open_file.new.self) _ refl
    (rw c.in-Ok-from_str.ensures.ok at c.in-Ok-open_file.ensures.opens)

pub returns-in-Ok-decode_file-clause-ends : goal.returns-in-Ok-decode_file-clause-ends
returns-in-Ok-decode_file-clause-ends g c =
    inr (
      asks_kept (g.F.Files.asked c.args.files.now) (g.F.Files.asked c.open_file.new.self) (g.F.Files.asked c.decode_file.new.files) c.args.request.now.shots.now
          (rw c.in-Ok-from_str.ensures.ok at c.open_file.ensures.asks) c.decode_file.ensures.asks,
      ends_on (plain_decoding c.args.request.now) c.args.graph.now c.args.plan.now
          (moment (g.F.Files.named c.args.files.now) (g.F.Files.left c.args.files.now) (g.F.Files.asked c.args.files.now)
          (g.F.Files.faults c.args.files.now) (g.O.Sink.taken c.args.out.now))
          (moment (g.F.Files.named c.decode_file.new.files) (g.F.Files.left c.decode_file.new.files) (g.F.Files.asked c.decode_file.new.files)
          (g.F.Files.faults c.decode_file.new.files) (g.O.Sink.taken c.end_report.new.out))
          (g.F.Files.left c.open_file.new.self) (g.O.Sink.taken c.write_head.new.sink) (g.O.Sink.taken c.decode_file.new.out) c.in-Ok-decode_file.decoded.end c.in-Ok-decode_file.decoded.tally
          c.end_report.result (opened_at g (goal.at.returns-in-Ok-decode_file-clause-ends g c).In-Ok-open_file) c.in-Ok.ensures.all
          (rw c.requires.crew at c.in-Ok-decode_file.ensures.all) c.end_report.ensures.end,
    )

pub returns-in-Ok-decode_file-clause-at_end : goal.returns-in-Ok-decode_file-clause-at_end
returns-in-Ok-decode_file-clause-at_end g c reads =
    read_out_opened (g.F.Files.named c.args.files.now) c.args.request.now.shots.now (g.F.Files.left c.open_file.new.self) (g.F.Files.left c.decode_file.new.files)
    (opened_at g (goal.at.returns-in-Ok-decode_file-clause-at_end g c).In-Ok-open_file)
    (c.in-Ok-decode_file.ensures.at_end (report_to_end c.args.plan.now c.in-Ok-decode_file.decoded.end _ _ _ _ _ c.end_report.ensures.end reads))

pub returns-in-Err-WriteFault-clause-ends : goal.returns-in-Err-WriteFault-clause-ends
returns-in-Err-WriteFault-clause-ends g c =
    inr (
      asks_kept (g.F.Files.asked c.args.files.now) (g.F.Files.asked c.open_file.new.self) (g.F.Files.asked c.decode_file.new.files) c.args.request.now.shots.now
          (rw c.in-Ok-from_str.ensures.ok at c.open_file.ensures.asks) c.decode_file.ensures.asks,
      prefix_of_batches (plain_decoding c.args.request.now) c.args.graph.now c.args.plan.now
          (moment (g.F.Files.named c.args.files.now) (g.F.Files.left c.args.files.now) (g.F.Files.asked c.args.files.now)
          (g.F.Files.faults c.args.files.now) (g.O.Sink.taken c.args.out.now))
          (moment (g.F.Files.named c.decode_file.new.files) (g.F.Files.left c.decode_file.new.files) (g.F.Files.asked c.decode_file.new.files)
          (g.F.Files.faults c.decode_file.new.files) (g.O.Sink.taken c.decode_file.new.out))
          (g.F.Files.left c.open_file.new.self) (g.O.Sink.taken c.write_head.new.sink)
          (opened_at g (goal.at.returns-in-Err-WriteFault-clause-ends g c).In-Ok-open_file) c.in-Ok.ensures.all
          (rw c.in-Ok-open_file.ensures.cause at (rw c.requires.crew at c.in-Err-WriteFault.ensures.first)),
    )

pub returns-in-Err-NoMemory-clause-ends : goal.returns-in-Err-NoMemory-clause-ends
returns-in-Err-NoMemory-clause-ends g c =
    inr (
      asks_kept (g.F.Files.asked c.args.files.now) (g.F.Files.asked c.open_file.new.self) (g.F.Files.asked c.decode_file.new.files) c.args.request.now.shots.now
          (rw c.in-Ok-from_str.ensures.ok at c.open_file.ensures.asks) c.decode_file.ensures.asks,
      prefix_of_batches (plain_decoding c.args.request.now) c.args.graph.now c.args.plan.now
          (moment (g.F.Files.named c.args.files.now) (g.F.Files.left c.args.files.now) (g.F.Files.asked c.args.files.now)
          (g.F.Files.faults c.args.files.now) (g.O.Sink.taken c.args.out.now))
          (moment (g.F.Files.named c.decode_file.new.files) (g.F.Files.left c.decode_file.new.files) (g.F.Files.asked c.decode_file.new.files)
          (g.F.Files.faults c.decode_file.new.files) (g.O.Sink.taken c.decode_file.new.out))
          (g.F.Files.left c.open_file.new.self) (g.O.Sink.taken c.write_head.new.sink)
          (opened_at g (goal.at.returns-in-Err-NoMemory-clause-ends g c).In-Ok-open_file) c.in-Ok.ensures.all
          (rw c.in-Ok-open_file.ensures.cause at (rw c.requires.crew at c.in-Err-NoMemory.ensures.first)),
    )

pub returns-in-Ok-decode_file-clause-reads : goal.returns-in-Ok-decode_file-clause-reads
returns-in-Ok-decode_file-clause-reads g c =
    subst (λ (n : ℕ). CountsReadFault c.end_report.result n (g.F.Files.faults c.decode_file.new.files)) c.in-Ok-open_file.ensures.cause
    (report_counted c.args.plan.now c.in-Ok-decode_file.decoded.end _ _ _ _ _ c.end_report.ensures.end _ _ c.in-Ok-decode_file.ensures.reads)
