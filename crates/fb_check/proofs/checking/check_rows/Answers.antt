use Rattle.std.proofs.Common.{◌∙◌, ℕ, [], inl, inr, refl, sym, subst, append-nil}
use Rattle.fb_request.specs.PlainRequests.{plain_checking}
use Rattle.fb_check.specs.Checks.{check_head}
use Rattle.fb_exits.specs.Ends.{CountsReadFault}
use Rattle.fb_files.specs.Moments.{moment}
use Rattle.fb_files.proofs.Inputs.{asks_kept, asks_one, asks_same}
use Rattle.fb_files.proofs.Gathered.{is_opened, is_unopened, read_out_opened}
use Rattle.fb_check.proofs.Checked.{check_counted, check_to_end, checks_first, checks_on, first_opened, judged_opened, never_memory}
use Rattle.fb_check.proofs.checking.check_rows.Goals as goal

pub returns-in_default-clause-ends : goal.returns-in_default-clause-ends
returns-in_default-clause-ends g c =
    inl (record { asks = asks_same _ _ refl; unfailing = refl; written = c.in_default.ensures.prefix; ends = inl refl })

pub returns-in_default-from_str-clause-ends : goal.returns-in_default-from_str-clause-ends
returns-in_default-from_str-clause-ends g c =
    inl (record {
      asks = asks_same _ _ refl;
      unfailing = refl;
      written = (check_head, [], sym (append-nil check_head), c.in-Ok.ensures.all);
      ends = inr refl;
    })

pub returns-in_default-open_file-clause-ends : goal.returns-in_default-open_file-clause-ends
returns-in_default-open_file-clause-ends g c =
    inr (
      asks_one (g.F.Files.asked c.args.files.now) (g.F.Files.asked c.open_file.new.self) c.args.request.now.shots.now (rw c.in-Ok-from_str.ensures.ok at c.open_file.ensures.asks),
      λ e. cc,
      inl (
        is_unopened (g.F.Files.named c.args.files.now) c.args.request.now.shots.now (g.F.Files.left c.open_file.new.self) _ refl
            (rw c.in-Ok-from_str.ensures.ok at c.in_default-open_file.ensures.opens),
        c.in-Ok.ensures.all,
      ),
    )

pub returns-in-Ok-judge_file-clause-ends : goal.returns-in-Ok-judge_file-clause-ends
returns-in-Ok-judge_file-clause-ends g c =
    inr (
      asks_kept (g.F.Files.asked c.args.files.now) (g.F.Files.asked c.open_file.new.self) (g.F.Files.asked c.judge_file.new.files) c.args.request.now.shots.now
          (rw c.in-Ok-from_str.ensures.ok at c.open_file.ensures.asks) c.judge_file.ensures.asks,
      λ e. absurd (never_memory c.in-Ok-judge_file.judged.end _ c.in-Ok-judge_file.judged.shots c.in-Ok-judge_file.judged.bad _ _ _ c.end_check.ensures.end e),
      checks_on (plain_checking c.args.request.now) c.args.graph.now c.args.rows.now
          (moment (g.F.Files.named c.args.files.now) (g.F.Files.left c.args.files.now) (g.F.Files.asked c.args.files.now)
          (g.F.Files.faults c.args.files.now) (g.O.Sink.taken c.args.out.now))
          (moment (g.F.Files.named c.judge_file.new.files) (g.F.Files.left c.judge_file.new.files) (g.F.Files.asked c.judge_file.new.files)
          (g.F.Files.faults c.judge_file.new.files) (g.O.Sink.taken c.end_check.new.out))
          (g.O.Sink.taken c.put_check_head.new.sink) (g.O.Sink.taken c.judge_file.new.out)
          c.in-Ok-judge_file.judged _ _ refl c.in-Ok.ensures.all
          (judged_opened (g.F.Files.named c.args.files.now) c.args.request.now.shots.now (g.F.Files.left c.open_file.new.self) c.args.request.now.format
          c.args.graph.now c.args.rows.now (g.O.Sink.taken c.put_check_head.new.sink) (g.O.Sink.taken c.judge_file.new.out) (g.F.Files.left c.judge_file.new.files)
          c.in-Ok-judge_file.judged (is_opened (g.F.Files.named c.args.files.now) c.args.request.now.shots.now (g.F.Files.left c.open_file.new.self) _ refl
          (rw c.in-Ok-from_str.ensures.ok at c.in-Ok-open_file.ensures.opens))
          c.in-Ok-judge_file.ensures.all)
          c.end_check.ensures.end,
    )

pub returns-in-Err-WriteFault-clause-ends : goal.returns-in-Err-WriteFault-clause-ends
returns-in-Err-WriteFault-clause-ends g c =
    inr (
      asks_kept (g.F.Files.asked c.args.files.now) (g.F.Files.asked c.open_file.new.self) (g.F.Files.asked c.judge_file.new.files) c.args.request.now.shots.now
          (rw c.in-Ok-from_str.ensures.ok at c.open_file.ensures.asks) c.judge_file.ensures.asks,
      λ e. cc,
      checks_first (plain_checking c.args.request.now) c.args.graph.now c.args.rows.now
          (moment (g.F.Files.named c.args.files.now) (g.F.Files.left c.args.files.now) (g.F.Files.asked c.args.files.now)
          (g.F.Files.faults c.args.files.now) (g.O.Sink.taken c.args.out.now))
          (moment (g.F.Files.named c.judge_file.new.files) (g.F.Files.left c.judge_file.new.files) (g.F.Files.asked c.judge_file.new.files)
          (g.F.Files.faults c.judge_file.new.files) (g.O.Sink.taken c.judge_file.new.out))
          (g.O.Sink.taken c.put_check_head.new.sink) c.in-Ok.ensures.all
          (first_opened (g.F.Files.named c.args.files.now) c.args.request.now.shots.now (g.F.Files.left c.open_file.new.self) c.args.request.now.format
          c.args.graph.now c.args.rows.now (g.O.Sink.taken c.put_check_head.new.sink) (g.O.Sink.taken c.judge_file.new.out)
          (is_opened (g.F.Files.named c.args.files.now) c.args.request.now.shots.now (g.F.Files.left c.open_file.new.self) _ refl
          (rw c.in-Ok-from_str.ensures.ok at c.in-Ok-open_file.ensures.opens))
          c.in-Err-WriteFault.ensures.first),
    )

pub returns-in-Err-NoMemory-clause-ends : goal.returns-in-Err-NoMemory-clause-ends
returns-in-Err-NoMemory-clause-ends g c =
    let unread = rw c.in-Err-NoMemory.field-0-is at c.in-Err-NoMemory.ensures.unread in
    inr (
      asks_kept (g.F.Files.asked c.args.files.now) (g.F.Files.asked c.open_file.new.self) (g.F.Files.asked c.judge_file.new.files) c.args.request.now.shots.now
          (rw c.in-Ok-from_str.ensures.ok at c.open_file.ensures.asks) c.judge_file.ensures.asks,
      λ e. unread refl ∙ c.in-Ok-open_file.ensures.cause,
      checks_first (plain_checking c.args.request.now) c.args.graph.now c.args.rows.now
          (moment (g.F.Files.named c.args.files.now) (g.F.Files.left c.args.files.now) (g.F.Files.asked c.args.files.now)
          (g.F.Files.faults c.args.files.now) (g.O.Sink.taken c.args.out.now))
          (moment (g.F.Files.named c.judge_file.new.files) (g.F.Files.left c.judge_file.new.files) (g.F.Files.asked c.judge_file.new.files)
          (g.F.Files.faults c.judge_file.new.files) (g.O.Sink.taken c.judge_file.new.out))
          (g.O.Sink.taken c.put_check_head.new.sink) c.in-Ok.ensures.all
          (first_opened (g.F.Files.named c.args.files.now) c.args.request.now.shots.now (g.F.Files.left c.open_file.new.self) c.args.request.now.format
          c.args.graph.now c.args.rows.now (g.O.Sink.taken c.put_check_head.new.sink) (g.O.Sink.taken c.judge_file.new.out)
          (is_opened (g.F.Files.named c.args.files.now) c.args.request.now.shots.now (g.F.Files.left c.open_file.new.self) _ refl
          (rw c.in-Ok-from_str.ensures.ok at c.in-Ok-open_file.ensures.opens))
          c.in-Err-NoMemory.ensures.first),
    )

pub returns-in-Ok-judge_file-clause-at_end : goal.returns-in-Ok-judge_file-clause-at_end
returns-in-Ok-judge_file-clause-at_end g c reads =
    read_out_opened (g.F.Files.named c.args.files.now) c.args.request.now.shots.now (g.F.Files.left c.open_file.new.self) (g.F.Files.left c.judge_file.new.files)
    (is_opened (g.F.Files.named c.args.files.now) c.args.request.now.shots.now (g.F.Files.left c.open_file.new.self) _ refl
    (rw c.in-Ok-from_str.ensures.ok at c.in-Ok-open_file.ensures.opens))
    (c.in-Ok-judge_file.ensures.at_end (check_to_end c.in-Ok-judge_file.judged.end _ c.in-Ok-judge_file.judged.shots c.in-Ok-judge_file.judged.bad _ _ _ c.end_check.ensures.end reads))

pub returns-in-Ok-judge_file-clause-reads : goal.returns-in-Ok-judge_file-clause-reads
returns-in-Ok-judge_file-clause-reads g c =
    let judged = c.in-Ok-judge_file.judged in
    subst (λ (n : ℕ). CountsReadFault c.end_check.result n (g.F.Files.faults c.judge_file.new.files)) c.in-Ok-open_file.ensures.cause
    (check_counted judged.end _ judged.shots judged.bad _ _ _ c.end_check.ensures.end _ _ c.in-Ok-judge_file.ensures.reads)
