use Rattle.std.proofs.Common.{◌≡◌, ◌∙◌, length, refl, ap, arith, rules}
use Rattle.fb_files.proofs.Gathered.{gives_next, gives_none}
use Rattle.fb_files.proofs.taking.take_window.Goals as goal

pub loop-stream-init : goal.loop-stream-init
loop-stream-init g c =
    let none = c.in_ok-shots.ensures.items in record {
      gives = rw none (gives_none c.args.stream.now (g.F.Files.left c.args.files.now));
      few = omega (arith, ap length none);
      unchanged = refl;
      names = refl;
      asks = refl;
    }

pub loop-stream-preserved : goal.loop-stream-preserved
loop-stream-preserved g c =
    let unchanged : g.F.Files.faults c.next_shot.new.files ≡ g.F.Files.faults c.loop-stream.files = search rules in record {
      gives = rw c.in_ok-push-in-Shot.ensures.items
          (gives_next c.args.stream.now c.loop-stream.stream c.next_shot.new.self (g.F.Files.left c.args.files.now) (g.F.Files.left c.loop-stream.files)
          (g.F.Files.left c.next_shot.new.files) c.loop-stream.shots.items c.in-Shot.shot c.loop-stream.invariant.gives (rw c.in-Shot.is at c.in-Ok.ensures.step));
      few = search rules;
      unchanged = unchanged ∙ c.loop-stream.invariant.unchanged;
      names = c.in-Ok.ensures.names ∙ c.loop-stream.invariant.names;
      asks = c.in-Ok.ensures.asks ∙ c.loop-stream.invariant.asks;
    }

pub returns-clause-takes : goal.returns-clause-takes
returns-clause-takes g c = record {
  middle = c.loop-stream.stream;
  between = g.F.Files.left c.loop-stream.files;
  gives = c.loop-stream.invariant.gives;
  ends = (refl, refl);
  few = c.loop-stream.invariant.few;
  full = λ none. omega (arith, c.loop-stream.invariant.few, c.loop-stream-test.false);
}

pub returns-in-ReadFault-clause-takes : goal.returns-in-ReadFault-clause-takes
returns-in-ReadFault-clause-takes g c = rw (c.ended-in-ReadFault.ensures.shots, c.ended-in-ReadFault.ensures.end) (record {
  middle = c.loop-stream.stream;
  between = g.F.Files.left c.loop-stream.files;
  gives = c.loop-stream.invariant.gives;
  ends = rw c.in-ReadFault.is at c.in-Ok.ensures.step;
  few = c.loop-stream.invariant.few;
  full = λ none. cc;
})
