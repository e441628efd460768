use Rattle.std.proofs.Common.{◌≡◌, ◌⊎◌, inl, inr, ℕ, List, Option, None, Some, option_map, refl, sym, ap, subst, arith}
use Rattle.std.proofs.KnownBytes.{Appends-nil}
use Rattle.fb_graph.specs.Limits.{DecodingGraph}
use Rattle.fb_plan.specs.Plans.{PlanTree, single_of}
use Rattle.fb_run.specs.Endings.{EndsByPlan, EndsOn, EndsWithPlan}
use Rattle.fb_exits.specs.Ends.{IsPlanRefusal, EndsAtFile}
use Rattle.fb_files.specs.Moments.{Moment, moment}
use Rattle.fb_request.specs.Requests.{Decoding}
use Rattle.fb_exits.specs.declared.ending.Cause.{Cause}
use Rattle.fb_exits.specs.declared.ending.Refusal.TheVariants as refusal
use Rattle.fb_exits.proofs.AtFiles.{counted_at_file, ends_at_file, not_by_writing, not_to_the_end}
use Rattle.fb_run.proofs.decoding.decode_on.Goals as goal

-- the end of a decode for which a plan is named
by_name : (plan : Option (List ℕ)) (request : Decoding) (g : DecodingGraph) (name : List ℕ) (before after : Moment) (cause : Cause) → plan ≡ Some name
    → EndsAtFile (IsPlanRefusal g before.named name) name before after cause ⊎ EndsWithPlan request g name before after cause
    → EndsByPlan plan request g before after cause
by_name plan request g name before after cause is ends = subst (λ (p : Option (List ℕ)). EndsByPlan p request g before after cause) (sym is) ends

-- the end of a decode for which none is named
by_default : (plan : Option (List ℕ)) (request : Decoding) (g : DecodingGraph) (t : PlanTree) (before after : Moment) (cause : Cause) → plan ≡ None
    → t ≡ single_of g → EndsOn request g t before after cause → EndsByPlan plan request g before after cause
by_default plan request g t before after cause is single ends =
    subst (λ (p : Option (List ℕ)). EndsByPlan p request g before after cause) (sym is)
    (subst (λ (u : PlanTree). EndsOn request g u before after cause) single ends)

pub returns-in-Ok-clause-ends : goal.returns-in-Ok-clause-ends
returns-in-Ok-clause-ends g c = by_default _ _ _ _ _ _ _ (ap (option_map (λ name. name.now)) c.in_default.is)
    c.in-Ok.ensures.plan c.decode_by.ensures.ends

pub returns-in-Ok-read_plan_file-clause-ends : goal.returns-in-Ok-read_plan_file-clause-ends
returns-in-Ok-read_plan_file-clause-ends g c = by_name _ _ _ _ _ _ _ (ap (option_map (λ name. name.now)) c.in-Some.is) (inr (record {
  t = c.in-Ok-read_plan_file.plan;
  read = moment (g.F.Files.named c.read_plan_file.new.files) (g.F.Files.left c.read_plan_file.new.files) (g.F.Files.asked c.read_plan_file.new.files)
      (g.F.Files.faults c.read_plan_file.new.files) (g.O.Sink.taken c.args.out.now);
  plan = record {
    named = c.in-Ok-read_plan_file.ensures.names;
    text = c.in-Ok-read_plan_file.ensures.plan;
    asks = c.in-Ok-read_plan_file.ensures.asked (λ e. cc);
    unfailing = c.in-Ok-read_plan_file.ensures.faults.2 (λ e. cc);
    written = refl;
  };
  ends = c.decode_by-in-Ok-read_plan_file.ensures.ends;
}))

pub returns-in-Err-read_plan_file-clause-ends : goal.returns-in-Err-read_plan_file-clause-ends
returns-in-Err-read_plan_file-clause-ends g c = rw c.cause_of_plan.ensures (by_name _ _ _ _ _ _ _
    (ap (option_map (λ name. name.now)) c.in-Some.is) (inl (ends_at_file refusal.Plan _ _
    (moment (g.F.Files.named c.args.files.now) (g.F.Files.left c.args.files.now) (g.F.Files.asked c.args.files.now)
    (g.F.Files.faults c.args.files.now) (g.O.Sink.taken c.args.out.now))
    (moment (g.F.Files.named c.read_plan_file.new.files) (g.F.Files.left c.read_plan_file.new.files) (g.F.Files.asked c.read_plan_file.new.files)
    (g.F.Files.faults c.read_plan_file.new.files) (g.O.Sink.taken c.args.out.now))
    _ c.in-Err-read_plan_file.fault refl c.in-Err-read_plan_file.ensures.refused c.in-Err-read_plan_file.ensures.asks
    c.in-Err-read_plan_file.ensures.asked c.in-Err-read_plan_file.ensures.faults (Appends-nil _))))

pub returns-in-Err-read_plan_file-clause-at_end : goal.returns-in-Err-read_plan_file-clause-at_end
returns-in-Err-read_plan_file-clause-at_end g c reads =
    absurd (not_to_the_end refusal.Plan c.in-Err-read_plan_file.fault (rw c.cause_of_plan.ensures at reads))

pub returns-in-Err-read_plan_file-clause-reads : goal.returns-in-Err-read_plan_file-clause-reads
returns-in-Err-read_plan_file-clause-reads g c = rw c.cause_of_plan.ensures
    (counted_at_file refusal.Plan _ _ _ c.in-Err-read_plan_file.fault refl c.in-Err-read_plan_file.ensures.faults c.in-Err-read_plan_file.ensures.reported)

pub returns-in-Err-read_plan_file-clause-writes : goal.returns-in-Err-read_plan_file-clause-writes
returns-in-Err-read_plan_file-clause-writes g c =
    (λ is. absurd (not_by_writing refusal.Plan c.in-Err-read_plan_file.fault (rw c.cause_of_plan.ensures at is)), omega arith, λ other. refl)
