use Rattle.std.proofs.Common.{map, string_bytes}
use Rattle.fb_request.specs.PlainRequests.{plain_request}
use Rattle.fb_command_line.specs.Words.{request_of}
use Rattle.fb_request.specs.declared.usage.UsageKind.TheVariants as usage
use Rattle.fb_run.proofs.Answered.{ends_read, ends_refused, request_not_usage, fault_not_parse, never_out, out_read}
use Rattle.fb_run.proofs.running.run_words.Goals as goal

pub returns-in-Ok-clause-ends : goal.returns-in-Ok-clause-ends
returns-in-Ok-clause-ends g c =
    ends_read (request_of (map string_bytes c.args.words.now)) (plain_request c.in-Ok.request) _ _ c.run_request.result c.in-Ok.ensures.request c.run_request.ensures.ends

pub returns-in-Ok-clause-takes : goal.returns-in-Ok-clause-takes
returns-in-Ok-clause-takes g c taken = request_not_usage (plain_request c.in-Ok.request) _ _ c.run_request.result usage.Parse c.run_request.ensures.ends

pub returns-in-Err-clause-takes : goal.returns-in-Err-clause-takes
returns-in-Err-clause-takes g c taken = rw c.refuse_words.ensures.cause (fault_not_parse c.in-Err.fault (c.in-Err.ensures.takes taken))

pub returns-in-Ok-clause-at_end : goal.returns-in-Ok-clause-at_end
returns-in-Ok-clause-at_end g c =
    out_read (request_of (map string_bytes c.args.words.now)) (plain_request c.in-Ok.request) _ _ c.run_request.result c.in-Ok.ensures.request c.run_request.ensures.at_end

pub returns-in-Err-clause-at_end : goal.returns-in-Err-clause-at_end
returns-in-Err-clause-at_end g c =
    rw c.refuse_words.ensures.cause (never_out (request_of (map string_bytes c.args.words.now)) c.in-Err.fault _ _)

pub returns-in-Err-clause-ends : goal.returns-in-Err-clause-ends
returns-in-Err-clause-ends g c =
    rw c.refuse_words.ensures.cause (ends_refused (request_of (map string_bytes c.args.words.now)) c.in-Err.fault _ c.in-Err.ensures.fault)
