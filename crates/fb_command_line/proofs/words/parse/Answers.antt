use Rattle.std.proofs.Common.{map, string_bytes}
use Rattle.clap.specs.Words.{app_of, found_of, rows_of, subcommand_rows_of}
use Rattle.fb_command_line.proofs.Commands.{parse_failed, parse_passed, parse_taken}
use Rattle.fb_command_line.proofs.words.parse.Goals as goal

pub returns-in-Ok-try_get_matches_from-clause-command : goal.returns-in-Ok-try_get_matches_from-clause-command
returns-in-Ok-try_get_matches_from-clause-command c =
    let parse = c.in-Ok-try_get_matches_from in
    (parse_passed (app_of c.in-Ok.command) (map string_bytes c.args.words.now) c.in-Ok.ensures (rows_of (found_of parse.matches))
    (subcommand_rows_of parse.matches) parse.ensures.kinds parse.ensures.matches).0

pub returns-in-Ok-try_get_matches_from-clause-options : goal.returns-in-Ok-try_get_matches_from-clause-options
returns-in-Ok-try_get_matches_from-clause-options c =
    let parse = c.in-Ok-try_get_matches_from in
    (parse_passed (app_of c.in-Ok.command) (map string_bytes c.args.words.now) c.in-Ok.ensures (rows_of (found_of parse.matches))
    (subcommand_rows_of parse.matches) parse.ensures.kinds parse.ensures.matches).1

pub returns-in-Ok-try_get_matches_from-clause-request : goal.returns-in-Ok-try_get_matches_from-clause-request
returns-in-Ok-try_get_matches_from-clause-request c =
    let parse = c.in-Ok-try_get_matches_from in
    (parse_passed (app_of c.in-Ok.command) (map string_bytes c.args.words.now) c.in-Ok.ensures (rows_of (found_of parse.matches))
    (subcommand_rows_of parse.matches) parse.ensures.kinds parse.ensures.matches).2

pub returns-in-Err-clause-fault : goal.returns-in-Err-clause-fault
returns-in-Err-clause-fault c = parse_failed (app_of c.in-Ok.command) (map string_bytes c.args.words.now) c.in-Ok.ensures c.in-Err.error
    c.refusal.result c.in-Err.ensures.kinds c.refusal.ensures.memory c.refusal.ensures.parse

pub returns-in-Err-clause-takes : goal.returns-in-Err-clause-takes
returns-in-Err-clause-takes c = parse_taken (app_of c.in-Ok.command) (map string_bytes c.args.words.now) c.in-Ok.ensures c.in-Err.error
    c.refusal.result c.in-Err.ensures.passes c.refusal.ensures.memory
