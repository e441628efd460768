use Rattle.std.proofs.Common.{◌≡◌, ◌∙◌, ◌++◌, ◌∷◌, [], ap, sym, length, get_or, cond, false, arith}
use Rattle.std.specs.Prelude.{nat_eq, nat_lt}
use Rattle.std.specs.Map.{keys_of}
use Rattle.std.proofs.lemmas.List.{get_or_push}
use Rattle.std.proofs.lemmas.Bool.Decides.{nat_tests}
use Rattle.indexmap.specs.IndexMap.{keys, index_map_len}
use Rattle.indexmap.proofs.CallerLemmas.{insert_entry-new}
use Rattle.indexmap.proofs.MapLemmas.{Missing-position}
use Rattle.fb_obstacles.proofs.FirstEntries.{found_at, length-keys}
use Rattle.fb_obstacles.proofs.EnteredEdges.{keys_push}
use Rattle.fb_obstacles.proofs.watching.place_in.Goals as goal

pub returns-in-Some-clause-index : goal.returns-in-Some-clause-index
returns-in-Some-clause-index c = (found_at (keys c.args.known.now) c.args.edge c.in-Some.place c.in-Some.ensures.index).0

pub returns-in-Some-clause-found : goal.returns-in-Some-clause-found
returns-in-Some-clause-found c = (found_at (keys c.args.known.now) c.args.edge c.in-Some.place c.in-Some.ensures.index).2

pub returns-in-Ok-clause-found : goal.returns-in-Ok-clause-found
returns-in-Ok-clause-found c =
    let missing = Missing-position (nat_eq c.args.edge) c.args.known.now.entries (sym c.in-None.ensures.index) in
    let added = c.in-Ok.ensures.entries ∙ insert_entry-new nat_eq c.args.known.now c.args.edge 0 missing.value in
    let place : c.in-Ok.place ≡ length (keys c.args.known.now) =
    c.in-Ok.ensures.index ∙ (missing.or_len ∙ sym (length-keys c.args.known.now.entries)) in
    ap (λ es. get_or (keys_of es) c.in-Ok.place 0) added
    ∙ (ap (λ ks. get_or ks c.in-Ok.place 0) (keys_push c.args.known.now.entries c.args.edge)
    ∙ get_or_push (keys c.args.known.now) c.args.edge 0 c.in-Ok.place (sym place))

pub returns-in-Ok-clause-entries : goal.returns-in-Ok-clause-entries
returns-in-Ok-clause-entries c =
    let missing = Missing-position (nat_eq c.args.edge) c.args.known.now.entries (sym c.in-None.ensures.index) in
    let added = c.in-Ok.ensures.entries ∙ insert_entry-new nat_eq c.args.known.now c.args.edge 0 missing.value in
    let at_end : c.in-Ok.place ≡ index_map_len c.args.known.now = c.in-Ok.ensures.index ∙ missing.or_len in
    let none : nat_lt c.in-Ok.place (index_map_len c.args.known.now) ≡ false = grind (arith, nat_tests) in
    added ∙ sym (ap (λ b. cond b c.args.known.now.entries (c.args.known.now.entries ++ (c.args.edge, 0) ∷ [])) none)
