use Rattle.std.proofs.Common.{List, ◌≡◌, drop, ◌+◌, ap, sym, ◌∙◌}
use Rattle.fb_links.specs.declared.cycle.CycleStep.{CycleStep}
use Rattle.fb_blossoms.specs.Nodes.{is_on}
use Rattle.fb_half.specs.declared.matches.Match.{Match}
use Rattle.fb_search.specs.InternalOpenings.{couples_on, even_on, place_on, round_on}
use Rattle.fb_search.proofs.RoundPlaces.{left_read}
use Rattle.fb_search.proofs.opening.taken_apart.Goals as goal

-- the matches are the couples of the steps that are left
couples_of : (matches : List Match) (rest steps : List CycleStep) → matches ≡ couples_on rest → rest ≡ steps → matches ≡ couples_on steps
couples_of matches rest steps made same = made ∙ ap couples_on same

pub returns-clause-matches : goal.returns-clause-matches
returns-clause-matches c =
    let round = c.in_ok-way.ensures.round in
    let place : c.place_of-end.result ≡ place_on (even_on (round_on c.args.cycle.now c.args.first) c.args.second) c.args.second =
    c.place_of-end.ensures.place ∙ ap (λ l. place_on l c.args.second) (c.deref.ensures.value ∙ round) in
    couples_of c.in_ok-matches.matches.items c.split_at.result.1.now _ c.in_ok-matches.ensures
    (c.split_at.ensures.back ∙ (ap (drop (c.place_of-end.result + 1)) c.deref-2.ensures.value ∙ (λ k. drop (place k + 1) (round k))))

pub returns-clause-left : goal.returns-clause-left
returns-clause-left c =
    let round = c.in_ok-way.ensures.round in
    left_read (even_on (round_on c.args.cycle.now c.args.first) c.args.second) c.in_ok-way.way.items c.split_at.result.1.now
    c.args.second c.place_of-end.result c.index.result.now c.in_ok-left.left.items round
    (c.place_of-end.ensures.place ∙ ap (λ l. place_on l c.args.second) (c.deref.ensures.value ∙ round))
    (ap (λ l. is_on l c.args.second) (sym round) ∙ c.in_ok-way.ensures.second) c.index.ensures
    (c.split_at.ensures.back ∙ ap (drop (c.place_of-end.result + 1)) c.deref-2.ensures.value) c.in_ok-left.ensures
