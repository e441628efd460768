use Rattle.std.proofs.Common.{◌≡◌, ◌/◌, ap, sym, ◌∙◌, get_or, arith}
use Rattle.std.proofs.lemmas.Grind.{common_steps}
use Rattle.std.proofs.lemmas.List.{get_or_read}
use Rattle.fb_regions.specs.InternalPages.{no_place, number_at}
use Rattle.fb_regions.specs.declared.paged_numbers.TheConstants.{PAGE}
use Rattle.fb_regions.proofs.Paged.{filled_within, length-numbers, number_below, number_missing}
use Rattle.fb_regions.proofs.paged_numbers.PagedNumbers.get.Goals as goal

pub returns-then-index-self : goal.returns-then-index-self
returns-then-index-self c =
    rw (← c.self.view_is) (omega (arith, length-numbers c.self.inside.count c.self.inside.places.items c.self.inside.numbers.items))

pub returns-then-place : goal.returns-then-place
returns-then-place c =
    let places = c.self.inside.places.items in
    let numbers = c.self.inside.numbers.items in
    rw (← c.self.view_is) (
      omega (arith, length-numbers c.self.inside.count places numbers),
      sym (number_below c.self.inside.count places numbers c.args.index (omega arith)
          ∙ number_missing places numbers _ c.self.invariant.1 c.args.index (grind (arith, common_steps))),
    )

pub returns : goal.returns
returns c =
    let places = c.self.inside.places.items in
    let numbers = c.self.inside.numbers.items in
    let page : c.index-place.result.now ≡ get_or places (c.args.index / PAGE) no_place =
    get_or_read places _ _ (omega (arith, c.self.invariant.0)) c.index-place.ensures no_place in
    let filled = filled_within places numbers _ c.self.invariant.1 (c.args.index / PAGE) (omega (arith, c.self.invariant.0))
    (λ none. c.if-place.false (page ∙ none)) in
    let read : c.index.result.now ≡ number_at places numbers c.args.index =
    get_or_read numbers _ _ (omega (arith, page, filled)) c.index.ensures 0
    ∙ ap (λ s. get_or numbers s 0) (omega (arith, page)) in
    rw (← c.self.view_is) (
      omega (arith, length-numbers c.self.inside.count places numbers),
      read ∙ sym (number_below c.self.inside.count places numbers c.args.index (omega arith)),
    )
