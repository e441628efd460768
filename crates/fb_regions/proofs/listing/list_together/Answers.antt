use Rattle.std.proofs.Common.{◌+◌, ◌==◌, drop, get_or, sym, ap, ◌∙◌, arith}
use Rattle.std.proofs.lemmas.Bool.{eq-eqb, eqb-true, false_from_ne_true}
use Rattle.fb_regions.specs.InternalListings.{Linked, with_listing, linked_all, listing_at}
use Rattle.fb_regions.proofs.Linking.{counted_next, counted_none, linked_first, linked_more, linked_next, linked_none, named_at, named_none}
use Rattle.fb_regions.proofs.listing.list_together.Goals as goal
use Rattle.fb_regions.proofs.listing.list_together.Goals.{in-Some+then-listing-eq0, in-Some+else-listing-eq0, in_default}

pub listing_of-next-requires : goal.listing_of-next-requires
listing_of-next-requires c =
    let named = named_at c.args.regions.now (get_or c.args.names.now c.loop-name.name-index 0) c.in-Some.place c.index-regions-place.result
    (sym (c.requires.index.entry (get_or c.args.names.now c.loop-name.name-index 0)) ∙ (sym c.place_of.ensures ∙ c.in-Some.is)) c.index-regions-place.is in
    omega (
      arith,
      counted_next c.args.regions.now c.args.names.now c.loop-name.name-index c.index-regions-place.result c.loop-name-test.true named,
      c.loop-name.invariant.1,
      c.requires.fits,
    )

pub overflow_add-listing : goal.overflow_add-listing
overflow_add-listing c =
    let named = named_at c.args.regions.now (get_or c.args.names.now c.loop-name.name-index 0) c.in-Some.place c.index-regions-place.result
    (sym (c.requires.index.entry (get_or c.args.names.now c.loop-name.name-index 0)) ∙ (sym c.place_of.ensures ∙ c.in-Some.is)) c.index-regions-place.is in
    omega (
      arith,
      counted_next c.args.regions.now c.args.names.now c.loop-name.name-index c.index-regions-place.result c.loop-name-test.true named,
      c.loop-name.invariant.1,
      c.requires.fits,
      ap (λ l. l.count) c.listing_of-next.ensures,
    )

pub loop-name-preserved : goal.loop-name-preserved
loop-name-preserved c =
    let rs = c.args.regions.now in
    let names = c.args.names.now in
    let i = c.loop-name.name-index in
    let s : Linked = record { marks = c.loop-name.marks; listing = c.loop-name.listing } in
    elim c.match-place_of.branch [
      | in-Some+then-listing-eq0 w ↦
          let r = w.index-regions-place.result in
          let named = named_at rs (get_or names i 0) w.in-Some.place r
          (sym (c.requires.index.entry (get_or names i 0)) ∙ (sym c.place_of.ensures ∙ w.in-Some.is)) w.index-regions-place.is in (
            rw (w.marks-is, w.listing-is, w.listing_of-next.ensures)
                (c.loop-name.invariant.0 ∙ (linked_next rs names i s r c.loop-name-test.true named
                ∙ ap (λ x. linked_all rs (drop (i + 1) names) x) (linked_first s (listing_at r) (eq-eqb c.loop-name.listing.count 0 w.if-listing-eq0.true)))),
            omega (arith, counted_next rs names i r c.loop-name-test.true named, c.loop-name.invariant.1, ap (λ l. l.count) (w.listing-is ∙ w.listing_of-next.ensures)),
          )
      | in-Some+else-listing-eq0 w ↦
          let r = w.index-regions-place.result in
          let named = named_at rs (get_or names i 0) w.in-Some.place r
          (sym (c.requires.index.entry (get_or names i 0)) ∙ (sym c.place_of.ensures ∙ w.in-Some.is)) w.index-regions-place.is in (
            rw (w.marks-is, w.put_before.ensures, w.listing-is)
                (c.loop-name.invariant.0 ∙ (linked_next rs names i s r c.loop-name-test.true named
                ∙ (ap (λ l. linked_all rs (drop (i + 1) names) (with_listing s l)) (sym w.listing_of-next.ensures)
                ∙ ap (λ x. linked_all rs (drop (i + 1) names) x)
                (linked_more s w.listing_of-next.result (false_from_ne_true (c.loop-name.listing.count == 0) (λ e. w.if-listing-eq0.false (eqb-true c.loop-name.listing.count 0 e))))))),
            omega (arith, counted_next rs names i r c.loop-name-test.true named, c.loop-name.invariant.1, ap (λ l. l.count) w.listing-is, ap (λ l. l.count) w.listing_of-next.ensures),
          )
      | in_default w ↦
          let named = named_none rs (get_or names i 0)
          (sym (c.requires.index.entry (get_or names i 0)) ∙ (sym c.place_of.ensures ∙ w.in_default.is)) in (
            rw (w.marks-is, w.listing-is) (c.loop-name.invariant.0 ∙ linked_none rs names i s c.loop-name-test.true named),
            omega (arith, counted_none rs names i c.loop-name-test.true named, c.loop-name.invariant.1, ap (λ l. l.count) w.listing-is),
          )
    ]
