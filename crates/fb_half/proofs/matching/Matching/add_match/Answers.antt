use Rattle.std.proofs.Common.{◌≡◌, ◌∙◌, ◌++◌, ◌∷◌, [], if◌then◌else◌, length, arith, sym, ap}
use Rattle.std.proofs.lemmas.List.{map-append}
use Rattle.fb_graph.specs.Parity.{is_in}
use Rattle.fb_half.specs.declared.matches.Standing.TheVariants.{Matched}
use Rattle.fb_half.specs.InternalStandings.{standing_of}
use Rattle.fb_half.specs.Matchings.{names_of}
use Rattle.fb_half.proofs.Listings.{match_added, same_entries}
use Rattle.fb_half.proofs.matching.Matching.add_match.Goals as goal

pub invariant_of-self : goal.invariant_of-self
invariant_of-self c =
    rw (c.make_room.ensures.matches, c.make_room.ensures.links)
    (c.self.invariant.0, same_entries _ _ _ _ c.self.invariant.1 c.make_room.ensures.same)

pub invariant_of-self-2 : goal.invariant_of-self-2
invariant_of-self-2 c =
    let count : c.len-place.result ≡ length c.self.inside.matches.items = omega (arith, ap length c.make_room.ensures.matches) in
    let fresh = rw (← c.self.view_is) at c.requires in (
      rw (c.push_reserved-2.ensures.items, c.push_reserved.ensures.items, c.make_room.ensures.matches, c.make_room.ensures.links)
          (ap (λ l. l ++ c.args.m.link ∷ []) c.self.invariant.0 ∙ sym (map-append (λ m. m.link) c.self.inside.matches.items (c.args.m ∷ []))),
      rw (c.push_reserved.ensures.items, c.make_room.ensures.matches)
          (match_added _ _ c.make_room.new.standings.items _ c.args.m (same_entries _ _ _ _ c.self.invariant.1 c.make_room.ensures.same) fresh
          (λ k. c.set_names.ensures.entries k ∙ ap (λ n. if is_in (names_of c.args.m) k then Matched n else standing_of c.make_room.new.standings.items k) count)),
    )
