use Rattle.std.proofs.Common.{◌≡◌, ◌==◌, ◌∙◌, if◌then◌else◌, length, arith, ap}
use Rattle.fb_half.specs.declared.matches.Standing.TheVariants.{Unmatched}
use Rattle.fb_half.specs.InternalStandings.{standing_of}
use Rattle.fb_half.proofs.Listings.{same_entries, unmatched_added}
use Rattle.fb_half.proofs.matching.Matching.add_unmatched.Goals as goal

pub invariant_of-self-in_err-widen : goal.invariant_of-self-in_err-widen
invariant_of-self-in_err-widen c = (
  c.self.invariant.0,
  rw c.reserve.ensures.items (same_entries _ _ _ _ c.self.invariant.1 c.widen.ensures.same),
)

pub invariant_of-self-2 : goal.invariant_of-self-2
invariant_of-self-2 c =
    let count : c.len-place.result ≡ length c.self.inside.unmatched.items = omega (arith, ap length c.reserve.ensures.items) in
    let fresh = rw (← c.self.view_is) at c.requires in (
      c.self.invariant.0,
      rw (c.push_reserved.ensures.items, c.reserve.ensures.items)
          (unmatched_added _ _ c.widen.new.standings.items _ c.args.name (same_entries _ _ _ _ c.self.invariant.1 c.widen.ensures.same) fresh
          (λ k. c.set_name.ensures.entries k ∙ ap (λ n. if c.args.name == k then Unmatched n else standing_of c.widen.new.standings.items k) count)),
    )
