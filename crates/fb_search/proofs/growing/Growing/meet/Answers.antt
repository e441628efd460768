use Rattle.std.proofs.Common.{ℕ, ◌≡◌, ◌⊎◌, inl, inr, true, refl, sym, ◌∙◌}
use Rattle.std.proofs.lemmas.Bool.{false≢true}
use Rattle.fb_graph.specs.Parity.{is_in}
use Rattle.fb_graph.proofs.Floods.{is_in-both}
use Rattle.fb_half.specs.declared.matches.Standing.{Standing}
use Rattle.fb_half.specs.declared.matches.Standing.TheVariants.{Absent, Unmatched, Matched}
use Rattle.fb_half.specs.Matchings.{matched_names}
use Rattle.fb_half.specs.Standings.{is_unmatched}
use Rattle.fb_search.proofs.growing.Growing.meet.Goals as goal

unmatched_at : (s : Standing) → is_unmatched s ≡ true → (i : ℕ) × (s ≡ Unmatched i)
unmatched_at Absent is = absurd (false≢true is)
unmatched_at (Unmatched i) is = (i, refl)
unmatched_at (Matched i) is = absurd (false≢true is)

pub meet_over-done-requires : goal.meet_over-done-requires
meet_over-done-requires c = record {
  paced = c.self.invariant.0;
  growing = c.self.invariant.1;
  meets = rw (← c.self.view_is) at c.met_nodes-plus.ensures.meets;
  matched =
      by (is_in-both c.self.inside.parts.matching.unmatched (matched_names c.self.inside.parts.matching.matches) c.met_nodes-plus.result.1
      (rw (← c.self.view_is) at c.met_nodes-plus.ensures.listed));
}
  where
    by : (is_in c.self.inside.parts.matching.unmatched c.met_nodes-plus.result.1 ≡ true)
        ⊎ (is_in (matched_names c.self.inside.parts.matching.matches) c.met_nodes-plus.result.1 ≡ true)
        → is_in (matched_names c.self.inside.parts.matching.matches) c.met_nodes-plus.result.1 ≡ true
    by (inl waits) =
        let (i, is) = unmatched_at c.standing-standing.result (sym c.standing-standing.ensures.unmatched ∙ waits) in
        absurd (c.in_default.not-Unmatched i is)
    by (inr matched) = matched
