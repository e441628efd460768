use Rattle.std.proofs.Common.{◌≡◌, ◌∙◌, ◌++◌, ◌∷◌, [], Bool, true, get_or, ap, refl, subst}
use Rattle.fb_graph.specs.Parity.{is_in}
use Rattle.fb_half.specs.declared.matches.Match.{Match}
use Rattle.fb_half.specs.InternalStandings.{no_match}
use Rattle.fb_half.specs.Matchings.{matched_names, names_of}
use Rattle.fb_half.specs.InternalSeams.{meets_seam}
use Rattle.fb_half.proofs.FreedMatches.{first_at, freed_more, link_live, still_there, unlisted}
use Rattle.fb_half.proofs.merging.free_nodes.Goals as goal

pub take_match-m-requires : goal.take_match-m-requires
take_match-m-requires c =
    let test : Match → Bool = meets_seam c.args.seam.now.plan.now c.args.seam.now.node c.args.links.now in
    let at = first_at test c.args.matching.now.matches c.args.matching.now.matches _ _ c.loop-name.name-index c.deref-name-items.ensures.value c.in_ok-freed.ensures refl c.loop-name-test.true in
    ap (is_in (matched_names c.loop-name.matching.matches)) at.1
    ∙ still_there test c.args.matching.now c.args.links.now c.requires.names c.requires.links c.requires.live c.loop-name.name-index no_match at.0
    c.loop-name.matching c.loop-name.links c.loop-name.invariant

pub forget-requires : goal.forget-requires
forget-requires c =
    let test : Match → Bool = meets_seam c.args.seam.now.plan.now c.args.seam.now.node c.args.links.now in
    let at = first_at test c.args.matching.now.matches c.args.matching.now.matches _ _ c.loop-name.name-index c.deref-name-items.ensures.value c.in_ok-freed.ensures refl c.loop-name-test.true in
    link_live test c.args.matching.now c.args.links.now c.requires.names c.requires.links c.requires.live c.loop-name.name-index no_match at.0
    c.loop-name.matching c.loop-name.links c.loop-name.invariant c.take_match-m.result c.take_match-m.new.self.matches
    (subst (λ n. is_in (names_of c.take_match-m.result) n ≡ true) at.1 c.take_match-m.ensures.name) c.take_match-m.ensures.matches

pub add_unmatched-requires : goal.add_unmatched-requires
add_unmatched-requires c =
    let test : Match → Bool = meets_seam c.args.seam.now.plan.now c.args.seam.now.node c.args.links.now in
    let at = first_at test c.args.matching.now.matches c.args.matching.now.matches _ _ c.loop-name.name-index c.deref-name-items.ensures.value c.in_ok-freed.ensures refl c.loop-name-test.true in
    ap (λ l. is_in (l ++ matched_names c.take_match-m.new.self.matches) (get_or c.deref-name-items.result.now c.loop-name.name-index 0)) c.take_match-m.ensures.unmatched
    ∙ (ap (is_in (c.loop-name.matching.unmatched ++ matched_names c.take_match-m.new.self.matches)) at.1
    ∙ unlisted test c.args.matching.now c.args.links.now c.requires.names c.requires.links c.requires.live c.loop-name.name-index no_match at.0
    c.loop-name.matching c.loop-name.links c.loop-name.invariant c.take_match-m.result c.take_match-m.new.self.matches
    (subst (λ n. is_in (names_of c.take_match-m.result) n ≡ true) at.1 c.take_match-m.ensures.name) c.take_match-m.ensures.matches)

pub loop-name-preserved : goal.loop-name-preserved
loop-name-preserved c =
    let test : Match → Bool = meets_seam c.args.seam.now.plan.now c.args.seam.now.node c.args.links.now in
    let at = first_at test c.args.matching.now.matches c.args.matching.now.matches _ _ c.loop-name.name-index c.deref-name-items.ensures.value c.in_ok-freed.ensures refl c.loop-name-test.true in
    freed_more test c.args.matching.now c.args.links.now c.requires.names c.requires.links c.requires.live c.loop-name.name-index no_match at.0
    c.loop-name.matching c.loop-name.links c.loop-name.invariant c.take_match-m.result c.take_match-m.new.self.matches
    (subst (λ n. is_in (names_of c.take_match-m.result) n ≡ true) at.1 c.take_match-m.ensures.name) c.take_match-m.ensures.matches
    c.add_unmatched.new.self c.forget.new.self
    (ap (λ m. m.matches) c.in_ok-add_unmatched.ensures.ok)
    (ap (λ m. m.unmatched) c.in_ok-add_unmatched.ensures.ok
    ∙ (ap (λ l. l ++ get_or c.deref-name-items.result.now c.loop-name.name-index 0 ∷ []) c.take_match-m.ensures.unmatched ∙ ap (λ n. c.loop-name.matching.unmatched ++ n ∷ []) at.1))
    c.forget.ensures
