use Rattle.std.proofs.Common.{◌≡◌, ◌++◌, ◌∷◌, [], length, reverse, refl, sym, ap, ◌∙◌, subst, append-nil, arith, false}
use Rattle.std.proofs.lemmas.List.{nil_from_length, reverse-append, reverse-reverse}
use Rattle.fb_links.specs.Names.{name_by}
use Rattle.fb_graph.specs.Parity.{is_in}
use Rattle.fb_regions.specs.InternalMerged.{IsEntered, renamed_region, renamed_regions}
use Rattle.fb_regions.specs.InternalPlaces.{IsIndex}
use Rattle.fb_regions.proofs.ByName.{names}
use Rattle.fb_regions.proofs.Indexed.{index_pushed}
use Rattle.fb_regions.proofs.MergedNames.{region_by}
use Rattle.fb_regions.proofs.MergedPlaces.{fresh_next, renamed_push}
use Rattle.fb_regions.proofs.merging.take_nodes.Goals as goal

pub loop-region-init : goal.loop-region-init
loop-region-init c =
    let back : reverse c.reverse.new.self.items ≡ c.args.others.now.items =
    ap reverse c.reverse.ensures.items ∙ reverse-reverse c.args.others.now.items in (
      ap (λ l. c.args.regions.now.items ++ renamed_regions (name_by c.args.nodes.now) l) back,
      c.requires.index,
    )

pub loop-region-preserved : goal.loop-region-preserved
loop-region-preserved c =
    let at = c.loop-region in
    let f = name_by c.args.nodes.now in
    let r = c.in-Some.region in
    let rest = reverse c.pop.new.self.items in
    let turned : reverse at.others.items ≡ r ∷ rest =
    ap reverse c.in-Some.ensures.items ∙ reverse-append c.pop.new.self.items (r ∷ []) in
    let all : at.regions.items ++ renamed_regions f (r ∷ rest) ≡ c.args.regions.now.items ++ renamed_regions f c.args.others.now.items =
    ap (λ l. at.regions.items ++ renamed_regions f l) (sym turned) ∙ at.invariant.0 in
    let fresh : is_in (names at.regions.items) (f r.name) ≡ false =
    fresh_next f at.regions.items rest _ r all c.requires.distinct in
    let pushed : c.take_node.new.regions.items ≡ at.regions.items ++ renamed_region f r ∷ [] =
    c.in_ok-take_node.ensures.nodes ∙ ap (λ s. at.regions.items ++ s ∷ []) (region_by _ f c.in_ok-names.ensures r) in (
      renamed_push f at.regions.items c.take_node.new.regions.items rest _ r all pushed,
      subst (λ l. IsIndex l c.take_node.new.places.items) (sym pushed)
          (index_pushed at.regions.items at.places.items c.take_node.new.places.items (renamed_region f r) (length at.regions.items) at.invariant.1 refl fresh
          (subst (λ name. IsEntered at.places.items c.take_node.new.places.items name (length at.regions.items)) (c.in_ok-names.ensures r.name)
          c.in_ok-take_node.ensures.entry)),
    )

pub returns-clause-nodes : goal.returns-clause-nodes
returns-clause-nodes c =
    let at = c.loop-region in
    let f = name_by c.args.nodes.now in
    let empty : at.others.items ≡ [] = nil_from_length _ (omega (arith, at.others.ok.0, c.in_default.ensures.cases.0)) in
    sym (append-nil at.regions.items)
    ∙ (ap (λ l. at.regions.items ++ renamed_regions f (reverse l)) (sym empty) ∙ at.invariant.0)
