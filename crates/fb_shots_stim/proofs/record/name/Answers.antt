use Rattle.std.proofs.Common.{◌≡◌, ◌<◌, true, false, refl, ◌∙◌, eqb, arith}
use Rattle.std.specs.List.{list_any}
use Rattle.std.proofs.lemmas.Bool.{lt-ltb}
use Rattle.fb_shots_stim.proofs.NamedLemmas.{marked_made, marked_more, named_as_marked}
use Rattle.fb_shots_stim.proofs.record.name.Goals as goal

pub index-requires : goal.index-requires
index-requires c =
    let lt : c.args.index < c.args.detectors = c.if-index-detectors.false in
    omega (arith, c.in_ok-make_marks.ensures.size, c.make_marks.new.marks.ok.0)

pub index_mut-requires : goal.index_mut-requires
index_mut-requires c =
    let lt : c.args.index < c.args.detectors = c.if-index-detectors.false in
    omega (arith, c.in_ok-make_marks.ensures.size, c.make_marks.new.marks.ok.0)

pub returns-then-index-clause-refused : goal.returns-then-index-clause-refused
returns-then-index-clause-refused c =
    let made = c.in_ok-make_marks.ensures in
    let lt : c.args.index < c.args.detectors = c.if-index-detectors.false in
    let m = marked_made _ _ c.make_marks.new.marks.items c.args.named.now.items c.requires made.size made.kept made.none in
    let named : list_any (eqb c.args.index) c.args.named.now.items ≡ true =
    named_as_marked _ _ _ _ _ m made.size lt c.index.ensures ∙ c.if-index.true in
    rw (lt-ltb c.args.index c.args.detectors lt, named) refl

pub returns-clause-ok : goal.returns-clause-ok
returns-clause-ok c =
    let made = c.in_ok-make_marks.ensures in
    let lt : c.args.index < c.args.detectors = c.if-index-detectors.false in
    let m = marked_made _ _ c.make_marks.new.marks.items c.args.named.now.items c.requires made.size made.kept made.none in
    let new : list_any (eqb c.args.index) c.args.named.now.items ≡ false =
    named_as_marked _ _ _ _ _ m made.size lt c.index.ensures ∙ c.if-index.false in
    rw (c.in_ok-push.ensures.items, lt-ltb c.args.index c.args.detectors lt, new) refl

pub returns-clause-marked : goal.returns-clause-marked
returns-clause-marked c =
    let made = c.in_ok-make_marks.ensures in
    let lt : c.args.index < c.args.detectors = c.if-index-detectors.false in
    let m = marked_made _ _ c.make_marks.new.marks.items c.args.named.now.items c.requires made.size made.kept made.none in
    let new : list_any (eqb c.args.index) c.args.named.now.items ≡ false =
    named_as_marked _ _ _ _ _ m made.size lt c.index.ensures ∙ c.if-index.false in
    rw c.in_ok-push.ensures.items (marked_more _ _ c.args.named.now.items c.args.index m made.size lt new)
