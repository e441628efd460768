use Rattle.std.proofs.Common.{◌≡◌, ◌∙◌, true, is_some, sym}
use Rattle.fb_layers.specs.Layers.{layer_at}
use Rattle.fb_layers.specs.InternalSearch.{Grows}
use Rattle.fb_layers.proofs.Searching.{Grows-refl, Grows-trans, passed_more, root_reached, still_reached}
use Rattle.fb_layers.proofs.distances.search_from.Goals as goal

pub loop-place-init : goal.loop-place-init
loop-place-init c =
    let (searched, grows, reached) =
    root_reached c.args.graph.now c.args.search.now c.requires.searched c.args.root c.requires.below
    (sym c.is_virtual.ensures ∙ c.if-is_virtual.false) c.requires.passed in
    rw (c.in_ok-reach.ensures, c.len-place.ensures) (record {
      within = grows.longer;
      searched = searched;
      grows = Grows-refl _;
    })

pub returns-clause-passed : goal.returns-clause-passed
returns-clause-passed c =
    let (searched, grows, reached) =
    root_reached c.args.graph.now c.args.search.now c.requires.searched c.args.root c.requires.below
    (sym c.is_virtual.ensures ∙ c.if-is_virtual.false) c.requires.passed in
    let first : Grows c.args.search.now c.reach.new.self = rw c.in_ok-reach.ensures grows in
    let here : is_some (layer_at c.reach.new.self.layers c.args.root) ≡ true = rw c.in_ok-reach.ensures reached in
    passed_more c.args.graph.now c.args.search.now c.loop-place.search c.args.root
    (Grows-trans c.args.search.now c.reach.new.self c.loop-place.search first c.loop-place.invariant.grows) c.requires.passed
    (λ real. still_reached c.reach.new.self c.loop-place.search c.args.root c.loop-place.invariant.grows here)
