use Rattle.std.proofs.Common.{ℕ, ◌≡◌, ◌∙◌, ◌++◌, ◌∷◌, [], List, Option, filter, sym, ap, append_assoc, append-nil}
use Rattle.std.proofs.lemmas.List.Elements.{filter-append}
use Rattle.std.proofs.lemmas.Result.{on_ok_weaker}
use Rattle.fb_graph.specs.Dual.{layers_of}
use Rattle.fb_graph.specs.Printed.{is_positive}
use Rattle.fb_graph.specs.declared.parts.Cut.{Cut}
use Rattle.fb_regions.specs.declared.marks.Mark.{Mark}
use Rattle.fb_regions.specs.declared.region.Region.{Region}
use Rattle.fb_regions.specs.InternalClock.{now_at}
use Rattle.fb_regions.specs.InternalNodes.{added_to, first_of, node_of, stack}
use Rattle.fb_regions.proofs.PositiveCuts.{positive-zero}
use Rattle.fb_regions.proofs.region.put_cuts.Goals as goal

-- the lower layers and the top one are all
whole_cuts : (marks : List (Option Mark)) (r : Region) (value : ℕ) (first added vertices set : List ℕ) (old lower new : List Cut) → first ≡ first_of marks r
    → added ≡ added_to marks r → vertices ≡ added → set ≡ first ++ vertices → lower ≡ old ++ filter is_positive (stack marks first vertices)
    → value ≡ r.top_value → new ≡ lower ++ filter is_positive (record { value = value; vertices = set } ∷ [])
    → new ≡ old ++ filter is_positive (layers_of (node_of marks r))
whole_cuts marks r value first added vertices set old lower new first_is added_is vertices_are set_is lower_is value_is new_is =
    rw (new_is, value_is, lower_is, set_is, vertices_are, first_is, added_is)
    (append_assoc old _ _
    ∙ ap (λ cuts. old ++ cuts) (sym (filter-append is_positive (node_of marks r).below ((node_of marks r).top ∷ []))))

pub returns-then-radius_at-eq0 : goal.returns-then-radius_at-eq0
returns-then-radius_at-eq0 c =
    let layers = layers_of (node_of c.args.marks.now (now_at c.args.clock c.args.region.now)) in
    sym
    (ap (λ cuts. c.args.cuts.now ++ cuts)
    (positive-zero layers (sym c.requires.radius ∙ (sym c.radius_at.ensures ∙ c.if-radius_at-eq0.true)))
    ∙ append-nil c.args.cuts.now)

pub returns : goal.returns
returns c =
    on_ok_weaker c.put_cut.result
    (λ is.
    whole_cuts c.args.marks.now (now_at c.args.clock c.args.region.now) c.top_at.result c.read_back.new.vertices.items c.read_back-2.new.vertices.items c.deref.result.now
    c.deref-2.result.now c.args.cuts.now c.put_lower_cuts.new.cuts c.put_cut.new.cuts c.in_ok-read_back.ensures
    c.in_ok-read_back-2.ensures c.deref.ensures.value (c.deref-2.ensures.value ∙ c.in_ok-put_lower_cuts.ensures.0) c.in_ok-put_lower_cuts.ensures.1 c.top_at.ensures is)
    c.put_cut.ensures
