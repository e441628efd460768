use Rattle.std.proofs.Common.{◌≡◌, ◌∙◌, ap, filter, ltb, map, rules, tests}
use Rattle.std.proofs.lemmas.Fn.{filter_same}
use Rattle.fb_graph.specs.InternalCutEntries.{cut_in}
use Rattle.fb_graph.specs.Printed.{is_positive}
use Rattle.fb_graph.proofs.CutEntries.{HaveRanges-filter, map-filter}
use Rattle.fb_graph.proofs.cuts.CutList.keep_positive.Goals as goal

kept : (c : goal.After-retain) → c.retain.new.self.items ≡ filter (λ e. ltb 0 e.value) c.self.inside.entries.items
kept c = filter_same _ (λ e. ltb 0 e.value) _ (λ d b f k. search (rules, tests)) _ _ c.retain.ensures.filtered

pub invariant_of-self : goal.invariant_of-self
invariant_of-self c =
    rw (kept c) (HaveRanges-filter c.self.inside.vertices.items c.self.inside.entries.items (λ e. ltb 0 e.value) c.self.invariant)

pub returns : goal.returns
returns c =
    let vertices = c.self.inside.vertices.items in
    ap (map (cut_in vertices)) (kept c)
    ∙ (map-filter (cut_in vertices) is_positive c.self.inside.entries.items
    ∙ ap (filter is_positive) c.self.view_is)
