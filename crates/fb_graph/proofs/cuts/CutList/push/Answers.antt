use Rattle.std.proofs.Common.{◌≡◌, ◌∙◌, ◌++◌, ◌∷◌, [], ap, length, map, arith}
use Rattle.fb_graph.specs.InternalCutEntries.{cut_in}
use Rattle.fb_graph.specs.declared.cuts.CutEntry.{CutEntry}
use Rattle.fb_graph.specs.declared.parts.Cut.{Cut}
use Rattle.fb_graph.proofs.CutEntries.{cuts_pushed}
use Rattle.fb_graph.proofs.cuts.CutList.push.Goals as goal

pub returns-clause-ok : goal.returns-clause-ok
returns-clause-ok c =
    let before = c.self.inside.vertices.items in
    let more = c.args.vertices.now in
    let entries = c.self.inside.entries.items in
    let entry : CutEntry = record { value = c.args.value; first = c.len-first.result; end = c.len-end.result } in
    let longer : c.extend_from_slice.new.self.items ≡ before ++ more = c.in_ok-extend_from_slice.ensures.items in
    let end : c.len-end.result ≡ length (before ++ more) = omega (arith, ap length longer) in
    let cut : Cut = record { value = c.args.value; vertices = more } in
    ap (map (cut_in c.extend_from_slice.new.self.items))
    (c.push_reserved.ensures.items ∙ ap (λ l. l ++ entry ∷ []) c.reserve.ensures.items)
    ∙ (ap (λ l. map (cut_in l) (entries ++ entry ∷ [])) longer
    ∙ (cuts_pushed before more entries entry c.self.invariant.ranges (omega arith) end
    ∙ ap (λ l. l ++ cut ∷ []) c.self.view_is))
