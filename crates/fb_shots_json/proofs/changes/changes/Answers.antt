use Rattle.std.proofs.Common.{◌≡◌, All, length, codes, Some, None, option_map, sym, ap, subst, ◌∙◌}
use Rattle.serde_json.specs.Find.{get}
use Rattle.serde_json.specs.View.{view}
use Rattle.fb_graph.specs.Limits.{IsChange}
use Rattle.fb_json.specs.JsonText.{natural_of}
use Rattle.fb_shots_json.specs.TextJson.{changes_fault, entries_in, listed_changes, pair_of}
use Rattle.fb_shots_json.proofs.JudgedChanges.{changes_known, listed_good}
use Rattle.fb_shots_json.proofs.changes.changes.Goals as goal
use Rattle.fb_shots_json.proofs.changes.changes.Goals.{After-drop-erasures-2}

none : (c : After-drop-erasures-2) → changes_fault (length c.args.graph.now.edges) c.in-Some.erasures.items c.in-Some-2.pairs.items ≡ None
none c =
    ap (λ l. changes_fault (length c.args.graph.now.edges) l c.in-Some-2.pairs.items) (sym c.deref.ensures.value)
    ∙ ap (λ l. changes_fault (length c.args.graph.now.edges) c.deref.result.now l) (sym c.deref-2.ensures.value)
    ∙ sym c.changes_fault.ensures
    ∙ c.in_default-changes_fault.is

listed : (c : After-drop-erasures-2) → c.in_ok-changes.changes.items ≡ listed_changes c.in-Some.erasures.items c.in-Some-2.pairs.items
listed c =
    c.in_ok-changes.ensures.listed
    ∙ ap (λ l. listed_changes l c.deref-4.result.now) c.deref-3.ensures.value
    ∙ ap (λ l. listed_changes c.in-Some.erasures.items l) c.deref-4.ensures.value

pub returns-clause-ok : goal.returns-clause-ok
returns-clause-ok c =
    let erasures : entries_in natural_of (get (codes "erasures") (view c.args.value.now)) ≡ Some c.in-Some.erasures.items =
    ap (entries_in natural_of) (sym c.get.ensures) ∙ sym c.in_ok-erasures.ensures ∙ ap (option_map (λ v. v.items)) c.in-Some.is in
    let pairs : entries_in pair_of (get (codes "dynamic_weights") (view c.args.value.now)) ≡ Some c.in-Some-2.pairs.items =
    ap (entries_in pair_of) (sym c.get-2.ensures) ∙ sym c.in_ok-pairs.ensures ∙ ap (option_map (λ v. v.items)) c.in-Some-2.is in
    changes_known (length c.args.graph.now.edges) (view c.args.value.now) c.in-Some.erasures.items c.in-Some-2.pairs.items
    c.in_ok-changes.changes.items c.keep_last.new.changes.items erasures pairs (none c) (listed c) c.in_ok-keep_last.ensures.last

pub returns-clause-changes : goal.returns-clause-changes
returns-clause-changes c =
    c.in_ok-keep_last.ensures.kept (length c.args.graph.now.edges)
    (subst (All (IsChange (length c.args.graph.now.edges))) (sym (listed c))
    (listed_good (length c.args.graph.now.edges) c.in-Some.erasures.items c.in-Some-2.pairs.items (none c)))
