use Rattle.std.proofs.Common.{ℕ, ◌≡◌, ◌<◌, ◌∙◌, List, length, get_or, drop, Option, None, Err, refl, sym, arith}
use Rattle.std.proofs.Math.Seq.{drop-cons}
use Rattle.std.proofs.lemmas.Grind.{common_steps}
use Rattle.serde_json.specs.Data.{Data}
use Rattle.serde_json.specs.View.{view, items_view}
use Rattle.serde_json.specs.declared.value.Value.{Value}
use Rattle.fb_json.specs.JsonText.{onto}
use Rattle.fb_graph_in.specs.GraphText.{edge_of, entries_of}
use Rattle.fb_graph_in.specs.declared.faults.Place.{Place}
use Rattle.fb_graph_in.specs.declared.faults.Place.TheVariants as place
use Rattle.fb_graph_in.specs.declared.faults.TextFault.TheVariants.{NotWhole}
use Rattle.fb_graph_in.proofs.entries.edges.Goals as goal

-- the first of the rest isn't of its form
faulty : {A : Type 0} (entry_of : Data → Option A) (at : ℕ → Place) (values : List Value) (i : ℕ) (value : Value) (found : List A)
    → i < length values → value ≡ get_or values i value → None ≡ entry_of (view value)
    → onto found (entries_of entry_of at i (items_view (drop i values))) ≡ Err (NotWhole (at i))
faulty entry_of at values i value found less is none = rw (drop-cons values i value less, sym is, sym none) refl

pub returns-in_default-clause-err : goal.returns-in_default-clause-err
returns-in_default-clause-err c = λ other.
    c.loop-i.invariant
    ∙ faulty edge_of place.Edge c.args.values.now c.loop-i.i c.index-values-i.result c.loop-i.found.items c.loop-i-test.true
    c.index-values-i.is c.in_default.ensures

pub loop-i-preserved : goal.loop-i-preserved
loop-i-preserved c = grind (arith, common_steps)

pub returns-clause-ok : goal.returns-clause-ok
returns-clause-ok c = grind (arith, common_steps)
