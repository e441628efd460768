-- A list whose entries are read one after another.
use Rattle.std.proofs.Common.{ℕ, ◌≡◌, ◌<◌, List, length, get_or, drop, Option, None, Err, refl, sym}
use Rattle.std.proofs.Math.Seq.{drop-cons}
use Rattle.serde_json.specs.Data.{Data}
use Rattle.serde_json.specs.View.{view, items_view}
use Rattle.serde_json.specs.declared.value.Value.{Value}
use Rattle.fb_json.specs.JsonText.{onto}
use Rattle.fb_plan.specs.declared.faults.PlanPlace.{PlanPlace}
use Rattle.fb_plan.specs.declared.faults.PlanFault.TheVariants.{NotWhole}
use Rattle.fb_plan_in.specs.PlanText.{entries_of}

-- the first of the rest isn't of its form
pub faulty : {A : Type 0} (entry_of : Data → Option A) (at : ℕ → PlanPlace) (values : List Value) (i : ℕ) (value : Value) (found : List A)
    → i < length values → value ≡ get_or values i value → None ≡ entry_of (view value)
    → onto found (entries_of entry_of at i (items_view (drop i values))) ≡ Err (NotWhole (at i))
faulty entry_of at values i value found less is none = rw (drop-cons values i value less, sym is, sym none) refl
