-- The reader of plans gives a plan back from its text.
use Rattle.std.proofs.Common.{◌≡◌, ℕ, ◌≤◌, List, [], ◌∷◌, ◌++◌, length, refl, sym, subst, arith}
use Rattle.std.specs.Prelude.{Ok}
use Rattle.std.specs.Str.{IsUtf8}
use Rattle.std.proofs.lemmas.Bool.{le-ltb}
use Rattle.std.proofs.lemmas.Str.{IsUtf8-append}
use Rattle.json.proofs.Printed.Utf8.{IsUtf8-are_ascii}
use Rattle.fb_graph.specs.Limits.{DecodingGraph, IsGraph}
use Rattle.fb_plan.specs.Plans.{PlanTree, IsPlan}
use Rattle.fb_json.specs.JsonText.{most_bytes}
use Rattle.fb_plan_in.specs.PlanText.{plan_of_text}
use Rattle.fb_plan_out.specs.PlanWriting.{text_of_plan}
use Rattle.fb_plan_out.proofs.Owned.{plan_found, plan_writable}
use Rattle.fb_plan_out.proofs.Readback.{IsWritable, parts_found, value_read}
use Rattle.fb_plan_out.proofs.Sizes.{text_fits}

pub newline_utf8 : (text all : List ℕ) → IsUtf8 text → all ≡ text ++ 10 ∷ [] → IsUtf8 all
newline_utf8 text all utf8 is = subst IsUtf8 (sym is) (IsUtf8-append text (10 ∷ []) utf8 (IsUtf8-are_ascii (10 ∷ []) refl))

pub plan_reads_back : (g : DecodingGraph) (t : PlanTree) (text : List ℕ) → IsGraph g → IsPlan g t → IsUtf8 text → text ≡ text_of_plan t
    → plan_of_text text g ≡ Ok t
plan_reads_back g t text graph plan utf8 is =
    let small : IsWritable t = plan_writable g t graph plan in
    let fits : length (text_of_plan t) ≤ most_bytes =
    text_fits t small plan.tree.limit (omega (arith, plan.tree.limit, plan.tree.count)) (omega (arith, plan.count, graph.vertices)) in
    rw (is, le-ltb most_bytes (length (text_of_plan t)) fits, value_read t small (subst IsUtf8 is utf8), parts_found t) (plan_found g t plan)
