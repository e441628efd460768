-- The rows of shots by those of the busy ones: the others have neither defects nor negative weights.
use Rattle.std.proofs.Common.{◌≡◌, ℕ, ◌<◌, ◌==◌, Bool, true, false, not, if◌then◌else◌, count_by, map, filter, All, pos, List, [], ◌∷◌, length, refl, sym, ◌∙◌, arith}
use Rattle.std.specs.Cmp.{signed_Decides}
use Rattle.std.specs.Ordering.{int_eq}
use Rattle.std.proofs.lemmas.Bool.{eqb-true, not-false, or_parts}
use Rattle.std.proofs.lemmas.List.Elements.{All-nil, All-head, All-tail}
use Rattle.std.proofs.lemmas.List.Sums.{length-filter}
use Rattle.std.proofs.lemmas.Slice.Zip.{AllZip-long}
use Rattle.fb_crew.specs.Windows.{AreRows, IsShotRow}
use Rattle.fb_gen.proofs.Fusions.{count-map}
use Rattle.fb_graph.specs.Answers.{IsBest}
use Rattle.fb_graph.specs.Certificate.{IsPrintedCut}
use Rattle.fb_graph.specs.Limits.{DecodingGraph, IsGraph, IsShot, ShotValue}
use Rattle.fb_graph.specs.Parity.{is_in}
use Rattle.fb_graph.specs.ShotGraphs.{shot_problem}
use Rattle.fb_graph.specs.Signs.{base_of, solved_problem}
use Rattle.fb_graph.specs.declared.parts.Row.{Row}
use Rattle.fb_graph.specs.declared.parts.Row.TheVariants.{Best}
use Rattle.fb_graph.proofs.ShiftedRows.{best_has_no_odd}
use Rattle.fb_graph.proofs.Sets.{rising-nil}
use Rattle.fb_run.specs.InternalBusy.{is_busy_for, rows_in_places}

empty_is_best : (g : DecodingGraph) (shot : ShotValue) → ((v : ℕ) → is_in shot.defects v ≡ false) → base_of g shot ≡ pos 0
    → IsBest g shot [] (pos 0) (pos 0) []
empty_is_best g shot none zero = record {
  edge_set = record { rising = rising-nil; within = All-nil (λ k. k < length (shot_problem g shot).edges) };
  flips = λ v real. sym (none v);
  bases = sym zero;
  weighs = refl;
  printed = All-nil (IsPrintedCut (solved_problem g shot));
  rising = tt;
  fits = λ k d less. omega arith;
  total = refl;
}

none_in : (defects : List ℕ) → (length defects == 0) ≡ true → (v : ℕ) → is_in defects v ≡ false
none_in [] e v = refl
none_in (k ∷ ks) e v = absurd (omega (arith, eqb-true (length (k ∷ ks)) 0 e))

row_of_none : (g : DecodingGraph) (shot : ShotValue) → IsGraph g → IsShot g shot → is_busy_for g shot ≡ false
    → IsShotRow g shot (Best [] (pos 0) (pos 0) [])
row_of_none g shot graph is e =
    let parts = or_parts (not (length shot.defects == 0)) (not (int_eq (base_of g shot) (pos 0))) e in
    let zero = (signed_Decides (base_of g shot) (pos 0)).0 (not-false (int_eq (base_of g shot) (pos 0)) parts.1) in
    let best = empty_is_best g shot (none_in shot.defects (not-false (length shot.defects == 0) parts.0)) zero in
    (best_has_no_odd g shot [] (pos 0) (pos 0) [] graph is best, best)

-- the row of the first shot before those of the rest
row_before : (g : DecodingGraph) (shot : ShotValue) (shots : List ShotValue) (busy : Bool) (flags : List Bool) (solved : List Row)
    → IsGraph g → IsShot g shot → is_busy_for g shot ≡ busy
    → AreRows g (if busy then shot ∷ filter (is_busy_for g) shots else filter (is_busy_for g) shots) solved
    → ((rows : List Row) → AreRows g (filter (is_busy_for g) shots) rows → AreRows g shots (rows_in_places flags rows))
    → AreRows g (shot ∷ shots) (rows_in_places (busy ∷ flags) solved)
row_before g shot shots false flags solved graph is e rows rest = (row_of_none g shot graph is e, rest solved rows)
row_before g shot shots true flags [] graph is e rows rest = absurd rows
row_before g shot shots true flags (r ∷ rs) graph is e rows rest = (rows.0, rest rs rows.1)

-- rows of the busy shots, in their places, and empty ones in the others are rows of all
pub rows_of_all : (g : DecodingGraph) (shots : List ShotValue) (solved : List Row) → IsGraph g → All (IsShot g) shots
    → AreRows g (filter (is_busy_for g) shots) solved → AreRows g shots (rows_in_places (map (is_busy_for g) shots) solved)
rows_of_all g [] solved graph each rows = tt
rows_of_all g (shot ∷ shots) solved graph each rows =
    row_before g shot shots (is_busy_for g shot) (map (is_busy_for g) shots) solved graph (All-head (IsShot g) shot shots each) refl rows
    (λ others right. rows_of_all g shots others graph (All-tail (IsShot g) shot shots each) right)

-- there are as many rows as places of busy shots
pub rows_for_busy : (g : DecodingGraph) (shots : List ShotValue) (solved : List Row) → AreRows g (filter (is_busy_for g) shots) solved
    → length solved ≡ count_by (λ b. b) (map (is_busy_for g) shots)
rows_for_busy g shots solved rows =
    AllZip-long (IsShotRow g) (filter (is_busy_for g) shots) solved rows ∙ length-filter (is_busy_for g) shots
    ∙ sym (count-map (λ b. b) (is_busy_for g) shots)
