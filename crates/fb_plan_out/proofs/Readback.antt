-- The text of a plan is read as the ranges and fusions that it was written from.
use Rattle.std.proofs.Common.{◌≡◌, ℕ, ◌+◌, ◌<◌, ◌≤◌, ◌^◌, List, [], ◌∷◌, length, map, get_or, All, refl, sym, ap, ◌∙◌, arith, append-nil}
use Rattle.std.specs.Prelude.{Option, Some, Ok, codes, decimal, option_map, option_and_then}
use Rattle.std.specs.List.{range_with_len}
use Rattle.std.specs.Str.{IsUtf8}
use Rattle.std.proofs.lemmas.List.Elements.{All-head, All-tail}
use Rattle.std.proofs.lemmas.Str.{is_utf8-from_IsUtf8}
use Rattle.json.specs.Lex.{tokens}
use Rattle.json.specs.Json as json
use Rattle.json.specs.Tree as tree
use Rattle.json.specs.Print.{ArePrintable}
use Rattle.json.proofs.Printed.Decimals.{IsNumber-decimal}
use Rattle.json.proofs.Printed.Trees.{ArePrintable-json_tokens, value-json_tokens}
use Rattle.serde_json.specs.Data.{unsigned, Data, number, array, object, Items, no_items, item, no_members, member}
use Rattle.serde_json.specs.Read.{read, max_depth, of_json, of_items}
use Rattle.serde_json.specs.View.{items_of}
use Rattle.serde_json.proofs.Numbers.{number_of-decimal}
use Rattle.fb_plan.specs.Plans.{PlanTree, join_at}
use Rattle.fb_plan.specs.declared.faults.PlanFault.{PlanFault}
use Rattle.fb_plan.specs.declared.faults.PlanFault.TheVariants.{NotWhole}
use Rattle.fb_plan.specs.declared.faults.PlanPlace.TheVariants as place
use Rattle.fb_json.specs.JsonText.{value_of, entries_by}
use Rattle.fb_plan_in.specs.PlanText.{Fusion, fusion_of, pairs_of, parts_of, ranges_of}
use Rattle.fb_plan_out.specs.PlanWriting.{items_from, pair_json, ranges_json, ranges_at, unit_json, fusion_json, plan_json, text_of_plan}
use Rattle.fb_plan_out.proofs.Newline.{tokens-newline}

-- ---- the values that are read

abbrev pub pair_data : ℕ × ℕ → Data
pair_data p = array (item (number (unsigned p.0)) (item (number (unsigned p.1)) no_items))

abbrev pub ranges_data : List (ℕ × ℕ) → Data
ranges_data ranges = array (items_of (map pair_data ranges))

abbrev pub fusion_data : ℕ × ℕ → List (ℕ × ℕ) → Data
fusion_data p seam = object (member (codes "interface") (ranges_data seam) (member (codes "of") (pair_data p) no_members))

abbrev pub plan_data : Items → Items → Data
plan_data units fusions = object (member (codes "fusions") (array fusions) (member (codes "units") (array units) no_members))

abbrev pub IsSmall : ℕ × ℕ → Type 0
IsSmall p = (p.0 < 2 ^ 64) × (p.1 < 2 ^ 64)

number_read : (n : ℕ) → n < 2 ^ 64 → of_json (json.number (decimal n)) ≡ Some (number (unsigned n))
number_read n small = ap (option_map number) (number_of-decimal n small)

pair_read : (p : ℕ × ℕ) → IsSmall p → of_json (pair_json p) ≡ Some (pair_data p)
pair_read p small = rw (number_read p.0 small.0, number_read p.1 small.1) refl

list_read : {X : Type 0} (entry : X → json.Json) (value : X → Data) (xs : List X) → All (λ x. of_json (entry x) ≡ Some (value x)) xs
    → of_items (items_from (map entry xs)) ≡ Some (items_of (map value xs))
list_read entry value [] all = refl
list_read entry value (x ∷ xs) all =
    rw (
      All-head (λ y. of_json (entry y) ≡ Some (value y)) x xs all,
      list_read entry value xs (All-tail (λ y. of_json (entry y) ≡ Some (value y)) x xs all),
    ) refl

ranges_read : (ranges : List (ℕ × ℕ)) → All IsSmall ranges → of_json (ranges_json ranges) ≡ Some (ranges_data ranges)
ranges_read ranges small =
    ap (option_map array) (list_read pair_json pair_data ranges (λ k d less. pair_read (get_or ranges k d) (small k d less)))

fusion_read : (t : PlanTree) (i : ℕ) → IsSmall (join_at t.joins i) → All IsSmall (ranges_at t (t.units + i))
    → of_json (fusion_json t i) ≡ Some (fusion_data (join_at t.joins i) (ranges_at t (t.units + i)))
fusion_read t i small seam =
    rw (pair_read (join_at t.joins i) small, ranges_read (ranges_at t (t.units + i)) seam) refl

pub record IsWritable (t : PlanTree) : Type 0 where
  pub units : (n : ℕ) → All IsSmall (ranges_at t n)
  pub joins : (i : ℕ) → IsSmall (join_at t.joins i)

units_read : (t : PlanTree) → IsWritable t
    → of_items (items_from (map (unit_json t) (range_with_len 0 t.units)))
    ≡ Some (items_of (map (λ n. ranges_data (ranges_at t n)) (range_with_len 0 t.units)))
units_read t small =
    list_read (unit_json t) (λ n. ranges_data (ranges_at t n)) (range_with_len 0 t.units)
    (λ k d less. ranges_read (ranges_at t (get_or (range_with_len 0 t.units) k d)) (small.units (get_or (range_with_len 0 t.units) k d)))

fusions_read : (t : PlanTree) → IsWritable t
    → of_items (items_from (map (fusion_json t) (range_with_len 0 (length t.joins))))
    ≡ Some (items_of (map (λ i. fusion_data (join_at t.joins i) (ranges_at t (t.units + i))) (range_with_len 0 (length t.joins))))
fusions_read t small =
    list_read (fusion_json t) (λ i. fusion_data (join_at t.joins i) (ranges_at t (t.units + i))) (range_with_len 0 (length t.joins))
    (λ k d less.
    let i = get_or (range_with_len 0 (length t.joins)) k d in
    fusion_read t i (small.joins i) (small.units (t.units + i)))

plan_read : (t : PlanTree) → IsWritable t
    → of_json (plan_json t)
    ≡ Some (plan_data (items_of (map (λ n. ranges_data (ranges_at t n)) (range_with_len 0 t.units)))
    (items_of (map (λ i. fusion_data (join_at t.joins i) (ranges_at t (t.units + i))) (range_with_len 0 (length t.joins)))))
unfolding plan_json
plan_read t small = rw (units_read t small, fusions_read t small) refl

-- ---- the text as JSON

numbers_list : {X : Type 0} (entry : X → json.Json) (xs : List X) → All (λ x. tree.HasNumbers (entry x)) xs
    → tree.ItemsHaveNumbers (items_from (map entry xs))
numbers_list entry [] all = tt
numbers_list entry (x ∷ xs) all =
    (All-head (λ y. tree.HasNumbers (entry y)) x xs all, numbers_list entry xs (All-tail (λ y. tree.HasNumbers (entry y)) x xs all))

pair_numbers : (p : ℕ × ℕ) → IsSmall p → tree.HasNumbers (pair_json p)
pair_numbers p small = (IsNumber-decimal p.0 small.0, (IsNumber-decimal p.1 small.1, tt))

ranges_numbers : (ranges : List (ℕ × ℕ)) → All IsSmall ranges → tree.HasNumbers (ranges_json ranges)
ranges_numbers ranges small = numbers_list pair_json ranges (λ k d less. pair_numbers (get_or ranges k d) (small k d less))

plan_numbers : (t : PlanTree) → IsWritable t → tree.HasNumbers (plan_json t)
unfolding plan_json
plan_numbers t small = (
  numbers_list (unit_json t) (range_with_len 0 t.units)
      (λ k d less. ranges_numbers (ranges_at t (get_or (range_with_len 0 t.units) k d)) (small.units (get_or (range_with_len 0 t.units) k d))),
  (
    numbers_list (fusion_json t) (range_with_len 0 (length t.joins)) (λ k d less.
        let i = get_or (range_with_len 0 (length t.joins)) k d in
        (pair_numbers (join_at t.joins i) (small.joins i), (ranges_numbers (ranges_at t (t.units + i)) (small.units (t.units + i)), tt))),
    tt,
  ),
)

depth_list : {X : Type 0} (entry : X → json.Json) (n : ℕ) (xs : List X) → All (λ x. tree.depth (entry x) ≤ n) xs
    → tree.items_depth (items_from (map entry xs)) ≤ n
depth_list entry n [] all = omega arith
depth_list entry n (x ∷ xs) all =
    omega (
      arith,
      All-head (λ y. tree.depth (entry y) ≤ n) x xs all,
      depth_list entry n xs (All-tail (λ y. tree.depth (entry y) ≤ n) x xs all),
    )

ranges_depth : (ranges : List (ℕ × ℕ)) → tree.depth (ranges_json ranges) ≤ 2
ranges_depth ranges = omega (arith, depth_list pair_json 1 ranges (λ k d less. omega arith))

fusion_depth : (t : PlanTree) (i : ℕ) → tree.depth (fusion_json t i) ≤ 3
fusion_depth t i = omega (arith, ranges_depth (ranges_at t (t.units + i)))

plan_depth : (t : PlanTree) → tree.depth (plan_json t) ≤ 5
unfolding plan_json
plan_depth t =
    omega (
      arith,
      depth_list (unit_json t) 3 (range_with_len 0 t.units)
          (λ k d less. omega (arith, ranges_depth (ranges_at t (get_or (range_with_len 0 t.units) k d)))),
      depth_list (fusion_json t) 3 (range_with_len 0 (length t.joins))
          (λ k d less. fusion_depth t (get_or (range_with_len 0 (length t.joins)) k d)),
    )

json_read : (j : json.Json) (d : Data) (text : List ℕ) → tokens text ≡ tree.json_tokens j → of_json j ≡ Some d
    → tree.depth j ≤ max_depth → read text ≡ Some d
json_read j d text same is shallow =
    ap (λ ts. option_and_then of_json (option_and_then (λ p. json.if_last p.0 p.1) (json.value max_depth ts)))
    (same ∙ sym (append-nil (tree.json_tokens j)))
    ∙ ap (λ o. option_and_then of_json (option_and_then (λ p. json.if_last p.0 p.1) o)) (value-json_tokens j max_depth [] shallow)
    ∙ is

pub printable_plan : (t : PlanTree) → IsWritable t → ArePrintable (tree.json_tokens (plan_json t))
printable_plan t small = ArePrintable-json_tokens (plan_json t) (plan_numbers t small)

pub value_read : (t : PlanTree) → IsWritable t → IsUtf8 (text_of_plan t)
    → value_of (text_of_plan t)
    ≡ Some (plan_data (items_of (map (λ n. ranges_data (ranges_at t n)) (range_with_len 0 t.units)))
    (items_of (map (λ i. fusion_data (join_at t.joins i) (ranges_at t (t.units + i))) (range_with_len 0 (length t.joins)))))
value_read t small utf8 =
    rw (is_utf8-from_IsUtf8 (text_of_plan t) utf8)
    (json_read (plan_json t) _ (text_of_plan t) (tokens-newline (tree.json_tokens (plan_json t)) (printable_plan t small))
    (plan_read t small) (omega (arith, plan_depth t)))

-- ---- what the value says

pairs_found : (ranges : List (ℕ × ℕ)) → pairs_of (items_of (map pair_data ranges)) ≡ Some ranges
pairs_found [] = refl
pairs_found (r ∷ ranges) = rw (pairs_found ranges) refl

entries_found : {X A : Type 0} (entry_of : Data → Option A) (fault : ℕ → PlanFault) (value : X → Data) (made : X → A) (i : ℕ) (xs : List X)
    → All (λ x. entry_of (value x) ≡ Some (made x)) xs
    → entries_by entry_of fault i (items_of (map value xs)) ≡ Ok (map made xs)
entries_found entry_of fault value made i [] all = refl
entries_found entry_of fault value made i (x ∷ xs) all =
    rw (
      All-head (λ y. entry_of (value y) ≡ Some (made y)) x xs all,
      entries_found entry_of fault value made (i + 1) xs (All-tail (λ y. entry_of (value y) ≡ Some (made y)) x xs all),
    ) refl

fusion_found : (p : ℕ × ℕ) (seam : List (ℕ × ℕ)) → fusion_of (fusion_data p seam) ≡ Some (record { left = p.0; right = p.1; seam = seam })
fusion_found p seam = rw (pairs_found seam) refl

abbrev pub fusion_at : PlanTree → ℕ → Fusion
fusion_at t i = record { left = (join_at t.joins i).0; right = (join_at t.joins i).1; seam = ranges_at t (t.units + i) }

pub parts_found : (t : PlanTree)
    → parts_of (plan_data (items_of (map (λ n. ranges_data (ranges_at t n)) (range_with_len 0 t.units)))
    (items_of (map (λ i. fusion_data (join_at t.joins i) (ranges_at t (t.units + i))) (range_with_len 0 (length t.joins)))))
    ≡ Ok (map (ranges_at t) (range_with_len 0 t.units), map (fusion_at t) (range_with_len 0 (length t.joins)))
unfolding parts_of
parts_found t =
    rw (
      entries_found ranges_of (λ i. NotWhole (place.Unit i)) (λ n. ranges_data (ranges_at t n)) (ranges_at t) 0 (range_with_len 0 t.units)
          (λ k d less. pairs_found (ranges_at t (get_or (range_with_len 0 t.units) k d))),
      entries_found fusion_of (λ i. NotWhole (place.Fusion i)) (λ i. fusion_data (join_at t.joins i) (ranges_at t (t.units + i)))
          (fusion_at t) 0 (range_with_len 0 (length t.joins))
          (λ k d less.
          let i = get_or (range_with_len 0 (length t.joins)) k d in
          fusion_found (join_at t.joins i) (ranges_at t (t.units + i))),
    ) refl
