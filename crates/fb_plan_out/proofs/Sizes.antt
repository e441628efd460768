-- The text of a plan is shorter than the reader allows.
use Rattle.std.proofs.Common.{◌≡◌, ℕ, zero, suc, ◌+◌, ◌*◌, ◌<◌, ◌≤◌, ◌^◌, ◌⊎◌, inl, inr, ◌==◌, ◌&&◌, Bool, true, false, cond, List, [], ◌∷◌, ◌++◌, length, map, filter, get_or, sum_by, All, refl, ap, arith, length-append}
use Rattle.std.specs.Prelude.{Option, Some, None, codes, decimal}
use Rattle.std.specs.List.{range_with_len}
use Rattle.std.proofs.lemmas.Bool.{cases_eq, eq-eqb, ne_eqb}
use Rattle.std.proofs.lemmas.Fmt.{length-decimal-le}
use Rattle.std.proofs.lemmas.List.Elements.{All-head, All-tail}
use Rattle.std.proofs.lemmas.List.FromFn.{length-range_with_len}
use Rattle.std.proofs.lemmas.List.Sums.{sum_by-cons}
use Rattle.json.specs.Token.{Token}
use Rattle.json.specs.Json as json
use Rattle.json.specs.Tree.{json_tokens, items_tokens, room}
use Rattle.json.specs.Print.{escape_byte, print, print_from, separator, begins, ends, token_text}
use Rattle.json.proofs.Printed.Trees.{room-append}
use Rattle.fb_graph.specs.Counts.{as_count}
use Rattle.fb_graph.specs.Limits.{most_vertices}
use Rattle.fb_plan.specs.Plans.{PlanTree, join_at, most_units, owner_of}
use Rattle.fb_plan.specs.Vertices.{is_node, owned_by}
use Rattle.fb_json.specs.JsonText.{most_bytes}
use Rattle.fb_plan_out.specs.PlanWriting.{items_from, pair_json, ranges_json, ranges_at, unit_json, fusion_json, plan_json, text_of_plan}
use Rattle.fb_plan_out.proofs.Owned.{length-ranges_at}
use Rattle.fb_plan_out.proofs.Readback.{IsSmall, IsWritable}

-- ---- a text is no longer than the room for its tokens

length-separator : (b : Bool) → length {A = ℕ} (cond b (44 ∷ []) []) ≤ 1
length-separator true = omega arith
length-separator false = omega arith

length-print : (c : Bool) (ts : List Token) → length (print_from c ts) ≤ room ts
unfolding print_from
length-print c [] = omega arith
length-print c (t ∷ ts) =
    omega (
      arith,
      length-append (separator c t) (token_text t ++ print_from (ends t) ts),
      length-append (token_text t) (print_from (ends t) ts),
      length-separator (c && begins t),
      length-print (ends t) ts,
    )

-- ---- the room for lists

room-list : {X : Type 0} (entry : X → json.Json) (cost : X → ℕ) (xs : List X) → All (λ x. room (json_tokens (entry x)) ≤ cost x) xs
    → room (items_tokens (items_from (map entry xs))) ≤ sum_by cost xs + 2
room-list entry cost [] all = omega arith
room-list entry cost (x ∷ xs) all =
    omega (
      arith,
      room-append (json_tokens (entry x)) (items_tokens (items_from (map entry xs))),
      All-head (λ y. room (json_tokens (entry y)) ≤ cost y) x xs all,
      room-list entry cost xs (All-tail (λ y. room (json_tokens (entry y)) ≤ cost y) x xs all),
      sum_by-cons cost x xs,
    )

sum-affine : (f : ℕ → ℕ) (c : ℕ) (xs : List ℕ) → sum_by (λ x. 46 * f x + c) xs ≡ 46 * sum_by f xs + c * length xs
sum-affine f c [] = omega arith
sum-affine f c (x ∷ xs) = omega (arith, sum_by-cons (λ y. 46 * f y + c) x xs, sum_by-cons f x xs, sum-affine f c xs)

sum-constant : {X : Type 0} (c : ℕ) (xs : List X) → sum_by (λ x. c) xs ≡ c * length xs
sum-constant c [] = omega arith
sum-constant c (x ∷ xs) = omega (arith, sum_by-cons (λ y. c) x xs, sum-constant c xs)

digits : (n : ℕ) → n < 2 ^ 64 → length (decimal n) ≤ 20
digits n small = length-decimal-le 20 n (omega arith) (omega arith) small

room-pair : (p : ℕ × ℕ) → IsSmall p → room (json_tokens (pair_json p)) ≤ 46
room-pair p small = omega (arith, digits p.0 small.0, digits p.1 small.1)

room-ranges : (ranges : List (ℕ × ℕ)) → All IsSmall ranges → room (json_tokens (ranges_json ranges)) ≤ 46 * length ranges + 4
room-ranges ranges small =
    omega (
      arith,
      room-list pair_json (λ p. 46) ranges (λ k d less. room-pair (get_or ranges k d) (small k d less)),
      sum-constant 46 ranges,
    )

room-unit : (t : PlanTree) (n : ℕ) → IsWritable t → room (json_tokens (unit_json t n)) ≤ 46 * length (owned_by t n) + 4
room-unit t n small = omega (arith, room-ranges (ranges_at t n) (small.units n), length-ranges_at t n)

-- the keys with their quotes and colons
key_of : length (token_text (Token.key (codes "of"))) ≡ 5
unfolding escape_byte
key_of = refl

key_interface : length (token_text (Token.key (codes "interface"))) ≡ 12
unfolding escape_byte
key_interface = refl

key_units : length (token_text (Token.key (codes "units"))) ≡ 8
unfolding escape_byte
key_units = refl

key_fusions : length (token_text (Token.key (codes "fusions"))) ≡ 10
unfolding escape_byte
key_fusions = refl

room-fusion : (t : PlanTree) (i : ℕ) → IsWritable t → room (json_tokens (fusion_json t i)) ≤ 46 * length (owned_by t (t.units + i)) + 100
room-fusion t i small =
    omega (
      arith,
      room-append (json_tokens (pair_json (join_at t.joins i)))
          (Token.key (codes "interface") ∷ (json_tokens (unit_json t (t.units + i)) ++ Token.end_object ∷ [])),
      room-append (json_tokens (unit_json t (t.units + i))) (Token.end_object ∷ []),
      key_of,
      key_interface,
      room-pair (join_at t.joins i) (small.joins i),
      room-unit t (t.units + i) small,
    )

-- ---- all nodes together own each vertex at most once

one_of : (m a s k : ℕ) → (m < a + s → sum_by (λ i. as_count (m == a + i)) (range_with_len s k) ≡ 0)
    × (sum_by (λ i. as_count (m == a + i)) (range_with_len s k) ≤ 1)
one_of m a s zero = (λ before. refl, omega arith)
one_of m a s (suc k) =
    let rest = one_of m a (s + 1) k in (
      λ before.
          let apart : m ≡ a + s → ⊥ = λ same. absurd (omega (arith, same, before)) in
          omega (
            arith,
            sum_by-cons (λ i. as_count (m == a + i)) s (range_with_len (s + 1) k),
            ap as_count (ne_eqb m (a + s) apart),
            rest.0 (omega arith),
          ),
      step rest (cases_eq m (a + s)),
    )
  where
    step : (m < a + (s + 1) → sum_by (λ i. as_count (m == a + i)) (range_with_len (s + 1) k) ≡ 0)
        × (sum_by (λ i. as_count (m == a + i)) (range_with_len (s + 1) k) ≤ 1)
        → (m ≡ a + s) ⊎ (m ≡ a + s → ⊥) → sum_by (λ i. as_count (m == a + i)) (range_with_len s (suc k)) ≤ 1
    step rest (inl same) =
        omega (
          arith,
          sum_by-cons (λ i. as_count (m == a + i)) s (range_with_len (s + 1) k),
          ap as_count (eq-eqb m (a + s) same),
          rest.0 (omega (arith, same)),
        )
    step rest (inr other) =
        omega (
          arith,
          sum_by-cons (λ i. as_count (m == a + i)) s (range_with_len (s + 1) k),
          ap as_count (ne_eqb m (a + s) other),
          rest.1,
        )

sum-nothing : (xs : List ℕ) → sum_by (λ i. 0) xs ≡ 0
sum-nothing [] = refl
sum-nothing (x ∷ xs) = omega (arith, sum_by-cons (λ i. 0) x xs, sum-nothing xs)

sum-both : (f g h : ℕ → ℕ) (xs : List ℕ) → ((x : ℕ) → h x ≡ f x + g x) → sum_by h xs ≡ sum_by f xs + sum_by g xs
sum-both f g h [] each = refl
sum-both f g h (x ∷ xs) each = omega (arith, sum_by-cons f x xs, sum_by-cons g x xs, sum_by-cons h x xs, each x, sum-both f g h xs each)

owned_in_all : (o : ℕ → Option ℕ) (a k : ℕ) (vs : List ℕ)
    → sum_by (λ i. length (filter (λ v. is_node (a + i) (o v)) vs)) (range_with_len 0 k) ≤ length vs
owned_in_all o a k [] = omega (arith, sum-nothing (range_with_len 0 k))
owned_in_all o a k (v ∷ vs) =
    omega (
      arith,
      sum-both (λ i. as_count (is_node (a + i) (o v))) (λ i. length (filter (λ u. is_node (a + i) (o u)) vs))
          (λ i. length (filter (λ u. is_node (a + i) (o u)) (v ∷ vs))) (range_with_len 0 k) (λ i. split (is_node (a + i) (o v)) i),
      here (o v),
      owned_in_all o a k vs,
    )
  where
    split : (b : Bool) (i : ℕ) → length (cond b (v ∷ filter (λ u. is_node (a + i) (o u)) vs) (filter (λ u. is_node (a + i) (o u)) vs))
        ≡ as_count b + length (filter (λ u. is_node (a + i) (o u)) vs)
    split true i = omega arith
    split false i = omega arith

    here : (p : Option ℕ) → sum_by (λ i. as_count (is_node (a + i) p)) (range_with_len 0 k) ≤ 1
    here None = omega (arith, sum-nothing (range_with_len 0 k))
    here (Some m) = (one_of m a 0 k).1

pub text_fits : (t : PlanTree) → IsWritable t → t.units ≤ most_units → length t.joins ≤ most_units
    → length t.owners ≤ most_vertices → length (text_of_plan t) ≤ most_bytes
unfolding plan_json
text_fits t small units joins owners =
    omega (
      arith,
      length-append (print (json_tokens (plan_json t))) (10 ∷ []),
      length-print false (json_tokens (plan_json t)),
      key_units,
      key_fusions,
      room-append (items_tokens (items_from (map (unit_json t) (range_with_len 0 t.units))))
          (Token.key (codes "fusions") ∷ Token.begin_array ∷ (items_tokens (items_from (map (fusion_json t) (range_with_len 0 (length t.joins)))) ++ Token.end_object ∷ [])),
      room-append (items_tokens (items_from (map (fusion_json t) (range_with_len 0 (length t.joins))))) (Token.end_object ∷ []),
      room-list (unit_json t) (λ n. 46 * length (owned_by t (0 + n)) + 4) (range_with_len 0 t.units) (λ k d less. unit (get_or (range_with_len 0 t.units) k d)),
      room-list (fusion_json t) (λ i. 46 * length (owned_by t (t.units + i)) + 100) (range_with_len 0 (length t.joins))
          (λ k d less. room-fusion t (get_or (range_with_len 0 (length t.joins)) k d) small),
      sum-affine (λ n. length (owned_by t (0 + n))) 4 (range_with_len 0 t.units),
      sum-affine (λ i. length (owned_by t (t.units + i))) 100 (range_with_len 0 (length t.joins)),
      owned_in_all (owner_of t) 0 t.units (range_with_len 0 (length t.owners)),
      owned_in_all (owner_of t) t.units (length t.joins) (range_with_len 0 (length t.owners)),
      length-range_with_len 0 (length t.owners),
      length-range_with_len 0 t.units,
      length-range_with_len 0 (length t.joins),
    )
  where
    unit : (n : ℕ) → room (json_tokens (unit_json t n)) ≤ 46 * length (owned_by t (0 + n)) + 4
    unit n =
        let same : 0 + n ≡ n = omega arith in
        omega (arith, room-unit t n small, ap (λ m. length (owned_by t m)) same)
