-- Lists and members that are read token by token.
use Rattle.std.proofs.Common.{◌≡◌, ℕ, ◌+◌, ◌-◌, ◌<◌, ◌∙◌, List, [], ◌∷◌, length, ℤ, pos, negsuc, Option, Some, None, Ok, refl, ap, arith}
use Rattle.json.specs.Token.{Token}
use Rattle.json.specs.Json.{parse_map, after_end_array, items, value}
use Rattle.json.proofs.Grammar.{value-begin_array}
use Rattle.serde_json.specs.Data.{Data, array, no_items, item, number}
use Rattle.serde_json.specs.Find.{of_integer}
use Rattle.serde_json.specs.Read.{of_json, converted}
use Rattle.fb_json.specs.JsonText.{natural_of}
use Rattle.fb_json.specs.NumberTokens.{Begins, natural_data, items_by}
use Rattle.fb_json.proofs.JsonLoops.{converted-array, item_read, items_over}
use Rattle.fb_graph_in.specs.GraphText.{whole_of, edge_of, entries_of}
use Rattle.fb_graph_in.specs.declared.faults.Place.{Place}
use Rattle.fb_graph_in.specs.InternalTokens.{edge_data}

-- ---- what the entries of a list are

whole_of-number : (z : ℤ) → whole_of (number (of_integer z)) ≡ Some z
whole_of-number (pos n) = refl
whole_of-number (negsuc n) = refl

edge_of-edge_data : (e : ℕ × ℕ × ℤ) → edge_of (edge_data e) ≡ Some e
edge_of-edge_data (a, b, w) = rw (whole_of-number w)

entries_of-items_by : {A : Type 0} (entry_of : Data → Option A) (at : ℕ → Place) (data_of : A → Data) → ((x : A) → entry_of (data_of x) ≡ Some x)
    → (i : ℕ) (xs : List A) → entries_of entry_of at i (items_by data_of xs no_items) ≡ Ok xs
entries_of-items_by entry_of at data_of is i [] = refl
entries_of-items_by entry_of at data_of is i (x ∷ xs) = rw (is x, entries_of-items_by entry_of at data_of is (i + 1) xs)

pub entries_of-naturals : (at : ℕ → Place) (xs : List ℕ) → entries_of natural_of at 0 (items_by natural_data xs no_items) ≡ Ok xs
entries_of-naturals at xs = entries_of-items_by natural_of at natural_data (λ n. refl) 0 xs

pub entries_of-edges : (at : ℕ → Place) (xs : List (ℕ × ℕ × ℤ)) → entries_of edge_of at 0 (items_by edge_data xs no_items) ≡ Ok xs
entries_of-edges at xs = entries_of-items_by edge_of at edge_data edge_of-edge_data 0 xs

-- ---- an edge

pub edge_read : (depth : ℕ) (t0 t1 t2 t3 t4 : List Token) (a b c : Data) → 0 < depth
    → after_end_array t0 ≡ None → after_end_array t1 ≡ None → after_end_array t2 ≡ None
    → length t1 < length t0 → length t2 < length t1 → length t3 < length t2
    → Begins (depth - 1) t0 a t1 → Begins (depth - 1) t1 b t2 → Begins (depth - 1) t2 c t3 → after_end_array t3 ≡ Some t4
    → Begins depth (Token.begin_array ∷ t0) (array (item a (item b (item c no_items)))) t4
edge_read depth t0 t1 t2 t3 t4 a b c deep o0 o1 o2 l1 l2 l3 first second third over =
    let p = value (depth - 1) in
    let n = length t0 in
    ap (converted of_json) (value-begin_array depth t0 deep)
    ∙ converted-array (items p n t0)
    ∙ ap (parse_map array) (
    item_read p n t0 t1 a (omega arith) o0 first
    ∙ ap (parse_map (item a)) (item_read p (n - 1) t1 t2 b (omega arith) o1 second
    ∙ ap (parse_map (item b)) (item_read p (n - 1 - 1) t2 t3 c (omega arith) o2 third
    ∙ ap (parse_map (item c)) (items_over p (n - 1 - 1 - 1) t3 t4 (omega arith) over))))
