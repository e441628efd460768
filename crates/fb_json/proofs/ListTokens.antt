-- Lists that are read token by token.
use Rattle.std.proofs.Common.{◌≡◌, ℕ, ◌-◌, ◌<◌, ◌≤◌, ◌∙◌, List, [], ◌∷◌, ◌++◌, length, Option, Some, None, refl, ap}
use Rattle.json.specs.Token.{Token}
use Rattle.json.specs.Json.{parse_map, after_end_array, items, value}
use Rattle.json.proofs.Grammar.{value-begin_array}
use Rattle.serde_json.specs.Data.{Data, array, Items, no_items, item}
use Rattle.serde_json.specs.Read.{of_json, of_items, converted}
use Rattle.fb_json.specs.NumberTokens.{Begins, items_by}
use Rattle.fb_json.proofs.JsonLoops.{converted-array, item_read, items_over}

items_by_push : {A : Type 0} (data_of : A → Data) (xs : List A) (x : A) (rest : Items) → items_by data_of xs (item (data_of x) rest) ≡ items_by data_of (xs ++ x ∷ []) rest
items_by_push data_of [] x rest = refl
items_by_push data_of (y ∷ xs) x rest = ap (item (data_of y)) (items_by_push data_of xs x rest)

one_more : {A : Type 0} (data_of : A → Data) (xs : List A) (x : A) (r : Option (Items × List Token))
    → parse_map (items_by data_of xs) (parse_map (item (data_of x)) r) ≡ parse_map (items_by data_of (xs ++ x ∷ [])) r
one_more data_of xs x None = refl
one_more data_of xs x (Some p) = ap (λ ds. Some (ds, p.1)) (items_by_push data_of xs x p.0)

pub none_before : (r : Option (Items × List Token)) → r ≡ parse_map (λ a. a) r
none_before None = refl
none_before (Some p) = refl

-- the list that begins with these tokens goes on, after the entries so far, with those
abbrev pub GoesOn : {A : Type 0} → (A → Data) → ℕ → List Token → List A → ℕ → List Token → Type 0
GoesOn data_of depth start xs n rest =
    converted of_items (items (value depth) (length start) start) ≡ parse_map (items_by data_of xs) (converted of_items (items (value depth) n rest))

pub goes_on : {A : Type 0} (data_of : A → Data) (depth : ℕ) (start : List Token) (xs : List A) (n : ℕ) (ts r : List Token) (x : A) → 0 < n → after_end_array ts ≡ None
    → Begins depth ts (data_of x) r → GoesOn data_of depth start xs n ts → GoesOn data_of depth start (xs ++ x ∷ []) (n - 1) r
goes_on data_of depth start xs n ts r x some going first h =
    h ∙ ap (parse_map (items_by data_of xs)) (item_read (value depth) n ts r (data_of x) some going first) ∙ one_more data_of xs x (converted of_items (items (value depth) (n - 1) r))

pub list_read : {A : Type 0} (data_of : A → Data) (depth : ℕ) (start : List Token) (xs : List A) (n : ℕ) (ts r : List Token) → 0 < depth → length ts ≤ n → after_end_array ts ≡ Some r
    → GoesOn data_of (depth - 1) start xs n ts → Begins depth (Token.begin_array ∷ start) (array (items_by data_of xs no_items)) r
list_read data_of depth start xs n ts r deep enough over h =
    ap (converted of_json) (value-begin_array depth start deep)
    ∙ converted-array (items (value (depth - 1)) (length start) start)
    ∙ ap (parse_map array) (h ∙ ap (parse_map (items_by data_of xs)) (items_over (value (depth - 1)) n ts r enough over))
