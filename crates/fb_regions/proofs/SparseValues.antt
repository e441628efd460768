-- The values of a table over few of many numbers.
use Rattle.std.proofs.Common.{ℕ, zero, suc, ◌≡◌, ◌+◌, ◌-◌, ◌≤◌, ◌<◌, ◌==◌, ◌&&◌, ◌⊎◌, inl, inr, Bool, true, false, not, ◌||◌, List, [], ◌∷◌, ◌++◌, length, get_or, set, Some, None, refl, sym, ap, ◌∙◌, arith, if◌then◌else◌}
use Rattle.std.proofs.Math.Bool.{and-false}
use Rattle.std.proofs.lemmas.Bool.{both_ways, cases_eq, cases_lt, eq-eqb, eqb-true, false_from_ne_true, ne_eqb, or_parts}
use Rattle.std.specs.List.{swap_remove}
use Rattle.fb_graph.specs.Parity.{is_in}
use Rattle.fb_graph.specs.Certificate.{AreDistinct}
use Rattle.fb_graph.proofs.Sets.{equal_sym, is_in-cases, is_in_at}
use Rattle.fb_regions.specs.InternalTables.{Sparse, with_value, replaced_values, value_by, value_of}
use Rattle.fb_regions.proofs.Stored.{length-swapped, swapped_here, swapped_other}

-- a member's place
member_at : (xs : List ℕ) (x : ℕ) → is_in xs x ≡ true → (i : ℕ) × (i < length xs) × (get_or xs i 0 ≡ x)
member_at [] x within = absurd (both_ways (is_in [] x) refl within)
member_at (y ∷ ys) x within = by (is_in-cases y ys x within) (member_at ys x)
  where
    by : (y ≡ x) ⊎ (is_in ys x ≡ true) → (is_in ys x ≡ true → (i : ℕ) × (i < length ys) × (get_or ys i 0 ≡ x))
        → (i : ℕ) × (i < length (y ∷ ys)) × (get_or (y ∷ ys) i 0 ≡ x)
    by (inl same) rest = (0, omega arith, same)
    by (inr later) rest = let (i, less, at) = rest later in (suc i, omega (arith, less), at)

-- the value stands at the key's place
pub value_at : {T : Type 0} (keys : List ℕ) (values : List T) (i key : ℕ) (d : T) → AreDistinct keys → i < length keys → i < length values
    → get_or keys i 0 ≡ key → value_by keys values key ≡ Some (get_or values i d)
value_at [] values i key d distinct less long at = absurd (omega arith)
value_at (k ∷ ks) [] i key d distinct less long at = absurd (omega arith)
value_at (k ∷ ks) (x ∷ xs) zero key d distinct less long at = ap (λ b. if b then Some x else value_by ks xs key) (eq-eqb k key at)
value_at (k ∷ ks) (x ∷ xs) (suc i) key d distinct less long at =
    ap (λ b. if b then Some x else value_by ks xs key)
    (false_from_ne_true (k == key)
    (λ e. both_ways (is_in ks k) distinct.0 (ap (is_in ks) (eqb-true k key e ∙ sym at) ∙ is_in_at ks i 0 (omega (arith, less)))))
    ∙ value_at ks xs i key d distinct.1 (omega (arith, less)) (omega (arith, long)) at

pub value_none : {T : Type 0} (keys : List ℕ) (values : List T) (key : ℕ) → is_in keys key ≡ false → value_by keys values key ≡ None
value_none [] values key out = refl
value_none (k ∷ ks) [] key out = refl
value_none (k ∷ ks) (x ∷ xs) key out =
    let parts = or_parts (k == key) (is_in ks key) out in
    ap (λ b. if b then Some x else value_by ks xs key) parts.0 ∙ value_none ks xs key parts.1

replaced_at : {T : Type 0} (keys : List ℕ) (values : List T) (i key : ℕ) (y : T) → AreDistinct keys → i < length keys → i < length values
    → get_or keys i 0 ≡ key → replaced_values keys values key y ≡ set values i y
replaced_at [] values i key y distinct less long at = absurd (omega arith)
replaced_at (k ∷ ks) [] i key y distinct less long at = absurd (omega arith)
replaced_at (k ∷ ks) (x ∷ xs) zero key y distinct less long at =
    ap (λ b. if b then y ∷ xs else x ∷ replaced_values ks xs key y) (eq-eqb k key at)
replaced_at (k ∷ ks) (x ∷ xs) (suc i) key y distinct less long at =
    ap (λ b. if b then y ∷ xs else x ∷ replaced_values ks xs key y)
    (false_from_ne_true (k == key)
    (λ e. both_ways (is_in ks k) distinct.0 (ap (is_in ks) (eqb-true k key e ∙ sym at) ∙ is_in_at ks i 0 (omega (arith, less)))))
    ∙ ap (λ l. x ∷ l) (replaced_at ks xs i key y distinct.1 (omega (arith, less)) (omega (arith, long)) at)

-- the value of a key that the table has, replaced at the key's place
pub entered_known : {T : Type 0} (bound : ℕ) (keys : List ℕ) (values : List T) (i key : ℕ) (y : T) → AreDistinct keys → length values ≡ length keys
    → i < length keys → get_or keys i 0 ≡ key → is_in keys key ≡ true
    → record { bound = bound; keys = keys; values = set values i y } ≡ with_value (record { bound = bound; keys = keys; values = values }) key y
entered_known {T} bound keys values i key y distinct long less at known =
    ap (λ vs. table keys vs) (sym (replaced_at keys values i key y distinct less (omega (arith, long, less)) at))
    ∙ sym (ap (λ b. if b then table keys (replaced_values keys values key y) else table (keys ++ key ∷ []) (values ++ y ∷ [])) known)
  where
    table : List ℕ → List T → Sparse T
    table ks vs = record { bound = bound; keys = ks; values = vs }

value_replaced : {T : Type 0} (keys : List ℕ) (values : List T) (key k : ℕ) (y : T) → length values ≡ length keys → is_in keys key ≡ true
    → value_by keys (replaced_values keys values key y) k ≡ (if k == key then Some y else value_by keys values k)
value_replaced [] values key k y long known = absurd (both_ways (is_in [] key) refl known)
value_replaced (j ∷ js) [] key k y long known = absurd (omega (arith, long))
value_replaced {T} (j ∷ js) (x ∷ xs) key k y long known =
    by (j == key) refl (cases_eq k key) (λ later. value_replaced js xs key k y (omega (arith, long)) later) known
  where
    by : (b : Bool) → (j == key) ≡ b → (k ≡ key) ⊎ (k ≡ key → ⊥)
        → (is_in js key ≡ true → value_by js (replaced_values js xs key y) k ≡ (if k == key then Some y else value_by js xs k))
        → is_in (j ∷ js) key ≡ true
        → value_by (j ∷ js) (if b then y ∷ xs else x ∷ replaced_values js xs key y) k ≡ (if k == key then Some y else value_by (j ∷ js) (x ∷ xs) k)
    by true e (inl same) rest known' =
        let at : (j == k) ≡ true = eq-eqb j k (eqb-true j key e ∙ sym same) in
        ap (λ b. if b then Some y else value_by js xs k) at ∙ sym (ap (λ b. if b then Some y else value_by (j ∷ js) (x ∷ xs) k) (eq-eqb k key same))
    by true e (inr other) rest known' =
        let at : (j == k) ≡ false = ne_eqb j k (λ f. other (sym f ∙ eqb-true j key e)) in
        ap (λ b. if b then Some y else value_by js xs k) at
        ∙ (sym (ap (λ b. if b then Some x else value_by js xs k) at)
        ∙ sym (ap (λ b. if b then Some y else value_by (j ∷ js) (x ∷ xs) k) (ne_eqb k key other)))
    by false e (inl same) rest known' =
        let at : (j == k) ≡ false = ap (λ u. j == u) same ∙ e in
        ap (λ b. if b then Some x else value_by js (replaced_values js xs key y) k) at
        ∙ (rest (sym (ap (λ b. b || is_in js key) e) ∙ known')
        ∙ (ap (λ b. if b then Some y else value_by js xs k) (eq-eqb k key same)
        ∙ sym (ap (λ b. if b then Some y else value_by (j ∷ js) (x ∷ xs) k) (eq-eqb k key same))))
    by false e (inr other) rest known' =
        ap (λ v. if j == k then Some x else v)
        (rest (sym (ap (λ b. b || is_in js key) e) ∙ known') ∙ ap (λ b. if b then Some y else value_by js xs k) (ne_eqb k key other))
        ∙ sym (ap (λ b. if b then Some y else value_by (j ∷ js) (x ∷ xs) k) (ne_eqb k key other))

value_pushed : {T : Type 0} (keys : List ℕ) (values : List T) (key k : ℕ) (y : T) → length values ≡ length keys → is_in keys key ≡ false
    → value_by (keys ++ key ∷ []) (values ++ y ∷ []) k ≡ (if k == key then Some y else value_by keys values k)
value_pushed [] [] key k y long out = ap (λ b. if b then Some y else None) (equal_sym key k)
value_pushed [] (x ∷ xs) key k y long out = absurd (omega (arith, long))
value_pushed (j ∷ js) [] key k y long out = absurd (omega (arith, long))
value_pushed (j ∷ js) (x ∷ xs) key k y long out =
    let parts = or_parts (j == key) (is_in js key) out in
    by (cases_eq k key) parts.0 (value_pushed js xs key k y (omega (arith, long)) parts.1)
  where
    by : (k ≡ key) ⊎ (k ≡ key → ⊥) → (j == key) ≡ false
        → value_by (js ++ key ∷ []) (xs ++ y ∷ []) k ≡ (if k == key then Some y else value_by js xs k)
        → (if j == k then Some x else value_by (js ++ key ∷ []) (xs ++ y ∷ []) k) ≡ (if k == key then Some y else value_by (j ∷ js) (x ∷ xs) k)
    by (inl same) e rest =
        ap (λ b. if b then Some x else value_by (js ++ key ∷ []) (xs ++ y ∷ []) k) (ap (λ u. j == u) same ∙ e)
        ∙ (rest
        ∙ (ap (λ b. if b then Some y else value_by js xs k) (eq-eqb k key same)
        ∙ sym (ap (λ b. if b then Some y else value_by (j ∷ js) (x ∷ xs) k) (eq-eqb k key same))))
    by (inr other) e rest =
        ap (λ v. if j == k then Some x else v) (rest ∙ ap (λ b. if b then Some y else value_by js xs k) (ne_eqb k key other))
        ∙ sym (ap (λ b. if b then Some y else value_by (j ∷ js) (x ∷ xs) k) (ne_eqb k key other))

-- a table with a key entered has that value there, and the others elsewhere
pub value_entered : {T : Type 0} (s : Sparse T) (key k : ℕ) (y : T) → length s.values ≡ length s.keys
    → value_of (with_value s key y) k ≡ (if k == key then Some y else value_of s k)
value_entered {T} s key k y long = by (is_in s.keys key) refl
  where
    by : (b : Bool) → is_in s.keys key ≡ b
        → value_of (if b then record { bound = s.bound; keys = s.keys; values = replaced_values s.keys s.values key y }
        else record { bound = s.bound; keys = s.keys ++ key ∷ []; values = s.values ++ y ∷ [] }) k ≡ (if k == key then Some y else value_of s k)
    by true known = value_replaced s.keys s.values key k y long known
    by false out = value_pushed s.keys s.values key k y long out

pub bound_entered : {T : Type 0} (s : Sparse T) (key : ℕ) (y : T) → (with_value s key y).bound ≡ s.bound
bound_entered {T} s key y = by (is_in s.keys key)
  where
    bound_of : Sparse T → ℕ
    bound_of t = t.bound

    by : (b : Bool)
        → bound_of (if b then record { bound = s.bound; keys = s.keys; values = replaced_values s.keys s.values key y }
        else record { bound = s.bound; keys = s.keys ++ key ∷ []; values = s.values ++ y ∷ [] }) ≡ s.bound
    by true = refl
    by false = refl

-- a key and its value taken out, with the last ones in their place
pub value_taken : {T : Type 0} (keys rest : List ℕ) (values others : List T) (i key taken : ℕ) (d : T) → AreDistinct keys → AreDistinct rest
    → length values ≡ length keys → i < length keys → get_or keys i 0 ≡ key → rest ≡ swap_remove keys i taken → others ≡ swap_remove values i d
    → ((e : ℕ) → is_in rest e ≡ (is_in keys e && not (e == key)))
    → (k : ℕ) → value_by rest others k ≡ (if k == key then None else value_by keys values k)
value_taken {T} keys rest values others i key taken d distinct distinct_rest long less at left moved members k =
    by (cases_eq k key) (is_in keys k) refl
  where
    long_rest : length rest + 1 ≡ length keys
    long_rest = omega (arith, ap length left, length-swapped keys i taken less)

    long_others : length others + 1 ≡ length keys
    long_others = omega (arith, ap length moved, long, length-swapped values i d (omega (arith, less, long)))

    -- the key at a place of the whole list
    placed : (j : ℕ) → (j ≡ i → ⊥) → j < length keys → get_or keys j 0 ≡ k → (j + 1 < length keys) ⊎ (length keys ≤ j + 1)
        → value_by rest others k ≡ Some (get_or values j d)
    placed j other below here (inl short) =
        value_at rest others j k d distinct_rest (omega (arith, short, long_rest)) (omega (arith, short, long_others))
        (ap (λ l. get_or l j 0) left ∙ (swapped_other keys i j taken 0 other short ∙ here))
        ∙ ap Some (ap (λ l. get_or l j d) moved ∙ swapped_other values i j d d other (omega (arith, short, long)))
    placed j other below here (inr last) =
        let inner : i + 1 < length keys = before j other below last in
        let same : length keys - 1 ≡ j = omega (arith, below, last) in
        let same_value : length values - 1 ≡ j = omega (arith, below, last, long) in
        value_at rest others i k d distinct_rest (omega (arith, inner, long_rest)) (omega (arith, inner, long_others))
        (ap (λ l. get_or l i 0) left ∙ (swapped_here keys i taken 0 inner ∙ (ap (λ n. get_or keys n 0) same ∙ here)))
        ∙ ap Some
        (ap (λ l. get_or l i d) moved ∙ (swapped_here values i d d (omega (arith, inner, long)) ∙ ap (λ n. get_or values n d) same_value))
      where
        before : (m : ℕ) → (m ≡ i → ⊥) → m < length keys → length keys ≤ m + 1 → i + 1 < length keys
        before m differs under end = pick (cases_lt (i + 1) (length keys))
          where
            pick : (i + 1 < length keys) ⊎ (length keys ≤ i + 1) → i + 1 < length keys
            pick (inl short) = short
            pick (inr long') = absurd (differs (omega (arith, under, end, less, long')))

    by : (k ≡ key) ⊎ (k ≡ key → ⊥) → (b : Bool) → is_in keys k ≡ b → value_by rest others k ≡ (if k == key then None else value_by keys values k)
    by (inl same) b e =
        value_none rest others k
        (members k ∙ (ap (λ c. is_in keys k && not c) (eq-eqb k key same) ∙ and-false (is_in keys k)))
        ∙ sym (ap (λ c. if c then None else value_by keys values k) (eq-eqb k key same))
    by (inr other) false e =
        value_none rest others k (members k ∙ ap (λ c. c && not (k == key)) e)
        ∙ (sym (value_none keys values k e) ∙ sym (ap (λ c. if c then None else value_by keys values k) (ne_eqb k key other)))
    by (inr other) true e =
        let (j, below, here) = member_at keys k e in
        placed j (λ same. other (sym here ∙ (ap (λ n. get_or keys n 0) same ∙ at))) below here (cases_lt (j + 1) (length keys))
        ∙ (sym (value_at keys values j k d distinct below (omega (arith, below, long)) here)
        ∙ sym (ap (λ c. if c then None else value_by keys values k) (ne_eqb k key other)))

-- where the number is no key, there is no value to take out
pub value_absent : {T : Type 0} (keys : List ℕ) (values : List T) (key : ℕ) → is_in keys key ≡ false
    → (k : ℕ) → value_by keys values k ≡ (if k == key then None else value_by keys values k)
value_absent keys values key out k = by (cases_eq k key)
  where
    by : (k ≡ key) ⊎ (k ≡ key → ⊥) → value_by keys values k ≡ (if k == key then None else value_by keys values k)
    by (inl same) =
        value_none keys values k (ap (is_in keys) same ∙ out) ∙ sym (ap (λ b. if b then None else value_by keys values k) (eq-eqb k key same))
    by (inr other) = sym (ap (λ b. if b then None else value_by keys values k) (ne_eqb k key other))
