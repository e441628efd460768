-- Tables over few of many numbers.
use Rattle.std.specs.Prelude.{ℕ, ◌≡◌, ◌<◌, ◌≤◌, length, ◌==◌, if◌then◌else◌, List, [], ◌∷◌, ◌++◌, Option, Some, None, refl}
use Rattle.std.specs.Coded.{Coded, code_by, coded×, coded_list, coded_ℕ}
use Rattle.fb_graph.specs.Parity.{is_in}

-- all keys are below the bound; each key has the value of the same place
pub record Sparse (T : Type 0) : Type 0 where
  pub bound : ℕ
  pub keys : List ℕ
  pub values : List T

-- the table has room for each number below the bound once it has a key
pub record HasRoomFor {T : Type 0} (bound : ℕ) (s : Sparse T) : Type 0 where
  pub within : s.bound ≤ bound
  pub ready : 0 < length s.keys → s.bound ≡ bound

-- the value of the first such key
abbrev pub value_by : {T : Type 0} → List ℕ → List T → ℕ → Option T
value_by [] values key = None
value_by (k ∷ keys) [] key = None
value_by (k ∷ keys) (x ∷ values) key = if k == key then Some x else value_by keys values key

abbrev pub value_of : {T : Type 0} → Sparse T → ℕ → Option T
value_of s key = value_by s.keys s.values key

-- the values with that of the first such key replaced
abbrev pub replaced_values : {T : Type 0} → List ℕ → List T → ℕ → T → List T
replaced_values [] values key y = values
replaced_values (k ∷ keys) [] key y = []
replaced_values (k ∷ keys) (x ∷ values) key y = if k == key then y ∷ values else x ∷ replaced_values keys values key y

-- the table with the value under the key: in the place of the one that was there, or as the last
abbrev pub with_value : {T : Type 0} → Sparse T → ℕ → T → Sparse T
with_value s key x =
    if is_in s.keys key then record { bound = s.bound; keys = s.keys; values = replaced_values s.keys s.values key x }
    else record { bound = s.bound; keys = s.keys ++ key ∷ []; values = s.values ++ x ∷ [] }

abbrev pub sparse_code : {T : Type 0} → Coded T → Coded (Sparse T)
sparse_code {T} value =
    code_by (ℕ × (List ℕ × List T)) (coded× coded_ℕ (coded× (coded_list coded_ℕ) (coded_list value)))
    (λ s. (s.bound, (s.keys, s.values))) (λ x. record { bound = x.0; keys = x.1.0; values = x.1.1 }) (λ _. refl)
