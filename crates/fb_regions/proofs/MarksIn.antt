-- Marks, read from a table that has only those that there are.
use Rattle.std.proofs.Common.{ℕ, zero, suc, ◌≡◌, ◌+◌, ◌≤◌, ◌<◌, ◌==◌, ◌⊎◌, inl, inr, Bool, true, false, ◌||◌, replicate, List, [], ◌∷◌, length, map, set, Option, Some, None, refl, sym, ap, ◌∙◌, arith, if◌then◌else◌}
use Rattle.std.specs.List.{All, range_with_len}
use Rattle.std.specs.Option.{IsSome, is_some}
use Rattle.std.proofs.lemmas.Bool.{cases_eq, cases_lt, eq-eqb, false_from_ne_true, false≢true, ne_eqb}
use Rattle.std.proofs.lemmas.List.{ext_get_or, get_or_past, get_or-set_other, get_or-set_same, length-set}
use Rattle.std.proofs.lemmas.List.FromFn.{get_or-map-range_with_len, length-map-range_with_len}
use Rattle.fb_graph.specs.Parity.{is_in}
use Rattle.fb_graph.proofs.Sets.{is_in-All}
use Rattle.fb_regions.specs.declared.marks.Mark.{Mark}
use Rattle.fb_regions.specs.InternalNodes.{mark_of, marks_in}
use Rattle.fb_regions.specs.InternalTables.{HasRoomFor, Sparse, with_value, value_by, value_of}
use Rattle.fb_regions.proofs.SparseValues.{bound_entered, value_entered, value_none}

pub length-marks : (n : ℕ) (table : Sparse Mark) → length (marks_in n table) ≡ n
length-marks n table = length-map-range_with_len (value_of table) 0 n

mark_below : (n : ℕ) (table : Sparse Mark) (v : ℕ) → v < n → mark_of (marks_in n table) v ≡ value_of table v
mark_below n table v less = get_or-map-range_with_len (value_of table) 0 n v v None less (omega arith)

-- the mark of a vertex is the table's value
pub mark_in : (n : ℕ) (table : Sparse Mark) (v : ℕ) → table.bound ≤ n → All (λ k. k < table.bound) table.keys
    → value_of table v ≡ mark_of (marks_in n table) v
mark_in n table v most within = by (cases_lt v n)
  where
    by : (v < n) ⊎ (n ≤ v) → value_of table v ≡ mark_of (marks_in n table) v
    by (inl less) = sym (mark_below n table v less)
    by (inr past) =
        value_none table.keys table.values v
        (false_from_ne_true (is_in table.keys v)
        (λ h. let below = is_in-All (λ k. k < table.bound) table.keys within v h in absurd (omega (arith, below, past, most))))
        ∙ sym (get_or_past (marks_in n table) v None (omega (arith, past, length-marks n table)))

-- marks that agree with others but at one vertex are those others with that one set
marks_set : (n : ℕ) (table other : Sparse Mark) (v : ℕ) (o : Option Mark)
    → ((k : ℕ) → value_of other k ≡ (if k == v then o else value_of table k)) → marks_in n other ≡ set (marks_in n table) v o
marks_set n table other v o values =
    ext_get_or None (marks_in n other) (set (marks_in n table) v o)
    (omega (arith, length-marks n other, length-marks n table, length-set (marks_in n table) v o))
    (λ k less. by k (omega (arith, less, length-marks n other)) (cases_eq k v))
  where
    by : (k : ℕ) → k < n → (k ≡ v) ⊎ (k ≡ v → ⊥) → mark_of (marks_in n other) k ≡ mark_of (set (marks_in n table) v o) k
    by k less (inl same) =
        mark_below n other k less
        ∙ (values k
        ∙ (ap (λ b. if b then o else value_of table k) (eq-eqb k v same)
        ∙ (sym (get_or-set_same (marks_in n table) k o None (omega (arith, less, length-marks n table)))
        ∙ ap (λ j. mark_of (set (marks_in n table) j o) k) same)))
    by k less (inr differs) =
        mark_below n other k less
        ∙ (values k
        ∙ (ap (λ b. if b then o else value_of table k) (ne_eqb k v differs)
        ∙ (sym (mark_below n table k less) ∙ sym (get_or-set_other (marks_in n table) v k o None differs))))

-- tables with the same values give the same marks
marks_same : (n : ℕ) (table other : Sparse Mark) → ((k : ℕ) → value_of other k ≡ value_of table k) → marks_in n other ≡ marks_in n table
marks_same n table other same =
    ext_get_or None (marks_in n other) (marks_in n table) (length-marks n other ∙ sym (length-marks n table))
    (λ k less.
    mark_below n other k (omega (arith, less, length-marks n other))
    ∙ (same k ∙ sym (mark_below n table k (omega (arith, less, length-marks n other)))))

-- a value is entered into a table that has the same values
pub marks_entered : (n : ℕ) (table roomy : Sparse Mark) (v : ℕ) (m : Mark) → ((k : ℕ) → value_of roomy k ≡ value_of table k)
    → length roomy.values ≡ length roomy.keys → marks_in n (with_value roomy v m) ≡ set (marks_in n table) v (Some m)
marks_entered n table roomy v m same long =
    marks_set n roomy (with_value roomy v m) v (Some m) (λ k. value_entered roomy v k m long)
    ∙ ap (λ marks. set marks v (Some m)) (marks_same n table roomy same)

pub marks_left : (n : ℕ) (table other : Sparse Mark) (v : ℕ)
    → ((k : ℕ) → value_of other k ≡ (if k == v then None else value_of table k)) → marks_in n other ≡ set (marks_in n table) v None
marks_left n table other v values = marks_set n table other v None values

valued : (keys : List ℕ) (values : List Mark) (v : ℕ) → length values ≡ length keys → is_in keys v ≡ is_some (value_by keys values v)
valued [] values v l = refl
valued (k ∷ ks) [] v l = absurd (omega (arith, l))
valued (k ∷ ks) (x ∷ xs) v l = by (k == v) (valued ks xs v (omega (arith, l)))
  where
    by : (b : Bool) → is_in ks v ≡ is_some (value_by ks xs v) → (b || is_in ks v) ≡ is_some (if b then Some x else value_by ks xs v)
    by true rest = refl
    by false rest = rest

-- each key of the table has a mark, and no other vertex
pub marked_keys : (n : ℕ) (table : Sparse Mark) → length table.values ≡ length table.keys → table.bound ≤ n
    → All (λ k. k < table.bound) table.keys → (v : ℕ) → is_in table.keys v ≡ is_some (mark_of (marks_in n table) v)
marked_keys n table long most within v = valued table.keys table.values v long ∙ ap is_some (mark_in n table v most within)

no_value : {T : Type 0} (keys : List ℕ) (values : List T) (v : ℕ) → is_some (value_by keys values v) ≡ true → 0 < length keys
no_value [] values v some = absurd (false≢true some)
no_value (k ∷ ks) values v some = omega arith

-- a table by which a vertex has a mark has its room
pub has_room : (n : ℕ) (table : Sparse Mark) (v : ℕ) → HasRoomFor n table → All (λ k. k < table.bound) table.keys
    → IsSome (mark_of (marks_in n table) v) → table.bound ≡ n
has_room n table v room within some =
    room.ready (no_value table.keys table.values v (ap is_some (mark_in n table v room.within within) ∙ some))

pub room_entered : (n : ℕ) (table : Sparse Mark) (v : ℕ) (m : Mark) → table.bound ≡ n → HasRoomFor n (with_value table v m)
room_entered n table v m room = record {
  within = omega (arith, bound_entered table v m, room);
  ready = λ some. bound_entered table v m ∙ room;
}

abbrev pub no_marks : ℕ → Sparse Mark
no_marks n = record { bound = n; keys = []; values = [] }

pub marks_none : (b n : ℕ) → marks_in n (no_marks b) ≡ replicate n None
marks_none b n = from 0 n
  where
    from : (a k : ℕ) → map (value_of (no_marks b)) (range_with_len a k) ≡ replicate k None
    from a zero = refl
    from a (suc k) = ap (λ l. None ∷ l) (from (a + 1) k)
