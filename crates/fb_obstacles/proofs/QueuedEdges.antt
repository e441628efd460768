-- Watched edges of which the first wait in a queue, and the places that they exchange.
use Rattle.std.proofs.Common.{ℕ, Option, Some, None, not, drop, ◌≡◌, ◌+◌, ◌-◌, ◌<◌, ◌≤◌, ◌==◌, ◌&&◌, ◌||◌, ◌++◌, ◌∷◌, ◌⊎◌, inl, inr, Bool, true, false, List, [], length, get_or, map, set, take, take_all, refl, sym, ap, ◌∙◌, subst, arith}
use Rattle.std.specs.Prelude.{nat_eq, nat_lt}
use Rattle.std.specs.List.{IsDistinct, position, position_or_len, swap, swap_remove}
use Rattle.std.specs.Option.{IfSome, MatchOption, SomeIff}
use Rattle.std.proofs.Math.Bool.{and-false, and-true, or-false}
use Rattle.std.proofs.lemmas.Grind.{get_or_default_zero}
use Rattle.std.specs.Map.{keys_of, values_of}
use Rattle.std.proofs.Math.Seq.{take-set-lt}
use Rattle.std.proofs.lemmas.Bool.{and_parts, cases_eq, cases_lt, eqb-true}
use Rattle.std.proofs.lemmas.Bool.Decides.{nat_tests}
use Rattle.std.proofs.lemmas.List.{get_or-set_same, get_or-set_other, get_or-take, get_or_append_left, length-set, length-take-le, take-append-drop, take_more}
use Rattle.std.proofs.lemmas.List.Edits.{length-swap, swap_is}
use Rattle.std.proofs.lemmas.List.Sorted.{All-permutation, IsPermutation-swap, list_any-IsPermutation}
use Rattle.std.proofs.lemmas.Map.Keys.{apart_from_distinct}
use Rattle.indexmap.specs.IndexMap.{IndexMap, keys, values, index_map_len, spare}
use Rattle.indexmap.proofs.ReorderLemmas.{map-swap}
use Rattle.fb_graph.specs.Certificate.{AreDistinct}
use Rattle.fb_graph.specs.Parity.{is_in}
use Rattle.fb_graph.proofs.Members.{distinct_left, is_in_push}
use Rattle.fb_regions.proofs.Listed.{not_before}
use Rattle.fb_regions.proofs.Stored.{is_in_taken}
use Rattle.fb_obstacles.proofs.RaisedBounds.{taken_default}
use Rattle.fb_obstacles.specs.Watched.{AreBounded, Watched}
use Rattle.fb_obstacles.specs.InternalQueue.{is_due}
use Rattle.fb_obstacles.specs.InternalWatch.{AreDue, IsKept, Reorders}
use Rattle.fb_obstacles.specs.declared.edge_hasher.EdgeHasher.{EdgeHasher}
use Rattle.fb_obstacles.specs.declared.queue.Due.{Due}
use Rattle.fb_graph.proofs.Sets.{equal_sym, is_in_at}
use Rattle.fb_obstacles.proofs.FirstEntries.{among_first, found_nowhere, length-keys, length-lowered, length-values, swapped_out}

module _ (xs : List ℕ) (i j : ℕ) (first : i < length xs) (second : j < length xs) where
  set_twice : set (set xs i (get_or xs j 0)) j (get_or xs i 0) ≡ swap xs i j
  set_twice = swap_is xs i j 0 first second

  -- an element at neither place stays
  pub swapped_beside : (k : ℕ) → (k ≡ i → ⊥) → (k ≡ j → ⊥) → get_or (swap xs i j) k 0 ≡ get_or xs k 0
  swapped_beside k one other =
      ap (λ l. get_or l k 0) (sym set_twice)
      ∙ (get_or-set_other (set xs i (get_or xs j 0)) j k (get_or xs i 0) 0 other ∙ get_or-set_other xs i k (get_or xs j 0) 0 one)

  pub swapped_second : get_or (swap xs i j) j 0 ≡ get_or xs i 0
  swapped_second =
      ap (λ l. get_or l j 0) (sym set_twice)
      ∙ get_or-set_same (set xs i (get_or xs j 0)) j (get_or xs i 0) 0 (omega (arith, second, length-set xs i (get_or xs j 0)))

  pub swapped_first : get_or (swap xs i j) i 0 ≡ get_or xs j 0
  swapped_first = step (cases_eq i j)
    where
      step : (i ≡ j) ⊎ (i ≡ j → ⊥) → get_or (swap xs i j) i 0 ≡ get_or xs j 0
      step (inl same) = ap (λ k. get_or (swap xs i j) k 0) same ∙ (swapped_second ∙ ap (λ k. get_or xs k 0) same)
      step (inr other) =
          ap (λ l. get_or l i 0) (sym set_twice)
          ∙ (get_or-set_other (set xs i (get_or xs j 0)) j i (get_or xs i 0) 0 other
          ∙ get_or-set_same xs i (get_or xs j 0) 0 first)

-- elements of the first few exchange their places
pub first_swapped : (n : ℕ) (xs : List ℕ) (i j : ℕ) → i < n → j < n → n ≤ length xs
    → take n (swap xs i j) ≡ swap (take n xs) i j
first_swapped n xs i j one other most =
    let count : length (take n xs) ≡ n = length-take-le n xs most in
    ap (take n) (sym (swap_is xs i j 0 (omega (arith, one, most)) (omega (arith, other, most))))
    ∙ (take-set-lt n (set xs i (get_or xs j 0)) j (get_or xs i 0) other
    ∙ (ap (λ l. set l j (get_or xs i 0)) (take-set-lt n xs i (get_or xs j 0) one)
    ∙ (ap (λ x. set (set (take n xs) i x) j (get_or xs i 0)) (sym (get_or-take n xs j 0 other))
    ∙ (ap (λ x. set (set (take n xs) i (get_or (take n xs) j 0)) j x) (sym (get_or-take n xs i 0 one))
    ∙ swap_is (take n xs) i j 0 (omega (arith, one, count)) (omega (arith, other, count))))))

-- The watched edges exchange their places.
module _ (w : Watched) (i j : ℕ) (even : length w.bounds ≡ length w.edges) (first : i < length w.edges) (second : j < length w.edges) where
  abbrev pub exchanged : ℕ → Watched
  exchanged n = record { edge_count = w.edge_count; edges = swap w.edges i j; bounds = swap w.bounds i j; queued = n; nodes = w.nodes }

  bounded_exchanged : (limit : ℕ → ℕ) (n : ℕ) → AreBounded limit w → AreBounded limit (exchanged n)
  bounded_exchanged limit n bounded k less = step (cases_eq k i) (cases_eq k j)
    where
      inside : k < length w.edges
      inside = omega (arith, less, length-swap w.edges i j)

      step : (k ≡ i) ⊎ (k ≡ i → ⊥) → (k ≡ j) ⊎ (k ≡ j → ⊥) → get_or (swap w.bounds i j) k 0 ≤ limit (get_or (swap w.edges i j) k 0)
      step (inl here) any =
          omega (
            arith,
            ap (λ m. get_or (swap w.bounds i j) m 0) here,
            swapped_first w.bounds i j (omega (arith, first, even)) (omega (arith, second, even)),
            bounded j second,
            ap limit (ap (λ m. get_or (swap w.edges i j) m 0) here ∙ swapped_first w.edges i j first second),
          )
      step (inr one) (inl here) =
          omega (
            arith,
            ap (λ m. get_or (swap w.bounds i j) m 0) here,
            swapped_second w.bounds i j (omega (arith, first, even)) (omega (arith, second, even)),
            bounded i first,
            ap limit (ap (λ m. get_or (swap w.edges i j) m 0) here ∙ swapped_second w.edges i j first second),
          )
      step (inr one) (inr other) =
          omega (
            arith,
            swapped_beside w.bounds i j (omega (arith, first, even)) (omega (arith, second, even)) k one other,
            bounded k inside,
            ap limit (swapped_beside w.edges i j first second k one other),
          )

  pub reorders_exchanged : (n : ℕ) → Reorders w (exchanged n)
  reorders_exchanged n = record {
    count = refl;
    edges = λ e.
        sym (list_any-IsPermutation (λ u. u == e) w.edges (swap w.edges i j) (IsPermutation-swap w.edges (swap w.edges i j) i j first second refl));
    len = length-swap w.edges i j;
    nodes = refl;
    bounds = λ limit bounded. bounded_exchanged limit n bounded;
  }

pub reorders_none : (w : Watched) → Reorders w w
reorders_none w = record { count = refl; edges = λ e. refl; len = refl; nodes = refl; bounds = λ limit bounded. bounded }

pub reorders_on : (a b c : Watched) → Reorders a b → Reorders b c → Reorders a c
reorders_on a b c one other = record {
  count = other.count ∙ one.count;
  edges = λ e. other.edges e ∙ one.edges e;
  len = other.len ∙ one.len;
  nodes = other.nodes ∙ one.nodes;
  bounds = λ limit bounded. other.bounds limit (one.bounds limit bounded);
}

-- the first n stay where one is put behind them
pub first_kept : (old new : List ℕ) (n x i : ℕ) → i < n → n ≤ length old → take (n + 1) new ≡ take n old ++ x ∷ []
    → get_or new i 0 ≡ get_or old i 0
first_kept old new n x i less most same =
    sym (get_or-take (n + 1) new i 0 (omega (arith, less)))
    ∙ (ap (λ l. get_or l i 0) same
    ∙ (get_or_append_left (take n old) (x ∷ []) 0 i (omega (arith, less, length-take-le n old most))
    ∙ get_or-take n old i 0 less))

-- Edges and their values, of which the first few are in a queue.
module _ (queue : List Due) (values keys : List ℕ) (even : length values ≡ length keys) where
  -- what stands at the same places is due still
  pub due_same : (others names : List ℕ) (n : ℕ) → AreDue queue values keys n
      → ((i : ℕ) → i < n → get_or others i 0 ≡ get_or values i 0) → ((i : ℕ) → i < n → get_or names i 0 ≡ get_or keys i 0)
      → AreDue queue others names n
  due_same others names n due same_value same_key i less =
      (λ z. is_due queue (same_value i less z) (same_key i less z)) ∙ due i less

  -- the edge at a place leaves, and the last one takes its place
  pub due_unqueued : (place n : ℕ) → place < n → n ≤ length keys
      → ((i : ℕ) → i < n → (i ≡ place → ⊥) → is_due queue (get_or values i 0) (get_or keys i 0) ≡ true)
      → AreDue queue (swap values place (n - 1)) (swap keys place (n - 1)) (n - 1)
  due_unqueued place n within most due i less = step (cases_eq i place)
    where
      step : (i ≡ place) ⊎ (i ≡ place → ⊥)
          → is_due queue (get_or (swap values place (n - 1)) i 0) (get_or (swap keys place (n - 1)) i 0) ≡ true
      step (inl here) =
          (λ z. is_due queue
          ((ap (λ m. get_or (swap values place (n - 1)) m 0) here
          ∙ swapped_first values place (n - 1) (omega (arith, within, most, even)) (omega (arith, within, most, even))) z)
          ((ap (λ m. get_or (swap keys place (n - 1)) m 0) here
          ∙ swapped_first keys place (n - 1) (omega (arith, within, most)) (omega (arith, within, most))) z))
          ∙ due (n - 1) (omega (arith, within)) (λ same. absurd (omega (arith, same, here, less)))
      step (inr other) =
          (λ z. is_due queue
          (swapped_beside values place (n - 1) (omega (arith, within, most, even)) (omega (arith, within, most, even)) i other
          (λ same. absurd (omega (arith, same, less))) z)
          (swapped_beside keys place (n - 1) (omega (arith, within, most)) (omega (arith, within, most)) i other
          (λ same. absurd (omega (arith, same, less))) z))
          ∙ due i (omega (arith, less)) other

  -- the edge at a place behind those in the queue comes to stand last in it
  pub due_queued : (place n : ℕ) → n ≤ place → place < length keys → AreDue queue values keys n
      → is_due queue (get_or values place 0) (get_or keys place 0) ≡ true
      → AreDue queue (swap values place n) (swap keys place n) (n + 1)
  due_queued place n behind within due here i less = step (cases_eq i n)
    where
      step : (i ≡ n) ⊎ (i ≡ n → ⊥) → is_due queue (get_or (swap values place n) i 0) (get_or (swap keys place n) i 0) ≡ true
      step (inl last) =
          (λ z. is_due queue
          ((ap (λ m. get_or (swap values place n) m 0) last
          ∙ swapped_second values place n (omega (arith, within, even)) (omega (arith, behind, within, even))) z)
          ((ap (λ m. get_or (swap keys place n) m 0) last
          ∙ swapped_second keys place n within (omega (arith, behind, within))) z))
          ∙ here
      step (inr before) =
          let less_than : i < n = omega (arith, less, before) in
          (λ z. is_due queue
          (swapped_beside values place n (omega (arith, within, even)) (omega (arith, behind, within, even)) i
          (λ same. absurd (omega (arith, same, less_than, behind))) before z)
          (swapped_beside keys place n within (omega (arith, behind, within)) i
          (λ same. absurd (omega (arith, same, less_than, behind))) before z))
          ∙ due i less_than

  -- edges behind those in the queue exchange their places
  pub due_beside : (a b n : ℕ) → n ≤ a → n ≤ b → a < length keys → b < length keys → AreDue queue values keys n
      → AreDue queue (swap values a b) (swap keys a b) n
  due_beside a b n one other first second due =
      due_same (swap values a b) (swap keys a b) n due
      (λ i less.
      swapped_beside values a b (omega (arith, first, even)) (omega (arith, second, even)) i
      (λ same. absurd (omega (arith, same, less, one))) (λ same. absurd (omega (arith, same, less, other))))
      (λ i less.
      swapped_beside keys a b first second i
      (λ same. absurd (omega (arith, same, less, one))) (λ same. absurd (omega (arith, same, less, other))))

-- What is left in a queue after one was taken out that isn't this one.
pub due_left : (d : Due) (old new : List Due) (v k : ℕ)
    → is_due old v k ≡ (((d.growth == v) && (d.number == k)) || is_due new v k) → is_due old v k ≡ true
    → (k ≡ d.number → v ≡ d.growth → ⊥) → is_due new v k ≡ true
due_left d old new v k taken due other = step ((d.growth == v) && (d.number == k)) refl (sym taken ∙ due)
  where
    step : (b : Bool) → ((d.growth == v) && (d.number == k)) ≡ b → (b || is_due new v k) ≡ true → is_due new v k ≡ true
    step true here any =
        let both = and_parts (d.growth == v) (d.number == k) here in
        absurd (other (sym (eqb-true d.number k both.1)) (sym (eqb-true d.growth v both.0)))
    step false here any = any

-- distinct keys stand at one place each
pub one_place : (keys : List ℕ) (i j : ℕ) → IsDistinct nat_eq keys → i < length keys → j < length keys
    → get_or keys i 0 ≡ get_or keys j 0 → i ≡ j
one_place keys i j distinct first second same = step (cases_eq i j)
  where
    apart : (a b : ℕ) → a < b → b < length keys → get_or keys a 0 ≡ get_or keys b 0 → ⊥
    apart a b less within equal =
        let differs : nat_eq (get_or keys a 0) (get_or keys b 0) ≡ false = apart_from_distinct nat_eq keys a b 0 distinct less within in
        let both : nat_eq (get_or keys b 0) (get_or keys b 0) ≡ false = ap (λ x. nat_eq x (get_or keys b 0)) (sym equal) ∙ differs in
        absurd (grind (arith, nat_tests))

    step : (i ≡ j) ⊎ (i ≡ j → ⊥) → i ≡ j
    step (inl is) = is
    step (inr other) = by (cases_lt i j)
      where
        by : (i < j) ⊎ (j ≤ i) → i ≡ j
        by (inl less) = absurd (apart i j less second same)
        by (inr more) = absurd (apart j i (omega (arith, more, other)) first (sym same))

-- A map of which two entries have exchanged their places.
module _ (known next : IndexMap ℕ ℕ EdgeHasher) (i j live edge_count : ℕ) (entries : next.entries ≡ swap known.entries i j)
    (len : index_map_len next ≡ index_map_len known) (room : spare known ≤ spare next) (first : i < live) (second : j < live)
    (kept : IsKept known live edge_count) where
  pub keys_swapped : keys next ≡ swap (keys known) i j
  keys_swapped = ap keys_of entries ∙ map-swap (λ e. e.0) known.entries i j

  pub values_swapped : values next ≡ swap (values known) i j
  values_swapped = ap values_of entries ∙ map-swap (λ e. e.1) known.entries i j

  key_count : live ≤ length (keys known)
  key_count = omega (arith, kept.within, length-keys known.entries)

  value_count : live ≤ length (values known)
  value_count = omega (arith, kept.within, length-values known.entries)

  pub kept_swapped : (n : ℕ) → n ≤ live → IsKept next n edge_count
  kept_swapped n few = record {
    within = omega (arith, kept.within, len, few);
    below = All-permutation (λ e. e < edge_count) (keys known) (keys next)
        (IsPermutation-swap (keys known) (keys next) i j (omega (arith, first, key_count)) (omega (arith, second, key_count)) keys_swapped)
        kept.below;
    small = All-permutation (λ b. b < 18446744073709551616) (values known) (values next)
        (IsPermutation-swap (values known) (values next) i j (omega (arith, first, value_count)) (omega (arith, second, value_count))
        values_swapped) kept.small;
    room = omega (arith, kept.room, len, room);
  }

  pub edges_swapped : take live (keys next) ≡ swap (take live (keys known)) i j
  edges_swapped = ap (take live) keys_swapped ∙ first_swapped live (keys known) i j first second key_count

  pub bounds_swapped : (a : ℕ) → map (λ b. b - a) (take live (values next)) ≡ swap (map (λ b. b - a) (take live (values known))) i j
  bounds_swapped a =
      ap (λ vs. map (λ b. b - a) (take live vs)) values_swapped
      ∙ (ap (map (λ b. b - a)) (first_swapped live (values known) i j first second value_count)
      ∙ map-swap (λ b. b - a) (take live (values known)) i j)

  -- what is due of the exchanged lists is due of the map
  pub due_in_next : (queue : List Due) (n : ℕ) → AreDue queue (swap (values known) i j) (swap (keys known) i j) n
      → AreDue queue (values next) (keys next) n
  due_in_next queue n due k less = (λ z. is_due queue (get_or (values_swapped z) k 0) (get_or (keys_swapped z) k 0)) ∙ due k less

-- what contracts see of a map: as many bounds as edges
module _ (known : IndexMap ℕ ℕ EdgeHasher) (live edge_count a : ℕ) (kept : IsKept known live edge_count) where
  pub edges_seen : length (take live (keys known)) ≡ live
  edges_seen = length-take-le live (keys known) (omega (arith, kept.within, length-keys known.entries))

  pub bounds_seen : length (map (λ b. b - a) (take live (values known))) ≡ length (take live (keys known))
  bounds_seen =
      length-lowered (take live (values known)) a
      ∙ (length-take-le live (values known) (omega (arith, kept.within, length-values known.entries)) ∙ sym edges_seen)

-- a key that isn't found stands nowhere
pub nowhere : (keys : List ℕ) (q : ℕ) → None ≡ position (nat_eq q) keys → (i : ℕ) → i < length keys → get_or keys i 0 ≡ q → ⊥
nowhere keys q none i less here =
    let past : length keys ≤ position_or_len (nat_eq q) keys = found_nowhere keys q none in
    let within : is_in (take (length keys) keys) q ≡ true =
    ap (λ ks. is_in ks q) (take_all (length keys) keys (omega arith))
    ∙ (ap (is_in keys) (sym here) ∙ is_in_at keys i 0 less) in
    let first : nat_lt (position_or_len (nat_eq q) keys) (length keys) ≡ true =
    sym (among_first keys q (length keys) (omega arith)) ∙ within in
    absurd (grind (arith, nat_tests))

-- what an answer says where there is one
pub match_some : (r : Option ℕ) (A : Type 0) (B C : ℕ → Type 0) → MatchOption r A B → ((i : ℕ) → B i → C i) → IfSome r C
match_some None A B C h f = tt
match_some (Some i) A B C h f = f i h

-- a limit of growth is one of the bound
pub limit_met : (P : Type 0) (most lowered value : ℕ) (r : Option ℕ) → SomeIff r P (most + lowered)
    → MatchOption r ⊥ (λ g. g ≤ value) → most ≤ value - lowered
limit_met P most lowered value None sum h = absurd h
limit_met P most lowered value (Some s) sum h = omega (arith, sum.1, h)

-- a number of a list is in the numbers up to its place, and in none before it
pub left_last : (xs : List ℕ) (i : ℕ) → AreDistinct xs → i < length xs → (e : ℕ)
    → is_in (take i xs) e ≡ (is_in (take (i + 1) xs) e && not (e == get_or xs i 0))
left_last xs i distinct less e = step (e == get_or xs i 0) refl
  where
    x : ℕ
    x = get_or xs i 0

    step : (b : Bool) → (e == get_or xs i 0) ≡ b → is_in (take i xs) e ≡ (is_in (take (i + 1) xs) e && not b)
    step true is =
        ap (is_in (take i xs)) (eqb-true e (get_or xs i 0) is)
        ∙ (not_before xs i distinct less ∙ sym (and-false (is_in (take (i + 1) xs) e)))
    step false is =
        let other : (get_or xs i 0 == e) ≡ false = equal_sym (get_or xs i 0) e ∙ is in
        sym (and-true (is_in (take (i + 1) xs) e)
        ∙ (ap (λ ys. is_in ys e) (take_more xs i 0 less)
        ∙ (is_in_push (take i xs) (get_or xs i 0) e ∙ (ap (λ b. is_in (take i xs) e || b) other ∙ or-false (is_in (take i xs) e)))))

-- of the first n numbers all but one, which has come to stand last of them
pub left_swapped : (xs : List ℕ) (i n : ℕ) → AreDistinct xs → i < n → n ≤ length xs → (e : ℕ)
    → is_in (take (n - 1) (swap xs i (n - 1))) e ≡ (is_in (take n xs) e && not (e == get_or (swap xs i (n - 1)) (n - 1) 0))
left_swapped xs i n distinct less most e =
    let count : length (take n xs) ≡ n = length-take-le n xs most in
    let within : i < length (take n xs) = omega (arith, less, count) in
    let first : AreDistinct (take n xs) =
    distinct_left (take n xs) (drop n xs) (subst AreDistinct (sym (take-append-drop n xs)) distinct) in
    let moved : get_or (swap xs i (n - 1)) (n - 1) 0 ≡ get_or (take n xs) i 0 =
    swapped_second xs i (n - 1) (omega (arith, less, most)) (omega (arith, less, most)) ∙ sym (get_or-take n xs i 0 less) in
    ap (λ ys. is_in ys e) (swapped_out xs i n less most)
    ∙ (is_in_taken (take n xs) (swap_remove (take n xs) i 0) i (get_or (take n xs) i 0) (get_or (take n xs) i 0) within refl first
    (sym (get_or_default_zero (take n xs) i (get_or (take n xs) i 0) within))
    (taken_default (take n xs) i 0 (get_or (take n xs) i 0) within) e
    ∙ ap (λ x. is_in (take n xs) e && not (e == x)) (sym moved))
