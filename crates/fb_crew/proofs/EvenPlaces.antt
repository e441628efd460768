-- Rows and the history of a window's shots, by those that have a correction.
use Rattle.std.proofs.Common.{◌≡◌, ℕ, zero, suc, ◌+◌, ◌*◌, ◌<◌, ◌≤◌, ◌==◌, Bool, true, false, if◌then◌else◌, List, [], ◌∷◌, ◌++◌, length, map, take, drop, get_or, slice_set, slice_index_or, Option, Some, None, refl, sym, ap, subst, ◌∙◌, is_some, ◌⊎◌, inl, inr, arith, append_assoc, length-append}
use Rattle.std.specs.List.{All, AllZip, range_with_len}
use Rattle.std.proofs.lemmas.Bool.{eqb-true, eq-eqb, or_cases, or_left, or_right, false≢true}
use Rattle.std.proofs.lemmas.Nat.{mul-add-lt}
use Rattle.std.proofs.lemmas.List.{drop_more, length-map, length-take, take_more}
use Rattle.std.proofs.Math.Seq.{set-append_seam}
use Rattle.std.proofs.lemmas.List.Elements.{All-nil, All-cons, All-head, All-tail}
use Rattle.fb_graph.proofs.ShotGraphs.{same_first_odd}
use Rattle.fb_graph.specs.Components.{IsFirstOdd}
use Rattle.fb_graph.specs.Limits.{DecodingGraph, ShotValue, problem_of}
use Rattle.fb_graph.specs.Parity.{is_in}
use Rattle.fb_graph.specs.declared.parts.Row.{Row}
use Rattle.fb_graph.specs.declared.parts.Row.TheVariants.{Best, Odd}
use Rattle.fb_plan.specs.Plans.{PlanTree, IsTree, node_count}
use Rattle.fb_book.specs.Board.{kids_in}
use Rattle.fb_book.specs.Machine.{IsComplete, IsCompleteOn, IsForest, AreSlots, all_idle}
use Rattle.fb_book.specs.Laws.{IsRenumbering, renumbered_entry}
use Rattle.fb_book.specs.declared.entries.Entry.{Entry}
use Rattle.fb_book.proofs.History.{complete_on_slots}
use Rattle.fb_book.proofs.Images.{renumbering_completes}
use Rattle.fb_book.proofs.Places.{forest_of_places}
use Rattle.fb_book.proofs.Renumbering.{renumbering_allows}
use Rattle.fb_book.proofs.Trees.{forest_of_tree, small_tree}
use Rattle.fb_slots.specs.Ordered.{IsByItem}
use Rattle.fb_crew.proofs.Order.{by_item, nodes_within}
use Rattle.fb_crew.specs.InternalWindows.{AreOddAt, IsSorted, SortingLaws, even_of, even_places, rows_by, with_places}
use Rattle.fb_crew.specs.Windows.{AreRows, IsHistoryOf, IsShotRow, best_places, is_best, most_seats}

module _ (g : DecodingGraph) where
  pub rows_right : (odd : List (Option ℕ)) (shots : List ShotValue) (solved : List Row) → AreOddAt g shots odd
      → AreRows g (even_of odd shots) solved → AreRows g shots (rows_by odd solved)
  rows_right [] [] solved each rows = tt
  rows_right [] (s ∷ ss) solved each rows = absurd each
  rows_right (v ∷ vs) [] solved each rows = absurd each
  rows_right (Some v ∷ vs) (s ∷ ss) solved each rows = ((same_first_odd g s (Some v)).0 each.0, rows_right vs ss solved each.1 rows)
  rows_right (None ∷ vs) (s ∷ ss) [] each rows = absurd rows
  rows_right (None ∷ vs) (s ∷ ss) (r ∷ rs) each rows = (rows.0, rows_right vs ss rs each.1 rows.1)

  best_row : (shot : ShotValue) (r : Row) → IsFirstOdd (problem_of g shot) None → IsShotRow g shot r → is_best r ≡ true
  best_row shot (Best edges base weight cuts) none right = refl
  best_row shot (Odd v) none right = absurd ((same_first_odd g shot None).0 none v right.0)

  chosen : (b : Bool) (xs ys : List ℕ) → b ≡ true → (if b then xs else ys) ≡ xs
  chosen true xs ys e = refl
  chosen false xs ys e = absurd (false≢true e)

  pub best_are_even : (k : ℕ) (odd : List (Option ℕ)) (shots : List ShotValue) (solved : List Row) → AreOddAt g shots odd
      → AreRows g (even_of odd shots) solved → best_places k (rows_by odd solved) ≡ even_places k odd
  best_are_even k [] [] solved each rows = refl
  best_are_even k [] (s ∷ ss) solved each rows = absurd each
  best_are_even k (v ∷ vs) [] solved each rows = absurd each
  best_are_even k (Some v ∷ vs) (s ∷ ss) solved each rows = best_are_even (k + 1) vs ss solved each.1 rows
  best_are_even k (None ∷ vs) (s ∷ ss) [] each rows = absurd rows
  best_are_even k (None ∷ vs) (s ∷ ss) (r ∷ rs) each rows =
      chosen (is_best r) _ _ (best_row s r each.0 rows.0) ∙ ap (λ xs. k ∷ xs) (best_are_even (k + 1) vs ss rs each.1 rows.1)

  pub same_length : (odd : List (Option ℕ)) (shots : List ShotValue) (solved : List Row) → AreOddAt g shots odd
      → AreRows g (even_of odd shots) solved → length (rows_by odd solved) ≡ length odd
  same_length [] [] solved each rows = refl
  same_length [] (s ∷ ss) solved each rows = absurd each
  same_length (v ∷ vs) [] solved each rows = absurd each
  same_length (Some v ∷ vs) (s ∷ ss) solved each rows = ap suc (same_length vs ss solved each.1 rows)
  same_length (None ∷ vs) (s ∷ ss) [] each rows = absurd rows
  same_length (None ∷ vs) (s ∷ ss) (r ∷ rs) each rows = ap suc (same_length vs ss rs each.1 rows.1)

  pub as_many_places : (k : ℕ) (odd : List (Option ℕ)) (shots : List ShotValue) → AreOddAt g shots odd
      → length (even_places k odd) ≡ length (even_of odd shots)
  as_many_places k [] [] each = refl
  as_many_places k [] (s ∷ ss) each = absurd each
  as_many_places k (v ∷ vs) [] each = absurd each
  as_many_places k (Some v ∷ vs) (s ∷ ss) each = as_many_places (k + 1) vs ss each.1
  as_many_places k (None ∷ vs) (s ∷ ss) each = ap suc (as_many_places (k + 1) vs ss each.1)

-- ---- one shot more

pub one_more : {A B : Type 0} (R : A → B → Type 0) (xs : List A) (ys : List B) (x : A) (y : B) → AllZip R xs ys → R x y
    → AllZip R (xs ++ x ∷ []) (ys ++ y ∷ [])
one_more R [] [] x y all here = (here, tt)
one_more R [] (z ∷ ys) x y all here = absurd all
one_more R (w ∷ xs) [] x y all here = absurd all
one_more R (w ∷ xs) (z ∷ ys) x y all here = (all.0, one_more R xs ys x y all.1 here)

module _ (g : DecodingGraph) where
  even_none : (odd : List (Option ℕ)) (shots : List ShotValue) (shot : ShotValue) → AreOddAt g shots odd
      → even_of (odd ++ None ∷ []) (shots ++ shot ∷ []) ≡ even_of odd shots ++ shot ∷ []
  even_none [] [] shot each = refl
  even_none [] (s ∷ ss) shot each = absurd each
  even_none (v ∷ vs) [] shot each = absurd each
  even_none (Some v ∷ vs) (s ∷ ss) shot each = even_none vs ss shot each.1
  even_none (None ∷ vs) (s ∷ ss) shot each = ap (λ xs. s ∷ xs) (even_none vs ss shot each.1)

  even_some : (odd : List (Option ℕ)) (shots : List ShotValue) (shot : ShotValue) (u : ℕ) → AreOddAt g shots odd
      → even_of (odd ++ Some u ∷ []) (shots ++ shot ∷ []) ≡ even_of odd shots
  even_some [] [] shot u each = refl
  even_some [] (s ∷ ss) shot u each = absurd each
  even_some (v ∷ vs) [] shot u each = absurd each
  even_some (Some v ∷ vs) (s ∷ ss) shot u each = even_some vs ss shot u each.1
  even_some (None ∷ vs) (s ∷ ss) shot u each = ap (λ xs. s ∷ xs) (even_some vs ss shot u each.1)

  places_none : (k : ℕ) (odd : List (Option ℕ)) → even_places k (odd ++ None ∷ []) ≡ even_places k odd ++ (k + length odd) ∷ []
  places_none k [] = ap (λ n. n ∷ []) (omega arith)
  places_none k (Some v ∷ vs) = places_none (k + 1) vs ∙ ap (λ n. even_places (k + 1) vs ++ n ∷ []) (omega arith)
  places_none k (None ∷ vs) = ap (λ xs. k ∷ xs) (places_none (k + 1) vs ∙ ap (λ n. even_places (k + 1) vs ++ n ∷ []) (omega arith))

  places_some : (k u : ℕ) (odd : List (Option ℕ)) → even_places k (odd ++ Some u ∷ []) ≡ even_places k odd
  places_some k u [] = refl
  places_some k u (Some v ∷ vs) = places_some (k + 1) u vs
  places_some k u (None ∷ vs) = ap (λ xs. k ∷ xs) (places_some (k + 1) u vs)

  module _ (shots : List ShotValue) (odd : List (Option ℕ)) (even : List ShotValue) (places : List ℕ) (sorted : IsSorted g shots odd even places) (shot : ShotValue) where
    pub sorted_even : IsFirstOdd (problem_of g shot) None
        → IsSorted g (shots ++ shot ∷ []) (odd ++ None ∷ []) (even ++ shot ∷ []) (places ++ length shots ∷ [])
    sorted_even none = record {
      each = one_more _ shots odd shot None sorted.each none;
      even_are = ap (λ xs. xs ++ shot ∷ []) sorted.even_are ∙ sym (even_none odd shots shot sorted.each);
      places_are = ap (λ n. places ++ n ∷ []) (sym (zipped shots odd sorted.each)) ∙ ap (λ xs. xs ++ length odd ∷ []) sorted.places_are
          ∙ ap (λ n. even_places 0 odd ++ n ∷ []) (from_zero (length odd)) ∙ sym (places_none 0 odd);
    }
      where
        from_zero : (n : ℕ) → n ≡ 0 + n
        from_zero n = omega arith

        zipped : (ss : List ShotValue) (vs : List (Option ℕ)) → AreOddAt g ss vs → length vs ≡ length ss
        zipped [] [] each = refl
        zipped [] (v ∷ vs) each = absurd each
        zipped (s ∷ ss) [] each = absurd each
        zipped (s ∷ ss) (v ∷ vs) each = ap suc (zipped ss vs each.1)

    pub sorted_odd : (u : ℕ) → IsFirstOdd (problem_of g shot) (Some u) → IsSorted g (shots ++ shot ∷ []) (odd ++ Some u ∷ []) even places
    sorted_odd u here = record {
      each = one_more _ shots odd shot (Some u) sorted.each here;
      even_are = sorted.even_are ∙ sym (even_some odd shots shot u sorted.each);
      places_are = sorted.places_are ∙ sym (places_some 0 u odd);
    }

    pub sorted_more_odd : (vertex : Option ℕ) (now : List (Option ℕ)) → IsFirstOdd (problem_of g shot) vertex → is_some vertex ≡ true
        → now ≡ odd ++ vertex ∷ [] → IsSorted g (shots ++ shot ∷ []) now even places
    sorted_more_odd None now here some e = absurd (false≢true some)
    sorted_more_odd (Some u) now here some e = subst (λ vs. IsSorted g (shots ++ shot ∷ []) vs even places) (sym e) (sorted_odd u here)

    pub sorted_more_even : (vertex : Option ℕ) (place : ℕ) (now : List (Option ℕ)) (more : List ShotValue) (later : List ℕ)
        → IsFirstOdd (problem_of g shot) vertex → place ≡ length shots → is_some vertex ≡ false
        → now ≡ odd ++ vertex ∷ [] → more ≡ even ++ shot ∷ [] → later ≡ places ++ place ∷ [] → IsSorted g (shots ++ shot ∷ []) now more later
    sorted_more_even (Some u) place now more later here is none e f h = absurd (false≢true (sym none))
    sorted_more_even None place now more later here is none e f h =
        rw (e, f, h, is) (sorted_even here)

-- ---- the places rise

place_least : (k : ℕ) (odd : List (Option ℕ)) (i d : ℕ) → i < length (even_places k odd)
    → (k ≤ get_or (even_places k odd) i d) × (get_or (even_places k odd) i d < k + length odd)
place_least k [] i d less = absurd (omega (arith, less))
place_least k (Some v ∷ vs) i d less =
    let rest = place_least (k + 1) vs i d less in (omega (arith, rest.0), omega (arith, rest.1))
place_least k (None ∷ vs) zero d less = (omega arith, omega arith)
place_least k (None ∷ vs) (suc i) d less =
    let rest = place_least (k + 1) vs i d (omega (arith, less)) in (omega (arith, rest.0), omega (arith, rest.1))

places_rise : (k : ℕ) (odd : List (Option ℕ)) (i j d : ℕ) → i < j → j < length (even_places k odd)
    → get_or (even_places k odd) i d < get_or (even_places k odd) j d
places_rise k [] i j d less within = absurd (omega (arith, within))
places_rise k (Some v ∷ vs) i j d less within = places_rise (k + 1) vs i j d less within
places_rise k (None ∷ vs) i zero d less within = absurd (omega (arith, less))
places_rise k (None ∷ vs) zero (suc j) d less within =
    let rest = place_least (k + 1) vs j d (omega (arith, within)) in omega (arith, rest.0)
places_rise k (None ∷ vs) (suc i) (suc j) d less within = places_rise (k + 1) vs i j d (omega (arith, less)) (omega (arith, within))

-- ---- entries renumbered one by one

get_at : {A : Type 0} (ys : List A) (x : A) (xs : List A) (d : A) → get_or (ys ++ x ∷ xs) (length ys) d ≡ x
get_at [] x xs d = refl
get_at (y ∷ ys) x xs d = get_at ys x xs d

with_more : (places : List ℕ) (es : List Entry) (e : Entry) → with_places places (es ++ e ∷ []) ≡ with_places places es ++ renumbered_entry (λ s. get_or places s 0) e ∷ []
with_more places [] e = refl
with_more places (x ∷ es) e = ap (λ xs. renumbered_entry (λ s. get_or places s 0) x ∷ xs) (with_more places es e)

seam : (places : List ℕ) (done : List Entry) (x : Entry) (rest : List Entry) (i : ℕ) (y z : Entry) → length done ≡ i
    → y ≡ get_or (done ++ x ∷ rest) i y → z ≡ get_or (done ++ x ∷ rest) i z
    → slice_set (done ++ x ∷ rest) i (record { kind = z.kind; worker = z.worker; slot = slice_index_or places y.slot 0; node = z.node })
    ≡ done ++ renumbered_entry (λ s. get_or places s 0) x ∷ rest
seam places done x rest i y z e at_y at_z =
    let is_y : y ≡ x = at_y ∙ subst (λ k. get_or (done ++ x ∷ rest) k y ≡ x) e (get_at done x rest y) in
    let is_z : z ≡ x = at_z ∙ subst (λ k. get_or (done ++ x ∷ rest) k z ≡ x) e (get_at done x rest z) in
    rw (is_y, is_z) (subst (λ k. slice_set (done ++ x ∷ rest) k (renumbered_entry (λ s. get_or places s 0) x)
    ≡ done ++ renumbered_entry (λ s. get_or places s 0) x ∷ rest) e (set-append_seam done x rest (renumbered_entry (λ s. get_or places s 0) x)))

-- the next entry gets its place
pub renumbered_next : (places : List ℕ) (old now : List Entry) (i : ℕ) (y z : Entry) → i < length old
    → now ≡ with_places places (take i old) ++ drop i old → y ≡ get_or now i y → z ≡ get_or now i z
    → slice_set now i (record { kind = z.kind; worker = z.worker; slot = slice_index_or places y.slot 0; node = z.node })
    ≡ with_places places (take (i + 1) old) ++ drop (i + 1) old
renumbered_next places old now i y z less is at_y at_z = go (is ∙ ap (λ xs. done ++ xs) split)
  where
    done : List Entry
    done = with_places places (take i old)

    x : Entry
    x = get_or old i y

    rest : List Entry
    rest = drop (i + 1) old

    split : drop i old ≡ x ∷ rest
    split = drop_more old i y less

    taken : length (take i old) ≡ i
    taken = omega (arith, length-take i old, less)

    as_many : length done ≡ i
    as_many = length-map (take i old) (renumbered_entry (λ s. get_or places s 0)) ∙ taken

    ends : done ++ renumbered_entry (λ s. get_or places s 0) x ∷ rest ≡ with_places places (take (i + 1) old) ++ rest
    ends = sym (append_assoc done (renumbered_entry (λ s. get_or places s 0) x ∷ []) rest)
        ∙ ap (λ xs. xs ++ rest) (sym (with_more places (take i old) x) ∙ ap (with_places places) (sym (take_more old i y less)))

    go : now ≡ done ++ x ∷ rest
        → slice_set now i (record { kind = z.kind; worker = z.worker; slot = slice_index_or places y.slot 0; node = z.node })
        ≡ with_places places (take (i + 1) old) ++ rest
    go e = rw e (seam places done x rest i y z as_many (subst (λ xs. y ≡ get_or xs i y) e at_y) (subst (λ xs. z ≡ get_or xs i z) e at_z)) ∙ ends

-- ---- the images of all slots are the places

images_from : (ys xs : List ℕ) → map (λ s. get_or (ys ++ xs) s 0) (range_with_len (length ys) (length xs)) ≡ xs
images_from ys [] = refl
images_from ys (x ∷ xs) = cons_same (get_at ys x xs 0) (shift ∙ images_from (ys ++ x ∷ []) xs)
  where
    cons_same : {a b : ℕ} {xs ys : List ℕ} → a ≡ b → xs ≡ ys → a ∷ xs ≡ b ∷ ys
    cons_same {a = a} {b = b} {xs = xs} {ys = ys} e f = ap (λ z. z ∷ xs) e ∙ ap (λ zs. b ∷ zs) f

    shift : map (λ s. get_or (ys ++ x ∷ xs) s 0) (range_with_len (length ys + 1) (length xs))
        ≡ map (λ s. get_or ((ys ++ x ∷ []) ++ xs) s 0) (range_with_len (length (ys ++ x ∷ [])) (length xs))
    shift = subst (λ zs. map (λ s. get_or (ys ++ x ∷ xs) s 0) (range_with_len (length ys + 1) (length xs))
        ≡ map (λ s. get_or zs s 0) (range_with_len (length (ys ++ x ∷ [])) (length xs))) (sym (append_assoc ys (x ∷ []) xs))
        (ap (λ n. map (λ s. get_or (ys ++ x ∷ xs) s 0) (range_with_len n (length xs))) (sym (length-append ys (x ∷ []))))

images : (xs : List ℕ) → map (λ s. get_or xs s 0) (range_with_len 0 (length xs)) ≡ xs
images xs = images_from [] xs

in_range : (a n s : ℕ) → is_in (range_with_len a n) s ≡ true → (a ≤ s) × (s < a + n)
in_range a zero s h = absurd (false≢true h)
in_range a (suc n) s h = step (or_cases (a == s) (is_in (range_with_len (a + 1) n) s) h) (in_range (a + 1) n s)
  where
    step : ((a == s) ≡ true) ⊎ (is_in (range_with_len (a + 1) n) s ≡ true)
        → (is_in (range_with_len (a + 1) n) s ≡ true → (a + 1 ≤ s) × (s < a + 1 + n)) → (a ≤ s) × (s < a + suc n)
    step (inl e) rest = let is : a ≡ s = eqb-true a s e in (omega (arith, is), omega (arith, is))
    step (inr e) rest = let more = rest e in (omega (arith, more.0), omega (arith, more.1))

in_places : (xs : List ℕ) (i : ℕ) → i < length xs → is_in xs (get_or xs i 0) ≡ true
in_places [] i less = absurd (omega (arith, less))
in_places (x ∷ xs) zero less = or_left (x == x) (is_in xs x) (eq-eqb x x refl)
in_places (x ∷ xs) (suc i) less = or_right (x == get_or xs i 0) (is_in xs (get_or xs i 0)) (in_places xs i (omega (arith, less)))

-- ---- the history

All-map : {A B : Type 0} (P : A → Type 0) (Q : B → Type 0) (f : A → B) → ((x : A) → P x → Q (f x)) → (xs : List A) → All P xs → All Q (map f xs)
All-map P Q f more [] all = All-nil Q
All-map P Q f more (x ∷ xs) all = All-cons Q (f x) (map f xs) (more x (All-head P x xs all)) (All-map P Q f more xs (All-tail P x xs all))

module _ (t : PlanTree) (tree : IsTree t) (workers more : ℕ) (odd : List (Option ℕ)) where
  abbrev places : List ℕ
  places = even_places 0 odd

  abbrev n : ℕ
  n = node_count t

  abbrev at : ℕ → ℕ
  at s = get_or places s 0

  abbrev all : List ℕ
  all = range_with_len 0 (length places)

  some_units : 0 < t.units
  some_units = omega (arith, tree.count)

  all_slots : AreSlots all n (length places * n)
  all_slots slot node h less =
      let below = (in_range 0 (length places) slot h).1 in
      let e : slot * n + node < n * length places = mul-add-lt slot n node (length places) (omega (arith, below)) less in omega (arith, e)

  renumbering : length odd ≤ more → IsRenumbering at (length places) more
  renumbering enough = record {
    rising = λ s u less within. places_rise 0 odd s u 0 less within;
    below = λ s within. let least = place_least 0 odd s 0 within in omega (arith, least.1, enough);
  }

  forest : IsForest (kids_in t.units t.joins)
  forest = forest_of_places t.units t.joins (small_tree t tree).0 (forest_of_tree t tree)

  pub history_of : (history : List Entry) → length odd ≤ more
      → IsComplete (kids_in t.units t.joins) n (length places * n) history → All (λ e. e.worker ≤ workers) history
      → (seats : ℕ) → All (λ e. e.worker < seats) history → IsByItem n history
      → IsCompleteOn places (kids_in t.units t.joins) n (more * n) (with_places places history)
      × All (λ e. is_in places e.slot ≡ true) (with_places places history) × All (λ e. e.worker ≤ workers) (with_places places history)
      × All (λ e. e.worker < seats) (with_places places history) × IsByItem n (with_places places history)
  history_of history enough complete by seats seated order = (
    subst (λ on. IsCompleteOn on (kids_in t.units t.joins) n (more * n) (with_places places history)) (images places)
        (renumbering_completes at t.units t.joins (length places) more all history (renumbering enough) some_units forest
        (complete_on_slots all (kids_in t.units t.joins) n (length places * n) history all_slots complete)),
    All-map (λ e. e.slot < length places) (λ e. is_in places e.slot ≡ true) (renumbered_entry at) (λ e less. in_places places e.slot less) history
        (renumbering_allows at t.units t.joins (length places) more history complete.statuses (renumbering enough) forest complete.replayed).slots_are,
    All-map (λ e. e.worker ≤ workers) (λ e. e.worker ≤ workers) (renumbered_entry at) (λ e le. le) history by,
    All-map (λ e. e.worker < seats) (λ e. e.worker < seats) (renumbered_entry at) (λ e less. less) history seated,
    by_item n (length places) at (renumbering enough).rising history
        (renumbering_allows at t.units t.joins (length places) more history complete.statuses (renumbering enough) forest complete.replayed).slots_are
        (nodes_within (kids_in t.units t.joins) n (all_idle (length places * n)) complete.statuses history complete.replayed) order,
  )

-- the entries of a complete history are of its slots
pub slots_within : (t : PlanTree) → IsTree t → (slots : ℕ) (history : List Entry)
    → IsComplete (kids_in t.units t.joins) (node_count t) (slots * node_count t) history → All (λ e. e.slot < slots) history
slots_within t tree slots history complete =
    (renumbering_allows (λ s. s) t.units t.joins slots slots history complete.statuses (record { rising = λ s u less within. less; below = λ s within. within })
    (forest_of_places t.units t.joins (small_tree t tree).0 (forest_of_tree t tree)) complete.replayed).slots_are

pub sorting_laws : SortingLaws
sorting_laws g t workers shots odd even ps solved history tree sorted rows complete by seated order = (
  rows_right g odd shots solved sorted.each solved_rows,
  close (history_of t tree workers (length (rows_by odd solved)) odd history enough
      (subst (λ m. IsComplete (kids_in t.units t.joins) (node_count t) (m * node_count t) history) as_many complete) by
      (most_seats workers (length even * t.units)) seated order),
)
  where
    solved_rows : AreRows g (even_of odd shots) solved
    solved_rows = subst (λ ss. AreRows g ss solved) sorted.even_are rows

    same_places : even_places 0 odd ≡ best_places 0 (rows_by odd solved)
    same_places = sym (best_are_even g 0 odd shots solved sorted.each solved_rows)

    as_many : length even ≡ length (even_places 0 odd)
    as_many = ap length sorted.even_are ∙ sym (as_many_places g 0 odd shots sorted.each)

    enough : length odd ≤ length (rows_by odd solved)
    enough = omega (arith, same_length g odd shots solved sorted.each solved_rows)

    close : IsCompleteOn (even_places 0 odd) (kids_in t.units t.joins) (node_count t) (length (rows_by odd solved) * node_count t)
        (with_places (even_places 0 odd) history)
        × All (λ e. is_in (even_places 0 odd) e.slot ≡ true) (with_places (even_places 0 odd) history)
        × All (λ e. e.worker ≤ workers) (with_places (even_places 0 odd) history)
        × All (λ e. e.worker < most_seats workers (length even * t.units)) (with_places (even_places 0 odd) history)
        × IsByItem (node_count t) (with_places (even_places 0 odd) history)
        → IsHistoryOf t workers (rows_by odd solved) (with_places ps history)
    close made = subst (λ qs. IsHistoryOf t workers (rows_by odd solved) (with_places qs history)) (sym sorted.places_are) (record {
      complete = subst (λ on. IsCompleteOn on (kids_in t.units t.joins) (node_count t) (length (rows_by odd solved) * node_count t)
          (with_places (even_places 0 odd) history)) same_places made.0;
      within = subst (λ on. All (λ e. is_in on e.slot ≡ true) (with_places (even_places 0 odd) history)) same_places made.1;
      by = made.2;
      seats = subst (λ (m : ℕ). All (λ e. e.worker < most_seats workers (m * t.units)) (with_places (even_places 0 odd) history))
          (as_many ∙ ap length same_places) made.3;
      order = made.4;
    })
