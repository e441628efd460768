-- How a list of cuts is kept, when cuts are added, dropped, sorted, or have their vertices sorted.
use Rattle.std.proofs.Common.{◌≡◌, inl, inr, ℕ, ◌+◌, ◌-◌, ◌<◌, ◌≤◌, Bool, true, false, cond, List, [], ◌∷◌, ◌++◌, All, filter, length, get_or, map, take, drop, min, max, ltb, suc, subst, refl, sym, ap, ◌∙◌, arith}
use Rattle.std.specs.List.{AllZip}
use Rattle.std.specs.List.Sorted.{IsNonDecreasing, IsPermutation, IsSortedBy}
use Rattle.std.specs.Prelude.{slice_range}
use Rattle.std.proofs.lemmas.Bool.{cases_lt, ltb-false}
use Rattle.std.proofs.lemmas.List.{drop-append-le, drop_at, get_or-map, get_or_default, length-append, length-drop, length-map, length-take-le, map_push, nil_from_length, take-append-drop, take-append-le, take_all}
use Rattle.std.proofs.lemmas.List.Elements.{All-filter, All-head, All-tail}
use Rattle.std.proofs.lemmas.List.Kept.{AllPairs-filter}
use Rattle.std.proofs.lemmas.List.Sorted.{All-permutation, length_permutation}
use Rattle.std.proofs.lemmas.Map.Keys.{IsDistinct-IsPermutation, IsDistinct-from_apart, apart_from_distinct}
use Rattle.std.proofs.lemmas.Slice.{between-put_mid, between_is, take-put_mid_below, drop-put_mid}
use borrow.Rule.Slice.PartMut.{put_mid}
use Rattle.fb_graph.specs.InternalCutEntries.{HaveRanges, IsRange, cut_in, do_overlap}
use Rattle.fb_graph.specs.Printed.{IsResorted}
use Rattle.fb_graph.specs.declared.cuts.CutEntry.{CutEntry}
use Rattle.fb_graph.specs.declared.parts.Cut.{Cut}

-- an entry without vertices, of value 0
abbrev pub no_entry : CutEntry
no_entry = record { value = 0; first = 0; end = 0 }

-- cuts of value 0 dropped
pub map-filter : {X Y : Type 0} (f : X → Y) (p : Y → Bool) (xs : List X)
    → map f (filter (λ x. p (f x)) xs) ≡ filter p (map f xs)
map-filter f p [] = refl
map-filter {X = X} f p (x ∷ xs) = step (p (f x)) (map-filter f p xs)
  where
    step : (b : Bool) → map f (filter (λ (y : X). p (f y)) xs) ≡ filter p (map f xs)
        → map f (cond b (x ∷ filter (λ (y : X). p (f y)) xs) (filter (λ (y : X). p (f y)) xs)) ≡ cond b (f x ∷ filter p (map f xs)) (filter p (map f xs))
    step true rest = ap (λ l. f x ∷ l) rest
    step false rest = rest

pub HaveRanges-filter : (vertices : List ℕ) (entries : List CutEntry) (p : CutEntry → Bool)
    → HaveRanges vertices entries → HaveRanges vertices (filter p entries)
HaveRanges-filter vertices entries p have = record {
  ranges = All-filter p (IsRange (length vertices)) entries have.ranges;
  apart = AllPairs-filter (λ d e. do_overlap d e ≡ false) p entries have.apart;
}

-- the vertices of another cut behind the list
slice_range-append : (xs ys : List ℕ) (a b : ℕ) → a ≤ b → b ≤ length xs
    → slice_range (xs ++ ys) a b ≡ slice_range xs a b
slice_range-append xs ys a b ordered within =
    let inside : a ≤ length xs = omega arith in
    let short : b - a ≤ length (drop a xs) = omega (arith, length-drop a xs) in
    ap (take (b - a)) (drop-append-le a xs ys inside) ∙ take-append-le (b - a) (drop a xs) ys short

slice_range_behind : (xs ys : List ℕ) (a b : ℕ) → a ≡ length xs → b ≡ length (xs ++ ys)
    → slice_range (xs ++ ys) a b ≡ ys
slice_range_behind xs ys a b first end =
    ap (take (b - a)) (drop_at xs ys a (sym first))
    ∙ take_all (b - a) ys (omega (arith, length-append xs ys))

cuts-append : (vertices more : List ℕ) (entries : List CutEntry) → All (IsRange (length vertices)) entries
    → map (cut_in (vertices ++ more)) entries ≡ map (cut_in vertices) entries
cuts-append vertices more [] ranges = refl
cuts-append vertices more (e ∷ es) ranges =
    let range : IsRange (length vertices) e = All-head (IsRange (length vertices)) e es ranges in
    let here : slice_range (vertices ++ more) e.first e.end ≡ slice_range vertices e.first e.end =
    slice_range-append vertices more e.first e.end range.ordered range.within in
    let rest : map (cut_in (vertices ++ more)) es ≡ map (cut_in vertices) es =
    cuts-append vertices more es (All-tail (IsRange (length vertices)) e es ranges) in
    let cut : List ℕ → Cut = λ l. record { value = e.value; vertices = l } in
    ap (λ l. cut l ∷ map (cut_in (vertices ++ more)) es) here ∙ ap (λ l. cut_in vertices e ∷ l) rest

pub cuts_pushed : (vertices more : List ℕ) (entries : List CutEntry) (entry : CutEntry)
    → All (IsRange (length vertices)) entries → entry.first ≡ length vertices
    → entry.end ≡ length (vertices ++ more)
    → map (cut_in (vertices ++ more)) (entries ++ entry ∷ []) ≡ map (cut_in vertices) entries ++ record { value = entry.value; vertices = more } ∷ []
cuts_pushed vertices more entries entry ranges first end =
    let cut : List ℕ → Cut = λ l. record { value = entry.value; vertices = l } in
    map_push (cut_in (vertices ++ more)) entries entry
    ∙ (ap (λ l. l ++ cut_in (vertices ++ more) entry ∷ []) (cuts-append vertices more entries ranges)
    ∙ ap (λ l. map (cut_in vertices) entries ++ cut l ∷ [])
    (slice_range_behind vertices more entry.first entry.end first end))

-- the cuts in another order
do_overlap_sym : (d e : CutEntry) → do_overlap d e ≡ do_overlap e d
do_overlap_sym d e =
    let first : max d.first e.first ≡ max e.first d.first = omega arith in
    let end : min d.end e.end ≡ min e.end d.end = omega arith in
    ap (λ n. ltb n (min d.end e.end)) first ∙ ap (ltb (max e.first d.first)) end

pub HaveRanges-permutation : (vertices : List ℕ) (before after : List CutEntry) → IsPermutation before after
    → HaveRanges vertices before → HaveRanges vertices after
HaveRanges-permutation vertices before after moved have = record {
  ranges = All-permutation (IsRange (length vertices)) before after moved have.ranges;
  apart = λ i j d earlier less.
      apart_from_distinct do_overlap after i j d
      (IsDistinct-IsPermutation do_overlap do_overlap_sym before after moved
      (IsDistinct-from_apart do_overlap before have.apart))
      earlier less;
}

pub IsSortedBy-map : {X Y : Type 0} (f : X → Y) (lt : Y → Y → Bool) (xs : List X) (x : X)
    → IsSortedBy (λ a b. lt (f a) (f b)) xs → IsSortedBy lt (map f xs)
IsSortedBy-map f lt xs x sorted k d low less =
    let long : k + 1 < length xs = omega (arith, length-map xs f) in
    let inside : k < length xs = omega arith in
    rw (get_or-map f xs (k + 1) x d long, get_or-map f xs k x d inside) (sorted k x low long)

-- the vertices of one cut sorted
put_mid-none : (a : ℕ) (xs ys : List ℕ) → length ys ≡ 0 → put_mid a 0 xs ys ≡ xs
put_mid-none a xs ys none =
    ap (λ l. take a xs ++ (l ++ drop a xs)) (nil_from_length ys none) ∙ take-append-drop a xs

slice_range-put_mid : (a k : ℕ) (xs ys : List ℕ) (first end : ℕ) → a + k ≤ length xs → length ys ≡ k
    → min end (a + k) ≤ max first a → slice_range (put_mid a k xs ys) first end ≡ slice_range xs first end
slice_range-put_mid a k xs ys first end within long apart =
    elim (cases_lt first end) [
      | inr none ↦
          let no_length : end - first ≡ 0 = omega arith in
          rw no_length refl
      | inl some ↦ elim (cases_lt a end) [
        | inr below ↦
            between_is (put_mid a k xs ys) first end
            ∙ (ap (drop first) (take-put_mid_below a k xs ys end below (omega arith))
            ∙ sym (between_is xs first end))
        | inl over ↦ elim (cases_lt first (a + k)) [
          | inr above ↦ ap (take (end - first)) (drop-put_mid a k xs ys first above (omega arith) long)
          | inl under ↦
              let no_part : k ≡ 0 = omega arith in
              ap (λ n. slice_range (put_mid a n xs ys) first end) no_part
              ∙ ap (λ l. slice_range l first end) (put_mid-none a xs ys (long ∙ no_part))
        ]
      ]
    ]

-- what a loop that sorts the vertices of one entry after another keeps
apart_from_ranges : (vertices : List ℕ) (entries : List CutEntry) (i k : ℕ) (d : CutEntry) → HaveRanges vertices entries
    → i < length entries → k < length entries → (i ≡ k → ⊥)
    → do_overlap (get_or entries k d) (get_or entries i d) ≡ false
apart_from_ranges vertices entries i k d have inside within other =
    elim (cases_lt k i) [
      | inl before ↦ have.apart k i d before inside
      | inr after ↦
          do_overlap_sym (get_or entries k d) (get_or entries i d)
          ∙ have.apart i k d (omega arith) within
    ]

cut_in-sorted_other : (now : List ℕ) (d e : CutEntry) (part : List ℕ) → IsRange (length now) e
    → length part ≡ e.end - e.first → do_overlap d e ≡ false
    → cut_in (put_mid e.first (e.end - e.first) now part) d ≡ cut_in now d
cut_in-sorted_other now d e part range long apart =
    let cut : List ℕ → Cut = λ l. record { value = d.value; vertices = l } in
    let ordered : e.first ≤ e.end = range.ordered in
    let within : e.end ≤ length now = range.within in
    let beside : min d.end e.end ≤ max d.first e.first = ltb-false (max d.first e.first) (min d.end e.end) apart in
    let end : e.first + (e.end - e.first) ≡ e.end = omega arith in
    ap cut
    (slice_range-put_mid e.first (e.end - e.first) now part d.first d.end (omega arith) long
    (rw end beside))

length-sorted : (now : List ℕ) (e : CutEntry) (part : List ℕ) → IsRange (length now) e
    → IsPermutation (slice_range now e.first e.end) part → length part ≡ e.end - e.first
length-sorted now e part range moved =
    length_permutation (slice_range now e.first e.end) part moved
    ∙ length-take-le (e.end - e.first) (drop e.first now)
    (omega (arith, length-drop e.first now, range.ordered, range.within))

cut_in-sorted : (now : List ℕ) (e : CutEntry) (part : List ℕ) → IsRange (length now) e
    → IsPermutation (slice_range now e.first e.end) part → IsNonDecreasing part
    → IsResorted (cut_in now e) (cut_in (put_mid e.first (e.end - e.first) now part) e)
cut_in-sorted now e part range moved sorted =
    let within : e.first ≤ length now = omega (arith, range.ordered, range.within) in
    let new : slice_range (put_mid e.first (e.end - e.first) now part) e.first e.end ≡ part =
    between-put_mid e.first (e.end - e.first) now part e.end within (length-sorted now e part range moved) in
    record { value = refl; moved = rw new moved; sorted = rw new sorted }

-- the entries whose vertices have been sorted, and those whose vertices are as before
pub record AreSortedUpTo (old now : List ℕ) (entries : List CutEntry) (i : ℕ) : Type 0 where
  pub done : (k : ℕ) (d : CutEntry) → k < i → k < length entries → IsResorted (cut_in old (get_or entries k d)) (cut_in now (get_or entries k d))
  pub rest : (k : ℕ) (d : CutEntry) → i ≤ k → k < length entries → cut_in now (get_or entries k d) ≡ cut_in old (get_or entries k d)

pub AreSortedUpTo-more : (old now : List ℕ) (entries : List CutEntry) (i : ℕ) (part : List ℕ)
    → HaveRanges old entries → length now ≡ length old → i < length entries
    → AreSortedUpTo old now entries i
    → IsPermutation (slice_range now (get_or entries i no_entry).first (get_or entries i no_entry).end) part
    → IsNonDecreasing part
    → AreSortedUpTo old (put_mid (get_or entries i no_entry).first ((get_or entries i no_entry).end - (get_or entries i no_entry).first) now part) entries (i + 1)
AreSortedUpTo-more old now entries i part have long inside before moved sorted = record {
  done = λ k d less within.
      elim (cases_lt k i) [
        | inl earlier ↦
            subst (λ c. IsResorted (cut_in old (get_or entries k d)) c) (sym (other k d within (omega arith)))
            (before.done k d earlier within)
        | inr later ↦
            let same : i ≡ k = omega arith in
            subst (λ j. IsResorted (cut_in old (get_or entries j d)) (cut_in new (get_or entries j d))) same (own d)
      ];
  rest = λ k d after within. other k d within (omega arith) ∙ before.rest k d (omega arith) within;
}
  where
    e : CutEntry
    e = get_or entries i no_entry

    new : List ℕ
    new = put_mid e.first (e.end - e.first) now part

    range : IsRange (length now) e
    range = subst (λ n. IsRange n e) (sym long) (have.ranges i no_entry inside)

    other : (k : ℕ) (d : CutEntry) → k < length entries → (i ≡ k → ⊥)
        → cut_in new (get_or entries k d) ≡ cut_in now (get_or entries k d)
    other k d within apart =
        subst (λ x. cut_in new x ≡ cut_in now x) (get_or_default entries k no_entry d within)
        (cut_in-sorted_other now (get_or entries k no_entry) e part range (length-sorted now e part range moved)
        (apart_from_ranges old entries i k no_entry have inside within apart))

    own : (d : CutEntry) → IsResorted (cut_in old (get_or entries i d)) (cut_in new (get_or entries i d))
    own d =
        subst (λ x. IsResorted (cut_in old x) (cut_in new x)) (get_or_default entries i no_entry d inside)
        (subst (λ c. IsResorted c (cut_in new e)) (before.rest i no_entry (omega arith) inside)
        (cut_in-sorted now e part range moved sorted))

pub resorted-cuts : (old new : List ℕ) (entries : List CutEntry)
    → ((k : ℕ) (e : CutEntry) → k < length entries → IsResorted (cut_in old (get_or entries k e)) (cut_in new (get_or entries k e)))
    → AllZip IsResorted (map (cut_in old) entries) (map (cut_in new) entries)
resorted-cuts old new [] each = tt
resorted-cuts old new (e ∷ es) each =
    (each 0 e (omega arith), resorted-cuts old new es (λ k d less. each (suc k) d (omega arith)))
