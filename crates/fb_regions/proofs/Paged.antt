-- Numbers that are kept page by page.
use Rattle.std.proofs.Common.{ℕ, ◌≡◌, ◌+◌, ◌*◌, ◌/◌, ◌%◌, ◌^◌, ◌≤◌, ◌<◌, ◌⊎◌, inl, inr, List, [], ◌++◌, length, length-append, get_or, set, replicate, sum_by, sym, ap, ◌∙◌, arith, if◌then◌else◌}
use Rattle.std.proofs.lemmas.Bool.{cases_eq, cases_lt, ne_eqb}
use Rattle.std.proofs.lemmas.List.{ext_get_or, get_or-append-add, get_or-replicate, get_or-set_other, get_or-set_same, get_or_append_left, get_or_past, length-replicate, length-set}
use Rattle.std.proofs.lemmas.List.FromFn.{get_or-map-range_with_len, length-map-range_with_len}
use Rattle.std.proofs.lemmas.List.Sums.{get_or-le-sum_by, sum_by-set}
use Rattle.std.specs.List.{sum_by}
use Rattle.fb_regions.specs.InternalPages.{missing_pages, no_place, number_at, numbers_of, slot, ArePaged}
use Rattle.fb_regions.specs.declared.paged_numbers.TheConstants.{PAGE}

pub length-numbers : (count : ℕ) (places numbers : List ℕ) → length (numbers_of count places numbers) ≡ count
length-numbers count places numbers = length-map-range_with_len (number_at places numbers) 0 count

pub number_below : (count : ℕ) (places numbers : List ℕ) (i : ℕ) → i < count
    → get_or (numbers_of count places numbers) i 0 ≡ number_at places numbers i
number_below count places numbers i less = get_or-map-range_with_len (number_at places numbers) 0 count i i 0 less (omega arith)

module _ (places numbers : List ℕ) (room : ℕ) (paged : ArePaged places numbers room) where
  -- the numbers are so few that no place of a page that isn't filled is among them
  short : length numbers ≤ 2 ^ 32
  short = omega (arith, paged.counted, paged.few)

  -- a number is kept in a filled page, or far past all of them
  slot_cases : (i : ℕ) → (slot places i < length numbers) ⊎ (PAGE * no_place ≤ slot places i)
  slot_cases i = by (cases_lt (i / PAGE) (length places))
    where
      within : (get_or places (i / PAGE) no_place ≡ no_place) ⊎ (PAGE * get_or places (i / PAGE) no_place + PAGE ≤ length numbers)
          → (slot places i < length numbers) ⊎ (PAGE * no_place ≤ slot places i)
      within (inl out) = inr (omega (arith, out))
      within (inr filled) = inl (omega (arith, filled))

      by : (i / PAGE < length places) ⊎ (length places ≤ i / PAGE) → (slot places i < length numbers) ⊎ (PAGE * no_place ≤ slot places i)
      by (inl less) = within (paged.within (i / PAGE) no_place less)
      by (inr past) = inr (omega (arith, get_or_past places (i / PAGE) no_place past))

  -- the place of a filled page
  pub filled_within : (page : ℕ) → page < length places → (get_or places page no_place ≡ no_place → ⊥)
      → PAGE * get_or places page no_place + PAGE ≤ length numbers
  filled_within page less is = by (paged.within page no_place less)
    where
      by : (get_or places page no_place ≡ no_place) ⊎ (PAGE * get_or places page no_place + PAGE ≤ length numbers)
          → PAGE * get_or places page no_place + PAGE ≤ length numbers
      by (inl out) = absurd (is out)
      by (inr within) = within

  -- the numbers of a page that isn't filled
  pub number_missing : (i : ℕ) → get_or places (i / PAGE) no_place ≡ no_place → number_at places numbers i ≡ 0
  number_missing i out = get_or_past numbers (slot places i) 0 (omega (arith, out, short))

  -- a page that isn't filled gets numbers behind the others
  module _ (page place more : ℕ) (longer : List ℕ) (less : page < length places) (out : get_or places page no_place ≡ no_place)
      (next : place ≡ length numbers / PAGE) (is : longer ≡ numbers ++ replicate PAGE 0) (fits : room ≤ more) where
    others : sum_by missing_pages (set places page place) + missing_pages (get_or places page no_place) ≡ sum_by missing_pages places + missing_pages place
    others = sum_by-set missing_pages places page place no_place less

    was_missing : missing_pages (get_or places page no_place) ≡ 1
    was_missing = ap missing_pages out

    some_missing : 1 ≤ sum_by missing_pages places
    some_missing = omega (arith, was_missing, get_or-le-sum_by missing_pages places page no_place less)

    pub room_for_page : length numbers + PAGE ≤ 2 ^ 32
    room_for_page = omega (arith, paged.counted, paged.few, some_missing)

    whole : PAGE * place ≡ length numbers
    whole = omega (arith, paged.counted, next)

    is_filled : missing_pages place ≡ 0
    is_filled = ap (λ b. if b then 1 else 0) (ne_eqb place no_place (λ e. absurd (omega (arith, e, whole, room_for_page))))

    long : length longer ≡ length numbers + PAGE
    long = omega (arith, ap length is, length-append numbers (replicate PAGE 0), length-replicate {A = ℕ} PAGE 0)

    slot_here : (i : ℕ) → i / PAGE ≡ page → slot (set places page place) i ≡ length numbers + i % PAGE
    slot_here i here =
        omega (arith, ap (λ p. get_or (set places page place) p no_place) here, get_or-set_same places page place no_place less, whole)

    slot_other : (i : ℕ) → (i / PAGE ≡ page → ⊥) → slot (set places page place) i ≡ slot places i
    slot_other i other = ap (λ q. PAGE * q + i % PAGE) (get_or-set_other places page (i / PAGE) place no_place other)

    pub numbers_same : (i : ℕ) → number_at (set places page place) longer i ≡ number_at places numbers i
    numbers_same i = by (cases_eq (i / PAGE) page)
      where
        apart : (slot places i < length numbers) ⊎ (PAGE * no_place ≤ slot places i)
            → get_or (numbers ++ replicate PAGE 0) (slot places i) 0 ≡ get_or numbers (slot places i) 0
        apart (inl within) = get_or_append_left numbers (replicate PAGE 0) 0 (slot places i) within
        apart (inr past) =
            get_or_past (numbers ++ replicate PAGE 0) (slot places i) 0 (omega (arith, past, ap length is, long, room_for_page))
            ∙ sym (get_or_past numbers (slot places i) 0 (omega (arith, past, short)))

        by : (i / PAGE ≡ page) ⊎ (i / PAGE ≡ page → ⊥) → number_at (set places page place) longer i ≡ number_at places numbers i
        by (inl here) =
            ap (λ s. get_or longer s 0) (slot_here i here)
            ∙ (ap (λ l. get_or l (length numbers + i % PAGE) 0) is
            ∙ (get_or-append-add numbers (replicate PAGE 0) (i % PAGE) 0
            ∙ (get_or-replicate PAGE (i % PAGE) 0 0 (omega arith)
            ∙ sym (number_missing i (ap (λ p. get_or places p no_place) here ∙ out)))))
        by (inr other) =
            ap (λ s. get_or longer s 0) (slot_other i other) ∙ (ap (λ l. get_or l (slot places i) 0) is ∙ apart (slot_cases i))

    pub page_filled : ArePaged (set places page place) longer more
    page_filled = record {
      within = λ p d below. by p d below (cases_eq p page);
      apart = λ i j below same. differ i j below same (cases_eq (i / PAGE) page) (cases_eq (j / PAGE) page);
      counted = omega (arith, paged.counted, others, was_missing, is_filled, long, length-set places page place);
      fits = omega (arith, paged.fits, fits, length-set places page place);
      few = omega (arith, paged.few, length-set places page place);
    }
      where
        wider : (q r : ℕ) → q ≡ r → (r ≡ no_place) ⊎ (PAGE * r + PAGE ≤ length numbers) → (q ≡ no_place) ⊎ (PAGE * q + PAGE ≤ length longer)
        wider q r same (inl none) = inl (same ∙ none)
        wider q r same (inr within) = inr (omega (arith, same, within, long))

        by : (p d : ℕ) → p < length (set places page place) → (p ≡ page) ⊎ (p ≡ page → ⊥)
            → (get_or (set places page place) p d ≡ no_place) ⊎ (PAGE * get_or (set places page place) p d + PAGE ≤ length longer)
        by p d below (inl here) =
            inr
            (omega (arith, ap (λ k. get_or (set places page place) k d) here, get_or-set_same places page place d less, whole, long))
        by p d below (inr other) =
            wider _ _ (get_or-set_other places page p place d other) (paged.within p d (omega (arith, below, length-set places page place)))

        differ : (i j : ℕ) → slot (set places page place) i < length longer → slot (set places page place) i ≡ slot (set places page place) j
            → (i / PAGE ≡ page) ⊎ (i / PAGE ≡ page → ⊥) → (j / PAGE ≡ page) ⊎ (j / PAGE ≡ page → ⊥) → i ≡ j
        differ i j below same (inl here) (inl there) = omega (arith, same, slot_here i here, slot_here j there, here, there)
        differ i j below same (inl here) (inr other) = never (slot_cases j)
          where
            never : (slot places j < length numbers) ⊎ (PAGE * no_place ≤ slot places j) → i ≡ j
            never (inl within) = absurd (omega (arith, within, same, slot_here i here, slot_other j other))
            never (inr past) = absurd (omega (arith, past, below, same, slot_other j other, long, room_for_page))
        differ i j below same (inr other) (inl there) = never (slot_cases i)
          where
            never : (slot places i < length numbers) ⊎ (PAGE * no_place ≤ slot places i) → i ≡ j
            never (inl within) = absurd (omega (arith, within, same, slot_here j there, slot_other i other))
            never (inr past) = absurd (omega (arith, past, below, slot_other i other, long, room_for_page))
        differ i j below same (inr other) (inr another) = both (slot_cases i)
          where
            both : (slot places i < length numbers) ⊎ (PAGE * no_place ≤ slot places i) → i ≡ j
            both (inl within) = paged.apart i j within (sym (slot_other i other) ∙ (same ∙ slot_other j another))
            both (inr past) = absurd (omega (arith, past, below, slot_other i other, long, room_for_page))

  -- a number set in its page
  pub number_set : (count i n s : ℕ) (first before : List ℕ) → ((k : ℕ) → number_at places numbers k ≡ number_at first before k) → i < count
      → s ≡ slot places i → s < length numbers → numbers_of count places (set numbers s n) ≡ set (numbers_of count first before) i n
  number_set count i n s first before same less at within =
      ext_get_or 0 (numbers_of count places (set numbers s n)) (set (numbers_of count first before) i n)
      (omega (arith, length-numbers count places (set numbers s n), length-set (numbers_of count first before) i n, length-numbers count first before))
      (λ k below. by k (omega (arith, below, length-numbers count places (set numbers s n))) (cases_eq k i))
    where
      by : (k : ℕ) → k < count → (k ≡ i) ⊎ (k ≡ i → ⊥)
          → get_or (numbers_of count places (set numbers s n)) k 0 ≡ get_or (set (numbers_of count first before) i n) k 0
      by k below (inl here) =
          number_below count places (set numbers s n) k below
          ∙ (ap (λ j. get_or (set numbers s n) j 0) (ap (slot places) here ∙ sym at)
          ∙ (get_or-set_same numbers s n 0 within
          ∙ (sym (get_or-set_same (numbers_of count first before) i n 0 (omega (arith, less, length-numbers count first before)))
          ∙ ap (λ j. get_or (set (numbers_of count first before) i n) j 0) (sym here))))
      by k below (inr other) =
          number_below count places (set numbers s n) k below
          ∙ (get_or-set_other numbers s (slot places k) n 0
          (λ e. other (sym (paged.apart i k (omega (arith, within, at)) (sym at ∙ sym e))))
          ∙ (same k
          ∙ (sym (number_below count first before k below) ∙ sym (get_or-set_other (numbers_of count first before) i k n 0 other))))

-- numbers without pages are all 0
pub numbers_none : (count pages : ℕ) → numbers_of count (replicate pages no_place) [] ≡ replicate count 0
numbers_none count pages =
    ext_get_or 0 (numbers_of count (replicate pages no_place) []) (replicate count 0)
    (omega (arith, length-numbers count (replicate pages no_place) [], length-replicate {A = ℕ} count 0))
    (λ k below.
    let less : k < count = omega (arith, below, length-numbers count (replicate pages no_place) []) in
    number_below count (replicate pages no_place) [] k less ∙ sym (get_or-replicate count k 0 0 less))
