-- Matches by the names that they list: a name is in one match alone, also as matches are taken out one after another.
use Rattle.std.proofs.Common.{ℕ, zero, suc, ◌≡◌, ◌+◌, ◌<◌, ◌==◌, ◌||◌, ◌⊎◌, inl, inr, not, Bool, true, false, List, [], ◌∷◌, ◌++◌, map, flat_map, length, get_or, take, All, None, is_some, refl, sym, ap, ◌∙◌, subst, append_assoc, arith, cond}
use Rattle.std.specs.List.{filter}
use Rattle.std.specs.List.Sorted.{IsPermutation}
use Rattle.std.proofs.lemmas.Bool.{both_ways, false≢true, cases_eq, eq-eqb, false_from_ne_true, or_cases, or_from, or_left, or_parts, or_right}
use Rattle.std.proofs.lemmas.Grind.{flat_map-append}
use Rattle.std.proofs.lemmas.List.{get_or-map, length-map, map-append, take_more}
use Rattle.std.proofs.lemmas.List.Sorted.{All-permutation, IsPermutation-append_right, IsPermutation-filter_both, IsPermutation-map, IsPermutation-pop_more}
use Rattle.fb_graph.specs.Parity.{is_in}
use Rattle.fb_graph.specs.Certificate.{AreDistinct}
use Rattle.fb_graph.proofs.Among.{IsAmong, All_among, among_All, among_right}
use Rattle.fb_graph.proofs.Members.{is_in-append, distinct_left}
use Rattle.fb_graph.proofs.Sets.{is_in-cases, is_in-head, is_in-tail}
use Rattle.fb_laws.proofs.MergedParts.{distinct_across}
use Rattle.fb_laws.proofs.OpenedBlossoms.{distinct_permuted, same_permuted}
use Rattle.fb_laws.proofs.TreePaths.{distinct_right}
use Rattle.fb_links.specs.Table.{Removes, is_live, link_at}
use Rattle.fb_half.specs.declared.matches.Match.{Match}
use Rattle.fb_half.specs.InternalSeams.{IsFreed}
use Rattle.fb_half.specs.InternalStandings.{no_match}
use Rattle.fb_half.specs.Matchings.{MatchingValue, listed_names, match_links, matched_names, names_of}
use Rattle.fb_half.proofs.FlatPermutations.{flat_permuted}
use Rattle.fb_links.proofs.MovedLinks.{Table}

abbrev pub firsts : List Match → List ℕ
firsts ms = map (λ m. m.first) ms

-- a number of the second of two lists without a common number is not in the first
pub parted_left : (xs ys : List ℕ) (v : ℕ) → AreDistinct (xs ++ ys) → is_in ys v ≡ true → is_in xs v ≡ false
parted_left xs ys v distinct within =
    false_from_ne_true (is_in xs v) (λ h. both_ways (is_in ys v) (distinct_across xs ys v distinct h) within)

pub name_in : (ms : List Match) (m : Match) (v : ℕ) → IsAmong m ms → is_in (names_of m) v ≡ true → is_in (matched_names ms) v ≡ true
name_in [] m v a h = absurd a
name_in (x ∷ xs) m v (inl same) h =
    is_in-append (names_of x) (matched_names xs) v
    ∙ or_left (is_in (names_of x) v) (is_in (matched_names xs) v) (ap (λ e. is_in (names_of e) v) same ∙ h)
name_in (x ∷ xs) m v (inr a) h =
    is_in-append (names_of x) (matched_names xs) v
    ∙ or_right (is_in (names_of x) v) (is_in (matched_names xs) v) (name_in xs m v a h)

pub link_in : (ms : List Match) (m : Match) → IsAmong m ms → is_in (match_links ms) m.link ≡ true
link_in [] m a = absurd a
link_in (x ∷ xs) m (inl same) = subst (λ e. is_in (match_links (x ∷ xs)) e.link ≡ true) same (is_in-head x.link (match_links xs))
link_in (x ∷ xs) m (inr a) = is_in-tail x.link (match_links xs) m.link (link_in xs m a)

pub first_in : (m : Match) → is_in (names_of m) m.first ≡ true
first_in m = or_left (m.first == m.first) _ (eq-eqb m.first m.first refl)

-- the first nodes are some of all
pub first_listed : (ms : List Match) (v : ℕ) → is_in (firsts ms) v ≡ true → is_in (matched_names ms) v ≡ true
first_listed [] v h = absurd (false≢true h)
first_listed (m ∷ ms) v h =
    is_in-append (names_of m) (matched_names ms) v
    ∙ step (or_cases (m.first == v) (is_in (firsts ms) v) h) (first_listed ms v)
  where
    step : ((m.first == v) ≡ true) ⊎ (is_in (firsts ms) v ≡ true) → (is_in (firsts ms) v ≡ true → is_in (matched_names ms) v ≡ true)
        → (is_in (names_of m) v || is_in (matched_names ms) v) ≡ true
    step (inl e) rest = or_left (is_in (names_of m) v) (is_in (matched_names ms) v) (or_left (m.first == v) _ e)
    step (inr h) rest = or_right (is_in (names_of m) v) (is_in (matched_names ms) v) (rest h)

-- one match alone has a name
pub same_match : (ms : List Match) (m n : Match) (v : ℕ) → AreDistinct (matched_names ms) → IsAmong m ms → IsAmong n ms
    → is_in (names_of m) v ≡ true → is_in (names_of n) v ≡ true → m ≡ n
same_match [] m n v distinct a b h k = absurd a
same_match (x ∷ xs) m n v distinct (inl e) (inl f) h k = sym e ∙ f
same_match (x ∷ xs) m n v distinct (inl e) (inr b) h k =
    absurd (both_ways (is_in (matched_names xs) v)
    (distinct_across (names_of x) (matched_names xs) v distinct (ap (λ l. is_in (names_of l) v) e ∙ h)) (name_in xs n v b k))
same_match (x ∷ xs) m n v distinct (inr a) (inl f) h k =
    absurd (both_ways (is_in (matched_names xs) v)
    (distinct_across (names_of x) (matched_names xs) v distinct (ap (λ l. is_in (names_of l) v) f ∙ k)) (name_in xs m v a h))
same_match (x ∷ xs) m n v distinct (inr a) (inr b) h k =
    same_match xs m n v (distinct_right (names_of x) (matched_names xs) distinct) a b h k

pub among_permuted : {X : Type 0} (xs ys : List X) (x : X) → IsPermutation xs ys → IsAmong x ys → IsAmong x xs
among_permuted {X} xs ys x moved a = All_among (λ y. IsAmong y xs) ys whole x a
  where
    whole : All (λ y. IsAmong y xs) ys
    whole = All-permutation (λ y. IsAmong y xs) xs ys moved (among_All (λ y. IsAmong y xs) xs (λ y b. b))

pub filter_parts : {X : Type 0} (test : X → Bool) (xs : List X) (x : X) → IsAmong x (filter test xs) → IsAmong x xs × (test x ≡ true)
filter_parts test [] x a = absurd a
filter_parts {X} test (y ∷ ys) x a = step (test y) refl a (filter_parts test ys x)
  where
    step : (b : Bool) → test y ≡ b → IsAmong x (cond b (y ∷ filter test ys) (filter test ys))
        → (IsAmong x (filter test ys) → IsAmong x ys × (test x ≡ true)) → IsAmong x (y ∷ ys) × (test x ≡ true)
    step true is (inl e) rest = (inl e, ap test (sym e) ∙ is)
    step true is (inr b) rest = let both = rest b in (inr both.0, both.1)
    step false is b rest = let both = rest b in (inr both.0, both.1)

pub at_among : {X : Type 0} (xs : List X) (i : ℕ) (d : X) → i < length xs → IsAmong (get_or xs i d) xs
at_among [] i d less = absurd (omega (arith, less))
at_among (x ∷ xs) zero d less = inl refl
at_among (x ∷ xs) (suc i) d less = inr (at_among xs i d (omega (arith, less)))

-- names of the matches before one, and its own
pub names_before : {X : Type 0} (f : X → List ℕ) (xs : List X) (i : ℕ) (d : X) → i < length xs
    → (rest : List ℕ) × (flat_map f xs ≡ flat_map f (take i xs) ++ (f (get_or xs i d) ++ rest))
names_before f [] i d less = absurd (omega (arith, less))
names_before f (x ∷ xs) zero d less = (flat_map f xs, refl)
names_before f (x ∷ xs) (suc i) d less =
    let (rest, is) = names_before f xs i d (omega (arith, less)) in
    (rest, ap (λ l. f x ++ l) is ∙ sym (append_assoc (f x) (flat_map f (take i xs)) (f (get_or xs i d) ++ rest)))

-- so the next one's names are new
pub names_new : {X : Type 0} (f : X → List ℕ) (listed : List ℕ) (xs : List X) (i : ℕ) (d : X) → i < length xs
    → AreDistinct (listed ++ flat_map f xs) → (v : ℕ) → is_in (f (get_or xs i d)) v ≡ true
    → is_in (listed ++ flat_map f (take i xs)) v ≡ false
names_new f listed xs i d less distinct v within =
    let (rest, is) = names_before f xs i d less in
    let own : List ℕ = f (get_or xs i d) in
    parted_left (listed ++ flat_map f (take i xs)) (own ++ rest) v
    (subst AreDistinct (ap (λ l. listed ++ l) is ∙ sym (append_assoc listed (flat_map f (take i xs)) (own ++ rest))) distinct)
    (is_in-append own rest v ∙ or_left (is_in own v) (is_in rest v) within)

-- the node at a place of the list of first nodes
pub first_at : (test : Match → Bool) (all matches : List Match) (read names : List ℕ) (i : ℕ) → read ≡ names
    → names ≡ firsts (filter test matches) → matches ≡ all → i < length read
    → (i < length (filter test all)) × (get_or read i 0 ≡ (get_or (filter test all) i no_match).first)
first_at test all matches read names i is are same less =
    let whole : read ≡ firsts (filter test all) = is ∙ (are ∙ ap (λ ms. firsts (filter test ms)) same) in
    let within : i < length (filter test all) = omega (arith, less, ap length whole, length-map (filter test all) (λ m. m.first)) in
    (within, ap (λ l. get_or l i 0) whole ∙ get_or-map (λ m. m.first) (filter test all) i no_match 0 within)

module _ (test : Match → Bool) (before : MatchingValue) (links : Table) (names : AreDistinct (listed_names before))
    (numbers : AreDistinct (match_links before.matches)) (live : All (λ m. is_live links m.link ≡ true) before.matches) where
  abbrev pub seam : List Match
  seam = filter test before.matches

  all_names : AreDistinct (matched_names before.matches)
  all_names = distinct_right before.unmatched (matched_names before.matches) names

  seam_names : AreDistinct (matched_names seam)
  seam_names =
      distinct_left (matched_names seam) (matched_names (filter (λ m. not (test m)) before.matches))
      (subst AreDistinct (flat_map-append names_of seam (filter (λ m. not (test m)) before.matches))
      (distinct_permuted (matched_names before.matches) (matched_names (seam ++ filter (λ m. not (test m)) before.matches))
      (flat_permuted names_of before.matches (seam ++ filter (λ m. not (test m)) before.matches)
      (IsPermutation-filter_both test (λ m. not (test m)) (λ m. refl) before.matches)) all_names))

  module _ (i : ℕ) (d : Match) (less : i < length seam) (now : MatchingValue) (table : Table)
      (freed : IsFreed (take i seam) before now links table) where
    abbrev pub next : Match
    next = get_or seam i d

    next_among : IsAmong next before.matches
    next_among = (filter_parts test before.matches next (at_among seam i d less)).0

    listed : IsPermutation (matched_names before.matches) (matched_names (take i seam) ++ matched_names now.matches)
    listed =
        subst (IsPermutation (matched_names before.matches)) (flat_map-append names_of (take i seam) now.matches)
        (flat_permuted names_of before.matches (take i seam ++ now.matches) freed.matches)

    -- it is not among those that are taken out
    not_taken : is_in (matched_names (take i seam)) next.first ≡ false
    not_taken = names_new names_of [] seam i d less seam_names next.first (first_in next)

    pub still_there : is_in (matched_names now.matches) next.first ≡ true
    still_there =
        sym (ap (λ b. b || is_in (matched_names now.matches) next.first) not_taken)
        ∙ (sym (is_in-append (matched_names (take i seam)) (matched_names now.matches) next.first)
        ∙ (same_permuted _ _ listed next.first ∙ name_in before.matches next next.first next_among (first_in next)))

    module _ (m : Match) (left : List Match) (named : is_in (names_of m) next.first ≡ true) (taken : IsPermutation now.matches (m ∷ left)) where
      m_now : IsAmong m now.matches
      m_now = among_permuted now.matches (m ∷ left) m taken (inl refl)

      m_among : IsAmong m before.matches
      m_among = among_permuted before.matches (take i seam ++ now.matches) m freed.matches (among_right (take i seam) now.matches m m_now)

      pub is_next : m ≡ next
      is_next = same_match before.matches m next next.first all_names m_among next_among named (first_in next)

      own_link : is_in (match_links (take i seam)) m.link ≡ false
      own_link =
          parted_left (match_links (take i seam)) (match_links now.matches) m.link
          (subst AreDistinct (map-append (λ e. e.link) (take i seam) now.matches)
          (distinct_permuted (match_links before.matches) (match_links (take i seam ++ now.matches))
          (IsPermutation-map (λ e. e.link) before.matches (take i seam ++ now.matches) freed.matches) numbers))
          (link_in now.matches m m_now)

      pub link_live : is_live table m.link ≡ true
      link_live =
          ap is_some (freed.others m.link own_link) ∙ All_among (λ e. is_live links e.link ≡ true) before.matches live m m_among

      moved : IsPermutation before.matches ((take i seam ++ m ∷ []) ++ left)
      moved = IsPermutation-pop_more before.matches (take i seam) now.matches left m freed.matches taken

      all_listed : AreDistinct ((before.unmatched ++ matched_names (take i seam ++ m ∷ [])) ++ matched_names left)
      all_listed =
          subst AreDistinct (sym (append_assoc before.unmatched (matched_names (take i seam ++ m ∷ [])) (matched_names left)))
          (subst (λ l. AreDistinct (before.unmatched ++ l)) (flat_map-append names_of (take i seam ++ m ∷ []) left)
          (distinct_permuted (listed_names before) (before.unmatched ++ matched_names ((take i seam ++ m ∷ []) ++ left))
          (IsPermutation-append_right before.unmatched (matched_names before.matches) (matched_names ((take i seam ++ m ∷ []) ++ left))
          (flat_permuted names_of before.matches ((take i seam ++ m ∷ []) ++ left) moved)) names))

      own_name : is_in (matched_names (take i seam ++ m ∷ [])) next.first ≡ true
      own_name = name_in (take i seam ++ m ∷ []) m next.first (among_right (take i seam) (m ∷ []) m (inl refl)) named

      -- it is listed nowhere any more
      pub unlisted : is_in (now.unmatched ++ matched_names left) next.first ≡ false
      unlisted =
          is_in-append now.unmatched (matched_names left) next.first
          ∙ or_from (is_in now.unmatched next.first) (is_in (matched_names left) next.first)
          (ap (λ l. is_in l next.first) freed.unmatched
          ∙ (is_in-append before.unmatched (firsts (take i seam)) next.first
          ∙ or_from (is_in before.unmatched next.first) (is_in (firsts (take i seam)) next.first)
          (parted_left before.unmatched (matched_names before.matches) next.first names
          (name_in before.matches next next.first next_among (first_in next)))
          (false_from_ne_true (is_in (firsts (take i seam)) next.first)
          (λ h. both_ways (is_in (matched_names (take i seam)) next.first) not_taken (first_listed (take i seam) next.first h)))))
          (distinct_across (before.unmatched ++ matched_names (take i seam ++ m ∷ [])) (matched_names left) next.first all_listed
          (is_in-append before.unmatched (matched_names (take i seam ++ m ∷ [])) next.first
          ∙ or_right (is_in before.unmatched next.first) (is_in (matched_names (take i seam ++ m ∷ [])) next.first) own_name))

      -- one match more is taken out
      pub freed_more : (after : MatchingValue) (new : Table) → after.matches ≡ left → after.unmatched ≡ now.unmatched ++ next.first ∷ []
          → Removes table new m.link → IsFreed (take (i + 1) seam) before after links new
      freed_more after new matches unmatched removes =
          subst (λ l. IsFreed l before after links new) (sym (take_more seam i d less ∙ ap (λ e. take i seam ++ e ∷ []) (sym is_next)))
          (record {
            matches = subst (λ l. IsPermutation before.matches ((take i seam ++ m ∷ []) ++ l)) (sym matches) moved;
            unmatched =
                unmatched
                ∙ (ap (λ l. l ++ next.first ∷ []) freed.unmatched
                ∙ (append_assoc before.unmatched (firsts (take i seam)) (next.first ∷ [])
                ∙ ap (λ l. before.unmatched ++ l)
                (ap (λ e. firsts (take i seam) ++ e.first ∷ []) (sym is_next) ∙ sym (map-append (λ e. e.first) (take i seam) (m ∷ [])))));
            gone = λ id within. gone id (cases_eq id m.link) within;
            others = λ id none.
                let apart = parts id none in
                removes.others id (λ e. both_ways (m.link == id) apart.1 (eq-eqb m.link id (sym e))) ∙ freed.others id apart.0;
          })
        where
          split : (id : ℕ) → is_in (match_links (take i seam ++ m ∷ [])) id ≡ (is_in (match_links (take i seam)) id || is_in (m.link ∷ []) id)
          split id =
              ap (λ l. is_in l id) (map-append (λ e. e.link) (take i seam) (m ∷ []))
              ∙ is_in-append (match_links (take i seam)) (m.link ∷ []) id

          parts : (id : ℕ) → is_in (match_links (take i seam ++ m ∷ [])) id ≡ false
              → (is_in (match_links (take i seam)) id ≡ false) × ((m.link == id) ≡ false)
          parts id none =
              let both = or_parts (is_in (match_links (take i seam)) id) (is_in (m.link ∷ []) id) (sym (split id) ∙ none) in
              (both.0, (or_parts (m.link == id) false both.1).0)

          gone : (id : ℕ) → (id ≡ m.link) ⊎ (id ≡ m.link → ⊥) → is_in (match_links (take i seam ++ m ∷ [])) id ≡ true → link_at new id ≡ None
          gone id (inl e) within = ap (link_at new) e ∙ removes.gone
          gone id (inr other) within =
              removes.others id other
              ∙ freed.gone id (step (or_cases (is_in (match_links (take i seam)) id) (is_in (m.link ∷ []) id) (sym (split id) ∙ within)))
            where
              step : (is_in (match_links (take i seam)) id ≡ true) ⊎ (is_in (m.link ∷ []) id ≡ true) → is_in (match_links (take i seam)) id ≡ true
              step (inl h) = h
              step (inr h) = absurd (last (is_in-cases m.link [] id h))
                where
                  last : (m.link ≡ id) ⊎ (is_in [] id ≡ true) → ⊥
                  last (inl e) = other (sym e)
                  last (inr h) = false≢true h
