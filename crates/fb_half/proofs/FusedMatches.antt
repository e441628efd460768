-- The matches and the links of a fusion's part as it begins, by those of the children's parts.
use Rattle.std.proofs.Common.{ℕ, ◌≡◌, ◌&&◌, ◌||◌, ◌⊎◌, inl, inr, not, Bool, true, false, cond, List, [], ◌∷◌, ◌++◌, map, flat_map, Option, Some, None, is_some, refl, sym, ap, ◌∙◌, subst}
use Rattle.std.specs.List.{filter}
use Rattle.std.specs.List.Sorted.{IsPermutation}
use Rattle.std.proofs.lemmas.Bool.{both_ways, false_from_ne_true, false≢true, or_cases, or_left, or_right}
use Rattle.std.proofs.lemmas.List.{map-append}
use Rattle.std.proofs.lemmas.List.Elements.{filter-append}
use Rattle.std.proofs.lemmas.List.Sorted.{IsPermutation-map, IsPermutation-sym}
use Rattle.fb_graph.specs.Parity.{is_in}
use Rattle.fb_graph.specs.Limits.{IsWithinLimits, no_shot}
use Rattle.fb_graph.specs.Problem.{Problem}
use Rattle.fb_graph.proofs.Among.{IsAmong, All_among}
use Rattle.fb_graph.proofs.Members.{is_in-append, is_in-map}
use Rattle.fb_graph.proofs.Sets.{is_in-cases}
use Rattle.fb_laws.proofs.OpenedBlossoms.{same_permuted}
use Rattle.fb_plan.specs.Plans.{children_of, problem_at}
use Rattle.fb_links.specs.Merged.{AreMerged}
use Rattle.fb_links.specs.Table.{link_at}
use Rattle.fb_blossoms.specs.Merged as merged
use Rattle.fb_half.specs.declared.matches.Match.{Match}
use Rattle.fb_half.specs.InternalSeams.{IsBeside, IsOpened, ends_at_seam, meets_seam, met_matches, met_nodes}
use Rattle.fb_half.specs.Matchings.{IsMatchOf, match_links}
use Rattle.fb_half.specs.Merged.{IsMerged, freed_in, is_alone, is_freed, is_owned_by, other_matches, renamed_match, renamed_second, seam_matches, staying_links}
use Rattle.fb_half.specs.Parts.{IsPart, PartValue, graph_in, kept_links, problem_in, solved_shot}
use Rattle.fb_half.specs.Seams.{far_end}
use Rattle.fb_half.specs.Translations.{link_by, ring_links}
use Rattle.fb_half.proofs.BesideLinks.{link_left, link_right, links_renamed, moved, stays}
use Rattle.fb_half.proofs.FarEnds.{seam_far}
use Rattle.fb_half.proofs.FlatPermutations.{flat_permuted}
use Rattle.fb_half.proofs.FreedMatches.{filter_parts, firsts, link_in}
use Rattle.fb_half.proofs.MergedHalves.{before, link, live_left, live_right, name, rings_are, seam_unreal}
use Rattle.fb_half.proofs.SeamedLinks.{link_stays, stays_off}
use Rattle.fb_half.proofs.AddedSingles.{Store}
use Rattle.fb_links.proofs.MovedLinks.{Table}

one_or_none : {X : Type 0} → (X → Bool) → X → List X
one_or_none test x = cond (test x) (x ∷ []) []

filter_flat : {X : Type 0} (test : X → Bool) (xs : List X) → filter test xs ≡ flat_map (one_or_none test) xs
unfolding one_or_none
filter_flat test [] = refl
filter_flat {X} test (x ∷ xs) = step (test x) (filter_flat test xs)
  where
    step : (b : Bool) → filter test xs ≡ flat_map (one_or_none test) xs
        → cond b (x ∷ filter test xs) (filter test xs) ≡ cond b (x ∷ []) [] ++ flat_map (one_or_none test) xs
    step true rest = ap (λ l. x ∷ l) rest
    step false rest = rest

-- the elements that pass are the same in another order
pub filter_permuted : {X : Type 0} (test : X → Bool) (xs ys : List X) → IsPermutation xs ys → IsPermutation (filter test xs) (filter test ys)
filter_permuted test xs ys moved_ =
    subst (λ l. IsPermutation l (filter test ys)) (sym (filter_flat test xs))
    (subst (IsPermutation (flat_map (one_or_none test) xs)) (sym (filter_flat test ys)) (flat_permuted (one_or_none test) xs ys moved_))

-- elements changed so that each passes where it did
pub filter_changed : {X Y : Type 0} (change : X → Y) (test : Y → Bool) (old : X → Bool) (xs : List X) → ((x : X) → IsAmong x xs → test (change x) ≡ old x)
    → filter test (map change xs) ≡ map change (filter old xs)
filter_changed change test old [] same = refl
filter_changed {X} {Y} change test old (x ∷ xs) same =
    ap (λ b. cond b (change x ∷ filter test (map change xs)) (filter test (map change xs))) (same x (inl refl))
    ∙ step (old x) (filter_changed change test old xs (λ y a. same y (inr a)))
  where
    step : (b : Bool) → filter test (map change xs) ≡ map change (filter old xs)
        → cond b (change x ∷ filter test (map change xs)) (filter test (map change xs)) ≡ map change (cond b (x ∷ filter old xs) (filter old xs))
    step true rest = ap (λ l. change x ∷ l) rest
    step false rest = rest

filter_same : {X : Type 0} (test old : X → Bool) (xs : List X) → ((x : X) → IsAmong x xs → test x ≡ old x) → filter test xs ≡ filter old xs
filter_same test old [] same = refl
filter_same {X} test old (x ∷ xs) same =
    ap (λ b. cond b (x ∷ filter test xs) (filter test xs)) (same x (inl refl))
    ∙ step (old x) (filter_same test old xs (λ y a. same y (inr a)))
  where
    step : (b : Bool) → filter test xs ≡ filter old xs → cond b (x ∷ filter test xs) (filter test xs) ≡ cond b (x ∷ filter old xs) (filter old xs)
    step true rest = ap (λ l. x ∷ l) rest
    step false rest = rest

pub filter_all : {X : Type 0} (test : X → Bool) (xs : List X) → ((x : X) → IsAmong x xs → test x ≡ true) → filter test xs ≡ xs
filter_all test [] all = refl
filter_all test (x ∷ xs) all =
    ap (λ b. cond b (x ∷ filter test xs) (filter test xs)) (all x (inl refl)) ∙ ap (λ l. x ∷ l) (filter_all test xs (λ y a. all y (inr a)))

pub filter_none : {X : Type 0} (test : X → Bool) (xs : List X) → ((x : X) → IsAmong x xs → test x ≡ false) → filter test xs ≡ []
filter_none test [] none = refl
filter_none test (x ∷ xs) none =
    ap (λ b. cond b (x ∷ filter test xs) (filter test xs)) (none x (inl refl)) ∙ filter_none test xs (λ y a. none y (inr a))

firsts_renamed : (g f : ℕ → ℕ) (ms : List Match) → firsts (map (renamed_match g f) ms) ≡ map f (firsts ms)
firsts_renamed g f [] = refl
firsts_renamed g f (m ∷ ms) = ap (λ l. f m.first ∷ l) (firsts_renamed g f ms)

-- the link of a match that passes is one of all
link_kept : (test : Match → Bool) (ms : List Match) (id : ℕ) → is_in (match_links (filter test ms)) id ≡ true → is_in (match_links ms) id ≡ true
link_kept test ms id h =
    let (m, a, e) = among_map_link (filter test ms) id h in
    ap (is_in (match_links ms)) (sym e) ∙ link_in ms m (filter_parts test ms m a).0
  where
    among_map_link : (xs : List Match) (k : ℕ) → is_in (match_links xs) k ≡ true → (m : Match) × IsAmong m xs × (m.link ≡ k)
    among_map_link [] k h = absurd (false≢true h)
    among_map_link (x ∷ xs) k h = step (is_in-cases x.link (match_links xs) k h) (among_map_link xs k)
      where
        step : (x.link ≡ k) ⊎ (is_in (match_links xs) k ≡ true) → (is_in (match_links xs) k ≡ true → (m : Match) × IsAmong m xs × (m.link ≡ k))
            → (m : Match) × IsAmong m (x ∷ xs) × (m.link ≡ k)
        step (inl e) rest = (x, inl refl, e)
        step (inr h) rest = let (m, a, e) = rest h in (m, inr a, e)

alone_renamed : (f : ℕ → ℕ) (o : Option ℕ) → is_alone (renamed_second f o) ≡ is_alone o
alone_renamed f None = refl
alone_renamed f (Some x) = refl

module _ (left right : PartValue) (n : ℕ) (limits : IsWithinLimits (problem_at (graph_in left) left.job.plan n no_shot))
    (children : children_of left.job.plan n ≡ Some (left.node, right.node)) (one : IsPart left)
    (two : IsPart (record right { job = left.job; slot = left.slot })) (matched : left.matching.unmatched ≡ []) (also : right.matching.unmatched ≡ [])
    (links names : List (ℕ × ℕ)) (table : Table) (store : Store) (tables : AreMerged left.links right.links links table)
    (stores : merged.IsMerged left.store right.store store links names) (same_job : right.job ≡ left.job) where
  abbrev pub w : PartValue
  w = before left right n limits children one two matched also links names table store tables stores

  abbrev pub new_name : ℕ → ℕ
  new_name = name left right n limits children one two matched also links names table store tables stores

  abbrev pub new_link : ℕ → ℕ
  new_link = link left right n limits children one two matched also links names table store tables stores

  abbrev pub leads : Match → Bool
  leads = meets_seam left.job.plan n table

  -- the matches that stay
  abbrev pub staying : List Match
  staying = filter (λ m. not (leads m)) w.matching.matches

  abbrev pub owned : ℕ → Bool
  owned = is_owned_by left.job.plan n

  off_seam : (u : ℕ) → ((problem_in left).is_real u || (problem_at (graph_in left) left.job.plan right.node (solved_shot left)).is_real u) ≡ true → owned u ≡ false
  off_seam u h =
      false_from_ne_true (owned u)
      (λ on. both_ways ((problem_in left).is_real u || (problem_at (graph_in left) left.job.plan right.node (solved_shot left)).is_real u)
      (seam_unreal left right n limits children one two matched also u on) h)

  leads_left : (e : Match) → IsAmong e left.matching.matches → leads e ≡ is_freed left n e
  leads_left e a =
      ap (λ l. is_alone e.second && ends_at_seam left.job.plan n l)
      (link_left left.links right.links table links tables e.link
      (live_left left right n limits children one two matched also links names table store tables stores e a))
      ∙ seam_far (problem_in left) left.nodes owned (link_by left.links e.link) e.first e.second
      (λ u m c. one.state.work.nest.dual.real u (ap is_some c))
      (λ u h. off_seam u (or_left ((problem_in left).is_real u) ((problem_at (graph_in left) left.job.plan right.node (solved_shot left)).is_real u) h))
      (All_among (λ x. IsMatchOf (problem_in left) left.nodes (link_by left.links x.link) x.first x.second) left.matching.matches one.matching.connects e a)

  leads_right : (e : Match) → IsAmong e right.matching.matches → leads (renamed_match new_link new_name e) ≡ is_freed right n e
  leads_right e a =
      let q : Problem = problem_at (graph_in left) left.job.plan right.node (solved_shot left) in
      ap (λ c. c && ends_at_seam left.job.plan n (link_by table (new_link e.link))) (alone_renamed new_name e.second)
      ∙ (ap (λ l. is_alone e.second && ends_at_seam left.job.plan n l)
      (link_right left.links right.links table links tables e.link
      (live_right left right n limits children one two matched also links names table store tables stores e a))
      ∙ (seam_far q right.nodes owned (link_by right.links e.link) e.first e.second
      (λ u m c. two.state.work.nest.dual.real u (ap is_some c))
      (λ u h. off_seam u (or_right ((problem_in left).is_real u) (q.is_real u) h))
      (All_among (λ x. IsMatchOf q right.nodes (link_by right.links x.link) x.first x.second) right.matching.matches two.matching.connects e a)
      ∙ ap (λ j. is_alone e.second && is_owned_by j.plan n (far_end (problem_at j.graph j.plan right.node no_shot).is_real (link_by right.links e.link)))
      (sym same_job)))

  pub seam_split : met_matches w ≡ seam_matches left n ++ map (renamed_match new_link new_name) (seam_matches right n)
  seam_split =
      filter-append leads left.matching.matches (map (renamed_match new_link new_name) right.matching.matches)
      ∙ (ap (λ l. l ++ filter leads (map (renamed_match new_link new_name) right.matching.matches))
      (filter_same leads (is_freed left n) left.matching.matches leads_left)
      ∙ ap (λ l. seam_matches left n ++ l)
      (filter_changed (renamed_match new_link new_name) leads (is_freed right n) right.matching.matches leads_right))

  pub other_split : staying ≡ other_matches left n ++ map (renamed_match new_link new_name) (other_matches right n)
  other_split =
      filter-append (λ m. not (leads m)) left.matching.matches (map (renamed_match new_link new_name) right.matching.matches)
      ∙ (ap (λ l. l ++ filter (λ m. not (leads m)) (map (renamed_match new_link new_name) right.matching.matches))
      (filter_same (λ m. not (leads m)) (λ m. not (is_freed left n m)) left.matching.matches (λ e a. ap not (leads_left e a)))
      ∙ ap (λ l. other_matches left n ++ l)
      (filter_changed (renamed_match new_link new_name) (λ m. not (leads m)) (λ m. not (is_freed right n m)) right.matching.matches
      (λ e a. ap not (leads_right e a))))

  pub freed_split : met_nodes w ≡ freed_in left n ++ map new_name (freed_in right n)
  freed_split =
      ap firsts seam_split
      ∙ (map-append (λ m. m.first) (seam_matches left n) (map (renamed_match new_link new_name) (seam_matches right n))
      ∙ ap (λ l. freed_in left n ++ l) (firsts_renamed new_link new_name (seam_matches right n)))

  module _ (own : List ℕ) (after : PartValue) (beside_is : IsBeside w) (opened : IsOpened own w after) where
    -- the matches that stay are those that lead elsewhere
    others_are : IsPermutation (staying) after.matching.matches
    others_are =
        subst (IsPermutation (staying))
        (filter-append (λ m. not (leads m)) (met_matches w) after.matching.matches
        ∙ (ap (λ l. l ++ filter (λ m. not (leads m)) after.matching.matches)
        (filter_none (λ m. not (leads m)) (met_matches w) (λ e a. ap not (filter_parts leads w.matching.matches e a).1))
        ∙ filter_all (λ m. not (leads m)) after.matching.matches (λ e a. ap not (stays_off own w after beside_is opened e a))))
        (filter_permuted (λ m. not (leads m)) w.matching.matches (met_matches w ++ after.matching.matches) opened.freed.matches)

    pub matches_are : IsPermutation after.matching.matches (other_matches left n ++ map (renamed_match new_link new_name) (other_matches right n))
    matches_are = IsPermutation-sym _ _ (subst (λ l. IsPermutation l after.matching.matches) other_split others_are)

    numbers : match_links (other_matches left n ++ map (renamed_match new_link new_name) (other_matches right n))
        ≡ match_links (other_matches left n) ++ map new_link (match_links (other_matches right n))
    numbers =
        map-append (λ m. m.link) (other_matches left n) (map (renamed_match new_link new_name) (other_matches right n))
        ∙ ap (λ l. match_links (other_matches left n) ++ l) (links_renamed new_link new_name (other_matches right n))

    in_matches : (id : ℕ) → is_in (match_links after.matching.matches) id
        ≡ (is_in (match_links (other_matches left n)) id || is_in (map new_link (match_links (other_matches right n))) id)
    in_matches id =
        sym (same_permuted _ _ (IsPermutation-map (λ m. m.link) after.matching.matches
        (other_matches left n ++ map (renamed_match new_link new_name) (other_matches right n)) matches_are) id)
        ∙ (ap (λ l. is_in l id) numbers ∙ is_in-append (match_links (other_matches left n)) (map new_link (match_links (other_matches right n))) id)

    in_rings_ : (id : ℕ) → is_in (ring_links w.nodes w.store) id
        ≡ (is_in (ring_links left.nodes left.store) id || is_in (map new_link (ring_links right.nodes right.store)) id)
    in_rings_ id =
        ap (λ l. is_in l id) (rings_are left right n limits children one two matched also links names table store tables stores)
        ∙ is_in-append (ring_links left.nodes left.store) (map new_link (ring_links right.nodes right.store)) id

    still : (id : ℕ) → (is_in (match_links after.matching.matches) id || is_in (ring_links w.nodes w.store) id) ≡ true → link_at after.links id ≡ link_at table id
    still id h =
        link_stays own w after beside_is opened id (is_in-append (match_links after.matching.matches) (ring_links w.nodes w.store) id ∙ h)

    pub left_links : (id : ℕ) → is_in (staying_links left n) id ≡ true → link_at after.links id ≡ link_at left.links id
    left_links id within =
        still id (there split) ∙ stays left.links right.links table links tables id (one.links.live id ∙ kept split)
      where
        split : (is_in (match_links (other_matches left n)) id ≡ true) ⊎ (is_in (ring_links left.nodes left.store) id ≡ true)
        split =
            or_cases (is_in (match_links (other_matches left n)) id) (is_in (ring_links left.nodes left.store) id)
            (sym (is_in-append (match_links (other_matches left n)) (ring_links left.nodes left.store) id) ∙ within)

        there : (is_in (match_links (other_matches left n)) id ≡ true) ⊎ (is_in (ring_links left.nodes left.store) id ≡ true)
            → (is_in (match_links after.matching.matches) id || is_in (ring_links w.nodes w.store) id) ≡ true
        there (inl h) =
            or_left (is_in (match_links after.matching.matches) id) (is_in (ring_links w.nodes w.store) id)
            (in_matches id ∙ or_left (is_in (match_links (other_matches left n)) id) (is_in (map new_link (match_links (other_matches right n))) id) h)
        there (inr h) =
            or_right (is_in (match_links after.matching.matches) id) (is_in (ring_links w.nodes w.store) id)
            (in_rings_ id ∙ or_left (is_in (ring_links left.nodes left.store) id) (is_in (map new_link (ring_links right.nodes right.store)) id) h)

        kept : (is_in (match_links (other_matches left n)) id ≡ true) ⊎ (is_in (ring_links left.nodes left.store) id ≡ true) → is_in (kept_links left) id ≡ true
        kept (inl h) =
            is_in-append (match_links left.matching.matches) (ring_links left.nodes left.store) id
            ∙ or_left (is_in (match_links left.matching.matches) id) (is_in (ring_links left.nodes left.store) id)
            (link_kept (λ m. not (is_freed left n m)) left.matching.matches id h)
        kept (inr h) =
            is_in-append (match_links left.matching.matches) (ring_links left.nodes left.store) id
            ∙ or_right (is_in (match_links left.matching.matches) id) (is_in (ring_links left.nodes left.store) id) h

    pub right_links : (id : ℕ) → is_in (staying_links right n) id ≡ true → link_at after.links (new_link id) ≡ link_at right.links id
    right_links id within =
        still (new_link id) (there split) ∙ moved left.links right.links table links tables id (two.links.live id ∙ kept split)
      where
        split : (is_in (match_links (other_matches right n)) id ≡ true) ⊎ (is_in (ring_links right.nodes right.store) id ≡ true)
        split =
            or_cases (is_in (match_links (other_matches right n)) id) (is_in (ring_links right.nodes right.store) id)
            (sym (is_in-append (match_links (other_matches right n)) (ring_links right.nodes right.store) id) ∙ within)

        there : (is_in (match_links (other_matches right n)) id ≡ true) ⊎ (is_in (ring_links right.nodes right.store) id ≡ true)
            → (is_in (match_links after.matching.matches) (new_link id) || is_in (ring_links w.nodes w.store) (new_link id)) ≡ true
        there (inl h) =
            or_left (is_in (match_links after.matching.matches) (new_link id)) (is_in (ring_links w.nodes w.store) (new_link id))
            (in_matches (new_link id)
            ∙ or_right (is_in (match_links (other_matches left n)) (new_link id)) (is_in (map new_link (match_links (other_matches right n))) (new_link id))
            (is_in-map new_link (match_links (other_matches right n)) id h))
        there (inr h) =
            or_right (is_in (match_links after.matching.matches) (new_link id)) (is_in (ring_links w.nodes w.store) (new_link id))
            (in_rings_ (new_link id)
            ∙ or_right (is_in (ring_links left.nodes left.store) (new_link id)) (is_in (map new_link (ring_links right.nodes right.store)) (new_link id))
            (is_in-map new_link (ring_links right.nodes right.store) id h))

        kept : (is_in (match_links (other_matches right n)) id ≡ true) ⊎ (is_in (ring_links right.nodes right.store) id ≡ true) → is_in (kept_links right) id ≡ true
        kept (inl h) =
            is_in-append (match_links right.matching.matches) (ring_links right.nodes right.store) id
            ∙ or_left (is_in (match_links right.matching.matches) id) (is_in (ring_links right.nodes right.store) id)
            (link_kept (λ m. not (is_freed right n m)) right.matching.matches id h)
        kept (inr h) =
            is_in-append (match_links right.matching.matches) (ring_links right.nodes right.store) id
            ∙ or_right (is_in (match_links right.matching.matches) id) (is_in (ring_links right.nodes right.store) id) h

    -- So the part is what the contract says.
    pub merged_is : IsMerged left.job n left right after
    merged_is = record {
      job = opened.job;
      slot = opened.slot;
      node = opened.node;
      name = new_name;
      link = new_link;
      own = own;
      count = opened.singles_added.count;
      nodes = opened.singles_added.nodes_are;
      unmatched = ap (λ m. m.unmatched) opened.singles_added.matching ∙ ap (λ l. l ++ own) freed_split;
      matches = matches_are;
      left_links = left_links;
      right_links = right_links;
    }
