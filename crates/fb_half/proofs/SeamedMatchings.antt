-- A part whose seam is opened: its matching, and the links that are forgotten.
use Rattle.std.proofs.Common.{ℕ, ◌≡◌, ◌&&◌, ◌||◌, ◌⊎◌, inl, inr, not, Bool, true, false, if◌then◌else◌, List, [], ◌∷◌, ◌++◌, map, All, Option, Some, None, option_map, is_some, unwrap_or, refl, sym, ap, ◌∙◌, subst, option_to_list}
use Rattle.std.proofs.Math.Bool.{or-false}
use Rattle.std.specs.List.{find, list_any}
use Rattle.std.specs.List.Sorted.{IsPermutation}
use Rattle.std.specs.Option.{option_or}
use Rattle.std.proofs.lemmas.Bool.{and_parts, both_ways, false_from_ne_true, false≢true, not-true, or_cases, or_left, or_parts, or_right}
use Rattle.std.proofs.lemmas.Grind.{flat_map-append}
use Rattle.std.proofs.lemmas.List.{append-nil, append_assoc, map-append}
use Rattle.std.proofs.lemmas.List.Elements.{All-map}
use Rattle.std.proofs.lemmas.List.Folds.{find-append, list_any-append}
use Rattle.std.proofs.lemmas.List.Sorted.{IsPermutation-append_comm, IsPermutation-append_right, IsPermutation-map, IsPermutation-sym}
use Rattle.fb_graph.specs.Parity.{is_in}
use Rattle.fb_graph.specs.Certificate.{AreDistinct}
use Rattle.fb_graph.specs.Dual.{Node, cover_of, is_live, is_outer, top_at}
use Rattle.fb_graph.specs.Laws.{Link}
use Rattle.fb_graph.proofs.Among.{IsAmong, All_among, among_All}
use Rattle.fb_graph.proofs.Forests.{absent_outer}
use Rattle.fb_graph.proofs.Members.{is_in-append, distinct_left}
use Rattle.fb_graph.proofs.Unions.{distinct_append}
use Rattle.fb_laws.specs.Merging.{EndElsewhere, Freed, freed_links, freed_names}
use Rattle.fb_laws.specs.Paths.{LeadsOut}
use Rattle.fb_laws.specs.Works.{IsSetOf}
use Rattle.fb_laws.proofs.OpenedBlossoms.{distinct_permuted, same_permuted}
use Rattle.fb_laws.proofs.SearchTrees.{cover_set, leads_from}
use Rattle.fb_half.specs.declared.matches.Match.{Match}
use Rattle.fb_half.specs.Beginnings.{leaves_by}
use Rattle.fb_half.specs.InternalSeams.{AddsSingles, IsBeside, IsFreed, IsOpened, ends_at_seam, freed_matching, meets_seam, met_matches}
use Rattle.fb_half.specs.Matchings.{IsMatchOf, IsMatchingOf, MatchingValue, listed_names, match_links, matched_names, names_of}
use Rattle.fb_half.specs.Merged.{is_alone, is_owned_by, seam_defects}
use Rattle.fb_half.specs.Parts.{PartValue, problem_in}
use Rattle.fb_half.specs.Translations.{link_by, link_of}
use Rattle.fb_half.proofs.Begun.{outer_leaves}
use Rattle.fb_half.proofs.BegunParts.{same_function}
use Rattle.fb_half.proofs.FlatPermutations.{flat_permuted}
use Rattle.fb_half.proofs.FreedMatches.{filter_parts, firsts}
use Rattle.fb_half.proofs.SeamedLinks.{live_either, match_stays, nodes_are, stays_among, stays_off}

-- leaves beside other nodes leave each of these as outer as it was
outer_beside : (nodes : List Node) (names defects : List ℕ) (x : ℕ) → is_outer (nodes ++ leaves_by names defects) x ≡ is_outer nodes x
outer_beside nodes names defects x =
    ap not
    (list_any-append (λ n. is_in n.children x) nodes (leaves_by names defects)
    ∙ (ap (λ c. list_any (λ n. is_in n.children x) nodes || c) (not-true _ (outer_leaves names defects x)) ∙ or-false (list_any (λ n. is_in n.children x) nodes)))

-- and each vertex under its node
pub cover_beside : (nodes : List Node) (names defects : List ℕ) (v m : ℕ) → cover_of nodes v ≡ Some m
    → cover_of (nodes ++ leaves_by names defects) v ≡ Some m
cover_beside nodes names defects v m cover =
    ap (option_map (λ n. n.name))
    (find-append test nodes (leaves_by names defects) ∙ ap (λ o. option_or o (find test (leaves_by names defects))) same)
    ∙ found (find old nodes) cover
  where
    test : Node → Bool
    test n = is_outer (nodes ++ leaves_by names defects) n.name && is_in n.top.vertices v

    old : Node → Bool
    old n = is_outer nodes n.name && is_in n.top.vertices v

    same : find test nodes ≡ find old nodes
    same =
        ap (λ f. find (λ n. f n.name && is_in n.top.vertices v) nodes)
        (same_function (is_outer (nodes ++ leaves_by names defects)) (is_outer nodes) (outer_beside nodes names defects))

    found : (o : Option Node) → option_map (λ n. n.name) o ≡ Some m
        → option_map (λ n. n.name) (option_or o (find test (leaves_by names defects))) ≡ Some m
    found None h = absurd (let clash : None ≡ Some m = h in cc)
    found (Some n) h = h

-- the vertex at the end of the link that lies on the seam
abbrev pub seam_end : (ℕ → Bool) → Link → ℕ
seam_end seam l = if seam l.from then l.from else l.to

module _ (own : List ℕ) (w after : PartValue) (b : IsBeside w) (opened : IsOpened own w after) where
  abbrev pub taken : List Match
  taken = met_matches w

  abbrev pub defects : List ℕ
  defects = seam_defects w.job w.slot w.node

  abbrev pub leads : Match → Bool
  leads = meets_seam w.job.plan w.node w.links

  abbrev pub owned : ℕ → Bool
  owned = is_owned_by w.job.plan w.node

  freed : IsFreed taken w.matching (freed_matching w after) w.links after.links
  freed = opened.freed

  singles_added : AddsSingles own defects w.nodes after.nodes w.store after.store (freed_matching w after) after.matching
  singles_added = opened.singles_added

  -- a node matched to the seam is matched to no other
  alone : (ms : List Match) → ((e : Match) → IsAmong e ms → leads e ≡ true) → matched_names ms ≡ firsts ms
  alone [] all = refl
  alone (m ∷ ms) all =
      ap (λ l. (m.first ∷ l) ++ matched_names ms) (by m.second (and_parts (is_alone m.second) (ends_at_seam w.job.plan w.node (link_by w.links m.link)) (all m (inl refl))).0)
      ∙ ap (λ l. m.first ∷ l) (alone ms (λ e a. all e (inr a)))
    where
      by : (o : Option ℕ) → is_alone o ≡ true → option_to_list o ≡ []
      by None h = refl
      by (Some x) h = absurd (false≢true h)

  taken_leads : (e : Match) → IsAmong e taken → leads e ≡ true
  taken_leads e a = (filter_parts leads w.matching.matches e a).1

  abbrev pub middle : MatchingValue
  middle = freed_matching w after

  -- the nodes that are listed are the same after the matches are taken out
  listed_stay : IsPermutation (listed_names w.matching) (listed_names middle)
  listed_stay =
      subst (IsPermutation (listed_names w.matching)) (sym (append_assoc w.matching.unmatched (firsts taken) (matched_names after.matching.matches)))
      (IsPermutation-append_right w.matching.unmatched (matched_names w.matching.matches) (firsts taken ++ matched_names after.matching.matches)
      (subst (IsPermutation (matched_names w.matching.matches))
      (flat_map-append names_of taken after.matching.matches ∙ ap (λ l. l ++ matched_names after.matching.matches) (alone taken taken_leads))
      (flat_permuted names_of w.matching.matches (taken ++ after.matching.matches) freed.matches)))

  listed_distinct : AreDistinct (listed_names middle)
  listed_distinct = distinct_permuted _ _ listed_stay (distinct_left (listed_names w.matching) [] b.matching.distinct)

  listed_live : (x : ℕ) → is_in (listed_names middle) x ≡ true → (is_live w.nodes x ≡ true) × (is_outer w.nodes x ≡ true)
  listed_live x h =
      b.matching.live x
      (is_in-append (listed_names w.matching) [] x
      ∙ or_left (is_in (listed_names w.matching) x) false (sym (same_permuted _ _ listed_stay x) ∙ h))

  live_listed : (x : ℕ) → is_live w.nodes x ≡ true → is_outer w.nodes x ≡ true → is_in (listed_names middle) x ≡ true
  live_listed x live outer =
      same_permuted _ _ listed_stay x
      ∙ (sym (or-false (is_in (listed_names w.matching) x))
      ∙ (sym (is_in-append (listed_names w.matching) [] x) ∙ b.matching.all x live outer))

  own_dead : (x : ℕ) → is_in own x ≡ true → is_live w.nodes x ≡ false
  own_dead x h = b.agreed.live x ∙ ap is_some (singles_added.fresh x h)

  moved : IsPermutation ((middle.unmatched ++ own) ++ matched_names middle.matches) (listed_names middle ++ own)
  moved =
      subst (λ l. IsPermutation l (listed_names middle ++ own)) (sym (append_assoc middle.unmatched own (matched_names middle.matches)))
      (subst (IsPermutation (middle.unmatched ++ (own ++ matched_names middle.matches))) (sym (append_assoc middle.unmatched (matched_names middle.matches) own))
      (IsPermutation-append_right middle.unmatched (own ++ matched_names middle.matches) (matched_names middle.matches ++ own)
      (IsPermutation-append_comm own (matched_names middle.matches))))

  -- all that is listed then: the same, and the new nodes
  all_listed : (x : ℕ) → is_in (listed_names after.matching ++ []) x ≡ (is_in (listed_names middle) x || is_in own x)
  all_listed x =
      ap (λ l. is_in l x) (append-nil (listed_names after.matching))
      ∙ (ap (λ m. is_in (listed_names m) x) singles_added.matching
      ∙ (sym (same_permuted _ _ moved x) ∙ is_in-append (listed_names middle) own x))

  outer_is : (x : ℕ) → is_outer after.nodes x ≡ is_outer w.nodes x
  outer_is x = ap (λ l. is_outer l x) (nodes_are own w after b opened) ∙ outer_beside w.nodes own defects x

  cover_is : (v m : ℕ) → cover_of w.nodes v ≡ Some m → cover_of after.nodes v ≡ Some m
  cover_is v m h = ap (λ l. cover_of l v) (nodes_are own w after b opened) ∙ cover_beside w.nodes own defects v m h

  -- what a node holds is real, and so not on the seam
  off_seam : (v m : ℕ) → cover_of w.nodes v ≡ Some m → owned v ≡ false
  off_seam v m cover =
      false_from_ne_true (owned v)
      (λ h. both_ways (b.problem.is_real v) (b.apart v h) (b.nest.dual.real v (ap is_some cover)))

  pub link_is : (e : Match) → IsAmong e after.matching.matches → link_by after.links e.link ≡ link_by w.links e.link
  link_is e a = ap (λ o. link_of (unwrap_or o [])) (match_stays own w after b opened e a)

  pub was_match : (e : Match) → IsAmong e w.matching.matches → IsMatchOf b.problem w.nodes (link_by w.links e.link) e.first e.second
  was_match = All_among (λ x. IsMatchOf b.problem w.nodes (link_by w.links x.link) x.first x.second) w.matching.matches b.matching.connects

  module _ (covered : (v : ℕ) → (problem_in w).is_real v ≡ true → (b.problem.is_real v ≡ true) ⊎ (owned v ≡ true)) where
    pub still_unreal : (v : ℕ) → b.problem.is_real v ≡ false → owned v ≡ false → (problem_in w).is_real v ≡ false
    still_unreal v real off = false_from_ne_true ((problem_in w).is_real v) (λ h. step (covered v h))
      where
        step : (b.problem.is_real v ≡ true) ⊎ (owned v ≡ true) → ⊥
        step (inl h) = both_ways (b.problem.is_real v) real h
        step (inr h) = both_ways (owned v) off h

    -- a match that stays leads where it led
    still_leads : (l : Link) (a : ℕ) (second : Option ℕ) → (is_alone second && ends_at_seam w.job.plan w.node l) ≡ false
        → IsMatchOf b.problem w.nodes l a second → IsMatchOf (problem_in w) after.nodes l a second
    still_leads l a (Some s) off (inl (from, to)) = inl (cover_is l.from a from, cover_is l.to s to)
    still_leads l a (Some s) off (inr (to, from)) = inr (cover_is l.to a to, cover_is l.from s from)
    still_leads l a None off (v, inl (from, to), real) =
        (v, inl (cover_is l.from a from, to), still_unreal v real (ap owned (sym to) ∙ (or_parts (owned l.from) (owned l.to) off).1))
    still_leads l a None off (v, inr (to, from), real) =
        (v, inr (cover_is l.to a to, from), still_unreal v real (ap owned (sym from) ∙ (or_parts (owned l.from) (owned l.to) off).0))

    pub matching_seamed : IsMatchingOf (problem_in w) after.nodes after.links after.matching []
    matching_seamed = record {
      distinct =
          subst AreDistinct (sym (append-nil (listed_names after.matching)))
          (subst (λ m. AreDistinct (listed_names m)) (sym singles_added.matching)
          (distinct_permuted (listed_names middle ++ own) ((middle.unmatched ++ own) ++ matched_names middle.matches) (IsPermutation-sym _ _ moved)
          (distinct_append (listed_names middle) own listed_distinct singles_added.distinct
          (λ x h. false_from_ne_true (is_in own x) (λ k. both_ways (is_live w.nodes x) (own_dead x k) (listed_live x h).0)))));
      live = λ x within. live x (or_cases (is_in (listed_names middle) x) (is_in own x) (sym (all_listed x) ∙ within));
      all = λ x lives outer. all_listed x ∙ all x (sym (outer_is x) ∙ outer) (or_cases (is_live w.nodes x) (is_in own x) (sym (live_either own w after b opened x) ∙ lives));
      connects =
          among_All (λ e. IsMatchOf (problem_in w) after.nodes (link_by after.links e.link) e.first e.second) after.matching.matches
          (λ e a.
          subst (λ l. IsMatchOf (problem_in w) after.nodes l e.first e.second) (sym (link_is e a))
          (still_leads (link_by w.links e.link) e.first e.second (stays_off own w after b opened e a) (was_match e (stays_among own w after b opened e a))));
    }
      where
        live : (x : ℕ) → (is_in (listed_names middle) x ≡ true) ⊎ (is_in own x ≡ true)
            → (is_live after.nodes x ≡ true) × (is_outer after.nodes x ≡ true)
        live x (inl h) =
            let (lives, outer) = listed_live x h in
            (live_either own w after b opened x ∙ or_left (is_live w.nodes x) (is_in own x) lives, outer_is x ∙ outer)
        live x (inr h) = (
          live_either own w after b opened x ∙ or_right (is_live w.nodes x) (is_in own x) h,
          outer_is x ∙ absent_outer w.nodes b.nest.forest x (own_dead x h),
        )

        all : (x : ℕ) → is_outer w.nodes x ≡ true → (is_live w.nodes x ≡ true) ⊎ (is_in own x ≡ true)
            → (is_in (listed_names middle) x || is_in own x) ≡ true
        all x outer (inl h) = or_left (is_in (listed_names middle) x) (is_in own x) (live_listed x h outer)
        all x outer (inr h) = or_right (is_in (listed_names middle) x) (is_in own x) h

  -- the match as the law of fusion sees it
  abbrev pub freed_of : Match → Freed
  freed_of e = record {
    name = e.first;
    set = top_at w.nodes e.first;
    link = link_by w.links e.link;
    seam = seam_end owned (link_by w.links e.link);
  }

  abbrev pub freed_list : List Freed
  freed_list = map freed_of taken

  pub freed_names_are : freed_names freed_list ≡ firsts taken
  freed_names_are = by taken
    where
      by : (ms : List Match) → freed_names (map freed_of ms) ≡ firsts ms
      by [] = refl
      by (m ∷ ms) = ap (λ l. m.first ∷ l) (by ms)

  abbrev pub rest : List Link
  rest = map (link_by after.links) (match_links after.matching.matches)

  -- the matched links are those that are forgotten and those that stay
  pub links_split : IsPermutation (map (link_by w.links) (match_links w.matching.matches)) (freed_links freed_list ++ rest)
  links_split =
      subst (IsPermutation (map (link_by w.links) (match_links w.matching.matches)))
      (ap (map (link_by w.links)) (map-append (λ m. m.link) taken after.matching.matches)
      ∙ (map-append (link_by w.links) (match_links taken) (match_links after.matching.matches)
      ∙ (ap (λ l. l ++ map (link_by w.links) (match_links after.matching.matches)) (sym (by taken))
      ∙ ap (λ l. freed_links freed_list ++ l) (sym (kept after.matching.matches (λ e a. link_is e a))))))
      (IsPermutation-map (link_by w.links) (match_links w.matching.matches) (match_links (taken ++ after.matching.matches))
      (IsPermutation-map (λ m. m.link) w.matching.matches (taken ++ after.matching.matches) freed.matches))
    where
      by : (ms : List Match) → freed_links (map freed_of ms) ≡ map (link_by w.links) (match_links ms)
      by [] = refl
      by (m ∷ ms) = ap (λ l. link_by w.links m.link ∷ l) (by ms)

      kept : (ms : List Match) → ((e : Match) → IsAmong e ms → link_by after.links e.link ≡ link_by w.links e.link)
          → map (link_by after.links) (match_links ms) ≡ map (link_by w.links) (match_links ms)
      kept [] same = refl
      kept (m ∷ ms) same =
          ap (λ l. l ∷ map (link_by after.links) (match_links ms)) (same m (inl refl))
          ∙ ap (λ l. link_by w.links m.link ∷ l) (kept ms (λ e a. same e (inr a)))

  -- each forgotten link leads from its node to the seam
  pub freed_are : All (λ f. IsSetOf w.nodes f.name f.set × LeadsOut f.link f.set f.seam × (owned f.seam ≡ true)) freed_list
  freed_are =
      All-map (λ f. IsSetOf w.nodes f.name f.set × LeadsOut f.link f.set f.seam × (owned f.seam ≡ true)) freed_of taken
      (among_All (λ e. IsSetOf w.nodes e.first (top_at w.nodes e.first) × LeadsOut (link_by w.links e.link) (top_at w.nodes e.first) (seam_end owned (link_by w.links e.link))
      × (owned (seam_end owned (link_by w.links e.link)) ≡ true)) taken
      (λ e a.
      let was = filter_parts leads w.matching.matches e a in
      let both = and_parts (is_alone e.second) (ends_at_seam w.job.plan w.node (link_by w.links e.link)) was.1 in
      one (link_by w.links e.link) e.first e.second both.0 both.1 (was_match e was.0)))
    where
      one : (l : Link) (first : ℕ) (second : Option ℕ) → is_alone second ≡ true → ends_at_seam w.job.plan w.node l ≡ true
          → IsMatchOf b.problem w.nodes l first second
          → IsSetOf w.nodes first (top_at w.nodes first) × LeadsOut l (top_at w.nodes first) (seam_end owned l) × (owned (seam_end owned l) ≡ true)
      one l first (Some s) alone at is = absurd (false≢true alone)
      one l first None alone at (v, inl (from, to), real) =
          let off : owned l.from ≡ false = off_seam l.from first from in
          let there : seam_end owned l ≡ l.to = ap (λ c. if c then l.from else l.to) off in (
            (cover_set w.nodes l.from first b.nest.dual.names from).0,
            leads_from w.nodes l first (seam_end owned l) b.nest.dual.names (inl (from, sym there)),
            ap owned there ∙ (sym (ap (λ c. c || owned l.to) off) ∙ at),
          )
      one l first None alone at (v, inr (to, from), real) =
          let off : owned l.to ≡ false = off_seam l.to first to in
          let on : owned l.from ≡ true = sym (or-false (owned l.from)) ∙ (sym (ap (λ c. owned l.from || c) off) ∙ at) in
          let there : seam_end owned l ≡ l.from = ap (λ c. if c then l.from else l.to) on in (
            (cover_set w.nodes l.to first b.nest.dual.names to).0,
            leads_from w.nodes l first (seam_end owned l) b.nest.dual.names (inr (to, sym there)),
            ap owned there ∙ on,
          )

  -- no other link ends there
  pub rest_elsewhere : EndElsewhere owned rest
  rest_elsewhere =
      All-map (λ l. (owned l.from ≡ false) × (owned l.to ≡ false)) (link_by after.links) (match_links after.matching.matches)
      (All-map (λ id. (owned (link_by after.links id).from ≡ false) × (owned (link_by after.links id).to ≡ false)) (λ m. m.link) after.matching.matches
      (among_All (λ e. (owned (link_by after.links e.link).from ≡ false) × (owned (link_by after.links e.link).to ≡ false)) after.matching.matches
      (λ e a.
      subst (λ l. (owned l.from ≡ false) × (owned l.to ≡ false)) (sym (link_is e a))
      (one (link_by w.links e.link) e.first e.second (stays_off own w after b opened e a) (was_match e (stays_among own w after b opened e a))))))
    where
      one : (l : Link) (first : ℕ) (second : Option ℕ) → (is_alone second && ends_at_seam w.job.plan w.node l) ≡ false
          → IsMatchOf b.problem w.nodes l first second → (owned l.from ≡ false) × (owned l.to ≡ false)
      one l first (Some s) off (inl (from, to)) = (off_seam l.from first from, off_seam l.to s to)
      one l first (Some s) off (inr (to, from)) = (off_seam l.from s from, off_seam l.to first to)
      one l first None off is = or_parts (owned l.from) (owned l.to) off
