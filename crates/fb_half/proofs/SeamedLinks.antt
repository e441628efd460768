-- A part whose seam is opened: its nodes and its links.
use Rattle.std.proofs.Common.{ℕ, ◌≡◌, ◌==◌, ◌||◌, ◌⊎◌, inl, inr, Bool, true, false, List, [], ◌∷◌, ◌++◌, map, All, Option, Some, None, is_some, unwrap_or, refl, sym, ap, ◌∙◌, subst}
use Rattle.std.proofs.Math.Bool.{or-false}
use Rattle.std.specs.List.Sorted.{IsPermutation}
use Rattle.std.proofs.lemmas.Bool.{both_ways, cases_Bool, false_from_ne_true, or_left, or_right}
use Rattle.std.proofs.lemmas.Grind.{flat_map-append}
use Rattle.std.proofs.lemmas.List.{append-nil, append_assoc, map-append}
use Rattle.std.proofs.lemmas.List.Elements.{All-append, All-cons, All-nil}
use Rattle.std.proofs.lemmas.List.Folds.{list_any-append}
use Rattle.std.proofs.lemmas.List.Sorted.{IsPermutation-append_left, IsPermutation-map}
use Rattle.fb_graph.specs.Parity.{is_in}
use Rattle.fb_graph.specs.Certificate.{AreDistinct}
use Rattle.fb_graph.specs.Dual.{Node, defects_of, is_empty, is_live, leaf}
use Rattle.fb_graph.specs.Laws.{IsPart}
use Rattle.fb_graph.proofs.Among.{IsAmong, All_among, among_All, among_live, among_right, live_among, among_filter}
use Rattle.fb_graph.proofs.Members.{is_in-append, distinct_left}
use Rattle.fb_graph.proofs.Sets.{is_in-head, is_in-tail}
use Rattle.fb_laws.proofs.MergedParts.{distinct_across}
use Rattle.fb_laws.proofs.OpenedBlossoms.{distinct_permuted, same_permuted}
use Rattle.fb_laws.proofs.TreePaths.{distinct_right}
use Rattle.fb_links.specs.declared.walk.Step.{Step}
use Rattle.fb_links.specs.Table.{is_live as is_link, link_at}
use Rattle.fb_blossoms.specs.Nodes as blossoms
use Rattle.fb_half.specs.declared.matches.Match.{Match}
use Rattle.fb_half.specs.Beginnings.{leaves_by}
use Rattle.fb_half.specs.InternalSeams.{AddsSingles, IsBeside, IsFreed, IsOpened, freed_matching, meets_seam, met_matches}
use Rattle.fb_half.specs.Matchings.{listed_names, match_links, matched_names, names_of}
use Rattle.fb_half.specs.Merged.{seam_defects}
use Rattle.fb_half.specs.Parts.{AreAgreed, AreLinksOf, AreStepsOf, PartValue, kept_links, problem_in}
use Rattle.fb_half.specs.Translations.{children_at, cycles_by, link_by, link_of, ring_at, ring_links}
use Rattle.fb_half.proofs.Begun.{held_in, leaf_cycle, leaf_live, live_leaves}
use Rattle.fb_half.proofs.BesideLinks.{links_same, rings_same, steps_widened}
use Rattle.fb_half.proofs.FlatPermutations.{flat_permuted}
use Rattle.fb_half.proofs.FreedMatches.{among_permuted, first_in, link_in, name_in, parted_left}
use Rattle.fb_half.proofs.AddedSingles.{Store}

-- a node without a cycle has no children
leaf_children : (at : ℕ → Option blossoms.Node) (names defects : List ℕ) → ((x : ℕ) → is_in names x ≡ true → blossoms.cycle_of (at x) ≡ [])
    → All (λ n. n.children ≡ map (λ s. s.node) (blossoms.cycle_of (at n.name))) (leaves_by names defects)
leaf_children at [] defects none = All-nil (λ n. n.children ≡ map (λ s. s.node) (blossoms.cycle_of (at n.name)))
leaf_children at (name ∷ names) [] none = All-nil (λ n. n.children ≡ map (λ s. s.node) (blossoms.cycle_of (at n.name)))
leaf_children at (name ∷ names) (v ∷ defects) none =
    All-cons (λ n. n.children ≡ map (λ s. s.node) (blossoms.cycle_of (at n.name))) (leaf name v) (leaves_by names defects)
    (sym (ap (map (λ s. s.node)) (none name (is_in-head name names))))
    (leaf_children at names defects (λ x h. none x (is_in-tail name names x h)))

-- nor has it a ring
leaf_rings : (at : Store) (names defects : List ℕ) → ((x : ℕ) → is_in names x ≡ true → blossoms.cycle_at at x ≡ [])
    → ring_links (leaves_by names defects) at ≡ []
leaf_rings at [] defects none = refl
leaf_rings at (name ∷ names) [] none = refl
leaf_rings at (name ∷ names) (v ∷ defects) none =
    ap (λ c. map (λ s. s.link) c ++ ring_links (leaves_by names defects) at) (none name (is_in-head name names))
    ∙ leaf_rings at names defects (λ x h. none x (is_in-tail name names x h))

pub in_rings : (nodes : List Node) (store : Store) (x id : ℕ) → is_live nodes x ≡ true → is_in (ring_at store x) id ≡ true
    → is_in (ring_links nodes store) id ≡ true
in_rings nodes store x id live within =
    let (m, a, named) = live_among nodes x live in
    by nodes m a (ap (λ k. is_in (ring_at store k) id) named ∙ within)
  where
    by : (ns : List Node) (m : Node) → IsAmong m ns → is_in (ring_at store m.name) id ≡ true → is_in (ring_links ns store) id ≡ true
    by [] m a h = absurd a
    by (n ∷ ns) m (inl e) h =
        is_in-append (ring_at store n.name) (ring_links ns store) id
        ∙ or_left (is_in (ring_at store n.name) id) (is_in (ring_links ns store) id) (ap (λ y. is_in (ring_at store y.name) id) e ∙ h)
    by (n ∷ ns) m (inr a) h =
        is_in-append (ring_at store n.name) (ring_links ns store) id
        ∙ or_right (is_in (ring_at store n.name) id) (is_in (ring_links ns store) id) (by ns m a h)

module _ (own : List ℕ) (w after : PartValue) (b : IsBeside w) (opened : IsOpened own w after) where
  abbrev pub taken : List Match
  taken = met_matches w

  abbrev pub defects : List ℕ
  defects = seam_defects w.job w.slot w.node

  abbrev pub leads : Match → Bool
  leads = meets_seam w.job.plan w.node w.links

  freed : IsFreed taken w.matching (freed_matching w after) w.links after.links
  freed = opened.freed

  singles_added : AddsSingles own defects w.nodes after.nodes w.store after.store (freed_matching w after) after.matching
  singles_added = opened.singles_added

  pub all_names : AreDistinct (matched_names w.matching.matches)
  all_names = distinct_right w.matching.unmatched (matched_names w.matching.matches) (distinct_left (listed_names w.matching) [] b.matching.distinct)

  -- a match that stays is one of those before, and does not lead to the seam
  pub stays_among : (e : Match) → IsAmong e after.matching.matches → IsAmong e w.matching.matches
  stays_among e a = among_permuted w.matching.matches (taken ++ after.matching.matches) e freed.matches (among_right taken after.matching.matches e a)

  pub stays_off : (e : Match) → IsAmong e after.matching.matches → leads e ≡ false
  stays_off e a =
      false_from_ne_true (leads e)
      (λ h.
      both_ways (is_in (matched_names after.matching.matches) e.first)
      (distinct_across (matched_names taken) (matched_names after.matching.matches) e.first
      (subst AreDistinct (flat_map-append names_of taken after.matching.matches)
      (distinct_permuted (matched_names w.matching.matches) (matched_names (taken ++ after.matching.matches))
      (flat_permuted names_of w.matching.matches (taken ++ after.matching.matches) freed.matches) all_names))
      (name_in taken e e.first (among_filter leads w.matching.matches e (stays_among e a) h) (first_in e)))
      (name_in after.matching.matches e e.first a (first_in e)))

  links_split : IsPermutation (kept_links w) ((match_links taken ++ match_links after.matching.matches) ++ ring_links w.nodes w.store)
  links_split =
      IsPermutation-append_left (ring_links w.nodes w.store) (match_links w.matching.matches) (match_links taken ++ match_links after.matching.matches)
      (subst (IsPermutation (match_links w.matching.matches)) (map-append (λ m. m.link) taken after.matching.matches)
      (IsPermutation-map (λ m. m.link) w.matching.matches (taken ++ after.matching.matches) freed.matches))

  abbrev staying : List ℕ
  staying = match_links after.matching.matches ++ ring_links w.nodes w.store

  split_distinct : AreDistinct (match_links taken ++ staying)
  split_distinct =
      subst AreDistinct (append_assoc (match_links taken) (match_links after.matching.matches) (ring_links w.nodes w.store))
      (distinct_permuted (kept_links w) ((match_links taken ++ match_links after.matching.matches) ++ ring_links w.nodes w.store) links_split b.links.distinct)

  kept_split : (id : ℕ) → is_in (kept_links w) id ≡ (is_in (match_links taken) id || is_in staying id)
  kept_split id =
      sym (same_permuted _ _ links_split id)
      ∙ (ap (λ l. is_in l id) (append_assoc (match_links taken) (match_links after.matching.matches) (ring_links w.nodes w.store))
      ∙ is_in-append (match_links taken) staying id)

  pub link_stays : (id : ℕ) → is_in staying id ≡ true → link_at after.links id ≡ link_at w.links id
  link_stays id h = freed.others id (parted_left (match_links taken) staying id split_distinct h)

  pub match_stays : (e : Match) → IsAmong e after.matching.matches → link_at after.links e.link ≡ link_at w.links e.link
  match_stays e a =
      link_stays e.link
      (is_in-append (match_links after.matching.matches) (ring_links w.nodes w.store) e.link
      ∙ or_left (is_in (match_links after.matching.matches) e.link) (is_in (ring_links w.nodes w.store) e.link) (link_in after.matching.matches e a))

  -- an old node is in the store as it was
  pub not_own : (x : ℕ) → is_live w.nodes x ≡ true → is_in own x ≡ false
  not_own x live =
      false_from_ne_true (is_in own x) (λ h. both_ways (is_live w.nodes x) (b.agreed.live x ∙ ap is_some (singles_added.fresh x h)) live)

  pub node_stays : (x : ℕ) → is_live w.nodes x ≡ true → blossoms.node_at after.store x ≡ blossoms.node_at w.store x
  node_stays x live = singles_added.others x (not_own x live)

  no_cycle : (x : ℕ) → is_in own x ≡ true → blossoms.cycle_at after.store x ≡ []
  no_cycle x h = ap blossoms.cycle_of (singles_added.added x h) ∙ leaf_cycle own defects x

  pub nodes_are : after.nodes ≡ w.nodes ++ leaves_by own defects
  nodes_are = singles_added.nodes_are

  pub rings_stay : ring_links after.nodes after.store ≡ ring_links w.nodes w.store
  rings_stay =
      ap (λ l. ring_links l after.store) nodes_are
      ∙ (flat_map-append (λ n. ring_at after.store n.name) w.nodes (leaves_by own defects)
      ∙ (ap (λ l. ring_links w.nodes after.store ++ l) (leaf_rings after.store own defects no_cycle)
      ∙ (append-nil (ring_links w.nodes after.store)
      ∙ rings_same w.nodes w.store after.store
      (λ n a. ap (λ o. map (λ s. s.link) (blossoms.cycle_of o)) (node_stays n.name (among_live w.nodes n n.name a refl))))))

  pub kept_stay : kept_links after ≡ staying
  kept_stay = ap (λ l. match_links after.matching.matches ++ l) rings_stay

  pub live_either : (x : ℕ) → is_live after.nodes x ≡ (is_live w.nodes x || is_in own x)
  live_either x =
      ap (λ l. is_live l x) nodes_are
      ∙ (list_any-append (λ n. n.name == x) w.nodes (leaves_by own defects)
      ∙ ap (λ c. is_live w.nodes x || c) (live_leaves own defects x singles_added.count))

  pub agreed_seamed : AreAgreed after.nodes after.store
  agreed_seamed = record {
    live = λ x. live_either x ∙ live x (cases_Bool (is_in own x));
    children =
        subst (All (λ n. n.children ≡ children_at after.store n.name)) (sym nodes_are)
        (All-append (λ n. n.children ≡ children_at after.store n.name) w.nodes (leaves_by own defects)
        (among_All (λ n. n.children ≡ children_at after.store n.name) w.nodes
        (λ n a.
        All_among (λ m. m.children ≡ children_at w.store m.name) w.nodes b.agreed.children n a
        ∙ ap (λ o. map (λ s. s.node) (blossoms.cycle_of o)) (sym (node_stays n.name (among_live w.nodes n n.name a refl)))))
        (leaf_children (blossoms.node_at after.store) own defects no_cycle));
    leaves =
        subst (All (λ n. is_empty n.children ≡ true → defects_of n ≡ blossoms.defects_at after.store n.name)) (sym nodes_are)
        (All-append (λ n. is_empty n.children ≡ true → defects_of n ≡ blossoms.defects_at after.store n.name) w.nodes (leaves_by own defects)
        (among_All (λ n. is_empty n.children ≡ true → defects_of n ≡ blossoms.defects_at after.store n.name) w.nodes
        (λ n a none.
        All_among (λ m. is_empty m.children ≡ true → defects_of m ≡ blossoms.defects_at w.store m.name) w.nodes b.agreed.leaves n a none
        ∙ ap blossoms.defects_of (sym (node_stays n.name (among_live w.nodes n n.name a refl)))))
        (held_in (blossoms.node_at after.store) own defects singles_added.distinct singles_added.added));
  }
    where
      live : (x : ℕ) → (is_in own x ≡ true) ⊎ (is_in own x ≡ false) → (is_live w.nodes x || is_in own x) ≡ blossoms.is_live after.store x
      live x (inl h) =
          or_right (is_live w.nodes x) (is_in own x) h
          ∙ sym (ap is_some (singles_added.added x h) ∙ (leaf_live own defects x singles_added.count ∙ h))
      live x (inr h) =
          ap (λ c. is_live w.nodes x || c) h
          ∙ (or-false (is_live w.nodes x) ∙ (b.agreed.live x ∙ ap is_some (sym (singles_added.others x h))))

  -- The links are those that stay.
  pub links_seamed : IsPart b.problem (problem_in w) → AreLinksOf (problem_in w) after.links (kept_links after)
  links_seamed part =
      subst (AreLinksOf (problem_in w) after.links) (sym kept_stay)
      (record {
        distinct = distinct_right (match_links taken) staying split_distinct;
        live = λ id. live id (cases_Bool (is_in (match_links taken) id));
        steps = λ id walk at. steps id walk at (cases_Bool (is_in (match_links taken) id));
      })
    where
      live : (id : ℕ) → (is_in (match_links taken) id ≡ true) ⊎ (is_in (match_links taken) id ≡ false) → is_link after.links id ≡ is_in staying id
      live id (inl h) = ap is_some (freed.gone id h) ∙ sym (distinct_across (match_links taken) staying id split_distinct h)
      live id (inr h) = ap is_some (freed.others id h) ∙ (b.links.live id ∙ (kept_split id ∙ ap (λ c. c || is_in staying id) h))

      steps : (id : ℕ) (walk : List Step) → link_at after.links id ≡ Some walk
          → (is_in (match_links taken) id ≡ true) ⊎ (is_in (match_links taken) id ≡ false) → AreStepsOf (problem_in w) walk
      steps id walk at (inl h) = absurd (let clash : None ≡ Some walk = sym (freed.gone id h) ∙ at in cc)
      steps id walk at (inr h) = steps_widened b.problem (problem_in w) part.edges part.real walk (b.links.steps id walk (sym (freed.others id h) ∙ at))

  -- and each node has the links round it that it had
  pub cycles_stay : (x : ℕ) → cycles_by after.links after.store x ≡ cycles_by w.links w.store x
  cycles_stay x = by (cases_Bool (is_in own x))
    where
      same : (l : Bool) → is_live w.nodes x ≡ l → is_in own x ≡ false → cycles_by after.links after.store x ≡ cycles_by w.links w.store x
      same true live out =
          ap (λ o. map (link_by after.links) (map (λ s. s.link) (blossoms.cycle_of o))) (singles_added.others x out)
          ∙ links_same w.links after.links (ring_at w.store x)
          (λ id h.
          ap (λ o. link_of (unwrap_or o []))
          (link_stays id
          (is_in-append (match_links after.matching.matches) (ring_links w.nodes w.store) id
          ∙ or_right (is_in (match_links after.matching.matches) id) (is_in (ring_links w.nodes w.store) id) (in_rings w.nodes w.store x id live h))))
      same false dead out =
          ap (λ o. map (link_by after.links) (map (λ s. s.link) (blossoms.cycle_of o))) (singles_added.others x out)
          ∙ (ap (λ c. map (link_by after.links) (map (λ s. s.link) c)) (gone (blossoms.node_at w.store x) (sym (b.agreed.live x) ∙ dead))
          ∙ sym (ap (λ c. map (link_by w.links) (map (λ s. s.link) c)) (gone (blossoms.node_at w.store x) (sym (b.agreed.live x) ∙ dead))))
        where
          gone : (o : Option blossoms.Node) → is_some o ≡ false → blossoms.cycle_of o ≡ []
          gone None h = refl
          gone (Some n) h = absurd (both_ways true h refl)

      by : (is_in own x ≡ true) ⊎ (is_in own x ≡ false) → cycles_by after.links after.store x ≡ cycles_by w.links w.store x
      by (inl h) =
          ap (λ c. map (link_by after.links) (map (λ s. s.link) c)) (no_cycle x h)
          ∙ sym (ap (λ o. map (link_by w.links) (map (λ s. s.link) (blossoms.cycle_of o))) (singles_added.fresh x h))
      by (inr h) = same (is_live w.nodes x) refl h
