-- The solved parts of a fusion's two children with the seam between them opened keep what each part keeps (Wu and Zhong
-- 2023).
use Rattle.std.proofs.Common.{ℕ, ◌≡◌, ◌&&◌, ◌⊎◌, Bool, true, false, if◌then◌else◌, List, [], ◌++◌, map, get_or, Some, refl, sym, ap, ◌∙◌, subst}
use Rattle.std.proofs.Math.Bool.{and-true}
use Rattle.std.specs.List.Sorted.{IsPermutation, IsStrictlyIncreasing}
use Rattle.std.proofs.lemmas.Bool.{or_left, or_right}
use Rattle.std.proofs.lemmas.List.{map-append}
use Rattle.fb_graph.specs.Parity.{is_in}
use Rattle.fb_graph.specs.Problem.{Problem}
use Rattle.fb_graph.specs.Certificate.{AreDistinct}
use Rattle.fb_graph.specs.Dual.{is_live}
use Rattle.fb_graph.specs.Laws.{IsPart as IsPartOfProblem}
use Rattle.fb_graph.specs.Limits.{IsWithinLimits, no_shot}
use Rattle.fb_graph.specs.Singles.{Single, vertices_of}
use Rattle.fb_graph.proofs.Members.{is_in-append}
use Rattle.fb_graph.proofs.Sets.{distinct-filter, distinct_from_rising, is_in-filter}
use Rattle.fb_laws.specs.FusedStates.{AreFurther}
use Rattle.fb_laws.specs.Merging.{IsSeam, freed_links, freed_names}
use Rattle.fb_laws.specs.PartStates.{IsPartState, PartState}
use Rattle.fb_laws.specs.RenamedStates.{AreCyclesRenamed, renamed_state}
use Rattle.fb_laws.specs.StateFusions.{merged_cycles, merged_state, seamed_state}
use Rattle.fb_laws.proofs.RenamedStates.{state_renamed}
use Rattle.fb_laws.proofs.StateFusions.{state_fused}
use Rattle.fb_plan.specs.Plans.{children_of, problem_at}
use Rattle.fb_links.specs.Merged.{AreMerged}
use Rattle.fb_links.specs.Table.{is_live as is_link}
use Rattle.fb_blossoms.specs.Merged as merged
use Rattle.fb_half.specs.InternalSeams.{IsBeside, IsOpened, AddsSingles, freed_matching}
use Rattle.fb_half.specs.Matchings.{match_links}
use Rattle.fb_half.specs.Merged.{is_owned_by, seam_defects}
use Rattle.fb_half.specs.Parts.{IsPart, PartValue, graph_in, shot_of, solved_shot, state_of}
use Rattle.fb_half.specs.Translations.{cycles_by, link_by, ring_at, ring_links}
use Rattle.fb_half.proofs.Begun.{live_leaves, single_names, single_nodes, single_values, single_vertices, singles_by}
use Rattle.fb_half.proofs.BegunParts.{kept_real, same_function, single_real}
use Rattle.fb_half.proofs.BesideLinks.{link_left, link_right, links_moved, links_same}
use Rattle.fb_half.proofs.BesideNodes.{ring_left, ring_right}
use Rattle.fb_half.proofs.FreedMatches.{firsts}
use Rattle.fb_half.proofs.MergedHalves.{before, links_are, middle, middle_part, name, link, names_apart, names_own, node_below, p, parts, q, real_covered, same_part, seam_real, seam_unreal, whole, whole_limits}
use Rattle.fb_half.proofs.SeamedLinks.{agreed_seamed, cycles_stay, in_rings, links_seamed, not_own}
use Rattle.fb_half.proofs.ShiftedLists.{shifted_rises}
use Rattle.fb_half.proofs.SeamedMatchings.{freed_are, freed_list, freed_names_are, links_split, matching_seamed, rest, rest_elsewhere, taken}
use Rattle.fb_half.proofs.AddedSingles.{Store}
use Rattle.fb_links.proofs.MovedLinks.{Table}

same_state : (s t : PartState) → s.nodes ≡ t.nodes → s.cycles ≡ t.cycles → s.matches ≡ t.matches → s.unmatched ≡ t.unmatched → s ≡ t
same_state s t nodes cycles matches unmatched =
    ap (λ x. record s { nodes = x }) nodes
    ∙ (ap (λ x. record s { nodes = t.nodes; cycles = x }) cycles
    ∙ (ap (λ x. record s { nodes = t.nodes; cycles = t.cycles; matches = x }) matches ∙ ap (λ x. record t { unmatched = x }) unmatched))

module _ (left right : PartValue) (n : ℕ) (limits : IsWithinLimits (problem_at (graph_in left) left.job.plan n no_shot))
    (children : children_of left.job.plan n ≡ Some (left.node, right.node)) (one : IsPart left)
    (two : IsPart (record right { job = left.job; slot = left.slot })) (matched : left.matching.unmatched ≡ []) (also : right.matching.unmatched ≡ [])
    (links names : List (ℕ × ℕ)) (table : Table) (store : Store) (tables : AreMerged left.links right.links links table)
    (stores : merged.IsMerged left.store right.store store links names) where
  abbrev pub w : PartValue
  w = before left right n limits children one two matched also links names table store tables stores

  abbrev pub new_name : ℕ → ℕ
  new_name = name left right n limits children one two matched also links names table store tables stores

  abbrev pub new_link : ℕ → ℕ
  new_link = link left right n limits children one two matched also links names table store tables stores

  abbrev pub fused : Problem
  fused = whole left right n limits children one two matched also

  abbrev pub owned : ℕ → Bool
  owned = is_owned_by left.job.plan n

  ring_live : (x id : ℕ) → is_live left.nodes x ≡ true → is_in (ring_at left.store x) id ≡ true → is_link left.links id ≡ true
  ring_live x id live h =
      one.links.live id
      ∙ (is_in-append (match_links left.matching.matches) (ring_links left.nodes left.store) id
      ∙ or_right (is_in (match_links left.matching.matches) id) (is_in (ring_links left.nodes left.store) id) (in_rings left.nodes left.store x id live h))

  ring_live_right : (x id : ℕ) → is_live right.nodes x ≡ true → is_in (ring_at right.store x) id ≡ true → is_link right.links id ≡ true
  ring_live_right x id live h =
      two.links.live id
      ∙ (is_in-append (match_links right.matching.matches) (ring_links right.nodes right.store) id
      ∙ or_right (is_in (match_links right.matching.matches) id) (is_in (ring_links right.nodes right.store) id) (in_rings right.nodes right.store x id live h))

  -- each node's ring is as it was
  cycles_left : (x : ℕ) → is_live left.nodes x ≡ true → cycles_by table store x ≡ cycles_by left.links left.store x
  cycles_left x live =
      ap (map (link_by table)) (ring_left left.nodes right.nodes left.store right.store store links names one.agreed two.agreed stores x live)
      ∙ links_same left.links table (ring_at left.store x) (λ id h. link_left left.links right.links table links tables id (ring_live x id live h))

  cycles_right : (x : ℕ) → is_live right.nodes x ≡ true → cycles_by table store (new_name x) ≡ cycles_by right.links right.store x
  cycles_right x live =
      ap (map (link_by table)) (ring_right left.nodes right.nodes left.store right.store store links names one.agreed two.agreed stores x live)
      ∙ links_moved new_link right.links table (ring_at right.store x) (λ id h. link_right left.links right.links table links tables id (ring_live_right x id live h))

  module _ (own : List ℕ) (after : PartValue) (beside_is : IsBeside w) (same_problem : beside_is.problem ≡ middle left right n limits children one two matched also)
      (opened : IsOpened own w after) where
    abbrev pub defects : List ℕ
    defects = seam_defects left.job left.slot n

    singles_added : AddsSingles own defects w.nodes after.nodes w.store after.store (freed_matching w after) after.matching
    singles_added = opened.singles_added

    abbrev pub singles : List Single
    singles = singles_by own defects

    abbrev pub first_state : PartState
    first_state = state_of left

    abbrev pub second_state : PartState
    second_state = renamed_state new_name (cycles_by after.links after.store) (state_of right)

    renamed_cycles : AreCyclesRenamed new_name (state_of right) (cycles_by after.links after.store)
    renamed_cycles x live = cycles_stay own w after beside_is opened (new_name x) ∙ cycles_right x live

    second_is : IsPartState (q left right n limits children one two matched also) second_state
    second_is =
        state_renamed (q left right n limits children one two matched also) (state_of right) new_name (cycles_by after.links after.store)
        (names_apart left right n limits children one two matched also links names table store tables stores) renamed_cycles two.state

    all_cycles : (x : ℕ) → merged_cycles first_state second_state x ≡ cycles_by after.links after.store x
    all_cycles x = by (is_live left.nodes x) refl
      where
        by : (c : Bool) → is_live left.nodes x ≡ c
            → (if is_live left.nodes x then cycles_by left.links left.store x else cycles_by after.links after.store x) ≡ cycles_by after.links after.store x
        by true live =
            ap (λ c. if c then cycles_by left.links left.store x else cycles_by after.links after.store x) live
            ∙ sym (cycles_stay own w after beside_is opened x ∙ cycles_left x live)
        by false dead = ap (λ c. if c then cycles_by left.links left.store x else cycles_by after.links after.store x) dead

    rises : IsStrictlyIncreasing (solved_shot left).defects
    rises = shifted_rises left.job.graph (shot_of left)

    vertices_are : vertices_of singles ≡ defects
    vertices_are = single_vertices own defects singles_added.count

    names_are : map (λ s. s.name) singles ≡ own
    names_are = single_names own defects singles_added.count

    seam_is : IsSeam (middle left right n limits children one two matched also) fused w.nodes (freed_list own w after beside_is opened)
        (rest own w after beside_is opened) singles owned
    seam_is = record {
      part = middle_part left right n limits children one two matched also;
      covered = real_covered left right n limits children one two matched also;
      unreal = seam_unreal left right n limits children one two matched also;
      freed_are = freed_are own w after beside_is opened;
      elsewhere = rest_elsewhere own w after beside_is opened;
      at_seam = single_real (λ v. owned v ≡ true) own defects (kept_real owned (solved_shot left).defects);
      bare = single_values own defects;
      defects = λ v seam.
          sym (ap (λ l. is_in l v) vertices_are
          ∙ (is_in-filter owned (solved_shot left).defects v ∙ (ap (λ c. is_in (solved_shot left).defects v && c) seam ∙ and-true (is_in (solved_shot left).defects v))));
    }

    further : AreFurther fused w.nodes singles
    further = record {
      names = subst AreDistinct (sym names_are) singles_added.distinct;
      own = λ x live.
          ap (λ l. is_live l x) (single_nodes own defects)
          ∙ (live_leaves own defects x singles_added.count ∙ not_own own w after beside_is opened x live);
      vertices = subst AreDistinct (sym vertices_are) (distinct-filter owned (solved_shot left).defects (distinct_from_rising (solved_shot left).defects rises));
      real = single_real (λ v. fused.is_real v ≡ true) own defects
          (λ i d less. seam_real left right n limits children one two matched also (get_or defects i d) (kept_real owned (solved_shot left).defects i d less));
    }

    matches_are : map (link_by table) (match_links w.matching.matches) ≡ first_state.matches ++ second_state.matches
    matches_are =
        ap (map (link_by table)) (links_are left right n limits children one two matched also links names table store tables stores)
        ∙ (map-append (link_by table) (match_links left.matching.matches) (map new_link (match_links right.matching.matches))
        ∙ (ap (λ l. l ++ map (link_by table) (map new_link (match_links right.matching.matches)))
        (links_same left.links table (match_links left.matching.matches)
        (λ id h. link_left left.links right.links table links tables id (match_live one id h)))
        ∙ ap (λ l. map (link_by left.links) (match_links left.matching.matches) ++ l)
        (links_moved new_link right.links table (match_links right.matching.matches)
        (λ id h. link_right left.links right.links table links tables id (match_live two id h)))))
      where
        match_live : {v : PartValue} → IsPart v → (id : ℕ) → is_in (match_links v.matching.matches) id ≡ true → is_link v.links id ≡ true
        match_live {v} is id h =
            is.links.live id
            ∙ (is_in-append (match_links v.matching.matches) (ring_links v.nodes v.store) id
            ∙ or_left (is_in (match_links v.matching.matches) id) (is_in (ring_links v.nodes v.store) id) h)

    abbrev pub fused_state : PartState
    fused_state = seamed_state (rest own w after beside_is opened) (freed_list own w after beside_is opened) singles (merged_state first_state second_state)

    fused_is : IsPartState fused fused_state
    fused_is =
        state_fused (p left right n limits children one two matched also) (q left right n limits children one two matched also) fused first_state second_state
        (rest own w after beside_is opened) (freed_list own w after beside_is opened) singles owned
        (whole_limits left right n limits children one two matched also) (parts left right n limits children one two matched also)
        (names_own left right n limits children one two matched also links names table store tables stores) seam_is further
        (subst (λ l. IsPermutation l (freed_links (freed_list own w after beside_is opened) ++ rest own w after beside_is opened)) matches_are
        (links_split own w after beside_is opened))
        one.state second_is

    unmatched_are : after.matching.unmatched ≡ firsts (taken own w after beside_is opened) ++ own
    unmatched_are = ap (λ m. m.unmatched) singles_added.matching

    state_is : fused_state ≡ state_of after
    state_is =
        same_state fused_state (state_of after) (ap (λ l. w.nodes ++ l) (single_nodes own defects) ∙ sym singles_added.nodes_are)
        (same_function (merged_cycles first_state second_state) (cycles_by after.links after.store) all_cycles) refl
        (ap (λ l. (l ++ map new_name right.matching.unmatched) ++ (freed_names (freed_list own w after beside_is opened) ++ map (λ s. s.name) singles)) matched
        ∙ (ap (λ l. map new_name l ++ (freed_names (freed_list own w after beside_is opened) ++ map (λ s. s.name) singles)) also
        ∙ (ap (λ l. l ++ map (λ s. s.name) singles) (freed_names_are own w after beside_is opened)
        ∙ (ap (λ l. firsts (taken own w after beside_is opened) ++ l) names_are ∙ sym unmatched_are))))

    -- the part with its job, slot and node as they are given
    abbrev pub placed : PartValue
    placed = record after { job = left.job; slot = left.slot; node = n }

    pub fused_part : IsPart after
    fused_part =
        subst IsPart (sym (same_part after placed opened.job opened.slot opened.node refl refl refl refl))
        (record {
          job = one.job;
          slot = one.slot;
          node = node_below left right n limits children one two matched also;
          state = subst (IsPartState fused) state_is fused_is;
          agreed = agreed_seamed own w after beside_is opened;
          links = links_seamed own w after beside_is opened
              (subst (λ x. IsPartOfProblem x fused) (sym same_problem) (middle_part left right n limits children one two matched also));
          matching = matching_seamed own w after beside_is opened
              (λ v real. subst (λ x. (x.is_real v ≡ true) ⊎ (owned v ≡ true)) (sym same_problem) (real_covered left right n limits children one two matched also v real));
        })
