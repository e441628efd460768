-- The index of two children's parts beside one another has all their matches to the boundary, and so it does once the seam
-- is opened.
use Rattle.std.proofs.Common.{ℕ, ◌≡◌, ◌≢◌, ◌&&◌, true, false, List, [], ◌++◌, map, All, Option, Some, None, is_some, refl, sym, ap, ◌∙◌, subst}
use Rattle.std.proofs.lemmas.Bool.{and_parts, both_ways, eq-eqb, false_from_ne_true, false≢true}
use Rattle.std.proofs.lemmas.List.Elements.{All-append, All-map, All-nil}
use Rattle.std.specs.Prelude.{Result, Ok, Err, OnOk}
use Rattle.fb_graph.specs.Laws.{Link}
use Rattle.fb_graph.specs.Parity.{is_in}
use Rattle.fb_graph.specs.Problem.{Problem}
use Rattle.fb_graph.specs.Limits.{IsWithinLimits, no_shot}
use Rattle.fb_graph.specs.Nests.{IsNest}
use Rattle.fb_graph.specs.RenamedNodes.{renamed_nodes}
use Rattle.fb_graph.proofs.Among.{IsAmong, All_among, among_All, map_among}
use Rattle.fb_laws.specs.Fusion.{IsLinkOf}
use Rattle.fb_plan.specs.Plans.{PlanTree, children_of, owner_of, problem_at}
use Rattle.fb_plan.specs.Vertices.{is_node}
use Rattle.fb_links.specs.Merged.{AreMerged}
use Rattle.fb_blossoms.specs.Merged as merged
use Rattle.fb_half.specs.declared.matches.Match.{Match}
use Rattle.fb_half.specs.declared.parts.Parts.{Parts}
use Rattle.fb_half.specs.declared.seams.Seams.{Seams}
use Rattle.fb_half.specs.InternalSeams.{AreBesideListed, IsBeside, IsOpened, meets_seam}
use Rattle.fb_half.specs.Matchings.{IsMatchOf, match_links}
use Rattle.fb_half.specs.Merged.{is_alone, is_owned_by, renamed_match, renamed_second}
use Rattle.fb_half.specs.Beginnings.{shot_defects}
use Rattle.fb_half.specs.Parts.{IsPart, PartValue, graph_in, problem_in}
use Rattle.fb_half.specs.Seams.{AreListed, IsListed, far_end, names_under}
use Rattle.fb_half.specs.Translations.{link_by}
use Rattle.fb_half.specs.Values.{HasScope, IsScopeOf, part_of}
use Rattle.fb_regions.specs.Paces.{IsAtRest}
use Rattle.fb_half.proofs.AddedSingles.{Store}
use Rattle.fb_half.proofs.BesideLinks.{link_left, link_right}
use Rattle.fb_half.proofs.BesideMatchings.{far_left, far_right}
use Rattle.fb_half.proofs.FarEnds.{far_is, seam_far}
use Rattle.fb_half.proofs.MergedHalves.{before, beside, link, live_left, live_right, middle, name, names_apart, names_own, nest_beside, parts, q, whole}
use Rattle.fb_half.proofs.Reached.{owner_named}
use Rattle.fb_half.proofs.SeamedLinks.{stays_among, stays_off}
use Rattle.fb_half.proofs.SeamedMatchings.{link_is, still_unreal, was_match}
use Rattle.fb_links.proofs.MovedLinks.{Table}

-- a part without matches
pub scope_begun : (parts : Parts) → IsScopeOf parts.regions.scope (part_of parts) → parts.matching.matches ≡ []
    → parts.defects.items ≡ shot_defects (part_of parts) → IsAtRest parts.regions → HasScope parts
scope_begun parts is none own rest = record {
  graph = is.graph;
  plan = is.plan;
  node = is.node;
  listed =
      subst (AreListed (problem_in (part_of parts)).is_real parts.job.0.now.plan parts.seams parts.links) (sym none)
      (All-nil (IsListed (problem_in (part_of parts)).is_real parts.job.0.now.plan parts.seams parts.links));
  defects = own;
  rest = rest;
}

alone_second : (o : Option ℕ) → is_alone o ≡ true → o ≡ None
alone_second None h = refl
alone_second (Some b) h = absurd (false≢true h)

second_back : (f : ℕ → ℕ) (o : Option ℕ) → renamed_second f o ≡ None → o ≡ None
second_back f None h = refl
second_back f (Some b) h = absurd (let clash : Some (f b) ≡ None = h in cc)

module _ (left right : PartValue) (n : ℕ) (limits : IsWithinLimits (problem_at (graph_in left) left.job.plan n no_shot))
    (children : children_of left.job.plan n ≡ Some (left.node, right.node)) (one : IsPart left)
    (two : IsPart (record right { job = left.job; slot = left.slot })) (matched : left.matching.unmatched ≡ []) (also : right.matching.unmatched ≡ [])
    (links names : List (ℕ × ℕ)) (table : Table) (store : Store) (tables : AreMerged left.links right.links links table)
    (stores : merged.IsMerged left.store right.store store links names) (same_job : right.job ≡ left.job)
    (mine theirs seams : Seams)
    (own : All (λ m. (o : ℕ) → is_in (names_under mine o) m.first ≡ true → is_in (names_under seams o) m.first ≡ true) left.matching.matches)
    (others : All (λ m. (o : ℕ) → is_in (names_under theirs o) m.first ≡ true
    → is_in (names_under seams o) (name left right n limits children one two matched also links names table store tables stores m.first) ≡ true) right.matching.matches)
    (listed : AreListed (problem_in left).is_real left.job.plan mine left.links left.matching.matches)
    (listed_too : AreListed (problem_in right).is_real right.job.plan theirs right.links right.matching.matches) where
  abbrev pub w : PartValue
  w = before left right n limits children one two matched also links names table store tables stores

  abbrev pub new_name : ℕ → ℕ
  new_name = name left right n limits children one two matched also links names table store tables stores

  abbrev pub new_link : ℕ → ℕ
  new_link = link left right n limits children one two matched also links names table store tables stores

  abbrev pub between : Problem
  between = middle left right n limits children one two matched also

  abbrev pub other : Problem
  other = q left right n limits children one two matched also

  nest_is : IsNest between (left.nodes ++ renamed_nodes new_name right.nodes)
  nest_is = nest_beside left right n limits children one two matched also links names table store tables stores

  abbrev IsIn : Match → Type 0
  IsIn = IsListed between.is_real left.job.plan seams table

  left_listed : (e : Match) → IsAmong e left.matching.matches → IsIn e
  left_listed e a owner none at =
      All_among (λ m. (o : ℕ) → is_in (names_under mine o) m.first ≡ true → is_in (names_under seams o) m.first ≡ true) left.matching.matches own e a owner
      (All_among (IsListed (problem_in left).is_real left.job.plan mine left.links) left.matching.matches listed e a owner none
      (sym (ap (owner_of left.job.plan) far) ∙ at))
    where
      same : link_by table e.link ≡ link_by left.links e.link
      same = link_left left.links right.links table links tables e.link (live_left left right n limits children one two matched also links names table store tables stores e a)

      far : far_end between.is_real (link_by table e.link) ≡ far_end (problem_in left).is_real (link_by left.links e.link)
      far =
          ap (far_end between.is_real) same
          ∙ far_left (problem_in left) other (whole left right n limits children one two matched also) left.nodes right.nodes new_name
          (parts left right n limits children one two matched also)
          (names_apart left right n limits children one two matched also links names table store tables stores)
          (names_own left right n limits children one two matched also links names table store tables stores)
          one.state.work.nest two.state.work.nest nest_is.dual.apart (λ u m c. nest_is.dual.real u (ap is_some c))
          (link_by left.links e.link) e.first e.second none
          (All_among (IsLinkOf (problem_in left)) (map (link_by left.links) (match_links left.matching.matches)) one.state.work.work.matching.links_are.own (link_by left.links e.link)
          (map_among (link_by left.links) (match_links left.matching.matches) e.link (map_among (λ m. m.link) left.matching.matches e a)))
          (All_among (λ x. IsMatchOf (problem_in left) left.nodes (link_by left.links x.link) x.first x.second) left.matching.matches one.matching.connects e a)

  right_listed : (e : Match) → IsAmong e right.matching.matches → IsIn (renamed_match new_link new_name e)
  right_listed e a owner none at =
      All_among (λ m. (o : ℕ) → is_in (names_under theirs o) m.first ≡ true → is_in (names_under seams o) (new_name m.first) ≡ true) right.matching.matches others e a owner
      (All_among (IsListed (problem_in right).is_real right.job.plan theirs right.links) right.matching.matches listed_too e a owner
      (second_back new_name e.second none)
      (ap (λ j. owner_of j.plan (far_end (problem_at j.graph j.plan right.node no_shot).is_real (link_by right.links e.link))) same_job
      ∙ (sym (ap (owner_of left.job.plan) far) ∙ at)))
    where
      same : link_by table (new_link e.link) ≡ link_by right.links e.link
      same = link_right left.links right.links table links tables e.link (live_right left right n limits children one two matched also links names table store tables stores e a)

      far : far_end between.is_real (link_by table (new_link e.link)) ≡ far_end other.is_real (link_by right.links e.link)
      far =
          ap (far_end between.is_real) same
          ∙ far_right (problem_in left) other (whole left right n limits children one two matched also) left.nodes right.nodes new_name
          (parts left right n limits children one two matched also)
          (names_apart left right n limits children one two matched also links names table store tables stores)
          (names_own left right n limits children one two matched also links names table store tables stores)
          one.state.work.nest two.state.work.nest nest_is.dual.apart (λ u m c. nest_is.dual.real u (ap is_some c))
          (link_by right.links e.link) e.first e.second (second_back new_name e.second none)
          (All_among (IsLinkOf other) (map (link_by right.links) (match_links right.matching.matches)) two.state.work.work.matching.links_are.own (link_by right.links e.link)
          (map_among (link_by right.links) (match_links right.matching.matches) e.link (map_among (λ m. m.link) right.matching.matches e a)))
          (All_among (λ x. IsMatchOf other right.nodes (link_by right.links x.link) x.first x.second) right.matching.matches two.matching.connects e a)

  pub beside_listed : AreBesideListed seams w
  beside_listed = record {
    beside = beside left right n limits children one two matched also links names table store tables stores;
    listed =
        All-append IsIn left.matching.matches (map (renamed_match new_link new_name) right.matching.matches)
        (among_All IsIn left.matching.matches left_listed)
        (All-map IsIn (renamed_match new_link new_name) right.matching.matches
        (among_All (λ e. IsIn (renamed_match new_link new_name e)) right.matching.matches right_listed));
  }

-- what the nodes hold is real, and not on the seam
module _ (w : PartValue) (b : IsBeside w) where
  off_seam : (u : ℕ) → b.problem.is_real u ≡ true → is_owned_by w.job.plan w.node u ≡ false
  off_seam u h = false_from_ne_true (is_owned_by w.job.plan w.node u) (λ on. both_ways (b.problem.is_real u) (b.apart u on) h)

  met_far : (e : Match) → IsAmong e w.matching.matches → meets_seam w.job.plan w.node w.links e
      ≡ (is_alone e.second && is_owned_by w.job.plan w.node (far_end b.problem.is_real (link_by w.links e.link)))
  met_far e a =
      seam_far b.problem w.nodes (is_owned_by w.job.plan w.node) (link_by w.links e.link) e.first e.second
      (λ u m c. b.nest.dual.real u (ap is_some c)) off_seam
      (All_among (λ x. IsMatchOf b.problem w.nodes (link_by w.links x.link) x.first x.second) w.matching.matches b.matching.connects e a)

-- the nodes of all matches that meet the seam are listed under its owner
pub met_listed : (w : PartValue) (s : Seams) (plan : PlanTree) (n : ℕ) (listed : List ℕ) (are : AreBesideListed s w) → plan ≡ w.job.plan → n ≡ w.node
    → listed ≡ names_under s n → All (λ m. meets_seam plan n w.links m ≡ true → is_in listed m.first ≡ true) w.matching.matches
met_listed w s plan n listed are same_plan same_node is =
    among_All (λ m. meets_seam plan n w.links m ≡ true → is_in listed m.first ≡ true) w.matching.matches each
  where
    each : (m : Match) → IsAmong m w.matching.matches → meets_seam plan n w.links m ≡ true → is_in listed m.first ≡ true
    each m a meets =
        let far : ℕ = far_end are.beside.problem.is_real (link_by w.links m.link) in
        let both = and_parts (is_alone m.second) (is_owned_by w.job.plan w.node far)
        (sym (met_far w are.beside m a) ∙ (sym (ap (λ t. meets_seam t w.node w.links m) same_plan) ∙ (sym (ap (λ k. meets_seam plan k w.links m) same_node) ∙ meets))) in
        ap (λ l. is_in l m.first) (is ∙ ap (names_under s) same_node)
        ∙ All_among (IsListed are.beside.problem.is_real w.job.plan s w.links) w.matching.matches are.listed m a w.node
        (alone_second m.second both.0) (owner_named w.node (owner_of w.job.plan far) both.1)

-- Once the seam is opened, and its list taken out of the index, it has all matches that stay.
pub opened_listed : (names : List ℕ) (w after : PartValue) (s new : Seams) (are : AreBesideListed s w) → IsOpened names w after
    → ((o : ℕ) → o ≢ w.node → names_under new o ≡ names_under s o)
    → AreListed (problem_in after).is_real after.job.plan new after.links after.matching.matches
opened_listed names w after s new are opened others =
    among_All (IsListed (problem_in after).is_real after.job.plan new after.links) after.matching.matches each
  where
    b : IsBeside w
    b = are.beside

    same_real : (problem_in after).is_real ≡ (problem_in w).is_real
    same_real = (λ i. (problem_at (opened.job i).graph (opened.job i).plan (opened.node i) no_shot).is_real)

    far : Link → ℕ
    far = far_end b.problem.is_real

    still : (l : Link) (a : ℕ) (second : Option ℕ) → second ≡ None → IsMatchOf b.problem w.nodes l a second
        → is_owned_by w.job.plan w.node (far l) ≡ false → far_end (problem_in w).is_real l ≡ far l
    still l a (Some x) none at off = absurd (let clash : Some x ≡ None = none in cc)
    still l a None none (v, leaves, unreal) off =
        let ends : far l ≡ v = far_is b.problem.is_real w.nodes l a v (λ u m c. b.nest.dual.real u (ap is_some c)) leaves unreal in
        far_is (problem_in w).is_real w.nodes l a v (λ u m c. b.part u (b.nest.dual.real u (ap is_some c))) leaves
        (still_unreal names w after b opened b.covered v unreal (sym (ap (is_owned_by w.job.plan w.node) ends) ∙ off))
        ∙ sym ends

    each : (e : Match) → IsAmong e after.matching.matches → IsListed (problem_in after).is_real after.job.plan new after.links e
    each e a owner none at =
        ap (λ l. is_in l e.first) (others owner elsewhere)
        ∙ All_among (IsListed b.problem.is_real w.job.plan s w.links) w.matching.matches are.listed e was owner none owned
      where
        was : IsAmong e w.matching.matches
        was = stays_among names w after b opened e a

        l : Link
        l = link_by w.links e.link

        off : is_owned_by w.job.plan w.node (far l) ≡ false
        off =
            sym (ap (λ o. is_alone o && is_owned_by w.job.plan w.node (far l)) none)
            ∙ (sym (met_far w b e was) ∙ stays_off names w after b opened e a)

        owned : owner_of w.job.plan (far l) ≡ Some owner
        owned =
            ap (owner_of w.job.plan)
            (sym (still l e.first e.second none (was_match names w after b opened e was) off)
            ∙ (sym (ap (λ r. far_end r l) same_real) ∙ sym (ap (far_end (problem_in after).is_real) (link_is names w after b opened e a))))
            ∙ (sym (ap (λ j. owner_of j.plan (far_end (problem_in after).is_real (link_by after.links e.link))) opened.job) ∙ at)

        elsewhere : owner ≢ w.node
        elsewhere same =
            false≢true (sym off ∙ (ap (is_node w.node) owned ∙ eq-eqb owner w.node same))

-- what holds if a step is done follows from two such facts
pub ok_with : {T E : Type 0} {A B C : Type 0} (r : Result T E) → (A → B → C) → OnOk r A → OnOk r B → OnOk r C
ok_with (Ok x) both a b = both a b
ok_with (Err e) both a b = tt
