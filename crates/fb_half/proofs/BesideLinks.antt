-- Two parts beside one another: their links are those of the merged table.
use Rattle.std.proofs.Common.{ℕ, ◌≡◌, ◌<◌, length, ◌||◌, ◌⊎◌, inl, inr, true, false, List, [], ◌∷◌, ◌++◌, map, get_or, Option, Some, None, is_some, unwrap_or, refl, sym, ap, ◌∙◌, subst}
use Rattle.std.specs.List.Sorted.{IsPermutation}
use Rattle.std.proofs.lemmas.Bool.{both_ways, false_from_ne_true, false≢true, or_cases, or_left, or_right}
use Rattle.std.proofs.lemmas.List.{map-append}
use Rattle.fb_graph.specs.Parity.{is_in}
use Rattle.fb_graph.specs.Problem.{Problem, edge_at}
use Rattle.fb_graph.specs.Certificate.{AreDistinct}
use Rattle.fb_graph.specs.Components.{Leads}
use Rattle.fb_graph.specs.Dual.{Node}
use Rattle.fb_graph.specs.Laws.{has_real_end}
use Rattle.fb_graph.specs.declared.parts.Edge.{Edge}
use Rattle.fb_graph.specs.RenamedNodes.{renamed_nodes}
use Rattle.fb_graph.proofs.Among.{IsAmong}
use Rattle.fb_graph.proofs.Members.{is_in-append, is_in-map}
use Rattle.fb_graph.proofs.RenamedNodes.{distinct_renamed}
use Rattle.fb_graph.proofs.Sets.{is_in-head, is_in-tail}
use Rattle.fb_graph.proofs.Unions.{distinct_append}
use Rattle.fb_laws.proofs.OpenedBlossoms.{distinct_permuted, same_permuted}
use Rattle.fb_links.specs.declared.walk.Step.{Step}
use Rattle.fb_links.specs.Merged.{AreMerged}
use Rattle.fb_links.specs.Names.{name_by}
use Rattle.fb_links.specs.Table.{is_live, link_at}
use Rattle.fb_links.proofs.Renaming.{either_one, left_stays, right_apart, right_renamed}
use Rattle.fb_half.specs.declared.matches.Match.{Match}
use Rattle.fb_half.specs.Matchings.{match_links}
use Rattle.fb_half.specs.Merged.{renamed_match}
use Rattle.fb_half.specs.Parts.{AreLinksOf, AreStepsOf}
use Rattle.fb_half.specs.Translations.{link_by, link_of, ring_at, ring_links}
use Rattle.fb_half.proofs.AddedSingles.{Store}
use Rattle.fb_graph.proofs.Booleans.{same_bool}
use Rattle.fb_graph.proofs.OddLabels.{member_of_map}
use Rattle.fb_links.proofs.MovedLinks.{Table}

-- a walk of a part is one of a whole in which no fewer vertices are real
pub steps_widened : (part whole : Problem) → part.edges ≡ whole.edges → ((v : ℕ) → part.is_real v ≡ true → whole.is_real v ≡ true)
    → (walk : List Step) → AreStepsOf part walk → AreStepsOf whole walk
steps_widened part whole edges real walk are i d less =
    let s : Step = get_or walk i d in
    let (is, ends) = are i d less in (
      record {
        within = subst (λ es. s.edge < length es) edges is.within;
        leads = subst (λ es. Leads (edge_at es s.edge) s.from s.to) edges is.leads;
        weighs = subst (λ es. s.weight ≡ (edge_at es s.edge).weight) edges is.weighs;
      },
      subst (λ es. has_real_end whole (edge_at es s.edge) ≡ true) edges
          (step (edge_at part.edges s.edge) (or_cases (part.is_real (edge_at part.edges s.edge).first) (part.is_real (edge_at part.edges s.edge).second) ends)),
    )
  where
    step : (e : Edge) → (part.is_real e.first ≡ true) ⊎ (part.is_real e.second ≡ true) → has_real_end whole e ≡ true
    step e (inl h) = or_left (whole.is_real e.first) (whole.is_real e.second) (real e.first h)
    step e (inr h) = or_right (whole.is_real e.first) (whole.is_real e.second) (real e.second h)

pub links_renamed : (g f : ℕ → ℕ) (ms : List Match) → match_links (map (renamed_match g f) ms) ≡ map g (match_links ms)
links_renamed g f [] = refl
links_renamed g f (m ∷ ms) = ap (λ l. g m.link ∷ l) (links_renamed g f ms)

-- the rings of nodes whose rings are as they were
pub rings_same : (nodes : List Node) (old new : Store) → ((n : Node) → IsAmong n nodes → ring_at new n.name ≡ ring_at old n.name)
    → ring_links nodes new ≡ ring_links nodes old
rings_same [] old new same = refl
rings_same (n ∷ ns) old new same =
    ap (λ l. l ++ ring_links ns new) (same n (inl refl)) ∙ ap (λ l. ring_at old n.name ++ l) (rings_same ns old new (λ m a. same m (inr a)))

pub rings_renamed : (f g : ℕ → ℕ) (nodes : List Node) (old new : Store)
    → ((n : Node) → IsAmong n nodes → ring_at new (f n.name) ≡ map g (ring_at old n.name))
    → ring_links (renamed_nodes f nodes) new ≡ map g (ring_links nodes old)
rings_renamed f g [] old new same = refl
rings_renamed f g (n ∷ ns) old new same =
    ap (λ l. l ++ ring_links (renamed_nodes f ns) new) (same n (inl refl))
    ∙ (ap (λ l. map g (ring_at old n.name) ++ l) (rings_renamed f g ns old new (λ m a. same m (inr a)))
    ∙ sym (map-append g (ring_at old n.name) (ring_links ns old)))

module _ (first second table : Table) (pairs : List (ℕ × ℕ)) (both : AreMerged first second pairs table) where
  abbrev pub link : ℕ → ℕ
  link = name_by pairs

  pub stays : (id : ℕ) → is_live first id ≡ true → link_at table id ≡ link_at first id
  stays id live = step (link_at first id) refl live
    where
      step : (o : Option (List Step)) → link_at first id ≡ o → is_some o ≡ true → link_at table id ≡ link_at first id
      step None e h = absurd (false≢true h)
      step (Some walk) e h = left_stays first second pairs table both id walk e ∙ sym e

  pub moved : (id : ℕ) → is_live second id ≡ true → link_at table (link id) ≡ link_at second id
  moved id live = (right_renamed first second pairs table both id live).moved

  module _ (one two ids : List ℕ) (live_one : (id : ℕ) → is_live first id ≡ is_in one id) (live_two : (id : ℕ) → is_live second id ≡ is_in two id)
      (once : AreDistinct one) (other : AreDistinct two) (are : IsPermutation (one ++ map link two) ids) where
    apart : (id : ℕ) → is_in one id ≡ true → is_in (map link two) id ≡ false
    apart id within =
        false_from_ne_true (is_in (map link two) id)
        (λ h.
        let (a, there, named) = member_of_map link two id h in
        both_ways (is_live first id)
        (ap (is_live first) (sym named) ∙ ap is_some (right_renamed first second pairs table both a (live_two a ∙ there)).fresh)
        (live_one id ∙ within))

    pub all_distinct : AreDistinct ids
    all_distinct =
        distinct_permuted (one ++ map link two) ids are
        (distinct_append one (map link two) once
        (distinct_renamed link two (λ x y a b e. right_apart first second pairs table both x y (live_two x ∙ a) (live_two y ∙ b) e) other) apart)

    either : (id : ℕ) → is_in ids id ≡ (is_in one id || is_in (map link two) id)
    either id = same_permuted (one ++ map link two) ids are id ∙ is_in-append one (map link two) id

    pub all_live : (id : ℕ) → is_live table id ≡ is_in ids id
    all_live id = same_bool (is_live table id) (is_in ids id) (λ h. either id ∙ there (either_one first second pairs table both id h))
        (λ h. back (or_cases (is_in one id) (is_in (map link two) id) (sym (either id) ∙ h)))
      where
        there : (is_live first id ≡ true) ⊎ ((old : ℕ) × (is_live second old ≡ true) × (link old ≡ id)) → (is_in one id || is_in (map link two) id) ≡ true
        there (inl h) = or_left (is_in one id) (is_in (map link two) id) (sym (live_one id) ∙ h)
        there (inr (old, h, named)) =
            or_right (is_in one id) (is_in (map link two) id)
            (ap (is_in (map link two)) (sym named) ∙ is_in-map link two old (sym (live_two old) ∙ h))

        back : (is_in one id ≡ true) ⊎ (is_in (map link two) id ≡ true) → is_live table id ≡ true
        back (inl h) = let live : is_live first id ≡ true = live_one id ∙ h in ap is_some (stays id live) ∙ live
        back (inr h) =
            let (old, there, named) = member_of_map link two id h in
            let live : is_live second old ≡ true = live_two old ∙ there in
            ap (is_live table) (sym named) ∙ (ap is_some (moved old live) ∙ live)

    -- Links of both parts are links of a whole of both.
    pub links_beside : (p q whole : Problem) → p.edges ≡ whole.edges → q.edges ≡ whole.edges
        → ((v : ℕ) → p.is_real v ≡ true → whole.is_real v ≡ true) → ((v : ℕ) → q.is_real v ≡ true → whole.is_real v ≡ true)
        → ((id : ℕ) (walk : List Step) → link_at first id ≡ Some walk → AreStepsOf p walk)
        → ((id : ℕ) (walk : List Step) → link_at second id ≡ Some walk → AreStepsOf q walk) → AreLinksOf whole table ids
    links_beside p q whole edges same real also one_steps two_steps = record {
      distinct = all_distinct;
      live = all_live;
      steps = λ id walk at. steps id walk at (either_one first second pairs table both id (ap is_some at));
    }
      where
        steps : (id : ℕ) (walk : List Step) → link_at table id ≡ Some walk
            → (is_live first id ≡ true) ⊎ ((old : ℕ) × (is_live second old ≡ true) × (link old ≡ id)) → AreStepsOf whole walk
        steps id walk at (inl live) = steps_widened p whole edges real walk (one_steps id walk (sym (stays id live) ∙ at))
        steps id walk at (inr (old, live, named)) =
            steps_widened q whole same also walk (two_steps old walk (sym (moved old live) ∙ (ap (link_at table) named ∙ at)))

  pub link_left : (id : ℕ) → is_live first id ≡ true → link_by table id ≡ link_by first id
  link_left id live = ap (λ o. link_of (unwrap_or o [])) (stays id live)

  pub link_right : (id : ℕ) → is_live second id ≡ true → link_by table (link id) ≡ link_by second id
  link_right id live = ap (λ o. link_of (unwrap_or o [])) (moved id live)

-- links by their numbers, where each is as it was
pub links_same : (old new : Table) (ids : List ℕ) → ((id : ℕ) → is_in ids id ≡ true → link_by new id ≡ link_by old id)
    → map (link_by new) ids ≡ map (link_by old) ids
links_same old new [] same = refl
links_same old new (id ∷ ids) same =
    ap (λ l. l ∷ map (link_by new) ids) (same id (is_in-head id ids))
    ∙ ap (λ l. link_by old id ∷ l) (links_same old new ids (λ k h. same k (is_in-tail id ids k h)))

pub links_moved : (f : ℕ → ℕ) (old new : Table) (ids : List ℕ) → ((id : ℕ) → is_in ids id ≡ true → link_by new (f id) ≡ link_by old id)
    → map (link_by new) (map f ids) ≡ map (link_by old) ids
links_moved f old new [] same = refl
links_moved f old new (id ∷ ids) same =
    ap (λ l. l ∷ map (link_by new) (map f ids)) (same id (is_in-head id ids))
    ∙ ap (λ l. link_by old id ∷ l) (links_moved f old new ids (λ k h. same k (is_in-tail id ids k h)))
