-- The links that solve a part by their numbers.
use Rattle.std.proofs.Common.{◌≡◌, inl, inr, ℕ, ◌||◌, ◌&&◌, ◌==◌, Bool, true, false, List, [], ◌∷◌, ◌++◌, map, flat_map, All, refl, sym, ◌∙◌, ap, subst, if◌then◌else◌}
use Rattle.std.specs.List.{list_any}
use Rattle.std.proofs.lemmas.Bool.{and_parts, both_ways, eq-eqb, or_left, and_from}
use Rattle.std.proofs.lemmas.List.{map-append}
use Rattle.std.proofs.lemmas.List.Elements.{All-append, All-cons, All-head, All-tail, All-nil}
use Rattle.fb_graph.specs.Parity.{is_in}
use Rattle.fb_graph.specs.Laws.{Link}
use Rattle.fb_graph.specs.Dual.{Node, defects_of, is_empty, is_live, leaves, top_at}
use Rattle.fb_graph.specs.Nests.{IsNest, child_sets}
use Rattle.fb_graph.proofs.Among.{IsAmong, All_among, among_All, live_among, top_among, All_unmapped}
use Rattle.fb_graph.proofs.NestParts.{top_is_odd}
use Rattle.fb_graph.proofs.Sets.{is_in-All}
use Rattle.fb_links.specs.declared.cycle.CycleStep.{CycleStep}
use Rattle.fb_links.specs.Table.{walk_at}
use Rattle.fb_links.specs.Walks.{start_of, end_of}
use Rattle.fb_blossoms.specs.Nodes.{IsNested, cycle_at, defects_at, is_on}
use Rattle.fb_blossoms.proofs.Rounds.{cycle_kept}
use Rattle.fb_laws.specs.HeldDefects.{AreHeld}
use Rattle.fb_laws.specs.OpenedLinks.{every_second, has_end, opened_over, pair_links, place_of, round_from}
use Rattle.fb_laws.specs.PartStates.{all_cycle_links, links_at}
use Rattle.fb_laws.proofs.OpenedParts.{flat_among}
use Rattle.fb_laws.proofs.HeldDefects.{held_in_sets}
use Rattle.fb_laws.proofs.RingReads.{second_by_number}
use Rattle.fb_half.specs.Translations.{children_at, cycles_by, link_by, ring_at}
use Rattle.fb_half.specs.Matchings.{match_links}
use Rattle.fb_half.specs.Parts.{IsPart, PartValue, problem_in}
use Rattle.fb_resolve.specs.Openings.{OpenedByNumber, holds_end, is_reached, opened_numbers, pair_numbers}
use Rattle.fb_resolve.proofs.Rings.{All_pairs, place_same}
use Rattle.fb_graph.proofs.Booleans.{same_bool}
use Rattle.fb_half.proofs.AgreedNodes.{along_any}

no_pairs : (table : ℕ → Link) (test : ℕ → Bool) (ss : List CycleStep) → is_empty (map (λ s. s.node) ss) ≡ true
    → map table (every_second (round_from (place_of test (map (λ s. s.node) ss)) (map (λ s. s.link) ss))) ≡ []
no_pairs table test [] e = refl
no_pairs table test (s ∷ ss) e = absurd (both_ways false refl e)

no_ring : (P : ℕ → Type 0) (ss : List CycleStep) → is_empty (map (λ s. s.node) ss) ≡ true → All P (map (λ s. s.link) ss)
no_ring P [] e = All-nil P
no_ring P (s ∷ ss) e = absurd (both_ways false refl e)

module _ (w : PartValue) (part : IsPart w) (nested : IsNested w.store) where
  nest : IsNest (problem_in w) w.nodes
  nest = part.state.work.nest

  abbrev held : ℕ → List ℕ
  held name = defects_at w.store name

  blossom_held : (name d : ℕ) (ss : List CycleStep) → cycle_at w.store name ≡ ss → is_empty (map (λ s. s.node) ss) ≡ false
      → is_in (held name) d ≡ list_any (λ c. is_in (held c) d) (map (λ s. s.node) ss)
  blossom_held name d [] e some = absurd (both_ways true some refl)
  blossom_held name d (s ∷ ss) e some =
      let on : is_on (cycle_at w.store name) s.node ≡ true =
      ap (λ l. is_on l s.node) e ∙ or_left (s.node == s.node) (is_on ss s.node) (eq-eqb s.node s.node refl) in
      ap (λ l. is_in l d) ((cycle_kept w.store nested name s.node on).1 ∙ ap (flat_map (λ t. held t.node)) e)
      ∙ along_any held (s ∷ ss) d

  are_held : AreHeld w.nodes held
  are_held = record {
    own = among_All
        (λ n. is_empty n.children ≡ true → (d : ℕ) → is_in (held n.name) d ≡ is_in (defects_of n) d) w.nodes
        (λ n a e d. ap (λ l. is_in l d)
        (sym (All_among (λ m. is_empty m.children ≡ true → defects_of m ≡ held m.name) w.nodes part.agreed.leaves n a e)));
    joined = among_All
        (λ n. is_empty n.children ≡ false → (d : ℕ) → is_in (held n.name) d ≡ list_any (λ c. is_in (held c) d) n.children) w.nodes
        (λ n a e d.
        let kids : n.children ≡ children_at w.store n.name =
        All_among (λ m. m.children ≡ children_at w.store m.name) w.nodes part.agreed.children n a in
        blossom_held n.name d (cycle_at w.store n.name) refl (ap is_empty (sym kids) ∙ e)
        ∙ ap (list_any (λ c. is_in (held c) d)) (sym kids));
  }

  -- in a node's set lie the defects that it holds, and no boundary
  agree_at : (c d : ℕ) → is_live w.nodes c ≡ true
      → ((problem_in w).is_real d ≡ true → is_in (leaves w.nodes) d ≡ true)
      → is_in (top_at w.nodes c) d ≡ is_in (held c) d
  agree_at c d live own =
      let r : (m : Node) × IsAmong m w.nodes × (m.name ≡ c) = live_among w.nodes c live in
      let sets : (e : ℕ) → is_in (held r.0.name) e ≡ (is_in (leaves w.nodes) e && is_in r.0.top.vertices e) =
      All_among (λ n. (e : ℕ) → is_in (held n.name) e ≡ (is_in (leaves w.nodes) e && is_in n.top.vertices e)) w.nodes
      (held_in_sets (problem_in w) w.nodes held nest are_held) r.0 r.1 in
      let at : is_in (top_at w.nodes r.0.name) d ≡ is_in (held r.0.name) d =
      ap (λ l. is_in l d) (top_among w.nodes nest.dual.names r.0 r.1)
      ∙ same_bool (is_in r.0.top.vertices d) (is_in (held r.0.name) d)
      (λ h. sets d ∙ and_from (is_in (leaves w.nodes) d) (is_in r.0.top.vertices d) (own (top_real r.0 r.1 h)) h)
      (λ h. (and_parts (is_in (leaves w.nodes) d) (is_in r.0.top.vertices d) (sym (sets d) ∙ h)).1) in
      subst (λ (n : ℕ). is_in (top_at w.nodes n) d ≡ is_in (held n) d) r.2 at
    where
      top_real : (m : Node) → IsAmong m w.nodes → is_in m.top.vertices d ≡ true → (problem_in w).is_real d ≡ true
      top_real m a h =
          is_in-All (λ v. (problem_in w).is_real v ≡ true) m.top.vertices (top_is_odd (problem_in w) w.nodes nest m a).real d h

  abbrev IsOwnEnd : ℕ → Type 0
  IsOwnEnd d = (problem_in w).is_real d ≡ true → is_in (leaves w.nodes) d ≡ true

  abbrev IsOwn : Link → Type 0
  IsOwn l = IsOwnEnd l.from × IsOwnEnd l.to

  abbrev IsOwnId : ℕ → Type 0
  IsOwnId id = IsOwn (link_by w.links id)

  reach : (c : ℕ) → is_live w.nodes c ≡ true → (ids : List ℕ) → All IsOwnId ids
      → has_end (map (link_by w.links) ids) (top_at w.nodes c) ≡ is_reached w.links w.store ids c
  reach c live [] own = refl
  reach c live (id ∷ ids) own =
      let ends : IsOwnId id = All-head IsOwnId id ids own in
      let from : is_in (top_at w.nodes c) (start_of (walk_at w.links id)) ≡ is_in (held c) (start_of (walk_at w.links id)) =
      agree_at c (start_of (walk_at w.links id)) live ends.0 in
      let to : is_in (top_at w.nodes c) (end_of (walk_at w.links id)) ≡ is_in (held c) (end_of (walk_at w.links id)) =
      agree_at c (end_of (walk_at w.links id)) live ends.1 in
      let rest : has_end (map (link_by w.links) ids) (top_at w.nodes c) ≡ is_reached w.links w.store ids c =
      reach c live ids (All-tail IsOwnId id ids own) in
      ap (λ b. (b || is_in (top_at w.nodes c) (end_of (walk_at w.links id))) || has_end (map (link_by w.links) ids) (top_at w.nodes c)) from
      ∙ (ap (λ b. (is_in (held c) (start_of (walk_at w.links id)) || b) || has_end (map (link_by w.links) ids) (top_at w.nodes c)) to
      ∙ ap (λ b. holds_end (held c) (walk_at w.links id) || b) rest)

  kids_of : (n : Node) → IsAmong n w.nodes → n.children ≡ children_at w.store n.name
  kids_of n a = All_among (λ m. m.children ≡ children_at w.store m.name) w.nodes part.agreed.children n a

  pair_at : (n : Node) → IsAmong n w.nodes → (ids : List ℕ) → All IsOwnId ids
      → (if is_empty n.children then [] else pair_links (map (link_by w.links) ids) (child_sets w.nodes n) (cycles_by w.links w.store n.name))
      ≡ map (link_by w.links) (pair_numbers w.links w.store ids n.name)
  pair_at n a ids own = at (is_empty n.children) refl
    where
      at : (b : Bool) → is_empty n.children ≡ b
          → (if b then [] else pair_links (map (link_by w.links) ids) (child_sets w.nodes n) (cycles_by w.links w.store n.name))
          ≡ map (link_by w.links) (pair_numbers w.links w.store ids n.name)
      at true e =
          sym (no_pairs (link_by w.links) (is_reached w.links w.store ids) (cycle_at w.store n.name) (ap is_empty (sym (kids_of n a)) ∙ e))
      at false e =
          ap (λ i. every_second (round_from i (map (link_by w.links) (ring_at w.store n.name))))
          (place_same (has_end (map (link_by w.links) ids)) (is_reached w.links w.store ids) (top_at w.nodes) n.children
          (is_in_each n.children
          (All_among (λ m. All (λ c. is_live w.nodes c ≡ true) m.children) w.nodes nest.forest.live n a))
          ∙ ap (place_of (is_reached w.links w.store ids)) (kids_of n a))
          ∙ second_by_number (link_by w.links) (place_of (is_reached w.links w.store ids) (children_at w.store n.name)) (ring_at w.store n.name)
        where
          is_in_each : (cs : List ℕ) → All (λ c. is_live w.nodes c ≡ true) cs
              → All (λ c. has_end (map (link_by w.links) ids) (top_at w.nodes c) ≡ is_reached w.links w.store ids c) cs
          is_in_each [] live = All-nil (λ c. has_end (map (link_by w.links) ids) (top_at w.nodes c) ≡ is_reached w.links w.store ids c)
          is_in_each (c ∷ cs) live =
              All-cons (λ c. has_end (map (link_by w.links) ids) (top_at w.nodes c) ≡ is_reached w.links w.store ids c) c cs
              (reach c (All-head (λ c. is_live w.nodes c ≡ true) c cs live) ids own)
              (is_in_each cs (All-tail (λ c. is_live w.nodes c ≡ true) c cs live))

  ring_own : (n : Node) → IsAmong n w.nodes → All IsOwnId (ring_at w.store n.name)
  ring_own n a = at (is_empty n.children) refl
    where
      at : (b : Bool) → is_empty n.children ≡ b → All IsOwnId (ring_at w.store n.name)
      at true e = no_ring IsOwnId (cycle_at w.store n.name) (ap is_empty (sym (kids_of n a)) ∙ e)
      at false e =
          All_unmapped IsOwn (link_by w.links) (ring_at w.store n.name)
          (among_All IsOwn (cycles_by w.links w.store n.name)
          (λ l al.
          All_among IsOwn (all_cycle_links w.nodes (cycles_by w.links w.store)) part.state.cycles.links.at_defects l
          (flat_among (links_at (cycles_by w.links w.store)) w.nodes n l a
          (subst (λ (b : Bool). IsAmong l (if b then [] else cycles_by w.links w.store n.name)) (sym e) al))))

  over : (after : List Node) → ((n : Node) → IsAmong n after → IsAmong n w.nodes)
      → (opened_over w.nodes (cycles_by w.links w.store) after (map (link_by w.links) (match_links w.matching.matches))
      ≡ map (link_by w.links) (opened_numbers w.links w.store (match_links w.matching.matches) (map (λ n. n.name) after)))
      × All IsOwnId (opened_numbers w.links w.store (match_links w.matching.matches) (map (λ n. n.name) after))
  over [] within =
      (refl, All_unmapped IsOwn (link_by w.links) (match_links w.matching.matches) part.state.work.work.matching.links_are.at_defects)
  over (n ∷ ns) within =
      let later : List ℕ = opened_numbers w.links w.store (match_links w.matching.matches) (map (λ m. m.name) ns) in
      let rest = over ns (λ m a. within m (inr a)) in (
        ap (λ links. links ++ (if is_empty n.children then [] else pair_links links (child_sets w.nodes n) (cycles_by w.links w.store n.name))) rest.0
            ∙ (ap (λ l. map (link_by w.links) later ++ l) (pair_at n (within n (inl refl)) later rest.1)
            ∙ sym (map-append (link_by w.links) later (pair_numbers w.links w.store later n.name))),
        All-append IsOwnId later (pair_numbers w.links w.store later n.name) rest.1
            (All_pairs IsOwnId (place_of (is_reached w.links w.store later) (children_at w.store n.name)) (ring_at w.store n.name)
            (ring_own n (within n (inl refl)))),
      )

pub opened_by_number : OpenedByNumber
opened_by_number w part nested = (over w part nested w.nodes (λ n a. a)).0
