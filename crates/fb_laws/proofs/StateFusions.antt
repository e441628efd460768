-- Half-solved parts beside one another, and with a seam made real.
use Rattle.std.proofs.Common.{ℕ, ◌≡◌, ◌⊎◌, inl, inr, Bool, true, false, List, [], ◌∷◌, ◌++◌, map, get_or, All, refl, sym, ap, ◌∙◌, subst, append-nil, if◌then◌else◌}
use Rattle.std.specs.List.Sorted.{IsPermutation}
use Rattle.std.specs.Option.{IsSome}
use Rattle.std.proofs.lemmas.Bool.{both_ways, false_from_ne_true, or_cases, or_left, or_right}
use Rattle.std.proofs.lemmas.List.Concat.{flat_map-append}
use Rattle.std.proofs.lemmas.List.Elements.{All-append, All-map, All-weaker}
use Rattle.fb_graph.specs.Parity.{is_in}
use Rattle.fb_graph.specs.Problem.{Problem, crosses}
use Rattle.fb_graph.specs.Certificate.{load_of}
use Rattle.fb_graph.specs.Limits.{IsWithinLimits}
use Rattle.fb_graph.specs.Laws.{Link, IsPart, ends_of}
use Rattle.fb_graph.specs.Dual.{Node, AreUnderOne, all_cuts, is_empty, is_live, leaves}
use Rattle.fb_graph.specs.NestUnions.{AreParts, HaveOwnNames}
use Rattle.fb_graph.specs.Nests.{child_sets}
use Rattle.fb_graph.specs.Singles.{Single, node_of, nodes_of}
use Rattle.fb_graph.proofs.Among.{IsAmong, All_among, among_All, among_live, top_left, top_right}
use Rattle.fb_graph.proofs.AppendedNodes.{cuts_merged, leaves_merged, live_left, live_right}
use Rattle.fb_graph.proofs.Members.{is_in-append}
use Rattle.fb_graph.proofs.NestParts.{names_live}
use Rattle.fb_graph.proofs.SingleStates.{names_are}
use Rattle.fb_graph.proofs.Unions.{distinct_append}
use Rattle.fb_graph.proofs.Walks.{walk_same}
use Rattle.fb_laws.specs.FusedStates.{AreFurther, without_seam}
use Rattle.fb_laws.specs.Merging.{Freed, IsSeam, freed_links, freed_names}
use Rattle.fb_laws.specs.NestedSearches.{IsNestedWork}
use Rattle.fb_laws.specs.Paths.{LeadsOut}
use Rattle.fb_laws.specs.PartStates.{IsRing, AreCycles, AreLiveNames, IsPartState, PartState, all_cycle_links, links_at}
use Rattle.fb_laws.specs.StateFusions.{StateMerged, StateSeamed, StateFused, merged_cycles, merged_state}
use Rattle.fb_laws.specs.Works.{AreMatchedLinks, IsMatching, IsSetOf}
use Rattle.fb_laws.proofs.CycleLinks.{cycles_under_one}
use Rattle.fb_laws.proofs.CycleMoves.{rings_over}
use Rattle.fb_laws.proofs.FreedNames.{IsFreedEnd, freed_live, freed_matched, freed_once}
use Rattle.fb_laws.proofs.FusedParts.{link_ends_away, parts_turned, same_weight, tight_fused, tight_fused_right}
use Rattle.fb_laws.proofs.HalvesKept.{matching_permuted}
use Rattle.fb_laws.proofs.MergedParts.{odd_in, part_of_link}
use Rattle.fb_laws.proofs.NestedFusions.{nested_merged, nested_seam}
use Rattle.fb_laws.proofs.SeamStates.{weigh_with}
use Rattle.fb_laws.proofs.SearchStates.{links_joined}
use Rattle.fb_graph.proofs.Floods.{is_in-both}
use Rattle.fb_graph.proofs.Forests.{child_live}

-- links of a part are links of a larger one where no cut more loads them and each of their ends is real only in the part
links_widened : (p q : Problem) (nodes others : List Node) (links : List Link) → IsPart p q
    → All (λ l. load_of (all_cuts others) (ends_of l) ≡ load_of (all_cuts nodes) (ends_of l)) links
    → All (λ l. (q.is_real l.from ≡ true → p.is_real l.from ≡ true) × (q.is_real l.to ≡ true → p.is_real l.to ≡ true)) links
    → ((v : ℕ) → is_in (leaves nodes) v ≡ true → is_in (leaves others) v ≡ true) → AreMatchedLinks p nodes links
    → AreMatchedLinks q others links
links_widened p q nodes others links part loads ends defects are = record {
  tight = λ i d less. record {
    walk =
        walk_same p q part.edges (get_or links i d).walk (get_or links i d).from (get_or links i d).to (are.tight i d less).walk;
    tight = same_weight p q (get_or links i d).walk part ∙ ((are.tight i d less).tight ∙ sym (loads i d less));
  };
  own = λ i d less. part_of_link p q (get_or links i d) part (are.own i d less);
  at_defects = λ i d less. (
    λ real. defects (get_or links i d).from ((are.at_defects i d less).0 ((ends i d less).0 real)),
    λ real. defects (get_or links i d).to ((are.at_defects i d less).1 ((ends i d less).1 real)),
  );
}

pub in_first : (nodes others : List Node) (v : ℕ) → is_in (leaves nodes) v ≡ true → is_in (leaves (nodes ++ others)) v ≡ true
in_first nodes others v leaf =
    ap (λ l. is_in l v) (leaves_merged nodes others)
    ∙ (is_in-append (leaves nodes) (leaves others) v ∙ or_left (is_in (leaves nodes) v) (is_in (leaves others) v) leaf)

in_second : (nodes others : List Node) (v : ℕ) → is_in (leaves others) v ≡ true → is_in (leaves (nodes ++ others)) v ≡ true
in_second nodes others v leaf =
    ap (λ l. is_in l v) (leaves_merged nodes others)
    ∙ (is_in-append (leaves nodes) (leaves others) v ∙ or_right (is_in (leaves nodes) v) (is_in (leaves others) v) leaf)

-- the links of nodes to which two tables give the same
pub links_same : (cycles more : ℕ → List Link) (nodes : List Node) → ((n : Node) → IsAmong n nodes → more n.name ≡ cycles n.name)
    → all_cycle_links nodes more ≡ all_cycle_links nodes cycles
links_same cycles more [] same = refl
links_same cycles more (n ∷ ns) same =
    ap (λ l. l ++ all_cycle_links ns more) (ap (λ l. if is_empty n.children then [] else l) (same n (inl refl)))
    ∙ ap (λ l. links_at cycles n ++ l) (links_same cycles more ns (λ m a. same m (inr a)))

pub rings_same : (nodes some : List Node) (cycles more : ℕ → List Link) → ((n : Node) → IsAmong n some → more n.name ≡ cycles n.name)
    → All (λ n. IsRing (child_sets nodes n) (cycles n.name)) some → All (λ n. IsRing (child_sets nodes n) (more n.name)) some
rings_same nodes some cycles more same rings =
    among_All (λ n. IsRing (child_sets nodes n) (more n.name)) some
    (λ n a.
    subst (IsRing (child_sets nodes n)) (sym (same n a))
    (All_among (λ m. IsRing (child_sets nodes m) (cycles m.name)) some rings n a))

module _ (left right whole : Problem) (s t : PartState) (parts : AreParts left right whole)
    (covered : (v : ℕ) → whole.is_real v ≡ true → (left.is_real v ≡ true) ⊎ (right.is_real v ≡ true)) (names : HaveOwnNames s.nodes t.nodes)
    (here : IsPartState left s) (there : IsPartState right t) where
  not_left : (n : ℕ) → is_live t.nodes n ≡ true → is_live s.nodes n ≡ false
  not_left n live =
      false_from_ne_true (is_live s.nodes n) (λ other. both_ways (is_live t.nodes n) (names n other) live)

  left_only : (v : ℕ) → right.is_real v ≡ false → whole.is_real v ≡ true → left.is_real v ≡ true
  left_only v away real = step (covered v real)
    where
      step : (left.is_real v ≡ true) ⊎ (right.is_real v ≡ true) → left.is_real v ≡ true
      step (inl h) = h
      step (inr h) = absurd (both_ways (right.is_real v) away h)

  right_only : (v : ℕ) → left.is_real v ≡ false → whole.is_real v ≡ true → right.is_real v ≡ true
  right_only v away real = step (covered v real)
    where
      step : (left.is_real v ≡ true) ⊎ (right.is_real v ≡ true) → right.is_real v ≡ true
      step (inl h) = absurd (both_ways (left.is_real v) away h)
      step (inr h) = h

  links_left_in : (links : List Link) → AreMatchedLinks left s.nodes links → AreMatchedLinks whole (s.nodes ++ t.nodes) links
  links_left_in links are =
      links_widened left whole s.nodes (s.nodes ++ t.nodes) links parts.left_part
      (λ i d less.
      ap (λ cuts. load_of cuts (ends_of (get_or links i d))) (cuts_merged s.nodes t.nodes)
      ∙ (sym
      (tight_fused left right whole (all_cuts s.nodes) (all_cuts t.nodes) (get_or links i d) parts
      (odd_in right t.nodes there.work.nest.dual there.work.work.matching.defects) (are.own i d less) (are.tight i d less).tight)
      ∙ (same_weight left whole (get_or links i d).walk parts.left_part ∙ (are.tight i d less).tight)))
      (λ i d less.
      let away = link_ends_away left right whole (get_or links i d) parts (are.own i d less) in
      (left_only (get_or links i d).from away.0, left_only (get_or links i d).to away.1))
      (in_first s.nodes t.nodes) are

  links_right_in : (links : List Link) → AreMatchedLinks right t.nodes links → AreMatchedLinks whole (s.nodes ++ t.nodes) links
  links_right_in links are =
      links_widened right whole t.nodes (s.nodes ++ t.nodes) links parts.right_part
      (λ i d less.
      ap (λ cuts. load_of cuts (ends_of (get_or links i d))) (cuts_merged s.nodes t.nodes)
      ∙ (sym
      (tight_fused_right left right whole (all_cuts s.nodes) (all_cuts t.nodes) (get_or links i d) parts
      (odd_in left s.nodes here.work.nest.dual here.work.work.matching.defects) (are.own i d less) (are.tight i d less).tight)
      ∙ (same_weight right whole (get_or links i d).walk parts.right_part ∙ (are.tight i d less).tight)))
      (λ i d less.
      let away =
      link_ends_away right left whole (get_or links i d) (parts_turned left right whole parts) (are.own i d less) in
      (right_only (get_or links i d).from away.0, right_only (get_or links i d).to away.1))
      (in_second s.nodes t.nodes) are

  same_left : (n : Node) → IsAmong n s.nodes → merged_cycles s t n.name ≡ s.cycles n.name
  same_left n a = ap (λ b. if b then s.cycles n.name else t.cycles n.name) (among_live s.nodes n n.name a refl)

  same_right : (n : Node) → IsAmong n t.nodes → merged_cycles s t n.name ≡ t.cycles n.name
  same_right n a =
      ap (λ b. if b then s.cycles n.name else t.cycles n.name) (not_left n.name (among_live t.nodes n n.name a refl))

  pub merged_cycles_are : AreCycles whole (s.nodes ++ t.nodes) (merged_cycles s t)
  merged_cycles_are = record {
    rings =
        All-append (λ n. IsRing (child_sets (s.nodes ++ t.nodes) n) (merged_cycles s t n.name)) s.nodes t.nodes
        (rings_over s.nodes (s.nodes ++ t.nodes) s.nodes (merged_cycles s t)
        (λ n a c child. top_left s.nodes t.nodes c (child_live s.nodes here.work.nest.forest n a c child))
        (rings_same s.nodes s.nodes s.cycles (merged_cycles s t) same_left here.cycles.rings))
        (rings_over t.nodes (s.nodes ++ t.nodes) t.nodes (merged_cycles s t)
        (λ n a c child. top_right s.nodes t.nodes c (not_left c (child_live t.nodes there.work.nest.forest n a c child)))
        (rings_same t.nodes t.nodes t.cycles (merged_cycles s t) same_right there.cycles.rings));
    links =
        subst (AreMatchedLinks whole (s.nodes ++ t.nodes)) (sym same)
        (links_joined whole (s.nodes ++ t.nodes) (all_cycle_links s.nodes s.cycles) (all_cycle_links t.nodes t.cycles)
        (links_left_in (all_cycle_links s.nodes s.cycles) here.cycles.links)
        (links_right_in (all_cycle_links t.nodes t.cycles) there.cycles.links));
  }
    where
      same : all_cycle_links (s.nodes ++ t.nodes) (merged_cycles s t) ≡ all_cycle_links s.nodes s.cycles ++ all_cycle_links t.nodes t.cycles
      same =
          flat_map-append (links_at (merged_cycles s t)) s.nodes t.nodes
          ∙ (ap (λ l. l ++ all_cycle_links t.nodes (merged_cycles s t)) (links_same s.cycles (merged_cycles s t) s.nodes same_left)
          ∙ ap (λ l. all_cycle_links s.nodes s.cycles ++ l) (links_same t.cycles (merged_cycles s t) t.nodes same_right))

  pub merged_names : AreLiveNames (s.nodes ++ t.nodes) (s.unmatched ++ t.unmatched)
  merged_names = record {
    live = λ n within. live n (is_in-both s.unmatched t.unmatched n within);
    distinct =
        distinct_append s.unmatched t.unmatched here.names.distinct there.names.distinct
        (λ n open_.
        false_from_ne_true (is_in t.unmatched n)
        (λ other. both_ways (is_live t.nodes n) (names n (here.names.live n open_)) (there.names.live n other)));
  }
    where
      live : (n : ℕ) → (is_in s.unmatched n ≡ true) ⊎ (is_in t.unmatched n ≡ true) → is_live (s.nodes ++ t.nodes) n ≡ true
      live n (inl h) = live_left s.nodes t.nodes n (here.names.live n h)
      live n (inr h) = live_right s.nodes t.nodes n (there.names.live n h)

pub state_merged : StateMerged
state_merged left right whole s t limits parts covered names here there = record {
  work =
      nested_merged left right whole s.nodes t.nodes s.matches t.matches s.unmatched t.unmatched limits parts covered names
      (λ n open_. not_left left right whole s t parts covered names here there n (there.names.live n open_))
      (λ n open_. names n (here.names.live n open_)) here.work there.work;
  cycles = merged_cycles_are left right whole s t parts covered names here there;
  names = merged_names left right whole s t parts covered names here there;
}

no_single_links : (cycles : ℕ → List Link) (singles : List Single) → all_cycle_links (nodes_of singles) cycles ≡ []
no_single_links cycles [] = refl
no_single_links cycles (d ∷ ds) = no_single_links cycles ds

module _ (p whole : Problem) (s : PartState) (rest : List Link) (freed : List Freed) (singles : List Single) (seam : ℕ → Bool)
    (is : IsSeam p whole s.nodes freed rest singles seam) (further : AreFurther whole s.nodes singles)
    (moved : IsPermutation s.matches (freed_links freed ++ rest)) (state : IsPartState p s) where
  matching : IsMatching p s.nodes (freed_links freed ++ rest) s.unmatched
  matching = matching_permuted p s.nodes s.matches (freed_links freed ++ rest) s.unmatched moved state.work.work.matching

  ends : All (IsFreedEnd s.nodes) freed
  ends =
      All-weaker (λ f. IsSetOf s.nodes f.name f.set × LeadsOut f.link f.set f.seam × (seam f.seam ≡ true)) (IsFreedEnd s.nodes)
      (λ f (set, leads, at). (set, leads)) freed is.freed_are

  links_in : (links : List Link) → All (λ l. AreUnderOne s.nodes l.from l.to) links → AreMatchedLinks p s.nodes links
      → AreMatchedLinks whole (s.nodes ++ nodes_of singles) links
  links_in links under are =
      links_widened p whole s.nodes (s.nodes ++ nodes_of singles) links is.part
      (λ i d less. weigh_with (λ set. crosses set (ends_of (get_or links i d))) s.nodes singles is.bare)
      (λ i d less.
      let (name, from, to) = under i d less in (
        λ real. state.work.nest.dual.real (get_or links i d).from (subst IsSome (sym from) refl),
        λ real. state.work.nest.dual.real (get_or links i d).to (subst IsSome (sym to) refl),
      ))
      (in_first s.nodes (nodes_of singles)) are

  pub seamed_cycles : AreCycles whole (s.nodes ++ nodes_of singles) s.cycles
  seamed_cycles = record {
    rings =
        All-append (λ n. IsRing (child_sets (s.nodes ++ nodes_of singles) n) (s.cycles n.name)) s.nodes (nodes_of singles)
        (rings_over s.nodes (s.nodes ++ nodes_of singles) s.nodes s.cycles
        (λ n a c child. top_left s.nodes (nodes_of singles) c (child_live s.nodes state.work.nest.forest n a c child))
        state.cycles.rings)
        (All-map (λ n. IsRing (child_sets (s.nodes ++ nodes_of singles) n) (s.cycles n.name)) node_of singles (λ i d less. tt));
    links =
        subst (AreMatchedLinks whole (s.nodes ++ nodes_of singles)) (sym same)
        (links_in (all_cycle_links s.nodes s.cycles) (cycles_under_one p s.nodes s.cycles state.work.nest state.cycles.rings)
        state.cycles.links);
  }
    where
      same : all_cycle_links (s.nodes ++ nodes_of singles) s.cycles ≡ all_cycle_links s.nodes s.cycles
      same =
          flat_map-append (links_at s.cycles) s.nodes (nodes_of singles)
          ∙ (ap (λ l. all_cycle_links s.nodes s.cycles ++ l) (no_single_links s.cycles singles)
          ∙ append-nil (all_cycle_links s.nodes s.cycles))

  single_live : (n : ℕ) → is_in (map (λ d. d.name) singles) n ≡ true → is_live (nodes_of singles) n ≡ true
  single_live n within = sym (names_live (nodes_of singles) n) ∙ (ap (λ l. is_in l n) (names_are singles) ∙ within)

  not_single : (n : ℕ) → is_live s.nodes n ≡ true → is_in (map (λ d. d.name) singles) n ≡ false
  not_single n live =
      false_from_ne_true (is_in (map (λ d. d.name) singles) n)
      (λ within. both_ways (is_live (nodes_of singles) n) (further.own n live) (single_live n within))

  live_freed : (n : ℕ) → is_in (freed_names freed) n ≡ true → is_live s.nodes n ≡ true
  live_freed = freed_live p s.nodes freed rest s.unmatched matching ends

  pub seamed_names : AreLiveNames (s.nodes ++ nodes_of singles) (s.unmatched ++ (freed_names freed ++ map (λ d. d.name) singles))
  seamed_names = record {
    live = λ n within. live n (is_in-both s.unmatched (freed_names freed ++ map (λ d. d.name) singles) n within);
    distinct =
        distinct_append s.unmatched (freed_names freed ++ map (λ d. d.name) singles) state.names.distinct
        (distinct_append (freed_names freed) (map (λ d. d.name) singles)
        (freed_once p s.nodes freed rest s.unmatched matching ends) further.names
        (λ n within. not_single n (live_freed n within)))
        (λ n open_.
        false_from_ne_true (is_in (freed_names freed ++ map (λ d. d.name) singles) n)
        (λ within. apart n open_ (is_in-both (freed_names freed) (map (λ d. d.name) singles) n within)));
  }
    where
      later : (n : ℕ) → (is_in (freed_names freed) n ≡ true) ⊎ (is_in (map (λ d. d.name) singles) n ≡ true)
          → is_live (s.nodes ++ nodes_of singles) n ≡ true
      later n (inl h) = live_left s.nodes (nodes_of singles) n (live_freed n h)
      later n (inr h) = live_right s.nodes (nodes_of singles) n (single_live n h)

      live : (n : ℕ) → (is_in s.unmatched n ≡ true) ⊎ (is_in (freed_names freed ++ map (λ d. d.name) singles) n ≡ true)
          → is_live (s.nodes ++ nodes_of singles) n ≡ true
      live n (inl h) = live_left s.nodes (nodes_of singles) n (state.names.live n h)
      live n (inr h) = later n (is_in-both (freed_names freed) (map (λ d. d.name) singles) n h)

      apart : (n : ℕ) → is_in s.unmatched n ≡ true
          → (is_in (freed_names freed) n ≡ true) ⊎ (is_in (map (λ d. d.name) singles) n ≡ true) → ⊥
      apart n open_ (inl h) = both_ways (is_in s.unmatched n) (freed_matched p s.nodes freed rest s.unmatched matching ends n h) open_
      apart n open_ (inr h) = both_ways (is_in (map (λ d. d.name) singles) n) (not_single n (state.names.live n open_)) h

  pub permuted_work : IsNestedWork p s.nodes (freed_links freed ++ rest) s.unmatched
  permuted_work = record {
    nest = state.work.nest;
    walks = state.work.walks;
    outer = state.work.outer;
    work = record { matching = matching; even = state.work.work.even };
  }

pub state_seamed : StateSeamed
state_seamed p whole s rest freed singles seam even limits is further moved state = record {
  work =
      nested_seam p whole s.nodes freed rest singles seam s.unmatched even limits is further.names further.vertices further.real
      further.own (permuted_work p whole s rest freed singles seam is further moved state);
  cycles = seamed_cycles p whole s rest freed singles seam is further moved state;
  names = seamed_names p whole s rest freed singles seam is further moved state;
}

pub state_fused : StateFused
state_fused left right whole s t rest freed singles seam limits parts names is further moved here there =
    state_seamed (without_seam left right whole) whole (merged_state s t) rest freed singles seam
    (λ i d less. (limits.each_edge i d less).even) limits is further moved
    (state_merged left right (without_seam left right whole) s t within inner
    (λ v h. or_cases (left.is_real v) (right.is_real v) h) names here there)
  where
    real : (v : ℕ) → (left.is_real v ≡ true) ⊎ (right.is_real v ≡ true) → whole.is_real v ≡ true
    real v (inl h) = parts.left_part.real v h
    real v (inr h) = parts.right_part.real v h

    within : IsWithinLimits (without_seam left right whole)
    within = record {
      vertices = limits.vertices;
      edges = limits.edges;
      each_edge = limits.each_edge;
      real_below = λ v h. limits.real_below v (real v (or_cases (left.is_real v) (right.is_real v) h));
    }

    inner : AreParts left right (without_seam left right whole)
    inner = record {
      left_part = record {
        edges = parts.left_part.edges;
        real = λ v h. or_left (left.is_real v) (right.is_real v) h;
        defects = parts.left_part.defects;
      };
      right_part = record {
        edges = parts.right_part.edges;
        real = λ v h. or_right (left.is_real v) (right.is_real v) h;
        defects = parts.right_part.defects;
      };
      separated = parts.separated;
    }
