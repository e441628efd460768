-- A part's nodes under other names keep what they kept.
use Rattle.std.proofs.Common.{ℕ, ◌≡◌, ◌+◌, ◌%◌, inl, inr, true, List, [], ◌∷◌, ◌++◌, map, All, Option, Some, None, refl, sym, ap, ◌∙◌, subst, if◌then◌else◌}
use Rattle.std.specs.Option.{option_map}
use Rattle.std.proofs.lemmas.List.Elements.{All-map}
use Rattle.fb_graph.specs.Parity.{is_in}
use Rattle.fb_graph.specs.Problem.{Problem}
use Rattle.fb_graph.specs.Counts.{as_count}
use Rattle.fb_graph.specs.Covers.{HaveParity}
use Rattle.fb_graph.specs.Ends.{ends_in}
use Rattle.fb_graph.specs.Laws.{Link}
use Rattle.fb_graph.specs.Links.{IsTightLink}
use Rattle.fb_graph.specs.Dual.{Node, all_cuts, cover_of, height_of, is_empty, is_live, is_outer, leaves}
use Rattle.fb_graph.specs.Nests.{IsNest, child_sets}
use Rattle.fb_graph.specs.RenamedNodes.{AreRenamedApart, renamed_node, renamed_nodes}
use Rattle.fb_graph.proofs.Among.{IsAmong, All_among, among_All, among_live, cover_among}
use Rattle.fb_graph.proofs.RenamedNodes.{cover_same, cuts_renamed, distinct_renamed, leaves_renamed, nest_renamed, outer_same, same_renamed, same_sets, still_live, walks_renamed}
use Rattle.fb_laws.specs.Opening.{EndAtDefects}
use Rattle.fb_laws.specs.Parities.{HaveOneParity}
use Rattle.fb_laws.specs.PartStates.{PartState, IsRing, all_cycle_links, links_at}
use Rattle.fb_laws.specs.RenamedStates.{AreCyclesRenamed, LinksRenamed, LiveLinksRenamed, NestedWorkRenamed, StateRenamed, WorkRenamed}
use Rattle.fb_laws.specs.UnmatchedNames.{AreOuterNames}
use Rattle.fb_laws.specs.Works.{AreMatched, AreMatchedLinks, IsMatching}
use Rattle.fb_graph.proofs.OddLabels.{member_of_map}

pub links_renamed : LinksRenamed
links_renamed p nodes links f are = record {
  tight = subst (λ cuts. All (IsTightLink p cuts) links) (sym (cuts_renamed f nodes)) are.tight;
  own = are.own;
  at_defects = subst (λ l. EndAtDefects p l links) (sym (leaves_renamed f nodes)) are.at_defects;
}

module _ (p : Problem) (nodes : List Node) (links : List Link) (unmatched : List ℕ) (f : ℕ → ℕ) (once : AreRenamedApart f nodes)
    (live : (n : ℕ) → is_in unmatched n ≡ true → is_live nodes n ≡ true) (nest : IsNest p nodes) where
  -- a live node is unmatched under its new name where it was
  open_same : (n : ℕ) → is_live nodes n ≡ true → is_in (map f unmatched) (f n) ≡ is_in unmatched n
  open_same n here = same_renamed f unmatched n (λ y among e. once y n (live y among) here e)

  height : (v : ℕ) → height_of (all_cuts (renamed_nodes f nodes)) v ≡ height_of (all_cuts nodes) v
  height v = ap (λ cuts. height_of cuts v) (cuts_renamed f nodes)

  leaf : (d : ℕ) → is_in (leaves (renamed_nodes f nodes)) d ≡ true → is_in (leaves nodes) d ≡ true
  leaf d h = ap (λ l. is_in l d) (sym (leaves_renamed f nodes)) ∙ h

  -- the name that the node over a vertex had
  old_name : (v name : ℕ) → cover_of (renamed_nodes f nodes) v ≡ Some name
      → (n : ℕ) × (cover_of nodes v ≡ Some n) × (f n ≡ name) × (is_live nodes n ≡ true)
  old_name v name cover = step (cover_of nodes v) refl (sym (cover_same p nodes f once nest v) ∙ cover)
    where
      step : (o : Option ℕ) → cover_of nodes v ≡ o → option_map f o ≡ Some name
          → (n : ℕ) × (cover_of nodes v ≡ Some n) × (f n ≡ name) × (is_live nodes n ≡ true)
      step None e h = absurd (let clash : None ≡ Some name = h in cc)
      step (Some n) e h =
          let over = cover_among nodes v n e in
          (n, e, (let same : Some (f n) ≡ Some name = h in cc), among_live nodes over.node n over.among over.named)

  matched : AreMatched nodes links unmatched → AreMatched (renamed_nodes f nodes) links (map f unmatched)
  matched are =
      All-map (λ n. is_outer (renamed_nodes f nodes) n.name ≡ true → ends_in n.top.vertices links + as_count (is_in (map f unmatched) n.name) ≡ 1)
      (renamed_node f) nodes
      (among_All
      (λ n. is_outer (renamed_nodes f nodes) (f n.name) ≡ true → ends_in n.top.vertices links + as_count (is_in (map f unmatched) (f n.name)) ≡ 1) nodes
      (λ n a outer.
      let here : is_live nodes n.name ≡ true = among_live nodes n n.name a refl in
      ap (λ b. ends_in n.top.vertices links + as_count b) (open_same n.name here)
      ∙ All_among (λ m. is_outer nodes m.name ≡ true → ends_in m.top.vertices links + as_count (is_in unmatched m.name) ≡ 1) nodes are n a
      (sym (outer_same p nodes f once nest n.name here) ∙ outer)))

  one_parity : HaveOneParity nodes → HaveOneParity (renamed_nodes f nodes)
  one_parity one d e name leaf_d leaf_e cover_d cover_e =
      let (m, at_d, named_d, live_m) = old_name d name cover_d in
      let (n, at_e, named_e, live_n) = old_name e name cover_e in
      ap (λ h. h % 2) (height d)
      ∙ (one d e m (leaf d leaf_d) (leaf e leaf_e) at_d (at_e ∙ ap Some (once n m live_n live_m (named_e ∙ sym named_d)))
      ∙ ap (λ h. h % 2) (sym (height e)))

  even : HaveParity (is_in unmatched) nodes 0 → HaveParity (is_in (map f unmatched)) (renamed_nodes f nodes) 0
  even have d name leaf_d cover open_ =
      let (n, at_d, named, here) = old_name d name cover in
      ap (λ h. h % 2) (height d)
      ∙ have d n (leaf d leaf_d) at_d (sym (open_same n here) ∙ (ap (is_in (map f unmatched)) named ∙ open_))

  matching : IsMatching p nodes links unmatched → IsMatching p (renamed_nodes f nodes) links (map f unmatched)
  matching is = record {
    dual = (nest_renamed p nodes f once nest).dual;
    defects = λ v real. is.defects v real ∙ ap (λ l. is_in l v) (sym (leaves_renamed f nodes));
    links_are = links_renamed p nodes links f is.links_are;
    matched = matched is.matched;
    one_parity = one_parity is.one_parity;
  }

  outer : AreOuterNames nodes unmatched → AreOuterNames (renamed_nodes f nodes) (map f unmatched)
  outer are n among =
      let (m, within, named) = member_of_map f unmatched n among in
      ap (is_outer (renamed_nodes f nodes)) (sym named) ∙ (outer_same p nodes f once nest m (live m within) ∙ are m within)

pub work_renamed : WorkRenamed
work_renamed p nodes links unmatched f once live nest is = record {
  matching = matching p nodes links unmatched f once live nest is.matching;
  even = even p nodes links unmatched f once live nest is.even;
}

pub nested_work_renamed : NestedWorkRenamed
nested_work_renamed p nodes links unmatched f once live is = record {
  nest = nest_renamed p nodes f once is.nest;
  work = work_renamed p nodes links unmatched f once live is.nest is.work;
  walks = walks_renamed p nodes f is.walks;
  outer = outer p nodes links unmatched f once live is.nest is.outer;
}

-- the links of all cycles, node after node
cycle_links_renamed : (f : ℕ → ℕ) (cycles old : ℕ → List Link) (ns : List Node) → ((n : Node) → IsAmong n ns → cycles (f n.name) ≡ old n.name)
    → all_cycle_links (renamed_nodes f ns) cycles ≡ all_cycle_links ns old
cycle_links_renamed f cycles old [] same = refl
cycle_links_renamed f cycles old (n ∷ ns) same =
    ap (λ l. l ++ all_cycle_links (renamed_nodes f ns) cycles) (here n.children)
    ∙ ap (λ l. links_at old n ++ l) (cycle_links_renamed f cycles old ns (λ m a. same m (inr a)))
  where
    here : (cs : List ℕ) → (if is_empty (map f cs) then [] else cycles (f n.name)) ≡ (if is_empty cs then [] else old n.name)
    here [] = refl
    here (c ∷ cs) = same n (inl refl)

same_cycles : (s : PartState) (f : ℕ → ℕ) (cycles : ℕ → List Link) → AreCyclesRenamed f s cycles
    → all_cycle_links (renamed_nodes f s.nodes) cycles ≡ all_cycle_links s.nodes s.cycles
same_cycles s f cycles renamed =
    cycle_links_renamed f cycles s.cycles s.nodes (λ n a. renamed n.name (among_live s.nodes n n.name a refl))

pub live_links_renamed : LiveLinksRenamed
live_links_renamed s f cycles renamed = ap (λ l. s.matches ++ l) (same_cycles s f cycles renamed)

pub state_renamed : StateRenamed
state_renamed p s f cycles once renamed is = record {
  work = nested_work_renamed p s.nodes s.matches s.unmatched f once is.names.live is.work;
  cycles = record {
    rings = All-map (λ n. IsRing (child_sets (renamed_nodes f s.nodes) n) (cycles n.name)) (renamed_node f) s.nodes
        (among_All (λ n. IsRing (child_sets (renamed_nodes f s.nodes) (renamed_node f n)) (cycles (f n.name))) s.nodes
        (λ n a.
        subst (λ sets. IsRing sets (cycles (f n.name))) (sym (same_sets p s.nodes f once is.work.nest n a))
        (subst (IsRing (child_sets s.nodes n)) (sym (renamed n.name (among_live s.nodes n n.name a refl)))
        (All_among (λ m. IsRing (child_sets s.nodes m) (s.cycles m.name)) s.nodes is.cycles.rings n a))));
    links = subst (AreMatchedLinks p (renamed_nodes f s.nodes)) (sym (same_cycles s f cycles renamed))
        (links_renamed p s.nodes (all_cycle_links s.nodes s.cycles) f is.cycles.links);
  };
  names = record {
    live = λ n among.
        let (m, within, named) = member_of_map f s.unmatched n among in
        ap (is_live (renamed_nodes f s.nodes)) (sym named) ∙ still_live p s.nodes f once is.work.nest m (is.names.live m within);
    distinct = distinct_renamed f s.unmatched (λ x y a b e. once x y (is.names.live x a) (is.names.live y b) e) is.names.distinct;
  };
}
