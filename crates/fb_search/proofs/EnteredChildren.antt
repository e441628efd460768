-- The child of a blossom at which a tight link to the blossom ends, found by the defects that the nodes hold.
use Rattle.std.proofs.Common.{ℕ, ◌≡◌, ◌≢◌, ◌==◌, ◌&&◌, ◌⊎◌, inl, inr, true, false, List, [], ◌∷◌, map, flat_map, All, Option, Some, refl, sym, ap, ◌∙◌}
use Rattle.std.specs.List.{list_any}
use Rattle.std.proofs.lemmas.Bool.{and_parts, both_ways, eq-eqb, or_left}
use Rattle.std.proofs.lemmas.List.Elements.{All-head}
use Rattle.std.proofs.lemmas.Option.{same_Some}
use Rattle.fb_graph.specs.Parity.{is_in}
use Rattle.fb_graph.specs.Problem.{Problem}
use Rattle.fb_graph.specs.Laws.{Link}
use Rattle.fb_graph.specs.Dual.{Node, cover_of, defects_of, is_empty, is_live, leaves, top_at}
use Rattle.fb_graph.specs.Nests.{IsNest}
use Rattle.fb_graph.proofs.Among.{IsAmong, All_among, among_All, cover_among, live_among, top_among}
use Rattle.fb_graph.proofs.NestParts.{top_is_odd}
use Rattle.fb_graph.proofs.Sets.{is_in-All}
use Rattle.fb_links.specs.declared.cycle.CycleStep.{CycleStep}
use Rattle.fb_blossoms.specs.Nodes.{IsChildHolding, IsNested, cycle_at, defects_at, is_on}
use Rattle.fb_blossoms.specs.Nodes as blossoms
use Rattle.fb_blossoms.proofs.Rounds.{cycle_kept}
use Rattle.fb_laws.specs.HeldDefects.{AreHeld}
use Rattle.fb_laws.specs.Trees.{Connects}
use Rattle.fb_laws.specs.Works.{AreMatchedLinks}
use Rattle.fb_laws.specs.Opening.{EndsAtDefects}
use Rattle.fb_laws.proofs.HeldDefects.{covered_is_held, held_in_sets}
use Rattle.fb_laws.proofs.StateRings.{child_at_end}
use Rattle.fb_half.specs.Parts.{AreAgreed, PartValue, problem_in}
use Rattle.fb_half.specs.Translations.{children_at, link_by}
use Rattle.fb_search.specs.InternalOpenings.{EndsAtChild, MayEnter}
use Rattle.fb_search.proofs.Agreed.{on_is_in}
use Rattle.fb_half.proofs.AgreedNodes.{along_any}

module _ (nodes : List Node) (store : List (Option blossoms.Node)) (agreed : AreAgreed nodes store)
    (nested : IsNested store) where
  blossom_held : (name d : ℕ) (ss : List CycleStep) → cycle_at store name ≡ ss → is_empty (map (λ s. s.node) ss) ≡ false
      → is_in (defects_at store name) d ≡ list_any (λ c. is_in (defects_at store c) d) (map (λ s. s.node) ss)
  blossom_held name d [] e some = absurd (both_ways true some refl)
  blossom_held name d (s ∷ ss) e some =
      let on : is_on (cycle_at store name) s.node ≡ true =
      ap (λ l. is_on l s.node) e ∙ or_left (s.node == s.node) (is_on ss s.node) (eq-eqb s.node s.node refl) in
      ap (λ l. is_in l d) ((cycle_kept store nested name s.node on).1 ∙ ap (flat_map (λ t. defects_at store t.node)) e)
      ∙ along_any (defects_at store) (s ∷ ss) d

  -- the store holds the defects as the dual state does
  pub are_held : AreHeld nodes (defects_at store)
  are_held = record {
    own = among_All
        (λ n. is_empty n.children ≡ true → (d : ℕ) → is_in (defects_at store n.name) d ≡ is_in (defects_of n) d) nodes
        (λ n a e d. ap (λ l. is_in l d)
        (sym (All_among (λ m. is_empty m.children ≡ true → defects_of m ≡ defects_at store m.name) nodes
        agreed.leaves n a e)));
    joined = among_All
        (λ n. is_empty n.children ≡ false → (d : ℕ)
        → is_in (defects_at store n.name) d ≡ list_any (λ c. is_in (defects_at store c) d) n.children) nodes
        (λ n a e d.
        let kids : n.children ≡ children_at store n.name =
        All_among (λ m. m.children ≡ children_at store m.name) nodes agreed.children n a in
        blossom_held n.name d (cycle_at store n.name) refl (ap is_empty (sym kids) ∙ e)
        ∙ ap (list_any (λ c. is_in (defects_at store c) d)) (sym kids));
  }

-- a tight link ends at a defect where it ends under a node
pub end_is_leaf : (p : Problem) (nodes : List Node) (l : Link) (d name : ℕ) → IsNest p nodes → AreMatchedLinks p nodes (l ∷ [])
    → (d ≡ l.from) ⊎ (d ≡ l.to) → cover_of nodes d ≡ Some name → is_in (leaves nodes) d ≡ true
end_is_leaf p nodes l d name nest are ends cover = by ends
  where
    real : p.is_real d ≡ true
    real =
        let over = cover_among nodes d name cover in
        is_in-All (λ v. p.is_real v ≡ true) over.node.top.vertices
        (top_is_odd p nodes nest over.node over.among).real d over.holds

    at : EndsAtDefects p (leaves nodes) l
    at =
        All-head
        (EndsAtDefects p (leaves nodes)) l [] are.at_defects

    by : (d ≡ l.from) ⊎ (d ≡ l.to) → is_in (leaves nodes) d ≡ true
    by (inl e) = ap (is_in (leaves nodes)) e ∙ at.0 (ap p.is_real (sym e) ∙ real)
    by (inr e) = ap (is_in (leaves nodes)) e ∙ at.1 (ap p.is_real (sym e) ∙ real)

-- one end of the link, and the node over it
pub record IsEndUnder (nodes : List Node) (l : Link) (name d : ℕ) : Type 0 where
  pub cover : cover_of nodes d ≡ Some name
  pub end : (d ≡ l.from) ⊎ (d ≡ l.to)

-- which end it is, by the node over the first one
pub end_found : (nodes : List Node) (l : Link) (other name d : ℕ) → Connects nodes l other name → other ≢ name
    → (cover_of nodes l.from ≡ Some name → d ≡ l.from) → (cover_of nodes l.from ≢ Some name → d ≡ l.to)
    → IsEndUnder nodes l name d
end_found nodes l other name d (inl (first, second)) apart is_first is_second =
    let is : d ≡ l.to = is_second (λ e. apart (same_Some _ _ (sym first ∙ e))) in
    record { cover = ap (cover_of nodes) is ∙ second; end = inr is }
end_found nodes l other name d (inr (first, second)) apart is_first is_second =
    let is : d ≡ l.from = is_first second in
    record { cover = ap (cover_of nodes) is ∙ second; end = inl is }

module _ (w : PartValue) (name other link d : ℕ) (may : MayEnter w name other link) (nested : IsNested w.store)
    (under : IsEndUnder w.nodes (link_by w.links link) name d) where
  -- the blossom holds the end
  pub end_held : is_in (defects_at w.store name) d ≡ true
  end_held =
      (covered_is_held (problem_in w) w.nodes (defects_at w.store) name d may.nest
      (are_held w.nodes w.store may.agreed nested)
      (end_is_leaf (problem_in w) w.nodes (link_by w.links link) d name may.nest may.tight under.end under.cover)
      under.cover).2

  -- and at the child that holds it the link ends
  pub child_entered : (child : ℕ) → IsChildHolding w.store name d child → EndsAtChild w name other link child
  child_entered child is = record {
    on_cycle = is.child_of;
    connects = child_at_end (problem_in w) w.nodes name other child d (link_by w.links link) may.nest may.may_split may.tight
        may.apart may.connects children within under.end;
  }
    where
      mine : (n : Node) → IsAmong n w.nodes → n.name ≡ name → is_in n.children child ≡ true
      mine n a named =
          ap (λ cs. is_in cs child) (All_among (λ m. m.children ≡ children_at w.store m.name) w.nodes may.agreed.children n a)
          ∙ (ap (λ x. is_in (children_at w.store x) child) named
          ∙ (sym (on_is_in (cycle_at w.store name) child) ∙ is.child_of))

      children : All (λ n. n.name ≡ name → is_in n.children child ≡ true) w.nodes
      children = among_All (λ n. n.name ≡ name → is_in n.children child ≡ true) w.nodes mine

      within : is_in (top_at w.nodes child) d ≡ true
      within =
          let (n, a, named) = live_among w.nodes name may.may_split.live in
          let (m, b, is_child) = live_among w.nodes child
          (is_in-All (λ c. is_live w.nodes c ≡ true) n.children
          (All_among (λ n. All (λ c. is_live w.nodes c ≡ true) n.children) w.nodes may.nest.forest.live n a) child
          (mine n a named)) in
          let holds : (is_in (leaves w.nodes) d && is_in m.top.vertices d) ≡ true =
          sym (All_among
          (λ n. (e : ℕ) → is_in (defects_at w.store n.name) e ≡ (is_in (leaves w.nodes) e && is_in n.top.vertices e))
          w.nodes (held_in_sets (problem_in w) w.nodes (defects_at w.store) may.nest
          (are_held w.nodes w.store may.agreed nested)) m b d)
          ∙ (ap (λ x. is_in (defects_at w.store x) d) is_child ∙ is.holds) in
          ap (λ s. is_in s d) (ap (top_at w.nodes) (sym is_child) ∙ top_among w.nodes may.nest.dual.names m b)
          ∙ (and_parts (is_in (leaves w.nodes) d) (is_in m.top.vertices d) holds).1
