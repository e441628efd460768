-- The outer nodes after a blossom is split: those before, without the blossom and with its children.
use Rattle.std.proofs.Common.{ℕ, ◌≡◌, ◌≢◌, ◌⊎◌, inl, inr, true, false, List, [], All, Some, sym, ap, ◌∙◌, subst}
use Rattle.std.proofs.lemmas.Bool.{both_ways, cases_eq, false_from_ne_true}
use Rattle.fb_graph.specs.Parity.{is_in}
use Rattle.fb_graph.specs.Problem.{Problem}
use Rattle.fb_graph.specs.Dual.{Node, cover_of, is_empty, is_live, is_outer}
use Rattle.fb_graph.specs.Moves.{MaySplit, split_nodes}
use Rattle.fb_graph.specs.Nests.{AreMany, IsFormed, IsNest}
use Rattle.fb_graph.proofs.Among.{IsAmong, All_among, among_live, among_outer, cover_among, covered_by, live_among, outer_among, outer_or_not}
use Rattle.fb_graph.proofs.Places.{among_split, split_among}
use Rattle.fb_graph.proofs.Sets.{is_in-All}
use Rattle.fb_graph.proofs.SplitNests.{nest_split}
use Rattle.fb_graph.proofs.Forests.{one_parent}
use Rattle.fb_laws.proofs.CycleMoves.{child_inner}

module _ (p : Problem) (nodes : List Node) (name : ℕ) (children : List ℕ) (may : MaySplit nodes name) (nest : IsNest p nodes)
    (children_are : All (λ n. n.name ≡ name → n.children ≡ children) nodes) where
  -- the blossom
  record IsFound : Type 0 where
    node : Node
    among : IsAmong node nodes
    named : node.name ≡ name
    has : node.children ≡ children

  found : IsFound
  found =
      let (b, a, named) = live_among nodes name may.live in
      record {
        node = b;
        among = a;
        named = named;
        has = All_among (λ n. n.name ≡ name → n.children ≡ children) nodes children_are b a named;
      }

  pub children_many : AreMany children
  children_many = by (All_among IsFormed nodes nest.forest.formed found.node found.among)
    where
      by : IsFormed found.node → AreMany children
      by (inl childless) =
          absurd
          (both_ways (is_empty found.node.children)
          (All_among (λ x. x.name ≡ name → (is_empty x.children ≡ false) × (x.below ≡ []) × (x.top.value ≡ 0)) nodes may.bare
          found.node found.among found.named).0
          (ap is_empty childless.none))
      by (inr many) = subst AreMany found.has many

  -- a child was not outer
  pub child_was_inner : (c : ℕ) → is_in children c ≡ true → is_outer nodes c ≡ false
  child_was_inner c child =
      child_inner nodes found.node c found.among (ap (λ cs. is_in cs c) found.has ∙ child)

  child_other : (c : ℕ) → is_in children c ≡ true → c ≢ name
  child_other c child same =
      both_ways (is_outer nodes c) (child_was_inner c child) (ap (is_outer nodes) same ∙ may.outer)

  pub stays_live : (x : ℕ) → is_live nodes x ≡ true → x ≢ name → is_live (split_nodes name nodes) x ≡ true
  stays_live x live other =
      let (n, a, named) = live_among nodes x live in
      among_live (split_nodes name nodes) n x (split_among name nodes n a (λ e. other (sym named ∙ e))) named

  pub stays_outer : (x : ℕ) → is_outer nodes x ≡ true → is_outer (split_nodes name nodes) x ≡ true
  stays_outer x outer =
      among_outer (split_nodes name nodes) x (λ q a. outer_among nodes x outer q (among_split name nodes q a).0)

  pub child_live : (c : ℕ) → is_in children c ≡ true → is_live (split_nodes name nodes) c ≡ true
  child_live c child =
      stays_live c
      (is_in-All (λ x. is_live nodes x ≡ true) children
      (subst (All (λ x. is_live nodes x ≡ true)) found.has
      (All_among (λ n. All (λ x. is_live nodes x ≡ true) n.children) nodes nest.forest.live found.node found.among)) c child)
      (child_other c child)

  pub child_outer : (c : ℕ) → is_in children c ≡ true → is_outer (split_nodes name nodes) c ≡ true
  child_outer c child =
      among_outer (split_nodes name nodes) c
      (λ q a.
      false_from_ne_true (is_in q.children c)
      (λ h.
      let (among, other) = among_split name nodes q a in
      other
      (ap (λ (n : Node). n.name)
      (one_parent nodes nest.forest.joined q found.node among found.among c h (ap (λ cs. is_in cs c) found.has ∙ child))
      ∙ found.named)))

  -- an outer node was outer before, or is a child
  pub outer_back : (x : ℕ) → is_live (split_nodes name nodes) x ≡ true → is_outer (split_nodes name nodes) x ≡ true
      → ((is_live nodes x ≡ true) × (is_outer nodes x ≡ true) × (x ≢ name)) ⊎ (is_in children x ≡ true)
  outer_back x live outer =
      let (n, a, named) = live_among (split_nodes name nodes) x live in
      let (among, other) = among_split name nodes n a in
      by (among_live nodes n x among named) (λ e. other (named ∙ e)) (outer_or_not nodes x)
    where
      by : is_live nodes x ≡ true → x ≢ name
          → (is_outer nodes x ≡ true) ⊎ ((q : Node) × IsAmong q nodes × (is_in q.children x ≡ true))
          → ((is_live nodes x ≡ true) × (is_outer nodes x ≡ true) × (x ≢ name)) ⊎ (is_in children x ≡ true)
      by was other (inl o) = inl (was, o, other)
      by was other (inr (q, b, h)) = step (cases_eq q.name name)
        where
          step : (q.name ≡ name) ⊎ (q.name ≡ name → ⊥)
              → ((is_live nodes x ≡ true) × (is_outer nodes x ≡ true) × (x ≢ name)) ⊎ (is_in children x ≡ true)
          step (inl e) =
              inr
              (ap (λ cs. is_in cs x) (sym (All_among (λ n. n.name ≡ name → n.children ≡ children) nodes children_are q b e)) ∙ h)
          step (inr e) =
              absurd
              (both_ways (is_in q.children x) (outer_among (split_nodes name nodes) x outer q (split_among name nodes q b e)) h)

  -- what another node covers it covers still
  pub cover_stays : (v n : ℕ) → cover_of nodes v ≡ Some n → n ≢ name → cover_of (split_nodes name nodes) v ≡ Some n
  cover_stays v n cover other =
      let over = cover_among nodes v n cover in
      covered_by (split_nodes name nodes) v (nest_split p nodes name may nest).dual.apart over.node
      (split_among name nodes over.node over.among (λ e. other (sym over.named ∙ e)))
      (stays_outer over.node.name over.outer) over.holds
      ∙ ap Some over.named
