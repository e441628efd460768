-- The defects that a node holds lie in its set.
use Rattle.std.proofs.Common.{ℕ, ◌≡◌, ◌&&◌, ◌⊎◌, inl, inr, true, false, List, [], ◌∷◌, ◌++◌, All, Some, refl, sym, ap, ◌∙◌, subst, if◌then◌else◌}
use Rattle.std.specs.List.{concat, list_any}
use Rattle.std.proofs.lemmas.Bool.{and_parts, both_ways, cases_Bool, and_from}
use Rattle.std.proofs.lemmas.List.{append-nil, append_assoc}
use Rattle.fb_graph.specs.Parity.{is_in}
use Rattle.fb_graph.specs.Problem.{Problem}
use Rattle.fb_graph.specs.Dual.{Node, AreGrown, defects_of, is_empty, is_live, is_outer, layers_of, leaves, top_at}
use Rattle.fb_graph.specs.Nests.{AreJoinedLater, IsFilled, IsNest, child_sets, first_set}
use Rattle.fb_graph.proofs.Among.{IsAmong, All_among, among_All, among_any, among_either, among_live, among_right, any_among, cover_among, covered_by, from_concat, in_concat, live_among, top_among, among_is_in}
use Rattle.fb_graph.proofs.Forests.{defects_first, first_within}
use Rattle.fb_graph.proofs.Sets.{is_in-All}
use Rattle.fb_laws.specs.HeldDefects.{AreHeld, CoveredIsHeld, HeldInSets, HeldIsCovered}
use Rattle.fb_laws.proofs.OpenedParts.{flat_among, in_among}
use Rattle.fb_laws.proofs.SolvedNests.{defects_in_first}
use Rattle.fb_graph.proofs.Booleans.{same_bool}

-- no node joins itself or a later one
joined_after : (before : List Node) (q : Node) (after : List Node) → AreJoinedLater (before ++ q ∷ after)
    → All (λ m. is_in q.children m.name ≡ false) (q ∷ after)
joined_after [] q after joined = joined.0
joined_after (z ∷ zs) q after joined = joined_after zs q after joined.2

module _ (p : Problem) (nodes : List Node) (held : ℕ → List ℕ) (nest : IsNest p nodes) (are : AreHeld nodes held) where
  abbrev Holds : Node → Type 0
  Holds n = (d : ℕ) → is_in (held n.name) d ≡ (is_in (leaves nodes) d && is_in n.top.vertices d)

  -- a defect in the node's set lies in its first layer
  first_of : (q : Node) → IsAmong q nodes → (d : ℕ) → (is_in (leaves nodes) d && is_in q.top.vertices d) ≡ true
      → (is_in (leaves nodes) d ≡ true) × (is_in (first_set q) d ≡ true)
  first_of q a d holds =
      let parts = and_parts (is_in (leaves nodes) d) (is_in q.top.vertices d) holds in (
        parts.0,
        All_among
            (λ n. (c : ℕ) → is_in (leaves nodes) c ≡ true → is_in n.top.vertices c ≡ true → is_in (first_set n) c ≡ true)
            nodes (defects_in_first p nodes nest) q a d parts.0 parts.1,
      )

  to_top : (q : Node) → IsAmong q nodes → (d : ℕ) → is_in (first_set q) d ≡ true → is_in q.top.vertices d ≡ true
  to_top q a d within = first_within q d (All_among (λ x. AreGrown (layers_of x)) nodes nest.dual.grown q a) within

  childless : (q : Node) → IsAmong q nodes → is_empty q.children ≡ true → Holds q
  childless q a none d =
      All_among (λ n. is_empty n.children ≡ true → (c : ℕ) → is_in (held n.name) c ≡ is_in (defects_of n) c) nodes are.own q a
      none d
      ∙ same_bool (is_in (defects_of q) d) (is_in (leaves nodes) d && is_in q.top.vertices d)
      (λ mine.
      and_from (is_in (leaves nodes) d) (is_in q.top.vertices d)
      (among_is_in (leaves nodes) d (flat_among defects_of nodes q d a (in_among (defects_of q) d mine)))
      (to_top q a d (defects_first q d mine)))
      (λ holds. ap (λ b. is_in (if b then first_set q else []) d) none ∙ (first_of q a d holds).1)

  joined : (q : Node) → IsAmong q nodes → is_empty q.children ≡ false
      → ((c : ℕ) → is_in q.children c ≡ true → (d : ℕ)
      → is_in (held c) d ≡ (is_in (leaves nodes) d && is_in (top_at nodes c) d)) → Holds q
  joined q a some child d =
      All_among
      (λ n. is_empty n.children ≡ false → (e : ℕ) → is_in (held n.name) e ≡ list_any (λ c. is_in (held c) e) n.children)
      nodes are.joined q a some d
      ∙ same_bool (list_any (λ c. is_in (held c) d) q.children) (is_in (leaves nodes) d && is_in q.top.vertices d) up down
    where
      filled : is_in (first_set q) d ≡ is_in (concat (child_sets nodes q)) d
      filled = All_among (IsFilled nodes) nodes nest.forest.filled q a some d

      up : list_any (λ c. is_in (held c) d) q.children ≡ true → (is_in (leaves nodes) d && is_in q.top.vertices d) ≡ true
      up holds =
          let (c, among, mine) = any_among (λ x. is_in (held x) d) q.children holds in
          let is = among_is_in q.children c among in
          let parts = and_parts (is_in (leaves nodes) d) (is_in (top_at nodes c) d) (sym (child c is d) ∙ mine) in
          and_from (is_in (leaves nodes) d) (is_in q.top.vertices d) parts.0
          (to_top q a d (filled ∙ in_concat (top_at nodes) q.children c d is parts.1))

      down : (is_in (leaves nodes) d && is_in q.top.vertices d) ≡ true → list_any (λ c. is_in (held c) d) q.children ≡ true
      down holds =
          let (leaf, first) = first_of q a d holds in
          let (c, is, within) = from_concat (top_at nodes) q.children d (sym filled ∙ first) in
          among_any (λ x. is_in (held x) d) q.children c (in_among q.children c is)
          (child c is d ∙ and_from (is_in (leaves nodes) d) (is_in (top_at nodes c) d) leaf within)

  next : (before : List Node) (q : Node) (after : List Node) → nodes ≡ before ++ q ∷ after
      → ((n : Node) → IsAmong n before → Holds n) → Holds q
  next before q after is earlier = step (cases_Bool (is_empty q.children))
    where
      here : IsAmong q nodes
      here = subst (IsAmong q) (sym is) (among_right before (q ∷ after) q (inl refl))

      in_child : (c : ℕ) → is_in q.children c ≡ true → (m : Node) → IsAmong m nodes → m.name ≡ c
          → IsAmong m before ⊎ IsAmong m (q ∷ after) → (d : ℕ)
          → is_in (held c) d ≡ (is_in (leaves nodes) d && is_in (top_at nodes c) d)
      in_child c mine m a named (inl b) d =
          ap (λ x. is_in (held x) d) (sym named)
          ∙ (earlier m b d
          ∙ ap (λ s. is_in (leaves nodes) d && is_in s d)
          (sym (top_among nodes nest.dual.names m a) ∙ ap (top_at nodes) named))
      in_child c mine m a named (inr b) d =
          absurd
          (both_ways (is_in q.children m.name)
          (All_among (λ x. is_in q.children x.name ≡ false) (q ∷ after)
          (joined_after before q after (subst AreJoinedLater is nest.forest.joined)) m b)
          (ap (is_in q.children) named ∙ mine))

      child : (c : ℕ) → is_in q.children c ≡ true → (d : ℕ)
          → is_in (held c) d ≡ (is_in (leaves nodes) d && is_in (top_at nodes c) d)
      child c mine =
          let (m, a, named) =
          live_among nodes c
          (is_in-All (λ x. is_live nodes x ≡ true) q.children
          (All_among (λ n. All (λ x. is_live nodes x ≡ true) n.children) nodes nest.forest.live q here) c mine) in
          in_child c mine m a named (among_either before (q ∷ after) m (subst (IsAmong m) is a))

      step : (is_empty q.children ≡ true) ⊎ (is_empty q.children ≡ false) → Holds q
      step (inl none) = childless q here none
      step (inr some) = joined q here some child

  all_hold : (before after : List Node) → nodes ≡ before ++ after → ((n : Node) → IsAmong n before → Holds n)
      → (n : Node) → IsAmong n nodes → Holds n
  all_hold before [] is earlier n a = earlier n (subst (IsAmong n) (is ∙ append-nil before) a)
  all_hold before (q ∷ after) is earlier m h =
      all_hold (before ++ q ∷ []) after (is ∙ sym (append_assoc before (q ∷ []) after))
      (λ n a. by n (among_either before (q ∷ []) n a)) m h
    where
      by : (n : Node) → IsAmong n before ⊎ IsAmong n (q ∷ []) → Holds n
      by n (inl b) = earlier n b
      by n (inr (inl e)) = subst Holds e (next before q after is earlier)
      by n (inr (inr b)) = absurd b

pub held_in_sets : HeldInSets
held_in_sets p nodes held nest are =
    among_All (λ n. (d : ℕ) → is_in (held n.name) d ≡ (is_in (leaves nodes) d && is_in n.top.vertices d)) nodes
    (all_hold p nodes held nest are [] nodes refl (λ n a. absurd a))

pub held_is_covered : HeldIsCovered
held_is_covered p nodes held name d nest are live outer mine =
    let (m, a, named) = live_among nodes name live in
    let holds : (is_in (leaves nodes) d && is_in m.top.vertices d) ≡ true =
    sym (all_hold p nodes held nest are [] nodes refl (λ n b. absurd b) m a d)
    ∙ (ap (λ x. is_in (held x) d) named ∙ mine) in
    covered_by nodes d nest.dual.apart m a (ap (is_outer nodes) named ∙ outer)
    (and_parts (is_in (leaves nodes) d) (is_in m.top.vertices d) holds).1
    ∙ ap Some named

pub covered_is_held : CoveredIsHeld
covered_is_held p nodes held name d nest are leaf cover =
    let over = cover_among nodes d name cover in (
      among_live nodes over.node name over.among over.named,
      ap (is_outer nodes) (sym over.named) ∙ over.outer,
      ap (λ x. is_in (held x) d) (sym over.named)
          ∙ (all_hold p nodes held nest are [] nodes refl (λ n b. absurd b) over.node over.among d
          ∙ and_from (is_in (leaves nodes) d) (is_in over.node.top.vertices d) leaf over.holds),
    )
