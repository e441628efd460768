-- A state with a blossom, and the one without it.
use Rattle.std.proofs.Common.{ℕ, ◌≡◌, ◌==◌, inl, inr, not, true, false, cond, List, [], ◌∷◌, ◌++◌, map, All, Some, refl, sym, ap, ◌∙◌, subst}
use Rattle.std.proofs.lemmas.Bool.{both_ways, false_from_ne_true, eq-eqb, ne_eqb, or_parts}
use Rattle.std.specs.Option.{IsSome}
use Rattle.std.proofs.lemmas.List.Elements.{All-head}
use Rattle.fb_graph.specs.Parity.{is_in}
use Rattle.fb_graph.specs.Problem.{Problem, crosses}
use Rattle.fb_graph.specs.Certificate.{AreDistinct}
use Rattle.fb_graph.specs.Dual.{Node, all_cuts, first_vertices, is_empty, is_live, leaves, cover_of, top_at}
use Rattle.fb_graph.proofs.Sets.{is_in-All}
use Rattle.fb_graph.specs.Nests.{IsNest, IsFilled}
use Rattle.fb_graph.specs.Moves.{split_nodes, MaySplit}
use Rattle.fb_laws.specs.Trees.{Connects}
use Rattle.fb_laws.specs.SearchOpenings.{IsSplit}
use Rattle.fb_laws.specs.OpenedCycles.{SplitOff, EndUnderChild}
use Rattle.fb_laws.specs.Opening.{EndsAtDefects}
use Rattle.fb_graph.proofs.Among.{IsAmong, IsOver, All_among, among_right, live_among, outer_among, among_outer, top_among, covered_by, cover_among, from_concat, same_among, other_name}
use Rattle.fb_graph.proofs.InsertedCuts.{same_weigh}
use Rattle.fb_graph.proofs.Places.{among_split, split_among}
use Rattle.fb_graph.proofs.SplitNests.{nest_split, insertion, same_leaves, height, bare, at}
use Rattle.fb_graph.proofs.Forests.{one_parent}

split_none : (name : ℕ) (ns : List Node) → is_in (map (λ n. n.name) ns) name ≡ false → split_nodes name ns ≡ ns
split_none name [] fresh = refl
split_none name (n ∷ ns) fresh =
    let parts = or_parts (n.name == name) (is_in (map (λ m. m.name) ns) name) fresh in
    ap (λ b. cond (not b) (n ∷ split_nodes name ns) (split_nodes name ns)) parts.0 ∙ ap (λ l. n ∷ l) (split_none name ns parts.1)

pub split_at : (before after : List Node) (b : Node) → AreDistinct (map (λ n. n.name) (before ++ b ∷ after))
    → split_nodes b.name (before ++ b ∷ after) ≡ before ++ after
split_at [] after b distinct =
    ap (λ t. cond (not t) (b ∷ split_nodes b.name after) (split_nodes b.name after)) (eq-eqb b.name b.name refl) ∙ split_none b.name after distinct.0
split_at (n ∷ ns) after b distinct =
    ap (λ t. cond (not t) (n ∷ split_nodes b.name (ns ++ b ∷ after)) (split_nodes b.name (ns ++ b ∷ after)))
    (ne_eqb n.name b.name (other_name n (ns ++ b ∷ after) distinct b (among_right ns (b ∷ after) b (inl refl))))
    ∙ ap (λ l. n ∷ l) (split_at ns after b distinct.1)

module _ (p : Problem) (nodes : List Node) (b : Node) (children : List ℕ) (among : IsAmong b nodes) (may : MaySplit nodes b.name) (nest : IsNest p nodes)
    (same : (n : ℕ) → is_in children n ≡ is_in b.children n) where
  after : IsNest p (split_nodes b.name nodes)
  after = nest_split p nodes b.name may nest

  -- what covers a defect elsewhere covers it still
  outside : (d n : ℕ) → cover_of nodes d ≡ Some n → (n ≡ b.name → ⊥) → (cover_of (split_nodes b.name nodes) d ≡ Some n) × (is_in children n ≡ false)
  outside d n cover other =
      let over = cover_among nodes d n cover in (
        covered_by (split_nodes b.name nodes) d after.dual.apart over.node
            (split_among b.name nodes over.node over.among (λ e. other (sym over.named ∙ e)))
            (among_outer (split_nodes b.name nodes) over.node.name
            (λ q a. outer_among nodes over.node.name over.outer q (among_split b.name nodes q a).0))
            over.holds
            ∙ ap Some over.named,
        same n ∙ ap (is_in b.children) (sym over.named) ∙ outer_among nodes over.node.name over.outer b among,
      )

  whole_node : (at p nodes b.name may nest).node ≡ b
  whole_node =
      same_among nodes nest.dual.names (at p nodes b.name may nest).node b
      (subst (IsAmong (at p nodes b.name may nest).node) (sym (at p nodes b.name may nest).whole)
      (among_right (at p nodes b.name may nest).before ((at p nodes b.name may nest).node ∷ (at p nodes b.name may nest).after)
      (at p nodes b.name may nest).node (inl refl)))
      among (at p nodes b.name may nest).named

  -- what the blossom covers a child holds
  held_child : (d : ℕ) → cover_of nodes d ≡ Some b.name → (c : ℕ) × (is_in b.children c ≡ true) × (is_in (top_at nodes c) d ≡ true)
  held_child d cover = by (cover_among nodes d b.name cover)
    where
      shape : (is_empty b.children ≡ false) × (b.below ≡ []) × (b.top.value ≡ 0)
      shape = subst (λ n. (is_empty n.children ≡ false) × (n.below ≡ []) × (n.top.value ≡ 0)) whole_node (bare p nodes b.name may nest)

      by : IsOver nodes d b.name → (c : ℕ) × (is_in b.children c ≡ true) × (is_in (top_at nodes c) d ≡ true)
      by over =
          from_concat (top_at nodes) b.children d
          (sym (All_among (IsFilled nodes) nodes nest.forest.filled b among shape.0 d)
          ∙ (ap (λ l. is_in (first_vertices (l ++ b.top ∷ [])) d) shape.1
          ∙ (ap (λ n. is_in n.top.vertices d) (sym (same_among nodes nest.dual.names over.node b over.among among over.named)) ∙ over.holds)))

  pub child_covers : (m : Node) → IsAmong m nodes → is_in b.children m.name ≡ true → (d : ℕ) → is_in m.top.vertices d ≡ true
      → cover_of (split_nodes b.name nodes) d ≡ Some m.name
  child_covers m a mine d holds =
      covered_by (split_nodes b.name nodes) d after.dual.apart m
      (split_among b.name nodes m a
      (λ e. both_ways (is_in b.children b.name) (outer_among nodes b.name may.outer b among) (ap (is_in b.children) (sym e) ∙ mine)))
      (among_outer (split_nodes b.name nodes) m.name
      (λ q h.
      false_from_ne_true (is_in q.children m.name)
      (λ k.
      (among_split b.name nodes q h).1
      (ap (λ n. n.name) (one_parent nodes nest.forest.joined q b (among_split b.name nodes q h).0 among m.name k mine)))))
      holds

  inside : (d : ℕ) → cover_of nodes d ≡ Some b.name
      → (n : ℕ) × (cover_of (split_nodes b.name nodes) d ≡ Some n) × (is_in children n ≡ true)
  inside d cover = by (held_child d cover)
    where
      Found : Type 0
      Found = (n : ℕ) × (cover_of (split_nodes b.name nodes) d ≡ Some n) × (is_in children n ≡ true)

      named : (c : ℕ) → is_in b.children c ≡ true → is_in (top_at nodes c) d ≡ true → (m : Node) × IsAmong m nodes × (m.name ≡ c) → Found
      named c child holds (m, a, is) = (
        m.name,
        child_covers m a (ap (is_in b.children) is ∙ child) d
            (ap (λ s. is_in s d) (sym (top_among nodes nest.dual.names m a) ∙ ap (top_at nodes) is) ∙ holds),
        same m.name ∙ (ap (is_in b.children) is ∙ child),
      )

      by : (c : ℕ) × (is_in b.children c ≡ true) × (is_in (top_at nodes c) d ≡ true) → Found
      by (c, child, holds) =
          named c child holds
          (live_among nodes c
          (is_in-All (λ x. is_live nodes x ≡ true) b.children
          (All_among (λ n. All (λ x. is_live nodes x ≡ true) n.children) nodes nest.forest.live b among) c child))

  pub is_split : IsSplit nodes (split_nodes b.name nodes) b.name children
  is_split = record {
    defects = same_leaves p nodes b.name may nest;
    loads = λ e.
        sym
        (same_weigh (λ s. crosses s e) (at p nodes b.name may nest).node.top (all_cuts (split_nodes b.name nodes)) (all_cuts nodes)
        (insertion p nodes b.name may nest));
    heights = height p nodes b.name may nest;
    outside = λ d n leaf cover other. outside d n cover other;
    inside = λ d leaf cover. inside d cover;
  }

pub split_off : SplitOff
split_off p before after b children may nest same =
    let is = split_at before after b nest.dual.names in (
      is,
      subst (λ l. IsSplit (before ++ b ∷ after) l b.name children) is
          (is_split p (before ++ b ∷ after) b children (among_right before (b ∷ after) b (inl refl)) may nest same),
    )

pub end_under_child : EndUnderChild
end_under_child p nodes others blossom other children l dual split are differs connects = by connects
  where
    at : EndsAtDefects p (leaves nodes) l
    at =
        All-head
        (EndsAtDefects p (leaves nodes)) l []
        are.at_defects

    -- an end that is covered is at a defect
    leaf : (v n : ℕ) → (p.is_real v ≡ true → is_in (leaves nodes) v ≡ true) → cover_of nodes v ≡ Some n → is_in (leaves nodes) v ≡ true
    leaf v n defect cover = defect (dual.real v (subst IsSome (sym cover) refl))

    stays : (v : ℕ) → (p.is_real v ≡ true → is_in (leaves nodes) v ≡ true) → cover_of nodes v ≡ Some other → cover_of others v ≡ Some other
    stays v defect cover = (split.outside v other (leaf v other defect cover) cover differs).0

    by : Connects nodes l other blossom → (child : ℕ) × (is_in children child ≡ true) × Connects others l other child
    by (inl (from, to)) =
        let (child, there, is) = split.inside l.to (leaf l.to blossom at.1 to) to in (child, is, inl (stays l.from at.0 from, there))
    by (inr (to, from)) =
        let (child, there, is) = split.inside l.from (leaf l.from blossom at.0 from) from in (child, is, inr (stays l.to at.1 to, there))
