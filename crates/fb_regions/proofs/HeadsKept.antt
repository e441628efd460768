-- What a dual state keeps of the nodes that are joined, as heads need it.
use Rattle.std.proofs.Common.{ℕ, ◌≡◌, ◌==◌, ◌&&◌, ◌⊎◌, inl, inr, true, false, List, [], ◌∷◌, get_or, Option, Some, None, option_map, refl, sym, ap, ◌∙◌, subst}
use Rattle.std.specs.List.{All}
use Rattle.std.proofs.lemmas.Bool.{and_parts, both_ways, eqb-true, false_from_ne_true}
use Rattle.fb_graph.specs.Dual.{Node, cover_of, is_empty, is_live, is_outer}
use Rattle.fb_graph.specs.Parity.{is_in}
use Rattle.fb_graph.specs.Problem.{Problem}
use Rattle.fb_graph.proofs.Among.{IsAmong, All_among, any_among, cover_among, map_among, outer_among}
use Rattle.fb_graph.proofs.Forests.{one_parent}
use Rattle.fb_graph.proofs.Sets.{is_in-All}
use Rattle.fb_regions.specs.declared.marks.Mark.{Mark}
use Rattle.fb_regions.specs.declared.region.Region.{Region}
use Rattle.fb_regions.specs.InternalClock.{all_at, now_at}
use Rattle.fb_regions.specs.InternalHeads.{is_leaf_in}
use Rattle.fb_regions.specs.InternalKept.{HasParent, HaveParents, IsKept}
use Rattle.fb_regions.specs.InternalListings.{region_named}
use Rattle.fb_regions.specs.InternalNodes.{mark_of, node_of, nodes_of}
use Rattle.fb_regions.proofs.ByName.{placed}
use Rattle.fb_regions.proofs.ClockReadings.{named_at_time}
use Rattle.fb_regions.proofs.Found.{found}
use Rattle.fb_regions.proofs.HeadClimbs.{named_among, named_name}
use Rattle.fb_regions.proofs.HeadLists.{among_named}
use Rattle.fb_regions.proofs.HeadMerges.{AreClosed}
use Rattle.fb_regions.proofs.HeadMoves.{IsAlike}
use Rattle.fb_regions.proofs.Indexed.{distinct_names}
use Rattle.fb_regions.proofs.Linked.{live_named}
use Rattle.fb_regions.proofs.Roots.{joiner, outer_alone}

-- a node is outer, or this one joins it
record IsJoinedBy (nodes : List Node) (all : List Region) (r : Region) : Type 0 where
  name : ℕ
  parent : r.parent ≡ Some name
  region : Region
  among : IsAmong region all
  named : region.name ≡ name
  joins : is_in region.children.items r.name ≡ true

module _ (p : Problem) (regions : List Region) (marks : List (Option Mark)) (kept : IsKept p regions marks) where
  abbrev nodes : List Node
  nodes = nodes_of marks regions

  parent_of : (rs : List Region) → ((s : Region) → IsAmong s rs → IsAmong s regions) → HaveParents nodes rs → (r : Region) → IsAmong r rs
      → ((r.parent ≡ None) × (is_outer nodes r.name ≡ true)) ⊎ IsJoinedBy nodes regions r
  parent_of [] some parents r a = absurd a
  parent_of (y ∷ ys) some parents r (inr a) = parent_of ys (λ s b. some s (inr b)) parents.1 r a
  parent_of (y ∷ ys) some parents r (inl e) =
      subst (λ z. ((z.parent ≡ None) × (is_outer nodes z.name ≡ true)) ⊎ IsJoinedBy nodes regions z) e (by y.parent refl parents.0)
    where
      by : (o : Option ℕ) → y.parent ≡ o → HasParent nodes ys y.name o
          → ((y.parent ≡ None) × (is_outer nodes y.name ≡ true)) ⊎ IsJoinedBy nodes regions y
      by None f h = inl (f, h)
      by (Some q) f h =
          let is = joiner marks ys q y.name h in
          inr (record { name = q; parent = f; region = is.region; among = some is.region (inr is.among); named = is.named; joins = is.joins })

  -- a node's children are there
  pub child_there : AreClosed (region_named regions)
  child_there x c r e c_in =
      let a = map_among (node_of marks) regions r (named_among regions x r e) in
      let live =
      is_in-All (λ y. is_live nodes y ≡ true) r.children.items
      (All_among (λ n. All (λ y. is_live nodes y ≡ true) n.children) nodes kept.nest.forest.live (node_of marks r) a) c c_in in
      let n = live_named marks regions c live in
      (n.region, n.is)

  -- no node joins one that isn't there
  pub no_child : (b : ℕ) → is_live nodes b ≡ false → (x : ℕ) (r : Region) → region_named regions x ≡ Some r → is_in r.children.items b ≡ false
  no_child b fresh x r e =
      false_from_ne_true (is_in r.children.items b)
      (λ h.
      both_ways (is_live nodes b) fresh
      (is_in-All (λ y. is_live nodes y ≡ true) r.children.items
      (All_among (λ n. All (λ y. is_live nodes y ≡ true) n.children) nodes kept.nest.forest.live (node_of marks r)
      (map_among (node_of marks) regions r (named_among regions x r e))) b h))

  pub outer_named : (x : ℕ) (r : Region) → region_named regions x ≡ Some r → is_outer nodes x ≡ true → r.parent ≡ None
  outer_named x r e outer =
      outer_alone marks regions regions (λ s a. a) kept.parents r (named_among regions x r e) (ap (is_outer nodes) (named_name regions x r e) ∙ outer)

  -- the node that joins this one has it as a child
  pub joined_child : (b : ℕ) (old : Region) → region_named regions b ≡ Some old → (x : ℕ) (r : Region) → region_named regions x ≡ Some r
      → r.parent ≡ Some b → is_in old.children.items x ≡ true
  joined_child b old there x r e up = by (parent_of regions (λ s a. a) kept.parents r (named_among regions x r e))
    where
      by : ((r.parent ≡ None) × (is_outer nodes r.name ≡ true)) ⊎ IsJoinedBy nodes regions r → is_in old.children.items x ≡ true
      by (inl out) = absurd (let clash : None ≡ Some b = sym out.0 ∙ up in cc)
      by (inr is) =
          let both : Some is.name ≡ Some b = sym is.parent ∙ up in
          let named : is.name ≡ b = cc in
          let found_it : region_named regions b ≡ Some is.region =
          ap (region_named regions) (sym (is.named ∙ named)) ∙ among_named regions is.region (distinct_names p regions marks kept) is.among in
          let one : Some is.region ≡ Some old = sym found_it ∙ there in
          let same : is.region ≡ old = cc in
          ap (λ z. is_in z.children.items x) (sym same) ∙ (ap (is_in is.region.children.items) (sym (named_name regions x r e)) ∙ is.joins)

  -- a child is joined by the node
  pub child_joined : (b : ℕ) (old : Region) → region_named regions b ≡ Some old → (x : ℕ) (r : Region) → region_named regions x ≡ Some r
      → is_in old.children.items x ≡ true → r.parent ≡ Some b
  child_joined b old there x r e x_in = by (parent_of regions (λ s a. a) kept.parents r (named_among regions x r e))
    where
      old_among : IsAmong (node_of marks old) nodes
      old_among = map_among (node_of marks) regions old (named_among regions b old there)

      own : is_in old.children.items r.name ≡ true
      own = ap (is_in old.children.items) (named_name regions x r e) ∙ x_in

      by : ((r.parent ≡ None) × (is_outer nodes r.name ≡ true)) ⊎ IsJoinedBy nodes regions r → r.parent ≡ Some b
      by (inl out) = absurd (both_ways (is_in old.children.items r.name) (outer_among nodes r.name out.1 (node_of marks old) old_among) own)
      by (inr is) =
          let one =
          one_parent nodes kept.nest.forest.joined (node_of marks is.region) (node_of marks old) (map_among (node_of marks) regions is.region is.among) old_among
          r.name is.joins own in
          is.parent ∙ ap Some (sym is.named ∙ (ap (λ n. n.name) one ∙ named_name regions b old there))

  -- a change of an outer node's values alone
  pub alike_outer : (name i : ℕ) (old new : Region) → placed name regions ≡ Some i → old ≡ get_or regions i old → is_outer nodes name ≡ true
      → new.children.items ≡ old.children.items → new.head ≡ old.head → new.inside ≡ old.inside → new.parent ≡ old.parent → new.link ≡ old.link
      → IsAlike old new
  alike_outer name i old new at is_old outer children head inside parent link =
      let there = found marks regions name i old at is_old in
      let alone = outer_alone marks regions regions (λ s a. a) kept.parents old there.among (ap (is_outer nodes) there.named ∙ outer) in
      record {
        still = record { children = children; head = head; inside = inside };
        parent = parent;
        link = link;
        radius = λ q e. absurd (let clash : None ≡ Some q = sym alone ∙ e in cc);
      }

  -- the leaf of a vertex's mark
  pub marked_leaf : (v : ℕ) (m : Mark) → mark_of marks v ≡ Some m → is_leaf_in (region_named regions m.leaf) ≡ true
  marked_leaf v m has =
      let (r, a, e) = any_among (λ s. (s.name == m.leaf) && is_empty s.children.items) regions (kept.marked v m has).childless in
      let (named, childless) = and_parts (r.name == m.leaf) (is_empty r.children.items) e in
      ap is_leaf_in (ap (region_named regions) (sym (eqb-true r.name m.leaf named)) ∙ among_named regions r (distinct_names p regions marks kept) a) ∙ childless

pub leaf_at : (clock : ℕ) (regions : List Region) (leaf : ℕ) → is_leaf_in (region_named (all_at clock regions) leaf) ≡ is_leaf_in (region_named regions leaf)
leaf_at clock regions leaf = ap is_leaf_in (named_at_time clock regions leaf) ∙ by (region_named regions leaf)
  where
    by : (o : Option Region) → is_leaf_in (option_map (now_at clock) o) ≡ is_leaf_in o
    by None = refl
    by (Some r) = refl

-- the node that holds a vertex is outer
pub cover_outer : (ns : List Node) (v name : ℕ) → cover_of ns v ≡ Some name → is_outer ns name ≡ true
cover_outer ns v name e = let over = cover_among ns v name e in ap (is_outer ns) (sym over.named) ∙ over.outer
