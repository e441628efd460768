-- A blossom taken away.
use Rattle.std.proofs.Common.{ℕ, zero, suc, ◌≡◌, ◌<◌, ◌==◌, ◌&&◌, ◌||◌, ◌⊎◌, inl, inr, not, Bool, true, false, List, [], ◌∷◌, ◌++◌, length, map, get_or, Option, Some, None, refl, sym, ap, ◌∙◌, subst, arith, if◌then◌else◌}
use Rattle.std.specs.List.{All, position, remove}
use Rattle.std.proofs.Math.Seq.{take-nil}
use Rattle.std.specs.Option.{IsSome}
use Rattle.std.proofs.lemmas.Bool.{and_parts, both_ways, cases_eq, false≢true, false_from_ne_true, eq-eqb, eqb-true, or_cases, or_left, or_parts, or_right}
use Rattle.std.proofs.lemmas.List.Sums.{sum_by-cons}
use Rattle.fb_graph.specs.declared.parts.Cut.{Cut}
use Rattle.fb_graph.specs.Parity.{is_in}
use Rattle.fb_graph.specs.Problem.{Problem}
use Rattle.fb_graph.specs.Certificate.{AreDistinct, total_value}
use Rattle.fb_graph.specs.Dual.{Node, all_cuts, cover_of, first_vertices, is_empty, is_live, is_outer, layers_of, top_at}
use Rattle.fb_graph.specs.Moves.{MaySplit, split_nodes}
use Rattle.fb_graph.specs.Nests.{IsNest, IsFilled}
use Rattle.fb_graph.specs.SourceWalks.{HaveWalks}
use Rattle.fb_graph.proofs.Among.{IsAmong, All_among, among_All, among_outer, cover_among, from_concat, live_among, map_among, outer_among, same_among, top_among}
use Rattle.fb_graph.proofs.InsertedCuts.{removed_All}
use Rattle.fb_graph.proofs.Places.{among_split, split_among}
use Rattle.fb_graph.proofs.Sets.{is_in-All, is_in-head}
use Rattle.fb_graph.proofs.SourceWalks.{walks_split}
use Rattle.fb_graph.proofs.SplitNests as splitting
use Rattle.fb_graph.proofs.Forests.{one_parent}
use Rattle.fb_regions.specs.declared.marks.Mark.{Mark}
use Rattle.fb_regions.specs.declared.region.Region.{Region}
use Rattle.fb_regions.specs.InternalNodes.{reparented_region, children_from, mark_of, node_of, nodes_of, radii_from}
use Rattle.fb_regions.specs.InternalKept.{HasMarks, HasParent, HaveParents, IsKept, IsMarked, is_childless}
use Rattle.fb_regions.specs.InternalListings.{BeginAlike, BeginsFirst, IsListed}
use Rattle.fb_regions.specs.Moves.{BeginsWith}
use Rattle.fb_regions.proofs.ByName.{name_known}
use Rattle.fb_regions.proofs.Found.{IsFound, found, names_of}
use Rattle.fb_regions.proofs.Joined.{adopted_begun, adopted_children, adopted_lists, adopted_childless, adopted_nodes, adopted_radii}
use Rattle.fb_regions.proofs.Moved.{covered_in, marked_moved, some_cover}
use Rattle.fb_regions.proofs.Radii.{IsBare, MayAdopt, radii_adopted, radii_removed}
use Rattle.fb_regions.proofs.Roots.{joiner, outer_alone}

-- a node that stands in what is left
pub still_among : (rs : List Region) (i : ℕ) (r : Region) → IsAmong r (remove rs i) → IsAmong r rs
still_among [] i r a =
    let none : remove {X = Region} [] i ≡ [] = ap (λ l. l ++ []) (take-nil i) in
    subst (IsAmong r) none a
still_among (x ∷ xs) zero r a = inr a
still_among (x ∷ xs) (suc i) r (inl e) = inl e
still_among (x ∷ xs) (suc i) r (inr a) = inr (still_among xs i r a)

kept_all : (marks : List (Option Mark)) (name : ℕ) (rs : List Region) → is_in (map (λ r. r.name) rs) name ≡ false
    → split_nodes name (nodes_of marks rs) ≡ nodes_of marks rs
kept_all marks name [] out = refl
kept_all marks name (r ∷ rs) out =
    let parts = or_parts (r.name == name) (is_in (map (λ s. s.name) rs) name) out in
    ap (λ b. if not b then node_of marks r ∷ split_nodes name (nodes_of marks rs) else split_nodes name (nodes_of marks rs)) parts.0
    ∙ ap (λ l. node_of marks r ∷ l) (kept_all marks name rs parts.1)

removed_nodes : (marks : List (Option Mark)) (rs : List Region) (i name : ℕ) (old : Region) → AreDistinct (map (λ r. r.name) rs) → old ≡ get_or rs i old
    → i < length rs → old.name ≡ name → nodes_of marks (remove rs i) ≡ split_nodes name (nodes_of marks rs)
removed_nodes marks [] i name old distinct at less named = absurd (omega arith)
removed_nodes marks (r ∷ rs) zero name old distinct at less named =
    let same : r.name ≡ name = ap (λ y. y.name) (sym at) ∙ named in
    sym (ap (λ b. if not b then node_of marks r ∷ split_nodes name (nodes_of marks rs) else split_nodes name (nodes_of marks rs)) (eq-eqb r.name name same)
    ∙ kept_all marks name rs (ap (is_in (map (λ s. s.name) rs)) (sym same) ∙ distinct.0))
removed_nodes marks (r ∷ rs) (suc i) name old distinct at less named =
    let other : (r.name == name) ≡ false =
    false_from_ne_true (r.name == name)
    (λ e.
    both_ways (is_in (map (λ s. s.name) rs) r.name) distinct.0
    (ap (is_in (map (λ s. s.name) rs)) (eqb-true r.name name e ∙ sym named) ∙ name_known rs i old at (omega arith))) in
    ap (λ l. node_of marks r ∷ l) (removed_nodes marks rs i name old distinct.1 at (omega arith) named)
    ∙ sym (ap (λ b. if not b then node_of marks r ∷ split_nodes name (nodes_of marks rs) else split_nodes name (nodes_of marks rs)) other)

children_left : (rs : List Region) (i q : ℕ) (old : Region) → old ≡ get_or rs i old → i < length rs → (old.name ≡ q → ⊥)
    → children_from (remove rs i) q ≡ children_from rs q
children_left [] i q old at less other = absurd (omega arith)
children_left (r ∷ rs) zero q old at less other =
    sym (ap (λ b. if b then r.children.items else children_from rs q)
    (false_from_ne_true (r.name == q) (λ e. other (ap (λ y. y.name) at ∙ eqb-true r.name q e))))
children_left (r ∷ rs) (suc i) q old at less other =
    ap (λ l. if r.name == q then r.children.items else l) (children_left rs i q old at (omega arith) other)

childless_left : (rs : List Region) (i x : ℕ) (old : Region) → old ≡ get_or rs i old → i < length rs → is_empty old.children.items ≡ false
    → is_childless (remove rs i) x ≡ is_childless rs x
childless_left [] i x old at less some = absurd (omega arith)
childless_left (r ∷ rs) zero x old at less some =
    sym (ap (λ b. ((r.name == x) && b) || is_childless rs x) (ap (λ y. is_empty y.children.items) (sym at) ∙ some) ∙ by (r.name == x))
  where
    by : (b : Bool) → ((b && false) || is_childless rs x) ≡ is_childless rs x
    by true = refl
    by false = refl
childless_left (r ∷ rs) (suc i) x old at less some =
    ap (λ b. ((r.name == x) && is_empty r.children.items) || b) (childless_left rs i x old at (omega arith) some)

childless_node : (marks : List (Option Mark)) (rs : List Region) (x : ℕ) → is_childless rs x ≡ true → is_live (nodes_of marks rs) x ≡ true
childless_node marks [] x h = absurd (false≢true h)
childless_node marks (r ∷ rs) x h = by (or_cases ((r.name == x) && is_empty r.children.items) (is_childless rs x) h) (childless_node marks rs x)
  where
    by : (((r.name == x) && is_empty r.children.items) ≡ true) ⊎ (is_childless rs x ≡ true) → (is_childless rs x ≡ true → is_live (nodes_of marks rs) x ≡ true)
        → ((r.name == x) || is_live (nodes_of marks rs) x) ≡ true
    by (inl e) rest = or_left (r.name == x) (is_live (nodes_of marks rs) x) (and_parts (r.name == x) (is_empty r.children.items) e).0
    by (inr e) rest = or_right (r.name == x) (is_live (nodes_of marks rs) x) (rest e)

-- the set of a node that is left
top_split : (nodes : List Node) (name c : ℕ) → (c ≡ name → ⊥) → top_at (split_nodes name nodes) c ≡ top_at nodes c
top_split [] name c other = refl
top_split (n ∷ ns) name c other = by (n.name == name) refl (top_split ns name c other)
  where
    by : (b : Bool) → (n.name == name) ≡ b → top_at (split_nodes name ns) c ≡ top_at ns c
        → top_at (if not b then n ∷ split_nodes name ns else split_nodes name ns) c ≡ top_at (n ∷ ns) c
    by false e rest = ap (λ l. if n.name == c then n.top.vertices else l) rest
    by true e rest =
        rest
        ∙ sym (ap (λ b. if b then n.top.vertices else top_at ns c)
        (false_from_ne_true (n.name == c) (λ k. other (sym (eqb-true n.name c k) ∙ eqb-true n.name name e))))

module _ (p : Problem) (regions : List Region) (marks : List (Option Mark)) (kept : IsKept p regions marks) (name i : ℕ) (old : Region)
    (at : position (λ r. r.name == name) regions ≡ Some i) (is_old : old ≡ get_or regions i old) (may : MaySplit (nodes_of marks regions) name) where
  abbrev nodes : List Node
  nodes = nodes_of marks regions

  abbrev others : List Node
  others = split_nodes name nodes

  abbrev cs : List ℕ
  cs = old.children.items

  abbrev regions' : List Region
  regions' = map (reparented_region cs None) (remove regions i)

  there : IsFound marks regions name i old
  there = found marks regions name i old at is_old

  among : IsAmong (node_of marks old) nodes
  among = map_among (node_of marks) regions old there.among

  bare : (is_empty cs ≡ false) × ((node_of marks old).below ≡ []) × (old.top_value ≡ 0)
  bare =
      All_among (λ n. n.name ≡ name → (is_empty n.children ≡ false) × (n.below ≡ []) × (n.top.value ≡ 0)) nodes may.bare (node_of marks old) among there.named

  names : AreDistinct (map (λ r. r.name) regions)
  names = subst AreDistinct (sym (names_of marks regions)) kept.nest.dual.names

  removed : nodes_of marks (remove regions i) ≡ others
  removed = removed_nodes marks regions i name old names is_old there.below there.named

  pub nodes_split : nodes_of marks regions' ≡ others
  nodes_split = adopted_nodes marks cs None (remove regions i) ∙ removed

  nest : IsNest p others
  nest = splitting.nest_split p nodes name may kept.nest

  own_outer : is_outer nodes old.name ≡ true
  own_outer = ap (is_outer nodes) there.named ∙ may.outer

  same_region : (r : Region) → IsAmong r regions → r.name ≡ name → node_of marks r ≡ node_of marks old
  same_region r a named =
      same_among nodes kept.nest.dual.names (node_of marks r) (node_of marks old) (map_among (node_of marks) regions r a) among (named ∙ sym there.named)

  radius_of : (r : Region) → IsAmong r regions → r.radius ≡ total_value (layers_of (node_of marks r))
  radius_of r a = All_among (λ x. x.radius ≡ total_value (layers_of (node_of marks x))) regions kept.radii r a

  no_radius : total_value (layers_of (node_of marks old)) ≡ 0
  no_radius = ap (λ l. total_value (l ++ (node_of marks old).top ∷ [])) bare.1 ∙ omega (arith, sum_by-cons (λ (c : Cut). c.value) (node_of marks old).top [], bare.2)

  all_bare : All (IsBare name) regions
  all_bare =
      among_All (IsBare name) regions
      (λ r a named. (
        radius_of r a ∙ (ap (λ n. total_value (layers_of n)) (same_region r a named) ∙ no_radius),
        outer_alone marks regions regions (λ x b. b) kept.parents r a (ap (is_outer nodes) named ∙ may.outer),
      ))

  -- what joins a child is the blossom
  parent_of : (rs : List Region) → ((r : Region) → IsAmong r rs → IsAmong r regions) → HaveParents nodes rs → (r : Region) → IsAmong r rs
      → is_in cs r.name ≡ true → (r.parent ≡ None) ⊎ (r.parent ≡ Some name)
  parent_of [] some parents r a child = absurd a
  parent_of (s ∷ rs) some parents r (inr a) child = parent_of rs (λ x b. some x (inr b)) parents.1 r a child
  parent_of (s ∷ rs) some parents r (inl e) child = by s.parent refl parents.0
    where
      by : (o : Option ℕ) → s.parent ≡ o → HasParent nodes rs s.name o → (r.parent ≡ None) ⊎ (r.parent ≡ Some name)
      by None f h = inl (ap (λ x. x.parent) (sym e) ∙ f)
      by (Some q) f h =
          let is = joiner marks rs q s.name h in
          let one : node_of marks is.region ≡ node_of marks old =
          one_parent nodes kept.nest.forest.joined (node_of marks is.region) (node_of marks old)
          (map_among (node_of marks) regions is.region (some is.region (inr is.among))) among s.name is.joins (ap (λ x. is_in cs x.name) e ∙ child) in
          inr (ap (λ x. x.parent) (sym e) ∙ (f ∙ ap Some (sym is.named ∙ (ap (λ n. n.name) one ∙ there.named))))

  left_bare : All (IsBare name) (remove regions i)
  left_bare = among_All (IsBare name) (remove regions i) (λ r a. All_among (IsBare name) regions all_bare r (still_among regions i r a))

  may_adopt : All (MayAdopt cs name) (remove regions i)
  may_adopt =
      among_All (MayAdopt cs name) (remove regions i)
      (λ r a child. parent_of regions (λ x b. b) kept.parents r (still_among regions i r a) child)

  radii_same : (x : ℕ) → radii_from regions' x ≡ radii_from regions x
  radii_same x =
      radii_adopted (remove regions i) cs name None (inl refl) left_bare may_adopt x ∙ radii_removed regions i name old is_old there.below there.named all_bare x

  outer_still : (x : ℕ) → is_outer nodes x ≡ true → is_outer others x ≡ true
  outer_still x outer = among_outer others x (λ q a. outer_among nodes x outer q (among_split name nodes q a).0)

  outer_child : (x : ℕ) → is_in cs x ≡ true → is_outer others x ≡ true
  outer_child x child =
      among_outer others x
      (λ q a.
      let parts = among_split name nodes q a in
      false_from_ne_true (is_in q.children x)
      (λ h.
      parts.1 (ap (λ n. n.name) (one_parent nodes kept.nest.forest.joined q (node_of marks old) parts.0 among x h child) ∙ there.named)))

  parents_left : (rs : List Region) (j : ℕ) → ((r : Region) → IsAmong r rs → IsAmong r regions) → old ≡ get_or rs j old → j < length rs → HaveParents nodes rs
      → HaveParents others (map (reparented_region cs None) (remove rs j))
  parents_left [] j some is less parents = absurd (omega arith)
  parents_left (r ∷ rs) zero some is less parents = rest rs parents.1
    where
      rest : (xs : List Region) → HaveParents nodes xs → HaveParents others (map (reparented_region cs None) xs)
      rest [] h = tt
      rest (x ∷ xs) h = (by (is_in cs x.name) refl, rest xs h.1)
        where
          by : (b : Bool) → is_in cs x.name ≡ b
              → HasParent others (map (reparented_region cs None) xs) (if b then record x { parent = None } else x).name (if b then record x { parent = None } else x).parent
          by true e = outer_child x.name e
          by false e = up x.parent h.0
            where
              up : (o : Option ℕ) → HasParent nodes xs x.name o → HasParent others (map (reparented_region cs None) xs) x.name o
              up None k = outer_still x.name k
              up (Some q) k = ap (λ l. is_in l x.name) (adopted_children cs None xs q) ∙ k
  parents_left (r ∷ rs) (suc j) some is less parents = (
    by (is_in cs r.name) refl,
    parents_left rs j (λ x b. some x (inr b)) is (omega arith) parents.1,
  )
    where
      by : (b : Bool) → is_in cs r.name ≡ b
          → HasParent others (map (reparented_region cs None) (remove rs j)) (if b then record r { parent = None } else r).name (if b then record r { parent = None } else r).parent
      by true e = outer_child r.name e
      by false e = up r.parent parents.0
        where
          up : (o : Option ℕ) → HasParent nodes rs r.name o → HasParent others (map (reparented_region cs None) (remove rs j)) r.name o
          up None k = outer_still r.name k
          up (Some q) k = ap (λ l. is_in l r.name) (adopted_children cs None (remove rs j) q ∙ children_left rs j q old is (omega arith) other) ∙ k
            where
              -- it isn't the blossom, which would join it
              other : old.name ≡ q → ⊥
              other same =
                  let s = joiner marks rs q r.name k in
                  both_ways (is_in cs r.name) e
                  (ap (λ n. is_in n.children r.name)
                  (sym (same_region s.region (some s.region (inr s.among)) (s.named ∙ (sym same ∙ there.named))))
                  ∙ s.joins)

  -- a vertex of a node is in a node that is left
  left_over : (v : ℕ) → IsSome (cover_of nodes v) → IsSome (cover_of others v)
  left_over v h =
      let (c, cover) = some_cover nodes v h in
      let over = cover_among nodes v c cover in
      by over.node over.among over.holds (cases_eq over.node.name name)
    where
      by : (n : Node) → IsAmong n nodes → is_in n.top.vertices v ≡ true → (n.name ≡ name) ⊎ (n.name ≡ name → ⊥) → IsSome (cover_of others v)
      by n a k (inr other) = covered_in p others nest n (split_among name nodes n a other) v k
      by n a k (inl same) =
          let one : n ≡ node_of marks old = same_among nodes kept.nest.dual.names n (node_of marks old) a among (same ∙ sym there.named) in
          let first : is_in (first_vertices (layers_of (node_of marks old))) v ≡ true =
          ap (λ l. is_in (first_vertices (l ++ (node_of marks old).top ∷ [])) v) bare.1 ∙ (ap (λ y. is_in y.top.vertices v) (sym one) ∙ k) in
          let (d, child, holds) =
          from_concat (top_at nodes) cs v
          (sym (All_among (IsFilled nodes) nodes kept.nest.forest.filled (node_of marks old) among bare.0 v) ∙ first) in
          let (m, b, named) =
          live_among nodes d (is_in-All (λ y. is_live nodes y ≡ true) cs
          (All_among (λ y. All (λ z. is_live nodes z ≡ true) y.children) nodes kept.nest.forest.live (node_of marks old) among) d child) in
          covered_in p others nest m
          (split_among name nodes m b
          (λ e.
          both_ways (is_in cs old.name) (outer_among nodes old.name own_outer (node_of marks old) among)
          (ap (is_in cs) (there.named ∙ (sym e ∙ named)) ∙ child)))
          v (ap (λ s. is_in s v) (sym (top_among nodes kept.nest.dual.names m b) ∙ ap (top_at nodes) named) ∙ holds)

  marked : (v : ℕ) (m : Mark) → mark_of marks v ≡ Some m → IsMarked p others regions' marks v m
  marked v m has =
      let old_is : IsMarked p nodes regions marks v m = kept.marked v m has in
      let childless : is_childless (remove regions i) m.leaf ≡ true = childless_left regions i m.leaf old is_old there.below bare.0 ∙ old_is.childless in
      marked_moved p nodes others regions regions' marks marks v m old_is (left_over v old_is.covered) (leaf m.leaf m.source childless old_is.leaf)
      (adopted_childless cs None (remove regions i) m.leaf ∙ childless) (splitting.height p nodes name may kept.nest v) (radii_same m.leaf)
      (λ d h. ap (λ l. is_in l d) (splitting.same_leaves p nodes name may kept.nest) ∙ h) (λ s e. refl)
    where
      leaf : (x d : ℕ) → is_childless (remove regions i) x ≡ true → is_in (top_at nodes x) d ≡ true → is_in (top_at others x) d ≡ true
      leaf x d childless h =
          let (n, a, named) = live_among others x (subst (λ ns. is_live ns x ≡ true) removed (childless_node marks (remove regions i) x childless)) in
          let one : top_at nodes x ≡ n.top.vertices = ap (top_at nodes) (sym named) ∙ top_among nodes kept.nest.dual.names n (among_split name nodes n a).0 in
          let two : top_at others x ≡ n.top.vertices = ap (top_at others) (sym named) ∙ top_among others nest.dual.names n a in
          ap (λ s. is_in s d) two ∙ (ap (λ s. is_in s d) (sym one) ∙ h)

  -- the blossom joins the nodes that are its children, and no node joins it
  left_begins : (r : Region) → IsAmong r regions → (cs' : List ℕ) → ((c : ℕ) → is_in cs' c ≡ true → is_in r.children.items c ≡ true)
      → BeginsFirst nodes r.first cs' → BeginsFirst others r.first cs'
  left_begins r a [] some h = tt
  left_begins r a (c ∷ cs') some h =
      subst (BeginsWith r.first)
      (sym (top_split nodes name c
      (λ e.
      both_ways (is_in r.children.items name) (outer_among nodes name may.outer (node_of marks r) (map_among (node_of marks) regions r a))
      (ap (is_in r.children.items) (sym e) ∙ some c (is_in-head c cs')))))
      h

  pub kept_split : IsKept p regions' marks
  kept_split = record {
    nest = subst (IsNest p) (sym nodes_split) nest;
    walks = subst (HaveWalks p) (sym nodes_split) (walks_split p nodes name may kept.nest kept.walks);
    room = kept.room;
    radii =
        adopted_radii marks cs None (remove regions i)
        (among_All (λ r. r.radius ≡ total_value (layers_of (node_of marks r))) (remove regions i) (λ r a. radius_of r (still_among regions i r a)));
    parents = subst (λ ns. HaveParents ns regions') (sym nodes_split) (parents_left regions i (λ r a. a) is_old there.below kept.parents);
    sets =
        subst (λ ns. All (λ c. HasMarks marks c.vertices) (all_cuts ns)) (sym nodes_split)
        (removed_All (λ c. HasMarks marks c.vertices) (splitting.at p nodes name may kept.nest).node.top (all_cuts others) (all_cuts nodes)
        (splitting.insertion p nodes name may kept.nest) kept.sets);
    listed =
        adopted_lists marks cs None (remove regions i)
        (among_All (IsListed marks) (remove regions i) (λ r a. All_among (IsListed marks) regions kept.listed r (still_among regions i r a)));
    begins =
        subst (λ ns. BeginAlike ns regions') (sym nodes_split)
        (adopted_begun others cs None (remove regions i)
        (among_All (λ r. BeginsFirst others r.first r.children.items) (remove regions i)
        (λ r a.
        left_begins r (still_among regions i r a) r.children.items (λ c h. h)
        (All_among (λ s. BeginsFirst nodes s.first s.children.items) regions kept.begins r (still_among regions i r a)))));
    marked = λ v m has. subst (λ ns. IsMarked p ns regions' marks v m) (sym nodes_split) (marked v m has);
  }
