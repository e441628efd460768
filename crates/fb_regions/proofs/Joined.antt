-- Outer nodes joined in a blossom.
use Rattle.std.proofs.Common.{ℕ, ◌≡◌, ◌+◌, ◌≤◌, ◌==◌, ◌&&◌, ◌||◌, ◌⊎◌, inl, inr, Bool, true, false, List, [], ◌∷◌, ◌++◌, length, map, Option, Some, None, refl, sym, ap, ◌∙◌, subst, arith, if◌then◌else◌}
use Rattle.std.specs.List.{All, concat}
use Rattle.std.proofs.lemmas.Bool.{both_ways, false≢true, false_from_ne_true, eq-eqb, eqb-true, or_cases, or_parts}
use Rattle.std.proofs.lemmas.List.{append-nil, length-append, map-append}
use Rattle.std.proofs.lemmas.List.Elements.{All-map, All-push}
use Rattle.fb_graph.specs.Parity.{is_in}
use Rattle.fb_graph.specs.Problem.{Problem}
use Rattle.fb_graph.specs.Certificate.{total_value}
use Rattle.fb_graph.specs.Dual.{Node, all_cuts, is_empty, is_live, is_outer, layers_of, leaves, top_at}
use Rattle.fb_graph.specs.Limits.{IsWithinLimits}
use Rattle.fb_graph.specs.Moves.{MayJoin, blossom, joined_nodes}
use Rattle.fb_graph.specs.Nests.{IsNest}
use Rattle.fb_graph.specs.SourceWalks.{HaveWalks}
use Rattle.fb_graph.proofs.Among.{IsAmong, All_among, among_All, among_either, among_left, among_live, among_outer, among_right, cover_among, from_concat, in_concat, live_among, map_among, outer_among, top_among, top_left}
use Rattle.fb_graph.proofs.InsertedCuts.{inserted_All}
use Rattle.fb_graph.proofs.JoinedNests as joining
use Rattle.fb_graph.proofs.NestParts.{names_live, top_holds, top_is_odd}
use Rattle.fb_graph.proofs.Sets.{is_in-All, is_in-head}
use Rattle.fb_graph.proofs.SourceWalks.{walks_joined}
use Rattle.fb_regions.specs.declared.marks.Hop.{Hop}
use Rattle.fb_regions.specs.declared.marks.Mark.{Mark}
use Rattle.fb_regions.specs.declared.region.Region.{Region}
use Rattle.fb_regions.specs.InternalNodes.{added_to, reparented_region, chain, children_from, first_of, mark_of, node_of, nodes_of, radii_from}
use Rattle.fb_regions.specs.InternalKept.{BeginsIn, HasMarks, HasParent, HaveParents, IsKept, IsMarked, is_childless}
use Rattle.fb_regions.specs.InternalListings.{AreListed, BeginAlike, BeginsFirst, IsListed}
use Rattle.fb_regions.specs.Moves.{BeginsWith}
use Rattle.fb_regions.proofs.Begun.{StayBegun, all_begun}
use Rattle.fb_regions.proofs.Found.{names_of}
use Rattle.fb_regions.proofs.Listings.{begins_in, held_begins}
use Rattle.fb_regions.proofs.Moved.{covered_in, in_top, marked_moved, some_cover, top_marks}
use Rattle.fb_regions.proofs.Opened.{whole}
use Rattle.fb_regions.proofs.Parents.{children_push, childless_push}
use Rattle.fb_regions.proofs.Radii.{IsBare, MayAdopt, radii_adopted, radii_push}
use Rattle.fb_regions.proofs.Readings.{odd_sized}
use Rattle.fb_regions.proofs.Roots.{outer_alone}

-- the nodes stay, whatever stands round them
pub adopted_node : (marks : List (Option Mark)) (names : List ℕ) (o : Option ℕ) (r : Region) → node_of marks (reparented_region names o r) ≡ node_of marks r
adopted_node marks names o r = by (is_in names r.name)
  where
    by : (b : Bool) → node_of marks (if b then record r { parent = o } else r) ≡ node_of marks r
    by true = refl
    by false = refl

pub adopted_nodes : (marks : List (Option Mark)) (names : List ℕ) (o : Option ℕ) (rs : List Region)
    → nodes_of marks (map (reparented_region names o) rs) ≡ nodes_of marks rs
adopted_nodes marks names o [] = refl
adopted_nodes marks names o (r ∷ rs) =
    ap (λ n. n ∷ nodes_of marks (map (reparented_region names o) rs)) (adopted_node marks names o r)
    ∙ ap (λ l. node_of marks r ∷ l) (adopted_nodes marks names o rs)

pub same_name : (names : List ℕ) (o : Option ℕ) (r : Region) → (reparented_region names o r).name ≡ r.name
same_name names o r = by (is_in names r.name)
  where
    by : (b : Bool) → (if b then record r { parent = o } else r).name ≡ r.name
    by true = refl
    by false = refl

same_children : (names : List ℕ) (o : Option ℕ) (r : Region) → (reparented_region names o r).children.items ≡ r.children.items
same_children names o r = by (is_in names r.name)
  where
    by : (b : Bool) → (if b then record r { parent = o } else r).children.items ≡ r.children.items
    by true = refl
    by false = refl

same_radius : (names : List ℕ) (o : Option ℕ) (r : Region) → (reparented_region names o r).radius ≡ r.radius
same_radius names o r = by (is_in names r.name)
  where
    by : (b : Bool) → (if b then record r { parent = o } else r).radius ≡ r.radius
    by true = refl
    by false = refl

pub adopted_children : (names : List ℕ) (o : Option ℕ) (rs : List Region) (q : ℕ) → children_from (map (reparented_region names o) rs) q ≡ children_from rs q
adopted_children names o [] q = refl
adopted_children names o (r ∷ rs) q =
    ap (λ n. if n == q then (reparented_region names o r).children.items else children_from (map (reparented_region names o) rs) q) (same_name names o r)
    ∙ (ap (λ l. if r.name == q then l else children_from (map (reparented_region names o) rs) q) (same_children names o r)
    ∙ ap (λ l. if r.name == q then r.children.items else l) (adopted_children names o rs q))

pub adopted_childless : (names : List ℕ) (o : Option ℕ) (rs : List Region) (x : ℕ) → is_childless (map (reparented_region names o) rs) x ≡ is_childless rs x
adopted_childless names o [] x = refl
adopted_childless names o (r ∷ rs) x =
    ap (λ n. ((n == x) && is_empty (reparented_region names o r).children.items) || is_childless (map (reparented_region names o) rs) x) (same_name names o r)
    ∙ (ap (λ l. ((r.name == x) && is_empty l) || is_childless (map (reparented_region names o) rs) x) (same_children names o r)
    ∙ ap (λ b. ((r.name == x) && is_empty r.children.items) || b) (adopted_childless names o rs x))

pub adopted_radii : (marks : List (Option Mark)) (names : List ℕ) (o : Option ℕ) (rs : List Region)
    → All (λ r. r.radius ≡ total_value (layers_of (node_of marks r))) rs
    → All (λ r. r.radius ≡ total_value (layers_of (node_of marks r))) (map (reparented_region names o) rs)
adopted_radii marks names o rs h =
    All-map (λ r. r.radius ≡ total_value (layers_of (node_of marks r))) (reparented_region names o) rs
    (among_All (λ r. (reparented_region names o r).radius ≡ total_value (layers_of (node_of marks (reparented_region names o r)))) rs
    (λ r a.
    same_radius names o r
    ∙ (All_among (λ y. y.radius ≡ total_value (layers_of (node_of marks y))) rs h r a
    ∙ ap (λ n. total_value (layers_of n)) (sym (adopted_node marks names o r)))))

same_first : (names : List ℕ) (o : Option ℕ) (r : Region) → (reparented_region names o r).first ≡ r.first
same_first names o r = by (is_in names r.name)
  where
    by : (b : Bool) → (if b then record r { parent = o } else r).first ≡ r.first
    by true = refl
    by false = refl

-- so do their lists
pub adopted_lists : (marks : List (Option Mark)) (names : List ℕ) (o : Option ℕ) (rs : List Region) → AreListed marks rs
    → AreListed marks (map (reparented_region names o) rs)
adopted_lists marks names o rs h =
    All-map (IsListed marks) (reparented_region names o) rs
    (among_All (λ r. IsListed marks (reparented_region names o r)) rs (λ r a. by (is_in names r.name) r (All_among (IsListed marks) rs h r a)))
  where
    by : (b : Bool) (r : Region) → IsListed marks r → IsListed marks (if b then record r { parent = o } else r)
    by true r is = record { first = is.first; whole = is.whole }
    by false r is = is

pub adopted_begun : (nodes : List Node) (names : List ℕ) (o : Option ℕ) (rs : List Region) → BeginAlike nodes rs
    → BeginAlike nodes (map (reparented_region names o) rs)
adopted_begun nodes names o rs h =
    All-map (λ r. BeginsFirst nodes r.first r.children.items) (reparented_region names o) rs
    (among_All (λ r. BeginsFirst nodes (reparented_region names o r).first (reparented_region names o r).children.items) rs
    (λ r a.
    rw (same_first names o r, same_children names o r) (All_among (λ s. BeginsFirst nodes s.first s.children.items) rs h r a)))

children_last : (rs : List Region) (new : Region) → is_in (map (λ r. r.name) rs) new.name ≡ false → children_from (rs ++ new ∷ []) new.name ≡ new.children.items
children_last [] new out = ap (λ b. if b then new.children.items else []) (eq-eqb new.name new.name refl)
children_last (r ∷ rs) new out =
    let parts = or_parts (r.name == new.name) (is_in (map (λ s. s.name) rs) new.name) out in
    ap (λ b. if b then r.children.items else children_from (rs ++ new ∷ []) new.name) parts.0 ∙ children_last rs new parts.1

pub adopted_names : (names : List ℕ) (o : Option ℕ) (rs : List Region) → map (λ r. r.name) (map (reparented_region names o) rs) ≡ map (λ r. r.name) rs
adopted_names names o [] = refl
adopted_names names o (r ∷ rs) =
    ap (λ n. n ∷ map (λ s. s.name) (map (reparented_region names o) rs)) (same_name names o r) ∙ ap (λ l. r.name ∷ l) (adopted_names names o rs)

parents_joined : (nodes others : List Node) (cs : List ℕ) (new : Region) (rs : List Region) → is_in (map (λ r. r.name) rs) new.name ≡ false
    → new.children.items ≡ cs → ((x : ℕ) → is_outer nodes x ≡ true → is_in cs x ≡ false → is_outer others x ≡ true) → HaveParents nodes rs
    → HasParent others [] new.name new.parent → HaveParents others (map (reparented_region cs (Some new.name)) rs ++ new ∷ [])
parents_joined nodes others cs new [] out children outer old own = (own, tt)
parents_joined nodes others cs new (r ∷ rs) out children outer old own =
    let parts = or_parts (r.name == new.name) (is_in (map (λ s. s.name) rs) new.name) out in (
      by (is_in cs r.name) refl parts.1,
      parents_joined nodes others cs new rs parts.1 children outer old.1 own,
    )
  where
    by : (b : Bool) → is_in cs r.name ≡ b → is_in (map (λ s. s.name) rs) new.name ≡ false
        → HasParent others (map (reparented_region cs (Some new.name)) rs ++ new ∷ []) (if b then record r { parent = Some new.name } else r).name
        (if b then record r { parent = Some new.name } else r).parent
    by true e free =
        ap (λ l. is_in l r.name)
        (children_last (map (reparented_region cs (Some new.name)) rs) new (ap (λ l. is_in l new.name) (adopted_names cs (Some new.name) rs) ∙ free) ∙ children) ∙ e
    by false e free = up r.parent old.0
      where
        up : (o : Option ℕ) → HasParent nodes rs r.name o → HasParent others (map (reparented_region cs (Some new.name)) rs ++ new ∷ []) r.name o
        up None h = outer r.name h e
        up (Some q) h =
            children_push (map (reparented_region cs (Some new.name)) rs) new q r.name (ap (λ l. is_in l r.name) (adopted_children cs (Some new.name) rs q) ∙ h)

part-le : (f : ℕ → List ℕ) (cs : List ℕ) (c : ℕ) → is_in cs c ≡ true → length (f c) ≤ length (concat (map f cs))
part-le f [] c h = absurd (false≢true h)
part-le f (x ∷ xs) c h = by (or_cases (x == c) (is_in xs c) h) (part-le f xs c)
  where
    by : ((x == c) ≡ true) ⊎ (is_in xs c ≡ true) → (is_in xs c ≡ true → length (f c) ≤ length (concat (map f xs)))
        → length (f c) ≤ length (f x ++ concat (map f xs))
    by (inl e) rest = omega (arith, length-append (f x) (concat (map f xs)), ap (λ y. length (f y)) (eqb-true x c e))
    by (inr e) rest = omega (arith, length-append (f x) (concat (map f xs)), rest e)

-- the region of a new blossom
pub record IsBlossomRegion (marks : List (Option Mark)) (nodes : List Node) (name : ℕ) (children : List ℕ) (r : Region) : Type 0 where
  pub name_is : r.name ≡ name
  pub children_are : r.children.items ≡ children
  pub parent : r.parent ≡ None
  pub begins : BeginsWith r.first (concat (map (top_at nodes) children))
  pub first : first_of marks r ≡ concat (map (top_at nodes) children)
  pub added : r.added ≡ 0
  pub last : r.last ≡ r.base_last
  pub value : r.top_value ≡ 0
  pub radius : r.radius ≡ 0

module _ (p : Problem) (regions : List Region) (marks : List (Option Mark)) (kept : IsKept p regions marks) (name : ℕ) (children : List ℕ) (new : Region)
    (is : IsBlossomRegion marks (nodes_of marks regions) name children new) (may : MayJoin (nodes_of marks regions) name children) where
  abbrev nodes : List Node
  nodes = nodes_of marks regions

  abbrev others : List Node
  others = joined_nodes name children nodes

  abbrev regions' : List Region
  regions' = map (reparented_region children (Some name)) regions ++ new ∷ []

  blossom_node : node_of marks new ≡ blossom name children nodes
  blossom_node =
      ap (λ y. whole marks new.last y new.children.items (first_of marks new) new.added new.top_value) is.name_is
      ∙ (ap (λ y. whole marks new.last name y (first_of marks new) new.added new.top_value) is.children_are
      ∙ (ap (λ y. whole marks new.last name children y new.added new.top_value) is.first
      ∙ (ap (λ y. whole marks new.last name children (concat (map (top_at nodes) children)) y new.top_value) is.added
      ∙ (ap (λ y. whole marks new.last name children (concat (map (top_at nodes) children)) 0 y) is.value
      ∙ ap (λ l. record { name = name; children = children; below = []; top = record { value = 0; vertices = l } })
      (append-nil (concat (map (top_at nodes) children)))))))

  pub nodes_joined : nodes_of marks regions' ≡ others
  nodes_joined =
      map-append (node_of marks) (map (reparented_region children (Some name)) regions) (new ∷ [])
      ∙ (ap (λ l. l ++ node_of marks new ∷ []) (adopted_nodes marks children (Some name) regions) ∙ ap (λ n. nodes ++ n ∷ []) blossom_node)

  nest : IsNest p others
  nest = joining.nest_joined p nodes name children may kept.nest

  own_set : HasMarks marks (concat (map (top_at nodes) children))
  own_set v within =
      let (c, child, holds) = from_concat (top_at nodes) children v within in
      let (n, a, named) = live_among nodes c (is_in-All (λ x. is_live nodes x ≡ true) children may.live c child) in
      let top : top_at nodes c ≡ n.top.vertices = ap (top_at nodes) (sym named) ∙ top_among nodes kept.nest.dual.names n a in
      let (m, has, in_set) = top_marks marks nodes kept.sets n a v (ap (λ s. is_in s v) (sym top) ∙ holds) in (
        m,
        has,
        record {
          rank = omega (arith, in_set.rank, part-le (top_at nodes) children c child, ap length top);
          source = in_concat (top_at nodes) children c m.source child (ap (λ s. is_in s m.source) top ∙ in_set.source);
          step = steps c child n.top.vertices top m.by in_set.step;
        },
      )
    where
      steps : (c : ℕ) → is_in children c ≡ true → (set_of : List ℕ) → top_at nodes c ≡ set_of → (o : Option Hop) → BeginsIn set_of o
          → BeginsIn (concat (map (top_at nodes) children)) o
      steps c child set_of top None h = tt
      steps c child set_of top (Some t) h = in_concat (top_at nodes) children c t.from child (ap (λ s. is_in s t.from) top ∙ h)

  none_bare : All (IsBare name) regions
  none_bare =
      among_All (IsBare name) regions
      (λ r a same.
      absurd (both_ways (is_live nodes name) may.fresh (among_live nodes (node_of marks r) name (map_among (node_of marks) regions r a) same)))

  may_adopt : All (MayAdopt children name) regions
  may_adopt =
      among_All (MayAdopt children name) regions
      (λ r a h.
      inl (outer_alone marks regions regions (λ x b. b) kept.parents r a (is_in-All (λ x. is_outer nodes x ≡ true) children may.outer r.name h)))

  radii_same : (x : ℕ) → radii_from regions' x ≡ radii_from regions x
  radii_same x =
      radii_push (map (reparented_region children (Some name)) regions) new is.radius is.parent x
      ∙ radii_adopted regions children name (Some name) (inr refl) none_bare may_adopt x

  outer_still : (x : ℕ) → is_outer nodes x ≡ true → is_in children x ≡ false → is_outer others x ≡ true
  outer_still x outer out =
      among_outer others x (λ q a. by q (among_either nodes (blossom name children nodes ∷ []) q a))
    where
      by : (q : Node) → IsAmong q nodes ⊎ IsAmong q (blossom name children nodes ∷ []) → is_in q.children x ≡ false
      by q (inl a) = outer_among nodes x outer q a
      by q (inr (inl e)) = ap (λ n. is_in n.children x) (sym e) ∙ out
      by q (inr (inr a)) = absurd a

  not_child : (cs : List ℕ) → All (λ c. is_live nodes c ≡ true) cs → is_in cs name ≡ false
  not_child cs live =
      false_from_ne_true (is_in cs name) (λ h. both_ways (is_live nodes name) may.fresh (is_in-All (λ c. is_live nodes c ≡ true) cs live name h))

  own_outer : is_outer others name ≡ true
  own_outer =
      outer_still name
      (among_outer nodes name
      (λ q a. not_child q.children (All_among (λ n. All (λ c. is_live nodes c ≡ true) n.children) nodes kept.nest.forest.live q a)))
      (not_child children may.live)

  fresh_name : is_in (map (λ r. r.name) regions) new.name ≡ false
  fresh_name =
      ap (is_in (map (λ r. r.name) regions)) is.name_is
      ∙ (ap (λ l. is_in l name) (names_of marks regions) ∙ (names_live nodes name ∙ may.fresh))

  marked : (v : ℕ) (m : Mark) → mark_of marks v ≡ Some m → IsMarked p others regions' marks v m
  marked v m has =
      let old : IsMarked p nodes regions marks v m = kept.marked v m has in
      let (c, cover) = some_cover nodes v old.covered in
      let over = cover_among nodes v c cover in
      marked_moved p nodes others regions regions' marks marks v m old
      (covered_in p others nest over.node (among_left nodes (blossom name children nodes ∷ []) over.node over.among) v over.holds)
      (ap (λ l. is_in l m.source) (top_left nodes (blossom name children nodes ∷ []) m.leaf (in_top nodes m.leaf m.source old.leaf)) ∙ old.leaf)
      (childless_push (map (reparented_region children (Some name)) regions) new m.leaf (adopted_childless children (Some name) regions m.leaf ∙ old.childless))
      (joining.height p nodes name children may kept.nest v) (radii_same m.leaf)
      (λ d h. ap (λ l. is_in l d) (joining.same_leaves p nodes name children may kept.nest) ∙ h) (λ s e. refl)

  whole_list : chain marks (new.base + new.added) new.last ≡ first_of marks new ++ added_to marks new
  whole_list =
      let none : new.base + 0 ≡ new.base = omega arith in
      ap (λ k. chain marks (new.base + k) new.last) is.added
      ∙ (ap (λ k. chain marks k new.last) none
      ∙ (ap (chain marks new.base) is.last
      ∙ (sym (append-nil (first_of marks new)) ∙ ap (λ k. first_of marks new ++ chain marks k new.last) (sym is.added))))

  -- the blossom begins as its first child
  own_begins : (cs : List ℕ) → ((c : ℕ) → is_in cs c ≡ true → is_live nodes c ≡ true) → BeginsWith new.first (concat (map (top_at nodes) cs))
      → BeginsFirst others new.first cs
  own_begins [] live h = tt
  own_begins (c ∷ cs) live h =
      let here = live c (is_in-head c cs) in
      let (n, a, named) = live_among nodes c here in
      let (v, holds) = top_holds p nodes kept.nest n a in
      let top : top_at nodes c ≡ n.top.vertices = ap (top_at nodes) (sym named) ∙ top_among nodes kept.nest.dual.names n a in
      subst (BeginsWith new.first) (sym (top_left nodes (blossom name children nodes ∷ []) c here))
      (held_begins new.first v (top_at nodes c) (concat (map (top_at nodes) cs)) (ap (λ s. is_in s v) top ∙ holds) h)

  begun : StayBegun nodes others
  begun u c h =
      subst (BeginsWith u) (sym (top_left nodes (blossom name children nodes ∷ []) c (in_top nodes c u (begins_in u (top_at nodes c) h)))) h

  pub kept_joined : IsKept p regions' marks
  kept_joined = record {
    nest = subst (IsNest p) (sym nodes_joined) nest;
    walks = subst (HaveWalks p) (sym nodes_joined) (walks_joined p nodes name children may kept.nest kept.walks);
    room = kept.room;
    radii =
        All-push (λ r. r.radius ≡ total_value (layers_of (node_of marks r))) (map (reparented_region children (Some name)) regions) new
        (adopted_radii marks children (Some name) regions kept.radii)
        (is.radius ∙ ap (λ n. total_value (layers_of n)) (sym blossom_node));
    parents =
        subst (λ ns. HaveParents ns regions') (sym nodes_joined)
        (subst (λ x. HaveParents others (map (reparented_region children (Some x)) regions ++ new ∷ [])) is.name_is
        (parents_joined nodes others children new regions fresh_name is.children_are outer_still kept.parents
        (subst (HasParent others [] new.name) (sym is.parent) (ap (is_outer others) is.name_is ∙ own_outer))));
    sets =
        subst (λ ns. All (λ c. HasMarks marks c.vertices) (all_cuts ns)) (sym nodes_joined)
        (inserted_All (λ c. HasMarks marks c.vertices) (blossom name children nodes).top (all_cuts nodes) (all_cuts others)
        (joining.insertion p nodes name children may kept.nest) kept.sets own_set);
    listed =
        All-push (IsListed marks) (map (reparented_region children (Some name)) regions) new (adopted_lists marks children (Some name) regions kept.listed)
        (record { first = subst (BeginsWith new.first) (sym is.first) is.begins; whole = whole_list });
    begins =
        subst (λ ns. BeginAlike ns regions') (sym nodes_joined)
        (All-push (λ r. BeginsFirst others r.first r.children.items) (map (reparented_region children (Some name)) regions) new
        (adopted_begun others children (Some name) regions (all_begun nodes others regions begun kept.begins))
        (subst (BeginsFirst others new.first) (sym is.children_are)
        (own_begins children (λ c h. is_in-All (λ x. is_live nodes x ≡ true) children may.live c h) is.begins)));
    marked = λ v m has. subst (λ ns. IsMarked p ns regions' marks v m) (sym nodes_joined) (marked v m has);
  }

-- it has no more vertices than the problem
pub blossom_sized : (p : Problem) (regions : List Region) (marks : List (Option Mark)) → IsKept p regions marks → IsWithinLimits p → (name : ℕ)
    (children : List ℕ) → MayJoin (nodes_of marks regions) name children → length (concat (map (top_at (nodes_of marks regions)) children)) ≤ p.vertices
blossom_sized p regions marks kept limits name children may =
    let nodes = nodes_of marks regions in
    let new = blossom name children nodes in
    odd_sized p limits (leaves (joined_nodes name children nodes)) new.top
    (top_is_odd p (joined_nodes name children nodes) (joining.nest_joined p nodes name children may kept.nest) new (among_right nodes (new ∷ []) new (inl refl)))
