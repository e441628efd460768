-- What two dual states of separated parts keep, they keep as one of the whole.
use Rattle.std.proofs.Common.{ℕ, ◌≡◌, ◌+◌, ◌<◌, inl, inr, Bool, true, false, List, [], ◌∷◌, ◌++◌, length, map, All, Option, Some, None, refl, sym, ap, ◌∙◌, subst, arith}
use Rattle.std.proofs.lemmas.Bool.{both_ways, false_from_ne_true, or_left, or_right}
use Rattle.std.proofs.lemmas.List.{map-append}
use Rattle.std.proofs.lemmas.List.Elements.{All-append, All-map, All-weaker}
use Rattle.fb_graph.specs.Parity.{is_in}
use Rattle.fb_graph.specs.Problem.{Problem, edge_at}
use Rattle.fb_graph.specs.Certificate.{AreDistinct, total_value}
use Rattle.fb_graph.specs.Components.{Leads}
use Rattle.fb_graph.specs.Dual.{Node, all_cuts, height_of, is_live, is_outer, layers_of, leaves, top_at}
use Rattle.fb_graph.specs.Limits.{IsWithinLimits}
use Rattle.fb_graph.specs.Nests.{IsNest}
use Rattle.fb_graph.specs.NestUnions.{AreBeside, AreParts, HaveOwnNames}
use Rattle.fb_graph.specs.RenamedNodes.{renamed_node, renamed_nodes}
use Rattle.fb_graph.specs.SourceWalks.{HaveWalks}
use Rattle.fb_graph.proofs.Among.{IsAmong, All_among, among_All, among_left, among_live, among_map, among_right, cover_among, live_among, map_among, top_among, top_left}
use Rattle.fb_graph.proofs.AppendedNodes.{cuts_merged, leaves_merged, outer_both}
use Rattle.fb_graph.proofs.Forests.{absent_outer}
use Rattle.fb_graph.proofs.Members.{is_in-append}
use Rattle.fb_graph.proofs.MergedNests.{beside_of_parts, nests_merged, walks_merged}
use Rattle.fb_graph.proofs.NestParts.{map_agree, names_live}
use Rattle.fb_graph.proofs.NestUnions.{left_height, right_height}
use Rattle.fb_graph.proofs.RenamedNodes.{cuts_renamed, leaves_renamed, nest_renamed, outer_renamed, walks_renamed}
use Rattle.fb_regions.specs.declared.marks.Hop.{Hop}
use Rattle.fb_regions.specs.declared.marks.Mark.{Mark}
use Rattle.fb_regions.specs.declared.region.Region.{Region}
use Rattle.fb_regions.specs.InternalKept.{CameBy, HasMarks, HaveParents, IsAfter, IsKept, IsMarked, step_by}
use Rattle.fb_regions.specs.InternalListings.{BeginsFirst, IsListed}
use Rattle.fb_regions.specs.InternalMerged.{AreMarksOver, mark_over, renamed_mark, renamed_region, renamed_regions}
use Rattle.fb_regions.specs.InternalNodes.{before_in, mark_of, node_of, nodes_of, under_in}
use Rattle.fb_regions.specs.Merged.{AreNewNames}
use Rattle.fb_regions.specs.Moves.{BeginsWith}
use Rattle.fb_regions.specs.Walks.{IsStep}
use Rattle.fb_regions.proofs.ByName.{names}
use Rattle.fb_regions.proofs.Found.{names_of, no_top}
use Rattle.fb_regions.proofs.Indexed.{joined_above}
use Rattle.fb_regions.proofs.MergedMarks.{AgreeOn, listed_kept, listed_renamed, node_kept, node_renamed}
use Rattle.fb_regions.proofs.MergedRegions.{childless_before, childless_behind, parents_append, radii_before, radii_behind}
use Rattle.fb_regions.proofs.Moved.{covered_in, in_top, some_cover, top_marks}
use Rattle.fb_regions.proofs.RenamedRegions.{AreApartBy, children_renamed, childless_renamed, parents_renamed, radii_renamed}

-- a vertex came as before where the marks before it are there under other names
came_over : (p whole : Problem) (f : ℕ → ℕ) (defects others : List ℕ) (old new : List (Option Mark)) (v : ℕ) (m : Mark)
    → p.edges ≡ whole.edges → ((u : ℕ) → is_in defects u ≡ true → is_in others u ≡ true)
    → ((u : ℕ) (b : Mark) → mark_of old u ≡ Some b → mark_of new u ≡ Some (renamed_mark f b))
    → (o : Option Hop) → CameBy p defects old v m o → CameBy whole others new v (renamed_mark f m) o
came_over p whole f defects others old new v m edges more marks None came = (more v came.0, came.1, came.2)
came_over p whole f defects others old new v m edges more marks (Some s) came = (step, after (mark_of old s.from) refl came.1)
  where
    step : IsStep whole (step_by whole v s)
    step = record {
      within = subst (λ es. s.edge < length es) edges came.0.within;
      leads = subst (λ es. Leads (edge_at es s.edge) s.from v) edges came.0.leads;
      weighs = refl;
    }

    after : (o : Option Mark) → mark_of old s.from ≡ o → IsAfter m (edge_at p.edges s.edge).weight o
        → IsAfter (renamed_mark f m) (edge_at whole.edges s.edge).weight (mark_of new s.from)
    after None e k = absurd k
    after (Some b) e k =
        subst (IsAfter (renamed_mark f m) (edge_at whole.edges s.edge).weight) (sym (marks s.from b e)) (
          k.0,
          ap f k.1,
          k.2,
          subst (λ es. m.distance ≡ b.distance + (edge_at es s.edge).weight) edges k.3,
        )

module _ (left right whole : Problem) (regions others : List Region) (marks more : List (Option Mark)) (f : ℕ → ℕ)
    (limits : IsWithinLimits whole) (parts : AreParts left right whole) (one : IsKept left regions marks)
    (two : IsKept right others more) (new : AreNewNames (nodes_of marks regions) (nodes_of more others) f) where
  abbrev lefts : List Node
  lefts = nodes_of marks regions

  abbrev rights : List Node
  rights = nodes_of more others

  abbrev renamed : List Node
  renamed = renamed_nodes f rights

  abbrev all : List Node
  all = lefts ++ renamed

  abbrev regions' : List Region
  regions' = regions ++ renamed_regions f others

  left_real : (v : ℕ) (m : Mark) → mark_of marks v ≡ Some m → left.is_real v ≡ true
  left_real v m at = one.nest.dual.real v (one.marked v m at).covered

  right_real : (v : ℕ) (m : Mark) → mark_of more v ≡ Some m → right.is_real v ≡ true
  right_real v m at = two.nest.dual.real v (two.marked v m at).covered

  left_live : (x : ℕ) → is_in (names regions) x ≡ is_live lefts x
  left_live x = ap (λ l. is_in l x) (names_of marks regions) ∙ names_live lefts x

  right_live : (x : ℕ) → is_in (names others) x ≡ is_live rights x
  right_live x = ap (λ l. is_in l x) (names_of more others) ∙ names_live rights x

  apart : AreApartBy f others
  apart a b h k e = new.apart a b (sym (right_live a) ∙ h) (sym (right_live b) ∙ k) e

  own : HaveOwnNames lefts renamed
  own x live =
      false_from_ne_true (is_live renamed x)
      (λ h.
      let (n, a, named) = live_among renamed x h in
      let (m, b, e) = among_map (renamed_node f) rights n a in
      both_ways (is_live lefts x)
      (ap (is_live lefts) (sym named ∙ ap (λ y. y.name) (sym e)) ∙ new.fresh m.name (among_live rights m m.name b refl)) live)

  renamed_nest : IsNest right renamed
  renamed_nest = nest_renamed right rights f new.apart two.nest

  nest : IsNest whole all
  nest = nests_merged left right whole lefts renamed limits parts own one.nest renamed_nest

  beside : AreBeside left right whole lefts renamed
  beside = beside_of_parts left right whole lefts renamed parts own one.nest renamed_nest

  left_top : (x : ℕ) → is_live lefts x ≡ true → top_at all x ≡ top_at lefts x
  left_top x live = top_left lefts renamed x live

  right_top : (x : ℕ) → is_live rights x ≡ true → top_at all (f x) ≡ top_at rights x
  right_top x live =
      let (n, a, named) = live_among rights x live in
      subst (λ y. top_at all (f y) ≡ top_at rights y) named
      (top_among all nest.dual.names (renamed_node f n) (among_right lefts renamed (renamed_node f n) (map_among (renamed_node f) rights n a))
      ∙ sym (top_among rights two.nest.dual.names n a))

  left_leaf : (v : ℕ) → is_in (leaves lefts) v ≡ true → is_in (leaves all) v ≡ true
  left_leaf v h =
      ap (λ l. is_in l v) (leaves_merged lefts renamed)
      ∙ (is_in-append (leaves lefts) (leaves renamed) v ∙ or_left (is_in (leaves lefts) v) (is_in (leaves renamed) v) h)

  right_leaf : (v : ℕ) → is_in (leaves rights) v ≡ true → is_in (leaves all) v ≡ true
  right_leaf v h =
      ap (λ l. is_in l v) (leaves_merged lefts renamed)
      ∙ (is_in-append (leaves lefts) (leaves renamed) v
      ∙ or_right (is_in (leaves lefts) v) (is_in (leaves renamed) v) (ap (λ l. is_in l v) (leaves_renamed f rights) ∙ h))

  left_outer : (x : ℕ) → is_in (names regions) x ≡ true → is_outer lefts x ≡ true → is_outer all x ≡ true
  left_outer x known outer =
      outer_both lefts renamed x outer (absent_outer renamed renamed_nest.forest x (own x (sym (left_live x) ∙ known)))

  right_outer : (x : ℕ) → is_in (names others) x ≡ true → is_outer rights x ≡ true → is_outer all (f x) ≡ true
  right_outer x known outer =
      let live : is_live rights x ≡ true = sym (right_live x) ∙ known in
      outer_both lefts renamed (f x) (absent_outer lefts one.nest.forest (f x) (new.fresh x live))
      (outer_renamed right rights f x new.apart two.nest live ∙ outer)

  begins_live : (nodes : List Node) (v x : ℕ) → BeginsWith v (top_at nodes x) → is_live nodes x ≡ true
  begins_live nodes v x begins = by (is_live nodes x) refl
    where
      by : (b : Bool) → is_live nodes x ≡ b → b ≡ true
      by true e = refl
      by false e = absurd (subst (BeginsWith v) (no_top nodes x e) begins)

  pub distinct_both : AreDistinct (names (regions ++ renamed_regions f others))
  distinct_both = subst AreDistinct (sym (by regions others)) nest.dual.names
    where
      behind : (ss : List Region) → names (renamed_regions f ss) ≡ map (λ n. n.name) (renamed_nodes f (nodes_of more ss))
      behind [] = refl
      behind (s ∷ ss) = ap (λ l. f s.name ∷ l) (behind ss)

      by : (rs ss : List Region) → names (rs ++ renamed_regions f ss) ≡ map (λ n. n.name) (nodes_of marks rs ++ renamed_nodes f (nodes_of more ss))
      by [] ss = behind ss
      by (r ∷ rs) ss = ap (λ l. r.name ∷ l) (by rs ss)

  module _ (both : List (Option Mark)) (over : AreMarksOver f marks more both) where
    -- a vertex of the left part has its mark still
    left_mark : (v : ℕ) (m : Mark) → mark_of marks v ≡ Some m → mark_of both v ≡ Some m
    left_mark v m at = over.marks v ∙ by (mark_of more v) refl
      where
        by : (o : Option Mark) → mark_of more v ≡ o → mark_over f o (mark_of marks v) ≡ Some m
        by None e = at
        by (Some other) e =
            absurd (both_ways (right.is_real v) (parts.separated.vertices v (left_real v m at)) (right_real v other e))

    right_mark : (v : ℕ) (m : Mark) → mark_of more v ≡ Some m → mark_of both v ≡ Some (renamed_mark f m)
    right_mark v m at = over.marks v ∙ ap (λ o. mark_over f o (mark_of marks v)) at

    left_agree : (r : Region) → IsAmong r regions → AgreeOn marks both (node_of marks r).top.vertices
    left_agree r a =
        let marked = top_marks marks lefts one.sets (node_of marks r) (map_among (node_of marks) regions r a) in
        record {
          before = λ v h. let (m, at, is) = marked v h in ap before_in (left_mark v m at ∙ sym at);
          under = λ v h. let (m, at, is) = marked v h in ap under_in (left_mark v m at ∙ sym at);
        }

    right_agree : (r : Region) → IsAmong r others → AgreeOn more both (node_of more r).top.vertices
    right_agree r a =
        let marked = top_marks more rights two.sets (node_of more r) (map_among (node_of more) others r a) in
        record {
          before = λ v h. let (m, at, is) = marked v h in ap before_in (right_mark v m at) ∙ sym (ap before_in at);
          under = λ v h. let (m, at, is) = marked v h in ap under_in (right_mark v m at) ∙ sym (ap under_in at);
        }

    left_node : (r : Region) → IsAmong r regions → node_of both r ≡ node_of marks r
    left_node r a = node_kept marks both r (left_agree r a)

    right_node : (r : Region) → IsAmong r others → node_of both (renamed_region f r) ≡ renamed_node f (node_of more r)
    right_node r a = node_renamed more both r (right_agree r a) f

    pub nodes_both : nodes_of both (regions ++ renamed_regions f others) ≡ nodes_of marks regions ++ renamed_nodes f (nodes_of more others)
    nodes_both =
        map-append (node_of both) regions (renamed_regions f others)
        ∙ (ap (λ l. l ++ nodes_of both (renamed_regions f others))
        (map_agree (node_of both) (node_of marks) regions
        (among_All (λ r. node_of both r ≡ node_of marks r) regions left_node))
        ∙ ap (λ l. lefts ++ l) (by others right_node))
      where
        by : (rs : List Region)
            → ((r : Region) → IsAmong r rs → node_of both (renamed_region f r) ≡ renamed_node f (node_of more r))
            → nodes_of both (renamed_regions f rs) ≡ renamed_nodes f (nodes_of more rs)
        by [] same = refl
        by (r ∷ rs) same =
            ap (λ n. n ∷ nodes_of both (renamed_regions f rs)) (same r (inl refl))
            ∙ ap (λ l. renamed_node f (node_of more r) ∷ l) (by rs (λ s a. same s (inr a)))

    left_marked : (v : ℕ) (m : Mark) → mark_of marks v ≡ Some m → IsMarked whole all regions' both v m
    left_marked v m at =
        let is = one.marked v m at in
        let (name, cover) = some_cover lefts v is.covered in
        let under = cover_among lefts v name cover in
        let live : is_live lefts m.leaf ≡ true = in_top lefts m.leaf m.source is.leaf in
        record {
          covered = covered_in whole all nest under.node (among_left lefts renamed under.node under.among) v under.holds;
          leaf = ap (λ l. is_in l m.source) (left_top m.leaf live) ∙ is.leaf;
          childless = childless_before regions (renamed_regions f others) m.leaf is.childless;
          defect = left_leaf m.source is.defect;
          balance =
              omega (
                arith,
                is.balance,
                left_height left right whole lefts renamed beside one.nest renamed_nest v (left_real v m at),
                radii_before regions (renamed_regions f others) m.leaf (joined_above left regions marks one) (left_live m.leaf ∙ live),
              );
          came =
              came_over left whole (λ x. x) (leaves lefts) (leaves all) marks both v m parts.left_part.edges left_leaf left_mark m.by is.came;
        }

    right_marked : (v : ℕ) (m : Mark) → mark_of more v ≡ Some m → IsMarked whole all regions' both v (renamed_mark f m)
    right_marked v m at =
        let is = two.marked v m at in
        let (name, cover) = some_cover rights v is.covered in
        let under = cover_among rights v name cover in
        let live : is_live rights m.leaf ≡ true = in_top rights m.leaf m.source is.leaf in
        record {
          covered =
              covered_in whole all nest (renamed_node f under.node)
              (among_right lefts renamed (renamed_node f under.node) (map_among (renamed_node f) rights under.node under.among)) v under.holds;
          leaf = ap (λ l. is_in l m.source) (right_top m.leaf live) ∙ is.leaf;
          childless = childless_behind regions (renamed_regions f others) (f m.leaf) (childless_renamed f others m.leaf is.childless);
          defect = right_leaf m.source is.defect;
          balance =
              omega (
                arith,
                is.balance,
                right_height left right whole lefts renamed beside one.nest renamed_nest v (right_real v m at),
                ap (λ cuts. height_of cuts v) (cuts_renamed f rights),
                radii_behind regions (renamed_regions f others) (f m.leaf) (left_live (f m.leaf) ∙ new.fresh m.leaf live),
                radii_renamed f others m.leaf apart (joined_above right others more two) (right_live m.leaf ∙ live),
              );
          came =
              came_over right whole f (leaves rights) (leaves all) more both v m parts.right_part.edges right_leaf right_mark m.by is.came;
        }

    marked_both : (v : ℕ) (m : Mark) → mark_of both v ≡ Some m → IsMarked whole all regions' both v m
    marked_both v m at = by (mark_of more v) refl
      where
        by : (o : Option Mark) → mark_of more v ≡ o → IsMarked whole all regions' both v m
        by None e = left_marked v m (sym (ap (λ o. mark_over f o (mark_of marks v)) e) ∙ (sym (over.marks v) ∙ at))
        by (Some b) e =
            let same : renamed_mark f b ≡ m = (let k : Some (renamed_mark f b) ≡ Some m = sym (right_mark v b e) ∙ at in cc) in
            subst (IsMarked whole all regions' both v) same (right_marked v b e)

    sets_both : All (λ c. HasMarks both c.vertices) (all_cuts all)
    sets_both =
        subst (All (λ c. HasMarks both c.vertices)) (sym (cuts_merged lefts renamed ∙ ap (λ l. all_cuts lefts ++ l) (cuts_renamed f rights)))
        (All-append (λ c. HasMarks both c.vertices) (all_cuts lefts) (all_cuts rights)
        (All-weaker (λ c. HasMarks marks c.vertices) (λ c. HasMarks both c.vertices)
        (λ c has v h. let (m, at, is) = has v h in (m, left_mark v m at, is)) (all_cuts lefts) one.sets)
        (All-weaker (λ c. HasMarks more c.vertices) (λ c. HasMarks both c.vertices)
        (λ c has v h.
        let (m, at, is) = has v h in
        (renamed_mark f m, right_mark v m at, record { rank = is.rank; source = is.source; step = is.step }))
        (all_cuts rights) two.sets))

    begins_both : All (λ r. BeginsFirst all r.first r.children.items) regions'
    begins_both =
        All-append (λ r. BeginsFirst all r.first r.children.items) regions (renamed_regions f others)
        (All-weaker (λ r. BeginsFirst lefts r.first r.children.items) (λ r. BeginsFirst all r.first r.children.items)
        (λ r. by r.first r.children.items) regions one.begins)
        (All-map (λ r. BeginsFirst all r.first r.children.items) (renamed_region f) others
        (All-weaker (λ r. BeginsFirst rights r.first r.children.items)
        (λ r. BeginsFirst all r.first (renamed_region f r).children.items)
        (λ r begins. subst (BeginsFirst all r.first) (sym (children_renamed f r)) (behind r.first r.children.items begins)) others two.begins))
      where
        by : (v : ℕ) (cs : List ℕ) → BeginsFirst lefts v cs → BeginsFirst all v cs
        by v [] begins = tt
        by v (c ∷ cs) begins = subst (BeginsWith v) (sym (left_top c (begins_live lefts v c begins))) begins

        behind : (v : ℕ) (cs : List ℕ) → BeginsFirst rights v cs → BeginsFirst all v (map f cs)
        behind v [] begins = tt
        behind v (c ∷ cs) begins = subst (BeginsWith v) (sym (right_top c (begins_live rights v c begins))) begins

    pub kept_both : left.vertices ≡ whole.vertices → IsKept whole (regions ++ renamed_regions f others) both
    kept_both room = record {
      nest = subst (IsNest whole) (sym nodes_both) nest;
      walks = subst (HaveWalks whole) (sym nodes_both)
          (walks_merged left right whole lefts renamed parts own one.nest renamed_nest one.walks (walks_renamed right rights f two.walks));
      room = over.count ∙ (one.room ∙ room);
      radii = All-append (λ r. r.radius ≡ total_value (layers_of (node_of both r))) regions (renamed_regions f others)
          (among_All (λ r. r.radius ≡ total_value (layers_of (node_of both r))) regions
          (λ r a.
          All_among (λ s. s.radius ≡ total_value (layers_of (node_of marks s))) regions one.radii r a
          ∙ ap (λ n. total_value (layers_of n)) (sym (left_node r a))))
          (All-map (λ r. r.radius ≡ total_value (layers_of (node_of both r))) (renamed_region f) others
          (among_All (λ r. r.radius ≡ total_value (layers_of (node_of both (renamed_region f r)))) others
          (λ r a.
          All_among (λ s. s.radius ≡ total_value (layers_of (node_of more s))) others two.radii r a
          ∙ ap (λ n. total_value (layers_of n)) (sym (right_node r a)))));
      parents = subst (λ ns. HaveParents ns regions') (sym nodes_both)
          (parents_append lefts all regions (renamed_regions f others) left_outer one.parents
          (parents_renamed rights all f others apart right_outer two.parents));
      sets = subst (λ ns. All (λ c. HasMarks both c.vertices) (all_cuts ns)) (sym nodes_both) sets_both;
      listed = All-append (IsListed both) regions (renamed_regions f others)
          (among_All (IsListed both) regions
          (λ r a. listed_kept marks both r (left_agree r a) (All_among (IsListed marks) regions one.listed r a)))
          (All-map (IsListed both) (renamed_region f) others
          (among_All (λ r. IsListed both (renamed_region f r)) others
          (λ r a. listed_renamed more both r (right_agree r a) f (All_among (IsListed more) others two.listed r a))));
      begins = subst (λ ns. All (λ r. BeginsFirst ns r.first r.children.items) regions') (sym nodes_both) begins_both;
      marked = λ v m at. subst (λ ns. IsMarked whole ns regions' both v m) (sym nodes_both) (marked_both v m at);
    }
