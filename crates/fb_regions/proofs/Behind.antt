-- Marks of which only the vertices before them change.
use Rattle.std.proofs.Common.{ℕ, ◌≡◌, ◌⊎◌, inl, inr, true, List, length, set, Option, Some, None, refl, sym, ap, ◌∙◌, subst}
use Rattle.std.specs.List.{All}
use Rattle.std.proofs.lemmas.Bool.{cases_eq}
use Rattle.std.proofs.lemmas.List.{length-set}
use Rattle.fb_graph.specs.Problem.{Problem, edge_at}
use Rattle.fb_graph.specs.Certificate.{total_value}
use Rattle.fb_graph.specs.declared.parts.Cut.{Cut}
use Rattle.fb_graph.specs.Dual.{Node, all_cuts, is_outer, layers_of, leaves}
use Rattle.fb_graph.specs.Nests.{IsNest}
use Rattle.fb_graph.specs.SourceWalks.{HaveWalks}
use Rattle.fb_graph.proofs.Among.{IsAmong, All_among, among_All, map_among}
use Rattle.fb_graph.proofs.NestParts.{map_agree, top_is_odd}
use Rattle.fb_regions.specs.declared.marks.Hop.{Hop}
use Rattle.fb_regions.specs.declared.marks.Mark.{Mark}
use Rattle.fb_regions.specs.declared.region.Region.{Region}
use Rattle.fb_regions.specs.InternalKept.{CameBy, HasMarks, HaveParents, IsAfter, IsKept, IsMarked}
use Rattle.fb_regions.specs.InternalListings.{AreListed, BeginAlike, IsListed, marked_behind}
use Rattle.fb_regions.specs.InternalNodes.{before_in, mark_of, node_of, nodes_of, under_in}
use Rattle.fb_regions.specs.Moves.{BeginsWith}
use Rattle.fb_regions.proofs.Fronts.{fronts, list_stays, node_stays}
use Rattle.fb_regions.proofs.Marking.{mark_new, mark_other, marked_below}

-- each mark but for the vertex before it
abbrev pub DifferBehind : List (Option Mark) → List (Option Mark) → Type 0
DifferBehind marks other = (v : ℕ) → (u : ℕ) × (mark_of other v ≡ marked_behind u (mark_of marks v))

after_behind : (m : Mark) (weight u b : ℕ) (o : Option Mark) → IsAfter m weight o → IsAfter (record m { before = u }) weight (marked_behind b o)
after_behind m weight u b None h = absurd h
after_behind m weight u b (Some x) h = h

came_behind : (p : Problem) (defects : List ℕ) (marks other : List (Option Mark)) (v : ℕ) (m : Mark) (u : ℕ) (o : Option Hop) → DifferBehind marks other
    → CameBy p defects marks v m o → CameBy p defects other v (record m { before = u }) o
came_behind p defects marks other v m u None differ h = h
came_behind p defects marks other v m u (Some s) differ h =
    let (b, e) = differ s.from in (
      h.0,
      subst (IsAfter (record m { before = u }) (edge_at p.edges s.edge).weight) (sym e)
          (after_behind m (edge_at p.edges s.edge).weight u b (mark_of marks s.from) h.1),
    )

has_behind : (marks other : List (Option Mark)) (vs : List ℕ) → DifferBehind marks other → HasMarks marks vs → HasMarks other vs
has_behind marks other vs differ has v within =
    let (m, at, is) = has v within in
    let (u, e) = differ v in
    (record m { before = u }, e ∙ ap (marked_behind u) at, record { rank = is.rank; source = is.source; step = is.step })

-- nothing else that a state keeps speaks of them
pub kept_behind : (p : Problem) (regions : List Region) (marks other : List (Option Mark)) → IsKept p regions marks → length other ≡ length marks
    → DifferBehind marks other → ((r : Region) → IsAmong r regions → node_of other r ≡ node_of marks r) → AreListed other regions
    → IsKept p regions other
kept_behind p regions marks other kept room differ still listed = record {
  nest = subst (IsNest p) (sym nodes) kept.nest;
  walks = subst (HaveWalks p) (sym nodes) kept.walks;
  room = room ∙ kept.room;
  radii =
      among_All (λ r. r.radius ≡ total_value (layers_of (node_of other r))) regions
      (λ r a.
      All_among (λ y. y.radius ≡ total_value (layers_of (node_of marks y))) regions kept.radii r a
      ∙ ap (λ n. total_value (layers_of n)) (sym (still r a)));
  parents = subst (λ ns. HaveParents ns regions) (sym nodes) kept.parents;
  sets =
      subst (λ ns. All (λ c. HasMarks other c.vertices) (all_cuts ns)) (sym nodes)
      (among_All (λ (c : Cut). HasMarks other c.vertices) (all_cuts (nodes_of marks regions))
      (λ c a.
      has_behind marks other c.vertices differ (All_among (λ (d : Cut). HasMarks marks d.vertices) (all_cuts (nodes_of marks regions)) kept.sets c a)));
  listed = listed;
  begins = subst (λ ns. BeginAlike ns regions) (sym nodes) kept.begins;
  marked = λ v m has. subst (λ ns. IsMarked p ns regions other v m) (sym nodes) (marked v m has);
}
  where
    nodes : nodes_of other regions ≡ nodes_of marks regions
    nodes = map_agree (node_of other) (node_of marks) regions (among_All (λ r. node_of other r ≡ node_of marks r) regions still)

    by : (v : ℕ) (m : Mark) (u : ℕ) (o : Option Mark) → mark_of marks v ≡ o → marked_behind u o ≡ Some m → IsMarked p (nodes_of marks regions) regions other v m
    by v m u None at e = absurd (let clash : None ≡ Some m = e in cc)
    by v m u (Some x) at e =
        let is : IsMarked p (nodes_of marks regions) regions marks v x = kept.marked v x at in
        let same : record x { before = u } ≡ m = cc in
        subst (IsMarked p (nodes_of marks regions) regions other v) same
        (record {
          covered = is.covered;
          leaf = is.leaf;
          childless = is.childless;
          defect = is.defect;
          balance = is.balance;
          came = came_behind p (leaves (nodes_of marks regions)) marks other v x u x.by differ is.came;
        })

    marked : (v : ℕ) (m : Mark) → mark_of other v ≡ Some m → IsMarked p (nodes_of marks regions) regions other v m
    marked v m has = let (u, e) = differ v in by v m u (mark_of marks v) refl (sym e ∙ has)

-- another vertex stands before the first one of an outer node
module _ (p : Problem) (regions : List Region) (marks : List (Option Mark)) (kept : IsKept p regions marks) (f u : ℕ) (m : Mark)
    (has : mark_of marks f ≡ Some m) (outer : Node) (among : IsAmong outer (nodes_of marks regions))
    (out : is_outer (nodes_of marks regions) outer.name ≡ true) (begins : BeginsWith f outer.top.vertices) where
  abbrev other : List (Option Mark)
  other = set marks f (Some (record m { before = u }))

  pub new_front : mark_of other f ≡ Some (record m { before = u })
  new_front = mark_new marks f (Some (record m { before = u })) (marked_below marks f m has)

  differ : DifferBehind marks other
  differ v = by (cases_eq v f)
    where
      same : (o : Option Mark) → o ≡ marked_behind (before_in o) o
      same None = refl
      same (Some x) = refl

      by : (v ≡ f) ⊎ (v ≡ f → ⊥) → (b : ℕ) × (mark_of other v ≡ marked_behind b (mark_of marks v))
      by (inl e) = (u, ap (mark_of other) e ∙ (new_front ∙ (ap (marked_behind u) (sym has) ∙ ap (λ w. marked_behind u (mark_of marks w)) (sym e))))
      by (inr ne) = (before_in (mark_of marks v), mark_other marks f v (Some (record m { before = u })) ne ∙ same (mark_of marks v))

  under : (v : ℕ) → under_in (mark_of other v) ≡ under_in (mark_of marks v)
  under v = let (b, e) = differ v in ap under_in e ∙ by b (mark_of marks v)
    where
      by : (b : ℕ) (o : Option Mark) → under_in (marked_behind b o) ≡ under_in o
      by b None = refl
      by b (Some x) = refl

  before : (v : ℕ) → (v ≡ f → ⊥) → before_in (mark_of other v) ≡ before_in (mark_of marks v)
  before v ne = ap before_in (mark_other marks f v (Some (record m { before = u })) ne)

  pub still_node : (r : Region) → IsAmong r regions → node_of other r ≡ node_of marks r
  still_node r a =
      node_stays marks other r f (All_among (IsListed marks) regions kept.listed r a)
      (top_is_odd p (nodes_of marks regions) kept.nest (node_of marks r) (map_among (node_of marks) regions r a)).distinct
      (fronts p regions marks kept f outer among out begins (node_of marks r) (map_among (node_of marks) regions r a)) before under

  pub nodes_behind : nodes_of other regions ≡ nodes_of marks regions
  nodes_behind = map_agree (node_of other) (node_of marks) regions (among_All (λ r. node_of other r ≡ node_of marks r) regions still_node)

  pub kept_front : IsKept p regions other
  kept_front =
      kept_behind p regions marks other kept (length-set marks f (Some (record m { before = u }))) differ still_node
      (among_All (IsListed other) regions
      (λ r a.
      list_stays marks other r f (All_among (IsListed marks) regions kept.listed r a)
      (top_is_odd p (nodes_of marks regions) kept.nest (node_of marks r) (map_among (node_of marks) regions r a)).distinct
      (fronts p regions marks kept f outer among out begins (node_of marks r) (map_among (node_of marks) regions r a)) before))
