-- All nodes as time passes: each moves at its pace, which is one step of the trees.
use Rattle.std.proofs.Common.{ℕ, ◌≡◌, ◌+◌, ◌-◌, ◌*◌, ◌≤◌, ◌==◌, inl, inr, Bool, true, false, List, [], ◌∷◌, Option, Some, None, refl, sym, ap, ◌∙◌, subst, arith, if◌then◌else◌}
use Rattle.std.specs.List.{All}
use Rattle.std.specs.Option.{IsSome}
use Rattle.std.proofs.lemmas.Bool.{eq-eqb, eqb-true}
use Rattle.std.proofs.lemmas.List.Elements.{All-map}
use Rattle.std.proofs.lemmas.List.Sums.{sum_by_push}
use Rattle.fb_graph.specs.Certificate.{AreDistinct, total_value}
use Rattle.fb_graph.specs.Counts.{as_count}
use Rattle.fb_graph.specs.Covers.{AreRoles, passes}
use Rattle.fb_graph.specs.Dual.{Node, IsCrossed, all_cuts, cover_of, is_outer, layers_of, leaves, top_at}
use Rattle.fb_graph.specs.Limits.{IsWithinLimits}
use Rattle.fb_graph.specs.Nests.{IsNest}
use Rattle.fb_graph.specs.Parity.{is_in}
use Rattle.fb_graph.specs.Problem.{Problem}
use Rattle.fb_graph.specs.SourceWalks.{HaveWalks}
use Rattle.fb_graph.specs.Steps.{MayStep, Roles, stepped_node, stepped_nodes}
use Rattle.fb_graph.specs.declared.parts.Cut.{Cut}
use Rattle.fb_graph.proofs.Among.{IsAmong, All_among, among_All, among_is_in, among_map, map_among, top_among}
use Rattle.fb_graph.proofs.SourceWalks.{walks_stepped}
use Rattle.fb_graph.proofs.StepHeights.{cover_stepped, height_stepped, leaves_stepped, outer_stepped}
use Rattle.fb_graph.proofs.SteppedNests.{nest_stepped}
use Rattle.fb_graph.proofs.StepTurns.{top_stepped}
use Rattle.fb_regions.specs.declared.marks.Mark.{Mark}
use Rattle.fb_regions.specs.declared.region.Region.{Region}
use Rattle.fb_regions.specs.declared.roles.Role.{Role}
use Rattle.fb_regions.specs.declared.roles.Role.TheVariants.{Plus, Minus, Out}
use Rattle.fb_regions.specs.InternalClock.{HasBegun, HaveBegun, all_at, moved_by, names_paced, now_at}
use Rattle.fb_regions.specs.InternalHeads.{HaveHeads}
use Rattle.fb_regions.specs.InternalKept.{HasMarks, HasParent, HaveParents, IsKept, IsMarked}
use Rattle.fb_regions.specs.InternalListings.{BeginAlike, BeginsFirst, IsListed, region_named}
use Rattle.fb_regions.specs.InternalNodes.{mark_of, node_of, nodes_of, radii_from, root_from}
use Rattle.fb_regions.specs.Moves.{BeginsWith}
use Rattle.fb_regions.specs.InternalPlaces.{IsIndex}
use Rattle.fb_regions.specs.Paces.{Paced, grows, shrinks}
use Rattle.fb_regions.proofs.Begun.{all_begun}
use Rattle.fb_regions.proofs.ByName.{names, other_name}
use Rattle.fb_regions.proofs.ClockLists.{paced_same}
use Rattle.fb_regions.proofs.ClockMoves.{names_apart, paced_head}
use Rattle.fb_regions.proofs.ClockReadings.{childless_at, children_at, index_at}
use Rattle.fb_regions.proofs.HeadLists.{heads_map}
use Rattle.fb_regions.proofs.Listings.{listed_alike}
use Rattle.fb_regions.proofs.Moved.{came_still}
use Rattle.fb_regions.proofs.PaceNames.{pace_named, paced_named}
use Rattle.fb_regions.proofs.Radii.{above}
use Rattle.fb_regions.proofs.Readings.{cover_some}
use Rattle.fb_regions.proofs.Roots.{outer_alone}
use Rattle.fb_regions.proofs.Stepped.{IsTurn, sets_stepped}
use Rattle.fb_regions.proofs.Turned.{top-le}

-- a node's pace is that of its name
pace_among : (rs : List Region) → AreDistinct (names rs) → (r : Region) → IsAmong r rs → pace_named rs r.name ≡ r.pace
pace_among [] distinct r a = absurd a
pace_among (x ∷ xs) distinct r (inl e) =
    ap (λ b. if b then x.pace else pace_named xs r.name) (eq-eqb x.name r.name (ap (λ y. y.name) e)) ∙ ap (λ y. y.pace) e
pace_among (x ∷ xs) distinct r (inr a) =
    ap (λ b. if b then x.pace else pace_named xs r.name)
    (other_name x xs r.name distinct.0 (among_is_in (names xs) r.name (map_among (λ y. y.name) xs r a)))
    ∙ pace_among xs distinct.1 r a

-- the roles of a node are those of its pace
pub record IsPaced (roles : Roles) (r : Region) : Type 0 where
  pub plus : roles.is_plus r.name ≡ grows r.pace
  pub minus : roles.is_minus r.name ≡ shrinks r.pace

abbrev pub roles_by : List Region → Roles
roles_by rs = record { is_plus = is_in (names_paced grows rs); is_minus = is_in (names_paced shrinks rs) }

paced_by_names : (rs : List Region) → AreDistinct (names rs) → (r : Region) → IsAmong r rs → IsPaced (roles_by rs) r
paced_by_names rs distinct r a = record {
  plus = paced_named grows refl rs r.name distinct ∙ ap grows (pace_among rs distinct r a);
  minus = paced_named shrinks refl rs r.name distinct ∙ ap shrinks (pace_among rs distinct r a);
}

-- a value after the time k
value_moved : (pace : Role) (value time k : ℕ) → time ≡ k
    → moved_by pace value time ≡ (if grows pace then value + k else if shrinks pace then value - k else value)
value_moved Plus value time k e = ap (λ t. value + t) e
value_moved Minus value time k e = ap (λ t. value - t) e
value_moved Out value time k e = refl

-- a part of a sum moves as the sum does
part_moved : (pace : Role) (whole rest part time k : ℕ) → time ≡ k → (shrinks pace ≡ true → k ≤ part) → whole ≡ rest + part
    → moved_by pace whole time ≡ rest + moved_by pace part time
part_moved Plus whole rest part time k e low sum = omega (arith, e, sum)
part_moved Minus whole rest part time k e low sum = let less = low refl in omega (arith, e, sum, less)
part_moved Out whole rest part time k e low sum = sum

shift_moved : (pace : Role) (whole time k : ℕ) → time ≡ k → (shrinks pace ≡ true → k ≤ whole)
    → moved_by pace whole time + k * as_count (shrinks pace) ≡ whole + k * as_count (grows pace)
shift_moved Plus whole time k e low = omega (arith, e)
shift_moved Minus whole time k e low = let less = low refl in omega (arith, e, less)
shift_moved Out whole time k e low = refl

still_moved : (pace : Role) (whole time : ℕ) → (grows pace ≡ true → ⊥) → (shrinks pace ≡ true → ⊥) → moved_by pace whole time ≡ whole
still_moved Plus whole time up down = absurd (up refl)
still_moved Minus whole time up down = absurd (down refl)
still_moved Out whole time up down = refl

-- an outer node's radius moves at its pace, and that of another one stays
record IsShifted (roles : Roles) (k : ℕ) (r : Region) : Type 0 where
  outer : r.parent ≡ None → (now_at k r).radius + k * as_count (roles.is_minus r.name) ≡ r.radius + k * as_count (roles.is_plus r.name)
  still : (q : ℕ) → r.parent ≡ Some q → (now_at k r).radius ≡ r.radius

abbrev choose : Bool → ℕ → ℕ → ℕ → ℕ
choose b r up rest = if b then r + up else rest

abbrev root_above : List Region → ℕ → Option ℕ → Option ℕ
root_above rs x None = Some x
root_above rs x (Some q) = root_from rs q

-- a sum of radii moves as the outer node does
abbrev Moves : Roles → ℕ → ℕ → ℕ → Option ℕ → Type 0
Moves roles k new old root = new + k * as_count (passes roles.is_minus root) ≡ old + k * as_count (passes roles.is_plus root)

radii_moved : (roles : Roles) (k : ℕ) (rs : List Region) → ((r : Region) → IsAmong r rs → IsShifted roles k r) → (x : ℕ)
    → radii_from (all_at k rs) x + k * as_count (passes roles.is_minus (root_from rs x))
    ≡ radii_from rs x + k * as_count (passes roles.is_plus (root_from rs x))
radii_moved roles k [] each x = refl
radii_moved roles k (r ∷ rs) each x = by (r.name == x) refl (radii_moved roles k rs (λ s a. each s (inr a)))
  where
    by : (b : Bool) → (r.name == x) ≡ b → ((y : ℕ) → Moves roles k (radii_from (all_at k rs) y) (radii_from rs y) (root_from rs y))
        → Moves roles k (choose b (now_at k r).radius (above (all_at k rs) r.parent) (radii_from (all_at k rs) x)) (choose b r.radius (above rs r.parent) (radii_from rs x))
        (if b then root_above rs x r.parent else root_from rs x)
    by false e rest = rest x
    by true e rest = up r.parent refl
      where
        own : IsShifted roles k r
        own = each r (inl refl)

        up : (o : Option ℕ) → r.parent ≡ o → Moves roles k ((now_at k r).radius + above (all_at k rs) o) (r.radius + above rs o) (root_above rs x o)
        up None f =
            let named = eqb-true r.name x e in
            omega (
              arith,
              own.outer f,
              ap (λ n. k * as_count (roles.is_minus n)) named,
              ap (λ n. k * as_count (roles.is_plus n)) named,
            )
        up (Some q) f = omega (arith, own.still q f, rest q)

parents_at : (k : ℕ) (nodes others : List Node) (rs : List Region) → ((x : ℕ) → is_outer nodes x ≡ true → is_outer others x ≡ true)
    → HaveParents nodes rs → HaveParents others (all_at k rs)
parents_at k nodes others [] outer h = tt
parents_at k nodes others (r ∷ rs) outer h = (up r.parent h.0, parents_at k nodes others rs outer h.1)
  where
    up : (o : Option ℕ) → HasParent nodes rs r.name o → HasParent others (all_at k rs) r.name o
    up None g = outer r.name g
    up (Some q) g = ap (λ l. is_in l r.name) (children_at k rs q) ∙ g

-- nodes whose paces have just begun, after the time k
module _ (p : Problem) (regions : List Region) (marks : List (Option Mark)) (kept : IsKept p regions marks) (limits : IsWithinLimits p)
    (roles : Roles) (k : ℕ) (turn : IsTurn p (nodes_of marks regions) roles k) (fresh : (r : Region) → IsAmong r regions → r.since ≡ 0)
    (paced : (r : Region) → IsAmong r regions → IsPaced roles r) where
  abbrev nodes : List Node
  nodes = nodes_of marks regions

  abbrev others : List Node
  others = stepped_nodes roles k nodes

  passed : (r : Region) → IsAmong r regions → k - r.since ≡ k
  passed r a = omega (arith, fresh r a)

  node_moved : (r : Region) → IsAmong r regions → node_of marks (now_at k r) ≡ stepped_node roles k (node_of marks r)
  node_moved r a =
      let is = paced r a in
      ap (λ value. record (node_of marks r) { top = record { value = value; vertices = (node_of marks r).top.vertices } })
      (value_moved r.pace r.top_value (k - r.since) k (passed r a)
      ∙ (ap (λ b. if b then r.top_value + k else if shrinks r.pace then r.top_value - k else r.top_value) (sym is.plus)
      ∙ ap (λ b. if roles.is_plus r.name then r.top_value + k else if b then r.top_value - k else r.top_value) (sym is.minus)))

  nodes_moved : nodes_of marks (all_at k regions) ≡ stepped_nodes roles k (nodes_of marks regions)
  nodes_moved = by regions node_moved
    where
      by : (rs : List Region) → ((r : Region) → IsAmong r rs → node_of marks (now_at k r) ≡ stepped_node roles k (node_of marks r))
          → nodes_of marks (all_at k rs) ≡ stepped_nodes roles k (nodes_of marks rs)
      by [] each = refl
      by (r ∷ rs) each =
          ap (λ n. n ∷ nodes_of marks (all_at k rs)) (each r (inl refl))
          ∙ ap (λ l. stepped_node roles k (node_of marks r) ∷ l) (by rs (λ s a. each s (inr a)))

  low : (r : Region) → IsAmong r regions → shrinks r.pace ≡ true → k ≤ r.top_value
  low r a h =
      All_among (λ n. roles.is_minus n.name ≡ true → k ≤ n.top.value) nodes turn.may.tops (node_of marks r) (map_among (node_of marks) regions r a)
      ((paced r a).minus ∙ h)

  radius_is : (r : Region) → IsAmong r regions → r.radius ≡ total_value (layers_of (node_of marks r))
  radius_is r a = All_among (λ s. s.radius ≡ total_value (layers_of (node_of marks s))) regions kept.radii r a

  radius_moved : (r : Region) → IsAmong r regions → (now_at k r).radius ≡ total_value (layers_of (node_of marks (now_at k r)))
  radius_moved r a =
      let whole : r.radius ≡ total_value (node_of marks r).below + r.top_value =
      radius_is r a ∙ sum_by_push (λ (c : Cut). c.value) (node_of marks r).below (node_of marks r).top in
      part_moved r.pace r.radius (total_value (node_of marks r).below) r.top_value (k - r.since) k (passed r a) (low r a) whole
      ∙ sym (sum_by_push (λ (c : Cut). c.value) (node_of marks r).below (node_of marks (now_at k r)).top)

  alone : (r : Region) → IsAmong r regions → is_outer nodes r.name ≡ true → r.parent ≡ None
  alone r a outer = outer_alone marks regions regions (λ s h. h) kept.parents r a outer

  not_alone : (r : Region) (q : ℕ) → IsAmong r regions → r.parent ≡ Some q → is_outer nodes r.name ≡ true → ⊥
  not_alone r q a e outer = let clash : None ≡ Some q = sym (alone r a outer) ∙ e in absurd cc

  shifted : (r : Region) → IsAmong r regions → IsShifted roles k r
  shifted r a =
      let is = paced r a in
      let node = map_among (node_of marks) regions r a in
      record {
        outer = λ e.
            ap (λ b. (now_at k r).radius + k * as_count b) is.minus
            ∙ (shift_moved r.pace r.radius (k - r.since) k (passed r a)
            (λ h. let less = low r a h in omega (arith, less, radius_is r a, top-le (node_of marks r)))
            ∙ ap (λ b. r.radius + k * as_count b) (sym is.plus));
        still = λ q e.
            still_moved r.pace r.radius (k - r.since)
            (λ h. not_alone r q a e (All_among (λ n. roles.is_plus n.name ≡ true → is_outer nodes n.name ≡ true) nodes turn.are.plus (node_of marks r) node (is.plus ∙ h)))
            (λ h. not_alone r q a e (All_among (λ n. roles.is_minus n.name ≡ true → is_outer nodes n.name ≡ true) nodes turn.are.minus (node_of marks r) node (is.minus ∙ h)));
      }

  heads_passed : HaveHeads (region_named regions) → HaveHeads (region_named (all_at k regions))
  heads_passed have =
      heads_map (now_at k) regions (λ r. refl)
      (λ r a.
      record {
        still = record { children = refl; head = refl; inside = refl };
        parent = refl;
        link = refl;
        radius = λ q e. (shifted r a).still q e;
      }) have

  marked : (v : ℕ) (m : Mark) → mark_of marks v ≡ Some m → IsMarked p others (all_at k regions) marks v m
  marked v m has =
      let is : IsMarked p nodes regions marks v m = kept.marked v m has in
      let root : root_from regions m.leaf ≡ cover_of nodes v = cover_some p regions marks kept v m has in
      record {
        covered = subst IsSome (sym (cover_stepped roles nodes k v)) is.covered;
        leaf = ap (λ s. is_in s m.source) (top_stepped roles k m.leaf nodes) ∙ is.leaf;
        childless = childless_at k regions m.leaf ∙ is.childless;
        defect = ap (λ l. is_in l m.source) (leaves_stepped roles nodes k) ∙ is.defect;
        balance =
            omega (
              arith,
              is.balance,
              height_stepped roles nodes k v kept.nest.dual.apart turn.are turn.may.tops,
              radii_moved roles k regions shifted m.leaf,
              ap (λ o. k * as_count (passes roles.is_minus o)) root,
              ap (λ o. k * as_count (passes roles.is_plus o)) root,
            );
        came =
            came_still p (leaves nodes) (leaves others) marks marks v m (λ u h. ap (λ l. is_in l u) (leaves_stepped roles nodes k) ∙ h) m.by
            (λ s e. refl) is.came;
      }

  kept_moved : IsKept p (all_at k regions) marks
  kept_moved = record {
    nest = subst (IsNest p) (sym nodes_moved) (nest_stepped p roles nodes k limits turn.are turn.crossed turn.may kept.nest);
    walks = subst (HaveWalks p) (sym nodes_moved) (walks_stepped p roles nodes k turn.are turn.may.tops kept.nest kept.walks);
    room = kept.room;
    radii =
        All-map (λ r. r.radius ≡ total_value (layers_of (node_of marks r))) (now_at k) regions
        (among_All (λ r. (now_at k r).radius ≡ total_value (layers_of (node_of marks (now_at k r)))) regions radius_moved);
    parents =
        subst (λ ns. HaveParents ns (all_at k regions)) (sym nodes_moved)
        (parents_at k nodes others regions (λ x h. outer_stepped roles nodes k x ∙ h) kept.parents);
    sets = subst (λ ns. All (λ c. HasMarks marks c.vertices) (all_cuts ns)) (sym nodes_moved) (sets_stepped (HasMarks marks) roles k nodes kept.sets);
    listed =
        All-map (IsListed marks) (now_at k) regions
        (among_All (λ r. IsListed marks (now_at k r)) regions
        (λ r a. listed_alike marks r (now_at k r) refl refl refl refl refl (All_among (IsListed marks) regions kept.listed r a)));
    begins = subst (λ ns. BeginAlike ns (all_at k regions)) (sym nodes_moved)
        (All-map (λ r. BeginsFirst others r.first r.children.items) (now_at k) regions
        (all_begun nodes others regions (λ v c h. subst (BeginsWith v) (sym (top_stepped roles k c nodes)) h) kept.begins));
    marked = λ v m has. subst (λ ns. IsMarked p ns (all_at k regions) marks v m) (sym nodes_moved) (marked v m has);
  }

moved_twice : (pace : Role) (value first second whole : ℕ) → whole ≡ first + second
    → moved_by pace value whole ≡ moved_by pace (moved_by pace value first) second
moved_twice Plus value first second whole e = omega (arith, e)
moved_twice Minus value first second whole e = omega (arith, e)
moved_twice Out value first second whole e = refl

-- the nodes at a later time, from those of a time before
all_later : (clock length : ℕ) (rs : List Region) → HaveBegun clock rs → all_at (clock + length) rs ≡ all_at length (all_at clock rs)
all_later clock length rs begun = by rs (All_among (HasBegun clock) rs begun)
  where
    later : (r : Region) → HasBegun clock r → now_at (clock + length) r ≡ now_at length (now_at clock r)
    later r h =
        let time : clock + length - r.since ≡ (clock - r.since) + (length - 0) = omega (arith, h) in
        ap (λ v. record r { top_value = v; radius = moved_by r.pace r.radius (clock + length - r.since); since = 0 })
        (moved_twice r.pace r.top_value (clock - r.since) (length - 0) (clock + length - r.since) time)
        ∙ ap (λ v. record r { top_value = moved_by r.pace (moved_by r.pace r.top_value (clock - r.since)) (length - 0); radius = v; since = 0 })
        (moved_twice r.pace r.radius (clock - r.since) (length - 0) (clock + length - r.since) time)

    by : (xs : List Region) → ((r : Region) → IsAmong r xs → HasBegun clock r) → all_at (clock + length) xs ≡ all_at length (all_at clock xs)
    by [] each = refl
    by (x ∷ xs) each =
        ap (λ y. y ∷ all_at (clock + length) xs) (later x (each x (inl refl)))
        ∙ ap (λ l. now_at length (now_at clock x) ∷ l) (by xs (λ s a. each s (inr a)))

-- time leaves which nodes move
paced_at : (test : Role → Bool) (clock : ℕ) (rs : List Region) → names_paced test (all_at clock rs) ≡ names_paced test rs
paced_at test clock [] = refl
paced_at test clock (r ∷ rs) =
    paced_head test (now_at clock r) (all_at clock rs)
    ∙ (ap (λ l. if test r.pace then r.name ∷ l else l) (paced_at test clock rs) ∙ sym (paced_head test r rs))

-- what is kept after a length of time, the time being another one then
pub record IsAdvanced (p : Problem) (regions : List Region) (places : List (Option ℕ)) (marks : List (Option Mark)) (clock length : ℕ)
    (new : List Region) (time : ℕ) : Type 0 where
  pub kept : IsKept p (all_at time new) marks
  pub index : IsIndex new places
  pub begun : HaveBegun time new
  pub heads : HaveHeads (region_named (all_at time new))
  pub nodes : nodes_of marks (all_at time new) ≡ stepped_nodes (roles_by regions) length (nodes_of marks (all_at clock regions))
  pub paced : (test : Role → Bool) → names_paced test new ≡ names_paced test regions

module _ (p : Problem) (regions : List Region) (places : List (Option ℕ)) (marks : List (Option Mark)) (clock length : ℕ)
    (kept : IsKept p (all_at clock regions) marks) (index : IsIndex regions places) (begun : HaveBegun clock regions) (limits : IsWithinLimits p)
    (are : AreRoles (roles_by regions) (nodes_of marks (all_at clock regions)))
    (crossed : (n : ℕ) → is_in (names_paced grows regions) n ≡ true → IsCrossed p (top_at (nodes_of marks (all_at clock regions)) n))
    (may : MayStep p (roles_by regions) (nodes_of marks (all_at clock regions)) length)
    (have : HaveHeads (region_named (all_at clock regions))) where
  turn_of : IsTurn p (nodes_of marks (all_at clock regions)) (roles_by regions) length
  turn_of = record {
    are = are;
    may = may;
    crossed = among_All (λ n. is_in (names_paced grows regions) n.name ≡ true → IsCrossed p n.top.vertices) (nodes_of marks (all_at clock regions))
        (λ n a h. subst (IsCrossed p) (top_among (nodes_of marks (all_at clock regions)) kept.nest.dual.names n a) (crossed n.name h));
  }

  fresh_of : (r : Region) → IsAmong r (all_at clock regions) → r.since ≡ 0
  fresh_of r a = let (x, b, e) = among_map (now_at clock) regions r a in ap (λ y. y.since) (sym e)

  paced_of : (r : Region) → IsAmong r (all_at clock regions) → IsPaced (roles_by regions) r
  paced_of r a =
      let (x, b, e) = among_map (now_at clock) regions r a in
      let is = paced_by_names regions (names_apart p clock regions marks kept) x b in
      subst (IsPaced (roles_by regions)) e (record { plus = is.plus; minus = is.minus })

  moved_nodes : nodes_of marks (all_at length (all_at clock regions)) ≡ stepped_nodes (roles_by regions) length (nodes_of marks (all_at clock regions))
  moved_nodes = nodes_moved p (all_at clock regions) marks kept limits (roles_by regions) length turn_of fresh_of paced_of

  moved_kept : IsKept p (all_at length (all_at clock regions)) marks
  moved_kept = kept_moved p (all_at clock regions) marks kept limits (roles_by regions) length turn_of fresh_of paced_of

  moved_heads : HaveHeads (region_named (all_at length (all_at clock regions)))
  moved_heads = heads_passed p (all_at clock regions) marks kept limits (roles_by regions) length turn_of fresh_of paced_of have

  pub advanced_on : (time : ℕ) → time ≡ clock + length → IsAdvanced p regions places marks clock length regions time
  advanced_on time e =
      let same : all_at time regions ≡ all_at length (all_at clock regions) = ap (λ t. all_at t regions) e ∙ all_later clock length regions begun in
      record {
        kept = subst (λ l. IsKept p l marks) (sym same) moved_kept;
        index = index;
        begun = among_All (HasBegun time) regions (λ r a. let h = All_among (HasBegun clock) regions begun r a in omega (arith, h, e));
        heads = subst (λ l. HaveHeads (region_named l)) (sym same) moved_heads;
        nodes = ap (nodes_of marks) same ∙ moved_nodes;
        paced = λ test. refl;
      }

  -- the regions settled first
  pub advanced_anew : (new : List Region) → new ≡ all_at clock regions → IsAdvanced p regions places marks clock length new length
  advanced_anew new e =
      subst (λ l. IsAdvanced p regions places marks clock length l length) (sym e) (record {
        kept = moved_kept;
        index = index_at clock regions places index;
        begun = among_All (HasBegun length) (all_at clock regions) (λ r a. omega (arith, fresh_of r a));
        heads = moved_heads;
        nodes = moved_nodes;
        paced = λ test. paced_at test clock regions;
      })

pub view_advanced : (p : Problem) (regions : List Region) (places : List (Option ℕ)) (marks : List (Option Mark)) (clock length : ℕ) (new : List Region)
    (time : ℕ) → IsAdvanced p regions places marks clock length new time → {S : Type 0} (scope : S)
    → ◌≡◌ {A = Paced S}
    (record {
      scope = scope;
      nodes = nodes_of marks (all_at time new);
      plus = names_paced grows new;
      minus = names_paced shrinks new;
    })
    (record {
      scope = scope;
      nodes = stepped_nodes (roles_by regions) length (nodes_of marks (all_at clock regions));
      plus = names_paced grows regions;
      minus = names_paced shrinks regions;
    })
view_advanced p regions places marks clock length new time is scope =
    paced_same scope (nodes_of marks (all_at time new)) (stepped_nodes (roles_by regions) length (nodes_of marks (all_at clock regions)))
    (names_paced grows new) (names_paced grows regions) (names_paced shrinks new) (names_paced shrinks regions) is.nodes (is.paced grows) (is.paced shrinks)
