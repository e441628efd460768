-- A node whose top layer grows or shrinks.
use Rattle.std.proofs.Common.{ℕ, ◌≡◌, ◌+◌, ◌*◌, ◌<◌, ◌≤◌, ◌==◌, ◌&&◌, ◌⊎◌, inl, inr, cond, Bool, true, false, List, [], ◌∷◌, length, map, set, get_or, Option, Some, None, refl, sym, ap, ◌∙◌, subst, arith}
use Rattle.std.specs.List.{All}
use Rattle.std.specs.Option.{IsSome}
use Rattle.std.proofs.lemmas.Bool.{cases_Bool, eqb-true, false≢true, or_parts}
use Rattle.std.proofs.lemmas.List.Elements.{All-map, All-push, All-set}
use Rattle.std.proofs.lemmas.List.Sums.{sum_by-cons}
use Rattle.std.proofs.Math.Nat.{mul-le-mul_left}
use Rattle.fb_graph.specs.Parity.{is_in}
use Rattle.fb_graph.specs.Problem.{Problem, crosses}
use Rattle.fb_graph.specs.Certificate.{AreDistinct, load_of, total_value}
use Rattle.fb_graph.specs.Counts.{as_count}
use Rattle.fb_graph.specs.Covers.{AreRoles, passes}
use Rattle.fb_graph.specs.Dual.{Node, AllowsGrowth, IsCrossed, all_cuts, change_at, cover_of, height_of, is_outer, layers_of, leaves, thicker_node, top_at}
use Rattle.fb_graph.specs.Limits.{IsWithinLimits}
use Rattle.fb_graph.specs.Nests.{IsNest}
use Rattle.fb_graph.specs.SourceWalks.{HaveWalks}
use Rattle.fb_graph.specs.Steps.{Roles, MayStep, gains, losses, stepped_nodes, stepped_node}
use Rattle.fb_graph.specs.Turns.{with_minus, with_plus, no_roles, thinner_node}
use Rattle.fb_graph.specs.declared.parts.Edge.{Edge}
use Rattle.fb_graph.proofs.Among.{IsAmong, All_among, among_All, top_among}
use Rattle.fb_graph.proofs.Nodes.{All-flat_map, All-pieces, All-top, All-below}
use Rattle.fb_graph.proofs.SourceWalks.{walks_stepped}
use Rattle.fb_graph.proofs.StepHeights.{cover_stepped, height_stepped, leaves_stepped, outer_stepped}
use Rattle.fb_graph.proofs.SteppedNests.{nest_stepped}
use Rattle.fb_graph.proofs.StepTurns.{grown_next, no_turn, shrunk_next, top_stepped}
use Rattle.fb_regions.specs.declared.marks.Mark.{Mark}
use Rattle.fb_regions.specs.declared.region.Region.{Region}
use Rattle.fb_regions.specs.InternalNodes.{mark_of, node_of, nodes_of, root_from}
use Rattle.fb_regions.specs.InternalKept.{HasMarks, HaveParents, IsKept, IsMarked}
use Rattle.fb_regions.specs.InternalListings.{BeginAlike, IsListed}
use Rattle.fb_regions.specs.Moves.{BeginsWith}
use Rattle.fb_regions.proofs.Begun.{set_begun}
use Rattle.fb_regions.proofs.Found.{among_at, names_of}
use Rattle.fb_regions.proofs.Listings.{listed_alike}
use Rattle.fb_regions.proofs.Moved.{came_still, same_cover}
use Rattle.fb_regions.proofs.Parents.{childless_set, parents_set}
use Rattle.fb_regions.proofs.Radii.{is_some_of, radii_shifted}
use Rattle.fb_regions.proofs.Roots.{outer_alone, root_covers}

gains_absent : (name : ℕ) (ns : List Node) (e : Edge) → is_in (map (λ n. n.name) ns) name ≡ false → gains (with_plus no_roles name) ns e ≡ 0
gains_absent name [] e out = refl
gains_absent name (n ∷ ns) e out =
    let parts = or_parts (n.name == name) (is_in (map (λ m. m.name) ns) name) out in
    omega (
      arith,
      sum_by-cons (λ m. as_count ((m.name == name) && crosses m.top.vertices e)) n ns,
      gains_absent name ns e parts.1,
      ap (λ b. as_count (b && crosses n.top.vertices e)) parts.0,
    )

gains_alone : (name : ℕ) (ns : List Node) (e : Edge) → AreDistinct (map (λ n. n.name) ns)
    → gains (with_plus no_roles name) ns e ≤ as_count (crosses (top_at ns name) e)
gains_alone name [] e distinct = omega arith
gains_alone name (n ∷ ns) e distinct = step (cases_Bool (n.name == name)) (gains_alone name ns e distinct.1)
  where
    step : ((n.name == name) ≡ true) ⊎ ((n.name == name) ≡ false)
        → gains (with_plus no_roles name) ns e ≤ as_count (crosses (top_at ns name) e)
        → gains (with_plus no_roles name) (n ∷ ns) e ≤ as_count (crosses (top_at (n ∷ ns) name) e)
    step (inl here) rest =
        omega (
          arith,
          sum_by-cons (λ m. as_count ((m.name == name) && crosses m.top.vertices e)) n ns,
          gains_absent name ns e (ap (is_in (map (λ m. m.name) ns)) (sym (eqb-true n.name name here)) ∙ distinct.0),
          ap (λ b. as_count (b && crosses n.top.vertices e)) here,
          ap (λ b. as_count (crosses (cond b n.top.vertices (top_at ns name)) e)) here,
        )
    step (inr other) rest =
        omega (
          arith,
          sum_by-cons (λ m. as_count ((m.name == name) && crosses m.top.vertices e)) n ns,
          rest,
          ap (λ b. as_count (b && crosses n.top.vertices e)) other,
          ap (λ b. as_count (crosses (cond b n.top.vertices (top_at ns name)) e)) other,
        )

gains_none : (name : ℕ) (ns : List Node) (e : Edge) → gains (with_minus no_roles name) ns e ≡ 0
gains_none name [] e = refl
gains_none name (n ∷ ns) e =
    omega (arith, sum_by-cons (λ m. as_count (false && crosses m.top.vertices e)) n ns, gains_none name ns e)

-- one node's step
pub record IsTurn (p : Problem) (nodes : List Node) (roles : Roles) (k : ℕ) : Type 0 where
  pub are : AreRoles roles nodes
  pub may : MayStep p roles nodes k
  pub crossed : All (λ n. roles.is_plus n.name ≡ true → IsCrossed p n.top.vertices) nodes

module _ (p : Problem) (nodes : List Node) (nest : IsNest p nodes) (name k : ℕ) (outer : is_outer nodes name ≡ true) where
  pub grown_turn : IsCrossed p (top_at nodes name) → AllowsGrowth p nodes (top_at nodes name) k → IsTurn p nodes (with_plus no_roles name) k
  grown_turn crossed room = record {
    are = record {
      exclusive = λ n h. refl;
      plus = among_All (λ n. (n.name == name) ≡ true → is_outer nodes n.name ≡ true) nodes
          (λ n a h. ap (is_outer nodes) (eqb-true n.name name h) ∙ outer);
      minus = among_All (λ n. false ≡ true → is_outer nodes n.name ≡ true) nodes (λ n a h. absurd (false≢true h));
    };
    may = record {
      edges = λ i d less. fits (get_or p.edges i d) (room i d less) (nest.dual.packing.fits i d less);
      tops = among_All (λ n. false ≡ true → k ≤ n.top.value) nodes (λ n a h. absurd (false≢true h));
    };
    crossed = among_All (λ n. (n.name == name) ≡ true → IsCrossed p n.top.vertices) nodes
        (λ n a h.
        subst (IsCrossed p) (ap (top_at nodes) (sym (eqb-true n.name name h)) ∙ top_among nodes nest.dual.names n a) crossed);
  }
    where
      fits : (e : Edge) → (crosses (top_at nodes name) e ≡ true → load_of (all_cuts nodes) e + k ≤ e.weight) → load_of (all_cuts nodes) e ≤ e.weight
          → load_of (all_cuts nodes) e + k * gains (with_plus no_roles name) nodes e ≤ e.weight + k * losses (with_plus no_roles name) nodes e
      fits e bound fit =
          let most : k * gains (with_plus no_roles name) nodes e ≤ k * as_count (crosses (top_at nodes name) e) =
          mul-le-mul_left k (gains_alone name nodes e nest.dual.names) in
          by (crosses (top_at nodes name) e) most bound
        where
          by : (b : Bool) → k * gains (with_plus no_roles name) nodes e ≤ k * as_count b → (b ≡ true → load_of (all_cuts nodes) e + k ≤ e.weight)
              → load_of (all_cuts nodes) e + k * gains (with_plus no_roles name) nodes e ≤ e.weight + k * losses (with_plus no_roles name) nodes e
          by true most b = omega (arith, most, b refl)
          by false most b = omega (arith, most, fit)

  pub shrunk_turn : ((n : Node) → IsAmong n nodes → n.name ≡ name → k ≤ n.top.value) → IsTurn p nodes (with_minus no_roles name) k
  shrunk_turn low = record {
    are = record {
      exclusive = λ n h. absurd (false≢true h);
      plus = among_All (λ n. false ≡ true → is_outer nodes n.name ≡ true) nodes (λ n a h. absurd (false≢true h));
      minus = among_All (λ n. (n.name == name) ≡ true → is_outer nodes n.name ≡ true) nodes
          (λ n a h. ap (is_outer nodes) (eqb-true n.name name h) ∙ outer);
    };
    may = record {
      edges = λ i d less. fits (get_or p.edges i d) (nest.dual.packing.fits i d less);
      tops = among_All (λ n. (n.name == name) ≡ true → k ≤ n.top.value) nodes (λ n a h. low n a (eqb-true n.name name h));
    };
    crossed = among_All (λ n. false ≡ true → IsCrossed p n.top.vertices) nodes (λ n a h. absurd (false≢true h));
  }
    where
      fits : (e : Edge) → load_of (all_cuts nodes) e ≤ e.weight
          → load_of (all_cuts nodes) e + k * gains (with_minus no_roles name) nodes e ≤ e.weight + k * losses (with_minus no_roles name) nodes e
      fits e fit = omega (arith, fit, ap (λ m. k * m) (gains_none name nodes e))

pub thicker_as_step : (name k : ℕ) (nodes : List Node) → change_at name (thicker_node k) nodes ≡ stepped_nodes (with_plus no_roles name) k nodes
thicker_as_step name k nodes =
    ap (change_at name (thicker_node k)) (sym (no_turn k nodes)) ∙ grown_next no_roles k name nodes refl refl

pub thinner_as_step : (name k : ℕ) (nodes : List Node) → change_at name (thinner_node k) nodes ≡ stepped_nodes (with_minus no_roles name) k nodes
thinner_as_step name k nodes =
    ap (change_at name (thinner_node k)) (sym (no_turn k nodes)) ∙ shrunk_next no_roles k name nodes refl refl

-- the sets stay, so what is said of them alone does
pub sets_stepped : (P : List ℕ → Type 0) (roles : Roles) (k : ℕ) (nodes : List Node) → All (λ c. P c.vertices) (all_cuts nodes)
    → All (λ c. P c.vertices) (all_cuts (stepped_nodes roles k nodes))
sets_stepped P roles k nodes h =
    All-flat_map (λ c. P c.vertices) layers_of (stepped_nodes roles k nodes)
    (All-map (λ n. All (λ c. P c.vertices) (layers_of n)) (stepped_node roles k) nodes
    (among_All (λ n. All (λ c. P c.vertices) (layers_of (stepped_node roles k n))) nodes
    (λ n a.
    let layers = All_among (λ m. All (λ c. P c.vertices) (layers_of m)) nodes (All-pieces (λ c. P c.vertices) layers_of nodes h) n a in
    All-push (λ c. P c.vertices) n.below (stepped_node roles k n).top (All-below (λ c. P c.vertices) n.below n.top layers)
    (All-top (λ c. P c.vertices) n.below n.top layers))))

-- a region with other values of its top layer and its radius
pub record IsRevalued (old new : Region) : Type 0 where
  pub name : new.name ≡ old.name
  pub children : new.children.items ≡ old.children.items
  pub parent : new.parent ≡ old.parent
  pub first : new.first ≡ old.first
  pub base : new.base ≡ old.base
  pub base_last : new.base_last ≡ old.base_last
  pub added : new.added ≡ old.added
  pub last : new.last ≡ old.last

module _ (p : Problem) (regions : List Region) (marks : List (Option Mark)) (kept : IsKept p regions marks) (limits : IsWithinLimits p)
    (roles : Roles) (k : ℕ) (turn : IsTurn p (nodes_of marks regions) roles k) (i a b : ℕ) (old new : Region) (at : old ≡ get_or regions i old)
    (less : i < length regions) (same : IsRevalued old new) (outer : is_outer (nodes_of marks regions) old.name ≡ true)
    (shift : new.radius + a ≡ old.radius + b)
    (radius : new.radius ≡ total_value (layers_of (node_of marks new)))
    (nodes_are : nodes_of marks (set regions i new) ≡ stepped_nodes roles k (nodes_of marks regions))
    (up : (o : Option ℕ) → k * as_count (passes roles.is_plus o) ≡ cond (is_some_of o old.name) b 0)
    (down : (o : Option ℕ) → k * as_count (passes roles.is_minus o) ≡ cond (is_some_of o old.name) a 0) where
  abbrev nodes : List Node
  nodes = nodes_of marks regions

  abbrev others : List Node
  others = stepped_nodes roles k nodes

  alone : old.parent ≡ None
  alone = outer_alone marks regions regions (λ r h. h) kept.parents old (among_at marks regions i old less at) outer

  heights : (v : ℕ) → height_of (all_cuts others) v + cond (is_some_of (cover_of nodes v) old.name) a 0
      ≡ height_of (all_cuts nodes) v + cond (is_some_of (cover_of nodes v) old.name) b 0
  heights v =
      omega (
        arith,
        height_stepped roles nodes k v kept.nest.dual.apart turn.are turn.may.tops,
        up (cover_of nodes v),
        down (cover_of nodes v),
      )

  names_are : map (λ r. r.name) regions ≡ map (λ n. n.name) nodes
  names_are = names_of marks regions

  marked : (v : ℕ) (m : Mark) → mark_of marks v ≡ Some m → IsMarked p others (set regions i new) marks v m
  marked v m has =
      let is : IsMarked p nodes regions marks v m = kept.marked v m has in
      let root : root_from regions m.leaf ≡ cover_of nodes v =
      sym (root_covers p marks regions kept.nest regions (λ r h. h) kept.parents m.leaf m.source is.leaf)
      ∙ sym (same_cover p regions marks kept v m has) in
      let shifted = radii_shifted regions i a b old new (subst AreDistinct (sym names_are) kept.nest.dual.names) at less same.name alone
      (same.parent ∙ alone) shift m.leaf in
      record {
        covered = subst IsSome (sym (cover_stepped roles nodes k v)) is.covered;
        leaf = ap (λ s. is_in s m.source) (top_stepped roles k m.leaf nodes) ∙ is.leaf;
        childless = childless_set regions i old new m.leaf at less same.name same.children ∙ is.childless;
        defect = ap (λ l. is_in l m.source) (leaves_stepped roles nodes k) ∙ is.defect;
        balance =
            omega (
              arith,
              is.balance,
              heights v,
              shifted,
              ap (λ o. cond (is_some_of o old.name) a 0) root,
              ap (λ o. cond (is_some_of o old.name) b 0) root,
            );
        came =
            came_still p (leaves nodes) (leaves others) marks marks v m (λ u h. ap (λ l. is_in l u) (leaves_stepped roles nodes k) ∙ h) m.by
            (λ s e. refl) is.came;
      }

  pub kept_stepped : IsKept p (set regions i new) marks
  kept_stepped = record {
    nest = subst (IsNest p) (sym nodes_are) (nest_stepped p roles nodes k limits turn.are turn.crossed turn.may kept.nest);
    walks = subst (HaveWalks p) (sym nodes_are) (walks_stepped p roles nodes k turn.are turn.may.tops kept.nest kept.walks);
    room = kept.room;
    radii = All-set (λ r. r.radius ≡ total_value (layers_of (node_of marks r))) regions i new radius kept.radii;
    parents =
        subst (λ ns. HaveParents ns (set regions i new)) (sym nodes_are)
        (parents_set nodes others regions i old new (λ x h. outer_stepped roles nodes k x ∙ h) at less same.name same.children same.parent kept.parents);
    sets = subst (λ ns. All (λ c. HasMarks marks c.vertices) (all_cuts ns)) (sym nodes_are) (sets_stepped (HasMarks marks) roles k nodes kept.sets);
    listed =
        All-set (IsListed marks) regions i new
        (listed_alike marks old new same.first same.base same.base_last same.added same.last
        (All_among (IsListed marks) regions kept.listed old (among_at marks regions i old less at)))
        kept.listed;
    begins = subst (λ ns. BeginAlike ns (set regions i new)) (sym nodes_are)
        (set_begun nodes others regions i old new (λ v c h. subst (BeginsWith v) (sym (top_stepped roles k c nodes)) h)
        (among_at marks regions i old less at) same.first same.children kept.begins);
    marked = λ v m has. subst (λ ns. IsMarked p ns (set regions i new) marks v m) (sym nodes_are) (marked v m has);
  }
