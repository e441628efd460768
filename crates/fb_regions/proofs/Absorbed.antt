-- A vertex more in an outer node.
use Rattle.std.proofs.Common.{ℕ, ◌≡◌, ◌+◌, ◌<◌, ◌≤◌, ◌^◌, ◌==◌, ◌⊎◌, inl, inr, Bool, true, false, List, [], ◌∷◌, ◌++◌, length, set, get_or, Option, Some, None, refl, sym, ap, ◌∙◌, subst, arith, add-one, append_assoc, if◌then◌else◌}
use Rattle.std.specs.List.{All, position}
use Rattle.std.specs.Option.{IsSome, is_some, unwrap_or}
use Rattle.std.proofs.lemmas.Bool.{both_ways, cases_eq, eqb-true, false≢true, false_from_ne_true, or_cases, or_left, or_right}
use Rattle.std.proofs.lemmas.List.{get_or-set_same, length-append, length-set}
use Rattle.std.proofs.lemmas.List.Elements.{All-map, All-push, All-set}
use Rattle.fb_graph.specs.Parity.{is_in}
use Rattle.fb_graph.specs.Problem.{Problem, edge_at}
use Rattle.fb_graph.specs.Certificate.{load_of, total_value}
use Rattle.fb_graph.specs.Components.{Leads}
use Rattle.fb_graph.specs.Alike.{AreAlike}
use Rattle.fb_graph.specs.Dual.{Node, AreGrown, AreUnderOne, all_cuts, change_at, cover_of, height_of, layers_of, leaves, taller_node, top_at}
use Rattle.fb_graph.specs.Limits.{IsWithinLimits}
use Rattle.fb_graph.specs.Moves.{MayAbsorb}
use Rattle.fb_graph.specs.Nests.{IsNest}
use Rattle.fb_graph.specs.SourceWalks.{HaveWalks}
use Rattle.fb_graph.specs.declared.parts.Cut.{Cut}
use Rattle.fb_graph.specs.declared.parts.Edge.{Edge}
use Rattle.fb_graph.proofs.Among.{IsAmong, All_among, among_All, cover_among, map_among, same_among}
use Rattle.fb_graph.proofs.ChangedNodes.{change, by_name}
use Rattle.fb_graph.proofs.CutSums.{weigh-taller_node}
use Rattle.fb_graph.proofs.Members.{is_in-append, is_in_push, is_in_pushed}
use Rattle.fb_graph.proofs.Nodes.{All-flat_map, All-pieces, layers_within}
use Rattle.fb_graph.proofs.RaisedNests.{nest_absorbed}
use Rattle.fb_graph.proofs.SourceWalks.{walks_absorbed}
use Rattle.fb_graph.proofs.TallerNodes.{leaves_taller, outer_taller, taller_alike}
use Rattle.fb_graph.proofs.TightLinks.{all_even}
use Rattle.fb_links.specs.declared.walk.Step.{Step}
use Rattle.fb_regions.specs.declared.marks.Hop.{Hop}
use Rattle.fb_regions.specs.declared.marks.Mark.{Mark}
use Rattle.fb_regions.specs.declared.region.Region.{Region}
use Rattle.fb_regions.specs.InternalNodes.{added_to, before_in, chain, first_of, mark_of, node_of, nodes_of, radii_from, stack, under_in}
use Rattle.fb_regions.specs.InternalListings.{AreListed, BeginAlike, IsListed}
use Rattle.fb_regions.specs.InternalKept.{BeginsIn, HasMarks, IsAfter, HaveParents, IsKept, IsMarkIn, IsMarked}
use Rattle.fb_regions.specs.Moves.{BeginsWith, IsOver, absorbed_over, inner_end, outer_end}
use Rattle.fb_regions.specs.Walks.{IsStep}
use Rattle.fb_regions.proofs.Begun.{StayBegun, lists_still, set_begun, top_changed}
use Rattle.fb_regions.proofs.Chains.{chain_same, stack_push, stack_same}
use Rattle.fb_regions.proofs.Found.{IsFound, among_at, found, nodes_set}
use Rattle.fb_regions.proofs.Listings.{begins_left, listed_more}
use Rattle.fb_regions.proofs.Marking.{has_still, mark_new, mark_other, node_still, nodes_still}
use Rattle.fb_regions.proofs.Moved.{covered_in, from_marked, marked_moved, not_covered, some_cover, top_marks, unmarked}
use Rattle.fb_regions.proofs.Parents.{childless_set, parents_set}
use Rattle.fb_regions.proofs.Radii.{radii_set}
use Rattle.fb_regions.proofs.Readings.{length-top, radii_fit, sized}

-- the region with a vertex more, in a new layer
abbrev pub raised : ℕ → Region → Region
raised w r = record r { added = r.added + 1; last = w; top_value = 0 }

abbrev pub taken : Mark → Step → Region → Mark
taken m s r = record {
  source = m.source;
  leaf = m.leaf;
  distance = m.distance + s.weight;
  rank = r.base + r.added;
  by = Some (record { from = s.from; edge = s.edge });
  before = r.last;
  under = r.top_value;
}

top_more : (name w x d : ℕ) (nodes : List Node) → is_in (top_at nodes x) d ≡ true → is_in (top_at (change_at name (taller_node w) nodes) x) d ≡ true
top_more name w x d nodes h =
    top_changed (λ s. is_in s d ≡ true) (change name (taller_node w)) nodes x (λ n. by_name (λ y. y.name ≡ n.name) name (taller_node w) n (λ _. refl) (λ _. refl))
    (λ n a k.
    by_name (λ y. is_in y.top.vertices d ≡ true) name (taller_node w) n
    (λ _. is_in_push n.top.vertices w d ∙ or_left (is_in n.top.vertices d) (w == d) k) (λ _. k))
    h

-- the two ends in either order
ends : (nodes : List Node) (e : Edge) → Leads e (inner_end nodes e) (outer_end nodes e)
ends nodes e = by (is_some (cover_of nodes e.first))
  where
    by : (b : Bool) → Leads e (if b then e.first else e.second) (if b then e.second else e.first)
    by true = inl (refl, refl)
    by false = inr (refl, refl)

-- what the call is given, told of the step
pub record IsAbsorbing (p : Problem) (nodes : List Node) (k name : ℕ) (s : Step) : Type 0 where
  pub step : IsStep p s
  pub may : MayAbsorb p nodes name k s.from s.to
  pub weight : s.weight ≡ (edge_at p.edges k).weight
  pub change : change_at name (taller_node s.to) nodes ≡ absorbed_over nodes (edge_at p.edges k)

pub absorbing : (p : Problem) (nodes : List Node) (k name : ℕ) (s : Step) → k < length p.edges
    → load_of (all_cuts nodes) (edge_at p.edges k) ≡ (edge_at p.edges k).weight
    → cover_of nodes (outer_end nodes (edge_at p.edges k)) ≡ None → p.is_real (outer_end nodes (edge_at p.edges k)) ≡ true
    → IsOver p nodes k s → cover_of nodes s.from ≡ Some name → IsAbsorbing p nodes k name s
absorbing p nodes k name s below tight outer real over cover =
    let leads : Leads (edge_at p.edges k) s.from s.to = rw (over.from, over.to) (ends nodes (edge_at p.edges k)) in
    record {
      step = record { within = rw over.edge below; leads = rw over.edge leads; weighs = rw over.edge over.weight };
      may = record {
        within = below;
        leads = leads;
        tight = tight;
        covered = cover;
        uncovered = ap (cover_of nodes) over.to ∙ outer;
        real = ap p.is_real over.to ∙ real;
      };
      weight = over.weight;
      change =
          ap (λ o. change_at (unwrap_or o 0) (taller_node s.to) nodes) (sym cover)
          ∙ (ap (λ v. change_at (unwrap_or (cover_of nodes v) 0) (taller_node s.to) nodes) over.from
          ∙ ap (λ v. change_at (unwrap_or (cover_of nodes (inner_end nodes (edge_at p.edges k))) 0) (taller_node v) nodes) over.to);
    }

module _ (p : Problem) (regions : List Region) (marks : List (Option Mark)) (kept : IsKept p regions marks) (limits : IsWithinLimits p)
    (name i k : ℕ) (s : Step) (m : Mark) (old : Region) (step : IsStep p s) (has : mark_of marks s.from ≡ Some m)
    (at : position (λ r. r.name == name) regions ≡ Some i) (is_old : old ≡ get_or regions i old)
    (may : MayAbsorb p (nodes_of marks regions) name k s.from s.to) (weight : s.weight ≡ (edge_at p.edges k).weight) where
  abbrev nodes : List Node
  nodes = nodes_of marks regions

  abbrev w : ℕ
  w = s.to

  abbrev own : Mark
  own = taken m s old

  abbrev marks' : List (Option Mark)
  marks' = set marks w (Some own)

  abbrev others : List Node
  others = change_at name (taller_node w) nodes

  there : IsFound marks regions name i old
  there = found marks regions name i old at is_old

  node : Node
  node = node_of marks old

  among : IsAmong (node_of marks old) nodes
  among = map_among (node_of marks) regions old there.among

  out : (n : Node) → IsAmong n nodes → is_in n.top.vertices w ≡ false
  out = not_covered p nodes kept.nest w may.uncovered

  below : w < length marks
  below = subst (λ l. w < l) (sym kept.room) (limits.real_below w may.real)

  -- the node over the inner end is this one
  holds : is_in (node_of marks old).top.vertices s.from ≡ true
  holds =
      let over = cover_among nodes s.from name may.covered in
      ap (λ n. is_in n.top.vertices s.from) (same_among nodes kept.nest.dual.names (node_of marks old) over.node among over.among (there.named ∙ sym over.named))
      ∙ over.holds

  mark_in : IsMarkIn (node_of marks old).top.vertices m
  mark_in =
      let (m', at', is) = top_marks marks nodes kept.sets (node_of marks old) among s.from holds in
      let same : m' ≡ m = (let e : Some m' ≡ Some m = sym at' ∙ has in cc) in
      subst (IsMarkIn (node_of marks old).top.vertices) same is

  not_own : (u : ℕ) → is_in (first_of marks old ++ added_to marks old) u ≡ true → u ≡ w → ⊥
  not_own u h e =
      both_ways (is_in (node_of marks old).top.vertices w) (out (node_of marks old) among)
      (ap (is_in (node_of marks old).top.vertices) (sym e) ∙ h)

  not_first : (u : ℕ) → is_in (first_of marks old) u ≡ true → u ≡ w → ⊥
  not_first u h =
      not_own u (is_in-append (first_of marks old) (added_to marks old) u ∙ or_left (is_in (first_of marks old) u) (is_in (added_to marks old) u) h)

  not_added : (u : ℕ) → is_in (added_to marks old) u ≡ true → u ≡ w → ⊥
  not_added u h =
      not_own u (is_in-append (first_of marks old) (added_to marks old) u ∙ or_right (is_in (first_of marks old) u) (is_in (added_to marks old) u) h)

  first_is : first_of marks' old ≡ first_of marks old
  first_is = chain_same marks marks' old.base old.base_last (λ u h. ap before_in (mark_other marks w u (Some own) (not_first u h)))

  chain_is : added_to marks' (raised w old) ≡ added_to marks old ++ w ∷ []
  chain_is =
      ap (λ n. chain marks' n w) (add-one old.added)
      ∙ ap (λ l. l ++ w ∷ [])
      (ap (chain marks' old.added) (ap before_in (mark_new marks w (Some own) below))
      ∙ chain_same marks marks' old.added old.last (λ u h. ap before_in (mark_other marks w u (Some own) (not_added u h))))

  stack_is : stack marks' (first_of marks old) (added_to marks old ++ w ∷ []) ≡ layers_of (node_of marks old)
  stack_is =
      stack_push marks' (first_of marks old) (added_to marks old) w
      ∙ (ap (λ x. stack marks' (first_of marks old) (added_to marks old) ++ record { value = x; vertices = first_of marks old ++ added_to marks old } ∷ [])
      (ap under_in (mark_new marks w (Some own) below))
      ∙ ap (λ l. l ++ (node_of marks old).top ∷ [])
      (stack_same marks marks' (first_of marks old) (added_to marks old) (λ u h. ap under_in (mark_other marks w u (Some own) (not_added u h)))))

  pub raised_node : node_of marks' (raised w old) ≡ taller_node w (node_of marks old)
  raised_node =
      ap (λ f. built (stack marks' f (added_to marks' (raised w old))) (f ++ added_to marks' (raised w old))) first_is
      ∙ (ap (λ l. built (stack marks' (first_of marks old) l) (first_of marks old ++ l)) chain_is
      ∙ (ap (λ b. built b (first_of marks old ++ (added_to marks old ++ w ∷ []))) stack_is
      ∙ ap (built (layers_of (node_of marks old))) (sym (append_assoc (first_of marks old) (added_to marks old) (w ∷ [])))))
    where
      built : List Cut → List ℕ → Node
      built b vs = record { name = old.name; children = old.children.items; below = b; top = record { value = 0; vertices = vs } }

  pub nodes_absorbed : nodes_of marks' (set regions i (raised w old)) ≡ others
  nodes_absorbed =
      nodes_set marks' regions i (raised w old)
      ∙ (ap (λ ns. set ns i (node_of marks' (raised w old))) (nodes_still marks regions w (Some own) out)
      ∙ (ap (set nodes i) raised_node ∙ there.placed (taller_node w) kept.nest.dual.names))

  nest : IsNest p others
  nest = nest_absorbed p nodes name k s.from w (all_even p limits) may kept.nest

  no_defect : is_in (leaves nodes) w ≡ false
  no_defect = false_from_ne_true (is_in (leaves nodes) w) (λ leaf. false≢true (subst IsSome may.uncovered (kept.nest.dual.defects w leaf)))

  alike : AreAlike nodes others
  alike = (taller_alike nodes name w no_defect).0

  full : height_of (all_cuts nodes) s.from ≡ s.weight
  full = by (edge_at p.edges k) may.leads may.tight weight
    where
      by : (e : Edge) → Leads e s.from w → load_of (all_cuts nodes) e ≡ e.weight → s.weight ≡ e.weight → height_of (all_cuts nodes) s.from ≡ s.weight
      by e (inl (a, b)) tight same =
          let apart : ¬ AreUnderOne nodes e.first e.second =
          λ under. let clash : None ≡ Some under.0 = sym may.uncovered ∙ (ap (cover_of nodes) (sym b) ∙ under.2) in absurd (cc) in
          omega (arith, tight, same, kept.nest.dual.loads e apart, ap (height_of (all_cuts nodes)) a, ap (height_of (all_cuts nodes)) b, kept.nest.dual.uncovered w may.uncovered)
      by e (inr (a, b)) tight same =
          let apart : ¬ AreUnderOne nodes e.first e.second =
          λ under. let clash : None ≡ Some under.0 = sym may.uncovered ∙ (ap (cover_of nodes) (sym b) ∙ under.1) in absurd (cc) in
          omega (arith, tight, same, kept.nest.dual.loads e apart, ap (height_of (all_cuts nodes)) a, ap (height_of (all_cuts nodes)) b, kept.nest.dual.uncovered w may.uncovered)

  -- a set with the vertex more
  wider : (set_of : List ℕ) (mk : Mark) → IsMarkIn set_of mk → IsMarkIn (set_of ++ w ∷ []) mk
  wider set_of mk is = record {
    rank = omega (arith, is.rank, length-append set_of (w ∷ []));
    source = push mk.source is.source;
    step = steps mk.by is.step;
  }
    where
      push : (u : ℕ) → is_in set_of u ≡ true → is_in (set_of ++ w ∷ []) u ≡ true
      push u h = is_in_push set_of w u ∙ or_left (is_in set_of u) (w == u) h

      steps : (o : Option Hop) → BeginsIn set_of o → BeginsIn (set_of ++ w ∷ []) o
      steps None h = tt
      steps (Some t) h = push t.from h

  own_set : HasMarks marks' ((node_of marks old).top.vertices ++ w ∷ [])
  own_set u within = pick (or_cases (is_in (node_of marks old).top.vertices u) (w == u) (sym (is_in_push (node_of marks old).top.vertices w u) ∙ within))
    where
      pick : (is_in (node_of marks old).top.vertices u ≡ true) ⊎ ((w == u) ≡ true)
          → (mk : Mark) × (mark_of marks' u ≡ Some mk) × IsMarkIn ((node_of marks old).top.vertices ++ w ∷ []) mk
      pick (inl h) =
          let (mk, at', is) = has_still marks (node_of marks old).top.vertices w (Some own) (out (node_of marks old) among)
          (top_marks marks nodes kept.sets (node_of marks old) among) u h in
          (mk, at', wider (node_of marks old).top.vertices mk is)
      pick (inr e) = (
        own,
        ap (mark_of marks') (sym (eqb-true w u e)) ∙ mark_new marks w (Some own) below,
        record {
          rank = omega (arith, length-top marks old, length-append (node_of marks old).top.vertices (w ∷ []));
          source = is_in_push (node_of marks old).top.vertices w m.source ∙ or_left (is_in (node_of marks old).top.vertices m.source) (w == m.source) mark_in.source;
          step = is_in_push (node_of marks old).top.vertices w s.from ∙ or_left (is_in (node_of marks old).top.vertices s.from) (w == s.from) holds;
        },
      )

  sets : All (λ c. HasMarks marks' c.vertices) (all_cuts others)
  sets =
      All-flat_map (λ c. HasMarks marks' c.vertices) layers_of others
      (All-map (λ n. All (λ c. HasMarks marks' c.vertices) (layers_of n)) (change name (taller_node w)) nodes
      (among_All (λ n. All (λ c. HasMarks marks' c.vertices) (layers_of (change name (taller_node w) n))) nodes
      (λ n a.
      by_name (λ x. All (λ c. HasMarks marks' c.vertices) (layers_of x)) name (taller_node w) n
      (λ named.
      All-push (λ c. HasMarks marks' c.vertices) (layers_of n) (taller_node w n).top (still n a)
      (subst (λ x. HasMarks marks' (x.top.vertices ++ w ∷ []))
      (same_among nodes kept.nest.dual.names (node_of marks old) n among a (there.named ∙ sym named)) own_set))
      (λ other. still n a))))
    where
      still : (n : Node) → IsAmong n nodes → All (λ c. HasMarks marks' c.vertices) (layers_of n)
      still n a i' d less =
          has_still marks (get_or (layers_of n) i' d).vertices w (Some own)
          (false_from_ne_true (is_in (get_or (layers_of n) i' d).vertices w)
          (λ h.
          both_ways (is_in n.top.vertices w) (out n a)
          (layers_within n.below n.top (All_among (λ x. AreGrown (layers_of x)) nodes kept.nest.dual.grown n a) i' d less w h)))
          (All_among (λ x. All (λ c. HasMarks marks c.vertices) (layers_of x)) nodes (All-pieces (λ c. HasMarks marks c.vertices) layers_of nodes kept.sets) n a i' d less)

  radii_same : (x : ℕ) → radii_from (set regions i (raised w old)) x ≡ radii_from regions x
  radii_same = radii_set regions i old (raised w old) is_old there.below refl refl refl

  changed_among : (n : Node) → IsAmong n nodes → IsAmong (change name (taller_node w) n) others
  changed_among n a = map_among (change name (taller_node w)) nodes n a

  still_in : (n : Node) (u : ℕ) → is_in n.top.vertices u ≡ true → is_in (change name (taller_node w) n).top.vertices u ≡ true
  still_in n u h =
      by_name (λ x. is_in x.top.vertices u ≡ true) name (taller_node w) n
      (λ named. is_in_push n.top.vertices w u ∙ or_left (is_in n.top.vertices u) (w == u) h) (λ other. h)

  marked_other : (u : ℕ) (mk : Mark) → (u ≡ w → ⊥) → mark_of marks u ≡ Some mk → IsMarked p others (set regions i (raised w old)) marks' u mk
  marked_other u mk other at' =
      let is : IsMarked p nodes regions marks u mk = kept.marked u mk at' in
      let (c, cover) = some_cover nodes u is.covered in
      let over = cover_among nodes u c cover in
      marked_moved p nodes others regions (set regions i (raised w old)) marks marks' u mk is
      (covered_in p others nest (change name (taller_node w) over.node) (changed_among over.node over.among) u (still_in over.node u over.holds))
      (top_more name w mk.leaf mk.source nodes is.leaf)
      (childless_set regions i old (raised w old) mk.leaf is_old there.below refl refl ∙ is.childless)
      (alike.heights u)
      (radii_same mk.leaf)
      (λ d h. ap (λ l. is_in l d) (leaves_taller name w nodes) ∙ h)
      (λ t e.
      let (b, from) = from_marked p (leaves nodes) marks u mk t e is.came in
      mark_other marks w t.from (Some own)
      (λ same.
      let none : mark_of marks t.from ≡ None = ap (mark_of marks) same ∙ unmarked p regions marks kept w may.uncovered in
      absurd (let clash : None ≡ Some b = sym none ∙ from in cc)))

  own_marked : IsMarked p others (set regions i (raised w old)) marks' w own
  own_marked =
      let is : IsMarked p nodes regions marks s.from m = kept.marked s.from m has in
      let from : mark_of marks' s.from ≡ Some m =
      mark_other marks w s.from (Some own)
      (λ same.
      let none : mark_of marks s.from ≡ None = ap (mark_of marks) same ∙ unmarked p regions marks kept w may.uncovered in
      absurd (let clash : None ≡ Some m = sym none ∙ has in cc))
      ∙ has in
      record {
        covered =
            covered_in p others nest (change name (taller_node w) (node_of marks old)) (changed_among (node_of marks old) among) w
            (by_name (λ x. is_in x.top.vertices w ≡ true) name (taller_node w) (node_of marks old)
            (λ named. is_in_pushed (node_of marks old).top.vertices w) (λ other. absurd (other there.named)));
        leaf = top_more name w m.leaf m.source nodes is.leaf;
        childless = childless_set regions i old (raised w old) m.leaf is_old there.below refl refl ∙ is.childless;
        defect = ap (λ l. is_in l m.source) (leaves_taller name w nodes) ∙ is.defect;
        balance = omega (arith, is.balance, full, alike.heights w, kept.nest.dual.uncovered w may.uncovered, radii_same m.leaf);
        came = (
          record { within = step.within; leads = step.leads; weighs = refl },
          subst (IsAfter own (edge_at p.edges s.edge).weight) (sym from)
              (refl, refl, omega (arith, mark_in.rank, length-top marks old), ap (λ n. m.distance + n) step.weighs),
        );
      }

  listed : AreListed marks' (set regions i (raised w old))
  listed =
      let still = lists_still marks regions w (Some own) out kept.listed in
      All-set (IsListed marks') regions i (raised w old)
      (listed_more marks' old (raised w old) w (ap before_in (mark_new marks w (Some own) below)) refl refl refl refl refl
      (All_among (IsListed marks') regions still old there.among))
      still

  begun : StayBegun nodes others
  begun v c h =
      top_changed (BeginsWith v) (change name (taller_node w)) nodes c (λ n. by_name (λ x. x.name ≡ n.name) name (taller_node w) n (λ _. refl) (λ _. refl))
      (λ n a k. by_name (λ x. BeginsWith v x.top.vertices) name (taller_node w) n (λ _. begins_left v n.top.vertices (w ∷ []) k) (λ _. k)) h

  pub kept_absorbed : IsKept p (set regions i (raised w old)) marks'
  kept_absorbed = record {
    nest = subst (IsNest p) (sym nodes_absorbed) nest;
    walks = subst (HaveWalks p) (sym nodes_absorbed) (walks_absorbed p nodes name k s.from w may kept.nest kept.walks);
    room = length-set marks w (Some own) ∙ kept.room;
    radii =
        All-set (λ r. r.radius ≡ total_value (layers_of (node_of marks' r))) regions i (raised w old)
        (radius_of old there.among
        ∙ (sym (weigh-taller_node (λ _. true) w (node_of marks old)) ∙ ap (λ n. total_value (layers_of n)) (sym raised_node)))
        (among_All (λ r. r.radius ≡ total_value (layers_of (node_of marks' r))) regions
        (λ r a.
        radius_of r a
        ∙ ap (λ n. total_value (layers_of n)) (sym (node_still marks r w (Some own) (out (node_of marks r) (map_among (node_of marks) regions r a))))));
    parents =
        subst (λ ns. HaveParents ns (set regions i (raised w old))) (sym nodes_absorbed)
        (parents_set nodes others regions i old (raised w old) (λ x h. outer_taller name w x nodes ∙ h) is_old there.below refl refl refl kept.parents);
    sets = subst (λ ns. All (λ c. HasMarks marks' c.vertices) (all_cuts ns)) (sym nodes_absorbed) sets;
    listed = listed;
    begins = subst (λ ns. BeginAlike ns (set regions i (raised w old))) (sym nodes_absorbed)
        (set_begun nodes others regions i old (raised w old) begun there.among refl refl kept.begins);
    marked = λ u mk at'. subst (λ ns. IsMarked p ns (set regions i (raised w old)) marks' u mk) (sym nodes_absorbed) (by u mk at' (cases_eq u w));
  }
    where
      radius_of : (r : Region) → IsAmong r regions → r.radius ≡ total_value (layers_of (node_of marks r))
      radius_of r a = All_among (λ x. x.radius ≡ total_value (layers_of (node_of marks x))) regions kept.radii r a

      by : (u : ℕ) (mk : Mark) → mark_of marks' u ≡ Some mk → (u ≡ w) ⊎ (u ≡ w → ⊥) → IsMarked p others (set regions i (raised w old)) marks' u mk
      by u mk at' (inl same) =
          let e : Some own ≡ Some mk = sym (mark_new marks w (Some own) below) ∙ (ap (mark_of marks') (sym same) ∙ at') in
          let e' : own ≡ mk = cc in
          subst (λ x. IsMarked p others (set regions i (raised w old)) marks' x mk) (sym same)
          (subst (IsMarked p others (set regions i (raised w old)) marks' w) e' own_marked)
      by u mk at' (inr other) = marked_other u mk other (sym (mark_other marks w u (Some own) other) ∙ at')

  -- what the sums of the call need
  pub fits_absorbed : (m.distance + s.weight ≤ 2 ^ 52) × (old.base + old.added + 1 ≤ 2 ^ 20)
  fits_absorbed = (
    omega (arith, (kept.marked s.from m has).balance, full, radii_fit p regions marks kept m.leaf),
    omega (arith, length-top marks old, more),
  )
    where
      more : length (node_of marks old).top.vertices + 1 ≤ 2 ^ 20
      more =
          let size = sized p (set regions i (raised w old)) marks' kept_absorbed limits (raised w old)
          (among_at marks' (set regions i (raised w old)) i (raised w old) (omega (arith, there.below, length-set regions i (raised w old))) (sym (get_or-set_same regions i (raised w old) (raised w old) there.below))) in
          omega (arith, size, limits.vertices, length-append (node_of marks old).top.vertices (w ∷ []), ap (λ n. length n.top.vertices) raised_node)
