-- A node that is found by its name and grows or shrinks.
use Rattle.std.proofs.Common.{ℕ, ◌≡◌, ◌+◌, ◌-◌, ◌*◌, ◌<◌, ◌≤◌, ◌^◌, ◌==◌, cond, Bool, true, false, List, length, set, get_or, Option, Some, None, refl, sym, ap, ◌∙◌, arith}
use Rattle.std.specs.List.{position}
use Rattle.std.proofs.lemmas.List.{get_or-set_same, length-map, length-set}
use Rattle.std.proofs.lemmas.List.Sums.{get_or-le-sum_by, sum_by_push}
use Rattle.fb_graph.specs.Problem.{Problem}
use Rattle.fb_graph.specs.Certificate.{total_value}
use Rattle.fb_graph.specs.Counts.{as_count}
use Rattle.fb_graph.specs.Covers.{passes}
use Rattle.fb_graph.specs.Dual.{Node, AllowsGrowth, IsCrossed, all_cuts, change_at, is_outer, layers_of, no_node, node_at, thicker_node, top_at}
use Rattle.fb_graph.specs.Limits.{IsWithinLimits}
use Rattle.fb_graph.specs.Nests.{IsNest}
use Rattle.fb_graph.specs.Turns.{with_minus, with_plus, no_roles, thinner_node}
use Rattle.fb_graph.specs.declared.parts.Cut.{Cut}
use Rattle.fb_graph.proofs.Among.{All_among, same_among, map_among}
use Rattle.fb_graph.proofs.CutSums.{sum_by-flat_map, weigh-thicker_node}
use Rattle.fb_regions.specs.declared.marks.Mark.{Mark}
use Rattle.fb_regions.specs.declared.region.Region.{Region}
use Rattle.fb_regions.specs.InternalNodes.{node_of, nodes_of}
use Rattle.fb_regions.specs.InternalKept.{IsKept}
use Rattle.fb_regions.specs.Moves.{node_named}
use Rattle.fb_regions.proofs.Found.{IsFound, found, read_at}
use Rattle.fb_regions.proofs.Radii.{is_some_of}
use Rattle.fb_regions.proofs.Stepped.{grown_turn, kept_stepped, shrunk_turn, thicker_as_step, thinner_as_step}

-- the values of a node's layers are among all values
pub radius-le : (p : Problem) (nodes : List Node) → IsNest p nodes → (i : ℕ) → i < length nodes → total_value (layers_of (node_at nodes i)) ≤ 2 ^ 52
radius-le p nodes nest i less =
    let part : total_value (layers_of (node_at nodes i)) ≤ total_value (all_cuts nodes) =
    rw (sum_by-flat_map (λ (c : Cut). c.value) layers_of nodes) (get_or-le-sum_by (λ n. total_value (layers_of n)) nodes i no_node less) in
    omega (arith, part, nest.dual.total)

pub top-le : (n : Node) → n.top.value ≤ total_value (layers_of n)
top-le n = omega (arith, sum_by_push (λ (c : Cut). c.value) n.below n.top)

abbrev pub grown : ℕ → Region → Region
grown k r = record r { top_value = r.top_value + k; radius = r.radius + k }

abbrev pub shrunk : ℕ → Region → Region
shrunk k r = record r { top_value = r.top_value - k; radius = r.radius - k }

pub record IsTurned (p : Problem) (regions : List Region) (marks : List (Option Mark)) (i : ℕ) (new : Region) (nodes : List Node) : Type 0 where
  pub below : i < length regions
  pub radius : new.radius ≤ 2 ^ 52
  pub value : new.top_value ≤ new.radius
  pub kept : IsKept p (set regions i new) marks
  pub change : nodes_of marks (set regions i new) ≡ nodes

module _ (p : Problem) (regions : List Region) (marks : List (Option Mark)) (kept : IsKept p regions marks) (limits : IsWithinLimits p)
    (name k i : ℕ) (old : Region) (at : position (λ r. r.name == name) regions ≡ Some i) (is_old : old ≡ get_or regions i old)
    (outer : is_outer (nodes_of marks regions) name ≡ true) where
  there : IsFound marks regions name i old
  there = found marks regions name i old at is_old

  radius_is : old.radius ≡ total_value (layers_of (node_of marks old))
  radius_is = All_among (λ r. r.radius ≡ total_value (layers_of (node_of marks r))) regions kept.radii old there.among

  own_outer : is_outer (nodes_of marks regions) old.name ≡ true
  own_outer = ap (is_outer (nodes_of marks regions)) there.named ∙ outer

  counted : (o : Option ℕ) → k * as_count (passes (λ n. n == name) o) ≡ cond (is_some_of o old.name) k 0
  counted None = omega arith
  counted (Some n) = by (n == name) (n == old.name) (ap (λ x. n == x) (sym there.named))
    where
      by : (b c : Bool) → b ≡ c → k * as_count b ≡ cond c k 0
      by true true e = omega arith
      by true false e = absurd (cc)
      by false true e = absurd (cc)
      by false false e = omega arith

  uncounted : (o : Option ℕ) → k * as_count (passes (λ n. false) o) ≡ cond (is_some_of o old.name) 0 0
  uncounted None = omega arith
  uncounted (Some n) = by (n == old.name)
    where
      by : (c : Bool) → k * as_count false ≡ cond c 0 0
      by true = omega arith
      by false = omega arith

  turned : (new : Region) (f : Node → Node) (a b : ℕ) → node_of marks new ≡ f (node_of marks old)
      → new.name ≡ old.name → new.radius ≡ total_value (layers_of (node_of marks new))
      → IsKept p (set regions i new) marks → IsTurned p regions marks i new (change_at name f (nodes_of marks regions))
  turned new f a b same named radius after = record {
    below = there.below;
    radius =
        let bound = radius-le p (nodes_of marks (set regions i new)) after.nest i (omega (arith, there.below, length-map (set regions i new) (node_of marks), length-set regions i new)) in
        omega (
          arith,
          radius,
          bound,
          ap (λ n. total_value (layers_of n)) (read_at marks (set regions i new) i new (omega (arith, there.below, length-set regions i new)) (sym (get_or-set_same regions i new new there.below))),
        );
    value = omega (arith, top-le (node_of marks new), radius);
    kept = after;
    change = there.changed new f kept.nest.dual.names same;
  }

  pub growth : IsCrossed p (top_at (nodes_of marks regions) name) → AllowsGrowth p (nodes_of marks regions) (top_at (nodes_of marks regions) name) k
      → IsTurned p regions marks i (grown k old) (change_at name (thicker_node k) (nodes_of marks regions))
  growth crossed room =
      let radius : old.radius + k ≡ total_value (layers_of (node_of marks (grown k old))) =
      omega (arith, radius_is, weigh-thicker_node (λ _. true) k (node_of marks old)) in
      turned (grown k old) (thicker_node k) 0 k refl refl radius
      (kept_stepped p regions marks kept limits (with_plus no_roles name) k
      (grown_turn p (nodes_of marks regions) kept.nest name k outer crossed room) i 0 k old (grown k old) is_old there.below
      (record {
        name = refl;
        children = refl;
        parent = refl;
        first = refl;
        base = refl;
        base_last = refl;
        added = refl;
        last = refl;
      }) own_outer (omega arith) radius
      (there.changed (grown k old) (thicker_node k) kept.nest.dual.names refl ∙ thicker_as_step name k (nodes_of marks regions)) counted uncounted)

  pub shrinking : k ≤ (node_named (nodes_of marks regions) name).top.value
      → IsTurned p regions marks i (shrunk k old) (change_at name (thinner_node k) (nodes_of marks regions)) × (k ≤ old.top_value) × (k ≤ old.radius)
  shrinking low =
      let most : k ≤ old.top_value = omega (arith, low, ap (λ n. n.top.value) there.is) in
      let own : old.top_value ≤ old.radius = omega (arith, radius_is, top-le (node_of marks old)) in
      let radius : old.radius - k ≡ total_value (layers_of (node_of marks (shrunk k old))) =
      omega (
        arith,
        most,
        radius_is,
        sum_by_push (λ (c : Cut). c.value) (node_of marks old).below (node_of marks old).top,
        sum_by_push (λ (c : Cut). c.value) (node_of marks old).below (thinner_node k (node_of marks old)).top,
      ) in (
        turned (shrunk k old) (thinner_node k) k 0 refl refl radius
            (kept_stepped p regions marks kept limits (with_minus no_roles name) k
            (shrunk_turn p (nodes_of marks regions) kept.nest name k outer
            (λ n a named.
            let same = same_among (nodes_of marks regions) kept.nest.dual.names n (node_of marks old) a (map_among (node_of marks) regions old there.among) (named ∙ sym there.named) in
            omega (arith, most, ap (λ m. m.top.value) same)))
            i k 0 old (shrunk k old) is_old there.below (record {
              name = refl;
              children = refl;
              parent = refl;
              first = refl;
              base = refl;
              base_last = refl;
              added = refl;
              last = refl;
            }) own_outer (omega (arith, most, own)) radius
            (there.changed (shrunk k old) (thinner_node k) kept.nest.dual.names refl ∙ thinner_as_step name k (nodes_of marks regions)) uncounted counted),
        most,
        omega (arith, most, own),
      )
