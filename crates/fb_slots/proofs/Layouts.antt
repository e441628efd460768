-- The items of a job are laid out as the rule asks.
use Rattle.std.proofs.Common.{ℕ, ◌≡◌, ◌+◌, ◌*◌, ◌/◌, ◌%◌, ◌^◌, ◌<◌, ◌≤◌, Bool, true, false, Option, Some, None, List, length, get_or, is_some, refl, sym, ap, subst, ◌∙◌, arith}
use Rattle.std.proofs.Math.Nat.{mul-le-mul_left}
use Rattle.std.proofs.lemmas.Bool.{eqb-true, eq-eqb, ltb-false}
use Rattle.std.proofs.lemmas.Nat.{div-add-mod', div-mul-add, mod-mul-add, mod_below, div_below, mul-add-lt}
use Rattle.std.specs.Prelude.{nat_lt, option_map}
use Rattle.fb_book.specs.Machine.{is_child}
use Rattle.fb_book.specs.Board.{kids_in}
use Rattle.fb_book.specs.InternalBoard.{AreParents, node_limit, parent_place}
use Rattle.fb_plan.proofs.Roots.{parent_exactly}
use Rattle.std.proofs.lemmas.Option.{same_Some}
use Rattle.fb_slots.specs.Places.{ArePlaces}
use Rattle.fb_book.proofs.Places.{forest_of_places, unit_place, unit_of_place, child_at, parent_is}
use Rattle.fb_book.proofs.Trees.{forest_of_tree, small_tree, parents_of_tree}
use Rattle.fb_plan.specs.Plans.{JobValue, IsTree, node_count, root_of, parent_of}
use Rattle.fb_slots.specs.Slots.{IsLayout, layout_of, CountsAt, parent, root, IsCountOf}

module _ (job : JobValue) (workers : ℕ) (tree : IsTree job.plan) (few : length job.shots < 2 ^ 32)
    (some_few : workers < 2 ^ 32) where
  small : (0 < job.plan.units) × (job.plan.units + length job.plan.joins < node_limit)
  small = small_tree job.plan tree

  -- where a unit stands
  unit_slot : (x : ℕ) → x < length job.shots * job.plan.units
      → x / job.plan.units < length job.shots
  unit_slot x less = div_below x job.plan.units (length job.shots) small.0 less

  unit_node : (x : ℕ) → x % job.plan.units < job.plan.units
  unit_node x = mod_below x job.plan.units small.0

  unit_in : (x : ℕ) → x % job.plan.units < node_count job.plan
  unit_in x = let a = unit_node x in omega (arith, a)

  pub is_layout : IsLayout (layout_of job workers)
  is_layout = record {
    some = let a = small.0 in omega (arith, a);
    forest = forest_of_places job.plan.units job.plan.joins small.0 (forest_of_tree job.plan tree);
    unit_in = λ x less. let m = mul-add-lt (x / job.plan.units) (node_count job.plan)
        (x % job.plan.units) (length job.shots) (unit_slot x less) (unit_in x) in omega (arith, m);
    unit = λ x less. unit_place job.plan.units job.plan.joins (x / job.plan.units * node_count
        job.plan + x % job.plan.units)
        (subst (λ y. y < job.plan.units)
        (sym (mod-mul-add (x / job.plan.units) (node_count job.plan) (x % job.plan.units)
        (unit_in x))) (unit_node x));
    once = λ x y x_less y_less e.
        let slots : x / job.plan.units ≡ y / job.plan.units =
        sym (div-mul-add (x / job.plan.units) (node_count job.plan) (x % job.plan.units)
        (unit_in x)) ∙ (ap (λ z. z / node_count job.plan) e ∙ div-mul-add (y / job.plan.units)
        (node_count job.plan) (y % job.plan.units) (unit_in y)) in
        let nodes : x % job.plan.units ≡ y % job.plan.units =
        sym (mod-mul-add (x / job.plan.units) (node_count job.plan) (x % job.plan.units)
        (unit_in x)) ∙ (ap (λ z. z % node_count job.plan) e ∙ mod-mul-add (y / job.plan.units)
        (node_count job.plan) (y % job.plan.units) (unit_in y)) in
        sym (div-add-mod' x job.plan.units) ∙ ((λ i. slots i * job.plan.units + nodes i)
        ∙ div-add-mod' y job.plan.units);
    all = λ k less e.
        let node : k % node_count job.plan < job.plan.units =
        unit_of_place job.plan.units job.plan.joins k small.0 e in
        let slot : k / node_count job.plan < length job.shots = div_below k (node_count job.plan)
        (length job.shots) (let a = small.0 in omega (arith, a)) less in
        let x : ℕ = k / node_count job.plan * job.plan.units + k % node_count job.plan in (
          x,
          (let m = mul-add-lt (k / node_count job.plan) job.plan.units (k % node_count job.plan)
              (length job.shots) slot node in omega (arith, m)),
          (λ i. div-mul-add (k / node_count job.plan) job.plan.units (k % node_count job.plan) node
              i * node_count job.plan + mod-mul-add (k / node_count job.plan) job.plan.units
              (k % node_count job.plan) node i) ∙ div-add-mod' k (node_count job.plan),
        );
    root = λ j k h. childless j k (eqb-true (k % node_count job.plan) (root_of job.plan) h);
    few =
        let a : length job.shots * job.plan.units ≤ length job.shots * node_limit =
        mul-le-mul_left (length job.shots) (let s = small.1 in omega (arith, s)) in
        omega (arith, a, few, some_few);
    small =
        let a : length job.shots * node_count job.plan ≤ length job.shots * node_limit =
        mul-le-mul_left (length job.shots) (let s = small.1 in omega (arith, s)) in
        omega (arith, a, few);
  }
    where
      childless : (j k : ℕ) → k % node_count job.plan ≡ root_of job.plan
          → is_child (kids_in job.plan.units job.plan.joins j) k ≡ false
      childless j k e = step (is_child (kids_in job.plan.units job.plan.joins j) k) refl
        where
          step : (r : Bool) → is_child (kids_in job.plan.units job.plan.joins j) k ≡ r → r ≡ false
          step false h = refl
          step true h =
              let a = child_at job.plan.units job.plan.joins j k h in
              let j_node : j % node_count job.plan < node_count job.plan =
              mod_below j (node_count job.plan) (let s = small.0 in omega (arith, s)) in
              let below : a.node < j % node_count job.plan = (forest_of_tree job.plan tree).before
              (j % node_count job.plan) a.node a.child in
              let node : k % node_count job.plan ≡ a.node = ap (λ x. x % node_count job.plan)
              a.place ∙ mod-mul-add (j / node_count job.plan) (node_count job.plan) a.node
              (omega (arith, j_node, below)) in
              absurd (omega (arith, node, below, j_node, e))

  -- the item whose word counts one that has a parent, and one that has none
  pub counts_parent : (parents : List (Option ℕ)) → AreParents job.plan.units job.plan.joins parents
      → (k m : ℕ)
      → get_or parents (k % node_count job.plan) None ≡ Some m → CountsAt (layout_of job workers) k
      (k / node_count job.plan * node_count job.plan + m)
  counts_parent parents p k m e =
      parent (parent_is job.plan.units job.plan.joins parents p k m small.0 e)

  pub counts_root : (k : ℕ) → k % node_count job.plan ≡ root_of job.plan
      → CountsAt (layout_of job workers) k k
  counts_root k e = root refl (eq-eqb (k % node_count job.plan) (root_of job.plan) e)

module _ {job : JobValue} {workers units nodes slots : ℕ} {joins : List (ℕ × ℕ)}
    {parents : List (Option ℕ)} (p : ArePlaces job workers units nodes slots joins parents) where
  pub layout_is : IsLayout (layout_of job workers)
  layout_is = is_layout job workers p.tree p.few_slots p.few_workers

  parents_is : AreParents job.plan.units job.plan.joins parents
  parents_is = parents_of_tree job.plan p.tree parents p.parents_count p.parents_are

  some_nodes : 0 < node_count job.plan
  some_nodes = let s = (small_tree job.plan p.tree).0 in omega (arith, s)

  at_parent : (k c : ℕ) → k < length job.shots * node_count job.plan → (o : Option ℕ)
      → get_or parents (k % node_count job.plan) None ≡ o
      → option_map (λ m. k / node_count job.plan * node_count job.plan + m) o ≡ Some c
      → IsCountOf (layout_of job workers) k c
  at_parent k c less None e f = cc
  at_parent k c less (Some m) e f =
      let same : k / node_count job.plan * node_count job.plan + m ≡ c =
      same_Some (k / node_count job.plan * node_count job.plan + m) c f in
      let m_less : m < node_count job.plan = (parents_is.sound (k % node_count job.plan) m e).0 in
      let slot : k / node_count job.plan < length job.shots = div_below k (node_count job.plan)
      (length job.shots) some_nodes less in
      let inside = mul-add-lt (k / node_count job.plan) (node_count job.plan) m (length job.shots)
      slot m_less in
      subst (IsCountOf (layout_of job workers) k) same (record {
        less = omega (arith, inside);
        counts = counts_parent job workers p.tree p.few_slots p.few_workers parents parents_is k m
            e;
      })

  pub counted_parent : (k c : ℕ) → k < length job.shots * node_count job.plan
      → parent_place nodes parents k ≡ Some c → IsCountOf (layout_of job workers) k c
  counted_parent k c less e =
      at_parent k c less (get_or parents (k % node_count job.plan) None) refl
      (ap (λ n. parent_place n parents k) (sym p.nodes_are) ∙ e)

  at_root : (k : ℕ) → k < length job.shots * node_count job.plan → (o : Option ℕ)
      → get_or parents (k % node_count job.plan) None ≡ o
      → option_map (λ m. k / node_count job.plan * node_count job.plan + m) o ≡ None
      → IsCountOf (layout_of job workers) k k
  at_root k less (Some m) e f = cc
  at_root k less None e f =
      let node : k % node_count job.plan < node_count job.plan = mod_below k (node_count job.plan)
      some_nodes in
      let none : parent_of job.plan (k % node_count job.plan) ≡ None =
      sym (p.parents_are (k % node_count job.plan) node) ∙ e in
      let top : nat_lt (k % node_count job.plan) (root_of job.plan) ≡ false =
      sym (parent_exactly job.plan (k % node_count job.plan) p.tree) ∙ ap is_some none in
      let high : root_of job.plan ≤ k % node_count job.plan = ltb-false (k % node_count job.plan)
      (root_of job.plan) top in
      record {
        less = less;
        counts = counts_root job workers p.tree p.few_slots p.few_workers k
            (omega (arith, node, high));
      }

  pub counted_root : (k : ℕ) → k < length job.shots * node_count job.plan
      → parent_place nodes parents k ≡ None → IsCountOf (layout_of job workers) k k
  counted_root k less e =
      at_root k less (get_or parents (k % node_count job.plan) None) refl
      (ap (λ n. parent_place n parents k) (sym p.nodes_are) ∙ e)

-- The node at a unit's place is a unit.
pub unit_node_less : (job : JobValue) → IsTree job.plan → (s m x : ℕ) → m < node_count job.plan
    → s * node_count job.plan + m ≡ x / job.plan.units * node_count job.plan + x % job.plan.units
    → m < job.plan.units
unit_node_less job tree s m x less e =
    let small = small_tree job.plan tree in
    let node : x % job.plan.units < job.plan.units = mod_below x job.plan.units small.0 in
    let inside : x % job.plan.units < node_count job.plan = omega (arith, node) in
    let same : m ≡ x % job.plan.units =
    sym (mod-mul-add s (node_count job.plan) m less) ∙ (ap (λ z. z % node_count job.plan) e
    ∙ mod-mul-add (x / job.plan.units) (node_count job.plan) (x % job.plan.units) inside) in
    omega (arith, same, node)
