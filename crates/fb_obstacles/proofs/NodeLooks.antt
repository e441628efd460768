-- What looks at minus nodes tell.
use Rattle.std.proofs.Common.{ℕ, suc, ◌≡◌, ◌+◌, ◌*◌, ◌≤◌, ◌<◌, ◌==◌, ◌&&◌, ◌||◌, ◌⊎◌, inl, inr, Bool, true, false, cond, filter, nat_le, nat_lt, List, [], ◌∷◌, length, length-append, map, get_or, take, All, refl, sym, ap, ◌∙◌, subst, arith}
use Rattle.std.proofs.lemmas.Bool.{false≢true, both_ways, cases_eq, eqb-true, eq-eqb, ltb-true, ltb-false}
use Rattle.std.proofs.lemmas.List.{get_or-map, length-map}
use Rattle.std.proofs.lemmas.List.Folds.{list_any_at}
use Rattle.std.proofs.lemmas.List.Elements.{All-cons, All-from_get_or, All-head, All-nil, All-tail}
use Rattle.fb_graph.specs.Problem.{Problem}
use Rattle.fb_graph.specs.Certificate.{AreDistinct}
use Rattle.fb_graph.specs.Dual.{Node, layers_of, layers_at, is_empty, is_live, is_outer, node_at, no_node}
use Rattle.fb_graph.specs.Steps.{Roles, AllowShrinking}
use Rattle.fb_graph.specs.Covers.{AreRoles}
use Rattle.fb_graph.specs.declared.parts.Cut.{Cut}
use Rattle.fb_graph.proofs.Crossings.{one_of_name}
use Rattle.fb_graph.specs.Parity.{is_in}
use Rattle.fb_graph.proofs.Sets.{All-from_is_in, is_in-All}
use Rattle.fb_regions.specs.Moves.{node_named}
use Rattle.fb_obstacles.specs.declared.obstacle.Obstacle.TheVariants as obstacle
use Rattle.fb_obstacles.specs.declared.looking.Look.{Look}
use Rattle.fb_obstacles.specs.declared.looking.Look.TheVariants.{Blocked, Clear, Within}
use Rattle.fb_obstacles.specs.Obstacles.{AreMinusBounded, AreMinusLive, Obstructs}
use Rattle.fb_obstacles.specs.InternalWatching.{no_node as no_bound}
use Rattle.fb_obstacles.specs.Watched.{NodeBound, Watched, has_bound}
use Rattle.fb_obstacles.specs.InternalLooks.{empty_layer, node_look, both_looks, Limits, IsAtMostEach, minus_tops, watched_look}
use Rattle.fb_obstacles.proofs.LookLimits.{limits_more, limits_same, limits_whole}

-- the top layer of the node of this name is at least as thick
abbrev pub BearsShrinking : List Node → ℕ → ℕ → Type 0
BearsShrinking nodes j name = j ≤ (node_named nodes name).top.value

layers_named : (nodes : List Node) (name : ℕ) → is_live nodes name ≡ true
    → layers_at nodes name ≡ layers_of (node_named nodes name)
layers_named [] name live = absurd (false≢true live)
layers_named (n ∷ ns) name live = step (n.name == name) refl (layers_named ns name)
  where
    step : (b : Bool) → (n.name == name) ≡ b → (is_live ns name ≡ true → layers_at ns name ≡ layers_of (node_named ns name))
        → cond b (layers_of n) (layers_at ns name) ≡ layers_of (cond b n (node_named ns name))
    step true e rest = refl
    step false e rest = rest (ap (λ b. b || is_live ns name) (sym e) ∙ live)

-- the node of a live name stands at some place, and has the name
pub named_place : (nodes : List Node) (name : ℕ) → is_live nodes name ≡ true
    → (i : ℕ) × (i < length nodes) × (node_at nodes i ≡ node_named nodes name) × ((node_named nodes name).name ≡ name)
named_place [] name live = absurd (false≢true live)
named_place (n ∷ ns) name live = step (n.name == name) refl (named_place ns name)
  where
    step : (b : Bool) → (n.name == name) ≡ b
        → (is_live ns name ≡ true → (i : ℕ) × (i < length ns) × (node_at ns i ≡ node_named ns name) × ((node_named ns name).name ≡ name))
        → (i : ℕ) × (i < length (n ∷ ns)) × (node_at (n ∷ ns) i ≡ cond b n (node_named ns name)) × ((cond b n (node_named ns name)).name ≡ name)
    step true e rest = (0, omega arith, refl, eqb-true n.name name e)
    step false e rest =
        let (i, less, at, named) = rest (ap (λ b. b || is_live ns name) (sym e) ∙ live) in
        (suc i, omega arith, at, named)

-- no other node has the name
pub named_only : (nodes : List Node) (name : ℕ) → AreDistinct (map (λ n. n.name) nodes)
    → All (λ n. n.name ≡ name → n ≡ node_named nodes name) nodes
named_only nodes name distinct =
    All-from_get_or (λ n. n.name ≡ name → n ≡ node_named nodes name) nodes no_node
    (λ j less same.
    let (i, short, at, named) =
    named_place nodes name (list_any_at (λ n. n.name == name) nodes j no_node less (eq-eqb (node_at nodes j).name name same)) in
    one_of_name nodes distinct j i less short (same ∙ sym (ap (λ (n : Node). n.name) at ∙ named)) ∙ at)

pub node_limits : (p : Problem) (roles : Roles) (nodes : List Node) (name : ℕ) → AreDistinct (map (λ n. n.name) nodes)
    → AreRoles roles nodes → is_live nodes name ≡ true → roles.is_minus name ≡ true
    → Limits (λ j. BearsShrinking nodes j name) (Obstructs p roles nodes) (node_look nodes name)
node_limits p roles nodes name distinct are live minus = step (n.top.value == 0) refl
  where
    n : Node
    n = node_named nodes name

    outer : is_outer nodes name ≡ true
    outer =
        let (i, less, at, named) = named_place nodes name live in
        let same : (node_at nodes i).name ≡ name = ap (λ (m : Node). m.name) at ∙ named in
        subst (λ x. is_outer nodes x ≡ true) same
        (are.minus i no_node less (subst (λ x. roles.is_minus x ≡ true) (sym same) minus))

    layers : length (layers_at nodes name) ≡ length n.below + 1
    layers = ap length (layers_named nodes name live) ∙ length-append n.below (n.top ∷ [])

    -- what holds of the node of this name holds of each node of the name
    each : (P : Node → Type 0) → P n → All (λ m. m.name ≡ name → P m) nodes
    each P here i d less same = subst P (sym (named_only nodes name distinct i d less same)) here

    none_below : length n.below ≡ 0 → n.below ≡ []
    none_below = empty n.below
      where
        empty : (cs : List Cut) → length cs ≡ 0 → cs ≡ []
        empty [] e = refl
        empty (c ∷ cs) e = absurd (omega arith)

    no_children : (cs : List ℕ) → is_empty cs ≡ true → cs ≡ []
    no_children [] e = refl
    no_children (c ∷ cs) e = absurd (false≢true e)

    emptied : n.top.value ≡ 0 → Obstructs p roles nodes (empty_layer nodes name)
    emptied zero_value = by_layers (nat_lt 1 (length (layers_at nodes name))) refl
      where
        by_children : length n.below ≡ 0 → (b : Bool) → is_empty n.children ≡ b
            → Obstructs p roles nodes (cond b (obstacle.ZeroMinus name) (obstacle.BlossomEmpty name))
        by_children low true childless = (
          minus,
          record {
            live = live;
            outer = outer;
            bare = each (λ m. (m.children ≡ []) × (m.below ≡ []) × (m.top.value ≡ 0))
                (no_children n.children childless, none_below low, zero_value);
          },
        )
        by_children low false blossom = (
          minus,
          record {
            live = live;
            outer = outer;
            bare = each (λ m. (is_empty m.children ≡ false) × (m.below ≡ []) × (m.top.value ≡ 0))
                (blossom, none_below low, zero_value);
          },
        )

        by_layers : (b : Bool) → nat_lt 1 (length (layers_at nodes name)) ≡ b
            → Obstructs p roles nodes
            (cond b (obstacle.LayerEmpty name) (cond (is_empty n.children) (obstacle.ZeroMinus name) (obstacle.BlossomEmpty name)))
        by_layers true many = (
          minus,
          record {
            live = live;
            outer = outer;
            bare = each (λ m. (1 ≤ length m.below) × (m.top.value ≡ 0)) (omega (arith, layers, ltb-true 1 (length (layers_at nodes name)) many), zero_value);
          },
        )
        by_layers false few = by_children (omega (arith, layers, ltb-false 1 (length (layers_at nodes name)) few)) (is_empty n.children) refl

    step : (b : Bool) → (n.top.value == 0) ≡ b
        → Limits (λ j. BearsShrinking nodes j name) (Obstructs p roles nodes) (cond b (Blocked (empty_layer nodes name)) (Within n.top.value))
    step true is = emptied (eqb-true n.top.value 0 is)
    step false is = (by (cases_eq n.top.value 0), λ j le. le, λ j le. le)
      where
        by : (n.top.value ≡ 0) ⊎ (n.top.value ≡ 0 → ⊥) → 1 ≤ n.top.value
        by (inl same) = absurd (both_ways (n.top.value == 0) is (eq-eqb n.top.value 0 same))
        by (inr other) = omega arith

module _ (roles : Roles) where
  -- the minus nodes allow a step that is at most each of their values
  pub allow_tops : (nodes : List Node) (j : ℕ) → AllowShrinking roles nodes j → IsAtMostEach j (minus_tops roles nodes)
  allow_tops [] j allow = All-nil (λ top. j ≤ top)
  allow_tops (n ∷ ns) j allow =
      step (roles.is_minus n.name) refl (All-head (λ m. roles.is_minus m.name ≡ true → j ≤ m.top.value) n ns allow)
      (allow_tops ns j (All-tail (λ m. roles.is_minus m.name ≡ true → j ≤ m.top.value) n ns allow))
    where
      step : (b : Bool) → roles.is_minus n.name ≡ b → (roles.is_minus n.name ≡ true → j ≤ n.top.value)
          → IsAtMostEach j (minus_tops roles ns)
          → IsAtMostEach j (map (λ m. m.top.value)
          (cond b (n ∷ filter (λ m. roles.is_minus m.name) ns) (filter (λ m. roles.is_minus m.name) ns)))
      step true is here rest = All-cons (λ top. j ≤ top) n.top.value (minus_tops roles ns) (here is) rest
      step false is here rest = rest

  pub tops_allow : (nodes : List Node) (j : ℕ) → IsAtMostEach j (minus_tops roles nodes) → AllowShrinking roles nodes j
  tops_allow [] j most = All-nil (λ m. roles.is_minus m.name ≡ true → j ≤ m.top.value)
  tops_allow (n ∷ ns) j most = step (roles.is_minus n.name) refl (tops_allow ns j) most
    where
      step : (b : Bool) → roles.is_minus n.name ≡ b
          → (IsAtMostEach j (minus_tops roles ns) → AllowShrinking roles ns j)
          → IsAtMostEach j (map (λ m. m.top.value)
          (cond b (n ∷ filter (λ m. roles.is_minus m.name) ns) (filter (λ m. roles.is_minus m.name) ns)))
          → AllowShrinking roles (n ∷ ns) j
      step true is rest each =
          All-cons (λ m. roles.is_minus m.name ≡ true → j ≤ m.top.value) n ns
          (λ minus. All-head (λ top. j ≤ top) n.top.value (minus_tops roles ns) each)
          (rest (All-tail (λ top. j ≤ top) n.top.value (minus_tops roles ns) each))
      step false is rest each =
          All-cons (λ m. roles.is_minus m.name ≡ true → j ≤ m.top.value) n ns
          (λ minus. absurd (both_ways (roles.is_minus n.name) is minus)) (rest each)

  -- what all minus nodes allow, a live one does
  pub allows_live : (nodes : List Node) (j name : ℕ) → is_live nodes name ≡ true → roles.is_minus name ≡ true
      → AllowShrinking roles nodes j → BearsShrinking nodes j name
  allows_live nodes j name live minus allow =
      let (i, short, at, named) = named_place nodes name live in
      let same : (node_at nodes i).name ≡ name = ap (λ (m : Node). m.name) at ∙ named in
      subst (λ m. j ≤ m.top.value) at
      (allow i no_node short (subst (λ x. roles.is_minus x ≡ true) (sym same) minus))

  -- where no node is watched none is minus
  pub none_minus : (p : Problem) (nodes : List Node) (watched : Watched) → watched.nodes ≡ []
      → AreMinusBounded roles nodes watched → Limits (λ j. IsAtMostEach j (minus_tops roles nodes)) (Obstructs p roles nodes) Clear
  none_minus p nodes watched none bounded j =
      allow_tops nodes j (λ i d less minus.
      absurd (false≢true (ap (λ ns. has_bound ns (get_or nodes i d).name (2 * (get_or nodes i d).top.value)) (sym none) ∙ bounded i d less minus)))

  -- the look at the minus node whose top layer is empty first
  pub first_limits : (p : Problem) (nodes : List Node) (watched : Watched) (name value : ℕ)
      → AreDistinct (map (λ n. n.name) nodes) → AreRoles roles nodes → is_live nodes name ≡ true → roles.is_minus name ≡ true
      → value ≡ (node_named nodes name).top.value
      → ((other limit : ℕ) → has_bound watched.nodes other limit ≡ true → 2 * value ≤ limit)
      → AreMinusBounded roles nodes watched
      → Limits (λ j. IsAtMostEach j (minus_tops roles nodes)) (Obstructs p roles nodes) (node_look nodes name)
  first_limits p nodes watched name value distinct are live minus is least bounded =
      limits_same (λ j. BearsShrinking nodes j name) (λ j. IsAtMostEach j (minus_tops roles nodes)) (Obstructs p roles nodes)
      (node_look nodes name)
      (λ j bears. allow_tops nodes j (λ i d less minus.
      omega (arith, bears, is, least (get_or nodes i d).name (2 * (get_or nodes i d).top.value) (bounded i d less minus))))
      (λ j most. allows_live nodes j name live minus (tops_allow nodes j most))
      (node_limits p roles nodes name distinct are live minus)

  -- the first node waits
  pub first_postponed : (nodes : List Node) (old new : Watched) (name value : ℕ) → AreDistinct (map (λ n. n.name) nodes)
      → value ≡ (node_named nodes name).top.value
      → ((other limit : ℕ) → (other ≡ name → ⊥) → has_bound old.nodes other limit ≡ true → has_bound new.nodes other limit ≡ true)
      → has_bound new.nodes name (2 * value) ≡ true → AreMinusBounded roles nodes old → AreMinusBounded roles nodes new
  first_postponed nodes old new name value distinct is kept raised bounded i d less minus =
      by (get_or nodes i d) (named_only nodes name distinct i d less) (bounded i d less minus) (cases_eq (get_or nodes i d).name name)
    where
      by : (n : Node) → (n.name ≡ name → n ≡ node_named nodes name) → has_bound old.nodes n.name (2 * n.top.value) ≡ true
          → (n.name ≡ name) ⊎ (n.name ≡ name → ⊥) → has_bound new.nodes n.name (2 * n.top.value) ≡ true
      by n only was (inl same) =
          subst (λ k. has_bound new.nodes k (2 * n.top.value) ≡ true) (sym same)
          (subst (λ v. has_bound new.nodes name (2 * v) ≡ true) (is ∙ sym (ap (λ (m : Node). m.top.value) (only same))) raised)
      by n only was (inr other) = kept n.name (2 * n.top.value) other was

  -- the node of this name allows a step, if it is minus
  abbrev pub MayShrink : List Node → ℕ → ℕ → Type 0
  MayShrink nodes j name = roles.is_minus name ≡ true → BearsShrinking nodes j name

  watched_limits : (p : Problem) (nodes : List Node) (name : ℕ) → AreDistinct (map (λ n. n.name) nodes) → AreRoles roles nodes
      → AreMinusLive roles nodes
      → Limits (λ j. MayShrink nodes j name) (Obstructs p roles nodes) (watched_look roles nodes name)
  watched_limits p nodes name distinct are live = by (roles.is_minus name) refl
    where
      by : (b : Bool) → roles.is_minus name ≡ b
          → Limits (λ j. MayShrink nodes j name) (Obstructs p roles nodes) (cond b (node_look nodes name) Clear)
      by true minus =
          limits_same (λ j. BearsShrinking nodes j name) (λ j. MayShrink nodes j name) (Obstructs p roles nodes) (node_look nodes name)
          (λ j bears minus. bears) (λ j may. may minus) (node_limits p roles nodes name distinct are (live name minus) minus)
      by false other = λ j minus. absurd (both_ways (roles.is_minus name) other minus)

  abbrev pub names_of : List NodeBound → List ℕ
  names_of watched = map (λ n. n.name) watched

  -- one more watched node is looked at
  pub watched_more : (p : Problem) (nodes : List Node) (watched : List NodeBound) (i name : ℕ) (a b l : Look)
      → AreDistinct (map (λ n. n.name) nodes) → AreRoles roles nodes → AreMinusLive roles nodes → i < length watched
      → name ≡ (get_or watched i no_bound).name → b ≡ watched_look roles nodes name → l ≡ both_looks a b
      → Limits (λ j. All (MayShrink nodes j) (take i (names_of watched))) (Obstructs p roles nodes) a
      → Limits (λ j. All (MayShrink nodes j) (take (i + 1) (names_of watched))) (Obstructs p roles nodes) l
  watched_more p nodes watched i name a b l distinct are live less is looked joined limits =
      let short : i < length (names_of watched) = omega (arith, less, length-map watched (λ (n : NodeBound). n.name)) in
      let here : name ≡ get_or (names_of watched) i 0 = is ∙ sym (get_or-map (λ (n : NodeBound). n.name) watched i no_bound 0 less) in
      subst (Limits (λ j. All (MayShrink nodes j) (take (i + 1) (names_of watched))) (Obstructs p roles nodes)) (sym joined)
      (limits_more (MayShrink nodes) (Obstructs p roles nodes) (names_of watched) i a b short limits
      (subst (Limits (λ j. MayShrink nodes j (get_or (names_of watched) i 0)) (Obstructs p roles nodes))
      (sym (looked ∙ ap (watched_look roles nodes) here))
      (watched_limits p nodes (get_or (names_of watched) i 0) distinct are live)))

  bound_named : (watched : List NodeBound) (name limit : ℕ) → has_bound watched name limit ≡ true → is_in (names_of watched) name ≡ true
  bound_named [] name limit is = absurd (false≢true is)
  bound_named (n ∷ ns) name limit is = step (n.name == name) refl (bound_named ns name limit) is
    where
      step : (b : Bool) → (n.name == name) ≡ b → (has_bound ns name limit ≡ true → is_in (names_of ns) name ≡ true)
          → ((b && nat_le n.bound limit) || has_bound ns name limit) ≡ true
          → (b || is_in (names_of ns) name) ≡ true
      step true here rest any = refl
      step false here rest any = rest any

  -- all watched nodes are looked at, and so all minus nodes
  pub watched_all : (p : Problem) (nodes : List Node) (watched : Watched) (n : ℕ) (l : Look)
      → AreDistinct (map (λ n. n.name) nodes) → AreMinusLive roles nodes → AreMinusBounded roles nodes watched
      → length watched.nodes ≤ n
      → Limits (λ j. All (MayShrink nodes j) (take n (names_of watched.nodes))) (Obstructs p roles nodes) l
      → Limits (λ j. IsAtMostEach j (minus_tops roles nodes)) (Obstructs p roles nodes) l
  watched_all p nodes watched n l distinct live bounded whole limits =
      limits_same (λ j. All (MayShrink nodes j) (names_of watched.nodes)) (λ j. IsAtMostEach j (minus_tops roles nodes))
      (Obstructs p roles nodes) l
      (λ j each. allow_tops nodes j (λ i d less minus.
      subst (λ m. j ≤ m.top.value) (sym (named_only nodes (get_or nodes i d).name distinct i d less refl))
      (is_in-All (MayShrink nodes j) (names_of watched.nodes) each (get_or nodes i d).name
      (bound_named watched.nodes (get_or nodes i d).name (2 * (get_or nodes i d).top.value) (bounded i d less minus)) minus)))
      (λ j most. All-from_is_in (MayShrink nodes j) (names_of watched.nodes)
      (λ name here minus. allows_live nodes j name (live name minus) minus (tops_allow nodes j most)))
      (limits_whole (MayShrink nodes) (Obstructs p roles nodes) (names_of watched.nodes) n l
      (omega (arith, whole, length-map watched.nodes (λ (n : NodeBound). n.name))) limits)
