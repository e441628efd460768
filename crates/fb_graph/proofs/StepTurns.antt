-- A step node by node.
use Rattle.std.proofs.Common.{ℕ, ◌≡◌, ◌+◌, ◌-◌, ◌*◌, ◌≤◌, ◌==◌, ◌&&◌, ◌||◌, ◌⊎◌, inl, inr, Bool, true, false, cond, List, [], ◌∷◌, get_or, refl, sym, ap, ◌∙◌, arith}
use Rattle.std.proofs.lemmas.Bool.{false≢true, cases_Bool, eqb-true}
use Rattle.std.proofs.lemmas.List.Elements.{All-map}
use Rattle.std.proofs.lemmas.List.Sums.{sum_by-cons}
use Rattle.std.proofs.Math.Nat.{mul-le-mul_left}
use Rattle.fb_graph.specs.Problem.{crosses}
use Rattle.fb_graph.specs.Dual.{Node, change_at, thicker_node, top_at}
use Rattle.fb_graph.specs.declared.parts.Edge.{Edge}
use Rattle.fb_graph.specs.Counts.{as_count}
use Rattle.fb_graph.specs.Steps.{Roles, AreExclusive, gains, losses, stepped_nodes, stepped_node, AllowShrinking}
use Rattle.fb_graph.specs.Turns.{thinner_node, with_minus, with_plus, IsPartlyGrown, NoTurn, ShrunkNext, GrownNext, SameRoles, TopStepped, GrowthAllowed, ShrinkAllowed}
use Rattle.fb_graph.proofs.StepLoads.{load_stepped}

pub no_turn : NoTurn
no_turn k [] = refl
no_turn k (n ∷ ns) = ap (λ l. n ∷ l) (no_turn k ns)

-- the node with another value of its top layer
with_value : Node → ℕ → Node
with_value n v = record n { top = record n.top { value = v } }

pub same_roles : SameRoles
unfolding with_value
same_roles roles other k [] plus minus = refl
same_roles roles other k (n ∷ ns) plus minus =
    ap (λ b. with_value n (cond b (n.top.value + k) (cond (roles.is_minus n.name) (n.top.value - k) n.top.value)) ∷ stepped_nodes roles k ns)
    (plus n.name)
    ∙ (ap (λ b. with_value n (cond (other.is_plus n.name) (n.top.value + k) (cond b (n.top.value - k) n.top.value)) ∷ stepped_nodes roles k ns)
    (minus n.name)
    ∙ ap (λ l. stepped_node other k n ∷ l) (same_roles roles other k ns plus minus))

-- one node, by whether it has the name
shrunk_one : (n : Node) (here plus minus : Bool) (v k : ℕ) → (here ≡ true → plus ≡ false) → (here ≡ true → minus ≡ false)
    → cond here (with_value n (cond plus (v + k) (cond minus (v - k) v) - k)) (with_value n (cond plus (v + k) (cond minus (v - k) v)))
    ≡ with_value n (cond plus (v + k) (cond (minus || here) (v - k) v))
shrunk_one n true true minus v k p m = absurd (false≢true (sym (p refl)))
shrunk_one n true false true v k p m = absurd (false≢true (sym (m refl)))
shrunk_one n true false false v k p m = refl
shrunk_one n false plus true v k p m = refl
shrunk_one n false plus false v k p m = refl

grown_one : (n : Node) (here plus minus : Bool) (v k : ℕ) → (here ≡ true → plus ≡ false) → (here ≡ true → minus ≡ false)
    → cond here (with_value n (cond plus (v + k) (cond minus (v - k) v) + k)) (with_value n (cond plus (v + k) (cond minus (v - k) v)))
    ≡ with_value n (cond (plus || here) (v + k) (cond minus (v - k) v))
grown_one n true true minus v k p m = absurd (false≢true (sym (p refl)))
grown_one n true false true v k p m = absurd (false≢true (sym (m refl)))
grown_one n true false false v k p m = refl
grown_one n false true minus v k p m = refl
grown_one n false false minus v k p m = refl

pub shrunk_next : ShrunkNext
unfolding with_value
shrunk_next roles k name [] plus minus = refl
shrunk_next roles k name (n ∷ ns) plus minus =
    ap (λ m. m ∷ change_at name (thinner_node k) (stepped_nodes roles k ns))
    (shrunk_one n (n.name == name) (roles.is_plus n.name) (roles.is_minus n.name) n.top.value k
    (λ here. ap roles.is_plus (eqb-true n.name name here) ∙ plus)
    (λ here. ap roles.is_minus (eqb-true n.name name here) ∙ minus))
    ∙ ap (λ l. stepped_node (with_minus roles name) k n ∷ l) (shrunk_next roles k name ns plus minus)

pub grown_next : GrownNext
unfolding with_value
grown_next roles k name [] plus minus = refl
grown_next roles k name (n ∷ ns) plus minus =
    ap (λ m. m ∷ change_at name (thicker_node k) (stepped_nodes roles k ns))
    (grown_one n (n.name == name) (roles.is_plus n.name) (roles.is_minus n.name) n.top.value k
    (λ here. ap roles.is_plus (eqb-true n.name name here) ∙ plus)
    (λ here. ap roles.is_minus (eqb-true n.name name here) ∙ minus))
    ∙ ap (λ l. stepped_node (with_plus roles name) k n ∷ l) (grown_next roles k name ns plus minus)

pub top_stepped : TopStepped
top_stepped roles k name [] = refl
top_stepped roles k name (n ∷ ns) = ap (λ s. cond (n.name == name) n.top.vertices s) (top_stepped roles k name ns)

one-le : (a b t : Bool) → (a ≡ true → b ≡ true) → as_count (a && t) ≤ as_count (b && t)
one-le true b t h = let e : as_count (b && t) ≡ as_count t = ap (λ x. as_count (x && t)) (h refl) in omega arith
one-le false b t h = omega arith

gains-le : (part roles : Roles) (nodes : List Node) (e : Edge) → IsPartlyGrown part roles → gains part nodes e ≤ gains roles nodes e
gains-le part roles [] e is = omega arith
gains-le part roles (n ∷ ns) e is =
    omega (
      arith,
      sum_by-cons (λ m. as_count (part.is_plus m.name && crosses m.top.vertices e)) n ns,
      sum_by-cons (λ m. as_count (roles.is_plus m.name && crosses m.top.vertices e)) n ns,
      gains-le part roles ns e is,
      one-le (part.is_plus n.name) (roles.is_plus n.name) (crosses n.top.vertices e) (is.plus n.name),
    )

-- and less by the plus node that hasn't grown, where the edge crosses it
gains-lt : (part roles : Roles) (nodes : List Node) (e : Edge) (name : ℕ) → IsPartlyGrown part roles
    → roles.is_plus name ≡ true → part.is_plus name ≡ false → crosses (top_at nodes name) e ≡ true
    → gains part nodes e + 1 ≤ gains roles nodes e
gains-lt part roles [] e name is plus grown across = absurd (false≢true across)
gains-lt part roles (n ∷ ns) e name is plus grown across =
    step (cases_Bool (n.name == name)) (gains-lt part roles ns e name is plus grown)
  where
    old : Node → ℕ
    old m = as_count (part.is_plus m.name && crosses m.top.vertices e)

    new : Node → ℕ
    new m = as_count (roles.is_plus m.name && crosses m.top.vertices e)

    step : ((n.name == name) ≡ true) ⊎ ((n.name == name) ≡ false)
        → (crosses (top_at ns name) e ≡ true → gains part ns e + 1 ≤ gains roles ns e)
        → gains part (n ∷ ns) e + 1 ≤ gains roles (n ∷ ns) e
    step (inl here) rest =
        let same : n.name ≡ name = eqb-true n.name name here in
        let crossed : crosses n.top.vertices e ≡ true =
        ap (λ b. crosses (cond b n.top.vertices (top_at ns name)) e) (sym here) ∙ across in
        omega (
          arith,
          sum_by-cons old n ns,
          sum_by-cons new n ns,
          gains-le part roles ns e is,
          ap (λ b. as_count (b && crosses n.top.vertices e)) (ap part.is_plus same ∙ grown),
          ap (λ b. as_count (b && crosses n.top.vertices e)) (ap roles.is_plus same ∙ plus),
          ap as_count crossed,
        )
    step (inr other) rest =
        omega (
          arith,
          sum_by-cons old n ns,
          sum_by-cons new n ns,
          rest (ap (λ b. crosses (cond b n.top.vertices (top_at ns name)) e) (sym other) ∙ across),
          one-le (part.is_plus n.name) (roles.is_plus n.name) (crosses n.top.vertices e) (is.plus n.name),
        )

same_losses : (part roles : Roles) (nodes : List Node) (e : Edge) → ((n : ℕ) → part.is_minus n ≡ roles.is_minus n)
    → losses part nodes e ≡ losses roles nodes e
same_losses part roles [] e same = refl
same_losses part roles (n ∷ ns) e same =
    omega (
      arith,
      sum_by-cons (λ m. as_count (part.is_minus m.name && crosses m.top.vertices e)) n ns,
      sum_by-cons (λ m. as_count (roles.is_minus m.name && crosses m.top.vertices e)) n ns,
      same_losses part roles ns e same,
      ap (λ b. as_count (b && crosses n.top.vertices e)) (same n.name),
    )

pub growth_allowed : GrowthAllowed
growth_allowed p part roles nodes k name apart may is plus grown i d less across =
    let e : Edge = get_or p.edges i d in
    let more : k * (gains part nodes e + 1) ≤ k * gains roles nodes e =
    mul-le-mul_left k (gains-lt part roles nodes e name is plus grown across) in
    omega (
      arith,
      may.edges i d less,
      more,
      load_stepped part nodes k e exclusive low,
      ap (λ m. k * m) (same_losses part roles nodes e is.minus),
    )
  where
    exclusive : AreExclusive part
    exclusive n grows = is.minus n ∙ apart n (is.plus n grows)

    low : AllowShrinking part nodes k
    low j b below minus = may.tops j b below (sym (is.minus (get_or nodes j b).name) ∙ minus)

pub shrink_allowed : ShrinkAllowed
shrink_allowed p part roles nodes k name may minus shrunk grown =
    All-map (λ n. n.name ≡ name → k ≤ n.top.value) (stepped_node part k) nodes
    (λ i d less same.
    let n : Node = get_or nodes i d in
    let low : k ≤ n.top.value = may.tops i d less (ap roles.is_minus same ∙ minus) in
    omega (
      arith,
      low,
      ap (λ b. cond b (n.top.value + k) (cond (part.is_minus n.name) (n.top.value - k) n.top.value)) (ap part.is_plus same ∙ grown),
      ap (λ b. cond b (n.top.value - k) n.top.value) (ap part.is_minus same ∙ shrunk),
    ))
