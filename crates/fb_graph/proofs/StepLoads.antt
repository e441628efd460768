-- Loads, packings and lengths of steps.
use Rattle.std.proofs.Common.{ℕ, ◌≡◌, ◌+◌, ◌-◌, ◌*◌, ◌≤◌, ◌<◌, ◌&&◌, Bool, true, false, cond, List, [], ◌∷◌, All, sum_by, count_by, get_or, ◌⊎◌, inl, inr, refl, sym, ap, ◌∙◌, arith}
use Rattle.std.proofs.lemmas.Bool.{false≢true, cases_lt}
use Rattle.std.proofs.lemmas.List.Elements.{All-nil, All-cons, All-head, All-tail, All-append, All-map}
use Rattle.std.proofs.lemmas.List.Sums.{sum_by-cons, sum_by-append, sum_by_push}
use Rattle.std.proofs.Math.Nat.{mul-le-mul_left}
use Rattle.fb_graph.specs.Problem.{Problem, crosses}
use Rattle.fb_graph.specs.Certificate.{IsOddCut}
use Rattle.fb_graph.specs.Dual.{Node, layers_of, all_cuts}
use Rattle.fb_graph.specs.Laws.{ends_of}
use Rattle.fb_graph.specs.declared.parts.Edge.{Edge}
use Rattle.fb_graph.specs.declared.parts.Cut.{Cut}
use Rattle.fb_graph.proofs.CutSums.{weigh}
use Rattle.fb_graph.proofs.Nodes.{All-flat_map, All-pieces, All-top, All-below}
use Rattle.fb_graph.specs.Steps.{Roles, AreExclusive, gains, losses, stepped_value, stepped_node, stepped_nodes, AllowShrinking, MayStep, LoadStepped, TightStepped, PackingStepped, StepsAdd, StepsSplit, SteppedTwice}

-- one top layer: what it gains and loses, by its role and whether the edge crosses it
one_top : (plus minus test : Bool) (v k : ℕ) → (plus ≡ true → minus ≡ false) → (minus ≡ true → k ≤ v)
    → cond test (cond plus (v + k) (cond minus (v - k) v)) 0 + k * cond (minus && test) 1 0
    ≡ cond test v 0 + k * cond (plus && test) 1 0
one_top true true test v k apart low = absurd (false≢true (sym (apart refl)))
one_top true false true v k apart low = omega arith
one_top true false false v k apart low = omega arith
one_top false true true v k apart low = let h : k ≤ v = low refl in omega arith
one_top false true false v k apart low = omega arith
one_top false false true v k apart low = omega arith
one_top false false false v k apart low = omega arith

-- the layers of one node whose sets pass a test
one_node : (roles : Roles) (k : ℕ) (test : List ℕ → Bool) (n : Node) → AreExclusive roles
    → (roles.is_minus n.name ≡ true → k ≤ n.top.value)
    → weigh test (layers_of (stepped_node roles k n)) + k * cond (roles.is_minus n.name && test n.top.vertices) 1 0
    ≡ weigh test (layers_of n) + k * cond (roles.is_plus n.name && test n.top.vertices) 1 0
one_node roles k test n apart low =
    let f : Cut → ℕ = λ c. cond (test c.vertices) c.value 0 in
    let new : weigh test (layers_of (stepped_node roles k n))
    ≡ sum_by f n.below + cond (test n.top.vertices) (stepped_value roles k n) 0 =
    sum_by_push f n.below (stepped_node roles k n).top in
    let old : weigh test (layers_of n) ≡ sum_by f n.below + cond (test n.top.vertices) n.top.value 0 =
    sum_by_push f n.below n.top in
    omega (
      arith,
      new,
      old,
      one_top (roles.is_plus n.name) (roles.is_minus n.name) (test n.top.vertices) n.top.value k (apart n.name) low,
    )

-- what a step does to the sum of the cuts whose sets pass a test
pub weigh_stepped : (roles : Roles) (nodes : List Node) (k : ℕ) (test : List ℕ → Bool) → AreExclusive roles
    → AllowShrinking roles nodes k
    → weigh test (all_cuts (stepped_nodes roles k nodes)) + k * count_by (λ n. roles.is_minus n.name && test n.top.vertices) nodes
    ≡ weigh test (all_cuts nodes) + k * count_by (λ n. roles.is_plus n.name && test n.top.vertices) nodes
weigh_stepped roles [] k test apart low = omega arith
weigh_stepped roles (n ∷ ns) k test apart low =
    let f : Cut → ℕ = λ c. cond (test c.vertices) c.value 0 in
    let g : Node → ℕ = λ m. cond (roles.is_plus m.name && test m.top.vertices) 1 0 in
    let h : Node → ℕ = λ m. cond (roles.is_minus m.name && test m.top.vertices) 1 0 in
    let Low : Node → Type 0 = λ m. roles.is_minus m.name ≡ true → k ≤ m.top.value in
    let new : weigh test (all_cuts (stepped_nodes roles k (n ∷ ns)))
    ≡ weigh test (layers_of (stepped_node roles k n)) + weigh test (all_cuts (stepped_nodes roles k ns)) =
    sum_by-append f (layers_of (stepped_node roles k n)) (all_cuts (stepped_nodes roles k ns)) in
    let old : weigh test (all_cuts (n ∷ ns)) ≡ weigh test (layers_of n) + weigh test (all_cuts ns) =
    sum_by-append f (layers_of n) (all_cuts ns) in
    let here = one_node roles k test n apart (All-head Low n ns low) in
    let rest = weigh_stepped roles ns k test apart (All-tail Low n ns low) in
    omega (
      arith,
      new,
      old,
      here,
      rest,
      ap (λ x. k * x) (sum_by-cons g n ns),
      ap (λ x. k * x) (sum_by-cons h n ns),
    )

pub load_stepped : LoadStepped
load_stepped roles nodes k e apart low = weigh_stepped roles nodes k (λ s. crosses s e) apart low

pub tight_stepped : TightStepped
tight_stepped p roles nodes k l apart low equal tight =
    omega (arith, tight, load_stepped roles nodes k (ends_of l) apart low, ap (λ x. k * x) equal)

odd_stepped : (p : Problem) (roles : Roles) (k : ℕ) (n : Node) → All (IsOddCut p) (layers_of n)
    → All (IsOddCut p) (layers_of (stepped_node roles k n))
odd_stepped p roles k n odd =
    let top : IsOddCut p n.top = All-top (IsOddCut p) n.below n.top odd in
    All-append (IsOddCut p) n.below ((stepped_node roles k n).top ∷ []) (All-below (IsOddCut p) n.below n.top odd)
    (All-cons (IsOddCut p) (stepped_node roles k n).top [] (record { distinct = top.distinct; real = top.real; odd = top.odd })
    (All-nil (IsOddCut p)))

pub packing_stepped : PackingStepped
packing_stepped p roles nodes k apart packing may = record {
  odd =
      All-flat_map (IsOddCut p) layers_of (stepped_nodes roles k nodes)
      (All-map (λ n. All (IsOddCut p) (layers_of n)) (stepped_node roles k) nodes
      (λ i d less.
      odd_stepped p roles k (get_or nodes i d) (All-pieces (IsOddCut p) layers_of nodes packing.odd i d less)));
  fits = λ i d less.
      let allowed = may.edges i d less in
      omega (arith, allowed, load_stepped roles nodes k (get_or p.edges i d) apart may.tops);
}

-- a step leaves each node's name and sets
gains_stepped : (roles : Roles) (nodes : List Node) (k : ℕ) (e : Edge) → gains roles (stepped_nodes roles k nodes) e ≡ gains roles nodes e
gains_stepped roles [] k e = refl
gains_stepped roles (n ∷ ns) k e =
    let g : Node → ℕ = λ m. cond (roles.is_plus m.name && crosses m.top.vertices e) 1 0 in
    omega (arith, sum_by-cons g n ns, sum_by-cons g (stepped_node roles k n) (stepped_nodes roles k ns), gains_stepped roles ns k e)

losses_stepped : (roles : Roles) (nodes : List Node) (k : ℕ) (e : Edge) → losses roles (stepped_nodes roles k nodes) e ≡ losses roles nodes e
losses_stepped roles [] k e = refl
losses_stepped roles (n ∷ ns) k e =
    let g : Node → ℕ = λ m. cond (roles.is_minus m.name && crosses m.top.vertices e) 1 0 in
    omega (arith, sum_by-cons g n ns, sum_by-cons g (stepped_node roles k n) (stepped_nodes roles k ns), losses_stepped roles ns k e)

minus_value : (plus minus : Bool) (v k j : ℕ) → (plus ≡ true → minus ≡ false) → minus ≡ true → k ≤ v
    → j ≤ cond plus (v + k) (cond minus (v - k) v) → k + j ≤ v
minus_value true true v k j apart is low more = absurd (false≢true (sym (apart refl)))
minus_value true false v k j apart is low more = absurd (false≢true is)
minus_value false true v k j apart is low more = omega arith
minus_value false false v k j apart is low more = absurd (false≢true is)

value_minus : (plus minus : Bool) (v k j : ℕ) → (plus ≡ true → minus ≡ false) → minus ≡ true → k + j ≤ v
    → j ≤ cond plus (v + k) (cond minus (v - k) v)
value_minus true true v k j apart is low = absurd (false≢true (sym (apart refl)))
value_minus true false v k j apart is low = absurd (false≢true is)
value_minus false true v k j apart is low = omega arith
value_minus false false v k j apart is low = absurd (false≢true is)

tops_add : (roles : Roles) (nodes : List Node) (k j : ℕ) → AreExclusive roles → AllowShrinking roles nodes k
    → AllowShrinking roles (stepped_nodes roles k nodes) j → AllowShrinking roles nodes (k + j)
tops_add roles [] k j apart low more = All-nil (λ n. roles.is_minus n.name ≡ true → k + j ≤ n.top.value)
tops_add roles (n ∷ ns) k j apart low more =
    let Low : ℕ → Node → Type 0 = λ x m. roles.is_minus m.name ≡ true → x ≤ m.top.value in
    All-cons (Low (k + j)) n ns
    (λ is. minus_value (roles.is_plus n.name) (roles.is_minus n.name) n.top.value k j (apart n.name) is
    (All-head (Low k) n ns low is) (All-head (Low j) (stepped_node roles k n) (stepped_nodes roles k ns) more is))
    (tops_add roles ns k j apart (All-tail (Low k) n ns low)
    (All-tail (Low j) (stepped_node roles k n) (stepped_nodes roles k ns) more))

pub steps_add : StepsAdd
steps_add p roles nodes k j apart may more = record {
  edges = λ i d less.
      let e : Edge = get_or p.edges i d in
      let second = more.edges i d less in
      omega (
        arith,
        second,
        load_stepped roles nodes k e apart may.tops,
        ap (λ x. j * x) (gains_stepped roles nodes k e),
        ap (λ x. j * x) (losses_stepped roles nodes k e),
      );
  tops = tops_add roles nodes k j apart may.tops more.tops;
}

-- what holds at no length and at the whole length holds between
between : (load weight k j gain loss : ℕ) → load ≤ weight → load + (k + j) * gain ≤ weight + (k + j) * loss
    → load + k * gain ≤ weight + k * loss
between load weight k j gain loss light all = step (cases_lt loss gain)
  where
    step : (loss < gain) ⊎ (gain ≤ loss) → load + k * gain ≤ weight + k * loss
    step (inl more) =
        let h : j * loss ≤ j * gain = mul-le-mul_left j (let m : loss ≤ gain = omega arith in m) in
        omega arith
    step (inr less) =
        let h : k * gain ≤ k * loss = mul-le-mul_left k less in
        omega arith

pub steps_split : StepsSplit
steps_split p roles nodes k j apart packing all = (
  first,
  record {
    edges = λ i d less.
        let e : Edge = get_or p.edges i d in
        let whole = all.edges i d less in
        omega (
          arith,
          whole,
          load_stepped roles nodes k e apart first.tops,
          ap (λ x. j * x) (gains_stepped roles nodes k e),
          ap (λ x. j * x) (losses_stepped roles nodes k e),
        );
    tops = All-map (λ n. roles.is_minus n.name ≡ true → j ≤ n.top.value) (stepped_node roles k) nodes
        (λ i d less is.
        let n : Node = get_or nodes i d in
        value_minus (roles.is_plus n.name) (roles.is_minus n.name) n.top.value k j (apart n.name) is (all.tops i d less is));
  },
)
  where
    first : MayStep p roles nodes k
    first = record {
      edges = λ i d less.
          between _ _ k j _ _ (packing.fits i d less) (all.edges i d less);
      tops = λ i d less is. let h = all.tops i d less is in omega arith;
    }

twice_value : (plus minus : Bool) (v k j : ℕ)
    → cond plus (cond plus (v + k) (cond minus (v - k) v) + j) (cond minus (cond plus (v + k) (cond minus (v - k) v) - j) (cond plus (v + k) (cond minus (v - k) v)))
    ≡ cond plus (v + (k + j)) (cond minus (v - (k + j)) v)
twice_value true minus v k j = omega arith
twice_value false true v k j = omega arith
twice_value false false v k j = refl

pub stepped_twice : SteppedTwice
stepped_twice roles [] k j apart = refl
stepped_twice roles (n ∷ ns) k j apart =
    ap (λ v. record n { top = record n.top { value = v } } ∷ stepped_nodes roles j (stepped_nodes roles k ns))
    (twice_value (roles.is_plus n.name) (roles.is_minus n.name) n.top.value k j)
    ∙ ap (λ l. stepped_node roles (k + j) n ∷ l) (stepped_twice roles ns k j apart)
