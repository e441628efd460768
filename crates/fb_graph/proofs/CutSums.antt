-- Sums over cuts: of the values of those whose sets pass a test.
use Rattle.std.proofs.Common.{◌≡◌, ℕ, ◌+◌, ◌*◌, ◌^◌, ◌≤◌, inl, inr, Bool, true, false, cond, List, [], ◌∷◌, ◌++◌, length, refl, sym, ◌∙◌, ap, arith}
use Rattle.std.specs.List.{sum_by, flat_map, All}
use Rattle.std.proofs.lemmas.List.Sums.{sum_by-cons, sum_by-append, sum_by_push, sum_by-le-sum_by, sum_by-le, get_or-le-sum_by}
use Rattle.std.proofs.lemmas.List.Elements.{All-head, All-tail}
use Rattle.fb_graph.specs.Problem.{Problem, edge_at, no_edge, crosses}
use Rattle.fb_graph.specs.Certificate.{Fits, load_of, total_value}
use Rattle.fb_graph.specs.Limits.{IsWithinLimits}
use Rattle.fb_graph.specs.declared.parts.Cut.{Cut}
use Rattle.fb_graph.specs.declared.parts.Edge.{Edge}
use Rattle.fb_graph.specs.Dual.{Node, IsHeld, layers_of, taller_node, thicker_node}
use Rattle.fb_graph.proofs.Booleans.{cond-le}

-- the sum of the values of the cuts whose sets pass the test
abbrev pub weigh : (List ℕ → Bool) → List Cut → ℕ
weigh test cuts = sum_by (λ c. cond (test c.vertices) c.value 0) cuts

pub sum_by-flat_map : {X Y : Type 0} (f : Y → ℕ) (g : X → List Y) (xs : List X) → sum_by f (flat_map g xs) ≡ sum_by (λ x. sum_by f (g x)) xs
sum_by-flat_map f g [] = refl
sum_by-flat_map {X} f g (x ∷ xs) =
    sum_by-append f (g x) (flat_map g xs) ∙ (ap (λ n. sum_by f (g x) + n) (sum_by-flat_map f g xs) ∙ sym (sum_by-cons (λ (y : X). sum_by f (g y)) x xs))

cond_add : (b : Bool) (m n : ℕ) → cond b (m + n) 0 ≡ cond b m 0 + cond b n 0
cond_add true m n = refl
cond_add false m n = refl

pub cond_zero : (b : Bool) → cond {A = ℕ} b 0 0 ≡ 0
cond_zero true = refl
cond_zero false = refl

pub weigh-thicker_node : (test : List ℕ → Bool) (k : ℕ) (n : Node) → weigh test (layers_of (thicker_node k n)) ≡ weigh test (layers_of n) + cond (test n.top.vertices) k 0
weigh-thicker_node test k n =
    let f : Cut → ℕ = λ c. cond (test c.vertices) c.value 0 in
    let new : weigh test (layers_of (thicker_node k n)) ≡ sum_by f n.below + cond (test n.top.vertices) (n.top.value + k) 0 = sum_by_push f n.below (thicker_node k n).top in
    let old : weigh test (layers_of n) ≡ sum_by f n.below + cond (test n.top.vertices) n.top.value 0 = sum_by_push f n.below n.top in
    omega (arith, new, old, cond_add (test n.top.vertices) n.top.value k)

pub weigh-taller_node : (test : List ℕ → Bool) (v : ℕ) (n : Node) → weigh test (layers_of (taller_node v n)) ≡ weigh test (layers_of n)
weigh-taller_node test v n =
    let f : Cut → ℕ = λ c. cond (test c.vertices) c.value 0 in
    let new : weigh test (layers_of (taller_node v n)) ≡ sum_by f (layers_of n) + cond (test (n.top.vertices ++ v ∷ [])) 0 0 = sum_by_push f (layers_of n) (taller_node v n).top in
    omega (arith, new, cond_zero (test (n.top.vertices ++ v ∷ [])))

pub weigh_none : (test : List ℕ → Bool) (cuts : List Cut) → All (λ c. test c.vertices ≡ false) cuts → weigh test cuts ≡ 0
weigh_none test [] h = refl
weigh_none test (c ∷ cs) h =
    let here : cond (test c.vertices) c.value 0 ≡ 0 = rw (All-head (λ (x : Cut). test x.vertices ≡ false) c cs h) refl in
    let rest : weigh test cs ≡ 0 = weigh_none test cs (All-tail (λ (x : Cut). test x.vertices ≡ false) c cs h) in
    let all : weigh test (c ∷ cs) ≡ cond (test c.vertices) c.value 0 + weigh test cs = sum_by-cons (λ (x : Cut). cond (test x.vertices) x.value 0) c cs in
    omega (arith, all, here, rest)

pub weigh-le : (test : List ℕ → Bool) (cuts : List Cut) → weigh test cuts ≤ total_value cuts
weigh-le test cuts = sum_by-le-sum_by (λ (c : Cut). cond (test c.vertices) c.value 0) (λ c. c.value) cuts (λ c. cond-le (test c.vertices) c.value)

-- the sets that pass one of two tests which none passes both
pub weigh-either : (one other test : List ℕ → Bool) (cuts : List Cut)
    → All (λ c. (x : ℕ) → cond (test c.vertices) x 0 ≡ cond (one c.vertices) x 0 + cond (other c.vertices) x 0) cuts
    → weigh test cuts ≡ weigh one cuts + weigh other cuts
weigh-either one other test [] h = refl
weigh-either one other test (c ∷ cs) h =
    let P : Cut → Type 0 = λ c. (x : ℕ) → cond (test c.vertices) x 0 ≡ cond (one c.vertices) x 0 + cond (other c.vertices) x 0 in
    let here : cond (test c.vertices) c.value 0 ≡ cond (one c.vertices) c.value 0 + cond (other c.vertices) c.value 0 = All-head P c cs h c.value in
    let rest : weigh test cs ≡ weigh one cs + weigh other cs = weigh-either one other test cs (All-tail P c cs h) in
    let t : weigh test (c ∷ cs) ≡ cond (test c.vertices) c.value 0 + weigh test cs = sum_by-cons (λ (x : Cut). cond (test x.vertices) x.value 0) c cs in
    let u : weigh one (c ∷ cs) ≡ cond (one c.vertices) c.value 0 + weigh one cs = sum_by-cons (λ (x : Cut). cond (one x.vertices) x.value 0) c cs in
    let w : weigh other (c ∷ cs) ≡ cond (other c.vertices) c.value 0 + weigh other cs = sum_by-cons (λ (x : Cut). cond (other x.vertices) x.value 0) c cs in
    omega (arith, here, rest, t, u, w)

-- each value above 0 is borne by some edge, so all loads together are at least the sum of the values
total-le-loads : (p : Problem) (cuts : List Cut) → All (IsHeld p) cuts → total_value cuts ≤ sum_by (λ e. load_of cuts e) p.edges
total-le-loads p [] h = omega arith
total-le-loads p (c ∷ cs) h =
    let f : Edge → ℕ = λ e. cond (crosses c.vertices e) c.value 0 in
    let rest : total_value cs ≤ sum_by (λ e. load_of cs e) p.edges = total-le-loads p cs (All-tail (IsHeld p) c cs h) in
    let here : c.value ≤ sum_by f p.edges = borne c (All-head (IsHeld p) c cs h) in
    let both : sum_by (λ e. load_of (c ∷ cs) e) p.edges ≡ sum_by f p.edges + sum_by (λ e. load_of cs e) p.edges =
    split p.edges in
    let all : total_value (c ∷ cs) ≡ c.value + total_value cs = sum_by-cons (λ (x : Cut). x.value) c cs in
    omega (arith, rest, here, both, all)
  where
    borne : (d : Cut) → IsHeld p d → d.value ≤ sum_by (λ (e : Edge). cond (crosses d.vertices e) d.value 0) p.edges
    borne d (inl z) = omega arith
    borne d (inr k) =
        let g : Edge → ℕ = λ e. cond (crosses d.vertices e) d.value 0 in
        let part : g (edge_at p.edges k.0) ≤ sum_by g p.edges = get_or-le-sum_by g p.edges k.0 no_edge k.1 in
        let own : g (edge_at p.edges k.0) ≡ d.value = rw (k.2) refl in
        omega (arith, part, own)

    split : (edges : List Edge) → sum_by (λ e. load_of (c ∷ cs) e) edges ≡ sum_by (λ (e : Edge). cond (crosses c.vertices e) c.value 0) edges + sum_by (λ e. load_of cs e) edges
    split [] = refl
    split (e ∷ es) =
        let f : Edge → ℕ = λ x. cond (crosses c.vertices x) c.value 0 in
        let here : load_of (c ∷ cs) e ≡ f e + load_of cs e = sum_by-cons (λ (x : Cut). cond (crosses x.vertices e) x.value 0) c cs in
        omega (arith, split es, here, sum_by-cons f e es, sum_by-cons (λ (x : Edge). load_of cs x) e es, sum_by-cons (λ (x : Edge). load_of (c ∷ cs) x) e es)

loads-le : (cuts : List Cut) (edges : List Edge) → All (λ e. load_of cuts e ≤ e.weight) edges → sum_by (λ e. load_of cuts e) edges ≤ sum_by (λ e. e.weight) edges
loads-le cuts [] h = omega arith
loads-le cuts (e ∷ es) h =
    let P : Edge → Type 0 = λ x. load_of cuts x ≤ x.weight in
    let here : load_of cuts e ≤ e.weight = All-head P e es h in
    let rest : sum_by (λ x. load_of cuts x) es ≤ sum_by (λ x. x.weight) es = loads-le cuts es (All-tail P e es h) in
    omega (arith, here, rest, sum_by-cons (λ (x : Edge). load_of cuts x) e es, sum_by-cons (λ (x : Edge). x.weight) e es)

pub total-le : (p : Problem) (cuts : List Cut) → IsWithinLimits p → Fits p cuts → All (IsHeld p) cuts → total_value cuts ≤ 2 ^ 52
total-le p cuts limits fits held =
    let loads : total_value cuts ≤ sum_by (λ e. load_of cuts e) p.edges = total-le-loads p cuts held in
    let weights : sum_by (λ e. load_of cuts e) p.edges ≤ sum_by (λ e. e.weight) p.edges = loads-le cuts p.edges fits in
    let light : sum_by (λ (e : Edge). e.weight) p.edges ≤ length p.edges * (2 ^ 30) =
    sum_by-le (λ (e : Edge). e.weight) (2 ^ 30) p.edges (λ k d lt. (limits.each_edge k d lt).light) in
    omega (arith, loads, weights, light, limits.edges)
