-- Nodes of one defect each are a dual state.
use Rattle.std.proofs.Common.{ℕ, ◌≡◌, ◌+◌, ◌==◌, ◌&&◌, ◌||◌, ◌⊎◌, inl, inr, Bool, true, false, not, cond, List, [], ◌∷◌, map, All, AllPairs, Option, Some, None, get_or, refl, sym, ap, ◌∙◌, subst, arith}
use Rattle.std.proofs.Math.Bool.{or-false}
use Rattle.std.specs.List.{find, list_any}
use Rattle.std.specs.Option.{option_map, IsSome}
use Rattle.std.proofs.lemmas.Bool.{eqb-true, ne_eqb, false≢true, cases_eq, cases_Bool, both_ways, or_right}
use Rattle.std.proofs.lemmas.List.Elements.{All-nil, All-cons, All-head, All-tail, All-map}
use Rattle.std.proofs.lemmas.List.Kept.{AllPairs-cons}
use Rattle.std.proofs.lemmas.List.Sums.{sum_by-cons}
use Rattle.fb_graph.specs.Parity.{differ, is_in}
use Rattle.fb_graph.specs.Problem.{Problem, crosses, with_defects}
use Rattle.fb_graph.specs.Certificate.{AreDistinct, IsOddCut, IsPacking, load_of, total_value}
use Rattle.fb_graph.specs.Dual.{Node, IsHeld, IsNestedOrApart, AreApart, HasRadius, AreGrown, layers_of, all_cuts, leaves, cover_of, height_of, is_outer}
use Rattle.fb_graph.specs.declared.parts.Edge.{Edge}
use Rattle.fb_graph.specs.declared.parts.Cut.{Cut}
use Rattle.fb_graph.proofs.Sets.{is_in-head, is_in-cases}
use Rattle.fb_graph.proofs.CutSums.{weigh, weigh-either}
use Rattle.fb_graph.proofs.Booleans.{cond-le, cond-differ}
use Rattle.fb_graph.specs.Singles.{Single, node_of, nodes_of, vertices_of, SinglesAreDual, BeginningIsDual}

-- the cuts of the nodes, one each
abbrev pub cut_of : Single → Cut
cut_of s = record { value = s.value; vertices = s.vertex ∷ [] }

pub cuts_are : (singles : List Single) → all_cuts (nodes_of singles) ≡ map cut_of singles
cuts_are [] = refl
cuts_are (s ∷ ss) = ap (λ l. cut_of s ∷ l) (cuts_are ss)

pub leaves_are : (singles : List Single) → leaves (nodes_of singles) ≡ vertices_of singles
leaves_are [] = refl
leaves_are (s ∷ ss) = ap (λ l. s.vertex ∷ l) (leaves_are ss)

pub names_are : (singles : List Single) → map (λ n. n.name) (nodes_of singles) ≡ map (λ s. s.name) singles
names_are [] = refl
names_are (s ∷ ss) = ap (λ l. s.name ∷ l) (names_are ss)

pub all_outer : (singles : List Single) (name : ℕ) → is_outer (nodes_of singles) name ≡ true
all_outer singles name = ap not (none singles)
  where
    none : (ss : List Single) → list_any (λ n. is_in n.children name) (nodes_of ss) ≡ false
    none [] = refl
    none (s ∷ ss) = none ss

-- the name at the vertex
name_at : List Single → ℕ → Option ℕ
name_at [] v = None
name_at (s ∷ ss) v = cond (s.vertex == v) (Some s.name) (name_at ss v)

cover_is : (singles : List Single) (v : ℕ) → cover_of (nodes_of singles) v ≡ name_at singles v
unfolding name_at
cover_is singles v = found (is_outer (nodes_of singles)) (all_outer singles) singles
  where
    found : (outer : ℕ → Bool) → ((name : ℕ) → outer name ≡ true) → (ss : List Single)
        → option_map (λ n. n.name) (find (λ n. outer n.name && is_in n.top.vertices v) (nodes_of ss)) ≡ name_at ss v
    found outer all [] = refl
    found outer all (s ∷ ss) =
        ap (λ b. option_map (λ m. m.name) (cond (b && ((s.vertex == v) || false)) (Some (node_of s)) (find test (nodes_of ss)))) (all s.name)
        ∙ (ap (λ b. option_map (λ m. m.name) (cond b (Some (node_of s)) (find test (nodes_of ss)))) (or-false (s.vertex == v))
        ∙ step (s.vertex == v) (found outer all ss))
      where
        test : Node → Bool
        test n = outer n.name && is_in n.top.vertices v

        step : (b : Bool) → option_map (λ m. m.name) (find test (nodes_of ss)) ≡ name_at ss v
            → option_map (λ m. m.name) (cond b (Some (node_of s)) (find test (nodes_of ss))) ≡ cond b (Some s.name) (name_at ss v)
        step true ih = refl
        step false ih = ih

-- a vertex with a name is that of a single
named_vertex : (singles : List Single) (v name : ℕ) → name_at singles v ≡ Some name → is_in (vertices_of singles) v ≡ true
unfolding name_at
named_vertex [] v name e = cc
named_vertex (s ∷ ss) v name e = step (cases_Bool (s.vertex == v)) (named_vertex ss v name)
  where
    step : ((s.vertex == v) ≡ true) ⊎ ((s.vertex == v) ≡ false)
        → (name_at ss v ≡ Some name → is_in (vertices_of ss) v ≡ true)
        → ((s.vertex == v) || is_in (vertices_of ss) v) ≡ true
    step (inl here) rest = ap (λ b. b || is_in (vertices_of ss) v) here
    step (inr here) rest =
        ap (λ b. b || is_in (vertices_of ss) v) here
        ∙ rest (sym (ap (λ b. cond b (Some s.name) (name_at ss v)) here) ∙ e)

vertex_named : (singles : List Single) (v : ℕ) → is_in (vertices_of singles) v ≡ true
    → (name : ℕ) × (name_at singles v ≡ Some name)
unfolding name_at
vertex_named [] v within = absurd (false≢true within)
vertex_named (s ∷ ss) v within = step (cases_Bool (s.vertex == v)) (vertex_named ss v)
  where
    step : ((s.vertex == v) ≡ true) ⊎ ((s.vertex == v) ≡ false)
        → (is_in (vertices_of ss) v ≡ true → (name : ℕ) × (name_at ss v ≡ Some name))
        → (name : ℕ) × (cond (s.vertex == v) (Some s.name) (name_at ss v) ≡ Some name)
    step (inl here) rest = (s.name, ap (λ b. cond b (Some s.name) (name_at ss v)) here)
    step (inr here) rest =
        let (name, e) = rest (ap (λ b. b || is_in (vertices_of ss) v) (sym here) ∙ within) in
        (name, ap (λ b. cond b (Some s.name) (name_at ss v)) here ∙ e)

pub real_of : (p : Problem) (singles : List Single) → All (λ s. p.is_real s.vertex ≡ true) singles → (v : ℕ)
    → is_in (vertices_of singles) v ≡ true → p.is_real v ≡ true
real_of p [] real v within = absurd (false≢true within)
real_of p (s ∷ ss) real v within =
    step (is_in-cases s.vertex (vertices_of ss) v within)
    (real_of p ss (All-tail (λ t. p.is_real t.vertex ≡ true) s ss real) v)
  where
    step : (s.vertex ≡ v) ⊎ (is_in (vertices_of ss) v ≡ true) → (is_in (vertices_of ss) v ≡ true → p.is_real v ≡ true)
        → p.is_real v ≡ true
    step (inl e) rest = ap p.is_real (sym e) ∙ All-head (λ t. p.is_real t.vertex ≡ true) s ss real
    step (inr e) rest = rest e

-- no set holds a vertex without a name
height_none : (singles : List Single) (v : ℕ) → name_at singles v ≡ None → height_of (map cut_of singles) v ≡ 0
unfolding name_at
height_none [] v e = refl
height_none (s ∷ ss) v e = step (cases_Bool (s.vertex == v)) (height_none ss v)
  where
    part : Cut → ℕ
    part c = cond (is_in c.vertices v) c.value 0

    step : ((s.vertex == v) ≡ true) ⊎ ((s.vertex == v) ≡ false)
        → (name_at ss v ≡ None → height_of (map cut_of ss) v ≡ 0) → height_of (map cut_of (s ∷ ss)) v ≡ 0
    step (inl here) rest =
        let at : cond (s.vertex == v) (Some s.name) (name_at ss v) ≡ Some s.name =
        ap (λ b. cond b (Some s.name) (name_at ss v)) here in
        cc
    step (inr here) rest =
        omega (
          arith,
          sum_by-cons part (cut_of s) (map cut_of ss),
          ap (λ b. cond b s.value 0) (or-false (s.vertex == v)),
          ap (λ b. cond b s.value 0) here,
          rest (sym (ap (λ b. cond b (Some s.name) (name_at ss v)) here) ∙ e),
        )

-- no set holds two vertices that aren't the same
load_split : (singles : List Single) (e : Edge) → All (λ s. s.vertex ≡ e.first → s.vertex ≡ e.second → ⊥) singles
    → load_of (map cut_of singles) e ≡ height_of (map cut_of singles) e.first + height_of (map cut_of singles) e.second
load_split singles e differs =
    weigh-either (λ s. is_in s e.first) (λ s. is_in s e.second) (λ s. crosses s e) (map cut_of singles)
    (All-map (λ c. (x : ℕ) → cond (crosses c.vertices e) x 0 ≡ cond (is_in c.vertices e.first) x 0 + cond (is_in c.vertices e.second) x 0)
    cut_of singles
    (λ i d less x.
    cond-differ (is_in ((get_or singles i d).vertex ∷ []) e.first) (is_in ((get_or singles i d).vertex ∷ []) e.second) x
    (λ first second.
    differs i d less (eqb-true _ _ (sym (or-false ((get_or singles i d).vertex == e.first)) ∙ first))
    (eqb-true _ _ (sym (or-false ((get_or singles i d).vertex == e.second)) ∙ second)))))

pub vertex_in : (singles : List Single) → All (λ s. is_in (vertices_of singles) s.vertex ≡ true) singles
vertex_in [] = All-nil (λ s. is_in [] s.vertex ≡ true)
vertex_in (s ∷ ss) =
    All-cons (λ t. is_in (s.vertex ∷ vertices_of ss) t.vertex ≡ true) s ss (is_in-head s.vertex (vertices_of ss))
    (λ i d less. or_right (s.vertex == (get_or ss i d).vertex) _ (vertex_in ss i d less))

single_apart : (u w : ℕ) → (u ≡ w → ⊥) → AreApart (u ∷ []) (w ∷ [])
single_apart u w other v within =
    or-false (w == v)
    ∙ ne_eqb w v (λ same. other (eqb-true u v (sym (or-false (u == v)) ∙ within) ∙ sym same))

all_apart : (singles : List Single) → AreDistinct (vertices_of singles)
    → AllPairs (λ m n. AreApart m.top.vertices n.top.vertices) (nodes_of singles)
all_apart [] distinct = λ i j d less below. absurd (omega arith)
all_apart (s ∷ ss) distinct =
    AllPairs-cons (λ m n. AreApart m.top.vertices n.top.vertices) (node_of s) (nodes_of ss)
    (All-map (λ n. AreApart (s.vertex ∷ []) n.top.vertices) node_of ss
    (λ i d less.
    single_apart s.vertex (get_or ss i d).vertex
    (λ same. both_ways (is_in (vertices_of ss) s.vertex) distinct.0 (ap (is_in (vertices_of ss)) same ∙ vertex_in ss i d less))))
    (all_apart ss distinct.1)

singles_laminar : (singles : List Single) → AllPairs IsNestedOrApart (map cut_of singles)
singles_laminar [] = λ i j d less below. absurd (omega arith)
singles_laminar (s ∷ ss) =
    AllPairs-cons IsNestedOrApart (cut_of s) (map cut_of ss)
    (All-map (IsNestedOrApart (cut_of s)) cut_of ss (λ i d less. either s (get_or ss i d) (cases_eq s.vertex (get_or ss i d).vertex)))
    (singles_laminar ss)
  where
    either : (a b : Single) → (a.vertex ≡ b.vertex) ⊎ (a.vertex ≡ b.vertex → ⊥) → IsNestedOrApart (cut_of a) (cut_of b)
    either a b (inl same) = inl (λ v within. ap (λ w. is_in (w ∷ []) v) (sym same) ∙ within)
    either a b (inr other) = inr (inr (single_apart a.vertex b.vertex other))

one_radius : (s : Single) → HasRadius (node_of s)
one_radius s d within = ap (λ b. 0 + cond b s.value 0) within

pub singles_are_dual : SinglesAreDual
unfolding name_at
singles_are_dual p singles are = record {
  packing = subst (λ l. IsPacking (with_defects p l) (all_cuts (nodes_of singles))) (sym (leaves_are singles)) are.packing;
  names = subst AreDistinct (sym (names_are singles)) are.names;
  laminar = subst (AllPairs IsNestedOrApart) (sym (cuts_are singles)) (singles_laminar singles);
  grown = All-map (λ n. AreGrown (layers_of n)) node_of singles (λ i d less. (tt, tt));
  held = are.held;
  total = are.total;
  apart = λ i j d less below out other. all_apart singles are.vertices i j d less below;
  radii = All-map HasRadius node_of singles (λ i d less. one_radius (get_or singles i d));
  defects = λ d leaf.
      let found = vertex_named singles d (ap (λ l. is_in l d) (sym (leaves_are singles)) ∙ leaf) in
      subst IsSome (sym (cover_is singles d ∙ found.1)) refl;
  real = λ v covered. by_name v (name_at singles v) refl (subst IsSome (cover_is singles v) covered);
  uncovered = λ v none.
      ap (λ l. height_of l v) (cuts_are singles) ∙ height_none singles v (sym (cover_is singles v) ∙ none);
  loads = λ e differs.
      subst (λ cuts. load_of cuts e ≡ height_of cuts e.first + height_of cuts e.second) (sym (cuts_are singles))
      (load_split singles e
      (λ i d less first second.
      let found = vertex_named singles (get_or singles i d).vertex (vertex_in singles i d less) in
      differs (
        found.0,
        cover_is singles e.first ∙ (ap (name_at singles) (sym first) ∙ found.1),
        cover_is singles e.second ∙ (ap (name_at singles) (sym second) ∙ found.1),
      )));
  parity = λ v name cover. (v, ap (λ l. is_in l v) (leaves_are singles) ∙ named_vertex singles v name (sym (cover_is singles v) ∙ cover), cover, refl);
}
  where
    by_name : (v : ℕ) (o : Option ℕ) → name_at singles v ≡ o → IsSome o → p.is_real v ≡ true
    by_name v None e some = absurd (false≢true some)
    by_name v (Some name) e some = real_of p singles are.real v (named_vertex singles v name e)

-- cuts without values
pub no_sum : (test : List ℕ → Bool) (singles : List Single) → All (λ s. s.value ≡ 0) singles → weigh test (map cut_of singles) ≡ 0
no_sum test [] zero_ = refl
no_sum test (s ∷ ss) zero_ =
    omega (
      arith,
      sum_by-cons (λ (c : Cut). cond (test c.vertices) c.value 0) (cut_of s) (map cut_of ss),
      no_sum test ss (All-tail (λ t. t.value ≡ 0) s ss zero_),
      cond-le (test (s.vertex ∷ [])) s.value,
      All-head (λ t. t.value ≡ 0) s ss zero_,
    )

pub bare_height : (singles : List Single) (v : ℕ) → All (λ s. s.value ≡ 0) singles → height_of (all_cuts (nodes_of singles)) v ≡ 0
bare_height singles v bare = ap (λ l. height_of l v) (cuts_are singles) ∙ no_sum (λ s. is_in s v) singles bare

odd_single : (p : Problem) (singles : List Single) → All (λ s. p.is_real s.vertex ≡ true) singles
    → All (IsOddCut (with_defects p (vertices_of singles))) (map cut_of singles)
odd_single p singles real =
    All-map (IsOddCut (with_defects p (vertices_of singles))) cut_of singles
    (λ i d less. record {
      distinct = (refl, tt);
      real = All-cons (λ v. p.is_real v ≡ true) (get_or singles i d).vertex [] (real i d less) (All-nil (λ v. p.is_real v ≡ true));
      odd = ap (λ b. differ b false) (vertex_in singles i d less);
    })

total_none : (singles : List Single) → All (λ s. s.value ≡ 0) singles → total_value (map cut_of singles) ≡ 0
total_none [] zero_ = refl
total_none (s ∷ ss) zero_ =
    omega (
      arith,
      sum_by-cons (λ (c : Cut). c.value) (cut_of s) (map cut_of ss),
      total_none ss (All-tail (λ t. t.value ≡ 0) s ss zero_),
      All-head (λ t. t.value ≡ 0) s ss zero_,
    )

pub beginning_is_dual : BeginningIsDual
beginning_is_dual p singles names vertices real zero_ =
    singles_are_dual p singles (record {
      names = names;
      vertices = vertices;
      real = real;
      packing = record {
        odd = subst (All (IsOddCut (with_defects p (vertices_of singles)))) (sym (cuts_are singles)) (odd_single p singles real);
        fits = λ i d less.
            let none : load_of (all_cuts (nodes_of singles)) (get_or p.edges i d) ≡ 0 =
            ap (λ cuts. load_of cuts (get_or p.edges i d)) (cuts_are singles)
            ∙ no_sum (λ s. crosses s (get_or p.edges i d)) singles zero_ in
            omega arith;
      };
      held = subst (All (IsHeld p)) (sym (cuts_are singles)) (All-map (IsHeld p) cut_of singles (λ i d less. inl (zero_ i d less)));
      total =
          let none : total_value (all_cuts (nodes_of singles)) ≡ 0 =
          ap total_value (cuts_are singles) ∙ total_none singles zero_ in
          omega arith;
    })
