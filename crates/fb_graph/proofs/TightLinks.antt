-- Tight links and source walks.
use Rattle.std.proofs.Common.{ℕ, ◌≡◌, ◌+◌, ◌*◌, ◌%◌, inl, inr, Bool, true, false, cond, List, [], ◌∷◌, ◌++◌, reverse, refl, sym, ap, ◌∙◌, subst, arith}
use Rattle.std.proofs.lemmas.List.{reverse-append}
use Rattle.std.proofs.lemmas.List.Sums.{sum_by-cons, sum_by-append, sum_by_push}
use Rattle.fb_graph.specs.Parity.{differ, is_in}
use Rattle.fb_graph.specs.Problem.{Problem, edge_at, no_edge, crosses, weight_of}
use Rattle.fb_graph.specs.Certificate.{load_of}
use Rattle.fb_graph.specs.Components.{Leads, IsWalkBy}
use Rattle.fb_graph.specs.Dual.{height_of}
use Rattle.fb_graph.specs.declared.parts.Edge.{Edge}
use Rattle.fb_graph.specs.declared.parts.Cut.{Cut}
use Rattle.fb_graph.proofs.CutSums.{weigh, cond_zero}
use Rattle.fb_graph.proofs.ParitySums.{differ_comm}
use Rattle.fb_graph.proofs.Walks.{IsWalkBy-append, IsWalkBy-reverse}
use Rattle.fb_graph.specs.Counts.{as_count}
use Rattle.fb_graph.specs.Covers.{passes}
use Rattle.fb_graph.specs.Links.{pair, AreEven, PartedFromLow, MeetingTight, BoundaryTight, TurnedTight, JoinedTight, EmptyLayerLoads, EmptyLayerHeights, SourceStepped, LinkParity, BoundaryParity, MeetingParity, SourceParity}
use Rattle.fb_graph.specs.Limits.{IsWithinLimits}
use Rattle.fb_graph.proofs.StepHeights.{height_stepped}

-- tests that agree on each set weigh the same
weigh_agree : (one other : List ℕ → Bool) → ((s : List ℕ) → one s ≡ other s) → (cuts : List Cut) → weigh one cuts ≡ weigh other cuts
weigh_agree one other same [] = refl
weigh_agree one other same (c ∷ cs) =
    omega (
      arith,
      sum_by-cons (λ (x : Cut). cond (one x.vertices) x.value 0) c cs,
      sum_by-cons (λ (x : Cut). cond (other x.vertices) x.value 0) c cs,
      ap (λ b. cond b c.value 0) (same c.vertices),
      weigh_agree one other same cs,
    )

-- a pair has the load of each edge that leads between its vertices
load_between : (cuts : List Cut) (e : Edge) (u v : ℕ) → Leads e u v → load_of cuts e ≡ load_of cuts (pair u v)
load_between cuts e u v (inl (first, second)) =
    weigh_agree (λ s. crosses s e) (λ s. crosses s (pair u v))
    (λ s. ap (λ x. differ (is_in s x) (is_in s e.second)) first ∙ ap (λ x. differ (is_in s u) (is_in s x)) second) cuts
load_between cuts e u v (inr (second, first)) =
    weigh_agree (λ s. crosses s e) (λ s. crosses s (pair u v))
    (λ s.
    differ_comm (is_in s e.first) (is_in s e.second)
    ∙ (ap (λ x. differ (is_in s x) (is_in s e.first)) second ∙ ap (λ x. differ (is_in s u) (is_in s x)) first)) cuts

pub parted_from_low : PartedFromLow
parted_from_low [] u v low = refl
parted_from_low (c ∷ cs) u v low =
    let h : Cut → ℕ = λ x. cond (is_in x.vertices v) x.value 0 in
    let split : height_of (c ∷ cs) v ≡ h c + height_of cs v = sum_by-cons h c cs in
    let rest_low : height_of cs v ≡ 0 = omega arith in
    let here_low : h c ≡ 0 = omega arith in
    omega (
      arith,
      split,
      sum_by-cons (λ (x : Cut). cond (crosses x.vertices (pair u v)) x.value 0) c cs,
      sum_by-cons (λ (x : Cut). cond (is_in x.vertices u) x.value 0) c cs,
      parted_from_low cs u v rest_low,
      one (is_in c.vertices u) (is_in c.vertices v) c.value here_low,
    )
  where
    one : (a b : Bool) (x : ℕ) → cond b x 0 ≡ 0 → cond (differ a b) x 0 ≡ cond a x 0 + cond b x 0
    one true true x low = omega arith
    one true false x low = omega arith
    one false true x low = omega arith
    one false false x low = omega arith

weight-reverse : (p : Problem) (ks : List ℕ) → weight_of p (reverse ks) ≡ weight_of p ks
weight-reverse p [] = refl
weight-reverse p (k ∷ ks) =
    let w : ℕ → ℕ = λ j. (edge_at p.edges j).weight in
    ap (weight_of p) (reverse-append (k ∷ []) ks)
    ∙ omega (arith, sum_by_push w (reverse ks) k, weight-reverse p ks, sum_by-cons w k ks)

weight-through : (p : Problem) (ks ls : List ℕ) (k : ℕ)
    → weight_of p (ks ++ k ∷ ls) ≡ weight_of p ks + (edge_at p.edges k).weight + weight_of p ls
weight-through p ks ls k =
    let w : ℕ → ℕ = λ j. (edge_at p.edges j).weight in
    omega (arith, sum_by-append w ks (k ∷ ls), sum_by-cons w k ls)

pub meeting_tight : MeetingTight
meeting_tight p cuts walk back k d u v c source other within leads full parted ends = record {
  walk =
      IsWalkBy-append p walk (k ∷ reverse back) d u c source.leads
      (v, within, leads, IsWalkBy-reverse p back c v other.leads);
  tight =
      omega (
        arith,
        weight-through p walk (reverse back) k,
        weight-reverse p back,
        source.balance,
        other.balance,
        full,
        load_between cuts (edge_at p.edges k) u v leads,
        parted,
        ends,
      );
}

pub boundary_tight : BoundaryTight
boundary_tight p cuts walk k d u v source within leads full low = record {
  walk = IsWalkBy-append p walk (k ∷ []) d u v source.leads (v, within, leads, refl);
  tight =
      let none : weight_of p [] ≡ 0 = refl in
      omega (
        arith,
        weight-through p walk [] k,
        none,
        source.balance,
        full,
        load_between cuts (edge_at p.edges k) u v leads,
        parted_from_low cuts u v low,
        parted_from_low cuts d v low,
        low,
      );
}

load-turned : (cuts : List Cut) (u v : ℕ) → load_of cuts (pair u v) ≡ load_of cuts (pair v u)
load-turned cuts u v = load_between cuts (pair u v) v u (inr (refl, refl))

pub turned_tight : TurnedTight
turned_tight p cuts l is = record {
  walk = IsWalkBy-reverse p l.walk l.from l.to is.walk;
  tight = weight-reverse p l.walk ∙ (is.tight ∙ load-turned cuts l.from l.to);
}

pub joined_tight : JoinedTight
joined_tight p cuts l m is other same low parted = record {
  walk =
      IsWalkBy-append p l.walk m.walk l.from l.to m.to is.walk
      (subst (λ x. IsWalkBy p m.walk x m.to) (sym same) other.walk);
  tight =
      omega (
        arith,
        sum_by-append (λ j. (edge_at p.edges j).weight) l.walk m.walk,
        is.tight,
        other.tight,
        parted,
        parted_from_low cuts l.from l.to low,
        load-turned cuts m.from m.to,
        parted_from_low cuts m.to m.from low_other,
        low,
        low_other,
      );
}
  where
    low_other : height_of cuts m.from ≡ 0
    low_other = ap (height_of cuts) (sym same) ∙ low

-- a cut without value adds nothing to any sum
weigh_empty : (test : List ℕ → Bool) (cuts more : List Cut) (c : Cut) → c.value ≡ 0
    → weigh test (cuts ++ c ∷ more) ≡ weigh test (cuts ++ more)
weigh_empty test cuts more c empty =
    let f : Cut → ℕ = λ x. cond (test x.vertices) x.value 0 in
    omega (
      arith,
      sum_by-append f cuts (c ∷ more),
      sum_by-cons f c more,
      sum_by-append f cuts more,
      ap (λ x. cond (test c.vertices) x 0) empty,
      cond_zero (test c.vertices),
    )

pub empty_layer_loads : EmptyLayerLoads
empty_layer_loads cuts more c e empty = weigh_empty (λ s. crosses s e) cuts more c empty

pub empty_layer_heights : EmptyLayerHeights
empty_layer_heights cuts more c v empty = weigh_empty (λ s. is_in s v) cuts more c empty

pub source_stepped : SourceStepped
source_stepped p roles nodes k walk d u apart are low same source = record {
  leads = source.leads;
  balance =
      omega (
        arith,
        source.balance,
        height_stepped roles nodes k d apart are low,
        height_stepped roles nodes k u apart are low,
        ap (λ o. k * as_count (passes roles.is_plus o)) same,
        ap (λ o. k * as_count (passes roles.is_minus o)) same,
      );
}

even_walk : (p : Problem) (ks : List ℕ) (a b : ℕ) → AreEven p → IsWalkBy p ks a b → weight_of p ks % 2 ≡ 0
even_walk p [] a b even walk = refl
even_walk p (k ∷ ks) a b even (next, within, leads, rest) =
    omega (
      arith,
      sum_by-cons (λ j. (edge_at p.edges j).weight) k ks,
      even k no_edge within,
      even_walk p ks next b even rest,
    )

pub link_parity : LinkParity
link_parity p cuts l even is parted = omega (arith, even_walk p l.walk l.from l.to even is.walk, is.tight, parted)

pub boundary_parity : BoundaryParity
boundary_parity p cuts l even is low =
    omega (arith, even_walk p l.walk l.from l.to even is.walk, is.tight, parted_from_low cuts l.from l.to low, low)

pub meeting_parity : MeetingParity
meeting_parity cuts e even full parted = omega (arith, even, full, parted)

pub source_parity : SourceParity
source_parity p cuts walk d u even source = omega (arith, even_walk p walk d u even source.leads, source.balance)

-- the weights of a graph within the limits are even
pub all_even : (p : Problem) → IsWithinLimits p → AreEven p
all_even p limits j d less = (limits.each_edge j d less).even
