-- Bounds of slacks stay right while a search goes on.
use Rattle.std.proofs.Common.{ℕ, ◌≡◌, ◌≢◌, ◌==◌, ◌+◌, ◌-◌, ◌*◌, ◌≤◌, ◌⊎◌, inl, inr, Bool, true, false, Option, Some, None, List, map, get_or, refl, sym, ap, ◌∙◌, subst, arith}
use Rattle.std.proofs.Math.ListN.{get_or-map}
use Rattle.std.proofs.lemmas.Bool.{both_ways, cases_eq, eq-eqb, false≢true, ne_eqb}
use Rattle.fb_graph.specs.Counts.{as_count}
use Rattle.fb_graph.specs.Parity.{differ}
use Rattle.fb_graph.specs.Problem.{Problem, edge_at, touches}
use Rattle.fb_graph.specs.declared.parts.Edge.{Edge}
use Rattle.fb_graph.specs.Dual.{AreOuterApart, AreUnderOne, Node, all_cuts, cover_of, height_of}
use Rattle.fb_graph.specs.Covers.{AreRoles, is_covered_by, passes}
use Rattle.fb_graph.specs.Steps.{AllowShrinking, Roles, stepped_nodes}
use Rattle.fb_graph.proofs.StepHeights.{cover_stepped, height_stepped}
use Rattle.fb_obstacles.specs.InnerEdges.{is_inner, is_one_node}
use Rattle.fb_obstacles.specs.Obstacles.{most_of, residue_of, slack_at, slack_by, slack_of}
use Rattle.fb_obstacles.specs.Watched.{AreBounded, Watched}
use Rattle.fb_obstacles.proofs.HeldEnds.{same_node}
use Rattle.fb_search.specs.InternalGrowth.{lowered_by}

-- What is over the vertex hinders a step no more than before: what grows there grew before, and what shrank shrinks
-- still.
pub record IsMilder (before after : Roles) (old new : List Node) (v : ℕ) : Type 0 where
  pub plus : is_covered_by after.is_plus new v ≡ true → is_covered_by before.is_plus old v ≡ true
  pub minus : is_covered_by before.is_minus old v ≡ true → is_covered_by after.is_minus new v ≡ true

-- so where one node is over it before and after, and what it does is as mild
pub milder_under : (before after : Roles) (old new : List Node) (v : ℕ) → cover_of new v ≡ cover_of old v
    → ((n : ℕ) → cover_of old v ≡ Some n → after.is_plus n ≡ true → before.is_plus n ≡ true)
    → ((n : ℕ) → cover_of old v ≡ Some n → before.is_minus n ≡ true → after.is_minus n ≡ true)
    → IsMilder before after old new v
milder_under before after old new v same plus minus = record {
  plus = λ over. each after.is_plus before.is_plus plus (cover_of old v) refl (ap (passes after.is_plus) (sym same) ∙ over);
  minus = λ over. ap (passes after.is_minus) same ∙ each before.is_minus after.is_minus minus (cover_of old v) refl over;
}
  where
    each : (one other : ℕ → Bool) → ((n : ℕ) → cover_of old v ≡ Some n → one n ≡ true → other n ≡ true) → (o : Option ℕ)
        → cover_of old v ≡ o → passes one o ≡ true → passes other o ≡ true
    each one other more None e h = h
    each one other more (Some n) e h = more n e h

-- the slack of an edge by the nodes over its ends
abbrev slack_under : Roles → Option ℕ → Option ℕ → ℕ → ℕ → ℕ
slack_under roles first second residue most =
    slack_by (is_one_node first second) (passes roles.is_plus first) (passes roles.is_plus second)
    (passes roles.is_minus first) (passes roles.is_minus second) residue most

-- a slack is never more than the most
slack-le : (inner a b c d : Bool) (residue most : ℕ) → 2 * residue ≤ most → slack_by inner a b c d residue most ≤ most
slack-le true a b c d residue most le = omega arith
slack-le false true true c d residue most le = omega (arith, le)
slack-le false true false c true residue most le = omega arith
slack-le false true false c false residue most le = omega (arith, le)
slack-le false false true true d residue most le = omega arith
slack-le false false true false d residue most le = omega (arith, le)
slack-le false false false c d residue most le = omega arith

-- milder roles at both ends, and a residue that stays
slack_milder : (i j a b c d e f g h : Bool) (residue most : ℕ) → 2 * residue ≤ most → (i ≡ true → j ≡ true)
    → (e ≡ true → a ≡ true) → (f ≡ true → b ≡ true) → (c ≡ true → g ≡ true) → (d ≡ true → h ≡ true)
    → slack_by i a b c d residue most ≤ slack_by j e f g h residue most
slack_milder i true a b c d e f g h residue most le inner first second third fourth = slack-le i a b c d residue most le
slack_milder true false a b c d e f g h residue most le inner first second third fourth = absurd (false≢true (inner refl))
slack_milder false false a b c d true true g h residue most le inner first second third fourth =
    rw (first refl, second refl) (omega arith)
slack_milder false false a b c d true false g true residue most le inner first second third fourth =
    slack-le false a b c d residue most le
slack_milder false false a b c true true false g false residue most le inner first second third fourth =
    absurd (false≢true (fourth refl))
slack_milder false false a true c false true false g false residue most le inner first second third fourth =
    rw (first refl) (omega arith)
slack_milder false false a false c false true false g false residue most le inner first second third fourth =
    rw (first refl) (omega arith)
slack_milder false false a b c d false true true h residue most le inner first second third fourth =
    slack-le false a b c d residue most le
slack_milder false false a b true d false true false h residue most le inner first second third fourth =
    absurd (false≢true (third refl))
slack_milder false false true b false d false true false h residue most le inner first second third fourth =
    rw (second refl) (omega arith)
slack_milder false false false b false d false true false h residue most le inner first second third fourth =
    rw (second refl) (omega arith)
slack_milder false false a b c d false false g h residue most le inner first second third fourth =
    slack-le false a b c d residue most le

residue-le : (nodes : List Node) (e : Edge) → 2 * residue_of nodes e ≤ most_of e
residue-le nodes e = omega arith

one_inner : (nodes : List Node) (e : Edge) → AreUnderOne nodes e.first e.second → is_inner nodes e ≡ true
one_inner nodes e (n, first, second) =
    ap (λ o. is_one_node o (cover_of nodes e.second)) first ∙ (ap (is_one_node (Some n)) second ∙ eq-eqb n n refl)

-- no slack falls where all potentials stay, nodes stay together, and the roles at both ends are as mild
slack_still : (before after : Roles) (old new : List Node) (e : Edge)
    → ((v : ℕ) → height_of (all_cuts new) v ≡ height_of (all_cuts old) v)
    → IsMilder before after old new e.first → IsMilder before after old new e.second
    → (AreUnderOne old e.first e.second → AreUnderOne new e.first e.second)
    → slack_of before old e ≤ slack_of after new e
slack_still before after old new e same first second together =
    let residue : residue_of new e ≡ residue_of old e = omega (arith, same e.first, same e.second) in
    subst
    (λ r.
    slack_of before old e
    ≤ slack_under after (cover_of new e.first) (cover_of new e.second) r (most_of e)) (sym residue)
    (slack_milder (is_inner old e) (is_inner new e) (is_covered_by before.is_plus old e.first)
    (is_covered_by before.is_plus old e.second) (is_covered_by before.is_minus old e.first)
    (is_covered_by before.is_minus old e.second) (is_covered_by after.is_plus new e.first)
    (is_covered_by after.is_plus new e.second) (is_covered_by after.is_minus new e.first)
    (is_covered_by after.is_minus new e.second) (residue_of old e) (most_of e) (residue-le old e)
    (λ inner. one_inner new e (together (same_node (cover_of old e.first) (cover_of old e.second) inner)))
    first.plus second.plus first.minus second.minus)

-- an edge from a vertex to itself has the greatest slack
loop_slack : (roles : Roles) (nodes : List Node) (e : Edge) → e.first ≡ e.second → slack_of roles nodes e ≡ most_of e
loop_slack roles nodes e loop =
    subst
    (λ v. slack_under roles (cover_of nodes e.first) (cover_of nodes v) (residue_of nodes e) (most_of e) ≡ most_of e) loop
    (by (cover_of nodes e.first))
  where
    by : (o : Option ℕ) → slack_under roles o o (residue_of nodes e) (most_of e) ≡ most_of e
    by None = refl
    by (Some n) =
        ap
        (λ b.
        slack_by b (roles.is_plus n) (roles.is_plus n) (roles.is_minus n) (roles.is_minus n) (residue_of nodes e) (most_of e))
        (eq-eqb n n refl)

-- an edge between two vertices touches both
pub touched_first : (e : Edge) → e.first ≢ e.second → touches e.first e ≡ true
touched_first e apart =
    ap (λ a. differ a (e.first == e.second)) (eq-eqb e.first e.first refl)
    ∙ ap (differ true) (ne_eqb e.first e.second apart)

pub touched_second : (e : Edge) → e.first ≢ e.second → touches e.second e ≡ true
touched_second e apart =
    ap (λ a. differ a (e.second == e.second)) (ne_eqb e.second e.first (λ same. apart (sym same)))
    ∙ ap (differ false) (eq-eqb e.second e.second refl)

-- The same of an edge without an end at these vertices, if all that is so of other vertices.
pub slack_away : (before after : Roles) (old new : List Node) (At : ℕ → Type 0) (e : Edge)
    → ((v : ℕ) → height_of (all_cuts new) v ≡ height_of (all_cuts old) v)
    → ((v : ℕ) → ¬ At v → IsMilder before after old new v)
    → ((u v : ℕ) → ¬ At u → ¬ At v → AreUnderOne old u v → AreUnderOne new u v)
    → ((v : ℕ) → At v → touches v e ≡ false) → slack_of before old e ≤ slack_of after new e
slack_away before after old new At e same milder together away = by (cases_eq e.first e.second)
  where
    by : (e.first ≡ e.second) ⊎ (e.first ≢ e.second) → slack_of before old e ≤ slack_of after new e
    by (inl loop) =
        let le : slack_of before old e ≤ most_of e =
        slack-le (is_inner old e) (is_covered_by before.is_plus old e.first) (is_covered_by before.is_plus old e.second)
        (is_covered_by before.is_minus old e.first) (is_covered_by before.is_minus old e.second) (residue_of old e) (most_of e)
        (residue-le old e) in
        subst (λ s. slack_of before old e ≤ s) (sym (loop_slack after new e loop)) le
    by (inr apart) =
        let first : ¬ At e.first = λ at. both_ways (touches e.first e) (away e.first at) (touched_first e apart) in
        let second : ¬ At e.second = λ at. both_ways (touches e.second e) (away e.second at) (touched_second e apart) in
        slack_still before after old new e same (milder e.first first) (milder e.second second)
        (together e.first e.second first second)

-- so of an edge without an end at one vertex, where roles stay, and the nodes over all other vertices
pub slack_beside : (roles : Roles) (old new : List Node) (v : ℕ) (e : Edge)
    → ((u : ℕ) → height_of (all_cuts new) u ≡ height_of (all_cuts old) u)
    → ((u : ℕ) → v ≢ u → cover_of new u ≡ cover_of old u)
    → touches v e ≡ false → slack_of roles old e ≤ slack_of roles new e
slack_beside roles old new v e same covers away =
    slack_away roles roles old new (λ u. v ≡ u) e same
    (λ u other. milder_under roles roles old new u (covers u other) (λ n c h. h) (λ n c h. h))
    (λ u x at_u at_x one. (one.0, covers u at_u ∙ one.1, covers x at_x ∙ one.2))
    (λ u here. ap (λ x. touches x e) (sym here) ∙ away)

-- what a step takes from a slack
module _ (roles : Roles) (nodes : List Node) (k : ℕ) (apart : AreOuterApart nodes) (are : AreRoles roles nodes)
    (low : AllowShrinking roles nodes k) where
  -- no slack falls by more than twice the length of a step
  slack_stepped : (e : Edge) → slack_of roles nodes e ≤ slack_of roles (stepped_nodes roles k nodes) e + 2 * k
  slack_stepped e =
      subst (λ s. slack_of roles nodes e ≤ s + 2 * k) (sym same_covers)
      (by (is_inner nodes e) (is_covered_by roles.is_plus nodes e.first) (is_covered_by roles.is_plus nodes e.second)
      (is_covered_by roles.is_minus nodes e.first) (is_covered_by roles.is_minus nodes e.second)
      (height_stepped roles nodes k e.first apart are low) (height_stepped roles nodes k e.second apart are low))
    where
      was : ℕ
      was = residue_of nodes e

      now : ℕ
      now = residue_of (stepped_nodes roles k nodes) e

      same_covers : slack_of roles (stepped_nodes roles k nodes) e
          ≡ slack_under roles (cover_of nodes e.first) (cover_of nodes e.second) now (most_of e)
      same_covers =
          ap (λ o. slack_under roles o (cover_of (stepped_nodes roles k nodes) e.second) now (most_of e))
          (cover_stepped roles nodes k e.first)
          ∙ ap (λ o. slack_under roles (cover_of nodes e.first) o now (most_of e)) (cover_stepped roles nodes k e.second)

      by : (i a b c d : Bool)
          → height_of (all_cuts (stepped_nodes roles k nodes)) e.first + k * as_count c
          ≡ height_of (all_cuts nodes) e.first + k * as_count a
          → height_of (all_cuts (stepped_nodes roles k nodes)) e.second + k * as_count d
          ≡ height_of (all_cuts nodes) e.second + k * as_count b
          → slack_by i a b c d was (most_of e) ≤ slack_by i a b c d now (most_of e) + 2 * k
      by true a b c d first second = omega arith
      by false true true c d first second = omega (arith, first, second)
      by false true false c true first second = omega arith
      by false true false c false first second = omega (arith, first, second)
      by false false true true d first second = omega arith
      by false false true false d first second = omega (arith, first, second)
      by false false false c d first second = omega arith

  -- and bounds that are lower by that are right after it
  pub bounded_stepped : (p : Problem) (watched : Watched) → AreBounded (slack_at p roles nodes) watched
      → AreBounded (slack_at p roles (stepped_nodes roles k nodes)) (lowered_by k watched)
  bounded_stepped p watched bounds i less =
      let e : Edge = edge_at p.edges (get_or watched.edges i 0) in
      let none : 0 - 2 * k ≡ 0 = omega arith in
      let bound : get_or (map (λ b. b - 2 * k) watched.bounds) i 0 ≡ get_or watched.bounds i 0 - 2 * k =
      subst (λ d. get_or (map (λ b. b - 2 * k) watched.bounds) i d ≡ get_or watched.bounds i 0 - 2 * k) none
      (get_or-map (λ b. b - 2 * k) watched.bounds i 0) in
      omega (arith, bound, bounds i less, slack_stepped e)
