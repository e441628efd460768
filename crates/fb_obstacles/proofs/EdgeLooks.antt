-- What a look at one edge tells.
use Rattle.std.proofs.Common.{ℕ, ◌≡◌, ◌*◌, ◌/◌, ◌%◌, ◌≤◌, ◌<◌, ◌==◌, ◌⊎◌, inl, inr, Bool, true, false, cond, List, length, Option, Some, None, refl, sym, ap, ◌∙◌, subst, arith}
use Rattle.std.proofs.lemmas.Bool.{false≢true, cases_eq, both_ways, eqb-true, false_from_ne_true, eq-eqb}
use Rattle.fb_graph.specs.Problem.{Problem, edge_at, no_edge}
use Rattle.fb_graph.specs.Certificate.{load_of}
use Rattle.fb_graph.specs.Components.{Leads}
use Rattle.fb_graph.specs.Dual.{Node, IsDual, all_cuts, cover_of, AreUnderOne}
use Rattle.fb_graph.specs.declared.parts.Edge.{Edge}
use Rattle.fb_graph.specs.Steps.{Roles}
use Rattle.fb_graph.specs.Covers.{AreRoles, HaveParity, is_covered_by, passes}
use Rattle.fb_graph.proofs.Crossings.{even_residue, under_or_not}
use Rattle.fb_laws.specs.Bounds.{Bears}
use Rattle.fb_laws.proofs.StepBounds.{edge_within_allows, edge_allows, edge_bears}
use Rattle.fb_regions.specs.declared.roles.Role.{Role}
use Rattle.fb_regions.specs.declared.roles.Role.TheVariants as role
use Rattle.fb_obstacles.specs.declared.obstacle.Obstacle.{Obstacle}
use Rattle.fb_obstacles.specs.declared.obstacle.Obstacle.TheVariants as obstacle
use Rattle.fb_obstacles.specs.declared.looking.Look.TheVariants.{Within, Blocked}
use Rattle.fb_obstacles.specs.declared.ends.Cover.{Cover}
use Rattle.fb_obstacles.specs.declared.ends.Cover.TheVariants.{Plus, Minus, Out, Bare, Virtual}
use Rattle.fb_regions.specs.Paces.{grows, shrinks}
use Rattle.fb_obstacles.specs.Obstacles.{BearsStep, IsTightFrom, Obstructs, most_of, residue_of, roles_by, slack_at, slack_by}
use Rattle.fb_obstacles.specs.InnerEdges.{is_inner, is_one_node}
use Rattle.fb_obstacles.specs.InternalLooks.{cover_in_role, cover_by, cover_at, far_end, bound_by, bounded_look, look_if, edge_look, Limits}

-- what the cover of a vertex says of it
abbrev Covers : Problem → Roles → List Node → ℕ → Cover → Type 0
Covers p roles nodes v (Plus n) = (cover_of nodes v ≡ Some n) × (roles.is_plus n ≡ true)
Covers p roles nodes v Minus = (n : ℕ) × (cover_of nodes v ≡ Some n) × (roles.is_minus n ≡ true)
Covers p roles nodes v Out = (n : ℕ) × (cover_of nodes v ≡ Some n) × (roles.is_plus n ≡ false) × (roles.is_minus n ≡ false)
Covers p roles nodes v Bare = (cover_of nodes v ≡ None) × (p.is_real v ≡ true)
Covers p roles nodes v Virtual = (cover_of nodes v ≡ None) × (p.is_real v ≡ false)

covers : (p : Problem) (role_of : ℕ → Role) (nodes : List Node) (v : ℕ)
    → Covers p (roles_by role_of) nodes v (cover_at p role_of nodes v)
covers p role_of nodes v = step (cover_of nodes v) (p.is_real v) refl refl
  where
    in_role : (n : ℕ) (r : Role) → cover_of nodes v ≡ Some n → role_of n ≡ r
        → Covers p (roles_by role_of) nodes v (cover_in_role r n)
    in_role n role.Plus at is = (at, ap grows is)
    in_role n role.Minus at is = (n, at, ap shrinks is)
    in_role n role.Out at is = (n, at, ap grows is, ap shrinks is)

    step : (o : Option ℕ) (real : Bool) → cover_of nodes v ≡ o → p.is_real v ≡ real
        → Covers p (roles_by role_of) nodes v (cover_by role_of real o)
    step (Some n) real at is = in_role n (role_of n) at refl
    step None true at is = (at, is)
    step None false at is = (at, is)

abbrev under_plus : Cover → Bool
under_plus (Plus n) = true
under_plus Minus = false
under_plus Out = false
under_plus Bare = false
under_plus Virtual = false

abbrev under_minus : Cover → Bool
under_minus (Plus n) = false
under_minus Minus = true
under_minus Out = false
under_minus Bare = false
under_minus Virtual = false

plus_over : (p : Problem) (role_of : ℕ → Role) (nodes : List Node) (v : ℕ) (c : Cover)
    → Covers p (roles_by role_of) nodes v c → is_covered_by (roles_by role_of).is_plus nodes v ≡ under_plus c
plus_over p role_of nodes v (Plus n) (at, plus) = ap (passes (roles_by role_of).is_plus) at ∙ plus
plus_over p role_of nodes v Minus (n, at, minus) =
    ap (passes (roles_by role_of).is_plus) at ∙ apart (role_of n) minus
  where
    apart : (r : Role) → shrinks r ≡ true → grows r ≡ false
    apart role.Plus is = absurd (false≢true is)
    apart role.Minus is = refl
    apart role.Out is = refl
plus_over p role_of nodes v Out (n, at, not_plus, not_minus) = ap (passes (roles_by role_of).is_plus) at ∙ not_plus
plus_over p role_of nodes v Bare (at, real) = ap (passes (roles_by role_of).is_plus) at
plus_over p role_of nodes v Virtual (at, real) = ap (passes (roles_by role_of).is_plus) at

minus_over : (p : Problem) (role_of : ℕ → Role) (nodes : List Node) (v : ℕ) (c : Cover)
    → Covers p (roles_by role_of) nodes v c → is_covered_by (roles_by role_of).is_minus nodes v ≡ under_minus c
minus_over p role_of nodes v (Plus n) (at, plus) =
    ap (passes (roles_by role_of).is_minus) at ∙ apart (role_of n) plus
  where
    apart : (r : Role) → grows r ≡ true → shrinks r ≡ false
    apart role.Plus is = refl
    apart role.Minus is = absurd (false≢true is)
    apart role.Out is = absurd (false≢true is)
minus_over p role_of nodes v Minus (n, at, minus) = ap (passes (roles_by role_of).is_minus) at ∙ minus
minus_over p role_of nodes v Out (n, at, not_plus, not_minus) = ap (passes (roles_by role_of).is_minus) at ∙ not_minus
minus_over p role_of nodes v Bare (at, real) = ap (passes (roles_by role_of).is_minus) at
minus_over p role_of nodes v Virtual (at, real) = ap (passes (roles_by role_of).is_minus) at

-- a bound, or the obstacle where it is 0
pub bounded_limits : (Allowed : ℕ → Type 0) (Stands : Obstacle → Type 0) (bound : ℕ) (o : Obstacle)
    → ((j : ℕ) → j ≤ bound → Allowed j) → ((j : ℕ) → Allowed j → j ≤ bound) → (bound ≡ 0 → Stands o)
    → Limits Allowed Stands (bounded_look bound o)
bounded_limits Allowed Stands bound o below above none = step (bound == 0) refl
  where
    step : (b : Bool) → (bound == 0) ≡ b → Limits Allowed Stands (cond b (Blocked o) (Within bound))
    step true is = none (eqb-true bound 0 is)
    step false is = (
      by (cases_eq bound 0),
      below,
      above,
    )
      where
        by : (bound ≡ 0) ⊎ (bound ≡ 0 → ⊥) → 1 ≤ bound
        by (inl same) = absurd (both_ways (bound == 0) is (eq-eqb bound 0 same))
        by (inr other) = omega arith

-- A look at an edge tells by which lengths it allows a step, or which obstacle stands there.
pub edge_limits : (p : Problem) (role_of : ℕ → Role) (nodes : List Node) (r k : ℕ) → IsDual p nodes
    → AreRoles (roles_by role_of) nodes → HaveParity (roles_by role_of).is_plus nodes r
    → (edge_at p.edges k).weight % 2 ≡ 0 → k < length p.edges
    → Limits (λ j. BearsStep (roles_by role_of) nodes j (edge_at p.edges k)) (Obstructs p (roles_by role_of) nodes)
    (edge_look p role_of nodes k)
edge_limits p role_of nodes r k dual are parity even less = split (under_or_not nodes e.first e.second)
  where
    roles : Roles
    roles = roles_by role_of

    e : Edge
    e = edge_at p.edges k

    residue : ℕ
    residue = residue_of nodes e

    light : load_of (all_cuts nodes) e ≤ e.weight
    light = dual.packing.fits k no_edge less

    Allowed : ℕ → Type 0
    Allowed j = BearsStep roles nodes j e

    Stands : Obstacle → Type 0
    Stands = Obstructs p roles nodes

    within : (name : ℕ) (r : Role) → far_end (cover_in_role r name) (cover_in_role r name) ≡ None
    within name role.Plus = ap (λ x. cond x None (Some (Plus name))) (eq-eqb name name refl)
    within name role.Minus = refl
    within name role.Out = refl

    tight : (AreUnderOne nodes e.first e.second → ⊥) → residue ≡ 0 → load_of (all_cuts nodes) e ≡ e.weight
    tight differs none = omega (arith, dual.loads e differs, none, light)

    tight_from : (u v : ℕ) → (AreUnderOne nodes e.first e.second → ⊥) → residue ≡ 0 → Leads e u v
        → is_covered_by roles.is_plus nodes u ≡ true → IsTightFrom p roles nodes k u v
    tight_from u v differs none leads plus =
        record { within = less; leads = leads; tight = tight differs none; plus = plus }

    allows : (AreUnderOne nodes e.first e.second → ⊥) → (j : ℕ) → Bears roles nodes j e → Allowed j
    allows differs j bears = edge_allows p roles nodes j e dual are light differs bears

    bears : (AreUnderOne nodes e.first e.second → ⊥) → (j : ℕ) → Allowed j → Bears roles nodes j e
    bears differs j allowed = edge_bears p roles nodes j e dual are differs allowed

    neither : (AreUnderOne nodes e.first e.second → ⊥) → is_covered_by roles.is_plus nodes e.first ≡ false
        → is_covered_by roles.is_plus nodes e.second ≡ false → (j : ℕ) → Allowed j
    neither differs lacks none j =
        allows differs j (record {
          first = λ plus other free. absurd (both_ways (is_covered_by roles.is_plus nodes e.first) lacks plus);
          second = λ plus other free. absurd (both_ways (is_covered_by roles.is_plus nodes e.second) none plus);
          both = λ plus more. absurd (both_ways (is_covered_by roles.is_plus nodes e.first) lacks plus);
        })

    to_minus : (AreUnderOne nodes e.first e.second → ⊥) → is_covered_by roles.is_plus nodes e.second ≡ false
        → is_covered_by roles.is_minus nodes e.second ≡ true → (j : ℕ) → Allowed j
    to_minus differs none minus j =
        allows differs j (record {
          first = λ plus other free. absurd (both_ways (is_covered_by roles.is_minus nodes e.second) free minus);
          second = λ plus other free. absurd (both_ways (is_covered_by roles.is_plus nodes e.second) none plus);
          both = λ plus more. absurd (both_ways (is_covered_by roles.is_plus nodes e.second) none more);
        })

    from_minus : (AreUnderOne nodes e.first e.second → ⊥) → is_covered_by roles.is_plus nodes e.first ≡ false
        → is_covered_by roles.is_minus nodes e.first ≡ true → (j : ℕ) → Allowed j
    from_minus differs none minus j =
        allows differs j (record {
          first = λ plus other free. absurd (both_ways (is_covered_by roles.is_plus nodes e.first) none plus);
          second = λ plus other free. absurd (both_ways (is_covered_by roles.is_minus nodes e.first) free minus);
          both = λ plus more. absurd (both_ways (is_covered_by roles.is_plus nodes e.first) none plus);
        })

    one_first : (AreUnderOne nodes e.first e.second → ⊥) → (o : Obstacle) → is_covered_by roles.is_plus nodes e.first ≡ true
        → is_covered_by roles.is_plus nodes e.second ≡ false → is_covered_by roles.is_minus nodes e.second ≡ false
        → (residue ≡ 0 → Stands o) → Limits Allowed Stands (bounded_look residue o)
    one_first differs o plus none free stands =
        bounded_limits Allowed Stands residue o
        (λ j le.
        allows differs j (record {
          first = λ yes_plus other free_too. omega (arith, le, light, dual.loads e differs);
          second = λ more other free_too. absurd (both_ways (is_covered_by roles.is_plus nodes e.second) none more);
          both = λ yes_plus more. absurd (both_ways (is_covered_by roles.is_plus nodes e.second) none more);
        }))
        (λ j allowed. let h = (bears differs j allowed).first plus none free in omega (arith, h, dual.loads e differs))
        stands

    one_second : (AreUnderOne nodes e.first e.second → ⊥) → (o : Obstacle) → is_covered_by roles.is_plus nodes e.second ≡ true
        → is_covered_by roles.is_plus nodes e.first ≡ false → is_covered_by roles.is_minus nodes e.first ≡ false
        → (residue ≡ 0 → Stands o) → Limits Allowed Stands (bounded_look residue o)
    one_second differs o plus none free stands =
        bounded_limits Allowed Stands residue o
        (λ j le.
        allows differs j (record {
          first = λ more other free_too. absurd (both_ways (is_covered_by roles.is_plus nodes e.first) none more);
          second = λ yes_plus other free_too. omega (arith, le, light, dual.loads e differs);
          both = λ more yes_plus. absurd (both_ways (is_covered_by roles.is_plus nodes e.first) none more);
        }))
        (λ j allowed. let h = (bears differs j allowed).second plus none free in omega (arith, h, dual.loads e differs))
        stands

    both : (AreUnderOne nodes e.first e.second → ⊥) → (o : Obstacle) → is_covered_by roles.is_plus nodes e.first ≡ true
        → is_covered_by roles.is_plus nodes e.second ≡ true
        → (residue ≡ 0 → Stands o) → Limits Allowed Stands (bounded_look (residue / 2) o)
    both differs o plus more stands =
        bounded_limits Allowed Stands (residue / 2) o
        (λ j le.
        allows differs j (record {
          first = λ yes_plus other free. absurd (both_ways (is_covered_by roles.is_plus nodes e.second) other more);
          second = λ yes_plus other free. absurd (both_ways (is_covered_by roles.is_plus nodes e.first) other plus);
          both = λ yes_plus too. omega (arith, le, light, dual.loads e differs);
        }))
        (λ j allowed. let h = (bears differs j allowed).both plus more in omega (arith, h, dual.loads e differs))
        (λ none.
        let halves = even_residue p roles nodes r e dual parity even differs plus more in
        stands (omega (arith, none, halves, dual.loads e differs)))

    core : (AreUnderOne nodes e.first e.second → ⊥) → (a b : Cover) → Covers p roles nodes e.first a
        → Covers p roles nodes e.second b → Limits Allowed Stands (look_if (far_end a b) residue k)
    core differs (Plus m) (Plus n) first second =
        subst (λ b. Limits Allowed Stands (look_if (cond b None (Some (Plus n))) residue k))
        (sym
        (false_from_ne_true (m == n)
        (λ same. differs (m, first.0, second.0 ∙ ap Some (sym (eqb-true m n same))))))
        (both differs (obstacle.PlusPair k) plus more
        (λ none. (
          e.first,
          e.second,
          record { edge = tight_from e.first e.second differs none (inl (refl, refl)) plus; other = more; apart = differs },
        )))
      where
        plus : is_covered_by roles.is_plus nodes e.first ≡ true
        plus = plus_over p role_of nodes e.first (Plus m) first

        more : is_covered_by roles.is_plus nodes e.second ≡ true
        more = plus_over p role_of nodes e.second (Plus n) second
    core differs (Plus m) Minus first second =
        to_minus differs (plus_over p role_of nodes e.second Minus second) (minus_over p role_of nodes e.second Minus second)
    core differs (Plus m) Out first (n, at, not_plus, not_minus) =
        one_first differs (obstacle.Meet k) (plus_over p role_of nodes e.first (Plus m) first)
        (plus_over p role_of nodes e.second Out (n, at, not_plus, not_minus))
        (minus_over p role_of nodes e.second Out (n, at, not_plus, not_minus))
        (λ none. (
          e.first,
          e.second,
          n,
          record {
            edge = tight_from e.first e.second differs none (inl (refl, refl)) (plus_over p role_of nodes e.first (Plus m) first);
            covered = at;
            not_plus = not_plus;
            not_minus = not_minus;
          },
        ))
    core differs (Plus m) Bare first (at, real) =
        one_first differs (obstacle.Absorb k) (plus_over p role_of nodes e.first (Plus m) first)
        (plus_over p role_of nodes e.second Bare (at, real)) (minus_over p role_of nodes e.second Bare (at, real))
        (λ none. (
          e.first,
          e.second,
          record {
            edge = tight_from e.first e.second differs none (inl (refl, refl)) (plus_over p role_of nodes e.first (Plus m) first);
            uncovered = at;
            real = real;
          },
        ))
    core differs (Plus m) Virtual first (at, real) =
        one_first differs (obstacle.Boundary k) (plus_over p role_of nodes e.first (Plus m) first)
        (plus_over p role_of nodes e.second Virtual (at, real)) (minus_over p role_of nodes e.second Virtual (at, real))
        (λ none. (
          e.first,
          e.second,
          record {
            edge = tight_from e.first e.second differs none (inl (refl, refl)) (plus_over p role_of nodes e.first (Plus m) first);
            real = real;
          },
        ))
    core differs Minus (Plus n) first second =
        from_minus differs (plus_over p role_of nodes e.first Minus first) (minus_over p role_of nodes e.first Minus first)
    core differs Out (Plus n) (m, at, not_plus, not_minus) second =
        one_second differs (obstacle.Meet k) (plus_over p role_of nodes e.second (Plus n) second)
        (plus_over p role_of nodes e.first Out (m, at, not_plus, not_minus))
        (minus_over p role_of nodes e.first Out (m, at, not_plus, not_minus))
        (λ none. (
          e.second,
          e.first,
          m,
          record {
            edge = tight_from e.second e.first differs none (inr (refl, refl)) (plus_over p role_of nodes e.second (Plus n) second);
            covered = at;
            not_plus = not_plus;
            not_minus = not_minus;
          },
        ))
    core differs Bare (Plus n) (at, real) second =
        one_second differs (obstacle.Absorb k) (plus_over p role_of nodes e.second (Plus n) second)
        (plus_over p role_of nodes e.first Bare (at, real)) (minus_over p role_of nodes e.first Bare (at, real))
        (λ none. (
          e.second,
          e.first,
          record {
            edge = tight_from e.second e.first differs none (inr (refl, refl)) (plus_over p role_of nodes e.second (Plus n) second);
            uncovered = at;
            real = real;
          },
        ))
    core differs Virtual (Plus n) (at, real) second =
        one_second differs (obstacle.Boundary k) (plus_over p role_of nodes e.second (Plus n) second)
        (plus_over p role_of nodes e.first Virtual (at, real)) (minus_over p role_of nodes e.first Virtual (at, real))
        (λ none. (
          e.second,
          e.first,
          record {
            edge = tight_from e.second e.first differs none (inr (refl, refl)) (plus_over p role_of nodes e.second (Plus n) second);
            real = real;
          },
        ))
    core differs a b first second =
        neither differs (plus_over p role_of nodes e.first a first) (plus_over p role_of nodes e.second b second)

    split : AreUnderOne nodes e.first e.second ⊎ (AreUnderOne nodes e.first e.second → ⊥)
        → Limits Allowed Stands (edge_look p role_of nodes k)
    split (inl (name, first, second)) =
        subst (λ o. Limits Allowed Stands (look_if o residue k))
        (sym
        (ap (λ o. far_end (cover_by role_of (p.is_real e.first) o) (cover_at p role_of nodes e.second)) first
        ∙ (ap (λ o. far_end (cover_in_role (role_of name) name) (cover_by role_of (p.is_real e.second) o)) second
        ∙ within name (role_of name))))
        (λ j. edge_within_allows p roles nodes j e dual are light (name, first, second))
    split (inr differs) =
        core differs (cover_at p role_of nodes e.first) (cover_at p role_of nodes e.second) (covers p role_of nodes e.first)
        (covers p role_of nodes e.second)

-- What a look says that an edge bears is at most its slack.
pub look_bound : (p : Problem) (role_of : ℕ → Role) (nodes : List Node) (k : ℕ)
    → bound_by (edge_look p role_of nodes k) ≤ slack_at p (roles_by role_of) nodes k
look_bound p role_of nodes k =
    by (is_inner nodes e) (cover_at p role_of nodes e.first) (cover_at p role_of nodes e.second) (covers p role_of nodes e.first)
    (covers p role_of nodes e.second) refl
  where
    e : Edge
    e = edge_at p.edges k

    residue : ℕ
    residue = residue_of nodes e

    most : ℕ
    most = most_of e

    bounded : (bound : ℕ) (o : Obstacle) → bound_by (bounded_look bound o) ≤ 2 * bound
    bounded bound o = step (bound == 0)
      where
        step : (b : Bool) → bound_by (cond b (Blocked o) (Within bound)) ≤ 2 * bound
        step true = omega arith
        step false = omega arith

    any : (far : Option Cover) → bound_by (look_if far residue k) ≤ most
    any None = omega arith
    any (Some (Plus n)) = omega (arith, bounded (residue / 2) (obstacle.PlusPair k))
    any (Some Minus) = omega arith
    any (Some Out) = omega (arith, bounded residue (obstacle.Meet k))
    any (Some Bare) = omega (arith, bounded residue (obstacle.Absorb k))
    any (Some Virtual) = omega (arith, bounded residue (obstacle.Boundary k))

    pair : (m n : ℕ) → (m == n) ≡ false → bound_by (look_if (far_end (Plus m) (Plus n)) residue k) ≤ residue
    pair m n other =
        subst (λ b. bound_by (look_if (cond b None (Some (Plus n))) residue k) ≤ residue) (sym other)
        (omega (arith, bounded (residue / 2) (obstacle.PlusPair k)))

    core : (a b : Cover) → ((m n : ℕ) → a ≡ Plus m → b ≡ Plus n → (m == n) ≡ false)
        → bound_by (look_if (far_end a b) residue k)
        ≤ slack_by false (under_plus a) (under_plus b) (under_minus a) (under_minus b) residue most
    core (Plus m) (Plus n) apart = pair m n (apart m n refl refl)
    core (Plus m) Minus apart = any None
    core (Plus m) Out apart = bounded residue (obstacle.Meet k)
    core (Plus m) Bare apart = bounded residue (obstacle.Absorb k)
    core (Plus m) Virtual apart = bounded residue (obstacle.Boundary k)
    core Minus (Plus n) apart = any None
    core Out (Plus n) apart = bounded residue (obstacle.Meet k)
    core Bare (Plus n) apart = bounded residue (obstacle.Absorb k)
    core Virtual (Plus n) apart = bounded residue (obstacle.Boundary k)
    core a b apart = any (far_end a b)

    by : (inner : Bool) (a b : Cover) → Covers p (roles_by role_of) nodes e.first a → Covers p (roles_by role_of) nodes e.second b
        → is_inner nodes e ≡ inner
        → bound_by (look_if (far_end a b) residue k)
        ≤ slack_by inner (is_covered_by (roles_by role_of).is_plus nodes e.first) (is_covered_by (roles_by role_of).is_plus nodes e.second)
        (is_covered_by (roles_by role_of).is_minus nodes e.first) (is_covered_by (roles_by role_of).is_minus nodes e.second) residue most
    by true a b first second is = any (far_end a b)
    by false a b first second is =
        rw (
          plus_over p role_of nodes e.first a first,
          plus_over p role_of nodes e.second b second,
          minus_over p role_of nodes e.first a first,
          minus_over p role_of nodes e.second b second,
        ) (core a b (apart a b first second))
      where
        apart : (a b : Cover) → Covers p (roles_by role_of) nodes e.first a → Covers p (roles_by role_of) nodes e.second b
            → (m n : ℕ) → a ≡ Plus m → b ≡ Plus n → (m == n) ≡ false
        apart a b first second m n one other =
            let here : Covers p (roles_by role_of) nodes e.first (Plus m) = subst (Covers p (roles_by role_of) nodes e.first) one first in
            let there : Covers p (roles_by role_of) nodes e.second (Plus n) = subst (Covers p (roles_by role_of) nodes e.second) other second in
            sym (ap (λ o. is_one_node o (cover_of nodes e.second)) here.0 ∙ ap (is_one_node (Some m)) there.0) ∙ is
