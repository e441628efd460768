-- Edges that are passed over since their bounds show that they bear a step, and looks that set bounds.
use Rattle.std.proofs.Common.{ℕ, ◌≡◌, ◌-◌, ◌*◌, ◌/◌, ◌≤◌, ◌<◌, ◌==◌, ◌&&◌, ◌⊎◌, inl, inr, Bool, true, false, not, List, length, get_or, set, take, take_all, All, refl, sym, ap, ◌∙◌, subst, true≢false, arith}
use Rattle.std.specs.List.{swap_remove}
use Rattle.std.proofs.Math.Bool.{and-false, and-true}
use Rattle.std.proofs.lemmas.Bool.{and_from, and_parts, eq-eqb, false≢true, false_from_ne_true, eqb-true, leb-true, not_from_false}
use Rattle.std.proofs.lemmas.Grind.{get_or_default_zero}
use Rattle.std.proofs.lemmas.List.{get_or-take, length-take-le, take-set-le, take-take}
use Rattle.std.proofs.lemmas.List.Elements.{All-from_get_or}
use Rattle.fb_graph.specs.Parity.{is_in}
use Rattle.fb_graph.specs.Problem.{Problem, edge_at, no_edge}
use Rattle.fb_graph.specs.Certificate.{AreDistinct, load_of}
use Rattle.fb_graph.specs.Dual.{Node, IsDual, AreUnderOne, all_cuts}
use Rattle.fb_graph.specs.Steps.{Roles}
use Rattle.fb_graph.specs.Covers.{AreRoles}
use Rattle.fb_graph.specs.declared.parts.Edge.{Edge}
use Rattle.fb_graph.proofs.Crossings.{under_or_not}
use Rattle.fb_graph.proofs.Sets.{All-from_is_in, is_in-All, is_in_at}
use Rattle.fb_laws.proofs.StepBounds.{edge_allows, edge_within_allows}
use Rattle.fb_regions.specs.declared.roles.Role.{Role}
use Rattle.fb_regions.proofs.Stored.{is_in_taken, length-swapped}
use Rattle.fb_obstacles.specs.declared.obstacle.Obstacle.{Obstacle}
use Rattle.fb_obstacles.specs.declared.looking.Look.{Look}
use Rattle.fb_obstacles.specs.declared.looking.Look.TheVariants.{Clear, Within, Blocked}
use Rattle.fb_obstacles.specs.Obstacles.{BearsStep, Obstructs, residue_of, roles_by, slack_at, slack_of}
use Rattle.fb_obstacles.specs.Watched.{Watched, AreBounded}
use Rattle.fb_obstacles.specs.InnerEdges.{LeavesInner}
use Rattle.fb_obstacles.specs.InternalWatch.{IsNext, Reorders}
use Rattle.fb_obstacles.specs.InternalLooks.{BearBeside, HasScanned, IsAtMostEach, IsSeen, Limits, LimitsBoth, LimitsMinus, both_looks, bound_by, edge_look, fits_within}
use Rattle.fb_obstacles.proofs.EdgeLooks.{look_bound}
use Rattle.fb_obstacles.proofs.EdgeScans.{edge_looked}
use Rattle.fb_obstacles.proofs.LeftEdges.{outer_edge}
use Rattle.fb_obstacles.proofs.LookLimits.{limits_blocked, limits_next, limits_passed, limits_same, limits_unlimited}
use Rattle.fb_obstacles.proofs.RaisedBounds.{bounded_set, bounded_taken, taken_default}

-- an edge bears a step of half its slack
slack_bears : (p : Problem) (roles : Roles) (nodes : List Node) (j k : ℕ) → IsDual p nodes → AreRoles roles nodes
    → k < length p.edges → 2 * j ≤ slack_at p roles nodes k → BearsStep roles nodes j (edge_at p.edges k)
slack_bears p roles nodes j k dual are less fits = step (under_or_not nodes e.first e.second)
  where
    e : Edge
    e = edge_at p.edges k

    light : load_of (all_cuts nodes) e ≤ e.weight
    light = dual.packing.fits k no_edge less

    step : AreUnderOne nodes e.first e.second ⊎ (AreUnderOne nodes e.first e.second → ⊥) → BearsStep roles nodes j e
    step (inl under) = edge_within_allows p roles nodes j e dual are light under
    step (inr differs) =
        edge_allows p roles nodes j e dual are light differs (record {
          first = λ plus other free.
              omega (arith, light, dual.loads e differs, fits_by (2 * residue_of nodes e) (rw (outer_edge nodes e differs, plus, other, free) refl));
          second = λ plus other free.
              omega (arith, light, dual.loads e differs, fits_by (2 * residue_of nodes e) (rw (outer_edge nodes e differs, plus, other, free) refl));
          both = λ plus more.
              omega (arith, light, dual.loads e differs, fits_by (residue_of nodes e) (rw (outer_edge nodes e differs, plus, more) refl));
        })
      where
        fits_by : (x : ℕ) → slack_of roles nodes e ≡ x → 2 * j ≤ x
        fits_by x is = omega (arith, fits, is)

-- what fits within a slack bounds the step by half of it
fitting_bound : (l : Look) (slack : ℕ) → fits_within l slack ≡ true → (m : ℕ) × (l ≡ Within m) × (2 * m ≤ slack)
fitting_bound Clear slack fits = absurd (false≢true fits)
fitting_bound (Within m) slack fits =
    let half : m ≤ slack / 2 = leb-true m (slack / 2) fits in (m, refl, omega (arith, half))
fitting_bound (Blocked o) slack fits = absurd (false≢true fits)

clear_not : (m : ℕ) → Clear ≡ Within m → ⊥
clear_not m e = cc

abbrev bound_of : Look → ℕ
bound_of Clear = 0
bound_of (Within m) = m
bound_of (Blocked o) = 0

-- what stands before a place stays when the edge there is taken out
taken_before : (xs : List ℕ) (i : ℕ) → i < length xs → take i (swap_remove xs i 0) ≡ take i xs
taken_before xs i within =
    let last = get_or xs (length xs - 1) 0 in
    take-take i (length xs - 1) (set xs i last) (omega (arith, within)) ∙ take-set-le i xs i last (omega arith)

-- what a scan knows when it has come to a place: what the minus nodes allow, and the edges but for those before the place,
-- behind which none waits in the queue
pub record IsScanned (p : Problem) (role_of : ℕ → Role) (nodes : List Node) (tops : List ℕ) (old new : Watched)
    (place : ℕ) (l : Look) : Type 0 where
  pub limits : Limits
      (λ j. IsAtMostEach j tops × BearBeside p (roles_by role_of) nodes (take place new.edges) old.edges j)
      (Obstructs p (roles_by role_of) nodes) l
  pub queued : new.queued ≤ place
  pub within : place ≤ length new.edges
  pub watched : LeavesInner p nodes old new
  pub bounded : AreBounded (slack_at p (roles_by role_of) nodes) new

-- edges but for one that is under one node leave the watch no sooner than that one
leaves_one : (p : Problem) (nodes : List Node) (old w new : Watched) (m : ℕ) → LeavesInner p nodes old w
    → AreUnderOne nodes (edge_at p.edges m).first (edge_at p.edges m).second → new.edge_count ≡ w.edge_count
    → ((k : ℕ) → is_in new.edges k ≡ (is_in w.edges k && not (k == m))) → LeavesInner p nodes old new
leaves_one p nodes old w new m before under room left = record {
  room = room ∙ before.room;
  kept = λ k watched apart.
      left k
      ∙ and_from (is_in w.edges k) (not (k == m)) (before.kept k watched apart)
      (not_from_false (k == m) (false_from_ne_true (k == m)
      (λ same.
      apart (subst (λ e. AreUnderOne nodes (edge_at p.edges e).first (edge_at p.edges e).second) (sym (eqb-true k m same)) under))));
  none_new = λ k watched. before.none_new k (and_parts (is_in w.edges k) (not (k == m)) (sym (left k) ∙ watched)).0;
}

-- another order
leaves_reordered : (p : Problem) (nodes : List Node) (old w new : Watched) → LeavesInner p nodes old w → Reorders w new
    → LeavesInner p nodes old new
leaves_reordered p nodes old w new leaves same = record {
  room = same.count ∙ leaves.room;
  kept = λ k watched apart. same.edges k ∙ leaves.kept k watched apart;
  none_new = λ k watched. leaves.none_new k (sym (same.edges k) ∙ watched);
}

-- after a scan the edges may stand in another order
pub scanned_requeued : (p : Problem) (role_of : ℕ → Role) (nodes : List Node) (tops : List ℕ) (old w new : Watched) (l : Look)
    → HasScanned p role_of nodes tops old w l → Reorders w new → HasScanned p role_of nodes tops old new l
scanned_requeued p role_of nodes tops old w new l scanned same = record {
  limits = scanned.limits;
  watched = leaves_reordered p nodes old w new scanned.watched same;
  bounded = same.bounds (slack_at p (roles_by role_of) nodes) scanned.bounded;
}

module _ (p : Problem) (role_of : ℕ → Role) (nodes : List Node) (tops : List ℕ) (old : Watched)
    (seen : IsSeen p role_of nodes old.edges) where
  abbrev Bears : ℕ → ℕ → Type 0
  Bears k j = BearsStep (roles_by role_of) nodes j (edge_at p.edges k)

  abbrev Blocks : Obstacle → Type 0
  Blocks = Obstructs p (roles_by role_of) nodes

  abbrev Beside : List ℕ → ℕ → Type 0
  Beside left j = IsAtMostEach j tops × BearBeside p (roles_by role_of) nodes left old.edges j

  -- the minus nodes were looked at, and no edge yet
  pub scanned_none : (n : ℕ) (l : Look) → n ≡ length old.edges → old.queued ≤ length old.edges → AreBounded (slack_at p (roles_by role_of) nodes) old
      → Limits (λ j. IsAtMostEach j tops) Blocks l → IsScanned p role_of nodes tops old old n l
  scanned_none n l all few bounded limits = record {
    limits = limits_same (λ j. IsAtMostEach j tops) (Beside (take n old.edges)) Blocks l
        (λ j h. (
          h,
          λ k within out. absurd (true≢false (sym within ∙ (ap (λ ks. is_in ks k) (sym (take_all n old.edges (omega (arith, all)))) ∙ out))),
        ))
        (λ j h. h.0) limits;
    queued = omega (arith, few, all);
    within = omega (arith, all);
    watched = record { room = refl; kept = λ k watched apart. watched; none_new = λ k watched. watched };
    bounded = bounded;
  }

  -- the next edge was chosen
  module _ (w chosen : Watched) (n at k : ℕ) (l : Look) (scanned : IsScanned p role_of nodes tops old w n l)
      (next : IsNext w chosen n at) (here : k ≡ get_or chosen.edges at 0) where
    still : LeavesInner p nodes old chosen
    still = leaves_reordered p nodes old w chosen scanned.watched next.same

    pub watched_here : is_in old.edges k ≡ true
    watched_here = still.none_new k (ap (is_in chosen.edges) here ∙ is_in_at chosen.edges at 0 next.within)

    pub edge_within : k < length p.edges
    edge_within = is_in-All (λ m. m < length p.edges) old.edges seen.within k watched_here

    left : (e : ℕ) → is_in (take at chosen.edges) e ≡ (is_in (take n w.edges) e && not (e == k))
    left e = next.left e ∙ ap (λ m. is_in (take n w.edges) e && not (e == m)) (sym here)

    there : (j : ℕ) → Beside (take n w.edges) j → Bears k j → Beside (take at chosen.edges) j
    there j known bears = (known.0, λ e within out. by e within out (e == k) refl)
      where
        by : (e : ℕ) → is_in old.edges e ≡ true → is_in (take at chosen.edges) e ≡ false → (b : Bool) → (e == k) ≡ b → Bears e j
        by e within out true is = subst (λ m. Bears m j) (sym (eqb-true e k is)) bears
        by e within out false is =
            known.1 e within
            (sym (and-true (is_in (take n w.edges) e))
            ∙ (ap (λ b. is_in (take n w.edges) e && not b) (sym is) ∙ (sym (left e) ∙ out)))

    back : (j : ℕ) → Beside (take at chosen.edges) j → Beside (take n w.edges) j × Bears k j
    back j known = (
      (known.0, λ e within out. known.1 e within (left e ∙ ap (λ b. b && not (e == k)) out)),
      known.1 k watched_here
          (left k
          ∙ (ap (λ b. is_in (take n w.edges) k && not b) (eq-eqb k k refl) ∙ and-false (is_in (take n w.edges) k))),
    )

    -- what is known once the edge has been dealt with, in a watch with the same edges up to it
    dealt : (new : Watched) (m : Look) → new.queued ≡ chosen.queued → at ≤ length new.edges
        → take at new.edges ≡ take at chosen.edges → LeavesInner p nodes old new → AreBounded (slack_at p (roles_by role_of) nodes) new
        → Limits (Beside (take at chosen.edges)) Blocks m → IsScanned p role_of nodes tops old new at m
    dealt new m queued within same leaves bounded limits = record {
      limits = subst (λ ks. Limits (Beside ks) Blocks m) (sym same) limits;
      queued = omega (arith, queued, next.queued);
      within = within;
      watched = leaves;
      bounded = bounded;
    }

    bounded_chosen : AreBounded (slack_at p (roles_by role_of) nodes) chosen
    bounded_chosen = next.same.bounds (slack_at p (roles_by role_of) nodes) scanned.bounded

    bears_within : (x : ℕ) → x ≤ slack_at p (roles_by role_of) nodes k → fits_within l x ≡ true
        → (m : ℕ) × (l ≡ Within m) × ((j : ℕ) → j ≤ m → Bears k j)
    bears_within x most fits =
        let (m, is, half) = fitting_bound l x fits in
        (m, is, λ j le. slack_bears p (roles_by role_of) nodes j k seen.dual seen.roles edge_within (omega (arith, le, half, most)))

    passed : (x : ℕ) → x ≤ slack_at p (roles_by role_of) nodes k → fits_within l x ≡ true → Limits (Beside (take at chosen.edges)) Blocks l
    passed x most fits =
        let (m, is, bears) = bears_within x most fits in
        limits_passed (Beside (take n w.edges)) (Beside (take at chosen.edges)) (Bears k) Blocks there back m l is bears scanned.limits

    -- its bound suffices
    pub scanned_passed : (bound : ℕ) → bound ≡ get_or chosen.bounds at 0 → fits_within l bound ≡ true
        → IsScanned p role_of nodes tops old chosen at l
    scanned_passed bound is fits =
        dealt chosen l refl (omega (arith, next.within)) refl still bounded_chosen
        (passed bound (omega (arith, is, bounded_chosen at next.within, ap (slack_at p (roles_by role_of) nodes) here)) fits)

    -- it is under one node, and is watched no longer
    pub scanned_left : (new : Watched) → AreDistinct chosen.edges → length chosen.bounds ≡ length chosen.edges
        → AreUnderOne nodes (edge_at p.edges k).first (edge_at p.edges k).second
        → new ≡ record chosen { edges = swap_remove chosen.edges at 0; bounds = swap_remove chosen.bounds at 0 }
        → IsScanned p role_of nodes tops old new at l
    scanned_left new distinct even under is =
        subst (λ v. IsScanned p role_of nodes tops old v at l) (sym is)
        (dealt (record chosen { edges = swap_remove chosen.edges at 0; bounds = swap_remove chosen.bounds at 0 }) l refl
        (omega (arith, next.within, length-swapped chosen.edges at 0 next.within))
        (taken_before chosen.edges at next.within)
        (leaves_one p nodes old chosen (record chosen { edges = swap_remove chosen.edges at 0; bounds = swap_remove chosen.bounds at 0 })
        k still under refl
        (λ e. is_in_taken chosen.edges (swap_remove chosen.edges at 0) at k k next.within (sym here) distinct
        (here ∙ sym (get_or_default_zero chosen.edges at k next.within)) (taken_default chosen.edges at 0 k next.within) e))
        (bounded_taken (slack_at p (roles_by role_of) nodes) chosen at even next.within bounded_chosen)
        (limits_unlimited (Beside (take n w.edges)) (Beside (take at chosen.edges)) (Bears k) Blocks there back l
        (λ j.
        edge_within_allows p (roles_by role_of) nodes j (edge_at p.edges k) seen.dual seen.roles
        (seen.dual.packing.fits k no_edge edge_within) under)
        scanned.limits))

    -- it is looked at, and its bound is set to at most what it bears
    pub scanned_more : (new : Watched) (y bound : ℕ) (b both : Look) → b ≡ edge_look p role_of nodes k → bound ≤ bound_by b → y ≤ bound
        → new ≡ record chosen { bounds = set chosen.bounds at y } → both ≡ both_looks l b
        → IsScanned p role_of nodes tops old new at both
    scanned_more new y bound b both looked most low is joined =
        subst (λ v. IsScanned p role_of nodes tops old v at both) (sym is)
        (dealt (record chosen { bounds = set chosen.bounds at y }) both refl (omega (arith, next.within)) refl
        (record { room = still.room; kept = still.kept; none_new = still.none_new })
        (bounded_set (slack_at p (roles_by role_of) nodes) chosen at y bounded_chosen
        (omega (
          arith,
          low,
          most,
          ap bound_by looked,
          look_bound p role_of nodes k,
          ap (slack_at p (roles_by role_of) nodes) here,
        )))
        (subst (Limits (Beside (take at chosen.edges)) Blocks) (sym joined)
        (limits_next (Beside (take n w.edges)) (Beside (take at chosen.edges)) (Bears k) Blocks there back l b scanned.limits
        (edge_looked p role_of nodes k b seen.dual seen.roles seen.parity seen.limits edge_within looked))))

  -- Where there is an obstacle, it doesn't matter which edges were looked at.
  pub scanned_blocked : (new : Watched) (n : ℕ) (l : Look) (o : Obstacle) → l ≡ Blocked o
      → IsScanned p role_of nodes tops old new n l → HasScanned p role_of nodes tops old new l
  scanned_blocked new n l o is scanned = record {
    limits = limits_blocked (Beside (take n new.edges))
        (λ j. IsAtMostEach j tops × All (λ k. Bears k j) old.edges) Blocks l o is scanned.limits;
    watched = scanned.watched;
    bounded = scanned.bounded;
  }

  -- The bounds of all edges that are left suffice.
  module _ (new : Watched) (n : ℕ) (l : Look) (scanned : IsScanned p role_of nodes tops old new n l)
      (fit : (i : ℕ) → i < n → fits_within l (get_or new.bounds i 0) ≡ true) where
    -- an edge that is left has a bound that suffices
    sufficing : (k : ℕ) → is_in (take n new.edges) k ≡ true → (x : ℕ) × (x ≤ slack_at p (roles_by role_of) nodes k) × (fits_within l x ≡ true)
    sufficing k left =
        is_in-All (λ e. (x : ℕ) × (x ≤ slack_at p (roles_by role_of) nodes e) × (fits_within l x ≡ true)) (take n new.edges)
        (All-from_get_or (λ e. (x : ℕ) × (x ≤ slack_at p (roles_by role_of) nodes e) × (fits_within l x ≡ true)) (take n new.edges) 0
        (λ i less.
        let before : i < n = omega (arith, less, length-take-le n new.edges scanned.within) in (
          get_or new.bounds i 0,
          subst (λ e. get_or new.bounds i 0 ≤ slack_at p (roles_by role_of) nodes e) (sym (get_or-take n new.edges i 0 before))
              (scanned.bounded i (omega (arith, before, scanned.within))),
          fit i before,
        ))) k left

    bears_left : (k j : ℕ) → is_in old.edges k ≡ true → ((m : ℕ) → l ≡ Within m → j ≤ m) → is_in (take n new.edges) k ≡ true
        → Bears k j
    bears_left k j within short left =
        let (x, most, fits) = sufficing k left in
        let (m, is, half) = fitting_bound l x fits in
        slack_bears p (roles_by role_of) nodes j k seen.dual seen.roles
        (is_in-All (λ e. e < length p.edges) old.edges seen.within k within) (omega (arith, short m is, half, most))

    bear_all : (j : ℕ) → Beside (take n new.edges) j → ((m : ℕ) → l ≡ Within m → j ≤ m) → All (λ k. Bears k j) old.edges
    bear_all j known short = All-from_is_in (λ k. Bears k j) old.edges (λ k within. by k within (is_in (take n new.edges) k) refl)
      where
        by : (k : ℕ) → is_in old.edges k ≡ true → (b : Bool) → is_in (take n new.edges) k ≡ b → Bears k j
        by k within true left = bears_left k j within short left
        by k within false out = known.1 k within out

    pub scanned_all : HasScanned p role_of nodes tops old new l
    scanned_all = record { limits = by l refl scanned.limits; watched = scanned.watched; bounded = scanned.bounded }
      where
        by : (m : Look) → l ≡ m → Limits (Beside (take n new.edges)) Blocks m
            → Limits (λ j. IsAtMostEach j tops × All (λ k. Bears k j) old.edges) Blocks m
        by Clear is limits = λ j. ((limits j).0, bear_all j (limits j) (λ m e. absurd (clear_not m (sym is ∙ e))))
        by (Within m) is limits = (
          limits.0,
          λ j le.
              let known = limits.1 j le in
              (known.0, bear_all j known (λ n e. omega (arith, le, ap bound_of (sym is ∙ e)))),
          λ j h. limits.2 j (h.0, λ k within out. is_in-All (λ e. Bears e j) old.edges h.1 k within),
        )
        by (Blocked o) is limits = limits

-- an obstacle at a minus node, after a scan of the edges alone
pub scanned_before : (p : Problem) (role_of : ℕ → Role) (nodes : List Node) (tops beside : List ℕ) (old new : Watched) (l minus both : Look)
    (o : Obstacle) → minus ≡ Blocked o → LimitsMinus p role_of nodes tops minus → HasScanned p role_of nodes beside old new l
    → both ≡ both_looks l minus → HasScanned p role_of nodes tops old new both
scanned_before p role_of nodes tops beside old new l minus both o is blocks scanned joined = record {
  limits = subst (LimitsBoth p (roles_by role_of) nodes tops old.edges) (sym joined)
      (subst (λ m. LimitsBoth p (roles_by role_of) nodes tops old.edges (both_looks l m)) (sym is)
      (by l scanned.limits (subst (LimitsMinus p role_of nodes tops) is blocks)));
  watched = scanned.watched;
  bounded = scanned.bounded;
}
  where
    by : (m : Look) → LimitsBoth p (roles_by role_of) nodes beside old.edges m → Obstructs p (roles_by role_of) nodes o
        → LimitsBoth p (roles_by role_of) nodes tops old.edges (both_looks m (Blocked o))
    by Clear limits blocked = blocked
    by (Within b) limits blocked = blocked
    by (Blocked e) limits blocked = limits

-- a scan that began after nodes had changed in the watch
pub scanned_since : (p : Problem) (role_of : ℕ → Role) (nodes : List Node) (tops : List ℕ) (old between new : Watched) (l : Look)
    → between ≡ record old { nodes = between.nodes } → HasScanned p role_of nodes tops between new l
    → HasScanned p role_of nodes tops old new l
scanned_since p role_of nodes tops old between new l same scanned = record {
  limits = subst (λ es. LimitsBoth p (roles_by role_of) nodes tops es l) edges scanned.limits;
  watched = record {
    room = scanned.watched.room ∙ ap (λ w. w.edge_count) same;
    kept = λ k watched apart. scanned.watched.kept k (ap (λ es. is_in es k) edges ∙ watched) apart;
    none_new = λ k watched. sym (ap (λ es. is_in es k) edges) ∙ scanned.watched.none_new k watched;
  };
  bounded = scanned.bounded;
}
  where
    edges : between.edges ≡ old.edges
    edges = ap (λ w. w.edges) same
