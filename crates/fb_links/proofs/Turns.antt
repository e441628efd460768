-- Walks one after another, and reversed walks.
use Rattle.std.proofs.Common.{ℕ, ◌+◌, ◌<◌, ◌≡◌, List, [], ◌∷◌, ◌++◌, map, reverse, length, arith, refl, sym, ap, ◌∙◌, subst}
use Rattle.std.proofs.lemmas.List.{reverse-append, map-append, length_push}
use Rattle.std.proofs.lemmas.List.Sums.{sum_by-cons, sum_by-append, sum_by_push}
use Rattle.fb_links.specs.declared.walk.Step.{Step}
use Rattle.fb_links.specs.Walks.{walk_weight, start_of, end_from, end_of, Runs, IsChained, turned_step, turned_walk}
use Rattle.fb_links.specs.Table.{IsLink}
use Rattle.fb_links.specs.Laws.{IsTurned}

pub Runs-append : (v w : List Step) (from via to : ℕ) → Runs v from via → Runs w via to → Runs (v ++ w) from to
Runs-append [] w from via to first second = subst (λ x. Runs w x to) (sym first) second
Runs-append (s ∷ ss) w from via to (begins, rest) second = (begins, Runs-append ss w s.to via to rest second)

pub turned_walk-cons : (s : Step) (ss : List Step) → turned_walk (s ∷ ss) ≡ turned_walk ss ++ turned_step s ∷ []
turned_walk-cons s ss = ap (map turned_step) (reverse-append (s ∷ []) ss) ∙ map-append turned_step (reverse ss) (s ∷ [])

pub Runs-turned_walk : (w : List Step) (from to : ℕ) → Runs w from to → Runs (turned_walk w) to from
Runs-turned_walk [] from to walk = sym walk
Runs-turned_walk (s ∷ ss) from to (begins, rest) =
    subst (λ l. Runs l to from) (sym (turned_walk-cons s ss))
    (Runs-append (turned_walk ss) (turned_step s ∷ []) to s.to from (Runs-turned_walk ss s.to to rest) (refl, begins))

pub weight-turned_walk : (w : List Step) → walk_weight (turned_walk w) ≡ walk_weight w
weight-turned_walk [] = refl
weight-turned_walk (s ∷ ss) =
    omega (arith, ap walk_weight (turned_walk-cons s ss), sum_by_push (λ x. x.weight) (turned_walk ss) (turned_step s), sum_by-cons (λ x. x.weight) s ss, weight-turned_walk ss)

pub length-turned_walk : (w : List Step) → length (turned_walk w) ≡ length w
length-turned_walk [] = refl
length-turned_walk (s ∷ ss) = omega (arith, ap length (turned_walk-cons s ss), length_push (turned_walk ss) (turned_step s), length-turned_walk ss)

pub weight-append : (v w : List Step) → walk_weight (v ++ w) ≡ walk_weight v + walk_weight w
weight-append v w = sum_by-append (λ s. s.weight) v w

pub Runs-end : (w : List Step) (from to : ℕ) → Runs w from to → end_from from w ≡ to
Runs-end [] from to walk = walk
Runs-end (s ∷ ss) from to (begins, rest) = Runs-end ss s.to to rest

pub Runs-ends : (w : List Step) (from to : ℕ) → 0 < length w → Runs w from to → (start_of w ≡ from) × (end_of w ≡ to)
Runs-ends [] from to some walk = absurd (omega arith)
Runs-ends (s ∷ ss) from to some (begins, rest) = (begins, Runs-end ss s.to to rest)

pub IsChained-from_Runs : (w : List Step) (from to : ℕ) → 0 < length w → Runs w from to → IsChained w
IsChained-from_Runs w from to some walk =
    let ends = Runs-ends w from to some walk in
    subst (λ x. Runs w x (end_of w)) (sym ends.0) (subst (λ y. Runs w from y) (sym ends.1) walk)

pub Runs-chained : (w : List Step) (from to : ℕ) → Runs w from to → IsChained w
Runs-chained [] from to walk = refl
Runs-chained (s ∷ ss) from to walk = IsChained-from_Runs (s ∷ ss) from to (omega arith) walk

pub turned_link : (w : List Step) → IsLink w → IsTurned w
turned_link w link =
    let some : 0 < length (turned_walk w) = omega (arith, length-turned_walk w, link.some) in
    let back = Runs-turned_walk w (start_of w) (end_of w) link.chained in
    let ends = Runs-ends (turned_walk w) (end_of w) (start_of w) some back in
    record {
      link = record {
        some = some;
        chained = IsChained-from_Runs (turned_walk w) (end_of w) (start_of w) some back;
        light = omega (arith, weight-turned_walk w, link.light);
      };
      start = ends.0;
      end = ends.1;
    }
