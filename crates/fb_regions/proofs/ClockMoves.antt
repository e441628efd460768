-- The nodes at a time where one of them is settled then, or changed.
use Rattle.std.proofs.Common.{ℕ, zero, suc, ◌≡◌, ◌-◌, Bool, true, false, List, [], ◌∷◌, map, filter, set, get_or, Option, refl, sym, ap, ◌∙◌, subst, arith, if◌then◌else◌}
use Rattle.std.proofs.lemmas.List.Elements.{All-set}
use Rattle.fb_graph.specs.Certificate.{AreDistinct}
use Rattle.fb_graph.specs.Problem.{Problem}
use Rattle.fb_regions.specs.declared.marks.Mark.{Mark}
use Rattle.fb_regions.specs.declared.region.Region.{Region}
use Rattle.fb_regions.specs.declared.roles.Role.{Role}
use Rattle.fb_regions.specs.declared.roles.Role.TheVariants.{Plus, Minus, Out}
use Rattle.fb_regions.specs.InternalClock.{HasBegun, HaveBegun, all_at, moved_by, names_paced, now_at}
use Rattle.fb_regions.specs.InternalKept.{IsKept}
use Rattle.fb_regions.proofs.ByName.{names}
use Rattle.fb_regions.proofs.ClockReadings.{names_at}
use Rattle.fb_regions.proofs.Indexed.{distinct_names}

moved_none : (pace : Role) (value time : ℕ) → time ≡ 0 → moved_by pace value time ≡ value
moved_none Plus value time none = omega (arith, none)
moved_none Minus value time none = omega (arith, none)
moved_none Out value time none = refl

-- a region whose pace begins now has its kept values
pub now_settled : (clock : ℕ) (r : Region) → r.since ≡ clock → now_at clock r ≡ record r { since = 0 }
now_settled clock r begins =
    let none : clock - r.since ≡ 0 = omega (arith, begins) in
    rw (moved_none r.pace r.top_value (clock - r.since) none, moved_none r.pace r.radius (clock - r.since) none) refl

pub all_set : (clock : ℕ) (rs : List Region) (i : ℕ) (new : Region) → all_at clock (set rs i new) ≡ set (all_at clock rs) i (now_at clock new)
all_set clock [] i new = refl
all_set clock (r ∷ rs) zero new = refl
all_set clock (r ∷ rs) (suc i) new = ap (λ l. now_at clock r ∷ l) (all_set clock rs i new)

-- the nodes at the time where one is settled then
pub all_settled : (clock : ℕ) (rs : List Region) (i : ℕ) (new : Region) → new.since ≡ clock
    → all_at clock (set rs i new) ≡ set (all_at clock rs) i (record new { since = 0 })
all_settled clock rs i new begins = all_set clock rs i new ∙ ap (set (all_at clock rs) i) (now_settled clock new begins)

pub begun_settled : (clock : ℕ) (rs : List Region) (i : ℕ) (new : Region) → new.since ≡ clock → HaveBegun clock rs → HaveBegun clock (set rs i new)
begun_settled clock rs i new begins begun = All-set (HasBegun clock) rs i new (omega (arith, begins)) begun

pub paced_head : (test : Role → Bool) (r : Region) (rs : List Region)
    → names_paced test (r ∷ rs) ≡ (if test r.pace then r.name ∷ names_paced test rs else names_paced test rs)
paced_head test r rs = by (test r.pace)
  where
    by : (b : Bool) → map (λ s. s.name) (if b then r ∷ filter (λ s. test s.pace) rs else filter (λ s. test s.pace) rs)
        ≡ (if b then r.name ∷ names_paced test rs else names_paced test rs)
    by true = refl
    by false = refl

-- a change of a node that leaves its name and its pace leaves the names of those that move
pub paced_set : (test : Role → Bool) (rs : List Region) (i : ℕ) (old new : Region) → old ≡ get_or rs i old → new.name ≡ old.name → new.pace ≡ old.pace
    → names_paced test (set rs i new) ≡ names_paced test rs
paced_set test [] i old new at named paced = refl
paced_set test (x ∷ xs) zero old new at named paced =
    paced_head test new xs
    ∙ (ap (λ p. if test p then new.name ∷ names_paced test xs else names_paced test xs) (paced ∙ ap (λ y. y.pace) at)
    ∙ (ap (λ n. if test x.pace then n ∷ names_paced test xs else names_paced test xs) (named ∙ ap (λ y. y.name) at)
    ∙ sym (paced_head test x xs)))
paced_set test (x ∷ xs) (suc i) old new at named paced =
    paced_head test x (set xs i new)
    ∙ (ap (λ l. if test x.pace then x.name ∷ l else l) (paced_set test xs i old new at named paced) ∙ sym (paced_head test x xs))

-- the names are distinct
pub names_apart : (p : Problem) (clock : ℕ) (rs : List Region) (marks : List (Option Mark)) → IsKept p (all_at clock rs) marks → AreDistinct (names rs)
names_apart p clock rs marks kept =
    subst AreDistinct (names_at clock rs) (distinct_names p (all_at clock rs) marks kept)
