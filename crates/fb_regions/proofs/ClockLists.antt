-- Nodes that come, go or are joined at a time of the clock.
use Rattle.std.proofs.Common.{ℕ, zero, suc, ◌≡◌, ◌-◌, ◌<◌, Bool, true, false, List, [], ◌∷◌, ◌++◌, length, map, filter, get_or, Option, refl, sym, ap, ◌∙◌, subst, arith, append-nil, if◌then◌else◌}
use Rattle.std.specs.List.{remove}
use Rattle.std.proofs.lemmas.List.{map-append}
use Rattle.std.proofs.lemmas.List.Elements.{All-append, All-map, All-push, All-weaker, filter-append}
use Rattle.fb_graph.specs.Parity.{is_in}
use Rattle.fb_graph.specs.Problem.{Problem}
use Rattle.fb_graph.specs.Dual.{Node}
use Rattle.fb_graph.proofs.Among.{All_among, among_All}
use Rattle.fb_regions.specs.declared.marks.Mark.{Mark}
use Rattle.fb_regions.specs.declared.region.Region.{Region}
use Rattle.fb_regions.specs.declared.roles.Role.{Role}
use Rattle.fb_regions.specs.declared.roles.Role.TheVariants.{Plus, Minus, Out}
use Rattle.fb_regions.specs.InternalClock.{HasBegun, HaveBegun, all_at, moved_by, names_paced, now_at}
use Rattle.fb_regions.specs.InternalKept.{IsKept}
use Rattle.fb_regions.specs.InternalMerged.{renamed_region, renamed_regions}
use Rattle.fb_regions.specs.InternalNodes.{reparented_region}
use Rattle.fb_regions.specs.Paces.{Paced, grows, shrinks}
use Rattle.fb_regions.proofs.ClockMoves.{paced_head}
use Rattle.fb_regions.proofs.ClockReadings.{appended_at, removed_at, reparented_at}
use Rattle.fb_regions.proofs.Split.{still_among}

-- the names of those of a list that move
pub paced_append : (test : Role → Bool) (rs ss : List Region) → names_paced test (rs ++ ss) ≡ names_paced test rs ++ names_paced test ss
paced_append test rs ss =
    ap (map (λ r. r.name)) (filter-append (λ r. test r.pace) rs ss)
    ∙ map-append (λ r. r.name) (filter (λ r. test r.pace) rs) (filter (λ r. test r.pace) ss)

paced_still : (test : Role → Bool) (r : Region) (rs : List Region) → test r.pace ≡ false → names_paced test (r ∷ rs) ≡ names_paced test rs
paced_still test r rs still = paced_head test r rs ∙ ap (λ b. if b then r.name ∷ names_paced test rs else names_paced test rs) still

-- a node that doesn't move comes
pub paced_push : (test : Role → Bool) (rs : List Region) (new : Region) → test new.pace ≡ false → names_paced test (rs ++ new ∷ []) ≡ names_paced test rs
paced_push test rs new still = paced_append test rs (new ∷ []) ∙ (ap (λ l. names_paced test rs ++ l) (paced_still test new [] still) ∙ append-nil (names_paced test rs))

pub begun_push : (clock : ℕ) (rs : List Region) (new : Region) → new.since ≡ 0 → HaveBegun clock rs → HaveBegun clock (rs ++ new ∷ [])
begun_push clock rs new since begun = All-push (HasBegun clock) rs new begun (omega (arith, since))

pub kept_push : (p : Problem) (clock : ℕ) (rs : List Region) (new : Region) (marks : List (Option Mark))
    → IsKept p (all_at clock rs ++ now_at clock new ∷ []) marks → IsKept p (all_at clock (rs ++ new ∷ [])) marks
kept_push p clock rs new marks kept = subst (λ l. IsKept p l marks) (sym (appended_at clock rs (new ∷ []))) kept

-- other nodes round some of them
pub paced_adopted : (test : Role → Bool) (children : List ℕ) (o : Option ℕ) (rs : List Region)
    → names_paced test (map (reparented_region children o) rs) ≡ names_paced test rs
paced_adopted test children o [] = refl
paced_adopted test children o (r ∷ rs) =
    paced_head test (reparented_region children o r) (map (reparented_region children o) rs)
    ∙ (by (is_in children r.name) (paced_adopted test children o rs) ∙ sym (paced_head test r rs))
  where
    by : (b : Bool) → names_paced test (map (reparented_region children o) rs) ≡ names_paced test rs
        → (if test (if b then record r { parent = o } else r).pace
        then (if b then record r { parent = o } else r).name ∷ names_paced test (map (reparented_region children o) rs)
        else names_paced test (map (reparented_region children o) rs))
        ≡ (if test r.pace then r.name ∷ names_paced test rs else names_paced test rs)
    by true rest = ap (λ l. if test r.pace then r.name ∷ l else l) rest
    by false rest = ap (λ l. if test r.pace then r.name ∷ l else l) rest

pub begun_adopted : (clock : ℕ) (children : List ℕ) (o : Option ℕ) (rs : List Region) → HaveBegun clock rs
    → HaveBegun clock (map (reparented_region children o) rs)
begun_adopted clock children o rs begun =
    All-map (HasBegun clock) (reparented_region children o) rs
    (All-weaker (HasBegun clock) (λ r. HasBegun clock (reparented_region children o r)) (λ r. by r (is_in children r.name)) rs begun)
  where
    by : (r : Region) (b : Bool) → HasBegun clock r → HasBegun clock (if b then record r { parent = o } else r)
    by r true h = h
    by r false h = h

-- a node that doesn't move goes
pub paced_removed : (test : Role → Bool) (rs : List Region) (i : ℕ) (old : Region) → old ≡ get_or rs i old → i < length rs → test old.pace ≡ false
    → names_paced test (remove rs i) ≡ names_paced test rs
paced_removed test [] i old at less still = absurd (omega arith)
paced_removed test (r ∷ rs) zero old at less still = sym (paced_still test r rs (ap (λ y. test y.pace) (sym at) ∙ still))
paced_removed test (r ∷ rs) (suc i) old at less still =
    paced_head test r (remove rs i)
    ∙ (ap (λ l. if test r.pace then r.name ∷ l else l) (paced_removed test rs i old at (omega arith) still) ∙ sym (paced_head test r rs))

pub begun_removed : (clock : ℕ) (rs : List Region) (i : ℕ) → HaveBegun clock rs → HaveBegun clock (remove rs i)
begun_removed clock rs i begun =
    among_All (HasBegun clock) (remove rs i) (λ r a. All_among (HasBegun clock) rs begun r (still_among rs i r a))

-- a dual state whose parts are others
pub paced_same : {S : Type 0} (scope : S) (a b : List Node) (plus plus' minus minus' : List ℕ) → a ≡ b → plus ≡ plus' → minus ≡ minus'
    → ◌≡◌ {A = Paced S} (record { scope = scope; nodes = a; plus = plus; minus = minus }) (record { scope = scope; nodes = b; plus = plus'; minus = minus' })
paced_same scope a b plus plus' minus minus' e f g =
    ap (λ l. record { scope = scope; nodes = l; plus = plus; minus = minus }) e
    ∙ (ap (λ l. record { scope = scope; nodes = b; plus = l; minus = minus }) f
    ∙ ap (λ l. record { scope = scope; nodes = b; plus = plus'; minus = l }) g)

-- nodes that are joined
pub kept_adopted : (p : Problem) (clock : ℕ) (rs : List Region) (children : List ℕ) (o : Option ℕ) (new : Region) (marks : List (Option Mark))
    → IsKept p (map (reparented_region children o) (all_at clock rs) ++ now_at clock new ∷ []) marks
    → IsKept p (all_at clock (map (reparented_region children o) rs ++ new ∷ [])) marks
kept_adopted p clock rs children o new marks kept =
    kept_push p clock (map (reparented_region children o) rs) new marks
    (subst (λ l. IsKept p (l ++ now_at clock new ∷ []) marks) (sym (reparented_at clock children o rs)) kept)

pub all_adopted : (clock : ℕ) (rs : List Region) (children : List ℕ) (o : Option ℕ) (new : Region)
    → all_at clock (map (reparented_region children o) rs ++ new ∷ []) ≡ map (reparented_region children o) (all_at clock rs) ++ now_at clock new ∷ []
all_adopted clock rs children o new =
    appended_at clock (map (reparented_region children o) rs) (new ∷ [])
    ∙ ap (λ l. l ++ now_at clock new ∷ []) (reparented_at clock children o rs)

pub paced_joined : (test : Role → Bool) (rs : List Region) (children : List ℕ) (o : Option ℕ) (new : Region) → test new.pace ≡ false
    → names_paced test (map (reparented_region children o) rs ++ new ∷ []) ≡ names_paced test rs
paced_joined test rs children o new still = paced_push test (map (reparented_region children o) rs) new still ∙ paced_adopted test children o rs

-- a node that is split
pub all_split : (clock : ℕ) (rs : List Region) (i : ℕ) (children : List ℕ) (o : Option ℕ)
    → all_at clock (map (reparented_region children o) (remove rs i)) ≡ map (reparented_region children o) (remove (all_at clock rs) i)
all_split clock rs i children o = reparented_at clock children o (remove rs i) ∙ ap (map (reparented_region children o)) (removed_at clock i rs)

pub paced_split : (test : Role → Bool) (rs : List Region) (i : ℕ) (children : List ℕ) (o : Option ℕ) (old : Region) → old ≡ get_or rs i old
    → i < length rs → test old.pace ≡ false → names_paced test (map (reparented_region children o) (remove rs i)) ≡ names_paced test rs
paced_split test rs i children o old at less still = paced_adopted test children o (remove rs i) ∙ paced_removed test rs i old at less still

-- nodes that don't move, under other names
rest_head : (r : Region) (rs : List Region) → names_paced grows (r ∷ rs) ≡ [] → names_paced shrinks (r ∷ rs) ≡ []
    → (r.pace ≡ Out) × (names_paced grows rs ≡ []) × (names_paced shrinks rs ≡ [])
rest_head r rs plus minus = by r.pace refl
  where
    by : (p : Role) → r.pace ≡ p → (r.pace ≡ Out) × (names_paced grows rs ≡ []) × (names_paced shrinks rs ≡ [])
    by Plus e =
        let clash : r.name ∷ names_paced grows rs ≡ [] =
        sym (paced_head grows r rs ∙ ap (λ q. if grows q then r.name ∷ names_paced grows rs else names_paced grows rs) e) ∙ plus in
        absurd (cc)
    by Minus e =
        let clash : r.name ∷ names_paced shrinks rs ≡ [] =
        sym (paced_head shrinks r rs ∙ ap (λ q. if shrinks q then r.name ∷ names_paced shrinks rs else names_paced shrinks rs) e) ∙ minus in
        absurd (cc)
    by Out e = (e, sym (paced_still grows r rs (ap grows e)) ∙ plus, sym (paced_still shrinks r rs (ap shrinks e)) ∙ minus)

moved_rest : (pace : Role) (value time : ℕ) → pace ≡ Out → moved_by pace value time ≡ value
moved_rest pace value time e = ap (λ p. moved_by p value time) e

now_rest : (clock : ℕ) (r : Region) → r.pace ≡ Out → now_at clock r ≡ record r { since = 0 }
now_rest clock r e =
    ap (λ t. record r { top_value = t; radius = moved_by r.pace r.radius (clock - r.since); since = 0 }) (moved_rest r.pace r.top_value (clock - r.since) e)
    ∙ ap (λ t. record r { radius = t; since = 0 }) (moved_rest r.pace r.radius (clock - r.since) e)

renamed_at : (clock other : ℕ) (f : ℕ → ℕ) (rs : List Region) → names_paced grows rs ≡ [] → names_paced shrinks rs ≡ []
    → all_at clock (renamed_regions f rs) ≡ renamed_regions f (all_at other rs)
renamed_at clock other f [] plus minus = refl
renamed_at clock other f (r ∷ rs) plus minus =
    let rest = rest_head r rs plus minus in
    ap (λ l. now_at clock (renamed_region f r) ∷ l) (renamed_at clock other f rs rest.1 rest.2)
    ∙ (ap (λ s. s ∷ renamed_regions f (all_at other rs)) (now_rest clock (renamed_region f r) rest.0)
    ∙ sym (ap (λ s. renamed_region f s ∷ renamed_regions f (all_at other rs)) (now_rest other r rest.0)))

paced_renamed : (test : Role → Bool) → test Out ≡ false → (f : ℕ → ℕ) (rs : List Region) → names_paced grows rs ≡ [] → names_paced shrinks rs ≡ []
    → names_paced test (renamed_regions f rs) ≡ []
paced_renamed test still f [] plus minus = refl
paced_renamed test still f (r ∷ rs) plus minus =
    let rest = rest_head r rs plus minus in
    paced_still test (renamed_region f r) (renamed_regions f rs) (ap test rest.0 ∙ still) ∙ paced_renamed test still f rs rest.1 rest.2

-- two lists of nodes as one
pub all_both : (clock other : ℕ) (f : ℕ → ℕ) (rs ss : List Region) → names_paced grows ss ≡ [] → names_paced shrinks ss ≡ []
    → all_at clock (rs ++ renamed_regions f ss) ≡ all_at clock rs ++ renamed_regions f (all_at other ss)
all_both clock other f rs ss plus minus =
    appended_at clock rs (renamed_regions f ss) ∙ ap (λ l. all_at clock rs ++ l) (renamed_at clock other f ss plus minus)

pub kept_both_at : (p : Problem) (clock other : ℕ) (f : ℕ → ℕ) (rs ss : List Region) (marks : List (Option Mark)) → names_paced grows ss ≡ []
    → names_paced shrinks ss ≡ [] → IsKept p (all_at clock rs ++ renamed_regions f (all_at other ss)) marks
    → IsKept p (all_at clock (rs ++ renamed_regions f ss)) marks
kept_both_at p clock other f rs ss marks plus minus kept = subst (λ l. IsKept p l marks) (sym (all_both clock other f rs ss plus minus)) kept

pub paced_both : (test : Role → Bool) → test Out ≡ false → (f : ℕ → ℕ) (rs ss : List Region) → names_paced grows ss ≡ [] → names_paced shrinks ss ≡ []
    → names_paced test (rs ++ renamed_regions f ss) ≡ names_paced test rs
paced_both test still f rs ss plus minus =
    paced_append test rs (renamed_regions f ss)
    ∙ (ap (λ l. names_paced test rs ++ l) (paced_renamed test still f ss plus minus) ∙ append-nil (names_paced test rs))

pub begun_both : (clock : ℕ) (f : ℕ → ℕ) (rs ss : List Region) → HaveBegun clock rs → HaveBegun clock (rs ++ renamed_regions f ss)
begun_both clock f rs ss begun =
    All-append (HasBegun clock) rs (renamed_regions f ss) begun
    (All-map (HasBegun clock) (renamed_region f) ss (among_All (λ r. HasBegun clock (renamed_region f r)) ss (λ r a. omega arith)))
