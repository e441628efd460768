-- Nodes that are joined, or split off, as a list.
use Rattle.std.proofs.Common.{ℕ, ◌≡◌, Bool, true, false, List, [], ◌∷◌, ◌++◌, length, map, take, drop, Option, Some, option_map, refl, sym, ap, ◌∙◌, subst, if◌then◌else◌}
use Rattle.std.specs.List.{All}
use Rattle.std.specs.Prelude.{IsSome}
use Rattle.std.proofs.lemmas.List.{length-map, map-append}
use Rattle.std.proofs.lemmas.List.Elements.{All-map, All-weaker}
use Rattle.fb_graph.specs.Parity.{is_in}
use Rattle.fb_graph.specs.Certificate.{AreDistinct}
use Rattle.fb_graph.specs.Dual.{is_live}
use Rattle.fb_graph.specs.Problem.{Problem}
use Rattle.fb_regions.specs.declared.heads.Joint.{Joint}
use Rattle.fb_regions.specs.declared.marks.Mark.{Mark}
use Rattle.fb_regions.specs.declared.region.Region.{Region}
use Rattle.fb_regions.specs.InternalClock.{HasBegun, HaveBegun, all_at, now_at}
use Rattle.fb_regions.specs.InternalHeads.{IsInTime, link_under, rejoined_regions, relinked_all, relinked_region}
use Rattle.fb_regions.specs.InternalKept.{IsKept}
use Rattle.fb_regions.specs.InternalListings.{region_named}
use Rattle.fb_regions.specs.InternalNodes.{nodes_of, reparented_region}
use Rattle.fb_graph.proofs.Among.{All_among, among_All}
use Rattle.fb_graph.proofs.Members.{AreDistinct_push}
use Rattle.fb_regions.proofs.ByName.{names}
use Rattle.fb_regions.proofs.ClockFound.{fits_at}
use Rattle.fb_regions.proofs.ClockReadings.{named_at_time}
use Rattle.fb_regions.proofs.HeadClimbs.{some_mapped}
use Rattle.fb_regions.proofs.Linked.{live_named}
use Rattle.fb_regions.proofs.Relinked.{relinked_keeps}

pub adopted_in_time : (clock : ℕ) (names : List ℕ) (o : Option ℕ) (rs : List Region) → All (IsInTime clock) rs
    → All (IsInTime clock) (map (reparented_region names o) rs)
adopted_in_time clock names o rs h =
    All-map (IsInTime clock) (reparented_region names o) rs
    (All-weaker (IsInTime clock) (λ r. IsInTime clock (reparented_region names o r)) (λ r. by r (is_in names r.name)) rs h)
  where
    by : (r : Region) (b : Bool) → IsInTime clock r → IsInTime clock (if b then record r { parent = o } else r)
    by r true is = record { begun = is.begun; fits = is.fits }
    by r false is = is

length-rejoined : (clock : ℕ) (j : Option Joint) (cs : List ℕ) (rs : List Region) → length (rejoined_regions clock j cs rs) ≡ length rs
length-rejoined clock j cs rs =
    relinked_keeps (λ l. length l ≡ length rs) (λ leaf link xs h. length-map xs (relinked_region leaf link) ∙ h) (link_under clock j) cs
    (map (reparented_region cs (option_map (λ k. k.name) j)) rs) (length-map rs (reparented_region cs (option_map (λ k. k.name) j)))

-- what a change of all elements through a borrow of a list leaves in it
pub rejoined_back : (clock : ℕ) (j : Option Joint) (cs : List ℕ) (rs : List Region) (n : ℕ) → n ≡ length rs
    → take n (rejoined_regions clock j cs rs ++ drop (length (rejoined_regions clock j cs rs)) rs) ≡ rejoined_regions clock j cs rs
rejoined_back clock j cs rs n e =
    ap (λ k. take k (rejoined_regions clock j cs rs ++ drop (length (rejoined_regions clock j cs rs)) rs)) (e ∙ sym (length-rejoined clock j cs rs))
    ∙ by (rejoined_regions clock j cs rs) (drop (length (rejoined_regions clock j cs rs)) rs)
  where
    by : (ys zs : List Region) → take (length ys) (ys ++ zs) ≡ ys
    by [] zs = refl
    by (y ∷ ys) zs = ap (λ l. y ∷ l) (by ys zs)

-- all nodes of a dual state
pub all_in_time : (p : Problem) (clock : ℕ) (rs : List Region) (marks : List (Option Mark)) → IsKept p (all_at clock rs) marks → HaveBegun clock rs
    → All (IsInTime clock) rs
all_in_time p clock rs marks kept begun =
    among_All (IsInTime clock) rs
    (λ r a. record { begun = All_among (HasBegun clock) rs begun r a; fits = (fits_at p clock rs marks kept r a).radius })

not_adopted : (cs : List ℕ) (o : Option ℕ) (r : Region) → is_in cs r.name ≡ false → reparented_region cs o r ≡ r
not_adopted cs o r out = ap (λ b. if b then record r { parent = o } else r) out

-- a list whose last node joins others
pub joined_back : (clock : ℕ) (j : Joint) (cs : List ℕ) (rs : List Region) (new : Region) (items : List Region) (n name : ℕ) → items ≡ rs ++ new ∷ []
    → n ≡ length items → j.name ≡ name → is_in cs new.name ≡ false
    → take n (rejoined_regions clock (Some j) cs items ++ drop (length (rejoined_regions clock (Some j) cs items)) items)
    ≡ relinked_all (link_under clock (Some j)) cs (map (reparented_region cs (Some name)) rs ++ new ∷ [])
joined_back clock j cs rs new items n name are count named out =
    rejoined_back clock (Some j) cs items n count
    ∙ ap (relinked_all (link_under clock (Some j)) cs)
    (ap (λ l. map (reparented_region cs (Some j.name)) l) are
    ∙ (ap (λ m. map (reparented_region cs (Some m)) (rs ++ new ∷ [])) named
    ∙ (map-append (reparented_region cs (Some name)) rs (new ∷ [])
    ∙ ap (λ r. map (reparented_region cs (Some name)) rs ++ r ∷ []) (not_adopted cs (Some name) new out))))

pub distinct_pushed : (rs : List Region) (new : Region) → AreDistinct (names rs) → is_in (names rs) new.name ≡ false → AreDistinct (names (rs ++ new ∷ []))
distinct_pushed rs new distinct out =
    subst AreDistinct (sym (map-append (λ r. r.name) rs (new ∷ []))) (AreDistinct_push (names rs) new.name distinct out)

-- nodes that are live are known by their names
pub all_known : (marks : List (Option Mark)) (clock : ℕ) (rs : List Region) (cs : List ℕ) → All (λ c. is_live (nodes_of marks (all_at clock rs)) c ≡ true) cs
    → All (λ c. IsSome (region_named rs c)) cs
all_known marks clock rs cs live =
    All-weaker (λ c. is_live (nodes_of marks (all_at clock rs)) c ≡ true) (λ c. IsSome (region_named rs c))
    (λ c h.
    let n = live_named marks (all_at clock rs) c h in
    some_mapped (now_at clock) (region_named rs c) n.region (sym (named_at_time clock rs c) ∙ n.is)) cs live
