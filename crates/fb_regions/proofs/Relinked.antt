-- Nodes of which some have other links.
use Rattle.std.proofs.Common.{ℕ, ◌≡◌, ◌+◌, ◌<◌, ◌==◌, Bool, true, false, List, [], ◌∷◌, length, map, set, drop, get_or, Option, Some, None, refl, sym, ap, ◌∙◌, subst, if◌then◌else◌}
use Rattle.std.specs.List.{All}
use Rattle.std.proofs.lemmas.Bool.{eqb-true}
use Rattle.std.proofs.lemmas.List.{drop_more}
use Rattle.std.proofs.lemmas.List.Elements.{All-map, All-weaker}
use Rattle.fb_graph.specs.Parity.{is_in}
use Rattle.fb_graph.specs.Certificate.{AreDistinct}
use Rattle.fb_regions.specs.declared.heads.Link.{Link}
use Rattle.fb_regions.specs.declared.region.Region.{Region}
use Rattle.fb_regions.specs.InternalHeads.{IsInTime, relinked_all, relinked_one, relinked_region}
use Rattle.fb_regions.specs.InternalListings.{region_named}
use Rattle.fb_regions.specs.InternalPlaces.{IsIndex}
use Rattle.fb_regions.proofs.ByName.{names, not_placed, placed, placed_here, placed_mapped, placed_past}
use Rattle.fb_regions.proofs.Climbs.{next, no_next}

pub relinked_name : (leaf : ℕ) (link : Link) (r : Region) → (relinked_region leaf link r).name ≡ r.name
relinked_name leaf link r = by (r.name == leaf)
  where
    by : (b : Bool) → (if b then record r { link = link } else r).name ≡ r.name
    by true = refl
    by false = refl

-- no node of the name
pub relinked_none : (rs : List Region) (leaf : ℕ) (link : Link) → placed leaf rs ≡ None → map (relinked_region leaf link) rs ≡ rs
relinked_none [] leaf link out = refl
relinked_none (r ∷ rs) leaf link out = by (r.name == leaf) refl (relinked_none rs leaf link)
  where
    by : (b : Bool) → (r.name == leaf) ≡ b → (placed leaf rs ≡ None → map (relinked_region leaf link) rs ≡ rs)
        → (if b then record r { link = link } else r) ∷ map (relinked_region leaf link) rs ≡ r ∷ rs
    by true e rest = absurd (let clash : Some 0 ≡ None = sym (placed_here r rs leaf e) ∙ out in cc)
    by false e rest = ap (λ l. r ∷ l) (rest (no_next (placed leaf rs) (sym (placed_past r rs leaf e) ∙ out)))

-- the node of the name
pub relinked_at : (rs : List Region) (leaf : ℕ) (link : Link) (i : ℕ) (r : Region) → AreDistinct (names rs) → placed leaf rs ≡ Some i → r ≡ get_or rs i r
    → set rs i (record r { link = link }) ≡ map (relinked_region leaf link) rs
relinked_at [] leaf link i r distinct at is = absurd (let clash : None ≡ Some i = at in cc)
relinked_at (x ∷ xs) leaf link i r distinct at is = by (x.name == leaf) refl (λ j. relinked_at xs leaf link j r distinct.1)
  where
    by : (b : Bool) → (x.name == leaf) ≡ b
        → ((j : ℕ) → placed leaf xs ≡ Some j → r ≡ get_or xs j r → set xs j (record r { link = link }) ≡ map (relinked_region leaf link) xs)
        → set (x ∷ xs) i (record r { link = link }) ≡ (if b then record x { link = link } else x) ∷ map (relinked_region leaf link) xs
    by true e rest =
        let zeros : Some 0 ≡ Some i = sym (placed_here x xs leaf e) ∙ at in
        let none : i ≡ 0 = cc in
        ap (λ j. set (x ∷ xs) j (record r { link = link })) none
        ∙ (ap (λ y. y ∷ xs) (ap {A = Region} {B = Region} (λ y. record y { link = link }) (is ∙ ap (λ j. get_or (x ∷ xs) j r) none))
        ∙ ap (λ l. record x { link = link } ∷ l)
        (sym (relinked_none xs leaf link (not_placed xs leaf (ap (is_in (names xs)) (sym (eqb-true x.name leaf e)) ∙ distinct.0)))))
    by false e rest =
        let n = next (placed leaf xs) i (sym (placed_past x xs leaf e) ∙ at) in
        ap (λ j. set (x ∷ xs) j (record r { link = link })) n.is
        ∙ ap (λ l. x ∷ l) (rest n.before n.at (is ∙ ap (λ j. get_or (x ∷ xs) j r) n.is))

-- what no single change of a link breaks
pub relinked_keeps : (P : List Region → Type 0) → ((leaf : ℕ) (link : Link) (xs : List Region) → P xs → P (map (relinked_region leaf link) xs))
    → (link : Region → Link) (cs : List ℕ) (rs : List Region) → P rs → P (relinked_all link cs rs)
relinked_keeps P each link [] rs h = h
relinked_keeps P each link (c ∷ cs) rs h = relinked_keeps P each link cs (relinked_one link rs (region_named rs c)) (by (region_named rs c))
  where
    by : (o : Option Region) → P (relinked_one link rs o)
    by None = h
    by (Some r) = each r.head (link r) rs h

-- the next one of the names
pub relinked_next : (link : Region → Link) (cs : List ℕ) (i : ℕ) (rs : List Region) (o : Option Region) → i < length cs
    → region_named rs (get_or cs i 0) ≡ o → relinked_all link (drop i cs) rs ≡ relinked_all link (drop (i + 1) cs) (relinked_one link rs o)
relinked_next link cs i rs o less is =
    ap (λ l. relinked_all link l rs) (drop_more cs i 0 less) ∙ ap (λ p. relinked_all link (drop (i + 1) cs) (relinked_one link rs p)) is

-- what a change of a link leaves as it is
pub relinked_index : (places : List (Option ℕ)) (leaf : ℕ) (link : Link) (xs : List Region) → IsIndex xs places → IsIndex (map (relinked_region leaf link) xs) places
relinked_index places leaf link xs index = record { entry = λ k. index.entry k ∙ sym (placed_mapped (relinked_region leaf link) (relinked_name leaf link) xs k) }

pub relinked_names : (leaf : ℕ) (link : Link) (xs : List Region) → names (map (relinked_region leaf link) xs) ≡ names xs
relinked_names leaf link [] = refl
relinked_names leaf link (x ∷ xs) =
    ap (λ n. n ∷ names (map (relinked_region leaf link) xs)) (relinked_name leaf link x) ∙ ap (λ l. x.name ∷ l) (relinked_names leaf link xs)

pub relinked_distinct : (leaf : ℕ) (link : Link) (xs : List Region) → AreDistinct (names xs) → AreDistinct (names (map (relinked_region leaf link) xs))
relinked_distinct leaf link xs distinct = subst AreDistinct (sym (relinked_names leaf link xs)) distinct

pub relinked_in_time : (clock leaf : ℕ) (link : Link) (xs : List Region) → All (IsInTime clock) xs → All (IsInTime clock) (map (relinked_region leaf link) xs)
relinked_in_time clock leaf link xs h =
    All-map (IsInTime clock) (relinked_region leaf link) xs
    (All-weaker (IsInTime clock) (λ r. IsInTime clock (relinked_region leaf link r)) (λ r. by r (r.name == leaf)) xs h)
  where
    by : (r : Region) (b : Bool) → IsInTime clock r → IsInTime clock (if b then record r { link = link } else r)
    by r true is = record { begun = is.begun; fits = is.fits }
    by r false is = is
