-- What the time leaves as it is of nodes: their names, which of them joins which, and their vertices.
use Rattle.std.proofs.Common.{ℕ, zero, suc, ◌≡◌, ◌+◌, ◌<◌, ◌==◌, Bool, true, false, List, [], ◌∷◌, ◌++◌, length, map, take, drop, get_or, Option, Some, None, refl, sym, ap, ◌∙◌, arith, if◌then◌else◌}
use Rattle.std.specs.List.{remove}
use Rattle.std.specs.Prelude.{option_map}
use Rattle.std.proofs.lemmas.List.{length-map}
use Rattle.fb_graph.specs.Parity.{is_in}
use Rattle.fb_graph.proofs.Among.{IsAmong, map_among}
use Rattle.fb_regions.specs.declared.region.Climb.{Climb}
use Rattle.fb_regions.specs.declared.region.Region.{Region}
use Rattle.fb_regions.specs.InternalClock.{all_at, now_at}
use Rattle.fb_regions.specs.InternalKept.{is_childless}
use Rattle.fb_regions.specs.InternalListings.{Linked, count_named, linked_all, listing_at, region_named, with_listing}
use Rattle.fb_regions.specs.InternalNodes.{children_from, radii_from, reparented_region, root_from}
use Rattle.fb_regions.specs.InternalPlaces.{AreJoinedAbove, IsIndex, IsJoinedIn}
use Rattle.fb_regions.proofs.ByName.{names, placed, placed_mapped}
use Rattle.fb_regions.proofs.Climbs.{climb_in}

pub names_at : (clock : ℕ) (rs : List Region) → names (all_at clock rs) ≡ names rs
names_at clock [] = refl
names_at clock (r ∷ rs) = ap (λ l. r.name ∷ l) (names_at clock rs)

pub length_at : (clock : ℕ) (rs : List Region) → length (all_at clock rs) ≡ length rs
length_at clock rs = length-map rs (now_at clock)

pub placed_at : (clock : ℕ) (rs : List Region) (k : ℕ) → placed k (all_at clock rs) ≡ placed k rs
placed_at clock rs k = placed_mapped (now_at clock) (λ r. refl) rs k

-- the node at a place
pub read_at_time : (clock : ℕ) (rs : List Region) (i : ℕ) (r : Region) → i < length rs → r ≡ get_or rs i r
    → now_at clock r ≡ get_or (all_at clock rs) i (now_at clock r)
read_at_time clock [] i r less e = absurd (omega arith)
read_at_time clock (x ∷ xs) zero r less e = ap (now_at clock) e
read_at_time clock (x ∷ xs) (suc i) r less e = read_at_time clock xs i r (omega arith) e

pub among_at_time : (clock : ℕ) (rs : List Region) (r : Region) → IsAmong r rs → IsAmong (now_at clock r) (all_at clock rs)
among_at_time clock rs r a = map_among (now_at clock) rs r a

pub root_at : (clock : ℕ) (rs : List Region) (name : ℕ) → root_from (all_at clock rs) name ≡ root_from rs name
root_at clock [] name = refl
root_at clock (r ∷ rs) name = by (r.name == name) r.parent (root_at clock rs)
  where
    by : (b : Bool) (o : Option ℕ) → ((k : ℕ) → root_from (all_at clock rs) k ≡ root_from rs k)
        → (if b then elim o as (λ z. Option ℕ) [ None ↦ Some name | Some q ↦ root_from (all_at clock rs) q ] else root_from (all_at clock rs) name)
        ≡ (if b then elim o as (λ z. Option ℕ) [ None ↦ Some name | Some q ↦ root_from rs q ] else root_from rs name)
    by true None rest = refl
    by true (Some q) rest = rest q
    by false o rest = rest name

-- where a climb ends, with the radii at the time
pub climb_at : (clock : ℕ) (rs : List Region) (leaf : ℕ)
    → option_map (λ (root : ℕ). record { root = root; radii = radii_from (all_at clock rs) leaf }) (root_from rs leaf) ≡ climb_in (all_at clock rs) leaf
climb_at clock rs leaf = ap (option_map (λ (root : ℕ). record { root = root; radii = radii_from (all_at clock rs) leaf })) (sym (root_at clock rs leaf))

-- read from a list behind a reference
pub climb_seen : (clock : ℕ) (rs seen : List Region) (leaf : ℕ) (o : Option Climb) → seen ≡ rs
    → o ≡ option_map (λ (root : ℕ). record { root = root; radii = radii_from (all_at clock seen) leaf }) (root_from seen leaf)
    → o ≡ climb_in (all_at clock rs) leaf
climb_seen clock rs seen leaf o e h = h ∙ (climb_at clock seen leaf ∙ ap (λ l. climb_in (all_at clock l) leaf) e)

pub children_at : (clock : ℕ) (rs : List Region) (name : ℕ) → children_from (all_at clock rs) name ≡ children_from rs name
children_at clock [] name = refl
children_at clock (r ∷ rs) name = ap (λ l. if r.name == name then r.children.items else l) (children_at clock rs name)

pub childless_at : (clock : ℕ) (rs : List Region) (name : ℕ) → is_childless (all_at clock rs) name ≡ is_childless rs name
childless_at clock [] name = refl
childless_at clock (r ∷ rs) name = rw (childless_at clock rs name) refl

-- the index
pub index_at : (clock : ℕ) (rs : List Region) (places : List (Option ℕ)) → IsIndex rs places → IsIndex (all_at clock rs) places
index_at clock rs places index = record { entry = λ k. index.entry k ∙ sym (placed_at clock rs k) }

pub index_from : (clock : ℕ) (rs : List Region) (places : List (Option ℕ)) → IsIndex (all_at clock rs) places → IsIndex rs places
index_from clock rs places index = record { entry = λ k. index.entry k ∙ placed_at clock rs k }

drop_at : (clock i : ℕ) (rs : List Region) → all_at clock (drop i rs) ≡ drop i (all_at clock rs)
drop_at clock zero rs = refl
drop_at clock (suc i) [] = refl
drop_at clock (suc i) (r ∷ rs) = drop_at clock i rs

-- each node before the one that joins it
joined_in_at : (clock : ℕ) (rs : List Region) (o : Option ℕ) → IsJoinedIn (all_at clock rs) o → IsJoinedIn rs o
joined_in_at clock rs None h = tt
joined_in_at clock rs (Some q) h = ap (λ l. is_in l q) (sym (names_at clock rs)) ∙ h

pub joined_from : (clock : ℕ) (rs : List Region) → AreJoinedAbove (all_at clock rs) → AreJoinedAbove rs
joined_from clock [] joined = tt
joined_from clock (r ∷ rs) joined = (
  joined_in_at clock rs r.parent joined.0,
  ap (λ l. is_in l r.name) (sym (names_at clock rs)) ∙ joined.1,
  joined_from clock rs joined.2,
)

joined_in_to : (clock : ℕ) (rs : List Region) (o : Option ℕ) → IsJoinedIn rs o → IsJoinedIn (all_at clock rs) o
joined_in_to clock rs None h = tt
joined_in_to clock rs (Some q) h = ap (λ l. is_in l q) (names_at clock rs) ∙ h

pub joined_at : (clock : ℕ) (rs : List Region) → AreJoinedAbove rs → AreJoinedAbove (all_at clock rs)
joined_at clock [] joined = tt
joined_at clock (r ∷ rs) joined = (
  joined_in_to clock rs r.parent joined.0,
  ap (λ l. is_in l r.name) (names_at clock rs) ∙ joined.1,
  joined_at clock rs joined.2,
)

-- the lists of named nodes
pub named_at_time : (clock : ℕ) (rs : List Region) (name : ℕ) → region_named (all_at clock rs) name ≡ option_map (now_at clock) (region_named rs name)
named_at_time clock [] name = refl
named_at_time clock (r ∷ rs) name = by (r.name == name) (named_at_time clock rs name)
  where
    by : (b : Bool) → region_named (all_at clock rs) name ≡ option_map (now_at clock) (region_named rs name)
        → (if b then Some (now_at clock r) else region_named (all_at clock rs) name) ≡ option_map (now_at clock) (if b then Some r else region_named rs name)
    by true rest = refl
    by false rest = rest

pub linked_at : (clock : ℕ) (rs : List Region) (cs : List ℕ) (s : Linked) → linked_all (all_at clock rs) cs s ≡ linked_all rs cs s
linked_at clock rs [] s = refl
linked_at clock rs (c ∷ cs) s =
    linked_at clock rs cs (elim (region_named (all_at clock rs) c) as (λ o. Linked) [ None ↦ s | Some r ↦ with_listing s (listing_at r) ])
    ∙ ap (linked_all rs cs)
    (ap (λ z. elim z as (λ o. Linked) [ None ↦ s | Some r ↦ with_listing s (listing_at r) ]) (named_at_time clock rs c) ∙ by (region_named rs c))
  where
    by : (o : Option Region) → elim (option_map (now_at clock) o) as (λ z. Linked) [ None ↦ s | Some r ↦ with_listing s (listing_at r) ]
        ≡ elim o as (λ z. Linked) [ None ↦ s | Some r ↦ with_listing s (listing_at r) ]
    by None = refl
    by (Some r) = refl

pub count_at : (clock : ℕ) (rs : List Region) (cs : List ℕ) → count_named (all_at clock rs) cs ≡ count_named rs cs
count_at clock rs [] = refl
count_at clock rs (c ∷ cs) =
    let own : elim (region_named (all_at clock rs) c) as (λ o. ℕ) [ None ↦ 0 | Some r ↦ r.base + r.added ]
    ≡ elim (region_named rs c) as (λ o. ℕ) [ None ↦ 0 | Some r ↦ r.base + r.added ] =
    ap (λ z. elim z as (λ o. ℕ) [ None ↦ 0 | Some r ↦ r.base + r.added ]) (named_at_time clock rs c) ∙ by (region_named rs c) in
    omega (arith, own, count_at clock rs cs)
  where
    by : (o : Option Region) → elim (option_map (now_at clock) o) as (λ z. ℕ) [ None ↦ 0 | Some r ↦ r.base + r.added ]
        ≡ elim o as (λ z. ℕ) [ None ↦ 0 | Some r ↦ r.base + r.added ]
    by None = refl
    by (Some r) = refl

-- changes of all nodes, and parts of their list
pub reparented_at : (clock : ℕ) (children : List ℕ) (o : Option ℕ) (rs : List Region)
    → all_at clock (map (reparented_region children o) rs) ≡ map (reparented_region children o) (all_at clock rs)
reparented_at clock children o [] = refl
reparented_at clock children o (r ∷ rs) = by (is_in children r.name) (reparented_at clock children o rs)
  where
    by : (b : Bool) → all_at clock (map (reparented_region children o) rs) ≡ map (reparented_region children o) (all_at clock rs)
        → now_at clock (if b then record r { parent = o } else r) ∷ all_at clock (map (reparented_region children o) rs)
        ≡ (if b then record (now_at clock r) { parent = o } else now_at clock r) ∷ map (reparented_region children o) (all_at clock rs)
    by true rest = ap (λ l. now_at clock (record r { parent = o }) ∷ l) rest
    by false rest = ap (λ l. now_at clock r ∷ l) rest

pub appended_at : (clock : ℕ) (rs ss : List Region) → all_at clock (rs ++ ss) ≡ all_at clock rs ++ all_at clock ss
appended_at clock [] ss = refl
appended_at clock (r ∷ rs) ss = ap (λ l. now_at clock r ∷ l) (appended_at clock rs ss)

pub removed_at : (clock i : ℕ) (rs : List Region) → all_at clock (remove rs i) ≡ remove (all_at clock rs) i
removed_at clock i rs =
    appended_at clock (take i rs) (drop (suc i) rs) ∙ rw (taken i rs, drop_at clock (suc i) rs) refl
  where
    taken : (n : ℕ) (xs : List Region) → all_at clock (take n xs) ≡ take n (all_at clock xs)
    taken zero xs = refl
    taken (suc n) [] = refl
    taken (suc n) (x ∷ xs) = ap (λ l. now_at clock x ∷ l) (taken n xs)
