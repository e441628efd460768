-- Lists of named nodes that are linked one after another.
use Rattle.std.proofs.Common.{ℕ, ◌≡◌, ◌+◌, ◌<◌, ◌==◌, Bool, true, false, List, [], ◌∷◌, length, drop, get_or, Some, None, refl, sym, ap, ◌∙◌, arith, if◌then◌else◌}
use Rattle.std.proofs.lemmas.List.{drop_more}
use Rattle.fb_regions.specs.declared.listing.Listing.{Listing}
use Rattle.fb_regions.specs.declared.region.Region.{Region}
use Rattle.fb_regions.specs.InternalListings.{Linked, count_named, with_listing, linked_all, listing_at, put_behind, region_named}
use Rattle.fb_regions.proofs.Climbs.{next, no_next}
use Rattle.fb_regions.proofs.ByName.{placed, placed_here, placed_past}

pub named_at : (rs : List Region) (name i : ℕ) (r : Region) → placed name rs ≡ Some i → r ≡ get_or rs i r → region_named rs name ≡ Some r
named_at [] name i r at is = absurd (let clash : None ≡ Some i = at in cc)
named_at (x ∷ xs) name i r at is = by (x.name == name) refl (λ j. named_at xs name j r)
  where
    by : (b : Bool) → (x.name == name) ≡ b → ((j : ℕ) → placed name xs ≡ Some j → r ≡ get_or xs j r → region_named xs name ≡ Some r)
        → region_named (x ∷ xs) name ≡ Some r
    by true e rest =
        let zeros : Some 0 ≡ Some i = sym (placed_here x xs name e) ∙ at in
        let none : i ≡ 0 = cc in
        ap (λ b. if b then Some x else region_named xs name) e ∙ ap Some (sym (is ∙ ap (λ j. get_or (x ∷ xs) j r) none))
    by false e rest =
        let n = next (placed name xs) i (sym (placed_past x xs name e) ∙ at) in
        ap (λ b. if b then Some x else region_named xs name) e ∙ rest n.before n.at (is ∙ ap (λ j. get_or (x ∷ xs) j r) n.is)

pub named_none : (rs : List Region) (name : ℕ) → placed name rs ≡ None → region_named rs name ≡ None
named_none [] name out = refl
named_none (x ∷ xs) name out = by (x.name == name) refl (named_none xs name)
  where
    by : (b : Bool) → (x.name == name) ≡ b → (placed name xs ≡ None → region_named xs name ≡ None) → region_named (x ∷ xs) name ≡ None
    by true e rest = absurd (let clash : Some 0 ≡ None = sym (placed_here x xs name e) ∙ out in cc)
    by false e rest =
        ap (λ b. if b then Some x else region_named xs name) e ∙ rest (no_next (placed name xs) (sym (placed_past x xs name e) ∙ out))

-- the first list, and one behind another
pub linked_first : (s : Linked) (next : Listing) → (s.listing.count == 0) ≡ true → with_listing s next ≡ record { marks = s.marks; listing = next }
linked_first s next e = ap (λ b. if b then record { marks = s.marks; listing = next } else more) e
  where
    more : Linked
    more = record {
      marks = put_behind s.marks next.first s.listing.last;
      listing = record { first = s.listing.first; count = s.listing.count + next.count; last = next.last };
    }

pub linked_more : (s : Linked) (next : Listing) → (s.listing.count == 0) ≡ false
    → with_listing s next ≡ record {
      marks = put_behind s.marks next.first s.listing.last;
      listing = record { first = s.listing.first; count = s.listing.count + next.count; last = next.last };
    }
linked_more s next e =
    ap (λ b. if b then first else record {
      marks = put_behind s.marks next.first s.listing.last;
      listing = record { first = s.listing.first; count = s.listing.count + next.count; last = next.last };
    })
    e
  where
    first : Linked
    first = record { marks = s.marks; listing = next }

-- the next one of the names
pub linked_next : (rs : List Region) (names : List ℕ) (i : ℕ) (s : Linked) (r : Region) → i < length names
    → region_named rs (get_or names i 0) ≡ Some r → linked_all rs (drop i names) s ≡ linked_all rs (drop (i + 1) names) (with_listing s (listing_at r))
linked_next rs names i s r less is =
    ap (λ l. linked_all rs l s) (drop_more names i 0 less)
    ∙ ap (λ o. linked_all rs (drop (i + 1) names) (elim o as (λ x. Linked) [ None ↦ s | Some q ↦ with_listing s (listing_at q) ])) is

pub linked_none : (rs : List Region) (names : List ℕ) (i : ℕ) (s : Linked) → i < length names
    → region_named rs (get_or names i 0) ≡ None → linked_all rs (drop i names) s ≡ linked_all rs (drop (i + 1) names) s
linked_none rs names i s less is =
    ap (λ l. linked_all rs l s) (drop_more names i 0 less)
    ∙ ap (λ o. linked_all rs (drop (i + 1) names) (elim o as (λ x. Linked) [ None ↦ s | Some q ↦ with_listing s (listing_at q) ])) is

pub counted_next : (rs : List Region) (names : List ℕ) (i : ℕ) (r : Region) → i < length names → region_named rs (get_or names i 0) ≡ Some r
    → count_named rs (drop i names) ≡ (r.base + r.added) + count_named rs (drop (i + 1) names)
counted_next rs names i r less is =
    ap (λ l. count_named rs l) (drop_more names i 0 less)
    ∙ ap (λ o. elim o as (λ x. ℕ) [ None ↦ 0 | Some q ↦ q.base + q.added ] + count_named rs (drop (i + 1) names)) is

pub counted_none : (rs : List Region) (names : List ℕ) (i : ℕ) → i < length names → region_named rs (get_or names i 0) ≡ None
    → count_named rs (drop i names) ≡ count_named rs (drop (i + 1) names)
counted_none rs names i less is =
    omega (
      arith,
      ap (λ l. count_named rs l) (drop_more names i 0 less),
      ap (λ o. elim o as (λ x. ℕ) [ None ↦ 0 | Some q ↦ q.base + q.added ]) is,
    )
