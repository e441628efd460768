-- Regions under other names: their names, children and parents, and the radii up to the outer one.
use Rattle.std.proofs.Common.{ℕ, ◌≡◌, ◌+◌, ◌==◌, ◌&&◌, ◌||◌, Bool, true, false, List, [], ◌∷◌, map, Option, Some, None, option_map, refl, sym, ap, ◌∙◌, if◌then◌else◌}
use Rattle.std.proofs.lemmas.Bool.{and_parts, both_ways, false≢true, false_from_ne_true, eq-eqb, eqb-true}
use Rattle.std.proofs.lemmas.List.{length-map, with_items_is}
use Rattle.fb_graph.specs.Parity.{is_in}
use Rattle.fb_graph.specs.Dual.{Node, is_empty, is_outer}
use Rattle.fb_graph.proofs.Among.{any_among, among_any, map_among}
use Rattle.fb_graph.proofs.Sets.{is_in-head, is_in-tail}
use Rattle.fb_graph.proofs.Members.{is_in-map}
use Rattle.fb_regions.specs.declared.region.Region.{Region}
use Rattle.fb_regions.specs.InternalKept.{HasParent, HaveParents, is_childless}
use Rattle.fb_regions.specs.InternalMerged.{renamed_region, renamed_regions}
use Rattle.fb_regions.specs.InternalNodes.{children_from, radii_from}
use Rattle.fb_regions.specs.InternalPlaces.{AreJoinedAbove, IsJoinedIn}
use Rattle.fb_regions.proofs.ByName.{names}
use Rattle.fb_regions.proofs.Radii.{above}

pub children_renamed : (f : ℕ → ℕ) (r : Region) → (renamed_region f r).children.items ≡ map f r.children.items
children_renamed f r =
    with_items_is r.children (map f r.children.items) (length-map r.children.items f ∙ sym r.children.ok.0)

-- no two of the regions get the same name
abbrev pub AreApartBy : (ℕ → ℕ) → List Region → Type 0
AreApartBy f rs = (a b : ℕ) → is_in (names rs) a ≡ true → is_in (names rs) b ≡ true → f a ≡ f b → a ≡ b

pub apart_tail : (f : ℕ → ℕ) (r : Region) (rs : List Region) → AreApartBy f (r ∷ rs) → AreApartBy f rs
apart_tail f r rs apart a b h k e = apart a b (is_in-tail r.name (names rs) a h) (is_in-tail r.name (names rs) b k) e

-- a name is that of a later region under its new name only if it was before
other_renamed : (f : ℕ → ℕ) (r : Region) (rs : List Region) (q : ℕ) → AreApartBy f (r ∷ rs) → is_in (names rs) q ≡ true
    → (r.name == q) ≡ false → (f r.name == f q) ≡ false
other_renamed f r rs q apart known other =
    false_from_ne_true (f r.name == f q)
    (λ e.
    both_ways (r.name == q) other
    (eq-eqb r.name q
    (apart r.name q (is_in-head r.name (names rs)) (is_in-tail r.name (names rs) q known) (eqb-true (f r.name) (f q) e))))

-- a node with children is there
pub joiner_known : (rs : List Region) (q x : ℕ) → is_in (children_from rs q) x ≡ true → is_in (names rs) q ≡ true
joiner_known [] q x h = absurd (false≢true h)
joiner_known (r ∷ rs) q x h = by (r.name == q) h (joiner_known rs q x)
  where
    by : (b : Bool) → is_in (if b then r.children.items else children_from rs q) x ≡ true
        → (is_in (children_from rs q) x ≡ true → is_in (names rs) q ≡ true) → (b || is_in (names rs) q) ≡ true
    by true k rest = refl
    by false k rest = rest k

pub child_renamed : (f : ℕ → ℕ) (rs : List Region) (q x : ℕ) → AreApartBy f rs → is_in (children_from rs q) x ≡ true
    → is_in (children_from (renamed_regions f rs) (f q)) (f x) ≡ true
child_renamed f [] q x apart h = absurd (false≢true h)
child_renamed f (r ∷ rs) q x apart h = by (r.name == q) refl h (child_renamed f rs q x (apart_tail f r rs apart))
  where
    chosen : Bool → List ℕ
    chosen b = if b then (renamed_region f r).children.items else children_from (renamed_regions f rs) (f q)

    by : (b : Bool) → (r.name == q) ≡ b → is_in (if b then r.children.items else children_from rs q) x ≡ true
        → (is_in (children_from rs q) x ≡ true → is_in (children_from (renamed_regions f rs) (f q)) (f x) ≡ true)
        → is_in (children_from (renamed_regions f (r ∷ rs)) (f q)) (f x) ≡ true
    by true e k rest =
        ap (λ b. is_in (chosen b) (f x)) (eq-eqb (f r.name) (f q) (ap f (eqb-true r.name q e)))
        ∙ (ap (λ l. is_in l (f x)) (children_renamed f r) ∙ is_in-map f r.children.items x k)
    by false e k rest =
        ap (λ b. is_in (chosen b) (f x)) (other_renamed f r rs q apart (joiner_known rs q x k) e) ∙ rest k

pub parents_renamed : (nodes others : List Node) (f : ℕ → ℕ) (rs : List Region) → AreApartBy f rs
    → ((x : ℕ) → is_in (names rs) x ≡ true → is_outer nodes x ≡ true → is_outer others (f x) ≡ true) → HaveParents nodes rs
    → HaveParents others (renamed_regions f rs)
parents_renamed nodes others f [] apart outer parents = tt
parents_renamed nodes others f (r ∷ rs) apart outer parents = (
  by r.parent parents.0,
  parents_renamed nodes others f rs (apart_tail f r rs apart) (λ x known. outer x (is_in-tail r.name (names rs) x known)) parents.1,
)
  where
    by : (o : Option ℕ) → HasParent nodes rs r.name o → HasParent others (renamed_regions f rs) (f r.name) (option_map f o)
    by None h = outer r.name (is_in-head r.name (names rs)) h
    by (Some q) h = child_renamed f rs q r.name (apart_tail f r rs apart) h

pub radii_renamed : (f : ℕ → ℕ) (rs : List Region) (x : ℕ) → AreApartBy f rs → AreJoinedAbove rs → is_in (names rs) x ≡ true
    → radii_from (renamed_regions f rs) (f x) ≡ radii_from rs x
radii_renamed f [] x apart joined known = absurd (false≢true known)
radii_renamed f (r ∷ rs) x apart joined known =
    by (r.name == x) refl known (λ y. radii_renamed f rs y (apart_tail f r rs apart) joined.2)
  where
    Stay : Type 0
    Stay = (y : ℕ) → is_in (names rs) y ≡ true → radii_from (renamed_regions f rs) (f y) ≡ radii_from rs y

    chosen : Bool → ℕ
    chosen b =
        if b then r.radius + above (renamed_regions f rs) (option_map f r.parent) else radii_from (renamed_regions f rs) (f x)

    old : Bool → ℕ
    old b = if b then r.radius + above rs r.parent else radii_from rs x

    up : Stay → (o : Option ℕ) → IsJoinedIn rs o → above (renamed_regions f rs) (option_map f o) ≡ above rs o
    up rest None h = refl
    up rest (Some q) h = rest q h

    by : (b : Bool) → (r.name == x) ≡ b → (b || is_in (names rs) x) ≡ true → Stay
        → radii_from (renamed_regions f (r ∷ rs)) (f x) ≡ radii_from (r ∷ rs) x
    by true e h rest =
        ap chosen (eq-eqb (f r.name) (f x) (ap f (eqb-true r.name x e)))
        ∙ (ap (λ n. r.radius + n) (up rest r.parent joined.0) ∙ ap old (sym e))
    by false e h rest = ap chosen (other_renamed f r rs x apart h e) ∙ (rest x h ∙ ap old (sym e))

pub childless_renamed : (f : ℕ → ℕ) (rs : List Region) (x : ℕ) → is_childless rs x ≡ true → is_childless (renamed_regions f rs) (f x) ≡ true
childless_renamed f rs x childless =
    let (r, a, e) = any_among (λ s. (s.name == x) && is_empty s.children.items) rs childless in
    let (named, none) = and_parts (r.name == x) (is_empty r.children.items) e in
    among_any (λ s. (s.name == f x) && is_empty s.children.items) (renamed_regions f rs) (renamed_region f r)
    (map_among (renamed_region f) rs r a)
    (ap (λ b. b && is_empty (renamed_region f r).children.items) (eq-eqb (f r.name) (f x) (ap f (eqb-true r.name x named)))
    ∙ (ap is_empty (children_renamed f r) ∙ (empty r.children.items ∙ none)))
  where
    empty : (cs : List ℕ) → is_empty (map f cs) ≡ is_empty cs
    empty [] = refl
    empty (c ∷ cs) = refl
