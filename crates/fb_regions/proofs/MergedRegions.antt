-- Regions behind others: who joins whom, and the radii up to the outer one.
use Rattle.std.proofs.Common.{ℕ, ◌≡◌, ◌+◌, ◌==◌, ◌&&◌, ◌||◌, Bool, true, false, List, [], ◌∷◌, ◌++◌, Option, Some, None, refl, sym, ap, ◌∙◌, if◌then◌else◌}
use Rattle.std.proofs.lemmas.Bool.{false≢true, or_left, or_parts, or_right}
use Rattle.std.proofs.lemmas.List.Folds.{list_any-append}
use Rattle.fb_graph.specs.Parity.{is_in}
use Rattle.fb_graph.specs.Dual.{Node, is_empty, is_outer}
use Rattle.fb_graph.proofs.Sets.{is_in-head, is_in-tail}
use Rattle.fb_regions.specs.declared.region.Region.{Region}
use Rattle.fb_regions.specs.InternalKept.{HasParent, HaveParents, is_childless}
use Rattle.fb_regions.specs.InternalNodes.{children_from, radii_from}
use Rattle.fb_regions.specs.InternalPlaces.{AreJoinedAbove, IsJoinedIn}
use Rattle.fb_regions.proofs.ByName.{names}
use Rattle.fb_regions.proofs.Radii.{above}

pub child_append : (rs ss : List Region) (q x : ℕ) → is_in (children_from rs q) x ≡ true
    → is_in (children_from (rs ++ ss) q) x ≡ true
child_append [] ss q x h = absurd (false≢true h)
child_append (r ∷ rs) ss q x h = by (r.name == q) h (child_append rs ss q x)
  where
    by : (b : Bool) → is_in (if b then r.children.items else children_from rs q) x ≡ true
        → (is_in (children_from rs q) x ≡ true → is_in (children_from (rs ++ ss) q) x ≡ true)
        → is_in (if b then r.children.items else children_from (rs ++ ss) q) x ≡ true
    by true k rest = k
    by false k rest = rest k

pub parents_append : (nodes others : List Node) (rs ss : List Region)
    → ((x : ℕ) → is_in (names rs) x ≡ true → is_outer nodes x ≡ true → is_outer others x ≡ true)
    → HaveParents nodes rs → HaveParents others ss → HaveParents others (rs ++ ss)
parents_append nodes others [] ss outer one two = two
parents_append nodes others (r ∷ rs) ss outer one two = (
  by r.parent one.0,
  parents_append nodes others rs ss (λ x known. outer x (is_in-tail r.name (names rs) x known)) one.1 two,
)
  where
    by : (o : Option ℕ) → HasParent nodes rs r.name o → HasParent others (rs ++ ss) r.name o
    by None h = outer r.name (is_in-head r.name (names rs)) h
    by (Some q) h = child_append rs ss q r.name h

pub radii_before : (rs ss : List Region) (x : ℕ) → AreJoinedAbove rs → is_in (names rs) x ≡ true
    → radii_from (rs ++ ss) x ≡ radii_from rs x
radii_before [] ss x joined known = absurd (false≢true known)
radii_before (r ∷ rs) ss x joined known = by (r.name == x) refl known (λ y. radii_before rs ss y joined.2)
  where
    Stay : Type 0
    Stay = (y : ℕ) → is_in (names rs) y ≡ true → radii_from (rs ++ ss) y ≡ radii_from rs y

    new : Bool → ℕ
    new b = if b then r.radius + above (rs ++ ss) r.parent else radii_from (rs ++ ss) x

    old : Bool → ℕ
    old b = if b then r.radius + above rs r.parent else radii_from rs x

    up : Stay → (o : Option ℕ) → IsJoinedIn rs o → above (rs ++ ss) o ≡ above rs o
    up rest None h = refl
    up rest (Some q) h = rest q h

    by : (b : Bool) → (r.name == x) ≡ b → (b || is_in (names rs) x) ≡ true → Stay
        → radii_from (r ∷ (rs ++ ss)) x ≡ radii_from (r ∷ rs) x
    by true e h rest = ap new e ∙ (ap (λ n. r.radius + n) (up rest r.parent joined.0) ∙ ap old (sym e))
    by false e h rest = ap new e ∙ (rest x h ∙ ap old (sym e))

pub radii_behind : (rs ss : List Region) (x : ℕ) → is_in (names rs) x ≡ false → radii_from (rs ++ ss) x ≡ radii_from ss x
radii_behind [] ss x out = refl
radii_behind (r ∷ rs) ss x out =
    let parts = or_parts (r.name == x) (is_in (names rs) x) out in
    ap (λ b. if b then r.radius + above (rs ++ ss) r.parent else radii_from (rs ++ ss) x) parts.0
    ∙ radii_behind rs ss x parts.1

pub childless_before : (rs ss : List Region) (x : ℕ) → is_childless rs x ≡ true → is_childless (rs ++ ss) x ≡ true
childless_before rs ss x h =
    list_any-append (λ r. (r.name == x) && is_empty r.children.items) rs ss ∙ or_left (is_childless rs x) (is_childless ss x) h

pub childless_behind : (rs ss : List Region) (x : ℕ) → is_childless ss x ≡ true → is_childless (rs ++ ss) x ≡ true
childless_behind rs ss x h =
    list_any-append (λ r. (r.name == x) && is_empty r.children.items) rs ss ∙ or_right (is_childless rs x) (is_childless ss x) h
