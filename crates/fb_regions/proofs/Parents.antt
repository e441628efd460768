-- The nodes round nodes, as nodes come and go.
use Rattle.std.proofs.Common.{ℕ, zero, suc, ◌≡◌, ◌<◌, ◌==◌, ◌&&◌, ◌||◌, Bool, true, false, List, [], ◌∷◌, ◌++◌, length, set, get_or, Option, Some, None, refl, sym, ap, ◌∙◌, subst, arith, if◌then◌else◌}
use Rattle.std.proofs.lemmas.Bool.{false≢true, eq-eqb, or_left, or_right}
use Rattle.std.proofs.lemmas.List.Folds.{list_any-append}
use Rattle.fb_graph.specs.Parity.{is_in}
use Rattle.fb_graph.specs.Dual.{Node, is_empty, is_outer}
use Rattle.fb_regions.specs.declared.region.Region.{Region}
use Rattle.fb_regions.specs.InternalNodes.{children_from}
use Rattle.fb_regions.specs.InternalKept.{HasParent, HaveParents, is_childless}

-- outer nodes stay outer
abbrev pub StayOuter : List Node → List Node → Type 0
StayOuter nodes others = (x : ℕ) → is_outer nodes x ≡ true → is_outer others x ≡ true

pub children_push : (rs : List Region) (new : Region) (q x : ℕ) → is_in (children_from rs q) x ≡ true
    → is_in (children_from (rs ++ new ∷ []) q) x ≡ true
children_push [] new q x h = absurd (false≢true h)
children_push (r ∷ rs) new q x h = by (r.name == q) h (children_push rs new q x)
  where
    by : (b : Bool) → is_in (if b then r.children.items else children_from rs q) x ≡ true
        → (is_in (children_from rs q) x ≡ true → is_in (children_from (rs ++ new ∷ []) q) x ≡ true)
        → is_in (if b then r.children.items else children_from (rs ++ new ∷ []) q) x ≡ true
    by true k rest = k
    by false k rest = rest k

moved : (nodes others : List Node) (later behind : List Region) (name : ℕ) → StayOuter nodes others
    → ((q x : ℕ) → is_in (children_from later q) x ≡ true → is_in (children_from behind q) x ≡ true)
    → (o : Option ℕ) → HasParent nodes later name o → HasParent others behind name o
moved nodes others later behind name outer more None h = outer name h
moved nodes others later behind name outer more (Some q) h = more q name h

pub parents_push : (nodes others : List Node) (rs : List Region) (new : Region) → StayOuter nodes others → HaveParents nodes rs
    → HasParent others [] new.name new.parent → HaveParents others (rs ++ new ∷ [])
parents_push nodes others [] new outer old own = (own, tt)
parents_push nodes others (r ∷ rs) new outer old own = (
  moved nodes others rs (rs ++ new ∷ []) r.name outer (children_push rs new) r.parent old.0,
  parents_push nodes others rs new outer old.1 own,
)

children_cons : (r s : Region) (rs ss : List Region) → r.name ≡ s.name → r.children.items ≡ s.children.items
    → ((q : ℕ) → children_from rs q ≡ children_from ss q) → (q : ℕ) → children_from (r ∷ rs) q ≡ children_from (s ∷ ss) q
children_cons r s rs ss names children rest q =
    ap (λ n. if n == q then r.children.items else children_from rs q) names
    ∙ (ap (λ l. if s.name == q then l else children_from rs q) children ∙ ap (λ l. if s.name == q then s.children.items else l) (rest q))

pub children_set : (rs : List Region) (i : ℕ) (old new : Region) → old ≡ get_or rs i old → i < length rs → new.name ≡ old.name
    → new.children.items ≡ old.children.items → (q : ℕ) → children_from (set rs i new) q ≡ children_from rs q
children_set [] i old new at less names children q = absurd (omega arith)
children_set (r ∷ rs) zero old new at less names children q =
    children_cons new r rs rs (names ∙ ap (λ y. y.name) at) (children ∙ ap (λ y. y.children.items) at) (λ x. refl) q
children_set (r ∷ rs) (suc i) old new at less names children q =
    children_cons r r (set rs i new) rs refl refl (children_set rs i old new at (omega arith) names children) q

pub parents_set : (nodes others : List Node) (rs : List Region) (i : ℕ) (old new : Region) → StayOuter nodes others → old ≡ get_or rs i old
    → i < length rs → new.name ≡ old.name → new.children.items ≡ old.children.items → new.parent ≡ old.parent → HaveParents nodes rs
    → HaveParents others (set rs i new)
parents_set nodes others [] i old new outer at less names children parents h = absurd (omega arith)
parents_set nodes others (r ∷ rs) zero old new outer at less names children parents h = (
  subst (λ o. HasParent others rs new.name o) (sym (parents ∙ ap (λ y. y.parent) at))
      (subst (λ n. HasParent others rs n r.parent) (sym (names ∙ ap (λ y. y.name) at))
      (moved nodes others rs rs r.name outer (λ q x k. k) r.parent h.0)),
  still rs h.1,
)
  where
    still : (ss : List Region) → HaveParents nodes ss → HaveParents others ss
    still [] k = tt
    still (s ∷ ss) k = (moved nodes others ss ss s.name outer (λ q x l. l) s.parent k.0, still ss k.1)
parents_set nodes others (r ∷ rs) (suc i) old new outer at less names children parents h = (
  moved nodes others rs (set rs i new) r.name outer
      (λ q x k. ap (λ l. is_in l x) (children_set rs i old new at (omega arith) names children q) ∙ k) r.parent h.0,
  parents_set nodes others rs i old new outer at (omega arith) names children parents h.1,
)

pub childless_push : (rs : List Region) (new : Region) (x : ℕ) → is_childless rs x ≡ true → is_childless (rs ++ new ∷ []) x ≡ true
childless_push rs new x h =
    list_any-append (λ r. (r.name == x) && is_empty r.children.items) rs (new ∷ [])
    ∙ or_left (is_childless rs x) (is_childless (new ∷ []) x) h

pub childless_last : (rs : List Region) (new : Region) (x : ℕ) → new.name ≡ x → new.children.items ≡ [] → is_childless (rs ++ new ∷ []) x ≡ true
childless_last rs new x named none =
    list_any-append (λ r. (r.name == x) && is_empty r.children.items) rs (new ∷ [])
    ∙ or_right (is_childless rs x) (is_childless (new ∷ []) x)
    (or_left ((new.name == x) && is_empty new.children.items) false
    (ap (λ b. b && is_empty new.children.items) (eq-eqb new.name x named) ∙ ap is_empty none))

pub childless_set : (rs : List Region) (i : ℕ) (old new : Region) (x : ℕ) → old ≡ get_or rs i old → i < length rs → new.name ≡ old.name
    → new.children.items ≡ old.children.items → is_childless (set rs i new) x ≡ is_childless rs x
childless_set [] i old new x at less names children = absurd (omega arith)
childless_set (r ∷ rs) zero old new x at less names children =
    ap (λ n. ((n == x) && is_empty new.children.items) || is_childless rs x) (names ∙ ap (λ y. y.name) at)
    ∙ ap (λ l. ((r.name == x) && is_empty l) || is_childless rs x) (children ∙ ap (λ y. y.children.items) at)
childless_set (r ∷ rs) (suc i) old new x at less names children =
    ap (λ b. ((r.name == x) && is_empty r.children.items) || b) (childless_set rs i old new x at (omega arith) names children)
