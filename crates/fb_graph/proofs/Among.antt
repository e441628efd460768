-- Elements of lists without their places, and nodes by their names.
use Rattle.std.proofs.Common.{ℕ, zero, suc, ◌≡◌, ◌==◌, ◌&&◌, ◌||◌, ◌⊎◌, inl, inr, not, cond, Bool, true, false, List, [], ◌∷◌, ◌++◌, map, All, AllPairs, Option, Some, None, refl, sym, ap, ◌∙◌, subst, arith, if◌then◌else◌, filter}
use Rattle.std.specs.List.{find, list_any, concat}
use Rattle.std.specs.Option.{option_map}
use Rattle.std.proofs.lemmas.Bool.{both_ways, false≢true, false_from_ne_true, cases_Bool, or_cases, or_left, or_right, or_from, or_parts, and_parts, eq-eqb, eqb-true, not-true}
use Rattle.std.proofs.lemmas.List.Elements.{All-nil, All-cons, All-head, All-tail}
use Rattle.std.proofs.lemmas.List.Kept.{AllPairs-cons}
use Rattle.fb_graph.specs.Parity.{is_in}
use Rattle.fb_graph.specs.Certificate.{AreDistinct}
use Rattle.fb_graph.specs.Dual.{Node, AreApart, AreOuterApart, cover_of, is_live, is_outer, leaves, defects_of, top_at, is_empty}
use Rattle.fb_graph.proofs.Members.{is_in-append}
use Rattle.fb_graph.specs.Ends.{AreAllApart}
use Rattle.fb_graph.proofs.Crossings.{cover_found}

abbrev pub IsAmong : {X : Type 0} → X → List X → Type 0
IsAmong x [] = ⊥
IsAmong x (y ∷ ys) = (y ≡ x) ⊎ IsAmong x ys

pub All_among : {X : Type 0} (P : X → Type 0) (xs : List X) → All P xs → (x : X) → IsAmong x xs → P x
All_among P [] h x a = absurd a
All_among P (y ∷ ys) h x (inl e) = subst P e (All-head P y ys h)
All_among P (y ∷ ys) h x (inr a) = All_among P ys (All-tail P y ys h) x a

pub among_All : {X : Type 0} (P : X → Type 0) (xs : List X) → ((x : X) → IsAmong x xs → P x) → All P xs
among_All P [] h = All-nil P
among_All P (y ∷ ys) h = All-cons P y ys (h y (inl refl)) (among_All P ys (λ x a. h x (inr a)))

pub among_left : {X : Type 0} (xs ys : List X) (x : X) → IsAmong x xs → IsAmong x (xs ++ ys)
among_left [] ys x a = absurd a
among_left (z ∷ zs) ys x (inl e) = inl e
among_left (z ∷ zs) ys x (inr a) = inr (among_left zs ys x a)

pub among_right : {X : Type 0} (xs ys : List X) (x : X) → IsAmong x ys → IsAmong x (xs ++ ys)
among_right [] ys x a = a
among_right (z ∷ zs) ys x a = inr (among_right zs ys x a)

pub among_either : {X : Type 0} (xs ys : List X) (x : X) → IsAmong x (xs ++ ys) → IsAmong x xs ⊎ IsAmong x ys
among_either [] ys x a = inr a
among_either (z ∷ zs) ys x (inl e) = inl (inl e)
among_either {X} (z ∷ zs) ys x (inr a) = step (among_either zs ys x a)
  where
    step : IsAmong x zs ⊎ IsAmong x ys → IsAmong x (z ∷ zs) ⊎ IsAmong x ys
    step (inl b) = inl (inr b)
    step (inr b) = inr b

pub among_map : {X Y : Type 0} (f : X → Y) (xs : List X) (y : Y) → IsAmong y (map f xs) → (x : X) × IsAmong x xs × (f x ≡ y)
among_map f [] y a = absurd a
among_map f (x ∷ xs) y (inl e) = (x, inl refl, e)
among_map f (x ∷ xs) y (inr a) = let (z, b, e) = among_map f xs y a in (z, inr b, e)

pub map_among : {X Y : Type 0} (f : X → Y) (xs : List X) (x : X) → IsAmong x xs → IsAmong (f x) (map f xs)
map_among f [] x a = absurd a
map_among f (z ∷ zs) x (inl e) = inl (ap f e)
map_among f (z ∷ zs) x (inr a) = inr (map_among f zs x a)

pub any_among : {X : Type 0} (test : X → Bool) (xs : List X) → list_any test xs ≡ true → (x : X) × IsAmong x xs × (test x ≡ true)
any_among test [] e = absurd (false≢true e)
any_among {X} test (y ∷ ys) e = step (or_cases (test y) (list_any test ys) e) (any_among test ys)
  where
    step : (test y ≡ true) ⊎ (list_any test ys ≡ true)
        → (list_any test ys ≡ true → (x : X) × IsAmong x ys × (test x ≡ true)) → (x : X) × IsAmong x (y ∷ ys) × (test x ≡ true)
    step (inl h) rest = (y, inl refl, h)
    step (inr h) rest = let (x, a, t) = rest h in (x, inr a, t)

pub among_any : {X : Type 0} (test : X → Bool) (xs : List X) (x : X) → IsAmong x xs → test x ≡ true → list_any test xs ≡ true
among_any test [] x a t = absurd a
among_any test (y ∷ ys) x (inl e) t = or_left (test y) (list_any test ys) (ap test e ∙ t)
among_any test (y ∷ ys) x (inr a) t = or_right (test y) (list_any test ys) (among_any test ys x a t)

pub none_among : {X : Type 0} (test : X → Bool) (xs : List X) → list_any test xs ≡ false → (x : X) → IsAmong x xs → test x ≡ false
none_among test xs none x a = false_from_ne_true (test x) (λ t. both_ways (list_any test xs) none (among_any test xs x a t))

pub none_any : {X : Type 0} (test : X → Bool) (xs : List X) → ((x : X) → IsAmong x xs → test x ≡ false) → list_any test xs ≡ false
none_any test [] h = refl
none_any test (y ∷ ys) h = or_from (test y) (list_any test ys) (h y (inl refl)) (none_any test ys (λ x a. h x (inr a)))

-- two elements are one, or stand one before the other
pub pairs_among : {X : Type 0} (R : X → X → Type 0) (xs : List X) → AllPairs R xs → (x y : X) → IsAmong x xs → IsAmong y xs
    → (x ≡ y) ⊎ ((R x y) ⊎ (R y x))
pairs_among R [] h x y a b = absurd a
pairs_among R (z ∷ zs) h x y (inl e) (inl f) = inl (sym e ∙ f)
pairs_among R (z ∷ zs) h x y (inl e) (inr b) =
    inr (inl (subst (λ w. R w y) e (All_among (R z) zs (λ j d less. h zero (suc j) d (omega arith) (omega arith)) y b)))
pairs_among R (z ∷ zs) h x y (inr a) (inl f) =
    inr (inr (subst (λ w. R w x) f (All_among (R z) zs (λ j d less. h zero (suc j) d (omega arith) (omega arith)) x a)))
pairs_among R (z ∷ zs) h x y (inr a) (inr b) =
    pairs_among R zs (λ i j d less below. h (suc i) (suc j) d (omega arith) (omega arith)) x y a b

pub is_in-empty : (xs : List ℕ) (v : ℕ) → is_empty xs ≡ true → is_in xs v ≡ false
is_in-empty [] v none = refl
is_in-empty (x ∷ xs) v none = absurd (false≢true none)

pub among_is_in : (xs : List ℕ) (x : ℕ) → IsAmong x xs → is_in xs x ≡ true
among_is_in xs x a = among_any (λ u. u == x) xs x a (eq-eqb x x refl)

pub among_filter : {X : Type 0} (test : X → Bool) (xs : List X) (x : X) → IsAmong x xs → test x ≡ true → IsAmong x (filter test xs)
among_filter test [] x a h = absurd a
among_filter {X} test (y ∷ ys) x a h = step (test y) refl a (λ b. among_filter test ys x b h)
  where
    step : (b : Bool) → test y ≡ b → IsAmong x (y ∷ ys) → (IsAmong x ys → IsAmong x (filter test ys))
        → IsAmong x (cond b (y ∷ filter test ys) (filter test ys))
    step true e (inl same) rest = inl same
    step true e (inr b) rest = inr (rest b)
    step false e (inl same) rest = absurd (both_ways (test x) (ap test (sym same) ∙ e) h)
    step false e (inr b) rest = rest b

pub All_unmapped : {X Y : Type 0} (P : Y → Type 0) (f : X → Y) (xs : List X) → All P (map f xs) → All (λ x. P (f x)) xs
All_unmapped P f [] all = All-nil (λ x. P (f x))
All_unmapped P f (x ∷ xs) all =
    All-cons (λ y. P (f y)) x xs (All-head P (f x) (map f xs) all) (All_unmapped P f xs (All-tail P (f x) (map f xs) all))

pub name_among : (ns : List Node) (m : Node) → IsAmong m ns → is_in (map (λ n. n.name) ns) m.name ≡ true
name_among [] m a = absurd a
name_among (n ∷ ns) m (inl e) =
    or_left (n.name == m.name) (is_in (map (λ x. x.name) ns) m.name) (eq-eqb n.name m.name (ap (λ x. x.name) e))
name_among (n ∷ ns) m (inr a) = or_right (n.name == m.name) (is_in (map (λ x. x.name) ns) m.name) (name_among ns m a)

-- the first of distinct names isn't that of a later node
pub other_name : (n : Node) (ns : List Node) → AreDistinct (map (λ x. x.name) (n ∷ ns)) → (m : Node) → IsAmong m ns → n.name ≡ m.name → ⊥
other_name n ns distinct m a same =
    both_ways (is_in (map (λ x. x.name) ns) n.name) distinct.0 (ap (is_in (map (λ x. x.name) ns)) same ∙ name_among ns m a)

pub same_among : (ns : List Node) → AreDistinct (map (λ n. n.name) ns) → (m n : Node) → IsAmong m ns → IsAmong n ns → m.name ≡ n.name → m ≡ n
same_among [] distinct m n a b same = absurd a
same_among (x ∷ xs) distinct m n (inl e) (inl f) same = sym e ∙ f
same_among (x ∷ xs) distinct m n (inl e) (inr b) same = absurd (other_name x xs distinct n b (ap (λ y. y.name) e ∙ same))
same_among (x ∷ xs) distinct m n (inr a) (inl f) same = absurd (other_name x xs distinct m a (ap (λ y. y.name) f ∙ sym same))
same_among (x ∷ xs) distinct m n (inr a) (inr b) same = same_among xs distinct.1 m n a b same

pub among_pairs : (R : Node → Node → Type 0) (ns : List Node) → AreDistinct (map (λ n. n.name) ns)
    → ((m n : Node) → IsAmong m ns → IsAmong n ns → (m.name ≡ n.name → ⊥) → R m n) → AllPairs R ns
among_pairs R [] distinct h = λ i j d less below. absurd (omega arith)
among_pairs R (n ∷ ns) distinct h =
    AllPairs-cons R n ns (among_All (R n) ns (λ m a. h n m (inl refl) (inr a) (other_name n ns distinct m a)))
    (among_pairs R ns distinct.1 (λ m k a b. h m k (inr a) (inr b)))

pub live_among : (ns : List Node) (name : ℕ) → is_live ns name ≡ true → (m : Node) × IsAmong m ns × (m.name ≡ name)
live_among ns name live = let (m, a, e) = any_among (λ n. n.name == name) ns live in (m, a, eqb-true m.name name e)

pub among_live : (ns : List Node) (m : Node) (name : ℕ) → IsAmong m ns → m.name ≡ name → is_live ns name ≡ true
among_live ns m name a e = among_any (λ n. n.name == name) ns m a (eq-eqb m.name name e)

pub own_live : (nodes : List Node) (n : Node) → IsAmong n nodes → is_live nodes n.name ≡ true
own_live nodes n a = among_live nodes n n.name a refl

pub outer_among : (ns : List Node) (name : ℕ) → is_outer ns name ≡ true → (q : Node) → IsAmong q ns → is_in q.children name ≡ false
outer_among ns name outer q a = none_among (λ n. is_in n.children name) ns (not-true _ outer) q a

pub among_outer : (ns : List Node) (name : ℕ) → ((q : Node) → IsAmong q ns → is_in q.children name ≡ false) → is_outer ns name ≡ true
among_outer ns name h = ap not (none_any (λ n. is_in n.children name) ns h)

-- a node is outer, or another one joins it
pub outer_or_not : (ns : List Node) (name : ℕ) → (is_outer ns name ≡ true) ⊎ ((q : Node) × IsAmong q ns × (is_in q.children name ≡ true))
outer_or_not ns name = step (cases_Bool (list_any (λ n. is_in n.children name) ns))
  where
    step : (list_any (λ n. is_in n.children name) ns ≡ true) ⊎ (list_any (λ n. is_in n.children name) ns ≡ false)
        → (is_outer ns name ≡ true) ⊎ ((q : Node) × IsAmong q ns × (is_in q.children name ≡ true))
    step (inl e) = inr (any_among (λ n. is_in n.children name) ns e)
    step (inr e) = inl (ap not e)

pub top_among : (ns : List Node) → AreDistinct (map (λ n. n.name) ns) → (m : Node) → IsAmong m ns → top_at ns m.name ≡ m.top.vertices
top_among [] distinct m a = absurd a
top_among (n ∷ ns) distinct m (inl e) =
    subst (λ x. top_at (n ∷ ns) x.name ≡ x.top.vertices) e
    (ap (λ b. if b then n.top.vertices else top_at ns n.name) (eq-eqb n.name n.name refl))
top_among (n ∷ ns) distinct m (inr a) =
    ap (λ b. if b then n.top.vertices else top_at ns m.name)
    (false_from_ne_true (n.name == m.name) (λ e. other_name n ns distinct m a (eqb-true n.name m.name e)))
    ∙ top_among ns distinct.1 m a

pub top_left : (xs ys : List Node) (name : ℕ) → is_live xs name ≡ true → top_at (xs ++ ys) name ≡ top_at xs name
top_left [] ys name live = absurd (false≢true live)
top_left (x ∷ xs) ys name live = step (x.name == name) (top_left xs ys name) live
  where
    step : (b : Bool) → (is_live xs name ≡ true → top_at (xs ++ ys) name ≡ top_at xs name) → (b || is_live xs name) ≡ true
        → (if b then x.top.vertices else top_at (xs ++ ys) name) ≡ (if b then x.top.vertices else top_at xs name)
    step true rest h = refl
    step false rest h = rest h

pub top_right : (xs ys : List Node) (name : ℕ) → is_live xs name ≡ false → top_at (xs ++ ys) name ≡ top_at ys name
top_right [] ys name none = refl
top_right (x ∷ xs) ys name none =
    let parts = or_parts (x.name == name) (is_live xs name) none in
    ap (λ b. if b then x.top.vertices else top_at (xs ++ ys) name) parts.0 ∙ top_right xs ys name parts.1

pub apart_among : (ns : List Node) → AreDistinct (map (λ n. n.name) ns) → AreOuterApart ns → (m n : Node) → IsAmong m ns → IsAmong n ns
    → (m.name ≡ n.name → ⊥) → is_outer ns m.name ≡ true → is_outer ns n.name ≡ true → AreApart m.top.vertices n.top.vertices
apart_among ns distinct apart m n a b other out_m out_n =
    step (pairs_among (λ x y. is_outer ns x.name ≡ true → is_outer ns y.name ≡ true → AreApart x.top.vertices y.top.vertices) ns apart m n a b)
  where
    step : (m ≡ n) ⊎ ((is_outer ns m.name ≡ true → is_outer ns n.name ≡ true → AreApart m.top.vertices n.top.vertices)
        ⊎ (is_outer ns n.name ≡ true → is_outer ns m.name ≡ true → AreApart n.top.vertices m.top.vertices))
        → AreApart m.top.vertices n.top.vertices
    step (inl e) = absurd (other (ap (λ x. x.name) e))
    step (inr (inl h)) = h out_m out_n
    step (inr (inr h)) = λ v within. false_from_ne_true (is_in n.top.vertices v) (λ held. both_ways (is_in m.top.vertices v) (h out_n out_m v held) within)

pub covered_by : (ns : List Node) (v : ℕ) → AreOuterApart ns → (m : Node) → IsAmong m ns → is_outer ns m.name ≡ true
    → is_in m.top.vertices v ≡ true → cover_of ns v ≡ Some m.name
covered_by ns v apart m a =
    All_among (λ n. is_outer ns n.name ≡ true → is_in n.top.vertices v ≡ true → cover_of ns v ≡ Some n.name) ns (cover_found ns v apart) m a

find_among : (test : Node → Bool) (ns : List Node) (m : Node) → find test ns ≡ Some m → IsAmong m ns × (test m ≡ true)
find_among test [] m e = absurd (let h : None ≡ Some m = e in cc)
find_among test (n ∷ ns) m e = step (test n) refl e (find_among test ns m)
  where
    step : (b : Bool) → test n ≡ b → cond b (Some n) (find test ns) ≡ Some m
        → (find test ns ≡ Some m → IsAmong m ns × (test m ≡ true)) → IsAmong m (n ∷ ns) × (test m ≡ true)
    step true t h rest = let same : n ≡ m = cc in (inl same, ap test (sym same) ∙ t)
    step false t h rest = let (a, passing) = rest h in (inr a, passing)

-- the outer node of the name holds the vertex
pub record IsOver (ns : List Node) (v name : ℕ) : Type 0 where
  pub node : Node
  pub among : IsAmong node ns
  pub named : node.name ≡ name
  pub outer : is_outer ns node.name ≡ true
  pub holds : is_in node.top.vertices v ≡ true

pub cover_among : (ns : List Node) (v name : ℕ) → cover_of ns v ≡ Some name → IsOver ns v name
cover_among ns v name cover = step (find test ns) refl cover
  where
    test : Node → Bool
    test n = is_outer ns n.name && is_in n.top.vertices v

    step : (o : Option Node) → find test ns ≡ o → option_map (λ n. n.name) o ≡ Some name → IsOver ns v name
    step None e c = absurd (let h : None ≡ Some name = c in cc)
    step (Some m) e c =
        let (a, passing) = find_among test ns m e in
        let parts = and_parts (is_outer ns m.name) (is_in m.top.vertices v) passing in
        record { node = m; among = a; named = (let h : Some m.name ≡ Some name = c in cc); outer = parts.0; holds = parts.1 }

pub in_concat : (f : ℕ → List ℕ) (cs : List ℕ) (c v : ℕ) → is_in cs c ≡ true → is_in (f c) v ≡ true → is_in (concat (map f cs)) v ≡ true
in_concat f [] c v h k = absurd (false≢true h)
in_concat f (x ∷ xs) c v h k = is_in-append (f x) (concat (map f xs)) v ∙ step (or_cases (x == c) (is_in xs c) h) (in_concat f xs c v)
  where
    step : ((x == c) ≡ true) ⊎ (is_in xs c ≡ true) → (is_in xs c ≡ true → is_in (f c) v ≡ true → is_in (concat (map f xs)) v ≡ true)
        → (is_in (f x) v || is_in (concat (map f xs)) v) ≡ true
    step (inl e) rest = or_left (is_in (f x) v) (is_in (concat (map f xs)) v) (ap (λ y. is_in (f y) v) (eqb-true x c e) ∙ k)
    step (inr e) rest = or_right (is_in (f x) v) (is_in (concat (map f xs)) v) (rest e k)

pub from_concat : (f : ℕ → List ℕ) (cs : List ℕ) (v : ℕ) → is_in (concat (map f cs)) v ≡ true → (c : ℕ) × (is_in cs c ≡ true) × (is_in (f c) v ≡ true)
from_concat f [] v h = absurd (false≢true h)
from_concat f (x ∷ xs) v h = step (or_cases (is_in (f x) v) (is_in (concat (map f xs)) v) (sym (is_in-append (f x) (concat (map f xs)) v) ∙ h)) (from_concat f xs v)
  where
    step : (is_in (f x) v ≡ true) ⊎ (is_in (concat (map f xs)) v ≡ true)
        → (is_in (concat (map f xs)) v ≡ true → (c : ℕ) × (is_in xs c ≡ true) × (is_in (f c) v ≡ true))
        → (c : ℕ) × (is_in (x ∷ xs) c ≡ true) × (is_in (f c) v ≡ true)
    step (inl e) rest = (x, or_left (x == x) (is_in xs x) (eq-eqb x x refl), e)
    step (inr e) rest = let (c, a, t) = rest e in (c, or_right (x == c) (is_in xs c) a, t)

pub leaf_among : (ns : List Node) (d : ℕ) → is_in (leaves ns) d ≡ true → (m : Node) × IsAmong m ns × (is_in (defects_of m) d ≡ true)
leaf_among [] d h = absurd (false≢true h)
leaf_among (n ∷ ns) d h = step (or_cases (is_in (defects_of n) d) (is_in (leaves ns) d) (sym (is_in-append (defects_of n) (leaves ns) d) ∙ h)) (leaf_among ns d)
  where
    step : (is_in (defects_of n) d ≡ true) ⊎ (is_in (leaves ns) d ≡ true)
        → (is_in (leaves ns) d ≡ true → (m : Node) × IsAmong m ns × (is_in (defects_of m) d ≡ true))
        → (m : Node) × IsAmong m (n ∷ ns) × (is_in (defects_of m) d ≡ true)
    step (inl e) rest = (n, inl refl, e)
    step (inr e) rest = let (m, a, t) = rest e in (m, inr a, t)

-- sets apart from one another, for two of them
pub apart_of_two : (f : ℕ → List ℕ) (cs : List ℕ) → AreAllApart (map f cs) → (a b : ℕ) → is_in cs a ≡ true → is_in cs b ≡ true → (a ≡ b → ⊥)
    → AreApart (f a) (f b)
apart_of_two f [] apart a b h k other = absurd (false≢true h)
apart_of_two f (x ∷ xs) apart a b h k other =
    step (or_cases (x == a) (is_in xs a) h) (or_cases (x == b) (is_in xs b) k) (λ h' k'. apart_of_two f xs apart.1 a b h' k' other)
  where
    each : (c : ℕ) → is_in xs c ≡ true → AreApart (f x) (f c)
    each c h' = by xs apart.0 h'
      where
        by : (ys : List ℕ) → All (AreApart (f x)) (map f ys) → is_in ys c ≡ true → AreApart (f x) (f c)
        by [] all e = absurd (false≢true e)
        by (y ∷ ys) all e = pick (or_cases (y == c) (is_in ys c) e) (by ys (All-tail (AreApart (f x)) (f y) (map f ys) all))
          where
            pick : ((y == c) ≡ true) ⊎ (is_in ys c ≡ true) → (is_in ys c ≡ true → AreApart (f x) (f c)) → AreApart (f x) (f c)
            pick (inl e') rest = subst (λ z. AreApart (f x) (f z)) (eqb-true y c e') (All-head (AreApart (f x)) (f y) (map f ys) all)
            pick (inr e') rest = rest e'

    step : ((x == a) ≡ true) ⊎ (is_in xs a ≡ true) → ((x == b) ≡ true) ⊎ (is_in xs b ≡ true)
        → (is_in xs a ≡ true → is_in xs b ≡ true → AreApart (f a) (f b)) → AreApart (f a) (f b)
    step (inl e) (inl e') rest = absurd (other (sym (eqb-true x a e) ∙ eqb-true x b e'))
    step (inl e) (inr k') rest = subst (λ z. AreApart (f z) (f b)) (eqb-true x a e) (each b k')
    step (inr h') (inl e') rest = λ v within.
        false_from_ne_true (is_in (f b) v)
        (λ held. both_ways (is_in (f a) v) (each a h' v (ap (λ z. is_in (f z) v) (eqb-true x b e') ∙ held)) within)
    step (inr h') (inr k') rest = rest h' k'
