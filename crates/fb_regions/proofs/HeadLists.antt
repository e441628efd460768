-- Nodes by their names, as lists of nodes change.
use Rattle.std.proofs.Common.{ℕ, zero, suc, ◌≡◌, ◌<◌, ◌==◌, ◌⊎◌, inl, inr, Bool, true, false, List, [], ◌∷◌, ◌++◌, length, map, set, get_or, Option, Some, None, option_map, refl, sym, ap, ◌∙◌, subst, arith, if◌then◌else◌}
use Rattle.std.specs.List.{remove}
use Rattle.std.proofs.lemmas.Bool.{false_from_ne_true, eq-eqb, eqb-true, or_parts}
use Rattle.fb_graph.specs.Parity.{is_in}
use Rattle.fb_graph.specs.Certificate.{AreDistinct}
use Rattle.fb_graph.proofs.Among.{IsAmong, among_is_in, map_among}
use Rattle.fb_regions.specs.declared.heads.Link.{Link}
use Rattle.fb_regions.specs.declared.region.Region.{Region}
use Rattle.fb_regions.specs.InternalHeads.{HaveHeads, link_in, relinked_all, relinked_one, relinked_region}
use Rattle.fb_regions.specs.InternalListings.{region_named}
use Rattle.fb_regions.proofs.ByName.{names, other_name}
use Rattle.fb_regions.proofs.HeadClimbs.{named_name}
use Rattle.fb_regions.proofs.HeadMoves.{AreRelated, IsAlike, heads_alike}
use Rattle.fb_regions.proofs.Relinked.{relinked_name}

-- where no node has the name
pub none_named : (rs : List Region) (x : ℕ) → is_in (names rs) x ≡ false → region_named rs x ≡ None
none_named [] x out = refl
none_named (r ∷ rs) x out =
    let parts = or_parts (r.name == x) (is_in (names rs) x) out in
    ap (λ b. if b then Some r else region_named rs x) parts.0 ∙ none_named rs x parts.1

-- lists one behind the other
pub named_before : (rs ss : List Region) (x : ℕ) (r : Region) → region_named rs x ≡ Some r → region_named (rs ++ ss) x ≡ Some r
named_before [] ss x r e = absurd (let clash : None ≡ Some r = e in cc)
named_before (y ∷ ys) ss x r e = by (y.name == x) e (named_before ys ss x r)
  where
    by : (b : Bool) → (if b then Some y else region_named ys x) ≡ Some r → (region_named ys x ≡ Some r → region_named (ys ++ ss) x ≡ Some r)
        → (if b then Some y else region_named (ys ++ ss) x) ≡ Some r
    by true h rest = h
    by false h rest = rest h

pub named_behind : (rs ss : List Region) (x : ℕ) → region_named rs x ≡ None → region_named (rs ++ ss) x ≡ region_named ss x
named_behind [] ss x e = refl
named_behind (y ∷ ys) ss x e = by (y.name == x) e (named_behind ys ss x)
  where
    by : (b : Bool) → (if b then Some y else region_named ys x) ≡ None → (region_named ys x ≡ None → region_named (ys ++ ss) x ≡ region_named ss x)
        → (if b then Some y else region_named (ys ++ ss) x) ≡ region_named ss x
    by true h rest = absurd (let clash : Some y ≡ None = h in cc)
    by false h rest = rest h

pub named_either : (rs ss : List Region) (x : ℕ) (s : Region) → region_named (rs ++ ss) x ≡ Some s → (region_named rs x ≡ Some s) ⊎ (region_named ss x ≡ Some s)
named_either rs ss x s e = by (region_named rs x) refl
  where
    by : (o : Option Region) → region_named rs x ≡ o → (region_named rs x ≡ Some s) ⊎ (region_named ss x ≡ Some s)
    by None f = inr (sym (named_behind rs ss x f) ∙ e)
    by (Some r) f = inl (f ∙ (sym (named_before rs ss x r f) ∙ e))

-- a node put last
pub named_last : (rs : List Region) (new : Region) → is_in (names rs) new.name ≡ false → region_named (rs ++ new ∷ []) new.name ≡ Some new
named_last rs new out =
    named_behind rs (new ∷ []) new.name (none_named rs new.name out)
    ∙ ap (λ b. if b then Some new else None) (eq-eqb new.name new.name refl)

pub named_not_last : (rs : List Region) (new : Region) (x : ℕ) → (x ≡ new.name → ⊥) → region_named (rs ++ new ∷ []) x ≡ region_named rs x
named_not_last rs new x other = by (region_named rs x) refl
  where
    by : (o : Option Region) → region_named rs x ≡ o → region_named (rs ++ new ∷ []) x ≡ region_named rs x
    by None f =
        named_behind rs (new ∷ []) x f
        ∙ (ap (λ b. if b then Some new else None) (false_from_ne_true (new.name == x) (λ e. other (sym (eqb-true new.name x e)))) ∙ sym f)
    by (Some r) f = named_before rs (new ∷ []) x r f ∙ sym f

-- all nodes changed alike
pub named_map : (f : Region → Region) → ((r : Region) → (f r).name ≡ r.name) → (rs : List Region) (x : ℕ)
    → region_named (map f rs) x ≡ option_map f (region_named rs x)
named_map f named [] x = refl
named_map f named (r ∷ rs) x =
    ap (λ n. if n == x then Some (f r) else region_named (map f rs) x) (named r) ∙ by (r.name == x) (named_map f named rs x)
  where
    by : (b : Bool) → region_named (map f rs) x ≡ option_map f (region_named rs x)
        → (if b then Some (f r) else region_named (map f rs) x) ≡ option_map f (if b then Some r else region_named rs x)
    by true rest = refl
    by false rest = rest

-- a node taken away
pub named_removed : (rs : List Region) (i : ℕ) (old : Region) (x : ℕ) → old ≡ get_or rs i old → i < length rs → (x ≡ old.name → ⊥)
    → region_named (remove rs i) x ≡ region_named rs x
named_removed [] i old x at less other = absurd (omega arith)
named_removed (r ∷ rs) zero old x at less other =
    sym (ap (λ b. if b then Some r else region_named rs x)
    (false_from_ne_true (r.name == x) (λ e. other (sym (ap (λ y. y.name) at ∙ eqb-true r.name x e)))))
named_removed (r ∷ rs) (suc i) old x at less other =
    ap (λ o. if r.name == x then Some r else o) (named_removed rs i old x at (omega arith) other)

-- a node of a list of different names
pub among_named : (rs : List Region) (r : Region) → AreDistinct (names rs) → IsAmong r rs → region_named rs r.name ≡ Some r
among_named [] r distinct a = absurd a
among_named (y ∷ ys) r distinct (inl e) =
    ap (λ b. if b then Some y else region_named ys r.name) (eq-eqb y.name r.name (ap (λ z. z.name) e)) ∙ ap Some e
among_named (y ∷ ys) r distinct (inr a) =
    ap (λ b. if b then Some y else region_named ys r.name)
    (other_name y ys r.name distinct.0 (among_is_in (names ys) r.name (map_among (λ z. z.name) ys r a)))
    ∙ among_named ys r distinct.1 a

-- nodes that differ at most in what is not said of heads
same_alike : (r : Region) → IsAlike r r
same_alike r = record { still = record { children = refl; head = refl; inside = refl }; parent = refl; link = refl; radius = λ q f. refl }

self_alike : (o : Option Region) → AreRelated IsAlike o o
self_alike None = tt
self_alike (Some r) = same_alike r

alike_cons : (r s : Region) (rs ss : List Region) → s.name ≡ r.name → IsAlike r s
    → ((x : ℕ) → AreRelated IsAlike (region_named rs x) (region_named ss x))
    → (x : ℕ) → AreRelated IsAlike (region_named (r ∷ rs) x) (region_named (s ∷ ss) x)
alike_cons r s rs ss named is rest x =
    subst (λ n. AreRelated IsAlike (if r.name == x then Some r else region_named rs x) (if n == x then Some s else region_named ss x)) (sym named)
    (by (r.name == x))
  where
    by : (b : Bool) → AreRelated IsAlike (if b then Some r else region_named rs x) (if b then Some s else region_named ss x)
    by true = is
    by false = rest x

alike_set : (rs : List Region) (i : ℕ) (old new : Region) → old ≡ get_or rs i old → new.name ≡ old.name → IsAlike old new
    → (x : ℕ) → AreRelated IsAlike (region_named rs x) (region_named (set rs i new) x)
alike_set [] i old new at named is x = tt
alike_set (r ∷ rs) zero old new at named is x =
    alike_cons r new rs rs (named ∙ ap (λ y. y.name) at) (subst (λ y. IsAlike y new) at is) (λ y. self_alike (region_named rs y)) x
alike_set (r ∷ rs) (suc i) old new at named is x = alike_cons r r rs (set rs i new) refl (same_alike r) (alike_set rs i old new at named is) x

alike_map : (f : Region → Region) (rs : List Region) → ((r : Region) → (f r).name ≡ r.name) → ((r : Region) → IsAmong r rs → IsAlike r (f r))
    → (x : ℕ) → AreRelated IsAlike (region_named rs x) (region_named (map f rs) x)
alike_map f [] named each x = tt
alike_map f (r ∷ rs) named each x =
    alike_cons r (f r) rs (map f rs) (named r) (each r (inl refl)) (alike_map f rs named (λ s a. each s (inr a))) x

pub heads_set : (rs : List Region) (i : ℕ) (old new : Region) → old ≡ get_or rs i old → new.name ≡ old.name → IsAlike old new
    → HaveHeads (region_named rs) → HaveHeads (region_named (set rs i new))
heads_set rs i old new at named is have = heads_alike (region_named rs) (region_named (set rs i new)) have (alike_set rs i old new at named is)

pub heads_map : (f : Region → Region) (rs : List Region) → ((r : Region) → (f r).name ≡ r.name) → ((r : Region) → IsAmong r rs → IsAlike r (f r))
    → HaveHeads (region_named rs) → HaveHeads (region_named (map f rs))
heads_map f rs named each have = heads_alike (region_named rs) (region_named (map f rs)) have (alike_map f rs named each)

-- one head with another link
relink_by : (leaf : ℕ) (link : Link) (r : Region) (b : Bool) → (r.name == leaf) ≡ b
    → relinked_region leaf link r ≡ (if b then record r { link = link } else r)
relink_by leaf link r b e = ap (λ c. if c then record r { link = link } else r) e

pub link_set : (xs : List Region) (leaf : ℕ) (link : Link) (r : Region) → region_named xs leaf ≡ Some r
    → link_in (region_named (map (relinked_region leaf link) xs) leaf) ≡ Some link
link_set xs leaf link r e =
    ap link_in (named_map (relinked_region leaf link) (relinked_name leaf link) xs leaf ∙ ap (option_map (relinked_region leaf link)) e)
    ∙ ap (λ y. Some y.link) (relink_by leaf link r true (eq-eqb r.name leaf (named_name xs leaf r e)))

pub link_kept : (xs : List Region) (leaf : ℕ) (link : Link) (x : ℕ) → (leaf ≡ x → ⊥)
    → link_in (region_named (map (relinked_region leaf link) xs) x) ≡ link_in (region_named xs x)
link_kept xs leaf link x other = ap link_in (named_map (relinked_region leaf link) (relinked_name leaf link) xs x) ∙ by (region_named xs x) refl
  where
    by : (o : Option Region) → region_named xs x ≡ o → link_in (option_map (relinked_region leaf link) o) ≡ link_in o
    by None e = refl
    by (Some r) e =
        ap (λ y. Some y.link)
        (relink_by leaf link r false (false_from_ne_true (r.name == leaf) (λ f. other (sym (eqb-true r.name leaf f) ∙ named_name xs x r e))))

-- what other links leave of a node
abbrev pub IsRelinked : Region → Region → Type 0
IsRelinked r s = s ≡ record r { link = s.link }

relinked_self : (o : Option Region) → AreRelated IsRelinked o o
relinked_self None = tt
relinked_self (Some r) = refl

relinked_step : (leaf : ℕ) (link : Link) (o o' : Option Region) → AreRelated IsRelinked o o' → AreRelated IsRelinked o (option_map (relinked_region leaf link) o')
relinked_step leaf link None None h = tt
relinked_step leaf link None (Some s) h = absurd h
relinked_step leaf link (Some r) None h = absurd h
relinked_step leaf link (Some r) (Some s) h = by (s.name == leaf)
  where
    by : (b : Bool) → (if b then record s { link = link } else s) ≡ record r { link = (if b then record s { link = link } else s).link }
    by true = ap {A = Region} {B = Region} (λ y. record y { link = link }) h
    by false = h

pub related_one : (link : Region → Link) (rs ss : List Region) → ((x : ℕ) → AreRelated IsRelinked (region_named rs x) (region_named ss x))
    → (o : Option Region) (y : ℕ) → AreRelated IsRelinked (region_named rs y) (region_named (relinked_one link ss o) y)
related_one link rs ss h None y = h y
related_one link rs ss h (Some r) y =
    subst (AreRelated IsRelinked (region_named rs y)) (sym (named_map (relinked_region r.head (link r)) (relinked_name r.head (link r)) ss y))
    (relinked_step r.head (link r) (region_named rs y) (region_named ss y) (h y))

relinked_related : (link : Region → Link) (cs : List ℕ) (rs ss : List Region) → ((x : ℕ) → AreRelated IsRelinked (region_named rs x) (region_named ss x))
    → (x : ℕ) → AreRelated IsRelinked (region_named rs x) (region_named (relinked_all link cs ss) x)
relinked_related link [] rs ss h x = h x
relinked_related link (c ∷ cs) rs ss h x =
    relinked_related link cs rs (relinked_one link ss (region_named ss c)) (related_one link rs ss h (region_named ss c)) x

pub relinked_from : (link : Region → Link) (cs : List ℕ) (rs : List Region) (x : ℕ)
    → AreRelated IsRelinked (region_named rs x) (region_named (relinked_all link cs rs) x)
relinked_from link cs rs x = relinked_related link cs rs rs (λ y. relinked_self (region_named rs y)) x
