-- Bytes that are appended in several puts.
use Rattle.std.proofs.Common.{◌≡◌, ℕ, ◌+◌, ◌≤◌, ◌<◌, get_or, List, [], ◌∷◌, ◌++◌, Option, length, take, drop, map, sym, ap, ◌∙◌, append_assoc, subst, take-append-drop, take-add}
use Rattle.std.proofs.KnownBytes.{Appends-trans, Appends-nil, Appends-kept}
use Rattle.std.proofs.lemmas.List.Folds.{concat-append}
use Rattle.std.proofs.lemmas.List.{take_all, map_more, map-append, append-nil}
use Rattle.fb_ports.specs.Causes.{Appends, AppendsPrefix, Keeps, concat}

pub appends_onward : (a b c : Option (List ℕ)) (i n : ℕ) (xs : List ℕ)
    → Appends a b (take i xs) → Appends b c (take n (drop i xs)) → Appends a c (take (i + n) xs)
appends_onward a b c i n xs p q = subst (Appends a c) (sym (take-add i n xs)) (Appends-trans a b c _ _ p q)

-- a prefix that is as long as the whole
pub appends_whole : (a b : Option (List ℕ)) (i : ℕ) (xs : List ℕ) → length xs ≤ i → Appends a b (take i xs) → Appends a b xs
appends_whole a b i xs le p = subst (Appends a b) (take_all i xs le) p

-- what was taken before a put that failed is a prefix
pub prefix_at : (a b c : Option (List ℕ)) (i : ℕ) (xs : List ℕ) → Appends a b (take i xs) → Keeps b c → AppendsPrefix a c xs
prefix_at a b c i xs p q = (take i xs, drop i xs, sym (take-append-drop i xs), Appends-kept a b c _ p q)

pub ruleset onward = (appends_onward, appends_whole, prefix_at)

-- the whole parts before place i, and then the part there
concat-step : {X : Type 0} (f : X → List ℕ) (xs : List X) (i : ℕ) (d : X) → i < length xs
    → concat (map f (take (i + 1) xs)) ≡ concat (map f (take i xs)) ++ f (get_or xs i d)
concat-step f xs i d lt = ap concat (map_more f xs i d lt) ∙ concat-append (map f (take i xs)) (f (get_or xs i d) ∷ [])
    ∙ ap (λ l. concat (map f (take i xs)) ++ l) (append-nil (f (get_or xs i d)))

-- the whole parts before place i, the part there, and the parts after it
concat-split : {X : Type 0} (f : X → List ℕ) (xs : List X) (i : ℕ) (d : X) → i < length xs
    → concat (map f xs) ≡ (concat (map f (take i xs)) ++ f (get_or xs i d)) ++ concat (map f (drop (i + 1) xs))
concat-split f xs i d lt = ap (λ l. concat (map f l)) (sym (take-append-drop (i + 1) xs)) ∙ ap concat (map-append f (take (i + 1) xs) (drop (i + 1) xs))
    ∙ concat-append (map f (take (i + 1) xs)) (map f (drop (i + 1) xs)) ∙ ap (λ l. l ++ concat (map f (drop (i + 1) xs))) (concat-step f xs i d lt)

regrouped : (a b c d : List ℕ) → (a ++ (b ++ c)) ++ d ≡ (a ++ b) ++ (c ++ d)
regrouped a b c d = simp append_assoc

-- a prefix of a part, after what stands before the part, is a prefix of the whole
pub prefix_within : (a b c : Option (List ℕ)) (before part after all : List ℕ)
    → Appends a b before → AppendsPrefix b c part → all ≡ (before ++ part) ++ after → AppendsPrefix a c all
prefix_within a b c before part after all p q e = (
  before ++ q.0,
  q.1 ++ after,
  e ∙ ap (λ l. (before ++ l) ++ after) q.2 ∙ regrouped before q.0 q.1 after,
  Appends-trans a b c _ _ p q.3,
)

-- a prefix of the second part, after the whole first one, is a prefix of both
pub prefix_second : (a b c : Option (List ℕ)) (xs ys : List ℕ) → Appends a b xs → AppendsPrefix b c ys → AppendsPrefix a c (xs ++ ys)
prefix_second a b c xs ys p q = prefix_within a b c xs ys [] (xs ++ ys) p q (sym (append-nil (xs ++ ys)))

-- a prefix of the first part is a prefix of both
pub prefix_first : (a b : Option (List ℕ)) (xs ys : List ℕ) → AppendsPrefix a b xs → AppendsPrefix a b (xs ++ ys)
prefix_first a b xs ys p = (p.0, p.1 ++ ys, ap (λ l. l ++ ys) p.2 ∙ append_assoc p.0 p.1 ys, p.3)

-- one more part was put whole
pub parts_onward : {X : Type 0} (a b c : Option (List ℕ)) (f : X → List ℕ) (xs : List X) (i : ℕ) (d : X) → i < length xs
    → Appends a b (concat (map f (take i xs))) → Appends b c (f (get_or xs i d)) → Appends a c (concat (map f (take (i + 1) xs)))
parts_onward a b c f xs i d lt p q = subst (Appends a c) (sym (concat-step f xs i d lt)) (Appends-trans a b c _ _ p q)

-- a prefix of a part, after whole parts, is a prefix of all of them together
pub parts_prefix : {X : Type 0} (a b c : Option (List ℕ)) (f : X → List ℕ) (xs : List X) (i : ℕ) (d : X) → i < length xs
    → Appends a b (concat (map f (take i xs))) → AppendsPrefix b c (f (get_or xs i d)) → AppendsPrefix a c (concat (map f xs))
parts_prefix a b c f xs i d lt p q = prefix_within a b c _ _ _ _ p q (concat-split f xs i d lt)

-- what joins writes that follow one another
pub ruleset prefixes = (Appends-trans, Appends-nil, prefix_second, prefix_first)
