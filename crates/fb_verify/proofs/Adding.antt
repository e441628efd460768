-- A list to which something of each element of another is added, one element after another.
use Rattle.std.proofs.Common.{◌≡◌, ℕ, ◌+◌, ◌<◌, ◌≤◌, List, [], ◌∷◌, ◌++◌, length, get_or, drop, sym, ap, ◌∙◌, append_assoc, append-nil}
use Rattle.std.proofs.lemmas.List.{at_drop_more, at_drop_all}

pub one_added : {X Y : Type 0} (all : List X → List Y) (each : X → List Y) (old now new : List Y) (xs : List X) (i : ℕ) (d : X)
    → ((x : X) (rest : List X) → all (x ∷ rest) ≡ each x ++ all rest) → i < length xs
    → old ++ all xs ≡ now ++ all (drop i xs) → new ≡ now ++ each (get_or xs i d) → old ++ all xs ≡ new ++ all (drop (i + 1) xs)
one_added {X} {Y} all each old now new xs i d one within before added =
    before ∙ ap (λ (ys : List Y). now ++ ys) (at_drop_more all xs i d within ∙ one (get_or xs i d) (drop (i + 1) xs))
    ∙ sym (append_assoc now (each (get_or xs i d)) (all (drop (i + 1) xs))) ∙ ap (λ (ys : List Y). ys ++ all (drop (i + 1) xs)) (sym added)

pub all_added : {X Y : Type 0} (all : List X → List Y) (old now : List Y) (xs : List X) (i : ℕ) → all [] ≡ [] → length xs ≤ i
    → old ++ all xs ≡ now ++ all (drop i xs) → now ≡ old ++ all xs
all_added {X} {Y} all old now xs i none through added =
    sym (added ∙ ap (λ (ys : List Y). now ++ ys) (at_drop_all all xs i through ∙ none) ∙ append-nil now)
