-- Looks at one thing after another.
use Rattle.std.proofs.Common.{ℕ, ◌≡◌, ◌+◌, ◌≤◌, ◌<◌, ◌∷◌, ◌++◌, List, [], length, get_or, take, take_all, All, sym, subst, arith}
use Rattle.std.proofs.lemmas.List.Elements.{All-push}
use Rattle.std.proofs.lemmas.List.{take_more}
use Rattle.fb_graph.proofs.Nodes.{All-below, All-top}
use Rattle.fb_obstacles.specs.declared.obstacle.Obstacle.{Obstacle}
use Rattle.fb_obstacles.specs.declared.looking.Look.{Look}
use Rattle.fb_obstacles.specs.declared.looking.Look.TheVariants.{Clear, Within, Blocked}
use Rattle.fb_obstacles.specs.InternalLooks.{both_looks, Limits}

-- the same lengths told otherwise
pub limits_same : (A B : ℕ → Type 0) (S : Obstacle → Type 0) (l : Look) → ((j : ℕ) → A j → B j) → ((j : ℕ) → B j → A j)
    → Limits A S l → Limits B S l
limits_same A B S Clear there back limits = λ j. there j (limits j)
limits_same A B S (Within b) there back limits = (limits.0, λ j le. there j (limits.1 j le), λ j h. limits.2 j (back j h))
limits_same A B S (Blocked o) there back limits = limits

-- where no obstacle stands, the length 1 is allowed
pub limits_one : (A : ℕ → Type 0) (S : Obstacle → Type 0) (b : ℕ) → Limits A S (Within b) → A 1
limits_one A S b limits = limits.1 1 limits.0

-- two looks in one
pub limits_both : (A B : ℕ → Type 0) (S : Obstacle → Type 0) (a b : Look) → Limits A S a → Limits B S b
    → Limits (λ j. A j × B j) S (both_looks a b)
limits_both A B S (Blocked o) b first second = first
limits_both A B S Clear (Blocked o) first second = second
limits_both A B S (Within i) (Blocked o) first second = second
limits_both A B S Clear Clear first second = λ j. (first j, second j)
limits_both A B S Clear (Within k) first second =
    (second.0, λ j le. (first j, second.1 j le), λ j h. second.2 j h.1)
limits_both A B S (Within i) Clear first second =
    (first.0, λ j le. (first.1 j le, second j), λ j h. first.2 j h.0)
limits_both A B S (Within i) (Within k) first second = (
  let one = first.0 in let other = second.0 in omega (arith, one, other),
  λ j le. (first.1 j (omega arith), second.1 j (omega arith)),
  λ j h. let one = first.2 j h.0 in let other = second.2 j h.1 in omega (arith, one, other),
)

-- one more of a list is looked at
pub limits_more : (P : ℕ → ℕ → Type 0) (S : Obstacle → Type 0) (xs : List ℕ) (i : ℕ) (a b : Look) → i < length xs
    → Limits (λ j. All (P j) (take i xs)) S a → Limits (λ j. P j (get_or xs i 0)) S b
    → Limits (λ j. All (P j) (take (i + 1) xs)) S (both_looks a b)
limits_more P S xs i a b less first second =
    subst (λ ys. Limits (λ j. All (P j) ys) S (both_looks a b)) (sym (take_more xs i 0 less))
    (limits_same (λ j. All (P j) (take i xs) × P j (get_or xs i 0))
    (λ j. All (P j) (take i xs ++ get_or xs i 0 ∷ [])) S (both_looks a b)
    (λ j h. All-push (P j) (take i xs) (get_or xs i 0) h.0 h.1)
    (λ j h. (
      All-below (P j) (take i xs) (get_or xs i 0) h,
      All-top (P j) (take i xs) (get_or xs i 0) h,
    ))
    (limits_both (λ j. All (P j) (take i xs)) (λ j. P j (get_or xs i 0)) S a b first second))

-- One thing more, beside what was known: it is looked at, or allows what the look does, or any length.
module _ (A B P : ℕ → Type 0) (S : Obstacle → Type 0) (there : (j : ℕ) → A j → P j → B j) (back : (j : ℕ) → B j → A j × P j) where
  pub limits_next : (a b : Look) → Limits A S a → Limits P S b → Limits B S (both_looks a b)
  limits_next a b first second =
      limits_same (λ j. A j × P j) B S (both_looks a b) (λ j h. there j h.0 h.1) back (limits_both A P S a b first second)

  pub limits_passed : (m : ℕ) (l : Look) → l ≡ Within m → ((j : ℕ) → j ≤ m → P j) → Limits A S l → Limits B S l
  limits_passed m l is bears limits = subst (Limits B S) (sym is) (passed (subst (Limits A S) is limits))
    where
      passed : Limits A S (Within m) → Limits B S (Within m)
      passed (some, below, above) = (some, λ j le. there j (below j le) (bears j le), λ j h. above j (back j h).0)

  pub limits_unlimited : (l : Look) → ((j : ℕ) → P j) → Limits A S l → Limits B S l
  limits_unlimited l bears limits = limits_same A B S l (λ j h. there j h (bears j)) (λ j h. (back j h).0) limits

-- where an obstacle stands, it doesn't matter what else was looked at
pub limits_blocked : (A B : ℕ → Type 0) (S : Obstacle → Type 0) (l : Look) (o : Obstacle) → l ≡ Blocked o
    → Limits A S l → Limits B S l
limits_blocked A B S l o is limits = subst (Limits B S) (sym is) (subst (Limits A S) is limits)

-- all of a list was looked at
pub limits_whole : (P : ℕ → ℕ → Type 0) (S : Obstacle → Type 0) (xs : List ℕ) (n : ℕ) (l : Look) → length xs ≤ n
    → Limits (λ j. All (P j) (take n xs)) S l → Limits (λ j. All (P j) xs) S l
limits_whole P S xs n l whole limits = subst (λ ys. Limits (λ j. All (P j) ys) S l) (take_all n xs whole) limits
