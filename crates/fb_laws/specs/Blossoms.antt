-- Blossoms formed and opened, by the ends of matched links in their sets (Edmonds 1965).
use Rattle.std.specs.Prelude.{ℕ, ◌≡◌, ◌+◌, ◌*◌, ◌%◌, ◌≤◌, ◌<◌, ◌-◌, ◌⊎◌, Bool, true, false, not, List, [], ◌∷◌, ◌++◌, length, All, sum_by}
use Rattle.std.specs.List.{concat}
use Rattle.fb_graph.specs.Parity.{is_in}
use Rattle.fb_graph.specs.Laws.{Link}
use Rattle.fb_graph.specs.Dual.{AreApart}
use Rattle.fb_graph.specs.Counts.{as_count}
use Rattle.fb_graph.specs.Steps.{Roles, AreExclusive}
use Rattle.fb_graph.specs.Ends.{ends_in, AreAllApart}
use Rattle.fb_laws.specs.Paths.{Joins, holds, IsWhole}

-- both ends of the link lie in the set
abbrev pub IsInside : List ℕ → Link → Type 0
IsInside set l = (is_in set l.from ≡ true) × (is_in set l.to ≡ true)

-- A blossom's matched links are those of its children except the inner ones.
abbrev pub FormedEnds : Type 0
FormedEnds = (sets : List (List ℕ)) (inner rest : List Link) → AreAllApart sets → All (IsInside (concat sets)) inner
    → ends_in (concat sets) rest + 2 * length inner ≡ sum_by (λ s. ends_in s (inner ++ rest)) sets

-- If all children but the base are matched among one another, the blossom is matched as its base was.
abbrev pub BaseAlone : Type 0
BaseAlone = (base : List ℕ) (others : List (List ℕ)) (inner rest : List Link) → AreAllApart (base ∷ others)
    → All (IsInside (concat (base ∷ others))) inner → length others ≡ 2 * length inner
    → All (λ s. ends_in s (inner ++ rest) ≡ 1) others
    → ends_in (concat (base ∷ others)) rest ≡ ends_in base (inner ++ rest)

-- the sets in pairs, each pair with a link that joins it
abbrev pub ArePaired : List (List ℕ) → List Link → Type 0
ArePaired [] [] = Unit {0}
ArePaired (a ∷ b ∷ sets) (l ∷ links) = Joins l a b × ArePaired sets links
ArePaired (a ∷ []) links = ⊥
ArePaired [] (l ∷ links) = ⊥
ArePaired (a ∷ b ∷ sets) [] = ⊥

-- A set that divides none of the paired sets has an end for each that it holds.
abbrev pub PairedEnds : Type 0
PairedEnds = (set : List ℕ) (sets : List (List ℕ)) (links : List Link) → ArePaired sets links → All (IsWhole set) sets
    → ends_in set links ≡ sum_by (λ s. as_count (holds set s)) sets

-- A blossom opened: its children but one, in pairs along the cycle, have one end each, and a set apart from them has
-- none.
abbrev pub OpenedOnce : Type 0
OpenedOnce = (sets : List (List ℕ)) (links : List Link) → ArePaired sets links → AreAllApart sets
    → All (λ s. ends_in s links ≡ 1) sets

abbrev pub OpenedElsewhere : Type 0
OpenedElsewhere = (set : List ℕ) (sets : List (List ℕ)) (links : List Link) → ArePaired sets links
    → All (AreApart set) sets → ends_in set links ≡ 0

-- the one child that keeps the blossom's own link is matched as the blossom was
abbrev pub KeptChild : Type 0
KeptChild = (kept : List ℕ) (sets : List (List ℕ)) (links rest : List Link) → ArePaired sets links
    → AreAllApart (kept ∷ sets) → All (λ s. ends_in s rest ≡ 0) sets
    → ends_in kept (links ++ rest) ≡ ends_in (concat (kept ∷ sets)) rest

-- the node has the role: plus for true, minus for false
abbrev pub HasRole : Roles → Bool → ℕ → Type 0
HasRole roles true n = roles.is_plus n ≡ true
HasRole roles false n = roles.is_minus n ≡ true

-- the nodes' roles alternate, the first one being given
abbrev pub AlternateFrom : Roles → Bool → List ℕ → Type 0
AlternateFrom roles plus [] = Unit {0}
AlternateFrom roles plus (n ∷ ns) = HasRole roles plus n × AlternateFrom roles (not plus) ns

-- The cycle that a link between two plus nodes closes is odd: it goes up from the one to the node at which their paths
-- to the root meet, and down to the other.
abbrev pub OddCycle : Type 0
OddCycle = (roles : Roles) (up down tail : List ℕ) (meet : ℕ) → AreExclusive roles
    → AlternateFrom roles true (up ++ meet ∷ tail) → AlternateFrom roles true (down ++ meet ∷ tail)
    → (length up + 1 + length down) % 2 ≡ 1

-- They meet at a plus node if no minus node has two children: then the blossom's base is plus.
abbrev pub PlusBase : Type 0
PlusBase = (roles : Roles) (up down tail : List ℕ) (meet : ℕ) → AreExclusive roles
    → AlternateFrom roles true (up ++ meet ∷ tail) → AlternateFrom roles true (down ++ meet ∷ tail) → AreApart up down
    → ((xs ys : List ℕ) (x y : ℕ) → up ≡ xs ++ x ∷ [] → down ≡ ys ++ y ∷ [] → roles.is_minus meet ≡ true → x ≡ y)
    → roles.is_plus meet ≡ true

-- Of the two ways round an odd cycle between two of its nodes, one has an even number of links.
abbrev pub EvenWay : Type 0
EvenWay = (n i j : ℕ) → n % 2 ≡ 1 → i ≤ j → j < n → ((j - i) % 2 ≡ 0) ⊎ ((n - (j - i)) % 2 ≡ 0)
