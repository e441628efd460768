-- The plan of a lattice by time breaks no rule of a plan.
use Rattle.std.proofs.Common.{◌≡◌, ℕ, zero, suc, ◌+◌, ◌-◌, ◌<◌, ◌≤◌, Bool, true, false, ◌||◌, ◌==◌, List, [], ◌∷◌, ◌++◌, length, map, get_or, count_by, refl, sym, subst, arith}
use Rattle.std.specs.List.{range_with_len}
use Rattle.std.proofs.lemmas.Bool.{eq-eqb}
use Rattle.std.proofs.lemmas.List.{length-map, get_or-map}
use Rattle.fb_plan.specs.Plans.{PlanTree, IsTree, IsJoin, names, join_at, is_within}
use Rattle.fb_plan.proofs.Trees.{within_left, within_right, within_self, within-trans}
use Rattle.fb_gen.specs.TimePlan.{no_fusion, first_level, fusions_of_level, level_above, fusions_from, time_fusions, time_tree}
use Rattle.fb_gen.specs.InternalSharing.{IsShared}
use Rattle.fb_gen.specs.declared.levels.Part.{Part}
use Rattle.fb_gen.specs.declared.levels.Fusion.{Fusion}
use Rattle.fb_gen.proofs.Fusions.{count-cons, count_at, once_by, uses_of, length-fusions, fusion_is_later, uses_once}
use Rattle.fb_graph.specs.Counts.{as_count}

abbrev pub nodes_of : Fusion → ℕ × ℕ
nodes_of f = (f.left, f.right)

one_or : (a b : Bool) → as_count (a || b) ≤ as_count a + as_count b
one_or true b = omega arith
one_or false b = omega arith

names_uses : (n : ℕ) (fs : List Fusion) → count_by (λ f. names (nodes_of f) n) fs ≤ uses_of n fs
names_uses n [] = omega arith
names_uses n (f ∷ fs) =
    omega (
      arith,
      count-cons (λ (g : Fusion). names (nodes_of g) n) f fs,
      count-cons (λ (g : Fusion). g.left == n) f fs,
      count-cons (λ (g : Fusion). g.right == n) f fs,
      one_or (f.left == n) (f.right == n),
      names_uses n fs,
    )

-- the fusion that a join of the plan is
pub join_is : (d t u i : ℕ) → i < length (time_fusions u)
    → join_at (time_tree d t u).joins i ≡ nodes_of (get_or (time_fusions u) i no_fusion)
join_is d t u i less = get_or-map nodes_of (time_fusions u) i no_fusion (0, 0) less

pub joins_length : (d t u : ℕ) → length (time_tree d t u).joins ≡ length (time_fusions u)
joins_length d t u = length-map (time_fusions u) nodes_of

pub time_tree_is_tree : (d t u : ℕ) → IsShared t u → IsTree (time_tree d t u)
time_tree_is_tree d t u shared = record {
  limit = shared.limit;
  count = omega (arith, length-fusions u shared.positive, joins_length d t u);
  joins = joins;
  once = once;
}
  where
    joins : (i : ℕ) → i < length (time_tree d t u).joins → IsJoin (u + i) (join_at (time_tree d t u).joins i)
    joins i less =
        let within : i < length (time_fusions u) = omega (arith, joins_length d t u) in
        let f : Fusion = get_or (time_fusions u) i no_fusion in
        rw (join_is d t u i within) (record {
          left = (fusion_is_later u i within).0;
          right = (fusion_is_later u i within).1;
          differ = λ same. absurd (omega (
            arith,
            uses_once u f.left,
            count_at (λ (g : Fusion). g.left == f.left) (time_fusions u) i no_fusion within (eq-eqb f.left f.left refl),
            count_at (λ (g : Fusion). g.right == f.left) (time_fusions u) i no_fusion within (eq-eqb f.right f.left (sym same)),
          ));
        })

    once : (i k n : ℕ) → i < length (time_tree d t u).joins → k < length (time_tree d t u).joins
        → names (join_at (time_tree d t u).joins i) n ≡ true → names (join_at (time_tree d t u).joins k) n ≡ true → i ≡ k
    once i k n ilt klt here there =
        let iw : i < length (time_fusions u) = omega (arith, joins_length d t u) in
        let kw : k < length (time_fusions u) = omega (arith, joins_length d t u) in
        once_by (λ (f : Fusion). names (nodes_of f) n) (time_fusions u) i k no_fusion
        (omega (arith, names_uses n (time_fusions u), uses_once u n)) iw kw
        (rw (join_is d t u i iw) at here) (rw (join_is d t u k kw) at there)

-- A node of a level holds the unit after the seam before it, and the next seam's unit before it.
abbrev pub IsLinked : PlanTree → List Part → Type 0
IsLinked t [] = Unit {0}
IsLinked t (a ∷ []) = is_within t a.node a.seam ≡ true
IsLinked t (a ∷ b ∷ more) = (is_within t a.node a.seam ≡ true) × (is_within t a.node (b.seam - 1) ≡ true) × IsLinked t (b ∷ more)

-- fusions, the first of number n, each above its two nodes
abbrev pub AreAbove : PlanTree → ℕ → List Fusion → Type 0
AreAbove t n [] = Unit {0}
AreAbove t n (f ∷ fs) = (is_within t n f.left ≡ true) × (is_within t n f.right ≡ true) × AreAbove t (n + 1) fs

-- fusions, the first of number n, each above the two units of its seam
abbrev pub AreBetween : PlanTree → ℕ → List Fusion → Type 0
AreBetween t n [] = Unit {0}
AreBetween t n (f ∷ fs) = (is_within t n (f.seam - 1) ≡ true) × (is_within t n f.seam ≡ true) × AreBetween t (n + 1) fs

above-front : (t : PlanTree) (n : ℕ) (fs gs : List Fusion) → AreAbove t n (fs ++ gs) → AreAbove t n fs × AreAbove t (n + length fs) gs
above-front t n [] gs above = (tt, let e : n ≡ n + 0 = omega arith in subst (λ m. AreAbove t m gs) e above)
above-front t n (f ∷ fs) gs above =
    let rest = above-front t (n + 1) fs gs above.2 in
    let e : n + 1 + length fs ≡ n + suc (length fs) = omega arith in
    ((above.0, above.1, rest.0), subst (λ m. AreAbove t m gs) e rest.1)

between-append : (t : PlanTree) (n : ℕ) (fs gs : List Fusion) → AreBetween t n fs → AreBetween t (n + length fs) gs
    → AreBetween t n (fs ++ gs)
between-append t n [] gs between then = let e : n + 0 ≡ n = omega arith in subst (λ m. AreBetween t m gs) e then
between-append t n (f ∷ fs) gs between then =
    let e : n + suc (length fs) ≡ n + 1 + length fs = omega arith in
    (between.0, between.1, between-append t (n + 1) fs gs between.2 (subst (λ m. AreBetween t m gs) e then))

-- a level's fusions lie between the units of their seams, and the level above is linked too
linked_level : (t : PlanTree) → IsTree t → (n : ℕ) (level : List Part) → IsLinked t level → AreAbove t n (fusions_of_level level)
    → AreBetween t n (fusions_of_level level) × IsLinked t (level_above n level)
linked_level t tree n [] linked above = (tt, tt)
linked_level t tree n (a ∷ []) linked above = (tt, linked)
linked_level t tree n (a ∷ b ∷ []) linked above =
    ((through_left (b.seam - 1) linked.1, through_right b.seam linked.2, tt), through_left a.seam linked.0)
  where
    through_left : (m : ℕ) → is_within t a.node m ≡ true → is_within t n m ≡ true
    through_left m inside = within-trans t tree n a.node m above.0 inside

    through_right : (m : ℕ) → is_within t b.node m ≡ true → is_within t n m ≡ true
    through_right m inside = within-trans t tree n b.node m above.1 inside
linked_level t tree n (a ∷ b ∷ c ∷ []) linked above = (
  (through_left (b.seam - 1) linked.1, through_right b.seam linked.2.0, tt),
  (through_left a.seam linked.0, through_right (c.seam - 1) linked.2.1, linked.2.2),
)
  where
    through_left : (m : ℕ) → is_within t a.node m ≡ true → is_within t n m ≡ true
    through_left m inside = within-trans t tree n a.node m above.0 inside

    through_right : (m : ℕ) → is_within t b.node m ≡ true → is_within t n m ≡ true
    through_right m inside = within-trans t tree n b.node m above.1 inside
linked_level t tree n (a ∷ b ∷ c ∷ e ∷ more) linked above =
    let rest = linked_level t tree (n + 1) (c ∷ e ∷ more) linked.2.2 above.2 in (
      (through_left (b.seam - 1) linked.1, through_right b.seam linked.2.0, rest.0),
      (through_left a.seam linked.0, through_right (c.seam - 1) linked.2.1, rest.1),
    )
  where
    through_left : (m : ℕ) → is_within t a.node m ≡ true → is_within t n m ≡ true
    through_left m inside = within-trans t tree n a.node m above.0 inside

    through_right : (m : ℕ) → is_within t b.node m ≡ true → is_within t n m ≡ true
    through_right m inside = within-trans t tree n b.node m above.1 inside

linked_all : (t : PlanTree) → IsTree t → (levels n : ℕ) (level : List Part) → IsLinked t level
    → AreAbove t n (fusions_from levels n level) → AreBetween t n (fusions_from levels n level)
linked_all t tree zero n level linked above = tt
linked_all t tree (suc levels) n level linked above =
    let here : List Fusion = fusions_of_level level in
    let rest : List Fusion = fusions_from levels (n + length here) (level_above n level) in
    let parts = above-front t n here rest above in
    let step = linked_level t tree n level linked parts.0 in
    between-append t n here rest step.0 (linked_all t tree levels (n + length here) (level_above n level) step.1 parts.1)

-- the units are linked, each to the next
units_linked : (t : PlanTree) → IsTree t → (a n : ℕ) → a + n ≤ t.units
    → IsLinked t (map (λ j. record { seam = j; node = j }) (range_with_len a n))
units_linked t tree a zero few = tt
units_linked t tree a (suc zero) few = within_self t tree a (omega arith)
units_linked t tree a (suc (suc n)) few =
    let back : a ≡ a + 1 - 1 = omega arith in
    let self : is_within t a a ≡ true = within_self t tree a (omega arith) in
    (self, subst (λ m. is_within t a m ≡ true) back self, units_linked t tree (a + 1) (suc n) (omega arith))

above_from : (t : PlanTree) (n : ℕ) (fs : List Fusion)
    → ((i : ℕ) → i < length fs → (is_within t (n + i) (get_or fs i no_fusion).left ≡ true) × (is_within t (n + i) (get_or fs i no_fusion).right ≡ true))
    → AreAbove t n fs
above_from t n [] each = tt
above_from t n (f ∷ fs) each =
    let e : n + 0 ≡ n = omega arith in (
      subst (λ m. is_within t m f.left ≡ true) e (each 0 (omega arith)).0,
      subst (λ m. is_within t m f.right ≡ true) e (each 0 (omega arith)).1,
      above_from t (n + 1) fs (λ i less.
          let k : n + suc i ≡ n + 1 + i = omega arith in
          subst (λ m. (is_within t m (get_or fs i no_fusion).left ≡ true) × (is_within t m (get_or fs i no_fusion).right ≡ true)) k (each (suc i) (omega arith))),
    )

between_at : (t : PlanTree) (n : ℕ) (fs : List Fusion) → AreBetween t n fs → (i : ℕ) → i < length fs
    → (is_within t (n + i) ((get_or fs i no_fusion).seam - 1) ≡ true) × (is_within t (n + i) (get_or fs i no_fusion).seam ≡ true)
between_at t n [] between i less = absurd (omega arith)
between_at t n (f ∷ fs) between zero less =
    let e : n ≡ n + 0 = omega arith in
    subst (λ m. (is_within t m (f.seam - 1) ≡ true) × (is_within t m f.seam ≡ true)) e (between.0, between.1)
between_at t n (f ∷ fs) between (suc i) less =
    let e : n + 1 + i ≡ n + suc i = omega arith in
    subst (λ m. (is_within t m ((get_or fs i no_fusion).seam - 1) ≡ true) × (is_within t m (get_or fs i no_fusion).seam ≡ true)) e
    (between_at t (n + 1) fs between.2 i (omega arith))

-- below each fusion lie the two units of its seam
pub fusion_is_between : (d t u i : ℕ) → IsShared t u → i < length (time_fusions u)
    → (is_within (time_tree d t u) (u + i) ((get_or (time_fusions u) i no_fusion).seam - 1) ≡ true)
    × (is_within (time_tree d t u) (u + i) (get_or (time_fusions u) i no_fusion).seam ≡ true)
unfolding time_fusions
fusion_is_between d t u i shared less =
    between_at tree u (time_fusions u)
    (linked_all tree is_tree u u (first_level u) (units_linked tree is_tree 0 u (omega arith))
    (above_from tree u (time_fusions u) above)) i less
  where
    tree : PlanTree
    tree = time_tree d t u

    is_tree : IsTree (time_tree d t u)
    is_tree = time_tree_is_tree d t u shared

    above : (k : ℕ) → k < length (time_fusions u)
        → (is_within (time_tree d t u) (u + k) (get_or (time_fusions u) k no_fusion).left ≡ true)
        × (is_within (time_tree d t u) (u + k) (get_or (time_fusions u) k no_fusion).right ≡ true)
    above k within =
        let kw : k < length (time_tree d t u).joins = omega (arith, joins_length d t u) in
        let later = fusion_is_later u k within in
        let count : length (time_fusions u) ≡ length (time_tree d t u).joins = sym (joins_length d t u) in
        let e = join_is d t u k within in (
          within_left (time_tree d t u) is_tree k (get_or (time_fusions u) k no_fusion).left kw
              (rw e (within_self (time_tree d t u) is_tree (get_or (time_fusions u) k no_fusion).left (omega (arith, later.0)))),
          within_right (time_tree d t u) is_tree k (get_or (time_fusions u) k no_fusion).right kw
              (rw e (within_self (time_tree d t u) is_tree (get_or (time_fusions u) k no_fusion).right (omega (arith, later.1)))),
        )
