-- Ends of links of blossoms, and their cycles.
use Rattle.std.proofs.Common.{ℕ, ◌≡◌, ◌+◌, ◌-◌, ◌*◌, ◌%◌, ◌==◌, ◌≢◌, ◌⊎◌, inl, inr, Bool, true, false, not, List, [], ◌∷◌, ◌++◌, length, All, get_or, refl, sym, ap, ◌∙◌, arith}
use Rattle.std.specs.List.{concat}
use Rattle.std.proofs.lemmas.Bool.{both_ways, false≢true, cases_Bool, eqb-true, eqb-false}
use Rattle.std.proofs.lemmas.List.Elements.{All-nil, All-cons, All-head, All-tail}
use Rattle.std.proofs.lemmas.List.Sums.{sum_by-cons}
use Rattle.fb_graph.specs.Parity.{is_in}
use Rattle.fb_graph.specs.Laws.{Link}
use Rattle.fb_graph.specs.Dual.{AreApart}
use Rattle.fb_graph.proofs.Members.{is_in_pushed}
use Rattle.fb_graph.proofs.Sums.{sum_same, sum_ones, sum_zero}
use Rattle.fb_graph.proofs.Sets.{is_in-head}
use Rattle.fb_graph.specs.Counts.{as_count}
use Rattle.fb_graph.specs.Steps.{Roles, AreExclusive}
use Rattle.fb_graph.specs.Ends.{ends_in}
use Rattle.fb_laws.specs.Paths.{Joins, holds, IsWhole}
use Rattle.fb_laws.specs.Blossoms.{IsInside, HasRole, AlternateFrom, FormedEnds, BaseAlone, PairedEnds, OpenedOnce, OpenedElsewhere, KeptChild, OddCycle, PlusBase, EvenWay}
use Rattle.fb_graph.proofs.EndSums.{ends-cons, ends_append, ends_union, apart_sym}
use Rattle.fb_laws.proofs.PathSums.{ends_between}

ends_inside : (set : List ℕ) (links : List Link) → All (IsInside set) links → ends_in set links ≡ 2 * length links
ends_inside set [] inside = refl
ends_inside set (l ∷ links) inside =
    let here : IsInside set l = All-head (IsInside set) l links inside in
    omega (
      arith,
      ends-cons set l links,
      ends_inside set links (All-tail (IsInside set) l links inside),
      ap as_count here.0,
      ap as_count here.1,
    )

pub formed_ends : FormedEnds
formed_ends sets inner rest apart inside =
    omega (
      arith,
      ends_union sets (inner ++ rest) apart,
      ends_append (concat sets) inner rest,
      ends_inside (concat sets) inner inside,
    )

pub base_alone : BaseAlone
base_alone base others inner rest apart inside even once =
    omega (
      arith,
      formed_ends (base ∷ others) inner rest apart inside,
      sum_by-cons (λ s. ends_in s (inner ++ rest)) base others,
      sum_same (λ s. ends_in s (inner ++ rest)) (λ s. 1) others once,
      sum_ones others,
      even,
    )

pub paired_ends : PairedEnds
paired_ends set [] [] paired whole = refl
paired_ends set (a ∷ b ∷ sets) (l ∷ links) (joins, paired) whole =
    let rest : All (IsWhole set) (b ∷ sets) = All-tail (IsWhole set) a (b ∷ sets) whole in
    omega (
      arith,
      ends-cons set l links,
      ends_between set a b l joins (All-head (IsWhole set) a (b ∷ sets) whole) (All-head (IsWhole set) b sets rest),
      paired_ends set sets links paired (All-tail (IsWhole set) b sets rest),
      sum_by-cons (λ s. as_count (holds set s)) a (b ∷ sets),
      sum_by-cons (λ s. as_count (holds set s)) b sets,
    )
paired_ends set (a ∷ []) links paired whole = absurd paired
paired_ends set [] (l ∷ links) paired whole = absurd paired
paired_ends set (a ∷ b ∷ sets) [] paired whole = absurd paired

-- a set holds nothing of one apart from it
pub holds_apart : (set part : List ℕ) → AreApart set part → holds set part ≡ false
holds_apart set [] apart = refl
holds_apart set (v ∷ vs) apart = apart_sym set (v ∷ vs) apart v (is_in-head v vs)

pub whole_apart : (set part : List ℕ) → AreApart set part → IsWhole set part
whole_apart set part apart v within = apart_sym set part apart v within ∙ sym (holds_apart set part apart)

pub holds_itself : (set : List ℕ) (v : ℕ) → is_in set v ≡ true → holds set set ≡ true
holds_itself [] v within = within
holds_itself (w ∷ ws) v within = is_in-head w ws

pub whole_itself : (set : List ℕ) → IsWhole set set
whole_itself set v within = within ∙ sym (holds_itself set v within)

pub opened_elsewhere : OpenedElsewhere
opened_elsewhere set sets links paired apart =
    paired_ends set sets links paired (λ i d less. whole_apart set (get_or sets i d) (apart i d less))
    ∙ (sum_same (λ s. as_count (holds set s)) (λ s. 0) sets
    (λ i d less. ap as_count (holds_apart set (get_or sets i d) (apart i d less)))
    ∙ sum_zero sets)

-- the first set of a link that joins two has a member
first_member : (l : Link) (a b : List ℕ) → Joins l a b → (v : ℕ) × (is_in a v ≡ true)
first_member l a b (v, inl (from, to), within) = (l.from, from)
first_member l a b (v, inr (to, from), within) = (l.to, to)

pub opened_once : OpenedOnce
opened_once [] [] paired apart = All-nil (λ s. ends_in s [] ≡ 1)
opened_once (a ∷ b ∷ sets) (l ∷ links) (joins, paired) (from_a, (from_b, apart)) =
    All-cons (λ s. ends_in s (l ∷ links) ≡ 1) a (b ∷ sets)
    (omega (
      arith,
      ends-cons a l links,
      ends_between a a b l joins (whole_itself a) (whole_apart a b a_b),
      ap as_count (holds_itself a (first_member l a b joins).0 (first_member l a b joins).1),
      ap as_count (holds_apart a b a_b),
      opened_elsewhere a sets links paired (All-tail (AreApart a) b sets from_a),
    ))
    (All-cons (λ s. ends_in s (l ∷ links) ≡ 1) b sets
    (omega (
      arith,
      ends-cons b l links,
      ends_between b a b l joins (whole_apart b a b_a) (whole_itself b),
      ap as_count (holds_itself b joins.0 joins.2),
      ap as_count (holds_apart b a b_a),
      opened_elsewhere b sets links paired from_b,
    ))
    (λ i d less.
    let s : List ℕ = get_or sets i d in
    let s_a : AreApart s a = apart_sym a s (All-tail (AreApart a) b sets from_a i d less) in
    let s_b : AreApart s b = apart_sym b s (from_b i d less) in
    omega (
      arith,
      ends-cons s l links,
      ends_between s a b l joins (whole_apart s a s_a) (whole_apart s b s_b),
      ap as_count (holds_apart s a s_a),
      ap as_count (holds_apart s b s_b),
      opened_once sets links paired apart i d less,
    )))
  where
    a_b : AreApart a b
    a_b = All-head (AreApart a) b sets from_a

    b_a : AreApart b a
    b_a = apart_sym a b a_b
opened_once (a ∷ []) links paired apart = absurd paired
opened_once [] (l ∷ links) paired apart = absurd paired
opened_once (a ∷ b ∷ sets) [] paired apart = absurd paired

pub kept_child : KeptChild
kept_child kept sets links rest paired apart none =
    omega (
      arith,
      ends_append kept links rest,
      opened_elsewhere kept sets links paired apart.0,
      ends_union (kept ∷ sets) rest apart,
      sum_by-cons (λ s. ends_in s rest) kept sets,
      sum_same (λ s. ends_in s rest) (λ s. 0) sets none,
      sum_zero sets,
    )

-- the role after a list of nodes
turned_by : Bool → List ℕ → Bool
turned_by plus [] = plus
turned_by plus (n ∷ ns) = turned_by (not plus) ns

role_at : (roles : Roles) (plus : Bool) (xs tail : List ℕ) (n : ℕ) → AlternateFrom roles plus (xs ++ n ∷ tail)
    → HasRole roles (turned_by plus xs) n
unfolding turned_by
role_at roles plus [] tail n alternate = alternate.0
role_at roles plus (x ∷ xs) tail n alternate = role_at roles (not plus) xs tail n alternate.1

one_role : (roles : Roles) (a b : Bool) (n : ℕ) → AreExclusive roles → HasRole roles a n → HasRole roles b n → a ≡ b
one_role roles true true n apart first second = refl
one_role roles true false n apart first second = absurd (both_ways (roles.is_minus n) (apart n first) second)
one_role roles false true n apart first second = absurd (both_ways (roles.is_minus n) (apart n second) first)
one_role roles false false n apart first second = refl

turned-length : (plus : Bool) (xs : List ℕ) → (as_count (turned_by plus xs) + length xs) % 2 ≡ as_count plus
unfolding turned_by
turned-length true [] = refl
turned-length false [] = refl
turned-length true (x ∷ xs) = omega (arith, turned-length false xs)
turned-length false (x ∷ xs) = omega (arith, turned-length true xs)

pub odd_cycle : OddCycle
odd_cycle roles up down tail meet apart first second =
    let same : turned_by true up ≡ turned_by true down =
    one_role roles (turned_by true up) (turned_by true down) meet apart (role_at roles true up tail meet first)
    (role_at roles true down tail meet second) in
    omega (arith, turned-length true up, turned-length true down, ap as_count same)

-- a list that isn't empty has a last entry
last_of : (xs : List ℕ) → (xs ≡ []) ⊎ ((ys : List ℕ) × (y : ℕ) × (xs ≡ ys ++ y ∷ []))
last_of [] = inl refl
last_of (x ∷ xs) = inr (step (last_of xs))
  where
    step : (xs ≡ []) ⊎ ((ys : List ℕ) × (y : ℕ) × (xs ≡ ys ++ y ∷ [])) → (ys : List ℕ) × (y : ℕ) × (x ∷ xs ≡ ys ++ y ∷ [])
    step (inl e) = ([], x, ap (λ l. x ∷ l) e)
    step (inr (ys, y, e)) = (x ∷ ys, y, ap (λ l. x ∷ l) e)

pub plus_base : PlusBase
unfolding turned_by
plus_base roles up down tail meet apart first second separate child =
    step (turned_by true up) (turned_by true down) (role_at roles true up tail meet first)
    (role_at roles true down tail meet second) refl refl
  where
    by_lasts : roles.is_minus meet ≡ true
        → (up ≡ []) ⊎ ((ys : List ℕ) × (y : ℕ) × (up ≡ ys ++ y ∷ []))
        → (down ≡ []) ⊎ ((ys : List ℕ) × (y : ℕ) × (down ≡ ys ++ y ∷ []))
        → turned_by true up ≡ false → turned_by true down ≡ false → roles.is_plus meet ≡ true
    by_lasts minus (inl e) other one two = absurd (false≢true (sym one ∙ ap (turned_by true) e))
    by_lasts minus (inr last) (inl e) one two = absurd (false≢true (sym two ∙ ap (turned_by true) e))
    by_lasts minus (inr (xs, x, e)) (inr (ys, y, f)) one two =
        let same : x ≡ y = child xs ys x y e f minus in
        let here : is_in up x ≡ true = ap (λ l. is_in l x) e ∙ is_in_pushed xs x in
        let there : is_in down x ≡ true = ap (λ l. is_in l x) f ∙ (ap (is_in (ys ++ y ∷ [])) same ∙ is_in_pushed ys y) in
        absurd (both_ways (is_in down x) (separate x here) there)

    step : (a b : Bool) → HasRole roles a meet → HasRole roles b meet → turned_by true up ≡ a → turned_by true down ≡ b
        → roles.is_plus meet ≡ true
    step true b plus other one two = plus
    step false true minus plus one two = plus
    step false false minus other one two = by_lasts minus (last_of up) (last_of down) one two

pub even_way : EvenWay
even_way n i j odd order below = step ((j - i) % 2) refl
  where
    step : (r : ℕ) → (j - i) % 2 ≡ r → ((j - i) % 2 ≡ 0) ⊎ ((n - (j - i)) % 2 ≡ 0)
    step r e = by (cases_Bool (r == 0))
      where
        by : ((r == 0) ≡ true) ⊎ ((r == 0) ≡ false) → ((j - i) % 2 ≡ 0) ⊎ ((n - (j - i)) % 2 ≡ 0)
        by (inl zero_) = inl (e ∙ eqb-true r 0 zero_)
        by (inr other) = inr (let ne : ◌≢◌ r 0 = eqb-false r 0 other in omega arith)
