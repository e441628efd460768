-- The sets of outer nodes that an edge crosses.
use Rattle.std.proofs.Common.{ℕ, zero, suc, ◌≡◌, ◌+◌, ◌-◌, ◌*◌, ◌%◌, ◌≤◌, ◌<◌, ◌==◌, ◌&&◌, ◌||◌, ◌⊎◌, inl, inr, Bool, true, false, cond, List, [], ◌∷◌, map, length, All, AllPairs, Option, Some, None, sum_by, get_or, refl, sym, ap, ◌∙◌, arith}
use Rattle.std.proofs.Math.Bool.{and-true}
use Rattle.std.specs.List.{find}
use Rattle.std.specs.Option.{option_map}
use Rattle.std.proofs.lemmas.Bool.{false≢true, cases_eq, cases_Bool, both_ways, and_from, and_parts, eq-eqb, or_right, false_from_ne_true}
use Rattle.std.proofs.lemmas.List.Elements.{All-nil, All-cons, All-head, All-tail, All-from_get_or}
use Rattle.std.proofs.lemmas.List.Sums.{sum_by-cons}
use Rattle.fb_graph.specs.Parity.{differ, is_in}
use Rattle.fb_graph.specs.Problem.{Problem, crosses}
use Rattle.fb_graph.specs.Certificate.{AreDistinct, load_of}
use Rattle.fb_graph.specs.Dual.{Node, IsDual, all_cuts, cover_of, height_of, is_outer, node_at, no_node, AreUnderOne, AreOuterApart, AreApart}
use Rattle.fb_graph.specs.declared.parts.Edge.{Edge}
use Rattle.fb_graph.proofs.Sums.{sum_same, sum_zero, sum_add}
use Rattle.fb_graph.specs.Counts.{as_count}
use Rattle.fb_graph.specs.Steps.{Roles, AreExclusive, gains, losses}
use Rattle.fb_graph.specs.Covers.{passes, is_covered_by, PassOuterOnly, HaveParity, IsClear, CrossingsByCover, NoCrossingsWithin, LevelBetween, LevelWithin, LevelOutside, EvenResidue, FreeStep}

-- the outer nodes of the list are apart
abbrev AreApartWhere : (Node → Bool) → List Node → Type 0
AreApartWhere outer ns =
    AllPairs (λ m n. outer m ≡ true → outer n ≡ true → AreApart m.top.vertices n.top.vertices) ns

apart_tail : (outer : Node → Bool) (n : Node) (ns : List Node) → AreApartWhere outer (n ∷ ns) → AreApartWhere outer ns
apart_tail outer n ns apart i j d less below = apart (suc i) (suc j) d (omega arith) (omega arith)

apart_head : (outer : Node → Bool) (n : Node) (ns : List Node) → AreApartWhere outer (n ∷ ns)
    → All (λ m. outer n ≡ true → outer m ≡ true → AreApart n.top.vertices m.top.vertices) ns
apart_head outer n ns apart j d less = apart zero (suc j) d (omega arith) (omega arith)

-- an outer node that holds the vertex is the one that is found
found : (outer : Node → Bool) (v : ℕ) (ns : List Node) → AreApartWhere outer ns
    → All (λ n. outer n ≡ true → is_in n.top.vertices v ≡ true → find (λ m. outer m && is_in m.top.vertices v) ns ≡ Some n) ns
found outer v [] apart = All-nil (λ n. outer n ≡ true → is_in n.top.vertices v ≡ true → find (λ m. outer m && is_in m.top.vertices v) [] ≡ Some n)
found outer v (n ∷ ns) apart =
    All-cons IsFound n ns
    (λ out within. ap (λ b. cond b (Some n) (find test ns)) (and_from (outer n) (is_in n.top.vertices v) out within))
    (λ i d less out within.
    ap (λ b. cond b (Some n) (find test ns))
    (missed (outer n) (is_in n.top.vertices v) (is_in (get_or ns i d).top.vertices v) within
    (λ first holding. apart_head outer n ns apart i d less first out v holding))
    ∙ found outer v ns (apart_tail outer n ns apart) i d less out within)
  where
    test : Node → Bool
    test m = outer m && is_in m.top.vertices v

    IsFound : Node → Type 0
    IsFound m = outer m ≡ true → is_in m.top.vertices v ≡ true → find test (n ∷ ns) ≡ Some m

    missed : (a b c : Bool) → c ≡ true → (a ≡ true → b ≡ true → c ≡ false) → (a && b) ≡ false
    missed true true c is not_both = absurd (both_ways c (not_both refl refl) is)
    missed true false c is not_both = refl
    missed false b c is not_both = refl

over_found : (Node → Bool) → Option Node → Bool
over_found q None = false
over_found q (Some n) = q n

-- of the nodes that pass, one holds the vertex where the one that is found passes
count_over : (outer q : Node → Bool) (v : ℕ) (ns : List Node) → AreApartWhere outer ns
    → All (λ n. q n ≡ true → outer n ≡ true) ns
    → sum_by (λ n. cond (q n && is_in n.top.vertices v) 1 0) ns
    ≡ cond (over_found q (find (λ m. outer m && is_in m.top.vertices v) ns)) 1 0
unfolding over_found
count_over outer q v [] apart only = refl
count_over outer q v (n ∷ ns) apart only =
    step (cases_Bool (test n))
    (count_over outer q v ns (apart_tail outer n ns apart) (All-tail (λ m. q m ≡ true → outer m ≡ true) n ns only))
  where
    test : Node → Bool
    test m = outer m && is_in m.top.vertices v

    one : Node → ℕ
    one m = cond (q m && is_in m.top.vertices v) 1 0

    absent : (a b c : Bool) → (a ≡ true → b ≡ true) → (b ≡ true → c ≡ false) → (a && c) ≡ false
    absent true b c h k = k (h refl)
    absent false b c h k = refl

    missing : (a b c : Bool) → (a ≡ true → b ≡ true) → (b && c) ≡ false → (a && c) ≡ false
    missing true b c h k = ap (λ x. x && c) (sym (h refl)) ∙ k
    missing false b c h k = refl

    step : (test n ≡ true) ⊎ (test n ≡ false)
        → sum_by one ns ≡ cond (over_found q (find test ns)) 1 0
        → sum_by one (n ∷ ns) ≡ cond (over_found q (cond (test n) (Some n) (find test ns))) 1 0
    step (inl e) ih =
        let parts = and_parts (outer n) (is_in n.top.vertices v) e in
        let none : sum_by one ns ≡ 0 =
        sum_same one (λ m. 0) ns
        (λ i d less.
        ap as_count
        (absent (q (get_or ns i d)) (outer (get_or ns i d)) (is_in (get_or ns i d).top.vertices v)
        (All-tail (λ m. q m ≡ true → outer m ≡ true) n ns only i d less)
        (λ out. apart_head outer n ns apart i d less parts.0 out v parts.1)))
        ∙ sum_zero ns in
        omega (
          arith,
          sum_by-cons one n ns,
          none,
          ap (λ b. as_count (q n && b)) parts.1,
          ap as_count (and-true (q n)),
          ap (λ b. as_count (over_found q (cond b (Some n) (find test ns)))) e,
        )
    step (inr e) ih =
        omega (
          arith,
          sum_by-cons one n ns,
          ih,
          ap as_count
              (missing (q n) (outer n) (is_in n.top.vertices v) (All-head (λ m. q m ≡ true → outer m ≡ true) n ns only) e),
          ap (λ b. as_count (over_found q (cond b (Some n) (find test ns)))) e,
        )

over_named : (test : ℕ → Bool) (o : Option Node) → over_found (λ n. test n.name) o ≡ passes test (option_map (λ n. n.name) o)
unfolding over_found
over_named test None = refl
over_named test (Some n) = refl

-- how many of the nodes that pass hold the vertex
pub count_by_cover : (test : ℕ → Bool) (nodes : List Node) (v : ℕ) → AreOuterApart nodes → PassOuterOnly test nodes
    → sum_by (λ n. cond (test n.name && is_in n.top.vertices v) 1 0) nodes ≡ as_count (is_covered_by test nodes v)
count_by_cover test nodes v apart only =
    count_over (λ n. is_outer nodes n.name) (λ n. test n.name) v nodes apart only
    ∙ ap as_count (over_named test (find (λ n. is_outer nodes n.name && is_in n.top.vertices v) nodes))

pub cover_found : (nodes : List Node) (v : ℕ) → AreOuterApart nodes
    → All (λ n. is_outer nodes n.name ≡ true → is_in n.top.vertices v ≡ true → cover_of nodes v ≡ Some n.name) nodes
cover_found nodes v apart i d less out within =
    ap (λ o. option_map (λ n. n.name) o) (found (λ n. is_outer nodes n.name) v nodes apart i d less out within)

crosses_sum : (q a b : Bool) → (q ≡ true → a ≡ true → b ≡ true → ⊥)
    → cond (q && differ a b) 1 0 ≡ cond (q && a) 1 0 + cond (q && b) 1 0
crosses_sum true true true h = absurd (h refl refl refl)
crosses_sum true true false h = refl
crosses_sum true false true h = refl
crosses_sum true false false h = refl
crosses_sum false a b h = refl

pub crossings_by_cover : CrossingsByCover
crossings_by_cover test nodes e apart only differs =
    sum_same (λ n. cond (test n.name && crosses n.top.vertices e) 1 0)
    (λ n. cond (test n.name && is_in n.top.vertices e.first) 1 0 + cond (test n.name && is_in n.top.vertices e.second) 1 0)
    nodes
    (λ i d less.
    crosses_sum (test (get_or nodes i d).name) (is_in (get_or nodes i d).top.vertices e.first)
    (is_in (get_or nodes i d).top.vertices e.second)
    (λ passing first second.
    differs (
      (get_or nodes i d).name,
      cover_found nodes e.first apart i d less (only i d less passing) first,
      cover_found nodes e.second apart i d less (only i d less passing) second,
    )))
    ∙ (sum_add (λ n. cond (test n.name && is_in n.top.vertices e.first) 1 0)
    (λ n. cond (test n.name && is_in n.top.vertices e.second) 1 0) nodes
    ∙ (ap (λ m. m + sum_by (λ n. cond (test n.name && is_in n.top.vertices e.second) 1 0) nodes)
    (count_by_cover test nodes e.first apart only)
    ∙ ap (λ m. as_count (is_covered_by test nodes e.first) + m) (count_by_cover test nodes e.second apart only)))

pub name_in : (ns : List Node) (j : ℕ) → j < length ns → is_in (map (λ n. n.name) ns) (node_at ns j).name ≡ true
name_in [] j less = absurd (omega arith)
name_in (n ∷ ns) zero less = ap (λ b. b || is_in (map (λ m. m.name) ns) n.name) (eq-eqb n.name n.name refl)
name_in (n ∷ ns) (suc j) less = or_right (n.name == (node_at ns j).name) _ (name_in ns j (omega arith))

-- the node of a name is one
pub one_of_name : (ns : List Node) → AreDistinct (map (λ n. n.name) ns) → (i j : ℕ) → i < length ns → j < length ns
    → (node_at ns i).name ≡ (node_at ns j).name → node_at ns i ≡ node_at ns j
one_of_name [] distinct i j first second same = absurd (omega arith)
one_of_name (n ∷ ns) distinct zero zero first second same = refl
one_of_name (n ∷ ns) distinct zero (suc j) first second same =
    absurd
    (both_ways (is_in (map (λ m. m.name) ns) n.name) distinct.0
    (ap (is_in (map (λ m. m.name) ns)) same ∙ name_in ns j (omega arith)))
one_of_name (n ∷ ns) distinct (suc i) zero first second same =
    absurd
    (both_ways (is_in (map (λ m. m.name) ns) n.name) distinct.0
    (ap (is_in (map (λ m. m.name) ns)) (sym same) ∙ name_in ns i (omega arith)))
one_of_name (n ∷ ns) distinct (suc i) (suc j) first second same =
    one_of_name ns distinct.1 i j (omega arith) (omega arith) same

-- what is found is at a place, and passes
pub found_place : (test : Node → Bool) (ns : List Node) (m : Node) → find test ns ≡ Some m
    → (j : ℕ) × (j < length ns) × (node_at ns j ≡ m) × (test m ≡ true)
found_place test [] m e = cc
found_place test (n ∷ ns) m e = step (cases_Bool (test n)) (found_place test ns m)
  where
    step : (test n ≡ true) ⊎ (test n ≡ false)
        → (find test ns ≡ Some m → (j : ℕ) × (j < length ns) × (node_at ns j ≡ m) × (test m ≡ true))
        → (j : ℕ) × (j < length (n ∷ ns)) × (node_at (n ∷ ns) j ≡ m) × (test m ≡ true)
    step (inl here) rest =
        let at : cond (test n) (Some n) (find test ns) ≡ Some n = ap (λ b. cond b (Some n) (find test ns)) here in
        let whole : cond (test n) (Some n) (find test ns) ≡ Some m = e in
        let same : n ≡ m = cc in
        (0, omega arith, same, ap test (sym same) ∙ here)
    step (inr here) rest =
        let at : cond (test n) (Some n) (find test ns) ≡ find test ns = ap (λ b. cond b (Some n) (find test ns)) here in
        let (j, less, same, passing) = rest (sym at ∙ e) in
        (suc j, omega arith, same, passing)

-- the node that is named as the cover holds the vertex
pub cover_holds : (nodes : List Node) (v name : ℕ) → AreDistinct (map (λ n. n.name) nodes) → cover_of nodes v ≡ Some name
    → (i : ℕ) → i < length nodes → (node_at nodes i).name ≡ name → is_in (node_at nodes i).top.vertices v ≡ true
cover_holds nodes v name distinct cover i less named = step (find test nodes) refl cover
  where
    test : Node → Bool
    test n = is_outer nodes n.name && is_in n.top.vertices v

    step : (o : Option Node) → find test nodes ≡ o → option_map (λ n. n.name) o ≡ Some name
        → is_in (node_at nodes i).top.vertices v ≡ true
    step None e c = cc
    step (Some m) e c =
        let (j, below, same, passing) = found_place test nodes m e in
        let m_named : m.name ≡ name = cc in
        let alike : node_at nodes i ≡ node_at nodes j =
        one_of_name nodes distinct i j less below (named ∙ (sym m_named ∙ ap (λ n. n.name) (sym same))) in
        ap (λ n. is_in n.top.vertices v) (alike ∙ same) ∙ (and_parts (is_outer nodes m.name) (is_in m.top.vertices v) passing).1

pub no_crossings_within : NoCrossingsWithin
no_crossings_within test nodes e apart only distinct (name, first, second) =
    sum_same (λ n. cond (test n.name && crosses n.top.vertices e) 1 0) (λ n. 0) nodes
    (All-from_get_or (λ n. as_count (test n.name && crosses n.top.vertices e) ≡ 0) nodes no_node
    (λ i less.
    let n : Node = node_at nodes i in
    none (test n.name) (is_in n.top.vertices e.first) (is_in n.top.vertices e.second)
    (λ passing holding.
    let covered = cover_found nodes e.first apart i no_node less (only i no_node less passing) holding in
    cover_holds nodes e.second name distinct second i less (let named : n.name ≡ name = cc in named))
    (λ passing holding.
    let covered = cover_found nodes e.second apart i no_node less (only i no_node less passing) holding in
    cover_holds nodes e.first name distinct first i less (let named : n.name ≡ name = cc in named))))
    ∙ sum_zero nodes
  where
    none : (q a b : Bool) → (q ≡ true → a ≡ true → b ≡ true) → (q ≡ true → b ≡ true → a ≡ true)
        → as_count (q && differ a b) ≡ 0
    none true true b there back = ap (λ x. as_count (differ true x)) (there refl refl)
    none true false true there back = absurd (false≢true (back refl refl))
    none true false false there back = refl
    none false a b there back = refl

pub some_passes : (test : ℕ → Bool) (o : Option ℕ) → passes test o ≡ true → (name : ℕ) × (o ≡ Some name) × (test name ≡ true)
some_passes test None e = absurd (false≢true e)
some_passes test (Some name) e = (name, refl, e)

pub exclusive_over : (roles : Roles) (o : Option ℕ) → AreExclusive roles → passes roles.is_plus o ≡ true
    → passes roles.is_minus o ≡ false
exclusive_over roles None apart e = refl
exclusive_over roles (Some name) apart e = apart name e

pub exclusive_under : (roles : Roles) (o : Option ℕ) → AreExclusive roles → passes roles.is_minus o ≡ true
    → passes roles.is_plus o ≡ false
exclusive_under roles o apart e = false_from_ne_true _ (λ plus. both_ways _ (exclusive_over roles o apart plus) e)

pub level_between : LevelBetween
level_between roles nodes e apart are plus minus =
    crossings_by_cover roles.is_plus nodes e apart are.plus differs
    ∙ (omega (
      arith,
      ap as_count plus,
      ap as_count (exclusive_under roles (cover_of nodes e.second) are.exclusive minus),
      ap as_count minus,
      ap as_count (exclusive_over roles (cover_of nodes e.first) are.exclusive plus),
    )
    ∙ sym (crossings_by_cover roles.is_minus nodes e apart are.minus differs))
  where
    differs : ¬ AreUnderOne nodes e.first e.second
    differs (name, first, second) =
        both_ways (passes roles.is_minus (cover_of nodes e.second))
        (ap (passes roles.is_minus) (second ∙ sym first) ∙ exclusive_over roles (cover_of nodes e.first) are.exclusive plus)
        minus

pub level_within : LevelWithin
level_within roles nodes e apart names are under =
    no_crossings_within roles.is_plus nodes e apart are.plus names under
    ∙ sym (no_crossings_within roles.is_minus nodes e apart are.minus names under)

-- whether one outer node holds both
pub under_or_not : (nodes : List Node) (u v : ℕ) → AreUnderOne nodes u v ⊎ (AreUnderOne nodes u v → ⊥)
under_or_not nodes u v = step (cover_of nodes u) (cover_of nodes v) refl refl
  where
    step : (a b : Option ℕ) → cover_of nodes u ≡ a → cover_of nodes v ≡ b
        → AreUnderOne nodes u v ⊎ (AreUnderOne nodes u v → ⊥)
    step None b first second = inr (λ under. let h = under.1 in cc)
    step (Some m) None first second = inr (λ under. let h = under.2 in cc)
    step (Some m) (Some n) first second = by (cases_eq m n)
      where
        by : (m ≡ n) ⊎ (m ≡ n → ⊥) → AreUnderOne nodes u v ⊎ (AreUnderOne nodes u v → ⊥)
        by (inl same) = inl (m, first, second ∙ ap Some (sym same))
        by (inr other) = inr (λ under.
            other (let h = under.1 in let k = under.2 in let same : m ≡ n = cc in same))

pub level_outside : LevelOutside
level_outside roles nodes e apart names are plus more minus fewer = step (under_or_not nodes e.first e.second)
  where
    step : AreUnderOne nodes e.first e.second ⊎ (AreUnderOne nodes e.first e.second → ⊥)
        → gains roles nodes e ≡ losses roles nodes e
    step (inl under) = level_within roles nodes e apart names are under
    step (inr differs) =
        crossings_by_cover roles.is_plus nodes e apart are.plus differs
        ∙ (omega (arith, ap as_count plus, ap as_count more, ap as_count minus, ap as_count fewer)
        ∙ sym (crossings_by_cover roles.is_minus nodes e apart are.minus differs))

pub parity_of_covered : (p : Problem) (test : ℕ → Bool) (nodes : List Node) (r v : ℕ) → IsDual p nodes → HaveParity test nodes r
    → is_covered_by test nodes v ≡ true → height_of (all_cuts nodes) v % 2 ≡ r
parity_of_covered p test nodes r v dual parity over =
    let (name, cover, passing) = some_passes test (cover_of nodes v) over in
    let (d, leaf, covered, same) = dual.parity v name cover in
    sym same ∙ parity d name leaf covered passing

pub even_residue : EvenResidue
even_residue p roles nodes r e dual parity even differs first second =
    let one = parity_of_covered p roles.is_plus nodes r e.first dual parity first in
    let other = parity_of_covered p roles.is_plus nodes r e.second dual parity second in
    omega (arith, one, other, even, dual.loads e differs)

bears_one : (p m q n : Bool) (load weight : ℕ) → load ≤ weight → (p ≡ true → m ≡ false) → (q ≡ true → n ≡ false)
    → (p ≡ true → n ≡ false → load < weight) → (q ≡ true → m ≡ false → load < weight)
    → (p ≡ true → q ≡ true → (weight - load) % 2 ≡ 0)
    → load + (as_count p + as_count q) ≤ weight + (as_count m + as_count n)
bears_one false m false n load weight light a b c d even = omega arith
bears_one true m true n load weight light a b c d even =
    let less : load < weight = c refl (b refl) in
    let h : (weight - load) % 2 ≡ 0 = even refl refl in
    omega arith
bears_one true m false true load weight light a b c d even = omega arith
bears_one true m false false load weight light a b c d even = let less : load < weight = c refl refl in omega arith
bears_one false true true n load weight light a b c d even = omega arith
bears_one false false true n load weight light a b c d even = let less : load < weight = d refl refl in omega arith

pub free_step : FreeStep
free_step p roles nodes r dual are parity even clear = record {
  edges = λ i d less.
      step (get_or p.edges i d) (dual.packing.fits i d less) (even i d less) (clear.edges i d less)
      (under_or_not nodes (get_or p.edges i d).first (get_or p.edges i d).second);
  tops = clear.layers;
}
  where
    step : (e : Edge) → load_of (all_cuts nodes) e ≤ e.weight → e.weight % 2 ≡ 0
        → (¬ AreUnderOne nodes e.first e.second → IsClear roles nodes e)
        → AreUnderOne nodes e.first e.second ⊎ (AreUnderOne nodes e.first e.second → ⊥)
        → load_of (all_cuts nodes) e + 1 * gains roles nodes e ≤ e.weight + 1 * losses roles nodes e
    step e light two open_ (inl under) = omega (arith, light, level_within roles nodes e dual.apart dual.names are under)
    step e light two open_ (inr differs) =
        let bears =
        bears_one (is_covered_by roles.is_plus nodes e.first) (is_covered_by roles.is_minus nodes e.first)
        (is_covered_by roles.is_plus nodes e.second) (is_covered_by roles.is_minus nodes e.second)
        (load_of (all_cuts nodes) e) e.weight light
        (exclusive_over roles (cover_of nodes e.first) are.exclusive)
        (exclusive_over roles (cover_of nodes e.second) are.exclusive)
        (open_ differs).first (open_ differs).second
        (even_residue p roles nodes r e dual parity two differs) in
        omega (
          arith,
          bears,
          crossings_by_cover roles.is_plus nodes e dual.apart are.plus differs,
          crossings_by_cover roles.is_minus nodes e dual.apart are.minus differs,
        )
