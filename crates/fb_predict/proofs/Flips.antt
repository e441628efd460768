-- The observables that have an edge, number by number, and the bits that their edges flip.
use Rattle.std.proofs.Common.{◌≡◌, ℕ, ◌+◌, ◌<◌, ◌≤◌, ◌==◌, Bool, true, false, not, ◌&&◌, List, [], ◌∷◌, ◌++◌, length, take, map, set, replicate, get_or, All, inl, inr, refl, sym, ap, subst, ◌∙◌, append_assoc, append-nil, arith}
use Rattle.std.proofs.lemmas.Bool.{cases_lt, eqb-true, eqb-false, or_parts}
use Rattle.std.proofs.lemmas.List.{take_more, get_or_past, get_or_push, get_or_append_left, get_or-set_other, get_or-map, get_or-take, ext_get_or, length-map, length-append, map-append, length-take-le, length-replicate, get_or-replicate}
use Rattle.std.proofs.lemmas.List.Elements.{All-push}
use Rattle.std.proofs.Math.Bool.{and-true, and-false}
use Rattle.std.proofs.lemmas.Grind.{get_or-set_at}
use Rattle.fb_graph.specs.Certificate.{AreDistinct}
use Rattle.fb_graph.specs.Parity.{differ, is_odd_count, is_in}
use Rattle.fb_graph.proofs.Members.{AreDistinct_push}
use Rattle.fb_graph.proofs.ParitySums.{differ_assoc, differ-false, false-differ, odd-append, odd_same}
use Rattle.fb_graph.proofs.Sets.{odd_equal}
use Rattle.fb_predict.specs.ObservableText.{repeats, most_observables}
use Rattle.fb_predict.specs.InternalHolders.{AreHolders, AreNumbers, occurs_oddly}

odd_push : {X : Type 0} (p : X → Bool) (xs : List X) (y : X) → is_odd_count p (xs ++ y ∷ []) ≡ differ (is_odd_count p xs) (p y)
odd_push p xs y = odd-append p xs (y ∷ []) ∙ ap (differ (is_odd_count p xs)) (differ-false (p y))

odd_take : {X : Type 0} (p : X → Bool) (xs : List X) (k : ℕ) (d : X) → k < length xs
    → is_odd_count p (take (k + 1) xs) ≡ differ (is_odd_count p (take k xs)) (p (get_or xs k d))
odd_take p xs k d lt = ap (is_odd_count p) (take_more xs k d lt) ∙ odd_push p (take k xs) (get_or xs k d)

-- ---- bits

not-differ : (b : Bool) → not b ≡ differ b true
not-differ true = refl
not-differ false = refl

flipped : (bits : List Bool) (h i : ℕ) → h < length bits → get_or (set bits h (not (get_or bits h false))) i false ≡ differ (get_or bits i false) (h == i)
flipped bits h i lt = step (h == i) refl
  where
    step : (b : Bool) → (h == i) ≡ b → get_or (set bits h (not (get_or bits h false))) i false ≡ differ (get_or bits i false) (h == i)
    step true e =
        get_or-set_at bits h i (not (get_or bits h false)) false (sym (eqb-true h i e)) lt
        ∙ ap (λ k. not (get_or bits k false)) (eqb-true h i e) ∙ not-differ (get_or bits i false) ∙ ap (differ (get_or bits i false)) (sym e)
    step false e =
        get_or-set_other bits h i (not (get_or bits h false)) false (λ same. eqb-false h i e (sym same))
        ∙ sym (differ-false (get_or bits i false)) ∙ ap (differ (get_or bits i false)) (sym e)

-- the bit of one more number is flipped
pub flips_more : (before bits : List Bool) (numbers : List ℕ) (k d : ℕ) → k < length numbers → get_or numbers k d < length bits
    → ((i : ℕ) → get_or bits i false ≡ differ (get_or before i false) (occurs_oddly (take k numbers) i)) → (i : ℕ)
    → get_or (set bits (get_or numbers k d) (not (get_or bits (get_or numbers k d) false))) i false ≡ differ (get_or before i false) (occurs_oddly (take (k + 1) numbers) i)
flips_more before bits numbers k d lt below so i =
    flipped bits (get_or numbers k d) i below ∙ ap (λ b. differ b (get_or numbers k d == i)) (so i)
    ∙ differ_assoc (get_or before i false) (occurs_oddly (take k numbers) i) (get_or numbers k d == i)
    ∙ ap (differ (get_or before i false)) (sym (odd_take (λ h. h == i) numbers k d lt))

-- the bits of one more edge are flipped
pub edges_more : (before : Bool) (p : ℕ → Bool) (edges : List ℕ) (k d : ℕ) (b c : Bool) → k < length edges → b ≡ differ before (is_odd_count p (take k edges))
    → c ≡ differ b (p (get_or edges k d)) → c ≡ differ before (is_odd_count p (take (k + 1) edges))
edges_more before p edges k d b c lt so e =
    e ∙ ap (λ x. differ x (p (get_or edges k d))) so ∙ differ_assoc before (is_odd_count p (take k edges)) (p (get_or edges k d))
    ∙ ap (differ before) (sym (odd_take p edges k d lt))

-- bits that agree with a test of each list are those of the test
pub taken_bits : (f : List ℕ → Bool) (lists : List (List ℕ)) (bits : List Bool) → length lists ≤ length bits
    → ((i : ℕ) → get_or bits i false ≡ f (get_or lists i [])) → take (length lists) bits ≡ map f lists
taken_bits f lists bits few so =
    let size : length (take (length lists) bits) ≡ length lists = length-take-le (length lists) bits few in
    ext_get_or false (take (length lists) bits) (map f lists) (size ∙ sym (length-map lists f))
    (λ i lt.
    let less : i < length lists = omega (arith, size) in
    get_or-take (length lists) bits i false less ∙ so i ∙ sym (get_or-map f lists i [] false less))

-- ---- numbers

and-differ : (a b c : Bool) → differ (a && b) (a && c) ≡ (a && differ b c)
and-differ true b c = refl
and-differ false b c = refl

added : (hs : List (List ℕ)) (u number i e : ℕ) → u < length hs
    → occurs_oddly (get_or (set hs u (get_or hs u [] ++ number ∷ [])) e []) i ≡ differ (occurs_oddly (get_or hs e []) i) ((number == i) && (u == e))
added hs u number i e lt = step (u == e) refl
  where
    step : (b : Bool) → (u == e) ≡ b → occurs_oddly (get_or (set hs u (get_or hs u [] ++ number ∷ [])) e []) i ≡ differ (occurs_oddly (get_or hs e []) i) ((number == i) && (u == e))
    step true q =
        ap (λ l. occurs_oddly l i) (get_or-set_at hs u e (get_or hs u [] ++ number ∷ []) [] (sym (eqb-true u e q)) lt)
        ∙ odd_push (λ h. h == i) (get_or hs u []) number ∙ ap (λ k. differ (occurs_oddly (get_or hs k []) i) (number == i)) (eqb-true u e q)
        ∙ ap (differ (occurs_oddly (get_or hs e []) i)) (sym (and-true (number == i)) ∙ ap (λ b. (number == i) && b) (sym q))
    step false q =
        ap (λ l. occurs_oddly l i) (get_or-set_other hs u e (get_or hs u [] ++ number ∷ []) [] (λ same. eqb-false u e q (sym same)))
        ∙ sym (differ-false (occurs_oddly (get_or hs e []) i))
        ∙ ap (differ (occurs_oddly (get_or hs e []) i)) (sym (and-false (number == i)) ∙ ap (λ b. (number == i) && b) (sym q))

-- a number is added to the list of one more edge
pub adds_more : (before hs : List (List ℕ)) (list : List ℕ) (k d number : ℕ) → k < length list → get_or list k d < length hs
    → ((i e : ℕ) → occurs_oddly (get_or hs e []) i ≡ differ (occurs_oddly (get_or before e []) i) ((number == i) && occurs_oddly (take k list) e))
    → (i e : ℕ) → occurs_oddly (get_or (set hs (get_or list k d) (get_or hs (get_or list k d) [] ++ number ∷ [])) e []) i
    ≡ differ (occurs_oddly (get_or before e []) i) ((number == i) && occurs_oddly (take (k + 1) list) e)
adds_more before hs list k d number lt below so i e =
    added hs (get_or list k d) number i e below ∙ ap (λ b. differ b ((number == i) && (get_or list k d == e))) (so i e)
    ∙ differ_assoc (occurs_oddly (get_or before e []) i) ((number == i) && occurs_oddly (take k list) e) ((number == i) && (get_or list k d == e))
    ∙ ap (differ (occurs_oddly (get_or before e []) i))
    (and-differ (number == i) (occurs_oddly (take k list) e) (get_or list k d == e) ∙ ap (λ b. (number == i) && b) (sym (odd_take (λ h. h == e) list k d lt)))

-- a list's number is added to the lists of its edges
pub holds_more : (ls : List (List ℕ)) (list : List ℕ) (i e : ℕ) → AreDistinct list
    → differ (is_in (get_or ls i []) e) ((length ls == i) && occurs_oddly list e) ≡ is_in (get_or (ls ++ list ∷ []) i []) e
holds_more ls list i e distinct = step (length ls == i) refl
  where
    other : (length ls == i) ≡ false → get_or ls i [] ≡ get_or (ls ++ list ∷ []) i []
    other ne = elim (cases_lt i (length ls)) [
      | inl h ↦ sym (get_or_append_left ls (list ∷ []) [] i h)
      | inr h ↦ get_or_past ls i [] h ∙ sym (get_or_past (ls ++ list ∷ []) i [] (omega (arith, h, eqb-false (length ls) i ne, length-append ls (list ∷ []))))
    ]

    step : (b : Bool) → (length ls == i) ≡ b
        → differ (is_in (get_or ls i []) e) ((length ls == i) && occurs_oddly list e) ≡ is_in (get_or (ls ++ list ∷ []) i []) e
    step true q =
        let same : length ls ≡ i = eqb-true (length ls) i q in
        rw (q, get_or_past ls i [] (omega (arith, same)), get_or_push ls list [] i same) (false-differ (occurs_oddly list e) ∙ odd_equal list e distinct)
    step false q = rw q (differ-false (is_in (get_or ls i []) e) ∙ ap (λ l. is_in l e) (other q))

-- one more list, of those that are seen otherwise
pub holds_next : {V : Type 0} (f : V → List ℕ) (lists : List V) (k : ℕ) (d : V) (list : List ℕ) (b : Bool) (i e : ℕ) → k < length lists → list ≡ f (get_or lists k d)
    → AreDistinct list → b ≡ is_in (get_or (map f (take k lists)) i []) e
    → differ b ((k == i) && occurs_oddly list e) ≡ is_in (get_or (map f (take (k + 1) lists)) i []) e
holds_next f lists k d list b i e lt is distinct so =
    let before = map f (take k lists) in
    let size : length (map f (take k lists)) ≡ k = length-map (take k lists) f ∙ length-take-le k lists (omega arith) in
    let more : map f (take (k + 1) lists) ≡ map f (take k lists) ++ list ∷ [] =
    ap (map f) (take_more lists k d lt) ∙ map-append f (take k lists) (get_or lists k d ∷ []) ∙ ap (λ l. map f (take k lists) ++ l ∷ []) (sym is) in
    ap (λ x. differ x ((k == i) && occurs_oddly list e)) so
    ∙ ap (λ n. differ (is_in (get_or before i []) e) ((n == i) && occurs_oddly list e)) (sym size)
    ∙ holds_more before list i e distinct ∙ ap (λ l. is_in (get_or l i []) e) (sym more)

-- a list in which no edge comes again
distinct_behind : (seen list : List ℕ) → AreDistinct seen → repeats seen list ≡ false → AreDistinct (seen ++ list)
distinct_behind seen [] d h = subst AreDistinct (sym (append-nil seen)) d
distinct_behind seen (e ∷ list) d h =
    let o = or_parts (is_in seen e) (repeats (seen ++ e ∷ []) list) h in
    subst AreDistinct (append_assoc seen (e ∷ []) list) (distinct_behind (seen ++ e ∷ []) list (AreDistinct_push seen e d o.0) o.1)

pub distinct_list : (list : List ℕ) → repeats [] list ≡ false → AreDistinct list
distinct_list list h = distinct_behind [] list tt h

-- ---- the loops' beginnings and ends

pub unset_bits : (n i : ℕ) → get_or (replicate n false) i false ≡ false
unset_bits n i = elim (cases_lt i n) [
  | inl h ↦ get_or-replicate n i false false h
  | inr h ↦ get_or_past (replicate n false) i false (omega (arith, h, length-replicate n false))
]

-- the bits that the lists by edge flip are those of the observables
pub observed_edges : (lists holders : List (List ℕ)) (before bits : List Bool) (edges : List ℕ) → AreHolders lists holders
    → ((i : ℕ) → get_or before i false ≡ false)
    → ((i : ℕ) → get_or bits i false ≡ differ (get_or before i false) (is_odd_count (λ e. occurs_oddly (get_or holders e []) i) edges))
    → (i : ℕ) → get_or bits i false ≡ is_odd_count (is_in (get_or lists i [])) edges
observed_edges lists holders before bits edges h unset so i =
    so i ∙ ap (λ b. differ b (is_odd_count (λ e. occurs_oddly (get_or holders e []) i) edges)) (unset i)
    ∙ false-differ (is_odd_count (λ e. occurs_oddly (get_or holders e []) i) edges)
    ∙ odd_same (λ e. occurs_oddly (get_or holders e []) i) (is_in (get_or lists i [])) (h.odd i) edges

pub numbers_more : (hs : List (List ℕ)) (u number : ℕ) → u < length hs → number < most_observables → AreNumbers hs
    → AreNumbers (set hs u (get_or hs u [] ++ number ∷ []))
numbers_more hs u number lt below so e = step (u == e) refl
  where
    step : (b : Bool) → (u == e) ≡ b → All (λ h. h < most_observables) (get_or (set hs u (get_or hs u [] ++ number ∷ [])) e [])
    step true q =
        subst (All (λ h. h < most_observables)) (sym (get_or-set_at hs u e (get_or hs u [] ++ number ∷ []) [] (sym (eqb-true u e q)) lt))
        (All-push (λ h. h < most_observables) (get_or hs u []) number (so u) below)
    step false q =
        subst (All (λ h. h < most_observables)) (sym (get_or-set_other hs u e (get_or hs u [] ++ number ∷ []) [] (λ same. eqb-false u e q (sym same)))) (so e)
