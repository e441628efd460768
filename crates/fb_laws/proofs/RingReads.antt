-- A ring read place by place, and by the numbers of its links.
use Rattle.std.proofs.Common.{ℕ, zero, suc, ◌≡◌, ◌+◌, ◌-◌, ◌*◌, ◌/◌, ◌%◌, ◌<◌, ◌≤◌, ◌==◌, ◌⊎◌, inl, inr, Bool, true, false, List, [], ◌∷◌, ◌++◌, map, length, take, drop, reverse, get_or, refl, sym, ap, ◌∙◌, subst, arith, if◌then◌else◌}
use Rattle.std.specs.Prelude.{nat_lt}
use Rattle.std.proofs.lemmas.Bool.{cases_Bool, eqb-true, ltb-false, ltb-true}
use Rattle.std.proofs.lemmas.List.{drop-map, get_or-drop, get_or-take, get_or_append_left, length-append, length-drop, length-map, length-reverse, map-append, reverse-append, take-map}
use Rattle.std.proofs.Math.Nat.{add-mod_right, mod-eq_of_lt}
use Rattle.fb_graph.specs.Laws.{Link}
use Rattle.fb_graph.specs.Dual.{Node}
use Rattle.fb_laws.specs.OpenedLinks.{every_second, round_from}
use Rattle.fb_laws.specs.RingReads.{BesideByNumber, NamesAt, RingAt, RoundLength, no_link, SecondByNumber, WayByNumber, pass_by, round_by}
use Rattle.fb_laws.specs.OpenedCycles.{matched_beside}
use Rattle.fb_laws.specs.RingWays.{couples_after, couples_along, even_round, even_steps, passes_along, turned_round}
use Rattle.fb_laws.specs.PartStates.{AreChained}
use Rattle.fb_laws.specs.Paths.{Joins}
use Rattle.fb_laws.specs.TreeCycles.{AreLinked}
use Rattle.fb_laws.specs.Trees.{Connects}
use Rattle.fb_laws.proofs.RingWays.{not_even}

pub second_read : {X : Type 0} (xs : List X) (k : ℕ) (d : X) → get_or (every_second xs) k d ≡ get_or xs (2 * k + 1) d
second_read [] k d = refl
second_read {X} (x ∷ []) k d =
    let next : 2 * k + 1 ≡ suc (2 * k) = omega arith in
    let out : d ≡ get_or (x ∷ []) (suc (2 * k)) d = refl in
    out ∙ ap (λ i. get_or (x ∷ []) i d) (sym next)
second_read (x ∷ y ∷ xs) zero d = refl
second_read (x ∷ y ∷ xs) (suc k) d =
    let next : 2 * suc k + 1 ≡ suc (suc (2 * k + 1)) = omega arith in
    second_read xs k d ∙ ap (λ i. get_or (x ∷ y ∷ xs) i d) (sym next)

pub second_count : {X : Type 0} (xs : List X) → length (every_second xs) ≡ length xs / 2
second_count [] = refl
second_count (x ∷ []) = refl
second_count (x ∷ y ∷ xs) = omega (arith, second_count xs)

get_right : {X : Type 0} (xs ys : List X) (k : ℕ) (d : X) → get_or (xs ++ ys) (length xs + k) d ≡ get_or ys k d
get_right [] ys k d = let none : 0 + k ≡ k = omega arith in ap (λ i. get_or ys i d) none
get_right (x ∷ xs) ys k d =
    let next : suc (length xs) + k ≡ suc (length xs + k) = omega arith in
    ap (λ i. get_or (x ∷ (xs ++ ys)) i d) next ∙ get_right xs ys k d

pub round_read : {X : Type 0} (xs : List X) (place k : ℕ) (d : X) → place < length xs → k < length xs
    → get_or (round_from place xs) k d ≡ get_or xs ((place + k) % length xs) d
round_read {X} xs place k d at less = step (cases_Bool (nat_lt (place + k) (length xs)))
  where
    step : (nat_lt (place + k) (length xs) ≡ true) ⊎ (nat_lt (place + k) (length xs) ≡ false)
        → get_or (round_from place xs) k d ≡ get_or xs ((place + k) % length xs) d
    step (inl e) =
        let low : place + k < length xs = ltb-true (place + k) (length xs) e in
        get_or_append_left (drop place xs) (take place xs) d k (omega (arith, length-drop place xs, low))
        ∙ (get_or-drop place xs k d ∙ ap (λ i. get_or xs i d) (sym (mod-eq_of_lt low)))
    step (inr e) =
        let high : length xs ≤ place + k = ltb-false (place + k) (length xs) e in
        let rest : ℕ = place + k - length xs in
        let is : k ≡ length (drop place xs) + rest = omega (arith, length-drop place xs, high, at) in
        let round : place + k ≡ rest + length xs = omega (arith, high) in
        let low : rest < length xs = omega (arith, at, less, high) in
        ap (λ i. get_or (round_from place xs) i d) is
        ∙ (get_right (drop place xs) (take place xs) rest d
        ∙ (get_or-take place xs rest d (omega (arith, less, high))
        ∙ ap (λ i. get_or xs i d)
        (sym (ap (λ n. n % length xs) round ∙ (add-mod_right rest (length xs) ∙ mod-eq_of_lt low)))))

map_round : {X Y : Type 0} (f : X → Y) (n : ℕ) (xs : List X) → round_from n (map f xs) ≡ map f (round_from n xs)
map_round f n xs =
    ap (λ l. l ++ take n (map f xs)) (drop-map f n xs)
    ∙ (ap (λ l. map f (drop n xs) ++ l) (take-map f n xs) ∙ sym (map-append f (drop n xs) (take n xs)))

map_reverse : {X Y : Type 0} (f : X → Y) (xs : List X) → reverse (map f xs) ≡ map f (reverse xs)
map_reverse f [] = refl
map_reverse f (x ∷ xs) =
    reverse-append (f x ∷ []) (map f xs)
    ∙ (ap (λ l. l ++ f x ∷ []) (map_reverse f xs)
    ∙ (sym (map-append f (reverse xs) (x ∷ [])) ∙ ap (map f) (sym (reverse-append (x ∷ []) xs))))

map_second : {X Y : Type 0} (f : X → Y) (xs : List X) → every_second (map f xs) ≡ map f (every_second xs)
map_second f [] = refl
map_second f (x ∷ []) = refl
map_second f (x ∷ y ∷ xs) = ap (λ l. f y ∷ l) (map_second f xs)

pub second_by_number : SecondByNumber
second_by_number table place ring = ap every_second (map_round table place ring) ∙ map_second table (round_from place ring)

map_passes : (table : ℕ → Link) (names links : List ℕ)
    → passes_along names (map table links) ≡ map (pass_by table) (passes_along names links)
map_passes table [] links = refl
map_passes table (n ∷ []) links = refl
map_passes table (n ∷ o ∷ ns) [] = refl
map_passes table (n ∷ o ∷ ns) (l ∷ []) = refl
map_passes table (n ∷ o ∷ ns) (l ∷ m ∷ ms) =
    ap (λ ps. record { matched = table l; plus = n; tree = table m; minus = o } ∷ ps) (map_passes table ns ms)

pub way_by_number : WayByNumber
way_by_number table steps r = step (steps % 2 == 0)
  where
    along : (k : ℕ) (names links : List ℕ)
        → passes_along (take k names) (take k (map table links))
        ≡ map (pass_by table) (passes_along (take k names) (take k links))
    along k names links =
        ap (passes_along (take k names)) (take-map table k links) ∙ map_passes table (take k names) (take k links)

    step : (b : Bool)
        → passes_along
        (take (if b then steps else length r.others + 1 - steps)
        (if b then round_by table r else turned_round (round_by table r)).others)
        (take (if b then steps else length r.others + 1 - steps)
        (if b then round_by table r else turned_round (round_by table r)).links)
        ≡ map (pass_by table)
        (passes_along
        (take (if b then steps else length r.others + 1 - steps) (if b then r else turned_round r).others)
        (take (if b then steps else length r.others + 1 - steps) (if b then r else turned_round r).links))
    step true = along steps r.others r.links
    step false =
        ap
        (λ l.
        passes_along (take (length r.others + 1 - steps) (reverse r.others)) (take (length r.others + 1 - steps) l))
        (map_reverse table r.links)
        ∙ along (length r.others + 1 - steps) (reverse r.others) (reverse r.links)

linked_length : (nodes : List Node) (from : ℕ) (names : List ℕ) (links : List Link) → AreLinked nodes from names links
    → length links ≡ length names
linked_length nodes from [] [] linked = refl
linked_length nodes from [] (l ∷ ls) linked = absurd linked
linked_length nodes from (n ∷ ns) [] linked = absurd linked
linked_length nodes from (n ∷ ns) (l ∷ ls) linked = ap suc (linked_length nodes n ns ls linked.1)

pub round_length : RoundLength
round_length nodes from r linked =
    linked_length nodes from (r.others ++ from ∷ []) r.links linked ∙ length-append r.others (from ∷ [])

beside_links : (names : List ℕ) (links : List Link) → length links ≡ length names + 1 → length names % 2 ≡ 0
    → matched_beside (couples_along names links) ≡ every_second links
beside_links [] [] long even = refl
beside_links [] (l ∷ []) long even = refl
beside_links [] (l ∷ m ∷ ms) long even = absurd (omega (arith, long))
beside_links (n ∷ []) links long even = absurd (omega (arith, even))
beside_links (n ∷ o ∷ ns) [] long even = absurd (omega (arith, long))
beside_links (n ∷ o ∷ ns) (l ∷ []) long even = absurd (omega (arith, long))
beside_links (n ∷ o ∷ ns) (l ∷ m ∷ ms) long even =
    ap (λ ls. m ∷ ls) (beside_links ns ms (omega (arith, long)) (omega (arith, even)))

pub beside_by_number : BesideByNumber
beside_by_number table steps r long even low = step (steps % 2 == 0) refl
  where
    off : (k : ℕ) (names links : List ℕ) → length links ≡ length names + 1 → length names % 2 ≡ 0 → k ≤ length names
        → k % 2 ≡ 0
        → matched_beside (couples_along (drop k names) (drop k (map table links)))
        ≡ map table (every_second (drop k links))
    off k names links more both few is_even =
        ap (λ l. matched_beside (couples_along (drop k names) l)) (drop-map table k links)
        ∙ (beside_links (drop k names) (map table (drop k links))
        (omega (arith, more, few, length-drop k names, length-drop k links, length-map (drop k links) table))
        (omega (arith, both, is_even, few, length-drop k names))
        ∙ map_second table (drop k links))

    Reads : Bool → Type 0
    Reads b =
        matched_beside
        (couples_along
        (drop (if b then steps else length r.others + 1 - steps)
        (if b then round_by table r else turned_round (round_by table r)).others)
        (drop (if b then steps else length r.others + 1 - steps)
        (if b then round_by table r else turned_round (round_by table r)).links))
        ≡ map table
        (every_second
        (drop (if b then steps else length r.others + 1 - steps) (if b then r else turned_round r).links))

    step : (b : Bool) → (steps % 2 == 0) ≡ b
        → matched_beside (couples_after steps (round_by table r))
        ≡ map table (every_second (drop (even_steps steps r) (even_round steps r).links))
    step true e = subst Reads (sym e) (off steps r.others r.links long even low (eqb-true (steps % 2) 0 e))
    step false e =
        subst Reads (sym e)
        (ap
        (λ l.
        matched_beside
        (couples_along (drop (length r.others + 1 - steps) (reverse r.others)) (drop (length r.others + 1 - steps) l)))
        (map_reverse table r.links)
        ∙ off (length r.others + 1 - steps) (reverse r.others) (reverse r.links)
        (omega (arith, long, length-reverse r.others, length-reverse r.links))
        (omega (arith, even, length-reverse r.others))
        (omega (arith, not_even steps e, low, length-reverse r.others)) (omega (arith, not_even steps e, even, low)))

-- what is at a place of a round, and after it
next_in : {X : Type 0} (first : X) (rest : List X) (k : ℕ) (d : X) → k < length (first ∷ rest)
    → get_or (rest ++ first ∷ []) k d ≡ get_or (first ∷ rest) ((k + 1) % length (first ∷ rest)) d
next_in {X} first rest k d less = step (cases_Bool (nat_lt k (length rest)))
  where
    step : (nat_lt k (length rest) ≡ true) ⊎ (nat_lt k (length rest) ≡ false)
        → get_or (rest ++ first ∷ []) k d ≡ get_or (first ∷ rest) ((k + 1) % length (first ∷ rest)) d
    step (inl e) =
        let low : k < length rest = ltb-true k (length rest) e in
        let next : (k + 1) % length (first ∷ rest) ≡ suc k =
        mod-eq_of_lt {n = k + 1} {m = length (first ∷ rest)} (omega (arith, low)) ∙ omega arith in
        get_or_append_left rest (first ∷ []) d k low ∙ ap (λ i. get_or (first ∷ rest) i d) (sym next)
    step (inr e) =
        let high : length rest ≤ k = ltb-false k (length rest) e in
        let same : k ≡ length rest + 0 = omega (arith, high, less) in
        let whole : k + 1 ≡ 0 + length (first ∷ rest) = omega (arith, same) in
        let back : (k + 1) % length (first ∷ rest) ≡ 0 =
        ap (λ n. n % length (first ∷ rest)) whole
        ∙ (add-mod_right 0 (length (first ∷ rest))
        ∙ mod-eq_of_lt {n = 0} {m = length (first ∷ rest)} (omega arith)) in
        ap (λ i. get_or (rest ++ first ∷ []) i d) same
        ∙ (get_right rest (first ∷ []) 0 d ∙ ap (λ i. get_or (first ∷ rest) i d) (sym back))

at_places : {X : Type 0} (R : Link → X → X → Type 0) (l : Link) (ls : List Link) (from x : X) (xs : List X) (d : X)
    → R l from x
    → ((k : ℕ) → k < length xs → R (get_or ls k no_link) (get_or (x ∷ xs) k d) (get_or xs k d))
    → (k : ℕ) → k < length (x ∷ xs) → R (get_or (l ∷ ls) k no_link) (get_or (from ∷ x ∷ xs) k d) (get_or (x ∷ xs) k d)
at_places R l ls from x xs d first rest zero less = first
at_places R l ls from x xs d first rest (suc k) less = rest k (omega (arith, less))

chain_at : (from : List ℕ) (sets : List (List ℕ)) (links : List Link) → AreChained from sets links
    → (length links ≡ length sets)
    × ((k : ℕ) → k < length sets → Joins (get_or links k no_link) (get_or (from ∷ sets) k []) (get_or sets k []))
chain_at from [] [] chained = (refl, λ k less. absurd (omega (arith, less)))
chain_at from [] (l ∷ ls) chained = absurd chained
chain_at from (s ∷ ss) [] chained = absurd chained
chain_at from (s ∷ ss) (l ∷ ls) chained =
    let (long, each) = chain_at s ss ls chained.1 in
    (ap suc long, at_places Joins l ls from s ss [] chained.0 each)

names_chain_at : (nodes : List Node) (from : ℕ) (names : List ℕ) (links : List Link) → AreLinked nodes from names links
    → (k : ℕ) → k < length names → Connects nodes (get_or links k no_link) (get_or (from ∷ names) k 0) (get_or names k 0)
names_chain_at nodes from [] links linked k less = absurd (omega (arith, less))
names_chain_at nodes from (n ∷ ns) [] linked k less = absurd linked
names_chain_at nodes from (n ∷ ns) (l ∷ ls) linked k less =
    at_places (Connects nodes) l ls from n ns 0 linked.0 (names_chain_at nodes n ns ls linked.1) k less

pub ring_at : RingAt
ring_at [] links ring some = absurd (omega (arith, some))
ring_at (first ∷ rest) links ring some =
    let (long, each) = chain_at first (rest ++ first ∷ []) links ring in (
      long ∙ (length-append rest (first ∷ []) ∙ omega arith),
      λ k less.
          subst (λ x. Joins (get_or links k no_link) x (get_or (first ∷ rest) ((k + 1) % length (first ∷ rest)) []))
          (get_or_append_left (first ∷ rest) (first ∷ []) [] k less)
          (subst (Joins (get_or links k no_link) (get_or ((first ∷ rest) ++ first ∷ []) k []))
          (next_in first rest k [] less)
          (each k (omega (arith, less, length-append rest (first ∷ []))))),
    )

pub names_at : NamesAt
names_at nodes [] links round some = absurd (omega (arith, some))
names_at nodes (first ∷ rest) links round some = (
  linked_length nodes first (rest ++ first ∷ []) links round ∙ (length-append rest (first ∷ []) ∙ omega arith),
  λ k less.
      subst
      (λ x. Connects nodes (get_or links k no_link) x (get_or (first ∷ rest) ((k + 1) % length (first ∷ rest)) 0))
      (get_or_append_left (first ∷ rest) (first ∷ []) 0 k less)
      (subst (Connects nodes (get_or links k no_link) (get_or ((first ∷ rest) ++ first ∷ []) k 0))
      (next_in first rest k 0 less)
      (names_chain_at nodes first (rest ++ first ∷ []) links round k
      (omega (arith, less, length-append rest (first ∷ []))))),
)
