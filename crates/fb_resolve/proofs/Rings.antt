-- Every second link of a ring, and the place of the first node that passes a test.
use Rattle.std.proofs.Common.{◌≡◌, ℕ, zero, suc, ◌+◌, ◌<◌, ◌-◌, not, Bool, true, false, List, [], ◌∷◌, ◌++◌, length, map, take, drop, get_or, All, refl, sym, ◌∙◌, ap, arith, if◌then◌else◌, append_assoc}
use Rattle.std.proofs.Math.Seq.{drop-append_seam}
use Rattle.std.proofs.lemmas.List.{append-nil, drop-map, length-append, take-map, take_all, drop_more}
use Rattle.std.proofs.lemmas.List.Elements.{All-append, All-cons, All-drop, All-head, All-tail, All-take}
use Rattle.fb_laws.specs.OpenedLinks.{every_second, place_of, round_from}

-- every second element, from the first one on or from the second one on
abbrev pub seconds : Bool → List ℕ → List ℕ
seconds b [] = []
seconds true (x ∷ xs) = x ∷ seconds false xs
seconds false (x ∷ xs) = seconds true xs

pub seconds_are : (xs : List ℕ) → seconds false xs ≡ every_second xs
seconds_are [] = refl
seconds_are (x ∷ []) = refl
seconds_are (x ∷ y ∷ xs) = ap (λ l. y ∷ l) (seconds_are xs)

pub All_second : (P : ℕ → Type 0) (xs : List ℕ) → All P xs → All P (every_second xs)
All_second P [] all = all
All_second P (x ∷ []) all = All-tail P x [] all
All_second P (x ∷ y ∷ xs) all =
    let rest : All P (y ∷ xs) = All-tail P x (y ∷ xs) all in
    All-cons P y (every_second xs) (All-head P y xs rest) (All_second P xs (All-tail P y xs rest))

pub All_pairs : (P : ℕ → Type 0) (place : ℕ) (xs : List ℕ) → All P xs → All P (every_second (round_from place xs))
All_pairs P place xs all =
    All_second P (round_from place xs) (All-append P (drop place xs) (take place xs) (All-drop P place xs all) (All-take P place xs all))

-- the rest of the links to be pushed, with the next one pushed
pub pushed_one : (done all ring : List ℕ) (i : ℕ) (more : List ℕ) (d : ℕ) → i < length ring
    → done ++ seconds true (drop i ring ++ more) ≡ all
    → (done ++ get_or ring i d ∷ []) ++ seconds false (drop (i + 1) ring ++ more) ≡ all
pushed_one done all ring i more d less e =
    append_assoc done (get_or ring i d ∷ []) (seconds false (drop (i + 1) ring ++ more))
    ∙ (ap (λ l. done ++ seconds true (l ++ more)) (sym (drop_more ring i d less)) ∙ e)

pub passed_one : (done all ring : List ℕ) (i : ℕ) (more : List ℕ) (d : ℕ) → i < length ring
    → done ++ seconds false (drop i ring ++ more) ≡ all
    → done ++ seconds true (drop (i + 1) ring ++ more) ≡ all
passed_one done all ring i more d less e =
    ap (λ l. done ++ seconds false (l ++ more)) (sym (drop_more ring i d less)) ∙ e

-- tests that agree find the same place
pub place_same : {X Y : Type 0} (p : X → Bool) (q : Y → Bool) (f : Y → X) (ys : List Y) → All (λ y. p (f y) ≡ q y) ys
    → place_of p (map f ys) ≡ place_of q ys
place_same p q f [] same = refl
place_same p q f (y ∷ ys) same =
    ap (λ b. if b then 0 else 1 + place_of p (map f ys)) (All-head (λ y. p (f y) ≡ q y) y ys same)
    ∙ ap (λ n. if q y then 0 else 1 + n) (place_same p q f ys (All-tail (λ y. p (f y) ≡ q y) y ys same))

pub pushes_begin : {X : Type 0} (f : X → ℕ) (cycle before after : List X) (place : ℕ) (done : List ℕ)
    → before ≡ take place cycle → after ≡ drop place cycle
    → done ++ seconds false (map f after ++ map f before) ≡ done ++ every_second (round_from place (map f cycle))
pushes_begin f cycle before after place done front back =
    ap (λ l. done ++ seconds false (map f l ++ map f before)) back
    ∙ (ap (λ l. done ++ seconds false (map f (drop place cycle) ++ map f l)) front
    ∙ (ap (λ l. done ++ seconds false (l ++ map f (take place cycle))) (sym (drop-map f place cycle))
    ∙ (ap (λ l. done ++ seconds false (drop place (map f cycle) ++ l)) (sym (take-map f place cycle))
    ∙ ap (λ l. done ++ l) (seconds_are (round_from place (map f cycle))))))

pub push_step : (done new all ring more : List ℕ) (i x d : ℕ) (b : Bool) → i < length ring
    → new ≡ done ++ (if b then x ∷ [] else []) → x ≡ get_or ring i d → done ++ seconds b (drop i ring ++ more) ≡ all
    → new ++ seconds (not b) (drop (i + 1) ring ++ more) ≡ all
push_step done new all ring more i x d true less e f h =
    ap (λ l. l ++ seconds false (drop (i + 1) ring ++ more)) (e ∙ ap (λ y. done ++ y ∷ []) f) ∙ pushed_one done all ring i more d less h
push_step done new all ring more i x d false less e f h =
    ap (λ l. l ++ seconds true (drop (i + 1) ring ++ more)) (e ∙ append-nil done) ∙ passed_one done all ring i more 0 less h

pub rest_is : (old pairs xs : List ℕ) → xs ≡ old ++ pairs → take (length xs - length old) (drop (length old) xs) ≡ pairs
rest_is old pairs xs e =
    let rest : drop (length old) xs ≡ pairs = ap (drop (length old)) e ∙ drop-append_seam old pairs in
    let count : length xs ≡ length old + length pairs = ap length e ∙ length-append old pairs in
    ap (take (length xs - length old)) rest ∙ take_all (length xs - length old) pairs (omega (arith, count))

map_length : {X : Type 0} (f : X → ℕ) (xs : List X) → length (map f xs) ≡ length xs
map_length f [] = refl
map_length f (x ∷ xs) = ap suc (map_length f xs)

get_map : {X : Type 0} (f : X → ℕ) (xs : List X) (i : ℕ) (d : X) → f (get_or xs i d) ≡ get_or (map f xs) i (f d)
get_map f [] i d = refl
get_map f (x ∷ xs) zero d = refl
get_map f (x ∷ xs) (suc i) d = get_map f xs i d

pub push_mapped : {X : Type 0} (f : X → ℕ) (xs : List X) (d : X) (done new all more : List ℕ) (i : ℕ) (b : Bool)
    → i < length xs → new ≡ done ++ (if b then f (get_or xs i d) ∷ [] else [])
    → done ++ seconds b (drop i (map f xs) ++ more) ≡ all
    → new ++ seconds (not b) (drop (i + 1) (map f xs) ++ more) ≡ all
push_mapped f xs d done new all more i b less e h =
    push_step done new all (map f xs) more i (f (get_or xs i d)) (f d) b
    (let l : length (map f xs) ≡ length xs = map_length f xs in omega (arith, less, l)) e (get_map f xs i d) h

-- the same of elements by what they are mapped to
pub place_found : {X : Type 0} (f : X → ℕ) (test : ℕ → Bool) (xs : List X) (i : ℕ) (d : X) → i < length xs
    → test (f (get_or xs i d)) ≡ true → place_of test (map f xs) ≡ i + place_of test (drop i (map f xs))
    → i ≡ place_of test (map f xs)
place_found f test xs i d less y e =
    let here : place_of test (drop i (map f xs)) ≡ 0 =
    ap (place_of test) (drop_more (map f xs) i (f d) (let l : length (map f xs) ≡ length xs = map_length f xs in omega (arith, less, l)))
    ∙ ap (λ b. if b then 0 else 1 + place_of test (drop (i + 1) (map f xs))) (ap test (sym (get_map f xs i d)) ∙ y) in
    omega (arith, e, here)

pub place_passed : {X : Type 0} (f : X → ℕ) (test : ℕ → Bool) (xs : List X) (i : ℕ) (d : X) → i < length xs
    → test (f (get_or xs i d)) ≡ false → place_of test (map f xs) ≡ i + place_of test (drop i (map f xs))
    → place_of test (map f xs) ≡ i + 1 + place_of test (drop (i + 1) (map f xs))
place_passed f test xs i d less n e =
    let next : place_of test (drop i (map f xs)) ≡ 1 + place_of test (drop (i + 1) (map f xs)) =
    ap (place_of test) (drop_more (map f xs) i (f d) (let l : length (map f xs) ≡ length xs = map_length f xs in omega (arith, less, l)))
    ∙ ap (λ b. if b then 0 else 1 + place_of test (drop (i + 1) (map f xs))) (ap test (sym (get_map f xs i d)) ∙ n) in
    omega (arith, e, next)
