-- The defects of a shot within a node's reach: these alone may be the node's own.
use Rattle.std.proofs.Common.{ℕ, ◌≡◌, ◌+◌, ◌<◌, Bool, true, false, cond, List, [], ◌∷◌, ◌++◌, length, get_or, take, drop, nat_eq, All, Option, Some, None, nat_le, nat_lt, refl, sym, ap, ◌∙◌, subst, arith, length-take, length-drop, ◌≤◌}
use Rattle.std.specs.List.{AllWithin, filter}
use Rattle.std.specs.Option.{option_eq}
use Rattle.std.specs.List.Sorted.{IsNonDecreasingBy, IsPartitionPoint, IsStrictlyIncreasing}
use Rattle.std.proofs.lemmas.Bool.{and_from, and_left, and_right, eqb-true, false≢true, le-leb, lt-leb, lt-ltb, ltb-false, ltb-true, and_parts, leb-true}
use Rattle.std.proofs.lemmas.List.{append-nil, get_or-drop, get_or-take, get_or_default, take-append-drop}
use Rattle.std.proofs.lemmas.List.Elements.{All-take, filter-append, filter_more}
use Rattle.std.proofs.lemmas.List.Sorted.{IsNonDecreasingBy-from_all_adjacent}
use Rattle.fb_graph.specs.Limits.{DecodingGraph, no_shot}
use Rattle.fb_graph.specs.Problem.{Problem}
use Rattle.fb_graph.proofs.Among.{IsAmong, All_among}
use Rattle.fb_plan.specs.Plans.{PlanTree, owner_of, problem_at}
use Rattle.fb_plan.specs.Reaches.{IsReach, is_reached}
use Rattle.fb_plan.specs.declared.reach.Reach.{Reach}
use Rattle.fb_plan.proofs.FusionSeams.{unit_is_own}
use Rattle.fb_half.specs.InternalBeginnings.{LiesWithin}
use Rattle.fb_half.specs.Merged.{is_owned_by}
use Rattle.fb_half.proofs.FusedMatches.{filter_all, filter_none}
use Rattle.fb_half.proofs.MergedHalves.{own_is_owned}
use Rattle.fb_plan.specs.Vertices.{is_node}

-- where one test lets only that pass which another one does, what passes both is what passes it
filter_twice : {X : Type 0} (test wide : X → Bool) → ((x : X) → test x ≡ true → wide x ≡ true) → (xs : List X)
    → filter test (filter wide xs) ≡ filter test xs
filter_twice test wide under [] = refl
filter_twice {X} test wide under (x ∷ xs) = step (wide x) refl (filter_twice test wide under xs)
  where
    off : (b : Bool) → test x ≡ b → wide x ≡ false → cond b (x ∷ filter test xs) (filter test xs) ≡ filter test xs
    off true e is = absurd (false≢true (sym is ∙ under x e))
    off false e is = refl

    step : (b : Bool) → wide x ≡ b → filter test (filter wide xs) ≡ filter test xs
        → filter test (cond b (x ∷ filter wide xs) (filter wide xs)) ≡ cond (test x) (x ∷ filter test xs) (filter test xs)
    step true is rest = ap (λ l. cond (test x) (x ∷ l) l) rest
    step false is rest = rest ∙ sym (off (test x) refl is)

-- one element more
pub filter_pushed : {X : Type 0} (test : X → Bool) (xs : List X) (i : ℕ) (d : X) (had now : List X) (passes : Bool)
    → i < length xs → had ≡ filter test (take i xs) → passes ≡ test (get_or xs i d) → now ≡ had ++ cond passes (get_or xs i d ∷ []) []
    → now ≡ filter test (take (i + 1) xs)
filter_pushed test xs i d had now passes less was is added =
    added
    ∙ (ap (λ b. had ++ cond b (get_or xs i d ∷ []) []) is
    ∙ (ap (λ l. l ++ cond (test (get_or xs i d)) (get_or xs i d ∷ []) []) was ∙ sym (filter_more test xs i d less)))

-- what a reach is, by its ends
pub reached_parts : (r : Reach) (v : ℕ) → is_reached r v ≡ true → (r.first ≤ v) × (v < r.end)
reached_parts r v reached =
    let parts = and_parts (nat_le r.first v) (nat_lt v r.end) reached in
    (leb-true r.first v parts.0, ltb-true v r.end parts.1)

pub reached_between : (r : Reach) (v : ℕ) → r.first ≤ v → v < r.end → is_reached r v ≡ true
reached_between r v above below = and_from (nat_le r.first v) (nat_lt v r.end) (le-leb r.first v above) (lt-ltb v r.end below)

pub owner_read : (n : ℕ) (o : Option ℕ) → option_eq nat_eq o (Some n) ≡ is_node n o
owner_read n None = refl
owner_read n (Some m) = refl

-- who is the owner by the test is the owner
pub owner_named : (n : ℕ) (o : Option ℕ) → is_node n o ≡ true → o ≡ Some n
owner_named n None h = absurd (false≢true h)
owner_named n (Some m) h = ap Some (eqb-true m n h)

pub owned_reached : (t : PlanTree) (n v : ℕ) (r : Reach) → IsReach t.owners n r → is_owned_by t n v ≡ true → is_reached r v ≡ true
owned_reached t n v r reach owned =
    let within = reach.each v (owner_named n (owner_of t v) owned) in reached_between r v within.0 within.1

-- the defects that a node owns are within its reach
pub seam_reached : (t : PlanTree) (n : ℕ) (r : Reach) → IsReach t.owners n r → (xs : List ℕ)
    → filter (is_owned_by t n) (filter (is_reached r) xs) ≡ filter (is_owned_by t n) xs
seam_reached t n r reach xs = filter_twice (is_owned_by t n) (is_reached r) (λ v owned. owned_reached t n v r reach owned) xs

-- and so are those at a problem's real vertices, where these lie within it
pub real_reached : (p : Problem) (r : Reach) → LiesWithin p r → (xs : List ℕ) → filter p.is_real (filter (is_reached r) xs) ≡ filter p.is_real xs
real_reached p r within xs = filter_twice p.is_real (is_reached r) within xs

-- a unit's real vertices are those that it owns
pub unit_within : (g : DecodingGraph) (t : PlanTree) (n : ℕ) (r : Reach) → n < t.units → IsReach t.owners n r → LiesWithin (problem_at g t n no_shot) r
unit_within g t n r unit reach v real = owned_reached t n v r reach (own_is_owned g t n v (sym (unit_is_own g t n v no_shot unit) ∙ real))

-- a rising list does not fall
pub never_falls : (xs : List ℕ) → IsStrictlyIncreasing xs → IsNonDecreasingBy (λ x. x) xs
never_falls xs rising =
    IsNonDecreasingBy-from_all_adjacent (λ x. x) xs
    (λ k d less. omega (arith, rising k less, get_or_default xs k d 0 (omega (arith, less)), get_or_default xs (k + 1) d 0 less))

-- what a list has before a place, and from there on
pub front : (P : ℕ → Type 0) (xs : List ℕ) (i : ℕ) → AllWithin P xs 0 i → All P (take i xs)
front P xs i all k d less =
    let below : k < i = omega (arith, less, length-take i xs) in
    subst P (sym (get_or-take i xs k d below)) (all k d (omega arith) below)

pub back : (P : ℕ → Type 0) (xs : List ℕ) (i : ℕ) → AllWithin P xs i (length xs) → All P (drop i xs)
back P xs i all k d less = subst P (sym (get_or-drop i xs k d)) (all (i + k) d (omega arith) (omega (arith, less, length-drop i xs)))

-- the place of a reach's first vertex, and behind it that of its end, cut what is within it out of a list
pub cut_out : (r : Reach) (xs rest : List ℕ) (i j : ℕ) → rest ≡ drop i xs
    → IsPartitionPoint (λ v. nat_lt v r.first ≡ true) (λ v. nat_lt v r.first ≡ false) xs i
    → IsPartitionPoint (λ v. nat_lt v r.end ≡ true) (λ v. nat_lt v r.end ≡ false) rest j
    → take j rest ≡ filter (is_reached r) xs
cut_out r xs rest i j rest_is from to =
    sym (ap (filter (is_reached r)) (sym (take-append-drop i xs))
    ∙ (filter-append (is_reached r) (take i xs) (drop i xs)
    ∙ (ap (λ l. l ++ filter (is_reached r) (drop i xs)) (filter_none (is_reached r) (take i xs) before)
    ∙ (ap (filter (is_reached r)) (sym rest_is ∙ sym (take-append-drop j rest))
    ∙ (filter-append (is_reached r) (take j rest) (drop j rest)
    ∙ (ap (λ l. filter (is_reached r) (take j rest) ++ l) (filter_none (is_reached r) (drop j rest) beyond)
    ∙ (append-nil (filter (is_reached r) (take j rest)) ∙ filter_all (is_reached r) (take j rest) inside)))))))
  where
    before : (v : ℕ) → IsAmong v (take i xs) → is_reached r v ≡ false
    before v a =
        let below = All_among (λ u. nat_lt u r.first ≡ true) (take i xs) (front (λ u. nat_lt u r.first ≡ true) xs i from.0) v a in
        and_left (nat_le r.first v) (nat_lt v r.end) (lt-leb r.first v (ltb-true v r.first below))

    started : All (λ u. nat_lt u r.first ≡ false) rest
    started = subst (All (λ u. nat_lt u r.first ≡ false)) (sym rest_is) (back (λ u. nat_lt u r.first ≡ false) xs i from.1)

    inside : (v : ℕ) → IsAmong v (take j rest) → is_reached r v ≡ true
    inside v a =
        let above = All_among (λ u. nat_lt u r.first ≡ false) (take j rest) (All-take (λ u. nat_lt u r.first ≡ false) j rest started) v a in
        and_from (nat_le r.first v) (nat_lt v r.end) (le-leb r.first v (ltb-false v r.first above))
        (All_among (λ u. nat_lt u r.end ≡ true) (take j rest) (front (λ u. nat_lt u r.end ≡ true) rest j to.0) v a)

    beyond : (v : ℕ) → IsAmong v (drop j rest) → is_reached r v ≡ false
    beyond v a =
        and_right (nat_le r.first v) (nat_lt v r.end)
        (All_among (λ u. nat_lt u r.end ≡ false) (drop j rest) (back (λ u. nat_lt u r.end ≡ false) rest j to.1) v a)
