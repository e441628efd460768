-- The branch of a node by its place, and the node's role by its branch.
use Rattle.std.proofs.Common.{ℕ, ◌≡◌, ◌<◌, ◌==◌, ◌||◌, ◌⊎◌, ◌↔◌, inl, inr, cond, Bool, true, false, List, [], ◌∷◌, ◌++◌, map, reverse, length, get_or, Option, Some, None, refl, sym, ap, ◌∙◌, subst, arith}
use Rattle.std.proofs.Math.Bool.{or-false}
use Rattle.std.proofs.lemmas.Bool.{both_ways, false_from_ne_true, cases_Bool, eq-eqb, or_left, or_parts, or_right, eqb-true}
use Rattle.std.proofs.lemmas.List.{get_or_append_left, get_or_push, get_or-map, length-map, length-reverse, map-append, reverse-append, reverse-reverse}
use Rattle.std.proofs.lemmas.Option.{none-some, same_Some}
use Rattle.fb_graph.specs.Parity.{is_in}
use Rattle.fb_graph.specs.Certificate.{AreDistinct}
use Rattle.fb_graph.proofs.Sets.{is_in-tail}
use Rattle.fb_regions.specs.declared.roles.Role.TheVariants.{Plus, Minus, Out}
use Rattle.fb_regions.specs.InternalPlaces.{place_in}
use Rattle.fb_laws.specs.Trees.{EntryOf, minus_names, plus_names, tree_names}
use Rattle.fb_trees.specs.declared.branch.Branch.{Branch}
use Rattle.fb_trees.specs.Branches.{Grown, entries_of, entry_of}
use Rattle.fb_trees.specs.Rooted.{IsBranchAt, IsRooted, role_in}
use Rattle.fb_trees.specs.InternalPlaces.{branch_at, place_of}
use Rattle.fb_trees.proofs.Names.{exclusive_names}

pub entries_push : (xs : List Branch) (b : Branch) → entries_of (xs ++ b ∷ []) ≡ entry_of b ∷ entries_of xs
entries_push xs b = ap (map entry_of) (reverse-append xs (b ∷ []))

pub entries_append : (xs ys : List Branch) → entries_of (xs ++ ys) ≡ entries_of ys ++ entries_of xs
entries_append xs ys = ap (map entry_of) (reverse-append xs ys) ∙ map-append entry_of (reverse ys) (reverse xs)

pub length_entries : (xs : List Branch) → length (entries_of xs) ≡ length xs
length_entries xs = length-map (reverse xs) entry_of ∙ length-reverse xs

reverse_first : {X : Type 0} (x : X) (xs : List X) → reverse (x ∷ xs) ≡ reverse xs ++ x ∷ []
reverse_first x xs = reverse-append (x ∷ []) xs

-- at the place of a node there is its branch
place_within : (es : List (EntryOf ℕ)) (name at : ℕ) → place_of es name ≡ Some at → at < length es
place_within [] name at is = absurd (none-some at is)
place_within (e ∷ es) name at is = step ((e.minus == name) || (e.plus == name)) is (place_within es name at)
  where
    step : (b : Bool) → cond b (Some (length es)) (place_of es name) ≡ Some at → (place_of es name ≡ Some at → at < length es)
        → at < length (e ∷ es)
    step true is rest = let same : length es ≡ at = same_Some (length es) at is in omega arith
    step false is rest = let below : at < length es = rest is in omega arith

place_branch : (es : List (EntryOf ℕ)) (name at : ℕ) (d : EntryOf ℕ) → place_of es name ≡ Some at
    → branch_at es name ≡ Some (get_or (reverse es) at d)
place_branch [] name at d is = absurd (none-some at is)
place_branch (e ∷ es) name at d is =
    step ((e.minus == name) || (e.plus == name)) is (place_branch es name at d)
    ∙ ap (λ l. Some (get_or l at d)) (sym (reverse_first e es))
  where
    step : (b : Bool) → cond b (Some (length es)) (place_of es name) ≡ Some at
        → (place_of es name ≡ Some at → branch_at es name ≡ Some (get_or (reverse es) at d))
        → cond b (Some e) (branch_at es name) ≡ Some (get_or (reverse es ++ e ∷ []) at d)
    step true is rest =
        ap Some (sym (get_or_push (reverse es) e d at (length-reverse es ∙ same_Some (length es) at is)))
    step false is rest =
        let below : at < length (reverse es) = subst (λ n. at < n) (sym (length-reverse es)) (place_within es name at is) in
        rest is ∙ ap Some (sym (get_or_append_left (reverse es) (e ∷ []) d at below))

pub no_branch : (es : List (EntryOf ℕ)) (name : ℕ) → place_of es name ≡ None → branch_at es name ≡ None
no_branch [] name is = refl
no_branch (e ∷ es) name is = step ((e.minus == name) || (e.plus == name)) is (no_branch es name)
  where
    step : (b : Bool) → cond b (Some (length es)) (place_of es name) ≡ None → (place_of es name ≡ None → branch_at es name ≡ None)
        → cond b (Some e) (branch_at es name) ≡ None
    step true is rest = absurd (none-some (length es) (sym is))
    step false is rest = rest is

pub has_place : (xs : List Branch) (name at : ℕ) → place_of (entries_of xs) name ≡ Some at → at < length xs
has_place xs name at is = subst (λ n. at < n) (length_entries xs) (place_within (entries_of xs) name at is)

pub map_reverse : {X Y : Type 0} (f : X → Y) (xs : List X) → map f (reverse xs) ≡ reverse (map f xs)
map_reverse f [] = refl
map_reverse f (x ∷ xs) =
    ap (map f) (reverse_first x xs) ∙ (map-append f (reverse xs) (x ∷ []) ∙ (ap (λ l. l ++ f x ∷ []) (map_reverse f xs) ∙ sym (reverse_first (f x) (map f xs))))

pub entries_back : (xs : List Branch) → reverse (entries_of xs) ≡ map entry_of xs
entries_back xs = ap reverse (map_reverse entry_of xs) ∙ reverse-reverse (map entry_of xs)

pub branch_in : (xs : List Branch) (name at : ℕ) (d : Branch) → place_of (entries_of xs) name ≡ Some at
    → Some (entry_of (get_or xs at d)) ≡ branch_at (entries_of xs) name
branch_in xs name at d is =
    sym (place_branch (entries_of xs) name at (entry_of d) is
    ∙ ap Some (ap (λ l. get_or l at (entry_of d)) (entries_back xs) ∙ get_or-map entry_of xs at d (entry_of d) (has_place xs name at is)))

-- a node with a branch is one of its two
pub branch_nodes : (es : List (EntryOf ℕ)) (name : ℕ) (e : EntryOf ℕ) → branch_at es name ≡ Some e
    → ((e.minus ≡ name) × (is_in (minus_names es) name ≡ true))
    ⊎ ((e.plus ≡ name) × ((root : ℕ) → is_in (plus_names root es) name ≡ true))
branch_nodes [] name e is = absurd (none-some e is)
branch_nodes (x ∷ xs) name e is = step (cases_Bool (x.minus == name)) (cases_Bool (x.plus == name)) (branch_nodes xs name e)
  where
    Goal : Type 0
    Goal = ((e.minus ≡ name) × (is_in (x.minus ∷ minus_names xs) name ≡ true))
        ⊎ ((e.plus ≡ name) × ((root : ℕ) → is_in (x.plus ∷ plus_names root xs) name ≡ true))

    here : ((x.minus == name) || (x.plus == name)) ≡ true → x ≡ e
    here holds = same_Some x e (sym (ap (λ b. cond b (Some x) (branch_at xs name)) holds) ∙ is)

    later : ((e.minus ≡ name) × (is_in (minus_names xs) name ≡ true))
        ⊎ ((e.plus ≡ name) × ((root : ℕ) → is_in (plus_names root xs) name ≡ true)) → Goal
    later (inl (same, minus)) = inl (same, is_in-tail x.minus (minus_names xs) name minus)
    later (inr (same, plus)) = inr (same, λ root. is_in-tail x.plus (plus_names root xs) name (plus root))

    step : ((x.minus == name) ≡ true) ⊎ ((x.minus == name) ≡ false) → ((x.plus == name) ≡ true) ⊎ ((x.plus == name) ≡ false)
        → (branch_at xs name ≡ Some e → ((e.minus ≡ name) × (is_in (minus_names xs) name ≡ true))
        ⊎ ((e.plus ≡ name) × ((root : ℕ) → is_in (plus_names root xs) name ≡ true))) → Goal
    step (inl minus) plus rest =
        let same : x ≡ e = here (or_left (x.minus == name) (x.plus == name) minus) in
        inl (ap (λ y. y.minus) (sym same) ∙ eqb-true x.minus name minus, or_left (x.minus == name) (is_in (minus_names xs) name) minus)
    step (inr minus) (inl plus) rest =
        let same : x ≡ e = here (or_right (x.minus == name) (x.plus == name) plus) in
        inr (ap (λ y. y.plus) (sym same) ∙ eqb-true x.plus name plus, λ root. or_left (x.plus == name) (is_in (plus_names root xs) name) plus)
    step (inr minus) (inr plus) rest =
        later (rest (sym (ap (λ b. cond b (Some x) (branch_at xs name)) (both minus plus)) ∙ is))
      where
        both : (x.minus == name) ≡ false → (x.plus == name) ≡ false → ((x.minus == name) || (x.plus == name)) ≡ false
        both m p = ap (λ b. b || (x.plus == name)) m ∙ p

-- a node without a branch is the root, or not in the tree
pub no_branch_plus : (root : ℕ) (es : List (EntryOf ℕ)) (name : ℕ) → branch_at es name ≡ None
    → (is_in (plus_names root es) name ≡ (root == name)) × (is_in (minus_names es) name ≡ false)
no_branch_plus root [] name is = (or-false (root == name), refl)
no_branch_plus root (e ∷ es) name is = step (cases_Bool ((e.minus == name) || (e.plus == name))) (no_branch_plus root es name)
  where
    step : (((e.minus == name) || (e.plus == name)) ≡ true) ⊎ (((e.minus == name) || (e.plus == name)) ≡ false)
        → (branch_at es name ≡ None → (is_in (plus_names root es) name ≡ (root == name)) × (is_in (minus_names es) name ≡ false))
        → (is_in (e.plus ∷ plus_names root es) name ≡ (root == name)) × (is_in (e.minus ∷ minus_names es) name ≡ false)
    step (inl h) rest = absurd (none-some e (sym is ∙ ap (λ b. cond b (Some e) (branch_at es name)) h))
    step (inr h) rest =
        let parts = or_parts (e.minus == name) (e.plus == name) h in
        let none = rest (sym (ap (λ b. cond b (Some e) (branch_at es name)) h) ∙ is) in
        (ap (λ b. b || is_in (plus_names root es) name) parts.1 ∙ none.0, ap (λ b. b || is_in (minus_names es) name) parts.0 ∙ none.1)

-- the role of a node by its branch
pub role_plus : (t : Grown) (name : ℕ) → is_in (plus_names t.root t.branches) name ≡ true → Plus ≡ role_in t name
role_plus t name plus = ap (λ b. cond b Plus (cond (is_in (minus_names t.branches) name) Minus Out)) (sym plus)

pub role_minus : (t : Grown) (name : ℕ) → AreDistinct (tree_names t.root t.branches) → is_in (minus_names t.branches) name ≡ true
    → Minus ≡ role_in t name
role_minus t name distinct minus =
    ap (λ b. cond b Minus Out) (sym minus)
    ∙ ap (λ b. cond b Plus (cond (is_in (minus_names t.branches) name) Minus Out)) (sym other)
  where
    other : is_in (plus_names t.root t.branches) name ≡ false
    other =
        false_from_ne_true (is_in (plus_names t.root t.branches) name)
        (λ plus. both_ways (is_in (minus_names t.branches) name) (exclusive_names t.root t.branches distinct name plus) minus)

-- a node that is its branch's plus node is plus, and another one minus
pub branch_plus : (root : ℕ) (es : List (EntryOf ℕ)) (name : ℕ) (e : EntryOf ℕ) → branch_at es name ≡ Some e → e.plus ≡ name
    → is_in (plus_names root es) name ≡ true
branch_plus root [] name e is same = absurd (none-some e is)
branch_plus root (x ∷ xs) name e is same =
    step (cases_Bool ((x.minus == name) || (x.plus == name))) (branch_plus root xs name e)
  where
    step : (((x.minus == name) || (x.plus == name)) ≡ true) ⊎ (((x.minus == name) || (x.plus == name)) ≡ false)
        → (branch_at xs name ≡ Some e → e.plus ≡ name → is_in (plus_names root xs) name ≡ true)
        → is_in (x.plus ∷ plus_names root xs) name ≡ true
    step (inl h) rest =
        let here : x ≡ e = same_Some x e (sym (ap (λ b. cond b (Some x) (branch_at xs name)) h) ∙ is) in
        or_left (x.plus == name) (is_in (plus_names root xs) name) (eq-eqb x.plus name (ap (λ y. y.plus) here ∙ same))
    step (inr h) rest =
        is_in-tail x.plus (plus_names root xs) name (rest (sym (ap (λ b. cond b (Some x) (branch_at xs name)) h) ∙ is) same)

pub branch_minus : (es : List (EntryOf ℕ)) (name : ℕ) (e : EntryOf ℕ) → branch_at es name ≡ Some e → (e.plus ≡ name → ⊥)
    → (e.minus ≡ name) × (is_in (minus_names es) name ≡ true)
branch_minus es name e is other = by (branch_nodes es name e is)
  where
    by : ((e.minus ≡ name) × (is_in (minus_names es) name ≡ true)) ⊎ ((e.plus ≡ name) × ((root : ℕ) → is_in (plus_names root es) name ≡ true))
        → (e.minus ≡ name) × (is_in (minus_names es) name ≡ true)
    by (inl minus) = minus
    by (inr (same, plus)) = absurd (other same)

pub role_of_plus : (t : Grown) (name : ℕ) (e : EntryOf ℕ) → Some e ≡ branch_at t.branches name → e.plus ≡ name → Plus ≡ role_in t name
role_of_plus t name e is same = role_plus t name (branch_plus t.root t.branches name e (sym is) same)

pub role_of_minus : (t : Grown) (name : ℕ) (e : EntryOf ℕ) → IsRooted t.root t.branches → Some e ≡ branch_at t.branches name
    → (e.plus ≡ name → ⊥) → Minus ≡ role_in t name
role_of_minus t name e rooted is other = role_minus t name rooted.names (branch_minus t.branches name e (sym is) other).1

-- a role tells which of the names a node's is
pub plus_role : (t : Grown) (name : ℕ) (names : List ℕ) → names ≡ plus_names t.root t.branches
    → (role_in t name ≡ Plus) ↔ (is_in names name ≡ true)
plus_role t name names are = (
  λ role. ap (λ l. is_in l name) are ∙ there (cases_Bool (is_in (plus_names t.root t.branches) name)) role,
  λ among. sym (role_plus t name (ap (λ l. is_in l name) (sym are) ∙ among)),
)
  where
    there : (is_in (plus_names t.root t.branches) name ≡ true) ⊎ (is_in (plus_names t.root t.branches) name ≡ false)
        → role_in t name ≡ Plus → is_in (plus_names t.root t.branches) name ≡ true
    there (inl h) role = h
    there (inr h) role =
        absurd (other (is_in (minus_names t.branches) name)
        (sym (ap (λ b. cond b Plus (cond (is_in (minus_names t.branches) name) Minus Out)) h) ∙ role))
      where
        other : (b : Bool) → cond b Minus Out ≡ Plus → ⊥
        other true same = cc
        other false same = cc

pub minus_role : (t : Grown) (name : ℕ) → IsRooted t.root t.branches → (names : List ℕ) → names ≡ minus_names t.branches
    → (role_in t name ≡ Minus) ↔ (is_in names name ≡ true)
minus_role t name rooted names are = (
  λ role. ap (λ l. is_in l name) are ∙ there (is_in (plus_names t.root t.branches) name) (cases_Bool (is_in (minus_names t.branches) name)) role,
  λ among. sym (role_minus t name rooted.names (ap (λ l. is_in l name) (sym are) ∙ among)),
)
  where
    there : (p : Bool) → (is_in (minus_names t.branches) name ≡ true) ⊎ (is_in (minus_names t.branches) name ≡ false)
        → cond p Plus (cond (is_in (minus_names t.branches) name) Minus Out) ≡ Minus → is_in (minus_names t.branches) name ≡ true
    there p (inl h) role = h
    there p (inr h) role = absurd (other p (sym (ap (λ b. cond p Plus (cond b Minus Out)) h) ∙ role))
      where
        other : (b : Bool) → cond b Plus Out ≡ Minus → ⊥
        other true same = cc
        other false same = cc

-- the branch of a node among the branches
record IsAmong (es : List (EntryOf ℕ)) (e : EntryOf ℕ) : Type 0 where
  newer : List (EntryOf ℕ)
  older : List (EntryOf ℕ)
  there : es ≡ newer ++ e ∷ older

branch_among : (es : List (EntryOf ℕ)) (name : ℕ) (e : EntryOf ℕ) → branch_at es name ≡ Some e → IsAmong es e
branch_among [] name e is = absurd (none-some e is)
branch_among (x ∷ xs) name e is = step (cases_Bool ((x.minus == name) || (x.plus == name))) (branch_among xs name e)
  where
    step : (((x.minus == name) || (x.plus == name)) ≡ true) ⊎ (((x.minus == name) || (x.plus == name)) ≡ false)
        → (branch_at xs name ≡ Some e → IsAmong xs e) → IsAmong (x ∷ xs) e
    step (inl h) rest =
        let same : x ≡ e = same_Some x e (sym (ap (λ b. cond b (Some x) (branch_at xs name)) h) ∙ is) in
        record { newer = []; older = xs; there = ap (λ y. y ∷ xs) same }
    step (inr h) rest =
        let there = rest (sym (ap (λ b. cond b (Some x) (branch_at xs name)) h) ∙ is) in
        record { newer = x ∷ there.newer; older = there.older; there = ap (λ l. x ∷ l) there.there }

-- a minus node has a branch, and is its minus node
pub minus_branch : (t : Grown) (name : ℕ) (e : EntryOf ℕ) → IsRooted t.root t.branches
    → is_in (minus_names t.branches) name ≡ true → Some e ≡ branch_at t.branches name → IsBranchAt t name e
minus_branch t name e rooted minus is = record {
  newer = among.newer;
  older = among.older;
  there = among.there;
  minus = by (branch_nodes t.branches name e (sym is));
}
  where
    among : IsAmong t.branches e
    among = branch_among t.branches name e (sym is)

    by : ((e.minus ≡ name) × (is_in (minus_names t.branches) name ≡ true))
        ⊎ ((e.plus ≡ name) × ((root : ℕ) → is_in (plus_names root t.branches) name ≡ true)) → e.minus ≡ name
    by (inl both) = both.0
    by (inr both) =
        absurd (both_ways (is_in (minus_names t.branches) name) (exclusive_names t.root t.branches rooted.names name (both.1 t.root)) minus)

pub minus_has_branch : (t : Grown) (name : ℕ) → is_in (minus_names t.branches) name ≡ true → None ≡ branch_at t.branches name → ⊥
minus_has_branch t name minus none =
    both_ways (is_in (minus_names t.branches) name) (no_branch_plus t.root t.branches name (sym none)).1 minus

-- what a table that other trees share has for a node of the tree
pub read_own : (root : ℕ) (es : List (EntryOf ℕ)) (name : ℕ) {places table : List (Option ℕ)} {at : Option ℕ}
    → ((n : ℕ) → is_in (tree_names root es) n ≡ true → place_in places n ≡ place_of es n) → is_in (tree_names root es) name ≡ true
    → table ≡ places → at ≡ place_in table name → place_of es name ≡ at
read_own root es name placed within same is =
    sym (placed name within) ∙ (ap (λ l. place_in l name) (sym same) ∙ sym is)
