-- The ranges of all nodes, one node after another.
use Rattle.std.proofs.Common.{ℕ, ◌+◌, ◌-◌, ◌<◌, ◌≤◌, ◌≡◌, List, [], ◌∷◌, ◌++◌, length, map, take, length-take-le, get_or, sym, ap, ◌∙◌, arith, append_assoc, append-nil, length-append}
use Rattle.std.proofs.lemmas.List.{length-map, get_or_append_left, get_or-append_right, get_or-map, take_more, map_more}
use Rattle.fb_plan.specs.Rules.{claim_of, claims_from, ranges_of}
use Rattle.fb_plan.specs.declared.parts.Join.{Join}

pub left_list : {X Y : Type 0} (f : X → List (ℕ × ℕ)) (g : Y → List (ℕ × ℕ)) (xs : List X) (ys : List Y) (k : ℕ) (d : X)
    → k < length xs → get_or (map f xs ++ map g ys) k [] ≡ f (get_or xs k d)
left_list f g xs ys k d less =
    get_or_append_left (map f xs) (map g ys) [] k (omega (arith, length-map xs f))
    ∙ get_or-map f xs k d [] less

pub right_list : {X Y : Type 0} (f : X → List (ℕ × ℕ)) (g : Y → List (ℕ × ℕ)) (xs : List X) (ys : List Y) (k : ℕ) (d : Y)
    → length xs ≤ k → k - length xs < length ys → get_or (map f xs ++ map g ys) k [] ≡ g (get_or ys (k - length xs) d)
right_list f g xs ys k d above less =
    get_or-append_right (map f xs) (map g ys) (length xs) k [] (length-map xs f) above
    ∙ get_or-map g ys (k - length xs) d [] less

pub length-ranges_of : {X : Type 0} (f : X → List (ℕ × ℕ)) (xs : List X) (fusions : List Join)
    → length (ranges_of (map f xs) fusions) ≡ length xs + length fusions
length-ranges_of f xs fusions =
    omega (
      arith,
      length-append (map f xs) (map (λ join. join.seam.items) fusions),
      length-map xs f,
      length-map fusions (λ join. join.seam.items),
    )

pub claims-append : (n : ℕ) (xs ys : List (List (ℕ × ℕ))) → claims_from n (xs ++ ys) ≡ claims_from n xs ++ claims_from (n + length xs) ys
claims-append n [] ys = ap (λ k. claims_from k ys) (omega arith)
claims-append n (x ∷ xs) ys =
    ap (λ zs. map (claim_of n) x ++ zs) (claims-append (n + 1) xs ys
    ∙ ap (λ k. claims_from (n + 1) xs ++ claims_from k ys) (omega arith))
    ∙ sym (append_assoc (map (claim_of n) x) (claims_from (n + 1) xs) (claims_from (n + length (x ∷ xs)) ys))

-- the ranges of one more node
pub claims_more : (ranges : List (List (ℕ × ℕ))) (k : ℕ) → k < length ranges
    → claims_from 0 (take (k + 1) ranges) ≡ claims_from 0 (take k ranges) ++ map (claim_of k) (get_or ranges k [])
claims_more ranges k less =
    ap (claims_from 0) (take_more ranges k [] less)
    ∙ claims-append 0 (take k ranges) (get_or ranges k [] ∷ [])
    ∙ ap (λ xs. claims_from 0 (take k ranges) ++ xs)
    (append-nil (map (claim_of (0 + length (take k ranges))) (get_or ranges k []))
    ∙ ap (λ j. map (claim_of j) (get_or ranges k [])) (omega (arith, length-take-le k ranges)))

-- one more element, made of one more of a list
pub mapped_more : {X Y : Type 0} (f : X → Y) (xs : List X) (i : ℕ) (d : X) → i < length xs → (made more : List Y) (y : Y)
    → more ≡ made ++ y ∷ [] → made ≡ map f (take i xs) → y ≡ f (get_or xs i d) → more ≡ map f (take (i + 1) xs)
mapped_more f xs i d less made more y pushed so_far is =
    pushed
    ∙ ap (λ ys. ys ++ y ∷ []) so_far
    ∙ ap (λ z. map f (take i xs) ++ z ∷ []) is
    ∙ sym (map_more f xs i d less)
