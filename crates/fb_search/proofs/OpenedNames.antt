-- The names and the numbers of links that a search lists, before and after a blossom of its tree is opened.
use Rattle.std.proofs.Common.{ℕ, ◌≡◌, true, List, [], ◌∷◌, ◌++◌, refl, sym, ap, ◌∙◌, subst, append_assoc}
use Rattle.std.specs.List.Sorted.{IsPermutation}
use Rattle.std.proofs.lemmas.Bool.{false≢true}
use Rattle.std.proofs.lemmas.List.Sorted.{IsPermutation-append_comm, IsPermutation-append_left, IsPermutation-append_right, IsPermutation-middle, IsPermutation-refl, IsPermutation-sym, IsPermutation-trans}
use Rattle.fb_graph.specs.Parity.{is_in}
use Rattle.fb_graph.specs.Certificate.{AreDistinct}
use Rattle.fb_graph.proofs.Sets.{is_in-head, is_in-tail}
use Rattle.fb_laws.specs.OpenedCycles.{PassOf, last_of, opened_branches, opened_tree, paired_on}
use Rattle.fb_laws.specs.TreeCycles.{nodes_along}
use Rattle.fb_laws.specs.Trees.{EntryOf, tree_names}

-- a branch is known by its minus node
pub record IsSameBranch (newer : List (EntryOf ℕ)) (e : EntryOf ℕ) (older newer2 : List (EntryOf ℕ)) (e2 : EntryOf ℕ)
    (older2 : List (EntryOf ℕ)) : Type 0 where
  pub newer_are : newer ≡ newer2
  pub branch_is : e ≡ e2
  pub older_are : older ≡ older2

minus_later : (root : ℕ) (xs : List (EntryOf ℕ)) (e : EntryOf ℕ) (ys : List (EntryOf ℕ))
    → is_in (tree_names root (xs ++ e ∷ ys)) e.minus ≡ true
minus_later root [] e ys = is_in-head e.minus (e.plus ∷ tree_names root ys)
minus_later root (x ∷ xs) e ys =
    is_in-tail x.minus (x.plus ∷ tree_names root (xs ++ e ∷ ys)) e.minus
    (is_in-tail x.plus (tree_names root (xs ++ e ∷ ys)) e.minus (minus_later root xs e ys))

-- it is not that of a branch further down
not_later : (root : ℕ) (x : EntryOf ℕ) (xs : List (EntryOf ℕ)) (e : EntryOf ℕ) (ys zs : List (EntryOf ℕ)) → zs ≡ xs ++ e ∷ ys
    → AreDistinct (tree_names root (x ∷ zs)) → x.minus ≡ e.minus → ⊥
not_later root x xs e ys zs is distinct same =
    false≢true (sym distinct.0
    ∙ (ap (is_in (x.plus ∷ tree_names root zs)) same
    ∙ is_in-tail x.plus (tree_names root zs) e.minus
    (ap (λ l. is_in (tree_names root l) e.minus) is ∙ minus_later root xs e ys)))

pub same_branch : (root : ℕ) (newer : List (EntryOf ℕ)) (e : EntryOf ℕ) (older newer2 : List (EntryOf ℕ)) (e2 : EntryOf ℕ)
    (older2 : List (EntryOf ℕ)) → newer ++ e ∷ older ≡ newer2 ++ e2 ∷ older2 → e.minus ≡ e2.minus → AreDistinct (tree_names root (newer ++ e ∷ older))
    → IsSameBranch newer e older newer2 e2 older2
same_branch root [] e older [] e2 older2 is same distinct =
    let there : e ∷ older ≡ e2 ∷ older2 = is in record { newer_are = refl; branch_is = cc; older_are = cc }
same_branch root [] e older (y ∷ ys) e2 older2 is same distinct =
    let there : e ∷ older ≡ y ∷ (ys ++ e2 ∷ older2) = is in
    let rest : older ≡ ys ++ e2 ∷ older2 = cc in
    absurd (not_later root e ys e2 older2 older rest distinct same)
same_branch root (x ∷ xs) e older [] e2 older2 is same distinct =
    let there : x ∷ (xs ++ e ∷ older) ≡ e2 ∷ older2 = is in
    let first : x ≡ e2 = cc in
    absurd (not_later root x xs e older (xs ++ e ∷ older) refl distinct (ap (λ y. y.minus) first ∙ sym same))
same_branch root (x ∷ xs) e older (y ∷ ys) e2 older2 is same distinct =
    let there : x ∷ (xs ++ e ∷ older) ≡ y ∷ (ys ++ e2 ∷ older2) = is in
    let first : x ≡ y = cc in
    let rest : xs ++ e ∷ older ≡ ys ++ e2 ∷ older2 = cc in
    let found = same_branch root xs e older ys e2 older2 rest same distinct.1.1 in
    record {
      newer_are = ap (λ z. z ∷ xs) first ∙ ap (λ l. y ∷ l) found.newer_are;
      branch_is = found.branch_is;
      older_are = found.older_are;
    }

along-append : (xs ys : List (EntryOf ℕ)) → nodes_along (xs ++ ys) ≡ nodes_along xs ++ nodes_along ys
along-append [] ys = refl
along-append (x ∷ xs) ys = ap (λ l. x.minus ∷ x.plus ∷ l) (along-append xs ys)

pub names-along : (root : ℕ) (tree : List (EntryOf ℕ)) → tree_names root tree ≡ nodes_along tree ++ root ∷ []
names-along root [] = refl
names-along root (x ∷ xs) = ap (λ l. x.minus ∷ x.plus ∷ l) (names-along root xs)

-- the nodes of the tree beside the blossom
abbrev pub along_beside : List (EntryOf ℕ) → EntryOf ℕ → List (EntryOf ℕ) → List ℕ
along_beside newer e older = nodes_along newer ++ e.plus ∷ nodes_along older

pub along_before : (newer : List (EntryOf ℕ)) (e : EntryOf ℕ) (older : List (EntryOf ℕ))
    → IsPermutation (nodes_along (newer ++ e ∷ older)) (e.minus ∷ along_beside newer e older)
along_before newer e older =
    subst (λ l. IsPermutation l (e.minus ∷ along_beside newer e older)) (sym (along-append newer (e ∷ older)))
    (IsPermutation-middle (nodes_along newer) e.minus (e.plus ∷ nodes_along older))

-- the nodes along the way
abbrev pub along_way : ℕ → List (PassOf ℕ) → List ℕ
along_way from way = paired_on from way ++ last_of from way ∷ []

along_opened : (parent tree minus : ℕ) (way : List (PassOf ℕ)) (matched plus : ℕ)
    → IsPermutation (nodes_along (opened_branches parent tree minus way matched plus)) (along_way minus way ++ plus ∷ [])
along_opened parent tree minus [] matched plus = IsPermutation-refl (minus ∷ plus ∷ [])
along_opened parent tree minus (s ∷ ss) matched plus =
    subst (λ l. IsPermutation l (minus ∷ s.plus ∷ (along_way s.minus ss ++ plus ∷ [])))
    (sym (along-append (opened_branches s.plus s.tree s.minus ss matched plus)
    (record { parent = parent; tree = tree; minus = minus; matched = s.matched; plus = s.plus } ∷ [])))
    (IsPermutation-trans (inner ++ minus ∷ s.plus ∷ []) (minus ∷ s.plus ∷ inner) _
    (IsPermutation-append_comm inner (minus ∷ s.plus ∷ []))
    (IsPermutation-append_right (minus ∷ s.plus ∷ []) inner (along_way s.minus ss ++ plus ∷ [])
    (along_opened s.plus s.tree s.minus ss matched plus)))
  where
    inner : List ℕ
    inner = nodes_along (opened_branches s.plus s.tree s.minus ss matched plus)

-- swaps the first and the third part
swapped : (a b c d : List ℕ) → IsPermutation ((a ++ b) ++ (c ++ d)) ((c ++ b) ++ (a ++ d))
swapped a b c d =
    subst (λ l. IsPermutation l ((c ++ b) ++ (a ++ d))) (append_assoc (a ++ b) c d)
    (subst (IsPermutation (((a ++ b) ++ c) ++ d)) (append_assoc (c ++ b) a d)
    (IsPermutation-append_left d ((a ++ b) ++ c) ((c ++ b) ++ a)
    (IsPermutation-trans ((a ++ b) ++ c) (c ++ (a ++ b)) ((c ++ b) ++ a) (IsPermutation-append_comm (a ++ b) c)
    (subst (IsPermutation (c ++ (a ++ b))) (sym (append_assoc c b a))
    (IsPermutation-append_right c (a ++ b) (b ++ a) (IsPermutation-append_comm a b))))))

-- moves the second part to the front
front : (a b c : List ℕ) → IsPermutation (a ++ (b ++ c)) (b ++ (a ++ c))
front a b c =
    subst (λ l. IsPermutation l (b ++ (a ++ c))) (append_assoc a b c)
    (subst (IsPermutation ((a ++ b) ++ c)) (append_assoc b a c)
    (IsPermutation-append_left c (a ++ b) (b ++ a) (IsPermutation-append_comm a b)))

pub along_after : (newer : List (EntryOf ℕ)) (e : EntryOf ℕ) (older : List (EntryOf ℕ)) (from : ℕ) (way : List (PassOf ℕ))
    → IsPermutation (nodes_along (opened_tree newer e older from way)) (along_way from way ++ along_beside newer e older)
along_after newer e older from way =
    subst (λ l. IsPermutation l (along_way from way ++ along_beside newer e older))
    (sym (along-append newer (new ++ older) ∙ ap (λ l. nodes_along newer ++ l) (along-append new older)))
    (IsPermutation-trans (nodes_along newer ++ (nodes_along new ++ nodes_along older))
    (nodes_along newer ++ ((along_way from way ++ e.plus ∷ []) ++ nodes_along older)) _
    (IsPermutation-append_right (nodes_along newer) (nodes_along new ++ nodes_along older)
    ((along_way from way ++ e.plus ∷ []) ++ nodes_along older)
    (IsPermutation-append_left (nodes_along older) (nodes_along new) (along_way from way ++ e.plus ∷ [])
    (along_opened e.parent e.tree from way e.matched e.plus)))
    (subst
    (λ l. IsPermutation (nodes_along newer ++ l) (along_way from way ++ along_beside newer e older))
    (sym (append_assoc (along_way from way) (e.plus ∷ []) (nodes_along older)))
    (front (nodes_along newer) (along_way from way) (e.plus ∷ nodes_along older))))
  where
    new : List (EntryOf ℕ)
    new = opened_branches e.parent e.tree from way e.matched e.plus

-- Each name listed before but the blossom's, and each child, is listed once after.
pub names_opened : (children unmatched matched couples : List ℕ) (newer : List (EntryOf ℕ)) (e : EntryOf ℕ)
    (older : List (EntryOf ℕ)) (from : ℕ) (way : List (PassOf ℕ)) → IsPermutation children (along_way from way ++ couples)
    → IsPermutation (children ++ ((unmatched ++ matched) ++ along_beside newer e older))
    ((unmatched ++ (matched ++ couples)) ++ nodes_along (opened_tree newer e older from way))
names_opened children unmatched matched couples newer e older from way parted =
    IsPermutation-trans (children ++ (listed ++ others)) ((along_way from way ++ couples) ++ (listed ++ others)) _
    (IsPermutation-append_left (listed ++ others) children (along_way from way ++ couples) parted)
    (IsPermutation-trans ((along_way from way ++ couples) ++ (listed ++ others))
    ((listed ++ couples) ++ (along_way from way ++ others)) _
    (swapped (along_way from way) couples listed others)
    (subst
    (λ l.
    IsPermutation ((listed ++ couples) ++ (along_way from way ++ others))
    (l ++ nodes_along (opened_tree newer e older from way)))
    (append_assoc unmatched matched couples)
    (IsPermutation-append_right (listed ++ couples) (along_way from way ++ others)
    (nodes_along (opened_tree newer e older from way))
    (IsPermutation-sym (nodes_along (opened_tree newer e older from way)) (along_way from way ++ others)
    (along_after newer e older from way)))))
  where
    listed : List ℕ
    listed = unmatched ++ matched

    others : List ℕ
    others = along_beside newer e older

-- The links of the ring are the way's, those that match couples, and those that are left.
pub numbers_opened : (tree after way matches couples left rings ring rings_after : List ℕ)
    → IsPermutation rings (ring ++ rings_after) → IsPermutation ring (way ++ (couples ++ left))
    → IsPermutation (tree ++ way) after
    → IsPermutation (tree ++ (matches ++ rings)) ((after ++ ((matches ++ couples) ++ rings_after)) ++ left)
numbers_opened tree after way matches couples left rings ring rings_after freed parted joined =
    IsPermutation-trans (tree ++ (matches ++ rings)) (tree ++ (way ++ beside)) ((after ++ kept) ++ left)
    (IsPermutation-append_right tree (matches ++ rings) (way ++ beside)
    (IsPermutation-trans (matches ++ rings) (matches ++ (way ++ ((couples ++ left) ++ rings_after))) (way ++ beside)
    (IsPermutation-append_right matches rings (way ++ ((couples ++ left) ++ rings_after)) round)
    (front matches way ((couples ++ left) ++ rings_after))))
    (subst (λ l. IsPermutation l ((after ++ kept) ++ left)) (append_assoc tree way beside)
    (IsPermutation-trans ((tree ++ way) ++ beside) (after ++ beside) ((after ++ kept) ++ left)
    (IsPermutation-append_left beside (tree ++ way) after joined)
    (subst (IsPermutation (after ++ beside)) (sym (append_assoc after kept left))
    (IsPermutation-append_right after beside (kept ++ left) last))))
  where
    beside : List ℕ
    beside = matches ++ ((couples ++ left) ++ rings_after)

    kept : List ℕ
    kept = (matches ++ couples) ++ rings_after

    round : IsPermutation rings (way ++ ((couples ++ left) ++ rings_after))
    round =
        IsPermutation-trans rings (ring ++ rings_after) (way ++ ((couples ++ left) ++ rings_after)) freed
        (subst (IsPermutation (ring ++ rings_after)) (append_assoc way (couples ++ left) rings_after)
        (IsPermutation-append_left rings_after ring (way ++ (couples ++ left)) parted))

    last : IsPermutation beside (kept ++ left)
    last =
        subst (λ l. IsPermutation (matches ++ l) (kept ++ left)) (sym (append_assoc couples left rings_after))
        (subst (IsPermutation (matches ++ (couples ++ (left ++ rings_after))))
        (sym (append_assoc matches couples (rings_after ++ left)) ∙ sym (append_assoc (matches ++ couples) rings_after left))
        (IsPermutation-append_right matches (couples ++ (left ++ rings_after)) (couples ++ (rings_after ++ left))
        (IsPermutation-append_right couples (left ++ rings_after) (rings_after ++ left)
        (IsPermutation-append_comm left rings_after))))
