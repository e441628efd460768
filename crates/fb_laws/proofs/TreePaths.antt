-- Paths of a search's tree as lists of its branches.
use Rattle.std.proofs.Common.{ℕ, ◌≡◌, ◌*◌, ◌==◌, ◌⊎◌, inl, inr, cond, true, false, List, [], ◌∷◌, ◌++◌, length, refl, sym, ap, ◌∙◌, subst, arith}
use Rattle.std.proofs.lemmas.Bool.{both_ways, false≢true, cases_eq, eq-eqb, ne_eqb, false_from_ne_true}
use Rattle.std.proofs.lemmas.List.{append_assoc}
use Rattle.fb_graph.specs.Parity.{is_in}
use Rattle.fb_graph.specs.Certificate.{AreDistinct}
use Rattle.fb_graph.specs.Dual.{Node}
use Rattle.fb_graph.proofs.Sets.{is_in-cases, is_in-head, is_in-tail}
use Rattle.fb_laws.specs.Trees.{Entry, Connects, IsTree, plus_names, minus_names, tree_names, path_to}
use Rattle.fb_laws.specs.TreeCycles.{nodes_along, last_plus, PartAtOnce}
use Rattle.fb_graph.proofs.Among.{IsAmong, among_right, among_either}
use Rattle.fb_laws.proofs.MergedParts.{distinct_across}
use Rattle.fb_laws.proofs.SearchTrees.{plus_in_tree, minus_in_tree, exclusive_names}
use Rattle.fb_graph.proofs.Unions.{distinct_append}
use Rattle.fb_graph.proofs.Floods.{is_in-left}

pub distinct_right : (xs ys : List ℕ) → AreDistinct (xs ++ ys) → AreDistinct ys
distinct_right [] ys distinct = distinct
distinct_right (x ∷ xs) ys distinct = distinct_right xs ys distinct.1

pub along_append : (xs ys : List Entry) → nodes_along (xs ++ ys) ≡ nodes_along xs ++ nodes_along ys
along_append [] ys = refl
along_append (x ∷ xs) ys = ap (λ l. x.minus ∷ x.plus ∷ l) (along_append xs ys)

-- the tree's names are those of its branches, and the root
pub names_along : (root : ℕ) (tree : List Entry) → tree_names root tree ≡ nodes_along tree ++ root ∷ []
names_along root [] = refl
names_along root (e ∷ es) = ap (λ l. e.minus ∷ e.plus ∷ l) (names_along root es)

pub along_minus : (es : List Entry) (e : Entry) → IsAmong e es → is_in (nodes_along es) e.minus ≡ true
along_minus [] e a = absurd a
along_minus (x ∷ xs) e (inl same) =
    subst (λ y. is_in (x.minus ∷ x.plus ∷ nodes_along xs) y.minus ≡ true) same (is_in-head x.minus (x.plus ∷ nodes_along xs))
along_minus (x ∷ xs) e (inr a) =
    is_in-tail x.minus (x.plus ∷ nodes_along xs) e.minus (is_in-tail x.plus (nodes_along xs) e.minus (along_minus xs e a))

pub along_plus : (es : List Entry) (e : Entry) → IsAmong e es → is_in (nodes_along es) e.plus ≡ true
along_plus [] e a = absurd a
along_plus (x ∷ xs) e (inl same) =
    subst (λ y. is_in (x.minus ∷ x.plus ∷ nodes_along xs) y.plus ≡ true) same
    (is_in-tail x.minus (x.plus ∷ nodes_along xs) x.plus (is_in-head x.plus (nodes_along xs)))
along_plus (x ∷ xs) e (inr a) =
    is_in-tail x.minus (x.plus ∷ nodes_along xs) e.plus (is_in-tail x.plus (nodes_along xs) e.plus (along_plus xs e a))

-- a node of branches is the minus or the plus node of one of them
pub along_among : (es : List Entry) (n : ℕ) → is_in (nodes_along es) n ≡ true
    → (e : Entry) × IsAmong e es × ((e.minus ≡ n) ⊎ (e.plus ≡ n))
along_among [] n within = absurd (false≢true within)
along_among (x ∷ xs) n within = first (is_in-cases x.minus (x.plus ∷ nodes_along xs) n within) (along_among xs n)
  where
    Found : Type 0
    Found = (e : Entry) × IsAmong e (x ∷ xs) × ((e.minus ≡ n) ⊎ (e.plus ≡ n))

    second : (x.plus ≡ n) ⊎ (is_in (nodes_along xs) n ≡ true)
        → (is_in (nodes_along xs) n ≡ true → (e : Entry) × IsAmong e xs × ((e.minus ≡ n) ⊎ (e.plus ≡ n))) → Found
    second (inl same) rest = (x, inl refl, inr same)
    second (inr there) rest = let (e, a, is) = rest there in (e, inr a, is)

    first : (x.minus ≡ n) ⊎ (is_in (x.plus ∷ nodes_along xs) n ≡ true)
        → (is_in (nodes_along xs) n ≡ true → (e : Entry) × IsAmong e xs × ((e.minus ≡ n) ⊎ (e.plus ≡ n))) → Found
    first (inl same) rest = (x, inl refl, inl same)
    first (inr there) rest = second (is_in-cases x.plus (nodes_along xs) n there) rest

pub among_minus : (es : List Entry) (e : Entry) → IsAmong e es → is_in (minus_names es) e.minus ≡ true
among_minus [] e a = absurd a
among_minus (x ∷ xs) e (inl same) = subst (λ y. is_in (x.minus ∷ minus_names xs) y.minus ≡ true) same (is_in-head x.minus (minus_names xs))
among_minus (x ∷ xs) e (inr a) = is_in-tail x.minus (minus_names xs) e.minus (among_minus xs e a)

pub among_plus : (root : ℕ) (es : List Entry) (e : Entry) → IsAmong e es → is_in (plus_names root es) e.plus ≡ true
among_plus root [] e a = absurd a
among_plus root (x ∷ xs) e (inl same) =
    subst (λ y. is_in (x.plus ∷ plus_names root xs) y.plus ≡ true) same (is_in-head x.plus (plus_names root xs))
among_plus root (x ∷ xs) e (inr a) = is_in-tail x.plus (plus_names root xs) e.plus (among_plus root xs e a)

pub minus_among : (es : List Entry) (n : ℕ) → is_in (minus_names es) n ≡ true → (e : Entry) × IsAmong e es × (e.minus ≡ n)
minus_among [] n within = absurd (false≢true within)
minus_among (x ∷ xs) n within = step (is_in-cases x.minus (minus_names xs) n within) (minus_among xs n)
  where
    step : (x.minus ≡ n) ⊎ (is_in (minus_names xs) n ≡ true)
        → (is_in (minus_names xs) n ≡ true → (e : Entry) × IsAmong e xs × (e.minus ≡ n))
        → (e : Entry) × IsAmong e (x ∷ xs) × (e.minus ≡ n)
    step (inl same) rest = (x, inl refl, same)
    step (inr there) rest = let (e, a, is) = rest there in (e, inr a, is)

-- the first branch has other nodes than the later ones
minus_new : (root : ℕ) (x : Entry) (xs : List Entry) → AreDistinct (tree_names root (x ∷ xs)) → (e : Entry) → IsAmong e xs → x.minus ≡ e.minus → ⊥
minus_new root x xs distinct e a same =
    both_ways (is_in (x.plus ∷ tree_names root xs) x.minus) distinct.0
    (is_in-tail x.plus (tree_names root xs) x.minus
    (minus_in_tree root xs x.minus (ap (is_in (minus_names xs)) same ∙ among_minus xs e a)))

plus_new : (root : ℕ) (x : Entry) (xs : List Entry) → AreDistinct (tree_names root (x ∷ xs)) → (e : Entry) → IsAmong e xs → x.plus ≡ e.plus → ⊥
plus_new root x xs distinct e a same =
    both_ways (is_in (tree_names root xs) x.plus) distinct.1.0
    (plus_in_tree root xs x.plus (ap (is_in (plus_names root xs)) same ∙ among_plus root xs e a))

-- a node is in one branch
pub same_minus : (root : ℕ) (tree : List Entry) → AreDistinct (tree_names root tree) → (e f : Entry) → IsAmong e tree → IsAmong f tree
    → e.minus ≡ f.minus → e ≡ f
same_minus root [] distinct e f a b same = absurd a
same_minus root (x ∷ xs) distinct e f (inl i) (inl j) same = sym i ∙ j
same_minus root (x ∷ xs) distinct e f (inl i) (inr b) same = absurd (minus_new root x xs distinct f b (ap (λ y. y.minus) i ∙ same))
same_minus root (x ∷ xs) distinct e f (inr a) (inl j) same = absurd (minus_new root x xs distinct e a (ap (λ y. y.minus) j ∙ sym same))
same_minus root (x ∷ xs) distinct e f (inr a) (inr b) same = same_minus root xs distinct.1.1 e f a b same

pub same_plus : (root : ℕ) (tree : List Entry) → AreDistinct (tree_names root tree) → (e f : Entry) → IsAmong e tree → IsAmong f tree
    → e.plus ≡ f.plus → e ≡ f
same_plus root [] distinct e f a b same = absurd a
same_plus root (x ∷ xs) distinct e f (inl i) (inl j) same = sym i ∙ j
same_plus root (x ∷ xs) distinct e f (inl i) (inr b) same = absurd (plus_new root x xs distinct f b (ap (λ y. y.plus) i ∙ same))
same_plus root (x ∷ xs) distinct e f (inr a) (inl j) same = absurd (plus_new root x xs distinct e a (ap (λ y. y.plus) j ∙ sym same))
same_plus root (x ∷ xs) distinct e f (inr a) (inr b) same = same_plus root xs distinct.1.1 e f a b same

-- no minus node of a branch is the plus node of another
pub not_both : (root : ℕ) (tree : List Entry) → AreDistinct (tree_names root tree) → (e f : Entry) → IsAmong e tree → IsAmong f tree
    → e.minus ≡ f.plus → ⊥
not_both root tree distinct e f a b same =
    both_ways (is_in (minus_names tree) f.plus) (exclusive_names root tree distinct f.plus (among_plus root tree f b))
    (ap (is_in (minus_names tree)) (sym same) ∙ among_minus tree e a)

-- two branches with a common node are one
pub same_branch : (root : ℕ) (tree : List Entry) → AreDistinct (tree_names root tree) → (e f : Entry) → IsAmong e tree → IsAmong f tree
    → (n : ℕ) → (e.minus ≡ n) ⊎ (e.plus ≡ n) → (f.minus ≡ n) ⊎ (f.plus ≡ n) → e ≡ f
same_branch root tree distinct e f a b n (inl h) (inl k) = same_minus root tree distinct e f a b (h ∙ sym k)
same_branch root tree distinct e f a b n (inl h) (inr k) = absurd (not_both root tree distinct e f a b (h ∙ sym k))
same_branch root tree distinct e f a b n (inr h) (inl k) = absurd (not_both root tree distinct f e b a (k ∙ sym h))
same_branch root tree distinct e f a b n (inr h) (inr k) = same_plus root tree distinct e f a b (h ∙ sym k)

-- the path at the first branch of the tree
pub by_plus : (P : List Entry → Type 0) (e : Entry) (es : List Entry) (name : ℕ)
    → (e.plus ≡ name → P (path_to es e.parent ++ e ∷ [])) → ((e.plus ≡ name → ⊥) → P (path_to es name)) → P (path_to (e ∷ es) name)
by_plus P e es name here later = step (cases_eq e.plus name)
  where
    step : (e.plus ≡ name) ⊎ (e.plus ≡ name → ⊥) → P (cond (e.plus == name) (path_to es e.parent ++ e ∷ []) (path_to es name))
    step (inl same) = subst (λ b. P (cond b (path_to es e.parent ++ e ∷ []) (path_to es name))) (sym (eq-eqb e.plus name same)) (here same)
    step (inr other) = subst (λ b. P (cond b (path_to es e.parent ++ e ∷ []) (path_to es name))) (sym (ne_eqb e.plus name other)) (later other)

pub path_among : (tree : List Entry) (name : ℕ) (g : Entry) → IsAmong g (path_to tree name) → IsAmong g tree
path_among [] name g a = a
path_among (e ∷ es) name g a =
    by_plus (λ l. IsAmong g l → IsAmong g (e ∷ es)) e es name
    (λ same b. step (among_either (path_to es e.parent) (e ∷ []) g b) (path_among es e.parent g))
    (λ other b. inr (path_among es name g b)) a
  where
    step : IsAmong g (path_to es e.parent) ⊎ IsAmong g (e ∷ []) → (IsAmong g (path_to es e.parent) → IsAmong g es) → IsAmong g (e ∷ es)
    step (inl a) rest = inr (rest a)
    step (inr (inl same)) rest = inl same
    step (inr (inr none)) rest = absurd none

-- the path to a plus node of a path is its beginning, and ends with that node's branch
pub path_holds : (root : ℕ) (tree : List Entry) → AreDistinct (tree_names root tree) → (g : Entry) → IsAmong g tree → IsAmong g (path_to tree g.plus)
path_holds root [] distinct g a = a
path_holds root (e ∷ es) distinct g a =
    by_plus (IsAmong g) e es g.plus
    (λ same. among_right (path_to es e.parent) (e ∷ []) g (here same a))
    (λ other. there other a (path_holds root es distinct.1.1 g))
  where
    here : e.plus ≡ g.plus → IsAmong g (e ∷ es) → IsAmong g (e ∷ [])
    here same (inl is) = inl is
    here same (inr b) = absurd (plus_new root e es distinct g b same)

    there : (e.plus ≡ g.plus → ⊥) → IsAmong g (e ∷ es) → (IsAmong g es → IsAmong g (path_to es g.plus)) → IsAmong g (path_to es g.plus)
    there other (inl is) rest = absurd (other (ap (λ y. y.plus) is))
    there other (inr b) rest = rest b

pub path_begins : (root : ℕ) (tree : List Entry) → AreDistinct (tree_names root tree) → (name : ℕ) (g : Entry) → IsAmong g (path_to tree name)
    → (ys : List Entry) × (path_to tree name ≡ path_to tree g.plus ++ ys)
path_begins root [] distinct name g a = absurd a
path_begins root (e ∷ es) distinct name g a =
    by_plus (λ l. IsAmong g l → (ys : List Entry) × (l ≡ path_to (e ∷ es) g.plus ++ ys)) e es name
    (λ same b. step (among_either (path_to es e.parent) (e ∷ []) g b) (path_begins root es distinct.1.1 e.parent g))
    (λ other b. let (ys, is) = path_begins root es distinct.1.1 name g b in (ys, is ∙ ap (λ l. l ++ ys) (later (path_among es name g b)))) a
  where
    later : IsAmong g es → path_to es g.plus ≡ path_to (e ∷ es) g.plus
    later b =
        by_plus (λ l. path_to es g.plus ≡ l) e es g.plus (λ same. absurd (plus_new root e es distinct g b same)) (λ other. refl)

    step : IsAmong g (path_to es e.parent) ⊎ IsAmong g (e ∷ [])
        → (IsAmong g (path_to es e.parent) → (ys : List Entry) × (path_to es e.parent ≡ path_to es g.plus ++ ys))
        → (ys : List Entry) × (path_to es e.parent ++ e ∷ [] ≡ path_to (e ∷ es) g.plus ++ ys)
    step (inl a) rest =
        let (ys, is) = rest a in (
          ys ++ e ∷ [],
          ap (λ l. l ++ e ∷ []) (is ∙ ap (λ l. l ++ ys) (later (path_among es e.parent g a)))
              ∙ append_assoc (path_to (e ∷ es) g.plus) ys (e ∷ []),
        )
    step (inr (inl same)) rest = (
      [],
      by_plus (λ l. path_to es e.parent ++ e ∷ [] ≡ l ++ []) e es g.plus
          (λ is. sym (append_assoc (path_to es e.parent) (e ∷ []) []))
          (λ other. absurd (other (ap (λ y. y.plus) same))),
    )
    step (inr (inr none)) rest = absurd none

-- no node comes twice on a path
pub path_distinct : (root : ℕ) (tree : List Entry) → AreDistinct (tree_names root tree) → (name : ℕ) → AreDistinct (root ∷ nodes_along (path_to tree name))
path_distinct root tree distinct name = (
  false_from_ne_true (is_in (nodes_along (path_to tree name)) root)
      (λ within.
      both_ways (is_in (root ∷ []) root)
      (distinct_across (nodes_along tree) (root ∷ []) root (subst AreDistinct (names_along root tree) distinct) (inside tree name root within))
      (is_in-head root [])),
  along tree distinct name,
)
  where
    inside : (es : List Entry) (name n : ℕ) → is_in (nodes_along (path_to es name)) n ≡ true → is_in (nodes_along es) n ≡ true
    inside es name n within = by (along_among (path_to es name) n within)
      where
        by : (e : Entry) × IsAmong e (path_to es name) × ((e.minus ≡ n) ⊎ (e.plus ≡ n)) → is_in (nodes_along es) n ≡ true
        by (e, a, inl is) = subst (λ m. is_in (nodes_along es) m ≡ true) is (along_minus es e (path_among es name e a))
        by (e, a, inr is) = subst (λ m. is_in (nodes_along es) m ≡ true) is (along_plus es e (path_among es name e a))

    -- a node of the tree's later branches is none of the first one's
    outside : (e : Entry) (es : List Entry) → AreDistinct (tree_names root (e ∷ es)) → (n : ℕ) → is_in (nodes_along es) n ≡ true
        → is_in (e.minus ∷ e.plus ∷ []) n ≡ false
    outside e es (minus_fresh, (plus_fresh, rest)) n within =
        false_from_ne_true (is_in (e.minus ∷ e.plus ∷ []) n) (λ there. first (is_in-cases e.minus (e.plus ∷ []) n there))
      where
        among : is_in (tree_names root es) n ≡ true
        among = ap (λ l. is_in l n) (names_along root es) ∙ is_in-left (nodes_along es) (root ∷ []) n within

        second : (e.plus ≡ n) ⊎ (is_in [] n ≡ true) → ⊥
        second (inl same) = both_ways (is_in (tree_names root es) e.plus) plus_fresh (ap (is_in (tree_names root es)) same ∙ among)
        second (inr none) = false≢true none

        first : (e.minus ≡ n) ⊎ (is_in (e.plus ∷ []) n ≡ true) → ⊥
        first (inl same) =
            both_ways (is_in (e.plus ∷ tree_names root es) e.minus) minus_fresh
            (is_in-tail e.plus (tree_names root es) e.minus (ap (is_in (tree_names root es)) same ∙ among))
        first (inr there) = second (is_in-cases e.plus [] n there)

    pair : (e : Entry) (es : List Entry) → AreDistinct (tree_names root (e ∷ es)) → AreDistinct (e.minus ∷ e.plus ∷ [])
    pair e es (minus_fresh, rest) = (
      false_from_ne_true (is_in (e.plus ∷ []) e.minus)
          (λ there. both_ways (is_in (e.plus ∷ tree_names root es) e.minus) minus_fresh (is_in-left (e.plus ∷ []) (tree_names root es) e.minus there)),
      (refl, tt),
    )

    along : (es : List Entry) → AreDistinct (tree_names root es) → (name : ℕ) → AreDistinct (nodes_along (path_to es name))
    along [] d name = tt
    along (e ∷ es) d name =
        by_plus (λ l. AreDistinct (nodes_along l)) e es name
        (λ same.
        subst AreDistinct (sym (along_append (path_to es e.parent) (e ∷ [])))
        (distinct_append (nodes_along (path_to es e.parent)) (e.minus ∷ e.plus ∷ []) (along es d.1.1 e.parent) (pair e es d)
        (λ n within. outside e es d n (inside es e.parent n within))))
        (λ other. along es d.1.1 name)

-- the branches lead from the one plus node to the other
abbrev pub IsChain : ℕ → List Entry → ℕ → Type 0
IsChain from [] to = from ≡ to
IsChain from (e ∷ es) to = (e.parent ≡ from) × IsChain e.plus es to

chain_push : (from to : ℕ) (es : List Entry) (e : Entry) → IsChain from es to → e.parent ≡ to → IsChain from (es ++ e ∷ []) e.plus
chain_push from to [] e chain same = (same ∙ sym chain, refl)
chain_push from to (x ∷ xs) e chain same = (chain.0, chain_push x.plus to xs e chain.1 same)

pub path_chain : (nodes : List Node) (root : ℕ) (tree : List Entry) → IsTree nodes root tree → (name : ℕ) → is_in (plus_names root tree) name ≡ true
    → IsChain root (path_to tree name) name
path_chain nodes root [] joined name among = step (is_in-cases root [] name among)
  where
    step : (root ≡ name) ⊎ (is_in [] name ≡ true) → root ≡ name
    step (inl same) = same
    step (inr none) = absurd (false≢true none)
path_chain nodes root (e ∷ es) joined name among =
    by_plus (λ l. IsChain root l name) e es name
    (λ same.
    subst (IsChain root (path_to es e.parent ++ e ∷ [])) same
    (chain_push root e.parent (path_to es e.parent) e (path_chain nodes root es joined.3 e.parent joined.0) refl))
    (λ other. path_chain nodes root es joined.3 name (later other (is_in-cases e.plus (plus_names root es) name among)))
  where
    later : (e.plus ≡ name → ⊥) → (e.plus ≡ name) ⊎ (is_in (plus_names root es) name ≡ true) → is_in (plus_names root es) name ≡ true
    later other (inl same) = absurd (other same)
    later other (inr there) = there

pub chain_rest : (from to : ℕ) (xs ys : List Entry) → IsChain from (xs ++ ys) to → IsChain (last_plus from xs) ys to
chain_rest from to [] ys chain = chain
chain_rest from to (x ∷ xs) ys chain = chain_rest x.plus to xs ys chain.1

pub chain_parent : (from to : ℕ) (es : List Entry) → IsChain from es to → (g : Entry) → IsAmong g es → is_in (from ∷ nodes_along es) g.parent ≡ true
chain_parent from to [] chain g a = absurd a
chain_parent from to (x ∷ xs) chain g (inl same) =
    subst (λ n. is_in (n ∷ nodes_along (x ∷ xs)) g.parent ≡ true) chain.0
    (subst (λ y. is_in (x.parent ∷ nodes_along (x ∷ xs)) y.parent ≡ true) same (is_in-head x.parent (nodes_along (x ∷ xs))))
chain_parent from to (x ∷ xs) chain g (inr a) =
    is_in-tail from (x.minus ∷ x.plus ∷ nodes_along xs) g.parent
    (is_in-tail x.minus (x.plus ∷ nodes_along xs) g.parent (chain_parent x.plus to xs chain.1 g a))

-- the end of branches is their start or one of their nodes
pub last_in : (from : ℕ) (es : List Entry) → is_in (from ∷ nodes_along es) (last_plus from es) ≡ true
last_in from [] = is_in-head from []
last_in from (e ∷ es) =
    is_in-tail from (e.minus ∷ e.plus ∷ nodes_along es) (last_plus e.plus es)
    (is_in-tail e.minus (e.plus ∷ nodes_along es) (last_plus e.plus es) (last_in e.plus es))

pub last_is_plus : (root : ℕ) (tree es : List Entry) → ((e : Entry) → IsAmong e es → IsAmong e tree) → (from : ℕ)
    → is_in (plus_names root tree) from ≡ true → is_in (plus_names root tree) (last_plus from es) ≡ true
last_is_plus root tree [] within from is = is
last_is_plus root tree (e ∷ es) within from is =
    last_is_plus root tree es (λ x a. within x (inr a)) e.plus (among_plus root tree e (within e (inl refl)))

-- what two lists begin with that part is in what they share
pub shared_begins : (shared up down begin ys zs : List Entry) → shared ++ up ≡ begin ++ ys → shared ++ down ≡ begin ++ zs → PartAtOnce up down
    → (g : Entry) → IsAmong g begin → IsAmong g shared
shared_begins shared up down [] ys zs first second parted g a = absurd a
shared_begins [] [] down (q ∷ qs) ys zs first second parted g a = let h : [] ≡ q ∷ (qs ++ ys) = first in absurd (cc)
shared_begins [] (e ∷ es) [] (q ∷ qs) ys zs first second parted g a = let h : [] ≡ q ∷ (qs ++ zs) = second in absurd (cc)
shared_begins [] (e ∷ es) (f ∷ fs) (q ∷ qs) ys zs first second parted g a =
    let here : e ≡ q = (let h : e ∷ es ≡ q ∷ (qs ++ ys) = first in cc) in
    let there : f ≡ q = (let h : f ∷ fs ≡ q ∷ (qs ++ zs) = second in cc) in
    absurd (parted (ap (λ y. y.minus) here ∙ sym (ap (λ y. y.minus) there)))
shared_begins (s ∷ ss) up down (q ∷ qs) ys zs first second parted g a =
    let here : s ≡ q = (let h : s ∷ (ss ++ up) ≡ q ∷ (qs ++ ys) = first in cc) in
    let rest : ss ++ up ≡ qs ++ ys = (let h : s ∷ (ss ++ up) ≡ q ∷ (qs ++ ys) = first in cc) in
    let rest_ : ss ++ down ≡ qs ++ zs = (let h : s ∷ (ss ++ down) ≡ q ∷ (qs ++ zs) = second in cc) in
    step here a (shared_begins ss up down qs ys zs rest rest_ parted g)
  where
    step : s ≡ q → IsAmong g (q ∷ qs) → (IsAmong g qs → IsAmong g ss) → IsAmong g (s ∷ ss)
    step here (inl same) more = inl (here ∙ same)
    step here (inr b) more = inr (more b)

pub tree_connects : (nodes : List Node) (root : ℕ) (tree : List Entry) → IsTree nodes root tree → (e : Entry) → IsAmong e tree
    → Connects nodes e.tree e.parent e.minus × Connects nodes e.matched e.minus e.plus
tree_connects nodes root [] joined e a = absurd a
tree_connects nodes root (x ∷ xs) joined e (inl same) =
    subst (λ y. Connects nodes y.tree y.parent y.minus × Connects nodes y.matched y.minus y.plus) same (joined.1, joined.2)
tree_connects nodes root (x ∷ xs) joined e (inr a) = tree_connects nodes root xs joined.3 e a

pub length_along : (es : List Entry) → length (nodes_along es) ≡ 2 * length es
length_along [] = refl
length_along (e ∷ es) = omega (arith, length_along es)
