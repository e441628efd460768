-- A blossom's way in its place in the tree.
use Rattle.std.proofs.Common.{ℕ, ◌≡◌, ◌+◌, ◌≤◌, ◌⊎◌, inl, inr, true, false, List, [], ◌∷◌, ◌++◌, All, Option, Some, None, IsSome, refl, sym, ap, ◌∙◌, subst, arith}
use Rattle.std.specs.List.Sorted.{IsPermutation}
use Rattle.std.proofs.lemmas.Bool.{both_ways, false≢true, cases_eq, ne_eqb, eq-eqb, false_from_ne_true}
use Rattle.std.proofs.lemmas.List.{append_assoc, map-append}
use Rattle.std.proofs.lemmas.List.Elements.{All-head, All-tail}
use Rattle.std.proofs.lemmas.List.Sorted.{All-permutation, IsPermutation-refl, IsPermutation-sym, IsPermutation-cons, IsPermutation-trans, IsPermutation-to_front, IsPermutation-append_comm, IsPermutation-append_left, IsPermutation-append_right}
use Rattle.fb_graph.specs.Parity.{is_in}
use Rattle.fb_graph.specs.Problem.{Problem}
use Rattle.fb_graph.specs.Certificate.{AreDistinct}
use Rattle.fb_graph.specs.Laws.{Link}
use Rattle.fb_graph.specs.Dual.{Node, IsDual, all_cuts, leaves, cover_of, is_outer, node_at, no_node, top_at}
use Rattle.fb_graph.proofs.Sets.{is_in-cases, is_in-head, is_in-tail, member_of_odd}
use Rattle.fb_graph.specs.Counts.{as_count}
use Rattle.fb_graph.specs.Ends.{ends_in}
use Rattle.fb_graph.specs.Links.{IsTightLink}
use Rattle.fb_laws.specs.Fusion.{IsLinkOf}
use Rattle.fb_laws.specs.Works.{AreMatchedLinks, IsSetOf}
use Rattle.fb_laws.specs.Trees.{Entry, Connects, IsTree, grown_links, paired_links, plus_names, minus_names, tree_names}
use Rattle.fb_laws.specs.Searches.{IsSearch}
use Rattle.fb_laws.specs.SearchOpenings.{PairUp, IsOpenedTree}
use Rattle.fb_laws.specs.TreeCycles.{nodes_along}
use Rattle.fb_laws.specs.OpenedCycles.{Pass, PassOf, Couple, ArePassed, AreCoupled, last_of, paired_on, paired_beside, paired_of, matched_on, grown_on, matched_beside, opened_branches, opened_tree, IsOpenedCycle, CycleOpened, StillPlus}
use Rattle.fb_laws.specs.Opening.{EndsAtDefects}
use Rattle.fb_graph.proofs.Among.{IsAmong, All_among, among_left, among_right, map_among}
use Rattle.fb_graph.proofs.Crossings.{cover_found}
use Rattle.fb_graph.proofs.EndSums.{ends-cons, ends_of_one}
use Rattle.fb_laws.proofs.JoinedThree.{mid_names}
use Rattle.fb_laws.proofs.MatchedNodes.{odd_top}
use Rattle.fb_laws.proofs.MergedParts.{distinct_across}
use Rattle.fb_laws.proofs.OpenedSearches.{held_by, links_split, at_ends, unheld}
use Rattle.fb_laws.proofs.SearchStates.{links_joined, named_set, links_right, links_left}
use Rattle.fb_laws.proofs.SearchTrees.{cover_set, matched_named, minus_in_tree, exclusive_names}
use Rattle.fb_laws.proofs.TreePaths.{distinct_right, along_append, names_along, along_minus, among_minus, among_plus, tree_connects}
use Rattle.fb_graph.proofs.Unions.{distinct_append}
use Rattle.fb_graph.proofs.Floods.{is_in-both, is_in-left, is_in-right}
use Rattle.fb_graph.proofs.Members.{distinct_left}
use Rattle.fb_graph.proofs.Booleans.{as_count-le}

pub links_moved : (p : Problem) (nodes : List Node) (xs ys : List Link) → IsPermutation xs ys → AreMatchedLinks p nodes xs → AreMatchedLinks p nodes ys
links_moved p nodes xs ys moved are = record {
  tight = All-permutation (IsTightLink p (all_cuts nodes)) xs ys moved are.tight;
  own = All-permutation (IsLinkOf p) xs ys moved are.own;
  at_defects = All-permutation
      (EndsAtDefects p (leaves nodes))
      xs ys moved are.at_defects;
}

-- an element more at either end
pushed : {X : Type 0} (x : X) (xs ys : List X) → IsPermutation xs ys → IsPermutation (x ∷ xs) (ys ++ x ∷ [])
pushed x xs ys moved =
    IsPermutation-trans (x ∷ xs) (x ∷ ys) (ys ++ x ∷ []) (IsPermutation-cons x xs ys moved)
    (IsPermutation-sym (ys ++ x ∷ []) (x ∷ ys) (IsPermutation-to_front ys x))

-- the way's branches have its links
pub new_grown : {L : Type 0} (parent : ℕ) (tree : L) (minus : ℕ) (way : List (PassOf L)) (matched : L) (plus : ℕ)
    → IsPermutation (tree ∷ grown_on way) (grown_links (opened_branches parent tree minus way matched plus))
new_grown parent tree minus [] matched plus = IsPermutation-refl (tree ∷ [])
new_grown parent tree minus (s ∷ ss) matched plus =
    subst (IsPermutation (tree ∷ s.tree ∷ grown_on ss))
    (sym (map-append (λ x. x.tree) (opened_branches s.plus s.tree s.minus ss matched plus)
    (record { parent = parent; tree = tree; minus = minus; matched = s.matched; plus = s.plus } ∷ [])))
    (pushed tree (s.tree ∷ grown_on ss) (grown_links (opened_branches s.plus s.tree s.minus ss matched plus))
    (new_grown s.plus s.tree s.minus ss matched plus))

pub new_paired : {L : Type 0} (parent : ℕ) (tree : L) (minus : ℕ) (way : List (PassOf L)) (matched : L) (plus : ℕ)
    → IsPermutation (matched_on way ++ matched ∷ []) (paired_links (opened_branches parent tree minus way matched plus))
new_paired parent tree minus [] matched plus = IsPermutation-refl (matched ∷ [])
new_paired parent tree minus (s ∷ ss) matched plus =
    subst (IsPermutation (s.matched ∷ (matched_on ss ++ matched ∷ [])))
    (sym (map-append (λ x. x.matched) (opened_branches s.plus s.tree s.minus ss matched plus)
    (record { parent = parent; tree = tree; minus = minus; matched = s.matched; plus = s.plus } ∷ [])))
    (pushed s.matched (matched_on ss ++ matched ∷ []) (paired_links (opened_branches s.plus s.tree s.minus ss matched plus))
    (new_paired s.plus s.tree s.minus ss matched plus))

-- two parts of a list change places
pub swapped : {X : Type 0} (xs ys zs : List X) → IsPermutation (xs ++ (ys ++ zs)) (ys ++ (xs ++ zs))
swapped xs ys zs =
    subst (λ l. IsPermutation l (ys ++ (xs ++ zs))) (append_assoc xs ys zs)
    (subst (IsPermutation ((xs ++ ys) ++ zs)) (append_assoc ys xs zs)
    (IsPermutation-append_left zs (xs ++ ys) (ys ++ xs) (IsPermutation-append_comm xs ys)))

more_one : (z a b n : ℕ) (ps : List ℕ) → is_in (z ∷ ps) n ≡ true → is_in (z ∷ a ∷ b ∷ ps) n ≡ true
more_one z a b n ps within = step (is_in-cases z ps n within)
  where
    step : (z ≡ n) ⊎ (is_in ps n ≡ true) → is_in (z ∷ a ∷ b ∷ ps) n ≡ true
    step (inl same) = subst (λ m. is_in (z ∷ a ∷ b ∷ ps) m ≡ true) same (is_in-head z (a ∷ b ∷ ps))
    step (inr there) = is_in-tail z (a ∷ b ∷ ps) n (is_in-tail a (b ∷ ps) n (is_in-tail b ps n there))

-- one of two names
of_two : (a b n : ℕ) → is_in (a ∷ b ∷ []) n ≡ true → (a ≡ n) ⊎ (b ≡ n)
of_two a b n within = step (is_in-cases a (b ∷ []) n within)
  where
    last : (b ≡ n) ⊎ (is_in [] n ≡ true) → (a ≡ n) ⊎ (b ≡ n)
    last (inl same) = inr same
    last (inr none) = absurd (false≢true none)

    step : (a ≡ n) ⊎ (is_in (b ∷ []) n ≡ true) → (a ≡ n) ⊎ (b ≡ n)
    step (inl same) = inl same
    step (inr there) = last (is_in-cases b [] n there)

-- the nodes of the way's branches are its children, and the last plus node
new_in : (parent : ℕ) (tree : Link) (minus : ℕ) (way : List Pass) (matched : Link) (plus n : ℕ)
    → is_in (nodes_along (opened_branches parent tree minus way matched plus)) n ≡ true
    → (plus ≡ n) ⊎ (is_in (last_of minus way ∷ paired_on minus way) n ≡ true)
new_in parent tree minus [] matched plus n within = step (of_two minus plus n within)
  where
    step : (minus ≡ n) ⊎ (plus ≡ n) → (plus ≡ n) ⊎ (is_in (minus ∷ []) n ≡ true)
    step (inl same) = inr (subst (λ m. is_in (minus ∷ []) m ≡ true) same (is_in-head minus []))
    step (inr same) = inl same
new_in parent tree minus (s ∷ ss) matched plus n within =
    step
    (is_in-both (nodes_along (opened_branches s.plus s.tree s.minus ss matched plus)) (minus ∷ s.plus ∷ []) n
    (ap (λ l. is_in l n)
    (sym (along_append (opened_branches s.plus s.tree s.minus ss matched plus)
    (record { parent = parent; tree = tree; minus = minus; matched = s.matched; plus = s.plus } ∷ [])))
    ∙ within))
    (new_in s.plus s.tree s.minus ss matched plus n)
  where
    Goal : Type 0
    Goal = (plus ≡ n) ⊎ (is_in (last_of s.minus ss ∷ minus ∷ s.plus ∷ paired_on s.minus ss) n ≡ true)

    later : (plus ≡ n) ⊎ (is_in (last_of s.minus ss ∷ paired_on s.minus ss) n ≡ true) → Goal
    later (inl same) = inl same
    later (inr there) = inr (more_one (last_of s.minus ss) minus s.plus n (paired_on s.minus ss) there)

    here : (minus ≡ n) ⊎ (s.plus ≡ n) → Goal
    here (inl same) =
        inr
        (subst (λ m. is_in (last_of s.minus ss ∷ minus ∷ s.plus ∷ paired_on s.minus ss) m ≡ true) same
        (is_in-tail (last_of s.minus ss) (minus ∷ s.plus ∷ paired_on s.minus ss) minus (is_in-head minus (s.plus ∷ paired_on s.minus ss))))
    here (inr same) =
        inr
        (subst (λ m. is_in (last_of s.minus ss ∷ minus ∷ s.plus ∷ paired_on s.minus ss) m ≡ true) same
        (is_in-tail (last_of s.minus ss) (minus ∷ s.plus ∷ paired_on s.minus ss) s.plus
        (is_in-tail minus (s.plus ∷ paired_on s.minus ss) s.plus (is_in-head s.plus (paired_on s.minus ss)))))

    step : (is_in (nodes_along (opened_branches s.plus s.tree s.minus ss matched plus)) n ≡ true) ⊎ (is_in (minus ∷ s.plus ∷ []) n ≡ true)
        → (is_in (nodes_along (opened_branches s.plus s.tree s.minus ss matched plus)) n ≡ true
        → (plus ≡ n) ⊎ (is_in (last_of s.minus ss ∷ paired_on s.minus ss) n ≡ true)) → Goal
    step (inl there) rest = later (rest there)
    step (inr there) rest = here (of_two minus s.plus n there)

new_distinct : (parent : ℕ) (tree : Link) (minus : ℕ) (way : List Pass) (matched : Link) (plus : ℕ)
    → AreDistinct (last_of minus way ∷ paired_on minus way) → is_in (last_of minus way ∷ paired_on minus way) plus ≡ false
    → AreDistinct (nodes_along (opened_branches parent tree minus way matched plus))
new_distinct parent tree minus [] matched plus distinct fresh = (
  false_from_ne_true (is_in (plus ∷ []) minus) (λ there. step (is_in-cases plus [] minus there)),
  (refl, tt),
)
  where
    step : (plus ≡ minus) ⊎ (is_in [] minus ≡ true) → ⊥
    step (inl same) = both_ways (is_in (minus ∷ []) plus) fresh (subst (λ m. is_in (minus ∷ []) m ≡ true) (sym same) (is_in-head minus []))
    step (inr none) = false≢true none
new_distinct parent tree minus (s ∷ ss) matched plus (last_new, (minus_new, (plus_new, distinct))) fresh =
    subst AreDistinct
    (sym (along_append (opened_branches s.plus s.tree s.minus ss matched plus)
    (record { parent = parent; tree = tree; minus = minus; matched = s.matched; plus = s.plus } ∷ [])))
    (distinct_append (nodes_along (opened_branches s.plus s.tree s.minus ss matched plus)) (minus ∷ s.plus ∷ [])
    (new_distinct s.plus s.tree s.minus ss matched plus (
      false_from_ne_true (is_in (paired_on s.minus ss) (last_of s.minus ss))
          (λ there.
          both_ways (is_in (minus ∷ s.plus ∷ paired_on s.minus ss) (last_of s.minus ss)) last_new
          (is_in-tail minus (s.plus ∷ paired_on s.minus ss) (last_of s.minus ss)
          (is_in-tail s.plus (paired_on s.minus ss) (last_of s.minus ss) there))),
      distinct,
    )
    (false_from_ne_true (is_in (last_of s.minus ss ∷ paired_on s.minus ss) plus)
    (λ there.
    both_ways (is_in (last_of s.minus ss ∷ minus ∷ s.plus ∷ paired_on s.minus ss) plus) fresh
    (more_one (last_of s.minus ss) minus s.plus plus (paired_on s.minus ss) there)))) (
      false_from_ne_true (is_in (s.plus ∷ []) minus)
          (λ there. both_ways (is_in (s.plus ∷ paired_on s.minus ss) minus) minus_new (is_in-left (s.plus ∷ []) (paired_on s.minus ss) minus there)),
      (refl, tt),
    )
    (λ n within.
    false_from_ne_true (is_in (minus ∷ s.plus ∷ []) n)
    (λ there. apart n (new_in s.plus s.tree s.minus ss matched plus n within) (of_two minus s.plus n there))))
  where
    -- neither the minus nor the plus node of the first branch is a later child
    not_child : (n : ℕ) → (minus ≡ n) ⊎ (s.plus ≡ n) → (last_of s.minus ss ≡ n) ⊎ (is_in (paired_on s.minus ss) n ≡ true) → ⊥
    not_child n (inl is) (inl same) =
        both_ways (is_in (minus ∷ s.plus ∷ paired_on s.minus ss) (last_of s.minus ss)) last_new
        (subst (λ m. is_in (minus ∷ s.plus ∷ paired_on s.minus ss) m ≡ true) (is ∙ sym same) (is_in-head minus (s.plus ∷ paired_on s.minus ss)))
    not_child n (inl is) (inr there) =
        both_ways (is_in (s.plus ∷ paired_on s.minus ss) minus) minus_new
        (is_in-tail s.plus (paired_on s.minus ss) minus (ap (is_in (paired_on s.minus ss)) is ∙ there))
    not_child n (inr is) (inl same) =
        both_ways (is_in (minus ∷ s.plus ∷ paired_on s.minus ss) (last_of s.minus ss)) last_new
        (subst (λ m. is_in (minus ∷ s.plus ∷ paired_on s.minus ss) m ≡ true) (is ∙ sym same)
        (is_in-tail minus (s.plus ∷ paired_on s.minus ss) s.plus (is_in-head s.plus (paired_on s.minus ss))))
    not_child n (inr is) (inr there) =
        both_ways (is_in (paired_on s.minus ss) s.plus) plus_new (ap (is_in (paired_on s.minus ss)) is ∙ there)

    not_last : (n : ℕ) → (minus ≡ n) ⊎ (s.plus ≡ n) → plus ≡ n → ⊥
    not_last n (inl is) same =
        both_ways (is_in (last_of s.minus ss ∷ minus ∷ s.plus ∷ paired_on s.minus ss) plus) fresh
        (subst (λ m. is_in (last_of s.minus ss ∷ minus ∷ s.plus ∷ paired_on s.minus ss) m ≡ true) (is ∙ sym same)
        (is_in-tail (last_of s.minus ss) (minus ∷ s.plus ∷ paired_on s.minus ss) minus (is_in-head minus (s.plus ∷ paired_on s.minus ss))))
    not_last n (inr is) same =
        both_ways (is_in (last_of s.minus ss ∷ minus ∷ s.plus ∷ paired_on s.minus ss) plus) fresh
        (subst (λ m. is_in (last_of s.minus ss ∷ minus ∷ s.plus ∷ paired_on s.minus ss) m ≡ true) (is ∙ sym same)
        (is_in-tail (last_of s.minus ss) (minus ∷ s.plus ∷ paired_on s.minus ss) s.plus
        (is_in-tail minus (s.plus ∷ paired_on s.minus ss) s.plus (is_in-head s.plus (paired_on s.minus ss)))))

    apart : (n : ℕ) → (plus ≡ n) ⊎ (is_in (last_of s.minus ss ∷ paired_on s.minus ss) n ≡ true) → (minus ≡ n) ⊎ (s.plus ≡ n) → ⊥
    apart n (inl same) is = not_last n is same
    apart n (inr there) is = not_child n is (is_in-cases (last_of s.minus ss) (paired_on s.minus ss) n there)

-- plus nodes further down the list
plus_later : (root : ℕ) (xs ys : List Entry) (n : ℕ) → is_in (plus_names root ys) n ≡ true → is_in (plus_names root (xs ++ ys)) n ≡ true
plus_later root [] ys n within = within
plus_later root (x ∷ xs) ys n within = is_in-tail x.plus (plus_names root (xs ++ ys)) n (plus_later root xs ys n within)

plus_through : (root : ℕ) (xs ys zs : List Entry) → ((n : ℕ) → is_in (plus_names root ys) n ≡ true → is_in (plus_names root zs) n ≡ true) → (n : ℕ)
    → is_in (plus_names root (xs ++ ys)) n ≡ true → is_in (plus_names root (xs ++ zs)) n ≡ true
plus_through root [] ys zs wider n within = wider n within
plus_through root (x ∷ xs) ys zs wider n within =
    step (is_in-cases x.plus (plus_names root (xs ++ ys)) n within) (plus_through root xs ys zs wider n)
  where
    step : (x.plus ≡ n) ⊎ (is_in (plus_names root (xs ++ ys)) n ≡ true)
        → (is_in (plus_names root (xs ++ ys)) n ≡ true → is_in (plus_names root (xs ++ zs)) n ≡ true) → is_in (x.plus ∷ plus_names root (xs ++ zs)) n ≡ true
    step (inl same) rest = subst (λ m. is_in (x.plus ∷ plus_names root (xs ++ zs)) m ≡ true) same (is_in-head x.plus (plus_names root (xs ++ zs)))
    step (inr there) rest = is_in-tail x.plus (plus_names root (xs ++ zs)) n (rest there)

-- the way ends at the plus node below the blossom
new_plus : (root parent : ℕ) (tree : Link) (minus : ℕ) (way : List Pass) (matched : Link) (plus : ℕ) (ys : List Entry)
    → is_in (plus_names root (opened_branches parent tree minus way matched plus ++ ys)) plus ≡ true
new_plus root parent tree minus [] matched plus ys = is_in-head plus (plus_names root ys)
new_plus root parent tree minus (s ∷ ss) matched plus ys =
    subst (λ l. is_in (plus_names root l) plus ≡ true)
    (sym (append_assoc (opened_branches s.plus s.tree s.minus ss matched plus)
    (record { parent = parent; tree = tree; minus = minus; matched = s.matched; plus = s.plus } ∷ []) ys))
    (new_plus root s.plus s.tree s.minus ss matched plus
    (record { parent = parent; tree = tree; minus = minus; matched = s.matched; plus = s.plus } ∷ ys))

wider : (root from : ℕ) (way : List Pass) (older : List Entry) (e : Entry) (n : ℕ) → is_in (plus_names root (e ∷ older)) n ≡ true
    → is_in (plus_names root (opened_branches e.parent e.tree from way e.matched e.plus ++ older)) n ≡ true
wider root from way older e n within = step (is_in-cases e.plus (plus_names root older) n within)
  where
    step : (e.plus ≡ n) ⊎ (is_in (plus_names root older) n ≡ true)
        → is_in (plus_names root (opened_branches e.parent e.tree from way e.matched e.plus ++ older)) n ≡ true
    step (inl same) =
        subst (λ m. is_in (plus_names root (opened_branches e.parent e.tree from way e.matched e.plus ++ older)) m ≡ true) same
        (new_plus root e.parent e.tree from way e.matched e.plus older)
    step (inr there) = plus_later root (opened_branches e.parent e.tree from way e.matched e.plus) older n there

pub still_plus : StillPlus
still_plus newer older e root from n way within =
    plus_through root newer (e ∷ older) (opened_branches e.parent e.tree from way e.matched e.plus ++ older) (wider root from way older e) n within

-- the way's branches on a tree
new_tree : (others : List Node) (root parent : ℕ) (tree : Link) (minus : ℕ) (way : List Pass) (matched : Link) (plus : ℕ) (older : List Entry)
    → is_in (plus_names root older) parent ≡ true → Connects others tree parent minus → ArePassed others minus way
    → Connects others matched (last_of minus way) plus → IsTree others root older
    → IsTree others root (opened_branches parent tree minus way matched plus ++ older)
new_tree others root parent tree minus [] matched plus older is above passed below rest = (is, above, below, rest)
new_tree others root parent tree minus (s ∷ ss) matched plus older is above passed below rest =
    subst (IsTree others root)
    (sym (append_assoc (opened_branches s.plus s.tree s.minus ss matched plus)
    (record { parent = parent; tree = tree; minus = minus; matched = s.matched; plus = s.plus } ∷ []) older))
    (new_tree others root s.plus s.tree s.minus ss matched plus
    (record { parent = parent; tree = tree; minus = minus; matched = s.matched; plus = s.plus } ∷ older)
    (is_in-head s.plus (plus_names root older)) passed.1 passed.2 below (is, above, passed.0, rest))

tree_rest : (nodes : List Node) (root : ℕ) (xs ys : List Entry) → IsTree nodes root (xs ++ ys) → IsTree nodes root ys
tree_rest nodes root [] ys joined = joined
tree_rest nodes root (x ∷ xs) ys joined = tree_rest nodes root xs ys joined.3

abbrev AreMoved : List Node → Entry → Type 0
AreMoved others x = Connects others x.tree x.parent x.minus × Connects others x.matched x.minus x.plus

tree_same : (nodes others : List Node) (root : ℕ) (xs : List Entry) → ((x : Entry) → IsAmong x xs → AreMoved others x) → IsTree nodes root xs
    → IsTree others root xs
tree_same nodes others root [] moved joined = tt
tree_same nodes others root (x ∷ xs) moved joined =
    let here = moved x (inl refl) in
    (joined.0, here.0, here.1, tree_same nodes others root xs (λ y a. moved y (inr a)) joined.3)

tree_onto : (nodes others : List Node) (root : ℕ) (xs ys zs : List Entry) → ((x : Entry) → IsAmong x xs → AreMoved others x)
    → ((n : ℕ) → is_in (plus_names root ys) n ≡ true → is_in (plus_names root zs) n ≡ true) → IsTree nodes root (xs ++ ys)
    → IsTree others root zs → IsTree others root (xs ++ zs)
tree_onto nodes others root [] ys zs moved more joined rest = rest
tree_onto nodes others root (x ∷ xs) ys zs moved more joined rest =
    let here = moved x (inl refl) in (
      plus_through root xs ys zs more x.parent joined.0,
      here.0,
      here.1,
      tree_onto nodes others root xs ys zs (λ y a. moved y (inr a)) more joined.3 rest,
    )

pub parent_plus : (nodes : List Node) (root : ℕ) (tree : List Entry) → IsTree nodes root tree → (x : Entry) → IsAmong x tree
    → is_in (plus_names root tree) x.parent ≡ true
parent_plus nodes root [] joined x a = absurd a
parent_plus nodes root (y ∷ ys) joined x (inl same) =
    is_in-tail y.plus (plus_names root ys) x.parent (subst (λ z. is_in (plus_names root ys) z.parent ≡ true) same joined.0)
parent_plus nodes root (y ∷ ys) joined x (inr a) = is_in-tail y.plus (plus_names root ys) x.parent (parent_plus nodes root ys joined.3 x a)

pairs_beside : (nodes : List Node) (couples : List Couple) → AreCoupled nodes couples → PairUp nodes (paired_beside couples) (matched_beside couples)
pairs_beside nodes [] coupled = tt
pairs_beside nodes (c ∷ cs) coupled = (
  All-head (λ x. Connects nodes x.link x.first x.second) c cs coupled,
  pairs_beside nodes cs (All-tail (λ x. Connects nodes x.link x.first x.second) c cs coupled),
)

pairs_on : (nodes : List Node) (from : ℕ) (way : List Pass) (names : List ℕ) (links : List Link) → ArePassed nodes from way → PairUp nodes names links
    → PairUp nodes (paired_on from way ++ names) (matched_on way ++ links)
pairs_on nodes from [] names links passed rest = rest
pairs_on nodes from (s ∷ ss) names links passed rest = (passed.0, pairs_on nodes s.minus ss names links passed.2 rest)

some_end : (set : List ℕ) (links : List Link) (l : Link) → IsAmong l links → 1 ≤ ends_of_one set l → 1 ≤ ends_in set links
some_end set [] l a one = absurd a
some_end set (m ∷ ms) l (inl same) one = omega (arith, ends-cons set m ms, ap (ends_of_one set) same, one)
some_end set (m ∷ ms) l (inr a) one = omega (arith, ends-cons set m ms, some_end set ms l a one)

ends_within : (set whole : List ℕ) (links : List Link)
    → All
    (λ l. (as_count (is_in set l.from) ≤ as_count (is_in whole l.from)) × (as_count (is_in set l.to) ≤ as_count (is_in whole l.to))) links
    → ends_in set links ≤ ends_in whole links
ends_within set whole [] fewer = omega arith
ends_within set whole (l ∷ links) fewer =
    let here = All-head
    (λ m. (as_count (is_in set m.from) ≤ as_count (is_in whole m.from)) × (as_count (is_in set m.to) ≤ as_count (is_in whole m.to)))
    l links fewer in
    omega (
      arith,
      ends-cons set l links,
      ends-cons whole l links,
      here.0,
      here.1,
      ends_within set whole links
          (All-tail
          (λ m. (as_count (is_in set m.from) ≤ as_count (is_in whole m.from)) × (as_count (is_in set m.to) ≤ as_count (is_in whole m.to)))
          l links fewer),
    )

module _ (p : Problem) (nodes others : List Node) (newer older : List Entry) (e : Entry) (rest : List Link) (unmatched : List ℕ)
    (root r from : ℕ) (way : List Pass) (couples : List Couple) (opened : IsOpenedCycle p nodes others e from way couples unmatched)
    (dual : IsDual p others) (state : IsSearch p nodes (newer ++ e ∷ older) rest unmatched root r) where
  old : IsDual p nodes
  old = state.matching.dual

  e_among : IsAmong e (newer ++ e ∷ older)
  e_among = among_right newer (e ∷ older) e (inl refl)

  -- the names before and after, in parts
  abbrev After : List ℕ
  After = nodes_along older ++ root ∷ []

  names_before : tree_names root (newer ++ e ∷ older) ≡ nodes_along newer ++ (e.minus ∷ e.plus ∷ (nodes_along older ++ root ∷ []))
  names_before =
      names_along root (newer ++ e ∷ older)
      ∙ (ap (λ l. l ++ root ∷ []) (along_append newer (e ∷ older))
      ∙ append_assoc (nodes_along newer) (e.minus ∷ e.plus ∷ nodes_along older) (root ∷ []))

  abbrev Branches : List Entry
  Branches = opened_branches e.parent e.tree from way e.matched e.plus

  names_after : tree_names root (opened_tree newer e older from way) ≡ nodes_along newer ++ (nodes_along Branches ++ (nodes_along older ++ root ∷ []))
  names_after =
      names_along root (opened_tree newer e older from way)
      ∙ (ap (λ l. l ++ root ∷ []) (along_append newer (Branches ++ older) ∙ ap (λ l. nodes_along newer ++ l) (along_append Branches older))
      ∙ (append_assoc (nodes_along newer) (nodes_along Branches ++ nodes_along older) (root ∷ [])
      ∙ ap (λ l. nodes_along newer ++ l) (append_assoc (nodes_along Branches) (nodes_along older) (root ∷ []))))

  before_distinct : AreDistinct (nodes_along newer ++ (e.minus ∷ e.plus ∷ (nodes_along older ++ root ∷ [])))
  before_distinct = subst AreDistinct names_before state.names

  last_distinct : AreDistinct (e.minus ∷ e.plus ∷ (nodes_along older ++ root ∷ []))
  last_distinct = distinct_right (nodes_along newer) (e.minus ∷ e.plus ∷ (nodes_along older ++ root ∷ [])) before_distinct

  -- no name of the other branches is the blossom's or a child's
  newer_other : (n : ℕ) → is_in (nodes_along newer) n ≡ true → n ≡ e.minus → ⊥
  newer_other n within same =
      both_ways (is_in (e.minus ∷ e.plus ∷ After) e.minus)
      (distinct_across (nodes_along newer) (e.minus ∷ e.plus ∷ After) e.minus before_distinct (ap (is_in (nodes_along newer)) (sym same) ∙ within))
      (is_in-head e.minus (e.plus ∷ After))

  older_other : (n : ℕ) → is_in After n ≡ true → n ≡ e.minus → ⊥
  older_other n within same =
      both_ways (is_in (e.plus ∷ After) e.minus) last_distinct.0
      (is_in-tail e.plus After e.minus (ap (is_in After) (sym same) ∙ within))

  plus_other : e.plus ≡ e.minus → ⊥
  plus_other same =
      both_ways (is_in (e.plus ∷ After) e.minus) last_distinct.0
      (subst (λ m. is_in (e.plus ∷ After) m ≡ true) same (is_in-head e.plus After))

  not_child : (n : ℕ) → is_in (tree_names root (newer ++ e ∷ older)) n ≡ true → (n ≡ e.minus → ⊥)
      → is_in (last_of from way ∷ paired_of from way couples) n ≡ false
  not_child n among other = by (named_set p nodes (newer ++ e ∷ older) rest unmatched root r state n among)
    where
      by : IsSetOf nodes n (top_at nodes n) → is_in (last_of from way ∷ paired_of from way couples) n ≡ false
      by (i, less, outer, named, same) =
          let member = member_of_odd (is_in (leaves nodes)) (node_at nodes i).top.vertices (odd_top p nodes i old less).odd in
          (opened.split.outside member.0 n member.2
          (cover_found nodes member.0 old.apart i no_node less (ap (is_outer nodes) named ∙ outer) member.1 ∙ ap Some named) other).1

  in_newer : (n : ℕ) → is_in (nodes_along newer) n ≡ true → is_in (tree_names root (newer ++ e ∷ older)) n ≡ true
  in_newer n within = ap (λ l. is_in l n) names_before ∙ is_in-left (nodes_along newer) (e.minus ∷ e.plus ∷ After) n within

  in_last : (n : ℕ) → is_in (e.minus ∷ e.plus ∷ After) n ≡ true → is_in (tree_names root (newer ++ e ∷ older)) n ≡ true
  in_last n within = ap (λ l. is_in l n) names_before ∙ is_in-right (nodes_along newer) (e.minus ∷ e.plus ∷ After) n within

  in_older : (n : ℕ) → is_in After n ≡ true → is_in (tree_names root (newer ++ e ∷ older)) n ≡ true
  in_older n within = in_last n (is_in-tail e.minus (e.plus ∷ After) n (is_in-tail e.plus After n within))

  plus_in : is_in (tree_names root (newer ++ e ∷ older)) e.plus ≡ true
  plus_in = in_last e.plus (is_in-tail e.minus (e.plus ∷ After) e.plus (is_in-head e.plus After))

  on_way : (n : ℕ) → is_in (last_of from way ∷ paired_on from way) n ≡ true → is_in (last_of from way ∷ paired_of from way couples) n ≡ true
  on_way n within = is_in-left (last_of from way ∷ paired_on from way) (paired_beside couples) n within

  names_distinct : AreDistinct (tree_names root (opened_tree newer e older from way))
  names_distinct =
      subst AreDistinct (sym names_after)
      (distinct_append (nodes_along newer) (nodes_along Branches ++ After)
      (distinct_left (nodes_along newer) (e.minus ∷ e.plus ∷ After) before_distinct)
      (distinct_append (nodes_along Branches) After
      (new_distinct e.parent e.tree from way e.matched e.plus
      (distinct_left (last_of from way ∷ paired_on from way) (paired_beside couples) opened.distinct)
      (false_from_ne_true (is_in (last_of from way ∷ paired_on from way) e.plus)
      (λ there. both_ways (is_in (last_of from way ∷ paired_of from way couples) e.plus) (not_child e.plus plus_in plus_other) (on_way e.plus there))))
      last_distinct.1.1
      (λ n within. false_from_ne_true (is_in After n) (λ there. after n there (new_in e.parent e.tree from way e.matched e.plus n within))))
      (λ n within.
      false_from_ne_true (is_in (nodes_along Branches ++ After) n) (λ there. before n within (is_in-both (nodes_along Branches) After n there))))
    where
      after : (n : ℕ) → is_in After n ≡ true → (e.plus ≡ n) ⊎ (is_in (last_of from way ∷ paired_on from way) n ≡ true) → ⊥
      after n within (inl same) = both_ways (is_in After e.plus) last_distinct.1.0 (ap (is_in After) same ∙ within)
      after n within (inr there) =
          both_ways (is_in (last_of from way ∷ paired_of from way couples) n) (not_child n (in_older n within) (older_other n within)) (on_way n there)

      of_branch : (n : ℕ) → is_in (nodes_along newer) n ≡ true → (e.plus ≡ n) ⊎ (is_in (last_of from way ∷ paired_on from way) n ≡ true) → ⊥
      of_branch n within (inl same) =
          both_ways (is_in (e.minus ∷ e.plus ∷ After) n) (distinct_across (nodes_along newer) (e.minus ∷ e.plus ∷ After) n before_distinct within)
          (subst (λ m. is_in (e.minus ∷ e.plus ∷ After) m ≡ true) same (is_in-tail e.minus (e.plus ∷ After) e.plus (is_in-head e.plus After)))
      of_branch n within (inr there) =
          both_ways (is_in (last_of from way ∷ paired_of from way couples) n) (not_child n (in_newer n within) (newer_other n within)) (on_way n there)

      before : (n : ℕ) → is_in (nodes_along newer) n ≡ true → (is_in (nodes_along Branches) n ≡ true) ⊎ (is_in After n ≡ true) → ⊥
      before n within (inl there) = of_branch n within (new_in e.parent e.tree from way e.matched e.plus n there)
      before n within (inr there) =
          both_ways (is_in (e.minus ∷ e.plus ∷ After) n) (distinct_across (nodes_along newer) (e.minus ∷ e.plus ∷ After) n before_distinct within)
          (is_in-tail e.minus (e.plus ∷ After) n (is_in-tail e.plus After n there))

  old_names : (n : ℕ) → is_in (tree_names root (opened_tree newer e older from way)) n ≡ true
      → is_in (last_of from way ∷ paired_of from way couples) n ≡ false → is_in (tree_names root (newer ++ e ∷ older)) n ≡ true
  old_names n within out = first (is_in-both (nodes_along newer) (nodes_along Branches ++ After) n (ap (λ l. is_in l n) (sym names_after) ∙ within))
    where
      of_branch : (e.plus ≡ n) ⊎ (is_in (last_of from way ∷ paired_on from way) n ≡ true) → is_in (tree_names root (newer ++ e ∷ older)) n ≡ true
      of_branch (inl same) = subst (λ m. is_in (tree_names root (newer ++ e ∷ older)) m ≡ true) same plus_in
      of_branch (inr there) = absurd (both_ways (is_in (last_of from way ∷ paired_of from way couples) n) out (on_way n there))

      second : (is_in (nodes_along Branches) n ≡ true) ⊎ (is_in After n ≡ true) → is_in (tree_names root (newer ++ e ∷ older)) n ≡ true
      second (inl there) = of_branch (new_in e.parent e.tree from way e.matched e.plus n there)
      second (inr there) = in_older n there

      first : (is_in (nodes_along newer) n ≡ true) ⊎ (is_in (nodes_along Branches ++ After) n ≡ true)
          → is_in (tree_names root (newer ++ e ∷ older)) n ≡ true
      first (inl there) = in_newer n there
      first (inr there) = second (is_in-both (nodes_along Branches) After n there)

  paired_at : (x : Entry) → IsAmong x (newer ++ e ∷ older) → EndsAtDefects p (leaves nodes) x.matched
  paired_at x a =
      All_among (EndsAtDefects p (leaves nodes)) (paired_links (newer ++ e ∷ older) ++ rest) state.matching.links_are.at_defects x.matched
      (among_left (paired_links (newer ++ e ∷ older)) rest x.matched (map_among (λ y. y.matched) (newer ++ e ∷ older) x a))

  grown_at : (x : Entry) → IsAmong x (newer ++ e ∷ older) → EndsAtDefects p (leaves nodes) x.tree
  grown_at x a =
      All_among (EndsAtDefects p (leaves nodes)) (grown_links (newer ++ e ∷ older)) state.grown.at_defects x.tree
      (map_among (λ y. y.tree) (newer ++ e ∷ older) x a)

  -- links between other nodes connect them still
  moved_cover : (v n : ℕ) → (p.is_real v ≡ true → is_in (leaves nodes) v ≡ true) → (n ≡ e.minus → ⊥) → cover_of nodes v ≡ Some n
      → cover_of others v ≡ Some n
  moved_cover v n at other cover =
      (opened.split.outside v n (at (old.real v (subst IsSome (sym cover) refl))) cover other).0

  moved : (l : Link) (a b : ℕ) → EndsAtDefects p (leaves nodes) l → (a ≡ e.minus → ⊥) → (b ≡ e.minus → ⊥) → Connects nodes l a b → Connects others l a b
  moved l a b at a_other b_other (inl (from_, to)) = inl (moved_cover l.from a at.0 a_other from_, moved_cover l.to b at.1 b_other to)
  moved l a b at a_other b_other (inr (to, from_)) = inr (moved_cover l.to a at.1 a_other to, moved_cover l.from b at.0 b_other from_)

  not_plus : (n : ℕ) → is_in (plus_names root (newer ++ e ∷ older)) n ≡ true → n ≡ e.minus → ⊥
  not_plus n plus same =
      both_ways (is_in (minus_names (newer ++ e ∷ older)) e.minus)
      (exclusive_names root (newer ++ e ∷ older) state.names e.minus (ap (is_in (plus_names root (newer ++ e ∷ older))) (sym same) ∙ plus))
      (among_minus (newer ++ e ∷ older) e e_among)

  branch_moved : (x : Entry) → IsAmong x (newer ++ e ∷ older) → (x.minus ≡ e.minus → ⊥) → AreMoved others x
  branch_moved x a other =
      let connects = tree_connects nodes root (newer ++ e ∷ older) state.joined x a in (
        moved x.tree x.parent x.minus (grown_at x a)
            (not_plus x.parent (parent_plus nodes root (newer ++ e ∷ older) state.joined x a)) other connects.0,
        moved x.matched x.minus x.plus (paired_at x a) other (not_plus x.plus (among_plus root (newer ++ e ∷ older) x a)) connects.1,
      )

  tree_joined : IsTree others root (opened_tree newer e older from way)
  tree_joined =
      tree_onto nodes others root newer (e ∷ older) (Branches ++ older)
      (λ x a. branch_moved x (among_left newer (e ∷ older) x a) (newer_other x.minus (along_minus newer x a))) (wider root from way older e)
      state.joined
      (new_tree others root e.parent e.tree from way e.matched e.plus older (tree_rest nodes root newer (e ∷ older) state.joined).0 opened.above
      opened.passed opened.below
      (tree_same nodes others root older
      (λ x a.
      branch_moved x (among_right newer (e ∷ older) x (inr a))
      (older_other x.minus (is_in-left (nodes_along older) (root ∷ []) x.minus (along_minus older x a))))
      (tree_rest nodes root newer (e ∷ older) state.joined).3))

  moved_links : (links : List Link) → AreMatchedLinks p nodes links → AreMatchedLinks p others links
  moved_links = links_split p nodes others e.minus (last_of from way ∷ paired_of from way couples) opened.split old dual

  cycle_links : AreMatchedLinks p others (matched_on way ++ (grown_on way ++ matched_beside couples))
  cycle_links = moved_links (matched_on way ++ (grown_on way ++ matched_beside couples)) opened.links

  more_links : AreMatchedLinks p others (grown_on way ++ matched_beside couples)
  more_links = links_right p others (matched_on way) (grown_on way ++ matched_beside couples) cycle_links

  grown_before : AreMatchedLinks p others (grown_links newer ++ (e.tree ∷ grown_links older))
  grown_before =
      subst (AreMatchedLinks p others) (map-append (λ x. x.tree) newer (e ∷ older)) (moved_links (grown_links (newer ++ e ∷ older)) state.grown)

  grown_last : AreMatchedLinks p others (e.tree ∷ grown_links older)
  grown_last = links_right p others (grown_links newer) (e.tree ∷ grown_links older) grown_before

  tree_grown : AreMatchedLinks p others (grown_links (opened_tree newer e older from way))
  tree_grown =
      subst (AreMatchedLinks p others)
      (sym (map-append (λ x. x.tree) newer (Branches ++ older) ∙ ap (λ l. grown_links newer ++ l) (map-append (λ x. x.tree) Branches older)))
      (links_joined p others (grown_links newer) (grown_links Branches ++ grown_links older)
      (links_left p others (grown_links newer) (e.tree ∷ grown_links older) grown_before)
      (links_joined p others (grown_links Branches) (grown_links older)
      (links_moved p others (e.tree ∷ grown_on way) (grown_links Branches) (new_grown e.parent e.tree from way e.matched e.plus)
      (links_joined p others (e.tree ∷ []) (grown_on way) (links_left p others (e.tree ∷ []) (grown_links older) grown_last)
      (links_left p others (grown_on way) (matched_beside couples) more_links)))
      (links_right p others (e.tree ∷ []) (grown_links older) grown_last)))

  new_links : AreMatchedLinks p others (matched_on way ++ matched_beside couples)
  new_links =
      links_joined p others (matched_on way) (matched_beside couples)
      (links_left p others (matched_on way) (grown_on way ++ matched_beside couples) cycle_links)
      (links_right p others (grown_on way) (matched_beside couples) more_links)

  -- the defect of the last child at which the matched link ends
  below_end : (v : ℕ) × (is_in (leaves nodes) v ≡ true) × (cover_of others v ≡ Some (last_of from way))
      × (1 ≤ ends_of_one (top_at others (last_of from way)) e.matched)
  below_end = by opened.below
    where
      at : EndsAtDefects p (leaves nodes) e.matched
      at = paired_at e e_among

      by : Connects others e.matched (last_of from way) e.plus
          → (v : ℕ) × (is_in (leaves nodes) v ≡ true) × (cover_of others v ≡ Some (last_of from way))
          × (1 ≤ ends_of_one (top_at others (last_of from way)) e.matched)
      by (inl (here, there)) = (
        e.matched.from,
        at.0 (dual.real e.matched.from (subst IsSome (sym here) refl)),
        here,
        omega (arith, ap as_count (cover_set others e.matched.from (last_of from way) dual.names here).1),
      )
      by (inr (here, there)) = (
        e.matched.to,
        at.1 (dual.real e.matched.to (subst IsSome (sym here) refl)),
        here,
        omega (arith, ap as_count (cover_set others e.matched.to (last_of from way) dual.names here).1),
      )

  abbrev Kept : List ℕ
  Kept = top_at others (last_of from way)

  abbrev Whole : List ℕ
  Whole = top_at nodes e.minus

  abbrev Matched : List Link
  Matched = paired_links (newer ++ e ∷ older) ++ rest

  kept_set : IsSetOf others (last_of from way) Kept
  kept_set = (cover_set others below_end.0 (last_of from way) dual.names below_end.2).0

  whole_set : IsSetOf nodes e.minus Whole
  whole_set =
      named_set p nodes (newer ++ e ∷ older) rest unmatched root r state e.minus
      (minus_in_tree root (newer ++ e ∷ older) e.minus (mid_names root newer older e).0)

  kept_ends : 1 ≤ ends_in Kept Matched
  kept_ends =
      some_end Kept Matched e.matched
      (among_left (paired_links (newer ++ e ∷ older)) rest e.matched (map_among (λ y. y.matched) (newer ++ e ∷ older) e e_among)) below_end.3

  fewer_ends : ends_in Kept Matched ≤ ends_in Whole Matched
  fewer_ends =
      ends_within Kept Whole Matched
      (at_ends p nodes others e.minus (last_of from way ∷ paired_of from way couples) opened.split old dual
      (λ v. as_count (is_in Kept v) ≤ as_count (is_in Whole v)) Matched state.matching.links_are.at_defects
      (λ v off.
      omega (
        arith,
        ap as_count (unheld p nodes others e.minus (last_of from way ∷ paired_of from way couples) opened.split old dual others
            (last_of from way) v Kept dual kept_set off),
      ))
      (λ v leaf. by v leaf (cover_of nodes v) refl (old.defects v leaf)))
    where
      by : (v : ℕ) → is_in (leaves nodes) v ≡ true → (o : Option ℕ) → cover_of nodes v ≡ o → IsSome (cover_of nodes v)
          → as_count (is_in Kept v) ≤ as_count (is_in Whole v)
      by v leaf None none some = absurd (false≢true (subst IsSome none some))
      by v leaf (Some m) cover some = step (cases_eq m e.minus)
        where
          step : (m ≡ e.minus) ⊎ (m ≡ e.minus → ⊥) → as_count (is_in Kept v) ≤ as_count (is_in Whole v)
          step (inl same) =
              omega (
                arith,
                as_count-le (is_in Kept v),
                ap as_count (held_by p nodes e.minus m v Whole old whole_set cover ∙ eq-eqb m e.minus same),
              )
          step (inr other) =
              let (there, out) = opened.split.outside v m leaf cover other in
              omega (
                arith,
                ap as_count
                    (held_by p others (last_of from way) m v Kept dual kept_set there
                    ∙ ne_eqb m (last_of from way)
                    (λ same.
                    both_ways (is_in (last_of from way ∷ paired_of from way couples) m) out
                    (subst (λ x. is_in (last_of from way ∷ paired_of from way couples) x ≡ true) (sym same)
                    (is_in-head (last_of from way) (paired_of from way couples))))),
              )

  whole_ends : ends_in Whole Matched + as_count (is_in unmatched e.minus) ≡ 1
  whole_ends = matched_named p nodes Matched unmatched e.minus Whole state.matching whole_set

  not_open : is_in unmatched e.minus ≡ false
  not_open = false_from_ne_true (is_in unmatched e.minus) (λ h. none (omega (arith, ap as_count h, whole_ends, kept_ends, fewer_ends)))
    where
      none : 1 ≤ 0 → ⊥
      none h = omega arith

  links_permuted : IsPermutation ((matched_on way ++ matched_beside couples) ++ Matched)
      (paired_links (opened_tree newer e older from way) ++ (matched_beside couples ++ rest))
  links_permuted =
      subst
      (IsPermutation ((matched_on way ++ matched_beside couples) ++ Matched))
      (ap (λ l. l ++ (matched_beside couples ++ rest))
      (sym (map-append (λ x. x.matched) newer (Branches ++ older) ∙ ap (λ l. paired_links newer ++ l) (map-append (λ x. x.matched) Branches older))))
      (IsPermutation-trans _ _ _ moved_over with_branches)
    where
      moved_over : IsPermutation ((matched_on way ++ matched_beside couples) ++ (paired_links (newer ++ e ∷ older) ++ rest))
          ((paired_links newer ++ ((matched_on way ++ e.matched ∷ []) ++ paired_links older)) ++ (matched_beside couples ++ rest))
      moved_over =
          subst
          (λ l. IsPermutation l
          ((paired_links newer ++ ((matched_on way ++ e.matched ∷ []) ++ paired_links older)) ++ (matched_beside couples ++ rest)))
          (sym left)
          (subst
          (IsPermutation
          (matched_on way ++ (matched_beside couples ++ (paired_links newer ++ (e.matched ∷ (paired_links older ++ rest))))))
          (sym right)
          (IsPermutation-trans _ _ _
          (IsPermutation-append_right (matched_on way) _ _
          (IsPermutation-trans _ _ _ (swapped (matched_beside couples) (paired_links newer) (e.matched ∷ (paired_links older ++ rest)))
          (IsPermutation-append_right (paired_links newer) _ _ (swapped (matched_beside couples) (e.matched ∷ paired_links older) rest))))
          (swapped (matched_on way) (paired_links newer) (e.matched ∷ (paired_links older ++ (matched_beside couples ++ rest))))))
        where
          left : (matched_on way ++ matched_beside couples) ++ (paired_links (newer ++ e ∷ older) ++ rest)
              ≡ matched_on way ++ (matched_beside couples ++ (paired_links newer ++ (e.matched ∷ (paired_links older ++ rest))))
          left =
              append_assoc (matched_on way) (matched_beside couples) (paired_links (newer ++ e ∷ older) ++ rest)
              ∙ ap (λ l. matched_on way ++ (matched_beside couples ++ l))
              (ap (λ l. l ++ rest) (map-append (λ x. x.matched) newer (e ∷ older))
              ∙ append_assoc (paired_links newer) (e.matched ∷ paired_links older) rest)

          right : (paired_links newer ++ ((matched_on way ++ e.matched ∷ []) ++ paired_links older)) ++ (matched_beside couples ++ rest)
              ≡ paired_links newer ++ (matched_on way ++ (e.matched ∷ (paired_links older ++ (matched_beside couples ++ rest))))
          right =
              append_assoc (paired_links newer) ((matched_on way ++ e.matched ∷ []) ++ paired_links older) (matched_beside couples ++ rest)
              ∙ ap (λ l. paired_links newer ++ l)
              (append_assoc (matched_on way ++ e.matched ∷ []) (paired_links older) (matched_beside couples ++ rest)
              ∙ append_assoc (matched_on way) (e.matched ∷ []) (paired_links older ++ (matched_beside couples ++ rest)))

      with_branches : IsPermutation
          ((paired_links newer ++ ((matched_on way ++ e.matched ∷ []) ++ paired_links older)) ++ (matched_beside couples ++ rest))
          ((paired_links newer ++ (paired_links Branches ++ paired_links older)) ++ (matched_beside couples ++ rest))
      with_branches =
          IsPermutation-append_left (matched_beside couples ++ rest) _ _
          (IsPermutation-append_right (paired_links newer) _ _
          (IsPermutation-append_left (paired_links older) _ _ (new_paired e.parent e.tree from way e.matched e.plus)))

  pub tree_opened : IsOpenedTree p nodes others newer older (opened_tree newer e older from way) e (last_of from way) (paired_of from way couples)
      (matched_on way ++ matched_beside couples) rest (matched_beside couples ++ rest) unmatched root
  tree_opened = record {
    split = opened.split;
    distinct = opened.distinct;
    pairs = pairs_on others from way (paired_beside couples) (matched_beside couples) opened.passed (pairs_beside others couples opened.coupled);
    new = new_links;
    kept_is = (below_end.0, ap (λ l. is_in l below_end.0) opened.split.defects ∙ below_end.1, below_end.2);
    one_kept = omega (arith, kept_ends, fewer_ends, whole_ends);
    closed = λ n among. none n (is_in-cases e.minus (last_of from way ∷ paired_of from way couples) n among);
    links = links_permuted;
    names = names_distinct;
    old = old_names;
    joined = tree_joined;
    grown = tree_grown;
  }
    where
      none : (n : ℕ) → (e.minus ≡ n) ⊎ (is_in (last_of from way ∷ paired_of from way couples) n ≡ true) → is_in unmatched n ≡ false
      none n (inl same) = ap (is_in unmatched) (sym same) ∙ not_open
      none n (inr there) = opened.closed n there

pub cycle_opened : CycleOpened
cycle_opened p nodes others newer older e rest unmatched root r from way couples opened dual state =
    tree_opened p nodes others newer older e rest unmatched root r from way couples opened dual state
