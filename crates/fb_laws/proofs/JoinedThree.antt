-- A minus node, its parent and its child as the children of a blossom.
use Rattle.std.proofs.Common.{ℕ, ◌≡◌, ◌*◌, ◌⊎◌, inl, inr, Bool, true, false, cond, List, [], ◌∷◌, ◌++◌, filter, length, All, get_or, refl, sym, ap, ◌∙◌}
use Rattle.std.proofs.lemmas.Bool.{both_ways, false≢true, false_from_ne_true}
use Rattle.std.proofs.lemmas.List.Elements.{All-nil, All-cons, All-head, All-tail, All-append, filter-append}
use Rattle.fb_graph.specs.Parity.{is_in}
use Rattle.fb_graph.specs.Problem.{Problem}
use Rattle.fb_graph.specs.Certificate.{AreDistinct}
use Rattle.fb_graph.specs.Dual.{Node, top_at}
use Rattle.fb_graph.proofs.Sets.{is_in-cases, is_in-head, is_in-tail}
use Rattle.fb_laws.specs.Forming.{Child}
use Rattle.fb_laws.specs.Works.{IsSetOf}
use Rattle.fb_laws.specs.Trees.{Entry, IsTree, plus_names, minus_names, tree_names}
use Rattle.fb_laws.specs.SearchBlossoms.{child_at, inner_branches, ThreeJoining}
use Rattle.fb_laws.proofs.SearchStates.{named_set}
use Rattle.fb_laws.proofs.SearchTrees.{plus_in_tree, minus_in_tree, exclusive_names}
use Rattle.fb_graph.proofs.Nodes.{All-right, All-left}

-- each branch's two names stand in the tree's
abbrev pub HasNames : ℕ → List Entry → Entry → Type 0
HasNames root tree x = (is_in (minus_names tree) x.minus ≡ true) × (is_in (plus_names root tree) x.plus ≡ true)

have_names : (root : ℕ) (tree : List Entry) → All (HasNames root tree) tree
have_names root [] = All-nil (HasNames root [])
have_names root (e ∷ es) =
    All-cons (HasNames root (e ∷ es)) e es (is_in-head e.minus (minus_names es), is_in-head e.plus (plus_names root es))
    (λ i d less. (
      is_in-tail e.minus (minus_names es) (get_or es i d).minus (have_names root es i d less).0,
      is_in-tail e.plus (plus_names root es) (get_or es i d).plus (have_names root es i d less).1,
    ))

abbrev Differs : Entry → Entry → Type 0
Differs e x = (x.minus ≡ e.minus → ⊥) × (x.plus ≡ e.plus → ⊥)

pub mid_names : (root : ℕ) (newer older : List Entry) (e : Entry) → HasNames root (newer ++ e ∷ older) e
mid_names root [] older e = (is_in-head e.minus (minus_names older), is_in-head e.plus (plus_names root older))
mid_names root (n ∷ ns) older e = (
  is_in-tail n.minus (minus_names (ns ++ e ∷ older)) e.minus (mid_names root ns older e).0,
  is_in-tail n.plus (plus_names root (ns ++ e ∷ older)) e.plus (mid_names root ns older e).1,
)

-- other branches have other names
all_differ : (root : ℕ) (newer older : List Entry) (e : Entry) → AreDistinct (tree_names root (newer ++ e ∷ older))
    → All (Differs e) newer × All (Differs e) older
all_differ root [] older e (minus_new, (plus_new, distinct)) = (
  All-nil (Differs e),
  λ i d less.
      let has = have_names root older i d less in (
        λ same.
            both_ways (is_in (e.plus ∷ tree_names root older) e.minus) minus_new
            (is_in-tail e.plus (tree_names root older) e.minus
            (ap (is_in (tree_names root older)) (sym same) ∙ minus_in_tree root older (get_or older i d).minus has.0)),
        λ same.
            both_ways (is_in (tree_names root older) e.plus) plus_new
            (ap (is_in (tree_names root older)) (sym same) ∙ plus_in_tree root older (get_or older i d).plus has.1),
      ),
)
all_differ root (n ∷ ns) older e (minus_new, (plus_new, distinct)) =
    let has = mid_names root ns older e in
    let rest = all_differ root ns older e distinct in (
      All-cons (Differs e) n ns (
        λ same.
            both_ways (is_in (n.plus ∷ tree_names root (ns ++ e ∷ older)) n.minus) minus_new
            (is_in-tail n.plus (tree_names root (ns ++ e ∷ older)) n.minus
            (ap (is_in (tree_names root (ns ++ e ∷ older))) same ∙ minus_in_tree root (ns ++ e ∷ older) e.minus has.0)),
        λ same.
            both_ways (is_in (tree_names root (ns ++ e ∷ older)) n.plus) plus_new
            (ap (is_in (tree_names root (ns ++ e ∷ older))) same ∙ plus_in_tree root (ns ++ e ∷ older) e.plus has.1),
      )
          rest.0,
      rest.1,
    )

filter_none : (test : Entry → Bool) (xs : List Entry) → All (λ x. test x ≡ false) xs → filter test xs ≡ []
filter_none test [] none = refl
filter_none test (x ∷ xs) none =
    ap (λ b. cond b (x ∷ filter test xs) (filter test xs)) (All-head (λ y. test y ≡ false) x xs none)
    ∙ filter_none test xs (All-tail (λ y. test y ≡ false) x xs none)

-- a parent is a plus node
parent_plus : (p : Problem) (root : ℕ) (newer older : List Entry) (e : Entry) → is_in (plus_names root older) e.parent ≡ true
    → is_in (plus_names root (newer ++ e ∷ older)) e.parent ≡ true
parent_plus p root [] older e parent = is_in-tail e.plus (plus_names root older) e.parent parent
parent_plus p root (n ∷ ns) older e parent =
    is_in-tail n.plus (plus_names root (ns ++ e ∷ older)) e.parent (parent_plus p root ns older e parent)

pub root_plus : (root : ℕ) (tree : List Entry) → is_in (plus_names root tree) root ≡ true
root_plus root [] = is_in-head root []
root_plus root (e ∷ es) = is_in-tail e.plus (plus_names root es) root (root_plus root es)

root_named : (root : ℕ) (tree : List Entry) → is_in (tree_names root tree) root ≡ true
root_named root tree = plus_in_tree root tree root (root_plus root tree)

-- the root is no other plus node
plus_not_root : (root : ℕ) (newer older : List Entry) (e : Entry) → AreDistinct (tree_names root (newer ++ e ∷ older)) → root ≡ e.plus → ⊥
plus_not_root root [] older e (minus_new, (plus_new, distinct)) same =
    both_ways (is_in (tree_names root older) e.plus) plus_new (ap (is_in (tree_names root older)) (sym same) ∙ root_named root older)
plus_not_root root (n ∷ ns) older e (minus_new, (plus_new, distinct)) same = plus_not_root root ns older e distinct same

parent_of : (nodes : List Node) (root : ℕ) (newer older : List Entry) (e : Entry)
    → IsTree nodes root (newer ++ e ∷ older) → is_in (plus_names root older) e.parent ≡ true
parent_of nodes root [] older e joined = joined.0
parent_of nodes root (n ∷ ns) older e joined = parent_of nodes root ns older e joined.3

parent_not_plus : (root : ℕ) (newer older : List Entry) (e : Entry) → AreDistinct (tree_names root (newer ++ e ∷ older))
    → is_in (plus_names root older) e.parent ≡ true → e.parent ≡ e.plus → ⊥
parent_not_plus root [] older e (minus_new, (plus_new, distinct)) parent same =
    both_ways (is_in (tree_names root older) e.plus) plus_new
    (ap (is_in (tree_names root older)) (sym same) ∙ plus_in_tree root older e.parent parent)
parent_not_plus root (n ∷ ns) older e (minus_new, (plus_new, distinct)) parent same = parent_not_plus root ns older e distinct parent same

pub three_joining : ThreeJoining
three_joining p nodes newer older e rest unmatched root r name state fresh = record {
  nodes_are = All-cons IsOf (child_at nodes e.parent) (child_at nodes e.minus ∷ child_at nodes e.plus ∷ []) (set_of e.parent parent_in)
      (All-cons IsOf (child_at nodes e.minus) (child_at nodes e.plus ∷ []) (set_of e.minus minus_in)
      (All-cons IsOf (child_at nodes e.plus) [] (set_of e.plus plus_in) (All-nil IsOf)));
  distinct = (
    false_from_ne_true (is_in (e.minus ∷ e.plus ∷ []) e.parent) (λ among. first (is_in-cases e.minus (e.plus ∷ []) e.parent among)),
    (
      false_from_ne_true (is_in (e.plus ∷ []) e.minus) (λ among. second (is_in-cases e.plus [] e.minus among)),
      (refl, tt),
    ),
  );
  in_tree = All-cons InTree (child_at nodes e.parent) (child_at nodes e.minus ∷ child_at nodes e.plus ∷ []) parent_in
      (All-cons InTree (child_at nodes e.minus) (child_at nodes e.plus ∷ []) minus_in
      (All-cons InTree (child_at nodes e.plus) [] plus_in (All-nil InTree)));
  plus = parent_is;
  branches = record {
    inner =
        All-append Inner newer (e ∷ older)
        (λ i d less taken.
        absurd (both_ways (joined (get_or newer i d).minus) (not_minus (get_or newer i d) (newer_names i d less) (differ.0 i d less)) taken))
        (All-cons Inner e older
        (λ taken. (is_in-head e.parent (e.minus ∷ e.plus ∷ []), plus_joined))
        (λ i d less taken.
        absurd (both_ways (joined (get_or older i d).minus) (not_minus (get_or older i d) (older_names i d less) (differ.1 i d less)) taken)));
    outer =
        All-append Outer newer (e ∷ older)
        (λ i d less left here. only_parent (get_or newer i d) (newer_names i d less) (differ.0 i d less) here)
        (All-cons Outer e older
        (λ left here. absurd (both_ways (joined e.minus) left minus_joined))
        (λ i d less left here. only_parent (get_or older i d) (older_names i d less) (differ.1 i d less) here));
    roots = λ here. root_parent (is_in-cases e.parent (e.minus ∷ e.plus ∷ []) root here);
  };
  even = ap (λ l. 2 * length l) (sym one_inner);
  fresh = fresh;
}
  where
    joined : ℕ → Bool
    joined = is_in (e.parent ∷ e.minus ∷ e.plus ∷ [])

    IsOf : Child → Type 0
    IsOf c = IsSetOf nodes c.name c.set

    InTree : Child → Type 0
    InTree c = is_in (tree_names root (newer ++ e ∷ older)) c.name ≡ true

    Inner : Entry → Type 0
    Inner x = is_in (e.parent ∷ e.minus ∷ e.plus ∷ []) x.minus ≡ true
        → (is_in (e.parent ∷ e.minus ∷ e.plus ∷ []) x.parent ≡ true) × (is_in (e.parent ∷ e.minus ∷ e.plus ∷ []) x.plus ≡ true)

    Outer : Entry → Type 0
    Outer x = is_in (e.parent ∷ e.minus ∷ e.plus ∷ []) x.minus ≡ false → is_in (e.parent ∷ e.minus ∷ e.plus ∷ []) x.plus ≡ true → x.plus ≡ e.parent

    minus_joined : is_in (e.parent ∷ e.minus ∷ e.plus ∷ []) e.minus ≡ true
    minus_joined = is_in-tail e.parent (e.minus ∷ e.plus ∷ []) e.minus (is_in-head e.minus (e.plus ∷ []))

    plus_joined : is_in (e.parent ∷ e.minus ∷ e.plus ∷ []) e.plus ≡ true
    plus_joined =
        is_in-tail e.parent (e.minus ∷ e.plus ∷ []) e.plus (is_in-tail e.minus (e.plus ∷ []) e.plus (is_in-head e.plus []))

    parent_older : is_in (plus_names root older) e.parent ≡ true
    parent_older = parent_of nodes root newer older e state.joined

    parent_is : is_in (plus_names root (newer ++ e ∷ older)) e.parent ≡ true
    parent_is = parent_plus p root newer older e parent_older

    here_names : HasNames root (newer ++ e ∷ older) e
    here_names = mid_names root newer older e

    parent_in : is_in (tree_names root (newer ++ e ∷ older)) e.parent ≡ true
    parent_in = plus_in_tree root (newer ++ e ∷ older) e.parent parent_is

    minus_in : is_in (tree_names root (newer ++ e ∷ older)) e.minus ≡ true
    minus_in = minus_in_tree root (newer ++ e ∷ older) e.minus here_names.0

    plus_in : is_in (tree_names root (newer ++ e ∷ older)) e.plus ≡ true
    plus_in = plus_in_tree root (newer ++ e ∷ older) e.plus here_names.1

    set_of : (n : ℕ) → is_in (tree_names root (newer ++ e ∷ older)) n ≡ true → IsSetOf nodes n (top_at nodes n)
    set_of = named_set p nodes (newer ++ e ∷ older) rest unmatched root r state

    differ : All (Differs e) newer × All (Differs e) older
    differ = all_differ root newer older e state.names

    newer_names : All (HasNames root (newer ++ e ∷ older)) newer
    newer_names = All-left (HasNames root (newer ++ e ∷ older)) newer (e ∷ older) (have_names root (newer ++ e ∷ older))

    older_names : All (HasNames root (newer ++ e ∷ older)) older
    older_names =
        All-tail (HasNames root (newer ++ e ∷ older)) e older
        (All-right (HasNames root (newer ++ e ∷ older)) newer (e ∷ older) (have_names root (newer ++ e ∷ older)))

    -- a plus node is no minus node
    apart : (m n : ℕ) → is_in (plus_names root (newer ++ e ∷ older)) m ≡ true → is_in (minus_names (newer ++ e ∷ older)) n ≡ true → m ≡ n → ⊥
    apart m n plus minus same =
        both_ways (is_in (minus_names (newer ++ e ∷ older)) n)
        (exclusive_names root (newer ++ e ∷ older) state.names n (ap (is_in (plus_names root (newer ++ e ∷ older))) (sym same) ∙ plus)) minus

    first : (e.minus ≡ e.parent) ⊎ (is_in (e.plus ∷ []) e.parent ≡ true) → ⊥
    first (inl same) = apart e.parent e.minus parent_is here_names.0 (sym same)
    first (inr there) = last (is_in-cases e.plus [] e.parent there)
      where
        last : (e.plus ≡ e.parent) ⊎ (is_in [] e.parent ≡ true) → ⊥
        last (inl same) = parent_not_plus root newer older e state.names parent_older (sym same)
        last (inr none) = false≢true none

    second : (e.plus ≡ e.minus) ⊎ (is_in [] e.minus ≡ true) → ⊥
    second (inl same) = apart e.plus e.minus here_names.1 here_names.0 same
    second (inr none) = false≢true none

    not_minus : (x : Entry) → HasNames root (newer ++ e ∷ older) x → Differs e x → is_in (e.parent ∷ e.minus ∷ e.plus ∷ []) x.minus ≡ false
    not_minus x (minus, plus) (other, differs) =
        false_from_ne_true (is_in (e.parent ∷ e.minus ∷ e.plus ∷ []) x.minus)
        (λ among. one (is_in-cases e.parent (e.minus ∷ e.plus ∷ []) x.minus among))
      where
        three : (e.plus ≡ x.minus) ⊎ (is_in [] x.minus ≡ true) → ⊥
        three (inl same) = apart e.plus x.minus here_names.1 minus same
        three (inr none) = false≢true none

        two : (e.minus ≡ x.minus) ⊎ (is_in (e.plus ∷ []) x.minus ≡ true) → ⊥
        two (inl same) = other (sym same)
        two (inr there) = three (is_in-cases e.plus [] x.minus there)

        one : (e.parent ≡ x.minus) ⊎ (is_in (e.minus ∷ e.plus ∷ []) x.minus ≡ true) → ⊥
        one (inl same) = apart e.parent x.minus parent_is minus same
        one (inr there) = two (is_in-cases e.minus (e.plus ∷ []) x.minus there)

    only_parent : (x : Entry) → HasNames root (newer ++ e ∷ older) x → Differs e x → is_in (e.parent ∷ e.minus ∷ e.plus ∷ []) x.plus ≡ true → x.plus ≡ e.parent
    only_parent x (minus, plus) (other, differs) among = one (is_in-cases e.parent (e.minus ∷ e.plus ∷ []) x.plus among)
      where
        three : (e.plus ≡ x.plus) ⊎ (is_in [] x.plus ≡ true) → x.plus ≡ e.parent
        three (inl same) = absurd (differs (sym same))
        three (inr none) = absurd (false≢true none)

        two : (e.minus ≡ x.plus) ⊎ (is_in (e.plus ∷ []) x.plus ≡ true) → x.plus ≡ e.parent
        two (inl same) = absurd (apart x.plus e.minus plus here_names.0 (sym same))
        two (inr there) = three (is_in-cases e.plus [] x.plus there)

        one : (e.parent ≡ x.plus) ⊎ (is_in (e.minus ∷ e.plus ∷ []) x.plus ≡ true) → x.plus ≡ e.parent
        one (inl same) = sym same
        one (inr there) = two (is_in-cases e.minus (e.plus ∷ []) x.plus there)

    root_parent : (e.parent ≡ root) ⊎ (is_in (e.minus ∷ e.plus ∷ []) root ≡ true) → root ≡ e.parent
    root_parent (inl same) = sym same
    root_parent (inr there) = two (is_in-cases e.minus (e.plus ∷ []) root there)
      where
        three : (e.plus ≡ root) ⊎ (is_in [] root ≡ true) → root ≡ e.parent
        three (inl same) = absurd (plus_not_root root newer older e state.names (sym same))
        three (inr none) = absurd (false≢true none)

        two : (e.minus ≡ root) ⊎ (is_in (e.plus ∷ []) root ≡ true) → root ≡ e.parent
        two (inl same) = absurd (apart root e.minus (root_plus root (newer ++ e ∷ older)) here_names.0 (sym same))
        two (inr more) = three (is_in-cases e.plus [] root more)

    one_inner : inner_branches (is_in (e.parent ∷ e.minus ∷ e.plus ∷ [])) (newer ++ e ∷ older) ≡ e ∷ []
    one_inner =
        filter-append (λ (x : Entry). is_in (e.parent ∷ e.minus ∷ e.plus ∷ []) x.minus) newer (e ∷ older)
        ∙ (ap (λ l. l ++ inner_branches (is_in (e.parent ∷ e.minus ∷ e.plus ∷ [])) (e ∷ older))
        (filter_none (λ (x : Entry). is_in (e.parent ∷ e.minus ∷ e.plus ∷ []) x.minus) newer
        (λ i d less. not_minus (get_or newer i d) (newer_names i d less) (differ.0 i d less)))
        ∙ (ap (λ b. cond b (e ∷ inner_branches (is_in (e.parent ∷ e.minus ∷ e.plus ∷ [])) older) (inner_branches (is_in (e.parent ∷ e.minus ∷ e.plus ∷ [])) older)) minus_joined
        ∙ ap (λ l. e ∷ l)
        (filter_none (λ (x : Entry). is_in (e.parent ∷ e.minus ∷ e.plus ∷ []) x.minus) older
        (λ i d less. not_minus (get_or older i d) (older_names i d less) (differ.1 i d less)))))
