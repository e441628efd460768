-- The bounds of minus nodes stay right while a search goes on.
use Rattle.std.proofs.Common.{ℕ, ◌≡◌, ◌+◌, ◌-◌, ◌*◌, ◌≤◌, ◌==◌, ◌&&◌, ◌||◌, ◌⊎◌, inl, inr, not, cond, Bool, true, false, nat_le, List, [], ◌∷◌, ◌++◌, map, All, refl, sym, ap, ◌∙◌, subst, arith}
use Rattle.std.proofs.lemmas.Bool.{and_from, and_parts, both_ways, eqb-true, false≢true, le-leb, leb-true}
use Rattle.std.proofs.lemmas.List.Elements.{All-cons, All-filter, All-map, All-nil, All-append}
use Rattle.std.proofs.lemmas.List.{map-append}
use Rattle.std.proofs.Math.Bool.{or-true}
use Rattle.fb_graph.specs.Dual.{Node}
use Rattle.fb_graph.specs.Moves.{blossom, joined_nodes, split_nodes}
use Rattle.fb_graph.specs.Parity.{is_in}
use Rattle.fb_graph.specs.Steps.{AllowShrinking, AreExclusive, Roles, stepped_node, stepped_nodes, stepped_value}
use Rattle.fb_graph.proofs.ChangedNodes.{change}
use Rattle.fb_graph.proofs.Among.{IsAmong, All_among, among_All}
use Rattle.fb_graph.proofs.Members.{is_in-append}
use Rattle.fb_graph.proofs.Sets.{is_in-cases, is_in-head, is_in-tail}
use Rattle.fb_laws.specs.OpenedCycles.{PassOf, last_of, opened_branches, opened_tree, paired_on}
use Rattle.fb_laws.specs.SearchBlossoms.{joined_tree, outer_branches, renamed_entry}
use Rattle.fb_laws.specs.Trees.{EntryOf, minus_names}
use Rattle.fb_trees.specs.Rooted.{bare, role_in}
use Rattle.fb_obstacles.specs.Obstacles.{AreMinusBounded, roles_by}
use Rattle.fb_obstacles.specs.InternalWatching.{lowered_bounds}
use Rattle.fb_obstacles.specs.Watched.{NodeBound, Watched, has_bound}
use Rattle.fb_search.proofs.RolesInTree.{minus_in_tree}

-- the bound of a node's top layer
abbrev pub IsBoundedBy : Roles → Watched → Node → Type 0
IsBoundedBy roles w n = roles.is_minus n.name ≡ true → has_bound w.nodes n.name (2 * n.top.value) ≡ true

-- a tree of its root alone has no minus node
pub minus_begun : (root : ℕ) (nodes : List Node) (w : Watched) → AreMinusBounded (roles_by (role_in (bare root))) nodes w
minus_begun root nodes w i d less minus = absurd (false≢true (minus_in_tree (bare root) _ minus))

-- bounds are right for greater values too
pub bound_above : (bounds : List NodeBound) (name low high : ℕ) → low ≤ high → has_bound bounds name low ≡ true
    → has_bound bounds name high ≡ true
bound_above [] name low high le is = is
bound_above (b ∷ bs) name low high le is =
    step ((b.name == name) && nat_le b.bound low) refl is (bound_above bs name low high le)
  where
    step : (t : Bool) → ((b.name == name) && nat_le b.bound low) ≡ t → (t || has_bound bs name low) ≡ true
        → (has_bound bs name low ≡ true → has_bound bs name high ≡ true) → (((b.name == name) && nat_le b.bound high) || has_bound bs name high) ≡ true
    step true here any later =
        let both = and_parts (b.name == name) (nat_le b.bound low) here in
        ap (λ t. t || has_bound bs name high)
        (and_from (b.name == name) (nat_le b.bound high) both.0
        (le-leb b.bound high (omega (arith, le, leb-true b.bound low both.1))))
    step false other any later =
        ap (λ t. ((b.name == name) && nat_le b.bound high) || t) (later any)
        ∙ or-true ((b.name == name) && nat_le b.bound high)

-- and for values that are lower by as much
pub bound_lowered : (bounds : List NodeBound) (name most limit k : ℕ) → most ≤ limit + k → has_bound bounds name most ≡ true
    → has_bound (lowered_bounds k bounds) name limit ≡ true
bound_lowered [] name most limit k le is = is
bound_lowered (b ∷ bs) name most limit k le is =
    step ((b.name == name) && nat_le b.bound most) refl is (bound_lowered bs name most limit k le)
  where
    step : (t : Bool) → ((b.name == name) && nat_le b.bound most) ≡ t → (t || has_bound bs name most) ≡ true
        → (has_bound bs name most ≡ true → has_bound (lowered_bounds k bs) name limit ≡ true) → (((b.name == name) && nat_le (b.bound - k) limit) || has_bound (lowered_bounds k bs) name limit) ≡ true
    step true here any later =
        let both = and_parts (b.name == name) (nat_le b.bound most) here in
        ap (λ t. t || has_bound (lowered_bounds k bs) name limit)
        (and_from (b.name == name) (nat_le (b.bound - k) limit) both.0
        (le-leb (b.bound - k) limit (omega (arith, le, leb-true b.bound most both.1))))
    step false other any later =
        ap (λ t. ((b.name == name) && nat_le (b.bound - k) limit) || t) (later any)
        ∙ or-true ((b.name == name) && nat_le (b.bound - k) limit)

-- a step lowers bounds by as much as twice the values of minus nodes
pub minus_stepped : (roles : Roles) (k : ℕ) (nodes : List Node) (old new : Watched) → AreExclusive roles
    → AllowShrinking roles nodes k → new.nodes ≡ lowered_bounds (2 * k) old.nodes → AreMinusBounded roles nodes old
    → AreMinusBounded roles (stepped_nodes roles k nodes) new
minus_stepped roles k nodes old new exclusive allow same bounded =
    All-map (IsBoundedBy roles new) (stepped_node roles k) nodes each
  where
    value : (n : Node) → (plus minus : Bool) → minus ≡ true → (plus ≡ true → minus ≡ false)
        → cond plus (n.top.value + k) (cond minus (n.top.value - k) n.top.value) ≡ n.top.value - k
    value n true minus is apart = absurd (both_ways minus (apart refl) is)
    value n false true is apart = refl
    value n false false is apart = absurd (false≢true is)

    each : All (λ n. IsBoundedBy roles new (stepped_node roles k n)) nodes
    each =
        among_All (λ n. IsBoundedBy roles new (stepped_node roles k n)) nodes
        (λ n a minus.
        let low : k ≤ n.top.value = All_among (λ m. roles.is_minus m.name ≡ true → k ≤ m.top.value) nodes allow n a minus in
        let now : stepped_value roles k n ≡ n.top.value - k =
        value n (roles.is_plus n.name) (roles.is_minus n.name) minus (exclusive n.name) in
        subst (λ bs. has_bound bs n.name (2 * stepped_value roles k n) ≡ true) (sym same)
        (bound_lowered old.nodes n.name (2 * n.top.value) (2 * stepped_value roles k n) (2 * k) (omega (arith, low, now))
        (All_among (IsBoundedBy roles old) nodes bounded n a minus)))

-- the nodes have other layers: no value of a minus node is less
pub minus_relayered : (roles : Roles) (f : Node → Node) (nodes : List Node) (old new : Watched) → new.nodes ≡ old.nodes
    → All (λ n. ((f n).name ≡ n.name) × (roles.is_minus n.name ≡ true → n.top.value ≤ (f n).top.value)) nodes
    → AreMinusBounded roles nodes old → AreMinusBounded roles (map f nodes) new
minus_relayered roles f nodes old new same kept bounded =
    All-map (IsBoundedBy roles new) f nodes
    (among_All (λ n. IsBoundedBy roles new (f n)) nodes
    (λ n a minus.
    let (name, more) = All_among (λ n. ((f n).name ≡ n.name) × (roles.is_minus n.name ≡ true → n.top.value ≤ (f n).top.value)) nodes kept n a in
    let was : roles.is_minus n.name ≡ true = ap roles.is_minus (sym name) ∙ minus in
    subst (λ x. has_bound new.nodes x (2 * (f n).top.value) ≡ true) (sym name)
    (subst (λ bs. has_bound bs n.name (2 * (f n).top.value) ≡ true) (sym same)
    (bound_above old.nodes n.name (2 * n.top.value) (2 * (f n).top.value) (omega (arith, more was))
    (All_among (IsBoundedBy roles old) nodes bounded n a was)))))

-- so where one node is changed
pub minus_changed : (roles : Roles) (name : ℕ) (g : Node → Node) (nodes : List Node) (old new : Watched)
    → new.nodes ≡ old.nodes → ((n : Node) → (g n).name ≡ n.name)
    → All (λ n. n.name ≡ name → roles.is_minus name ≡ true → n.top.value ≤ (g n).top.value) nodes
    → AreMinusBounded roles nodes old → AreMinusBounded roles (map (change name g) nodes) new
minus_changed roles name g nodes old new same named higher =
    minus_relayered roles (change name g) nodes old new same
    (among_All (λ n. ((change name g n).name ≡ n.name) × (roles.is_minus n.name ≡ true → n.top.value ≤ (change name g n).top.value)) nodes
    (λ n a. step n a (n.name == name) refl))
  where
    step : (n : Node) → IsAmong n nodes → (b : Bool) → (n.name == name) ≡ b
        → ((cond b (g n) n).name ≡ n.name) × (roles.is_minus n.name ≡ true → n.top.value ≤ (cond b (g n) n).top.value)
    step n a true here =
        let is = eqb-true n.name name here in (
          named n,
          λ minus. All_among (λ n. n.name ≡ name → roles.is_minus name ≡ true → n.top.value ≤ (g n).top.value) nodes higher n a is
              (ap roles.is_minus (sym is) ∙ minus),
        )
    step n a false here = (refl, λ minus. omega arith)

-- fewer nodes are minus
pub minus_fewer : (before after : Roles) (nodes : List Node) (old new : Watched)
    → ((name limit : ℕ) → has_bound old.nodes name limit ≡ true → has_bound new.nodes name limit ≡ true)
    → All (λ n. after.is_minus n.name ≡ true
    → (before.is_minus n.name ≡ true) ⊎ (has_bound new.nodes n.name (2 * n.top.value) ≡ true)) nodes
    → AreMinusBounded before nodes old → AreMinusBounded after nodes new
minus_fewer before after nodes old new kept were bounded =
    among_All (IsBoundedBy after new) nodes
    (λ n a minus.
    by n (All_among (IsBoundedBy before old) nodes bounded n a)
    (All_among (λ n. after.is_minus n.name ≡ true
    → (before.is_minus n.name ≡ true) ⊎ (has_bound new.nodes n.name (2 * n.top.value) ≡ true)) nodes were n a minus))
  where
    by : (n : Node) → IsBoundedBy before old n
        → (before.is_minus n.name ≡ true) ⊎ (has_bound new.nodes n.name (2 * n.top.value) ≡ true)
        → has_bound new.nodes n.name (2 * n.top.value) ≡ true
    by n was (inl minus) = kept n.name (2 * n.top.value) (was minus)
    by n was (inr here) = here

-- a minus node of the tree with a blossom in it was minus
pub minus_before : (joins : ℕ → Bool) (name : ℕ) (tree : List (EntryOf ℕ)) (n : ℕ)
    → is_in (minus_names (joined_tree joins name tree)) n ≡ true → is_in (minus_names tree) n ≡ true
minus_before joins name [] n there = there
minus_before joins name (e ∷ es) n there = step (not (joins e.minus)) there (minus_before joins name es n)
  where
    by : (e.minus ≡ n) ⊎ (is_in (minus_names es) n ≡ true) → is_in (e.minus ∷ minus_names es) n ≡ true
    by (inl same) = subst (λ m. is_in (e.minus ∷ minus_names es) m ≡ true) same (is_in-head e.minus (minus_names es))
    by (inr h) = is_in-tail e.minus (minus_names es) n h

    either : (is_in (minus_names (joined_tree joins name es)) n ≡ true → is_in (minus_names es) n ≡ true)
        → (e.minus ≡ n) ⊎ (is_in (minus_names (joined_tree joins name es)) n ≡ true)
        → (e.minus ≡ n) ⊎ (is_in (minus_names es) n ≡ true)
    either rest (inl same) = inl same
    either rest (inr h) = inr (rest h)

    step : (b : Bool) → is_in (minus_names (map (renamed_entry joins name) (cond b (e ∷ outer_branches joins es) (outer_branches joins es)))) n ≡ true
        → (is_in (minus_names (joined_tree joins name es)) n ≡ true → is_in (minus_names es) n ≡ true)
        → is_in (e.minus ∷ minus_names es) n ≡ true
    step true h rest = by (either rest (is_in-cases e.minus (minus_names (joined_tree joins name es)) n h))
    step false h rest = is_in-tail e.minus (minus_names es) n (rest h)

-- nodes become a blossom, which isn't minus
pub minus_joined : (before after : Roles) (name : ℕ) (children : List ℕ) (nodes : List Node) (old new : Watched)
    → new.nodes ≡ old.nodes → ((n : ℕ) → after.is_minus n ≡ true → before.is_minus n ≡ true)
    → (before.is_minus name ≡ true → ⊥) → AreMinusBounded before nodes old
    → AreMinusBounded after (joined_nodes name children nodes) new
minus_joined before after name children nodes old new same were fresh bounded =
    All-append (IsBoundedBy after new) nodes (blossom name children nodes ∷ [])
    (minus_fewer before after nodes old new
    (λ n limit is. subst (λ bs. has_bound bs n limit ≡ true) (sym same) is)
    (λ i d less minus. inl (were _ minus)) bounded)
    (All-cons (IsBoundedBy after new) (blossom name children nodes) [] (λ minus. absurd (fresh (were name minus)))
    (All-nil (IsBoundedBy after new)))

-- a minus node of a tree whose blossom is opened was minus, or is on the way
minus_along : (parent tree minus : ℕ) (way : List (PassOf ℕ)) (matched plus : ℕ) (n : ℕ)
    → is_in (minus_names (opened_branches parent tree minus way matched plus)) n ≡ true
    → is_in (paired_on minus way ++ last_of minus way ∷ []) n ≡ true
minus_along parent tree minus [] matched plus n there = there
minus_along parent tree minus (s ∷ ss) matched plus n there =
    by (minus_along s.plus s.tree s.minus ss matched plus n) (is_in-either (minus_names (opened_branches s.plus s.tree s.minus ss matched plus)) (minus ∷ []) n
    (ap (λ l. is_in l n) (sym (map-append (λ x. x.minus) (opened_branches s.plus s.tree s.minus ss matched plus) (first ∷ []))) ∙ there))
  where
    first : EntryOf ℕ
    first = record { parent = parent; tree = tree; minus = minus; matched = s.matched; plus = s.plus }

    rest : List ℕ
    rest = paired_on s.minus ss ++ last_of s.minus ss ∷ []

    is_in-either : (xs ys : List ℕ) (m : ℕ) → is_in (xs ++ ys) m ≡ true → (is_in xs m ≡ true) ⊎ (is_in ys m ≡ true)
    is_in-either xs ys m h = split (is_in xs m) refl (sym (is_in-append xs ys m) ∙ h)
      where
        split : (b : Bool) → is_in xs m ≡ b → (b || is_in ys m) ≡ true → (is_in xs m ≡ true) ⊎ (is_in ys m ≡ true)
        split true here any = inl here
        split false here any = inr any

    head : (minus ≡ n) ⊎ (is_in [] n ≡ true) → is_in (minus ∷ s.plus ∷ rest) n ≡ true
    head (inl same) = subst (λ m. is_in (minus ∷ s.plus ∷ rest) m ≡ true) same (is_in-head minus (s.plus ∷ rest))
    head (inr none) = absurd (false≢true none)

    by : (is_in (minus_names (opened_branches s.plus s.tree s.minus ss matched plus)) n ≡ true → is_in rest n ≡ true)
        → (is_in (minus_names (opened_branches s.plus s.tree s.minus ss matched plus)) n ≡ true) ⊎ (is_in (minus ∷ []) n ≡ true)
        → is_in (minus ∷ s.plus ∷ rest) n ≡ true
    by later (inl h) = is_in-tail minus (s.plus ∷ rest) n (is_in-tail s.plus rest n (later h))
    by later (inr h) = head (is_in-cases minus [] n h)

pub minus_were : (newer : List (EntryOf ℕ)) (e : EntryOf ℕ) (older : List (EntryOf ℕ)) (from : ℕ) (way : List (PassOf ℕ)) (n : ℕ)
    → is_in (minus_names (opened_tree newer e older from way)) n ≡ true
    → (is_in (minus_names (newer ++ e ∷ older)) n ≡ true) ⊎ (is_in (paired_on from way ++ last_of from way ∷ []) n ≡ true)
minus_were [] e older from way n there =
    by (split (is_in (minus_names along) n) refl
    (sym (is_in-append (minus_names along) (minus_names older) n)
    ∙ (ap (λ l. is_in l n) (sym (map-append (λ x. x.minus) along older)) ∙ there)))
  where
    along : List (EntryOf ℕ)
    along = opened_branches e.parent e.tree from way e.matched e.plus

    split : (b : Bool) → is_in (minus_names along) n ≡ b → (b || is_in (minus_names older) n) ≡ true
        → (is_in (minus_names along) n ≡ true) ⊎ (is_in (minus_names older) n ≡ true)
    split true here any = inl here
    split false here any = inr any

    by : (is_in (minus_names along) n ≡ true) ⊎ (is_in (minus_names older) n ≡ true)
        → (is_in (minus_names (e ∷ older)) n ≡ true) ⊎ (is_in (paired_on from way ++ last_of from way ∷ []) n ≡ true)
    by (inl h) = inr (minus_along e.parent e.tree from way e.matched e.plus n h)
    by (inr h) = inl (is_in-tail e.minus (minus_names older) n h)
minus_were (x ∷ xs) e older from way n there =
    by (minus_were xs e older from way n) (is_in-cases x.minus (minus_names (opened_tree xs e older from way)) n there)
  where
    later : (is_in (minus_names (xs ++ e ∷ older)) n ≡ true) ⊎ (is_in (paired_on from way ++ last_of from way ∷ []) n ≡ true)
        → (is_in (x.minus ∷ minus_names (xs ++ e ∷ older)) n ≡ true) ⊎ (is_in (paired_on from way ++ last_of from way ∷ []) n ≡ true)
    later (inl h) = inl (is_in-tail x.minus (minus_names (xs ++ e ∷ older)) n h)
    later (inr h) = inr h

    by : (is_in (minus_names (opened_tree xs e older from way)) n ≡ true
        → (is_in (minus_names (xs ++ e ∷ older)) n ≡ true) ⊎ (is_in (paired_on from way ++ last_of from way ∷ []) n ≡ true))
        → (x.minus ≡ n) ⊎ (is_in (minus_names (opened_tree xs e older from way)) n ≡ true)
        → (is_in (x.minus ∷ minus_names (xs ++ e ∷ older)) n ≡ true) ⊎ (is_in (paired_on from way ++ last_of from way ∷ []) n ≡ true)
    by rest (inl same) =
        inl (subst (λ m. is_in (x.minus ∷ minus_names (xs ++ e ∷ older)) m ≡ true) same
        (is_in-head x.minus (minus_names (xs ++ e ∷ older))))
    by rest (inr h) = later (rest h)

-- a node is taken away
pub minus_split : (before after : Roles) (name : ℕ) (nodes : List Node) (old new : Watched)
    → ((n limit : ℕ) → has_bound old.nodes n limit ≡ true → has_bound new.nodes n limit ≡ true)
    → All (λ n. after.is_minus n.name ≡ true
    → (before.is_minus n.name ≡ true) ⊎ (has_bound new.nodes n.name (2 * n.top.value) ≡ true)) (split_nodes name nodes)
    → AreMinusBounded before nodes old → AreMinusBounded after (split_nodes name nodes) new
minus_split before after name nodes old new kept were bounded =
    minus_fewer before after (split_nodes name nodes) old new kept were
    (All-filter (λ n. not (n.name == name)) (IsBoundedBy before old) nodes bounded)
