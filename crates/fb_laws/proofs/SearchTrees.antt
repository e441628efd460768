-- What the record of a search says of its tree.
use Rattle.std.proofs.Common.{ℕ, zero, suc, ◌≡◌, ◌+◌, ◌≤◌, ◌<◌, ◌==◌, ◌&&◌, ◌⊎◌, inl, inr, Bool, true, false, cond, List, [], ◌∷◌, ◌++◌, map, length, All, Option, Some, None, refl, sym, ap, ◌∙◌, subst, arith}
use Rattle.std.specs.List.{find}
use Rattle.std.specs.List.Sorted.{IsPermutation}
use Rattle.std.specs.Option.{option_map}
use Rattle.std.proofs.lemmas.Bool.{both_ways, false≢true, cases_eq, and_parts, eq-eqb, ne_eqb, false_from_ne_true}
use Rattle.std.proofs.lemmas.List.{append_assoc, map-append}
use Rattle.std.proofs.lemmas.List.Elements.{All-nil, All-cons}
use Rattle.std.proofs.lemmas.List.Sorted.{IsPermutation-refl, IsPermutation-cons, IsPermutation-trans, IsPermutation-middle}
use Rattle.fb_graph.specs.Parity.{is_in}
use Rattle.fb_graph.specs.Problem.{Problem}
use Rattle.fb_graph.specs.Certificate.{AreDistinct}
use Rattle.fb_graph.specs.Laws.{Link}
use Rattle.fb_graph.specs.Dual.{Node, cover_of, is_outer, node_at, no_node, top_at}
use Rattle.fb_graph.proofs.Sets.{is_in-cases, is_in-head, is_in-tail}
use Rattle.fb_graph.specs.Counts.{as_count}
use Rattle.fb_graph.specs.Ends.{ends_in}
use Rattle.fb_laws.specs.Paths.{Branch, IsPath, Joins, LeadsOut, tip_of, tree_links, matched_links}
use Rattle.fb_laws.specs.Works.{IsMatching, IsSetOf, IsBranchOf}
use Rattle.fb_laws.specs.Trees.{Entry, EntryOf, Connects, IsTree, grown_links, paired_links, plus_names, minus_names, tree_names, path_to, branches_beside, branch_of, branches_of}
use Rattle.fb_laws.specs.Searches.{LeavesNode}
use Rattle.fb_graph.proofs.Crossings.{found_place, name_in}
use Rattle.fb_graph.proofs.EndSums.{ends-cons, ends_of_one}
use Rattle.fb_laws.proofs.PathSums.{paths_joined}

-- the node that covers a vertex is at a place
pub cover_place : (nodes : List Node) (v name : ℕ) → cover_of nodes v ≡ Some name
    → (i : ℕ) × (i < length nodes) × ((node_at nodes i).name ≡ name) × (is_outer nodes name ≡ true)
    × (is_in (node_at nodes i).top.vertices v ≡ true)
cover_place nodes v name cover = step (find test nodes) refl cover
  where
    test : Node → Bool
    test n = is_outer nodes n.name && is_in n.top.vertices v

    step : (o : Option Node) → find test nodes ≡ o → option_map (λ n. n.name) o ≡ Some name
        → (i : ℕ) × (i < length nodes) × ((node_at nodes i).name ≡ name) × (is_outer nodes name ≡ true)
        × (is_in (node_at nodes i).top.vertices v ≡ true)
    step None e c = cc
    step (Some m) e c =
        let (j, below, same, passing) = found_place test nodes m e in
        let named : m.name ≡ name = cc in
        let parts = and_parts (is_outer nodes m.name) (is_in m.top.vertices v) passing in (
          j,
          below,
          ap (λ n. n.name) same ∙ named,
          ap (is_outer nodes) (sym named) ∙ parts.0,
          ap (λ n. is_in n.top.vertices v) same ∙ parts.1,
        )

pub top_at_place : (nodes : List Node) → AreDistinct (map (λ n. n.name) nodes) → (i : ℕ) → i < length nodes
    → top_at nodes (node_at nodes i).name ≡ (node_at nodes i).top.vertices
top_at_place [] distinct i less = absurd (omega arith)
top_at_place (n ∷ ns) distinct zero less =
    ap (λ b. cond b n.top.vertices (top_at ns n.name)) (eq-eqb n.name n.name refl)
top_at_place (n ∷ ns) distinct (suc i) less =
    ap (λ b. cond b n.top.vertices (top_at ns (node_at ns i).name))
    (ne_eqb n.name (node_at ns i).name
    (λ same.
    both_ways (is_in (map (λ m. m.name) ns) n.name) distinct.0
    (ap (is_in (map (λ m. m.name) ns)) same ∙ name_in ns i (omega arith))))
    ∙ top_at_place ns distinct.1 i (omega arith)

-- the set of a node that covers a vertex
pub cover_set : (nodes : List Node) (v name : ℕ) → AreDistinct (map (λ n. n.name) nodes) → cover_of nodes v ≡ Some name
    → IsSetOf nodes name (top_at nodes name) × (is_in (top_at nodes name) v ≡ true)
cover_set nodes v name distinct cover =
    let (i, less, named, outer, within) = cover_place nodes v name cover in
    let same : (node_at nodes i).top.vertices ≡ top_at nodes name =
    sym (top_at_place nodes distinct i less) ∙ ap (top_at nodes) named in
    ((i, less, outer, named, same), ap (λ s. is_in s v) (sym same) ∙ within)

pub connects_sym : (nodes : List Node) (l : Link) (a b : ℕ) → Connects nodes l a b → Connects nodes l b a
connects_sym nodes l a b (inl (from, to)) = inr (to, from)
connects_sym nodes l a b (inr (to, from)) = inl (from, to)

pub connected : (nodes : List Node) (l : Link) (a b : ℕ) → Connects nodes l a b → (v : ℕ) × (cover_of nodes v ≡ Some a)
connected nodes l a b (inl (from, to)) = (l.from, from)
connected nodes l a b (inr (to, from)) = (l.to, to)

pub leads_from : (nodes : List Node) (l : Link) (name v : ℕ) → AreDistinct (map (λ n. n.name) nodes)
    → LeavesNode nodes l name v → LeadsOut l (top_at nodes name) v
leads_from nodes l name v distinct (inl (from, to)) = inl ((cover_set nodes l.from name distinct from).1, to)
leads_from nodes l name v distinct (inr (to, from)) = inr ((cover_set nodes l.to name distinct to).1, from)

pub joins_of : (nodes : List Node) (l : Link) (a b : ℕ) → AreDistinct (map (λ n. n.name) nodes) → Connects nodes l a b
    → Joins l (top_at nodes a) (top_at nodes b)
joins_of nodes l a b distinct (inl (from, to)) =
    (l.to, inl ((cover_set nodes l.from a distinct from).1, refl), (cover_set nodes l.to b distinct to).1)
joins_of nodes l a b distinct (inr (to, from)) =
    (l.from, inr ((cover_set nodes l.to a distinct to).1, refl), (cover_set nodes l.from b distinct from).1)

tip_push : (root : List ℕ) (path : List Branch) (b : Branch) → tip_of root (path ++ b ∷ []) ≡ b.plus
tip_push root [] b = refl
tip_push root (c ∷ cs) b = tip_push c.plus cs b

abbrev LeadsTo : List Node → ℕ → List Entry → ℕ → Type 0
LeadsTo nodes root path name =
    IsPath (top_at nodes root) (branches_of nodes path) × (tip_of (top_at nodes root) (branches_of nodes path) ≡ top_at nodes name)

path_pushed : (nodes : List Node) (root : ℕ) (path : List Entry) (e : Entry) → AreDistinct (map (λ n. n.name) nodes)
    → LeadsTo nodes root path e.parent → Connects nodes e.tree e.parent e.minus → Connects nodes e.matched e.minus e.plus
    → LeadsTo nodes root (path ++ e ∷ []) e.plus
path_pushed nodes root path e distinct (on, tip) tree matched =
    subst (λ bs. IsPath (top_at nodes root) bs × (tip_of (top_at nodes root) bs ≡ top_at nodes e.plus))
    (sym (map-append (branch_of nodes) path (e ∷ []))) (
      paths_joined (top_at nodes root) (branches_of nodes path) (branch_of nodes e ∷ []) on (
        subst (λ s. Joins e.tree s (top_at nodes e.minus)) (sym tip) (joins_of nodes e.tree e.parent e.minus distinct tree),
        joins_of nodes e.matched e.minus e.plus distinct matched,
        tt,
      ),
      tip_push (top_at nodes root) (branches_of nodes path) (branch_of nodes e),
    )

pub path_leads : (nodes : List Node) (root : ℕ) → AreDistinct (map (λ n. n.name) nodes) → (tree : List Entry)
    → IsTree nodes root tree → (name : ℕ) → is_in (plus_names root tree) name ≡ true
    → LeadsTo nodes root (path_to tree name) name
path_leads nodes root distinct [] joined name among = step (is_in-cases root [] name among)
  where
    step : (root ≡ name) ⊎ (is_in [] name ≡ true) → LeadsTo nodes root [] name
    step (inl same) = (tt, ap (top_at nodes) same)
    step (inr none) = absurd (false≢true none)
path_leads nodes root distinct (e ∷ es) (parent, tree, matched, joined) name among =
    step (cases_eq e.plus name) (path_leads nodes root distinct es joined)
  where
    among_rest : (e.plus ≡ name → ⊥) → (e.plus ≡ name) ⊎ (is_in (plus_names root es) name ≡ true) → is_in (plus_names root es) name ≡ true
    among_rest other (inl same) = absurd (other same)
    among_rest other (inr there) = there

    step : (e.plus ≡ name) ⊎ (e.plus ≡ name → ⊥)
        → ((n : ℕ) → is_in (plus_names root es) n ≡ true → LeadsTo nodes root (path_to es n) n)
        → LeadsTo nodes root (cond (e.plus == name) (path_to es e.parent ++ e ∷ []) (path_to es name)) name
    step (inl same) rest =
        subst (λ b. LeadsTo nodes root (cond b (path_to es e.parent ++ e ∷ []) (path_to es name)) name)
        (sym (eq-eqb e.plus name same))
        (subst (LeadsTo nodes root (path_to es e.parent ++ e ∷ [])) same
        (path_pushed nodes root (path_to es e.parent) e distinct (rest e.parent parent) tree matched))
    step (inr other) rest =
        subst (λ b. LeadsTo nodes root (cond b (path_to es e.parent ++ e ∷ []) (path_to es name)) name)
        (sym (ne_eqb e.plus name other))
        (rest name (among_rest other (is_in-cases e.plus (plus_names root es) name among)))

-- the path and the branches beside it are the tree
pub path_beside : {L : Type 0} (tree : List (EntryOf L)) (name : ℕ) → IsPermutation (path_to tree name ++ branches_beside tree name) tree
path_beside [] name = IsPermutation-refl []
path_beside (e ∷ es) name = step (cases_eq e.plus name) (path_beside es)
  where
    step : (e.plus ≡ name) ⊎ (e.plus ≡ name → ⊥) → ((n : ℕ) → IsPermutation (path_to es n ++ branches_beside es n) es)
        → IsPermutation
        (cond (e.plus == name) (path_to es e.parent ++ e ∷ []) (path_to es name)
        ++ cond (e.plus == name) (branches_beside es e.parent) (e ∷ branches_beside es name)) (e ∷ es)
    step (inl same) rest =
        subst
        (λ b. IsPermutation
        (cond b (path_to es e.parent ++ e ∷ []) (path_to es name) ++ cond b (branches_beside es e.parent) (e ∷ branches_beside es name)) (e ∷ es))
        (sym (eq-eqb e.plus name same))
        (subst (λ l. IsPermutation l (e ∷ es)) (sym (append_assoc (path_to es e.parent) (e ∷ []) (branches_beside es e.parent)))
        (IsPermutation-trans _ _ _ (IsPermutation-middle (path_to es e.parent) e (branches_beside es e.parent))
        (IsPermutation-cons e _ _ (rest e.parent))))
    step (inr other) rest =
        subst
        (λ b. IsPermutation
        (cond b (path_to es e.parent ++ e ∷ []) (path_to es name) ++ cond b (branches_beside es e.parent) (e ∷ branches_beside es name)) (e ∷ es))
        (sym (ne_eqb e.plus name other))
        (IsPermutation-trans _ _ _ (IsPermutation-middle (path_to es name) e (branches_beside es name))
        (IsPermutation-cons e _ _ (rest name)))

pub entries_outer : (nodes : List Node) (root : ℕ) → AreDistinct (map (λ n. n.name) nodes) → (tree : List Entry)
    → IsTree nodes root tree → All (λ e. IsBranchOf nodes (branch_of nodes e)) tree
entries_outer nodes root distinct [] joined = All-nil (λ e. IsBranchOf nodes (branch_of nodes e))
entries_outer nodes root distinct (e ∷ es) (parent, tree, matched, joined) =
    All-cons (λ x. IsBranchOf nodes (branch_of nodes x)) e es
    (let (v, cover) = connected nodes e.matched e.minus e.plus matched in
    let (w, covered) = connected nodes e.matched e.plus e.minus (connects_sym nodes e.matched e.minus e.plus matched) in
    (e.minus, e.plus, (cover_set nodes v e.minus distinct cover).0, (cover_set nodes w e.plus distinct covered).0))
    (entries_outer nodes root distinct es joined)

-- each node of the tree is outer
pub tree_set : (nodes : List Node) (root : ℕ) → AreDistinct (map (λ n. n.name) nodes) → IsSetOf nodes root (top_at nodes root)
    → (tree : List Entry) → IsTree nodes root tree → (name : ℕ) → is_in (tree_names root tree) name ≡ true
    → IsSetOf nodes name (top_at nodes name)
tree_set nodes root distinct is [] joined name among = step (is_in-cases root [] name among)
  where
    step : (root ≡ name) ⊎ (is_in [] name ≡ true) → IsSetOf nodes name (top_at nodes name)
    step (inl same) = subst (λ n. IsSetOf nodes n (top_at nodes n)) same is
    step (inr none) = absurd (false≢true none)
tree_set nodes root distinct is (e ∷ es) (parent, tree, matched, joined) name among =
    step (is_in-cases e.minus (e.plus ∷ tree_names root es) name among) (tree_set nodes root distinct is es joined name)
  where
    later : (e.plus ≡ name) ⊎ (is_in (tree_names root es) name ≡ true)
        → (is_in (tree_names root es) name ≡ true → IsSetOf nodes name (top_at nodes name))
        → IsSetOf nodes name (top_at nodes name)
    later (inl same) rest =
        subst (λ n. IsSetOf nodes n (top_at nodes n)) same
        (let (w, cover) = connected nodes e.matched e.plus e.minus (connects_sym nodes e.matched e.minus e.plus matched) in
        (cover_set nodes w e.plus distinct cover).0)
    later (inr there) rest = rest there

    step : (e.minus ≡ name) ⊎ (is_in (e.plus ∷ tree_names root es) name ≡ true)
        → (is_in (tree_names root es) name ≡ true → IsSetOf nodes name (top_at nodes name))
        → IsSetOf nodes name (top_at nodes name)
    step (inl same) rest =
        subst (λ n. IsSetOf nodes n (top_at nodes n)) same
        (let (v, cover) = connected nodes e.matched e.minus e.plus matched in (cover_set nodes v e.minus distinct cover).0)
    step (inr there) rest = later (is_in-cases e.plus (tree_names root es) name there) rest

-- names of either role are the tree's
pub plus_in_tree : (root : ℕ) (tree : List Entry) (n : ℕ) → is_in (plus_names root tree) n ≡ true → is_in (tree_names root tree) n ≡ true
plus_in_tree root [] n among = among
plus_in_tree root (e ∷ es) n among = step (is_in-cases e.plus (plus_names root es) n among) (plus_in_tree root es n)
  where
    step : (e.plus ≡ n) ⊎ (is_in (plus_names root es) n ≡ true)
        → (is_in (plus_names root es) n ≡ true → is_in (tree_names root es) n ≡ true)
        → is_in (e.minus ∷ e.plus ∷ tree_names root es) n ≡ true
    step (inl same) rest =
        subst (λ m. is_in (e.minus ∷ e.plus ∷ tree_names root es) m ≡ true) same
        (is_in-tail e.minus (e.plus ∷ tree_names root es) e.plus (is_in-head e.plus (tree_names root es)))
    step (inr there) rest =
        is_in-tail e.minus (e.plus ∷ tree_names root es) n (is_in-tail e.plus (tree_names root es) n (rest there))

pub minus_in_tree : (root : ℕ) (tree : List Entry) (n : ℕ) → is_in (minus_names tree) n ≡ true → is_in (tree_names root tree) n ≡ true
minus_in_tree root [] n among = absurd (false≢true among)
minus_in_tree root (e ∷ es) n among = step (is_in-cases e.minus (minus_names es) n among) (minus_in_tree root es n)
  where
    step : (e.minus ≡ n) ⊎ (is_in (minus_names es) n ≡ true)
        → (is_in (minus_names es) n ≡ true → is_in (tree_names root es) n ≡ true)
        → is_in (e.minus ∷ e.plus ∷ tree_names root es) n ≡ true
    step (inl same) rest =
        subst (λ m. is_in (e.minus ∷ e.plus ∷ tree_names root es) m ≡ true) same
        (is_in-head e.minus (e.plus ∷ tree_names root es))
    step (inr there) rest =
        is_in-tail e.minus (e.plus ∷ tree_names root es) n (is_in-tail e.plus (tree_names root es) n (rest there))

-- each of them has a role
pub tree_in_roles : (root : ℕ) (tree : List Entry) (n : ℕ) → is_in (tree_names root tree) n ≡ true
    → (is_in (plus_names root tree) n ≡ true) ⊎ (is_in (minus_names tree) n ≡ true)
tree_in_roles root [] n among = inl among
tree_in_roles root (e ∷ es) n among =
    step (is_in-cases e.minus (e.plus ∷ tree_names root es) n among) (tree_in_roles root es n)
  where
    Goal : Type 0
    Goal = (is_in (e.plus ∷ plus_names root es) n ≡ true) ⊎ (is_in (e.minus ∷ minus_names es) n ≡ true)

    last : (is_in (plus_names root es) n ≡ true) ⊎ (is_in (minus_names es) n ≡ true) → Goal
    last (inl plus) = inl (is_in-tail e.plus (plus_names root es) n plus)
    last (inr minus) = inr (is_in-tail e.minus (minus_names es) n minus)

    later : (e.plus ≡ n) ⊎ (is_in (tree_names root es) n ≡ true)
        → (is_in (tree_names root es) n ≡ true → (is_in (plus_names root es) n ≡ true) ⊎ (is_in (minus_names es) n ≡ true)) → Goal
    later (inl same) rest = inl (subst (λ m. is_in (e.plus ∷ plus_names root es) m ≡ true) same (is_in-head e.plus (plus_names root es)))
    later (inr there) rest = last (rest there)

    step : (e.minus ≡ n) ⊎ (is_in (e.plus ∷ tree_names root es) n ≡ true)
        → (is_in (tree_names root es) n ≡ true → (is_in (plus_names root es) n ≡ true) ⊎ (is_in (minus_names es) n ≡ true)) → Goal
    step (inl same) rest = inr (subst (λ m. is_in (e.minus ∷ minus_names es) m ≡ true) same (is_in-head e.minus (minus_names es)))
    step (inr there) rest = later (is_in-cases e.plus (tree_names root es) n there) rest

-- and none has both
pub exclusive_names : (root : ℕ) (tree : List Entry) → AreDistinct (tree_names root tree) → (n : ℕ)
    → is_in (plus_names root tree) n ≡ true → is_in (minus_names tree) n ≡ false
exclusive_names root [] distinct n plus = refl
exclusive_names root (e ∷ es) (minus_new, (plus_new, distinct)) n plus =
    false_from_ne_true (is_in (e.minus ∷ minus_names es) n)
    (λ minus.
    step (is_in-cases e.plus (plus_names root es) n plus) (is_in-cases e.minus (minus_names es) n minus)
    (exclusive_names root es distinct n))
  where
    step : (e.plus ≡ n) ⊎ (is_in (plus_names root es) n ≡ true) → (e.minus ≡ n) ⊎ (is_in (minus_names es) n ≡ true)
        → (is_in (plus_names root es) n ≡ true → is_in (minus_names es) n ≡ false) → ⊥
    step (inl p) (inl m) rest =
        both_ways (is_in (e.plus ∷ tree_names root es) e.minus) minus_new
        (subst (λ x. is_in (e.plus ∷ tree_names root es) x ≡ true) (p ∙ sym m) (is_in-head e.plus (tree_names root es)))
    step (inl p) (inr m) rest =
        both_ways (is_in (tree_names root es) e.plus) plus_new
        (minus_in_tree root es e.plus (subst (λ x. is_in (minus_names es) x ≡ true) (sym p) m))
    step (inr p) (inl m) rest =
        both_ways (is_in (e.plus ∷ tree_names root es) e.minus) minus_new
        (is_in-tail e.plus (tree_names root es) e.minus
        (plus_in_tree root es e.minus (subst (λ x. is_in (plus_names root es) x ≡ true) (sym m) p)))
    step (inr p) (inr m) rest = both_ways (is_in (minus_names es) n) (rest p) m

-- a link with an end under the node
pub end_of : (nodes : List Node) (l : Link) (a b : ℕ) → AreDistinct (map (λ n. n.name) nodes) → Connects nodes l a b
    → 1 ≤ ends_of_one (top_at nodes a) l
end_of nodes l a b distinct (inl (from, to)) =
    omega (arith, ap as_count (cover_set nodes l.from a distinct from).1)
end_of nodes l a b distinct (inr (to, from)) =
    omega (arith, ap as_count (cover_set nodes l.to a distinct to).1)

-- each node of the tree but the root has an end of a matched link of the tree
pub used_end : (nodes : List Node) (root : ℕ) → AreDistinct (map (λ n. n.name) nodes) → (tree : List Entry)
    → IsTree nodes root tree → (name : ℕ) → is_in (tree_names root tree) name ≡ true
    → (root ≡ name) ⊎ (1 ≤ ends_in (top_at nodes name) (paired_links tree))
used_end nodes root distinct [] joined name among = step (is_in-cases root [] name among)
  where
    step : (root ≡ name) ⊎ (is_in [] name ≡ true) → (root ≡ name) ⊎ (1 ≤ ends_in (top_at nodes name) [])
    step (inl same) = inl same
    step (inr none) = absurd (false≢true none)
used_end nodes root distinct (e ∷ es) (parent, tree, matched, joined) name among =
    step (is_in-cases e.minus (e.plus ∷ tree_names root es) name among) (used_end nodes root distinct es joined name)
  where
    Goal : Type 0
    Goal = (root ≡ name) ⊎ (1 ≤ ends_in (top_at nodes name) (e.matched ∷ paired_links es))

    here : (a b : ℕ) → Connects nodes e.matched a b → a ≡ name → Goal
    here a b connects same =
        inr
        (subst (λ n. 1 ≤ ends_in (top_at nodes n) (e.matched ∷ paired_links es)) same
        (omega (
          arith,
          end_of nodes e.matched a b distinct connects,
          ends-cons (top_at nodes a) e.matched (paired_links es),
        )))

    last : (root ≡ name) ⊎ (1 ≤ ends_in (top_at nodes name) (paired_links es)) → Goal
    last (inl same) = inl same
    last (inr some) = inr (omega (arith, some, ends-cons (top_at nodes name) e.matched (paired_links es)))

    later : (e.plus ≡ name) ⊎ (is_in (tree_names root es) name ≡ true)
        → (is_in (tree_names root es) name ≡ true → (root ≡ name) ⊎ (1 ≤ ends_in (top_at nodes name) (paired_links es))) → Goal
    later (inl same) rest = here e.plus e.minus (connects_sym nodes e.matched e.minus e.plus matched) same
    later (inr there) rest = last (rest there)

    step : (e.minus ≡ name) ⊎ (is_in (e.plus ∷ tree_names root es) name ≡ true)
        → (is_in (tree_names root es) name ≡ true → (root ≡ name) ⊎ (1 ≤ ends_in (top_at nodes name) (paired_links es))) → Goal
    step (inl same) rest = here e.minus e.plus matched same
    step (inr there) rest = later (is_in-cases e.plus (tree_names root es) name there) rest

pub matched_named : (p : Problem) (nodes : List Node) (links : List Link) (unmatched : List ℕ) (name : ℕ) (set : List ℕ)
    → IsMatching p nodes links unmatched → IsSetOf nodes name set → ends_in set links + as_count (is_in unmatched name) ≡ 1
matched_named p nodes links unmatched name set work (j, below, outer, is, same) =
    ap (λ s. ends_in s links + as_count (is_in unmatched name)) (sym same)
    ∙ (ap (λ n. ends_in (node_at nodes j).top.vertices links + as_count (is_in unmatched n)) (sym is)
    ∙ work.matched j no_node below (ap (is_outer nodes) is ∙ outer))

-- links without an end in the set
pub no_ends : (set : List ℕ) (links : List Link) → ends_in set links ≡ 0
    → All (λ l. (is_in set l.from ≡ false) × (is_in set l.to ≡ false)) links
no_ends set [] none = All-nil (λ l. (is_in set l.from ≡ false) × (is_in set l.to ≡ false))
no_ends set (l ∷ links) none =
    All-cons (λ m. (is_in set m.from ≡ false) × (is_in set m.to ≡ false)) l links
    (apart (is_in set l.from) (is_in set l.to) (omega (arith, none, ends-cons set l links)))
    (no_ends set links (omega (arith, none, ends-cons set l links)))
  where
    apart : (a b : Bool) → as_count a + as_count b ≡ 0 → (a ≡ false) × (b ≡ false)
    apart true b e = absurd (omega arith)
    apart false true e = absurd (omega arith)
    apart false false e = (refl, refl)

pub branches_tree : (nodes : List Node) (path : List Entry) → tree_links (branches_of nodes path) ≡ grown_links path
branches_tree nodes [] = refl
branches_tree nodes (e ∷ es) = ap (λ l. e.tree ∷ l) (branches_tree nodes es)

pub branches_matched : (nodes : List Node) (path : List Entry) → matched_links (branches_of nodes path) ≡ paired_links path
branches_matched nodes [] = refl
branches_matched nodes (e ∷ es) = ap (λ l. e.matched ∷ l) (branches_matched nodes es)
