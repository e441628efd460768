-- Paths of a tree with the numbers of its links.
use Rattle.std.proofs.Common.{ℕ, ◌≡◌, ◌==◌, ◌||◌, ◌⊎◌, ◌+◌, ◌<◌, inl, inr, cond, true, false, List, [], ◌∷◌, ◌++◌, map, reverse, length, take, drop, Some, None, refl, sym, ap, ◌∙◌, subst, arith, append_assoc}
use Rattle.std.proofs.lemmas.Bool.{both_ways, cases_Bool, eq-eqb, ne_eqb, eqb-true, eqb-false, or_left, or_parts, or_right}
use Rattle.std.proofs.lemmas.List.{drop-map, drop_at, length-append, take-map, take_at}
use Rattle.std.proofs.lemmas.Option.{none-some, same_Some}
use Rattle.fb_graph.specs.Parity.{is_in}
use Rattle.fb_graph.specs.Certificate.{AreDistinct}
use Rattle.fb_graph.specs.Laws.{Link}
use Rattle.fb_graph.proofs.Sets.{is_in-cases, is_in-tail}
use Rattle.fb_links.specs.declared.cycle.CycleStep.{CycleStep}
use Rattle.fb_laws.specs.Trees.{EntryOf, minus_names, path_to, plus_names, tree_names}
use Rattle.fb_laws.specs.TreeCycles.{ArePaths, PartAtOnce, last_plus}
use Rattle.fb_laws.proofs.TreeCycles.{paths_part}
use Rattle.fb_trees.specs.declared.branch.Branch.{Branch}
use Rattle.fb_trees.specs.Branches.{Grown, entries_of, entry_of}
use Rattle.fb_trees.specs.Rooted.{AreHung, IsPlus, IsRooted, is_node}
use Rattle.fb_trees.specs.TreeLinks.{map_entry}
use Rattle.fb_trees.specs.TreeSteps.{IsCycle, path_up, step, steps_up, way_up}
use Rattle.fb_trees.specs.InternalPaths.{common_count, steps_down}
use Rattle.fb_trees.specs.InternalPlaces.{branch_at}
use Rattle.fb_trees.proofs.Lookups.{branch_nodes, entries_push, no_branch_plus}
use Rattle.fb_trees.proofs.Mapped.{names_moved, paths_moved}
use Rattle.fb_trees.proofs.Names.{exclusive_names, no_link, plus_in_tree}
use Rattle.fb_trees.proofs.StepLists.{links_round, nodes_round}

-- a newer branch is on no path to an older node
path_skip : (root : ℕ) (x : EntryOf ℕ) (xs : List (EntryOf ℕ)) (name : ℕ) → is_in (tree_names root xs) x.plus ≡ false
    → is_in (plus_names root xs) name ≡ true → path_to (x ∷ xs) name ≡ path_to xs name
path_skip root x xs name fresh older =
    ap (λ b. cond b (path_to xs x.parent ++ x ∷ []) (path_to xs name))
    (ne_eqb x.plus name
    (λ same. both_ways (is_in (tree_names root xs) x.plus) fresh (plus_in_tree root xs x.plus (ap (is_in (plus_names root xs)) same ∙ older))))

-- the path to a plus node goes on from the path to its branch's parent
pub record IsStep (root : ℕ) (es : List (EntryOf ℕ)) (name : ℕ) (e : EntryOf ℕ) : Type 0 where
  pub path : path_to es name ≡ path_to es e.parent ++ e ∷ []
  pub parent : is_in (plus_names root es) e.parent ≡ true

pub path_step : (root : ℕ) (es : List (EntryOf ℕ)) → AreDistinct (tree_names root es) → AreHung root es → (name : ℕ) (e : EntryOf ℕ)
    → is_in (plus_names root es) name ≡ true → branch_at es name ≡ Some e → IsStep root es name e
path_step root [] distinct hung name e plus is = absurd (none-some e is)
path_step root (x ∷ xs) (minus_new, (plus_new, distinct)) (hung, older) name e plus is =
    step (cases_Bool (x.plus == name)) (cases_Bool (x.minus == name)) (path_step root xs distinct older name e)
  where
    up : (n : ℕ) → is_in (plus_names root xs) n ≡ true → is_in (plus_names root (x ∷ xs)) n ≡ true
    up n h = is_in-tail x.plus (plus_names root xs) n h

    here : (x.plus == name) ≡ true → IsStep root (x ∷ xs) name e
    here same =
        let both : ((x.minus == name) || (x.plus == name)) ≡ true = or_right (x.minus == name) (x.plus == name) same in
        let first : x ≡ e = same_Some x e (sym (ap (λ b. cond b (Some x) (branch_at xs name)) both) ∙ is) in
        subst (IsStep root (x ∷ xs) name) first (record {
          path = ap (λ b. cond b (path_to xs x.parent ++ x ∷ []) (path_to xs name)) same
              ∙ ap (λ l. l ++ x ∷ []) (sym (path_skip root x xs x.parent plus_new hung));
          parent = up x.parent hung;
        })

    below : (x.plus == name) ≡ false → is_in (plus_names root xs) name ≡ true
    below other = sym (ap (λ b. b || is_in (plus_names root xs) name) other) ∙ plus

    there : (x.plus == name) ≡ false → (x.minus == name) ≡ false
        → (is_in (plus_names root xs) name ≡ true → branch_at xs name ≡ Some e → IsStep root xs name e) → IsStep root (x ∷ xs) name e
    there other apart rest =
        let both : ((x.minus == name) || (x.plus == name)) ≡ false = ap (λ b. b || (x.plus == name)) apart ∙ other in
        let old = rest (below other) (sym (ap (λ b. cond b (Some x) (branch_at xs name)) both) ∙ is) in
        record {
          path = path_skip root x xs name plus_new (below other)
              ∙ (old.path ∙ ap (λ l. l ++ e ∷ []) (sym (path_skip root x xs e.parent plus_new old.parent)));
          parent = up e.parent old.parent;
        }

    not_minus : (x.plus == name) ≡ false → (x.minus == name) ≡ true → ⊥
    not_minus other same =
        both_ways (is_in (x.plus ∷ tree_names root xs) x.minus) minus_new
        (is_in-tail x.plus (tree_names root xs) x.minus
        (plus_in_tree root xs x.minus (ap (is_in (plus_names root xs)) (eqb-true x.minus name same) ∙ below other)))

    step : ((x.plus == name) ≡ true) ⊎ ((x.plus == name) ≡ false) → ((x.minus == name) ≡ true) ⊎ ((x.minus == name) ≡ false)
        → (is_in (plus_names root xs) name ≡ true → branch_at xs name ≡ Some e → IsStep root xs name e) → IsStep root (x ∷ xs) name e
    step (inl same) minus rest = here same
    step (inr other) (inl same) rest = absurd (not_minus other same)
    step (inr other) (inr apart) rest = there other apart rest

pub path_none : (es : List (EntryOf ℕ)) (name : ℕ) → branch_at es name ≡ None → path_to es name ≡ []
path_none [] name is = refl
path_none (e ∷ es) name is = step (cases_Bool ((e.minus == name) || (e.plus == name))) (path_none es name)
  where
    step : (((e.minus == name) || (e.plus == name)) ≡ true) ⊎ (((e.minus == name) || (e.plus == name)) ≡ false)
        → (branch_at es name ≡ None → path_to es name ≡ []) → path_to (e ∷ es) name ≡ []
    step (inl h) rest = absurd (none-some e (sym is ∙ ap (λ b. cond b (Some e) (branch_at es name)) h))
    step (inr h) rest =
        ap (λ b. cond b (path_to es e.parent ++ e ∷ []) (path_to es name)) (or_parts (e.minus == name) (e.plus == name) h).1
        ∙ rest (sym (ap (λ b. cond b (Some e) (branch_at es name)) h) ∙ is)

-- where a walk up to the root stands: the branches that it has passed, and those that are left
pub record HasPassed (t : Grown) (plus node : ℕ) (passed : List Branch) : Type 0 where
  pub is_plus : IsPlus t node
  pub path : path_to t.branches plus ≡ path_to t.branches node ++ entries_of passed

pub passed_more : (t : Grown) → IsRooted t.root t.branches → (plus node : ℕ) (passed : List Branch) → HasPassed t plus node passed
    → (b : Branch) → Some (entry_of b) ≡ branch_at t.branches node → HasPassed t plus b.parent (passed ++ b ∷ [])
passed_more t rooted plus node passed has b is =
    let next = path_step t.root t.branches rooted.names rooted.hung node (entry_of b) has.is_plus (sym is) in
    record {
      is_plus = next.parent;
      path = has.path
          ∙ (ap (λ l. l ++ entries_of passed) next.path
          ∙ (append_assoc (path_to t.branches b.parent) (entry_of b ∷ []) (entries_of passed)
          ∙ ap (λ l. path_to t.branches b.parent ++ l) (sym (entries_push passed b))));
    }

pub passed_falls : (t : Grown) → IsRooted t.root t.branches → (plus node : ℕ) (passed : List Branch) → HasPassed t plus node passed
    → (b : Branch) → Some (entry_of b) ≡ branch_at t.branches node
    → length (path_to t.branches b.parent) < length (path_to t.branches node)
passed_falls t rooted plus node passed has b is =
    let next = path_step t.root t.branches rooted.names rooted.hung node (entry_of b) has.is_plus (sym is) in
    let long : length (path_to t.branches node) ≡ length (path_to t.branches b.parent) + 1 =
    ap length next.path ∙ length-append (path_to t.branches b.parent) (entry_of b ∷ []) in
    omega arith

pub passed_all : (t : Grown) (plus node : ℕ) (passed : List Branch) → HasPassed t plus node passed → None ≡ branch_at t.branches node
    → map entry_of (reverse passed) ≡ path_to t.branches plus
passed_all t plus node passed has is =
    sym (has.path ∙ ap (λ l. l ++ entries_of passed) (path_none t.branches node (sym is)))

-- the way up from a minus node, and from a plus node
way_minus : (tree es : List (EntryOf ℕ)) (name : ℕ) (e : EntryOf ℕ) → branch_at es name ≡ Some e → e.minus ≡ name
    → way_up tree es name ≡ step name e.tree ∷ steps_up (path_to tree e.parent)
way_minus tree [] name e is same = absurd (none-some e is)
way_minus tree (x ∷ xs) name e is same = by (cases_Bool (x.minus == name)) (cases_Bool (x.plus == name)) (way_minus tree xs name e)
  where
    Goal : Type 0
    Goal = way_up tree (x ∷ xs) name ≡ step name e.tree ∷ steps_up (path_to tree e.parent)

    first : ((x.minus == name) || (x.plus == name)) ≡ true → x ≡ e
    first h = same_Some x e (sym (ap (λ b. cond b (Some x) (branch_at xs name)) h) ∙ is)

    by : ((x.minus == name) ≡ true) ⊎ ((x.minus == name) ≡ false) → ((x.plus == name) ≡ true) ⊎ ((x.plus == name) ≡ false)
        → (branch_at xs name ≡ Some e → e.minus ≡ name → way_up tree xs name ≡ step name e.tree ∷ steps_up (path_to tree e.parent)) → Goal
    by (inl minus) plus rest =
        ap (λ b. cond b (step name x.tree ∷ steps_up (path_to tree x.parent)) (way_up tree xs name)) minus
        ∙ ap (λ y. step name y.tree ∷ steps_up (path_to tree y.parent)) (first (or_left (x.minus == name) (x.plus == name) minus))
    by (inr other) (inl plus) rest =
        absurd (eqb-false x.minus name other (ap (λ y. y.minus) (first (or_right (x.minus == name) (x.plus == name) plus)) ∙ same))
    by (inr other) (inr apart) rest =
        ap (λ b. cond b (step name x.tree ∷ steps_up (path_to tree x.parent)) (way_up tree xs name)) other
        ∙ rest (sym (ap (λ b. cond b (Some x) (branch_at xs name)) (ap (λ b. b || (x.plus == name)) other ∙ apart)) ∙ is) same

way_plus : (tree es : List (EntryOf ℕ)) (name : ℕ) → is_in (minus_names es) name ≡ false → way_up tree es name ≡ steps_up (path_to tree name)
way_plus tree [] name out = refl
way_plus tree (x ∷ xs) name out =
    let parts = or_parts (x.minus == name) (is_in (minus_names xs) name) out in
    ap (λ b. cond b (step name x.tree ∷ steps_up (path_to tree x.parent)) (way_up tree xs name)) parts.0 ∙ way_plus tree xs name parts.1

-- the parent of a minus node's branch is plus
pub parent_plus : (root : ℕ) (es : List (EntryOf ℕ)) → AreHung root es → (name : ℕ) (e : EntryOf ℕ) → branch_at es name ≡ Some e
    → is_in (plus_names root es) e.parent ≡ true
parent_plus root [] hung name e is = absurd (none-some e is)
parent_plus root (x ∷ xs) (hung, older) name e is =
    by (cases_Bool ((x.minus == name) || (x.plus == name))) (parent_plus root xs older name e)
  where
    by : (((x.minus == name) || (x.plus == name)) ≡ true) ⊎ (((x.minus == name) || (x.plus == name)) ≡ false)
        → (branch_at xs name ≡ Some e → is_in (plus_names root xs) e.parent ≡ true) → is_in (plus_names root (x ∷ xs)) e.parent ≡ true
    by (inl h) rest =
        let first : x ≡ e = same_Some x e (sym (ap (λ b. cond b (Some x) (branch_at xs name)) h) ∙ is) in
        is_in-tail x.plus (plus_names root xs) e.parent (ap (λ y. is_in (plus_names root xs) y.parent) (sym first) ∙ hung)
    by (inr h) rest =
        is_in-tail x.plus (plus_names root xs) e.parent (rest (sym (ap (λ b. cond b (Some x) (branch_at xs name)) h) ∙ is))

pub up_from_minus : (t : Grown) (name : ℕ) (b : Branch) → Some (entry_of b) ≡ branch_at t.branches name → b.minus ≡ name
    → step name b.tree ∷ steps_up (path_to t.branches b.parent) ≡ path_up t name
up_from_minus t name b is same = sym (way_minus t.branches t.branches name (entry_of b) (sym is) same)

pub up_from_plus : (t : Grown) → IsRooted t.root t.branches → (name : ℕ) → IsPlus t name → steps_up (path_to t.branches name) ≡ path_up t name
up_from_plus t rooted name plus = sym (way_plus t.branches t.branches name (exclusive_names t.root t.branches rooted.names name plus))

-- paths with numbers part as those with links do
abbrev back : Link → ℕ
back l = l.from

same_tree : (tree : List (EntryOf ℕ)) → map (map_entry back) (map (map_entry no_link) tree) ≡ tree
same_tree [] = refl
same_tree (e ∷ es) = ap (λ l. e ∷ l) (same_tree es)

pub parted : (root : ℕ) (tree : List (EntryOf ℕ)) (a b : ℕ) → AreDistinct (tree_names root tree)
    → (shared : List (EntryOf ℕ)) × (up : List (EntryOf ℕ)) × (down : List (EntryOf ℕ)) × ArePaths tree a b shared up down
parted root tree a b distinct =
    let (shared, up, down, are) =
    paths_part (map (map_entry no_link) tree) root a b (subst AreDistinct (sym (names_moved no_link root tree)) distinct) in (
      map (map_entry back) shared,
      map (map_entry back) up,
      map (map_entry back) down,
      subst (λ l. ArePaths l a b (map (map_entry back) shared) (map (map_entry back) up) (map (map_entry back) down)) (same_tree tree)
          (paths_moved back (map (map_entry no_link) tree) a b shared up down are),
    )

common_shared : (shared up down : List (EntryOf ℕ)) → PartAtOnce up down → common_count (shared ++ up) (shared ++ down) ≡ length shared
common_shared [] [] down apart = refl
common_shared [] (x ∷ xs) [] apart = refl
common_shared [] (x ∷ xs) (y ∷ ys) apart =
    ap (λ b. cond b (1 + common_count xs ys) 0) (ne_eqb x.minus y.minus apart)
common_shared (x ∷ xs) up down apart =
    let rest : common_count (xs ++ up) (xs ++ down) ≡ length xs = common_shared xs up down apart in
    ap (λ b. cond b (1 + common_count (xs ++ up) (xs ++ down)) 0) (eq-eqb x.minus x.minus refl) ∙ omega arith

-- what two paths, cut where they part, make with the closing link
pub cycle_is : (t : Grown) → IsRooted t.root t.branches → (a b closing : ℕ) (up down : List Branch)
    → map entry_of up ≡ path_to t.branches a → map entry_of down ≡ path_to t.branches b
    → (n : ℕ) → n ≡ common_count (map entry_of up) (map entry_of down)
    → (base : ℕ) → base ≡ last_plus t.root (map entry_of (take n up))
    → (cycle : List CycleStep) → cycle ≡ steps_down base (map entry_of (drop n up)) closing ++ steps_up (map entry_of (drop n down))
    → IsCycle t a b closing cycle
cycle_is t rooted a b closing up down first second n count base base_is cycle is =
    let (shared, above, below, are) = parted t.root t.branches a b rooted.names in
    let long : n ≡ length shared =
    count
    ∙ (ap (λ l. common_count l (map entry_of down)) (first ∙ are.first)
    ∙ (ap (λ l. common_count (shared ++ above) l) (second ∙ are.second) ∙ common_shared shared above below are.parted)) in
    let together : map entry_of (take n up) ≡ shared =
    sym (take-map entry_of n up) ∙ (ap (take n) (first ∙ are.first) ∙ take_at shared above n (sym long)) in
    let rest_up : map entry_of (drop n up) ≡ above =
    sym (drop-map entry_of n up) ∙ (ap (drop n) (first ∙ are.first) ∙ drop_at shared above n (sym long)) in
    let rest_down : map entry_of (drop n down) ≡ below =
    sym (drop-map entry_of n down) ∙ (ap (drop n) (second ∙ are.second) ∙ drop_at shared below n (sym long)) in
    let whole : cycle ≡ steps_down (last_plus t.root shared) above closing ++ steps_up below =
    is
    ∙ (ap (λ l. steps_down base l closing ++ steps_up (map entry_of (drop n down))) rest_up
    ∙ (ap (λ l. steps_down base above closing ++ steps_up l) rest_down
    ∙ ap (λ m. steps_down m above closing ++ steps_up below) (base_is ∙ ap (last_plus t.root) together))) in
    record {
      shared = shared;
      up = above;
      down = below;
      paths = are;
      nodes = ap (map (λ (s : CycleStep). s.node)) whole ∙ nodes_round (last_plus t.root shared) above closing below;
      links = ap (map (λ (s : CycleStep). s.link)) whole ∙ links_round (last_plus t.root shared) above closing below;
    }

-- a node of the tree that no branch has as its minus node is plus
pub plus_if_node : (t : Grown) (name : ℕ) → is_node t name ≡ true → is_in (minus_names t.branches) name ≡ false → IsPlus t name
plus_if_node t name among out = at t.branches among out
  where
    at : (es : List (EntryOf ℕ)) → is_in (tree_names t.root es) name ≡ true → is_in (minus_names es) name ≡ false
        → is_in (plus_names t.root es) name ≡ true
    at [] within none = within
    at (e ∷ es) within none =
        let parts = or_parts (e.minus == name) (is_in (minus_names es) name) none in
        by (is_in-cases e.plus (tree_names t.root es) name (sym (ap (λ b. b || is_in (e.plus ∷ tree_names t.root es) name) parts.0) ∙ within)) (λ h. at es h parts.1)
      where
        by : (e.plus ≡ name) ⊎ (is_in (tree_names t.root es) name ≡ true) → (is_in (tree_names t.root es) name ≡ true → is_in (plus_names t.root es) name ≡ true)
            → is_in (e.plus ∷ plus_names t.root es) name ≡ true
        by (inl same) rest = or_left (e.plus == name) (is_in (plus_names t.root es) name) (eq-eqb e.plus name same)
        by (inr there) rest = is_in-tail e.plus (plus_names t.root es) name (rest there)

-- a node of the tree that isn't its branch's minus node, or has no branch, is plus
pub plus_beside_minus : (t : Grown) (name : ℕ) (b : Branch) → Some (entry_of b) ≡ branch_at t.branches name → (b.minus ≡ name → ⊥) → IsPlus t name
plus_beside_minus t name b is other = by (branch_nodes t.branches name (entry_of b) (sym is))
  where
    by : ((b.minus ≡ name) × (is_in (minus_names t.branches) name ≡ true))
        ⊎ ((b.plus ≡ name) × ((root : ℕ) → is_in (plus_names root t.branches) name ≡ true)) → IsPlus t name
    by (inl (same, minus)) = absurd (other same)
    by (inr (same, plus)) = plus t.root

pub plus_without_branch : (t : Grown) (name : ℕ) → is_node t name ≡ true → None ≡ branch_at t.branches name → IsPlus t name
plus_without_branch t name among is = plus_if_node t name among (no_branch_plus t.root t.branches name (sym is)).1
