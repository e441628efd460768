-- Which links of a tree are kept by its moves.
use Rattle.std.proofs.Common.{ℕ, ◌≡◌, ◌+◌, ◌⊎◌, inl, inr, not, cond, Bool, true, false, List, [], ◌∷◌, ◌++◌, map, filter, length, refl, sym, ap, ◌∙◌, subst, arith, append_assoc, length-append}
use Rattle.std.specs.List.Sorted.{IsPermutation}
use Rattle.std.proofs.lemmas.Bool.{both_ways, false_from_ne_true}
use Rattle.std.proofs.lemmas.List.{length-map, map-append}
use Rattle.std.proofs.lemmas.List.Sorted.{All-permutation, IsPermutation-append, IsPermutation-append_comm, IsPermutation-append_left, IsPermutation-append_right, IsPermutation-cons, IsPermutation-filter_both, IsPermutation-map, IsPermutation-middle, IsPermutation-refl, IsPermutation-sym, IsPermutation-trans}
use Rattle.fb_graph.specs.Parity.{is_in}
use Rattle.fb_graph.specs.Problem.{Problem}
use Rattle.fb_graph.specs.Laws.{Link}
use Rattle.fb_graph.specs.Nests.{IsNest}
use Rattle.fb_graph.specs.Certificate.{AreDistinct}
use Rattle.fb_graph.proofs.Among.{IsAmong, All_among, among_All, among_either, among_left, among_right, among_filter}
use Rattle.fb_graph.proofs.Sets.{is_in-cases, is_in-head, is_in-tail}
use Rattle.fb_laws.specs.LinkNumbers.{BranchesCounted, CycleCounted, LinksEnded, LinksJoined, LinksOpened, links_dropped, links_matched, tree_links}
use Rattle.fb_laws.specs.OpenedCycles.{PassOf, grown_on, matched_on, opened_branches, opened_tree}
use Rattle.fb_laws.specs.SearchBlossoms.{child_at, inner_branches, joined_tree, outer_branches, renamed_entry}
use Rattle.fb_laws.specs.PartStates.{SearchState}
use Rattle.fb_laws.specs.Searches.{IsSearch}
use Rattle.fb_laws.specs.StateBlossoms.{MayClose}
use Rattle.fb_laws.specs.TreeCycles.{ArePaths, cycle_links, cycle_nodes, last_plus, links_along, links_back, nodes_along, nodes_back}
use Rattle.fb_laws.specs.Trees.{Entry, EntryOf, branches_beside, grown_links, minus_names, paired_links, path_to}
use Rattle.fb_laws.proofs.MergedParts.{distinct_across}
use Rattle.fb_laws.proofs.OpenedCycles.{new_grown, new_paired}
use Rattle.fb_laws.proofs.SearchTrees.{path_beside}
use Rattle.fb_laws.proofs.StateBlossoms.{ring_joining}
use Rattle.fb_laws.proofs.PathNodes.{length_back}
use Rattle.fb_laws.proofs.TreeCycles.{names_at}
use Rattle.fb_laws.proofs.TreePaths.{length_along}
use Rattle.fb_graph.proofs.Floods.{is_in-both, is_in-left, is_in-right}
use Rattle.fb_graph.proofs.Members.{distinct_left}

-- the inner two of four lists change places
pub crossed : {X : Type 0} (a b c d : List X) → IsPermutation ((a ++ b) ++ (c ++ d)) ((a ++ c) ++ (b ++ d))
crossed a b c d =
    subst (λ l. IsPermutation l ((a ++ c) ++ (b ++ d))) (sym (append_assoc a b (c ++ d)))
    (subst (IsPermutation (a ++ (b ++ (c ++ d)))) (sym (append_assoc a c (b ++ d)))
    (IsPermutation-append_right a (b ++ (c ++ d)) (c ++ (b ++ d))
    (subst (λ l. IsPermutation l (c ++ (b ++ d))) (append_assoc b c d)
    (subst (IsPermutation ((b ++ c) ++ d)) (append_assoc c b d)
    (IsPermutation-append_left d (b ++ c) (c ++ b) (IsPermutation-append_comm b c))))))

-- the links of two parts of a tree
links_parted : {L : Type 0} (xs ys tree : List (EntryOf L)) → IsPermutation tree (xs ++ ys)
    → IsPermutation (tree_links tree) ((grown_links xs ++ grown_links ys) ++ (paired_links xs ++ paired_links ys))
links_parted xs ys tree moved =
    IsPermutation-append (grown_links tree) (grown_links xs ++ grown_links ys) (paired_links tree) (paired_links xs ++ paired_links ys)
    (subst (IsPermutation (grown_links tree)) (map-append (λ e. e.tree) xs ys) (IsPermutation-map (λ e. e.tree) tree (xs ++ ys) moved))
    (subst (IsPermutation (paired_links tree)) (map-append (λ e. e.matched) xs ys)
    (IsPermutation-map (λ e. e.matched) tree (xs ++ ys) moved))

pub links_ended_of : {L : Type 0} (tree : List (EntryOf L)) (name : ℕ)
    → IsPermutation (tree_links tree) (links_matched tree name ++ links_dropped tree name)
links_ended_of tree name =
    let up = path_to tree name in
    let off = branches_beside tree name in
    IsPermutation-trans _ _ _
    (links_parted up off tree (IsPermutation-sym (up ++ off) tree (path_beside tree name)))
    (IsPermutation-trans _ _ _
    (IsPermutation-append_right (grown_links up ++ grown_links off) (paired_links up ++ paired_links off) (paired_links off ++ paired_links up)
    (IsPermutation-append_comm (paired_links up) (paired_links off)))
    (IsPermutation-trans _ _ _ (crossed (grown_links up) (grown_links off) (paired_links off) (paired_links up))
    (IsPermutation-append_right (grown_links up ++ paired_links off) (grown_links off ++ paired_links up) (paired_links up ++ grown_links off)
    (IsPermutation-append_comm (grown_links off) (paired_links up)))))

pub links_ended : LinksEnded
links_ended tree name = links_ended_of tree name

-- some elements take the place of one, with others beside them
inserted : {X : Type 0} (front back more new : List X) (x : X) → IsPermutation (x ∷ more) new
    → IsPermutation ((front ++ x ∷ back) ++ more) (front ++ (new ++ back))
inserted front back more new x moved =
    subst (λ l. IsPermutation l (front ++ (new ++ back))) (sym (append_assoc front (x ∷ back) more))
    (IsPermutation-append_right front (x ∷ (back ++ more)) (new ++ back)
    (IsPermutation-trans (x ∷ (back ++ more)) (x ∷ (more ++ back)) (new ++ back)
    (IsPermutation-cons x (back ++ more) (more ++ back) (IsPermutation-append_comm back more))
    (IsPermutation-append_left back (x ∷ more) new moved)))

pub links_opened_of : {L : Type 0} (newer older : List (EntryOf L)) (e : EntryOf L) (from : ℕ) (way : List (PassOf L))
    → IsPermutation (tree_links (newer ++ e ∷ older) ++ (grown_on way ++ matched_on way))
    (tree_links (opened_tree newer e older from way))
links_opened_of {L} newer older e from way =
    IsPermutation-trans _ _ _
    (crossed (grown_links (newer ++ e ∷ older)) (paired_links (newer ++ e ∷ older)) (grown_on way) (matched_on way))
    (IsPermutation-append (grown_links (newer ++ e ∷ older) ++ grown_on way) (grown_links (opened_tree newer e older from way))
    (paired_links (newer ++ e ∷ older) ++ matched_on way) (paired_links (opened_tree newer e older from way)) grown paired)
  where
    new : List (EntryOf L)
    new = opened_branches e.parent e.tree from way e.matched e.plus

    grown : IsPermutation (grown_links (newer ++ e ∷ older) ++ grown_on way) (grown_links (opened_tree newer e older from way))
    grown =
        subst (λ l. IsPermutation (l ++ grown_on way) (grown_links (opened_tree newer e older from way)))
        (sym (map-append (λ x. x.tree) newer (e ∷ older)))
        (subst (IsPermutation ((grown_links newer ++ e.tree ∷ grown_links older) ++ grown_on way))
        (sym (map-append (λ x. x.tree) newer (new ++ older) ∙ ap (λ l. grown_links newer ++ l) (map-append (λ x. x.tree) new older)))
        (inserted (grown_links newer) (grown_links older) (grown_on way) (grown_links new) e.tree
        (new_grown e.parent e.tree from way e.matched e.plus)))

    paired : IsPermutation (paired_links (newer ++ e ∷ older) ++ matched_on way) (paired_links (opened_tree newer e older from way))
    paired =
        subst (λ l. IsPermutation (l ++ matched_on way) (paired_links (opened_tree newer e older from way)))
        (sym (map-append (λ x. x.matched) newer (e ∷ older)))
        (subst (IsPermutation ((paired_links newer ++ e.matched ∷ paired_links older) ++ matched_on way))
        (sym (map-append (λ x. x.matched) newer (new ++ older) ∙ ap (λ l. paired_links newer ++ l) (map-append (λ x. x.matched) new older)))
        (inserted (paired_links newer) (paired_links older) (matched_on way) (paired_links new) e.matched
        (IsPermutation-trans _ _ _ (IsPermutation-append_comm (e.matched ∷ []) (matched_on way))
        (new_paired e.parent e.tree from way e.matched e.plus))))

pub links_opened : LinksOpened
links_opened newer older e from way = links_opened_of newer older e from way

split_in : {X : Type 0} (xs : List X) (y : X) → IsAmong y xs → (before : List X) × (after : List X) × (xs ≡ before ++ y ∷ after)
split_in [] y a = absurd a
split_in (x ∷ xs) y (inl same) = ([], xs, ap (λ z. z ∷ xs) same)
split_in (x ∷ xs) y (inr a) = let (before, after, is) = split_in xs y a in (x ∷ before, after, ap (λ l. x ∷ l) is)

among_key : {X : Type 0} (key : X → ℕ) (xs : List X) (x : X) → IsAmong x xs → is_in (map key xs) (key x) ≡ true
among_key key [] x a = absurd a
among_key key (y ∷ ys) x (inl same) = subst (λ z. is_in (key y ∷ map key ys) (key z) ≡ true) same (is_in-head (key y) (map key ys))
among_key key (y ∷ ys) x (inr a) = is_in-tail (key y) (map key ys) (key x) (among_key key ys x a)

-- elements with different keys that all are among as many others are these
same_elements : {X : Type 0} (key : X → ℕ) (xs ys : List X) → AreDistinct (map key ys) → ((y : X) → IsAmong y ys → IsAmong y xs)
    → length xs ≡ length ys → IsPermutation xs ys
same_elements key [] [] distinct within same = IsPermutation-refl []
same_elements key (x ∷ xs) [] distinct within same = absurd (omega (arith, same))
same_elements {X} key xs (y ∷ ys) (new, distinct) within same =
    let (before, after, is) = split_in xs y (within y (inl refl)) in
    subst (λ l. IsPermutation l (y ∷ ys)) (sym is)
    (IsPermutation-trans (before ++ y ∷ after) (y ∷ (before ++ after)) (y ∷ ys) (IsPermutation-middle before y after)
    (IsPermutation-cons y (before ++ after) ys
    (same_elements key (before ++ after) ys distinct
    (λ z a. among_others before after z a (among_either before (y ∷ after) z (subst (IsAmong z) is (within z (inr a)))))
    (let size : length xs ≡ length (before ++ y ∷ after) = ap length is in
    omega (arith, size, same, length-append before (y ∷ after), length-append before after)))))
  where
    among_others : (before after : List X) (z : X) → IsAmong z ys → IsAmong z before ⊎ IsAmong z (y ∷ after) → IsAmong z (before ++ after)
    among_others before after z a (inl b) = among_left before after z b
    among_others before after z a (inr (inl here)) =
        absurd (both_ways (is_in (map key ys) (key y)) new (subst (λ w. is_in (map key ys) (key w) ≡ true) (sym here) (among_key key ys z a)))
    among_others before after z a (inr (inr b)) = among_right before after z b

path_in : {L : Type 0} (tree : List (EntryOf L)) (name : ℕ) (g : EntryOf L) → IsAmong g (path_to tree name) → IsAmong g tree
path_in tree name g a =
    All_among (λ x. IsAmong x tree) (path_to tree name ++ branches_beside tree name)
    (All-permutation (λ x. IsAmong x tree) tree (path_to tree name ++ branches_beside tree name)
    (IsPermutation-sym (path_to tree name ++ branches_beside tree name) tree (path_beside tree name))
    (among_All (λ x. IsAmong x tree) tree (λ x b. b)))
    g (among_left (path_to tree name) (branches_beside tree name) g a)

minus_along : {L : Type 0} (es : List (EntryOf L)) (n : ℕ) → is_in (minus_names es) n ≡ true → is_in (nodes_along es) n ≡ true
minus_along [] n within = within
minus_along (e ∷ es) n within =
    step (is_in-cases e.minus (minus_names es) n within) (minus_along es n)
  where
    step : (e.minus ≡ n) ⊎ (is_in (minus_names es) n ≡ true) → (is_in (minus_names es) n ≡ true → is_in (nodes_along es) n ≡ true)
        → is_in (e.minus ∷ e.plus ∷ nodes_along es) n ≡ true
    step (inl same) rest = subst (λ m. is_in (e.minus ∷ e.plus ∷ nodes_along es) m ≡ true) same (is_in-head e.minus (e.plus ∷ nodes_along es))
    step (inr there) rest = is_in-tail e.minus (e.plus ∷ nodes_along es) n (is_in-tail e.plus (nodes_along es) n (rest there))

minus_back : {L : Type 0} (es : List (EntryOf L)) (n : ℕ) → is_in (minus_names es) n ≡ true → is_in (nodes_back es) n ≡ true
minus_back [] n within = within
minus_back (e ∷ es) n within =
    step (is_in-cases e.minus (minus_names es) n within) (minus_back es n)
  where
    step : (e.minus ≡ n) ⊎ (is_in (minus_names es) n ≡ true) → (is_in (minus_names es) n ≡ true → is_in (nodes_back es) n ≡ true)
        → is_in (nodes_back es ++ e.plus ∷ e.minus ∷ []) n ≡ true
    step (inl same) rest =
        is_in-right (nodes_back es) (e.plus ∷ e.minus ∷ []) n
        (subst (λ m. is_in (e.plus ∷ e.minus ∷ []) m ≡ true) same (is_in-tail e.plus (e.minus ∷ []) e.minus (is_in-head e.minus [])))
    step (inr there) rest = is_in-left (nodes_back es) (e.plus ∷ e.minus ∷ []) n (rest there)

distinct_down : {L : Type 0} (es : List (EntryOf L)) → AreDistinct (nodes_back es) → AreDistinct (minus_names es)
distinct_down [] distinct = tt
distinct_down (e ∷ es) distinct = (
  false_from_ne_true (is_in (minus_names es) e.minus)
      (λ within.
      both_ways (is_in (e.plus ∷ e.minus ∷ []) e.minus)
      (distinct_across (nodes_back es) (e.plus ∷ e.minus ∷ []) e.minus distinct (minus_back es e.minus within))
      (is_in-tail e.plus (e.minus ∷ []) e.minus (is_in-head e.minus []))),
  distinct_down es (distinct_left (nodes_back es) (e.plus ∷ e.minus ∷ []) distinct),
)

distinct_cycle : {L : Type 0} (up down : List (EntryOf L)) → AreDistinct (cycle_nodes up down)
    → AreDistinct (minus_names up ++ minus_names down)
distinct_cycle [] down distinct = distinct_down down distinct
distinct_cycle (e ∷ es) down distinct = (
  false_from_ne_true (is_in (minus_names es ++ minus_names down) e.minus)
      (λ within.
      both_ways (is_in (e.plus ∷ (nodes_along es ++ nodes_back down)) e.minus) distinct.0
      (is_in-tail e.plus (nodes_along es ++ nodes_back down) e.minus (there (is_in-both (minus_names es) (minus_names down) e.minus within)))),
  distinct_cycle es down distinct.1.1,
)
  where
    there : (is_in (minus_names es) e.minus ≡ true) ⊎ (is_in (minus_names down) e.minus ≡ true)
        → is_in (nodes_along es ++ nodes_back down) e.minus ≡ true
    there (inl h) = is_in-left (nodes_along es) (nodes_back down) e.minus (minus_along es e.minus h)
    there (inr h) = is_in-right (nodes_along es) (nodes_back down) e.minus (minus_back down e.minus h)

-- the links along branches are those of the branches
along_links : {L : Type 0} (es : List (EntryOf L)) → IsPermutation (tree_links es) (links_along es)
along_links [] = IsPermutation-refl []
along_links (e ∷ es) =
    IsPermutation-cons e.tree (grown_links es ++ e.matched ∷ paired_links es) (e.matched ∷ links_along es)
    (IsPermutation-trans (grown_links es ++ e.matched ∷ paired_links es) (e.matched ∷ tree_links es) (e.matched ∷ links_along es)
    (IsPermutation-middle (grown_links es) e.matched (paired_links es))
    (IsPermutation-cons e.matched (tree_links es) (links_along es) (along_links es)))

back_links : {L : Type 0} (es : List (EntryOf L)) → IsPermutation (tree_links es) (links_back es)
back_links [] = IsPermutation-refl []
back_links (e ∷ es) =
    IsPermutation-trans (tree_links (e ∷ es)) (e.matched ∷ e.tree ∷ tree_links es) (links_back es ++ e.matched ∷ e.tree ∷ [])
    (IsPermutation-trans (tree_links (e ∷ es)) (e.matched ∷ (e.tree ∷ grown_links es) ++ paired_links es) (e.matched ∷ e.tree ∷ tree_links es)
    (IsPermutation-middle (e.tree ∷ grown_links es) e.matched (paired_links es)) (IsPermutation-refl (e.matched ∷ e.tree ∷ tree_links es)))
    (IsPermutation-trans (e.matched ∷ e.tree ∷ tree_links es) ((e.matched ∷ e.tree ∷ []) ++ links_back es) (links_back es ++ e.matched ∷ e.tree ∷ [])
    (IsPermutation-append_right (e.matched ∷ e.tree ∷ []) (tree_links es) (links_back es) (back_links es))
    (IsPermutation-append_comm (e.matched ∷ e.tree ∷ []) (links_back es)))

cycle_links_of : {L : Type 0} (up down : List (EntryOf L)) (closing : L)
    → IsPermutation (closing ∷ tree_links (up ++ down)) (cycle_links up closing down)
cycle_links_of up down closing =
    IsPermutation-trans (closing ∷ tree_links (up ++ down)) (closing ∷ (links_along up ++ links_back down)) (cycle_links up closing down)
    (IsPermutation-cons closing (tree_links (up ++ down)) (links_along up ++ links_back down)
    (IsPermutation-trans _ _ _ (links_parted up down (up ++ down) (IsPermutation-refl (up ++ down)))
    (IsPermutation-trans _ _ _ (crossed (grown_links up) (grown_links down) (paired_links up) (paired_links down))
    (IsPermutation-append (tree_links up) (links_along up) (tree_links down) (links_back down) (along_links up) (back_links down)))))
    (IsPermutation-sym (cycle_links up closing down) (closing ∷ (links_along up ++ links_back down))
    (IsPermutation-middle (links_along up) closing (links_back down)))

grown_renamed : {L : Type 0} (joined : ℕ → Bool) (name : ℕ) (es : List (EntryOf L)) → grown_links (map (renamed_entry joined name) es) ≡ grown_links es
grown_renamed joined name [] = refl
grown_renamed joined name (e ∷ es) = ap (λ l. e.tree ∷ l) (grown_renamed joined name es)

paired_renamed : {L : Type 0} (joined : ℕ → Bool) (name : ℕ) (es : List (EntryOf L)) → paired_links (map (renamed_entry joined name) es) ≡ paired_links es
paired_renamed joined name [] = refl
paired_renamed joined name (e ∷ es) = ap (λ l. e.matched ∷ l) (paired_renamed joined name es)

pub links_joined_in : LinksJoined
links_joined_in joined name a b closing tree shared up down paths is =
    subst (λ l. IsPermutation (closing ∷ tree_links tree) (l ++ cycle_links up closing down)) (sym same)
    (IsPermutation-trans (closing ∷ tree_links tree) (closing ∷ (tree_links off ++ tree_links (up ++ down))) (tree_links off ++ cycle_links up closing down)
    (IsPermutation-cons closing (tree_links tree) (tree_links off ++ tree_links (up ++ down)) parted)
    (IsPermutation-trans (closing ∷ (tree_links off ++ tree_links (up ++ down))) (tree_links off ++ closing ∷ tree_links (up ++ down))
    (tree_links off ++ cycle_links up closing down)
    (IsPermutation-sym (tree_links off ++ closing ∷ tree_links (up ++ down)) (closing ∷ (tree_links off ++ tree_links (up ++ down)))
    (IsPermutation-middle (tree_links off) closing (tree_links (up ++ down))))
    (IsPermutation-append_right (tree_links off) (closing ∷ tree_links (up ++ down)) (cycle_links up closing down)
    (cycle_links_of up down closing))))
  where
    off : List (EntryOf ℕ)
    off = outer_branches joined tree

    within : List (EntryOf ℕ)
    within = inner_branches joined tree

    same : tree_links (joined_tree joined name tree) ≡ tree_links (outer_branches joined tree)
    same =
        ap (λ l. l ++ paired_links (joined_tree joined name tree)) (grown_renamed joined name off)
        ∙ ap (λ l. grown_links off ++ l) (paired_renamed joined name off)

    member : (g : EntryOf ℕ) → IsAmong g up ⊎ IsAmong g down → IsAmong g (inner_branches joined tree)
    member g (inl h) =
        among_filter (λ e. joined e.minus) tree g (path_in tree a g (subst (IsAmong g) (sym paths.first) (among_right shared up g h)))
        (is.nodes g.minus (is_in-left (nodes_along up) (nodes_back down) g.minus (minus_along up g.minus (among_key (λ e. e.minus) up g h))))
    member g (inr h) =
        among_filter (λ e. joined e.minus) tree g (path_in tree b g (subst (IsAmong g) (sym paths.second) (among_right shared down g h)))
        (is.nodes g.minus (is_in-right (nodes_along up) (nodes_back down) g.minus (minus_back down g.minus (among_key (λ e. e.minus) down g h))))

    branches : IsPermutation (inner_branches joined tree) (up ++ down)
    branches =
        same_elements (λ e. e.minus) within (up ++ down)
        (subst AreDistinct (sym (map-append (λ e. e.minus) up down)) (distinct_cycle up down is.distinct))
        (λ g h. member g (among_either up down g h)) (is.branches ∙ sym (length-append up down))

    inner_links : IsPermutation (tree_links (inner_branches joined tree)) (tree_links (up ++ down))
    inner_links =
        IsPermutation-append (grown_links within) (grown_links (up ++ down)) (paired_links within) (paired_links (up ++ down))
        (IsPermutation-map (λ e. e.tree) within (up ++ down) branches) (IsPermutation-map (λ e. e.matched) within (up ++ down) branches)

    parted : IsPermutation (tree_links tree) (tree_links (outer_branches joined tree) ++ tree_links (up ++ down))
    parted =
        IsPermutation-trans _ _ _
        (links_parted within off tree
        (IsPermutation-filter_both (λ (e : EntryOf ℕ). joined e.minus) (λ (e : EntryOf ℕ). not (joined e.minus)) (λ e. refl) tree))
        (IsPermutation-trans _ _ _ (crossed (grown_links within) (grown_links off) (paired_links within) (paired_links off))
        (IsPermutation-trans _ _ _ (IsPermutation-append_comm (tree_links within) (tree_links off))
        (IsPermutation-append_right (tree_links off) (tree_links within) (tree_links (up ++ down)) inner_links)))

-- whatever links there are beside the tree
pub cycle_in_search : (p : Problem) (s : SearchState) (name a b : ℕ) (closing : Link) (shared up down : List Entry)
    → MayClose p s name a b closing → ArePaths s.tree a b shared up down → (rest : List Link) → IsNest p s.nodes
    → IsSearch p s.nodes s.tree rest s.unmatched s.root s.parity
    → AreDistinct (last_plus s.root shared ∷ cycle_nodes up down)
    × (length (inner_branches (is_in (last_plus s.root shared ∷ cycle_nodes up down)) s.tree) ≡ length up + length down)
cycle_in_search p s name a b closing shared up down may paths rest nest search =
    let is = ring_joining p s name a b closing shared up down may paths rest nest search in
    let named = names_at s.nodes (cycle_nodes up down) in (
      subst (λ names. AreDistinct (last_plus s.root shared ∷ names)) named is.distinct,
      subst (λ names. length (inner_branches (is_in (last_plus s.root shared ∷ names)) s.tree) ≡ length up + length down) named
          (omega (
            arith,
            is.even,
            length-map (cycle_nodes up down) (child_at s.nodes),
            length-append (nodes_along up) (nodes_back down),
            length_along up,
            length_back down,
          )),
    )

pub cycle_counted : CycleCounted
cycle_counted p s name a b closing shared up down may paths state =
    cycle_in_search p s name a b closing shared up down may paths s.rest state.search.nest state.search.search

inner_length : {L : Type 0} (joined : ℕ → Bool) (tree : List (EntryOf L))
    → length (inner_branches joined tree) ≡ length (filter joined (minus_names tree))
inner_length joined [] = refl
inner_length {L} joined (e ∷ es) = step (joined e.minus) (inner_length joined es)
  where
    step : (b : Bool) → length (inner_branches joined es) ≡ length (filter joined (minus_names es))
        → length (cond b (e ∷ inner_branches joined es) (inner_branches joined es))
        ≡ length (cond b (e.minus ∷ filter joined (minus_names es)) (filter joined (minus_names es)))
    step true ih = omega (arith, ih)
    step false ih = ih

pub branches_counted : BranchesCounted
branches_counted joined tree numbered same =
    inner_length joined numbered ∙ (ap (λ l. length (filter joined l)) same ∙ sym (inner_length joined tree))
