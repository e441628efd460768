-- The cycle that a link between two plus nodes closes.
use Rattle.std.proofs.Common.{ℕ, ◌≡◌, ◌+◌, ◌*◌, ◌≤◌, ◌⊎◌, inl, inr, cond, Bool, true, false, List, [], ◌∷◌, ◌++◌, map, filter, length, All, refl, sym, ap, ◌∙◌, subst, arith}
use Rattle.std.proofs.lemmas.Bool.{both_ways, cases_eq, and_parts, and_from, false_from_ne_true}
use Rattle.std.proofs.lemmas.List.{append_assoc, append-nil, length-append, length-map}
use Rattle.std.proofs.lemmas.List.Elements.{All-map}
use Rattle.fb_graph.specs.Parity.{is_in}
use Rattle.fb_graph.specs.Problem.{Problem}
use Rattle.fb_graph.specs.Certificate.{AreDistinct}
use Rattle.fb_graph.specs.Laws.{Link}
use Rattle.fb_graph.specs.Dual.{Node, is_outer}
use Rattle.fb_graph.proofs.Sets.{is_in-cases, is_in-head, is_in-tail, is_in-filter, distinct-filter, length-le_from_within, All-from_is_in}
use Rattle.fb_laws.specs.Forming.{Child, names_of, blossom_of}
use Rattle.fb_laws.specs.Works.{IsSetOf}
use Rattle.fb_laws.specs.Trees.{Entry, Connects, plus_names, minus_names, tree_names, path_to}
use Rattle.fb_laws.specs.Searches.{IsSearch}
use Rattle.fb_laws.specs.SearchBlossoms.{AreBranches, IsJoining, child_at, inner_branches}
use Rattle.fb_laws.specs.TreeCycles.{nodes_along, nodes_back, links_along, links_back, last_plus, PartAtOnce, ArePaths, PathsPart, cycle_nodes, cycle_links, AreLinked, CycleJoining, CycleLinked, CycleMany, CycleMinus}
use Rattle.fb_graph.proofs.Among.{IsAmong, among_All, among_left, among_right, among_either}
use Rattle.fb_laws.proofs.JoinedThree.{root_plus}
use Rattle.fb_laws.proofs.MergedParts.{distinct_across}
use Rattle.fb_laws.proofs.PathNodes.{distinct_cycle, end_among, ends_apart, ends_distinct, length_cycle, same_back}
use Rattle.fb_laws.proofs.SearchStates.{named_set}
use Rattle.fb_laws.proofs.SearchTrees.{connects_sym, plus_in_tree, minus_in_tree, exclusive_names}
use Rattle.fb_laws.proofs.TreePaths.{IsChain, distinct_right, along_append, names_along, along_minus, along_plus, along_among, among_minus, among_plus, minus_among, same_minus, same_branch, path_among, path_chain, chain_rest, chain_parent, last_is_plus, tree_connects}
use Rattle.fb_graph.proofs.Unions.{distinct_append}
use Rattle.fb_graph.proofs.Floods.{is_in-both, is_in-left, is_in-right}
use Rattle.fb_graph.proofs.Members.{distinct_left}

pub paths_part : PathsPart
paths_part tree root a b distinct =
    let (shared, up, down, first, second, parted) = cut (path_to tree a) (path_to tree b) (path_among tree a) (path_among tree b) in
    (shared, up, down, record { first = first; second = second; parted = parted })
  where
    Cut : List Entry → List Entry → Type 0
    Cut xs ys = (shared : List Entry) × (up : List Entry) × (down : List Entry) × (xs ≡ shared ++ up) × (ys ≡ shared ++ down) × PartAtOnce up down

    cut : (xs ys : List Entry) → ((e : Entry) → IsAmong e xs → IsAmong e tree) → ((e : Entry) → IsAmong e ys → IsAmong e tree) → Cut xs ys
    cut [] ys in_xs in_ys = ([], [], ys, refl, refl, tt)
    cut (x ∷ xs) [] in_xs in_ys = ([], x ∷ xs, [], refl, refl, tt)
    cut (x ∷ xs) (y ∷ ys) in_xs in_ys =
        step (cases_eq x.minus y.minus) (cut xs ys (λ e h. in_xs e (inr h)) (λ e h. in_ys e (inr h)))
      where
        step : (x.minus ≡ y.minus) ⊎ (x.minus ≡ y.minus → ⊥) → Cut xs ys → Cut (x ∷ xs) (y ∷ ys)
        step (inl same) (shared, up, down, first, second, parted) =
            let is : x ≡ y = same_minus root tree distinct x y (in_xs x (inl refl)) (in_ys y (inl refl)) same in
            (x ∷ shared, up, down, ap (λ l. x ∷ l) first, ap (λ e. e ∷ ys) (sym is) ∙ ap (λ l. x ∷ l) second, parted)
        step (inr other) rest = ([], x ∷ xs, y ∷ ys, refl, refl, other)

minus_in_along : (es : List Entry) (n : ℕ) → is_in (minus_names es) n ≡ true → is_in (nodes_along es) n ≡ true
minus_in_along es n within = by (minus_among es n within)
  where
    by : (e : Entry) × IsAmong e es × (e.minus ≡ n) → is_in (nodes_along es) n ≡ true
    by (e, a, same) = subst (λ m. is_in (nodes_along es) m ≡ true) same (along_minus es e a)

distinct_minus : (es : List Entry) → AreDistinct (nodes_along es) → AreDistinct (minus_names es)
distinct_minus [] distinct = tt
distinct_minus (e ∷ es) (minus_new, (plus_new, distinct)) = (
  false_from_ne_true (is_in (minus_names es) e.minus)
      (λ within.
      both_ways (is_in (e.plus ∷ nodes_along es) e.minus) minus_new
      (is_in-tail e.plus (nodes_along es) e.minus (minus_in_along es e.minus within))),
  distinct_minus es distinct,
)

inner_minus : (joined : ℕ → Bool) (tree : List Entry) → minus_names (inner_branches joined tree) ≡ filter joined (minus_names tree)
inner_minus joined [] = refl
inner_minus joined (e ∷ es) = step (joined e.minus) (inner_minus joined es)
  where
    step : (b : Bool) → minus_names (inner_branches joined es) ≡ filter joined (minus_names es)
        → minus_names (cond b (e ∷ inner_branches joined es) (inner_branches joined es)) ≡ cond b (e.minus ∷ filter joined (minus_names es)) (filter joined (minus_names es))
    step true rest = ap (λ l. e.minus ∷ l) rest
    step false rest = rest

-- branches that follow one another are linked
linked_along : (nodes : List Node) (es : List Entry)
    → ((e : Entry) → IsAmong e es → Connects nodes e.tree e.parent e.minus × Connects nodes e.matched e.minus e.plus) → (from to : ℕ)
    → IsChain from es to → (names : List ℕ) (links : List Link) → AreLinked nodes to names links
    → AreLinked nodes from (nodes_along es ++ names) (links_along es ++ links)
linked_along nodes [] connects from to chain names links rest = subst (λ n. AreLinked nodes n names links) (sym chain) rest
linked_along nodes (e ∷ es) connects from to chain names links rest =
    let here = connects e (inl refl) in (
      subst (λ n. Connects nodes e.tree n e.minus) chain.0 here.0,
      (here.1, linked_along nodes es (λ x a. connects x (inr a)) e.plus to chain.1 names links rest),
    )

linked_back : (nodes : List Node) (es : List Entry)
    → ((e : Entry) → IsAmong e es → Connects nodes e.tree e.parent e.minus × Connects nodes e.matched e.minus e.plus) → (top b a : ℕ)
    → (closing : Link) → IsChain top es b → Connects nodes closing a b → (names : List ℕ) (links : List Link) → AreLinked nodes top names links
    → AreLinked nodes a (nodes_back es ++ top ∷ names) (closing ∷ (links_back es ++ links))
linked_back nodes [] connects top b a closing chain closes names links rest =
    (subst (Connects nodes closing a) (sym chain) closes, rest)
linked_back nodes (e ∷ es) connects top b a closing chain closes names links rest =
    let here = connects e (inl refl) in
    subst (λ l. AreLinked nodes a l (closing ∷ ((links_back es ++ e.matched ∷ e.tree ∷ []) ++ links)))
    (sym (append_assoc (nodes_back es) (e.plus ∷ e.minus ∷ []) (top ∷ names)))
    (subst (λ l. AreLinked nodes a (nodes_back es ++ e.plus ∷ e.minus ∷ top ∷ names) (closing ∷ l))
    (sym (append_assoc (links_back es) (e.matched ∷ e.tree ∷ []) links))
    (linked_back nodes es (λ x a. connects x (inr a)) e.plus b a closing chain.1 closes (e.minus ∷ top ∷ names) (e.matched ∷ e.tree ∷ links) (
      connects_sym nodes e.matched e.minus e.plus here.1,
      (connects_sym nodes e.tree top e.minus (subst (λ n. Connects nodes e.tree n e.minus) chain.0 here.0), rest),
    )))

pub names_at : (nodes : List Node) (names : List ℕ) → names_of (map (child_at nodes) names) ≡ names
names_at nodes [] = refl
names_at nodes (n ∷ ns) = ap (λ l. n ∷ l) (names_at nodes ns)

module _ (p : Problem) (nodes : List Node) (tree : List Entry) (rest : List Link) (unmatched : List ℕ) (root r a b : ℕ) (shared up down : List Entry)
    (state : IsSearch p nodes tree rest unmatched root r) (plus_a : is_in (plus_names root tree) a ≡ true) (plus_b : is_in (plus_names root tree) b ≡ true)
    (paths : ArePaths tree a b shared up down) where
  both_among : (g : Entry) → IsAmong g (up ++ down) → IsAmong g tree
  both_among g h = by (among_either up down g h)
    where
      by : IsAmong g up ⊎ IsAmong g down → IsAmong g tree
      by (inl h) = path_among tree a g (end_among tree a shared up paths.first g h)
      by (inr h) = path_among tree b g (end_among tree b shared down paths.second g h)

  top_plus : is_in (plus_names root tree) (last_plus root shared) ≡ true
  top_plus =
      last_is_plus root tree shared (λ g h. path_among tree a g (subst (IsAmong g) (sym paths.first) (among_left shared up g h))) root
      (root_plus root tree)

  up_chain : IsChain (last_plus root shared) up a
  up_chain = chain_rest root a shared up (subst (λ l. IsChain root l a) paths.first (path_chain nodes root tree state.joined a plus_a))

  down_chain : IsChain (last_plus root shared) down b
  down_chain = chain_rest root b shared down (subst (λ l. IsChain root l b) paths.second (path_chain nodes root tree state.joined b plus_b))

  connects : (e : Entry) → IsAmong e tree → Connects nodes e.tree e.parent e.minus × Connects nodes e.matched e.minus e.plus
  connects = tree_connects nodes root tree state.joined

  pub linked : (closing : Link) → Connects nodes closing a b
      → AreLinked nodes (last_plus root shared) (cycle_nodes up down ++ last_plus root shared ∷ []) (cycle_links up closing down)
  linked closing closes =
      subst (λ l. AreLinked nodes (last_plus root shared) l (cycle_links up closing down))
      (sym (append_assoc (nodes_along up) (nodes_back down) (last_plus root shared ∷ [])))
      (linked_along nodes up (λ e h. connects e (both_among e (among_left up down e h))) (last_plus root shared) a up_chain
      (nodes_back down ++ last_plus root shared ∷ []) (closing ∷ links_back down)
      (subst (λ l. AreLinked nodes a (nodes_back down ++ last_plus root shared ∷ []) (closing ∷ l)) (append-nil (links_back down))
      (linked_back nodes down (λ e h. connects e (both_among e (among_right up down e h))) (last_plus root shared) b a closing down_chain closes [] [] tt)))

  -- a node of the cycle is the top or in a branch
  in_cycle : (n : ℕ) → is_in (last_plus root shared ∷ cycle_nodes up down) n ≡ true
      → (last_plus root shared ≡ n) ⊎ ((g : Entry) × IsAmong g (up ++ down) × ((g.minus ≡ n) ⊎ (g.plus ≡ n)))
  in_cycle n within = by (is_in-cases (last_plus root shared) (cycle_nodes up down) n within)
    where
      Found : Type 0
      Found = (g : Entry) × IsAmong g (up ++ down) × ((g.minus ≡ n) ⊎ (g.plus ≡ n))

      left : (g : Entry) × IsAmong g up × ((g.minus ≡ n) ⊎ (g.plus ≡ n)) → Found
      left (g, h, is) = (g, among_left up down g h, is)

      right : (g : Entry) × IsAmong g down × ((g.minus ≡ n) ⊎ (g.plus ≡ n)) → Found
      right (g, h, is) = (g, among_right up down g h, is)

      of_both : (is_in (nodes_along up) n ≡ true) ⊎ (is_in (nodes_back down) n ≡ true) → Found
      of_both (inl h) = left (along_among up n h)
      of_both (inr h) = right (along_among down n (sym (same_back down n) ∙ h))

      by : (last_plus root shared ≡ n) ⊎ (is_in (cycle_nodes up down) n ≡ true) → (last_plus root shared ≡ n) ⊎ Found
      by (inl same) = inl same
      by (inr h) = inr (of_both (is_in-both (nodes_along up) (nodes_back down) n h))

  -- nodes of both paths are in the cycle
  from_up : (n : ℕ) → is_in (last_plus root shared ∷ nodes_along up) n ≡ true → is_in (last_plus root shared ∷ cycle_nodes up down) n ≡ true
  from_up n within = is_in-left (last_plus root shared ∷ nodes_along up) (nodes_back down) n within

  from_down : (n : ℕ) → is_in (last_plus root shared ∷ nodes_along down) n ≡ true → is_in (last_plus root shared ∷ cycle_nodes up down) n ≡ true
  from_down n within = by (is_in-cases (last_plus root shared) (nodes_along down) n within)
    where
      by : (last_plus root shared ≡ n) ⊎ (is_in (nodes_along down) n ≡ true) → is_in (last_plus root shared ∷ cycle_nodes up down) n ≡ true
      by (inl same) =
          subst (λ m. is_in (last_plus root shared ∷ cycle_nodes up down) m ≡ true) same (is_in-head (last_plus root shared) (cycle_nodes up down))
      by (inr h) =
          is_in-tail (last_plus root shared) (cycle_nodes up down) n (is_in-right (nodes_along up) (nodes_back down) n (same_back down n ∙ h))

  abbrev AllIn : Entry → Type 0
  AllIn g =
      (is_in (last_plus root shared ∷ cycle_nodes up down) g.parent ≡ true)
      × (is_in (last_plus root shared ∷ cycle_nodes up down) g.minus ≡ true)
      × (is_in (last_plus root shared ∷ cycle_nodes up down) g.plus ≡ true)

  branch_in : (g : Entry) → IsAmong g (up ++ down) → AllIn g
  branch_in g h = by (among_either up down g h)
    where
      by : IsAmong g up ⊎ IsAmong g down → AllIn g
      by (inl k) = (
        from_up g.parent (chain_parent (last_plus root shared) a up up_chain g k),
        from_up g.minus (is_in-tail (last_plus root shared) (nodes_along up) g.minus (along_minus up g k)),
        from_up g.plus (is_in-tail (last_plus root shared) (nodes_along up) g.plus (along_plus up g k)),
      )
      by (inr k) = (
        from_down g.parent (chain_parent (last_plus root shared) b down down_chain g k),
        from_down g.minus (is_in-tail (last_plus root shared) (nodes_along down) g.minus (along_minus down g k)),
        from_down g.plus (is_in-tail (last_plus root shared) (nodes_along down) g.plus (along_plus down g k)),
      )

  -- the top is no minus node
  top_not_minus : (e : Entry) → IsAmong e tree → last_plus root shared ≡ e.minus → ⊥
  top_not_minus e h same =
      both_ways (is_in (minus_names tree) e.minus)
      (exclusive_names root tree state.names e.minus (ap (is_in (plus_names root tree)) (sym same) ∙ top_plus)) (among_minus tree e h)

  -- a branch whose minus node is in the cycle is one of the two paths
  of_cycle : (e : Entry) → IsAmong e tree → is_in (last_plus root shared ∷ cycle_nodes up down) e.minus ≡ true → IsAmong e (up ++ down)
  of_cycle e h within = by (in_cycle e.minus within)
    where
      by : (last_plus root shared ≡ e.minus) ⊎ ((g : Entry) × IsAmong g (up ++ down) × ((g.minus ≡ e.minus) ⊎ (g.plus ≡ e.minus)))
          → IsAmong e (up ++ down)
      by (inl same) = absurd (top_not_minus e h same)
      by (inr (g, k, is)) =
          subst (λ x. IsAmong x (up ++ down)) (same_branch root tree state.names g e (both_among g k) h e.minus is (inl refl)) k

  branches : AreBranches (is_in (last_plus root shared ∷ cycle_nodes up down)) (last_plus root shared) root tree
  branches = record {
    inner = among_All
        (λ e.
        is_in (last_plus root shared ∷ cycle_nodes up down) e.minus ≡ true
        → (is_in (last_plus root shared ∷ cycle_nodes up down) e.parent ≡ true) × (is_in (last_plus root shared ∷ cycle_nodes up down) e.plus ≡ true))
        tree
        (λ e h within. let all = branch_in e (of_cycle e h within) in (all.0, all.2));
    outer = among_All
        (λ e.
        is_in (last_plus root shared ∷ cycle_nodes up down) e.minus ≡ false → is_in (last_plus root shared ∷ cycle_nodes up down) e.plus ≡ true
        → e.plus ≡ last_plus root shared)
        tree
        (λ e h out within. outer e h out (in_cycle e.plus within));
    roots = λ within. roots (in_cycle root within);
  }
    where
      outer : (e : Entry) → IsAmong e tree → is_in (last_plus root shared ∷ cycle_nodes up down) e.minus ≡ false
          → (last_plus root shared ≡ e.plus) ⊎ ((g : Entry) × IsAmong g (up ++ down) × ((g.minus ≡ e.plus) ⊎ (g.plus ≡ e.plus)))
          → e.plus ≡ last_plus root shared
      outer e h out (inl same) = sym same
      outer e h out (inr (g, k, is)) =
          let same : g ≡ e = same_branch root tree state.names g e (both_among g k) h e.plus is (inr refl) in
          absurd
          (both_ways (is_in (last_plus root shared ∷ cycle_nodes up down) e.minus) out
          (branch_in e (subst (λ x. IsAmong x (up ++ down)) same k)).1)

      root_free : (g : Entry) → IsAmong g tree → (g.minus ≡ root) ⊎ (g.plus ≡ root) → ⊥
      root_free g h is =
          both_ways (is_in (root ∷ []) root)
          (distinct_across (nodes_along tree) (root ∷ []) root (subst AreDistinct (names_along root tree) state.names) (within is)) (is_in-head root [])
        where
          within : (g.minus ≡ root) ⊎ (g.plus ≡ root) → is_in (nodes_along tree) root ≡ true
          within (inl same) = subst (λ m. is_in (nodes_along tree) m ≡ true) same (along_minus tree g h)
          within (inr same) = subst (λ m. is_in (nodes_along tree) m ≡ true) same (along_plus tree g h)

      roots : (last_plus root shared ≡ root) ⊎ ((g : Entry) × IsAmong g (up ++ down) × ((g.minus ≡ root) ⊎ (g.plus ≡ root)))
          → root ≡ last_plus root shared
      roots (inl same) = sym same
      roots (inr (g, k, is)) = absurd (root_free g (both_among g k) is)

  -- the branches that are taken in are those of both paths
  inner_count : length (inner_branches (is_in (last_plus root shared ∷ cycle_nodes up down)) tree) ≡ length (up ++ down)
  inner_count =
      sym (length-map (inner_branches joined tree) (λ e. e.minus))
      ∙ (ap length (inner_minus joined tree) ∙ (equal ∙ length-map (up ++ down) (λ e. e.minus)))
    where
      joined : ℕ → Bool
      joined = is_in (last_plus root shared ∷ cycle_nodes up down)

      tree_distinct : AreDistinct (minus_names tree)
      tree_distinct = distinct_minus tree (distinct_left (nodes_along tree) (root ∷ []) (subst AreDistinct (names_along root tree) state.names))

      both_distinct : AreDistinct (minus_names (up ++ down))
      both_distinct =
          distinct_minus (up ++ down)
          (subst AreDistinct (sym (along_append up down))
          (distinct_append (nodes_along up) (nodes_along down) (distinct_right (root ∷ nodes_along shared) (nodes_along up) (ends_distinct root tree state.names a shared up paths.first))
          (distinct_right (root ∷ nodes_along shared) (nodes_along down) (ends_distinct root tree state.names b shared down paths.second))
          (ends_apart root tree state.names a b shared up down paths)))

      there : (n : ℕ) → is_in (filter joined (minus_names tree)) n ≡ true → is_in (minus_names (up ++ down)) n ≡ true
      there n within =
          let parts = and_parts (is_in (minus_names tree) n) (joined n) (sym (is_in-filter joined (minus_names tree) n) ∙ within) in
          by parts.1 (minus_among tree n parts.0)
        where
          by : joined n ≡ true → (e : Entry) × IsAmong e tree × (e.minus ≡ n) → is_in (minus_names (up ++ down)) n ≡ true
          by is (e, h, same) =
              subst (λ m. is_in (minus_names (up ++ down)) m ≡ true) same
              (among_minus (up ++ down) e (of_cycle e h (ap joined same ∙ is)))

      back : (n : ℕ) → is_in (minus_names (up ++ down)) n ≡ true → is_in (filter joined (minus_names tree)) n ≡ true
      back n within = by (minus_among (up ++ down) n within)
        where
          by : (e : Entry) × IsAmong e (up ++ down) × (e.minus ≡ n) → is_in (filter joined (minus_names tree)) n ≡ true
          by (e, h, same) =
              subst (λ m. is_in (filter joined (minus_names tree)) m ≡ true) same
              (is_in-filter joined (minus_names tree) e.minus
              ∙ and_from (is_in (minus_names tree) e.minus) (joined e.minus) (among_minus tree e (both_among e h)) (branch_in e h).1)

      equal : length (filter joined (minus_names tree)) ≡ length (minus_names (up ++ down))
      equal =
          omega (
            arith,
            length-le_from_within (filter joined (minus_names tree)) (minus_names (up ++ down))
                (distinct-filter joined (minus_names tree) tree_distinct) both_distinct there,
            length-le_from_within (minus_names (up ++ down)) (filter joined (minus_names tree)) both_distinct
                (distinct-filter joined (minus_names tree) tree_distinct) back,
          )

  in_tree : (n : ℕ) → is_in (last_plus root shared ∷ cycle_nodes up down) n ≡ true → is_in (tree_names root tree) n ≡ true
  in_tree n within = by (in_cycle n within)
    where
      by : (last_plus root shared ≡ n) ⊎ ((g : Entry) × IsAmong g (up ++ down) × ((g.minus ≡ n) ⊎ (g.plus ≡ n))) → is_in (tree_names root tree) n ≡ true
      by (inl same) = plus_in_tree root tree n (ap (is_in (plus_names root tree)) (sym same) ∙ top_plus)
      by (inr (g, h, inl same)) =
          minus_in_tree root tree n (ap (is_in (minus_names tree)) (sym same) ∙ among_minus tree g (both_among g h))
      by (inr (g, h, inr same)) =
          plus_in_tree root tree n (ap (is_in (plus_names root tree)) (sym same) ∙ among_plus root tree g (both_among g h))

  pub joining : (name : ℕ)
      → is_outer (nodes ++ blossom_of name (child_at nodes (last_plus root shared) ∷ map (child_at nodes) (cycle_nodes up down)) ∷ []) name ≡ true
      → IsJoining nodes tree root name (child_at nodes (last_plus root shared)) (map (child_at nodes) (cycle_nodes up down))
  joining name fresh = record {
    nodes_are = each (λ c. IsSetOf nodes c.name c.set) (λ n within. named_set p nodes tree rest unmatched root r state n (in_tree n within));
    distinct = subst AreDistinct (sym named) (distinct_cycle root tree state.names a b shared up down paths);
    in_tree = each (λ c. is_in (tree_names root tree) c.name ≡ true) in_tree;
    plus = top_plus;
    branches = subst (λ l. AreBranches (is_in l) (last_plus root shared) root tree) (sym named) branches;
    even =
        length-map (cycle_nodes up down) (child_at nodes)
        ∙ (length_cycle up down ∙ (ap (λ n. 2 * n) (sym (length-append up down) ∙ sym inner_count) ∙ ap (λ l. 2 * length (inner_branches (is_in l) tree)) (sym named)));
    fresh = fresh;
  }
    where
      named : names_of (map (child_at nodes) (last_plus root shared ∷ cycle_nodes up down)) ≡ last_plus root shared ∷ cycle_nodes up down
      named = names_at nodes (last_plus root shared ∷ cycle_nodes up down)

      each : (P : Child → Type 0) → ((n : ℕ) → is_in (last_plus root shared ∷ cycle_nodes up down) n ≡ true → P (child_at nodes n))
          → All P (map (child_at nodes) (last_plus root shared ∷ cycle_nodes up down))
      each P h =
          All-map P (child_at nodes) (last_plus root shared ∷ cycle_nodes up down)
          (All-from_is_in (λ n. P (child_at nodes n)) (last_plus root shared ∷ cycle_nodes up down) h)

  -- two different plus nodes don't both lie where the paths part
  pub some_branch : (a ≡ b → ⊥) → 1 ≤ length up + length down
  some_branch other = by up down up_chain down_chain
    where
      by : (xs ys : List Entry) → IsChain (last_plus root shared) xs a → IsChain (last_plus root shared) ys b → 1 ≤ length xs + length ys
      by [] [] first second = absurd (other (sym first ∙ second))
      by [] (y ∷ ys) first second = omega arith
      by (x ∷ xs) ys first second = omega arith

  pub some_minus : (a ≡ b → ⊥)
      → (minus : ℕ) × (is_in (minus_names tree) minus ≡ true) × (is_in (last_plus root shared ∷ cycle_nodes up down) minus ≡ true)
  some_minus other = by (up ++ down) (ap length refl) (λ g h. (both_among g h, (branch_in g h).1))
    where
      by : (es : List Entry) → length es ≡ length (up ++ down)
          → ((g : Entry) → IsAmong g es → IsAmong g tree × (is_in (last_plus root shared ∷ cycle_nodes up down) g.minus ≡ true))
          → (minus : ℕ) × (is_in (minus_names tree) minus ≡ true) × (is_in (last_plus root shared ∷ cycle_nodes up down) minus ≡ true)
      by [] same each = absurd (omega (arith, some_branch other, same, length-append up down))
      by (g ∷ gs) same each = let both = each g (inl refl) in (g.minus, among_minus tree g both.0, both.1)

pub cycle_joining : CycleJoining
cycle_joining p nodes tree rest unmatched root r name a b shared up down state plus_a plus_b paths fresh =
    joining p nodes tree rest unmatched root r a b shared up down state plus_a plus_b paths name fresh

pub cycle_linked : CycleLinked
cycle_linked p nodes tree rest unmatched root r a b shared up down closing state plus_a plus_b paths closes =
    linked p nodes tree rest unmatched root r a b shared up down state plus_a plus_b paths closing closes

pub cycle_many : CycleMany
cycle_many p nodes tree rest unmatched root r a b shared up down state plus_a plus_b paths other =
    let sized = length_cycle up down in
    let some = some_branch p nodes tree rest unmatched root r a b shared up down state plus_a plus_b paths other in
    record {
      three = omega (arith, sized, some);
      odd = omega (arith, sized);
      distinct = distinct_cycle root tree state.names a b shared up down paths;
    }

pub cycle_minus : CycleMinus
cycle_minus p nodes tree rest unmatched root r a b shared up down state plus_a plus_b paths other =
    let (minus, is, within) = some_minus p nodes tree rest unmatched root r a b shared up down state plus_a plus_b paths other in
    (minus, is, ap (λ l. is_in l minus) (names_at nodes (last_plus root shared ∷ cycle_nodes up down)) ∙ within)
