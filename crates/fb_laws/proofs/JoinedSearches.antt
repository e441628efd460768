-- A blossom in the tree of a search.
use Rattle.std.proofs.Common.{ℕ, ◌≡◌, ◌*◌, ◌%◌, ◌<◌, ◌==◌, ◌⊎◌, inl, inr, not, Bool, true, false, cond, List, [], ◌∷◌, ◌++◌, map, length, All, Option, Some, None, IsSome, get_or, refl, sym, ap, ◌∙◌, subst, arith}
use Rattle.std.specs.List.{concat}
use Rattle.std.specs.List.Sorted.{IsPermutation}
use Rattle.std.proofs.lemmas.Bool.{both_ways, false≢true, cases_Bool, not-true, not_from_false, not_from_true, false_from_ne_true, or_from, or_left, or_right, and_parts, and_from, eq-eqb, ne_eqb, cases_eq}
use Rattle.std.proofs.lemmas.List.{append_assoc, map-append, append-nil, length-map, get_or_append_left, length-append}
use Rattle.std.proofs.lemmas.List.Elements.{All-nil, All-cons, All-head, All-tail}
use Rattle.std.proofs.lemmas.List.Folds.{list_any-append}
use Rattle.std.proofs.lemmas.List.Sums.{sum_by-append, sum_by-cons}
use Rattle.std.proofs.lemmas.List.Sorted.{IsPermutation-map, IsPermutation-append_left, IsPermutation-trans, IsPermutation-append_comm, IsPermutation-filter_both}
use Rattle.std.proofs.Math.Seq.{get_or-append_seam}
use Rattle.fb_graph.specs.Parity.{is_in}
use Rattle.fb_graph.specs.Problem.{Problem, crosses}
use Rattle.fb_graph.specs.Certificate.{AreDistinct}
use Rattle.fb_graph.specs.Covers.{HaveParity}
use Rattle.fb_graph.specs.Laws.{Link, ends_of}
use Rattle.fb_graph.specs.Dual.{Node, IsDual, AreApart, all_cuts, leaves, cover_of, height_of, is_outer, node_at, no_node, top_at}
use Rattle.fb_graph.specs.declared.parts.Cut.{Cut}
use Rattle.fb_graph.proofs.CutSums.{weigh, cond_zero}
use Rattle.fb_graph.proofs.Members.{is_in-append}
use Rattle.fb_graph.proofs.Sets.{is_in-cases, is_in-head, is_in-tail, is_in-filter}
use Rattle.fb_graph.specs.Counts.{as_count}
use Rattle.fb_graph.specs.Ends.{AreAllApart}
use Rattle.fb_laws.specs.Forming.{Child, sets_of, names_of, blossom_of, IsCycle}
use Rattle.fb_laws.specs.Opening.{EndAtDefects}
use Rattle.fb_laws.specs.Works.{AreMatchedLinks, IsMatching, IsSetOf, names_without}
use Rattle.fb_laws.specs.Trees.{Entry, Connects, grown_links, paired_links, tree_names}
use Rattle.fb_laws.specs.Searches.{IsSearch}
use Rattle.fb_laws.specs.SearchBlossoms.{IsJoining, renamed_name, inner_branches, outer_branches, joined_tree, SearchJoined}
use Rattle.fb_graph.proofs.Crossings.{cover_found, cover_holds, name_in}
use Rattle.fb_laws.proofs.FormedNodes.{matching_formed}
use Rattle.fb_laws.proofs.HalvesKept.{matching_permuted}
use Rattle.fb_laws.proofs.JoinedTrees.{names_kept, distinct_kept, tree_kept, inner_inside, grown_joined, paired_joined, new_in, new_out}
use Rattle.fb_laws.proofs.MatchedNodes.{set_relation}
use Rattle.fb_laws.proofs.MergedParts.{distinct_across}
use Rattle.fb_graph.proofs.AppendedNodes.{cuts_merged, leaves_merged, names_merged}
use Rattle.fb_laws.proofs.SearchEnds.{links_part}
use Rattle.fb_laws.proofs.SearchStates.{named_set, unmatched_outside}
use Rattle.fb_laws.proofs.SearchTrees.{cover_place, cover_set}

-- the child of a name
child_named : (nodes : List Node) (children : List Child) (n : ℕ) → All (λ c. IsSetOf nodes c.name c.set) children
    → is_in (names_of children) n ≡ true
    → (set : List ℕ) × IsSetOf nodes n set × ((v : ℕ) → is_in set v ≡ true → is_in (concat (sets_of children)) v ≡ true)
child_named nodes [] n are among = absurd (false≢true among)
child_named nodes (c ∷ cs) n are among =
    step (is_in-cases c.name (names_of cs) n among) (child_named nodes cs n (All-tail (λ x. IsSetOf nodes x.name x.set) c cs are))
  where
    Goal : Type 0
    Goal = (set : List ℕ) × IsSetOf nodes n set × ((v : ℕ) → is_in set v ≡ true → is_in (concat (sets_of (c ∷ cs))) v ≡ true)

    step : (c.name ≡ n) ⊎ (is_in (names_of cs) n ≡ true)
        → (is_in (names_of cs) n ≡ true
        → (set : List ℕ) × IsSetOf nodes n set × ((v : ℕ) → is_in set v ≡ true → is_in (concat (sets_of cs)) v ≡ true))
        → Goal
    step (inl same) rest = (
      c.set,
      subst (λ m. IsSetOf nodes m c.set) same (All-head (λ x. IsSetOf nodes x.name x.set) c cs are),
      λ v within. is_in-append c.set (concat (sets_of cs)) v ∙ or_left (is_in c.set v) (is_in (concat (sets_of cs)) v) within,
    )
    step (inr there) rest =
        let (set, is, within) = rest there in
        (set, is, λ v holding. is_in-append c.set (concat (sets_of cs)) v ∙ or_right (is_in c.set v) (is_in (concat (sets_of cs)) v) (within v holding))

-- children of different names lie apart
children_apart : (p : Problem) (nodes : List Node) (children : List Child) → IsDual p nodes → All (λ c. IsSetOf nodes c.name c.set) children
    → AreDistinct (names_of children) → AreAllApart (sets_of children)
children_apart p nodes [] dual are distinct = tt
children_apart p nodes (c ∷ cs) dual are (new, distinct) = (
  from_all cs (All-tail (λ x. IsSetOf nodes x.name x.set) c cs are) new,
  children_apart p nodes cs dual (All-tail (λ x. IsSetOf nodes x.name x.set) c cs are) distinct,
)
  where
    one : (d : Child) → IsSetOf nodes d.name d.set → (d.name ≡ c.name → ⊥) → IsSetOf nodes c.name c.set → AreApart c.set d.set
    one d is other (i, less, outer, named, same) =
        subst (λ s. AreApart s d.set) same
        (step (set_relation p nodes d.name d.set i dual less (ap (is_outer nodes) named ∙ outer) is))
      where
        step : ((node_at nodes i).name ≡ d.name) × ((node_at nodes i).top.vertices ≡ d.set)
            ⊎ ((node_at nodes i).name ≡ d.name → ⊥) × AreApart (node_at nodes i).top.vertices d.set
            → AreApart (node_at nodes i).top.vertices d.set
        step (inl (e, alike)) = absurd (other (sym e ∙ named))
        step (inr (differs, apart)) = apart

    from_all : (ds : List Child) → All (λ x. IsSetOf nodes x.name x.set) ds → is_in (names_of ds) c.name ≡ false → All (AreApart c.set) (sets_of ds)
    from_all [] all missing = All-nil (AreApart c.set)
    from_all (d ∷ ds) all missing =
        All-cons (AreApart c.set) d.set (sets_of ds)
        (one d (All-head (λ x. IsSetOf nodes x.name x.set) d ds all)
        (λ same. both_ways (is_in (names_of (d ∷ ds)) c.name) missing (subst (λ n. is_in (names_of (d ∷ ds)) n ≡ true) same (is_in-head d.name (names_of ds))))
        (All-head (λ x. IsSetOf nodes x.name x.set) c cs are))
        (from_all ds (All-tail (λ x. IsSetOf nodes x.name x.set) d ds all)
        (false_from_ne_true (is_in (names_of ds) c.name)
        (λ there. both_ways (is_in (names_of (d ∷ ds)) c.name) missing (is_in-tail d.name (names_of ds) c.name there))))

named_all : (P : ℕ → Type 0) (children : List Child) (n : ℕ) → All (λ c. P c.name) children → is_in (names_of children) n ≡ true → P n
named_all P [] n all among = absurd (false≢true among)
named_all P (c ∷ cs) n all among = step (is_in-cases c.name (names_of cs) n among) (named_all P cs n (All-tail (λ (x : Child). P x.name) c cs all))
  where
    step : (c.name ≡ n) ⊎ (is_in (names_of cs) n ≡ true) → (is_in (names_of cs) n ≡ true → P n) → P n
    step (inl same) rest = subst P same (All-head (λ (x : Child). P x.name) c cs all)
    step (inr there) rest = rest there

all_named : (P : ℕ → Type 0) (children : List Child) → ((n : ℕ) → is_in (names_of children) n ≡ true → P n) → All (λ c. P c.name) children
all_named P [] each = All-nil (λ (x : Child). P x.name)
all_named P (c ∷ cs) each =
    All-cons (λ (x : Child). P x.name) c cs (each c.name (is_in-head c.name (names_of cs)))
    (all_named P cs (λ n among. each n (is_in-tail c.name (names_of cs) n among)))

module _ (p : Problem) (nodes : List Node) (name : ℕ) (base : Child) (others : List Child) (are : All (λ c. IsSetOf nodes c.name c.set) (base ∷ others)) (old : IsDual p nodes) (dual : IsDual p (nodes ++ blossom_of name (base ∷ others) ∷ [])) (fresh : is_outer (nodes ++ blossom_of name (base ∷ others) ∷ []) name ≡ true) where
  joined : ℕ → Bool
  joined = is_in (names_of (base ∷ others))

  -- an outer node that is not joined stays outer
  outer_formed : (n : ℕ) → is_outer nodes n ≡ true → is_in (names_of (base ∷ others)) n ≡ false
      → is_outer (nodes ++ blossom_of name (base ∷ others) ∷ []) n ≡ true
  outer_formed n outer out =
      not_from_false _
      (list_any-append (λ (m : Node). is_in m.children n) nodes (blossom_of name (base ∷ others) ∷ [])
      ∙ or_from _ _ (not-true _ outer) (or_from _ _ out refl))

  held_in_union : (v n : ℕ) → cover_of nodes v ≡ Some n → is_in (names_of (base ∷ others)) n ≡ true
      → is_in (concat (sets_of (base ∷ others))) v ≡ true
  held_in_union v n cover among =
      let (set, (j, below, outer, named, same), within) = child_named nodes (base ∷ others) n are among in
      within v (ap (λ s. is_in s v) (sym same) ∙ cover_holds nodes v n old.names cover j below named)

  -- the node over a vertex is the one that it was, or the blossom
  pub cover_formed : (v n : ℕ) → cover_of nodes v ≡ Some n
      → cover_of (nodes ++ blossom_of name (base ∷ others) ∷ []) v ≡ Some (renamed_name (is_in (names_of (base ∷ others))) name n)
  cover_formed v n cover = step (cases_Bool (is_in (names_of (base ∷ others)) n)) (cover_place nodes v n cover)
    where
      step : (is_in (names_of (base ∷ others)) n ≡ true) ⊎ (is_in (names_of (base ∷ others)) n ≡ false)
          → (i : ℕ) × (i < length nodes) × ((node_at nodes i).name ≡ n) × (is_outer nodes n ≡ true) × (is_in (node_at nodes i).top.vertices v ≡ true)
          → cover_of (nodes ++ blossom_of name (base ∷ others) ∷ []) v ≡ Some (renamed_name (is_in (names_of (base ∷ others))) name n)
      step (inl among) place =
          let seam = get_or-append_seam nodes (blossom_of name (base ∷ others)) [] no_node in
          cover_found (nodes ++ blossom_of name (base ∷ others) ∷ []) v dual.apart (length nodes) no_node
          (omega (arith, length-append nodes (blossom_of name (base ∷ others) ∷ [])))
          (ap (λ m. is_outer (nodes ++ blossom_of name (base ∷ others) ∷ []) m.name) seam ∙ fresh)
          (ap (λ m. is_in m.top.vertices v) seam ∙ held_in_union v n cover among)
          ∙ (ap (λ m. Some m.name) seam ∙ ap Some (sym (ap (λ b. cond b name n) among)))
      step (inr out) (i, less, named, outer, within) =
          let same = get_or_append_left nodes (blossom_of name (base ∷ others) ∷ []) no_node i less in
          cover_found (nodes ++ blossom_of name (base ∷ others) ∷ []) v dual.apart i no_node
          (omega (arith, less, length-append nodes (blossom_of name (base ∷ others) ∷ [])))
          (ap (λ m. is_outer (nodes ++ blossom_of name (base ∷ others) ∷ []) m.name) same
          ∙ (ap (is_outer (nodes ++ blossom_of name (base ∷ others) ∷ [])) named ∙ outer_formed n outer out))
          (ap (λ m. is_in m.top.vertices v) same ∙ within)
          ∙ (ap (λ m. Some m.name) same ∙ (ap Some named ∙ ap Some (sym (ap (λ b. cond b name n) out))))

  pub leaves_formed : leaves (nodes ++ blossom_of name (base ∷ others) ∷ []) ≡ leaves nodes
  leaves_formed = leaves_merged nodes (blossom_of name (base ∷ others) ∷ []) ∙ append-nil (leaves nodes)

  pub sums_formed : (test : List ℕ → Bool) → weigh test (all_cuts (nodes ++ blossom_of name (base ∷ others) ∷ [])) ≡ weigh test (all_cuts nodes)
  sums_formed test =
      ap (weigh test) (cuts_merged nodes (blossom_of name (base ∷ others) ∷ []))
      ∙ omega (
        arith,
        sum_by-append (λ (c : Cut). cond (test c.vertices) c.value 0) (all_cuts nodes) (all_cuts (blossom_of name (base ∷ others) ∷ [])),
        sum_by-cons (λ (c : Cut). cond (test c.vertices) c.value 0) (blossom_of name (base ∷ others)).top [],
        cond_zero (test (concat (sets_of (base ∷ others)))),
      )

  pub links_formed : (links : List Link) → AreMatchedLinks p nodes links → AreMatchedLinks p (nodes ++ blossom_of name (base ∷ others) ∷ []) links
  links_formed links tight = record {
    tight = λ i d less. record {
      walk = (tight.tight i d less).walk;
      tight = (tight.tight i d less).tight ∙ sym (sums_formed (λ s. crosses s (ends_of (get_or links i d))));
    };
    own = tight.own;
    at_defects = subst (λ l. EndAtDefects p l links) (sym leaves_formed) tight.at_defects;
  }

  connects_formed : (l : Link) (a b : ℕ) → Connects nodes l a b
      → Connects (nodes ++ blossom_of name (base ∷ others) ∷ []) l (renamed_name (is_in (names_of (base ∷ others))) name a) (renamed_name (is_in (names_of (base ∷ others))) name b)
  connects_formed l a b (inl (from, to)) = inl (cover_formed l.from a from, cover_formed l.to b to)
  connects_formed l a b (inr (to, from)) = inr (cover_formed l.to a to, cover_formed l.from b from)

  -- a defect's node before
  pub covered_before : (d m : ℕ) → is_in (leaves nodes) d ≡ true → cover_of (nodes ++ blossom_of name (base ∷ others) ∷ []) d ≡ Some m
      → (n : ℕ) × (cover_of nodes d ≡ Some n) × (m ≡ renamed_name (is_in (names_of (base ∷ others))) name n)
  covered_before d m leaf cover = step (cover_of nodes d) refl (old.defects d leaf)
    where
      step : (o : Option ℕ) → cover_of nodes d ≡ o → IsSome (cover_of nodes d)
          → (n : ℕ) × (cover_of nodes d ≡ Some n) × (m ≡ renamed_name (is_in (names_of (base ∷ others))) name n)
      step None none some = absurd (false≢true (subst IsSome none some))
      step (Some n) is some =
          let there = cover_formed d n is in
          (n, is, (let same : m ≡ renamed_name (is_in (names_of (base ∷ others))) name n = cc in same))

  -- no node of the state has the blossom's name
  pub new_name : (n : ℕ) (set : List ℕ) → IsSetOf nodes n set → n ≡ name → ⊥
  new_name n set (i, less, outer, named, same) is =
      both_ways (is_in (map (λ m. m.name) (blossom_of name (base ∷ others) ∷ [])) n)
      (distinct_across (map (λ m. m.name) nodes) (map (λ m. m.name) (blossom_of name (base ∷ others) ∷ [])) n
      (subst AreDistinct (names_merged nodes (blossom_of name (base ∷ others) ∷ [])) dual.names)
      (ap (is_in (map (λ m. m.name) nodes)) (sym named) ∙ name_in nodes i less))
      (subst (λ x. is_in (name ∷ []) x ≡ true) (sym is) (is_in-head name []))

-- how the blossom in the tree keeps the search
module _ (p : Problem) (nodes : List Node) (tree : List Entry) (rest : List Link) (unmatched remaining : List ℕ)
    (root r name : ℕ) (base : Child) (others : List Child) (joining : IsJoining nodes tree root name base others)
    (dual : IsDual p (nodes ++ blossom_of name (base ∷ others) ∷ []))
    (named : is_in remaining name ≡ is_in unmatched base.name)
    (kept : (n : ℕ) → is_in (names_of (base ∷ others)) n ≡ false → (n ≡ name → ⊥) → is_in remaining n ≡ is_in unmatched n)
    (state : IsSearch p nodes tree rest unmatched root r) where
  abbrev within : ℕ → Bool
  within = is_in (names_of (base ∷ others))

  abbrev all : List Node
  all = nodes ++ blossom_of name (base ∷ others) ∷ []

  old : IsDual p nodes
  old = state.matching.dual

  before : (d : ℕ) → is_in (leaves (nodes ++ blossom_of name (base ∷ others) ∷ [])) d ≡ true → is_in (leaves nodes) d ≡ true
  before d leaf = ap (λ l. is_in l d) (sym (leaves_formed p nodes name base others joining.nodes_are old dual joining.fresh)) ∙ leaf

  height : (v : ℕ) → height_of (all_cuts (nodes ++ blossom_of name (base ∷ others) ∷ [])) v ≡ height_of (all_cuts nodes) v
  height v = sums_formed p nodes name base others joining.nodes_are old dual joining.fresh (λ s. is_in s v)

  split : IsPermutation tree (inner_branches (is_in (names_of (base ∷ others))) tree ++ outer_branches (is_in (names_of (base ∷ others))) tree)
  split =
      IsPermutation-filter_both (λ (e : Entry). is_in (names_of (base ∷ others)) e.minus)
      (λ (e : Entry). not (is_in (names_of (base ∷ others)) e.minus)) (λ e. refl) tree

  paired_split : IsPermutation (paired_links tree)
      (paired_links (inner_branches (is_in (names_of (base ∷ others))) tree) ++ paired_links (outer_branches (is_in (names_of (base ∷ others))) tree))
  paired_split =
      subst (IsPermutation (paired_links tree))
      (map-append (λ (e : Entry). e.matched) (inner_branches (is_in (names_of (base ∷ others))) tree) (outer_branches (is_in (names_of (base ∷ others))) tree))
      (IsPermutation-map (λ (e : Entry). e.matched) tree _ split)

  grown_split : IsPermutation (grown_links tree)
      (grown_links (outer_branches (is_in (names_of (base ∷ others))) tree) ++ grown_links (inner_branches (is_in (names_of (base ∷ others))) tree))
  grown_split =
      IsPermutation-trans _ _ _
      (subst (IsPermutation (grown_links tree))
      (map-append (λ (e : Entry). e.tree) (inner_branches (is_in (names_of (base ∷ others))) tree) (outer_branches (is_in (names_of (base ∷ others))) tree))
      (IsPermutation-map (λ (e : Entry). e.tree) tree _ split))
      (IsPermutation-append_comm (grown_links (inner_branches (is_in (names_of (base ∷ others))) tree))
      (grown_links (outer_branches (is_in (names_of (base ∷ others))) tree)))

  child_in_tree : (n : ℕ) → is_in (names_of (base ∷ others)) n ≡ true → is_in (tree_names root tree) n ≡ true
  child_in_tree n among = named_all (λ m. is_in (tree_names root tree) m ≡ true) (base ∷ others) n joining.in_tree among

  base_here : is_in (names_of (base ∷ others)) base.name ≡ true
  base_here = is_in-head base.name (names_of others)

  fresh_name : is_in (tree_names root tree) name ≡ false
  fresh_name =
      false_from_ne_true (is_in (tree_names root tree) name)
      (λ among.
      new_name p nodes name base others joining.nodes_are old dual joining.fresh name (top_at nodes name)
      (named_set p nodes tree rest unmatched root r state name among) refl)

  place_name : (d n : ℕ) → cover_of nodes d ≡ Some n → n ≡ name → ⊥
  place_name d n cover =
      new_name p nodes name base others joining.nodes_are old dual joining.fresh n (top_at nodes n) (cover_set nodes d n old.names cover).0

  -- an unmatched node of the tree is its root
  open_is_root : (n : ℕ) → is_in (tree_names root tree) n ≡ true → is_in unmatched n ≡ true → n ≡ root
  open_is_root n among open_ = step (cases_eq n root)
    where
      step : (n ≡ root) ⊎ (n ≡ root → ⊥) → n ≡ root
      step (inl same) = same
      step (inr other) =
          absurd
          (both_ways (is_in (tree_names root tree) n)
          (unmatched_outside p nodes tree rest unmatched root r state n
          (is_in-filter (λ m. not (m == root)) unmatched n
          ∙ and_from (is_in unmatched n) (not (n == root)) open_ (not_from_false (n == root) (ne_eqb n root other))))
          among)

  cycle : IsCycle nodes base others (paired_links (inner_branches (is_in (names_of (base ∷ others))) tree)) unmatched r
  cycle = record {
    nodes_are = joining.nodes_are;
    apart = children_apart p nodes (base ∷ others) old joining.nodes_are joining.distinct;
    inside =
        inner_inside within name base.name root nodes (concat (sets_of (base ∷ others)))
        (held_in_union p nodes name base others joining.nodes_are old dual joining.fresh) tree state.joined joining.branches;
    even = joining.even ∙ ap (λ m. 2 * m) (sym (length-map (inner_branches (is_in (names_of (base ∷ others))) tree) (λ (e : Entry). e.matched)));
    matched =
        all_named (λ n. is_in unmatched n ≡ false) others
        (λ n among.
        false_from_ne_true (is_in unmatched n)
        (λ open_.
        let here : is_in (names_of (base ∷ others)) n ≡ true = is_in-tail base.name (names_of others) n among in
        let is : n ≡ root = open_is_root n (child_in_tree n here) open_ in
        let same : n ≡ base.name = is ∙ joining.branches.roots (ap within (sym is) ∙ here) in
        both_ways (is_in (names_of others) base.name) joining.distinct.0 (ap (is_in (names_of others)) (sym same) ∙ among)));
    parity = λ d n leaf cover among. state.parity d n leaf cover (child_in_tree n among);
  }

  open_ : (is_in (names_of (base ∷ others)) root ≡ true) ⊎ (is_in (names_of (base ∷ others)) root ≡ false)
      → is_in remaining (renamed_name (is_in (names_of (base ∷ others))) name root) ≡ true
  open_ (inl h) =
      ap (is_in remaining) (new_in within name base.name root root h)
      ∙ (named ∙ (ap (is_in unmatched) (sym (joining.branches.roots h)) ∙ state.open_root))
  open_ (inr h) =
      ap (is_in remaining) (new_out within name base.name root root h)
      ∙ (kept root h (place_name state.root_is.0 root state.root_is.2) ∙ state.open_root)

  in_tree : (n m : ℕ) → m ≡ renamed_name (is_in (names_of (base ∷ others))) name n → (n ≡ name → ⊥)
      → is_in (tree_names (renamed_name (is_in (names_of (base ∷ others))) name root) (joined_tree (is_in (names_of (base ∷ others))) name tree)) m ≡ true
      → (is_in (names_of (base ∷ others)) n ≡ true) ⊎ (is_in (names_of (base ∷ others)) n ≡ false) → is_in (tree_names root tree) n ≡ true
  in_tree n m same other among (inl h) = child_in_tree n h
  in_tree n m same other among (inr h) = step (names_kept within name base.name root tree joining.branches m among)
    where
      is : m ≡ n
      is = same ∙ new_out within name base.name root n h

      step : (is_in (tree_names root tree) m ≡ true) × (is_in (names_of (base ∷ others)) m ≡ false) ⊎ (m ≡ name) × (is_in (tree_names root tree) base.name ≡ true)
          → is_in (tree_names root tree) n ≡ true
      step (inl (there, out)) = ap (is_in (tree_names root tree)) (sym is) ∙ there
      step (inr (new, there)) = absurd (other (sym is ∙ new))

  still_open : (n m : ℕ) → m ≡ renamed_name (is_in (names_of (base ∷ others))) name n → (n ≡ name → ⊥)
      → is_in (names_without (renamed_name (is_in (names_of (base ∷ others))) name root) remaining) m ≡ true
      → (is_in (names_of (base ∷ others)) n ≡ true) ⊎ (is_in (names_of (base ∷ others)) n ≡ false) → is_in (names_without root unmatched) n ≡ true
  still_open n m same other among (inl h) = absurd (step (open_is_root base.name (child_in_tree base.name base_here) base_open))
    where
      parts : (is_in remaining m ≡ true) × (not (m == renamed_name (is_in (names_of (base ∷ others))) name root) ≡ true)
      parts =
          and_parts (is_in remaining m) (not (m == renamed_name (is_in (names_of (base ∷ others))) name root))
          (sym (is_in-filter (λ x. not (x == renamed_name (is_in (names_of (base ∷ others))) name root)) remaining m) ∙ among)

      m_is : m ≡ name
      m_is = same ∙ new_in within name base.name root n h

      base_open : is_in unmatched base.name ≡ true
      base_open = sym named ∙ (ap (is_in remaining) (sym m_is) ∙ parts.0)

      step : base.name ≡ root → ⊥
      step is =
          both_ways (not (m == renamed_name (is_in (names_of (base ∷ others))) name root))
          (not_from_true (m == renamed_name (is_in (names_of (base ∷ others))) name root)
          (eq-eqb m (renamed_name (is_in (names_of (base ∷ others))) name root)
          (m_is ∙ sym (new_in within name base.name root root (ap within (sym is) ∙ base_here)))))
          parts.1
  still_open n m same other among (inr h) =
      is_in-filter (λ x. not (x == root)) unmatched n
      ∙ and_from (is_in unmatched n) (not (n == root)) (sym (kept n h other) ∙ (ap (is_in remaining) (sym m_is) ∙ parts.0))
      (not_from_false (n == root) (ne_eqb n root not_root))
    where
      parts : (is_in remaining m ≡ true) × (not (m == renamed_name (is_in (names_of (base ∷ others))) name root) ≡ true)
      parts =
          and_parts (is_in remaining m) (not (m == renamed_name (is_in (names_of (base ∷ others))) name root))
          (sym (is_in-filter (λ x. not (x == renamed_name (is_in (names_of (base ∷ others))) name root)) remaining m) ∙ among)

      m_is : m ≡ n
      m_is = same ∙ new_out within name base.name root n h

      not_root : n ≡ root → ⊥
      not_root is =
          both_ways (not (m == renamed_name (is_in (names_of (base ∷ others))) name root))
          (not_from_true (m == renamed_name (is_in (names_of (base ∷ others))) name root)
          (eq-eqb m (renamed_name (is_in (names_of (base ∷ others))) name root)
          (m_is ∙ (is ∙ sym (new_out within name base.name root root (ap within (sym is) ∙ h))))))
          parts.1

  blossom_search : IsSearch p (nodes ++ blossom_of name (base ∷ others) ∷ [])
      (joined_tree (is_in (names_of (base ∷ others))) name tree) rest remaining
      (renamed_name (is_in (names_of (base ∷ others))) name root) r
  blossom_search = record {
    matching =
        subst (λ l. IsMatching p all (l ++ rest) remaining) (sym (paired_joined within name (outer_branches within tree)))
        (matching_formed p nodes name base others (paired_links (inner_branches within tree)) (paired_links (outer_branches within tree) ++ rest)
        unmatched remaining r cycle dual (ap as_count named) kept
        (matching_permuted p nodes (paired_links tree ++ rest)
        (paired_links (inner_branches within tree) ++ (paired_links (outer_branches within tree) ++ rest)) unmatched
        (subst (IsPermutation (paired_links tree ++ rest))
        (append_assoc (paired_links (inner_branches within tree)) (paired_links (outer_branches within tree)) rest)
        (IsPermutation-append_left rest (paired_links tree) (paired_links (inner_branches within tree) ++ paired_links (outer_branches within tree))
        paired_split))
        state.matching));
    root_is = (
      state.root_is.0,
      ap (λ l. is_in l state.root_is.0) (leaves_formed p nodes name base others joining.nodes_are old dual joining.fresh) ∙ state.root_is.1,
      cover_formed p nodes name base others joining.nodes_are old dual joining.fresh state.root_is.0 root state.root_is.2,
    );
    open_root = open_ (cases_Bool (within root));
    names = distinct_kept within name base.name root tree joining.branches state.names fresh_name;
    joined =
        tree_kept within name base.name root nodes all (connects_formed p nodes name base others joining.nodes_are old dual joining.fresh) tree
        state.joined joining.branches;
    grown =
        subst (AreMatchedLinks p all) (sym (grown_joined within name (outer_branches within tree)))
        (links_formed p nodes name base others joining.nodes_are old dual joining.fresh (grown_links (outer_branches within tree))
        (links_part p nodes (grown_links tree) (grown_links (outer_branches within tree)) (grown_links (inner_branches within tree)) grown_split state.grown));
    parity = λ d m leaf cover among.
        let there : is_in (leaves nodes) d ≡ true = before d leaf in
        let (n, covered, same) = covered_before p nodes name base others joining.nodes_are old dual joining.fresh d m there cover in
        ap (λ h. h % 2) (height d) ∙ state.parity d n there covered (in_tree n m same (place_name d n covered) among (cases_Bool (within n)));
  }

  -- the potentials of the other unmatched nodes stay
  pub even_joined : HaveParity (is_in (names_without root unmatched)) nodes 0
      → HaveParity (is_in (names_without (renamed_name (is_in (names_of (base ∷ others))) name root) remaining))
      (nodes ++ blossom_of name (base ∷ others) ∷ []) 0
  even_joined even d m leaf cover among =
      let there : is_in (leaves nodes) d ≡ true = before d leaf in
      let (n, covered, same) = covered_before p nodes name base others joining.nodes_are old dual joining.fresh d m there cover in
      ap (λ h. h % 2) (height d) ∙ even d n there covered (still_open n m same (place_name d n covered) among (cases_Bool (within n)))

pub search_joined : SearchJoined
search_joined p nodes tree rest unmatched remaining root r name base others joining dual named kept state =
    blossom_search p nodes tree rest unmatched remaining root r name base others joining dual named kept state
