-- What each step of a search leaves to do.
use Rattle.std.proofs.Common.{ℕ, ◌≡◌, ◌+◌, ◌≤◌, ◌<◌, ◌==◌, ◌&&◌, ◌||◌, ◌⊎◌, inl, inr, not, Bool, true, false, cond, List, [], ◌∷◌, ◌++◌, length, Some, get_or, count_by, All, refl, sym, ap, ◌∙◌, arith}
use Rattle.std.proofs.Math.Bool.{and-true}
use Rattle.std.specs.List.{range_with_len}
use Rattle.std.proofs.lemmas.Bool.{both_ways, false≢true, cases_Bool, eqb-true, and_parts, and_left, not_from_true, not_from_false, false_from_ne_true}
use Rattle.std.proofs.lemmas.List.{length_push}
use Rattle.std.proofs.lemmas.List.Sums.{sum_by-cons, sum_by-append}
use Rattle.fb_graph.specs.Parity.{is_in}
use Rattle.fb_graph.specs.Problem.{Problem}
use Rattle.fb_graph.specs.Dual.{IsDual, Node, leaves, cover_of, is_empty, is_live, is_outer, layers_of, node_at, no_node, change_at, taller_node, top_at}
use Rattle.fb_graph.proofs.Sets.{is_in-head, is_in-tail, is_in-range, All-from_is_in, member_of_odd}
use Rattle.fb_graph.proofs.Sums.{sum_same, sum_le, count_by-le}
use Rattle.fb_graph.specs.Counts.{as_count}
use Rattle.fb_graph.specs.Covers.{is_covered_by, passes}
use Rattle.fb_graph.specs.Steps.{Roles, stepped_nodes, stepped_node}
use Rattle.fb_laws.specs.Measures.{IsLower}
use Rattle.fb_laws.specs.Searches.{IsOuterNode}
use Rattle.fb_laws.specs.Trees.{plus_names, minus_names, roles_of, tree_names}
use Rattle.fb_laws.specs.Works.{IsSetOf}
use Rattle.fb_laws.specs.SearchLayers.{defects_beside, blossoms_beside, layers_in, left_to_do, FreeLowers, AttachLowers, AbsorbLowers, UncoverLowers}
use Rattle.fb_laws.specs.Forming.{Child, blossom_of, names_of}
use Rattle.fb_laws.specs.SearchOpenings.{OpenedLowers}
use Rattle.fb_laws.specs.SearchBlossoms.{renamed_name, joined_tree, JoinedLowers}
use Rattle.fb_graph.proofs.Crossings.{cover_found, some_passes}
use Rattle.fb_laws.proofs.FallingRanks.{count_falls}
use Rattle.fb_laws.proofs.JoinedSearches.{cover_formed, leaves_formed}
use Rattle.fb_laws.proofs.JoinedTrees.{plus_kept, new_in}
use Rattle.fb_laws.proofs.MatchedNodes.{odd_top}
use Rattle.fb_laws.proofs.SearchStates.{named_set}
use Rattle.fb_laws.proofs.LayeredSearches.{taller_covered}
use Rattle.fb_graph.proofs.TallerNodes.{leaves_taller, taller_covers}
use Rattle.fb_laws.proofs.SearchTrees.{connected, connects_sym, plus_in_tree, minus_in_tree, exclusive_names}
use Rattle.fb_graph.proofs.StepHeights.{cover_stepped, leaves_stepped}

-- one number that passes fewer tests is counted less
same_count : (test before : ℕ → Bool) (xs : List ℕ) → ((x : ℕ) → is_in xs x ≡ true → test x ≡ before x) → count_by test xs ≡ count_by before xs
same_count test before xs same =
    sum_same (λ x. as_count (test x)) (λ x. as_count (before x)) xs
    (All-from_is_in (λ x. as_count (test x) ≡ as_count (before x)) xs (λ x among. ap as_count (same x among)))

not_narrower : (a b : Bool) → (b ≡ true → a ≡ true) → not a ≡ true → not b ≡ true
not_narrower true b h e = absurd (false≢true e)
not_narrower false true h e = absurd (false≢true (h refl))
not_narrower false false h e = refl

-- the defects beside fall where more are over, and one is over newly
pub defects_fall : (test before : ℕ → Bool) (nodes others : List Node) (d : ℕ) → leaves others ≡ leaves nodes
    → ((v : ℕ) → is_in (leaves nodes) v ≡ true → is_covered_by before nodes v ≡ true → is_covered_by test others v ≡ true)
    → is_in (leaves nodes) d ≡ true → is_covered_by test others d ≡ true → is_covered_by before nodes d ≡ false
    → defects_beside test others < defects_beside before nodes
defects_fall test before nodes others d same wider leaf new old =
    let fewer : count_by (λ v. not (is_covered_by test others v) && is_in (leaves nodes) v) (leaves nodes) < count_by (λ v. not (is_covered_by before nodes v)) (leaves nodes) =
    count_falls (λ v. not (is_covered_by test others v) && is_in (leaves nodes) v) (λ v. not (is_covered_by before nodes v)) (leaves nodes) d
    (λ v passing.
    let parts = and_parts (not (is_covered_by test others v)) (is_in (leaves nodes) v) passing in
    not_narrower (is_covered_by test others v) (is_covered_by before nodes v) (wider v parts.1) parts.0)
    leaf (and_left (not (is_covered_by test others d)) (is_in (leaves nodes) d) (not_from_true (is_covered_by test others d) new)) (not_from_false (is_covered_by before nodes d) old) in
    let alike : count_by (λ v. not (is_covered_by test others v)) (leaves nodes) ≡ count_by (λ v. not (is_covered_by test others v) && is_in (leaves nodes) v) (leaves nodes) =
    same_count (λ v. not (is_covered_by test others v)) (λ v. not (is_covered_by test others v) && is_in (leaves nodes) v) (leaves nodes)
    (λ v among. sym (ap (λ b. not (is_covered_by test others v) && b) among ∙ and-true (not (is_covered_by test others v)))) in
    omega (arith, fewer, alike, ap (λ l. count_by (λ v. not (is_covered_by test others v)) l) same)

defects_same : (test : ℕ → Bool) (nodes others : List Node) → leaves others ≡ leaves nodes
    → ((v : ℕ) → is_in (leaves nodes) v ≡ true → cover_of others v ≡ cover_of nodes v) → defects_beside test others ≡ defects_beside test nodes
defects_same test nodes others same covers =
    ap (λ l. count_by (λ v. not (is_covered_by test others v)) l) same
    ∙ same_count (λ v. not (is_covered_by test others v)) (λ v. not (is_covered_by test nodes v)) (leaves nodes)
    (λ v among. ap (λ o. not (passes test o)) (covers v among))

stepped_names : (roles : Roles) (k : ℕ) (test : ℕ → Bool) (nodes : List Node) → blossoms_beside test (stepped_nodes roles k nodes) ≡ blossoms_beside test nodes
stepped_names roles k test [] = refl
stepped_names roles k test (n ∷ ns) =
    omega (
      arith,
      sum_by-cons (λ (m : Node). as_count (not (is_empty m.children) && not (test m.name))) (stepped_node roles k n) (stepped_nodes roles k ns),
      sum_by-cons (λ (m : Node). as_count (not (is_empty m.children) && not (test m.name))) n ns,
      stepped_names roles k test ns,
    )

stepped_layers : (roles : Roles) (k : ℕ) (test : ℕ → Bool) (nodes : List Node) → layers_in test (stepped_nodes roles k nodes) ≡ layers_in test nodes
stepped_layers roles k test [] = refl
stepped_layers roles k test (n ∷ ns) =
    omega (
      arith,
      sum_by-cons (λ (m : Node). cond (test m.name) (length (layers_of m)) 0) (stepped_node roles k n) (stepped_nodes roles k ns),
      sum_by-cons (λ (m : Node). cond (test m.name) (length (layers_of m)) 0) n ns,
      stepped_layers roles k test ns,
      ap (λ m. cond (test n.name) m 0) (length_push n.below (stepped_node roles k n).top ∙ sym (length_push n.below n.top)),
    )

pub free_lowers : FreeLowers
free_lowers p nodes roles k =
    inr (
      omega (arith, defects_same roles.is_plus nodes (stepped_nodes roles k nodes) (leaves_stepped roles nodes k) (λ v among. cover_stepped roles nodes k v)),
      inr (
        omega (arith, stepped_names roles k roles.is_plus nodes),
        inr (
          omega (
            arith,
            same_count (λ v. not (is_covered_by roles.is_plus (stepped_nodes roles k nodes) v)) (λ v. not (is_covered_by roles.is_plus nodes v)) (range_with_len 0 p.vertices)
                (λ v among. ap (λ o. not (passes roles.is_plus o)) (cover_stepped roles nodes k v)),
          ),
          inr (omega (arith, stepped_layers roles k roles.is_minus nodes), inl (omega arith)),
        ),
      ),
    )

-- a node that is plus newly
pub plus_lowers : (p : Problem) (nodes : List Node) (roles later : Roles) (name : ℕ) (free freed : Bool) → IsOuterNode nodes name
    → roles.is_plus name ≡ false → later.is_plus name ≡ true → ((n : ℕ) → roles.is_plus n ≡ true → later.is_plus n ≡ true)
    → IsLower (left_to_do p nodes later freed) (left_to_do p nodes roles free)
plus_lowers p nodes roles later name free freed (d, leaf, covered) not_plus plus wider =
    inl
    (defects_fall later.is_plus roles.is_plus nodes nodes d refl
    (λ v among over.
    let (n, is, passing) = some_passes roles.is_plus (cover_of nodes v) over in
    ap (passes later.is_plus) is ∙ wider n passing)
    leaf (ap (passes later.is_plus) covered ∙ plus) (ap (passes roles.is_plus) covered ∙ not_plus))

pub attach_lowers : AttachLowers
attach_lowers p nodes tree e rest unmatched root r free freed state =
    let (w, cover) = connected nodes e.matched e.plus e.minus (connects_sym nodes e.matched e.minus e.plus state.joined.2) in
    let (d, leaf, covered, same) = state.matching.dual.parity w e.plus cover in
    plus_lowers p nodes (roles_of root tree) (roles_of root (e ∷ tree)) e.plus free freed (d, leaf, covered)
    (false_from_ne_true (is_in (plus_names root tree) e.plus)
    (λ plus. both_ways (is_in (tree_names root tree) e.plus) state.names.1.0 (plus_in_tree root tree e.plus plus)))
    (is_in-head e.plus (plus_names root tree)) (λ n plus. is_in-tail e.plus (plus_names root tree) n plus)

taller_names : (name v : ℕ) (test : ℕ → Bool) (nodes : List Node) → blossoms_beside test (change_at name (taller_node v) nodes) ≡ blossoms_beside test nodes
taller_names name v test [] = refl
taller_names name v test (n ∷ ns) =
    omega (
      arith,
      sum_by-cons (λ (m : Node). as_count (not (is_empty m.children) && not (test m.name))) (cond (n.name == name) (taller_node v n) n) (change_at name (taller_node v) ns),
      sum_by-cons (λ (m : Node). as_count (not (is_empty m.children) && not (test m.name))) n ns,
      taller_names name v test ns,
      one (n.name == name),
    )
  where
    one : (b : Bool) → as_count (not (is_empty (cond b (taller_node v n) n).children) && not (test (cond b (taller_node v n) n).name))
        ≡ as_count (not (is_empty n.children) && not (test n.name))
    one true = refl
    one false = refl

-- the layers of one node that count
abbrev counted : (ℕ → Bool) → Node → ℕ
counted test n = cond (test n.name) (length (layers_of n)) 0

-- a layer more is not less
counted_le : (test : ℕ → Bool) (v : ℕ) (b : Bool) (n : Node) → counted test n ≤ counted test (cond b (taller_node v n) n)
counted_le test v false n = omega arith
counted_le test v true n = step (test n.name)
  where
    step : (c : Bool) → cond c (length (layers_of n)) 0 ≤ cond c (length (layers_of (taller_node v n))) 0
    step true = omega (arith, length_push (layers_of n) (taller_node v n).top)
    step false = omega arith

taller_layers : (name v : ℕ) (test : ℕ → Bool) (nodes : List Node) → layers_in test nodes ≤ layers_in test (change_at name (taller_node v) nodes)
taller_layers name v test [] = omega arith
taller_layers name v test (n ∷ ns) =
    omega (
      arith,
      sum_by-cons (counted test) (cond (n.name == name) (taller_node v n) n) (change_at name (taller_node v) ns),
      sum_by-cons (counted test) n ns,
      taller_layers name v test ns,
      counted_le test v (n.name == name) n,
    )

pub taller_layers_more : (name v : ℕ) (test : ℕ → Bool) → test name ≡ true → (nodes : List Node) → is_live nodes name ≡ true
    → layers_in test nodes < layers_in test (change_at name (taller_node v) nodes)
taller_layers_more name v test passing [] live = absurd (false≢true live)
taller_layers_more name v test passing (n ∷ ns) live =
    step (cases_Bool (n.name == name)) (taller_layers_more name v test passing ns)
  where
    sums : layers_in test (change_at name (taller_node v) (n ∷ ns)) ≡ counted test (cond (n.name == name) (taller_node v n) n) + layers_in test (change_at name (taller_node v) ns)
    sums = sum_by-cons (counted test) (cond (n.name == name) (taller_node v n) n) (change_at name (taller_node v) ns)

    step : ((n.name == name) ≡ true) ⊎ ((n.name == name) ≡ false)
        → (is_live ns name ≡ true → layers_in test ns < layers_in test (change_at name (taller_node v) ns))
        → layers_in test (n ∷ ns) < layers_in test (change_at name (taller_node v) (n ∷ ns))
    step (inl here) rest =
        let counts : test n.name ≡ true = ap test (eqb-true n.name name here) ∙ passing in
        omega (
          arith,
          sums,
          sum_by-cons (counted test) n ns,
          taller_layers name v test ns,
          ap (λ b. counted test (cond b (taller_node v n) n)) here,
          ap (λ c. cond c (length (layers_of (taller_node v n))) 0) counts,
          ap (λ c. cond c (length (layers_of n)) 0) counts,
          length_push (layers_of n) (taller_node v n).top,
        )
    step (inr other) rest =
        omega (
          arith,
          sums,
          sum_by-cons (counted test) n ns,
          rest (ap (λ b. b || is_live ns name) (sym other) ∙ live),
          counted_le test v (n.name == name) n,
        )

-- a defect is not the vertex that is none
other_defect : (nodes : List Node) (v d : ℕ) → is_in (leaves nodes) v ≡ false → is_in (leaves nodes) d ≡ true → (v == d) ≡ false
other_defect nodes v d no_leaf leaf =
    false_from_ne_true (v == d) (λ same. both_ways (is_in (leaves nodes) v) no_leaf (ap (is_in (leaves nodes)) (eqb-true v d same) ∙ leaf))

pub absorb_lowers : AbsorbLowers
absorb_lowers p nodes roles name v free freed no_leaf below plus live outer none =
    inr (
      omega (
        arith,
        defects_same roles.is_plus nodes (change_at name (taller_node v) nodes) (leaves_taller name v nodes)
            (λ d leaf. taller_covers nodes name v d (other_defect nodes v d no_leaf leaf)),
      ),
      inr (
        omega (arith, taller_names name v roles.is_plus nodes),
        inl
            (count_falls (λ x. not (is_covered_by roles.is_plus (change_at name (taller_node v) nodes) x)) (λ x. not (is_covered_by roles.is_plus nodes x))
            (range_with_len 0 p.vertices) v
            (λ x. not_narrower (is_covered_by roles.is_plus (change_at name (taller_node v) nodes) x) (is_covered_by roles.is_plus nodes x) (wider x))
            (is_in-range p.vertices v below)
            (not_from_true (is_covered_by roles.is_plus (change_at name (taller_node v) nodes) v)
            (ap (passes roles.is_plus) (taller_covered nodes name v live outer none) ∙ plus))
            (not_from_false (is_covered_by roles.is_plus nodes v) (ap (passes roles.is_plus) none))),
      ),
    )
  where
    wider : (x : ℕ) → is_covered_by roles.is_plus nodes x ≡ true → is_covered_by roles.is_plus (change_at name (taller_node v) nodes) x ≡ true
    wider x over = step (cases_Bool (v == x))
      where
        step : ((v == x) ≡ true) ⊎ ((v == x) ≡ false) → is_covered_by roles.is_plus (change_at name (taller_node v) nodes) x ≡ true
        step (inl same) =
            absurd (both_ways (is_covered_by roles.is_plus nodes x) (ap (is_covered_by roles.is_plus nodes) (sym (eqb-true v x same)) ∙ ap (passes roles.is_plus) none) over)
        step (inr other) = ap (passes roles.is_plus) (taller_covers nodes name v x other) ∙ over

pub uncover_lowers : UncoverLowers
uncover_lowers p nodes roles name v free freed no_leaf minus not_plus live outer none =
    inr (
      omega (
        arith,
        defects_same roles.is_plus nodes (change_at name (taller_node v) nodes) (leaves_taller name v nodes)
            (λ d leaf. taller_covers nodes name v d (other_defect nodes v d no_leaf leaf)),
      ),
      inr (
        omega (arith, taller_names name v roles.is_plus nodes),
        inr (
          count_by-le (λ x. not (is_covered_by roles.is_plus nodes x)) (λ x. not (is_covered_by roles.is_plus (change_at name (taller_node v) nodes) x))
              (range_with_len 0 p.vertices)
              (λ x. not_narrower (is_covered_by roles.is_plus nodes x) (is_covered_by roles.is_plus (change_at name (taller_node v) nodes) x) (wider x)),
          inl (taller_layers_more name v roles.is_minus minus nodes live),
        ),
      ),
    )
  where
    wider : (x : ℕ) → is_covered_by roles.is_plus (change_at name (taller_node v) nodes) x ≡ true → is_covered_by roles.is_plus nodes x ≡ true
    wider x over = step (cases_Bool (v == x))
      where
        step : ((v == x) ≡ true) ⊎ ((v == x) ≡ false) → is_covered_by roles.is_plus nodes x ≡ true
        step (inl same) =
            absurd
            (both_ways (is_covered_by roles.is_plus (change_at name (taller_node v) nodes) x)
            (ap (is_covered_by roles.is_plus (change_at name (taller_node v) nodes)) (sym (eqb-true v x same))
            ∙ (ap (passes roles.is_plus) (taller_covered nodes name v live outer none) ∙ not_plus)) over)
        step (inr other) = ap (passes roles.is_plus) (sym (taller_covers nodes name v x other)) ∙ over

-- an outer node is over a defect
pub set_outer : (p : Problem) (nodes : List Node) (name : ℕ) → IsDual p nodes → IsSetOf nodes name (top_at nodes name)
    → IsOuterNode nodes name
set_outer p nodes name dual (i, less, outer, is, same) =
    let (d, within, leaf) =
    member_of_odd (is_in (leaves nodes)) (node_at nodes i).top.vertices (odd_top p nodes i dual less).odd in
    (d, leaf, cover_found nodes d dual.apart i no_node less (ap (is_outer nodes) is ∙ outer) within ∙ ap Some is)

-- a blossom of nodes of which one wasn't plus
pub blossom_lowers : (p : Problem) (nodes : List Node) (roles later : Roles) (name : ℕ) (base : Child) (others : List Child)
    (minus : ℕ) (free freed : Bool) → All (λ c. IsSetOf nodes c.name c.set) (base ∷ others) → IsDual p nodes
    → IsDual p (nodes ++ blossom_of name (base ∷ others) ∷ [])
    → is_outer (nodes ++ blossom_of name (base ∷ others) ∷ []) name ≡ true
    → ((n : ℕ) → roles.is_plus n ≡ true → later.is_plus (renamed_name (is_in (names_of (base ∷ others))) name n) ≡ true)
    → roles.is_plus base.name ≡ true → IsOuterNode nodes minus → roles.is_plus minus ≡ false
    → is_in (names_of (base ∷ others)) minus ≡ true
    → IsLower (left_to_do p (nodes ++ blossom_of name (base ∷ others) ∷ []) later freed) (left_to_do p nodes roles free)
blossom_lowers p nodes roles later name base others minus free freed are old dual fresh wider base_plus (d, leaf, covered) not_plus among =
    inl
    (defects_fall later.is_plus roles.is_plus nodes (nodes ++ blossom_of name (base ∷ others) ∷ []) d
    (leaves_formed p nodes name base others are old dual fresh)
    (λ v at over.
    let (n, is, plus) = some_passes roles.is_plus (cover_of nodes v) over in
    ap (passes later.is_plus) (cover_formed p nodes name base others are old dual fresh v n is) ∙ wider n plus)
    leaf
    (ap (passes later.is_plus) (cover_formed p nodes name base others are old dual fresh d minus covered)
    ∙ (ap later.is_plus
    (new_in joined name base.name base.name minus among
    ∙ sym (new_in joined name base.name base.name base.name (is_in-head base.name (names_of others))))
    ∙ wider base.name base_plus))
    (ap (passes roles.is_plus) covered ∙ not_plus))
  where
    joined : ℕ → Bool
    joined = is_in (names_of (base ∷ others))

pub joined_lowers : JoinedLowers
joined_lowers p nodes tree rest unmatched root r name base others minus free freed joining dual state minus_is among =
    blossom_lowers p nodes (roles_of root tree) (roles_of (renamed_name joined name root) (joined_tree joined name tree)) name base
    others minus free freed joining.nodes_are state.matching.dual dual joining.fresh
    (plus_kept joined name base.name root nodes tree state.joined joining.branches) joining.plus
    (set_outer p nodes minus state.matching.dual
    (named_set p nodes tree rest unmatched root r state minus (minus_in_tree root tree minus minus_is)))
    (false_from_ne_true (is_in (plus_names root tree) minus)
    (λ plus. both_ways (is_in (minus_names tree) minus) (exclusive_names root tree state.names minus plus) minus_is))
    among
  where
    joined : ℕ → Bool
    joined = is_in (names_of (base ∷ others))

pub opened_lowers : OpenedLowers
opened_lowers p before after b children roles later free freed split not_plus has wider =
    inr (
      omega (
        arith,
        ap (λ l. count_by (λ v. not (is_covered_by later.is_plus (before ++ after) v)) l) split.defects,
        same_count (λ v. not (is_covered_by later.is_plus (before ++ after) v))
            (λ v. not (is_covered_by later.is_plus (before ++ after) v) && is_in (leaves (before ++ b ∷ after)) v) (leaves (before ++ b ∷ after))
            (λ v among. sym (ap (λ c. not (is_covered_by later.is_plus (before ++ after) v) && c) among ∙ and-true (not (is_covered_by later.is_plus (before ++ after) v)))),
        count_by-le (λ v. not (is_covered_by later.is_plus (before ++ after) v) && is_in (leaves (before ++ b ∷ after)) v)
            (λ v. not (is_covered_by roles.is_plus (before ++ b ∷ after) v)) (leaves (before ++ b ∷ after))
            (λ v passing.
            let parts = and_parts (not (is_covered_by later.is_plus (before ++ after) v)) (is_in (leaves (before ++ b ∷ after)) v) passing in
            not_narrower (is_covered_by later.is_plus (before ++ after) v) (is_covered_by roles.is_plus (before ++ b ∷ after) v)
            (λ over.
            let (n, is, plus) = some_passes roles.is_plus (cover_of (before ++ b ∷ after) v) over in
            ap (passes later.is_plus)
            (split.outside v n parts.1 is (λ same. both_ways (roles.is_plus n) (ap roles.is_plus same ∙ not_plus) plus)).0
            ∙ wider n plus)
            parts.0),
      ),
      inl
          (omega (
            arith,
            sum_by-append (λ (m : Node). as_count (not (is_empty m.children) && not (later.is_plus m.name))) before after,
            sum_by-append (λ (m : Node). as_count (not (is_empty m.children) && not (roles.is_plus m.name))) before (b ∷ after),
            sum_by-cons (λ (m : Node). as_count (not (is_empty m.children) && not (roles.is_plus m.name))) b after,
            ap (λ c. as_count (not c && not (roles.is_plus b.name))) has,
            ap (λ c. as_count (not c)) not_plus,
            fewer before,
            fewer after,
          )),
    )
  where
    one : (a x y : Bool) → (x ≡ true → y ≡ true) → as_count (not a && not y) ≤ as_count (not a && not x)
    one true x y h = omega arith
    one false true true h = omega arith
    one false true false h = absurd (false≢true (h refl))
    one false false true h = omega arith
    one false false false h = omega arith

    fewer : (ns : List Node) → blossoms_beside later.is_plus ns ≤ blossoms_beside roles.is_plus ns
    fewer ns =
        sum_le (λ (m : Node). as_count (not (is_empty m.children) && not (later.is_plus m.name)))
        (λ (m : Node). as_count (not (is_empty m.children) && not (roles.is_plus m.name))) ns
        (λ i d less. one (is_empty (get_or ns i d).children) (roles.is_plus (get_or ns i d).name) (later.is_plus (get_or ns i d).name) (wider (get_or ns i d).name))
