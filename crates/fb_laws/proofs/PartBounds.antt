-- The parts of what is left to do stay below a bound.
use Rattle.std.proofs.Common.{ℕ, ◌≡◌, ◌+◌, ◌*◌, ◌≤◌, ◌<◌, ◌&&◌, inl, inr, not, cond, Bool, true, false, List, [], ◌∷◌, ◌++◌, map, length, All, AllPairs, count_by, get_or, refl, sym, ap, ◌∙◌, subst, arith, if◌then◌else◌}
use Rattle.std.specs.List.{range_with_len}
use Rattle.std.proofs.lemmas.Bool.{false≢true, or_from}
use Rattle.std.proofs.lemmas.List.{length-append, length-map}
use Rattle.std.proofs.lemmas.List.Elements.{All-nil, All-cons, All-head, All-tail, All-append, All-weaker}
use Rattle.std.proofs.lemmas.List.FromFn.{length-range_with_len}
use Rattle.std.proofs.lemmas.List.Sums.{count_by-le-length, sum_by-cons}
use Rattle.fb_graph.specs.Parity.{is_in}
use Rattle.fb_graph.specs.Problem.{Problem, with_defects}
use Rattle.fb_graph.specs.Certificate.{AreDistinct, IsOddCut}
use Rattle.fb_graph.specs.Counts.{as_count}
use Rattle.fb_graph.specs.Covers.{PassOuterOnly, is_covered_by}
use Rattle.fb_graph.specs.Dual.{Node, AreApart, AreGrown, defects_of, first_vertices, is_empty, is_live, layers_of, leaves}
use Rattle.fb_graph.specs.Nests.{IsNest, IsFormed, AreJoinedLater}
use Rattle.fb_graph.specs.declared.parts.Cut.{Cut}
use Rattle.fb_graph.proofs.Among.{All_among, among_All}
use Rattle.fb_graph.proofs.InsertedCuts.{pairs_head, pairs_tail}
use Rattle.fb_graph.proofs.Members.{is_in-append}
use Rattle.fb_graph.proofs.NestParts.{names_live, leaf_real}
use Rattle.fb_graph.proofs.Nodes.{All-pieces, All-top}
use Rattle.fb_graph.proofs.Sets.{distinct_from_rising, is_in-All, is_in-range, length-le_from_within, member_of_odd, range_rises}
use Rattle.fb_graph.proofs.Sums.{sum_le}
use Rattle.fb_graph.proofs.Unions.{distinct_append}
use Rattle.fb_laws.specs.PartBounds.{IsRealBelow, FewLeaves, FewBlossoms, PartsBelow, SearchRankFalls}
use Rattle.fb_laws.specs.SearchLayers.{blossoms_beside, defects_beside, layers_in, left_to_do, vertices_beside}
use Rattle.fb_laws.proofs.FallingRanks.{rank_falls}

-- a distinct list of numbers below n is no longer than n
distinct_below : (xs : List ℕ) (n : ℕ) → AreDistinct xs → ((v : ℕ) → is_in xs v ≡ true → v < n) → length xs ≤ n
distinct_below xs n distinct below =
    omega (
      arith,
      length-range_with_len 0 n,
      length-le_from_within xs (range_with_len 0 n) distinct
          (distinct_from_rising (range_with_len 0 n) (range_rises 0 n))
          (λ v within. is_in-range n v (below v within)),
    )

pub few_leaves : FewLeaves
few_leaves p nodes below nest =
    distinct_below (leaves nodes) p.vertices nest.defects (λ v leaf. below v (leaf_real p nodes v nest.dual leaf))

-- the names of all nodes that are joined
abbrev joined_names : List Node → List ℕ
joined_names [] = []
joined_names (n ∷ ns) = n.children ++ joined_names ns

pub not_empty : (cs : List ℕ) → 3 ≤ length cs → is_empty cs ≡ false
not_empty [] three = absurd (let h : 3 ≤ 0 = three in omega arith)
not_empty (c ∷ cs) three = refl

-- each node is a defect's or a blossom
pub nodes_counted : (ns : List Node) → All IsFormed ns → length ns ≡ length (leaves ns) + count_by (λ n. not (is_empty n.children)) ns
nodes_counted [] formed = refl
nodes_counted (n ∷ ns) formed =
    omega (
      arith,
      one n (All-head IsFormed n ns formed),
      nodes_counted ns (All-tail IsFormed n ns formed),
      length-append (defects_of n) (leaves ns),
      sum_by-cons (λ m. cond (not (is_empty m.children)) 1 0) n ns,
    )
  where
    one : (m : Node) → IsFormed m → length (defects_of m) + cond (not (is_empty m.children)) 1 0 ≡ 1
    one m (inl childless) =
        subst (λ cs. length (if is_empty cs then first_vertices (layers_of m) else []) + cond (not (is_empty cs)) 1 0 ≡ 1) (sym childless.none)
        (omega (arith, childless.defect))
    one m (inr many) =
        subst (λ b. length (if b then first_vertices (layers_of m) else []) + cond (not b) 1 0 ≡ 1) (sym (not_empty m.children many.three)) refl

-- each blossom joins three
joined_counted : (ns : List Node) → All IsFormed ns → 3 * count_by (λ n. not (is_empty n.children)) ns ≤ length (joined_names ns)
joined_counted [] formed = omega arith
joined_counted (n ∷ ns) formed =
    omega (
      arith,
      one n (All-head IsFormed n ns formed),
      joined_counted ns (All-tail IsFormed n ns formed),
      length-append n.children (joined_names ns),
      sum_by-cons (λ m. cond (not (is_empty m.children)) 1 0) n ns,
    )
  where
    one : (m : Node) → IsFormed m → 3 * cond (not (is_empty m.children)) 1 0 ≤ length m.children
    one m (inl childless) = subst (λ cs. 3 * cond (not (is_empty cs)) 1 0 ≤ length cs) (sym childless.none) (omega arith)
    one m (inr many) =
        subst (λ b. 3 * cond (not b) 1 0 ≤ length m.children) (sym (not_empty m.children many.three)) (omega (arith, many.three))

joined_apart : (cs : List ℕ) (ns : List Node) → All (λ m. AreApart cs m.children) ns → AreApart cs (joined_names ns)
joined_apart cs [] apart v within = refl
joined_apart cs (n ∷ ns) apart v within =
    is_in-append n.children (joined_names ns) v
    ∙ or_from (is_in n.children v) (is_in (joined_names ns) v)
    (All-head (λ m. AreApart cs m.children) n ns apart v within)
    (joined_apart cs ns (All-tail (λ m. AreApart cs m.children) n ns apart) v within)

joined_distinct : (ns : List Node) → All IsFormed ns → AreJoinedLater ns → AreDistinct (joined_names ns)
joined_distinct [] formed joined = tt
joined_distinct (n ∷ ns) formed (later, apart, joined) =
    distinct_append n.children (joined_names ns) (one (All-head IsFormed n ns formed))
    (joined_distinct ns (All-tail IsFormed n ns formed) joined) (joined_apart n.children ns apart)
  where
    one : IsFormed n → AreDistinct n.children
    one (inl childless) = subst AreDistinct (sym childless.none) tt
    one (inr many) = many.distinct

joined_all : (P : ℕ → Type 0) (ns : List Node) → All (λ n. All P n.children) ns → All P (joined_names ns)
joined_all P [] all = All-nil P
joined_all P (n ∷ ns) all =
    All-append P n.children (joined_names ns) (All-head (λ m. All P m.children) n ns all)
    (joined_all P ns (All-tail (λ m. All P m.children) n ns all))

pub few_blossoms : FewBlossoms
few_blossoms p nodes nest =
    omega (
      arith,
      nodes_counted nodes nest.forest.formed,
      joined_counted nodes nest.forest.formed,
      length-map nodes (λ n. n.name),
      length-le_from_within (joined_names nodes) (map (λ n. n.name) nodes)
          (joined_distinct nodes nest.forest.formed nest.forest.joined) nest.dual.names
          (λ c within.
          names_live nodes c ∙ is_in-All (λ x. is_live nodes x ≡ true) (joined_names nodes)
          (joined_all (λ x. is_live nodes x ≡ true) nodes nest.forest.live) c within),
    )

blossoms_le : (test : ℕ → Bool) (ns : List Node) → blossoms_beside test ns ≤ count_by (λ n. not (is_empty n.children)) ns
blossoms_le test ns =
    sum_le (λ n. cond (not (is_empty n.children) && not (test n.name)) 1 0) (λ n. cond (not (is_empty n.children)) 1 0) ns
    (λ k d less. one (not (is_empty (get_or ns k d).children)) (not (test (get_or ns k d).name)))
  where
    one : (a b : Bool) → cond (a && b) 1 0 ≤ cond a 1 0
    one true true = omega arith
    one true false = omega arith
    one false b = omega arith

-- a list of layers, each a vertex larger than the one below, is no longer than its last one
grown_length : (c : Cut) (cs : List Cut) (top : Cut) → AreGrown (c ∷ (cs ++ top ∷ []))
    → length c.vertices + length cs + 1 ≤ length top.vertices
grown_length c [] top ((v, same), rest) =
    omega (arith, ap length same, length-append c.vertices (v ∷ []))
grown_length c (d ∷ ds) top ((v, same), rest) =
    omega (arith, ap length same, length-append c.vertices (v ∷ []), grown_length d ds top rest)

some_member : (xs : List ℕ) (v : ℕ) → is_in xs v ≡ true → 1 ≤ length xs
some_member [] v within = absurd (false≢true within)
some_member (x ∷ xs) v within = omega arith

layers_short : (below : List Cut) (top : Cut) → AreGrown (below ++ top ∷ []) → All (λ c. 1 ≤ length c.vertices) (below ++ top ∷ [])
    → length (below ++ top ∷ []) ≤ length top.vertices
layers_short [] top grown some = All-head (λ c. 1 ≤ length c.vertices) top [] some
layers_short (c ∷ cs) top grown some =
    omega (
      arith,
      grown_length c cs top grown,
      All-head (λ x. 1 ≤ length x.vertices) c (cs ++ top ∷ []) some,
      length-append cs (top ∷ []),
    )

-- the vertices of the nodes that pass
abbrev held_by : (ℕ → Bool) → List Node → List ℕ
held_by test [] = []
held_by test (n ∷ ns) = if test n.name then n.top.vertices ++ held_by test ns else held_by test ns

-- what a bound of their layers needs of nodes that pass
record AreSlim (below : ℕ → Type 0) (n : Node) : Type 0 where
  slim : length (layers_of n) ≤ length n.top.vertices
  distinct : AreDistinct n.top.vertices
  members : All below n.top.vertices

module _ (test : ℕ → Bool) (below : ℕ → Type 0) where
  abbrev AreBothApart : Node → Node → Type 0
  AreBothApart m n = test m.name ≡ true → test n.name ≡ true → AreApart m.top.vertices n.top.vertices

  held_apart : (m : Node) (ns : List Node) → test m.name ≡ true → All (AreBothApart m) ns → AreApart m.top.vertices (held_by test ns)
  held_apart m [] passing apart v within = refl
  held_apart m (n ∷ ns) passing apart v within = step (test n.name) refl (held_apart m ns passing (All-tail (AreBothApart m) n ns apart) v within)
    where
      step : (b : Bool) → test n.name ≡ b → is_in (held_by test ns) v ≡ false
          → is_in (if b then n.top.vertices ++ held_by test ns else held_by test ns) v ≡ false
      step true e rest =
          is_in-append n.top.vertices (held_by test ns) v
          ∙ or_from (is_in n.top.vertices v) (is_in (held_by test ns) v)
          (All-head (AreBothApart m) n ns apart passing e v within) rest
      step false e rest = rest

  held_distinct : (ns : List Node) → All (AreSlim below) ns → AllPairs AreBothApart ns → AreDistinct (held_by test ns)
  held_distinct [] slim apart = tt
  held_distinct (n ∷ ns) slim apart =
      step (test n.name) refl (held_distinct ns (All-tail (AreSlim below) n ns slim) (pairs_tail AreBothApart n ns apart))
    where
      step : (b : Bool) → test n.name ≡ b → AreDistinct (held_by test ns)
          → AreDistinct (if b then n.top.vertices ++ held_by test ns else held_by test ns)
      step true e rest =
          distinct_append n.top.vertices (held_by test ns) (All-head (AreSlim below) n ns slim).distinct rest
          (held_apart n ns e (pairs_head AreBothApart n ns apart))
      step false e rest = rest

  held_all : (ns : List Node) → All (AreSlim below) ns → All below (held_by test ns)
  held_all [] slim = All-nil below
  held_all (n ∷ ns) slim = step (test n.name) (held_all ns (All-tail (AreSlim below) n ns slim))
    where
      step : (b : Bool) → All below (held_by test ns) → All below (if b then n.top.vertices ++ held_by test ns else held_by test ns)
      step true rest = All-append below n.top.vertices (held_by test ns) (All-head (AreSlim below) n ns slim).members rest
      step false rest = rest

  layers_le : (ns : List Node) → All (AreSlim below) ns → layers_in test ns ≤ length (held_by test ns)
  layers_le [] slim = omega arith
  layers_le (n ∷ ns) slim =
      omega (
        arith,
        sum_by-cons (λ m. if test m.name then length (layers_of m) else 0) n ns,
        step (test n.name) (layers_le ns (All-tail (AreSlim below) n ns slim)),
      )
    where
      step : (b : Bool) → layers_in test ns ≤ length (held_by test ns)
          → (if b then length (layers_of n) else 0) + layers_in test ns
          ≤ length (if b then n.top.vertices ++ held_by test ns else held_by test ns)
      step true rest =
          omega (arith, rest, (All-head (AreSlim below) n ns slim).slim, length-append n.top.vertices (held_by test ns))
      step false rest = omega (arith, rest)

layers_below : (p : Problem) (nodes : List Node) (test : ℕ → Bool) → IsRealBelow p → IsNest p nodes → PassOuterOnly test nodes
    → layers_in test nodes ≤ p.vertices
layers_below p nodes test below nest outer =
    omega (
      arith,
      layers_le test (λ v. v < p.vertices) nodes slim,
      distinct_below (held_by test nodes) p.vertices (held_distinct test (λ v. v < p.vertices) nodes slim apart)
          (is_in-All (λ v. v < p.vertices) (held_by test nodes) (held_all test (λ v. v < p.vertices) nodes slim)),
    )
  where
    odd : All (λ n. All (IsOddCut (with_defects p (leaves nodes))) (layers_of n)) nodes
    odd = All-pieces (IsOddCut (with_defects p (leaves nodes))) layers_of nodes nest.dual.packing.odd

    filled : (c : Cut) → IsOddCut (with_defects p (leaves nodes)) c → 1 ≤ length c.vertices
    filled c is = let (v, within, leaf) = member_of_odd (is_in (leaves nodes)) c.vertices is.odd in some_member c.vertices v within

    slim : All (AreSlim (λ v. v < p.vertices)) nodes
    slim =
        among_All (AreSlim (λ v. v < p.vertices)) nodes
        (λ n a.
        let cuts = All_among (λ m. All (IsOddCut (with_defects p (leaves nodes))) (layers_of m)) nodes odd n a in
        let top = All-top (IsOddCut (with_defects p (leaves nodes))) n.below n.top cuts in
        record {
          slim = layers_short n.below n.top (All_among (λ m. AreGrown (layers_of m)) nodes nest.dual.grown n a)
              (All-weaker (IsOddCut (with_defects p (leaves nodes))) (λ c. 1 ≤ length c.vertices) filled (layers_of n) cuts);
          distinct = top.distinct;
          members = All-weaker (λ v. p.is_real v ≡ true) (λ v. v < p.vertices) below n.top.vertices top.real;
        })

    apart : AllPairs (λ m n. test m.name ≡ true → test n.name ≡ true → AreApart m.top.vertices n.top.vertices) nodes
    apart i j d less later first second =
        nest.dual.apart i j d less later (outer i d (omega arith) first) (outer j d later second)

all_five : (P : ℕ → Type 0) (a b c d e : ℕ) → P a → P b → P c → P d → P e → All P (a ∷ b ∷ c ∷ d ∷ e ∷ [])
all_five P a b c d e pa pb pc pd pe =
    All-cons P a (b ∷ c ∷ d ∷ e ∷ []) pa
    (All-cons P b (c ∷ d ∷ e ∷ []) pb
    (All-cons P c (d ∷ e ∷ []) pc (All-cons P d (e ∷ []) pd (All-cons P e [] pe (All-nil P)))))

pub parts_below : PartsBelow
parts_below p nodes roles free below nest are =
    all_five (λ part. part < p.vertices + 2) (defects_beside roles.is_plus nodes) (blossoms_beside roles.is_plus nodes)
    (vertices_beside p roles.is_plus nodes) (layers_in roles.is_minus nodes) (as_count free)
    (omega (arith, few, count_by-le-length (λ d. not (is_covered_by roles.is_plus nodes d)) (leaves nodes)))
    (omega (arith, few, few_blossoms p nodes nest, blossoms_le roles.is_plus nodes))
    (omega (
      arith,
      length-range_with_len 0 p.vertices,
      count_by-le-length (λ v. not (is_covered_by roles.is_plus nodes v)) (range_with_len 0 p.vertices),
    ))
    (omega (arith, layers_below p nodes roles.is_minus below nest are.minus)) (last free)
  where
    few : length (leaves nodes) ≤ p.vertices
    few = few_leaves p nodes below nest

    last : (b : Bool) → as_count b < p.vertices + 2
    last true = omega arith
    last false = omega arith

pub search_rank_falls : SearchRankFalls
search_rank_falls p nodes others roles moved free freed below nest are lower =
    rank_falls (p.vertices + 2) (left_to_do p others moved freed) (left_to_do p nodes roles free) refl
    (parts_below p others moved freed below nest are) lower
