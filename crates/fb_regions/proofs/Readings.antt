-- What a dual state says of covers, potentials and nodes, as it is read.
use Rattle.std.proofs.Common.{ℕ, inl, inr, ◌≡◌, ◌+◌, ◌-◌, ◌≤◌, ◌^◌, ◌==◌, Bool, true, false, List, [], ◌∷◌, length, Option, Some, None, refl, sym, ap, ◌∙◌, arith, if◌then◌else◌}
use Rattle.std.specs.List.{All, range_with_len, sum_by}
use Rattle.std.proofs.lemmas.Bool.{ne_eqb}
use Rattle.std.proofs.lemmas.List.{length-append}
use Rattle.std.proofs.lemmas.List.FromFn.{length-range_with_len}
use Rattle.std.proofs.lemmas.List.Elements.{All-head, All-tail}
use Rattle.std.proofs.lemmas.List.Sums.{sum_by-cons}
use Rattle.fb_graph.specs.Problem.{Problem, with_defects}
use Rattle.fb_graph.specs.Parity.{is_in}
use Rattle.fb_graph.specs.Certificate.{IsOddCut, load_of, total_value}
use Rattle.fb_graph.specs.Dual.{Node, all_cuts, cover_of, height_of, is_empty, layers_of, leaves}
use Rattle.fb_graph.specs.declared.parts.Cut.{Cut}
use Rattle.fb_graph.specs.declared.parts.Edge.{Edge}
use Rattle.fb_graph.specs.Nests.{IsNest}
use Rattle.fb_graph.specs.Limits.{IsWithinLimits}
use Rattle.fb_graph.proofs.Among.{IsAmong, map_among}
use Rattle.fb_graph.proofs.NestParts.{top_is_odd}
use Rattle.fb_graph.proofs.Sets.{distinct_from_rising, is_in-All, is_in-range, length-le_from_within, range_rises}
use Rattle.fb_regions.proofs.Chains.{length-chain}
use Rattle.fb_graph.proofs.CutSums.{sum_by-flat_map, weigh-le}
use Rattle.fb_regions.specs.declared.marks.Mark.{Mark}
use Rattle.fb_regions.specs.declared.region.Climb.{Climb}
use Rattle.fb_regions.specs.declared.region.Region.{Region}
use Rattle.fb_regions.specs.Holders.{IsHolder}
use Rattle.fb_regions.specs.InternalNodes.{added_to, first_of, mark_of, node_of, nodes_of, radii_from, root_from}
use Rattle.fb_regions.specs.InternalKept.{IsKept}
use Rattle.fb_regions.proofs.Climbs.{climb_in, climb_read}
use Rattle.fb_regions.proofs.Moved.{mark_over, same_cover}
use Rattle.fb_regions.proofs.Roots.{root_covers}

radii-le : (rs : List Region) (x : ℕ) → radii_from rs x ≤ sum_by (λ r. r.radius) rs
radii-le [] x = omega arith
radii-le (r ∷ rs) x = by (r.name == x) r.parent (radii-le rs)
  where
    by : (b : Bool) (o : Option ℕ) → ((y : ℕ) → radii_from rs y ≤ sum_by (λ s. s.radius) rs)
        → (if b then r.radius + elim o as (λ z. ℕ) [ None ↦ 0 | Some q ↦ radii_from rs q ] else radii_from rs x) ≤ sum_by (λ s. s.radius) (r ∷ rs)
    by true None rest = omega (arith, rest x, sum_by-cons (λ (s : Region). s.radius) r rs)
    by true (Some q) rest = omega (arith, rest q, sum_by-cons (λ (s : Region). s.radius) r rs)
    by false o rest = omega (arith, rest x, sum_by-cons (λ (s : Region). s.radius) r rs)

radius-le-sum : (rs : List Region) (r : Region) → IsAmong r rs → r.radius ≤ sum_by (λ s. s.radius) rs
radius-le-sum [] r a = absurd a
radius-le-sum (x ∷ rs) r (inl e) = omega (arith, ap (λ s. s.radius) e, sum_by-cons (λ (s : Region). s.radius) x rs)
radius-le-sum (x ∷ rs) r (inr a) = omega (arith, radius-le-sum rs r a, sum_by-cons (λ (s : Region). s.radius) x rs)

all_radii : (marks : List (Option Mark)) (rs : List Region) → All (λ r. r.radius ≡ total_value (layers_of (node_of marks r))) rs
    → sum_by (λ r. r.radius) rs ≡ sum_by (λ n. total_value (layers_of n)) (nodes_of marks rs)
all_radii marks [] h = refl
all_radii marks (r ∷ rs) h =
    omega (
      arith,
      sum_by-cons (λ (s : Region). s.radius) r rs,
      sum_by-cons (λ (n : Node). total_value (layers_of n)) (node_of marks r) (nodes_of marks rs),
      All-head (λ s. s.radius ≡ total_value (layers_of (node_of marks s))) r rs h,
      all_radii marks rs (All-tail (λ s. s.radius ≡ total_value (layers_of (node_of marks s))) r rs h),
    )

pub height-le : (p : Problem) (nodes : List Node) (v : ℕ) → IsNest p nodes → height_of (all_cuts nodes) v ≤ 2 ^ 52
height-le p nodes v nest = omega (arith, weigh-le (λ s. is_in s v) (all_cuts nodes), nest.dual.total)

module _ (p : Problem) (regions : List Region) (marks : List (Option Mark)) (kept : IsKept p regions marks) where
  pub radii_fit : (x : ℕ) → radii_from regions x ≤ 2 ^ 52
  radii_fit x =
      omega (
        arith,
        radii-le regions x,
        all_radii marks regions kept.radii,
        sum_by-flat_map (λ (c : Cut). c.value) layers_of (nodes_of marks regions),
        kept.nest.dual.total,
      )

  pub radius_fits : (r : Region) → IsAmong r regions → r.radius ≤ 2 ^ 52
  radius_fits r a =
      omega (
        arith,
        radius-le-sum regions r a,
        all_radii marks regions kept.radii,
        sum_by-flat_map (λ (c : Cut). c.value) layers_of (nodes_of marks regions),
        kept.nest.dual.total,
      )

  pub cover_none : (v : ℕ) → mark_of marks v ≡ None → cover_of (nodes_of marks regions) v ≡ None
  cover_none v e = by (cover_of (nodes_of marks regions) v) refl
    where
      by : (o : Option ℕ) → cover_of (nodes_of marks regions) v ≡ o → o ≡ None
      by None f = refl
      by (Some name) f =
          let (m, at, source) = mark_over p regions marks kept v name f in
          absurd (let clash : None ≡ Some m = sym e ∙ at in cc)

  pub cover_some : (v : ℕ) (m : Mark) → mark_of marks v ≡ Some m → root_from regions m.leaf ≡ cover_of (nodes_of marks regions) v
  cover_some v m at =
      sym (root_covers p marks regions kept.nest regions (λ r h. h) kept.parents m.leaf m.source (kept.marked v m at).leaf)
      ∙ sym (same_cover p regions marks kept v m at)

  pub no_height : (v : ℕ) → mark_of marks v ≡ None → height_of (all_cuts (nodes_of marks regions)) v ≡ 0
  no_height v e = kept.nest.dual.uncovered v (cover_none v e)

  pub potential : (v r : ℕ) (m : Mark) → mark_of marks v ≡ Some m → r ≡ radii_from regions m.leaf
      → (m.distance ≤ r) × (r - m.distance ≡ height_of (all_cuts (nodes_of marks regions)) v)
  potential v r m at e =
      let balance = (kept.marked v m at).balance in
      (omega (arith, balance, e), omega (arith, balance, e))

  pub held_by_none : (v : ℕ) → mark_of marks v ≡ None → IsHolder (nodes_of marks regions) v None
  held_by_none v e = record { node = sym (cover_none v e); potential = sym (no_height v e) }

  -- the outer node round the leaf of a vertex's mark holds the vertex
  pub held_by : (v : ℕ) (m : Mark) (c : Climb) → mark_of marks v ≡ Some m → Some c ≡ climb_in regions m.leaf
      → (m.distance ≤ c.radii) × IsHolder (nodes_of marks regions) v (Some (record { node = c.root; potential = c.radii - m.distance }))
  held_by v m c at climb =
      let read = climb_read regions m.leaf c climb in
      let sum = potential v c.radii m at read.1 in
      (sum.0, record { node = sym read.0 ∙ cover_some v m at; potential = sum.1 })

-- the residue, read from two potentials
pub residue : (r w a b s t : ℕ) (cuts : List Cut) (e : Edge) → r ≡ w - (a + b) → w ≡ e.weight → a ≡ height_of cuts s → s ≡ e.first → b ≡ height_of cuts t
    → t ≡ e.second → load_of cuts e ≡ height_of cuts e.first + height_of cuts e.second → r ≡ e.weight - load_of cuts e
residue r w a b s t cuts e hr hw ha hs hb ht load =
    let a' : a ≡ height_of cuts e.first = ha ∙ ap (λ v. height_of cuts v) hs in
    let b' : b ≡ height_of cuts e.second = hb ∙ ap (λ v. height_of cuts v) ht in
    omega (arith, hr, hw, a', b', load)

pub empty_as_length : (xs : List ℕ) → (length xs == 0) ≡ is_empty xs
empty_as_length [] = refl
empty_as_length (x ∷ xs) = ne_eqb (length (x ∷ xs)) 0 (λ e. omega arith)

-- an odd cut has no more vertices than the problem
pub odd_sized : (p : Problem) → IsWithinLimits p → (defects : List ℕ) (c : Cut) → IsOddCut (with_defects p defects) c → length c.vertices ≤ p.vertices
odd_sized p limits defects c odd =
    omega (
      arith,
      length-le_from_within c.vertices (range_with_len 0 p.vertices) odd.distinct
          (distinct_from_rising (range_with_len 0 p.vertices) (range_rises 0 p.vertices))
          (λ v h. is_in-range p.vertices v (limits.real_below v (is_in-All (λ u. p.is_real u ≡ true) c.vertices odd.real v h))),
      length-range_with_len 0 p.vertices,
    )

-- a node has no more vertices than the problem
pub sized : (p : Problem) (regions : List Region) (marks : List (Option Mark)) → IsKept p regions marks → IsWithinLimits p → (r : Region) → IsAmong r regions
    → length (node_of marks r).top.vertices ≤ p.vertices
sized p regions marks kept limits r a =
    odd_sized p limits (leaves (nodes_of marks regions)) (node_of marks r).top
    (top_is_odd p (nodes_of marks regions) kept.nest (node_of marks r) (map_among (node_of marks) regions r a))

pub length-top : (marks : List (Option Mark)) (r : Region) → length (node_of marks r).top.vertices ≡ r.base + r.added
length-top marks r =
    omega (arith, length-append (first_of marks r) (added_to marks r), length-chain marks r.base r.base_last, length-chain marks r.added r.last)
