-- Nests of separated parts, and of a part and new defects, are nests of the whole; source walks stay.
use Rattle.std.proofs.Common.{ℕ, ◌≡◌, ◌∙◌, ◌+◌, ◌≤◌, true, false, List, ◌++◌, map, All, get_or, sum_by, refl, sym, ap, subst, arith}
use Rattle.std.proofs.lemmas.Bool.{both_ways, false_from_ne_true, or_left, or_right}
use Rattle.std.proofs.lemmas.List.Elements.{All-append, All-map}
use Rattle.fb_graph.specs.Parity.{is_in}
use Rattle.fb_graph.specs.Problem.{Problem, crosses, edge_at, with_defects}
use Rattle.fb_graph.specs.Certificate.{AreDistinct, IsPacking, load_of}
use Rattle.fb_graph.specs.Laws.{IsPart}
use Rattle.fb_graph.specs.Dual.{Node, all_cuts, leaves, height_of}
use Rattle.fb_graph.specs.declared.parts.Cut.{Cut}
use Rattle.fb_graph.specs.declared.parts.Edge.{Edge}
use Rattle.fb_graph.specs.Nests.{IsNest}
use Rattle.fb_graph.specs.NestUnions.{AreBeside, AreParts, HaveOwnNames, NestsMerged, NestSinglesAdded, WalksBeside, WalksMerged, WalksSinglesAdded}
use Rattle.fb_graph.specs.SourceWalks.{IsEdgeIn, IsWalkInside, HasWalks, HaveWalks}
use Rattle.fb_graph.specs.Singles.{Single, nodes_of, vertices_of}
use Rattle.fb_graph.proofs.Among.{IsAmong, All_among, among_All}
use Rattle.fb_graph.proofs.AppendedNodes.{cuts_merged}
use Rattle.fb_graph.proofs.BeginningNests.{nest_begins}
use Rattle.fb_graph.proofs.ClosedSets.{load-append, packings_joined}
use Rattle.fb_graph.proofs.NestUnions.{leaves_in, left_cut, left_height, nests_beside, own_left, own_right, right_cut, right_height}
use Rattle.fb_graph.proofs.Sets.{is_in-All}
use Rattle.fb_graph.proofs.SourceWalks.{walks_begin}
use Rattle.fb_graph.proofs.SingleStates.{cuts_are, no_sum, vertex_in}
use Rattle.fb_graph.proofs.Walks.{walk_same}

-- a walk inside a set stays one over the same edges, where its ends keep their potentials and its defect is one still
walk_over : (p whole : Problem) (nodes all : List Node) (set walk : List ℕ) (d v : ℕ) → p.edges ≡ whole.edges
    → is_in (leaves all) d ≡ true → height_of (all_cuts all) d ≡ height_of (all_cuts nodes) d
    → height_of (all_cuts all) v ≡ height_of (all_cuts nodes) v → IsWalkInside p nodes set walk d v
    → IsWalkInside whole all set walk d v
walk_over p whole nodes all set walk d v edges leaf at_d at_v is = record {
  defect = leaf;
  begins = is.begins;
  stays = subst (λ es. All (λ k. IsEdgeIn set (edge_at es k)) walk) edges is.stays;
  source = record {
    leads = walk_same p whole edges walk d v is.source.leads;
    balance =
        omega (
          arith,
          subst (λ es. sum_by (λ k. (edge_at es k).weight) walk + height_of (all_cuts nodes) v
              ≡ height_of (all_cuts nodes) d) edges is.source.balance,
          at_d,
          at_v,
        );
  };
}

module _ (left right whole : Problem) (nodes others : List Node) (beside : AreBeside left right whole nodes others)
    (one : IsNest left nodes) (two : IsNest right others) where
  left_walks : (c : Cut) → IsAmong c (all_cuts nodes) → HasWalks left nodes c.vertices
      → HasWalks whole (nodes ++ others) c.vertices
  left_walks c a has v within =
      let (walk, d, is) = has v within in
      let real : (u : ℕ) → is_in c.vertices u ≡ true → left.is_real u ≡ true =
      is_in-All (λ u. left.is_real u ≡ true) c.vertices
      (left_cut left right whole nodes others beside one two c a).real in (
        walk,
        d,
        walk_over left whole nodes (nodes ++ others) c.vertices walk d v beside.left_edges
            (leaves_in left right whole nodes others beside one two d
            ∙ or_left (is_in (leaves nodes) d) (is_in (leaves others) d) is.defect)
            (left_height left right whole nodes others beside one two d (real d is.begins))
            (left_height left right whole nodes others beside one two v (real v within)) is,
      )

  right_walks : (c : Cut) → IsAmong c (all_cuts others) → HasWalks right others c.vertices
      → HasWalks whole (nodes ++ others) c.vertices
  right_walks c a has v within =
      let (walk, d, is) = has v within in
      let real : (u : ℕ) → is_in c.vertices u ≡ true → right.is_real u ≡ true =
      is_in-All (λ u. right.is_real u ≡ true) c.vertices
      (right_cut left right whole nodes others beside one two c a).real in (
        walk,
        d,
        walk_over right whole others (nodes ++ others) c.vertices walk d v beside.right_edges
            (leaves_in left right whole nodes others beside one two d
            ∙ or_right (is_in (leaves nodes) d) (is_in (leaves others) d) is.defect)
            (right_height left right whole nodes others beside one two d (real d is.begins))
            (right_height left right whole nodes others beside one two v (real v within)) is,
      )

  all_walks : HaveWalks left nodes → HaveWalks right others → HaveWalks whole (nodes ++ others)
  all_walks first second =
      subst (All (λ c. HasWalks whole (nodes ++ others) c.vertices)) (sym (cuts_merged nodes others))
      (All-append (λ c. HasWalks whole (nodes ++ others) c.vertices) (all_cuts nodes) (all_cuts others)
      (among_All (λ c. HasWalks whole (nodes ++ others) c.vertices) (all_cuts nodes)
      (λ c a. left_walks c a (All_among (λ d. HasWalks left nodes d.vertices) (all_cuts nodes) first c a)))
      (among_All (λ c. HasWalks whole (nodes ++ others) c.vertices) (all_cuts others)
      (λ c a. right_walks c a (All_among (λ d. HasWalks right others d.vertices) (all_cuts others) second c a))))

pub walks_beside : WalksBeside
walks_beside left right whole nodes others beside one two first second =
    all_walks left right whole nodes others beside one two first second

pub beside_of_parts : (left right whole : Problem) (nodes others : List Node) → AreParts left right whole
    → HaveOwnNames nodes others → IsNest left nodes → IsNest right others → AreBeside left right whole nodes others
beside_of_parts left right whole nodes others parts names one two = record {
  left_edges = parts.left_part.edges;
  right_edges = parts.right_part.edges;
  left_real = parts.left_part.real;
  right_real = parts.right_part.real;
  parted = parts.separated.vertices;
  names = names;
  fits = packing.fits;
}
  where
    packing : IsPacking (with_defects whole (leaves nodes ++ leaves others)) (all_cuts nodes ++ all_cuts others)
    packing =
        packings_joined (with_defects left (leaves nodes)) (with_defects right (leaves others))
        (with_defects whole (leaves nodes ++ leaves others)) (all_cuts nodes) (all_cuts others)
        (record {
          edges = parts.left_part.edges;
          real = parts.left_part.real;
          defects = λ v real. sym (own_left left right nodes others parts.separated.vertices two v real);
        })
        (record {
          edges = parts.right_part.edges;
          real = parts.right_part.real;
          defects = λ v real. sym (own_right left right nodes others parts.separated.vertices one v real);
        })
        (record { vertices = parts.separated.vertices; edges = parts.separated.edges })
        one.dual.packing two.dual.packing

pub nests_merged : NestsMerged
nests_merged left right whole nodes others limits parts names one two =
    nests_beside left right whole nodes others limits
    (beside_of_parts left right whole nodes others parts names one two) one two

pub walks_merged : WalksMerged
walks_merged left right whole nodes others parts names one two first second =
    walks_beside left right whole nodes others (beside_of_parts left right whole nodes others parts names one two)
    one two first second

-- the problem whose real vertices are those of the singles
abbrev pub only_singles : Problem → List Single → Problem
only_singles whole singles = record whole { is_real = is_in (vertices_of singles) }

pub beside_of_singles : (p whole : Problem) (nodes : List Node) (singles : List Single) → IsPart p whole
    → All (λ s. whole.is_real s.vertex ≡ true) singles → All (λ s. p.is_real s.vertex ≡ false) singles
    → All (λ s. s.value ≡ 0) singles → HaveOwnNames nodes (nodes_of singles) → IsNest p nodes
    → AreBeside p (only_singles whole singles) whole nodes (nodes_of singles)
beside_of_singles p whole nodes singles part real unreal bare own nest = record {
  left_edges = part.edges;
  right_edges = refl;
  left_real = part.real;
  right_real =
      is_in-All (λ u. whole.is_real u ≡ true) (vertices_of singles)
      (All-map (λ u. whole.is_real u ≡ true) (λ s. s.vertex) singles real);
  parted = λ v real_v.
      false_from_ne_true (is_in (vertices_of singles) v)
      (λ within.
      both_ways (p.is_real v)
      (is_in-All (λ u. p.is_real u ≡ false) (vertices_of singles)
      (All-map (λ u. p.is_real u ≡ false) (λ s. s.vertex) singles unreal) v within) real_v);
  names = own;
  fits = λ k d less.
      light (get_or whole.edges k d)
      (subst (λ es. All (λ e. load_of (all_cuts nodes) e ≤ e.weight) es) part.edges nest.dual.packing.fits k d less);
}
  where
    light : (e : Edge) → load_of (all_cuts nodes) e ≤ e.weight
        → load_of (all_cuts nodes ++ all_cuts (nodes_of singles)) e ≤ e.weight
    light e fits =
        omega (
          arith,
          fits,
          load-append (all_cuts nodes) (all_cuts (nodes_of singles)) e,
          ap (λ cuts. load_of cuts e) (cuts_are singles),
          no_sum (λ s. crosses s e) singles bare,
        )

pub only_singles_nest : (whole : Problem) (singles : List Single) → AreDistinct (map (λ s. s.name) singles)
    → AreDistinct (vertices_of singles) → All (λ s. s.value ≡ 0) singles
    → IsNest (only_singles whole singles) (nodes_of singles)
only_singles_nest whole singles names vertices bare =
    nest_begins (only_singles whole singles) singles names vertices (λ i d less. vertex_in singles i d less) bare

pub nest_singles_added : NestSinglesAdded
nest_singles_added p whole nodes singles limits part names vertices real unreal bare own nest =
    nests_beside p (only_singles whole singles) whole nodes (nodes_of singles) limits
    (beside_of_singles p whole nodes singles part real unreal bare own nest) nest
    (only_singles_nest whole singles names vertices bare)

pub walks_singles_added : WalksSinglesAdded
walks_singles_added p whole nodes singles part names vertices real unreal bare own nest walks =
    walks_beside p (only_singles whole singles) whole nodes (nodes_of singles)
    (beside_of_singles p whole nodes singles part real unreal bare own nest) nest
    (only_singles_nest whole singles names vertices bare) walks (walks_begin (only_singles whole singles) singles)
