-- Searches on small graphs: a layer taken off, and blossoms formed.
use Rattle.std.proofs.Common.{ℕ, ◌≡◌, ◌+◌, ◌%◌, ◌≤◌, ◌==◌, inl, inr, true, false, List, [], ◌∷◌, ◌++◌, length, refl, sym, ◌∙◌, arith}
use Rattle.std.specs.List.{list_all}
use Rattle.std.proofs.lemmas.Bool.{both_ways, false≢true, false_from_ne_true, ne_eqb, or_from, or_left}
use Rattle.std.proofs.lemmas.List.Elements.{All-from_recursion}
use Rattle.std.proofs.lemmas.List.Sums.{AllPass-from_list_all}
use Rattle.fb_graph.specs.Parity.{is_in}
use Rattle.fb_graph.specs.Problem.{Problem, edge_at}
use Rattle.fb_graph.specs.Certificate.{AreDistinct, IsOddCut}
use Rattle.fb_graph.specs.Components.{IsWalkBy}
use Rattle.fb_graph.specs.Laws.{Link, IsTight, has_real_end}
use Rattle.fb_graph.specs.Dual.{Node, IsDual, IsHeld, all_cuts, leaves, height_of, is_outer}
use Rattle.fb_graph.proofs.Sets.{is_in-head}
use Rattle.fb_graph.specs.Counts.{as_count}
use Rattle.fb_graph.specs.Ends.{ends_in}
use Rattle.fb_laws.specs.Fusion.{IsLinkOf}
use Rattle.fb_graph.specs.Links.{IsTightLink, AreEven}
use Rattle.fb_graph.specs.Moves.{MayAbsorb, MayUncover, uncovered_nodes}
use Rattle.fb_graph.specs.Nests.{IsNest}
use Rattle.fb_witnesses.specs.InternalSamples.{link, triangle, corner_nodes}
use Rattle.fb_laws.specs.SearchBlossoms.{IsJoining}
use Rattle.fb_laws.specs.Searches.{IsSearch, IsOuterNode}
use Rattle.fb_graph.specs.SourceWalks.{HaveWalks}
use Rattle.fb_graph.specs.Singles.{AreSingles, nodes_of}
use Rattle.fb_laws.specs.Trees.{Entry, IsTree, grown_links, paired_links, tree_names}
use Rattle.fb_witnesses.specs.TreeWitnesses.{LayerWitness, JoiningWitness, long_line, long_singles, thin_nodes, thin_branch, corner_branch, base_corner, other_corners, open_line, open_singles}
use Rattle.fb_laws.specs.UnmatchedNames.{AreOuterNames}
use Rattle.fb_laws.specs.Works.{AreMatchedLinks, AreMatched, HasDefects, IsSetOf}
use Rattle.fb_laws.specs.Opening.{EndsAtDefects}
use Rattle.fb_graph.proofs.BeginningNests.{singles_are_nest}
use Rattle.fb_graph.proofs.JoinedNests.{nest_joined}
use Rattle.fb_graph.proofs.TallerNodes.{taller_alike}
use Rattle.fb_graph.proofs.LoweredNests.{nest_uncovered}
use Rattle.fb_laws.proofs.MoveBridges.{joining_allowed}
use Rattle.fb_graph.proofs.RaisedNests.{nest_absorbed}
use Rattle.fb_witnesses.proofs.SampleNests.{corner_nest}
use Rattle.fb_witnesses.proofs.SampleParts.{corner_height, one_height, some_walk}
use Rattle.fb_witnesses.proofs.SampleStates.{odd_cut, of_three}
use Rattle.fb_graph.proofs.SourceWalks.{walks_begin, walks_absorbed}
use Rattle.fb_graph.proofs.SingleStates.{singles_are_dual, all_outer}
use Rattle.fb_laws.proofs.UnmatchedNames.{outer_absorbed}
use Rattle.fb_witnesses.proofs.ByCases.{fits_by_cases}

-- one link whose walk begins with an edge
pub one_link : (p : Problem) (nodes : List Node) (u v k : ℕ) (ks : List ℕ) → IsWalkBy p (k ∷ ks) u v
    → IsTight p (all_cuts nodes) (link u v (k ∷ ks))
    → list_all (λ j. has_real_end p (edge_at p.edges j)) (k ∷ ks) ≡ true
    → (p.is_real u ≡ true → is_in (leaves nodes) u ≡ true) → (p.is_real v ≡ true → is_in (leaves nodes) v ≡ true)
    → AreMatchedLinks p nodes (link u v (k ∷ ks) ∷ [])
one_link p nodes u v k ks walk tight real at_u at_v = record {
  tight = All-from_recursion (IsTightLink p (all_cuts nodes)) (link u v (k ∷ ks) ∷ [])
      (record { walk = walk; tight = tight }, tt);
  own =
      All-from_recursion (IsLinkOf p) (link u v (k ∷ ks) ∷ []) (
        record {
          walk = walk;
          moves = some_walk k ks;
          real = AllPass-from_list_all (λ j. has_real_end p (edge_at p.edges j)) (k ∷ ks) real;
        },
        tt,
      );
  at_defects =
      All-from_recursion
      (EndsAtDefects p (leaves nodes))
      (link u v (k ∷ ks) ∷ []) ((at_u, at_v), tt);
}

-- the search of a root that is the one unmatched node, where all potentials have the parity
pub one_search : (p : Problem) (nodes : List Node) (tree : List Entry) (rest : List Link) (root r : ℕ)
    → IsDual p nodes
    → HasDefects p nodes → AreMatchedLinks p nodes (paired_links tree ++ rest)
    → AreMatched nodes (paired_links tree ++ rest) (root ∷ [])
    → ((d : ℕ) → is_in (leaves nodes) d ≡ true → height_of (all_cuts nodes) d % 2 ≡ r) → IsOuterNode nodes root
    → AreDistinct (tree_names root tree) → IsTree nodes root tree → AreMatchedLinks p nodes (grown_links tree)
    → IsSearch p nodes tree rest (root ∷ []) root r
one_search p nodes tree rest root r dual defects links matched heights root_is names joined grown = record {
  matching = record {
    dual = dual;
    defects = defects;
    links_are = links;
    matched = matched;
    one_parity = one_height nodes r heights;
  };
  root_is = root_is;
  open_root = is_in-head root [];
  names = names;
  joined = joined;
  grown = grown;
  parity = λ d name leaf cover among. heights d leaf;
}

-- the longer line

long_are_singles : AreSingles long_line long_singles
long_are_singles = record {
  names = (refl, (refl, (refl, tt)));
  vertices = (refl, (refl, (refl, tt)));
  real = All-from_recursion (λ s. long_line.is_real s.vertex ≡ true) long_singles (refl, (refl, (refl, tt)));
  packing = record {
    odd =
        All-from_recursion (IsOddCut long_line) (all_cuts (nodes_of long_singles)) (
          odd_cut _ _ (refl, tt) refl refl,
          (odd_cut _ _ (refl, tt) refl refl, (odd_cut _ _ (refl, tt) refl refl, tt)),
        );
    fits = fits_by_cases long_line (all_cuts (nodes_of long_singles)) refl;
  };
  held =
      All-from_recursion (IsHeld long_line) (all_cuts (nodes_of long_singles))
      (inr (0, omega arith, refl), (inr (2, omega arith, refl), (inl refl, tt)));
  total = omega arith;
}

pub even_long : AreEven long_line
even_long = All-from_recursion (λ e. e.weight % 2 ≡ 0) long_line.edges (refl, (refl, (refl, (refl, (refl, tt)))))

long_nest : IsNest long_line (nodes_of long_singles)
long_nest =
    singles_are_nest long_line long_singles (refl, (refl, (refl, tt)))
    (singles_are_dual long_line long_singles long_are_singles)

-- the second defect's node may absorb the vertex between the first two
may_rise : MayAbsorb long_line (nodes_of long_singles) 1 2 3 2
may_rise = record {
  within = omega arith;
  leads = inr (refl, refl);
  tight = refl;
  covered = refl;
  uncovered = refl;
  real = refl;
}

pub thin_nest : IsNest long_line thin_nodes
thin_nest = nest_absorbed long_line (nodes_of long_singles) 1 2 3 2 even_long may_rise long_nest

pub thin_walks : HaveWalks long_line thin_nodes
thin_walks =
    walks_absorbed long_line (nodes_of long_singles) 1 2 3 2 may_rise long_nest (walks_begin long_line long_singles)

pub thin_outer : AreOuterNames thin_nodes (0 ∷ [])
thin_outer = outer_absorbed (nodes_of long_singles) 1 2 (0 ∷ []) (λ n among. all_outer long_singles n)

pub thin_search : IsSearch long_line thin_nodes (thin_branch ∷ []) [] (0 ∷ []) 0 0
thin_search =
    one_search long_line thin_nodes (thin_branch ∷ []) [] 0 0 thin_nest.dual (λ v real. refl)
    (one_link long_line thin_nodes 3 4 3 [] (4, omega arith, inl (refl, refl), refl) refl refl (λ h. refl)
    (λ h. refl))
    (All-from_recursion
    (λ n. is_outer thin_nodes n.name ≡ true
    → ends_in n.top.vertices (link 3 4 (3 ∷ []) ∷ []) + as_count (is_in (0 ∷ []) n.name) ≡ 1) thin_nodes
    (λ outer. refl, (λ outer. refl, (λ outer. refl, tt))))
    (of_three (λ d. height_of (all_cuts thin_nodes) d % 2 ≡ 0) 1 3 4 refl refl refl) (1, refl, refl)
    (refl, (refl, (refl, tt)))
    (refl, inl (refl, refl), inl (refl, refl), tt)
    (one_link long_line thin_nodes 1 3 1 (2 ∷ [])
    (2, omega arith, inl (refl, refl), (3, omega arith, inl (refl, refl), refl)) refl refl (λ h. refl)
    (λ h. refl))

pub may_thin : MayUncover thin_nodes 1
may_thin = record {
  live = refl;
  outer = refl;
  bare =
      All-from_recursion (λ n. n.name ≡ 1 → (1 ≤ length n.below) × (n.top.value ≡ 0)) thin_nodes
      (λ e. absurd cc, (λ e. (omega arith, refl), (λ e. absurd cc, tt)));
}

pub layer_witness : LayerWitness
layer_witness = (
  thin_search,
  (taller_alike (uncovered_nodes 1 thin_nodes) 1 2 refl).1,
  (nest_uncovered long_line thin_nodes 1 may_thin thin_nest).dual,
  refl,
  refl,
  refl,
  refl,
  refl,
  refl,
  refl,
  refl,
  refl,
  omega arith,
  refl,
)

-- the corners of the triangle

corner_search : IsSearch triangle corner_nodes (corner_branch ∷ []) [] (2 ∷ []) 2 1
corner_search =
    one_search triangle corner_nodes (corner_branch ∷ []) [] 2 1 corner_nest.dual (λ v real. refl)
    (one_link triangle corner_nodes 1 0 0 [] (0, omega arith, inr (refl, refl), refl) refl refl (λ h. refl)
    (λ h. refl))
    (All-from_recursion
    (λ n. is_outer corner_nodes n.name ≡ true
    → ends_in n.top.vertices (link 1 0 (0 ∷ []) ∷ []) + as_count (is_in (2 ∷ []) n.name) ≡ 1) corner_nodes
    (λ outer. refl, (λ outer. refl, (λ outer. refl, tt))))
    corner_height (2, refl, refl) (refl, (refl, (refl, tt))) (refl, inl (refl, refl), inl (refl, refl), tt)
    (one_link triangle corner_nodes 2 1 1 [] (1, omega arith, inr (refl, refl), refl) refl refl (λ h. refl)
    (λ h. refl))

corner_joining : IsJoining corner_nodes (corner_branch ∷ []) 2 3 base_corner other_corners
corner_joining = record {
  nodes_are =
      All-from_recursion (λ c. IsSetOf corner_nodes c.name c.set) (base_corner ∷ other_corners) (
        (2, omega arith, refl, refl, refl),
        ((1, omega arith, refl, refl, refl), ((0, omega arith, refl, refl, refl), tt)),
      );
  distinct = (refl, (refl, (refl, tt)));
  in_tree =
      All-from_recursion (λ c. is_in (1 ∷ 0 ∷ 2 ∷ []) c.name ≡ true) (base_corner ∷ other_corners)
      (refl, (refl, (refl, tt)));
  plus = refl;
  branches = record {
    inner =
        All-from_recursion
        (λ e. is_in (2 ∷ 1 ∷ 0 ∷ []) e.minus ≡ true
        → (is_in (2 ∷ 1 ∷ 0 ∷ []) e.parent ≡ true) × (is_in (2 ∷ 1 ∷ 0 ∷ []) e.plus ≡ true))
        (corner_branch ∷ []) (λ h. (refl, refl), tt);
    outer =
        All-from_recursion (λ e. is_in (2 ∷ 1 ∷ 0 ∷ []) e.minus ≡ false → is_in (2 ∷ 1 ∷ 0 ∷ []) e.plus ≡ true
        → e.plus ≡ 2)
        (corner_branch ∷ []) (λ h. absurd (false≢true (sym h)), tt);
    roots = λ h. refl;
  };
  even = refl;
  fresh = refl;
}

open_are_singles : AreSingles open_line open_singles
open_are_singles = record {
  names = (refl, (refl, (refl, tt)));
  vertices = (refl, (refl, (refl, tt)));
  real = All-from_recursion (λ s. open_line.is_real s.vertex ≡ true) open_singles (refl, (refl, (refl, tt)));
  packing = record {
    odd =
        All-from_recursion (IsOddCut open_line) (all_cuts (nodes_of open_singles)) (
          odd_cut _ _ (refl, tt) refl refl,
          (odd_cut _ _ (refl, tt) refl refl, (odd_cut _ _ (refl, tt) refl refl, tt)),
        );
    fits = fits_by_cases open_line (all_cuts (nodes_of open_singles)) refl;
  };
  held =
      All-from_recursion (IsHeld open_line) (all_cuts (nodes_of open_singles))
      (inr (0, omega arith, refl), (inl refl, (inr (1, omega arith, refl), tt)));
  total = omega arith;
}

open_search : IsSearch open_line (nodes_of open_singles) (corner_branch ∷ []) [] (2 ∷ []) 2 0
open_search =
    one_search open_line (nodes_of open_singles) (corner_branch ∷ []) [] 2 0
    (singles_are_dual open_line open_singles open_are_singles)
    (λ v real. refl)
    (one_link open_line (nodes_of open_singles) 1 0 0 [] (0, omega arith, inr (refl, refl), refl) refl refl
    (λ h. refl) (λ h. refl))
    (All-from_recursion
    (λ n. is_outer (nodes_of open_singles) n.name ≡ true
    → ends_in n.top.vertices (link 1 0 (0 ∷ []) ∷ []) + as_count (is_in (2 ∷ []) n.name) ≡ 1)
    (nodes_of open_singles) (λ outer. refl, (λ outer. refl, (λ outer. refl, tt))))
    (of_three (λ d. height_of (all_cuts (nodes_of open_singles)) d % 2 ≡ 0) 0 1 2 refl refl refl) (2, refl, refl)
    (refl, (refl, (refl, tt)))
    (refl, inl (refl, refl), inl (refl, refl), tt)
    (one_link open_line (nodes_of open_singles) 2 1 1 [] (1, omega arith, inr (refl, refl), refl) refl refl
    (λ h. refl) (λ h. refl))

-- neither the old root nor the blossom
pub elsewhere : (name root : ℕ) (others : List ℕ) (n : ℕ) → is_in (root ∷ others) n ≡ false → (n ≡ name → ⊥)
    → is_in (name ∷ []) n ≡ is_in (root ∷ []) n
elsewhere name root others n outside other =
    or_from (name == n) false (ne_eqb name n (λ e. other (sym e))) refl
    ∙ sym (or_from (root == n) false (false_from_ne_true (root == n)
    (λ e. both_ways (is_in (root ∷ others) n) outside (or_left (root == n) (is_in others n) e))) refl)

pub joining_witness : JoiningWitness
joining_witness = (
  corner_search,
  corner_joining,
  (nest_joined triangle corner_nodes 3 (2 ∷ 1 ∷ 0 ∷ [])
      (joining_allowed corner_nodes (corner_branch ∷ []) 2 3 base_corner other_corners corner_joining
      (omega arith) refl) corner_nest).dual,
  refl,
  elsewhere 3 2 (1 ∷ 0 ∷ []),
  refl,
  refl,
  open_search,
  refl,
)
