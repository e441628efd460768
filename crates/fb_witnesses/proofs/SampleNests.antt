-- The moves of a nest, made on small graphs.
use Rattle.std.proofs.Common.{ℕ, ◌≡◌, ◌+◌, ◌*◌, ◌%◌, ◌≤◌, ◌<◌, ◌==◌, ◌&&◌, inl, inr, not, Bool, true, false, List, [], ◌∷◌, length, All, leb, ltb, refl, arith}
use Rattle.std.specs.List.{list_all}
use Rattle.std.proofs.lemmas.Bool.{and_parts, eqb-false, eqb-true, false≢true, leb-true, ltb-true, not-true}
use Rattle.std.proofs.lemmas.List.Elements.{All-from_recursion, All-weaker}
use Rattle.std.proofs.lemmas.List.Sums.{AllPass-from_list_all}
use Rattle.fb_graph.specs.Problem.{Problem}
use Rattle.fb_graph.specs.Certificate.{load_of}
use Rattle.fb_graph.specs.Limits.{IsEdge, IsWithinLimits, most_vertices, most_edges, most_weight}
use Rattle.fb_graph.specs.Dual.{Node, IsCrossed, all_cuts, is_empty, is_live, is_outer, node_at}
use Rattle.fb_graph.specs.declared.parts.Edge.{Edge}
use Rattle.fb_graph.specs.Steps.{Roles, AllowShrinking, gains, losses, stepped_nodes}
use Rattle.fb_graph.specs.Covers.{AreRoles}
use Rattle.fb_graph.specs.Links.{AreEven}
use Rattle.fb_graph.specs.Singles.{node_of, nodes_of}
use Rattle.fb_graph.specs.Nests.{IsNest}
use Rattle.fb_graph.specs.Moves.{MayJoin, MaySplit, MayAbsorb, MayUncover, absorbed_nodes}
use Rattle.fb_graph.specs.SourceWalks.{HaveWalks}
use Rattle.fb_witnesses.specs.InternalSamples.{single, line, triangle, corner_nodes, corner_roles, grown_nodes, grown_roles}
use Rattle.fb_witnesses.specs.NestWitnesses.{NestWitness, bare_corners, blossom_nodes, blossom_roles, wider_nodes}
use Rattle.fb_graph.proofs.BeginningNests.{nest_begins}
use Rattle.fb_graph.proofs.JoinedNests.{nest_joined}
use Rattle.fb_graph.proofs.RaisedNests.{nest_absorbed}
use Rattle.fb_witnesses.proofs.SampleStates.{may_by_cases, of_three, outer_by_cases}
use Rattle.fb_graph.proofs.SourceWalks.{walks_begin, walks_stepped, walks_absorbed}
use Rattle.fb_graph.proofs.SteppedNests.{nest_stepped}

-- a step whose edges are looked at one by one
pub stepped_by_cases : (p : Problem) (roles : Roles) (nodes : List Node) (k : ℕ) → IsWithinLimits p
    → AreRoles roles nodes
    → All (λ n. roles.is_plus n.name ≡ true → IsCrossed p n.top.vertices) nodes
    → list_all (λ e. leb (load_of (all_cuts nodes) e + k * gains roles nodes e)
    (e.weight + k * losses roles nodes e)) p.edges ≡ true
    → AllowShrinking roles nodes k → IsNest p nodes → IsNest p (stepped_nodes roles k nodes)
stepped_by_cases p roles nodes k limits are crossed right tops nest =
    nest_stepped p roles nodes k limits are crossed (may_by_cases p roles nodes k right tops) nest

abbrev pub is_edge : ℕ → Edge → Bool
is_edge n e =
    ltb e.first n && (ltb e.second n &&
    (not (e.first == e.second) && ((e.weight % 2 == 0) && leb e.weight most_weight)))

edge_by_cases : (n : ℕ) (e : Edge) → is_edge n e ≡ true → IsEdge n e
edge_by_cases n e right =
    let (first, rest) = and_parts (ltb e.first n)
    (ltb e.second n && (not (e.first == e.second) && ((e.weight % 2 == 0) && leb e.weight most_weight))) right in
    let (second, more) = and_parts (ltb e.second n)
    (not (e.first == e.second) && ((e.weight % 2 == 0) && leb e.weight most_weight)) rest in
    let (loopless, last) = and_parts (not (e.first == e.second))
    ((e.weight % 2 == 0) && leb e.weight most_weight) more in
    let (even, light) = and_parts (e.weight % 2 == 0) (leb e.weight most_weight) last in
    record {
      first = ltb-true e.first n first;
      second = ltb-true e.second n second;
      loopless = eqb-false e.first e.second (not-true (e.first == e.second) loopless);
      even = eqb-true (e.weight % 2) 0 even;
      light = leb-true e.weight most_weight light;
    }

pub limits_by_cases : (p : Problem) → p.vertices ≤ most_vertices → length p.edges ≤ most_edges
    → list_all (is_edge p.vertices) p.edges ≡ true
    → ((v : ℕ) → p.is_real v ≡ true → v < p.vertices) → IsWithinLimits p
limits_by_cases p vertices edges each below = record {
  vertices = vertices;
  edges = edges;
  each_edge =
      All-weaker (λ e. is_edge p.vertices e ≡ true) (IsEdge p.vertices) (edge_by_cases p.vertices) p.edges
      (AllPass-from_list_all (is_edge p.vertices) p.edges each);
  real_below = below;
}

triangle_limits : IsWithinLimits triangle
triangle_limits =
    limits_by_cases triangle (omega arith) (omega arith) refl
    (of_three (λ v. v < 4) 0 1 2 (omega arith) (omega arith) (omega arith))

line_limits : IsWithinLimits (line (2 ∷ []))
line_limits =
    limits_by_cases (line (2 ∷ [])) (omega arith) (omega arith) refl
    (of_three (λ v. v < 5) 1 2 3 (omega arith) (omega arith) (omega arith))

bare_roles : AreRoles corner_roles (nodes_of bare_corners)
bare_roles = record {
  exclusive = λ name plus. refl;
  plus = outer_by_cases corner_roles.is_plus (nodes_of bare_corners) outer;
  minus = outer_by_cases corner_roles.is_minus (nodes_of bare_corners) outer;
}
  where
    outer : All (λ n. is_outer (nodes_of bare_corners) n.name ≡ true) (nodes_of bare_corners)
    outer = All-from_recursion (λ n. is_outer (nodes_of bare_corners) n.name ≡ true) (nodes_of bare_corners)
        (refl, (refl, (refl, tt)))

bare_crossed : All (λ n. corner_roles.is_plus n.name ≡ true → IsCrossed triangle n.top.vertices)
    (nodes_of bare_corners)
bare_crossed =
    All-from_recursion (λ n. corner_roles.is_plus n.name ≡ true → IsCrossed triangle n.top.vertices)
    (nodes_of bare_corners)
    (λ plus. (0, omega arith, refl), (λ plus. (0, omega arith, refl), (λ plus. (1, omega arith, refl), tt)))

no_minus : (k : ℕ) → AllowShrinking corner_roles (nodes_of bare_corners) k
no_minus k =
    All-from_recursion (λ n. corner_roles.is_minus n.name ≡ true → k ≤ n.top.value) (nodes_of bare_corners)
    (λ e. absurd (false≢true e), (λ e. absurd (false≢true e), (λ e. absurd (false≢true e), tt)))

bare_nest : IsNest triangle (nodes_of bare_corners)
bare_nest =
    nest_begins triangle bare_corners (refl, (refl, (refl, tt))) (refl, (refl, (refl, tt)))
    (All-from_recursion (λ s. triangle.is_real s.vertex ≡ true) bare_corners (refl, (refl, (refl, tt))))
    (All-from_recursion (λ s. s.value ≡ 0) bare_corners (refl, (refl, (refl, tt))))

pub corner_nest : IsNest triangle corner_nodes
corner_nest = stepped_by_cases triangle corner_roles
    (nodes_of bare_corners) 1 triangle_limits bare_roles bare_crossed refl (no_minus 1) bare_nest

may_join : MayJoin corner_nodes 3 (0 ∷ 1 ∷ 2 ∷ [])
may_join = record {
  many = record { three = omega arith; odd = refl; distinct = (refl, (refl, (refl, tt))) };
  live = All-from_recursion (λ c. is_live corner_nodes c ≡ true) (0 ∷ 1 ∷ 2 ∷ []) (refl, (refl, (refl, tt)));
  outer = All-from_recursion (λ c. is_outer corner_nodes c ≡ true) (0 ∷ 1 ∷ 2 ∷ []) (refl, (refl, (refl, tt)));
  fresh = refl;
}

blossom_nest : IsNest triangle blossom_nodes
blossom_nest = nest_joined triangle corner_nodes 3 (0 ∷ 1 ∷ 2 ∷ []) may_join corner_nest

may_split : MaySplit blossom_nodes 3
may_split = record {
  live = refl;
  outer = refl;
  bare =
      All-from_recursion (λ n. n.name ≡ 3
      → (is_empty n.children ≡ false) × (n.below ≡ []) × (n.top.value ≡ 0)) blossom_nodes
      (λ e. absurd cc, (λ e. absurd cc, (λ e. absurd cc, (λ e. (refl, refl, refl), tt))));
}

blossom_are_roles : AreRoles blossom_roles blossom_nodes
blossom_are_roles = record {
  exclusive = λ name plus. refl;
  plus =
      All-from_recursion (λ n. blossom_roles.is_plus n.name ≡ true
      → is_outer blossom_nodes n.name ≡ true) blossom_nodes
      (λ e. absurd (false≢true e), (λ e. absurd (false≢true e), (λ e. absurd (false≢true e), (λ e. refl, tt))));
  minus =
      All-from_recursion (λ n. blossom_roles.is_minus n.name ≡ true
      → is_outer blossom_nodes n.name ≡ true) blossom_nodes
      (λ e. absurd (false≢true e), (λ e. absurd (false≢true e), (λ e. absurd (false≢true e), (λ e. refl, tt))));
}

pub grown_blossom : IsNest triangle (stepped_nodes blossom_roles 9 blossom_nodes)
grown_blossom =
    stepped_by_cases triangle blossom_roles blossom_nodes 9 triangle_limits blossom_are_roles
    (All-from_recursion (λ n. blossom_roles.is_plus n.name ≡ true → IsCrossed triangle n.top.vertices) blossom_nodes (
      λ e. absurd (false≢true e),
      (
        λ e. absurd (false≢true e),
        (λ e. absurd (false≢true e), (λ e. (3, omega arith, refl), tt)),
      ),
    ))
    refl
    (All-from_recursion (λ n. blossom_roles.is_minus n.name ≡ true → 9 ≤ n.top.value) blossom_nodes (
      λ e. absurd (false≢true e),
      (
        λ e. absurd (false≢true e),
        (λ e. absurd (false≢true e), (λ e. absurd (false≢true e), tt)),
      ),
    ))
    blossom_nest

-- a node of the line grows by the length
middle_grown : (n : Node) (k : ℕ) → n.name ≡ 0 → IsCrossed (line (2 ∷ [])) n.top.vertices
    → is_outer (n ∷ []) n.name ≡ true
    → list_all
    (λ e. leb (load_of (all_cuts (n ∷ [])) e + k * gains grown_roles (n ∷ []) e)
    (e.weight + k * losses grown_roles (n ∷ []) e))
    (line []).edges ≡ true
    → IsNest (line (2 ∷ [])) (n ∷ []) → IsNest (line (2 ∷ [])) (stepped_nodes grown_roles k (n ∷ []))
middle_grown n k named crossed outer right nest =
    stepped_by_cases (line (2 ∷ [])) grown_roles (n ∷ []) k line_limits
    (record {
      exclusive = λ name plus. refl;
      plus = outer_by_cases grown_roles.is_plus (n ∷ [])
          (All-from_recursion (λ m. is_outer (n ∷ []) m.name ≡ true) (n ∷ []) (outer, tt));
      minus = outer_by_cases grown_roles.is_minus (n ∷ [])
          (All-from_recursion (λ m. is_outer (n ∷ []) m.name ≡ true) (n ∷ []) (outer, tt));
    })
    (All-from_recursion (λ m. grown_roles.is_plus m.name ≡ true → IsCrossed (line (2 ∷ [])) m.top.vertices) (n ∷ [])
    (λ plus. crossed, tt))
    right
    (All-from_recursion (λ m. grown_roles.is_minus m.name ≡ true → k ≤ m.top.value) (n ∷ [])
    (λ e. absurd (false≢true e), tt))
    nest

alone : List Node
alone = nodes_of (single 0 2 2 ∷ [])

alone_nest : IsNest (line (2 ∷ [])) alone
unfolding alone
alone_nest =
    middle_grown (node_of (single 0 2 0)) 2 refl (1, omega arith, refl) refl refl
    (nest_begins (line (2 ∷ [])) (single 0 2 0 ∷ []) (refl, tt) (refl, tt)
    (All-from_recursion (λ s. (line (2 ∷ [])).is_real s.vertex ≡ true) (single 0 2 0 ∷ []) (refl, tt))
    (All-from_recursion (λ s. s.value ≡ 0) (single 0 2 0 ∷ []) (refl, tt)))

even_line : AreEven (line (2 ∷ []))
even_line = All-from_recursion (λ e. e.weight % 2 ≡ 0) (line []).edges (refl, (refl, (refl, (refl, tt))))

pair : List Node
pair = absorbed_nodes 0 3 alone

may_pair : MayAbsorb (line (2 ∷ [])) alone 0 2 2 3
unfolding alone
may_pair = record {
  within = omega arith;
  leads = inl
      (refl, refl);
  tight = refl;
  covered = refl;
  uncovered = refl;
  real = refl;
}

pair_nest : IsNest (line (2 ∷ [])) pair
unfolding alone pair
pair_nest = nest_absorbed (line (2 ∷ [])) alone 0 2 2 3 even_line may_pair alone_nest

pub wider_nest : IsNest (line (2 ∷ [])) wider_nodes
unfolding alone pair
wider_nest = middle_grown (node_at pair 0) 2 refl (1, omega arith, refl) refl refl pair_nest

pub wider_walks : HaveWalks (line (2 ∷ [])) wider_nodes
unfolding alone pair
wider_walks =
    walks_stepped (line (2 ∷ [])) grown_roles pair 2
    (record {
      exclusive = λ name plus. refl;
      plus = outer_by_cases grown_roles.is_plus pair
          (All-from_recursion (λ m. is_outer pair m.name ≡ true) pair (refl, tt));
      minus = outer_by_cases grown_roles.is_minus pair
          (All-from_recursion (λ m. is_outer pair m.name ≡ true) pair (refl, tt));
    })
    (All-from_recursion (λ m. grown_roles.is_minus m.name ≡ true → 2 ≤ m.top.value) pair
    (λ e. absurd (false≢true e), tt))
    pair_nest
    (walks_absorbed (line (2 ∷ [])) alone 0 2 2 3 may_pair alone_nest (walks_begin (line (2 ∷ [])) (single 0 2 2 ∷ [])))

may_absorb : MayAbsorb (line (2 ∷ [])) wider_nodes 0 1 2 1
may_absorb =
    record {
      within = omega arith;
      leads = inr
          (refl, refl);
      tight = refl;
      covered = refl;
      uncovered = refl;
      real = refl;
    }

grown_nest : IsNest (line (2 ∷ [])) grown_nodes
grown_nest = nest_absorbed (line (2 ∷ [])) wider_nodes 0 1 2 1 even_line may_absorb wider_nest

may_uncover : MayUncover grown_nodes 0
may_uncover = record {
  live = refl;
  outer = refl;
  bare = All-from_recursion (λ n. n.name ≡ 0 → (1 ≤ length n.below) × (n.top.value ≡ 0)) grown_nodes
      (λ e. (omega arith, refl), tt);
}

pub nest_witness : NestWitness
nest_witness = (
  (refl, (refl, (refl, tt))),
  (refl, (refl, (refl, tt))),
  All-from_recursion (λ s. triangle.is_real s.vertex ≡ true) bare_corners (refl, (refl, (refl, tt))),
  All-from_recursion (λ s. s.value ≡ 0) bare_corners (refl, (refl, (refl, tt))),
  triangle_limits,
  bare_roles,
  bare_crossed,
  may_by_cases triangle corner_roles (nodes_of bare_corners) 1 refl (no_minus 1),
  bare_nest,
  may_join,
  corner_nest,
  may_split,
  blossom_nest,
  grown_blossom,
  even_line,
  may_absorb,
  wider_nest,
  may_uncover,
  grown_nest,
)
