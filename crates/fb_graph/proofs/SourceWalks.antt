-- Each move keeps the source walks.
use Rattle.std.proofs.Common.{ℕ, ◌≡◌, ◌==◌, ◌⊎◌, inl, inr, true, false, List, [], ◌∷◌, ◌++◌, map, All, Some, None, get_or, refl, sym, ap, ◌∙◌, subst, arith}
use Rattle.std.proofs.Math.Bool.{or-false}
use Rattle.std.specs.List.{concat}
use Rattle.std.proofs.lemmas.Bool.{false≢true, false_from_ne_true, or_cases, or_left, eqb-true}
use Rattle.std.proofs.lemmas.List.Elements.{All-nil, All-map, All-push, All-weaker}
use Rattle.std.proofs.lemmas.List.Sums.{sum_by-append}
use Rattle.std.specs.Option.{IsSome}
use Rattle.fb_graph.specs.Parity.{is_in}
use Rattle.fb_graph.specs.Problem.{Problem, edge_at}
use Rattle.fb_graph.specs.Certificate.{load_of}
use Rattle.fb_graph.specs.Components.{Leads}
use Rattle.fb_graph.specs.Dual.{Node, AreUnderOne, IsWithin, all_cuts, layers_of, leaves, cover_of, height_of, is_live, taller_node, top_at}
use Rattle.fb_graph.specs.declared.parts.Cut.{Cut}
use Rattle.fb_graph.specs.declared.parts.Edge.{Edge}
use Rattle.fb_graph.proofs.Members.{is_in_push, is_in_pushed}
use Rattle.fb_graph.proofs.Nodes.{All-flat_map, All-pieces, All-top, All-below}
use Rattle.fb_graph.proofs.Sets.{is_in-All}
use Rattle.fb_graph.proofs.Walks.{IsWalkBy-append}
use Rattle.fb_graph.specs.Steps.{stepped_nodes, stepped_node}
use Rattle.fb_graph.specs.Singles.{nodes_of}
use Rattle.fb_graph.specs.Nests.{IsNest}
use Rattle.fb_graph.specs.Alike.{AreAlike}
use Rattle.fb_graph.specs.Moves.{blossom, joined_nodes, split_nodes, absorbed_nodes, uncovered_nodes}
use Rattle.fb_graph.specs.SourceWalks.{IsEdgeIn, IsWalkInside, HasWalks, HaveWalks, IsEdgeUnder, WalksBegin, WalksJoined, WalksSplit, WalksAbsorbed, WalksUncovered, WalksStepped, CoveredWalk}
use Rattle.fb_graph.proofs.Among.{IsAmong, All_among, among_All, live_among, top_among, same_among, covered_by, cover_among, in_concat, from_concat}
use Rattle.fb_graph.proofs.ChangedNodes.{change, by_name}
use Rattle.fb_graph.proofs.Forests.{IsUnder, cuts_under}
use Rattle.fb_graph.proofs.InsertedCuts.{inserted_All, removed_All}
use Rattle.fb_graph.proofs.JoinedNests as joining
use Rattle.fb_graph.proofs.TallerNodes.{taller_alike}
use Rattle.fb_graph.proofs.LoweredNests as lowering
use Rattle.fb_graph.proofs.NestParts.{grove_of}
use Rattle.fb_graph.proofs.SplitNests as splitting
use Rattle.fb_graph.proofs.SingleStates.{cut_of, cuts_are, leaves_are, vertex_in}
use Rattle.fb_graph.proofs.StepHeights.{leaves_stepped}
use Rattle.fb_graph.proofs.TightLinks.{source_stepped}

-- a walk stays one in a wider set, and in another state with the same defects and potentials
walks_wider : (p : Problem) (nodes : List Node) (set wide walk : List ℕ) (d v : ℕ) → IsWithin set wide → IsWalkInside p nodes set walk d v
    → IsWalkInside p nodes wide walk d v
walks_wider p nodes set wide walk d v within is = record {
  defect = is.defect;
  begins = within d is.begins;
  stays = All-weaker (λ k. IsEdgeIn set (edge_at p.edges k)) (λ k. IsEdgeIn wide (edge_at p.edges k))
      (λ k both. (within (edge_at p.edges k).first both.0, within (edge_at p.edges k).second both.1)) walk is.stays;
  source = is.source;
}

walks_same : (p : Problem) (old new : List Node) → leaves new ≡ leaves old → ((v : ℕ) → height_of (all_cuts new) v ≡ height_of (all_cuts old) v)
    → (set : List ℕ) → HasWalks p old set → HasWalks p new set
walks_same p old new same height set has v within =
    let (walk, d, is) = has v within in (
      walk,
      d,
      record {
        defect = ap (λ l. is_in l d) same ∙ is.defect;
        begins = is.begins;
        stays = is.stays;
        source = record { leads = is.source.leads; balance = omega (arith, is.source.balance, height d, height v) };
      },
    )

all_same : (p : Problem) (old new : List Node) → leaves new ≡ leaves old → ((v : ℕ) → height_of (all_cuts new) v ≡ height_of (all_cuts old) v)
    → (cuts : List Cut) → All (λ c. HasWalks p old c.vertices) cuts → All (λ c. HasWalks p new c.vertices) cuts
all_same p old new same height =
    All-weaker (λ c. HasWalks p old c.vertices) (λ c. HasWalks p new c.vertices) (λ c has. walks_same p old new same height c.vertices has)

-- the walks of a node's layers, and of its top
layers_walked : (p : Problem) (nodes : List Node) → HaveWalks p nodes → (n : Node) → IsAmong n nodes → All (λ c. HasWalks p nodes c.vertices) (layers_of n)
layers_walked p nodes walks =
    All_among (λ n. All (λ c. HasWalks p nodes c.vertices) (layers_of n)) nodes (All-pieces (λ c. HasWalks p nodes c.vertices) layers_of nodes walks)

top_walked : (p : Problem) (nodes : List Node) → HaveWalks p nodes → (n : Node) → IsAmong n nodes → HasWalks p nodes n.top.vertices
top_walked p nodes walks n a = All-top (λ c. HasWalks p nodes c.vertices) n.below n.top (layers_walked p nodes walks n a)

pub walks_begin : WalksBegin
walks_begin p singles =
    subst (All (λ c. HasWalks p (nodes_of singles) c.vertices)) (sym (cuts_are singles))
    (All-map (λ c. HasWalks p (nodes_of singles) c.vertices) cut_of singles
    (λ i e less v within.
    let same : (get_or singles i e).vertex ≡ v =
    eqb-true (get_or singles i e).vertex v (sym (or-false ((get_or singles i e).vertex == v)) ∙ within) in (
      [],
      v,
      record {
        defect =
            ap (λ l. is_in l v) (leaves_are singles)
            ∙ (ap (is_in (map (λ s. s.vertex) singles)) (sym same) ∙ vertex_in singles i e less);
        begins = within;
        stays = All-nil (λ k. IsEdgeIn ((get_or singles i e).vertex ∷ []) (edge_at p.edges k));
        source = record { leads = refl; balance = omega arith };
      },
    )))

pub walks_joined : WalksJoined
walks_joined p nodes name children may nest walks =
    inserted_All (λ c. HasWalks p (joined_nodes name children nodes) c.vertices) (blossom name children nodes).top (all_cuts nodes)
    (all_cuts (joined_nodes name children nodes)) (joining.insertion p nodes name children may nest)
    (all_same p nodes (joined_nodes name children nodes) (joining.same_leaves p nodes name children may nest) (joining.height p nodes name children may nest)
    (all_cuts nodes) walks)
    (walks_same p nodes (joined_nodes name children nodes) (joining.same_leaves p nodes name children may nest)
    (joining.height p nodes name children may nest) (concat (map (top_at nodes) children)) whole)
  where
    whole : HasWalks p nodes (concat (map (top_at nodes) children))
    whole v within =
        let (c, child, holds) = from_concat (top_at nodes) children v within in
        let (m, a, named) = live_among nodes c (is_in-All (λ x. is_live nodes x ≡ true) children may.live c child) in
        let top : top_at nodes c ≡ m.top.vertices = ap (top_at nodes) (sym named) ∙ top_among nodes nest.dual.names m a in
        let (walk, d, is) = top_walked p nodes walks m a v (ap (λ s. is_in s v) (sym top) ∙ holds) in (
          walk,
          d,
          walks_wider p nodes m.top.vertices (concat (map (top_at nodes) children)) walk d v
              (λ w h. in_concat (top_at nodes) children c w child (ap (λ s. is_in s w) top ∙ h)) is,
        )

pub walks_split : WalksSplit
walks_split p nodes name may nest walks =
    all_same p nodes (split_nodes name nodes) (splitting.same_leaves p nodes name may nest) (splitting.height p nodes name may nest)
    (all_cuts (split_nodes name nodes))
    (removed_All (λ c. HasWalks p nodes c.vertices) (splitting.at p nodes name may nest).node.top (all_cuts (split_nodes name nodes)) (all_cuts nodes)
    (splitting.insertion p nodes name may nest) walks)

pub walks_uncovered : WalksUncovered
walks_uncovered p nodes name may nest walks =
    all_same p nodes (uncovered_nodes name nodes) (lowering.same_leaves p nodes name may nest) (lowering.height p nodes name may nest)
    (all_cuts (uncovered_nodes name nodes))
    (removed_All (λ c. HasWalks p nodes c.vertices) (lowering.at p nodes name may nest).node.top (all_cuts (uncovered_nodes name nodes)) (all_cuts nodes)
    (lowering.insertion p nodes name may nest) walks)

pub walks_absorbed : WalksAbsorbed
walks_absorbed p nodes name k u v may nest walks =
    All-flat_map (λ c. HasWalks p (absorbed_nodes name v nodes) c.vertices) layers_of (absorbed_nodes name v nodes)
    (All-map (λ n. All (λ c. HasWalks p (absorbed_nodes name v nodes) c.vertices) (layers_of n)) (change name (taller_node v)) nodes
    (among_All (λ n. All (λ c. HasWalks p (absorbed_nodes name v nodes) c.vertices) (layers_of (change name (taller_node v) n))) nodes
    (λ n a.
    by_name (λ m. All (λ c. HasWalks p (absorbed_nodes name v nodes) c.vertices) (layers_of m)) name (taller_node v) n
    (λ named.
    All-push (λ c. HasWalks p (absorbed_nodes name v nodes) c.vertices) (layers_of n) (taller_node v n).top (still n a)
    (walks_same p nodes (absorbed_nodes name v nodes) alike.defects alike.heights (n.top.vertices ++ v ∷ []) (raised n a named)))
    (λ other. still n a))))
  where
    no_defect : is_in (leaves nodes) v ≡ false
    no_defect =
        false_from_ne_true (is_in (leaves nodes) v) (λ leaf. false≢true (subst IsSome may.uncovered (nest.dual.defects v leaf)))

    alike : AreAlike nodes (absorbed_nodes name v nodes)
    alike = (taller_alike nodes name v no_defect).0

    still : (n : Node) → IsAmong n nodes → All (λ c. HasWalks p (absorbed_nodes name v nodes) c.vertices) (layers_of n)
    still n a = all_same p nodes (absorbed_nodes name v nodes) alike.defects alike.heights (layers_of n) (layers_walked p nodes walks n a)

    -- the edge has the vertex's source on its other end
    full : (edge_at p.edges k).weight ≡ height_of (all_cuts nodes) u
    full = by (edge_at p.edges k) may.leads may.tight
      where
        by : (e : Edge) → Leads e u v → load_of (all_cuts nodes) e ≡ e.weight → e.weight ≡ height_of (all_cuts nodes) u
        by e (inl (a, b)) tight =
            let apart : ¬ AreUnderOne nodes e.first e.second =
            λ under. let clash : None ≡ Some under.0 = sym may.uncovered ∙ (ap (cover_of nodes) (sym b) ∙ under.2) in absurd (cc) in
            omega (arith, tight, nest.dual.loads e apart, ap (height_of (all_cuts nodes)) a, ap (height_of (all_cuts nodes)) b, nest.dual.uncovered v may.uncovered)
        by e (inr (a, b)) tight =
            let apart : ¬ AreUnderOne nodes e.first e.second =
            λ under. let clash : None ≡ Some under.0 = sym may.uncovered ∙ (ap (cover_of nodes) (sym b) ∙ under.1) in absurd (cc) in
            omega (arith, tight, nest.dual.loads e apart, ap (height_of (all_cuts nodes)) a, ap (height_of (all_cuts nodes)) b, nest.dual.uncovered v may.uncovered)

    raised : (n : Node) → IsAmong n nodes → n.name ≡ name → HasWalks p nodes (n.top.vertices ++ v ∷ [])
    raised n a named w within = pick (or_cases (is_in n.top.vertices w) (v == w) (sym (is_in_push n.top.vertices v w) ∙ within))
      where
        Found : Type 0
        Found = (walk : List ℕ) × (d : ℕ) × IsWalkInside p nodes (n.top.vertices ++ v ∷ []) walk d w

        wider : IsWithin n.top.vertices (n.top.vertices ++ v ∷ [])
        wider x h = is_in_push n.top.vertices v x ∙ or_left (is_in n.top.vertices x) (v == x) h

        inner : is_in n.top.vertices u ≡ true
        inner =
            let over = cover_among nodes u name may.covered in
            ap (λ m. is_in m.top.vertices u) (same_among nodes nest.dual.names n over.node a over.among (named ∙ sym over.named)) ∙ over.holds

        both : (e : Edge) → Leads e u v → IsEdgeIn (n.top.vertices ++ v ∷ []) e
        both e (inl (from, to)) = (
          ap (is_in (n.top.vertices ++ v ∷ [])) from ∙ wider u inner,
          ap (is_in (n.top.vertices ++ v ∷ [])) to ∙ is_in_pushed n.top.vertices v,
        )
        both e (inr (from, to)) = (
          ap (is_in (n.top.vertices ++ v ∷ [])) to ∙ is_in_pushed n.top.vertices v,
          ap (is_in (n.top.vertices ++ v ∷ [])) from ∙ wider u inner,
        )

        pick : (is_in n.top.vertices w ≡ true) ⊎ ((v == w) ≡ true) → Found
        pick (inl there) =
            let (walk, d, is) = top_walked p nodes walks n a w there in
            (walk, d, walks_wider p nodes n.top.vertices (n.top.vertices ++ v ∷ []) walk d w wider is)
        pick (inr same) =
            subst (λ x. (walk : List ℕ) × (d : ℕ) × IsWalkInside p nodes (n.top.vertices ++ v ∷ []) walk d x) (eqb-true v w same)
            (let (walk, d, is) = top_walked p nodes walks n a u inner in
            let wide = walks_wider p nodes n.top.vertices (n.top.vertices ++ v ∷ []) walk d u wider is in (
              walk ++ k ∷ [],
              d,
              record {
                defect = is.defect;
                begins = wide.begins;
                stays = All-push (λ j. IsEdgeIn (n.top.vertices ++ v ∷ []) (edge_at p.edges j)) walk k wide.stays (both (edge_at p.edges k) may.leads);
                source = record {
                  leads = IsWalkBy-append p walk (k ∷ []) d u v is.source.leads (v, may.within, may.leads, refl);
                  balance =
                      omega (
                        arith,
                        sum_by-append (λ j. (edge_at p.edges j).weight) walk (k ∷ []),
                        full,
                        is.source.balance,
                        nest.dual.uncovered v may.uncovered,
                      );
                };
              },
            ))

-- both ends of a walk inside a set are under the outer node that holds the set
under_one : (p : Problem) (nodes : List Node) → IsNest p nodes → (c : Cut) (under : IsUnder nodes c.vertices) (v : ℕ) → is_in c.vertices v ≡ true
    → cover_of nodes v ≡ Some under.node.name
under_one p nodes nest c under v h = covered_by nodes v nest.dual.apart under.node under.among under.outer (under.within v h)

pub walks_stepped : WalksStepped
walks_stepped p roles nodes k are low nest walks =
    All-flat_map (λ c. HasWalks p (stepped_nodes roles k nodes) c.vertices) layers_of (stepped_nodes roles k nodes)
    (All-map (λ n. All (λ c. HasWalks p (stepped_nodes roles k nodes) c.vertices) (layers_of n)) (stepped_node roles k) nodes
    (among_All (λ n. All (λ c. HasWalks p (stepped_nodes roles k nodes) c.vertices) (layers_of (stepped_node roles k n))) nodes
    (λ n a.
    let layers = All_among (λ m. All (λ c. HasWalks p (stepped_nodes roles k nodes) c.vertices) (layers_of m)) nodes
    (All-pieces (λ c. HasWalks p (stepped_nodes roles k nodes) c.vertices) layers_of nodes all_moved) n a in
    All-push (λ c. HasWalks p (stepped_nodes roles k nodes) c.vertices) n.below (stepped_node roles k n).top
    (All-below (λ c. HasWalks p (stepped_nodes roles k nodes) c.vertices) n.below n.top layers)
    (All-top (λ c. HasWalks p (stepped_nodes roles k nodes) c.vertices) n.below n.top layers))))
  where
    moved : (c : Cut) → IsUnder nodes c.vertices → HasWalks p nodes c.vertices → HasWalks p (stepped_nodes roles k nodes) c.vertices
    moved c under has v within =
        let (walk, d, is) = has v within in (
          walk,
          d,
          record {
            defect = ap (λ l. is_in l d) (leaves_stepped roles nodes k) ∙ is.defect;
            begins = is.begins;
            stays = is.stays;
            source =
                source_stepped p roles nodes k walk d v nest.dual.apart are low
                (under_one p nodes nest c under d is.begins ∙ sym (under_one p nodes nest c under v within)) is.source;
          },
        )

    all_moved : All (λ c. HasWalks p (stepped_nodes roles k nodes) c.vertices) (all_cuts nodes)
    all_moved i e less =
        moved (get_or (all_cuts nodes) i e) (cuts_under nodes (grove_of p nodes nest) i e less) (walks i e less)

pub covered_walk : CoveredWalk
covered_walk p nodes v name nest walks cover =
    let over = cover_among nodes v name cover in
    let (walk, d, is) = top_walked p nodes walks over.node over.among v over.holds in
    let covers : (w : ℕ) → is_in over.node.top.vertices w ≡ true → cover_of nodes w ≡ Some name =
    (λ w h. covered_by nodes w nest.dual.apart over.node over.among over.outer h ∙ ap Some over.named) in (
      walk,
      d,
      is.defect,
      covers d is.begins,
      All-weaker (λ k. IsEdgeIn over.node.top.vertices (edge_at p.edges k)) (λ k. IsEdgeUnder nodes name (edge_at p.edges k))
          (λ k both. (covers (edge_at p.edges k).first both.0, covers (edge_at p.edges k).second both.1)) walk is.stays,
      is.source,
    )
