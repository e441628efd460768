-- A step of the tree keeps what every search keeps.
use Rattle.std.proofs.Common.{ℕ, ◌≡◌, ◌+◌, ◌*◌, ◌%◌, ◌≤◌, ◌⊎◌, inl, inr, Bool, true, false, List, ◌++◌, Option, Some, None, refl, sym, ap, ◌∙◌, subst, arith}
use Rattle.std.proofs.lemmas.List.Elements.{All-weaker}
use Rattle.fb_graph.specs.Counts.{as_count}
use Rattle.fb_graph.specs.Problem.{Problem, edge_at}
use Rattle.fb_graph.specs.Laws.{Link}
use Rattle.fb_graph.specs.Limits.{DecodingGraph, IsWithinLimits, no_shot}
use Rattle.fb_graph.specs.Covers.{is_covered_by, passes}
use Rattle.fb_graph.specs.Dual.{AreUnderOne, Node, cover_of}
use Rattle.fb_graph.specs.Nests.{first_set}
use Rattle.fb_graph.specs.Steps.{MayStep, Roles, stepped_nodes, stepped_node}
use Rattle.fb_graph.proofs.Among.{among_All}
use Rattle.fb_graph.proofs.MappedNodes.{AreKept, mapped_outer, mapped_live}
use Rattle.fb_graph.proofs.StepHeights.{cover_stepped}
use Rattle.fb_graph.proofs.SteppedNests.{first_stepped}
use Rattle.fb_laws.specs.LinkNumbers.{tree_links}
use Rattle.fb_laws.specs.PartStates.{IsSearchState}
use Rattle.fb_laws.specs.Searches.{LeavesNode}
use Rattle.fb_laws.specs.Trees.{Connects, roles_of}
use Rattle.fb_laws.proofs.StateMoves.{state_stepped}
use Rattle.fb_half.specs.Matchings.{IsMatchOf, match_links}
use Rattle.fb_half.specs.Parts.{AreLinksOf, graph_in}
use Rattle.fb_half.specs.Translations.{link_by}
use Rattle.fb_obstacles.specs.Obstacles.{AreMinusBounded, IsWatched, slack_at}
use Rattle.fb_obstacles.specs.Watched.{AreBounded}
use Rattle.fb_plan.specs.Plans.{PlanTree, problem_at}
use Rattle.fb_trees.specs.TreesOver.{IsTreeOver}
use Rattle.fb_search.specs.InternalGrowth.{lowered_by}
use Rattle.fb_search.specs.InternalSearching.{stepped_by}
use Rattle.fb_search.specs.InternalSearching.{IsSearching, SearchValue, problem_of, roles_in, state_at}
use Rattle.fb_search.proofs.MinusBounds.{minus_stepped}
use Rattle.fb_search.proofs.KeptBounds.{bounded_stepped}
use Rattle.fb_search.proofs.Relayered.{agreed_relayered, ring_relayered}
use Rattle.fb_search.proofs.Runs.{roles_by_numbers, tree_roles}
use Rattle.fb_search.proofs.SearchRoles.{no_odd_closed, roles_in_tree}

module _ (roles : Roles) (k : ℕ) (nodes : List Node) where
  pub kept_stepped : AreKept (stepped_node roles k) nodes
  kept_stepped = record {
    name = λ n. refl;
    children = λ n. refl;
    first = among_All (λ n. first_set (stepped_node roles k n) ≡ first_set n) nodes (λ n a. first_stepped roles k n);
    inner = λ i d less inner. refl;
  }

  cover : (v : ℕ) → cover_of (stepped_nodes roles k nodes) v ≡ cover_of nodes v
  cover v = cover_stepped roles nodes k v

  connects_stepped : (l : Link) (a b : ℕ) → Connects nodes l a b → Connects (stepped_nodes roles k nodes) l a b
  connects_stepped l a b (inl (from, to)) = inl (cover l.from ∙ from, cover l.to ∙ to)
  connects_stepped l a b (inr (to, from)) = inr (cover l.to ∙ to, cover l.from ∙ from)

  leaves_stepped : (l : Link) (a v : ℕ) → LeavesNode nodes l a v → LeavesNode (stepped_nodes roles k nodes) l a v
  leaves_stepped l a v (inl (from, to)) = inl (cover l.from ∙ from, to)
  leaves_stepped l a v (inr (to, from)) = inr (cover l.to ∙ to, from)

  pub match_stepped : (p : Problem) (l : Link) (a : ℕ) (second : Option ℕ) → IsMatchOf p nodes l a second
      → IsMatchOf p (stepped_nodes roles k nodes) l a second
  match_stepped p l a None (v, leaves, real) = (v, leaves_stepped l a v leaves, real)
  match_stepped p l a (Some b) connects = connects_stepped l a b connects

  over_before : (test : ℕ → _) (v : ℕ) → is_covered_by test (stepped_nodes roles k nodes) v ≡ true → is_covered_by test nodes v ≡ true
  over_before test v over = ap (passes test) (sym (cover v)) ∙ over

  under_after : (u v : ℕ) → AreUnderOne nodes u v → AreUnderOne (stepped_nodes roles k nodes) u v
  under_after u v (n, first, second) = (n, cover u ∙ first, cover v ∙ second)

  pub watch_stepped : (p : Problem) (seen : Roles) (edges : List ℕ) → IsWatched p seen nodes edges
      → IsWatched p seen (stepped_nodes roles k nodes) edges
  watch_stepped p seen edges watch = record {
    within = watch.within;
    near = λ j less over apart. watch.near j less (by (edge_at p.edges j).first (edge_at p.edges j).second over)
        (λ one. apart (under_after (edge_at p.edges j).first (edge_at p.edges j).second one));
  }
    where
      by : (u v : ℕ)
          → (is_covered_by seen.is_plus (stepped_nodes roles k nodes) u ≡ true) ⊎ (is_covered_by seen.is_plus (stepped_nodes roles k nodes) v ≡ true)
          → (is_covered_by seen.is_plus nodes u ≡ true) ⊎ (is_covered_by seen.is_plus nodes v ≡ true)
      by u v (inl over) = inl (over_before seen.is_plus u over)
      by u v (inr over) = inr (over_before seen.is_plus v over)

pub searching_stepped : (w : SearchValue) (k : ℕ) → IsSearching w → IsWithinLimits (problem_of w)
    → MayStep (problem_of w) (roles_of w.tree.root w.tree.branches) w.part.nodes k → IsSearching (stepped_by k w)
searching_stepped w k are limits may =
    let roles : Roles = roles_of w.tree.root w.tree.branches in
    let parity = are.state.0 in
    record {
      job = are.job;
      slot = are.slot;
      node = are.node;
      state = (
        (parity + k) % 2,
        subst (λ r. IsSearchState (problem_of w) (record (state_at w ((parity + k) % 2)) { nodes = stepped_nodes r k w.part.nodes })) (roles_by_numbers w)
            (state_stepped (problem_of w) (state_at w parity) k limits (no_odd_closed w are)
            (subst (λ r. MayStep (problem_of w) r w.part.nodes k) (sym (roles_by_numbers w)) may) are.state.1),
      );
      agreed = agreed_relayered (stepped_node roles k) w.part.nodes (kept_stepped roles k w.part.nodes) w.part.store are.agreed;
      links =
          subst (λ rings. AreLinksOf (problem_of w) w.part.links (tree_links w.tree.branches ++ (match_links w.part.matching.matches ++ rings)))
          (sym (ring_relayered (stepped_node roles k) w.part.nodes (kept_stepped roles k w.part.nodes) w.part.store)) are.links;
      matching = record {
        distinct = are.matching.distinct;
        live = λ x listed. (
          mapped_live (stepped_node roles k) (λ n. refl) w.part.nodes x ∙ (are.matching.live x listed).0,
          mapped_outer (stepped_node roles k) (λ n. refl) w.part.nodes x ∙ (are.matching.live x listed).1,
        );
        all = λ x live outer.
            are.matching.all x (sym (mapped_live (stepped_node roles k) (λ n. refl) w.part.nodes x) ∙ live)
            (sym (mapped_outer (stepped_node roles k) (λ n. refl) w.part.nodes x) ∙ outer);
        connects =
            All-weaker (λ e. IsMatchOf (problem_of w) w.part.nodes (link_by w.part.links e.link) e.first e.second)
            (λ e. IsMatchOf (problem_of w) (stepped_nodes roles k w.part.nodes) (link_by w.part.links e.link) e.first e.second)
            (λ e is. match_stepped roles k w.part.nodes (problem_of w) (link_by w.part.links e.link) e.first e.second is)
            w.part.matching.matches are.matching.connects;
      };
      room = are.room;
      watch = watch_stepped roles k w.part.nodes (problem_of w) (roles_in w) w.watched.edges are.watch;
      bounds =
          subst
          (λ r.
          AreBounded (slack_at (problem_of w) r (stepped_nodes roles k w.part.nodes)) (lowered_by k w.watched))
          (sym (roles_in_tree w are))
          (bounded_stepped roles w.part.nodes k are.state.1.search.nest.dual.apart (tree_roles w are) may.tops (problem_of w)
          w.watched
          (subst (λ r. AreBounded (slack_at (problem_of w) r w.part.nodes) w.watched) (roles_in_tree w are) are.bounds));
      minus =
          subst (λ r. AreMinusBounded r (stepped_nodes roles k w.part.nodes) (lowered_by k w.watched)) (sym (roles_in_tree w are))
          (minus_stepped roles k w.part.nodes w.watched (lowered_by k w.watched) (tree_roles w are).exclusive may.tops refl
          (subst (λ r. AreMinusBounded r w.part.nodes w.watched) (roles_in_tree w are) are.minus));
    }

-- what is below a potential after a step that raises it
pub risen-le : (k old new : ℕ) (minus plus : Bool) → new + k * as_count minus ≡ old + k * as_count plus → minus ≡ false
    → plus ≡ true → k ≤ new
risen-le k old new false true law is_minus is_plus = omega (arith, law)
risen-le k old new true plus law is_minus is_plus = cc
risen-le k old new false false law is_minus is_plus = cc

-- The problem of the part's scope has no defects; a step doesn't ask for them.
pub tree_in_scope : (w : SearchValue) (g : DecodingGraph) (t : PlanTree) (n : ℕ) → g ≡ graph_in w.part
    → IsTreeOver (problem_of w) w.tree w.part.nodes → IsTreeOver (problem_at g t n no_shot) w.tree w.part.nodes
tree_in_scope w g t n eg over =
    rw eg (record {
      roles = over.roles;
      plus = over.plus;
      minus = over.minus;
      plus_live = over.plus_live;
      minus_live = over.minus_live;
      crossed = λ name plus. over.crossed name plus;
    })

pub step_in_scope : (w : SearchValue) (g : DecodingGraph) (t : PlanTree) (n k : ℕ) (roles : Roles) → g ≡ graph_in w.part
    → MayStep (problem_of w) roles w.part.nodes k → MayStep (problem_at g t n no_shot) roles w.part.nodes k
step_in_scope w g t n k roles eg may = rw eg (record { edges = may.edges; tops = may.tops })
