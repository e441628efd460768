-- Two plus nodes over the ends of a tight edge, and whether they are of one tree.
use Rattle.std.proofs.Common.{ℕ, ◌≡◌, inl, inr, List, Option, Some, sym, ap, ◌∙◌, subst}
use Rattle.std.proofs.lemmas.Option.{same_Some}
use Rattle.fb_graph.specs.Components.{Leads}
use Rattle.fb_graph.specs.Covers.{passes}
use Rattle.fb_graph.specs.Dual.{cover_of}
use Rattle.fb_graph.specs.Problem.{Problem, edge_at}
use Rattle.fb_graph.specs.declared.parts.Edge.{Edge}
use Rattle.fb_graph.proofs.Walks.{Leads_flip}
use Rattle.fb_half.specs.Parts.{problem_in}
use Rattle.fb_obstacles.specs.Obstacles.{IsPlusPair}
use Rattle.fb_trees.specs.Branches.{Grown}
use Rattle.fb_trees.specs.Forests.{ArePlusTogether, AreRootedApart, IsPlusNode, IsTreeOf, tree_at}
use Rattle.fb_trees.specs.Rooted.{IsPlus}
use Rattle.fb_trees.proofs.ForestReads.{plus_is}
use Rattle.fb_trees.proofs.Names.{plus_in_tree}
use Rattle.fb_search.specs.InternalGrowing.{GrowingValue, IsGrowing, roles_among}
use Rattle.fb_search.specs.InternalTreeMeetings.{IsGrowingPair}
use Rattle.fb_search.proofs.EdgeMeets.{AreHeld, held_by}
use Rattle.fb_search.proofs.GrownEnds.{role_plus}
use Rattle.fb_search.proofs.TakenVertices.{plus_over}
use Rattle.fb_search.proofs.TwoTrees.{AreInTwo}

abbrev Pairing : GrowingValue → ℕ → Type 0
Pairing w k = (u v : ℕ) × IsPlusPair (problem_in w.part) (roles_among w.forest) w.part.nodes k u v

pub paired_held : (w : GrowingValue) (k : ℕ) (edges : List Edge) → edges ≡ (problem_in w.part).edges → Pairing w k
    → AreHeld w.part.nodes (edge_at edges k)
paired_held w k edges same (u, v, is) =
    let (one, at_one, grows) = plus_over (roles_among w.forest).is_plus w.part.nodes u is.edge.plus in
    let (other, at_other, also) = plus_over (roles_among w.forest).is_plus w.part.nodes v is.other in
    rw same (held_by w.part.nodes (edge_at (problem_in w.part).edges k) u v one other is.edge.leads at_one at_other)

-- whichever of them is over the first end
pub paired_over : (w : GrowingValue) (k first second : ℕ) (edges : List Edge) → edges ≡ (problem_in w.part).edges
    → cover_of w.part.nodes (edge_at edges k).first ≡ Some first → cover_of w.part.nodes (edge_at edges k).second ≡ Some second
    → Pairing w k → IsGrowingPair w k first second
paired_over w k first second edges same at_first at_second (u, v, is) =
    by is.edge.leads (rw (← same) at_first) (rw (← same) at_second)
  where
    p : Problem
    p = problem_in w.part

    by : Leads (edge_at p.edges k) u v → cover_of w.part.nodes (edge_at p.edges k).first ≡ Some first
        → cover_of w.part.nodes (edge_at p.edges k).second ≡ Some second → IsGrowingPair w k first second
    by (inl (one, other)) f s = record {
      inner = u;
      outer = v;
      obstacle = is;
      covered = sym (ap (cover_of w.part.nodes) one) ∙ f;
      other = sym (ap (cover_of w.part.nodes) other) ∙ s;
    }
    by (inr (other, one)) f s = record {
      inner = v;
      outer = u;
      obstacle = record {
        edge = record {
          within = is.edge.within;
          leads = Leads_flip (edge_at p.edges k) u v is.edge.leads;
          tight = is.edge.tight;
          plus = is.other;
        };
        other = is.edge.plus;
        apart = λ under. is.apart (under.0, under.2, under.1);
      };
      covered = sym (ap (cover_of w.part.nodes) one) ∙ f;
      other = sym (ap (cover_of w.part.nodes) other) ∙ s;
    }

module _ (w : GrowingValue) (k first second : ℕ) (are : IsGrowing w) (pair : IsGrowingPair w k first second) where
  pub first_plus : IsPlusNode w.forest first
  first_plus =
      role_plus w first are (sym (ap (passes (roles_among w.forest).is_plus) pair.covered) ∙ pair.obstacle.edge.plus)

  pub second_plus : IsPlusNode w.forest second
  second_plus = role_plus w second are (sym (ap (passes (roles_among w.forest).is_plus) pair.other) ∙ pair.obstacle.other)

  pub in_two : AreRootedApart w.forest → (ArePlusTogether w.forest first second → ⊥) → AreInTwo w.forest first second
  in_two kept apart = record { kept = kept; one = first_plus; other = second_plus; apart = apart }

module _ (f : List (Option Grown)) (kept : AreRootedApart f) (a b s t : ℕ) (g h : Grown) (at_a : IsTreeOf f a s g)
    (at_b : IsTreeOf f b t h) where
  -- the numbers of their trees tell
  pub together_at : IsPlusNode f a → IsPlusNode f b → s ≡ t → ArePlusTogether f a b
  together_at one other same = record {
    tree = s;
    grown = g;
    at = at_a.at;
    first = plus_is f kept a one s g at_a;
    second = subst (λ x. IsPlus x b) (same_Some h g (sym at_b.at ∙ (ap (tree_at f) (sym same) ∙ at_a.at)))
        (plus_is f kept b other t h at_b);
  }

  pub one_number : ArePlusTogether f a b → s ≡ t
  one_number both =
      kept.apart s both.tree a g both.grown at_a
      (record { at = both.at; has = plus_in_tree both.grown.root both.grown.branches a both.first })
      ∙ kept.apart both.tree t b both.grown h
      (record { at = both.at; has = plus_in_tree both.grown.root both.grown.branches b both.second }) at_b
