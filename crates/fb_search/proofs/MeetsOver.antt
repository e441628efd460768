-- The nodes over the ends of a tight edge over which a tree meets a node in no tree.
use Rattle.std.proofs.Common.{ℕ, ◌≡◌, inl, inr, true, false, List, Some, refl, sym, ap, ◌∙◌, subst}
use Rattle.std.proofs.lemmas.Bool.{false≢true}
use Rattle.std.proofs.lemmas.Option.{same_Some}
use Rattle.fb_graph.specs.Components.{Leads}
use Rattle.fb_graph.specs.Covers.{passes}
use Rattle.fb_graph.specs.Dual.{cover_of}
use Rattle.fb_graph.specs.Problem.{Problem, edge_at}
use Rattle.fb_graph.specs.declared.parts.Edge.{Edge}
use Rattle.fb_half.specs.Parts.{problem_in}
use Rattle.fb_regions.specs.Paces.{grows}
use Rattle.fb_obstacles.specs.Obstacles.{IsMeet}
use Rattle.fb_regions.specs.declared.roles.Role.{Role}
use Rattle.fb_regions.specs.declared.roles.Role.TheVariants.{Plus, Minus, Out}
use Rattle.fb_search.specs.InternalGrowing.{GrowingValue, roles_among}
use Rattle.fb_search.specs.InternalTreeMeetings.{MeetsOutside}
use Rattle.fb_search.proofs.EdgeMeets.{AreHeld, held_by}
use Rattle.fb_search.proofs.TakenVertices.{plus_over}

abbrev Meeting : GrowingValue → ℕ → Type 0
Meeting w k = (u v name : ℕ) × IsMeet (problem_in w.part) (roles_among w.forest) w.part.nodes k u v name

pub outside_held : (w : GrowingValue) (k : ℕ) (edges : List Edge) → edges ≡ (problem_in w.part).edges → Meeting w k
    → AreHeld w.part.nodes (edge_at edges k)
outside_held w k edges same (u, v, name, is) =
    let (plus, covered, grows) = plus_over (roles_among w.forest).is_plus w.part.nodes u is.edge.plus in
    rw same (held_by w.part.nodes (edge_at (problem_in w.part).edges k) u v plus name is.edge.leads covered is.covered)

module _ (w : GrowingValue) (k first second : ℕ) (edges : List Edge) (same : edges ≡ (problem_in w.part).edges)
    (at_first : cover_of w.part.nodes (edge_at edges k).first ≡ Some first)
    (at_second : cover_of w.part.nodes (edge_at edges k).second ≡ Some second) where
  abbrev p : Problem
  p = problem_in w.part

  -- from the first end, if a plus node is over it
  pub outside_first : Meeting w k → (roles_among w.forest).is_plus first ≡ true → MeetsOutside w k first second
  outside_first (u, v, name, is) plus = by is.edge.leads (rw (← same) at_first) (rw (← same) at_second)
    where
      by : Leads (edge_at p.edges k) u v → cover_of w.part.nodes (edge_at p.edges k).first ≡ Some first
          → cover_of w.part.nodes (edge_at p.edges k).second ≡ Some second → MeetsOutside w k first second
      by (inl (one, other)) f s =
          let named : name ≡ second = same_Some name second (sym is.covered ∙ (sym (ap (cover_of w.part.nodes) other) ∙ s)) in
          record {
            inner = u;
            outer = v;
            obstacle = subst (IsMeet p (roles_among w.forest) w.part.nodes k u v) named is;
            covered = sym (ap (cover_of w.part.nodes) one) ∙ f;
          }
      by (inr (other, one)) f s =
          let named : name ≡ first = same_Some name first (sym is.covered ∙ (sym (ap (cover_of w.part.nodes) one) ∙ f)) in
          absurd (false≢true (sym is.not_plus ∙ (ap (roles_among w.forest).is_plus named ∙ plus)))

  -- or from the second one
  pub outside_second : Meeting w k → (roles_among w.forest).is_plus first ≡ false → MeetsOutside w k second first
  outside_second (u, v, name, is) none = by is.edge.leads (rw (← same) at_first) (rw (← same) at_second)
    where
      by : Leads (edge_at p.edges k) u v → cover_of w.part.nodes (edge_at p.edges k).first ≡ Some first
          → cover_of w.part.nodes (edge_at p.edges k).second ≡ Some second → MeetsOutside w k second first
      by (inl (one, other)) f s =
          absurd
          (false≢true
          (sym none ∙ (sym (ap (passes (roles_among w.forest).is_plus) (sym (ap (cover_of w.part.nodes) one) ∙ f)) ∙ is.edge.plus)))
      by (inr (other, one)) f s =
          let named : name ≡ first = same_Some name first (sym is.covered ∙ (sym (ap (cover_of w.part.nodes) one) ∙ f)) in
          record {
            inner = u;
            outer = v;
            obstacle = subst (IsMeet p (roles_among w.forest) w.part.nodes k u v) named is;
            covered = sym (ap (cover_of w.part.nodes) other) ∙ s;
          }

pub no_growth : (r : Role) → (r ≡ Plus → ⊥) → grows r ≡ false
no_growth Plus other = absurd (other refl)
no_growth Minus other = refl
no_growth Out other = refl
