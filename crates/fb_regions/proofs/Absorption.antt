-- What the call that absorbs is given, and what it gives.
use Rattle.std.proofs.Common.{ℕ, ◌≡◌, ◌+◌, ◌<◌, ◌≤◌, ◌^◌, ◌==◌, true, List, length, set, get_or, Option, Some, None, sym, ap, ◌∙◌, subst}
use Rattle.std.specs.List.{position}
use Rattle.std.specs.Option.{IsSome}
use Rattle.std.proofs.lemmas.Bool.{both_ways, false≢true}
use Rattle.fb_graph.specs.Problem.{Problem, edge_at}
use Rattle.fb_graph.specs.Certificate.{load_of}
use Rattle.fb_graph.specs.Dual.{Node, all_cuts, cover_of, is_live}
use Rattle.fb_graph.specs.Limits.{IsWithinLimits}
use Rattle.fb_graph.proofs.Among.{among_live, cover_among}
use Rattle.fb_links.specs.declared.walk.Step.{Step}
use Rattle.fb_regions.specs.declared.marks.Mark.{Mark}
use Rattle.fb_regions.specs.declared.region.Region.{Region}
use Rattle.fb_regions.specs.InternalNodes.{mark_of, nodes_of}
use Rattle.fb_regions.specs.InternalKept.{IsKept}
use Rattle.fb_regions.specs.Moves.{IsOver, absorbed_over, inner_end, outer_end}
use Rattle.fb_regions.proofs.Absorbed.{nodes_absorbed, absorbing, fits_absorbed, kept_absorbed, raised, taken}
use Rattle.fb_regions.proofs.Found.{found, not_found}
use Rattle.fb_regions.proofs.Readings.{cover_none}

-- what the call asks for
pub record MayAbsorb (p : Problem) (nodes : List Node) (k : ℕ) (s : Step) : Type 0 where
  pub below : k < length p.edges
  pub tight : load_of (all_cuts nodes) (edge_at p.edges k) ≡ (edge_at p.edges k).weight
  pub inner : IsSome (cover_of nodes (inner_end nodes (edge_at p.edges k)))
  pub outer : cover_of nodes (outer_end nodes (edge_at p.edges k)) ≡ None
  pub real : p.is_real (outer_end nodes (edge_at p.edges k)) ≡ true
  pub over : IsOver p nodes k s

pub may_absorb : (p : Problem) (nodes : List Node) (k : ℕ) (s : Step) → k < length p.edges
    → load_of (all_cuts nodes) (edge_at p.edges k) ≡ (edge_at p.edges k).weight
    → IsSome (cover_of nodes (inner_end nodes (edge_at p.edges k))) → cover_of nodes (outer_end nodes (edge_at p.edges k)) ≡ None
    → p.is_real (outer_end nodes (edge_at p.edges k)) ≡ true → IsOver p nodes k s → MayAbsorb p nodes k s
may_absorb p nodes k s below tight inner outer real over =
    record { below = below; tight = tight; inner = inner; outer = outer; real = real; over = over }

pub record IsAbsorption (p : Problem) (regions : List Region) (marks : List (Option Mark)) (k i : ℕ) (s : Step) (m : Mark) (old : Region) : Type 0 where
  pub kept : IsKept p (set regions i (raised s.to old)) (set marks s.to (Some (taken m s old)))
  pub change : nodes_of (set marks s.to (Some (taken m s old))) (set regions i (raised s.to old)) ≡ absorbed_over (nodes_of marks regions) (edge_at p.edges k)
  pub distance : m.distance + s.weight ≤ 2 ^ 52
  pub size : old.base + old.added + 1 ≤ 2 ^ 20
  pub place : i < length regions
  pub below : s.to < length marks

module _ (p : Problem) (regions : List Region) (marks : List (Option Mark)) (kept : IsKept p regions marks) (k : ℕ) (s : Step)
    (may : MayAbsorb p (nodes_of marks regions) k s) where
  pub no_mark : mark_of marks s.from ≡ None → ⊥
  no_mark e =
      false≢true (subst IsSome (ap (cover_of (nodes_of marks regions)) (sym may.over.from) ∙ cover_none p regions marks kept s.from e) may.inner)

  pub no_node : cover_of (nodes_of marks regions) s.from ≡ None → ⊥
  no_node e = false≢true (subst IsSome (ap (cover_of (nodes_of marks regions)) (sym may.over.from) ∙ e) may.inner)

  pub no_region : (name : ℕ) → cover_of (nodes_of marks regions) s.from ≡ Some name → position (λ r. r.name == name) regions ≡ None → ⊥
  no_region name cover e =
      let over = cover_among (nodes_of marks regions) s.from name cover in
      both_ways (is_live (nodes_of marks regions) name) (not_found marks regions name e)
      (among_live (nodes_of marks regions) over.node name over.among over.named)

  pub absorption : IsWithinLimits p → (m : Mark) (name i : ℕ) (old : Region) → mark_of marks s.from ≡ Some m → cover_of (nodes_of marks regions) s.from ≡ Some name
      → position (λ r. r.name == name) regions ≡ Some i → old ≡ get_or regions i old → IsAbsorption p regions marks k i s m old
  absorption limits m name i old has cover at is_old =
      let is = absorbing p (nodes_of marks regions) k name s may.below may.tight may.outer may.real may.over cover in
      let fits = fits_absorbed p regions marks kept limits name i k s m old is.step has at is_old is.may is.weight in
      record {
        kept = kept_absorbed p regions marks kept limits name i k s m old is.step has at is_old is.may is.weight;
        change = nodes_absorbed p regions marks kept limits name i k s m old is.step has at is_old is.may is.weight ∙ is.change;
        distance = fits.0;
        size = fits.1;
        place = (found marks regions name i old at is_old).below;
        below = subst (λ l. s.to < l) (sym kept.room) (limits.real_below s.to is.may.real);
      }
