-- The walk back from a vertex to its source, step by step.
use Rattle.std.proofs.Common.{◌≡◌, ℕ, ◌+◌, ◌<◌, ◌≤◌, inl, inr, true, List, [], ◌∷◌, ◌++◌, length, reverse, take, drop, Option, Some, None, refl, sym, ◌∙◌, ap, subst, arith}
use Rattle.std.specs.List.{All}
use Rattle.std.specs.Option.{IsSome, option_and_then}
use Rattle.std.proofs.lemmas.Bool.{false≢true, or_left, or_right}
use Rattle.std.proofs.lemmas.List.{drop-append-le, length-take, reverse-append, take-append-le}
use Rattle.std.proofs.Math.Seq.{drop-length, take-length}
use Rattle.std.proofs.lemmas.List.Elements.{All-cons, All-nil}
use Rattle.std.proofs.lemmas.List.Sums.{sum_by-cons}
use Rattle.fb_graph.specs.Problem.{Problem, edge_at}
use Rattle.fb_graph.specs.Components.{Leads}
use Rattle.fb_graph.specs.declared.parts.Edge.{Edge}
use Rattle.fb_links.specs.declared.walk.Step.{Step}
use Rattle.fb_regions.specs.declared.marks.Hop.{Hop}
use Rattle.fb_regions.specs.declared.marks.Mark.{Mark}
use Rattle.fb_regions.specs.declared.region.Region.{Region}
use Rattle.fb_regions.specs.Walks.{IsWalk}
use Rattle.fb_links.specs.Walks.{walk_weight}
use Rattle.fb_graph.specs.Dual.{cover_of, leaves}
use Rattle.fb_graph.specs.Laws.{has_real_end}
use Rattle.fb_regions.specs.Moves.{AddsSourceWalk, IsSourceWalk}
use Rattle.fb_regions.specs.InternalNodes.{mark_of, nodes_of, radii_from}
use Rattle.fb_regions.specs.InternalKept.{CameBy, IsAfter, IsKept, step_by}
use Rattle.fb_regions.proofs.Moved.{mark_over, some_cover}

abbrev no_mark : Mark
no_mark = record { source = 0; leaf = 0; distance = 0; rank = 0; by = None; before = 0; under = 0 }

abbrev pub the_mark : Option Mark → Mark
the_mark None = no_mark
the_mark (Some m) = m

-- the steps, newest last, lead back from v to the vertex where the walk stands
pub record IsBack (p : Problem) (marks : List (Option Mark)) (v at : ℕ) (steps : List Step) : Type 0 where
  pub marked : IsSome (mark_of marks at)
  pub source : (the_mark (mark_of marks at)).source ≡ (the_mark (mark_of marks v)).source
  pub leaf : (the_mark (mark_of marks at)).leaf ≡ (the_mark (mark_of marks v)).leaf
  pub distance : (the_mark (mark_of marks at)).distance + walk_weight (reverse steps) ≡ (the_mark (mark_of marks v)).distance
  pub leads : IsWalk p (reverse steps) at v
  pub real : All (λ s. has_real_end p (edge_at p.edges s.edge) ≡ true) (reverse steps)

-- the same of the steps that were added to older ones
pub record IsBackAfter (p : Problem) (marks : List (Option Mark)) (v at : ℕ) (old steps : List Step) : Type 0 where
  pub front : take (length old) steps ≡ old
  pub back : IsBack p marks v at (drop (length old) steps)

some_is : (o : Option Mark) → IsSome o → o ≡ Some (the_mark o)
some_is None h = cc
some_is (Some m) h = refl

real_end : (p : Problem) (e : Edge) (u w : ℕ) → Leads e u w → p.is_real w ≡ true → has_real_end p e ≡ true
real_end p e u w (inl l) h = or_right (p.is_real e.first) (p.is_real e.second) (rw (l.1) h)
real_end p e u w (inr l) h = or_left (p.is_real e.first) (p.is_real e.second) (rw (l.1) h)

module _ (p : Problem) (regions : List Region) (marks : List (Option Mark)) (kept : IsKept p regions marks) (v : ℕ) where
  pub back_start : IsSome (cover_of (nodes_of marks regions) v) → IsBack p marks v v []
  back_start h =
      let (name, cover) = some_cover (nodes_of marks regions) v h in
      let (m, at, source) = mark_over p regions marks kept v name cover in
      record {
        marked = subst IsSome (sym at) refl;
        source = refl;
        leaf = refl;
        distance = omega arith;
        leads = refl;
        real = All-nil (λ (s : Step). has_real_end p (edge_at p.edges s.edge) ≡ true);
      }

  came : (at : ℕ) (s : Hop) → IsSome (mark_of marks at) → option_and_then (λ m. m.by) (mark_of marks at) ≡ Some s
      → CameBy p (leaves (nodes_of marks regions)) marks at (the_mark (mark_of marks at)) (Some s)
  came at s some h = by (mark_of marks at) refl some h
    where
      by : (o : Option Mark) → mark_of marks at ≡ o → IsSome o → option_and_then (λ m. m.by) o ≡ Some s
          → CameBy p (leaves (nodes_of marks regions)) marks at (the_mark o) (Some s)
      by None e k q = absurd (false≢true k)
      by (Some m) e k q = subst (CameBy p (leaves (nodes_of marks regions)) marks at m) q (kept.marked at m e).came

  before : (s : Hop) (w : ℕ) (m : Mark) → IsAfter m w (mark_of marks s.from)
      → IsSome (mark_of marks s.from) × ((the_mark (mark_of marks s.from)).source ≡ m.source) × ((the_mark (mark_of marks s.from)).leaf ≡ m.leaf)
      × ((the_mark (mark_of marks s.from)).rank < m.rank) × (m.distance ≡ (the_mark (mark_of marks s.from)).distance + w)
  before s w m h = by (mark_of marks s.from) h
    where
      by : (o : Option Mark) → IsAfter m w o
          → IsSome o × ((the_mark o).source ≡ m.source) × ((the_mark o).leaf ≡ m.leaf) × ((the_mark o).rank < m.rank) × (m.distance ≡ (the_mark o).distance + w)
      by None k = absurd k
      by (Some b) k = (refl, k.0, k.1, k.2, k.3)

  pub back_smaller : (at : ℕ) (s : Hop) → IsSome (mark_of marks at) → option_and_then (λ m. m.by) (mark_of marks at) ≡ Some s
      → (the_mark (mark_of marks s.from)).rank < (the_mark (mark_of marks at)).rank
  back_smaller at s some h = (before s (edge_at p.edges s.edge).weight (the_mark (mark_of marks at)) (came at s some h).1).3

  pub back_within : (at : ℕ) (s : Hop) → IsSome (mark_of marks at) → option_and_then (λ m. m.by) (mark_of marks at) ≡ Some s → s.edge < length p.edges
  back_within at s some h = (came at s some h).0.within

  pub back_more : (at : ℕ) (s : Hop) (steps : List Step) → IsBack p marks v at steps → option_and_then (λ m. m.by) (mark_of marks at) ≡ Some s
      → IsBack p marks v s.from (steps ++ step_by p at s ∷ [])
  back_more at s steps back h =
      let step : CameBy p (leaves (nodes_of marks regions)) marks at (the_mark (mark_of marks at)) (Some s) = came at s back.marked h in
      let old = before s (edge_at p.edges s.edge).weight (the_mark (mark_of marks at)) step.1 in
      let t : Step = step_by p at s in
      let list : reverse (steps ++ t ∷ []) ≡ t ∷ reverse steps = reverse-append steps (t ∷ []) in
      let weight : walk_weight (reverse (steps ++ t ∷ [])) ≡ t.weight + walk_weight (reverse steps) =
      ap walk_weight list ∙ sum_by-cons (λ (x : Step). x.weight) t (reverse steps) in
      let here : mark_of marks at ≡ Some (the_mark (mark_of marks at)) = some_is (mark_of marks at) back.marked in
      let real : p.is_real at ≡ true =
      kept.nest.dual.real at (kept.marked at (the_mark (mark_of marks at)) here).covered in
      let R : Step → Type 0 = λ x. has_real_end p (edge_at p.edges x.edge) ≡ true in
      let leads : IsWalk p (t ∷ reverse steps) s.from v = (refl, step.0, back.leads) in
      let all : All R (t ∷ reverse steps) = All-cons R t (reverse steps) (real_end p (edge_at p.edges s.edge) s.from at (step.0).leads real) back.real in
      record {
        marked = old.0;
        source = old.1 ∙ back.source;
        leaf = old.2 ∙ back.leaf;
        distance = omega (arith, old.4, back.distance, weight);
        leads = rw list leads;
        real = rw list all;
      }

  pub back_end : (at : ℕ) (steps : List Step) → IsBack p marks v at steps → IsSome (cover_of (nodes_of marks regions) v)
      → option_and_then (λ m. m.by) (mark_of marks at) ≡ None → IsSourceWalk p (nodes_of marks regions) v (reverse steps)
  back_end at steps back covered h =
      let (name, cover) = some_cover (nodes_of marks regions) v covered in
      let (mv, at_v, source) = mark_over p regions marks kept v name cover in
      let m : Mark = the_mark (mark_of marks at) in
      let here : mark_of marks at ≡ Some m = some_is (mark_of marks at) back.marked in
      let by_none : m.by ≡ None = ap (option_and_then (λ (x : Mark). x.by)) (sym here) ∙ h in
      let origin : CameBy p (leaves (nodes_of marks regions)) marks at m None = subst (CameBy p (leaves (nodes_of marks regions)) marks at m) by_none (kept.marked at m here).came in
      let same_source : at ≡ mv.source = sym origin.1 ∙ (back.source ∙ ap (λ o. (the_mark o).source) at_v) in
      let same_leaf : m.leaf ≡ mv.leaf = back.leaf ∙ ap (λ o. (the_mark o).leaf) at_v in
      let far : m.distance + walk_weight (reverse steps) ≡ mv.distance = back.distance ∙ ap (λ o. (the_mark o).distance) at_v in
      let one = (kept.marked at m here).balance in
      let two = (kept.marked v mv at_v).balance in (
        at,
        record {
          defect = origin.0;
          together = ap (cover_of (nodes_of marks regions)) same_source ∙ (source ∙ sym cover);
          leads = back.leads;
          weighs = omega (arith, one, two, origin.2, far, ap (radii_from regions) same_leaf);
          real = back.real;
        },
      )

  pub back_after_start : (old : List Step) → IsSome (cover_of (nodes_of marks regions) v) → IsBackAfter p marks v v old old
  back_after_start old h =
      record { front = take-length old; back = subst (IsBack p marks v v) (sym (drop-length old)) (back_start h) }

  longer : (old : List Step) (at : ℕ) (steps : List Step) → IsBackAfter p marks v at old steps → length old ≤ length steps
  longer old at steps after = omega (arith, ap length after.front, length-take (length old) steps)

  pub back_within_list : (old : List Step) (at : ℕ) (steps : List Step) (first : ℕ) → IsBackAfter p marks v at old steps
      → first ≡ length old → first ≤ length steps
  back_within_list old at steps first after is = omega (arith, is, longer old at steps after)

  pub back_after_more : (old : List Step) (at : ℕ) (s : Hop) (steps more : List Step) → IsBackAfter p marks v at old steps
      → option_and_then (λ m. m.by) (mark_of marks at) ≡ Some s → more ≡ steps ++ step_by p at s ∷ []
      → IsBackAfter p marks v s.from old more
  back_after_more old at s steps more after h pushed =
      let within : length old ≤ length steps = longer old at steps after in
      record {
        front = ap (take (length old)) pushed ∙ (take-append-le (length old) steps (step_by p at s ∷ []) within ∙ after.front);
        back =
            subst (IsBack p marks v s.from)
            (sym (ap (drop (length old)) pushed ∙ drop-append-le (length old) steps (step_by p at s ∷ []) within))
            (back_more at s (drop (length old) steps) after.back h);
      }

  pub back_after_end : (old : List Step) (at : ℕ) (steps turned : List Step) → IsBackAfter p marks v at old steps
      → IsSome (cover_of (nodes_of marks regions) v) → option_and_then (λ m. m.by) (mark_of marks at) ≡ None
      → turned ≡ take (length old) steps ++ reverse (drop (length old) steps)
      → AddsSourceWalk p (nodes_of marks regions) v old turned
  back_after_end old at steps turned after covered h is =
      record {
        walk = reverse (drop (length old) steps);
        added = is ∙ ap (λ l. l ++ reverse (drop (length old) steps)) after.front;
        leads = back_end at (drop (length old) steps) after.back covered h;
      }
