-- Single defects, the edges at one, and how what is found there makes a way to match it at once.
use Rattle.std.proofs.Common.{ℕ, ◌≡◌, ◌+◌, ◌-◌, ◌≤◌, ◌<◌, ◌⊎◌, inl, inr, Bool, true, false, List, [], ◌∷◌, length, All, Some, None, refl, sym, ap, ◌∙◌, subst, arith, if◌then◌else◌}
use Rattle.std.specs.Prelude.{IfSome, Option}
use Rattle.std.proofs.lemmas.Bool.{false≢true, not-true}
use Rattle.std.proofs.lemmas.List.Elements.{All-head}
use Rattle.fb_graph.specs.Dual.{Node, cover_of, is_live, top_at}
use Rattle.fb_graph.specs.Limits.{IsWithinLimits}
use Rattle.fb_graph.specs.Nests.{IsNest}
use Rattle.fb_graph.specs.Parity.{is_in}
use Rattle.fb_graph.specs.Problem.{Problem, edge_at, touches}
use Rattle.fb_graph.specs.declared.parts.Edge.{Edge}
use Rattle.fb_graph.proofs.Among.{cover_among, top_among}
use Rattle.fb_graph.proofs.Sets.{is_in-cases}
use Rattle.fb_obstacles.specs.declared.singles.EdgeAtSingle.{EdgeAtSingle}
use Rattle.fb_obstacles.specs.InternalSingles.{HasRoom, IsReach, IsShare, is_single}
use Rattle.fb_obstacles.specs.Obstacles.{residue_of}
use Rattle.fb_obstacles.proofs.SingleEdges.{single_length}
use Rattle.fb_search.specs.declared.near.Near.{Near}
use Rattle.fb_search.specs.declared.near.Near.TheVariants.{Pair}
use Rattle.fb_obstacles.proofs.TopLayers.{top_real}
use Rattle.fb_search.specs.InternalNear.{IsNear, IsSingleAt, IsTarget, is_target}
use Rattle.fb_laws.proofs.NestedFusions.{cover_live}

holds_one : (xs : List ℕ) (v : ℕ) → is_in xs v ≡ true → length xs ≡ 1 → xs ≡ v ∷ []
holds_one [] v holds one = absurd (omega (arith, one))
holds_one (x ∷ []) v holds one = by (is_in-cases x [] v holds)
  where
    by : (x ≡ v) ⊎ (is_in [] v ≡ true) → x ∷ [] ≡ v ∷ []
    by (inl same) = ap (λ u. u ∷ []) same
    by (inr none) = absurd (false≢true none)
holds_one (x ∷ y ∷ ys) v holds one = absurd (omega (arith, one))

single_over : (p : Problem) (nodes : List Node) (unmatched : List ℕ) (v name : ℕ) → IsNest p nodes
    → cover_of nodes v ≡ Some name → is_in unmatched name ≡ true → is_single nodes name ≡ true
    → IsSingleAt nodes unmatched v name
single_over p nodes unmatched v name nest over listed single = record {
  top = holds_one (top_at nodes name) v held (single_length p nodes name nest (cover_live nodes v name over) single);
  covered = over;
  listed = listed;
}
  where
    held : is_in (top_at nodes name) v ≡ true
    held =
        let o = cover_among nodes v name over in
        ap (λ l. is_in l v) (sym (ap (top_at nodes) o.named) ∙ top_among nodes nest.dual.names o.node o.among) ∙ o.holds

-- what the test of a target says
pub target_is : (p : Problem) (nodes : List Node) (unmatched : List ℕ) (v : ℕ) (o : Option ℕ) → IsNest p nodes
    → o ≡ cover_of nodes v → is_target p nodes unmatched v o ≡ true → IsTarget p nodes unmatched v o
target_is p nodes unmatched v None nest over is = not-true (p.is_real v) is
target_is p nodes unmatched v (Some name) nest over is = by (is_in unmatched name) refl is
  where
    by : (b : Bool) → is_in unmatched name ≡ b → (if b then is_single nodes name else false) ≡ true
        → IsSingleAt nodes unmatched v name
    by true listed single = single_over p nodes unmatched v name nest (sym over) listed single
    by false listed single = absurd (false≢true single)

less_room : (b : Bool) (between more less n : ℕ) → less ≤ more → (if b then between else more) ≤ n → (if b then between else less) ≤ n
less_room true between more less n le has = has
less_room false between more less n le has = omega arith

-- less growth than the room
narrowed : (edges : List Edge) (nodes : List Node) (v far between room growth : ℕ) → growth ≤ room
    → HasRoom edges nodes v far between room → HasRoom edges nodes v far between growth
narrowed edges nodes v far between room growth le has k less at =
    less_room (touches far (edge_at edges k)) between room growth (residue_of nodes (edge_at edges k)) le (has k less at)

-- the room at the other defect, whose edges to the first one have at least its best edge's residue
both_rooms : (edges : List Edge) (nodes : List Node) (v far between room other_room : ℕ)
    → HasRoom edges nodes v far between room → HasRoom edges nodes far v 0 other_room
    → HasRoom edges nodes far v between other_room
both_rooms edges nodes v far between room other_room has other k less at =
    by (touches v (edge_at edges k)) refl (other k less at)
  where
    there : (b : Bool) → touches far (edge_at edges k) ≡ true → touches far (edge_at edges k) ≡ b
        → (if b then between else room) ≤ residue_of nodes (edge_at edges k) → between ≤ residue_of nodes (edge_at edges k)
    there true at is le = le
    there false at is le = absurd (false≢true (sym is ∙ at))

    by : (b : Bool) → touches v (edge_at edges k) ≡ b → (if b then 0 else other_room) ≤ residue_of nodes (edge_at edges k)
        → (if b then between else other_room) ≤ residue_of nodes (edge_at edges k)
    by true to_v le = there (touches far (edge_at edges k)) at refl (has k less to_v)
    by false to_v le = le

-- what is found makes a way to match the root
module _ (p : Problem) (nodes : List Node) (unmatched : List ℕ) (root v : ℕ) (r : EdgeAtSingle) (top : top_at nodes root ≡ v ∷ [])
    (is : IsReach p nodes v r) (target : IsTarget p nodes unmatched r.far r.other) (room : ℕ)
    (has : HasRoom p.edges nodes v r.far r.length room) where
  pub pair_is_near : (near : Near) (other share other_room : ℕ) → r.other ≡ Some other
      → HasRoom p.edges nodes r.far v 0 other_room → IsShare r.length room other_room share
      → near ≡ Pair (record { edge = r.edge; length = r.length - share; other = other; other_length = share })
      → IsNear p nodes unmatched root near
  pair_is_near near other share other_room some more part same =
      subst (IsNear p nodes unmatched root) (sym same)
      (record {
        inner = v;
        outer = r.far;
        within = is.within;
        leads = is.leads;
        top = top;
        single = subst (λ o. IsTarget p nodes unmatched r.far o) some target;
        even = part.even;
        residue = whole ∙ is.residue;
        room = subst (λ n. HasRoom p.edges nodes v r.far n (r.length - share)) (sym whole)
            (narrowed p.edges nodes v r.far r.length room (r.length - share) (omega (arith, part.left)) has);
        other_room = subst (λ n. HasRoom p.edges nodes r.far v n share) (sym whole)
            (narrowed p.edges nodes r.far v r.length other_room share part.within
            (both_rooms p.edges nodes v r.far r.length room other_room has more));
      })
    where
      whole : (r.length - share) + share ≡ r.length
      whole = omega (arith, part.part)

  pub pair_found : (result : Option Near) (other other_room : ℕ) → r.other ≡ Some other
      → HasRoom p.edges nodes r.far v 0 other_room
      → IfSome result (λ near. (k : ℕ) × IsShare r.length room other_room k
      × (near ≡ Pair (record { edge = r.edge; length = r.length - k; other = other; other_length = k })))
      → IfSome result (IsNear p nodes unmatched root)
  pair_found None other other_room some more found = tt
  pair_found (Some near) other other_room some more (k, part, same) = pair_is_near near other k other_room some more part same

-- the vertex of a single defect is within the graph
pub vertex_below : (p : Problem) (nodes : List Node) (name v : ℕ) → IsNest p nodes → IsWithinLimits p → is_live nodes name ≡ true
    → top_at nodes name ≡ v ∷ [] → v < p.vertices
vertex_below p nodes name v nest limits live top =
    limits.real_below v
    (All-head (λ u. p.is_real u ≡ true) v [] (subst (All (λ u. p.is_real u ≡ true)) top (top_real p nodes name nest live)))
