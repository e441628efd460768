-- Which edges are watched after a step of a search.
use Rattle.std.proofs.Common.{ℕ, ◌≡◌, ◌<◌, ◌⊎◌, inl, inr, true, false, List, [], ◌∷◌, map, length, All, Some, refl, sym, ap, ◌∙◌}
use Rattle.std.proofs.lemmas.Bool.{cases_Bool}
use Rattle.fb_graph.specs.Parity.{is_in}
use Rattle.fb_graph.specs.Problem.{Problem, edge_at}
use Rattle.fb_graph.specs.Certificate.{AreDistinct}
use Rattle.fb_graph.specs.Covers.{is_covered_by}
use Rattle.fb_graph.specs.Dual.{AreOuterApart, AreUnderOne, Node, cover_of, is_outer, top_at}
use Rattle.fb_graph.specs.Moves.{blossom, joined_nodes}
use Rattle.fb_graph.specs.Steps.{Roles}
use Rattle.fb_graph.proofs.Among.{among_right, cover_among, covered_by, in_concat, top_among}
use Rattle.fb_obstacles.specs.Obstacles.{IsWatched}
use Rattle.fb_search.proofs.Renamed.{cover_joined}

-- all edges at the vertex are watched but those within one node
abbrev pub IsWatchedAt : Problem → List Node → List ℕ → ℕ → Type 0
IsWatchedAt p nodes edges v =
    (k : ℕ) → k < length p.edges → ((edge_at p.edges k).first ≡ v) ⊎ ((edge_at p.edges k).second ≡ v)
    → ¬ AreUnderOne nodes (edge_at p.edges k).first (edge_at p.edges k).second → is_in edges k ≡ true

-- Where all edges stay watched, nodes stay together, and the edges at each vertex that is newly under a plus node enter.
pub watch_kept : (p : Problem) (roles new_roles : Roles) (nodes new_nodes : List Node) (edges new_edges : List ℕ)
    → IsWatched p roles nodes edges → All (λ k. k < length p.edges) new_edges
    → ((k : ℕ) → is_in edges k ≡ true → is_in new_edges k ≡ true)
    → ((v : ℕ) → is_covered_by new_roles.is_plus new_nodes v ≡ true
    → (is_covered_by roles.is_plus nodes v ≡ true) ⊎ IsWatchedAt p new_nodes new_edges v)
    → ((u v : ℕ) → AreUnderOne nodes u v → AreUnderOne new_nodes u v) → IsWatched p new_roles new_nodes new_edges
watch_kept p roles new_roles nodes new_nodes edges new_edges was within kept over together = record {
  within = within;
  near = λ k less ends apart. by k less apart ends;
}
  where
    first : (k : ℕ) → k < length p.edges
        → ¬ AreUnderOne new_nodes (edge_at p.edges k).first (edge_at p.edges k).second
        → (is_covered_by roles.is_plus nodes (edge_at p.edges k).first ≡ true)
        ⊎ IsWatchedAt p new_nodes new_edges (edge_at p.edges k).first → is_in new_edges k ≡ true
    first k less apart (inl old) =
        kept k
        (was.near k less (inl old)
        (λ one. apart (together (edge_at p.edges k).first (edge_at p.edges k).second one)))
    first k less apart (inr at) = at k less (inl refl) apart

    second : (k : ℕ) → k < length p.edges
        → ¬ AreUnderOne new_nodes (edge_at p.edges k).first (edge_at p.edges k).second
        → (is_covered_by roles.is_plus nodes (edge_at p.edges k).second ≡ true)
        ⊎ IsWatchedAt p new_nodes new_edges (edge_at p.edges k).second → is_in new_edges k ≡ true
    second k less apart (inl old) =
        kept k
        (was.near k less (inr old)
        (λ one. apart (together (edge_at p.edges k).first (edge_at p.edges k).second one)))
    second k less apart (inr at) = at k less (inr refl) apart

    by : (k : ℕ) → k < length p.edges
        → ¬ AreUnderOne new_nodes (edge_at p.edges k).first (edge_at p.edges k).second
        → (is_covered_by new_roles.is_plus new_nodes (edge_at p.edges k).first ≡ true)
        ⊎ (is_covered_by new_roles.is_plus new_nodes (edge_at p.edges k).second ≡ true) → is_in new_edges k ≡ true
    by k less apart (inl u) = first k less apart (over (edge_at p.edges k).first u)
    by k less apart (inr v) = second k less apart (over (edge_at p.edges k).second v)

module _ (nodes : List Node) (name : ℕ) (children : List ℕ) (names : AreDistinct (map (λ n. n.name) nodes))
    (apart : AreOuterApart (joined_nodes name children nodes)) (outer : is_outer (joined_nodes name children nodes) name ≡ true) where
  -- over a vertex of a node that is joined is the blossom
  pub cover_made : (v n : ℕ) → cover_of nodes v ≡ Some n → is_in children n ≡ true
      → cover_of (joined_nodes name children nodes) v ≡ Some name
  cover_made v n cover child =
      let over = cover_among nodes v n cover in
      let held : is_in (top_at nodes n) v ≡ true =
      ap (λ x. is_in (top_at nodes x) v) (sym over.named)
      ∙ (ap (λ t. is_in t v) (top_among nodes names over.node over.among) ∙ over.holds) in
      covered_by (joined_nodes name children nodes) v apart (blossom name children nodes)
      (among_right nodes (blossom name children nodes ∷ []) (blossom name children nodes) (inl refl)) outer
      (in_concat (top_at nodes) children n v child held)

  -- vertices under one node stay under one
  pub together_joined : (u v : ℕ) → AreUnderOne nodes u v → AreUnderOne (joined_nodes name children nodes) u v
  together_joined u v (n, first, second) = by (cases_Bool (is_in children n))
    where
      by : (is_in children n ≡ true) ⊎ (is_in children n ≡ false) → AreUnderOne (joined_nodes name children nodes) u v
      by (inl child) = (name, cover_made u n first child, cover_made v n second child)
      by (inr out) =
          (n, cover_joined nodes name children apart u n first out, cover_joined nodes name children apart v n second out)
