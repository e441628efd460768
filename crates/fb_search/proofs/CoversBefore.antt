-- The node over a vertex before some nodes were joined, or before one was split.
use Rattle.std.proofs.Common.{ℕ, ◌≡◌, ◌⊎◌, inl, inr, true, false, List, [], ◌∷◌, map, Option, Some, None, is_some, refl, sym, ap, ◌∙◌}
use Rattle.std.proofs.lemmas.Bool.{false≢true}
use Rattle.fb_graph.proofs.Places.{among_split}
use Rattle.fb_graph.proofs.NestParts.{grove_of}
use Rattle.fb_graph.proofs.Forests.{under_outer}
use Rattle.fb_graph.specs.Parity.{is_in}
use Rattle.fb_graph.specs.Problem.{Problem}
use Rattle.fb_graph.specs.Certificate.{AreDistinct}
use Rattle.fb_graph.specs.Dual.{AreOuterApart, Node, cover_of, is_live, is_outer, top_at}
use Rattle.fb_graph.specs.Moves.{MayJoin, blossom, joined_nodes, split_nodes}
use Rattle.fb_graph.specs.Nests.{IsNest}
use Rattle.fb_graph.proofs.Among.{IsAmong, among_either, cover_among, covered_by, from_concat, live_among, outer_among, top_among}
use Rattle.fb_graph.proofs.AppendedNodes.{outer_in}
use Rattle.fb_graph.proofs.Sets.{is_in-All}

-- It was one of those joined, if it is the blossom now, or the same node.
pub cover_before : (nodes : List Node) (name : ℕ) (children : List ℕ) → AreDistinct (map (λ n. n.name) nodes)
    → AreOuterApart nodes → MayJoin nodes name children → (v m : ℕ) → cover_of (joined_nodes name children nodes) v ≡ Some m
    → (n : ℕ) × (cover_of nodes v ≡ Some n)
    × (((is_in children n ≡ true) × (m ≡ name)) ⊎ ((is_in children n ≡ false) × (m ≡ n)))
cover_before nodes name children names apart may v m cover =
    let over = cover_among (joined_nodes name children nodes) v m cover in
    by over.node over.named over.outer over.holds
    (among_either nodes (blossom name children nodes ∷ []) over.node over.among)
  where
    by : (q : Node) → q.name ≡ m → is_outer (joined_nodes name children nodes) q.name ≡ true → is_in q.top.vertices v ≡ true
        → IsAmong q nodes ⊎ IsAmong q (blossom name children nodes ∷ [])
        → (n : ℕ) × (cover_of nodes v ≡ Some n)
        × (((is_in children n ≡ true) × (m ≡ name)) ⊎ ((is_in children n ≡ false) × (m ≡ n)))
    by q named outer holds (inl a) =
        let parts = outer_in nodes (blossom name children nodes ∷ []) q.name outer in
        let free : is_in children q.name ≡ false =
        outer_among (blossom name children nodes ∷ []) q.name parts.1 (blossom name children nodes) (inl refl) in (
          m,
          covered_by nodes v apart q a parts.0 holds ∙ ap Some named,
          inr (ap (is_in children) (sym named) ∙ free, refl),
        )
    by q named outer holds (inr (inl e)) =
        let (c, child, within) =
        from_concat (top_at nodes) children v (ap (λ (x : Node). is_in x.top.vertices v) e ∙ holds) in
        let (r, a, is) = live_among nodes c (is_in-All (λ x. is_live nodes x ≡ true) children may.live c child) in
        let outer_r : is_outer nodes r.name ≡ true =
        ap (is_outer nodes) is ∙ is_in-All (λ x. is_outer nodes x ≡ true) children may.outer c child in
        let held : is_in r.top.vertices v ≡ true =
        ap (λ t. is_in t v) (sym (top_among nodes names r a)) ∙ (ap (λ x. is_in (top_at nodes x) v) is ∙ within) in (
          c,
          covered_by nodes v apart r a outer_r held ∙ ap Some is,
          inl (child, sym named ∙ ap (λ (x : Node). x.name) (sym e)),
        )
    by q named outer holds (inr (inr none)) = absurd none

-- what is covered once a blossom is opened was covered before
pub covered_unsplit : (p : Problem) (nodes : List Node) (name : ℕ) → IsNest p nodes → (v : ℕ)
    → is_some (cover_of (split_nodes name nodes) v) ≡ true → is_some (cover_of nodes v) ≡ true
covered_unsplit p nodes name nest v = by (cover_of (split_nodes name nodes) v) refl
  where
    by : (o : Option ℕ) → cover_of (split_nodes name nodes) v ≡ o → is_some o ≡ true → is_some (cover_of nodes v) ≡ true
    by None e h = absurd (false≢true h)
    by (Some m) e h =
        let over = cover_among (split_nodes name nodes) v m e in
        let under = under_outer nodes (grove_of p nodes nest) over.node (among_split name nodes over.node over.among).0 in
        ap (λ o. is_some o) (covered_by nodes v nest.dual.apart under.node under.among under.outer (under.within v over.holds))
