-- The lists of nodes that are joined, as the list of the blossom.
use Rattle.std.proofs.Common.{ℕ, ◌≡◌, ◌<◌, ◌^◌, true, List, [], ◌∷◌, map, Option, inl, refl, sym, ap, ◌∙◌, subst, arith}
use Rattle.std.specs.List.{concat}
use Rattle.fb_graph.specs.Problem.{Problem}
use Rattle.fb_graph.specs.Dual.{Node, is_live, top_at}
use Rattle.fb_graph.specs.Ends.{AreAllApart}
use Rattle.fb_graph.specs.Limits.{IsWithinLimits}
use Rattle.fb_graph.specs.Moves.{MayJoin, blossom, joined_nodes}
use Rattle.fb_graph.specs.Nests.{child_sets}
use Rattle.fb_graph.proofs.Among.{All_among, among_right, top_left}
use Rattle.fb_graph.proofs.JoinedNests.{nest_joined}
use Rattle.fb_graph.proofs.NestParts.{map_agree}
use Rattle.fb_graph.proofs.Sets.{All-from_is_in, is_in-All}
use Rattle.fb_regions.specs.declared.listing.Listing.{Listing}
use Rattle.fb_regions.specs.declared.marks.Mark.{Mark}
use Rattle.fb_regions.specs.declared.region.Region.{Region}
use Rattle.fb_regions.specs.InternalKept.{IsKept}
use Rattle.fb_regions.specs.InternalListings.{count_named, linked_all}
use Rattle.fb_regions.specs.InternalNodes.{chain, nodes_of}
use Rattle.fb_regions.specs.Moves.{BeginsWith}
use Rattle.fb_regions.proofs.Joined.{blossom_sized}
use Rattle.fb_regions.proofs.Linked.{IsLinked, counted, linked_nodes}

pub record AreTogether (p : Problem) (regions : List Region) (nodes : List Node) (name : ℕ) (children : List ℕ) (marks : List (Option Mark)) (l : Listing) : Type 0 where
  pub kept : IsKept p regions marks
  pub nodes_are : nodes_of marks regions ≡ nodes
  pub may : MayJoin (nodes_of marks regions) name children
  pub list : chain marks l.count l.last ≡ concat (map (top_at (nodes_of marks regions)) children)
  pub begins : BeginsWith l.first (concat (map (top_at (nodes_of marks regions)) children))

module _ (p : Problem) (regions : List Region) (marks : List (Option Mark)) (kept : IsKept p regions marks) (name : ℕ) (children : List ℕ)
    (may : MayJoin (nodes_of marks regions) name children) where
  children_apart : AreAllApart (map (top_at (nodes_of marks regions)) children)
  children_apart =
      let nodes = nodes_of marks regions in
      let new = blossom name children nodes in
      subst AreAllApart
      (map_agree (top_at (joined_nodes name children nodes)) (top_at nodes) children
      (All-from_is_in (λ c. top_at (joined_nodes name children nodes) c ≡ top_at nodes c) children
      (λ c h. top_left nodes (new ∷ []) c (is_in-All (λ x. is_live nodes x ≡ true) children may.live c h))))
      (All_among (λ n. AreAllApart (child_sets (joined_nodes name children nodes) n)) (joined_nodes name children nodes)
      (nest_joined p nodes name children may kept.nest).forest.parted new (among_right nodes (new ∷ []) new (inl refl)))

  pub together : (marks' : List (Option Mark)) (l : Listing)
      → linked_all regions children (record { marks = marks; listing = record { first = 0; count = 0; last = 0 } }) ≡ record { marks = marks'; listing = l }
      → AreTogether p regions (nodes_of marks regions) name children marks' l
  together marks' l e =
      let is = subst (IsLinked p regions (nodes_of marks regions) (concat (map (top_at (nodes_of marks regions)) children))) e
      (linked_nodes p regions marks kept children (record { first = 0; count = 0; last = 0 }) (omega (arith, may.many.three)) refl may.live may.outer children_apart) in
      record {
        kept = is.kept;
        nodes_are = is.nodes_are;
        may = subst (λ ns. MayJoin ns name children) (sym is.nodes_are) may;
        list = is.list ∙ ap (λ ns. concat (map (top_at ns) children)) (sym is.nodes_are);
        begins = subst (λ ns. BeginsWith l.first (concat (map (top_at ns) children))) (sym is.nodes_are) is.begins;
      }

  pub together_fits : IsWithinLimits p → count_named regions children < 2 ^ 64
  together_fits limits =
      omega (arith, counted p regions marks kept children may.live, blossom_sized p regions marks kept limits name children may, limits.vertices)
