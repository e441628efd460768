-- The vertices of a node as one list, which the marks keep: the mark of each vertex but the first has the one before it.
use Rattle.std.specs.Prelude.{ℕ, ◌≡◌, ◌+◌, ◌==◌, List, [], ◌∷◌, ◌++◌, All, set, Option, Some, None, if◌then◌else◌}
use Rattle.fb_graph.specs.Dual.{Node, top_at}
use Rattle.fb_regions.specs.declared.listing.Listing.{Listing}
use Rattle.fb_regions.specs.declared.marks.Mark.{Mark}
use Rattle.fb_regions.specs.declared.region.Region.{Region}
use Rattle.fb_regions.specs.Moves.{BeginsWith}
use Rattle.fb_regions.specs.InternalNodes.{added_to, chain, first_of, mark_of}

-- a node's first vertex is known, and back from its last one come those that it absorbed and those of its first layer
pub record IsListed (marks : List (Option Mark)) (r : Region) : Type 0 where
  pub first : BeginsWith r.first (first_of marks r)
  pub whole : chain marks (r.base + r.added) r.last ≡ first_of marks r ++ added_to marks r

abbrev pub AreListed : List (Option Mark) → List Region → Type 0
AreListed marks regions = All (IsListed marks) regions

-- the first of these nodes, if there is one, begins with the vertex
abbrev pub BeginsFirst : List Node → ℕ → List ℕ → Type 0
BeginsFirst nodes v [] = Unit {0}
BeginsFirst nodes v (c ∷ cs) = BeginsWith v (top_at nodes c)

-- a node that joins others begins as the first of them does
abbrev pub BeginAlike : List Node → List Region → Type 0
BeginAlike nodes regions = All (λ r. BeginsFirst nodes r.first r.children.items) regions

-- the list of a node's vertices
abbrev pub listing_at : Region → Listing
listing_at r = record { first = r.first; count = r.base + r.added; last = r.last }

-- the vertex's mark, if there is one, with another vertex before it
abbrev pub marked_behind : ℕ → Option Mark → Option Mark
marked_behind u None = None
marked_behind u (Some m) = Some (record m { before = u })

-- the marks with another vertex before the one, if it has a mark
abbrev pub put_behind : List (Option Mark) → ℕ → ℕ → List (Option Mark)
put_behind marks v u = elim (mark_of marks v) as (λ o. List (Option Mark)) [ None ↦ marks | Some m ↦ set marks v (Some (record m { before = u })) ]

-- marks, and a list that they keep
pub record Linked : Type 0 where
  pub marks : List (Option Mark)
  pub listing : Listing

-- the list with another one behind it
abbrev pub with_listing : Linked → Listing → Linked
with_listing s next =
    if s.listing.count == 0 then record { marks = s.marks; listing = next }
    else record {
      marks = put_behind s.marks next.first s.listing.last;
      listing = record { first = s.listing.first; count = s.listing.count + next.count; last = next.last };
    }

-- the node of this name, if there is one
abbrev pub region_named : List Region → ℕ → Option Region
region_named [] name = None
region_named (r ∷ rs) name = if r.name == name then Some r else region_named rs name

-- the list with those of the named nodes behind it, one after another
abbrev pub linked_all : List Region → List ℕ → Linked → Linked
linked_all regions [] s = s
linked_all regions (c ∷ cs) s =
    linked_all regions cs (elim (region_named regions c) as (λ o. Linked) [ None ↦ s | Some r ↦ with_listing s (listing_at r) ])

-- the number of vertices of the named nodes
abbrev pub count_named : List Region → List ℕ → ℕ
count_named regions [] = 0
count_named regions (c ∷ cs) = elim (region_named regions c) as (λ o. ℕ) [ None ↦ 0 | Some r ↦ r.base + r.added ] + count_named regions cs
