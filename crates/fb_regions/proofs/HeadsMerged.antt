-- Heads of two dual states of separated parts as one of the whole.
use Rattle.std.proofs.Common.{ℕ, ◌≡◌, true, List, [], ◌∷◌, ◌++◌, Option, Some, sym, ap, ◌∙◌, subst}
use Rattle.std.proofs.lemmas.List.{map-append}
use Rattle.fb_graph.specs.Certificate.{AreDistinct}
use Rattle.fb_graph.specs.Dual.{is_live}
use Rattle.fb_graph.specs.Limits.{IsWithinLimits}
use Rattle.fb_graph.specs.NestUnions.{AreParts}
use Rattle.fb_graph.specs.Problem.{Problem}
use Rattle.fb_graph.proofs.Among.{among_live, among_map, among_right, map_among}
use Rattle.fb_regions.specs.declared.marks.Mark.{Mark}
use Rattle.fb_regions.specs.declared.region.Region.{Region}
use Rattle.fb_regions.specs.InternalHeads.{HaveHeads}
use Rattle.fb_regions.specs.InternalKept.{IsKept}
use Rattle.fb_regions.specs.InternalListings.{region_named}
use Rattle.fb_regions.specs.InternalMerged.{renamed_region, renamed_regions}
use Rattle.fb_regions.specs.InternalNodes.{node_of, nodes_of}
use Rattle.fb_regions.specs.Merged.{AreNewNames}
use Rattle.fb_regions.proofs.ByName.{names}
use Rattle.fb_regions.proofs.HeadClimbs.{named_among, named_name}
use Rattle.fb_regions.proofs.HeadLists.{among_named, named_before, named_either}
use Rattle.fb_regions.proofs.HeadMerges.{AreClosed, closed_renamed, heads_both, heads_renamed}
use Rattle.fb_regions.proofs.HeadsKept.{child_there}
use Rattle.fb_regions.proofs.Indexed.{distinct_names}
use Rattle.fb_regions.proofs.MergedStates.{distinct_both}

distinct_behind : (xs ys : List ℕ) → AreDistinct (xs ++ ys) → AreDistinct ys
distinct_behind [] ys distinct = distinct
distinct_behind (x ∷ xs) ys distinct = distinct_behind xs ys distinct.1

module _ (left right whole : Problem) (regions others : List Region) (marks more : List (Option Mark)) (f : ℕ → ℕ)
    (limits : IsWithinLimits whole) (parts : AreParts left right whole) (one : IsKept left regions marks)
    (two : IsKept right others more) (new : AreNewNames (nodes_of marks regions) (nodes_of more others) f)
    (have_left : HaveHeads (region_named regions)) (have_right : HaveHeads (region_named others)) where
  abbrev renamed : List Region
  renamed = renamed_regions f others

  distinct : AreDistinct (names (regions ++ renamed))
  distinct = distinct_both left right whole regions others marks more f limits parts one two new

  distinct_renamed : AreDistinct (names renamed)
  distinct_renamed = distinct_behind (names regions) (names renamed) (subst AreDistinct (map-append (λ r. r.name) regions renamed) distinct)

  into : (x : ℕ) (r : Region) → region_named others x ≡ Some r → region_named renamed (f x) ≡ Some (renamed_region f r)
  into x r e =
      ap (λ n. region_named renamed (f n)) (sym (named_name others x r e))
      ∙ among_named renamed (renamed_region f r) distinct_renamed (map_among (renamed_region f) others r (named_among others x r e))

  from : (y : ℕ) (s : Region) → region_named renamed y ≡ Some s
      → (x : ℕ) × (r : Region) × (f x ≡ y) × (region_named others x ≡ Some r) × (renamed_region f r ≡ s)
  from y s e =
      let (r, a, is) = among_map (renamed_region f) others s (named_among renamed y s e) in
      (r.name, r, ap (λ z. z.name) is ∙ named_name renamed y s e, among_named others r (distinct_names right others more two) a, is)

  live : (x : ℕ) (r : Region) → region_named others x ≡ Some r → is_live (nodes_of more others) x ≡ true
  live x r e =
      among_live (nodes_of more others) (node_of more r) x (map_among (node_of more) others r (named_among others x r e)) (named_name others x r e)

  differ : (a b : ℕ) (r s : Region) → region_named others a ≡ Some r → region_named others b ≡ Some s → f a ≡ f b → a ≡ b
  differ a b r s is_r is_s same = new.apart a b (live a r is_r) (live b s is_s) same

  closed : AreClosed (region_named others)
  closed = child_there right others more two

  pub heads_merged : HaveHeads (region_named (regions ++ renamed))
  heads_merged =
      heads_both (region_named regions) (region_named renamed) (region_named (regions ++ renamed)) have_left
      (heads_renamed (region_named others) (region_named renamed) f have_right closed into from differ)
      (child_there left regions marks one)
      (closed_renamed (region_named others) (region_named renamed) f have_right closed into from differ)
      (named_before regions renamed)
      (λ x r e.
      ap (region_named (regions ++ renamed)) (sym (named_name renamed x r e))
      ∙ among_named (regions ++ renamed) r distinct (among_right regions renamed r (named_among renamed x r e)))
      (named_either regions renamed)
