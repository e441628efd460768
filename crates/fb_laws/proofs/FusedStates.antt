-- Two parts fused over the seam between them: merged without it, which then becomes real.
use Rattle.std.proofs.Common.{ℕ, ◌≡◌, ◌⊎◌, inl, inr, true, ◌++◌, map, arith}
use Rattle.std.proofs.lemmas.Bool.{or_left, or_right, or_cases}
use Rattle.std.proofs.lemmas.List.{length-append, length-map}
use Rattle.fb_graph.specs.Limits.{IsWithinLimits}
use Rattle.fb_graph.specs.NestUnions.{AreParts}
use Rattle.fb_laws.specs.Merging.{freed_links, freed_names}
use Rattle.fb_laws.specs.NestedSearches.{IsNestedWork}
use Rattle.fb_laws.specs.FusedStates.{NestedFused, UnmatchedCounted, without_seam}
use Rattle.fb_laws.proofs.HalvesKept.{matching_permuted}
use Rattle.fb_laws.proofs.NestedFusions.{nested_merged, nested_seam}

pub nested_fused : NestedFused
nested_fused left right whole nodes others links others_links rest unmatched more freed singles seam limits may is
    further moved here there =
    nested_seam (without_seam left right whole) whole (nodes ++ others) freed rest singles seam (unmatched ++ more)
    (λ i d less. (limits.each_edge i d less).even) limits is further.names further.vertices further.real further.own
    (record {
      nest = both.nest;
      walks = both.walks;
      outer = both.outer;
      work = record {
        matching =
            matching_permuted (without_seam left right whole) (nodes ++ others) (links ++ others_links)
            (freed_links freed ++ rest) (unmatched ++ more) moved both.work.matching;
        even = both.work.even;
      };
    })
  where
    real : (v : ℕ) → (left.is_real v ≡ true) ⊎ (right.is_real v ≡ true) → whole.is_real v ≡ true
    real v (inl h) = may.parts.left_part.real v h
    real v (inr h) = may.parts.right_part.real v h

    within : IsWithinLimits (without_seam left right whole)
    within = record {
      vertices = limits.vertices;
      edges = limits.edges;
      each_edge = limits.each_edge;
      real_below = λ v h. limits.real_below v (real v (or_cases (left.is_real v) (right.is_real v) h));
    }

    parts : AreParts left right (without_seam left right whole)
    parts = record {
      left_part = record {
        edges = may.parts.left_part.edges;
        real = λ v h. or_left (left.is_real v) (right.is_real v) h;
        defects = may.parts.left_part.defects;
      };
      right_part = record {
        edges = may.parts.right_part.edges;
        real = λ v h. or_right (left.is_real v) (right.is_real v) h;
        defects = may.parts.right_part.defects;
      };
      separated = may.parts.separated;
    }

    both : IsNestedWork (without_seam left right whole) (nodes ++ others) (links ++ others_links) (unmatched ++ more)
    both =
        nested_merged left right (without_seam left right whole) nodes others links others_links unmatched more within
        parts (λ v h. or_cases (left.is_real v) (right.is_real v) h) may.names may.right_only may.left_only here there

pub unmatched_counted : UnmatchedCounted
unmatched_counted unmatched more freed singles =
    omega (
      arith,
      length-append (unmatched ++ more) (freed_names freed ++ map (λ s. s.name) singles),
      length-append unmatched more,
      length-append (freed_names freed) (map (λ s. s.name) singles),
      length-map freed (λ f. f.name),
      length-map singles (λ s. s.name),
    )
