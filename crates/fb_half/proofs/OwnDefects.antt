-- The shot's defects at the real vertices of a part, and of one that is made of two.
use Rattle.std.proofs.Common.{ℕ, ◌≡◌, ◌&&◌, ◌||◌, Bool, true, false, List, [], ◌++◌, get_or, Some, refl, sym, ap, ◌∙◌}
use Rattle.std.specs.List.Sorted.{IsStrictlyIncreasing}
use Rattle.std.proofs.lemmas.List.Kept.{IsStrictlyIncreasing-filter}
use Rattle.fb_graph.specs.Limits.{IsWithinLimits, no_shot}
use Rattle.fb_graph.specs.Parity.{is_in}
use Rattle.fb_graph.proofs.Booleans.{same_bool}
use Rattle.fb_graph.proofs.Members.{is_in-append}
use Rattle.fb_graph.proofs.Sets.{is_in-filter, rising_same}
use Rattle.fb_plan.specs.Plans.{children_of, problem_at}
use Rattle.fb_plan.specs.Seams.{is_own}
use Rattle.fb_half.specs.Beginnings.{shot_defects}
use Rattle.fb_half.specs.InternalUnions.{IsRisingUnion}
use Rattle.fb_half.specs.Merged.{is_owned_by, shot_seam}
use Rattle.fb_half.specs.Parts.{IsPart, PartValue, graph_in, problem_in, shot_of}
use Rattle.fb_half.proofs.BegunParts.{given_in, given_of, shot_at}
use Rattle.fb_half.proofs.MergedHalves.{middle, own_is_owned, owned_is_own, p, q, real_either, whole}

pub given_rises : (w : PartValue) → IsPart w → IsStrictlyIncreasing (shot_defects w)
given_rises w is = IsStrictlyIncreasing-filter (problem_in w).is_real (shot_of w).defects (shot_at w.job w.slot is.job is.slot).rising

spread : (d a b s : Bool) → (((d && a) || (d && b)) || (d && s)) ≡ (d && ((a || b) || s))
spread true a b s = refl
spread false a b s = refl

module _ (left right : PartValue) (n : ℕ) (limits : IsWithinLimits (problem_at (graph_in left) left.job.plan n no_shot))
    (children : children_of left.job.plan n ≡ Some (left.node, right.node)) (one : IsPart left)
    (two : IsPart (record right { job = left.job; slot = left.slot })) (matched : left.matching.unmatched ≡ []) (also : right.matching.unmatched ≡ []) where
  -- a vertex is real in the whole where it is real in a half, or where the node owns it
  whole_real : (v : ℕ) → (whole left right n limits children one two matched also).is_real v
      ≡ (((p left right n limits children one two matched also).is_real v || (q left right n limits children one two matched also).is_real v) || is_owned_by left.job.plan n v)
  whole_real v =
      real_either left right n limits children one two matched also v
      ∙ ap (λ b. (middle left right n limits children one two matched also).is_real v || b)
      (same_bool (is_own left.job.graph left.job.plan n v) (is_owned_by left.job.plan n v) (own_is_owned left.job.graph left.job.plan n v)
      (owned_is_own left.job.graph left.job.plan n v one.job.plan))

  -- what both halves have and what the node owns is what the whole has
  pub given_joined : (w : PartValue) (mine theirs all : List ℕ) → w.job ≡ left.job → w.slot ≡ left.slot → w.node ≡ n → right.job ≡ left.job → right.slot ≡ left.slot
      → mine ≡ shot_defects left → theirs ≡ shot_defects right → IsRisingUnion (mine ++ theirs) (shot_seam left.job left.slot n) all → all ≡ shot_defects w
  given_joined w mine theirs all job slot node same_job same_slot mine_are theirs_are union =
      given_in w left.job left.slot n all job slot node
      (rising_same all (given_of left.job left.slot n) union.rising
      (IsStrictlyIncreasing-filter real defects (shot_at left.job left.slot one.job one.slot).rising) alike)
    where
      real : ℕ → Bool
      real = (problem_at left.job.graph left.job.plan n no_shot).is_real

      defects : List ℕ
      defects = (get_or left.job.shots left.slot no_shot).defects

      theirs_here : theirs ≡ given_of left.job left.slot right.node
      theirs_here = theirs_are ∙ (ap (λ j. given_of j right.slot right.node) same_job ∙ ap (λ s. given_of left.job s right.node) same_slot)

      alike : (v : ℕ) → is_in all v ≡ is_in (given_of left.job left.slot n) v
      alike v =
          union.members v
          ∙ (ap (λ b. b || is_in (shot_seam left.job left.slot n) v)
          (is_in-append mine theirs v ∙ (λ i. is_in (mine_are i) v || is_in (theirs_here i) v))
          ∙ ((λ i. (is_in-filter (p left right n limits children one two matched also).is_real defects v i
          || is_in-filter (q left right n limits children one two matched also).is_real defects v i)
          || is_in-filter (is_owned_by left.job.plan n) defects v i)
          ∙ (spread (is_in defects v) ((p left right n limits children one two matched also).is_real v) ((q left right n limits children one two matched also).is_real v)
          (is_owned_by left.job.plan n v)
          ∙ (ap (λ b. is_in defects v && b) (sym (whole_real v)) ∙ sym (is_in-filter real defects v)))))
