-- The first fault of a stage, from what its calls answer.
use Rattle.std.proofs.Common.{ℕ, ◌+◌, ◌<◌, ◌≡◌, ◌&&◌, ◌||◌, false, eqb, ltb, leb, List, length, get_or, Option, Some, None, All, refl, sym, ap, ◌∙◌, arith}
use Rattle.std.specs.Option.{option_or}
use Rattle.std.proofs.lemmas.Bool.{leb-false, or_parts}
use Rattle.fb_graph.specs.Limits.{DecodingGraph, is_real_in}
use Rattle.fb_plan.specs.InternalLoads.{load_at}
use Rattle.fb_plan.specs.Rules.{is_out_of_range, is_owned_twice, is_unowned, joins_of}
use Rattle.fb_graph.specs.Leasts.{least}
use Rattle.fb_plan.specs.declared.loads.Measure.TheVariants.{Ranges}
use Rattle.fb_plan.specs.declared.parts.OwnedRange.{OwnedRange}
use Rattle.fb_plan.specs.declared.parts.Join.{Join}
use Rattle.fb_plan.proofs.Fusions.{join_of, length-joins_of}
use Rattle.fb_graph.proofs.Leasts.{least_agree, least_failed}

-- the counts are those of the ranges
abbrev pub AreCounts : DecodingGraph → List OwnedRange → List ℕ → Type 0
AreCounts g claims counts = (v : ℕ) → v < g.vertices → get_or counts v 0 ≡ load_at Ranges claims v

pub unowned_counted : (g : DecodingGraph) (claims : List OwnedRange) (counts : List ℕ) → AreCounts g claims counts
    → least g.vertices (λ v. is_real_in g v && eqb (get_or counts v 0) 0) ≡ least g.vertices (is_unowned g claims)
unowned_counted g claims counts told =
    least_agree g.vertices (λ v. is_real_in g v && eqb (get_or counts v 0) 0) (is_unowned g claims)
    (λ v less. ap (λ k. is_real_in g v && eqb k 0) (told v less))

pub twice_counted : (g : DecodingGraph) (claims : List OwnedRange) (counts : List ℕ) → AreCounts g claims counts
    → least g.vertices (λ v. is_real_in g v && ltb 1 (get_or counts v 0)) ≡ least g.vertices (is_owned_twice g claims)
twice_counted g claims counts told =
    least_agree g.vertices (λ v. is_real_in g v && ltb 1 (get_or counts v 0)) (is_owned_twice g claims)
    (λ v less. ap (λ k. is_real_in g v && ltb 1 k) (told v less))

-- the children of fusions that break no rule are nodes
pub children_below : (units nodes : ℕ) (fusions : List Join) → nodes ≡ units + length fusions
    → least (length (joins_of fusions)) (is_out_of_range units (joins_of fusions)) ≡ None
    → All (λ join. (join.left < nodes) × (join.right < nodes)) fusions
children_below units nodes fusions count none i d less =
    let low : (leb (units + i) (get_or fusions i d).left || leb (units + i) (get_or fusions i d).right) ≡ false =
    sym (ap (λ j. leb (units + i) j.0 || leb (units + i) j.1) (join_of fusions i d less))
    ∙ least_failed (length (joins_of fusions)) (is_out_of_range units (joins_of fusions)) none i (omega (arith, less, length-joins_of fusions)) in (
      omega (arith, less, count, leb-false (units + i) (get_or fusions i d).left (or_parts _ _ low).0),
      omega (arith, less, count, leb-false (units + i) (get_or fusions i d).right (or_parts _ _ low).1),
    )

pub ruleset cover = (unowned_counted, twice_counted)

pub ruleset fusions = (children_below)

pub second_fault : {X : Type 0} (a b : Option X) (x : X) → a ≡ None → b ≡ Some x → Some x ≡ option_or a b
second_fault a b x none some = rw (none, some) refl

pub no_fault : {X : Type 0} (a b : Option X) → a ≡ None → b ≡ None → None ≡ option_or a b
no_fault a b first second = rw (first, second) refl
