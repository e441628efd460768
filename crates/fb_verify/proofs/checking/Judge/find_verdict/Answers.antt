use mir.Syntax.{w128}
use mir.Val.{SFits}
use Rattle.std.proofs.Common.{◌≡◌, [], ◌∷◌, Option, Some, None, unwrap_or, refl, sym, ◌∙◌, rules}
use Rattle.std.proofs.lemmas.Int.{to_z-of_z}
use Rattle.fb_verify.specs.Verdicts.{first_of}
use Rattle.fb_verify.specs.declared.verdicts.Verdict.{Verdict}
use Rattle.fb_verify.specs.declared.verdicts.Verdict.TheVariants.{Good}
use Rattle.fb_verify.proofs.Certified.{choice_within}
use Rattle.fb_verify.proofs.checking.Judge.find_verdict.Goals as goal

third_fault : (a b c : Option Verdict) (v : Verdict) → a ≡ None → b ≡ None → c ≡ Some v → v ≡ unwrap_or (first_of (a ∷ b ∷ c ∷ [])) Good
third_fault a b c v p q r = rw (p, q, r) refl

no_fault : (a b c : Option Verdict) → a ≡ None → b ≡ None → c ≡ None → Good ≡ unwrap_or (first_of (a ∷ b ∷ c ∷ [])) Good
no_fault a b c p q r = rw (p, q, r) refl

pub sums_fault-requires-clause-within : goal.sums_fault-requires-clause-within
sums_fault-requires-clause-within c =
    choice_within c.self.inside.graph.now c.args.shot.now c.as_slice-edges.result.now (sym c.in_ok-fault-in-Best.ensures ∙ c.in_default.is)

pub returns-in-Some-2-clause-verdict : goal.returns-in-Some-2-clause-verdict
returns-in-Some-2-clause-verdict c =
    let base : SFits w128 c.in-Best.base = search rules in
    let weight : SFits w128 c.in-Best.weight = search rules in
    let choice = rw c.as_slice-edges.ensures at (sym c.in_ok-fault-in-Best.ensures ∙ c.in_default.is) in
    let sums = rw (to_z-of_z _ _ base, to_z-of_z _ _ weight, c.as_slice-edges.ensures) at (sym c.sums_fault.ensures ∙ c.in_default-sums_fault.is) in
    let certificate = rw (to_z-of_z _ _ weight, ← c.self.view_is) at (sym c.in_ok-fault-in-Best-2.ensures.fault ∙ c.in-Some-2.is) in
    rw (c.in-Best.is, ← c.self.view_is) (third_fault _ _ _ c.in-Some-2.fault choice sums certificate)

pub returns-in_default-2-clause-verdict : goal.returns-in_default-2-clause-verdict
returns-in_default-2-clause-verdict c =
    let base : SFits w128 c.in-Best.base = search rules in
    let weight : SFits w128 c.in-Best.weight = search rules in
    let choice = rw c.as_slice-edges.ensures at (sym c.in_ok-fault-in-Best.ensures ∙ c.in_default.is) in
    let sums = rw (to_z-of_z _ _ base, to_z-of_z _ _ weight, c.as_slice-edges.ensures) at (sym c.sums_fault.ensures ∙ c.in_default-sums_fault.is) in
    let certificate = rw (to_z-of_z _ _ weight, ← c.self.view_is) at (sym c.in_ok-fault-in-Best-2.ensures.fault ∙ c.in_default-2.is) in
    rw (c.in-Best.is, ← c.self.view_is) (no_fault _ _ _ choice sums certificate)
