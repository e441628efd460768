use Rattle.std.proofs.Common.{ℕ, ◌≡◌, ◌-◌, ◌+◌, length, Option, Some, None, refl, sym, arith}
use Rattle.std.specs.Prelude.{option_map}
use Rattle.std.specs.Option.{option_or}
use Rattle.std.proofs.lemmas.Bool.{eq-eqb, ne_eqb}
use Rattle.fb_plan.specs.Rules.{root_fault}
use Rattle.fb_plan.specs.declared.faults.PlanFault.{PlanFault}
use Rattle.fb_plan.specs.declared.faults.PlanFault.TheVariants.{ChildOutOfRange, ChildUsedTwice, NotOneRoot}
use Rattle.fb_plan.proofs.Stages.{children_below}
use Rattle.fb_plan.proofs.judging.judge_fusions.Goals as goal
use Rattle.fb_plan.proofs.judging.judge_fusions.Goals.{then-units-eq0-via-then-units-eq0, then-units-eq0-via-else-units-eq0+then-units-fusions}

-- as many units as fusions and one more have one root
one_root : (units fusions : ℕ) → (units ≡ 0 → ⊥) → units - 1 ≡ fusions → None ≡ root_fault units fusions
one_root units fusions some is = rw (eq-eqb units (fusions + 1) (omega arith)) refl

no_fault : (child twice : Option ℕ) (root : Option PlanFault) → None ≡ child → None ≡ twice → None ≡ root
    → None ≡ option_or (option_map ChildOutOfRange child) (option_or (option_map ChildUsedTwice twice) root)
no_fault child twice root no_child no_twice no_root = rw (sym no_child, sym no_twice, sym no_root) refl

many_roots : (units fusions : ℕ) → (units ≡ fusions + 1 → ⊥) → Some NotOneRoot ≡ root_fault units fusions
many_roots units fusions differ = rw (ne_eqb units (fusions + 1) differ) refl

root_fault_is : (child twice : Option ℕ) (root : Option PlanFault) → None ≡ child → None ≡ twice → Some NotOneRoot ≡ root
    → Some NotOneRoot ≡ option_or (option_map ChildOutOfRange child) (option_or (option_map ChildUsedTwice twice) root)
root_fault_is child twice root no_child no_twice is = rw (sym no_child, sym no_twice, sym is) refl

pub returns : goal.returns
returns c =
    no_fault _ _ _ c.in-None.ensures (rw c.in-Ok-None.field-0-is at c.in-Ok-None.ensures)
    (one_root c.args.units (length c.args.fusions.now) c.if-units-eq0.false c.if-units-fusions.false)

pub first_used_twice-requires : goal.first_used_twice-requires
first_used_twice-requires c = children_below c.args.units c.args.nodes c.args.fusions.now c.requires (sym c.in-None.ensures)

pub returns-then-units-eq0 : goal.returns-then-units-eq0
returns-then-units-eq0 c =
    root_fault_is _ _ _ c.in-None.ensures (rw c.in-Ok-None.field-0-is at c.in-Ok-None.ensures) (elim c.then-units-eq0.branch [
      | then-units-eq0-via-then-units-eq0 w ↦ many_roots c.args.units (length c.args.fusions.now) (λ is. omega (arith, w.if-units-eq0.true))
      | then-units-eq0-via-else-units-eq0+then-units-fusions w ↦ many_roots c.args.units (length c.args.fusions.now) (λ is. w.if-units-fusions.true (omega (arith, is)))
    ])
