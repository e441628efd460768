use Rattle.std.proofs.Common.{ℕ, ◌≡◌, ◌∙◌, Bool, true, false, not, ap, refl, sym, is_lt, [], ◌∷◌, Option, Some, None, is_some}
use Rattle.std.specs.Option.{option_map}
use Rattle.fb_verify.specs.Verdicts.{fault_if, first_beyond, first_of}
use Rattle.fb_verify.specs.declared.verdicts.Verdict.TheVariants.{CutEmpty, VertexOutOfRange, CutsNotRising, CutHoldsVirtual, CutEven}
use Rattle.fb_verify.proofs.cuts.fault_of_cut.Goals as goal

-- a cut with a virtual vertex that keeps the rules before
holds_virtual : (j vertex : ℕ) (empty falls after odd : Bool) (beyond virtual : Option ℕ) → false ≡ empty → None ≡ beyond
    → false ≡ falls → true ≡ after → Some vertex ≡ virtual
    → Some (CutHoldsVirtual vertex) ≡ first_of (
    fault_if empty (CutEmpty j)
    ∷ option_map VertexOutOfRange beyond
    ∷ fault_if falls (CutsNotRising j)
    ∷ fault_if (not after) (CutsNotRising j)
    ∷ option_map CutHoldsVirtual virtual
    ∷ fault_if (not odd) (CutEven j)
    ∷ [])
holds_virtual j vertex empty falls after odd beyond virtual some within rises above is =
    rw (sym some, sym within, sym rises, sym above, sym is) refl

pub returns-in-Some-first_virtual : goal.returns-in-Some-first_virtual
returns-in-Some-first_virtual c =
    holds_virtual c.args.j c.in-Some-first_virtual.vertex _ _ _ _ _ _ c.if-is_empty.ensures
    (c.in_default.ensures ∙ ap (λ n. first_beyond n c.args.vertices.now) c.vertices.ensures)
    (c.if-is_some.ensures ∙ ap is_some c.fall.ensures) (c.if-not-is_lt.ensures ∙ ap is_lt c.cmp.ensures) c.in-Some-first_virtual.ensures
