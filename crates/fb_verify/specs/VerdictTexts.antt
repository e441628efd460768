-- What is printed of a verdict: its name and its numbers.
use Rattle.std.specs.Prelude.{ℕ, ℤ, pos, Bool, true, false, List, [], ◌∷◌, codes}
use Rattle.fb_verify.specs.declared.verdicts.Numbers.{Numbers}
use Rattle.fb_verify.specs.declared.verdicts.Numbers.TheVariants.{Nothing, One, Two}
use Rattle.fb_verify.specs.declared.verdicts.Verdict.{Verdict}
use Rattle.fb_verify.specs.declared.verdicts.Verdict.TheVariants.{Good, EdgeOutOfRange, EdgesNotRising, WrongParity, WeightNotSum, BaseDiffers, CutEmpty, VertexOutOfRange, CutsNotRising, CutHoldsVirtual, CutEven, Overloaded, SumDiffers, OddWrong}

-- the name of a verdict
abbrev pub verdict_name : Verdict → List ℕ
verdict_name Good = codes "good"
verdict_name (EdgeOutOfRange e) = codes "bad EdgeOutOfRange"
verdict_name (EdgesNotRising e) = codes "bad EdgesNotRising"
verdict_name (WrongParity v) = codes "bad WrongParity"
verdict_name (WeightNotSum weight sum) = codes "bad WeightNotSum"
verdict_name (BaseDiffers base sum) = codes "bad BaseDiffers"
verdict_name (CutEmpty j) = codes "bad CutEmpty"
verdict_name (VertexOutOfRange v) = codes "bad VertexOutOfRange"
verdict_name (CutsNotRising j) = codes "bad CutsNotRising"
verdict_name (CutHoldsVirtual v) = codes "bad CutHoldsVirtual"
verdict_name (CutEven j) = codes "bad CutEven"
verdict_name (Overloaded e) = codes "bad Overloaded"
verdict_name (SumDiffers weight sum) = codes "bad SumDiffers"
verdict_name (OddWrong v) = codes "bad OddWrong"

-- the numbers that are printed after it
abbrev pub verdict_numbers : Verdict → List ℤ
verdict_numbers Good = []
verdict_numbers (EdgeOutOfRange e) = pos e ∷ []
verdict_numbers (EdgesNotRising e) = pos e ∷ []
verdict_numbers (WrongParity v) = pos v ∷ []
verdict_numbers (WeightNotSum weight sum) = weight ∷ sum ∷ []
verdict_numbers (BaseDiffers base sum) = base ∷ sum ∷ []
verdict_numbers (CutEmpty j) = pos j ∷ []
verdict_numbers (VertexOutOfRange v) = pos v ∷ []
verdict_numbers (CutsNotRising j) = pos j ∷ []
verdict_numbers (CutHoldsVirtual v) = pos v ∷ []
verdict_numbers (CutEven j) = pos j ∷ []
verdict_numbers (Overloaded e) = pos e ∷ []
verdict_numbers (SumDiffers weight sum) = weight ∷ sum ∷ []
verdict_numbers (OddWrong v) = pos v ∷ []

-- whether the row breaks a rule
abbrev pub is_bad : Verdict → Bool
is_bad Good = false
is_bad (EdgeOutOfRange e) = true
is_bad (EdgesNotRising e) = true
is_bad (WrongParity v) = true
is_bad (WeightNotSum weight sum) = true
is_bad (BaseDiffers base sum) = true
is_bad (CutEmpty j) = true
is_bad (VertexOutOfRange v) = true
is_bad (CutsNotRising j) = true
is_bad (CutHoldsVirtual v) = true
is_bad (CutEven j) = true
is_bad (Overloaded e) = true
is_bad (SumDiffers weight sum) = true
is_bad (OddWrong v) = true

-- numbers as a list
abbrev pub numbers_in : Numbers → List ℤ
numbers_in Nothing = []
numbers_in (One a) = pos a ∷ []
numbers_in (Two a b) = a ∷ b ∷ []
