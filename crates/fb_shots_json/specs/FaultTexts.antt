-- The names that are printed of why a line is refused.
use Rattle.std.specs.Prelude.{ℕ, List, codes}
use Rattle.fb_shots_json.specs.declared.answer.Kind.{Kind}
use Rattle.fb_shots_json.specs.declared.answer.Kind.TheVariants.{LineTooLong, NotJson, NoDefects, DefectOutOfRange, DefectOnVirtual, DefectRepeated, NotChanges, ShotEdgeOutOfRange, OddShotWeight, ShotWeightTooLarge, ShotWeightTooSmall}

abbrev pub kind_name : Kind → List ℕ
kind_name LineTooLong = codes "LineTooLong"
kind_name NotJson = codes "NotJson"
kind_name NoDefects = codes "NoDefects"
kind_name DefectOutOfRange = codes "DefectOutOfRange"
kind_name DefectOnVirtual = codes "DefectOnVirtual"
kind_name DefectRepeated = codes "DefectRepeated"
kind_name NotChanges = codes "NotChanges"
kind_name ShotEdgeOutOfRange = codes "ShotEdgeOutOfRange"
kind_name OddShotWeight = codes "OddShotWeight"
kind_name ShotWeightTooLarge = codes "ShotWeightTooLarge"
kind_name ShotWeightTooSmall = codes "ShotWeightTooSmall"
