-- The names that are printed of why a record is refused.
use Rattle.std.specs.Prelude.{ℕ, List, codes}
use Rattle.fb_shots_stim.specs.declared.answer.Kind.{Kind}
use Rattle.fb_shots_stim.specs.declared.answer.Kind.TheVariants.{BadByte, ShortRecord, LongRecord, PaddingBit, BadToken, IndexOutOfRange, RepeatedIndex, MeasurementToken}

abbrev pub kind_name : Kind → List ℕ
kind_name BadByte = codes "BadByte"
kind_name ShortRecord = codes "ShortRecord"
kind_name LongRecord = codes "LongRecord"
kind_name PaddingBit = codes "PaddingBit"
kind_name BadToken = codes "BadToken"
kind_name IndexOutOfRange = codes "IndexOutOfRange"
kind_name RepeatedIndex = codes "RepeatedIndex"
kind_name MeasurementToken = codes "MeasurementToken"
