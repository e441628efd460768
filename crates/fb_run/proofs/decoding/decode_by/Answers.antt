use Rattle.std.proofs.Common.{[], inl, inr, refl}
use Rattle.std.proofs.KnownBytes.{Appends-nil}
use Rattle.fb_report.specs.Texts.{head_text}
use Rattle.fb_files.proofs.Inputs.{asks_same}
use Rattle.fb_run.proofs.decoding.decode_by.Goals as goal

pub returns-in_default-clause-ends : goal.returns-in_default-clause-ends
returns-in_default-clause-ends g c =
    inl (record { asks = asks_same _ _ refl; unfailing = refl; written = ([], head_text, refl, Appends-nil _); ends = inr refl })
