-- What one read does, and how much may still be read.
use Rattle.std.specs.Prelude.{◌≡◌, ℕ, ◌+◌, ◌<◌, true, if◌then◌else◌, List, [], length, Option, IfSome}
use Rattle.std.specs.Io.KnownBytes.{Consumes, Keeps, IsAtEnd}
use Rattle.fb_shots.specs.declared.stream.Read.{Read}
use Rattle.fb_shots.specs.declared.stream.Read.TheVariants as read
use Rattle.fb_shots.specs.Streams.{Stream}
use Rattle.fb_shots.specs.InternalSources.{Source}

-- What a read has done to a reader, to the piece that it was to fill, and to the count of bytes that may still be
-- taken.
abbrev pub ReadsOn : Source → Source → List ℕ → ℕ → ℕ → Option (List ℕ) → Option (List ℕ) → Read → Type 0
ReadsOn old new piece untaken untaken' before after read.Piece =
    (new ≡ old) × Consumes before after piece × (0 < length piece) × (untaken ≡ untaken' + length piece)
ReadsOn old new piece untaken untaken' before after read.End =
    (new ≡ record old { finished = true }) × (piece ≡ []) × Consumes before after [] × IsAtEnd after
    × (untaken' ≡ untaken)
ReadsOn old new piece untaken untaken' before after read.Fault =
    (new ≡ old) × (piece ≡ []) × Keeps before after × (untaken' ≡ untaken)
ReadsOn old new piece untaken untaken' before after read.TooLong =
    (new ≡ old) × (piece ≡ []) × IfSome before (λ left. 0 < length left) × (untaken ≡ 0) × (untaken' ≡ 0)

-- how much a stream may still read: bytes, and the file's end
abbrev pub may_read : Stream → ℕ
may_read s = s.untaken + (if s.finished then 0 else 1)
