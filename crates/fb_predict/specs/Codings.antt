-- The text of some bits in each format that they are written in.
use Rattle.std.specs.Prelude.{ℕ, Bool, List}
use Rattle.fb_request.specs.declared.coding.Coding.{Coding}
use Rattle.fb_request.specs.declared.coding.Coding.TheVariants.{Text01, B8, Dets, Hits, R8}
use Rattle.fb_shots_stim.specs.CodedShots.{coded_01, coded_b8, coded_dets, coded_hits, coded_r8}

abbrev pub coded : Coding → List Bool → List ℕ
coded Text01 bits = coded_01 bits
coded B8 bits = coded_b8 bits
coded Dets bits = coded_dets bits
coded Hits bits = coded_hits bits
coded R8 bits = coded_r8 bits
