-- No file before place `i` has the name.
use Rattle.std.proofs.Common.{◌≡◌, drop}
use Rattle.fb_ports.specs.Memory.{bytes_named}
use Rattle.fb_ports.proofs.memory.place_of.Given as goal

abbrev pub invariant-loop-i : goal.invariant-loop-i
invariant-loop-i l = bytes_named l.files l.name ≡ bytes_named (drop l.i l.files) l.name
