use Rattle.std.proofs.Common.{◌≡◌, [], drop}
use Rattle.fb_verify.specs.Verdicts.{cuts_fault}
use Rattle.fb_verify.proofs.cuts.first_cut_fault.Given as goal

abbrev pub invariant-loop-j : goal.invariant-loop-j
invariant-loop-j l =
    cuts_fault l.graph l.shot 0 [] l.cuts ≡ cuts_fault l.graph l.shot l.j l.before (drop l.j l.cuts)
