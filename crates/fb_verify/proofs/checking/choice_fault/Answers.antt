use Rattle.std.proofs.Common.{length, sym, ap, ◌∙◌}
use Rattle.fb_verify.specs.Verdicts.{first_beyond}
use Rattle.fb_verify.proofs.Leasts.{below-from_beyond}
use Rattle.fb_verify.proofs.checking.choice_fault.Goals as goal

pub wrong_parity-requires-clause-within : goal.wrong_parity-requires-clause-within
wrong_parity-requires-clause-within c =
    below-from_beyond (length c.args.graph.now.edges) c.args.edges.now
    (ap (λ n. first_beyond n c.args.edges.now) (sym c.edge_count.ensures) ∙ sym c.beyond.ensures ∙ c.in_default.is)
