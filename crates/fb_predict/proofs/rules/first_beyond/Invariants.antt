use Rattle.std.proofs.Common.{◌≡◌, drop, map}
use Rattle.fb_predict.specs.ObservableText.{first_where, is_beyond}
use Rattle.fb_predict.proofs.rules.first_beyond.Given as goal

abbrev pub invariant-loop-i : goal.invariant-loop-i
invariant-loop-i l = first_where (is_beyond l.edge_count) 0 (map (λ u. u.items) l.lists)
    ≡ first_where (is_beyond l.edge_count) l.i (map (λ u. u.items) (drop l.i l.lists))
