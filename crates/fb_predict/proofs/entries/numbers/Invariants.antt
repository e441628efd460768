use Rattle.std.proofs.Common.{◌≡◌, drop}
use Rattle.serde_json.specs.View.{items_view}
use Rattle.fb_predict.specs.ObservableText.{numbers_of, after}
use Rattle.fb_predict.proofs.entries.numbers.Given as goal

-- the numbers so far, and the rest
abbrev pub invariant-loop-i : goal.invariant-loop-i
invariant-loop-i l = numbers_of (items_view l.values) ≡ after l.found.items (numbers_of (items_view (drop l.i l.values)))
