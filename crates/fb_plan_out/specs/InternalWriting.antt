-- What a writer has got by a call.
use Rattle.std.specs.Prelude.{ℕ, ◌≡◌, ◌-◌, List, ◌++◌, map}
use Rattle.std.specs.List.{range_with_len}
use Rattle.json.specs.Token.{Token}
use Rattle.json.specs.Json.{Json}
use Rattle.json.specs.Tree.{items_tokens}
use Rattle.json.specs.Written.{Written}
use Rattle.fb_plan_out.specs.PlanWriting.{items_from}

-- these tokens were added
pub record Added (old new : Written) (ts : List Token) : Type 0 where
  pub before : new.before ≡ old.before
  pub tokens : new.tokens ≡ old.tokens ++ ts

-- the tokens of the entries from number a on, of n in all, and of the bracket after them
abbrev pub entries_after : (ℕ → Json) → ℕ → ℕ → List Token
entries_after entry n a = items_tokens (items_from (map entry (range_with_len a (n - a))))
