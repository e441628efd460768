-- The alternating tree as contracts see it: its root, and its branches with the numbers of their links, the newest one
-- first.
use Rattle.std.specs.Prelude.{ℕ, List, map, reverse, refl}
use Rattle.std.specs.Coded.{Coded, code_by, coded×, coded_list, coded_ℕ}
use Rattle.fb_laws.specs.Trees.{EntryOf}
use Rattle.fb_trees.specs.declared.branch.Branch.{Branch}

pub record Grown : Type 0 where
  pub root : ℕ
  pub branches : List (EntryOf ℕ)

abbrev pub entry_code : Coded (EntryOf ℕ)
entry_code =
    code_by (ℕ × (ℕ × (ℕ × (ℕ × ℕ)))) (coded× coded_ℕ (coded× coded_ℕ (coded× coded_ℕ (coded× coded_ℕ coded_ℕ))))
    (λ e. (e.parent, (e.tree, (e.minus, (e.matched, e.plus)))))
    (λ x. record { parent = x.0; tree = x.1.0; minus = x.1.1.0; matched = x.1.1.1.0; plus = x.1.1.1.1 }) (λ _. refl)

abbrev pub grown_code : Coded Grown
grown_code =
    code_by (ℕ × List (EntryOf ℕ)) (coded× coded_ℕ (coded_list entry_code)) (λ t. (t.root, t.branches))
    (λ x. record { root = x.0; branches = x.1 }) (λ _. refl)

abbrev pub entry_of : Branch → EntryOf ℕ
entry_of b = record { parent = b.parent; tree = b.tree; minus = b.minus; matched = b.matched; plus = b.plus }

-- the branches in the order of a list that has the oldest one first
abbrev pub entries_of : List Branch → List (EntryOf ℕ)
entries_of branches = map entry_of (reverse branches)
