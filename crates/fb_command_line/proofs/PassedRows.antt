-- What a parse without a fault holds of its options: each value passed the parser of its option.
use Rattle.std.proofs.Common.{not, option_map, ◌∙◌, ◌≡◌, ◌&&◌, ◌||◌, ap, refl, subst, ℕ, Bool, true, false, cond, List, [], ◌∷◌, Option, Some, None, is_some, fold, zero, suc, length, arith}
use Rattle.std.specs.Option.{option_map_or}
use Rattle.std.specs.Prelude.{IsSomeAnd, option_and_then, find, IfSome, ⊤, nat_lt, if◌then◌else◌, slice_get}
use Rattle.std.specs.Str.{bytes_eq, chars}
use Rattle.std.specs.List.{list_any}
use Rattle.std.proofs.lemmas.Slice.Eq.{bytes_eq-Decides}
use Rattle.std.proofs.lemmas.Bool.{and_parts, or_parts, not-false, ne_eqb}
use Rattle.clap.specs.Facts.{explicit_source, parser_of_value, unwrap_or_range}
use Rattle.clap.specs.Faults.{given_default_fault, stray_fault, action_fault, bundle_fault, bundle_step_fault, check_fault, default_fault, defaults_fault, flag_word_fault, flags_fault, level_fault, long_fault, option_fault, other_fault, positional_fault, react_fault, set_fault, settle_fault, short_fault, step_fault, turn_fault, use_fault, values_fault, walk_fault, word_fault}
use Rattle.clap.specs.Kinds.{check_kinds, Kinds, or_else, range_kinds}
use Rattle.clap.specs.Lexer.{long_of, short_of}
use Rattle.clap.specs.Walk.{one_of, row_text, Held, Names, Outcome, Row, Rule, Step, Text, Waiting, Walk, action_of, after_flag, after_step, arg_by_id, arg_by_index, arg_by_long, arg_by_short, attached_value, bundle, bundle_met, bundle_step, done, flag_met, has_row, idle, is_empty, default_rows, is_pending, nothing_held, rows_after, takes_several, long_met, long_or_other, next, option, option_met, option_word, plain, plain_word, positional, reacted, reading_by, refused, settled, settled_rows, short_met, short_or_plain, subcommand, subcommand_met, subcommand_or_other, takes_values, to_positional, trailing, used, used_as, used_by_id, value, values_or_missing, waits, walk, walk_from, walked, walked_from, with_default, with_values, without, word_met}
use Rattle.clap.specs.Simple.{Shape}
use Rattle.clap.specs.Takes.{is_given}
use Rattle.clap.specs.Values.{Accepts, read_as, refused_kind}
use Rattle.clap.specs.ValueTests.{accepts}
use Rattle.clap.proofs.SimpleLemmas.{is_false}
use Rattle.clap.proofs.ValueTestLemmas.{accepts-Accepts}
use Rattle.clap.specs.declared.builder.ArgAction.{ArgAction}
use Rattle.clap.specs.declared.builder.ArgAction.TheVariants as action
use Rattle.clap.specs.declared.builder.value_parser.Reading.{Reading}
use Rattle.clap.specs.declared.builder.value_parser.Reading.TheVariants as reading
use Rattle.clap.specs.declared.parser.matches.ValueSource.{ValueSource}
use Rattle.clap.specs.declared.parser.matches.ValueSource.TheVariants as source
use Rattle.clap.specs.declared.error.ErrorKind.TheVariants as kind

-- of faults, one after another, there is none
pub none_first : (a b : Kinds) → or_else a b ≡ [] → a ≡ []
none_first [] b e = refl
none_first (k ∷ ks) b e = cc

pub none_then : (a b : Kinds) → or_else a b ≡ [] → b ≡ []
none_then [] b e = e
none_then (k ∷ ks) b e = cc

-- ---- rows whose values passed

abbrev pub has_some : List Text → Bool
has_some [] = false
has_some (v ∷ vs) = true

-- the row has a value, each passed the parser of this option, and the typed getters read them as that parser says
pub record Passes (a : Rule) (r : Row) : Type 0 where
  pub some : has_some r.values ≡ true
  pub all : values_fault a r.values ≡ []
  pub reading : r.reading ≡ reading_by a

-- the row is of one of the options, and its values passed
abbrev pub RowPasses : List Rule → Row → Type 0
RowPasses c r = IfSome (arg_by_id c r.id) (λ a. Passes a r)

abbrev pub RowsPass : List Rule → List Row → Type 0
RowsPass c [] = ⊤
RowsPass c (r ∷ rs) = RowPasses c r × RowsPass c rs

-- each use of an option like this one leaves one value or more, and there is at most one use
abbrev pub is_single_by : ArgAction → Rule → Bool
is_single_by action.Set a = nat_lt 0 (unwrap_or_range a.range).start_inclusive
is_single_by action.SetTrue a = has_some a.missing
is_single_by action.SetFalse a = has_some a.missing
is_single_by action.Append a = false
is_single_by action.Count a = false
is_single_by request a = true

-- no other option of the list has this one's id
pub record IsOnly (c : List Rule) (a : Rule) : Type 0 where
  pub by_id : arg_by_id c a.id ≡ Some a
  pub single : is_single_by (action_of a) a ≡ true

abbrev pub AreOnly : List Rule → List Rule → Type 0
AreOnly c [] = ⊤
AreOnly c (a ∷ rest) = IsOnly c a × AreOnly c rest

-- no two options have one id, and each is used once at most
abbrev pub are_single : List Rule → Bool
are_single [] = true
are_single (a ∷ rest) = not (list_any (λ b. bytes_eq a.id b.id) rest) && (is_single_by (action_of a) a && are_single rest)

-- the options are also found with one more before them, which has another id
only_below : (x : Rule) (c rest : List Rule) → list_any (λ b. bytes_eq x.id b.id) rest ≡ false → AreOnly c rest → AreOnly (x ∷ c) rest
only_below x c [] other only = tt
only_below x c (a ∷ rest) other only =
    let parts : (bytes_eq x.id a.id ≡ false) × (list_any (λ b. bytes_eq x.id b.id) rest ≡ false) = or_parts _ _ other in
    (record { by_id = rw parts.0 only.0.by_id; single = only.0.single }, only_below x c rest parts.1 only.1)

pub only_of_single : (c : List Rule) → are_single c ≡ true → AreOnly c c
only_of_single [] single = tt
only_of_single (a ∷ rest) single =
    let parts = and_parts _ _ single in
    let more = and_parts _ _ parts.1 in (
      record { by_id = rw ((bytes_eq-Decides a.id a.id).1 refl) refl; single = more.0 },
      only_below a rest rest (is_false _ parts.0) (only_of_single rest more.1),
    )

-- what a look-up finds is one of the options
found_only : (c : List Rule) (p : Rule → Bool) (rules : List Rule) (a : Rule) → find p rules ≡ Some a → AreOnly c rules → IsOnly c a
found_only c p [] a found only = cc
found_only c p (x ∷ rest) a found only = go (p x) found (λ e. found_only c p rest a e only.1)
  where
    go : (is : Bool) → cond is (Some x) (find p rest) ≡ Some a → (find p rest ≡ Some a → IsOnly c a) → IsOnly c a
    go true e later =
        let same : x ≡ a = cc in
        subst (λ (y : Rule). IsOnly c y) same only.0
    go false e later = later e

-- ---- one use of an option

-- rows that have no row of an id
row_is_new : (id : Text) (rows : List Row) → has_row id rows ≡ false → without id rows ≡ rows
row_is_new id [] new = refl
row_is_new id (r ∷ rs) new = go (bytes_eq r.id id) refl new (row_is_new id rs)
  where
    go : (is : Bool) → bytes_eq r.id id ≡ is → (is || has_row id rs) ≡ false → (has_row id rs ≡ false → without id rs ≡ rs)
        → without id (r ∷ rs) ≡ r ∷ rs
    go true e none later = cc
    go false e none later = rw e (ap (λ more. r ∷ more) (later none))

row_added : (c : List Rule) (id : Text) (how : Reading) (source : ValueSource) (values : List Text) (rows : List Row)
    → has_row id rows ≡ false
    → RowPasses c (record { id = id; values = values; count = None; source = Some source; reading = how })
    → RowsPass c rows → RowsPass c (with_values id how source values rows)
row_added c id how source values [] new passes rows = (passes, tt)
row_added c id how source values (r ∷ rs) new passes rows = go (bytes_eq r.id id) refl new (λ e. row_added c id how source values rs e passes rows.1)
  where
    go : (is : Bool) → bytes_eq r.id id ≡ is → (is || has_row id rs) ≡ false
        → (has_row id rs ≡ false → RowsPass c (with_values id how source values rs))
        → RowsPass c (with_values id how source values (r ∷ rs))
    go true e none later = cc
    go false e none later = rw e (rows.0, later none)

-- the row that a use makes
use_row : (c : List Rule) (a : Rule) (source : ValueSource) (values : List Text) → IsOnly c a → has_some values ≡ true → values_fault a values ≡ []
    → RowPasses c (record { id = a.id; values = values; count = None; source = Some source; reading = reading_by a })
use_row c a source values only some all = rw only.by_id (record { some = some; all = all; reading = refl })

set_passes : (c : List Rule) (a : Rule) (values : List Text) (rows : List Row) → IsOnly c a → has_some values ≡ true
    → set_fault false a values rows ≡ [] → RowsPass c rows
    → RowsPass c (with_values a.id (reading_by a) source.CommandLine values (without a.id rows))
set_passes c a values rows only some none pass = go (has_row a.id rows) refl none
  where
    go : (is : Bool) → has_row a.id rows ≡ is → or_else (cond (is && true) (kind.ArgumentConflict ∷ []) []) (values_fault a values) ≡ []
        → RowsPass c (with_values a.id (reading_by a) source.CommandLine values (without a.id rows))
    go true e bad = cc
    go false e all = rw (row_is_new a.id rows e)
        (row_added c a.id (reading_by a) source.CommandLine values rows e (use_row c a source.CommandLine values only some all) pass)

-- what a use leaves, where no value stands for none
some_values : (a : Rule) (values : List Text) → has_some values ≡ true → has_some (values_or_missing a values) ≡ true
some_values a [] some = cc
some_values a (v ∷ vs) some = refl

some_missing : (a : Rule) (values : List Text) → has_some a.missing ≡ true → has_some (values_or_missing a values) ≡ true
some_missing a [] some = some
some_missing a (v ∷ vs) some = refl

some_by_range : (values : List Text) (least most : ℕ) → nat_lt 0 least ≡ true → range_kinds least most (length values) ≡ [] → has_some values ≡ true
some_by_range [] least most some counted = let bad = rw some at counted in cc
some_by_range (v ∷ vs) least most some counted = refl

use_passes : (c : List Rule) (a : Rule) (values : List Text) (rows : List Row) → IsOnly c a
    → use_fault false a values rows ≡ [] → RowsPass c rows → RowsPass c (used a values rows)
use_passes c a values rows only none pass =
    go (action_of a) only.single (none_first _ _ none) (none_then _ _ none)
  where
    go : (x : ArgAction) → is_single_by x a ≡ true
        → range_kinds (unwrap_or_range a.range).start_inclusive (unwrap_or_range a.range).end_inclusive (length values) ≡ []
        → action_fault x false a (values_or_missing a values) rows ≡ []
        → RowsPass c (used_as x a.id (reading_by a) (values_or_missing a values) rows)
    go action.Set single counted none = set_passes c a _ rows only (some_values a values (some_by_range values _ _ single counted)) none pass
    go action.SetTrue single counted none = set_passes c a _ rows only (some_missing a values single) none pass
    go action.SetFalse single counted none = set_passes c a _ rows only (some_missing a values single) none pass
    go action.Append single counted none = cc
    go action.Count single counted none = cc
    go action.Help single counted none = cc
    go action.HelpShort single counted none = cc
    go action.HelpLong single counted none = cc
    go action.Version single counted none = cc

-- ---- the walk over the words

-- the pending option is used
settled_passes : (c : List Rule) (h : Held) → AreOnly c c → settle_fault c false h ≡ [] → RowsPass c h.rows → RowsPass c (settled c h).rows
settled_passes c h only none pass = go h.pending none
  where
    found : (o : Option Rule) (values : List Text) → ((a : Rule) → o ≡ Some a → IsOnly c a)
        → option_map_or (λ a. use_fault false a values h.rows) o [] ≡ [] → RowsPass c (used_by_id o values h.rows)
    found None values is_only none = pass
    found (Some a) values is_only none = use_passes c a values h.rows (is_only a refl) none pass

    go : (p : Option (Text × List Text))
        → option_map_or (λ p. option_map_or (λ a. use_fault false a p.1 h.rows) (arg_by_id c p.0) []) p [] ≡ []
        → RowsPass c (settled_rows c p h.rows)
    go None none = pass
    go (Some p) none = found (arg_by_id c p.0) p.1 (λ a e. found_only c _ c a e only) none

reacted_passes : (c : List Rule) (a : Rule) (values : List Text) (h : Held) → AreOnly c c → IsOnly c a
    → react_fault c false a values h ≡ [] → RowsPass c h.rows → RowsPass c (reacted c a values h).rows
reacted_passes c a values h only is_only none pass =
    use_passes c a values _ is_only (none_then _ _ none) (settled_passes c h only (none_first _ _ none) pass)

option_passes : (c : List Rule) (a : Rule) (v : Option Text) (h : Held) → AreOnly c c → IsOnly c a
    → option_fault c false a v h ≡ [] → RowsPass c h.rows → RowsPass c (option_met c a v h).0.rows
option_passes c a (Some v) h only is_only none pass = reacted_passes c a (v ∷ []) h only is_only none pass
option_passes c a None h only is_only none pass = settled_passes c h only none pass

flag_passes : (c : List Rule) (a : Rule) (v : Option Text) (h : Held) → AreOnly c c → IsOnly c a
    → (if is_some v then kind.TooManyValues ∷ [] else react_fault c false a [] h) ≡ [] → RowsPass c h.rows → RowsPass c (flag_met c a v h).0.rows
flag_passes c a (Some v) h only is_only none pass = pass
flag_passes c a None h only is_only none pass = reacted_passes c a [] h only is_only none pass

long_passes : (c : List Rule) (o : Option Rule) (v : Option Text) (h : Held) → AreOnly c c → ((a : Rule) → o ≡ Some a → IsOnly c a)
    → long_fault c false o v h ≡ [] → RowsPass c h.rows → RowsPass c (long_met c o v h).0.rows
long_passes c None v h only is_only none pass = pass
long_passes c (Some a) v h only is_only none pass = go (takes_values a) none
  where
    go : (takes : Bool)
        → cond takes (option_fault c false a v h) (if is_some v then kind.TooManyValues ∷ [] else react_fault c false a [] h) ≡ []
        → RowsPass c (cond takes (option_met c a v h) (flag_met c a v h)).0.rows
    go true none = option_passes c a v h only (is_only a refl) none pass
    go false none = flag_passes c a v h only (is_only a refl) none pass

short_passes : (c : List Rule) (o : Option Rule) (rest : Text) (h : Held) (next_met : Held → Held × Outcome) (next_fault : Held → Kinds)
    → AreOnly c c → ((a : Rule) → o ≡ Some a → IsOnly c a)
    → ((k : Held) → next_fault k ≡ [] → RowsPass c k.rows → RowsPass c (next_met k).0.rows)
    → short_fault c false o rest h next_fault ≡ [] → RowsPass c h.rows → RowsPass c (short_met c o rest h next_met).0.rows
short_passes c None rest h next_met next_fault only is_only more none pass = pass
short_passes c (Some a) rest h next_met next_fault only is_only more none pass = go (takes_values a) none
  where
    go : (takes : Bool)
        → cond takes (option_fault c false a (attached_value rest) h)
        (or_else (react_fault c false a [] h) (next_fault (reacted c a [] h))) ≡ []
        → RowsPass c (cond takes (option_met c a (attached_value rest) h) (next_met (reacted c a [] h))).0.rows
    go true none = option_passes c a (attached_value rest) h only (is_only a refl) none pass
    go false none = more (reacted c a [] h) (none_then _ _ none)
        (reacted_passes c a [] h only (is_only a refl) (none_first _ _ none) pass)

bundle_passes : (c : List Rule) (k : ℕ) (flags : Text) (skip : ℕ) (so_far : Outcome) (h : Held) → AreOnly c c
    → flags_fault c false k flags skip h ≡ [] → RowsPass c h.rows → RowsPass c (bundle_met c k flags skip so_far h).0.rows
unfolding bundle_met flags_fault
bundle_passes c zero flags skip so_far h only none pass = pass
bundle_passes c (suc k) flags skip so_far h only none pass =
    go (slice_get (chars flags) 0) skip none (λ rest s o i n p. bundle_passes c k rest s o i only n p)
  where
    go : (x : Option ℕ) (skipped : ℕ) → bundle_step_fault c false x flags skipped h (flags_fault c false k) ≡ []
        → ((rest : Text) (s : ℕ) (o : Outcome) (i : Held) → flags_fault c false k rest s i ≡ [] → RowsPass c i.rows
        → RowsPass c (bundle_met c k rest s o i).0.rows)
        → RowsPass c (bundle_step c x flags skipped so_far h (bundle_met c k)).0.rows
    go None skipped none later = pass
    go (Some x) zero none later =
        short_passes c (arg_by_short c x) _ h _ _ only (λ a e. found_only c _ c a e only) (λ i n p. later _ 0 done i n p) none pass
    go (Some x) (suc skipped) none later = later _ skipped so_far h none pass

-- a word that is no flag, and what follows a flag, change no row
plain_keeps : (c : List Rule) (waiting : Waiting) (word : Text) (h : Held) → (plain_word c waiting word h).0.rows ≡ h.rows
plain_keeps c idle word h = refl
plain_keeps c positional word h = refl
plain_keeps c (option id) word h = go (arg_by_id c id)
  where
    go : (o : Option Rule) → (option_word o id word h).0.rows ≡ h.rows
    go None = refl
    go (Some a) = refl

flag_keeps : (c : List Rule) (waiting : Waiting) (word : Text) (h : Held) (met : Outcome) → (after_flag c waiting word h met).0.rows ≡ h.rows
flag_keeps c waiting word h done = refl
flag_keeps c waiting word h (waits id) = refl
flag_keeps c waiting word h plain = plain_keeps c waiting word h
flag_keeps c waiting word h refused = plain_keeps c waiting word h

flag_word_passes : (c : List Rule) (waiting : Waiting) (long : Option (Text × Option Text)) (word : Text) (h : Held) → AreOnly c c
    → flag_word_fault c false long word h ≡ [] → RowsPass c h.rows → RowsPass c (long_or_other c waiting word long h).0.rows
flag_word_passes c waiting (Some p) word h only none pass =
    rw (flag_keeps c waiting word (long_met c (arg_by_long c p.0) p.1 h).0 (long_met c (arg_by_long c p.0) p.1 h).1)
    (long_passes c (arg_by_long c p.0) p.1 h only (λ a e. found_only c _ c a e only) none pass)
flag_word_passes c waiting None word h only none pass = go (short_of word) none
  where
    go : (short : Option Text) → option_map_or (λ flags. bundle_fault c false flags h) short [] ≡ []
        → RowsPass c (short_or_plain c waiting word short h).0.rows
    go None none = rw (plain_keeps c waiting word h) pass
    go (Some flags) none =
        rw (flag_keeps c waiting word (bundle c flags h).0 (bundle c flags h).1)
        (bundle_passes c (length flags) flags h.skip plain _ only none pass)

met_passes : (s : Shape) (met : Option Text) (waiting : Waiting) (position : ℕ) (word : Text) (h : Held)
    → s.args_override_self ≡ false → AreOnly s.rules s.rules → other_fault s met word h ≡ [] → RowsPass s.rules h.rows
    → RowsPass s.rules (subcommand_or_other s.rules met waiting position word h).0.rows
met_passes s (Some name) waiting position word h once only none pass = pass
met_passes s None waiting position word h once only none pass = go (bytes_eq word (45 ∷ 45 ∷ [])) none
  where
    go : (ends : Bool) → cond ends [] (flag_word_fault s.rules s.args_override_self (long_of word) word h) ≡ []
        → RowsPass s.rules (cond ends (h, trailing position) (long_or_other s.rules waiting word (long_of word) h)).0.rows
    go true none = pass
    go false none = flag_word_passes s.rules waiting (long_of word) word h only (rw once at none) pass

word_met_passes : (s : Shape) (names : Names) (is_trailing : Bool) (waiting : Waiting) (position : ℕ) (word : Text) (h : Held)
    → s.args_override_self ≡ false → AreOnly s.rules s.rules → word_fault s names is_trailing waiting word h ≡ [] → RowsPass s.rules h.rows
    → RowsPass s.rules (word_met s.rules names is_trailing waiting position word h).0.rows
word_met_passes s names true waiting position word h once only none pass = pass
word_met_passes s names false waiting position word h once only none pass =
    met_passes s (subcommand_met names waiting word) waiting position word h once only none pass

-- the word goes to a positional, or to none
positional_passes : (s : Shape) (a : Rule) (word : Text) (w : Walk) (h : Held) → s.args_override_self ≡ false → AreOnly s.rules s.rules
    → positional_fault s.rules s.args_override_self a h ≡ [] → RowsPass s.rules h.rows
    → RowsPass s.rules (to_positional s.rules (Some a) word w h).held.rows
positional_passes s a word w h once only none pass = go (is_pending a h.pending && takes_several a) none
  where
    go : (continues : Bool) → cond continues [] (settle_fault s.rules s.args_override_self h) ≡ []
        → RowsPass s.rules (cond continues h (settled s.rules h)).rows
    go true none = pass
    go false none = settled_passes s.rules h only (rw once at none) pass

step_passes : (s : Shape) (word : Text) (w : Walk) (h : Held) (step : Step) → s.args_override_self ≡ false → AreOnly s.rules s.rules
    → step_fault s w.position h step ≡ [] → RowsPass s.rules h.rows → RowsPass s.rules (after_step s.rules word w h step).held.rows
step_passes s word w h (next waiting) once only none pass = pass
step_passes s word w h (trailing position) once only none pass = pass
step_passes s word w h (subcommand name) once only none pass = pass
step_passes s word w h value once only none pass = go (arg_by_index s.rules w.position) none
  where
    go : (o : Option Rule) → option_map_or (λ a. positional_fault s.rules s.args_override_self a h) o (stray_fault s) ≡ []
        → RowsPass s.rules (to_positional s.rules o word w h).held.rows
    go None none = pass
    go (Some a) none = positional_passes s a word w h once only none pass

turn_passes : (s : Shape) (names : Names) (w : Walk) (word : Text) (stop : Option (Text × List Text)) → w.stopped ≡ stop
    → s.args_override_self ≡ false → AreOnly s.rules s.rules → turn_fault s names w word ≡ [] → RowsPass s.rules w.held.rows
    → RowsPass s.rules (walked_from s.rules names stop w word).held.rows
turn_passes s names w word (Some stop) e once only none pass = pass
turn_passes s names w word None e once only none pass =
    let faults = rw e at none in
    step_passes s word w _ _ once only (none_then _ _ faults)
    (word_met_passes s names w.is_trailing w.waiting w.position word w.held once only (none_first _ _ faults) pass)

walk_passes : (s : Shape) (names : Names) (w : Walk) (words : List Text) → s.args_override_self ≡ false → AreOnly s.rules s.rules
    → walk_fault s names w words ≡ [] → RowsPass s.rules w.held.rows
    → RowsPass s.rules (fold (walked s.rules names) w words).held.rows
unfolding walked walk_fault
walk_passes s names w [] once only none pass = pass
walk_passes s names w (word ∷ rest) once only none pass =
    walk_passes s names (walked s.rules names w word) rest once only (none_then _ _ none)
    (turn_passes s names w word w.stopped refl once only (none_first _ _ none) pass)

-- ---- defaults

some_length : (v : Text) (vs : List Text) → is_empty (v ∷ vs) ≡ false
some_length v vs = ne_eqb _ _ (λ e. omega arith)

default_passes : (c : List Rule) (a : Rule) (rows : List Row) → IsOnly c a → default_fault rows a ≡ [] → RowsPass c rows
    → RowsPass c (with_default rows a)
default_passes c a rows only none pass = go (has_row a.id rows) refl a.defaults none
  where
    given : (defaults : List Text) → has_row a.id rows ≡ false
        → cond (is_empty defaults) [] (given_default_fault a defaults) ≡ []
        → RowsPass c (default_rows a.id (reading_by a) defaults rows)
    given [] new none = pass
    given (v ∷ vs) new none =
        row_added c a.id (reading_by a) source.DefaultValue (v ∷ vs) rows new
        (use_row c a source.DefaultValue (v ∷ vs) only refl (none_then _ _ (rw (some_length v vs) at none))) pass

    go : (has : Bool) → has_row a.id rows ≡ has → (defaults : List Text)
        → cond (has || is_empty defaults) [] (given_default_fault a defaults) ≡ []
        → RowsPass c (cond has rows (default_rows a.id (reading_by a) defaults rows))
    go true e defaults none = pass
    go false e defaults none = given defaults e none

defaults_pass : (c rest : List Rule) (rows : List Row) → AreOnly c rest → defaults_fault rows rest ≡ [] → RowsPass c rows
    → RowsPass c (fold with_default rows rest)
unfolding defaults_fault
defaults_pass c [] rows only none pass = pass
defaults_pass c (a ∷ rest) rows only none pass =
    defaults_pass c rest (with_default rows a) only.1 (none_then _ _ none)
    (default_passes c a rows only.0 (none_first _ _ none) pass)

-- ---- one level of a parse

-- the options at the end of a level without a fault
pub level_rows_pass : (s : Shape) (names : Names) (words : List Text) (has : Bool) (below : Kinds)
    → s.args_override_self ≡ false → AreOnly s.rules s.rules → level_fault s names nothing_held words has below ≡ []
    → (RowsPass s.rules (rows_after s.rules names words)) × (check_fault s (rows_after s.rules names words) has ≡ [])
level_rows_pass s names words has below once only none =
    let end = (walk s.rules names nothing_held words).held in
    let after_walk = none_then _ _ none in
    let after_below = none_then _ _ after_walk in
    let settling : settle_fault s.rules s.args_override_self end ≡ [] = none_first _ _ after_below in
    let after_settling = none_then _ _ after_below in
    let walked_rows = walk_passes s names (walk_from nothing_held) words once only (none_first _ _ none) tt in (
      defaults_pass s.rules s.rules (settled s.rules end).rows only (none_first _ _ after_settling)
          (settled_passes s.rules end only (rw once at settling) walked_rows),
      none_then _ _ after_settling,
    )

-- ---- the word of one option

-- the option of a rule, whose values are read as they are written
pub record IsReadAsWritten (c : List Rule) (name : Text) (a : Rule) : Type 0 where
  pub by_id : arg_by_id c name ≡ Some a
  pub reading : reading_by a ≡ reading.AsWritten

row_found : (c : List Rule) (name : Text) (rows : List Row) → RowsPass c rows
    → IfSome (find (λ r. bytes_eq r.id name) rows) (λ r. (r.id ≡ name) × RowPasses c r)
row_found c name [] pass = tt
row_found c name (r ∷ rs) pass = go (bytes_eq r.id name) refl (row_found c name rs pass.1)
  where
    go : (is : Bool) → bytes_eq r.id name ≡ is → IfSome (find (λ r. bytes_eq r.id name) rs) (λ r. (r.id ≡ name) × RowPasses c r)
        → IfSome (cond is (Some r) (find (λ r. bytes_eq r.id name) rs)) (λ r. (r.id ≡ name) × RowPasses c r)
    go true e later = ((bytes_eq-Decides r.id name).0 e, pass.0)
    go false e later = later

value_accepted : (a : Rule) (v : Text) (vs : List Text) → values_fault a (v ∷ vs) ≡ []
    → Accepts a.ignore_case (parser_of_value a.parser) v
value_accepted a v vs none =
    go (accepts a.ignore_case (parser_of_value a.parser) v) refl (none_first _ _ none)
  where
    go : (is : Bool) → accepts a.ignore_case (parser_of_value a.parser) v ≡ is
        → cond is [] (refused_kind (parser_of_value a.parser) ∷ []) ≡ []
        → Accepts a.ignore_case (parser_of_value a.parser) v
    go true e none = accepts-Accepts a.ignore_case (parser_of_value a.parser) v e
    go false e none = cc

first_word : (a : Rule) (how : Reading) (values : List Text) → how ≡ reading.AsWritten → has_some values ≡ true → values_fault a values ≡ []
    → IsSomeAnd (option_map (read_as how) (slice_get values 0)) (λ word. Accepts a.ignore_case (parser_of_value a.parser) word)
first_word a how [] as_written some none = cc
first_word a how (v ∷ vs) as_written some none = rw as_written (value_accepted a v vs none)

row_word : (c : List Rule) (name : Text) (a : Rule) (r : Row) → IsReadAsWritten c name a → r.id ≡ name → RowPasses c r
    → IsSomeAnd (row_text r) (λ word. Accepts a.ignore_case (parser_of_value a.parser) word)
row_word c name a r read same passes =
    let by_id : arg_by_id c r.id ≡ Some a = ap (arg_by_id c) same ∙ read.by_id in
    let of_rule : Passes a r = rw by_id at passes in
    first_word a r.reading r.values (of_rule.reading ∙ read.reading) of_rule.some of_rule.all

-- a word of the option passed its parser
pub word_accepted : (c : List Rule) (name : Text) (a : Rule) (rows : List Row) → IsReadAsWritten c name a → RowsPass c rows
    → IfSome (one_of name rows) (λ word. Accepts a.ignore_case (parser_of_value a.parser) word)
word_accepted c name a rows read pass = go (find (λ r. bytes_eq r.id name) rows) (row_found c name rows pass)
  where
    some : (o : Option Text) → IsSomeAnd o (λ word. Accepts a.ignore_case (parser_of_value a.parser) word)
        → IfSome o (λ word. Accepts a.ignore_case (parser_of_value a.parser) word)
    some None h = tt
    some (Some word) h = h

    go : (o : Option Row) → IfSome o (λ r. (r.id ≡ name) × RowPasses c r)
        → IfSome (option_and_then row_text o) (λ word. Accepts a.ignore_case (parser_of_value a.parser) word)
    go None h = tt
    go (Some r) h = some (row_text r) (row_word c name a r read h.0 h.1)

-- ---- an option that has to be given

given_if_required : (p : Rule → Bool) (rules : List Rule) (a : Rule) (rows : List Row) → find p rules ≡ Some a
    → list_any (λ a. a.required && not (is_given a.id rows)) rules ≡ false → a.required ≡ true → is_given a.id rows ≡ true
given_if_required p [] a rows found none required = cc
given_if_required p (x ∷ rest) a rows found none required =
    go (p x) found (λ e n. given_if_required p rest a rows e n required)
  where
    go : (is : Bool) → cond is (Some x) (find p rest) ≡ Some a
        → (find p rest ≡ Some a → list_any (λ a. a.required && not (is_given a.id rows)) rest ≡ false → is_given a.id rows ≡ true)
        → is_given a.id rows ≡ true
    go true e later =
        let same : x ≡ a = cc in
        let parts = or_parts _ _ none in
        let missing : (a.required && not (is_given a.id rows)) ≡ false =
        subst (λ (y : Rule). (y.required && not (is_given y.id rows)) ≡ false) same parts.0 in
        not-false _ (rw required at missing)
    go false e later = later e (or_parts _ _ none).1

-- a word of an option that has to be given is there, and passed its parser
pub required_word : (s : Shape) (name : Text) (a : Rule) (rows : List Row) → IsReadAsWritten s.rules name a → a.id ≡ name → a.required ≡ true
    → s.subcommand_negates_reqs ≡ false → check_fault s rows false ≡ [] → RowsPass s.rules rows
    → IsSomeAnd (one_of name rows) (λ word. Accepts a.ignore_case (parser_of_value a.parser) word)
required_word s name a rows read same required needed none pass =
    go (find (λ r. bytes_eq r.id name) rows) (row_found s.rules name rows pass) (subst (λ (id : Text). is_given id rows ≡ true) same is_there)
  where
    no_missing : (wants_help wants_subcommand wants_argument : Bool) → check_kinds wants_help wants_subcommand wants_argument ≡ [] → wants_argument ≡ false
    no_missing true b c e = cc
    no_missing false true c e = cc
    no_missing false false true e = cc
    no_missing false false false e = refl

    is_there : is_given a.id rows ≡ true
    is_there = given_if_required _ s.rules a rows read.by_id (rw needed at (no_missing _ _ _ none)) required

    go : (o : Option Row) → IfSome o (λ r. (r.id ≡ name) × RowPasses s.rules r)
        → option_map_or (λ r. explicit_source r.source) o false ≡ true
        → IsSomeAnd (option_and_then row_text o) (λ word. Accepts a.ignore_case (parser_of_value a.parser) word)
    go None h there = cc
    go (Some r) h there = row_word s.rules name a r read h.0 h.1
