-- Words in which clap finds no fault name a command, and give it the options that it has to have.
use Rattle.std.proofs.Common.{◌≡◌, ◌∙◌, ◌&&◌, ◌||◌, ap, refl, sym, subst, inl, inr, ℕ, Bool, true, false, not, cond, List, [], ◌∷◌, Option, Some, None, is_some, codes, option_map, fold}
use Rattle.std.specs.List.{list_all, list_any}
use Rattle.std.specs.Option.{option_map_or}
use Rattle.std.specs.Prelude.{⊤, ◌⊎◌, find, Err, IfSome}
use Rattle.std.specs.Str.{bytes_eq}
use Rattle.std.proofs.lemmas.Bool.{and_parts, false≢true, or_cases}
use Rattle.std.proofs.lemmas.Option.{IfSome_then}
use Rattle.std.proofs.lemmas.Slice.Eq.{bytes_eq-Decides}
use Rattle.clap.specs.Facts.{explicit_source}
use Rattle.clap.specs.Faults.{built_fault, check_fault, defaults_fault, entered_fault, is_simple_and_free, level_fault, other_fault, settle_fault, turn_fault, walk_fault}
use Rattle.clap.specs.Kinds.{HasKind, IsAmong, Kinds, or_else}
use Rattle.clap.specs.Lexer.{long_of}
use Rattle.clap.specs.Simple.{built_leaf, filled, inherited, argument_words, built, entered, label_of, names_of, rows_at}
use Rattle.clap.specs.Walk.{arg_by_id, one_of, Held, Names, Outcome, Step, Waiting, Walk, after_flag, after_step, answers_to, done, finished, idle, is_empty, long_or_other, next, nothing_held, option, plain, plain_word, positional, refused, settled, short_or_plain, stop_after, subcommand, subcommand_met, subcommand_or_other, to_positional, trailing, value, waits, walk, walk_from, walked, walked_from}
use Rattle.clap.specs.Words.{App, Row, Rule, Shape, Text, fault_of, is_simple, kind_of, matches_of, subcommand_of, takes}
use Rattle.clap.specs.declared.error.Error.{Error}
use Rattle.clap.specs.declared.error.ErrorKind.{ErrorKind}
use Rattle.clap.specs.declared.error.ErrorKind.TheVariants as kind
use Rattle.clap.proofs.OnLiterals.{clap_on_literals}
use Rattle.clap.proofs.SimpleLemmas.{is_nil}
use Rattle.clap.proofs.WalkLemmas.{first_value-rows}
use Rattle.fb_command_line.proofs.PassedRows.{RowsPass, level_rows_pass, none_first, none_then, only_of_single, required_word, word_accepted}
use Rattle.fb_command_line.specs.Command.{decode_app, flag_rule, fusion_app, number_rule, plain_app, plan_app, required_number_rule, sample_app}
use Rattle.fb_command_line.specs.InternalOptions.{HasNumber, HasNumberIfGiven, HasOptions}
use Rattle.fb_request.specs.Ranges.{Range}
use Rattle.fb_request.specs.Ranges as ranges
use Rattle.fb_command_line.specs.Faults.{IsFaultOf, usage_of}
use Rattle.fb_command_line.specs.Words.{command_request, request_of, request_unless, is_command, is_command_name}
use Rattle.fb_request.specs.declared.usage.UsageKind.{UsageKind}
use Rattle.fb_request.specs.declared.usage.UsageKind.TheVariants as usage
use Rattle.fb_command_line.specs.declared.words.WordsFault.{WordsFault}
use Rattle.fb_command_line.specs.declared.words.WordsFault.TheVariants as fault

-- what a level without a fault says of its walk, of the level below, and of its checks
level_passes : (s : Shape) (names : Names) (h : Held) (words : List Text) (has : Bool) (below : Kinds)
    → level_fault s names h words has below ≡ []
    → (walk_fault s names (walk_from h) words ≡ []) × (below ≡ [])
    × (check_fault s (finished s.rules (walk s.rules names h words).held) has ≡ [])
level_passes s names h words has below none =
    let end = (walk s.rules names h words).held in
    let walking = walk_fault s names (walk_from h) words in
    let settling = settle_fault s.rules s.args_override_self end in
    let defaults = defaults_fault (settled s.rules end).rows s.rules in
    let checks = check_fault s (finished s.rules end) has in
    let after_below = or_else settling (or_else defaults checks) in
    let after_walk = or_else below after_below in (
      none_first walking after_walk none,
      none_first below after_below (none_then walking after_walk none),
      none_then defaults checks (none_then settling (or_else defaults checks)
          (none_then below after_below (none_then walking after_walk none))),
    )

-- a subcommand that is required is there
wanted_is_there : (s : Shape) (rows : List Row) (has : Bool) → s.subcommand_required ≡ true
    → check_fault s rows has ≡ [] → has ≡ true
wanted_is_there s rows true required none = refl
wanted_is_there s rows false required none =
    go (s.arg_required_else_help && not (list_any (λ r. explicit_source r.source) rows)) (rw required at none)
  where
    go : (wants_help : Bool)
        → cond wants_help (kind.DisplayHelpOnMissingArgumentOrSubcommand ∷ []) (kind.MissingSubcommand ∷ []) ≡ []
        → false ≡ true
    go true none = cc
    go false none = cc

-- ---- a word enters a subcommand only where it is met as its name

plain_enters_none : (c : List Rule) (waiting : Waiting) (word name : Text) (h : Held)
    → (plain_word c waiting word h).1 ≡ subcommand name → ⊥
plain_enters_none c idle word name h e = cc
plain_enters_none c (option id) word name h e = cc
plain_enters_none c positional word name h e = cc

flag_enters_none : (c : List Rule) (waiting : Waiting) (word name : Text) (h : Held) (met : Outcome)
    → (after_flag c waiting word h met).1 ≡ subcommand name → ⊥
flag_enters_none c waiting word name h done e = cc
flag_enters_none c waiting word name h (waits id) e = cc
flag_enters_none c waiting word name h plain e = plain_enters_none c waiting word name h e
flag_enters_none c waiting word name h refused e = plain_enters_none c waiting word name h e

short_enters_none : (c : List Rule) (waiting : Waiting) (word name : Text) (flags : Option Text) (h : Held)
    → (short_or_plain c waiting word flags h).1 ≡ subcommand name → ⊥
short_enters_none c waiting word name (Some flags) h e = flag_enters_none c waiting word name _ _ e
short_enters_none c waiting word name None h e = plain_enters_none c waiting word name h e

long_enters_none : (c : List Rule) (waiting : Waiting) (word name : Text) (long : Option (Text × Option Text))
    (h : Held) → (long_or_other c waiting word long h).1 ≡ subcommand name → ⊥
long_enters_none c waiting word name (Some p) h e = flag_enters_none c waiting word name _ _ e
long_enters_none c waiting word name None h e = short_enters_none c waiting word name _ h e

dashes_enter_none : (c : List Rule) (is_end : Bool) (waiting : Waiting) (position : ℕ) (word name : Text) (h : Held)
    → (cond is_end (h, trailing position) (long_or_other c waiting word (long_of word) h)).1 ≡ subcommand name → ⊥
dashes_enter_none c true waiting position word name h e = cc
dashes_enter_none c false waiting position word name h e = long_enters_none c waiting word name _ h e

entered_is_met : (c : List Rule) (met : Option Text) (waiting : Waiting) (position : ℕ) (word name : Text) (h : Held)
    → (subcommand_or_other c met waiting position word h).1 ≡ subcommand name → met ≡ Some name
entered_is_met c (Some other) waiting position word name h e = cc
entered_is_met c None waiting position word name h e =
    absurd (dashes_enter_none c (bytes_eq word (45 ∷ 45 ∷ [])) waiting position word name h e)

-- ---- a walk without a fault doesn't stop at `help`

-- the walk stopped at `help`
abbrev is_help : Option (Text × List Text) → Bool
is_help None = false
is_help (Some stop) = bytes_eq stop.0 (codes "help")

met_is_no_help : (s : Shape) (word name : Text) (h : Held) → s.disable_help_subcommand ≡ false
    → other_fault s (Some name) word h ≡ [] → bytes_eq name (codes "help") ≡ false
met_is_no_help s word name h enabled none = go (bytes_eq name (codes "help")) refl
  where
    go : (is : Bool) → bytes_eq name (codes "help") ≡ is → bytes_eq name (codes "help") ≡ false
    go true is = let bad = rw (is, enabled) at none in cc
    go false is = is

entered_is_no_help : (s : Shape) (is_trailing : Bool) (met : Option Text) (waiting : Waiting) (position : ℕ)
    (word name : Text) (h : Held) → s.disable_help_subcommand ≡ false
    → (cond is_trailing (h, value) (subcommand_or_other s.rules met waiting position word h)).1 ≡ subcommand name
    → cond is_trailing [] (other_fault s met word h) ≡ [] → bytes_eq name (codes "help") ≡ false
entered_is_no_help s true met waiting position word name h enabled e none = cc
entered_is_no_help s false met waiting position word name h enabled e none =
    let is = entered_is_met s.rules met waiting position word name h e in
    met_is_no_help s word name h enabled (subst (λ (o : Option Text). other_fault s o word h ≡ []) is none)

positional_stops_none : (c : List Rule) (a : Option Rule) (word : Text) (w : Walk) (h : Held) → w.stopped ≡ None
    → is_help (to_positional c a word w h).stopped ≡ false
positional_stops_none c None word w h e = rw e refl
positional_stops_none c (Some a) word w h e = refl

step_stops : (c : List Rule) (word : Text) (w : Walk) (h : Held) (step : Step) → w.stopped ≡ None
    → ((name : Text) → step ≡ subcommand name → bytes_eq name (codes "help") ≡ false)
    → is_help (after_step c word w h step).stopped ≡ false
step_stops c word w h (next waiting) e other = rw e refl
step_stops c word w h (trailing position) e other = rw e refl
step_stops c word w h (subcommand name) e other = other name refl
step_stops c word w h value e other = positional_stops_none c _ word w h e

turn_stops : (s : Shape) (names : Names) (w : Walk) (word : Text) (stop : Option (Text × List Text))
    → s.disable_help_subcommand ≡ false → w.stopped ≡ stop → is_help stop ≡ false
    → turn_fault s names w word ≡ [] → is_help (walked_from s.rules names stop w word).stopped ≡ false
turn_stops s names w word (Some stop) enabled e h none = h
turn_stops s names w word None enabled e h none =
    let passed = none_first _ _ (rw e at none) in
    let met = subcommand_met names w.waiting word in
    step_stops s.rules word w _ _ e (λ name entered.
    entered_is_no_help s w.is_trailing met w.waiting w.position word name w.held enabled entered passed)

walk_stops : (s : Shape) (names : Names) (w : Walk) (words : List Text) → s.disable_help_subcommand ≡ false
    → is_help w.stopped ≡ false → walk_fault s names w words ≡ []
    → is_help (fold (walked s.rules names) w words).stopped ≡ false
unfolding walked walk_fault
walk_stops s names w [] enabled h none = h
walk_stops s names w (word ∷ rest) enabled h none =
    walk_stops s names (walked s.rules names w word) rest enabled
    (turn_stops s names w word w.stopped enabled refl h (none_first _ _ none)) (none_then _ _ none)

-- ---- a subcommand other than `help` is a command

-- a subcommand under one name, which is a command's or `help`
abbrev is_known : Shape → Bool
is_known s = is_empty s.aliases && (is_command_name s.name || bytes_eq s.name (codes "help"))

known_is_command : (s : Shape) (word : Text) → is_known s ≡ true → bytes_eq word (codes "help") ≡ false
    → answers_to word (label_of s) ≡ true → is_command_name s.name ≡ true
known_is_command s word known other answers =
    let parts = and_parts _ _ known in
    let alone = rw (is_nil s.aliases parts.0) at answers in
    let same : s.name ≡ word = elim (or_cases _ _ alone) [ inl is ↦ (bytes_eq-Decides s.name word).0 is | inr none ↦ cc ] in
    let no_help : bytes_eq s.name (codes "help") ≡ false = rw same other in
    elim (or_cases _ _ parts.1) [ inl is ↦ is | inr help ↦ cc ]

-- the subcommand that the word names, with the words after it
abbrev found_among : List Shape → Text → List Text → Option (Text × List Row)
found_among subs word rest = option_map (λ s. rows_at s rest) (find (λ s. answers_to word (label_of s)) subs)

found_is_command : (subs : List Shape) (word : Text) (rest : List Text) → list_all is_known subs ≡ true
    → bytes_eq word (codes "help") ≡ false → is_some (found_among subs word rest) ≡ true
    → is_command (found_among subs word rest) ≡ true
found_is_command [] word rest known other found = cc
found_is_command (s ∷ subs) word rest known other found =
    go (answers_to word (label_of s)) refl (found_is_command subs word rest (and_parts _ _ known).1 other)
  where
    go : (answers : Bool) → answers_to word (label_of s) ≡ answers
        → (is_some (found_among subs word rest) ≡ true → is_command (found_among subs word rest) ≡ true)
        → is_command (found_among (s ∷ subs) word rest) ≡ true
    go true answers later = rw answers (known_is_command s word (and_parts _ _ known).0 other answers)
    go false answers later = rw answers (later (rw answers at found))

entered_is_command : (a : App) (stop : Option (Text × List Text)) → list_all is_known a.subs ≡ true
    → is_help stop ≡ false → is_some (entered a stop) ≡ true → is_command (entered a stop) ≡ true
entered_is_command a None known other found = cc
entered_is_command a (Some stop) known other found = found_is_command a.subs stop.0 stop.1 known other found

built_command : (a : App) (words : List Text) → a.top.subcommand_required ≡ true
    → a.top.disable_help_subcommand ≡ false → list_all is_known a.subs ≡ true → built_fault a nothing_held words ≡ []
    → is_command (entered a (stop_after a.top.rules (names_of a) words)) ≡ true
built_command a words required enabled known none =
    let stop = stop_after a.top.rules (names_of a) words in
    let has = is_some (entered a stop) in
    let passed = level_passes a.top (names_of a) nothing_held words has (entered_fault a stop) none in
    entered_is_command a stop known
    (walk_stops a.top (names_of a) (walk_from nothing_held) words enabled refl passed.0)
    (wanted_is_there a.top (finished a.top.rules (walk a.top.rules (names_of a) nothing_held words).held) has required passed.2)

-- ---- the options of a subcommand

-- what holds of the options of a subcommand where clap finds no fault in them
abbrev HasItsOptions : Shape → Type 0
HasItsOptions s = (words : List Text) → level_fault s [] nothing_held words false [] ≡ [] → HasOptions (Some (rows_at s words))

abbrev HaveTheirOptions : List Shape → Type 0
HaveTheirOptions [] = ⊤
HaveTheirOptions (s ∷ subs) = HasItsOptions s × HaveTheirOptions subs

found_has_options : (subs : List Shape) (word : Text) (rest : List Text) → HaveTheirOptions subs
    → option_map_or (λ s. level_fault s [] nothing_held rest false []) (find (λ s. answers_to word (label_of s)) subs) [] ≡ []
    → HasOptions (found_among subs word rest)
found_has_options [] word rest each none = tt
found_has_options (s ∷ subs) word rest each none =
    go (answers_to word (label_of s)) none (found_has_options subs word rest each.1)
  where
    go : (answers : Bool)
        → option_map_or (λ s. level_fault s [] nothing_held rest false []) (cond answers (Some s) (find (λ s. answers_to word (label_of s)) subs)) [] ≡ []
        → (option_map_or (λ s. level_fault s [] nothing_held rest false []) (find (λ s. answers_to word (label_of s)) subs) [] ≡ []
        → HasOptions (found_among subs word rest))
        → HasOptions (option_map (λ s. rows_at s rest) (cond answers (Some s) (find (λ s. answers_to word (label_of s)) subs)))
    go true none later = each.0 rest none
    go false none later = later none

entered_has_options : (a : App) (stop : Option (Text × List Text)) → HaveTheirOptions a.subs → entered_fault a stop ≡ []
    → HasOptions (entered a stop)
entered_has_options a None each none = tt
entered_has_options a (Some stop) each none = found_has_options a.subs stop.0 stop.1 each none

built_has_options : (a : App) (words : List Text) → HaveTheirOptions a.subs → built_fault a nothing_held words ≡ []
    → HasOptions (entered a (stop_after a.top.rules (names_of a) words))
built_has_options a words each none =
    let stop = stop_after a.top.rules (names_of a) words in
    entered_has_options a stop each
    (level_passes a.top (names_of a) nothing_held words (is_some (entered a stop)) (entered_fault a stop) none).1

number_if_given : (s : Shape) (name : Text) (range : Range) (rows : List Row)
    → arg_by_id s.rules name ≡ Some (filled (number_rule name range)) → RowsPass s.rules rows → HasNumberIfGiven name range rows
number_if_given s name range rows found pass =
    word_accepted s.rules name (filled (number_rule name range)) rows (record { by_id = found; reading = refl }) pass

number_given : (s : Shape) (name : Text) (range : Range) (rows : List Row)
    → arg_by_id s.rules name ≡ Some (filled (required_number_rule name range))
    → s.subcommand_negates_reqs ≡ false → check_fault s rows false ≡ [] → RowsPass s.rules rows → HasNumber name range rows
number_given s name range rows found plainly none pass =
    required_word s name (filled (required_number_rule name range)) rows (record { by_id = found; reading = refl }) refl refl plainly none pass

flag_word : (s : Shape) (name : Text) (rows : List Row)
    → arg_by_id s.rules name ≡ Some (filled (flag_rule name)) → RowsPass s.rules rows
    → IfSome (one_of name rows) (λ word. (word ≡ codes "true") ⊎ (word ≡ codes "false"))
flag_word s name rows found pass =
    go (one_of name rows) (word_accepted s.rules name (filled (flag_rule name)) rows (record { by_id = found; reading = refl }) pass)
  where
    go : (o : Option Text) → IfSome o (λ word. (bytes_eq word (codes "true") || bytes_eq word (codes "false")) ≡ true)
        → IfSome o (λ word. (word ≡ codes "true") ⊎ (word ≡ codes "false"))
    go None h = tt
    go (Some word) h = elim (or_cases _ _ h) [
      | inl e ↦ inl ((bytes_eq-Decides word (codes "true")).0 e)
      | inr e ↦ inr ((bytes_eq-Decides word (codes "false")).0 e)
    ]

-- ---- the command line of `fusion`

fusion_is_simple : is_simple fusion_app ≡ true
unfolding fusion_app clap_on_literals
fusion_is_simple = refl

fusion_is_free : is_simple_and_free fusion_app ≡ true
unfolding fusion_app clap_on_literals
fusion_is_free = refl

fusion_requires : (built fusion_app).top.subcommand_required ≡ true
unfolding fusion_app
fusion_requires = refl

fusion_helps : (built fusion_app).top.disable_help_subcommand ≡ false
unfolding fusion_app
fusion_helps = refl

fusion_knows : list_all is_known (built fusion_app).subs ≡ true
unfolding fusion_app
fusion_knows = refl

-- a command's options, as building leaves them
abbrev leaf_of : App → Shape
leaf_of app = built_leaf (inherited plain_app.top app.top)

decode_has_options : HasItsOptions (leaf_of decode_app)
decode_has_options words none =
    let s = leaf_of decode_app in
    let passed = level_rows_pass s [] words false [] refl (only_of_single s.rules refl) none in (
      λ auto. record {
        workers = number_if_given s (codes "workers") ranges.workers (rows_at s words).1 refl passed.0;
        window = number_if_given s (codes "window") ranges.windows (rows_at s words).1 refl passed.0;
        trace = flag_word s (codes "trace") (rows_at s words).1 refl passed.0;
      },
      λ e. absurd (false≢true e),
      λ e. absurd (false≢true e),
    )

sample_has_options : HasItsOptions (leaf_of sample_app)
sample_has_options words none =
    let s = leaf_of sample_app in
    let rows = (rows_at s words).1 in
    let passed = level_rows_pass s [] words false [] refl (only_of_single s.rules refl) none in (
      λ e. absurd (false≢true e),
      λ auto. record {
        distance = number_given s (codes "distance") ranges.distances rows refl refl passed.1 passed.0;
        rounds = number_given s (codes "rounds") ranges.rounds rows refl refl passed.1 passed.0;
        units = number_given s (codes "units") ranges.units rows refl refl passed.1 passed.0;
        rate = number_given s (codes "rate") ranges.rates rows refl refl passed.1 passed.0;
        start = number_given s (codes "start") ranges.starts rows refl refl passed.1 passed.0;
        shots = number_given s (codes "shots") ranges.shots rows refl refl passed.1 passed.0;
        workers = number_if_given s (codes "workers") ranges.workers rows refl passed.0;
        window = number_if_given s (codes "window") ranges.windows rows refl passed.0;
      },
      λ e. absurd (false≢true e),
    )

plan_has_options : HasItsOptions (leaf_of plan_app)
plan_has_options words none =
    let s = leaf_of plan_app in
    let rows = (rows_at s words).1 in
    let passed = level_rows_pass s [] words false [] refl (only_of_single s.rules refl) none in (
      λ e. absurd (false≢true e),
      λ e. absurd (false≢true e),
      λ auto. record { units = number_given s (codes "units") ranges.units rows refl refl passed.1 passed.0 },
    )

fusion_have_options : HaveTheirOptions (built fusion_app).subs
unfolding fusion_app
fusion_have_options = (
  decode_has_options,
  (
    (λ words none. (λ e. absurd (false≢true e), λ e. absurd (false≢true e), λ e. absurd (false≢true e))),
    (
      sample_has_options,
      (
        plan_has_options,
        (
          (λ words none. (λ e. absurd (false≢true e), λ e. absurd (false≢true e), λ e. absurd (false≢true e))),
          ((λ words none. (λ e. absurd (false≢true e), λ e. absurd (false≢true e), λ e. absurd (false≢true e))), tt),
        ),
      ),
    ),
  ),
)

has_options : (words : List Text) → fault_of fusion_app words ≡ [] → HasOptions (subcommand_of fusion_app words)
has_options words none = built_has_options (built fusion_app) (argument_words fusion_app words) fusion_have_options none

names_command : (words : List Text) → fault_of fusion_app words ≡ [] → is_command (subcommand_of fusion_app words) ≡ true
names_command words none =
    built_command (built fusion_app) (argument_words fusion_app words) fusion_requires fusion_helps fusion_knows none

-- ---- what a parse says of the request

faultless_request : (words : List Text) → fault_of fusion_app words ≡ []
    → request_of words ≡ command_request (subcommand_of fusion_app words)
faultless_request words none = ap (λ (faults : Kinds). request_unless faults (subcommand_of fusion_app words)) none

faulty_request : (kind : ErrorKind) (faults : Kinds) (command : Option (Text × List Row)) → IsAmong kind faults
    → request_unless faults command ≡ Err usage.Parse
faulty_request kind [] command among = absurd among
faulty_request kind (fault ∷ faults) command among = refl

module _ (a : App) (words : List Text) (is : a ≡ fusion_app) where
  pub parse_passed : (rows : List Row) (command : Option (Text × List Row))
      → (is_simple_and_free a ≡ true → fault_of a words ≡ [])
      → (is_simple a ≡ true → (rows ≡ matches_of a words) × (command ≡ subcommand_of a words))
      → (is_command command ≡ true) × HasOptions command × (request_of words ≡ command_request command)
  parse_passed rows command no_fault read =
      let none : fault_of fusion_app words ≡ [] = subst (λ (x : App). fault_of x words ≡ []) is
      (no_fault (ap is_simple_and_free is ∙ fusion_is_free)) in
      let same : command ≡ subcommand_of fusion_app words = subst (λ (x : App). command ≡ subcommand_of x words) is
      (read (ap is_simple is ∙ fusion_is_simple)).1 in (
        ap is_command same ∙ names_command words none,
        subst HasOptions (sym same) (has_options words none),
        faultless_request words none ∙ ap command_request (sym same),
      )

  pub parse_failed : (e : Error) (f : WordsFault) → (is_simple_and_free a ≡ true → HasKind (fault_of a words) e)
      → (kind_of e ≡ kind.OutOfMemory → f ≡ fault.NoMemory) → IfSome (usage_of f) (λ k. k ≡ usage.Parse)
      → IsFaultOf (request_of words) f
  parse_failed e f kinds memory parse = elim (kinds (ap is_simple_and_free is ∙ fusion_is_free)) [
    | inl out ↦ rw (memory out) tt
    | inr among ↦
        let faulty = faulty_request (kind_of e) (fault_of fusion_app words) (subcommand_of fusion_app words)
        (subst (λ (x : App). IsAmong (kind_of e) (fault_of x words)) is among) in
        IfSome_then (usage_of f) parse (λ k same. faulty ∙ ap (λ (u : UsageKind). Err u) (sym same))
  ]

  -- words that clap takes are refused for want of memory alone
  pub parse_taken : (e : Error) (f : WordsFault) → (takes a words ≡ true → kind_of e ≡ kind.OutOfMemory)
      → (kind_of e ≡ kind.OutOfMemory → f ≡ fault.NoMemory) → takes fusion_app words ≡ true
      → usage_of f ≡ Some usage.Parse → ⊥
  parse_taken e f passes memory taken parse =
      let out : f ≡ fault.NoMemory = memory (passes (ap (λ (x : App). takes x words) is ∙ taken)) in
      let bad : usage_of fault.NoMemory ≡ Some usage.Parse = subst (λ (x : WordsFault). usage_of x ≡ Some usage.Parse) out parse in
      cc

pub ruleset rows = (first_value-rows)
