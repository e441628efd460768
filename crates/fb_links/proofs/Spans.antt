-- The walks that spans of a table of steps hold, when the table grows, and when spans are stored or taken off.
use Rattle.std.proofs.Common.{ℕ, ◌+◌, ◌-◌, ◌<◌, ◌≤◌, ◌≡◌, ◌==◌, Bool, true, false, cond, List, [], ◌∷◌, ◌++◌, length, get_or, set, take, drop, Option, Some, None, All, arith, refl, sym, ap, ◌∙◌, subst, inl, inr}
use Rattle.std.specs.Prelude.{◌^◌, count_by, is_some, option_map, unwrap_or}
use Rattle.std.proofs.lemmas.Bool.{cases_lt, eqb-true, false≢true}
use Rattle.std.proofs.lemmas.List.{drop-append-le, take-append-le, length-drop, length-take, length-append, length-map, map-append, map_more, get_or-set_same, get_or-set_other, get_or_past, take-append-drop}
use Rattle.std.proofs.lemmas.List.Sums.{sum_by-cons}
use Rattle.std.proofs.lemmas.List.Elements.{All-nil, All-cons, All-head, All-tail, All-get_or, All-from_get_or, All-set, All-push, All-weaker}
use Rattle.std.proofs.lemmas.Option.{none-some, same_Some}
use Rattle.std.proofs.Math.Seq.{drop-append_seam, take-append_seam, take-length}
use Rattle.std.proofs.Math.ListN.{get_or-map}
use Rattle.fb_links.specs.declared.span.Span.{Span}
use Rattle.fb_links.specs.declared.walk.Step.{Step}
use Rattle.fb_links.specs.Walks.{walk_weight, share_end, joined_walk}
use Rattle.fb_links.specs.Table.{IsLink, Adds, Removes, is_live, link_at, walk_at}
use Rattle.fb_links.specs.Laws.{IsJoinedWalk}
use Rattle.fb_links.specs.InternalKept.{AreFree, AreNumbered, IsEntry, IsInside, IsPacked, IsSpan, Stores, span_at, walk_in, walks_in}
use Rattle.fb_links.proofs.Lists.{differ}
use Rattle.fb_links.proofs.Numbers.{Spans, below_end}
use Rattle.fb_links.proofs.Joins.{walk_joined, joined_weight}

-- the link of a number, by its span
pub link_at-walks_in : (steps : List Step) (spans : Spans) (id : ℕ)
    → link_at (walks_in steps spans) id ≡ option_map (walk_in steps) (span_at spans id)
link_at-walks_in steps spans id = get_or-map (option_map (walk_in steps)) spans id None

pub walk_at-walks_in : (steps : List Step) (spans : Spans) (id : ℕ) (s : Span) → span_at spans id ≡ Some s
    → walk_at (walks_in steps spans) id ≡ walk_in steps s
walk_at-walks_in steps spans id s is =
    ap (λ o. unwrap_or o []) (link_at-walks_in steps spans id ∙ ap (option_map (walk_in steps)) is)

is_some-option_map : (steps : List Step) (o : Option Span) → is_some (option_map (walk_in steps) o) ≡ is_some o
is_some-option_map steps None = refl
is_some-option_map steps (Some s) = refl

-- a number has a link if it has a span
pub has_span : (steps : List Step) (spans : Spans) (id : ℕ) → is_live (walks_in steps spans) id ≡ true
    → is_some (span_at spans id) ≡ true
has_span steps spans id live =
    sym (is_some-option_map steps (span_at spans id)) ∙ (ap is_some (sym (link_at-walks_in steps spans id)) ∙ live)

-- what is kept of a number's span
pub span_kept : (steps : List Step) (spans : Spans) (id : ℕ) (s : Span) → All (IsEntry steps) spans
    → span_at spans id ≡ Some s → IsSpan steps s
span_kept steps spans id s entries is =
    subst (IsEntry steps) is
    (All-get_or (IsEntry steps) spans id None (below_end spans id (ap is_some is)) entries)

-- what is kept of a number's walk
pub walk_kept : (steps : List Step) (spans : Spans) (id : ℕ) (walk : List Step) → All (IsEntry steps) spans
    → link_at (walks_in steps spans) id ≡ Some walk → IsLink walk
walk_kept steps spans id walk entries is = by (span_at spans id) refl
  where
    by : (o : Option Span) → span_at spans id ≡ o → IsLink walk
    by None none =
        absurd (none-some walk (sym (link_at-walks_in steps spans id ∙ ap (option_map (walk_in steps)) none) ∙ is))
    by (Some s) some =
        subst IsLink
        (same_Some _ _ (sym (link_at-walks_in steps spans id ∙ ap (option_map (walk_in steps)) some) ∙ is))
        (span_kept steps spans id s entries some).link

-- what is kept of a link's walk, as the calls of `Links` see it
pub live_link : (links : List (Option (List Step))) (id : ℕ)
    → ((k : ℕ) (walk : List Step) → link_at links k ≡ Some walk → IsLink walk) → is_live links id ≡ true
    → IsLink (walk_at links id)
live_link links id kept live = by (link_at links id) refl live
  where
    by : (o : Option (List Step)) → link_at links id ≡ o → is_some o ≡ true → IsLink (unwrap_or o [])
    by None is some = absurd (false≢true some)
    by (Some walk) is some = kept id walk is

-- the steps of a span stay when the table of steps grows
walk_in-append : (old more : List Step) (s : Span) → IsInside old s → walk_in (old ++ more) s ≡ walk_in old s
walk_in-append old more s inside =
    let rises : s.start ≤ length old = omega (arith, inside.rises, inside.within) in
    let within : s.end - s.start ≤ length (drop s.start old) =
    omega (arith, inside.rises, inside.within, length-drop s.start old) in
    ap (take (s.end - s.start)) (drop-append-le s.start old more rises)
    ∙ take-append-le (s.end - s.start) (drop s.start old) more within

pub walk_in-grown : (old new : List Step) (s : Span) → take (length old) new ≡ old → IsInside old s
    → walk_in new s ≡ walk_in old s
walk_in-grown old new s grown inside =
    ap (λ l. walk_in l s) (sym (take-append-drop (length old) new) ∙ ap (λ l. l ++ drop (length old) new) grown)
    ∙ walk_in-append old (drop (length old) new) s inside

length-grown : (old new : List Step) → take (length old) new ≡ old → length old ≤ length new
length-grown old new grown = omega (arith, ap length grown, length-take (length old) new)

span_grown : (old new : List Step) (s : Span) → take (length old) new ≡ old → IsSpan old s → IsSpan new s
span_grown old new s grown kept =
    let same = walk_in-grown old new s grown kept.inside in
    record {
      inside = record { rises = kept.inside.rises; within = omega (arith, kept.inside.within, length-grown old new grown) };
      link = subst IsLink (sym same) kept.link;
      weighs = kept.weighs ∙ ap walk_weight (sym same);
    }

entry_grown : (old new : List Step) (o : Option Span) → take (length old) new ≡ old → IsEntry old o → IsEntry new o
entry_grown old new None grown kept = tt
entry_grown old new (Some s) grown kept = span_grown old new s grown kept

pub entries_grown : (old new : List Step) (spans : Spans) → take (length old) new ≡ old → All (IsEntry old) spans
    → All (IsEntry new) spans
entries_grown old new spans grown entries =
    All-weaker (IsEntry old) (IsEntry new) (λ o. entry_grown old new o grown) spans entries

entry_walk-grown : (old new : List Step) (o : Option Span) → take (length old) new ≡ old → IsEntry old o
    → option_map (walk_in new) o ≡ option_map (walk_in old) o
entry_walk-grown old new None grown kept = refl
entry_walk-grown old new (Some s) grown kept = ap Some (walk_in-grown old new s grown kept.inside)

pub walks_in-grown : (old new : List Step) (spans : Spans) → take (length old) new ≡ old → All (IsEntry old) spans
    → walks_in new spans ≡ walks_in old spans
walks_in-grown old new [] grown entries = refl
walks_in-grown old new (o ∷ os) grown entries =
    let rest = walks_in-grown old new os grown (All-tail (IsEntry old) o os entries) in
    let here = entry_walk-grown old new o grown (All-head (IsEntry old) o os entries) in
    ap (λ x. x ∷ walks_in new os) here ∙ ap (λ l. option_map (walk_in old) o ∷ l) rest

pub entries_unstored : (old new : List Step) (spans same : Spans) → take (length old) new ≡ old → All (IsEntry old) spans
    → same ≡ spans → All (IsEntry new) same
entries_unstored old new spans same grown entries is =
    subst (All (IsEntry new)) (sym is) (entries_grown old new spans grown entries)

-- no span is stored, though the table of steps has grown
pub walks_in-unstored : (old new : List Step) (spans same : Spans) → take (length old) new ≡ old → All (IsEntry old) spans
    → same ≡ spans → walks_in new same ≡ walks_in old spans
walks_in-unstored old new spans same grown entries is = ap (walks_in new) is ∙ walks_in-grown old new spans grown entries

-- the span of what was added at the end of the table of steps
pub walk_in-added : (old walk : List Step) (s : Span) → s.start ≡ length old → s.end ≡ length old + length walk
    → walk_in (old ++ walk) s ≡ walk
walk_in-added old walk s start end =
    let count : s.end - s.start ≡ length walk = omega (arith, start, end) in
    ap (λ n. take (s.end - s.start) (drop n (old ++ walk))) start
    ∙ (ap (take (s.end - s.start)) (drop-append_seam old walk) ∙ (ap (λ n. take n walk) count ∙ take-length walk))

pub span_added : (old new walk : List Step) (s : Span) → new ≡ old ++ walk → s.start ≡ length old → s.end ≡ length new
    → IsLink walk → s.weight ≡ walk_weight walk → IsSpan new s × (walk_in new s ≡ walk)
span_added old new walk s added start end link weighs = (
  record {
    inside = record { rises = omega (arith, start, end, long); within = omega (arith, end) };
    link = subst IsLink (sym same) link;
    weighs = weighs ∙ ap walk_weight (sym same);
  },
  same,
)
  where
    long : length new ≡ length old + length walk
    long = ap length added ∙ length-append old walk

    same : walk_in new s ≡ walk
    same = ap (λ l. walk_in l s) added ∙ walk_in-added old walk s start (end ∙ long)

pub grown_by : (old new more : List Step) → new ≡ old ++ more → take (length old) new ≡ old
grown_by old new more added = ap (take (length old)) added ∙ take-append_seam old more

-- a span is stored
entries_stored : (steps : List Step) (old new : Spans) (id : ℕ) (s : Span) → All (IsEntry steps) old → Stores old new id s
    → IsSpan steps s → All (IsEntry steps) new
entries_stored steps old new id s entries stores kept =
    All-from_get_or (IsEntry steps) new None (λ k within. by k (k == id) refl)
  where
    older : (k : ℕ) → IsEntry steps (span_at old k)
    older k =
        elim (cases_lt k (length old)) [
          | inl within ↦ All-get_or (IsEntry steps) old k None within entries
          | inr past ↦ subst (IsEntry steps) (sym (get_or_past old k None past)) tt
        ]

    by : (k : ℕ) (t : Bool) → (k == id) ≡ t → IsEntry steps (span_at new k)
    by k true same =
        subst (IsEntry steps) (sym (ap (span_at new) (eqb-true k id same) ∙ stores.added)) kept
    by k false other = subst (IsEntry steps) (sym (stores.others k (differ k id other))) (older k)

-- and a walk added
pub adds_stored : (steps : List Step) (old new : Spans) (id : ℕ) (s : Span) (walk : List Step) → Stores old new id s
    → walk_in steps s ≡ walk → Adds (walks_in steps old) (walks_in steps new) id walk
adds_stored steps old new id s walk stores is =
    record {
      fresh = link_at-walks_in steps old id ∙ ap (option_map (walk_in steps)) stores.fresh;
      added = link_at-walks_in steps new id ∙ (ap (option_map (walk_in steps)) stores.added ∙ ap Some is);
      others = λ k other.
          link_at-walks_in steps new k
          ∙ (ap (option_map (walk_in steps)) (stores.others k other) ∙ sym (link_at-walks_in steps old k));
    }

-- a walk is added to the table of steps, and its span stored
pub kept_stored : (steps more walk : List Step) (old new : Spans) (id : ℕ) (s : Span) → All (IsEntry steps) old
    → more ≡ steps ++ walk → s.start ≡ length steps → s.end ≡ length more → IsLink walk → s.weight ≡ walk_weight walk
    → Stores old new id s → All (IsEntry more) new × Adds (walks_in steps old) (walks_in more new) id walk
kept_stored steps more walk old new id s entries added start end link weighs stores =
    let grown = grown_by steps more walk added in
    let span = span_added steps more walk s added start end link weighs in (
      entries_stored more old new id s (entries_grown steps more old grown entries) stores span.0,
      subst (λ l. Adds l (walks_in more new) id walk) (walks_in-grown steps more old grown entries)
          (adds_stored more old new id s walk stores span.1),
    )

-- a span is taken off
pub entries_without : (steps : List Step) (spans : Spans) (id : ℕ) → All (IsEntry steps) spans
    → All (IsEntry steps) (set spans id None)
entries_without steps spans id entries = All-set (IsEntry steps) spans id None tt entries

pub removed : (steps : List Step) (spans : Spans) (id : ℕ) → id < length spans
    → Removes (walks_in steps spans) (walks_in steps (set spans id None)) id
removed steps spans id within =
    record {
      gone =
          link_at-walks_in steps (set spans id None) id
          ∙ ap (option_map (walk_in steps)) (get_or-set_same spans id None None within);
      others = λ k other.
          link_at-walks_in steps (set spans id None) k
          ∙ (ap (option_map (walk_in steps)) (get_or-set_other spans id k None None other) ∙ sym (link_at-walks_in steps spans k));
    }

-- without links the table of steps matters no more
pub walks_of_none : (steps other : List Step) (spans : Spans) → count_by is_some spans ≡ 0
    → (All (IsEntry other) spans) × (walks_in other spans ≡ walks_in steps spans)
walks_of_none steps other [] none = (All-nil (IsEntry other), refl)
walks_of_none steps other (None ∷ os) none =
    let counted = sum_by-cons (λ (o : Option Span). cond {A = ℕ} (is_some o) 1 0) None os in
    let rest = walks_of_none steps other os (omega (arith, counted, none)) in
    (All-cons (IsEntry other) None os tt rest.0, ap (λ l. None ∷ l) rest.1)
walks_of_none steps other (Some s ∷ os) none =
    let counted = sum_by-cons (λ (o : Option Span). cond {A = ℕ} (is_some o) 1 0) (Some s) os in
    absurd (omega (arith, counted, none))

pub removed_last : (steps other : List Step) (spans : Spans) (id : ℕ) → id < length spans
    → count_by is_some (set spans id None) ≡ 0 → Removes (walks_in steps spans) (walks_in other (set spans id None)) id
removed_last steps other spans id within none =
    subst (λ l. Removes (walks_in steps spans) l id) (sym (walks_of_none steps other (set spans id None) none).1)
    (removed steps spans id within)

-- the joined walk of two links of the table, by their spans
pub record JoinsSpans (steps : List Step) (links : List (Option (List Step))) (a b : ℕ) (first second : Span) : Type 0 where
  pub same : joined_walk (walk_in steps first) (walk_in steps second) ≡ joined_walk (walk_at links a) (walk_at links b)
  pub link : IsLink (joined_walk (walk_in steps first) (walk_in steps second))
  pub weighs : first.weight + second.weight ≡ walk_weight (joined_walk (walk_in steps first) (walk_in steps second))

pub joined_spans : (steps : List Step) (spans : Spans) (links : List (Option (List Step))) (a b : ℕ) (first second : Span)
    → walks_in steps spans ≡ links → All (IsEntry steps) spans → span_at spans a ≡ Some first → span_at spans b ≡ Some second
    → share_end (walk_at links a) (walk_at links b) ≡ true
    → walk_weight (joined_walk (walk_at links a) (walk_at links b)) < 2 ^ 64 → JoinsSpans steps links a b first second
joined_spans steps spans links a b first second is entries at_a at_b share light =
    record {
      same = same;
      link = record { some = whole.some; chained = whole.chained; light = subst (λ w. walk_weight w < 2 ^ 64) (sym same) light };
      weighs =
          omega (arith, one.weighs, other.weighs, joined_weight (walk_in steps first) (walk_in steps second));
    }
  where
    one : IsSpan steps first
    one = span_kept steps spans a first entries at_a

    other : IsSpan steps second
    other = span_kept steps spans b second entries at_b

    first_is : walk_in steps first ≡ walk_at links a
    first_is = sym (walk_at-walks_in steps spans a first at_a) ∙ ap (λ l. walk_at l a) is

    second_is : walk_in steps second ≡ walk_at links b
    second_is = sym (walk_at-walks_in steps spans b second at_b) ∙ ap (λ l. walk_at l b) is

    same : joined_walk (walk_in steps first) (walk_in steps second) ≡ joined_walk (walk_at links a) (walk_at links b)
    same = ap (λ w. joined_walk w (walk_in steps second)) first_is ∙ ap (joined_walk (walk_at links a)) second_is

    meet : share_end (walk_in steps first) (walk_in steps second) ≡ true
    meet =
        ap (λ w. share_end w (walk_in steps second)) first_is ∙ (ap (share_end (walk_at links a)) second_is ∙ share)

    whole : IsJoinedWalk (walk_in steps first) (walk_in steps second)
    whole = walk_joined (walk_in steps first) (walk_in steps second) one.link other.link meet

walks_in-take : (steps : List Step) (spans : Spans) (i : ℕ) (o : Option Span) → i < length spans → get_or spans i None ≡ o
    → walks_in steps (take (i + 1) spans) ≡ walks_in steps (take i spans) ++ option_map (walk_in steps) o ∷ []
walks_in-take steps spans i o within is =
    map_more (option_map (walk_in steps)) spans i None within
    ∙ ap (λ x. walks_in steps (take i spans) ++ option_map (walk_in steps) x ∷ []) is

-- a number without a walk has no span
no_span : (steps : List Step) (spans : Spans) (id : ℕ) → link_at (walks_in steps spans) id ≡ None → span_at spans id ≡ None
no_span steps spans id none = by (span_at spans id) refl
  where
    by : (o : Option Span) → span_at spans id ≡ o → o ≡ None
    by None is = refl
    by (Some s) is =
        absurd (none-some (walk_in steps s)
        (sym none ∙ (link_at-walks_in steps spans id ∙ ap (option_map (walk_in steps)) is)))

links_counted : (steps : List Step) (spans : Spans) → count_by is_some (walks_in steps spans) ≡ count_by is_some spans
links_counted steps [] = refl
links_counted steps (o ∷ os) =
    omega (arith, sum_by-cons (λ (x : Option (List Step)). cond {A = ℕ} (is_some x) 1 0) (option_map (walk_in steps) o) (walks_in steps os), sum_by-cons (λ (x : Option Span). cond {A = ℕ} (is_some x) 1 0) o os, ap {A = Bool} (λ b. cond {A = ℕ} b 1 0) (is_some-option_map steps o), links_counted steps os)

-- the walks are copied to another table, one after another
pub packed_none : (steps : List Step) (spans : Spans) (i : ℕ) (more : List Step) (new after : Spans)
    → IsPacked steps (take i spans) more new → i < length spans → get_or spans i None ≡ None → after ≡ new ++ None ∷ []
    → IsPacked steps (take (i + 1) spans) more after
packed_none steps spans i more new after packed within none pushed =
    record {
      entries =
          subst (All (IsEntry more)) (sym pushed) (All-push (IsEntry more) new None packed.entries tt);
      same =
          ap (walks_in more) pushed
          ∙ (map-append (option_map (walk_in more)) new (None ∷ [])
          ∙ (ap (λ l. l ++ None ∷ []) packed.same ∙ sym (walks_in-take steps spans i None within none)));
    }

pub packed_some : (steps : List Step) (spans : Spans) (i : ℕ) (old more : List Step) (new after : Spans) (span copy : Span)
    → IsPacked steps (take i spans) old new → i < length spans → get_or spans i None ≡ Some span → IsSpan steps span
    → more ≡ old ++ walk_in steps span → copy.start ≡ length old → copy.end ≡ length more → copy.weight ≡ span.weight
    → after ≡ new ++ Some copy ∷ [] → IsPacked steps (take (i + 1) spans) more after
packed_some steps spans i old more new after span copy packed within some kept added start end weight pushed =
    record {
      entries =
          subst (All (IsEntry more)) (sym pushed)
          (All-push (IsEntry more) new (Some copy) (entries_grown old more new grown packed.entries) is.0);
      same =
          ap (walks_in more) pushed
          ∙ (map-append (option_map (walk_in more)) new (Some copy ∷ [])
          ∙ (ap (λ l. l ++ Some (walk_in more copy) ∷ []) (walks_in-grown old more new grown packed.entries ∙ packed.same)
          ∙ (ap (λ w. walks_in steps (take i spans) ++ Some w ∷ []) is.1
          ∙ sym (walks_in-take steps spans i (Some span) within some))));
    }
  where
    grown : take (length old) more ≡ old
    grown = grown_by old more (walk_in steps span) added

    is : IsSpan more copy × (walk_in more copy ≡ walk_in steps span)
    is = span_added old more (walk_in steps span) copy added start end kept.link (weight ∙ kept.weighs)

-- the numbers are those of the walks
pub numbered_packed : (steps more : List Step) (spans new : Spans) (free : List ℕ) (capacity : ℕ)
    → walks_in more new ≡ walks_in steps spans → AreNumbered spans free capacity → AreNumbered new free capacity
numbered_packed steps more spans new free capacity same kept =
    record {
      unused = free_packed free kept.unused;
      counted = omega (arith, long, counted, kept.counted);
      room = omega (arith, long, kept.room);
    }
  where
    long : length new ≡ length spans
    long =
        sym (length-map new (option_map (walk_in more)))
        ∙ (ap length same ∙ length-map spans (option_map (walk_in steps)))

    counted : count_by is_some new ≡ count_by is_some spans
    counted = sym (links_counted more new) ∙ (ap (count_by is_some) same ∙ links_counted steps spans)

    free_packed : (ids : List ℕ) → AreFree spans ids → AreFree new ids
    free_packed [] unused = tt
    free_packed (id ∷ ids) (below, none, apart, rest) = (
      subst (λ n. id < n) (sym long) below,
      no_span more new id (ap (λ l. link_at l id) same ∙ (link_at-walks_in steps spans id ∙ ap (option_map (walk_in steps)) none)),
      apart,
      free_packed ids rest,
    )
