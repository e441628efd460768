-- The right table's links move into the left one, from the last number down.
use Rattle.std.proofs.Common.{ℕ, ◌+◌, ◌<◌, ◌≤◌, ◌≡◌, ◌≢◌, ◌==◌, true, false, List, [], ◌∷◌, ◌++◌, map, reverse, length, Option, Some, None, All, arith, refl, sym, ap, ◌∙◌, subst, inl, inr}
use Rattle.std.specs.Prelude.{is_some, option_map}
use Rattle.std.proofs.lemmas.Bool.{cases_lt, false≢true, or_from}
use Rattle.std.proofs.lemmas.List.{length_push, get_or_push, get_or_past, map-append, length-map, reverse-append}
use Rattle.std.proofs.lemmas.List.Sorted.{All-permutation, IsPermutation-map, IsPermutation-reverse, list_any-IsPermutation}
use Rattle.std.proofs.lemmas.List.Elements.{All-nil, All-cons, All-head, All-tail, All-push, All-weaker}
use Rattle.fb_links.specs.Lists.{AreDistinct, is_in}
use Rattle.fb_links.specs.declared.walk.Step.{Step}
use Rattle.fb_links.specs.Table.{Adds, is_live, link_at}
use Rattle.fb_links.specs.InternalKept.{IsEntry, walk_in, walks_in}
use Rattle.fb_links.specs.declared.span.Span.{Span}
use Rattle.fb_links.specs.Merged.{AreMerged, IsMoved, old_numbers, new_numbers}
use Rattle.fb_links.specs.InternalMerging.{AreMerging}
use Rattle.fb_links.proofs.Lists.{AreDistinct-push, is_in-push_other, is_in-push_same, not_in-push, unequal}
use Rattle.fb_links.proofs.Numbers.{Spans, get_or-push_other}

abbrev pub Table : Type 0
Table = List (Option (List Step))

pub merging_begins : (left right : Table) → AreMerging left right right [] left
merging_begins left right =
    record {
      unread = λ id within. refl;
      unlisted = λ id within. refl;
      listed = λ id past. sym (ap is_some (get_or_past right id None past));
      once = tt;
      moved = All-nil (IsMoved right left);
      fresh = All-nil (λ p. link_at left p.1 ≡ None);
      apart = tt;
      others = λ id none. refl;
    }

pub merging_ends : (left right rest : Table) (pairs : List (ℕ × ℕ)) (new : Table) → length rest ≡ 0
    → AreMerging left right rest pairs new → AreMerged left right pairs new
merging_ends left right rest pairs new none merging =
    record {
      listed = λ id. merging.listed id (omega arith);
      once = merging.once;
      moved = merging.moved;
      fresh = merging.fresh;
      apart = merging.apart;
      others = merging.others;
    }

-- the entry read last is the right table's
last_entry : (left right rest : Table) (entry : Option (List Step)) (pairs : List (ℕ × ℕ)) (new : Table)
    → AreMerging left right (rest ++ entry ∷ []) pairs new → link_at right (length rest) ≡ entry
last_entry left right rest entry pairs new merging =
    sym (merging.unread (length rest) (omega (arith, length_push rest entry))) ∙ get_or_push rest entry None (length rest) refl

-- and the entries before it as well
front_entry : (left right rest : Table) (entry : Option (List Step)) (pairs : List (ℕ × ℕ)) (new : Table)
    → AreMerging left right (rest ++ entry ∷ []) pairs new → (id : ℕ) → id < length rest → link_at rest id ≡ link_at right id
front_entry left right rest entry pairs new merging id within =
    let other : id ≢ length rest = omega arith in
    sym (get_or-push_other rest entry None id other) ∙ merging.unread id (omega (arith, length_push rest entry))

-- a number without link is passed over
pub merging_passes : (left right rest : Table) (pairs : List (ℕ × ℕ)) (new : Table)
    → AreMerging left right (rest ++ None ∷ []) pairs new → AreMerging left right rest pairs new
merging_passes left right rest pairs new merging =
    record {
      unread = front_entry left right rest None pairs new merging;
      unlisted = λ id within. merging.unlisted id (omega (arith, length_push rest None));
      listed = listed;
      once = merging.once;
      moved = merging.moved;
      fresh = merging.fresh;
      apart = merging.apart;
      others = merging.others;
    }
  where
    at_last : (id : ℕ) → id ≡ length rest → is_in (old_numbers pairs) id ≡ is_live right id
    at_last id is =
        merging.unlisted id (omega (arith, length_push rest None))
        ∙ sym (ap (is_live right) is ∙ ap is_some (last_entry left right rest None pairs new merging))

    listed : (id : ℕ) → length rest ≤ id → is_in (old_numbers pairs) id ≡ is_live right id
    listed id past =
        elim (cases_lt (length rest) id) [
          | inl after ↦ merging.listed id (omega (arith, length_push rest None))
          | inr before ↦ at_last id (omega arith)
        ]

-- a number without link is not a new one of the links moved so far
not_new : (right new : Table) (pairs : List (ℕ × ℕ)) (id : ℕ) → All (IsMoved right new) pairs → link_at new id ≡ None
    → is_in (new_numbers pairs) id ≡ false
not_new right new [] id moved none = refl
not_new right new (p ∷ ps) id moved none =
    let here = All-head (IsMoved right new) p ps moved in
    or_from (p.1 == id) (is_in (new_numbers ps) id)
    (unequal p.1 id (λ same. false≢true (sym (ap is_some (ap (link_at new) same ∙ none)) ∙ (ap is_some here.1 ∙ here.0))))
    (not_new right new ps id (All-tail (IsMoved right new) p ps moved) none)

-- the links moved so far stay where they are when another one is added
still_moved : (right old new : Table) (id : ℕ) (walk : List Step) → Adds old new id walk → (p : ℕ × ℕ)
    → IsMoved right old p → IsMoved right new p
still_moved right old new id walk adds p moved =
    let live : is_live old p.1 ≡ true = ap is_some moved.1 ∙ moved.0 in
    let other = λ (same : p.1 ≡ id). false≢true (sym (ap is_some (ap (link_at old) same ∙ adds.fresh)) ∙ live) in
    (moved.0, adds.others p.1 other ∙ moved.1)

-- a link moves to a number that no link has
pub merging_moves : (left right rest : Table) (pairs : List (ℕ × ℕ)) (old new : Table) (id : ℕ) (walk : List Step)
    → AreMerging left right (rest ++ Some walk ∷ []) pairs old → Adds old new id walk
    → AreMerging left right rest (pairs ++ (length rest, id) ∷ []) new
merging_moves left right rest pairs old new id walk merging adds =
    record {
      unread = front_entry left right rest (Some walk) pairs old merging;
      unlisted = λ k within. older k (omega arith) ∙ merging.unlisted k (omega (arith, pushed));
      listed = listed;
      once = once;
      moved = All-push (IsMoved right new) pairs (length rest, id) before (ap is_some last, adds.added ∙ sym last);
      fresh =
          All-push (λ (p : ℕ × ℕ). link_at left p.1 ≡ None) pairs (length rest, id) merging.fresh
          (sym (merging.others id unused) ∙ adds.fresh);
      apart = subst AreDistinct (sym news) (AreDistinct-push (new_numbers pairs) id merging.apart unused);
      others = others;
    }
  where
    pushed : length (rest ++ Some walk ∷ []) ≡ length rest + 1
    pushed = length_push rest (Some walk)

    last : link_at right (length rest) ≡ Some walk
    last = last_entry left right rest (Some walk) pairs old merging

    olds : old_numbers (pairs ++ (length rest, id) ∷ []) ≡ old_numbers pairs ++ length rest ∷ []
    olds = map-append (λ (p : ℕ × ℕ). p.0) pairs ((length rest, id) ∷ [])

    news : new_numbers (pairs ++ (length rest, id) ∷ []) ≡ new_numbers pairs ++ id ∷ []
    news = map-append (λ (p : ℕ × ℕ). p.1) pairs ((length rest, id) ∷ [])

    unused : is_in (new_numbers pairs) id ≡ false
    unused = not_new right old pairs id merging.moved adds.fresh

    before : All (IsMoved right new) pairs
    before =
        All-weaker (IsMoved right old) (IsMoved right new) (still_moved right old new id walk adds) pairs merging.moved

    once : AreDistinct (old_numbers (pairs ++ (length rest, id) ∷ []))
    once =
        subst AreDistinct (sym olds)
        (AreDistinct-push (old_numbers pairs) (length rest) merging.once
        (merging.unlisted (length rest) (omega (arith, pushed))))

    older : (k : ℕ) → k ≢ length rest → is_in (old_numbers (pairs ++ (length rest, id) ∷ [])) k ≡ is_in (old_numbers pairs) k
    older k other =
        ap (λ l. is_in l k) olds ∙ is_in-push_other (old_numbers pairs) (length rest) k (λ same. other (sym same))

    at_last : (k : ℕ) → k ≡ length rest → is_in (old_numbers pairs ++ length rest ∷ []) k ≡ is_live right k
    at_last k is =
        ap (is_in (old_numbers pairs ++ length rest ∷ [])) is
        ∙ (is_in-push_same (old_numbers pairs) (length rest) ∙ sym (ap (is_live right) is ∙ ap is_some last))

    listed : (k : ℕ) → length rest ≤ k → is_in (old_numbers (pairs ++ (length rest, id) ∷ [])) k ≡ is_live right k
    listed k past =
        elim (cases_lt (length rest) k) [
          | inl after ↦ older k (omega arith) ∙ merging.listed k (omega (arith, pushed))
          | inr before ↦ ap (λ l. is_in l k) olds ∙ at_last k (omega arith)
        ]

    others : (k : ℕ) → is_in (new_numbers (pairs ++ (length rest, id) ∷ [])) k ≡ false → link_at new k ≡ link_at left k
    others k none =
        let parts = not_in-push (new_numbers pairs) id k (sym (ap (λ l. is_in l k) news) ∙ none) in
        adds.others k parts.1 ∙ merging.others k parts.0

listed_reversed : (number : ℕ × ℕ → ℕ) (pairs : List (ℕ × ℕ)) (id : ℕ)
    → is_in (map number (reverse pairs)) id ≡ is_in (map number pairs) id
listed_reversed number pairs id =
    sym (list_any-IsPermutation (λ u. u == id) (map number pairs) (map number (reverse pairs))
    (IsPermutation-map number pairs (reverse pairs) (IsPermutation-reverse pairs)))

distinct_reversed : (number : ℕ × ℕ → ℕ) (pairs : List (ℕ × ℕ)) → AreDistinct (map number pairs)
    → AreDistinct (map number (reverse pairs))
distinct_reversed number [] distinct = tt
distinct_reversed number (p ∷ ps) distinct =
    subst AreDistinct
    (sym (ap (map number) (reverse-append (p ∷ []) ps) ∙ map-append number (reverse ps) (p ∷ [])))
    (AreDistinct-push (map number (reverse ps)) (number p) (distinct_reversed number ps distinct.1)
    (listed_reversed number ps (number p) ∙ distinct.0))

-- the links may be listed in the other direction as well
pub merged_reversed : (left right : Table) (pairs : List (ℕ × ℕ)) (new : Table) → AreMerged left right pairs new
    → AreMerged left right (reverse pairs) new
merged_reversed left right pairs new merged =
    record {
      listed = λ id. listed_reversed (λ p. p.0) pairs id ∙ merged.listed id;
      once = distinct_reversed (λ p. p.0) pairs merged.once;
      moved = All-permutation (IsMoved right new) pairs (reverse pairs) (IsPermutation-reverse pairs) merged.moved;
      fresh =
          All-permutation (λ (p : ℕ × ℕ). link_at left p.1 ≡ None) pairs (reverse pairs) (IsPermutation-reverse pairs)
          merged.fresh;
      apart = distinct_reversed (λ p. p.1) pairs merged.apart;
      others = λ id none. merged.others id (sym (listed_reversed (λ p. p.1) pairs id) ∙ none);
    }

taken_walk : (steps : List Step) (spans rest : Spans) (entry is : Option Span) → spans ≡ rest ++ entry ∷ [] → entry ≡ is
    → walks_in steps spans ≡ walks_in steps rest ++ option_map (walk_in steps) is ∷ []
taken_walk steps spans rest entry is taken same =
    ap (walks_in steps) (taken ∙ ap (λ e. rest ++ e ∷ []) same) ∙ map-append (option_map (walk_in steps)) rest (is ∷ [])

All-front : {X : Type 0} (P : X → Type 0) → (xs : List X) (y : X) → All P (xs ++ y ∷ []) → (All P xs) × P y
All-front P [] y all = (All-nil P, All-head P y [] all)
All-front P (x ∷ xs) y all =
    let rest = All-front P xs y (All-tail P x (xs ++ y ∷ []) all) in
    (All-cons P x xs (All-head P x (xs ++ y ∷ []) all) rest.0, rest.1)

-- the spans left, and the one taken off
pub entries_taken : (steps : List Step) (spans rest : Spans) (entry : Option Span) → All (IsEntry steps) spans
    → spans ≡ rest ++ entry ∷ [] → (All (IsEntry steps) rest) × IsEntry steps entry
entries_taken steps spans rest entry entries taken =
    All-front (IsEntry steps) rest entry (subst (All (IsEntry steps)) taken entries)

-- as the code reads the right table: `entry` is the span taken off its end
pub merging_after_none : (left right : Table) (steps : List Step) (spans rest : Spans) (entry : Option Span)
    (pairs : List (ℕ × ℕ)) (new : Table)
    → AreMerging left right (walks_in steps spans) pairs new → spans ≡ rest ++ entry ∷ [] → entry ≡ None
    → AreMerging left right (walks_in steps rest) pairs new
merging_after_none left right steps spans rest entry pairs new merging taken none =
    merging_passes left right (walks_in steps rest) pairs new
    (subst (λ t. AreMerging left right t pairs new) (taken_walk steps spans rest entry None taken none) merging)

pub merging_after_some : (left right : Table) (steps : List Step) (spans rest : Spans) (entry : Option Span) (span : Span)
    (pairs more : List (ℕ × ℕ)) (old new : Table) (number id : ℕ) (walk : List Step)
    → AreMerging left right (walks_in steps spans) pairs old → spans ≡ rest ++ entry ∷ [] → entry ≡ Some span
    → number ≡ length rest → walk ≡ walk_in steps span → Adds old new id walk → more ≡ pairs ++ (number, id) ∷ []
    → AreMerging left right (walks_in steps rest) more new
merging_after_some left right steps spans rest entry span pairs more old new number id walk merging taken some at is adds pushed =
    subst (λ m. AreMerging left right (walks_in steps rest) m new)
    (sym (pushed ∙ ap (λ n. pairs ++ (n, id) ∷ []) (at ∙ sym (length-map rest (option_map (walk_in steps))))))
    (merging_moves left right (walks_in steps rest) pairs old new id walk
    (subst (λ t. AreMerging left right t pairs old)
    (taken_walk steps spans rest entry (Some span) taken some ∙ ap (λ w. walks_in steps rest ++ Some w ∷ []) (sym is)) merging) adds)
