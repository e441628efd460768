-- At first all items are idle.
use Rattle.std.proofs.Common.{ℕ, ◌≡◌, ◌+◌, ◌*◌, ◌%◌, ◌^◌, ◌<◌, ◌≤◌, ◌&&◌, false, is_some, Option, Some, None, List, [], length, replicate, sum_by, ◌⊎◌, inl, inr, refl, sym, ap, subst, ◌∙◌, arith}
use Rattle.std.proofs.lemmas.Bool.{cases_lt, and_left, and_right}
use Rattle.std.proofs.Math.Nat.{zero-mod}
use Rattle.std.proofs.lemmas.List.{get_or-replicate, length-replicate, get_or_past}
use Rattle.std.proofs.lemmas.List.Folds.{sum_by-replicate}
use Rattle.fb_book.specs.declared.entries.Entry.{Entry}
use Rattle.fb_book.specs.declared.entries.Status.{Status}
use Rattle.fb_book.specs.declared.entries.Status.TheVariants.{Idle, Used}
use Rattle.fb_book.specs.Machine.{Kids, IsForest, status_at, is_idle, is_given, is_left, are_given, can_take, all_idle}
use Rattle.fb_book.specs.Board.{children_in, kids_in}
use Rattle.fb_book.specs.InternalBoard.{AreParents, node_limit, IsBoard, IsItems, is_ready, unsolved_of}
use Rattle.fb_book.proofs.History.{none_from}
use Rattle.fb_book.proofs.Places.{unit_place}
use Rattle.fb_graph.specs.Counts.{as_count}

pub idle_at : (count k : ℕ) → k < count → status_at (all_idle count) k ≡ Idle
idle_at count k less = get_or-replicate count k Idle Used less

pub ungiven_at : (count k : ℕ) → is_given (status_at (all_idle count) k) ≡ false
ungiven_at count k = step (cases_lt k count)
  where
    step : (k < count) ⊎ (count ≤ k) → is_given (status_at (all_idle count) k) ≡ false
    step (inl less) = ap is_given (idle_at count k less)
    step (inr more) =
        ap is_given (get_or_past (all_idle count) k Used (subst (λ x. x ≤ k) (sym (length-replicate count Idle)) more))

pub unready_at : (kids : Kids) (count k : ℕ) → is_ready kids (all_idle count) k ≡ false
unready_at kids count k = step (kids k) refl
  where
    st : List Status
    st = all_idle count

    step : (o : Option (ℕ × ℕ)) → kids k ≡ o → (is_some (kids k) && can_take kids st k) ≡ false
    step None e = and_left (is_some (kids k)) (can_take kids st k) (ap is_some e)
    step (Some (a, b)) e =
        and_right (is_some (kids k)) (can_take kids st k)
        (and_right (is_idle (status_at st k)) (are_given st (kids k))
        (ap (are_given st) e ∙ and_left (is_given (status_at st a)) (is_given (status_at st b)) (ungiven_at count a)))

pub board_start : (units : ℕ) (joins : List (ℕ × ℕ)) (slots room count : ℕ) → 0 < units
    → count ≡ slots * (units + length joins) → 2 * count ≤ room
    → IsBoard (kids_in units joins) (units + length joins) (slots * (units + length joins)) [] (all_idle count) [] count 0 count false room
board_start units joins slots room count some count_is enough = subst
    (λ n. IsBoard (kids_in units joins) (units + length joins) n [] (all_idle count) [] count 0 count false room) count_is
    (record {
      replayed = refl;
      loss = sym (none_from is_left (all_idle count) (λ k less. ap is_left (idle_at count k (subst (λ x. k < x) (length-replicate count Idle) less))));
      rest = let e : sum_by unsolved_of (replicate count Idle) ≡ count * 1 = sum_by-replicate unsolved_of count Idle in omega (arith, e);
      each = λ k. sym (ap as_count (unready_at (kids_in units joins) count k));
      heap_room = omega arith;
      before = λ k unit less. absurd (omega (arith, less));
      unit = λ less. unit_place units joins 0 (first units (units + length joins) some);
      behind = λ k unit more less. ap is_idle (idle_at count k less);
      history_room = enough;
    })
  where
    first : (units n : ℕ) → 0 < units → 0 % n < units
    first units n some = let e : 0 % n ≡ 0 = zero-mod n in omega (arith, e, some)

pub items_start : (units : ℕ) (joins : List (ℕ × ℕ)) (parents : List (Option ℕ)) (slots nodes count : ℕ)
    → 0 < units → units + length joins < node_limit → slots < 2 ^ 32
    → IsForest (children_in units joins) → AreParents units joins parents
    → nodes ≡ units + length joins → count ≡ slots * nodes
    → (st : List Status) → st ≡ replicate count Idle → (ready : List ℕ) → ready ≡ []
    → (ready_room room : ℕ) → ready_room ≡ count → 2 * count ≤ room → (h : List Entry) → h ≡ []
    → IsItems (record { units = units; joins = joins; slots = slots; history = h }) nodes parents st ready ready_room 0 count false room
items_start units joins parents slots nodes count some few_nodes few_slots forest parents_are nodes_is count_is st st_is ready ready_is ready_room room ready_room_is enough h h_is = record {
  some = some;
  forest = forest;
  nodes_is = nodes_is;
  few_nodes = few_nodes;
  few_slots = few_slots;
  parents_are = parents_are;
  board = subst (λ x. IsBoard kids n total h st ready x 0 count false room) (sym ready_room_is)
      (subst (λ x. IsBoard kids n total h st x count 0 count false room) (sym ready_is)
      (subst (λ x. IsBoard kids n total h x [] count 0 count false room) (sym st_is)
      (subst (λ x. IsBoard kids n total x (all_idle count) [] count 0 count false room) (sym h_is)
      (board_start units joins slots room count some (count_is ∙ ap (λ x. slots * x) nodes_is) enough))));
}
  where
    n : ℕ
    n = units + length joins

    total : ℕ
    total = slots * n

    kids : Kids
    kids = kids_in units joins
