-- A history that is complete on some slots is complete on their new numbers.
use Rattle.std.proofs.Common.{ℕ, ◌≡◌, ◌+◌, ◌*◌, ◌<◌, true, false, List, [], ◌∷◌, length, map, ap, subst, ◌∙◌, arith}
use Rattle.std.proofs.lemmas.List.Elements.{All-nil, All-cons, All-head, All-tail}
use Rattle.std.specs.List.{All}
use Rattle.fb_graph.specs.Parity.{is_in}
use Rattle.fb_book.specs.declared.entries.Entry.{Entry}
use Rattle.fb_book.specs.Machine.{IsCompleteOn, is_loss, is_over, status_at}
use Rattle.fb_book.specs.Board.{kids_in}
use Rattle.fb_book.specs.Laws.{IsRenumbered, RenumberingCompletes, renumbered_entry}
use Rattle.fb_book.proofs.Renumbering.{injective, place_less, renumbering_allows, slot_below}
use Rattle.fb_graph.proofs.OddLabels.{member_of_map}

pub renumbering_completes : RenumberingCompletes
renumbering_completes f units joins slots more on history r some forest complete =
    close (renumbering_allows f units joins slots more history complete.statuses r forest complete.replayed)
  where
    n : ℕ
    n = units + length joins

    below : (s : ℕ) → is_in on s ≡ true → s < slots
    below s at = slot_below n s 0 slots (omega (arith, some)) (complete.inside s 0 at (omega (arith, some)))

    no_losses : (es : List Entry) → All (λ e. e.slot < slots) es
        → All (λ e. is_in on e.slot ≡ true → is_loss e ≡ false) es
        → All (λ e. is_in (map f on) e.slot ≡ true → is_loss e ≡ false) (map (renumbered_entry f) es)
    no_losses [] within none = All-nil (λ e. is_in (map f on) e.slot ≡ true → is_loss e ≡ false)
    no_losses (e ∷ es) within none =
        All-cons (λ e. is_in (map f on) e.slot ≡ true → is_loss e ≡ false) (renumbered_entry f e) (map (renumbered_entry f) es)
        (λ at. one (member_of_map f on (f e.slot) at))
        (no_losses es (All-tail (λ e. e.slot < slots) e es within)
        (All-tail (λ e. is_in on e.slot ≡ true → is_loss e ≡ false) e es none))
      where
        one : (s : ℕ) × (is_in on s ≡ true) × (f s ≡ f e.slot) → is_loss e ≡ false
        one (s, at, is) =
            All-head (λ e. is_in on e.slot ≡ true → is_loss e ≡ false) e es none
            (subst (λ x. is_in on x ≡ true)
            (injective f n slots more r s e.slot (below s at) (All-head (λ e. e.slot < slots) e es within) is) at)

    close : IsRenumbered f (kids_in units joins) n slots more history complete.statuses
        → IsCompleteOn (map f on) (kids_in units joins) n (more * n) (map (renumbered_entry f) history)
    close h = record {
      inside = λ slot node at less. inside slot node less (member_of_map f on slot at);
      statuses = h.statuses;
      replayed = h.replayed;
      unleft = no_losses history h.slots_are complete.unleft;
      over = λ slot node at less. over slot node less (member_of_map f on slot at);
    }
      where
        inside : (slot node : ℕ) → node < n → (s : ℕ) × (is_in on s ≡ true) × (f s ≡ slot) → slot * n + node < more * n
        inside slot node less (s, at, is) =
            subst (λ x. x * n + node < more * n) is
            (place_less f n slots more r (f s) node more (r.below s (below s at)) less)

        over : (slot node : ℕ) → node < n → (s : ℕ) × (is_in on s ≡ true) × (f s ≡ slot)
            → is_over (status_at h.statuses (slot * n + node)) ≡ true
        over slot node less (s, at, is) =
            subst (λ x. is_over (status_at h.statuses (x * n + node)) ≡ true) is
            (ap is_over (h.same s node (below s at) less) ∙ complete.over s node at less)
