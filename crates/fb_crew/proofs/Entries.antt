-- A worker's list of entries is that of its seat.
use Rattle.std.proofs.Common.{ℕ, ◌≡◌, List, [], ◌∷◌, ◌++◌, All, ap, sym, subst, ◌∙◌}
use Rattle.std.proofs.lemmas.List.Elements.{All-nil, All-push}
use Rattle.fb_book.specs.declared.entries.EntryKind.{EntryKind}
use Rattle.fb_book.specs.declared.entries.EntryKind.TheVariants.{Took, Gave, Left}
use Rattle.fb_book.specs.declared.entries.Entry.{Entry}
use Rattle.fb_hands.specs.Gates.{HasPassed}
use Rattle.fb_slots.specs.Seats.{SeatValue, seat_that_claimed, seat_that_gave, seat_that_left, seat_that_took, seat_with_entry}

pub entry_more : (kind : EntryKind) (slot node w : ℕ) (s : SeatValue) (old new : List Entry) (e : Entry) → w ≡ s.worker → old ≡ s.entries
    → e ≡ record { kind = kind; worker = w; slot = slot; node = node } → new ≡ old ++ e ∷ [] → new ≡ (seat_with_entry kind slot node s).entries
entry_more kind slot node w s old new e by same is more =
    let entry : ℕ → Entry = λ x. record { kind = kind; worker = x; slot = slot; node = node } in
    more ∙ (λ i. same i ++ (is ∙ ap entry by) i ∷ [])

-- A worker's entries after each of its steps: it has passed with each item that it gave.
module _ (passed : ℕ → ℕ → ℕ → Type 0) where
  pub came_none : (es : List Entry) → es ≡ [] → All (HasPassed passed) es
  came_none es none = subst (All (HasPassed passed)) (sym none) (All-nil (HasPassed passed))

  took : (slot node : ℕ) (s : SeatValue) → All (HasPassed passed) s.entries → All (HasPassed passed) (seat_that_took slot node s).entries
  took slot node s came =
      All-push (HasPassed passed) s.entries (record { kind = Took; worker = s.worker; slot = slot; node = node }) came
      (λ gave. absurd (let never : ⊥ = cc in never))

  gave : (slot node : ℕ) (s : SeatValue) → passed s.worker slot node → All (HasPassed passed) s.entries
      → All (HasPassed passed) (seat_that_gave slot node s).entries
  gave slot node s here came =
      All-push (HasPassed passed) s.entries (record { kind = Gave; worker = s.worker; slot = slot; node = node }) came (λ same. here)

  pub came_claimed : (slot node : ℕ) (s new : SeatValue) → new ≡ seat_that_claimed slot node s → All (HasPassed passed) s.entries
      → All (HasPassed passed) new.entries
  came_claimed slot node s new is came = subst (λ (v : SeatValue). All (HasPassed passed) v.entries) (sym is) (took slot node s came)

  pub came_gave : (slot node : ℕ) (s new : SeatValue) → new ≡ seat_that_gave slot node s → passed s.worker slot node
      → All (HasPassed passed) s.entries → All (HasPassed passed) new.entries
  came_gave slot node s new is here came =
      subst (λ (v : SeatValue). All (HasPassed passed) v.entries) (sym is) (gave slot node s here came)

  pub came_fused : (slot node next_slot next_node : ℕ) (s new : SeatValue) → new ≡ seat_that_took next_slot next_node (seat_that_gave slot node s)
      → passed s.worker slot node → All (HasPassed passed) s.entries → All (HasPassed passed) new.entries
  came_fused slot node next_slot next_node s new is here came =
      subst (λ (v : SeatValue). All (HasPassed passed) v.entries) (sym is)
      (took next_slot next_node (seat_that_gave slot node s) (gave slot node s here came))

  pub came_left : (slot node : ℕ) (s new : SeatValue) → new ≡ seat_that_left slot node s → All (HasPassed passed) s.entries
      → All (HasPassed passed) new.entries
  came_left slot node s new is came =
      subst (λ (v : SeatValue). All (HasPassed passed) v.entries) (sym is)
      (All-push (HasPassed passed) s.entries (record { kind = Left; worker = s.worker; slot = slot; node = node }) came
      (λ gave. absurd (let never : ⊥ = cc in never)))
