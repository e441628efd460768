-- What has passed a gate.
use Rattle.std.specs.Prelude.{ℕ, ◌≡◌}
use Rattle.fb_book.specs.declared.entries.EntryKind.TheVariants.{Gave}
use Rattle.fb_book.specs.declared.entries.Entry.{Entry}

-- If the entry is that an item was given, its worker has passed with the item.
abbrev pub HasPassed : (ℕ → ℕ → ℕ → Type 0) → Entry → Type 0
HasPassed passed e = e.kind ≡ Gave → passed e.worker e.slot e.node
