-- The order in which a history is listed.
use Rattle.std.specs.Prelude.{ℕ, ◌+◌, ◌*◌, List, map}
use Rattle.std.specs.List.Sorted.{IsStrictlyIncreasing}
use Rattle.fb_book.specs.declared.entries.EntryKind.{EntryKind}
use Rattle.fb_book.specs.declared.entries.EntryKind.TheVariants.{Took, Gave, Left}
use Rattle.fb_book.specs.declared.entries.Entry.{Entry}
use Rattle.fb_book.specs.Machine.{place}

abbrev pub rank_of : EntryKind → ℕ
rank_of Took = 0
rank_of Gave = 1
rank_of Left = 1

-- entries by slot, then node, and an item's Took before its Gave
abbrev pub rank : ℕ → Entry → ℕ
rank n e = 2 * place n e + rank_of e.kind

-- The entries are listed in this order.
abbrev pub IsByItem : ℕ → List Entry → Type 0
IsByItem n history = IsStrictlyIncreasing (map (rank n) history)
