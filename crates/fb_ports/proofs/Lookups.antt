-- Finding the first file of a name.
use Rattle.std.proofs.Common.{◌≡◌, ℕ, ◌+◌, ◌<◌, ◌≤◌, List, None, Some, length, drop, get_or, refl, drop-cons, add-one, true, false}
use Rattle.std.proofs.lemmas.List.{drop_all}
use Rattle.std.specs.Str.{bytes_eq}
use Rattle.fb_ports.specs.Memory.{bytes_named}

-- the first file of the rest has the name
pub named_here : (files : List (List ℕ × List ℕ)) (i : ℕ) (d : List ℕ × List ℕ) (name : List ℕ) → i < length files
    → bytes_eq (get_or files i d).0 name ≡ true → bytes_named (drop i files) name ≡ Some (get_or files i d).1
named_here files i d name lt e = rw (drop-cons files i d lt) (rw e refl)

-- it has another name
pub named_past : (files : List (List ℕ × List ℕ)) (i : ℕ) (d : List ℕ × List ℕ) (name : List ℕ) → i < length files
    → bytes_eq (get_or files i d).0 name ≡ false → bytes_named (drop i files) name ≡ bytes_named (drop (i + 1) files) name
named_past files i d name lt e = rw (drop-cons files i d lt) (rw (e, add-one) refl)

-- no file is left
pub named_nowhere : (files : List (List ℕ × List ℕ)) (i : ℕ) (name : List ℕ) → length files ≤ i → bytes_named (drop i files) name ≡ None
named_nowhere files i name le = rw (drop_all i files le) refl

pub ruleset lookups = (named_here, named_past, named_nowhere)
