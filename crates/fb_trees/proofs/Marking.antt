-- A table of places while entries of branches are written or taken out.
use Rattle.std.proofs.Common.{ℕ, ◌≡◌, ◌<◌, ◌+◌, ◌==◌, ◌||◌, cond, Bool, true, false, List, [], ◌∷◌, length, get_or, take, Option, Some, None, refl, sym, ap, ◌∙◌, if◌then◌else◌, arith}
use Rattle.std.proofs.lemmas.List.{take_more, length-take-le}
use Rattle.fb_laws.specs.Trees.{EntryOf}
use Rattle.fb_trees.specs.declared.branch.Branch.{Branch}
use Rattle.fb_trees.specs.Branches.{entries_of, entry_of}
use Rattle.fb_trees.specs.InternalPlaces.{has_branch, place_of, place_or}
use Rattle.fb_trees.proofs.Lookups.{entries_push, length_entries}
use Rattle.fb_regions.specs.InternalPlaces.{place_in}

-- one branch more
pub entries_more : (bs : List Branch) (i : ℕ) (d : Branch) → i < length bs
    → entries_of (take (i + 1) bs) ≡ entry_of (get_or bs i d) ∷ entries_of (take i bs)
entries_more bs i d below = ap entries_of (take_more bs i d below) ∙ entries_push (take i bs) (get_or bs i d)

-- a node without a branch has no place
pub place_without : (es : List (EntryOf ℕ)) (name : ℕ) → has_branch es name ≡ false → place_of es name ≡ None
place_without [] name none = refl
place_without (e ∷ es) name none = by ((e.minus == name) || (e.plus == name)) none (place_without es name)
  where
    by : (b : Bool) → (b || has_branch es name) ≡ false → (has_branch es name ≡ false → place_of es name ≡ None)
        → cond b (Some (length es)) (place_of es name) ≡ None
    by true h rest = cc
    by false h rest = rest h

-- the entries of the next branch written, the one after the other
pub marked_next : (bs : List Branch) (i : ℕ) (d : Branch) → i < length bs → (x : Option ℕ) (first old new : List (Option ℕ))
    → ((name : ℕ) → place_in old name ≡ (if has_branch (entries_of (take i bs)) name then x else place_in first name))
    → ((name : ℕ) → place_in new name ≡ (if ((get_or bs i d).minus == name) || ((get_or bs i d).plus == name) then x else place_in old name))
    → (name : ℕ) → place_in new name ≡ (if has_branch (entries_of (take (i + 1) bs)) name then x else place_in first name)
marked_next bs i d below x first old new was written name =
    written name
    ∙ (by ((b.minus == name) || (b.plus == name)) (has_branch (entries_of (take i bs)) name) (was name)
    ∙ ap (λ es. if has_branch es name then x else place_in first name) (sym (entries_more bs i d below)))
  where
    b : Branch
    b = get_or bs i d

    by : (here before : Bool) → place_in old name ≡ cond before x (place_in first name)
        → cond here x (place_in old name) ≡ cond (here || before) x (place_in first name)
    by true before is = refl
    by false before is = is

-- the same where both nodes' entries are taken out
pub removed_next : (bs : List Branch) (i : ℕ) (d : Branch) → i < length bs → (first old half new : List (Option ℕ))
    → ((name : ℕ) → place_in old name ≡ (if has_branch (entries_of (take i bs)) name then None else place_in first name))
    → ((name : ℕ) → place_in half name ≡ (if (get_or bs i d).minus == name then None else place_in old name))
    → ((name : ℕ) → place_in new name ≡ (if (get_or bs i d).plus == name then None else place_in half name))
    → (name : ℕ) → place_in new name ≡ (if has_branch (entries_of (take (i + 1) bs)) name then None else place_in first name)
removed_next bs i d below first old half new was minus plus =
    marked_next bs i d below None first old new was
    (λ name. plus name ∙ by ((get_or bs i d).minus == name) ((get_or bs i d).plus == name) name (minus name))
  where
    by : (m q : Bool) (name : ℕ) → place_in half name ≡ cond m None (place_in old name)
        → cond q None (place_in half name) ≡ cond (m || q) None (place_in old name)
    by true true name is = refl
    by false true name is = refl
    by true false name is = is
    by false false name is = is

-- the next branch entered at its place
pub entered_next : (bs : List Branch) (i : ℕ) (d : Branch) → i < length bs → (first old new : List (Option ℕ))
    → ((name : ℕ) → place_in old name ≡ place_or (place_of (entries_of (take i bs)) name) (place_in first name))
    → ((name : ℕ) → place_in new name ≡ (if ((get_or bs i d).minus == name) || ((get_or bs i d).plus == name) then Some i else place_in old name))
    → (name : ℕ) → place_in new name ≡ place_or (place_of (entries_of (take (i + 1) bs)) name) (place_in first name)
entered_next bs i d below first old new was written name =
    written name
    ∙ (by ((b.minus == name) || (b.plus == name)) (was name)
    ∙ ap (λ es. place_or (place_of es name) (place_in first name)) (sym (entries_more bs i d below)))
  where
    b : Branch
    b = get_or bs i d

    at : length (entries_of (take i bs)) ≡ i
    at = length_entries (take i bs) ∙ length-take-le i bs (omega arith)

    by : (here : Bool) → place_in old name ≡ place_or (place_of (entries_of (take i bs)) name) (place_in first name)
        → cond here (Some i) (place_in old name)
        ≡ place_or (cond here (Some (length (entries_of (take i bs)))) (place_of (entries_of (take i bs)) name)) (place_in first name)
    by true is = ap Some (sym at)
    by false is = is
