-- One read of a named file after another.
use Rattle.std.proofs.Common.{◌≡◌, ℕ, List, [], ◌∷◌, Option, Some, None, refl, sym, ap, subst, ◌∙◌, append-nil}
use Rattle.fb_ports.specs.Causes.{GainsIfKnown}
use Rattle.fb_files.specs.Judging.{Asks, AsksPrefix}

pub asks_one : (old new : Option (List (List ℕ))) (name : List ℕ) → GainsIfKnown old new name → Asks old new (name ∷ [])
asks_one None new name known = known
asks_one (Some names) new name known = known

pub asks_none : (old new : Option (List (List ℕ))) (wanted : List (List ℕ)) → new ≡ old → AsksPrefix old new wanted
asks_none None new wanted same = ([], wanted, refl, same)
asks_none (Some names) new wanted same = ([], wanted, refl, same ∙ ap Some (sym (append-nil names)))

pub asks_prefix_one : (old new : Option (List (List ℕ))) (name : List ℕ) → GainsIfKnown old new name → AsksPrefix old new (name ∷ [])
asks_prefix_one old new name known = (name ∷ [], [], refl, asks_one old new name known)

-- ---- the names asked for

pub asks_same : (old new : Option (List (List ℕ))) → new ≡ old → Asks old new []
asks_same None new same = same
asks_same (Some names) new same = same ∙ ap Some (sym (append-nil names))

-- no further name was asked for
pub asks_kept : (old mid new : Option (List (List ℕ))) (name : List ℕ) → GainsIfKnown old mid name → new ≡ mid → Asks old new (name ∷ [])
asks_kept old mid new name known same = subst (λ (asked : Option (List (List ℕ))). Asks old asked (name ∷ [])) (sym same) (asks_one old mid name known)

-- one name was asked for, and then no other
pub asks_prefix_kept : (old mid new : Option (List (List ℕ))) (name : List ℕ) → GainsIfKnown old mid name → new ≡ mid → AsksPrefix old new (name ∷ [])
asks_prefix_kept old mid new name known same = (name ∷ [], [], refl, asks_kept old mid new name known same)
