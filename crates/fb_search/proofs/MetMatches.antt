-- The names of a match of two nodes, in either order.
use Rattle.std.proofs.Common.{ℕ, ◌≡◌, inl, inr, [], ◌∷◌, sym, subst, option_to_list}
use Rattle.std.specs.List.Sorted.{IsPermutation}
use Rattle.std.proofs.lemmas.List.Sorted.{IsPermutation-middle, IsPermutation-refl}
use Rattle.fb_half.specs.declared.matches.Match.{Match}
use Rattle.fb_half.specs.Matchings.{names_of}
use Rattle.fb_search.specs.InternalMeetings.{IsCouple}

pub couple_names : (m : Match) (a b : ℕ) → IsCouple m a b → IsPermutation (names_of m) (a ∷ b ∷ [])
couple_names m a b (inl (first, second)) =
    let names : names_of m ≡ a ∷ b ∷ [] = (λ k. first k ∷ option_to_list (second k)) in
    subst (λ l. IsPermutation l (a ∷ b ∷ [])) (sym names) (IsPermutation-refl (a ∷ b ∷ []))
couple_names m a b (inr (first, second)) =
    let names : names_of m ≡ b ∷ a ∷ [] = (λ k. first k ∷ option_to_list (second k)) in
    subst (λ l. IsPermutation l (a ∷ b ∷ [])) (sym names) (IsPermutation-middle (b ∷ []) a [])
