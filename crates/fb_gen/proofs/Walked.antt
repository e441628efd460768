-- A lattice without rows has no edge and no virtual vertex, however many rounds it has.
use Rattle.std.proofs.Common.{◌≡◌, ℕ, List, [], ◌∷◌, ◌⊎◌, inl, inr, refl, sym, ap, ◌∙◌}
use Rattle.std.specs.List.{flat_map, range_with_len}
use Rattle.fb_gen.specs.Lattice.{edges_of_round, virtuals_of_round, lattice_edges, lattice_virtuals}

no_pieces : {A : Type 0} (f : ℕ → List A) → ((k : ℕ) → f k ≡ []) → (ks : List ℕ) → flat_map f ks ≡ []
no_pieces f none [] = refl
no_pieces f none (k ∷ ks) = rw (none k) (no_pieces f none ks)

-- The rounds that are walked are all of them, or none where there is no row.
abbrev pub AreWalked : ℕ → ℕ → ℕ → Type 0
AreWalked d t w = ((d ≡ 0) × (w ≡ 0)) ⊎ (w ≡ t)

no_edges : (t : ℕ) → lattice_edges 0 t ≡ []
unfolding lattice_edges
no_edges t = no_pieces (edges_of_round 0 t) (λ k. refl) (range_with_len 0 t)

no_virtuals : (t : ℕ) → lattice_virtuals 0 t ≡ []
unfolding lattice_virtuals
no_virtuals t = no_pieces (virtuals_of_round 0) (λ k. refl) (range_with_len 0 t)

pub walked_edges : (d t e u w : ℕ) → e ≡ d → u ≡ w → AreWalked d t w → lattice_edges e u ≡ lattice_edges d t
walked_edges d t e u w wide long (inr all) = ap (λ x. lattice_edges x u) wide ∙ ap (lattice_edges d) (long ∙ all)
walked_edges d t e u w wide long (inl (none, no_rounds)) =
    ap (λ x. lattice_edges x u) (wide ∙ none) ∙ (no_edges u ∙ (sym (no_edges t) ∙ ap (λ x. lattice_edges x t) (sym none)))

pub walked_virtuals : (d t e u w : ℕ) → e ≡ d → u ≡ w → AreWalked d t w → lattice_virtuals e u ≡ lattice_virtuals d t
walked_virtuals d t e u w wide long (inr all) =
    ap (λ x. lattice_virtuals x u) wide ∙ ap (lattice_virtuals d) (long ∙ all)
walked_virtuals d t e u w wide long (inl (none, no_rounds)) =
    ap (λ x. lattice_virtuals x u) (wide ∙ none)
    ∙ (no_virtuals u ∙ (sym (no_virtuals t) ∙ ap (λ x. lattice_virtuals x t) (sym none)))
