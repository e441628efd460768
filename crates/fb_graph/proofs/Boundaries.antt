-- Which labels have a boundary vertex: one more vertex looked at.
use Rattle.std.proofs.Common.{ℕ, ◌+◌, ◌<◌, ◌≡◌, ◌==◌, ◌||◌, ◌&&◌, ◌⊎◌, Bool, true, false, not, List, [], ◌∷◌, length, get_or, set, refl, sym, ap, ◌∙◌, inl, inr, add-one, arith}
use Rattle.std.specs.List.{range_with_len, list_any}
use Rattle.std.proofs.lemmas.Bool.{cases_eq, eq-eqb, ne_eqb, or_right, and_left, and_right}
use Rattle.std.proofs.lemmas.List.{get_or-set_same, get_or-set_other}
use Rattle.std.proofs.lemmas.List.Folds.{list_any-append}
use Rattle.fb_graph.specs.InternalLabelling.{has_boundary, label_of}
use Rattle.fb_graph.specs.Problem.{Problem}
use Rattle.fb_graph.proofs.BuildSteps.{range_push}
use Rattle.fb_graph.proofs.Booleans.{or_nothing}

has_boundary-more : (p : Problem) (labels : List ℕ) (n label : ℕ)
    → has_boundary p labels (n + 1) label ≡ (has_boundary p labels n label || (label_of labels n == label && not (p.is_real n)))
has_boundary-more p labels n label =
    ap (list_any test) (ap (range_with_len 0) (add-one n) ∙ range_push 0 n)
    ∙ (list_any-append test (range_with_len 0 n) ((0 + n) ∷ [])
    ∙ ap (λ b. has_boundary p labels n label || b) (or_nothing (test (0 + n)) false refl ∙ ap test (omega arith)))
  where
    test : ℕ → Bool
    test v = label_of labels v == label && not (p.is_real v)

module _ (p : Problem) (labels : List ℕ) (bounded : List Bool) (n : ℕ)
    (known : (label : ℕ) → label < p.vertices → get_or bounded label false ≡ has_boundary p labels n label) where
  -- a boundary vertex sets the flag of its label
  pub bounded_set : label_of labels n < length bounded → not (p.is_real n) ≡ true
      → (label : ℕ) → label < p.vertices
      → get_or (set bounded (label_of labels n) true) label false ≡ has_boundary p labels (n + 1) label
  bounded_set room is_virtual label below = step (cases_eq label (label_of labels n)) ∙ sym (has_boundary-more p labels n label)
    where
      step : (label ≡ label_of labels n) ⊎ (label ≡ label_of labels n → ⊥)
          → get_or (set bounded (label_of labels n) true) label false
          ≡ (has_boundary p labels n label || (label_of labels n == label && not (p.is_real n)))
      step (inl same) =
          ap (λ l. get_or (set bounded (label_of labels n) true) l false) same
          ∙ (get_or-set_same bounded (label_of labels n) true false room
          ∙ sym (or_right (has_boundary p labels n label) _
          (ap (λ b. b && not (p.is_real n)) (eq-eqb (label_of labels n) label (sym same)) ∙ is_virtual)))
      step (inr other) =
          get_or-set_other bounded (label_of labels n) label true false other
          ∙ (known label below
          ∙ sym (or_nothing (has_boundary p labels n label) _
          (and_left (label_of labels n == label) (not (p.is_real n)) (ne_eqb (label_of labels n) label (λ e. other (sym e))))))

  -- a real vertex sets none
  pub bounded_kept : not (p.is_real n) ≡ false → (label : ℕ) → label < p.vertices
      → get_or bounded label false ≡ has_boundary p labels (n + 1) label
  bounded_kept is_real label below =
      known label below
      ∙ sym (has_boundary-more p labels n label
      ∙ or_nothing (has_boundary p labels n label) _ (and_right (label_of labels n == label) (not (p.is_real n)) is_real))
