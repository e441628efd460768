-- Shots that are drawn one after another, with their rows.
use Rattle.std.proofs.Common.{◌≡◌, ℕ, zero, suc, ◌+◌, ◌*◌, ℤ, ◌+ℤ◌, List, [], ◌∷◌, ◌++◌, length, sym, ap, subst, ◌∙◌, arith}
use Rattle.std.proofs.Math.Nat.{add-mul, suc-mul}
use Rattle.std.proofs.lemmas.List.Sums.{sum_by-append}
use Rattle.fb_crew.specs.Windows.{AreRows, defect_count}
use Rattle.fb_gen.specs.Drawing.{hits_of, next_state, shot_from, state_after}
use Rattle.fb_graph.specs.Limits.{DecodingGraph, ShotValue}
use Rattle.fb_graph.specs.declared.parts.Row.{Row}
use Rattle.fb_run.specs.Samples.{HaveSums, drawn_shots, weights_in}
use Rattle.fb_run.proofs.LowWeights.{weights_in-append}

-- ---- draws

pub state_after-add : (x m n : ℕ) → state_after x (m + n) ≡ state_after (state_after x m) n
state_after-add x m zero =
    let e : m + 0 ≡ m = omega arith in
    ap (state_after x) e
state_after-add x m (suc n) =
    let e : m + suc n ≡ suc (m + n) = omega arith in
    ap (state_after x) e ∙ ap next_state (state_after-add x m n)

-- the state after the draws of one more shot
pub state_of_next : (x edges n : ℕ) → state_after (state_after x (n * edges)) edges ≡ state_after x ((n + 1) * edges)
state_of_next x edges n =
    let e : n * edges + edges ≡ (n + 1) * edges = omega (arith, add-mul n 1 edges) in
    sym (state_after-add x (n * edges) edges) ∙ ap (state_after x) e

-- the state after the draws of some shots and then of some more
pub state_of_more : (x y z edges a b : ℕ) → y ≡ state_after x (a * edges) → z ≡ state_after y (b * edges)
    → z ≡ state_after x ((a + b) * edges)
state_of_more x y z edges a b first next =
    next
    ∙ ap (λ s. state_after s (b * edges)) first
    ∙ sym (state_after-add x (a * edges) (b * edges))
    ∙ ap (state_after x) (sym (add-mul a b edges))

-- ---- shots and their rows

module _ (g : DecodingGraph) (rate : ℕ) where
  pub drawn_shots-add : (x a b : ℕ)
      → drawn_shots g rate x (a + b) ≡ drawn_shots g rate x a ++ drawn_shots g rate (state_after x (a * length g.edges)) b
  drawn_shots-add x zero b =
      let e : 0 + b ≡ b = omega arith in
      let none : 0 ≡ 0 * length g.edges = omega arith in
      ap (drawn_shots g rate x) e ∙ ap (λ k. drawn_shots g rate (state_after x k) b) none
  drawn_shots-add x (suc a) b =
      let e : suc a + b ≡ suc (a + b) = omega arith in
      ap (drawn_shots g rate x) e
      ∙ ap (λ shots. shot_from g (hits_of x rate edges) ∷ shots) (drawn_shots-add (state_after x edges) a b)
      ∙ ap (λ y. drawn_shots g rate x (suc a) ++ drawn_shots g rate y b) later
    where
      edges : ℕ
      edges = length g.edges

      later : state_after (state_after x edges) (a * edges) ≡ state_after x (suc a * edges)
      later =
          let e : edges + a * edges ≡ suc a * edges = omega (arith, suc-mul a edges) in
          sym (state_after-add x edges (a * edges)) ∙ ap (state_after x) e

  -- one more shot
  pub drawn_shots-next : (x n : ℕ) → drawn_shots g rate x (n + 1)
      ≡ drawn_shots g rate x n ++ shot_from g (hits_of (state_after x (n * length g.edges)) rate (length g.edges)) ∷ []
  drawn_shots-next x n = drawn_shots-add x n 1

  rows_append : (shots more : List ShotValue) (rows added : List Row) → AreRows g shots rows → AreRows g more added
      → AreRows g (shots ++ more) (rows ++ added)
  rows_append [] more [] added none next = next
  rows_append [] more (r ∷ rows) added none next = absurd none
  rows_append (s ∷ shots) more [] added none next = absurd none
  rows_append (s ∷ shots) more (r ∷ rows) added (first, rest) next = (first, rows_append shots more rows added rest next)

  -- the sums with those of further shots
  pub more_sums : (x state a b defects : ℕ) (weight : ℤ) (more_defects : ℕ) (more_weight : ℤ) (more : List ShotValue) (added : List Row)
      → HaveSums g rate x a defects weight → state ≡ state_after x (a * length g.edges)
      → more ≡ drawn_shots g rate state b → AreRows g more added
      → more_defects ≡ defects + defect_count more → more_weight ≡ weight +ℤ weights_in added
      → HaveSums g rate x (a + b) more_defects more_weight
  more_sums x state a b defects weight more_defects more_weight more added sums at next decoded defects_is weight_is = record {
    rows = sums.rows ++ added;
    decoded = subst (λ shots. AreRows g shots (sums.rows ++ added)) (sym all)
        (rows_append (drawn_shots g rate x a) more sums.rows added sums.decoded decoded);
    defects_of = defects_is
        ∙ ap (λ n. n + defect_count more) sums.defects_of
        ∙ sym (sum_by-append (λ (shot : ShotValue). length shot.defects) (drawn_shots g rate x a) more)
        ∙ ap defect_count (sym all);
    weight_of = weight_is
        ∙ ap (λ n. n +ℤ weights_in added) sums.weight_of
        ∙ sym (weights_in-append sums.rows added);
  }
    where
      all : drawn_shots g rate x (a + b) ≡ drawn_shots g rate x a ++ more
      all = drawn_shots-add x a b
          ∙ ap (λ shots. drawn_shots g rate x a ++ shots) (ap (λ y. drawn_shots g rate y b) (sym at) ∙ sym next)
