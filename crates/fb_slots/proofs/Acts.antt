-- What the acts of a step do to the slots.
use Rattle.std.proofs.Common.{ℕ, ◌≡◌, ◌≢◌, ◌<◌, false, Option, Some, None, List, [], ◌∷◌, length, refl, sym, ap, ◌∙◌, arith, zero, suc, length-set}
use Rattle.std.specs.Prelude.{slice_index, slice_set}
use mathlib.Core.Option.{some, none}
use lib.ListN.{get_elem?}
use Rattle.atomic_table.specs.Table.{Act, keeps, gives, chain, Valid, carried_after, homes_after}
use Rattle.atomic_table.proofs.Lists.{set_else, set_here}
use Rattle.fb_book.specs.Machine.{is_child}
use Rattle.fb_slots.specs.Slots.{out_of}
use Rattle.fb_slots.proofs.Items.{IsWordSet, none_is}

word_here : (ws : List ℕ) (i n : ℕ) → i < length ws → slice_index (slice_set ws i n) i ≡ n
word_here [] i n less = absurd (omega (arith, less))
word_here (w ∷ ws) zero n less = refl
word_here (w ∷ ws) (suc i) n less = word_here ws i n (omega (arith, less))

word_others : (ws : List ℕ) (i n j : ℕ) → j ≢ i → slice_index (slice_set ws i n) j ≡ slice_index ws
    j
word_others [] i n j ne = refl
word_others (w ∷ ws) zero n zero ne = absurd (ne refl)
word_others (w ∷ ws) zero n (suc j) ne = refl
word_others (w ∷ ws) (suc i) n zero ne = refl
word_others (w ∷ ws) (suc i) n (suc j) ne = word_others ws i n j (λ e. ne (ap suc e))

pub word_set : (ws : List ℕ) (i m n : ℕ) → i < length ws → m ≡ n
    → IsWordSet i n ws (slice_set ws i m)
word_set ws i m n less e = record {
  size = length-set ws i m;
  here = word_here ws i m less ∙ e;
  others = word_others ws i m;
}

module _ {S : Type 0} where
  -- all slots that a seat holds go home
  abbrev pub give_all : List (ℕ × S) → Act S
  give_all [] = keeps
  give_all (x ∷ xs) = chain gives (give_all xs)

  abbrev pub all_back : List (mathlib.Core.Option.Option S) → List (ℕ × S)
      → List (mathlib.Core.Option.Option S)
  all_back hs [] = hs
  all_back hs (x ∷ xs) = all_back (slice_set hs x.0 (some x.1)) xs

  pub valid_give : (hs : List (mathlib.Core.Option.Option S)) (c : List (ℕ × S))
      → Valid hs c (give_all c)
  valid_give hs [] = tt
  valid_give hs (x ∷ xs) = (tt, valid_give (slice_set hs x.0 (some x.1)) xs)

  pub carried_give : (c : List (ℕ × S)) → carried_after c (give_all c) ≡ []
  carried_give [] = refl
  carried_give (x ∷ xs) = carried_give xs

  pub homes_give : (hs : List (mathlib.Core.Option.Option S)) (c : List (ℕ × S))
      → homes_after hs c (give_all c) ≡ all_back hs c
  homes_give hs [] = refl
  homes_give hs (x ∷ xs) = homes_give (slice_set hs x.0 (some x.1)) xs

module _ {P : Type 0} (hs : List (mathlib.Core.Option.Option (Option P))) (k : ℕ) (x : Option P)
  where
    -- the slot of an item and those of its children are back
    pub back_here : (o : Option (ℕ × ℕ)) → is_child o k ≡ false → k < length hs
        → get_elem? (all_back hs ((k, x) ∷ out_of o)) k ≡ some (some x)
    back_here None h less = set_here hs k (some x) less
    back_here (Some pair) h less =
        let n = none_is (Some pair) pair k refl h in
        set_else (slice_set (slice_set hs k (some x)) pair.0 (some None)) pair.1 k (some None)
        (λ e. n.1 (sym e))
        ∙ (set_else (slice_set hs k (some x)) pair.0 k (some None) (λ e. n.0 (sym e))
        ∙ set_here hs k (some x) less)

    pub back_else : (o : Option (ℕ × ℕ)) (j : ℕ) → j ≢ k → is_child o j ≡ false
        → get_elem? (all_back hs ((k, x) ∷ out_of o)) j ≡ get_elem? hs j
    back_else None j ne h = set_else hs k j (some x) ne
    back_else (Some pair) j ne h =
        let n = none_is (Some pair) pair j refl h in
        set_else (slice_set (slice_set hs k (some x)) pair.0 (some None)) pair.1 j (some None)
        (λ e. n.1 (sym e))
        ∙ (set_else (slice_set hs k (some x)) pair.0 j (some None) (λ e. n.0 (sym e))
        ∙ set_else hs k j (some x) ne)
