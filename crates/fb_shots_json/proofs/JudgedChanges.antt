-- What is known of erased edges and pairs that are not refused.
use Rattle.std.proofs.Common.{◌≡◌, ℕ, ◌<◌, ◌≤◌, ◌%◌, Bool, true, false, if◌then◌else◌, List, [], ◌∷◌, map, get_or, All, Option, Some, None, Ok, refl, sym, ap, subst, ◌∙◌, arith}
use Rattle.std.specs.Prelude.{codes, ℤ, pos, negsuc, neg_ℤ, int_lt, nat_eq, unsigned_abs}
use Rattle.std.specs.Option.{option_or}
use Rattle.std.proofs.lemmas.Bool.{leb-false, ltb-false}
use Rattle.std.proofs.lemmas.Bool.Decides.{nat_tests}
use Rattle.std.proofs.lemmas.List.Elements.{All-append, All-cons, All-map}
use Rattle.serde_json.specs.Data.{Data}
use Rattle.serde_json.specs.Find.{get}
use Rattle.fb_json.specs.JsonText.{natural_of}
use Rattle.fb_graph.specs.Limits.{IsChange, most_weight}
use Rattle.fb_shots_json.specs.declared.answer.Kind.{Kind}
use Rattle.fb_shots_json.specs.TextJson.{changes_fault, changes_in, entries_in, erasure_fault, first_fault, last_changes, listed_changes, pair_fault, pair_of}

or_none : (a b : Option Kind) → option_or a b ≡ None → (a ≡ None) × (b ≡ None)
or_none None b e = (refl, e)
or_none (Some kind) b e = absurd cc

passes : (b : Bool) (kind : Kind) (o : Option Kind) → (if b then Some kind else o) ≡ None → (b ≡ false) × (o ≡ None)
passes true kind o e = absurd cc
passes false kind o e = (refl, e)

none_refused : {A : Type 0} (fault : A → Option Kind) (xs : List A) → first_fault fault xs ≡ None → All (λ x. fault x ≡ None) xs
none_refused fault [] e = λ k d less. absurd (omega arith)
none_refused fault (x ∷ xs) e =
    let both = or_none (fault x) (first_fault fault xs) e in
    All-cons (λ y. fault y ≡ None) x xs both.0 (none_refused fault xs both.1)

erasure_good : (n e : ℕ) → erasure_fault n e ≡ None → e < n
erasure_good n e none = leb-false n e (passes _ _ _ none).0

light : (w : ℤ) → int_lt (pos most_weight) w ≡ false → int_lt w (neg_ℤ (pos most_weight)) ≡ false → unsigned_abs w ≤ most_weight
light (pos w) few many = ltb-false most_weight w few
light (negsuc w) few many = omega (arith, ltb-false 1073741823 w many)

pair_good : (n : ℕ) (pair : ℕ × ℤ) → pair_fault n pair ≡ None → IsChange n pair
pair_good n pair none =
    let within = passes _ _ _ none in
    let even = passes _ _ _ within.1 in
    let few = passes _ _ _ even.1 in
    let many = passes _ _ _ few.1 in
    let whole : nat_eq (unsigned_abs pair.1 % 2) 1 ≡ false = even.0 in
    record {
      within = leb-false n pair.0 within.0;
      even = grind (arith, nat_tests, whole);
      light = light pair.1 few.0 many.0;
    }

module _ (n : ℕ) (erasures : List ℕ) (pairs : List (ℕ × ℤ)) (none : changes_fault n erasures pairs ≡ None) where
  both : (first_fault (erasure_fault n) erasures ≡ None) × (first_fault (pair_fault n) pairs ≡ None)
  both = or_none (first_fault (erasure_fault n) erasures) (first_fault (pair_fault n) pairs) none

  pub erasures_good : All (λ e. e < n) erasures
  erasures_good k d less = erasure_good n (get_or erasures k d) (none_refused (erasure_fault n) erasures both.0 k d less)

  pub pairs_good : All (IsChange n) pairs
  pairs_good k d less = pair_good n (get_or pairs k d) (none_refused (pair_fault n) pairs both.1 k d less)

  pub listed_good : All (IsChange n) (listed_changes erasures pairs)
  listed_good =
      All-append (IsChange n) pairs (map (λ e. (e, pos 0)) erasures) pairs_good
      (All-map (IsChange n) (λ e. (e, pos 0)) erasures
      (λ k d less. record { within = erasures_good k d less; even = refl; light = omega arith }))

-- what a value says whose members list these, by the changes that are kept of those listed
pub changes_known : (n : ℕ) (d : Data) (erasures : List ℕ) (pairs : List (ℕ × ℤ)) (listed kept : List (ℕ × ℤ))
    → entries_in natural_of (get (codes "erasures") d) ≡ Some erasures → entries_in pair_of (get (codes "dynamic_weights") d) ≡ Some pairs
    → changes_fault n erasures pairs ≡ None → listed ≡ listed_changes erasures pairs
    → ((m : ℕ) → All (λ c. c.0 < m) listed → kept ≡ last_changes m listed) → changes_in n d ≡ Ok kept
changes_known n d erasures pairs listed kept are_erasures are_pairs none is last =
    let each : All (IsChange n) listed = subst (All (IsChange n)) (sym is) (listed_good n erasures pairs none) in
    rw (are_erasures, are_pairs, none) (ap (λ l. Ok (last_changes n l)) (sym is) ∙ ap (λ l. Ok l) (sym (last n (λ k d less. (each k d less).within))))
