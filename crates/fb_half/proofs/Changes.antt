-- How the table of a matching changes as a node or a match is added or taken out. A place has the names that pass a
-- test of its element.
use Rattle.std.proofs.Common.{ℕ, ◌≡◌, ◌≢◌, ◌+◌, ◌<◌, ◌≤◌, Bool, true, false, if◌then◌else◌, List, [], ◌∷◌, ◌++◌, length, get_or, arith, refl, sym, ap, ◌∙◌, subst, length-append}
use Rattle.std.proofs.lemmas.List.{get_or_append_left, get_or_default}
use Rattle.std.proofs.Math.Seq.{get_or-append_seam}
use Rattle.std.specs.List.{swap_remove}
use Rattle.fb_half.specs.declared.matches.Standing.{Standing}
use Rattle.fb_half.specs.declared.matches.Standing.TheVariants.{Absent}
use Rattle.fb_half.specs.InternalStandings.{IsTable}
use Rattle.fb_half.proofs.Taken.{last_put, others_stay}
use Rattle.fb_half.proofs.Tables.{table_cut, table_kept, table_pushed, table_swapped}
use Rattle.fb_regions.proofs.Stored.{length-swapped}

abbrev pub has_at : {X : Type 0} → (X → ℕ → Bool) → X → List X → ℕ → ℕ → Bool
has_at test d xs i name = test (get_or xs i d) name

module _ {X : Type 0} (test : X → ℕ → Bool) (d : X) (place other : ℕ → Standing) (injective : (i j : ℕ) → place i ≡ place j → i ≡ j)
    (apart : (i j : ℕ) → place i ≢ other j) (some : (i : ℕ) → Absent ≢ place i) (some_other : (i : ℕ) → Absent ≢ other i) where
  pub pushed : (xs : List X) (x : X) (entry new_entry : ℕ → Standing) → IsTable (length xs) (has_at test d xs) place entry
      → ((name : ℕ) → new_entry name ≡ (if test x name then place (length xs) else entry name))
      → ((name i : ℕ) → test x name ≡ true → entry name ≢ place i)
      → IsTable (length (xs ++ x ∷ [])) (has_at test d (xs ++ x ∷ [])) place new_entry
  pushed xs x entry new_entry table new free =
      subst (λ n. IsTable n (has_at test d (xs ++ x ∷ [])) place new_entry) (sym (length-append xs (x ∷ [])))
      (table_pushed (length xs) (has_at test d xs) (has_at test d (xs ++ x ∷ [])) place entry new_entry (test x) injective table
      (λ i name less. ap (λ y. test y name) (get_or_append_left xs (x ∷ []) d i less))
      (λ name. ap (λ y. test y name) (get_or-append_seam xs x [] d)) new free)

  pub taken_last : (xs : List X) (i : ℕ) (x : X) (entry new_entry : ℕ → Standing) → IsTable (length xs) (has_at test d xs) place entry
      → i < length xs → x ≡ get_or xs i x → length (swap_remove xs i x) ≤ i
      → ((name : ℕ) → new_entry name ≡ (if test x name then Absent else entry name))
      → IsTable (length (swap_remove xs i x)) (has_at test d (swap_remove xs i x)) place new_entry
  taken_last xs i x entry new_entry table less is end new =
      let short = length-swapped xs i x less in
      let last : length (swap_remove xs i x) ≡ i = omega (arith, short) in
      let there : get_or xs (length (swap_remove xs i x)) d ≡ x = ap (λ k. get_or xs k d) last ∙ (get_or_default xs i d x less ∙ sym is) in
      table_cut (length (swap_remove xs i x)) (has_at test d xs) (has_at test d (swap_remove xs i x)) place entry new_entry Absent injective
      (subst (λ n. IsTable n (has_at test d xs) place entry) (sym short) table)
      (λ j name within. ap (λ y. test y name) (others_stay xs i j x d less (omega (arith, last)) (omega (arith, short))))
      (λ name. new name ∙ ap (λ y. if test y name then Absent else entry name) (sym there)) some

  pub taken_swapped : (xs : List X) (i : ℕ) (x moved : X) (entry middle new_entry : ℕ → Standing) → IsTable (length xs) (has_at test d xs) place entry
      → i < length xs → x ≡ get_or xs i x → i < length (swap_remove xs i x) → moved ≡ get_or (swap_remove xs i x) i moved
      → ((name : ℕ) → middle name ≡ (if test x name then Absent else entry name))
      → ((name : ℕ) → new_entry name ≡ (if test moved name then place i else middle name))
      → IsTable (length (swap_remove xs i x)) (has_at test d (swap_remove xs i x)) place new_entry
  taken_swapped xs i x moved entry middle new_entry table less is within is_moved mid new =
      let short = length-swapped xs i x less in
      let before : i + 1 < length xs = omega (arith, short) in
      let here : get_or xs i d ≡ x = get_or_default xs i d x less ∙ sym is in
      let put : get_or (swap_remove xs i x) i d ≡ get_or xs (length (swap_remove xs i x)) d = last_put xs i x d before in
      let there : get_or xs (length (swap_remove xs i x)) d ≡ moved = sym put ∙ (get_or_default (swap_remove xs i x) i d moved within ∙ sym is_moved) in
      table_swapped (length (swap_remove xs i x)) i (has_at test d xs) (has_at test d (swap_remove xs i x)) place entry middle new_entry Absent injective
      (subst (λ n. IsTable n (has_at test d xs) place entry) (sym short) table) within
      (λ j name differ below. ap (λ y. test y name) (others_stay xs i j x d less differ (omega (arith, short))))
      (λ name. ap (λ y. test y name) put)
      (λ name. mid name ∙ ap (λ y. if test y name then Absent else entry name) (sym here))
      (λ name. new name ∙ ap (λ y. if test y name then place i else middle name) (sym there)) some

  -- the entries of a place are those of its element's names
  entered_at : (xs : List X) (i : ℕ) (x : X) (entry : ℕ → Standing) → IsTable (length xs) (has_at test d xs) place entry → i < length xs
      → get_or xs i d ≡ x → (name : ℕ) → test x name ≡ true → entry name ≡ place i
  entered_at xs i x entry table less here name h = table.entered name i less (ap (λ y. test y name) here ∙ h)

  -- the other list's table stays
  pub kept_cut : (count : ℕ) (has : ℕ → ℕ → Bool) (xs : List X) (i : ℕ) (x : X) (entry new_entry : ℕ → Standing)
      → IsTable (length xs) (has_at test d xs) place entry → IsTable count has other entry → i < length xs → x ≡ get_or xs i x
      → ((name : ℕ) → new_entry name ≡ (if test x name then Absent else entry name)) → IsTable count has other new_entry
  kept_cut count has xs i x entry new_entry table others less is new =
      table_kept count has other entry new_entry (test x) Absent others new some_other
      (λ name j h e. apart i j (sym (entered_at xs i x entry table less (get_or_default xs i d x less ∙ sym is) name h) ∙ e))

  pub kept_swapped : (count : ℕ) (has : ℕ → ℕ → Bool) (xs : List X) (i : ℕ) (x moved : X) (entry middle new_entry : ℕ → Standing)
      → IsTable (length xs) (has_at test d xs) place entry → IsTable count has other entry → i < length xs → x ≡ get_or xs i x
      → i < length (swap_remove xs i x) → moved ≡ get_or (swap_remove xs i x) i moved
      → ((name : ℕ) → middle name ≡ (if test x name then Absent else entry name))
      → ((name : ℕ) → new_entry name ≡ (if test moved name then place i else middle name)) → IsTable count has other new_entry
  kept_swapped count has xs i x moved entry middle new_entry table others less is within is_moved mid new =
      table_kept count has other middle new_entry (test moved) (place i) (kept_cut count has xs i x entry middle table others less is mid) new (apart i)
      (λ name j h e. by_cases name j h e (test x name) refl)
    where
      by_cases : (name j : ℕ) → test moved name ≡ true → middle name ≡ other j → (b : Bool) → test x name ≡ b → ⊥
      by_cases name j h e true was = some_other j (sym (mid name ∙ ap (λ b. if b then Absent else entry name) was) ∙ e)
      by_cases name j h e false was =
          let short = length-swapped xs i x less in
          let before : i + 1 < length xs = omega (arith, short) in
          let there : get_or xs (length (swap_remove xs i x)) d ≡ moved =
          sym (last_put xs i x d before) ∙ (get_or_default (swap_remove xs i x) i d moved within ∙ sym is_moved) in
          apart (length (swap_remove xs i x)) j
          (sym (entered_at xs (length (swap_remove xs i x)) moved entry table (omega (arith, short)) there name h)
          ∙ (sym (mid name ∙ ap (λ b. if b then Absent else entry name) was) ∙ e))
