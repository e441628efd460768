-- How a text falls into lines, one line at a time and in two pieces.
use Rattle.std.proofs.Common.{◌≡◌, ℕ, suc, ◌-◌, ◌<◌, true, false, ◌||◌, eqb, List, [], ◌∷◌, ◌++◌, length, get_or, take, refl, sym, ap, subst, ◌∙◌, inl, inr, ◌⊎◌, arith}
use Rattle.std.proofs.lemmas.Bool.{or_parts, eq-eqb, ne_eqb, eqb-true, cases_Bool, or_right}
use Rattle.std.proofs.lemmas.List.{append-nil}
use Rattle.std.proofs.lemmas.List.Folds.{list_any-append}
use Rattle.fb_records.specs.Lines.{holds, onto_first_part, whole_parts, last_part, without_return, after_line}

-- ---- one part

pub whole_parts_none : (s : ℕ) (p : List ℕ) → holds s p ≡ false → whole_parts s p ≡ []
whole_parts_none s [] h = refl
whole_parts_none s (b ∷ p) h =
    let o = or_parts (eqb b s) (holds s p) h in
    rw (o.0, whole_parts_none s p o.1) refl

pub last_part_none : (s : ℕ) (p : List ℕ) → holds s p ≡ false → last_part s p ≡ p
last_part_none s [] h = refl
last_part_none s (b ∷ p) h = rw h refl

pub whole_parts_one : (s : ℕ) (p more : List ℕ) → holds s p ≡ false → whole_parts s (p ++ s ∷ more) ≡ p ∷ whole_parts s more
whole_parts_one s [] more h = rw (eq-eqb s s refl) refl
whole_parts_one s (b ∷ p) more h =
    let o = or_parts (eqb b s) (holds s p) h in
    rw (o.0, whole_parts_one s p more o.1) refl

holds_after : (s : ℕ) (p more : List ℕ) → holds s (p ++ s ∷ more) ≡ true
holds_after s [] more = rw (eq-eqb s s refl) refl
holds_after s (b ∷ p) more = or_right (eqb b s) _ (holds_after s p more)

holds_here : (s b : ℕ) (bytes : List ℕ) → eqb b s ≡ true → holds s (b ∷ bytes) ≡ true
holds_here s b bytes e = rw e refl

last_part_skip : (s b : ℕ) (bytes : List ℕ) → holds s (b ∷ bytes) ≡ true → last_part s (b ∷ bytes) ≡ last_part s bytes
last_part_skip s b bytes h = rw h refl

pub last_part_one : (s : ℕ) (p more : List ℕ) → last_part s (p ++ s ∷ more) ≡ last_part s more
last_part_one s [] more = last_part_skip s s more (holds_after s [] more)
last_part_one s (b ∷ p) more = last_part_skip s b (p ++ s ∷ more) (holds_after s (b ∷ p) more) ∙ last_part_one s p more

pub after_line_one : (p more : List ℕ) → holds 10 p ≡ false → after_line (p ++ 10 ∷ more) ≡ more
after_line_one [] more h = refl
after_line_one (b ∷ p) more h =
    let o = or_parts (eqb b 10) (holds 10 p) h in
    rw (o.0) (after_line_one p more o.1)

pub after_line_none : (p : List ℕ) → holds 10 p ≡ false → after_line p ≡ []
after_line_none [] h = refl
after_line_none (b ∷ p) h =
    let o = or_parts (eqb b 10) (holds 10 p) h in
    rw (o.0) (after_line_none p o.1)

-- ---- two pieces

-- whether the separator comes, and what stands before and after the first one
pub data Splits (s : ℕ) : List ℕ → Type 0 where
  without : (p : List ℕ) → holds s p ≡ false → Splits s p
  within : (p more : List ℕ) → holds s p ≡ false → Splits s (p ++ s ∷ more)

pub splits : (s : ℕ) (bytes : List ℕ) → Splits s bytes
splits s [] = without [] refl
splits s (b ∷ bytes) = elim (cases_Bool (eqb b s)) [
  | inl e ↦ let b-is : s ≡ b = sym (eqb-true b s e) in subst (λ (x : ℕ). Splits s (x ∷ bytes)) b-is (within [] bytes refl)
  | inr e ↦ elim (splits s bytes) as (λ (bs : List ℕ) _. Splits s (b ∷ bs)) [
    | without p h ↦ without (b ∷ p) (rw (e, h) refl)
    | within p more h ↦ within (b ∷ p) more (rw (e, h) refl)
  ]
]

holds_append : (s : ℕ) (a b : List ℕ) → holds s (a ++ b) ≡ (holds s a || holds s b)
holds_append s a b = list_any-append (λ c. eqb c s) a b

-- two pieces without the separator
pub holds_none : (s : ℕ) (a b : List ℕ) → holds s a ≡ false → holds s b ≡ false → holds s (a ++ b) ≡ false
holds_none s a b ha hb = rw (holds_append s a b, ha, hb) refl

-- the parts of two pieces: those of the first, and those of what it left and the second
pub record PartsOf (s : ℕ) (a b : List ℕ) : Type 0 where
  pub whole : whole_parts s (a ++ b) ≡ whole_parts s a ++ whole_parts s (last_part s a ++ b)
  pub last : last_part s (a ++ b) ≡ last_part s (last_part s a ++ b)

at_separator : (s : ℕ) (a b : List ℕ) → PartsOf s a b → PartsOf s (s ∷ a) b
at_separator s a b p = let e = eq-eqb s s refl in record {
  whole = rw e (ap (λ (ps : List (List ℕ)). [] ∷ ps) p.whole);
  last = rw (last_part_skip s s a (holds_here s s a e), last_part_skip s s (a ++ b) (holds_here s s (a ++ b) e)) p.last;
}

-- some part ends where the separator comes
whole_parts_some : (s : ℕ) (bytes : List ℕ) → holds s bytes ≡ true → (part : List ℕ) × (parts : List (List ℕ)) × (whole_parts s bytes ≡ part ∷ parts)
whole_parts_some s [] h = absurd cc
whole_parts_some s (b ∷ bytes) h = elim (cases_Bool (eqb b s)) [
  | inl e ↦ ([], whole_parts s bytes, rw e refl)
  | inr e ↦ let some = whole_parts_some s bytes (rw e at h) in (b ∷ some.0, some.1, rw (e, some.2) refl)
]

onto_first_append : (x : ℕ) (part : List ℕ) (parts more all : List (List ℕ)) → all ≡ part ∷ parts → onto_first_part x (all ++ more) ≡ onto_first_part x all ++ more
onto_first_append x part parts more all e = rw e refl

holds_tail : (s x : ℕ) (a : List ℕ) → eqb x s ≡ false → holds s (x ∷ a) ≡ holds s a
holds_tail s x a e = rw e refl

whole_parts_tail : (s x : ℕ) (a : List ℕ) → eqb x s ≡ false → whole_parts s (x ∷ a) ≡ onto_first_part x (whole_parts s a)
whole_parts_tail s x a e = rw e refl

holds_more : (s : ℕ) (a b : List ℕ) → holds s a ≡ true → holds s (a ++ b) ≡ true
holds_more s a b h = rw (holds_append s a b, h) refl

before_separator : (s x : ℕ) (a b : List ℕ) → eqb x s ≡ false → holds s a ≡ true → PartsOf s a b → PartsOf s (x ∷ a) b
before_separator s x a b e h p =
    let skip = last_part_skip s x a (holds_tail s x a e ∙ h) in
    let skip_all = last_part_skip s x (a ++ b) (holds_tail s x (a ++ b) e ∙ holds_more s a b h) in
    let some = whole_parts_some s a h in
    record {
      whole = whole_parts_tail s x (a ++ b) e ∙ ap (onto_first_part x) p.whole
          ∙ onto_first_append x some.0 some.1 (whole_parts s (last_part s a ++ b)) (whole_parts s a) some.2
          ∙ sym (rw (skip, whole_parts_tail s x a e) refl);
      last = skip_all ∙ p.last ∙ ap (λ (l : List ℕ). last_part s (l ++ b)) (sym skip);
    }

before_none : (s x : ℕ) (a b : List ℕ) → holds s (x ∷ a) ≡ false → PartsOf s (x ∷ a) b
before_none s x a b h =
    let none = whole_parts_none s (x ∷ a) h in
    let all = last_part_none s (x ∷ a) h in
    record {
      whole = sym (ap (λ (ps : List (List ℕ)). ps ++ whole_parts s (last_part s (x ∷ a) ++ b)) none ∙ ap (λ (l : List ℕ). whole_parts s (l ++ b)) all);
      last = sym (ap (λ (l : List ℕ). last_part s (l ++ b)) all);
    }

pub parts_of : (s : ℕ) (a b : List ℕ) → PartsOf s a b
parts_of s [] b = record { whole = refl; last = refl }
parts_of s (x ∷ a) b = elim (cases_Bool (eqb x s)) [
  | inl e ↦ let x-is : s ≡ x = sym (eqb-true x s e) in subst (λ (y : ℕ). PartsOf s (y ∷ a) b) x-is (at_separator s a b (parts_of s a b))
  | inr e ↦ elim (cases_Bool (holds s a)) [
    | inl h ↦ before_separator s x a b e h (parts_of s a b)
    | inr h ↦ before_none s x a b (holds_tail s x a e ∙ h)
  ]
]

-- what stands after the last separator has none
pub holds_last : (s : ℕ) (bytes : List ℕ) → holds s (last_part s bytes) ≡ false
holds_last s [] = refl
holds_last s (b ∷ bytes) = elim (cases_Bool (holds s (b ∷ bytes))) [
  | inl h ↦ rw (last_part_skip s b bytes h) (holds_last s bytes)
  | inr h ↦ rw (last_part_none s (b ∷ bytes) h) h
]

-- ---- carriage returns

-- only the last byte is dropped, so what stands before it stays
pub without_return_append : (a b : List ℕ) → (more : List ℕ) × (without_return (a ++ b) ≡ without_return a ++ more)
without_return_append [] b = (without_return b, refl)
without_return_append (x ∷ []) [] = ([], sym (append-nil (without_return (x ∷ []))))
without_return_append (x ∷ []) (y ∷ b) = elim (cases_Bool (eqb x 13)) [
  | inl e ↦ (x ∷ without_return (y ∷ b), rw e refl)
  | inr e ↦ (without_return (y ∷ b), rw e refl)
]
without_return_append (x ∷ y ∷ a) b =
    let more = without_return_append (y ∷ a) b in
    (more.0, ap (λ (l : List ℕ). x ∷ l) more.1)

pub without_return_end : (a : List ℕ) → without_return (a ++ 13 ∷ []) ≡ a
without_return_end [] = refl
without_return_end (x ∷ []) = refl
without_return_end (x ∷ y ∷ a) = ap (λ (l : List ℕ). x ∷ l) (without_return_end (y ∷ a))

-- a byte that is no carriage return, or that isn't the last, stays
pub without_return_at : (a b : List ℕ) (x : ℕ) → (eqb x 13 ≡ false) ⊎ ((y : ℕ) × (c : List ℕ) × (b ≡ y ∷ c)) → (more : List ℕ) × (without_return (a ++ x ∷ b) ≡ a ++ x ∷ more)
without_return_at [] [] x (inl e) = ([], rw e refl)
without_return_at [] [] x (inr some) = absurd cc
without_return_at [] (y ∷ b) x h = (without_return (y ∷ b), refl)
without_return_at (z ∷ []) b x h =
    let more = without_return_at [] b x h in
    (more.0, ap (λ (l : List ℕ). z ∷ l) more.1)
without_return_at (z ∷ y ∷ a) b x h =
    let more = without_return_at (y ∷ a) b x h in
    (more.0, ap (λ (l : List ℕ). z ∷ l) more.1)

pub return_dropped : (line : List ℕ) → 0 < length line → get_or line (length line - 1) 0 ≡ 13 → take (length line - 1) line ≡ without_return line
return_dropped [] some e = absurd (omega arith)
return_dropped (x ∷ []) some e = rw (eq-eqb x 13 e) refl
return_dropped (x ∷ y ∷ line) some e =
    let len : length (x ∷ y ∷ line) - 1 ≡ suc (length (y ∷ line) - 1) = omega arith in
    ap (λ (k : ℕ). take k (x ∷ y ∷ line)) len
    ∙ ap (λ (l : List ℕ). x ∷ l) (return_dropped (y ∷ line) (omega arith) (sym (ap (λ (k : ℕ). get_or (x ∷ y ∷ line) k 0) len) ∙ e))

pub return_kept : (line : List ℕ) → (0 < length line → get_or line (length line - 1) 0 ≡ 13 → ⊥) → line ≡ without_return line
return_kept [] h = refl
return_kept (x ∷ []) h = rw (ne_eqb x 13 (λ (e : x ≡ 13). h (omega arith) e)) refl
return_kept (x ∷ y ∷ line) h =
    let len : length (x ∷ y ∷ line) - 1 ≡ suc (length (y ∷ line) - 1) = omega arith in
    ap (λ (l : List ℕ). x ∷ l) (return_kept (y ∷ line) (λ some e. h (omega arith) (ap (λ (k : ℕ). get_or (x ∷ y ∷ line) k 0) len ∙ e)))
