-- A text that is put piece by piece.
use Rattle.std.specs.Prelude.{replicate, if◌then◌else◌}
use Rattle.std.proofs.Common.{◌≡◌, ℕ, suc, ◌+◌, ◌-◌, ◌/◌, ◌%◌, ◌<◌, ◌≤◌, Bool, true, false, List, [], ◌∷◌, ◌++◌, Option, length, get_or, drop, map, codes, decimal, refl, sym, ap, subst, ◌∙◌, append_assoc, append-nil, arith}
use Rattle.std.specs.List.{flat_map}
use Rattle.std.proofs.lemmas.Bool.{eq-eqb, ne_eqb}
use Rattle.std.proofs.KnownBytes.{Appends-trans, Appends-nil}
use Rattle.std.proofs.lemmas.List.{drop_more, drop_all}
use Rattle.fb_ports.specs.Causes.{Appends, AppendsPrefix}
use Rattle.fb_ports.proofs.Onward.{prefix_within}
use Rattle.fb_shots_stim.specs.CodedShots.{ones_from, with_bit, bytes_from, with_commas, coded_hits, run_of, runs_from}
use Rattle.fb_predict.specs.InternalRests.{HasTaken, rest_01, rest_dets, more_hits, rest_hits}

-- one more piece was put
pub taken_more : (a b c : Option (List ℕ)) (text rest piece left : List ℕ) → HasTaken a b text rest → rest ≡ piece ++ left → Appends b c piece → HasTaken a c text left
taken_more a b c text rest piece left h e p = record {
  taken = h.taken ++ piece;
  all = h.all ∙ ap (λ l. h.taken ++ l) e ∙ sym (append_assoc h.taken piece left);
  appends = Appends-trans a b c _ _ h.appends p;
}

-- a put of one more piece stopped midway
pub taken_prefix : (a b c : Option (List ℕ)) (text rest piece left : List ℕ) → HasTaken a b text rest → rest ≡ piece ++ left → AppendsPrefix b c piece → AppendsPrefix a c text
taken_prefix a b c text rest piece left h e p =
    prefix_within a b c h.taken piece left text h.appends p (h.all ∙ ap (λ l. h.taken ++ l) e ∙ sym (append_assoc h.taken piece left))

-- the last piece was put
pub taken_last : (a b c : Option (List ℕ)) (text rest piece : List ℕ) → HasTaken a b text rest → rest ≡ piece → Appends b c piece → Appends a c text
taken_last a b c text rest piece h e p = subst (Appends a c) (sym (h.all ∙ ap (λ l. h.taken ++ l) e)) (Appends-trans a b c _ _ h.appends p)

-- nothing was put yet
pub taken_none : (a : Option (List ℕ)) (text : List ℕ) → HasTaken a a text text
taken_none a text = record { taken = []; all = refl; appends = Appends-nil a }

-- ---- runs of zeros

pub run_long : (zeros : ℕ) → 255 ≤ zeros → run_of zeros ≡ (255 ∷ []) ++ run_of (zeros - 255)
run_long zeros le =
    let q : zeros / 255 ≡ suc ((zeros - 255) / 255) = omega arith in
    let r : zeros % 255 ≡ (zeros - 255) % 255 = omega arith in
    ap (λ (k : ℕ). replicate k 255 ++ (zeros % 255) ∷ []) q ∙ ap (λ (k : ℕ). 255 ∷ (replicate ((zeros - 255) / 255) 255 ++ k ∷ [])) r

pub run_short : (zeros : ℕ) → zeros < 255 → run_of zeros ≡ zeros ∷ []
run_short zeros lt =
    ap (λ (k : ℕ). replicate k 255 ++ (zeros % 255) ∷ []) (let e : zeros / 255 ≡ 0 = omega arith in e) ∙ ap (λ (k : ℕ). k ∷ []) (let e : zeros % 255 ≡ zeros = omega arith in e)

-- ---- bits

pub next_01 : (bits : List Bool) (i : ℕ) (d : Bool) (piece : List ℕ) → i < length bits → piece ≡ (if get_or bits i d then 49 else 48) ∷ [] → rest_01 (drop i bits) ≡ piece ++ rest_01 (drop (i + 1) bits)
next_01 bits i d piece lt e = ap rest_01 (drop_more bits i d lt) ∙ ap (λ (l : List ℕ). l ++ rest_01 (drop (i + 1) bits)) (sym e)

pub end_01 : (bits : List Bool) (i : ℕ) → length bits ≤ i → rest_01 (drop i bits) ≡ 10 ∷ []
end_01 bits i le = ap rest_01 (drop_all i bits le)

next_bit : (bits : List Bool) (i : ℕ) (d bit : Bool) → i < length bits → get_or bits i d ≡ bit → drop i bits ≡ bit ∷ drop (i + 1) bits
next_bit bits i d bit lt e = drop_more bits i d lt ∙ ap (λ (b : Bool). b ∷ drop (i + 1) bits) e

pub next_set : (bits : List Bool) (i zeros : ℕ) (d : Bool) → i < length bits → get_or bits i d ≡ true → runs_from zeros (drop i bits) ≡ run_of zeros ++ runs_from 0 (drop (i + 1) bits)
next_set bits i zeros d lt e = ap (runs_from zeros) (next_bit bits i d true lt e)

pub next_unset : (bits : List Bool) (i zeros : ℕ) (d : Bool) → i < length bits → get_or bits i d ≡ false → runs_from zeros (drop i bits) ≡ runs_from (zeros + 1) (drop (i + 1) bits)
next_unset bits i zeros d lt e = ap (runs_from zeros) (next_bit bits i d false lt e)

pub end_r8 : (bits : List Bool) (i zeros : ℕ) → length bits ≤ i → runs_from zeros (drop i bits) ≡ run_of zeros
end_r8 bits i zeros le = ap (runs_from zeros) (drop_all i bits le)

-- the rest is said otherwise
pub taken_as : (a b : Option (List ℕ)) (text rest left : List ℕ) → HasTaken a b text rest → rest ≡ left → HasTaken a b text left
taken_as a b text rest left h e = subst (HasTaken a b text) e h

-- a put of the last piece stopped midway
pub taken_last_prefix : (a b c : Option (List ℕ)) (text rest piece : List ℕ) → HasTaken a b text rest → rest ≡ piece → AppendsPrefix b c piece → AppendsPrefix a c text
taken_last_prefix a b c text rest piece h e p = taken_prefix a b c text rest piece [] h (e ∙ sym (append-nil piece)) p

-- ---- bytes

pub next_byte : (bits : List Bool) (i byte place value : ℕ) (d : Bool) → i < length bits → place ≡ 7 → value ≡ with_bit byte place (get_or bits i d)
    → bytes_from byte place (drop i bits) ≡ (value ∷ []) ++ bytes_from 0 0 (drop (i + 1) bits)
next_byte bits i byte place value d lt e v = ap (bytes_from byte place) (drop_more bits i d lt) ∙ rw (eq-eqb place 7 e, v) refl

pub next_place : (bits : List Bool) (i byte place value : ℕ) (d : Bool) → i < length bits → (place ≡ 7 → ⊥) → value ≡ with_bit byte place (get_or bits i d)
    → bytes_from byte place (drop i bits) ≡ bytes_from value (place + 1) (drop (i + 1) bits)
next_place bits i byte place value d lt ne v = ap (bytes_from byte place) (drop_more bits i d lt) ∙ rw (ne_eqb place 7 ne, v) refl

pub end_none : (bits : List Bool) (i byte place : ℕ) → length bits ≤ i → place ≡ 0 → bytes_from byte place (drop i bits) ≡ []
end_none bits i byte place le e = ap (bytes_from byte place) (drop_all i bits le) ∙ rw (eq-eqb place 0 e) refl

pub end_byte : (bits : List Bool) (i byte place : ℕ) → length bits ≤ i → (place ≡ 0 → ⊥) → bytes_from byte place (drop i bits) ≡ byte ∷ []
end_byte bits i byte place le ne = ap (bytes_from byte place) (drop_all i bits le) ∙ rw (ne_eqb place 0 ne) refl

pub taken_nothing : (a b : Option (List ℕ)) (text rest : List ℕ) → HasTaken a b text rest → rest ≡ [] → Appends a b text
taken_nothing a b text rest h e = subst (Appends a b) (sym (h.all ∙ ap (λ l. h.taken ++ l) e ∙ append-nil h.taken)) h.appends

-- ---- words

pub next_word : (bits : List Bool) (i : ℕ) (d : Bool) → i < length bits → get_or bits i d ≡ true
    → rest_dets i (drop i bits) ≡ (codes " L" ++ (decimal i ++ [])) ++ rest_dets (i + 1) (drop (i + 1) bits)
next_word bits i d lt e =
    ap (rest_dets i) (next_bit bits i d true lt e)
    ∙ append_assoc (codes " L" ++ decimal i) (flat_map (λ k. codes " L" ++ decimal k) (ones_from (i + 1) (drop (i + 1) bits))) (10 ∷ [])
    ∙ ap (λ (l : List ℕ). (codes " L" ++ l) ++ rest_dets (i + 1) (drop (i + 1) bits)) (sym (append-nil (decimal i)))

pub next_none : (bits : List Bool) (i : ℕ) (d : Bool) → i < length bits → get_or bits i d ≡ false → rest_dets i (drop i bits) ≡ rest_dets (i + 1) (drop (i + 1) bits)
next_none bits i d lt e = ap (rest_dets i) (next_bit bits i d false lt e)

pub end_dets : (bits : List Bool) (i : ℕ) → length bits ≤ i → rest_dets i (drop i bits) ≡ 10 ∷ []
end_dets bits i le = ap (rest_dets i) (drop_all i bits le)

-- ---- hits

after_word : (word : List ℕ) (words : List (List ℕ)) → with_commas (word ∷ words) ≡ word ++ more_hits true words
after_word word [] = sym (append-nil word)
after_word word (next ∷ words) = refl

hit_more : (any : Bool) (word : List ℕ) (words : List (List ℕ)) (piece : List ℕ) → piece ≡ (if any then 44 ∷ [] else [])
    → more_hits any (word ∷ words) ++ 10 ∷ [] ≡ (piece ++ (word ++ [])) ++ (more_hits true words ++ 10 ∷ [])
hit_more any word words piece e = rw e (by_any any word words) where
  here : (word : List ℕ) (words : List (List ℕ)) → with_commas (word ∷ words) ++ 10 ∷ [] ≡ (word ++ []) ++ (more_hits true words ++ 10 ∷ [])
  here word words =
      ap (λ (l : List ℕ). l ++ 10 ∷ []) (after_word word words) ∙ append_assoc word (more_hits true words) (10 ∷ [])
      ∙ ap (λ (l : List ℕ). l ++ (more_hits true words ++ 10 ∷ [])) (sym (append-nil word))

  by_any : (any : Bool) (word : List ℕ) (words : List (List ℕ))
      → more_hits any (word ∷ words) ++ 10 ∷ [] ≡ ((if any then 44 ∷ [] else []) ++ (word ++ [])) ++ (more_hits true words ++ 10 ∷ [])
  by_any false word words = here word words
  by_any true word words = ap (λ (l : List ℕ). 44 ∷ l) (here word words)

pub next_hit : (bits : List Bool) (i : ℕ) (d any : Bool) (piece : List ℕ) → i < length bits → get_or bits i d ≡ true → piece ≡ (if any then 44 ∷ [] else [])
    → rest_hits any i (drop i bits) ≡ (piece ++ (decimal i ++ [])) ++ rest_hits true (i + 1) (drop (i + 1) bits)
next_hit bits i d any piece lt e p =
    ap (rest_hits any i) (next_bit bits i d true lt e) ∙ hit_more any (decimal i) (map decimal (ones_from (i + 1) (drop (i + 1) bits))) piece p

pub no_hit : (bits : List Bool) (i : ℕ) (d any : Bool) → i < length bits → get_or bits i d ≡ false → rest_hits any i (drop i bits) ≡ rest_hits any (i + 1) (drop (i + 1) bits)
no_hit bits i d any lt e = ap (rest_hits any i) (next_bit bits i d false lt e)

pub end_hits : (bits : List Bool) (i : ℕ) (any : Bool) → length bits ≤ i → rest_hits any i (drop i bits) ≡ 10 ∷ []
end_hits bits i any le = ap (rest_hits any i) (drop_all i bits le)

pub start_hits : (bits : List Bool) → rest_hits false 0 bits ≡ coded_hits bits
start_hits bits = ap (λ (l : List ℕ). l ++ 10 ∷ []) (none_before (map decimal (ones_from 0 bits))) where
  none_before : (words : List (List ℕ)) → more_hits false words ≡ with_commas words
  none_before [] = refl
  none_before (word ∷ words) = refl
