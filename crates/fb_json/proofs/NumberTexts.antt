-- What the text of a number writes.
use Rattle.std.proofs.Common.{◌≡◌, ℕ, ◌<◌, ◌^◌, ◌==◌, ◌∙◌, List, ◌∷◌, length, get_or, drop, ℤ, true, false, Option, Some, None, sym, ap, subst, lt-ltb}
use Rattle.std.specs.Prelude.{IfSome}
use Rattle.std.specs.Option.{SomeIff}
use Rattle.json.specs.Token.{Token}
use Rattle.json.specs.Json.{value}
use Rattle.json.proofs.Grammar.{value_is}
use Rattle.fast_float.specs.Text.{Parts, scan, digits_of, IsInteger}
use Rattle.serde_json.specs.Data.{Num, unsigned, number}
use Rattle.serde_json.specs.Find.{of_integer}
use Rattle.serde_json.specs.Read.{number_of, number_from, of_json, converted}
use Rattle.fb_json.specs.NumberTokens.{Begins}

pub begins_by_number : (depth : ℕ) (s : List ℕ) (rest : List Token) (n : Num) → number_of s ≡ Some n
    → Begins depth (Token.number s ∷ rest) (number n) rest
begins_by_number depth s rest n e = ap (converted of_json) (value_is depth (Token.number s ∷ rest)) ∙ rw e

pub number_from-unsigned : (p : Parts) → IsInteger p → digits_of p < 2 ^ 64 → number_from false p ≡ Some (unsigned (digits_of p))
number_from-unsigned p h fits = rw (lt-ltb 0 (length p.whole) h.0, h.1, h.2, lt-ltb (digits_of p) (2 ^ 64) fits)

pub number_of-plain : (s : List ℕ) → (get_or s 0 0 == 45) ≡ false → number_of s ≡ number_from false (scan s)
unfolding number_of
number_of-plain s e = rw e

pub number_of-signed : (s : List ℕ) → (get_or s 0 0 == 45) ≡ true → number_of s ≡ number_from true (scan (drop 1 s))
unfolding number_of
number_of-signed s e = rw e

pub natural_by : (s : List ℕ) (p : Parts) → (get_or s 0 0 == 45) ≡ false → p ≡ scan s → (o : Option ℕ)
    → SomeIff o (IsInteger p × (digits_of p < 2 ^ 64)) (digits_of p) → IfSome o (λ n. number_of s ≡ Some (unsigned n))
natural_by s p plain is None h = tt
natural_by s p plain is (Some n) h =
    number_of-plain s plain ∙ ap (number_from false) (sym is) ∙ number_from-unsigned p h.0.0 h.0.1 ∙ ap (λ k. Some (unsigned k)) (sym h.1)

-- what a number's text writes is the value with which tokens begin by it
pub begins_if : {A : Type 0} (as_num : A → Num) (s : List ℕ) (ts rest : List Token) → ts ≡ Token.number s ∷ rest → (o : Option A)
    → IfSome o (λ n. number_of s ≡ Some (as_num n)) → IfSome o (λ n. (depth : ℕ) → Begins depth ts (number (as_num n)) rest)
begins_if as_num s ts rest is None h = tt
begins_if as_num s ts rest is (Some n) h = λ depth. ap (λ t. converted of_json (value depth t)) is ∙ begins_by_number depth s rest (as_num n) h

pub signed_by : (s : List ℕ) (digits : List ℕ) → (get_or s 0 0 == 45) ≡ true → digits ≡ drop 1 s → (o : Option ℤ)
    → IfSome o (λ n. number_from true (scan digits) ≡ Some (of_integer n)) → IfSome o (λ n. number_of s ≡ Some (of_integer n))
signed_by s digits signed is None h = tt
signed_by s digits signed is (Some n) h = number_of-signed s signed ∙ ap (λ d. number_from true (scan d)) (sym is) ∙ h

pub natural_read : (s : List ℕ) (p : Parts) → (get_or s 0 0 == 45) ≡ false → p ≡ scan s → (o : Option ℕ) (n : ℕ)
    → SomeIff o (IsInteger p × (digits_of p < 2 ^ 64)) (digits_of p) → o ≡ Some n → number_of s ≡ Some (unsigned n)
natural_read s p plain is o n h e = subst (λ x. IfSome x (λ k. number_of s ≡ Some (unsigned k))) e (natural_by s p plain is o h)
