-- A newline after printed tokens is no token: the lexer passes over it.
use Rattle.std.proofs.Common.{◌≡◌, ℕ, Bool, true, false, cond, ◌&&◌, List, [], ◌∷◌, ◌++◌, refl, sym, ap, ap₂, ◌∙◌, append_assoc, append-nil}
use Rattle.json.specs.Token.{Token, begin_object, end_object, begin_array, end_array, key, string, number, boolean, null, bad}
use Rattle.json.specs.Word.{ends_word, word}
use Rattle.json.specs.Lex.{Lexeme, token, comma, colon, string_token, lex, between, fresh, punctuate, tokens}
use Rattle.json.specs.Print.{escape, quoted, token_text, begins, ends, separator, print_from, print, IsPrintable, ArePrintable}
use Rattle.json.proofs.Printed.Strings.{content-escape, lex-escape}
use Rattle.json.proofs.Printed.Numbers.{lex-number, in_word-ended}
use Rattle.json.proofs.Printed.Tokens.{tokens-print}

abbrev token_lexemes : Token → List Lexeme
token_lexemes begin_object = token begin_object ∷ []
token_lexemes end_object = token end_object ∷ []
token_lexemes begin_array = token begin_array ∷ []
token_lexemes end_array = token end_array ∷ []
token_lexemes (key s) = token (string s) ∷ colon ∷ []
token_lexemes (string s) = token (string s) ∷ []
token_lexemes (number s) = token (number s) ∷ []
token_lexemes (boolean b) = token (boolean b) ∷ []
token_lexemes null = token null ∷ []
token_lexemes bad = []

abbrev lexemes : Bool → List Token → List Lexeme
lexemes c [] = []
lexemes c (t ∷ ts) = cond (c && begins t) (comma ∷ []) [] ++ (token_lexemes t ++ lexemes (ends t) ts)

-- after a value stands a comma, a closing bracket or what follows the text
value_ends : (ts : List Token) (rest : List ℕ) → ends_word rest ≡ true → ends_word (print_from true ts ++ rest) ≡ true
unfolding print_from
value_ends [] rest e = e
value_ends (begin_object ∷ ts) rest e = refl
value_ends (end_object ∷ ts) rest e = refl
value_ends (begin_array ∷ ts) rest e = refl
value_ends (end_array ∷ ts) rest e = refl
value_ends (key s ∷ ts) rest e = refl
value_ends (string s ∷ ts) rest e = refl
value_ends (number s ∷ ts) rest e = refl
value_ends (boolean b ∷ ts) rest e = refl
value_ends (null ∷ ts) rest e = refl
value_ends (bad ∷ ts) rest e = refl

lex-quoted : (s r : List ℕ) → lex between (quoted s ++ r) ≡ token (string s) ∷ lex between r
unfolding lex
lex-quoted s r =
    let e = append_assoc (escape s) (34 ∷ []) r in
    ap (λ l. lex between (34 ∷ l)) e ∙ ap₂ (λ o l. token (string_token o) ∷ l) (content-escape s r) (lex-escape s r)

lex-token_text : (t : Token) (r : List ℕ) → IsPrintable t → (ends t ≡ true → ends_word r ≡ true)
    → lex between (token_text t ++ r) ≡ token_lexemes t ++ lex between r
unfolding lex word
lex-token_text begin_object r h ended = refl
lex-token_text end_object r h ended = refl
lex-token_text begin_array r h ended = refl
lex-token_text end_array r h ended = refl
lex-token_text (key s) r h ended = ap (lex between) (append_assoc (quoted s) (58 ∷ []) r) ∙ lex-quoted s (58 ∷ r)
lex-token_text (string s) r h ended = lex-quoted s r
lex-token_text (number s) r h ended = lex-number s r h (ended refl)
lex-token_text (boolean true) r h ended = ap₂ (λ b l. token (cond b (boolean true) bad) ∷ l) (ended refl) (in_word-ended r (ended refl))
lex-token_text (boolean false) r h ended = ap₂ (λ b l. token (cond b (boolean false) bad) ∷ l) (ended refl) (in_word-ended r (ended refl))
lex-token_text null r h ended = ap₂ (λ b l. token (cond b null bad) ∷ l) (ended refl) (in_word-ended r (ended refl))
lex-token_text bad r h ended = absurd h

lex-separator : (b : Bool) (r : List ℕ) → lex between (cond b (44 ∷ []) [] ++ r) ≡ cond b (comma ∷ []) [] ++ lex between r
unfolding lex
lex-separator true r = refl
lex-separator false r = refl

lex-before : (c : Bool) (ts : List Token) (rest : List ℕ) → ArePrintable ts → ends_word rest ≡ true
    → lex between (print_from c ts ++ rest) ≡ lexemes c ts ++ lex between rest
unfolding print_from ArePrintable
lex-before c [] rest h e = refl
lex-before c (t ∷ ts) rest h e =
    ap (lex between)
    (append_assoc (separator c t) (token_text t ++ print_from (ends t) ts) rest
    ∙ ap (λ l. separator c t ++ l) (append_assoc (token_text t) (print_from (ends t) ts) rest))
    ∙ lex-separator (c && begins t) (token_text t ++ (print_from (ends t) ts ++ rest))
    ∙ ap (λ l. cond (c && begins t) (comma ∷ []) [] ++ l)
    (lex-token_text t (print_from (ends t) ts ++ rest) h.0 (λ is. ap (λ b. ends_word (print_from b ts ++ rest)) is ∙ value_ends ts rest e)
    ∙ ap (λ l. token_lexemes t ++ l) (lex-before (ends t) ts rest h.1 e)
    ∙ sym (append_assoc (token_lexemes t) (lexemes (ends t) ts) (lex between rest)))
    ∙ sym (append_assoc (cond (c && begins t) (comma ∷ []) []) (token_lexemes t ++ lexemes (ends t) ts) (lex between rest))

lex-newline : lex between (10 ∷ []) ≡ []
unfolding lex
lex-newline = refl

lex-nothing : lex between [] ≡ []
unfolding lex
lex-nothing = refl

pub tokens-newline : (ts : List Token) → ArePrintable ts → tokens (print ts ++ 10 ∷ []) ≡ ts
tokens-newline ts h =
    ap (punctuate fresh)
    (lex-before false ts (10 ∷ []) h refl
    ∙ ap (λ l. lexemes false ts ++ l) (lex-newline ∙ sym lex-nothing)
    ∙ sym (lex-before false ts [] h refl)
    ∙ ap (lex between) (append-nil (print ts)))
    ∙ tokens-print ts h
