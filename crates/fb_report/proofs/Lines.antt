-- The lines of a report, put piece by piece.
use Rattle.std.proofs.Common.{◌≡◌, ℕ, ℤ, ◌+◌, ◌<◌, ◌≤◌, List, [], ◌∷◌, ◌++◌, Option, length, take, map, get_or, refl, sym, ap, ◌∙◌, append_assoc, append-nil, subst, codes, decimal}
use Rattle.std.specs.Fmt.{signed_decimal}
use Rattle.std.proofs.KnownBytes.{Appends-trans}
use Rattle.std.proofs.lemmas.List.{take_all}
use Rattle.fb_ports.specs.Causes.{Appends, AppendsPrefix, concat}
use Rattle.fb_ports.proofs.Onward.{parts_onward, parts_prefix, prefix_second, prefix_first}
use Rattle.fb_graph.specs.declared.parts.Cut.{Cut}
use Rattle.fb_graph.specs.declared.parts.Row.TheVariants.{Best}
use Rattle.fb_report.specs.Texts.{base_line, line, line_end, cut_line, row_text, weight_line}

-- a number with the space before it, as the writer puts it
abbrev pub spaced : ℕ → List ℕ
spaced n = codes " " ++ (decimal n ++ [])

-- the numbers of a line, and the newline
pub line_end-numbers : (ns : List ℕ) → line_end (map decimal ns) ≡ concat (map spaced ns) ++ codes "\n"
line_end-numbers [] = refl
line_end-numbers (n ∷ ns) = ap (λ l. codes " " ++ l)
    (ap (λ l. decimal n ++ l) (line_end-numbers ns)
    ∙ sym (append_assoc (decimal n) (concat (map spaced ns)) (codes "\n"))
    ∙ ap (λ l. (l ++ concat (map spaced ns)) ++ codes "\n") (sym (append-nil (decimal n))))

-- one more number was put
pub numbers_onward : (a b c : Option (List ℕ)) (ns : List ℕ) (i n d : ℕ) → i < length ns → n ≡ get_or ns i d
    → Appends a b (concat (map spaced (take i ns))) → Appends b c (spaced n) → Appends a c (concat (map spaced (take (i + 1) ns)))
numbers_onward a b c ns i n d lt e p q = parts_onward a b c spaced ns i d lt p (subst (λ k. Appends b c (spaced k)) e q)

-- a put of one more number stopped midway
pub numbers_prefix : (a b c : Option (List ℕ)) (ns : List ℕ) (i n d : ℕ) → i < length ns → n ≡ get_or ns i d
    → Appends a b (concat (map spaced (take i ns))) → AppendsPrefix b c (spaced n) → AppendsPrefix a c (line_end (map decimal ns))
numbers_prefix a b c ns i n d lt e p q = subst (AppendsPrefix a c) (sym (line_end-numbers ns))
    (prefix_first a c _ (codes "\n") (parts_prefix a b c spaced ns i d lt p (subst (λ k. AppendsPrefix b c (spaced k)) e q)))

-- one more cut's line was put
pub cuts_onward : (a b c : Option (List ℕ)) (cs : List Cut) (i : ℕ) (t d : Cut) → i < length cs → t ≡ get_or cs i d
    → Appends a b (concat (map cut_line (take i cs))) → Appends b c (cut_line t) → Appends a c (concat (map cut_line (take (i + 1) cs)))
cuts_onward a b c cs i t d lt e p q = parts_onward a b c cut_line cs i d lt p (subst (λ k. Appends b c (cut_line k)) e q)

-- a put of one more cut's line stopped midway
pub cuts_prefix : (a b c : Option (List ℕ)) (cs : List Cut) (i : ℕ) (t d : Cut) → i < length cs → t ≡ get_or cs i d
    → Appends a b (concat (map cut_line (take i cs))) → AppendsPrefix b c (cut_line t) → AppendsPrefix a c (concat (map cut_line cs))
cuts_prefix a b c cs i t d lt e p q = parts_prefix a b c cut_line cs i d lt p (subst (λ k. AppendsPrefix b c (cut_line k)) e q)

-- all numbers were put, and then the newline
pub numbers_whole : (a b c : Option (List ℕ)) (ns : List ℕ) (i : ℕ) → length ns ≤ i
    → Appends a b (concat (map spaced (take i ns))) → Appends b c (codes "\n") → Appends a c (line_end (map decimal ns))
numbers_whole a b c ns i le p q = subst (Appends a c) (sym (line_end-numbers ns))
    (Appends-trans a b c _ _ (subst (λ l. Appends a b (concat (map spaced l))) (take_all i ns le) p) q)

-- all numbers were put, and the put of the newline failed
pub newline_prefix : (a b c : Option (List ℕ)) (ns : List ℕ) (i : ℕ) → length ns ≤ i
    → Appends a b (concat (map spaced (take i ns))) → AppendsPrefix b c (codes "\n") → AppendsPrefix a c (line_end (map decimal ns))
newline_prefix a b c ns i le p q = subst (AppendsPrefix a c) (sym (line_end-numbers ns))
    (prefix_second a b c _ _ (subst (λ l. Appends a b (concat (map spaced l))) (take_all i ns le) p) q)

-- the prefix of a correction's text, up to its edges, as the writer puts it
abbrev pub opening : ℕ → List ℕ
opening k = codes "shot " ++ (decimal k ++ codes "\nedges")

-- the first lines of a correction's text, in the parts in which they are put
pub chosen-parts : (k : ℕ) (edges : List ℕ)
    → line (codes "shot") (decimal k ∷ []) ++ line (codes "edges") (map decimal edges) ≡ opening k ++ line_end (map decimal edges)
chosen-parts k edges = simp append_assoc

-- the lines of a base and a weight, in the parts in which they are put
pub sums-parts : (base weight : ℤ) → base_line base ++ weight_line weight
    ≡ concat (codes "base " ∷ signed_decimal base ∷ codes "\nweight " ∷ signed_decimal weight ∷ codes "\n" ∷ [])
sums-parts base weight = simp append_assoc

-- the text of a correction, in the parts in which it is put
pub row_text-best : (k : ℕ) (edges : List ℕ) (base weight : ℤ) (cuts : List Cut) → row_text k (Best edges base weight cuts)
    ≡ (line (codes "shot") (decimal k ∷ []) ++ line (codes "edges") (map decimal edges))
    ++ ((base_line base ++ weight_line weight) ++ concat (map cut_line cuts))
unfolding row_text
row_text-best k edges base weight cuts = simp append_assoc

-- a cut's line before its vertices, as the writer puts it
abbrev pub cut_opening : ℕ → List ℕ
cut_opening value = codes "cut " ++ (decimal value ++ [])

-- the line of a cut, in the parts in which it is put
pub cut_line-parts : (c : Cut) → cut_line c ≡ cut_opening c.value ++ line_end (map decimal c.vertices)
cut_line-parts c = simp append-nil

-- a cut's line before its vertices was put, and then a prefix of the rest
pub vertices_prefix : (a b c : Option (List ℕ)) (t : Cut) (vertices : List ℕ) → vertices ≡ t.vertices
    → Appends a b (cut_opening t.value) → AppendsPrefix b c (line_end (map decimal vertices)) → AppendsPrefix a c (cut_line t)
vertices_prefix a b c t vertices e p q = subst (AppendsPrefix a c) (sym (cut_line-parts t))
    (prefix_second a b c (cut_opening t.value) _ p (subst (λ l. AppendsPrefix b c (line_end (map decimal l))) e q))
