-- Rows one after another, for loops that write them.
use Rattle.std.proofs.Common.{◌≡◌, ℕ, ◌+◌, ◌<◌, ◌≤◌, List, [], ◌∷◌, ◌++◌, length, take, get_or, sym, ap, ◌∙◌, append_assoc, append-nil, arith}
use Rattle.std.proofs.lemmas.List.{take_more, length-take-le}
use Rattle.fb_graph.specs.declared.parts.Row.{Row}
use Rattle.fb_report.specs.Texts.{row_text, rows_text}

-- the text of some rows and then others
pub rows_text-append : (k : ℕ) (rs ss : List Row) → rows_text k (rs ++ ss) ≡ rows_text k rs ++ rows_text (k + length rs) ss
rows_text-append k [] ss = let e : k ≡ k + length (let none : List Row = [] in none) = omega arith in ap (λ n. rows_text n ss) e
rows_text-append k (r ∷ rs) ss =
    let e : (k + 1) + length rs ≡ k + length (r ∷ rs) = omega arith in
    ap (λ l. row_text k r ++ l) (rows_text-append (k + 1) rs ss ∙ ap (λ n. rows_text (k + 1) rs ++ rows_text n ss) e)
    ∙ sym (append_assoc (row_text k r) (rows_text (k + 1) rs) (rows_text (k + length (r ∷ rs)) ss))

-- the text of some rows and then one more
pub rows_text-push : (k : ℕ) (rs : List Row) (r : Row) → rows_text k (rs ++ r ∷ []) ≡ rows_text k rs ++ row_text (k + length rs) r
rows_text-push k rs r = rows_text-append k rs (r ∷ [])
    ∙ ap (λ l. rows_text k rs ++ l) (append-nil (row_text (k + length rs) r))

-- the text of the rows before place i, and then of the row there
pub rows_text-take : (k : ℕ) (rs : List Row) (i : ℕ) (d : Row) → i < length rs
    → rows_text k (take (i + 1) rs) ≡ rows_text k (take i rs) ++ row_text (k + i) (get_or rs i d)
rows_text-take k rs i d lt =
    let le : i ≤ length rs = omega arith in
    ap (rows_text k) (take_more rs i d lt) ∙ rows_text-push k (take i rs) (get_or rs i d)
    ∙ ap (λ n. rows_text k (take i rs) ++ row_text (k + n) (get_or rs i d)) (length-take-le i rs le)
