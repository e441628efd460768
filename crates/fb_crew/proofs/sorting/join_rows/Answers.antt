use Rattle.std.proofs.Common.{ℕ, ◌≡◌, ◌+◌, ◌<◌, ◌++◌, ◌∷◌, ◌∙◌, List, [], Option, Some, None, is_none, cond, count_by, drop, get_or, length, arith, ap, sym}
use Rattle.std.proofs.lemmas.List.{append_assoc, drop_more}
use Rattle.std.proofs.lemmas.List.Sums.{sum_by-cons}
use Rattle.fb_graph.specs.declared.parts.Row.{Row}
use Rattle.fb_crew.specs.InternalWindows.{rows_by}
use Rattle.fb_crew.proofs.sorting.join_rows.Goals.{in-Some, in-None+in-Some-next}
use Rattle.fb_crew.proofs.sorting.join_rows.Goals as goal

joined_more : (odd : List (Option ℕ)) (i : ℕ) (v : Option ℕ) (row : Row) (had now rest left all : List Row) → i < length odd → get_or odd i None ≡ v
    → now ≡ had ++ row ∷ [] → ((vs : List (Option ℕ)) → rows_by (v ∷ vs) rest ≡ row ∷ rows_by vs left) → length rest ≡ cond (is_none v) 1 0 + length left
    → (had ++ rows_by (drop i odd) rest ≡ all) × (length rest ≡ count_by is_none (drop i odd))
    → (now ++ rows_by (drop (i + 1) odd) left ≡ all) × (length left ≡ count_by is_none (drop (i + 1) odd))
joined_more odd i v row had now rest left all less at added next fewer joined =
    let vs = drop (i + 1) odd in
    let split : drop i odd ≡ v ∷ vs = drop_more odd i None less ∙ ap (λ u. u ∷ vs) at in (
      ap (λ l. l ++ rows_by vs left) added
          ∙ (append_assoc had (row ∷ []) (rows_by vs left) ∙ (ap (λ l. had ++ l) (sym (ap (λ us. rows_by us rest) split ∙ next vs)) ∙ joined.0)),
      omega (arith, joined.1, fewer, ap (count_by is_none) split, sum_by-cons (λ (x : Option ℕ). cond (is_none x) 1 0) v vs),
    )

pub loop-vertex-preserved : goal.loop-vertex-preserved
loop-vertex-preserved c = elim c.match-vertex.branch [
  | in-Some w ↦ joined_more c.args.odd.now c.loop-vertex.vertex-index (Some w.in-Some.vertex) c.match-vertex.row c.loop-vertex.rows.items _ c.loop-vertex.rest.rest.items _ _
      c.loop-vertex-test.true w.in-Some.is c.in_ok-push.ensures.items
      (λ vs. ap (λ r. r ∷ rows_by vs c.loop-vertex.rest.rest.items) (sym w.row-is) ∙ ap (λ l. c.match-vertex.row ∷ rows_by vs l.rest.items) (sym w.rest-is))
      (omega (arith, ap (λ l. length l.rest.items) w.rest-is)) c.loop-vertex.invariant
  | in-None+in-Some-next w ↦ (
      let split = w.in-Some-next.ensures.items ∙ (ap (λ r. r ∷ w.next.new.self.rest.items) (sym w.row-is) ∙ ap (λ l. c.match-vertex.row ∷ l.rest.items) (sym w.rest-is)) in
      joined_more c.args.odd.now c.loop-vertex.vertex-index None c.match-vertex.row c.loop-vertex.rows.items _ c.loop-vertex.rest.rest.items _ _
      c.loop-vertex-test.true w.in-None.is c.in_ok-push.ensures.items (λ vs. ap (rows_by (None ∷ vs)) split) (omega (arith, ap length split)) c.loop-vertex.invariant)
]
