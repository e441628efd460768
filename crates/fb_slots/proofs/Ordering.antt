-- The list of a finished run goes by item, and has as many entries as its seats have made.
use Rattle.std.proofs.Common.{ℕ, zero, suc, ◌≡◌, ◌+◌, ◌*◌, ◌<◌, ◌≤◌, false, true, List, [], ◌∷◌, ◌++◌, length, map, inl, inr, refl, sym, ap, subst, ◌∙◌, arith}
use Rattle.std.specs.List.{All, range_with_len}
use Rattle.std.specs.List.Sorted.{IsStrictlyIncreasing}
use Rattle.std.proofs.lemmas.Bool.{cases_eq, eq-eqb, ne_eqb}
use Rattle.std.proofs.lemmas.List.{append_assoc, length-map, map-append}
use Rattle.std.proofs.lemmas.List.Elements.{All-head, All-tail}
use Rattle.std.proofs.lemmas.List.FromFn.{length-range_with_len}
use Rattle.fb_graph.proofs.BuildSteps.{range_push}
use Rattle.fb_graph.proofs.Sets.{range_rises}
use Rattle.fb_book.specs.declared.entries.EntryKind.{EntryKind}
use Rattle.fb_book.specs.declared.entries.EntryKind.TheVariants.{Took, Gave}
use Rattle.fb_book.specs.declared.entries.Entry.{Entry}
use Rattle.fb_book.specs.Machine.{place, trace}
use Rattle.fb_book.specs.InternalBoard.{entry_at}
use Rattle.fb_slots.specs.Listed.{IsWhole, entries_for, gains, listed_by}
use Rattle.fb_slots.specs.Ordered.{IsByItem, rank, rank_of}
use Rattle.fb_slots.specs.Slots.{Layout}
use Rattle.fb_slots.proofs.Hands.{place_entry, trace-append}
use Rattle.fb_slots.proofs.Taking.{trace_one}

range_two : (m : ℕ) → range_with_len 0 (2 * suc m) ≡ range_with_len 0 (2 * m) ++ (2 * m) ∷ (2 * m + 1) ∷ []
range_two m =
    let two : 2 * suc m ≡ suc (suc (2 * m)) = omega arith in
    let none : 0 + 2 * m ≡ 2 * m = omega arith in
    let one : 0 + suc (2 * m) ≡ 2 * m + 1 = omega arith in
    ap (range_with_len 0) two ∙ (range_push 0 (suc (2 * m))
    ∙ (ap (λ xs. xs ++ (0 + suc (2 * m)) ∷ []) (range_push 0 (2 * m))
    ∙ (append_assoc (range_with_len 0 (2 * m)) ((0 + 2 * m) ∷ []) ((0 + suc (2 * m)) ∷ [])
    ∙ (λ i. range_with_len 0 (2 * m) ++ none i ∷ one i ∷ []))))

rank_entry : (kind : EntryKind) (w n k : ℕ) → rank n (entry_at kind w n k) ≡ 2 * k + rank_of kind
rank_entry kind w n k = ap (λ (p : ℕ). 2 * p + rank_of kind) (place_entry kind w n k)

-- how many entries the items below k have
abbrev tally : ℕ → List Entry → ℕ → ℕ
tally n es zero = 0
tally n es (suc k) = tally n es k + length (trace n k es)

module _ (n : ℕ) (e : Entry) (es : List Entry) where
  trace_here : (k : ℕ) → k ≡ place n e → length (trace n k (e ∷ es)) ≡ suc (length (trace n k es))
  trace_here k at = ap length (trace-append n k (e ∷ []) es
      ∙ ap (λ x. x ++ trace n k es) (trace_one n k e true (eq-eqb (place n e) k (sym at))))

  trace_there : (k : ℕ) → (k ≡ place n e → ⊥) → length (trace n k (e ∷ es)) ≡ length (trace n k es)
  trace_there k other = ap length (trace-append n k (e ∷ []) es
      ∙ ap (λ x. x ++ trace n k es) (trace_one n k e false (ne_eqb (place n e) k (λ s. other (sym s)))))

  tally_below : (k : ℕ) → k ≤ place n e → tally n (e ∷ es) k ≡ tally n es k
  tally_below zero le = refl
  tally_below (suc k) le =
      let before = tally_below k (omega (arith, le)) in
      let same = trace_there k (λ s. absurd (omega (arith, le, s))) in
      λ i. before i + same i

  tally_above : (k : ℕ) → place n e < k → tally n (e ∷ es) k ≡ suc (tally n es k)
  tally_above zero less = absurd (omega (arith, less))
  tally_above (suc k) less = elim (cases_eq k (place n e)) [
    | inl at ↦
        let before = tally_below k (omega (arith, at)) in
        let here = trace_here k at in omega (arith, before, here)
    | inr other ↦
        let before = tally_above k (omega (arith, less, other)) in
        let there = trace_there k other in omega (arith, before, there)
  ]

tally_none : (n k : ℕ) → tally n [] k ≡ 0
tally_none n zero = refl
tally_none n (suc k) = let before = tally_none n k in omega (arith, before)

tally_all : (n count : ℕ) (es : List Entry) → All (λ e. place n e < count) es → tally n es count ≡ length es
tally_all n count [] within = tally_none n count
tally_all n count (e ∷ es) within =
    tally_above n e es count (All-head (λ e. place n e < count) e es within)
    ∙ ap suc (tally_all n count es (All-tail (λ e. place n e < count) e es within))

module _ (b : Layout) (es : List Entry) (w : IsWhole b es) where
  ranks : (k : ℕ) → k ≤ b.count
      → map (rank b.nodes) (listed_by gains b.nodes es k) ≡ range_with_len 0 (2 * k)
  ranks zero le = refl
  ranks (suc k) le =
      let t = w.each k (omega (arith, le)) in
      let before = ranks k (omega (arith, le)) in
      let took : rank b.nodes (entry_at Took t.0 b.nodes k) ≡ 2 * k =
      rank_entry Took t.0 b.nodes k ∙ omega arith in
      let gave : rank b.nodes (entry_at Gave t.0 b.nodes k) ≡ 2 * k + 1 =
      rank_entry Gave t.0 b.nodes k in
      map-append (rank b.nodes) (listed_by gains b.nodes es k)
      (entries_for b.nodes k (gains (trace b.nodes k es)))
      ∙ (ap (λ x. map (rank b.nodes) (listed_by gains b.nodes es k)
      ++ map (rank b.nodes) (entries_for b.nodes k (gains x))) t.1
      ∙ ((λ i. before i ++ took i ∷ gave i ∷ []) ∙ sym (range_two k)))

  pairs : (k : ℕ) → k ≤ b.count → tally b.nodes es k ≡ 2 * k
  pairs zero le = refl
  pairs (suc k) le =
      let before = pairs k (omega (arith, le)) in
      let two = ap length (w.each k (omega (arith, le))).1 in omega (arith, before, two)

  abbrev all : List Entry
  all = listed_by gains b.nodes es b.count

  pub by_item : IsByItem b.nodes all
  by_item = subst IsStrictlyIncreasing (sym (ranks b.count (omega arith))) (range_rises 0 (2 * b.count))

  pub as_many : length all ≡ length es
  as_many =
      sym (length-map all (rank b.nodes)) ∙ (ap length (ranks b.count (omega arith))
      ∙ (length-range_with_len 0 (2 * b.count) ∙ (sym (pairs b.count (omega arith))
      ∙ tally_all b.nodes b.count es (λ k d less. (w.within k d less).1))))
