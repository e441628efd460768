-- The history from what each worker did, item by item.
use Rattle.std.proofs.Common.{ℕ, ◌≡◌, ◌+◌, ◌<◌, ◌≤◌, ◌==◌, Bool, true, false, cond, List, [], ◌∷◌, ◌++◌, length, map, get_or, set, inl, inr, refl, sym, ap, ◌∙◌, arith, zero, suc}
use Rattle.std.proofs.lemmas.Bool.{cases_eq, eq-eqb, ne_eqb}
use Rattle.std.proofs.lemmas.List.{append-nil, append_assoc, get_or-set_same, get_or-set_other}
use Rattle.fb_book.specs.declared.entries.EntryKind.{EntryKind}
use Rattle.fb_book.specs.declared.entries.EntryKind.TheVariants.{Took, Gave, Left}
use Rattle.fb_book.specs.declared.entries.Entry.{Entry}
use Rattle.fb_book.specs.Machine.{IsComplete, place, trace}
use Rattle.fb_book.specs.InternalBoard.{entry_at}
use Rattle.fb_book.proofs.History.{done_is_complete}
use Rattle.fb_slots.specs.Slots.{Layout, IsLayout, weigh, as_given}
use Rattle.fb_slots.specs.Listed.{IsOrdered, IsWhole, entries_for, gains, leavings, listed_by, listing, taker_of, next_taker}
use Rattle.fb_slots.proofs.Hands.{trace-append}
use Rattle.fb_slots.proofs.Listing.{whole_run}

taker-append : (xs ys : List (EntryKind × ℕ)) (w : ℕ) → taker_of (xs ++ ys) w ≡ taker_of ys
    (taker_of xs w)
taker-append [] ys w = refl
taker-append (x ∷ xs) ys w = taker-append xs ys (next_taker x.0 x.1 w)

pub trace_one : (n k : ℕ) (e : Entry) (t : Bool) → (place n e == k) ≡ t
    → trace n k (e ∷ []) ≡ cond t ((e.kind, e.worker) ∷ []) []
trace_one n k e true f = ap (λ t. map (λ (x : Entry). (x.kind, x.worker)) (cond t (e ∷ []) [])) f
trace_one n k e false f = ap (λ t. map (λ (x : Entry). (x.kind, x.worker)) (cond t (e ∷ []) [])) f

-- the taker after one more entry
taker_next : (n k : ℕ) (es : List Entry) (e : Entry) (t : Bool) → (place n e == k) ≡ t
    → taker_of (trace n k (es ++ e ∷ [])) 0 ≡ cond t
    (next_taker e.kind e.worker (taker_of (trace n k es) 0)) (taker_of (trace n k es) 0)
taker_next n k es e true f =
    ap (λ x. taker_of x 0) (trace-append n k es (e ∷ []) ∙ ap (λ x. trace n k es ++ x)
    (trace_one n k e true f)) ∙ taker-append (trace n k es) ((e.kind, e.worker) ∷ []) 0
taker_next n k es e false f =
    ap (λ x. taker_of x 0) (trace-append n k es (e ∷ []) ∙ ap (λ x. trace n k es ++ x)
    (trace_one n k e false f)) ∙ ap (λ x. taker_of x 0) (append-nil (trace n k es))

-- one entry more
pub takers_took : (n count : ℕ) (es : List Entry) (e : Entry) (ws : List ℕ) → length ws ≡ count
    → place n e < count → e.kind ≡ Took
    → ((k : ℕ) → k < count → get_or ws k 0 ≡ taker_of (trace n k es) 0) → (k : ℕ) → k < count
    → get_or (set ws (place n e) e.worker) k 0 ≡ taker_of (trace n k (es ++ e ∷ [])) 0
takers_took n count es e ws size inside kind each k less = elim (cases_eq k (place n e)) [
  | inl s ↦
      let t = taker_next n k es e true (eq-eqb (place n e) k (sym s)) in
      let a : next_taker e.kind e.worker (taker_of (trace n k es) 0) ≡ e.worker =
      ap (λ x. next_taker x e.worker (taker_of (trace n k es) 0)) kind in
      ap (λ x. get_or (set ws (place n e) e.worker) x 0) s
      ∙ (get_or-set_same ws (place n e) e.worker 0 (omega (arith, size, inside)) ∙ sym (t ∙ a))
  | inr ne ↦ get_or-set_other ws (place n e) k e.worker 0 ne
      ∙ (each k less ∙ sym (taker_next n k es e false (ne_eqb (place n e) k (λ s. ne (sym s)))))
]

pub takers_else : (n count : ℕ) (es : List Entry) (e : Entry) (ws : List ℕ) → (e.kind ≡ Took → ⊥)
    → ((k : ℕ) → k < count → get_or ws k 0 ≡ taker_of (trace n k es) 0) → (k : ℕ) → k < count
    → get_or ws k 0 ≡ taker_of (trace n k (es ++ e ∷ [])) 0
takers_else n count es e ws other each k less = elim (cases_eq k (place n e)) [
  | inl s ↦ each k less ∙ sym (taker_next n k es e true (eq-eqb (place n e) k (sym s))
      ∙ same e.kind refl (taker_of (trace n k es) 0))
  | inr ne ↦ each k less ∙ sym (taker_next n k es e false (ne_eqb (place n e) k (λ s. ne (sym s))))
]
  where
    same : (kind : EntryKind) → e.kind ≡ kind → (w : ℕ) → next_taker e.kind e.worker w ≡ w
    same Took f w = absurd (other f)
    same Gave f w = ap (λ x. next_taker x e.worker w) f
    same Left f w = ap (λ x. next_taker x e.worker w) f

module _ (b : Layout) (is : IsLayout b) (es : List Entry) (w : IsWhole b es) where
  -- the entries of the next item
  pub listed_more : (k v : ℕ) (h : List Entry) → k < b.count → v ≡ taker_of (trace b.nodes k es) 0
      → h ≡ listed_by gains b.nodes es k
      → (h ++ entry_at Took v b.nodes k ∷ []) ++ entry_at Gave v b.nodes k ∷ [] ≡ listed_by gains
      b.nodes es (k + 1)
  listed_more k v h less e same =
      let t = w.each k less in
      let v_is : v ≡ t.0 = e ∙ ap (λ x. taker_of x 0) t.1 in
      let one : entries_for b.nodes k (gains (trace b.nodes k es)) ≡ entry_at Took t.0 b.nodes
      k ∷ entry_at Gave t.0 b.nodes k ∷ [] = ap (λ x. entries_for b.nodes k (gains x)) t.1 in
      let next : listed_by gains b.nodes es (suc k) ≡ listed_by gains b.nodes es k ++ entry_at Took
      t.0 b.nodes k ∷ entry_at Gave t.0 b.nodes k ∷ [] =
      ap (λ x. listed_by gains b.nodes es k ++ x) one in
      let s : k + 1 ≡ suc k = omega arith in
      append_assoc h (entry_at Took v b.nodes k ∷ []) (entry_at Gave v b.nodes k ∷ [])
      ∙ (ap (λ x. x ++ entry_at Took v b.nodes k ∷ entry_at Gave v b.nodes k ∷ []) same
      ∙ (ap (λ x. listed_by gains b.nodes es k ++ entry_at Took x b.nodes k ∷ entry_at Gave x
      b.nodes k ∷ []) v_is ∙ (sym next ∙ ap (listed_by gains b.nodes es) (sym s))))

  -- nothing was left
  no_leavings : (m : ℕ) → m ≤ b.count → listed_by leavings b.nodes es m ≡ []
  no_leavings zero le = refl
  no_leavings (suc m) le =
      let t = w.each m (omega (arith, le)) in
      ap (λ x. listed_by leavings b.nodes es m ++ entries_for b.nodes m (leavings x)) t.1
      ∙ (append-nil (listed_by leavings b.nodes es m) ∙ no_leavings m (omega (arith, le)))

  pub all_listing : listed_by gains b.nodes es b.count ≡ listing b.nodes b.count es
  all_listing =
      sym (ap (λ x. listed_by gains b.nodes es b.count ++ x) (no_leavings b.count (omega arith))
      ∙ append-nil (listed_by gains b.nodes es b.count))

  pub all_complete : IsOrdered b es → IsComplete b.kids b.nodes b.count
      (listed_by gains b.nodes es b.count)
  all_complete o =
      let r = whole_run b is es o (λ k less. ap (weigh as_given) (w.each k less).1) in
      done_is_complete b.kids b.nodes b.count (listed_by gains b.nodes es b.count) r.statuses
      is.forest r.replayed r.over

  pub listed_step : (n k v : ℕ) (h h1 h2 : List Entry) (a c : Entry) → n ≡ b.nodes → k < b.count
      → v ≡ taker_of (trace n k es) 0 → h ≡ listed_by gains n es k
      → a ≡ entry_at Took v n k → c ≡ entry_at Gave v n k → h1 ≡ h ++ a ∷ [] → h2 ≡ h1 ++ c ∷ []
      → h2 ≡ listed_by gains n es (k + 1)
  listed_step n k v h h1 h2 a c same less taker before first second one two =
      let v_is : v ≡ taker_of (trace b.nodes k es) 0 = taker ∙ ap (λ m. taker_of (trace m k es) 0)
      same in
      let h_is : h ≡ listed_by gains b.nodes es k = before ∙ ap (λ m. listed_by gains m es k)
      same in
      two ∙ (ap (λ x. x ++ c ∷ []) one
      ∙ (ap (λ x. (h ++ x ∷ []) ++ c ∷ []) (first ∙ ap (λ m. entry_at Took v m k) same)
      ∙ (ap (λ x. (h ++ entry_at Took v b.nodes k ∷ []) ++ x ∷ [])
      (second ∙ ap (λ m. entry_at Gave v m k) same)
      ∙ (listed_more k v h less v_is h_is ∙ ap (λ m. listed_by gains m es (k + 1)) (sym same)))))
