-- Seats that become one, step by step, and the roots that are taken out.
use Rattle.std.proofs.Common.{ℕ, ◌≡◌, ◌+◌, ◌-◌, ◌*◌, ◌<◌, ◌≤◌, Bool, false, Option, Some, None, List, [], ◌∷◌, ◌++◌, length, get_or, ◌⊎◌, inl, inr, refl, sym, ap, subst, ◌∙◌, arith, zero, suc}
use Rattle.std.proofs.lemmas.Bool.{cases_eq}
use Rattle.std.proofs.lemmas.Nat.{mul-add-lt}
use Rattle.std.proofs.lemmas.List.{append-nil, append_assoc, length-append, get_or-set_same, get_or-set_other}
use Rattle.std.specs.List.{All}
use Rattle.fb_graph.proofs.Nodes.{All-below, All-top}
use Rattle.fb_slots.specs.declared.views.Hand.{Hand}
use Rattle.fb_book.specs.declared.entries.EntryKind.{EntryKind}
use Rattle.fb_slots.specs.Seats.{SeatValue, ends_in, entries_in}
use Rattle.fb_slots.specs.Slots.{Layout, IsClosed, with_other, in_hand, weigh, as_taken, as_given, as_left}
use Rattle.fb_slots.specs.Ends.{IsEmptiedTo, AreAtRoots}
use Rattle.std.specs.Prelude.{slice_get, slice_set}
use Rattle.std.proofs.lemmas.Option.{same_Some}
use mathlib.Core.Option.{some, some-injective}
use lib.ListN.{get_elem?}
use Rattle.fb_slots.specs.Gathered.{IsGathered}
use Rattle.fb_slots.proofs.Hands.{trace-append, weigh-append}
use Rattle.fb_book.specs.Machine.{trace}

-- with one seat more at the end
pub entries_last : (xs : List SeatValue) (x : SeatValue) → entries_in (xs ++ x ∷ []) ≡ entries_in
    xs ++ x.entries
entries_last [] x = append-nil x.entries
entries_last (y ∷ xs) x =
    ap (λ es. y.entries ++ es) (entries_last xs x)
    ∙ sym (append_assoc y.entries (entries_in xs) x.entries)

ends_last : (xs : List SeatValue) (x : SeatValue) → ends_in (xs ++ x ∷ []) ≡ ends_in xs + x.ends
ends_last [] x = omega arith
ends_last (y ∷ xs) x = let r = ends_last xs x in omega (arith, r)

module _ (own free : SeatValue → Type 0) (b : Layout) (all : List SeatValue) where
  -- the last seat's view, before the others
  pub gathered_first : (xs : List SeatValue) (x : SeatValue) (u : Hand) → All own all → All free all
      → all ≡ xs ++ x ∷ []
      → u.entries ≡ x.entries → u.ends ≡ x.ends → u.seats ≡ 1 → (free x → (j : ℕ) → IsClosed b u j)
      → IsGathered own free b all xs u × own x × free x
  gathered_first xs x u o f e same_entries same_ends one closed = (
    record {
      own_all = All-below own xs x (subst (All own) e o);
      free_all = All-below free xs x (subst (All free) e f);
      entries = ap (λ es. entries_in xs ++ es) same_entries
          ∙ sym (ap entries_in e ∙ entries_last xs x);
      ends = let a = ap ends_in e ∙ ends_last xs x in omega (arith, a, same_ends);
      seats = let l = ap length e ∙ length-append xs (x ∷ []) in omega (arith, l, one);
      closed = closed (All-top free xs x (subst (All free) e f));
    },
    All-top own xs x (subst (All own) e o),
    All-top free xs x (subst (All free) e f),
  )

  -- the next one from behind
  pub gathered_next : (left xs : List SeatValue) (x : SeatValue) (v : Hand)
      → IsGathered own free b all left v
      → left ≡ xs ++ x ∷ [] → own x × free x
  gathered_next left xs x v g e = (
    All-top own xs x (subst (All own) e g.own_all),
    All-top free xs x
        (subst (All free) e g.free_all),
  )

  pub gathered_more : (left xs : List SeatValue) (x : SeatValue) (v u w : Hand)
      → IsGathered own free b all left v
      → left ≡ xs ++ x ∷ [] → u.entries ≡ x.entries → u.ends ≡ x.ends → u.seats ≡ 1
      → (free x → (j : ℕ) → IsClosed b u j) → w ≡ with_other v u → IsGathered own free b all xs w
  gathered_more left xs x v u w g e same_entries same_ends one closed is =
      subst (IsGathered own free b all xs) (sym is) (record {
        own_all = All-below own xs x (subst (All own) e g.own_all);
        free_all = All-below free xs x (subst (All free) e g.free_all);
        entries = sym (append_assoc (entries_in xs) u.entries v.entries)
            ∙ (ap (λ es. es ++ v.entries) (ap (λ es. entries_in xs ++ es) same_entries
            ∙ sym (ap entries_in e ∙ entries_last xs x))
            ∙ g.entries);
        ends = let a = ap ends_in e ∙ ends_last xs x in let h = g.ends in
            omega (arith, a, h, same_ends);
        seats = let l = ap length e ∙ length-append xs (x ∷ []) in let h = g.seats in
            omega (arith, l, h, one);
        closed = λ j.
            let sum : (f : EntryKind → ℕ) → in_hand f b.nodes j (with_other v u) ≡ in_hand f b.nodes j
            u + in_hand f b.nodes j v =
            λ f. ap (weigh f) (trace-append b.nodes j u.entries v.entries)
            ∙ weigh-append f (trace b.nodes j u.entries) (trace b.nodes j v.entries) in
            let t = sum as_taken in let q = sum as_given in let l = sum as_left in
            let one_closed = closed (gathered_next left xs x v g e).1 j in let old = g.closed j in
            omega (arith, t, q, l, one_closed, old);
      })

-- one slot more was taken out
pub emptied_one : (filled : List Bool) (i len : ℕ) → IsEmptiedTo filled i len → i < len
    → len ≡ length filled → IsEmptiedTo (slice_set filled i false) (i + 1) len
emptied_one filled i len e less size = (
  (λ k more inside. get_or-set_other filled i k false false (λ s. absurd (omega (arith, s, more)))
      ∙ e.0 k (omega (arith, more)) inside),
  (λ k below. elim (cases_eq k i) [
    | inl s ↦ ap (λ x. get_or (slice_set filled i false) x false) s ∙ get_or-set_same filled i false
        false (omega (arith, less, size))
    | inr ne ↦ get_or-set_other filled i k false false ne ∙ e.1 k (omega (arith, below, ne))
  ]),
)

get_last : {P : Type 0} (xs : List P) (x q : P) (t : ℕ) → slice_get (xs ++ x ∷ []) t ≡ Some q
    → (slice_get xs t ≡ Some q) ⊎ ((t ≡ length xs) × (x ≡ q))
get_last [] x q zero e = inr (refl, same_Some x q e)
get_last [] x q (suc t) e = cc
get_last (y ∷ xs) x q zero e = inl e
get_last (y ∷ xs) x q (suc t) e = elim (get_last xs x q t e) [
  | inl f ↦ inl f
  | inr f
      ↦ inr (ap suc f.0, f.1)
]

pub roots_more : {P : Type 0} (nodes : ℕ) (items : List (Option P)) (s : ℕ) (roots : List P) (p : P)
    → AreAtRoots nodes items s roots
    → get_elem? items (s * nodes + (nodes - 1)) ≡ some (Some p) → AreAtRoots nodes items (s + 1)
    (roots ++ p ∷ [])
roots_more nodes items s roots p a at = record {
  count = let c = a.count in let l = length-append roots (p ∷ []) in omega (arith, c, l);
  each = λ t q e. elim (get_last roots p q t e) [
    | inl f ↦ a.each t q f
    | inr f ↦
        let same : t ≡ s = f.0 ∙ a.count in
        ap (λ x. get_elem? items (x * nodes + (nodes - 1))) same
        ∙ (at ∙ ap (λ x. some (Some x)) f.1)
  ];
}

pub not_missing : {P : Type 0} (items : List (Option P)) (i : ℕ) (p : P) (found : Option P)
    → get_elem? items i ≡ some found → found ≡ None → get_elem? items i ≡ some (Some p) → ⊥
not_missing items i p found a e h = let f : found ≡ Some p =
    some-injective found (Some p) (sym a ∙ h) in let g : None ≡ Some p = sym e ∙ f in cc

-- the next root was taken out, with what stands before it in its slot
pub roots_step : {P : Type 0} (n s slots len len' room room' : ℕ) (items items' : List (Option P))
    (mid filled : List Bool) (roots roots' : List P) (p : P)
    → 0 < n → s < slots → len ≡ slots * n → len ≡ length mid
    → IsEmptiedTo mid (s * n + (n - 1)) len → filled ≡ slice_set mid (s * n + (n - 1)) false
    → len' ≡ len
    → AreAtRoots n items s roots → roots' ≡ roots ++ p ∷ []
    → get_elem? items (s * n + (n - 1)) ≡ some (Some p) → slots ≤ room → room' ≡ room
    → IsEmptiedTo filled ((s + 1) * n) len' × AreAtRoots n items (s + 1) roots' × (slots ≤ room')
roots_step n s slots len len' room room' items items' mid filled roots roots' p positive less count
    size before f l at r here fits same =
    let inside = mul-add-lt s n (n - 1) slots less (omega (arith, positive)) in
    let next : s * n + (n - 1) + 1 ≡ (s + 1) * n = omega (arith, positive) in
    let one : IsEmptiedTo (slice_set mid (s * n + (n - 1)) false) (s * n + (n - 1) + 1) len =
    emptied_one mid (s * n + (n - 1)) len before (omega (arith, inside, count)) size in (
      subst (λ k. IsEmptiedTo filled ((s + 1) * n) k) (sym l)
          (subst (λ x. IsEmptiedTo x ((s + 1) * n) len) (sym f)
          (subst (λ j. IsEmptiedTo (slice_set mid (s * n + (n - 1)) false) j len) next one)),
      subst (AreAtRoots n items (s + 1)) (sym r) (roots_more n items s roots p at here),
      omega (arith, fits, same),
    )
