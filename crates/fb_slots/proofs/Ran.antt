-- What the list of all entries tells.
use Rattle.std.proofs.Common.{ℕ, ◌≡◌, ◌*◌, ◌/◌, ◌%◌, ◌<◌, ◌≤◌, ◌==◌, not, zero, suc, Bool, true, Some, List, [], ◌∷◌, filter, get_or, length, arith, ap, sym, subst, ◌∙◌}
use Rattle.std.specs.Prelude.{unwrap_or}
use Rattle.std.proofs.lemmas.Bool.{eqb-true}
use Rattle.std.proofs.lemmas.Nat.{div-mul-add, mod-mul-add}
use Rattle.fb_plan.specs.Plans.{JobValue, node_count}
use Rattle.fb_book.specs.Board.{IsRun}
use Rattle.fb_book.specs.Books.{course_of}
use Rattle.std.proofs.lemmas.List.Elements.{All-append, All-nil, All-cons, All-head, All-tail, All-map, All-filter, filter_passes}
use Rattle.std.specs.List.{All}
use Rattle.fb_book.specs.declared.entries.EntryKind.{EntryKind}
use Rattle.fb_book.specs.declared.entries.Entry.{Entry}
use Rattle.fb_book.specs.Machine.{is_child, place, trace, is_loss_kind}
use Rattle.fb_book.specs.InternalBoard.{entry_at}
use Rattle.fb_slots.specs.Slots.{Layout, IsLayout, layout_of, IsWithin, CountsAt, parent, root, IsCountOf}
use Rattle.fb_slots.specs.Listed.{IsOrdered, entries_for, gains, leavings, listed_by, listing}
use Rattle.fb_slots.proofs.Listing.{any_run}

-- the listed entries are a run of the board's machine
pub run_of : (job : JobValue) (workers : ℕ) → IsLayout (layout_of job workers) → (es : List Entry)
    → IsOrdered (layout_of job workers) es
    → IsRun (course_of job (listing (node_count job.plan) (length job.shots * node_count job.plan)
    es))
run_of job workers is es o =
    let r = any_run (layout_of job workers) is es o in
    r.replayed ∙ ap (λ st. Some (unwrap_or st [])) (sym r.replayed)

pub parent_of : (b : Layout) (k c : ℕ) → IsCountOf b k c → k < c → is_child (b.kids c) k ≡ true
parent_of b k c i less = go i.counts
  where
    go : CountsAt b k c → is_child (b.kids c) k ≡ true
    go (parent e) = e
    go (root e r) = absurd (omega (arith, less, e))

-- What is listed says of an item, by its place, what some entry of its said.
module _ (P Q : Entry → Type 0) (n : ℕ)
    (each : (e : Entry) (k : ℕ) → place n e ≡ k → P e → Q (entry_at e.kind e.worker n k)) where
  abbrev IsOf : ℕ → EntryKind × ℕ → Type 0
  IsOf k x = Q (entry_at x.0 x.1 n k)

  traced : (k : ℕ) (es : List Entry) → All P es → All (IsOf k) (trace n k es)
  traced k es a =
      let here : Entry → Bool = λ e. place n e == k in
      All-map (IsOf k) (λ (e : Entry). (e.kind, e.worker)) (filter here es)
      (λ i d less. each (get_or (filter here es) i d) k
      (eqb-true (place n (get_or (filter here es) i d)) k (filter_passes here es i d less))
      (All-filter here P es a i d less))

  entered : (k : ℕ) (xs : List (EntryKind × ℕ)) → All (IsOf k) xs → All Q (entries_for n k xs)
  entered k [] a = All-nil Q
  entered k (x ∷ xs) a = All-cons Q (entry_at x.0 x.1 n k) (entries_for n k xs)
      (All-head (IsOf k) x xs a) (entered k xs (All-tail (IsOf k) x xs a))

  listed_all : (p : EntryKind × ℕ → Bool) (es : List Entry) → All P es → (k : ℕ)
      → All Q (listed_by (filter p) n es k)
  listed_all p es a zero = All-nil Q
  listed_all p es a (suc k) =
      All-append Q (listed_by (filter p) n es k) (entries_for n k (filter p (trace n k es)))
      (listed_all p es a k)
      (entered k (filter p (trace n k es)) (All-filter p (IsOf k) (trace n k es) (traced k es a)))

  all_listed : (count : ℕ) (es : List Entry) → All P es → All Q (listing n count es)
  all_listed count es a =
      All-append Q (listed_by gains n es count) (listed_by leavings n es count)
      (listed_all (λ x. not (is_loss_kind x.0)) es a count)
      (listed_all (λ x. is_loss_kind x.0) es a count)

pub by_listing : (w n count : ℕ) (es : List Entry) → All (λ e. e.worker ≤ w) es
    → All (λ e. e.worker ≤ w) (listing n count es)
by_listing w n count es a = all_listed (λ e. e.worker ≤ w) (λ e. e.worker ≤ w) n (λ e k at by. by)
    count es a

-- What is true of each entry is true of each that is listed.
module _ (Q : Entry → Type 0) (n : ℕ) where
  restored : (e : Entry) (k : ℕ) → place n e ≡ k → (e.node < n) × Q e
      → Q (entry_at e.kind e.worker n k)
  restored e k at fits =
      let slot : e.slot ≡ k / n = sym (div-mul-add e.slot n e.node fits.0) ∙ ap (λ x. x / n) at in
      let node : e.node ≡ k % n = sym (mod-mul-add e.slot n e.node fits.0) ∙ ap (λ x. x % n) at in
      subst Q (λ i. record { kind = e.kind; worker = e.worker; slot = slot i; node = node i }) fits.1

  pub same_listing : (count : ℕ) (es : List Entry) → All (λ e. e.node < n) es → All Q es
      → All Q (listing n count es)
  same_listing count es inside a = all_listed (λ e. (e.node < n) × Q e) Q n restored count es
      (λ k d less. (inside k d less, a k d less))

pub within_by : (b : Layout) (es : List Entry) → All (IsWithin b) es
    → All (λ e. e.worker ≤ b.workers) es
within_by b es a = λ k d less. (a k d less).2

pub inside_by : (b : Layout) (es : List Entry) → All (IsWithin b) es → All (λ e. e.node < b.nodes) es
inside_by b es a = λ k d less. (a k d less).0
