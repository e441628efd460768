-- A rising renumbering of slots keeps what the machine allows, item by item.
use Rattle.std.proofs.Common.{ℕ, ◌≡◌, ◌+◌, ◌*◌, ◌<◌, ◌≤◌, ◌==◌, ◌&&◌, Bool, true, false, not, Option, Some, None, List, [], ◌∷◌, length, map, set, if◌then◌else◌, ◌⊎◌, inl, inr, refl, sym, ap, subst, ◌∙◌, arith}
use Rattle.std.proofs.lemmas.Bool.{eqb-false, eq-eqb, ltb-true, false≢true, cases_lt, and_parts, and_from, or_left, or_right}
use Rattle.std.proofs.lemmas.List.{get_or-replicate, length-replicate, length-set}
use Rattle.std.proofs.lemmas.Nat.{mul-add-lt}
use Rattle.std.proofs.Math.Nat.{mul-le-mul_right}
use Rattle.std.specs.Prelude.{nat_lt}
use Rattle.std.specs.List.{All, list_any}
use Rattle.std.proofs.lemmas.List.Elements.{All-nil, All-cons}
use Rattle.fb_book.specs.declared.entries.EntryKind.{EntryKind}
use Rattle.fb_book.specs.declared.entries.EntryKind.TheVariants.{Took, Gave, Left}
use Rattle.fb_book.specs.declared.entries.Entry.{Entry}
use Rattle.fb_book.specs.declared.entries.Status.{Status}
use Rattle.fb_book.specs.declared.entries.Status.TheVariants.{Idle, Held, Given, Used, Left as Lost}
use Rattle.fb_book.specs.Machine.{Kids, is_child, status_at, is_idle, is_held_by, is_given, is_left, is_used, are_given, is_permitted, with_used, after, place, allows, replay, all_idle}
use Rattle.fb_book.specs.Board.{kids_in, children_in, shifted_children}
use Rattle.fb_book.specs.Laws.{IsRenumbering, IsRenumbered, RenumberingAllows, renumbered_entry}
use Rattle.fb_book.proofs.History.{none_at, none_from}
use Rattle.fb_book.proofs.Handing.{one_item}
use Rattle.fb_book.proofs.Places.{kids_at, shifted_child}
use Rattle.fb_book.proofs.Statuses.{IsSetAt, here, there, set_at, within, held_is, may_take}

pub slot_below : (n s m slots : ℕ) → m < n → s * n + m < slots * n → s < slots
slot_below n s m slots less h = step (cases_lt s slots)
  where
    step : (s < slots) ⊎ (slots ≤ s) → s < slots
    step (inl below) = below
    step (inr above) =
        let most : slots * n ≤ s * n = mul-le-mul_right {m = slots} {n = s} n above in
        absurd (omega (arith, most, h))

-- Statuses over the former slots, and over those of the new numbers: each item's goes with it, and no other is lost.
pub record Goes (f : ℕ → ℕ) (n slots more : ℕ) (st new : List Status) : Type 0 where
  pub size : length st ≡ slots * n
  pub new_size : length new ≡ more * n
  pub same : (s m : ℕ) → s < slots → m < n → status_at new (f s * n + m) ≡ status_at st (s * n + m)
  pub lost : (k : ℕ) → is_left (status_at new k) ≡ true
      → (s : ℕ) × (m : ℕ) × (s < slots) × (m < n) × (k ≡ f s * n + m)

module _ (f : ℕ → ℕ) (n slots more : ℕ) (r : IsRenumbering f slots more) where
  pub injective : (s t : ℕ) → s < slots → t < slots → f s ≡ f t → s ≡ t
  injective s t s_less t_less e = step (cases_lt s t) (cases_lt t s)
    where
      step : (s < t) ⊎ (t ≤ s) → (t < s) ⊎ (s ≤ t) → s ≡ t
      step (inl a) b = let up : f s < f t = r.rising s t a t_less in absurd (omega (arith, up, e))
      step (inr a) (inl b) = let up : f t < f s = r.rising t s b s_less in absurd (omega (arith, up, e))
      step (inr a) (inr b) = omega (arith, a, b)

  pub place_less : (s m count : ℕ) → s < count → m < n → s * n + m < count * n
  place_less s m count a b = let e : s * n + m < n * count = mul-add-lt s n m count a b in omega (arith, e)

  put : (st new : List Status) → Goes f n slots more st new → (s m : ℕ) → s < slots → m < n → (x : Status)
      → Goes f n slots more (set st (s * n + m) x) (set new (f s * n + m) x)
  put st new g s m s_less m_less x = record {
    size = length-set st (s * n + m) x ∙ g.size;
    new_size = length-set new (f s * n + m) x ∙ g.new_size;
    same = λ t k t_less k_less. same t k t_less k_less
        (set_at st (s * n + m) x (t * n + k) old_in) (set_at new (f s * n + m) x (f t * n + k) new_in);
    lost = λ k h. lost k h (set_at new (f s * n + m) x k new_in);
  }
    where
      old_in : s * n + m < length st
      old_in = subst (λ c. s * n + m < c) (sym g.size) (place_less s m slots s_less m_less)

      new_in : f s * n + m < length new
      new_in = subst (λ c. f s * n + m < c) (sym g.new_size) (place_less (f s) m more (r.below s s_less) m_less)

      same : (t k : ℕ) → t < slots → k < n
          → IsSetAt (s * n + m) x (t * n + k) (status_at st (t * n + k)) (status_at (set st (s * n + m) x) (t * n + k))
          → IsSetAt (f s * n + m) x (f t * n + k) (status_at new (f t * n + k)) (status_at (set new (f s * n + m) x) (f t * n + k))
          → status_at (set new (f s * n + m) x) (f t * n + k) ≡ status_at (set st (s * n + m) x) (t * n + k)
      same t k t_less k_less (here i e) (here j h) = h ∙ sym e
      same t k t_less k_less (there i e) (there j h) = h ∙ (g.same t k t_less k_less ∙ sym e)
      same t k t_less k_less (here i e) (there j h) =
          let at = one_item n t k s m k_less m_less i in
          absurd (eqb-false (f s * n + m) (f t * n + k) j (ap (λ y. f y * n + m) at.0 ∙ ap (λ y. f t * n + y) at.1))
      same t k t_less k_less (there i e) (here j h) =
          let at = one_item n (f t) k (f s) m k_less m_less j in
          absurd (eqb-false (s * n + m) (t * n + k) i
          (ap (λ y. y * n + m) (injective s t s_less t_less at.0) ∙ ap (λ y. t * n + y) at.1))

      lost : (k : ℕ) → is_left (status_at (set new (f s * n + m) x) k) ≡ true
          → IsSetAt (f s * n + m) x k (status_at new k) (status_at (set new (f s * n + m) x) k)
          → (t : ℕ) × (q : ℕ) × (t < slots) × (q < n) × (k ≡ f t * n + q)
      lost k h (here i e) = (s, m, s_less, m_less, sym i)
      lost k h (there i e) = g.lost k (ap is_left (sym e) ∙ h)

  put_used : (st new : List Status) → Goes f n slots more st new → (s : ℕ) → s < slots → (o : Option (ℕ × ℕ))
      → ((c : ℕ) → is_child o c ≡ true → c < n)
      → Goes f n slots more (with_used (shifted_children (s * n) o) st) (with_used (shifted_children (f s * n) o) new)
  put_used st new g s s_less None low = g
  put_used st new g s s_less (Some (a, b)) low =
      put (set st (s * n + a) Used) (set new (f s * n + a) Used)
      (put st new g s a s_less (low a (or_left (a == a) (b == a) (eq-eqb a a refl))) Used)
      s b s_less (low b (or_right (a == b) (b == b) (eq-eqb b b refl))) Used

  given_too : (st new : List Status) → Goes f n slots more st new → (s : ℕ) → s < slots → (o : Option (ℕ × ℕ))
      → ((c : ℕ) → is_child o c ≡ true → c < n)
      → are_given new (shifted_children (f s * n) o) ≡ are_given st (shifted_children (s * n) o)
  given_too st new g s s_less None low = refl
  given_too st new g s s_less (Some (a, b)) low =
      ap (λ x. is_given x && is_given (status_at new (f s * n + b)))
      (g.same s a s_less (low a (or_left (a == a) (b == a) (eq-eqb a a refl))))
      ∙ ap (λ x. is_given (status_at st (s * n + a)) && is_given x)
      (g.same s b s_less (low b (or_right (a == b) (b == b) (eq-eqb b b refl))))

  unlost : (st new : List Status) → Goes f n slots more st new → list_any is_left st ≡ false → list_any is_left new ≡ false
  unlost st new g none = none_from is_left new (λ k less. step k (is_left (status_at new k)) refl)
    where
      step : (k : ℕ) (b : Bool) → is_left (status_at new k) ≡ b → is_left (status_at new k) ≡ false
      step k false e = e
      step k true e = meet (g.lost k e)
        where
          meet : (s : ℕ) × (m : ℕ) × (s < slots) × (m < n) × (k ≡ f s * n + m) → is_left (status_at new k) ≡ false
          meet (s, m, s_less, m_less, at) =
              ap (λ x. is_left (status_at new x)) at
              ∙ (ap is_left (g.same s m s_less m_less) ∙ none_at is_left refl st none (s * n + m))

  module _ (kids : Kids) (tree : ℕ → Option (ℕ × ℕ))
      (kids_are : (s m : ℕ) → m < n → kids (s * n + m) ≡ shifted_children (s * n) (tree m))
      (low : (m c : ℕ) → m < n → is_child (tree m) c ≡ true → c < n) where
    went : (st new : List Status) → Goes f n slots more st new → (e : Entry) → allows kids n st e ≡ true
        → (e.slot < slots) × (allows kids n new (renumbered_entry f e) ≡ true)
        × Goes f n slots more (after kids st e.kind e.worker (place n e))
        (after kids new e.kind e.worker (place n (renumbered_entry f e)))
    went st new g e allowed =
        let both = and_parts (nat_lt e.node n) (is_permitted kids st e.kind e.worker (place n e)) allowed in
        turn e.kind (ltb-true e.node n both.0) both.0 both.1
      where
        held_below : e.node < n → is_held_by e.worker (status_at st (place n e)) ≡ true → e.slot < slots
        held_below less h =
            slot_below n e.slot e.node slots less (subst (λ c. place n e < c) g.size
            (within st (place n e) (ap is_used (held_is e.worker (status_at st (place n e)) h))))

        -- what stands after the item was taken, by its children's former and new places
        Moved : Option (ℕ × ℕ) → Option (ℕ × ℕ) → Type 0
        Moved children images =
            Goes f n slots more (set (with_used children st) (place n e) (Held e.worker))
            (set (with_used images new) (place n (renumbered_entry f e)) (Held e.worker))

        turn : (kind : EntryKind) → e.node < n → nat_lt e.node n ≡ true → is_permitted kids st kind e.worker (place n e) ≡ true
            → (e.slot < slots) × ((nat_lt e.node n && is_permitted kids new kind e.worker (place n (renumbered_entry f e))) ≡ true)
            × Goes f n slots more (after kids st kind e.worker (place n e))
            (after kids new kind e.worker (place n (renumbered_entry f e)))
        turn Took less node may_it =
            let m = may_take kids st e.worker (place n e) may_it in
            let s_less = slot_below n e.slot e.node slots less (subst (λ c. place n e < c) g.size m.less) in
            let old_kids = kids_are e.slot e.node less in
            let new_kids = kids_are (f e.slot) e.node less in
            let given = ap (are_given new) new_kids ∙ (given_too st new g e.slot s_less (tree e.node) (λ c. low e.node c less)
            ∙ (ap (are_given st) (sym old_kids) ∙ m.given)) in
            let idle = ap is_idle (g.same e.slot e.node s_less less ∙ m.idle) in (
              s_less,
              and_from _ _ node (and_from _ _ (ap not (unlost st new g m.unstarved)) (and_from _ _ idle given)),
              subst (λ o. Moved o (kids (place n (renumbered_entry f e)))) (sym old_kids)
                  (subst (Moved (shifted_children (e.slot * n) (tree e.node))) (sym new_kids)
                  (put _ _ (put_used st new g e.slot s_less (tree e.node) (λ c. low e.node c less))
                  e.slot e.node s_less less (Held e.worker))),
            )
        turn Gave less node may_it =
            let s_less = held_below less may_it in (
              s_less,
              and_from _ _ node (ap (is_held_by e.worker) (g.same e.slot e.node s_less less) ∙ may_it),
              put st new g e.slot e.node s_less less Given,
            )
        turn Left less node may_it =
            let s_less = held_below less may_it in (
              s_less,
              and_from _ _ node (ap (is_held_by e.worker) (g.same e.slot e.node s_less less) ∙ may_it),
              put st new g e.slot e.node s_less less Lost,
            )

    went_on : (es : List Entry) (st new end : List Status) → Goes f n slots more st new → replay kids n st es ≡ Some end
        → (last : List Status) × (replay kids n new (map (renumbered_entry f) es) ≡ Some last)
        × Goes f n slots more end last × All (λ e. e.slot < slots) es
    went_on [] st new end g h =
        let ends : st ≡ end = some_is st end h in
        (new, refl, subst (λ x. Goes f n slots more x new) ends g, All-nil (λ e. e.slot < slots))
      where
        some_is : (x y : List Status) → Some x ≡ Some y → x ≡ y
        some_is x y e = cc
    went_on (e ∷ es) st new end g h = step (allows kids n st e) refl h (λ g' h'. went_on es next new_next end g' h')
      where
        next : List Status
        next = after kids st e.kind e.worker (place n e)

        new_next : List Status
        new_next = after kids new e.kind e.worker (place n (renumbered_entry f e))

        step : (b : Bool) → allows kids n st e ≡ b → (if b then replay kids n next es else None) ≡ Some end
            → (Goes f n slots more next new_next → replay kids n next es ≡ Some end
            → (last : List Status) × (replay kids n new_next (map (renumbered_entry f) es) ≡ Some last)
            × Goes f n slots more end last × All (λ e. e.slot < slots) es)
            → (last : List Status) × (replay kids n new (map (renumbered_entry f) (e ∷ es)) ≡ Some last)
            × Goes f n slots more end last × All (λ e. e.slot < slots) (e ∷ es)
        step true may e' rest =
            let (s_less, allowed, g') = went st new g e may in
            let (last, replayed, goes, all) = rest g' e' in (
              last,
              ap (λ b. if b then replay kids n new_next (map (renumbered_entry f) es) else None) allowed ∙ replayed,
              goes,
              All-cons (λ e. e.slot < slots) e es s_less all,
            )
        step false may e' rest = cc

goes_first : (f : ℕ → ℕ) (n slots more : ℕ) → IsRenumbering f slots more
    → Goes f n slots more (all_idle (slots * n)) (all_idle (more * n))
goes_first f n slots more r = record {
  size = length-replicate (slots * n) Idle;
  new_size = length-replicate (more * n) Idle;
  same = λ s m s_less m_less.
      get_or-replicate (more * n) (f s * n + m) Idle Used (place_less f n slots more r (f s) m more (r.below s s_less) m_less)
      ∙ sym (get_or-replicate (slots * n) (s * n + m) Idle Used (place_less f n slots more r s m slots s_less m_less));
  lost = λ k h. absurd (false≢true (sym (none_at is_left refl (all_idle (more * n))
      (none_from is_left (all_idle (more * n)) (λ j less. ap is_left (get_or-replicate (more * n) j Idle Used
      (subst (λ c. j < c) (length-replicate (more * n) Idle) less)))) k) ∙ h));
}

pub renumbering_allows : RenumberingAllows
renumbering_allows f units joins slots more history st r forest replayed =
    close (went_on f n slots more r (kids_in units joins) (children_in units joins) (λ s m less. kids_at units joins s m less)
    low history (all_idle (slots * n)) (all_idle (more * n)) st (goes_first f n slots more r) replayed)
  where
    n : ℕ
    n = units + length joins

    low : (m c : ℕ) → m < n → is_child (children_in units joins m) c ≡ true → c < n
    low m c less h =
        let at : kids_in units joins (0 * n + m) ≡ shifted_children (0 * n) (children_in units joins m) = kids_at units joins 0 m less in
        let before : 0 * n + c < 0 * n + m =
        forest.before (0 * n + m) (0 * n + c) (ap (λ o. is_child o (0 * n + c)) at ∙ shifted_child (0 * n) (children_in units joins m) c h) in
        omega (arith, before, less)

    close : (last : List Status) × (replay (kids_in units joins) n (all_idle (more * n)) (map (renumbered_entry f) history) ≡ Some last)
        × Goes f n slots more st last × All (λ e. e.slot < slots) history
        → IsRenumbered f (kids_in units joins) n slots more history st
    close (last, ends, goes, all) = record {
      statuses = last;
      replayed = ends;
      same = goes.same;
      slots_are = all;
    }
