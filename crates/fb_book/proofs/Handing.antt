-- Whose pieces a fusion gets.
use Rattle.std.proofs.Common.{ℕ, ◌≡◌, ◌+◌, ◌*◌, ◌/◌, ◌%◌, ◌<◌, ◌==◌, true, Option, Some, None, List, refl, sym, ap, subst, ◌∙◌, arith}
use Rattle.std.proofs.lemmas.Bool.{eq-eqb, or_left, or_right}
use Rattle.std.proofs.lemmas.Nat.{div-mul-add, mod-mul-add}
use Rattle.std.proofs.lemmas.Option.{same_Some}
use Rattle.fb_plan.specs.Plans.{JobValue, children_of, node_count}
use Rattle.fb_book.specs.declared.entries.Entry.{Entry}
use Rattle.fb_book.specs.Machine.{IsForest, is_child}
use Rattle.fb_book.specs.Board.{Course, kids_in, kids_of, shifted_children}
use Rattle.fb_book.specs.Books.{AreOfChildren, HandsOut, IsKept, IsMadeOf, IsPieceAt, course_of, place_of}
use Rattle.fb_book.proofs.Places.{kids_at}

-- A place is of one slot and node.
pub one_item : (n s m t k : ℕ) → m < n → k < n → t * n + k ≡ s * n + m → (t ≡ s) × (k ≡ m)
one_item n s m t k less below same = (
  sym (div-mul-add t n k below) ∙ (ap (λ x. x / n) same ∙ div-mul-add s n m less),
  sym (mod-mul-add t n k below) ∙ (ap (λ x. x % n) same ∙ mod-mul-add s n m less),
)

module _ {P : Type 0} (job_of : P → JobValue) (slot_of node_of : P → ℕ) (made_of : P → Option (List ℕ)) (job : JobValue) where
  pub of_children : (s n left right : ℕ) (a b : P) → IsForest (kids_in job.plan.units job.plan.joins)
      → n < node_count job.plan → kids_in job.plan.units job.plan.joins (place_of job s n) ≡ Some (left, right)
      → IsPieceAt job_of slot_of node_of made_of job left a → IsPieceAt job_of slot_of node_of made_of job right b
      → AreOfChildren job_of slot_of node_of made_of job s n a b
  of_children s n left right a b forest less kids a_is b_is =
      step (children_of job.plan n) refl (sym (kids_at job.plan.units job.plan.joins s n less) ∙ kids)
    where
      base : ℕ
      base = s * node_count job.plan

      before : (c : ℕ) → is_child (Some (left, right)) c ≡ true → c < base + n
      before c h = forest.before (place_of job s n) c (ap (λ o. is_child o c) kids ∙ h)

      both_nodes : (l r x y : ℕ) → children_of job.plan n ≡ Some (l, r) → x ≡ l → y ≡ r
          → children_of job.plan n ≡ Some (x, y)
      both_nodes l r x y e left_is right_is =
          e ∙ (ap (λ z. Some (z, r)) (sym left_is) ∙ ap (λ z. Some (x, z)) (sym right_is))

      step : (o : Option (ℕ × ℕ)) → children_of job.plan n ≡ o
          → shifted_children base (children_of job.plan n) ≡ Some (left, right)
          → AreOfChildren job_of slot_of node_of made_of job s n a b
      step None e h =
          let none : shifted_children base (children_of job.plan n) ≡ None = ap (shifted_children base) e in
          cc
      step (Some (l, r)) e h =
          let pair : ◌≡◌ {A = ℕ × ℕ} (base + l, base + r) (left, right) =
          same_Some (base + l, base + r) (left, right) (sym (ap (shifted_children base) e) ∙ h) in
          let l_is : base + l ≡ left = ap (λ x. x.0) pair in
          let r_is : base + r ≡ right = ap (λ x. x.1) pair in
          let l_before : left < base + n = before left (or_left (left == left) (right == left) (eq-eqb left left refl)) in
          let r_before : right < base + n = before right (or_right (left == right) (right == right) (eq-eqb right right refl)) in
          let l_less : l < node_count job.plan = omega (arith, l_is, l_before, less) in
          let r_less : r < node_count job.plan = omega (arith, r_is, r_before, less) in
          let a_at = one_item (node_count job.plan) s l (slot_of a) (node_of a) l_less a_is.node (a_is.place_is ∙ sym l_is) in
          let b_at = one_item (node_count job.plan) s r (slot_of b) (node_of b) r_less b_is.node (b_is.place_is ∙ sym r_is) in
          record {
            left_job = a_is.job_is;
            right_job = b_is.job_is;
            left_slot = a_at.0;
            right_slot = b_at.0;
            nodes = both_nodes l r (node_of a) (node_of b) e a_at.1 b_at.1;
            left_made = a_is.made;
            right_made = b_is.made;
          }

  -- The pieces that are handed out are those of the fusion's children.
  pub handed : {workers : ℕ} {history : List Entry} {new : Course} {w s n : ℕ} {parked rest : List (Option P)} {a b : P}
      → IsKept job_of slot_of node_of made_of job workers history parked → IsForest (kids_of (course_of job history))
      → HandsOut (course_of job history) new w s n parked rest a b
      → AreOfChildren job_of slot_of node_of made_of job s n a b
  handed {workers} {history} {new} {w} {s} {n} {parked} {rest} {a} {b} kept forest h =
      of_children s n h.left h.right a b forest h.takes.adds.in_nodes h.takes.children
      (kept.pieces h.left a h.left_is) (kept.pieces h.right b h.right_is)

  -- The same said of other names.
  pub of_same : {s t n m : ℕ} {a b x y : P} → s ≡ t → n ≡ m → x ≡ a → y ≡ b
      → AreOfChildren job_of slot_of node_of made_of job s n x y → AreOfChildren job_of slot_of node_of made_of job t m a b
  of_same {s} {t} {n} {m} {a} {b} {x} {y} slot node left right h = record {
    left_job = subst (λ p. job_of p ≡ job) left h.left_job;
    right_job = subst (λ p. job_of p ≡ job) right h.right_job;
    left_slot = ap slot_of (sym left) ∙ (h.left_slot ∙ slot);
    right_slot = ap slot_of (sym right) ∙ (h.right_slot ∙ slot);
    nodes = ap (children_of job.plan) (sym node)
        ∙ (h.nodes ∙ (ap (λ p. Some (node_of p, node_of y)) left ∙ ap (λ p. Some (node_of a, node_of p)) right));
    left_made = subst (λ p. IsMadeOf node_of made_of job p) left h.left_made;
    right_made = subst (λ p. IsMadeOf node_of made_of job p) right h.right_made;
  }
