-- What a book keeps as a whole, and what its calls tell.
use Rattle.std.proofs.Common.{ℕ, ◌≡◌, ◌+◌, ◌-◌, ◌*◌, ◌/◌, ◌%◌, ◌^◌, ◌<◌, ◌≤◌, true, false, is_some, Option, Some, None, List, length, get_or, slice_get, set, ◌⊎◌, inl, inr, refl, sym, ap, subst, ◌∙◌, arith}
use Rattle.std.proofs.lemmas.Bool.{cases_lt, false≢true}
use Rattle.std.proofs.lemmas.List.{get_or_past}
use Rattle.std.proofs.lemmas.Option.{slice_get_within}
use Rattle.std.proofs.lemmas.Nat.{div-add-mod', mod-mul-add, mod_below, mul-add-lt}
use Rattle.fb_book.specs.declared.entries.EntryKind.{EntryKind}
use Rattle.fb_book.specs.declared.entries.EntryKind.TheVariants.{Took, Gave, Left}
use Rattle.fb_book.specs.declared.entries.Status.{Status}
use Rattle.fb_book.specs.declared.entries.Status.TheVariants.{Idle, Held, Given, Used, Left as Lost}
use Rattle.fb_book.specs.Machine.{IsForest, is_child, is_given, is_over, status_at}
use Rattle.fb_book.specs.Board.{Course, nodes_of, item_count, place_in, Adds, Lets, TakesUnit, TakesFusion, is_finished, is_fusion, kids_of, statuses_of}
use Rattle.fb_book.specs.InternalBoard.{IsBook, IsCourse}
use Rattle.fb_book.specs.Books.{course_of, AreRootPieces, HandsOut, IsPieceAt, place_of}
use Rattle.fb_plan.specs.Plans.{JobValue, node_count}
use Rattle.fb_book.proofs.History.{all_at, two_each, used_by_parent}
use Rattle.fb_book.proofs.Places.{child_at, unit_below}
use Rattle.fb_book.proofs.Products.{small_product}
use Rattle.fb_book.proofs.Waiting.{course_same, kept_unit_taken, kept_fusion_taken, both_wait, get_else, kept_given, kept_lost}

module _ {P : Type 0} {job_of : P → JobValue} {slot_of node_of : P → ℕ} {made_of : P → Option (List ℕ)}
    {job : JobValue} {workers : ℕ} {old : Course} {parked : List (Option P)} {roots : List P} {room : ℕ}
    (b : IsBook job_of slot_of node_of made_of job workers old parked roots room) (i : IsCourse old) where
  -- a permit's item is one of the job's
  pub slot_of_job : (s : ℕ) → s < old.slots → s < length job.shots
  slot_of_job s less = subst (λ c. s < c.slots) b.course less

  pub node_of_job : (n : ℕ) → n < nodes_of old → n < node_count job.plan
  node_of_job n less = subst (λ c. n < nodes_of c) b.course less

  pub place_same : (s n : ℕ) → place_of job s n ≡ place_in old s n
  place_same s n = ap (λ c. place_in c s n) (sym b.course)

  module _ (new : Course) (w s n : ℕ) where
    course_new : (kind : EntryKind) → Adds old new kind w s n → new ≡ course_of job new.history
    course_new kind a = course_same job_of slot_of node_of made_of job workers old new parked b.course i.run b.kept kind w s n a

    pub book_unit : w ≤ workers → TakesUnit old new w s n → IsBook job_of slot_of node_of made_of job workers new parked roots room
    book_unit few t = record {
      course = course_new Took t.adds;
      kept = kept_unit_taken job_of slot_of node_of made_of job workers old new parked b.course i.run b.kept w s n few t;
      roots_are = b.roots_are;
      roots_room = b.roots_room;
    }

    -- a node that is taken as a unit is one
    pub node_of_unit : TakesUnit old new w s n → n < job.plan.units
    node_of_unit t =
        unit_below job.plan.units job.plan.joins s n (node_of_job n t.adds.in_nodes)
        (subst (λ c. is_fusion c (place_in c s n) ≡ false) b.course t.unit)

    pub told_unit : TakesUnit old new w s n → TakesUnit (course_of job old.history) (course_of job new.history) w s n
    told_unit t =
        subst (λ c. TakesUnit c (course_of job new.history) w s n) b.course
        (subst (λ c. TakesUnit old c w s n) (course_new Took t.adds) t)

    pub book_fusion : (left right : ℕ) → w ≤ workers → TakesFusion old new w s n left right
        → (rest : List (Option P)) → rest ≡ set (set parked left None) right None
        → IsBook job_of slot_of node_of made_of job workers new rest roots room
    book_fusion left right few t rest rest_is = record {
      course = course_new Took t.adds;
      kept = kept_fusion_taken job_of slot_of node_of made_of job workers old new parked b.course i.run b.kept w s n left right few t rest rest_is;
      roots_are = b.roots_are;
      roots_room = b.roots_room;
    }

    pub pieces_wait : (left right : ℕ) → TakesFusion old new w s n left right
        → (is_some (get_or parked left None) ≡ true) × (is_some (get_or (set parked left None) right None) ≡ true)
    pieces_wait left right t =
        both_wait job_of slot_of node_of made_of job workers old new parked b.course i.run b.kept w s n left right t
        (i.forest.differ (place_in old s n) (left, right) t.children)

    pub told_fusion : (left right : ℕ) → TakesFusion old new w s n left right
        → (x y : P) → get_or parked left None ≡ Some x → get_or (set parked left None) right None ≡ Some y
        → (rest : List (Option P)) → rest ≡ set (set parked left None) right None
        → HandsOut (course_of job old.history) (course_of job new.history) w s n parked rest x y
    told_fusion left right t x y x_is y_is rest rest_is = record {
      left = left;
      right = right;
      takes = subst (λ c. TakesFusion c (course_of job new.history) w s n left right) b.course
          (subst (λ c. TakesFusion old c w s n left right) (course_new Took t.adds) t);
      left_is = x_is;
      right_is = sym (get_else parked left right None (i.forest.differ (place_in old s n) (left, right) t.children)) ∙ y_is;
      unparked = rest_is;
    }

    pub book_given : w ≤ workers → Lets old new Gave w s n
        → (piece : P) → IsPieceAt job_of slot_of node_of made_of job (place_of job s n) piece
        → (more : List (Option P)) → more ≡ set parked (place_in old s n) (Some piece)
        → IsBook job_of slot_of node_of made_of job workers new more roots room
    book_given few l piece piece_is more more_is = record {
      course = course_new Gave l.adds;
      kept = kept_given job_of slot_of node_of made_of job workers old new parked b.course i.run b.kept w s n few l piece
          (subst (λ k. IsPieceAt job_of slot_of node_of made_of job k piece) (place_same s n) piece_is) more more_is;
      roots_are = b.roots_are;
      roots_room = b.roots_room;
    }

    pub book_left : w ≤ workers → Lets old new Left w s n → IsBook job_of slot_of node_of made_of job workers new parked roots room
    book_left few l = record {
      course = course_new Left l.adds;
      kept = kept_lost job_of slot_of node_of made_of job workers old new parked b.course i.run b.kept w s n few l;
      roots_are = b.roots_are;
      roots_room = b.roots_room;
    }

  pub told_forest : IsForest (kids_of (course_of job old.history))
  told_forest = subst (λ c. IsForest (kids_of c)) b.course i.forest

  pub told_few : item_count (course_of job old.history) ≤ 2 ^ 45
  told_few = subst (λ c. item_count c ≤ 2 ^ 45) b.course (small_product old.slots (nodes_of old) i.few_slots i.few_nodes)

  -- no item has more than two entries
  pub told_two : length old.history ≤ 2 * item_count (course_of job old.history)
  told_two =
      subst (λ c. length c.history ≤ 2 * item_count c) b.course
      (two_each (kids_of old) (nodes_of old) (item_count old) old.history (statuses_of old) i.forest i.run).0

  -- the pieces that are taken out of the roots' places are of their items
  pub root_pieces : (taken : List P) (slots n : ℕ) → slots ≡ old.slots → n ≡ nodes_of old → length taken ≡ slots
      → ((s : ℕ) → s < slots → get_or parked (s * n + (n - 1)) None ≡ slice_get taken s)
      → AreRootPieces job_of slot_of node_of made_of job taken
  root_pieces taken slots n slots_is n_is count each = record {
    count = count ∙ (slots_is ∙ ap (λ c. c.slots) b.course);
    each = λ s p e.
        subst (λ k. IsPieceAt job_of slot_of node_of made_of job (s * k + (k - 1)) p) (n_is ∙ ap nodes_of b.course)
        (b.kept.pieces (s * n + (n - 1)) p (each s (subst (λ x. s < x) count (slice_get_within taken s p e)) ∙ e));
  }

-- where a piece stands is a place
pub some_inside : {P : Type 0} (xs : List (Option P)) (k : ℕ) → is_some (get_or xs k None) ≡ true → k < length xs
some_inside xs k h = step (cases_lt k (length xs))
  where
    step : (k < length xs) ⊎ (length xs ≤ k) → k < length xs
    step (inl less) = less
    step (inr more) = absurd (false≢true (sym (ap is_some (get_or_past xs k None more)) ∙ h))

-- At the end each root's piece waits, since no fusion uses a root.
pub root_waits : {P : Type 0} {job_of : P → JobValue} {slot_of node_of : P → ℕ} {made_of : P → Option (List ℕ)}
    {job : JobValue} {workers : ℕ} {old : Course} {parked : List (Option P)} {roots : List P} {room : ℕ}
    → IsBook job_of slot_of node_of made_of job workers old parked roots room → IsCourse old → is_finished old ≡ true
    → (s : ℕ) → s < old.slots → is_some (get_or parked (s * nodes_of old + (nodes_of old - 1)) None) ≡ true
root_waits {P} {job_of} {slot_of} {node_of} {made_of} {job} {workers} {old} {parked} b i done s less =
    sym (ap (λ c. is_given (status_at (statuses_of c) k)) b.course ∙ b.kept.given k) ∙ step (status_at (statuses_of old) k) refl
  where
    n : ℕ
    n = nodes_of old

    k : ℕ
    k = s * n + (n - 1)

    last : n - 1 < n
    last = let some : 0 < old.units = i.some in omega (arith, some)

    inside : k < item_count old
    inside = let e : s * n + (n - 1) < n * old.slots = mul-add-lt s n (n - 1) old.slots less last in omega (arith, e)

    parentless : (q : ℕ) → is_child (kids_of old q) k ≡ true → ⊥
    parentless q h =
        let a = child_at old.units old.joins q k h in
        let some : 0 < old.units = i.some in
        let q_node : q % n < n = mod_below q n (omega (arith, some)) in
        let before : k < q = i.forest.before q k h in
        let at : k ≡ q / n * n + a.node = a.place in
        let whole : q / n * n + q % n ≡ q = div-add-mod' q n in
        let below : a.node < q % n = omega (arith, before, at, whole) in
        let mine : k % n ≡ n - 1 = mod-mul-add s n (n - 1) last in
        let its : k % n ≡ a.node = ap (λ x. x % n) at ∙ mod-mul-add (q / n) n a.node (omega (arith, below, q_node)) in
        omega (arith, mine, its, below, q_node)

    step : (x : Status) → status_at (statuses_of old) k ≡ x → is_given (status_at (statuses_of old) k) ≡ true
    step Given e = ap is_given e
    step Used e =
        let (q, q_less, child, busy) =
        used_by_parent (kids_of old) n (item_count old) old.history (statuses_of old) i.forest i.run k inside e in
        absurd (parentless q child)
    step Idle e = absurd (false≢true (sym (ap is_over e) ∙ all_at is_over refl (statuses_of old) done k))
    step (Held w) e = absurd (false≢true (sym (ap is_over e) ∙ all_at is_over refl (statuses_of old) done k))
    step Lost e = absurd (false≢true (sym (ap is_over e) ∙ all_at is_over refl (statuses_of old) done k))
