-- The entries of all seats in the order of their items are a run.
use Rattle.std.proofs.Common.{ℕ, ◌≡◌, ◌≢◌, ◌+◌, ◌%◌, ◌<◌, ◌≤◌, Bool, true, false, not, Option, Some, None, List, [], ◌∷◌, ◌++◌, length, ◌⊎◌, inl, inr, refl, sym, ap, subst, ◌∙◌, arith, zero, suc, set}
use Rattle.std.proofs.lemmas.Bool.{cases_eq, cases_lt, true≢false, false≢true, eq-eqb, and_from, lt-ltb}
use Rattle.std.proofs.lemmas.Nat.{mod_below}
use Rattle.std.proofs.lemmas.List.{append-nil, append_assoc, length-replicate, get_or-replicate}
use Rattle.std.specs.List.{list_any, list_all}
use Rattle.std.specs.Prelude.{nat_lt}
use Rattle.fb_book.specs.declared.entries.EntryKind.{EntryKind}
use Rattle.fb_book.specs.declared.entries.EntryKind.TheVariants.{Took, Gave, Left}
use Rattle.fb_book.specs.declared.entries.Entry.{Entry}
use Rattle.fb_book.specs.declared.entries.Status.{Status}
use Rattle.fb_book.specs.declared.entries.Status.TheVariants.{Idle, Held, Given, Used, Left as Lost}
use Rattle.fb_book.specs.Machine.{is_child, place, trace, replay, after, allows, is_permitted, all_idle, status_at, is_idle, is_given, is_left, is_over, is_held_by, are_given, can_take}
use Rattle.fb_book.proofs.Statuses.{IsSetAt, here, there, IsTakenAt, taken, used, same, set_at, taken_at, length-after}
use Rattle.fb_book.proofs.History.{none_from, all_from}
use Rattle.fb_book.proofs.Boards.{replay_more}
use Rattle.std.proofs.lemmas.List.{length-set}
use Rattle.fb_book.specs.InternalBoard.{entry_at}
use Rattle.fb_slots.specs.Slots.{Layout, IsLayout, weigh, as_taken, as_given, IsDone, nothing, holds, gave, left}
use Rattle.fb_slots.specs.Listed.{entries_for, gains, leavings, listed_by, listing, IsOrdered}
use Rattle.fb_slots.proofs.Items.{child_is, left_is, right_is}
use Rattle.fb_slots.proofs.Hands.{place_entry}

module _ (b : Layout) (is : IsLayout b) (es : List Entry) (o : IsOrdered b es) where
  abbrev tr : ℕ → List (EntryKind × ℕ)
  tr k = trace b.nodes k es

  -- the statuses once the items below m were listed
  record IsAt (m : ℕ) (st : List Status) : Type 0 where
    size : length st ≡ b.count
    idle : (j : ℕ) → m ≤ j → j < b.count → status_at st j ≡ Idle
    held : (j w : ℕ) (rest : List (EntryKind × ℕ)) → j < m → tr j ≡ (Took, w) ∷ rest
        → weigh as_given rest ≡ 0 → status_at st j ≡ Held w
    given : (j : ℕ) → j < m → weigh as_given (tr j) ≡ 1
        → ((p : ℕ) → p < m → is_child (b.kids p) j ≡ true → weigh as_taken (tr p) ≡ 0)
        → status_at st j ≡ Given
    over : (j : ℕ) → j < m → weigh as_given (tr j) ≡ 1 → is_over (status_at st j) ≡ true
    unleft : (j : ℕ) → is_left (status_at st j) ≡ false

  -- item m is taken, and has the status s
  record IsNext (m : ℕ) (s : Status) (st st' : List Status) : Type 0 where
    size : length st' ≡ length st
    here_is : status_at st' m ≡ s
    kid : (j : ℕ) → is_child (b.kids m) j ≡ true → status_at st' j ≡ Used
    other : (j : ℕ) → j ≢ m → is_child (b.kids m) j ≡ false → status_at st' j ≡ status_at st j

  skip : (m : ℕ) (st : List Status) → tr m ≡ [] → IsAt m st → IsAt (suc m) st
  skip m st none a = record {
    size = a.size;
    idle = λ j more less. a.idle j (omega (arith, more)) less;
    held = λ j w rest less t g. elim (cases_eq j m) [
      | inl e ↦ let bad : [] ≡ (Took, w) ∷ rest = sym none ∙ (ap tr (sym e) ∙ t) in cc
      | inr ne ↦ a.held j w rest (omega (arith, less, ne)) t g
    ];
    given = λ j less g up. elim (cases_eq j m) [
      | inl e ↦ let z : weigh as_given (tr j) ≡ 0 = ap (weigh as_given) (ap tr e ∙ none) in
          absurd (omega (arith, g, z))
      | inr ne ↦ a.given j (omega (arith, less, ne)) g (λ p below h. up p (omega (arith, below)) h)
    ];
    over = λ j less g. elim (cases_eq j m) [
      | inl e ↦ let z : weigh as_given (tr j) ≡ 0 = ap (weigh as_given) (ap tr e ∙ none) in
          absurd (omega (arith, g, z))
      | inr ne ↦ a.over j (omega (arith, less, ne)) g
    ];
    unleft = a.unleft;
  }

  next : (m : ℕ) (s : Status) (st st' : List Status) → m < b.count → 0 < weigh as_taken (tr m)
      → is_left s ≡ false
      → ((w : ℕ) (rest : List (EntryKind × ℕ)) → tr m ≡ (Took, w) ∷ rest → weigh as_given rest ≡ 0
      → s ≡ Held w)
      → (weigh as_given (tr m) ≡ 1 → s ≡ Given) → IsAt m st → IsNext m s st st' → IsAt (suc m) st'
  next m s st st' less took unlost s_held s_given a n = record {
    size = n.size ∙ a.size;
    idle = λ j more inside. n.other j (λ e. absurd (omega (arith, more, e)))
        (above j (is_child (b.kids m) j) refl more) ∙ a.idle j (omega (arith, more)) inside;
    held = λ j w rest below t g. held j w rest below t g (cases_eq j m) (is_child (b.kids m) j)
        refl;
    given = λ j below g up. given j below g up (cases_eq j m) (is_child (b.kids m) j) refl;
    over = λ j below g. over j below g (cases_eq j m) (is_child (b.kids m) j) refl;
    unleft = λ j. unleft j (cases_eq j m) (is_child (b.kids m) j) refl;
  }
    where
      above : (j : ℕ) (r : Bool) → is_child (b.kids m) j ≡ r → suc m ≤ j → r ≡ false
      above j true h more = let low : j < m = is.forest.before m j h in
          absurd (omega (arith, low, more))
      above j false h more = refl

      kid_given : (j : ℕ) → is_child (b.kids m) j ≡ true → weigh as_given (tr j) ≡ 1
      kid_given j h = go (b.kids m) refl
        where
          go : (q : Option (ℕ × ℕ)) → b.kids m ≡ q → weigh as_given (tr j) ≡ 1
          go None e = absurd (false≢true (ap (λ x. is_child x j) (sym e) ∙ h))
          go (Some pair) e =
              let both = o.ready m pair less e took in
              elim (child_is pair j (ap (λ x. is_child x j) (sym e) ∙ h)) [
                | inl f ↦ ap (λ x. weigh as_given (tr x)) f ∙ both.0
                | inr f ↦ ap (λ x. weigh as_given (tr x)) f ∙ both.1
              ]

      held : (j w : ℕ) (rest : List (EntryKind × ℕ)) → j < suc m → tr j ≡ (Took, w) ∷ rest
          → weigh as_given rest ≡ 0 → (j ≡ m) ⊎ (j ≢ m)
          → (r : Bool) → is_child (b.kids m) j ≡ r → status_at st' j ≡ Held w
      held j w rest below t g (inl e) r h = ap (status_at st') e
          ∙ (n.here_is ∙ s_held w rest (ap tr (sym e) ∙ t) g)
      held j w rest below t g (inr ne) true h =
          let one = kid_given j h in let z : weigh as_given (tr j) ≡ 0 + weigh as_given rest =
          ap (weigh as_given) t in absurd (omega (arith, one, z, g))
      held j w rest below t g (inr ne) false h = n.other j ne h ∙ a.held j w rest
          (omega (arith, below, ne)) t g

      given : (j : ℕ) → j < suc m → weigh as_given (tr j) ≡ 1
          → ((p : ℕ) → p < suc m → is_child (b.kids p) j ≡ true → weigh as_taken (tr p) ≡ 0)
          → (j ≡ m) ⊎ (j ≢ m)
          → (r : Bool) → is_child (b.kids m) j ≡ r → status_at st' j ≡ Given
      given j below g up (inl e) r h = ap (status_at st') e
          ∙ (n.here_is ∙ s_given (ap (λ x. weigh as_given (tr x)) (sym e) ∙ g))
      given j below g up (inr ne) true h = let z = up m (omega arith) h in
          absurd (omega (arith, z, took))
      given j below g up (inr ne) false h = n.other j ne h ∙ a.given j (omega (arith, below, ne)) g
          (λ p low f. up p (omega (arith, low)) f)

      over : (j : ℕ) → j < suc m → weigh as_given (tr j) ≡ 1 → (j ≡ m) ⊎ (j ≢ m) → (r : Bool)
          → is_child (b.kids m) j ≡ r → is_over (status_at st' j) ≡ true
      over j below g (inl e) r h =
          ap is_over (ap (status_at st') e
          ∙ (n.here_is ∙ s_given (ap (λ x. weigh as_given (tr x)) (sym e) ∙ g)))
      over j below g (inr ne) true h = ap is_over (n.kid j h)
      over j below g (inr ne) false h = ap is_over (n.other j ne h)
          ∙ a.over j (omega (arith, below, ne)) g

      unleft : (j : ℕ) → (j ≡ m) ⊎ (j ≢ m) → (r : Bool) → is_child (b.kids m) j ≡ r
          → is_left (status_at st' j) ≡ false
      unleft j (inl e) r h = ap is_left (ap (status_at st') e ∙ n.here_is) ∙ unlost
      unleft j (inr ne) true h = ap is_left (n.kid j h)
      unleft j (inr ne) false h = ap is_left (n.other j ne h) ∙ a.unleft j

  -- the item at m can be taken then
  may : (m : ℕ) (st : List Status) → m < b.count → 0 < weigh as_taken (tr m) → IsAt m st → (w : ℕ)
      → allows b.kids b.nodes st (entry_at Took w b.nodes m) ≡ true
  may m st less took a w =
      and_from (nat_lt (m % b.nodes) b.nodes)
      (is_permitted b.kids st Took w (place b.nodes (entry_at Took w b.nodes m)))
      (lt-ltb (m % b.nodes) b.nodes (mod_below m b.nodes is.some))
      (ap (is_permitted b.kids st Took w) (place_entry Took w b.nodes m)
      ∙ and_from (not (list_any is_left st)) (can_take b.kids st m)
      (ap not (none_from is_left st (λ k inside. a.unleft k)))
      (and_from (is_idle (status_at st m)) (are_given st (b.kids m))
      (ap is_idle (a.idle m (omega arith) less)) (all_given (b.kids m) refl)))
    where
      one : (pair : ℕ × ℕ) (c : ℕ) → is_child (b.kids m) c ≡ true → weigh as_given (tr c) ≡ 1
          → is_given (status_at st c) ≡ true
      one pair c h g =
          ap is_given (a.given c (is.forest.before m c h) g (λ p low f. let e : p ≡ m =
          is.forest.once p m c f h in absurd (omega (arith, e, low))))

      all_given : (q : Option (ℕ × ℕ)) → b.kids m ≡ q → are_given st q ≡ true
      all_given None e = refl
      all_given (Some pair) e =
          let both = o.ready m pair less e took in
          and_from (is_given (status_at st pair.0)) (is_given (status_at st pair.1))
          (one pair pair.0 (left_is (b.kids m) pair e) both.0)
          (one pair pair.1 (right_is (b.kids m) pair e) both.1)

  -- it is taken
  took_next : (m w : ℕ) (st : List Status) → m < length st
      → IsNext m (Held w) st (after b.kids st Took w m)
  took_next m w st less = record {
    size = length-after b.kids st m w;
    here_is = mine (taken_at b.kids st m w m less);
    kid = λ j h. kid j h (taken_at b.kids st m w j less);
    other = λ j ne h. other j ne h (taken_at b.kids st m w j less);
  }
    where
      new : List Status
      new = after b.kids st Took w m

      mine : IsTakenAt (b.kids m) m w m (status_at st m) (status_at new m)
          → status_at new m ≡ Held w
      mine (taken i f) = f
      mine (used i h f) = absurd (true≢false (sym (eq-eqb m m refl) ∙ i))
      mine (same i h f) = absurd (true≢false (sym (eq-eqb m m refl) ∙ i))

      kid : (j : ℕ) → is_child (b.kids m) j ≡ true → IsTakenAt (b.kids m) m w j (status_at st j)
          (status_at new j) → status_at new j ≡ Used
      kid j h (taken i f) = let low : j < m = is.forest.before m j h in
          absurd (omega (arith, low, i))
      kid j h (used i g f) = f
      kid j h (same i g f) = absurd (true≢false (sym h ∙ g))

      other : (j : ℕ) → j ≢ m → is_child (b.kids m) j ≡ false
          → IsTakenAt (b.kids m) m w j (status_at st j) (status_at new j)
          → status_at new j ≡ status_at st j
      other j ne h (taken i f) = absurd (ne (sym i))
      other j ne h (used i g f) = absurd (true≢false (sym g ∙ h))
      other j ne h (same i g f) = f

  -- and given
  gave_next : (m : ℕ) (s t : Status) (st st' : List Status) → m < length st' → IsNext m s st st'
      → IsNext m t st (set st' m t)
  gave_next m s t st st' less n = record {
    size = length-set st' m t ∙ n.size;
    here_is = mine (set_at st' m t m less);
    kid = λ j h. kid j h (set_at st' m t j less);
    other = λ j ne h. other j ne h (set_at st' m t j less);
  }
    where
      mine : IsSetAt m t m (status_at st' m) (status_at (set st' m t) m)
          → status_at (set st' m t) m ≡ t
      mine (here i f) = f
      mine (there i f) = absurd (true≢false (sym (eq-eqb m m refl) ∙ i))

      kid : (j : ℕ) → is_child (b.kids m) j ≡ true → IsSetAt m t j (status_at st' j)
          (status_at (set st' m t) j) → status_at (set st' m t) j ≡ Used
      kid j h (here i f) = let low : j < m = is.forest.before m j h in
          absurd (omega (arith, low, i))
      kid j h (there i f) = f ∙ n.kid j h

      other : (j : ℕ) → j ≢ m → is_child (b.kids m) j ≡ false → IsSetAt m t j (status_at st' j)
          (status_at (set st' m t) j) → status_at (set st' m t) j ≡ status_at st j
      other j ne h (here i f) = absurd (ne (sym i))
      other j ne h (there i f) = f ∙ n.other j ne h

  -- the entries that aren't losses, of the items below m
  record IsListed (m : ℕ) : Type 0 where
    statuses : List Status
    replayed : replay b.kids b.nodes (all_idle b.count) (listed_by gains b.nodes es m) ≡ Some
        statuses
    at : IsAt m statuses

  one_more : (m : ℕ) (xs : List (EntryKind × ℕ)) → tr m ≡ xs → IsDone xs → m < b.count → IsListed m
      → IsListed (suc m)
  one_more m xs e d less l = go xs e d
    where
      n : ℕ
      n = b.nodes

      Goal : List (EntryKind × ℕ) → Type 0
      Goal ys = (st : List Status)
          × (replay b.kids n (all_idle b.count) (listed_by gains n es m ++ entries_for n m
          (gains ys)) ≡ Some st) × IsAt (suc m) st

      pack : (ys : List (EntryKind × ℕ)) → tr m ≡ ys → Goal ys → IsListed (suc m)
      pack ys f g = let t = subst Goal (sym f) g in record {
        statuses = t.0;
        replayed = t.1;
        at =
            t.2;
      }

      inside : m < length l.statuses
      inside = let s = l.at.size in omega (arith, s, less)

      -- after the item was taken
      first : (w : ℕ) → 0 < weigh as_taken (tr m) → replay b.kids n (all_idle b.count)
          (listed_by gains n es m ++ entry_at Took w n m ∷ []) ≡ Some
          (after b.kids l.statuses Took w m)
      first w took =
          replay_more b.kids n (listed_by gains n es m) (all_idle b.count) l.statuses
          (entry_at Took w n m) l.replayed (may m l.statuses less took l.at w)
          ∙ ap (λ x. Some (after b.kids l.statuses Took w x)) (place_entry Took w n m)

      -- held: nothing more is listed
      holding : (w : ℕ) (rest : List (EntryKind × ℕ)) → tr m ≡ (Took, w) ∷ rest → weigh as_given rest ≡ 0
          → IsAt (suc m) (after b.kids l.statuses Took w m)
      holding w rest t g =
          let took : 0 < weigh as_taken (tr m) = let c = ap (weigh as_taken) t in
          omega (arith, c) in
          let none_given = ap (weigh as_given) t in
          next m (Held w) l.statuses (after b.kids l.statuses Took w m) less took refl
          (λ v rest' t' g'. let f : (Took, w) ∷ rest ≡ (Took, v) ∷ rest' = sym t ∙ t' in
          let q : ◌≡◌ {A = EntryKind × ℕ} (Took, w) (Took, v) = cc in ap (λ (x : EntryKind × ℕ). Held x.1)
          q)
          (λ one. absurd (omega (arith, one, none_given, g))) l.at (took_next m w l.statuses inside)

      go : (xs : List (EntryKind × ℕ)) → tr m ≡ xs → IsDone xs → IsListed (suc m)
      go xs f nothing = pack [] f (
        l.statuses,
        ap (replay b.kids n (all_idle b.count))
            (append-nil (listed_by gains n es m)) ∙ l.replayed,
        skip m l.statuses f l.at,
      )
      go xs f (holds w) =
          pack ((Took, w) ∷ []) f (
            after b.kids l.statuses Took w m,
            first w (let c =
                ap (weigh as_taken) f in omega (arith, c)),
            holding w [] f refl,
          )
      go xs f (left w) =
          pack ((Took, w) ∷ (Left, w) ∷ []) f (
            after b.kids l.statuses Took w m,
            first w (let c =
                ap (weigh as_taken) f in omega (arith, c)),
            holding w ((Left, w) ∷ []) f refl,
          )
      go xs f (gave w) =
          let took : 0 < weigh as_taken (tr m) = let c = ap (weigh as_taken) f in
          omega (arith, c) in
          let st1 : List Status = after b.kids l.statuses Took w m in
          let t1 = took_next m w l.statuses inside in
          let st2 : List Status = set st1 m Given in
          let less1 : m < length st1 = let s = t1.size in omega (arith, s, inside) in
          let held_now : is_permitted b.kids st1 Gave w (place n (entry_at Gave w n m)) ≡ true =
          ap (λ x. is_held_by w (status_at st1 x)) (place_entry Gave w n m)
          ∙ (ap (is_held_by w) t1.here_is ∙ eq-eqb w w refl) in
          let ok : allows b.kids n st1 (entry_at Gave w n m) ≡ true =
          and_from (nat_lt (m % n) n) (is_permitted b.kids st1 Gave w
          (place n (entry_at Gave w n m))) (lt-ltb (m % n) n (mod_below m n is.some))
          held_now in
          let second : replay b.kids n (all_idle b.count)
          ((listed_by gains n es m ++ entry_at Took w n m ∷ []) ++ entry_at Gave w n
          m ∷ []) ≡ Some st2 =
          replay_more b.kids n (listed_by gains n es m ++ entry_at Took w n m ∷ [])
          (all_idle b.count) st1 (entry_at Gave w n m) (first w took) ok
          ∙ ap (λ x. Some (set st1 x Given)) (place_entry Gave w n m) in
          pack ((Took, w) ∷ (Gave, w) ∷ []) f (
            st2,
            ap (replay b.kids n (all_idle b.count))
                (sym (append_assoc (listed_by gains n es m) (entry_at Took w n m ∷ [])
                (entry_at Gave w n m ∷ []))) ∙ second,
            next m Given l.statuses st2 less took refl
                (λ v rest t g. let q : (Took, w) ∷ (Gave, w) ∷ [] ≡ (Took, v) ∷ rest = sym f ∙ t in
                let r : (Gave, w) ∷ [] ≡ rest = cc in let c = ap (weigh as_given) r in
                absurd (omega (arith, c, g)))
                (λ one. refl) l.at (gave_next m (Held w) Given l.statuses st1 less1 t1),
          )

  all_listed : (m : ℕ) → m ≤ b.count → IsListed m
  all_listed zero le = record {
    statuses = all_idle b.count;
    replayed = refl;
    at = record {
      size = length-replicate b.count Idle;
      idle = λ j more less. get_or-replicate b.count j Idle Used less;
      held = λ j w rest less t g. absurd (omega (arith, less));
      given = λ j less g up. absurd (omega (arith, less));
      over = λ j less g. absurd (omega (arith, less));
      unleft = λ j. unleft j (cases_lt j b.count);
    };
  }
    where
      unleft : (j : ℕ) → (j < b.count) ⊎ (b.count ≤ j)
          → is_left (status_at (all_idle b.count) j) ≡ false
      unleft j (inl less) = ap is_left (get_or-replicate b.count j Idle Used less)
      unleft j (inr more) = ap is_left (Rattle.std.proofs.lemmas.List.get_or_past (all_idle b.count)
          j Used (let s = length-replicate b.count Idle in omega (arith, s, more)))
  all_listed (suc m) le = one_more m (tr m) refl (o.done m) (omega (arith, le))
      (all_listed m (omega (arith, le)))

  -- where every item was given, the list leaves each given or used
  pub record IsRunOf (h : List Entry) : Type 0 where
    pub statuses : List Status
    pub replayed : replay b.kids b.nodes (all_idle b.count) h ≡ Some statuses

  pub record IsDoneBy (h : List Entry) : Type 0 where
    pub statuses : List Status
    pub replayed : replay b.kids b.nodes (all_idle b.count) h ≡ Some statuses
    pub over : list_all is_over statuses ≡ true

  pub whole_run : ((k : ℕ) → k < b.count → weigh as_given (tr k) ≡ 1)
      → IsDoneBy (listed_by gains b.nodes es b.count)
  whole_run all =
      let l = all_listed b.count (omega arith) in
      record {
        statuses = l.statuses;
        replayed = l.replayed;
        over = all_from is_over l.statuses (λ k less. let s = l.at.size in
            let inside : k < b.count = omega (arith, s, less) in l.at.over k inside (all k inside));
      }

  -- the losses of the items below m
  record IsLosing (m : ℕ) : Type 0 where
    statuses : List Status
    replayed : replay b.kids b.nodes (all_idle b.count)
        (listed_by gains b.nodes es b.count ++ listed_by leavings b.nodes es m) ≡ Some statuses
    size : length statuses ≡ b.count
    held : (j w : ℕ) → m ≤ j → j < b.count → tr j ≡ (Took, w) ∷ (Left, w) ∷ []
        → status_at statuses j ≡ Held w

  lose_more : (m : ℕ) → m < b.count → IsLosing m → IsLosing (suc m)
  lose_more m less l = go (tr m) refl (o.done m)
    where
      n : ℕ
      n = b.nodes

      h : List Entry
      h = listed_by gains n es b.count ++ listed_by leavings n es m

      Goal : List (EntryKind × ℕ) → Type 0
      Goal ys = (st : List Status)
          × (replay b.kids n (all_idle b.count)
          (listed_by gains n es b.count ++ (listed_by leavings n es m ++ entries_for n m
          (leavings ys))) ≡ Some st)
          × (length st ≡ b.count) × ((j w : ℕ) → suc m ≤ j → j < b.count
          → tr j ≡ (Took, w) ∷ (Left, w) ∷ [] → status_at st j ≡ Held w)

      pack : (ys : List (EntryKind × ℕ)) → tr m ≡ ys → Goal ys → IsLosing (suc m)
      pack ys f g = let t = subst Goal (sym f) g in record {
        statuses = t.0;
        replayed = t.1;
        size =
            t.2;
        held = t.3;
      }

      still : Goal []
      still = (
        l.statuses,
        ap (λ x. replay b.kids n (all_idle b.count) (listed_by gains n es b.count ++ x))
            (append-nil (listed_by leavings n es m)) ∙ l.replayed,
        l.size,
        (λ j w more inside t. l.held j w (omega (arith, more)) inside t),
      )

      go : (xs : List (EntryKind × ℕ)) → tr m ≡ xs → IsDone xs → IsLosing (suc m)
      go xs f nothing = pack [] f still
      go xs f (holds w) = pack ((Took, w) ∷ []) f still
      go xs f (gave w) = pack ((Took, w) ∷ (Gave, w) ∷ []) f still
      go xs f (left w) =
          let st1 : List Status = set l.statuses m Lost in
          let inside : m < length l.statuses = let s = l.size in omega (arith, s, less) in
          let held_now : is_permitted b.kids l.statuses Left w
          (place n (entry_at Left w n m)) ≡ true =
          ap (λ x. is_held_by w (status_at l.statuses x)) (place_entry Left w n m)
          ∙ (ap (is_held_by w) (l.held m w (omega arith) less f) ∙ eq-eqb w w refl) in
          let ok : allows b.kids n l.statuses (entry_at Left w n m) ≡ true =
          and_from (nat_lt (m % n) n) (is_permitted b.kids l.statuses Left w
          (place n (entry_at Left w n m))) (lt-ltb (m % n) n (mod_below m n is.some))
          held_now in
          let step : replay b.kids n (all_idle b.count) (h ++ entry_at Left w n m ∷ []) ≡ Some st1 =
          replay_more b.kids n h (all_idle b.count) l.statuses (entry_at Left w n m) l.replayed ok
          ∙ ap (λ x. Some (set l.statuses x Lost)) (place_entry Left w n m) in
          pack ((Took, w) ∷ (Left, w) ∷ []) f (
            st1,
            ap (replay b.kids n (all_idle b.count))
                (sym (append_assoc (listed_by gains n es b.count) (listed_by leavings n es m)
                (entry_at Left w n m ∷ []))) ∙ step,
            length-set l.statuses m Lost ∙ l.size,
            (λ j v more below t. other j more (set_at l.statuses m Lost j inside)
                ∙ l.held j v (omega (arith, more)) below t),
          )
        where
          other : (j : ℕ) → suc m ≤ j → IsSetAt m Lost j (status_at l.statuses j)
              (status_at (set l.statuses m Lost) j) → status_at (set l.statuses m Lost)
              j ≡ status_at l.statuses j
          other j more (here i f) = absurd (omega (arith, more, i))
          other j more (there i f) = f

  all_lost : (m : ℕ) → m ≤ b.count → IsLosing m
  all_lost zero le =
      let l = all_listed b.count (omega arith) in
      record {
        statuses = l.statuses;
        replayed = ap (replay b.kids b.nodes (all_idle b.count))
            (append-nil (listed_by gains b.nodes es b.count)) ∙ l.replayed;
        size = l.at.size;
        held = λ j w more less t. l.at.held j w ((Left, w) ∷ []) less t refl;
      }
  all_lost (suc m) le = lose_more m (omega (arith, le)) (all_lost m (omega (arith, le)))

  -- all entries in this order are a run
  pub any_run : IsRunOf (listing b.nodes b.count es)
  any_run = let l = all_lost b.count (omega arith) in record {
    statuses = l.statuses;
    replayed =
        l.replayed;
  }
