-- Items that get new numbers, and cycles of renamed nodes.
use Rattle.std.proofs.Common.{◌≡◌, inl, inr, ℕ, ◌+◌, ◌<◌, ◌≤◌, ◌%◌, ◌==◌, ◌||◌, Bool, true, false, if◌then◌else◌, List, [], ◌∷◌, ◌++◌, length, get_or, take, nat_lt, Option, Some, None, is_some, option_map, refl, sym, ◌∙◌, ap, subst, arith}
use Rattle.std.proofs.Math.Bool.{or-false}
use Rattle.fb_links.specs.Names.{name_by}
use Rattle.std.specs.List.{flat_map, list_any}
use Rattle.std.specs.Option.{IsSome}
use Rattle.std.proofs.Math.Path.{fun_ext}
use Rattle.std.proofs.lemmas.Bool.{both_ways, cases_Bool, eq-eqb, eqb-true, lt-ltb, or_cases, or_left, or_right}
use Rattle.std.proofs.lemmas.List.{get_or-map, length-map, take_more}
use Rattle.std.proofs.lemmas.List.Folds.{list_any-append}
use Rattle.std.proofs.lemmas.List.Sums.{sum_by-take-le, sum_by_push}
use Rattle.fb_links.specs.declared.cycle.CycleStep.{CycleStep}
use Rattle.slab.specs.Slab.{Slab, get}
use Rattle.slab.proofs.SlabLemmas.{ContainsKey-within}
use Rattle.fb_blossoms.specs.InternalItems.{Item}
use Rattle.fb_blossoms.specs.Nodes.{HasDistinctNodes, is_on}
use Rattle.fb_blossoms.specs.Links.{step_at}
use Rattle.fb_blossoms.specs.InternalForest.{IsItem, is_kept}
use Rattle.fb_blossoms.specs.Merged.{new_count, old_count, renamed_cycle, renamed_step}
use Rattle.fb_blossoms.specs.InternalMerged.{AreAllTaken, AreJoined, is_pair, shifted_item, renamed_among, renamed_item}
use Rattle.fb_blossoms.proofs.PairLists.{new_counted, new_listed, new_pair, one_if, pair_by, pair_is, pair_same}

-- the next pair's item is renamed
pub renamed_next : (f g : ℕ → ℕ) (names : List (ℕ × ℕ)) (k x : ℕ) (old o o' : Option Item) → k < length names → ((b : ℕ) → new_count names b ≤ 1)
    → o ≡ renamed_among (take k names) f g x old
    → o' ≡ (if (get_or names k (0, 0)).1 == x then option_map (renamed_item f g) o else o)
    → o' ≡ renamed_among (take (k + 1) names) f g x old
renamed_next f g names k x old o o' less once before now =
    now ∙ (at ((get_or names k (0, 0)).1 == x) refl ∙ sym (ap (λ l. renamed_among l f g x old) (take_more names k (0, 0) less)))
  where
    p : ℕ × ℕ
    p = get_or names k (0, 0)

    R : Bool → Option Item
    R t = if t then option_map (renamed_item f g) old else old

    listed : list_any (λ q. q.1 == x) (take k names ++ p ∷ []) ≡ (list_any (λ q. q.1 == x) (take k names) || ((p.1 == x) || false))
    listed = list_any-append (λ q. q.1 == x) (take k names) (p ∷ [])

    off : (p.1 == x) ≡ true → list_any (λ q. q.1 == x) (take k names) ≡ false
    off here =
        elim (cases_Bool (list_any (λ q. q.1 == x) (take k names))) [
          | inl on ↦
              let one : one_if (p.1 == x) ≡ 1 = ap one_if here in
              let push : new_count (take (k + 1) names) x ≡ new_count (take k names) x + one_if (p.1 == x) =
              ap (λ l. new_count l x) (take_more names k (0, 0) less) ∙ sum_by_push (λ q. one_if (q.1 == x)) (take k names) p in
              absurd (omega (arith, new_counted (take k names) x on, one, push, sum_by-take-le (λ q. one_if (q.1 == x)) names (k + 1), once x))
          | inr f ↦ f
        ]

    at : (t : Bool) → (p.1 == x) ≡ t → (if t then option_map (renamed_item f g) o else o) ≡ renamed_among (take k names ++ p ∷ []) f g x old
    at true e =
        let none : o ≡ old = before ∙ ap R (off e) in
        ap (option_map (renamed_item f g)) none
        ∙ sym (ap R (listed ∙ (ap (λ t. list_any (λ q. q.1 == x) (take k names) || (t || false)) e ∙ or_right (list_any (λ q. q.1 == x) (take k names)) (true || false) refl)))
    at false e =
        before ∙ sym (ap R (listed ∙ (ap (λ t. list_any (λ q. q.1 == x) (take k names) || (t || false)) e ∙ or-false (list_any (λ q. q.1 == x) (take k names)))))

-- a renamed cycle has the renamed nodes
pub on_to : (f g : ℕ → ℕ) (ss : List CycleStep) (y : ℕ) → is_on ss y ≡ true → is_on (renamed_cycle f g ss) (f y) ≡ true
on_to f g [] y on = on
on_to f g (s ∷ ss) y on =
    elim (or_cases (s.node == y) (is_on ss y) on) [
      | inl here ↦ or_left (f s.node == f y) (is_on (renamed_cycle f g ss) (f y)) (eq-eqb (f s.node) (f y) (ap f (eqb-true s.node y here)))
      | inr there ↦ or_right (f s.node == f y) (is_on (renamed_cycle f g ss) (f y)) (on_to f g ss y there)
    ]

pub on_from : (f g : ℕ → ℕ) (ss : List CycleStep) (x : ℕ) → is_on (renamed_cycle f g ss) x ≡ true → (y : ℕ) × (is_on ss y ≡ true) × (f y ≡ x)
on_from f g [] x on = absurd (both_ways false refl on)
on_from f g (s ∷ ss) x on =
    elim (or_cases (f s.node == x) (is_on (renamed_cycle f g ss) x) on) [
      | inl here ↦ (s.node, or_left (s.node == s.node) (is_on ss s.node) (eq-eqb s.node s.node refl), eqb-true (f s.node) x here)
      | inr there ↦
          let r : (y : ℕ) × (is_on ss y ≡ true) × (f y ≡ x) = on_from f g ss x there in
          (r.0, or_right (s.node == r.0) (is_on ss r.0) r.1, r.2)
    ]

distinct_renamed : (f g : ℕ → ℕ) (ss : List CycleStep) → ((y z : ℕ) → is_on ss y ≡ true → is_on ss z ≡ true → f y ≡ f z → y ≡ z)
    → HasDistinctNodes ss → HasDistinctNodes (renamed_cycle f g ss)
distinct_renamed f g [] apart distinct = tt
distinct_renamed f g (s ∷ ss) apart distinct = (
  elim (cases_Bool (is_on (renamed_cycle f g ss) (f s.node))) [
    | inl on ↦
        let r : (y : ℕ) × (is_on ss y ≡ true) × (f y ≡ f s.node) = on_from f g ss (f s.node) on in
        let same : r.0 ≡ s.node = apart r.0 s.node (or_right (s.node == r.0) (is_on ss r.0) r.1) (or_left (s.node == s.node) (is_on ss s.node) (eq-eqb s.node s.node refl)) r.2 in
        absurd (both_ways (is_on ss s.node) distinct.0 (ap (is_on ss) (sym same) ∙ r.1))
    | inr off ↦ off
  ],
  distinct_renamed f g ss (λ y z a b e. apart y z (or_right (s.node == y) (is_on ss y) a) (or_right (s.node == z) (is_on ss z) b) e) distinct.1,
)

pub item_renamed : (f g : ℕ → ℕ) (own : List ℕ) (ss : List CycleStep) → ((y z : ℕ) → is_on ss y ≡ true → is_on ss z ≡ true → f y ≡ f z → y ≡ z)
    → IsItem own ss → IsItem own (renamed_cycle f g ss)
item_renamed f g own ss apart (inl l) = inl (record { defect = l.defect; alone = l.alone; bare = ap (renamed_cycle f g) l.bare })
item_renamed f g own ss apart (inr b) =
    let n : length (renamed_cycle f g ss) ≡ length ss = length-map ss (renamed_step f g) in
    inr (record { bare = b.bare; odd = ap (λ n. n % 2) n ∙ b.odd; three = omega (arith, n, b.three); distinct = distinct_renamed f g ss apart b.distinct })

pub node_renamed : (f g : ℕ → ℕ) (ss : List CycleStep) (k : ℕ) → k < length ss → (step_at (renamed_cycle f g ss) k).node ≡ f (step_at ss k).node
node_renamed f g ss k less = ap (λ s. s.node) (get_or-map (renamed_step f g) ss k (record { node = 0; link = 0 }) (record { node = 0; link = 0 }) less)

-- lists along a renamed cycle
pub along_renamed : (f g : ℕ → ℕ) (F G : ℕ → List ℕ) (ss : List CycleStep) → ((y : ℕ) → is_on ss y ≡ true → F (f y) ≡ G y)
    → flat_map (λ s. F s.node) (renamed_cycle f g ss) ≡ flat_map (λ s. G s.node) ss
along_renamed f g F G [] h = refl
along_renamed f g F G (s ∷ ss) h =
    let here : F (f s.node) ≡ G s.node = h s.node (or_left (s.node == s.node) (is_on ss s.node) (eq-eqb s.node s.node refl)) in
    let rest : flat_map (λ s. F s.node) (renamed_cycle f g ss) ≡ flat_map (λ s. G s.node) ss =
    along_renamed f g F G ss (λ y on. h y (or_right (s.node == y) (is_on ss y) on)) in
    ap (λ l. l ++ flat_map (λ s. F s.node) (renamed_cycle f g ss)) here ∙ ap (λ l. G s.node ++ l) rest

some_is : (o : Option Item) → is_some o ≡ true → IsSome o
some_is None h = absurd (both_ways false refl h)
some_is (Some i) h = refl

-- items that are taken and then renamed are joined
module _ (old right mid new : Slab Item) (more : ℕ) (links names : List (ℕ × ℕ)) (taken : AreAllTaken old right mid more names) where
  abbrev F : ℕ → ℕ
  F = name_by names

  abbrev G : ℕ → ℕ
  G = name_by links

  listed : (a : ℕ) → old_count names a ≡ (if is_kept right.slots a then 1 else 0)
  listed a = taken.listed a ∙ at (is_kept right.slots a) refl
    where
      at : (t : Bool) → is_kept right.slots a ≡ t → (if t then one_if (nat_lt a (length right.slots)) else 0) ≡ one_if t
      at true e = ap one_if (lt-ltb a (length right.slots) (ContainsKey-within right a (some_is (get right a) e)))
      at false e = refl

  pair : (a : ℕ) → is_kept right.slots a ≡ true → is_pair names a (F a) ≡ true
  pair a k = pair_by names a (listed a ∙ ap one_if k)

  module _ (renamed : (x : ℕ) → get new x ≡ renamed_among names F G x (get mid x)) where
    pub joined : AreJoined old.slots right.slots new.slots more links names
    joined = record {
      listed = listed;
      distinct = taken.distinct;
      apart = λ a c k l e. pair_same names a c (F a) (taken.distinct (F a)) (pair a k) (ap (λ y. is_pair names c y) e ∙ pair c l);
      fresh = λ a k. taken.fresh a (F a) (pair a k);
      under = λ a k.
          renamed (F a) ∙ (ap (λ t. if t then option_map (renamed_item F G) (get mid (F a)) else get mid (F a)) (new_listed names a (F a) (pair a k))
          ∙ (ap (option_map (renamed_item F G)) (taken.taken a (F a) (pair a k)) ∙ twice (get right a)));
      stays = λ x k. renamed x ∙ (ap (λ t. if t then option_map (renamed_item F G) (get mid x) else get mid x) (not_new x k) ∙ taken.stays x k);
      only = λ x k.
          elim (taken.only x (still (list_any (λ p. p.1 == x) names) (get mid x) (ap (λ (o : Option Item). is_some o) (sym (renamed x)) ∙ k))) [
            | inl left ↦ inl left
            | inr p ↦ inr (p.0, taken.alive p.0 x p.1, pair_is names p.0 x (few p.0) p.1)
          ];
      named = λ a k. new_listed names a (F a) (pair a k);
    }
      where
        twice : (o : Option Item) → option_map (renamed_item F G) (option_map (shifted_item more) o) ≡ option_map (λ i. renamed_item F G (shifted_item more i)) o
        twice None = refl
        twice (Some i) = refl

        not_new : (x : ℕ) → is_kept old.slots x ≡ true → list_any (λ p. p.1 == x) names ≡ false
        not_new x k =
            elim (cases_Bool (list_any (λ p. p.1 == x) names)) [
              | inl on ↦
                  let p : (a : ℕ) × (is_pair names a x ≡ true) = new_pair names x on in
                  absurd (both_ways (is_kept old.slots x) (ap (λ (o : Option Item). is_some o) (taken.fresh p.0 x p.1)) k)
              | inr off ↦ off
            ]

        still : (t : Bool) (o : Option Item) → is_some (if t then option_map (renamed_item F G) o else o) ≡ true → is_some o ≡ true
        still true None h = h
        still true (Some i) h = refl
        still false o h = h

        few : (a : ℕ) → old_count names a ≤ 1
        few a = at (is_kept right.slots a) (listed a)
          where
            at : (t : Bool) → old_count names a ≡ one_if t → old_count names a ≤ 1
            at true e = omega (arith, e)
            at false e = omega (arith, e)

-- the same of functions that name alike
pub joined_by : (old right mid new : Slab Item) (more : ℕ) (links names : List (ℕ × ℕ)) (f g : ℕ → ℕ) → AreAllTaken old right mid more names
    → ((a : ℕ) → f a ≡ name_by names a) → ((a : ℕ) → g a ≡ name_by links a)
    → ((x : ℕ) → get new x ≡ renamed_among names f g x (get mid x)) → AreJoined old.slots right.slots new.slots more links names
joined_by old right mid new more links names f g taken e h renamed =
    let P : (ℕ → ℕ) → Type 0 = λ f. (x : ℕ) → get new x ≡ renamed_among names f g x (get mid x) in
    let Q : (ℕ → ℕ) → Type 0 = λ g. (x : ℕ) → get new x ≡ renamed_among names (name_by names) g x (get mid x) in
    joined old right mid new more links names taken (subst Q (fun_ext h) (subst P (fun_ext e) renamed))

pub joined_seen : (old right mid new : Slab Item) (more : ℕ) (links names seen again : List (ℕ × ℕ)) (f g : ℕ → ℕ) → AreAllTaken old right mid more names
    → seen ≡ names → again ≡ names → ((a : ℕ) → f a ≡ name_by seen a) → ((a : ℕ) → g a ≡ name_by links a)
    → ((x : ℕ) → get new x ≡ renamed_among again f g x (get mid x)) → AreJoined old.slots right.slots new.slots more links names
joined_seen old right mid new more links names seen again f g taken same same' e h renamed =
    joined_by old right mid new more links names f g taken (λ a. e a ∙ ap (λ l. name_by l a) same) h
    (λ x. renamed x ∙ ap (λ l. renamed_among l f g x (get mid x)) same')

pub once_seen : (names seen : List (ℕ × ℕ)) → seen ≡ names → ((b : ℕ) → new_count names b ≤ 1) → (b : ℕ) → new_count seen b ≤ 1
once_seen names seen same once = let P : List (ℕ × ℕ) → Type 0 = λ l. (b : ℕ) → new_count l b ≤ 1 in subst P (sym same) once
