-- The nodes of a plan's tree are a forest, and its parents are those of its joins.
use Rattle.std.proofs.Common.{ℕ, ◌≡◌, ◌+◌, ◌-◌, ◌<◌, ◌≤◌, Bool, true, false, Option, Some, None, List, [], ◌∷◌, length, get_or, slice_get, if◌then◌else◌, ◌⊎◌, inl, inr, refl, sym, ap, subst, ◌∙◌, arith, zero, suc}
use Rattle.std.proofs.lemmas.Bool.{ne_eqb, le-ltb, ltb-false, false≢true, cases_lt}
use Rattle.std.proofs.lemmas.List.{get_or_past}
use Rattle.std.proofs.lemmas.Option.{get_or_from_slice_get, slice_get-get_or, slice_get_within}
use Rattle.std.specs.Prelude.{nat_lt}
use Rattle.fb_plan.specs.Plans.{PlanTree, IsTree, most_units, IsJoin, names, join_at, node_count, parent_from, parent_of}
use Rattle.fb_book.specs.Machine.{IsForest, is_child}
use Rattle.fb_book.specs.Board.{children_in}
use Rattle.fb_book.specs.InternalBoard.{AreParents, node_limit}
use Rattle.fb_plan.proofs.Trees.{names_cases}

pub record Joined (units : ℕ) (joins : List (ℕ × ℕ)) (k : ℕ) (pair : ℕ × ℕ) : Type 0 where
  pub above : units ≤ k
  pub less : k - units < length joins
  pub is : join_at joins (k - units) ≡ pair

pub joined : (units : ℕ) (joins : List (ℕ × ℕ)) (k : ℕ) (pair : ℕ × ℕ) → children_in units joins k ≡ Some pair
    → Joined units joins k pair
joined units joins k pair e = step (nat_lt k units) refl e
  where
    step : (b : Bool) → nat_lt k units ≡ b → (if b then None else slice_get joins (k - units)) ≡ Some pair
        → Joined units joins k pair
    step true t h = cc
    step false t h = record {
      above = ltb-false k units t;
      less = slice_get_within joins (k - units) pair h;
      is = get_or_from_slice_get joins (k - units) pair (0, 0) h;
    }

-- a fusion that has the node as a child
pub record Naming (units : ℕ) (joins : List (ℕ × ℕ)) (k n : ℕ) : Type 0 where
  pub above : units ≤ k
  pub less : k - units < length joins
  pub names_it : names (join_at joins (k - units)) n ≡ true

pub naming : (units : ℕ) (joins : List (ℕ × ℕ)) (k n : ℕ) → is_child (children_in units joins k) n ≡ true
    → Naming units joins k n
naming units joins k n h = step (children_in units joins k) refl
  where
    step : (o : Option (ℕ × ℕ)) → children_in units joins k ≡ o → Naming units joins k n
    step None e = absurd (false≢true (sym (ap (λ x. is_child x n) e) ∙ h))
    step (Some pair) e =
        let j = joined units joins k pair e in
        record {
          above = j.above;
          less = j.less;
          names_it = ap (λ x. names x n) j.is ∙ (sym (ap (λ x. is_child x n) e) ∙ h);
        }

pub child_from_naming : (units : ℕ) (joins : List (ℕ × ℕ)) (i n : ℕ) → i < length joins
    → names (join_at joins i) n ≡ true → is_child (children_in units joins (units + i)) n ≡ true
child_from_naming units joins i n less h =
    ap (λ o. is_child o n) is ∙ h
  where
    is : children_in units joins (units + i) ≡ Some (join_at joins i)
    is =
        let at : units + i - units ≡ i = omega arith in
        ap (λ b. if b then None else slice_get joins (units + i - units)) (le-ltb (units + i) units (omega arith))
        ∙ (ap (slice_get joins) at ∙ slice_get-get_or joins i (0, 0) less)

pub forest_of_tree : (t : PlanTree) → IsTree t → IsForest (children_in t.units t.joins)
forest_of_tree t tree = record {
  before = λ k c h.
      let m = naming t.units t.joins k c h in
      let j = tree.joins (k - t.units) m.less in
      below k c m.above j (names_cases (join_at t.joins (k - t.units)) c m.names_it);
  differ = λ k pair e.
      let j = joined t.units t.joins k pair e in
      let d = (tree.joins (k - t.units) j.less).differ in
      ne_eqb pair.0 pair.1 (λ s. d (subst (λ p. p.0 ≡ p.1) (sym j.is) s));
  once = λ j k c g h.
      let a = naming t.units t.joins j c g in
      let b = naming t.units t.joins k c h in
      let same : j - t.units ≡ k - t.units = tree.once (j - t.units) (k - t.units) c a.less b.less a.names_it b.names_it in
      let a_above : t.units ≤ j = a.above in
      let b_above : t.units ≤ k = b.above in
      omega (arith, same, a_above, b_above);
}
  where
    below : (k c : ℕ) → t.units ≤ k → IsJoin (t.units + (k - t.units)) (join_at t.joins (k - t.units))
        → ((join_at t.joins (k - t.units)).0 ≡ c) ⊎ ((join_at t.joins (k - t.units)).1 ≡ c) → c < k
    below k c above j (inl e) =
        let left : (join_at t.joins (k - t.units)).0 < t.units + (k - t.units) = j.left in omega (arith, above, e, left)
    below k c above j (inr e) =
        let right : (join_at t.joins (k - t.units)).1 < t.units + (k - t.units) = j.right in omega (arith, above, e, right)

-- the first fusion of a list that names a node
pub record FirstNaming (i : ℕ) (joins : List (ℕ × ℕ)) (n m : ℕ) : Type 0 where
  pub above : i ≤ m
  pub less : m - i < length joins
  pub names_it : names (join_at joins (m - i)) n ≡ true

pub first_naming : (i : ℕ) (joins : List (ℕ × ℕ)) (n m : ℕ) → parent_from i joins n ≡ Some m → FirstNaming i joins n m
first_naming i [] n m e = cc
first_naming i (join ∷ joins) n m e = step (names join n) refl e (first_naming (i + 1) joins n m)
  where
    step : (b : Bool) → names join n ≡ b → (if b then Some i else parent_from (i + 1) joins n) ≡ Some m
        → (parent_from (i + 1) joins n ≡ Some m → FirstNaming (i + 1) joins n m) → FirstNaming i (join ∷ joins) n m
    step true t h rest =
        let same : i ≡ m = cc in
        let at : m - i ≡ 0 = omega (arith, same) in
        record {
          above = omega (arith, same);
          less = omega (arith, at);
          names_it = ap (λ x. names (join_at (join ∷ joins) x) n) at ∙ t;
        }
    step false t h rest =
        let r = rest h in
        let r_above : i + 1 ≤ m = r.above in
        let r_less : m - (i + 1) < length joins = r.less in
        let at : m - i ≡ suc (m - (i + 1)) = omega (arith, r_above) in
        record {
          above = omega (arith, r_above);
          less = omega (arith, r_less, at);
          names_it = ap (λ x. names (join_at (join ∷ joins) x) n) at ∙ r.names_it;
        }

pub no_naming : (i : ℕ) (joins : List (ℕ × ℕ)) (n : ℕ) → parent_from i joins n ≡ None
    → (k : ℕ) → k < length joins → names (join_at joins k) n ≡ false
no_naming i [] n e k less = absurd (omega (arith, less))
no_naming i (join ∷ joins) n e k less = step (names join n) refl e (no_naming (i + 1) joins n) k less
  where
    step : (b : Bool) → names join n ≡ b → (if b then Some i else parent_from (i + 1) joins n) ≡ None
        → (parent_from (i + 1) joins n ≡ None → (k : ℕ) → k < length joins → names (join_at joins k) n ≡ false)
        → (k : ℕ) → k < length (join ∷ joins) → names (join_at (join ∷ joins) k) n ≡ false
    step true t h rest k below = cc
    step false t h rest zero below = t
    step false t h rest (suc k) below = rest h k (omega (arith, below))

pub parents_of_tree : (t : PlanTree) → IsTree t → (parents : List (Option ℕ)) → length parents ≡ node_count t
    → ((n : ℕ) → n < node_count t → get_or parents n None ≡ parent_of t n) → AreParents t.units t.joins parents
parents_of_tree t tree parents count each = record {
  count = count;
  sound = λ n m e. sound n m e (cases_lt n (length parents));
  whole = λ n m h. whole n m h (parent_of t n) refl;
}
  where
    sound : (n m : ℕ) → get_or parents n None ≡ Some m → (n < length parents) ⊎ (length parents ≤ n)
        → (m < node_count t) × (is_child (children_in t.units t.joins m) n ≡ true)
    sound n m e (inr more) =
        let none : get_or parents n None ≡ None = get_or_past parents n None more in cc
    sound n m e (inl less) =
        let f = first_naming t.units t.joins n m (sym (each n (subst (λ x. n < x) count less)) ∙ e) in
        let above : t.units ≤ m = f.above in
        let below : m - t.units < length t.joins = f.less in
        let at : t.units + (m - t.units) ≡ m = omega (arith, above) in (
          omega (arith, above, below),
          subst (λ x. is_child (children_in t.units t.joins x) n ≡ true) at
              (child_from_naming t.units t.joins (m - t.units) n f.less f.names_it),
        )

    whole : (n m : ℕ) → is_child (children_in t.units t.joins m) n ≡ true → (o : Option ℕ) → parent_of t n ≡ o
        → get_or parents n None ≡ Some m
    whole n m h None e =
        let a = naming t.units t.joins m n h in
        absurd (false≢true (sym (no_naming t.units t.joins n e (m - t.units) a.less) ∙ a.names_it))
    whole n m h (Some p) e =
        let a = naming t.units t.joins m n h in
        let f = first_naming t.units t.joins n p e in
        let same : p - t.units ≡ m - t.units = tree.once (p - t.units) (m - t.units) n f.less a.less f.names_it a.names_it in
        let p_above : t.units ≤ p = f.above in
        let m_above : t.units ≤ m = a.above in
        let m_less : m - t.units < length t.joins = a.less in
        let is : p ≡ m = omega (arith, same, p_above, m_above) in
        let n_less : n < m = (forest_of_tree t tree).before m n h in
        each n (omega (arith, n_less, m_above, m_less)) ∙ (e ∙ ap Some is)

pub small_tree : (t : PlanTree) → IsTree t → (0 < t.units) × (t.units + length t.joins < node_limit)
small_tree t tree =
    let most : t.units ≤ most_units = tree.limit in
    let count : t.units ≡ length t.joins + 1 = tree.count in
    (omega (arith, count), omega (arith, most, count))
