-- The lists of vertices that marks keep.
use Rattle.std.proofs.Common.{ℕ, zero, suc, ◌≡◌, ◌+◌, ◌-◌, ◌≤◌, ◌==◌, true, List, [], ◌∷◌, ◌++◌, Option, refl, sym, ap, ◌∙◌, arith, subst}
use Rattle.std.proofs.lemmas.Bool.{eq-eqb, false≢true, or_left, or_right}
use Rattle.std.proofs.lemmas.List.{append_assoc, append_cancel_right}
use Rattle.fb_graph.specs.Parity.{is_in}
use Rattle.fb_graph.proofs.Members.{is_in-append}
use Rattle.fb_regions.specs.declared.marks.Mark.{Mark}
use Rattle.fb_regions.specs.declared.region.Region.{Region}
use Rattle.fb_regions.specs.InternalListings.{IsListed}
use Rattle.fb_regions.specs.InternalNodes.{before_of, chain, first_of, added_to}
use Rattle.fb_regions.specs.Moves.{BeginsWith}
use Rattle.fb_regions.proofs.Chains.{chain_same}

pub begins_in : (v : ℕ) (vs : List ℕ) → BeginsWith v vs → is_in vs v ≡ true
begins_in v [] begins = absurd begins
begins_in v (u ∷ us) begins = or_left (u == v) (is_in us v) (eq-eqb u v begins)

pub begins_left : (v : ℕ) (xs ys : List ℕ) → BeginsWith v xs → BeginsWith v (xs ++ ys)
begins_left v [] ys begins = absurd begins
begins_left v (x ∷ xs) ys begins = begins

-- a list of at least one vertex begins as one does that goes on behind it
pub left_begins : (v w : ℕ) (xs ys : List ℕ) → BeginsWith w xs → BeginsWith v (xs ++ ys) → BeginsWith v xs
left_begins v w [] ys some begins = absurd some
left_begins v w (x ∷ xs) ys some begins = begins

pub held_begins : (v w : ℕ) (xs ys : List ℕ) → is_in xs w ≡ true → BeginsWith v (xs ++ ys) → BeginsWith v xs
held_begins v w [] ys some begins = absurd (false≢true some)
held_begins v w (x ∷ xs) ys some begins = begins

pub same_first : (v w : ℕ) (vs : List ℕ) → BeginsWith v vs → BeginsWith w vs → v ≡ w
same_first v w [] a b = absurd a
same_first v w (u ∷ us) a b = sym a ∙ b

-- a list of at least one vertex begins with some
pub some_begin : (xs : List ℕ) (y : ℕ) → (w : ℕ) × BeginsWith w (xs ++ y ∷ [])
some_begin [] y = (y, refl)
some_begin (x ∷ xs) y = (x, refl)

-- back from the last vertex of a list that begins with one, and further back from that one
pub chain_append : (marks : List (Option Mark)) (n k v f : ℕ) → BeginsWith f (chain marks k v)
    → chain marks (n + k) v ≡ chain marks n (before_of marks f) ++ chain marks k v
chain_append marks n zero v f begins = absurd begins
chain_append marks n (suc zero) v f begins =
    let e : n + 1 ≡ suc n = omega arith in
    ap (λ i. chain marks i v) e ∙ ap (λ u. chain marks n (before_of marks u) ++ v ∷ []) begins
chain_append marks n (suc (suc k)) v f begins =
    let e : n + suc (suc k) ≡ suc (n + suc k) = omega arith in
    ap (λ i. chain marks i v) e
    ∙ (ap (λ l. l ++ v ∷ [])
    (chain_append marks n (suc k) (before_of marks v) f
    (left_begins f _ (chain marks (suc k) (before_of marks v)) (v ∷ []) (some_begin (chain marks k (before_of marks (before_of marks v))) (before_of marks v)).1 begins))
    ∙ append_assoc (chain marks n (before_of marks f)) (chain marks (suc k) (before_of marks v)) (v ∷ []))

-- where only the mark of some other vertex changes, the list stays
pub listed_still : (marks other : List (Option Mark)) (r : Region) → IsListed marks r
    → ((u : ℕ) → is_in (first_of marks r ++ added_to marks r) u ≡ true → before_of other u ≡ before_of marks u) → IsListed other r
listed_still marks other r is same =
    let first : first_of other r ≡ first_of marks r =
    chain_same marks other r.base r.base_last
    (λ u h. same u (is_in-append (first_of marks r) (added_to marks r) u ∙ or_left (is_in (first_of marks r) u) (is_in (added_to marks r) u) h)) in
    let added : added_to other r ≡ added_to marks r =
    chain_same marks other r.added r.last
    (λ u h. same u (is_in-append (first_of marks r) (added_to marks r) u ∙ or_right (is_in (first_of marks r) u) (is_in (added_to marks r) u) h)) in
    record {
      first = subst (BeginsWith r.first) (sym first) is.first;
      whole =
          chain_same marks other (r.base + r.added) r.last (λ u h. same u (ap (λ l. is_in l u) (sym is.whole) ∙ h))
          ∙ (is.whole ∙ (ap (λ l. l ++ added_to marks r) (sym first) ∙ ap (λ l. first_of other r ++ l) (sym added)));
    }

-- the node's list where its values alone change
pub listed_alike : (marks : List (Option Mark)) (r new : Region) → new.first ≡ r.first → new.base ≡ r.base → new.base_last ≡ r.base_last
    → new.added ≡ r.added → new.last ≡ r.last → IsListed marks r → IsListed marks new
listed_alike marks r new first base base_last added last is = record {
  first = rw (first, base, base_last) is.first;
  whole = rw (base, base_last, added, last) is.whole;
}

-- a vertex more at the end, whose mark tells the one that was last
pub listed_more : (marks : List (Option Mark)) (r new : Region) (v : ℕ) → before_of marks v ≡ r.last → new.first ≡ r.first → new.base ≡ r.base
    → new.base_last ≡ r.base_last → new.added ≡ r.added + 1 → new.last ≡ v → IsListed marks r → IsListed marks new
listed_more marks r new v before first base base_last added last is =
    let one : r.base + (r.added + 1) ≡ suc (r.base + r.added) = omega arith in
    let two : r.added + 1 ≡ suc r.added = omega arith in
    record {
      first = rw (first, base, base_last) is.first;
      whole = rw (base, base_last, added, last)
          (ap (λ k. chain marks k v) one
          ∙ (ap (λ u. chain marks (r.base + r.added) u ++ v ∷ []) before
          ∙ (ap (λ l. l ++ v ∷ []) is.whole
          ∙ (append_assoc (first_of marks r) (added_to marks r) (v ∷ [])
          ∙ (ap (λ u. first_of marks r ++ (chain marks r.added u ++ v ∷ [])) (sym before) ∙ ap (λ k. first_of marks r ++ chain marks k v) (sym two))))));
    }

-- one that was absorbed less at the end
pub listed_less : (marks : List (Option Mark)) (r new : Region) → 1 ≤ r.added → new.first ≡ r.first → new.base ≡ r.base
    → new.base_last ≡ r.base_last → new.added ≡ r.added - 1 → new.last ≡ before_of marks r.last → IsListed marks r → IsListed marks new
listed_less marks r new some first base base_last added last is =
    let one : suc (r.base + (r.added - 1)) ≡ r.base + r.added = omega (arith, some) in
    let two : r.added ≡ suc (r.added - 1) = omega (arith, some) in
    record {
      first = rw (first, base, base_last) is.first;
      whole = rw (base, base_last, added, last)
          (append_cancel_right (chain marks (r.base + (r.added - 1)) (before_of marks r.last))
          (first_of marks r ++ chain marks (r.added - 1) (before_of marks r.last)) (r.last ∷ [])
          (ap (λ k. chain marks k r.last) one
          ∙ (is.whole
          ∙ (ap (λ k. first_of marks r ++ chain marks k r.last) two
          ∙ sym (append_assoc (first_of marks r) (chain marks (r.added - 1) (before_of marks r.last)) (r.last ∷ []))))));
    }

-- the list of a vertex alone
pub listed_one : (marks : List (Option Mark)) (new : Region) (v : ℕ) → new.first ≡ v → new.base ≡ 1 → new.base_last ≡ v → new.added ≡ 0
    → new.last ≡ v → IsListed marks new
listed_one marks new v first base base_last added last = record {
  first = rw (first, base, base_last) refl;
  whole = rw (base, base_last, added, last) refl;
}
