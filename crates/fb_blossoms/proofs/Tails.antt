-- Paths put together.
use Rattle.std.proofs.Common.{◌≡◌, ◌⊎◌, inl, inr, ℕ, ◌+◌, ◌%◌, ◌<◌, ◌==◌, true, false, List, [], ◌∷◌, ◌++◌, length, Option, refl, sym, ◌∙◌, ap, subst, arith, length-append}
use Rattle.std.proofs.lemmas.Bool.{both_ways, cases_Bool, eq-eqb, eqb-true, or_cases, or_left, or_right}
use Rattle.std.proofs.lemmas.List.Folds.{list_any-append}
use Rattle.fb_links.specs.Lists.{AreDistinct, is_in}
use Rattle.fb_links.specs.declared.walk.Step.{Step}
use Rattle.fb_links.specs.Walks.{other_end}
use Rattle.fb_links.specs.Table.{walk_at}
use Rattle.fb_blossoms.specs.Nodes.{AreWithin, Node, cycle_at, defects_at}
use Rattle.fb_blossoms.specs.Paths.{IsLinkIn, IsSimpleEvenPath, Leads, has_link, reached_defects}
use Rattle.fb_blossoms.specs.Links.{LeadsOver}

pub in_either : (xs ys : List ℕ) (v : ℕ) → is_in (xs ++ ys) v ≡ true → (is_in xs v ≡ true) ⊎ (is_in ys v ≡ true)
in_either xs ys v h = or_cases (is_in xs v) (is_in ys v) (sym (list_any-append (λ u. u == v) xs ys) ∙ h)

pub not_in : (xs : List ℕ) (v : ℕ) → (is_in xs v ≡ true → ⊥) → is_in xs v ≡ false
not_in xs v h = elim (cases_Bool (is_in xs v)) [ inl e ↦ absurd (h e) | inr e ↦ e ]

pub in_first : (x : ℕ) (xs : List ℕ) → is_in (x ∷ xs) x ≡ true
in_first x xs = or_left (x == x) (is_in xs x) (eq-eqb x x refl)

different_append : (xs ys : List ℕ) → AreDistinct xs → AreDistinct ys → ((v : ℕ) → is_in xs v ≡ true → is_in ys v ≡ true → ⊥) → AreDistinct (xs ++ ys)
different_append [] ys d e apart = e
different_append (x ∷ xs) ys d e apart = (
  not_in (xs ++ ys) x
      (λ h. elim (in_either xs ys x h) [ inl a ↦ both_ways (is_in xs x) d.0 a | inr b ↦ apart x (in_first x xs) b ]),
  different_append xs ys d.1 e (λ v a b. apart v (or_right (x == v) (is_in xs v) a) b),
)

module _ (links : List (Option (List Step))) where
  leads_append : (from : ℕ) (p : List ℕ) (via : ℕ) (q : List ℕ) (to : ℕ) → Leads links from p via → Leads links via q to → Leads links from (p ++ q) to
  leads_append from [] via q to g h = let P : ℕ → Type 0 = λ v. Leads links v q to in subst P (sym g) h
  leads_append from (l ∷ p) via q to g h = (g.0, leads_append (other_end from (walk_at links l)) p via q to g.1 h)

  reached_append : (from : ℕ) (p : List ℕ) (via : ℕ) (q : List ℕ) → Leads links from p via
      → reached_defects links from (p ++ q) ≡ reached_defects links from p ++ reached_defects links via q
  reached_append from [] via q g = ap (λ v. reached_defects links v q) g
  reached_append from (l ∷ p) via q g =
      let w : ℕ = other_end from (walk_at links l) in
      ap (λ r. w ∷ r) (reached_append w p via q g.1)

  -- the last part of a path round a cycle: it comes from the node of this place, and has passed nodes of places before
  pub record IsTail (nodes : List (Option Node)) (name : ℕ) (node : ℕ → ℕ) (k at to : ℕ) (path : List ℕ) : Type 0 where
    pub leads : Leads links at path to
    pub count : length path % 2 ≡ k % 2
    pub once : AreDistinct (reached_defects links at path)
    pub placed : (v : ℕ) → is_in (reached_defects links at path) v ≡ true → (i : ℕ) × (i < k) × (is_in (defects_at nodes (node i)) v ≡ true)
    pub inside : (l : ℕ) → is_in path l ≡ true → IsLinkIn nodes name l

  pub no_tail : (nodes : List (Option Node)) (name : ℕ) (node : ℕ → ℕ) (to : ℕ) → IsTail nodes name node 0 to to []
  no_tail nodes name node to = record {
    leads = refl;
    count = refl;
    once = tt;
    placed = λ v h. absurd (both_ways false refl h);
    inside = λ l h. absurd (both_ways false refl h);
  }

  module _ (nodes : List (Option Node)) (name : ℕ) (node : ℕ → ℕ) (k at to : ℕ) (path : List ℕ) (tail : IsTail nodes name node k at to path)
      (start : ℕ) (front : List ℕ) (inner : IsSimpleEvenPath links nodes (node k) start at front) (held : is_in (defects_at nodes (node k)) start ≡ true)
      (apart : (i v : ℕ) → i < k → is_in (defects_at nodes (node i)) v ≡ true → is_in (defects_at nodes (node k)) v ≡ true → ⊥)
      (child : AreWithin (defects_at nodes (node k)) (defects_at nodes name)) where
    in_front : (v : ℕ) → is_in (start ∷ reached_defects links start front) v ≡ true → is_in (defects_at nodes (node k)) v ≡ true
    in_front v h =
        elim (or_cases (start == v) (is_in (reached_defects links start front) v) h) [
          | inl e ↦ ap (is_in (defects_at nodes (node k))) (sym (eqb-true start v e)) ∙ held
          | inr e ↦ inner.within v e
        ]

    both_reach : reached_defects links start (front ++ path) ≡ reached_defects links start front ++ reached_defects links at path
    both_reach = reached_append start front at path inner.leads

    both_lead : Leads links start (front ++ path) to
    both_lead = leads_append start front at path to inner.leads tail.leads

    both_once : AreDistinct (start ∷ reached_defects links start (front ++ path))
    both_once =
        let P : List ℕ → Type 0 = λ r. AreDistinct (start ∷ r) in
        subst P (sym both_reach)
        (different_append (start ∷ reached_defects links start front) (reached_defects links at path) inner.once tail.once
        (λ v a b. let r = tail.placed v b in apart r.0 v r.1 r.2 (in_front v a)))

    both_inside : (l : ℕ) → is_in (front ++ path) l ≡ true → IsLinkIn nodes name l
    both_inside l h =
        elim (in_either front path l h) [
          | inl a ↦ let r = inner.inside l a in (r.0, (λ v i. child v (r.1 v i)), r.2)
          | inr b ↦ tail.inside l b
        ]

    both_placed : (v : ℕ) → is_in (start ∷ reached_defects links start (front ++ path)) v ≡ true → (i : ℕ) × (i < k + 1) × (is_in (defects_at nodes (node i)) v ≡ true)
    both_placed v h =
        elim (in_either (start ∷ reached_defects links start front) (reached_defects links at path) v (ap (λ r. is_in (start ∷ r) v) (sym both_reach) ∙ h)) [
          | inl a ↦ (k, omega arith, in_front v a)
          | inr b ↦ let r = tail.placed v b in (r.0, omega (arith, r.1), r.2)
        ]

    both_even : k % 2 ≡ 0 → length (front ++ path) % 2 ≡ 0
    both_even e = omega (arith, length-append front path, inner.even, tail.count)

    -- the whole path
    pub path_from : k % 2 ≡ 0 → ((i : ℕ) → i < k → AreWithin (defects_at nodes (node i)) (defects_at nodes name))
        → IsSimpleEvenPath links nodes name start to (front ++ path)
    path_from e children = record {
      leads = both_lead;
      even = both_even e;
      once = both_once;
      within = λ v h.
          elim (in_either (reached_defects links start front) (reached_defects links at path) v (ap (λ r. is_in r v) (sym both_reach) ∙ h)) [
            | inl a ↦ child v (inner.within v a)
            | inr b ↦ let r = tail.placed v b in children r.0 r.1 v r.2
          ];
      inside = both_inside;
    }

    -- a longer last part, that comes over a link
    pub tail_more : (l outer : ℕ) → LeadsOver links nodes l (node (k + 1)) outer (node k) start → has_link (cycle_at nodes name) l ≡ true
        → IsTail nodes name node (k + 1) outer to (l ∷ (front ++ path))
    tail_more l outer ends has = record {
      leads = (ends.end, let P : ℕ → Type 0 = λ w. Leads links w (front ++ path) to in subst P (sym ends.other) both_lead);
      count = omega (arith, length-append front path, inner.even, tail.count);
      once = let P : ℕ → Type 0 = λ w. AreDistinct (w ∷ reached_defects links w (front ++ path)) in subst P (sym ends.other) both_once;
      placed = λ v h. both_placed v (ap (λ w. is_in (w ∷ reached_defects links w (front ++ path)) v) (sym ends.other) ∙ h);
      inside = λ m h.
          elim (or_cases (l == m) (is_in (front ++ path) m) h) [
            | inl e ↦ (name, (λ v i. i), ap (has_link (cycle_at nodes name)) (sym (eqb-true l m e)) ∙ has)
            | inr e ↦ both_inside m e
          ];
    }

  -- no link leads from a defect to itself
  pub stays_simple : (nodes : List (Option Node)) (name d : ℕ) → IsSimpleEvenPath links nodes name d d []
  stays_simple nodes name d = record {
    leads = refl;
    even = refl;
    once = (refl, tt);
    within = λ v h. absurd (both_ways false refl h);
    inside = λ l h. absurd (both_ways false refl h);
  }
