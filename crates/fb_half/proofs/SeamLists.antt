-- The index of a part's matches to the boundary: what a merge of two leaves, and how a step of a search keeps it.
use Rattle.std.proofs.Common.{ℕ, ◌≡◌, ◌==◌, ◌++◌, ◌⊎◌, inl, inr, Bool, true, false, cond, List, [], ◌∷◌, map, Some, Vec, Global, option_map, nat_lt, if◌then◌else◌, refl, sym, ap, ◌∙◌}
use Rattle.std.specs.Option.{unwrap_or}
use Rattle.std.specs.Map.{lookup}
use Rattle.std.specs.BTreeMap.{is_at}
use Rattle.std.specs.Ordering.{is_eq, nat_cmp}
use Rattle.std.specs.declared.cmp.Ordering.TheVariants.{Less, Equal, Greater}
use Rattle.std.proofs.lemmas.Bool.{eq-eqb, eqb-true, false≢true}
use Rattle.fb_graph.specs.Parity.{is_in}
use Rattle.fb_graph.proofs.Floods.{is_in-left, is_in-right}
use Rattle.fb_graph.proofs.Members.{is_in-map}
use Rattle.fb_half.specs.declared.seams.Seams.{Seams}
use Rattle.fb_half.specs.Seams.{names_under}

-- the names under the owner in the entries that are left
abbrev pub names_in : List (ℕ × Vec ℕ Global) → ℕ → List ℕ
names_in entries owner = unwrap_or (option_map (λ v. v.items) (lookup (is_at (nat_cmp owner)) entries)) []

names_step : (entries : List (ℕ × Vec ℕ Global)) (k o x : ℕ) (v : Vec ℕ Global) → is_in (names_in ((k, v) ∷ entries) o) x ≡ true
    → ((k ≡ o) × (is_in v.items x ≡ true)) ⊎ (is_in (names_in entries o) x ≡ true)
names_step entries k o x v h = by (nat_lt o k) (o == k) refl h
  where
    by : (less same : Bool) → (o == k) ≡ same
        → is_in (unwrap_or (option_map (λ v. v.items) (cond (is_eq (cond less Less (cond same Equal Greater))) (Some v) (lookup (is_at (nat_cmp o)) entries))) []) x ≡ true
        → ((k ≡ o) × (is_in v.items x ≡ true)) ⊎ (is_in (names_in entries o) x ≡ true)
    by true same e h = inr h
    by false true e h = inl (sym (eqb-true o k e), h)
    by false false e h = inr h

-- the left index's names, and those of the right one that are not left to do, by their new names
abbrev pub AreMergedSo : (ℕ → ℕ) → Seams → Seams → Seams → List (ℕ × Vec ℕ Global) → Type 0
AreMergedSo f left right seams entries =
    ((o x : ℕ) → is_in (names_under left o) x ≡ true → is_in (names_under seams o) x ≡ true)
    × ((o x : ℕ) → is_in (names_under right o) x ≡ true
    → (is_in (names_under seams o) (f x) ≡ true) ⊎ (is_in (names_in entries o) x ≡ true))

still_in : (b : Bool) (now old more : List ℕ) (x : ℕ) → now ≡ (if b then old ++ more else old) → is_in old x ≡ true → is_in now x ≡ true
still_in true now old more x is h = ap (λ l. is_in l x) is ∙ is_in-left old more x h
still_in false now old more x is h = ap (λ l. is_in l x) is ∙ h

pub merged_step : (left right before after : Seams) (f g : ℕ → ℕ) (entries rest : List (ℕ × Vec ℕ Global)) (k : ℕ) (v : Vec ℕ Global)
    (listed : List ℕ) → ((x : ℕ) → g x ≡ f x) → entries ≡ (k, v) ∷ rest → listed ≡ v.items
    → ((o : ℕ) → names_under after o ≡ (if k == o then names_under before o ++ map g listed else names_under before o))
    → AreMergedSo f left right before entries → AreMergedSo f left right after rest
merged_step left right before after f g entries rest k v listed same first read now (own, others) = (
  λ o x h. still_in (k == o) (names_under after o) (names_under before o) (map g listed) x (now o) (own o x h),
  λ o x h. by o x (others o x h),
)
  where
    added : (o x : ℕ) → k ≡ o → is_in v.items x ≡ true → is_in (names_under after o) (f x) ≡ true
    added o x here within =
        ap (λ l. is_in l (f x)) (now o ∙ ap (λ b. if b then names_under before o ++ map g listed else names_under before o) (eq-eqb k o here))
        ∙ is_in-right (names_under before o) (map g listed) (f x)
        (ap (is_in (map g listed)) (sym (same x)) ∙ is_in-map g listed x (ap (λ l. is_in l x) read ∙ within))

    by : (o x : ℕ) → (is_in (names_under before o) (f x) ≡ true) ⊎ (is_in (names_in entries o) x ≡ true)
        → (is_in (names_under after o) (f x) ≡ true) ⊎ (is_in (names_in rest o) x ≡ true)
    by o x (inl h) = inl (still_in (k == o) (names_under after o) (names_under before o) (map g listed) (f x) (now o) h)
    by o x (inr h) = next (names_step rest k o x v (ap (λ l. is_in (names_in l o) x) (sym first) ∙ h))
      where
        next : ((k ≡ o) × (is_in v.items x ≡ true)) ⊎ (is_in (names_in rest o) x ≡ true)
            → (is_in (names_under after o) (f x) ≡ true) ⊎ (is_in (names_in rest o) x ≡ true)
        next (inl (here, within)) = inl (added o x here within)
        next (inr h) = inr h

pub merged_all : (left right seams : Seams) (f : ℕ → ℕ) (entries : List (ℕ × Vec ℕ Global)) → entries ≡ []
    → AreMergedSo f left right seams entries → (o x : ℕ) → is_in (names_under right o) x ≡ true → is_in (names_under seams o) (f x) ≡ true
merged_all left right seams f entries none (own, others) o x h = by (others o x h)
  where
    by : (is_in (names_under seams o) (f x) ≡ true) ⊎ (is_in (names_in entries o) x ≡ true) → is_in (names_under seams o) (f x) ≡ true
    by (inl h) = h
    by (inr h) = absurd (false≢true (ap (λ l. is_in (names_in l o) x) (sym none) ∙ h))
