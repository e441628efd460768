-- The index of the nodes, as nodes come and go.
use Rattle.std.proofs.Common.{ℕ, zero, suc, ◌≡◌, ◌+◌, ◌<◌, ◌==◌, ◌||◌, Bool, true, false, List, [], ◌∷◌, ◌++◌, length, map, set, drop, get_or, Option, Some, None, refl, sym, ap, ◌∙◌, subst, arith, add-one, drop-cons, if◌then◌else◌}
use Rattle.std.specs.List.{All, remove}
use Rattle.std.proofs.lemmas.Bool.{eqb-true}
use Rattle.fb_graph.specs.Parity.{is_in}
use Rattle.fb_graph.specs.Certificate.{AreDistinct}
use Rattle.fb_graph.specs.Dual.{is_live}
use Rattle.fb_graph.specs.Problem.{Problem}
use Rattle.fb_graph.proofs.Among.{All_among, among_All}
use Rattle.fb_graph.proofs.NestParts.{names_live}
use Rattle.fb_regions.specs.declared.marks.Mark.{Mark}
use Rattle.fb_regions.specs.declared.region.Region.{Region}
use Rattle.fb_regions.specs.InternalNodes.{reparented_region, nodes_of}
use Rattle.fb_regions.specs.InternalPlaces.{place_in, AreJoinedAbove, IsIndex, IsIndexBefore, IsJoinedIn}
use Rattle.fb_regions.specs.InternalKept.{HasParent, HaveParents, IsKept}
use Rattle.fb_regions.proofs.Found.{found, names_of, read_place}
use Rattle.fb_regions.proofs.Joined.{same_name}
use Rattle.fb_regions.proofs.Split.{still_among}
use Rattle.fb_regions.proofs.ByName.{first_placed, names, not_placed, placed, placed_mapped, placed_own, placed_push, placed_push_own, placed_removed, placed_set, removed_own}
use Rattle.fb_regions.proofs.RenamedRegions.{joiner_known}

pub index_set : (rs : List Region) (places : List (Option ℕ)) (i : ℕ) (old new : Region) → IsIndex rs places → old ≡ get_or rs i old → i < length rs
    → new.name ≡ old.name → IsIndex (set rs i new) places
index_set rs places i old new index at less named = record { entry = λ k. index.entry k ∙ sym (placed_set rs i k old new at less named) }

pub index_adopted : (rs : List Region) (places : List (Option ℕ)) (children : List ℕ) (o : Option ℕ) → IsIndex rs places
    → IsIndex (map (reparented_region children o) rs) places
index_adopted rs places children o index = record {
  entry = λ k. index.entry k ∙ sym (placed_mapped (reparented_region children o) (same_name children o) rs k);
}

-- the index of the same nodes in another table
pub index_same : (rs : List Region) (places other : List (Option ℕ)) → IsIndex rs places → ((k : ℕ) → place_in other k ≡ place_in places k)
    → IsIndex rs other
index_same rs places other index same = record { entry = λ k. same k ∙ index.entry k }

pub index_pushed : (rs : List Region) (places other : List (Option ℕ)) (new : Region) (n : ℕ) → IsIndex rs places → n ≡ length rs
    → is_in (names rs) new.name ≡ false → ((k : ℕ) → place_in other k ≡ (if new.name == k then Some n else place_in places k))
    → IsIndex (rs ++ new ∷ []) other
index_pushed rs places other new n index count fresh entries = record { entry = λ k. entries k ∙ by k (new.name == k) refl }
  where
    by : (k : ℕ) (b : Bool) → (new.name == k) ≡ b → (if b then Some n else place_in places k) ≡ placed k (rs ++ new ∷ [])
    by k true e =
        ap Some count ∙ (sym (placed_push_own rs new fresh) ∙ ap (λ y. placed y (rs ++ new ∷ [])) (eqb-true new.name k e))
    by k false e = index.entry k ∙ sym (placed_push rs new k e)

-- the entry of one node is taken away, and the later nodes are to be entered again
pub index_removed : (rs : List Region) (places other : List (Option ℕ)) (i : ℕ) (old : Region) → IsIndex rs places → AreDistinct (names rs)
    → old ≡ get_or rs i old → i < length rs → ((k : ℕ) → place_in other k ≡ (if old.name == k then None else place_in places k))
    → IsIndexBefore i (remove rs i) other
index_removed rs places other i old index distinct at less entries = record { entry = λ k out. entries k ∙ by k out (old.name == k) refl }
  where
    by : (k : ℕ) → is_in (names (drop i (remove rs i))) k ≡ false → (b : Bool) → (old.name == k) ≡ b
        → (if b then None else place_in places k) ≡ placed k (remove rs i)
    by k out true e =
        sym (not_placed (remove rs i) k (ap (is_in (names (remove rs i))) (sym (eqb-true old.name k e)) ∙ removed_own rs i old distinct at less))
    by k out false e = index.entry k ∙ placed_removed rs i k old at less e out

-- the node at the place is entered
pub index_entered : (rs : List Region) (places other : List (Option ℕ)) (i : ℕ) (r : Region) → AreDistinct (names rs) → r ≡ get_or rs i r
    → i < length rs → IsIndexBefore i rs places → ((k : ℕ) → place_in other k ≡ (if r.name == k then Some i else place_in places k))
    → IsIndexBefore (i + 1) rs other
index_entered rs places other i r distinct at less index entries = record { entry = λ k out. entries k ∙ by k out (r.name == k) refl }
  where
    cut : (xs : List Region) (j : ℕ) (x : Region) → x ≡ get_or xs j x → j < length xs → drop j xs ≡ x ∷ drop (j + 1) xs
    cut xs j x at' less' =
        drop-cons xs j x less' ∙ (ap (λ y. y ∷ drop (suc j) xs) (sym at') ∙ ap (λ n. x ∷ drop n xs) (sym (add-one j)))

    by : (k : ℕ) → is_in (names (drop (i + 1) rs)) k ≡ false → (b : Bool) → (r.name == k) ≡ b
        → (if b then Some i else place_in places k) ≡ placed k rs
    by k out true e = sym (placed_own rs i r distinct at less) ∙ ap (λ y. placed y rs) (eqb-true r.name k e)
    by k out false e =
        index.entry k
        (ap (λ l. is_in (names l) k) (cut rs i r at less) ∙ (ap (λ b. b || is_in (names (drop (i + 1) rs)) k) e ∙ out))

pub place_within : (ps : List (Option ℕ)) (k i : ℕ) → place_in ps k ≡ Some i → k < length ps
place_within [] zero i e = absurd (let clash : None ≡ Some i = e in cc)
place_within [] (suc k) i e = absurd (let clash : None ≡ Some i = e in cc)
place_within (p ∷ ps) zero i e = omega arith
place_within (p ∷ ps) (suc k) i e = let h = place_within ps k i e in omega (arith, h)

-- each name has an entry
pub names_within : (rs : List Region) (places : List (Option ℕ)) → IsIndex rs places → AreDistinct (names rs) → All (λ r. r.name < length places) rs
names_within rs places index distinct = λ i d less.
    place_within places (get_or rs i d).name i (index.entry (get_or rs i d).name ∙ placed_own rs i (get_or rs i d) distinct (same rs i d less) less)
  where
    same : (xs : List Region) (j : ℕ) (d : Region) → j < length xs → get_or xs j d ≡ get_or xs j (get_or xs j d)
    same [] j d less = absurd (omega arith)
    same (x ∷ xs) zero d less = refl
    same (x ∷ xs) (suc j) d less = same xs j d (omega arith)

-- a node changed at its place
pub index_changed : (rs : List Region) (places seen : List (Option ℕ)) (name i : ℕ) (old new : Region) → IsIndex rs places → seen ≡ places
    → Some i ≡ place_in seen name → old ≡ get_or rs i old → new.name ≡ old.name → IsIndex (set rs i new) places
index_changed rs places seen name i old new index e h at named =
    index_set rs places i old new index at (first_placed rs name i (read_place rs places seen name (Some i) index e h)).0 named

pub fresh_name : (marks : List (Option Mark)) (rs : List Region) (name : ℕ) → is_live (nodes_of marks rs) name ≡ false → is_in (names rs) name ≡ false
fresh_name marks rs name fresh = ap (λ l. is_in l name) (names_of marks rs) ∙ (names_live (nodes_of marks rs) name ∙ fresh)

-- what a dual state keeps
module _ (p : Problem) (regions : List Region) (marks : List (Option Mark)) (kept : IsKept p regions marks) where
  pub distinct_names : AreDistinct (names regions)
  distinct_names = subst AreDistinct (sym (names_of marks regions)) kept.nest.dual.names

  pub joined_above : AreJoinedAbove regions
  joined_above = by regions distinct_names kept.parents
    where
      up : (rs : List Region) (name : ℕ) (o : Option ℕ) → HasParent (nodes_of marks regions) rs name o → IsJoinedIn rs o
      up rs name None h = tt
      up rs name (Some q) h = joiner_known rs q name h

      by : (rs : List Region) → AreDistinct (names rs) → HaveParents (nodes_of marks regions) rs → AreJoinedAbove rs
      by [] distinct parents = tt
      by (r ∷ rs) distinct parents = (up rs r.name r.parent parents.0, distinct.0, by rs distinct.1 parents.1)

-- a node taken away
module _ (regions : List Region) (distinct : AreDistinct (names regions)) (places : List (Option ℕ)) (index : IsIndex regions places) (i : ℕ) where
  pub removed_within : (other : List (Option ℕ)) → length other ≡ length places → All (λ r. r.name < length other) (remove regions i)
  removed_within other same =
      among_All (λ r. r.name < length other) (remove regions i)
      (λ r a.
      let less : r.name < length places =
      All_among (λ s. s.name < length places) regions (names_within regions places index distinct) r (still_among regions i r a) in
      omega (arith, same, less))

  pub removed_before : (name : ℕ) (old : Region) → placed name regions ≡ Some i → old ≡ get_or regions i old → (other : List (Option ℕ))
      → ((k : ℕ) → place_in other k ≡ (if name == k then None else place_in places k)) → IsIndexBefore i (remove regions i) other
  removed_before name old at is_old other entries =
      index_removed regions places other i old index distinct is_old (first_placed regions name i at).0
      (λ k. entries k ∙ ap (λ n. if n == k then None else place_in places k) (sym (found [] regions name i old at is_old).named))
