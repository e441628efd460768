-- The names of freed nodes: each occurs once, and none was unmatched before.
use Rattle.std.proofs.Common.{ℕ, ◌≡◌, ◌≤◌, ◌⊎◌, inl, inr, true, false, List, [], ◌∷◌, ◌++◌, map, All, sym, ap, ◌∙◌, subst, arith}
use Rattle.std.proofs.lemmas.Bool.{false_from_ne_true, false≢true}
use Rattle.std.proofs.lemmas.List.Elements.{All-head, All-tail}
use Rattle.fb_graph.specs.Parity.{is_in}
use Rattle.fb_graph.specs.Problem.{Problem}
use Rattle.fb_graph.specs.Certificate.{AreDistinct}
use Rattle.fb_graph.specs.Laws.{Link}
use Rattle.fb_graph.specs.Counts.{as_count}
use Rattle.fb_graph.specs.Dual.{Node, is_live, top_at}
use Rattle.fb_graph.specs.Ends.{ends_in}
use Rattle.fb_graph.proofs.EndSums.{ends-cons, ends_append, ends_of_one}
use Rattle.fb_graph.proofs.Sets.{is_in-cases}
use Rattle.fb_laws.specs.Merging.{Freed, freed_links, freed_names}
use Rattle.fb_laws.specs.Paths.{LeadsOut}
use Rattle.fb_laws.specs.Works.{IsMatching, IsSetOf}
use Rattle.fb_laws.proofs.MergedParts.{live_at}
use Rattle.fb_laws.proofs.SearchTrees.{matched_named, top_at_place}

-- a freed node's link has an end in its set, which is that of an outer node
abbrev pub IsFreedEnd : List Node → Freed → Type 0
IsFreedEnd nodes f = IsSetOf nodes f.name f.set × LeadsOut f.link f.set f.seam

pub set_live : (nodes : List Node) (name : ℕ) (set : List ℕ) → IsSetOf nodes name set → is_live nodes name ≡ true
set_live nodes name set (i, less, outer, named, same) = ap (is_live nodes) (sym named) ∙ live_at nodes i less

one_set : (nodes : List Node) → AreDistinct (map (λ n. n.name) nodes) → (name other : ℕ) (set more : List ℕ) → name ≡ other
    → IsSetOf nodes name set → IsSetOf nodes other more → set ≡ more
one_set nodes distinct name other set more same (i, less, outer, named, is) (j, below, outer_, named_, is_) =
    sym is
    ∙ (sym (top_at_place nodes distinct i less)
    ∙ (ap (top_at nodes) (named ∙ (same ∙ sym named_)) ∙ (top_at_place nodes distinct j below ∙ is_)))

own_end : (l : Link) (set : List ℕ) (v : ℕ) → LeadsOut l set v → 1 ≤ ends_of_one set l
own_end l set v (inl (from, to)) = let e : as_count (is_in set l.from) ≡ 1 = ap as_count from in omega (arith, e)
own_end l set v (inr (to, from)) = let e : as_count (is_in set l.to) ≡ 1 = ap as_count to in omega (arith, e)

freed_some : (nodes : List Node) → AreDistinct (map (λ n. n.name) nodes) → (freed : List Freed) (n : ℕ) (set : List ℕ)
    → All (IsFreedEnd nodes) freed → is_in (freed_names freed) n ≡ true → IsSetOf nodes n set
    → 1 ≤ ends_in set (freed_links freed)
freed_some nodes distinct [] n set are within is = absurd (false≢true within)
freed_some nodes distinct (f ∷ fs) n set are within is =
    step (is_in-cases f.name (freed_names fs) n within)
    (λ there. freed_some nodes distinct fs n set (All-tail (IsFreedEnd nodes) f fs are) there is)
  where
    step : (f.name ≡ n) ⊎ (is_in (freed_names fs) n ≡ true) → (is_in (freed_names fs) n ≡ true → 1 ≤ ends_in set (freed_links fs))
        → 1 ≤ ends_in set (freed_links (f ∷ fs))
    step (inl same) later =
        let (is_set, leads) = All-head (IsFreedEnd nodes) f fs are in
        let h : 1 ≤ ends_of_one set f.link =
        own_end f.link set f.seam
        (subst (λ s. LeadsOut f.link s f.seam) (one_set nodes distinct f.name n f.set set same is_set is) leads) in
        omega (arith, h, ends-cons set f.link (freed_links fs))
    step (inr there) later = let h = later there in omega (arith, h, ends-cons set f.link (freed_links fs))

freed_distinct : (nodes : List Node) → AreDistinct (map (λ n. n.name) nodes) → (freed : List Freed)
    → All (IsFreedEnd nodes) freed
    → ((n : ℕ) (set : List ℕ) → IsSetOf nodes n set → ends_in set (freed_links freed) ≤ 1) → AreDistinct (freed_names freed)
freed_distinct nodes distinct [] are few = tt
freed_distinct nodes distinct (f ∷ fs) are few = (
  false_from_ne_true (is_in (freed_names fs) f.name)
      (λ there.
      let (is_set, leads) = All-head (IsFreedEnd nodes) f fs are in
      let again = freed_some nodes distinct fs f.name f.set (All-tail (IsFreedEnd nodes) f fs are) there is_set in
      let here = own_end f.link f.set f.seam leads in
      let most = few f.name f.set is_set in
      absurd (omega (arith, again, here, most, ends-cons f.set f.link (freed_links fs)))),
  freed_distinct nodes distinct fs (All-tail (IsFreedEnd nodes) f fs are)
      (λ n set is. let most = few n set is in omega (arith, most, ends-cons set f.link (freed_links fs))),
)

module _ (p : Problem) (nodes : List Node) (freed : List Freed) (rest : List Link) (unmatched : List ℕ) (matching : IsMatching p nodes (freed_links freed ++ rest) unmatched) (are : All (IsFreedEnd nodes) freed) where
  pub freed_once : AreDistinct (freed_names freed)
  freed_once =
      freed_distinct nodes matching.dual.names freed are
      (λ n set is.
      let one = matched_named p nodes (freed_links freed ++ rest) unmatched n set matching is in
      omega (arith, one, ends_append set (freed_links freed) rest))

  set_of : (fs : List Freed) → All (IsFreedEnd nodes) fs → (n : ℕ) → is_in (freed_names fs) n ≡ true → (set : List ℕ) × IsSetOf nodes n set
  set_of [] all n within = absurd (false≢true within)
  set_of (f ∷ fs) all n within =
      step (is_in-cases f.name (freed_names fs) n within) (set_of fs (All-tail (IsFreedEnd nodes) f fs all) n)
    where
      step : (f.name ≡ n) ⊎ (is_in (freed_names fs) n ≡ true) → (is_in (freed_names fs) n ≡ true → (set : List ℕ) × IsSetOf nodes n set)
          → (set : List ℕ) × IsSetOf nodes n set
      step (inl same) later = (f.set, subst (λ m. IsSetOf nodes m f.set) same (All-head (IsFreedEnd nodes) f fs all).0)
      step (inr there) later = later there

  pub freed_live : (n : ℕ) → is_in (freed_names freed) n ≡ true → is_live nodes n ≡ true
  freed_live n within = let (set, is) = set_of freed are n within in set_live nodes n set is

  pub freed_matched : (n : ℕ) → is_in (freed_names freed) n ≡ true → is_in unmatched n ≡ false
  freed_matched n within =
      let (set, is) = set_of freed are n within in
      let one = matched_named p nodes (freed_links freed ++ rest) unmatched n set matching is in
      let some = freed_some nodes matching.dual.names freed n set are within is in
      false_from_ne_true (is_in unmatched n)
      (λ open_.
      let e : as_count (is_in unmatched n) ≡ 1 = ap as_count open_ in
      absurd (omega (arith, one, some, e, ends_append set (freed_links freed) rest)))
