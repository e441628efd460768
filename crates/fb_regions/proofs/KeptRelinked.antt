-- A dual state of which some leaves have other links: nothing else that is kept speaks of links.
use Rattle.std.proofs.Common.{ℕ, ◌≡◌, ◌+◌, ◌==◌, ◌&&◌, ◌||◌, Bool, true, false, List, [], ◌∷◌, map, Option, Some, None, refl, sym, ap, ◌∙◌, subst, if◌then◌else◌}
use Rattle.std.specs.List.{All}
use Rattle.std.proofs.lemmas.List.Elements.{All-map, All-weaker}
use Rattle.fb_graph.specs.Certificate.{total_value}
use Rattle.fb_graph.specs.Dual.{Node, all_cuts, is_empty, layers_of}
use Rattle.fb_graph.specs.Nests.{IsNest}
use Rattle.fb_graph.specs.Parity.{is_in}
use Rattle.fb_graph.specs.Problem.{Problem}
use Rattle.fb_graph.specs.SourceWalks.{HaveWalks}
use Rattle.fb_regions.specs.declared.heads.Link.{Link}
use Rattle.fb_regions.specs.declared.marks.Mark.{Mark}
use Rattle.fb_regions.specs.declared.region.Region.{Region}
use Rattle.fb_regions.specs.declared.roles.Role.{Role}
use Rattle.fb_regions.specs.InternalClock.{HasBegun, HaveBegun, all_at, names_paced, now_at}
use Rattle.fb_regions.specs.InternalHeads.{relinked_all, relinked_region}
use Rattle.fb_regions.specs.InternalKept.{HasMarks, HasParent, HaveParents, IsKept, IsMarked, is_childless}
use Rattle.fb_regions.specs.InternalListings.{BeginAlike, BeginsFirst, IsListed}
use Rattle.fb_regions.specs.InternalNodes.{children_from, node_of, nodes_of, radii_from}
use Rattle.fb_regions.specs.InternalPlaces.{IsIndex}
use Rattle.fb_regions.proofs.ClockMoves.{paced_head}
use Rattle.fb_regions.proofs.Moved.{marked_moved}
use Rattle.fb_regions.proofs.Radii.{above}
use Rattle.fb_regions.proofs.Relinked.{relinked_index, relinked_keeps}

module _ (leaf : ℕ) (link : Link) where
  abbrev f : Region → Region
  f = relinked_region leaf link

  -- what is said of a region without its link
  plain : (P : Region → Type 0) → ((r : Region) → P r → P (record r { link = link })) → (r : Region) → P r → P (f r)
  plain P other r h = by (r.name == leaf)
    where
      by : (b : Bool) → P (if b then record r { link = link } else r)
      by true = other r h
      by false = h

  all_plain : (P : Region → Type 0) → ((r : Region) → P r → P (record r { link = link })) → (rs : List Region) → All P rs → All P (map f rs)
  all_plain P other rs h = All-map P f rs (All-weaker P (λ r. P (f r)) (plain P other) rs h)

  node_same : (marks : List (Option Mark)) (r : Region) → node_of marks (f r) ≡ node_of marks r
  node_same marks r = plain (λ s. node_of marks s ≡ node_of marks r) (λ s h. h) r refl

  nodes_same : (marks : List (Option Mark)) (rs : List Region) → nodes_of marks (map f rs) ≡ nodes_of marks rs
  nodes_same marks [] = refl
  nodes_same marks (r ∷ rs) =
      ap (λ n. n ∷ nodes_of marks (map f rs)) (node_same marks r) ∙ ap (λ l. node_of marks r ∷ l) (nodes_same marks rs)

  at_same : (clock : ℕ) (rs : List Region) → all_at clock (map f rs) ≡ map f (all_at clock rs)
  at_same clock [] = refl
  at_same clock (r ∷ rs) =
      ap (λ s. s ∷ all_at clock (map f rs)) (by (r.name == leaf)) ∙ ap (λ l. f (now_at clock r) ∷ l) (at_same clock rs)
    where
      by : (b : Bool) → now_at clock (if b then record r { link = link } else r) ≡ (if b then record (now_at clock r) { link = link } else now_at clock r)
      by true = refl
      by false = refl

  children_same : (rs : List Region) (q : ℕ) → children_from (map f rs) q ≡ children_from rs q
  children_same [] q = refl
  children_same (r ∷ rs) q =
      plain (λ s. (if s.name == q then s.children.items else children_from (map f rs) q) ≡ (if r.name == q then r.children.items else children_from (map f rs) q))
      (λ s h. h) r refl
      ∙ ap (λ l. if r.name == q then r.children.items else l) (children_same rs q)

  childless_same : (rs : List Region) (x : ℕ) → is_childless (map f rs) x ≡ is_childless rs x
  childless_same [] x = refl
  childless_same (r ∷ rs) x =
      plain (λ s. (((s.name == x) && is_empty s.children.items) || is_childless (map f rs) x) ≡ (((r.name == x) && is_empty r.children.items) || is_childless (map f rs) x))
      (λ s h. h) r refl
      ∙ ap (λ b. ((r.name == x) && is_empty r.children.items) || b) (childless_same rs x)

  radii_same : (rs : List Region) (x : ℕ) → radii_from (map f rs) x ≡ radii_from rs x
  radii_same [] x = refl
  radii_same (r ∷ rs) x =
      plain (λ s. (if s.name == x then s.radius + above (map f rs) s.parent else radii_from (map f rs) x)
      ≡ (if r.name == x then r.radius + above (map f rs) r.parent else radii_from (map f rs) x)) (λ s h. h) r refl
      ∙ by (r.name == x) r.parent (radii_same rs)
    where
      by : (b : Bool) (o : Option ℕ) → ((y : ℕ) → radii_from (map f rs) y ≡ radii_from rs y)
          → (if b then r.radius + above (map f rs) o else radii_from (map f rs) x) ≡ (if b then r.radius + above rs o else radii_from rs x)
      by true None rest = refl
      by true (Some q) rest = ap (λ n. r.radius + n) (rest q)
      by false o rest = rest x

  parents_same : (nodes : List Node) (rs : List Region) → HaveParents nodes rs → HaveParents nodes (map f rs)
  parents_same nodes [] h = tt
  parents_same nodes (r ∷ rs) h = (
    plain (λ s. HasParent nodes (map f rs) s.name s.parent) (λ s k. k) r (up r.parent h.0),
    parents_same nodes rs h.1,
  )
    where
      up : (o : Option ℕ) → HasParent nodes rs r.name o → HasParent nodes (map f rs) r.name o
      up None k = k
      up (Some q) k = ap (λ l. is_in l r.name) (children_same rs q) ∙ k

  kept_step : (p : Problem) (rs : List Region) (marks : List (Option Mark)) → IsKept p rs marks → IsKept p (map f rs) marks
  kept_step p rs marks kept = record {
    nest = subst (IsNest p) (sym (nodes_same marks rs)) kept.nest;
    walks = subst (HaveWalks p) (sym (nodes_same marks rs)) kept.walks;
    room = kept.room;
    radii = all_plain (λ r. r.radius ≡ total_value (layers_of (node_of marks r))) (λ r h. h) rs kept.radii;
    parents = subst (λ ns. HaveParents ns (map f rs)) (sym (nodes_same marks rs)) (parents_same (nodes_of marks rs) rs kept.parents);
    sets = subst (λ ns. All (λ c. HasMarks marks c.vertices) (all_cuts ns)) (sym (nodes_same marks rs)) kept.sets;
    listed = all_plain (IsListed marks) (λ r h. record { first = h.first; whole = h.whole }) rs kept.listed;
    begins =
        subst (λ ns. BeginAlike ns (map f rs)) (sym (nodes_same marks rs))
        (all_plain (λ r. BeginsFirst (nodes_of marks rs) r.first r.children.items) (λ r h. h) rs kept.begins);
    marked = λ v m has.
        subst (λ ns. IsMarked p ns (map f rs) marks v m) (sym (nodes_same marks rs))
        (let is = kept.marked v m has in
        marked_moved p (nodes_of marks rs) (nodes_of marks rs) rs (map f rs) marks marks v m is is.covered is.leaf
        (childless_same rs m.leaf ∙ is.childless) refl (radii_same rs m.leaf) (λ u h. h) (λ s e. refl));
  }

  paced_same_by : (test : Role → Bool) (rs : List Region) → names_paced test (map f rs) ≡ names_paced test rs
  paced_same_by test [] = refl
  paced_same_by test (r ∷ rs) =
      paced_head test (f r) (map f rs)
      ∙ (plain (λ s. (if test s.pace then s.name ∷ names_paced test (map f rs) else names_paced test (map f rs))
      ≡ (if test r.pace then r.name ∷ names_paced test (map f rs) else names_paced test (map f rs))) (λ s h. h) r refl
      ∙ (ap (λ l. if test r.pace then r.name ∷ l else l) (paced_same_by test rs) ∙ sym (paced_head test r rs)))

  begun_step : (clock : ℕ) (rs : List Region) → HaveBegun clock rs → HaveBegun clock (map f rs)
  begun_step clock rs h = all_plain (HasBegun clock) (λ r k. k) rs h

-- the state whose heads are relinked
module _ (link : Region → Link) (cs : List ℕ) (rs : List Region) where
  pub kept_relinked : (p : Problem) (clock : ℕ) (marks : List (Option Mark)) → IsKept p (all_at clock rs) marks
      → IsKept p (all_at clock (relinked_all link cs rs)) marks
  kept_relinked p clock marks kept =
      relinked_keeps (λ l. IsKept p (all_at clock l) marks)
      (λ leaf to xs h. subst (λ l. IsKept p l marks) (sym (at_same leaf to clock xs)) (kept_step leaf to p (all_at clock xs) marks h)) link cs rs kept

  pub index_relinked : (places : List (Option ℕ)) → IsIndex rs places → IsIndex (relinked_all link cs rs) places
  index_relinked places index = relinked_keeps (λ l. IsIndex l places) (relinked_index places) link cs rs index

  pub begun_relinked : (clock : ℕ) → HaveBegun clock rs → HaveBegun clock (relinked_all link cs rs)
  begun_relinked clock begun = relinked_keeps (HaveBegun clock) (λ leaf to xs h. begun_step leaf to clock xs h) link cs rs begun

  pub paced_relinked : (test : Role → Bool) → names_paced test (relinked_all link cs rs) ≡ names_paced test rs
  paced_relinked test =
      relinked_keeps (λ l. names_paced test l ≡ names_paced test rs) (λ leaf to xs h. paced_same_by leaf to test xs ∙ h) link cs rs refl

  pub nodes_relinked : (clock : ℕ) (marks : List (Option Mark)) → nodes_of marks (all_at clock (relinked_all link cs rs)) ≡ nodes_of marks (all_at clock rs)
  nodes_relinked clock marks =
      relinked_keeps (λ l. nodes_of marks (all_at clock l) ≡ nodes_of marks (all_at clock rs))
      (λ leaf to xs h. ap (nodes_of marks) (at_same leaf to clock xs) ∙ (nodes_same leaf to marks (all_at clock xs) ∙ h)) link cs rs refl
