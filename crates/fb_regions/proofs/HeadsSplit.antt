-- Heads as a node is split.
use Rattle.std.proofs.Common.{ℕ, ◌≡◌, ◌<◌, Bool, true, false, List, [], map, get_or, length, Option, Some, None, option_map, refl, sym, ap, ◌∙◌, subst, if◌then◌else◌}
use Rattle.std.specs.List.{remove}
use Rattle.std.proofs.lemmas.Bool.{both_ways}
use Rattle.fb_graph.specs.Dual.{is_empty}
use Rattle.fb_graph.specs.Moves.{MaySplit}
use Rattle.fb_graph.specs.Parity.{is_in}
use Rattle.fb_graph.specs.Problem.{Problem}
use Rattle.fb_graph.proofs.Among.{All_among, map_among}
use Rattle.fb_regions.specs.declared.heads.Link.{Link}
use Rattle.fb_regions.specs.declared.marks.Mark.{Mark}
use Rattle.fb_regions.specs.declared.region.Region.{Region}
use Rattle.fb_regions.specs.InternalClock.{all_at, now_at}
use Rattle.fb_regions.specs.InternalHeads.{HaveHeads, link_in, link_under, relinked_all}
use Rattle.fb_regions.specs.InternalKept.{IsKept}
use Rattle.fb_regions.specs.InternalListings.{region_named}
use Rattle.fb_regions.specs.InternalNodes.{node_of, nodes_of, reparented_region}
use Rattle.fb_regions.proofs.ByName.{first_placed, names, placed, removed_own}
use Rattle.fb_regions.proofs.ClockMoves.{names_apart}
use Rattle.fb_regions.proofs.ClockReadings.{named_at_time}
use Rattle.fb_regions.proofs.HeadClimbs.{named_among, named_name}
use Rattle.fb_regions.proofs.HeadLists.{IsRelinked, named_map, named_removed, none_named, relinked_from}
use Rattle.fb_regions.proofs.HeadMoves.{AreRelated, IsMoved, ReadsNone, heads_split}
use Rattle.fb_regions.proofs.HeadRelinks.{HaveOwn, link_at, link_hit, link_missed, moved_at}
use Rattle.fb_regions.proofs.HeadsJoined.{kept_as, reparented_head, under_relinked, under_reparented}
use Rattle.fb_regions.proofs.HeadsKept.{child_joined, joined_child, outer_named}
use Rattle.fb_regions.proofs.HeadTops.{leaf_in}
use Rattle.fb_regions.proofs.Joined.{same_name}
use Rattle.fb_regions.proofs.Linking.{named_at}

none_related : (o o' : Option Region) → AreRelated IsRelinked o o' → o ≡ None → o' ≡ None
none_related None None h e = refl
none_related None (Some s) h e = absurd h
none_related (Some r) o' h e = absurd (let clash : Some r ≡ None = e in cc)

module _ (p : Problem) (clock : ℕ) (regions : List Region) (marks : List (Option Mark)) (kept : IsKept p (all_at clock regions) marks)
    (have : HaveHeads (region_named (all_at clock regions))) (name i : ℕ) (old : Region) (placed_there : placed name regions ≡ Some i)
    (is_old : old ≡ get_or regions i old) (may : MaySplit (nodes_of marks (all_at clock regions)) name) where
  abbrev cs : List ℕ
  cs = old.children.items

  abbrev left : List Region
  left = map (reparented_region cs None) (remove regions i)

  abbrev link : Region → Link
  link = link_under clock None

  abbrev after : List Region
  after = relinked_all link cs left

  abbrev at : ℕ → Option Region
  at = region_named (all_at clock regions)

  abbrev at' : ℕ → Option Region
  at' = region_named (all_at clock after)

  at_is : (x : ℕ) → at x ≡ option_map (now_at clock) (region_named regions x)
  at_is x = named_at_time clock regions x

  at'_is : (x : ℕ) → at' x ≡ option_map (now_at clock) (region_named after x)
  at'_is x = named_at_time clock after x

  less : i < length regions
  less = (first_placed regions name i placed_there).0

  there : region_named regions name ≡ Some old
  there = named_at regions name i old placed_there is_old

  named : old.name ≡ name
  named = named_name regions name old there

  there_now : at name ≡ Some (now_at clock old)
  there_now = at_is name ∙ ap (option_map (now_at clock)) there

  joins : is_empty cs ≡ false
  joins =
      (All_among (λ n. n.name ≡ name → (is_empty n.children ≡ false) × (n.below ≡ []) × (n.top.value ≡ 0)) (nodes_of marks (all_at clock regions)) may.bare
      (node_of marks (now_at clock old))
      (map_among (node_of marks) (all_at clock regions) (now_at clock old) (named_among (all_at clock regions) name (now_at clock old) there_now)) named).0

  left_name : region_named left name ≡ None
  left_name =
      named_map (reparented_region cs None) (same_name cs None) (remove regions i) name
      ∙ ap (option_map (reparented_region cs None))
      (none_named (remove regions i) name (ap (is_in (names (remove regions i))) (sym named) ∙ removed_own regions i old (names_apart p clock regions marks kept) is_old less))

  gone : at' name ≡ None
  gone =
      at'_is name
      ∙ ap (option_map (now_at clock)) (none_related (region_named left name) (region_named after name) (relinked_from link cs left name) left_name)

  left_at : (x : ℕ) → (x ≡ name → ⊥) → region_named left x ≡ option_map (reparented_region cs None) (region_named regions x)
  left_at x other =
      named_map (reparented_region cs None) (same_name cs None) (remove regions i) x
      ∙ ap (option_map (reparented_region cs None)) (named_removed regions i old x is_old less (λ e. other (e ∙ named)))

  moved : (x : ℕ) → (x ≡ name → ⊥) → AreRelated (IsMoved cs None x) (at x) (at' x)
  moved x other =
      subst (λ o. AreRelated (IsMoved cs None x) o (at' x)) (sym (at_is x))
      (subst (λ o. AreRelated (IsMoved cs None x) (option_map (now_at clock) (region_named regions x)) o) (sym (at'_is x))
      (moved_at clock cs None link cs left x (region_named regions x) (left_at x other) (λ r e. named_name regions x r e)))

  outer : (now_at clock old).parent ≡ None
  outer = outer_named p (all_at clock regions) marks kept name (now_at clock old) there_now may.outer

  -- the node itself is none of its children
  no_own : (x : ℕ) (r : Region) → at x ≡ Some r → is_in cs x ≡ true → x ≡ name → ⊥
  no_own x r e x_in same =
      let up : r.parent ≡ Some name = child_joined p (all_at clock regions) marks kept name (now_at clock old) there_now x r e x_in in
      let both : Some r ≡ Some (now_at clock old) = sym e ∙ (ap at same ∙ there_now) in
      let is : r ≡ now_at clock old = cc in
      let clash : None ≡ Some name = sym outer ∙ (ap (λ y. y.parent) (sym is) ∙ up) in
      absurd (cc)

  record IsChild (x : ℕ) (t : Region) : Type 0 where
    region : Region
    here : region_named regions x ≡ Some region
    is : reparented_region cs None region ≡ t

  child_of : (x : ℕ) (t : Region) → region_named left x ≡ Some t → IsChild x t
  child_of x t e = by (region_named regions x) refl (sym (left_at x differ) ∙ e)
    where
      differ : x ≡ name → ⊥
      differ same = let clash : None ≡ Some t = sym left_name ∙ (ap (region_named left) (sym same) ∙ e) in absurd (cc)

      by : (o : Option Region) → region_named regions x ≡ o → option_map (reparented_region cs None) o ≡ Some t → IsChild x t
      by None f h = absurd (let clash : None ≡ Some t = h in cc)
      by (Some r) f h = let same : reparented_region cs None r ≡ t = cc in record { region = r; here = f; is = same }

  child_now : (x : ℕ) (t : Region) (c : IsChild x t) → at x ≡ Some (now_at clock c.region)
  child_now x t c = at_is x ∙ ap (option_map (now_at clock)) c.here

  child_head : (x : ℕ) (t : Region) (c : IsChild x t) → t.head ≡ c.region.head
  child_head x t c = ap (λ y. y.head) (sym c.is) ∙ reparented_head cs None c.region

  own_heads : HaveOwn left cs
  own_heads c d s t c_in d_in is_s is_t same =
      let one = child_of c s is_s in
      let two = child_of d t is_t in
      have.apart name c d (now_at clock old) (now_at clock one.region) (now_at clock two.region) there_now c_in d_in (child_now c s one) (child_now d t two)
      (sym (child_head c s one) ∙ (same ∙ child_head d t two))

  not_leaf : (x : ℕ) (r : Region) → at x ≡ Some r → is_empty r.children.items ≡ true → x ≡ name → ⊥
  not_leaf x r e childless same =
      let both : Some r ≡ Some (now_at clock old) = sym e ∙ (ap at same ∙ there_now) in
      let is : r ≡ now_at clock old = cc in
      both_ways (is_empty cs) joins (ap (λ y. is_empty y.children.items) (sym is) ∙ childless)

  hit : (x : ℕ) (r : Region) → at x ≡ Some r → is_in cs x ≡ true → link_in (at' r.head) ≡ Some (record { top = x; beside = None })
  hit x r e x_in =
      let (k, here, is) = kept_as clock (region_named regions x) r (sym (at_is x) ∙ e) in
      let t = reparented_region cs None k in
      let t_there : region_named left x ≡ Some t = left_at x (no_own x r e x_in) ∙ ap (option_map (reparented_region cs None)) here in
      let l = leaf_in (at r.head) (have.heads x r e) in
      let (m, m_there, m_is) = kept_as clock (region_named regions r.head) l.region (sym (at_is r.head) ∙ l.is) in
      let heads : t.head ≡ r.head = reparented_head cs None k ∙ ap (λ y. y.head) is in
      let head_there : region_named left t.head ≡ Some (reparented_region cs None m) =
      ap (region_named left) heads ∙ (left_at r.head (not_leaf r.head l.region l.is l.childless) ∙ ap (option_map (reparented_region cs None)) m_there) in
      ap (λ y. link_in (at' y)) (sym heads)
      ∙ (ap link_in (at'_is t.head)
      ∙ (link_at clock (region_named after t.head)
      ∙ (link_hit link (under_relinked clock None) left x t t_there (reparented_region cs None m) head_there cs own_heads x_in
      ∙ ap Some (under_reparented clock None cs None k ∙ ap (λ n. record { top = n; beside = None }) (named_name regions x k here)))))

  miss : (h : ℕ) → (h ≡ name → ⊥) → ReadsNone at cs h → link_in (at' h) ≡ link_in (at h)
  miss h other none =
      ap link_in (at'_is h)
      ∙ (link_at clock (region_named after h)
      ∙ (link_missed link cs left h
      (λ c t c_in here same.
      let k = child_of c t here in
      none c (now_at clock k.region) (child_now c t k) c_in (sym (child_head c t k) ∙ same))
      ∙ (ap link_in (left_at h other) ∙ (still (region_named regions h) ∙ sym (ap link_in (at_is h) ∙ link_at clock (region_named regions h))))))
    where
      still : (o : Option Region) → link_in (option_map (reparented_region cs None) o) ≡ link_in o
      still None = refl
      still (Some r) = by (is_in cs r.name)
        where
          by : (b : Bool) → Some (if b then record r { parent = None } else r).link ≡ Some r.link
          by true = refl
          by false = refl

  pub heads_after_split : HaveHeads (region_named (all_at clock after))
  heads_after_split =
      heads_split at at' have name (now_at clock old) there_now outer joins gone moved
      (joined_child p (all_at clock regions) marks kept name (now_at clock old) there_now)
      (child_joined p (all_at clock regions) marks kept name (now_at clock old) there_now) hit miss
