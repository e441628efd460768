-- Heads as nodes come, are joined or split.
use Rattle.std.proofs.Common.{ℕ, ◌≡◌, Bool, true, false, List, [], ◌∷◌, ◌++◌, map, Option, Some, None, option_map, refl, sym, ap, ◌∙◌, subst, if◌then◌else◌}
use Rattle.std.proofs.lemmas.Bool.{both_ways, false≢true, false_from_ne_true}
use Rattle.fb_graph.specs.Dual.{is_empty, is_live, is_outer}
use Rattle.fb_graph.specs.Moves.{MayJoin}
use Rattle.fb_graph.specs.Parity.{is_in}
use Rattle.fb_graph.specs.Problem.{Problem}
use Rattle.fb_graph.proofs.Sets.{is_in-All}
use Rattle.fb_regions.specs.declared.heads.Joint.{Joint}
use Rattle.fb_regions.specs.declared.heads.Link.{Link}
use Rattle.fb_regions.specs.declared.marks.Mark.{Mark}
use Rattle.fb_regions.specs.declared.region.Region.{Region}
use Rattle.fb_regions.specs.InternalClock.{all_at, now_at}
use Rattle.fb_regions.specs.InternalHeads.{HaveHeads, IsJointOf, link_in, link_under, relinked_all}
use Rattle.fb_regions.specs.InternalKept.{IsKept}
use Rattle.fb_regions.specs.InternalListings.{region_named}
use Rattle.fb_regions.specs.InternalNodes.{nodes_of, reparented_region}
use Rattle.fb_regions.proofs.ByName.{names}
use Rattle.fb_regions.proofs.ClockReadings.{appended_at, named_at_time, names_at}
use Rattle.fb_regions.proofs.HeadClimbs.{named_name}
use Rattle.fb_regions.proofs.HeadLists.{IsRelinked, named_last, named_map, named_not_last, none_named, relinked_from}
use Rattle.fb_regions.proofs.HeadMoves.{AreRelated, IsMoved, ReadsNone, forth, heads_joined, heads_opened, joined_link, outer_head}
use Rattle.fb_regions.proofs.HeadRelinks.{HaveOwn, link_at, link_hit, link_missed, moved_at}
use Rattle.fb_regions.proofs.HeadsKept.{no_child, outer_named}
use Rattle.fb_regions.proofs.HeadTops.{leaf_in}
use Rattle.fb_regions.proofs.Indexed.{fresh_name}
use Rattle.fb_regions.proofs.Joined.{adopted_names, same_name}

-- a node at a time, and as it is kept
pub kept_as : (clock : ℕ) (o : Option Region) (r : Region) → option_map (now_at clock) o ≡ Some r → (k : Region) × (o ≡ Some k) × (now_at clock k ≡ r)
kept_as clock None r e = absurd (let clash : None ≡ Some r = e in cc)
kept_as clock (Some k) r e = let same : now_at clock k ≡ r = cc in (k, refl, same)

-- where a node leads whose parent is another one
pub under_reparented : (clock : ℕ) (j : Option Joint) (cs : List ℕ) (o : Option ℕ) (r : Region)
    → link_under clock j (reparented_region cs o r) ≡ link_under clock j r
under_reparented clock j cs o r = by (is_in cs r.name) j
  where
    by : (b : Bool) (k : Option Joint) → link_under clock k (if b then record r { parent = o } else r) ≡ link_under clock k r
    by true None = refl
    by true (Some k) = refl
    by false k = refl

pub under_relinked : (clock : ℕ) (j : Option Joint) (r : Region) (l : Link) → link_under clock j (record r { link = l }) ≡ link_under clock j r
under_relinked clock None r l = refl
under_relinked clock (Some j) r l = refl

pub reparented_head : (cs : List ℕ) (o : Option ℕ) (r : Region) → (reparented_region cs o r).head ≡ r.head
reparented_head cs o r = by (is_in cs r.name)
  where
    by : (b : Bool) → (if b then record r { parent = o } else r).head ≡ r.head
    by true = refl
    by false = refl

some_joined : (cs : List ℕ) (core : ℕ) → is_in cs core ≡ true → is_empty cs ≡ false
some_joined [] core h = absurd (false≢true h)
some_joined (c ∷ cs) core h = refl

module _ (p : Problem) (clock : ℕ) (regions : List Region) (marks : List (Option Mark)) (kept : IsKept p (all_at clock regions) marks)
    (have : HaveHeads (region_named (all_at clock regions))) (name : ℕ) where
  abbrev at : ℕ → Option Region
  at = region_named (all_at clock regions)

  at_is : (x : ℕ) → at x ≡ option_map (now_at clock) (region_named regions x)
  at_is x = named_at_time clock regions x

  pub fresh_in : is_live (nodes_of marks (all_at clock regions)) name ≡ false → is_in (names regions) name ≡ false
  fresh_in fresh = ap (λ l. is_in l name) (sym (names_at clock regions)) ∙ fresh_name marks (all_at clock regions) name fresh

  -- a leaf comes
  pub heads_with_leaf : (new : Region) → is_live (nodes_of marks (all_at clock regions)) name ≡ false → new.name ≡ name → new.children.items ≡ []
      → new.parent ≡ None → new.head ≡ name → new.inside ≡ 0 → new.link ≡ record { top = name; beside = None }
      → HaveHeads (region_named (all_at clock (regions ++ new ∷ [])))
  heads_with_leaf new fresh named childless bare head inside link =
      subst (λ l. HaveHeads (region_named l)) (sym (appended_at clock regions (new ∷ [])))
      (heads_opened at (region_named (all_at clock regions ++ now_at clock new ∷ [])) have name (now_at clock new)
      (none_named (all_at clock regions) name out)
      (subst (λ x. region_named (all_at clock regions ++ now_at clock new ∷ []) x ≡ Some (now_at clock new)) named
      (named_last (all_at clock regions) (now_at clock new) (ap (is_in (names (all_at clock regions))) named ∙ out)))
      bare childless head inside link
      (λ x other. named_not_last (all_at clock regions) (now_at clock new) x (λ e. other (e ∙ named)))
      (no_child p (all_at clock regions) marks kept name fresh))
    where
      out : is_in (names (all_at clock regions)) name ≡ false
      out = fresh_name marks (all_at clock regions) name fresh

  pub not_own : (children : List ℕ) → MayJoin (nodes_of marks (all_at clock regions)) name children → is_in children name ≡ false
  not_own children may =
      false_from_ne_true (is_in children name)
      (λ h.
      both_ways (is_live (nodes_of marks (all_at clock regions)) name) may.fresh
      (is_in-All (λ c. is_live (nodes_of marks (all_at clock regions)) c ≡ true) children may.live name h))

  module _ (children : List ℕ) (may : MayJoin (nodes_of marks (all_at clock regions)) name children) (new : Region) (j : Joint)
      (joint : IsJointOf (region_named regions) clock name children j) (name_is : new.name ≡ name) (children_are : new.children.items ≡ children)
      (bare : new.parent ≡ None) (head_is : new.head ≡ j.head) (inside_is : new.inside ≡ j.inside) where
    abbrev joined : List Region
    joined = map (reparented_region children (Some name)) regions ++ new ∷ []

    abbrev link : Region → Link
    link = link_under clock (Some j)

    abbrev after : List Region
    after = relinked_all link children joined

    abbrev at' : ℕ → Option Region
    at' = region_named (all_at clock after)

    at'_is : (x : ℕ) → at' x ≡ option_map (now_at clock) (region_named after x)
    at'_is x = named_at_time clock after x

    gone : region_named regions name ≡ None
    gone = none_named regions name (fresh_in may.fresh)

    fresh : at name ≡ None
    fresh = at_is name ∙ ap (option_map (now_at clock)) gone

    joined_at : (x : ℕ) → (x ≡ name → ⊥) → region_named joined x ≡ option_map (reparented_region children (Some name)) (region_named regions x)
    joined_at x other =
        named_not_last (map (reparented_region children (Some name)) regions) new x (λ e. other (e ∙ name_is))
        ∙ named_map (reparented_region children (Some name)) (same_name children (Some name)) regions x

    joined_new : region_named joined name ≡ Some new
    joined_new =
        subst (λ x. region_named joined x ≡ Some new) name_is
        (named_last (map (reparented_region children (Some name)) regions) new
        (ap (λ l. is_in l new.name) (adopted_names children (Some name) regions) ∙ (ap (is_in (names regions)) name_is ∙ fresh_in may.fresh)))

    moved : (x : ℕ) → (x ≡ name → ⊥) → AreRelated (IsMoved children (Some name) x) (at x) (at' x)
    moved x other =
        subst (λ o. AreRelated (IsMoved children (Some name) x) o (at' x)) (sym (at_is x))
        (subst (λ o. AreRelated (IsMoved children (Some name) x) (option_map (now_at clock) (region_named regions x)) o) (sym (at'_is x))
        (moved_at clock children (Some name) link children joined x (region_named regions x) (joined_at x other) (λ r e. named_name regions x r e)))

    outer : (x : ℕ) (r : Region) → at x ≡ Some r → is_in children x ≡ true → r.parent ≡ None
    outer x r e x_in =
        outer_named p (all_at clock regions) marks kept x r e
        (is_in-All (λ c. is_outer (nodes_of marks (all_at clock regions)) c ≡ true) children may.outer x x_in)

    not_name : (x : ℕ) (r : Region) → at x ≡ Some r → x ≡ name → ⊥
    not_name x r e same = let clash : None ≡ Some r = sym fresh ∙ (ap at (sym same) ∙ e) in absurd (cc)

    -- a child before
    record IsChild (x : ℕ) (t : Region) : Type 0 where
      region : Region
      there : region_named regions x ≡ Some region
      is : reparented_region children (Some name) region ≡ t

    child_of : (x : ℕ) (t : Region) → is_in children x ≡ true → region_named joined x ≡ Some t → IsChild x t
    child_of x t x_in e = by (region_named regions x) refl (sym (joined_at x differ) ∙ e)
      where
        differ : x ≡ name → ⊥
        differ same = both_ways (is_in children name) (not_own children may) (ap (is_in children) (sym same) ∙ x_in)

        by : (o : Option Region) → region_named regions x ≡ o → option_map (reparented_region children (Some name)) o ≡ Some t → IsChild x t
        by None f h = absurd (let clash : None ≡ Some t = h in cc)
        by (Some r) f h = let same : reparented_region children (Some name) r ≡ t = cc in record { region = r; there = f; is = same }

    child_now : (x : ℕ) (t : Region) (c : IsChild x t) → at x ≡ Some (now_at clock c.region)
    child_now x t c = at_is x ∙ ap (option_map (now_at clock)) c.there

    child_head : (x : ℕ) (t : Region) (c : IsChild x t) → t.head ≡ c.region.head
    child_head x t c = ap (λ y. y.head) (sym c.is) ∙ reparented_head children (Some name) c.region

    own_heads : HaveOwn joined children
    own_heads c d s t c_in d_in is_s is_t same =
        let one = child_of c s c_in is_s in
        let two = child_of d t d_in is_t in
        outer_head at have c d (now_at clock one.region) (now_at clock two.region) (child_now c s one) (child_now d t two)
        (outer c (now_at clock one.region) (child_now c s one) c_in) (outer d (now_at clock two.region) (child_now d t two) d_in)
        (sym (child_head c s one) ∙ (same ∙ child_head d t two))

    link_is : (x : ℕ) (k : Region) → k.name ≡ x → link k ≡ joined_link name j.head j.inside x (now_at clock k)
    link_is x k named =
        ap (λ n. joined_link n j.head j.inside k.name (now_at clock k)) joint.name_is
        ∙ ap (λ n. joined_link name j.head j.inside n (now_at clock k)) named

    hit : (x : ℕ) (r : Region) → at x ≡ Some r → is_in children x ≡ true → link_in (at' r.head) ≡ Some (joined_link name j.head j.inside x r)
    hit x r e x_in =
        let (k, there, is) = kept_as clock (region_named regions x) r (sym (at_is x) ∙ e) in
        let t = reparented_region children (Some name) k in
        let t_there : region_named joined x ≡ Some t =
        joined_at x (not_name x r e) ∙ ap (option_map (reparented_region children (Some name))) there in
        let l = leaf_in (at r.head) (have.heads x r e) in
        let (m, m_there, m_is) = kept_as clock (region_named regions r.head) l.region (sym (at_is r.head) ∙ l.is) in
        let heads : t.head ≡ r.head = reparented_head children (Some name) k ∙ ap (λ y. y.head) is in
        let head_there : region_named joined t.head ≡ Some (reparented_region children (Some name) m) =
        ap (region_named joined) heads
        ∙ (joined_at r.head (not_name r.head l.region l.is) ∙ ap (option_map (reparented_region children (Some name))) m_there) in
        ap (λ y. link_in (at' y)) (sym heads)
        ∙ (ap link_in (at'_is t.head)
        ∙ (link_at clock (region_named after t.head)
        ∙ (link_hit link (under_relinked clock (Some j)) joined x t t_there (reparented_region children (Some name) m) head_there children own_heads x_in
        ∙ ap Some
        (under_reparented clock (Some j) children (Some name) k
        ∙ (link_is x k (named_name regions x k there) ∙ ap (joined_link name j.head j.inside x) is)))))

    miss : (h : ℕ) → (h ≡ name → ⊥) → ReadsNone at children h → link_in (at' h) ≡ link_in (at h)
    miss h other none =
        ap link_in (at'_is h)
        ∙ (link_at clock (region_named after h)
        ∙ (link_missed link children joined h
        (λ c t c_in there same.
        let k = child_of c t c_in there in
        none c (now_at clock k.region) (child_now c t k) c_in (sym (child_head c t k) ∙ same))
        ∙ (ap link_in (joined_at h other) ∙ (still (region_named regions h) ∙ sym (ap link_in (at_is h) ∙ link_at clock (region_named regions h))))))
      where
        still : (o : Option Region) → link_in (option_map (reparented_region children (Some name)) o) ≡ link_in o
        still None = refl
        still (Some r) = by (is_in children r.name)
          where
            by : (b : Bool) → Some (if b then record r { parent = Some name } else r).link ≡ Some r.link
            by true = refl
            by false = refl

    pub heads_after_join : HaveHeads (region_named (all_at clock after))
    heads_after_join =
        let (s, there, is) = forth IsRelinked (region_named joined name) (region_named after name) new (relinked_from link children joined name) joined_new in
        let own : at' name ≡ Some (now_at clock s) = at'_is name ∙ ap (option_map (now_at clock)) there in
        let cs : s.children.items ≡ children = ap (λ y. y.children.items) is ∙ children_are in
        let head : s.head ≡ j.head = ap (λ y. y.head) is ∙ head_is in
        let inside : s.inside ≡ j.inside = ap (λ y. y.inside) is ∙ inside_is in
        heads_joined at at' have name (now_at clock s) fresh own (ap (λ y. y.parent) is ∙ bare)
        (ap is_empty cs ∙ some_joined children joint.core joint.child) joint.core (now_at clock joint.region)
        (ap (λ l. is_in l joint.core) cs ∙ joint.child) (at_is joint.core ∙ ap (option_map (now_at clock)) joint.there)
        (head ∙ joint.head) (inside ∙ joint.inside)
        (λ x other. subst (λ l. AreRelated (IsMoved l (Some name) x) (at x) (at' x)) (sym cs) (moved x other))
        (λ x r e x_in. outer x r e (ap (λ l. is_in l x) (sym cs) ∙ x_in))
        (no_child p (all_at clock regions) marks kept name may.fresh)
        (ap (λ l. is_in l name) cs ∙ not_own children may)
        (λ x r e x_in.
        hit x r e (ap (λ l. is_in l x) (sym cs) ∙ x_in)
        ∙ (ap (λ n. Some (joined_link name n j.inside x r)) (sym head) ∙ ap (λ n. Some (joined_link name s.head n x r)) (sym inside)))
        (λ h other none. miss h other (λ c t is_t c_in same. none c t is_t (ap (λ l. is_in l c) cs ∙ c_in) same))
