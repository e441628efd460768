-- Heads as nodes change, come, are joined or split.
use Rattle.std.proofs.Common.{ℕ, ◌≡◌, ◌+◌, ◌-◌, ◌%◌, ◌^◌, ◌<◌, ◌==◌, ◌⊎◌, inl, inr, Bool, true, false, List, [], Option, Some, None, refl, sym, ap, ◌∙◌, subst, arith, if◌then◌else◌}
use Rattle.std.proofs.Math.Nat.{add-mod-mod, add-mod_right, mod-eq_of_lt}
use Rattle.std.proofs.lemmas.Bool.{both_ways, cases_eq, eq-eqb, eqb-true, false≢true}
use Rattle.fb_graph.specs.Dual.{is_empty}
use Rattle.fb_graph.specs.Parity.{is_in}
use Rattle.fb_regions.specs.declared.heads.Link.{Link}
use Rattle.fb_regions.specs.declared.region.Region.{Region}
use Rattle.fb_regions.specs.InternalHeads.{HaveHeads, LeadsBeside, LeadsUp, SharesHead, depth_of, is_leaf_in, link_in}
use Rattle.fb_regions.proofs.HeadTops.{same_region}

-- what stays of a node
pub record IsStill (r s : Region) : Type 0 where
  pub children : s.children.items ≡ r.children.items
  pub head : s.head ≡ r.head
  pub inside : s.inside ≡ r.inside

-- nodes of one name, before and after
abbrev pub AreRelated : (Region → Region → Type 0) → Option Region → Option Region → Type 0
AreRelated R None None = Unit {0}
AreRelated R None (Some s) = ⊥
AreRelated R (Some r) None = ⊥
AreRelated R (Some r) (Some s) = R r s

pub back : (R : Region → Region → Type 0) (o o' : Option Region) (s : Region) → AreRelated R o o' → o' ≡ Some s → (r : Region) × (o ≡ Some r) × R r s
back R None None s h e = absurd (let clash : None ≡ Some s = e in cc)
back R None (Some t) s h e = absurd h
back R (Some r) None s h e = absurd (let clash : None ≡ Some s = e in cc)
back R (Some r) (Some t) s h e = let same : t ≡ s = cc in (r, refl, subst (R r) same h)

pub forth : (R : Region → Region → Type 0) (o o' : Option Region) (r : Region) → AreRelated R o o' → o ≡ Some r → (s : Region) × (o' ≡ Some s) × R r s
forth R None o' r h e = absurd (let clash : None ≡ Some r = e in cc)
forth R (Some q) None r h e = absurd h
forth R (Some q) (Some t) r h e = let same : q ≡ r = cc in (t, refl, subst (λ y. R y t) same h)

pub depth_still : (r s : Region) → s.inside ≡ r.inside → s.radius ≡ r.radius → depth_of s ≡ depth_of r
depth_still r s inside radius = ap (λ n. (n + s.radius) % 2 ^ 64) inside ∙ ap (λ n. (r.inside + n) % 2 ^ 64) radius

-- a node that stays with the one that joins it
pub leads_still : (at at' : ℕ → Option Region) (x : ℕ) (r s : Region) (o : Option ℕ) → s.head ≡ r.head
    → ((q : ℕ) → o ≡ Some q → depth_of s ≡ depth_of r)
    → ((l : Link) → link_in (at r.head) ≡ Some l → l.top ≡ x → link_in (at' r.head) ≡ link_in (at r.head))
    → ((q : ℕ) (p : Region) → o ≡ Some q → at q ≡ Some p → (p' : Region) × (at' q ≡ Some p') × (p'.head ≡ p.head) × (p'.inside ≡ p.inside))
    → LeadsUp at x r o → LeadsUp at' x s o
leads_still at at' x r s None head depth link joint h =
    ap (λ y. link_in (at' y)) head ∙ (link (record { top = x; beside = None }) h refl ∙ h)
leads_still at at' x r s (Some q) head depth link joint (p, there, h) =
    let (p', there', head', inside') = joint q p refl there in
    (p', there', by p' head' inside' h)
  where
    by : (p' : Region) → p'.head ≡ p.head → p'.inside ≡ p.inside → SharesHead r p ⊎ LeadsBeside (link_in (at r.head)) x r p
        → SharesHead s p' ⊎ LeadsBeside (link_in (at' s.head)) x s p'
    by p' head' inside' (inl shares) =
        inl (record { head = head' ∙ (shares.head ∙ sym head); inside = inside' ∙ (shares.inside ∙ sym (depth q refl)) })
    by p' head' inside' (inr beside) =
        inr (record {
          shift = beside.shift;
          link_is =
              ap (λ y. link_in (at' y)) head
              ∙ (link (record { top = x; beside = Some (record { leaf = p.head; shift = beside.shift }) }) beside.link_is refl
              ∙ (beside.link_is ∙ ap (λ y. Some (record { top = x; beside = Some (record { leaf = y; shift = beside.shift }) })) (sym head')));
          sums = depth q refl ∙ (beside.sums ∙ ap (λ n. (n + beside.shift) % 2 ^ 64) (sym inside'));
        })

-- no node comes
module _ (at at' : ℕ → Option Region) (have : HaveHeads at)
    (from : (x : ℕ) (s : Region) → at' x ≡ Some s → (r : Region) × (at x ≡ Some r) × IsStill r s)
    (leaf : (h : ℕ) → is_leaf_in (at h) ≡ true → is_leaf_in (at' h) ≡ true)
    (leads : (x : ℕ) (s : Region) → at' x ≡ Some s → LeadsUp at' x s s.parent) where
  pub heads_moved : HaveHeads at'
  heads_moved = record {
    heads = λ x s e.
        let (r, there, still) = from x s e in
        leaf s.head (ap (λ y. is_leaf_in (at y)) still.head ∙ have.heads x r there);
    leaves = λ x s e childless.
        let (r, there, still) = from x s e in
        let own = have.leaves x r there (ap is_empty (sym still.children) ∙ childless) in
        (still.head ∙ own.0, still.inside ∙ own.1);
    apart = λ x c d r s t is_r c_in d_in is_s is_t same.
        let (r0, r_there, r_still) = from x r is_r in
        let (s0, s_there, s_still) = from c s is_s in
        let (t0, t_there, t_still) = from d t is_t in
        have.apart x c d r0 s0 t0 r_there (ap (λ l. is_in l c) (sym r_still.children) ∙ c_in) (ap (λ l. is_in l d) (sym r_still.children) ∙ d_in)
        s_there t_there (sym s_still.head ∙ (same ∙ t_still.head));
    leads = leads;
  }

-- a node comes
module _ (at at' : ℕ → Option Region) (have : HaveHeads at) (b : ℕ) (new : Region) (own : at' b ≡ Some new)
    (from : (x : ℕ) (s : Region) → (x ≡ b → ⊥) → at' x ≡ Some s → (r : Region) × (at x ≡ Some r) × IsStill r s)
    (leaf : (h : ℕ) → is_leaf_in (at h) ≡ true → is_leaf_in (at' h) ≡ true)
    (no_child : (x : ℕ) (r : Region) → at x ≡ Some r → is_in r.children.items b ≡ false)
    (new_head : is_leaf_in (at' new.head) ≡ true)
    (new_leaf : is_empty new.children.items ≡ true → (new.head ≡ b) × (new.inside ≡ 0))
    (not_own : is_in new.children.items b ≡ false)
    (new_apart : (c d : ℕ) (s t : Region) → is_in new.children.items c ≡ true → is_in new.children.items d ≡ true → at c ≡ Some s → at d ≡ Some t
    → s.head ≡ t.head → c ≡ d)
    (leads : (x : ℕ) (s : Region) → at' x ≡ Some s → LeadsUp at' x s s.parent) where
  is_new : (x : ℕ) (s : Region) → x ≡ b → at' x ≡ Some s → new ≡ s
  is_new x s same e = same_region (at' b) new s own (ap at' (sym same) ∙ e)

  other : (cs : List ℕ) (c : ℕ) → is_in cs b ≡ false → is_in cs c ≡ true → c ≡ b → ⊥
  other cs c out within same = both_ways (is_in cs b) out (ap (is_in cs) (sym same) ∙ within)

  pub heads_pushed : HaveHeads at'
  heads_pushed = record {
    heads = λ x s e. head_by x s e (cases_eq x b);
    leaves = λ x s e childless. leaf_by x s e childless (cases_eq x b);
    apart = λ x c d r s t is_r c_in d_in is_s is_t same. apart_by x c d r s t is_r c_in d_in is_s is_t same (cases_eq x b);
    leads = leads;
  }
    where
      head_by : (x : ℕ) (s : Region) → at' x ≡ Some s → (x ≡ b) ⊎ (x ≡ b → ⊥) → is_leaf_in (at' s.head) ≡ true
      head_by x s e (inl same) = ap (λ y. is_leaf_in (at' y.head)) (sym (is_new x s same e)) ∙ new_head
      head_by x s e (inr differ) =
          let (r, there, still) = from x s differ e in
          leaf s.head (ap (λ y. is_leaf_in (at y)) still.head ∙ have.heads x r there)

      leaf_by : (x : ℕ) (s : Region) → at' x ≡ Some s → is_empty s.children.items ≡ true → (x ≡ b) ⊎ (x ≡ b → ⊥) → (s.head ≡ x) × (s.inside ≡ 0)
      leaf_by x s e childless (inl same) =
          let is = is_new x s same e in
          let here = new_leaf (ap (λ y. is_empty y.children.items) is ∙ childless) in
          (ap (λ y. y.head) (sym is) ∙ (here.0 ∙ sym same), ap (λ y. y.inside) (sym is) ∙ here.1)
      leaf_by x s e childless (inr differ) =
          let (r, there, still) = from x s differ e in
          let here = have.leaves x r there (ap is_empty (sym still.children) ∙ childless) in
          (still.head ∙ here.0, still.inside ∙ here.1)

      apart_by : (x c d : ℕ) (r s t : Region) → at' x ≡ Some r → is_in r.children.items c ≡ true → is_in r.children.items d ≡ true
          → at' c ≡ Some s → at' d ≡ Some t → s.head ≡ t.head → (x ≡ b) ⊎ (x ≡ b → ⊥) → c ≡ d
      apart_by x c d r s t is_r c_in d_in is_s is_t same (inl equal) =
          let is = is_new x r equal is_r in
          let c_new : is_in new.children.items c ≡ true = ap (λ y. is_in y.children.items c) is ∙ c_in in
          let d_new : is_in new.children.items d ≡ true = ap (λ y. is_in y.children.items d) is ∙ d_in in
          let (s0, s_there, s_still) = from c s (other new.children.items c not_own c_new) is_s in
          let (t0, t_there, t_still) = from d t (other new.children.items d not_own d_new) is_t in
          new_apart c d s0 t0 c_new d_new s_there t_there (sym s_still.head ∙ (same ∙ t_still.head))
      apart_by x c d r s t is_r c_in d_in is_s is_t same (inr differ) =
          let (r0, r_there, r_still) = from x r differ is_r in
          let c_old : is_in r0.children.items c ≡ true = ap (λ l. is_in l c) (sym r_still.children) ∙ c_in in
          let d_old : is_in r0.children.items d ≡ true = ap (λ l. is_in l d) (sym r_still.children) ∙ d_in in
          let out = no_child x r0 r_there in
          let (s0, s_there, s_still) = from c s (other r0.children.items c out c_old) is_s in
          let (t0, t_there, t_still) = from d t (other r0.children.items d out d_old) is_t in
          have.apart x c d r0 s0 t0 r_there c_old d_old s_there t_there (sym s_still.head ∙ (same ∙ t_still.head))

-- nodes that differ at most in what is not said of heads
pub record IsAlike (r s : Region) : Type 0 where
  pub still : IsStill r s
  pub parent : s.parent ≡ r.parent
  pub link : s.link ≡ r.link
  pub radius : (q : ℕ) → r.parent ≡ Some q → s.radius ≡ r.radius

leaf_alike : (o o' : Option Region) → AreRelated IsAlike o o' → is_leaf_in o' ≡ is_leaf_in o
leaf_alike None None h = refl
leaf_alike None (Some s) h = absurd h
leaf_alike (Some r) None h = absurd h
leaf_alike (Some r) (Some s) h = ap is_empty h.still.children

link_alike : (o o' : Option Region) → AreRelated IsAlike o o' → link_in o' ≡ link_in o
link_alike None None h = refl
link_alike None (Some s) h = absurd h
link_alike (Some r) None h = absurd h
link_alike (Some r) (Some s) h = ap Some h.link

pub heads_alike : (at at' : ℕ → Option Region) → HaveHeads at → ((x : ℕ) → AreRelated IsAlike (at x) (at' x)) → HaveHeads at'
heads_alike at at' have alike =
    heads_moved at at' have
    (λ x s e. let (r, there, is) = back IsAlike (at x) (at' x) s (alike x) e in (r, there, is.still))
    (λ h e. leaf_alike (at h) (at' h) (alike h) ∙ e)
    (λ x s e.
    let (r, there, is) = back IsAlike (at x) (at' x) s (alike x) e in
    subst (LeadsUp at' x s) (sym is.parent)
    (leads_still at at' x r s r.parent is.still.head (λ q f. depth_still r s is.still.inside (is.radius q f))
    (λ l f g. link_alike (at r.head) (at' r.head) (alike r.head))
    (λ q p f up.
    let (p', there', is') = forth IsAlike (at q) (at' q) p (alike q) up in
    (p', there', is'.still.head, is'.still.inside))
    (have.leads x r there)))

-- the link of a head that a child of the list reads
top_is : (o : Option Link) (k l : Link) → o ≡ Some k → o ≡ Some l → k.top ≡ l.top
top_is o k l e f = let both : Some k ≡ Some l = sym e ∙ f in let same : k ≡ l = cc in ap (λ m. m.top) same

-- outer nodes have different heads
pub outer_head : (at : ℕ → Option Region) → HaveHeads at → (c d : ℕ) (s t : Region) → at c ≡ Some s → at d ≡ Some t → s.parent ≡ None → t.parent ≡ None
    → s.head ≡ t.head → c ≡ d
outer_head at have c d s t is_s is_t s_out t_out same =
    top_is (link_in (at t.head)) (record { top = c; beside = None }) (record { top = d; beside = None })
    (ap (λ y. link_in (at y)) (sym same) ∙ subst (LeadsUp at c s) s_out (have.leads c s is_s)) (subst (LeadsUp at d t) t_out (have.leads d t is_t))

-- a node that is joined, or split off
pub record IsMovedTo (parent : Option ℕ) (r s : Region) : Type 0 where
  pub still : IsStill r s
  pub parent_is : s.parent ≡ parent
  pub radius : s.radius ≡ r.radius

abbrev pub parent_after : List ℕ → Option ℕ → ℕ → Option ℕ → Option ℕ
parent_after cs to x before = if is_in cs x then to else before

abbrev pub IsMoved : List ℕ → Option ℕ → ℕ → Region → Region → Type 0
IsMoved cs to x r s = IsMovedTo (parent_after cs to x r.parent) r s

leaf_moved : (cs : List ℕ) (to : Option ℕ) (x : ℕ) (o o' : Option Region) → AreRelated (IsMoved cs to x) o o' → is_leaf_in o' ≡ is_leaf_in o
leaf_moved cs to x None None h = refl
leaf_moved cs to x None (Some s) h = absurd h
leaf_moved cs to x (Some r) None h = absurd h
leaf_moved cs to x (Some r) (Some s) h = ap is_empty h.still.children

-- a leaf has another name than a node that is none
not_leaf : (at : ℕ → Option Region) (h b : ℕ) → is_leaf_in (at h) ≡ true → is_leaf_in (at b) ≡ false → h ≡ b → ⊥
not_leaf at h b leaf none same = both_ways (is_leaf_in (at b)) none (ap (λ y. is_leaf_in (at y)) (sym same) ∙ leaf)

-- no node of the list reads the link of a head that another node reads
abbrev pub ReadsNone : (ℕ → Option Region) → List ℕ → ℕ → Type 0
ReadsNone at cs h = (c : ℕ) (t : Region) → at c ≡ Some t → is_in cs c ≡ true → t.head ≡ h → ⊥

-- nodes that lose the one that joins them
module _ (at at' : ℕ → Option Region) (have : HaveHeads at) (b : ℕ) (old : Region) (there : at b ≡ Some old) (outer : old.parent ≡ None)
    (joins : is_empty old.children.items ≡ false) (gone : at' b ≡ None)
    (moved : (x : ℕ) → (x ≡ b → ⊥) → AreRelated (IsMoved old.children.items None x) (at x) (at' x))
    (child : (x : ℕ) (r : Region) → at x ≡ Some r → r.parent ≡ Some b → is_in old.children.items x ≡ true)
    (parent : (x : ℕ) (r : Region) → at x ≡ Some r → is_in old.children.items x ≡ true → r.parent ≡ Some b)
    (hit : (x : ℕ) (r : Region) → at x ≡ Some r → is_in old.children.items x ≡ true
    → link_in (at' r.head) ≡ Some (record { top = x; beside = None }))
    (miss : (h : ℕ) → (h ≡ b → ⊥) → ReadsNone at old.children.items h → link_in (at' h) ≡ link_in (at h)) where
  abbrev cs : List ℕ
  cs = old.children.items

  is_other : (x : ℕ) (s : Region) → at' x ≡ Some s → x ≡ b → ⊥
  is_other x s e same = let clash : None ≡ Some s = sym gone ∙ (ap at' (sym same) ∙ e) in absurd (cc)

  no_leaf : is_leaf_in (at b) ≡ false
  no_leaf = ap is_leaf_in there ∙ joins

  own_link : link_in (at old.head) ≡ Some (record { top = b; beside = None })
  own_link = subst (LeadsUp at b old) outer (have.leads b old there)

  unread : (x : ℕ) (r : Region) (l : Link) → link_in (at r.head) ≡ Some l → l.top ≡ x → (x ≡ b → ⊥) → is_in cs x ≡ false → ReadsNone at cs r.head
  unread x r l link top differ out c t is_t c_in same =
      by (subst (LeadsUp at c t) (parent c t is_t c_in) (have.leads c t is_t))
    where
      by : LeadsUp at c t (Some b) → ⊥
      by (p, up, inl shares) =
          let is : old ≡ p = same_region (at b) old p there up in
          let heads : old.head ≡ r.head = ap (λ y. y.head) is ∙ (shares.head ∙ same) in
          differ (sym top ∙ top_is (link_in (at r.head)) l (record { top = b; beside = None }) link (ap (λ y. link_in (at y)) (sym heads) ∙ own_link))
      by (p, up, inr beside) =
          let names : x ≡ c =
          sym top ∙ top_is (link_in (at r.head)) l (record { top = c; beside = Some (record { leaf = p.head; shift = beside.shift }) }) link
          (ap (λ y. link_in (at y)) (sym same) ∙ beside.link_is) in
          both_ways (is_in cs x) out (ap (is_in cs) names ∙ c_in)

  pub heads_split : HaveHeads at'
  heads_split =
      heads_moved at at' have
      (λ x s e.
      let (r, is_r, is) = back (IsMoved cs None x) (at x) (at' x) s (moved x (is_other x s e)) e in
      (r, is_r, is.still))
      (λ h leaf. leaf_moved cs None h (at h) (at' h) (moved h (not_leaf at h b leaf no_leaf)) ∙ leaf)
      leads
    where
      leads : (x : ℕ) (s : Region) → at' x ≡ Some s → LeadsUp at' x s s.parent
      leads x s e =
          let (r, is_r, is) = back (IsMoved cs None x) (at x) (at' x) s (moved x (is_other x s e)) e in
          subst (LeadsUp at' x s) (sym is.parent_is) (by r is_r is.still is.radius (is_in cs x) refl)
        where
          by : (r : Region) → at x ≡ Some r → IsStill r s → s.radius ≡ r.radius → (c : Bool) → is_in cs x ≡ c
              → LeadsUp at' x s (if c then None else r.parent)
          by r is_r still radius true c_in = ap (λ y. link_in (at' y)) still.head ∙ hit x r is_r c_in
          by r is_r still radius false out =
              leads_still at at' x r s r.parent still.head (λ q f. depth_still r s still.inside radius)
              (λ l link top.
              miss r.head (not_leaf at r.head b (have.heads x r is_r) no_leaf) (unread x r l link top (is_other x s e) out))
              (λ q p f up.
              let (p', up', is') =
              forth (IsMoved cs None q) (at q) (at' q) p
              (moved q (λ same. both_ways (is_in cs x) out (child x r is_r (f ∙ ap Some same)))) up in
              (p', up', is'.still.head, is'.still.inside))
              (have.leads x r is_r)

-- a shift from one sum to another one
shift_back : (i d : ℕ) → i < 2 ^ 64 → d < 2 ^ 64 → d ≡ (i + (d + (2 ^ 64 - i)) % 2 ^ 64) % 2 ^ 64
shift_back i d small fits =
    let whole : i + (d + (2 ^ 64 - i)) ≡ d + 2 ^ 64 = omega (arith, small) in
    sym (add-mod-mod i (d + (2 ^ 64 - i)) (2 ^ 64) ∙ (ap (λ n. n % 2 ^ 64) whole ∙ (add-mod_right d (2 ^ 64) ∙ mod-eq_of_lt fits)))

small : (n : ℕ) → n % 2 ^ 64 < 2 ^ 64
small n = omega arith

-- nodes that are joined
abbrev pub joined_link : ℕ → ℕ → ℕ → ℕ → Region → Link
joined_link b head inside x r =
    if r.head == head then record { top = b; beside = None }
    else record { top = x; beside = Some (record { leaf = head; shift = (depth_of r + (2 ^ 64 - inside)) % 2 ^ 64 }) }

module _ (at at' : ℕ → Option Region) (have : HaveHeads at) (b : ℕ) (new : Region) (fresh : at b ≡ None) (own : at' b ≡ Some new)
    (bare : new.parent ≡ None) (joins : is_empty new.children.items ≡ false) (core : ℕ) (main : Region)
    (core_in : is_in new.children.items core ≡ true) (core_there : at core ≡ Some main) (head : new.head ≡ main.head)
    (inside : new.inside ≡ depth_of main)
    (moved : (x : ℕ) → (x ≡ b → ⊥) → AreRelated (IsMoved new.children.items (Some b) x) (at x) (at' x))
    (outer : (x : ℕ) (r : Region) → at x ≡ Some r → is_in new.children.items x ≡ true → r.parent ≡ None)
    (no_child : (x : ℕ) (r : Region) → at x ≡ Some r → is_in r.children.items b ≡ false)
    (not_own : is_in new.children.items b ≡ false)
    (hit : (x : ℕ) (r : Region) → at x ≡ Some r → is_in new.children.items x ≡ true
    → link_in (at' r.head) ≡ Some (joined_link b new.head new.inside x r))
    (miss : (h : ℕ) → (h ≡ b → ⊥) → ReadsNone at new.children.items h → link_in (at' h) ≡ link_in (at h)) where
  no_leaf_yet : is_leaf_in (at b) ≡ false
  no_leaf_yet = ap is_leaf_in fresh

  link_out : (x : ℕ) (r : Region) → at x ≡ Some r → is_in new.children.items x ≡ true → link_in (at r.head) ≡ Some (record { top = x; beside = None })
  link_out x r is_r x_in = subst (LeadsUp at x r) (outer x r is_r x_in) (have.leads x r is_r)

  one_head : (c d : ℕ) (s t : Region) → is_in new.children.items c ≡ true → is_in new.children.items d ≡ true → at c ≡ Some s → at d ≡ Some t
      → s.head ≡ t.head → c ≡ d
  one_head c d s t c_in d_in is_s is_t = outer_head at have c d s t is_s is_t (outer c s is_s c_in) (outer d t is_t d_in)

  unread_still : (x : ℕ) (r : Region) (l : Link) → link_in (at r.head) ≡ Some l → l.top ≡ x → is_in new.children.items x ≡ false
      → ReadsNone at new.children.items r.head
  unread_still x r l link top out c t is_t c_in same =
      let names : x ≡ c =
      sym top ∙ top_is (link_in (at r.head)) l (record { top = c; beside = None }) link (ap (λ y. link_in (at y)) (sym same) ∙ link_out c t is_t c_in) in
      both_ways (is_in new.children.items x) out (ap (is_in new.children.items) names ∙ c_in)

  from_old : (x : ℕ) (s : Region) → (x ≡ b → ⊥) → at' x ≡ Some s
      → (r : Region) × (at x ≡ Some r) × IsMoved new.children.items (Some b) x r s
  from_old x s differ e = back (IsMoved new.children.items (Some b) x) (at x) (at' x) s (moved x differ) e

  leaf_joined : (h : ℕ) → is_leaf_in (at h) ≡ true → is_leaf_in (at' h) ≡ true
  leaf_joined h leaf = leaf_moved new.children.items (Some b) h (at h) (at' h) (moved h (not_leaf at h b leaf no_leaf_yet)) ∙ leaf

  own_leads : LeadsUp at' b new new.parent
  own_leads =
      subst (LeadsUp at' b new) (sym bare)
      (ap (λ y. link_in (at' y)) head
      ∙ (hit core main core_there core_in
      ∙ ap (λ c. Some (if c then record { top = b; beside = None }
      else record { top = core; beside = Some (record { leaf = new.head; shift = (depth_of main + (2 ^ 64 - new.inside)) % 2 ^ 64 }) }))
      (eq-eqb main.head new.head (sym head))))

  leads_joined : (x : ℕ) (s : Region) → at' x ≡ Some s → (x ≡ b) ⊎ (x ≡ b → ⊥) → LeadsUp at' x s s.parent
  leads_joined x s e (inl same) =
      let is = same_region (at' b) new s own (ap at' (sym same) ∙ e) in
      subst (λ y. LeadsUp at' y s s.parent) (sym same) (subst (λ y. LeadsUp at' b y y.parent) is own_leads)
  leads_joined x s e (inr differ) =
      let (r, is_r, is) = from_old x s differ e in
      subst (LeadsUp at' x s) (sym is.parent_is) (by r is_r is.still is.radius (is_in new.children.items x) refl)
    where
      by : (r : Region) → at x ≡ Some r → IsStill r s → s.radius ≡ r.radius → (c : Bool) → is_in new.children.items x ≡ c
          → LeadsUp at' x s (if c then Some b else r.parent)
      by r is_r still radius false out =
          leads_still at at' x r s r.parent still.head (λ q f. depth_still r s still.inside radius)
          (λ l link top. miss r.head (not_leaf at r.head b (have.heads x r is_r) no_leaf_yet) (unread_still x r l link top out))
          (λ q p f up.
          let (p', up', is') =
          forth (IsMoved new.children.items (Some b) q) (at q) (at' q) p
          (moved q (λ same. let clash : None ≡ Some p = sym fresh ∙ (ap at (sym same) ∙ up) in absurd (cc))) up in
          (p', up', is'.still.head, is'.still.inside))
          (have.leads x r is_r)
      by r is_r still radius true c_in = (new, own, split (r.head == new.head) refl)
        where
          there : link_in (at' s.head) ≡ Some (joined_link b new.head new.inside x r)
          there = ap (λ y. link_in (at' y)) still.head ∙ hit x r is_r c_in

          split : (c : Bool) → (r.head == new.head) ≡ c → SharesHead s new ⊎ LeadsBeside (link_in (at' s.head)) x s new
          split true f =
              let heads : r.head ≡ new.head = eqb-true r.head new.head f in
              let names : x ≡ core = one_head x core r main c_in core_in is_r core_there (heads ∙ head) in
              let same : r ≡ main = same_region (at core) r main (ap at (sym names) ∙ is_r) core_there in
              inl (record {
                head = sym heads ∙ sym still.head;
                inside = inside ∙ (ap depth_of (sym same) ∙ sym (depth_still r s still.inside radius));
              })
          split false f =
              inr (record {
                shift = (depth_of r + (2 ^ 64 - new.inside)) % 2 ^ 64;
                link_is =
                    there
                    ∙ ap (λ c. Some (if c then record { top = b; beside = None }
                    else record { top = x; beside = Some (record { leaf = new.head; shift = (depth_of r + (2 ^ 64 - new.inside)) % 2 ^ 64 }) })) f;
                sums =
                    depth_still r s still.inside radius
                    ∙ shift_back new.inside (depth_of r) (subst (λ n. n < 2 ^ 64) (sym inside) (small (main.inside + main.radius))) (small (r.inside + r.radius));
              })

  pub heads_joined : HaveHeads at'
  heads_joined =
      heads_pushed at at' have b new own (λ x s differ e. let (r, is_r, is) = from_old x s differ e in (r, is_r, is.still)) leaf_joined no_child
      (ap (λ y. is_leaf_in (at' y)) head ∙ leaf_joined main.head (have.heads core main core_there))
      (λ childless. absurd (both_ways (is_empty new.children.items) joins childless)) not_own one_head
      (λ x s e. leads_joined x s e (cases_eq x b))

-- a leaf comes
module _ (at at' : ℕ → Option Region) (have : HaveHeads at) (b : ℕ) (new : Region) (fresh : at b ≡ None) (own : at' b ≡ Some new)
    (bare : new.parent ≡ None) (childless : new.children.items ≡ []) (head : new.head ≡ b) (inside : new.inside ≡ 0)
    (link : new.link ≡ record { top = b; beside = None })
    (still : (x : ℕ) → (x ≡ b → ⊥) → at' x ≡ at x)
    (no_child : (x : ℕ) (r : Region) → at x ≡ Some r → is_in r.children.items b ≡ false) where
  no_leaf_there : is_leaf_in (at b) ≡ false
  no_leaf_there = ap is_leaf_in fresh

  leads_on : (x : ℕ) (s : Region) → at' x ≡ Some s → (x ≡ b) ⊎ (x ≡ b → ⊥) → LeadsUp at' x s s.parent
  leads_on x s e (inl same) =
      let is = same_region (at' b) new s own (ap at' (sym same) ∙ e) in
      subst (λ y. LeadsUp at' y s s.parent) (sym same)
      (subst (λ y. LeadsUp at' b y y.parent) is
      (subst (LeadsUp at' b new) (sym bare) (ap (λ y. link_in (at' y)) head ∙ (ap link_in own ∙ ap Some link))))
  leads_on x s e (inr differ) =
      let there = sym (still x differ) ∙ e in
      leads_still at at' x s s s.parent refl (λ q f. refl)
      (λ l f g. ap link_in (still s.head (not_leaf at s.head b (have.heads x s there) no_leaf_there)))
      (λ q p f up. (p, still q (λ same. let clash : None ≡ Some p = sym fresh ∙ (ap at (sym same) ∙ up) in absurd (cc)) ∙ up, refl, refl))
      (have.leads x s there)

  pub heads_opened : HaveHeads at'
  heads_opened =
      heads_pushed at at' have b new own
      (λ x s differ e. (s, sym (still x differ) ∙ e, record { children = refl; head = refl; inside = refl }))
      (λ h leaf. ap is_leaf_in (still h (not_leaf at h b leaf no_leaf_there)) ∙ leaf) no_child
      (ap (λ y. is_leaf_in (at' y)) head ∙ (ap is_leaf_in own ∙ ap is_empty childless)) (λ h. (head, inside))
      (ap (λ l. is_in l b) childless)
      (λ c d s t c_in d_in is_s is_t same. absurd (false≢true (ap (λ l. is_in l c) (sym childless) ∙ c_in)))
      (λ x s e. leads_on x s e (cases_eq x b))
