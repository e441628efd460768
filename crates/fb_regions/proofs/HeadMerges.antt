-- Heads of two dual states as one, and under other names.
use Rattle.std.proofs.Common.{ℕ, ◌≡◌, ◌⊎◌, inl, inr, true, Option, Some, None, option_map, refl, sym, ap, ◌∙◌, subst}
use Rattle.fb_graph.specs.Dual.{is_empty}
use Rattle.fb_graph.specs.Parity.{is_in}
use Rattle.fb_graph.proofs.OddLabels.{member_of_map}
use Rattle.fb_graph.proofs.RenamedNodes.{is_empty-map}
use Rattle.fb_regions.specs.declared.heads.Link.{Link}
use Rattle.fb_regions.specs.declared.region.Region.{Region}
use Rattle.fb_regions.specs.InternalHeads.{HaveHeads, LeadsUp, is_leaf_in, link_in}
use Rattle.fb_regions.specs.InternalMerged.{renamed_link, renamed_region}
use Rattle.fb_regions.proofs.HeadMoves.{leads_still}
use Rattle.fb_regions.proofs.HeadTops.{leaf_in, same_region}
use Rattle.fb_regions.proofs.RenamedRegions.{children_renamed}

-- the children of nodes are there
abbrev pub AreClosed : (ℕ → Option Region) → Type 0
AreClosed at = (x c : ℕ) (r : Region) → at x ≡ Some r → is_in r.children.items c ≡ true → (s : Region) × (at c ≡ Some s)

link_there : (o : Option Region) (l : Link) → link_in o ≡ Some l → (r : Region) × (o ≡ Some r)
link_there None l e = let clash : None ≡ Some l = e in absurd (cc)
link_there (Some r) l e = (r, refl)

-- the nodes of two states, all under different names
module _ (left right at : ℕ → Option Region) (have_left : HaveHeads left) (have_right : HaveHeads right) (closed_left : AreClosed left)
    (closed_right : AreClosed right) (from_left : (x : ℕ) (r : Region) → left x ≡ Some r → at x ≡ Some r)
    (from_right : (x : ℕ) (r : Region) → right x ≡ Some r → at x ≡ Some r)
    (either : (x : ℕ) (s : Region) → at x ≡ Some s → (left x ≡ Some s) ⊎ (right x ≡ Some s)) where
  -- what holds of the nodes of one of them
  module _ (part : ℕ → Option Region) (have : HaveHeads part) (closed : AreClosed part) (into : (x : ℕ) (r : Region) → part x ≡ Some r → at x ≡ Some r) where
    head_within : (x : ℕ) (s : Region) → part x ≡ Some s → is_leaf_in (at s.head) ≡ true
    head_within x s e =
        let l = leaf_in (part s.head) (have.heads x s e) in
        ap is_leaf_in (into s.head l.region l.is) ∙ l.childless

    apart_within : (x c d : ℕ) (r s t : Region) → part x ≡ Some r → is_in r.children.items c ≡ true → is_in r.children.items d ≡ true
        → at c ≡ Some s → at d ≡ Some t → s.head ≡ t.head → c ≡ d
    apart_within x c d r s t is_r c_in d_in is_s is_t same =
        let (s0, s_there) = closed x c r is_r c_in in
        let (t0, t_there) = closed x d r is_r d_in in
        let s_is = same_region (at c) s0 s (into c s0 s_there) is_s in
        let t_is = same_region (at d) t0 t (into d t0 t_there) is_t in
        have.apart x c d r s0 t0 is_r c_in d_in s_there t_there (ap (λ y. y.head) s_is ∙ (same ∙ ap (λ y. y.head) (sym t_is)))

    leads_within : (x : ℕ) (s : Region) → part x ≡ Some s → LeadsUp at x s s.parent
    leads_within x s e =
        leads_still part at x s s s.parent refl (λ q f. refl)
        (λ l link top.
        let (k, there) = link_there (part s.head) l link in
        ap link_in (into s.head k there ∙ sym there))
        (λ q p f up. (p, into q p up, refl, refl)) (have.leads x s e)

  pub heads_both : HaveHeads at
  heads_both = record {
    heads = λ x s e. head_by x s (either x s e);
    leaves = λ x s e childless. leaf_by x s childless (either x s e);
    apart = λ x c d r s t is_r c_in d_in is_s is_t same. apart_by x c d r s t c_in d_in is_s is_t same (either x r is_r);
    leads = λ x s e. leads_by x s (either x s e);
  }
    where
      head_by : (x : ℕ) (s : Region) → (left x ≡ Some s) ⊎ (right x ≡ Some s) → is_leaf_in (at s.head) ≡ true
      head_by x s (inl e) = head_within left have_left closed_left from_left x s e
      head_by x s (inr e) = head_within right have_right closed_right from_right x s e

      leaf_by : (x : ℕ) (s : Region) → is_empty s.children.items ≡ true → (left x ≡ Some s) ⊎ (right x ≡ Some s) → (s.head ≡ x) × (s.inside ≡ 0)
      leaf_by x s childless (inl e) = have_left.leaves x s e childless
      leaf_by x s childless (inr e) = have_right.leaves x s e childless

      apart_by : (x c d : ℕ) (r s t : Region) → is_in r.children.items c ≡ true → is_in r.children.items d ≡ true
          → at c ≡ Some s → at d ≡ Some t → s.head ≡ t.head → (left x ≡ Some r) ⊎ (right x ≡ Some r) → c ≡ d
      apart_by x c d r s t c_in d_in is_s is_t same (inl e) =
          apart_within left have_left closed_left from_left x c d r s t e c_in d_in is_s is_t same
      apart_by x c d r s t c_in d_in is_s is_t same (inr e) =
          apart_within right have_right closed_right from_right x c d r s t e c_in d_in is_s is_t same

      leads_by : (x : ℕ) (s : Region) → (left x ≡ Some s) ⊎ (right x ≡ Some s) → LeadsUp at x s s.parent
      leads_by x s (inl e) = leads_within left have_left closed_left from_left x s e
      leads_by x s (inr e) = leads_within right have_right closed_right from_right x s e

-- the nodes under other names
module _ (at at' : ℕ → Option Region) (f : ℕ → ℕ) (have : HaveHeads at) (closed : AreClosed at)
    (into : (x : ℕ) (r : Region) → at x ≡ Some r → at' (f x) ≡ Some (renamed_region f r))
    (from : (y : ℕ) (s : Region) → at' y ≡ Some s → (x : ℕ) × (r : Region) × (f x ≡ y) × (at x ≡ Some r) × (renamed_region f r ≡ s))
    (differ : (a b : ℕ) (r s : Region) → at a ≡ Some r → at b ≡ Some s → f a ≡ f b → a ≡ b) where
  leads_renamed : (x : ℕ) (r : Region) (o : Option ℕ) → LeadsUp at x r o → LeadsUp at' (f x) (renamed_region f r) (option_map f o)
  leads_renamed x r None h =
      let (k, there) = link_there (at r.head) (record { top = x; beside = None }) h in
      ap link_in (into r.head k there)
      ∙ ap (λ l. Some (renamed_link f l)) (let both : Some k.link ≡ Some (record { top = x; beside = None }) = ap link_in (sym there) ∙ h in
      let is : k.link ≡ record { top = x; beside = None } = cc in is)
  leads_renamed x r (Some q) (p, up, inl shares) =
      (renamed_region f p, into q p up, inl (record { head = ap f shares.head; inside = shares.inside }))
  leads_renamed x r (Some q) (p, up, inr beside) =
      let l : Link = record { top = x; beside = Some (record { leaf = p.head; shift = beside.shift }) } in
      let (k, there) = link_there (at r.head) l beside.link_is in
      let both : Some k.link ≡ Some l = ap link_in (sym there) ∙ beside.link_is in
      let is : k.link ≡ l = cc in (
        renamed_region f p,
        into q p up,
        inr (record {
          shift = beside.shift;
          link_is = ap link_in (into r.head k there) ∙ ap (λ m. Some (renamed_link f m)) is;
          sums = beside.sums;
        }),
      )

  pub closed_renamed : AreClosed at'
  closed_renamed y c' s e c_in =
      let (x, r, name, there, is) = from y s e in
      let (c, within, named) = member_of_map f r.children.items c' (ap (λ l. is_in l c') (sym (children_renamed f r)) ∙ (ap (λ z. is_in z.children.items c') is ∙ c_in)) in
      let (t, below) = closed x c r there within in
      (renamed_region f t, ap at' (sym named) ∙ into c t below)

  head_there : (x : ℕ) (r : Region) → at x ≡ Some r → (l : Region) × (at r.head ≡ Some l) × (is_empty l.children.items ≡ true)
  head_there x r e = let l = leaf_in (at r.head) (have.heads x r e) in (l.region, l.is, l.childless)

  pub heads_renamed : HaveHeads at'
  heads_renamed = record {
    heads = λ y s e.
        let (x, r, name, there, is) = from y s e in
        let (l, l_there, childless) = head_there x r there in
        ap (λ z. is_leaf_in (at' z.head)) (sym is)
        ∙ (ap is_leaf_in (into r.head l l_there) ∙ (ap is_empty (children_renamed f l) ∙ (is_empty-map f l.children.items ∙ childless)));
    leaves = λ y s e childless.
        let (x, r, name, there, is) = from y s e in
        let own =
        have.leaves x r there
        (sym (is_empty-map f r.children.items) ∙ (ap is_empty (sym (children_renamed f r)) ∙ (ap (λ z. is_empty z.children.items) is ∙ childless))) in
        (ap (λ z. z.head) (sym is) ∙ (ap f own.0 ∙ name), ap (λ z. z.inside) (sym is) ∙ own.1);
    apart = λ y c' d' s u v is_s c_in d_in is_u is_v same.
        let (x, r, name, there, is) = from y s is_s in
        let (c, c_within, c_named) = member_of_map f r.children.items c' (ap (λ l. is_in l c') (sym (children_renamed f r)) ∙ (ap (λ z. is_in z.children.items c') is ∙ c_in)) in
        let (d, d_within, d_named) = member_of_map f r.children.items d' (ap (λ l. is_in l d') (sym (children_renamed f r)) ∙ (ap (λ z. is_in z.children.items d') is ∙ d_in)) in
        let (t, t_there) = closed x c r there c_within in
        let (w, w_there) = closed x d r there d_within in
        let u_is = same_region (at' c') (renamed_region f t) u (ap at' (sym c_named) ∙ into c t t_there) is_u in
        let v_is = same_region (at' d') (renamed_region f w) v (ap at' (sym d_named) ∙ into d w w_there) is_v in
        let (l, l_there, l_leaf) = head_there c t t_there in
        let (m, m_there, m_leaf) = head_there d w w_there in
        let heads : t.head ≡ w.head =
        differ t.head w.head l m l_there m_there (ap (λ z. z.head) u_is ∙ (same ∙ ap (λ z. z.head) (sym v_is))) in
        sym c_named ∙ (ap f (have.apart x c d r t w there c_within d_within t_there w_there heads) ∙ d_named);
    leads = λ y s e.
        let (x, r, name, there, is) = from y s e in
        subst (λ z. LeadsUp at' z s s.parent) name (subst (λ z. LeadsUp at' (f x) z z.parent) is (leads_renamed x r r.parent (have.leads x r there)));
  }
