-- From a node's head to the outer node.
use Rattle.std.proofs.Common.{ℕ, zero, suc, ◌≡◌, ◌+◌, ◌%◌, ◌^◌, ◌<◌, ◌≤◌, ◌⊎◌, inl, inr, true, Option, Some, None, refl, sym, ap, ◌∙◌, arith}
use Rattle.std.proofs.Math.Nat.{mod-add-mod}
use Rattle.std.proofs.lemmas.Bool.{false≢true}
use Rattle.fb_graph.specs.Dual.{is_empty}
use Rattle.fb_regions.specs.declared.heads.Beside.{Beside}
use Rattle.fb_regions.specs.declared.heads.Link.{Link}
use Rattle.fb_regions.specs.declared.region.Region.{Region}
use Rattle.fb_regions.specs.InternalHeads.{HaveHeads, LeadsBeside, LeadsUp, depth_of, is_leaf_in, link_in}

-- sums at 64 bits
pub same_more : (a b c : ℕ) → a % 2 ^ 64 ≡ b % 2 ^ 64 → (a + c) % 2 ^ 64 ≡ (b + c) % 2 ^ 64
same_more a b c e = sym (mod-add-mod a (2 ^ 64) c) ∙ (ap (λ n. (n + c) % 2 ^ 64) e ∙ mod-add-mod b (2 ^ 64) c)

pub none_more : (a n : ℕ) → a ≡ 0 → (a + n) % 2 ^ 64 ≡ n % 2 ^ 64
none_more a n none = ap (λ k. k % 2 ^ 64) (let sum : a + n ≡ n = omega (arith, none) in sum)

-- a node joined by q
pub record IsUp (root : ℕ → Option ℕ) (radii rank : ℕ → ℕ) (x q : ℕ) (r : Region) : Type 0 where
  pub root_is : root q ≡ root x
  pub radii_are : radii x ≡ r.radius + radii q
  pub later : rank q < rank x

-- a leaf
pub record IsLeaf (o : Option Region) : Type 0 where
  pub region : Region
  pub is : o ≡ Some region
  pub childless : is_empty region.children.items ≡ true

pub leaf_in : (o : Option Region) → is_leaf_in o ≡ true → IsLeaf o
leaf_in None h = absurd (false≢true h)
leaf_in (Some r) h = record { region = r; is = refl; childless = h }

pub same_region : (o : Option Region) (r s : Region) → o ≡ Some r → o ≡ Some s → r ≡ s
same_region o r s e f = let both : Some r ≡ Some s = sym e ∙ f in cc

same_top : (o : Option Link) (a b : ℕ) (c d : Option Beside) → o ≡ Some (record { top = a; beside = c }) → o ≡ Some (record { top = b; beside = d }) → a ≡ b
same_top o a b c d e f =
    let both : Some (record { top = a; beside = c }) ≡ Some (record { top = b; beside = d }) = sym e ∙ f in
    let is : record { top = a; beside = c } ≡ record { top = b; beside = d } = cc in
    ap (λ (l : Link). l.top) is

module _ (at : ℕ → Option Region) (root : ℕ → Option ℕ) (radii rank : ℕ → ℕ) (have : HaveHeads at)
    (out : (x : ℕ) (r : Region) → at x ≡ Some r → r.parent ≡ None → (root x ≡ Some x) × (radii x ≡ r.radius))
    (up : (x q : ℕ) (r : Region) → at x ≡ Some r → r.parent ≡ Some q → IsUp root radii rank x q r) where
  record EndsOut (name : ℕ) (r : Region) : Type 0 where
    parent : r.parent ≡ None
    link : link_in (at r.head) ≡ Some (record { top = name; beside = None })

  record EndsBeside (name : ℕ) (r : Region) : Type 0 where
    joint : ℕ
    joiner : Region
    parent : r.parent ≡ Some joint
    there : at joint ≡ Some joiner
    leads : LeadsBeside (link_in (at r.head)) name r joiner

  -- the outermost node that has the head of this one
  record IsTop (x : ℕ) (r : Region) : Type 0 where
    name : ℕ
    region : Region
    there : at name ≡ Some region
    head : region.head ≡ r.head
    root_is : root name ≡ root x
    sums : (region.inside + radii name) % 2 ^ 64 ≡ (r.inside + radii x) % 2 ^ 64
    later : rank name ≤ rank x
    ends : EndsOut name region ⊎ EndsBeside name region

  top : (k x : ℕ) (r : Region) → at x ≡ Some r → rank x < k → IsTop x r
  top zero x r e less = absurd (omega arith)
  top (suc k) x r e less = by r.parent refl (have.leads x r e) (top k)
    where
      own : EndsOut x r ⊎ EndsBeside x r → IsTop x r
      own ends = record { name = x; region = r; there = e; head = refl; root_is = refl; sums = refl; later = omega arith; ends = ends }

      by : (o : Option ℕ) → r.parent ≡ o → LeadsUp at x r o → ((y : ℕ) (s : Region) → at y ≡ Some s → rank y < k → IsTop y s) → IsTop x r
      by None f link rest = own (inl (record { parent = f; link = link }))
      by (Some q) f (p, there, inr beside) rest = own (inr (record { joint = q; joiner = p; parent = f; there = there; leads = beside }))
      by (Some q) f (p, there, inl shares) rest =
          let u = up x q r e f in
          let t = rest q p there (omega (arith, u.later, less)) in
          record {
            name = t.name;
            region = t.region;
            there = t.there;
            head = t.head ∙ shares.head;
            root_is = t.root_is ∙ u.root_is;
            sums =
                t.sums
                ∙ (ap (λ n. (n + radii q) % 2 ^ 64) shares.inside
                ∙ (mod-add-mod (r.inside + r.radius) (2 ^ 64) (radii q)
                ∙ ap (λ n. n % 2 ^ 64) (let sum : r.inside + r.radius + radii q ≡ r.inside + radii x = omega (arith, u.radii_are) in sum)));
            later = omega (arith, t.later, u.later);
            ends = t.ends;
          }

  top_of : (x : ℕ) (r : Region) → at x ≡ Some r → IsTop x r
  top_of x r e = top (suc (rank x)) x r e (omega arith)

  -- an outer node's radius is a part of the sum
  within : (k x : ℕ) (r : Region) → at x ≡ Some r → rank x < k → (y : ℕ) (o : Region) → root x ≡ Some y → at y ≡ Some o → o.radius ≤ radii x
  within zero x r e less y o rooted there = absurd (omega arith)
  within (suc k) x r e less y o rooted there = by r.parent refl (have.leads x r e) (within k)
    where
      by : (p : Option ℕ) → r.parent ≡ p → LeadsUp at x r p
          → ((z : ℕ) (s : Region) → at z ≡ Some s → rank z < k → (w : ℕ) (t : Region) → root z ≡ Some w → at w ≡ Some t → t.radius ≤ radii z)
          → o.radius ≤ radii x
      by None f link rest =
          let ends = out x r e f in
          let names : Some x ≡ Some y = sym ends.0 ∙ rooted in
          let same : x ≡ y = cc in
          omega (arith, ends.1, ap (λ s. s.radius) (same_region (at y) o r there (ap at (sym same) ∙ e)))
      by (Some q) f (p, up_there, h) rest =
          let u = up x q r e f in
          omega (arith, u.radii_are, rest q p up_there (omega (arith, u.later, less)) y o (u.root_is ∙ rooted) there)

  pub radius_within : (x : ℕ) (r : Region) → at x ≡ Some r → (y : ℕ) (o : Region) → root x ≡ Some y → at y ≡ Some o → o.radius ≤ radii x
  radius_within x r e y o rooted there = within (suc (rank x)) x r e (omega arith) y o rooted there

  -- its head leads on from it
  record IsLinked (x : ℕ) (r : Region) (t : IsTop x r) : Type 0 where
    beside : Option Beside
    is : link_in (at r.head) ≡ Some (record { top = t.name; beside = beside })

  linked : (x : ℕ) (r : Region) (t : IsTop x r) → IsLinked x r t
  linked x r t = by t.ends
    where
      by : EndsOut t.name t.region ⊎ EndsBeside t.name t.region → IsLinked x r t
      by (inl ends) = record { beside = None; is = ap (λ h. link_in (at h)) (sym t.head) ∙ ends.link }
      by (inr ends) =
          record {
            beside = Some (record { leaf = ends.joiner.head; shift = ends.leads.shift });
            is = ap (λ h. link_in (at h)) (sym t.head) ∙ ends.leads.link_is;
          }

  -- a node's head is under the same outer node, and deeper by the radii inside the node
  head_sums : (x : ℕ) (r : Region) → at x ≡ Some r → (root r.head ≡ root x) × (radii r.head % 2 ^ 64 ≡ (r.inside + radii x) % 2 ^ 64)
  head_sums x r e =
      let l = leaf_in (at r.head) (have.heads x r e) in
      let (own, none) = have.leaves r.head l.region l.is l.childless in
      let t = top_of x r e in
      let s = top_of r.head l.region l.is in
      let a = linked x r t in
      let b = linked r.head l.region s in
      let names : s.name ≡ t.name =
      same_top (link_in (at r.head)) s.name t.name b.beside a.beside (ap (λ h. link_in (at h)) (sym own) ∙ b.is) a.is in
      let same : s.region ≡ t.region = same_region (at s.name) s.region t.region s.there (ap at names ∙ t.there) in (
        sym s.root_is ∙ (ap root names ∙ t.root_is),
        sym (none_more l.region.inside (radii r.head) none)
            ∙ (sym s.sums ∙ (ap (λ n. (s.region.inside + radii n) % 2 ^ 64) names ∙ (ap (λ y. (y.inside + radii t.name) % 2 ^ 64) same ∙ t.sums))),
      )

  -- a leaf that leads to no other one
  pub ended : (h : ℕ) (l : Region) → at h ≡ Some l → is_empty l.children.items ≡ true → l.link.beside ≡ None
      → (o : Region) × (at l.link.top ≡ Some o) × (root h ≡ Some l.link.top) × (depth_of o ≡ radii h % 2 ^ 64)
  ended h l e childless bare = by t.ends
    where
      t : IsTop h l
      t = top_of h l e

      own : (l.head ≡ h) × (l.inside ≡ 0)
      own = have.leaves h l e childless

      link_here : link_in (at l.head) ≡ Some l.link
      link_here = ap (λ y. link_in (at y)) own.0 ∙ ap link_in e

      by : EndsOut t.name t.region ⊎ EndsBeside t.name t.region
          → (o : Region) × (at l.link.top ≡ Some o) × (root h ≡ Some l.link.top) × (depth_of o ≡ radii h % 2 ^ 64)
      by (inl ends) =
          let both : Some l.link ≡ Some (record { top = t.name; beside = None }) =
          sym link_here ∙ (ap (λ y. link_in (at y)) (sym t.head) ∙ ends.link) in
          let is : l.link ≡ record { top = t.name; beside = None } = cc in
          let named : l.link.top ≡ t.name = ap (λ (k : Link). k.top) is in
          let (rooted, sum) = out t.name t.region t.there ends.parent in (
            t.region,
            ap at named ∙ t.there,
            sym t.root_is ∙ (rooted ∙ ap Some (sym named)),
            ap (λ n. (t.region.inside + n) % 2 ^ 64) (sym sum) ∙ (t.sums ∙ none_more l.inside (radii h) own.1),
          )
      by (inr ends) =
          let both : Some l.link ≡ Some (record { top = t.name; beside = Some (record { leaf = ends.joiner.head; shift = ends.leads.shift }) }) =
          sym link_here ∙ (ap (λ y. link_in (at y)) (sym t.head) ∙ ends.leads.link_is) in
          let is : l.link ≡ record { top = t.name; beside = Some (record { leaf = ends.joiner.head; shift = ends.leads.shift }) } = cc in
          let clash : ◌≡◌ {A = Option Beside} None (Some (record { leaf = ends.joiner.head; shift = ends.leads.shift })) = sym bare ∙ ap (λ (k : Link). k.beside) is in
          absurd (cc)

  -- one that does
  pub record IsHop (h : ℕ) (l : Region) (b : Beside) : Type 0 where
    pub leaf : is_leaf_in (at b.leaf) ≡ true
    pub root_is : root b.leaf ≡ root h
    pub sums : radii h % 2 ^ 64 ≡ (radii b.leaf + b.shift) % 2 ^ 64
    pub later : (m : Region) → at b.leaf ≡ Some m → rank m.link.top < rank l.link.top

  pub hopped : (h : ℕ) (l : Region) (b : Beside) → at h ≡ Some l → is_empty l.children.items ≡ true → l.link.beside ≡ Some b → IsHop h l b
  hopped h l b e childless leads = by t.ends
    where
      t : IsTop h l
      t = top_of h l e

      own : (l.head ≡ h) × (l.inside ≡ 0)
      own = have.leaves h l e childless

      link_here : link_in (at l.head) ≡ Some l.link
      link_here = ap (λ y. link_in (at y)) own.0 ∙ ap link_in e

      by : EndsOut t.name t.region ⊎ EndsBeside t.name t.region → IsHop h l b
      by (inl ends) =
          let both : Some l.link ≡ Some (record { top = t.name; beside = None }) =
          sym link_here ∙ (ap (λ y. link_in (at y)) (sym t.head) ∙ ends.link) in
          let is : l.link ≡ record { top = t.name; beside = None } = cc in
          let clash : Some b ≡ None = sym leads ∙ ap (λ (k : Link). k.beside) is in
          absurd (cc)
      by (inr ends) =
          let p = ends.joiner in
          let s = ends.leads.shift in
          let both : Some l.link ≡ Some (record { top = t.name; beside = Some (record { leaf = p.head; shift = s }) }) =
          sym link_here ∙ (ap (λ y. link_in (at y)) (sym t.head) ∙ ends.leads.link_is) in
          let is : l.link ≡ record { top = t.name; beside = Some (record { leaf = p.head; shift = s }) } = cc in
          let named : l.link.top ≡ t.name = ap (λ (k : Link). k.top) is in
          let besides : Some b ≡ Some (record { leaf = p.head; shift = s }) = sym leads ∙ ap (λ (k : Link). k.beside) is in
          let to : b ≡ record { leaf = p.head; shift = s } = cc in
          let head : b.leaf ≡ p.head = ap (λ (k : Beside). k.leaf) to in
          let shift : b.shift ≡ s = ap (λ (k : Beside). k.shift) to in
          let u = up t.name ends.joint t.region t.there ends.parent in
          let (rooted, deeper) = head_sums ends.joint p ends.there in
          let first : radii h % 2 ^ 64 ≡ (t.region.inside + radii t.name) % 2 ^ 64 =
          sym (none_more l.inside (radii h) own.1) ∙ sym t.sums in
          let parts : t.region.inside + radii t.name ≡ t.region.inside + t.region.radius + radii ends.joint = omega (arith, u.radii_are) in
          let beyond : p.inside + s + radii ends.joint ≡ p.inside + radii ends.joint + s = omega arith in
          record {
            leaf = ap (λ y. is_leaf_in (at y)) head ∙ have.heads ends.joint p ends.there;
            root_is = ap root head ∙ (rooted ∙ (u.root_is ∙ t.root_is));
            sums =
                first
                ∙ (ap (λ n. n % 2 ^ 64) parts
                ∙ (same_more (t.region.inside + t.region.radius) (p.inside + s) (radii ends.joint) ends.leads.sums
                ∙ (ap (λ n. n % 2 ^ 64) beyond
                ∙ (same_more (p.inside + radii ends.joint) (radii p.head) s (sym deeper)
                ∙ ap (λ n. n % 2 ^ 64) (let sum : radii p.head + s ≡ radii b.leaf + b.shift = omega (arith, ap radii head, shift) in sum)))));
            later = λ m has.
                let v = top_of ends.joint p ends.there in
                let a = linked ends.joint p v in
                let link_m : link_in (at p.head) ≡ Some m.link = ap (λ y. link_in (at y)) (sym head) ∙ ap link_in has in
                let both_m : Some m.link ≡ Some (record { top = v.name; beside = a.beside }) = sym link_m ∙ a.is in
                let is_m : m.link ≡ record { top = v.name; beside = a.beside } = cc in
                omega (arith, ap (λ (k : Link). rank k.top) is_m, v.later, u.later, ap rank named);
          }
