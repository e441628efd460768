-- From a leaf to the outer node, from head to head.
use Rattle.std.proofs.Common.{ℕ, zero, suc, ◌≡◌, ◌+◌, ◌-◌, ◌%◌, ◌^◌, ◌<◌, ◌==◌, inl, inr, Bool, true, false, List, [], ◌∷◌, length, get_or, Option, Some, None, refl, sym, ap, ◌∙◌, arith, if◌then◌else◌}
use Rattle.std.proofs.Math.Nat.{add-mod-mod, mod-add-mod, mod-eq_of_lt}
use Rattle.std.specs.List.{position_or_len}
use Rattle.std.specs.Prelude.{IsSome, option_map}
use Rattle.std.proofs.lemmas.Bool.{eq-eqb, eqb-true, or_left, or_right}
use Rattle.fb_graph.specs.Parity.{is_in}
use Rattle.fb_graph.specs.Dual.{is_empty}
use Rattle.fb_graph.proofs.Among.{IsAmong}
use Rattle.fb_regions.specs.declared.heads.Beside.{Beside}
use Rattle.fb_regions.specs.declared.region.Climb.{Climb}
use Rattle.fb_regions.specs.declared.region.Region.{Region}
use Rattle.fb_regions.specs.InternalClock.{all_at, now_at}
use Rattle.fb_regions.specs.InternalHeads.{HaveHeads, depth_of, is_leaf_in}
use Rattle.fb_regions.specs.InternalListings.{region_named}
use Rattle.fb_regions.specs.InternalNodes.{radii_from, root_from}
use Rattle.fb_regions.specs.InternalPlaces.{AreJoinedAbove}
use Rattle.fb_regions.proofs.ByName.{placed, placed_here, placed_past}
use Rattle.fb_regions.proofs.Climbs.{climb_ended, climb_rises, stepped_out, stepped_up}
use Rattle.fb_regions.proofs.ClockReadings.{climb_at, joined_at, named_at_time}
use Rattle.fb_regions.proofs.HeadTops.{IsUp, ended, hopped, leaf_in, none_more, radius_within}

-- where a named node is
pub record IsPlaced (rs : List Region) (x : ℕ) (r : Region) : Type 0 where
  pub place : ℕ
  pub at : placed x rs ≡ Some place
  pub is : r ≡ get_or rs place r

pub named_placed : (rs : List Region) (x : ℕ) (r : Region) → region_named rs x ≡ Some r → IsPlaced rs x r
named_placed [] x r e = absurd (let clash : None ≡ Some r = e in cc)
named_placed (y ∷ ys) x r e = by (y.name == x) refl e (named_placed ys x r)
  where
    by : (b : Bool) → (y.name == x) ≡ b → (if b then Some y else region_named ys x) ≡ Some r → (region_named ys x ≡ Some r → IsPlaced ys x r)
        → IsPlaced (y ∷ ys) x r
    by true f h rest =
        let same : y ≡ r = cc in
        record { place = 0; at = placed_here y ys x f; is = sym same }
    by false f h rest =
        let p = rest h in
        record { place = suc p.place; at = placed_past y ys x f ∙ ap (option_map suc) p.at; is = p.is }

pub named_name : (rs : List Region) (x : ℕ) (r : Region) → region_named rs x ≡ Some r → r.name ≡ x
named_name [] x r e = absurd (let clash : None ≡ Some r = e in cc)
named_name (y ∷ ys) x r e = by (y.name == x) refl e (named_name ys x r)
  where
    by : (b : Bool) → (y.name == x) ≡ b → (if b then Some y else region_named ys x) ≡ Some r → (region_named ys x ≡ Some r → r.name ≡ x) → r.name ≡ x
    by true f h rest =
        let same : y ≡ r = cc in
        ap (λ z. z.name) (sym same) ∙ eqb-true y.name x f
    by false f h rest = rest h

pub named_among : (rs : List Region) (x : ℕ) (r : Region) → region_named rs x ≡ Some r → IsAmong r rs
named_among [] x r e = absurd (let clash : None ≡ Some r = e in cc)
named_among (y ∷ ys) x r e = by (y.name == x) e (named_among ys x r)
  where
    by : (b : Bool) → (if b then Some y else region_named ys x) ≡ Some r → (region_named ys x ≡ Some r → IsAmong r ys) → IsAmong r (y ∷ ys)
    by true h rest = let same : y ≡ r = cc in inl same
    by false h rest = inr (rest h)

-- a node of a list of names
pub named_listed : (rs : List Region) (cs : List ℕ) (i : ℕ) (r : Region) → i < length cs → region_named rs (get_or cs i 0) ≡ Some r
    → (is_in cs r.name ≡ true) × (region_named rs r.name ≡ Some r)
named_listed rs cs i r less e =
    let named = named_name rs (get_or cs i 0) r e in
    (ap (is_in cs) named ∙ listed cs i less, ap (region_named rs) named ∙ e)
  where
    listed : (xs : List ℕ) (j : ℕ) → j < length xs → is_in xs (get_or xs j 0) ≡ true
    listed [] j less' = absurd (omega arith)
    listed (x ∷ xs) zero less' = or_left (x == x) (is_in xs x) (eq-eqb x x refl)
    listed (x ∷ xs) (suc j) less' = or_right (x == get_or xs j 0) (is_in xs (get_or xs j 0)) (listed xs j (omega arith))

pub some_mapped : {X Y : Type 0} (f : X → Y) (o : Option X) (y : Y) → option_map f o ≡ Some y → IsSome o
some_mapped {X} {Y} f None y e = absurd (let clash : ◌≡◌ {A = Option Y} None (Some y) = e in cc)
some_mapped f (Some x) y e = refl

-- how many nodes come after the named one
abbrev pub rank_in : List Region → ℕ → ℕ
rank_in rs x = length rs - position_or_len (λ r. r.name == x) rs

-- the leaf to which the hops have come, and the sum on the way
pub record IsOnWay (clock : ℕ) (regions : List Region) (leaf radii : ℕ) (r : Region) : Type 0 where
  pub there : region_named (all_at clock regions) r.name ≡ Some (now_at clock r)
  pub childless : is_empty r.children.items ≡ true
  pub root_is : root_from (all_at clock regions) r.name ≡ root_from (all_at clock regions) leaf
  pub sums : (radii + radii_from (all_at clock regions) r.name) % 2 ^ 64 ≡ radii_from (all_at clock regions) leaf % 2 ^ 64

pub way_begins : (clock : ℕ) (regions : List Region) (leaf : ℕ) (r : Region) → is_leaf_in (region_named regions leaf) ≡ true
    → region_named regions leaf ≡ Some r → IsOnWay clock regions leaf 0 r
way_begins clock regions leaf r is_leaf e =
    let named = named_name regions leaf r e in
    record {
      there = named_at_time clock regions r.name ∙ ap (option_map (now_at clock)) (ap (region_named regions) named ∙ e);
      childless = ap is_leaf_in (sym e) ∙ is_leaf;
      root_is = ap (root_from (all_at clock regions)) named;
      sums =
          none_more 0 (radii_from (all_at clock regions) r.name) refl ∙ ap (λ x. radii_from (all_at clock regions) x % 2 ^ 64) named;
    }

module _ (clock : ℕ) (regions : List Region) (leaf radii : ℕ) (r : Region) (joined : AreJoinedAbove regions)
    (have : HaveHeads (region_named (all_at clock regions))) (way : IsOnWay clock regions leaf radii r) where
  abbrev rs : List Region
  rs = all_at clock regions

  out : (x : ℕ) (s : Region) → region_named rs x ≡ Some s → s.parent ≡ None → (root_from rs x ≡ Some x) × (radii_from rs x ≡ s.radius)
  out x s e f = let p = named_placed rs x s e in stepped_out rs x p.place s p.at p.is f

  up : (x q : ℕ) (s : Region) → region_named rs x ≡ Some s → s.parent ≡ Some q → IsUp (root_from rs) (radii_from rs) (rank_in rs) x q s
  up x q s e f =
      let p = named_placed rs x s e in
      let u = stepped_up rs x p.place q s (joined_at clock regions joined) p.at p.is f in
      record { root_is = u.root; radii_are = u.radii; later = climb_rises rs x p.place q s p.at u }

  -- on to another leaf
  pub record WayGoesOn (b : Beside) : Type 0 where
    pub known : IsSome (region_named regions b.leaf)
    pub on : (m : Region) → region_named regions b.leaf ≡ Some m → IsOnWay clock regions leaf ((radii + b.shift) % 2 ^ 64) m
    pub later : (m : Region) → region_named regions b.leaf ≡ Some m → rank_in rs m.link.top < rank_in rs r.link.top

  pub way_goes_on : (b : Beside) → r.link.beside ≡ Some b → WayGoesOn b
  way_goes_on b leads =
      let hop = hopped (region_named rs) (root_from rs) (radii_from rs) (rank_in rs) have out up r.name (now_at clock r) b way.there way.childless leads in
      let l = leaf_in (region_named rs b.leaf) hop.leaf in
      record {
        known = some_mapped (now_at clock) (region_named regions b.leaf) l.region (sym (named_at_time clock regions b.leaf) ∙ l.is);
        on = λ m e.
            let named = named_name regions b.leaf m e in
            let there : region_named rs b.leaf ≡ Some (now_at clock m) = named_at_time clock regions b.leaf ∙ ap (option_map (now_at clock)) e in
            let one : (radii + b.shift) % 2 ^ 64 + radii_from rs m.name ≡ (radii + b.shift) % 2 ^ 64 + radii_from rs b.leaf = ap (λ x. (radii + b.shift) % 2 ^ 64 + radii_from rs x) named in
            let two : radii + b.shift + radii_from rs b.leaf ≡ radii + (radii_from rs b.leaf + b.shift) = omega arith in
            record {
              there = ap (region_named rs) named ∙ there;
              childless = ap is_leaf_in (sym there) ∙ hop.leaf;
              root_is = ap (root_from rs) named ∙ (hop.root_is ∙ way.root_is);
              sums =
                  ap (λ n. n % 2 ^ 64) one
                  ∙ (mod-add-mod (radii + b.shift) (2 ^ 64) (radii_from rs b.leaf)
                  ∙ (ap (λ n. n % 2 ^ 64) two
                  ∙ (sym (add-mod-mod radii (radii_from rs b.leaf + b.shift) (2 ^ 64))
                  ∙ (ap (λ n. (radii + n) % 2 ^ 64) (sym hop.sums) ∙ (add-mod-mod radii (radii_from rs r.name) (2 ^ 64) ∙ way.sums)))));
            };
        later = λ m e. hop.later (now_at clock m) (named_at_time clock regions b.leaf ∙ ap (option_map (now_at clock)) e);
      }

  -- or to the outer node
  pub record WayEnds : Type 0 where
    pub known : IsSome (region_named regions r.link.top)
    pub fits : is_leaf_in (region_named regions leaf) ≡ true → radii_from rs leaf < 2 ^ 64 → (o : Region) → region_named regions r.link.top ≡ Some o
        → (now_at clock o).radius < 2 ^ 64
    pub climb : radii_from rs leaf < 2 ^ 64 → (o : Region) → region_named regions r.link.top ≡ Some o
        → ◌≡◌ {A = Option Climb} (Some (record { root = r.link.top; radii = (radii + depth_of (now_at clock o)) % 2 ^ 64 }))
        (option_map (λ (root : ℕ). record { root = root; radii = radii_from rs leaf }) (root_from regions leaf))

  pub way_ends : r.link.beside ≡ None → WayEnds
  way_ends bare =
      let (outer, there, rooted, sum) = ended (region_named rs) (root_from rs) (radii_from rs) (rank_in rs) have out up r.name (now_at clock r) way.there way.childless bare in
      record {
        known = some_mapped (now_at clock) (region_named regions r.link.top) outer (sym (named_at_time clock regions r.link.top) ∙ there);
        fits = λ is_leaf fits o e.
            let l = leaf_in (region_named regions leaf) is_leaf in
            let less =
            radius_within (region_named rs) (root_from rs) (radii_from rs) (rank_in rs) have out up leaf (now_at clock l.region)
            (named_at_time clock regions leaf ∙ ap (option_map (now_at clock)) l.is) r.link.top (now_at clock o) (sym way.root_is ∙ rooted)
            (named_at_time clock regions r.link.top ∙ ap (option_map (now_at clock)) e) in
            omega (arith, less, fits);
        climb = λ fits o e.
            let both : Some (now_at clock o) ≡ Some outer = sym (named_at_time clock regions r.link.top ∙ ap (option_map (now_at clock)) e) ∙ there in
            let same : now_at clock o ≡ outer = cc in
            climb_ended rs leaf r.link.top ((radii + depth_of (now_at clock o)) % 2 ^ 64) (sym way.root_is ∙ rooted)
            (ap (λ n. (radii + n) % 2 ^ 64) (ap depth_of same ∙ sum)
            ∙ (add-mod-mod radii (radii_from rs r.name) (2 ^ 64) ∙ (way.sums ∙ mod-eq_of_lt fits)))
            ∙ sym (climb_at clock regions leaf);
      }
