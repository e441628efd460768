-- Where heads lead once they are relinked, one after another.
use Rattle.std.proofs.Common.{ℕ, ◌≡◌, ◌==◌, ◌||◌, Bool, true, false, List, [], ◌∷◌, map, Option, Some, None, option_map, refl, sym, ap, ◌∙◌, subst, if◌then◌else◌}
use Rattle.std.proofs.lemmas.Bool.{both_ways, false≢true, eq-eqb, eqb-true, or_left}
use Rattle.fb_graph.specs.Parity.{is_in}
use Rattle.fb_graph.proofs.Sets.{is_in-tail}
use Rattle.fb_regions.specs.declared.heads.Link.{Link}
use Rattle.fb_regions.specs.declared.region.Region.{Region}
use Rattle.fb_regions.specs.InternalClock.{now_at}
use Rattle.fb_regions.specs.InternalHeads.{link_in, relinked_all, relinked_one, relinked_region}
use Rattle.fb_regions.specs.InternalListings.{region_named}
use Rattle.fb_regions.specs.InternalNodes.{reparented_region}
use Rattle.fb_regions.proofs.HeadLists.{IsRelinked, link_kept, link_set, related_one, relinked_from}
use Rattle.fb_regions.proofs.HeadMoves.{AreRelated, IsMoved, IsMovedTo, back, forth, parent_after}

abbrev AreRelinked : List Region → List Region → Type 0
AreRelinked rs ss = (x : ℕ) → AreRelated IsRelinked (region_named rs x) (region_named ss x)

-- no one of the list has the head
abbrev pub HasNone : List Region → List ℕ → ℕ → Type 0
HasNone rs cs leaf = (c : ℕ) (t : Region) → is_in cs c ≡ true → region_named rs c ≡ Some t → t.head ≡ leaf → ⊥

missed : (link : Region → Link) (cs : List ℕ) (rs ss : List Region) → AreRelinked rs ss → (leaf : ℕ) → HasNone rs cs leaf
    → link_in (region_named (relinked_all link cs ss) leaf) ≡ link_in (region_named ss leaf)
missed link [] rs ss h leaf none = refl
missed link (c ∷ cs) rs ss h leaf none =
    missed link cs rs (relinked_one link ss (region_named ss c)) (related_one link rs ss h (region_named ss c)) leaf
    (λ d t d_in there same. none d t (is_in-tail c cs d d_in) there same)
    ∙ by (region_named ss c) refl
  where
    by : (o : Option Region) → region_named ss c ≡ o → link_in (region_named (relinked_one link ss o) leaf) ≡ link_in (region_named ss leaf)
    by None e = refl
    by (Some r) e =
        let (t, there, is) = back IsRelinked (region_named rs c) (region_named ss c) r (h c) e in
        link_kept ss r.head (link r) leaf (λ same. none c t (or_left (c == c) (is_in cs c) (eq-eqb c c refl)) there (sym (ap (λ y. y.head) is) ∙ same))

pub link_missed : (link : Region → Link) (cs : List ℕ) (rs : List Region) (leaf : ℕ) → HasNone rs cs leaf
    → link_in (region_named (relinked_all link cs rs) leaf) ≡ link_in (region_named rs leaf)
link_missed link cs rs leaf none = missed link cs rs rs (relinked_from link [] rs) leaf none

-- no two of the list have one head
abbrev pub HaveOwn : List Region → List ℕ → Type 0
HaveOwn rs cs = (c d : ℕ) (s t : Region) → is_in cs c ≡ true → is_in cs d ≡ true → region_named rs c ≡ Some s → region_named rs d ≡ Some t
    → s.head ≡ t.head → c ≡ d

module _ (link : Region → Link) (still : (r : Region) (l : Link) → link (record r { link = l }) ≡ link r) (rs : List Region) (c : ℕ) (t : Region)
    (there : region_named rs c ≡ Some t) (l : Region) (head : region_named rs t.head ≡ Some l) where
  hit : (cs : List ℕ) (ss : List Region) → AreRelinked rs ss → HaveOwn rs cs → is_in cs c ≡ true
      → link_in (region_named (relinked_all link cs ss) t.head) ≡ Some (link t)
  hit [] ss h own c_in = absurd (false≢true c_in)
  hit (d ∷ cs) ss h own c_in = by (is_in cs c) refl
      (hit cs (relinked_one link ss (region_named ss d)) (related_one link rs ss h (region_named ss d))
      (λ a b s u a_in b_in. own a b s u (is_in-tail d cs a a_in) (is_in-tail d cs b b_in)))
    where
      by : (b : Bool) → is_in cs c ≡ b
          → (is_in cs c ≡ true → link_in (region_named (relinked_all link cs (relinked_one link ss (region_named ss d))) t.head) ≡ Some (link t))
          → link_in (region_named (relinked_all link cs (relinked_one link ss (region_named ss d))) t.head) ≡ Some (link t)
      by true e rest = rest e
      by false e rest =
          let same : d ≡ c = eqb-true d c (or_false (d == c) (is_in cs c) e c_in) in
          let (r, r_there, is) = forth IsRelinked (region_named rs c) (region_named ss c) t (h c) there in
          let (k, k_there, k_is) = forth IsRelinked (region_named rs t.head) (region_named ss t.head) l (h t.head) head in
          let heads : r.head ≡ t.head = ap (λ y. y.head) is in
          missed link cs rs (relinked_one link ss (region_named ss d)) (related_one link rs ss h (region_named ss d)) t.head
          (λ a u a_in a_there heads'.
          both_ways (is_in cs c) e
          (ap (is_in cs) (sym (own a c u t (is_in-tail d cs a a_in) c_in a_there there heads')) ∙ a_in))
          ∙ (ap (λ o. link_in (region_named (relinked_one link ss o) t.head)) (ap (region_named ss) same ∙ r_there)
          ∙ (ap (λ y. link_in (region_named (map (relinked_region r.head (link r)) ss) y)) (sym heads)
          ∙ (link_set ss r.head (link r) k (ap (region_named ss) heads ∙ k_there) ∙ ap Some (ap link is ∙ still t r.link))))
        where
          or_false : (a b : Bool) → b ≡ false → (a || b) ≡ true → a ≡ true
          or_false true b f g = refl
          or_false false b f g = sym f ∙ g

  pub link_hit : (cs : List ℕ) → HaveOwn rs cs → is_in cs c ≡ true → link_in (region_named (relinked_all link cs rs) t.head) ≡ Some (link t)
  link_hit cs own c_in = hit cs rs (relinked_from link [] rs) own c_in

-- nodes of other parents and links
pub moved_at : (clock : ℕ) (cs : List ℕ) (to : Option ℕ) (link : Region → Link) (ds : List ℕ) (rs : List Region) (x : ℕ) (o : Option Region)
    → region_named rs x ≡ option_map (reparented_region cs to) o → ((r : Region) → o ≡ Some r → r.name ≡ x)
    → AreRelated (IsMoved cs to x) (option_map (now_at clock) o) (option_map (now_at clock) (region_named (relinked_all link ds rs) x))
moved_at clock cs to link ds rs x o is named =
    by o (region_named (relinked_all link ds rs) x) named
    (subst (λ p. AreRelated IsRelinked p (region_named (relinked_all link ds rs) x)) is (relinked_from link ds rs x))
  where
    fields : (r s : Region) (b : Bool) → r.name ≡ x → is_in cs r.name ≡ b → s ≡ record (if b then record r { parent = to } else r) { link = s.link }
        → IsMovedTo (parent_after cs to x r.parent) (now_at clock r) (now_at clock s)
    fields r s true name within e = record {
      still = record { children = ap (λ y. y.children.items) e; head = ap (λ y. y.head) e; inside = ap (λ y. y.inside) e };
      parent_is = ap (λ y. y.parent) e ∙ sym (ap (λ b. if b then to else r.parent) (ap (is_in cs) (sym name) ∙ within));
      radius = ap (λ y. (now_at clock y).radius) e;
    }
    fields r s false name within e = record {
      still = record { children = ap (λ y. y.children.items) e; head = ap (λ y. y.head) e; inside = ap (λ y. y.inside) e };
      parent_is = ap (λ y. y.parent) e ∙ sym (ap (λ b. if b then to else r.parent) (ap (is_in cs) (sym name) ∙ within));
      radius = ap (λ y. (now_at clock y).radius) e;
    }

    by : (p q : Option Region) → ((r : Region) → p ≡ Some r → r.name ≡ x) → AreRelated IsRelinked (option_map (reparented_region cs to) p) q
        → AreRelated (IsMoved cs to x) (option_map (now_at clock) p) (option_map (now_at clock) q)
    by None None name h = tt
    by None (Some s) name h = absurd h
    by (Some r) None name h = absurd h
    by (Some r) (Some s) name h = fields r s (is_in cs r.name) (name r refl) refl h

-- time leaves links
pub link_at : (clock : ℕ) (o : Option Region) → link_in (option_map (now_at clock) o) ≡ link_in o
link_at clock None = refl
link_at clock (Some r) = refl
