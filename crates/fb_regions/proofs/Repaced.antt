-- A node to which another pace is set: nothing that is kept of it speaks of its pace.
use Rattle.std.proofs.Common.{ℕ, zero, suc, ◌≡◌, ◌+◌, ◌<◌, ◌==◌, ◌&&◌, Bool, true, false, List, [], ◌∷◌, length, set, get_or, Option, Some, None, refl, sym, ap, ◌∙◌, subst, arith, if◌then◌else◌}
use Rattle.std.specs.List.{All}
use Rattle.std.proofs.lemmas.List.Elements.{All-set}
use Rattle.fb_graph.specs.Certificate.{total_value}
use Rattle.fb_graph.specs.Dual.{Node, all_cuts, is_live, layers_of}
use Rattle.fb_graph.specs.Nests.{IsNest}
use Rattle.fb_graph.specs.Parity.{is_in}
use Rattle.fb_graph.specs.Problem.{Problem}
use Rattle.fb_graph.specs.SourceWalks.{HaveWalks}
use Rattle.fb_graph.proofs.Among.{IsAmong, All_among}
use Rattle.fb_graph.proofs.NestParts.{names_live}
use Rattle.fb_regions.specs.declared.marks.Mark.{Mark}
use Rattle.fb_regions.specs.declared.region.Region.{Region}
use Rattle.fb_regions.specs.declared.roles.Role.{Role}
use Rattle.fb_regions.specs.declared.roles.Role.TheVariants.{Out}
use Rattle.fb_regions.specs.InternalClock.{HaveBegun, all_at, now_at}
use Rattle.fb_regions.specs.InternalHeads.{HaveHeads}
use Rattle.fb_regions.specs.InternalKept.{HasMarks, HaveParents, IsKept, IsMarked}
use Rattle.fb_regions.specs.InternalListings.{BeginAlike, BeginsFirst, IsListed, region_named}
use Rattle.fb_regions.specs.InternalNodes.{node_of, nodes_of, radii_from}
use Rattle.fb_regions.specs.InternalPlaces.{IsIndex, place_in}
use Rattle.fb_regions.specs.Paces.{Paced}
use Rattle.fb_regions.proofs.ByName.{first_placed, placed, placed_known}
use Rattle.fb_regions.proofs.ClockMoves.{all_settled, begun_settled, names_apart}
use Rattle.fb_regions.proofs.ClockReadings.{length_at, names_at, placed_at, read_at_time}
use Rattle.fb_regions.proofs.Found.{among_at, found, names_of, not_found, read_place}
use Rattle.fb_regions.proofs.HeadLists.{heads_set}
use Rattle.fb_regions.proofs.Indexed.{index_changed}
use Rattle.fb_regions.proofs.Listings.{listed_alike}
use Rattle.fb_regions.proofs.PaceNames.{pace_by, pace_found, pace_missing, pace_read, pace_set}
use Rattle.fb_regions.proofs.Parents.{childless_set, parents_set}

pub nodes_repaced : (marks : List (Option Mark)) (rs : List Region) (i : ℕ) (old : Region) (pace : Role) → old ≡ get_or rs i old
    → nodes_of marks (set rs i (record old { pace = pace })) ≡ nodes_of marks rs
nodes_repaced marks [] i old pace at = refl
nodes_repaced marks (x ∷ xs) zero old pace at = ap (λ r. node_of marks r ∷ nodes_of marks xs) at
nodes_repaced marks (x ∷ xs) (suc i) old pace at = ap (λ l. node_of marks x ∷ l) (nodes_repaced marks xs i old pace at)

radii_repaced : (rs : List Region) (i : ℕ) (old : Region) (pace : Role) → old ≡ get_or rs i old → (name : ℕ)
    → radii_from (set rs i (record old { pace = pace })) name ≡ radii_from rs name
radii_repaced [] i old pace at name = refl
radii_repaced (x ∷ xs) zero old pace at name = ap (λ r. radii_from (r ∷ xs) name) at
radii_repaced (x ∷ xs) (suc i) old pace at name = by (x.name == name) x.parent (radii_repaced xs i old pace at)
  where
    by : (b : Bool) (o : Option ℕ) → ((q : ℕ) → radii_from (set xs i (record old { pace = pace })) q ≡ radii_from xs q)
        → (if b then x.radius + elim o as (λ z. ℕ) [ None ↦ 0 | Some q ↦ radii_from (set xs i (record old { pace = pace })) q ]
        else radii_from (set xs i (record old { pace = pace })) name)
        ≡ (if b then x.radius + elim o as (λ z. ℕ) [ None ↦ 0 | Some q ↦ radii_from xs q ] else radii_from xs name)
    by true None rest = refl
    by true (Some q) rest = ap (λ n. x.radius + n) (rest q)
    by false o rest = rest name

pub kept_repaced : (p : Problem) (rs : List Region) (marks : List (Option Mark)) (i : ℕ) (old : Region) (pace : Role) → old ≡ get_or rs i old
    → i < length rs → IsKept p rs marks → IsKept p (set rs i (record old { pace = pace })) marks
kept_repaced p rs marks i old pace at less kept =
    let new = record old { pace = pace } in
    let same : nodes_of marks (set rs i new) ≡ nodes_of marks rs = nodes_repaced marks rs i old pace at in
    let among : IsAmong old rs = among_at marks rs i old less at in
    record {
      nest = subst (IsNest p) (sym same) kept.nest;
      walks = subst (HaveWalks p) (sym same) kept.walks;
      room = kept.room;
      radii = All-set (λ r. r.radius ≡ total_value (layers_of (node_of marks r))) rs i new
          (All_among (λ r. r.radius ≡ total_value (layers_of (node_of marks r))) rs kept.radii old among) kept.radii;
      parents =
          subst (λ ns. HaveParents ns (set rs i new)) (sym same)
          (parents_set (nodes_of marks rs) (nodes_of marks rs) rs i old new (λ x h. h) at less refl refl refl kept.parents);
      sets = subst (λ ns. All (λ c. HasMarks marks c.vertices) (all_cuts ns)) (sym same) kept.sets;
      listed = All-set (IsListed marks) rs i new
          (listed_alike marks old new refl refl refl refl refl (All_among (IsListed marks) rs kept.listed old among)) kept.listed;
      begins =
          subst (λ ns. BeginAlike ns (set rs i new)) (sym same)
          (All-set (λ r. BeginsFirst (nodes_of marks rs) r.first r.children.items) rs i new
          (All_among (λ r. BeginsFirst (nodes_of marks rs) r.first r.children.items) rs kept.begins old among) kept.begins);
      marked = λ v m has.
          subst (λ ns. IsMarked p ns (set rs i new) marks v m) (sym same) (marked (kept.marked v m has));
    }
  where
    marked : {v : ℕ} {m : Mark} → IsMarked p (nodes_of marks rs) rs marks v m
        → IsMarked p (nodes_of marks rs) (set rs i (record old { pace = pace })) marks v m
    marked {v} {m} is = record {
      covered = is.covered;
      leaf = is.leaf;
      childless = childless_set rs i old (record old { pace = pace }) m.leaf at less refl refl ∙ is.childless;
      defect = is.defect;
      balance = is.balance ∙ sym (radii_repaced rs i old pace at m.leaf);
      came = is.came;
    }

-- states alike but for equal nodes
pub same_nodes : {S : Type 0} (scope : S) (nodes others : List Node) (plus minus : List ℕ) → nodes ≡ others
    → ◌≡◌ {A = Paced S} (record { scope = scope; nodes = nodes; plus = plus; minus = minus })
    (record { scope = scope; nodes = others; plus = plus; minus = minus })
same_nodes scope nodes others plus minus e = ap (λ ns. record { scope = scope; nodes = ns; plus = plus; minus = minus }) e

pub pace_at_place : (p : Problem) (clock : ℕ) (rs : List Region) (places seen : List (Option ℕ)) (marks : List (Option Mark)) (name i : ℕ) (old : Region)
    → IsKept p (all_at clock rs) marks → IsIndex rs places → seen ≡ places → Some i ≡ place_in seen name → old ≡ get_or rs i old → old.pace ≡ pace_by rs name
pace_at_place p clock rs places seen marks name i old kept index e h at =
    sym (pace_read rs name (names_apart p clock rs marks kept) ∙ pace_found rs name i old (read_place rs places seen name (Some i) index e h) at)

pub pace_without_place : (p : Problem) (clock : ℕ) (rs : List Region) (places seen : List (Option ℕ)) (marks : List (Option Mark)) (name : ℕ)
    → IsKept p (all_at clock rs) marks → IsIndex rs places → seen ≡ places → None ≡ place_in seen name → Out ≡ pace_by rs name
pace_without_place p clock rs places seen marks name kept index e h =
    sym (pace_read rs name (names_apart p clock rs marks kept) ∙ pace_missing rs name (read_place rs places seen name None index e h))

-- a name that no node has changes nothing
pub unrepaced : (clock : ℕ) (rs : List Region) (places seen : List (Option ℕ)) (marks : List (Option Mark)) (name : ℕ) (pace : Role) → IsIndex rs places
    → seen ≡ places → None ≡ place_in seen name → (n : ℕ)
    → pace_by rs n ≡ (if (n == name) && is_live (nodes_of marks (all_at clock rs)) name then pace else pace_by rs n)
unrepaced clock rs places seen marks name pace index e h n =
    let gone : is_live (nodes_of marks (all_at clock rs)) name ≡ false =
    not_found marks (all_at clock rs) name (placed_at clock rs name ∙ read_place rs places seen name None index e h) in
    by (n == name) ∙ ap (λ b. if (n == name) && b then pace else pace_by rs n) (sym gone)
  where
    by : (b : Bool) → pace_by rs n ≡ (if b && false then pace else pace_by rs n)
    by true = refl
    by false = refl

-- the named node at a time, to which the pace is set
module _ (p : Problem) (clock : ℕ) (rs : List Region) (places seen : List (Option ℕ)) (marks : List (Option Mark)) (name i : ℕ) (old : Region)
    (pace : Role) (index : IsIndex rs places) (e : seen ≡ places) (h : Some i ≡ place_in seen name) (at : old ≡ get_or rs i old) where
  abbrev pub repaced_at : Region
  repaced_at = record (now_at clock old) { pace = pace; since = clock }

  less : i < length rs
  less = (first_placed rs name i (read_place rs places seen name (Some i) index e h)).0

  regions_are : all_at clock (set rs i repaced_at) ≡ set (all_at clock rs) i (record (now_at clock old) { pace = pace })
  regions_are = all_settled clock rs i repaced_at refl

  there : now_at clock old ≡ get_or (all_at clock rs) i (now_at clock old)
  there = read_at_time clock rs i old less at

  pub nodes_at_time : nodes_of marks (all_at clock (set rs i repaced_at)) ≡ nodes_of marks (all_at clock rs)
  nodes_at_time = ap (nodes_of marks) regions_are ∙ nodes_repaced marks (all_at clock rs) i (now_at clock old) pace there

  pub kept_at_time : IsKept p (all_at clock rs) marks → HaveBegun clock rs → HaveHeads (region_named (all_at clock rs))
      → IsKept p (all_at clock (set rs i repaced_at)) marks × IsIndex (set rs i repaced_at) places × HaveBegun clock (set rs i repaced_at)
      × HaveHeads (region_named (all_at clock (set rs i repaced_at)))
  kept_at_time kept begun have = (
    subst (λ l. IsKept p l marks) (sym regions_are)
        (kept_repaced p (all_at clock rs) marks i (now_at clock old) pace there (omega (arith, less, length_at clock rs)) kept),
    index_changed rs places seen name i old repaced_at index e h at refl,
    begun_settled clock rs i repaced_at refl begun,
    subst (λ l. HaveHeads (region_named l)) (sym regions_are)
        (heads_set (all_at clock rs) i (now_at clock old) (record (now_at clock old) { pace = pace }) there refl
        (record { still = record { children = refl; head = refl; inside = refl }; parent = refl; link = refl; radius = λ q f. refl }) have),
  )

  pub paces_at_time : IsKept p (all_at clock rs) marks → HaveBegun clock rs → HaveHeads (region_named (all_at clock rs)) → (n : ℕ)
      → pace_by (set rs i repaced_at) n ≡ (if (n == name) && is_live (nodes_of marks (all_at clock rs)) name then pace else pace_by rs n)
  paces_at_time kept begun have n =
      let there' : placed name rs ≡ Some i = read_place rs places seen name (Some i) index e h in
      let named : old.name ≡ name = (found marks rs name i old there' at).named in
      let live : is_live (nodes_of marks (all_at clock rs)) name ≡ true =
      sym (ap (λ l. is_in l name) (sym (names_at clock rs) ∙ names_of marks (all_at clock rs)) ∙ names_live (nodes_of marks (all_at clock rs)) name) ∙ placed_known rs name i there' in
      pace_read (set rs i repaced_at) n (names_apart p clock (set rs i repaced_at) marks (kept_at_time kept begun have).0)
      ∙ (pace_set rs name i repaced_at there' named n
      ∙ (ap (λ r. if n == name then pace else r) (sym (pace_read rs n (names_apart p clock rs marks kept)))
      ∙ (by (n == name) ∙ ap (λ b. if (n == name) && b then pace else pace_by rs n) (sym live))))
    where
      by : (b : Bool) → (if b then pace else pace_by rs n) ≡ (if b && true then pace else pace_by rs n)
      by true = refl
      by false = refl
