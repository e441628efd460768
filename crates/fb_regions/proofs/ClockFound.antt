-- A node found by its name, as it is at a time, and that its values fit.
use Rattle.std.proofs.Common.{ℕ, ◌≡◌, ◌<◌, ◌≤◌, ◌^◌, true, List, get_or, Option, Some, None, ◌∙◌, arith}
use Rattle.fb_graph.specs.Problem.{Problem}
use Rattle.fb_graph.specs.Certificate.{total_value}
use Rattle.fb_graph.specs.Dual.{is_live, layers_of}
use Rattle.fb_graph.proofs.Among.{IsAmong, All_among}
use Rattle.fb_regions.specs.declared.marks.Mark.{Mark}
use Rattle.fb_regions.specs.declared.region.Region.{Region}
use Rattle.fb_regions.specs.InternalClock.{HasBegun, HaveBegun, all_at, now_at}
use Rattle.fb_regions.specs.InternalKept.{IsKept}
use Rattle.fb_regions.specs.InternalNodes.{node_of, nodes_of}
use Rattle.fb_regions.specs.InternalPlaces.{IsIndex, place_in}
use Rattle.fb_regions.proofs.ByName.{first_placed}
use Rattle.fb_regions.proofs.ClockReadings.{among_at_time, placed_at, read_at_time}
use Rattle.fb_regions.proofs.Found.{IsFound, always_found, among_at, found, read_place}
use Rattle.fb_regions.proofs.Readings.{radius_fits}
use Rattle.fb_regions.proofs.Turned.{top-le}

-- a live node has a place
pub always_placed : (clock : ℕ) (marks : List (Option Mark)) (rs : List Region) (places seen : List (Option ℕ)) (name : ℕ)
    → is_live (nodes_of marks (all_at clock rs)) name ≡ true → IsIndex rs places → seen ≡ places → None ≡ place_in seen name → ⊥
always_placed clock marks rs places seen name live index e h =
    always_found marks (all_at clock rs) name live (placed_at clock rs name ∙ read_place rs places seen name None index e h)

pub found_at : (clock : ℕ) (marks : List (Option Mark)) (rs : List Region) (places seen : List (Option ℕ)) (name i : ℕ) (r : Region)
    → IsIndex rs places → seen ≡ places → Some i ≡ place_in seen name → r ≡ get_or rs i r → IsFound marks (all_at clock rs) name i (now_at clock r)
found_at clock marks rs places seen name i r index e h is =
    let at = read_place rs places seen name (Some i) index e h in
    found marks (all_at clock rs) name i (now_at clock r) (placed_at clock rs name ∙ at) (read_at_time clock rs i r (first_placed rs name i at).0 is)

pub read_found_at : (clock : ℕ) (rs : List Region) (places seen : List (Option ℕ)) (name i : ℕ) (r : Region) → IsIndex rs places → seen ≡ places
    → Some i ≡ place_in seen name → r ≡ get_or rs i r → now_at clock r ≡ get_or (all_at clock rs) i (now_at clock r)
read_found_at clock rs places seen name i r index e h is =
    read_at_time clock rs i r (first_placed rs name i (read_place rs places seen name (Some i) index e h)).0 is

-- the region itself
pub among_placed : (marks : List (Option Mark)) (rs : List Region) (places seen : List (Option ℕ)) (name i : ℕ) (r : Region)
    → IsIndex rs places → seen ≡ places → Some i ≡ place_in seen name → r ≡ get_or rs i r → IsAmong r rs
among_placed marks rs places seen name i r index e h is =
    among_at marks rs i r (first_placed rs name i (read_place rs places seen name (Some i) index e h)).0 is

pub begun_among : (clock : ℕ) (rs : List Region) (r : Region) → HaveBegun clock rs → IsAmong r rs → HasBegun clock r
begun_among clock rs r begun a = All_among (HasBegun clock) rs begun r a

-- the values of a node at a time
pub record Fits (r : Region) : Type 0 where
  pub top : r.top_value < 2 ^ 64
  pub radius : r.radius < 2 ^ 64

-- a node's radius at a time is the sum of its layers' values then
pub radius_at_time : (p : Problem) (clock : ℕ) (rs : List Region) (marks : List (Option Mark)) → IsKept p (all_at clock rs) marks
    → (r : Region) → IsAmong r rs → (now_at clock r).radius ≡ total_value (layers_of (node_of marks (now_at clock r)))
radius_at_time p clock rs marks kept r a =
    All_among (λ s. s.radius ≡ total_value (layers_of (node_of marks s))) (all_at clock rs) kept.radii (now_at clock r) (among_at_time clock rs r a)

pub fits_at : (p : Problem) (clock : ℕ) (rs : List Region) (marks : List (Option Mark)) → IsKept p (all_at clock rs) marks
    → (r : Region) → IsAmong r rs → Fits (now_at clock r)
fits_at p clock rs marks kept r a =
    let bound : (now_at clock r).radius ≤ 2 ^ 52 = radius_fits p (all_at clock rs) marks kept (now_at clock r) (among_at_time clock rs r a) in
    record {
      top = omega (arith, bound, radius_at_time p clock rs marks kept r a, top-le (node_of marks (now_at clock r)));
      radius = omega (arith, bound);
    }
