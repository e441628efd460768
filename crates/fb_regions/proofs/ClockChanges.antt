-- One node written down anew at a time of the clock.
use Rattle.std.proofs.Common.{ℕ, ◌≡◌, ◌<◌, ◌==◌, Bool, List, length, set, get_or, Option, Some, sym, ap, ◌∙◌, subst}
use Rattle.std.specs.List.{position}
use Rattle.fb_graph.specs.Problem.{Problem}
use Rattle.fb_graph.specs.Dual.{Node}
use Rattle.fb_regions.specs.declared.marks.Mark.{Mark}
use Rattle.fb_regions.specs.declared.region.Region.{Region}
use Rattle.fb_regions.specs.declared.roles.Role.{Role}
use Rattle.fb_regions.specs.InternalClock.{HaveBegun, all_at, names_paced, now_at}
use Rattle.fb_regions.specs.InternalHeads.{HaveHeads}
use Rattle.fb_regions.specs.InternalKept.{IsKept}
use Rattle.fb_regions.specs.InternalListings.{region_named}
use Rattle.fb_regions.specs.InternalNodes.{nodes_of}
use Rattle.fb_regions.specs.InternalPlaces.{IsIndex, place_in}
use Rattle.fb_regions.specs.Paces.{Paced, grows, shrinks}
use Rattle.fb_regions.proofs.ByName.{first_placed}
use Rattle.fb_regions.proofs.ClockFound.{Fits, among_placed, fits_at}
use Rattle.fb_regions.proofs.ClockLists.{paced_same}
use Rattle.fb_regions.proofs.ClockMoves.{all_settled, begun_settled, paced_set}
use Rattle.fb_regions.proofs.ClockReadings.{index_at, read_at_time}
use Rattle.fb_regions.proofs.Found.{read_place}
use Rattle.fb_regions.proofs.HeadLists.{heads_set}
use Rattle.fb_regions.proofs.HeadMoves.{IsAlike}
use Rattle.fb_regions.proofs.Indexed.{index_changed}

-- the region at the place of a name, written down at this time
pub record IsSettled (clock : ℕ) (regions : List Region) (places : List (Option ℕ)) (name i : ℕ) (old new : Region) : Type 0 where
  pub at : position (λ r. r.name == name) (all_at clock regions) ≡ Some i
  pub is_old : now_at clock old ≡ get_or (all_at clock regions) i (now_at clock old)
  pub regions_are : all_at clock (set regions i new) ≡ set (all_at clock regions) i (record new { since = 0 })
  pub index : IsIndex (set regions i new) places
  pub begun : HaveBegun clock (set regions i new)
  pub paced : (test : Role → Bool) → names_paced test (set regions i new) ≡ names_paced test regions

pub read_place_at : (clock : ℕ) (regions : List Region) (places seen : List (Option ℕ)) (name : ℕ) (o : Option ℕ) → IsIndex regions places
    → seen ≡ places → o ≡ place_in seen name → position (λ r. r.name == name) (all_at clock regions) ≡ o
read_place_at clock regions places seen name o index e h = read_place (all_at clock regions) places seen name o (index_at clock regions places index) e h

pub settled : (clock : ℕ) (regions : List Region) (places seen : List (Option ℕ)) (name i : ℕ) (old new : Region) → IsIndex regions places
    → HaveBegun clock regions → seen ≡ places → Some i ≡ place_in seen name → old ≡ get_or regions i old → new.name ≡ old.name
    → new.pace ≡ old.pace → new.since ≡ clock → IsSettled clock regions places name i old new
settled clock regions places seen name i old new index begun e h at named paced since =
    let less : i < length regions = (first_placed regions name i (read_place regions places seen name (Some i) index e h)).0 in
    record {
      at = read_place_at clock regions places seen name (Some i) index e h;
      is_old = read_at_time clock regions i old less at;
      regions_are = all_settled clock regions i new since;
      index = index_changed regions places seen name i old new index e h at named;
      begun = begun_settled clock regions i new since begun;
      paced = λ test. paced_set test regions i old new at named paced;
    }

-- the values of a region that is found fit
pub small_at : (p : Problem) (clock : ℕ) (regions : List Region) (places seen : List (Option ℕ)) (marks : List (Option Mark)) (name i : ℕ) (old : Region)
    → IsKept p (all_at clock regions) marks → IsIndex regions places → seen ≡ places → Some i ≡ place_in seen name → old ≡ get_or regions i old
    → Fits (now_at clock old)
small_at p clock regions places seen marks name i old kept index e h at =
    fits_at p clock regions marks kept old (among_placed marks regions places seen name i old index e h at)

-- what the call that has written a region down leaves
module _ (clock : ℕ) (regions : List Region) (places : List (Option ℕ)) (name i : ℕ) (old new : Region)
    (is : IsSettled clock regions places name i old new) (marks : List (Option Mark)) where
  pub kept_settled : (p : Problem) → IsKept p (set (all_at clock regions) i (record new { since = 0 })) marks → HaveHeads (region_named (all_at clock regions))
      → IsAlike (now_at clock old) (record new { since = 0 }) → new.name ≡ old.name
      → IsKept p (all_at clock (set regions i new)) marks × IsIndex (set regions i new) places × HaveBegun clock (set regions i new)
      × HaveHeads (region_named (all_at clock (set regions i new)))
  kept_settled p kept have alike named = (
    subst (λ l. IsKept p l marks) (sym is.regions_are) kept,
    is.index,
    is.begun,
    subst (λ l. HaveHeads (region_named l)) (sym is.regions_are)
        (heads_set (all_at clock regions) i (now_at clock old) (record new { since = 0 }) is.is_old named alike have),
  )

  pub view_settled : {S : Type 0} (scope : S) (nodes : List Node) → nodes_of marks (set (all_at clock regions) i (record new { since = 0 })) ≡ nodes
      → ◌≡◌ {A = Paced S}
      (record {
        scope = scope;
        nodes = nodes_of marks (all_at clock (set regions i new));
        plus = names_paced grows (set regions i new);
        minus = names_paced shrinks (set regions i new);
      })
      (record { scope = scope; nodes = nodes; plus = names_paced grows regions; minus = names_paced shrinks regions })
  view_settled scope nodes e =
      paced_same scope (nodes_of marks (all_at clock (set regions i new))) nodes (names_paced grows (set regions i new)) (names_paced grows regions)
      (names_paced shrinks (set regions i new)) (names_paced shrinks regions) (ap (nodes_of marks) is.regions_are ∙ e) (is.paced grows) (is.paced shrinks)
