-- How a list of cuts is kept: the vertices of all its cuts in one list, and an entry for each cut.
use Rattle.std.specs.Prelude.{ℕ, ◌≡◌, ◌≤◌, Bool, false, List, All, AllPairs, length, min, max, nat_lt, slice_range}
use Rattle.std.specs.Cmp.Lexicographic.{slice_cmp}
use Rattle.std.specs.Ordering.{nat_cmp, is_lt}
use Rattle.std.specs.declared.cmp.Ordering.{Ordering}
use Rattle.fb_graph.specs.declared.cuts.CutEntry.{CutEntry}
use Rattle.fb_graph.specs.declared.parts.Cut.{Cut}

-- the cut of an entry
abbrev pub cut_in : List ℕ → CutEntry → Cut
cut_in vertices entry = record {
  value = entry.value;
  vertices = slice_range vertices entry.first entry.end;
}

-- some place is in the ranges of both
abbrev pub do_overlap : CutEntry → CutEntry → Bool
do_overlap d e = nat_lt (max d.first e.first) (min d.end e.end)

-- the entry's range is one of a list of this length
pub record IsRange (len : ℕ) (entry : CutEntry) : Type 0 where
  pub ordered : entry.first ≤ entry.end
  pub within : entry.end ≤ len

-- each entry has a range of its own, so that its vertices can be sorted in place
pub record HaveRanges (vertices : List ℕ) (entries : List CutEntry) : Type 0 where
  pub ranges : All (IsRange (length vertices)) entries
  pub apart : AllPairs (λ d e. do_overlap d e ≡ false) entries

-- the order of cuts in a report
abbrev pub cut_cmp : Cut → Cut → Ordering
cut_cmp c d = slice_cmp nat_cmp c.vertices d.vertices

abbrev pub is_cut_below : Cut → Cut → Bool
is_cut_below c d = is_lt (cut_cmp c d)
