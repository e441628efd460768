-- The regions and marks of two dual states as those of one.
use Rattle.std.specs.Prelude.{ℕ, ◌≡◌, ◌==◌, List, length, map, option_map, Option, Some, None, if◌then◌else◌}
use Rattle.std.specs.Vec.{with_items}
use Rattle.fb_graph.specs.Parity.{is_in}
use Rattle.fb_regions.specs.declared.heads.Beside.{Beside}
use Rattle.fb_regions.specs.declared.heads.Link.{Link}
use Rattle.fb_regions.specs.declared.marks.Mark.{Mark}
use Rattle.fb_regions.specs.declared.region.Region.{Region}
use Rattle.fb_regions.specs.InternalNodes.{mark_of}
use Rattle.fb_regions.specs.InternalPlaces.{place_in}

-- the link with the new names of the nodes
abbrev pub renamed_beside : (ℕ → ℕ) → Option Beside → Option Beside
renamed_beside f o = option_map (λ (b : Beside). record b { leaf = f b.leaf }) o

abbrev pub renamed_link : (ℕ → ℕ) → Link → Link
renamed_link f link = record { top = f link.top; beside = renamed_beside f link.beside }

-- the region under its new name, with the new names of its children, of the node round it, of its head and of those to
-- which it leads, as one whose pace began at 0
abbrev pub renamed_region : (ℕ → ℕ) → Region → Region
renamed_region f r =
    record r {
      name = f r.name;
      children = with_items r.children (map f r.children.items);
      parent = option_map f r.parent;
      head = f r.head;
      link = renamed_link f r.link;
      since = 0;
    }

abbrev pub renamed_regions : (ℕ → ℕ) → List Region → List Region
renamed_regions f regions = map (renamed_region f) regions

-- the mark with the new name of its defect's node
abbrev pub renamed_mark : (ℕ → ℕ) → Mark → Mark
renamed_mark f m = record m { leaf = f m.leaf }

-- the renamed mark in place of another, if there is one
abbrev pub mark_over : (ℕ → ℕ) → Option Mark → Option Mark → Option Mark
mark_over f None old = old
mark_over f (Some m) old = Some (renamed_mark f m)

-- each vertex has its mark of the right table, renamed, if it has one there, and else its mark of the left table
pub record AreMarksOver (f : ℕ → ℕ) (left right both : List (Option Mark)) : Type 0 where
  pub count : length both ≡ length left
  pub marks : (v : ℕ) → mark_of both v ≡ mark_over f (mark_of right v) (mark_of left v)

-- so it is for the vertices of the set; all others have their marks of the left table
pub record AreMarksOverIn (set : List ℕ) (f : ℕ → ℕ) (left right both : List (Option Mark)) : Type 0 where
  pub count : length both ≡ length left
  pub marks : (v : ℕ) → mark_of both v
      ≡ (if is_in set v then mark_over f (mark_of right v) (mark_of left v) else mark_of left v)

-- the index has a further entry
abbrev pub IsEntered : List (Option ℕ) → List (Option ℕ) → ℕ → ℕ → Type 0
IsEntered old new name place = (k : ℕ) → place_in new k ≡ (if name == k then Some place else place_in old k)
