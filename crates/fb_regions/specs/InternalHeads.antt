-- How the outer node round a leaf is found: each node has a head, one of the leaves under it, and a leaf leads on from the
-- outermost node whose head it is.
use Rattle.std.specs.Prelude.{ℕ, ◌≡◌, ◌+◌, ◌-◌, ◌%◌, ◌^◌, ◌<◌, ◌==◌, ◌⊎◌, Bool, true, false, List, [], ◌∷◌, map, Option, Some, None, option_map, if◌then◌else◌}
use Rattle.fb_graph.specs.Dual.{is_empty}
use Rattle.fb_graph.specs.Parity.{is_in}
use Rattle.fb_regions.specs.declared.heads.Joint.{Joint}
use Rattle.fb_regions.specs.declared.heads.Link.{Link}
use Rattle.fb_regions.specs.declared.region.Region.{Region}
use Rattle.fb_regions.specs.InternalClock.{HasBegun, now_at}
use Rattle.fb_regions.specs.InternalListings.{region_named}
use Rattle.fb_regions.specs.InternalNodes.{reparented_region}

-- the sum of the radii that hold the node's head, up to the node's own, at 64 bits
abbrev pub depth_of : Region → ℕ
depth_of r = (r.inside + r.radius) % 2 ^ 64

-- where a leaf leads
abbrev pub link_in : Option Region → Option Link
link_in None = None
link_in (Some r) = Some r.link

-- the node joins no others
abbrev pub is_leaf_in : Option Region → Bool
is_leaf_in None = false
is_leaf_in (Some r) = is_empty r.children.items

-- the node that joins this one has the same head
pub record SharesHead (r parent : Region) : Type 0 where
  pub head : parent.head ≡ r.head
  pub inside : parent.inside ≡ depth_of r

-- the head of this node leads to that of the node that joins it
pub record LeadsBeside (link : Option Link) (name : ℕ) (r parent : Region) : Type 0 where
  pub shift : ℕ
  pub link_is : link ≡ Some (record { top = name; beside = Some (record { leaf = parent.head; shift = shift }) })
  pub sums : depth_of r ≡ (parent.inside + shift) % 2 ^ 64

abbrev pub LeadsUp : (ℕ → Option Region) → ℕ → Region → Option ℕ → Type 0
LeadsUp at name r None = link_in (at r.head) ≡ Some (record { top = name; beside = None })
LeadsUp at name r (Some q) = (parent : Region) × (at q ≡ Some parent) × (SharesHead r parent ⊎ LeadsBeside (link_in (at r.head)) name r parent)

-- the nodes by their names: heads are leaves, a leaf is its own head, no two children of a node have one head, and heads
-- lead to the outer nodes
pub record HaveHeads (at : ℕ → Option Region) : Type 0 where
  pub heads : (x : ℕ) (r : Region) → at x ≡ Some r → is_leaf_in (at r.head) ≡ true
  pub leaves : (x : ℕ) (r : Region) → at x ≡ Some r → is_empty r.children.items ≡ true → (r.head ≡ x) × (r.inside ≡ 0)
  pub apart : (x c d : ℕ) (r s t : Region) → at x ≡ Some r → is_in r.children.items c ≡ true → is_in r.children.items d ≡ true
      → at c ≡ Some s → at d ≡ Some t → s.head ≡ t.head → c ≡ d
  pub leads : (x : ℕ) (r : Region) → at x ≡ Some r → LeadsUp at x r r.parent

-- the node's radius at the time is known, and fits 64 bits
pub record IsInTime (clock : ℕ) (r : Region) : Type 0 where
  pub begun : HasBegun clock r
  pub fits : (now_at clock r).radius < 2 ^ 64

-- the node of this name that joins these has the head of one of them
pub record IsJointOf (at : ℕ → Option Region) (clock name : ℕ) (children : List ℕ) (j : Joint) : Type 0 where
  pub core : ℕ
  pub region : Region
  pub child : is_in children core ≡ true
  pub there : at core ≡ Some region
  pub name_is : j.name ≡ name
  pub head : j.head ≡ region.head
  pub inside : j.inside ≡ depth_of (now_at clock region)

-- where the head of a node leads that is joined there at this time, or that is outer
abbrev pub link_under : ℕ → Option Joint → Region → Link
link_under clock None r = record { top = r.name; beside = None }
link_under clock (Some j) r =
    if r.head == j.head then record { top = j.name; beside = None }
    else record {
      top = r.name;
      beside = Some (record { leaf = j.head; shift = (depth_of (now_at clock r) + (2 ^ 64 - j.inside)) % 2 ^ 64 });
    }

-- the leaf of this name with another link
abbrev pub relinked_region : ℕ → Link → Region → Region
relinked_region leaf link r = if r.name == leaf then record r { link = link } else r

-- the head of a node, if there is one, with another link
abbrev pub relinked_one : (Region → Link) → List Region → Option Region → List Region
relinked_one link regions None = regions
relinked_one link regions (Some r) = map (relinked_region r.head (link r)) regions

-- the heads of the named nodes with other links, one after another
abbrev pub relinked_all : (Region → Link) → List ℕ → List Region → List Region
relinked_all link [] regions = regions
relinked_all link (c ∷ cs) regions = relinked_all link cs (relinked_one link regions (region_named regions c))

-- the named nodes joined there at this time, or outer
abbrev pub rejoined_regions : ℕ → Option Joint → List ℕ → List Region → List Region
rejoined_regions clock joint names regions =
    relinked_all (link_under clock joint) names (map (reparented_region names (option_map (λ j. j.name) joint)) regions)
