-- The lists of nodes, and with which vertex they begin, as nodes and marks change.
use Rattle.std.proofs.Common.{ℕ, ◌≡◌, ◌==◌, Bool, true, false, List, [], ◌∷◌, set, Option, inl, inr, sym, ap, ◌∙◌, subst, refl, map, if◌then◌else◌}
use Rattle.std.proofs.lemmas.Bool.{both_ways}
use Rattle.std.proofs.lemmas.List.Elements.{All-set}
use Rattle.fb_graph.specs.Parity.{is_in}
use Rattle.fb_graph.specs.Dual.{Node, top_at}
use Rattle.fb_graph.proofs.Among.{IsAmong, All_among, among_All, map_among}
use Rattle.fb_regions.specs.declared.marks.Mark.{Mark}
use Rattle.fb_regions.specs.declared.region.Region.{Region}
use Rattle.fb_regions.specs.InternalListings.{AreListed, BeginAlike, BeginsFirst, IsListed}
use Rattle.fb_regions.specs.InternalNodes.{before_in, node_of}
use Rattle.fb_regions.specs.Moves.{BeginsWith}
use Rattle.fb_regions.proofs.Listings.{listed_still}
use Rattle.fb_regions.proofs.Marking.{AreWithout, mark_other}

-- lists stay where the mark of a vertex outside them changes
pub lists_still : (marks : List (Option Mark)) (regions : List Region) (w : ℕ) (o : Option Mark) → AreWithout marks regions w
    → AreListed marks regions → AreListed (set marks w o) regions
lists_still marks regions w o out listed =
    among_All (IsListed (set marks w o)) regions
    (λ r a.
    listed_still marks (set marks w o) r (All_among (IsListed marks) regions listed r a)
    (λ u h.
    ap before_in
    (mark_other marks w u o
    (λ e.
    both_ways (is_in (node_of marks r).top.vertices w) (out (node_of marks r) (map_among (node_of marks) regions r a))
    (ap (is_in (node_of marks r).top.vertices) (sym e) ∙ h)))))

-- what is said of the set of a node stays where it stays for each node
pub top_changed : (P : List ℕ → Type 0) (f : Node → Node) (nodes : List Node) (x : ℕ) → ((n : Node) → (f n).name ≡ n.name)
    → ((n : Node) → IsAmong n nodes → P n.top.vertices → P (f n).top.vertices) → P (top_at nodes x) → P (top_at (map f nodes) x)
top_changed P f [] x names each h = h
top_changed P f (n ∷ ns) x names each h =
    subst (λ y. P (if y == x then (f n).top.vertices else top_at (map f ns) x)) (sym (names n))
    (by (n.name == x) h (each n (inl refl)) (top_changed P f ns x names (λ m a. each m (inr a))))
  where
    by : (b : Bool) → P (if b then n.top.vertices else top_at ns x) → (P n.top.vertices → P (f n).top.vertices)
        → (P (top_at ns x) → P (top_at (map f ns) x)) → P (if b then (f n).top.vertices else top_at (map f ns) x)
    by true k own rest = own k
    by false k own rest = rest k

-- each node begins with the vertex with which it began
abbrev pub StayBegun : List Node → List Node → Type 0
StayBegun nodes others = (v c : ℕ) → BeginsWith v (top_at nodes c) → BeginsWith v (top_at others c)

first_begun : (nodes others : List Node) (v : ℕ) (cs : List ℕ) → StayBegun nodes others → BeginsFirst nodes v cs → BeginsFirst others v cs
first_begun nodes others v [] still h = tt
first_begun nodes others v (c ∷ cs) still h = still v c h

pub all_begun : (nodes others : List Node) (regions : List Region) → StayBegun nodes others → BeginAlike nodes regions → BeginAlike others regions
all_begun nodes others regions still begins =
    among_All (λ r. BeginsFirst others r.first r.children.items) regions
    (λ r a.
    first_begun nodes others r.first r.children.items still
    (All_among (λ s. BeginsFirst nodes s.first s.children.items) regions begins r a))

-- so it is where one node is told otherwise, but for its first vertex and the nodes that it joins
pub set_begun : (nodes others : List Node) (regions : List Region) (i : ℕ) (old new : Region) → StayBegun nodes others → IsAmong old regions
    → new.first ≡ old.first → new.children.items ≡ old.children.items → BeginAlike nodes regions → BeginAlike others (set regions i new)
set_begun nodes others regions i old new still among first children begins =
    All-set (λ r. BeginsFirst others r.first r.children.items) regions i new
    (rw (first, children)
    (first_begun nodes others old.first old.children.items still
    (All_among (λ s. BeginsFirst nodes s.first s.children.items) regions begins old among)))
    (all_begun nodes others regions still begins)
