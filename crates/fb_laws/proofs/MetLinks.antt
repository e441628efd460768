-- Links made of source walks and a tight edge, turned round, and joined.
use Rattle.std.proofs.Common.{ℕ, ◌≡◌, ◌≢◌, inl, inr, true, false, List, [], ◌∷◌, ◌++◌, reverse, All, Option, None, Some, refl, sym, ap, ◌∙◌, subst}
use Rattle.std.specs.Option.{IsSome}
use Rattle.std.proofs.lemmas.Bool.{both_ways, or_left, or_right}
use Rattle.std.proofs.lemmas.List.{reverse-append}
use Rattle.std.proofs.lemmas.List.Elements.{All-nil, All-cons, All-head, All-tail, All-append, All-push, All-weaker}
use Rattle.fb_graph.specs.Parity.{is_in}
use Rattle.fb_graph.specs.Problem.{Problem, edge_at}
use Rattle.fb_graph.specs.Components.{Leads}
use Rattle.fb_graph.specs.Laws.{Link, has_real_end}
use Rattle.fb_graph.specs.Dual.{Node, IsDual, all_cuts, cover_of, height_of, leaves}
use Rattle.fb_graph.specs.declared.parts.Edge.{Edge}
use Rattle.fb_laws.specs.Fusion.{IsLinkOf}
use Rattle.fb_graph.specs.Links.{ArePartedBy, IsTightLink, pair}
use Rattle.fb_laws.specs.MetLinks.{SourceUnder, LinkMet, LinkToBoundary, LinkTurned, LinksJoined, met_link, boundary_link, turned_link, joined_link}
use Rattle.fb_laws.specs.Searches.{LeavesNode}
use Rattle.fb_graph.specs.SourceWalks.{IsEdgeUnder}
use Rattle.fb_laws.specs.Trees.{Connects}
use Rattle.fb_laws.specs.Works.{AreMatchedLinks}
use Rattle.fb_laws.specs.Opening.{EndsAtDefects}
use Rattle.fb_graph.proofs.SourceWalks.{covered_walk}
use Rattle.fb_graph.proofs.TightLinks.{boundary_tight, joined_tight, meeting_tight, turned_tight}

All-reverse : {X : Type 0} (P : X → Type 0) (xs : List X) → All P xs → All P (reverse xs)
All-reverse P [] h = All-nil P
All-reverse P (x ∷ xs) h =
    subst (All P) (sym (reverse-append (x ∷ []) xs))
    (All-push P (reverse xs) x (All-reverse P xs (All-tail P x xs h)) (All-head P x xs h))

-- a covered vertex is real
pub covered_real : (p : Problem) (nodes : List Node) (v name : ℕ) → IsDual p nodes → cover_of nodes v ≡ Some name → p.is_real v ≡ true
covered_real p nodes v name dual cover = dual.real v (subst IsSome (sym cover) refl)

pub first_real : (p : Problem) (e : Edge) (u v : ℕ) → Leads e u v → p.is_real u ≡ true → has_real_end p e ≡ true
first_real p e u v (inl (from, to)) real = or_left (p.is_real e.first) (p.is_real e.second) (ap p.is_real from ∙ real)
first_real p e u v (inr (from, to)) real = or_right (p.is_real e.first) (p.is_real e.second) (ap p.is_real from ∙ real)

pub not_nil : {X : Type 0} (xs : List X) (y : X) (ys : List X) → (xs ++ y ∷ ys) ≢ []
not_nil [] y ys e = let h : (y ∷ ys) ≡ [] = e in cc
not_nil (x ∷ xs) y ys e = let h : (x ∷ (xs ++ y ∷ ys)) ≡ [] = e in cc

pub source_under : SourceUnder
source_under p nodes name v nest walks cover =
    let (walk, d, leaf, begins, under, source) = covered_walk p nodes v name nest walks cover in (
      walk,
      d,
      record {
        defect = leaf;
        begins = begins;
        ends = cover;
        real = All-weaker (λ k. IsEdgeUnder nodes name (edge_at p.edges k)) (λ k. has_real_end p (edge_at p.edges k) ≡ true)
            (λ k both.
            or_left (p.is_real (edge_at p.edges k).first) (p.is_real (edge_at p.edges k).second)
            (covered_real p nodes (edge_at p.edges k).first name nest.dual both.0))
            walk under;
        source = source;
      },
    )

-- no set holds two vertices under different outer nodes
parted : (p : Problem) (nodes : List Node) (u v a b : ℕ) → IsDual p nodes → (a ≡ b → ⊥) → cover_of nodes u ≡ Some a
    → cover_of nodes v ≡ Some b → ArePartedBy (all_cuts nodes) u v
parted p nodes u v a b dual other at_u at_v =
    dual.loads (pair u v)
    (λ under.
    let same : Some a ≡ Some b = sym at_u ∙ (under.1 ∙ (sym under.2 ∙ at_v)) in
    let is : a ≡ b = cc in
    other is)

one_link : (p : Problem) (nodes : List Node) (l : Link) → IsTightLink p (all_cuts nodes) l → IsLinkOf p l
    → (p.is_real l.from ≡ true → is_in (leaves nodes) l.from ≡ true)
    → (p.is_real l.to ≡ true → is_in (leaves nodes) l.to ≡ true) → AreMatchedLinks p nodes (l ∷ [])
one_link p nodes l tight own from to = record {
  tight = All-cons (IsTightLink p (all_cuts nodes)) l [] tight (All-nil (IsTightLink p (all_cuts nodes)));
  own = All-cons (IsLinkOf p) l [] own (All-nil (IsLinkOf p));
  at_defects = All-cons
      (EndsAtDefects p (leaves nodes))
      l [] (from, to)
      (All-nil (EndsAtDefects p (leaves nodes)));
}

pub link_met : LinkMet
link_met p nodes a b walk back k d u v c dual other source target edge =
    let tight = meeting_tight p (all_cuts nodes) walk back k d u v c source.source target.source edge.within edge.leads edge.tight
    (parted p nodes u v a b dual other source.ends target.ends) (parted p nodes d c a b dual other source.begins target.begins) in (
      one_link p nodes (met_link d walk k back c) tight
          (record {
            walk = tight.walk;
            moves = not_nil walk k (reverse back);
            real = All-append real walk (k ∷ reverse back) source.real
                (All-cons real k (reverse back)
                (first_real p (edge_at p.edges k) u v edge.leads (covered_real p nodes u a dual source.ends))
                (All-reverse real back target.real));
          })
          (λ r. source.defect) (λ r. target.defect),
      inl (source.begins, target.begins),
    )
  where
    real : ℕ → Type 0
    real j = has_real_end p (edge_at p.edges j) ≡ true

-- no node holds a boundary vertex, and no set does
pub uncovered_real : (p : Problem) (nodes : List Node) (v : ℕ) → IsDual p nodes → p.is_real v ≡ false → cover_of nodes v ≡ None
uncovered_real p nodes v dual unreal = step (cover_of nodes v) refl
  where
    step : (o : Option ℕ) → cover_of nodes v ≡ o → o ≡ None
    step None e = refl
    step (Some name) e = absurd (both_ways (p.is_real v) unreal (covered_real p nodes v name dual e))

no_height : (p : Problem) (nodes : List Node) (v : ℕ) → IsDual p nodes → p.is_real v ≡ false → height_of (all_cuts nodes) v ≡ 0
no_height p nodes v dual unreal = dual.uncovered v (uncovered_real p nodes v dual unreal)

pub link_to_boundary : LinkToBoundary
link_to_boundary p nodes a walk k d u v dual unreal source edge =
    let tight = boundary_tight p (all_cuts nodes) walk k d u v source.source edge.within edge.leads edge.tight
    (no_height p nodes v dual unreal) in (
      one_link p nodes (boundary_link d walk k v) tight
          (record {
            walk = tight.walk;
            moves = not_nil walk k [];
            real = All-push (λ j. has_real_end p (edge_at p.edges j) ≡ true) walk k source.real
                (first_real p (edge_at p.edges k) u v edge.leads (covered_real p nodes u a dual source.ends));
          })
          (λ r. source.defect) (λ r. absurd (both_ways (p.is_real v) unreal r)),
      inl (source.begins, refl),
    )

not_nil-reverse : {X : Type 0} (xs : List X) → xs ≢ [] → reverse xs ≢ []
not_nil-reverse [] some e = some refl
not_nil-reverse (x ∷ xs) some e = not_nil (reverse xs) x [] (sym (reverse-append (x ∷ []) xs) ∙ e)

pub link_turned : LinkTurned
link_turned p nodes l are = (
  one_link p nodes (turned_link l)
      (turned_tight p (all_cuts nodes) l (All-head (IsTightLink p (all_cuts nodes)) l [] are.tight))
      (record {
        walk = (turned_tight p (all_cuts nodes) l (All-head (IsTightLink p (all_cuts nodes)) l [] are.tight)).walk;
        moves = not_nil-reverse l.walk own.moves;
        real = All-reverse (λ k. has_real_end p (edge_at p.edges k) ≡ true) l.walk own.real;
      })
      ends.1 ends.0,
  λ a b. connects a b,
  λ a v. leaves_node a v,
)
  where
    own : IsLinkOf p l
    own = All-head (IsLinkOf p) l [] are.own

    ends : EndsAtDefects p (leaves nodes) l
    ends = All-head
        (EndsAtDefects p (leaves nodes))
        l [] are.at_defects

    connects : (a b : ℕ) → Connects nodes l a b → Connects nodes (turned_link l) a b
    connects a b (inl h) = inr h
    connects a b (inr h) = inl h

    leaves_node : (a v : ℕ) → LeavesNode nodes l a v → LeavesNode nodes (turned_link l) a v
    leaves_node a v (inl h) = inr h
    leaves_node a v (inr h) = inl h

pub links_joined : LinksJoined
links_joined p nodes l m a b dual other are meet low at_from at_to = (
  one_link p nodes (joined_link l m) tight
      (record {
        walk = tight.walk;
        moves = not_nil-append l.walk m.walk own_l.moves;
        real = All-append (λ k. has_real_end p (edge_at p.edges k) ≡ true) l.walk m.walk own_l.real own_m.real;
      })
      ends_l.0 ends_m.1,
  inl (at_from, at_to),
)
  where
    second : (P : Link → Type 0) → All P (l ∷ m ∷ []) → P m
    second P h = All-head P m [] (All-tail P l (m ∷ []) h)

    own_l : IsLinkOf p l
    own_l = All-head (IsLinkOf p) l (m ∷ []) are.own

    own_m : IsLinkOf p m
    own_m = second (IsLinkOf p) are.own

    ends_l : EndsAtDefects p (leaves nodes) l
    ends_l = All-head (EndsAtDefects p (leaves nodes)) l (m ∷ []) are.at_defects

    ends_m : EndsAtDefects p (leaves nodes) m
    ends_m = second (EndsAtDefects p (leaves nodes)) are.at_defects

    tight : IsTightLink p (all_cuts nodes) (joined_link l m)
    tight =
        joined_tight p (all_cuts nodes) l m (All-head (IsTightLink p (all_cuts nodes)) l (m ∷ []) are.tight)
        (second (IsTightLink p (all_cuts nodes)) are.tight) meet low (parted p nodes l.from m.to a b dual other at_from at_to)

    not_nil-append : (xs ys : List ℕ) → xs ≢ [] → (xs ++ ys) ≢ []
    not_nil-append [] ys some e = some refl
    not_nil-append (x ∷ xs) ys some e = let h : (x ∷ (xs ++ ys)) ≡ [] = e in cc
