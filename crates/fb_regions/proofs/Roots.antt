-- The outer node round a node, and the radii up to it.
use Rattle.std.proofs.Common.{ℕ, ◌≡◌, ◌==◌, inl, inr, Bool, true, false, List, [], ◌∷◌, Option, Some, None, refl, sym, ap, ◌∙◌, if◌then◌else◌}
use Rattle.std.proofs.lemmas.Bool.{both_ways, false≢true, eq-eqb, eqb-true}
use Rattle.fb_graph.specs.Parity.{is_in}
use Rattle.fb_graph.specs.Problem.{Problem}
use Rattle.fb_graph.specs.Dual.{cover_of, is_outer, top_at}
use Rattle.fb_graph.specs.Nests.{IsNest}
use Rattle.fb_graph.proofs.Among.{IsAmong, covered_by, map_among, outer_among}
use Rattle.fb_graph.proofs.Forests.{child_within}
use Rattle.fb_graph.proofs.NestParts.{grove_of}
use Rattle.fb_regions.specs.declared.marks.Mark.{Mark}
use Rattle.fb_regions.specs.declared.region.Region.{Region}
use Rattle.fb_regions.specs.InternalNodes.{children_from, node_of, nodes_of, root_from}
use Rattle.fb_regions.proofs.Climbs.{root_past}
use Rattle.fb_regions.specs.InternalKept.{HasParent, HaveParents}

-- the region that joins a node
pub record IsJoiner (marks : List (Option Mark)) (regions : List Region) (name child : ℕ) : Type 0 where
  pub region : Region
  pub among : IsAmong region regions
  pub named : region.name ≡ name
  pub joins : is_in region.children.items child ≡ true
  pub top : top_at (nodes_of marks regions) name ≡ (node_of marks region).top.vertices

pub joiner : (marks : List (Option Mark)) (regions : List Region) (name child : ℕ) → is_in (children_from regions name) child ≡ true
    → IsJoiner marks regions name child
joiner marks [] name child h = absurd (false≢true h)
joiner marks (r ∷ rs) name child h = by (r.name == name) refl h (joiner marks rs name child)
  where
    by : (b : Bool) → (r.name == name) ≡ b → is_in (if b then r.children.items else children_from rs name) child ≡ true
        → (is_in (children_from rs name) child ≡ true → IsJoiner marks rs name child) → IsJoiner marks (r ∷ rs) name child
    by true e k rest = record {
      region = r;
      among = inl refl;
      named = eqb-true r.name name e;
      joins = k;
      top = ap (λ b. if b then (node_of marks r).top.vertices else top_at (nodes_of marks rs) name) e;
    }
    by false e k rest =
        let is = rest k in
        record {
          region = is.region;
          among = inr is.among;
          named = is.named;
          joins = is.joins;
          top = ap (λ b. if b then (node_of marks r).top.vertices else top_at (nodes_of marks rs) name) e ∙ is.top;
        }

root_step : (r : Region) (rs : List Region) (name : ℕ) (o : Option ℕ) → r.name ≡ name → r.parent ≡ o
    → root_from (r ∷ rs) name ≡ elim o as (λ x. Option ℕ) [ None ↦ Some name | Some q ↦ root_from rs q ]
root_step r rs name o e f =
    ap (λ b. if b then elim r.parent as (λ x. Option ℕ) [ None ↦ Some name | Some q ↦ root_from rs q ] else root_from rs name) (eq-eqb r.name name e)
    ∙ ap (λ x. elim x as (λ y. Option ℕ) [ None ↦ Some name | Some q ↦ root_from rs q ]) f

-- a vertex of a node is under the outer node round it
module _ (p : Problem) (marks : List (Option Mark)) (all : List Region) (nest : IsNest p (nodes_of marks all)) where
  pub root_covers : (rs : List Region) → ((r : Region) → IsAmong r rs → IsAmong r all) → HaveParents (nodes_of marks all) rs
      → (name d : ℕ) → is_in (top_at (nodes_of marks rs) name) d ≡ true → cover_of (nodes_of marks all) d ≡ root_from rs name
  root_covers [] some parents name d h = absurd (false≢true h)
  root_covers (r ∷ rs) some parents name d h = by (r.name == name) refl h (root_covers rs (λ s a. some s (inr a)) parents.1)
    where
      by : (b : Bool) → (r.name == name) ≡ b → is_in (if b then (node_of marks r).top.vertices else top_at (nodes_of marks rs) name) d ≡ true
          → ((x e : ℕ) → is_in (top_at (nodes_of marks rs) x) e ≡ true → cover_of (nodes_of marks all) e ≡ root_from rs x)
          → cover_of (nodes_of marks all) d ≡ root_from (r ∷ rs) name
      by false e k rest = rest name d k ∙ sym (root_past r rs name e)
      by true e k rest = up r.parent refl parents.0
        where
          here : IsAmong (node_of marks r) (nodes_of marks all)
          here = map_among (node_of marks) all r (some r (inl refl))

          up : (o : Option ℕ) → r.parent ≡ o → HasParent (nodes_of marks all) rs r.name o → cover_of (nodes_of marks all) d ≡ root_from (r ∷ rs) name
          up None f outer =
              covered_by (nodes_of marks all) d nest.dual.apart (node_of marks r) here outer k
              ∙ (ap Some (eqb-true r.name name e) ∙ sym (root_step r rs name None (eqb-true r.name name e) f))
          up (Some q) f child =
              let is = joiner marks rs q r.name child in
              rest q d
              (ap (λ s. is_in s d) is.top
              ∙ child_within (nodes_of marks all) (grove_of p (nodes_of marks all) nest) (node_of marks r) (node_of marks is.region) here
              (map_among (node_of marks) all is.region (some is.region (inr is.among))) is.joins d k)
              ∙ sym (root_step r rs name (Some q) (eqb-true r.name name e) f)

-- an outer node has none round it
pub outer_alone : (marks : List (Option Mark)) (all rs : List Region) → ((r : Region) → IsAmong r rs → IsAmong r all)
    → HaveParents (nodes_of marks all) rs → (r : Region) → IsAmong r rs → is_outer (nodes_of marks all) r.name ≡ true → r.parent ≡ None
outer_alone marks all [] some parents r a outer = absurd a
outer_alone marks all (s ∷ rs) some parents r (inr a) outer = outer_alone marks all rs (λ x b. some x (inr b)) parents.1 r a outer
outer_alone marks all (s ∷ rs) some parents r (inl e) outer =
    ap (λ x. x.parent) (sym e) ∙ by s.parent refl parents.0
  where
    by : (o : Option ℕ) → s.parent ≡ o → HasParent (nodes_of marks all) rs s.name o → s.parent ≡ None
    by None f h = f
    by (Some q) f h =
        let is = joiner marks rs q s.name h in
        absurd (both_ways (is_in is.region.children.items s.name)
        (outer_among (nodes_of marks all) s.name (ap (λ x. is_outer (nodes_of marks all) x.name) e ∙ outer) (node_of marks is.region)
        (map_among (node_of marks) all is.region (some is.region (inr is.among)))) is.joins)
