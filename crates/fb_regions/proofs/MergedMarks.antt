-- Nodes read from marks that say the same of their vertices, under the same names or other ones.
use Rattle.std.proofs.Common.{ℕ, ◌≡◌, ◌+◌, true, List, ◌++◌, map, Option, ap, ◌∙◌, subst, sym}
use Rattle.std.proofs.lemmas.Bool.{or_left, or_right}
use Rattle.fb_graph.specs.Parity.{is_in}
use Rattle.fb_graph.specs.declared.parts.Cut.{Cut}
use Rattle.fb_graph.specs.Dual.{Node}
use Rattle.fb_graph.specs.RenamedNodes.{renamed_node}
use Rattle.fb_graph.proofs.Members.{is_in-append}
use Rattle.fb_regions.specs.declared.marks.Mark.{Mark}
use Rattle.fb_regions.specs.declared.region.Region.{Region}
use Rattle.fb_regions.specs.Moves.{BeginsWith}
use Rattle.fb_regions.specs.InternalListings.{IsListed}
use Rattle.fb_regions.specs.InternalMerged.{renamed_region}
use Rattle.fb_regions.specs.InternalNodes.{added_to, before_of, chain, first_of, node_of, stack, under_of}
use Rattle.fb_regions.proofs.Chains.{chain_same, stack_same}
use Rattle.fb_regions.proofs.RenamedRegions.{children_renamed}

-- both tables say of each vertex of the set what stands before it and below it
pub record AgreeOn (old new : List (Option Mark)) (set : List ℕ) : Type 0 where
  pub before : (v : ℕ) → is_in set v ≡ true → before_of new v ≡ before_of old v
  pub under : (v : ℕ) → is_in set v ≡ true → under_of new v ≡ under_of old v

abbrev node_by : ℕ → List ℕ → List Cut → List ℕ → List ℕ → ℕ → Node
node_by name children below first added value = record {
  name = name;
  children = children;
  below = below;
  top = record { value = value; vertices = first ++ added };
}

module _ (old new : List (Option Mark)) (r : Region) (agree : AgreeOn old new (node_of old r).top.vertices) where
  pub first_kept : first_of new r ≡ first_of old r
  first_kept =
      chain_same old new r.base r.base_last
      (λ v h.
      agree.before v
      (is_in-append (first_of old r) (added_to old r) v ∙ or_left (is_in (first_of old r) v) (is_in (added_to old r) v) h))

  pub added_kept : added_to new r ≡ added_to old r
  added_kept =
      chain_same old new r.added r.last
      (λ v h.
      agree.before v
      (is_in-append (first_of old r) (added_to old r) v ∙ or_right (is_in (first_of old r) v) (is_in (added_to old r) v) h))

  read_kept : (name : ℕ) (children : List ℕ)
      → node_by name children (stack new (first_of new r) (added_to new r)) (first_of new r) (added_to new r) r.top_value
      ≡ node_by name children (stack old (first_of old r) (added_to old r)) (first_of old r) (added_to old r) r.top_value
  read_kept name children =
      ap (λ l. node_by name children (stack new l (added_to new r)) l (added_to new r) r.top_value) first_kept
      ∙ (ap (λ l. node_by name children (stack new (first_of old r) l) (first_of old r) l r.top_value) added_kept
      ∙ ap (λ l. node_by name children l (first_of old r) (added_to old r) r.top_value)
      (stack_same old new (first_of old r) (added_to old r)
      (λ v h.
      agree.under v
      (is_in-append (first_of old r) (added_to old r) v ∙ or_right (is_in (first_of old r) v) (is_in (added_to old r) v) h))))

  pub node_kept : node_of new r ≡ node_of old r
  node_kept = read_kept r.name r.children.items

  pub node_renamed : (f : ℕ → ℕ) → node_of new (renamed_region f r) ≡ renamed_node f (node_of old r)
  node_renamed f =
      ap
      (λ cs.
      node_by (f r.name) cs (stack new (first_of new r) (added_to new r)) (first_of new r) (added_to new r) r.top_value)
      (children_renamed f r)
      ∙ read_kept (f r.name) (map f r.children.items)

  first_still : IsListed old r → BeginsWith r.first (first_of new r)
  first_still is = subst (BeginsWith r.first) (sym first_kept) is.first

  whole_still : IsListed old r → chain new (r.base + r.added) r.last ≡ first_of new r ++ added_to new r
  whole_still is =
      chain_same old new (r.base + r.added) r.last (λ v h. agree.before v (ap (λ l. is_in l v) (sym is.whole) ∙ h))
      ∙ (is.whole ∙ sym (ap (λ l. l ++ added_to new r) first_kept ∙ ap (λ l. first_of old r ++ l) added_kept))

  pub listed_kept : IsListed old r → IsListed new r
  listed_kept is = record { first = first_still is; whole = whole_still is }

  pub listed_renamed : (f : ℕ → ℕ) → IsListed old r → IsListed new (renamed_region f r)
  listed_renamed f is = record { first = first_still is; whole = whole_still is }
