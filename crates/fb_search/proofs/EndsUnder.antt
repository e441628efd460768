-- Which end of a tight link lies in an outer node: the one that is a defect there.
use Rattle.std.proofs.Common.{ℕ, ◌≡◌, ◌≢◌, inl, inr, true, false, Some, refl}
use Rattle.std.proofs.lemmas.Bool.{false_from_ne_true}
use Rattle.fb_graph.specs.Parity.{is_in}
use Rattle.fb_graph.specs.Dual.{cover_of}
use Rattle.fb_blossoms.specs.Nodes.{IsNested, defects_at}
use Rattle.fb_laws.specs.Trees.{Connects}
use Rattle.fb_laws.proofs.HeldDefects.{covered_is_held}
use Rattle.fb_half.specs.Parts.{PartValue, problem_in}
use Rattle.fb_half.specs.Translations.{link_by}
use Rattle.fb_search.specs.InternalOpenings.{MayEnter}
use Rattle.fb_search.proofs.Agreed.{outer_in_store}
use Rattle.fb_search.proofs.EnteredChildren.{are_held, end_held, end_is_leaf}

module _ (w : PartValue) (name other link : ℕ) (may : MayEnter w name other link) (nested : IsNested w.store) where
  abbrev from : ℕ
  from = (link_by w.links link).from

  -- the first end is a defect in the node that covers it
  pub covered_held : cover_of w.nodes from ≡ Some name → is_in (defects_at w.store name) from ≡ true
  covered_held cover = end_held w name other link from may nested (record { cover = cover; end = inl refl })

  -- and in no other outer node
  pub uncovered_apart : cover_of w.nodes from ≢ Some name → is_in (defects_at w.store name) from ≡ false
  uncovered_apart out = false_from_ne_true (is_in (defects_at w.store name) from) (by may.connects)
    where
      by : Connects w.nodes (link_by w.links link) other name → is_in (defects_at w.store name) from ≡ true → ⊥
      by (inl (first, second)) holds =
          let there =
          covered_is_held (problem_in w) w.nodes (defects_at w.store) other from may.nest
          (are_held w.nodes w.store may.agreed nested)
          (end_is_leaf (problem_in w) w.nodes (link_by w.links link) from other may.nest may.tight (inl refl) first) first in
          may.apart
          (nested.outer other name from (outer_in_store w.nodes w.store other may.agreed there.1)
          (outer_in_store w.nodes w.store name may.agreed may.may_split.outer) there.2 holds)
      by (inr (first, second)) holds = out second
