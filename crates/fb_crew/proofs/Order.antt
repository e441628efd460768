-- A rising renumbering of slots keeps the order of a history.
use Rattle.std.proofs.Common.{ℕ, ◌≡◌, ◌+◌, ◌*◌, ◌<◌, ◌≤◌, Bool, true, false, if◌then◌else◌, Some, None, List, [], ◌∷◌, map, inl, inr, refl, ap, arith}
use Rattle.std.specs.List.{All}
use Rattle.std.specs.Prelude.{nat_lt}
use Rattle.std.proofs.lemmas.Bool.{and_parts, cases_lt, ltb-true}
use Rattle.std.proofs.Math.Nat.{eq-or-lt_of_le}
use Rattle.std.proofs.lemmas.Nat.{mul-add-lt}
use Rattle.std.proofs.lemmas.List.Elements.{All-nil, All-cons, All-head, All-tail}
use Rattle.fb_graph.proofs.Sets.{rising-cons, rising-nil, rising-one, rising-tail}
use Rattle.fb_book.specs.declared.entries.EntryKind.{EntryKind}
use Rattle.fb_book.specs.declared.entries.EntryKind.TheVariants.{Took, Gave, Left}
use Rattle.fb_book.specs.declared.entries.Entry.{Entry}
use Rattle.fb_book.specs.declared.entries.Status.{Status}
use Rattle.fb_book.specs.Laws.{renumbered_entry}
use Rattle.fb_book.specs.Machine.{Kids, after, allows, is_permitted, place, replay}
use Rattle.fb_slots.specs.Ordered.{IsByItem, rank, rank_of}

rank_few : (kind : EntryKind) → rank_of kind ≤ 1
rank_few Took = omega arith
rank_few Gave = omega arith
rank_few Left = omega arith

-- the entries that the machine allows are of its nodes
pub nodes_within : (kids : Kids) (n : ℕ) (st end : List Status) (history : List Entry) → replay kids n st history ≡ Some end
    → All (λ e. e.node < n) history
nodes_within kids n st end [] run = All-nil (λ e. e.node < n)
nodes_within kids n st end (e ∷ es) run =
    step (allows kids n st e) refl run (λ rest. nodes_within kids n (after kids st e.kind e.worker (place n e)) end es rest)
  where
    step : (may : Bool) → allows kids n st e ≡ may
        → (if may then replay kids n (after kids st e.kind e.worker (place n e)) es else None) ≡ Some end
        → (replay kids n (after kids st e.kind e.worker (place n e)) es ≡ Some end → All (λ e. e.node < n) es) → All (λ e. e.node < n) (e ∷ es)
    step true is now rest =
        All-cons (λ e. e.node < n) e es
        (ltb-true e.node n (and_parts (nat_lt e.node n) (is_permitted kids st e.kind e.worker (place n e)) is).0) (rest now)
    step false is now rest = absurd (let never : ⊥ = cc in never)

module _ (n slots : ℕ) (f : ℕ → ℕ) (rises : (s t : ℕ) → s < t → t < slots → f s < f t) where
  place_less : (s a t : ℕ) → a < n → s < t → s * n + a < t * n
  place_less s a t less below = let h = mul-add-lt s n a t below less in omega (arith, h)

  rank_less : (e d : Entry) → e.node < n → d.node < n → e.slot < slots → d.slot < slots → rank n e < rank n d
      → rank n (renumbered_entry f e) < rank n (renumbered_entry f d)
  rank_less e d e_node d_node e_slot d_slot less = elim (cases_lt e.slot d.slot) [
    | inl before ↦
        let below = place_less (f e.slot) e.node (f d.slot) e_node (rises e.slot d.slot before d_slot) in
        let few = rank_few e.kind in omega (arith, below, few)
    | inr later ↦ elim (eq-or-lt_of_le later) [
      | inl same ↦
          let a : d.slot * n ≡ e.slot * n = ap (λ (s : ℕ). s * n) same in
          let b : f d.slot * n ≡ f e.slot * n = ap (λ (s : ℕ). f s * n) same in omega (arith, a, b, less)
      | inr after ↦
          let below = place_less d.slot d.node e.slot d_node after in
          let few = rank_few d.kind in absurd (omega (arith, below, few, less))
    ]
  ]

  pub by_item : (history : List Entry) → All (λ e. e.slot < slots) history → All (λ e. e.node < n) history → IsByItem n history
      → IsByItem n (map (renumbered_entry f) history)
  by_item [] in_slots in_nodes order = rising-nil
  by_item (e ∷ []) in_slots in_nodes order = rising-one (rank n (renumbered_entry f e))
  by_item (e ∷ d ∷ es) in_slots in_nodes order =
      let more_slots = All-tail (λ e. e.slot < slots) e (d ∷ es) in_slots in
      let more_nodes = All-tail (λ e. e.node < n) e (d ∷ es) in_nodes in
      rising-cons (rank n (renumbered_entry f e)) (rank n (renumbered_entry f d)) (map (rank n) (map (renumbered_entry f) es))
      (rank_less e d (All-head (λ e. e.node < n) e (d ∷ es) in_nodes) (All-head (λ e. e.node < n) d es more_nodes)
      (All-head (λ e. e.slot < slots) e (d ∷ es) in_slots) (All-head (λ e. e.slot < slots) d es more_slots) (order 0 (omega arith)))
      (by_item (d ∷ es) more_slots more_nodes (rising-tail (rank n e) (map (rank n) (d ∷ es)) order))
