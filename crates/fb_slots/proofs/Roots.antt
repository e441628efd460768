-- The pieces at the roots are those of the job.
use Rattle.std.proofs.Common.{ℕ, ◌≡◌, ◌+◌, ◌-◌, ◌*◌, ◌%◌, ◌<◌, true, Option, Some, List, length, sym, subst, ◌∙◌, arith}
use Rattle.std.proofs.lemmas.Bool.{eq-eqb}
use Rattle.std.proofs.lemmas.Nat.{mod-mul-add, mul-add-lt}
use Rattle.std.proofs.lemmas.Option.{same_Some, slice_get_within}
use mathlib.Core.Option.{some, some-injective}
use lib.ListN.{get_elem?}
use Rattle.fb_plan.specs.Plans.{JobValue, node_count, root_of}
use Rattle.fb_book.specs.Books.{AreRootPieces, IsPieceAt, place_of}
use Rattle.fb_slots.specs.Ends.{AreAtRoots}
use Rattle.fb_slots.specs.Slots.{layout_of}

-- the place of a slot's root
pub root_less : (job : JobValue) (s : ℕ) → 0 < node_count job.plan → s < length job.shots
    → s * node_count job.plan + (node_count job.plan - 1) < length job.shots * node_count job.plan
root_less job s positive less = let m = mul-add-lt s (node_count job.plan) (node_count job.plan - 1)
    (length job.shots) less (omega (arith, positive)) in omega (arith, m)

pub root_is : (job : JobValue) (workers s : ℕ) → 0 < node_count job.plan
    → (layout_of job workers).is_root (s * node_count job.plan + (node_count job.plan - 1)) ≡ true
root_is job workers s positive =
    eq-eqb ((s * node_count job.plan + (node_count job.plan - 1)) % node_count job.plan)
    (root_of job.plan) (mod-mul-add s (node_count job.plan) (node_count job.plan - 1)
    (omega (arith, positive)))

pub root_pieces : {P : Type 0} (job_of : P → JobValue) (slot_of node_of : P → ℕ) (made_of : P
    → Option (List ℕ)) (job : JobValue) (items : List (Option P)) (roots : List P)
    → AreAtRoots (node_count job.plan) items (length job.shots) roots
    → ((s : ℕ) → s < length job.shots
    → (p : P) × (get_elem? items (place_of job s (root_of job.plan)) ≡ some (Some p))
    × IsPieceAt job_of slot_of node_of made_of job (place_of job s (root_of job.plan)) p)
    → AreRootPieces job_of slot_of node_of made_of job roots
root_pieces job_of slot_of node_of made_of job items roots a pieces = record {
  count = a.count;
  each = λ s p e.
      let less : s < length job.shots = subst (λ n. s < n) a.count (slice_get_within roots s p e) in
      let h = pieces s less in
      let same : h.0 ≡ p =
      same_Some h.0 p (some-injective (Some h.0) (Some p) (sym h.1 ∙ a.each s p e)) in
      subst (IsPieceAt job_of slot_of node_of made_of job (place_of job s (root_of job.plan))) same
      h.2;
}
