-- The blossom of the longer line, and the defects that it holds.
use Rattle.std.proofs.Common.{ℕ, ◌≡◌, ◌==◌, ◌||◌, Bool, true, false, [], ◌∷◌, refl, arith}
use Rattle.std.specs.List.{list_any}
use Rattle.std.proofs.lemmas.Bool.{false≢true}
use Rattle.std.proofs.lemmas.List.Elements.{All-from_recursion}
use Rattle.fb_graph.specs.Parity.{is_in}
use Rattle.fb_graph.specs.Dual.{defects_of, is_empty}
use Rattle.fb_graph.specs.Nests.{IsNest}
use Rattle.fb_graph.proofs.JoinedNests.{nest_joined}
use Rattle.fb_laws.specs.HeldDefects.{AreHeld}
use Rattle.fb_laws.proofs.MoveBridges.{joining_allowed}
use Rattle.fb_witnesses.specs.HeldWitnesses.{HeldWitness, held_defects, held_nodes}
use Rattle.fb_witnesses.specs.NestedWitnesses.{low_children, low_nodes, wide_child}
use Rattle.fb_witnesses.specs.TreeWitnesses.{long_line, thin_branch}
use Rattle.fb_witnesses.proofs.SampleEndings.{low_joining, low_state}

held_nest : IsNest long_line held_nodes
held_nest =
    nest_joined long_line low_nodes 3 (0 ∷ 1 ∷ 2 ∷ [])
    (joining_allowed low_nodes (thin_branch ∷ []) 0 3 wide_child low_children low_joining (omega arith) refl)
    low_state.nest

any_of_three : (a b c : Bool) → (a || (b || (c || false))) ≡ ((a || false) || ((b || false) || ((c || false) || false)))
any_of_three true b c = refl
any_of_three false true c = refl
any_of_three false false true = refl
any_of_three false false false = refl

held : AreHeld held_nodes held_defects
held = record {
  own =
      All-from_recursion
      (λ n. is_empty n.children ≡ true → (d : ℕ) → is_in (held_defects n.name) d ≡ is_in (defects_of n) d) held_nodes
      (λ e d. refl, (λ e d. refl, (λ e d. refl, (λ e. absurd (false≢true e), tt))));
  joined =
      All-from_recursion
      (λ n. is_empty n.children ≡ false → (d : ℕ)
      → is_in (held_defects n.name) d ≡ list_any (λ c. is_in (held_defects c) d) n.children) held_nodes (
        λ e. absurd cc,
        (λ e. absurd cc, (λ e. absurd cc, (λ e d. any_of_three (1 == d) (3 == d) (4 == d), tt))),
      );
}

pub held_witness : HeldWitness
held_witness = (held_nest, held, refl, refl, refl, refl, refl, refl, refl)
