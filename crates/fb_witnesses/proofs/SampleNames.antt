-- The nodes of the pentagon, each under the name of another.
use Rattle.std.proofs.Common.{ℕ, ◌≡◌, ◌-◌, ◌≤◌, true, [], ◌∷◌, refl, sym, ◌∙◌, arith}
use Rattle.std.proofs.lemmas.List.Elements.{All-from_recursion}
use Rattle.fb_graph.specs.Dual.{is_live}
use Rattle.fb_graph.specs.RenamedNodes.{AreRenamedApart}
use Rattle.fb_graph.proofs.NestParts.{names_live}
use Rattle.fb_graph.proofs.Sets.{is_in-All}
use Rattle.fb_laws.specs.RenamedStates.{AreCyclesRenamed}
use Rattle.fb_laws.proofs.RenamedStates.{live_links_renamed, state_renamed}
use Rattle.fb_witnesses.specs.RenamedWitnesses.{RenamedWitness, mirrored_name, mirrored_cycles}
use Rattle.fb_witnesses.specs.StateWitnesses.{blossom_pair, pentagon}
use Rattle.fb_witnesses.proofs.SamplePentagons.{pair_state}

-- the names of the nodes, one after another
of_live : (P : ℕ → Type 0) → P 0 → P 1 → P 2 → P 3 → P 4 → P 5 → P 6 → P 7 → (n : ℕ)
    → is_live blossom_pair.nodes n ≡ true → P n
of_live P a b c d e f g h n live =
    is_in-All P (0 ∷ 1 ∷ 2 ∷ 3 ∷ 4 ∷ 5 ∷ 6 ∷ 7 ∷ [])
    (All-from_recursion P (0 ∷ 1 ∷ 2 ∷ 3 ∷ 4 ∷ 5 ∷ 6 ∷ 7 ∷ []) (a, (b, (c, (d, (e, (f, (g, (h, tt)))))))))
    n (names_live blossom_pair.nodes n ∙ live)

few : (n : ℕ) → is_live blossom_pair.nodes n ≡ true → n ≤ 7
few =
    of_live (λ n. n ≤ 7) (omega arith) (omega arith) (omega arith) (omega arith) (omega arith) (omega arith)
    (omega arith) (omega arith)

back : (n : ℕ) → is_live blossom_pair.nodes n ≡ true → mirrored_name n ≡ 7 - n
back = of_live (λ n. mirrored_name n ≡ 7 - n) refl refl refl refl refl refl refl refl

apart : AreRenamedApart mirrored_name blossom_pair.nodes
apart a b live other same =
    let first : a ≤ 7 = few a live in
    let second : b ≤ 7 = few b other in
    let e : 7 - a ≡ 7 - b = sym (back a live) ∙ (same ∙ back b other) in
    omega arith

cycles : AreCyclesRenamed mirrored_name blossom_pair mirrored_cycles
cycles = of_live (λ n. mirrored_cycles (mirrored_name n) ≡ blossom_pair.cycles n) refl refl refl refl refl refl refl refl

pub renamed_witness : RenamedWitness
renamed_witness = (
  pair_state,
  apart,
  cycles,
  refl,
  refl,
  refl,
  state_renamed pentagon blossom_pair mirrored_name mirrored_cycles apart cycles pair_state,
  refl,
  refl,
  refl,
  refl,
  refl,
  live_links_renamed blossom_pair mirrored_name mirrored_cycles cycles,
)
