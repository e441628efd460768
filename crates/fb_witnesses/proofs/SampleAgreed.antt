-- A blossom in a dual state and in a store of blossoms.
use Rattle.std.proofs.Common.{ℕ, zero, suc, ◌≡◌, ◌≤◌, true, [], ◌∷◌, refl, sym, ◌∙◌, arith}
use Rattle.std.proofs.lemmas.Bool.{false_from_ne_true, false≢true}
use Rattle.std.proofs.lemmas.List.Elements.{All-from_recursion}
use Rattle.fb_graph.specs.Dual.{defects_of, is_empty, is_live}
use Rattle.fb_graph.proofs.NestParts.{names_live}
use Rattle.fb_graph.proofs.Sets.{is_in-All}
use Rattle.fb_blossoms.specs.Nodes.{defects_at}
use Rattle.fb_blossoms.specs.Nodes as blossoms
use Rattle.fb_half.specs.Parts.{AreAgreed}
use Rattle.fb_half.specs.Translations.{children_at}
use Rattle.fb_half.proofs.AgreedNodes.{outer_in_store}
use Rattle.fb_witnesses.specs.AgreedWitnesses.{AgreedWitness, agreed_nodes, agreed_store}

few : (n : ℕ) → is_live agreed_nodes n ≡ true → n ≤ 4
few n live =
    is_in-All (λ m. m ≤ 4) (1 ∷ 2 ∷ 3 ∷ 4 ∷ [])
    (All-from_recursion (λ m. m ≤ 4) (1 ∷ 2 ∷ 3 ∷ 4 ∷ []) (omega arith, (omega arith, (omega arith, (omega arith, tt)))))
    n (names_live agreed_nodes n ∙ live)

live : (n : ℕ) → is_live agreed_nodes n ≡ blossoms.is_live agreed_store n
live zero = refl
live (suc zero) = refl
live (suc (suc zero)) = refl
live (suc (suc (suc zero))) = refl
live (suc (suc (suc (suc zero)))) = refl
live (suc (suc (suc (suc (suc n))))) =
    false_from_ne_true (is_live agreed_nodes (suc (suc (suc (suc (suc n))))))
    (λ e. absurd (omega (arith, few (suc (suc (suc (suc (suc n))))) e)))

agreed : AreAgreed agreed_nodes agreed_store
agreed = record {
  live = live;
  children =
      All-from_recursion (λ n. n.children ≡ children_at agreed_store n.name) agreed_nodes
      (refl, (refl, (refl, (refl, tt))));
  leaves =
      All-from_recursion (λ n. is_empty n.children ≡ true → defects_of n ≡ defects_at agreed_store n.name) agreed_nodes
      (λ e. refl, (λ e. refl, (λ e. refl, (λ e. absurd (false≢true e), tt))));
}

pub agreed_witness : AgreedWitness
agreed_witness = (
  agreed,
  refl,
  outer_in_store agreed_nodes agreed_store 4 agreed refl,
  refl,
  λ outer. false≢true (sym (outer 4)),
)
