-- The nodes that wait, told by the state: the unmatched ones that are no roots of its trees.
use Rattle.std.proofs.Common.{ℕ, ◌≡◌, ◌||◌, ◌&&◌, not, Bool, true, false, List, filter, map, refl, sym, ◌∙◌}
use Rattle.std.proofs.lemmas.Bool.{false≢true}
use Rattle.fb_graph.specs.Parity.{is_in}
use Rattle.fb_graph.specs.Problem.{Problem}
use Rattle.fb_graph.proofs.Members.{is_in-append}
use Rattle.fb_graph.proofs.Sets.{is_in-filter}
use Rattle.fb_laws.specs.Forests.{forest_roots}
use Rattle.fb_laws.specs.ForestStates.{ForestState, IsForestState}
use Rattle.fb_laws.proofs.ForestParts.{no_root}
use Rattle.fb_trees.specs.Branches.{Grown}

-- the unmatched nodes that are no roots of these trees
abbrev pub waiting_among : List Grown → List ℕ → List ℕ
waiting_among gs unmatched = filter (λ n. not (is_in (map (λ g. g.root) gs) n)) unmatched

pub waiting_told : (p : Problem) (s : ForestState) → IsForestState p s → (n : ℕ)
    → is_in s.waiting n ≡ (is_in s.unmatched n && not (is_in (forest_roots s.trees) n))
waiting_told p s state n =
    by (is_in s.unmatched n) (is_in (forest_roots s.trees) n) (is_in s.waiting n)
    (state.forest.roots n ∙ is_in-append (forest_roots s.trees) s.waiting n)
    (λ waits. no_root s.trees n (state.forest.apart n waits))
  where
    by : (u r x : Bool) → u ≡ (r || x) → (x ≡ true → r ≡ false) → x ≡ (u && not r)
    by u true true is apart = absurd (false≢true (sym (apart refl)))
    by true true false is apart = refl
    by false true false is apart = refl
    by true false x is apart = sym is
    by false false x is apart = sym is

-- so these are the same as those of other lists with the same members
pub waiting_read : (p : Problem) (s : ForestState) (gs : List Grown) (unmatched : List ℕ) → IsForestState p s
    → forest_roots s.trees ≡ map (λ g. g.root) gs → ((n : ℕ) → is_in unmatched n ≡ is_in s.unmatched n) → (n : ℕ)
    → is_in (waiting_among gs unmatched) n ≡ is_in s.waiting n
waiting_read p s gs unmatched state roots same n =
    is_in-filter (λ m. not (is_in (map (λ g. g.root) gs) m)) unmatched n
    ∙ ((λ k. same n k && not (is_in (sym roots k) n)) ∙ sym (waiting_told p s state n))
