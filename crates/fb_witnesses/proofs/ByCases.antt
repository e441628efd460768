-- What holds of all edges or numbers of a sample, by a look at each.
use Rattle.std.proofs.Common.{ℕ, ◌<◌, ◌≤◌, ◌≡◌, true, List, All, ltb, leb}
use Rattle.std.proofs.lemmas.Bool.{leb-true, ltb-true}
use Rattle.std.proofs.lemmas.List.Elements.{All-weaker}
use Rattle.std.proofs.lemmas.List.Sums.{AllPass-from_list_all}
use Rattle.std.specs.List.{list_all}
use Rattle.fb_graph.specs.Problem.{Problem}
use Rattle.fb_graph.specs.Certificate.{Fits, load_of}
use Rattle.fb_graph.specs.declared.parts.Cut.{Cut}

pub fits_by_cases : (p : Problem) (cuts : List Cut) → list_all (λ e. leb (load_of cuts e) e.weight) p.edges ≡ true
    → Fits p cuts
fits_by_cases p cuts right =
    All-weaker (λ e. leb (load_of cuts e) e.weight ≡ true) (λ e. load_of cuts e ≤ e.weight)
    (λ e. leb-true (load_of cuts e) e.weight) p.edges
    (AllPass-from_list_all (λ e. leb (load_of cuts e) e.weight) p.edges right)

pub below_by_cases : (n : ℕ) (xs : List ℕ) → list_all (λ k. ltb k n) xs ≡ true → All (λ k. k < n) xs
below_by_cases n xs right =
    All-weaker (λ k. ltb k n ≡ true) (λ k. k < n) (λ k. ltb-true k n) xs
    (AllPass-from_list_all (λ k. ltb k n) xs right)
