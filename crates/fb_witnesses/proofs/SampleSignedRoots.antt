-- The root of a plan of a line, solved for a shot that turns signs.
use Rattle.std.proofs.Common.{ℕ, zero, suc, ◌≡◌, ◌≢◌, ◌+◌, ◌%◌, ◌<◌, ◌==◌, inl, inr, true, false, List, [], ◌∷◌, Some, None, refl, sym, ◌∙◌, subst, arith}
use Rattle.std.specs.Prelude.{is_some}
use Rattle.std.proofs.Math.Bool.{or-false}
use Rattle.std.proofs.lemmas.Bool.{eqb-true, false≢true, false_from_ne_true, le-ltb}
use Rattle.std.proofs.lemmas.List.Elements.{All-nil, All-from_recursion}
use Rattle.std.proofs.lemmas.List.Sorted.{IsPermutation-refl}
use Rattle.fb_graph.specs.Certificate.{IsOddCut}
use Rattle.fb_graph.specs.Components.{IsFirstOdd}
use Rattle.fb_graph.specs.Counts.{as_count}
use Rattle.fb_graph.specs.Dual.{IsDual, IsHeld, all_cuts, defects_of, height_of, is_empty, is_live, is_outer, leaves}
use Rattle.fb_graph.specs.Ends.{ends_in}
use Rattle.fb_graph.specs.Laws.{has_real_end}
use Rattle.fb_graph.specs.Limits.{IsShot, is_real_in, problem_of}
use Rattle.fb_graph.specs.Links.{IsTightLink}
use Rattle.fb_graph.specs.Nests.{child_sets}
use Rattle.fb_graph.specs.Parity.{is_in}
use Rattle.fb_graph.specs.Problem.{Problem, edge_at, with_defects}
use Rattle.fb_graph.specs.Singles.{AreSingles, Single, nodes_of}
use Rattle.fb_graph.proofs.BeginningNests.{singles_are_nest}
use Rattle.fb_graph.proofs.Sets.{rising-one, rising-cons}
use Rattle.fb_graph.proofs.ShotGraphs.{same_first_odd}
use Rattle.fb_graph.proofs.SingleStates.{singles_are_dual}
use Rattle.fb_graph.proofs.SourceWalks.{walks_begin}
use Rattle.fb_laws.specs.Fusion.{IsLinkOf}
use Rattle.fb_laws.specs.Opening.{EndsAtDefects}
use Rattle.fb_laws.specs.PartStates.{IsPartState, IsRing}
use Rattle.fb_laws.specs.Works.{AreMatchedLinks}
use Rattle.fb_links.specs.Table as table
use Rattle.fb_links.specs.declared.walk.Step.{Step}
use Rattle.fb_plan.specs.Plans.{IsJoin, IsPlan, goes_across, join_at, names, owner_of}
use Rattle.fb_plan.specs.Laws.{IsJob}
use Rattle.fb_blossoms.specs.Nodes.{IsNested, defects_at}
use Rattle.fb_blossoms.specs.Nodes as blossoms
use Rattle.fb_half.specs.Matchings.{IsMatchOf, IsMatchingOf}
use Rattle.fb_half.specs.Parts.{AreAgreed, AreLinksOf, AreStepsOf, IsPart, problem_in, state_of}
use Rattle.fb_half.specs.Translations.{children_at, cycles_by, link_by}
use Rattle.fb_witnesses.specs.InternalSamples.{link, single}
use Rattle.fb_witnesses.specs.ShotWitnesses.{SignedRootWitness, signed_job, signed_line, signed_plan, signed_root, turning_cuts, turning_shot}
use Rattle.fb_witnesses.proofs.ByCases.{fits_by_cases}
use Rattle.fb_witnesses.proofs.SampleParts.{some_walk}
use Rattle.fb_witnesses.proofs.SampleResolutions.{single_sorted}
use Rattle.fb_witnesses.proofs.SampleShots.{line_is_graph, line_not_odd, shot_is_of_line}
use Rattle.fb_witnesses.proofs.SampleSolved.{swapped}
use Rattle.fb_witnesses.proofs.SampleStates.{odd_cut, of_one}

-- The plan.

joins_are : (i : ℕ) → i < 1 → IsJoin (2 + i) (join_at signed_plan.joins i)
joins_are zero less = record { left = omega arith; right = omega arith; differ = λ e. omega (arith, e) }
joins_are (suc i) less = absurd (omega arith)

owned : (v : ℕ) → is_some (owner_of signed_plan v) ≡ is_real_in signed_line v
owned zero = refl
owned (suc zero) = refl
owned (suc (suc zero)) = refl
owned (suc (suc (suc zero))) = refl
owned (suc (suc (suc (suc zero)))) = refl
owned (suc (suc (suc (suc (suc v))))) = rw (le-ltb (suc (suc (suc (suc (suc v))))) 5 (omega arith)) refl

owners : (v n : ℕ) → owner_of signed_plan v ≡ Some n → n < 3
owners zero n e = absurd cc
owners (suc zero) n e = let h : 0 ≡ n = cc in omega arith
owners (suc (suc zero)) n e = let h : 2 ≡ n = cc in omega arith
owners (suc (suc (suc zero))) n e = let h : 1 ≡ n = cc in omega arith
owners (suc (suc (suc (suc zero)))) n e = absurd cc
owners (suc (suc (suc (suc (suc v))))) n e = absurd cc

once : (i k n : ℕ) → i < 1 → k < 1 → names (join_at signed_plan.joins i) n ≡ true
    → names (join_at signed_plan.joins k) n ≡ true → i ≡ k
once i k n i_below k_below first second = omega arith

plan_is : IsPlan signed_line signed_plan
plan_is = record {
  tree = record { limit = omega arith; count = refl; joins = joins_are; once = once };
  count = refl;
  owned = owned;
  owners = owners;
  edges =
      All-from_recursion (λ e. goes_across signed_plan e ≡ false) signed_line.edges (refl, (refl, (refl, (refl, tt))));
}

not_odd : IsFirstOdd (problem_of signed_line turning_shot) None
not_odd = (same_first_odd signed_line turning_shot None).1 line_not_odd

job_is : IsJob signed_job
job_is = record {
  graph = line_is_graph;
  plan = plan_is;
  count = omega arith;
  shots = All-from_recursion (IsShot signed_line) signed_job.shots (shot_is_of_line, tt);
  even = All-from_recursion (λ shot. IsFirstOdd (problem_of signed_line shot) None) signed_job.shots (not_odd, tt);
}

-- The root's dual state.

abbrev problem : Problem
problem = problem_in signed_root

abbrev singles : List Single
singles = single 0 3 4 ∷ []

are_singles : AreSingles problem singles
are_singles = record {
  names = (refl, tt);
  vertices = (refl, tt);
  real = All-from_recursion (λ s. problem.is_real s.vertex ≡ true) singles (refl, tt);
  packing = record {
    odd =
        All-from_recursion (IsOddCut (with_defects problem (3 ∷ []))) (all_cuts (nodes_of singles))
        (odd_cut (with_defects problem (3 ∷ [])) (record { value = 4; vertices = 3 ∷ [] }) (refl, tt) refl refl, tt);
    fits = fits_by_cases (with_defects problem (3 ∷ [])) (all_cuts (nodes_of singles)) refl;
  };
  held = All-from_recursion (IsHeld problem) (all_cuts (nodes_of singles)) (inr (3, omega arith, refl), tt);
  total = omega arith;
}

dual : IsDual problem (nodes_of singles)
dual = singles_are_dual problem singles are_singles

matched_links : AreMatchedLinks problem (nodes_of singles) (link 3 4 (3 ∷ []) ∷ [])
matched_links = record {
  tight =
      All-from_recursion (IsTightLink problem (all_cuts (nodes_of singles))) (link 3 4 (3 ∷ []) ∷ [])
      (record { walk = (4, omega arith, inl (refl, refl), refl); tight = refl }, tt);
  own =
      All-from_recursion (IsLinkOf problem) (link 3 4 (3 ∷ []) ∷ []) (
        record {
          walk = (4, omega arith, inl (refl, refl), refl);
          moves = some_walk 3 [];
          real =
              All-from_recursion (λ k. has_real_end problem (edge_at problem.edges k) ≡ true) (3 ∷ []) (refl, tt);
        },
        tt,
      );
  at_defects =
      All-from_recursion (EndsAtDefects problem (leaves (nodes_of singles))) (link 3 4 (3 ∷ []) ∷ [])
      ((λ h. refl, λ h. absurd (false≢true h)), tt);
}

heights : (d : ℕ) → is_in (leaves (nodes_of singles)) d ≡ true → height_of (all_cuts (nodes_of singles)) d % 2 ≡ 0
heights = of_one (λ d. height_of (all_cuts (nodes_of singles)) d % 2 ≡ 0) 3 refl

state_is : IsPartState problem (state_of signed_root)
state_is = record {
  work = record {
    nest = singles_are_nest problem singles (refl, tt) dual;
    work = record {
      matching = record {
        dual = dual;
        defects = λ v real. refl;
        links_are = matched_links;
        matched =
            All-from_recursion
            (λ n. is_outer (nodes_of singles) n.name ≡ true
            → ends_in n.top.vertices (link 3 4 (3 ∷ []) ∷ []) + as_count (is_in [] n.name) ≡ 1) (nodes_of singles)
            (λ outer. refl, tt);
        one_parity = λ d e name leaf other over under. heights d leaf ∙ sym (heights e other);
      };
      even = λ d name leaf over none. heights d leaf;
    };
    walks = walks_begin problem singles;
    outer = λ n h. absurd (false≢true h);
  };
  cycles = record {
    rings =
        All-from_recursion
        (λ n. IsRing (child_sets (nodes_of singles) n) (cycles_by signed_root.links signed_root.store n.name))
        (nodes_of singles) (tt, tt);
    links = record {
      tight = All-nil (IsTightLink problem (all_cuts (nodes_of singles)));
      own = All-nil (IsLinkOf problem);
      at_defects = All-nil (EndsAtDefects problem (leaves (nodes_of singles)));
    };
  };
  names = record { live = λ n h. absurd (false≢true h); distinct = tt };
}

-- Its tables.

other_than : (a b : ℕ) → (a ≡ b → ⊥) → is_in (a ∷ []) b ≡ false
other_than a b other = false_from_ne_true (is_in (a ∷ []) b) (λ e. other (eqb-true a b (sym (or-false (a == b)) ∙ e)))

node_live : (name : ℕ) → is_live signed_root.nodes name ≡ blossoms.is_live signed_root.store name
node_live zero = refl
node_live (suc n) = other_than 0 (suc n) (λ e. omega (arith, e))

agreed_is : AreAgreed signed_root.nodes signed_root.store
agreed_is = record {
  live = node_live;
  children = All-from_recursion (λ n. n.children ≡ children_at signed_root.store n.name) signed_root.nodes (refl, tt);
  leaves =
      All-from_recursion (λ n. is_empty n.children ≡ true → defects_of n ≡ defects_at signed_root.store n.name)
      signed_root.nodes (λ e. refl, tt);
}

link_live : (id : ℕ) → table.is_live signed_root.links id ≡ is_in (0 ∷ []) id
link_live zero = refl
link_live (suc id) = sym (other_than 0 (suc id) (λ e. omega (arith, e)))

abbrev only_walk : List Step
only_walk = record { from = 3; to = 4; edge = 3; weight = 4 } ∷ []

only_steps : AreStepsOf problem only_walk
only_steps zero d less = (record { within = omega arith; leads = inl (refl, refl); weighs = refl }, refl)
only_steps (suc i) d less = absurd (omega arith)

steps_are : (id : ℕ) (walk : List Step) → table.link_at signed_root.links id ≡ Some walk → AreStepsOf problem walk
steps_are zero walk e = let same : only_walk ≡ walk = cc in subst (AreStepsOf problem) same only_steps
steps_are (suc id) walk e = absurd cc

links_are : AreLinksOf problem signed_root.links (0 ∷ [])
links_are = record { distinct = (refl, tt); live = link_live; steps = steps_are }

matching_is : IsMatchingOf problem signed_root.nodes signed_root.links signed_root.matching []
matching_is = record {
  distinct = (refl, tt);
  live = of_one (λ name. (is_live signed_root.nodes name ≡ true) × (is_outer signed_root.nodes name ≡ true)) 0 (refl, refl);
  all = λ name live outer. live;
  connects =
      All-from_recursion
      (λ m. IsMatchOf problem signed_root.nodes (link_by signed_root.links m.link) m.first m.second)
      signed_root.matching.matches ((4, inl (refl, refl), refl), tt);
}

root_is : IsPart signed_root
root_is = record {
  job = job_is;
  slot = omega arith;
  node = omega arith;
  state = state_is;
  agreed = agreed_is;
  links = links_are;
  matching = matching_is;
}

no_cycle : (p x : ℕ) → blossoms.is_on (blossoms.cycle_at signed_root.store p) x ≡ true → ⊥
no_cycle zero x h = false≢true h
no_cycle (suc p) x h = false≢true h

one_leaf : (x d : ℕ) → is_in (defects_at signed_root.store x) d ≡ true → 0 ≡ x
one_leaf zero d h = refl
one_leaf (suc x) d h = absurd (false≢true h)

at_leaf : (x : ℕ) (n : blossoms.Node) → blossoms.node_at signed_root.store x ≡ Some n → (0 ≡ x) × (n ≡ blossoms.leaf 3)
at_leaf zero n e = (refl, cc)
at_leaf (suc x) n e = absurd cc

holding : (x : ℕ) → blossoms.is_live signed_root.store x ≡ true → defects_at signed_root.store x ≢ []
holding zero live = λ e. absurd cc
holding (suc x) live = absurd (false≢true live)

nested_is : IsNested signed_root.store
nested_is = record {
  shaped = λ x n e. inl (3, (at_leaf x n e).1);
  holding = holding;
  once = λ p q x first second. absurd (no_cycle p x first);
  leaves = λ x y d first second. sym (at_leaf x (blossoms.leaf d) first).0 ∙ (at_leaf y (blossoms.leaf d) second).0;
  children = λ p x y d first second inner other. absurd (no_cycle p x first);
  outer = λ x y d outer too inner other. sym (one_leaf x d inner) ∙ one_leaf y d other;
}

pub signed_root_witness : SignedRootWitness
signed_root_witness = (
  plan_is,
  not_odd,
  refl,
  refl,
  refl,
  refl,
  root_is,
  nested_is,
  refl,
  rising-cons 2 3 [] (omega arith) (rising-one 3),
  refl,
  λ k. swapped (2 == k) (3 == k),
  record {
    resorted = turning_cuts;
    each = (single_sorted (record { value = 4; vertices = 3 ∷ [] }) (omega arith), tt);
    moved = IsPermutation-refl turning_cuts;
  },
  (tt, tt),
)
