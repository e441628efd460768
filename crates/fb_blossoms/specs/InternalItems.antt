-- A node as it is stored.
use Rattle.std.specs.Prelude.{ℕ, List, Option, refl}
use Rattle.std.specs.Coded.{Coded, code_by, coded×, coded_list, coded_option, coded_ℕ}
use Rattle.fb_links.specs.declared.cycle.CycleStep.{CycleStep}

pub record Item : Type 0 where
  -- the blossom in whose cycle it is
  pub parent : Option ℕ
  -- its place in that cycle
  pub place : ℕ
  -- the number of nodes that were made before it
  pub made : ℕ
  -- the defect that it is itself; none for a blossom
  pub own : List ℕ
  -- the steps of its cycle; none for a leaf
  pub cycle : List CycleStep

abbrev pub step_code : Coded CycleStep
step_code =
    code_by (ℕ × ℕ) (coded× coded_ℕ coded_ℕ) (λ s. (s.node, s.link)) (λ x. record { node = x.0; link = x.1 }) (λ _. refl)

-- an item is stored as the parent with the place and the count, and the defect with the cycle
abbrev pub item_code : Coded Item
item_code =
    code_by ((Option ℕ × (ℕ × ℕ)) × (List ℕ × List CycleStep))
    (coded× (coded× (coded_option coded_ℕ) (coded× coded_ℕ coded_ℕ)) (coded× (coded_list coded_ℕ) (coded_list step_code)))
    (λ i. ((i.parent, (i.place, i.made)), (i.own, i.cycle)))
    (λ x. record { parent = x.0.0; place = x.0.1.0; made = x.0.1.1; own = x.1.0; cycle = x.1.1 }) (λ _. refl)
