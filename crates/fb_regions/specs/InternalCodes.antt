-- How a dual state is stored as data.
use Rattle.std.specs.Prelude.{ℕ, List, refl}
use Rattle.std.specs.Coded.{Coded, code_by, coded×, coded_list, coded_ℕ}
use Rattle.fb_graph.specs.declared.parts.Cut.{Cut}
use Rattle.fb_graph.specs.Dual.{Node}
use Rattle.fb_regions.specs.Paces.{Paced}

abbrev pub cut_code : Coded Cut
cut_code =
    code_by (ℕ × List ℕ) (coded× coded_ℕ (coded_list coded_ℕ)) (λ c. (c.value, c.vertices))
    (λ x. record { value = x.0; vertices = x.1 }) (λ _. refl)

-- a node is stored as the name, the children, the layers below the top one, and the top one
abbrev pub node_code : Coded Node
node_code =
    code_by ((ℕ × List ℕ) × (List Cut × Cut)) (coded× (coded× coded_ℕ (coded_list coded_ℕ)) (coded× (coded_list cut_code) cut_code))
    (λ n. ((n.name, n.children), (n.below, n.top)))
    (λ x. record { name = x.0.0; children = x.0.1; below = x.1.0; top = x.1.1 }) (λ _. refl)

-- a state is stored as the scope, the nodes, and the names of those that move
abbrev pub paced_code : {S : Type 0} → Coded S → Coded (Paced S)
paced_code {S} scope =
    code_by ((S × List Node) × (List ℕ × List ℕ))
    (coded× (coded× scope (coded_list node_code)) (coded× (coded_list coded_ℕ) (coded_list coded_ℕ)))
    (λ d. ((d.scope, d.nodes), (d.plus, d.minus)))
    (λ x. record { scope = x.0.0; nodes = x.0.1; plus = x.1.0; minus = x.1.1 }) (λ _. refl)
