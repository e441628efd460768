use Rattle.std.proofs.Common.{ℕ, List, ◌≡◌, ◌<◌, ◌-◌, ◌++◌, Vec, Global, length, length-append, map, ap, arith}
use Rattle.std.proofs.Math.Seq.{map-set_same}
use Rattle.std.proofs.lemmas.List.{length-map}
use Rattle.fb_plan.specs.Rules.{seams_of}
use Rattle.fb_plan.specs.declared.parts.Join.{Join}
use Rattle.fb_layers.proofs.Filling.{seam_added, unit_added}
use Rattle.fb_layers.proofs.ranges.NodeRanges.add.Goals as goal

pub returns-then-node-units-clause-ranges : goal.returns-then-node-units-clause-ranges
returns-then-node-units-clause-ranges c =
    rw (← c.self.view_is)
    (unit_added {X = Vec (ℕ × ℕ) Global} (λ u. u.items) c.self.inside.units.items (seams_of c.self.inside.joins.items) c.args.node
    c.args.vertex c.index_mut.result.now c.add_vertex.new.ranges
    (omega (arith, c.if-node-units.true, c.len-units.ensures, c.self.inside.units.ok.0)) c.index_mut.ensures.value
    c.in_ok-add_vertex.ensures.added)

pub returns-clause-joins : goal.returns-clause-joins
returns-clause-joins c =
    let pair : Join → ℕ × ℕ = λ join. (join.left, join.right) in
    rw (← c.self.view_is)
    (map-set_same pair c.self.inside.joins.items (c.args.node - c.len-units.result)
    (record { left = c.index_mut-2.result.now.left; right = c.index_mut-2.result.now.right; seam = c.add_vertex-2.new.ranges })
    c.index_mut-2.result.now (ap pair c.index_mut-2.ensures.value))

pub returns-clause-ranges : goal.returns-clause-ranges
returns-clause-ranges c =
    let seam : Join → List (ℕ × ℕ) = λ join. join.seam.items in
    let count : length (map (λ (u : Vec (ℕ × ℕ) Global). u.items) c.self.inside.units.items) ≡ c.len-units.result =
    omega (
      arith,
      length-map c.self.inside.units.items (λ (u : Vec (ℕ × ℕ) Global). u.items),
      c.len-units.ensures,
      c.self.inside.units.ok.0,
    ) in
    let within : c.args.node < length (map (λ (u : Vec (ℕ × ℕ) Global). u.items) c.self.inside.units.items ++ seams_of c.self.inside.joins.items) =
    rw (← c.self.view_is) at c.requires in
    let less : c.args.node - c.len-units.result < length c.self.inside.joins.items =
    omega (
      arith,
      within,
      length-append (map (λ (u : Vec (ℕ × ℕ) Global). u.items) c.self.inside.units.items) (seams_of c.self.inside.joins.items),
      count,
      length-map c.self.inside.joins.items seam,
      c.if-node-units.false,
    ) in
    rw (← c.self.view_is)
    (seam_added {X = Join} (λ join. join.seam.items) (map (λ (u : Vec (ℕ × ℕ) Global). u.items) c.self.inside.units.items)
    c.self.inside.joins.items c.args.node c.len-units.result c.args.vertex c.index_mut-2.result.now
    (record { left = c.index_mut-2.result.now.left; right = c.index_mut-2.result.now.right; seam = c.add_vertex-2.new.ranges })
    count c.if-node-units.false less c.index_mut-2.ensures.value c.in_ok-add_vertex-2.ensures.added)
