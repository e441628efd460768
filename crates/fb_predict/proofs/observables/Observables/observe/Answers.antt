use Rattle.std.proofs.Common.{ℕ, ◌≤◌, false, List, map, length, arith}
use Rattle.std.proofs.lemmas.List.{length-map}
use Rattle.fb_graph.specs.Parity.{is_in, is_odd_count}
use Rattle.fb_predict.proofs.Flips.{taken_bits, observed_edges}
use Rattle.fb_predict.proofs.observables.Observables.observe.Goals as goal

pub returns-in-Best-clause-bits : goal.returns-in-Best-clause-bits
returns-in-Best-clause-bits c =
    let lists : List (List ℕ) = map (λ l. l.items) c.self.inside.lists.items in
    let holders = c.self.inside.holders.items in
    let bits = c.flip_by_edges.new.bits in
    let each = rw (c.as_slice.ensures.value, c.as_slice-in-Best.ensures) at c.flip_by_edges.ensures.each in
    let few : length lists ≤ length bits = omega (arith, length-map c.self.inside.lists.items (λ l. l.items), c.self.invariant.0, c.flip_by_edges.ensures.size) in
    rw (← c.self.view_is, c.in-Best.is)
    (taken_bits (λ list. is_odd_count (is_in list) c.in-Best.edges) lists bits few
    (observed_edges lists holders c.args.bits.now bits c.in-Best.edges c.self.invariant.1 c.requires.unset each))

pub returns-in_default-clause-bits : goal.returns-in_default-clause-bits
returns-in_default-clause-bits c =
    let lists : List (List ℕ) = map (λ l. l.items) c.self.inside.lists.items in
    let few : length lists ≤ length c.args.bits.now = omega (arith, length-map c.self.inside.lists.items (λ l. l.items), c.self.invariant.0, c.requires.size) in
    rw (← c.self.view_is, c.in_default.is) (taken_bits (λ list. false) lists c.args.bits.now few c.requires.unset)
