use Rattle.std.proofs.Common.{◌∙◌, arith}
use Rattle.fb_gen.proofs.Grids.{lattice_is_graph}
use Rattle.fb_gen.proofs.lattices.lattice.Goals as goal

pub unreachable-requires : goal.unreachable-requires
unreachable-requires c =
    let built = lattice_is_graph _ _ _ _ _ c.count_vertices-count.ensures
    (c.deref.ensures.value ∙ (c.in-Ok.ensures.edges ∙ c.size_of-size.ensures.edges))
    (c.deref-2.ensures.value ∙ (c.in-Ok.ensures.virtuals ∙ c.size_of-size.ensures.virtuals)) (omega arith) in
    cc (built, c.in-Err.ensures.err c.in_default-fault.not-NoMemory)
