use Rattle.std.proofs.Common.{◌≡◌, ◌∙◌, sym, ap, arith}
use Rattle.std.specs.Int.{from_le_bytes, w64}
use Rattle.std.proofs.lemmas.Bool.{eqb-true}
use Rattle.std.proofs.lemmas.List.{take_all}
use Rattle.std.proofs.lemmas.Nat.{le_bytes_8}
use Rattle.fb_shots_stim.proofs.dense.are_zeros.Goals as goal

pub returns-then-bytes-eq-WORD_BYTES : goal.returns-then-bytes-eq-WORD_BYTES
returns-then-bytes-eq-WORD_BYTES c equal =
    let bytes = c.args.bytes.now in
    let value : c.from_le_bytes.result ≡ from_le_bytes w64 bytes =
    c.from_le_bytes.ensures ∙ ap (from_le_bytes w64) (c.in-Some.ensures.cases.same ∙ take_all 8 bytes (omega arith)) in
    sym (le_bytes_8 bytes 3472328296227680304 c.if-bytes-eq-WORD_BYTES.true (λ i. omega (arith, c.type_inv.bytes i))
    (sym (eqb-true c.from_le_bytes.result 3472328296227680304 equal) ∙ value))
