use Rattle.std.proofs.Common.{◌≡◌, ◌+◌, ◌*◌, ◌^◌, ◌<◌, ℕ, length, get_or, sym, ap, subst, ◌∙◌, arith}
use Rattle.std.specs.Int.{from_le_bytes, w64}
use Rattle.std.proofs.lemmas.List.{take_all}
use Rattle.fb_shots_stim.specs.BlocksB8.{low_bits, bits_of}
use Rattle.fb_shots_stim.proofs.WordBits.{word_more, fits_word, no_bits, whole_word}
use Rattle.fb_shots_stim.proofs.packed.+word_of.Goals as goal

pub returns-in-Some-clause-bits : goal.returns-in-Some-clause-bits
returns-in-Some-clause-bits t c =
    let bytes = c.args.bytes.now in
    let some = c.in-Some.ensures.cases in
    let size : length bytes ≡ 8 = omega (arith, c.requires, some.enough) in
    let value : c.from_le_bytes.result ≡ from_le_bytes w64 bytes =
    c.from_le_bytes.ensures ∙ ap (from_le_bytes w64) (some.same ∙ take_all 8 bytes (omega arith)) in
    subst (λ (n : ℕ). low_bits (length bytes * 8) n ≡ bits_of bytes) (sym value) (whole_word bytes size (λ i. omega (arith, c.type_inv.bytes i))).0

pub returns-in-Some-clause-size : goal.returns-in-Some-clause-size
returns-in-Some-clause-size t c =
    let bytes = c.args.bytes.now in
    let some = c.in-Some.ensures.cases in
    let size : length bytes ≡ 8 = omega (arith, c.requires, some.enough) in
    let value : c.from_le_bytes.result ≡ from_le_bytes w64 bytes =
    c.from_le_bytes.ensures ∙ ap (from_le_bytes w64) (some.same ∙ take_all 8 bytes (omega arith)) in
    subst (λ (n : ℕ). n < 2 ^ (length bytes * 8)) (sym value) (whole_word bytes size (λ i. omega (arith, c.type_inv.bytes i))).1

pub overflow_mul-result : goal.overflow_mul-result
overflow_mul-result t c =
    let bytes = c.args.bytes.now in
    let size = c.requires in
    let more = word_more bytes c.word_of.result (omega arith) (omega (arith, c.type_inv.bytes 0)) c.word_of.ensures.bits c.word_of.ensures.size in
    let all = fits_word (length bytes) (get_or bytes 0 0 + c.word_of.result * 256) size more.1 in
    omega arith

pub overflow_add-result : goal.overflow_add-result
overflow_add-result t c =
    let bytes = c.args.bytes.now in
    let more = word_more bytes c.word_of.result (omega arith) (omega (arith, c.type_inv.bytes 0)) c.word_of.ensures.bits c.word_of.ensures.size in
    let all = fits_word (length bytes) (get_or bytes 0 0 + c.word_of.result * 256) c.requires more.1 in
    omega arith

pub returns-in-empty-clause-bits : goal.returns-in-empty-clause-bits
returns-in-empty-clause-bits t c = no_bits c.args.bytes.now (omega arith)

pub returns-in-len1-up-clause-bits : goal.returns-in-len1-up-clause-bits
returns-in-len1-up-clause-bits t c =
    let bytes = c.args.bytes.now in
    let first : c.from.result ≡ get_or bytes 0 0 = omega arith in
    subst (λ (b : ℕ). low_bits (length bytes * 8) (b + c.word_of.result * 256) ≡ bits_of bytes) (sym first)
    (word_more bytes c.word_of.result (omega arith) (omega (arith, c.type_inv.bytes 0)) c.word_of.ensures.bits c.word_of.ensures.size).0

pub returns-in-len1-up-clause-size : goal.returns-in-len1-up-clause-size
returns-in-len1-up-clause-size t c =
    let bytes = c.args.bytes.now in
    let below = (word_more bytes c.word_of.result (omega arith) (omega (arith, c.type_inv.bytes 0)) c.word_of.ensures.bits c.word_of.ensures.size).1 in
    omega arith
