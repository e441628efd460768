use Rattle.std.proofs.Common.{◌≡◌, ◌+◌, ◌*◌, List, ℕ, ◌++◌, length, sym, ap, ◌∙◌, append_assoc, length-append, arith}
use Rattle.std.proofs.lemmas.List.Concat.{flat_map-append}
use Rattle.std.specs.Slice.Iter.{chunks_rest}
use Rattle.fb_shots_stim.specs.Shots.{places_from}
use Rattle.fb_shots_stim.specs.BlocksB8.{low_bits, bits_of, is_set}
use Rattle.fb_shots_stim.proofs.LemmasB8.{places_append, length_bits}
use Rattle.fb_shots_stim.proofs.packed.set_bits.Goals as goal

pub loop-bytes-preserved : goal.loop-bytes-preserved
loop-bytes-preserved c =
    let at = c.loop-bytes in
    let bytes = c.in-Some.bytes.now in
    let before = chunks_rest at.bytes-iterator in
    let rest = chunks_rest c.next.new.self in
    let after = places_from is_set (at.first + length bytes * 8) (bits_of rest) in
    let parts : before ≡ bytes ++ rest = c.in-Some.ensures.steps.1.0 in
    let here : places_from is_set at.first (bits_of bytes) ++ after ≡ places_from is_set at.first (bits_of before) =
    sym (ap (λ (l : List ℕ). places_from is_set at.first (bits_of l)) parts
    ∙ ap (places_from is_set at.first) (flat_map-append (low_bits 8) bytes rest)
    ∙ places_append is_set at.first (bits_of bytes) (bits_of rest)
    ∙ ap (λ (k : ℕ). places_from is_set at.first (bits_of bytes) ++ places_from is_set (at.first + k) (bits_of rest)) (length_bits bytes)) in
    let size : length before ≡ length bytes + length rest = ap length parts ∙ length-append bytes rest in
    record {
      next = omega (arith, at.invariant.size, c.in-Some.ensures.steps.0);
      finite = tt;
      size = c.in-Some.ensures.steps.0 ∙ at.invariant.size;
      left = omega (arith, at.invariant.left);
      pushed = ap (λ (l : List ℕ). l ++ after) c.in_ok-push_set_bits.ensures
          ∙ append_assoc at.places.items (places_from is_set at.first (bits_of bytes)) after
          ∙ ap (λ (l : List ℕ). at.places.items ++ l) here ∙ at.invariant.pushed;
    }
