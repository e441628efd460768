use Rattle.std.proofs.Common.{◌≡◌, ℕ, ◌+◌, ◌*◌, ◌-◌, ◌/◌, ◌^◌, ◌<◌, List, [], ◌∷◌, ◌++◌, length, sym, ap, subst, ◌∙◌, append_assoc, arith}
use Rattle.std.specs.Int.Count.{count_trailing_zeros}
use Rattle.std.proofs.lemmas.List.{append-nil}
use Rattle.fb_shots_stim.specs.Shots.{places_from}
use Rattle.fb_shots_stim.specs.BlocksB8.{low_bits, is_set}
use Rattle.fb_shots_stim.proofs.LemmasB8.{low_none}
use Rattle.fb_shots_stim.proofs.WordBits.{next_set}
use Rattle.fb_shots_stim.proofs.packed.push_set_bits.Goals as goal

pub overflow_cast-place-in-loop-left : goal.overflow_cast-place-in-loop-left
overflow_cast-place-in-loop-left c =
    let at = c.loop-left in
    let count = c.args.first + length c.args.bytes.now * 8 - at.place in
    let next = next_set count 64 at.place at.left (omega arith) at.invariant.small (omega arith) in
    omega (arith, next.0)

pub loop-left-preserved : goal.loop-left-preserved
loop-left-preserved c =
    let at = c.loop-left in
    let end = c.args.first + length c.args.bytes.now * 8 in
    let count = end - at.place in
    let z = count_trailing_zeros 64 at.left in
    let next = next_set count 64 at.place at.left (omega arith) at.invariant.small (omega arith) in
    let size : count - (z + 1) ≡ end - (at.place + z + 1) = omega arith in
    let left = at.left / 2 ^ z / 2 in
    let after = places_from is_set (at.place + z + 1) (low_bits (end - (at.place + z + 1)) left) in
    let all : (at.place + z) ∷ after ≡ places_from is_set at.place (low_bits count at.left) =
    ap (λ (k : ℕ). (at.place + z) ∷ places_from is_set (at.place + z + 1) (low_bits k left)) (sym size) ∙ sym next.2 in
    record {
      after_first = omega arith;
      within = omega (arith, next.0);
      small = subst (λ (k : ℕ). left < 2 ^ k) size next.1;
      pushed = ap (λ (l : List ℕ). l ++ after) c.in_ok-push.ensures.items ∙ append_assoc at.places.items ((at.place + z) ∷ []) after
          ∙ ap (λ (l : List ℕ). at.places.items ++ l) all ∙ at.invariant.pushed;
    }

pub returns : goal.returns
returns c =
    let at = c.loop-left in
    let done : at.left ≡ 0 = omega arith in
    let count = c.args.first + length c.args.bytes.now * 8 - at.place in
    sym (append-nil at.places.items)
    ∙ ap (λ (l : List ℕ). at.places.items ++ l) (sym (ap (λ (m : ℕ). places_from is_set at.place (low_bits count m)) done ∙ low_none count at.place))
    ∙ at.invariant.pushed
