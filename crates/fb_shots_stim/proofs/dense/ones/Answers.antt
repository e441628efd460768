use Rattle.std.proofs.Common.{◌≡◌, ◌+◌, List, ℕ, ◌++◌, length, sym, ap, ◌∙◌, append_assoc, length-append, arith}
use Rattle.std.specs.Slice.Iter.{chunks_rest}
use Rattle.fb_shots_stim.specs.Shots.{places_from}
use Rattle.fb_shots_stim.specs.Text01.{is_one}
use Rattle.fb_shots_stim.proofs.LemmasB8.{places_append}
use Rattle.fb_shots_stim.proofs.dense.ones.Goals as goal

pub loop-word-preserved : goal.loop-word-preserved
loop-word-preserved c =
    let at = c.loop-word in
    let word = c.in-Some.word.now in
    let before = chunks_rest at.word-iterator in
    let rest = chunks_rest c.next.new.self in
    let after = places_from is_one (at.first + length word) rest in
    let parts : before ≡ word ++ rest = c.in-Some.ensures.steps.1.0 in
    let here : places_from is_one at.first word ++ after ≡ places_from is_one at.first before =
    sym (ap (places_from is_one at.first) parts ∙ places_append is_one at.first word rest) in
    let size : length before ≡ length word + length rest = ap length parts ∙ length-append word rest in
    record {
      next = omega (arith, at.invariant.size, c.in-Some.ensures.steps.0);
      finite = tt;
      size = c.in-Some.ensures.steps.0 ∙ at.invariant.size;
      left = omega (arith, at.invariant.left);
      pushed = ap (λ (l : List ℕ). l ++ after) c.in_ok-push_ones.ensures
          ∙ append_assoc at.places.items (places_from is_one at.first word) after
          ∙ ap (λ (l : List ℕ). at.places.items ++ l) here ∙ at.invariant.pushed;
    }
