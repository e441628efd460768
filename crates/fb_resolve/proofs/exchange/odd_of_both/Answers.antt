use Rattle.std.proofs.Common.{◌≡◌, ◌∙◌, ◌++◌, Bool, ℕ, ap, sym}
use Rattle.std.proofs.lemmas.Result.{IfOk-weaker}
use Rattle.fb_graph.specs.Parity.{differ, is_odd_count}
use Rattle.fb_graph.proofs.ParitySums.{differ_assoc, differ_comm, odd-append}
use Rattle.fb_resolve.proofs.exchange.odd_of_both.Goals as goal

pub returns-clause-parity : goal.returns-clause-parity
returns-clause-parity c =
    let own = c.args.numbers.items in
    let others = c.args.others.now in
    let front = c.split_at.result.0.now in
    let rest = c.split_at.result.1.now in
    let sorted = c.into_vec.result.items in
    IfOk-weaker c.symmetric_difference.result
    (λ odd. (test : ℕ → Bool) → is_odd_count test odd.items ≡ is_odd_count test (sorted ++ front))
    (λ odd. (test : ℕ → Bool) → is_odd_count test odd.items ≡ is_odd_count test (own ++ others))
    (λ odd same test.
    same test
    ∙ (odd-append test sorted front
    ∙ (ap (λ b. differ b (is_odd_count test front))
    (ap (is_odd_count test) c.into_vec.ensures
    ∙ (c.odd_ones.ensures.parity test
    ∙ (ap (is_odd_count test) c.in_ok-extend_from_slice.ensures.items ∙ odd-append test own rest)))
    ∙ (differ_assoc (is_odd_count test own) (is_odd_count test rest) (is_odd_count test front)
    ∙ (ap (differ (is_odd_count test own))
    (differ_comm (is_odd_count test rest) (is_odd_count test front)
    ∙ (sym (odd-append test front rest) ∙ ap (is_odd_count test) (sym c.split_at.ensures.by_index.0)))
    ∙ sym (odd-append test own others))))))
    c.symmetric_difference.ensures.parity
