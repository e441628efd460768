use Rattle.std.proofs.Common.{◌≡◌, ◌∙◌, ◌++◌, Bool, ℕ, ap, sym}
use Rattle.std.proofs.lemmas.Result.{IfOk-weaker}
use Rattle.fb_graph.specs.Parity.{differ, is_odd_count}
use Rattle.fb_graph.proofs.ParitySums.{odd-append}
use Rattle.fb_half.proofs.shifting.odd_among.Goals as goal

pub returns-clause-parity : goal.returns-clause-parity
returns-clause-parity c =
    let xs = c.args.first.now in
    let ys = c.args.second.now in
    let zs = c.args.third.now in
    IfOk-weaker c.symmetric_difference-2.result
    (λ odd. (test : ℕ → Bool) → is_odd_count test odd.items ≡ is_odd_count test (c.in_ok-odd.odd.items ++ zs))
    (λ odd. (test : ℕ → Bool) → is_odd_count test odd.items ≡ is_odd_count test ((xs ++ ys) ++ zs))
    (λ odd same test.
    same test
    ∙ (odd-append test c.in_ok-odd.odd.items zs
    ∙ (ap (λ b. differ b (is_odd_count test zs))
    (c.in_ok-odd.ensures.parity test ∙ ap (λ l. is_odd_count test (l ++ ys)) c.in_ok-own.ensures.items)
    ∙ sym (odd-append test (xs ++ ys) zs))))
    c.symmetric_difference-2.ensures.parity
