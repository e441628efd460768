use Rattle.std.proofs.Common.{◌≡◌, ◌-◌, ◌<◌, ◌∷◌, length, Some, None, arith, sym, subst}
use Rattle.json.specs.Token.{Token}
use Rattle.json.specs.Json.{after_end_array}
use Rattle.fb_json.specs.NumberTokens.{Begins, natural_data}
use Rattle.fb_json.proofs.ListTokens.{GoesOn, goes_on, list_read, none_before}
use Rattle.fb_json.proofs.number_tokens.next_naturals.Goals as goal

pub entries-init : goal.entries-init
entries-init c =
    let start = c.next.new.self in
    (length start, omega arith, λ depth. subst (λ xs. GoesOn natural_data depth start xs (length start) start) (sym c.new-found.ensures.items) (none_before _), omega arith)

pub entries-preserved : goal.entries-preserved
entries-preserved c =
    let l = c.entries in
    let n = l.invariant.0 in
    let going : (after_end_array l.reader ≡ None) × (c.take_end_array.new.self ≡ l.reader) = grind arith in
    let done = c.in-Some.ensures in
    let r = c.next_natural.new.reader in
    let less : length r < length l.reader = rw (← going.1) done.shorter in (
      n - 1,
      omega (arith, l.invariant.1, less),
      λ depth. subst (λ xs. GoesOn natural_data depth c.next.new.self xs (n - 1) r) (sym c.in_ok-push.ensures.items)
          (goes_on natural_data depth c.next.new.self l.found.items n l.reader r c.in-Some.entry (omega (arith, l.invariant.1, less)) going.0 (subst (λ ts. Begins depth ts (natural_data c.in-Some.entry) r) going.1 (done.value depth)) (l.invariant.2 depth)),
      omega (arith, l.invariant.3, less),
    )

pub returns-clause-value : goal.returns-clause-value
returns-clause-value c = λ depth deep.
    let l = c.entries in
    let is : c.args.reader.now ≡ Token.begin_array ∷ c.next.new.self = grind arith in
    let over : after_end_array l.reader ≡ Some c.take_end_array.new.self = grind arith in
    rw is (list_read natural_data depth c.next.new.self l.found.items l.invariant.0 l.reader c.take_end_array.new.self (deep) l.invariant.1 over (l.invariant.2 (depth - 1)))
