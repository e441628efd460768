use Rattle.std.proofs.Common.{◌≡◌, ◌-◌, ◌∙◌, length, Some, None, refl, arith}
use Rattle.json.specs.Json.{read_key, value}
use Rattle.json.proofs.Grammar.{read_key-shorter}
use Rattle.serde_json.specs.Data.{no_members, put}
use Rattle.fb_json.proofs.JsonLoops.{member_read, members_over}
use Rattle.fb_graph_in.proofs.TokenMembers.{holds_none}
use Rattle.fb_graph_in.proofs.tokens.next_members.Goals as goal

pub members-init : goal.members-init
members-init c = (length c.args.reader.now, no_members, omega arith, refl, holds_none)

pub members-preserved : goal.members-preserved
members-preserved c =
    let l = c.members in
    let n = l.invariant.0 in
    let ms = l.invariant.1 in
    let k = c.in-Ok-Some.name.now in
    let s = c.next_key.new.self in
    let r = c.take_member.new.reader in
    let named : read_key l.reader ≡ Some (Some k, s) = grind arith in
    let done = c.in_ok-take_member-in-Ok-Some.ensures in
    let got = done.taken c.if-not-branch.false in
    let less = read_key-shorter l.reader (Some k) s named in
    let lesser = done.shorter c.if-not-branch.false in (
      n - 1,
      put k got.0 ms,
      omega (arith, l.invariant.2, less, lesser),
      l.invariant.3 ∙ member_read (value 126) ms n k l.reader s r got.0 (omega (arith, l.invariant.2, less)) named got.1,
      got.2 ms l.invariant.4,
    )

pub returns-in-Ok-None : goal.returns-in-Ok-None
returns-in-Ok-None c =
    let l = c.members in
    let over : read_key l.reader ≡ Some (None, c.next_key.new.self) = grind arith in
    (l.invariant.1, l.invariant.3 ∙ members_over (value 126) l.invariant.1 l.invariant.0 l.reader c.next_key.new.self l.invariant.2 over, l.invariant.4)
