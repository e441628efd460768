use Rattle.std.proofs.Common.{length}
use Rattle.fb_crew.proofs.Members.{counted}
use Rattle.fb_crew.proofs.crew.+fn-work_each-others+work_each.Goals as goal

pub returns-clause-count : goal.returns-clause-count
returns-clause-count g n c =
    counted (λ ms. length ms.items) (λ ms. length ms.items) c.join_member-2.result c.join-member.result.1 (length c.pop_member.new.members.items)
    (length c.args.members.items) c.in-Some.ensures.some c.join_member-2.ensures.count c.join-member.ensures.second.1
