use Rattle.std.proofs.Common.{ℕ, List, ◌∙◌, sym, subst}
use Rattle.std.specs.List.Sorted.{IsPermutation}
use Rattle.fb_shots_json.proofs.Defects.{defects_good, defects_bad, defects_repeat, defects_shot}
use Rattle.fb_shots_json.proofs.entries.defects.Goals as goal

pub returns-then-not-is_rising-clause-refused : goal.returns-then-not-is_rising-clause-refused
returns-then-not-is_rising-clause-refused c =
    let sorted = c.sort_unstable.ensures in
    defects_repeat c.args.graph.now c.args.listed.now c.sort_unstable.new.self.items
    (subst (λ (l : List ℕ). IsPermutation l c.sort_unstable.new.self.items) c.in_ok-found.ensures.prefix sorted.permutation) sorted.sorted
    (λ rises. absurd (let up = c.is_rising.ensures.1 (rw c.deref.ensures.value rises) in let not_ = c.if-not-is_rising.true in cc))

pub returns-in-Some-clause-refused : goal.returns-in-Some-clause-refused
returns-in-Some-clause-refused c =
    let rises = c.is_rising.ensures.0 c.if-not-is_rising.false in
    defects_bad c.args.graph.now c.args.listed.now c.sort_unstable.new.self.items c.in-Some.kind (sym c.in_ok-found.ensures.fault ∙ c.in-Some.is)
    (subst (λ (l : List ℕ). IsPermutation l c.sort_unstable.new.self.items) c.in_ok-found.ensures.prefix c.sort_unstable.ensures.permutation)
    (rw c.deref.ensures.value at rises)

pub returns-in-None-clause-ok : goal.returns-in-None-clause-ok
returns-in-None-clause-ok c =
    let rises = c.is_rising.ensures.0 c.if-not-is_rising.false in
    (defects_good c.args.graph.now c.args.listed.now c.sort_unstable.new.self.items (sym c.in_ok-found.ensures.fault ∙ c.in-None.is)
    (subst (λ (l : List ℕ). IsPermutation l c.sort_unstable.new.self.items) c.in_ok-found.ensures.prefix c.sort_unstable.ensures.permutation)
    (rw c.deref.ensures.value at rises)).0

pub returns-in-None-clause-rising : goal.returns-in-None-clause-rising
returns-in-None-clause-rising c =
    let rises = c.is_rising.ensures.0 c.if-not-is_rising.false in
    (defects_good c.args.graph.now c.args.listed.now c.sort_unstable.new.self.items (sym c.in_ok-found.ensures.fault ∙ c.in-None.is)
    (subst (λ (l : List ℕ). IsPermutation l c.sort_unstable.new.self.items) c.in_ok-found.ensures.prefix c.sort_unstable.ensures.permutation)
    (rw c.deref.ensures.value at rises)).1

pub returns-in-None-clause-shot : goal.returns-in-None-clause-shot
returns-in-None-clause-shot c =
    let rises = c.is_rising.ensures.0 c.if-not-is_rising.false in
    defects_shot c.args.graph.now c.args.listed.now c.sort_unstable.new.self.items
    (subst (λ (l : List ℕ). IsPermutation l c.sort_unstable.new.self.items) c.in_ok-found.ensures.prefix c.sort_unstable.ensures.permutation)
    (rw c.deref.ensures.value at rises)
