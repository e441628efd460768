use Rattle.std.proofs.Common.{◌≡◌, ◌*◌, ◌<◌, ◌≤◌, ℕ, List, [], ◌∷◌, length, sym, ap, subst, ◌∙◌, arith}
use Rattle.fb_plan.specs.Plans.{JobValue, PlanTree, IsTree, node_count}
use Rattle.std.proofs.lemmas.List.{get_or_default, length-append}
use Rattle.fb_book.specs.declared.entries.Entry.{Entry}
use Rattle.fb_book.specs.Machine.{IsComplete}
use Rattle.fb_slots.specs.Listed.{listed_by, gains}
use Rattle.fb_slots.specs.Ordered.{IsByItem}
use Rattle.fb_slots.specs.Slots.{layout_of}
use Rattle.fb_slots.proofs.Layouts.{is_layout}
use Rattle.fb_slots.proofs.Ordering.{as_many, by_item}
use Rattle.fb_slots.proofs.Taking.{listed_step, all_listing, all_complete}
use Rattle.std.specs.List.{All}
use Rattle.fb_slots.proofs.Ran.{by_listing, within_by}
use Rattle.fb_slots.proofs.history.history_of.Goals as goal

-- the plan, and the numbers of nodes and items, by the job that the board names
plan_is : (a b : JobValue) (plan : PlanTree) → a ≡ b → plan ≡ b.plan → plan ≡ a.plan
plan_is a b plan e f = f ∙ ap (λ j. j.plan) (sym e)

count_is : (a b : JobValue) (shots : ℕ) (nodes count : ℕ) → a ≡ b → shots ≡ length b.shots
    → nodes ≡ node_count a.plan → count ≡ shots * nodes → count ≡ length a.shots * node_count a.plan
count_is a b shots nodes count e f n c = c ∙ (λ i. (f ∙ ap (λ j. length j.shots) (sym e)) i * n i)

pub loop-place-preserved : goal.loop-place-preserved
loop-place-preserved g c =
    let job = g.N.Board.job in
    let same : c.plan-plan.result.now ≡ job.plan = plan_is job c.args.job.now c.plan-plan.result.now
    c.requires.job c.plan-plan.ensures in
    let tree : IsTree job.plan = subst IsTree same c.keeps-2.ensures.tree in
    let few : length job.shots < 4294967296 = subst (λ j. length j.shots < 4294967296)
    (sym c.requires.job) c.keeps.ensures.count in
    let nodes : c.nodes-nodes.result ≡ node_count job.plan = c.nodes-nodes.ensures
    ∙ ap node_count same in
    let count = count_is job c.args.job.now (length c.shots.result.now) c.nodes-nodes.result
    c.count_of-count.result c.requires.job (ap length c.shots.ensures) nodes
    c.count_of-count.ensures.value in
    let less : c.loop-place.place < length job.shots * node_count job.plan =
    subst (λ n. c.loop-place.place < n) count c.loop-place-test.true in
    let v = c.index-worker.result.now in
    let ws = c.in_ok-workers.workers.items in
    let inside : c.loop-place.place < length ws = subst (λ n. c.loop-place.place < n)
    (sym c.in_ok-workers.ensures.count) c.loop-place-test.true in
    let taker = c.index-worker.ensures ∙ (get_or_default ws c.loop-place.place v 0 inside
    ∙ c.in_ok-workers.ensures.each c.loop-place.place c.loop-place-test.true) in
    let one = ap length c.push_reserved.ensures.items ∙ length-append c.loop-place.history.items
    (c.entry_of.result ∷ []) in
    let two = ap length c.push_reserved-in-loop-place.ensures.items
    ∙ length-append c.push_reserved.new.self.items (c.entry_of-in-loop-place.result ∷ []) in
    let before = c.loop-place.invariant.1 in
    let room = c.loop-place.invariant.2 in
    let room_one = c.push_reserved.ensures.capacity in
    let room_two = c.push_reserved-in-loop-place.ensures.capacity in (
      listed_step (layout_of job g.N.Board.workers) (is_layout job g.N.Board.workers tree few
          c.requires.workers) c.args.entries.now c.requires.whole
          c.nodes-nodes.result c.loop-place.place v c.loop-place.history.items
          c.push_reserved.new.self.items c.push_reserved-in-loop-place.new.self.items
          c.entry_of.result c.entry_of-in-loop-place.result nodes less taker
          c.loop-place.invariant.0 c.entry_of.ensures c.entry_of-in-loop-place.ensures
          c.push_reserved.ensures.items c.push_reserved-in-loop-place.ensures.items,
      omega (arith, one, two, before),
      omega (arith, room, room_one, room_two),
    )

-- at the end all items are listed
ended : (es h : List Entry) (n m place count all : ℕ) → h ≡ listed_by gains n es place → n ≡ m
    → count ≡ all → count ≤ place → place ≤ count → h ≡ listed_by gains m es all
ended es h n m place count all e f g more less =
    let at : place ≡ all = omega (arith, g, more, less) in
    e ∙ (ap (λ x. listed_by gains x es place) f ∙ ap (listed_by gains m es) at)

pub returns : goal.returns
returns g c =
    let job = g.N.Board.job in
    let es = c.args.entries.now in
    let b = layout_of job g.N.Board.workers in
    let same : c.plan-plan.result.now ≡ job.plan = plan_is job c.args.job.now c.plan-plan.result.now
    c.requires.job c.plan-plan.ensures in
    let tree : IsTree job.plan = subst IsTree same c.keeps-2.ensures.tree in
    let few : length job.shots < 4294967296 = subst (λ j. length j.shots < 4294967296)
    (sym c.requires.job) c.keeps.ensures.count in
    let nodes : c.nodes-nodes.result ≡ node_count job.plan = c.nodes-nodes.ensures
    ∙ ap node_count same in
    let count = count_is job c.args.job.now (length c.shots.result.now) c.nodes-nodes.result
    c.count_of-count.result c.requires.job (ap length c.shots.ensures) nodes
    c.count_of-count.ensures.value in
    let is = is_layout job g.N.Board.workers tree few c.requires.workers in
    let all = ended es c.loop-place.history.items c.nodes-nodes.result (node_count job.plan)
    c.loop-place.place c.count_of-count.result (length job.shots * node_count job.plan)
    c.loop-place.invariant.0 nodes count c.loop-place-test.false c.loop-place.auto.place-end in
    let listed = all ∙ all_listing b is es c.requires.whole in
    record {
      listing = listed;
      order = subst (IsByItem (node_count job.plan)) (sym all) (by_item b es c.requires.whole);
      count = ap length all ∙ as_many b es c.requires.whole;
      workers = subst (All (λ e. e.worker ≤ g.N.Board.workers)) (sym listed)
          (by_listing g.N.Board.workers b.nodes b.count es
          (within_by b es c.requires.whole.within));
      complete = subst (IsComplete b.kids b.nodes b.count) (sym all)
          (all_complete b is es c.requires.whole c.requires.ordered);
    }
