use Rattle.std.proofs.Common.{ℕ, ◌≡◌, ◌+◌, ◌<◌, List, get_or, length, set, take, Option, Some, None, sym, ◌∙◌, arith}
use Rattle.std.proofs.lemmas.Grind.{common_steps}
use Rattle.fb_links.specs.Names.{name_by}
use Rattle.fb_regions.specs.declared.marks.Mark.{Mark}
use Rattle.fb_regions.specs.InternalMerged.{AreMarksOverIn, renamed_mark}
use Rattle.fb_regions.specs.InternalNodes.{mark_of}
use Rattle.fb_regions.proofs.merging.take_marks.Goals.{in-Some+in_ok-put, in_default}
use Rattle.fb_regions.proofs.merging.take_marks.Goals as goal

-- the next vertex of the list has a mark
marks_more : (f : ℕ → ℕ) (vs : List ℕ) (i : ℕ) (left right old new : List (Option Mark)) (m : Mark) → i < length vs
    → get_or vs i 0 < length old → AreMarksOverIn (take i vs) f left right old → mark_of right (get_or vs i 0) ≡ Some m
    → new ≡ set old (get_or vs i 0) (Some (renamed_mark f m)) → AreMarksOverIn (take (i + 1) vs) f left right new
marks_more f vs i left right old new m less below was is put = grind (arith, common_steps)

-- it has none
marks_same : (f : ℕ → ℕ) (vs : List ℕ) (i : ℕ) (left right old : List (Option Mark)) → i < length vs
    → AreMarksOverIn (take i vs) f left right old → mark_of right (get_or vs i 0) ≡ None
    → AreMarksOverIn (take (i + 1) vs) f left right old
marks_same f vs i left right old less was none = grind (arith, common_steps)

pub loop-v-preserved : goal.loop-v-preserved
loop-v-preserved c =
    let vs = c.marked-v-items.result.now in
    let i = c.loop-v.v-index in
    elim c.match-at.branch [
      | in-Some+in_ok-put w ↦
          marks_more (name_by c.args.names.now) vs i c.args.marks.now c.args.others.now c.loop-v.marks c.match-at.marks w.in-Some.mark.now
          c.loop-v-test.true
          (omega (arith, c.marked-v-items.ensures.within i 0 c.loop-v-test.true, c.loop-v.invariant.count, c.requires))
          c.loop-v.invariant (sym w.in-Some.ensures) (w.marks-is ∙ rw w.of-leaf.ensures at w.in_ok-put.ensures.ok)
      | in_default w ↦
          rw w.marks-is
          (marks_same (name_by c.args.names.now) vs i c.args.marks.now c.args.others.now c.loop-v.marks c.loop-v-test.true c.loop-v.invariant
          (sym w.in_default.ensures))
    ]
