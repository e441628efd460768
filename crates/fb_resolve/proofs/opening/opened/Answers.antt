use Rattle.std.proofs.Common.{ℕ, ◌≡◌, ◌<◌, ◌≤◌, ◌∙◌, ◌++◌, ◌||◌, Bool, List, length, take, drop, Option, sym, ap, refl, subst, arith}
use Rattle.std.proofs.lemmas.List.{append-nil, drop_all, take_all}
use Rattle.fb_links.specs.declared.walk.Step.{Step}
use Rattle.fb_blossoms.specs.Nodes as blossoms
use Rattle.fb_resolve.specs.Openings.{is_reached, opened_numbers}
use Rattle.fb_resolve.specs.InternalMarks.{AreClosed, AreMarks, HasPlaces, is_marked}
use Rattle.fb_resolve.proofs.opening.opened.Goals as goal

-- a list that is written over another one of its length
written : (new old : List Bool) (n : ℕ) → length new ≡ length old → n ≡ length old → take n (new ++ drop (length new) old) ≡ new
written new old n long count = rw (drop_all (length new) old (omega arith), append-nil, take_all n new (omega arith)) refl

-- none of the nodes is opened yet
none_opened : (links : List (Option (List Step))) (store : List (Option blossoms.Node)) (matches names ids : List ℕ) (marks : List Bool)
    → HasPlaces store (length marks) → AreClosed store marks → AreMarks links store ids marks → ids ≡ matches
    → (length names ≤ length names) × HasPlaces store (length marks) × AreClosed store marks × AreMarks links store ids marks
    × (ids ≡ opened_numbers links store matches (drop (length names) names))
none_opened links store matches names ids marks places closed are is = (
  omega arith,
  places,
  closed,
  are,
  is ∙ ap (opened_numbers links store matches) (sym (drop_all (length names) names (omega arith))),
)

pub loop-i-init : goal.loop-i-init
loop-i-init c =
    let marks = c.in_ok-marks.marks in
    let links = c.args.links.now in
    let store = c.args.blossoms.now in
    let long = c.mark_links.auto.marks ∙ ap length c.deref_mut.ensures.value in
    let back = written c.mark_links.new.marks marks.items marks.len long marks.ok.0 in
    none_opened links store c.args.matches.now c.args.names.now c.in_ok-ids.ids.items _
    (rw back (λ x live. subst (λ n. x < n) (sym long) (c.in_ok-marks.ensures.places x (c.requires.names x live))))
    (rw back c.mark_links.ensures.closed)
    (rw back
    (λ x inside.
    c.mark_links.ensures.marks x inside
    ∙ (ap (λ b. b || is_reached links store c.args.matches.now x)
    (ap (λ l. is_marked l x) c.deref_mut.ensures.value ∙ c.in_ok-marks.ensures.none x)
    ∙ ap (λ l. is_reached links store l x) (sym c.in_ok-ids.ensures.items))))
    c.in_ok-ids.ensures.items
