-- Ends of links along alternating paths.
use Rattle.std.proofs.Common.{ℕ, ◌≡◌, ◌+◌, inl, inr, List, [], ◌∷◌, refl, ap, arith}
use Rattle.std.proofs.lemmas.List.Elements.{All-head, All-tail}
use Rattle.fb_graph.specs.Parity.{is_in}
use Rattle.fb_graph.specs.Laws.{Link}
use Rattle.fb_graph.specs.Counts.{as_count}
use Rattle.fb_laws.specs.Paths.{LeadsOut, Joins, Branch, tip_of, tree_links, matched_links, holds, IsWhole, AreWholeOnPath, PathsJoined, PathEnds, Augmented, AugmentedReleasing}
use Rattle.fb_graph.proofs.EndSums.{ends_of_one, ends-cons, ends_append}

-- a link out of a set that is not divided
pub ends_out : (set part : List ℕ) (l : Link) (v : ℕ) → LeadsOut l part v → IsWhole set part
    → ends_of_one set l ≡ as_count (holds set part) + as_count (is_in set v)
ends_out set part l v (inl (from, to)) whole =
    omega (arith, ap as_count (whole l.from from), ap (λ u. as_count (is_in set u)) to)
ends_out set part l v (inr (to, from)) whole =
    omega (arith, ap as_count (whole l.to to), ap (λ u. as_count (is_in set u)) from)

-- a link between two sets that are not divided
pub ends_between : (set a b : List ℕ) (l : Link) → Joins l a b → IsWhole set a → IsWhole set b
    → ends_of_one set l ≡ as_count (holds set a) + as_count (holds set b)
ends_between set a b l (v, out, within) first second =
    omega (arith, ends_out set a l v out first, ap as_count (second v within))

pub paths_joined : PathsJoined
paths_joined root [] more path on = on
paths_joined root (b ∷ bs) more (tree, matched, rest) on = (tree, matched, paths_joined b.plus bs more rest on)

pub path_ends : PathEnds
path_ends set root [] path whole = refl
path_ends set root (b ∷ bs) (tree, matched, rest) whole =
    let Whole : Branch → Type 0 = λ x. IsWhole set x.minus × IsWhole set x.plus in
    let here : IsWhole set b.minus × IsWhole set b.plus = All-head Whole b bs whole.1 in
    omega (
      arith,
      ends-cons set b.tree (tree_links bs),
      ends-cons set b.matched (matched_links bs),
      ends_between set root b.minus b.tree tree whole.0 here.0,
      ends_between set b.minus b.plus b.matched matched here.0 here.1,
      path_ends set b.plus bs rest (here.1, All-tail Whole b bs whole.1),
    )

-- the tip is not divided either
pub whole_tip : (set root : List ℕ) (path : List Branch) → AreWholeOnPath set root path → IsWhole set (tip_of root path)
whole_tip set root [] whole = whole.0
whole_tip set root (b ∷ bs) whole =
    let Whole : Branch → Type 0 = λ x. IsWhole set x.minus × IsWhole set x.plus in
    whole_tip set b.plus bs ((All-head Whole b bs whole.1).1, All-tail Whole b bs whole.1)

pub augmented : Augmented
augmented set root path out v rest is whole leads =
    omega (
      arith,
      ends_append set (tree_links path) (out ∷ rest),
      ends-cons set out rest,
      ends_append set (matched_links path) rest,
      path_ends set root path is whole,
      ends_out set (tip_of root path) out v leads (whole_tip set root path whole),
    )

pub augmented_releasing : AugmentedReleasing
augmented_releasing set root path out old v b other rest is whole leads within undivided away outside =
    omega (
      arith,
      augmented set root path out v rest is whole leads,
      ends_append set (matched_links path) rest,
      ends_append set (matched_links path) (old ∷ rest),
      ends-cons set old rest,
      ends_out set other old b away undivided,
      ap as_count (undivided v within),
      ap as_count outside,
    )
