-- Lists of cuts of which the one has a cut of value 0 more.
use Rattle.std.proofs.Common.{ℕ, zero, suc, ◌≡◌, ◌%◌, ◌≤◌, ◌^◌, inl, inr, cond, Bool, true, List, [], ◌∷◌, ◌++◌, All, AllPairs, get_or, sym, ap, ◌∙◌, subst, arith}
use Rattle.std.proofs.lemmas.Bool.{both_ways, false_from_ne_true}
use Rattle.std.proofs.lemmas.List.Elements.{All-cons, All-head, All-tail, All-weaker}
use Rattle.std.proofs.lemmas.List.Kept.{AllPairs-cons}
use Rattle.std.proofs.lemmas.List.Sums.{sum_by-append, sum_by-cons}
use Rattle.fb_graph.specs.Parity.{is_in}
use Rattle.fb_graph.specs.Problem.{Problem, crosses, with_defects}
use Rattle.fb_graph.specs.Certificate.{IsOddCut, IsPacking, total_value}
use Rattle.fb_graph.specs.Printed.{DifferAsSets}
use Rattle.fb_graph.specs.Dual.{Node, IsHeld, IsNestedOrApart, all_cuts, leaves, height_of}
use Rattle.fb_graph.specs.declared.parts.Cut.{Cut}
use Rattle.fb_graph.proofs.CutSums.{weigh, cond_zero}
use Rattle.fb_graph.specs.Nests.{HasSources}

pub record IsInserted (c : Cut) (old new : List Cut) : Type 0 where
  pub before : List Cut
  pub after : List Cut
  pub old_is : old ≡ before ++ after
  pub new_is : new ≡ before ++ c ∷ after
  pub bare : c.value ≡ 0

same_by : (test : List ℕ → Bool) (c : Cut) (before after : List Cut) → c.value ≡ 0 → weigh test (before ++ c ∷ after) ≡ weigh test (before ++ after)
same_by test c before after bare =
    omega (
      arith,
      sum_by-append f before (c ∷ after),
      sum_by-append f before after,
      sum_by-cons f c after,
      ap (λ x. cond (test c.vertices) x 0) bare,
      cond_zero (test c.vertices),
    )
  where
    f : Cut → ℕ
    f d = cond (test d.vertices) d.value 0

pub same_weigh : (test : List ℕ → Bool) (c : Cut) (old new : List Cut) → IsInserted c old new → weigh test new ≡ weigh test old
same_weigh test c old new is =
    ap (weigh test) is.new_is ∙ (same_by test c is.before is.after is.bare ∙ ap (weigh test) (sym is.old_is))

insert_All : (P : Cut → Type 0) (before after : List Cut) (c : Cut) → All P (before ++ after) → P c → All P (before ++ c ∷ after)
insert_All P [] after c h k = All-cons P c after k h
insert_All P (b ∷ bs) after c h k =
    All-cons P b (bs ++ c ∷ after) (All-head P b (bs ++ after) h) (insert_All P bs after c (All-tail P b (bs ++ after) h) k)

remove_All : (P : Cut → Type 0) (before after : List Cut) (c : Cut) → All P (before ++ c ∷ after) → All P (before ++ after)
remove_All P [] after c h = All-tail P c after h
remove_All P (b ∷ bs) after c h =
    All-cons P b (bs ++ after) (All-head P b (bs ++ c ∷ after) h) (remove_All P bs after c (All-tail P b (bs ++ c ∷ after) h))

pub inserted_All : (P : Cut → Type 0) (c : Cut) (old new : List Cut) → IsInserted c old new → All P old → P c → All P new
inserted_All P c old new is h k = subst (All P) (sym is.new_is) (insert_All P is.before is.after c (subst (All P) is.old_is h) k)

pub removed_All : (P : Cut → Type 0) (c : Cut) (old new : List Cut) → IsInserted c old new → All P new → All P old
removed_All P c old new is h = subst (All P) (sym is.old_is) (remove_All P is.before is.after c (subst (All P) is.new_is h))

pub pairs_head : {X : Type 0} (R : X → X → Type 0) (x : X) (xs : List X) → AllPairs R (x ∷ xs) → All (R x) xs
pairs_head R x xs h j d less = h zero (suc j) d (omega arith) (omega arith)

pub pairs_tail : {X : Type 0} (R : X → X → Type 0) (x : X) (xs : List X) → AllPairs R (x ∷ xs) → AllPairs R xs
pairs_tail R x xs h i j d less below = h (suc i) (suc j) d (omega arith) (omega arith)

insert_pairs : (R : Cut → Cut → Type 0) (before after : List Cut) (c : Cut) → AllPairs R (before ++ after)
    → All (λ x. R x c × R c x) (before ++ after) → AllPairs R (before ++ c ∷ after)
insert_pairs R [] after c h k = AllPairs-cons R c after (All-weaker (λ x. R x c × R c x) (R c) (λ x both. both.1) after k) h
insert_pairs R (b ∷ bs) after c h k =
    AllPairs-cons R b (bs ++ c ∷ after)
    (insert_All (R b) bs after c (pairs_head R b (bs ++ after) h) (All-head (λ x. R x c × R c x) b (bs ++ after) k).0)
    (insert_pairs R bs after c (pairs_tail R b (bs ++ after) h) (All-tail (λ x. R x c × R c x) b (bs ++ after) k))

remove_pairs : (R : Cut → Cut → Type 0) (before after : List Cut) (c : Cut) → AllPairs R (before ++ c ∷ after) → AllPairs R (before ++ after)
remove_pairs R [] after c h = pairs_tail R c after h
remove_pairs R (b ∷ bs) after c h =
    AllPairs-cons R b (bs ++ after) (remove_All (R b) bs after c (pairs_head R b (bs ++ c ∷ after) h))
    (remove_pairs R bs after c (pairs_tail R b (bs ++ c ∷ after) h))

pub inserted_pairs : (R : Cut → Cut → Type 0) (c : Cut) (old new : List Cut) → IsInserted c old new → AllPairs R old
    → All (λ x. R x c × R c x) old → AllPairs R new
inserted_pairs R c old new is h k =
    subst (AllPairs R) (sym is.new_is)
    (insert_pairs R is.before is.after c (subst (AllPairs R) is.old_is h) (subst (All (λ x. R x c × R c x)) is.old_is k))

pub removed_pairs : (R : Cut → Cut → Type 0) (c : Cut) (old new : List Cut) → IsInserted c old new → AllPairs R new → AllPairs R old
removed_pairs R c old new is h = subst (AllPairs R) (sym is.old_is) (remove_pairs R is.before is.after c (subst (AllPairs R) is.new_is h))

-- what is said of the cuts alone, for defects that stay
pub record AreFit (p : Problem) (defects : List ℕ) (cuts : List Cut) : Type 0 where
  pub packing : IsPacking (with_defects p defects) cuts
  pub laminar : AllPairs IsNestedOrApart cuts
  pub held : All (IsHeld p) cuts
  pub total : total_value cuts ≤ 2 ^ 52
  pub differ : AllPairs DifferAsSets cuts

pub nested_turned : (c d : Cut) → IsNestedOrApart c d → IsNestedOrApart d c
nested_turned c d (inl h) = inr (inl h)
nested_turned c d (inr (inl h)) = inl h
nested_turned c d (inr (inr h)) = inr (inr (λ v within. false_from_ne_true (is_in c.vertices v) (λ other. both_ways (is_in d.vertices v) (h v other) within)))

pub differ_turned : (c d : Cut) → DifferAsSets c d → DifferAsSets d c
differ_turned c d (v, h) = (v, λ same. h (sym same))

pub inserted_fit : (p : Problem) (defects : List ℕ) (c : Cut) (old new : List Cut) → IsInserted c old new → AreFit p defects old
    → IsOddCut (with_defects p defects) c → All (λ x. IsNestedOrApart x c × DifferAsSets x c) old → AreFit p defects new
inserted_fit p defects c old new is fit odd beside = record {
  packing = record {
    odd = inserted_All (IsOddCut (with_defects p defects)) c old new is fit.packing.odd odd;
    fits = λ i d less. let h = fit.packing.fits i d less in omega (arith, h, same_weigh (λ s. crosses s (get_or p.edges i d)) c old new is);
  };
  laminar = inserted_pairs IsNestedOrApart c old new is fit.laminar
      (All-weaker (λ x. IsNestedOrApart x c × DifferAsSets x c) (λ x. IsNestedOrApart x c × IsNestedOrApart c x)
      (λ x h. (h.0, nested_turned x c h.0)) old beside);
  held = inserted_All (IsHeld p) c old new is fit.held (inl is.bare);
  total = let h = fit.total in omega (arith, h, same_weigh (λ s. true) c old new is);
  differ = inserted_pairs DifferAsSets c old new is fit.differ
      (All-weaker (λ x. IsNestedOrApart x c × DifferAsSets x c) (λ x. DifferAsSets x c × DifferAsSets c x)
      (λ x h. (h.1, differ_turned x c h.1)) old beside);
}

pub removed_fit : (p : Problem) (defects : List ℕ) (c : Cut) (old new : List Cut) → IsInserted c old new → AreFit p defects new
    → AreFit p defects old
removed_fit p defects c old new is fit = record {
  packing = record {
    odd = removed_All (IsOddCut (with_defects p defects)) c old new is fit.packing.odd;
    fits = λ i d less. let h = fit.packing.fits i d less in omega (arith, h, same_weigh (λ s. crosses s (get_or p.edges i d)) c old new is);
  };
  laminar = removed_pairs IsNestedOrApart c old new is fit.laminar;
  held = removed_All (IsHeld p) c old new is fit.held;
  total = let h = fit.total in omega (arith, h, same_weigh (λ s. true) c old new is);
  differ = removed_pairs DifferAsSets c old new is fit.differ;
}

pub sources_same : (old new : List Node) (set : List ℕ) → leaves new ≡ leaves old
    → ((v : ℕ) → height_of (all_cuts new) v ≡ height_of (all_cuts old) v) → HasSources old set → HasSources new set
sources_same old new set same height has v within =
    let (d, holds, leaf, parity) = has v within in
    (d, holds, ap (λ l. is_in l d) same ∙ leaf, ap (λ h. h % 2) (height d) ∙ (parity ∙ ap (λ h. h % 2) (sym (height v))))
