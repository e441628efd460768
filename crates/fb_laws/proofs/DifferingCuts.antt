-- Cuts that differ as sets.
use Rattle.std.proofs.Common.{ℕ, ◌≡◌, ◌==◌, true, false, List, [], ◌∷◌, ◌++◌, All, get_or, refl, sym, ap, ◌∙◌, subst, arith}
use Rattle.std.proofs.lemmas.Bool.{both_ways, false_from_ne_true, or_from, eqb-true}
use Rattle.std.proofs.lemmas.List.Elements.{All-head, All-tail}
use Rattle.std.proofs.lemmas.List.Kept.{AllPairs-cons}
use Rattle.fb_graph.specs.Parity.{is_in}
use Rattle.fb_graph.specs.Certificate.{AreDistinct}
use Rattle.fb_graph.specs.Printed.{DifferAsSets}
use Rattle.fb_graph.proofs.Members.{is_in_pushed}
use Rattle.fb_graph.proofs.Nodes.{layers_hold}
use Rattle.fb_laws.specs.Differences.{LayersDiffer, ApartDiffer, InnerDiffers}

pub inner_differs : InnerDiffers
inner_differs c d v out within = (v, λ same. both_ways (is_in c.vertices v) out (same ∙ within))

pub apart_differ : ApartDiffer
apart_differ c d v within apart = (v, λ same. both_ways (is_in d.vertices v) (apart v within) (sym same ∙ within))

-- the last entry of a distinct list isn't among the others
last_is_new : (xs : List ℕ) (v : ℕ) → AreDistinct (xs ++ v ∷ []) → is_in xs v ≡ false
last_is_new [] v distinct = refl
last_is_new (x ∷ xs) v distinct =
    or_from (x == v) (is_in xs v)
    (false_from_ne_true (x == v)
    (λ e. both_ways (is_in (xs ++ v ∷ []) x) distinct.0
    (ap (is_in (xs ++ v ∷ [])) (eqb-true x v e) ∙ is_in_pushed xs v)))
    (last_is_new xs v distinct.1)

pub layers_differ : LayersDiffer
layers_differ [] grown distinct = λ i j d less below. absurd (omega arith)
layers_differ (c ∷ []) grown distinct = λ i j d less below. absurd (omega arith)
layers_differ (c ∷ b ∷ ds) grown distinct =
    AllPairs-cons DifferAsSets c (b ∷ ds)
    (λ i d less. inner_differs c (get_or (b ∷ ds) i d) grown.0.0 out (held i d less))
    (layers_differ (b ∷ ds) grown.1 rest)
  where
    rest : All (λ x. AreDistinct x.vertices) (b ∷ ds)
    rest = All-tail (λ x. AreDistinct x.vertices) c (b ∷ ds) distinct

    out : is_in c.vertices grown.0.0 ≡ false
    out =
        last_is_new c.vertices grown.0.0
        (subst AreDistinct grown.0.1 (All-head (λ x. AreDistinct x.vertices) b ds rest))

    held : All (λ x. is_in x.vertices grown.0.0 ≡ true) (b ∷ ds)
    held =
        layers_hold b ds grown.0.0 grown.1
        (ap (λ l. is_in l grown.0.0) grown.0.1 ∙ is_in_pushed c.vertices grown.0.0)
