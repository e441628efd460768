-- Nodes of one defect each are a nest.
use Rattle.std.proofs.Common.{◌≡◌, ◌==◌, inl, true, false, List, [], ◌∷◌, map, All, AllPairs, get_or, refl, sym, ap, ◌∙◌, subst, arith}
use Rattle.std.proofs.Math.Bool.{or-false}
use Rattle.std.proofs.lemmas.Bool.{both_ways, eq-eqb, eqb-true}
use Rattle.std.proofs.lemmas.List.Elements.{All-nil, All-map}
use Rattle.std.proofs.lemmas.List.Kept.{AllPairs-cons}
use Rattle.fb_graph.specs.Parity.{is_in}
use Rattle.fb_graph.specs.Certificate.{AreDistinct}
use Rattle.fb_graph.specs.Printed.{DifferAsSets}
use Rattle.fb_graph.specs.Problem.{Problem}
use Rattle.fb_graph.specs.Dual.{IsDual, AreApart, is_empty, is_live}
use Rattle.fb_graph.specs.Ends.{AreAllApart}
use Rattle.fb_graph.specs.Nests.{IsNest, IsFormed, IsFilled, AreJoinedLater, HasSources, child_sets}
use Rattle.fb_graph.specs.Moves.{NestBegins}
use Rattle.fb_graph.specs.Singles.{Single, node_of, nodes_of, vertices_of}
use Rattle.fb_graph.proofs.SingleStates.{cut_of, cuts_are, leaves_are, beginning_is_dual, vertex_in}

joined_later : (singles : List Single) → AreJoinedLater (nodes_of singles)
joined_later [] = tt
joined_later (s ∷ ss) = (
  All-map (λ m. is_in [] m.name ≡ false) node_of (s ∷ ss) (λ i d less. refl),
  All-map (λ m. AreApart [] m.children) node_of ss (λ i d less v h. absurd (both_ways (is_in [] v) refl h)),
  joined_later ss,
)

differ : (singles : List Single) → AreDistinct (vertices_of singles) → AllPairs DifferAsSets (map cut_of singles)
differ [] distinct = λ i j d less below. absurd (omega arith)
differ (s ∷ ss) distinct =
    AllPairs-cons DifferAsSets (cut_of s) (map cut_of ss)
    (All-map (DifferAsSets (cut_of s)) cut_of ss
    (λ i d less. (
      s.vertex,
      λ same.
          both_ways (is_in (vertices_of ss) s.vertex) distinct.0
          (ap (is_in (vertices_of ss))
          (sym (eqb-true (get_or ss i d).vertex s.vertex
          (sym (or-false ((get_or ss i d).vertex == s.vertex))
          ∙ (sym same ∙ (or-false (s.vertex == s.vertex) ∙ eq-eqb s.vertex s.vertex refl)))))
          ∙ vertex_in ss i d less),
    )))
    (differ ss distinct.1)

-- a dual state of nodes of one defect each is a nest
pub singles_are_nest : (p : Problem) (singles : List Single) → AreDistinct (vertices_of singles) → IsDual p (nodes_of singles)
    → IsNest p (nodes_of singles)
singles_are_nest p singles vertices dual = record {
  dual = dual;
  forest = record {
    formed = All-map IsFormed node_of singles (λ i d less. inl (record { none = refl; defect = refl }));
    live = All-map (λ n. All (λ c. is_live (nodes_of singles) c ≡ true) n.children) node_of singles
        (λ i d less. All-nil (λ c. is_live (nodes_of singles) c ≡ true));
    joined = joined_later singles;
    filled = All-map (IsFilled (nodes_of singles)) node_of singles (λ i d less some v. absurd (both_ways (is_empty []) some refl));
    parted = All-map (λ n. AreAllApart (child_sets (nodes_of singles) n)) node_of singles (λ i d less. tt);
  };
  defects = subst AreDistinct (sym (leaves_are singles)) vertices;
  sources = All-map (λ n. HasSources (nodes_of singles) n.top.vertices) node_of singles
      (λ i d less v within. (
        v,
        within,
        ap (λ l. is_in l v) (leaves_are singles)
            ∙ (ap (is_in (vertices_of singles)) (sym (eqb-true (get_or singles i d).vertex v (sym (or-false ((get_or singles i d).vertex == v)) ∙ within)))
            ∙ vertex_in singles i d less),
        refl,
      ));
  differ = subst (AllPairs DifferAsSets) (sym (cuts_are singles)) (differ singles vertices);
}

pub nest_begins : NestBegins
nest_begins p singles names vertices real zero_ =
    singles_are_nest p singles vertices (beginning_is_dual p singles names vertices real zero_)
