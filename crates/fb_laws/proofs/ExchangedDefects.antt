-- A dual state doesn't see the problem's own defects.
use Rattle.std.proofs.Common.{ℕ, Bool, ◌≡◌, ◌+◌, List, All, sum_by, refl, subst}
use Rattle.std.proofs.lemmas.List.Elements.{All-weaker}
use Rattle.fb_graph.specs.Problem.{Problem, edge_at, with_defects}
use Rattle.fb_graph.specs.Dual.{Node, IsDual, all_cuts, height_of}
use Rattle.fb_graph.specs.SourceWalks.{IsEdgeIn, HasWalks}
use Rattle.fb_graph.specs.Parity.{is_in}
use Rattle.fb_laws.specs.ExchangedDefects.{DualExchanged, NestExchanged, WalksExchanged}
use Rattle.fb_graph.proofs.Walks.{walk_same}

-- the defects of two problems of one graph may differ
dual_by : (p : Problem) (f g : ℕ → Bool) (nodes : List Node) → IsDual (record p { is_defect = f }) nodes
    → IsDual (record p { is_defect = g }) nodes
dual_by p f g nodes dual = record {
  packing = dual.packing;
  names = dual.names;
  laminar = dual.laminar;
  grown = dual.grown;
  held = dual.held;
  total = dual.total;
  apart = dual.apart;
  radii = dual.radii;
  defects = dual.defects;
  real = dual.real;
  uncovered = dual.uncovered;
  loads = dual.loads;
  parity = dual.parity;
}

dual_onto : (p : Problem) (nodes : List Node) (defects : List ℕ) → IsDual p nodes → IsDual (with_defects p defects) nodes
dual_onto p nodes defects = dual_by p p.is_defect (is_in defects) nodes

dual_back : (p : Problem) (nodes : List Node) (defects : List ℕ) → IsDual (with_defects p defects) nodes → IsDual p nodes
dual_back p nodes defects = dual_by p (is_in defects) p.is_defect nodes

pub dual_exchanged : DualExchanged
dual_exchanged p nodes defects = (dual_onto p nodes defects, dual_back p nodes defects)

pub nest_exchanged : NestExchanged
nest_exchanged p nodes defects = (
  λ nest. record {
    dual = dual_onto p nodes defects nest.dual;
    forest = nest.forest;
    defects = nest.defects;
    sources = nest.sources;
    differ = nest.differ;
  },
  λ nest. record {
    dual = dual_back p nodes defects nest.dual;
    forest = nest.forest;
    defects = nest.defects;
    sources = nest.sources;
    differ = nest.differ;
  },
)

-- a walk inside a set, over the same edges
walks_over : (p q : Problem) (nodes : List Node) (set : List ℕ) → p.edges ≡ q.edges → HasWalks p nodes set → HasWalks q nodes set
walks_over p q nodes set edges has v within =
    let (walk, d, is) = has v within in (
      walk,
      d,
      record {
        defect = is.defect;
        begins = is.begins;
        stays = subst (λ es. All (λ k. IsEdgeIn set (edge_at es k)) walk) edges is.stays;
        source = record {
          leads = walk_same p q edges walk d v is.source.leads;
          balance =
              subst (λ es. sum_by (λ k. (edge_at es k).weight) walk + height_of (all_cuts nodes) v ≡ height_of (all_cuts nodes) d)
              edges is.source.balance;
        };
      },
    )

pub walks_exchanged : WalksExchanged
walks_exchanged p nodes defects = (
  All-weaker (λ c. HasWalks p nodes c.vertices) (λ c. HasWalks (with_defects p defects) nodes c.vertices)
      (λ c has. walks_over p (with_defects p defects) nodes c.vertices refl has) (all_cuts nodes),
  All-weaker (λ c. HasWalks (with_defects p defects) nodes c.vertices) (λ c. HasWalks p nodes c.vertices)
      (λ c has. walks_over (with_defects p defects) p nodes c.vertices refl has) (all_cuts nodes),
)
