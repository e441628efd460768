-- The members of a graph, read one after another.
use Rattle.std.proofs.Common.{◌≡◌, ℕ, ◌∙◌, List, [], ◌∷◌, length, ℤ, Option, Some, None, Ok, refl, ap, arith}
use Rattle.std.specs.Prelude.{codes}
use Rattle.json.specs.Lex.{tokens}
use Rattle.json.specs.Token.{Token}
use Rattle.json.specs.Json.{parse_map, members, value}
use Rattle.json.proofs.Grammar.{value-begin_object}
use Rattle.serde_json.specs.Data.{Members, no_members, object, put}
use Rattle.serde_json.specs.Read.{of_json, of_members, converted, read}
use Rattle.fb_json.specs.NumberTokens.{natural_data, list_data}
use Rattle.fb_json.proofs.JsonLoops.{converted-object, whole_read}
use Rattle.serde_json.proofs.Views.{get_member-put, get_member-put_other}
use Rattle.fb_graph_in.specs.GraphText.{numbers_of}
use Rattle.fb_graph_in.specs.declared.faults.Place.TheVariants as place
use Rattle.fb_graph_in.specs.InternalTokens.{edge_data, Holds}
use Rattle.fb_graph_in.proofs.TokenLists.{entries_of-naturals, entries_of-edges}

pub holds_none : Holds no_members None None None
holds_none = record { vertex_num = refl; weighted_edges = refl; virtual_vertices = refl }

module _ (ms : Members) (n : Option ℕ) (es : Option (List (ℕ × ℕ × ℤ))) (vs : Option (List ℕ)) (h : Holds ms n es vs) where
  pub holds_vertex_num : (k : ℕ) → Holds (put (codes "vertex_num") (natural_data k) ms) (Some k) es vs
  holds_vertex_num k = record {
    vertex_num = get_member-put (codes "vertex_num") _ ms;
    weighted_edges = get_member-put_other (codes "weighted_edges") (codes "vertex_num") _ ms (λ e. omega (arith, ap length e)) ∙ h.weighted_edges;
    virtual_vertices = get_member-put_other (codes "virtual_vertices") (codes "vertex_num") _ ms (λ e. omega (arith, ap length e)) ∙ h.virtual_vertices;
  }

  pub holds_edges : (xs : List (ℕ × ℕ × ℤ)) → Holds (put (codes "weighted_edges") (list_data edge_data xs) ms) n (Some xs) vs
  holds_edges xs = record {
    vertex_num = get_member-put_other (codes "vertex_num") (codes "weighted_edges") _ ms (λ e. omega (arith, ap length e)) ∙ h.vertex_num;
    weighted_edges = get_member-put (codes "weighted_edges") _ ms;
    virtual_vertices = get_member-put_other (codes "virtual_vertices") (codes "weighted_edges") _ ms (λ e. omega (arith, ap length e)) ∙ h.virtual_vertices;
  }

  pub holds_virtuals : (xs : List ℕ) → Holds (put (codes "virtual_vertices") (list_data natural_data xs) ms) n es (Some xs)
  holds_virtuals xs = record {
    vertex_num = get_member-put_other (codes "vertex_num") (codes "virtual_vertices") _ ms (λ e. omega (arith, ap length e)) ∙ h.vertex_num;
    weighted_edges = get_member-put_other (codes "weighted_edges") (codes "virtual_vertices") _ ms (λ e. omega (arith, ap length e)) ∙ h.weighted_edges;
    virtual_vertices = get_member-put (codes "virtual_vertices") _ ms;
  }

pub numbers_of-object : (ms : Members) (k : ℕ) (es : List (ℕ × ℕ × ℤ)) (vs : List ℕ) → Holds ms (Some k) (Some es) (Some vs) → numbers_of (object ms) ≡ Ok (k, es, vs)
numbers_of-object ms k es vs h =
    rw (h.vertex_num, h.weighted_edges, h.virtual_vertices, entries_of-edges place.Edge es, entries_of-naturals place.Virtual vs)

pub object_read : (text : List ℕ) (r s : List Token) (ms : Members) → tokens text ≡ Token.begin_object ∷ r
    → converted (λ js. of_members js no_members) (members (value 126) (length r) r) ≡ Some (ms, s) → s ≡ [] → read text ≡ Some (object ms)
object_read text r s ms opens e ends =
    whole_read (value 127 (tokens text)) (object ms) (
    ap (λ ts. converted of_json (value 127 ts)) opens
    ∙ ap (converted of_json) (value-begin_object 127 r (omega arith))
    ∙ converted-object (members (value 126) (length r) r)
    ∙ ap (parse_map object) e
    ∙ ap (λ rest. Some (object ms, rest)) ends)
