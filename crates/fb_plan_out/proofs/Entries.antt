-- The tokens of a list's entries: one more, and the last.
use Rattle.std.proofs.Common.{ℕ, suc, ◌+◌, ◌-◌, ◌<◌, ◌≤◌, ◌≡◌, List, [], ◌∷◌, ◌++◌, length, map, drop, get_or, sym, ap, ◌∙◌, arith, append_assoc}
use Rattle.std.specs.Prelude.{None, cond, slice_get, unwrap_or}
use Rattle.std.specs.List.{range_with_len}
use Rattle.std.proofs.lemmas.Bool.{le-ltb}
use Rattle.std.proofs.lemmas.Option.{unwrap_or-slice_get}
use Rattle.fb_plan.specs.Plans.{PlanTree, children_of, join_at}
use Rattle.std.proofs.Math.Seq.{drop-cons}
use Rattle.json.specs.Token.{Token}
use Rattle.json.specs.Json.{Json}
use Rattle.json.specs.Tree.{json_tokens, items_tokens}
use Rattle.json.specs.Written.{Written}
use Rattle.fb_plan_out.specs.PlanWriting.{items_from, pair_json}
use Rattle.fb_plan_out.specs.InternalWriting.{Added, entries_after}

pub Added-trans : (a b c : Written) (ts us : List Token) → Added a b ts → Added b c us → Added a c (ts ++ us)
Added-trans a b c ts us first second = record {
  before = second.before ∙ first.before;
  tokens = second.tokens ∙ (ap (λ xs. xs ++ us) first.tokens ∙ append_assoc a.tokens ts us);
}

-- one more entry of so many
pub entry_more : (entry : ℕ → Json) (n a : ℕ) → a < n
    → entries_after entry n a ≡ json_tokens (entry a) ++ entries_after entry n (a + 1)
entry_more entry n a less =
    let one : n - a ≡ suc (n - (a + 1)) = omega arith in
    ap (λ k. items_tokens (items_from (map entry (range_with_len a k)))) one

pub entry_last : (entry : ℕ → Json) (n a : ℕ) → n ≤ a → entries_after entry n a ≡ Token.end_array ∷ []
entry_last entry n a past =
    let none : n - a ≡ 0 = omega arith in
    ap (λ k. items_tokens (items_from (map entry (range_with_len a k)))) none

pub entry_first : (entry : ℕ → Json) (n : ℕ) → entries_after entry n 0 ≡ items_tokens (items_from (map entry (range_with_len 0 n)))
entry_first entry n =
    let all : n - 0 ≡ n = omega arith in
    ap (λ k. items_tokens (items_from (map entry (range_with_len 0 k)))) all

-- one more range
pub range_more : (ranges : List (ℕ × ℕ)) (i : ℕ) (d : ℕ × ℕ) → i < length ranges
    → items_tokens (items_from (map pair_json (drop i ranges)))
    ≡ json_tokens (pair_json (get_or ranges i d)) ++ items_tokens (items_from (map pair_json (drop (i + 1) ranges)))
range_more ranges i d less =
    let next : suc i ≡ i + 1 = omega arith in
    ap (λ rs. items_tokens (items_from (map pair_json rs))) (drop-cons ranges i d less)
    ∙ ap (λ k. json_tokens (pair_json (get_or ranges i d)) ++ items_tokens (items_from (map pair_json (drop k ranges)))) next

-- the writer after one more entry, the rest being known
pub written_more : (old new : List Token) (entry rest more all : List Token) → new ≡ old ++ entry → rest ≡ entry ++ more
    → old ++ rest ≡ all → new ++ more ≡ all
written_more old new entry rest more all added splits so_far =
    ap (λ xs. xs ++ more) added ∙ append_assoc old entry more ∙ ap (λ xs. old ++ xs) (sym splits) ∙ so_far

-- an object of two members
pub object_of_two : (a b c d e f g : Written) (k l : List ℕ) (ts us : List Token) → b.before ≡ a.before
    → b.tokens ≡ a.tokens ++ Token.begin_object ∷ [] → c.before ≡ b.before → c.tokens ≡ b.tokens ++ Token.key k ∷ []
    → Added c d ts → e.before ≡ d.before → e.tokens ≡ d.tokens ++ Token.key l ∷ [] → Added e f us
    → g.before ≡ f.before → g.tokens ≡ f.tokens ++ Token.end_object ∷ []
    → Added a g (Token.begin_object ∷ Token.key k ∷ (ts ++ (Token.key l ∷ (us ++ Token.end_object ∷ []))))
object_of_two a b c d e f g k l ts us b_before b_tokens c_before c_tokens first e_before e_tokens second g_before g_tokens =
    Added-trans a b g (Token.begin_object ∷ []) (Token.key k ∷ (ts ++ (Token.key l ∷ (us ++ Token.end_object ∷ []))))
    (record { before = b_before; tokens = b_tokens })
    (Added-trans b c g (Token.key k ∷ []) (ts ++ (Token.key l ∷ (us ++ Token.end_object ∷ [])))
    (record { before = c_before; tokens = c_tokens })
    (Added-trans c d g ts (Token.key l ∷ (us ++ Token.end_object ∷ [])) first
    (Added-trans d e g (Token.key l ∷ []) (us ++ Token.end_object ∷ []) (record { before = e_before; tokens = e_tokens })
    (Added-trans e f g us (Token.end_object ∷ []) second (record { before = g_before; tokens = g_tokens })))))

-- the children of a fusion
pub fusion_children : (t : PlanTree) (i : ℕ) → unwrap_or (children_of t (t.units + i)) (0, 0) ≡ join_at t.joins i
fusion_children t i =
    let past : t.units ≤ t.units + i = omega arith in
    let same : t.units + i - t.units ≡ i = omega arith in
    ap (λ b. unwrap_or (cond b None (slice_get t.joins (t.units + i - t.units))) (0, 0)) (le-ltb (t.units + i) t.units past)
    ∙ ap (λ k. unwrap_or (slice_get t.joins k) (0, 0)) same
    ∙ unwrap_or-slice_get t.joins i (0, 0)
