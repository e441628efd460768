-- The end of a match to the boundary that lies there, where the other end is under its node and so real.
use Rattle.std.proofs.Common.{ℕ, ◌≡◌, ◌&&◌, ◌||◌, inl, inr, Bool, true, false, List, Option, Some, None, if◌then◌else◌, refl, sym, ap, ◌∙◌}
use Rattle.std.proofs.Math.Bool.{or-false}
use Rattle.fb_graph.specs.Dual.{Node, cover_of}
use Rattle.fb_graph.specs.Laws.{Link}
use Rattle.fb_graph.specs.Problem.{Problem}
use Rattle.fb_laws.specs.Searches.{LeavesNode}
use Rattle.fb_half.specs.Matchings.{IsMatchOf}
use Rattle.fb_half.specs.Merged.{is_alone}
use Rattle.fb_half.specs.Seams.{far_end}

-- what the nodes hold is real
abbrev pub AreRealBy : (ℕ → Bool) → List Node → Type 0
AreRealBy is_real nodes = (u m : ℕ) → cover_of nodes u ≡ Some m → is_real u ≡ true

pub far_is : (is_real : ℕ → Bool) (nodes : List Node) (l : Link) (a v : ℕ) → AreRealBy is_real nodes → LeavesNode nodes l a v
    → is_real v ≡ false → far_end is_real l ≡ v
far_is is_real nodes l a v real (inl (from, to)) unreal = ap (λ b. if b then l.to else l.from) (real l.from a from) ∙ to
far_is is_real nodes l a v real (inr (to, from)) unreal =
    ap (λ b. if b then l.to else l.from) (ap is_real from ∙ unreal) ∙ from

-- No real vertex is owned, so an owned end is the far one.
pub seam_far : (p : Problem) (nodes : List Node) (owned : ℕ → Bool) (l : Link) (a : ℕ) (second : Option ℕ) → AreRealBy p.is_real nodes
    → ((u : ℕ) → p.is_real u ≡ true → owned u ≡ false) → IsMatchOf p nodes l a second
    → (is_alone second && (owned l.from || owned l.to)) ≡ (is_alone second && owned (far_end p.is_real l))
seam_far p nodes owned l a (Some b) real off is = refl
seam_far p nodes owned l a None real off (v, inl (from, to), unreal) =
    ap (λ b. b || owned l.to) (off l.from (real l.from a from))
    ∙ ap owned (to ∙ sym (far_is p.is_real nodes l a v real (inl (from, to)) unreal))
seam_far p nodes owned l a None real off (v, inr (to, from), unreal) =
    ap (λ b. owned l.from || b) (off l.to (real l.to a to))
    ∙ (or-false (owned l.from) ∙ ap owned (from ∙ sym (far_is p.is_real nodes l a v real (inr (to, from)) unreal)))
