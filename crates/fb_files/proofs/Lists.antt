-- Texts of files.
use Rattle.std.proofs.Common.{◌≡◌, ℕ, List, None, Some, subst, sym}
use Rattle.fb_files.specs.Judging.{Holds, IfRefused, Named}
use Rattle.fb_files.specs.declared.fault.FileFault.{FileFault}
use Rattle.fb_files.specs.declared.fault.FileFault.TheVariants as file_fault

-- what holds of a file's text, by what holds of every such text
pub holds_more : (named : Named) (name : List ℕ) (P Q : List ℕ → Type 0) → ((text : List ℕ) → P text → Q text) → Holds named name P → Holds named name Q
holds_more None name P Q more held = tt
holds_more (Some f) name P Q more (text, e, p) = (text, e, more text p)

-- A text that is refused as too long is refused for this reason, by what holds of every such text.
pub refused_as_too_long : {E : Type 0} (named : Named) (name : List ℕ) (P : List ℕ → Type 0) (IsReason : E → List ℕ → Type 0) (too_long : E)
    → ((text : List ℕ) → P text → IsReason too_long text) → (fault : FileFault E)
    → IfRefused (λ reason. (reason ≡ too_long) × Holds named name P) fault → IfRefused (λ reason. Holds named name (IsReason reason)) fault
refused_as_too_long named name P IsReason too_long more (file_fault.Refused reason) (is, held) =
    subst (λ reason. Holds named name (IsReason reason)) (sym is) (holds_more named name P (IsReason too_long) more held)
refused_as_too_long named name P IsReason too_long more file_fault.ReadFault refused = tt
refused_as_too_long named name P IsReason too_long more file_fault.NoMemory refused = tt
