-- An image has the heads of its source, and what is read off them.
use Rattle.std.proofs.Common.{ℕ, ◌≡◌, ◌∙◌, ap}
use Rattle.ir_core.specs.Module.{ModuleParts}
use Rattle.ir_layout.specs.Memory.{layout_of}
use Rattle.inst_meaning.specs.Action.{callees_of}
use Rattle.src_meaning.specs.State.{main_of, params_at}
use Rattle.hard_ir.specs.Hardened.{HardParts}
use Rattle.hard_simulation.specs.Image.{IsImage}
use Rattle.hard_simulation.proofs.Heads as heads

module _ (m : ModuleParts) (h : HardParts) (image : IsImage m h) where
  pub heads-layout : layout_of h.heads ≡ layout_of m
  heads-layout = ap layout_of image.heads ∙ heads.layout-heads m

  pub heads-callees : callees_of h.heads ≡ callees_of m
  heads-callees = ap callees_of image.heads ∙ heads.callees-heads m

  pub heads-main : main_of h.heads ≡ main_of m
  heads-main = ap main_of image.heads ∙ heads.main-heads m

  pub heads-params : (n : ℕ) → params_at h.heads.funcs n ≡ params_at m.funcs n
  heads-params n = ap (λ (parts : ModuleParts). params_at parts.funcs n) image.heads ∙ heads.params-heads m n
