-- A table without names that takes the names of another in their order becomes that table.
use Rattle.std.proofs.Common.{◌≡◌, ℕ, ◌+◌, List, take, slice_get, Some, ap, ◌∙◌}
use Rattle.std.specs.List.{IsDistinct}
use Rattle.std.specs.Str.{bytes_eq}
use Rattle.ir_core.specs.Names.{numbered}
use Rattle.ir_core.proofs.Keys.{numbered-take}
use Rattle.ir_core.specs.Module.{FuncParts, ModuleParts}

-- the function with a front of the names, once it has the next one too
pub names-next : (f f' f'' : FuncParts) (names : List (List ℕ)) (k : ℕ) (name : List ℕ) → IsDistinct bytes_eq names → slice_get names k ≡ Some name → f' ≡ record f { names = take k names } → f'' ≡ record f' { names = numbered f'.names name } → f'' ≡ record f { names = take (k + 1) names }
names-next f f' f'' names k name apart at before after =
    after ∙ ap (λ (g : FuncParts). record g { names = numbered g.names name }) before ∙ ap (λ ns. record f { names = ns }) (numbered-take names k name apart at)

-- and a module
pub syms-next : (m m' m'' : ModuleParts) (names : List (List ℕ)) (k : ℕ) (name : List ℕ) → IsDistinct bytes_eq names → slice_get names k ≡ Some name → m' ≡ record m { syms = take k names } → m'' ≡ record m' { syms = numbered m'.syms name } → m'' ≡ record m { syms = take (k + 1) names }
syms-next m m' m'' names k name apart at before after =
    after ∙ ap (λ (g : ModuleParts). record g { syms = numbered g.syms name }) before ∙ ap (λ ns. record m { syms = ns }) (numbered-take names k name apart at)

pub type_names-next : (m m' m'' : ModuleParts) (names : List (List ℕ)) (k : ℕ) (name : List ℕ) → IsDistinct bytes_eq names → slice_get names k ≡ Some name → m' ≡ record m { type_names = take k names } → m'' ≡ record m' { type_names = numbered m'.type_names name } → m'' ≡ record m { type_names = take (k + 1) names }
type_names-next m m' m'' names k name apart at before after =
    after ∙ ap (λ (g : ModuleParts). record g { type_names = numbered g.type_names name }) before ∙ ap (λ ns. record m { type_names = ns }) (numbered-take names k name apart at)
