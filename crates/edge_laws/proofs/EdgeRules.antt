-- Rules of lines that a hardened module keeps with names for its edges, where it keeps them without.
use Rattle.std.proofs.Common.{ℕ, ◌≡◌, ◌∙◌, Bool, true, false, List, [], ◌∷◌, map, Option, Some, None, refl, ap}
use Rattle.std.specs.Prelude.{is_none, if◌then◌else◌}
use Rattle.std.specs.List.{flat_map, list_all}
use Rattle.ir_core.specs.declared.types.Ty.{Ty}
use Rattle.ir_core.specs.declared.types.TypeId.{TypeId}
use Rattle.ir_core.specs.declared.types.Ty.TheVariants as types
use Rattle.ir_core.specs.declared.types.Loc.{Loc}
use Rattle.ir_core.specs.declared.types.Width.TheVariants.{W1}
use Rattle.ir_core.specs.declared.values.Side.{Side}
use Rattle.ir_core.specs.declared.values.Side.TheVariants.{M, S}
use Rattle.ir_core.specs.declared.values.Val.{Val}
use Rattle.ir_core.specs.declared.instruction.Block.{Block}
use Rattle.ir_core.specs.Module.{ModuleParts}
use Rattle.ir_layout.specs.Limits.{limit_among}
use Rattle.ir_layout.specs.WrittenTypes.{types_in_arm}
use Rattle.ir_calls.specs.Calls
use Rattle.hard_ir.specs.declared.instruction.HInst.{HInst}
use Rattle.hard_ir.specs.declared.instruction.HInst.TheVariants.{Cut, Begin, End, Tick, Chk, ChkMem, Mov, Do}
use Rattle.hard_ir.specs.Image.{Table}
use Rattle.hard_ir.specs.Hardened.{HardParts, heads_of, hardened_by}
use Rattle.hard_ir.specs.Fit
use Rattle.hard_ir.specs.EdgeChecks.{Guard, direction, guard_of, edge_arm, predecessors}
use Rattle.hard_laws.proofs.HardLines.{hard_of, both}
use Rattle.hard_laws.proofs.Scalars.{int-limit}
use Rattle.edge_laws.proofs.WithEdges.{edge_func, edge_module, Passes}

module _ (table : Table) (ofs : ℕ → ℕ → Option Loc) (m : ModuleParts) where
  abbrev H : HardParts
  H = hardened_by table m

  abbrev E : HardParts
  E = edge_module table ofs m

  -- ---- limits

  no-types : (o : Option Guard) (at label : Loc) (side : Side) → types_in_arm (direction o at side, label) ≡ []
  no-types None at label side = refl
  no-types (Some guard) at label M = refl
  no-types (Some guard) at label S = refl

  arms-types : (at : Loc) (side : Side) (blocks : List Block) → flat_map types_in_arm (map (edge_arm at side) blocks) ≡ []
  arms-types at side [] = refl
  arms-types at side (block ∷ blocks) = rw (no-types (guard_of block) at block.label side, arms-types at side blocks) refl

  limits-item : (n i j b : ℕ) (f g : Fit.HardFunc) (item : HInst) → Fit.limits_keep H (Fit.HInstLine n f b i item) ≡ true → Fit.limits_keep E (Fit.HInstLine n g b j item) ≡ true
  limits-item n i j b f g (Do side inst retires) e = e
  limits-item n i j b f g (Mov ty reg) e = e
  limits-item n i j b f g (Chk when ty reg) e = e
  limits-item n i j b f g (ChkMem ty ptr val) e = e
  limits-item n i j b f g (Tick work) e = e
  limits-item n i j b f g Cut e = e
  limits-item n i j b f g Begin e = e
  limits-item n i j b f g End e = e

  bit-register : (named : List (TypeId × Ty)) → Fit.limit_of_register named (types.Int W1) ≡ None
  bit-register named = by_test (Fit.keeps_as_part named (Fit.pair_part (types.Int W1)))
    where
      by_test : (b : Bool) → (if b then None else limit_among named (types.Int W1 ∷ [])) ≡ None
      by_test true = refl
      by_test false = int-limit named W1

  pub limits-pass : Passes table ofs m (Fit.limits_keep H) (Fit.limits_keep E)
  limits-pass = record {
    outer = λ line e. e;
    block = λ n b f block at e. refl;
    phi = λ n b i j f block phi at e. e;
    item = λ n b i j f block item at e. limits-item n i j b (hard_of table f) (edge_func table (ofs n) f) item e;
    edge_phi = λ n b i f block name side at e.
        ap (λ (tys : List Ty). is_none (limit_among m.types (types.Int W1 ∷ tys))) (arms-types block.label side (predecessors f.blocks block.label)) ∙ ap is_none (int-limit m.types W1);
    edge_check = λ n b i f block name at e. ap is_none (bit-register m.types);
  }

  -- ---- calls

  plain-arm : (o : Option Guard) (at : Loc) (side : Side) → Calls.is_plain (heads_of m) (direction o at side) ≡ true
  plain-arm None at side = refl
  plain-arm (Some guard) at M = refl
  plain-arm (Some guard) at S = refl

  arms-plain : (at : Loc) (side : Side) (blocks : List Block) → list_all (Calls.is_plain (heads_of m)) (map (λ (arm : Val × Loc). arm.0) (map (edge_arm at side) blocks)) ≡ true
  arms-plain at side [] = refl
  arms-plain at side (block ∷ blocks) = both (plain-arm (guard_of block) at side) (arms-plain at side blocks)

  pub calls-pass : Passes table ofs m (Fit.hard_calls_keep H) (Fit.hard_calls_keep E)
  calls-pass = record {
    outer = λ line e. e;
    block = λ n b f block at e. refl;
    phi = λ n b i j f block phi at e. e;
    item = λ n b i j f block item at e. e;
    edge_phi = λ n b i f block name side at e. both (arms-plain block.label side (predecessors f.blocks block.label)) refl;
    edge_check = λ n b i f block name at e. refl;
  }

  -- ---- forms

  forms-item : (n i j b : ℕ) (f g : Fit.HardFunc) (item : HInst) → Fit.forms_keep (Fit.HInstLine n f b i item) ≡ true → Fit.forms_keep (Fit.HInstLine n g b j item) ≡ true
  forms-item n i j b f g (Do side inst retires) e = e
  forms-item n i j b f g item e = refl

  pub forms-pass : Passes table ofs m Fit.forms_keep Fit.forms_keep
  forms-pass = record {
    outer = λ line e. refl;
    block = λ n b f block at e. refl;
    phi = λ n b i j f block phi at e. e;
    item = λ n b i j f block item at e. forms-item n i j b (hard_of table f) (edge_func table (ofs n) f) item e;
    edge_phi = λ n b i f block name side at e. refl;
    edge_check = λ n b i f block name at e. refl;
  }
