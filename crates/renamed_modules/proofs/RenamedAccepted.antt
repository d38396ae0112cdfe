-- An accepted module is accepted under other numbers, where no function's table of names is too long.
use Rattle.std.specs.Prelude.{nat_lt, ◌≤◌}
use Rattle.std.proofs.lemmas.Bool.Decides.{nat_tests}
use Rattle.std.proofs.Common.{ℕ, suc, ◌≡◌, ◌∙◌, ◌&&◌, Bool, true, false, not, List, [], ◌∷◌, map, length, Option, Some, None, slice_get, refl, ap, sym as flip, subst, arith}
use Rattle.std.specs.Prelude.{◌==◌, if◌then◌else◌}
use Rattle.std.specs.List.{list_all, list_any}
use Rattle.std.specs.Option.{option_map, option_map_or, option_or}
use Rattle.ir_core.specs.declared.types.Ty.{Ty}
use Rattle.ir_core.specs.declared.types.TypeId.{TypeId}
use Rattle.ir_core.specs.declared.types.Loc.{Loc}
use Rattle.ir_core.specs.Module.{ModuleParts, FuncParts}
use Rattle.ir_lines.specs.declared.site.Site.TheVariants.{Module}
use Rattle.ir_lines.specs.Lines.{Line, TypeLine, GlobalLine, DeclareLine, HeadLine, BlockLine, InstLine, lines_of, first_break}
use Rattle.ir_calls.specs.Calls.{calls_keep}
use Rattle.ir_types.specs.Meanings.{Meaning, meanings}
use Rattle.ir_types.specs.Types.{has_no_parts, signature_fits, init_fits, inst_fits, types_keep}
use Rattle.ir_names.specs.Names.{duplicate, unknown}
use Rattle.ir_check.specs.declared.fault.Kind.{Kind}
use Rattle.ir_check.specs.declared.fault.Kind.TheVariants.{BadTerminator, BadCall, TypeMismatch, NoMain, EntryHasPredecessor}
use Rattle.ir_check.specs.Blocks.{terminators_keep, entries_keep}
use Rattle.ir_check.specs.CodeLimits.{over, broken_limit}
use Rattle.ir_layout.specs.declared.limits.LimitKind.TheVariants.{Registers}
use Rattle.ir_check.specs.Faults.{Fault, IsAccepted, fault_at, rule_fault, duplicate_fault, unknown_fault, limit_told, limit_fault, main_fault, shape_fault, code_fault}
use Rattle.ir_check.specs.Functions.{is_main, has_main}
use Rattle.ir_check.proofs.ModuleLines.{neither, no-image}
use Rattle.ir_numbering.specs.Renaming.{Renaming, renamed_ty, renamed_init, renamed_inst, renamed_param}
use Rattle.ir_numbering.specs.Numbers.{renamed_named}
use Rattle.hard_ir.specs.Images.{IsSameModule}
use Rattle.src_meaning.specs.Races.{IsGood}
use Rattle.src_meaning.specs.Runs.{source as source_run}
use Rattle.renamed_modules.specs.Numbered.{AreNumbered, HasFewNames}
use Rattle.renamed_modules.proofs.SamePlaces.{same-place}
use Rattle.renamed_modules.proofs.SameModules.{renames, same-answers, same-outputs, same-good}
use Rattle.renamed_modules.proofs.Renames.{Renames, main-of}
use Rattle.renamed_modules.proofs.RenamedLines.{in_, names_of_func, func_by, renamed_line, funcs-here, duplicates-same, unknowns-same, rules-same}
use Rattle.renamed_modules.proofs.RenamedLimits.{AreFew, limits-same}
use Rattle.renamed_modules.proofs.RenamedFlow.{ends-same, begins-same, enters-same, phis-fit, uses-assigned}
use Rattle.renamed_modules.proofs.RenamedCalls.{calls-same}
use Rattle.renamed_modules.proofs.RenamedKinds.{parts-same, entries-same, fits-same, inits-same}

any-pairs : {A B : Type 0} (p : A → Bool) (q : B → Bool) (xs : List A) (ys : List B) → length ys ≡ length xs
    → ((n : ℕ) (x : A) (y : B) → slice_get xs n ≡ Some x → slice_get ys n ≡ Some y → q y ≡ p x) → list_any q ys ≡ list_any p xs
any-pairs p q [] [] count same = refl
any-pairs p q [] (y ∷ ys) count same = absurd (omega (arith, count))
any-pairs p q (x ∷ xs) [] count same = absurd (omega (arith, count))
any-pairs p q (x ∷ xs) (y ∷ ys) count same =
    rw (same 0 x y refl refl, any-pairs p q xs ys (omega (arith, count)) (λ n a b at there. same (suc n) a b at there)) refl

no-fault : (b : Bool) (fault : Fault) → (if b then None else Some fault) ≡ None → b ≡ true
no-fault true fault e = refl
no-fault false fault e = cc

module _ (m other : ModuleParts) (r : Renames m other) where
  -- ---- rules of lines

  terminators-same : (line : Line) → terminators_keep (renamed_line m other r line) ≡ terminators_keep line
  terminators-same (TypeLine named) = refl
  terminators-same (GlobalLine global) = refl
  terminators-same (DeclareLine declare) = refl
  terminators-same (HeadLine n f) = refl
  terminators-same (BlockLine n f b block) = rw (ends-same (in_ m other r n) (r.loc_apart n) block.insts, begins-same (in_ m other r n) (r.loc_apart n) block.insts) refl
  terminators-same (InstLine n f b i inst) = refl

  entries-kept : (line : Line) → entries_keep (renamed_line m other r line) ≡ entries_keep line
  entries-kept (TypeLine named) = refl
  entries-kept (GlobalLine global) = refl
  entries-kept (DeclareLine declare) = refl
  entries-kept (HeadLine n f) = refl
  entries-kept (BlockLine n f b block) = ap (λ (c : Bool). not (b == 0 && c)) (enters-same (in_ m other r n) (r.loc_apart n) f (names_of_func m other r n))
  entries-kept (InstLine n f b i inst) = refl

  all-parts : (q : Renaming) (tys : List Ty) → list_all has_no_parts (map (renamed_ty q) tys) ≡ list_all has_no_parts tys
  all-parts q [] = refl
  all-parts q (ty ∷ tys) = rw (parts-same q ty, all-parts q tys) refl

  signatures-same : (q : Renaming) (ret : Ty) (tys : List Ty) → signature_fits (renamed_ty q ret) (map (renamed_ty q) tys) ≡ signature_fits ret tys
  signatures-same q ret tys = rw (parts-same q ret, all-parts q tys) refl

  heads : (q : Renaming) (params : List (Ty × Loc)) → map (λ (param : Ty × Loc). param.0) (map (renamed_param q) params) ≡ map (renamed_ty q) (map (λ (param : Ty × Loc). param.0) params)
  heads q [] = refl
  heads q (param ∷ params) = ap (λ (rest : List Ty). renamed_ty q param.0 ∷ rest) (heads q params)

  kinds-same : (line : Line) → types_keep other (renamed_line m other r line) ≡ types_keep m line
  kinds-same (TypeLine named) = refl
  kinds-same (GlobalLine global) =
      ap (λ (types : List (TypeId × Ty)). init_fits types (renamed_init (in_ m other r 0) global.init) (renamed_ty (in_ m other r 0) global.ty)) r.types
      ∙ inits-same (in_ m other r 0) r.type_apart m.types global.init global.ty
  kinds-same (DeclareLine declare) = signatures-same (in_ m other r 0) declare.ret declare.params
  kinds-same (HeadLine n f) =
      ap (signature_fits (renamed_ty (in_ m other r n) f.ret)) (heads (in_ m other r n) f.params) ∙ signatures-same (in_ m other r n) f.ret (map (λ (param : Ty × Loc). param.0) f.params)
  kinds-same (BlockLine n f b block) = refl
  kinds-same (InstLine n f b i inst) =
      ap (λ (types : List (TypeId × Ty)). inst_fits types (meanings (func_by m other r n f)) (renamed_ty (in_ m other r n) f.ret) (renamed_inst (in_ m other r n) inst)) r.types
      ∙ ap (λ (names : List (Loc × Meaning)). inst_fits (map (renamed_named (in_ m other r n)) m.types) names (renamed_ty (in_ m other r n) f.ret) (renamed_inst (in_ m other r n) inst)) (entries-same (in_ m other r n) r.type_apart f.params f.blocks)
      ∙ fits-same (in_ m other r n) r.type_apart (r.loc_apart n) m.types (meanings f) f.ret inst

  -- ---- acceptance

  has-main : has_main other ≡ has_main m
  has-main = any-pairs (is_main m) (is_main other) m.funcs other.funcs r.count (λ n f g at there. main-of m other r n f g at there)

  rule-same : (kind : Kind) (keeps keeps' : Line → Bool) → ((line : Line) → keeps' (renamed_line m other r line) ≡ keeps line) → rule_fault m kind keeps ≡ None → rule_fault other kind keeps' ≡ None
  rule-same kind keeps keeps' same e =
      ap (option_map (fault_at other kind)) (rules-same m other r keeps keeps' same (no-image (fault_at m kind) (first_break keeps (lines_of m)) e))

  -- the function of the first module
  was : (P Q : FuncParts → Type 0) → ((n : ℕ) (f : FuncParts) → P f → Q (func_by m other r n f)) → ((k : ℕ) (f : FuncParts) → slice_get m.funcs k ≡ Some f → P f)
      → (k : ℕ) (g : FuncParts) → slice_get other.funcs k ≡ Some g → Q g
  was P Q so all k g there =
      let found = same-place other.funcs m.funcs k g (flip r.count) there in
      subst Q (flip (funcs-here m other r k found.0 g found.1 there)) (so k found.0 (all k found.0 found.1))

  pub accepted-again : IsAccepted m → AreFew m other r → IsAccepted other
  accepted-again accepted few = record {
    lines = lines;
    phis = was _ _ (λ n f fits. phis-fit (in_ m other r n) (r.loc_apart n) f (names_of_func m other r n) fits) accepted.phis;
    uses = was _ _ (λ n f fits. uses-assigned (in_ m other r n) (r.loc_apart n) f (names_of_func m other r n) fits) accepted.uses;
  }
    where
      nothing : {A : Type 0} (x y : Option A) → x ≡ None → y ≡ None → option_or x y ≡ None
      nothing x y e f = rw e f

      calls : Option Fault
      calls = rule_fault m BadCall (calls_keep m)

      kinds : Option Fault
      kinds = rule_fault m TypeMismatch (types_keep m)

      a : (duplicate_fault m ≡ None) × (option_or (unknown_fault m) (option_or (limit_fault m) (code_fault m)) ≡ None)
      a = neither (duplicate_fault m) (option_or (unknown_fault m) (option_or (limit_fault m) (code_fault m))) accepted.lines

      b : (unknown_fault m ≡ None) × (option_or (limit_fault m) (code_fault m) ≡ None)
      b = neither (unknown_fault m) (option_or (limit_fault m) (code_fault m)) a.1

      c : (limit_fault m ≡ None) × (code_fault m ≡ None)
      c = neither (limit_fault m) (code_fault m) b.1

      d : (rule_fault m BadTerminator terminators_keep ≡ None) × (option_or calls (option_or kinds (shape_fault m)) ≡ None)
      d = neither (rule_fault m BadTerminator terminators_keep) (option_or calls (option_or kinds (shape_fault m))) c.1

      e : (calls ≡ None) × (option_or kinds (shape_fault m) ≡ None)
      e = neither calls (option_or kinds (shape_fault m)) d.1

      f : (kinds ≡ None) × (shape_fault m ≡ None)
      f = neither kinds (shape_fault m) e.1

      g : (main_fault m ≡ None) × (rule_fault m EntryHasPredecessor entries_keep ≡ None)
      g = neither (main_fault m) (rule_fault m EntryHasPredecessor entries_keep) f.1

      main : main_fault other ≡ None
      main = ap (λ (b : Bool). if b then None else Some (fault_at other NoMain Module)) (has-main ∙ no-fault (has_main m) (fault_at m NoMain Module) g.0)

      lines : option_or (duplicate_fault other) (option_or (unknown_fault other) (option_or (limit_fault other) (code_fault other))) ≡ None
      lines = nothing _ _ (ap (option_map _) (duplicates-same m other r (no-image _ (duplicate m) a.0)))
          (nothing _ _ (ap (option_map _) (unknowns-same m other r (no-image _ (unknown m) b.0)))
          (nothing _ _ (ap (option_map limit_told) (limits-same m other r few (no-image limit_told (broken_limit m) c.0)))
          (nothing _ _ (rule-same BadTerminator terminators_keep terminators_keep terminators-same d.0)
          (nothing _ _ (rule-same BadCall (calls_keep m) (calls_keep other) (calls-same m other r) e.0)
          (nothing _ _ (rule-same TypeMismatch (types_keep m) (types_keep other) kinds-same f.0)
          (nothing _ _ main (rule-same EntryHasPredecessor entries_keep entries_keep entries-kept g.1)))))))

few-names : (m other : ModuleParts) (r : Renames m other) → HasFewNames other → AreFew m other r
few-names m other r few n = by (slice_get other.funcs n) refl
  where
    fits : (count : ℕ) → count ≤ 65536 → over 65536 count Registers ≡ None
    fits count few = let no_more : nat_lt 65536 count ≡ false = grind (arith, nat_tests) in rw no_more refl

    by : (o : Option FuncParts) → slice_get other.funcs n ≡ o → over 65536 (length (option_map_or (λ (g : FuncParts). g.names) o [])) Registers ≡ None
    by None e = refl
    by (Some g) e = fits (length g.names) (few n g e)

pub accepted-where-few : (m other : ModuleParts) (same : IsSameModule m other) → AreNumbered m → IsAccepted m → HasFewNames other → IsAccepted other
accepted-where-few m other same numbered accepted few =
    accepted-again m other (renames m other same numbered) accepted (few-names m other (renames m other same numbered) few)
