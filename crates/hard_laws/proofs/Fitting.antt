-- The hardened modules of accepted modules fit, by any table that keeps what is asked of images.
use Rattle.std.proofs.Common.{ℕ, ◌≡◌, ◌∙◌, ◌+◌, Bool, ◌||◌, List, [], ◌∷◌, map, refl, ap, sym, subst}
use Rattle.std.specs.List.{list_any}
use Rattle.ir_core.specs.Module.{ModuleParts, FuncParts}
use Rattle.ir_check.specs.Blocks.{terminators_keep, entries_keep}
use Rattle.ir_check.specs.Functions.{is_main}
use Rattle.ir_check.specs.Faults.{IsAccepted}
use Rattle.hard_ir.specs.declared.instruction.HInst.{HInst}
use Rattle.hard_ir.specs.declared.instruction.HInst.TheVariants.{Cut, Begin, End, Tick, Chk, ChkMem, Mov, Do}
use Rattle.hard_ir.specs.declared.instruction.HBlock.{HBlock}
use Rattle.hard_ir.specs.Image.{Table, flow_table, check_table, relax_table, place_table, split_table, to_ender, since_ender, with_work, ticked}
use Rattle.hard_ir.specs.Hardened.{HardParts, head_of, heads_of, ticked_block, ticked_module, hardened_by, harden}
use Rattle.hard_ir.specs.Fit.{Fits, names_keep, limits_keep, hard_calls_keep, hard_types_keep, forms_keep, plain_line}
use Rattle.hard_laws.proofs.Images.{IsTable}
use Rattle.hard_laws.proofs.Rows.{flow-is-table, check-is-table, relax-is-table, place-is-table, split-is-table}
use Rattle.hard_laws.proofs.HardLines.{all-keep}
use Rattle.hard_laws.proofs.Accepted.{sound}
use Rattle.hard_laws.proofs.Limits.{limits-each, forms-each}
use Rattle.hard_laws.proofs.Calls.{calls-each}
use Rattle.hard_laws.proofs.Names.{distinct}
use Rattle.hard_laws.proofs.Mentions.{names-each}
use Rattle.hard_laws.proofs.Shapes.{terminators-each, entries-each, all-phis-fit}
use Rattle.hard_laws.proofs.Types.{types-each}
use Rattle.hard_laws.proofs.Numbered.{bare, bare_block, bare_module, bare-fits, fits-bare}

main-stands : (m : ModuleParts) (funcs : List FuncParts) → list_any (is_main m) (map head_of funcs) ≡ list_any (is_main m) funcs
main-stands m [] = refl
main-stands m (f ∷ funcs) = ap (λ (b : Bool). is_main m f || b) (main-stands m funcs)

pub fits : (table : Table) → IsTable table → (m : ModuleParts) → IsAccepted m → Fits (hardened_by table m)
fits table is m accepted =
    let held = sound m accepted in
    record {
      distinct = distinct table is m held;
      known = all-keep table is m (names_keep (hardened_by table m)) (names-each table is m held);
      limits = held.limits;
      code_limits = all-keep table is m (limits_keep (hardened_by table m)) (limits-each table m held);
      terminators = all-keep table is m (λ line. terminators_keep (plain_line line)) (terminators-each table is m held);
      calls = all-keep table is m (hard_calls_keep (hardened_by table m)) (calls-each table m held);
      types = all-keep table is m (hard_types_keep (hardened_by table m)) (types-each table is m held);
      main = main-stands m m.funcs ∙ held.main;
      entries = all-keep table is m (λ line. entries_keep (plain_line line)) (entries-each table is m held);
      phis = all-phis-fit table is m held accepted.phis;
      forms = all-keep table is m forms_keep (forms-each table m);
    }

pub flow-fits : (m : ModuleParts) → IsAccepted m → Fits (hardened_by flow_table m)
flow-fits m accepted = fits flow_table flow-is-table m accepted

pub check-fits : (m : ModuleParts) → IsAccepted m → Fits (hardened_by check_table m)
check-fits m accepted = fits check_table check-is-table m accepted

pub relax-fits : (m : ModuleParts) → IsAccepted m → Fits (hardened_by relax_table m)
relax-fits m accepted = fits relax_table relax-is-table m accepted

pub place-fits : (m : ModuleParts) → IsAccepted m → Fits (hardened_by (place_table m) m)
place-fits m accepted = fits (place_table m) (place-is-table m) m accepted

split-fits : (m : ModuleParts) → IsAccepted m → Fits (hardened_by (split_table m) m)
split-fits m accepted = fits (split_table m) (split-is-table m) m accepted

-- ---- with the numbers of ticks

bare-work : (work : ℕ) (item : HInst) → bare (with_work work item) ≡ bare item
bare-work work (Tick old) = refl
bare-work work (Do side inst retires) = refl
bare-work work (Mov ty reg) = refl
bare-work work (Chk when ty reg) = refl
bare-work work (ChkMem ty ptr val) = refl
bare-work work Cut = refl
bare-work work Begin = refl
bare-work work End = refl

pub bare-ticked : (since : ℕ) (list : List HInst) → map bare (ticked since list) ≡ map bare list
bare-ticked since [] = refl
bare-ticked since (item ∷ list) =
    ap (λ (x : HInst). x ∷ map bare (ticked (since_ender since item) list)) (bare-work (since + to_ender (item ∷ list)) item)
    ∙ ap (λ (xs : List HInst). bare item ∷ xs) (bare-ticked (since_ender since item) list)

bare-blocks : (blocks : List HBlock) → map bare_block (map ticked_block blocks) ≡ map bare_block blocks
bare-blocks [] = refl
bare-blocks (block ∷ blocks) =
    ap (λ (list : List HInst). record block { list = list } ∷ map bare_block (map ticked_block blocks)) (bare-ticked 0 block.list)
    ∙ ap (λ (bs : List HBlock). bare_block block ∷ bs) (bare-blocks blocks)

bare-funcs : (funcs : List (List HBlock)) → map (map bare_block) (map (map ticked_block) funcs) ≡ map (map bare_block) funcs
bare-funcs [] = refl
bare-funcs (blocks ∷ funcs) =
    ap (λ (bs : List HBlock). bs ∷ map (map bare_block) (map (map ticked_block) funcs)) (bare-blocks blocks) ∙ ap (λ (fs : List (List HBlock)). map bare_block blocks ∷ fs) (bare-funcs funcs)

bare-module : (h : HardParts) → bare_module (ticked_module h) ≡ bare_module h
bare-module h = ap (λ (funcs : List (List HBlock)). let x : HardParts = record h { funcs = funcs } in x) (bare-funcs h.funcs)

-- a table's ticks have no number yet
pub harden-fits : (m : ModuleParts) → IsAccepted m → Fits (harden m)
harden-fits m accepted = bare-fits (harden m) (subst Fits (sym (bare-module (hardened_by (split_table m) m))) (fits-bare (hardened_by (split_table m) m) (split-fits m accepted)))
