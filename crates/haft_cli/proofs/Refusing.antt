-- The errors of the readers are refusals of their texts.
use Rattle.std.proofs.Common.{ℕ, ◌≡◌, List, Result, Ok, Err, IfErr, refl, sym, subst}
use Rattle.std.specs.Prelude.{IsErrAnd}
use Rattle.ir_core.specs.Module.{ModuleParts}
use Rattle.ir_parse_top.specs.Text.{Text, Unfit, BadWord, BadByte}
use Rattle.ir_parse_top.specs.declared.errors.ParseError.{ParseError}
use Rattle.ir_parse_top.specs.declared.errors.ParseError.TheVariants as parse
use Rattle.ir_check.specs.Faults.{Refuses as HasFault}
use Rattle.ir_check.specs.declared.fault.CheckError.{CheckError}
use Rattle.ir_check.specs.declared.fault.CheckError.TheVariants as check
use Rattle.sched_file.specs.Schedule.{UnfitLine}
use Rattle.sched_file.specs.declared.parsing.SchedError.{SchedError}
use Rattle.sched_file.specs.declared.parsing.SchedError.TheVariants as schedule
use Rattle.haft_cli.specs.declared.refusal.Refusal.{Refusal}
use Rattle.haft_cli.specs.declared.refusal.Stopped.{Stopped}
use Rattle.haft_cli.specs.declared.refusal.Stopped.TheVariants as stopped
use Rattle.haft_cli.specs.Table.{IsNoModule, ForLine, ForModule, IsNoSchedule, ForEntry}
use Rattle.haft_cli.specs.Work.{Refuses, of_parse, of_check, of_schedule}

-- the error of a result is the one that it was made from
pub because : {T : Type 0} (result : Result T Stopped) (why : Stopped) (Q : Stopped → Type 0) → IsErrAnd result (λ e. e ≡ why) → Q why → IfErr result Q
because (Ok x) why Q made holds = tt
because (Err e) why Q made holds = subst Q (sym made) holds

pub refuses_too : (P Q : Refusal → Type 0) → ((refusal : Refusal) → P refusal → Q refusal) → (why : Stopped) → Refuses P why → Refuses Q why
refuses_too P Q goes (stopped.Refused refusal) p = goes refusal p
refuses_too P Q goes stopped.ReadFault p = p
refuses_too P Q goes stopped.NoMemory p = tt

pub parse_refuses : (text : List ℕ) (error : ParseError) → ((line : ℕ) (word : List ℕ) → error ≡ parse.Refused line word → Unfit text line (BadWord word))
    → ((line column : ℕ) → error ≡ parse.BadByte line column → Unfit text line (BadByte column)) → Refuses (IsNoModule text) (of_parse error)
parse_refuses text (parse.Refused line word) refused bad = ForLine line (BadWord word) (refused line word refl) refl
parse_refuses text (parse.BadByte line column) refused bad = ForLine line (BadByte column) (bad line column refl) refl
parse_refuses text parse.NoMemory refused bad = tt

pub check_refuses : (text : List ℕ) (m : ModuleParts) (error : CheckError) → Text text m → HasFault m error → Refuses (IsNoModule text) (of_check error)
check_refuses text m (check.Fault kind at name) read fault = ForModule m (record { kind = kind; at = at; name = name }) read fault refl
check_refuses text m check.NoMemory read fault = tt

pub schedule_refuses : (text : List ℕ) (error : SchedError) → ((line : ℕ) → error ≡ schedule.Refused line → UnfitLine text line) → Refuses (IsNoSchedule text) (of_schedule error)
schedule_refuses text (schedule.Refused line) unfit = ForEntry line (unfit line refl) refl
schedule_refuses text schedule.NoMemory unfit = tt
