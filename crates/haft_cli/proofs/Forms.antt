-- A text of a form stands for one value or has one refusal, and never both.
use Rattle.std.proofs.Common.{ℕ, ◌≡◌, List, IsTrue, refl, sym, ap, subst, ◌∙◌}
use Rattle.ir_core.specs.Module.{ModuleParts}
use Rattle.ir_parse_top.specs.Text.{Fault as LineFault}
use Rattle.ir_parse_top.proofs.TextLaws.{texts_decided}
use Rattle.ir_check.specs.Faults.{Fault, IsFault}
use Rattle.ir_check.proofs.OneFault.{fault_excludes, one_fault}
use Rattle.sched_file.specs.declared.entries.Line.{Line as Entry}
use Rattle.sched_file.specs.Schedule.{ScheduleParts, IsSchedule}
use Rattle.sched_file.proofs.Meanings.{same_meaning}
use Rattle.sched_file.proofs.SoFar.{not_unfit, same_unfit}
use Rattle.haft_cli.specs.declared.refusal.Refusal.{Refusal}
use Rattle.haft_cli.specs.declared.refusal.Refusal.TheVariants.{Module, Schedule}
use Rattle.haft_cli.specs.Table.{Form, Unread, ModuleText, ScheduleText, Value, is_read, Checks, line_refusal, IsNoModule, ForLine, ForModule, IsNoSchedule, ForEntry, Stands, IsUnfit}

-- ---- texts of modules

one_reason : (text : List ℕ) (one two : Refusal) → IsNoModule text one → IsNoModule text two → one ≡ two
one_reason text one two (ForLine line fault unfit e) (ForLine number other again f) =
    let same = texts_decided.one_fault text line number fault other unfit again in
    e ∙ ap (λ (n : ℕ). line_refusal n fault) same.0 ∙ ap (λ (x : LineFault). line_refusal number x) same.1 ∙ sym f
one_reason text one two (ForLine line fault unfit e) (ForModule m other read broken f) = absurd (texts_decided.never_both text m line fault read unfit)
one_reason text one two (ForModule m fault read broken e) (ForLine line other unfit f) = absurd (texts_decided.never_both text m line other read unfit)
one_reason text one two (ForModule m fault read broken e) (ForModule n other again unsound f) =
    let same : m ≡ n = texts_decided.one_module text m n read again in
    let faults : fault ≡ other = one_fault n fault other (subst (λ (k : ModuleParts). IsFault k fault) same broken) unsound in
    e ∙ ap (λ (x : Fault). Module x.kind x.at x.name) faults ∙ sym f

checked_not : (text : List ℕ) (m : ModuleParts) (refusal : Refusal) → Checks text m → IsNoModule text refusal → ⊥
checked_not text m refusal checks (ForLine line fault unfit e) = texts_decided.never_both text m line fault checks.module_read unfit
checked_not text m refusal checks (ForModule n fault read broken e) =
    let same : n ≡ m = texts_decided.one_module text n m read checks.module_read in
    fault_excludes m fault (subst (λ (k : ModuleParts). IsFault k fault) same broken) checks.accepted

-- ---- schedules

one_schedule : (text : List ℕ) (s t : ScheduleParts) → IsSchedule text s.args s.lines → IsSchedule text t.args t.lines → s ≡ t
one_schedule text s t read again =
    let same = same_meaning _ s.args t.args s.lines t.lines read.means again.means in
    let args : s ≡ record { args = t.args; lines = s.lines } = ap (λ (xs : List ℕ). record { args = xs; lines = s.lines }) same.0 in
    args ∙ ap (λ (xs : List Entry). record { args = t.args; lines = xs }) same.1

one_entry : (text : List ℕ) (one two : Refusal) → IsNoSchedule text one → IsNoSchedule text two → one ≡ two
one_entry text one two (ForEntry line unfit e) (ForEntry number again f) = e ∙ ap Schedule (same_unfit text line number unfit again) ∙ sym f

schedule_not : (text : List ℕ) (s : ScheduleParts) (refusal : Refusal) → IsSchedule text s.args s.lines → IsNoSchedule text refusal → ⊥
schedule_not text s refusal read (ForEntry line unfit e) = not_unfit text s.args s.lines line read unfit

-- ---- any form

pub one_value : (form : Form) (text : List ℕ) (one two : Value form) → Stands form text one → Stands form text two → one ≡ two
one_value Unread text one two a b = refl
one_value ModuleText text one two a b = texts_decided.one_module text one two a.module_read b.module_read
one_value ScheduleText text one two a b = one_schedule text one two a b

pub one_refusal : (form : Form) (text : List ℕ) (one two : Refusal) → IsUnfit form text one → IsUnfit form text two → one ≡ two
one_refusal Unread text one two a b = absurd a
one_refusal ModuleText text one two a b = one_reason text one two a b
one_refusal ScheduleText text one two a b = one_entry text one two a b

pub never_both : (form : Form) (text : List ℕ) (value : Value form) (refusal : Refusal) → Stands form text value → IsUnfit form text refusal → ⊥
never_both Unread text value refusal a b = b
never_both ModuleText text value refusal a b = checked_not text value refusal a b
never_both ScheduleText text value refusal a b = schedule_not text value refusal a b

-- a file that isn't read may hold other bytes
pub stands_on : (form : Form) (one two : List ℕ) (value : Value form) → (IsTrue (is_read form) → one ≡ two) → Stands form one value → Stands form two value
stands_on Unread one two value same a = tt
stands_on ModuleText one two value same a = subst (λ (text : List ℕ). Checks text value) (same refl) a
stands_on ScheduleText one two value same a = subst (λ (text : List ℕ). IsSchedule text value.args value.lines) (same refl) a

pub unfit_on : (form : Form) (one two : List ℕ) (refusal : Refusal) → (IsTrue (is_read form) → one ≡ two) → IsUnfit form one refusal → IsUnfit form two refusal
unfit_on Unread one two refusal same a = a
unfit_on ModuleText one two refusal same a = subst (λ (text : List ℕ). IsNoModule text refusal) (same refl) a
unfit_on ScheduleText one two refusal same a = subst (λ (text : List ℕ). IsNoSchedule text refusal) (same refl) a
