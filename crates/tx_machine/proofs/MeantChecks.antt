-- Checks and copies of registers are those of the definitions.
use Rattle.std.proofs.Common.{ℕ, ◌≡◌, ◌∙◌, Bool, true, false, Option, Some, None, List, refl, ap}
use Rattle.std.specs.Option.{is_some, option_map_or}
use Rattle.ir_core.specs.declared.types.Ty.{Ty}
use Rattle.ir_core.specs.declared.types.Loc.{Loc}
use Rattle.inst_meaning.specs.Registers.{get}
use Rattle.process.specs.declared.state.CallStack.{CallStack}
use Rattle.process.specs.declared.state.Thread.{Thread}
use Rattle.process.specs.declared.state.Thread.TheVariants.{Running}
use Rattle.process.specs.State.{in_frame}
use Rattle.hard_ir.specs.declared.instruction.When.{When}
use Rattle.hard_frames.specs.declared.state.Frame.{Frame}
use Rattle.elide.specs.Watches.{WatchParts}
use Rattle.rtm_core.specs.Transactions.{Transaction}
use Rattle.tx_runtime.specs.declared.words.Mode as runtime
use Rattle.tx_runtime.specs.declared.words.Mode.TheVariants.{Out, In, Plain}
use Rattle.hard_meaning.specs.State.{Upset, is_inside}
use Rattle.hard_meaning.specs.Checks.{is_active, same_word}
use Rattle.hard_meaning.specs.Effects.{with_worker}
use Rattle.hard_meaning.specs.Turns.{agreed, compared, checked, copied}
use Rattle.tx_machine.specs.Own.{OwnParts, compared_words, compared_in, once_copied, copied_in, copied_thread}
use Rattle.tx_machine.specs.Joined.{joined_one, is_in}
use Rattle.tx_machine.specs.Core.{CoreParts, is_open, agreed_as, compared_at, checked_as, core_checked, copied_at, copied_as, core_copied}
use Rattle.tx_machine.specs.Meant.{state_of, IsTied, StandsAt}
use Rattle.tx_machine.proofs.Meant.{open-is}
use Rattle.tx_machine.proofs.MeantAborts.{in_mode, failed-meant, failed-tied, trapped-meant, trapped-tied}
use Rattle.tx_machine.proofs.MeantPasses.{passed-meant, passed-tied, thread-meant, thread-tied}

pub inside-mode : (mode : runtime.Mode) (w : OwnParts) (x : Option (Transaction (CallStack Frame))) (k : WatchParts) → is_some x ≡ is_in mode
    → is_some x ≡ is_inside (joined_one (in_mode mode w) x k).mode
inside-mode Out w x k e = e
inside-mode Plain w x k e = e
inside-mode In w None k e = refl
inside-mode In w (Some tx) k e = refl

module _ (p : CoreParts) (t : ℕ) (w : OwnParts) (x : Option (Transaction (CallStack Frame))) (k : WatchParts) (at : StandsAt p t w x k) (ups : List Upset) where
  pub inside-is : is_open p t ≡ is_inside (joined_one w x k).mode
  inside-is = open-is p t w x k at ups ∙ inside-mode w.words.mode w x k at.tied

  agreed-tied : (o : Option Bool) → IsTied p → IsTied (agreed_as o t p)
  agreed-tied None tied = trapped-tied p t w x k at ups tied
  agreed-tied (Some true) tied = passed-tied p t w x k at ups tied
  agreed-tied (Some false) tied = failed-tied p t w x k at ups tied

  checked-tied-by : (b : Bool) (ty : Ty) (reg : Loc) → IsTied p → IsTied (checked_as b t ty reg p)
  checked-tied-by true ty reg tied = agreed-tied (compared_at p t ty reg) tied
  checked-tied-by false ty reg tied = passed-tied p t w x k at ups tied

  pub checked-tied : (when : When) (ty : Ty) (reg : Loc) → IsTied p → IsTied (core_checked when ty reg t p)
  checked-tied when ty reg tied = checked-tied-by (is_active when (is_open p t)) ty reg tied

  copied-tied-by : (b : Bool) (reg : Loc) → IsTied p → IsTied (copied_as b reg t p)
  copied-tied-by true reg tied = thread-tied p t w x k at ups (λ (th : Thread Frame). copied_thread th reg) tied
  copied-tied-by false reg tied = trapped-tied p t w x k at ups tied

  pub copied-tied : (reg : Loc) → IsTied p → IsTied (core_copied reg t p)
  copied-tied reg tied = copied-tied-by (is_some (copied_at p t reg)) reg tied

  -- where it runs
  module _ (stack : CallStack Frame) (runs : w.thread ≡ Running stack) where
    agreed-by : (b : Bool) → state_of (agreed_as (Some b) t p) ups ≡ agreed p.program (state_of p ups) t (joined_one w x k) stack b
    agreed-by true = passed-meant p t w x k at ups stack runs
    agreed-by false = failed-meant p t w x k at ups stack runs

    compared-by : (ty : Ty) (a b : Option ℕ) → state_of (agreed_as (compared_words ty a b) t p) ups ≡ compared p.program (state_of p ups) t (joined_one w x k) stack ty a b
    compared-by ty (Some a) (Some b) = agreed-by (same_word ty a b)
    compared-by ty (Some a) None = trapped-meant p t w x k at ups stack runs
    compared-by ty None b = trapped-meant p t w x k at ups stack runs

    compared-is : (ty : Ty) (reg : Loc) → compared_at p t ty reg ≡ compared_words ty (get stack.frame.masters reg.0) (get stack.frame.shadows reg.0)
    compared-is ty reg = ap (λ (o : Option OwnParts). option_map_or (λ (v : OwnParts). compared_in v.thread ty reg) o None) at.made
        ∙ ap (λ (th : Thread Frame). compared_in th ty reg) runs

    checked-by : (b : Bool) (ty : Ty) (reg : Loc) → state_of (checked_as b t ty reg p) ups ≡ checked p.program (state_of p ups) t (joined_one w x k) stack ty reg b
    checked-by true ty reg = ap (λ (o : Option Bool). state_of (agreed_as o t p) ups) (compared-is ty reg)
        ∙ compared-by ty (get stack.frame.masters reg.0) (get stack.frame.shadows reg.0)
    checked-by false ty reg = passed-meant p t w x k at ups stack runs

    pub checked-meant : (when : When) (ty : Ty) (reg : Loc) → state_of (core_checked when ty reg t p) ups
        ≡ checked p.program (state_of p ups) t (joined_one w x k) stack ty reg (is_active when (is_inside (joined_one w x k).mode))
    checked-meant when ty reg = checked-by (is_active when (is_open p t)) ty reg
        ∙ ap (λ (b : Bool). checked p.program (state_of p ups) t (joined_one w x k) stack ty reg (is_active when b)) inside-is

    copied-is : (reg : Loc) → copied_at p t reg ≡ get stack.frame.masters reg.0
    copied-is reg = ap (λ (o : Option OwnParts). option_map_or (λ (v : OwnParts). copied_in v.thread reg) o None) at.made
        ∙ ap (λ (th : Thread Frame). copied_in th reg) runs

    copied-by : (reg : Loc) (o : Option ℕ) → get stack.frame.masters reg.0 ≡ o
        → state_of (copied_as (is_some o) reg t p) ups ≡ copied p.program (state_of p ups) t (joined_one w x k) stack reg o
    copied-by reg None e = trapped-meant p t w x k at ups stack runs
    copied-by reg (Some n) e = thread-meant p t w x k at ups (λ (th : Thread Frame). copied_thread th reg)
        ∙ ap (λ (th : Thread Frame). with_worker (state_of p ups) t (record (joined_one w x k) { thread = copied_thread th reg })) runs
        ∙ ap (λ (o : Option ℕ). with_worker (state_of p ups) t (record (joined_one w x k) { thread = in_frame stack (once_copied o reg stack.frame) })) e

    pub copied-meant : (reg : Loc) → state_of (core_copied reg t p) ups
        ≡ copied p.program (state_of p ups) t (joined_one w x k) stack reg (get stack.frame.masters reg.0)
    copied-meant reg = ap (λ (o : Option ℕ). state_of (copied_as (is_some o) reg t p) ups) (copied-is reg)
        ∙ copied-by reg (get stack.frame.masters reg.0) refl
