-- What a command's own work comes to, as an answer of its row.
use Rattle.std.proofs.Common.{ℕ, ◌≡◌, List, refl, sym, subst}
use Rattle.haft_cli.specs.declared.command.Command.{Command}
use Rattle.haft_cli.specs.declared.refusal.Stopped.{Stopped}
use Rattle.haft_cli.specs.Table.{Value, Stands, Answer, Refused, row_of}
use Rattle.haft_cli.specs.Answers.{AreUnfit, Works, Unfit, Fit}
use Rattle.haft_cli.specs.Work.{Refuses}
use Rattle.haft_cli.proofs.Refusing.{refuses_too}

-- the command is the one of this arm
module _ (self command : Command) (is : self ≡ command) (first second : List ℕ) where
  pub works_for : (answer : Answer) → Works (row_of command) first second answer → Works (row_of self) first second answer
  works_for answer work = subst (λ (k : Command). Works (row_of k) first second answer) (sym is) work

  pub refused_for : (why : Stopped) → Refuses (AreUnfit (row_of command).first (row_of command).second first second) why → Refuses (λ refusal. Works (row_of self) first second (Refused refusal)) why
  refused_for why unfit =
      refuses_too (AreUnfit (row_of command).first (row_of command).second first second) (λ refusal. Works (row_of self) first second (Refused refusal))
      (λ refusal u. works_for (Refused refusal) (Unfit refusal u refl)) why unfit

  -- both files have their form
  module _ (one : Value (row_of command).first) (two : Value (row_of command).second) (stands_first : Stands (row_of command).first first one) (stands_second : Stands (row_of command).second second two) where
    pub fits_for : (answer : Answer) → (row_of command).answer one two ≡ answer → Works (row_of self) first second answer
    fits_for answer e = works_for answer (Fit one two stands_first stands_second (sym e))
