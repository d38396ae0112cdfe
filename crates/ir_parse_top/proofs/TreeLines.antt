-- The lines of a whole text.
use Rattle.std.proofs.Common.{◌≡◌, ℕ, List, [], ◌∷◌, ◌++◌, refl, sym, subst}
use Rattle.ir_core.specs.Module.{ModuleParts, FuncParts}
use Rattle.ir_core.specs.declared.text.LinePlace.TheVariants.{Top}
use Rattle.ir_grammar.specs.declared.trees.TopLine.{TopLine}
use Rattle.ir_grammar.specs.declared.trees.TopLine.TheVariants as tops
use Rattle.ir_grammar.specs.declared.trees.Head.{Head}
use Rattle.ir_parse_top.specs.Sheet.{Outside, with_top, headed, entry_of}
use Rattle.ir_parse_top.specs.Text.{Line, Fault, Run}
use Rattle.ir_parse_top.specs.Reading.{Left, lines_left, Goes, FindsTop, FindsEnd, FindsNothing, Follows, FindsAll, TripsFrom, TripsOutside}
use Rattle.ir_parse_top.proofs.PassedLines.{goes_none, goes_on}
use Rattle.ir_parse_top.proofs.Runs.{run_append, run_passed}
use Rattle.ir_parse_top.proofs.FunctionLines.{run_on, trips_later}

-- lines that have been taken lead to the tree so far
pub record InModule (old now : Left) (before tree : ModuleParts) : Type 0 where
  pub used : List Line
  pub goes : Goes used old now
  pub run : Run old.text (Outside before) used (Outside tree)

pub in_module : (old : Left) (tree : ModuleParts) → InModule old old tree tree
in_module old tree = record { used = []; goes = goes_none old; run = refl }

-- a line that is all that it says
pub follows_at_once : (old : Left) (before after : ModuleParts) (line : TopLine) → Outside after ≡ with_top old.text before line → Follows old old before line after
follows_at_once old before after line e = record { used = []; goes = goes_none old; run = e }

pub follows_function : (old new : Left) (before after : ModuleParts) (head : Head) (f : FuncParts) → FindsEnd old new (headed old.text head) (entry_of old.text head) f → after ≡ record before { funcs = before.funcs ++ f ∷ [] } → Follows old new before (tops.Define head) after
follows_function old new before after head f e is = record {
  used = e.used;
  goes = e.goes;
  run = subst (λ (m : ModuleParts). Run old.text (with_top old.text before (tops.Define head)) e.used (Outside m)) (sym is) (e.run before);
}

module _ (old middle later new : Left) (before tree after : ModuleParts) (line : TopLine) (i : InModule old middle before tree) (t : FindsTop middle later line) where
  run_to_line : Run old.text (Outside before) (i.used ++ t.used) (with_top old.text tree line)
  run_to_line = run_on old middle later (Outside before) (Outside tree) (with_top old.text tree line) i.used t.used i.goes i.run (subst (λ (text : List ℕ). Run middle.text (Outside tree) t.used (with_top text tree line)) i.goes.text (t.run tree))

  goes_to_line : Goes (i.used ++ t.used) old later
  goes_to_line = goes_on i.used t.used old middle later i.goes t.goes

  same_text : later.text ≡ old.text
  same_text = goes_to_line.text

  pub in_module_more : Follows later new tree line after → InModule old new before after
  in_module_more f = record {
    used = (i.used ++ t.used) ++ f.used;
    goes = goes_on (i.used ++ t.used) f.used old later new goes_to_line f.goes;
    run = run_on old later new (Outside before) (with_top old.text tree line) (Outside after) (i.used ++ t.used) f.used goes_to_line run_to_line (subst (λ (text : List ℕ). Run later.text (with_top text tree line) f.used (Outside after)) same_text f.run);
  }

  pub line_trips : (n : ℕ) (fault : Fault) → TripsFrom later (with_top later.text tree line) n fault → TripsFrom old (Outside before) n fault
  line_trips n fault trips = trips_later old later (Outside before) (with_top old.text tree line) (i.used ++ t.used) n fault goes_to_line run_to_line (subst (λ (text : List ℕ). TripsFrom later (with_top text tree line) n fault) same_text trips)

module _ (old middle : Left) (before tree : ModuleParts) (i : InModule old middle before tree) where
  pub top_trips_later : (n : ℕ) (fault : Fault) → TripsOutside middle n fault → TripsFrom old (Outside before) n fault
  top_trips_later n fault trips = trips_later old middle (Outside before) (Outside tree) i.used n fault i.goes i.run (trips tree)

  pub finds_all : (new : Left) → FindsNothing Top middle new → FindsAll old before tree
  finds_all new f =
      subst (λ (ls : List Line). Run old.text (Outside before) ls (Outside tree)) (sym i.goes.lines)
      (run_append old.text (Outside before) (Outside tree) (Outside tree) i.used (lines_left middle) i.run (run_passed old.text (Outside tree) (lines_left middle) f.passed))
