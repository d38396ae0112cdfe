-- The lines of a function, one after another.
use Rattle.std.proofs.Common.{◌≡◌, ℕ, ◌+◌, ◌<◌, true, false, List, [], ◌++◌, length, ap, refl, sym, subst, ◌∙◌, arith}
use Rattle.std.proofs.lemmas.List.{length-append}
use Rattle.ir_core.specs.declared.types.Loc.{Loc}
use Rattle.ir_core.specs.Module.{ModuleParts, FuncParts}
use Rattle.ir_grammar.specs.declared.trees.BodyLine.{BodyLine}
use Rattle.ir_parse_top.specs.Sheet.{Sheet, Inside, with_body}
use Rattle.ir_parse_top.specs.Text.{Line, Fault, Run, Trips}
use Rattle.ir_parse_top.specs.Reading.{Left, lines_left, Goes, FindsBody, FindsEnd, TripsFrom, TripsInside, TripsIn, sheet_behind}
use Rattle.ir_parse_top.proofs.PassedLines.{goes_none, goes_on}
use Rattle.ir_parse_top.proofs.Runs.{run_append, trips_append}

-- lines that have been taken lead to the function so far
pub record InFunction (old now : Left) (before f : FuncParts) (entry : Loc) : Type 0 where
  pub used : List Line
  pub goes : Goes used old now
  pub run : (tree : ModuleParts) → Run old.text (Inside tree before entry []) used (Inside tree f entry [])

pub in_function : (old : Left) (f : FuncParts) (entry : Loc) → InFunction old old f f entry
in_function old f entry = record { used = []; goes = goes_none old; run = λ tree. refl }

-- a first line that can't be read behind lines that are read
pub trips_later : (old now : Left) (a b : Sheet) (used : List Line) (n : ℕ) (fault : Fault) → Goes used old now → Run old.text a used b → TripsFrom now b n fault → TripsFrom old a n fault
trips_later old now a b used n fault goes run trips =
    subst (λ (ls : List Line). Trips old.text old.number a ls n fault) (sym goes.lines)
    (trips_append old.text old.number a b used (lines_left now) n fault run
    (subst (λ (m : ℕ). Trips old.text m b (lines_left now) n fault) goes.number (subst (λ (text : List ℕ). Trips text now.number b (lines_left now) n fault) goes.text trips)))

-- runs over lines that were taken one after another
pub run_on : (old now new : Left) (a b c : Sheet) (xs ys : List Line) → Goes xs old now → Run old.text a xs b → Run now.text b ys c → Run old.text a (xs ++ ys) c
run_on old now new a b c xs ys goes before after = run_append old.text a b c xs ys before (subst (λ (text : List ℕ). Run text b ys c) goes.text after)

module _ (old middle new : Left) (before f f' : FuncParts) (entry : Loc) (line : BodyLine) (i : InFunction old middle before f entry) (b : FindsBody middle new line) where
  runs : (tree : ModuleParts) → Run old.text (Inside tree before entry []) (i.used ++ b.used) (with_body tree f entry line)
  runs tree = run_on old middle new (Inside tree before entry []) (Inside tree f entry []) (with_body tree f entry line) i.used b.used i.goes (i.run tree) (b.run tree f entry)

  pub in_function_more : ((tree : ModuleParts) → with_body tree f entry line ≡ sheet_behind false tree f' entry) → InFunction old new before f' entry
  in_function_more e = record {
    used = i.used ++ b.used;
    goes = goes_on i.used b.used old middle new i.goes b.goes;
    run = λ tree. subst (λ (s : Sheet). Run old.text (Inside tree before entry []) (i.used ++ b.used) s) (e tree) (runs tree);
  }

  pub finds_end : ((tree : ModuleParts) → with_body tree f entry line ≡ sheet_behind true tree f' entry) → FindsEnd old new before entry f'
  finds_end e = record {
    used = i.used ++ b.used;
    goes = goes_on i.used b.used old middle new i.goes b.goes;
    run = λ tree. subst (λ (s : Sheet). Run old.text (Inside tree before entry []) (i.used ++ b.used) s) (e tree) (runs tree);
  }

pub fewer_lines : (old new : Left) (used : List Line) → Goes used old new → 0 < length used → length (lines_left new) < length (lines_left old)
fewer_lines old new used goes some =
    let e : length (lines_left old) ≡ length used + length (lines_left new) = ap length goes.lines ∙ length-append used (lines_left new) in omega (arith, e, some)

pub in_function_trips : (old middle : Left) (before f : FuncParts) (entry : Loc) → InFunction old middle before f entry → (n : ℕ) (fault : Fault) → TripsInside middle n fault → TripsIn old before entry n fault
in_function_trips old middle before f entry i n fault trips tree = trips_later old middle (Inside tree before entry []) (Inside tree f entry []) i.used n fault i.goes (i.run tree) (trips tree f entry)
