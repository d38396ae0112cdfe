-- What a reader sees of its line, and what a call of it gave.
use Rattle.std.specs.Prelude.{◌≡◌, List, Result, Ok, Err, Bool, true, ⊤}
use Rattle.ir_grammar.specs.Parts.{Tok, Read}
use Rattle.ir_parse_parts.specs.declared.stops.Stop.{Stop}
use Rattle.ir_parse_parts.specs.declared.stops.Stop.TheVariants.{Unfit, NoMemory}

-- What was given is what reading makes of the tokens before, and leaves the tokens after; want of memory says nothing.
abbrev pub Stopped : {A : Type 0} → Stop → Read A → Type 0
Stopped (Unfit n) read = read ≡ Err n
Stopped NoMemory read = Unit {0}

abbrev pub Gave : {A : Type 0} → Result A Stop → List Tok → Read A → Type 0
Gave (Ok v) left read = read ≡ Ok (v, left)
Gave (Err stop) left read = Stopped stop read

-- the same of a part that is there or not
abbrev pub Passed : Result ⊤ Stop → List Tok → Read Bool → Type 0
Passed (Ok _) left read = read ≡ Ok (true, left)
Passed (Err stop) left read = Stopped stop read

-- the same of values that were added to a list
abbrev pub Filled : {A : Type 0} → Result ⊤ Stop → List A → List Tok → Read (List A) → Type 0
Filled (Ok _) values left read = read ≡ Ok (values, left)
Filled (Err stop) values left read = Stopped stop read
