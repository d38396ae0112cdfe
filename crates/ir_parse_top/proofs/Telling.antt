-- What errors say.
use Rattle.std.specs.Prelude.{Result, Ok, Err, IfOk, IfErr}
use Rattle.std.proofs.Common.{ℕ}
use Rattle.ir_parse_top.specs.declared.errors.ParseError.{ParseError}
use Rattle.ir_parse_top.specs.declared.errors.ParseError.TheVariants.{Refused, BadByte, NoMemory}
use Rattle.ir_parse_top.specs.Text.{Fault}
use Rattle.ir_parse_top.specs.Text as texts
use Rattle.ir_parse_top.specs.Reading.{Told}

pub told_map : (P Q : ℕ → Fault → Type 0) (e : ParseError) → ((n : ℕ) (fault : Fault) → P n fault → Q n fault) → Told P e → Told Q e
told_map P Q (Refused line word) f told = f line (texts.BadWord word) told
told_map P Q (BadByte line column) f told = f line (texts.BadByte column) told
told_map P Q NoMemory f told = tt

-- what holds of a value or of an error, and what follows from it
pub ok_map : {T E : Type 0} (P Q : T → Type 0) (r : Result T E) → ((v : T) → P v → Q v) → IfOk r P → IfOk r Q
ok_map P Q (Ok v) f h = f v h
ok_map P Q (Err e) f h = tt

pub err_map : {T : Type 0} (P Q : ℕ → Fault → Type 0) (r : Result T ParseError) → ((n : ℕ) (fault : Fault) → P n fault → Q n fault) → IfErr r (Told P) → IfErr r (Told Q)
err_map P Q (Ok v) f h = tt
err_map P Q (Err e) f h = told_map P Q e f h
