-- The exits of a reader.
use Rattle.std.proofs.Common.{ℕ, ◌≡◌, Err}
use Rattle.ir_grammar.specs.Parts.{Read}
use Rattle.ir_parse_parts.specs.declared.stops.Stop.{Stop}
use Rattle.ir_parse_parts.specs.declared.stops.Stop.TheVariants.{Unfit, NoMemory}
use Rattle.ir_parse_parts.specs.Reads.{Stopped}

-- what stops one reading stops another
pub stopped_then : {A B : Type 0} (stop : Stop) (r : Read A) (s : Read B) → ((n : ℕ) → r ≡ Err n → s ≡ Err n) → Stopped stop r → Stopped stop s
stopped_then (Unfit n) r s f e = f n e
stopped_then NoMemory r s f e = tt
