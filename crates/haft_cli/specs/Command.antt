-- What a command line asks for.
use Rattle.std.specs.Prelude.{ℕ, List, [], ◌∷◌, Option, Some, None, codes, if◌then◌else◌}
use Rattle.std.specs.Str.{bytes_eq}
use Rattle.haft_cli.specs.declared.command.Command.{Command}
use Rattle.haft_cli.specs.declared.command.Command.TheVariants.{Check, Run, Src}

-- the words are `check F`, `run F S` or `src F S`
abbrev pub command_of : List (List ℕ) → Option Command
command_of (word ∷ first ∷ []) = if bytes_eq word (codes "check") then Some Check else None
command_of (word ∷ first ∷ second ∷ []) = if bytes_eq word (codes "run") then Some Run else (if bytes_eq word (codes "src") then Some Src else None)
command_of words = None
