-- Tests of bytes by which lines and fields are cut off.
use Rattle.std.specs.Prelude.{ℕ, ◌==◌, not, Bool}
use Rattle.ir_core.specs.Tokens.{is_blank}

abbrev pub isnt_feed : ℕ → Bool
isnt_feed b = not (b == 10)

abbrev pub isnt_blank : ℕ → Bool
isnt_blank b = not (is_blank b)
