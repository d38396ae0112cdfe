-- Tokens with their texts, as the reader keeps them.
use Rattle.ir_grammar.specs.Parts as parts
use Rattle.ir_parse_parts.specs.declared.tokens.Tok.{Tok}

-- a token with its text, without where it lies in memory
abbrev pub tok_view : Tok → parts.Tok
tok_view t = record { kind = t.kind; text = t.text.now; at = t.at }
