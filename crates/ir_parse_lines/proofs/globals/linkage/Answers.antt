use Rattle.std.proofs.Common.{◌≡◌, ◌∙◌, sym, drop, List, [], ◌∷◌, Option, Some, None, Ok, true, refl}
use Rattle.std.specs.Prelude.{is_some}
use Rattle.ir_grammar.specs.Parts.{Tok, one, heads, taken}
use Rattle.ir_grammar.specs.Words.{in_table}
use Rattle.ir_grammar.specs.declared.heads.AttributeHead.{AttributeHead}
use Rattle.ir_grammar.specs.Top.{linkage_word, linkage}
use Rattle.ir_grammar.proofs.Turns.{skip_more, skip_over}
use Rattle.ir_grammar.proofs.TopLaws.{linkage_turns}
use Rattle.ir_parse_lines.proofs.globals.linkage.Goals as goal

-- a word of linkage is taken
taken_word : (ts : List Tok) → heads (λ t. is_some (in_table linkage_word t)) ts ≡ true → (a : AttributeHead) × ((one (in_table linkage_word)).reads ts ≡ Ok (a, drop 1 ts))
taken_word [] e = absurd cc
taken_word (t ∷ ts) e = by (in_table linkage_word t) e
  where
    by : (o : Option AttributeHead) → is_some o ≡ true → (a : AttributeHead) × (taken o (t ∷ ts) ≡ Ok (a, ts))
    by (Some a) e = (a, refl)
    by None e = absurd cc

pub words-preserved : goal.words-preserved
unfolding linkage
words-preserved c =
    let passes = sym c.at_linkage.ensures ∙ c.words-test.true in
    let word = taken_word c.words.reader passes in
    skip_more linkage_turns c.words.reader c.skip.new.self word.0 passes (rw c.skip.ensures word.1) ∙ c.words.invariant

pub returns : goal.returns
unfolding linkage
returns c = sym c.words.invariant ∙ skip_over linkage_turns c.words.reader (sym c.at_linkage.ensures ∙ c.words-test.false)
