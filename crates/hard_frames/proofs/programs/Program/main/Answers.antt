use Rattle.std.proofs.Common.{rules, tests, ◌≡◌, ap, ◌∙◌, ℕ, Option}
use Rattle.std.specs.List.{position}
use Rattle.std.specs.Option.{unwrap_or}
use Rattle.std.proofs.lemmas.Iterator.{YieldsList-from_slice}
use Rattle.std.proofs.lemmas.Iterator.Search.{position_from_yields_List}
use Rattle.ir_check.specs.Functions.{is_main}
use Rattle.src_meaning.specs.State.{main_of}
use Rattle.hard_frames.proofs.programs.Program.main.Goals as goal

pub returns : goal.returns
returns c =
    let m = c.heads-m.result.now in
    let found : c.position.result ≡ position (is_main m) m.funcs = position_from_yields_List (is_main m) _ _ c.position.result c.position.ensures.ran (YieldsList-from_slice m.funcs (c.iter.ensures.rest ∙ c.funcs.ensures)) (λ x b q k. search (rules, tests)) in
    c.unwrap_or.ensures ∙ ap (λ (o : Option ℕ). unwrap_or o 0) found ∙ ap main_of c.heads-m.ensures
