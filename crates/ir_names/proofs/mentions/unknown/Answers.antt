use Rattle.std.proofs.Common.{◌≡◌, ◌∙◌, List, Option, subst}
use Rattle.std.specs.Prelude.{IfOk}
use Rattle.ir_lines.specs.Lines.{lines_of}
use Rattle.ir_lines.specs.declared.site.Site.{Site}
use Rattle.ir_lines.specs.declared.site.Named.{Named}
use Rattle.ir_names.specs.Names.{is_defined, definitions}
use Rattle.ir_names.specs.Sets.{has_name, HasNamesOf}
use Rattle.ir_names.proofs.Telling.{unknown-alike}
use Rattle.ir_names.proofs.mentions.unknown.Goals as goal

pub returns : goal.returns
returns c =
    let m = c.args.m.now in
    let names : HasNamesOf (definitions m) c.in_ok-known.known = subst (λ (defs : List (Site × Named)). HasNamesOf defs c.in_ok-known.known) (c.items.ensures ∙ c.in_ok-definitions.ensures) c.in_ok-known.ensures in
    let same = unknown-alike (has_name c.in_ok-known.known) (is_defined m) names (lines_of m) in
    subst (λ (told : Option (Site × Named)). IfOk c.in_module.result (λ found. found ≡ told)) same c.in_module.ensures
