use Rattle.std.proofs.Common.{List, [], refl, sym, subst}
use Rattle.hard_meaning.specs.Records.{Record}
use Rattle.hard_meaning.specs.Runs.{run_on}
use Rattle.tx_simulation.specs.Meaning.{AreCovered, AreGone}
use Rattle.tx_simulation.proofs.Loose.{hardened-loose}
use Rattle.tx_simulation.proofs.Headline.{meant, never-fails, unstruck, named-meant}
use Rattle.tx_simulation.proofs.laws.hardened_runs_stand_for_the_source.Goals as goal

pub returns-clause-images : goal.returns-clause-images
returns-clause-images c = hardened-loose

pub returns-clause-meaning : goal.returns-clause-meaning
returns-clause-meaning c = λ m h arguments events accepted image good covered. meant m h arguments accepted image good events covered

pub returns-clause-never_fails : goal.returns-clause-never_fails
returns-clause-never_fails c = λ m h arguments events accepted image good gone failed. never-fails m h arguments accepted image good events gone failed

pub returns-clause-without_upsets : goal.returns-clause-without_upsets
returns-clause-without_upsets c = λ m h arguments events accepted image good free.
    let none = sym (unstruck h arguments events free) in (
      meant m h arguments accepted image good events (subst (λ (list : List Record). AreCovered list) none refl),
      λ failed. never-fails m h arguments accepted image good events (subst (λ (list : List Record). AreGone list) none refl) failed,
    )

pub returns-clause-by_names : goal.returns-clause-by_names
returns-clause-by_names c = λ m h arguments events accepted numbered image few good covered. named-meant m h arguments accepted numbered image few good events covered
