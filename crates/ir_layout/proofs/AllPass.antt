-- Tests of all items of two lists, one behind the other.
use Rattle.std.proofs.lemmas.List.Folds.{list_all-append}

pub ruleset all_pass = (list_all-append)
