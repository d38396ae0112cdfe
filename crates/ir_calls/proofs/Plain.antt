-- Tests of all values of a list.
use Rattle.std.proofs.lemmas.List.Folds.{list_all-map}

pub ruleset plain_lists = (list_all-map)
