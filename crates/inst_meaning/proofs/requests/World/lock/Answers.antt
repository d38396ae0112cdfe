-- A lock that was taken is given back where its result finds no memory.
use Rattle.std.proofs.Common.{◌≡◌, None, nat_cmp, refl, ap, ◌∙◌, rules}
use Rattle.std.specs.Map.{lookup, remove_entry}
use Rattle.std.specs.BTreeMap.{is_at}
use Rattle.inst_meaning.proofs.Undone.{removed_again}
use Rattle.inst_meaning.proofs.requests.World.lock.Goals as goal

pub returns-in-Err-clause-unchanged : goal.returns-in-Err-clause-unchanged
returns-in-Err-clause-unchanged c =
    let owners = c.self.inside.owners.entries in
    let free : lookup (is_at (nat_cmp c.args.address)) owners ≡ None = search rules in
    let undone = removed_again c.args.address c.args.thread.0 owners free in
    let same : c.remove.new.self.entries ≡ owners = c.remove.ensures.entries ∙ ap (remove_entry (is_at (nat_cmp c.args.address))) c.in_ok-insert.ensures.entries ∙ undone in
    (rw (← c.self.view_is, same) refl, c.in-Err.ensures.err)
