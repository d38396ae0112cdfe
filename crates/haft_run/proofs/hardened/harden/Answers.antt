use Rattle.haft_run.proofs.hardened.harden.Goals as goal

-- the columns before are those of this module
pub relax-requires : goal.relax-requires
relax-requires c =
    let flow = c.in_ok-flow.ensures.answer in
    record { source = flow.source; accepted = flow.accepted; of_text = flow.of_text; is = c.in_ok-checked.ensures.column flow.source flow.is }

pub returns : goal.returns
returns c =
    let m = c.args.a.now in
    let accepted = c.module.ensures.accepted in
    let checked = c.in_ok-checked.ensures.column m c.in_ok-flow.ensures.columns in
    let relaxed = c.in_ok-relaxed.ensures.column m accepted checked in
    let placed = c.in_ok-placed.ensures.column m accepted relaxed in
    c.in_ok-hardened.ensures.column m accepted placed
