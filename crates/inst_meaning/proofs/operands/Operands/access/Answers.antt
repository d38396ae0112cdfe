use Rattle.std.proofs.Common.{sym}
use Rattle.inst_meaning.proofs.NoAccess.{no_access}
use Rattle.inst_meaning.proofs.operands.Operands.access.Goals as goal

pub returns-in_default : goal.returns-in_default
returns-in_default c =
    sym (no_access c.args.made c.args.self.now.layout.now c.args.self.now.callees.now c.args.self.now.registers.now c.args.inst.now (record {
      no_load = c.in_default.not-Load;
      no_store = c.in_default.not-Store;
      no_combine = c.in_default.not-Rmw;
      no_exchange = c.in_default.not-CmpXchg;
      no_call = c.in_default.not-Call;
    }))
