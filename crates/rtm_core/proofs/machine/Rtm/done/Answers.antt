use Rattle.std.proofs.Common.{◌∙◌, ◌<◌, ap, sym, arith, ℕ, Option, length}
use Rattle.ir_layout.specs.Memory.{is_valid}
use Rattle.mem_image.specs.Accesses.{bytes}
use Rattle.mem_image.specs.Touches.{memory_with}
use Rattle.rtm_core.specs.Calls.{touch_of, store_of}
use Rattle.rtm_core.specs.Transactions.{RtmParts}
use Rattle.rtm_core.proofs.Machines.{done-outside, written-there}
use Rattle.rtm_core.proofs.machine.Rtm.done.Goals as goal

pub returns-in-Some : goal.returns-in-Some
returns-in-Some g c =
    let access = c.args.access.now in
    let i = c.self.inside in
    let t : ℕ = c.args.t.0 in
    let less : t < length i.slots.items = omega (arith, c.self.invariant, c.requires.thread) in
    let valid = ap (λ (r : RtmParts _). is_valid r.memory.places access.addr (bytes access.size)) c.self.view_is ∙ c.requires.valid in
    let put = c.write.ensures.memory ∙ written-there i.image access.addr (bytes access.size) c.in-Some.word valid ∙ sym (ap (λ (word : Option ℕ). memory_with (store_of access word) i.image) c.in-Some.is) in
    done-outside i.image c.write.new.self i.slots.items t c.index_mut-slot.result.now (touch_of access) (store_of access c.args.store) c.args.self.now less c.index_mut-slot.ensures.value
    (sym c.is_open.ensures ∙ c.if-is_open.false) put c.self.view_is

pub returns-in_default : goal.returns-in_default
returns-in_default g c =
    let access = c.args.access.now in
    let i = c.self.inside in
    let t : ℕ = c.args.t.0 in
    let less : t < length i.slots.items = omega (arith, c.self.invariant, c.requires.thread) in
    done-outside i.image i.image i.slots.items t c.index_mut-slot.result.now (touch_of access) (store_of access c.args.store) c.args.self.now less c.index_mut-slot.ensures.value
    (sym c.is_open.ensures ∙ c.if-is_open.false) (sym (ap (λ (word : Option ℕ). memory_with (store_of access word) i.image) c.in_default.is)) c.self.view_is
