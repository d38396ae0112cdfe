use Rattle.std.proofs.Common.{◌≡◌, ◌∙◌, ap, sym, arith, ◌<◌, ◌≤◌, ◌/◌, length, get_or, [], Some}
use Rattle.std.proofs.lemmas.List.{get_or_default}
use Rattle.mem_image.specs.Accesses.{bytes}
use Rattle.mem_image.proofs.SeenBytes.{old-long}
use Rattle.rtm_core.specs.code.Slots.{transaction_of}
use Rattle.rtm_core.proofs.Fields.{few-lines, read-buffered, read-unwritten, seen-same}
use Rattle.rtm_core.proofs.LineLists.{is-first, place-none}
use Rattle.rtm_core.proofs.WrittenBytes.{some-bytes}
use Rattle.rtm_core.proofs.slots.Slot.read.Goals as goal

pub word-requires-clause-some : goal.word-requires-clause-some
word-requires-clause-some g c =
    let valid = sym c.valid.ensures.valid ∙ c.if-not-valid.false in
    let long = old-long c.args.image.now c.args.addr (bytes c.args.size) c.in_ok-old-in-Some.old.now c.valid.ensures.whole valid c.in_ok-old-in-Some.ensures in
    omega (arith, long, some-bytes c.args.size)

pub returns-in-None-clause-word : goal.returns-in-None-clause-word
returns-in-None-clause-word g c =
    let i = c.self.inside in
    c.read-in-None.ensures.word
    ∙ read-unwritten c.args.image.now i.keep i.reads i.writes i.buffers.items c.args.addr (bytes c.args.size) c.valid.ensures.whole (sym c.valid.ensures.valid ∙ c.if-not-valid.false) c.self.invariant (place-none i.writes (c.args.addr / 64) (sym c.in-None.ensures))
    ∙ seen-same c.args.image.now c.args.addr (bytes c.args.size) (transaction_of i.keep i.reads i.writes i.buffers.items) c.args.self.now c.self.view_is

pub returns-in_ok-old-in-Some-clause-word : goal.returns-in_ok-old-in-Some-clause-word
returns-in_ok-old-in-Some-clause-word g c =
    let i = c.self.inside in
    let few : length i.writes ≤ length i.buffers.items = few-lines i.writes i.buffers.items c.self.invariant in
    let first = is-first i.writes (c.args.addr / 64) c.in-Some.place (sym c.in-Some.ensures) in
    let within : c.in-Some.place < length i.buffers.items = omega (arith, few, first.within) in
    let buffer : c.index.result.now ≡ get_or i.buffers.items c.in-Some.place [] = c.index.ensures ∙ get_or_default i.buffers.items c.in-Some.place c.index.result.now [] within in
    ap Some c.word.ensures.word
    ∙ read-buffered c.args.image.now i.keep i.reads i.writes i.buffers.items c.index.result.now c.args.addr (bytes c.args.size) c.in-Some.place c.in_ok-old-in-Some.old.now c.valid.ensures.whole (sym c.valid.ensures.valid ∙ c.if-not-valid.false) c.self.invariant c.if-is_none.ensures (sym c.in-Some.ensures) c.in_ok-old-in-Some.ensures buffer
    ∙ seen-same c.args.image.now c.args.addr (bytes c.args.size) (transaction_of i.keep i.reads i.writes i.buffers.items) c.args.self.now c.self.view_is
