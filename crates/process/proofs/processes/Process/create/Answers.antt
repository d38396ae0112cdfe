-- the process and the answer where a thread was made, and where its number has no place
use Rattle.std.proofs.Common.{◌≡◌, ◌<◌, true, false, length, not, ap, sym, ◌∙◌, arith}
use Rattle.std.specs.Option.{is_none}
use Rattle.mem_image.specs.Bytes.{read_of}
use Rattle.process.proofs.Outsides.{created_state, created_answer, refused_pair}
use Rattle.process.proofs.processes.Process.create.Goals as goal

pub returns-clause-process : goal.returns-clause-process
returns-clause-process g c =
    let now = c.args.self.now in
    let count : c.len-number.result ≡ length now.threads = c.len-number.ensures ∙ c.self.inside.threads.ok.0 ∙ ap (λ p. length p.threads) c.self.view_is in
    let few : c.len-number.result < 64 = omega (arith, c.if-number-ge-THREAD_LIMIT.false) in
    let read : c.read.result ≡ read_of now.memory c.args.address 8 = c.read.ensures.word ∙ ap (λ p. read_of p.memory c.args.address 8) c.self.view_is in
    let some : is_none c.read.result ≡ false = ap not c.if-is_none.ensures in
    created_state (g.P.Code.frames c.args.program.now) now c.self-2.inside.image c.write.new.self c.self-2.inside.threads.items c.self-2.inside.world c.args.t.0 c.args.target c.args.address c.args.function c.args.argument
    c.len-number.result c.in_ok-thread.thread c.read.result c.requires.runs count few read some c.in_ok-thread.ensures (c.self-2.view_is ∙ c.in_ok-add_thread.ensures.ok) c.write.ensures.memory

pub returns-clause-answer : goal.returns-clause-answer
returns-clause-answer g c =
    let now = c.args.self.now in
    let count : c.len-number.result ≡ length now.threads = c.len-number.ensures ∙ c.self.inside.threads.ok.0 ∙ ap (λ p. length p.threads) c.self.view_is in
    let few : c.len-number.result < 64 = omega (arith, c.if-number-ge-THREAD_LIMIT.false) in
    let read : c.read.result ≡ read_of now.memory c.args.address 8 = c.read.ensures.word ∙ ap (λ p. read_of p.memory c.args.address 8) c.self.view_is in
    let some : is_none c.read.result ≡ false = ap not c.if-is_none.ensures in
    sym (created_answer (g.P.Code.frames c.args.program.now) now c.args.t.0 c.args.target c.args.address c.args.function c.args.argument c.len-number.result c.read.result c.requires.runs count few read some)

pub returns-then-is_none-clause-answer : goal.returns-then-is_none-clause-answer
returns-then-is_none-clause-answer g c =
    let now = c.args.self.now in
    let count : c.len-number.result ≡ length now.threads = c.len-number.ensures ∙ c.self.inside.threads.ok.0 ∙ ap (λ p. length p.threads) c.self.view_is in
    let few : c.len-number.result < 64 = omega (arith, c.if-number-ge-THREAD_LIMIT.false) in
    let read : c.read.result ≡ read_of now.memory c.args.address 8 = c.read.ensures.word ∙ ap (λ p. read_of p.memory c.args.address 8) c.self.view_is in
    let none : is_none c.read.result ≡ true = ap not c.if-is_none.ensures in
    sym (ap (λ pair. pair.1) (refused_pair (g.P.Code.frames c.args.program.now) now c.args.t.0 c.args.target c.args.address c.args.function c.args.argument c.len-number.result c.read.result c.requires.runs count few read none))

pub returns-then-is_none-clause-process : goal.returns-then-is_none-clause-process
returns-then-is_none-clause-process g c =
    let now = c.args.self.now in
    let count : c.len-number.result ≡ length now.threads = c.len-number.ensures ∙ c.self.inside.threads.ok.0 ∙ ap (λ p. length p.threads) c.self.view_is in
    let few : c.len-number.result < 64 = omega (arith, c.if-number-ge-THREAD_LIMIT.false) in
    let read : c.read.result ≡ read_of now.memory c.args.address 8 = c.read.ensures.word ∙ ap (λ p. read_of p.memory c.args.address 8) c.self.view_is in
    let none : is_none c.read.result ≡ true = ap not c.if-is_none.ensures in
    sym (ap (λ pair. pair.0) (refused_pair (g.P.Code.frames c.args.program.now) now c.args.t.0 c.args.target c.args.address c.args.function c.args.argument c.len-number.result c.read.result c.requires.runs count few read none))
