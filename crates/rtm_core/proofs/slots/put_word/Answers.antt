use Rattle.std.proofs.Common.{◌≡◌, ◌∙◌, ◌≤◌, ap, sym, arith, Bool, true, ℕ, List, [], Option, length, get_or}
use Rattle.std.proofs.lemmas.List.{get_or_default}
use Rattle.mem_image.specs.Accesses.{bytes}
use Rattle.mem_image.specs.Lines.{Line, line_of, lines_with, opened_where}
use Rattle.mem_image.specs.Touches.{stored_with}
use Rattle.rtm_core.specs.Calls.{store_of}
use Rattle.rtm_core.specs.code.Slots.{lines_of}
use Rattle.rtm_core.proofs.Fields.{few-lines}
use Rattle.rtm_core.proofs.LineLists.{Buffers, buffers-put, is-first, word-put}
use Rattle.rtm_core.proofs.slots.put_word.Goals as goal

pub returns-in-Some-clause-lines : goal.returns-in-Some-clause-lines
returns-in-Some-clause-lines c =
    let access = c.args.access.now in
    let vs : List ℕ = c.open_line-place.new.writes in
    let cs : Buffers = c.open_line-place.new.buffers.items in
    let i : ℕ = c.open_line-place.result in
    let all = c.open_line-place.ensures.buffers in
    let few : length vs ≤ length cs = few-lines vs cs all in
    let place = c.open_line-place.ensures.place in
    let first = is-first vs (line_of access.addr) i place in
    let buffer : c.index_mut.result.now ≡ get_or cs i [] = c.index_mut.ensures.value ∙ get_or_default cs i c.index_mut.result.now [] (omega (arith, few, first.within)) in
    let lines : List Line = lines_of c.args.writes.now c.args.buffers.now.items in
    word-put c.args.writes.now vs c.args.buffers.now.items cs access.addr (bytes access.size) c.in-Some.word i c.index_mut.result.now c.store.new.self few all.lines c.open_line-place.ensures.lines place buffer c.store.ensures
    ∙ sym (ap (λ (b : Bool). stored_with lines_with (store_of access c.args.word) (opened_where b lines (line_of access.addr))) c.if-not-access.false
    ∙ ap (λ (word : Option ℕ). stored_with lines_with (store_of access word) (opened_where true lines (line_of access.addr))) c.in-Some.is)

pub returns-in-Some-clause-buffers : goal.returns-in-Some-clause-buffers
returns-in-Some-clause-buffers c =
    let access = c.args.access.now in
    let vs : List ℕ = c.open_line-place.new.writes in
    let cs : Buffers = c.open_line-place.new.buffers.items in
    let i : ℕ = c.open_line-place.result in
    let all = c.open_line-place.ensures.buffers in
    let few : length vs ≤ length cs = few-lines vs cs all in
    let place = c.open_line-place.ensures.place in
    let first = is-first vs (line_of access.addr) i place in
    let buffer : c.index_mut.result.now ≡ get_or cs i [] = c.index_mut.ensures.value ∙ get_or_default cs i c.index_mut.result.now [] (omega (arith, few, first.within)) in
    buffers-put vs cs access.addr (bytes access.size) c.in-Some.word i c.index_mut.result.now c.store.new.self all few place buffer c.requires.within c.store.ensures
