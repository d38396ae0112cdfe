use Rattle.std.proofs.Common.{◌≡◌, ◌∙◌, ◌+◌, ◌<◌, ◌≤◌, ap, sym, arith, suc, add-one, subst, ℕ, List, [], ◌∷◌, Option, length, drop, get_or, slice_index}
use Rattle.std.proofs.Math.ListN.{drop_of_length-le}
use Rattle.std.proofs.lemmas.List.{get_or_default}
use Rattle.mem_image.specs.Bytes.{Memory}
use Rattle.mem_image.specs.Lines.{Line, AreLines, written_in}
use Rattle.mem_image.specs.Views.{view}
use Rattle.mem_image.proofs.Views.{view-nothing}
use Rattle.rtm_core.specs.code.Slots.{lines_of}
use Rattle.rtm_core.proofs.Fields.{few-lines}
use Rattle.rtm_core.proofs.LineLists.{Buffers, are-left, committed, drop-lines, length-lines, line_with}
use Rattle.rtm_core.proofs.slots.put_lines.Goals as goal

pub loop-i-preserved : goal.loop-i-preserved
loop-i-preserved c =
    let ws : List ℕ = c.args.writes.now in
    let bs : Buffers = c.args.buffers.now.items in
    let i : ℕ = c.loop-i.i in
    let few : length ws ≤ length bs = few-lines ws bs c.requires in
    let less : i < length ws = omega (arith, ap length c.lines-lines.ensures.lines, c.loop-i-test.true) in
    let number : slice_index c.lines-lines.result.now i ≡ slice_index ws i = ap (λ (ns : List ℕ). slice_index ns i) c.lines-lines.ensures.lines in
    let buffer : c.index.result.now ≡ get_or bs i [] = c.index.ensures ∙ get_or_default bs i c.index.result.now [] (omega (arith, few, less)) in
    let line : Line = line_with (slice_index ws i) (get_or bs i []) in
    let rest : List Line = drop (suc i) (lines_of ws bs) in
    let here : drop i (lines_of ws bs) ≡ line ∷ rest = drop-lines ws bs i less few in
    let left : AreLines (line ∷ rest) = subst AreLines here (are-left (lines_of ws bs) i c.requires.lines) in
    ap (λ (m : Memory). view m (written_in (drop (i + 1) (lines_of ws bs)))) (c.commit.ensures ∙ ap (λ (n : ℕ). view c.loop-i.image (written_in (line_with n c.index.result.now ∷ []))) number
    ∙ ap (λ (b : List (Option ℕ)). view c.loop-i.image (written_in (line_with (slice_index ws i) b ∷ []))) buffer)
    ∙ ap (λ (k : ℕ). view (view c.loop-i.image (written_in (line ∷ []))) (written_in (drop k (lines_of ws bs)))) (add-one i)
    ∙ committed c.loop-i.image line rest left.1
    ∙ ap (λ (lines : List Line). view c.loop-i.image (written_in lines)) (sym here)
    ∙ c.loop-i.invariant

pub returns : goal.returns
returns c =
    let ws : List ℕ = c.args.writes.now in
    let bs : Buffers = c.args.buffers.now.items in
    let few : length ws ≤ length bs = few-lines ws bs c.requires in
    let past : length ws ≤ c.loop-i.i = omega (arith, ap length c.lines-lines.ensures.lines, c.loop-i-test.false) in
    let none : drop c.loop-i.i (lines_of ws bs) ≡ [] = drop_of_length-le (lines_of ws bs) (omega (arith, past, length-lines ws bs few)) in
    sym (view-nothing c.loop-i.image) ∙ ap (λ (lines : List Line). view c.loop-i.image (written_in lines)) (sym none) ∙ c.loop-i.invariant
