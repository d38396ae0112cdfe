use Rattle.std.proofs.Common.{ℕ, ◌≡◌, ◌∙◌, ◌-◌, ◌<◌, List, Some, length, reverse, get_or, ap, sym, subst, arith}
use Rattle.std.specs.List.{slice_get}
use Rattle.std.proofs.Math.ListN.{set}
use Rattle.std.proofs.lemmas.List.{get_or-reverse, length-reverse}
use Rattle.std.proofs.lemmas.Option.{slice_get-get_or}
use Rattle.process.proofs.Reversed.{set-behind}
use Rattle.process.proofs.callers.Callers.swap.Goals as goal

pub returns : goal.returns
returns g c =
    let xs : List g.row.F.Denot = c.self.inside.frames.items in
    let n : c.len.result ≡ length xs = omega (arith, c.len.ensures, c.self.inside.frames.ok) in
    let is : reverse xs ≡ c.args.self.now = c.self.view_is in
    let less : c.args.depth < length xs = omega (arith, c.requires, ap length is, length-reverse xs) in
    let there : c.args.depth < length c.args.self.now = c.requires in
    record {
      callers =
          ap (λ (k : ℕ). reverse (set xs (k - 1 - c.args.depth) c.swap.new.x)) n
          ∙ set-behind xs c.args.depth c.swap.new.x less
          ∙ ap (λ (x : g.row.F.Denot). set (reverse xs) c.args.depth x) c.swap.ensures.x_after
          ∙ ap (λ (l : List g.row.F.Denot). set l c.args.depth c.args.frame.now) is;
      frame =
          let x : g.row.F.Denot = c.index_mut.result.now in
          slice_get-get_or c.args.self.now c.args.depth x there
          ∙ ap (λ (l : List g.row.F.Denot). Some (get_or l c.args.depth x)) (sym is)
          ∙ ap Some (get_or-reverse xs c.args.depth x less
          ∙ ap (λ (k : ℕ). get_or xs (k - 1 - c.args.depth) x) (sym n)
          ∙ sym c.index_mut.ensures.value ∙ sym c.swap.ensures.y_after);
    }
