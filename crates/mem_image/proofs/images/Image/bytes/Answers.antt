use Rattle.std.proofs.Common.{◌∙◌, ◌+◌, ◌-◌, ap, sym, ℕ, List, Some, take, drop}
use Rattle.mem_image.specs.Accesses.{bytes}
use Rattle.mem_image.proofs.OneByte.{bytes-there}
use Rattle.mem_image.proofs.images.Image.bytes.Goals as goal

pub returns : goal.returns
returns c =
    let at = c.in_ok-area.at in
    ap (λ (n : ℕ). Some (take (at + n - at) (drop at c.area.result.now))) c.bytes.ensures
    ∙ ap (λ (bs : List ℕ). Some (take (at + bytes c.args.size - at) (drop at bs))) c.area.ensures.bytes
    ∙ bytes-there c.args.self.now c.args.addr (bytes c.args.size) c.in_ok-area.area at (sym c.place.ensures.place ∙ c.in_ok-area.was)
