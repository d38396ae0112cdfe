-- A write appends the next bytes behind those written so far.
use Rattle.std.proofs.Common.{ℕ, arith, length, ap, ◌≡◌, length-drop, length-take}
use Rattle.std.proofs.lemmas.List.{take_rest}
use Rattle.haft_io.proofs.Writes.{Puts-take}
use Rattle.haft_io.proofs.whole.write_whole.Goals as goal

pub writes-preserved : goal.writes-preserved
writes-preserved g c =
    let written = rw take_rest at c.in_ok-done.ensures in record {
      within = omega (arith, written.within, length-take {A = ℕ}, length-drop {A = ℕ});
      front = Puts-take _ _ _ _ _ _ c.writes.invariant.front written.bytes;
      none = λ empty. let no_byte : length c.args.bytes.now ≡ 0 = ap length empty in absurd (omega arith);
      never_falls = omega (arith, written.never_falls);
    }
