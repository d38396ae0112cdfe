-- The next turn of a thread that isn't lost, whatever point it stands at.
use Rattle.std.proofs.Common.{refl, true}
use Rattle.ir_core.specs.declared.values.Side.TheVariants.{S}
use Rattle.hard_ir.specs.Image.{unflagged}
use Rattle.hard_ir.specs.declared.instruction.HInst.TheVariants.{Do}
use Rattle.hard_meaning.specs.State.{Mode}
use Rattle.tx_simulation.proofs.Bodies.{body-at, outside-at}
use Rattle.tx_simulation.proofs.Checking.{Turns, checks-at, rows-at}
use Rattle.tx_simulation.proofs.Copies.{copying-at, edge-at}
use Rattle.tx_simulation.proofs.Doubles.{second-turn}
use Rattle.tx_simulation.proofs.LateChecks.{late-turn}
use Rattle.tx_simulation.proofs.Points.{At, AtEdge, Checking, Copying, Doubling, Late, Nowhere, Outside}
use Rattle.tx_simulation.proofs.Scene.{PointAt, Scene, by-head, somewhere}

pub turn-at : (mode : Mode) (c : Scene mode) → PointAt mode c c.b.frame → Turns mode c
turn-at mode c (Nowhere none) = absurd (somewhere mode c none)
turn-at mode c (At rows masters shadows) = rows-at mode c (body-at mode c) masters shadows rows refl refl
turn-at mode c (Checking inst behind done operands rest before left code past all rows same masters shadows) =
    checks-at mode c (body-at mode c) masters shadows inst behind rest before left rows done operands code past all same
turn-at mode c (Outside inst behind rest before left code past free once effect when rows same masters shadows) =
    outside-at mode c inst behind rest left code free once effect when rows same masters shadows
turn-at mode c (Doubling inst behind rest dst word left code rows twice to given read masters shadows) =
    by-head mode c (Do S (unflagged inst) true) rest code (second-turn mode c inst behind left twice rest rows word dst code to given read masters shadows)
turn-at mode c (Late ty ptr val w pointers address n rest code rows one width at word stored masters shadows) = late-turn mode c (record {
  ty = ty;
  ptr = ptr;
  val = val;
  w = w;
  address = address;
  n = n;
  rest = rest;
  rows = rows;
  width = width;
  at = at;
  word = word;
  stored = stored;
  masters = masters;
  shadows = shadows;
}) pointers one code
turn-at mode c (Copying regs rest code rows fresh masters shadows) =
    copying-at mode c (λ rest code rows masters shadows. rows-at mode c (body-at mode c) masters shadows rows refl code) regs rest code rows fresh masters shadows
turn-at mode c (AtEdge name direction rest code rows two on_m on_s masters shadows) = edge-at mode c name direction rest code rows on_m on_s masters shadows
