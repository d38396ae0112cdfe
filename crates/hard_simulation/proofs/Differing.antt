-- The run of a hardened program whose sides differ, turn by turn.
use Rattle.std.proofs.Common.{ℕ, ◌≡◌, List, [], ◌∷◌, ◌∙◌, ◌++◌, Option, Some, None, codes, decimal, refl, ap}
use Rattle.mem_image.specs.Bytes.{Memory}
use Rattle.inst_meaning.specs.World.{opening_world}
use Rattle.op_table.specs.Operators.{binary}
use Rattle.hard_frames.specs.declared.outcome.Stop.TheVariants.{Fail}
use Rattle.process.specs.declared.state.Thread.TheVariants.{Running}
use Rattle.hard_machine.specs.State.{State}
use Rattle.hard_machine.specs.Step.{turn_of}
use Rattle.hard_simulation.specs.Samples.{differing, entered}

abbrev state_at : Memory → ℕ → List (Option ℕ) → List (Option ℕ) → List ℕ → State
state_at memory index masters shadows turns = record {
  process = record { memory = memory; threads = Running (record { mark = 16777216; frame = record { function = 0; block = 0; index = index; masters = masters; shadows = shadows; mark = 16777216; waiting = None }; callers = [] }) ∷ []; world = opening_world [] };
  turns = turns;
  stop = None;
}

-- the master gets 5
first-turn : (memory : Memory) → turn_of differing (entered memory) 0 ≡ state_at memory 1 (None ∷ Some 5 ∷ []) [] []
unfolding binary
first-turn memory = refl

-- its shadow gets 6, which retires the sum
second-turn : (memory : Memory) → turn_of differing (state_at memory 1 (None ∷ Some 5 ∷ []) [] []) 0 ≡ state_at memory 2 (None ∷ Some 5 ∷ []) (None ∷ Some 6 ∷ []) (0 ∷ [])
unfolding binary
second-turn memory = refl

-- the check fails
third-turn : (memory : Memory) → (turn_of differing (state_at memory 2 (None ∷ Some 5 ∷ []) (None ∷ Some 6 ∷ []) (0 ∷ [])) 0).stop
    ≡ Some (Fail (record { 0 = 0 }) (codes "main/0/" ++ decimal 2))
third-turn memory = refl

two-turns : (memory : Memory) → turn_of differing (turn_of differing (entered memory) 0) 0 ≡ state_at memory 2 (None ∷ Some 5 ∷ []) (None ∷ Some 6 ∷ []) (0 ∷ [])
two-turns memory = ap (λ (s : State). turn_of differing s 0) (first-turn memory) ∙ second-turn memory

pub goes-on : (memory : Memory) → (turn_of differing (turn_of differing (entered memory) 0) 0).stop ≡ None
goes-on memory = ap (λ (s : State). s.stop) (two-turns memory)

pub fails-then : (memory : Memory) → (turn_of differing (turn_of differing (turn_of differing (entered memory) 0) 0) 0).stop
    ≡ Some (Fail (record { 0 = 0 }) (codes "main/0/" ++ decimal 2))
fails-then memory = ap (λ (s : State). (turn_of differing s 0).stop) (two-turns memory) ∙ third-turn memory
