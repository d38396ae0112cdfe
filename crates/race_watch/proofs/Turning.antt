-- Turns of a watch where no two threads race.
use Rattle.std.proofs.Common.{ℕ, suc, List, ◌∷◌, append-nil, ◌≡◌, ◌⊎◌, inl, inr, None, ap, sym, ◌∙◌, subst, refl}
use Rattle.ir_core.specs.Module.{ModuleParts}
use Rattle.inst_meaning.specs.declared.actions.Cause.{Cause}
use Rattle.process.specs.declared.state.Step.{Step}
use Rattle.process.specs.declared.state.Step.TheVariants.{Went, Waits, Idle, Undefined}
use Rattle.src_meaning.specs.State.{State, Sourced}
use Rattle.src_meaning.specs.Step.{step}
use Rattle.src_meaning.specs.Races.{race_of}
use Rattle.race_watch.proofs.Others.{step-waits, step-idle, step-undefined}
use Rattle.race_watch.specs.declared.table.Table.{Table}
use Rattle.race_watch.specs.declared.outcome.SrcStop.TheVariants as stops
use Rattle.race_watch.specs.Tables.{IsTable}
use Rattle.race_watch.specs.Watching.{Watched, tid, at_turn, watch_from}
use Rattle.race_watch.specs.Watchers.{behind}

-- a source behind a step of a thread
abbrev pub IsBehind : Sourced → ℕ → Sourced → Type 0
IsBehind before t after = after ≡ record before { state = (step before.program before.state t).0 }

same-source : (before after : Sourced) (t : ℕ) → IsBehind before t after → (step before.program before.state t).0 ≡ before.state → after ≡ before
same-source before after t e k = e ∙ ap (λ (s : State). record before { state = s }) k

-- a step that waits, is idle or is undefined leaves the source
pub stays : (before after : Sourced) (t : ℕ) (answer : Step) → IsBehind before t after → answer ≡ (step before.program before.state t).1 → (answer ≡ Waits) ⊎ (answer ≡ Idle) → after ≡ before
stays before after t answer e a (inl w) = same-source before after t e (step-waits before.program before.state t (sym a ∙ w))
stays before after t answer e a (inr i) = same-source before after t e (step-idle before.program before.state t (sym a ∙ i))

pub stays-undefined : (before after : Sourced) (t : ℕ) (answer : Step) (cause : Cause) → IsBehind before t after → answer ≡ (step before.program before.state t).1 → answer ≡ Undefined cause → after ≡ before
stays-undefined before after t answer cause e a u = same-source before after t e (step-undefined before.program before.state t cause (sym a ∙ u))

-- what a table is told of a step that went
abbrev pub Follows : Sourced → ℕ → Table → Table → Type 0
Follows after t table new =
    (s : State) → IsTable after.program s table → race_of after.program s ≡ None → (step after.program s t).1 ≡ Went → after.state ≡ (step after.program s t).0 → IsTable after.program after.state new

pub went-table : (before after : Sourced) (t : ℕ) (table new : Table) → IsBehind before t after → (step before.program before.state t).1 ≡ Went → IsTable before.program before.state table → race_of before.program before.state ≡ None → Follows after t table new → IsTable after.program after.state new
went-table before after t table new e went kept none =
    let P : Sourced → Type 0 = λ source. Follows source t table new → IsTable source.program source.state new in
    subst P (sym e) (λ follows. follows before.state kept none went refl)

pub undefined-stops : (m : ModuleParts) (n : ℕ) (s : State) (t : ℕ) (cause : Cause) (log turns : List ℕ) → (step m s t).1 ≡ Undefined cause → record { stop = stops.Undefined n (tid t) cause; outputs = s.process.world.outputs; turns = log } ≡ behind log (watch_from m n s (t ∷ turns))
undefined-stops m n s t cause log turns e =
    let here : List ℕ → Watched = λ went. record { stop = stops.Undefined n (tid t) cause; outputs = s.process.world.outputs; turns = went } in
    ap here (sym (append-nil log))
    ∙ ap (λ answer. behind log (at_turn n s t answer (race_of m s) (step m s t).0 (watch_from m (suc n) (step m s t).0 turns))) (sym e)
