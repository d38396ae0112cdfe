-- Points over another memory: what a thread rests on, and that its points stand where that stays.
use Rattle.std.proofs.Common.{ℕ, ◌≡◌, ◌∙◌, Bool, true, false, List, Option, Some, refl, sym, subst}
use Rattle.ir_core.specs.declared.values.Side.TheVariants.{M, S}
use Rattle.ir_core.specs.declared.instruction.Inst.{Inst}
use Rattle.ir_core.specs.Module.{ModuleParts}
use Rattle.ir_layout.specs.declared.spans.Span.{Span}
use Rattle.ir_layout.specs.Memory.{is_valid}
use Rattle.mem_image.specs.Accesses.{bytes}
use Rattle.mem_image.specs.Bytes.{Memory, peek}
use Rattle.mem_image.specs.Lines.{line_of}
use Rattle.inst_meaning.specs.declared.actions.Place.{Place}
use Rattle.inst_meaning.specs.declared.actions.Action.{Action}
use Rattle.inst_meaning.specs.declared.actions.Action.TheVariants.{Assign, Reserve, Read, Write, Update, Pass, Jump, Call, Ask, Create, Join, Exit, Return, Fault}
use Rattle.inst_meaning.specs.Action.{place_at}
use Rattle.inst_meaning.specs.Registers.{put}
use Rattle.process.specs.declared.state.CallStack.{CallStack}
use Rattle.process.specs.declared.state.Thread.{Thread}
use Rattle.process.specs.declared.state.Thread.TheVariants.{Running, Exiting, Ended}
use Rattle.src_meaning.specs.declared.state.Frame.{Frame as SourceFrame}
use Rattle.hard_ir.specs.declared.instruction.HInst.{HInst}
use Rattle.hard_ir.specs.Hardened.{HardParts}
use Rattle.hard_frames.specs.declared.state.Frame.{Frame}
use Rattle.hard_simulation.proofs.Sides.{Sides, Both, Alone, On}
use Rattle.hard_simulation.proofs.Points.{source_code}
use Rattle.hard_meaning.specs.State.{Transaction, Mode, Free, Inside}
use Rattle.tx_simulation.proofs.Points.{touched, IfInside, AgreeIn, source_action, given_by, IsRead, IsStored, Stands, Nowhere, At, Checking, Outside, Doubling, Late, Copying, AtEdge, IsStack, IsThreadOn}
use Rattle.tx_simulation.proofs.Races.{next_action, next_of}

-- the places on which a thread rests: inside, all in its lines; outside, the one that its next step reads plainly
abbrev pub Rests : Mode → Option Action → Place → Type 0
Rests (Free plain) next place = next ≡ Some (Read place false)
Rests (Inside tx) next place = touched (Inside tx) (line_of place.address) ≡ true

-- two memories have the same words there
pub record AreAlike (mode : Mode) (next : Option Action) (a b : Memory) : Type 0 where
  pub places : a.places ≡ b.places
  pub words : (place : Place) → is_valid a.places place.address (bytes place.size) ≡ true → Rests mode next place
      → peek a place.address (bytes place.size) ≡ peek b place.address (bytes place.size)

pub valid-again : (a b : List Span) (address n : ℕ) → a ≡ b → is_valid a address n ≡ true → is_valid b address n ≡ true
valid-again a b address n e valid = subst (λ (places : List Span). is_valid places address n ≡ true) e valid

-- a word that was stored stands
pub stored-again : (tx : Transaction) (next : Option Action) (a b : Memory) (place : Place) (n : ℕ) → AreAlike (Inside tx) next a b
    → IsStored (Inside tx) a place n → IsStored (Inside tx) b place n
stored-again tx next a b place n alike s = record {
  stands = sym (alike.words place s.valid s.line) ∙ s.stands;
  line = s.line;
  valid = valid-again a.places b.places place.address (bytes place.size) alike.places s.valid;
}

stored-in : (mode : Mode) (next : Option Action) (a b : Memory) (place : Place) (n : ℕ) → AreAlike mode next a b → IfInside mode (IsStored mode a place n)
    → IfInside mode (IsStored mode b place n)
stored-in (Free plain) next a b place n alike s = tt
stored-in (Inside tx) next a b place n alike s = stored-again tx next a b place n alike s

-- ---- what a load gave

record Given (names : ℕ → Bool) (sides : Sides) (mode : Mode) (b : Memory) (action : Action) (masters registers : List (Option ℕ)) (dst : ℕ) : Type 0 where
  word : ℕ
  given : given_by b action ≡ Some word
  read : On sides M (IsRead mode b action)
  agree : On sides M (AgreeIn names masters (put registers dst word))

read-rests : (mode : Mode) (a : Memory) (place : Place) → IsRead mode a (Read place false) → Rests mode (Some (Read place false)) place
read-rests (Free plain) a place r = refl
read-rests (Inside tx) a place r = r.1

read-again : (mode : Mode) (a b : Memory) (place : Place) → a.places ≡ b.places → IsRead mode a (Read place false) → IsRead mode b (Read place false)
read-again mode a b place e r = (valid-again a.places b.places place.address (bytes place.size) e r.0, r.1)

known-word : (names : ℕ → Bool) (mode : Mode) (a b : Memory) (place : Place) (masters registers : List (Option ℕ)) (dst : ℕ)
    → AreAlike mode (Some (Read place false)) a b → IsRead mode a (Read place false)
    → AgreeIn names masters (put registers dst (peek a place.address (bytes place.size)))
    → IsRead mode b (Read place false) × AgreeIn names masters (put registers dst (peek b place.address (bytes place.size)))
known-word names mode a b place masters registers dst alike r agree = (
  read-again mode a b place alike.places r,
  subst (λ (n : ℕ). AgreeIn names masters (put registers dst n)) (alike.words place r.0 (read-rests mode a place r)) agree,
)

given-word : (names : ℕ → Bool) (sides : Sides) (mode : Mode) (a b : Memory) (place : Place) (masters registers : List (Option ℕ)) (dst : ℕ)
    → AreAlike mode (Some (Read place false)) a b → On sides M (IsRead mode a (Read place false))
    → On sides M (AgreeIn names masters (put registers dst (peek a place.address (bytes place.size))))
    → On sides M (IsRead mode b (Read place false)) × On sides M (AgreeIn names masters (put registers dst (peek b place.address (bytes place.size))))
given-word names Both mode a b place masters registers dst alike r agree = known-word names mode a b place masters registers dst alike r agree
given-word names (Alone M) mode a b place masters registers dst alike r agree = known-word names mode a b place masters registers dst alike r agree
given-word names (Alone S) mode a b place masters registers dst alike r agree = (tt, tt)

given-again : (names : ℕ → Bool) (sides : Sides) (mode : Mode) (a b : Memory) (action : Action) (masters registers : List (Option ℕ)) (dst word : ℕ)
    → AreAlike mode (Some action) a b → given_by a action ≡ Some word → On sides M (IsRead mode a action)
    → On sides M (AgreeIn names masters (put registers dst word)) → Given names sides mode b action masters registers dst
given-again names sides mode a b (Read place false) masters registers dst word alike e r agree =
    let f : word ≡ peek a place.address (bytes place.size) = cc in
    let both = given-word names sides mode a b place masters registers dst alike r
    (subst (λ (n : ℕ). On sides M (AgreeIn names masters (put registers dst n))) f agree) in
    record { word = peek b place.address (bytes place.size); given = refl; read = both.0; agree = both.1 }
given-again names sides mode a b (Assign n) masters registers dst word alike e r agree = record { word = word; given = e; read = r; agree = agree }
given-again names sides mode a b (Read place true) masters registers dst word alike e r agree = absurd cc
given-again names sides mode a b (Reserve n) masters registers dst word alike e r agree = absurd cc
given-again names sides mode a b (Write place n atomic) masters registers dst word alike e r agree = absurd cc
given-again names sides mode a b (Update place update) masters registers dst word alike e r agree = absurd cc
given-again names sides mode a b Pass masters registers dst word alike e r agree = absurd cc
given-again names sides mode a b (Jump n) masters registers dst word alike e r agree = absurd cc
given-again names sides mode a b (Call n words) masters registers dst word alike e r agree = absurd cc
given-again names sides mode a b (Ask n) masters registers dst word alike e r agree = absurd cc
given-again names sides mode a b (Create p n q) masters registers dst word alike e r agree = absurd cc
given-again names sides mode a b (Join n) masters registers dst word alike e r agree = absurd cc
given-again names sides mode a b (Exit n) masters registers dst word alike e r agree = absurd cc
given-again names sides mode a b (Return n) masters registers dst word alike e r agree = absurd cc
given-again names sides mode a b (Fault n) masters registers dst word alike e r agree = absurd cc

-- ---- points

pub stands-again : (m : ModuleParts) (names : ℕ → Bool) (edged : Bool) (sides : Sides) (mode : Mode) (a b : Memory) (left : List Inst)
    (registers : List (Option ℕ)) (past code : List HInst) (masters shadows : List (Option ℕ)) → AreAlike mode (next_action m registers left) a b
    → Stands m names edged sides mode a left registers past code masters shadows → Stands m names edged sides mode b left registers past code masters shadows
stands-again m names edged sides mode a b left registers past code masters shadows alike (Nowhere none) = Nowhere none
stands-again m names edged sides mode a b left registers past code masters shadows alike (At rows agree agree') = At rows agree agree'
stands-again m names edged sides mode a b left registers past code masters shadows alike
    (Checking inst behind done operands rest before e f g all rows same agree agree') = Checking inst behind done operands rest before e f g all rows same agree agree'
stands-again m names edged sides mode a b left registers past code masters shadows alike
    (Outside inst behind rest before e f g free single effect when rows same agree agree') =
    Outside inst behind rest before e f g free single effect when rows same agree agree'
stands-again m names edged sides mode a b left registers past code masters shadows alike
    (Doubling inst behind rest dst word e f rows twice to given read agree agree') =
    let again = given-again names sides mode a b (source_action m registers inst) masters registers dst.0 word
    (subst (λ (insts : List Inst). AreAlike mode (next_action m registers insts) a b) e alike) given read agree in
    Doubling inst behind rest dst again.word e f rows twice to again.given again.read again.agree agree'
stands-again m names edged sides mode a b left registers past code masters shadows alike
    (Late ty ptr val w pointers address n rest f rows one width p v s agree agree') =
    Late ty ptr val w pointers address n rest f rows one width p v (stored-in mode (next_action m registers left) a b (place_at address w) n alike s) agree agree'
stands-again m names edged sides mode a b left registers past code masters shadows alike (Copying regs rest f rows fresh agree but) =
    Copying regs rest f rows fresh agree but
stands-again m names edged sides mode a b left registers past code masters shadows alike (AtEdge name direction rest f rows two on_m on_s agree agree') =
    AtEdge name direction rest f rows two on_m on_s agree agree'

pub stack-again : (m : ModuleParts) (h : HardParts) (sides : Sides) (mode : Mode) (a b : Memory) (x : CallStack SourceFrame) (y : CallStack Frame)
    → AreAlike mode (next_action m x.frame.registers (source_code m x.frame)) a b → IsStack m h sides mode a x y → IsStack m h sides mode b x y
stack-again m h sides mode a b x y alike is = record {
  mark = is.mark;
  callers = is.callers;
  frame = record {
    function = is.frame.function;
    block = is.frame.block;
    mark = is.frame.mark;
    point = stands-again m _ _ sides mode a b (source_code m x.frame) x.frame.registers _ _ _ _ alike is.frame.point;
  };
}

pub thread-again : (m : ModuleParts) (h : HardParts) (sides : Sides) (mode : Mode) (a b : Memory) (x : Thread SourceFrame) (y : Thread Frame)
    → AreAlike mode (next_of m x) a b → IsThreadOn m h sides mode a x y → IsThreadOn m h sides mode b x y
thread-again m h sides mode a b (Running x) (Running y) alike is = stack-again m h sides mode a b x y alike is
thread-again m h sides mode a b (Running x) (Exiting k) alike is = is
thread-again m h sides mode a b (Running x) Ended alike is = is
thread-again m h sides mode a b (Exiting n) (Running y) alike is = is
thread-again m h sides mode a b (Exiting n) (Exiting k) alike is = is
thread-again m h sides mode a b (Exiting n) Ended alike is = is
thread-again m h sides mode a b Ended (Running y) alike is = is
thread-again m h sides mode a b Ended (Exiting k) alike is = is
thread-again m h sides mode a b Ended Ended alike is = is
