-- The runtime's words of a thread, and what begins and ends its transactions (Intel 64 and IA-32 Architectures Software Developer's Manual,
-- volume 1, 'Programming with Intel Transactional Synchronization Extensions': XBEGIN, XEND, fallback path).
--
-- Choices, the tool's own: a thread tries a transaction three times, and then goes on without one until it next ends one. A
-- transaction is cut once it has counted a work of 1000. The count of work stays at its last number.
use Rattle.std.specs.Prelude.{ℕ, suc, ◌+◌, ◌-◌, ◌^◌, min, Bool, true, false, nat_lt, nat_le}
use Rattle.tx_runtime.specs.declared.words.Mode.{Mode}
use Rattle.tx_runtime.specs.declared.words.Mode.TheVariants.{Out, In, Plain}
use Rattle.tx_runtime.specs.declared.words.Act.{Act}
use Rattle.tx_runtime.specs.declared.words.Act.TheVariants.{Nothing, Xbegin, Xend}

abbrev pub tries : ℕ
tries = 3

abbrev pub threshold : ℕ
threshold = 1000

abbrev pub last_count : ℕ
last_count = 2 ^ 64 - 1

-- the mode, how many transactions aborted since one was ended, and the work counted since the last `begin`
pub record WordsParts : Type 0 where
  pub mode : Mode
  pub attempts : ℕ
  pub counter : ℕ

abbrev pub opening_words : WordsParts
opening_words = record { mode = Out; attempts = 0; counter = 0 }

-- ---- begin

-- it acts outside: with a transaction, unless they are given up
abbrev pub begun_if : Bool → WordsParts → WordsParts
begun_if true w = record w { mode = In; counter = 0 }
begun_if false w = record { mode = Plain; attempts = 0; counter = 0 }

abbrev pub begun_from : Mode → WordsParts → WordsParts
begun_from Out w = begun_if (nat_lt w.attempts tries) w
begun_from In w = w
begun_from Plain w = w

abbrev pub begun : WordsParts → WordsParts
begun w = begun_from w.mode w

abbrev pub begin_if : Bool → Act
begin_if true = Xbegin
begin_if false = Nothing

abbrev pub begin_from : Mode → WordsParts → Act
begin_from Out w = begin_if (nat_lt w.attempts tries)
begin_from In w = Nothing
begin_from Plain w = Nothing

abbrev pub begin_act : WordsParts → Act
begin_act w = begin_from w.mode w

-- ---- end and cut

abbrev pub ended : WordsParts → WordsParts
ended w = record w { mode = Out; attempts = 0 }

abbrev pub end_from : Mode → Act
end_from Out = Nothing
end_from In = Xend
end_from Plain = Nothing

abbrev pub end_act : WordsParts → Act
end_act w = end_from w.mode

-- a `cut` ends where enough work was counted
abbrev pub cuts : WordsParts → Bool
cuts w = nat_le threshold w.counter

abbrev pub cut_if : Bool → WordsParts → WordsParts
cut_if true w = ended w
cut_if false w = w

abbrev pub cut : WordsParts → WordsParts
cut w = cut_if (cuts w) w

abbrev pub cut_act_if : Bool → WordsParts → Act
cut_act_if true w = end_act w
cut_act_if false w = Nothing

abbrev pub cut_act : WordsParts → Act
cut_act w = cut_act_if (cuts w) w

-- ---- the rest

-- work is counted
abbrev pub ticked : ℕ → WordsParts → WordsParts
ticked work w = record w { counter = min last_count (w.counter + work) }

-- the transaction was aborted
abbrev pub undone : WordsParts → WordsParts
undone w = record w { mode = Out; attempts = suc w.attempts }

-- ---- what always holds

-- a transaction counts as an attempt that may yet fail
abbrev pub at_stake : Mode → ℕ
at_stake Out = 0
at_stake In = 1
at_stake Plain = 0
