-- Operators, predicates, casts and atomic operations on words (LLVM Language Reference, 'Binary
-- Operations', 'Bitwise Binary Operations', 'icmp', 'Conversion Operations', 'atomicrmw').
--
-- Choices: a word of w bits is a whole number below 2^w, also where it is read as signed. Each row gives
-- a whole number, and all results are reduced modulo 2^w. Where the reference speaks of undefined
-- behaviour of a division, the cause is Divide; where the result is poison, Poison. Divide comes first.
-- A flag that an operation doesn't have says nothing. A pointer counts as a word of 64 bits.
use Rattle.std.specs.Prelude.{◌≡◌, ℕ, ◌+◌, ◌-◌, ◌*◌, ◌/◌, ◌%◌, ◌^◌, ◌<◌, ◌≤◌, ◌==◌, Bool, false, not, ◌&&◌, ◌||◌, ℤ, pos, ◌+ℤ◌, ◌-ℤ◌, ◌*ℤ◌, neg_ℤ, nat_lt, nat_le, int_lt, int_le, int_div, int_rem, unsigned_abs, bit_and, bit_or, bit_xor, if◌then◌else◌, Result, Ok, Err}
use Rattle.std.specs.Int.{int_div_euclid, int_rem_euclid}
use Rattle.ir_core.specs.declared.types.Width.{Width}
use Rattle.ir_core.specs.declared.types.Width.TheVariants.{W1, W8, W16, W32, W64}
use Rattle.ir_core.specs.declared.instruction.Flags.{Flags}
use Rattle.ir_core.specs.declared.instruction.BinOp.{BinOp}
use Rattle.ir_core.specs.declared.instruction.BinOp.TheVariants.{Add, Sub, Mul, Udiv, Sdiv, Urem, Srem, Shl, Lshr, Ashr, And, Or, Xor}
use Rattle.ir_core.specs.declared.instruction.Pred.{Pred}
use Rattle.ir_core.specs.declared.instruction.Pred.TheVariants.{Eq, Ne, Ugt, Uge, Ult, Ule, Sgt, Sge, Slt, Sle}
use Rattle.ir_core.specs.declared.instruction.CastOp.{CastOp}
use Rattle.ir_core.specs.declared.instruction.CastOp.TheVariants.{Zext, Sext, Trunc, Ptrtoint, Inttoptr}
use Rattle.ir_core.specs.declared.instruction.RmwOp.{RmwOp}
use Rattle.ir_core.specs.declared.instruction.RmwOp.TheVariants as atomics
use Rattle.op_table.specs.declared.OpCause.{OpCause}
use Rattle.op_table.specs.declared.OpCause.TheVariants.{Divide, Poison}

-- ---- words

-- how many bits a word has ('Integer Type')
abbrev pub bits : Width → ℕ
bits W1 = 1
bits W8 = 8
bits W16 = 16
bits W32 = 32
bits W64 = 64

-- the widths of words that the code works on
abbrev pub IsWidth : ℕ → Type 0
IsWidth w = (1 ≤ w) × (w ≤ 64)

-- the signed value of the word a, in two's complement
abbrev pub sv : ℕ → ℕ → ℤ
sv w a = if nat_lt a (2 ^ (w - 1)) then pos a else pos a -ℤ pos (2 ^ w)

-- z modulo 2^w
abbrev pub reduced : ℕ → ℤ → ℕ
reduced w z = unsigned_abs (int_rem_euclid z (pos (2 ^ w)))

-- n is a word; z is a signed value, so that -h ≤ z < h where h is 2^(w-1)
abbrev pub is_word : ℕ → ℕ → Bool
is_word w n = nat_lt n (2 ^ w)

abbrev pub is_within : ℕ → ℤ → Bool
is_within h z = int_le (neg_ℤ (pos h)) z && int_lt z (pos h)

abbrev pub is_signed : ℕ → ℤ → Bool
is_signed w z = is_within (2 ^ (w - 1)) z

-- the words of the least signed value and of -1
abbrev pub least : ℕ → ℕ
least w = 2 ^ (w - 1)

abbrev pub minus_one : ℕ → ℕ
minus_one w = 2 ^ w - 1

-- ---- operators

-- the result before it is reduced: 'add', 'sub', 'mul', 'udiv', 'sdiv' (toward zero), 'urem', 'srem' (with
-- the dividend's sign), 'shl', 'lshr', 'ashr' (down), 'and', 'or', 'xor' Instruction
abbrev pub whole : BinOp → ℕ → ℕ → ℕ → ℤ
whole Add w a b = pos (a + b)
whole Sub w a b = pos a -ℤ pos b
whole Mul w a b = pos (a * b)
whole Udiv w a b = pos (a / b)
whole Sdiv w a b = int_div (sv w a) (sv w b)
whole Urem w a b = pos (a % b)
whole Srem w a b = int_rem (sv w a) (sv w b)
whole Shl w a b = pos (a * 2 ^ b)
whole Lshr w a b = pos (a / 2 ^ b)
whole Ashr w a b = int_div_euclid (sv w a) (pos (2 ^ b))
whole And w a b = pos (bit_and a b)
whole Or w a b = pos (bit_or a b)
whole Xor w a b = pos (bit_xor a b)

-- the divisor is 0, or a signed quotient is past the greatest signed value
abbrev pub is_divide : BinOp → ℕ → ℕ → ℕ → Bool
is_divide Udiv w a b = b == 0
is_divide Sdiv w a b = b == 0 || a == least w && b == minus_one w
is_divide Urem w a b = b == 0
is_divide Srem w a b = b == 0 || a == least w && b == minus_one w
is_divide op w a b = false

-- 'nuw' and 'nsw': the whole number is no word, or no signed value. 'exact': there is a remainder. A shift
-- is by fewer bits than the word has.
abbrev pub is_poison : BinOp → Flags → ℕ → ℕ → ℕ → Bool
is_poison Add flags w a b = flags.nuw && not (is_word w (a + b)) || flags.nsw && not (is_signed w (sv w a +ℤ sv w b))
is_poison Sub flags w a b = flags.nuw && nat_lt a b || flags.nsw && not (is_signed w (sv w a -ℤ sv w b))
is_poison Mul flags w a b = flags.nuw && not (is_word w (a * b)) || flags.nsw && not (is_signed w (sv w a *ℤ sv w b))
is_poison Udiv flags w a b = flags.exact && not (a % b == 0)
is_poison Sdiv flags w a b = flags.exact && not (unsigned_abs (int_rem (sv w a) (sv w b)) == 0)
is_poison Shl flags w a b = nat_le w b || flags.nuw && not (is_word w (a * 2 ^ b)) || flags.nsw && not (is_signed w (sv w a *ℤ pos (2 ^ b)))
is_poison Lshr flags w a b = nat_le w b || flags.exact && not (a % 2 ^ b == 0)
is_poison Ashr flags w a b = nat_le w b || flags.exact && not (reduced b (sv w a) == 0)
is_poison op flags w a b = false

-- what an operator gives on two words
unfoldable pub binary : BinOp → Flags → ℕ → ℕ → ℕ → Result ℕ OpCause
binary op flags w a b =
    if is_divide op w a b then Err Divide
    else if is_poison op flags w a b then Err Poison
    else Ok (reduced w (whole op w a b))

-- ---- predicates ('icmp' Instruction)

unfoldable pub compares : Pred → ℕ → ℕ → ℕ → Bool
compares Eq w a b = a == b
compares Ne w a b = not (a == b)
compares Ugt w a b = nat_lt b a
compares Uge w a b = nat_le b a
compares Ult w a b = nat_lt a b
compares Ule w a b = nat_le a b
compares Sgt w a b = int_lt (sv w b) (sv w a)
compares Sge w a b = int_le (sv w b) (sv w a)
compares Slt w a b = int_lt (sv w a) (sv w b)
compares Sle w a b = int_le (sv w a) (sv w b)

-- ---- casts ('zext .. to', 'sext .. to', 'trunc .. to', 'ptrtoint .. to', 'inttoptr .. to' Instruction)

-- the widths between which a cast goes
abbrev pub IsCast : CastOp → Width → Width → Type 0
IsCast Zext from to = bits from < bits to
IsCast Sext from to = bits from < bits to
IsCast Trunc from to = bits to < bits from
IsCast Ptrtoint from to = from ≡ W64
IsCast Inttoptr from to = to ≡ W64

-- what a cast gives, between words of so many bits
unfoldable pub converted : CastOp → ℕ → ℕ → ℕ → ℕ
converted Zext from to a = a
converted Sext from to a = reduced to (sv from a)
converted Trunc from to a = a % 2 ^ to
converted Ptrtoint from to a = a % 2 ^ to
converted Inttoptr from to a = a % 2 ^ to

-- ---- atomic operations ('atomicrmw' Instruction): the new word

unfoldable pub updated : RmwOp → ℕ → ℕ → ℕ → ℕ
updated atomics.Xchg w old arg = arg
updated atomics.Add w old arg = reduced w (whole Add w old arg)
updated atomics.Sub w old arg = reduced w (whole Sub w old arg)
updated atomics.And w old arg = reduced w (whole And w old arg)
updated atomics.Or w old arg = reduced w (whole Or w old arg)
updated atomics.Xor w old arg = reduced w (whole Xor w old arg)
updated atomics.Nand w old arg = 2 ^ w - 1 - bit_and old arg
updated atomics.Max w old arg = if int_lt (sv w old) (sv w arg) then arg else old
updated atomics.Min w old arg = if int_lt (sv w arg) (sv w old) then arg else old
updated atomics.Umax w old arg = if nat_lt old arg then arg else old
updated atomics.Umin w old arg = if nat_lt arg old then arg else old
