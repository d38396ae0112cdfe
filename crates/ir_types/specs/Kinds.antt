-- What the code keeps of a `%` name, as contracts see it: an integer type and `ptr` without a reference to a type that is written.
use Rattle.ir_core.specs.declared.types.Ty.TheVariants as types
use Rattle.ir_types.specs.declared.meaning.Kind.{Kind}
use Rattle.ir_types.specs.declared.meaning.Kind.TheVariants as kinds
use Rattle.ir_types.specs.Meanings.{Meaning, Label, Register, Pair}

abbrev pub meaning_of_kind : Kind → Meaning
meaning_of_kind kinds.Label = Label
meaning_of_kind (kinds.Int width) = Register (types.Int width)
meaning_of_kind kinds.Ptr = Register types.Ptr
meaning_of_kind (kinds.Value ty) = Register ty.now
meaning_of_kind (kinds.Pair ty) = Pair ty.now
