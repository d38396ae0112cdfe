-- Which sides of a thread's frames are known to stand for the source: both, or one alone. Without upsets both are, always; what is proved
-- of points, effects and turns is proved for either.
use Rattle.ir_core.specs.declared.values.Side.{Side}
use Rattle.ir_core.specs.declared.values.Side.TheVariants.{M, S}

pub data Sides : Type 0 where
  Both : Sides
  Alone : (side : Side) → Sides

-- some side isn't known
abbrev pub IsHurt : Sides → Type 0
IsHurt Both = ⊥
IsHurt (Alone side) = Unit {0}

-- what is said of a side, where it is known
abbrev pub On : Sides → Side → Type 0 → Type 0
On Both side P = P
On (Alone M) M P = P
On (Alone M) S P = Unit {0}
On (Alone S) M P = Unit {0}
On (Alone S) S P = P

pub on-map : (sides : Sides) (side : Side) (P Q : Type 0) → (P → Q) → On sides side P → On sides side Q
on-map Both side P Q f p = f p
on-map (Alone M) M P Q f p = f p
on-map (Alone M) S P Q f p = tt
on-map (Alone S) M P Q f p = tt
on-map (Alone S) S P Q f p = f p

pub on-pure : (sides : Sides) (side : Side) (P : Type 0) → P → On sides side P
on-pure Both side P p = p
on-pure (Alone M) M P p = p
on-pure (Alone M) S P p = tt
on-pure (Alone S) M P p = tt
on-pure (Alone S) S P p = p

-- what can't be on a side that is known tells that some side is hurt
pub hurt-if : (sides : Sides) (side : Side) (P : Type 0) → On sides side P → (P → ⊥) → IsHurt sides
hurt-if Both side P p n = absurd (n p)
hurt-if (Alone side) other P p n = tt

-- what holds of two sides that are equal in it holds of the master, whichever is known
pub either-on : (sides : Sides) (P Q : Type 0) → On sides M P → On sides S Q → (Q → P) → P
either-on Both P Q p q f = p
either-on (Alone M) P Q p q f = p
either-on (Alone S) P Q p q f = f q

-- two sides that differ where they should agree: some side is hurt
pub hurt-both : (sides : Sides) (P Q : Type 0) → On sides M P → On sides S Q → (P → Q → ⊥) → IsHurt sides
hurt-both Both P Q p q n = absurd (n p q)
hurt-both (Alone side) P Q p q n = tt
