-- Memories with the same places and bytes are the same.
use Rattle.std.proofs.Common.{◌≡◌, ℕ, List}
use Rattle.ir_layout.specs.declared.spans.Span.{Span}
use Rattle.mem_image.specs.Bytes.{Memory}

abbrev pub memory : List Span → List ℕ → List ℕ → List ℕ → Memory
memory places globals stacks heap = record { places = places; globals = globals; stacks = stacks; heap = heap }

pub same_memory : {p q : List Span} {g h s t u v : List ℕ} → p ≡ q → g ≡ h → s ≡ t → u ≡ v → memory p g s u ≡ memory q h t v
same_memory ep eg es eu = cc
