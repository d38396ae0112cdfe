use Rattle.std.proofs.Common.{refl}
use Rattle.ir_layout.specs.Memory.{layout_of}
use Rattle.mem_image.proofs.AccessLines.{same-line}
use Rattle.mem_image.proofs.Agreement.{peek-agrees, poke-byte, poke-apart, same-bytes}
use Rattle.mem_image.proofs.LineBuffers.{access-writes, access-writes_nothing, access-kept}
use Rattle.mem_image.proofs.Views.{view-nothing, view-byte, view-stored, view-whole}
use Rattle.mem_image.proofs.WholeOpening.{opening-whole}
use Rattle.mem_image.proofs.memory_laws.words_are_bytes.Goals as goal

pub returns-clause-opening : goal.returns-clause-opening
returns-clause-opening c m fits = opening-whole m (layout_of m) refl fits

pub returns-clause-bytes : goal.returns-clause-bytes
returns-clause-bytes c = record { read = peek-agrees; written = poke-byte; others = poke-apart; all = same-bytes }

pub returns-clause-views : goal.returns-clause-views
returns-clause-views c = record { nothing = view-nothing; bytes = view-byte; words = view-stored; whole = view-whole }

pub returns-clause-lines : goal.returns-clause-lines
returns-clause-lines c = record { within = same-line; stored = access-writes; nothing = access-writes_nothing; kept = access-kept }
