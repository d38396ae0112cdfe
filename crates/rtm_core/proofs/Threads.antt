-- Those that an access aborts are threads.
use Rattle.std.proofs.Common.{◌≡◌, ℕ, suc, ◌+◌, ◌<◌, ◌≤◌, Bool, true, false, List, [], ◌∷◌, ◌++◌, length, Option, Some, None, arith}
use Rattle.ir_layout.specs.Memory.{thread_limit}
use Rattle.mem_image.specs.Touches.{Touch}
use Rattle.rtm_core.specs.declared.Aborted.{Aborted}
use Rattle.rtm_core.specs.Calls.{conflict_aborts, AreThreads}
use Rattle.rtm_core.specs.Transactions.{Transaction, strikes, joined_if, kept_of, struck_from}

module _ {C : Type 0} where
  pub more-threads : (xs ys : List (Aborted C)) → AreThreads xs → AreThreads ys → AreThreads (xs ++ ys)
  more-threads [] ys all more = more
  more-threads (x ∷ xs) ys all more = (all.0, more-threads xs ys all.1 more)

  pub struck-threads : (t : ℕ) (touch : Touch) (u : ℕ) (txs : List (Option (Transaction C))) → u + length txs ≤ thread_limit
      → AreThreads (conflict_aborts (struck_from t touch u txs))
  struck-threads t touch u [] e = tt
  struck-threads t touch u (tx ∷ txs) e = by_strike (strikes t touch u tx) (kept_of tx) (struck-threads t touch (suc u) txs (omega (arith, e)))
    where
      by_strike : (b : Bool) (kept : Option C) → AreThreads (conflict_aborts (struck_from t touch (suc u) txs))
          → AreThreads (conflict_aborts (joined_if b u kept (struck_from t touch (suc u) txs)))
      by_strike true (Some kept) rest = (omega (arith, e), rest)
      by_strike true None rest = rest
      by_strike false kept rest = rest
