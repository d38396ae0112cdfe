-- A thread's own transaction among all, and memory once it has done an access.
use Rattle.std.proofs.Common.{◌≡◌, ◌∙◌, ℕ, zero, suc, ◌<◌, Bool, true, false, List, [], ◌∷◌, ◌++◌, length, set, Option, Some, None, is_some, slice_get, slice_index_or, refl, sym, ap, arith}
use Rattle.std.specs.Prelude.{unwrap_or, if◌then◌else◌}
use Rattle.std.specs.Option.{option_flatten}
use Rattle.std.proofs.lemmas.List.{append-nil}
use Rattle.ir_layout.specs.Memory.{is_valid}
use Rattle.mem_image.specs.Bytes.{Memory, poke, written}
use Rattle.mem_image.specs.Touches.{Touch, Store, memory_with}
use Rattle.rtm_core.specs.declared.Aborted.{Aborted}
use Rattle.rtm_core.specs.Calls.{conflict_aborts}
use Rattle.rtm_core.specs.Transactions.{Transaction, RtmParts, Entry, thread, done_in, after, aborts_at, entry_of, entry_if, has_room_in, spared, spared_from, struck_from}
use Rattle.rtm_core.specs.Transactions.Entry.{Full, Entered}
use Rattle.rtm_core.proofs.Others.{own-stays}

-- a word that is put where an access goes
pub written-there : (mem : Memory) (a n word : ℕ) → is_valid mem.places a n ≡ true → unwrap_or (written mem a n word) mem ≡ poke mem a n word
written-there mem a n word valid = ap (λ (t : Bool). unwrap_or (if t then Some (poke mem a n word) else None) mem) valid

module _ {C : Type 0} where
  abbrev parts : Memory → List (Option (Transaction C)) → RtmParts C
  parts mem txs = record { memory = mem; threads = txs }

  pub thread-is : (txs : List (Option (Transaction C))) (t : ℕ) (x : Option (Transaction C)) → t < length txs → x ≡ slice_index_or txs t x → option_flatten (slice_get txs t) ≡ x
  thread-is [] t x less is = absurd (omega (arith, less))
  thread-is (y ∷ txs) zero x less is = sym is
  thread-is (y ∷ txs) (suc t) x less is = thread-is txs t x (omega (arith, less)) is

  set-again : (txs : List (Option (Transaction C))) (t : ℕ) (x : Option (Transaction C)) → x ≡ slice_index_or txs t x → set txs t x ≡ txs
  set-again [] t x is = refl
  set-again (y ∷ txs) zero x is = ap (λ (z : Option (Transaction C)). z ∷ txs) is
  set-again (y ∷ txs) (suc t) x is = ap (λ (more : List (Option (Transaction C))). y ∷ more) (set-again txs t x is)

  is-none : (x : Option (Transaction C)) → is_some x ≡ false → x ≡ None
  is-none None e = refl
  is-none (Some tx) e = cc

  -- an access outside a transaction
  pub done-outside : (mem new : Memory) (txs : List (Option (Transaction C))) (t : ℕ) (x : Option (Transaction C)) (touch : Touch) (store : Option Store) (rtm : RtmParts C) → t < length txs
      → x ≡ slice_index_or txs t x → is_some x ≡ false → new ≡ memory_with store mem → parts mem txs ≡ rtm → parts new (set txs t x) ≡ done_in rtm t touch store (thread rtm t)
  done-outside mem new txs t x touch store rtm less is outside put same =
      ap (parts new) (set-again txs t x is) ∙ ap (λ (m : Memory). parts m txs) put
      ∙ sym (ap (done_in (parts mem txs) t touch store) (thread-is txs t x less is ∙ is-none x outside))
      ∙ ap (λ (r : RtmParts C). done_in r t touch store (thread r t)) same

  -- ---- whether an access is done

  pub entry-is : (rtm : RtmParts C) (t : ℕ) (touch : Touch) (b : Bool) → is_valid rtm.memory.places touch.address touch.size ≡ true → has_room_in touch (thread rtm t) ≡ b
      → entry_of rtm t touch ≡ entry_if true b
  entry-is rtm t touch b valid room = ap (λ (v : Bool). entry_if v (has_room_in touch (thread rtm t))) valid ∙ ap (entry_if true) room

  pub room-is : (mem : Memory) (txs : List (Option (Transaction C))) (t : ℕ) (x : Option (Transaction C)) (touch : Touch) (rtm : RtmParts C) (b : Bool) → t < length txs → x ≡ slice_index_or txs t x
      → b ≡ has_room_in touch x → parts mem txs ≡ rtm → has_room_in touch (thread rtm t) ≡ b
  room-is mem txs t x touch rtm b less is room same =
      ap (λ (r : RtmParts C). has_room_in touch (thread r t)) (sym same) ∙ ap (has_room_in touch) (thread-is txs t x less is) ∙ sym room

  pub none-aborted : (rtm : RtmParts C) (t : ℕ) (touch : Touch) (out : List (Aborted C)) → entry_of rtm t touch ≡ Full → out ≡ out ++ conflict_aborts (aborts_at (entry_of rtm t touch) rtm t touch)
  none-aborted rtm t touch out e = sym (ap (λ (entry : Entry). out ++ conflict_aborts (aborts_at entry rtm t touch)) e ∙ append-nil out)

  -- once the others were aborted the thread's own transaction is as it was
  pub own-room : (mem : Memory) (txs new : List (Option (Transaction C))) (t : ℕ) (touch : Touch) (rtm : RtmParts C) → new ≡ spared_from t touch 0 txs → parts mem txs ≡ rtm
      → has_room_in touch (thread (parts mem new) t) ≡ has_room_in touch (thread rtm t)
  own-room mem txs new t touch rtm put same =
      ap (λ (xs : List (Option (Transaction C))). has_room_in touch (option_flatten (slice_get xs t))) put
      ∙ ap (λ (o : Option (Option (Transaction C))). has_room_in touch (option_flatten o)) (own-stays t touch txs)
      ∙ ap (λ (r : RtmParts C). has_room_in touch (thread r t)) same

  pub all-done : (mem : Memory) (txs new : List (Option (Transaction C))) (t : ℕ) (touch : Touch) (store : Option Store) (rtm : RtmParts C) → new ≡ spared_from t touch 0 txs → parts mem txs ≡ rtm
      → entry_of rtm t touch ≡ Entered → done_in (parts mem new) t touch store (thread (parts mem new) t) ≡ after (entry_of rtm t touch) rtm t touch store
  all-done mem txs new t touch store rtm put same e =
      ap (λ (xs : List (Option (Transaction C))). done_in (parts mem xs) t touch store (option_flatten (slice_get xs t))) put
      ∙ ap (λ (o : Option (Option (Transaction C))). done_in (parts mem (spared_from t touch 0 txs)) t touch store (option_flatten o)) (own-stays t touch txs)
      ∙ ap (λ (r : RtmParts C). done_in (spared r t touch) t touch store (thread r t)) same
      ∙ sym (ap (λ (entry : Entry). after entry rtm t touch store) e)

  pub all-aborted : (mem : Memory) (txs : List (Option (Transaction C))) (t : ℕ) (touch : Touch) (rtm : RtmParts C) (out : List (Aborted C)) → parts mem txs ≡ rtm → entry_of rtm t touch ≡ Entered
      → out ++ conflict_aborts (struck_from t touch 0 txs) ≡ out ++ conflict_aborts (aborts_at (entry_of rtm t touch) rtm t touch)
  all-aborted mem txs t touch rtm out same e =
      ap (λ (r : RtmParts C). out ++ conflict_aborts (aborts_at Entered r t touch)) same ∙ sym (ap (λ (entry : Entry). out ++ conflict_aborts (aborts_at entry rtm t touch)) e)
