-- Frames of a module under other numbers: they stand at the same places, with the same words in registers of other numbers, and do the same.
use Rattle.std.proofs.Common.{ℕ, suc, ◌≡◌, ◌≢◌, ◌∙◌, ◌+◌, Bool, true, false, List, [], ◌∷◌, map, find, take, Option, Some, None, slice_get, refl, ap, sym as flip, subst}
use Rattle.std.specs.Prelude.{nat_eq}
use Rattle.std.specs.List.{zip}
use Rattle.std.specs.Option.{option_map, option_and_then}
use Rattle.std.proofs.lemmas.Bool.{eqb-true, eqb-false}
use Rattle.std.proofs.lemmas.Option.{slice_get-map}
use Rattle.ir_core.specs.declared.types.Loc.{Loc}
use Rattle.ir_core.specs.declared.values.Val.{Val}
use Rattle.ir_core.specs.declared.instruction.Inst.{Inst}
use Rattle.ir_core.specs.declared.instruction.Inst.TheVariants as insts
use Rattle.ir_core.specs.declared.instruction.Block.{Block}
use Rattle.ir_core.specs.Instructions.{is_phi}
use Rattle.ir_core.specs.Module.{ModuleParts}
use Rattle.ir_layout.specs.Memory.{LayoutParts, layout_of}
use Rattle.ir_flow.specs.Edges.{number_of, numbered_from}
use Rattle.ir_numbering.specs.Renaming.{Renaming, renamed_loc, renamed_ty, renamed_arms, renamed_inst, renamed_block, renamed_val}
use Rattle.inst_meaning.specs.Operands.{typed_word}
use Rattle.inst_meaning.specs.Phis.{phi_count, phis_of, arm_from, phi_word, phi_words_with, phi_words, assigned, all_assigned}
use Rattle.inst_meaning.specs.Registers.{get, put}
use Rattle.inst_meaning.proofs.Puts.{put-here, put-elsewhere}
use Rattle.process_laws.proofs.Likeness.{Likeness}
use Rattle.process_laws.proofs.Likeness as likeness
use Rattle.src_meaning.specs.declared.state.Frame.{Frame}
use Rattle.src_meaning.specs.State.{blocks_at, params_at, entry_frame}
use Rattle.src_meaning.specs.Step.{passed, resulted, landed, land, jump_from, jump_in, jumped, suspended, resumed}
use Rattle.renamed_modules.proofs.RenamedTypes.{IsApart, same-test, find-map, take-map}
use Rattle.renamed_modules.proofs.RenamedMemory.{renamed_layout}
use Rattle.renamed_modules.proofs.RenamedActions.{AgreeBy, typed-same}
use Rattle.renamed_modules.proofs.Renames.{Renames, inside, layout-same, blocks-same, params-same}

-- ---- registers

put-by : (number : ℕ → ℕ) → IsApart number → (a b : List (Option ℕ)) (at word : ℕ) → AgreeBy number a b → AgreeBy number (put a at word) (put b (number at) word)
put-by number apart a b at word h = record { same = λ k. by_name k (nat_eq at k) refl }
  where
    by_name : (k : ℕ) (same : Bool) → nat_eq at k ≡ same → get (put b (number at) word) (number k) ≡ get (put a at word) k
    by_name k true f =
        let is : at ≡ k = eqb-true at k f in
        subst (λ (j : ℕ). get (put b (number at) word) (number j) ≡ get (put a at word) j) is (put-here b (number at) word ∙ flip (put-here a at word))
    by_name k false f =
        let other : at ≢ k = eqb-false at k f in
        put-elsewhere b (number at) word (number k) (λ e. other (apart at k e)) ∙ h.same k ∙ flip (put-elsewhere a at word k other)

module _ (r : Renaming) (apart : IsApart r.loc) where
  -- a word with the other number of its register
  abbrev pub renamed_word : Loc × ℕ → Loc × ℕ
  renamed_word word = (renamed_loc r word.0, word.1)

  assigned-by : (dst : Option Loc) (n : ℕ) (a b : List (Option ℕ)) → AgreeBy r.loc a b → AgreeBy r.loc (assigned dst n a) (assigned (option_map (renamed_loc r) dst) n b)
  assigned-by None n a b h = h
  assigned-by (Some at) n a b h = put-by r.loc apart a b at.0 n h

  all-by : (words : List (Loc × ℕ)) (a b : List (Option ℕ)) → AgreeBy r.loc a b → AgreeBy r.loc (all_assigned words a) (all_assigned (map renamed_word words) b)
  all-by [] a b h = h
  all-by (word ∷ words) a b h = all-by words (put a word.0.0 word.1) (put b (r.loc word.0.0) word.1) (put-by r.loc apart a b word.0.0 word.1 h)

  zip-same : (params : List Loc) (words : List ℕ) → zip (map (renamed_loc r) params) words ≡ map renamed_word (zip params words)
  zip-same [] words = refl
  zip-same (param ∷ params) [] = refl
  zip-same (param ∷ params) (word ∷ words) = ap (λ (rest : List (Loc × ℕ)). (renamed_loc r param, word) ∷ rest) (zip-same params words)

  -- ---- blocks

  pub numbers-same : (n : ℕ) (blocks : List Block) (label : Loc) → numbered_from n (map (renamed_block r) blocks) (renamed_loc r label) ≡ numbered_from n blocks label
  numbers-same n [] label = refl
  numbers-same n (block ∷ blocks) label = rw (numbers-same (n + 1) blocks label, same-test r.loc apart block.label.0 label.0) refl

  pub phi-kind : (inst : Inst) → is_phi (renamed_inst r inst) ≡ is_phi inst
  phi-kind (insts.Phi dst ty arms) = refl
  phi-kind inst = refl

  count-same : (body : List Inst) → phi_count (map (renamed_inst r) body) ≡ phi_count body
  count-same [] = refl
  count-same (inst ∷ body) = rw (phi-kind inst, count-same body) refl

  phis-same : (body : List Inst) → phis_of (map (renamed_inst r) body) ≡ map (renamed_inst r) (phis_of body)
  phis-same body = ap (λ (n : ℕ). take n (map (renamed_inst r) body)) (count-same body) ∙ take-map (renamed_inst r) (phi_count body) body

  arm-same : (label : Loc) (arms : List (Val × Loc)) → arm_from (renamed_loc r label) (renamed_arms r arms) ≡ option_map (renamed_val r) (arm_from label arms)
  arm-same label arms =
      ap (option_map (λ (arm : Val × Loc). arm.0)) (find-map (λ (arm : Val × Loc). (renamed_val r arm.0, renamed_loc r arm.1)) (λ (arm : Val × Loc). nat_eq arm.1.0 label.0) (λ (arm : Val × Loc). nat_eq arm.1.0 (r.loc label.0)) (λ arm. same-test r.loc apart arm.1.0 label.0) arms)
      ∙ by_arm (find (λ (arm : Val × Loc). nat_eq arm.1.0 label.0) arms)
    where
      by_arm : (o : Option (Val × Loc)) → option_map (λ (arm : Val × Loc). arm.0) (option_map (λ (arm : Val × Loc). (renamed_val r arm.0, renamed_loc r arm.1)) o)
          ≡ option_map (renamed_val r) (option_map (λ (arm : Val × Loc). arm.0) o)
      by_arm None = refl
      by_arm (Some arm) = refl

  module _ (types_apart : IsApart r.type_id) (apart_syms : IsApart r.sym) (l : LayoutParts) (a b : List (Option ℕ)) (agree : AgreeBy r.loc a b) where
    abbrev other_layout : LayoutParts
    other_layout = renamed_layout r types_apart apart_syms l

    phi-same : (label : Loc) (phi : Inst) → phi_word other_layout b (renamed_loc r label) (renamed_inst r phi) ≡ option_map renamed_word (phi_word l a label phi)
    phi-same label (insts.Phi dst ty arms) =
        ap (λ (o : Option Val). option_map (λ (n : ℕ). (renamed_loc r dst, n)) (option_and_then (typed_word other_layout b (renamed_ty r ty)) o)) (arm-same label arms) ∙ by_arm (arm_from label arms)
      where
        by_word : (o p : Option ℕ) → p ≡ o → option_map (λ (n : ℕ). (renamed_loc r dst, n)) p ≡ option_map renamed_word (option_map (λ (n : ℕ). (dst, n)) o)
        by_word None p e = rw e refl
        by_word (Some n) p e = rw e refl

        by_arm : (o : Option Val) → option_map (λ (n : ℕ). (renamed_loc r dst, n)) (option_and_then (typed_word other_layout b (renamed_ty r ty)) (option_map (renamed_val r) o))
            ≡ option_map renamed_word (option_map (λ (n : ℕ). (dst, n)) (option_and_then (typed_word l a ty) o))
        by_arm None = refl
        by_arm (Some value) = by_word (typed_word l a ty value) (typed_word other_layout b (renamed_ty r ty) (renamed_val r value)) (typed-same r types_apart apart_syms l a b agree ty value)
    phi-same label inst = refl

    words-same : (label : Loc) (phis : List Inst) → phi_words other_layout b (renamed_loc r label) (map (renamed_inst r) phis) ≡ option_map (map renamed_word) (phi_words l a label phis)
    words-same label [] = refl
    words-same label (phi ∷ phis) = rw (phi-same label phi, words-same label phis) (by_words (phi_word l a label phi) (phi_words l a label phis))
      where
        by_words : (o : Option (Loc × ℕ)) (rest : Option (List (Loc × ℕ))) → phi_words_with (option_map renamed_word o) (option_map (map renamed_word) rest) ≡ option_map (map renamed_word) (phi_words_with o rest)
        by_words None rest = refl
        by_words (Some word) None = refl
        by_words (Some word) (Some words) = refl

-- ---- frames

module _ (m other : ModuleParts) (r : Renames m other) where
  -- the renaming inside a frame's function
  abbrev pub within : Frame → Renaming
  within frame = inside m other r frame.function

  pub record SameFrame (a b : Frame) : Type 0 where
    pub function : b.function ≡ a.function
    pub block : b.block ≡ a.block
    pub index : b.index ≡ a.index
    pub mark : b.mark ≡ a.mark
    pub waiting : b.waiting ≡ option_map (renamed_loc (within a)) a.waiting
    pub registers : AgreeBy (r.loc a.function) a.registers b.registers

  abbrev pub alike : Likeness Frame Frame (Unit {0})
  alike = record { runs = λ i a b. SameFrame a b; waits = λ i a b. SameFrame a b; good = λ i. Unit {0} }

  pub passes : (a b : Frame) → SameFrame a b → SameFrame (passed a) (passed b)
  passes a b s = record { function = s.function; block = s.block; index = ap suc s.index; mark = s.mark; waiting = s.waiting; registers = s.registers }

  pub results : (dst : Option Loc) (n : ℕ) (a b : Frame) → SameFrame a b → SameFrame (resulted dst n a) (resulted (option_map (renamed_loc (within a)) dst) n b)
  results dst n a b s = record {
    function = s.function;
    block = s.block;
    index = ap suc s.index;
    mark = s.mark;
    waiting = s.waiting;
    registers = assigned-by (within a) (r.loc_apart a.function) dst n a.registers b.registers s.registers;
  }

  pub suspends : (dst : Option Loc) (a b : Frame) → SameFrame a b → SameFrame (suspended dst a) (suspended (option_map (renamed_loc (within a)) dst) b)
  suspends dst a b s = record { function = s.function; block = s.block; index = ap suc s.index; mark = s.mark; waiting = refl; registers = s.registers }

  pub resumes : (n : ℕ) (a b : Frame) → SameFrame a b → SameFrame (resumed n a) (resumed n b)
  resumes n a b s = record {
    function = s.function;
    block = s.block;
    index = s.index;
    mark = s.mark;
    waiting = refl;
    registers = subst (λ (dst : Option Loc). AgreeBy (r.loc a.function) (assigned a.waiting n a.registers) (assigned dst n b.registers)) (flip s.waiting)
        (assigned-by (within a) (r.loc_apart a.function) a.waiting n a.registers b.registers s.registers);
  }

  pub entries : (n : ℕ) (words : List ℕ) (mark : ℕ) → SameFrame (entry_frame m n words mark) (entry_frame other n words mark)
  entries n words mark = record {
    function = refl;
    block = refl;
    index = refl;
    mark = refl;
    waiting = refl;
    registers = subst (λ (given : List (Loc × ℕ)). AgreeBy (r.loc n) (all_assigned (zip (params_at m.funcs n) words) []) (all_assigned given []))
        (flip (ap (λ (params : List Loc). zip params words) (params-same m other r n) ∙ zip-same (inside m other r n) (r.loc_apart n) (params_at m.funcs n) words))
        (all-by (inside m other r n) (r.loc_apart n) (zip (params_at m.funcs n) words) [] [] (record { same = λ at. refl }));
  }

  -- ---- edges

  lands : (a b : Frame) (n : ℕ) (block : Block) (words : List (Loc × ℕ)) → SameFrame a b
      → SameFrame (landed a n block words) (landed b n (renamed_block (within a) block) (map (renamed_word (within a) (r.loc_apart a.function)) words))
  lands a b n block words s = record {
    function = s.function;
    block = refl;
    index = count-same (within a) (r.loc_apart a.function) block.insts;
    mark = s.mark;
    waiting = s.waiting;
    registers = all-by (within a) (r.loc_apart a.function) words a.registers b.registers s.registers;
  }

  -- both can go along the edge, or neither
  abbrev AreJumps : Option Frame → Option Frame → Type 0
  AreJumps x y = likeness.AreJumps alike tt x y

  -- two frames that went
  module _ (a b : Frame) (s : SameFrame a b) where
    abbrev q : Renaming
    q = within a

    abbrev apart : IsApart q.loc
    apart = r.loc_apart a.function

    abbrev l : LayoutParts
    l = layout_of m

    abbrev others : LayoutParts
    others = renamed_layout q r.type_apart r.sym_apart l

    by-words : (n : ℕ) (target : Block) (o : Option (List (Loc × ℕ)))
        → AreJumps (option_map (landed a n target) o) (option_map (landed b n (renamed_block q target)) (option_map (map (renamed_word q apart)) o))
    by-words n target None = tt
    by-words n target (Some words) = lands a b n target words s

    by-target : (from : Block) (n : ℕ) (o : Option Block)
        → AreJumps (option_and_then (land l a from n) o) (option_and_then (land others b (renamed_block q from) n) (option_map (renamed_block q) o))
    by-target from n None = tt
    by-target from n (Some target) =
        subst (λ (o : Option (List (Loc × ℕ))). AreJumps (land l a from n target) (option_map (landed b n (renamed_block q target)) o))
        (flip (ap (phi_words others b.registers (renamed_loc q from.label)) (phis-same q apart target.insts)
        ∙ words-same q apart r.type_apart r.sym_apart l a.registers b.registers s.registers from.label (phis_of target.insts)))
        (by-words n target (phi_words l a.registers from.label (phis_of target.insts)))

    by-number : (from : Block) (blocks : List Block) (o : Option ℕ)
        → AreJumps (option_and_then (λ n. option_and_then (land l a from n) (slice_get blocks n)) o)
        (option_and_then (λ n. option_and_then (land others b (renamed_block q from) n) (slice_get (map (renamed_block q) blocks) n)) o)
    by-number from blocks None = tt
    by-number from blocks (Some n) =
        subst (λ (o : Option Block). AreJumps (option_and_then (land l a from n) (slice_get blocks n)) (option_and_then (land others b (renamed_block q from) n) o))
        (flip (slice_get-map (renamed_block q) blocks n)) (by-target from n (slice_get blocks n))

    by-from : (blocks : List Block) (label : Loc) (o : Option Block)
        → AreJumps (option_and_then (jump_from l blocks a label) o) (option_and_then (jump_from others (map (renamed_block q) blocks) b (renamed_loc q label)) (option_map (renamed_block q) o))
    by-from blocks label None = tt
    by-from blocks label (Some from) =
        subst (λ (o : Option ℕ). AreJumps (jump_from l blocks a label from) (option_and_then (λ n. option_and_then (land others b (renamed_block q from) n) (slice_get (map (renamed_block q) blocks) n)) o))
        (flip (numbers-same q apart 0 blocks label)) (by-number from blocks (number_of blocks label))

    pub jumps : (label : Loc) → AreJumps (jumped m a label) (jumped other b (renamed_loc q label))
    jumps label =
        subst (λ (o : Option Frame). AreJumps (jumped m a label) o) (flip went) (by-from (blocks_at m.funcs a.function) label (slice_get (blocks_at m.funcs a.function) a.block))
      where
        went : jumped other b (renamed_loc q label)
            ≡ option_and_then (jump_from others (map (renamed_block q) (blocks_at m.funcs a.function)) b (renamed_loc q label)) (option_map (renamed_block q) (slice_get (blocks_at m.funcs a.function) a.block))
        went =
            ap (λ (n : ℕ). jump_in (layout_of other) (blocks_at other.funcs n) b (renamed_loc q label)) s.function
            ∙ ap (λ (blocks : List Block). jump_in (layout_of other) blocks b (renamed_loc q label)) (blocks-same m other r a.function)
            ∙ ap (λ (layout : LayoutParts). jump_in layout (map (renamed_block q) (blocks_at m.funcs a.function)) b (renamed_loc q label)) (layout-same m other r)
            ∙ ap (λ (n : ℕ). option_and_then (jump_from others (map (renamed_block q) (blocks_at m.funcs a.function)) b (renamed_loc q label)) (slice_get (map (renamed_block q) (blocks_at m.funcs a.function)) n)) s.block
            ∙ ap (option_and_then (jump_from others (map (renamed_block q) (blocks_at m.funcs a.function)) b (renamed_loc q label))) (slice_get-map (renamed_block q) (blocks_at m.funcs a.function) a.block)
