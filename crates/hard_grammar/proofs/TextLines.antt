-- What the lines of a text have said: parameters have types of values, each block has a label, and each instruction a line whose names
-- are read in the text.
use Rattle.std.proofs.Common.{ℕ, suc, ◌≡◌, ◌+◌, ◌≤◌, inl, inr, Bool, true, false, eqb, List, [], ◌∷◌, ◌++◌, length, drop, Option, Some, None, refl, sym, ap, ◌∙◌, subst, arith, append_assoc}
use Rattle.std.specs.Prelude.{codes, if◌then◌else◌}
use Rattle.std.specs.List.{AllByRecursion, flat_map}
use Rattle.std.proofs.lemmas.List.{length-append, drop_at, drop-drop}
use Rattle.ir_core.specs.declared.text.TokKind.{TokKind}
use Rattle.ir_core.specs.declared.text.TokKind.TheVariants.{Word, Local, At, Label, Num, Bytes, Str, Hash, Bang, Punct}
use Rattle.ir_core.specs.declared.text.Token.{Token}
use Rattle.ir_core.specs.declared.types.Loc.{Loc}
use Rattle.ir_core.specs.declared.types.Ty.{Ty}
use Rattle.ir_core.specs.declared.instruction.Inst.{Inst}
use Rattle.ir_core.specs.declared.instruction.Block.{Block}
use Rattle.ir_core.specs.Module.{ModuleParts, FuncParts, empty_module, with_inst}
use Rattle.ir_core.specs.Lines.{lines_of, fed}
use Rattle.ir_core.specs.Tokens.{is_name, IsToken}
use Rattle.ir_core.specs.TokenLengths.{name_from}
use Rattle.ir_core.proofs.LineLaws.{lines_joined}
use Rattle.ir_grammar.specs.declared.trees.TopLine.{TopLine}
use Rattle.ir_grammar.specs.declared.trees.TopLine.TheVariants as tops
use Rattle.ir_grammar.specs.declared.trees.BodyLine.{BodyLine}
use Rattle.ir_grammar.specs.declared.trees.BodyLine.TheVariants as bodies
use Rattle.ir_grammar.specs.Parts.{Tok}
use Rattle.ir_grammar.specs.Tokens.{tokens_of, token_of}
use Rattle.ir_grammar.specs.Top.{body_line, label_of}
use Rattle.ir_grammar.specs.Lines.{instruction}
use Rattle.ir_grammar.specs.Fitting.{IsLine, IsInstruction}
use Rattle.ir_parse_top.specs.Sheet.{Sheet, Outside, Inside, with_top, with_body, begun, new_block, named_params, name_or, counted, counted_params, numeral_at}
use Rattle.ir_parse_top.specs.Text.{Line, placed, lines_placed, all_moved, pending_of, Says, Leads, Dropped, Blank, Said, Run}
use Rattle.hard_grammar.proofs.Ordinary.{all_append, all_map}
use Rattle.hard_grammar.proofs.Parameters.{AreValues, HasValues, line_written, named_written}
use Rattle.hard_grammar.proofs.LineTokens.{IsSound, IsRead, Lies, all_sound}
use Rattle.hard_grammar.proofs.WrittenNames.{IsAt, AreAt, NameOfResult, NamesOfParams, NamesOfTop, params_written}

-- ---- where lines lie

-- the line's bytes lie at its place, with a line feed behind them in the longer text
pub record LineLies (text whole : List ℕ) (line : Line) : Type 0 where
  pub lies : Lies whole line.at line.bytes
  pub within : line.at + length line.bytes ≤ length text

abbrev joined : List (List ℕ) → List ℕ
joined = flat_map (λ line. line ++ 10 ∷ [])

placed_lie : (text whole more : List ℕ) (at : ℕ) (lines : List (List ℕ)) → drop at whole ≡ joined lines ++ more → at + length (joined lines) ≤ suc (length text)
    → AllByRecursion (LineLies text whole) (placed at lines)
unfolding placed
placed_lie text whole more at [] e le = tt
placed_lie text whole more at (line ∷ lines) e le =
    let rest = joined lines ++ more in
    let here : drop at whole ≡ line ++ 10 ∷ rest = e ∙ append_assoc (line ++ 10 ∷ []) (joined lines) more ∙ append_assoc line (10 ∷ []) rest in
    let size : length ((line ++ 10 ∷ []) ++ joined lines) ≡ (length line + 1) + length (joined lines) = length-append (line ++ 10 ∷ []) (joined lines) ∙ ap (λ (n : ℕ). n + length (joined lines)) (length-append line (10 ∷ [])) in
    let after : drop (at + length line) whole ≡ 10 ∷ rest = sym (drop-drop (length line) at whole) ∙ ap (drop (length line)) here ∙ drop_at line (10 ∷ rest) (length line) refl in (
      record { lies = (rest, here); within = omega (arith, size, le) },
      placed_lie text whole more (at + length line + 1) lines (sym (drop-drop 1 (at + length line) whole) ∙ ap (drop 1) after) (omega (arith, size, le)),
    )

fed_size : (text : List ℕ) → length (fed text) ≤ suc (length text)
fed_size [] = omega arith
fed_size (b ∷ []) = by (eqb b 10)
  where
    by : (t : Bool) → length (if t then b ∷ [] else b ∷ 10 ∷ []) ≤ 2
    by true = omega arith
    by false = omega arith
fed_size (b ∷ c ∷ text) = let h = fed_size (c ∷ text) in omega (arith, h)

-- a text with a line feed and more behind it is the text that ends in one, and more
fed_front : (text more : List ℕ) → (rest : List ℕ) × (text ++ 10 ∷ more ≡ fed text ++ rest)
fed_front [] more = (10 ∷ more, refl)
fed_front (b ∷ []) more = by (eqb b 10)
  where
    by : (t : Bool) → (rest : List ℕ) × (b ∷ 10 ∷ more ≡ (if t then b ∷ [] else b ∷ 10 ∷ []) ++ rest)
    by true = (10 ∷ more, refl)
    by false = (more, refl)
fed_front (b ∷ c ∷ text) more = let h = fed_front (c ∷ text) more in (h.0, ap (λ (l : List ℕ). b ∷ l) h.1)

pub lines_lie : (text more : List ℕ) → AllByRecursion (LineLies text (text ++ 10 ∷ more)) (lines_placed text)
lines_lie text more =
    let f = fed_front text more in
    let size : length (joined (lines_of text)) ≡ length (fed text) = ap length (lines_joined text) in
    let small = fed_size text in
    placed_lie text (text ++ 10 ∷ more) f.0 0 (lines_of text) (f.1 ∙ ap (λ (l : List ℕ). l ++ f.0) (sym (lines_joined text))) (omega (arith, size, small))

-- ---- what has been said

module _ (text more : List ℕ) where
  abbrev whole : List ℕ
  whole = text ++ 10 ∷ more

  abbrev AreSound : List Token → Type 0
  AreSound = AllByRecursion (IsSound text whole)

  -- tokens of the text stand for the instruction
  pub record IsTold (inst : Inst) : Type 0 where
    pub tokens : List Token
    pub sound : AreSound tokens
    pub stands : IsInstruction (tokens_of text tokens) inst

  -- A label is a name that a line writes, or is told by the number of a function's parameters with digits, of which there are n at most.
  pub data IsLabel (n : ℕ) (label : Loc) : Type 0 where
    Written : IsToken true Label (name_from whole label.0 ++ codes ":") → IsLabel n label
    Unwritten : (k : ℕ) → k ≤ n → label ≡ numeral_at text k → IsLabel n label

  -- the longest name that begins at a place of the text is one
  abbrev pub IsNameAt : Loc → Type 0
  IsNameAt at = is_name (name_from whole at.0) ≡ true

  -- A parameter has a name that a line writes, or one of the same numbers.
  pub data IsParam (n : ℕ) (at : Loc) : Type 0 where
    Named : IsNameAt at → IsParam n at
    Numbered : (k : ℕ) → k ≤ n → at ≡ numeral_at text k → IsParam n at

  abbrev pub AreParams : ℕ → List (Ty × Loc) → Type 0
  AreParams n = AllByRecursion (λ param. IsParam n param.1)

  pub record IsToldBlock (n : ℕ) (block : Block) : Type 0 where
    pub label : IsLabel n block.label
    pub insts : AllByRecursion IsTold block.insts

  pub record IsToldFunc (f : FuncParts) : Type 0 where
    pub params : AreValues f.params
    pub names : AreParams (length f.params) f.params
    pub each : AllByRecursion (IsToldBlock (length f.params)) f.blocks

  abbrev pub IsToldSheet : Sheet → Type 0
  IsToldSheet (Outside tree) = AllByRecursion IsToldFunc tree.funcs
  IsToldSheet (Inside tree f entry pending) = AllByRecursion IsToldFunc tree.funcs × AllByRecursion (IsToldBlock (length f.params)) f.blocks × IsLabel (length f.params) entry × AreSound pending × AreValues f.params × AreParams (length f.params) f.params

  -- ---- names

  token_named : (t : Token) → IsSound text whole t → IsAt IsNameAt (token_of text t).at (token_of text t).kind
  unfolding IsToken
  token_named t h = by t.kind (token_of text t).text t.start h.kind h.name
    where
      by : (kind : TokKind) (own : List ℕ) (at : ℕ) → IsToken true kind own → IsRead whole at own kind → IsAt IsNameAt at kind
      by Local own at is read = ap is_name (read ∙ ap (drop 1) is.whole) ∙ is.passes
      by Word own at is read = tt
      by At own at is read = tt
      by Label own at is read = tt
      by Num own at is read = tt
      by Bytes own at is read = tt
      by Str own at is read = tt
      by Hash own at is read = tt
      by Bang own at is read = tt
      by Punct own at is read = tt

  pub names_at : (tokens : List Token) → AreSound tokens → AreAt IsNameAt (tokens_of text tokens)
  names_at = all_map (IsSound text whole) (λ t. IsAt IsNameAt t.at t.kind) (token_of text) token_named

  -- ---- lines outside functions

  count_one : (name : Option Loc) → counted text name ≤ 1
  count_one None = omega arith
  count_one (Some at) = by _
    where
      by : (b : Bool) → (if b then 1 else 0) ≤ 1
      by true = omega arith
      by false = omega arith

  count_params : (n : ℕ) (params : List (Ty × Option Loc)) → counted_params text n params ≤ n + length params
  unfolding counted_params
  count_params n [] = omega arith
  count_params n (param ∷ params) =
      let h = count_params (n + counted text param.1) params in
      let one : counted text param.1 ≤ 1 = count_one param.1 in
      omega (arith, h, one)

  params_number : (n : ℕ) (params : List (Ty × Option Loc)) → length (named_params text n params) ≡ length params
  unfolding named_params
  params_number n [] = refl
  params_number n (param ∷ params) = ap suc (params_number (n + counted text param.1) params)

  -- parameters before which there are so many names of digits
  params_told : (n most : ℕ) (params : List (Ty × Option Loc)) → n + length params ≤ most → NamesOfParams IsNameAt params → AreParams most (named_params text n params)
  unfolding named_params
  params_told n most [] le names = tt
  params_told n most (param ∷ params) le names =
      let one : counted text param.1 ≤ 1 = count_one param.1 in
      (by param.1 names.0, params_told (n + counted text param.1) most params (omega (arith, le, one)) names.1)
    where
      by : (name : Option Loc) → NameOfResult IsNameAt name → IsParam most (name_or text n name)
      by None is = Numbered n (omega (arith, le)) refl
      by (Some at) is = Named is

  told_top : (tree : ModuleParts) (line : TopLine) → AllByRecursion IsToldFunc tree.funcs → HasValues line → NamesOfTop IsNameAt line → IsToldSheet (with_top text tree line)
  told_top tree (tops.Type id ty) told written names = told
  told_top tree (tops.Global global) told written names = told
  told_top tree (tops.Declare declare) told written names = told
  told_top tree (tops.Define head) told written names =
      let le = count_params 0 head.params in
      let size = params_number 0 head.params in (
        told,
        tt,
        Unwritten (counted_params text 0 head.params) (omega (arith, le, size)) refl,
        tt,
        named_written text 0 head.params written,
        params_told 0 (length (named_params text 0 head.params)) head.params (omega (arith, size)) names,
      )

  -- ---- lines inside functions

  begun_told : (n : ℕ) (entry : Loc) (blocks : List Block) → IsLabel n entry → AllByRecursion (IsToldBlock n) blocks → AllByRecursion (IsToldBlock n) (begun entry blocks)
  begun_told n entry [] label told = (record { label = label; insts = tt }, tt)
  begun_told n entry (block ∷ blocks) label told = told

  inst_told : (n : ℕ) (blocks : List Block) (inst : Inst) → IsTold inst → AllByRecursion (IsToldBlock n) blocks → AllByRecursion (IsToldBlock n) (with_inst blocks inst)
  inst_told n [] inst is told = tt
  inst_told n (block ∷ []) inst is told = (record { label = told.0.label; insts = all_append IsTold block.insts (inst ∷ []) told.0.insts (is, tt) }, tt)
  inst_told n (block ∷ other ∷ blocks) inst is told = (told.0, inst_told n (other ∷ blocks) inst is told.1)

  label_read : (kind : TokKind) (own : List ℕ) (at : ℕ) (label : Loc) → label_of (record { kind = kind; text = own; at = at }) ≡ Some label → IsToken true kind own → IsRead whole at own kind
      → IsToken true Label (name_from whole label.0 ++ codes ":")
  label_read Label own at label e is read =
      let same : at ≡ label.0 = cc in
      subst (λ (l : List ℕ). IsToken true Label l) (read ∙ ap (λ (n : ℕ). name_from whole n ++ codes ":") same) is
  label_read Word own at label e is read = cc
  label_read Local own at label e is read = cc
  label_read At own at label e is read = cc
  label_read Num own at label e is read = cc
  label_read Bytes own at label e is read = cc
  label_read Str own at label e is read = cc
  label_read Hash own at label e is read = cc
  label_read Bang own at label e is read = cc
  label_read Punct own at label e is read = cc

  one_label : (tokens : List Token) (t : Tok) (label : Loc) → tokens_of text tokens ≡ t ∷ [] → AreSound tokens → label_of t ≡ Some label → IsToken true Label (name_from whole label.0 ++ codes ":")
  one_label [] t label e sound is = absurd cc
  one_label (token ∷ tokens) t label e sound is =
      let same : token_of text token ≡ t = cc in
      label_read token.kind (token_of text token).text token.start label (ap label_of same ∙ is) sound.0.kind sound.0.name

  told_body : (tree : ModuleParts) (f : FuncParts) (entry : Loc) (tokens : List Token) (line : BodyLine) → IsToldSheet (Inside tree f entry []) → AreSound tokens → IsLine body_line.means (tokens_of text tokens) line
      → IsToldSheet (with_body tree f entry line)
  unfolding body_line
  told_body tree f entry tokens (bodies.Label at) told sound is = by is.is
    where
      by_label : IsToken true Label (name_from whole at.0 ++ codes ":") → IsToldSheet (with_body tree f entry (bodies.Label at))
      by_label h = (told.0, all_append (IsToldBlock (length f.params)) f.blocks (new_block at ∷ []) told.1 (record { label = Written h; insts = tt }, tt), told.2, tt, told.4, told.5)

      by : body_line.means (tokens_of text tokens) (bodies.Label at) → IsToldSheet (with_body tree f entry (bodies.Label at))
      by (inl h) =
          let same : h.value ≡ at = cc in
          by_label (one_label tokens h.first.token at (h.whole ∙ ap (λ (ts : List Tok). ts ++ h.back) h.first.whole ∙ ap (λ (ts : List Tok). h.first.token ∷ ts) h.second.0) sound (h.first.is ∙ ap Some same))
      by (inr (inl h)) = absurd (let clash : bodies.Label at ≡ bodies.End = h.second.1 in cc)
      by (inr (inr h)) = absurd (let clash : bodies.Label at ≡ bodies.Inst h.value = h.seen in cc)
  told_body tree f entry tokens (bodies.Inst inst) told sound is = by is.is
    where
      by : body_line.means (tokens_of text tokens) (bodies.Inst inst) → IsToldSheet (with_body tree f entry (bodies.Inst inst))
      by (inl h) = absurd (let clash : bodies.Inst inst ≡ bodies.Label h.value = h.second.1 in cc)
      by (inr (inl h)) = absurd (let clash : bodies.Inst inst ≡ bodies.End = h.second.1 in cc)
      by (inr (inr h)) =
          let same : h.value ≡ inst = cc in
          let it : IsTold inst = record { tokens = tokens; sound = sound; stands = record { shallow = is.shallow; is = subst (λ (i : Inst). instruction.means (tokens_of text tokens) i) same h.is } } in
          (told.0, inst_told (length f.params) (begun entry f.blocks) inst it (begun_told (length f.params) entry f.blocks told.2 told.1), told.2, tt, told.4, told.5)
  told_body tree f entry tokens bodies.End told sound is =
      all_append IsToldFunc tree.funcs (record f { blocks = begun entry f.blocks } ∷ []) told.0
      (record { params = told.4; names = told.5; each = begun_told (length f.params) entry f.blocks told.2 told.1 }, tt)

  -- ---- all lines

  pending_told : (sheet : Sheet) → IsToldSheet sheet → AreSound (pending_of sheet)
  pending_told (Outside tree) told = tt
  pending_told (Inside tree f entry pending) told = told.3

  says_told : (sheet next : Sheet) (tokens : List Token) → AreSound tokens → IsToldSheet sheet → Says text sheet tokens next → IsToldSheet next
  says_told (Outside tree) next tokens sound told h =
      let names = params_written IsNameAt (tokens_of text tokens) h.0 h.1.is (names_at tokens sound) in
      subst IsToldSheet (sym h.2) (told_top tree h.0 told (line_written (tokens_of text tokens) h.0 h.1.is) names)
  says_told (Inside tree f entry pending) next tokens sound told (inl h) = subst IsToldSheet (sym h.2) (told_body tree f entry tokens h.0 (told.0, told.1, told.2, tt, told.4, told.5) sound h.1)
  says_told (Inside tree f entry pending) next tokens sound told (inr h) = subst IsToldSheet (sym h.1) (told.0, told.1, told.2, sound, told.4, told.5)

  leads_told : (sheet next : Sheet) (line : Line) → LineLies text whole line → IsToldSheet sheet → Leads text sheet line next → IsToldSheet next
  leads_told sheet next line lies told (Dropped _ e) = subst IsToldSheet (sym e) told
  leads_told sheet next line lies told (Blank _ _ e) = subst IsToldSheet (sym e) told
  leads_told sheet next line lies told (Said all h says) =
      let base : line.at ≡ line.at + 0 = omega arith in
      let le = lies.within in
      let own : AreSound (all_moved line.at h.tokens) =
      all_sound text (10 ∷ more) line.at true 0 line.bytes h.tokens h.own (subst (λ (n : ℕ). Lies whole n line.bytes) base lies.lies) (omega (arith, le)) in
      says_told sheet next all (subst AreSound (sym h.whole) (all_append (IsSound text whole) (pending_of sheet) (all_moved line.at h.tokens) (pending_told sheet told) own)) told says

  run_told : (lines : List Line) (sheet next : Sheet) → AllByRecursion (LineLies text whole) lines → IsToldSheet sheet → Run text sheet lines next → IsToldSheet next
  run_told [] sheet next lie told e = subst IsToldSheet (sym e) told
  run_told (line ∷ lines) sheet next lie told run = run_told lines run.0 next lie.1 (leads_told sheet run.0 line lie.0 told run.1) run.2

  pub tree_told : (tree : ModuleParts) → Run text (Outside empty_module) (lines_placed text) (Outside tree) → AllByRecursion IsToldFunc tree.funcs
  tree_told tree run = run_told (lines_placed text) (Outside empty_module) (Outside tree) (lines_lie text more) tt run
