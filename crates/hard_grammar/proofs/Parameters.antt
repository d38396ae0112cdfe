-- The types of parameters that a line writes are those of values: none is `void`.
use Rattle.std.proofs.Common.{ℕ, zero, suc, ◌≡◌, ◌+◌, inl, inr, Bool, true, false, List, [], ◌∷◌, map, Option, Some, None, refl, sym, ap, ◌∙◌, subst}
use Rattle.std.specs.Prelude.{option_and_then}
use Rattle.std.specs.List.{AllByRecursion}
use Rattle.ir_core.specs.declared.types.Loc.{Loc}
use Rattle.ir_core.specs.declared.types.Ty.{Ty, map-Ty}
use Rattle.ir_core.specs.declared.types.Ty as opened
use Rattle.ir_core.specs.declared.types.Ty.TheVariants as types
use Rattle.ir_core.specs.declared.types.Ty.TheOpen.{Ty-F}
use Rattle.ir_core.specs.declared.types.Ty.TheViews.{roll-Ty, out-Ty, out-roll-Ty, roll-out-Ty}
use Rattle.ir_core.specs.declared.types.Ty.TheFolds.{fold-roll-Ty}
use Rattle.ir_grammar.specs.declared.heads.TypeHead.{TypeHead}
use Rattle.ir_grammar.specs.declared.heads.TypeHead.TheVariants as heads
use Rattle.ir_grammar.specs.declared.trees.TopWord.{TopWord}
use Rattle.ir_grammar.specs.declared.trees.TopWord.TheVariants as words
use Rattle.ir_grammar.specs.declared.trees.TopLine.{TopLine}
use Rattle.ir_grammar.specs.declared.trees.TopLine.TheVariants as tops
use Rattle.ir_grammar.specs.Parts.{Tok, Part, gives, ◌>>=◌, either, chain, IsChain, heads as starts}
use Rattle.ir_grammar.specs.Tokens.{is_punct, punct, close_paren}
use Rattle.ir_grammar.specs.Types.{flat, type_head, type_rest, typ, any_depth}
use Rattle.ir_grammar.specs.Top.{type_line, global_line, defined_param, declare_line, define_line, function_line, top_line}
use Rattle.ir_numbering.specs.Renaming.{Renaming, renamed_step, renamed_ty}
use Rattle.ir_parse_top.specs.Sheet.{counted, named_params}
use Rattle.ir_types.specs.Types.{is_void_step}
use Rattle.hard_grammar.proofs.Words.{NotVoid}

-- ---- types

-- a type of another layer than `void`
made : (layer : Ty-F Ty) → is_void_step layer ≡ false → NotVoid (roll-Ty layer)
made layer e = ap is_void_step (out-roll-Ty layer) ∙ e

flat_written : (head : Option TypeHead) (ty : Ty) → option_and_then flat head ≡ Some ty → NotVoid ty
unfolding opened.roll-Ty denote.Hole.Carrier.roll
flat_written None ty e = absurd cc
flat_written (Some (heads.Int w)) ty e = let is : types.Int w ≡ ty = cc in subst NotVoid is (made (Ty-F.Int w) refl)
flat_written (Some heads.Ptr) ty e = let is : types.Ptr ≡ ty = cc in subst NotVoid is (made Ty-F.Ptr refl)
flat_written (Some (heads.Named id)) ty e = let is : types.Named id ≡ ty = cc in subst NotVoid is (made (Ty-F.Named id) refl)
flat_written (Some heads.Array) ty e = absurd cc
flat_written (Some heads.Struct) ty e = absurd cc

rest_written : (inner : Part Ty) (head : TypeHead) (tokens : List Tok) (ty : Ty) → (type_rest inner head).means tokens ty → NotVoid ty
unfolding opened.roll-Ty denote.Hole.Carrier.roll
rest_written inner (heads.Int w) tokens ty h = subst NotVoid (sym h.1) (made (Ty-F.Int w) refl)
rest_written inner heads.Ptr tokens ty h = subst NotVoid (sym h.1) (made Ty-F.Ptr refl)
rest_written inner (heads.Named id) tokens ty h = subst NotVoid (sym h.1) (made (Ty-F.Named id) refl)
rest_written inner heads.Array tokens ty h = subst NotVoid (sym h.second.second.second.second.1) (made (Ty-F.Array h.value h.second.second.value) refl)
rest_written inner heads.Struct tokens ty h = subst NotVoid (sym h.second.1) (made (Ty-F.Struct h.value) refl)

type_written : (depth : ℕ) (tokens : List Tok) (ty : Ty) → (typ depth).means tokens ty → NotVoid ty
unfolding typ
type_written zero tokens ty h = flat_written (type_head false h.token) ty h.is
type_written (suc n) tokens ty h = rest_written (typ n) h.value h.back ty h.second

-- and once its names are numbered
pub not_void_renamed : (r : Renaming) (ty : Ty) → NotVoid ty → NotVoid (renamed_ty r ty)
unfolding opened.roll-Ty denote.Hole.Carrier.roll
not_void_renamed r ty some = by (out-Ty ty) refl
  where
    again : (layer : Ty-F Ty) → out-Ty ty ≡ layer → renamed_ty r ty ≡ renamed_step r.type_id (map-Ty Ty Ty (renamed_ty r) layer)
    again layer h =
        ap (renamed_ty r) (sym (roll-out-Ty ty)) ∙ fold-roll-Ty Ty (renamed_step r.type_id) (out-Ty ty)
        ∙ ap (λ (l : Ty-F Ty). renamed_step r.type_id (map-Ty Ty Ty (renamed_ty r) l)) h

    by : (layer : Ty-F Ty) → out-Ty ty ≡ layer → NotVoid (renamed_ty r ty)
    by Ty-F.Void h = absurd (let clash : true ≡ false = sym (ap is_void_step h) ∙ some in cc)
    by (Ty-F.Int w) h = subst NotVoid (sym (again (Ty-F.Int w) h)) (made (Ty-F.Int w) refl)
    by Ty-F.Ptr h = subst NotVoid (sym (again Ty-F.Ptr h)) (made Ty-F.Ptr refl)
    by (Ty-F.Array n element) h = subst NotVoid (sym (again (Ty-F.Array n element) h)) (made (Ty-F.Array n (renamed_ty r element)) refl)
    by (Ty-F.Struct parts) h = subst NotVoid (sym (again (Ty-F.Struct parts) h)) (made (Ty-F.Struct (map (renamed_ty r) parts)) refl)
    by (Ty-F.Named id) h = subst NotVoid (sym (again (Ty-F.Named id) h)) (made (Ty-F.Named (record { 0 = r.type_id id.0 })) refl)

-- ---- lines

abbrev pub AreValues : {A : Type 0} → List (Ty × A) → Type 0
AreValues = AllByRecursion (λ param. NotVoid param.0)

abbrev pub HasValues : TopLine → Type 0
HasValues (tops.Define head) = AreValues head.params
HasValues line = Unit {0}

param_written : (tokens : List Tok) (param : (Ty × Option Loc) × Bool) → defined_param.means tokens param → NotVoid param.0.0
unfolding defined_param
param_written tokens param h =
    subst NotVoid (sym (ap (λ (x : (Ty × Option Loc) × Bool). x.0.0) h.second.second.second.1)) (type_written any_depth h.front h.value h.first)

chain_written : (params : List (Ty × Option Loc)) (tokens : List Tok) → IsChain defined_param.means params tokens → AreValues params
chain_written [] tokens h = absurd h
chain_written (param ∷ []) tokens h = (param_written tokens (param, false) h, tt)
chain_written (param ∷ other ∷ params) tokens h = (param_written h.front (param, true) h.first, chain_written (other ∷ params) h.back h.rest)

params_written : (params : List (Ty × Option Loc)) (tokens : List Tok)
    → (either (starts (is_punct close_paren)) (punct close_paren >>= λ _. gives []) (chain defined_param)).means tokens params → AreValues params
params_written params tokens (inl h) = subst AreValues (sym h.second.1) tt
params_written params tokens (inr h) = chain_written params tokens h

function_written : (word : TopWord) (tokens : List Tok) (line : TopLine) → (function_line word).means tokens line → HasValues line
unfolding declare_line define_line
function_written words.Declare tokens line h = subst HasValues (sym h.second.second.second.second.second.1) tt
function_written words.Define tokens line h =
    let list = h.second.second.second in
    subst HasValues (sym list.second.second.second.1) (params_written list.value list.first.back list.first.second)

-- the parameters of a line outside functions
pub line_written : (tokens : List Tok) (line : TopLine) → top_line.means tokens line → HasValues line
unfolding top_line type_line global_line
line_written tokens line (inl h) = subst HasValues (sym h.second.second.second.second.second.1) tt
line_written tokens line (inr (inl h)) = subst HasValues (sym h.second.second.second.second.second.second.seen) tt
line_written tokens line (inr (inr h)) = function_written h.value h.back line h.second

-- those of a function by its line, each with a name
pub named_written : (text : List ℕ) (n : ℕ) (params : List (Ty × Option Loc)) → AreValues params → AreValues (named_params text n params)
unfolding named_params
named_written text n [] written = tt
named_written text n (param ∷ params) written = (written.0, named_written text (n + counted text param.1) params written.1)
