-- The memory of a module under other numbers of its names: globals stand where they stood, and the same bytes are there from the start.
use Rattle.std.proofs.Common.{ℕ, ◌≡◌, ◌∙◌, Bool, ◌||◌, List, [], ◌∷◌, map, find, reverse, fold, Option, Some, None, refl, ap, sym as flip}
use Rattle.std.specs.Prelude.{nat_eq, unwrap_or}
use Rattle.std.specs.Option.{option_map}
use Rattle.ir_core.specs.declared.types.Ty.{Ty}
use Rattle.ir_core.specs.declared.types.TypeId.{TypeId}
use Rattle.ir_core.specs.declared.types.Sym.{Sym}
use Rattle.ir_core.specs.declared.values.ConstGep.{ConstGep}
use Rattle.ir_core.specs.declared.values.GlobalVar.{GlobalVar}
use Rattle.ir_core.specs.declared.values.Init.{Init, map-Init, roll-Init}
use Rattle.ir_core.specs.declared.values.Init as opened
use Rattle.ir_core.specs.declared.values.Init.TheFolds.{fold-roll-Init, ind-Init}
use Rattle.ir_core.specs.declared.values.Init.TheOpen.{Init-F}
use Rattle.ir_layout.specs.declared.spans.Span.{Span}
use Rattle.ir_layout.specs.Memory.{LayoutParts, spans_from, span_at, end_of, lies_in, lies_in_global, is_valid}
use Rattle.ir_numbering.specs.Renaming.{Renaming, renamed_ty, renamed_sym, renamed_gep, renamed_init, renamed_init_step, renamed_global}
use Rattle.ir_numbering.specs.Numbers.{renamed_named}
use Rattle.mem_image.specs.Opening.{size_in, address_in, inner_address, with_part, init_step, bytes_given, bytes_of_init, with_global, opening}
use Rattle.renamed_modules.proofs.RenamedTypes.{IsApart, same-test, find-map, reverse-map, known-same, size-same, limit-same, offset-same}

-- a place with the other number of its global
abbrev pub renamed_span : Renaming → Span → Span
renamed_span r span = record span { sym = renamed_sym r span.sym }

-- ---- places

pub valid-same : (r : Renaming) (spans : List Span) (address n : ℕ) → is_valid (map (renamed_span r) spans) address n ≡ is_valid spans address n
valid-same r spans address n =
    rw (among spans) refl
  where
    among : (spans : List Span) → lies_in_global (map (renamed_span r) spans) address n ≡ lies_in_global spans address n
    among [] = refl
    among (span ∷ spans) = ap (λ (b : Bool). lies_in span.start span.size address n || b) (among spans)

module _ (r : Renaming) (apart : IsApart r.type_id) (apart_syms : IsApart r.sym) (l : LayoutParts) where
  -- the layout under the other numbers
  abbrev pub renamed_layout : LayoutParts
  renamed_layout = record { types = map (renamed_named r) l.types; globals = map (renamed_span r) l.globals }

  pub address-same : (sym : Sym) → address_in renamed_layout (renamed_sym r sym) ≡ address_in l sym
  address-same sym = ap (λ (o : Option Span). unwrap_or (option_map (λ (span : Span). span.start) o) 0)
      (ap (find (λ (span : Span). nat_eq span.sym.0 (r.sym sym.0))) (reverse-map (renamed_span r) l.globals)
      ∙ find-map (renamed_span r) (λ (span : Span). nat_eq span.sym.0 sym.0) (λ (span : Span). nat_eq span.sym.0 (r.sym sym.0)) (λ span. same-test r.sym apart_syms span.sym.0 sym.0) (reverse l.globals))
      ∙ by_span (find (λ (span : Span). nat_eq span.sym.0 sym.0) (reverse l.globals))
    where
      by_span : (o : Option Span) → unwrap_or (option_map (λ (span : Span). span.start) (option_map (renamed_span r) o)) 0 ≡ unwrap_or (option_map (λ (span : Span). span.start) o) 0
      by_span None = refl
      by_span (Some span) = refl

  pub inner-address-same : (gep : ConstGep) → inner_address renamed_layout (renamed_gep r gep) ≡ inner_address l gep
  inner-address-same gep = rw (address-same gep.sym, offset-same r apart l.types gep.base gep.index) refl

  pub size-in-same : (ty : Ty) → size_in renamed_layout (renamed_ty r ty) ≡ size_in l ty
  size-in-same ty = rw (limit-same r apart l.types ty, size-same r apart l.types ty) refl

  -- ---- initialisers

  abbrev IsGivenSame : Init → Type 0
  IsGivenSame init = bytes_given renamed_layout (renamed_init r init) ≡ bytes_given l init

  part-same : (bs : List ℕ) (ty : Ty) (given : List ℕ) → with_part renamed_layout bs (renamed_ty r ty, given) ≡ with_part l bs (ty, given)
  part-same bs ty given = rw (known-same r apart l.types ty, size-in-same ty) refl

  -- a layer with its names numbered anew, its parts renamed already
  abbrev numbered_init : Init-F Init → Init-F Init
  numbered_init Init-F.Zero = Init-F.Zero
  numbered_init (Init-F.Int n) = Init-F.Int n
  numbered_init Init-F.Null = Init-F.Null
  numbered_init (Init-F.Addr sym) = Init-F.Addr (renamed_sym r sym)
  numbered_init (Init-F.Gep gep) = Init-F.Gep (renamed_gep r gep)
  numbered_init (Init-F.Bytes bs) = Init-F.Bytes bs
  numbered_init (Init-F.Parts parts) = Init-F.Parts (map (λ part. (renamed_ty r part.0, part.1)) parts)

  step-is : (x : Init-F Init) → renamed_init_step r x ≡ roll-Init (numbered_init x)
  unfolding opened.roll-Init denote.Hole.Carrier.roll
  step-is Init-F.Zero = refl
  step-is (Init-F.Int n) = refl
  step-is Init-F.Null = refl
  step-is (Init-F.Addr sym) = refl
  step-is (Init-F.Gep gep) = refl
  step-is (Init-F.Bytes bs) = refl
  step-is (Init-F.Parts parts) = refl

  abbrev bare : List (Ty × ((init : Init) × IsGivenSame init)) → List (Ty × Init)
  bare parts = map (λ (part : Ty × ((init : Init) × IsGivenSame init)). (part.0, part.1.0)) parts

  -- the bytes of parts
  abbrev given_by : LayoutParts → List (Ty × Init) → List (Ty × List ℕ)
  given_by layout parts = map (λ (part : Ty × Init). (part.0, bytes_given layout part.1)) parts

  parts-given : (parts : List (Ty × ((init : Init) × IsGivenSame init))) (bs : List ℕ)
      → fold (with_part renamed_layout) bs (given_by renamed_layout (map (λ (part : Ty × Init). (renamed_ty r part.0, part.1)) (map (λ (part : Ty × Init). (part.0, renamed_init r part.1)) (bare parts))))
      ≡ fold (with_part l) bs (given_by l (bare parts))
  parts-given [] bs = refl
  parts-given (part ∷ parts) bs =
      rw (part.1.1, part-same bs part.0 (bytes_given l part.1.0)) (parts-given parts (with_part l bs (part.0, bytes_given l part.1.0)))

  layer-given : (y : Init-F ((init : Init) × IsGivenSame init))
      → init_step renamed_layout (map-Init Init (List ℕ) (bytes_given renamed_layout) (numbered_init (map-Init Init Init (renamed_init r) (map-Init ((init : Init) × IsGivenSame init) Init (λ e. e.0) y))))
      ≡ init_step l (map-Init Init (List ℕ) (bytes_given l) (map-Init ((init : Init) × IsGivenSame init) Init (λ e. e.0) y))
  layer-given Init-F.Zero = refl
  layer-given (Init-F.Int n) = refl
  layer-given Init-F.Null = refl
  layer-given (Init-F.Addr sym) = rw (address-same sym) refl
  layer-given (Init-F.Gep gep) = rw (inner-address-same gep) refl
  layer-given (Init-F.Bytes bs) = refl
  layer-given (Init-F.Parts parts) = parts-given parts []

  given-same : (init : Init) → bytes_given renamed_layout (renamed_init r init) ≡ bytes_given l init
  given-same = ind-Init IsGivenSame (λ x y is.
      ap (bytes_given renamed_layout) (fold-roll-Init Init (renamed_init_step r) x ∙ step-is (map-Init Init Init (renamed_init r) x))
      ∙ fold-roll-Init (List ℕ) (init_step renamed_layout) (numbered_init (map-Init Init Init (renamed_init r) x))
      ∙ ap (λ (z : Init-F Init). init_step renamed_layout (map-Init Init (List ℕ) (bytes_given renamed_layout) (numbered_init (map-Init Init Init (renamed_init r) z)))) (flip is)
      ∙ layer-given y
      ∙ ap (λ (z : Init-F Init). init_step l (map-Init Init (List ℕ) (bytes_given l) z)) is
      ∙ flip (fold-roll-Init (List ℕ) (init_step l) x))

  init-same : (ty : Ty) (init : Init) → bytes_of_init renamed_layout (renamed_ty r ty) (renamed_init r init) ≡ bytes_of_init l ty init
  init-same ty init = rw (size-in-same ty, given-same init) refl

  -- ---- the opening

  global-same : (bs : List ℕ) (global : GlobalVar) → with_global renamed_layout bs (renamed_global r global) ≡ with_global l bs global
  global-same bs global = rw (address-same global.sym, init-same global.ty global.init) refl

  globals-same : (bs : List ℕ) (globals : List GlobalVar) → fold (with_global renamed_layout) bs (map (renamed_global r) globals) ≡ fold (with_global l) bs globals
  globals-same bs [] = refl
  globals-same bs (global ∷ globals) =
      ap (λ (taken : List ℕ). fold (with_global renamed_layout) taken (map (renamed_global r) globals)) (global-same bs global) ∙ globals-same (with_global l bs global) globals

  pub opening-same : (globals : List GlobalVar) → opening renamed_layout (map (renamed_global r) globals) ≡ record (opening l globals) { places = map (renamed_span r) l.globals }
  opening-same globals = rw (globals-same [] globals) refl

-- the globals of a module stand where they stood
pub spans-same : (r : Renaming) (apart : IsApart r.type_id) (types : List (TypeId × Ty)) (taken : ℕ) (globals : List GlobalVar)
    → spans_from (map (renamed_named r) types) taken (map (renamed_global r) globals) ≡ map (renamed_span r) (spans_from types taken globals)
spans-same r apart types taken [] = refl
spans-same r apart types taken (global ∷ globals) =
    rw (size-same r apart types global.ty) (ap (λ (spans : List Span). renamed_span r (span_at types taken global) ∷ spans) (spans-same r apart types (end_of (span_at types taken global)) globals))
