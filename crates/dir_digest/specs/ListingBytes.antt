-- The bytes of a listing: fields, each with a NUL behind it. The format is this project's own.
use Rattle.std.specs.Prelude.{◌≡◌, ℕ, ◌<◌, ◌^◌, ◌==◌, Bool, true, false, List, [], ◌∷◌, ◌++◌}
use Rattle.std.specs.Prelude.{length, Option, Some, None, decimal}
use Rattle.std.specs.List.{AllByRecursion, flat_map, list_all, list_any}
use Rattle.file_paths.specs.Path.{are_names, path_text}
use Rattle.label_base.specs.Kind.{names_of}
use Rattle.label_base.specs.declared.kind.EntryKind.{EntryKind}
use Rattle.find_records.specs.declared.format.Format.{Format}
use Rattle.find_records.specs.declared.format.Format.TheVariants.{One, Two}
use Rattle.context_syntax.specs.Context.{IsContext, context_text, is_word}
use Rattle.path_subs.specs.Subs.{SubValue}
use Rattle.spec_reader.specs.SpecValue.{is_spec_kind}
use Rattle.spec_reader.specs.declared.line.TheConstants.{NO_CONTEXT}
use Rattle.spec_reader.specs.declared.spec.Decision.{Decision}
use Rattle.spec_reader.specs.declared.spec.Decision.TheVariants.{Give, Leave}
use Rattle.dir_digest.specs.Listing.{Line, Listing}
use Rattle.dir_digest.specs.declared.fields.TheConstants.{FORCE_FIELD, MARK_ONE, MARK_TWO}
use Rattle.dir_digest.specs.declared.fields.TheConstants.{TYPE_FIELD}

abbrev pub ListingFields : Type 0
ListingFields = List (List ℕ)

-- how many there are, and then the fields of each
abbrev pub counted : {A : Type 0} → (A → ListingFields) → List A → ListingFields
counted fields_of xs = decimal (length xs) ∷ flat_map fields_of xs

abbrev pub name_field : List ℕ → ListingFields
name_field name = name ∷ []

-- the mark of the format
abbrev pub listing_mark : Format → List ℕ
listing_mark One = MARK_ONE.now
listing_mark Two = MARK_TWO.now

-- the mode, and where labels change by type alone the customizable types
abbrev pub mode_fields : (force : Bool) → (types : ListingFields) → ListingFields
mode_fields true types = FORCE_FIELD.now ∷ []
mode_fields false types = TYPE_FIELD.now ∷ counted name_field types

abbrev pub sub_fields : SubValue → ListingFields
sub_fields sub = path_text sub.source ∷ path_text sub.target ∷ []

-- the type field, empty where there is none
abbrev pub kind_field : Option EntryKind → List ℕ
kind_field None = []
kind_field (Some kind) = (names_of kind).type_field

abbrev pub decision_field : Decision → List ℕ
decision_field Leave = NO_CONTEXT.now
decision_field (Give context) = context_text context

abbrev pub line_fields : Line → ListingFields
line_fields line = line.text ∷ kind_field line.kind ∷ decision_field line.decision ∷ []

-- what the listings of all directories have in common
abbrev pub shared_fields : (force : Bool) → (types : ListingFields) → (first second : List SubValue)
    → ListingFields
shared_fields force types first second =
    mode_fields force types ++ (counted sub_fields first ++ counted sub_fields second)

unfoldable pub listing_fields : Listing → ListingFields
listing_fields l =
    listing_mark l.format ∷ path_text l.path
    ∷ (shared_fields l.force l.types l.first l.second ++ counted line_fields l.lines)

-- each field with a NUL behind it
abbrev pub field_bytes : ListingFields → List ℕ
field_bytes fields = flat_map (λ field. field ++ 0 ∷ []) fields

unfoldable pub listing_bytes : Listing → List ℕ
listing_bytes l = field_bytes (listing_fields l)

-- ---- what a listing of accepted files is made of

abbrev pub has_nul : List ℕ → Bool
has_nul bytes = list_any (λ b. b == 0) bytes

abbrev pub IsNamesSub : SubValue → Type 0
IsNamesSub sub = (are_names sub.source ≡ true) × (are_names sub.target ≡ true)

abbrev pub IsContextDecision : Decision → Type 0
IsContextDecision Leave = Unit {0}
IsContextDecision (Give context) = IsContext context

-- the text is without a NUL, the kind is one that a type field can name, and the context is one
pub record IsLine (line : Line) : Type 0 where
  pub text : has_nul line.text ≡ false
  pub kind : is_spec_kind line.kind ≡ true
  pub decision : IsContextDecision line.decision

-- so many that they can be counted, and each is one
abbrev pub AreCountable : {A : Type 0} → (A → Type 0) → List A → Type 0
AreCountable Is xs = (length xs < 2 ^ 64) × AllByRecursion Is xs

-- by force no types are listed
abbrev pub AreTypes : (force : Bool) → (types : ListingFields) → Type 0
AreTypes true types = types ≡ []
AreTypes false types = (length types < 2 ^ 64) × (list_all is_word types ≡ true)

pub record IsListing (l : Listing) : Type 0 where
  pub path : are_names l.path ≡ true
  pub types : AreTypes l.force l.types
  pub first : AreCountable IsNamesSub l.first
  pub second : AreCountable IsNamesSub l.second
  pub lines : AreCountable IsLine l.lines
