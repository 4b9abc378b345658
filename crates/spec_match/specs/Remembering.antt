-- What look-ups remember. An entry that is 0 is not known, and any other is right behind every text
-- for which its list is.
use Rattle.std.specs.Prelude.{◌≡◌, ℕ, zero, suc, ◌+◌, ◌*◌, ◌/◌, ◌%◌, ◌<◌, Bool, false, true, List}
use Rattle.std.specs.Prelude.{[], ◌∷◌, ◌++◌, Option, Some, None, IfSome, length, option_and_then}
use Rattle.std.specs.Prelude.{replicate, slice_get, slice_index}
use Rattle.std.specs.List.{All, slice_index_or}
use Rattle.label_base.specs.declared.kind.Asked.{Asked}
use Rattle.label_base.specs.declared.kind.Asked.TheVariants.{Any, Of}
use Rattle.label_base.specs.declared.kind.EntryKind.TheVariants as kind
use Rattle.label_base.specs.Kind.{kind_number}
use Rattle.pattern_syntax.specs.Tree.{Tree}
use Rattle.spec_reader.specs.SpecValue.{SpecValue}
use Rattle.spec_match.specs.Alive.{Alive, AreAlive, IsOwn, LeadsBy, alive_list}
use Rattle.spec_match.specs.Listed.{IsListed, Stays}
use Rattle.spec_match.specs.Written.{Written}
use Rattle.spec_match.specs.LastMatch.{Decides, last_index, last_match}

-- whether lists are cut; those that were reached; for each of them and each byte the number of the
-- list to which the byte leads; for each of them and each kind that may be asked for one more than
-- the code of the answer; whether whatever follows leaves it as it is, as far as that is known
pub record Kept : Type 0 where
  pub cuts : Bool
  pub lists : List (List Alive)
  pub next : List ℕ
  pub answers : List ℕ
  pub stays : List Bool

abbrev pub kept : Bool → List (List Alive) → List ℕ → List ℕ → List Bool → Kept
kept cuts lists next answers stays = record {
  cuts = cuts;
  lists = lists;
  next = next;
  answers = answers;
  stays = stays;
}

-- with one list more, of which nothing is known
abbrev pub with_list : Kept → List Alive → Kept
with_list k list =
    kept k.cuts (k.lists ++ list ∷ []) (k.next ++ replicate 256 0) (k.answers ++ replicate 9 0)
    (k.stays ++ false ∷ [])

-- each entry that isn't 0 is right for its place
pub record Remembers (IsRight : ℕ → ℕ → Type 0) (row : List ℕ) : Type 0 where
  pub entry : (p v : ℕ) → slice_index row p ≡ suc v → IsRight p v

-- `IsFor` says what lists are for which text
pub record HasStep (IsFor : List ℕ → List Alive → Type 0) (lists : List (List Alive))
    (from byte to : ℕ) : Type 0 where
  pub from_within : from < length lists
  pub to_within : to < length lists
  pub leads : LeadsBy IsFor (byte ∷ []) (alive_list lists from) (alive_list lists to)

abbrev pub IsStep : (List ℕ → List Alive → Type 0) → List (List Alive) → ℕ → ℕ → Type 0
IsStep IsFor lists p v = HasStep IsFor lists (p / 256) (p % 256) (suc v)

abbrev pub asked_number : Asked → ℕ
asked_number Any = 0
asked_number (Of k) = kind_number k + 1

abbrev pub asked_numbered : ℕ → Asked
asked_numbered zero = Any
asked_numbered (suc zero) = Of kind.Regular
asked_numbered (suc (suc zero)) = Of kind.Directory
asked_numbered (suc (suc (suc zero))) = Of kind.Link
asked_numbered (suc (suc (suc (suc zero)))) = Of kind.Pipe
asked_numbered (suc (suc (suc (suc (suc zero))))) = Of kind.Socket
asked_numbered (suc (suc (suc (suc (suc (suc zero)))))) = Of kind.Block
asked_numbered (suc (suc (suc (suc (suc (suc (suc zero))))))) = Of kind.Char
asked_numbered (suc (suc (suc (suc (suc (suc (suc (suc n)))))))) = Of kind.Other

-- what a look-up answers
pub record IsAnswer (asked : Asked) (text : List ℕ) (specs : List SpecValue) (found : Option ℕ)
    : Type 0 where
  pub within : IfSome found (λ i. i < length specs)
  pub index : found ≡ last_index asked text specs
  pub member : option_and_then (slice_get specs) found ≡ last_match asked text specs
  pub decides : Decides asked text specs found

abbrev pub decoded : ℕ → Option ℕ
decoded zero = None
decoded (suc i) = Some i

pub record HasAnswer (IsFor : List ℕ → List Alive → Type 0) (specs : List SpecValue)
    (lists : List (List Alive)) (number asked code : ℕ) : Type 0 where
  pub within : number < length lists
  pub answer : (text : List ℕ) → IsFor text (alive_list lists number)
      → IsAnswer (asked_numbered asked) text specs (decoded code)

abbrev pub IsListNoted : (List ℕ → List Alive → Type 0) → List SpecValue → List (List Alive)
    → ℕ → ℕ → Type 0
IsListNoted IsFor specs lists p v = HasAnswer IsFor specs lists (p / 9) (p % 9) v

-- each list of which it is told stays
abbrev pub AreStaying : (List ℕ → List Alive → Type 0) → List (List Alive) → List Bool → Type 0
AreStaying IsFor lists row =
    (i : ℕ) → i < length lists → slice_index_or row i false ≡ true
    → Stays IsFor (alive_list lists i)

-- list 0 has all specifications, and what is remembered is right
pub record IsTableOf (patterns : List Tree) (specs : List SpecValue) (k : Kept) : Type 0 where
  pub own : (i : ℕ) → i < length k.lists → All (IsOwn patterns) (alive_list k.lists i)
  pub first : 0 < length k.lists → AreAlive patterns [] (length patterns) (alive_list k.lists 0)
  pub rows : length k.next ≡ 256 * length k.lists
  pub answer_rows : length k.answers ≡ 9 * length k.lists
  pub steps : Remembers (IsStep (IsListed k.cuts patterns specs) k.lists) k.next
  pub answers : Remembers (IsListNoted (IsListed k.cuts patterns specs) specs k.lists) k.answers
  pub stays_rows : length k.stays ≡ length k.lists
  pub stays : AreStaying (IsListed k.cuts patterns specs) k.lists k.stays

-- further lists behind the others
abbrev pub IsGrown : List (List Alive) → List (List Alive) → Type 0
IsGrown old new = (more : List (List Alive)) × (new ≡ old ++ more)

-- the list that is being written may become the next one
pub record CanBeAdded (patterns : List Tree) (w : Written) : Type 0 where
  pub own : All (IsOwn patterns) w.draft
  pub first : length w.lists ≡ 0 → AreAlive patterns [] (length patterns) w.draft
