-- Listings from what is spelled once.
use Rattle.std.proofs.Common.{◌≡◌, ◌∙◌, ap, ap₂, sym, refl, subst, ℕ, ◌+◌, suc, zero, Bool, true}
use Rattle.std.proofs.Common.{false, cond, List, [], ◌∷◌, ◌++◌, take, length, map, filter, Some}
use Rattle.std.proofs.Common.{option_map, slice_get, decimal, get_or, append_assoc, length-append}
use Rattle.std.proofs.Common.{arith}
use Rattle.std.specs.List.{enumerate_from, flat_map}
use Rattle.std.proofs.lemmas.Grind.{flat_map-append}
use Rattle.std.proofs.lemmas.List.{length-map}
use Rattle.std.proofs.Math.Seq.{get_or-append_seam}
use Rattle.file_paths.specs.Path.{Path, path_text}
use Rattle.path_subs.specs.Subs.{plain, substituted}
use Rattle.spec_reader.specs.SpecValue.{SpecValue}
use Rattle.spec_match.specs.Relevant.{can_decide, relevant_at}
use Rattle.dir_digest.specs.Listing.{listing_line, relevant}
use Rattle.dir_digest.specs.ListingBytes.{counted, field_bytes, listing_fields, line_fields}
use Rattle.dir_digest.specs.ListingBytes.{listing_bytes, listing_mark, mode_fields, shared_fields}
use Rattle.dir_digest.specs.ListingBytes.{sub_fields}
use Rattle.dir_digest.specs.Spelled.{nul_ended, text_itself, spec_bytes, specs_bytes, texts_at}
use Rattle.dir_digest.specs.Basis.{Basis, listing_on}

-- fields behind others
fields_behind : (first rest : List (List ℕ)) → field_bytes (first ++ rest) ≡ field_bytes first
    ++ field_bytes rest
fields_behind first rest = flat_map-append (λ field. field ++ 0 ∷ []) first rest

-- the fields of all specifications are those of each
lines_bytes : (specs : List SpecValue) → field_bytes (flat_map line_fields (map listing_line specs))
    ≡ flat_map spec_bytes specs
lines_bytes [] = refl
lines_bytes (spec ∷ specs) =
    fields_behind (line_fields (listing_line spec)) (flat_map line_fields (map listing_line specs))
    ∙ ap (λ rest. spec_bytes spec ++ rest) (lines_bytes specs)

lines_counted : (specs : List SpecValue)
    → field_bytes (counted line_fields (map listing_line specs)) ≡ specs_bytes specs
lines_counted specs = ap₂ (λ n rest. nul_ended (decimal n) ++ rest) (length-map specs listing_line)
    (lines_bytes specs)

texts_joined : (specs : List SpecValue) → flat_map text_itself (map spec_bytes specs)
    ≡ flat_map spec_bytes specs
texts_joined [] = refl
texts_joined (spec ∷ specs) = ap (λ rest. spec_bytes spec ++ rest) (texts_joined specs)

-- where no specification is left out
pub all_counted : (specs : List SpecValue) → nul_ended (decimal (length (map spec_bytes specs)))
    ++ flat_map text_itself (map spec_bytes specs) ≡ specs_bytes specs
all_counted specs = ap₂ (λ n rest. nul_ended (decimal n) ++ rest) (length-map specs spec_bytes)
    (texts_joined specs)

-- what is found at the indices of those that pass
record Picked (q : SpecValue → Bool) (texts : List (List ℕ)) (n : ℕ) (specs : List SpecValue) : Type
    0 where
  texts_are : texts_at texts (map (λ p. p.0) (filter (λ p. q p.1) (enumerate_from n specs)))
      ≡ flat_map spec_bytes (filter q specs)
  as_many : length (map (λ p. p.0) (filter (λ p. q p.1) (enumerate_from n specs)))
      ≡ length (filter q specs)

picked_step : (texts : List (List ℕ)) (n : ℕ) (spec : SpecValue) (indices : List ℕ)
    (rest : List SpecValue) (b : Bool)
    → get_or texts n [] ≡ spec_bytes spec → texts_at texts indices ≡ flat_map spec_bytes rest
    → texts_at texts (cond b (n ∷ indices) indices) ≡ flat_map spec_bytes
    (cond b (spec ∷ rest) rest)
picked_step texts n spec indices rest true e h = ap₂ (λ a b. a ++ b) e h
picked_step texts n spec indices rest false e h = h

pub map_cond : {A B : Type 0} (f : A → B) (b : Bool) (x : A) (xs : List A)
    → map f (cond b (x ∷ xs) xs) ≡ cond b (f x ∷ map f xs) (map f xs)
map_cond f true x xs = refl
map_cond f false x xs = refl

length_step : {A B : Type 0} (b : Bool) (x : A) (y : B) (xs : List A) (ys : List B)
    → length xs ≡ length ys → length (cond b (x ∷ xs) xs) ≡ length (cond b (y ∷ ys) ys)
length_step true x y xs ys h = ap suc h
length_step false x y xs ys h = h

picked : (q : SpecValue → Bool) (done : List (List ℕ)) (n : ℕ) (specs : List SpecValue)
    → n ≡ length done
    → Picked q (done ++ map spec_bytes specs) n specs
picked q done n [] e = record { texts_are = refl; as_many = refl }
picked q done n (spec ∷ specs) e =
    let texts = done ++ spec_bytes spec ∷ map spec_bytes specs in
    let more : n + 1 ≡ length (done ++ spec_bytes spec ∷ []) =
    omega (arith, e, length-append done (spec_bytes spec ∷ [])) in
    let rest : Picked q texts (n + 1) specs =
    subst (λ all. Picked q all (n + 1) specs)
    (append_assoc done (spec_bytes spec ∷ []) (map spec_bytes specs))
    (picked q (done ++ spec_bytes spec ∷ []) (n + 1) specs more) in
    let left = filter (λ p. q p.1) (enumerate_from (n + 1) specs) in
    let here : get_or texts n [] ≡ spec_bytes spec =
    ap (λ i. get_or texts i []) e ∙ get_or-append_seam done (spec_bytes spec) (map spec_bytes specs)
    [] in
    record {
      texts_are =
          ap (λ indices. texts_at texts indices) (map_cond (λ p. p.0) (q spec) (n, spec) left)
          ∙ picked_step texts n spec (map (λ p. p.0) left) (filter q specs) (q spec) here
          rest.texts_are;
      as_many =
          ap length (map_cond (λ p. p.0) (q spec) (n, spec) left)
          ∙ length_step (q spec) n spec (map (λ p. p.0) left) (filter q specs) rest.as_many;
    }

-- where only those are told whose language holds the path or something below it
pub found_counted : (path : Path) (specs : List SpecValue)
    → nul_ended (decimal (length (relevant_at path specs))) ++ texts_at (map spec_bytes specs)
    (relevant_at path specs)
    ≡ specs_bytes (filter (can_decide path) specs)
unfolding relevant_at
found_counted path specs =
    let found = picked (can_decide path) [] 0 specs refl in
    ap₂ (λ n rest. nul_ended (decimal n) ++ rest) found.as_many found.texts_are

-- the relevant specifications of a directory that isn't plain
pub all_relevant : (t : Basis) (texts : List (List ℕ)) (dir : Path) → texts ≡ map spec_bytes t.specs
    → plain t.first t.second dir ≡ false
    → nul_ended (decimal (length texts)) ++ flat_map text_itself texts ≡ specs_bytes
    (relevant t.first t.second t.specs dir)
unfolding relevant
all_relevant t texts dir e p =
    ap (λ texts. nul_ended (decimal (length texts)) ++ flat_map text_itself texts) e
    ∙ all_counted t.specs
    ∙ ap (λ b. specs_bytes (cond b (filter (can_decide (substituted t.first t.second dir)) t.specs)
    t.specs)) (sym p)

-- and of one that is
pub found_relevant : (t : Basis) (texts : List (List ℕ)) (found : List ℕ) (dir path : Path)
    → texts ≡ map spec_bytes t.specs
    → plain t.first t.second dir ≡ true → path ≡ substituted t.first t.second dir
    → found ≡ relevant_at path t.specs
    → nul_ended (decimal (length found)) ++ texts_at texts found ≡ specs_bytes
    (relevant t.first t.second t.specs dir)
unfolding relevant
found_relevant t texts found dir path e p same f =
    ap₂ (λ texts found. nul_ended (decimal (length found)) ++ texts_at texts found) e f
    ∙ found_counted path t.specs
    ∙ ap (λ path. specs_bytes (filter (can_decide path) t.specs)) same
    ∙ ap (λ b. specs_bytes (cond b (filter (can_decide (substituted t.first t.second dir)) t.specs)
    t.specs)) (sym p)

mode_listed : (force : Bool) (types : List (List ℕ)) → mode_fields force (cond force [] types)
    ≡ mode_fields force types
mode_listed true types = refl
mode_listed false types = refl

-- a listing from its pieces
pub listing_pieces : (t : Basis) (dir path : Path) (shared : List ℕ)
    → path ≡ substituted t.first t.second dir
    → shared ≡ field_bytes (shared_fields t.force t.types t.first t.second)
    → ((nul_ended (listing_mark t.format) ++ nul_ended (path_text path)) ++ shared) ++ specs_bytes
    (relevant t.first t.second t.specs dir) ≡ listing_bytes (listing_on t dir)
unfolding listing_bytes listing_fields
listing_pieces t dir path shared p s =
    let specs = specs_bytes (relevant t.first t.second t.specs dir) in
    let subs = counted sub_fields t.first ++ counted sub_fields t.second in
    let lines = counted line_fields (map listing_line (relevant t.first t.second t.specs dir)) in
    let listed : shared ++ specs ≡ field_bytes
    (shared_fields t.force (cond t.force [] t.types) t.first t.second ++ lines) =
    ap₂ (λ a b. a ++ b)
    (s ∙ ap (λ fields. field_bytes (fields ++ subs)) (sym (mode_listed t.force t.types)))
    (sym (lines_counted (relevant t.first t.second t.specs dir)))
    ∙ sym (fields_behind (shared_fields t.force (cond t.force [] t.types) t.first t.second) lines)
    in
    append_assoc (nul_ended (listing_mark t.format) ++ nul_ended (path_text path)) shared specs
    ∙ append_assoc (nul_ended (listing_mark t.format)) (nul_ended (path_text path))
    (shared ++ specs)
    ∙ ap₂ (λ top rest. nul_ended (listing_mark t.format) ++ (nul_ended (path_text top) ++ rest)) p
    listed

-- one specification more is spelled
pub map_next : {X Y : Type 0} (f : X → Y) (xs : List X) (i : ℕ) (y : Y)
    → Some y ≡ option_map f (slice_get xs i)
    → map f (take i xs) ++ y ∷ [] ≡ map f (take (i + 1) xs)
map_next f [] i y e = cc
map_next f (x ∷ xs) zero y e = cc
map_next f (x ∷ xs) (suc i) y e =
    let more : suc (i + 1) ≡ suc i + 1 = omega arith in
    ap (λ ys. f x ∷ ys) (map_next f xs i y e) ∙ ap (λ k. map f (take k (x ∷ xs))) more
