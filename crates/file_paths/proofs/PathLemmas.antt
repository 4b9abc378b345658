-- The names that are cut from a path's bytes are names.
use Rattle.std.proofs.Common.{◌≡◌, refl, sym, ap, subst, ◌∙◌, ℕ, ◌==◌, ◌+◌, ◌<◌, ◌≤◌, zero, suc}
use Rattle.std.proofs.Common.{Some, length, drop, arith, Bool, true, false, cond, List, [], ◌∷◌}
use Rattle.std.proofs.Common.{◌++◌, append-nil}
use Rattle.std.proofs.lemmas.List.Elements.{filter-append}
use Rattle.std.proofs.lemmas.List.Concat.{flat_map-append}
use Rattle.std.proofs.lemmas.List.Splits.{length-slice_split}
use Rattle.std.proofs.lemmas.Bool.Decides.{nat_tests}
use Rattle.std.proofs.lemmas.Bool.{or_parts}
use Rattle.std.specs.Cmp.{first_so, second_so}
use Rattle.std.specs.Prelude.{filter, slice_index, not, ◌&&◌, ◌||◌}
use Rattle.std.specs.List.{slice_get, slice_split, onto_first, list_any, list_all, count_by}
use Rattle.label_base.specs.Text.{is_nonempty}
use Rattle.file_paths.specs.Path.{Path, is_slash, is_name, is_name_byte, are_names, path_names}
use Rattle.file_paths.specs.Path.{with_slashes, is_dot_part}
use Rattle.file_paths.specs.PathText.{IsNormal, begins_plainly, is_plain_path}

by_slash : (b : ℕ) (pieces : List (List ℕ)) (v : Bool) → (b == 47) ≡ v → (b == 0) ≡ false
    → list_all (list_all is_name_byte) pieces ≡ true
    → list_all (list_all is_name_byte) (cond v ([] ∷ pieces) (onto_first b pieces)) ≡ true
by_slash b pieces true e n ih = ih
by_slash b [] false e n ih = rw (e, n) refl
by_slash b (p ∷ ps) false e n ih = rw (e, n) ih

-- the pieces have no slash, and no NUL where the bytes have none
pieces_ok : (bytes : List ℕ) → list_any (λ b. b == 0) bytes ≡ false
    → list_all (list_all is_name_byte) (slice_split is_slash bytes) ≡ true
pieces_ok [] h = refl
pieces_ok (b ∷ bs) h = by_slash b (slice_split is_slash bs) (b == 47) refl (or_parts _ _ h).0
    (pieces_ok bs (or_parts (b == 0) _ h).1)

pub both : (x y z : Bool) → (x && y) ≡ true → (y ≡ true → z ≡ true) → (x && z) ≡ true
both true y z h f = f h
both false y z h f = h

kept_ok : (pieces : List (List ℕ)) → list_all (list_all is_name_byte) pieces ≡ true
    → are_names (filter is_nonempty pieces) ≡ true
kept_ok [] h = refl
kept_ok ([] ∷ pieces) h = kept_ok pieces h
kept_ok ((b ∷ bs) ∷ pieces) h =
    both (list_all is_name_byte (b ∷ bs)) (list_all (list_all is_name_byte) pieces)
    (are_names (filter is_nonempty pieces)) h (kept_ok pieces)

pub names_ok : (bytes : List ℕ) → list_any (λ b. b == 0) bytes ≡ false
    → are_names (path_names bytes) ≡ true
names_ok bytes h = kept_ok (slice_split is_slash bytes) (pieces_ok bytes h)

-- ---- the text of a path, cut again

never_none : (b : ℕ) (v : Bool) (pieces : List (List ℕ))
    → cond v ([] ∷ pieces) (onto_first b pieces) ≡ [] → ⊥
never_none b true pieces h = cc
never_none b false [] h = cc
never_none b false (p ∷ ps) h = cc

some_piece : (bytes : List ℕ) → slice_split is_slash bytes ≡ [] → ⊥
some_piece [] h = cc
some_piece (b ∷ bs) h = never_none b (b == 47) (slice_split is_slash bs) h

onto_some : (b : ℕ) (v : Bool) (xs ys : List (List ℕ)) → (xs ≡ [] → ⊥)
    → cond v ([] ∷ (xs ++ ys)) (onto_first b (xs ++ ys)) ≡ cond v ([] ∷ xs) (onto_first b xs) ++ ys
onto_some b true xs ys h = refl
onto_some b false [] ys h = absurd (h refl)
onto_some b false (x ∷ xs) ys h = refl

-- a slash parts the pieces
cut_at_slash : (xs ys : List ℕ) → slice_split is_slash (xs ++ 47 ∷ ys) ≡ slice_split is_slash xs
    ++ slice_split is_slash ys
cut_at_slash [] ys = refl
cut_at_slash (x ∷ xs) ys =
    ap (λ ps. cond (x == 47) ([] ∷ ps) (onto_first x ps)) (cut_at_slash xs ys)
    ∙ onto_some x (x == 47) (slice_split is_slash xs) (slice_split is_slash ys) (some_piece xs)

names_around : (xs ys : List ℕ) → path_names (xs ++ 47 ∷ ys) ≡ path_names xs ++ path_names ys
names_around xs ys = ap (λ ps. filter is_nonempty ps) (cut_at_slash xs ys)
    ∙ filter-append is_nonempty (slice_split is_slash xs) (slice_split is_slash ys)

pub not_slash : (b : ℕ) → is_name_byte b ≡ true → (b == 47) ≡ false
not_slash b h = apart (b == 47) (not (b == 0)) h
  where
    apart : (x y : Bool) → (not x && y) ≡ true → x ≡ false
    apart true y h = cc
    apart false y h = refl

one_piece : (bytes : List ℕ) → list_all is_name_byte bytes ≡ true → slice_split is_slash bytes
    ≡ bytes ∷ []
one_piece [] h = refl
one_piece (b ∷ bs) h =
    rw (not_slash b (first_so _ _ h), one_piece bs (second_so (is_name_byte b) _ h)) refl

pub name_bytes : (name : List ℕ) → is_name name ≡ true → list_all is_name_byte name ≡ true
name_bytes [] h = refl
name_bytes (b ∷ bs) h = h

one_name : (name : List ℕ) → is_name name ≡ true → path_names name ≡ name ∷ []
one_name [] h = cc
one_name (b ∷ bs) h = ap (λ ps. filter is_nonempty ps) (one_piece (b ∷ bs) h)

pub names_behind : (xs : List ℕ) (names : Path) → are_names names ≡ true
    → path_names (xs ++ with_slashes names) ≡ path_names xs ++ names
names_behind xs [] h = ap path_names (append-nil xs) ∙ sym (append-nil (path_names xs))
names_behind xs (n ∷ ns) h =
    names_around xs (n ++ with_slashes ns)
    ∙ ap (λ ps. path_names xs ++ ps) (names_behind n ns (second_so (is_name n) _ h)
    ∙ ap (λ ps. ps ++ ns) (one_name n (first_so (is_name n) _ h)))

-- the text of names is cut into those names
pub names_back : (names : Path) → are_names names ≡ true → path_names (with_slashes names) ≡ names
names_back names h = names_behind [] names h

pub names_pushed : (text name : List ℕ) → is_name name ≡ true → path_names (text ++ 47 ∷ name)
    ≡ path_names text ++ name ∷ []
names_pushed text name h = names_around text name
    ∙ ap (λ ps. path_names text ++ ps) (one_name name h)

pub text_pushed : (names : Path) (name : List ℕ) → with_slashes (names ++ name ∷ []) ≡ with_slashes
    names ++ 47 ∷ name
text_pushed names name = flat_map-append (λ n. 47 ∷ n) names (name ∷ [])
    ∙ ap (λ t. with_slashes names ++ 47 ∷ t) (append-nil name)

pub names_one_more : (names : Path) (name : List ℕ) → are_names names ≡ true → is_name name ≡ true
    → are_names (names ++ name ∷ []) ≡ true
names_one_more [] name h t = rw t refl
names_one_more (n ∷ ns) name h t =
    rw (first_so (is_name n) _ h) (names_one_more ns name (second_so (is_name n) _ h) t)

pieces_behind : (xs : List ℕ) (names : Path) → are_names names ≡ true
    → slice_split is_slash (xs ++ with_slashes names) ≡ slice_split is_slash xs ++ names
pieces_behind xs [] h = ap (slice_split is_slash) (append-nil xs)
    ∙ sym (append-nil (slice_split is_slash xs))
pieces_behind xs (n ∷ ns) h =
    cut_at_slash xs (n ++ with_slashes ns)
    ∙ ap (λ ps. slice_split is_slash xs ++ ps)
    (pieces_behind n ns (second_so (is_name n) _ h)
    ∙ ap (λ ps. ps ++ ns) (one_piece n (name_bytes n (first_so (is_name n) _ h))))

-- ---- a normal text

pub normal_of_names : (names : Path) → are_names names ≡ true → IsNormal (with_slashes names)
normal_of_names names h = (ap with_slashes (names_back names h), rw (names_back names h) h)

pub normal_pushed : (text name : List ℕ) → IsNormal text → is_name name ≡ true
    → IsNormal (text ++ 47 ∷ name)
normal_pushed text name (t, h) g =
    let e = names_pushed text name g in (
      ap with_slashes e ∙ text_pushed (path_names text) name ∙ ap (λ xs. xs ++ 47 ∷ name) t,
      ap are_names e ∙ names_one_more (path_names text) name h g,
    )

pub slashes_counted : (text : List ℕ) → IsNormal text → count_by is_slash text
    ≡ length (path_names text)
slashes_counted text (t, h) =
    let cut : slice_split is_slash text ≡ [] ∷ path_names text = ap (slice_split is_slash) (sym t)
    ∙ pieces_behind [] (path_names text) h in
    let long : length (slice_split is_slash text) ≡ count_by is_slash text + 1 =
    length-slice_split is_slash text in
    let longer : length (slice_split is_slash text) ≡ suc (length (path_names text)) =
    ap length cut in
    omega arith

behind_first_slash : (names : Path) → are_names names ≡ true → 0 < length names
    → slice_split is_slash (drop 1 (with_slashes names)) ≡ names
behind_first_slash [] h g = absurd (omega arith)
behind_first_slash (n ∷ ns) h g = pieces_behind n ns (second_so (is_name n) _ h)
    ∙ ap (λ ps. ps ++ ns) (one_piece n (name_bytes n (first_so (is_name n) _ h)))

pub names_behind_first : (text : List ℕ) → IsNormal text → 0 < length (path_names text)
    → slice_split is_slash (drop 1 text) ≡ path_names text
names_behind_first text (t, h) g = ap (λ xs. slice_split is_slash (drop 1 xs)) (sym t)
    ∙ behind_first_slash (path_names text) h g

-- ---- pieces one after another

pub pieces_behind_one : (pieces : List (List ℕ)) (k : ℕ) (piece : List ℕ) (rest : List (List ℕ))
    → drop k pieces ≡ piece ∷ rest → drop (suc k) pieces ≡ rest
pieces_behind_one [] zero piece rest h = cc
pieces_behind_one [] (suc k) piece rest h = cc
pieces_behind_one (p ∷ ps) zero piece rest h = cc
pieces_behind_one (p ∷ ps) (suc k) piece rest h = pieces_behind_one ps k piece rest h

pub piece_found : (pieces : List (List ℕ)) (k : ℕ) (piece : List ℕ) (rest : List (List ℕ))
    → drop k pieces ≡ piece ∷ rest → slice_get pieces k ≡ Some piece
piece_found [] zero piece rest h = cc
piece_found [] (suc k) piece rest h = cc
piece_found (p ∷ ps) zero piece rest h = cc
piece_found (p ∷ ps) (suc k) piece rest h = piece_found ps k piece rest h

pub none_behind : (pieces : List (List ℕ)) (k : ℕ) → drop k pieces ≡ [] → length pieces ≤ k
none_behind [] k h = omega arith
none_behind (p ∷ ps) zero h = cc
none_behind (p ∷ ps) (suc k) h = let r = none_behind ps k h in omega arith

-- ---- a plain text

-- the pieces with a slash between them
abbrev glued : List (List ℕ) → List ℕ
glued [] = []
glued (p ∷ ps) = p ++ with_slashes ps

is_47 : (b : ℕ) → (b == 47) ≡ true → b ≡ 47
is_47 b e = grind (arith, nat_tests)

glued_onto : (b : ℕ) (v : Bool) (pieces : List (List ℕ)) → (b == 47) ≡ v → (pieces ≡ [] → ⊥)
    → glued (cond v ([] ∷ pieces) (onto_first b pieces)) ≡ b ∷ glued pieces
glued_onto b v [] e h = absurd (h refl)
glued_onto b true (p ∷ ps) e h = ap (λ x. x ∷ (p ++ with_slashes ps)) (sym (is_47 b e))
glued_onto b false (p ∷ ps) e h = refl

glued_again : (bytes : List ℕ) → glued (slice_split is_slash bytes) ≡ bytes
glued_again [] = refl
glued_again (b ∷ bs) = glued_onto b (b == 47) (slice_split is_slash bs) refl (some_piece bs)
    ∙ ap (λ xs. b ∷ xs) (glued_again bs)

abbrev is_plain_piece : List ℕ → Bool
is_plain_piece [] = false
is_plain_piece (b ∷ bs) = not (b == 46)

abbrev are_plain_behind : List (List ℕ) → Bool
are_plain_behind [] = true
are_plain_behind (p ∷ ps) = list_all is_plain_piece ps

first_plain_at : (b : ℕ) (v : Bool) (pieces : List (List ℕ)) → (pieces ≡ [] → ⊥)
    → (not v && not (b == 46)) ≡ true
    → are_plain_behind (cond v ([] ∷ pieces) (onto_first b pieces)) ≡ true
    → list_all is_plain_piece (cond v ([] ∷ pieces) (onto_first b pieces)) ≡ true
first_plain_at b true pieces h t g = cc
first_plain_at b false [] h t g = absurd (h refl)
first_plain_at b false (p ∷ ps) h t g = rw (t, g) refl

first_plain : (bytes : List ℕ) → begins_plainly bytes ≡ true
    → are_plain_behind (slice_split is_slash bytes) ≡ true
    → list_all is_plain_piece (slice_split is_slash bytes) ≡ true
first_plain [] h g = cc
first_plain (b ∷ bs) h g = first_plain_at b (b == 47) (slice_split is_slash bs) (some_piece bs) h g

plain_onto : (b : ℕ) (v : Bool) (pieces : List (List ℕ))
    → (v ≡ true → list_all is_plain_piece pieces ≡ true) → are_plain_behind pieces ≡ true
    → are_plain_behind (cond v ([] ∷ pieces) (onto_first b pieces)) ≡ true
plain_onto b true pieces f g = f refl
plain_onto b false [] f g = refl
plain_onto b false (p ∷ ps) f g = g

where_slash : (v t : Bool) → (not v || t) ≡ true → v ≡ true → t ≡ true
where_slash true t h e = h
where_slash false t h e = cc

plain_behind : (bytes : List ℕ) → is_plain_path bytes ≡ true
    → are_plain_behind (slice_split is_slash bytes) ≡ true
plain_behind [] h = refl
plain_behind (b ∷ bs) h =
    let rest = plain_behind bs (second_so (not (b == 47) || begins_plainly bs) _ h) in
    plain_onto b (b == 47) (slice_split is_slash bs)
    (λ e. first_plain bs
    (where_slash (b == 47) (begins_plainly bs)
    (first_so (not (b == 47) || begins_plainly bs) _ h) e) rest)
    rest

all_kept : (pieces : List (List ℕ)) → list_all is_plain_piece pieces ≡ true
    → filter is_nonempty pieces ≡ pieces
all_kept [] h = refl
all_kept ([] ∷ ps) h = cc
all_kept ((b ∷ bs) ∷ ps) h = ap (λ ks. (b ∷ bs) ∷ ks) (all_kept ps (second_so (not (b == 46)) _ h))

no_dot : (v s t : Bool) → not v ≡ true → ((v && s) || (v && t)) ≡ false
no_dot true s t h = cc
no_dot false s t h = refl

no_dots : (pieces : List (List ℕ)) → list_all is_plain_piece pieces ≡ true
    → list_any is_dot_part pieces ≡ false
no_dots [] h = refl
no_dots ([] ∷ ps) h = cc
no_dots ((b ∷ bs) ∷ ps) h = rw (no_dot (b == 46) _ _ (first_so (not (b == 46)) _ h))
    (no_dots ps (second_so (not (b == 46)) _ h))

glued_behind : (pieces : List (List ℕ)) → (pieces ≡ [] → ⊥)
    → with_slashes pieces ≡ 47 ∷ glued pieces
glued_behind [] h = absurd (h refl)
glued_behind (p ∷ ps) h = refl

plain_pieces : (bytes : List ℕ) → is_plain_path (47 ∷ bytes) ≡ true
    → list_all is_plain_piece (slice_split is_slash bytes) ≡ true
plain_pieces bytes h = first_plain bytes (first_so (begins_plainly bytes) _ h)
    (plain_behind bytes (second_so (begins_plainly bytes) _ h))

plain_normal_at : (bytes : List ℕ) → is_plain_path (47 ∷ bytes) ≡ true
    → with_slashes (path_names (47 ∷ bytes)) ≡ 47 ∷ bytes
plain_normal_at bytes h =
    ap with_slashes (all_kept (slice_split is_slash bytes) (plain_pieces bytes h))
    ∙ glued_behind (slice_split is_slash bytes) (some_piece bytes)
    ∙ ap (λ xs. 47 ∷ xs) (glued_again bytes)

plain_undotted_at : (bytes : List ℕ) → is_plain_path (47 ∷ bytes) ≡ true
    → list_any is_dot_part (path_names (47 ∷ bytes)) ≡ false
plain_undotted_at bytes h =
    ap (list_any is_dot_part) (all_kept (slice_split is_slash bytes) (plain_pieces bytes h))
    ∙ no_dots (slice_split is_slash bytes) (plain_pieces bytes h)

-- a plain text that begins with a slash is normal, and has no dots for a component
pub plain_normal : (bytes : List ℕ) → is_plain_path bytes ≡ true → slice_index bytes 0 ≡ 47
    → list_any (λ b. b == 0) bytes ≡ false → IsNormal bytes
plain_normal [] h s n = cc
plain_normal (b ∷ bs) h s n =
    let e = subst (λ x. is_plain_path (x ∷ bs) ≡ true) s h in (
      subst (λ x. with_slashes (path_names (x ∷ bs)) ≡ x ∷ bs) (sym s) (plain_normal_at bs e),
      names_ok (b ∷ bs) n,
    )

pub plain_undotted : (bytes : List ℕ) → is_plain_path bytes ≡ true → slice_index bytes 0 ≡ 47
    → list_any is_dot_part (path_names bytes) ≡ false
plain_undotted [] h s = cc
plain_undotted (b ∷ bs) h s =
    let e = subst (λ x. is_plain_path (x ∷ bs) ≡ true) s h in
    subst (λ x. list_any is_dot_part (path_names (x ∷ bs)) ≡ false) (sym s) (plain_undotted_at bs e)
