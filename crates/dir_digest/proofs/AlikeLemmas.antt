-- Equal listings decide alike.
use Rattle.std.proofs.Common.{◌≡◌, ◌∙◌, ap, sym, refl, subst, ℕ, Bool, true, false, ◌&&◌, cond}
use Rattle.std.proofs.Common.{List, [], ◌∷◌, ◌++◌, map, filter, Option, Some, None, option_map}
use Rattle.std.proofs.Common.{Result, Ok, Err, inl, inr, append_assoc, append-nil}
use Rattle.std.specs.List.{last_or, AllByRecursion}
use Rattle.std.proofs.lemmas.Bool.{and_parts}
use Rattle.std.proofs.lemmas.Grind.{flat_map-append}
use Rattle.file_paths.specs.Path.{Path, are_names, path_text, with_slashes}
use Rattle.label_base.specs.Kind.{applies}
use Rattle.label_base.specs.declared.kind.Asked.{Asked}
use Rattle.pattern_syntax.specs.Tree.{Tree}
use Rattle.pattern_syntax.specs.Language.{In, holds}
use Rattle.pattern_syntax.specs.Reading.{pattern_of}
use Rattle.pattern_syntax.specs.declared.pattern_fault.PatternWhy.{PatternWhy}
use Rattle.pattern_match.specs.States.{Below}
use Rattle.pattern_match.proofs.Holding.{holds_shows}
use Rattle.pattern_match.proofs.Quotients.{below_shows}
use Rattle.spec_reader.specs.SpecValue.{SpecValue}
use Rattle.spec_reader.specs.declared.spec.Decision.{Decision}
use Rattle.spec_match.specs.LastMatch.{fits, last_match}
use Rattle.spec_match.specs.Relevant.{can_decide}
use Rattle.path_subs.specs.Subs.{KeepsBelow, substituted, plain}
use Rattle.path_subs.proofs.PlainPaths.{plain_keeps}
use Rattle.dir_digest.specs.Alike.{AreAlike, decided_at, decision_of}
use Rattle.dir_digest.specs.Listing.{Line, Listing, listing_line, relevant}
use Rattle.dir_digest.specs.ListingBytes.{listing_bytes}
use Rattle.dir_digest.specs.Basis.{AreRead, IsReadSpec, Basis, listing_on}
use Rattle.dir_digest.proofs.ListingLemmas.{listing_same}
use Rattle.dir_digest.proofs.ReadLemmas.{each_filtered, read_listing}

-- a path at or below another is held only by what holds that one or something below it
in_below : (t : Tree) (top names : Path) → In t (path_text (top ++ names)) → Below t top
in_below t [] [] h = ([], h)
in_below t [] (n ∷ ns) h = (n ++ with_slashes ns, h)
in_below t (m ∷ ms) [] h = inl (subst (λ p. In t (path_text p)) (append-nil (m ∷ ms)) h)
in_below t (m ∷ ms) (n ∷ ns) h =
    inr (
      n ++ with_slashes ns,
      subst (λ text. In t text)
          (flat_map-append (λ name. 47 ∷ name) (m ∷ ms) (n ∷ ns)
          ∙ sym (append_assoc (with_slashes (m ∷ ms)) (47 ∷ []) (n ++ with_slashes ns))) h,
    )

filter_step : {X : Type 0} (p q : X → Bool) (x : X) (xs : List X) (b : Bool) → q x ≡ b
    → (p x ≡ true → q x ≡ true) → filter p (filter q xs) ≡ filter p xs
    → filter p (cond b (x ∷ filter q xs) (filter q xs)) ≡ cond (p x) (x ∷ filter p xs) (filter p xs)
filter_step p q x xs true e h ih = ap (λ ys. cond (p x) (x ∷ ys) ys) ih
filter_step p q x xs false e h ih =
    ih ∙ sym (ap (λ b. cond b (x ∷ filter p xs) (filter p xs)) (not_there (p x) (q x) e h))
  where
    not_there : (a b : Bool) → b ≡ false → (a ≡ true → b ≡ true) → a ≡ false
    not_there true b e h = sym (h refl) ∙ e
    not_there false b e h = refl

-- what passes both tests is what passes the stronger one
filter_within : {X : Type 0} (p q : X → Bool) (xs : List X) → ((x : X) → p x ≡ true → q x ≡ true)
    → filter p (filter q xs) ≡ filter p xs
filter_within p q [] h = refl
filter_within p q (x ∷ xs) h = filter_step p q x xs (q x) refl (h x) (filter_within p q xs h)

-- ---- what the last match decides is told by the lines alone

held : Result Tree PatternWhy → List ℕ → Bool
held (Ok t) text = holds t text
held (Err why) text = false

line_fits : Asked → List ℕ → Line → Bool
line_fits asked text line = applies line.kind asked && held (pattern_of line.text) text

line_decision : Line → Decision
line_decision line = line.decision

decision_line : (o : Option SpecValue) → option_map decision_of o ≡ option_map line_decision
    (option_map listing_line o)
unfolding line_decision
decision_line None = refl
decision_line (Some s) = refl

line_fits_is : (asked : Asked) (text : List ℕ) (s : SpecValue) → IsReadSpec s
    → fits asked text s ≡ line_fits asked text (listing_line s)
unfolding held line_fits
line_fits_is asked text s h = ap (λ r. applies s.kind asked && held r text) (sym h.is_spec.pattern)

-- what is decided by the last of those that fit, or by what was found before
by_specs : Asked → List ℕ → Option SpecValue → List SpecValue → Option Decision
by_specs asked text o specs = option_map decision_of (last_or o (filter (fits asked text) specs))

by_lines : Asked → List ℕ → Option Line → List Line → Option Decision
by_lines asked text o lines =
    option_map line_decision (last_or o (filter (line_fits asked text) lines))

last_step : (asked : Asked) (text : List ℕ) (s : SpecValue) (specs : List SpecValue)
    (o : Option SpecValue) (a b : Bool) → a ≡ b
    → ((o : Option SpecValue) → by_specs asked text o specs ≡ by_lines asked text
    (option_map listing_line o) (map listing_line specs))
    → option_map decision_of
    (last_or o (cond a (s ∷ filter (fits asked text) specs) (filter (fits asked text) specs)))
    ≡ option_map line_decision
    (last_or (option_map listing_line o)
    (cond b (listing_line s ∷ filter (line_fits asked text) (map listing_line specs))
    (filter (line_fits asked text) (map listing_line specs))))
unfolding by_specs by_lines
last_step asked text s specs o true true e ih = ih (Some s)
last_step asked text s specs o false false e ih = ih o
last_step asked text s specs o true false e ih = cc
last_step asked text s specs o false true e ih = cc

last_lines : (asked : Asked) (text : List ℕ) (specs : List SpecValue) (o : Option SpecValue)
    → AllByRecursion IsReadSpec specs
    → by_specs asked text o specs ≡ by_lines asked text (option_map listing_line o)
    (map listing_line specs)
unfolding by_specs by_lines
last_lines asked text [] o all = decision_line o
last_lines asked text (s ∷ specs) o all =
    last_step asked text s specs o (fits asked text s) (line_fits asked text (listing_line s))
    (line_fits_is asked text s all.0) (λ o. last_lines asked text specs o all.1)

-- what is decided below a directory, by the lines of its listing
shown_by : (t : Basis) (asked : Asked) (d names : Path) (b : Bool) → b ≡ plain t.first t.second d
    → AllByRecursion IsReadSpec t.specs
    → by_specs asked (path_text (substituted t.first t.second (d ++ names))) None t.specs
    ≡ by_lines asked (path_text (substituted t.first t.second (d ++ names))) None
    (map listing_line (cond b (filter (can_decide (substituted t.first t.second d)) t.specs)
    t.specs))
unfolding by_specs
shown_by t asked d names true e all =
    let keeps : KeepsBelow t.first t.second d = plain_keeps t.first t.second d true e in
    let top = substituted t.first t.second d in
    let text = path_text (substituted t.first t.second (d ++ names)) in
    ap (λ specs. option_map decision_of (last_or None specs))
    (sym (filter_within (fits asked text) (can_decide top) t.specs
    (λ s h. (below_shows s.pattern top).1 (in_below s.pattern top names
    (subst (λ path. In s.pattern (path_text path)) (keeps names)
    ((holds_shows s.pattern text).0
    (and_parts (applies s.kind asked) (holds s.pattern text) h).1))))))
    ∙ last_lines asked text (filter (can_decide top) t.specs) None
    (each_filtered IsReadSpec (can_decide top) t.specs all)
shown_by t asked d names false e all =
    last_lines asked (path_text (substituted t.first t.second (d ++ names))) t.specs None all

-- what is decided, by the listing
shown : (t : Basis) (asked : Asked) (d names : Path) → AllByRecursion IsReadSpec t.specs
    → decided_at t asked (d ++ names)
    ≡ by_lines asked
    (path_text (substituted (listing_on t d).first (listing_on t d).second (d ++ names))) None
    (listing_on t d).lines
unfolding decided_at last_match relevant by_specs
shown t asked d names all = shown_by t asked d names (plain t.first t.second d) refl all

types_shown : (force other : Bool) (types others : List (List ℕ)) → force ≡ other
    → cond force [] types ≡ cond other [] others → force ≡ false → types ≡ others
types_shown true other types others f e n = cc
types_shown false true types others f e n = cc
types_shown false false types others f e n = e

-- equal listings of a directory decide alike at and below it
pub listings_alike : (t u : Basis) → AreRead t → AreRead u → (d : Path)
    → listing_on t d ≡ listing_on u d → AreAlike t u d
listings_alike t u ht hu d e =
    let force : t.force ≡ u.force = ap (λ (l : Listing). l.force) e in
    record {
      force = force;
      types = types_shown t.force u.force t.types u.types force (ap (λ (l : Listing). l.types) e);
      decisions = λ asked names.
          shown t asked d names ht.specs.1
          ∙ ap (λ (l : Listing). by_lines asked
          (path_text (substituted l.first l.second (d ++ names))) None l.lines) e
          ∙ sym (shown u asked d names hu.specs.1);
    }

pub bytes_alike : (t u : Basis) → AreRead t → AreRead u → (d : Path) → are_names d ≡ true
    → listing_bytes (listing_on t d) ≡ listing_bytes (listing_on u d) → AreAlike t u d
bytes_alike t u ht hu d n e =
    listings_alike t u ht hu d
    (listing_same (listing_on t d) (listing_on u d) (read_listing t ht d n)
    (read_listing u hu d n) e)
