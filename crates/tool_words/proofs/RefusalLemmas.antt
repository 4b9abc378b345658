-- What the words say stands in them, and the first that is wrong is so.
use Rattle.std.proofs.Common.{◌≡◌, ◌∙◌, Bool, inl, inr, ap, sym, refl, subst, ℕ, ◌+◌, ◌<◌, true}
use Rattle.std.proofs.Common.{false, cond, List, [], ◌∷◌, ◌++◌, length, drop, append_assoc}
use Rattle.std.proofs.Common.{append-nil, arith}
use Rattle.std.specs.Prelude.{◌↔◌, ⊤, nat_le, Option, Some, None, Result, Ok, Err, slice_get}
use Rattle.std.specs.List.{AllByRecursion, cons_option, filter_map}
use Rattle.std.proofs.lemmas.Bool.{eqb-true, leb-false, lt-leb}
use Rattle.std.proofs.lemmas.Option.{same_Some}
use Rattle.std.proofs.lemmas.List.{length_push}
use Rattle.label_base.specs.Kind.{class_kind}
use Rattle.label_base.specs.Lines.{first_of}
use Rattle.label_base.specs.Number.{number_of}
use Rattle.label_base.specs.Text.{same_bytes}
use Rattle.file_paths.specs.Path.{path_read}
use Rattle.tool_words.specs.Grammar.{AreAlone}
use Rattle.tool_words.specs.Items.{Item, Letters, Taken, ahead, any_taken, first_says, is_cluster}
use Rattle.tool_words.specs.Items.{item, items_from, items_of, letters_say, letters_taken}
use Rattle.tool_words.specs.Items.{operand_says, operand_taken, other_says, taken, unended, valued}
use Rattle.tool_words.specs.Items.{valued_says, with_letter, word_taken}
use Rattle.tool_words.specs.Refusals.{AreGoodItems, HasLetter, HasWrong, IsBadUsage, IsBadValue}
use Rattle.tool_words.specs.Refusals.{IsNoPath, IsOption, IsPast, IsThere, StandsIn}
use Rattle.tool_words.specs.Tool.{Tool, takes_of}
use Rattle.tool_words.specs.Values.{at_index, first_wrong, form_wrong, item_wrong, name_wrong}
use Rattle.tool_words.specs.Values.{number_named, path_wrong, says_wrong, unless_some, up_to}
use Rattle.tool_words.specs.Words.{items_read, unless_wrong, usage}
use Rattle.tool_words.specs.declared.cutting.WordsAhead.{WordsAhead}
use Rattle.tool_words.specs.declared.cutting.Expects.{Expects}
use Rattle.tool_words.specs.declared.cutting.Expects.TheVariants.{Any, ValueOf, Operands}
use Rattle.tool_words.specs.declared.cutting.TheConstants.{DASH, END}
use Rattle.tool_words.specs.declared.item.Says.{Says}
use Rattle.tool_words.specs.declared.item.Says.TheVariants.{Flag, Given, Operand, Wrong}
use Rattle.tool_words.specs.declared.letters.Form.{Form}
use Rattle.tool_words.specs.declared.letters.Form.TheVariants.{Number, Path as OfPath, Name, Kind}
use Rattle.tool_words.specs.declared.letters.Others.{Others}
use Rattle.tool_words.specs.declared.letters.Others.TheVariants.{Paths, Refused}
use Rattle.tool_words.specs.declared.letters.Takes.{Takes}
use Rattle.tool_words.specs.declared.letters.Takes.TheVariants.{Flag as Alone, Value}
use Rattle.tool_words.specs.declared.letters.Valued.{Valued}
use Rattle.tool_words.specs.declared.usage.Usage.{Usage}
use Rattle.tool_words.specs.declared.usage.UsageWhy.{UsageWhy}
use Rattle.tool_words.specs.declared.usage.UsageWhy.TheVariants.{BadKind, BadNumber, BadPath}
use Rattle.tool_words.specs.declared.usage.UsageWhy.TheVariants.{UnknownOption}

-- ---- lists

all_join : {X : Type 0} (P : X → Type 0) → (xs ys : List X) → AllByRecursion P xs
    → AllByRecursion P ys → AllByRecursion P (xs ++ ys)
all_join P [] ys a b = b
all_join P (x ∷ xs) ys a b = (a.0, all_join P xs ys a.1 b)

all_middle : {X : Type 0} (P : X → Type 0) → (xs : List X) (x : X) (ys : List X)
    → AllByRecursion P (xs ++ x ∷ ys) → P x
all_middle P [] x ys a = a.0
all_middle P (z ∷ xs) x ys a = all_middle P xs x ys a.1

at_end : (before : List (List ℕ)) (word : List ℕ) (words : List (List ℕ))
    → slice_get (before ++ word ∷ words) (length before) ≡ Some word
at_end [] word words = refl
at_end (w ∷ before) word words = at_end before word words

-- ---- the letters of a word

-- the word ends with a letter that expects a value
abbrev Awaits : Tool → List ℕ → Expects → Type 0
Awaits tool word (ValueOf v) = HasLetter tool word v.letter [] × IsOption tool v
Awaits tool word expects = ⊤

module _ (tool : Tool) (start : ℕ) (all : List (List ℕ)) (index place : ℕ)
    (at : index ≡ start + place) (word : List ℕ) (found : slice_get all place ≡ Some word) where
  there : (says : Says) (text : List ℕ) → StandsIn tool place (length all) word says text
      → IsThere tool start all (item says index text)
  there says text stands =
      record { place = place; is = at; word = word; found = found; stands = stands }

  abbrev Stand : Letters → Type 0
  Stand says = AllByRecursion (IsThere tool start all) says.0 × Awaits tool word says.1

  has : (front : List ℕ) (letter : ℕ) (rest : List ℕ) → word ≡ DASH ∷ (front ++ letter ∷ rest)
      → AreAlone tool front → HasLetter tool word letter rest
  has front letter rest is alone = record { front = front; is = is; alone = alone }

  valued_stands : (v : Valued) (rest : List ℕ) → HasLetter tool word v.letter rest
      → IsOption tool v → Stand (valued_says index v rest)
  valued_stands v [] h role = (tt, (h, role))
  valued_stands v (b ∷ bs) h role = ((there (Given v) (b ∷ bs) (inl (h, role)), tt), tt)

  letter_stands : (letter : ℕ) (rest : List ℕ) (more : Letters) (role : Option Takes)
      → takes_of tool letter ≡ role → HasLetter tool word letter rest
      → (role ≡ Some Alone → Stand more) → Stand (with_letter index letter role rest more)
  letter_stands letter rest more (Some Alone) role h on =
      ((there (Flag letter) [] (rest, h, role), (on refl).0), (on refl).1)
  letter_stands letter rest more (Some (Value form)) role h on =
      valued_stands (valued letter form) rest h role
  letter_stands letter rest more None role h on =
      ((there (Wrong UnknownOption) [] (inl (letter, rest, h, role)), tt), tt)

  letters_stand : (front left : List ℕ) → word ≡ DASH ∷ (front ++ left) → AreAlone tool front
      → Stand (letters_say tool index left)
  unfolding letters_say
  letters_stand front [] is alone = (tt, tt)
  letters_stand front (b ∷ bs) is alone =
      letter_stands b bs (letters_say tool index bs) (takes_of tool b) refl
      (has front b bs is alone)
      (λ role. letters_stand (front ++ b ∷ []) bs
      (is ∙ ap (λ xs. DASH ∷ xs) (sym (append_assoc front (b ∷ []) bs)))
      (all_join (λ other. takes_of tool other ≡ Some Alone) front (b ∷ []) alone (role, tt)))

  -- ---- a word

  abbrev StandTaken : Taken → Type 0
  StandTaken t = AllByRecursion (IsThere tool start all) t.0 × Awaits tool word t.1.expects

  -- an operand is the whole word
  other_stands : (others : Others) → tool.others ≡ others
      → StandsIn tool place (length all) word (other_says others) word
  other_stands Paths e = refl
  other_stands (Refused why) e = inr (e, refl)

  first_stands : (first : Option Valued) → tool.first ≡ first
      → StandsIn tool place (length all) word (first_says first tool.others) word
  first_stands None e = other_stands tool.others refl
  first_stands (Some v) e = inr (refl, inr e)

  operand_in : (first : Bool)
      → StandsIn tool place (length all) word (operand_says tool first) word
  operand_in true = first_stands tool.first refl
  operand_in false = other_stands tool.others refl

  operand_stands : (expects : Expects) (first : Bool) → Awaits tool word expects
      → StandTaken (operand_taken tool expects first index word)
  operand_stands expects first a =
      ((there (operand_says tool first) word (operand_in first), tt), a)

  cluster_is : (w : List ℕ) → is_cluster w ≡ true → w ≡ DASH ∷ drop 1 w
  cluster_is [] h = absurd (cc)
  cluster_is (b ∷ []) h = absurd (cc)
  cluster_is (b ∷ c ∷ bs) h = ap (λ x. x ∷ c ∷ bs) (eqb-true b DASH h)

  cluster_stands : (first : Bool) → is_cluster word ≡ true
      → StandTaken (letters_taken first (letters_say tool index (drop 1 word)))
  cluster_stands first h = letters_stand [] (drop 1 word) (cluster_is word h) tt

  any_stands : (first : Bool) → StandTaken (any_taken tool first index word)
  unfolding any_taken
  any_stands first =
      elim (same_bytes word END.now) as (λ v. StandTaken (cond v ([], ahead Operands first)
      (cond (is_cluster word) (letters_taken first (letters_say tool index (drop 1 word)))
      (operand_taken tool Any first index word)))) [
        | true ↦ (tt, tt)
        | false ↦ elim (is_cluster word) as (λ v. is_cluster word ≡ v
            → StandTaken (cond v (letters_taken first (letters_say tool index (drop 1 word)))
            (operand_taken tool Any first index word))) [
              | true ↦ λ h. cluster_stands first h
              | false ↦ λ _. operand_stands Any first tt
            ] refl
      ]

  -- the word behind the last one
  word_stands : (last : List ℕ) (expects : Expects) (first : Bool) → Awaits tool last expects
      → StandTaken (word_taken tool expects first index word)
  word_stands last Any first a = any_stands first
  word_stands last (ValueOf v) first a = ((there (Given v) word (inr (refl, inl a.1)), tt), tt)
  word_stands last Operands first a = operand_stands Operands first tt

-- ---- all words

-- the last of these words ends with a letter that expects a value
record EndsAwaiting (tool : Tool) (words : List (List ℕ)) (v : Valued) : Type 0 where
  pub front : List (List ℕ)
  pub last : List ℕ
  pub is : words ≡ front ++ last ∷ []
  pub letter : HasLetter tool last v.letter []
  pub option : IsOption tool v

abbrev AreAwaiting : Tool → List (List ℕ) → Expects → Type 0
AreAwaiting tool words (ValueOf v) = EndsAwaiting tool words v
AreAwaiting tool words expects = ⊤

behind_word : (tool : Tool) (words : List (List ℕ)) (word : List ℕ) (expects : Expects)
    → Awaits tool word expects → AreAwaiting tool (words ++ word ∷ []) expects
behind_word tool words word (ValueOf v) a =
    record { front = words; last = word; is = refl; letter = a.0; option = a.1 }
behind_word tool words word Any a = tt
behind_word tool words word Operands a = tt

one_before : (tool : Tool) (words : List (List ℕ)) (expects : Expects)
    → AreAwaiting tool words expects → (last : List ℕ) × Awaits tool last expects
one_before tool words (ValueOf v) a = (a.last, (a.letter, a.option))
one_before tool words Any a = ([], tt)
one_before tool words Operands a = ([], tt)

missing_stands : (tool : Tool) (start : ℕ) (all : List (List ℕ)) (index : ℕ) (expects : Expects)
    → index ≡ start + length all → AreAwaiting tool all expects
    → AllByRecursion (IsThere tool start all) (unended expects index)
missing_stands tool start all index (ValueOf v) i a =
    let long : length all ≡ length a.front + 1 = ap length a.is ∙ length_push a.front a.last in (
      record {
        place = length a.front;
        is = omega (arith, i, long);
        word = a.last;
        found = ap (λ ws. slice_get ws (length a.front)) a.is ∙ at_end a.front a.last [];
        stands = inl (v, a.letter, a.option, sym long);
      },
      tt,
    )
missing_stands tool start all index Any i a = tt
missing_stands tool start all index Operands i a = tt

items_stand : (tool : Tool) (start : ℕ) (a : WordsAhead) (all before words : List (List ℕ))
    → (index : ℕ) → all ≡ before ++ words → index ≡ start + length before
    → AreAwaiting tool before a.expects
    → AllByRecursion (IsThere tool start all) (items_from tool a index words)
unfolding items_from
items_stand tool start a all before [] index e i h =
    let same : all ≡ before = e ∙ append-nil before in
    missing_stands tool start all index a.expects (i ∙ ap (λ ws. start + length ws) (sym same))
    (subst (λ ws. AreAwaiting tool ws a.expects) (sym same) h)
items_stand tool start a all before (word ∷ words) index e i h =
    let longer : all ≡ (before ++ word ∷ []) ++ words =
    e ∙ sym (append_assoc before (word ∷ []) words) in
    let found : slice_get all (length before) ≡ Some word =
    ap (λ ws. slice_get ws (length before)) e ∙ at_end before word words in
    let more : length (before ++ word ∷ []) ≡ length before + 1 = length_push before word in
    let one = one_before tool before a.expects h in
    let t = word_stands tool start all index (length before) i word found one.0 a.expects a.first
    one.1 in
    all_join (IsThere tool start all) (taken tool a index word).0
    (items_from tool (taken tool a index word).1 (index + 1) words) t.0
    (items_stand tool start (taken tool a index word).1 all (before ++ word ∷ []) words (index + 1)
    longer (omega (arith, i, more))
    (behind_word tool before word (taken tool a index word).1.expects t.1))

all_there : (tool : Tool) (index : ℕ) (words : List (List ℕ))
    → AllByRecursion (IsThere tool index words) (items_of tool index words)
all_there tool index words =
    items_stand tool index (ahead Any true) words [] words index refl (omega arith) tt

-- ---- what is wrong

no_path : (text : List ℕ) (why : UsageWhy) → path_wrong (path_read text) ≡ Some why
    → (BadPath ≡ why) × IsNoPath text
no_path text why h =
    elim (path_read text) as (λ r. path_read text ≡ r → path_wrong r ≡ Some why → (BadPath ≡ why)
    × IsNoPath text) [
      | Ok path ↦ λ e k. absurd (cc)
      | Err fault ↦ λ e k. (
        same_Some BadPath why k,
        λ path is. let both : Err fault ≡ Ok path = sym
            e ∙ is in cc,
      )
    ] refl h

number_bad : (most : ℕ) (text : List ℕ) (why : UsageWhy)
    → unless_some BadNumber (number_named most text) ≡ Some why → (BadNumber ≡ why)
    × IsPast most text
number_bad most text why h =
    elim (number_of text) as (λ r. number_of text ≡ r → unless_some BadNumber (up_to most r)
    ≡ Some why → (BadNumber ≡ why) × IsPast most text) [
      | None ↦ λ e k. (
        same_Some BadNumber why k,
        λ n is. let both : None ≡ Some n = sym e ∙ is in
            absurd (cc),
      )
      | Some m ↦ λ e k.
          elim (nat_le m most) as
          (λ v. nat_le m most ≡ v → unless_some BadNumber (cond v (Some m) None) ≡ Some why
          → (BadNumber ≡ why) × IsPast most text) [
            | true ↦ λ t l. absurd (cc)
            | false ↦ λ f l. (
              same_Some BadNumber why l,
              λ n is. subst (λ o. most < o)
                  (same_Some m n (sym e ∙ is)) (leb-false m most f),
            )
          ] refl k
    ] refl h

kind_bad : (text : List ℕ) (why : UsageWhy) → unless_some BadKind (class_kind text) ≡ Some why
    → (BadKind ≡ why) × (class_kind text ≡ None)
kind_bad text why h =
    elim (class_kind text) as (λ r. class_kind text ≡ r → unless_some BadKind r ≡ Some why
    → (BadKind ≡ why) × (class_kind text ≡ None)) [
      | None ↦ λ e k. (same_Some BadKind why k, e)
      | Some kind ↦ λ e k. absurd (cc)
    ] refl h

name_bad : (text : List ℕ) (why : UsageWhy) → name_wrong text ≡ Some why → (BadPath ≡ why)
    × (text ≡ [])
name_bad [] why h = (same_Some BadPath why h, refl)
name_bad (b ∷ bs) why h = absurd (cc)

value_bad : (form : Form) (text : List ℕ) (why : UsageWhy) → form_wrong form text ≡ Some why
    → IsBadValue form text why
value_bad (Number most) text why h =
    let bad = number_bad most text why h in
    subst (λ w. IsBadValue (Number most) text w) bad.0 bad.1
value_bad OfPath text why h =
    let bad = no_path text why h in subst (λ w. IsBadValue OfPath text w) bad.0 bad.1
value_bad Name text why h =
    let bad = name_bad text why h in subst (λ w. IsBadValue Name text w) bad.0 bad.1
value_bad Kind text why h =
    let bad = kind_bad text why h in subst (λ w. IsBadValue Kind text w) bad.0 bad.1

said_bad : (says : Says) (text : List ℕ) (why : UsageWhy) → says_wrong says text ≡ Some why
    → IsBadUsage says text why
said_bad (Flag letter) text why h = absurd (cc)
said_bad (Given v) text why h = value_bad v.form text why h
said_bad Operand text why h =
    let bad = no_path text why h in subst (λ w. IsBadUsage Operand text w) bad.0 bad.1
said_bad (Wrong other) text why h = same_Some other why h

item_bad : (item : Item) (wrong : Usage) → item_wrong item ≡ Some wrong → (item.index ≡ wrong.index)
    × IsBadUsage item.says item.text wrong.why
item_bad item wrong h =
    elim (says_wrong item.says item.text) as (λ r. says_wrong item.says item.text ≡ r
    → at_index item.index r ≡ Some wrong → (item.index ≡ wrong.index)
    × IsBadUsage item.says item.text wrong.why) [
      | None ↦ λ e k. absurd (cc)
      | Some why ↦ λ e k. subst (λ (u : Usage). (item.index ≡ u.index)
          × IsBadUsage item.says item.text u.why) (same_Some _ wrong k)
          (refl, said_bad item.says item.text why e)
    ] refl h

-- ---- the first that is wrong

-- so the items are cut
record Cut (items : List Item) (wrong : Usage) : Type 0 where
  pub front : List Item
  pub item : Item
  pub rest : List Item
  pub cut : items ≡ front ++ item ∷ rest
  pub before : AreGoodItems front
  pub here : item_wrong item ≡ Some wrong

cut_at : (items : List Item) (wrong : Usage) → first_wrong items ≡ Some wrong → Cut items wrong
cut_at [] wrong h = absurd (cc)
cut_at (item ∷ items) wrong h =
    elim (item_wrong item) as
    (λ r. item_wrong item ≡ r → first_of (cons_option r (filter_map item_wrong items))
    ≡ Some wrong → Cut (item ∷ items) wrong) [
      | None ↦ λ e k.
          let more = cut_at items wrong k in
          record {
            front = item ∷ more.front;
            item = more.item;
            rest = more.rest;
            cut = ap
                (λ xs. item ∷ xs) more.cut;
            before = (e, more.before);
            here = more.here;
          }
      | Some other ↦ λ e k. record {
        front = [];
        item = item;
        rest = items;
        cut = refl;
        before = tt;
        here = e ∙ k;
      }
    ] refl h

abbrev err_or : Usage → Result (List Item) Usage → Usage
err_or other (Ok items) = other
err_or other (Err wrong) = wrong

err_same : (r : Result (List Item) Usage) (wrong : Usage) → r ≡ Err wrong → err_or wrong r ≡ wrong
err_same r wrong e = ap (err_or wrong) e

refusal_is_wrong : (tool : Tool) (index : ℕ) (words : List (List ℕ)) (wrong : Usage)
    → items_read tool index words ≡ Err wrong → HasWrong tool index words wrong
refusal_is_wrong tool index words wrong h =
    elim (first_wrong (items_of tool index words)) as (λ r.
    first_wrong (items_of tool index words) ≡ r
    → unless_wrong r (items_of tool index words) ≡ Err wrong
    → HasWrong tool index words wrong) [
      | Some first ↦ λ e k.
          let c = cut_at (items_of tool index words) wrong (e ∙ ap Some (err_same _ wrong k)) in
          let bad = item_bad c.item wrong c.here in
          record {
            front = c.front;
            item = c.item;
            rest = c.rest;
            cut = c.cut;
            before = c.before;
            here = bad.0;
            there = all_middle (IsThere tool index words) c.front c.item c.rest
                (subst (AllByRecursion (IsThere tool index words)) c.cut
                (all_there tool index words));
            bad = bad.1;
          }
      | None ↦ λ e k. absurd (cc)
    ] refl h

-- ---- what is wrong is refused

path_is : (text : List ℕ) → IsNoPath text → path_wrong (path_read text) ≡ Some BadPath
path_is text bad =
    elim (path_read text) as (λ r. path_read text ≡ r → path_wrong r ≡ Some BadPath) [
      | Ok path ↦ λ e. absurd (bad path e)
      | Err fault ↦ λ _. refl
    ] refl

number_is : (most : ℕ) (text : List ℕ) → IsPast most text
    → unless_some BadNumber (up_to most (number_of text)) ≡ Some BadNumber
number_is most text past =
    elim (number_of text) as (λ r. number_of text ≡ r → unless_some BadNumber (up_to most r)
    ≡ Some BadNumber) [
      | None ↦ λ _. refl
      | Some m ↦ λ e. ap (λ v. unless_some BadNumber (cond v (Some m) None))
          (lt-leb m most (past m e))
    ] refl

name_is : (text : List ℕ) → text ≡ [] → name_wrong text ≡ Some BadPath
name_is text e = ap name_wrong e

value_is : (form : Form) (text : List ℕ) (why : UsageWhy) → IsBadValue form text why
    → form_wrong form text ≡ Some why
value_is (Number most) text BadNumber bad = number_is most text bad
value_is OfPath text BadPath bad = path_is text bad
value_is Name text BadPath bad = name_is text bad
value_is Kind text BadKind bad = ap (unless_some BadKind) bad
value_is form text why bad = absurd bad

operand_is : (text : List ℕ) (why : UsageWhy) → IsBadUsage Operand text why
    → path_wrong (path_read text) ≡ Some why
operand_is text BadPath bad = path_is text bad
operand_is text why bad = absurd bad

said_is : (says : Says) (text : List ℕ) (why : UsageWhy) → IsBadUsage says text why
    → says_wrong says text ≡ Some why
said_is (Flag letter) text why bad = absurd bad
said_is (Given v) text why bad = value_is v.form text why bad
said_is Operand text why bad = operand_is text why bad
said_is (Wrong other) text why bad = ap Some bad

usage_is : (wrong : Usage) (index : ℕ) (why : UsageWhy) → index ≡ wrong.index → why ≡ wrong.why
    → usage index why ≡ wrong
usage_is wrong index why e f = ap (λ i. usage i why) e ∙ ap (usage wrong.index) f

item_is : (item : Item) (wrong : Usage) → item.index ≡ wrong.index
    → IsBadUsage item.says item.text wrong.why → item_wrong item ≡ Some wrong
item_is item wrong e bad = ap (at_index item.index) (said_is item.says item.text wrong.why bad)
    ∙ ap Some (usage_is wrong item.index wrong.why e refl)

first_is : (front : List Item) (item : Item) (rest : List Item) (wrong : Usage) → AreGoodItems front
    → item_wrong item ≡ Some wrong → first_wrong (front ++ item ∷ rest) ≡ Some wrong
first_is [] item rest wrong good here =
    ap (λ r. first_of (cons_option r (filter_map item_wrong rest))) here
first_is (other ∷ front) item rest wrong good here =
    ap (λ r. first_of (cons_option r (filter_map item_wrong (front ++ item ∷ rest)))) good.0
    ∙ first_is front item rest wrong good.1 here

wrong_is_refused : (tool : Tool) (index : ℕ) (words : List (List ℕ)) (wrong : Usage)
    → HasWrong tool index words wrong → items_read tool index words ≡ Err wrong
wrong_is_refused tool index words wrong has =
    ap (λ r. unless_wrong r (items_of tool index words))
    (ap first_wrong has.cut
    ∙ first_is has.front has.item has.rest wrong has.before
    (item_is has.item wrong has.here has.bad))

pub refused_exactly : (tool : Tool) (index : ℕ) (words : List (List ℕ)) (wrong : Usage)
    → (items_read tool index words ≡ Err wrong) ↔ HasWrong tool index words wrong
refused_exactly tool index words wrong =
    (refusal_is_wrong tool index words wrong, wrong_is_refused tool index words wrong)
