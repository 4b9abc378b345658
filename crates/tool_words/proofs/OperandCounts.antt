-- No more operands are read than there are words.
use Rattle.std.proofs.Common.{◌≡◌, ◌∙◌, ap, subst, refl, cond, ℕ, suc, ◌+◌, ◌≤◌, arith, Bool, true}
use Rattle.std.proofs.Common.{false, List, [], ◌∷◌, ◌++◌, length}
use Rattle.std.specs.Prelude.{Option, Some, None, Result, Ok, Err, IfOk, String}
use Rattle.std.specs.List.{cons_option}
use Rattle.std.specs.String.{string_bytes}
use Rattle.std.specs.declared.alloc.Global.{Global}
use Rattle.std.proofs.lemmas.List.{length-map, length-append}
use Rattle.std.proofs.lemmas.List.Elements.{filter_map-append}
use Rattle.label_base.specs.Answers.{Answers, fault_cause}
use Rattle.label_base.specs.Text.{same_bytes}
use Rattle.file_paths.specs.Path.{path_read}
use Rattle.label_base.specs.declared.fault.Fault.{Fault}
use Rattle.tool_words.specs.Items.{Item, Letters, Taken, ahead, any_taken, first_says, is_cluster}
use Rattle.tool_words.specs.Items.{item, items_from, items_of, letters_say, letters_taken}
use Rattle.tool_words.specs.Items.{operand_says, other_says, taken, unended, with_letter}
use Rattle.tool_words.specs.Items.{word_taken}
use Rattle.tool_words.specs.Tool.{Tool, takes_of}
use Rattle.tool_words.specs.Words.{is_operand, items_read, operand_paths, operands_of, path_in}
use Rattle.tool_words.specs.Words.{paths_of, text_if, unless_wrong, word_texts}
use Rattle.tool_words.specs.Values.{first_wrong}
use Rattle.tool_words.specs.declared.cutting.WordsAhead.{WordsAhead}
use Rattle.tool_words.specs.declared.cutting.Expects.{Expects}
use Rattle.tool_words.specs.declared.cutting.Expects.TheVariants.{Any, ValueOf, Operands}
use Rattle.tool_words.specs.declared.cutting.TheConstants.{END}
use Rattle.tool_words.specs.declared.letters.Others.{Others}
use Rattle.tool_words.specs.declared.letters.Others.TheVariants.{Paths, Refused}
use Rattle.tool_words.specs.declared.letters.Takes.{Takes}
use Rattle.tool_words.specs.declared.letters.Takes.TheVariants.{Flag as Alone, Value}
use Rattle.tool_words.specs.declared.letters.Valued.{Valued}
use Rattle.tool_words.specs.declared.usage.Usage.{Usage}

abbrev count : List Item → ℕ
count items = length (operands_of items)

counted : (xs ys : List Item) → count (xs ++ ys) ≡ count xs + count ys
counted xs ys =
    ap length (filter_map-append (λ item. text_if (is_operand item.says) item.text) xs ys)
    ∙ length-append (operands_of xs) (operands_of ys)

with_none : (index letter : ℕ) (takes : Option Takes) (rest : List ℕ) (more : Letters)
    → count more.0 ≡ 0 → count (with_letter index letter takes rest more).0 ≡ 0
with_none index letter (Some Alone) rest more none_more = none_more
with_none index letter (Some (Value form)) [] more none_more = refl
with_none index letter (Some (Value form)) (b ∷ bs) more none_more = refl
with_none index letter None rest more none_more = refl

letters_none : (tool : Tool) (index : ℕ) (text : List ℕ)
    → count (letters_say tool index text).0 ≡ 0
unfolding letters_say
letters_none tool index [] = refl
letters_none tool index (b ∷ bs) =
    with_none index b (takes_of tool b) bs (letters_say tool index bs) (letters_none tool index bs)

other_few : (others : Others) (index : ℕ) (word : List ℕ)
    → count (item (other_says others) index word ∷ []) ≤ 1
other_few Paths index word = omega arith
other_few (Refused why) index word = omega arith

first_few : (first : Option Valued) (others : Others) (index : ℕ) (word : List ℕ)
    → count (item (first_says first others) index word ∷ []) ≤ 1
first_few None others index word = other_few others index word
first_few (Some v) others index word = omega arith

operand_few : (tool : Tool) (first : Bool) (index : ℕ) (word : List ℕ)
    → count (item (operand_says tool first) index word ∷ []) ≤ 1
operand_few tool true index word = first_few tool.first tool.others index word
operand_few tool false index word = other_few tool.others index word

one_of : (b c : Bool) (x y z : Taken)
    → count x.0 ≤ 1 → count y.0 ≤ 1 → count z.0 ≤ 1 → count (cond b x (cond c y z)).0 ≤ 1
one_of true c x y z first second third = first
one_of false true x y z first second third = second
one_of false false x y z first second third = third

letters_few : (tool : Tool) (first : Bool) (index : ℕ) (text : List ℕ)
    → count (letters_taken first (letters_say tool index text)).0 ≤ 1
letters_few tool first index text = omega (arith, letters_none tool index text)

any_few : (tool : Tool) (first : Bool) (index : ℕ) (word : List ℕ)
    → count (any_taken tool first index word).0 ≤ 1
unfolding any_taken
any_few tool first index word =
    one_of (same_bytes word END.now) (is_cluster word) _ _ _ (omega arith)
    (letters_few tool first index _) (operand_few tool first index word)

word_few : (tool : Tool) (expects : Expects) (first : Bool) (index : ℕ) (word : List ℕ)
    → count (word_taken tool expects first index word).0 ≤ 1
word_few tool Any first index word = any_few tool first index word
word_few tool (ValueOf v) first index word = omega arith
word_few tool Operands first index word = operand_few tool first index word

unended_none : (expects : Expects) (index : ℕ) → count (unended expects index) ≡ 0
unended_none Any index = refl
unended_none (ValueOf v) index = refl
unended_none Operands index = refl

items_few : (tool : Tool) (a : WordsAhead) (index : ℕ) (words : List (List ℕ))
    → count (items_from tool a index words) ≤ length words
unfolding items_from
items_few tool a index [] = omega (arith, unended_none a.expects index)
items_few tool a index (word ∷ words) =
    omega (
      arith,
      counted (taken tool a index word).0
          (items_from tool (taken tool a index word).1 (index + 1) words),
      word_few tool a.expects a.first index word,
      items_few tool (taken tool a index word).1 (index + 1) words,
    )

kept_few : {Y : Type 0} (found : Option Y) (n : ℕ) (ys : List Y)
    → length ys ≤ n → length (cons_option found ys) ≤ suc n
kept_few None n ys few = omega (arith, few)
kept_few (Some y) n ys few = omega (arith, few)

paths_kept : (texts : List (List ℕ)) → length (paths_of texts) ≤ length texts
paths_kept [] = omega arith
paths_kept (text ∷ texts) =
    kept_few (path_in (path_read text)) (length texts) (paths_of texts) (paths_kept texts)

accepted : (found : Option Usage) (meant items : List Item)
    → unless_wrong found meant ≡ Ok items → meant ≡ items
accepted None meant items is = cc
accepted (Some wrong) meant items is = absurd (cc)

texts_few : (tool : Tool) (index : ℕ) (words : List (List ℕ)) (wrong : Option Usage)
    (items : List Item)
    → unless_wrong wrong (items_of tool index words) ≡ Ok items
    → length (operand_paths items) ≤ length words
texts_few tool index words wrong items is =
    let all : items_of tool index words ≡ items =
    accepted wrong (items_of tool index words) items is in
    subst (λ (xs : List Item). length (operand_paths xs) ≤ length words) all
    (omega (
      arith,
      paths_kept (operands_of (items_of tool index words)),
      items_few tool (ahead Any true) index words,
    ))

-- whatever was looked for that may be wrong
pub operands_few : (tool : Tool) (index : ℕ) (words : List (String Global)) (wrong : Option Usage)
    → (result : Result (List Item) (Fault Usage))
    → Answers (λ items. items) fault_cause result
    (unless_wrong wrong (items_of tool index (word_texts words)))
    → IfOk result (λ items. length (operand_paths items) ≤ length words)
operands_few tool index words wrong (Ok items) is =
    omega (
      arith,
      texts_few tool index (word_texts words) wrong items is,
      length-map words
          string_bytes,
    )
operands_few tool index words wrong (Err fault) is = tt
