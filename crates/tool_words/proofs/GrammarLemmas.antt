-- What is read of the words is what their grammar says.
use Rattle.std.proofs.Common.{◌≡◌, ◌∙◌, Bool, inl, inr, ap, sym, refl, subst, ℕ, ◌+◌, ◌-◌, ◌<◌}
use Rattle.std.proofs.Common.{true, false, cond, List, [], ◌∷◌, ◌++◌, length, drop, arith}
use Rattle.std.specs.Prelude.{◌⊎◌, ◌≢◌, ◌↔◌, ⊤, Option, Some, None}
use Rattle.std.proofs.lemmas.Bool.{eqb-true}
use Rattle.std.proofs.lemmas.List.{append-nil}
use Rattle.std.proofs.lemmas.Slice.Eq.{bytes_eq-Decides}
use Rattle.label_base.specs.Text.{same_bytes}
use Rattle.tool_words.specs.Grammar.{AreAlone, AreLetters, AreWords, all_alone, with_text, unknown}
use Rattle.tool_words.specs.Grammar.{none, options, value, missing, operand, end, flag_items}
use Rattle.tool_words.specs.Grammar.{operands_at}
use Rattle.tool_words.specs.Items.{Item, Letters, Taken, any_taken, ahead, flag, is_cluster, item}
use Rattle.tool_words.specs.Items.{items_from, items_of, letters_say, letters_taken, operand_says}
use Rattle.tool_words.specs.Items.{operand_taken, valued, valued_says, with_letter, wrong}
use Rattle.tool_words.specs.Tool.{Tool, takes_of}
use Rattle.tool_words.specs.declared.cutting.Expects.TheVariants.{Any, ValueOf, Operands}
use Rattle.tool_words.specs.declared.cutting.TheConstants.{DASH, END}
use Rattle.tool_words.specs.declared.item.Says.TheVariants.{Given}
use Rattle.tool_words.specs.declared.letters.Form.{Form}
use Rattle.tool_words.specs.declared.letters.Takes.{Takes}
use Rattle.tool_words.specs.declared.letters.Takes.TheVariants.{Flag as Alone, Value}
use Rattle.tool_words.specs.declared.letters.Valued.{Valued}
use Rattle.tool_words.specs.declared.usage.UsageWhy.TheVariants.{MissingValue, UnknownOption}

-- ---- letters

-- letters that stand alone, in front of others
abbrev behind_flags : ℕ → List ℕ → Letters → Letters
behind_flags index front more = (flag_items index front ++ more.0, more.1)

front_says : (tool : Tool) (index : ℕ) (front rest : List ℕ) → AreAlone tool front
    → letters_say tool index (front ++ rest) ≡ behind_flags index front
    (letters_say tool index rest)
unfolding letters_say
front_says tool index [] rest alone = refl
front_says tool index (b ∷ front) rest alone =
    ap (λ u. with_letter index b u (front ++ rest) (letters_say tool index (front ++ rest))) alone.0
    ∙ ap (λ (s : Letters). (flag b index ∷ s.0, s.1)) (front_says tool index front rest alone.1)

letter_says : (tool : Tool) (index : ℕ) (front : List ℕ) (letter : ℕ) (rest : List ℕ)
    (role : Option Takes) → AreAlone tool front → takes_of tool letter ≡ role
    → letters_say tool index (front ++ letter ∷ rest) ≡ behind_flags index front
    (with_letter index letter role rest (letters_say tool index rest))
unfolding letters_say
letter_says tool index front letter rest role alone e =
    front_says tool index front (letter ∷ rest) alone
    ∙ ap (λ u. behind_flags index front
    (with_letter index letter u rest (letters_say tool index rest))) e

valued_some : (index : ℕ) (v : Valued) (text : List ℕ) → 0 < length text
    → valued_says index v text ≡ (item (Given v) index text ∷ [], Any)
valued_some index v [] some = absurd (omega (arith, some))
valued_some index v (b ∷ bs) some = refl

nil_says : (tool : Tool) (index : ℕ) → letters_say tool index [] ≡ ([], Any)
unfolding letters_say
nil_says tool index = refl

letters_are : (tool : Tool) (index : ℕ) (letters : List ℕ) (items : List Item)
    → AreLetters tool index letters items → letters_say tool index letters ≡ (items, Any)
letters_are tool index _ _ (all_alone front are) =
    ap (letters_say tool index) (sym (append-nil front))
    ∙ front_says tool index front [] are
    ∙ ap (behind_flags index front) (nil_says tool index)
    ∙ ap (λ xs. (xs, Any)) (append-nil (flag_items index front))
letters_are tool index _ _ (with_text front letter form text are role some) =
    letter_says tool index front letter text (Some (Value form)) are role
    ∙ ap (behind_flags index front) (valued_some index (valued letter form) text some)
letters_are tool index _ _ (unknown front letter rest are role) =
    letter_says tool index front letter rest None are role

awaiting : (tool : Tool) (index : ℕ) (front : List ℕ) (letter : ℕ) (form : Form)
    → AreAlone tool front → takes_of tool letter ≡ Some (Value form)
    → letters_say tool index (front ++ letter ∷ [])
    ≡ (flag_items index front, ValueOf (valued letter form))
awaiting tool index front letter form are role =
    letter_says tool index front letter [] (Some (Value form)) are role
    ∙ ap (λ xs. (xs, ValueOf (valued letter form))) (append-nil (flag_items index front))

-- ---- words

not_end : (word : List ℕ) → word ≢ END.now → same_bytes word END.now ≡ false
not_end word differs =
    elim (same_bytes word END.now) as (λ v. same_bytes word END.now ≡ v → v ≡ false) [
      | true ↦ λ t. absurd (differs ((bytes_eq-Decides word END.now).0 t))
      | false ↦ λ _. refl
    ] refl

any_end : (tool : Tool) (first : Bool) (index : ℕ) → any_taken tool first index END.now
    ≡ ([], ahead Operands first)
unfolding any_taken
any_end tool first index = refl

any_letters : (tool : Tool) (first : Bool) (index : ℕ) (word : List ℕ) → word ≢ END.now
    → is_cluster word ≡ true → any_taken tool first index word ≡ letters_taken first
    (letters_say tool index (drop 1 word))
unfolding any_taken
any_letters tool first index word differs cluster =
    ap (λ v. cond v ([], ahead Operands first)
    (cond (is_cluster word) (letters_taken first (letters_say tool index (drop 1 word)))
    (operand_taken tool Any first index word))) (not_end word differs)
    ∙ ap (λ v. cond v (letters_taken first (letters_say tool index (drop 1 word)))
    (operand_taken tool Any first index word)) cluster

end_is_cluster : (word : List ℕ) → is_cluster word ≡ false → word ≢ END.now
end_is_cluster word f e = let both : is_cluster word ≡ true = ap is_cluster e in cc

any_operand : (tool : Tool) (first : Bool) (index : ℕ) (word : List ℕ) → is_cluster word ≡ false
    → any_taken tool first index word ≡ operand_taken tool Any first index word
unfolding any_taken
any_operand tool first index word f =
    ap (λ v. cond v ([], ahead Operands first)
    (cond (is_cluster word) (letters_taken first (letters_say tool index (drop 1 word)))
    (operand_taken tool Any first index word))) (not_end word (end_is_cluster word f))
    ∙ ap (λ v. cond v (letters_taken first (letters_say tool index (drop 1 word)))
    (operand_taken tool Any first index word)) f

any_from : (tool : Tool) (first : Bool) (index : ℕ) (word : List ℕ) (words : List (List ℕ))
    (t : Taken) → any_taken tool first index word ≡ t → items_from tool (ahead Any first) index
    (word ∷ words) ≡ t.0 ++ items_from tool t.1 (index + 1) words
unfolding items_from
any_from tool first index word words t e =
    ap (λ (u : Taken). u.0 ++ items_from tool u.1 (index + 1) words) e

operands_are : (tool : Tool) (first : Bool) (index : ℕ) (words : List (List ℕ))
    → items_from tool (ahead Operands first) index words ≡ operands_at tool first index words
unfolding items_from
operands_are tool first index [] = refl
operands_are tool first index (word ∷ words) =
    ap (λ xs. item (operand_says tool first) index word ∷ xs)
    (operands_are tool false (index + 1) words)

value_from : (tool : Tool) (first : Bool) (index : ℕ) (v : Valued) (text : List ℕ)
    → (words : List (List ℕ))
    → items_from tool (ahead (ValueOf v) first) index (text ∷ words)
    ≡ item (Given v) index text ∷ items_from tool (ahead Any first) (index + 1) words
unfolding items_from
value_from tool first index v text words = refl

missing_from : (tool : Tool) (first : Bool) (index : ℕ) (v : Valued)
    → items_from tool (ahead (ValueOf v) first) (index + 1) [] ≡ wrong MissingValue index ∷ []
unfolding items_from
missing_from tool first index v = ap (λ i. wrong MissingValue i ∷ []) (before index)
  where
    before : (i : ℕ) → (i + 1) - 1 ≡ i
    before i = omega arith

front_cluster : (front : List ℕ) (letter : ℕ) → is_cluster (DASH ∷ (front ++ letter ∷ [])) ≡ true
front_cluster [] letter = refl
front_cluster (b ∷ front) letter = refl

-- a word whose last letter expects its value
value_taken : (tool : Tool) (first : Bool) (index : ℕ) (front : List ℕ) (letter : ℕ) (form : Form)
    → DASH ∷ (front ++ letter ∷ []) ≢ END.now → AreAlone tool front
    → takes_of tool letter ≡ Some (Value form)
    → any_taken tool first index (DASH ∷ (front ++ letter ∷ []))
    ≡ (flag_items index front, ahead (ValueOf (valued letter form)) first)
value_taken tool first index front letter form differs are role =
    any_letters tool first index (DASH ∷ (front ++ letter ∷ [])) differs
    (front_cluster front letter)
    ∙ ap (letters_taken first) (awaiting tool index front letter form are role)

value_words : (tool : Tool) (first : Bool) (index : ℕ) (front : List ℕ) (letter : ℕ) (form : Form)
    → (text : List ℕ) (words : List (List ℕ))
    → DASH ∷ (front ++ letter ∷ []) ≢ END.now → AreAlone tool front
    → takes_of tool letter ≡ Some (Value form)
    → items_from tool (ahead Any first) index ((DASH ∷ (front ++ letter ∷ [])) ∷ text ∷ words)
    ≡ flag_items index front ++ item (Given (valued letter form)) (index + 1) text
    ∷ items_from tool (ahead Any first) (index + 1 + 1) words
value_words tool first index front letter form text words differs are role =
    any_from tool first index (DASH ∷ (front ++ letter ∷ [])) (text ∷ words) _
    (value_taken tool first index front letter form differs are role)
    ∙ ap (λ xs. flag_items index front ++ xs)
    (value_from tool first (index + 1) (valued letter form) text words)

missing_words : (tool : Tool) (first : Bool) (index : ℕ) (front : List ℕ) (letter : ℕ)
    → (form : Form)
    → DASH ∷ (front ++ letter ∷ []) ≢ END.now → AreAlone tool front
    → takes_of tool letter ≡ Some (Value form)
    → items_from tool (ahead Any first) index ((DASH ∷ (front ++ letter ∷ [])) ∷ [])
    ≡ flag_items index front ++ wrong MissingValue index ∷ []
missing_words tool first index front letter form differs are role =
    any_from tool first index (DASH ∷ (front ++ letter ∷ [])) [] _
    (value_taken tool first index front letter form differs are role)
    ∙ ap (λ xs. flag_items index front ++ xs) (missing_from tool first index (valued letter form))

options_words : (tool : Tool) (first : Bool) (index letter : ℕ) (letters : List ℕ)
    (words : List (List ℕ)) (items : List Item) → DASH ∷ letter ∷ letters ≢ END.now
    → AreLetters tool index (letter ∷ letters) items → items_from tool (ahead Any first) index
    ((DASH ∷ letter ∷ letters) ∷ words) ≡ items ++ items_from tool (ahead Any first) (index + 1)
    words
options_words tool first index letter letters words items differs are =
    any_from tool first index (DASH ∷ letter ∷ letters) words _
    (any_letters tool first index (DASH ∷ letter ∷ letters) differs refl
    ∙ ap (letters_taken first) (letters_are tool index (letter ∷ letters) items are))

operand_words : (tool : Tool) (first : Bool) (index : ℕ) (word : List ℕ) (words : List (List ℕ))
    → is_cluster word ≡ false → items_from tool (ahead Any first) index (word ∷ words)
    ≡ item (operand_says tool first) index word ∷ items_from tool (ahead Any false) (index + 1)
    words
operand_words tool first index word words f =
    any_from tool first index word words _ (any_operand tool first index word f)

end_words : (tool : Tool) (first : Bool) (index : ℕ) (words : List (List ℕ))
    → items_from tool (ahead Any first) index (END.now ∷ words) ≡ operands_at tool first (index + 1)
    words
end_words tool first index words =
    any_from tool first index END.now words _ (any_end tool first index)
    ∙ operands_are tool first (index + 1) words

none_words : (tool : Tool) (first : Bool) (index : ℕ) → items_from tool (ahead Any first) index []
    ≡ []
unfolding items_from
none_words tool first index = refl

-- ---- what the grammar says is read

complete : (tool : Tool) (first : Bool) (index : ℕ) (words : List (List ℕ)) (items : List Item)
    → AreWords tool first index words items → items_from tool (ahead Any first) index words ≡ items
complete tool _ _ _ _ (none first index) = none_words tool first index
complete tool _ _ _ _ (options first index letter letters words items more differs are rest) =
    options_words tool first index letter letters words items differs are
    ∙ ap (λ xs. items ++ xs) (complete tool first (index + 1) words more rest)
complete tool _ _ _ _ (value first index front letter form text words more differs are role rest) =
    value_words tool first index front letter form text words differs are role
    ∙ ap (λ xs. flag_items index front ++ item (Given (valued letter form)) (index + 1) text ∷ xs)
    (complete tool first (index + 1 + 1) words more rest)
complete tool _ _ _ _ (missing first index front letter form differs are role) =
    missing_words tool first index front letter form differs are role
complete tool _ _ _ _ (operand first index word words more f rest) =
    operand_words tool first index word words f
    ∙ ap (λ xs. item (operand_says tool first) index word ∷ xs)
    (complete tool false (index + 1) words more rest)
complete tool _ _ _ _ (end first index words) = end_words tool first index words

-- ---- what is read is so by the grammar

-- letters that stand alone, and the first that doesn't
record Split (tool : Tool) (letters : List ℕ) : Type 0 where
  pub front : List ℕ
  pub letter : ℕ
  pub rest : List ℕ
  pub is : letters ≡ front ++ letter ∷ rest
  pub are : AreAlone tool front
  pub stops : takes_of tool letter ≢ Some Alone

stop_here : (tool : Tool) (b : ℕ) (bs : List ℕ) → takes_of tool b ≢ Some Alone → Split tool (b ∷ bs)
stop_here tool b bs stops =
    record { front = []; letter = b; rest = bs; is = refl; are = tt; stops = stops }

stop_later : (tool : Tool) (b : ℕ) (bs : List ℕ) → takes_of tool b ≡ Some Alone → Split tool bs
    → Split tool (b ∷ bs)
stop_later tool b bs alone s =
    record {
      front = b ∷ s.front;
      letter = s.letter;
      rest = s.rest;
      is = ap (λ xs. b ∷ xs) s.is;
      are = (alone, s.are);
      stops = s.stops;
    }

differs_from : (x : Option Takes) → (x ≡ Some Alone) ⊎ (x ≢ Some Alone)
differs_from (Some Alone) = inl refl
differs_from (Some (Value form)) = inr (λ e. cc)
differs_from None = inr (λ e. cc)

split : (tool : Tool) (letters : List ℕ) → AreAlone tool letters ⊎ Split tool letters
split tool [] = inl tt
split tool (b ∷ bs) =
    elim (differs_from (takes_of tool b)) [
      | inr stops ↦ inr (stop_here tool b bs stops)
      | inl alone ↦ elim (split tool bs) [
        | inl are ↦ inl (alone, are)
        | inr s ↦ inr (stop_later tool b bs alone s)
      ]
    ]

abbrev Sound : Tool → Bool → ℕ → List (List ℕ) → Type 0
Sound tool first index words =
    AreWords tool first index words (items_from tool (ahead Any first) index words)

-- what the words behind the next one say
abbrev Behind : Tool → Bool → ℕ → List (List ℕ) → Type 0
Behind tool first index [] = ⊤
Behind tool first index (text ∷ words) = Sound tool first (index + 1 + 1) words

module _ (tool : Tool) (first : Bool) (index : ℕ) (words : List (List ℕ))
    (more : (b : Bool) → Sound tool b (index + 1) words) (next : Behind tool first index words)
  where
    options_sound : (letter : ℕ) (letters : List ℕ) (items : List Item)
        → DASH ∷ letter ∷ letters ≢ END.now → AreLetters tool index (letter ∷ letters) items
        → Sound tool first index ((DASH ∷ letter ∷ letters) ∷ words)
    options_sound letter letters items differs are =
        subst (AreWords tool first index ((DASH ∷ letter ∷ letters) ∷ words))
        (sym (options_words tool first index letter letters words items differs are))
        (options first index letter letters words items
        (items_from tool (ahead Any first) (index + 1) words) differs are (more first))

    operand_sound : (word : List ℕ) → is_cluster word ≡ false
        → Sound tool first index (word ∷ words)
    operand_sound word f =
        subst (AreWords tool first index (word ∷ words))
        (sym (operand_words tool first index word words f))
        (operand first index word words (items_from tool (ahead Any false) (index + 1) words) f
        (more false))

    end_sound : (word : List ℕ) → word ≡ END.now → Sound tool first index (word ∷ words)
    end_sound word e =
        subst (λ w. Sound tool first index (w ∷ words)) (sym e)
        (subst (AreWords tool first index (END.now ∷ words))
        (sym (end_words tool first index words))
        (end first index words))

value_sound : (tool : Tool) (first : Bool) (index : ℕ) (words : List (List ℕ))
    → (front : List ℕ) (letter : ℕ) (form : Form) → Behind tool first index words
    → DASH ∷ (front ++ letter ∷ []) ≢ END.now → AreAlone tool front
    → takes_of tool letter ≡ Some (Value form)
    → Sound tool first index ((DASH ∷ (front ++ letter ∷ [])) ∷ words)
value_sound tool first index [] front letter form next differs are role =
    subst (AreWords tool first index ((DASH ∷ (front ++ letter ∷ [])) ∷ []))
    (sym (missing_words tool first index front letter form differs are role))
    (missing first index front letter form differs are role)
value_sound tool first index (text ∷ words) front letter form next differs are role =
    subst (AreWords tool first index ((DASH ∷ (front ++ letter ∷ [])) ∷ text ∷ words))
    (sym (value_words tool first index front letter form text words differs are role))
    (value first index front letter form text words
    (items_from tool (ahead Any first) (index + 1 + 1) words) differs are role next)

rest_sound : (tool : Tool) (first : Bool) (index : ℕ) (words : List (List ℕ)) (b : ℕ)
    → (bs front : List ℕ) (letter : ℕ) (rest : List ℕ) (role : Option Takes)
    → ((c : Bool) → Sound tool c (index + 1) words) → Behind tool first index words
    → DASH ∷ b ∷ bs ≢ END.now → b ∷ bs ≡ front ++ letter ∷ rest → AreAlone tool front
    → takes_of tool letter ≡ role → role ≢ Some Alone
    → Sound tool first index ((DASH ∷ b ∷ bs) ∷ words)
rest_sound tool first index words b bs front letter rest (Some Alone) more next differs is are e
    stops =
    absurd (stops refl)
rest_sound tool first index words b bs front letter [] (Some (Value form)) more next differs is are
    e stops =
    subst (λ w. Sound tool first index ((DASH ∷ w) ∷ words)) (sym is)
    (value_sound tool first index words front letter form next
    (subst (λ w. DASH ∷ w ≢ END.now) is differs) are e)
rest_sound tool first index words b bs front letter (c ∷ cs) (Some (Value form)) more next differs
    is are e stops =
    options_sound tool first index words more next b bs _ differs
    (subst (λ w. AreLetters tool index w
    (flag_items index front ++ item (Given (valued letter form)) index (c ∷ cs) ∷ [])) (sym is)
    (with_text front letter form (c ∷ cs) are e (omega arith)))
rest_sound tool first index words b bs front letter rest None more next differs is are e stops =
    options_sound tool first index words more next b bs _ differs
    (subst (λ w. AreLetters tool index w (flag_items index front ++ wrong UnknownOption index ∷ []))
    (sym is) (unknown front letter rest are e))

cluster_sound : (tool : Tool) (first : Bool) (index : ℕ) (words : List (List ℕ)) (word : List ℕ)
    → ((c : Bool) → Sound tool c (index + 1) words) → Behind tool first index words → word ≢ END.now
    → is_cluster word ≡ true → Sound tool first index (word ∷ words)
cluster_sound tool first index words [] more next differs h = absurd (cc)
cluster_sound tool first index words (a ∷ []) more next differs h = absurd (cc)
cluster_sound tool first index words (a ∷ b ∷ bs) more next differs h =
    let dash : a ≡ DASH = eqb-true a DASH h in
    let differs_too : DASH ∷ b ∷ bs ≢ END.now = λ e. differs (ap (λ x. x ∷ b ∷ bs) dash ∙ e) in
    subst (λ x. Sound tool first index ((x ∷ b ∷ bs) ∷ words)) (sym dash)
    (elim (split tool (b ∷ bs)) [
      | inl are ↦ options_sound tool first index words more next b bs (flag_items index (b ∷ bs))
          differs_too (all_alone (b ∷ bs) are)
      | inr s ↦ rest_sound tool first index words b bs s.front s.letter s.rest
          (takes_of tool s.letter) more next differs_too s.is s.are refl s.stops
    ])

word_sound : (tool : Tool) (first : Bool) (index : ℕ) (words : List (List ℕ)) (word : List ℕ)
    → ((c : Bool) → Sound tool c (index + 1) words) → Behind tool first index words
    → Sound tool first index (word ∷ words)
word_sound tool first index words word more next =
    elim (same_bytes word END.now) as (λ v. same_bytes word END.now ≡ v
    → Sound tool first index (word ∷ words)) [
      | true ↦ λ t. end_sound tool first index words more next word
          ((bytes_eq-Decides word END.now).0 t)
      | false ↦ λ f.
          let differs : word ≢ END.now = λ e. let t = (bytes_eq-Decides word END.now).1 e in cc in
          elim (is_cluster word) as
          (λ v. is_cluster word ≡ v → Sound tool first index (word ∷ words)) [
            | true ↦ λ h. cluster_sound tool first index words word more next differs h
            | false ↦ λ h. operand_sound tool first index words more next word h
          ] refl
    ] refl

none_sound : (tool : Tool) (first : Bool) (index : ℕ) → Sound tool first index []
none_sound tool first index =
    subst (AreWords tool first index []) (sym (none_words tool first index)) (none first index)

sound : (tool : Tool) (first : Bool) (index : ℕ) (words : List (List ℕ))
    → Sound tool first index words
sound tool first index [] = none_sound tool first index
sound tool first index (word ∷ []) =
    word_sound tool first index [] word (λ c. none_sound tool c (index + 1)) tt
sound tool first index (word ∷ text ∷ words) =
    word_sound tool first index (text ∷ words) word (λ c. sound tool c (index + 1) (text ∷ words))
    (sound tool first (index + 1 + 1) words)

pub words_mean : (tool : Tool) (index : ℕ) (words : List (List ℕ)) (items : List Item)
    → (items_of tool index words ≡ items) ↔ AreWords tool true index words items
words_mean tool index words items = (
  λ read. subst (AreWords tool true index words) read (sound tool true index words),
  complete tool true index words items,
)
