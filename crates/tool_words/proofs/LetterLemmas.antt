-- One letter more, and that letters are bytes of ASCII.
use Rattle.std.proofs.Common.{◌≡◌, ◌∙◌, ap, sym, refl, ℕ, ◌<◌, ◌≤◌, true, false, cond, List, []}
use Rattle.std.proofs.Common.{◌∷◌, ◌++◌, length, drop, get_or, append_assoc, arith}
use Rattle.std.specs.Prelude.{nat_lt, Option, Some, None}
use Rattle.std.proofs.lemmas.Bool.{ltb-true}
use Rattle.tool_words.specs.Items.{Item, flag, letters_say, with_letter}
use Rattle.tool_words.specs.Tool.{Tool, row_takes, takes_of}
use Rattle.tool_words.specs.declared.cutting.Expects.TheVariants.{Any}
use Rattle.tool_words.specs.declared.letters.Form.{Form}
use Rattle.tool_words.specs.declared.letters.Takes.{Takes}
use Rattle.tool_words.specs.declared.letters.Takes.TheVariants.{Flag as Alone, Value}

-- the first letter, which is this to the tool, and what stands behind it
pub letter_more : (tool : Tool) (index : ℕ) (text rest : List ℕ) (letter : ℕ) (role : Option Takes)
    → 0 < length text → get_or text 0 0 ≡ letter → role ≡ takes_of tool letter → rest ≡ drop 1 text
    → letters_say tool index text ≡ with_letter index letter role rest (letters_say tool index rest)
unfolding letters_say
letter_more tool index [] rest letter role some first is behind = absurd (omega (arith, some))
letter_more tool index (b ∷ bs) rest letter role some first is behind =
    ap (λ l. with_letter index l (takes_of tool l) bs (letters_say tool index bs)) first
    ∙ ap (λ u. with_letter index letter u bs (letters_say tool index bs)) (sym is)
    ∙ ap (λ r. with_letter index letter role r (letters_say tool index r)) (sym behind)

-- so it goes on behind a letter that stands alone
pub alone_more : (tool : Tool) (index : ℕ) (text rest letters : List ℕ) (letter : ℕ)
    (items new old : List Item) → letters_say tool index text ≡ with_letter index letter
    (Some Alone) rest (letters_say tool index rest) → new ≡ items ++ flag letter index ∷ []
    → items ++ (letters_say tool index text).0 ≡ old ++ (letters_say tool index letters).0
    → new ++ (letters_say tool index rest).0 ≡ old ++ (letters_say tool index letters).0
alone_more tool index text rest letters letter items new old says added so_far =
    ap (λ xs. xs ++ (letters_say tool index rest).0) added
    ∙ append_assoc items (flag letter index ∷ []) (letters_say tool index rest).0
    ∙ ap (λ s. items ++ s.0) (sym says)
    ∙ so_far

-- where no letter is left
pub letters_end : (tool : Tool) (index : ℕ) (text : List ℕ) → length text ≤ 0
    → letters_say tool index text ≡ ([], Any)
unfolding letters_say
letters_end tool index [] none = refl
letters_end tool index (b ∷ bs) none = absurd (omega (arith, none))

takes_ascii : (tool : Tool) (b : ℕ) (takes : Takes) → takes_of tool b ≡ Some takes → b < 128
unfolding takes_of
takes_ascii tool b takes h =
    elim (nat_lt b 128) as (λ v. nat_lt b 128 ≡ v
    → cond v (row_takes tool.letters b) None ≡ Some takes → b < 128) [
      | true ↦ λ t _. ltb-true b 128 t
      | false ↦ λ _ k. absurd (cc)
    ] refl h

pub alone_ascii : (tool : Tool) (b : ℕ) → takes_of tool b ≡ Some Alone → b < 128
alone_ascii tool b h = takes_ascii tool b Alone h

pub value_ascii : (tool : Tool) (b : ℕ) (form : Form)
    → takes_of tool b ≡ Some (Value form) → b < 128
value_ascii tool b form h = takes_ascii tool b (Value form) h
