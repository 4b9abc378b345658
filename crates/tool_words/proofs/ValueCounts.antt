-- No more values of a letter are read than there may be.
use Rattle.std.proofs.Common.{◌≡◌, ◌∙◌, ap, sym, subst, refl, cond, ℕ, zero, suc, ◌+◌, ◌-◌, ◌≤◌}
use Rattle.std.proofs.Common.{◌==◌, arith, Bool, true, false, List, [], ◌∷◌, length}
use Rattle.std.specs.Prelude.{◌&&◌, if◌then◌else◌, Option, Some, None, Result, Ok, Err, IfOk}
use Rattle.std.specs.List.{cons_option}
use Rattle.label_base.specs.Answers.{Answers, fault_cause}
use Rattle.label_base.specs.Lines.{first_of}
use Rattle.label_base.specs.declared.fault.Fault.{Fault}
use Rattle.tool_words.specs.Items.{Item, wrong}
use Rattle.tool_words.specs.Words.{all_within, is_letter_given, room_behind, text_if, unless_wrong}
use Rattle.tool_words.specs.Words.{values_of, within_room}
use Rattle.tool_words.specs.Values.{first_wrong, item_wrong}
use Rattle.tool_words.specs.declared.usage.Usage.{Usage}
use Rattle.tool_words.specs.declared.usage.UsageWhy.TheVariants.{BadNumber}

-- where nothing is wrong, nothing is wrong with the first, and with the others
parts_right : (found : Option Usage) (others : List Usage)
    → first_of (cons_option found others) ≡ None → (found ≡ None) × (first_of others ≡ None)
parts_right None others right = (refl, right)
parts_right (Some why) others right = absurd cc

-- a value takes room, which there was
has_room : (given : Bool) (room : ℕ) (item : Item) (rest : List (List ℕ))
    → item_wrong (if given && (room == 0) then wrong BadNumber item.index else item) ≡ None
    → length rest ≤ (if given then room - 1 else room)
    → length (cons_option (text_if given item.text) rest) ≤ room
has_room false room item rest right few = few
has_room true zero item rest right few = absurd cc
has_room true (suc room) item rest right few = omega (arith, few)

values_within : (letter room : ℕ) (items : List Item)
    → first_wrong (all_within letter room items) ≡ None → length (values_of letter items) ≤ room
values_within letter room [] right = omega arith
values_within letter room (item ∷ items) right =
    let parts = parts_right (item_wrong (within_room letter room item)) _ right in
    has_room (is_letter_given letter item.says) room item (values_of letter items) parts.0
    (values_within letter (room_behind letter room item) items parts.1)

none_wrong : (found : Option Usage) (meant items : List Item)
    → unless_wrong found meant ≡ Ok items → (found ≡ None) × (meant ≡ items)
none_wrong None meant items is = (refl, cc)
none_wrong (Some why) meant items is = absurd cc

pub values_few : (letter most : ℕ) (meant : List Item) (result : Result (List Item) (Fault Usage))
    → Answers (λ items. items) fault_cause result
    (unless_wrong (first_wrong (all_within letter most meant)) meant)
    → IfOk result (λ items. length (values_of letter items) ≤ most)
values_few letter most meant (Ok items) is =
    let right = none_wrong (first_wrong (all_within letter most meant)) meant items is in
    subst (λ (xs : List Item). length (values_of letter xs) ≤ most) right.1
    (values_within letter most meant right.0)
values_few letter most meant (Err fault) is = tt
