-- Labels that are kept beside their spellings.
use Rattle.std.specs.Prelude.{◌≡◌, List, length, map, take}
use Rattle.std.specs.List.{AllByRecursion}
use Rattle.context_syntax.specs.Label.{label_of}
use Rattle.context_syntax.specs.declared.label.Label.{Label}
use Rattle.find_records.specs.declared.labels.Spelled.{Spelled}

abbrev pub labels_in : List Spelled → List Label
labels_in known = map (λ spelled. spelled.label) known

-- each label is what the bytes beside it spell
abbrev pub AreLabelsSpelled : List Spelled → Type 0
AreLabelsSpelled known = AllByRecursion (λ spelled. spelled.label ≡ label_of spelled.text.items)
    known

-- the later list begins with the earlier one
abbrev pub Extends : {X : Type 0} → List X → List X → Type 0
Extends earlier later = take (length earlier) later ≡ earlier
