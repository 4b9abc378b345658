use Rattle.std.proofs.Common.{◌≡◌, ◌++◌, length}
use Rattle.std.specs.Str.{IsUtf8}
use Rattle.tool_words.specs.Items.{letters_say}
use Rattle.tool_words.proofs.cutting.add_letters.Given as goal

-- what was said so far, and what the letters that are left say
abbrev pub invariant-letters : goal.invariant-letters
invariant-letters l = record {
  items : l.items ++ (letters_say l.tool l.index l.left).0 ≡ l.initial.items
      ++ (letters_say l.tool l.index l.letters).0;
  expects : (letters_say l.tool l.index l.left).1 ≡ (letters_say l.tool l.index l.letters).1;
  text : IsUtf8 l.left;
}

abbrev pub decreases-letters : goal.decreases-letters
decreases-letters l = length l.left
