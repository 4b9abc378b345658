use Rattle.std.proofs.Common.{◌≡◌, true}
use Rattle.std.specs.Prelude.{take}
use Rattle.std.specs.List.{list_all}
use Rattle.pattern_syntax.specs.Exact.{is_itself}
use Rattle.pattern_syntax.specs.Shape.{are_text_bytes}
use Rattle.pattern_syntax.proofs.exact.plain_run.Given as goal

-- all so far stand for themselves
abbrev pub invariant-bytes : goal.invariant-bytes
invariant-bytes l = record {
  count : l.length ≡ l.byte-index;
  plain : list_all is_itself (take l.byte-index l.text) ≡ true;
  proper : are_text_bytes (take l.byte-index l.text) ≡ true;
}
