-- The file of a sample is accepted.
use Rattle.std.proofs.Common.{refl}
use Rattle.std.specs.Prelude.{IsOk}
use Rattle.file_roles.specs.declared.role.Part.TheVariants.{Base}
use Rattle.spec_reader.specs.SpecLines.{specs_of, with_decision, with_pattern}
use Rattle.pattern_syntax.specs.Reading.{first_fault, pattern_of, reads_as}
use Rattle.pattern_syntax.specs.Tokens.{end_anchor, group_at, marked_repeat, repeat_or_byte}
use Rattle.pattern_syntax.specs.Tokens.{start_anchor, token_at, tokens_from}
use Rattle.pattern_syntax.specs.Brackets.{dash_part, inner_bracket, item_at, part_behind}
use Rattle.pattern_syntax.specs.Brackets.{parts_from, set_at}
use Rattle.pattern_syntax.specs.ByteSet.{bytes_with}
use Rattle.sample_tree.specs.declared.records.TheConstants.{SPECS}

pub specs_ok : IsOk (specs_of Base 65536 SPECS.now)
unfolding with_decision with_pattern first_fault pattern_of reads_as end_anchor group_at
    marked_repeat repeat_or_byte start_anchor token_at tokens_from dash_part inner_bracket item_at
    part_behind parts_from set_at bytes_with
specs_ok = refl
