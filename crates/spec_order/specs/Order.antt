-- The order of specifications: the exact texts last, and each half as it was read.
use Rattle.std.specs.Prelude.{Bool, not, List, ◌++◌, filter}
use Rattle.pattern_syntax.specs.Exact.{is_exact_text}
use Rattle.spec_reader.specs.SpecValue.{SpecValue}

abbrev pub is_exact_spec : SpecValue → Bool
is_exact_spec spec = is_exact_text spec.text

abbrev pub is_pattern_spec : SpecValue → Bool
is_pattern_spec spec = not (is_exact_text spec.text)

abbrev pub in_order : List SpecValue → List SpecValue
in_order specs = filter is_pattern_spec specs ++ filter is_exact_spec specs
