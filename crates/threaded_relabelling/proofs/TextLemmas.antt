-- The texts of all entries in a row are the lines of the report, and the sections of the dump.
use Rattle.std.proofs.Common.{◌≡◌, ◌∙◌, sym, refl, ap, ℕ, zero, suc, ◌+◌, List, [], ◌++◌, arith}
use Rattle.report_text.specs.Texts.{report_of}
use Rattle.setfattr_dump.specs.Texts.{dump_text}
use Rattle.relabel_core.specs.Changes.{changes, optional_section, section_at}
use Rattle.relabel_core.specs.Report.{optional_text, text_below}
use Rattle.relabel_core.specs.Walk.{Walk, walk_count, entry_lines, line}
use Rattle.relabel_core.proofs.DumpLemmas.{section_more, sections_below}
use Rattle.relabel_core.proofs.ReportLemmas.{text_more}
use Rattle.threaded_texts.specs.Stretch.{stretch}

no_lines : (w : Walk) → [] ≡ text_below (line w) 0
unfolding report_of
no_lines w = refl

lines_below : (w : Walk) (n : ℕ) → stretch (λ e. optional_text (line w e)) 0 n ≡ text_below (line w)
    n
lines_below w zero = no_lines w
lines_below w (suc n) =
    let here : 0 + n ≡ n = omega arith in
    let one : n + 1 ≡ suc n = omega arith in
    ap (λ k. stretch (λ e. optional_text (line w e)) 0 n ++ optional_text (line w k)) here
    ∙ ap (λ t. t ++ optional_text (line w n)) (lines_below w n)
    ∙ sym (text_more (line w) n) ∙ ap (text_below (line w)) one

no_sections : (w : Walk) → [] ≡ sections_below w 0
unfolding dump_text
no_sections w = refl

sections_all : (w : Walk) (n : ℕ)
    → stretch (λ e. optional_section (section_at w e)) 0 n ≡ sections_below w n
sections_all w zero = no_sections w
sections_all w (suc n) =
    let here : 0 + n ≡ n = omega arith in
    let one : n + 1 ≡ suc n = omega arith in
    ap (λ k. stretch (λ e. optional_section (section_at w e)) 0 n ++ optional_section
    (section_at w k)) here
    ∙ ap (λ t. t ++ optional_section (section_at w n)) (sections_all w n)
    ∙ section_more w n [] (sections_below w n)
    (sections_below w n ++ optional_section (section_at w n)) refl refl
    ∙ ap (sections_below w) one

-- so many entries are all of them
pub lines_made : (w : Walk) (to made : List ℕ) (n : ℕ) → n ≡ walk_count w
    → made ≡ to ++ stretch (λ e. optional_text (line w e)) 0 n
    → made ≡ to ++ report_of (entry_lines w)
lines_made w to made n all m =
    m ∙ ap (λ k. to ++ stretch (λ e. optional_text (line w e)) 0 k) all
    ∙ ap (λ t. to ++ t) (lines_below w (walk_count w))

pub sections_made : (w : Walk) (to made : List ℕ) (n : ℕ) → n ≡ walk_count w
    → made ≡ to ++ stretch (λ e. optional_section (section_at w e)) 0 n
    → made ≡ to ++ dump_text (changes w)
sections_made w to made n all m =
    m ∙ ap (λ k. to ++ stretch (λ e. optional_section (section_at w e)) 0 k) all
    ∙ ap (λ t. to ++ t) (sections_all w (walk_count w))
