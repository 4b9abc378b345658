-- Where an audit agrees.
use Rattle.std.specs.Prelude.{◌≡◌, ℕ, List, Option, IfSome}
use Rattle.report_text.specs.Texts.{report_of}
use Rattle.setfattr_dump.specs.Texts.{dump_text}
use Rattle.relabel_core.specs.Changes.{changes}
use Rattle.relabel_core.specs.Walk.{Walk, messages}

-- the report is all of the walk's report, and the dump, where there is one, all of its dump
abbrev pub AreWhole : Walk → (report : List ℕ) → (dump : Option (List ℕ)) → Type 0
AreWhole w report dump =
    (report ≡ report_of (messages w)) × IfSome dump (λ bytes. bytes ≡ dump_text (changes w))
