-- Records of a format, entry by entry.
use Rattle.std.proofs.Common.{◌≡◌, ap, ℕ, zero, suc, List, [], ◌∷◌, Option, is_some, arith}
use Rattle.find_records.specs.Record.{AreOfFormat, CountsBy, Record}
use Rattle.find_records.specs.declared.format.Format.{Format}
use Rattle.find_records.specs.declared.format.Format.TheVariants.{One, Two}
use Rattle.relabel_core.specs.Formats.{HaveLinks, has_links}

links_shown : (format : Format) (links : Option ℕ) → CountsBy format links
    → is_some links ≡ has_links format
links_shown One links h = ap is_some h
links_shown Two links h = h

pub have_links : (format : Format) (records : List Record) → AreOfFormat format records
    → HaveLinks format records
have_links format [] h e l = absurd (omega (arith, l))
have_links format (r ∷ records) h zero l = links_shown format r.links h.0
have_links format (r ∷ records) h (suc e) l = have_links format records h.1 e (omega (arith, l))
