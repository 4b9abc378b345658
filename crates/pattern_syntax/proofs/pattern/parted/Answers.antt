use Rattle.std.proofs.Common.{◌≡◌, ◌∙◌, sym, refl, true, false}
use Rattle.pattern_syntax.specs.Literal.{is_several}
use Rattle.pattern_syntax.specs.Parts.{pattern_tree}
use Rattle.pattern_syntax.proofs.StartLemmas.{parts_start, sides_start, sides_tree}
use Rattle.pattern_syntax.proofs.pattern.parted.Goals as goal

pub returns-then-have_sides : goal.returns-then-have_sides
returns-then-have_sides c =
    let several : is_several (pattern_tree c.args.start c.args.nodes.items) ≡ true =
    rw (c.as_slice.ensures, c.as_slice-2.ensures.value) at
    (sym c.have_sides.ensures ∙ c.if-have_sides.true) in
    let same =
    rw (c.as_slice-then-have_sides.ensures, c.as_slice-then-have_sides-2.ensures.value) at
    c.in_ok-all.ensures in
    rw c.new.ensures (
      sides_start c.args.start c.args.nodes.items c.in_ok-all.all.items same
          c.requires several,
      sides_tree c.args.start c.args.nodes.items c.in_ok-all.all.items same,
    )

pub returns : goal.returns
returns c =
    let single : is_several (pattern_tree c.args.start c.args.nodes.items) ≡ false =
    rw (c.as_slice.ensures, c.as_slice-2.ensures.value) at
    (sym c.have_sides.ensures ∙ c.if-have_sides.false) in
    (parts_start c.args.start c.args.nodes.items c.requires single, refl)
