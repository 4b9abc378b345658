use Rattle.std.proofs.Common.{◌∷◌, [], refl, List}
use Rattle.pattern_syntax.specs.ByteSet.{bytes_with, has_byte}
use Rattle.pattern_syntax.specs.Tree.{Tree}
use Rattle.pattern_syntax.specs.Reading.{Reading}
use Rattle.pattern_syntax.specs.Building.{IsBuilderOf}
use Rattle.pattern_syntax.proofs.builder.Builder.add.Goals as goal

pub returns-in_ok-add_piece-in-Byte : goal.returns-in_ok-add_piece-in-Byte
returns-in_ok-add_piece-in-Byte c = λ (read : Reading) (s : IsBuilderOf c.args.self.now read).
    rw c.in-Byte.is (
      refl,
      c.in_ok-add_piece-in-Byte.ensures read (c.in-Byte.b ∷ []) s
          (rw c.in-Byte.is at c.requires) (λ (stack : List Tree). refl),
    )

pub returns-in_ok-add_piece-in-Set : goal.returns-in_ok-add_piece-in-Set
returns-in_ok-add_piece-in-Set c = λ (read : Reading) (s : IsBuilderOf c.args.self.now read).
    rw c.in-Set.is (
      refl,
      c.in_ok-add_piece-in-Set.ensures read (bytes_with (has_byte c.in-Set.set)) s
          (rw c.in-Set.is at c.requires) (λ (stack : List Tree). refl),
    )
