-- How many errors a walk meets.
use Rattle.std.proofs.Common.{◌≡◌, refl, Option, Some, None}
use Rattle.std.specs.Prelude.{is_some, option_map}

pub some_shown : {A B : Type 0} (f : A → B) (found : Option A) → is_some (option_map f found)
    ≡ is_some found
some_shown f None = refl
some_shown f (Some x) = refl
