-- What a look-up found, where a call told it by a reference.
use Rattle.std.proofs.Common.{◌≡◌, false, Option, Some, None, option_map, is_some, Bor, sym, ◌∙◌, ap}

pub found : {A : Type 0} (r : Option (Bor A)) (x : Bor A) (o : Option A) → r ≡ Some x → option_map (λ (y : Bor A). y.now) r ≡ o → o ≡ Some x.now
found {A} r x o is told = sym told ∙ ap (option_map (λ (y : Bor A). y.now)) is

pub none_found : {A : Type 0} (r : Option (Bor A)) (o : Option A) → is_some r ≡ false → option_map (λ (y : Bor A). y.now) r ≡ o → o ≡ None
none_found None o is told = sym told
none_found (Some x) o is told = absurd (cc is)
