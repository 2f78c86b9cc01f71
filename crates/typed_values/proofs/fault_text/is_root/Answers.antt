use Rattle.std.proofs.Common.{◌≡◌, ℕ, Bool, true, false, List, bytes_eq, refl, ◌∙◌, sym, ap}
use Rattle.std.specs.Prelude.{codes, ◌↔◌, IsTrue}
use Rattle.std.specs.Str.{chars}
use Rattle.descriptors.proofs.CallerLemmas.{same_name, other_name}
use Rattle.typed_values.proofs.fault_text.is_root.Goals as goal

dot : chars (codes ".") ≡ codes "."
unfolding chars
dot = refl

by_equality : (b : Bool) (name other : List ℕ) → (IsTrue b ↔ (name ≡ other)) → b ≡ bytes_eq name other
by_equality true name other h = sym (ap (bytes_eq name) (sym (h.0 refl)) ∙ same_name name)
by_equality false name other h = sym (other_name name other (λ e. cc (h.1 e)))

pub returns : goal.returns
returns c = by_equality c.equals_str.result c.args.path.now (chars (codes ".")) c.equals_str.ensures ∙ ap (bytes_eq c.args.path.now) dot
