use Rattle.std.proofs.Common.{◌≡◌, ℕ, suc, true, ◌&&◌, List, [], ◌∷◌, nat_lt, ap₂, arith, refl}
use Rattle.std.proofs.lemmas.Bool.Decides.{nat_tests}
use Rattle.std.specs.Prelude.{All, IsTrue}
use Rattle.http_header.specs.Token.{is_token_byte}
use Rattle.http_header.proofs.TokenLemmas.{token_byte_range}
use Rattle.schema_values.specs.Ascii.{all_ascii}
use Rattle.endpoint_checks.proofs.paths.push_method.Goals as goal

token_below : (byte : ℕ) → IsTrue (is_token_byte byte) → nat_lt byte 128 ≡ true
token_below byte token = let range = token_byte_range byte token in grind (arith, nat_tests)

token_ascii : (bytes : List ℕ) → All (λ byte. IsTrue (is_token_byte byte)) bytes → all_ascii bytes ≡ true
token_ascii [] each = refl
token_ascii (byte ∷ rest) each =
    ap₂ (λ a b. a && b) (token_below byte (each 0 0 (omega arith))) (token_ascii rest (λ k d below. each (suc k) d (omega arith)))

pub push_ascii-requires : goal.push_ascii-requires
push_ascii-requires c = rw c.as_str.ensures.value (token_ascii c.args.method.now c.as_str.ensures.valid.1)
