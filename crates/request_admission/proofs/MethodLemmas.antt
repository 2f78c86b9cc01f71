-- The name under which a path has the operation of a method, where the method's bytes are known.
use Rattle.std.proofs.Common.{◌≡◌, ◌≢◌, ℕ, List, Some, None, IsTrue, IsUtf8, chars, codes, refl, sym, ◌∙◌, ap}
use Rattle.schema_values.specs.Ascii.{all_ascii}
use Rattle.openapi_values.specs.Admits.{method_member}
use Rattle.request_words.proofs.CallerLemmas.{chars-word}
use Rattle.request_admission.proofs.WordLemmas.{chars-is, other_word}

-- a method, and the name of its member
pub member_named : (method name member : List ℕ) → method ≡ name → IsTrue (all_ascii name) → IsTrue (all_ascii member) → method_member name ≡ Some member → Some (chars member) ≡ method_member (chars method)
member_named method name member is ascii member_ascii found =
    ap Some (chars-word member member_ascii) ∙ sym found ∙ ap method_member (sym (chars-is method name is ascii))

-- a text that is no method
pub member_missing : (method : List ℕ) → IsUtf8 method → method ≢ codes "GET" → method ≢ codes "PUT" → method ≢ codes "POST" → method ≢ codes "DELETE" → method ≢ codes "OPTIONS" → method ≢ codes "HEAD" → method ≢ codes "PATCH" → method ≢ codes "TRACE" → None ≡ method_member (chars method)
member_missing method utf8 get put post delete options head patch trace =
    rw (other_word method (codes "GET") utf8 get refl, other_word method (codes "PUT") utf8 put refl, other_word method (codes "POST") utf8 post refl, other_word method (codes "DELETE") utf8 delete refl, other_word method (codes "OPTIONS") utf8 options refl, other_word method (codes "HEAD") utf8 head refl, other_word method (codes "PATCH") utf8 patch refl, other_word method (codes "TRACE") utf8 trace refl) refl
