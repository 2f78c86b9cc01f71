-- The start that bytes hold is sound, and a token is refused for what its bytes are.
use Rattle.std.proofs.Common.{◌≡◌, ◌≤◌, ◌⊎◌, inl, inr, ap, ℕ, List, [], ◌∷◌, length, Bool, true, false, Some, bytes_eq, codes, cond, refl, sym, subst}
use Rattle.std.specs.declared.result.Result.{Result}
use Rattle.std.specs.declared.result.Result.TheVariants.{Ok, Err}
use Rattle.std.specs.Prelude.{IfOk, IfErr}
use Rattle.base64.specs.Engines.{url_safe}
use Rattle.base64.specs.GeneralPurpose.{decode_of}
use Rattle.std.specs.List.{AllByRecursion}
use Rattle.schema_values.specs.declared.json_value.Json.{Json}
use Rattle.schema_values.specs.declared.json_value.Json.TheOpen.{Json-F}
use Rattle.schema_values.specs.declared.json_value.Json.TheVariants.{rolls-Object}
use Rattle.schema_values.specs.declared.json_value.Json.TheViews.{roll-Json, roll-out-Json, out-roll-Json}
use Rattle.schema_values.specs.declared.json_value.Json.{out-Json}
use Rattle.schema_values.specs.declared.json_value.Member.{Member}
use Rattle.schema_values.specs.Get.{get_of, first_named}
use Rattle.schema_values.specs.Reading.{Reads}
use Rattle.schema_values.specs.Sound.{IsSound}
use Rattle.schema_values.specs.SoundMembers.{HasSoundValue}
use Rattle.schema_values.proofs.CallerLemmas.{IsSound-Object, one_reading, reading_sound}
use Rattle.descriptors.specs.declared.desc.Desc.{Desc}
use Rattle.descriptors.specs.declared.table.Definition.{Definition}
use Rattle.descriptors.specs.declared.tree.Tree.{Tree}
use Rattle.typed_values.specs.Denotes.{JsonDenotes}
use Rattle.page_tokens.specs.declared.token_error.TokenError.{TokenError}
use Rattle.page_tokens.specs.declared.token_error.TokenError.TheVariants.{TooLarge, NotBase64, Corrupted, OutOfMemory}
use Rattle.page_tokens.specs.Forms.{Form, v1}
use Rattle.page_tokens.specs.Tokens.{AreBytesRefused, HoldsStart, IsTokenRefused}

-- ---- the values of members that are found

first_sound : (name : List ℕ) (ms : List Member) (start : Json) → AllByRecursion HasSoundValue ms → first_named name ms ≡ Some start → IsSound start
first_sound name [] start all e = absurd (cc e)
first_sound name (m ∷ ms) start all e = by (bytes_eq name m.name) e (first_sound name ms start all.1)
  where
    by : (b : Bool) → cond b (Some m.value) (first_named name ms) ≡ Some start → (first_named name ms ≡ Some start → IsSound start) → IsSound start
    by true e later = let same : m.value ≡ start = cc e in subst IsSound same all.0
    by false e later = later e

found_in : (name : List ℕ) (start : Json) (x : Json-F Json Member) → IsSound (roll-Json x) → get_of name (roll-Json x) ≡ Some start → IsSound start
found_in name start Json-F.Null sound e = let found = rw (out-roll-Json Json-F.Null) at e in absurd (cc found)
found_in name start (Json-F.Bool b) sound e = let found = rw (out-roll-Json (Json-F.Bool b)) at e in absurd (cc found)
found_in name start (Json-F.Int n) sound e = let found = rw (out-roll-Json (Json-F.Int n)) at e in absurd (cc found)
found_in name start (Json-F.Text t) sound e = let found = rw (out-roll-Json (Json-F.Text t)) at e in absurd (cc found)
found_in name start (Json-F.List js) sound e = let found = rw (out-roll-Json (Json-F.List js)) at e in absurd (cc found)
found_in name start (Json-F.Object ms) sound e =
    let found = rw (out-roll-Json (Json-F.Object ms)) at e in first_sound name ms start ((IsSound-Object ms).0 (subst IsSound (rolls-Object ms) sound)).0 found

pub start_sound : (bytes : List ℕ) (json start : Json) → Reads bytes json → v1.HasStart json start → IsSound start
start_sound bytes json start reads has =
    found_in (codes "page_start") start (out-Json json) (subst IsSound (sym (roll-out-Json json)) (reading_sound bytes json reads))
    (subst (λ (j : Json). get_of (codes "page_start") j ≡ Some start) (sym (roll-out-Json json)) has.1)

-- ---- what is refused, by what its bytes are refused for

module _ (form : Form) (table : List Definition) (selector : Desc) (token bytes : List ℕ) (decodes : decode_of url_safe token ≡ Ok bytes) where
  pub token_refused : length token ≤ 512 → (error : TokenError) → AreBytesRefused form table selector bytes error → IsTokenRefused form table selector token error
  token_refused small (TooLarge size) refused = absurd refused
  token_refused small NotBase64 refused = absurd refused
  token_refused small Corrupted refused = (small, bytes, decodes, refused)
  token_refused small OutOfMemory refused = tt

-- ---- a token that reads

-- there is one start at most
one_start : (json a b : Json) → v1.HasStart json a → v1.HasStart json b → a ≡ b
one_start json a b first second = cc (first.1, second.1)

module _ (table : List Definition) (selector : Desc) (bytes : List ℕ) where
  -- and so one tree at most
  one_tree : (a b : Tree) → HoldsStart v1 table selector bytes a → HoldsStart v1 table selector bytes b → a ≡ b
  one_tree a b first second =
      let json = one_reading bytes first.json second.json first.reads second.reads in
      let start = one_start second.json first.start second.start (subst (λ (j : Json). v1.HasStart j first.start) json first.has_start) second.has_start in
      let told = subst (λ (s : Json). JsonDenotes table selector s a) start first.denotes in
      cc (told, second.denotes)

  module _ (tree : Tree) (holds : HoldsStart v1 table selector bytes tree) where
    only_memory : (error : TokenError) → AreBytesRefused v1 table selector bytes error → error ≡ OutOfMemory
    only_memory (TooLarge size) refused = absurd refused
    only_memory NotBase64 refused = absurd refused
    only_memory Corrupted refused = absurd (refused tree holds)
    only_memory OutOfMemory refused = refl

    -- the answer is the tree that the bytes hold, unless memory runs out
    pub tree_told : (result : Result Tree TokenError) → IfOk result (HoldsStart v1 table selector bytes) → IfErr result (AreBytesRefused v1 table selector bytes) → (result ≡ Ok tree) ⊎ (result ≡ Err OutOfMemory)
    tree_told (Ok read) held refused = inl (ap Ok (one_tree read tree held holds))
    tree_told (Err error) held refused = inr (ap Err (only_memory error refused))
