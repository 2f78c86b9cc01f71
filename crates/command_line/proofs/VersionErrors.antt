-- No text of a version is refused for want of memory.
use Rattle.std.proofs.Common.{◌≡◌, ◌≢◌, ℕ, ◌+◌, ◌-◌, ◌*◌, ◌==◌, List, [], ◌∷◌, Bool, true, false, Ok, Err, Result}
use Rattle.std.proofs.Common.{subst, refl}
use Rattle.std.specs.Prelude.{if◌then◌else◌, IfErr, nat_lt, nat_le, ◌^◌}
use Rattle.std.specs.Char.{is_ascii_digit}
use Rattle.semver.specs.declared.error.Error.{Error}
use Rattle.semver.specs.declared.error.ErrorKind.{ErrorKind}
use Rattle.semver.specs.declared.error.ErrorKind.TheVariants as kind
use Rattle.semver.specs.declared.error.Position.{Position}
use Rattle.semver.specs.declared.error.Position.TheVariants as place
use Rattle.semver.specs.Parse.{◌>>=◌, fail, is_memory, memory_error, end_error, digits_end, digits_from, dot_of}
use Rattle.semver.specs.Parse.{is_bad_zero, is_leading_zero, is_letter, starts_zero, part_end, scan, identifier_of}
use Rattle.semver.specs.Parse.{tail_end, tail_build, tail_pre, version_parts, Parts, IsRefused}

-- an error is no want of memory
record Tame {A : Type 0} (r : Result A Error) : Type 0 where
  no_memory : IfErr r (λ e. is_memory e.kind ≡ false)

tame-ok : {A : Type 0} {x : A} → Tame {A = A} (Ok x)
tame-ok = record { no_memory = tt }

tame-fail : {A : Type 0} (k : ErrorKind) → is_memory k ≡ false → Tame {A = A} (fail k)
tame-fail k e = record { no_memory = e }

tame-if : {A : Type 0} (b : Bool) (r s : Result A Error) → Tame r → Tame s → Tame (if b then r else s)
tame-if true r s t u = t
tame-if false r s t u = u

tame-bind : {A B : Type 0} (r : Result A Error) (f : A → Result B Error) → Tame r → ((x : A) → Tame (f x))
    → Tame (r >>= f)
tame-bind (Ok x) f t u = u x
tame-bind (Err e) f t u = record { no_memory = t.no_memory }

end-error : (pos : Position) (xs : List ℕ) → Tame (end_error pos xs)
end-error pos [] = tame-fail _ refl
end-error pos (b ∷ rest) = tame-fail _ refl

digits-end : (pos : Position) (value len : ℕ) (rest : List ℕ) → Tame (digits_end pos value len rest)
digits-end pos value len rest = tame-if (nat_lt 0 len) _ _ tame-ok (end-error pos rest)

digits : (pos : Position) (value len : ℕ) (xs : List ℕ) → Tame (digits_from pos value len xs)
unfolding digits_from
digits pos value len [] = digits-end pos value len []
digits pos value len (b ∷ rest) = tame-if (is_ascii_digit b) _ _
    (tame-if (is_leading_zero value len) _ _ (tame-fail (kind.LeadingZero pos) refl)
    (tame-if (nat_le (2 ^ 64) (value * 10 + (b - 48))) _ _ (tame-fail (kind.Overflow pos) refl)
    (digits pos (value * 10 + (b - 48)) (len + 1) rest)))
    (digits-end pos value len (b ∷ rest))

dot : (pos : Position) (xs : List ℕ) → Tame (dot_of pos xs)
dot pos [] = tame-fail _ refl
dot pos (b ∷ rest) = tame-if _ _ _ tame-ok (tame-fail _ refl)

part-end : (pos : Position) (acc seg : ℕ) (nondigit lead : Bool) → Tame (part_end pos acc seg nondigit lead)
part-end pos acc seg nondigit lead =
    tame-if _ _ _ (tame-if _ _ _ tame-ok (tame-fail _ refl)) (tame-if _ _ _ (tame-fail _ refl) tame-ok)

scanned : (pos : Position) (acc seg : ℕ) (nondigit lead : Bool) (xs : List ℕ) → Tame (scan pos acc seg nondigit lead xs)
unfolding scan
scanned pos acc seg nondigit lead [] = part-end pos acc seg nondigit lead
scanned pos acc seg nondigit lead (b ∷ rest) = tame-if (is_letter b) _ _ (scanned pos acc (seg + 1) true lead rest)
    (tame-if (is_ascii_digit b) _ _ (scanned pos acc (seg + 1) nondigit (starts_zero lead seg b) rest)
    (tame-if (b == 46) _ _
    (tame-if (seg == 0) _ _ (tame-fail (kind.EmptySegment pos) refl)
    (tame-if (is_bad_zero pos seg nondigit lead) _ _ (tame-fail (kind.LeadingZero pos) refl)
    (scanned pos (acc + seg + 1) 0 false false rest)))
    (part-end pos acc seg nondigit lead)))

identifier : (pos : Position) (xs : List ℕ) → Tame (identifier_of pos xs)
identifier pos xs = tame-bind _ _ (scanned pos 0 0 false false xs) (λ n. tame-if _ _ _ (tame-fail _ refl) tame-ok)

tail-end : (pos : Position) (major minor patch : ℕ) (pre build xs : List ℕ)
    → Tame (tail_end pos major minor patch pre build xs)
tail-end pos major minor patch pre build [] = tame-ok
tail-end pos major minor patch pre build (b ∷ rest) = tame-fail _ refl

tail-build : (pos : Position) (major minor patch : ℕ) (pre xs : List ℕ) → Tame (tail_build pos major minor patch pre xs)
tail-build pos major minor patch pre [] = tail-end pos major minor patch pre [] []
tail-build pos major minor patch pre (b ∷ rest) = tame-if _ _ _
    (tame-bind _ _ (identifier place.Build rest) (λ x. tail-end place.Build major minor patch pre x.0 x.1))
    (tail-end pos major minor patch pre [] (b ∷ rest))

tail-pre : (major minor patch : ℕ) (xs : List ℕ) → Tame (tail_pre major minor patch xs)
tail-pre major minor patch [] = tail-build place.Patch major minor patch [] []
tail-pre major minor patch (b ∷ rest) = tame-if _ _ _
    (tame-bind _ _ (identifier place.Pre rest) (λ x. tail-build place.Pre major minor patch x.0 x.1))
    (tail-build place.Patch major minor patch [] (b ∷ rest))

version : (text : List ℕ) → Tame (version_parts text)
version text = tame-if _ _ _ (tame-fail _ refl)
    (tame-bind _ _ (digits place.Major 0 0 text) (λ x.
    tame-bind _ _ (dot place.Major x.1) (λ t.
    tame-bind _ _ (digits place.Minor 0 0 t) (λ y.
    tame-bind _ _ (dot place.Minor y.1) (λ u.
    tame-bind _ _ (digits place.Patch 0 0 u) (λ z.
    tail-pre x.0 y.0 z.0 z.1))))))

refused-by : (T : Type 0) (r : Result Parts Error) (error : Error) → Tame r → IsRefused {T = T} r (Err error)
    → ((parts : Parts) → r ≢ Ok parts) → error ≢ memory_error
refused-by T (Ok parts) error t refused none same = none parts refl
refused-by T (Err e) error t refused none same =
    let is : e ≡ memory_error = cc in
    let wrong : true ≡ false = subst (λ (x : Error). is_memory x.kind ≡ false) is t.no_memory in
    cc

-- the error that a text without parts is refused by
pub refused-by_text : (T : Type 0) (text : List ℕ) (error : Error) → IsRefused {T = T} (version_parts text) (Err error)
    → ((parts : Parts) → version_parts text ≢ Ok parts) → error ≢ memory_error
refused-by_text T text error = refused-by T (version_parts text) error (version text)
