use Rattle.std.proofs.Common.{◌≡◌, ◌-◌, ◌<◌, [], ◌∷◌, ◌++◌, length, Some, None, option_map, option_and_then, refl, sym, ap, ap₂, ◌∙◌, subst, arith}
use Rattle.std.specs.List.Sorted.{IsStrictlySortedBy}
use Rattle.std.specs.Int.{w128}
use Rattle.std.proofs.lemmas.Int.{to_z-of_z}
use Rattle.json.specs.Token.{Token}
use Rattle.json.specs.Json as tree
use Rattle.json.specs.Json.{parse_map, after_end_array, read_key, items, members, value}
use Rattle.json.specs.Reads.{token_of}
use Rattle.json.proofs.Grammar.{value_is, value-begin_array, value-begin_object, read_key-shorter, items_end, items_fail, items_more, members_end, members_fail, members_more, members_no_key}
use Rattle.serde_json.specs.Data.{number, no_members, put}
use Rattle.serde_json.specs.Read.{number_of}
use Rattle.schema_values.specs.declared.json_value.Json.{Int, Text as Words}
use Rattle.schema_values.specs.declared.json_value.Member.{Member}
use Rattle.schema_values.specs.Reading.{json_of, members_of, whole_of}
use Rattle.schema_values.specs.SortedMembers.{placed}
use Rattle.schema_values.proofs.AscendingLemmas.{Sorted, Sorted-placed}
use Rattle.schema_values.proofs.OnePassSteps.{AreReadAs, AreReadAs-push, ArePut-push, array_read, object_read, items_before, members_before, fits_wide, items_read, one_more_item, one_more_member, unmapped}
use Rattle.schema_values.proofs.Grammar.{Kept, Kept-put, members_of-Kept}
use Rattle.schema_values.proofs.Options.{chained}
use Rattle.schema_values.proofs.ReadNumbers.{number_read, whole_read}
use Rattle.schema_values.proofs.one_pass.+one_pass.Goals as goal

pub read_value-returns-in_err-token-clause-err : goal.read_value-returns-in_err-token-clause-err
read_value-returns-in_err-token-clause-err t c refused =
    let empty : c.args.reader.now ≡ [] = grind arith in
    ap (value c.args.depth) empty ∙ value_is c.args.depth []

pub read_value-returns-then-depth-eq0-clause-err : goal.read_value-returns-then-depth-eq0-clause-err
unfolding value
read_value-returns-then-depth-eq0-clause-err t c never =
    let first : c.args.reader.now ≡ token_of c.in_ok-token.token ∷ c.next.new.self = grind arith in
    let none : c.args.depth ≡ 0 = omega arith in
    ap₂ value none (first ∙ ap (λ k. token_of k ∷ c.next.new.self) c.in-BeginArray.is)

pub read_value-returns-then-depth-eq0-2-clause-err : goal.read_value-returns-then-depth-eq0-2-clause-err
unfolding value
read_value-returns-then-depth-eq0-2-clause-err t c never =
    let first : c.args.reader.now ≡ token_of c.in_ok-token.token ∷ c.next.new.self = grind arith in
    let none : c.args.depth ≡ 0 = omega arith in
    ap₂ value none (first ∙ ap (λ k. token_of k ∷ c.next.new.self) c.in-BeginObject.is)

pub read_value-returns-in_err-read_items-in-BeginArray-clause-err : goal.read_value-returns-in_err-read_items-in-BeginArray-clause-err
read_value-returns-in_err-read_items-in-BeginArray-clause-err t c refused =
    let first : c.args.reader.now ≡ token_of c.in_ok-token.token ∷ c.next.new.self = grind arith in
    let opened = ap (value c.args.depth) (first ∙ ap (λ k. token_of k ∷ c.next.new.self) c.in-BeginArray.is) ∙ value-begin_array c.args.depth c.next.new.self (omega arith) in
    opened ∙ ap (parse_map tree.array) (c.read_items.ensures.err (grind arith))

pub read_value-returns-in_err-read_members-in-BeginObject-clause-err : goal.read_value-returns-in_err-read_members-in-BeginObject-clause-err
read_value-returns-in_err-read_members-in-BeginObject-clause-err t c refused =
    let first : c.args.reader.now ≡ token_of c.in_ok-token.token ∷ c.next.new.self = grind arith in
    let opened = ap (value c.args.depth) (first ∙ ap (λ k. token_of k ∷ c.next.new.self) c.in-BeginObject.is) ∙ value-begin_object c.args.depth c.next.new.self (omega arith) in
    opened ∙ ap (parse_map tree.object) (c.read_members.ensures.err (grind arith))

pub read_value-returns-in_ok-from_str-in-String-clause-ok : goal.read_value-returns-in_ok-from_str-in-String-clause-ok
read_value-returns-in_ok-from_str-in-String-clause-ok t c =
    let first : c.args.reader.now ≡ token_of c.in_ok-token.token ∷ c.next.new.self = grind arith in
    let is : c.args.reader.now ≡ Token.string c.in-String.text.now ∷ c.next.new.self = grind (arith, first) in
    (tree.string c.in-String.text.now, ap (value c.args.depth) is ∙ value_is c.args.depth _, ap (λ text. Some (Words text)) (sym c.in_ok-from_str-in-String.ensures))

pub read_value-returns-in-Bool-clause-ok : goal.read_value-returns-in-Bool-clause-ok
read_value-returns-in-Bool-clause-ok t c =
    let first : c.args.reader.now ≡ token_of c.in_ok-token.token ∷ c.next.new.self = grind arith in
    let is : c.args.reader.now ≡ Token.boolean c.in-Bool.truth ∷ c.next.new.self = grind (arith, first) in
    (tree.boolean c.in-Bool.truth, ap (value c.args.depth) is ∙ value_is c.args.depth _, refl)

pub read_value-returns-in-Null-clause-ok : goal.read_value-returns-in-Null-clause-ok
read_value-returns-in-Null-clause-ok t c =
    let first : c.args.reader.now ≡ token_of c.in_ok-token.token ∷ c.next.new.self = grind arith in
    let is : c.args.reader.now ≡ Token.null ∷ c.next.new.self = grind (arith, first) in
    (tree.null, ap (value c.args.depth) is ∙ value_is c.args.depth _, refl)

pub read_value-returns-in-Some-clause-ok : goal.read_value-returns-in-Some-clause-ok
read_value-returns-in-Some-clause-ok t c =
    let first : c.args.reader.now ≡ token_of c.in_ok-token.token ∷ c.next.new.self = grind arith in
    let is : c.args.reader.now ≡ Token.number c.in-Number.text.now ∷ c.next.new.self = grind (arith, first) in
    let read = chained whole_of (number_of c.in-Number.text.now) c.in-Some.number c.in-Some.ensures in (
      tree.number c.in-Number.text.now,
      ap (value c.args.depth) is ∙ value_is c.args.depth _,
      ap (λ o. option_and_then json_of (option_map number o)) read.1 ∙ ap (option_map Int) read.2
          ∙ ap (λ z. Some (Int z)) (sym (to_z-of_z w128 c.in-Some.number (fits_wide c.in-Some.number (whole_read read.0 c.in-Some.number (number_read c.in-Number.text.now read.0 read.1) read.2)))),
    )

pub read_value-returns-in-EndObject-clause-err : goal.read_value-returns-in-EndObject-clause-err
read_value-returns-in-EndObject-clause-err t c refused =
    let first : c.args.reader.now ≡ token_of c.in_ok-token.token ∷ c.next.new.self = grind arith in
    rw (value_is c.args.depth c.args.reader.now, first) (grind arith)

pub read_value-returns-in_ok-read_items-in-BeginArray-clause-ok : goal.read_value-returns-in_ok-read_items-in-BeginArray-clause-ok
read_value-returns-in_ok-read_items-in-BeginArray-clause-ok t c =
    let first : c.args.reader.now ≡ token_of c.in_ok-token.token ∷ c.next.new.self = grind arith in
    let opened = ap (value c.args.depth) (first ∙ ap (λ k. token_of k ∷ c.next.new.self) c.in-BeginArray.is) ∙ value-begin_array c.args.depth c.next.new.self (omega arith) in
    let found = c.in_ok-read_items-in-BeginArray.ensures.ok in
    (tree.array found.0, opened ∙ ap (parse_map tree.array) found.1, array_read found.0 _ found.2)

pub read_value-returns-in_ok-read_members-in-BeginObject-clause-ok : goal.read_value-returns-in_ok-read_members-in-BeginObject-clause-ok
read_value-returns-in_ok-read_members-in-BeginObject-clause-ok t c =
    let first : c.args.reader.now ≡ token_of c.in_ok-token.token ∷ c.next.new.self = grind arith in
    let opened = ap (value c.args.depth) (first ∙ ap (λ k. token_of k ∷ c.next.new.self) c.in-BeginObject.is) ∙ value-begin_object c.args.depth c.next.new.self (omega arith) in
    let found = c.in_ok-read_members-in-BeginObject.ensures.ok in
    (tree.object found.0, opened ∙ ap (parse_map tree.object) found.1, object_read found.0 _ found.2)

pub read_items-items-init : goal.read_items-items-init
read_items-items-init t c =
    let all = items (value c.args.depth) (length c.args.reader.now) c.args.reader.now in
    (length c.args.reader.now, [], omega arith, omega arith, subst (λ xs. AreReadAs [] xs) (sym c.new-found.ensures) tt, unmapped all)

pub read_items-returns-in_err-item-clause-err : goal.read_items-returns-in_err-item-clause-err
read_items-returns-in_err-item-clause-err t c refused =
    let l = c.items in
    let going : (after_end_array l.reader ≡ None) × (c.take_end_array.new.self ≡ l.reader) = grind arith in
    l.invariant.5 ∙ ap (parse_map (items_before l.invariant.1)) (items_fail (value c.args.depth) l.invariant.0 l.reader going.0 (rw (← going.1) (c.read_value.ensures.err (grind arith))))

pub read_items-items-preserved : goal.read_items-items-preserved
read_items-items-preserved t c =
    let p = value c.args.depth in
    let l = c.items in
    let n = l.invariant.0 in
    let js = l.invariant.1 in
    let going : (after_end_array l.reader ≡ None) × (c.take_end_array.new.self ≡ l.reader) = grind arith in
    let done = c.in_ok-item.ensures in
    let j = done.ok.0 in
    let r = c.read_value.new.reader in
    let less : length r < length l.reader = rw (← going.1) done.shorter in
    let turn = items_more p n l.reader r j (omega (arith, l.invariant.2)) going.0 (rw (← going.1) done.ok.1) in (
      n - 1,
      js ++ j ∷ [],
      omega (arith, l.invariant.2),
      omega (arith, l.invariant.3),
      subst (λ xs. AreReadAs (js ++ j ∷ []) xs) (sym c.in_ok-push.ensures.ok) (AreReadAs-push js l.found j c.in_ok-item.item l.invariant.4 done.ok.2),
      l.invariant.5 ∙ ap (parse_map (items_before js)) turn ∙ one_more_item js j (items p (n - 1) r),
    )

pub read_items-returns-clause-ok : goal.read_items-returns-clause-ok
read_items-returns-clause-ok t c =
    let l = c.items in
    let js = l.invariant.1 in (
      items_before js tree.no_items,
      l.invariant.5 ∙ ap (parse_map (items_before js)) (items_end (value c.args.depth) l.invariant.0 l.reader c.take_end_array.new.self l.invariant.2 (grind arith)),
      items_read js l.found l.invariant.4,
    )

pub read_members-members-init : goal.read_members-members-init
unfolding IsStrictlySortedBy
read_members-members-init t c =
    let all = members (value c.args.depth) (length c.args.reader.now) c.args.reader.now in
    (length c.args.reader.now, [], omega arith, omega arith, no_members, (λ rest. refl), subst (Kept no_members) (sym c.new-found.ensures) tt, subst Sorted (sym c.new-found.ensures) tt, unmapped all)

pub read_members-returns-in_err-key-clause-err : goal.read_members-returns-in_err-key-clause-err
read_members-returns-in_err-key-clause-err t c refused =
    let l = c.members in
    l.invariant.8 ∙ ap (parse_map (members_before l.invariant.1)) (members_no_key (value c.args.depth) l.invariant.0 l.reader c.in_err-key.ensures.value)

pub read_members-returns-in_err-value-clause-err : goal.read_members-returns-in_err-value-clause-err
read_members-returns-in_err-value-clause-err t c refused =
    let l = c.members in
    let k = c.in-Some.key.now in
    let s = c.next_key.new.self in
    let named : read_key l.reader ≡ Some (Some k, s) = grind arith in
    l.invariant.8 ∙ ap (parse_map (members_before l.invariant.1)) (members_fail (value c.args.depth) l.invariant.0 k l.reader s named (c.read_value.ensures.err (grind arith)))

pub read_members-members-preserved : goal.read_members-members-preserved
read_members-members-preserved t c =
    let p = value c.args.depth in
    let l = c.members in
    let n = l.invariant.0 in
    let ms = l.invariant.1 in
    let kept = l.invariant.4 in
    let k = c.in-Some.key.now in
    let s = c.next_key.new.self in
    let named : read_key l.reader ≡ Some (Some k, s) = grind arith in
    let done = c.in_ok-value.ensures in
    let j = done.ok.0 in
    let r = c.read_value.new.reader in
    let told = chained json_of _ c.in_ok-value.value done.ok.2 in
    let m : Member = record { name = c.in_ok-name.name; value = c.in_ok-value.value } in
    let less = read_key-shorter l.reader (Some k) s named in
    let lesser = done.shorter in
    let inserted : c.put_in_place.new.members ≡ placed m l.found = c.in_ok-put_in_place.ensures.ok in (
      n - 1,
      ms ++ (k, j) ∷ [],
      omega (arith, l.invariant.2),
      omega (arith, l.invariant.3),
      put k told.0 kept,
      ArePut-push ms kept k j told.0 l.invariant.5 told.1,
      subst (Kept (put k told.0 kept)) (sym inserted) (Kept-put k told.0 m kept l.found c.in_ok-name.ensures.bytes c.in_ok-name.ensures.scalar told.2 l.invariant.6),
      subst Sorted (sym inserted) (Sorted-placed m l.found l.invariant.7),
      l.invariant.8 ∙ ap (parse_map (members_before ms)) (members_more p n k l.reader s r j (omega (arith, l.invariant.2)) named done.ok.1) ∙ one_more_member ms (k, j) (members p (n - 1) r),
    )

pub read_members-returns-clause-ok : goal.read_members-returns-clause-ok
read_members-returns-clause-ok t c =
    let l = c.members in
    let ms = l.invariant.1 in
    let kept = l.invariant.4 in (
      members_before ms tree.no_members,
      l.invariant.8 ∙ ap (parse_map (members_before ms)) (members_end (value c.args.depth) l.invariant.0 l.reader c.next_key.new.self l.invariant.2 (grind arith)),
      ap (option_and_then members_of) (l.invariant.5 tree.no_members) ∙ members_of-Kept kept l.found l.invariant.6,
    )
