-- The keys and strings that are read in a JSON text are UTF-8, where the text is.
use Rattle.std.proofs.Common.{◌≡◌, ℕ, ◌<◌, List, [], ◌∷◌, ◌++◌, Bool, true, false, ◌&&◌, ◌==◌, ◌-◌, length, take, drop, nat_eq, cond, Option, Some, None, IsUtf8, refl, sym, subst, arith, append_assoc}
use Rattle.std.specs.Prelude.{⊤}
use Rattle.std.specs.List.{AllByRecursion, starts_with}
use Rattle.std.proofs.lemmas.Bool.{eqb-true}
use Rattle.json.specs.Json as tree
use Rattle.json.specs.Lex.{Lexeme, token, comma, colon, Class, quote, backslash, operator, space, other, class, operator_lexeme, string_token, Mode, between, in_word, in_string, in_escape, lex_byte, lex, Place, fresh, after_value, after_comma, after_key, begins_colon, may_begin, may_close, if_allowed, place_token, punctuate, tokens}
use Rattle.json.specs.Text.{content, plain}
use Rattle.json.specs.Token.{Token, begin_object, end_object, begin_array, end_array, key, string, number, boolean, null, bad}
use Rattle.json.specs.Tree.{json_tokens, items_tokens, members_tokens}
use Rattle.json.specs.Word.{head, word, literal, ends_word, number_before, after_number}
use Rattle.json.specs.Ascii as ascii
use Rattle.json.proofs.Unique.Spelling.{value-json_tokens_back}
use Rattle.schema_values.proofs.ReadTexts.{cut_text, plain_text}

abbrev HasText : Token → Type 0
HasText (key s) = IsUtf8 s
HasText (string s) = IsUtf8 s
HasText _ = ⊤

abbrev LexemeHasText : Lexeme → Type 0
LexemeHasText (token t) = HasText t
LexemeHasText comma = ⊤
LexemeHasText colon = ⊤

abbrev HaveTexts : List Token → Type 0
HaveTexts ts = AllByRecursion HasText ts

abbrev LexemesHaveTexts : List Lexeme → Type 0
LexemesHaveTexts ls = AllByRecursion LexemeHasText ls

-- ---- lexemes

quote_low : (x : ℕ) → class x ≡ quote → x < 128
quote_low x e = by_test (x == 34) refl e
  where
    other_class : (b c d : Bool) → cond b backslash (cond c operator (cond d space other)) ≡ quote → ⊥
    other_class true c d e = cc e
    other_class false true d e = cc e
    other_class false false true e = cc e
    other_class false false false e = cc e

    by_test : (b : Bool) → (x == 34) ≡ b → class x ≡ quote → x < 128
    by_test true h e = omega (arith, eqb-true x 34 h)
    by_test false h e = absurd (other_class _ _ _ (rw h at e))

string_given : (o : Option (List ℕ)) → ((s : List ℕ) → o ≡ Some s → IsUtf8 s) → HasText (string_token o)
string_given None h = tt
string_given (Some s) h = h s refl

kept : (b : Bool) (t : Token) → HasText t → HasText (cond b t bad)
kept true t h = h
kept false t h = tt

number_text : (t : List ℕ) (o : Option (List ℕ)) → HasText (number_before t o)
number_text t None = tt
number_text t (Some rest) = kept (ends_word rest) (number (take (length t - length rest) t)) tt

literal_text : (name : List ℕ) (one : Token) (t : List ℕ) → HasText one → HasText (literal name one t)
literal_text name one t h = kept (starts_with nat_eq t name && ends_word (drop (length name) t)) one h

one_of_four : (a b c : Bool) (t u v w : Token) → HasText t → HasText u → HasText v → HasText w → HasText (cond a t (cond b u (cond c v w)))
one_of_four true b c t u v w h i j k = h
one_of_four false true c t u v w h i j k = i
one_of_four false false true t u v w h i j k = j
one_of_four false false false t u v w h i j k = k

word_text : (t : List ℕ) → HasText (word t)
unfolding word
word_text t =
    one_of_four (head t == ascii.lower_t) (head t == ascii.lower_f) (head t == ascii.lower_n)
    (literal ascii.true_text (boolean true) t) (literal ascii.false_text (boolean false) t) (literal ascii.null_text null t) (number_before t (after_number t))
    (literal_text ascii.true_text (boolean true) t tt) (literal_text ascii.false_text (boolean false) t tt) (literal_text ascii.null_text null t tt) (number_text t (after_number t))

operator_text : (x : ℕ) → LexemeHasText (operator_lexeme x)
operator_text x = by_tests (x == ascii.open_brace) (x == ascii.close_brace) (x == ascii.open_bracket) (x == ascii.close_bracket) (x == ascii.comma)
  where
    by_tests : (a b c d e : Bool) → LexemeHasText (cond a (token begin_object) (cond b (token end_object) (cond c (token begin_array) (cond d (token end_array) (cond e comma colon)))))
    by_tests true b c d e = tt
    by_tests false true c d e = tt
    by_tests false false true d e = tt
    by_tests false false false true e = tt
    by_tests false false false false true = tt
    by_tests false false false false false = tt

byte_texts : (m : Mode) (c : Class) (x : ℕ) (xs p : List ℕ) → class x ≡ c → IsUtf8 (p ++ x ∷ xs) → (k : Mode → List Lexeme) → ((next : Mode) → LexemesHaveTexts (k next)) → LexemesHaveTexts (lex_byte m c x xs k)
byte_texts between quote x xs p is t k later =
    let behind = (cut_text p xs x (quote_low x is) t).1 in
    (string_given (content plain xs) (λ s e. plain_text xs [] s behind e), later in_string)
byte_texts between backslash x xs p is t k later = (tt, later in_word)
byte_texts between operator x xs p is t k later = (operator_text x, later between)
byte_texts between space x xs p is t k later = later between
byte_texts between other x xs p is t k later = (word_text (x ∷ xs), later in_word)
byte_texts in_word quote x xs p is t k later = later in_word
byte_texts in_word backslash x xs p is t k later = later in_word
byte_texts in_word operator x xs p is t k later = (operator_text x, later between)
byte_texts in_word space x xs p is t k later = later between
byte_texts in_word other x xs p is t k later = later in_word
byte_texts in_string quote x xs p is t k later = later between
byte_texts in_string backslash x xs p is t k later = later in_escape
byte_texts in_string operator x xs p is t k later = later in_string
byte_texts in_string space x xs p is t k later = later in_string
byte_texts in_string other x xs p is t k later = later in_string
byte_texts in_escape c x xs p is t k later = later in_string

lexed_texts : (m : Mode) (p xs : List ℕ) → IsUtf8 (p ++ xs) → LexemesHaveTexts (lex m xs)
unfolding lex
lexed_texts m p [] t = tt
lexed_texts m p (x ∷ xs) t =
    byte_texts m (class x) x xs p refl t (λ next. lex next xs) (λ next. lexed_texts next (p ++ x ∷ []) xs (subst IsUtf8 (sym (append_assoc p (x ∷ []) xs)) t))

-- ---- tokens

allowed_texts : (b : Bool) (t : Token) (k : Place → List Token) (next : Place) → HasText t → HaveTexts (k next) → HaveTexts (if_allowed b t k next)
allowed_texts true t k next h later = (h, later)
allowed_texts false t k next h later = (tt, tt)

placed_texts : (p : Place) (t : Token) (before_colon : Bool) (k : Place → List Token) → HasText t → ((next : Place) → HaveTexts (k next)) → HaveTexts (place_token p t before_colon k)
placed_texts p begin_object before_colon k h later = allowed_texts (may_begin p) begin_object k fresh tt (later fresh)
placed_texts p end_object before_colon k h later = allowed_texts (may_close p) end_object k after_value tt (later after_value)
placed_texts p begin_array before_colon k h later = allowed_texts (may_begin p) begin_array k fresh tt (later fresh)
placed_texts p end_array before_colon k h later = allowed_texts (may_close p) end_array k after_value tt (later after_value)
placed_texts p (key s) before_colon k h later = (tt, tt)
placed_texts p (string s) true k h later = allowed_texts (may_begin p) (key s) k after_key h (later after_key)
placed_texts p (string s) false k h later = allowed_texts (may_begin p) (string s) k after_value h (later after_value)
placed_texts p (number s) before_colon k h later = allowed_texts (may_begin p) (number s) k after_value tt (later after_value)
placed_texts p (boolean b) before_colon k h later = allowed_texts (may_begin p) (boolean b) k after_value tt (later after_value)
placed_texts p null before_colon k h later = allowed_texts (may_begin p) null k after_value tt (later after_value)
placed_texts p bad before_colon k h later = (tt, tt)

punctuated_texts : (p : Place) (ls : List Lexeme) → LexemesHaveTexts ls → HaveTexts (punctuate p ls)
unfolding punctuate
punctuated_texts fresh [] h = tt
punctuated_texts after_value [] h = tt
punctuated_texts after_comma [] h = (tt, tt)
punctuated_texts after_key [] h = (tt, tt)
punctuated_texts fresh (token t ∷ ls) h = placed_texts fresh t (begins_colon ls) (λ next. punctuate next ls) h.0 (λ next. punctuated_texts next ls h.1)
punctuated_texts after_value (token t ∷ ls) h = placed_texts after_value t (begins_colon ls) (λ next. punctuate next ls) h.0 (λ next. punctuated_texts next ls h.1)
punctuated_texts after_comma (token t ∷ ls) h = placed_texts after_comma t (begins_colon ls) (λ next. punctuate next ls) h.0 (λ next. punctuated_texts next ls h.1)
punctuated_texts after_key (token t ∷ ls) h = placed_texts after_key t (begins_colon ls) (λ next. punctuate next ls) h.0 (λ next. punctuated_texts next ls h.1)
punctuated_texts fresh (comma ∷ ls) h = (tt, tt)
punctuated_texts after_value (comma ∷ ls) h = punctuated_texts after_comma ls h.1
punctuated_texts after_comma (comma ∷ ls) h = (tt, tt)
punctuated_texts after_key (comma ∷ ls) h = (tt, tt)
punctuated_texts fresh (colon ∷ ls) h = (tt, tt)
punctuated_texts after_value (colon ∷ ls) h = (tt, tt)
punctuated_texts after_comma (colon ∷ ls) h = (tt, tt)
punctuated_texts after_key (colon ∷ ls) h = punctuated_texts fresh ls h.1

tokens_texts : (text : List ℕ) → IsUtf8 text → HaveTexts (tokens text)
tokens_texts text t = punctuated_texts fresh (lex between text) (lexed_texts between [] text t)

-- ---- the tree of the tokens

abbrev mutual
  pub HasTextKeys : tree.Json → Type 0
  HasTextKeys tree.null = ⊤
  HasTextKeys (tree.boolean b) = ⊤
  HasTextKeys (tree.number s) = ⊤
  HasTextKeys (tree.string s) = ⊤
  HasTextKeys (tree.array js) = ItemsHaveTextKeys js
  HasTextKeys (tree.object ms) = MembersHaveTextKeys ms

  pub ItemsHaveTextKeys : tree.Items → Type 0
  ItemsHaveTextKeys tree.no_items = ⊤
  ItemsHaveTextKeys (tree.item j js) = HasTextKeys j × ItemsHaveTextKeys js

  pub MembersHaveTextKeys : tree.Members → Type 0
  MembersHaveTextKeys tree.no_members = ⊤
  MembersHaveTextKeys (tree.member k j ms) = IsUtf8 k × HasTextKeys j × MembersHaveTextKeys ms

split : (ts us : List Token) → HaveTexts (ts ++ us) → HaveTexts ts × HaveTexts us
split [] us h = (tt, h)
split (t ∷ ts) us h = let p = split ts us h.1 in ((h.0, p.0), p.1)

mutual
  text_keys : (j : tree.Json) → HaveTexts (json_tokens j) → HasTextKeys j
  text_keys tree.null h = tt
  text_keys (tree.boolean b) h = tt
  text_keys (tree.number s) h = tt
  text_keys (tree.string s) h = tt
  text_keys (tree.array js) h = items_text_keys js h.1
  text_keys (tree.object ms) h = members_text_keys ms h.1

  items_text_keys : (js : tree.Items) → HaveTexts (items_tokens js) → ItemsHaveTextKeys js
  items_text_keys tree.no_items h = tt
  items_text_keys (tree.item j js) h = let p = split (json_tokens j) (items_tokens js) h in (text_keys j p.0, items_text_keys js p.1)

  members_text_keys : (ms : tree.Members) → HaveTexts (members_tokens ms) → MembersHaveTextKeys ms
  members_text_keys tree.no_members h = tt
  members_text_keys (tree.member k j ms) h = let p = split (json_tokens j) (members_tokens ms) h.1 in (h.0, text_keys j p.0, members_text_keys ms p.1)

-- a tree that is read in a text has keys that are UTF-8
pub read_keys : (text : List ℕ) (depth : ℕ) (j : tree.Json) (rest : List Token) → IsUtf8 text → tree.value depth (tokens text) ≡ Some (j, rest) → HasTextKeys j
read_keys text depth j rest t e =
    let spelled = value-json_tokens_back depth (tokens text) rest j e in
    text_keys j (split (json_tokens j) rest (subst HaveTexts spelled (tokens_texts text t))).0
