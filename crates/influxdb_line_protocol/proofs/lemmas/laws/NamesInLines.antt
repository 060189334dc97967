-- Each parsed name is a name in some line, whose text is UTF-8 if the name is.
use Rattle.std.proofs.Common.{◌≡◌, ℕ, ◌+◌, ◌<◌, List, [], ◌∷◌, ◌++◌, length, get_or, refl, sym, subst, arith, append_assoc, length-append}
use Rattle.std.proofs.Common.{false, Some, None, Ok, IsUtf8, pos, take_at, drop_at, Contains}
use Rattle.std.proofs.Math.Seq.{get_or-append_seam}
use Rattle.std.proofs.lemmas.{Str.Ascii.IsAscii-cons, Grind.common_steps}
use Rattle.std.proofs.lemmas.Str.{IsUtf8-append, IsUtf8-take, IsUtf8-drop, IsUtf8-from_ascii, IsCharBoundary-before_ascii}
use Rattle.std.proofs.lemmas.Str.{IsCharBoundary-after_ascii, IsUtf8-nil}
use Rattle.lp_format.specs.format.{backslash, comma, space, NameKind, a_measurement, a_tag_key, a_tag_value, a_field_key}
use Rattle.lp_format.specs.format.{ends_in_backslash, escapable, read_text, Pair, Dialect, Crate, Strict, NewlineDelimited, HasNoNewline, IsLastPiece, newline, is_on_one_line, Text, reads, Value, integer}
use Rattle.lp_format.specs.format.{value, integer_at, Line, point_of, tag, field, field_set, front_before}
use Rattle.lp_format.specs.format.{answer, HasAnswers, answers_of_piece}
use Rattle.lp_format.specs.format.{Pieces.Pieces.last, Bytes.equals, Bytes.letter_i}
use Rattle.lp_lines.proofs.lemmas.names.Spellings.{SpelledAs, spelled_as, spelled_logical, spelled_reads, spelled_begins, spelled_spaces}
use Rattle.lp_lines.proofs.lemmas.names.Spellings.{BeginsLine, line_no_comment, line_trimmed, line_some, reaches_head, reaches_other}
use Rattle.lp_lines.proofs.lemmas.names.Spellings.{reaches_gap, reaches_field_key, Reaches, reaches_start}
use Rattle.lp_lines.proofs.lemmas.names.Spellings.SpelledAs.{done, escape, plain, pair}
use Rattle.lp_lines.proofs.lemmas.names.KeptNames.{name_kept}
use Rattle.lp_split.{specs.code.Plain, proofs.lemmas.split.SplitWalk.Plain-equals}
use Rattle.influxdb_line_protocol.proofs.lemmas.laws.OnOneLine.{OnOne, joined, no_newline, one_line}
use Rattle.std.proofs.lemmas.Bool.{and_from, and_parts}
use Rattle.std.proofs.Common.{not, ◌==◌}
use Rattle.lp_format.specs.laws.{NamesOfLines.IsOneLineIn, NamesOfLines.IsParsedName, NamesOfLines.BeginsNoComment, NamesOfLines.names_of, Laws.ParsedNamesAreInLines}
use Rattle.lp_format.proofs.lemmas.split.SplitBare.{is_escaped-push_other}
use Rattle.lp_lines.proofs.lemmas.read_back.{LinePieces.reaches_simple, LineReadsBack.answer_from_parts}

-- If a text is UTF-8, the text before an ASCII byte in it and the text after this byte are UTF-8.
pub utf8_around : (front rest : List ℕ) (b : ℕ) → IsUtf8 (front ++ b ∷ rest) → b < 128 → IsUtf8 front × IsUtf8 rest
utf8_around front rest b u ascii =
    let whole = front ++ b ∷ rest in
    let less : length front < length whole = omega (arith, length-append front (b ∷ rest)) in
    let low : get_or whole (length front) 0 < 128 = omega (arith, (get_or-append_seam front b rest 0), ascii) in
    let before = IsUtf8-take whole (length front) u (IsCharBoundary-before_ascii whole (length front) less low) in
    let after = IsUtf8-drop whole (length front + 1) u (IsCharBoundary-after_ascii whole (length front) u less low) in
    let regrouped : whole ≡ (front ++ b ∷ []) ++ rest = sym (append_assoc front (b ∷ []) rest) in (
      subst IsUtf8 (take_at front (b ∷ rest) (length front) refl) before,
      subst IsUtf8 (drop_at (front ++ b ∷ []) rest (length front + 1) (length-append front (b ∷ []))) (rw regrouped at after),
    )

-- texts that are UTF-8 with an ASCII byte between them
pub utf8_joined : {front rest : List ℕ} {b : ℕ} → IsUtf8 front → b < 128 → IsUtf8 rest → IsUtf8 (front ++ b ∷ rest)
utf8_joined {front = front} {rest = rest} {b = b} u h v = IsUtf8-append front (b ∷ rest) u
    (IsUtf8-append (b ∷ []) rest (IsUtf8-from_ascii (b ∷ []) (IsAscii-cons b [] h (λ i. omega arith))) v)

-- a spelling after this front is UTF-8 if the name after that front is
spelled_after : {kind : NameKind} {n s : List ℕ} → SpelledAs kind n s → (front : List ℕ) → IsUtf8 (front ++ n) → IsUtf8 (front ++ s)
spelled_after {kind = kind} done front u = u
spelled_after {kind = kind} (escape b n s known more) front u =
    let ascii : b < 128 = grind (arith, common_steps) in
    let parts = utf8_around front n b u ascii in
    utf8_joined parts.0 (omega arith) (utf8_joined IsUtf8-nil ascii (spelled_after more [] parts.1))
spelled_after {kind = kind} (plain b n s other may more) front u = subst IsUtf8 (append_assoc front (b ∷ []) s)
    (spelled_after more (front ++ b ∷ []) (subst IsUtf8 (sym (append_assoc front (b ∷ []) n)) u))
spelled_after {kind = kind} (pair c n s never more) front u =
    let ascii : c < 128 = grind (arith, common_steps) in
    let parts = utf8_around front (c ∷ n) backslash u (omega arith) in
    utf8_joined parts.0 (omega arith) (utf8_joined IsUtf8-nil ascii (spelled_after more [] (utf8_around [] n c parts.1 ascii).1))

-- a name that is not empty, does not end in a backslash and begins no comment, with a spelling that is UTF-8 if `U` holds
record Spelled (U : Type 0) (kind : NameKind) (n s : List ℕ) : Type 0 where
  spelled : SpelledAs kind n s
  some : 0 < length n
  ends : ends_in_backslash n ≡ false
  begins : BeginsNoComment kind n
  utf8 : U → IsUtf8 s

-- a parsed name has a spelling
has_spelling : (kind : NameKind) (n : List ℕ) → IsParsedName kind n → (s : List ℕ) × Spelled (IsUtf8 n) kind n s
has_spelling kind n h =
    let found = spelled_as kind n (name_kept kind n h) in
    (found.0, record { spelled = found.1; some = h.some; ends = h.ends; begins = h.begins; utf8 = spelled_after found.1 [] })

-- a text of one name reads as it
abbrev text : NameKind → List ℕ → Text
text kind s = read_text (escapable kind) s

-- the line with these spellings of its names, from its field on, its tag's value on, its tag on, and whole
abbrev from_field : List ℕ → List ℕ
from_field f = f ++ equals ∷ 49 ∷ letter_i ∷ []

-- The line from the value of its tag on.
abbrev from_value : List ℕ → List ℕ → List ℕ
from_value v f = v ++ space ∷ from_field f

-- The line from the key of its tag on.
abbrev from_key : List ℕ → List ℕ → List ℕ → List ℕ
from_key k v f = k ++ equals ∷ from_value v f

-- The whole line.
abbrev whole : List ℕ → List ℕ → List ℕ → List ℕ → List ℕ
whole m k v f = m ++ comma ∷ from_key k v f

-- The tag that is read from a spelled key and a spelled value.
abbrev tag_of : List ℕ → List ℕ → Pair Text Text
tag_of k v = record { key = text a_tag_key k; value = text a_tag_value v }

-- The field that is read from a spelled key and the value 1.
abbrev field_of : List ℕ → Pair Text (Value Text)
field_of f = record { key = text a_field_key f; value = integer (pos 1) }

-- The line that is read from these spelled names.
abbrev line_of : List ℕ → List ℕ → List ℕ → List ℕ → Line
line_of m k v f =
    record {
      series = front_before (whole m k v f) (space ∷ from_field f);
      measurement = text a_measurement m;
      tags = Some (tag_of k v ∷ []);
      fields = field_of f ∷ [];
      timestamp = None;
    }

-- Reading the text of the tag gives the tag, and the field is left.
tag_read : {U : Type 0} {k n v x : List ℕ} → Spelled U a_tag_key n k → Spelled U a_tag_value x v → (f : List ℕ)
    → tag (from_key k v f) ≡ reads (tag_of k v) (space ∷ from_field f)
unfolding tag
tag_read {v = v} key value
    f = rw (
      spelled_reads key.spelled key.some key.ends (equals ∷ from_value v f) refl,
      spelled_reads value.spelled value.some value.ends (space ∷ from_field f) refl,
    ) refl

-- Reading the text of the field gives a set of this one field, and nothing is left.
fields_read : {U : Type 0} (dialect : Dialect) {f n : List ℕ} → Spelled U a_field_key n f
    → field_set dialect (from_field f) ≡ reads (field_of f ∷ []) []
unfolding field value integer_at
fields_read Crate h = rw (spelled_reads h.spelled h.some h.ends (equals ∷ 49 ∷ letter_i ∷ []) refl) refl
fields_read Strict h = rw (spelled_reads h.spelled h.some h.ends (equals ∷ 49 ∷ letter_i ∷ []) refl) refl
fields_read NewlineDelimited h = rw (spelled_reads h.spelled h.some h.ends (equals ∷ 49 ∷ letter_i ∷ []) refl) refl

-- a spelling without a newline
spelled_on : {kind : NameKind} {n s : List ℕ} → SpelledAs kind n s → OnOne n → OnOne s
spelled_on done h = refl
spelled_on (escape b n s known more) h =
    let parts = and_parts (not (b == newline)) (is_on_one_line n) h in
    and_from _ _ parts.0 (spelled_on more parts.1)
spelled_on (plain b n s other may more) h =
    let parts = and_parts (not (b == newline)) (is_on_one_line n) h in
    and_from _ _ parts.0 (spelled_on more parts.1)
spelled_on (pair c n s never more) h =
    let parts = and_parts (not (c == newline)) (is_on_one_line n) h in
    and_from _ _ parts.0 (spelled_on more parts.1)

module _ {U : Type 0} {m k v f m' k' v' f' : List ℕ} (first : Spelled U a_measurement m' m) (key : Spelled U a_tag_key k' k)
    (value : Spelled U a_tag_value v' v) (field : Spelled U a_field_key f' f) where
  -- The whole line begins with no blank, no newline and no `#`.
  begins : BeginsLine (whole m k v f)
  begins = spelled_begins first.spelled first.some first.begins (comma ∷ from_key k v f)

  -- The scan of the whole line ends in a plain stretch.
  reaches_end : Reaches Plain 1 0 (whole m k v f)
  reaches_end =
      let front = reaches_other comma (omega arith) (omega arith) (omega arith) m (reaches_head first.spelled [] reaches_start) in
      let tagged = reaches_other equals (omega arith) (omega arith) (omega arith) ((m ++ comma ∷ []) ++ k)
      (reaches_head key.spelled (m ++ comma ∷ []) front) in
      let head = reaches_head value.spelled (((m ++ comma ∷ []) ++ k) ++ equals ∷ []) tagged in
      let series = (((m ++ comma ∷ []) ++ k) ++ equals ∷ []) ++ v in
      let named = reaches_field_key 0 field.spelled (series ++ space ∷ []) (reaches_gap series head) in
      let text = (series ++ space ∷ []) ++ f in
      let sign : Reaches Plain 1 0
      (text ++ equals ∷ []) = (is_escaped-push_other text equals (omega arith), Plain-equals 0 0 text named.0 named.1) in
      subst (Reaches Plain 1 0) (simp append_assoc) (reaches_simple 1 0 (49 ∷ letter_i ∷ []) refl (text ++ equals ∷ []) sign)

  -- The answer for the whole text is the line.
  answered : (dialect : Dialect) → answer dialect (whole m k v f) ≡ Ok (line_of m k v f)
  answered dialect = answer_from_parts dialect (whole m k v f) (front_before (whole m k v f) (space ∷ from_field f)) (from_field f)
      (comma ∷ from_key k v f) [] (text a_measurement m) (Some (tag_of k v ∷ [])) (field_of f ∷ []) None
      (spelled_reads first.spelled first.some first.ends (comma ∷ from_key k v f) refl)
      (rw (tag_read key value f) refl) refl
      (spelled_spaces field.spelled field.some (equals ∷ 49 ∷ letter_i ∷ []))
      (fields_read dialect field)
      refl

  -- The whole text is one piece.
  is_piece : (dialect : Dialect) → IsOneLineIn dialect (whole m k v f) → IsLastPiece dialect (whole m k v f)
  is_piece Crate one = let closed = reaches_end in grind (arith, common_steps)
  is_piece Strict one =
      let none = line_no_comment (whole m k v f) begins in
      let closed = reaches_end in
      grind (arith, common_steps)
  is_piece NewlineDelimited one = one refl

  -- The line is the only answer for the whole text.
  only_answer : (dialect : Dialect) → IsOneLineIn dialect (whole m k v f) → HasAnswers dialect (whole m k v f) (Ok (line_of m k v f) ∷ [])
  unfolding answers_of_piece
  only_answer dialect one =
      record {
        pieces = whole m k v f ∷ [];
        are = last (whole m k v f) (is_piece dialect one);
        answered = rw (line_trimmed (whole m k v f) begins, line_some (whole m k v f) begins, answered dialect) refl;
      }

  -- without a newline if its names have none
  on_one : OnOne m' × OnOne k' × OnOne v' × OnOne f' → HasNoNewline (whole m k v f)
  on_one h = no_newline (whole m k v f) (joined m (comma ∷ from_key k v f) (spelled_on first.spelled h.0)
      (joined k (equals ∷ from_value v f) (spelled_on key.spelled h.1)
      (joined v (space ∷ from_field f) (spelled_on value.spelled h.2) (joined f _ (spelled_on field.spelled h.3) refl))))

  -- The line holds each of its names.
  in_line : (dialect : Dialect) (kind : NameKind) (n : List ℕ)
      → (dialect ≡ NewlineDelimited → OnOne m' × OnOne k' × OnOne v' × OnOne f') → Contains (names_of kind (point_of (line_of m k v f))) n
      → (text : List ℕ) × (line : Line) × HasAnswers dialect text (Ok line ∷ []) × Contains (names_of kind (point_of line)) n
      × (U → IsUtf8 text)
  in_line dialect kind n one here =
      let all : U → IsUtf8 (whole m k v f) = λ u. utf8_joined (first.utf8 u) (omega arith) (utf8_joined (key.utf8 u) (omega arith)
      (utf8_joined (value.utf8 u) (omega arith) (utf8_joined (field.utf8 u) (omega arith)
      (utf8_joined IsUtf8-nil (omega arith) (utf8_joined IsUtf8-nil (omega arith) IsUtf8-nil))))) in
      (whole m k v f, line_of m k v f, only_answer dialect (λ e. on_one (one e)), here, all)

-- the name of one letter
x : {U : Type 0} (kind : NameKind) → Spelled U kind (120 ∷ []) (120 ∷ [])
x kind =
    let is_utf8 = utf8_joined IsUtf8-nil (omega arith) IsUtf8-nil in
    record { spelled = (as_it_is kind).0; some = omega arith; ends = refl; begins = (as_it_is kind).1; utf8 = λ u. is_utf8 }
  where
    -- The name `x` is spelled as itself for each kind of name.
    as_it_is : (kind : NameKind) → SpelledAs kind (120 ∷ []) (120 ∷ []) × BeginsNoComment kind (120 ∷ [])
    as_it_is a_measurement = (plain 120 [] [] refl refl done, omega arith)
    as_it_is a_tag_value = (plain 120 [] [] refl refl done, tt)
    as_it_is other = (plain 120 [] [] refl refl done, tt)

-- each parsed name, in the line whose other names are one letter
pub parsed_names_are_in_lines : ParsedNamesAreInLines
parsed_names_are_in_lines dialect a_measurement n h one =
    let s = (has_spelling a_measurement n h).1 in
    in_line s (x a_tag_key) (x a_tag_value) (x a_field_key) dialect a_measurement n (λ e. (one_line n (one e), refl, refl, refl)) (0, omega arith, spelled_logical s.spelled)
parsed_names_are_in_lines dialect a_tag_key n h one =
    let s = (has_spelling a_tag_key n h).1 in
    in_line (x a_measurement) s (x a_tag_value) (x a_field_key) dialect a_tag_key n (λ e. (refl, one_line n (one e), refl, refl)) (0, omega arith, spelled_logical s.spelled)
parsed_names_are_in_lines dialect a_tag_value n h one =
    let s = (has_spelling a_tag_value n h).1 in
    in_line (x a_measurement) (x a_tag_key) s (x a_field_key) dialect a_tag_value n (λ e. (refl, refl, one_line n (one e), refl)) (0, omega arith, spelled_logical s.spelled)
parsed_names_are_in_lines dialect a_field_key n h one =
    let s = (has_spelling a_field_key n h).1 in
    in_line (x a_measurement) (x a_tag_key) (x a_tag_value) s dialect a_field_key n (λ e. (refl, refl, refl, one_line n (one e))) (0, omega arith, spelled_logical s.spelled)
