-- The verdict on a text, as a function: that it is portable, the first clause that it breaks, or that it is no line.
use Rattle.std.specs.Prelude.{◌≡◌, ℕ, ◌&&◌, zero, suc, List, [], ◌∷◌, drop, length, Option, Some, None, Result, Ok, if◌then◌else◌}
use Rattle.lp_format.specs.format.{Fault, Line, Reading, Strict, a_measurement, after_comma, answers_of_piece, reads, some_tags, spaces, trimmed}
use Rattle.lp_portable.specs.declared.{broken.Broken.Broken, broken.Clause.Clause, broken.TheConstants.CLAUSES, limits.Limits.Limits, limits.Servers.Servers}
use Rattle.lp_portable.specs.declared.verdicts.Verdict.{Verdict}
use Rattle.lp_portable.specs.declared.verdicts.Verdict.TheVariants.{Portable, Breaks, NoLine}
use Rattle.lp_portable.specs.format.{IsPortable, Spelling, breaks, concerns, key_text, name_text, tag_text}
use Rattle.lp_portable.specs.code.{Cut.is_cut, Telling.IsNoLine}
use Rattle.lp_portable.specs.code.Clauses as code
use Rattle.lp_portable.specs.code.Clauses.{clause_of, first_broken, first_of, limits_of, servers_of}

-- A part that was read, followed by the parts after it, and the rest of the text; no part if nothing was read.
abbrev pub and_those_after : {A : Type 0} → Reading A → (List ℕ → List A × List ℕ) → List A × List ℕ
and_those_after (reads x after) others = (x ∷ (others after).0, (others after).1)
and_those_after other others = ([], [])

-- As many parts of a text as this number, each after a comma, and the rest of the text.
abbrev pub after_commas : {A : Type 0} → (List ℕ → Reading A) → ℕ → List ℕ → List A × List ℕ
after_commas one zero text = ([], text)
after_commas one (suc n) text = and_those_after (after_comma one text) (after_commas one n)

-- As many parts of a text as this number, with commas between them.
abbrev pub between_commas : {A : Type 0} → (List ℕ → Reading A) → ℕ → List ℕ → List A
between_commas one zero text = []
between_commas one (suc n) text = (and_those_after (one text) (after_commas one n)).0

-- The result of a reading, or this value if nothing was read.
abbrev pub read_or : List ℕ → Reading (List ℕ) → List ℕ × List ℕ
read_or none (reads x rest) = (x, rest)
read_or none other = (none, [])

-- The names of a line with this number of tags and of fields: its measurement, and the names in the text that follows.
abbrev pub names_of : List ℕ × List ℕ → (tags fields : ℕ) → Spelling
names_of first tags fields =
    let parts = after_commas tag_text tags first.1 in
    record { measurement = first.0; tags = parts.0; keys = between_commas key_text fields (drop (spaces parts.1) parts.1) }

-- The names of a line, spelled as in the text of the line.
abbrev pub names_in : List ℕ → Line → Spelling
names_in text line = names_of (read_or [] (name_text a_measurement text)) (length (some_tags line.tags)) (length line.fields)

-- The first clause that a line breaks, of the clauses that concern these servers.
abbrev pub first_clause : Servers → Limits → List ℕ → Line → Spelling → Option Clause
first_clause to limits text line names =
    first_of (λ c. concerns (servers_of to) (clause_of c) && breaks (limits_of limits) text line names (clause_of c)) CLAUSES.now

-- The verdict on a line: portable, or this first clause that it breaks.
abbrev pub by_first : Option Clause → Verdict
by_first None = Portable
by_first (Some clause) = Breaks clause

-- The verdict on a text that a newline ends as one piece, from the answers for the text.
abbrev pub verdict_on : Servers → Limits → List ℕ → List (Result Line Fault) → Verdict
verdict_on to limits text (Ok line ∷ []) = by_first (first_clause to limits text line (names_in (trimmed text) line))
verdict_on to limits text other = NoLine

-- The verdict on a text.
unfoldable pub verdict_of : Servers → Limits → List ℕ → Verdict
verdict_of to limits text = if is_cut text then verdict_on to limits text (answers_of_piece Strict text) else NoLine

-- The meaning of a verdict: the text is portable; it is a line whose first broken clause, of the clauses that concern the servers, is this
-- clause; or it is no line.
abbrev pub TellsVerdict : Servers → Limits → List ℕ → Verdict → Type 0
TellsVerdict to limits text Portable = IsPortable (servers_of to) (limits_of limits) text
TellsVerdict to limits text (Breaks clause) = (broken : Broken) × code.Breaks limits text broken × (first_broken to broken ≡ Some clause)
TellsVerdict to limits text NoLine = IsNoLine text
