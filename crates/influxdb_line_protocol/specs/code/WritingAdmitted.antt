-- The result of a call that writes a line only if the line reads back.
use Rattle.std.specs.Prelude.{◌≡◌, ◌⊎◌, ℕ, true, false, List, [], map, Result, Ok, Err}
use Rattle.std.specs.List.{AllByRecursion}
use Rattle.lp_format.specs.format.{Dialect, Point, IsPoint, IsValue, built, is_admitted_in, logical_field}
use Rattle.lp_values.specs.declared.{escaped.EscapedStr.EscapedStr, values.FieldValue.FieldValue}
use Rattle.lp_lines.specs.code.Parsed.{field_of}
use Rattle.lp_build.specs.declared.builder.{BeforeMeasurement.BeforeMeasurement, LineProtocolBuilder.LineProtocolBuilder}
use Rattle.lp_build.specs.declared.builder.{Refused.Refused, buffer.NoRoom.NoRoom}
use Rattle.lp_build.specs.code.Built.{Writes, buffer_of}
use Rattle.influxdb_line_protocol.specs.declared.builder.admitted.Unwritten.{Unwritten}
use Rattle.influxdb_line_protocol.specs.declared.builder.admitted.Unwritten.TheVariants.{NotAdmitted, Refused as WasRefused}

-- Each of these fields has a value of its type: a number in range, or a float that is a literal.
abbrev pub AreValues : List (EscapedStr × FieldValue) → Type 0
AreValues fields = AllByRecursion (λ f. IsValue f.value) (map logical_field (map field_of fields))

-- The builder that a call hands back if it wrote nothing.
abbrev pub builder_in : {B : Type 0} → Unwritten B → LineProtocolBuilder B BeforeMeasurement
builder_in (NotAdmitted builder) = builder
builder_in (WasRefused refused) = refused.builder

-- A point that has no field or is not admitted in the dialect.
abbrev pub IsNotAdmitted : Dialect → Point → Type 0
IsNotAdmitted dialect p = (p.fields ≡ []) ⊎ (is_admitted_in dialect p ≡ false)

-- The point is admitted, and its line is written, or refused because the buffer has no room for it.
abbrev pub WritesLine : {B : Type 0} → Dialect → (B → List ℕ) → (B → ℕ) → (NoRoom → Type 0) → Point → B
    → Result (LineProtocolBuilder B BeforeMeasurement) (Refused B BeforeMeasurement) → Type 0
WritesLine dialect bytes room refuses p before result =
    IsPoint p × (is_admitted_in dialect p ≡ true) × Writes bytes room refuses (built p) before result

-- If the point has a field and is admitted in the dialect, its line is written, or refused because the buffer has no room for it. Otherwise
-- nothing is written, and the buffer is handed back as it was.
abbrev pub WritesAdmitted : {B : Type 0} → Dialect → (B → List ℕ) → (B → ℕ) → (NoRoom → Type 0) → Point → B
    → Result (LineProtocolBuilder B BeforeMeasurement) (Unwritten B) → Type 0
WritesAdmitted dialect bytes room refuses p before (Ok longer) = WritesLine dialect bytes room refuses p before (Ok longer)
WritesAdmitted dialect bytes room refuses p before (Err (WasRefused refused)) = WritesLine dialect bytes room refuses p before (Err refused)
WritesAdmitted dialect bytes room refuses p before (Err (NotAdmitted builder)) = IsNotAdmitted dialect p × (buffer_of builder ≡ before)
