-- What comes of a line if the types of fields are to stay.
use Rattle.std.proofs.Common.{◌≡◌, ◌<◌, ◌∙◌, ℕ, List, length, Option, Some, Result, ap, sym, subst}
use Rattle.std.specs.Str.{IsUtf8}
use Rattle.influxdb_line_protocol.specs.code.Rules.{rules_of}
use Rattle.influxdb_line_protocol.specs.types.Dialect.{Dialect as TheDialect}
use Rattle.influxdb_line_protocol.specs.format.Lines.{Line, answer}
use Rattle.influxdb_line_protocol.specs.format.Readings.{Fault}
use Rattle.influxdb_line_protocol.specs.format.Trimming.{trimmed}
use Rattle.lp_conditions.specs.declared.settings.Settings.{Settings}
use Rattle.lp_conditions.specs.declared.field_types.StrictTypes.{StrictTypes}
use Rattle.lp_relay.specs.declared.taking.Taken.{Taken}
use Rattle.lp_relay.specs.declared.taking.Taken.TheVariants as took
use Rattle.lp_conditions.specs.FieldTypes.{Types}
use Rattle.lp_relay.specs.Taking.{KeepsItem, TakesItem}
use Rattle.lp_faults.specs.Relaying.{item_by, line_of, typed_item, types_after_answer, types_after_timed, types_of_bytes}
use Rattle.lp_relay.proofs.RelayLemmas.{text_types}

-- what came of the item of a line once its types were kept
pub kept_by : (s : Settings) (types types_then : Types) (piece text : List ℕ) (taken : Taken) (at : ℕ) (before mid : List ℕ) (after : Taken)
    (new : List ℕ) (dialect : TheDialect) → at ≡ length before → dialect ≡ s.dialect
    → KeepsItem s.types (answer (rules_of dialect) text) at taken mid types after new types_then
    → TakesItem taken (item_by s piece (answer (rules_of s.dialect) text)) before mid
    → TakesItem after (typed_item s types piece (answer (rules_of s.dialect) text)) before new
    × (types_then ≡ types_after_answer s piece types (answer (rules_of s.dialect) text))
kept_by s types types_then piece text taken at before mid after new dialect here same keeps takes =
    subst (λ d. KeepsItem s.types (answer (rules_of d) text) at taken mid types after new types_then) same keeps
    (item_by s piece (answer (rules_of s.dialect) text)) before piece here takes

-- the types after a piece are those after its line
pub types_kept : (s : Settings) (types types_then : Types) (piece line text : List ℕ) → line ≡ line_of s piece → IsUtf8 line
    → text ≡ trimmed line → 0 < length (trimmed line) → types_then ≡ types_after_timed s line types (answer (rules_of s.dialect) text)
    → types_then ≡ types_of_bytes s types (line_of s piece)
types_kept s types types_then piece line text same u is some kept =
    kept ∙ ap (λ (l : List ℕ). types_after_timed s line types (answer (rules_of s.dialect) l)) is ∙ sym (text_types s types line u some)
    ∙ ap (types_of_bytes s types) same

-- what is kept of a line that was added is kept of what came of it
pub is_kept : (strict : Option StrictTypes) (s : StrictTypes) (a : Result Line Fault) (at : ℕ) (taken : Taken) (mid : List ℕ) (types : Types)
    (after : Taken) (new : List ℕ) (types_then : Types) → strict ≡ Some s → taken ≡ took.Carried
    → KeepsItem (Some s) a at took.Carried mid types after new types_then → KeepsItem strict a at taken mid types after new types_then
is_kept strict s a at taken mid types after new types_then some carried kept =
    subst (λ (o : Option StrictTypes). KeepsItem o a at taken mid types after new types_then) (sym some)
    (subst (λ (t : Taken). KeepsItem (Some s) a at t mid types after new types_then) (sym carried) kept)
