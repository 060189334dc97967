-- The calls of the builder for one point.
use Rattle.std.proofs.Common.{◌≡◌, List, ℕ, ℤ, [], ◌∷◌, ◌++◌, Some}
use Rattle.std.proofs.lemmas.List.{append_assoc, append-nil}
use Rattle.std.specs.Fmt.{signed_decimal}
use Rattle.influxdb_line_protocol.specs.format.Bytes.{comma, newline, space}
use Rattle.influxdb_line_protocol.specs.format.Names.{a_measurement}
use Rattle.influxdb_line_protocol.specs.format.Points.{Tag, Field, built, built_field, built_tag, line_of, spelling}

-- texts that are appended one after another are appended as a whole
pub six_appended : (start m t f h n end : List ℕ)
    → start ++ m ++ t ++ f ++ h ++ n ++ end ≡ start ++ (m ++ (t ++ []) ++ (f ++ (h ++ [])) ++ n ++ end)
six_appended start m t f h n end = simp (append_assoc, append-nil)

-- The text that six calls append is the line of their point.
pub calls_build_line : (start measured tagged fielded again stamped closed : List ℕ) (m : List ℕ) (t : Tag) (f h : Field) (at : ℤ)
    → measured ≡ start ++ spelling a_measurement m → tagged ≡ measured ++ built_tag t
    → fielded ≡ tagged ++ space ∷ built_field f → again ≡ fielded ++ comma ∷ built_field h
    → stamped ≡ again ++ space ∷ signed_decimal at → closed ≡ stamped ++ newline ∷ []
    → closed ≡ start ++ built (record { measurement = m; tags = t ∷ []; fields = f ∷ h ∷ []; timestamp = Some at })
unfolding line_of
calls_build_line start measured tagged fielded again stamped closed m t f h at a b c d e g =
    let all =
    six_appended start (spelling a_measurement m) (built_tag t) (space ∷ built_field f) (comma ∷ built_field h)
    (space ∷ signed_decimal at) (newline ∷ []) in
    rw (g, e, d, c, b, a) all
