-- What errors say of a look at a place or at a file beside it, of hard links, and of calls that a signal interrupts.
use Rattle.std.specs.Prelude.{ℕ, ◌+◌, ◌-◌, ◌==◌, ◌||◌, ◌&&◌, Bool, true, false, List, [], ◌∷◌, ◌++◌, codes, drop, length, nat_eq, take, Option, Some, None}
use Rattle.std.specs.Prelude.{unwrap_or, if◌then◌else◌}
use Rattle.std.specs.{Cmp.Lexicographic.pointwise, List.position, Option.option_map_or}
use Rattle.lp_words.specs.declared.{options.Range.Range, refusals.Located.Located}
use Rattle.lp_words.specs.Options.{is_number}
use Rattle.lp_words.specs.Paths.{last_slash}
use Rattle.std.specs.declared.io.ErrorKind.{ErrorKind}
use Rattle.std.specs.declared.io.ErrorKind.TheVariants.{Interrupted, InvalidInput, NotFound, PermissionDenied, Unsupported}

-- whether a look at a file of another run may fail so: the file is gone by then, or is another user's
abbrev pub may_fail : ErrorKind → Bool
may_fail NotFound = true
may_fail PermissionDenied = true
may_fail _ = false

-- whether the system says so where a file system makes no hard links
abbrev pub has_no_links : ErrorKind → Bool
has_no_links PermissionDenied = true
has_no_links Unsupported = true
has_no_links _ = false

-- whether the system says so of a call that a signal interrupted, which is made again
abbrev pub is_interrupted : ErrorKind → Bool
is_interrupted Interrupted = true
is_interrupted _ = false

-- whether a look at a name says so if nothing is there: after any other error a link may be there
abbrev pub is_nothing_there : ErrorKind → Bool
is_nothing_there NotFound = true
is_nothing_there _ = false

-- whether a device says so that knows no wait until all of a file is on it
abbrev pub knows_no_wait : ErrorKind → Bool
knows_no_wait InvalidInput = true
knows_no_wait Unsupported = true
knows_no_wait _ = false

-- a file, if there is one
abbrev pub listed : Option Located → List Located
listed None = []
listed (Some file) = file ∷ []

-- how many of so many bytes are in a range, or all of them without one
abbrev pub range_len : Option Range → (total : ℕ) → ℕ
range_len None total = total
range_len (Some range) total = unwrap_or range.to total - range.from

-- whether a path begins with a slash
abbrev pub is_absolute : List ℕ → Bool
is_absolute [] = false
is_absolute (b ∷ path) = b == 47

-- where a link of this path leads that has this text: from the folder of the link on, if the text does not begin with a slash
abbrev pub path_led_to : (link to : List ℕ) → List ℕ
path_led_to link to =
    if is_absolute to then to else option_map_or (λ at. take at link ++ codes "/" ++ to) (last_slash link) to

-- whether a text is two numbers with a dash between them
abbrev pub are_numbers : List ℕ → Bool
are_numbers text =
    option_map_or (λ at. is_number (take at text) && is_number (drop (at + 1) text)) (position (λ b. b == 45) text) false

-- whether a text begins with another one
abbrev pub begins_with : (front text : List ℕ) → Bool
begins_with front text = pointwise nat_eq (take (length front) text) front

-- whether a name has this before `.lp_relay-`, and then the number of a process and another one
abbrev pub is_beside : (front name : List ℕ) → Bool
is_beside front name =
    begins_with front name && begins_with (codes ".lp_relay-") (drop (length front) name)
    && are_numbers (drop (length (codes ".lp_relay-")) (drop (length front) name))
