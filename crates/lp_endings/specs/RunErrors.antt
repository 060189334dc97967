-- What is said of a run, if faults are told as objects.
use Rattle.std.specs.Prelude.{ℕ, List, [], ◌++◌, codes, Option, Some, None}
use Rattle.std.specs.Borrow.{Bor}
use Rattle.lp_rebuild.specs.declared.program.RunFault.{RunFault}
use Rattle.lp_rebuild.specs.declared.program.RunFault.TheVariants.{Read, NotUtf8, OutOfMemory, Write}
use Rattle.lp_escapes.specs.JsonTexts.{json_text}
use Rattle.lp_endings.specs.declared.speaking.Notice.{Notice}
use Rattle.lp_endings.specs.declared.speaking.Notice.TheVariants.{Removed, Marked, Unkept}

-- the name of a fault of a run
abbrev pub fault_name : RunFault → List ℕ
fault_name Read = codes "read"
fault_name NotUtf8 = codes "not_utf8"
fault_name OutOfMemory = codes "out_of_memory"
fault_name Write = codes "write"

-- the member that tells the name of a file, if there is one
abbrev pub file_member : Option (Bor (List ℕ)) → List ℕ
file_member None = []
file_member (Some name) = codes ",\"file\":\"" ++ json_text name.now ++ codes "\""

-- the start of the object of this name of what is said, which has a kind
abbrev pub said_start : (name kind : List ℕ) → List ℕ
said_start name kind = codes "{\"" ++ name ++ codes "\":{\"kind\":\"" ++ kind ++ codes "\""

-- its end, which has the text
abbrev pub said_end : (text : List ℕ) → List ℕ
said_end text = codes ",\"text\":\"" ++ json_text text ++ codes "\"}}"

-- the object of this name of what is said, which has a kind, and a file if that has a name
abbrev pub told_object : (name kind : List ℕ) → (file : Option (Bor (List ℕ))) → (text : List ℕ) → List ℕ
told_object name kind file text = said_start name kind ++ file_member file ++ said_end text

-- the name of the kind of what a run says that goes on
abbrev pub notice_kind : Notice → List ℕ
notice_kind (Removed name) = codes "removed"
notice_kind (Marked name) = codes "byte_order_mark"
notice_kind (Unkept name error) = codes "owner_not_kept"

-- the name of its file, if it has one
abbrev pub notice_file : Notice → Option (Bor (List ℕ))
notice_file (Removed name) = Some name
notice_file (Marked name) = name
notice_file (Unkept name error) = Some name
