-- What `script` prints of a recording: when each text of a source could be read, and the text, as a line of a script says
-- it (profile).
use Rattle.std.specs.Prelude.{ℕ, ◌==◌, if◌then◌else◌, List, [], ◌++◌, flat_map, codes, decimal, chars, encode_utf8}
use Rattle.std.specs.Str.{byte}
use Rattle.wire_spec.specs.Packets.{has_text}
use Rattle.stream_spec.specs.Ready.{Chunk, chunks}
use Rattle.view_spec.specs.declared.classes.CharClass.{CharClass}
use Rattle.view_spec.specs.declared.classes.CharClass.TheVariants.{Erase, Bell, NewLine, Silent, Marker, Print}
use Rattle.view_spec.specs.Characters.{class_of}
use Rattle.view_spec.specs.Shown.{signs}
use Rattle.view_spec.specs.Views.{printed_line}
use Rattle.command_spec.specs.declared.requests.ReadRequest.{ReadRequest}
use Rattle.command_spec.specs.Reading.{usual_wait, arrivals_of}

-- ---- what a line says

-- a character of this class: in its escape, not at all, or as it is
abbrev pub escaped_as : CharClass → ℕ → List ℕ
escaped_as Erase c = codes "\\b"
escaped_as Bell c = codes "\\a"
escaped_as NewLine c = codes "\\n"
escaped_as Silent c = []
escaped_as Marker c = encode_utf8 c
escaped_as Print c = if c == byte "\\" then codes "\\\\" else encode_utf8 c

abbrev pub escaped_sign : ℕ → List ℕ
escaped_sign c = escaped_as (class_of c) c

-- the text with its escapes, a CR LF being one new line
unfoldable pub escaped : List ℕ → List ℕ
escaped text = flat_map escaped_sign (signs (chars text))

-- ---- the lines

-- a text behind its moment in milliseconds, and nothing where there is no text
abbrev pub moment_line : ℕ → List ℕ → List ℕ
moment_line at text = if has_text text then printed_line (decimal at ++ codes " " ++ text) else []

abbrev pub chunk_line : Chunk → List ℕ
chunk_line c = moment_line c.ready (escaped c.text)

-- what is heard of the source, with its moments
abbrev pub chunks_read : ReadRequest → List ℕ → List Chunk
chunks_read r octets = chunks usual_wait 0 (arrivals_of r octets) r.source

-- a line for each text that is heard of the source, in order
unfoldable pub transcript_view : ReadRequest → List ℕ → List ℕ
transcript_view r octets = flat_map chunk_line (chunks_read r octets)
